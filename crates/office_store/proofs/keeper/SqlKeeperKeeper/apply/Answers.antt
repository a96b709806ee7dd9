use Rattle.std.proofs.Common.{◌≡◌, Err, List, Ok, OnErr, OnOk, Result, false, refl, sym, subst, true, ◌∙◌}
use Rattle.std.specs.Prelude.{is_ok}
use Rattle.sqlite.specs.Held.{state}
use Rattle.poll_book.specs.Tables.{Tables, Within, with_rows}
use Rattle.poll_book.specs.declared.rows.ReadingRow.{ReadingRow}
use Rattle.poll_book.specs.Changes.{applied, as_rows}
use Rattle.office_store.specs.Kept.{Holds, MayLeave}
use Rattle.office_store.specs.Keepers.{IsKeptBy}
use Rattle.office_store.specs.Waiting.{AreRead, HoldsBy}
use Rattle.office_store.specs.Ends.{AreEnds, HasEnds, HasVoidEnds}
use Rattle.office_store.specs.declared.ends.Ends.{Ends}
use Rattle.office_store.proofs.LookedUp.{read_on}
use Rattle.office_store.proofs.keeper.SqlKeeperKeeper.apply.Goals as goal

told_ok : {T E P Q : Type 0} (r told : Result T E) → told ≡ r → (is_ok r ≡ true → P → Q) → OnOk r P → OnOk told Q
told_ok (Ok x) told is f h = rw is (f refl h)
told_ok (Err e) told is f h = rw is tt

told_err : {T E P Q : Type 0} (r told : Result T E) → told ≡ r → (is_ok r ≡ false → P → Q) → OnErr r P → OnErr told Q
told_err (Ok x) told is f h = rw is tt
told_err (Err e) told is f h = rw is (f refl h)

pub returns-clause-ok : goal.returns-clause-ok
returns-clause-ok g c kept held fresh =
    let done = c.apply-written.ensures in
    let new = state g.S.Store c.apply-written.new.connection in
    let after = applied c.args.change.now kept in
    let still : is_ok c.apply-written.result ≡ true → Holds new after → HoldsBy new c.followed.result after × HasEnds new c.follow.new.self.known.items after × HasVoidEnds new c.follow_void.new.self.known.items after =
    λ ok holds.
    let written = c.is_ok-is_written.ensures.value ∙ ok in
    let noted : HoldsBy new c.followed.result after =
    λ clean.
    let read = subst (AreRead kept.points kept.settings) (sym c.take.ensures.value) (held.0 (done.clean clean)).1 in
    let orders = c.followed.ensures.written written kept.points kept.settings fresh.setting read in
    (holds clean, read_on kept.points c.args.change.now.points after.settings c.followed.result orders) in
    let ends : HasEnds new c.follow.new.self.known.items after =
    λ clean.
    subst (λ (rows : List ReadingRow). AreEnds c.follow.new.self.known.items (with_rows (as_rows rows) kept.readings)) c.as_slice.ensures
    (c.follow.ensures.written written kept.readings (held.1 (done.clean clean))) in
    let void_ends : HasVoidEnds new c.follow_void.new.self.known.items after =
    λ clean. c.follow_void.ensures.voided kept.voids (held.2 (done.clean clean)) in
    (noted, ends, void_ends) in
    told_ok c.apply-written.result c.counted.result c.counted.ensures.answer still (done.ok kept (λ before. (held.0 before).0) fresh)

pub returns-clause-err : goal.returns-clause-err
returns-clause-err g c =
    let done = c.apply-written.ensures in
    let old = state g.S.Store c.args.self.now.connection in
    let new = state g.S.Store c.apply-written.new.connection in
    let Both = λ (kept : Tables). HoldsBy new c.followed.result kept × HasEnds new c.follow.new.self.known.items kept × HasVoidEnds new c.follow_void.new.self.known.items kept in
    let still : is_ok c.apply-written.result ≡ false → Within (Holds old) (Holds new) → Within (IsKeptBy c.args.self.now) Both =
    λ failed within kept held.
    let written = c.is_ok-is_written.ensures.value ∙ failed in
    let noted : HoldsBy new c.followed.result kept =
    λ clean.
    let same = c.followed.ensures.same written ∙ c.take.ensures.value in
    (within kept (λ before. (held.0 before).0) clean, subst (AreRead kept.points kept.settings) (sym same) (held.0 (done.clean clean)).1) in
    let ends : HasEnds new c.follow.new.self.known.items kept =
    λ clean. subst (λ (ends : Ends). AreEnds ends.known.items kept.readings) (sym (c.follow.ensures.same written)) (held.1 (done.clean clean)) in
    let void_ends : HasVoidEnds new c.follow_void.new.self.known.items kept =
    λ clean. c.follow_void.ensures.same kept.voids (held.2 (done.clean clean)) in
    (noted, ends, void_ends) in
    told_err c.apply-written.result c.counted.result c.counted.ensures.answer still done.err

pub returns-clause-crash : goal.returns-clause-crash
returns-clause-crash g c clean kept held fresh left may = c.apply-written.ensures.crash clean kept (λ before. (held.0 before).0) fresh left may

pub returns-clause-durable : goal.returns-clause-durable
returns-clause-durable g c clean kept held fresh =
    subst (λ r. OnOk r ((left : Tables) → MayLeave (state g.S.Store c.apply-written.new.connection) left → left ≡ applied c.args.change.now kept)) (sym c.counted.ensures.answer)
    (c.apply-written.ensures.durable clean kept (λ before. (held.0 before).0) fresh)
