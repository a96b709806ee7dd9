use Rattle.std.proofs.Common.{◌≡◌, ◌+◌, ◌≤◌, Result, Ok, Err, IfOk, get_or, set, vec_len, sym, ap, subst, ◌∙◌, arith}
use Rattle.std.specs.Prelude.{Contains, OnOk, map, ◌++◌, ◌∷◌, [], vec_capacity}
use Rattle.std.specs.declared.alloc.AllocError.{AllocError}
use Rattle.std.proofs.lemmas.List.{get_or_default}
use Rattle.std.proofs.lemmas.List.Elements.{All-get_or}
use Rattle.poll_book.specs.declared.history.History.{History}
use Rattle.poll_book.specs.declared.rows.ReadingRow.{ReadingRow}
use Rattle.poll_book.specs.Histories.{point_of, slot_of, IsAt, IsRising, AreSmall, HaveRoom}
use Rattle.poll_book.proofs.Rooms.{ordered_set, points_set, readings_set, room_made}
use Rattle.poll_book.proofs.histories.make_room.Goals as goal

abbrev new : goal.After-histories-1 → History
new c = record { point = c.index_mut.result.now.point; slots = c.reserve.new.self }

here : (c : goal.After-histories-1) → IsAt point_of c.args.histories.now.items c.args.point c.unwrap-place.result
here c =
    subst (λ l. IsAt point_of l c.args.point c.unwrap-place.result) c.deref.ensures.value
    (subst (λ r. IfOk r (IsAt point_of c.deref.result.now c.args.point)) c.unwrap-place.ensures c.history_place.ensures.found)

old_is : (c : goal.After-histories-1) → c.index_mut.result.now ≡ get_or c.args.histories.now.items c.unwrap-place.result (new c)
old_is c = c.index_mut.ensures.value ∙ get_or_default c.args.histories.now.items c.unwrap-place.result c.index_mut.result.now (new c) (here c).in_range

same : (c : goal.After-histories-1) → (new c).point ≡ c.args.point
same c = ap point_of (old_is c) ∙ (here c).same (new c)

pub unwrap-place-requires : goal.unwrap-place-requires
unwrap-place-requires c = c.history_place.ensures.known (subst (λ l. Contains (map point_of l) c.args.point) (sym c.deref.ensures.value) c.requires.made)

pub returns-clause-ordered : goal.returns-clause-ordered
returns-clause-ordered c =
    let hs = c.args.histories.now.items in
    let at = c.unwrap-place.result in
    let rising = All-get_or (λ (h : History). IsRising slot_of h.slots.items) hs at (new c) (here c).in_range c.requires.ordered.slots in
    let small = All-get_or (λ (h : History). AreSmall h.slots.items) hs at (new c) (here c).in_range c.requires.ordered.small in
    let same_slots = sym (c.reserve.ensures.items ∙ ap (λ (h : History). h.slots.items) (old_is c)) in
    ordered_set hs c.args.point at (new c) (here c) (same c) c.requires.ordered (subst (IsRising slot_of) same_slots rising) (subst AreSmall same_slots small)

pub returns-clause-same : goal.returns-clause-same
returns-clause-same c =
    readings_set c.args.histories.now.items c.args.point c.unwrap-place.result (new c) (here c) (same c)
    (c.reserve.ensures.items ∙ ap (λ (h : History). h.slots.items) (old_is c))

pub returns-clause-kept : goal.returns-clause-kept
returns-clause-kept c q had =
    subst (λ ks. Contains ks q) (sym (points_set c.args.histories.now.items c.args.point c.unwrap-place.result (new c) (here c) (same c))) had

pub returns-clause-room : goal.returns-clause-room
returns-clause-room c = by c.reserve.result c.reserve.ensures.ok
  where
    by : (r : Result (Unit {0}) AllocError) → OnOk r (vec_len (new c).slots + (c.count_of-count.result + 1) ≤ vec_capacity (new c).slots)
        → OnOk r ((row : ReadingRow) → row.point ≡ c.args.point → HaveRoom (set c.args.histories.now.items c.unwrap-place.result (new c)) (c.args.rows.now ++ row ∷ []))
    by (Ok u) enough = λ row of_p.
        room_made c.args.histories.now.items c.args.point c.unwrap-place.result (new c) (here c) (same c) c.args.rows.now row of_p c.requires.room
        (omega (arith, enough, c.count_of-count.ensures))
    by (Err e) enough = tt
