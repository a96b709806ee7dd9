use Rattle.std.proofs.Common.{◌≡◌, refl, ap, sym, subst, ◌∙◌, arith}
use Rattle.std.specs.List.{insert}
use Rattle.poll_book.specs.Histories.{slot_of, slots_of, AreSmall, IsAt, IsGap}
use Rattle.poll_book.proofs.Places.{rising_insert}
use Rattle.poll_book.proofs.Small.{small_set, small_insert}
use Rattle.poll_book.proofs.Puts.{put_over, put_in}
use Rattle.poll_book.proofs.history.History.put.Goals as goal

pub returns-in-Ok-clause-put : goal.returns-in-Ok-clause-put
returns-in-Ok-clause-put c =
    put_over c.args.self.now.point c.args.slot c.args.reading c.args.self.now.slots.items c.in-Ok.place
    (subst (λ l. IsAt slot_of l c.args.slot c.in-Ok.place) c.deref.ensures.value c.in-Ok.ensures.found)

gap : (c : goal.Joined-insert) → IsGap slot_of c.args.self.now.slots.items c.args.slot c.in-Err.place
gap c = subst (λ l. IsGap slot_of l c.args.slot c.in-Err.place) c.deref.ensures.value c.in-Err.ensures.absent

inserted : (c : goal.Joined-insert) → c.insert.new.self.items ≡ insert c.args.self.now.slots.items c.in-Err.place (record { slot = c.args.slot; reading = c.args.reading })
inserted c = let ok = c.insert.ensures.succeeds c.requires.room in let items = c.insert.ensures.items in grind arith

pub returns-in-Err-clause-rising : goal.returns-in-Err-clause-rising
returns-in-Err-clause-rising c =
    rw (inserted c) (rising_insert slot_of c.args.self.now.slots.items c.args.slot c.in-Err.place (gap c) (record { slot = c.args.slot; reading = c.args.reading }) refl c.requires.rising)

pub returns-in-Err-clause-put : goal.returns-in-Err-clause-put
returns-in-Err-clause-put c =
    ap (slots_of c.args.self.now.point) (inserted c)
    ∙ put_in c.args.self.now.point c.args.slot c.args.reading c.args.self.now.slots.items c.in-Err.place (gap c)

pub returns-in-Ok-clause-small : goal.returns-in-Ok-clause-small
returns-in-Ok-clause-small c = small_set c.args.self.now.slots.items c.in-Ok.place (record { slot = c.args.slot; reading = c.args.reading }) (omega arith) c.requires.small

pub returns-in-Err-clause-small : goal.returns-in-Err-clause-small
returns-in-Err-clause-small c =
    subst AreSmall (sym (inserted c)) (small_insert c.args.self.now.slots.items c.in-Err.place (record { slot = c.args.slot; reading = c.args.reading }) (omega arith) c.requires.small)
