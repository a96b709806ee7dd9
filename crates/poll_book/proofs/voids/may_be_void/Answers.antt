use Rattle.std.proofs.Common.{◌≡◌, ◌≤◌, ℕ, arith, false, Option, None, Some, List, [], ap, sym, subst, inl, inr, ◌<◌, ◌⊎◌}
use Rattle.std.specs.Prelude.{is_some}
use Rattle.std.specs.Option.{MatchOption}
use Rattle.std.specs.Ordering.{is_gt, nat_cmp}
use Rattle.std.specs.Cmp.{nat_cmp_is, nat_cmp_total, tied_itself}
use Rattle.std.specs.declared.cmp.Ordering.TheVariants.{Less, Equal}
use Rattle.std.proofs.lemmas.Bool.{cases_lt}
use Rattle.poll_book.specs.Tables.{Key, key_cmp}
use Rattle.poll_book.proofs.voids.may_be_void.Goals as goal

none_came : {X Y : Type 0} (come : Option X) (all rest : List Y) (P : Type 0) (Q : X → Type 0) → is_some come ≡ false → MatchOption come ((all ≡ []) × P) Q → all ≡ []
none_came None all rest P Q none steps = steps.0
none_came (Some x) all rest P Q none steps = absurd (cc)

up_to : (point low high : ℕ) → low ≤ high → is_gt (key_cmp (point, low) (point, high)) ≡ false
up_to point low high le = rw (tied_itself nat_cmp_total point) (by (cases_lt low high))
  where
    by : (low < high) ⊎ (high ≤ low) → is_gt (nat_cmp low high) ≡ false
    by (inl lt) = ap is_gt (sym (nat_cmp_is low high Less lt))
    by (inr ge) = ap is_gt (sym (nat_cmp_is low high Equal (omega arith)))

pub returns-then-from-to : goal.returns-then-from-to
returns-then-from-to c none slot low high =
    let empty : c.range.result ≡ [] = none_came c.next.result c.range.result c.next.new.self _ _ (cc) c.next.ensures.steps in
    let there = c.range.ensures.in_range c.new.ensures.exhausted in
    let behind = subst (λ (k : Key). is_gt (key_cmp k (c.args.point, slot)) ≡ false) (sym c.new.ensures.start) (up_to c.args.point c.args.from slot low) in
    let before = subst (λ (k : Key). is_gt (key_cmp (c.args.point, slot) k) ≡ false) (sym c.new.ensures.end) (up_to c.args.point slot c.args.to high) in
    ap is_some (there.5 empty (c.args.point, slot) (behind, before))
