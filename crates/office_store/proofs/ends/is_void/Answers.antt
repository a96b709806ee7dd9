use Rattle.std.proofs.Common.{◌≡◌, ◌⊎◌, get_or, inl, inr, ◌<◌, ℕ, false, arith, refl, sym, subst}
use Rattle.poll_book.specs.Tables.{Voids, is_void}
use Rattle.office_store.specs.Ends.{TellsFrom}
use Rattle.office_store.specs.declared.voids.VoidsFrom.{VoidsFrom}
use Rattle.office_store.specs.declared.voids.VoidsFrom.TheVariants.{Here, Later, NoneLeft}
use Rattle.office_store.proofs.Behind.{free, known_end}
use Rattle.office_store.proofs.ends.is_void.Goals as goal

-- so is the slot, where it isn't told that it is voided
told_free : (point slot : ℕ) (voids : Voids) (told : VoidsFrom) → (told ≡ Later) ⊎ (told ≡ NoneLeft) → TellsFrom point slot voids told → false ≡ is_void voids (point, slot)
told_free point slot voids Here (inl is) tells = absurd (cc)
told_free point slot voids Here (inr is) tells = absurd (cc)
told_free point slot voids Later is tells = sym tells
told_free point slot voids NoneLeft is tells = free point slot slot voids tells (omega arith)

pub returns-then-is_behind-clause-value : goal.returns-then-is_behind-clause-value
returns-then-is_behind-clause-value g c clean kept holds ends =
    let known = c.if-is_behind.ensures.0 refl in
    free c.args.point c.args.slot known.0 kept.voids (known_end c.args.ends.now.known.items kept.voids c.args.point known.0 (ends clean) known.1) known.2

pub returns-in-NoneLeft-clause-value : goal.returns-in-NoneLeft-clause-value
returns-in-NoneLeft-clause-value g c clean kept holds ends =
    told_free c.args.point c.args.slot kept.voids c.in_ok-voids_from.field-0 (inr c.in-NoneLeft.is) (c.in_ok-voids_from.ensures.value clean kept holds)

pub returns-in-NoneLeft-clause-same : goal.returns-in-NoneLeft-clause-same
returns-in-NoneLeft-clause-same g c kept holds ends clean =
    let told = subst (TellsFrom c.args.point c.args.slot kept.voids) c.in-NoneLeft.is (c.in_ok-voids_from.ensures.value clean kept holds) in
    λ k d low. c.note_if_near.ensures.within (get_or kept.voids k d).0 (ends (c.voids_from.ensures.keeps.clean clean) k d low) (subst (λ n. (get_or kept.voids k d).0.0 ≡ c.args.point → (get_or kept.voids k d).0.1 < n) (sym c.from.ensures) (told k d low))

pub returns-in-Later-clause-value : goal.returns-in-Later-clause-value
returns-in-Later-clause-value g c clean kept holds ends =
    told_free c.args.point c.args.slot kept.voids c.in_ok-voids_from.field-0 c.in-Later.is (c.in_ok-voids_from.ensures.value clean kept holds)
