-- What stands for an option, with an error where there is nothing.
use Rattle.std.proofs.Common.{◌≡◌, Option, None, Some, ap, refl, sym}
use Rattle.std.specs.Prelude.{Err, Ok}
use Rattle.std.specs.Option.{ok_or}

pub none_or : {A E : Type 0} (o : Option A) (e x : E) → Err x ≡ ok_or o e → (o ≡ None) × (x ≡ e)
none_or None e x is = (refl, cc)
none_or (Some a) e x is = absurd (cc)

pub some_or : {A E : Type 0} (o : Option A) (e : E) (x : A) → Ok x ≡ ok_or o e → o ≡ Some x
some_or None e x is = absurd (cc)
some_or (Some a) e x is = let same : x ≡ a = cc in ap Some (sym same)
