-- A refusal that is passed on.
use Rattle.std.proofs.Common.{◌≡◌, Result, Ok, Err, sym, subst}
use Rattle.std.specs.Prelude.{MatchResult, IfErr}
use Rattle.std.specs.Result.{IsErrAnd}

pub err_so : {X E : Type 0} (told : Result X E) (P : X → Type 0) (Q : E → Type 0) (e : E) → IsErrAnd told (λ x. x ≡ e) → Q e → MatchResult told P Q
err_so (Ok x) P Q e is q = absurd is
err_so (Err f) P Q e is q = subst Q (sym is) q

pub caused_so : {X E : Type 0} (told : Result X E) (Q : E → Type 0) (e : E) → IsErrAnd told (λ x. x ≡ e) → Q e → IfErr told Q
caused_so (Ok x) Q e is q = absurd is
caused_so (Err f) Q e is q = subst Q (sym is) q
