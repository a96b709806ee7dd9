-- A text that is parted into its first byte and the rest.
use Rattle.std.proofs.Common.{◌≡◌, ℕ, ◌-◌, ◌≤◌, List, [], ◌∷◌, length, get_or, take, drop, Result, Ok, Err, Some, sym, refl, ap, ◌∙◌, arith}
use Rattle.std.proofs.Math.Seq.{take-length}
use Rattle.std.specs.Result.{IfErr, IsErrAnd}
use Rattle.mb_pdu.specs.declared.error.UnitError.{UnitError}
use Rattle.mb_pdu.specs.declared.request.Request.{Request}
use Rattle.mb_pdu.specs.Checks.{first_fault}

-- the text is its first byte before the rest
pub parted : (bytes : List ℕ) (code : ℕ) → 1 ≤ length bytes → get_or bytes 0 0 ≡ code → bytes ≡ code ∷ take (length bytes - 1) (drop 1 bytes)
parted [] code some is = absurd (omega arith)
parted (x ∷ xs) code some is =
    let len : length (x ∷ xs) - 1 ≡ length xs = omega arith in
    rw (len, take-length xs, is) refl

-- the first check that fails, of the text and so of what `?` returns
pub fault_of : (result : Result Request UnitError) (e : UnitError) (bytes : List ℕ) → IsErrAnd result (λ x. x ≡ e) → first_fault bytes ≡ Some e → IfErr result (λ x. first_fault bytes ≡ Some x)
fault_of (Ok request) e bytes is fault = absurd is
fault_of (Err x) e bytes is fault = fault ∙ ap Some (sym is)
