-- The query that a transaction names.
use Rattle.std.proofs.Common.{◌≡◌, ◌≢◌, ℕ, zero, suc, ◌+◌, ◌%◌, ◌<◌, ◌≤◌, Bool, true, false, cond, eqb, Some, refl, sym, ap, ◌∙◌, arith, ◌-◌, Option, None}
use Rattle.std.proofs.lemmas.Bool.Decides.{nat_tests}
use Rattle.std.proofs.lemmas.Option.{same_Some}
use Rattle.poll_match.specs.Window.{numbered}

numbered_step : (b : Bool) (t m n : ℕ) → eqb (m % 65536) t ≡ b → n < suc m → suc m ≤ n + 65536 → n % 65536 ≡ t → (n < m → numbered t m ≡ Some n) → cond b (Some m) (numbered t m) ≡ Some n
numbered_step true t m n is below near e rest =
    let same : m % 65536 ≡ t = grind (arith, nat_tests) in
    let at : m ≡ n = omega arith in
    ap Some at
numbered_step false t m n is below near e rest =
    let other : m % 65536 ≢ t = grind (arith, nat_tests) in
    let apart : m ≢ n = λ q. other (ap (λ x. x % 65536) q ∙ e) in
    rest (omega arith)

-- of the last 65,536 queries a transaction names the one with that remainder
pub numbered_at : (t made n : ℕ) → n < made → made ≤ n + 65536 → n % 65536 ≡ t → numbered t made ≡ Some n
numbered_at t zero n below near e = absurd (omega arith)
numbered_at t (suc m) n below near e = numbered_step _ t m n refl below near e (λ lt. numbered_at t m n lt (omega arith) e)

numbered_is_step : (b : Bool) (t m n : ℕ) → eqb (m % 65536) t ≡ b → cond b (Some m) (numbered t m) ≡ Some n
    → (numbered t m ≡ Some n → (n < m) × (m ≤ n + 65536) × (n % 65536 ≡ t)) → (n < suc m) × (suc m ≤ n + 65536) × (n % 65536 ≡ t)
numbered_is_step true t m n is e rest =
    let same : m % 65536 ≡ t = grind (arith, nat_tests) in
    let at : m ≡ n = same_Some m n e in
    (omega arith, omega arith, ap (λ x. x % 65536) (sym at) ∙ same)
numbered_is_step false t m n is e rest =
    let other : m % 65536 ≢ t = grind (arith, nat_tests) in
    let r = rest e in
    let apart : m ≢ n + 65536 = λ q. other (let k : (n + 65536) % 65536 ≡ n % 65536 = omega arith in ap (λ x. x % 65536) q ∙ k ∙ r.2) in
    (omega arith, omega arith, r.2)

pub numbered_is : (t made n : ℕ) → numbered t made ≡ Some n → (n < made) × (made ≤ n + 65536) × (n % 65536 ≡ t)
numbered_is t zero n e = absurd (cc)
numbered_is t (suc m) n e = numbered_is_step _ t m n refl e (λ q. numbered_is t m n q)

-- ---- the query of a transaction, computed from the oldest that is kept
pub numbered_kept : (t made first from : ℕ) → first ≡ made - 65536 → from ≡ t → t < 65536 → first + (from + 65536 - first % 65536) % 65536 < made
    → Some (first + (from + 65536 - first % 65536) % 65536) ≡ numbered t made
numbered_kept t made first from oldest is small lt =
    sym (numbered_at t made (first + (from + 65536 - first % 65536) % 65536) lt (omega arith) (omega arith))

no_number : (t made first from : ℕ) → first ≡ made - 65536 → from ≡ t → t < 65536 → made ≤ first + (from + 65536 - first % 65536) % 65536
    → (o : Option ℕ) → numbered t made ≡ o → None ≡ o
no_number t made first from oldest is small past None e = refl
no_number t made first from oldest is small past (Some n) e = let p = numbered_is t made n e in absurd (omega arith)

pub numbered_none : (t made first from : ℕ) → first ≡ made - 65536 → from ≡ t → t < 65536 → made ≤ first + (from + 65536 - first % 65536) % 65536 → None ≡ numbered t made
numbered_none t made first from oldest is small past = no_number t made first from oldest is small past (numbered t made) refl
