-- How SQL compares and sorts numbers.
use Rattle.std.proofs.Common.{◌≡◌, ℕ, pos, [], ◌∷◌, Bool, true, false, None, Some, Option, refl, ap, ◌∙◌, arith, nat_lt, ◌==◌, if◌then◌else◌, option_and_then, option_map}
use Rattle.std.specs.Prelude.{nat_le}
use Rattle.std.specs.declared.cmp.Ordering.{Ordering}
use Rattle.std.specs.declared.cmp.Ordering.TheVariants.{Less, Equal, Greater}
use Rattle.std.specs.Ordering.{is_lt, nat_cmp, int_cmp, ordering_then}
use Rattle.std.proofs.lemmas.Bool.Decides.{nat_tests}
use Rattle.sqlite_value.specs.declared.value.Value.{Value}
use Rattle.sqlite_value.specs.declared.value.Value.TheVariants.{Int}
use Rattle.sqlite_value.specs.declared.keys.Collation.TheVariants.{Binary}
use Rattle.sqlite_value.specs.declared.keys.Key.{Key}
use Rattle.sqlite_value.proofs.OrderLemmas.{value_cmp-Int}
use Rattle.sqlite_sql.specs.declared.ops.BinaryOp.TheVariants.{Compare}
use Rattle.sqlite_sql.specs.declared.ops.CompareOp.{CompareOp}
use Rattle.sqlite_sql.specs.declared.ops.CompareOp.TheVariants.{Eq, Lt, Le, Gt, Ge}
use Rattle.sqlite_sql.specs.Ops.{binary, is_true, from_truth, test}
use Rattle.sqlite_sql.specs.Query.{key_cmp}
use Rattle.office_store.specs.Rows.{number_below}

pub truth_of : (b : Bool) → is_true (from_truth (Some b)) ≡ b
truth_of true = refl
truth_of false = refl

pub ints : (a b : ℕ) → int_cmp (pos a) (pos b) ≡ nat_cmp a b
ints a b = grind (arith, nat_tests)

pub compares : (op : CompareOp) (a b : ℕ) → is_true (binary (Compare op Binary) (Int (pos a)) (Int (pos b))) ≡ test op (nat_cmp a b)
unfolding binary
compares op a b = rw (value_cmp-Int (pos a) (pos b)) (truth_of (test op (int_cmp (pos a) (pos b))) ∙ ap (test op) (ints a b))

pub equals : (a b : ℕ) → test Eq (nat_cmp a b) ≡ (a == b)
equals a b = grind (arith, nat_tests)

pub at_most : (a b : ℕ) → test Le (nat_cmp a b) ≡ nat_le a b
at_most a b = grind (arith, nat_tests)

pub at_least : (a b : ℕ) → test Ge (nat_cmp a b) ≡ nat_le b a
at_least a b = grind (arith, nat_tests)

pub below : (a b : ℕ) → test Lt (nat_cmp a b) ≡ nat_lt a b
below a b = grind (arith, nat_tests)

pub above : (a b : ℕ) → test Gt (nat_cmp a b) ≡ nat_lt b a
above a b = grind (arith, nat_tests)

lt_then : (o : Ordering) → is_lt (ordering_then o Equal) ≡ is_lt o
lt_then Less = refl
lt_then Equal = refl
lt_then Greater = refl

abbrev pub rising : Key
rising = record { collation = Binary; descending = false }

pub sorts : (s t : ℕ) → is_lt (key_cmp 0 (rising ∷ []) (Int (pos s) ∷ []) (Int (pos t) ∷ [])) ≡ is_lt (nat_cmp s t)
sorts s t = rw (value_cmp-Int (pos s) (pos t)) (lt_then (int_cmp (pos s) (pos t)) ∙ ap is_lt (ints s t))

pub number_is : (limit : ℕ) (v : Value) (n : ℕ) → number_below limit v ≡ Some n → v ≡ Int (pos n)
number_is limit (Int (pos m)) n h = elim (nat_lt m limit) as (λ b. (if b then Some m else None) ≡ Some n → Int (pos m) ≡ Int (pos n)) [ true ↦ λ e. cc | false ↦ λ e. absurd (cc) ] h
number_is limit _ n h = absurd (cc)

pub and_then_some : {A B : Type 0} (f : A → Option B) (o : Option A) (y : B) → option_and_then f o ≡ Some y → (x : A) × (o ≡ Some x) × (f x ≡ Some y)
and_then_some f (Some x) y h = (x, refl, h)
and_then_some f None y h = absurd (cc)

pub map_some : {A B : Type 0} (f : A → B) (o : Option A) (y : B) → option_map f o ≡ Some y → (x : A) × (o ≡ Some x) × (f x ≡ y)
map_some f (Some x) y h = (x, refl, cc)
map_some f None y h = absurd (cc)

abbrev pub falling : Key
falling = record { collation = Binary; descending = true }

pub sorts_down : (s t : ℕ) → is_lt (key_cmp 0 (falling ∷ []) (Int (pos s) ∷ []) (Int (pos t) ∷ [])) ≡ is_lt (nat_cmp t s)
sorts_down s t = rw (value_cmp-Int (pos t) (pos s)) (lt_then (int_cmp (pos t) (pos s)) ∙ ap is_lt (ints t s))
