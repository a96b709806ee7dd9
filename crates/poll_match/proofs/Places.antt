-- Places in the list of open connections.
use Rattle.std.proofs.Common.{◌≡◌, ◌≢◌, ℕ, zero, suc, ◌+◌, ◌<◌, ◌≤◌, Bool, true, false, cond, not, eqb, ltb, List, [], ◌∷◌, ◌++◌, length, get_or, set, Some, None, Option, refl, sym, ap, ◌∙◌, arith, subst}
use Rattle.std.specs.Prelude.{find, is_none, ◌&&◌, filter, option_map}
use Rattle.std.specs.Option.{option_or}
use Rattle.std.proofs.lemmas.Option.{same_Some}
use Rattle.std.specs.List.{position_or_len}
use Rattle.std.proofs.lemmas.List.Quantifiers.{position-Some}
use Rattle.std.proofs.lemmas.List.Recursion.{found_at}
use Rattle.std.proofs.lemmas.Bool.{false≢true, eqb-true, eq-eqb, ne_eqb, ltb-false, and_from}
use Rattle.poll_match.specs.Window.{Open, held, place, are_apart, Changes, fresh, closed, line_of}

pub held_at : (conn : ℕ) (all : List Open) (i : ℕ) (d : Open) → place conn all ≡ Some i → (i < length all) × (held conn all ≡ Some (get_or all i d))
held_at conn all i d e =
    let p = position-Some (λ (c : Open). eqb c.number conn) all i d e in
    (p.0, found_at (find (λ (c : Open). eqb c.number conn)) (λ c. eqb c.number conn) Some None refl (λ x xs. refl) all i d p.0 p.2 p.1)

past : (p : Open → Bool) (xs : List Open) → length xs ≤ position_or_len p xs → find p xs ≡ None
past p [] h = refl
past p (x ∷ xs) h = by (p x) refl h (λ le. past p xs le)
  where
    by : (b : Bool) → p x ≡ b → suc (length xs) ≤ cond (not b) (1 + position_or_len p xs) 0 → (length xs ≤ position_or_len p xs → find p xs ≡ None) → cond (p x) (Some x) (find p xs) ≡ None
    by true e h rest = absurd (omega arith)
    by false e h rest = ap (λ b. cond b (Some x) (find p xs)) e ∙ rest (omega arith)

none_of : (b : Bool) (n : ℕ) → cond b (Some n) None ≡ None → b ≡ false
none_of true n e = absurd (cc)
none_of false n e = refl

pub not_held : (conn : ℕ) (all : List Open) → place conn all ≡ None → held conn all ≡ None
not_held conn all e =
    past (λ (c : Open). eqb c.number conn) all (ltb-false _ _ (none_of (ltb (position_or_len (λ (c : Open). eqb c.number conn) all) (length all)) _ e))

-- a connection that is replaced by one of its number
set_that : (conn : ℕ) (all : List Open) (i : ℕ) (new d : Open) → i < length all → new.number ≡ conn
    → ((k : ℕ) → k < i → eqb (get_or all k d).number conn ≡ false) → held conn (set all i new) ≡ Some new
set_that conn [] i new d lt n front = absurd (omega arith)
set_that conn (x ∷ xs) zero new d lt n front = ap (λ b. cond b (Some new) (held conn xs)) (eq-eqb new.number conn n)
set_that conn (x ∷ xs) (suc i) new d lt n front =
    ap (λ b. cond b (Some x) (held conn (set xs i new))) (front 0 (omega arith)) ∙ set_that conn xs i new d (omega arith) n (λ k h. front (suc k) (omega arith))

set_other : (conn other : ℕ) (all : List Open) (i : ℕ) (new d : Open) → i < length all → new.number ≡ conn → (get_or all i d).number ≡ conn → other ≢ conn
    → held other (set all i new) ≡ held other all
set_other conn other [] i new d lt n old apart = absurd (omega arith)
set_other conn other (x ∷ xs) zero new d lt n old apart =
    ap (λ b. cond b (Some new) (held other xs)) (ne_eqb new.number other (λ e. apart (sym e ∙ n)))
    ∙ ap (λ b. cond b (Some x) (held other xs)) (sym (ne_eqb x.number other (λ e. apart (sym e ∙ old))))
set_other conn other (x ∷ xs) (suc i) new d lt n old apart =
    ap (cond (eqb x.number other) (Some x)) (set_other conn other xs i new d (omega arith) n old apart)

-- what stands at a place, and what it is to replace it
pub record Replaced (conn : ℕ) (all : List Open) (i : ℕ) (old new : Open) : Type 0 where
  pub was : held conn all ≡ Some old
  pub is : held conn (set all i new) ≡ Some new
  pub others : (other : ℕ) → other ≢ conn → held other (set all i new) ≡ held other all

pub replaced : (conn : ℕ) (all : List Open) (i : ℕ) (old new : Open) → place conn all ≡ Some i → old ≡ get_or all i old → new.number ≡ old.number → Replaced conn all i old new
replaced conn all i old new e at same =
    let p = position-Some (λ (c : Open). eqb c.number conn) all i old e in
    let h = held_at conn all i old e in
    let number : old.number ≡ conn = ap (λ (c : Open). c.number) at ∙ eqb-true (get_or all i old).number conn p.1 in
    record {
      was = h.1 ∙ ap Some (sym at);
      is = set_that conn all i new old p.0 (same ∙ number) p.2;
      others = λ other apart. set_other conn other all i new old p.0 (same ∙ number) (ap (λ (c : Open). c.number) (sym at) ∙ number) apart;
    }

-- a connection that is replaced changes, and the others stay
pub changes : (conn : ℕ) (change : Option Open → Option Open) (all : List Open) (i : ℕ) (old new : Open) → Replaced conn all i old new → change (Some old) ≡ Some new → Changes conn change all (set all i new)
changes conn change all i old new r is = record { that = r.is ∙ sym is ∙ ap change (sym r.was); others = r.others }

-- ---- connections with numbers of their own
and_both : (a b : Bool) → (a && b) ≡ true → (a ≡ true) × (b ≡ true)
and_both true b e = (refl, e)
and_both false b e = absurd (cc)

none_from : (o : Option Open) → is_none o ≡ true → o ≡ None
none_from None e = refl
none_from (Some c) e = absurd (cc)

held_none : (conn : ℕ) (all : List Open) (i : ℕ) (new d : Open) → i < length all → new.number ≡ (get_or all i d).number → held conn all ≡ None → held conn (set all i new) ≡ None
held_none conn [] i new d lt same none = none
held_none conn (y ∷ ys) zero new d lt same none = ap (λ n. cond (eqb n conn) (Some new) (held conn ys)) same ∙ by (eqb y.number conn) none
  where
    by : (b : Bool) → cond b (Some y) (held conn ys) ≡ None → cond b (Some new) (held conn ys) ≡ None
    by true e = absurd (cc)
    by false e = e
held_none conn (y ∷ ys) (suc i) new d lt same none = by (eqb y.number conn) none (λ e. held_none conn ys i new d (omega arith) same e)
  where
    by : (b : Bool) → cond b (Some y) (held conn ys) ≡ None → (held conn ys ≡ None → held conn (set ys i new) ≡ None) → cond b (Some y) (held conn (set ys i new)) ≡ None
    by true e rest = absurd (cc)
    by false e rest = rest e

apart_set : (all : List Open) (i : ℕ) (new d : Open) → i < length all → new.number ≡ (get_or all i d).number → are_apart all ≡ true → are_apart (set all i new) ≡ true
apart_set [] i new d lt same apart = absurd (omega arith)
apart_set (x ∷ xs) zero new d lt same apart = ap (λ n. is_none (held n xs) && are_apart xs) same ∙ apart
apart_set (x ∷ xs) (suc i) new d lt same apart =
    let p = and_both (is_none (held x.number xs)) (are_apart xs) apart in
    and_from (is_none (held x.number (set xs i new))) (are_apart (set xs i new))
    (ap is_none (held_none x.number xs i new d (omega arith) same (none_from (held x.number xs) p.0)))
    (apart_set xs i new d (omega arith) same p.1)

-- a connection that is replaced by one of its number
pub apart_replaced : (conn : ℕ) (all : List Open) (i : ℕ) (old new : Open) → place conn all ≡ Some i → old ≡ get_or all i old → new.number ≡ old.number → are_apart all ≡ true → are_apart (set all i new) ≡ true
apart_replaced conn all i old new e at same apart =
    apart_set all i new old (held_at conn all i old e).0 (same ∙ ap (λ (c : Open). c.number) at) apart

-- what is kept of a connection
abbrev kept_of : (Open → Bool) → Option Open → Option Open
kept_of p None = None
kept_of p (Some c) = cond (p c) (Some c) None

held_filter_step : (p : Open → Bool) (conn : ℕ) (x : Open) (xs kept : List Open) (k b : Bool) → p x ≡ k → eqb x.number conn ≡ b
    → held conn kept ≡ kept_of p (held conn xs) → (b ≡ true → held conn xs ≡ None)
    → held conn (cond k (x ∷ kept) kept) ≡ kept_of p (cond b (Some x) (held conn xs))
held_filter_step p conn x xs kept true true keeps at rest none = ap (λ c. cond c (Some x) (held conn kept)) at ∙ ap (λ c. cond c (Some x) None) (sym keeps)
held_filter_step p conn x xs kept true false keeps at rest none = ap (λ c. cond c (Some x) (held conn kept)) at ∙ rest
held_filter_step p conn x xs kept false true keeps at rest none = rest ∙ ap (kept_of p) (none refl) ∙ ap (λ c. cond c (Some x) None) (sym keeps)
held_filter_step p conn x xs kept false false keeps at rest none = rest

held_filter : (p : Open → Bool) (conn : ℕ) (all : List Open) → are_apart all ≡ true → held conn (filter p all) ≡ kept_of p (held conn all)
held_filter p conn [] apart = refl
held_filter p conn (x ∷ xs) apart =
    let a = and_both (is_none (held x.number xs)) (are_apart xs) apart in
    held_filter_step p conn x xs (filter p xs) (p x) (eqb x.number conn) refl refl (held_filter p conn xs a.1)
    (λ at. subst (λ n. held n xs ≡ None) (eqb-true x.number conn at) (none_from (held x.number xs) a.0))

apart_filter : (p : Open → Bool) (all : List Open) → are_apart all ≡ true → are_apart (filter p all) ≡ true
apart_filter p [] apart = refl
apart_filter p (x ∷ xs) apart =
    let a = and_both (is_none (held x.number xs)) (are_apart xs) apart in
    let rest = apart_filter p xs a.1 in
    let gone : held x.number (filter p xs) ≡ None = held_filter p x.number xs a.1 ∙ ap (kept_of p) (none_from (held x.number xs) a.0) in
    by (p x) rest gone
  where
    by : (k : Bool) → are_apart (filter p xs) ≡ true → held x.number (filter p xs) ≡ None → are_apart (cond k (x ∷ filter p xs) (filter p xs)) ≡ true
    by true rest gone = and_from (is_none (held x.number (filter p xs))) (are_apart (filter p xs)) (ap is_none gone) rest
    by false rest gone = rest

held_push : (conn : ℕ) (all : List Open) (new : Open) → held conn (all ++ new ∷ []) ≡ option_or (held conn all) (cond (eqb new.number conn) (Some new) None)
held_push conn [] new = refl
held_push conn (x ∷ xs) new = ap (cond (eqb x.number conn) (Some x)) (held_push conn xs new) ∙ by (eqb x.number conn)
  where
    by : (b : Bool) → cond b (Some x) (option_or (held conn xs) (cond (eqb new.number conn) (Some new) None)) ≡ option_or (cond b (Some x) (held conn xs)) (cond (eqb new.number conn) (Some new) None)
    by true = refl
    by false = refl

apart_push : (all : List Open) (new : Open) → held new.number all ≡ None → are_apart all ≡ true → are_apart (all ++ new ∷ []) ≡ true
apart_push [] new none apart = refl
apart_push (x ∷ xs) new none apart =
    let a = and_both (is_none (held x.number xs)) (are_apart xs) apart in
    let parts = apart_cond (eqb x.number new.number) refl none in
    and_from (is_none (held x.number (xs ++ new ∷ []))) (are_apart (xs ++ new ∷ []))
    (ap is_none (held_push x.number xs new ∙ (λ i. option_or (none_from (held x.number xs) a.0 i) (cond (ne_eqb new.number x.number (λ e. parts.0 (sym e)) i) (Some new) None))))
    (apart_push xs new parts.1 a.1)
  where
    apart_cond : (b : Bool) → eqb x.number new.number ≡ b → cond b (Some x) (held new.number xs) ≡ None → (x.number ≢ new.number) × (held new.number xs ≡ None)
    apart_cond true at e = absurd (cc)
    apart_cond false at e = (λ same. false≢true (sym at ∙ eq-eqb x.number new.number same), e)

-- a connection that is closed
pub closes : (conn : ℕ) (all : List Open) → are_apart all ≡ true → Changes conn closed all (filter (λ (on : Open). not (eqb on.number conn)) all)
closes conn all apart = record {
  that = held_filter (λ (on : Open). not (eqb on.number conn)) conn all apart ∙ by all;
  others = λ other far. held_filter (λ (on : Open). not (eqb on.number conn)) other all apart ∙ keep other far all;
}
  where
    by : (all : List Open) → kept_of (λ (on : Open). not (eqb on.number conn)) (held conn all) ≡ None
    by [] = refl
    by (x ∷ xs) = at (eqb x.number conn) refl (by xs)
      where
        at : (b : Bool) → eqb x.number conn ≡ b → kept_of (λ (on : Open). not (eqb on.number conn)) (held conn xs) ≡ None → kept_of (λ (on : Open). not (eqb on.number conn)) (cond b (Some x) (held conn xs)) ≡ None
        at true e rest = ap (λ c. cond (not c) (Some x) None) e
        at false e rest = rest

    keep : (other : ℕ) → other ≢ conn → (all : List Open) → kept_of (λ (on : Open). not (eqb on.number conn)) (held other all) ≡ held other all
    keep other far [] = refl
    keep other far (x ∷ xs) = at (eqb x.number other) refl (keep other far xs)
      where
        at : (b : Bool) → eqb x.number other ≡ b → kept_of (λ (on : Open). not (eqb on.number conn)) (held other xs) ≡ held other xs
            → kept_of (λ (on : Open). not (eqb on.number conn)) (cond b (Some x) (held other xs)) ≡ cond b (Some x) (held other xs)
        at true e rest = ap (λ c. cond (not c) (Some x) None) (ne_eqb x.number conn (λ n. far (sym (eqb-true x.number other e) ∙ n)))
        at false e rest = rest

pub apart_closed : (conn : ℕ) (all : List Open) → are_apart all ≡ true → are_apart (filter (λ (on : Open). not (eqb on.number conn)) all) ≡ true
apart_closed conn all apart = apart_filter (λ (on : Open). not (eqb on.number conn)) all apart

-- a connection that is opened
pub opens : (conn line : ℕ) (all : List Open) → held conn all ≡ None → Changes conn (fresh conn line) all (all ++ record { number = conn; line = line; made = 0; last = [] } ∷ [])
opens conn line all none =
    let new : Open = record { number = conn; line = line; made = 0; last = [] } in
    record {
      that = held_push conn all new ∙ (λ i. option_or (none i) (cond (eq-eqb conn conn refl i) (Some new) None));
      others = λ other far. held_push other all new ∙ (λ i. option_or (held other all) (cond (ne_eqb conn other (λ e. far (sym e)) i) (Some new) None)) ∙ or_none (held other all);
    }
  where
    or_none : (o : Option Open) → option_or o None ≡ o
    or_none None = refl
    or_none (Some x) = refl

pub apart_opened : (conn line : ℕ) (all : List Open) → held conn all ≡ None → are_apart all ≡ true → are_apart (all ++ record { number = conn; line = line; made = 0; last = [] } ∷ []) ≡ true
apart_opened conn line all none apart = apart_push all (record { number = conn; line = line; made = 0; last = [] }) none apart

-- the place of a connection that is held
pub held_place : (conn : ℕ) (all : List Open) (line : ℕ) → line_of (held conn all) ≡ Some line
    → (k : ℕ) × (d : Open) × (k < length all) × ((get_or all k d).line ≡ line) × ((get_or all k d).number ≡ conn)
held_place conn [] line e = absurd (cc)
held_place conn (x ∷ xs) line e = by (eqb x.number conn) refl e (λ h. held_place conn xs line h)
  where
    by : (b : Bool) → eqb x.number conn ≡ b → option_map (λ (on : Open). on.line) (cond b (Some x) (held conn xs)) ≡ Some line
        → (line_of (held conn xs) ≡ Some line → (k : ℕ) × (d : Open) × (k < length xs) × ((get_or xs k d).line ≡ line) × ((get_or xs k d).number ≡ conn))
        → (k : ℕ) × (d : Open) × (k < suc (length xs)) × ((get_or (x ∷ xs) k d).line ≡ line) × ((get_or (x ∷ xs) k d).number ≡ conn)
    by true at e rest = (0, x, omega arith, same_Some x.line line e, eqb-true x.number conn at)
    by false at e rest = let p = rest e in (suc p.0, p.1, omega (arith, p.2), p.3, p.4)

-- what stands at a place is held under its number
pub place_held : (all : List Open) (k : ℕ) (d : Open) → k < length all → are_apart all ≡ true → held (get_or all k d).number all ≡ Some (get_or all k d)
place_held [] k d lt apart = absurd (omega arith)
place_held (x ∷ xs) zero d lt apart = ap (λ b. cond b (Some x) (held x.number xs)) (eq-eqb x.number x.number refl)
place_held (x ∷ xs) (suc k) d lt apart =
    let a = and_both (is_none (held x.number xs)) (are_apart xs) apart in
    let rest = place_held xs k d (omega arith) a.1 in
    by (eqb x.number (get_or xs k d).number) refl rest (none_from (held x.number xs) a.0)
  where
    by : (b : Bool) → eqb x.number (get_or xs k d).number ≡ b → held (get_or xs k d).number xs ≡ Some (get_or xs k d) → held x.number xs ≡ None
        → cond b (Some x) (held (get_or xs k d).number xs) ≡ Some (get_or xs k d)
    by true at rest none =
        let same : held x.number xs ≡ held (get_or xs k d).number xs = ap (λ n. held n xs) (eqb-true x.number (get_or xs k d).number at) in
        absurd (cc)
    by false at rest none = rest
