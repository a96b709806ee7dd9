-- What a crash leaves after many events, in short.
use Rattle.std.proofs.Common.{◌≡◌, ◌⊎◌, inl, inr, ◌∙◌, Bool, true, false, cond, List, [], ◌∷◌, refl, sym, subst}
use Rattle.poll_book.specs.Tables.{Tables, Within}
use Rattle.office_core.specs.declared.event.EventAnswer.{EventAnswer}
use Rattle.office_core.specs.History.{Happening, History, after, tables}
use Rattle.office_core.specs.Leavings.{ChangesNothing, IsOfRefused, LeftAfter, LeftBy, after_told, happened}
use Rattle.office_core.specs.Standing.{is_store}
use Rattle.office_core.proofs.Newness.{left_within}

-- where nothing that happened changed a table, they are what they were
stands_still : (before : History) (rest : List Happening) (told : List EventAnswer) → ChangesNothing before rest told → tables (after before (happened rest told)) ≡ tables before
stands_still before [] told none = refl
stands_still before (h ∷ rest) [] none = refl
stands_still before (h ∷ rest) (a ∷ told) none = by (is_store a) refl none.1 (λ from n. stands_still from rest told n)
  where
    by : (b : Bool) → is_store a ≡ b → ChangesNothing (cond b before (h ∷ before)) rest told
        → ((from : History) → ChangesNothing from rest told → tables (after from (happened rest told)) ≡ tables from)
        → tables (after before (cond b (happened rest told) (h ∷ happened rest told))) ≡ tables before
    by true e n still = still before n
    by false e n still = still (h ∷ before) n ∙ none.0 e

-- the last tables, those of a refused event, or what a crash might leave at first
abbrev Short : History → (Tables → Type 0) → List Happening → List EventAnswer → Tables → Type 0
Short before may rest told left =
    ((left ≡ tables (after before (happened rest told))) ⊎ IsOfRefused before rest told left) ⊎ (may left × ChangesNothing before rest told)

-- the same of one event more, by whether the store refused it
abbrev Whole : History → (Tables → Type 0) → Happening → List Happening → EventAnswer → List EventAnswer → Tables → Bool → Type 0
Whole before may h rest a told left b =
    ((left ≡ tables (after before (cond b (happened rest told) (h ∷ happened rest told))))
    ⊎ (((is_store a ≡ true) × (left ≡ tables (h ∷ before)) × ChangesNothing before rest told) ⊎ IsOfRefused (cond b before (h ∷ before)) rest told left))
    ⊎ (may left × ((is_store a ≡ false → tables (h ∷ before) ≡ tables before) × ChangesNothing (cond b before (h ∷ before)) rest told))

refused_first : (before : History) (may : Tables → Type 0) (h : Happening) (rest : List Happening) (a : EventAnswer) (told : List EventAnswer) (left : Tables) → is_store a ≡ true
    → Short before (LeftAfter may (tables before) (tables (h ∷ before)) true) rest told left → Whole before may h rest a told left true
refused_first before may h rest a told left e (inl (inl is)) = inl (inl is)
refused_first before may h rest a told left e (inl (inr later)) = inl (inr (inr later))
refused_first before may h rest a told left e (inr (inl was, none)) = inr (was, ((λ f. absurd (cc)), none))
refused_first before may h rest a told left e (inr (inr made, none)) = inl (inr (inl (e, made, none)))

happened_first : (before : History) (may : Tables → Type 0) (h : Happening) (rest : List Happening) (a : EventAnswer) (told : List EventAnswer) (left : Tables) → is_store a ≡ false
    → Short (h ∷ before) (LeftAfter may (tables before) (tables (h ∷ before)) false) rest told left → Whole before may h rest a told left false
happened_first before may h rest a told left e (inl (inl is)) = inl (inl is)
happened_first before may h rest a told left e (inl (inr later)) = inl (inr (inr later))
happened_first before may h rest a told left e (inr (inl made, none)) = inl (inl (made ∙ sym (stands_still (h ∷ before) rest told none)))
happened_first before may h rest a told left e (inr (inr same, none)) = inr (same.1, ((λ _. same.0), none))

short : (before : History) (may : Tables → Type 0) (rest : List Happening) (told : List EventAnswer) (left : Tables) → LeftBy before may rest told left → Short before may rest told left
short before may [] told left m = inr (m, tt)
short before may (h ∷ rest) [] left m = inr (m, tt)
short before may (h ∷ rest) (a ∷ told) left m = by (is_store a) refl m (λ from be l. short from be rest told left l)
  where
    by : (b : Bool) → is_store a ≡ b → LeftBy (cond b before (h ∷ before)) (LeftAfter may (tables before) (tables (h ∷ before)) b) rest told left
        → ((from : History) (be : Tables → Type 0) → LeftBy from be rest told left → Short from be rest told left)
        → Whole before may h rest a told left b
    by true e l rest_of = refused_first before may h rest a told left e (rest_of before (LeftAfter may (tables before) (tables (h ∷ before)) true) l)
    by false e l rest_of = happened_first before may h rest a told left e (rest_of (h ∷ before) (LeftAfter may (tables before) (tables (h ∷ before)) false) l)

-- what a crash might leave stays, where nothing that happened changed a table
stays : (before : History) (may : Tables → Type 0) (rest : List Happening) (told : List EventAnswer) (left : Tables) → may left → ChangesNothing before rest told → LeftBy before may rest told left
stays before may [] told left m none = m
stays before may (h ∷ rest) [] left m none = m
stays before may (h ∷ rest) (a ∷ told) left m none = by (is_store a) refl none.1 (λ from be l n. stays from be rest told left l n)
  where
    by : (b : Bool) → is_store a ≡ b → ChangesNothing (cond b before (h ∷ before)) rest told
        → ((from : History) (be : Tables → Type 0) → be left → ChangesNothing from rest told → LeftBy from be rest told left)
        → LeftBy (cond b before (h ∷ before)) (LeftAfter may (tables before) (tables (h ∷ before)) b) rest told left
    by true e n rest_of = rest_of before (LeftAfter may (tables before) (tables (h ∷ before)) true) (inl m) n
    by false e n rest_of = rest_of (h ∷ before) (LeftAfter may (tables before) (tables (h ∷ before)) false) (inr (none.0 e, m)) n

-- the last tables may be left
last_left : (before : History) (may : Tables → Type 0) (rest : List Happening) (told : List EventAnswer) → may (tables before) → LeftBy before may rest told (tables (after before (happened rest told)))
last_left before may [] told m = m
last_left before may (h ∷ rest) [] m = m
last_left before may (h ∷ rest) (a ∷ told) m = by (is_store a) (λ from be l. last_left from be rest told l)
  where
    by : (b : Bool) → ((from : History) (be : Tables → Type 0) → be (tables from) → LeftBy from be rest told (tables (after from (happened rest told))))
        → LeftBy (cond b before (h ∷ before)) (LeftAfter may (tables before) (tables (h ∷ before)) b) rest told (tables (after before (cond b (happened rest told) (h ∷ happened rest told))))
    by true rest_of = rest_of before (LeftAfter may (tables before) (tables (h ∷ before)) true) (inl m)
    by false rest_of = rest_of (h ∷ before) (LeftAfter may (tables before) (tables (h ∷ before)) false) (inl refl)

-- and those of a refused event
refused_left : (before : History) (may : Tables → Type 0) (rest : List Happening) (told : List EventAnswer) (left : Tables) → IsOfRefused before rest told left → LeftBy before may rest told left
refused_left before may [] told left is = absurd is
refused_left before may (h ∷ rest) [] left is = absurd is
refused_left before may (h ∷ rest) (a ∷ told) left is = by (is_store a) refl is (λ from be l. refused_left from be rest told left l)
  where
    by : (b : Bool) → is_store a ≡ b → ((is_store a ≡ true) × (left ≡ tables (h ∷ before)) × ChangesNothing before rest told) ⊎ IsOfRefused (cond b before (h ∷ before)) rest told left
        → ((from : History) (be : Tables → Type 0) → IsOfRefused from rest told left → LeftBy from be rest told left)
        → LeftBy (cond b before (h ∷ before)) (LeftAfter may (tables before) (tables (h ∷ before)) b) rest told left
    by true e (inl this) rest_of = stays before (LeftAfter may (tables before) (tables (h ∷ before)) true) rest told left (inr this.1) this.2
    by false e (inl this) rest_of = let store = this.0 in absurd (cc)
    by true e (inr later) rest_of = rest_of before (LeftAfter may (tables before) (tables (h ∷ before)) true) later
    by false e (inr later) rest_of = rest_of (h ∷ before) (LeftAfter may (tables before) (tables (h ∷ before)) false) later

-- from a history whose tables alone a crash might leave it leaves these alone
pub only_these : (before : History) (rest : List Happening) (told : List EventAnswer) (left : Tables) → LeftBy before (λ kept. kept ≡ tables before) rest told left
    → (left ≡ tables (after before (happened rest told))) ⊎ IsOfRefused before rest told left
only_these before rest told left l = by (short before (λ kept. kept ≡ tables before) rest told left l)
  where
    by : Short before (λ kept. kept ≡ tables before) rest told left → (left ≡ tables (after before (happened rest told))) ⊎ IsOfRefused before rest told left
    by (inl these) = these
    by (inr (is, none)) = inl (is ∙ sym (stands_still before rest told none))

-- and it may leave each of them
pub each_of_these : (before : History) (rest : List Happening) (told : List EventAnswer) (left : Tables)
    → (left ≡ tables (after before (happened rest told))) ⊎ IsOfRefused before rest told left → LeftBy before (λ kept. kept ≡ tables before) rest told left
each_of_these before rest told left (inl is) = subst (LeftBy before (λ kept. kept ≡ tables before) rest told) (sym is) (last_left before (λ kept. kept ≡ tables before) rest told refl)
each_of_these before rest told left (inr refused) = refused_left before (λ kept. kept ≡ tables before) rest told left refused

-- what might leave less at first leaves no more afterwards
pub left_less : (before : History) (may may' : Tables → Type 0) (rest : List Happening) (told : List EventAnswer) → Within may' may → Within (LeftBy before may' rest told) (LeftBy before may rest told)
left_less before may may' [] told within left m = within left m
left_less before may may' (h ∷ rest) [] within left m = within left m
left_less before may may' (h ∷ rest) (a ∷ told) within left m =
    left_less (after_told before h a) (LeftAfter may (tables before) (tables (h ∷ before)) (is_store a)) (LeftAfter may' (tables before) (tables (h ∷ before)) (is_store a)) rest told
    (left_within may may' (tables before) (tables (h ∷ before)) (is_store a) within) left m
