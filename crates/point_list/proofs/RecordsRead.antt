-- How a text of records is read, one field at a time.
use Rattle.std.proofs.Common.{◌≡◌, ◌+◌, ◌<◌, ◌≤◌, ◌==◌, ◌||◌, ℕ, suc, List, [], ◌∷◌, ◌++◌, take, drop, length, refl, sym, ap, arith, append-nil, append_assoc, Option, Some, None, Bool, true, false, not, ◌∙◌, ◌⊎◌, inl, inr}
use Rattle.std.specs.List.{position, position_or_len}
use Rattle.std.specs.Prelude.{cond, nat_lt}
use Rattle.std.proofs.lemmas.Bool.{eqb-true}
use Rattle.std.proofs.lemmas.List.{length-drop}
use Rattle.csv.specs.Machine.{Read, ends_at_end, field_after, fields_after, in_field, is_end, next_record, start_field, start_record, step}
use Rattle.csv.specs.Reading.{Reached, default_config, records}
use Rattle.csv.specs.declared.parser.Action.{Action}
use Rattle.csv.proofs.ReadFacts.{reached-more}
use Rattle.point_list.proofs.Whole.{all_records}
use Rattle.csv.specs.declared.parser.State.{State}
use Rattle.csv.specs.declared.parser.State.TheVariants as st
use Rattle.point_list.specs.Records.{Taken, behind, ends_field, ends_record, is_quote, next_behind, next_from, taken}

-- what stands before the first byte that passes a test, and what from it on
abbrev before : (ℕ → Bool) → List ℕ → List ℕ
before p [] = []
before p (c ∷ rest) = cond (p c) [] (c ∷ before p rest)

abbrev onward : (ℕ → Bool) → List ℕ → List ℕ
onward p [] = []
onward p (c ∷ rest) = cond (p c) (c ∷ rest) (onward p rest)

one_more : (n : ℕ) → 1 + n ≡ suc n
one_more n = omega arith

before_is : (p : ℕ → Bool) (xs : List ℕ) → take (position_or_len p xs) xs ≡ before p xs
before_is p [] = refl
before_is p (c ∷ rest) = by (p c) (position_or_len p rest) (before_is p rest)
  where
    by : (b : Bool) (n : ℕ) → take n rest ≡ before p rest → take (cond (not b) (1 + n) 0) (c ∷ rest) ≡ cond b [] (c ∷ before p rest)
    by true n more = refl
    by false n more = rw (one_more n, more) refl

onward_is : (p : ℕ → Bool) (xs : List ℕ) → drop (position_or_len p xs) xs ≡ onward p xs
onward_is p [] = refl
onward_is p (c ∷ rest) = by (p c) (position_or_len p rest) (onward_is p rest)
  where
    by : (b : Bool) (n : ℕ) → drop n rest ≡ onward p rest → drop (cond (not b) (1 + n) 0) (c ∷ rest) ≡ cond b (c ∷ rest) (onward p rest)
    by true n more = refl
    by false n more = rw (one_more n) more

-- a field without quotes, up to its end
plain_parts : (fields : List (List ℕ)) (field text : List ℕ)
    → next_from st.InField fields field text ≡ next_behind (fields ++ ((field ++ before ends_field text) ∷ [])) (onward ends_field text)
unfolding next_record next_behind
plain_parts fields field [] = rw (append-nil field) refl
plain_parts fields field (c ∷ rest) = by (c == 44) ((c == 13) || (c == 10)) refl refl (plain_parts fields (field ++ c ∷ []) rest)
  where
    by : (comma line : Bool) → (c == 44) ≡ comma → ((c == 13) || (c == 10)) ≡ line
        → next_from st.InField fields (field ++ c ∷ []) rest ≡ next_behind (fields ++ (((field ++ c ∷ []) ++ before ends_field rest) ∷ [])) (onward ends_field rest)
        → next_from st.InField fields field (c ∷ rest) ≡ next_behind (fields ++ ((field ++ before ends_field (c ∷ rest)) ∷ [])) (onward ends_field (c ∷ rest))
    by true line e f more = rw (e, append-nil field) (rw e refl)
    by false true e f more = rw (e, f, append-nil field) (rw e refl)
    by false false e f more =
        rw (e, f) (more ∙ ap (λ x. next_behind (fields ++ (x ∷ [])) (onward ends_field rest)) (append_assoc field (c ∷ []) (before ends_field rest)))

pub plain_field : (fields : List (List ℕ)) (text : List ℕ) → next_from st.InField fields [] text
    ≡ next_behind (fields ++ (take (position_or_len ends_field text) text ∷ [])) (drop (position_or_len ends_field text) text)
plain_field fields text = rw (before_is ends_field text, onward_is ends_field text) (plain_parts fields [] text)

pub quoted_field : (fields : List (List ℕ)) (field text : List ℕ) → next_from st.InField fields field text
    ≡ next_behind (fields ++ ((field ++ take (position_or_len ends_field text) text) ∷ [])) (drop (position_or_len ends_field text) text)
quoted_field fields field text = rw (before_is ends_field text, onward_is ends_field text) (plain_parts fields field text)

-- the bytes up to the next quote
quoted_parts : (fields : List (List ℕ)) (field text : List ℕ)
    → next_from st.InQuoted fields field text ≡ next_from st.InQuoted fields (field ++ before is_quote text) (onward is_quote text)
unfolding next_record
quoted_parts fields field [] = rw (append-nil field) refl
quoted_parts fields field (c ∷ rest) = by (c == 34) refl (quoted_parts fields (field ++ c ∷ []) rest)
  where
    by : (quote : Bool) → (c == 34) ≡ quote
        → next_from st.InQuoted fields (field ++ c ∷ []) rest ≡ next_from st.InQuoted fields ((field ++ c ∷ []) ++ before is_quote rest) (onward is_quote rest)
        → next_from st.InQuoted fields field (c ∷ rest) ≡ next_from st.InQuoted fields (field ++ before is_quote (c ∷ rest)) (onward is_quote (c ∷ rest))
    by true e more = rw (e, append-nil field) (rw e refl)
    by false e more = rw e (more ∙ ap (λ x. next_from st.InQuoted fields x (onward is_quote rest)) (append_assoc field (c ∷ []) (before is_quote rest)))

quoted_part : (fields : List (List ℕ)) (field text : List ℕ)
    → next_from st.InQuoted fields field text
    ≡ next_from st.InQuoted fields (field ++ take (position_or_len is_quote text) text) (drop (position_or_len is_quote text) text)
quoted_part fields field text = rw (before_is is_quote text, onward_is is_quote text) (quoted_parts fields field text)

-- a text that begins with a byte, and one that doesn't
some_behind : (byte : ℕ) (xs ys : List ℕ) → Some ys ≡ behind byte xs → xs ≡ byte ∷ ys
some_behind byte [] ys e = cc e
some_behind byte (c ∷ rest) ys e = by (c == byte) refl e
  where
    by : (b : Bool) → (c == byte) ≡ b → Some ys ≡ cond b (Some rest) None → c ∷ rest ≡ byte ∷ ys
    by true same e = let is : c ≡ byte = eqb-true c byte same in cc
    by false same e = cc e

none_behind : (byte c : ℕ) (rest : List ℕ) → None ≡ behind byte (c ∷ rest) → (c == byte) ≡ false
none_behind byte c rest e = by (c == byte) e
  where
    by : (b : Bool) → None ≡ cond b (Some rest) None → b ≡ false
    by true e = cc e
    by false e = refl

-- what a closing quote is followed by
quote_twice : (fields : List (List ℕ)) (field xs ys zs : List ℕ) → Some ys ≡ behind 34 xs → Some zs ≡ behind 34 ys
    → next_from st.InQuoted fields field xs ≡ next_from st.InQuoted fields (field ++ 34 ∷ []) zs
unfolding next_record
quote_twice fields field xs ys zs e f = rw (some_behind 34 xs ys e, some_behind 34 ys zs f) refl

after_quote : (fields : List (List ℕ)) (field ys : List ℕ) → None ≡ behind 34 ys → next_from st.InQuoted fields field (34 ∷ ys) ≡ next_from st.InField fields field ys
unfolding next_record
after_quote fields field [] e = refl
after_quote fields field (c ∷ rest) e = rw (none_behind 34 c rest e) refl

quote_once : (fields : List (List ℕ)) (field xs ys : List ℕ) → Some ys ≡ behind 34 xs → None ≡ behind 34 ys
    → next_from st.InQuoted fields field xs ≡ next_from st.InField fields field ys
quote_once fields field xs ys e f = rw (some_behind 34 xs ys e) (after_quote fields field ys f)

-- quotes that the end of the text closes
unquoted : (text : List ℕ) → None ≡ behind 34 (onward is_quote text) → onward is_quote text ≡ []
unquoted [] e = refl
unquoted (c ∷ rest) e = by (c == 34) refl e (unquoted rest)
  where
    by : (b : Bool) → (c == 34) ≡ b → None ≡ behind 34 (cond b (c ∷ rest) (onward is_quote rest))
        → (None ≡ behind 34 (onward is_quote rest) → onward is_quote rest ≡ []) → cond b (c ∷ rest) (onward is_quote rest) ≡ []
    by true same e more = cc (rw same at e)
    by false same e more = more e

no_quote : (fields : List (List ℕ)) (field text xs : List ℕ) → xs ≡ drop (position_or_len is_quote text) text → None ≡ behind 34 xs
    → next_from st.InQuoted fields field xs ≡ next_from st.InField fields field xs
unfolding next_record
no_quote fields field text xs e none =
    let is : xs ≡ onward is_quote text = e ∙ onward_is is_quote text in
    rw (is ∙ unquoted text (rw is at none)) refl

-- a part of a field in quotes, and the text from the next quote on
pub record IsPart (text part xs : List ℕ) : Type 0 where
  pub first : part ≡ take (position_or_len is_quote text) text
  pub rest : xs ≡ drop (position_or_len is_quote text) text

part_read : (fields : List (List ℕ)) (field text part xs : List ℕ) → IsPart text part xs
    → next_from st.InQuoted fields field text ≡ next_from st.InQuoted fields (field ++ part) xs
part_read fields field text part xs h = rw (h.first, h.rest) (quoted_part fields field text)

pub part_shorter : (text part xs : List ℕ) → IsPart text part xs → length xs ≤ length text
part_shorter text part xs h =
    let left = length-drop (position_or_len is_quote text) text in
    let same : length xs ≡ length (drop (position_or_len is_quote text) text) = ap length h.rest in
    omega arith

pub part_open : (fields : List (List ℕ)) (field text part xs : List ℕ) → IsPart text part xs → None ≡ behind 34 xs
    → next_from st.InQuoted fields field text ≡ next_from st.InField fields (field ++ part) xs
part_open fields field text part xs h none = part_read fields field text part xs h ∙ no_quote fields (field ++ part) text xs h.rest none

pub part_closed : (fields : List (List ℕ)) (field text part xs ys : List ℕ) → IsPart text part xs → Some ys ≡ behind 34 xs → None ≡ behind 34 ys
    → next_from st.InQuoted fields field text ≡ next_from st.InField fields (field ++ part) ys
part_closed fields field text part xs ys h some none = part_read fields field text part xs h ∙ quote_once fields (field ++ part) xs ys some none

pub part_doubled : (fields : List (List ℕ)) (field text part xs ys zs : List ℕ) → IsPart text part xs → Some ys ≡ behind 34 xs → Some zs ≡ behind 34 ys
    → next_from st.InQuoted fields field text ≡ next_from st.InQuoted fields ((field ++ part) ++ 34 ∷ []) zs
part_doubled fields field text part xs ys zs h some again = part_read fields field text part xs h ∙ quote_twice fields (field ++ part) xs ys zs some again

-- how a field begins
pub begins_quoted : (fields : List (List ℕ)) (xs ys : List ℕ) → Some ys ≡ behind 34 xs → next_from st.StartField fields [] xs ≡ next_from st.InQuoted fields [] ys
unfolding next_record
begins_quoted fields xs ys e = rw (some_behind 34 xs ys e) refl

pub begins_plain : (fields : List (List ℕ)) (xs : List ℕ) → None ≡ behind 34 xs → next_from st.StartField fields [] xs ≡ next_from st.InField fields [] xs
unfolding next_record
begins_plain fields [] e = refl
begins_plain fields (c ∷ rest) e = rw (none_behind 34 c rest e) refl

-- what stands behind a field
pub behind_comma : (fields : List (List ℕ)) (xs ys : List ℕ) → Some ys ≡ behind 44 xs → next_behind fields xs ≡ next_from st.StartField fields [] ys
unfolding next_behind
behind_comma fields xs ys e = rw (some_behind 44 xs ys e) refl

pub behind_line : (fields : List (List ℕ)) (xs : List ℕ) → None ≡ behind 44 xs → next_behind fields xs ≡ Some (fields, drop 1 xs)
unfolding next_behind
behind_line fields [] e = refl
behind_line fields (c ∷ rest) e = rw (none_behind 44 c rest e) refl

-- where a test first passes, if it does
pub found_at : (p : ℕ → Bool) (xs : List ℕ) (n : ℕ) → position p xs ≡ Some n → position_or_len p xs ≡ n
found_at p xs n e = by (nat_lt (position_or_len p xs) (length xs)) e
  where
    by : (b : Bool) → cond b (Some (position_or_len p xs)) None ≡ Some n → position_or_len p xs ≡ n
    by true e = cc
    by false e = cc e

within : (p : ℕ → Bool) (xs : List ℕ) → position_or_len p xs ≤ length xs
within p [] = omega arith
within p (x ∷ xs) = by (p x) (within p xs)
  where
    by : (b : Bool) → position_or_len p xs ≤ length xs → cond (not b) (1 + position_or_len p xs) 0 ≤ length (x ∷ xs)
    by true h = omega arith
    by false h = omega arith

pub found_nowhere : (p : ℕ → Bool) (xs : List ℕ) → position p xs ≡ None → position_or_len p xs ≡ length xs
found_nowhere p xs e =
    let low = within p xs in
    grind arith

-- a text behind lines that are empty
abbrev pub begun : List ℕ → Option Taken
begun [] = None
begun (c ∷ rest) = next_from st.StartField [] [] (c ∷ rest)

begins : (text : List ℕ) → next_from st.StartRecord [] [] text ≡ begun (onward (λ byte. not (ends_record byte)) text)
unfolding next_record
begins [] = refl
begins (c ∷ rest) = by ((c == 13) || (c == 10)) refl (begins rest)
  where
    by : (b : Bool) → ((c == 13) || (c == 10)) ≡ b
        → next_from st.StartRecord [] [] rest ≡ begun (onward (λ byte. not (ends_record byte)) rest)
        → next_from st.StartRecord [] [] (c ∷ rest) ≡ begun (onward (λ byte. not (ends_record byte)) (c ∷ rest))
    by true e more = rw e more
    by false e more = rw e (rw e refl)

pub starts : (text : List ℕ) → next_from st.StartRecord [] [] text ≡ begun (drop (position_or_len (λ byte. not (ends_record byte)) text) text)
starts text = rw (onward_is (λ byte. not (ends_record byte)) text) (begins text)

pub begun_at : (text : List ℕ) → 0 < length text → begun text ≡ next_from st.StartField [] [] text
begun_at [] h = absurd (omega arith)
begun_at (c ∷ rest) h = refl

-- the states between records
abbrev pub IsBetween : State → Type 0
IsBetween s = (s ≡ st.StartRecord) ⊎ (s ≡ st.AfterCr)

abbrev pub EndsWell : State × Action → Type 0
EndsWell q = is_end q.1 ≡ true → IsBetween q.0

choose : (b : Bool) (x y : State × Action) → EndsWell x → EndsWell y → EndsWell (cond b x y)
choose true x y h k = h
choose false x y h k = k

after_line : (b : Bool) → IsBetween (cond b st.AfterCr st.StartRecord)
after_line true = inr refl
after_line false = inl refl

ends_in_field : (c : ℕ) → EndsWell (in_field default_config c)
ends_in_field c = choose (c == 44) _ _ (λ e. cc e) (choose ((c == 13) || (c == 10)) _ _ (λ e. after_line (c == 13)) (λ e. cc e))

ends_start_field : (c : ℕ) → EndsWell (start_field default_config c)
ends_start_field c = choose (c == 34) _ _ (λ e. cc e) (ends_in_field c)

ends_start_record : (c : ℕ) → EndsWell (start_record default_config c)
ends_start_record c = choose ((c == 13) || (c == 10)) _ _ (λ e. cc e) (ends_start_field c)

ends_well : (s : State) (c : ℕ) → EndsWell (step default_config s c)
ends_well st.StartRecord c = ends_start_record c
ends_well st.StartField c = ends_start_field c
ends_well st.InField c = ends_in_field c
ends_well st.InQuoted c = choose (c == 34) _ _ (λ e. cc e) (λ e. cc e)
ends_well st.InEscape c = λ e. cc e
ends_well st.AfterQuote c = choose (c == 34) _ _ (λ e. cc e) (ends_in_field c)
ends_well st.InComment c = choose (c == 10) _ _ (λ e. cc e) (λ e. cc e)
ends_well st.AfterCr c = choose (c == 10) _ _ (λ e. cc e) (ends_start_record c)

at_the_end : (b : Bool) (fields : List (List ℕ)) (p : Read) → cond b (Some (fields, st.StartRecord, [])) None ≡ Some p → IsBetween p.1
at_the_end true fields p e = let same : (fields, st.StartRecord, []) ≡ p = cc in rw (sym same) (inl refl)
at_the_end false fields p e = cc e

at_byte : (b : Bool) (q p : Read) (o : Option Read) → (b ≡ true → IsBetween q.1) → (o ≡ Some p → IsBetween p.1) → cond b (Some q) o ≡ Some p → IsBetween p.1
at_byte true q p o h k e = let same : q ≡ p = cc in rw same at (h refl)
at_byte false q p o h k e = k e

read_between : (s : State) (fields : List (List ℕ)) (field xs : List ℕ) (p : Read) → next_record default_config s fields field xs ≡ Some p → IsBetween p.1
unfolding next_record
read_between s fields field [] p e = at_the_end (ends_at_end s) _ p e
read_between s fields field (c ∷ xs) p e =
    at_byte (is_end (step default_config s c).1) _ p _ (ends_well s c)
    (read_between (step default_config s c).0 (fields_after (step default_config s c).1 fields field) (field_after (step default_config s c).1 c field) xs p) e

same_after_line : (xs : List ℕ) → next_record default_config st.AfterCr [] [] xs ≡ next_record default_config st.StartRecord [] [] xs
unfolding next_record
same_after_line [] = refl
same_after_line (c ∷ xs) = by (c == 13) (c == 10) refl refl
  where
    by : (a b : Bool) → (c == 13) ≡ a → (c == 10) ≡ b → next_record default_config st.AfterCr [] [] (c ∷ xs) ≡ next_record default_config st.StartRecord [] [] (c ∷ xs)
    by a false e f = rw f refl
    by true true e f = rw (e, f) refl
    by false true e f = rw (e, f) refl

same_between : (s : State) (xs : List ℕ) → IsBetween s → next_record default_config s [] [] xs ≡ next_record default_config st.StartRecord [] [] xs
same_between s xs (inl e) = rw e refl
same_between s xs (inr e) = rw e (same_after_line xs)

-- the records that were read of a text, and what is left of it
abbrev pub HaveRead : List ℕ → List (List (List ℕ)) → List ℕ → Type 0
HaveRead xs rows ys = (s : State) × IsBetween s × Reached default_config st.StartRecord xs rows s ys

pub none_read : (xs : List ℕ) → HaveRead xs [] xs
unfolding Reached
none_read xs = (st.StartRecord, inl refl, (refl, refl))

read_is : (o : Option Read) (fields : List (List ℕ)) (more : List ℕ) → taken o ≡ Some (fields, more) → (p : Read) × (o ≡ Some p) × (p.0 ≡ fields) × (p.2 ≡ more)
read_is None fields more e = cc e
read_is (Some p) fields more e =
    let same : (p.0, p.2) ≡ (fields, more) = cc in
    (p, refl, ap (λ (t : Taken). t.0) same, ap (λ (t : Taken). t.1) same)

nothing_is : (o : Option Read) → taken o ≡ None → o ≡ None
nothing_is None e = refl
nothing_is (Some p) e = cc e

pub more_read : (xs : List ℕ) (rows : List (List (List ℕ))) (ys : List ℕ) (fields : List (List ℕ)) (more : List ℕ)
    → HaveRead xs rows ys → next_from st.StartRecord [] [] ys ≡ Some (fields, more) → HaveRead xs (rows ++ (fields ∷ [])) more
more_read xs rows ys fields more h e =
    let (s, between, reached) = h in
    let (p, next, same, left) = read_is (next_record default_config st.StartRecord [] [] ys) fields more e in
    let further = reached-more default_config st.StartRecord s xs ys rows p reached (same_between s ys between ∙ next) in
    (p.1, read_between st.StartRecord [] [] ys p next, rw (same, left) at further)

pub all_read : (xs : List ℕ) (rows : List (List (List ℕ))) (ys : List ℕ) → HaveRead xs rows ys → next_from st.StartRecord [] [] ys ≡ None → records default_config xs ≡ rows
all_read xs rows ys h e =
    let (s, between, reached) = h in
    all_records default_config xs rows (s, ys, reached, same_between s ys between ∙ nothing_is (next_record default_config st.StartRecord [] [] ys) e)
