-- Events that come to an office one after the other, from those that came before and those that came then.
use Rattle.std.proofs.Common.{◌≡◌, ◌+◌, ℕ, Bool, true, false, cond, List, [], ◌∷◌, ◌++◌, length, refl, sym, ap, ◌∙◌, arith, subst, length-append}
use Rattle.poll_book.specs.Tables.{Tables}
use Rattle.office_core.specs.declared.event.Event.{Event}
use Rattle.office_core.specs.declared.event.Event.TheVariants as event
use Rattle.office_core.specs.declared.event.EventAnswer.{EventAnswer}
use Rattle.mb_mbap.specs.declared.frame.Frame.{Frame}
use Rattle.office_core.specs.History.{Happening, History, after, tables}
use Rattle.office_core.specs.Answers.{answer_of, answers_of}
use Rattle.office_core.specs.Leavings.{IsTold, LeavesAll, Leaves, LeftAfter, LeftBy, after_told}
use Rattle.office_core.specs.Legal.{Legal}
use Rattle.office_core.specs.Standing.{Goes, Runs, SeesAll, heard, is_store, taken}
use Rattle.office_core.proofs.Newness.{left_within}
use Rattle.office_net.specs.Drills.{IsLed, arrivals, at_last}

-- ---- no event, and one

pub led_none : (stands : History → Type 0) (may : Tables → Type 0) → IsLed stands stands may may [] []
led_none stands may = record { each = refl; runs = runs; stands = stood; leaves = left }
  where
    runs : Runs stands stands [] []
    runs before [] s sees legal = (s, refl)
    runs before (h ∷ rest) s sees legal = absurd sees

    stood : (before : History) (rest : List Happening) → stands before → IsTold before rest [] [] → stands (at_last before rest [])
    stood before [] s told = s
    stood before (h ∷ rest) s told = absurd told

    left : LeavesAll stands may may [] []
    left before [] s told l m = m
    left before (h ∷ rest) s told l m = absurd told

module _ (old new : History → Type 0) (might may : Tables → Type 0) (seen : Event) (a : EventAnswer) (goes : Goes old new seen a) (leaves : Leaves old might may seen a) where
  one_runs : Runs old new (seen ∷ []) (a ∷ [])
  one_runs before rest s sees legal = by (is_store a) refl
    where
      came : (rest : List Happening) → SeesAll before rest (seen ∷ []) → Legal (after before rest) → is_store a ≡ false → new (after before rest) × (a ∷ [] ≡ answers_of before rest)
      came [] sees legal fine = absurd sees
      came (h ∷ []) sees legal fine = let g = goes.happened before h s legal.0 sees.0 fine in (g.0, ap (λ x. x ∷ []) g.1)
      came (h ∷ k ∷ rest) sees legal fine = absurd sees.1

      none : (rest : List Happening) → SeesAll before rest [] → is_store a ≡ true → new (after before rest) × ([] ≡ answers_of before rest)
      none [] sees store = (goes.refused before s store, refl)
      none (h ∷ rest) sees store = absurd sees

      by : (b : Bool) → is_store a ≡ b → new (after before rest) × (heard (a ∷ []) ≡ answers_of before rest)
      by true store =
          let r = none rest (subst (λ b. SeesAll before rest (cond b [] (seen ∷ []))) store sees) store in
          (r.0, ap (λ b. cond b [] (a ∷ [])) store ∙ r.1)
      by false fine =
          let r = came rest (subst (λ b. SeesAll before rest (cond b [] (seen ∷ []))) fine sees) legal fine in
          (r.0, ap (λ b. cond b [] (a ∷ [])) fine ∙ r.1)

  one_stands : (before : History) (rest : List Happening) → old before → IsTold before rest (seen ∷ []) (a ∷ []) → new (at_last before rest (a ∷ []))
  one_stands before [] s told = absurd told
  one_stands before (h ∷ k ∷ rest) s told = absurd told.2
  one_stands before (h ∷ []) s told = by (is_store a) refl
    where
      by : (b : Bool) → is_store a ≡ b → new (cond (is_store a) before (h ∷ before))
      by true store = subst (λ b. new (cond b before (h ∷ before))) (sym store) (goes.refused before s store)
      by false fine = subst (λ b. new (cond b before (h ∷ before))) (sym fine) (goes.happened before h s told.0 told.1 fine).0

  one_leaves : LeavesAll old might may (seen ∷ []) (a ∷ [])
  one_leaves before [] s told left m = absurd told
  one_leaves before (h ∷ k ∷ rest) s told left m = absurd told.2
  one_leaves before (h ∷ []) s told left m = leaves before h s told.0 told.1 left m

  pub led_one : IsLed old new might may (seen ∷ []) (a ∷ [])
  led_one = record { each = refl; runs = one_runs; stands = one_stands; leaves = one_leaves }

-- ---- lists that are cut

taken-append : (events more : List Event) (told later : List EventAnswer) → length told ≡ length events → taken (events ++ more) (told ++ later) ≡ taken events told ++ taken more later
taken-append [] more [] later same = refl
taken-append [] more (b ∷ told) later same = absurd (omega arith)
taken-append (e ∷ events) more [] later same = absurd (omega arith)
taken-append (e ∷ events) more (b ∷ told) later same = ap (λ l. cond (is_store b) l (e ∷ l)) (taken-append events more told later (omega arith)) ∙ spread (is_store b)
  where
    spread : (x : Bool) → cond x (taken events told ++ taken more later) (e ∷ (taken events told ++ taken more later)) ≡ cond x (taken events told) (e ∷ taken events told) ++ taken more later
    spread true = refl
    spread false = refl

heard-append : (told later : List EventAnswer) → heard (told ++ later) ≡ heard told ++ heard later
heard-append [] later = refl
heard-append (b ∷ told) later = ap (λ l. cond (is_store b) l (b ∷ l)) (heard-append told later) ∙ spread (is_store b)
  where
    spread : (x : Bool) → cond x (heard told ++ heard later) (b ∷ (heard told ++ heard later)) ≡ cond x (heard told) (b ∷ heard told) ++ heard later
    spread true = refl
    spread false = refl

after-append : (before : History) (front back : List Happening) → after before (front ++ back) ≡ after (after before front) back
after-append before [] back = refl
after-append before (h ∷ front) back = after-append (h ∷ before) front back

answers-append : (before : History) (front back : List Happening) → answers_of before (front ++ back) ≡ answers_of before front ++ answers_of (after before front) back
answers-append before [] back = refl
answers-append before (h ∷ front) back = ap (λ l. answer_of before h ∷ l) (answers-append (h ∷ before) front back)

legal_front : (before : History) (rest : List Happening) → Legal (after before rest) → Legal before
legal_front before [] legal = legal
legal_front before (h ∷ rest) legal = (legal_front (h ∷ before) rest legal).2

record SeenParts (before : History) (rest : List Happening) (events more : List Event) : Type 0 where
  front : List Happening
  back : List Happening
  is : rest ≡ front ++ back
  first : SeesAll before front events
  then : SeesAll (after before front) back more

seen_parts : (before : History) (rest : List Happening) (events more : List Event) → SeesAll before rest (events ++ more) → SeenParts before rest events more
seen_parts before rest [] more sees = record { front = []; back = rest; is = refl; first = tt; then = sees }
seen_parts before [] (e ∷ events) more sees = absurd sees
seen_parts before (h ∷ rest) (e ∷ events) more sees =
    let p = seen_parts (h ∷ before) rest events more sees.1 in
    record { front = h ∷ p.front; back = p.back; is = ap (λ l. h ∷ l) p.is; first = (sees.0, p.first); then = p.then }

record ToldParts (before : History) (rest : List Happening) (events more : List Event) (told later : List EventAnswer) : Type 0 where
  front : List Happening
  back : List Happening
  is : rest ≡ front ++ back
  paired : length front ≡ length told
  first : IsTold before front events told
  then : IsTold (at_last before front told) back more later

told_parts : (before : History) (rest : List Happening) (events more : List Event) (told later : List EventAnswer) → length told ≡ length events
    → IsTold before rest (events ++ more) (told ++ later) → ToldParts before rest events more told later
told_parts before rest [] more [] later same t = record { front = []; back = rest; is = refl; paired = refl; first = tt; then = t }
told_parts before rest [] more (b ∷ told) later same t = absurd (omega arith)
told_parts before rest (e ∷ events) more [] later same t = absurd (omega arith)
told_parts before [] (e ∷ events) more (b ∷ told) later same t = absurd t
told_parts before (h ∷ rest) (e ∷ events) more (b ∷ told) later same t =
    let p = told_parts (after_told before h b) rest events more told later (omega arith) t.2 in
    let paired = p.paired in
    record { front = h ∷ p.front; back = p.back; is = ap (λ l. h ∷ l) p.is; paired = omega (arith, paired); first = (t.0, t.1, p.first); then = p.then }

at-append : (before : History) (front back : List Happening) (told later : List EventAnswer) → length front ≡ length told
    → at_last before (front ++ back) (told ++ later) ≡ at_last (at_last before front told) back later
at-append before [] back [] later same = refl
at-append before [] back (b ∷ told) later same = absurd (omega arith)
at-append before (h ∷ front) back [] later same = absurd (omega arith)
at-append before (h ∷ front) back (b ∷ told) later same = at-append (after_told before h b) front back told later (omega arith)

-- what may be left after the first ones goes on
left-append : (before : History) (may : Tables → Type 0) (front back : List Happening) (told later : List EventAnswer) (left : Tables) → length front ≡ length told
    → LeftBy (at_last before front told) (LeftBy before may front told) back later left → LeftBy before may (front ++ back) (told ++ later) left
left-append before may [] back [] later left same l = l
left-append before may [] back (b ∷ told) later left same l = absurd (omega arith)
left-append before may (h ∷ front) back [] later left same l = absurd (omega arith)
left-append before may (h ∷ front) back (b ∷ told) later left same l =
    left-append (after_told before h b) (LeftAfter may (tables before) (tables (h ∷ before)) (is_store b)) front back told later left (omega arith) l

by_within : (before : History) (may may' : Tables → Type 0) (rest : List Happening) (told : List EventAnswer) → ((left : Tables) → may' left → may left)
    → (left : Tables) → LeftBy before may' rest told left → LeftBy before may rest told left
by_within before may may' [] told within left l = within left l
by_within before may may' (h ∷ rest) [] within left l = within left l
by_within before may may' (h ∷ rest) (b ∷ told) within left l =
    by_within (after_told before h b) (LeftAfter may (tables before) (tables (h ∷ before)) (is_store b)) (LeftAfter may' (tables before) (tables (h ∷ before)) (is_store b)) rest told
    (left_within may may' (tables before) (tables (h ∷ before)) (is_store b) within) left l

-- ---- events and then more

module _ (first middle last : History → Type 0) (may may' may'' : Tables → Type 0) (events more : List Event) (told later : List EventAnswer)
    (one : IsLed first middle may may' events told) (two : IsLed middle last may' may'' more later) where
  then_runs : Runs first last (events ++ more) (told ++ later)
  then_runs before rest s sees legal =
      let p = seen_parts before rest (taken events told) (taken more later) (subst (SeesAll before rest) (taken-append events more told later one.each) sees) in
      let is_after : after before rest ≡ after (after before p.front) p.back = ap (after before) p.is ∙ after-append before p.front p.back in
      let whole = subst Legal is_after legal in
      let r = one.runs before p.front s p.first (legal_front (after before p.front) p.back whole) in
      let q = two.runs (after before p.front) p.back r.0 p.then whole in (
        subst last (sym is_after) q.0,
        heard-append told later ∙ (λ i. r.1 i ++ q.1 i) ∙ sym (answers-append before p.front p.back) ∙ ap (answers_of before) (sym p.is),
      )

  then_stands : (before : History) (rest : List Happening) → first before → IsTold before rest (events ++ more) (told ++ later) → last (at_last before rest (told ++ later))
  then_stands before rest s t =
      let p = told_parts before rest events more told later one.each t in
      let is = ap (λ r. at_last before r (told ++ later)) p.is ∙ at-append before p.front p.back told later p.paired in
      subst last (sym is) (two.stands (at_last before p.front told) p.back (one.stands before p.front s p.first) p.then)

  then_leaves : LeavesAll first may may'' (events ++ more) (told ++ later)
  then_leaves before rest s t left m =
      let p = told_parts before rest events more told later one.each t in
      let at = at_last before p.front told in
      subst (λ r. LeftBy before may r (told ++ later) left) (sym p.is)
      (left-append before may p.front p.back told later left p.paired
      (by_within at (LeftBy before may p.front told) may' p.back later (one.leaves before p.front s p.first) left
      (two.leaves at p.back (one.stands before p.front s p.first) p.then left m)))

  pub led_then : IsLed first last may may'' (events ++ more) (told ++ later)
  led_then = record {
    each = length-append told later ∙ (λ i. one.each i + two.each i) ∙ sym (length-append events more);
    runs = then_runs;
    stands = then_stands;
    leaves = then_leaves;
  }

-- one event more
pub led_on : (first middle last : History → Type 0) (may may' may'' : Tables → Type 0) (events : List Event) (told : List EventAnswer) (seen : Event) (a : EventAnswer)
    → IsLed first middle may may' events told → Goes middle last seen a → Leaves middle may' may'' seen a → IsLed first last may may'' (events ++ seen ∷ []) (told ++ a ∷ [])
led_on first middle last may may' may'' events told seen a one goes leaves =
    led_then first middle last may may' may'' events (seen ∷ []) told (a ∷ []) one (led_one middle last may' may'' seen a goes leaves)

pub arrivals-append : (conn : ℕ) (frames more : List Frame) → arrivals conn (frames ++ more) ≡ arrivals conn frames ++ arrivals conn more
arrivals-append conn [] more = refl
arrivals-append conn (f ∷ frames) more = ap (λ l. event.Arrive conn f ∷ l) (arrivals-append conn frames more)
