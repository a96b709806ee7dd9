-- Runs from steps.
use Rattle.std.proofs.Common.{◌≡◌, Bool, true, false, cond, List, [], ◌∷◌, ◌++◌, length, refl, sym, ap, ◌∙◌, arith, subst}
use Rattle.office_core.specs.declared.event.Event.{Event}
use Rattle.office_core.specs.declared.event.EventAnswer.{EventAnswer}
use Rattle.office_core.specs.History.{Happening, History, after}
use Rattle.office_core.specs.Answers.{answer_of, answers_of}
use Rattle.office_core.specs.Legal.{Legal}
use Rattle.office_core.specs.Standing.{Sees, SeesAll, Goes, Runs, is_store, taken, heard}

after-push : (before : History) (front : List Happening) (last : Happening) → after before (front ++ last ∷ []) ≡ last ∷ after before front
after-push before [] last = refl
after-push before (h ∷ front) last = after-push (h ∷ before) front last

answers-push : (before : History) (front : List Happening) (last : Happening) → answers_of before (front ++ last ∷ []) ≡ answers_of before front ++ answer_of (after before front) last ∷ []
answers-push before [] last = refl
answers-push before (h ∷ front) last = ap (λ l. answer_of before h ∷ l) (answers-push (h ∷ before) front last)

-- what is seen as events and one more
record Split (before : History) (rest : List Happening) (events : List Event) (seen : Event) : Type 0 where
  front : List Happening
  last : Happening
  is : rest ≡ front ++ last ∷ []
  begins : SeesAll before front events
  ends : Sees (after before front) last seen

split : (before : History) (rest : List Happening) (events : List Event) (seen : Event) → SeesAll before rest (events ++ seen ∷ []) → Split before rest events seen
split before [] [] seen s = absurd s
split before [] (e ∷ events) seen s = absurd s
split before (h ∷ []) [] seen s = record { front = []; last = h; is = refl; begins = tt; ends = s.0 }
split before (h ∷ k ∷ rest) [] seen s = absurd s.1
split before (h ∷ rest) (e ∷ events) seen s =
    let r = split (h ∷ before) rest events seen s.1 in
    record { front = h ∷ r.front; last = r.last; is = ap (λ l. h ∷ l) r.is; begins = (s.0, r.begins); ends = r.ends }

pub taken-push : (events : List Event) (told : List EventAnswer) (seen : Event) (a : EventAnswer) → length told ≡ length events
    → taken (events ++ seen ∷ []) (told ++ a ∷ []) ≡ cond (is_store a) (taken events told) (taken events told ++ seen ∷ [])
taken-push [] [] seen a same = refl
taken-push [] (b ∷ told) seen a same = absurd (omega arith)
taken-push (e ∷ events) [] seen a same = absurd (omega arith)
taken-push (e ∷ events) (b ∷ told) seen a same =
    ap (λ l. cond (is_store b) l (e ∷ l)) (taken-push events told seen a (omega arith)) ∙ spread (is_store b) (is_store a)
  where
    spread : (x y : Bool) → cond x (cond y (taken events told) (taken events told ++ seen ∷ [])) (e ∷ cond y (taken events told) (taken events told ++ seen ∷ []))
        ≡ cond y (cond x (taken events told) (e ∷ taken events told)) (cond x (taken events told) (e ∷ taken events told) ++ seen ∷ [])
    spread true true = refl
    spread true false = refl
    spread false true = refl
    spread false false = refl

heard-push : (told : List EventAnswer) (a : EventAnswer) → heard (told ++ a ∷ []) ≡ cond (is_store a) (heard told) (heard told ++ a ∷ [])
heard-push [] a = refl
heard-push (b ∷ told) a = ap (λ l. cond (is_store b) l (b ∷ l)) (heard-push told a) ∙ spread (is_store b) (is_store a)
  where
    spread : (x y : Bool) → cond x (cond y (heard told) (heard told ++ a ∷ [])) (b ∷ cond y (heard told) (heard told ++ a ∷ []))
        ≡ cond y (cond x (heard told) (b ∷ heard told)) (cond x (heard told) (b ∷ heard told) ++ a ∷ [])
    spread true true = refl
    spread true false = refl
    spread false true = refl
    spread false false = refl

pub none_ran : (stands : History → Type 0) → Runs stands stands [] []
none_ran stands before [] s sees legal = (s, refl)
none_ran stands before (h ∷ rest) s sees legal = absurd sees

-- a run goes on by a step
pub one_ran : (first middle last : History → Type 0) (events : List Event) (told : List EventAnswer) (seen : Event) (a : EventAnswer) → length told ≡ length events
    → Runs first middle events told → Goes middle last seen a → Runs first last (events ++ seen ∷ []) (told ++ a ∷ [])
one_ran first middle last events told seen a same runs goes before rest s sees legal = by (is_store a) refl
  where
    by : (b : Bool) → is_store a ≡ b → last (after before rest) × (heard (told ++ a ∷ []) ≡ answers_of before rest)
    by true store =
        let all = subst (SeesAll before rest) (taken-push events told seen a same ∙ ap (λ b. cond b (taken events told) (taken events told ++ seen ∷ [])) store) sees in
        let r = runs before rest s all legal in
        (goes.refused (after before rest) r.0 store, heard-push told a ∙ ap (λ b. cond b (heard told) (heard told ++ a ∷ [])) store ∙ r.1)
    by false store =
        let all = subst (SeesAll before rest) (taken-push events told seen a same ∙ ap (λ b. cond b (taken events told) (taken events told ++ seen ∷ [])) store) sees in
        let p = split before rest (taken events told) seen all in
        let is_after : after before rest ≡ p.last ∷ after before p.front = ap (after before) p.is ∙ after-push before p.front p.last in
        let may = subst Legal is_after legal in
        let r = runs before p.front s p.begins may.2 in
        let g = goes.happened (after before p.front) p.last r.0 may.0 p.ends store in (
          subst last (sym is_after) g.0,
          heard-push told a ∙ ap (λ b. cond b (heard told) (heard told ++ a ∷ [])) store
              ∙ (λ i. r.1 i ++ g.1 i ∷ []) ∙ sym (answers-push before p.front p.last) ∙ ap (answers_of before) (sym p.is),
        )
