-- What a crash leaves after runs, from steps.
use Rattle.std.proofs.Common.{◌≡◌, Bool, true, false, cond, List, [], ◌∷◌, ◌++◌, length, refl, sym, ap, ◌∙◌, arith, subst}
use Rattle.poll_book.specs.Tables.{Tables}
use Rattle.office_core.specs.declared.event.Event.{Event}
use Rattle.office_core.specs.declared.event.EventAnswer.{EventAnswer}
use Rattle.office_core.specs.History.{Happening, History, tables}
use Rattle.office_core.specs.Leavings.{IsTold, LeavesAll, Leaves, LeftAfter, LeftBy, after_told}
use Rattle.office_core.specs.Legal.{MayHappen}
use Rattle.office_core.specs.Standing.{Goes, Sees, is_store}
use Rattle.office_core.proofs.Newness.{left_within}

-- the history after what was told so
abbrev pub at_last : History → List Happening → List EventAnswer → History
at_last before [] told = before
at_last before (h ∷ rest) [] = before
at_last before (h ∷ rest) (a ∷ told) = at_last (after_told before h a) rest told

-- whatever it stood for, and whatever it sees as these events, it stands for that after them
abbrev pub StandsAll : (History → Type 0) → (History → Type 0) → List Event → List EventAnswer → Type 0
StandsAll first last events told = (before : History) (rest : List Happening) → first before → IsTold before rest events told → last (at_last before rest told)

pub none_stood : (stands : History → Type 0) → StandsAll stands stands [] []
none_stood stands before [] s told = s
none_stood stands before (h ∷ rest) s told = absurd told

pub none_left : (stands : History → Type 0) (may : Tables → Type 0) → LeavesAll stands may may [] []
none_left stands may before [] s told left m = m
none_left stands may before (h ∷ rest) s told left m = absurd told

-- what is told as events and one more
record Split (before : History) (rest : List Happening) (events : List Event) (told : List EventAnswer) (seen : Event) : Type 0 where
  front : List Happening
  last : Happening
  is : rest ≡ front ++ last ∷ []
  paired : length front ≡ length told
  begins : IsTold before front events told
  can : MayHappen (at_last before front told) last
  ends : Sees (at_last before front told) last seen

split : (before : History) (rest : List Happening) (events : List Event) (told : List EventAnswer) (seen : Event) (a : EventAnswer) → length told ≡ length events
    → IsTold before rest (events ++ seen ∷ []) (told ++ a ∷ []) → Split before rest events told seen
split before rest [] (b ∷ told) seen a same t = absurd (omega arith)
split before rest (e ∷ events) [] seen a same t = absurd (omega arith)
split before [] [] [] seen a same t = absurd t
split before (h ∷ []) [] [] seen a same t = record { front = []; last = h; is = refl; paired = refl; begins = tt; can = t.0; ends = t.1 }
split before (h ∷ k ∷ rest) [] [] seen a same t = absurd t.2
split before [] (e ∷ events) (b ∷ told) seen a same t = absurd t
split before (h ∷ rest) (e ∷ events) (b ∷ told) seen a same t =
    let r = split (after_told before h b) rest events told seen a (omega arith) t.2 in
    let paired = r.paired in
    record { front = h ∷ r.front; last = r.last; is = ap (λ l. h ∷ l) r.is; paired = omega (arith, paired); begins = (t.0, t.1, r.begins); can = r.can; ends = r.ends }

at-push : (before : History) (front : List Happening) (told : List EventAnswer) (last : Happening) (a : EventAnswer) → length front ≡ length told
    → at_last before (front ++ last ∷ []) (told ++ a ∷ []) ≡ after_told (at_last before front told) last a
at-push before [] [] last a same = refl
at-push before [] (b ∷ told) last a same = absurd (omega arith)
at-push before (h ∷ front) [] last a same = absurd (omega arith)
at-push before (h ∷ front) (b ∷ told) last a same = at-push (after_told before h b) front told last a (omega arith)

left-push : (before : History) (may : Tables → Type 0) (front : List Happening) (told : List EventAnswer) (last : Happening) (a : EventAnswer) (left : Tables) → length front ≡ length told
    → LeftAfter (LeftBy before may front told) (tables (at_last before front told)) (tables (last ∷ at_last before front told)) (is_store a) left
    → LeftBy before may (front ++ last ∷ []) (told ++ a ∷ []) left
left-push before may [] [] last a left same l = l
left-push before may [] (b ∷ told) last a left same l = absurd (omega arith)
left-push before may (h ∷ front) [] last a left same l = absurd (omega arith)
left-push before may (h ∷ front) (b ∷ told) last a left same l =
    left-push (after_told before h b) (LeftAfter may (tables before) (tables (h ∷ before)) (is_store b)) front told last a left (omega arith) l

module _ (first middle last : History → Type 0) (events : List Event) (told : List EventAnswer) (seen : Event) (a : EventAnswer) (same : length told ≡ length events)
    (stood : StandsAll first middle events told) where
  -- a run goes on by a step
  pub one_stood : Goes middle last seen a → StandsAll first last (events ++ seen ∷ []) (told ++ a ∷ [])
  one_stood goes before rest f t =
      let p = split before rest events told seen a same t in
      let s = stood before p.front f p.begins in
      let at = at_last before p.front told in
      let is : at_last before rest (told ++ a ∷ []) ≡ after_told at p.last a =
      ap (λ r. at_last before r (told ++ a ∷ [])) p.is ∙ at-push before p.front told p.last a p.paired in
      subst last (sym is) (by at p.last s p.can p.ends (is_store a) refl)
    where
      by : (at : History) (h : Happening) → middle at → MayHappen at h → Sees at h seen → (b : Bool) → is_store a ≡ b → last (cond b at (h ∷ at))
      by at h s can sees true store = goes.refused at s store
      by at h s can sees false store = (goes.happened at h s can sees store).0

  -- and so does what a crash leaves
  pub one_left : (may may' may'' : Tables → Type 0) → LeavesAll first may may' events told → Leaves middle may' may'' seen a → LeavesAll first may may'' (events ++ seen ∷ []) (told ++ a ∷ [])
  one_left may may' may'' leaves step before rest f t left m =
      let p = split before rest events told seen a same t in
      let at = at_last before p.front told in
      subst (λ r. LeftBy before may r (told ++ a ∷ []) left) (sym p.is)
      (left-push before may p.front told p.last a left p.paired
      (left_within (LeftBy before may p.front told) may' (tables at) (tables (p.last ∷ at)) (is_store a) (leaves before p.front f p.begins) left
      (step at p.last (stood before p.front f p.begins) p.can p.ends left m)))
