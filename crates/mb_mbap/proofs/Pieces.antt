-- The next bytes of a stream: what they make of the bytes held, and of the frames so far.
use Rattle.std.proofs.Common.{inl, inr, subst, ◌≡◌, ℕ, ◌+◌, ◌≤◌, List, [], ◌∷◌, ◌++◌, length, take, drop, refl, sym, ap, ◌∙◌, arith, Some, append_assoc, All, length-drop, take_all}
use Rattle.std.proofs.lemmas.List.{take-append-drop, append-nil}
use Rattle.std.proofs.Math.Seq.{take-add}
use Rattle.std.proofs.lemmas.List.Elements.{All-push}
use Rattle.std.proofs.lemmas.Grind.{flat_map-append}
use Rattle.std.specs.List.{flat_map}
use Rattle.mb_mbap.specs.declared.frame.Frame.{Frame}
use Rattle.mb_mbap.specs.declared.fault.FrameFault.{FrameFault}
use Rattle.mb_mbap.specs.declared.judging.Step.{Step}
use Rattle.mb_mbap.specs.declared.judging.Step.TheVariants.{More, Whole, Bad}
use Rattle.mb_mbap.specs.Steps.{StepMeans}
use Rattle.mb_mbap.specs.Feeding.{StandsAs, TakeMeans}
use Rattle.mb_mbap.specs.Stream.{spelled, IsFrame, IsOpen, stream_of, wanted, fault_of, Splits}
use Rattle.mb_mbap.proofs.Rests.{open_empty, whole_len, fault_append, frame_taken}

-- a frame that begins the next bytes, where nothing is held
pub first_whole : (next held : List ℕ) (step : Step) (f : Frame) (n : ℕ) → step ≡ Whole f → held ≡ [] → n ≡ 7 + length f.unit → StepMeans next step → TakeMeans held next n step held
first_whole next held step f n is none n-is means =
    let P : Step → Type 0 = λ s. StepMeans next s in
    let R : Step → Type 0 = λ s. StandsAs (held ++ take n next) s held in
    let m : StepMeans next (Whole f) = subst P is means in
    let w : wanted next ≡ 7 + length f.unit = frame_taken next f m.0 m.1 m.2 in
    let at : wanted next ≡ n = omega (arith, w, n-is) in
    let front : spelled f ≡ held ++ take n next = rw (none, ← at) m.1 in
    (omega (arith, n-is), omega (arith, n-is, w, m.2), subst R (sym is) (m.0, front, none))

-- a whole frame is all that was held, and what was taken
pub stands_whole : (held ys xs : List ℕ) (step : Step) (f : Frame) → step ≡ Whole f → IsOpen held → xs ≡ held ++ ys → length (held ++ ys) ≤ wanted held → StepMeans xs step → StandsAs (held ++ ys) step []
stands_whole held ys xs step f is part xs-is most means =
    let P : Step → Type 0 = λ s. StepMeans (held ++ ys) s in
    let Q : List ℕ → Type 0 = λ zs. StepMeans zs step in
    let R : Step → Type 0 = λ s. StandsAs (held ++ ys) s [] in
    let m : StepMeans (held ++ ys) (Whole f) = subst P is (subst Q xs-is means) in
    subst R (sym is) (m.0, m.1 ∙ whole_len held ys part most m.3 m.2, refl)

-- less than a frame is held on
pub stands_more : (held ys xs : List ℕ) (step : Step) → step ≡ More → xs ≡ held ++ ys → StepMeans xs step → StandsAs (held ++ ys) step xs
stands_more held ys xs step is xs-is means =
    let P : Step → Type 0 = λ s. StepMeans xs s in
    let R : Step → Type 0 = λ s. StandsAs (held ++ ys) s xs in
    let part : IsOpen xs = subst P is means in
    subst R (sym is) (xs-is, subst IsOpen xs-is part)

-- a bad header stays one
pub stands_bad : (held ys xs new : List ℕ) (step : Step) (e : FrameFault) → step ≡ Bad e → xs ≡ held ++ ys → StepMeans xs step → StandsAs (held ++ ys) step new
stands_bad held ys xs new step e is xs-is means =
    let P : Step → Type 0 = λ s. StepMeans xs s in
    let R : Step → Type 0 = λ s. StandsAs (held ++ ys) s new in
    let bad : fault_of xs ≡ Some e = subst P is means in
    subst R (sym is) (ap fault_of (sym xs-is) ∙ bad)

-- the next bytes go behind those held
pub more_bytes : (h p s held : List ℕ) (i n : ℕ) → h ++ take i p ≡ s ++ held → h ++ take (i + n) p ≡ s ++ (held ++ take n (drop i p))
more_bytes h p s held i n e =
    let split : take (i + n) p ≡ take i p ++ take n (drop i p) = take-add i n p in
    rw (split, sym (append_assoc h (take i p) (take n (drop i p))), e) (append_assoc s held (take n (drop i p)))

-- what is held becomes a frame
pub one_more_frame : (frames : List Frame) (f : Frame) (held : List ℕ) → spelled f ≡ held → stream_of frames held ≡ stream_of (frames ++ f ∷ []) []
one_more_frame frames f held is =
    rw (flat_map-append spelled frames (f ∷ []), append-nil (spelled f)) (
    rw is (sym (append-nil (flat_map spelled frames ++ held)))
    )

-- behind a bad header everything is rest
pub all_rest : (h p s held : List ℕ) (i : ℕ) → h ++ take i p ≡ s ++ held → h ++ p ≡ s ++ (held ++ drop i p)
all_rest h p s held i e =
    let split : h ++ p ≡ h ++ (take i p ++ drop i p) = rw (take-append-drop i p) refl in
    split ∙ sym (append_assoc h (take i p) (drop i p)) ∙ ap (λ x. x ++ drop i p) e ∙ append_assoc s held (drop i p)

-- ---- the loop over a piece, of which i bytes are taken

pub record IsAt (h p : List ℕ) (frames : List Frame) (held : List ℕ) (i : ℕ) : Type 0 where
  pub within : i ≤ length p
  pub stream : h ++ take i p ≡ stream_of frames held
  pub each : All IsFrame frames
  pub open_part : IsOpen held

pub at_start : (h p : List ℕ) (frames : List Frame) → frames ≡ [] → IsOpen h → IsAt h p frames h 0
at_start h p frames e part =
    let none : All IsFrame [] = λ k d lt. absurd (omega (arith, lt)) in
    record { within = omega arith; stream = rw e (append-nil h); each = rw e none; open_part = part }

-- the bytes taken behind those held, where what is left of the piece is next
taken_behind : (h p : List ℕ) (frames : List Frame) (held next : List ℕ) (i n : ℕ) → IsAt h p frames held i → next ≡ drop i p → h ++ take (i + n) p ≡ stream_of frames (held ++ take n next)
taken_behind h p frames held next i n at next-is = rw next-is (more_bytes h p (flat_map spelled frames) held i n at.stream)

taken_within : (h p : List ℕ) (frames : List Frame) (held next : List ℕ) (i n : ℕ) → IsAt h p frames held i → next ≡ drop i p → n ≤ length next → i + n ≤ length p
taken_within h p frames held next i n at next-is few =
    let l = length-drop i p in
    let e = ap length next-is in
    let w = at.within in
    omega (arith, l, e, w, few)

pub after_more : (h p : List ℕ) (frames : List Frame) (held new next : List ℕ) (i n : ℕ) (step : Step) → IsAt h p frames held i → next ≡ drop i p → step ≡ More → TakeMeans held next n step new → IsAt h p frames new (i + n)
after_more h p frames held new next i n step at next-is is means =
    let P : Step → Type 0 = λ s. StandsAs (held ++ take n next) s new in
    let m : StandsAs (held ++ take n next) More new = subst P is means.2 in
    record {
      within = taken_within h p frames held next i n at next-is means.1;
      stream = rw m.0 (taken_behind h p frames held next i n at next-is);
      each = at.each;
      open_part = rw m.0 m.1;
    }

pub after_whole : (h p : List ℕ) (frames more : List Frame) (held new next : List ℕ) (i n : ℕ) (step : Step) (f : Frame) → IsAt h p frames held i → next ≡ drop i p → step ≡ Whole f → TakeMeans held next n step new → more ≡ frames ++ f ∷ [] → IsAt h p more new (i + n)
after_whole h p frames more held new next i n step f at next-is is means grown =
    let P : Step → Type 0 = λ s. StandsAs (held ++ take n next) s new in
    let m : StandsAs (held ++ take n next) (Whole f) new = subst P is means.2 in
    let stream = taken_behind h p frames held next i n at next-is in
    let whole = one_more_frame frames f (held ++ take n next) m.1 in
    record {
      within = taken_within h p frames held next i n at next-is means.1;
      stream = rw (grown, m.2) (stream ∙ whole);
      each = rw grown (All-push IsFrame frames f at.each m.0);
      open_part = rw m.2 open_empty;
    }

-- a bad header ends it
pub stops_at_bad : (h p : List ℕ) (frames : List Frame) (held new next : List ℕ) (i n : ℕ) (step : Step) (e : FrameFault) → IsAt h p frames held i → next ≡ drop i p → step ≡ Bad e → TakeMeans held next n step new
    → (rest : List ℕ) × Splits (h ++ p) frames rest × (Some e ≡ fault_of rest)
stops_at_bad h p frames held new next i n step e at next-is is means =
    let P : Step → Type 0 = λ s. StandsAs (held ++ take n next) s new in
    let bad : fault_of (held ++ take n next) ≡ Some e = subst P is means.2 in
    let stream = taken_behind h p frames held next i n at next-is in
    let rest = (held ++ take n next) ++ drop (i + n) p in
    let fault : fault_of rest ≡ Some e = fault_append (held ++ take n next) (drop (i + n) p) e bad in (
      rest,
      record {
        whole = all_rest h p (flat_map spelled frames) (held ++ take n next) (i + n) stream;
        each = at.each;
        rest_ok = inr (rw fault refl);
      },
      sym fault,
    )

-- at the end of the piece what is held is the rest
pub ends_at : (h p : List ℕ) (frames : List Frame) (held : List ℕ) (i : ℕ) → IsAt h p frames held i → length p ≤ i → Splits (h ++ p) frames held
ends_at h p frames held i at end =
    let all : take i p ≡ p = take_all i p end in
    record { whole = rw (← all) at.stream; each = at.each; rest_ok = inl at.open_part }
