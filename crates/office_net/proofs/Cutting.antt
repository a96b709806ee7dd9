-- A piece of a round, whole or cut short.
use Rattle.std.proofs.Common.{◌≡◌, ℕ, suc, ◌+◌, ◌*◌, ◌≤◌, true, cond, List, [], ◌∷◌, ◌++◌, length, Option, Some, None, sym, ap, ◌∙◌, subst, arith, append_assoc}
use Rattle.std.specs.Prelude.{All, IsSome, is_some}
use Rattle.std.specs.List.{flat_map}
use Rattle.std.specs.Io.KnownBytes.{Consumes}
use Rattle.std.proofs.lemmas.List.{append-nil, length-append}
use Rattle.mb_mbap.specs.declared.frame.Frame.{Frame}
use Rattle.mb_mbap.specs.declared.fault.FrameFault.{FrameFault}
use Rattle.mb_mbap.specs.Stream.{Splits, IsFrame, fault_of, spelled}
use Rattle.mb_mbap.specs.Feeding.{Adds}
use Rattle.mb_mbap.proofs.Unique.{whole_long}
use Rattle.poll_book.specs.declared.fault.StoreFault.{StoreFault}
use Rattle.office_net.specs.declared.fault.PollFault.{PollFault}
use Rattle.office_net.specs.declared.fault.PollFault.TheVariants as fault
use Rattle.office_net.specs.declared.machine.Poll.{Poll}
use Rattle.office_net.specs.Faults.{IsCaused, IsOfStream}
use Rattle.office_net.specs.Stages.{taken_of}
use Rattle.office_net.specs.Rounds.{BreaksIn, Fed, Takes, Cuts}

-- ---- how many frames

-- a frame has eight bytes and more
frames_long : (frames : List Frame) (rest : List ℕ) → All IsFrame frames → 8 * length frames ≤ length (flat_map spelled frames ++ rest)
frames_long [] rest each = omega arith
frames_long (f ∷ fs) rest each =
    let first : IsFrame f = each 0 f (omega arith) in
    let more = frames_long fs rest (λ k d lt. each (suc k) d (omega (arith, lt))) in
    let long : length ((spelled f ++ flat_map spelled fs) ++ rest) ≡ 7 + length f.unit + length (flat_map spelled fs ++ rest) =
    ap length (append_assoc (spelled f) (flat_map spelled fs) rest) ∙ whole_long f (flat_map spelled fs ++ rest) in
    omega (arith, more, long, first.not_empty)

frames_fit : (stream : List ℕ) (frames : List Frame) (rest : List ℕ) → Splits stream frames rest → 8 * length frames ≤ length stream
frames_fit stream frames rest splits = subst (λ s. 8 * length frames ≤ length s) (sym splits.whole) (frames_long frames rest splits.each)

-- so many frames come of so many bytes at most
pub frames_few : (old : Option (List ℕ)) (poll : Poll) (read : ℕ) (bytes : List ℕ) (frames : List Frame) (piece : List ℕ) (more : List Frame) (bad : Option FrameFault) (new : Option (List ℕ))
    → Fed old poll read bytes frames → Adds old bytes frames piece more bad new → 8 * (taken_of poll + length more) ≤ read + length piece
frames_few old poll read bytes frames piece more bad new fed adds =
    let fit = frames_fit (bytes ++ piece) (frames ++ more) adds.rest adds.splits in
    omega (arith, fit, fed.taken, fed.read_are, length-append bytes piece, length-append frames more)

-- ---- faults of the stream

-- a fault of the line or the store is none of the stream
pub not_of_stream : (line : Type 0) (store : StoreFault → Type 0) (read rest : List ℕ) (e : PollFault) → IsCaused line store e → IsOfStream read rest e
not_of_stream line store read rest fault.Line cause = tt
not_of_stream line store read rest fault.Noise cause = absurd cause
not_of_stream line store read rest (fault.Frames bad) cause = absurd cause
not_of_stream line store read rest (fault.Store f) cause = tt
not_of_stream line store read rest fault.Memory cause = tt
not_of_stream line store read rest fault.Closed cause = tt

-- the fault that is told first is the stream's own
pub first_told : (old : Option (List ℕ)) (bytes : List ℕ) (frames : List Frame) (piece : List ℕ) (more : List Frame) (bad : Option FrameFault) (new : Option (List ℕ))
    → IsSome old → (adds : Adds old bytes frames piece more bad new) → bad ≡ fault_of adds.rest
first_told None bytes frames piece more bad new some adds = absurd (cc)
first_told (Some held) bytes frames piece more bad new some adds = adds.fault_is

-- a stream that can't be read on has a fault
pub ended_told : (old : Option (List ℕ)) (bytes : List ℕ) (frames : List Frame) (piece : List ℕ) (more : List Frame) (bad : Option FrameFault) (new : Option (List ℕ))
    → IsSome old → Adds old bytes frames piece more bad new → new ≡ None → IsSome bad
ended_told old bytes frames piece more bad new some adds ended =
    by (fault_of adds.rest) (first_told old bytes frames piece more bad new some adds) (sym adds.new_is ∙ ended)
  where
    by : (o : Option FrameFault) → bad ≡ o → cond (is_some o) None (Some adds.rest) ≡ None → is_some bad ≡ true
    by None is none = absurd (cc)
    by (Some f) is none = ap is_some is

-- ---- a piece

-- a piece of which nothing was fed
pub cut_unfed : (breaks : List Frame → List Frame → Type 0) (poll : Poll) (stream : Option (List ℕ)) (read : ℕ) (bytes : List ℕ) (frames : List Frame) (unread left : Option (List ℕ)) (unfed : List ℕ) (e : PollFault)
    → Fed stream poll read bytes frames → Consumes unread left unfed → ((rest : List ℕ) → IsOfStream (bytes ++ unfed) rest e) → breaks [] [] → Cuts breaks bytes frames unread left e
cut_unfed breaks poll stream read bytes frames unread left unfed e fed consumed of_stream broken =
    let (rest, splits, _) = fed.frames_are in
    record {
      piece = [];
      unfed = unfed;
      came = [];
      coming = [];
      rest = rest;
      consumed = consumed;
      splits = subst (λ (x : List ℕ × List Frame). Splits x.0 x.1 rest) (λ i. (sym (append-nil bytes) i, sym (append-nil (frames ++ []) ∙ append-nil frames) i)) splits;
      of_stream = of_stream rest;
      broken = broken;
    }

module _ (poll : Poll) (stream after : Option (List ℕ)) (read count : ℕ)
    (bytes : List ℕ) (frames : List Frame) (unread left : Option (List ℕ)) (piece : List ℕ) (more : List Frame) (bad : Option FrameFault)
    (fed : Fed stream poll read bytes frames) (adds : Adds stream bytes frames piece more bad after) (consumed : Consumes unread left piece) where
  -- a piece of whose frames some were taken
  pub cut_in : (breaks : List Frame → List Frame → Type 0) (e : PollFault) (line : Type 0) (store : StoreFault → Type 0) → IsCaused line store e → BreaksIn breaks more → Cuts breaks bytes frames unread left e
  cut_in breaks e line store cause (came, coming, whole, broken) = record {
    piece = piece;
    unfed = [];
    came = came;
    coming = coming;
    rest = adds.rest;
    consumed = subst (Consumes unread left) (sym (append-nil piece)) consumed;
    splits = subst (λ l. Splits (bytes ++ piece) l adds.rest) (ap (λ l. frames ++ l) (sym whole) ∙ sym (append_assoc frames came coming)) adds.splits;
    of_stream = not_of_stream line store (bytes ++ (piece ++ [])) adds.rest e cause;
    broken = broken;
  }

  -- a piece whose frames were all taken, and after which no frame can follow
  pub cut_after : (breaks : List Frame → List Frame → Type 0) (e : PollFault) (f : FrameFault) → e ≡ fault.Frames f → IsSome stream → bad ≡ Some f → breaks more [] → Cuts breaks bytes frames unread left e
  cut_after breaks e f is sound told_so broken = record {
    piece = piece;
    unfed = [];
    came = more;
    coming = [];
    rest = adds.rest;
    consumed = subst (Consumes unread left) (sym (append-nil piece)) consumed;
    splits = subst (λ l. Splits (bytes ++ piece) l adds.rest) (sym (append-nil (frames ++ more))) adds.splits;
    of_stream = subst (IsOfStream (bytes ++ (piece ++ [])) adds.rest) (sym is) (sym (first_told stream bytes frames piece more bad after sound adds) ∙ told_so);
    broken = broken;
  }

  -- a piece whose frames were all taken
  pub takes_whole : (handles : List Frame → Type 0) (new : Poll) → handles more → length piece ≡ count → taken_of new ≡ taken_of poll + length more
      → Takes handles new after (read + count) bytes frames unread left
  takes_whole handles new handled long taken = record {
    piece = piece;
    came = more;
    consumed = consumed;
    fed = record {
      frames_are = (adds.rest, adds.splits, adds.new_is);
      taken = omega (arith, taken, fed.taken, length-append frames more);
      read_are = omega (arith, fed.read_are, long, length-append bytes piece);
    };
    handled = handled;
  }
