-- What a reader stands for, piece by piece.
use Rattle.std.proofs.Common.{Option, inr, ◌≡◌, ℕ, List, ◌++◌, refl, sym, ap, ◌∙◌, Some, None, append_assoc}
use Rattle.std.proofs.lemmas.List.{append-nil}
use Rattle.std.proofs.lemmas.List.Elements.{All-append}
use Rattle.std.proofs.lemmas.Grind.{flat_map-append}
use Rattle.std.specs.List.{flat_map}
use Rattle.std.specs.Prelude.{is_some, if◌then◌else◌}
use Rattle.mb_mbap.specs.declared.frame.Frame.{Frame}
use Rattle.mb_mbap.specs.declared.fault.FrameFault.{FrameFault}
use Rattle.mb_mbap.specs.Stream.{spelled, IsFrame, stream_of, fault_of}
use Rattle.mb_mbap.specs.Feeding.{FeedMeans, StandsFor, Adds}
use Rattle.mb_mbap.proofs.Rests.{fault_append}

abbrev keep : Option FrameFault → List ℕ → Option (List ℕ)
keep o rest = if is_some o then None else Some rest

none_kept : (o : Option FrameFault) (rest : List ℕ) → None ≡ keep o rest → (e : FrameFault) × (o ≡ Some e)
none_kept None rest h = absurd (cc)
none_kept (Some e) rest h = (e, refl)

some_kept : (o : Option FrameFault) (held rest : List ℕ) → Some held ≡ keep o rest → held ≡ rest
some_kept None held rest h = cc
some_kept (Some e) held rest h = absurd (cc)

joined : (before frames : List Frame) (held piece rest : List ℕ) → held ++ piece ≡ stream_of frames rest → stream_of before held ++ piece ≡ stream_of (before ++ frames) rest
joined before frames held piece rest e =
    append_assoc (flat_map spelled before) held piece ∙ ap (λ x. flat_map spelled before ++ x) e
    ∙ sym (append_assoc (flat_map spelled before) (flat_map spelled frames) rest)
    ∙ ap (λ x. x ++ rest) (sym (flat_map-append spelled before frames))

pub feed_adds : (old new : Option (List ℕ)) (piece : List ℕ) (frames : List Frame) (fault : Option FrameFault) (stream : List ℕ) (before : List Frame)
    → FeedMeans old piece frames fault new → StandsFor old stream before → Adds old stream before piece frames fault new
feed_adds None new piece frames fault stream before means stands =
    let rest = stands.0 in
    let e = none_kept (fault_of rest) rest stands.2 in
    let still : fault_of (rest ++ piece) ≡ Some e.0 = fault_append rest piece e.0 e.1 in
    let whole : stream ++ piece ≡ stream_of before (rest ++ piece) =
    ap (λ x. x ++ piece) stands.1.whole ∙ append_assoc (flat_map spelled before) rest piece in record {
      rest = rest ++ piece;
      splits = record {
        whole = rw (means.0, append-nil before) whole;
        each = rw (means.0, append-nil before) stands.1.each;
        rest_ok = inr (rw still refl);
      };
      fault_is = means.1;
      new_is = rw still means.2;
    }
feed_adds (Some held) new piece frames fault stream before means stands =
    let same : held ≡ stands.0 = some_kept (fault_of stands.0) held stands.0 stands.2 in
    let whole : stream ≡ stream_of before held = rw same stands.1.whole in record {
      rest = means.0;
      splits = record {
        whole = ap (λ x. x ++ piece) whole ∙ joined before frames held piece means.0 means.1.whole;
        each = All-append IsFrame before frames stands.1.each means.1.each;
        rest_ok = means.1.rest_ok;
      };
      fault_is = means.2;
      new_is = means.3;
    }
