-- What was heard, piece by piece.
use Rattle.std.proofs.Common.{ℕ, ◌+◌, ◌≡◌, ◌≤◌, List, [], ◌++◌, All, Option, length, arith, sym, ap, ◌∙◌, subst, refl, append_assoc, length-append}
use Rattle.std.proofs.KnownBytes.{Consumes-nil, Consumes-trans}
use Rattle.std.proofs.lemmas.List.{append-nil}
use Rattle.std.proofs.lemmas.List.Elements.{All-append}
use Rattle.std.specs.Io.KnownBytes.{Consumes}
use Rattle.mb_pdu.specs.declared.request.Span.{Span}
use Rattle.mb_pdu.specs.declared.reply.Reply.{Reply}
use Rattle.mb_mbap.specs.declared.fault.FrameFault.{FrameFault}
use Rattle.mb_mbap.specs.declared.frame.Frame.{Frame}
use Rattle.mb_mbap.specs.Feeding.{Adds, StandsFor}
use Rattle.line_source.specs.LineSources.{Completes, FirstAnswers, Hears, HearsReply, IsOther}
use Rattle.line_source.proofs.Skipping.{answers_later}

-- what a piece adds, it completes
pub completes : (old new : Option (List ℕ)) (piece : List ℕ) (frames : List Frame) (fault : Option FrameFault)
    → ((stream : List ℕ) (before : List Frame) → StandsFor old stream before → Adds old stream before piece frames fault new) → Completes old new piece frames
completes old new piece frames fault adds stream before stands =
    let added = adds stream before stands in
    (added.rest, added.splits, added.new_is)

-- a piece was read and fed
pub hears_piece : (told : List Frame → Type 0) (old new unread left : Option (List ℕ)) (piece fed : List ℕ) (frames : List Frame) (fault : Option FrameFault) (count : ℕ) → fed ≡ piece
    → length piece ≡ count → Consumes unread left piece
    → ((stream : List ℕ) (before : List Frame) → StandsFor old stream before → Adds old stream before fed frames fault new) → told frames → Hears told old new unread left count
hears_piece told old new unread left piece fed frames fault count same counted consumed adds told_of = record {
  bytes = piece;
  frames = frames;
  consumed = consumed;
  counted = counted;
  completes = subst (λ b. Completes old new b frames) same (completes old new fed frames fault adds);
  told_of = told_of;
}

-- nothing was heard
pub hears_none : (told : List Frame → Type 0) (held unread : Option (List ℕ)) → told [] → Hears told held held unread unread 0
hears_none told held unread told_of = record {
  bytes = [];
  frames = [];
  consumed = Consumes-nil unread;
  counted = refl;
  completes = λ stream before stands.
      subst (λ s. StandsFor held s (before ++ [])) (sym (append-nil stream)) (subst (StandsFor held stream) (sym (append-nil before)) stands);
  told_of = told_of;
}

-- no frame, so none that isn't so
pub none_among : (P : Frame → Type 0) → All P []
none_among P k d lt = absurd (omega (arith, lt))

-- what was heard has only such frames, whatever is left of them
pub all_told : (P : Frame → Type 0) (held held' unread left : Option (List ℕ)) (after : List Frame) (count : ℕ) → Hears (λ frames. All P frames × (after ≡ [])) held held' unread left count
    → Hears (All P) held held' unread left count
all_told P held held' unread left after count heard = record {
  bytes = heard.bytes;
  frames = heard.frames;
  consumed = heard.consumed;
  counted = heard.counted;
  completes = heard.completes;
  told_of = heard.told_of.0;
}

-- a frame that waited answers
pub hears_waiting : (query : Frame) (span : Span) (reply : Reply) (waiting after : List Frame) (held unread : Option (List ℕ)) → FirstAnswers query span reply waiting after
    → HearsReply query span reply waiting after held held unread unread
hears_waiting query span reply waiting after held unread first = (
  0,
  omega arith,
  hears_none (λ frames. FirstAnswers query span reply (waiting ++ frames) after) held unread
      (subst (λ w. FirstAnswers query span reply w after) (sym (append-nil waiting)) first),
)

module _ (first mid last unread still left : Option (List ℕ)) where
  -- one part after the other
  pub completes_then : (bytes more : List ℕ) (frames later : List Frame) → Completes first mid bytes frames → Completes mid last more later
      → Completes first last (bytes ++ more) (frames ++ later)
  completes_then bytes more frames later one two stream before stands =
      subst (λ s. StandsFor last s (before ++ (frames ++ later))) (append_assoc stream bytes more)
      (subst (λ f. StandsFor last ((stream ++ bytes) ++ more) f) (append_assoc before frames later)
      (two (stream ++ bytes) (before ++ frames) (one stream before stands)))

  pub hears_then : (P Q R : List Frame → Type 0) (m n : ℕ) → ((frames later : List Frame) → P frames → Q later → R (frames ++ later))
      → Hears P first mid unread still m → Hears Q mid last still left n → Hears R first last unread left (m + n)
  hears_then P Q R m n both one two = record {
    bytes = one.bytes ++ two.bytes;
    frames = one.frames ++ two.frames;
    consumed = Consumes-trans unread still left one.bytes two.bytes one.consumed two.consumed;
    counted = length-append one.bytes two.bytes ∙ ap (λ k. k + length two.bytes) one.counted ∙ ap (λ k. m + k) two.counted;
    completes = completes_then one.bytes two.bytes one.frames two.frames one.completes two.completes;
    told_of = both one.frames two.frames one.told_of two.told_of;
  }

  -- another piece, in which no frame answers
  pub hears_others : (P : Frame → Type 0) (m n : ℕ) → Hears (All P) first mid unread still m → Hears (All P) mid last still left n → Hears (All P) first last unread left (m + n)
  hears_others P m n = hears_then (All P) (All P) (All P) m n (All-append P)

  -- another piece, in which a frame answers, as none that waited did
  pub hears_reply : (query : Frame) (span : Span) (reply : Reply) (waiting after : List Frame) (m n : ℕ) → m + n ≤ 65536 → All (IsOther query span) waiting
      → Hears (All (IsOther query span)) first mid unread still m → Hears (λ frames. FirstAnswers query span reply frames after) mid last still left n
      → HearsReply query span reply waiting after first last unread left
  hears_reply query span reply waiting after m n few others one two = (
    m + n,
    few,
    hears_then (All (IsOther query span)) (λ frames. FirstAnswers query span reply frames after) (λ frames. FirstAnswers query span reply (waiting ++ frames) after) m n
        (λ frames later before answers. answers_later query span reply after waiting (frames ++ later) others (answers_later query span reply after frames later before answers)) one two,
  )
