-- Of frames one after another, which is the first that answers.
use Rattle.std.proofs.Common.{ℕ, ◌+◌, ◌≡◌, List, [], ◌∷◌, ◌++◌, All, take, drop, sym, ap, ◌∙◌, append_assoc, take-append-drop}
use Rattle.std.proofs.lemmas.List.Elements.{All-append}
use Rattle.mb_pdu.specs.declared.request.Span.{Span}
use Rattle.mb_pdu.specs.declared.reply.Reply.{Reply}
use Rattle.mb_mbap.specs.declared.frame.Frame.{Frame}
use Rattle.line_source.specs.LineSources.{FirstAnswers, IsAnswer, IsOther}

-- the frame at a place is the first that answers
pub answers_first : (query : Frame) (span : Span) (reply : Reply) (frames : List Frame) (i : ℕ) (frame : Frame) → take (i + 1) frames ≡ take i frames ++ frame ∷ []
    → All (IsOther query span) (take i frames) → IsAnswer query span reply frame → FirstAnswers query span reply frames (drop (i + 1) frames)
answers_first query span reply frames i frame more others answer = record {
  skipped = take i frames;
  frame = frame;
  split = sym (take-append-drop (i + 1) frames) ∙ ap (λ l. l ++ drop (i + 1) frames) more ∙ append_assoc (take i frames) (frame ∷ []) (drop (i + 1) frames);
  others = others;
  answer = answer;
}

-- frames that don't answer stand before
pub answers_later : (query : Frame) (span : Span) (reply : Reply) (left before frames : List Frame) → All (IsOther query span) before → FirstAnswers query span reply frames left
    → FirstAnswers query span reply (before ++ frames) left
answers_later query span reply left before frames others first = record {
  skipped = before ++ first.skipped;
  frame = first.frame;
  split = ap (λ l. before ++ l) first.split ∙ sym (append_assoc before first.skipped (first.frame ∷ left));
  others = All-append (IsOther query span) before first.skipped others first.others;
  answer = first.answer;
}
