-- A frame that comes is a reply to the query that it answers, or noise, which is refused.
use Rattle.std.proofs.Common.{◌≡◌, ◌⊎◌, ℕ, Bool, true, false, cond, not, List, ◌∷◌, length, Some, None, Option, refl, sym, ap, ◌∙◌, inl, inr, ⊎_elim}
use Rattle.std.specs.Prelude.{slice_get, is_none, ◌&&◌, ◌||◌, ◌==◌}
use Rattle.std.proofs.lemmas.Bool.{eq-eqb, eqb-true}
use Rattle.mb_mbap.specs.declared.frame.Frame.{Frame}
use Rattle.poll_match.specs.Window.{numbered}
use Rattle.office_core.specs.declared.error.OfficeError.{OfficeError}
use Rattle.office_core.specs.declared.error.OfficeError.TheVariants as error
use Rattle.office_core.specs.declared.event.EventAnswer.{EventAnswer}
use Rattle.office_core.specs.declared.event.EventAnswer.TheVariants as answer
use Rattle.office_core.specs.Queries.{Query, fits, unit_id_of}
use Rattle.office_core.specs.History.{Reply, Noise, History, open_line, asked, is_answered, fits_query, readings, points}
use Rattle.office_core.specs.Answers.{answer_of, unit_answer, number_answer, query_answer, reply_frame}
use Rattle.office_core.specs.Legal.{frame_answers}
use Rattle.office_core.specs.Messages.{answering, naming, arriving_over, arriving}

-- ---- replies

-- a reply is answered as a repeat where its query was answered before, and else by what it brings
pub reply_told : (now : History) (conn n : ℕ) (unit : List ℕ) (q : Query) → slice_get (asked now conn) n ≡ Some q → fits q unit ≡ true
    → answer_of now (Reply conn n unit) ≡ cond (is_answered now conn n) (answer.Refused error.Repeat) (unit_answer (readings now) (points now) q unit)
reply_told now conn n unit q query fit =
    ap (λ (o : Option Query). query_answer (readings now) (points now) (is_answered now conn n) o (reply_frame n o unit)) query
    ∙ ap (λ b. cond (not b) (answer.Refused error.WrongUnit) (cond (is_answered now conn n) (answer.Refused error.Repeat) (cond (not (fits q unit)) (answer.Refused error.WrongReply) (unit_answer (readings now) (points now) q unit)))) (eq-eqb (unit_id_of q) (unit_id_of q) refl)
    ∙ ap (λ b. cond (is_answered now conn n) (answer.Refused error.Repeat) (cond (not b) (answer.Refused error.WrongReply) (unit_answer (readings now) (points now) q unit))) fit

-- after it that query is answered too
pub answered_by : (now : History) (conn n : ℕ) (unit : List ℕ) (q : Query) (x : ℕ) → slice_get (asked now conn) n ≡ Some q → fits q unit ≡ true
    → is_answered (Reply conn n unit ∷ now) conn x ≡ ((n == x) || is_answered now conn x)
answered_by now conn n unit q x query fit =
    ap (λ b. (b && ((n == x) && fits_query (slice_get (asked now conn) x) unit)) || is_answered now conn x) (eq-eqb conn conn refl) ∙ by (n == x) refl
  where
    by : (b : Bool) → (n == x) ≡ b → ((b && fits_query (slice_get (asked now conn) x) unit) || is_answered now conn x) ≡ (b || is_answered now conn x)
    by true is = ap (λ f. f || is_answered now conn x) (ap (λ k. fits_query (slice_get (asked now conn) k) unit) (sym (eqb-true n x is)) ∙ ap (λ o. fits_query o unit) query ∙ fit)
    by false is = refl

-- ---- what a frame is told as

pub record IsReply (now : History) (conn : ℕ) (frame : Frame) : Type 0 where
  pub number : ℕ
  pub query : Query
  pub is : arriving now conn frame ≡ Reply conn number frame.unit
  pub numbered_so : numbered frame.transaction (length (asked now conn)) ≡ Some number
  pub query_is : slice_get (asked now conn) number ≡ Some query
  pub fits_it : fits query frame.unit ≡ true

pub record IsOther (now : History) (conn : ℕ) (frame : Frame) : Type 0 where
  pub fault : OfficeError
  pub is : arriving now conn frame ≡ Noise conn frame
  pub told : answer_of now (Noise conn frame) ≡ answer.Refused fault

-- an answer that refuses
abbrev Refuses : EventAnswer → Type 0
Refuses told = (fault : OfficeError) × (told ≡ answer.Refused fault)

-- a frame that doesn't answer the query that it names is refused
unfit : (u a f : Bool) (told : EventAnswer) → (u && f) ≡ false
    → Refuses (cond (not u) (answer.Refused error.WrongUnit) (cond a (answer.Refused error.Repeat) (cond (not f) (answer.Refused error.WrongReply) told)))
unfit false a f told off = (error.WrongUnit, refl)
unfit true true f told off = (error.Repeat, refl)
unfit true false false told off = (error.WrongReply, refl)
unfit true false true told off = absurd (cc)

module _ (now : History) (conn : ℕ) (frame : Frame) where
  by_answers : (line n : ℕ) (q : Query) → open_line now conn ≡ Some line → numbered frame.transaction (length (asked now conn)) ≡ Some n
      → slice_get (asked now conn) n ≡ Some q → (b : Bool) → frame_answers q frame ≡ b → IsReply now conn frame ⊎ IsOther now conn frame
  by_answers line n q opened number query true holds = inl (record {
    number = n;
    query = q;
    is = ap (arriving_over now conn frame) opened ∙ ap (naming now conn frame) number ∙ ap (answering conn frame n) query ∙ ap (λ b. cond b (Reply conn n frame.unit) (Noise conn frame)) holds;
    numbered_so = number;
    query_is = query;
    fits_it = fit (frame.unit_id == unit_id_of q) holds;
  })
    where
      fit : (u : Bool) → (u && fits q frame.unit) ≡ true → fits q frame.unit ≡ true
      fit true is = is
      fit false is = absurd (cc)
  by_answers line n q opened number query false fails =
      let refused = unfit (frame.unit_id == unit_id_of q) (is_answered now conn n) (fits q frame.unit) (unit_answer (readings now) (points now) q frame.unit) fails in
      inr (record {
        fault = refused.0;
        is = ap (arriving_over now conn frame) opened ∙ ap (naming now conn frame) number ∙ ap (answering conn frame n) query ∙ ap (λ b. cond b (Reply conn n frame.unit) (Noise conn frame)) fails;
        told = ap (λ (o : Option ℕ). cond (is_none o) (answer.Refused error.NoConnection) (number_answer now conn (numbered frame.transaction (length (asked now conn))) frame)) opened
            ∙ ap (λ o. number_answer now conn o frame) number
            ∙ ap (λ o. query_answer (readings now) (points now) (is_answered now conn n) o frame) query ∙ refused.1;
      })

  by_query : (line n : ℕ) → open_line now conn ≡ Some line → numbered frame.transaction (length (asked now conn)) ≡ Some n
      → (o : Option Query) → slice_get (asked now conn) n ≡ o → IsReply now conn frame ⊎ IsOther now conn frame
  by_query line n opened number None none = inr (record {
    fault = error.NoQuery;
    is = ap (arriving_over now conn frame) opened ∙ ap (naming now conn frame) number ∙ ap (answering conn frame n) none;
    told = ap (λ (o : Option ℕ). cond (is_none o) (answer.Refused error.NoConnection) (number_answer now conn (numbered frame.transaction (length (asked now conn))) frame)) opened
        ∙ ap (λ o. number_answer now conn o frame) number
        ∙ ap (λ o. query_answer (readings now) (points now) (is_answered now conn n) o frame) none;
  })
  by_query line n opened number (Some q) query = by_answers line n q opened number query (frame_answers q frame) refl

  by_number : (line : ℕ) → open_line now conn ≡ Some line → (o : Option ℕ) → numbered frame.transaction (length (asked now conn)) ≡ o
      → IsReply now conn frame ⊎ IsOther now conn frame
  by_number line opened None none = inr (record {
    fault = error.NoQuery;
    is = ap (arriving_over now conn frame) opened ∙ ap (naming now conn frame) none;
    told = ap (λ (o : Option ℕ). cond (is_none o) (answer.Refused error.NoConnection) (number_answer now conn (numbered frame.transaction (length (asked now conn))) frame)) opened
        ∙ ap (λ o. number_answer now conn o frame) none;
  })
  by_number line opened (Some n) number = by_query line n opened number (slice_get (asked now conn) n) refl

  by_line : (o : Option ℕ) → open_line now conn ≡ o → IsReply now conn frame ⊎ IsOther now conn frame
  by_line None none = inr (record {
    fault = error.NoConnection;
    is = ap (arriving_over now conn frame) none;
    told = ap (λ (o : Option ℕ). cond (is_none o) (answer.Refused error.NoConnection) (number_answer now conn (numbered frame.transaction (length (asked now conn))) frame)) none;
  })
  by_line (Some line) opened = by_number line opened (numbered frame.transaction (length (asked now conn))) refl

  pub sorted : IsReply now conn frame ⊎ IsOther now conn frame
  sorted = by_line (open_line now conn) refl

  -- it makes no query
  pub none_asked : asked (arriving now conn frame ∷ now) conn ≡ asked now conn
  none_asked = ⊎_elim (λ (r : IsReply now conn frame). ap (λ h. asked (h ∷ now) conn) r.is) (λ (o : IsOther now conn frame). ap (λ h. asked (h ∷ now) conn) o.is) sorted
