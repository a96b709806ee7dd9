-- A request of a caller, from what the office's call came to.
use Rattle.std.proofs.Common.{◌≡◌, ℕ, Bool, true, false, inr, List, [], ◌∷◌, Some, None, Result, Ok, Err, refl, sym, ap, ◌∙◌, subst, arith, suc, cond, find, IfOk}
use Rattle.std.specs.Prelude.{All, MatchResult, String, string_bytes}
use Rattle.std.specs.declared.alloc.Global.{Global}
use Rattle.poll_book.specs.declared.fault.StoreFault.{StoreFault}
use Rattle.poll_book.specs.declared.keeper.Neighbours.{Ghosts}
use Rattle.poll_book.specs.declared.requests.Reason.{Reason}
use Rattle.poll_book.specs.Tables.{Tables, Within}
use Rattle.office_core.specs.declared.error.OfficeError.{OfficeError}
use Rattle.office_core.specs.declared.error.OfficeError.TheVariants as error
use Rattle.office_core.specs.Errors.{IsOfStore, is_of_store}
use Rattle.office_core.specs.declared.event.EventAnswer.{EventAnswer}
use Rattle.office_core.specs.declared.event.EventAnswer.TheVariants as told
use Rattle.office_core.specs.declared.event.RequestAnswer.{RequestAnswer}
use Rattle.office_core.specs.declared.office.Office.{Office}
use Rattle.office_core.specs.Answers.{answer_of}
use Rattle.office_core.specs.History.{Happening, History, tables}
use Rattle.office_core.specs.Leavings.{LeftAfter}
use Rattle.office_core.specs.Offices.{OnlyAsked, keeper_of}
use Rattle.office_core.specs.Standing.{is_store}
use Rattle.office_http.specs.Meanings.{Meaning}
use Rattle.office_core.specs.Following.{Fails, Follows, Happens, MayLeave, Stays}
use Rattle.office_core.proofs.Following.{stays_so}
use Rattle.office_net.specs.Replies.{event_of, event_reply, reply_text, request_reply, with_event}
use Rattle.office_net.specs.Serving.{Acts, Answers, LeftSo, Misses, Unanswered}

-- the cause of a refusal by the store
pub cause_of : (cause : StoreFault → Type 0) (e : OfficeError) (f : StoreFault) → IsOfStore cause e → (is_of_store e ≡ true → e ≡ error.Store f) → cause f
cause_of cause (error.Store g) f caused is = let same : g ≡ f = by (is refl) in subst cause same caused
  where
    by : error.Store g ≡ error.Store f → g ≡ f
    by e = cc
cause_of cause error.NoConnection f caused is = absurd caused
cause_of cause error.WrongLine f caused is = absurd caused
cause_of cause error.NoRead f caused is = absurd caused
cause_of cause error.NoOrder f caused is = absurd caused
cause_of cause error.Settled f caused is = absurd caused
cause_of cause error.NotNext f caused is = absurd caused
cause_of cause error.Exhausted f caused is = absurd caused
cause_of cause error.SiteDiffers f caused is = absurd caused
cause_of cause error.NoQuery f caused is = absurd caused
cause_of cause error.WrongUnit f caused is = absurd caused
cause_of cause error.Repeat f caused is = absurd caused
cause_of cause error.WrongReply f caused is = absurd caused

-- a refusal by the store is one
pub of_store : (cause : StoreFault → Type 0) (e : OfficeError) → IsOfStore cause e → is_store (told.Refused e) ≡ true
of_store cause (error.Store g) caused = refl
of_store cause error.NoConnection caused = absurd caused
of_store cause error.WrongLine caused = absurd caused
of_store cause error.NoRead caused = absurd caused
of_store cause error.NoOrder caused = absurd caused
of_store cause error.Settled caused = absurd caused
of_store cause error.NotNext caused = absurd caused
of_store cause error.Exhausted caused = absurd caused
of_store cause error.SiteDiffers caused = absurd caused
of_store cause error.NoQuery caused = absurd caused
of_store cause error.WrongUnit caused = absurd caused
of_store cause error.Repeat caused = absurd caused
of_store cause error.WrongReply caused = absurd caused

module _ (stood stands : History → Type 0) (might may : Tables → Type 0) (meaning : Meaning) (h : Happening) (is : event_of meaning ≡ Some h) where
  -- what a request makes happen happened
  pub acts : (answer : EventAnswer) → Happens stood stands might may (λ _. h) answer → Acts stood stands might may meaning
  acts answer it = record {
    follows = λ now s. subst (λ e. stands (with_event e now)) (sym is) (it.follows now s);
    leaves = λ now s. subst (λ e. Within may (LeftSo might now e false)) (sym is) (it.leaves now s);
  }

  -- the store refused it
  pub misses : (e : OfficeError) → is_store (told.Refused e) ≡ true → Fails stood stands might may (λ _. h) (told.Refused e) → Misses stood stands might may meaning
  misses e store it = record {
    follows = it.follows;
    leaves = λ now s. subst (λ o. Within may (LeftSo might now o true)) (sym is)
        (subst (λ b. Within may (LeftAfter might (tables now) (tables (h ∷ now)) b)) store (it.leaves now s));
  }

  -- it happened, and its answer is told
  pub answers : (refusal : Reason → List ℕ) (point : List ℕ) → ((now : History) → reply_text now meaning ≡ event_reply refusal point (answer_of now h)) → (answer : RequestAnswer)
      → Happens stood stands might may (λ _. h) (told.Request answer) → (text : List ℕ) → text ≡ request_reply refusal point answer → Answers stood stands might may meaning text
  answers refusal point replies answer it text so = record {
    acts = acts (told.Request answer) it;
    answered = λ now s. so ∙ ap (event_reply refusal point) (it.answered now s) ∙ sym (replies now);
  }

module _ (stood stands : History → Type 0) (might may : Tables → Type 0) (meaning : Meaning) (is : event_of meaning ≡ None) where
  -- a query changes nothing
  pub query_acts : Stays stood stands might may → Acts stood stands might may meaning
  query_acts it = record {
    follows = λ now s. subst (λ e. stands (with_event e now)) (sym is) (it.follows now s);
    leaves = λ now s. subst (λ e. Within may (LeftSo might now e false)) (sym is) it.leaves;
  }

  -- by what a query came to
  pub queried : (result : Result (String Global) StoreFault) → Stays stood stands might may → ((now : History) → stood now → IfOk result (λ text. string_bytes text ≡ reply_text now meaning))
      → MatchResult result (λ text. Answers stood stands might may meaning (string_bytes text)) (λ _. Unanswered stood stands might may meaning)
  queried (Ok text) it value = record { acts = query_acts it; answered = value }
  queried (Err fault) it value = inr (query_acts it)

  -- the answer to what needs no office
  pub at_once : (text : List ℕ) → Stays stood stands might may → ((now : History) → text ≡ reply_text now meaning) → Answers stood stands might may meaning text
  at_once text it value = record { acts = query_acts it; answered = λ now s. value now }

-- a query of an office, by what it came to
pub asked_so : {K : Type 0} {g : Ghosts K} (old new : Office K g) (meaning : Meaning) → event_of meaning ≡ None → (result : Result (String Global) StoreFault) → OnlyAsked old new → g.is_clean (keeper_of new)
    → ((now : History) → Follows old now → IfOk result (λ text. string_bytes text ≡ reply_text now meaning))
    → MatchResult result (λ text. Answers (Follows old) (Follows new) (MayLeave old) (MayLeave new) meaning (string_bytes text)) (λ _. Unanswered (Follows old) (Follows new) (MayLeave old) (MayLeave new) meaning)
asked_so old new meaning is result asked clean = queried (Follows old) (Follows new) (MayLeave old) (MayLeave new) meaning is result (stays_so old new asked clean)

-- what holds of all holds of the one that is found
pub found_holds : {X : Type 0} (P : X → Type 0) (test : X → Bool) (xs : List X) (x : X) → find test xs ≡ Some x → All P xs → P x
found_holds P test [] x e all = absurd (cc)
found_holds P test (y ∷ ys) x e all = by (test y) refl (λ f. found_holds P test ys x f (λ i d less. all (suc i) d (omega (arith, less))))
  where
    by : (b : Bool) → test y ≡ b → (find test ys ≡ Some x → P x) → P x
    by true is later =
        let it : Some y ≡ Some x = subst (λ b. cond b (Some y) (find test ys) ≡ Some x) is e in
        let same : y ≡ x = cc in
        subst P same (all 0 y (omega arith))
    by false is later = later (subst (λ b. cond b (Some y) (find test ys) ≡ Some x) is e)
