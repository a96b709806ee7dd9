-- What stands where in a history: it is legal there, and queries keep their numbers and their answers.
use Rattle.std.proofs.Common.{◌≡◌, ◌⊎◌, ℕ, zero, suc, Bool, true, false, cond, eqb, ◌&&◌, ◌||◌, List, [], ◌∷◌, ◌++◌, length, Some, inl, inr, refl, sym, ap, ◌∙◌, subst}
use Rattle.std.specs.Prelude.{slice_get}
use Rattle.std.proofs.lemmas.Bool.{eq-eqb}
use Rattle.std.proofs.lemmas.Option.{none-some, same_Some}
use Rattle.office_core.specs.Queries.{Query, Reads, Writes}
use Rattle.office_core.specs.History.{Happening, Restart, Load, Order, Void, Open, Ask, Send, Reply, Noise, History, asked, fits_query, is_answered}
use Rattle.office_core.specs.Legal.{Legal}
use Rattle.office_core.specs.FirstArrivals.{Happened}
use Rattle.office_core.proofs.Asks.{ask_made, asks}
use Rattle.office_core.proofs.Sends.{send_made, sends}

pub step_later : (h : Happening) (before : History) (happening : Happening) (earlier : History)
    → Happened before happening earlier → Happened (h ∷ before) happening earlier
step_later h before happening earlier p = record { later = h ∷ p.later; stands = ap (λ l. h ∷ l) p.stands }

legal_before : (later : List Happening) (before : History) → Legal (later ++ before) → Legal before
legal_before [] before legal = legal
legal_before (h ∷ later) before legal = legal_before later before legal.2

-- what a history stands on is legal where it is
pub legal_at : (before : History) (happening : Happening) (earlier : History) → Happened before happening earlier → Legal before → Legal (happening ∷ earlier)
legal_at before happening earlier p legal = legal_before p.later (happening ∷ earlier) (subst Legal p.stands legal)

get_more : (qs more : List Query) (n : ℕ) (q : Query) → slice_get qs n ≡ Some q → slice_get (qs ++ more) n ≡ Some q
get_more [] more n q e = absurd (none-some q e)
get_more (x ∷ qs) more zero q e = e
get_more (x ∷ qs) more (suc n) q e = get_more qs more n q e

pub get_last : (qs : List Query) (q : Query) → slice_get (qs ++ q ∷ []) (length qs) ≡ Some q
get_last [] q = refl
get_last (x ∷ qs) q = get_last qs q

-- what stands in a longer list stood there before, or is the last
pub get_either : (qs : List Query) (last : Query) (n : ℕ) (q : Query) → slice_get (qs ++ last ∷ []) n ≡ Some q
    → (slice_get qs n ≡ Some q) ⊎ ((length qs ≡ n) × (q ≡ last))
get_either [] last zero q e = inr (refl, sym (same_Some last q e))
get_either [] last (suc n) q e = absurd (none-some q e)
get_either (x ∷ qs) last zero q e = inl e
get_either (x ∷ qs) last (suc n) q e = elim (get_either qs last n q e) [ inl there ↦ inl there | inr here ↦ inr (ap suc here.0, here.1) ]

-- what stands in a list stands there with one more, if that is there
pub with_more : (b : Bool) (qs : List Query) (last : Query) (n : ℕ) (q : Query) → slice_get qs n ≡ Some q → slice_get (cond b (qs ++ last ∷ []) qs) n ≡ Some q
with_more true qs last n q e = get_more qs (last ∷ []) n q e
with_more false qs last n q e = e

-- a query keeps its number
pub asked_stays : (later : List Happening) (before : History) (c n : ℕ) (q : Query) → slice_get (asked before c) n ≡ Some q
    → slice_get (asked (later ++ before) c) n ≡ Some q
asked_stays [] before c n q e = e
asked_stays (Restart site ∷ later) before c n q e = asked_stays later before c n q e
asked_stays (Load edition caller key list ∷ later) before c n q e = asked_stays later before c n q e
asked_stays (Order caller key point value ∷ later) before c n q e = asked_stays later before c n q e
asked_stays (Void caller key point at ∷ later) before c n q e = asked_stays later before c n q e
asked_stays (Open line ∷ later) before c n q e = asked_stays later before c n q e
asked_stays (Reply d m unit ∷ later) before c n q e = asked_stays later before c n q e
asked_stays (Noise d frame ∷ later) before c n q e = asked_stays later before c n q e
asked_stays (Ask d device slot read ∷ later) before c n q e =
    with_more (eqb d c && ask_made (later ++ before) d device read) (asked (later ++ before) c) (Reads (asks (later ++ before) device slot read)) n q
    (asked_stays later before c n q e)
asked_stays (Send d number ∷ later) before c n q e =
    with_more (eqb d c && send_made (later ++ before) d number) (asked (later ++ before) c) (Writes (sends (later ++ before) number)) n q
    (asked_stays later before c n q e)

pub or_true : (a b : Bool) → b ≡ true → (a || b) ≡ true
or_true true b e = refl
or_true false b e = e

-- and a place where a reply stands answers its query
pub answers_on : (later : List Happening) (older : History) (c n : ℕ) (unit : List ℕ) → fits_query (slice_get (asked older c) n) unit ≡ true
    → is_answered (later ++ Reply c n unit ∷ older) c n ≡ true
answers_on [] older c n unit e =
    ap (λ b. (b && (eqb n n && fits_query (slice_get (asked older c) n) unit)) || is_answered older c n) (eq-eqb c c refl)
    ∙ ap (λ b. (b && fits_query (slice_get (asked older c) n) unit) || is_answered older c n) (eq-eqb n n refl)
    ∙ ap (λ b. b || is_answered older c n) e
answers_on (Restart site ∷ later) older c n unit e = answers_on later older c n unit e
answers_on (Load edition caller key list ∷ later) older c n unit e = answers_on later older c n unit e
answers_on (Order caller key point value ∷ later) older c n unit e = answers_on later older c n unit e
answers_on (Void caller key point at ∷ later) older c n unit e = answers_on later older c n unit e
answers_on (Open line ∷ later) older c n unit e = answers_on later older c n unit e
answers_on (Ask d device slot read ∷ later) older c n unit e = answers_on later older c n unit e
answers_on (Send d number ∷ later) older c n unit e = answers_on later older c n unit e
answers_on (Noise d frame ∷ later) older c n unit e = answers_on later older c n unit e
answers_on (Reply d m other ∷ later) older c n unit e = or_true _ _ (answers_on later older c n unit e)
