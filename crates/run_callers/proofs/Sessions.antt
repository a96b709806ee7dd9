-- Deeds at a caller's place.
use Rattle.std.proofs.Common.{◌≡◌, arith, Bool, if◌then◌else◌, inl, inr, true, false, ℕ, List, [], ◌∷◌, ◌++◌, Option, Some, None, Result, Ok, Err, refl, sym, ◌∙◌, ap, subst}
use Rattle.std.specs.Prelude.{◌≢◌, IsErr, MatchResult, OnOk, String, drop, get_or, string_bytes, take}
use Rattle.std.proofs.lemmas.List.{take-append-drop}
use Rattle.std.specs.declared.alloc.AllocError.{AllocError}
use Rattle.std.specs.declared.alloc.Global.{Global}
use Rattle.poll_book.specs.declared.fault.StoreFault.{StoreFault}
use Rattle.poll_book.specs.declared.keeper.Neighbours.{Ghosts}
use Rattle.poll_book.specs.Tables.{Tables, Within}
use Rattle.run_beat.specs.declared.sockets.Source.{Source}
use Rattle.run_beat.specs.Acts.{Act, Finishes, Writes}
use Rattle.office_core.specs.declared.office.Office.{Office}
use Rattle.office_core.specs.Following.{Follows, MayLeave}
use Rattle.office_core.specs.History.{Happening, History, site_of}
use Rattle.office_core.specs.Offices.{Stands, keeper_of}
use Rattle.office_core.specs.Proceeding.{AreOf, Did, GoesAlong, LeftBySteps, Missed, Nothing, stepped}
use Rattle.point_list.specs.declared.site.Site.{Site}
use Rattle.office_http.specs.declared.heard.Page.{Page}
use Rattle.office_http.specs.Answers.{page_head, unavailable_text}
use Rattle.office_http.specs.declared.routes.Routes.TheVariants.{Extended}
use Rattle.office_http.specs.Deciding.{Decides, Means}
use Rattle.office_http.specs.Meanings.{Meaning, nothing, page}
use Rattle.office_net.specs.Replies.{event_of, has_page, not_found, page_reply, with_event}
use Rattle.office_net.specs.Serving.{Acts, Answers, LeftSo, Misses, Unanswered, written_for}
use Rattle.run_deeds.specs.Doings.{DoesOne, Runs}
use Rattle.run_deeds.specs.Deeds.{AllOf, Became, Deed, Deeds, Done, Is, Replies, Undone, Untried, steps_made, steps_of, Shows}
use Rattle.run_callers.specs.declared.showing.Showing.{Showing}
use Rattle.run_callers.specs.Pages.{IsFirst, IsPart}
use Rattle.run_callers.specs.Sessions.{Acting, Answering, Closing, Comes, Exchanges, Heard, Hearing, IsFollowedBy, IsOneReply, IsReply, Moves, Session, Through}
use Rattle.office_net.proofs.Querying.{still_follows}
use Rattle.run_deeds.proofs.Deeds.{goes_asked, goes_then}
use Rattle.run_deeds.proofs.Passing.{acting_once, acting_then}

-- ---- what a caller asks for

did_steps : (now : History) (meaning : Meaning) (event : Option Happening) → event_of meaning ≡ event → (might may : Tables → Type 0) → Within may (LeftSo might now event false)
    → AreOf Runs now (steps_made Did event ++ []) × (stepped now (steps_made Did event ++ []) ≡ with_event event now) × Within may (LeftBySteps might now (steps_made Did event ++ []))
did_steps now meaning None is might may within = (tt, refl, within)
did_steps now meaning (Some event) is might may within = ((DoesOne meaning is, tt), refl, within)

missed_steps : (now : History) (meaning : Meaning) (event : Option Happening) → event_of meaning ≡ event → (might may : Tables → Type 0) → Within may (LeftSo might now event true)
    → AreOf Runs now (steps_made Missed event ++ []) × (stepped now (steps_made Missed event ++ []) ≡ now) × Within may (LeftBySteps might now (steps_made Missed event ++ []))
missed_steps now meaning None is might may within = (tt, refl, within)
missed_steps now meaning (Some event) is might may within = ((DoesOne meaning is, tt), refl, within)

-- ---- what follows an answer

pub written_refused : (told : Result (String Global) StoreFault) → IsErr told → written_for told ≡ unavailable_text
written_refused (Ok text) failed = absurd (cc)
written_refused (Err fault) failed = refl

-- what was done
abbrev done_in : Became → Meaning
done_in (Done meaning) = meaning
done_in _ = nothing

-- the first digit of an answer's status
abbrev status_digit : List ℕ → ℕ
status_digit text = get_or text 9 0

unavailable_is_no_head : (shown : Page) → unavailable_text ≢ page_head shown
unavailable_is_no_head shown is = let digits : 53 ≡ 50 = ap status_digit is in absurd (omega (arith, digits))

not_found_is_no_head : (shown : Page) → not_found ≢ page_head shown
not_found_is_no_head shown is = let digits : 52 ≡ 50 = ap status_digit is in absurd (omega (arith, digits))

nothing_unavailable : (became : Became) → IsFollowedBy became unavailable_text None
nothing_unavailable became shown is same = unavailable_is_no_head shown same

nothing_found : (became : Became) → IsFollowedBy became not_found None
nothing_found became shown is same = not_found_is_no_head shown same

nothing_follows : (meaning : Meaning) (text : List ℕ) → ((shown : Page) → meaning ≢ page shown) → IsFollowedBy (Done meaning) text None
nothing_follows meaning text is_none shown is same = is_none shown (ap done_in is)

-- ---- it is done, or isn't

module _ (stood stands : History → Type 0) (might may : Tables → Type 0) (source : Source) (meaning : Meaning) (text : List ℕ) (next : Option Showing) where
  comes_done : Acts stood stands might may meaning → (now : History) → stood now → IsReply now (λ some. some ≡ meaning) (Done meaning) text → IsFollowedBy (Done meaning) text next
      → Deeds stands might may (λ acts. acts ≡ []) (IsOneReply now (λ some. some ≡ meaning) source text next) now
  comes_done acts now s is follows =
      let made = did_steps now meaning (event_of meaning) refl might may (acts.leaves now s) in
      record {
        deeds = Replies source (Done meaning) text ∷ [];
        are = made.0;
        follows = subst stands (sym made.1) (acts.follows now s);
        leaves = made.2;
        has_acted = refl;
        has_kept = (Done meaning, refl, is, follows);
      }

  comes_undone : Misses stood stands might may meaning → (now : History) → stood now → text ≡ unavailable_text → IsFollowedBy (Undone meaning) text next
      → Deeds stands might may (λ acts. acts ≡ []) (IsOneReply now (λ some. some ≡ meaning) source text next) now
  comes_undone misses now s is follows =
      let made = missed_steps now meaning (event_of meaning) refl might may (misses.leaves now s) in
      record {
        deeds = Replies source (Undone meaning) text ∷ [];
        are = made.0;
        follows = subst stands (sym made.1) (misses.follows now s);
        leaves = made.2;
        has_acted = refl;
        has_kept = (Undone meaning, refl, (refl, is), follows);
      }

module _ {K : Type 0} {g : Ghosts K} where
  -- it couldn't be answered
  comes_unanswered : (old new : Office K g) (meaning : Meaning) → (g.is_clean (keeper_of new) → g.is_clean (keeper_of old))
      → (g.is_clean (keeper_of new) → Unanswered (Follows old) (Follows new) (MayLeave old) (MayLeave new) meaning)
      → Comes old new (λ some. some ≡ meaning) unavailable_text None
  comes_unanswered old new meaning before unanswered source clean = (
    before clean,
    λ now follows. elim (unanswered clean) as (λ _. Deeds (Follows new) (MayLeave old) (MayLeave new) (λ acts. acts ≡ [])
        (IsOneReply now (λ some. some ≡ meaning) source unavailable_text None) now) [
          | inl misses ↦
              comes_undone (Follows old) (Follows new) (MayLeave old) (MayLeave new) source meaning unavailable_text None misses now follows refl (nothing_unavailable (Undone meaning))
          | inr acts ↦
              comes_done (Follows old) (Follows new) (MayLeave old) (MayLeave new) source meaning unavailable_text None acts now follows (refl, inr refl) (nothing_unavailable (Done meaning))
        ],
  )

  -- it was answered, and that follows
  comes_answered : (old new : Office K g) (meaning : Meaning) (text : List ℕ) (next : Option Showing) → (g.is_clean (keeper_of new) → g.is_clean (keeper_of old))
      → (g.is_clean (keeper_of new) → Answers (Follows old) (Follows new) (MayLeave old) (MayLeave new) meaning text)
      → (g.is_clean (keeper_of new) → (now : History) → Follows old now → IsFollowedBy (Done meaning) text next)
      → Comes old new (λ some. some ≡ meaning) text next
  comes_answered old new meaning text next before answers next_is source clean = (
    before clean,
    λ now follows.
        comes_done (Follows old) (Follows new) (MayLeave old) (MayLeave new) source meaning text next (answers clean).acts now follows
        (refl, inl ((answers clean).answered now follows)) (next_is clean now follows),
  )

  -- what is no page was answered or couldn't be
  pub comes_of : (old new : Office K g) (meaning : Meaning) (told : Result (String Global) StoreFault) → ((shown : Page) → meaning ≢ page shown) → (g.is_clean (keeper_of new) → g.is_clean (keeper_of old))
      → (g.is_clean (keeper_of new) → MatchResult told
      (λ text. Answers (Follows old) (Follows new) (MayLeave old) (MayLeave new) meaning (string_bytes text))
      (λ _. Unanswered (Follows old) (Follows new) (MayLeave old) (MayLeave new) meaning))
      → Comes old new (λ some. some ≡ meaning) (written_for told) None
  comes_of old new meaning (Ok text) is_none before answers =
      comes_answered old new meaning (string_bytes text) None before answers (λ clean now follows. nothing_follows meaning (string_bytes text) is_none)
  comes_of old new meaning (Err fault) is_none before unanswered = comes_unanswered old new meaning before unanswered

  -- a page
  module _ (old new : Office K g) (shown : Page) (site : Site) (before : g.is_clean (keeper_of new) → g.is_clean (keeper_of old)) (is_site : (now : History) → Stands new now → site ≡ site_of now) where
    head_is : (text : List ℕ) → Answers (Follows old) (Follows new) (MayLeave old) (MayLeave new) (page shown) text → (now : History) → Follows old now → text ≡ page_reply site shown
    head_is text answers now follows = answers.answered now follows ∙ ap (λ (some : Site). page_reply some shown) (sym (is_site now (answers.acts.follows now follows).0))

    -- it is the site's
    pub page_begins : (text : List ℕ) (first : Showing) → has_page site shown ≡ true → first.page ≡ shown → IsFirst first
        → (g.is_clean (keeper_of new) → Answers (Follows old) (Follows new) (MayLeave old) (MayLeave new) (page shown) text)
        → Comes old new (λ some. some ≡ page shown) text (Some first)
    page_begins text first has is is_first answers =
        comes_answered old new (page shown) text (Some first) before answers (λ clean now follows. (
          ap (λ (some : Page). Done (page some)) (sym is),
          head_is text (answers clean) now follows ∙ ap (λ (b : Bool). if b then page_head shown else not_found) has ∙ ap page_head (sym is),
          is_first,
        ))

    -- the site hasn't got it
    pub page_lacks : (text : List ℕ) → has_page site shown ≡ false
        → (g.is_clean (keeper_of new) → Answers (Follows old) (Follows new) (MayLeave old) (MayLeave new) (page shown) text)
        → Comes old new (λ some. some ≡ page shown) text None
    page_lacks text has answers =
        comes_answered old new (page shown) text None before answers (λ clean now follows.
        subst (λ (some : List ℕ). IsFollowedBy (Done (page shown)) some None)
        (sym (head_is text (answers clean) now follows ∙ ap (λ (b : Bool). if b then page_head shown else not_found) has)) (nothing_found (Done (page shown))))

  pub page_refused : (old new : Office K g) (shown : Page) → (g.is_clean (keeper_of new) → g.is_clean (keeper_of old))
      → (g.is_clean (keeper_of new) → Unanswered (Follows old) (Follows new) (MayLeave old) (MayLeave new) (page shown))
      → Comes old new (λ some. some ≡ page shown) unavailable_text None
  page_refused old new shown = comes_unanswered old new (page shown)

  -- it wasn't tried
  pub comes_untried : (old new : Office K g) (asks : Meaning → Type 0) → GoesAlong Nothing old new → Comes old new asks unavailable_text None
  comes_untried old new asks along source =
      goes_then old new new (λ acts. acts ≡ []) (λ acts. acts ≡ []) (λ acts. acts ≡ [])
      (λ now deeds. deeds ≡ [])
      (λ now deeds. deeds ≡ Replies source Untried unavailable_text ∷ [])
      (λ now. IsOneReply now asks source unavailable_text None)
      (λ first second none none'. ap (λ (acts : List Act). acts ++ first) none' ∙ none)
      (λ now first second none one. (Untried, ap (λ (deeds : List Deed). deeds ++ first) one ∙ ap (λ (deeds : List Deed). Replies source Untried unavailable_text ∷ deeds) none, refl, nothing_unavailable Untried))
      (goes_asked old new (λ acts. acts ≡ []) (λ now deeds. deeds ≡ []) along refl (λ now. refl))
      (λ clean. (
        clean,
        λ now follows.
            record { deeds = Replies source Untried unavailable_text ∷ []; are = tt; follows = follows; leaves = λ left may. may; has_acted = refl; has_kept = refl },
      ))

  pub comes_failed : (old new : Office K g) (asks : Meaning → Type 0) (told : Result (String Global) StoreFault) → IsErr told → GoesAlong Nothing old new → Comes old new asks (written_for told) None
  comes_failed old new asks (Ok text) failed along = absurd (cc)
  comes_failed old new asks (Err fault) failed along = comes_untried old new asks along

  -- the same, said otherwise
  pub comes_same : (old new : Office K g) (asked meant : Meaning) (text put : List ℕ) (next shown : Option Showing) → asked ≡ meant → text ≡ put → next ≡ shown
      → Comes old new (λ some. some ≡ asked) text next → Comes old new (λ some. some ≡ meant) put shown
  comes_same old new asked meant text put next shown means same follows comes =
      subst (λ (some : Option Showing). Comes old new (λ m. m ≡ meant) put some) follows
      (subst (λ (some : List ℕ). Comes old new (λ m. m ≡ meant) some next) same
      (subst (λ (some : Meaning). Comes old new (λ m. m ≡ some) text next) means comes))

  -- before or after it the office was only asked
  pub comes_then_asked : (one two three : Office K g) (asks : Meaning → Type 0) (text : List ℕ) (next : Option Showing) → Comes one two asks text next → GoesAlong Nothing two three → Comes one three asks text next
  comes_then_asked one two three asks text next comes along source =
      goes_then one two three (λ acts. acts ≡ []) (λ acts. acts ≡ []) (λ acts. acts ≡ [])
      (λ now. IsOneReply now asks source text next)
      (λ now deeds. deeds ≡ [])
      (λ now. IsOneReply now asks source text next)
      (λ first second none none'. ap (λ (acts : List Act). acts ++ first) none' ∙ none)
      (λ now first second one none. (one.0, ap (λ (deeds : List Deed). deeds ++ first) none ∙ one.1, one.2, one.3))
      (comes source)
      (goes_asked two three (λ acts. acts ≡ []) (λ now deeds. deeds ≡ []) along refl (λ now. refl))

  pub asked_then_comes : (one two three : Office K g) (asks : Meaning → Type 0) (text : List ℕ) (next : Option Showing) → GoesAlong Nothing one two → Comes two three asks text next → Comes one three asks text next
  asked_then_comes one two three asks text next along comes source =
      goes_then one two three (λ acts. acts ≡ []) (λ acts. acts ≡ []) (λ acts. acts ≡ [])
      (λ now deeds. deeds ≡ [])
      (λ now. IsOneReply now asks source text next)
      (λ now. IsOneReply now asks source text next)
      (λ first second none none'. ap (λ (acts : List Act). acts ++ first) none' ∙ none)
      (λ now first second none one. (
        one.0,
        ap (λ (deeds : List Deed). deeds ++ first) one.1 ∙ ap (λ (deeds : List Deed). Replies source one.0 text ∷ deeds) none,
        subst (λ (deeds : List Deed). IsReply (stepped now (steps_of deeds)) asks one.0 text) none one.2,
        one.3,
      ))
      (goes_asked one two (λ acts. acts ≡ []) (λ now deeds. deeds ≡ []) along refl (λ now. refl))
      (comes source)

-- ---- and its answer

reply_wider : (now : History) (asks wider : Meaning → Type 0) → ((meaning : Meaning) → asks meaning → wider meaning) → (became : Became) (text : List ℕ) → IsReply now asks became text → IsReply now wider became text
reply_wider now asks wider is (Done meaning) text reply = (is meaning reply.0, reply.1)
reply_wider now asks wider is (Undone meaning) text reply = (is meaning reply.0, reply.1)
reply_wider now asks wider is Untried text reply = reply

module _ {K : Type 0} {g : Ghosts K} (source : Source) (old new : Office K g) (asks : Meaning → Type 0) (heard text : List ℕ) (next : Option Showing) where
  one_reply : (now : History) (session : Session) (deeds : List Deed) (became : Became) → deeds ≡ Replies source became text ∷ [] → Moves now session (Replies source became text) (Answering next text)
      → AllOf (Is source) deeds × Through source now session deeds (Answering next text)
  one_reply now session deeds became one moves =
      subst (λ (some : List Deed). AllOf (Is source) some × Through source now session some (Answering next text)) (sym one) ((refl, tt), (session, refl, inl (refl, moves)))

  -- as soon as it is known what is asked for
  pub replies_at_once : ((meaning : Meaning) → asks meaning → Decides Extended heard meaning) → Comes old new asks text next → Exchanges source old new (λ acts. acts ≡ []) (Hearing heard) (Answering next text)
  replies_at_once is comes clean =
      let went = comes source clean in (
        went.0,
        λ now follows.
            let done = went.1 now follows in
            let reply = done.has_kept in
            record {
              deeds = done.deeds;
              are = done.are;
              follows = done.follows;
              leaves = done.leaves;
              has_acted = done.has_acted;
              has_kept = one_reply now (Hearing heard) done.deeds reply.0 reply.1 (reply_wider now asks (Decides Extended heard) is reply.0 text reply.2, (next, reply.3, refl));
            },
      )

  -- where no more comes
  pub replies_at_the_end : ((meaning : Meaning) → asks meaning → Means Extended heard meaning) → Comes old new asks text next → Exchanges source old new (λ acts. acts ≡ []) (Heard heard) (Answering next text)
  replies_at_the_end is comes clean =
      let went = comes source clean in (
        went.0,
        λ now follows.
            let done = went.1 now follows in
            let reply = done.has_kept in
            record {
              deeds = done.deeds;
              are = done.are;
              follows = done.follows;
              leaves = done.leaves;
              has_acted = done.has_acted;
              has_kept = one_reply now (Heard heard) done.deeds reply.0 reply.1 (reply_wider now asks (Means Extended heard) is reply.0 text reply.2, (next, reply.3, refl));
            },
      )

-- it is put there to be written, unless memory is refused for it
pub reply_put : {K : Type 0} {g : Ghosts K} (source : Source) (old new : Office K g) (before after : Session) (next : Option Showing) (out text : List ℕ) (told : Result (Unit {0}) AllocError)
    → after ≡ Answering next out → OnOk told (out ≡ text) → Exchanges source old new (λ acts. acts ≡ []) before (Answering next text)
    → MatchResult told (λ _. Exchanges source old new (λ acts. acts ≡ []) before after) (λ _. (session : Session) × Exchanges source old new (λ acts. acts ≡ []) before session)
reply_put source old new before after next out text (Ok done) stands put exchange =
    subst (λ (session : Session). Exchanges source old new (λ acts. acts ≡ []) before session) (sym (stands ∙ ap (Answering next) put)) exchange
reply_put source old new before after next out text (Err refused) stands put exchange = (Answering next text, exchange)

-- ---- its bytes

module _ (source : Source) (acted : List Act → Type 0) (left : List ℕ) (count : ℕ) where
  pub writes_some : (next : Option Showing) → acted (Writes source (take count left) ∷ []) → Acting source acted (Answering next left) (Answering next (drop count left))
  writes_some next acts = acting_once Moves source acted (Writes source (take count left)) (Answering next left) (Answering next (drop count left)) acts refl
      (λ now. (drop count left, sym (take-append-drop count left), refl))

  -- the last of them
  pub writes_last : (acted' acted'' : List Act → Type 0) → ((first second : List Act) → acted first → acted' second → acted'' (second ++ first))
      → acted (Writes source (take count left) ∷ []) → drop count left ≡ [] → acted' (Finishes source ∷ []) → Acting source acted'' (Answering None left) Closing
  writes_last acted' acted'' joins acts none finished =
      acting_then Moves source acted acted' acted'' (Answering None left) (Answering None []) Closing joins
      (subst (λ (rest : List ℕ). Acting source acted (Answering None left) (Answering None rest)) none (writes_some None acts))
      (acting_once Moves source acted' (Finishes source) (Answering None []) Closing finished refl (λ now. refl))

-- ---- what a page shows behind it

module _ {K : Type 0} {g : Ghosts K} (source : Source) (old new : Office K g) (showing : Showing) (left text : List ℕ) (next : Option Showing) where
  pub shows_part : GoesAlong Nothing old new → (g.is_clean (keeper_of new) → (now : History) → Follows old now → IsPart now showing text next)
      → Exchanges source old new (λ acts. acts ≡ []) (Answering (Some showing) left) (Answering next (left ++ text))
  shows_part along is_part clean =
      let still = still_follows old new along clean in (
        still.0,
        λ now follows.
            let stays = still.1 now follows in
            record {
              deeds = Shows source text ∷ [];
              are = tt;
              follows = stays.0;
              leaves = stays.1;
              has_acted = refl;
              has_kept = ((refl, tt), (Answering (Some showing) left, refl, inl (refl, (next, is_part clean now follows, refl))));
            },
      )
