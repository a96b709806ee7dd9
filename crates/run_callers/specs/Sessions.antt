-- What a caller's place goes through, deed by deed.
use Rattle.std.specs.Prelude.{◌≡◌, ◌≢◌, ◌⊎◌, ℕ, List, [], ◌∷◌, ◌++◌, Option, Some, None}
use Rattle.poll_book.specs.declared.keeper.Neighbours.{Ghosts}
use Rattle.run_beat.specs.declared.sockets.Source.{Source}
use Rattle.run_beat.specs.Acts.{Act, Begins, Reads, Ends, Writes, Finishes, Closes}
use Rattle.office_core.specs.declared.office.Office.{Office}
use Rattle.office_core.specs.History.{History}
use Rattle.office_http.specs.declared.heard.Page.{Page}
use Rattle.office_http.specs.declared.routes.Routes.TheVariants.{Extended}
use Rattle.office_http.specs.Answers.{page_head, unavailable_text}
use Rattle.office_http.specs.Deciding.{Decides, Lacks, Means}
use Rattle.office_http.specs.Meanings.{Meaning, page}
use Rattle.office_net.specs.Replies.{reply_text}
use Rattle.run_deeds.specs.Deeds.{Became, Deed, Done, GoesBy, PartOf, Passes, PassesBy, Replies, Shows, Undone, Untried, With}
use Rattle.run_callers.specs.declared.showing.Showing.{Showing}
use Rattle.run_callers.specs.Pages.{IsFirst, IsPart}

pub data Session : Type 0 where
  -- nobody is there
  Free : Session
  -- these bytes came, and more may
  Hearing : List ℕ → Session
  -- these bytes came, and no more do
  Heard : List ℕ → Session
  -- these bytes are left to be written, and behind them comes what a page shows from there on, if one is shown
  Answering : Option Showing → List ℕ → Session
  -- the answer is written
  Closing : Session

-- bytes are the answer to what is asked for in others: that of the history at which it is done, if it is done; or that the office can't tell
abbrev pub IsReply : History → (Meaning → Type 0) → Became → List ℕ → Type 0
IsReply now asks (Done meaning) text = asks meaning × ((text ≡ reply_text now meaning) ⊎ (text ≡ unavailable_text))
IsReply now asks (Undone meaning) text = asks meaning × (text ≡ unavailable_text)
IsReply now asks Untried text = text ≡ unavailable_text

-- behind an answer a page is shown from its first part on, where the answer is the page's head, and else nothing
abbrev pub IsFollowedBy : Became → List ℕ → Option Showing → Type 0
IsFollowedBy became text None = (shown : Page) → became ≡ Done (page shown) → text ≢ page_head shown
IsFollowedBy became text (Some first) = (became ≡ Done (page first.page)) × (text ≡ page_head first.page) × IsFirst first

-- an answer is there to be written
abbrev pub IsAnswered : Became → List ℕ → Session → Type 0
IsAnswered became text session = (next : Option Showing) × IsFollowedBy became text next × (session ≡ Answering next text)

-- what a deed makes of the session, where the extended routes are offered: no more is read than until it is known what is asked for; that is done once; only
-- then something is written, and that is the answer, byte for byte
abbrev pub Moves : History → Session → Deed → Session → Type 0
Moves now session (With (Closes source)) session' = session' ≡ Free
Moves now Free (With (Begins source)) session' = session' ≡ Hearing []
Moves now (Hearing heard) (With (Reads source bytes)) session' = Lacks Extended heard × (session' ≡ Hearing (heard ++ bytes))
Moves now (Hearing heard) (With (Ends source)) session' = Lacks Extended heard × (session' ≡ Heard heard)
Moves now (Hearing heard) (Replies source became text) session' = IsReply now (Decides Extended heard) became text × IsAnswered became text session'
Moves now (Heard heard) (Replies source became text) session' = IsReply now (Means Extended heard) became text × IsAnswered became text session'
Moves now (Answering next left) (With (Writes source bytes)) session' = (rest : List ℕ) × (left ≡ bytes ++ rest) × (session' ≡ Answering next rest)
Moves now (Answering (Some showing) left) (Shows source text) session' = (next : Option Showing) × IsPart now showing text next × (session' ≡ Answering next (left ++ text))
Moves now (Answering None []) (With (Finishes source)) session' = session' ≡ Closing
Moves now Closing (With (Reads source bytes)) session' = session' ≡ Closing
Moves now Closing (With (Ends source)) session' = session' ≡ Closing
Moves now _ _ _ = ⊥

-- deeds, the newest first, make that of the session at a place
abbrev pub Through : Source → History → Session → List Deed → Session → Type 0
Through = Passes Moves

-- what is done with its socket alone
abbrev pub Acting : Source → (List Act → Type 0) → Session → Session → Type 0
Acting = PassesBy Moves

-- a caller's part of a run
abbrev pub Exchanges : {K : Type 0} {g : Ghosts K} → Source → Office K g → Office K g → (List Act → Type 0) → Session → Session → Type 0
Exchanges source old new acted session session' = PartOf Moves source old new acted session session'

-- the only deed is that reply
abbrev pub IsOneReply : History → (Meaning → Type 0) → Source → List ℕ → Option Showing → List Deed → Type 0
IsOneReply now asks source text next deeds = (became : Became) × (deeds ≡ Replies source became text ∷ []) × IsReply now asks became text × IsFollowedBy became text next

-- what is asked for came to something, these bytes are the answer, and that follows
abbrev pub Comes : {K : Type 0} {g : Ghosts K} → Office K g → Office K g → (Meaning → Type 0) → List ℕ → Option Showing → Type 0
Comes old new asks text next = (source : Source) → GoesBy old new (λ acts. acts ≡ []) (λ now deeds. IsOneReply now asks source text next deeds)
