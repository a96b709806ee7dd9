-- What calls of a line do, call behind call.
use Rattle.std.proofs.Common.{◌≡◌, ◌≤◌, ◌⊎◌, inl, inr, ◌++◌, ℕ, List, [], ◌∷◌, Option, Some, Result, Ok, Err, refl, sym, ◌∙◌, ap, subst}
use Rattle.std.specs.Prelude.{IsErr, IsErrAnd}
use Rattle.poll_book.specs.declared.keeper.Neighbours.{Ghosts}
use Rattle.run_beat.specs.declared.sockets.Source.{Source}
use Rattle.run_beat.specs.declared.sockets.Source.TheVariants as source
use Rattle.run_beat.specs.Acts.{Act, Closes}
use Rattle.run_beat.specs.Beats.{from_of}
use Rattle.office_core.specs.declared.office.Office.{Office}
use Rattle.office_core.specs.declared.event.EventAnswer.TheVariants.{Opened}
use Rattle.office_core.specs.Proceeding.{GoesAlong, Nothing}
use Rattle.office_net.specs.Kinds.{Opens}
use Rattle.office_net.specs.Querying.{Answered, Misses}
use Rattle.office_core.proofs.Proceeding.{along_still}
use Rattle.run_lines.specs.declared.line.Line.{Line}
use Rattle.run_lines.specs.declared.link.Connection.TheVariants as connection
use Rattle.run_lines.specs.declared.link.Link.{Link}
use Rattle.run_lines.specs.declared.loss.Stop.{Stop}
use Rattle.run_lines.specs.Lines.{Advances, Handles, IsOne, IsSame, Keeps, Tends, source_of, state_at, terms_of, wire_at, wire_in}
use Rattle.run_lines.specs.Links.{standing_of, wire_of}
use Rattle.run_lines.specs.Wires.{BeginsAt, Begun, Down, GivesUp, IsShown, LineMoves, Lined, Settles, State, Terms, Up, Wire, WireMoves, Wired, WiredBy, fresh, without}
use Rattle.run_deeds.specs.Deeds.{AllOf, Is, Passes}
use Rattle.run_deeds.proofs.Deeds.{goes_wider}
use Rattle.run_deeds.proofs.Passing.{acting_once, part_acting, part_asked, part_then}
use Rattle.run_lines.proofs.Wires.{lined_of, lined_start, shown, shown_on, wired_given, wired_opened, wired_settled, wired_unopened}

pub same_then : (one two three : Line) → IsSame one two → IsSame two three → IsSame one three
same_then one two three first second = record { place = second.place ∙ first.place; name = second.name ∙ first.name; most = second.most ∙ first.most; from = second.from ∙ first.from }

pub one_of : (old new : Line) → IsSame old new → IsOne old new
one_of old new same = record { place = same.place; name = same.name; most = same.most }

pub one_then : (one two three : Line) → IsOne one two → IsOne two three → IsOne one three
one_then one two three first second = record { place = second.place ∙ first.place; name = second.name ∙ first.name; most = second.most ∙ first.most }

pub terms_same : (old new : Line) → IsOne old new → terms_of new ≡ terms_of old
terms_same old new same =
    ap (λ (name : List ℕ). record { name = name; most = new.most }) same.name ∙ ap (λ (most : ℕ). record { name = old.stations.line; most = most }) same.most

pub state_shown : (line : Line) (state : State) → from_of line.beat ≡ state.from → wire_at line ≡ state.wire → state_at line ≡ state
state_shown line state from wire =
    ap (λ (some : ℕ). record { from = some; wire = wire_at line }) from ∙ ap (λ (some : Wire). record { from = state.from; wire = some }) wire

pub keeps_state : (old new : Line) → IsSame old new → wire_at new ≡ wire_at old → state_at new ≡ state_at old
keeps_state old new same wire =
    ap (λ (from : ℕ). record { from = from; wire = wire_at new }) same.from ∙ ap (λ (some : Wire). record { from = from_of old.beat; wire = some }) wire

pub keeps_then : (one two three : Line) → Keeps one two → Keeps two three → Keeps one three
keeps_then one two three first second = (same_then one two three first.0 second.0, second.1 ∙ first.1)

-- ---- which slot was begun

pub begins_none : (slot : Option ℕ) (old new : Line) → from_of new.beat ≡ from_of old.beat → BeginsAt slot (state_at old) (state_at new)
begins_none slot old new same = inl same

-- behind calls that begin none, and before them
pub begins_behind : (slot : Option ℕ) (one two three : Line) → from_of two.beat ≡ from_of one.beat → BeginsAt slot (state_at two) (state_at three) → BeginsAt slot (state_at one) (state_at three)
begins_behind slot one two three same begins = elim begins as (λ _. BeginsAt slot (state_at one) (state_at three)) [
  | inl still ↦ inl (still ∙ same)
  | inr is ↦ inr is
]

pub begins_before : (slot : Option ℕ) (one two three : Line) → BeginsAt slot (state_at one) (state_at two) → from_of three.beat ≡ from_of two.beat → BeginsAt slot (state_at one) (state_at three)
begins_before slot one two three begins same = elim begins as (λ _. BeginsAt slot (state_at one) (state_at three)) [
  | inl still ↦ inl (same ∙ still)
  | inr is ↦ inr (is ∙ ap Some (sym same))
]

-- the one that was chosen, which is the last one or the one that may be begun
pub begins_chosen : (slot : Option ℕ) (one two three : Line) (chosen : ℕ) → from_of two.beat ≡ from_of one.beat → (chosen ≡ from_of one.beat) ⊎ (slot ≡ Some chosen)
    → (from_of three.beat ≡ from_of two.beat) ⊎ (from_of three.beat ≡ chosen) → BeginsAt slot (state_at one) (state_at three)
begins_chosen slot one two three chosen same of began = elim began as (λ _. BeginsAt slot (state_at one) (state_at three)) [
  | inl still ↦ inl (still ∙ same)
  | inr is ↦ elim of as (λ _. BeginsAt slot (state_at one) (state_at three)) [
    | inl last ↦ inl (is ∙ last)
    | inr may ↦ inr (may ∙ ap Some (sym is))
  ]
]

-- what was done with its socket, as of the connection that stands and as the call says whose it is
pub by_link : (line : Line) (from : Source) (acted : List Act → Type 0) (link : Link) (wire : Wire) → line.connection ≡ connection.Up link → from ≡ source_of line
    → WiredBy (terms_of line) from acted (wire_of link) wire → WiredBy (terms_of line) (source_of line) acted (wire_at line) wire
by_link line from acted link wire is own by =
    subst (λ (some : Wire). WiredBy (terms_of line) (source_of line) acted some wire) (sym (ap wire_in is)) (subst (λ (some : Source). WiredBy (terms_of line) some acted (wire_of link) wire) own by)

-- a failure that is handed on
pub told_on : (T X : Type 0) (stop : Stop) (told : Result X Stop) (wire wire' : Wire) → IsErr told → IsErrAnd told (λ some. some ≡ stop) → IsShown {T = T} (Err stop) wire wire' → IsShown told wire wire'
told_on T X stop (Ok value) wire wire' failed is shows = absurd (cc)
told_on T X stop (Err other) wire wire' failed is shows = subst (λ (some : Stop). IsShown {T = X} (Err some) wire wire') (sym is) (shown_on T X stop wire wire' shows)

module _ {K : Type 0} {g : Ghosts K} where
  -- a line of which only what its connection doesn't show changed, while the office was only asked
  pub tends_kept : {T : Type 0} (told : Result T Stop) (old new : Line) (office office' : Office K g) (acted : List Act → Type 0)
      → acted [] → Keeps old new → GoesAlong Nothing office office' → Tends told old new office office' acted
  tends_kept told old new office office' acted none keeps along =
      (keeps.0, (wire_at old, part_asked (WireMoves (terms_of old)) (source_of old) office office' acted (wire_at old) along none, shown told (wire_at old) (wire_at new) keeps.1))

  -- its own, as another line's that is the same
  pub wired_at : (one two : Line) (office office' : Office K g) (acted : List Act → Type 0) (wire wire' : Wire) → IsSame one two
      → Wired (terms_of two) (source_of two) office office' acted wire wire' → Wired (terms_of one) (source_of one) office office' acted wire wire'
  wired_at one two office office' acted wire wire' same wired =
      subst (λ (place : ℕ). Wired (terms_of one) (source.Line place) office office' acted wire wire') same.place
      (subst (λ (terms : Terms). Wired terms (source.Line two.place) office office' acted wire wire') (terms_same one two (one_of one two same)) wired)

  -- and then a call
  pub tends_behind : {T : Type 0} (told : Result T Stop) (one two three : Line) (office office' : Office K g) (acted : List Act → Type 0)
      → Keeps one two → Tends told two three office office' acted → Tends told one three office office' acted
  tends_behind told one two three office office' acted keeps tends = (
    same_then one two three keeps.0 tends.0,
    (
      tends.1.0,
      subst (λ (some : Wire). Wired (terms_of one) (source_of one) office office' acted some tends.1.0) keeps.1 (wired_at one two office office' acted (wire_at two) tends.1.0 keeps.0 tends.1.1),
      tends.1.2,
    ),
  )

  -- nothing was done at all
  pub tends_still : {T : Type 0} (told : Result T Stop) (line : Line) (office : Office K g) (acted : List Act → Type 0) → acted [] → Tends told line line office office acted
  tends_still told line office acted none = tends_kept told line line office office acted none (record { place = refl; name = refl; most = refl; from = refl }, refl) (along_still office)

  -- a call behind another one that ended well
  pub tends_then : {T X : Type 0} (value : X) (told : Result T Stop) (one two three : Line) (office office' office'' : Office K g) (acted acted' acted'' : List Act → Type 0)
      → ((first second : List Act) → acted first → acted' second → acted'' (second ++ first))
      → Tends (Ok value) one two office office' acted → Tends told two three office' office'' acted' → Tends told one three office office'' acted''
  tends_then value told one two three office office' office'' acted acted' acted'' joins first second =
      let wire = first.1.0 in
      let end = second.1.0 in (
        same_then one two three first.0 second.0,
        (
          end,
          part_then (WireMoves (terms_of one)) (source_of one) office office' office'' acted acted' acted'' (wire_at one) wire end joins first.1.1
              (subst (λ (some : Wire). Wired (terms_of one) (source_of one) office' office'' acted' some end) first.1.2
              (wired_at one two office' office'' acted' (wire_at two) end first.0 second.1.1)),
          second.1.2,
        ),
      )

  -- the same, where neither has to do with sockets
  pub tends_next : {T X : Type 0} (value : X) (told : Result T Stop) (one two three : Line) (office office' office'' : Office K g)
      → Tends (Ok value) one two office office' (λ acts. acts ≡ []) → Tends told two three office' office'' (λ acts. acts ≡ []) → Tends told one three office office'' (λ acts. acts ≡ [])
  tends_next value told one two three office office' office'' =
      tends_then value told one two three office office' office'' (λ acts. acts ≡ []) (λ acts. acts ≡ []) (λ acts. acts ≡ [])
      (λ first second none none'. ap (λ (acts : List Act). acts ++ first) none' ∙ none)

  -- or the second doesn't
  pub tends_after : {T X : Type 0} (value : X) (told : Result T Stop) (one two three : Line) (office office' office'' : Office K g) (acted : List Act → Type 0)
      → Tends (Ok value) one two office office' acted → Tends told two three office' office'' (λ acts. acts ≡ []) → Tends told one three office office'' acted
  tends_after value told one two three office office' office'' acted =
      tends_then value told one two three office office' office'' acted (λ acts. acts ≡ []) acted
      (λ first second some none. subst (λ (acts : List Act). acted (acts ++ first)) (sym none) some)

  -- a failure that is handed on
  pub tends_on : (T X : Type 0) (stop : Stop) (told : Result X Stop) (old new : Line) (office office' : Office K g) (acted : List Act → Type 0)
      → IsErr told → IsErrAnd told (λ some. some ≡ stop) → Tends {T = T} (Err stop) old new office office' acted → Tends told old new office office' acted
  tends_on T X stop told old new office office' acted failed is tends =
      (tends.0, (tends.1.0, tends.1.1, told_on T X stop told tends.1.0 (wire_at new) failed is tends.1.2))

  -- what was done over the connection that stands
  pub over_link : (line : Line) (office office' : Office K g) (acted : List Act → Type 0) (link : Link) (wire : Wire) → line.connection ≡ connection.Up link
      → Wired (terms_of line) (source_of line) office office' acted (wire_of link) wire → Wired (terms_of line) (source_of line) office office' acted (wire_at line) wire
  over_link line office office' acted link wire is = subst (λ (some : Wire). Wired (terms_of line) (source_of line) office office' acted some wire) (sym (ap wire_in is))

  -- the line was opened, or it wasn't
  pub opened_so : (line : Line) (office office' : Office K g) (conn : ℕ) (name : List ℕ) → name ≡ line.stations.line → wire_at line ≡ Begun → Answered (Opens name) office office' (Opened conn)
      → Wired (terms_of line) (source_of line) office office' (λ acts. acts ≡ []) (wire_at line) (Up (fresh conn))
  opened_so line office office' conn name is begun answered =
      subst (λ (wire : Wire). Wired (terms_of line) (source_of line) office office' (λ acts. acts ≡ []) wire (Up (fresh conn))) (sym begun)
      (wired_opened (terms_of line) (source_of line) office office' conn (subst (λ (some : List ℕ). Answered (Opens some) office office' (Opened conn)) is answered))

  pub unopened_so : (line : Line) (office office' : Office K g) (name : List ℕ) → name ≡ line.stations.line → wire_at line ≡ Begun → Misses (Opens name) office office'
      → Wired (terms_of line) (source_of line) office office' (λ acts. acts ≡ []) (wire_at line) (wire_at line)
  unopened_so line office office' name is begun misses =
      subst (λ (wire : Wire). Wired (terms_of line) (source_of line) office office' (λ acts. acts ≡ []) wire wire) (sym begun)
      (wired_unopened (terms_of line) (source_of line) office office' (subst (λ (some : List ℕ). Misses (Opens some) office office') is misses))

  -- what was done with its socket alone
  pub tends_handled : {T : Type 0} (told : Result T Stop) (old new : Line) (office : Office K g) (acted : List Act → Type 0) → Handles told old new acted → Tends told old new office office acted
  tends_handled told old new office acted handles =
      (handles.0, (handles.1.0, part_acting (WireMoves (terms_of old)) (source_of old) office acted (wire_at old) handles.1.0 handles.1.1, handles.1.2))

  -- queries of devices were given up
  pub tends_given : (old new : Line) (office : Office K g) → IsSame old new → GivesUp (wire_at old) (wire_at new) → Tends {T = Unit {0}} (Ok (tt {0})) old new office office (λ acts. acts ≡ [])
  tends_given old new office same gives = (same, (without gives.0 (wire_at old), wired_given (terms_of old) (source_of old) office (wire_at old) gives.0, gives.1))

  pub tends_settled : {T : Type 0} (told : Result T Stop) (old new : Line) (office : Office K g) → IsSame old new → Settles (wire_at old) (wire_at new)
      → Tends told old new office office (λ acts. acts ≡ [])
  tends_settled told old new office same settles =
      (same, (wire_at new, wired_settled (terms_of old) (source_of old) office (wire_at old) (wire_at new) settles, shown told (wire_at new) (wire_at new) refl))

  -- nothing was done with sockets
  pub tends_silent : {T : Type 0} (told : Result T Stop) (old new : Line) (office office' : Office K g) (acted : List Act → Type 0) → acted []
      → Tends told old new office office' (λ acts. acts ≡ []) → Tends told old new office office' acted
  tends_silent told old new office office' acted none tends = (
    tends.0,
    (
      tends.1.0,
      goes_wider office office' (λ acts. acts ≡ []) acted (λ now deeds. AllOf (Is (source_of old)) deeds × Passes (WireMoves (terms_of old)) (source_of old) now (wire_at old) deeds tends.1.0)
          (λ now deeds. AllOf (Is (source_of old)) deeds × Passes (WireMoves (terms_of old)) (source_of old) now (wire_at old) deeds tends.1.0)
          (λ acts silent. subst acted (sym silent) none) (λ now deeds kept. kept) tends.1.1,
      tends.1.2,
    ),
  )

  -- ---- where a round may begin

  -- its own, as another line's that is the same
  pub lined_at : (one two : Line) (office office' : Office K g) (acted : List Act → Type 0) (state state' : State) → IsOne one two
      → Lined (terms_of two) (source_of two) office office' acted state state' → Lined (terms_of one) (source_of one) office office' acted state state'
  lined_at one two office office' acted state state' same lined =
      subst (λ (place : ℕ). Lined (terms_of one) (source.Line place) office office' acted state state') same.place
      (subst (λ (terms : Terms). Lined terms (source.Line two.place) office office' acted state state') (terms_same one two same) lined)

  pub advances_of : {T : Type 0} (told : Result T Stop) (old new : Line) (office office' : Office K g) (acted : List Act → Type 0) → Tends told old new office office' acted
      → Advances told old new office office' acted
  advances_of told old new office office' acted tends = (
    one_of old new tends.0,
    (
      record { from = from_of old.beat; wire = tends.1.0 },
      lined_of (terms_of old) (source_of old) (from_of old.beat) office office' acted (wire_at old) tends.1.0 tends.1.1,
      tends.0.from,
      tends.1.2,
    ),
  )

  -- the round of a slot was begun over the connection that stands
  pub advances_start : {T : Type 0} (value : T) (old new : Line) (office office' : Office K g) (link link' : Link) (slot : ℕ) → old.connection ≡ connection.Up link → IsOne old new
      → from_of old.beat ≤ slot → from_of new.beat ≡ slot → wire_at new ≡ wire_of link' → standing_of link' ≡ record (standing_of link) { round = Some slot } → GoesAlong Nothing office office'
      → Advances (Ok value) old new office office' (λ acts. acts ≡ [])
  advances_start value old new office office' link link' slot is same later from up round along = (
    same,
    (
      record { from = slot; wire = Up (record (standing_of link) { round = Some slot }) },
      part_then (LineMoves (terms_of old)) (source_of old) office office office' (λ acts. acts ≡ []) (λ acts. acts ≡ []) (λ acts. acts ≡ []) (state_at old)
          (record { from = slot; wire = Up (record (standing_of link) { round = Some slot }) }) (record { from = slot; wire = Up (record (standing_of link) { round = Some slot }) })
          (λ first second none none'. ap (λ (acts : List Act). acts ++ first) none' ∙ none)
          (subst (λ (wire : Wire). Lined (terms_of old) (source_of old) office office (λ acts. acts ≡ []) (record { from = from_of old.beat; wire = wire })
          (record { from = slot; wire = Up (record (standing_of link) { round = Some slot }) })) (sym (ap wire_in is))
          (lined_start (terms_of old) (source_of old) (from_of old.beat) office (standing_of link) slot later))
          (part_asked (LineMoves (terms_of old)) (source_of old) office office' (λ acts. acts ≡ []) (record { from = slot; wire = Up (record (standing_of link) { round = Some slot }) }) along refl),
      from,
      up ∙ ap Up round,
    ),
  )

  pub advances_then : {T X : Type 0} (value : X) (told : Result T Stop) (one two three : Line) (office office' office'' : Office K g) (acted acted' acted'' : List Act → Type 0)
      → ((first second : List Act) → acted first → acted' second → acted'' (second ++ first))
      → Advances (Ok value) one two office office' acted → Advances told two three office' office'' acted' → Advances told one three office office'' acted''
  advances_then value told one two three office office' office'' acted acted' acted'' joins first second =
      let state = first.1.0 in
      let end = second.1.0 in
      let same = state_shown two state first.1.2 first.1.3 in (
        one_then one two three first.0 second.0,
        (
          end,
          part_then (LineMoves (terms_of one)) (source_of one) office office' office'' acted acted' acted'' (state_at one) state end joins first.1.1
              (subst (λ (some : State). Lined (terms_of one) (source_of one) office' office'' acted' some end) same
              (lined_at one two office' office'' acted' (state_at two) end first.0 second.1.1)),
          second.1.2,
          second.1.3,
        ),
      )

  -- the same, where neither has to do with sockets
  pub advances_next : {T X : Type 0} (value : X) (told : Result T Stop) (one two three : Line) (office office' office'' : Office K g)
      → Advances (Ok value) one two office office' (λ acts. acts ≡ []) → Advances told two three office' office'' (λ acts. acts ≡ [])
      → Advances told one three office office'' (λ acts. acts ≡ [])
  advances_next value told one two three office office' office'' =
      advances_then value told one two three office office' office'' (λ acts. acts ≡ []) (λ acts. acts ≡ []) (λ acts. acts ≡ [])
      (λ first second none none'. ap (λ (acts : List Act). acts ++ first) none' ∙ none)

  -- or the second doesn't
  pub advances_after : {T X : Type 0} (value : X) (told : Result T Stop) (one two three : Line) (office office' office'' : Office K g) (acted : List Act → Type 0)
      → Advances (Ok value) one two office office' acted → Advances told two three office' office'' (λ acts. acts ≡ []) → Advances told one three office office'' acted
  advances_after value told one two three office office' office'' acted =
      advances_then value told one two three office office' office'' acted (λ acts. acts ≡ []) acted
      (λ first second some none. subst (λ (acts : List Act). acted (acts ++ first)) (sym none) some)

  -- a failure that is handed on
  pub advances_on : (T X : Type 0) (stop : Stop) (told : Result X Stop) (old new : Line) (office office' : Office K g) (acted : List Act → Type 0)
      → IsErr told → IsErrAnd told (λ some. some ≡ stop) → Advances {T = T} (Err stop) old new office office' acted → Advances told old new office office' acted
  advances_on T X stop told old new office office' acted failed is advances =
      (advances.0, (advances.1.0, advances.1.1, advances.1.2, told_on T X stop told advances.1.0.wire (wire_at new) failed is advances.1.3))

  -- ---- a turn

  -- how the line stood shows, and then only its connection's round may have ended
  pub turned_so : (one two three : Line) (office office' : Office K g) (acted : List Act → Type 0) (state : State) → IsOne one two → IsSame two three
      → Lined (terms_of one) (source_of one) office office' acted (state_at one) state → state_at two ≡ state → Settles (wire_at two) (wire_at three)
      → IsOne one three × Lined (terms_of one) (source_of one) office office' acted (state_at one) (state_at three)
  turned_so one two three office office' acted state same still lined shows settles = (
    one_then one two three same (one_of two three still),
    part_then (LineMoves (terms_of one)) (source_of one) office office' office' acted (λ acts. acts ≡ []) acted (state_at one) state (state_at three)
        (λ first second some none. subst (λ (acts : List Act). acted (acts ++ first)) (sym none) some) lined
        (subst (λ (some : State). Lined (terms_of one) (source_of one) office' office' (λ acts. acts ≡ []) some (state_at three)) shows
        (subst (λ (from : ℕ). Lined (terms_of one) (source_of one) office' office' (λ acts. acts ≡ []) (state_at two) (record { from = from; wire = wire_at three })) (sym still.from)
        (lined_of (terms_of one) (source_of one) (from_of two.beat) office' office' (λ acts. acts ≡ []) (wire_at two) (wire_at three)
        (wired_settled (terms_of one) (source_of one) office' (wire_at two) (wire_at three) settles)))),
  )

  -- the connection was lost, and is closed
  pub turned_lost : (one two three : Line) (office office' : Office K g) (acted acted' acted'' : List Act → Type 0) (state : State)
      → ((first second : List Act) → acted first → acted' second → acted'' (second ++ first)) → IsOne one two → IsSame two three → from_of two.beat ≡ state.from → wire_at three ≡ Down
      → Lined (terms_of one) (source_of one) office office' acted (state_at one) state → acted' (Closes (source_of two) ∷ [])
      → IsOne one three × Lined (terms_of one) (source_of one) office office' acted'' (state_at one) (state_at three)
  turned_lost one two three office office' acted acted' acted'' state joins same still from down lined closed =
      let ended : record { from = state.from; wire = Down } ≡ state_at three =
      ap (λ (some : ℕ). record { from = some; wire = Down }) (sym (still.from ∙ from)) ∙ ap (λ (wire : Wire). record { from = from_of three.beat; wire = wire }) (sym down) in (
        one_then one two three same (one_of two three still),
        subst (λ (some : State). Lined (terms_of one) (source_of one) office office' acted'' (state_at one) some) ended
            (part_then (LineMoves (terms_of one)) (source_of one) office office' office' acted acted' acted'' (state_at one) state (record { from = state.from; wire = Down }) joins lined
            (lined_of (terms_of one) (source_of one) state.from office' office' acted' state.wire Down
            (part_acting (WireMoves (terms_of one)) (source_of one) office' acted' state.wire Down
            (acting_once (WireMoves (terms_of one)) (source_of one) acted' (Closes (source_of two)) state.wire Down closed (ap source.Line same.place) (λ now. refl))))),
      )
