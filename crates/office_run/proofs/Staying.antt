-- What turns make of an office and its sockets.
use Rattle.std.proofs.Common.{◌≡◌, ◌≢◌, ◌≤◌, ◌+◌, ◌⊎◌, inl, inr, ℕ, zero, suc, Bool, List, [], ◌∷◌, ◌++◌, Option, Some, None, Result, refl, sym, ◌∙◌, subst, arith}
use Rattle.std.specs.Prelude.{⊤}
use Rattle.poll_book.specs.declared.keeper.Neighbours.{Ghosts}
use Rattle.run_beat.specs.declared.sockets.Source.TheVariants.{Caller, Line}
use Rattle.run_beat.specs.declared.sockets.SocketFault.{SocketFault}
use Rattle.run_beat.specs.Acts.{Act}
use Rattle.run_beat.specs.Turns.{Turn, Turns}
use Rattle.run_beat.proofs.Along.{by_turn, by_turns}
use Rattle.office_core.specs.declared.office.Office.{Office}
use Rattle.office_core.specs.History.{History}
use Rattle.office_core.specs.Proceeding.{stepped}
use Rattle.run_deeds.specs.Deeds.{AllOf, Deed, GoesBy, Is, IsNot, Passes, steps_of}
use Rattle.run_callers.specs.Sessions.{Exchanges, Free, Moves, Session, Through}
use Rattle.run_lines.specs.Wires.{Down, LineMoves, Lined, State, Terms}
use Rattle.run_deeds.proofs.Deeds.{all_then, all_wider, goes_still, goes_then, goes_wider}
use Rattle.run_deeds.proofs.Passing.{passes_others, passes_then}

-- what is in the place of a number
abbrev pub nth : {C : Type 0} → List C → ℕ → Option C
nth [] at = None
nth (place ∷ places) zero = Some place
nth (place ∷ places) (suc at) = nth places at

-- what is known of it
abbrev pub known : {C T : Type 0} → (C → T) → T → Option C → T
known of none None = none
known of none (Some place) = of place

module _ {C : Type 0} (at_of : C → ℕ) where
  -- places are numbered from a first one on
  abbrev pub Numbered : ℕ → List C → Type 0
  Numbered first [] = ⊤
  Numbered first (place ∷ places) = (at_of place ≡ first) × Numbered (suc first) places

  renumbered : (first : ℕ) (front : List C) (place place' : C) (back : List C) → at_of place' ≡ at_of place → Numbered first (front ++ place ∷ back) → Numbered first (front ++ place' ∷ back)
  renumbered first [] place place' back same numbered = (same ∙ numbered.0, numbered.1)
  renumbered first (other ∷ front) place place' back same numbered = (numbered.0, renumbered (suc first) front place place' back same numbered.1)

  numbered_from : (first : ℕ) (front : List C) (place : C) (back : List C) → Numbered first (front ++ place ∷ back) → first ≤ at_of place
  numbered_from first [] place back numbered = omega (arith, numbered.0)
  numbered_from first (other ∷ front) place back numbered = omega (arith, numbered_from (suc first) front place back numbered.1)

  -- a number is this place's, or another one's, which isn't changed
  found : (first : ℕ) (front : List C) (place place' : C) (back : List C) (at : ℕ) → Numbered first (front ++ place ∷ back)
      → ((nth (front ++ place ∷ back) at ≡ Some place) × (nth (front ++ place' ∷ back) at ≡ Some place') × (at_of place ≡ first + at))
      ⊎ ((nth (front ++ place ∷ back) at ≡ nth (front ++ place' ∷ back) at) × (at_of place ≢ first + at))
  found first [] place place' back zero numbered = inl (refl, refl, omega (arith, numbered.0))
  found first [] place place' back (suc at) numbered = inr (refl, λ same. absurd (omega (arith, numbered.0, same)))
  found first (other ∷ front) place place' back zero numbered = inr (refl, λ same. absurd (omega (arith, numbered_from (suc first) front place back numbered.1, same)))
  found first (other ∷ front) place place' back (suc at) numbered = elim (found (suc first) front place place' back at numbered.1) as (λ _.
      ((nth (front ++ place ∷ back) at ≡ Some place) × (nth (front ++ place' ∷ back) at ≡ Some place') × (at_of place ≡ first + suc at))
      ⊎ ((nth (front ++ place ∷ back) at ≡ nth (front ++ place' ∷ back) at) × (at_of place ≢ first + suc at))) [
        | inl here ↦ inl (here.0, here.1, omega (arith, here.2))
        | inr there ↦ inr (there.0, λ same. there.1 (omega (arith, same)))
      ]

-- what doesn't change of one changes of none
known_same : {C T : Type 0} (of : C → T) (none : T) (front : List C) (place place' : C) (back : List C) (at : ℕ) → of place' ≡ of place
    → known of none (nth (front ++ place' ∷ back) at) ≡ known of none (nth (front ++ place ∷ back) at)
known_same of none [] place place' back zero same = same
known_same of none [] place place' back (suc at) same = refl
known_same of none (other ∷ front) place place' back zero same = refl
known_same of none (other ∷ front) place place' back (suc at) same = known_same of none front place place' back at same

-- a place that there isn't stays away
still_none : {C : Type 0} (front : List C) (place place' : C) (back : List C) (at : ℕ) → nth (front ++ place ∷ back) at ≡ None → nth (front ++ place' ∷ back) at ≡ None
still_none [] place place' back zero none = absurd (cc)
still_none [] place place' back (suc at) none = none
still_none (other ∷ front) place place' back zero none = absurd (cc)
still_none (other ∷ front) place place' back (suc at) none = still_none front place place' back at none

another : (place caller : ℕ) → Caller place ≡ Caller caller → place ≡ 0 + caller
another place caller same = let alike : place ≡ caller = cc in omega (arith, alike)

another_line : (place line : ℕ) → Line place ≡ Line line → place ≡ 0 + line
another_line place line same = let alike : place ≡ line = cc in omega (arith, alike)

module _ {K S M N L C W : Type 0} {g : Ghosts K} (office_of : W → Office K g) (sockets_of : W → S) (office_name : W → M) (sockets_name : W → N)
    (acts : S → List Act → S → Type 0) (rests : (sockets : S) → acts sockets [] sockets)
    (joins : (one two three : S) (first second : List Act) → acts one first two → acts two second three → acts one (second ++ first) three)
    (line_at : L → ℕ) (terms_of : L → Terms) (state_of : L → State) (at_of : C → ℕ) (session_of : C → Session)
    (of_line : L → W → Bool → L → W → Type 0) (of_caller : C → W → Bool → C → W → Type 0) (waits : W → Bool → Result (Unit {0}) SocketFault → W → Type 0) where
  abbrev Acted : W → W → List Act → Type 0
  Acted one two some = acts (sockets_of one) some (sockets_of two)

  abbrev pub terms_by : List L → ℕ → Terms
  terms_by ls line = known terms_of (record { name = []; most = 0 }) (nth ls line)

  abbrev pub state_in : List L → ℕ → State
  state_in ls line = known state_of (record { from = 0; wire = Down }) (nth ls line)

  abbrev pub session_in : List C → ℕ → Session
  session_in cs caller = known session_of Free (nth cs caller)

  -- the lines' connections and the callers' sessions, and no deeds at places that there aren't
  abbrev pub Passed : List L → List C → List L → List C → History → List Deed → Type 0
  Passed ls cs ls' cs' now deeds =
      ((line : ℕ) → Passes (LineMoves (terms_by ls line)) (Line line) now (state_in ls line) deeds (state_in ls' line))
      × ((caller : ℕ) → Through (Caller caller) now (session_in cs caller) deeds (session_in cs' caller))
      × ((caller : ℕ) → nth cs caller ≡ None → AllOf (IsNot (Caller caller)) deeds)

  abbrev pub Goes : List L → List C → W → List L → List C → W → Type 0
  Goes ls cs one ls' cs' two = Numbered line_at 0 ls × Numbered at_of 0 cs
      → (Numbered line_at 0 ls' × Numbered at_of 0 cs' × ((line : ℕ) → terms_by ls' line ≡ terms_by ls line) × ((caller : ℕ) → nth cs caller ≡ None → nth cs' caller ≡ None))
      × (office_name two ≡ office_name one) × (sockets_name two ≡ sockets_name one) × GoesBy (office_of one) (office_of two) (Acted one two) (Passed ls cs ls' cs')

  still : (ls : List L) (cs : List C) (world : W) → Goes ls cs world ls cs world
  still ls cs world numbered = (
    (numbered.0, numbered.1, λ line. refl, λ caller none. none),
    refl,
    refl,
    goes_still (office_of world) (Acted world world) (Passed ls cs ls cs) (rests (sockets_of world)) (λ now. (λ line. refl, λ caller. refl, λ caller none. tt)),
  )

  chains : (ls ls' ls'' : List L) (cs cs' cs'' : List C) (one two three : W) → Goes ls cs one ls' cs' two → Goes ls' cs' two ls'' cs'' three → Goes ls cs one ls'' cs'' three
  chains ls ls' ls'' cs cs' cs'' one two three first second numbered =
      let earlier = first numbered in
      let later = second (earlier.0.0, earlier.0.1) in (
        (later.0.0, later.0.1, λ line. later.0.2 line ∙ earlier.0.2 line, λ caller none. later.0.3 caller (earlier.0.3 caller none)),
        later.1 ∙ earlier.1,
        later.2 ∙ earlier.2,
        goes_then (office_of one) (office_of two) (office_of three) (Acted one two) (Acted two three) (Acted one three) (Passed ls cs ls' cs') (Passed ls' cs' ls'' cs'') (Passed ls cs ls'' cs'')
            (joins (sockets_of one) (sockets_of two) (sockets_of three))
            (λ now some more before after. (
              λ line.
                  passes_then (LineMoves (terms_by ls line)) (Line line) now more some (state_in ls line) (state_in ls' line) (state_in ls'' line)
                  (subst (λ (terms : Terms). Passes (LineMoves terms) (Line line) (stepped now (steps_of some)) (state_in ls' line) more (state_in ls'' line)) (earlier.0.2 line) (after.0 line)) (before.0 line),
              λ caller. passes_then Moves (Caller caller) now more some (session_in cs caller) (session_in cs' caller) (session_in cs'' caller) (after.1 caller) (before.1 caller),
              λ caller none. all_then (IsNot (Caller caller)) more some (after.2 caller (earlier.0.3 caller none)) (before.2 caller none),
            ))
            earlier.3 later.3,
      )

  module _ (line_went : (line : L) (one : W) (more : Bool) (line' : L) (two : W) → of_line line one more line' two
      → (office_name two ≡ office_name one) × (sockets_name two ≡ sockets_name one) × (line_at line' ≡ line_at line) × (terms_of line' ≡ terms_of line)
      × Lined (terms_of line) (Line (line_at line)) (office_of one) (office_of two) (Acted one two) (state_of line) (state_of line'))
      (caller_went : (place : C) (one : W) (more : Bool) (place' : C) (two : W) → of_caller place one more place' two
      → (office_name two ≡ office_name one) × (sockets_name two ≡ sockets_name one) × (at_of place' ≡ at_of place)
      × Exchanges (Caller (at_of place)) (office_of one) (office_of two) (Acted one two) (session_of place) (session_of place'))
      (wait_went : (one : W) (more : Bool) (result : Result (Unit {0}) SocketFault) (two : W) → waits one more result two
      → (office_name two ≡ office_name one) × (sockets_name two ≡ sockets_name one) × (office_of two ≡ office_of one) × Acted one two []) where
    by_line : (front : List L) (line : L) (back : List L) (cs : List C) (one : W) (more : Bool) (line' : L) (two : W)
        → of_line line one more line' two → Goes (front ++ line ∷ back) cs one (front ++ line' ∷ back) cs two
    by_line front line back cs one more line' two step numbered =
        let went = line_went line one more line' two step in
        let before = front ++ line ∷ back in
        let after = front ++ line' ∷ back in (
          (renumbered line_at 0 front line line' back went.2 numbered.0, numbered.1, λ at. known_same terms_of (record { name = []; most = 0 }) front line line' back at went.3, λ caller none. none),
          went.0,
          went.1,
          goes_wider (office_of one) (office_of two) (Acted one two) (Acted one two)
              (λ now deeds. AllOf (Is (Line (line_at line))) deeds × Passes (LineMoves (terms_of line)) (Line (line_at line)) now (state_of line) deeds (state_of line'))
              (Passed before cs after cs) (λ some acted. acted)
              (λ now deeds kept. (
                λ at. elim (found line_at 0 front line line' back at numbered.0) as (λ _.
                    Passes (LineMoves (terms_by before at)) (Line at) now (state_in before at) deeds (state_in after at)) [
                      | inl here ↦
                          subst (λ (some : Option L). Passes (LineMoves (known terms_of (record { name = []; most = 0 }) some)) (Line at) now (known state_of (record { from = 0; wire = Down }) some) deeds (state_in after at)) (sym here.0)
                          (subst (λ (some : Option L). Passes (LineMoves (terms_of line)) (Line at) now (state_of line) deeds (known state_of (record { from = 0; wire = Down }) some)) (sym here.1)
                          (subst (λ (place : ℕ). Passes (LineMoves (terms_of line)) (Line place) now (state_of line) deeds (state_of line')) (omega (arith, here.2)) kept.1))
                      | inr there ↦
                          subst (λ (some : Option L). Passes (LineMoves (terms_by before at)) (Line at) now (state_in before at) deeds (known state_of (record { from = 0; wire = Down }) some)) there.0
                          (passes_others (LineMoves (terms_by before at)) (Line at) (Is (Line (line_at line))) (λ some is same. there.1 (another_line (line_at line) at (sym is ∙ same))) now
                          (state_in before at) deeds kept.0)
                    ],
                λ caller. passes_others Moves (Caller caller) (Is (Line (line_at line))) (λ some is same. absurd (cc (is, same))) now (session_in cs caller) deeds kept.0,
                λ caller none. all_wider (Is (Line (line_at line))) (IsNot (Caller caller)) (λ some is same. absurd (cc (is, same))) deeds kept.0,
              ))
              went.4,
        )

    by_caller : (ls : List L) (front : List C) (place : C) (back : List C) (one : W) (more : Bool) (place' : C) (two : W)
        → of_caller place one more place' two → Goes ls (front ++ place ∷ back) one ls (front ++ place' ∷ back) two
    by_caller ls front place back one more place' two step numbered =
        let went = caller_went place one more place' two step in
        let before = front ++ place ∷ back in
        let after = front ++ place' ∷ back in (
          (numbered.0, renumbered at_of 0 front place place' back went.2 numbered.1, λ line. refl, λ caller none. still_none front place place' back caller none),
          went.0,
          went.1,
          goes_wider (office_of one) (office_of two) (Acted one two) (Acted one two)
              (λ now deeds. AllOf (Is (Caller (at_of place))) deeds × Through (Caller (at_of place)) now (session_of place) deeds (session_of place'))
              (Passed ls before ls after) (λ some acted. acted)
              (λ now deeds kept. (
                λ line. passes_others (LineMoves (terms_by ls line)) (Line line) (Is (Caller (at_of place))) (λ some is same. absurd (cc (is, same))) now (state_in ls line) deeds kept.0,
                λ caller. elim (found at_of 0 front place place' back caller numbered.1) as (λ _. Through (Caller caller) now (session_in before caller) deeds (session_in after caller)) [
                  | inl here ↦
                      subst (λ (some : Option C). Through (Caller caller) now (known session_of Free some) deeds (session_in after caller)) (sym here.0)
                      (subst (λ (some : Option C). Through (Caller caller) now (session_of place) deeds (known session_of Free some)) (sym here.1)
                      (subst (λ (at : ℕ). Through (Caller at) now (session_of place) deeds (session_of place')) (omega (arith, here.2)) kept.1))
                  | inr there ↦
                      subst (λ (some : Option C). Through (Caller caller) now (session_in before caller) deeds (known session_of Free some)) there.0
                      (passes_others Moves (Caller caller) (Is (Caller (at_of place))) (λ some is same. there.1 (another (at_of place) caller (sym is ∙ same))) now
                      (session_in before caller) deeds kept.0)
                ],
                λ caller none. elim (found at_of 0 front place place' back caller numbered.1) as (λ _. AllOf (IsNot (Caller caller)) deeds) [
                  | inl here ↦ absurd (cc (none, here.0))
                  | inr there ↦
                      all_wider (Is (Caller (at_of place))) (IsNot (Caller caller)) (λ some is same. there.1 (another (at_of place) caller (sym is ∙ same))) deeds kept.0
                ],
              ))
              went.3,
        )

    by_wait : (ls : List L) (cs : List C) (one : W) (more : Bool) (result : Result (Unit {0}) SocketFault) (two : W) → waits one more result two → Goes ls cs one ls cs two
    by_wait ls cs one more result two waited numbered =
        let went = wait_went one more result two waited in (
          (numbered.0, numbered.1, λ line. refl, λ caller none. none),
          went.0,
          went.1,
          subst (λ (office : Office K g). GoesBy (office_of one) office (Acted one two) (Passed ls cs ls cs)) (sym went.2)
              (goes_still (office_of one) (Acted one two) (Passed ls cs ls cs) went.3 (λ now. (λ line. refl, λ caller. refl, λ caller none. tt))),
        )

    pub turns_go : (turns : ℕ) (ls : List L) (cs : List C) (one : W) (ls' : List L) (cs' : List C) (two : W)
        → Turns of_line of_caller waits turns ls cs one ls' cs' two → Goes ls cs one ls' cs' two
    turns_go = by_turns of_line of_caller waits Goes still chains by_line by_caller by_wait

    -- the last one of which failed
    pub turns_fail : (turns : ℕ) (ls ls' ls'' : List L) (cs cs' cs'' : List C) (one two three : W) (result : Result (Unit {0}) SocketFault)
        → Turns of_line of_caller waits turns ls cs one ls' cs' two → Turn of_line of_caller waits ls' cs' two result ls'' cs'' three → Goes ls cs one ls'' cs'' three
    turns_fail turns ls ls' ls'' cs cs' cs'' one two three result turned last =
        chains ls ls' ls'' cs cs' cs'' one two three (turns_go turns ls cs one ls' cs' two turned)
        (by_turn of_line of_caller waits Goes still chains by_line by_caller by_wait ls' cs' two result ls'' cs'' three last)
