-- A run begins with lines of which no connection stands, and with places where nobody is.
use Rattle.std.proofs.Common.{◌≡◌, ◌+◌, ◌<◌, ◌≤◌, ◌∙◌, None, ℕ, zero, suc, List, [], ◌∷◌, ◌++◌, length, refl, sym, ap, subst, arith}
use Rattle.std.specs.Prelude.{get_or, map, take}
use Rattle.std.proofs.Math.Seq.{take-suc}
use Rattle.std.proofs.lemmas.List.{map-append}
use Rattle.point_list.specs.declared.site.Line.{Line as SiteLine}
use Rattle.poll_book.specs.declared.keeper.Neighbours.{Ghosts}
use Rattle.run_beat.specs.declared.sockets.Source.TheVariants as source
use Rattle.run_beat.specs.Acts.{Act}
use Rattle.office_core.specs.declared.office.Office.{Office}
use Rattle.run_lines.specs.declared.line.Line.{Line}
use Rattle.run_callers.specs.declared.place.Place.{Place}
use Rattle.run_callers.specs.Callers.{at_of, session_at}
use Rattle.run_deeds.specs.Deeds.{AllOf, GoesBy, IsNot, Passes}
use Rattle.run_lines.specs.Lines.{place_of, state_at, terms_of}
use Rattle.run_callers.specs.Sessions.{Free, Session, Through}
use Rattle.run_lines.specs.Wires.{Down, LineMoves, State, Terms}
use Rattle.office_run.specs.Beginnings.{AreDown, AreEmpty, all_terms, terms_in}
use Rattle.office_run.specs.Parts.{AreServed, AreWired, terms_at}
use Rattle.run_deeds.proofs.Deeds.{goes_wider}
use Rattle.office_run.proofs.Staying.{Numbered, known, nth}

pub one_more_down : (first : ℕ) (lines : List Line) (line : Line) → AreDown first lines → place_of line ≡ first + length lines → state_at line ≡ record { from = 0; wire = Down } → AreDown first (lines ++ line ∷ [])
one_more_down first [] line down at is = (omega (arith, at), is, tt)
one_more_down first (other ∷ lines) line down at is = (down.0, down.1, one_more_down (suc first) lines line down.2 (omega (arith, at)) is)

pub one_more_terms : (lines : List Line) (line : Line) (all : List SiteLine) (place : ℕ) (one : SiteLine) → all_terms lines ≡ map terms_in (take place all) → terms_of line ≡ terms_in one
    → (place < length all) × (get_or all place one ≡ one) → all_terms (lines ++ line ∷ []) ≡ map terms_in (take (place + 1) all)
one_more_terms lines line all place one so_far named at =
    let next : suc place ≡ place + 1 = omega arith in
    map-append terms_of lines (line ∷ []) ∙ ap (λ (all' : List Terms). all' ++ terms_of line ∷ []) so_far ∙ ap (λ (terms : Terms). map terms_in (take place all) ++ terms ∷ []) named
    ∙ ap (λ (last : SiteLine). map terms_in (take place all) ++ terms_in last ∷ []) (sym at.1)
    ∙ sym (map-append terms_in (take place all) (get_or all place one ∷ []))
    ∙ ap (map terms_in) (sym (take-suc all place one at.0) ∙ ap (λ (n : ℕ). take n all) next)

pub numbered_down : (first : ℕ) (lines : List Line) → AreDown first lines → Numbered place_of first lines
numbered_down first [] down = tt
numbered_down first (line ∷ lines) down = (down.0, numbered_down (suc first) lines down.2)

down_down : (first : ℕ) (lines : List Line) (place : ℕ) → AreDown first lines → known state_at (record { from = 0; wire = Down }) (nth lines place) ≡ record { from = 0; wire = Down }
down_down first [] place down = refl
down_down first (line ∷ lines) zero down = down.1
down_down first (line ∷ lines) (suc place) down = down_down (suc first) lines place down.2

named : (lines : List Line) (place : ℕ) → known terms_of (record { name = []; most = 0 }) (nth lines place) ≡ terms_at (all_terms lines) place
named [] place = refl
named (line ∷ lines) zero = refl
named (line ∷ lines) (suc place) = named lines place

-- ---- places with nobody there

pub one_more_empty : (first : ℕ) (places : List Place) (place : Place) → AreEmpty first places → at_of place ≡ first + length places → session_at place ≡ Free
    → AreEmpty first (places ++ place ∷ [])
one_more_empty first [] place empty at free = (omega (arith, at), free, tt)
one_more_empty first (other ∷ places) place empty at free = (empty.0, empty.1, one_more_empty (suc first) places place empty.2 (omega (arith, at)) free)

pub numbered_empty : (first : ℕ) (places : List Place) → AreEmpty first places → Numbered at_of first places
numbered_empty first [] empty = tt
numbered_empty first (place ∷ places) empty = (empty.0, numbered_empty (suc first) places empty.2)

free_empty : (first : ℕ) (places : List Place) (caller : ℕ) → AreEmpty first places → known session_at Free (nth places caller) ≡ Free
free_empty first [] caller empty = refl
free_empty first (place ∷ places) zero empty = empty.1
free_empty first (place ∷ places) (suc caller) empty = free_empty (suc first) places caller empty.2

none_behind : (places : List Place) (caller : ℕ) → length places ≤ caller → nth places caller ≡ None
none_behind [] caller few = refl
none_behind (place ∷ places) zero few = absurd (omega (arith, few))
none_behind (place ∷ places) (suc caller) few = none_behind places caller (omega (arith, few))

-- ---- a run

-- each line went on from there, and whoever was taken was served
pub from_nothing : {K : Type 0} {g : Ghosts K} (old new : Office K g) (acted : List Act → Type 0) (lines lines' : List Line) (places places' : List Place) → AreDown 0 lines → AreEmpty 0 places → length places ≤ 64
    → GoesBy old new acted (λ now deeds.
    ((line : ℕ) → Passes (LineMoves (known terms_of (record { name = []; most = 0 }) (nth lines line))) (source.Line line) now (known state_at (record { from = 0; wire = Down }) (nth lines line)) deeds (known state_at (record { from = 0; wire = Down }) (nth lines' line)))
    × ((caller : ℕ) → Through (source.Caller caller) now (known session_at Free (nth places caller)) deeds (known session_at Free (nth places' caller)))
    × ((caller : ℕ) → nth places caller ≡ None → AllOf (IsNot (source.Caller caller)) deeds))
    → GoesBy old new acted (λ now deeds. AreWired (all_terms lines) now deeds × AreServed now deeds)
from_nothing old new acted lines lines' places places' down empty few =
    goes_wider old new acted acted
    (λ now deeds. ((line : ℕ) → Passes (LineMoves (known terms_of (record { name = []; most = 0 }) (nth lines line))) (source.Line line) now (known state_at (record { from = 0; wire = Down }) (nth lines line)) deeds (known state_at (record { from = 0; wire = Down }) (nth lines' line)))
    × ((caller : ℕ) → Through (source.Caller caller) now (known session_at Free (nth places caller)) deeds (known session_at Free (nth places' caller)))
    × ((caller : ℕ) → nth places caller ≡ None → AllOf (IsNot (source.Caller caller)) deeds))
    (λ now deeds. AreWired (all_terms lines) now deeds × AreServed now deeds) (λ acts done. done)
    (λ now deeds passed. (
      λ line. (
        known state_at (record { from = 0; wire = Down }) (nth lines' line),
        subst (λ (terms : Terms). Passes (LineMoves terms) (source.Line line) now (record { from = 0; wire = Down }) deeds (known state_at (record { from = 0; wire = Down }) (nth lines' line))) (named lines line)
            (subst (λ (state : State). Passes (LineMoves (known terms_of (record { name = []; most = 0 }) (nth lines line))) (source.Line line) now state deeds (known state_at (record { from = 0; wire = Down }) (nth lines' line))) (down_down 0 lines line down) (passed.0 line)),
      ),
      (
        λ caller. (
          known session_at Free (nth places' caller),
          subst (λ (session : Session). Through (source.Caller caller) now session deeds (known session_at Free (nth places' caller))) (free_empty 0 places caller empty) (passed.1 caller),
        ),
        λ caller far. passed.2 caller (none_behind places caller (omega (arith, few, far))),
      ),
    ))
