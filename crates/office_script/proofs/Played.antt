-- A text of lines, played from its first on.
use Rattle.std.proofs.Common.{◌≡◌, ◌+◌, ℕ, List, [], ◌∷◌, ◌++◌, length, sym, ap, ◌∙◌, subst, append_assoc, Option, arith}
use Rattle.std.specs.Io.KnownBytes.{Appends}
use Rattle.std.specs.Str.Lines.{lines}
use Rattle.std.proofs.KnownBytes.{Appends-trans}
use Rattle.office_core.specs.History.{History, tables}
use Rattle.office_script.specs.Printing.{report_of}
use Rattle.office_script.specs.Scripts.{Step, Course, step_of, steps_of}
use Rattle.office_script.specs.Playing.{Owes, Leaves}
use Rattle.office_script.specs.declared.player.Replayed.TheVariants.{Done}
use Rattle.office_script.specs.declared.player.Played.{Played}
use Rattle.office_script.proofs.Opened.{first_step}

-- what a line leaves, of the text that it begins
pub line_played : (stands stands_new : History → Type 0) (out out_new : List ℕ) (number : ℕ) (text line rest : List ℕ) (whole : Course) (played how : Played) (done : List ℕ)
    → lines text ≡ line ∷ lines rest → played ≡ how → Owes stands (done ++ out) number (steps_of number text) whole
    → ((done : List ℕ) (rest : List Step) (whole : Course) → Owes stands (done ++ out) number (step_of number line ∷ rest) whole → Leaves stands_new (done ++ out_new) number rest whole played)
    → Leaves stands_new (done ++ out_new) number (steps_of (number + 1) rest) whole how
line_played stands stands_new out out_new number text line rest whole played how done e is owes leaves =
    let owes_line : Owes stands (done ++ out) number (step_of number line ∷ steps_of (number + 1) rest) whole = subst (λ steps. Owes stands (done ++ out) number steps whole) (first_step number text line rest e) owes in
    subst (λ p. Leaves stands_new (done ++ out_new) number (steps_of (number + 1) rest) whole p) is (leaves done (steps_of (number + 1) rest) whole owes_line)

-- all of it written
pub whole_written : (start now new : Option (List ℕ)) (done out output : List ℕ) → done ++ out ≡ output → Appends start now done → Appends now new out → Appends start new output
whole_written start now new done out output e a b = subst (Appends start new) e (Appends-trans start now new done out a b)

-- what is owed stays so where a front of what was pending is written
pub owed_after : (stands : History → Type 0) (done out front pending : List ℕ) (number : ℕ) (steps : List Step) (whole : Course)
    → front ++ pending ≡ out → Owes stands (done ++ out) number steps whole → Owes stands ((done ++ front) ++ pending) number steps whole
owed_after stands done out front pending number steps whole split owes =
    subst (λ s. Owes stands s number steps whole) (ap (λ t. done ++ t) (sym split) ∙ sym (append_assoc done front pending)) owes

-- where no text is left, the report is owed, with which a script is done
pub report_owed : (stands : History → Type 0) (so_far text : List ℕ) (number : ℕ) (whole : Course) → length text ≡ 0 → Owes stands so_far number (steps_of number text) whole
    → (before : History) × stands before × (so_far ++ report_of (tables before) ≡ whole.text) × (Done ≡ whole.ending)
report_owed stands so_far [] number whole none owes =
    let (before, stood, owed) = owes in (before, stood, ap (λ (c : Course). c.text) owed, ap (λ (c : Course). c.ending) owed)
report_owed stands so_far (x ∷ xs) number whole none owes = absurd (omega arith)
