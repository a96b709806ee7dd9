-- What is still owed in the middle of a script.
use Rattle.std.specs.Prelude.{◌≡◌, ◌≢◌, ℕ, ◌+◌, List, [], ◌++◌, Option, ◌≤◌, length}
use Rattle.std.specs.Io.KnownBytes.{Appends}
use Rattle.point_list.specs.Sites.{IsSound}
use Rattle.poll_book.specs.declared.keeper.Neighbours.{Ghosts}
use Rattle.office_core.specs.declared.office.Office.{Office}
use Rattle.office_core.specs.History.{History, Restart, site_of}
use Rattle.office_core.specs.Legal.{Legal, MayHappen}
use Rattle.office_core.specs.Offices.{Stands}
use Rattle.office_script.specs.Scripts.{Step, Course, after, broken_at, from_line, begun, steps_of, course_of}
use Rattle.office_script.specs.declared.player.Replayed.{Replayed}
use Rattle.office_script.specs.declared.player.Replayed.TheVariants.{FaultLine}
use Rattle.office_script.specs.declared.player.Played.{Played}
use Rattle.office_script.specs.declared.player.Played.TheVariants.{On, Faulty}
use Rattle.office_script.specs.declared.opening.Opening.{Opening}
use Rattle.office_script.specs.declared.opening.Opening.TheVariants.{Ready, Broken}

-- the office may begin anew with the same site
abbrev pub MayRestart : History → Type 0
MayRestart before = MayHappen before (Restart (site_of before))

-- an office that stands for a history which may be, which has begun, and after which it may begin anew
abbrev pub Follows : {K : Type 0} {g : Ghosts K} → Office K g → History → Type 0
Follows office before = Stands office before × Legal before × (before ≢ []) × MayRestart before

-- what was printed so far, and then what comes of the steps from line `number` on, is the whole
abbrev pub Owes : (History → Type 0) → List ℕ → ℕ → List Step → Course → Type 0
Owes stands so_far number steps whole = (before : History) × stands before × (after so_far (from_line before number steps) ≡ whole)

-- all of it is printed, and the script ended so
abbrev pub IsWhole : List ℕ → Replayed → Course → Type 0
IsWhole so_far how whole = (so_far ≡ whole.text) × (how ≡ whole.ending)

-- what a played line leaves
abbrev pub Leaves : (History → Type 0) → List ℕ → ℕ → List Step → Course → Played → Type 0
Leaves stands so_far number rest whole On = Owes stands so_far (number + 1) rest whole
Leaves stands so_far number rest whole Faulty = IsWhole so_far (FaultLine number) whole

-- the writer took a front of the output
abbrev pub TookFront : Option (List ℕ) → Option (List ℕ) → List ℕ → Type 0
TookFront old new output = (front : List ℕ) × (rest : List ℕ) × (front ++ rest ≡ output) × Appends old new front

-- the writer took a front of what was pending, and the rest is pending still
abbrev pub WroteFront : Option (List ℕ) → Option (List ℕ) → List ℕ → List ℕ → Type 0
WroteFront old new pending rest = (front : List ℕ) × (front ++ rest ≡ pending) × Appends old new front

-- what the lines before the first that declares no device leave of the script
abbrev pub Opens : List ℕ → Opening → Type 0
Opens script (Ready site rest number) = IsSound site × (course_of script ≡ begun site number (steps_of number rest.now)) × (number + length rest.now ≤ length script + 1)
Opens script (Broken number) = course_of script ≡ broken_at [] number
