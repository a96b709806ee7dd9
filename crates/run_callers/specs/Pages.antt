-- What pages show, part by part.
use Rattle.std.specs.Prelude.{◌≡◌, ◌+◌, ℕ, nat_lt, List, [], ◌∷◌, ◌++◌, codes, drop, take, if◌then◌else◌, Option, Some, None, IfSome, option_map}
use Rattle.poll_book.specs.declared.rows.PointRow.{PointRow}
use Rattle.office_core.specs.History.{History, points}
use Rattle.office_core.specs.Offices.{last_reading_at, total_at}
use Rattle.poll_book.specs.Showing.{as_shown}
use Rattle.office_http.specs.declared.heard.Page.{Page}
use Rattle.office_http.specs.declared.heard.Page.TheVariants as page
use Rattle.office_pages.specs.declared.seen.Seen.{Seen}
use Rattle.office_pages.specs.PointRows.{AddsRow}
use Rattle.run_callers.specs.declared.showing.Part.{Part}
use Rattle.run_callers.specs.declared.showing.Part.TheVariants.{Top, Points}
use Rattle.run_callers.specs.declared.showing.Showing.{Showing}

-- a page from its beginning on
abbrev pub IsFirst : Showing → Type 0
IsFirst showing = (showing.part ≡ Top) × (showing.next ≡ 0)

-- ---- the points, as JSON

-- a point with its last reading and its total
pub record IsSeen (now : History) (known : PointRow) (seen : Seen) : Type 0 where
  pub point : seen.point ≡ known.point
  pub last : option_map as_shown seen.last ≡ last_reading_at now (Some known)
  pub total : seen.total ≡ total_at now (Some known)

-- rows but the first stand behind a comma
abbrev pub comma : PointRow → List ℕ
comma known = if nat_lt 1 known.number then codes "," else []

-- the row of a point follows a text
abbrev pub AddsPoint : History → ℕ → PointRow → List ℕ → List ℕ → Type 0
AddsPoint now seconds known old new = (seen : Seen) × IsSeen now known seen × AddsRow seconds seen (old ++ comma known) new

-- the rows of these points follow a text
abbrev pub AddsPoints : History → ℕ → List PointRow → List ℕ → List ℕ → Type 0
AddsPoints now seconds [] old new = new ≡ old
AddsPoints now seconds (known ∷ more) old new =
    (between : List ℕ) × AddsPoint now seconds known old between × AddsPoints now seconds more between new

-- the rows of so many points from the next one on; or of all that are left, and the end
abbrev pub IsOfPoints : History → Showing → List ℕ → Option Showing → Type 0
IsOfPoints now showing text None =
    (rows : List ℕ) × AddsPoints now showing.slots (drop showing.next (points now)) [] rows × (text ≡ rows ++ codes "]}\n")
IsOfPoints now showing text (Some more) =
    (count : ℕ) × AddsPoints now showing.slots (take count (drop showing.next (points now))) [] text × (more ≡ record showing { next = showing.next + count })

-- the same, where the rows follow a text, and end before this place
abbrev pub AddsSome : History → Showing → List ℕ → List ℕ → Option ℕ → Type 0
AddsSome now showing old new None = AddsPoints now showing.slots (drop showing.next (points now)) old new
AddsSome now showing old new (Some end) =
    (count : ℕ) × AddsPoints now showing.slots (take count (drop showing.next (points now))) old new × (end ≡ showing.next + count)

abbrev pub AddsPart : Part → History → Showing → List ℕ → List ℕ → Option ℕ → Type 0
AddsPart Top now showing old new next = (new ≡ old ++ codes "{\"points\":[") × (next ≡ None)
AddsPart _ now showing old new next = AddsSome now showing old new next

-- behind what stands before the rows come these, and then nothing
abbrev pub later_in_list : Part → Showing → Option Showing
later_in_list Top showing = Some (record showing { part = Points; next = 0 })
later_in_list _ showing = None

abbrev pub IsOfList : Part → History → Showing → List ℕ → Option Showing → Type 0
IsOfList Top now showing text next = (text ≡ codes "{\"points\":[") × (next ≡ later_in_list Top showing)
IsOfList _ now showing text next = IsOfPoints now showing text next

-- ---- each page

-- what a page shows next, and where it is then, if it isn't whole. Of what isn't JSON it is known that it's of the same page
abbrev pub IsPartOf : Page → History → Showing → List ℕ → Option Showing → Type 0
IsPartOf page.Points now showing text next = IsOfList showing.part now showing text next
IsPartOf _ now showing text next = IfSome next (λ (more : Showing). more.page ≡ showing.page)

abbrev pub IsPart : History → Showing → List ℕ → Option Showing → Type 0
IsPart now showing text next = IsPartOf showing.page now showing text next
