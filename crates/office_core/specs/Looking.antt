-- Which points an arrival looks up.
use Rattle.std.specs.Prelude.{ℕ, List, [], take, Option, None, Some, option_and_then}
use Rattle.mb_mbap.specs.declared.frame.Frame.{Frame}
use Rattle.point_list.specs.declared.site.Site.{Site}
use Rattle.read_planner.specs.declared.Read.{Read}
use Rattle.poll_match.specs.declared.asked.Asked.{Asked}
use Rattle.poll_match.specs.declared.asked.Asked.TheVariants as asked
use Rattle.poll_match.specs.declared.asked.Matched.{Matched}
use Rattle.poll_match.specs.Window.{Open, held, numbered, query_at}
use Rattle.poll_book.specs.declared.rows.PointRow.{PointRow}
use Rattle.poll_book.specs.declared.keeper.Neighbours.{Ghosts}
use Rattle.office_core.specs.declared.cover.Asking.{Asking}
use Rattle.office_core.specs.declared.office.Office.{Office}
use Rattle.office_core.specs.Cover.{covered}
use Rattle.office_core.specs.Keeping.{asking_of}
use Rattle.office_core.specs.Sites.{device_name}

abbrev pub covered_named : List PointRow → Option (List ℕ) → Read → List PointRow
covered_named known None read = []
covered_named known (Some device) read = covered known device read

-- the points that a read covers whose device stands at its place of a site
abbrev pub covered_at : Site → List PointRow → Asking → List PointRow
covered_at site known asking = covered_named (take asking.known known) (device_name site asking.device) asking.read

-- the points that a query covers; one that writes covers none
abbrev pub covered_by : Site → List PointRow → Asked → List PointRow
covered_by site known (asked.Read unit_id place slot read before) = covered_at site known (asking_of place slot read before)
covered_by site known (asked.Write unit_id order address payload) = []

-- the query that a frame names on a connection, if it names one
abbrev pub named : Option Open → Frame → Option Matched
named None frame = None
named (Some on) frame = option_and_then (query_at on) (numbered frame.transaction on.made)

abbrev pub covered_matched : Site → List PointRow → Option Matched → List PointRow
covered_matched site known None = []
covered_matched site known (Some query) = covered_by site known query.asked

-- the points that the query covers which a frame names on a connection
abbrev pub covered_of : {K : Type 0} {g : Ghosts K} → Office K g → ℕ → Frame → List PointRow
covered_of office conn frame = covered_matched office.site office.points.items (named (held conn office.matcher) frame)
