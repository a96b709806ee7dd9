-- How many points a query covers.
use Rattle.std.proofs.Common.{◌≡◌, ◌*◌, ℕ, false, List, length, take, Option, None, Some, option_and_then, refl, sym, ap, subst, ◌∙◌}
use Rattle.std.proofs.lemmas.List.{length-map}
use Rattle.mb_pdu.specs.declared.reply.Reply.{Reply}
use Rattle.mb_mbap.specs.declared.frame.Frame.{Frame}
use Rattle.point_list.specs.declared.site.Site.{Site}
use Rattle.read_planner.specs.declared.Read.{Read}
use Rattle.poll_match.specs.declared.asked.Asked.{Asked}
use Rattle.poll_match.specs.Window.{Names, Open, query_at}
use Rattle.poll_book.specs.declared.rows.PointRow.{PointRow}
use Rattle.poll_book.specs.Looks.{IsRaisedAtMost}
use Rattle.office_core.specs.declared.cover.Asking.{Asking}
use Rattle.office_core.specs.Cover.{covered, given_at, given_named, words_in}
use Rattle.office_core.specs.Sites.{device_name}
use Rattle.office_core.specs.Looking.{covered_at, covered_by, covered_matched, covered_named, named}

given_many : (known : List PointRow) (device : Option (List ℕ)) (read : Read) (words : List ℕ) → length (given_named known device read words) ≡ length (covered_named known device read)
given_many known None read words = refl
given_many known (Some device) read words = length-map (covered known device read) (λ (point : PointRow). (point, words_in read words point.point))

-- each covered point is given one reading, so what looked so often for the readings did for the points
pub looks_given : (site : Site) (known : List PointRow) (asking : Asking) (words : List ℕ) (rows : List (PointRow × List ℕ)) (old new : ℕ) → rows ≡ given_at site known asking words
    → IsRaisedAtMost (5 * length rows) old new → IsRaisedAtMost (5 * length (covered_at site known asking)) old new
looks_given site known asking words rows old new are looks =
    subst (λ n. IsRaisedAtMost (5 * n) old new) (ap length are ∙ given_many (take asking.known known) (device_name site asking.device) asking.read words) looks

named_is : (former : Option Open) (frame : Frame) (number : ℕ) (asked : Asked) (reply : Reply) → Names former frame number asked reply
    → named former frame ≡ Some (record { asked = asked; settled = false })
named_is former frame number asked reply names = ap (λ o. named o frame) names.is_open ∙ ap (option_and_then (query_at names.on)) names.numbered_so ∙ names.query

-- what looked so often for the query's points did for those of the frame's
pub looks_named : (site : Site) (known copy : List PointRow) (former : Option Open) (frame : Frame) (number : ℕ) (asked : Asked) (reply : Reply) (old new : ℕ)
    → Names former frame number asked reply → copy ≡ known → IsRaisedAtMost (5 * length (covered_by site copy asked)) old new
    → IsRaisedAtMost (5 * length (covered_matched site known (named former frame))) old new
looks_named site known copy former frame number asked reply old new names same looks =
    subst (λ o. IsRaisedAtMost (5 * length (covered_matched site known o)) old new) (sym (named_is former frame number asked reply names))
    (subst (λ l. IsRaisedAtMost (5 * length (covered_by site l asked)) old new) same looks)
