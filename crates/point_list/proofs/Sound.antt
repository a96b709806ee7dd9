-- What the parts of a sound site keep.
use Rattle.std.proofs.Common.{◌≡◌, ◌≤◌, ℕ, zero, suc, Bool, true, leb, ◌&&◌, List, [], ◌∷◌, length, arith}
use Rattle.std.specs.Prelude.{slice_get}
use Rattle.std.specs.List.{list_all}
use Rattle.std.proofs.lemmas.Bool.{and_parts, leb-true}
use Rattle.point_list.specs.declared.site.Line.{Line}
use Rattle.point_list.specs.declared.site.Site.{Site}
use Rattle.point_list.specs.Sites.{IsSound, all_differ, have_lines, have_room, is_limited, outstanding_of, outstanding_on, same_device_name, same_line_name, same_place}

-- of the seven, those that are asked for one by one
pub record Keeps (site : Site) : Type 0 where
  pub limits : list_all is_limited site.lines ≡ true
  pub names : all_differ same_device_name site.devices ≡ true
  pub room : have_room site.devices ≡ true

pub sound_keeps : (site : Site) → IsSound site → Keeps site
sound_keeps site sound =
    let room : Bool = have_room site.devices in
    let places : Bool = all_differ same_place site.devices in
    let lines : Bool = have_lines (length site.lines) site.devices in
    let names : Bool = all_differ same_device_name site.devices in
    let limits : Bool = list_all is_limited site.lines in
    let a = and_parts (leb (length site.lines) 64) (leb (length site.devices) 256 && (all_differ same_line_name site.lines && (limits && (names && (lines && (places && room)))))) sound in
    let b = and_parts (leb (length site.devices) 256) (all_differ same_line_name site.lines && (limits && (names && (lines && (places && room))))) a.1 in
    let c = and_parts (all_differ same_line_name site.lines) (limits && (names && (lines && (places && room)))) b.1 in
    let d = and_parts limits (names && (lines && (places && room))) c.1 in
    let e = and_parts names (lines && (places && room)) d.1 in
    let f = and_parts lines (places && room) e.1 in
    record { limits = d.0; names = e.0; room = (and_parts places room f.1).1 }

-- 1 to 16 queries of a line may wait
limited : (lines : List Line) (place : ℕ) → list_all is_limited lines ≡ true
    → (1 ≤ outstanding_of (slice_get lines place)) × (outstanding_of (slice_get lines place) ≤ 16)
limited [] place all = (omega arith, omega arith)
limited (line ∷ lines) zero all =
    let here = and_parts (leb 1 line.outstanding) (leb line.outstanding 16) (and_parts (is_limited line) (list_all is_limited lines) all).0 in
    (leb-true 1 line.outstanding here.0, leb-true line.outstanding 16 here.1)
limited (line ∷ lines) (suc place) all = limited lines place (and_parts (is_limited line) (list_all is_limited lines) all).1

pub outstanding_within : (site : Site) (line : ℕ) → IsSound site → (1 ≤ outstanding_on site line) × (outstanding_on site line ≤ 16)
outstanding_within site line sound = limited site.lines line (sound_keeps site sound).limits
