-- The jobs of a line can be done.
use Rattle.std.proofs.Common.{◌≡◌, ◌+◌, ℕ, Bool, true, false, cond, not, List, [], ◌∷◌, get_or, Option, Some, Result, Ok, Err, refl, sym, ap, ◌∙◌, subst}
use Rattle.std.specs.Prelude.{All, MatchResult, find, map, option_map, ◌||◌, ◌==◌}
use Rattle.std.specs.List.{list_any}
use Rattle.std.specs.Str.{bytes_eq}
use Rattle.std.proofs.lemmas.Bool.{and_parts, eqb-true, le-leb}
use Rattle.std.proofs.lemmas.List.Elements.{All-nil, All-cons, All-head, All-tail, All-map, All-filter, All-append, filter_passes}
use Rattle.std.proofs.lemmas.Slice.Eq.{bytes_eq-Decides}
use Rattle.point_list.specs.declared.site.Device.{Device}
use Rattle.point_list.specs.declared.site.Site.{Site}
use Rattle.point_list.specs.Sites.{IsSound, all_differ, same_device_name}
use Rattle.point_list.proofs.Sound.{sound_keeps}
use Rattle.read_planner.specs.declared.Read.{Read as AskedRead}
use Rattle.read_planner.specs.Place.{CanBeRead}
use Rattle.poll_book.specs.declared.rows.PointRow.{PointRow}
use Rattle.office_core.specs.History.{History, site_of, points, open_line}
use Rattle.office_net.specs.declared.job.LineJob.{LineJob}
use Rattle.office_net.specs.declared.job.LineJob.TheVariants.{Order, Read}
use Rattle.office_net.specs.Jobs.{AreDeviceJobs, AreJobs, ArePlanned, CanBeDone, IsOnLine, devices_on, device_jobs}

-- ---- a device by its name

-- none of them passes
none_any : (p : Device → Bool) (devices : List Device) → list_any p devices ≡ false → All (λ (d : Device). p d ≡ false) devices
none_any p [] none = All-nil (λ (d : Device). p d ≡ false)
none_any p (d ∷ devices) none = by (p d) refl none (none_any p devices)
  where
    by : (b : Bool) → p d ≡ b → (b || list_any p devices) ≡ false → (list_any p devices ≡ false → All (λ (d : Device). p d ≡ false) devices) → All (λ (d : Device). p d ≡ false) (d ∷ devices)
    by true is f rest = absurd (cc)
    by false is f rest = All-cons (λ (d : Device). p d ≡ false) d devices is (rest f)

not_true : (b : Bool) → not b ≡ true → b ≡ false
not_true true e = absurd (cc)
not_true false e = refl

-- texts that differ do so in either order
other_way : (a b : List ℕ) → bytes_eq a b ≡ false → bytes_eq b a ≡ false
other_way a b differ = by (bytes_eq b a) refl
  where
    by : (c : Bool) → bytes_eq b a ≡ c → c ≡ false
    by false is = refl
    by true is =
        let same : a ≡ b = sym ((bytes_eq-Decides b a).0 is) in
        let holds : bytes_eq a b ≡ true = (bytes_eq-Decides a b).1 same in
        absurd (cc)

-- of devices whose names differ, each is the first of its name
each_named : (devices : List Device) → all_differ same_device_name devices ≡ true → All (λ (d : Device). find (λ (x : Device). bytes_eq x.name d.name) devices ≡ Some d) devices
unfolding all_differ
each_named [] differ = All-nil (λ (d : Device). find (λ (x : Device). bytes_eq x.name d.name) [] ≡ Some d)
each_named (first ∷ devices) differ =
    let parts = and_parts (not (list_any (λ (y : Device). same_device_name y first) devices)) (all_differ same_device_name devices) differ in
    let others = none_any (λ (y : Device). same_device_name y first) devices (not_true (list_any (λ (y : Device). same_device_name y first) devices) parts.0) in
    let rest = each_named devices parts.1 in
    All-cons (λ (d : Device). find (λ (x : Device). bytes_eq x.name d.name) (first ∷ devices) ≡ Some d) first devices
    (ap (λ b. cond b (Some first) (find (λ (x : Device). bytes_eq x.name first.name) devices)) ((bytes_eq-Decides first.name first.name).1 refl))
    (λ k d lt.
    ap (λ b. cond b (Some first) (find (λ (x : Device). bytes_eq x.name (get_or devices k d).name) devices)) (other_way (get_or devices k d).name first.name (others k d lt))
    ∙ rest k d lt)

-- the devices of the line are on it
all_on : (before : History) (conn line : ℕ) → IsSound (site_of before) → open_line before conn ≡ Some line
    → All (λ (d : Device). IsOnLine before conn d.name) (devices_on (site_of before) line)
all_on before conn line sound opened =
    λ k d lt.
    on (get_or (devices_on (site_of before) line) k d)
    (All-filter (λ (x : Device). x.line == line) (λ (x : Device). find (λ (y : Device). bytes_eq y.name x.name) (site_of before).devices ≡ Some x) (site_of before).devices
    (each_named (site_of before).devices differ) k d lt)
    (filter_passes (λ (x : Device). x.line == line) (site_of before).devices k d lt)
  where
    differ : all_differ same_device_name (site_of before).devices ≡ true
    differ = (sound_keeps (site_of before) sound).names

    on : (x : Device) → find (λ (y : Device). bytes_eq y.name x.name) (site_of before).devices ≡ Some x → (x.line == line) ≡ true → IsOnLine before conn x.name
    on x named is = ap (option_map (λ (d : Device). d.line)) named ∙ ap Some (eqb-true x.line line is) ∙ sym opened

-- ---- jobs

module _ (before : History) (conn : ℕ) where
  -- of a device of the line
  device_can : (known : List PointRow) (device : Device) (reads : List AskedRead) → ArePlanned known device reads → IsOnLine before conn device.name
      → All (CanBeDone before conn) (device_jobs device.name reads)
  device_can known device reads planned on =
      All-cons (CanBeDone before conn) (Order device.name) (map (λ read. Read device.name read) reads) on
      (All-map (CanBeDone before conn) (λ read. Read device.name read) reads (λ k d lt.
      let allowed = planned.allowed k d lt in
      (on, allowed.valid, le-leb ((get_or reads k d).span.start + (get_or reads k d).span.quantity) 65536 allowed.inside)))

  -- of several
  devices_can : (known : List PointRow) (devices : List Device) (jobs : List LineJob) → AreDeviceJobs known devices jobs → All (λ (d : Device). IsOnLine before conn d.name) devices
      → All (CanBeDone before conn) jobs
  devices_can known [] jobs are on = subst (All (CanBeDone before conn)) (sym are) (All-nil (CanBeDone before conn))
  devices_can known (device ∷ devices) jobs (reads, rest, planned, are, whole) on =
      subst (All (CanBeDone before conn)) (sym whole)
      (All-append (CanBeDone before conn) (device_jobs device.name reads) rest
      (device_can known device reads planned (All-head (λ (d : Device). IsOnLine before conn d.name) device devices on))
      (devices_can known devices rest are (All-tail (λ (d : Device). IsOnLine before conn d.name) device devices on)))

  -- of the line
  pub all_can : (jobs : List LineJob) → IsSound (site_of before) → AreJobs before conn jobs → All (CanBeDone before conn) jobs
  all_can jobs sound are = devices_can (points before) (devices_on (site_of before) are.line) jobs are.each (all_on before conn are.line sound are.opened)

-- what was made of an office's site and points are the jobs
pub jobs_made : (before : History) (conn line : ℕ) (found : Option ℕ) (known : List PointRow) (site : Site) (jobs : List LineJob) → found ≡ open_line before conn → found ≡ Some line
    → known ≡ points before → site ≡ site_of before → All (λ (row : PointRow). CanBeRead row.point) (points before)
    → (All (λ (row : PointRow). CanBeRead row.point) known → AreDeviceJobs known (devices_on site line) jobs) → AreJobs before conn jobs
jobs_made before conn line found known site jobs is some points_are site_is readable made = record {
  line = line;
  opened = sym is ∙ some;
  each = subst (λ (x : List PointRow × Site). AreDeviceJobs x.0 (devices_on x.1 line) jobs) (λ i. (points_are i, site_is i))
      (made (subst (All (λ (row : PointRow). CanBeRead row.point)) (sym points_are) readable));
}

-- ---- results

pub by_result : {X E : Type 0} (told : Result X E) (P P' : X → Type 0) (Q Q' : E → Type 0) → MatchResult told P Q → ((x : X) → P x → P' x) → ((e : E) → Q e → Q' e) → MatchResult told P' Q'
by_result (Ok x) P P' Q Q' m ok err = ok x m
by_result (Err e) P P' Q Q' m ok err = err e m
