-- The jobs of a line, from those of its devices.
use Rattle.std.proofs.Common.{◌≡◌, ℕ, ◌+◌, Bool, true, false, cond, List, [], ◌∷◌, ◌++◌, take, refl, sym, ap, ◌∙◌, subst, append_assoc}
use Rattle.std.specs.Prelude.{◌==◌, filter}
use Rattle.std.proofs.lemmas.List.{append-nil}
use Rattle.point_list.specs.declared.point.Point.{Point}
use Rattle.point_list.specs.declared.site.Device.{Device}
use Rattle.read_planner.specs.declared.Read.{Read as AskedRead}
use Rattle.read_planner.specs.Allowed.{AreAllowed, AreFewest, HoldsAll}
use Rattle.read_planner.specs.Chosen.{AreChosen}
use Rattle.read_planner.specs.Place.{places_of}
use Rattle.poll_book.specs.declared.rows.PointRow.{PointRow}
use Rattle.office_net.specs.declared.job.LineJob.{LineJob}
use Rattle.office_net.specs.Jobs.{AreDeviceJobs, ArePlanned, device_jobs, points_on}

-- what is planned for these points is planned for the device's
pub planned_for : (known : List PointRow) (device : Device) (points : List Point) (reads : List AskedRead) → points ≡ points_on known device.name
    → AreAllowed (places_of points) device.gap reads → HoldsAll reads (places_of points) → AreFewest (places_of points) device.gap reads → AreChosen (places_of points) device.gap reads
    → ArePlanned known device reads
planned_for known device points reads is allowed whole fewest chosen = record {
  allowed = subst (λ l. AreAllowed (places_of l) device.gap reads) is allowed;
  whole = subst (λ l. HoldsAll reads (places_of l)) is whole;
  fewest = subst (λ l. AreFewest (places_of l) device.gap reads) is fewest;
  chosen = subst (λ l. AreChosen (places_of l) device.gap reads) is chosen;
}

-- one device more
jobs_more : (known : List PointRow) (devices : List Device) (device : Device) (old new : List LineJob) (reads : List AskedRead) → AreDeviceJobs known devices old
    → ArePlanned known device reads → new ≡ old ++ device_jobs device.name reads → AreDeviceJobs known (devices ++ device ∷ []) new
jobs_more known [] device old new reads are planned is =
    (reads, [], planned, refl, is ∙ ap (λ l. l ++ device_jobs device.name reads) are ∙ sym (append-nil (device_jobs device.name reads)))
jobs_more known (d ∷ devices) device old new reads (earlier, rest, first, are, whole) planned is = (
  earlier,
  rest ++ device_jobs device.name reads,
  first,
  jobs_more known devices device rest (rest ++ device_jobs device.name reads) reads are planned refl,
  is ∙ ap (λ l. l ++ device_jobs device.name reads) whole ∙ append_assoc (device_jobs d.name earlier) rest (device_jobs device.name reads),
)

filter_more : (p : Device → Bool) (devices : List Device) (device : Device) → filter p (devices ++ device ∷ []) ≡ filter p devices ++ cond (p device) (device ∷ []) []
filter_more p [] device = refl
filter_more p (d ∷ devices) device = by (p d) (filter_more p devices device)
  where
    by : (b : Bool) → filter p (devices ++ device ∷ []) ≡ filter p devices ++ cond (p device) (device ∷ []) []
        → cond b (d ∷ filter p (devices ++ device ∷ [])) (filter p (devices ++ device ∷ [])) ≡ cond b (d ∷ filter p devices) (filter p devices) ++ cond (p device) (device ∷ []) []
    by true e = ap (λ l. d ∷ l) e
    by false e = e

-- the next device of a site, which is one of the line or isn't
pub jobs_next : (known : List PointRow) (line i : ℕ) (all : List Device) (device : Device) (old new : List LineJob) → take (i + 1) all ≡ take i all ++ device ∷ []
    → AreDeviceJobs known (filter (λ (d : Device). d.line == line) (take i all)) old
    → ((device.line == line) ≡ false → new ≡ old)
    → ((device.line == line) ≡ true → (reads : List AskedRead) × ArePlanned known device reads × (new ≡ old ++ device_jobs device.name reads))
    → AreDeviceJobs known (filter (λ (d : Device). d.line == line) (take (i + 1) all)) new
jobs_next known line i all device old new next are other own =
    subst (λ l. AreDeviceJobs known l new) (sym (ap (filter on) next ∙ filter_more on (take i all) device)) (by (device.line == line) refl)
  where
    on : Device → Bool
    on d = d.line == line

    by : (b : Bool) → (device.line == line) ≡ b → AreDeviceJobs known (filter (λ (d : Device). d.line == line) (take i all) ++ cond b (device ∷ []) []) new
    by true is =
        let (reads, planned, made) = own is in
        jobs_more known (filter (λ (d : Device). d.line == line) (take i all)) device old new reads are planned made
    by false is =
        subst (AreDeviceJobs known (filter (λ (d : Device). d.line == line) (take i all) ++ [])) (sym (other is))
        (subst (λ l. AreDeviceJobs known l old) (sym (append-nil (filter (λ (d : Device). d.line == line) (take i all)))) are)
