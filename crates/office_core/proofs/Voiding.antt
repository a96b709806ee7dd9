-- What is written where a slot is voided.
use Rattle.std.proofs.Common.{◌≡◌, ℕ, Bool, true, false, cond, List, [], ◌∷◌, Option, Some, None, refl, sym, ap, ◌∙◌, subst}
use Rattle.std.specs.Prelude.{Contains, is_some}
use Rattle.std.proofs.lemmas.List.{append-nil}
use Rattle.poll_book.specs.declared.rows.PointRow.{PointRow}
use Rattle.poll_book.specs.declared.rows.Reading.{Reading}
use Rattle.poll_book.specs.declared.rows.Change.{Change}
use Rattle.poll_book.specs.declared.requests.RequestRow.{RequestRow}
use Rattle.poll_book.specs.Requests.{request_at, with_request}
use Rattle.poll_book.specs.Tables.{AreByKey, Key, Readings, Tables, Voids, is_void, marked, reading_at, sum_at, with_rows, with_sums, with_void}
use Rattle.poll_book.specs.Totals.{counted_number, is_counter, reading_number, total, totals_of}
use Rattle.poll_book.specs.Changes.{applied, as_rows, as_sums, AreThere, HasWords, IsNew, IsNotVoided, KeepWords, new_void, struck, struck_row, struck_sums, sums_of_rows, uncounted, with_voided}
use Rattle.std.specs.Str.{bytes_eq}
use Rattle.poll_book.specs.declared.requests.RequestFault.TheVariants as fault
use Rattle.office_core.specs.Keeping.{IsCopy, IsCounted, IsOfPoint}
use Rattle.office_core.specs.Loads.{known_named}
use Rattle.office_core.specs.Voids.{Voiding, Refused, Taken, VoidsIn, is_full, voiding_of, with_voiding}
use Rattle.office_core.proofs.Elements.{found_in}
use Rattle.office_core.proofs.Fitting.{at_key}
use Rattle.office_core.proofs.Marks.{struck_marked, voided_again}
use Rattle.office_core.proofs.Newness.{of_counters, still_numbered}
use Rattle.office_core.proofs.OnePoint.{one_point}
use Rattle.office_core.proofs.Totalled.{stored_sum, written_sum}

-- the change of a slot of a point that is voided, with the request for it
pub record IsVoiding (change : Change) (kept : Tables) (known : PointRow) (slot : ℕ) (request : RequestRow) : Type 0 where
  pub alone : change ≡ record { points = []; readings = change.readings; totals = change.totals; void = change.void; setting = None; request = Some request; connections = None }
  pub readings : as_rows change.readings ≡ struck kept known slot
  pub totals : as_sums change.totals ≡ struck_sums kept known slot
  pub void : change.void ≡ new_void kept.voids known slot

module _ (kept : Tables) (counted : IsCounted kept) (known : PointRow) (there : Contains kept.points known) (counter : is_counter known.point.role ≡ true) (slot : ℕ) where
  abbrev pub key : Key
  key = (known.number, slot)

  -- the rows of a strike keep their words
  struck_words : KeepWords kept.readings (struck kept known slot)
  struck_words = by (is_void kept.voids key)
    where
      one : (r : Reading) (b : Bool) → reading_at kept.readings key ≡ Some r → KeepWords kept.readings (cond b ((key, uncounted r.words) ∷ []) [])
      one r true is = (subst (HasWords r.words) (sym is) refl, refl, tt)
      one r false is = tt

      found : (o : Option Reading) → reading_at kept.readings key ≡ o → KeepWords kept.readings (struck_row known key o)
      found None is = tt
      found (Some r) is = one r (is_some (reading_number known.point r)) is

      by : (b : Bool) → KeepWords kept.readings (cond b [] (struck_row known key (reading_at kept.readings key)))
      by true = tt
      by false = found (reading_at kept.readings key) refl

  -- a pair that is put was not voided
  fresh_void : IsNotVoided kept.voids (new_void kept.voids known slot)
  fresh_void = by (is_void kept.voids key) refl
    where
      by : (b : Bool) → is_void kept.voids key ≡ b → IsNotVoided kept.voids (cond b None (Some (record { point = known.number; slot = slot })))
      by true is = tt
      by false is = is

  pub stored : sum_at kept.totals known.number ≡ Some (total known kept.readings)
  stored = ap (λ t. sum_at t known.number) counted.totals ∙ stored_sum kept.points kept.readings known counted.points there counter

  -- the total of a strike is one that is there
  struck_there : AreThere kept.totals (struck_sums kept known slot)
  struck_there = by (is_void kept.voids key)
    where
      one : (r : Reading) (b : Bool) → AreThere kept.totals (sums_of_rows known kept.readings (cond b ((key, uncounted r.words) ∷ []) []))
      one r true = (ap is_some stored, tt)
      one r false = tt

      found : (o : Option Reading) → AreThere kept.totals (sums_of_rows known kept.readings (struck_row known key o))
      found None = tt
      found (Some r) = one r (is_some (reading_number known.point r))

      by : (b : Bool) → AreThere kept.totals (sums_of_rows known kept.readings (cond b [] (struck_row known key (reading_at kept.readings key))))
      by true = tt
      by false = found (reading_at kept.readings key)

  -- the totals behind it
  struck_totals : with_sums (struck_sums kept known slot) kept.totals ≡ totals_of kept.points (with_rows (struck kept known slot) kept.readings)
  struck_totals = ap (with_sums (struck_sums kept known slot)) counted.totals ∙ by (is_void kept.voids key)
    where
      one : (r : Reading) (b : Bool) → with_sums (sums_of_rows known kept.readings (cond b ((key, uncounted r.words) ∷ []) [])) (totals_of kept.points kept.readings)
          ≡ totals_of kept.points (with_rows (cond b ((key, uncounted r.words) ∷ []) []) kept.readings)
      one r true = written_sum kept.points kept.readings known key (uncounted r.words) counted.points there counter refl
      one r false = refl

      found : (o : Option Reading) → with_sums (sums_of_rows known kept.readings (struck_row known key o)) (totals_of kept.points kept.readings)
          ≡ totals_of kept.points (with_rows (struck_row known key o) kept.readings)
      found None = refl
      found (Some r) = one r (is_some (reading_number known.point r))

      by : (b : Bool) → with_sums (sums_of_rows known kept.readings (cond b [] (struck_row known key (reading_at kept.readings key)))) (totals_of kept.points kept.readings)
          ≡ totals_of kept.points (with_rows (cond b [] (struck_row known key (reading_at kept.readings key))) kept.readings)
      by true = refl
      by false = found (reading_at kept.readings key)

  pub new_voiding : (change : Change) (request : RequestRow) → IsVoiding change kept known slot request → request_at kept.requests (request.caller, request.key) ≡ None → IsNew change kept
  new_voiding change request is unused = subst (λ x. IsNew x kept) (sym is.alone) (record {
    points = still_numbered kept counted;
    readings = subst (KeepWords kept.readings) (sym is.readings) struck_words;
    void = subst (IsNotVoided kept.voids) (sym is.void) fresh_void;
    totals = of_counters kept counted;
    sums = subst (AreThere kept.totals) (sym is.totals) struck_there;
    setting = tt;
    request = unused;
  })

  -- ---- the readings that were read, of which those that are kept are marked
  module _ (table : Readings) (sorted : AreByKey table) (is_kept : kept.readings ≡ marked kept.voids table) where
    -- the pairs with it
    voids_are : with_voided (new_void kept.voids known slot) kept.voids ≡ with_void key kept.voids
    voids_are = by (is_void kept.voids key) refl
      where
        by : (b : Bool) → is_void kept.voids key ≡ b → with_voided (cond b None (Some (record { point = known.number; slot = slot }))) kept.voids ≡ with_void key kept.voids
        by true is = sym (voided_again kept.voids key counted.void_keys is)
        by false is = refl

    -- one that counts counts for its point
    counts : is_void kept.voids key ≡ false → (r : Reading) → reading_at kept.readings key ≡ Some r → r.counted ≡ true → is_some (reading_number known.point r) ≡ true
    counts free r found marked_so =
        let of = at_key (IsOfPoint kept.points) kept.readings key r counted.of_points found in
        let same : of.point ≡ known = one_point 0 kept.points of.point known counted.points of.there there of.number in
        ap (λ b. is_some (cond b (counted_number known.point r.words) None)) marked_so
        ∙ ap (λ (p : PointRow). is_some (counted_number p.point r.words)) (sym same) ∙ of.counts marked_so

    readings_are : with_rows (struck kept known slot) kept.readings ≡ marked (with_void key kept.voids) table
    readings_are = by (is_void kept.voids key) refl
      where
        by : (b : Bool) → is_void kept.voids key ≡ b → with_rows (cond b [] (struck_row known key (reading_at kept.readings key))) kept.readings ≡ marked (with_void key kept.voids) table
        by true is = is_kept ∙ ap (λ v. marked v table) (sym (voided_again kept.voids key counted.void_keys is))
        by false is =
            (λ i. with_rows (struck_row known key (reading_at (is_kept i) key)) (is_kept i))
            ∙ sym (struck_marked kept.voids known slot table sorted is
            (λ r found. counts is r (ap (λ t. reading_at t key) is_kept ∙ found)))

    pub applied_voiding : (change : Change) (request : RequestRow) → IsVoiding change kept known slot request
        → applied change kept ≡ record kept {
          readings = marked (with_void key kept.voids) table;
          voids = with_void key kept.voids;
          totals = totals_of kept.points (marked (with_void key kept.voids) table);
          requests = with_request (request.caller, request.key) (record { body = request.body; outcome = request.outcome }) kept.requests;
        }
    applied_voiding change request is =
        ap (λ x. applied x kept) is.alone
        ∙ (λ i. record kept {
          points = append-nil kept.points i;
          readings = with_rows (is.readings i) kept.readings;
          voids = with_voided (is.void i) kept.voids;
          totals = with_sums (is.totals i) kept.totals;
          requests = with_request (request.caller, request.key) (record { body = request.body; outcome = request.outcome }) kept.requests;
        })
        ∙ (λ i. record kept {
          readings = readings_are i;
          voids = voids_are i;
          totals = (struck_totals ∙ ap (totals_of kept.points) readings_are) i;
          requests = with_request (request.caller, request.key) (record { body = request.body; outcome = request.outcome }) kept.requests;
        })

-- ---- a request for it

abbrev point_of : Voiding → PointRow → PointRow
point_of (Refused f) row = row
point_of (Taken known) row = known

-- a slot that is taken is of a counter that is known
taken_is : (voids : Voids) (o : Option PointRow) (slot : ℕ) (known : PointRow) → voiding_of voids o slot ≡ Taken known → (o ≡ Some known) × (is_counter known.point.role ≡ true)
taken_is voids None slot known e = absurd (cc)
taken_is voids (Some row) slot known e = by (is_counter row.point.role) refl e
  where
    full : is_counter row.point.role ≡ true → (b : Bool) → cond b (Refused fault.TooManyVoids) (Taken row) ≡ Taken known → (Some row ≡ Some known) × (is_counter known.point.role ≡ true)
    full counter true f = absurd (cc)
    full counter false f =
        let same : row ≡ known = ap (λ v. point_of v row) f in
        (ap Some same, ap (λ (r : PointRow). is_counter r.point.role) (sym same) ∙ counter)

    by : (b : Bool) → is_counter row.point.role ≡ b → cond b (cond (is_full voids (row.number, slot)) (Refused fault.TooManyVoids) (Taken row)) (Refused fault.NotACounter) ≡ Taken known
        → (Some row ≡ Some known) × (is_counter known.point.role ≡ true)
    by true counter f = full counter (is_full voids (row.number, slot)) f
    by false counter f = absurd (cc)

-- one that is taken
pub is_taken : (voids : Voids) (o : Option PointRow) (slot : ℕ) (known : PointRow) → o ≡ Some known → is_counter known.point.role ≡ true → is_full voids (known.number, slot) ≡ false
    → voiding_of voids o slot ≡ Taken known
is_taken voids o slot known is counter free =
    ap (λ x. voiding_of voids x slot) is
    ∙ ap (λ b. cond b (cond (is_full voids (known.number, slot)) (Refused fault.TooManyVoids) (Taken known)) (Refused fault.NotACounter)) counter
    ∙ ap (λ b. cond b (Refused fault.TooManyVoids) (Taken known)) free

module _ (kept : Tables) (copy_known : List PointRow) (name : List ℕ) (slot : ℕ) (copy : IsCopy copy_known kept) (change : Change) (request : RequestRow) where
  abbrev pub what : Voiding
  what = voiding_of kept.voids (known_named copy_known name) slot

  abbrev pub made : Change
  made = record change { request = Some request }

  -- of a point that is known
  at_point : (known : PointRow) → what ≡ Taken known → Contains kept.points known
  at_point known is = subst (λ l. Contains l known) copy.0 (found_in (λ (p : PointRow). bytes_eq p.point.name name) copy_known known (taken_is kept.voids (known_named copy_known name) slot known is).0)

  abbrev pub After : Readings → Voiding → Type 0
  After table of = applied made kept ≡ record kept {
    readings = marked (with_voiding slot of kept.voids) table;
    voids = with_voiding slot of kept.voids;
    totals = totals_of kept.points (marked (with_voiding slot of kept.voids) table);
    requests = with_request (request.caller, request.key) (record { body = request.body; outcome = request.outcome }) kept.requests;
  }

  pub new_void_asked : VoidsIn kept slot what change → request_at kept.requests (request.caller, request.key) ≡ None → IsNew made kept
  new_void_asked voids unused = by what refl voids
    where
      by : (of : Voiding) → what ≡ of → VoidsIn kept slot of change → IsNew made kept
      by (Refused f) is voids = subst (λ (x : Change). IsNew (record x { request = Some request }) kept) (sym voids.alone) (record {
        points = still_numbered kept copy.1;
        readings = subst (KeepWords kept.readings) (sym voids.readings) tt;
        void = subst (IsNotVoided kept.voids) (sym voids.void) tt;
        totals = of_counters kept copy.1;
        sums = subst (AreThere kept.totals) (sym voids.totals) tt;
        setting = tt;
        request = unused;
      })
      by (Taken known) is voids =
          new_voiding kept copy.1 known (at_point known is) (taken_is kept.voids (known_named copy_known name) slot known is).1 slot made request (record {
            alone = ap (λ (x : Change). record x { request = Some request }) voids.alone;
            readings = voids.readings;
            totals = voids.totals;
            void = voids.void;
          }) unused

  pub applied_void_asked : (table : Readings) → AreByKey table → kept.readings ≡ marked kept.voids table → VoidsIn kept slot what change → After table what
  applied_void_asked table sorted is_kept voids = by what refl voids
    where
      by : (of : Voiding) → what ≡ of → VoidsIn kept slot of change → After table of
      by (Refused f) is voids =
          ap (λ (x : Change). applied (record x { request = Some request }) kept) voids.alone
          ∙ (λ i. record kept {
            points = append-nil kept.points i;
            readings = with_rows (voids.readings i) kept.readings;
            voids = with_voided (voids.void i) kept.voids;
            totals = with_sums (voids.totals i) kept.totals;
            requests = with_request (request.caller, request.key) (record { body = request.body; outcome = request.outcome }) kept.requests;
          })
          ∙ (λ i. record kept {
            readings = is_kept i;
            totals = (copy.1.totals ∙ ap (totals_of kept.points) is_kept) i;
            requests = with_request (request.caller, request.key) (record { body = request.body; outcome = request.outcome }) kept.requests;
          })
      by (Taken known) is voids =
          applied_voiding kept copy.1 known (at_point known is) (taken_is kept.voids (known_named copy_known name) slot known is).1 slot table sorted is_kept made request (record {
            alone = ap (λ (x : Change). record x { request = Some request }) voids.alone;
            readings = voids.readings;
            totals = voids.totals;
            void = voids.void;
          })
