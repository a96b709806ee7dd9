-- Pages, part by part.
use Rattle.std.proofs.Common.{◌≡◌, ◌+◌, arith, inl, inr, suc, Bool, true, false, cond, find, ℕ, List, [], ◌∷◌, ◌++◌, Option, Some, None, refl, sym, ◌∙◌, ap, subst, take, drop, codes, length}
use Rattle.std.specs.Prelude.{◌≢◌, ◌-◌, ◌≤◌, ◌<◌, Contains, IfSome, get_or, slice_get}
use Rattle.std.proofs.lemmas.List.{get_or-drop, length-drop, take_all, take_more}
use Rattle.std.specs.Prelude.{option_map}
use Rattle.std.proofs.lemmas.Option.{get_or_from_slice_get, slice_get_cases, slice_get_within}
use Rattle.poll_book.specs.declared.rows.PointRow.{PointRow}
use Rattle.sunspec.specs.Value.{AreRegistersOf}
use Rattle.point_list.specs.declared.point.Point.{Point}
use Rattle.poll_book.specs.declared.rows.Reading.{Reading}
use Rattle.poll_book.specs.Histories.{end_of, own, slot_behind}
use Rattle.poll_book.specs.Tables.{Key, Readings, readings_between}
use Rattle.poll_book.specs.Totals.{last_of}
use Rattle.poll_book.proofs.Ends.{last_alone}
use Rattle.office_core.specs.Fitting.{AreOf, HasForm, IsFitting}
use Rattle.office_core.specs.History.{History, kept_readings, points, tables, voids}
use Rattle.poll_book.specs.Showing.{Shown, as_shown, with_mark}
use Rattle.poll_book.specs.declared.shown.ShownReading.{ShownReading}
use Rattle.office_core.proofs.BySlot.{kept_sorted}
use Rattle.office_pages.specs.PointRows.{IsFittingIfAny}
use Rattle.office_pages.specs.declared.seen.Seen.{Seen}
use Rattle.office_http.specs.declared.heard.Page.{Page}
use Rattle.office_http.specs.declared.heard.Page.TheVariants as page
use Rattle.run_callers.specs.declared.showing.Part.{Part}
use Rattle.run_callers.specs.declared.showing.Part.TheVariants.{Top, Orders, Points, Values, Times, Totals}
use Rattle.run_callers.specs.declared.showing.Showing.{Showing}
use Rattle.run_callers.specs.Pages.{AddsPoint, AddsPart, AddsPoints, AddsSome, IsOfList, IsOfPoints, IsPart, IsPartOf, IsSeen, later_in_list}

-- ---- a point that is known

module _ (now : History) (known : PointRow) (there : Contains (points now) known) where
  -- its last reading has the form of its type
  pub fits_seen : (seen : Seen) → IsFitting (tables now) → IsSeen now known seen → IsFittingIfAny seen.point seen.last
  fits_seen seen fits is = subst (λ (point : Point). IsFittingIfAny point seen.last) (sym is.point) (by seen.last refl)
    where
      table : Readings
      table = kept_readings now

      fitting : HasForm known.point × ((from to : ℕ) → AreOf known.point (readings_between known.number from to table))
      fitting = subst (λ (row : PointRow). HasForm row.point × ((from to : ℕ) → AreOf row.point (readings_between row.number from to table)))
          there.2 (fits there.0 known there.1)

      one : (row : Key × Reading) → last_of (own known.number table) ≡ Some row → AreRegistersOf known.point.kind row.1.words
      one row last =
          let behind : end_of known.number table ≡ suc row.0.1 = omega (arith, ap slot_behind last) in
          let alone = last_alone known.number table row.0.1 (kept_sorted now) behind in
          let same : Some alone.0 ≡ Some row = sym alone.1 ∙ last in
          let it : alone.0 ≡ row = cc in
          let all : AreOf known.point (alone.0 ∷ []) = subst (AreOf known.point) alone.2 (fitting.1 row.0.1 row.0.1) in
          subst (λ (some : Key × Reading). AreRegistersOf known.point.kind some.1.words) it (all 0 row (omega arith))

      of_last : (shown : ShownReading) (last : Option (Key × Reading)) → last_of (own known.number table) ≡ last → Some (as_shown shown) ≡ option_map (with_mark (voids now)) last
          → AreRegistersOf known.point.kind shown.reading.words
      of_last shown None last some = absurd (cc)
      of_last shown (Some row) last some =
          let same : as_shown shown ≡ with_mark (voids now) row = cc in
          subst (λ (it : Shown). AreRegistersOf known.point.kind it.0.1.words) (sym same) (one row last)

      by : (last : Option ShownReading) → seen.last ≡ last → IsFittingIfAny known.point last
      by None none = tt
      by (Some shown) some = (
        fitting.0,
        of_last shown (last_of (own known.number table)) refl
            (ap (option_map as_shown) (sym some) ∙ is.last),
      )

-- ---- rows

-- one row more
pub adds_more : (now : History) (seconds : ℕ) (rows : List PointRow) (known : PointRow) (old between new : List ℕ)
    → AddsPoints now seconds rows old between → AddsPoint now seconds known between new → AddsPoints now seconds (rows ++ known ∷ []) old new
adds_more now seconds [] known old between new so_far adds =
    (new, subst (λ (text : List ℕ). AddsPoint now seconds known text new) so_far adds, refl)
adds_more now seconds (first ∷ rows) known old between new so_far adds =
    (so_far.0, so_far.1, adds_more now seconds rows known so_far.0 between new so_far.2 adds)

-- ---- places of a list

-- what stands at a place is among the others
pub stands_there : (all : List PointRow) (at : ℕ) (row : PointRow) → slice_get all at ≡ Some row → Contains all row
stands_there all at row is = (at, slice_get_within all at row is, get_or_from_slice_get all at row row is)

slice_get_none : (xs : List PointRow) (i : ℕ) → slice_get xs i ≡ None → length xs ≤ i
slice_get_none xs i none = elim (slice_get_cases xs i).1 as (λ _. length xs ≤ i) [
  | inl there ↦ let both : None ≡ Some there.0 = sym none ∙ there.2 in absurd (cc)
  | inr past ↦ past.0
]

module _ (now : History) (seconds : ℕ) (all : List PointRow) (next at : ℕ) (behind : next ≤ at) where
  -- a row more from the next one on
  pub list_more : (row : PointRow) (old between new : List ℕ) → slice_get all at ≡ Some row
      → AddsPoints now seconds (take (at - next) (drop next all)) old between → AddsPoint now seconds row between new
      → AddsPoints now seconds (take (at + 1 - next) (drop next all)) old new
  list_more row old between new is so_far adds =
      let within : at < length all = slice_get_within all at row is in
      let here : at - next < length (drop next all) = omega (arith, within, behind, length-drop next all) in
      let same : next + (at - next) ≡ at = omega (arith, behind) in
      let element : get_or (drop next all) (at - next) row ≡ row = get_or-drop next all (at - next) row ∙ ap (λ (i : ℕ). get_or all i row) same ∙ get_or_from_slice_get all at row row is in
      let count : at + 1 - next ≡ at - next + 1 = omega (arith, behind) in
      subst (λ (rows : List PointRow). AddsPoints now seconds rows old new)
      (sym (ap (λ (n : ℕ). take n (drop next all)) count ∙ take_more (drop next all) (at - next) row here ∙ ap (λ (x : PointRow). take (at - next) (drop next all) ++ x ∷ []) element))
      (adds_more now seconds (take (at - next) (drop next all)) row old between new so_far adds)

  -- all that are left
  pub list_whole : (old new : List ℕ) → slice_get all at ≡ None → AddsPoints now seconds (take (at - next) (drop next all)) old new → AddsPoints now seconds (drop next all) old new
  list_whole old new none adds =
      let past : length all ≤ at = slice_get_none all at none in
      let enough : length (drop next all) ≤ at - next = omega (arith, past, behind, length-drop next all) in
      subst (λ (rows : List PointRow). AddsPoints now seconds rows old new) (take_all (at - next) (drop next all) enough) adds

-- ---- a part

module _ (now : History) (showing : Showing) where
  -- that of the rows
  pub adds_part : (part : Part) (old new : List ℕ) (next : Option ℕ) → part ≢ Top → AddsSome now showing old new next → AddsPart part now showing old new next
  adds_part Top old new next isnt adds = absurd (isnt refl)
  adds_part Orders old new next isnt adds = adds
  adds_part Points old new next isnt adds = adds
  adds_part Values old new next isnt adds = adds
  adds_part Times old new next isnt adds = adds
  adds_part Totals old new next isnt adds = adds

  some_goes_on : (text : List ℕ) (end : ℕ) → AddsSome now showing [] text (Some end) → IsOfPoints now showing text (Some (record showing { next = end }))
  some_goes_on text end adds = (adds.0, adds.1, ap (λ (n : ℕ). record showing { next = n }) adds.2)

  list_goes_on : (part : Part) (text : List ℕ) (end : ℕ) → AddsPart part now showing [] text (Some end) → IsOfList part now showing text (Some (record showing { next = end }))
  list_goes_on Top text end adds = let none : Some end ≡ None = adds.1 in absurd (cc)
  list_goes_on Orders text end adds = some_goes_on text end adds
  list_goes_on Points text end adds = some_goes_on text end adds
  list_goes_on Values text end adds = some_goes_on text end adds
  list_goes_on Times text end adds = some_goes_on text end adds
  list_goes_on Totals text end adds = some_goes_on text end adds

  some_ends : (pushed text : List ℕ) (next : Option Showing) → AddsSome now showing [] pushed None → text ≡ pushed ++ codes "]}\n" → next ≡ None → IsOfPoints now showing text next
  some_ends pushed text next adds ends none = subst (IsOfPoints now showing text) (sym none) (pushed, adds, ends)

  list_ends : (part : Part) (pushed text : List ℕ) (next : Option Showing) → AddsPart part now showing [] pushed None
      → (part ≡ Top → text ≡ pushed) → (part ≢ Top → text ≡ pushed ++ codes "]}\n") → next ≡ later_in_list part showing → IsOfList part now showing text next
  list_ends Top pushed text next adds top ends later = (top refl ∙ adds.0, later)
  list_ends Orders pushed text next adds top ends later = some_ends pushed text next adds (ends (λ is. absurd (cc))) later
  list_ends Points pushed text next adds top ends later = some_ends pushed text next adds (ends (λ is. absurd (cc))) later
  list_ends Values pushed text next adds top ends later = some_ends pushed text next adds (ends (λ is. absurd (cc))) later
  list_ends Times pushed text next adds top ends later = some_ends pushed text next adds (ends (λ is. absurd (cc))) later
  list_ends Totals pushed text next adds top ends later = some_ends pushed text next adds (ends (λ is. absurd (cc))) later

  -- more is left of the part
  pub part_goes_on : (text : List ℕ) (end : ℕ) → (showing.page ≡ page.Points → AddsPart showing.part now showing [] text (Some end))
      → IsPart now showing text (Some (record showing { next = end }))
  part_goes_on text end adds = by showing.page refl
    where
      by : (shown : Page) → showing.page ≡ shown → IsPartOf shown now showing text (Some (record showing { next = end }))
      by page.Points is = list_goes_on showing.part text end (adds is)
      by page.Metrics is = refl
      by page.Office is = refl
      by (page.Device place) is = refl

  -- nothing is left of it
  pub part_ends : (pushed text : List ℕ) (next : Option Showing) → (showing.page ≡ page.Points → AddsPart showing.part now showing [] pushed None)
      → (showing.part ≡ Top → text ≡ pushed) → (showing.page ≡ page.Points → showing.part ≢ Top → text ≡ pushed ++ codes "]}\n")
      → IfSome next (λ (more : Showing). more.page ≡ showing.page) → (showing.page ≡ page.Points → next ≡ later_in_list showing.part showing)
      → IsPart now showing text next
  part_ends pushed text next adds top ends same later = by showing.page refl
    where
      by : (shown : Page) → showing.page ≡ shown → IsPartOf shown now showing text next
      by page.Points is = list_ends showing.part pushed text next (adds is) top (ends is) (later is)
      by page.Metrics is = same
      by page.Office is = same
      by (page.Device place) is = same
