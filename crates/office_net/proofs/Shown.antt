-- What a point's readings show, one by one.
use Rattle.std.proofs.Common.{◌≡◌, ℕ, List, [], ◌∷◌, ◌++◌, map, ap, sym, subst, ◌∙◌, Option, Some}
use Rattle.std.specs.Prelude.{Vec}
use Rattle.std.specs.Str.{bytes_eq}
use Rattle.std.specs.Global.{Global}
use Rattle.poll_book.specs.declared.rows.PointRow.{PointRow}
use Rattle.poll_book.specs.Tables.{Readings, readings_between}
use Rattle.std.proofs.lemmas.List.{map-append}
use Rattle.point_list.specs.declared.point.Point.{Point}
use Rattle.poll_book.specs.Changes.{as_row}
use Rattle.office_core.specs.Fitting.{AreOf, HasForm, IsFitting}
use Rattle.office_core.specs.History.{History, kept_readings, points, tables, voids}
use Rattle.office_core.specs.Loads.{known_named}
use Rattle.office_core.specs.Offices.{Shows, readings_at, readings_of}
use Rattle.poll_book.specs.Showing.{as_shown, with_marks}
use Rattle.poll_book.specs.declared.shown.ShownReading.{ShownReading}
use Rattle.office_http.specs.declared.reading_body.Shown.{Shown}
use Rattle.office_http.specs.Shown.{shown}
use Rattle.office_net.specs.Replies.{readings_reply, rows_reply, shown_row}
use Rattle.office_net.proofs.Requested.{found_holds}
use Rattle.office_report.specs.Reports.{rows_of}
use Rattle.office_report.proofs.Reported.{unmarked}

-- one reading more
pub shown_more : (point : Point) (before now : List Shown) (one : Shown) (rows more : List ShownReading) (row : ShownReading) → now ≡ before ++ one ∷ [] → more ≡ rows ++ row ∷ []
    → map shown before ≡ map (shown_row point) (rows_of (map as_shown rows)) → shown one ≡ shown_row point (as_row row.reading)
    → map shown now ≡ map (shown_row point) (rows_of (map as_shown more))
shown_more point before now one rows more row pushed taken so is =
    ap (map shown) pushed ∙ map-append shown before (one ∷ []) ∙ ap (λ l. l ++ shown one ∷ []) so ∙ ap (λ e. map (shown_row point) (rows_of (map as_shown rows)) ++ e ∷ []) is
    ∙ sym (ap (λ l. map (shown_row point) (rows_of (map as_shown l))) taken ∙ ap (λ l. map (shown_row point) (rows_of l)) (map-append as_shown rows (row ∷ []))
    ∙ ap (map (shown_row point)) (map-append _ (map as_shown rows) (as_shown row ∷ [])) ∙ map-append (shown_row point) (rows_of (map as_shown rows)) (as_row row.reading ∷ []))

-- the answer to a query for readings, by what an office shows
pub shown_between : (now : History) (name : List ℕ) (from to : ℕ) (known : PointRow) (rows : Vec ShownReading Global) (found : Option (Vec ShownReading Global)) (items : List ShownReading) (text : List ℕ)
    → known_named (points now) name ≡ Some known → found ≡ Some rows → items ≡ rows.items → Shows (readings_of now name from to) found → IsFitting (tables now)
    → (HasForm known.point → AreOf known.point (rows_of (map as_shown items)) → text ≡ rows_reply name known.point (rows_of (map as_shown items))) → text ≡ readings_reply now name from to (known_named (points now) name)
shown_between now name from to known rows found items text named is same shows fits so =
    let there : Shows (readings_of now name from to) (Some rows) = subst (Shows (readings_of now name from to)) is shows in
    let between : Readings = readings_between known.number from to (kept_readings now) in
    let table : map as_shown rows.items ≡ with_marks (voids now) between = subst (λ k. Shows (readings_at now k from to) (Some rows)) named there in
    let all : rows_of (map as_shown items) ≡ between = ap (λ l. rows_of (map as_shown l)) same ∙ ap rows_of table ∙ unmarked (voids now) between in
    let fitting = found_holds (λ (k : PointRow). HasForm k.point × ((from to : ℕ) → AreOf k.point (readings_between k.number from to (kept_readings now))))
    (λ (k : PointRow). bytes_eq k.point.name name) (points now) known named fits in
    so fitting.0 (subst (AreOf known.point) (sym all) (fitting.1 from to)) ∙ ap (rows_reply name known.point) all ∙ sym (ap (readings_reply now name from to) named)
