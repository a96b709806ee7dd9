-- What the relations say of a list is what its meaning computes.
use Rattle.std.proofs.Common.{◌≡◌, ◌≢◌, ◌<◌, ◌+◌, ℕ, zero, suc, List, [], ◌∷◌, ◌++◌, length, take, get_or, refl, ◌∙◌, ap, arith, Option, Some, None, Bool, true, false, cond, Ok, Err, inl, inr}
use Rattle.std.proofs.lemmas.List.{append-nil, append_assoc}
use Rattle.point_list.specs.Columns.{Record, field}
use Rattle.point_list.specs.Edition.{Edition, IsHeader}
use Rattle.point_list.specs.Header.{is_header}
use Rattle.point_list.specs.Lists.{names_in, fault_below, Says, SayRows, AreRows, IsFaultOf}
use Rattle.point_list.specs.ListMeaning.{point_in, rows_said, first_fault, list_meaning, body_meaning, missing_header}
use Rattle.point_list.specs.declared.point.Point.{Point}
use Rattle.point_list.specs.declared.point.ListRow.{ListRow}
use Rattle.point_list.specs.declared.error.ListError.{ListError}
use Rattle.point_list.specs.declared.error.ListFault.{ListFault}
use Rattle.point_list.proofs.Header.{header_is, header_passes}

-- a record that says a point has it as its point
point_is : (r : Record) (point : Point) → Says r point → point_in r ≡ Some point
point_is r point h = rw (h.table, h.address, h.kind, h.scale, h.role, h.roll, h.order, ← h.name, ← h.device) refl

-- records that say rows have them as their rows
said_are : (number : ℕ) (rs : List Record) (rows : List ListRow) → SayRows number rs rows → rows_said number rs ≡ rows
said_are number [] [] h = refl
said_are number [] (x ∷ xs) h = absurd h
said_are number (r ∷ rs) [] h = absurd h
said_are number (r ∷ rs) (x ∷ xs) h = rw (point_is r x.point h.0.point, said_are (number + 1) rs xs h.1, ← h.0.row, ← h.0.model) refl

-- the names before a record are the same when the first record's name is put with the names in front
further : (names : List (List ℕ)) (r : Record) (rs : List Record) (k : ℕ)
    → (names ++ field r 0 ∷ []) ++ names_in (take k rs) ≡ names ++ names_in (take (suc k) (r ∷ rs))
further names r rs k = append_assoc names (field r 0 ∷ []) (names_in (take k rs))

-- the fault of the first record below names
first_below : (columns : ℕ) (known : List ℕ → Bool) (names : List (List ℕ)) (r : Record) (x : Option (ListFault × ℕ))
    → fault_below columns known (names ++ []) r ≡ x → fault_below columns known names r ≡ x
first_below columns known names r x h = rw append-nil at h

-- where each record is faultless there is no first fault
no_fault : (columns : ℕ) (known : List ℕ → Bool) (names : List (List ℕ)) (number : ℕ) (body : List Record)
    → ((k : ℕ) → k < length body → fault_below columns known (names ++ names_in (take k body)) (get_or body k []) ≡ None)
    → first_fault columns known names number body ≡ None
no_fault columns known names number [] h = refl
no_fault columns known names number (r ∷ rs) h =
    let here : fault_below columns known names r ≡ None = first_below columns known names r None (h 0 (omega arith)) in
    rw here (no_fault columns known (names ++ field r 0 ∷ []) (number + 1) rs (λ k lt. rw (further names r rs k) (h (suc k) (omega arith))))

-- the first fault is that of the first faulty record
fault_there : (columns : ℕ) (known : List ℕ → Bool) (names : List (List ℕ)) (number : ℕ) (body : List Record) (place : ℕ) (e : ListError)
    → place < length body
    → ((k : ℕ) → k < place → fault_below columns known (names ++ names_in (take k body)) (get_or body k []) ≡ None)
    → fault_below columns known (names ++ names_in (take place body)) (get_or body place []) ≡ Some (e.fault, e.column)
    → e.row ≡ place + number
    → first_fault columns known names number body ≡ Some e
fault_there columns known names number [] place e lt before fault row = absurd (omega arith)
fault_there columns known names number (r ∷ rs) zero e lt before fault row =
    let here : fault_below columns known names r ≡ Some (e.fault, e.column) = first_below columns known names r (Some (e.fault, e.column)) fault in
    let same : e.row ≡ number = omega arith in
    rw (here, ← same) refl
fault_there columns known names number (r ∷ rs) (suc place) e lt before fault row =
    let here : fault_below columns known names r ≡ None = first_below columns known names r None (before 0 (omega arith)) in
    rw here (
    fault_there columns known (names ++ field r 0 ∷ []) (number + 1) rs place e (omega arith)
    (λ k lt. rw (further names r rs k) (before (suc k) (omega arith)))
    (rw (further names r rs place) fault) (omega arith)
    )

-- below a header the records mean what they say
below_header : (edition : Edition) (known : List ℕ → Bool) (list : List Record) (first : Record) (body : List Record)
    → list ≡ first ∷ body → IsHeader edition first → list_meaning edition known list ≡ body_meaning (length first) known body
below_header edition known list first body whole is =
    let test : is_header edition first ≡ true = header_passes edition first is in
    rw (whole, test) refl

-- a list with these rows means them
pub rows_are : (edition : Edition) (known : List ℕ → Bool) (list : List Record) (rows : List ListRow) → AreRows edition known list rows → list_meaning edition known list ≡ Ok rows
rows_are edition known list rows h =
    below_header edition known list h.first h.body h.whole h.header
    ∙ rw (no_fault (length h.first) known [] 2 h.body h.faultless, said_are 2 h.body rows h.say) refl

-- a list with no header means that fault
header_or : (edition : Edition) (known : List ℕ → Bool) (list : List Record)
    → ((first : Record) (body : List Record) → IsHeader edition first → list ≢ first ∷ body) → list_meaning edition known list ≡ Err missing_header
header_or edition known [] missing = refl
header_or edition known (first ∷ body) missing = by_test (is_header edition first) refl
  where
    by_test : (b : Bool) → is_header edition first ≡ b → cond (is_header edition first) (body_meaning (length first) known body) (Err missing_header) ≡ Err missing_header
    by_test true h = absurd (missing first body (header_is edition first h) refl)
    by_test false h = rw h refl

-- a list with this fault means it
pub fault_is : (edition : Edition) (known : List ℕ → Bool) (list : List Record) (e : ListError) → IsFaultOf edition known list e → list_meaning edition known list ≡ Err e
fault_is edition known list e (inl h) =
    let same : missing_header ≡ e = rw (← h.fault, ← h.row, ← h.column) refl in
    header_or edition known list h.missing ∙ ap Err same
fault_is edition known list e (inr h) =
    let f = h.fault in
    below_header edition known list h.first h.body h.whole h.header
    ∙ rw (fault_there (length h.first) known [] 2 h.body f.place e f.within f.faultless f.fault f.row) refl
