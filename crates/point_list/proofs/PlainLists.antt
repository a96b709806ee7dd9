-- Lists without a column of orders.
use Rattle.std.proofs.Common.{◌≡◌, ◌∙◌, ◌≤◌, ℕ, zero, suc, List, [], ◌∷◌, Bool, All, Some, Err, length, refl, ap, arith}
use Rattle.csv.specs.Records.{field_at}
use Rattle.sunspec.specs.declared.word_order.WordOrder.TheVariants.{Big}
use Rattle.point_list.specs.Columns.{Record, field, order_of}
use Rattle.point_list.specs.Edition.{Edition, First, Second, header, header_with_words}
use Rattle.point_list.specs.ListMeaning.{list_meaning, missing_header}
use Rattle.point_list.specs.Lists.{AreRows, Says, order_in}
use Rattle.point_list.specs.declared.point.ListRow.{ListRow}
use Rattle.point_list.specs.declared.point.Point.{Point}
use Rattle.point_list.proofs.Header.{plain_passes}
use Rattle.point_list.proofs.Rows.{all_columns, row_said}

-- they mean the same in both editions
pub same_meaning : (known : List ℕ → Bool) (body : List Record) → list_meaning First known (header ∷ body) ≡ list_meaning Second known (header ∷ body)
same_meaning known body = rw plain_passes refl

-- one with the column has no header in the first
pub unknown_header : (known : List ℕ → Bool) (body : List Record) → list_meaning First known (header_with_words ∷ body) ≡ Err missing_header
unknown_header known body = refl

-- there is nothing behind the last field
pub field_past : (r : Record) (i : ℕ) → length r ≤ i → field r i ≡ []
unfolding field_at
field_past [] i past = refl
field_past (x ∷ r) zero past = absurd (omega arith)
field_past (x ∷ r) (suc i) past = field_past r i (omega arith)

big_said : (r : Record) (point : Point) → length r ≡ 9 → Says r point → point.order ≡ Big
unfolding order_in order_of
big_said r point nine says =
    let none : field r 9 ≡ [] = field_past r 9 (omega arith) in
    let same : Some Big ≡ Some point.order = rw (says.kind, none) at says.order in
    cc

-- and the points that they say have their most significant register first
pub big_rows : (edition : Edition) (known : List ℕ → Bool) (body : List Record) (rows : List ListRow) → AreRows edition known (header ∷ body) rows
    → All (λ (x : ListRow). x.point.order ≡ Big) rows
big_rows edition known body rows are = λ k d lt.
    let said = row_said 2 are.body rows are.say k d lt in
    let same : are.first ≡ header = cc in
    let columns : length are.first ≡ 9 = ap length same in
    big_said _ _ (all_columns (length are.first) known _ _ (are.faultless k said.0) ∙ columns) said.1
