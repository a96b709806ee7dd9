use Rattle.std.proofs.Common.{◌≡◌, ◌≢◌, ◌∷◌, ℕ, List, Bool, refl, sym, ◌∙◌, inl, inr, rules, length, map, subst}
use Rattle.std.proofs.lemmas.Bool.{and_parts}
use Rattle.csv.specs.Records.{fields_of}
use Rattle.point_list.specs.Columns.{Record, is_device}
use Rattle.point_list.specs.DeviceNames.{has_device}
use Rattle.point_list.specs.Edition.{IsHeader, Second}
use Rattle.point_list.specs.Lists.{AreRows, IsFirstInBody}
use Rattle.point_list.proofs.Header.{header_is, list_is, no_header}
use Rattle.point_list.proofs.list.rows_in.Goals as goal

pub returns-then-not-is_header-clause-fault : goal.returns-then-not-is_header-clause-fault
returns-then-not-is_header-clause-fault c =
    let missing : (r : Record) (body : List Record) → IsHeader Second r → map fields_of c.args.list.now ≢ r ∷ body =
    λ r body is. rw c.in-Some.ensures.cases.0 (no_header Second (fields_of c.in-Some.first.now) (map fields_of c.in-Some.body.now) (search rules) r body is) in
    rw c.new-then-not-is_header.ensures (inr (inl (record { fault = refl; row = refl; column = refl; missing = missing })))

pub returns-in-Ok-rows_of-clause-rows : goal.returns-in-Ok-rows_of-clause-rows
returns-in-Ok-rows_of-clause-rows c =
    let first : Record = fields_of c.in-Some.first.now in
    let whole = list_is c.args.list.now c.in-Some.first.now c.in-Some.body.now c.in-Some.ensures.cases.0 in
    let is : IsHeader Second first = header_is Second first (search rules) in
    let body = rw c.len.ensures at c.in-Ok-rows_of.ensures.rows in
    let known = rw c.as_slice.ensures at c.in-Ok.ensures in
    let same : has_device c.in-Ok.devices ≡ is_device c.args.site.now = λ i text. known text i in
    let P : (List ℕ → Bool) → Type 0 = λ test. AreRows Second test (map fields_of c.args.list.now) c.in-Ok-rows_of.rows.items in
    subst P same (record { first = first; body = map fields_of c.in-Some.body.now; whole = whole; header = is; faultless = body.0; say = body.1 })

pub returns-clause-fault : goal.returns-clause-fault
returns-clause-fault c =
    let first : Record = fields_of c.in-Some.first.now in
    let whole = list_is c.args.list.now c.in-Some.first.now c.in-Some.body.now c.in-Some.ensures.cases.0 in
    let is : IsHeader Second first = header_is Second first (search rules) in
    let known = rw c.as_slice.ensures at c.in-Ok.ensures in
    let same : has_device c.in-Ok.devices ≡ is_device c.args.site.now = λ i text. known text i in
    let P : (List ℕ → Bool) → Type 0 = λ test. IsFirstInBody (length first) test (map fields_of c.in-Some.body.now) c.in-Err-rows_of.e in
    elim (rw c.len.ensures at c.in-Err-rows_of.ensures.fault) [
      | inl memory ↦ inl memory
      | inr fault ↦ inr (inr (record { first = first; body = map fields_of c.in-Some.body.now; whole = whole; header = is; fault = subst P same fault }))
    ]

pub rows_of-requires : goal.rows_of-requires
rows_of-requires c = λ text has.
    let known = rw c.as_slice.ensures at c.in-Ok.ensures in
    (and_parts _ _ (sym (known text) ∙ has)).0
