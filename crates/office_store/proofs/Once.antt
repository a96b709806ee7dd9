-- Rows stand for one state of an office's tables alone.
use Rattle.std.proofs.Common.{◌≡◌, ℕ, List, map, sym, ap, ◌∙◌, T}
use Rattle.std.specs.List.Sorted.{IsPermutation}
use Rattle.std.specs.FinMap.Entries as rows
use Rattle.std.specs.declared.cmp.Ordering.{Ordering}
use Rattle.std.specs.declared.cmp.Ordering.TheVariants.{Equal}
use Rattle.std.specs.Cmp.{IsTotalOrder}
use Rattle.std.proofs.lemmas.List.Elements.{All-from_recursion, recursion_from_All}
use Rattle.std.proofs.lemmas.List.Sorted.{All-permutation, IsPermutation-sym, IsPermutation-trans}
use Rattle.sqlite_trees.specs.Tree.{Trees}
use Rattle.poll_book.specs.Tables.{Tables, key_cmp}
use Rattle.poll_book.specs.Requests.{request_cmp}
use Rattle.office_store.specs.Swaps.{plain, swaps_of}
use Rattle.office_store.specs.Kept.{StandFor, number_rows}
use Rattle.office_store.proofs.ByKey.{requests_total, requests_exact}
use Rattle.office_store.proofs.Showing.{same_list}
use Rattle.office_store.proofs.Slots.{keys_total, keys_exact}
use Rattle.office_store.proofs.Sorted.{IsFoundIn, each_found, sorted_once}
use Rattle.office_store.proofs.Swapping.{same_points}

module _ {K X : Type 0} (R : K → K → Ordering) (o : IsTotalOrder R) (exact : (x y : K) → R x y ≡ Equal → x ≡ y) where
  -- entries have one order of their keys
  pub one_order : (es fs entries : List (K × X)) → T (rows.is_sorted R es) → T (rows.is_sorted R fs) → IsPermutation entries es → IsPermutation entries fs → es ≡ fs
  one_order es fs entries a b to_es to_fs =
      let across = IsPermutation-trans es entries fs (IsPermutation-sym entries es to_es) to_fs in
      let back = IsPermutation-sym es fs across in
      let in_es = recursion_from_All (IsFoundIn R o es) fs (All-permutation (IsFoundIn R o es) es fs across (All-from_recursion (IsFoundIn R o es) es (each_found R o es a))) in
      let in_fs = recursion_from_All (IsFoundIn R o fs) es (All-permutation (IsFoundIn R o fs) fs es back (All-from_recursion (IsFoundIn R o fs) fs (each_found R o fs b))) in
      sorted_once R o exact es fs a b in_es in_fs

same_number : (a b : ℕ) → number_rows a ≡ number_rows b → a ≡ b
same_number a b h = cc

pub once : (db : Trees) (a b : Tables) → StandFor db a → StandFor db b → a ≡ b
once db a b x y =
    let plains = same_list (map plain a.points) (map plain b.points) (sym x.points.stored ∙ y.points.stored) in
    let swaps = same_list (swaps_of a.points) (swaps_of b.points) (sym x.swapped.stored ∙ y.swapped.stored) in
    let points = same_points a.points b.points x.points.sorted plains swaps in
    let totals = same_list a.totals b.totals (sym x.totals.stored ∙ y.totals.stored) in
    let settings = same_list a.settings b.settings (sym x.settings.stored ∙ y.settings.stored) in
    let read : x.readings.entries ≡ y.readings.entries = same_list x.readings.entries y.readings.entries (sym x.readings.stored ∙ y.readings.stored) in
    let asked : x.requests.entries ≡ y.requests.entries = same_list x.requests.entries y.requests.entries (sym x.requests.stored ∙ y.requests.stored) in
    let readings = one_order key_cmp keys_total keys_exact a.readings b.readings y.readings.entries x.readings.sorted y.readings.sorted (rw (sym read) x.readings.same) y.readings.same in
    let requests = one_order request_cmp requests_total requests_exact a.requests b.requests y.requests.entries x.requests.sorted y.requests.sorted (rw (sym asked) x.requests.same) y.requests.same in
    let out : x.voids.entries ≡ y.voids.entries = same_list x.voids.entries y.voids.entries (sym x.voids.stored ∙ y.voids.stored) in
    let voids = one_order key_cmp keys_total keys_exact a.voids b.voids y.voids.entries x.voids.sorted y.voids.sorted (rw (sym out) x.voids.same) y.voids.same in
    let numbers = same_number a.connections b.connections (sym x.numbers ∙ y.numbers) in
    ap (λ p. record a { points = p }) points ∙ ap (λ p. record a { points = b.points; readings = p }) readings
    ∙ ap (λ p. record a { points = b.points; readings = b.readings; voids = p }) voids
    ∙ ap (λ p. record a { points = b.points; readings = b.readings; voids = b.voids; totals = p }) totals
    ∙ ap (λ p. record a { points = b.points; readings = b.readings; voids = b.voids; totals = b.totals; settings = p }) settings
    ∙ ap (λ p. record b { requests = p; connections = a.connections }) requests ∙ ap (λ p. record b { connections = p }) numbers
