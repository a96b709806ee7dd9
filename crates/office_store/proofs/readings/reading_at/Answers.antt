use Rattle.std.proofs.Common.{◌≡◌, Some, [], ◌++◌, length, take, ◌-◌, ◌∙◌, ap, sym}
use Rattle.std.specs.Option.{option_to_list}
use Rattle.poll_book.specs.declared.rows.Reading.{Reading}
use Rattle.poll_book.specs.Changes.{as_rows}
use Rattle.office_store.proofs.Counts.{none_between, first_between, nothing_taken}
use Rattle.office_store.proofs.readings.reading_at.Goals as goal

pub returns-in-Some-clause-value : goal.returns-in-Some-clause-value
returns-in-Some-clause-value g c clean kept holds =
    let all = c.in_ok-rows.rows.items in
    let is = c.in_ok-rows.ensures.value clean kept holds in
    let taken = sym c.truncate.ensures.items ∙ c.pop.ensures.items in
    let first = first_between c.args.point.now.number c.args.slot kept.readings all c.pop.new.self.items c.in-Some.row is (taken ∙ ap (λ o. c.pop.new.self.items ++ option_to_list o) c.in-Some.is) in
    ap (λ (reading : Reading). Some reading) c.in_ok-judged-in-Some.ensures.same ∙ first

pub returns-clause-value : goal.returns-clause-value
returns-clause-value g c clean kept holds =
    let all = c.in_ok-rows.rows.items in
    let is = c.in_ok-rows.ensures.value clean kept holds in
    let left : c.pop.new.self.items ≡ [] = c.pop.ensures.rest ∙ ap (λ n. take (n - 1) c.truncate.new.self.items) c.in-None.ensures.cases.0 in
    let none = nothing_taken all (ap length (sym c.truncate.ensures.items ∙ c.in-None.ensures.items ∙ ap (λ xs. xs ++ []) left)) in
    none_between c.args.point.now.number c.args.slot kept.readings (sym (ap as_rows none) ∙ is)
