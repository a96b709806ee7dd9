use Rattle.std.proofs.Common.{rules}
use Rattle.std.proofs.lemmas.List.Sorted.{answers_always}
use Rattle.poll_book.proofs.Places.{found, absent}
use Rattle.poll_book.proofs.keyed.search.Goals as goal

pub returns-clause-found : goal.returns-clause-found
returns-clause-found g c =
    let facts = c.binary_search_by_key.ensures in
    let by_key = facts.position g.T.Keyed.key_of (answers_always _ _ _ (λ f a r h called. search rules)) in
    found g.T.Keyed.key_of _ c.requires _ _ facts.bound by_key

pub returns-clause-absent : goal.returns-clause-absent
returns-clause-absent g c =
    let facts = c.binary_search_by_key.ensures in
    let by_key = facts.position g.T.Keyed.key_of (answers_always _ _ _ (λ f a r h called. search rules)) in
    absent g.T.Keyed.key_of _ c.requires _ _ facts.bound by_key
