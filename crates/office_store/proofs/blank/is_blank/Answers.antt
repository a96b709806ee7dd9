use Rattle.office_store.proofs.Queries.{names_is_query}
use Rattle.office_store.proofs.blank.is_blank.Goals as goal

pub ask-requires-clause-query : goal.ask-requires-clause-query
ask-requires-clause-query g c = names_is_query
