use Rattle.sqlite_trees.specs.Objects.{catalog_tree}
use Rattle.sqlite_catalog.proofs.ReadLemmas.{lists_once}
use Rattle.office_store.specs.Schema.{office_schema}
use Rattle.office_store.proofs.laws.lists_office.Goals as goal

pub returns : goal.returns
returns c = λ db schema listed office. lists_once (db catalog_tree) schema office_schema listed office.listed
