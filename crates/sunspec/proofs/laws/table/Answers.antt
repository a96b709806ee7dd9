use Rattle.sunspec.proofs.RoundTrips.{named_again, coded_again, same_name, same_code}
use Rattle.sunspec.proofs.laws.table.Goals as goal

pub returns : goal.returns
returns c = record { named = named_again; coded = coded_again; names = same_name; codes = same_code }
