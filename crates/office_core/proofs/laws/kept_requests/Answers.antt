use Rattle.office_core.proofs.KeptRequests.{kept_request}
use Rattle.office_core.proofs.laws.kept_requests.Goals as goal

pub returns : goal.returns
returns c = kept_request
