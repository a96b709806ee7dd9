use Rattle.std.proofs.Common.{sym, ◌∙◌, ap}
use Rattle.serde_json.proofs.Views.{members_len-members_view}
use Rattle.office_http.specs.Documents.{count_of}
use Rattle.office_http.proofs.document.member_count.Goals as goal

pub returns-in-Some : goal.returns-in-Some
returns-in-Some c =
    c.len.ensures.len ∙ sym (members_len-members_view c.in-Some.members.now.entries) ∙ ap count_of c.in-Some.ensures
