-- What requests are answered, as texts.
use Rattle.std.specs.Prelude.{ℕ, List, ◌++◌, codes, decimal}
use Rattle.poll_book.specs.RequestTexts.{request_fault_text}
use Rattle.poll_book.specs.declared.requests.Outcome.{Outcome}
use Rattle.poll_book.specs.declared.requests.Outcome.TheVariants.{Loaded, Ordered, Voided, RefusedFor}
use Rattle.office_core.specs.declared.event.RequestAnswer.{RequestAnswer}
use Rattle.office_core.specs.declared.event.RequestAnswer.TheVariants.{Kept, KeyReused}

-- what became of a request
abbrev pub outcome_text : Outcome → List ℕ
outcome_text (Loaded count) = codes "loaded " ++ decimal count
outcome_text (Ordered number) = codes "order " ++ decimal number
outcome_text (Voided slot) = codes "voided " ++ decimal slot
outcome_text (RefusedFor reason) = codes "refused " ++ request_fault_text reason.fault

-- what became of the first request under a key, or that it was another
abbrev pub request_text : RequestAnswer → List ℕ
request_text (Kept first outcome) = outcome_text outcome
request_text KeyReused = codes "key reused"
