use Rattle.std.proofs.Common.{◌≡◌, ◌∷◌, ℕ, List, ap, ◌∙◌, subst, sym}
use Rattle.std.specs.Prelude.{IfOk, IfErr, Some}
use Rattle.mb_pdu.specs.Grammar.{spells}
use Rattle.mb_pdu.specs.Checks.{first_fault}
use Rattle.mb_pdu.proofs.Parted.{parted, fault_of}
use Rattle.mb_pdu.proofs.request.read.Goals as goal

pub returns-in_err-span_of-in-1-clause-refused : goal.returns-in_err-span_of-in-1-clause-refused
returns-in_err-span_of-in-1-clause-refused c =
    let bytes = c.args.bytes.now in
    fault_of c.from_residual.result c.in_err-span_of-in-1.field-0.0 bytes c.from_residual.ensures.1
    (ap first_fault (parted bytes 1 c.in-len1-up.len_at_least c.in-1.is) ∙ c.in_err-span_of-in-1.ensures.refused)

pub returns-in_ok-span_of-in-1-clause-found : goal.returns-in_ok-span_of-in-1-clause-found
returns-in_ok-span_of-in-1-clause-found c = (c.in_ok-span_of-in-1.ensures.found.0, parted c.args.bytes.now 1 c.in-len1-up.len_at_least c.in-1.is ∙ ap (λ (x : List ℕ). 1 ∷ x) c.in_ok-span_of-in-1.ensures.found.1)

pub returns-in_err-span_of-in-2-clause-refused : goal.returns-in_err-span_of-in-2-clause-refused
returns-in_err-span_of-in-2-clause-refused c =
    let bytes = c.args.bytes.now in
    fault_of c.from_residual-in_err-span_of-in-2.result c.in_err-span_of-in-2.field-0.0 bytes c.from_residual-in_err-span_of-in-2.ensures.1
    (ap first_fault (parted bytes 2 c.in-len1-up.len_at_least c.in-2.is) ∙ c.in_err-span_of-in-2.ensures.refused)

pub returns-in_ok-span_of-in-2-clause-found : goal.returns-in_ok-span_of-in-2-clause-found
returns-in_ok-span_of-in-2-clause-found c = (c.in_ok-span_of-in-2.ensures.found.0, parted c.args.bytes.now 2 c.in-len1-up.len_at_least c.in-2.is ∙ ap (λ (x : List ℕ). 2 ∷ x) c.in_ok-span_of-in-2.ensures.found.1)

pub returns-in_err-span_of-in-3-clause-refused : goal.returns-in_err-span_of-in-3-clause-refused
returns-in_err-span_of-in-3-clause-refused c =
    let bytes = c.args.bytes.now in
    fault_of c.from_residual-in_err-span_of-in-3.result c.in_err-span_of-in-3.field-0.0 bytes c.from_residual-in_err-span_of-in-3.ensures.1
    (ap first_fault (parted bytes 3 c.in-len1-up.len_at_least c.in-3.is) ∙ c.in_err-span_of-in-3.ensures.refused)

pub returns-in_ok-span_of-in-3-clause-found : goal.returns-in_ok-span_of-in-3-clause-found
returns-in_ok-span_of-in-3-clause-found c = (c.in_ok-span_of-in-3.ensures.found.0, parted c.args.bytes.now 3 c.in-len1-up.len_at_least c.in-3.is ∙ ap (λ (x : List ℕ). 3 ∷ x) c.in_ok-span_of-in-3.ensures.found.1)

pub returns-in_err-span_of-in-4-clause-refused : goal.returns-in_err-span_of-in-4-clause-refused
returns-in_err-span_of-in-4-clause-refused c =
    let bytes = c.args.bytes.now in
    fault_of c.from_residual-in_err-span_of-in-4.result c.in_err-span_of-in-4.field-0.0 bytes c.from_residual-in_err-span_of-in-4.ensures.1
    (ap first_fault (parted bytes 4 c.in-len1-up.len_at_least c.in-4.is) ∙ c.in_err-span_of-in-4.ensures.refused)

pub returns-in_ok-span_of-in-4-clause-found : goal.returns-in_ok-span_of-in-4-clause-found
returns-in_ok-span_of-in-4-clause-found c = (c.in_ok-span_of-in-4.ensures.found.0, parted c.args.bytes.now 4 c.in-len1-up.len_at_least c.in-4.is ∙ ap (λ (x : List ℕ). 4 ∷ x) c.in_ok-span_of-in-4.ensures.found.1)

pub returns-in_err-address-in-5-clause-refused : goal.returns-in_err-address-in-5-clause-refused
returns-in_err-address-in-5-clause-refused c =
    let bytes = c.args.bytes.now in
    fault_of c.from_residual-in_err-address-in-5.result c.in_err-address-in-5.field-0.0 bytes c.from_residual-in_err-address-in-5.ensures.1
    (ap first_fault (parted bytes 5 c.in-len1-up.len_at_least c.in-5.is) ∙ c.in_err-address-in-5.ensures.refused)

pub returns-in_ok-address-in-5-clause-found : goal.returns-in_ok-address-in-5-clause-found
returns-in_ok-address-in-5-clause-found c = parted c.args.bytes.now 5 c.in-len1-up.len_at_least c.in-5.is ∙ ap (λ (x : List ℕ). 5 ∷ x) c.in_ok-address-in-5.ensures.found

pub returns-in_err-address-in-6-clause-refused : goal.returns-in_err-address-in-6-clause-refused
returns-in_err-address-in-6-clause-refused c =
    let bytes = c.args.bytes.now in
    fault_of c.from_residual-in_err-address-in-6.result c.in_err-address-in-6.field-0.0 bytes c.from_residual-in_err-address-in-6.ensures.1
    (ap first_fault (parted bytes 6 c.in-len1-up.len_at_least c.in-6.is) ∙ c.in_err-address-in-6.ensures.refused)

pub returns-in_ok-address-in-6-clause-found : goal.returns-in_ok-address-in-6-clause-found
returns-in_ok-address-in-6-clause-found c = parted c.args.bytes.now 6 c.in-len1-up.len_at_least c.in-6.is ∙ ap (λ (x : List ℕ). 6 ∷ x) c.in_ok-address-in-6.ensures.found

pub returns-in_err-start-in-15-clause-refused : goal.returns-in_err-start-in-15-clause-refused
returns-in_err-start-in-15-clause-refused c =
    let bytes = c.args.bytes.now in
    fault_of c.from_residual-in_err-start-in-15.result c.in_err-start-in-15.field-0.0 bytes c.from_residual-in_err-start-in-15.ensures.1
    (ap first_fault (parted bytes 15 c.in-len1-up.len_at_least c.in-15.is) ∙ c.in_err-start-in-15.ensures.refused)

pub returns-in_ok-start-in-15-clause-found : goal.returns-in_ok-start-in-15-clause-found
returns-in_ok-start-in-15-clause-found c = (c.in_ok-start-in-15.ensures.found.0, parted c.args.bytes.now 15 c.in-len1-up.len_at_least c.in-15.is ∙ ap (λ (x : List ℕ). 15 ∷ x) c.in_ok-start-in-15.ensures.found.1)

pub returns-in_err-start-in-16-clause-refused : goal.returns-in_err-start-in-16-clause-refused
returns-in_err-start-in-16-clause-refused c =
    let bytes = c.args.bytes.now in
    fault_of c.from_residual-in_err-start-in-16.result c.in_err-start-in-16.field-0.0 bytes c.from_residual-in_err-start-in-16.ensures.1
    (ap first_fault (parted bytes 16 c.in-len1-up.len_at_least c.in-16.is) ∙ c.in_err-start-in-16.ensures.refused)

pub returns-in_ok-start-in-16-clause-found : goal.returns-in_ok-start-in-16-clause-found
returns-in_ok-start-in-16-clause-found c = (c.in_ok-start-in-16.ensures.found.0, parted c.args.bytes.now 16 c.in-len1-up.len_at_least c.in-16.is ∙ ap (λ (x : List ℕ). 16 ∷ x) c.in_ok-start-in-16.ensures.found.1)

pub returns-in-22-clause-found : goal.returns-in-22-clause-found
returns-in-22-clause-found c =
    subst (λ (x : List ℕ). IfOk c.read_mask.result (λ request. spells request x)) (sym (parted c.args.bytes.now 22 c.in-len1-up.len_at_least c.in-22.is)) c.read_mask.ensures.found

pub returns-in-22-clause-refused : goal.returns-in-22-clause-refused
returns-in-22-clause-refused c =
    subst (λ (x : List ℕ). IfErr c.read_mask.result (λ e. first_fault x ≡ Some e)) (sym (parted c.args.bytes.now 22 c.in-len1-up.len_at_least c.in-22.is)) c.read_mask.ensures.refused

pub returns-in-23-clause-found : goal.returns-in-23-clause-found
returns-in-23-clause-found c =
    subst (λ (x : List ℕ). IfOk c.read_read_write.result (λ request. spells request x)) (sym (parted c.args.bytes.now 23 c.in-len1-up.len_at_least c.in-23.is)) c.read_read_write.ensures.found

pub returns-in-23-clause-refused : goal.returns-in-23-clause-refused
returns-in-23-clause-refused c =
    subst (λ (x : List ℕ). IfErr c.read_read_write.result (λ e. first_fault x ≡ Some e)) (sym (parted c.args.bytes.now 23 c.in-len1-up.len_at_least c.in-23.is)) c.read_read_write.ensures.refused
