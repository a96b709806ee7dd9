-- A device's step has one answer and one outcome, and so have a list of calls and its schedule.
use Rattle.std.proofs.Common.{◌≡◌, ℕ, Bool, true, false, List, [], ◌∷◌, length, drop, get_or, map, Option, Some, None, refl, sym, ap, ◌∙◌, subst, arith}
use Rattle.std.proofs.lemmas.List.{ext_get_or}
use Rattle.mb_mbap.specs.declared.frame.Frame.{Frame}
use Rattle.mb_pdu.specs.declared.error.UnitError.{UnitError}
use Rattle.mb_pdu.specs.declared.reply.Reply.{Reply}
use Rattle.mb_pdu.specs.declared.reply.Reply.TheVariants.{Bits, Registers, Written}
use Rattle.mb_pdu.specs.declared.request.Request.{Request}
use Rattle.mb_pdu.specs.declared.request.Request.TheVariants.{ReadCoils, ReadDiscrete, ReadHolding, ReadInput, WriteCoil, WriteRegister, WriteCoils, WriteRegisters, MaskWrite, ReadWrite}
use Rattle.mb_pdu.specs.declared.request.Span.{Span}
use Rattle.mb_pdu.specs.Grammar.{spells}
use Rattle.mb_pdu.specs.Replies.{spells_reply}
use Rattle.mb_map.specs.declared.step.Step.{Step}
use Rattle.mb_map.specs.Device.{DeviceStep, Does, IsFaulty, IsInside, Reads, code_of, exception, number_of}
use Rattle.mb_map.specs.Device.DeviceStep.{faulty, outside, done}
use Rattle.mb_map.specs.Schedule.{Answers, Call, Devices, Outcome, Run, Serves, Simulated, StandsFor, schedule, sent, tables_at, waiting, with_set, with_tables}
use Rattle.mb_map.specs.Schedule.Call.{Take, Rest, Set}
use Rattle.mb_map.specs.Schedule.Outcome.{Replied, Rested, Changed}
use Rattle.mb_map.specs.Tables.{Cells, Tables}

some_same : {A : Type 0} (x y : A) → Some x ≡ Some y → x ≡ y
some_same x y e = cc

-- a range holds one list of numbers
reads_once : (cells : Cells) (span : Span) (xs ys : List ℕ) → Reads cells span xs → Reads cells span ys → xs ≡ ys
reads_once cells span xs ys p q =
    ext_get_or 0 xs ys (p.0 ∙ sym q.0) (λ k lt. some_same (get_or xs k 0) (get_or ys k 0) (sym (p.1 k lt) ∙ q.1 k (omega arith)))

bit_same : (a b : Bool) → number_of a ≡ number_of b → a ≡ b
bit_same true true e = refl
bit_same true false e = absurd (omega arith)
bit_same false true e = absurd (omega arith)
bit_same false false e = refl

bits_same : (a b : List Bool) → map number_of a ≡ map number_of b → a ≡ b
bits_same [] [] e = refl
bits_same [] (y ∷ b) e = absurd (omega (arith, ap length e))
bits_same (x ∷ a) [] e = absurd (omega (arith, ap length e))
bits_same (x ∷ a) (y ∷ b) e =
    let head : number_of x ≡ number_of y = cc in
    let tail : map number_of a ≡ map number_of b = cc in
    λ i. bit_same x y head i ∷ bits_same a b tail i

does_once : (request : Request) (before : Tables) (x y : Reply) (s t : Tables) → Does request before x s → Does request before y t → (x ≡ y) × (s ≡ t)
does_once (ReadCoils span) before (Bits a) (Bits b) s t p q = (ap Bits (bits_same a b (reads_once before.coils span _ _ p.1 q.1)), p.0 ∙ sym q.0)
does_once (ReadCoils span) before (Bits a) y s t p q = absurd q
does_once (ReadCoils span) before x y s t p q = absurd p
does_once (ReadDiscrete span) before (Bits a) (Bits b) s t p q = (ap Bits (bits_same a b (reads_once before.discrete span _ _ p.1 q.1)), p.0 ∙ sym q.0)
does_once (ReadDiscrete span) before (Bits a) y s t p q = absurd q
does_once (ReadDiscrete span) before x y s t p q = absurd p
does_once (ReadHolding span) before (Registers a) (Registers b) s t p q = (ap Registers (reads_once before.holding span a b p.1 q.1), p.0 ∙ sym q.0)
does_once (ReadHolding span) before (Registers a) y s t p q = absurd q
does_once (ReadHolding span) before x y s t p q = absurd p
does_once (ReadInput span) before (Registers a) (Registers b) s t p q = (ap Registers (reads_once before.input span a b p.1 q.1), p.0 ∙ sym q.0)
does_once (ReadInput span) before (Registers a) y s t p q = absurd q
does_once (ReadInput span) before x y s t p q = absurd p
does_once (WriteCoil address on) before Written Written s t p q = (refl, p ∙ sym q)
does_once (WriteCoil address on) before Written y s t p q = absurd q
does_once (WriteCoil address on) before x y s t p q = absurd p
does_once (WriteRegister address value) before Written Written s t p q = (refl, p ∙ sym q)
does_once (WriteRegister address value) before Written y s t p q = absurd q
does_once (WriteRegister address value) before x y s t p q = absurd p
does_once (WriteCoils start bits) before Written Written s t p q = (refl, p ∙ sym q)
does_once (WriteCoils start bits) before Written y s t p q = absurd q
does_once (WriteCoils start bits) before x y s t p q = absurd p
does_once (WriteRegisters start words) before Written Written s t p q = (refl, p ∙ sym q)
does_once (WriteRegisters start words) before Written y s t p q = absurd q
does_once (WriteRegisters start words) before x y s t p q = absurd p
does_once (MaskWrite address and_mask or_mask) before Written Written s t p q =
    let same : p.0 ≡ q.0 = some_same p.0 q.0 (sym p.1 ∙ q.1) in
    (refl, p.2 ∙ rw same (sym q.2))
does_once (MaskWrite address and_mask or_mask) before Written y s t p q = absurd q
does_once (MaskWrite address and_mask or_mask) before x y s t p q = absurd p
does_once (ReadWrite read write_start words) before (Registers a) (Registers b) s t p q =
    let same : s ≡ t = p.0 ∙ sym q.0 in
    (ap Registers (reads_once t.holding read a b (subst (λ (u : Tables). Reads u.holding read a) same p.1) q.1), same)
does_once (ReadWrite read write_start words) before (Registers a) y s t p q = absurd q
does_once (ReadWrite read write_start words) before x y s t p q = absurd p

-- what the laws of units say of requests and replies
pub record Spelling : Type 0 where
  pub value : (a b : Request) (bytes : List ℕ) → spells a bytes → spells b bytes → a ≡ b
  pub text : (request : Request) (reply : Reply) (a b : List ℕ) → spells_reply request reply a → spells_reply request reply b → a ≡ b

after_faulty : (before : Tables) (asked b : List ℕ) (t : Tables) → DeviceStep before asked b t → (fault : UnitError) (a : List ℕ) (s : Tables)
    → IsFaulty asked fault → a ≡ exception asked (code_of fault) → s ≡ before → (a ≡ b) × (s ≡ t)
after_faulty _ _ _ _ (faulty other before asked b t p q r) fault a s faulted is same =
    let one : other ≡ fault = some_same other fault (sym p.1 ∙ faulted.1) in
    (is ∙ rw one at (sym q), same ∙ sym r)
after_faulty _ _ _ _ (outside request before asked b t p q r u) fault a s faulted is same = absurd (faulted.0 request p)
after_faulty _ _ _ _ (done request reply before asked b t p q r u) fault a s faulted is same = absurd (faulted.0 request p)

after_outside : Spelling → (before : Tables) (asked b : List ℕ) (t : Tables) → DeviceStep before asked b t → (request : Request) (a : List ℕ) (s : Tables)
    → spells request asked → (IsInside request before → ⊥) → a ≡ exception asked 2 → s ≡ before → (a ≡ b) × (s ≡ t)
after_outside laws _ _ _ _ (faulty other before asked b t p q r) request a s spelled out is same = absurd (p.0 request spelled)
after_outside laws _ _ _ _ (outside other before asked b t p q r u) request a s spelled out is same = (is ∙ sym r, same ∙ sym u)
after_outside laws _ _ _ _ (done other reply before asked b t p q r u) request a s spelled out is same =
    absurd (out (subst (λ (x : Request). IsInside x before) (laws.value other request asked p spelled) q))

after_done : Spelling → (before : Tables) (asked b : List ℕ) (t : Tables) → DeviceStep before asked b t → (request : Request) (reply : Reply) (a : List ℕ) (s : Tables)
    → spells request asked → IsInside request before → Does request before reply s → spells_reply request reply a → (a ≡ b) × (s ≡ t)
after_done laws _ _ _ _ (faulty other before asked b t p q r) request reply a s spelled inside does is = absurd (p.0 request spelled)
after_done laws _ _ _ _ (outside other before asked b t p q r u) request reply a s spelled inside does is =
    absurd (q (subst (λ (x : Request). IsInside x before) (laws.value request other asked spelled p) inside))
after_done laws _ _ _ _ (done other answer before asked b t p q r u) request reply a s spelled inside does is =
    let same : other ≡ request = laws.value other request asked p spelled in
    let one = does_once request before reply answer s t does (subst (λ (x : Request). Does x before answer t) same r) in
    let text : spells_reply request answer b = subst (λ (x : Request). spells_reply x answer b) same u in
    (laws.text request answer a b (subst (λ (y : Reply). spells_reply request y a) one.0 is) text, one.1)

pub step_once : Spelling → (before : Tables) (asked a : List ℕ) (s : Tables) → DeviceStep before asked a s → (b : List ℕ) (t : Tables) → DeviceStep before asked b t → (a ≡ b) × (s ≡ t)
step_once laws _ _ _ _ (faulty fault before asked a s p q r) b t other = after_faulty before asked b t other fault a s p q r
step_once laws _ _ _ _ (outside request before asked a s p q r u) b t other = after_outside laws before asked b t other request a s p q r u
step_once laws _ _ _ _ (done request reply before asked a s p q r u) b t other = after_done laws before asked b t other request reply a s p q r u

-- ---- lists of calls

-- what the law of steps says
abbrev pub OneStep : Type 0
OneStep = (before : Tables) (asked a b : List ℕ) (s t : Tables) → DeviceStep before asked a s → DeviceStep before asked b t → (a ≡ b) × (s ≡ t)

answers_once : OneStep → (tables : Option Tables) (unit_id : ℕ) (before : Devices) (asked a b : List ℕ) (s t : Devices)
    → Answers tables unit_id before asked a s → Answers tables unit_id before asked b t → (a ≡ b) × (s ≡ t)
answers_once one None unit_id before asked a b s t p q = (p.0 ∙ sym q.0, p.1 ∙ sym q.1)
answers_once one (Some tables) unit_id before asked a b s t p q =
    let step = one tables asked a b p.0 q.0 p.1 q.1 in
    (step.0, p.2 ∙ ap (λ (u : Tables). with_tables unit_id u before) step.1 ∙ sym q.2)

serves_once : OneStep → (before : Devices) (frame x y : Frame) (s t : Devices) → Serves before frame x s → Serves before frame y t → (x ≡ y) × (s ≡ t)
serves_once one before frame x y s t p q =
    let answer = answers_once one (tables_at frame.unit_id before) frame.unit_id before frame.unit x.unit y.unit s t p.2 q.2 in
    ((λ i. record { transaction = (p.0 ∙ sym q.0) i; unit_id = (p.1 ∙ sym q.1) i; unit = answer.0 i }), answer.1)

run_once : OneStep → (before : Devices) (calls : List Call) (o u : List Outcome) (s t : Devices) → Run before calls o s → Run before calls u t → (o ≡ u) × (s ≡ t)
run_once one before [] [] [] s t p q = (refl, p ∙ sym q)
run_once one before [] [] u s t p q = absurd q
run_once one before [] o u s t p q = absurd p
run_once one before (Take f ∷ calls) (Replied x ∷ o) (Replied y ∷ u) s t p q =
    let served = serves_once one before f x y p.0 q.0 p.1 q.1 in
    let rest = run_once one p.0 calls o u s t p.2 (subst (λ (d : Devices). Run d calls u t) (sym served.1) q.2) in
    ((λ i. Replied (served.0 i) ∷ rest.0 i), rest.1)
run_once one before (Take f ∷ calls) (Replied x ∷ o) u s t p q = absurd q
run_once one before (Take f ∷ calls) o u s t p q = absurd p
run_once one before (Rest ∷ calls) (Rested ∷ o) (Rested ∷ u) s t p q =
    let rest = run_once one before calls o u s t p q in
    ((λ i. Rested ∷ rest.0 i), rest.1)
run_once one before (Rest ∷ calls) (Rested ∷ o) u s t p q = absurd q
run_once one before (Rest ∷ calls) o u s t p q = absurd p
run_once one before (Set unit_id table address number ∷ calls) (Changed ∷ o) (Changed ∷ u) s t p q =
    let rest = run_once one (with_set unit_id table address number before) calls o u s t p q in
    ((λ i. Changed ∷ rest.0 i), rest.1)
run_once one before (Set unit_id table address number ∷ calls) (Changed ∷ o) u s t p q = absurd q
run_once one before (Set unit_id table address number ∷ calls) o u s t p q = absurd p

pub stands_once : OneStep → (devices : Devices) (script : List Step) (calls : List Call) (a b : List (List Frame)) (s t : Simulated)
    → StandsFor devices script calls a s → StandsFor devices script calls b t → (a ≡ b) × (s ≡ t)
stands_once one devices script calls a b s t p q =
    let run = run_once one devices calls p.outcomes q.outcomes s.devices t.devices p.run q.run in
    let rest : s.script ≡ t.script = p.unused ∙ ap (λ (o : List Outcome). drop (length (sent script o)) script) run.0 ∙ sym q.unused in
    let held : s.held ≡ t.held = p.held ∙ ap (waiting script) run.0 ∙ sym q.held in
    (p.answered ∙ ap (schedule script []) run.0 ∙ sym q.answered, (λ i. record { devices = run.1 i; script = rest i; held = held i }))
