use Rattle.std.proofs.Common.{rules, ◌≡◌, ◌≢◌, ◌∙◌, ◌<◌, ◌^◌, ℕ, false, length, ap, sym, subst, arith}
use Rattle.std.proofs.lemmas.List.{get_or_default}
use Rattle.std.proofs.lemmas.List.Elements.{All-from_all_within}
use Rattle.sunspec.specs.PointType.{TypeRow, row, bits, bits_of, is_unimplemented}
use Rattle.sunspec.specs.Value.{AreWords, number_meant, register_sum}
use Rattle.sunspec.specs.WordOrder.{arranged}
use Rattle.sunspec.specs.declared.point_type.Content.{Content}
use Rattle.sunspec.specs.declared.point_type.Content.TheVariants.{Text}
use Rattle.sunspec.proofs.Arranged.{arranged_registers, arranged_words}
use Rattle.sunspec.proofs.Encodings.{word_fits}
use Rattle.sunspec.proofs.Table.{in_table, few_bits, some_bits}
use Rattle.sunspec.proofs.Meanings.{sum_fits}
use Rattle.sunspec.proofs.ReadNumbers.{judged_registers, none_read, none_there, some_read}
use Rattle.sunspec.proofs.value.read_number.Goals as goal
use Rattle.sunspec.proofs.value.read_number.Goals.{then-not-is_sum_of-via-then-not-is_sum_of, then-not-is_sum_of-via-else-not-is_sum_of+then-is_unimplemented}

pub arranged_sum-sum-requires : goal.arranged_sum-sum-requires
arranged_sum-sum-requires c =
    let kind = c.args.kind.now in
    let content = ap (λ (r : TypeRow). r.content) c.row-row.ensures in
    let registers : c.row-row.result.registers ≡ (row kind).registers = ap (λ (r : TypeRow). r.registers) c.row-row.ensures in
    let number : (row kind).content ≢ Text = λ text. c.in_default.not-Text (content ∙ text) in
    record {
      some = omega (arith, registers, (in_table kind).some number, c.if-words-row.false);
      few = omega (arith, registers, (in_table kind).few number, c.if-words-row.false);
    }

pub returns-then-not-is_sum_of : goal.returns-then-not-is_sum_of
returns-then-not-is_sum_of c =
    let kind = c.args.kind.now in
    let words = c.args.words.now in
    let content = ap (λ (r : TypeRow). r.content) c.row-row.ensures in
    let count : length words ≡ (row kind).registers = c.if-words-row.false ∙ ap (λ (r : TypeRow). r.registers) c.row-row.ensures in
    elim c.then-not-is_sum_of.branch [
      | then-not-is_sum_of-via-then-not-is_sum_of w ↦
          none_read kind c.args.order words count (rw (← content, ← c.arranged_sum-sum.ensures, ← c.is_sum_of.ensures) w.if-not-is_sum_of.true)
      | then-not-is_sum_of-via-else-not-is_sum_of+then-is_unimplemented w ↦
          none_there kind c.args.order words
          (ap (λ (r : TypeRow). is_unimplemented r.unimplemented (register_sum (arranged c.args.order words))) (sym c.row-row.ensures)
          ∙ ap (is_unimplemented c.row-row.result.unimplemented) (sym c.arranged_sum-sum.ensures) ∙ sym w.is_unimplemented.ensures ∙ w.if-is_unimplemented.true)
    ]

pub number_of-requires : goal.number_of-requires
number_of-requires c =
    let kind = c.args.kind.now in
    let words = c.args.words.now in
    let order = c.args.order in
    let content = ap (λ (r : TypeRow). r.content) c.row-row.ensures in
    let number : (row kind).content ≢ Text = λ text. c.in_default.not-Text (content ∙ text) in
    let count : length words ≡ (row kind).registers = c.if-words-row.false ∙ ap (λ (r : TypeRow). r.registers) c.row-row.ensures in
    let same : c.bits.result ≡ bits_of kind = c.bits.ensures ∙ ap (λ (r : TypeRow). bits r.content r.registers) c.row-row.ensures in
    let fit : AreWords words =
    All-from_all_within (λ (word : ℕ). word < 65536) words (λ i d _ lt. subst (λ (word : ℕ). word < 65536) (get_or_default words i 0 d lt) (omega (arith, c.type_inv.words i))) in
    let are = judged_registers kind order words count (rw (← content, ← c.arranged_sum-sum.ensures, ← c.is_sum_of.ensures) c.if-not-is_sum_of.false) in
    let fits : c.arranged_sum-sum.result < 2 ^ bits_of kind =
    subst (λ (n : ℕ). n < 2 ^ bits_of kind) (sym c.arranged_sum-sum.ensures)
    (sum_fits kind (arranged order words) number (arranged_registers kind order words are) (word_fits (arranged order words) (arranged_words order words fit))) in
    record { some = omega (arith, same, some_bits kind number); few = omega (arith, same, few_bits kind); fits = rw same fits }

pub returns : goal.returns
returns c =
    let kind = c.args.kind.now in
    let words = c.args.words.now in
    let sum = register_sum (arranged c.args.order words) in
    let content = ap (λ (r : TypeRow). r.content) c.row-row.ensures in
    let number : (row kind).content ≢ Text = λ text. c.in_default.not-Text (content ∙ text) in
    let count : length words ≡ (row kind).registers = c.if-words-row.false ∙ ap (λ (r : TypeRow). r.registers) c.row-row.ensures in
    let said : is_unimplemented (row kind).unimplemented sum ≡ false =
    ap (λ (r : TypeRow). is_unimplemented r.unimplemented sum) (sym c.row-row.ensures)
    ∙ ap (is_unimplemented c.row-row.result.unimplemented) (sym c.arranged_sum-sum.ensures) ∙ sym c.is_unimplemented.ensures ∙ c.if-is_unimplemented.false in
    let meant : number_meant (row kind).content (bits_of kind) sum ≡ c.number_of.result =
    sym
    (c.number_of.ensures
    ∙ ap (λ (n : ℕ). number_meant c.row-row.result.content n c.arranged_sum-sum.result) (c.bits.ensures ∙ ap (λ (r : TypeRow). bits r.content r.registers) c.row-row.ensures)
    ∙ ap (λ (k : Content). number_meant k (bits_of kind) c.arranged_sum-sum.result) content
    ∙ ap (number_meant (row kind).content (bits_of kind)) c.arranged_sum-sum.ensures) in
    search (rules, some_read kind c.args.order words count number (rw (← content, ← c.arranged_sum-sum.ensures, ← c.is_sum_of.ensures) c.if-not-is_sum_of.false) said, meant)
