use Rattle.std.proofs.Common.{◌≡◌, ◌≢◌, ◌∙◌, ◌<◌, ◌^◌, ◌*◌, ap, sym, refl, arith}
use Rattle.std.specs.Int.{w128}
use Rattle.std.proofs.lemmas.Int.{to_z-of_z}
use Rattle.sunspec.specs.PointType.{TypeRow, row, bits, bits_of}
use Rattle.sunspec.specs.declared.point_type.Content.TheVariants.{Text}
use Rattle.sunspec.proofs.Table.{in_table, few_bits, some_bits}
use Rattle.sunspec.proofs.Encodings.{bits_in_registers, no_sum, only_unimplemented}
use Rattle.sunspec.proofs.encode.to_registers.Goals as goal

pub sum_of-requires : goal.sum_of-requires
sum_of-requires c =
    let kind = c.args.kind.now in
    let number : (row kind).content ≢ Text = λ text. c.in_default.not-Text (ap (λ (r : TypeRow). r.content) c.row-row.ensures ∙ text) in
    let same : c.bits.result ≡ bits_of kind = c.bits.ensures ∙ ap (λ (r : TypeRow). bits r.content r.registers) c.row-row.ensures in
    record { some = omega (arith, same, some_bits kind number); few = omega (arith, same, few_bits kind) }

pub returns-in_default-sum_of : goal.returns-in_default-sum_of
returns-in_default-sum_of c =
    let kind = c.args.kind.now in
    let content : c.row-row.result.content ≡ (row kind).content = ap (λ (r : TypeRow). r.content) c.row-row.ensures in
    let same : c.bits.result ≡ bits_of kind = c.bits.ensures ∙ ap (λ (r : TypeRow). bits r.content r.registers) c.row-row.ensures in
    let number = to_z-of_z w128 c.args.number c.ranges.number in
    record { registers = tt; value = tt; refused = refl; none = no_sum kind c.args.number (λ _ sum below means. c.in_default-sum_of.ensures.none sum (rw same below) (rw (content, same, number) means)) }

pub returns-then-is_unimplemented : goal.returns-then-is_unimplemented
returns-then-is_unimplemented c =
    let kind = c.args.kind.now in
    let content : c.row-row.result.content ≡ (row kind).content = ap (λ (r : TypeRow). r.content) c.row-row.ensures in
    let unimplemented : c.row-row.result.unimplemented ≡ (row kind).unimplemented = ap (λ (r : TypeRow). r.unimplemented) c.row-row.ensures in
    let same : c.bits.result ≡ bits_of kind = c.bits.ensures ∙ ap (λ (r : TypeRow). bits r.content r.registers) c.row-row.ensures in
    let number = to_z-of_z w128 c.args.number c.ranges.number in
    let test = rw unimplemented at (sym c.is_unimplemented.ensures ∙ c.if-is_unimplemented.true) in
    let some = rw (same, content, number) at c.in-Some.ensures.some in
    record { registers = tt; value = tt; refused = refl; none = only_unimplemented kind c.args.number c.in-Some.sum some.0 some.1 test }

pub words_of-requires : goal.words_of-requires
words_of-requires c =
    let kind = c.args.kind.now in
    let registers : c.row-row.result.registers ≡ (row kind).registers = ap (λ (r : TypeRow). r.registers) c.row-row.ensures in
    let number : (row kind).content ≢ Text = λ text. c.in_default.not-Text (ap (λ (r : TypeRow). r.content) c.row-row.ensures ∙ text) in
    let same : c.bits.result ≡ bits_of kind = c.bits.ensures ∙ ap (λ (r : TypeRow). bits r.content r.registers) c.row-row.ensures in
    let some = rw same at c.in-Some.ensures.some in
    let below : c.in-Some.sum < 2 ^ (16 * (row kind).registers) = bits_in_registers kind c.in-Some.sum some.0 in
    record { some = omega (arith, registers, (in_table kind).some number); few = omega (arith, registers, (in_table kind).few number); fits = rw registers below }
