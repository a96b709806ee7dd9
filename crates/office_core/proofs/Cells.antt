-- A point's words in a reply, and the cells of a reply that a unit spells.
use Rattle.std.proofs.Common.{◌≡◌, ◌<◌, ◌+◌, ◌*◌, ℕ, zero, suc, Bool, true, false, cond, eqb, List, [], ◌∷◌, length, take, drop, map, get_or, refl, sym, ap, ◌∙◌, subst, arith}
use Rattle.std.specs.Prelude.{◌-◌}
use Rattle.std.proofs.lemmas.Bool.{and_parts, eqb-true, eq-eqb}
use Rattle.std.proofs.lemmas.Bool.Decides.{nat_tests}
use Rattle.std.specs.Str.{bytes_eq}
use Rattle.mb_pdu.specs.declared.request.Request.{Request}
use Rattle.mb_pdu.specs.declared.request.Request.TheVariants.{ReadCoils, ReadDiscrete, ReadHolding, ReadInput}
use Rattle.mb_pdu.specs.declared.reply.Normal.{Normal}
use Rattle.mb_pdu.specs.declared.reply.Normal.TheVariants.{OfBits, OfWords, Echo}
use Rattle.mb_pdu.specs.declared.reply.Reply.{Reply}
use Rattle.mb_pdu.specs.declared.reply.Reply.TheVariants.{Bits, Registers, Written, Excepted}
use Rattle.mb_pdu.specs.Packing.{words_text, packed, bytes_for, unworded, unpacked}
use Rattle.mb_pdu.specs.Replies.{spells_reply, spells_normal, is_exception, function_of, normal_of, fits_normal}
use Rattle.mb_pdu.proofs.Words.{unworded-words_text}
use Rattle.mb_pdu.proofs.Packed.{unpacked-packed}
use Rattle.mb_pdu.proofs.Spelled.{spelled_fits}
use Rattle.mb_pdu.specs.declared.table.Table.{Table}
use Rattle.mb_pdu.specs.declared.table.Table.TheVariants.{Coil, Discrete, Holding, Input}
use Rattle.sunspec.specs.PointType.{row}
use Rattle.point_list.specs.declared.point.Point.{Point}
use Rattle.read_planner.specs.declared.Read.{Read}
use Rattle.read_planner.specs.Read.{read_request}
use Rattle.office_core.specs.Cover.{one_or_zero, Brings, covers, reads_table, has_size, words_in, cells, cells_of, reply_cells, excepts}
use Rattle.office_core.specs.Queries.{exception_code}

-- one cell of a list of bits
pub one_cell : (bits : List Bool) (place : ℕ) → place < length bits → take 1 (drop place (map one_or_zero bits)) ≡ one_or_zero (get_or bits place false) ∷ []
one_cell [] place lt = absurd (omega arith)
one_cell (b ∷ bits) zero lt = refl
one_cell (b ∷ bits) (suc place) lt = one_cell bits place (omega arith)

-- a point of which a read of bits covers all is one cell
one_word : (read : Read) (bits : List Bool) (table : Table) (count : ℕ) → Brings read (Bits bits)
    → reads_table read.function table ≡ true → has_size table count ≡ true → count ≡ 1
one_word read bits Coil count brings reads size = eqb-true count 1 size
one_word read bits Discrete count brings reads size = eqb-true count 1 size
one_word read bits Holding count brings reads size =
    absurd (subst (λ f. fits_normal (normal_of (read_request (record { function = f; span = read.span }))) (Bits bits)) (eqb-true read.function 3 reads) brings)
one_word read bits Input count brings reads size =
    absurd (subst (λ f. fits_normal (normal_of (read_request (record { function = f; span = read.span }))) (Bits bits)) (eqb-true read.function 4 reads) brings)

pub bit_words : (read : Read) (bits : List Bool) (point : Point) → Brings read (Bits bits) → covers point.device read point ≡ true
    → point.address - read.span.start < length bits
    → one_or_zero (get_or bits (point.address - read.span.start) false) ∷ [] ≡ words_in read (reply_cells (Bits bits)) point
bit_words read bits point brings covered lt =
    let a = and_parts (bytes_eq point.device point.device) _ covered in
    let b = and_parts (reads_table read.function point.table) _ a.1 in
    let d = and_parts (has_size point.table (row point.kind).registers) _ b.1 in
    let place : ℕ = point.address - read.span.start in
    sym (ap (λ n. take n (drop place (map one_or_zero bits))) (one_word read bits point.table (row point.kind).registers brings b.0 d.0) ∙ one_cell bits place lt)

-- ---- replies that units spell

-- the cells of bits and of registers, after any two bytes
cells_of_bits : (n : Normal) (f : ℕ) (bits : List Bool) (unit : List ℕ) → spells_normal f n (Bits bits) unit → cells_of n unit ≡ map one_or_zero bits
cells_of_bits (OfBits q) f bits unit h =
    ap (λ u. map one_or_zero (unpacked q (drop 2 u))) h.1
    ∙ ap (λ n. map one_or_zero (unpacked n (packed bits))) (sym h.0)
    ∙ ap (map one_or_zero) (unpacked-packed bits)
cells_of_bits (OfWords q) f bits unit h = absurd h
cells_of_bits (Echo text) f bits unit h = absurd h

cells_of_words : (n : Normal) (f : ℕ) (words : List ℕ) (unit : List ℕ) → spells_normal f n (Registers words) unit → cells_of n unit ≡ words
cells_of_words (OfBits q) f words unit h = absurd h
cells_of_words (OfWords q) f words unit h = ap (λ u. unworded (drop 2 u)) h.1 ∙ unworded-words_text words
cells_of_words (Echo text) f words unit h = absurd h

-- a unit that spells bits has them as its cells
pub bits_spelled : (read : Read) (bits : List Bool) (unit : List ℕ) → spells_reply (read_request read) (Bits bits) unit → cells read unit ≡ reply_cells (Bits bits)
bits_spelled read bits unit h = cells_of_bits (normal_of (read_request read)) (function_of (read_request read)) bits unit h.1

-- a unit that spells registers has them as its cells
pub words_spelled : (read : Read) (words unit : List ℕ) → spells_reply (read_request read) (Registers words) unit → cells read unit ≡ reply_cells (Registers words)
words_spelled read words unit h = cells_of_words (normal_of (read_request read)) (function_of (read_request read)) words unit h.1

-- no read is answered by an echo
pub no_echo : (read : Read) (unit : List ℕ) → spells_reply (read_request read) Written unit → ⊥
no_echo read unit h = by (eqb read.function 1) (eqb read.function 2) (eqb read.function 3) (function_of (read_request read)) h.1
  where
    request : Bool → Bool → Bool → Request
    request a b c = cond a (ReadCoils read.span) (cond b (ReadDiscrete read.span) (cond c (ReadHolding read.span) (ReadInput read.span)))

    by : (a b c : Bool) (f : ℕ) → spells_normal f (normal_of (request a b c)) Written unit → ⊥
    by true b c f e = e
    by false true c f e = e
    by false false true f e = e
    by false false false f e = e

-- a unit that spells an exception is one, of that code
pub exception_spelled : (read : Read) (code : ℕ) (unit : List ℕ) → spells_reply (read_request read) (Excepted code) unit
    → (excepts read unit ≡ true) × (exception_code unit ≡ code)
exception_spelled read code unit h =
    let f : ℕ = function_of (read_request read) in
    (ap (is_exception f) h ∙ eq-eqb (f + 128) (f + 128) refl, ap exception_code h)

-- a unit that begins with its function is no exception
pub no_exception : (f count : ℕ) (rest : List ℕ) → is_exception f (f ∷ count ∷ rest) ≡ false
no_exception f count [] = grind (arith, nat_tests)
no_exception f count (x ∷ rest) = refl

plain_bits : (n : Normal) (f : ℕ) (bits : List Bool) (unit : List ℕ) → spells_normal f n (Bits bits) unit → is_exception f unit ≡ false
plain_bits (OfBits q) f bits unit h = ap (is_exception f) h.1 ∙ no_exception f (bytes_for q) (packed bits)
plain_bits (OfWords q) f bits unit h = absurd h
plain_bits (Echo text) f bits unit h = absurd h

plain_words : (n : Normal) (f : ℕ) (words : List ℕ) (unit : List ℕ) → spells_normal f n (Registers words) unit → is_exception f unit ≡ false
plain_words (OfBits q) f words unit h = absurd h
plain_words (OfWords q) f words unit h = ap (is_exception f) h.1 ∙ no_exception f (2 * q) (words_text words)
plain_words (Echo text) f words unit h = absurd h

-- a unit that spells bits or registers is no exception
pub bits_plain : (read : Read) (bits : List Bool) (unit : List ℕ) → spells_reply (read_request read) (Bits bits) unit → excepts read unit ≡ false
bits_plain read bits unit h = plain_bits (normal_of (read_request read)) (function_of (read_request read)) bits unit h.1

pub words_plain : (read : Read) (words unit : List ℕ) → spells_reply (read_request read) (Registers words) unit → excepts read unit ≡ false
words_plain read words unit h = plain_words (normal_of (read_request read)) (function_of (read_request read)) words unit h.1

-- the cells of a unit that is no exception are those of the reply that it spells, which brings what is asked
pub cells_spelled : (read : Read) (reply : Reply) (unit : List ℕ) → spells_reply (read_request read) reply unit → excepts read unit ≡ false
    → (cells read unit ≡ reply_cells reply) × Brings read reply
cells_spelled read (Bits bits) unit h plain = (bits_spelled read bits unit h, (spelled_fits (read_request read) (Bits bits) unit h).1)
cells_spelled read (Registers words) unit h plain = (words_spelled read words unit h, (spelled_fits (read_request read) (Registers words) unit h).1)
cells_spelled read Written unit h plain = absurd (no_echo read unit h)
cells_spelled read (Excepted code) unit h plain = let e = (exception_spelled read code unit h).0 in absurd (cc)
