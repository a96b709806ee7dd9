-- The readings of a history have the form of their points' types.
use Rattle.std.proofs.Common.{◌≡◌, ◌≤◌, ◌+◌, ℕ, zero, suc, Bool, true, false, cond, eqb, leb, not, ◌&&◌, List, [], ◌∷◌, ◌++◌, length, map, take, drop, get_or, Option, Some, None, refl, sym, ◌∙◌, subst, arith}
use Rattle.std.specs.Prelude.{◌-◌, All, Contains, filter, slice_get}
use Rattle.std.specs.Str.{bytes_eq}
use Rattle.std.specs.Ordering.{eq_by_cmp}
use Rattle.std.proofs.lemmas.Bool.{and_parts, leb-true, eqb-true}
use Rattle.std.proofs.lemmas.List.{length-map, length-drop, length-take-le}
use Rattle.std.proofs.lemmas.List.Elements.{All-nil, All-head, All-tail, All-map, All-filter, All-append, All-take, All-weaker, All-contains_itself, Contains-append_left, Contains-get_or, filter_passes}
use Rattle.std.proofs.lemmas.Option.{none-some, same_Some}
use Rattle.mb_pdu.specs.declared.request.Request.{Request}
use Rattle.mb_pdu.specs.declared.request.Request.TheVariants.{ReadCoils, ReadDiscrete, ReadHolding, ReadInput}
use Rattle.mb_pdu.specs.declared.reply.Normal.{Normal}
use Rattle.mb_pdu.specs.declared.reply.Normal.TheVariants.{OfBits, OfWords, Echo}
use Rattle.mb_pdu.specs.declared.reply.Reply.{Reply as AReply}
use Rattle.mb_pdu.specs.declared.reply.Reply.TheVariants.{Bits, Registers, Written, Excepted}
use Rattle.mb_pdu.specs.Replies.{IsBytes, normal_of, fits_normal}
use Rattle.mb_pdu.proofs.Tells.{told}
use Rattle.mb_pdu.specs.declared.table.Table.{Table}
use Rattle.mb_pdu.specs.declared.table.Table.TheVariants.{Coil, Discrete, Holding, Input}
use Rattle.sunspec.specs.declared.point_type.PointType.{PointType}
use Rattle.sunspec.specs.declared.point_type.PointType.TheVariants.{Bit}
use Rattle.sunspec.specs.declared.point_type.Content.TheVariants.{Bit as Cell}
use Rattle.sunspec.specs.PointType.{row}
use Rattle.sunspec.specs.Value.{AreRegistersOf, register_sum}
use Rattle.point_list.specs.declared.point.Point.{Point}
use Rattle.point_list.specs.Columns.{holds_bits, is_bit}
use Rattle.read_planner.specs.declared.Read.{Read}
use Rattle.read_planner.specs.Read.{read_request}
use Rattle.poll_book.specs.declared.rows.PointRow.{PointRow}
use Rattle.poll_book.specs.declared.rows.Reading.{Reading}
use Rattle.poll_book.specs.Tables.{Key, key_cmp, Readings, marked_one, reading_at, is_between, readings_between}
use Rattle.poll_book.specs.Changes.{keyed}
use Rattle.poll_book.specs.Totals.{is_counted}
use Rattle.office_core.specs.Cover.{Question, one_or_zero, Brings, covers, reads_table, has_size, words_in, reply_cells, given_of, given_rows, excepts}
use Rattle.office_core.specs.Queries.{Query, Reads, Writes, fits}
use Rattle.office_core.specs.Loads.{loading, added}
use Rattle.office_core.specs.History.{Restart, Load, Order, Void, Open, Ask, Send, Reply, Noise, History, site_of, points, is_used, asked, is_answered, given_by, given, kept_readings, voids, readings, tables}
use Rattle.office_core.specs.Legal.{Legal}
use Rattle.office_core.specs.Fitting.{IsFitting}
use Rattle.office_core.proofs.FirstArrivals.{same_key}
use Rattle.office_core.proofs.Cells.{cells_spelled}
use Rattle.office_core.proofs.Loaded.{numbered_points}
use Rattle.office_core.proofs.OnePoint.{one_point}
use Rattle.office_core.proofs.PutRows.{with_rows_all}
use Rattle.office_core.proofs.Forms.{IsFormed, IsFormedRow, points_formed}

-- ---- the words of a point in a reply

-- a type whose content is a cell is a bit
cell_bit : (kind : PointType) → (row kind).content ≡ Cell → is_bit kind ≡ true
unfolding row
cell_bit Bit e = refl
cell_bit kind e = absurd (cc)

-- and a bit has one register
bit_one : (kind : PointType) → is_bit kind ≡ true → (row kind).registers ≡ 1
unfolding row
bit_one Bit e = refl
bit_one kind e = absurd (cc)

-- a normal reply of so many cells
abbrev IsOfSize : Normal → ℕ → Type 0
IsOfSize (OfBits quantity) n = quantity ≡ n
IsOfSize (OfWords quantity) n = quantity ≡ n
IsOfSize (Echo text) n = ⊥

-- a normal reply to a read has as many cells as the read asks for
size_of : (read : Read) → IsOfSize (normal_of (read_request read)) read.span.quantity
size_of read = by (eqb read.function 1) (eqb read.function 2) (eqb read.function 3)
  where
    request : Bool → Bool → Bool → Request
    request a b c = cond a (ReadCoils read.span) (cond b (ReadDiscrete read.span) (cond c (ReadHolding read.span) (ReadInput read.span)))

    by : (a b c : Bool) → IsOfSize (normal_of (request a b c)) read.span.quantity
    by true b c = refl
    by false true c = refl
    by false false true = refl
    by false false false = refl

-- a reply that fits has so many cells
long : (normal : Normal) (n : ℕ) (reply : AReply) → IsOfSize normal n → fits_normal normal reply → length (reply_cells reply) ≡ n
long (OfBits q) n (Bits bits) size h = length-map bits one_or_zero ∙ h ∙ size
long (OfBits q) n (Registers words) size h = absurd h
long (OfBits q) n Written size h = absurd h
long (OfBits q) n (Excepted code) size h = absurd h
long (OfWords q) n (Bits bits) size h = absurd h
long (OfWords q) n (Registers words) size h = h ∙ size
long (OfWords q) n Written size h = absurd h
long (OfWords q) n (Excepted code) size h = absurd h
long (Echo text) n reply size h = absurd size

-- a reply that brings what a read asks for has as many cells as the read
cells_long : (read : Read) (reply : AReply) → Brings read reply → length (reply_cells reply) ≡ read.span.quantity
cells_long read reply brings = long (normal_of (read_request read)) read.span.quantity reply (size_of read) brings

-- as many words as are taken, where they are there
taken_long : (count start place quantity : ℕ) (words : List ℕ) → length words ≡ quantity → start ≤ place → place + count ≤ start + quantity
    → length (take count (drop (place - start) words)) ≡ count
taken_long count start place quantity words size from to =
    let rest = length-drop (place - start) words in
    length-take-le count (drop (place - start) words) (omega arith)

-- a cell of bits is 0 or 1
one_bit : (place : ℕ) (bits : List Bool) → register_sum (take 1 (drop place (map one_or_zero bits))) ≤ 1
one_bit zero [] = omega arith
one_bit (suc place) [] = omega arith
one_bit zero (true ∷ bits) = omega arith
one_bit zero (false ∷ bits) = omega arith
one_bit (suc place) (b ∷ bits) = one_bit place bits

-- no read of a table of bits brings registers
no_registers : (read : Read) (words : List ℕ) (table : Table) → holds_bits table ≡ true → reads_table read.function table ≡ true → Brings read (Registers words) → ⊥
no_registers read words Coil holds reads brings =
    subst (λ f. fits_normal (normal_of (read_request (record { function = f; span = read.span }))) (Registers words)) (eqb-true read.function 1 reads) brings
no_registers read words Discrete holds reads brings =
    subst (λ f. fits_normal (normal_of (read_request (record { function = f; span = read.span }))) (Registers words)) (eqb-true read.function 2 reads) brings
no_registers read words Holding holds reads brings = absurd (cc)
no_registers read words Input holds reads brings = absurd (cc)

-- a point of one bit has 0 or 1 among cells of bits
one_cell_sum : (read : Read) (bits : List Bool) (point : Point) → is_bit point.kind ≡ true → register_sum (words_in read (map one_or_zero bits) point) ≤ 1
one_cell_sum read bits point bit =
    let place : ℕ = point.address - read.span.start in
    subst (λ n. register_sum (take n (drop place (map one_or_zero bits))) ≤ 1) (sym (bit_one point.kind bit)) (one_bit place bits)

-- and so in any reply
bit_sum : (read : Read) (reply : AReply) (point : Point) → IsFormed point → Brings read reply → reads_table read.function point.table ≡ true
    → is_bit point.kind ≡ true → register_sum (words_in read (reply_cells reply) point) ≤ 1
bit_sum read (Bits bits) point formed brings reads bit = one_cell_sum read bits point bit
bit_sum read (Registers words) point formed brings reads bit = absurd (no_registers read words point.table (formed.1 bit) reads brings)
bit_sum read Written point formed brings reads bit = one_cell_sum read [] point bit
bit_sum read (Excepted code) point formed brings reads bit = one_cell_sum read [] point bit

-- what a reply gives to a point that it covers are registers of the point's type
words_fit : (device : List ℕ) (read : Read) (reply : AReply) (point : Point) → IsFormed point → Brings read reply → covers device read point ≡ true
    → AreRegistersOf point.kind (words_in read (reply_cells reply) point)
words_fit device read reply point formed brings covered =
    let a = and_parts (bytes_eq point.device device) _ covered in
    let b = and_parts (reads_table read.function point.table) _ a.1 in
    let d = and_parts (has_size point.table (row point.kind).registers) _ b.1 in
    let e = and_parts (leb read.span.start point.address) _ d.1 in
    record {
      count = taken_long (row point.kind).registers read.span.start point.address read.span.quantity (reply_cells reply) (cells_long read reply brings)
          (leb-true read.span.start point.address e.0)
          (leb-true (point.address + (row point.kind).registers) (read.span.start + read.span.quantity) e.1);
      cell = λ is. bit_sum read reply point formed brings b.0 (cell_bit point.kind is);
    }

-- ---- rows of readings

-- the row is of a point of these, has registers of its type, and is marked as counted where they count
record IsOf (known : List PointRow) (kept : Key × Reading) : Type 0 where
  point : PointRow
  there : Contains known point
  number : point.number ≡ kept.0.0
  registers : AreRegistersOf point.point.kind kept.1.words
  marked : kept.1.counted ≡ is_counted point.point kept.1.words

-- also of these and more points
of_more : (known more : List PointRow) (kept : Key × Reading) → IsOf known kept → IsOf (known ++ more) kept
of_more known more kept is = record {
  point = is.point;
  there = Contains-append_left known more is.point is.there;
  number = is.number;
  registers = is.registers;
  marked = is.marked;
}

-- so is what a reply gives to some of the points
rows_fit : (all known : List PointRow) (device : List ℕ) (read : Read) (slot : ℕ) (reply : AReply) → All (Contains all) known → All IsFormedRow known → Brings read reply
    → All (IsOf all) (keyed slot (given_of known device read (reply_cells reply)))
rows_fit all known device read slot reply there formed brings =
    All-map (IsOf all) key_of (map made (filter test known))
    (All-map (λ (c : PointRow × List ℕ). IsOf all (key_of c)) made (filter test known) (λ k d lt.
    one (get_or (filter test known) k d)
    (All-filter test (Contains all) known there k d lt)
    (All-filter test IsFormedRow known formed k d lt)
    (filter_passes test known k d lt)))
  where
    test : PointRow → Bool
    test x = covers device read x.point

    made : PointRow → PointRow × List ℕ
    made x = (x, words_in read (reply_cells reply) x.point)

    key_of : PointRow × List ℕ → Key × Reading
    key_of c = ((c.0.number, slot), record { words = c.1; counted = is_counted c.0.point c.1 })

    one : (x : PointRow) → Contains all x → IsFormedRow x → covers device read x.point ≡ true → IsOf all (key_of (made x))
    one x at form covered = record { point = x; there = at; number = refl; registers = words_fit device read reply x.point form brings covered; marked = refl }

-- what a unit gives where it stands
new_fit : (before : History) (c n : ℕ) (unit : List ℕ) → Legal before → IsBytes unit
    → All (IsOf (points before)) (cond (is_answered before c n) [] (given_by (points before) (slice_get (asked before c) n) unit))
new_fit before c n unit legal bytes = by (is_answered before c n)
  where
    none : All (IsOf (points before)) []
    none = All-nil (IsOf (points before))

    normal : (q : Question) → fits (Reads q) unit ≡ true → excepts q.read unit ≡ false → All (IsOf (points before)) (given_rows (points before) q unit)
    normal q fit plain =
        let spelled = told (read_request q.read) unit bytes fit in
        let same = cells_spelled q.read spelled.0 unit spelled.1 plain in
        subst (λ ws. All (IsOf (points before)) (keyed q.slot (given_of (take q.known (points before)) q.device q.read ws))) (sym same.0)
        (rows_fit (points before) (take q.known (points before)) q.device q.read q.slot spelled.0
        (All-take (Contains (points before)) q.known (points before) (All-contains_itself (points before)))
        (All-take IsFormedRow q.known (points before) (points_formed before legal)) same.1)

    fitting : (q : Question) (a b : Bool) → fits (Reads q) unit ≡ a → excepts q.read unit ≡ b
        → All (IsOf (points before)) (cond (a && not b) (given_rows (points before) q unit) [])
    fitting q true false fit plain = normal q fit plain
    fitting q true true fit plain = none
    fitting q false b fit plain = none

    queried : (o : Option Query) → All (IsOf (points before)) (given_by (points before) o unit)
    queried None = none
    queried (Some (Reads q)) = fitting q (fits (Reads q) unit) (excepts q.read unit) refl refl
    queried (Some (Writes w)) = none

    by : (b : Bool) → All (IsOf (points before)) (cond b [] (given_by (points before) (slice_get (asked before c) n) unit))
    by true = none
    by false = queried (slice_get (asked before c) n)

-- what a history gives is of its points
given_fit : (before : History) → Legal before → All (IsOf (points before)) (given before)
given_fit [] legal = All-nil (IsOf [])
given_fit (Load edition caller key list ∷ before) legal = by (is_used before (caller, key)) (given_fit before legal.2)
  where
    more : List PointRow
    more = added (length (points before)) (loading edition (site_of before) (points before) list)

    by : (b : Bool) → All (IsOf (points before)) (given before) → All (IsOf (cond b (points before) (points before ++ more))) (given before)
    by true earlier = earlier
    by false earlier = All-weaker (IsOf (points before)) (IsOf (points before ++ more)) (of_more (points before) more) (given before) earlier
given_fit (Reply c n unit ∷ before) legal =
    All-append (IsOf (points before)) (given before) _ (given_fit before legal.2) (new_fit before c n unit legal.2 legal.0.0)
given_fit (Restart site ∷ before) legal = given_fit before legal.2
given_fit (Order caller key point value ∷ before) legal = given_fit before legal.2
given_fit (Void caller key point at ∷ before) legal = given_fit before legal.2
given_fit (Open line ∷ before) legal = given_fit before legal.2
given_fit (Ask c device slot read ∷ before) legal = given_fit before legal.2
given_fit (Send c number ∷ before) legal = given_fit before legal.2
given_fit (Noise c frame ∷ before) legal = given_fit before legal.2

-- ---- the tables

-- what holds of each row of a table holds of what stands under a key
pub at_key : (P : Key × Reading → Type 0) (table : Readings) (key : Key) (reading : Reading) → All P table → reading_at table key ≡ Some reading → P (key, reading)
at_key P [] key reading all e = absurd (none-some reading e)
at_key P (x ∷ table) key reading all e = by (at_key P table key reading (All-tail P x table all)) (eq_by_cmp key_cmp key x.0) refl e
  where
    by : (reading_at table key ≡ Some reading → P (key, reading)) → (b : Bool) → eq_by_cmp key_cmp key x.0 ≡ b
        → cond b (Some x.1) (reading_at table key) ≡ Some reading → P (key, reading)
    by rest true same f =
        let is : ◌≡◌ {A = Key × Reading} x (key, reading) = λ i. (sym (same_key key x.0 same) i, same_Some x.1 reading f i) in
        subst P is (All-head P x table all)
    by rest false other f = rest f

-- each row is of a point
readings_of_points : (before : History) → Legal before → All (IsOf (points before)) (readings before)
readings_of_points before legal = with_rows_all (IsOf (points before)) (given before) [] (given_fit before legal) (All-nil (IsOf (points before)))

-- a reading is marked as counted where its words count
pub said : (before : History) (known : PointRow) (slot : ℕ) (reading : Reading) → Legal before → Contains (points before) known
    → reading_at (readings before) (known.number, slot) ≡ Some reading → reading.counted ≡ is_counted known.point reading.words
said before known slot reading legal there e =
    let is = at_key (IsOf (points before)) (readings before) (known.number, slot) reading (readings_of_points before legal) e in
    subst (λ (r : PointRow). reading.counted ≡ is_counted r.point reading.words) (one_point 0 (points before) is.point known (numbered_points before) is.there there is.number) is.marked

-- a row of a point of these with registers of its type
record IsFit (known : List PointRow) (kept : Key × Reading) : Type 0 where
  point : PointRow
  there : Contains known point
  number : point.number ≡ kept.0.0
  registers : AreRegistersOf point.point.kind kept.1.words

-- what is kept of each point has the form of its type
pub tables_fit : (before : History) → Legal before → IsFitting (tables before)
tables_fit before legal k d lt =
    let known = get_or (points before) k d in (
      (points_formed before legal k d lt).0,
      λ from to j e within. of_type (Contains-get_or (points before) k d lt) from to
          (get_or (readings_between known.number from to (kept_readings before)) j e)
          (All-filter (λ (x : Key × Reading). is_between known.number from to x.0) (IsFit (points before)) (kept_readings before) all j e within)
          (filter_passes (λ (x : Key × Reading). is_between known.number from to x.0) (kept_readings before) j e within),
    )
  where
    all : All (IsFit (points before)) (kept_readings before)
    all = All-map (IsFit (points before)) (marked_one (voids before)) (readings before)
        (All-weaker (IsOf (points before)) (λ x. IsFit (points before) (marked_one (voids before) x)) (λ x is. record { point = is.point; there = is.there; number = is.number; registers = is.registers }) (readings before)
        (readings_of_points before legal))

    of_type : Contains (points before) (get_or (points before) k d) → (from to : ℕ) (x : Key × Reading) → IsFit (points before) x
        → is_between (get_or (points before) k d).number from to x.0 ≡ true → AreRegistersOf (get_or (points before) k d).point.kind x.1.words
    of_type there from to x is between =
        let own : PointRow = get_or (points before) k d in
        let a = and_parts (eqb x.0.0 own.number && leb from x.0.1) (leb x.0.1 to) between in
        let p = and_parts (eqb x.0.0 own.number) (leb from x.0.1) a.0 in
        let same : is.point ≡ own =
        one_point 0 (points before) is.point own (numbered_points before) is.there there (is.number ∙ eqb-true x.0.0 own.number p.0) in
        subst (λ (r : PointRow). AreRegistersOf r.point.kind x.1.words) same is.registers
