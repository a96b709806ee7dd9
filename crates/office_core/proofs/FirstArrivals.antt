-- Readings are what first replies bring.
use Rattle.std.proofs.Common.{◌≡◌, ◌<◌, ◌+◌, ℕ, zero, suc, Bool, true, false, cond, eqb, not, ◌&&◌, ◌||◌, List, [], ◌∷◌, ◌++◌, length, map, take, Option, Some, None, inl, inr, refl, sym, ap, ◌∙◌, subst, arith, append-nil, append_assoc}
use Rattle.std.specs.Prelude.{slice_get, is_none, Contains}
use Rattle.std.specs.Option.{option_or}
use Rattle.std.specs.Ordering.{is_eq, eq_by_cmp}
use Rattle.std.specs.Cmp.{tied_itself}
use Rattle.std.specs.declared.cmp.Ordering.{Ordering}
use Rattle.std.specs.declared.cmp.Ordering.TheVariants.{Less, Equal, Greater}
use Rattle.std.specs.FinMap.Entries as rows
use Rattle.std.proofs.lemmas.Bool.{and_parts, eqb-true, eq-eqb}
use Rattle.std.proofs.lemmas.List.{take_at}
use Rattle.std.proofs.lemmas.Option.{none-some, same_Some}
use Rattle.mb_pdu.specs.declared.reply.Normal.{Normal}
use Rattle.mb_pdu.specs.declared.reply.Normal.TheVariants.{OfBits, OfWords, Echo}
use Rattle.mb_pdu.specs.declared.reply.Reply.{Reply as AReply}
use Rattle.mb_pdu.specs.declared.reply.Reply.TheVariants.{Bits, Registers, Written, Excepted}
use Rattle.mb_pdu.specs.Replies.{IsBytes, spells_reply, normal_of, fits_normal}
use Rattle.mb_pdu.proofs.Answered.{answered}
use Rattle.mb_pdu.proofs.Tells.{told}
use Rattle.read_planner.specs.declared.Read.{Read}
use Rattle.read_planner.specs.Read.{read_request}
use Rattle.poll_book.specs.declared.rows.PointRow.{PointRow}
use Rattle.poll_book.specs.declared.rows.Reading.{Reading}
use Rattle.poll_book.specs.Tables.{Key, key_cmp, Readings, reading_at, with_rows}
use Rattle.poll_book.specs.Changes.{keyed, AreNumbered}
use Rattle.poll_book.specs.Totals.{is_counted}
use Rattle.poll_book.proofs.Tabled.{keys_total, exact_keys}
use Rattle.office_core.specs.declared.error.OfficeError.{OfficeError}
use Rattle.office_core.specs.declared.site.Target.{Target}
use Rattle.office_core.specs.Sites.{target}
use Rattle.office_core.specs.Cover.{Question, Brings, covers, covered, words_in, given_of, given_rows, reply_cells, excepts}
use Rattle.office_core.specs.Queries.{Writing, Query, Reads, Writes, fits}
use Rattle.office_core.specs.Loads.{loading, added}
use Rattle.office_core.specs.History.{Happening, Restart, Load, Order, Void, Open, Ask, Send, Reply, Noise, History, site_of, points, is_used, open_line, ask_fault, question, question_to, asked, fits_query, is_answered, given_by, given, readings}
use Rattle.office_core.specs.Legal.{Legal}
use Rattle.office_core.specs.FirstArrivals.{Happened, IsQuery, IsReplyTo, IsFirst, Gives, IsReadingOf}
use Rattle.office_core.proofs.Cells.{cells_spelled, bits_plain, words_plain, no_echo}
use Rattle.office_core.proofs.Elements.{among, in_none, further, foremost}
use Rattle.office_core.proofs.Loaded.{numbered_points}
use Rattle.office_core.proofs.Queries.{same_read}
use Rattle.office_core.proofs.Standings.{step_later, legal_at, get_last, get_either, asked_stays, answers_on}
use Rattle.office_core.proofs.Sends.{send_made, sends}

-- ---- numbered points

take_numbered : (k n : ℕ) (xs : List PointRow) → AreNumbered n xs → AreNumbered n (take k xs)
take_numbered zero n xs a = tt
take_numbered (suc k) n [] a = tt
take_numbered (suc k) n (x ∷ xs) a = (a.0, take_numbered k (n + 1) xs a.1)

-- numbers after the first ones are greater
numbered_past : (n : ℕ) (xs : List PointRow) (row : PointRow) → AreNumbered n xs → Contains xs row → n < row.number
numbered_past n [] row a h = absurd (in_none row h)
numbered_past n (x ∷ xs) row a h = elim (among x xs row h) [
  | inl same ↦ let e : x.number ≡ row.number = ap (λ (r : PointRow). r.number) same in let f = a.0 in omega arith
  | inr there ↦ let lt = numbered_past (n + 1) xs row a.1 there in omega arith
]

-- ---- what rows have under a key

or_cond : (b : Bool) (x : Reading) (o p : Option Reading) → cond b (Some x) (option_or o p) ≡ option_or (cond b (Some x) o) p
or_cond true x o p = refl
or_cond false x o p = refl

at_append : (xs ys : Readings) (key : Key) → reading_at (xs ++ ys) key ≡ option_or (reading_at xs key) (reading_at ys key)
at_append [] ys key = refl
at_append (x ∷ xs) ys key =
    ap (cond (eq_by_cmp key_cmp key x.0) (Some x.1)) (at_append xs ys key)
    ∙ or_cond (eq_by_cmp key_cmp key x.0) x.1 (reading_at xs key) (reading_at ys key)

-- a table made of rows has the first of them under a key
pub at_made : (xs : Readings) (key : Key) → reading_at (with_rows xs []) key ≡ reading_at xs key
at_made [] key = refl
at_made (x ∷ xs) key =
    rows.find-put key_cmp keys_total key x.0 x.1 (with_rows xs []) ∙ ap (cond (eq_by_cmp key_cmp key x.0) (Some x.1)) (at_made xs key)

pub same_key : (a b : Key) → eq_by_cmp key_cmp a b ≡ true → a ≡ b
same_key a b e = exact_keys a b (equal (key_cmp a b) e)
  where
    equal : (o : Ordering) → is_eq o ≡ true → o ≡ Equal
    equal Less e = absurd (cc)
    equal Equal e = refl
    equal Greater e = absurd (cc)

pub own_key : (a : Key) → eq_by_cmp key_cmp a a ≡ true
own_key a = ap is_eq (tied_itself keys_total a)

-- ---- what a reply's words give to the rows that it covers

module _ (device : List ℕ) (read : Read) (words : List ℕ) (slot : ℕ) where
  abbrev made : PointRow → Reading
  made row = record { words = words_in read words row.point; counted = is_counted row.point (words_in read words row.point) }

  abbrev table : List PointRow → Readings
  table known = keyed slot (given_of known device read words)

  abbrev some_of : List PointRow → Readings
  some_of chosen = keyed slot (map (λ (row : PointRow). (row, words_in read words row.point)) chosen)

  -- a row of this table is of a point that is covered
  record IsGiven (known : List PointRow) (point s : ℕ) (reading : Reading) : Type 0 where
    row : PointRow
    there : Contains known row
    is_covered : covers device read row.point ≡ true
    number : row.number ≡ point
    same_slot : slot ≡ s
    is : reading ≡ made row

  given_so : (known : List PointRow) (point s : ℕ) (reading : Reading) → reading_at (table known) (point, s) ≡ Some reading → IsGiven known point s reading
  given_so [] point s reading e = absurd (none-some reading e)
  given_so (x ∷ known) point s reading e = by (λ f. given_so known point s reading f) (covers device read x.point) refl e
    where
      Rest : Type 0
      Rest = reading_at (table known) (point, s) ≡ Some reading → IsGiven known point s reading

      still : IsGiven known point s reading → IsGiven (x ∷ known) point s reading
      still g = record {
        row = g.row;
        there = further x known g.row g.there;
        is_covered = g.is_covered;
        number = g.number;
        same_slot = g.same_slot;
        is = g.is;
      }

      here : Rest → covers device read x.point ≡ true → (b : Bool) → eq_by_cmp key_cmp (point, s) (x.number, slot) ≡ b
          → cond b (Some (made x)) (reading_at (table known) (point, s)) ≡ Some reading → IsGiven (x ∷ known) point s reading
      here rest is_in true same f =
          let keys = same_key (point, s) (x.number, slot) same in
          record {
            row = x;
            there = foremost x known;
            is_covered = is_in;
            number = sym (ap (λ (k : Key). k.0) keys);
            same_slot = sym (ap (λ (k : Key). k.1) keys);
            is = sym (same_Some (made x) reading f);
          }
      here rest is_in false other f = still (rest f)

      by : Rest → (b : Bool) → covers device read x.point ≡ b
          → reading_at (some_of (cond b (x ∷ covered known device read) (covered known device read))) (point, s) ≡ Some reading
          → IsGiven (x ∷ known) point s reading
      by rest true is_in f = here rest is_in (eq_by_cmp key_cmp (point, s) (x.number, slot)) refl f
      by rest false out f = still (rest f)

  -- and each covered point has its row
  given_all : (n : ℕ) (known : List PointRow) (row : PointRow) → AreNumbered n known → Contains known row → covers device read row.point ≡ true
      → reading_at (table known) (row.number, slot) ≡ Some (made row)
  given_all n [] row a h is_in = absurd (in_none row h)
  given_all n (x ∷ known) row a h is_in = elim (among x known row h) [
    | inl same ↦
        let first_in = subst (λ (r : PointRow). covers device read r.point ≡ true) (sym same) is_in in
        subst (λ (r : PointRow). reading_at (table (x ∷ known)) (r.number, slot) ≡ Some (made r)) same (here first_in)
    | inr there ↦
        let past : n + 1 < row.number = numbered_past (n + 1) known row a.1 there in
        later past (covers device read x.point) (given_all (n + 1) known row a.1 there is_in)
  ]
    where
      here : covers device read x.point ≡ true → reading_at (table (x ∷ known)) (x.number, slot) ≡ Some (made x)
      here c =
          ap (λ b. reading_at (some_of (cond b (x ∷ covered known device read) (covered known device read))) (x.number, slot)) c
          ∙ ap (λ b. cond b (Some (made x)) (reading_at (table known) (x.number, slot))) (own_key (x.number, slot))

      apart : n + 1 < row.number → (b : Bool) → eq_by_cmp key_cmp (row.number, slot) (x.number, slot) ≡ b → b ≡ false
      apart past true same =
          let e : row.number ≡ x.number = ap (λ (k : Key). k.0) (same_key (row.number, slot) (x.number, slot) same) in
          let f = a.0 in absurd (omega arith)
      apart past false other = refl

      later : n + 1 < row.number → (b : Bool) → reading_at (table known) (row.number, slot) ≡ Some (made row)
          → reading_at (some_of (cond b (x ∷ covered known device read) (covered known device read))) (row.number, slot) ≡ Some (made row)
      later past true rest =
          ap (λ b. cond b (Some (made x)) (reading_at (table known) (row.number, slot)))
          (apart past (eq_by_cmp key_cmp (row.number, slot) (x.number, slot)) refl)
          ∙ rest
      later past false rest = rest

-- ---- queries

-- the refusal of an ask after a history
abbrev fault_of : History → ℕ → List ℕ → Read → Option OfficeError
fault_of before c device read = ask_fault (open_line before c) (site_of before) (points before) (length (asked before c)) device read

-- a query that was asked is among those of its connection
pub query_there : (before : History) (c n : ℕ) (q : Question) (asking : History) → IsQuery before c n q asking → slice_get (asked before c) n ≡ Some (Reads q)
query_there before c n q asking is =
    let asks : List Query = asked asking c in
    let new : Question = question (site_of asking) (points asking) is.device is.slot is.read in
    let at : slice_get (asked (Ask c is.device is.slot is.read ∷ asking) c) (length (asked asking c)) ≡ Some (Reads new) =
    ap (λ b. slice_get (cond (b && is_none (fault_of asking c is.device is.read)) (asks ++ Reads new ∷ []) asks) (length asks)) (eq-eqb c c refl)
    ∙ ap (λ o. slice_get (cond (is_none o) (asks ++ Reads new ∷ []) asks) (length asks)) is.accepted
    ∙ get_last asks (Reads new) in
    ap (λ h. slice_get (asked h c) n) is.came.stands
    ∙ asked_stays is.came.later (Ask c is.device is.slot is.read ∷ asking) c n (Reads q)
    (ap (λ m. slice_get (asked (Ask c is.device is.slot is.read ∷ asking) c) m) (sym is.count) ∙ at ∙ ap (λ (x : Question). Some (Reads x)) (sym is.is))

pub record WasAsked (before : History) (c n : ℕ) (q : Question) : Type 0 where
  pub asking : History
  pub is : IsQuery before c n q asking

asked_later : (h : Happening) (before : History) (c n : ℕ) (q : Question) → WasAsked before c n q → WasAsked (h ∷ before) c n q
asked_later h before c n q was = record {
  asking = was.asking;
  is = record {
    device = was.is.device;
    slot = was.is.slot;
    read = was.is.read;
    came = step_later h before (Ask c was.is.device was.is.slot was.is.read) was.asking was.is.came;
    accepted = was.is.accepted;
    count = was.is.count;
    is = was.is.is;
  };
}

-- and each read of a connection was asked
pub query_asked : (before : History) (c n : ℕ) (q : Question) → slice_get (asked before c) n ≡ Some (Reads q) → WasAsked before c n q
query_asked [] c n q e = absurd (none-some (Reads q) e)
query_asked (Restart site ∷ before) c n q e = asked_later (Restart site) before c n q (query_asked before c n q e)
query_asked (Load edition caller key list ∷ before) c n q e = asked_later (Load edition caller key list) before c n q (query_asked before c n q e)
query_asked (Order caller key point value ∷ before) c n q e = asked_later (Order caller key point value) before c n q (query_asked before c n q e)
query_asked (Void caller key point at ∷ before) c n q e = asked_later (Void caller key point at) before c n q (query_asked before c n q e)
query_asked (Open line ∷ before) c n q e = asked_later (Open line) before c n q (query_asked before c n q e)
query_asked (Reply d m unit ∷ before) c n q e = asked_later (Reply d m unit) before c n q (query_asked before c n q e)
query_asked (Noise d frame ∷ before) c n q e = asked_later (Noise d frame) before c n q (query_asked before c n q e)
query_asked (Ask d device slot read ∷ before) c n q e =
    by (λ f. query_asked before c n q f) (eqb d c) (fault_of before d device read) refl refl e
  where
    later : WasAsked before c n q → WasAsked (Ask d device slot read ∷ before) c n q
    later was = asked_later (Ask d device slot read) before c n q was

    here : d ≡ c → fault_of before d device read ≡ None → (length (asked before c) ≡ n) × (q ≡ question (site_of before) (points before) device slot read)
        → WasAsked (Ask d device slot read ∷ before) c n q
    here same accepted last = record {
      asking = before;
      is = record {
        device = device;
        slot = slot;
        read = read;
        came = record { later = []; stands = λ i. Ask (same i) device slot read ∷ before };
        accepted = subst (λ m. fault_of before m device read ≡ None) same accepted;
        count = last.0;
        is = last.1;
      };
    }

    by : (slice_get (asked before c) n ≡ Some (Reads q) → WasAsked before c n q) → (a : Bool) (o : Option OfficeError) → eqb d c ≡ a → fault_of before d device read ≡ o
        → slice_get (cond (a && is_none o) (asked before c ++ Reads (question (site_of before) (points before) device slot read) ∷ []) (asked before c)) n ≡ Some (Reads q)
        → WasAsked (Ask d device slot read ∷ before) c n q
    by rest true None same accepted f = elim (get_either (asked before c) (Reads (question (site_of before) (points before) device slot read)) n (Reads q) f) [
      | inl there ↦ later (rest there)
      | inr last ↦ here (eqb-true d c same) accepted (last.0, same_read q (question (site_of before) (points before) device slot read) last.1)
    ]
    by rest true (Some fault) same refused f = later (rest f)
    by rest false o other fault f = later (rest f)
query_asked (Send d number ∷ before) c n q e = by (λ f. query_asked before c n q f) (eqb d c && send_made before d number) e
  where
    by : (slice_get (asked before c) n ≡ Some (Reads q) → WasAsked before c n q) → (b : Bool)
        → slice_get (cond b (asked before c ++ Writes (sends before number) ∷ []) (asked before c)) n ≡ Some (Reads q) → WasAsked (Send d number ∷ before) c n q
    by rest true f = elim (get_either (asked before c) (Writes (sends before number)) n (Reads q) f) [
      | inl there ↦ asked_later (Send d number) before c n q (rest there)
      | inr last ↦ let e : Reads q ≡ Writes (sends before number) = last.1 in absurd (cc)
    ]
    by rest false f = asked_later (Send d number) before c n q (rest f)

-- ---- points that were known

-- these points are those, and then more
abbrev pub Longer : List PointRow → List PointRow → Type 0
Longer first all = (more : List PointRow) × (all ≡ first ++ more)

pub points_stay : (later : List Happening) (before : History) → Longer (points before) (points (later ++ before))
points_stay [] before = ([], sym (append-nil (points before)))
points_stay (Restart site ∷ later) before = points_stay later before
points_stay (Order caller key point value ∷ later) before = points_stay later before
points_stay (Void caller key point at ∷ later) before = points_stay later before
points_stay (Open line ∷ later) before = points_stay later before
points_stay (Ask c device slot read ∷ later) before = points_stay later before
points_stay (Send c number ∷ later) before = points_stay later before
points_stay (Reply c n unit ∷ later) before = points_stay later before
points_stay (Noise c frame ∷ later) before = points_stay later before
points_stay (Load edition caller key list ∷ later) before = by (is_used (later ++ before) (caller, key)) (points_stay later before)
  where
    old : List PointRow
    old = points (later ++ before)

    new : List PointRow
    new = added (length old) (loading edition (site_of (later ++ before)) old list)

    by : (b : Bool) → Longer (points before) old → Longer (points before) (cond b old (old ++ new))
    by true l = l
    by false l = (l.0 ++ new, ap (λ ps. ps ++ new) l.1 ∙ append_assoc (points before) l.0 new)

known_so : (o : Option Target) (device : List ℕ) (slot : ℕ) (read : Read) (known : ℕ) → (question_to o device slot read known).known ≡ known
known_so None device slot read known = refl
known_so (Some to) device slot read known = refl

-- the points that a query knows are those of the history after which it was asked
pub points_of_query : (before : History) (c n : ℕ) (q : Question) (asking : History) → IsQuery before c n q asking → take q.known (points before) ≡ points asking
points_of_query before c n q asking is =
    let longer = points_stay is.came.later (Ask c is.device is.slot is.read ∷ asking) in
    let count : q.known ≡ length (points asking) =
    ap (λ (x : Question). x.known) is.is ∙ known_so (target (site_of asking) is.device) is.device is.slot is.read (length (points asking)) in
    ap (λ h. take q.known (points h)) is.came.stands
    ∙ ap (take q.known) longer.1
    ∙ take_at (points asking) longer.0 q.known (sym count)

-- ---- replies

-- the query of this number, if it is there, is no write
abbrev IsNoWrite : History → ℕ → ℕ → Type 0
IsNoWrite before c n = (w : Writing) → slice_get (asked before c) n ≡ Some (Writes w) → ⊥

-- it was none before either
no_write_before : (h : Happening) (before : History) (c n : ℕ) → IsNoWrite (h ∷ before) c n → IsNoWrite before c n
no_write_before h before c n none w e = none w (asked_stays (h ∷ []) before c n (Writes w) e)

-- a read is none
read_no_write : (before : History) (c n : ℕ) (q : Question) → slice_get (asked before c) n ≡ Some (Reads q) → IsNoWrite before c n
read_no_write before c n q is w e = let same : Some (Reads q) ≡ Some (Writes w) = sym is ∙ e in absurd (cc)

-- a unit that fits a read is a reply to it
record IsOne (earlier : History) (c n : ℕ) (unit : List ℕ) : Type 0 where
  q : Question
  reply : AReply
  is : IsReplyTo earlier c n unit q reply

one_of : (earlier : History) (c n : ℕ) (unit : List ℕ) → IsBytes unit → IsNoWrite earlier c n → fits_query (slice_get (asked earlier c) n) unit ≡ true
    → IsOne earlier c n unit
one_of earlier c n unit bytes none e = by (slice_get (asked earlier c) n) refl e
  where
    by : (o : Option Query) → slice_get (asked earlier c) n ≡ o → fits_query o unit ≡ true → IsOne earlier c n unit
    by None is f = absurd (cc)
    by (Some (Reads q)) is f =
        let spelled = told (read_request q.read) unit bytes f in
        let was = query_asked earlier c n q is in
        record { q = q; reply = spelled.0; is = record { asking = was.asking; query = was.is; spelled = spelled.1 } }
    by (Some (Writes w)) is f = absurd (none w is)

-- and a reply fits its query
pub fits_so : (earlier : History) (c n : ℕ) (unit : List ℕ) (q : Question) (reply : AReply) → IsReplyTo earlier c n unit q reply
    → fits_query (slice_get (asked earlier c) n) unit ≡ true
fits_so earlier c n unit q reply is =
    ap (λ o. fits_query o unit) (query_there earlier c n q is.asking is.query) ∙ answered (read_request q.read) reply unit is.spelled

-- a read that was answered has a place where a reply to it stands
record HasReply (before : History) (c n : ℕ) : Type 0 where
  older : History
  unit : List ℕ
  q : Question
  reply : AReply
  came : Happened before (Reply c n unit) older
  is : IsReplyTo older c n unit q reply

reply_later : (h : Happening) (before : History) (c n : ℕ) → HasReply before c n → HasReply (h ∷ before) c n
reply_later h before c n r = record {
  older = r.older;
  unit = r.unit;
  q = r.q;
  reply = r.reply;
  came = step_later h before (Reply c n r.unit) r.older r.came;
  is = r.is;
}

answered_so : (before : History) (c n : ℕ) → Legal before → IsNoWrite before c n → is_answered before c n ≡ true → HasReply before c n
answered_so [] c n legal none e = absurd (cc)
answered_so (Restart site ∷ before) c n legal none e = reply_later (Restart site) before c n (answered_so before c n legal.2 (no_write_before (Restart site) before c n none) e)
answered_so (Load edition caller key list ∷ before) c n legal none e = reply_later (Load edition caller key list) before c n (answered_so before c n legal.2 (no_write_before (Load edition caller key list) before c n none) e)
answered_so (Order caller key point value ∷ before) c n legal none e =
    reply_later (Order caller key point value) before c n (answered_so before c n legal.2 (no_write_before (Order caller key point value) before c n none) e)
answered_so (Void caller key point at ∷ before) c n legal none e =
    reply_later (Void caller key point at) before c n (answered_so before c n legal.2 (no_write_before (Void caller key point at) before c n none) e)
answered_so (Open line ∷ before) c n legal none e = reply_later (Open line) before c n (answered_so before c n legal.2 (no_write_before (Open line) before c n none) e)
answered_so (Ask d device slot read ∷ before) c n legal none e = reply_later (Ask d device slot read) before c n (answered_so before c n legal.2 (no_write_before (Ask d device slot read) before c n none) e)
answered_so (Send d number ∷ before) c n legal none e =
    reply_later (Send d number) before c n (answered_so before c n legal.2 (no_write_before (Send d number) before c n none) e)
answered_so (Noise d frame ∷ before) c n legal none e = reply_later (Noise d frame) before c n (answered_so before c n legal.2 (no_write_before (Noise d frame) before c n none) e)
answered_so (Reply d m unit ∷ before) c n legal none e =
    by (λ f. answered_so before c n legal.2 old f) (eqb d c && (eqb m n && fits_query (slice_get (asked before c) n) unit)) refl e
  where
    old : IsNoWrite before c n
    old = no_write_before (Reply d m unit) before c n none

    by : (is_answered before c n ≡ true → HasReply before c n)
        → (b : Bool) → (eqb d c && (eqb m n && fits_query (slice_get (asked before c) n) unit)) ≡ b → (b || is_answered before c n) ≡ true
        → HasReply (Reply d m unit ∷ before) c n
    by rest true now f =
        let a = and_parts (eqb d c) _ now in
        let b = and_parts (eqb m n) _ a.1 in
        let one = one_of before c n unit legal.0.0 old b.1 in
        let same_c : d ≡ c = eqb-true d c a.0 in
        let same_n : m ≡ n = eqb-true m n b.0 in
        record {
          older = before;
          unit = unit;
          q = one.q;
          reply = one.reply;
          came = record { later = []; stands = λ i. Reply (same_c i) (same_n i) unit ∷ before };
          is = one.is;
        }
    by rest false other f = reply_later (Reply d m unit) before c n (rest f)

pub first_so : (before : History) (c n : ℕ) → is_answered before c n ≡ false → IsFirst before c n
first_so before c n e older unit q reply came is =
    let yes : is_answered before c n ≡ true =
    ap (λ h. is_answered h c n) came.stands ∙ answers_on came.later older c n unit (fits_so older c n unit q reply is) in
    absurd (cc)

unanswered : (before : History) (c n : ℕ) (q : Question) → Legal before → slice_get (asked before c) n ≡ Some (Reads q) → IsFirst before c n → is_answered before c n ≡ false
unanswered before c n q legal is first = by (is_answered before c n) refl
  where
    by : (b : Bool) → is_answered before c n ≡ b → b ≡ false
    by true e = let r = answered_so before c n legal (read_no_write before c n q is) e in absurd (first r.older r.unit r.q r.reply r.came r.is)
    by false e = refl

-- ---- normal replies

no_fit : (normal : Normal) (code : ℕ) → fits_normal normal (Excepted code) → ⊥
no_fit (OfBits q) code e = e
no_fit (OfWords q) code e = e
no_fit (Echo text) code e = e

-- a reply that brings what is asked is no exception
plain_so : (read : Read) (reply : AReply) (unit : List ℕ) → spells_reply (read_request read) reply unit → Brings read reply → excepts read unit ≡ false
plain_so read (Bits bits) unit h brings = bits_plain read bits unit h
plain_so read (Registers words) unit h brings = words_plain read words unit h
plain_so read Written unit h brings = absurd (no_echo read unit h)
plain_so read (Excepted code) unit h brings = absurd (no_fit (normal_of (read_request read)) code brings)

-- ---- what a reply gives where it stands

abbrev new_given : History → ℕ → ℕ → List ℕ → Readings
new_given earlier c n unit = cond (is_answered earlier c n) [] (given_by (points earlier) (slice_get (asked earlier c) n) unit)

known_numbered : (earlier : History) (k : ℕ) → AreNumbered 0 (take k (points earlier))
known_numbered earlier k = take_numbered k 0 (points earlier) (numbered_points earlier)

-- the words that it gives are the row's reading
gives_reading : (earlier : History) (c n : ℕ) (unit : List ℕ) (row : PointRow) (slot : ℕ) (words : List ℕ) → Legal earlier → Gives earlier c n unit row slot words
    → reading_at (new_given earlier c n unit) (row.number, slot) ≡ Some (record { words = words; counted = is_counted row.point words })
gives_reading earlier c n unit row slot words legal g =
    let q = g.q in
    let query = query_there earlier c n q g.replies.asking g.replies.query in
    let known = take q.known (points earlier) in
    let there : Contains known row =
    subst (λ l. Contains l row) (sym (points_of_query earlier c n q g.replies.asking g.replies.query)) g.known in
    let plain = plain_so q.read g.reply unit g.replies.spelled g.brings in
    let same = (cells_spelled q.read g.reply unit g.replies.spelled plain).0 in
    let table_of : List ℕ → Readings = λ ws. keyed q.slot (given_of known q.device q.read ws) in
    let reading_of : List ℕ → Reading = λ ws. record { words = ws; counted = is_counted row.point ws } in
    ap (λ b. reading_at (cond b [] (given_by (points earlier) (slice_get (asked earlier c) n) unit)) (row.number, slot)) (unanswered earlier c n q legal query g.first)
    ∙ ap (λ o. reading_at (given_by (points earlier) o unit) (row.number, slot)) query
    ∙ ap (λ b. reading_at (cond (b && not (excepts q.read unit)) (given_rows (points earlier) q unit) []) (row.number, slot))
    (answered (read_request q.read) g.reply unit g.replies.spelled)
    ∙ ap (λ b. reading_at (cond (not b) (given_rows (points earlier) q unit) []) (row.number, slot)) plain
    ∙ ap (λ ws. reading_at (table_of ws) (row.number, slot)) same
    ∙ ap (λ s. reading_at (table_of (reply_cells g.reply)) (row.number, s)) (sym g.for_slot)
    ∙ given_all q.device q.read (reply_cells g.reply) q.slot 0 known row (known_numbered earlier q.known) there g.covered
    ∙ ap (λ ws. Some (reading_of ws)) (sym g.spells)

-- and a reading that it gives is of words that it gives
record IsNew (earlier : History) (c n : ℕ) (unit : List ℕ) (point slot : ℕ) (reading : Reading) : Type 0 where
  row : PointRow
  words : List ℕ
  gave : Gives earlier c n unit row slot words
  number : row.number ≡ point
  is : reading ≡ record { words = words; counted = is_counted row.point words }

reading_new : (earlier : History) (c n : ℕ) (unit : List ℕ) (point slot : ℕ) (reading : Reading) → Legal earlier → IsBytes unit
    → reading_at (new_given earlier c n unit) (point, slot) ≡ Some reading → IsNew earlier c n unit point slot reading
reading_new earlier c n unit point slot reading legal bytes e = by (is_answered earlier c n) refl e
  where
    normal : (q : Question) → slice_get (asked earlier c) n ≡ Some (Reads q) → IsFirst earlier c n → fits (Reads q) unit ≡ true → excepts q.read unit ≡ false
        → reading_at (given_rows (points earlier) q unit) (point, slot) ≡ Some reading → IsNew earlier c n unit point slot reading
    normal q query first fit plain f =
        let spelled = told (read_request q.read) unit bytes fit in
        let same = cells_spelled q.read spelled.0 unit spelled.1 plain in
        let ws : List ℕ = reply_cells spelled.0 in
        let was = query_asked earlier c n q query in
        let g = given_so q.device q.read ws q.slot (take q.known (points earlier)) point slot reading
        (subst (λ cs. reading_at (keyed q.slot (given_of (take q.known (points earlier)) q.device q.read cs)) (point, slot) ≡ Some reading) same.0 f) in
        record {
          row = g.row;
          words = words_in q.read ws g.row.point;
          gave = record {
            q = q;
            reply = spelled.0;
            replies = record { asking = was.asking; query = was.is; spelled = spelled.1 };
            first = first;
            brings = same.1;
            for_slot = g.same_slot;
            known = subst (λ l. Contains l g.row) (points_of_query earlier c n q was.asking was.is) g.there;
            covered = g.is_covered;
            spells = refl;
          };
          number = g.number;
          is = g.is;
        }

    fitting : (q : Question) → slice_get (asked earlier c) n ≡ Some (Reads q) → IsFirst earlier c n → (a b : Bool) → fits (Reads q) unit ≡ a → excepts q.read unit ≡ b
        → reading_at (cond (a && not b) (given_rows (points earlier) q unit) []) (point, slot) ≡ Some reading → IsNew earlier c n unit point slot reading
    fitting q query first true false fit plain f = normal q query first fit plain f
    fitting q query first true true fit plain f = absurd (none-some reading f)
    fitting q query first false b fit plain f = absurd (none-some reading f)

    queried : (o : Option Query) → slice_get (asked earlier c) n ≡ o → IsFirst earlier c n
        → reading_at (given_by (points earlier) o unit) (point, slot) ≡ Some reading → IsNew earlier c n unit point slot reading
    queried None query first f = absurd (none-some reading f)
    queried (Some (Reads q)) query first f = fitting q query first (fits (Reads q) unit) (excepts q.read unit) refl refl f
    queried (Some (Writes w)) query first f = absurd (none-some reading f)

    by : (b : Bool) → is_answered earlier c n ≡ b
        → reading_at (cond b [] (given_by (points earlier) (slice_get (asked earlier c) n) unit)) (point, slot) ≡ Some reading
        → IsNew earlier c n unit point slot reading
    by true old f = absurd (none-some reading f)
    by false new f = queried (slice_get (asked earlier c) n) refl (first_so earlier c n new) f

-- ---- what a history gives

or_some : (o p : Option Reading) (r : Reading) → o ≡ Some r → option_or o p ≡ Some r
or_some None p r e = absurd (none-some r e)
or_some (Some x) p r e = e

-- what is given under a key stays
given_stays : (later : List Happening) (before : History) (key : Key) (r : Reading)
    → reading_at (given before) key ≡ Some r → reading_at (given (later ++ before)) key ≡ Some r
given_stays [] before key r e = e
given_stays (Restart site ∷ later) before key r e = given_stays later before key r e
given_stays (Load edition caller word list ∷ later) before key r e = given_stays later before key r e
given_stays (Order caller word point value ∷ later) before key r e = given_stays later before key r e
given_stays (Void caller word point at ∷ later) before key r e = given_stays later before key r e
given_stays (Open line ∷ later) before key r e = given_stays later before key r e
given_stays (Ask c device slot read ∷ later) before key r e = given_stays later before key r e
given_stays (Send c number ∷ later) before key r e = given_stays later before key r e
given_stays (Noise c frame ∷ later) before key r e = given_stays later before key r e
given_stays (Reply c n unit ∷ later) before key r e =
    at_append (given (later ++ before)) (new_given (later ++ before) c n unit) key ∙ or_some _ _ r (given_stays later before key r e)

-- a unit that gives a key words leaves it with a reading
pub given_once : (before older : History) (c n : ℕ) (unit : List ℕ) (row : PointRow) (slot : ℕ) (words : List ℕ) → Legal before
    → Happened before (Reply c n unit) older → Gives older c n unit row slot words → reading_at (given before) (row.number, slot) ≡ None → ⊥
given_once before older c n unit row slot words legal came gave none =
    let key : Key = (row.number, slot) in
    let legal_older : Legal older = (legal_at before (Reply c n unit) older came legal).2 in
    let new = gives_reading older c n unit row slot words legal_older gave in
    let at : (r : Reading) → reading_at (given (Reply c n unit ∷ older)) key ≡ Some r → ⊥ = λ r e.
    none-some r (sym none ∙ ap (λ h. reading_at (given h) key) came.stands ∙ given_stays came.later (Reply c n unit ∷ older) key r e) in
    by at (reading_at (given older) key) refl new
  where
    by : ((r : Reading) → reading_at (given (Reply c n unit ∷ older)) (row.number, slot) ≡ Some r → ⊥)
        → (o : Option Reading) → reading_at (given older) (row.number, slot) ≡ o
        → reading_at (new_given older c n unit) (row.number, slot) ≡ Some (record { words = words; counted = is_counted row.point words }) → ⊥
    by at None is new =
        let key : Key = (row.number, slot) in
        at _ (at_append (given older) (new_given older c n unit) key ∙ ap (λ o. option_or o (reading_at (new_given older c n unit) key)) is ∙ new)
    by at (Some r) is new = at r (at_append (given older) (new_given older c n unit) (row.number, slot) ∙ or_some _ _ r is)

reading_later : (h : Happening) (before : History) (point slot : ℕ) (reading : Reading)
    → IsReadingOf before point slot reading → IsReadingOf (h ∷ before) point slot reading
reading_later h before point slot reading r = record {
  earlier = r.earlier;
  c = r.c;
  n = r.n;
  unit = r.unit;
  row = r.row;
  words = r.words;
  came = step_later h before (Reply r.c r.n r.unit) r.earlier r.came;
  gave = r.gave;
  number = r.number;
  is = r.is;
  earliest = r.earliest;
}

-- what is given under a key is what the earliest unit gave
given_earliest : (before : History) (point slot : ℕ) (reading : Reading) → Legal before
    → reading_at (given before) (point, slot) ≡ Some reading → IsReadingOf before point slot reading
given_earliest [] point slot reading legal e = absurd (none-some reading e)
given_earliest (Restart site ∷ before) point slot reading legal e = reading_later _ before point slot reading (given_earliest before point slot reading legal.2 e)
given_earliest (Load edition caller key list ∷ before) point slot reading legal e =
    reading_later _ before point slot reading (given_earliest before point slot reading legal.2 e)
given_earliest (Order caller key name value ∷ before) point slot reading legal e =
    reading_later _ before point slot reading (given_earliest before point slot reading legal.2 e)
given_earliest (Void caller key name at ∷ before) point slot reading legal e =
    reading_later _ before point slot reading (given_earliest before point slot reading legal.2 e)
given_earliest (Open line ∷ before) point slot reading legal e = reading_later _ before point slot reading (given_earliest before point slot reading legal.2 e)
given_earliest (Ask c device s read ∷ before) point slot reading legal e =
    reading_later _ before point slot reading (given_earliest before point slot reading legal.2 e)
given_earliest (Send c number ∷ before) point slot reading legal e = reading_later _ before point slot reading (given_earliest before point slot reading legal.2 e)
given_earliest (Noise c frame ∷ before) point slot reading legal e = reading_later _ before point slot reading (given_earliest before point slot reading legal.2 e)
given_earliest (Reply c n unit ∷ before) point slot reading legal e =
    by (λ r f. given_earliest before point slot r legal.2 f) (reading_at (given before) (point, slot)) refl
    (sym (at_append (given before) (new_given before c n unit) (point, slot)) ∙ e)
  where
    by : ((r : Reading) → reading_at (given before) (point, slot) ≡ Some r → IsReadingOf before point slot r)
        → (o : Option Reading) → reading_at (given before) (point, slot) ≡ o → option_or o (reading_at (new_given before c n unit) (point, slot)) ≡ Some reading
        → IsReadingOf (Reply c n unit ∷ before) point slot reading
    by rest (Some r) is f = reading_later _ before point slot reading (rest reading (is ∙ f))
    by rest None is f =
        let new = reading_new before c n unit point slot reading legal.2 legal.0.0 f in
        record {
          earlier = before;
          c = c;
          n = n;
          unit = unit;
          row = new.row;
          words = new.words;
          came = record { later = []; stands = refl };
          gave = new.gave;
          number = new.number;
          is = new.is;
          earliest = λ older d m other row words came gave number.
              given_once before older d m other row slot words legal.2 came gave (ap (λ p. reading_at (given before) (p, slot)) number ∙ is);
        }

-- and what the earliest unit gave is given under the key
earliest_given : (before : History) (point slot : ℕ) (reading : Reading) → Legal before
    → IsReadingOf before point slot reading → reading_at (given before) (point, slot) ≡ Some reading
earliest_given before point slot reading legal r =
    let legal_earlier : Legal r.earlier = (legal_at before (Reply r.c r.n r.unit) r.earlier r.came legal).2 in
    let new = gives_reading r.earlier r.c r.n r.unit r.row slot r.words legal_earlier r.gave in
    ap (λ h. reading_at (given h) (point, slot)) r.came.stands
    ∙ given_stays r.came.later (Reply r.c r.n r.unit ∷ r.earlier) (point, slot) reading
    (at_append (given r.earlier) (new_given r.earlier r.c r.n r.unit) (point, slot)
    ∙ ap (λ o. option_or o (reading_at (new_given r.earlier r.c r.n r.unit) (point, slot))) (none legal_earlier (reading_at (given r.earlier) (point, slot)) refl)
    ∙ ap (λ p. reading_at (new_given r.earlier r.c r.n r.unit) (p, slot)) (sym r.number)
    ∙ new
    ∙ ap Some (sym r.is))
  where
    none : Legal r.earlier → (o : Option Reading) → reading_at (given r.earlier) (point, slot) ≡ o → o ≡ None
    none l None is = refl
    none l (Some x) is =
        let old = given_earliest r.earlier point slot x l is in
        absurd (r.earliest old.earlier old.c old.n old.unit old.row old.words old.came old.gave old.number)

-- a reading is what the earliest unit gave, and what the earliest unit gave is a reading
pub first_arrival : (before : History) (point slot : ℕ) (reading : Reading) → Legal before
    → (reading_at (readings before) (point, slot) ≡ Some reading → IsReadingOf before point slot reading)
    × (IsReadingOf before point slot reading → reading_at (readings before) (point, slot) ≡ Some reading)
first_arrival before point slot reading legal = (
  (λ e. given_earliest before point slot reading legal (sym (at_made (given before) (point, slot)) ∙ e)),
  (λ r. at_made (given before) (point, slot) ∙ earliest_given before point slot reading legal r),
)
