-- A job that can be done and is due is refused only where the connection is closed.
use Rattle.std.proofs.Common.{◌≡◌, ◌⊎◌, ◌<◌, ◌≤◌, ℕ, ◌+◌, Bool, true, false, cond, not, leb, List, [], ◌∷◌, length, Option, Some, None, inl, inr, refl, sym, ap, ◌∙◌, arith}
use Rattle.std.specs.Prelude.{find, is_some, option_map, slice_get, ◌&&◌, ◌||◌, ◌==◌, nat_lt}
use Rattle.std.specs.Cmp.{unsigned_tied}
use Rattle.std.specs.List.{position_or_len}
use Rattle.std.specs.Ordering.{eq_by_cmp, nat_cmp}
use Rattle.std.specs.Str.{bytes_eq}
use Rattle.std.proofs.lemmas.Bool.{and_parts, eq-eqb, leb-true, lt-ltb, ne_eqb}
use Rattle.std.proofs.lemmas.List.Folds.{find_at}
use Rattle.std.proofs.lemmas.Option.{none-some, same_Some, slice_get_within}
use Rattle.std.proofs.lemmas.Slice.Eq.{bytes_eq-Decides}
use Rattle.point_list.specs.declared.site.Device.{Device}
use Rattle.point_list.specs.declared.site.Site.{Site}
use Rattle.point_list.specs.Sites.{device_named}
use Rattle.read_planner.specs.declared.Read.{Read as AskedRead}
use Rattle.read_planner.specs.Read.{is_valid_read}
use Rattle.poll_book.specs.declared.rows.PointRow.{PointRow}
use Rattle.poll_book.specs.declared.rows.Setting.{Setting}
use Rattle.poll_book.specs.Orders.{Settings, is_waiting, is_of, setting_at, point_at, waits_on, oldest_waiting}
use Rattle.poll_book.specs.Tables.{Readings}
use Rattle.office_core.specs.declared.error.OfficeError.{OfficeError}
use Rattle.office_core.specs.declared.error.OfficeError.TheVariants as error
use Rattle.office_core.specs.declared.event.EventAnswer.TheVariants as answer
use Rattle.office_core.specs.Cover.{ends_in_time, is_readable, some_covered}
use Rattle.office_core.specs.Lacking.{lacks, some_lacks}
use Rattle.office_core.specs.Orders.{is_number, send_fault, send_fault_of, send_fault_at, send_fault_on}
use Rattle.office_core.specs.Sites.{target, target_in, target_at}
use Rattle.office_core.specs.Answers.{answer_of, refused_or}
use Rattle.mb_mbap.specs.declared.frame.Frame.{Frame}
use Rattle.office_core.specs.History.{Ask, Send, History, site_of, points, settings, readings, open_line, asked, ask_fault, ask_fault_on}
use Rattle.office_core.proofs.KeptRequests.{AreOrders, found_in, numbered}
use Rattle.office_net.specs.declared.job.LineJob.{LineJob}
use Rattle.office_net.specs.declared.job.LineJob.TheVariants.{Order, Read}
use Rattle.office_net.specs.Faults.{IsClosed}
use Rattle.office_net.specs.Jobs.{CanBeDone, IsOnLine}
use Rattle.office_net.specs.Moves.{Start, Move, told, is_due, turn_of, number_of, next_order}
use Rattle.office_net.proofs.Staying.{same_site, same_line}

-- of three tests where the first two are passed the third refuses
third : (a b c : Bool) (x y z e : OfficeError) → a ≡ true → b ≡ true → cond (not a) (Some x) (cond (not b) (Some y) (cond c (Some z) None)) ≡ Some e → c ≡ true
third true true true x y z e p q is = refl
third true true false x y z e p q is = absurd (none-some e is)
third true false c x y z e p q is = absurd (cc)
third false b c x y z e p q is = absurd (cc)

-- and of four the fourth
fourth : (a b c d : Bool) (x y z w e : OfficeError) → a ≡ true → b ≡ true → c ≡ true
    → cond (not a) (Some x) (cond (not b) (Some y) (cond (not c) (Some z) (cond d (Some w) None))) ≡ Some e → d ≡ true
fourth true b c d x y z w e p q r is = third b c d y z w e q r is
fourth false b c d x y z w e p q r is = absurd (cc)

-- ---- the device

module _ (site : Site) (name : List ℕ) (device : Device) (there : device_named site name ≡ Some device) where
  at_place : slice_get site.devices (position_or_len (λ (x : Device). bytes_eq x.name name) site.devices) ≡ Some device
  at_place = sym (find_at (λ (x : Device). bytes_eq x.name name) site.devices) ∙ there

  -- the device of the name is the target
  pub target_is : target site name ≡ target_at (position_or_len (λ (x : Device). bytes_eq x.name name) site.devices) (Some device)
  target_is =
      let k : ℕ = position_or_len (λ (x : Device). bytes_eq x.name name) site.devices in
      let within : k < length site.devices = slice_get_within site.devices k device at_place in
      let test : nat_lt k (length site.devices) ≡ true = lt-ltb k (length site.devices) within in
      ap (λ b. target_in site.devices (cond b (Some k) None)) test ∙ ap (target_at k) at_place

-- ---- asks

-- a read that covers a point without a reading covers a point
lacking_covers : (known : List PointRow) (table : Readings) (device : List ℕ) (slot : ℕ) (read : AskedRead) → some_lacks known table device slot read ≡ true → some_covered known device read ≡ true
lacking_covers [] table device slot read some = some
lacking_covers (row ∷ known) table device slot read some = by _ _ some (lacking_covers known table device slot read)
  where
    by : (c n : Bool) → ((c && n) || some_lacks known table device slot read) ≡ true → (some_lacks known table device slot read ≡ true → some_covered known device read ≡ true)
        → (c || some_covered known device read) ≡ true
    by true n some rest = refl
    by false n some rest = rest some

-- where the device is one of the line, and the read can be asked, an ask is refused only of a connection that made all its queries
ask_shut : (site : Site) (known : List PointRow) (line made : ℕ) (device : List ℕ) (read : AskedRead) (e : OfficeError) (o : Option Device) → device_named site device ≡ o
    → option_map (λ (d : Device). d.line) o ≡ Some line → is_readable known device read ≡ true → ask_fault_on (target site device) line known made device read ≡ Some e → 4294967295 ≤ made
ask_shut site known line made device read e None named on readable fault = absurd (none-some line on)
ask_shut site known line made device read e (Some d) named on readable fault =
    let same : d.line ≡ line = same_Some d.line line on in
    leb-true 4294967295 made
    (third (d.line == line) (is_readable known device read) (leb 4294967295 made) error.WrongLine error.NoRead error.Exhausted e (eq-eqb d.line line same) readable
    (ap (λ t. ask_fault_on t line known made device read) (sym (target_is site device d named)) ∙ fault))

-- ---- sends

-- a row that is the first to pass stands under its number
found_row : (n : ℕ) (p : ℕ × Setting → Bool) (table : Settings) (row : ℕ × Setting) → AreOrders n table → find p table ≡ Some row → setting_at table row.0 ≡ Some row.1
found_row n p [] row a e = absurd (none-some row e)
found_row n p (x ∷ rest) row a e = by (p x) (λ f. found_row (n + 1) p rest row a.1 f) e
  where
    by : (b : Bool) → (find p rest ≡ Some row → setting_at rest row.0 ≡ Some row.1) → cond b (Some x) (find p rest) ≡ Some row
        → cond (eq_by_cmp nat_cmp row.0 x.0) (Some x.1) (setting_at rest row.0) ≡ Some row.1
    by true more f =
        let same : x ≡ row = same_Some x row f in
        ap (λ b. cond b (Some x.1) (setting_at rest row.0)) (unsigned_tied row.0 x.0 ∙ eq-eqb row.0 x.0 (ap (λ (r : ℕ × Setting). r.0) (sym same)))
        ∙ ap (λ (r : ℕ × Setting). Some r.1) same
    by false more f =
        let there = more f in
        let in_range = found_in (n + 1) row.0 rest a.1 (ap is_some there) in
        let past : n + 1 < row.0 = in_range.0 in
        let first : x.0 ≡ n + 1 = a.0 in
        let apart : row.0 ≡ x.0 → ⊥ = λ e. absurd (omega arith) in
        ap (λ b. cond b (Some x.1) (setting_at rest row.0)) (unsigned_tied row.0 x.0 ∙ ne_eqb row.0 x.0 apart)
        ∙ there

-- and it passes
found_passes : (p : ℕ × Setting → Bool) (table : Settings) (row : ℕ × Setting) → find p table ≡ Some row → p row ≡ true
found_passes p [] row e = absurd (none-some row e)
found_passes p (x ∷ rest) row e = by (p x) refl e (found_passes p rest row)
  where
    by : (b : Bool) → p x ≡ b → cond b (Some x) (find p rest) ≡ Some row → (find p rest ≡ Some row → p row ≡ true) → p row ≡ true
    by true is f more = ap p (sym (same_Some x row f)) ∙ is
    by false is f more = more f

module _ (site : Site) (known : List PointRow) (table : Settings) (line made : ℕ) (name : List ℕ) (row : ℕ × Setting) (e : OfficeError)
    (orders : AreOrders 0 table) (oldest : oldest_waiting known name table ≡ Some row) (d : Device) (named : device_named site name ≡ Some d) (on : d.line ≡ line) where
  -- of the point that the order sets
  by_point : (o : Option PointRow) → is_of name o ≡ true → send_fault_at o line site known table made row.0 row.1.state ≡ Some e → is_waiting row.1.state ≡ true → 4294967295 ≤ made
  by_point None of fault waits = absurd (cc)
  by_point (Some point) of fault waits =
      let same : point.point.device ≡ name = (bytes_eq-Decides point.point.device name).0 of in
      let next : is_number (oldest_waiting known point.point.device table) row.0 ≡ true =
      ap (λ n. is_number (oldest_waiting known n table) row.0) same ∙ ap (λ o. is_number o row.0) oldest ∙ eq-eqb row.0 row.0 refl in
      leb-true 4294967295 made
      (fourth (d.line == line) (is_waiting row.1.state) (is_number (oldest_waiting known point.point.device table) row.0) (leb 4294967295 made)
      error.WrongLine error.Settled error.NotNext error.Exhausted e (eq-eqb d.line line on) waits next
      (ap (λ t. send_fault_on t line row.1.state (is_number (oldest_waiting known point.point.device table) row.0) made) (sym (ap (target site) same ∙ target_is site name d named)) ∙ fault))

  -- where the device is one of the line, the send of its oldest order is refused only of a connection that made all its queries
  send_shut : send_fault_of (setting_at table row.0) line site known table made row.0 ≡ Some e → 4294967295 ≤ made
  send_shut fault =
      let passes = and_parts (is_waiting row.1.state) (is_of name (point_at known row.1.point)) (found_passes (waits_on known name) table row oldest) in
      by_point (point_at known row.1.point) passes.1
      (ap (λ o. send_fault_of o line site known table made row.0) (sym (found_row 0 (waits_on known name) table row orders oldest)) ∙ fault) passes.0

-- ---- turns

-- what is told as a refusal is refused so
refused_so : (o : Option OfficeError) (query : Frame) (e : OfficeError) → answer.Refused e ≡ refused_or o (answer.Query query) → o ≡ Some e
refused_so None query e is = absurd (cc)
refused_so (Some f) query e is = let same : f ≡ e = cc in ap Some same

module _ (now : History) (conn slot : ℕ) (e : OfficeError) where
  ask_closed : (device : List ℕ) (read : AskedRead) → IsOnLine now conn device → is_valid_read read ≡ true → ends_in_time read ≡ true → lacks now device slot read ≡ true
      → answer.Refused e ≡ answer_of now (Ask conn device slot read) → IsClosed now conn
  ask_closed device read on valid ends some told =
      by (open_line now conn) on (refused_so (ask_fault (open_line now conn) (site_of now) (points now) (length (asked now conn)) device read) _ e told)
    where
      readable : is_readable (points now) device read ≡ true
      readable =
          ap (λ b. b && (ends_in_time read && some_covered (points now) device read)) valid ∙ ap (λ b. b && some_covered (points now) device read) ends
          ∙ lacking_covers (points now) (readings now) device slot read some

      by : (o : Option ℕ) → option_map (λ (d : Device). d.line) (device_named (site_of now) device) ≡ o
          → ask_fault o (site_of now) (points now) (length (asked now conn)) device read ≡ Some e → (o ≡ None) ⊎ (4294967295 ≤ length (asked now conn))
      by None on fault = inl refl
      by (Some line) on fault =
          inr (ask_shut (site_of now) (points now) line (length (asked now conn)) device read e (device_named (site_of now) device) refl on readable fault)

  send_closed : (device : List ℕ) → IsOnLine now conn device → is_some (next_order now device) ≡ true
      → answer.Refused e ≡ answer_of now (Send conn (number_of (next_order now device))) → IsClosed now conn
  send_closed device on some told =
      by_row (next_order now device) refl some
      (refused_so (send_fault (open_line now conn) (site_of now) (points now) (settings now) (length (asked now conn)) (number_of (next_order now device))) _ e told)
    where
      by_device : (row : ℕ × Setting) → next_order now device ≡ Some row → (line : ℕ) → (o : Option Device) → device_named (site_of now) device ≡ o
          → option_map (λ (d : Device). d.line) o ≡ Some line
          → send_fault_of (setting_at (settings now) row.0) line (site_of now) (points now) (settings now) (length (asked now conn)) row.0 ≡ Some e
          → 4294967295 ≤ length (asked now conn)
      by_device row is line None named on fault = absurd (none-some line on)
      by_device row is line (Some d) named on fault =
          send_shut (site_of now) (points now) (settings now) line (length (asked now conn)) device row e (numbered now) is d named (same_Some d.line line on) fault

      by_line : (row : ℕ × Setting) → next_order now device ≡ Some row → (o : Option ℕ) → option_map (λ (d : Device). d.line) (device_named (site_of now) device) ≡ o
          → send_fault o (site_of now) (points now) (settings now) (length (asked now conn)) row.0 ≡ Some e → (o ≡ None) ⊎ (4294967295 ≤ length (asked now conn))
      by_line row is None on fault = inl refl
      by_line row is (Some line) on fault = inr (by_device row is line (device_named (site_of now) device) refl on fault)

      by_row : (o : Option (ℕ × Setting)) → next_order now device ≡ o → is_some o ≡ true
          → send_fault (open_line now conn) (site_of now) (points now) (settings now) (length (asked now conn)) (number_of o) ≡ Some e → IsClosed now conn
      by_row None is some fault = absurd (cc)
      by_row (Some row) is some fault = by_line row is (open_line now conn) on fault

  -- of a job that can be done and is due
  turn_closed : (job : LineJob) → CanBeDone now conn job → is_due slot now job ≡ true → answer.Refused e ≡ answer_of now (turn_of conn slot now job) → IsClosed now conn
  turn_closed (Order device) can due told = send_closed device can due told
  turn_closed (Read device read) can due told = ask_closed device read can.0 can.1 can.2 due told

on_later : (start : Start) (moves : List Move) (device : List ℕ) → IsOnLine start.before start.conn device → IsOnLine (told start moves) start.conn device
on_later start moves device on =
    ap (λ site. option_map (λ (d : Device). d.line) (device_named site device)) (same_site start moves) ∙ on ∙ sym (same_line start.conn start moves)

-- what can be done as the round begins can be done later
can_later : (start : Start) (moves : List Move) (job : LineJob) → CanBeDone start.before start.conn job → CanBeDone (told start moves) start.conn job
can_later start moves (Order device) on = on_later start moves device on
can_later start moves (Read device read) can = (on_later start moves device can.0, can.1, can.2)

pub closed : (start : Start) (moves : List Move) (job : LineJob) (e : OfficeError) → CanBeDone start.before start.conn job → is_due start.slot (told start moves) job ≡ true
    → answer.Refused e ≡ answer_of (told start moves) (turn_of start.conn start.slot (told start moves) job) → IsClosed (told start moves) start.conn
closed start moves job e can due refused = turn_closed (told start moves) start.conn start.slot e job (can_later start moves job can) due refused
