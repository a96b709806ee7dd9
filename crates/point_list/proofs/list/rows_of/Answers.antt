use Rattle.std.proofs.Common.{◌≡◌, ◌<◌, ◌||◌, ◌∙◌, ◌∷◌, [], arith, rules, length, below_more, cond, true, sym, ap, inr, None, Some}
use Rattle.std.proofs.lemmas.List.{length-map, length-append}
use Rattle.std.proofs.lemmas.List.Elements.{All-push}
use Rattle.std.specs.List.{list_any}
use Rattle.std.specs.Str.{bytes_eq}
use Rattle.std.specs.Result.{is_ok}
use Rattle.csv.specs.Records.{fields_of}
use Rattle.point_list.specs.Columns.{field}
use Rattle.point_list.specs.DeviceNames.{has_device}
use Rattle.point_list.specs.Lists.{fault_below, names_of}
use Rattle.point_list.specs.Texts.{has_text}
use Rattle.point_list.specs.declared.error.ListFault.TheVariants.{Twice}
use Rattle.point_list.specs.declared.point.ListRow.{ListRow}
use Rattle.point_list.proofs.Judging.{fault_unless_new, named}
use Rattle.point_list.proofs.Names.{name_is_label}
use Rattle.point_list.proofs.Rows.{few_names, known_device, more_faultless, more_names, more_rows, known_more}
use Rattle.point_list.proofs.list.rows_of.Goals as goal

pub add-requires : goal.add-requires
add-requires c =
    let r = fields_of c.record-item.result in
    let judged = rw c.as_slice.ensures.value at c.in-Ok.ensures.row in
    name_is_label c.field_of.result.now (rw c.field_of.ensures (named c.args.columns (has_device c.args.devices.now) (names_of c.loop-record.rows.items) r judged.0))

pub loop-record-preserved : goal.loop-record-preserved
loop-record-preserved c =
    let inv = c.loop-record.invariant in
    let body = c.args.body.now in
    let i = c.loop-record.record-index in
    let rows = c.loop-record.rows.items in
    let x = c.record-item.result in
    let r = fields_of x in
    let y : ListRow = c.in-Ok.row in
    let known = has_device c.args.devices.now in
    let lt : i < length body = omega arith in
    let judged = rw c.as_slice.ensures.value at c.in-Ok.ensures.row in
    let new = rw c.field_of.ensures at c.in-Ok-add.ensures.new in
    let none : fault_below c.args.columns known (names_of rows) r ≡ None =
    judged.0 ∙ fault_unless_new (names_of rows) r c.in-Ok-add.is_new (has_text c.loop-record.names (field r 0)) new (inv.known (field r 0))
    ∙ ap (λ b. cond b None (Some (Twice, 1))) c.if-not-is_new.false in
    let pushed : is_ok c.push.result ≡ true = search rules in
    let items = rw pushed at c.push.ensures.items in
    let added = rw c.field_of.ensures at c.in-Ok-add.ensures.added in
    let few = few_names c.args.columns known (names_of rows) r none in
    let device : known y.point.device ≡ true = ap known judged.1.point.device ∙ known_device c.args.columns known (names_of rows) r none in
    record {
      number = omega arith;
      count = rw items (omega (arith, length-append rows (y ∷ [])));
      few = omega (arith, few, length-map rows (λ (z : ListRow). z.point.name));
      faultless = below_more _ _ inv.faultless (more_faultless c.args.columns known body i x (names_of rows) _ lt c.record-item.is inv.named none);
      say = rw items (more_rows body i c.loop-record.number x rows y lt c.record-item.is inv.number inv.say judged.1);
      named = rw items (more_names body i x rows y lt c.record-item.is inv.named judged.1.point);
      known = λ text. rw items (
          added text ∙ ap (λ b. bytes_eq text (field r 0) || b) (inv.known text)
          ∙ sym (known_more rows y text ∙ ap (λ name. bytes_eq text name || list_any (λ n. bytes_eq text n) (names_of rows)) judged.1.point.name)
          );
      devices = rw items (All-push (λ (row : ListRow). known row.point.device ≡ true) rows y inv.devices device);
    }

pub returns-then-not-is_new-clause-fault : goal.returns-then-not-is_new-clause-fault
returns-then-not-is_new-clause-fault c =
    let inv = c.loop-record.invariant in
    let body = c.args.body.now in
    let i = c.loop-record.record-index in
    let x = c.record-item.result in
    let r = fields_of x in
    let rows = c.loop-record.rows.items in
    let lt : i < length body = omega arith in
    let judged = rw c.as_slice.ensures.value at c.in-Ok.ensures.row in
    let new = rw c.field_of.ensures at c.in-Ok-add.ensures.new in
    let twice : fault_below c.args.columns (has_device c.args.devices.now) (names_of rows) r ≡ Some (Twice, 1) =
    judged.0 ∙ fault_unless_new (names_of rows) r c.in-Ok-add.is_new (has_text c.loop-record.names (field r 0)) new (inv.known (field r 0))
    ∙ ap (λ b. cond b None (Some (Twice, 1))) c.if-not-is_new.true in
    inr (record {
      place = i;
      within = omega (arith, length-map body fields_of);
      faultless = inv.faultless;
      fault = rw c.new-then-not-is_new.ensures (more_faultless c.args.columns (has_device c.args.devices.now) body i x (names_of rows) (Some (Twice, 1)) lt c.record-item.is inv.named twice);
      row = rw c.new-then-not-is_new.ensures inv.number;
    })

pub returns-in-Err-clause-fault : goal.returns-in-Err-clause-fault
returns-in-Err-clause-fault c =
    let inv = c.loop-record.invariant in
    let body = c.args.body.now in
    let i = c.loop-record.record-index in
    let x = c.record-item.result in
    let rows = c.loop-record.rows.items in
    let lt : i < length body = omega arith in
    let judged = rw c.as_slice.ensures.value at c.in-Err.ensures.fault in
    inr (record {
      place = i;
      within = omega (arith, length-map body fields_of);
      faultless = inv.faultless;
      fault = rw c.new.ensures (more_faultless c.args.columns (has_device c.args.devices.now) body i x (names_of rows) (Some (c.in-Err.fault, c.in-Err.column)) lt c.record-item.is inv.named judged);
      row = rw c.new.ensures inv.number;
    })
