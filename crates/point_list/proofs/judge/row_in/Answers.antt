use Rattle.std.proofs.Common.{◌∙◌, sym, refl, rules}
use Rattle.std.proofs.lemmas.Result.{err_from_is_err_and}
use Rattle.csv.specs.Records.{fields_of}
use Rattle.point_list.specs.DeviceNames.{has_device}
use Rattle.point_list.proofs.Judging.{below-meaning, below-name}
use Rattle.point_list.proofs.judge.row_in.Goals as goal

pub returns-in_err-meaning-clause-fault : goal.returns-in_err-meaning-clause-fault
returns-in_err-meaning-clause-fault c =
    let p = err_from_is_err_and c.from_residual-in_err-meaning.result c.from_residual-in_err-meaning.ensures.1 in
    rw (p.1, p.2)
    (below-meaning c.args.columns (has_device c.args.devices.now) c.args.rows.now (fields_of c.args.record.now) c.in_err-meaning.field-0.0 c.in_ok-place.ensures.place.0 c.in_err-meaning.ensures.fault)

pub returns-clause-row : goal.returns-clause-row
returns-clause-row c =
    let place = c.in_ok-place.ensures.place in
    let meaning = c.in_ok-meaning.ensures.meaning in (
      below-name c.args.columns (has_device c.args.devices.now) c.args.rows.now (fields_of c.args.record.now) c.in_ok-place.place.address c.in_ok-meaning.meaning.kind place.0 meaning.0 place.1.address meaning.1.kind
          (sym c.ends_in_time.ensures ∙ c.if-not-ends_in_time.false),
      record {
        row = refl;
        point = record {
          name = place.1.name;
          device = place.1.device;
          table = place.1.table;
          address = place.1.address;
          kind = meaning.1.kind;
          scale = search rules;
          role = meaning.1.role;
          roll = meaning.1.roll;
          order = meaning.1.order;
        };
        model = place.1.model;
      },
    )
