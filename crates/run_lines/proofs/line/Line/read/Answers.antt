use Rattle.std.proofs.Common.{◌++◌, refl}
use Rattle.std.specs.Prelude.{take}
use Rattle.run_lines.specs.declared.loss.Loss.TheVariants.{Memory}
use Rattle.run_lines.specs.Lines.{terms_of}
use Rattle.run_lines.specs.Links.{standing_of, wire_of}
use Rattle.run_lines.specs.Wires.{Up}
use Rattle.run_lines.proofs.Lines.{by_link}
use Rattle.run_lines.proofs.Wires.{ended_so, read_so_far, shown_lost}
use Rattle.run_lines.proofs.line.Line.read.Goals as goal

pub returns-in_err-feed-in-Bytes : goal.returns-in_err-feed-in-Bytes
returns-in_err-feed-in-Bytes g c =
    let line = c.args.self.now in
    let from = c.source-source.result in
    let at = standing_of c.in-Up.link in
    let bytes = take c.in-Bytes.count c.read.new.piece in
    let wire = Up (record at { unread = at.unread ++ bytes }) in (
      record { place = refl; name = refl; most = refl; from = refl },
      (
        wire,
        by_link line from (λ acts. g.S.Sockets.acts c.args.sockets.now acts c.read.new.self) c.in-Up.link wire c.in-Up.is c.source-source.ensures
            (read_so_far (terms_of line) from bytes (λ acts. g.S.Sockets.acts c.args.sockets.now acts c.read.new.self) at (c.has_more.ensures c.if-has_more.false).1 c.in-Bytes.ensures.acts),
        shown_lost _ c.from_residual.result Memory wire (wire_of c.feed.new.self) c.from_residual.ensures.1,
      ),
    )

pub returns-in-Ended : goal.returns-in-Ended
returns-in-Ended g c =
    let line = c.args.self.now in
    let from = c.source-source.result in
    let at = standing_of c.in-Up.link in (
      record { place = refl; name = refl; most = refl; from = refl },
      (
        Up at,
        by_link line from (λ acts. g.S.Sockets.acts c.args.sockets.now acts c.read.new.self) c.in-Up.link (Up at) c.in-Up.is c.source-source.ensures
            (ended_so (terms_of line) from c.read.new.piece (λ acts. g.S.Sockets.acts c.args.sockets.now acts c.read.new.self) at c.read.result c.read.ensures.acts c.in-Ended.is),
        tt {0},
      ),
    )
