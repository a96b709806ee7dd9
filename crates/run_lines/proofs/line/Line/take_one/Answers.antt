use Rattle.std.proofs.Common.{◌≡◌, ◌∙◌, [], refl}
use Rattle.run_lines.specs.Lines.{terms_of, source_of}
use Rattle.run_lines.specs.Links.{wire_of}
use Rattle.run_lines.proofs.Lines.{over_link}
use Rattle.run_lines.proofs.Wires.{shown}
use Rattle.run_lines.proofs.line.Line.take_one.Goals as goal

pub returns-in_err-arrival : goal.returns-in_err-arrival
returns-in_err-arrival g c =
    let line = c.args.self.now in (
      record { place = refl; name = c.take.ensures.name; most = refl; from = refl },
      (
        wire_of c.take.new.self,
        over_link line c.args.office.now c.take.new.office (λ acts. acts ≡ []) c.in-Up.link (wire_of c.take.new.self) c.in-Up.is (c.take.ensures.wired (terms_of line) (source_of line)),
        shown c.from_residual.result (wire_of c.take.new.self) (wire_of c.take.new.self) refl,
      ),
    )

pub returns-in-Some-Answer : goal.returns-in-Some-Answer
returns-in-Some-Answer g c =
    let line = c.args.self.now in (
      record {
        place = c.tell_up.ensures.0.place ∙ c.count.ensures.0.place;
        name = c.tell_up.ensures.0.name ∙ c.count.ensures.0.name ∙ c.take.ensures.name;
        most = c.tell_up.ensures.0.most ∙ c.count.ensures.0.most;
        from = c.tell_up.ensures.0.from ∙ c.count.ensures.0.from;
      },
      (
        wire_of c.take.new.self,
        over_link line c.args.office.now c.take.new.office (λ acts. acts ≡ []) c.in-Up.link (wire_of c.take.new.self) c.in-Up.is (c.take.ensures.wired (terms_of line) (source_of line)),
        c.tell_up.ensures.1 ∙ c.count.ensures.1,
      ),
    )

pub returns-in-Some-Refused : goal.returns-in-Some-Refused
returns-in-Some-Refused g c =
    let line = c.args.self.now in (
      record {
        place = c.note_refused.ensures.0.place;
        name = c.note_refused.ensures.0.name ∙ c.take.ensures.name;
        most = c.note_refused.ensures.0.most;
        from = c.note_refused.ensures.0.from;
      },
      (
        wire_of c.take.new.self,
        over_link line c.args.office.now c.take.new.office (λ acts. acts ≡ []) c.in-Up.link (wire_of c.take.new.self) c.in-Up.is (c.take.ensures.wired (terms_of line) (source_of line)),
        c.note_refused.ensures.1,
      ),
    )

pub returns-in-Some-Repeat : goal.returns-in-Some-Repeat
returns-in-Some-Repeat g c =
    let line = c.args.self.now in (
      record { place = refl; name = c.take.ensures.name; most = refl; from = refl },
      (
        wire_of c.take.new.self,
        over_link line c.args.office.now c.take.new.office (λ acts. acts ≡ []) c.in-Up.link (wire_of c.take.new.self) c.in-Up.is (c.take.ensures.wired (terms_of line) (source_of line)),
        refl,
      ),
    )

pub returns-in-Some-Noise : goal.returns-in-Some-Noise
returns-in-Some-Noise g c =
    let line = c.args.self.now in (
      record { place = refl; name = c.take.ensures.name; most = refl; from = refl },
      (
        wire_of c.take.new.self,
        over_link line c.args.office.now c.take.new.office (λ acts. acts ≡ []) c.in-Up.link (wire_of c.take.new.self) c.in-Up.is (c.take.ensures.wired (terms_of line) (source_of line)),
        refl,
      ),
    )

pub returns-in-None : goal.returns-in-None
returns-in-None g c =
    let line = c.args.self.now in (
      record { place = refl; name = c.take.ensures.name; most = refl; from = refl },
      (
        wire_of c.take.new.self,
        over_link line c.args.office.now c.take.new.office (λ acts. acts ≡ []) c.in-Up.link (wire_of c.take.new.self) c.in-Up.is (c.take.ensures.wired (terms_of line) (source_of line)),
        refl,
      ),
    )
