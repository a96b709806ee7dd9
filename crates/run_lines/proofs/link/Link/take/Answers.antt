use Rattle.std.proofs.Common.{◌≡◌, ◌++◌, ℕ, List, [], ◌∙◌, ap, sym, subst}
use Rattle.std.proofs.lemmas.List.{append_assoc}
use Rattle.std.specs.List.{flat_map}
use Rattle.mb_mbap.specs.declared.frame.Frame.{Frame}
use Rattle.mb_mbap.specs.Stream.{spelled}
use Rattle.run_lines.specs.Links.{held_in, standing_of, wire_of}
use Rattle.run_lines.specs.Wires.{Up, Wired}
use Rattle.run_lines.proofs.link.Link.take.Goals as goal

pub returns-in-Some-default-clause-wired : goal.returns-in-Some-default-clause-wired
returns-in-Some-default-clause-wired g c = λ terms source.
    let at = standing_of c.args.self.now in
    let held = held_in c.args.self.now.stream in
    let unread : flat_map spelled c.args.self.now.frames.items ++ held ≡ spelled c.in-Some-default.frame ++ (flat_map spelled c.pop_front.new.self.items ++ held) =
    ap (λ (frames : List Frame). flat_map spelled frames ++ held) c.in-Some-default.ensures.items
    ∙ append_assoc (spelled c.in-Some-default.frame) (flat_map spelled c.pop_front.new.self.items) held in
    subst (λ (bytes : List ℕ). Wired terms source c.args.office.now c.take_one-taken.new.office (λ acts. acts ≡ []) (Up (record at { unread = bytes })) (wire_of c.take_one-taken.new.self)) (sym unread)
    (c.take_one-taken.ensures.wired terms source)
