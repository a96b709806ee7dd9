use Rattle.std.proofs.Common.{arith, refl, sym, ◌∙◌, ◌≡◌, [], ap, subst, true, false, ◌+◌}
use Rattle.office_script.specs.Devices.{with_device, is_site}
use Rattle.office_script.specs.Scripts.{from_device, steps_of}
use Rattle.office_script.proofs.Opened.{broken, declared, nothing_sound, ready}
use Rattle.office_script.proofs.opening.open_script.Goals as goal

pub loop-alloc-init : goal.loop-alloc-init
loop-alloc-init c =
    let lines : c.new.result.items ≡ [] = c.new.ensures.items in
    let devices : c.new-2.result.items ≡ [] = c.new-2.ensures.items in
    let empty = nothing_sound c.new.result.items c.new-2.result.items lines devices in
    record { sound = subst (λ s. is_site s ≡ true) (sym c.new-site.ensures) empty; course = rw (c.new-site.ensures, lines, devices) refl; room = omega arith }

pub returns-in_default : goal.returns-in_default
returns-in_default c =
    let same = ready c.loop-alloc.site c.loop-alloc.number c.loop-alloc.rest.now c.first_line.result.0.now c.first_line.result.1.now c.first_line.ensures.lines (sym c.skips.ensures ∙ c.if-skips.false)
    (sym c.in_default.is ∙ c.in_ok-said.ensures) in
    (c.loop-alloc.invariant.sound, c.loop-alloc.invariant.course ∙ same, c.loop-alloc.invariant.room)

pub returns-then-not-is_sound : goal.returns-then-not-is_sound
returns-then-not-is_sound c =
    let unsound : is_site (with_device c.loop-alloc.site c.in-Some.said) ≡ false = subst (λ s. is_site s ≡ false) c.in_ok-site.ensures (sym c.is_sound.ensures ∙ c.if-not-is_sound.true) in
    let same = broken c.loop-alloc.site c.loop-alloc.number c.loop-alloc.rest.now c.first_line.result.0.now c.first_line.result.1.now c.in-Some.said c.first_line.ensures.lines
    (sym c.in-Some.is ∙ c.in_ok-said.ensures) unsound in
    c.loop-alloc.invariant.course ∙ same

pub loop-alloc-preserved : goal.loop-alloc-preserved
loop-alloc-preserved c =
    let sound = sym c.is_sound.ensures ∙ c.if-not-is_sound.false in
    let grown : is_site (with_device c.loop-alloc.site c.in-Some.said) ≡ true = subst (λ s. is_site s ≡ true) c.in_ok-site.ensures sound in
    let same = declared c.loop-alloc.site c.loop-alloc.number c.loop-alloc.rest.now c.first_line.result.0.now c.first_line.result.1.now c.in-Some.said c.first_line.ensures.lines
    (sym c.in-Some.is ∙ c.in_ok-said.ensures) grown in
    let steps = steps_of (c.loop-alloc.number + 1) c.first_line.result.1.now in
    record {
      sound = sound;
      course = c.loop-alloc.invariant.course ∙ same ∙ ap (λ s. from_device s (c.loop-alloc.number + 1) steps) (sym c.in_ok-site.ensures);
      room = omega (arith, c.loop-alloc.invariant.room, c.first_line.ensures.shorter);
    }
