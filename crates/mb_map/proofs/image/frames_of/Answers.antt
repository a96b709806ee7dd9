use Rattle.std.proofs.Common.{◌≡◌, ◌≢◌, ◌<◌, length, get_or, true, arith, rules}
use Rattle.std.specs.Char.{is_ascii_digit}
use Rattle.std.specs.List.{list_all}
use Rattle.mb_map.proofs.Digits.{above_zero, value_some}
use Rattle.mb_map.proofs.image.frames_of.Goals as goal

pub returns-clause-some : goal.returns-clause-some
returns-clause-some c =
    let text = c.args.text.now in
    let digits : list_all is_ascii_digit text ≡ true = search rules in
    let some : 0 < length text = search rules in
    let first : get_or text 0 0 ≢ 48 = search rules in
    let above : 0 < c.value_of.result = omega (arith, value_some text digits some first, c.value_of.ensures) in
    rw c.ok.ensures.value (above_zero c.try_from.result _ _ c.try_from.ensures above)
