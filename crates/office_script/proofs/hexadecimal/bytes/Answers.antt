use Rattle.std.proofs.Common.{◌≡◌, ◌∙◌, ◌+◌, sym, ap, Some, suc, take, subst, arith}
use Rattle.office_script.specs.Words.{bytes_of, texts}
use Rattle.office_script.proofs.Texts.{bytes-more, bytes-none}
use Rattle.office_script.proofs.hexadecimal.bytes.Goals as goal

pub returns-in_default : goal.returns-in_default
returns-in_default c = sym (bytes-none c.args.spelled.now c.loop-word.word-index _ c.loop-word-test.true (sym c.byte.ensures ∙ c.in_default.is))

pub loop-word-preserved : goal.loop-word-preserved
loop-word-preserved c =
    let next : suc c.loop-word.word-index ≡ c.loop-word.word-index + 1 = omega arith in
    subst (λ n. bytes_of (texts (take n c.args.spelled.now)) ≡ Some c.push.new.self.items) next
    (bytes-more c.args.spelled.now c.loop-word.word-index _ c.loop-word.bytes.items c.in-Some.value c.loop-word-test.true c.loop-word.invariant (sym c.byte.ensures ∙ c.in-Some.is) ∙ ap Some (sym c.in_ok-push.ensures.items))
