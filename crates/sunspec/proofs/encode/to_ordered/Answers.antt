use Rattle.std.proofs.Common.{◌∙◌, List, ℕ, ap, subst, sym, reverse}
use Rattle.std.specs.Int.{w128}
use Rattle.std.proofs.lemmas.Int.{to_z-of_z}
use Rattle.std.proofs.lemmas.Result.{err_from_is_err_and}
use Rattle.sunspec.specs.Value.{AreRegistersOf, AreWords}
use Rattle.sunspec.specs.declared.value.Value.TheVariants.{Number}
use Rattle.sunspec.specs.declared.word_order.WordOrder.TheVariants.{Swapped}
use Rattle.sunspec.proofs.Arranged.{arranged_registers, arranged_words, none_arranged}
use Rattle.sunspec.proofs.encode.to_ordered.Goals as goal
use Rattle.sunspec.proofs.encode.to_ordered.Goals.{in-Big, in-Swapped}

pub returns-in_err-words-clause-none : goal.returns-in_err-words-clause-none
returns-in_err-words-clause-none c =
    let p = err_from_is_err_and c.from_residual.result c.from_residual.ensures.1 in
    let number = to_z-of_z w128 c.args.number c.ranges.number in
    rw p.1 (none_arranged c.args.kind.now c.args.order c.args.number (λ words fits are e. c.in_err-words.ensures.none words fits are (e ∙ ap Number (sym number))))

pub returns-clause-registers : goal.returns-clause-registers
returns-clause-registers c =
    let are = c.in_ok-words.ensures.registers in
    let P : List ℕ → Type 0 = λ words. AreWords words × AreRegistersOf c.args.kind.now words in
    elim c.match-order.branch [
      | in-Big w ↦ subst P (sym w.result-is) are
      | in-Swapped w ↦
          subst P (sym (w.result-is ∙ w.swapped.ensures ∙ ap reverse w.as_slice.ensures.value))
          (arranged_words Swapped c.in_ok-words.words are.0, arranged_registers c.args.kind.now Swapped c.in_ok-words.words are.1)
    ]
