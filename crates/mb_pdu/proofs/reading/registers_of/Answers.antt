use Rattle.std.proofs.Common.{◌<◌, ◌*◌, ◌∙◌, ◌∷◌, ◌++◌, ℕ, List, ap, get_or, length, arith}
use Rattle.mb_pdu.specs.Packing.{two}
use Rattle.mb_pdu.proofs.Fronts.{byte_front, word_front, rest_from}
use Rattle.mb_pdu.proofs.reading.registers_of.Goals as goal

pub returns-clause-found : goal.returns-clause-found
returns-clause-found c =
    let body = c.args.body.now in
    let words = c.words_of.result in
    let start = c.word_at-start.result in
    let fits : (i : ℕ) → get_or body i 0 < 256 = λ i. omega (arith, c.type_inv.body i) in
    let count = c.words_of.ensures.count in (
      (omega (arith, count), omega (arith, count)),
      word_front body 0 start fits (omega arith) c.word_at-start.ensures
          ∙ ap (λ (x : List ℕ). two start ++ x) (
          word_front body 2 (length words) fits (omega arith) (count ∙ c.word_at-quantity.ensures)
          ∙ ap (λ (x : List ℕ). two (length words) ++ x) (
          byte_front body 4 (2 * length words) (omega arith) (omega (arith, count))
          ∙ ap (λ (x : List ℕ). (2 * length words) ∷ x) (rest_from body _ 5 c.words_of.ensures.text))),
    )
