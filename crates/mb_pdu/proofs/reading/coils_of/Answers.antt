use Rattle.std.proofs.Common.{◌<◌, ◌∙◌, ◌∷◌, ◌++◌, ℕ, List, ap, get_or, length, arith}
use Rattle.mb_pdu.specs.Packing.{two, bytes_for}
use Rattle.mb_pdu.proofs.Fronts.{byte_front, word_front, rest_from}
use Rattle.mb_pdu.proofs.reading.coils_of.Goals as goal

pub returns-clause-found : goal.returns-clause-found
returns-clause-found c =
    let body = c.args.body.now in
    let bits = c.bits_of.result in
    let start = c.word_at-start.result in
    let fits : (i : ℕ) → get_or body i 0 < 256 = λ i. omega (arith, c.type_inv.body i) in
    let count = c.bits_of.ensures.count in (
      (omega (arith, count), omega (arith, count)),
      word_front body 0 start fits (omega arith) c.word_at-start.ensures
          ∙ ap (λ (x : List ℕ). two start ++ x) (
          word_front body 2 (length bits) fits (omega arith) (count ∙ c.word_at-quantity.ensures)
          ∙ ap (λ (x : List ℕ). two (length bits) ++ x) (
          byte_front body 4 (bytes_for (length bits)) (omega arith) (omega (arith, count))
          ∙ ap (λ (x : List ℕ). bytes_for (length bits) ∷ x) (rest_from body _ 5 c.bits_of.ensures.text))),
    )
