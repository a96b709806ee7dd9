use Rattle.std.proofs.Common.{◌<◌, ◌*◌, ◌∙◌, ◌∷◌, ◌++◌, ℕ, List, ap, get_or, length, arith}
use Rattle.mb_pdu.specs.Packing.{two}
use Rattle.mb_pdu.proofs.Fronts.{byte_front, word_front, rest_from}
use Rattle.mb_pdu.proofs.reading.read_write_of.Goals as goal

pub returns-clause-found : goal.returns-clause-found
returns-clause-found c =
    let body = c.args.body.now in
    let words = c.words_of.result in
    let fits : (i : ℕ) → get_or body i 0 < 256 = λ i. omega (arith, c.type_inv.body i) in
    let count = c.words_of.ensures.count in (
      (omega arith, omega arith),
      (omega (arith, count), omega (arith, count)),
      word_front body 0 c.word_at.result fits (omega arith) c.word_at.ensures
          ∙ ap (λ (x : List ℕ). two c.word_at.result ++ x) (
          word_front body 2 c.word_at-2.result fits (omega arith) c.word_at-2.ensures
          ∙ ap (λ (x : List ℕ). two c.word_at-2.result ++ x) (
          word_front body 4 c.word_at-write_start.result fits (omega arith) c.word_at-write_start.ensures
          ∙ ap (λ (x : List ℕ). two c.word_at-write_start.result ++ x) (
          word_front body 6 (length words) fits (omega arith) (count ∙ c.word_at-quantity.ensures)
          ∙ ap (λ (x : List ℕ). two (length words) ++ x) (
          byte_front body 8 (2 * length words) (omega arith) (omega (arith, count))
          ∙ ap (λ (x : List ℕ). (2 * length words) ∷ x) (rest_from body _ 9 c.words_of.ensures.text))))),
    )
