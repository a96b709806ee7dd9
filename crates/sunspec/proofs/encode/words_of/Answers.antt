use Rattle.std.proofs.Common.{◌≡◌, ◌∙◌, ◌-◌, ◌/◌, ◌%◌, ℕ, List, [], ◌∷◌, drop, take, ap, arith}
use Rattle.std.proofs.lemmas.List.{length-drop, take_all}
use Rattle.sunspec.specs.Value.{register_sum}
use Rattle.sunspec.proofs.Encodings.{words-sum}
use Rattle.sunspec.proofs.encode.words_of.Goals as goal

pub returns-clause-sum : goal.returns-clause-sum
returns-clause-sum c =
    let sum : ℕ = c.args.sum in
    let unused : ℕ = 4 - c.args.count in
    let words : List ℕ = sum / 0x1_0000_0000_0000 ∷ sum / 0x1_0000_0000 % 0x1_0000 ∷ sum / 0x1_0000 % 0x1_0000 ∷ sum % 0x1_0000 ∷ [] in
    let part : c.unwrap.result ≡ take (4 - unused) (drop unused words) = rw c.unwrap.ensures at c.from_slice.ensures.value in
    let all : take (4 - unused) (drop unused words) ≡ drop unused words = take_all (4 - unused) (drop unused words) (omega (arith, length-drop unused words)) in
    ap register_sum (part ∙ all) ∙ words-sum sum c.args.count c.requires.some c.requires.few c.requires.fits
