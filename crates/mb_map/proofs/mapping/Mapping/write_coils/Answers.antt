use Rattle.std.proofs.Common.{◌≡◌, ◌∙◌, length, map, take, arith}
use Rattle.std.proofs.lemmas.List.{get_or-take, length-take-le}
use Rattle.mb_map.specs.Tables.{Tables, written}
use Rattle.mb_map.proofs.Perform.{coils_done}
use Rattle.mb_map.specs.Device.{number_of}
use Rattle.mb_map.proofs.BitCells.{bits_put, numbers_again}
use Rattle.mb_map.proofs.mapping.Mapping.write_coils.Goals as goal

pub invariant_of-self : goal.invariant_of-self
invariant_of-self c =
    let bits = c.args.bits.now in
    let all = c.loop-k.numbers in
    let count : length (take (length bits) all) ≡ length bits = length-take-le (length bits) all (omega arith) in
    let same : take (length bits) all ≡ map number_of bits = numbers_again bits (take (length bits) all) count (λ k lt. get_or-take (length bits) all k 0 lt ∙ c.loop-k.invariant.1 k (omega arith)) in
    (bits_put c.put.result c.self.inside.coils c.put.new.self c.args.start bits (rw same at c.put.ensures.done) c.put.ensures.refused c.self.invariant.0, c.self.invariant.1)

pub returns-clause-done : goal.returns-clause-done
returns-clause-done c =
    let bits = c.args.bits.now in
    let all = c.loop-k.numbers in
    let count : length (take (length bits) all) ≡ length bits = length-take-le (length bits) all (omega arith) in
    let same : take (length bits) all ≡ map number_of bits = numbers_again bits (take (length bits) all) count (λ k lt. get_or-take (length bits) all k 0 lt ∙ c.loop-k.invariant.1 k (omega arith)) in
    let before : Tables = record { coils = c.self.inside.coils; discrete = c.self.inside.discrete; input = c.self.inside.input; holding = c.self.inside.holding } in
    rw (← c.self.view_is) (coils_done c.put.result before c.put.new.self (written c.args.start (map number_of bits) c.self.inside.coils) (rw same at c.put.ensures.done))
