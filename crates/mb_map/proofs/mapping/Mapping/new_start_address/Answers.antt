use Rattle.mb_map.proofs.BitCells.{bits_zeros}
use Rattle.mb_map.proofs.mapping.Mapping.new_start_address.Goals as goal

pub invariant_of-result : goal.invariant_of-result
invariant_of-result c = rw (c.in_ok-zeroed.ensures.made, c.in_ok-zeroed-2.ensures.made) (bits_zeros c.args.start_bits c.args.nb_bits, bits_zeros c.args.start_input_bits c.args.nb_input_bits)
