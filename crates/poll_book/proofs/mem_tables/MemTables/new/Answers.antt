use Rattle.std.proofs.Common.{rules}
use Rattle.poll_book.proofs.mem_tables.MemTables.new.Goals as goal

pub invariant_of-result : goal.invariant_of-result
invariant_of-result c = record {
  counted = search rules;
  ordered = search rules;
  by_point = search rules;
  rising = search rules;
  right = c.new-6.ensures c.new.result.items c.new-5.result.items;
}
