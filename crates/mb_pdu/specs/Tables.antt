-- The words for the tables of a device.
use Rattle.std.specs.Prelude.{ℕ, List, codes}
use Rattle.mb_pdu.specs.declared.table.Table.{Table}
use Rattle.mb_pdu.specs.declared.table.Table.TheVariants.{Coil, Discrete, Input, Holding}

abbrev pub table_name : Table → List ℕ
table_name Coil = codes "coil"
table_name Discrete = codes "discrete"
table_name Input = codes "input"
table_name Holding = codes "holding"
