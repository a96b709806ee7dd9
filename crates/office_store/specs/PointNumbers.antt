-- The numbers that a point's table and role are kept as.
use Rattle.std.specs.Prelude.{ℕ}
use Rattle.mb_pdu.specs.declared.table.Table.{Table}
use Rattle.mb_pdu.specs.declared.table.Table.TheVariants.{Coil, Discrete, Input, Holding}
use Rattle.point_list.specs.declared.point.Role.{Role}
use Rattle.point_list.specs.declared.point.Role.TheVariants.{Gauge, Counter, Setting}

abbrev pub table_number : Table → ℕ
table_number Coil = 1
table_number Discrete = 2
table_number Holding = 3
table_number Input = 4

abbrev pub role_number : Role → ℕ
role_number Gauge = 1
role_number Counter = 2
role_number Setting = 3
