-- Those that were looked at have another name.
use Rattle.std.proofs.Common.{◌≡◌, drop, map}
use Rattle.ng_table.specs.Message.{message_of}
use Rattle.ng_table.specs.Table.{find_by_name}
use Rattle.ng_table.proofs.find.find_by_name.Given as goal

abbrev pub invariant-loop-row : goal.invariant-loop-row
invariant-loop-row l = find_by_name (map message_of (drop l.row-index l.rows)) l.name ≡ find_by_name (map message_of l.rows) l.name
