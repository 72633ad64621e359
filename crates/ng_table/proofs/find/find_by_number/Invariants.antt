-- Those that were looked at have another number.
use Rattle.std.proofs.Common.{◌≡◌, drop, map}
use Rattle.ng_table.specs.Message.{message_of}
use Rattle.ng_table.specs.Table.{find_by_number}
use Rattle.ng_table.proofs.find.find_by_number.Given as goal

abbrev pub invariant-loop-row : goal.invariant-loop-row
invariant-loop-row l = find_by_number (map message_of (drop l.row-index l.rows)) l.number ≡ find_by_number (map message_of l.rows) l.number
