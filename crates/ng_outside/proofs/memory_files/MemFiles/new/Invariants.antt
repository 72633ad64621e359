use Rattle.std.proofs.Common.{◌≡◌, ℕ, ◌<◌, map, get_or}
use Rattle.ng_outside.specs.declared.memory_files.MemFile.{MemFile}
use Rattle.ng_outside.specs.Memory.{file_state, FitRooms, HasRoom}
use Rattle.ng_outside.proofs.memory_files.MemFiles.new.Given as goal

abbrev pub invariant-loop-i : goal.invariant-loop-i
invariant-loop-i l = record {
  same : map file_state l.files.items ≡ map file_state l.fn.initial.items;
  fits : FitRooms l.files.items;
  room : (k : ℕ) (d : MemFile) → k < l.i → HasRoom (get_or l.files.items k d);
}
