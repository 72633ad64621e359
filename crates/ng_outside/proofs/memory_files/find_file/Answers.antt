use Rattle.std.proofs.Common.{ap, sym, ◌∙◌}
use Rattle.std.specs.Option.{option_map}
use Rattle.ng_outside.specs.Memory.{file_state}
use Rattle.ng_outside.proofs.Moves.{file_named_map}
use Rattle.ng_outside.proofs.memory_files.find_file.Goals as goal

pub returns : goal.returns
returns c = ap (option_map file_state) c.first_named.ensures ∙ sym (file_named_map c.args.files.now c.args.name.now)
