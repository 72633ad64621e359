-- What a command does to the world, once it is known where its address leads.
use Rattle.std.specs.Prelude.{ℕ, codes, [], Option, Some, None, Result, Ok, Err}
use Rattle.ng_base.specs.declared.ids.NodeId.{NodeId}
use Rattle.ng_machine.specs.declared.told.Told.TheVariants.{Help as ToldHelp}
use Rattle.ng_machine.specs.Change.{accept_at, tell}
use Rattle.ng_machine.specs.Errors.{einval, enoent}
use Rattle.ng_machine.specs.Feed.{refuse_line}
use Rattle.ng_machine.specs.Walk.{walk}
use Rattle.ng_machine.specs.World.{World, node_at, own_node}
use Rattle.ng_path.specs.Address.{Address}
use Rattle.ng_core.specs.declared.intake.decided.Decided.{Decided}
use Rattle.ng_core.specs.declared.intake.decided.Decided.TheVariants.{Refuse, Help, Nothing, Accept}
use Rattle.ng_core.specs.declared.intake.leading.Astray.{Astray}
use Rattle.ng_core.specs.declared.intake.leading.Astray.TheVariants.{BadPath, Nowhere}

-- a command is refused with an error and words, is told the usage, does nothing, or is accepted as an item
abbrev pub does : Decided → World → ℕ → World
does (Refuse errno why) w command = refuse_line w command errno why
does Help w command = tell w (ToldHelp command)
does Nothing w command = w
does (Accept to body tag) w command = accept_at w to (node_at w to) body tag w.clock

-- where an address leads from the own node, or why nowhere

abbrev pub or_nowhere : Option NodeId → Result NodeId Astray
or_nowhere None = Err Nowhere
or_nowhere (Some id) = Ok id

abbrev pub led : World → Option Address → Result NodeId Astray
led w None = Err BadPath
led w (Some address) = or_nowhere (walk w own_node address)

abbrev pub refuse_astray : Astray → World → ℕ → World
refuse_astray BadPath w command = refuse_line w command einval (codes "bad path")
refuse_astray Nowhere w command = refuse_line w command enoent []
