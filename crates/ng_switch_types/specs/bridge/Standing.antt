-- How the source of a frame stands, as the code has it.
use Rattle.ng_machine.specs.kinds.Bridge as machine
use Rattle.ng_switch_types.specs.declared.bridge.standing.Standing.{Standing}
use Rattle.ng_switch_types.specs.declared.bridge.standing.Standing.TheVariants.{Known, Looped, News, Crowded}

abbrev pub standing_of : Standing → machine.Standing
standing_of Known = machine.Known
standing_of Looped = machine.Looped
standing_of News = machine.News
standing_of Crowded = machine.Crowded
