use Rattle.std.specs.declared.option.Option.TheVariants.{None}
use Rattle.ng_replay.specs.judge.Following.{has_item}
use Rattle.ng_replay.proofs.judge.Parts.{found_passes, found_within, none_found}
use Rattle.ng_replay.proofs.judge.following.seat_of.Goals as goal

pub returns-clause-within : goal.returns-clause-within
returns-clause-within g c = found_within (has_item c.args.id) c.args.held.now c.position_of.result c.position_of.ensures

pub returns-clause-has : goal.returns-clause-has
returns-clause-has g c = found_passes (has_item c.args.id) c.args.held.now None c.position_of.result c.position_of.ensures

pub returns-clause-none : goal.returns-clause-none
returns-clause-none g c = none_found (has_item c.args.id) c.args.held.now c.position_of.result c.position_of.ensures
