use Rattle.std.proofs.Common.{◌≡◌, ◌++◌, map, length}
use Rattle.ng_machine.specs.declared.input.Input.TheVariants.{Command}
use Rattle.ngctl_script.specs.feed.Dealing.{due, left}
use Rattle.ngctl_script.proofs.feed.commands.Commands.feed_turn.Given as goal

abbrev pub invariant-loop-self : goal.invariant-loop-self
invariant-loop-self l = record {
  inputs : l.inputs.items ++ map (λ timed. Command timed.1) (due l.packets l.now l.self) ≡ l.initial.inputs.items ++ map (λ timed. Command timed.1) (due l.packets l.now l.initial.self);
  rest : left l.packets l.now l.self ≡ left l.packets l.now l.initial.self;
}

abbrev pub decreases-loop-self : goal.decreases-loop-self
decreases-loop-self l = length l.self
