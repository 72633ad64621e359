use Rattle.std.proofs.Common.{ℕ, List, subst, arith}
use Rattle.ng_machine.specs.declared.input.Input.TheVariants.{Packet}
use Rattle.std.specs.declared.option.Option.TheVariants.{Some}
use Rattle.ng_machine.specs.Feed.{feed_next}
use Rattle.ng_queue.specs.pending.Holds.{in_world}
use Rattle.ng_core_state.specs.Stands.{Stands}
use Rattle.ng_core.proofs.intake.Numbers.{low_numbers}
use Rattle.ng_core.proofs.intake.Ports.{few_fed}
use Rattle.ng_core.proofs.intake.feeding.feed_packet.Goals as goal

pub feed_packet-requires-clause-ports : goal.feed_packet-requires-clause-ports
feed_packet-requires-clause-ports g c κs within = λ kept e.
    let W = c.requires.standing in few_fed c.widen.new.state W.0 c.args.port kept (c.widen.ensures.stands W.0 W.1) W.2 e

pub feed_packet-requires-clause-numbers : goal.feed_packet-requires-clause-numbers
feed_packet-requires-clause-numbers g c κs within =
    let W = c.requires.standing in low_numbers c.widen.new.state W.0 1 (c.widen.ensures.stands W.0 W.1) W.2 (omega arith)

pub returns-clause-fed : goal.returns-clause-fed
returns-clause-fed g c = λ a given S.
    subst (λ (packet : List ℕ). Stands c.feed_packet.new.self (in_world a (feed_next given a.world (Some (Packet c.args.port c.args.stamp packet))))) c.in_ok-packet.ensures
    (c.feed_packet.ensures a given (c.widen.ensures.stands a S))
