use Rattle.std.proofs.Common.{◌≡◌, ◌∙◌, Bool, true, false, nat_lt, if◌then◌else◌, sym, ap}
use Rattle.std.specs.declared.option.Option.TheVariants.{None, Some}
use Rattle.ng_base.specs.declared.ids.NodeId.{NodeId}
use Rattle.ng_machine.specs.World.{port_node}
use Rattle.ng_machine.specs.Spread.{fed_flight}
use Rattle.ng_forecast.proofs.bag.flight_of.Goals as goal

node_some : (test : Bool) (x y : NodeId) → Some y ≡ (if test then Some x else None) → y ≡ x
node_some true x y e = cc e
node_some false x y e = absurd (cc e)

pub returns : goal.returns
returns g c =
    c.fed.ensures c.args.arrival.now.port
    (node_some (nat_lt c.args.arrival.now.port c.args.still.now.ports) (port_node c.args.arrival.now.port) c.in-Some.to (sym c.in-Some.is ∙ c.port.ensures))
    ∙ ap (fed_flight c.args.arrival.now.port) c.in_ok-again.ensures
