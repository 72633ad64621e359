use Rattle.std.proofs.Common.{◌≡◌, true, rules}
use Rattle.std.specs.declared.option.Option.TheVariants.{Some}
use Rattle.ng_machine.specs.Case.{eval}
use Rattle.ng_machine.specs.Effect.{door_name}
use Rattle.ng_machine.specs.Spread.{Comes, fate, is_followed, leaving}
use Rattle.ng_machine.specs.State.{way_of}
use Rattle.ng_machine.specs.World.{state_of}
use Rattle.ng_forecast.proofs.spread.Ways.{comes_is}
use Rattle.ng_forecast.specs.spread.Following.{sent_from}
use Rattle.ng_forecast.proofs.spread.fate.find_fate.Goals as goal

pub returns-clause-found : goal.returns-clause-found
returns-clause-found g c =
    let nodes = c.args.still.now.nodes in
    let f = c.args.flight.now in
    let plan = c.in-Some-plan.plan.now in
    let out = eval plan f.door f.packet in
    let followed : is_followed c.in-Some.kind ≡ true = search rules in
    let way : way_of (state_of c.in-Some.ensures.there.node) ≡ Some plan = search rules in
    let told : fate nodes f ≡ Comes (leaving f.to (door_name f.door) out.leaves) (sent_from nodes f.to out.sends) =
    comes_is nodes f c.in-Some.kind plan c.in-Some.ensures.there followed way in
    let sends : c.take_sends-sends.result.items ≡ out.sends = search rules in
    (leaving f.to (door_name f.door) out.leaves, rw sends told, search rules)
