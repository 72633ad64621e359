use Rattle.std.proofs.Common.{◌≡◌, ◌∙◌, ℕ, suc, ◌+◌, List, [], ◌∷◌, ◌++◌, map, true, false, sym, ap, arith}
use Rattle.std.proofs.lemmas.List.{take_all}
use Rattle.std.proofs.Math.Seq.{take-suc}
use Rattle.std.specs.Prelude.{take, is_some, if◌then◌else◌}
use Rattle.std.specs.declared.option.Option.{Option}
use Rattle.std.specs.declared.option.Option.TheVariants.{Some}
use Rattle.ng_base.specs.declared.ids.NodeId.{NodeId}
use Rattle.ng_base.specs.declared.kind.Kind.TheVariants.{Ether, Socket}
use Rattle.ng_machine.specs.State.{kind_of}
use Rattle.ng_machine.specs.Stock.{has_kind}
use Rattle.ng_machine.specs.World.{blank_node, find_named}
use Rattle.ng_topology.specs.Topology.{Topology, make_node}
use Rattle.ng_core.specs.Beginning.{start_graph}
use Rattle.ng_core.proofs.Beginnings.{nobody_named, started_more}
use Rattle.ng_core.proofs.Starting.{ether_left}
use Rattle.ng_core.proofs.making.begin_graph.Goals as goal

pub loop-port-init : goal.loop-port-init
loop-port-init g c = c.in_ok-make_named.ensures ∙ ap (λ (t : Topology). make_node t Socket (blank_node (Some c.args.own) Socket)) c.in_ok-graph.ensures

pub make_named-requires-clause-there : goal.make_named-requires-clause-there
make_named-requires-clause-there g c κs within = ap (λ (t : Topology). has_kind t.stock Socket) c.in_ok-graph.ensures ∙ c.requires.boxes.socket

pub make_named-requires-in-loop-port-clause-there : goal.make_named-requires-in-loop-port-clause-there
make_named-requires-in-loop-port-clause-there g c κs within =
    let kinds = map (λ b. kind_of (g.B.Node.state b)) c.args.stock.items in
    ap (λ (t : Topology). has_kind t.stock Ether) c.loop-port.invariant
    ∙ ether_left c.args.own c.args.ports.now kinds c.loop-port.port-index c.requires.boxes c.loop-port-test.true

pub make_named-requires-in-loop-port-clause-free : goal.make_named-requires-in-loop-port-clause-free
make_named-requires-in-loop-port-clause-free g c κs within =
    let kinds = map (λ b. kind_of (g.B.Node.state b)) c.args.stock.items in
    ap (λ (t : Topology). if is_some (find_named 0 c.port-item.result t.nodes) then false else true) c.loop-port.invariant
    ∙ ap (λ (x : List ℕ). if is_some (find_named 0 x (start_graph c.args.own (take c.loop-port.port-index c.args.ports.now) kinds).nodes) then false else true) c.port-item.is
    ∙ ap (λ (o : Option NodeId). if is_some o then false else true) (nobody_named c.args.own c.args.ports.now c.loop-port.port-index c.port-item.result kinds c.requires.names c.loop-port-test.true)

pub loop-port-preserved : goal.loop-port-preserved
loop-port-preserved g c =
    let kinds = map (λ b. kind_of (g.B.Node.state b)) c.args.stock.items in
    c.in_ok-make_named-2.ensures
    ∙ ap (λ (t : Topology). make_node t Ether (blank_node (Some c.port-item.result) Ether)) c.loop-port.invariant
    ∙ started_more c.args.own (take c.loop-port.port-index c.args.ports.now) c.port-item.result kinds
    ∙ ap (λ (x : List ℕ). start_graph c.args.own (take c.loop-port.port-index c.args.ports.now ++ x ∷ []) kinds) c.port-item.is
    ∙ ap (λ (l : List (List ℕ)). start_graph c.args.own l kinds) (sym (take-suc c.args.ports.now c.loop-port.port-index c.port-item.result c.loop-port-test.true))
    ∙ ap (λ (n : ℕ). start_graph c.args.own (take n c.args.ports.now) kinds) (let e : suc c.loop-port.port-index ≡ c.loop-port.port-index + 1 = omega arith in e)

pub returns : goal.returns
returns g c =
    let kinds = map (λ b. kind_of (g.B.Node.state b)) c.args.stock.items in
    c.loop-port.invariant ∙ ap (λ (l : List (List ℕ)). start_graph c.args.own l kinds) (take_all c.loop-port.port-index c.args.ports.now (let f = c.loop-port-test.false in omega arith))
