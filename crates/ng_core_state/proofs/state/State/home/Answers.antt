use Rattle.std.proofs.Common.{◌∙◌, List, ap, refl}
use Rattle.std.specs.declared.option.Option.{Option}
use Rattle.ng_machine.specs.World.{NodeRecord, node_in}
use Rattle.ng_core_state.proofs.BoxesHome.{stands_home}
use Rattle.ng_core_state.proofs.state.State.home.Goals as goal

pub returns-clause-stands : goal.returns-clause-stands
returns-clause-stands g c = λ a node S here.
    let fits = c.requires.fits node (ap (λ (l : List (Option NodeRecord)). node_in l c.args.at) S.graph.nodes ∙ here) in
    stands_home c.args.self.now _ a c.args.at node (g.B.Node.state c.args.node) S here fits.kind c.give.ensures refl refl refl
