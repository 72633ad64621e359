use Rattle.std.proofs.Common.{◌≡◌, ◌∙◌, List, sym, ap, subst}
use Rattle.std.specs.declared.option.Option.{Option}
use Rattle.std.specs.declared.option.Option.TheVariants.{Some}
use Rattle.ng_machine.specs.declared.item.Item.{Item}
use Rattle.ng_machine.specs.Body.{is_writer}
use Rattle.ng_machine.specs.Desk.{job_at}
use Rattle.ng_machine.specs.World.{NodeRecord, node_in, node_at, kind_at}
use Rattle.ng_core_state.specs.Handed.{IsJobBy}
use Rattle.ng_core_state.proofs.TakenItems.{least_node, same_some}
use Rattle.ng_core_state.proofs.state.State.pick.Goals as goal

pub least-requires : goal.least-requires
least-requires g c = (c.requires.0, c.requires.1.items)

pub returns-in_default-clause-none : goal.returns-in_default-clause-none
returns-in_default-clause-none g c = λ a S item M. c.in_default.ensures.none a S.items item M

pub returns-clause-tool : goal.returns-clause-tool
returns-clause-tool g c = λ a item node S e here.
    let L = least_node c.args.self.now a c.in-Some.at S c.in-Some.ensures.some in
    let y = same_some c.head.result.now item (sym c.head.ensures ∙ e) in
    let x = same_some L.item c.head.result.now (sym L.head_is ∙ c.head.ensures) in
    let found : node_in c.args.self.now.graph.nodes c.head.result.now.to ≡ Some node =
    ap (λ (l : List (Option NodeRecord)). node_in l c.head.result.now.to) S.graph.nodes ∙ subst (λ (z : Item). node_at a.world z.to ≡ Some node) (sym y) here in
    let same = same_some L.at.node node (sym (subst (λ (z : Item). node_in c.args.self.now.graph.nodes z.to ≡ Some L.at.node) x L.at.here) ∙ found) in
    let mode = subst (λ (r : NodeRecord). c.head.result.now.writer ≡ is_writer (kind_at r) c.head.result.now.body) same (subst (λ (z : Item). z.writer ≡ is_writer (kind_at L.at.node) z.body) x L.at.mode) in
    subst (λ (z : Item). IsJobBy c.tool_for.result z node (job_at z (Some node))) y (c.tool_for.ensures node found mode)
