use Rattle.std.proofs.Common.{◌≡◌, ◌∙◌, ◌<◌, ℕ, length, sym, ap, subst, arith}
use Rattle.std.proofs.lemmas.Grind.{common_steps}
use Rattle.std.specs.Prelude.{vec_len}
use Rattle.ng_machine.specs.declared.totals.PortTotals.{PortTotals}
use Rattle.ng_machine.specs.Change.{port_at}
use Rattle.ng_machine.specs.Totals.{port_totals_of}
use Rattle.ng_machine.specs.story.Story.{world_of}
use Rattle.ng_core.specs.CoreStory.{CoreStory, story}
use Rattle.ng_core.specs.Kept.{story_in}
use Rattle.ng_core.proofs.KeptPorts.{kept_count, kept_port}
use Rattle.ng_core.proofs.Reached.{kept_there, story_there}
use Rattle.ng_core.proofs.machine.Core.port.Goals as goal

pub index-port-requires : goal.index-port-requires
index-port-requires g c =
    let lt : c.args.port < length c.deref.result.now.ports.items = subst (λ (x : CoreStory). c.args.port < length x.ports) (sym (story_there c.deref.ensures c.self.view_is)) c.requires in
    let count = kept_count c.deref.result.now.state (story (story_in c.deref.result.now)) (kept_there c.deref.ensures c.self.invariant).stands in
    grind (arith, common_steps)

pub returns : goal.returns
returns g c =
    let count : vec_len c.index-port.result.now.leaving ≡ length c.index-port.result.now.leaving.items = grind (arith, common_steps) in
    let lt : c.args.port < length c.deref.result.now.ports.items = subst (λ (x : CoreStory). c.args.port < length x.ports) (sym (story_there c.deref.ensures c.self.view_is)) c.requires in
    ap (λ (n : ℕ). let t : PortTotals = record { fed = c.index-port.result.now.fed; left = n; up = c.index-port.result.now.up } in t) (c.len.ensures ∙ count)
    ∙ ap port_totals_of (kept_port c.deref.result.now.state (story (story_in c.deref.result.now)) c.args.port c.index-port.result.now (kept_there c.deref.ensures c.self.invariant).stands lt c.index-port.ensures)
    ∙ ap (λ (x : CoreStory). port_totals_of (port_at (world_of (story x)) c.args.port)) (story_there c.deref.ensures c.self.view_is)
