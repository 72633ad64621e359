use Rattle.std.proofs.Common.{◌∙◌, ◌<◌, length, sym, ap, subst, arith}
use Rattle.std.proofs.lemmas.Grind.{common_steps}
use Rattle.ng_machine.specs.Change.{port_at}
use Rattle.ng_machine.specs.World.{Port}
use Rattle.ng_machine.specs.story.Story.{world_of}
use Rattle.ng_core.specs.CoreStory.{CoreStory, story}
use Rattle.ng_core.specs.Kept.{story_in}
use Rattle.ng_core.proofs.KeptPorts.{kept_count, kept_port}
use Rattle.ng_core.proofs.Reached.{kept_there, story_there}
use Rattle.ng_core.proofs.machine.Core.leaving.Goals as goal

pub index-requires : goal.index-requires
index-requires g c =
    let lt : c.args.port < length c.deref.result.now.ports.items = subst (λ (x : CoreStory). c.args.port < length x.ports) (sym (story_there c.deref.ensures c.self.view_is)) c.requires in
    let count = kept_count c.deref.result.now.state (story (story_in c.deref.result.now)) (kept_there c.deref.ensures c.self.invariant).stands in
    grind (arith, common_steps)

pub returns : goal.returns
returns g c =
    let lt : c.args.port < length c.deref.result.now.ports.items = subst (λ (x : CoreStory). c.args.port < length x.ports) (sym (story_there c.deref.ensures c.self.view_is)) c.requires in
    c.deref-2.ensures.value
    ∙ ap (λ (p : Port). p.leaving) (kept_port c.deref.result.now.state (story (story_in c.deref.result.now)) c.args.port c.index.result.now (kept_there c.deref.ensures c.self.invariant).stands lt c.index.ensures)
    ∙ ap (λ (x : CoreStory). (port_at (world_of (story x)) c.args.port).leaving) (story_there c.deref.ensures c.self.view_is)
