use Rattle.std.proofs.Common.{◌+◌, ◌≤◌, sym, subst}
use Rattle.std.specs.declared.option.Option.{Option}
use Rattle.ng_machine.specs.declared.hook.Hook.{Hook}
use Rattle.ng_machine.specs.Change.{most_frames}
use Rattle.ng_queue.specs.tie.TieLaws.{one}
use Rattle.ng_core_state.specs.Room.{goes_on}
use Rattle.ng_core_state.proofs.state.State.post.Goals as goal

pub returns-in-Some-clause-frames : goal.returns-in-Some-clause-frames
returns-in-Some-clause-frames g c = λ k le.
    c.send.ensures.frames k
    (subst (λ (o : Option Hook). most_frames ≤ c.args.self.now.pending.tally.frames + (one (goes_on c.args.self.now.graph.nodes o) + k)) (sym c.in-Some.ensures) le)
