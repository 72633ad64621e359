use Rattle.std.proofs.Common.{◌≡◌, sym, subst}
use Rattle.std.specs.Prelude.{OnOk}
use Rattle.ng_core.specs.CoreStory.{story}
use Rattle.ng_core.proofs.OpenStories.{open_story}
use Rattle.ng_core_state.specs.Handed.{item_done}
use Rattle.ng_machine.specs.story.Story.{run_state_of, world_of}
use Rattle.ng_workers.specs.pool.Workable.{IsWorkable}
use Rattle.ng_workers.proofs.pool.WorkableJobs.{jobs_are_workable}
use Rattle.ng_trace.specs.Watched.{Watched}
use Rattle.ng_trace.proofs.Applied.{done_now, known_queue, noted_as, working}
use Rattle.ng_trace.proofs.following.finish.Goals as goal

pub work-requires-after_bounds : goal.work-requires-after_bounds
work-requires-after_bounds g c κs within =
    subst IsWorkable (sym c.requires.own) (jobs_are_workable (story c.args.core.now) c.args.seat c.know_story.ensures.sound c.know_story.ensures.fits (open_story (story c.args.core.now) c.requires.running))

pub look-requires-clause-there : goal.look-requires-clause-there
look-requires-clause-there g c κs within =
    let s = story c.args.core.now in
    known_queue c.state.result.now (run_state_of s) (item_done c.in-Ok.done) c.state.ensures
    (working g.B.Node.state s c.args.seat c.args.taken c.in-Ok.done c.know_story.ensures.sound c.requires.running c.requires.own c.in-Ok.ensures.done).pending

pub returns-clause-watched : goal.returns-clause-watched
returns-clause-watched g c =
    let s = story c.args.core.now in
    let now = done_now g.B.Node.state s c.args.seat c.args.taken c.in-Ok.done c.know_story.ensures.sound c.requires.running c.requires.own c.in-Ok.ensures.done in
    let same = noted_as g.B.Node.state s c.args.seat c.args.taken c.in-Ok.done c.know_story.ensures.sound c.requires.running c.requires.own c.in-Ok.ensures.done
    c.state.result.now (world_of (story c.apply.new.self)) c.args.watched.now c.state.ensures in
    subst (λ (t : Watched). OnOk c.note_seen.result (c.note_seen.new.watched ≡ t)) (sym same)
    (c.note_seen.ensures (run_state_of s) (run_state_of (story c.apply.new.self)) (item_done c.in-Ok.done) (c.in_ok-seen.ensures (run_state_of s) c.state.ensures now) c.state-2.ensures)
