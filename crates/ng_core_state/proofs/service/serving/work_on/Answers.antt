use Rattle.std.proofs.Common.{◌≡◌, ◌∙◌, sym, ap, refl}
use Rattle.std.specs.declared.option.Option.TheVariants.{Some}
use Rattle.ng_queue.specs.Queue.{head}
use Rattle.ng_queue.specs.Queues.{list_at}
use Rattle.ng_core_state.specs.declared.state.State.{State}
use Rattle.ng_core_state.proofs.service.NextReads.{head_frame, head_job}
use Rattle.ng_core_state.proofs.service.serving.work_on.Goals as goal
use Rattle.ng_core_state.proofs.service.serving.work_on.Goals.{After-head-head}

-- the head is the one that was there before the plan was asked for
first : (g : _) (c : After-head-head g) → head (list_at c.args.state.now.pending.queues.lists c.args.at) ≡ Some c.head-head.result.now
first g c = ap (λ (s : State g.row.B.Denot). head (list_at s.pending.queues.lists c.args.at)) (sym c.plan_at.ensures.same) ∙ c.head-head.ensures

pub evaluate_into-requires-clause-frame : goal.evaluate_into-requires-clause-frame
evaluate_into-requires-clause-frame g c =
    let at = (goal.at.evaluate_into-requires-clause-frame g c).After-head-head in
    head_frame c.args.state.now c.requires.standing.0 c.args.at c.head-head.result.now c.requires.standing.1 c.requires.least (first g at) c.requires.job

pub returns-clause-work : goal.returns-clause-work
returns-clause-work g c = λ a S.
    let item = c.head-head.result.now in
    let first = first g ((goal.at.returns-clause-work g c).After-head-head) in
    record {
      item = item;
      first = first;
      number = refl;
      plan = c.deref.result.now;
      job = head_job c.args.state.now a c.args.at item c.deref.result.now S c.requires.least first c.requires.job
          (λ node here. c.in_ok-plan.ensures.plan a item node S first here ∙ ap Some (sym c.deref.ensures));
      evaluated = c.in_ok-evaluate_into.ensures;
    }
