use Rattle.std.proofs.Common.{◌∙◌, List, ap, refl}
use Rattle.std.specs.declared.option.Option.{Option}
use Rattle.ng_machine.specs.World.{NodeRecord, node_in}
use Rattle.ng_core_state.proofs.service.NextReads.{head_frame, head_job}
use Rattle.ng_core_state.proofs.service.serving.work_by_kept_plan.Goals as goal

pub evaluate_into-requires-clause-frame : goal.evaluate_into-requires-clause-frame
evaluate_into-requires-clause-frame g c =
    head_frame c.args.state.now c.requires.standing.0 c.args.at c.head-head.result.now c.requires.standing.1 c.requires.least c.head-head.ensures c.requires.job

pub returns-clause-work : goal.returns-clause-work
returns-clause-work g c = λ a S.
    let item = c.head-head.result.now in record {
      item = item;
      first = c.head-head.ensures;
      number = refl;
      plan = c.in-Some.plan.now;
      job = head_job c.args.state.now a c.args.at item c.in-Some.plan.now S c.requires.least c.head-head.ensures c.requires.job
          (λ node here. c.in-Some.ensures node (ap (λ (l : List (Option NodeRecord)). node_in l item.to) S.graph.nodes ∙ here));
      evaluated = c.in_ok-evaluate_into.ensures;
    }
