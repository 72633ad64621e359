use Rattle.std.proofs.Common.{◌≡◌, ◌∙◌, sym, ap, subst}
use Rattle.std.specs.declared.option.Option.TheVariants.{Some}
use Rattle.ng_machine.specs.declared.item.Item.{Item}
use Rattle.ng_machine.specs.Run.{RunState}
use Rattle.ng_queue.specs.Queue.{head}
use Rattle.ng_queue.specs.Queues.{list_at}
use Rattle.ng_core_state.specs.declared.state.State.{State}
use Rattle.ng_core_state.specs.Stands.{Stands}
use Rattle.ng_core_state.proofs.service.NextReads.{head_read, next_is}
use Rattle.ng_core_state.proofs.service.serving.serve.Goals as goal
use Rattle.ng_core_state.proofs.service.serving.serve.Goals.{In_ok-id}

-- after the work on the head what is kept is as it was
stands_still : (g : _) (c : In_ok-id g) (a : RunState) → Stands c.args.state.now a → Stands c.work_on.new.state a
stands_still g c a S = subst (λ (s : State g.row.B.Denot). Stands s a) (sym c.work_on.ensures.same) S

first_still : (g : _) (c : In_ok-id g) (item : Item) → head (list_at c.args.state.now.pending.queues.lists c.in-Some.at) ≡ Some item → head (list_at c.work_on.new.state.pending.queues.lists c.in-Some.at) ≡ Some item
first_still g c item e = ap (λ (s : State g.row.B.Denot). head (list_at s.pending.queues.lists c.in-Some.at)) c.work_on.ensures.same ∙ e

pub serve_read-requires-clause-work : goal.serve_read-requires-clause-work
serve_read-requires-clause-work g c κs within =
    let at = (goal.at.serve_read-requires-clause-work g c).In_ok-id in
    let a = c.requires.work.0 in
    let S = c.requires.work.1 in
    let W = c.in_ok-id.ensures.work a S in
    let H = head_read c.args.state.now a c.in-Some.at W.item W.plan c.work_on.new.outcome S c.in-Some.ensures.least W.first W.job W.evaluated in
    (a, W.item, H.0, stands_still g at a S, first_still g at W.item W.first, H.1, c.requires.work.2, H.2)

pub returns-clause-served : goal.returns-clause-served
returns-clause-served g c = λ a S L.
    let at = (goal.at.returns-clause-served g c).In_ok-id in
    let W = c.in_ok-id.ensures.work a S in
    let H = head_read c.args.state.now a c.in-Some.at W.item W.plan c.work_on.new.outcome S c.in-Some.ensures.least W.first W.job W.evaluated in
    record {
      item = W.item;
      number = W.number;
      next = next_is c.args.state.now a c.in-Some.at W.item S c.in-Some.ensures.least W.first;
      plan = W.plan;
      job = W.job;
      stands = c.in_ok-serve_read.ensures.served a W.item H.0 (stands_still g at a S) (first_still g at W.item W.first) H.1 L H.2;
    }
