use Rattle.std.proofs.Common.{List, Option, sym, ap, ◌∙◌, subst, arith}
use Rattle.ng_message.specs.declared.message.Msg.{Msg as Message}
use Rattle.ng_machine.specs.declared.body.Body.TheVariants.{Msg}
use Rattle.ng_machine.specs.Change.{Accepts, change}
use Rattle.ng_machine.specs.Generic.{answer, answer_bytes, answer_to}
use Rattle.ng_machine.specs.World.{NodeRecord, World}
use Rattle.ng_queue.specs.pending.Holds.{done_from, in_world}
use Rattle.ng_queue.specs.tally.Tally.{HasNumbers}
use Rattle.ng_topology.specs.Topology.{world_of}
use Rattle.ng_core_state.specs.Stands.{Stands}
use Rattle.ng_core_apply.specs.orders.Asked.{message_of, question_of}
use Rattle.ng_core_state.specs.step.Steps.{world_at}
use Rattle.ng_core_apply.proofs.orders.Told.{by_nodes}
use Rattle.ng_core_state.proofs.step.Stepping.{node_here, numbers, stepped}
use Rattle.ng_core_apply.proofs.orders.answering.apply_question.Goals as goal

pub finish_accepted-requires-clause-numbers : goal.finish_accepted-requires-clause-numbers
finish_accepted-requires-clause-numbers g c κs within =
    let W = c.requires.work in subst (HasNumbers 2) (sym c.widen.ensures.tally) (numbers c.args.state.now W.0 2 W.1.1.stands W.1.1.low (omega arith))

pub returns-clause-applied : goal.returns-clause-applied
returns-clause-applied g c = λ a node I.
    let wd : World = world_at a c.args.item in
    let here = node_here c.args.state.now c.args.item a node (answer c.args.item (message_of c.args.sender c.args.header) (answer_bytes (wd) c.args.item.to node (question_of c.args.question))) I in
    let bytes = c.in-Ok.ensures node here ∙ ap (λ (l : List (Option NodeRecord)). answer_bytes (world_of l) c.args.item.to node (question_of c.args.question)) I.stands.graph.nodes ∙ by_nodes wd c.args.item.to node (question_of c.args.question) in
    let msg = c.in-Ok-answer_with.ensures ∙ ap (answer_to c.args.item.to (message_of c.args.sender c.args.header)) bytes in
    stepped c.args.state.now c.finish_accepted.new.state c.args.item a node (answer c.args.item (message_of c.args.sender c.args.header) (answer_bytes (wd) c.args.item.to node (question_of c.args.question))) I
    (subst (λ (m : Message). Stands c.finish_accepted.new.state (in_world (done_from a c.args.item) (change c.args.item.to c.args.item.stamp wd (Accepts c.args.sender (Msg m) c.args.item.tag)))) msg
    (c.finish_accepted.ensures a (c.widen.ensures.stands a I.stands) I.at.out))
