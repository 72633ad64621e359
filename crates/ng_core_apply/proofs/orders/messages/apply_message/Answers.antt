use Rattle.std.proofs.Common.{not, sym, ap, ◌∙◌}
use Rattle.ng_machine.specs.declared.body.Body.TheVariants.{Msg}
use Rattle.ng_machine.specs.Effect.{AnAnswer, AnOrder, Foreign}
use Rattle.ng_machine.specs.asking.Orders.{read_as}
use Rattle.ng_core_apply.specs.orders.Classes.{changes_as_read, class_as}
use Rattle.ng_core_apply.proofs.orders.Classed.{answer_step, class_here, class_step, if_ok, left_by, order_writes, read_became}
use Rattle.ng_core_apply.proofs.orders.InsideSteps.{inside_home}
use Rattle.ng_core_apply.proofs.orders.messages.apply_message.Goals as goal

pub apply_read-requires-clause-home : goal.apply_read-requires-clause-home
apply_read-requires-clause-home g c κs within = λ e.
    let W = c.requires.work in
    inside_home c.args.state.now c.args.item W.0 W.1.0 (Msg c.in-Msg.msg) W.1.1 c.in-Msg.is (λ kind. ap not (order_writes c.in-Msg.msg.header.cmd c.in-Msg.msg.args (ap changes_as_read (sym c.read_order-read.ensures.order) ∙ e))) c.requires.leaves

pub returns-in_ok-apply_answer-in-Answer-clause-became : goal.returns-in_ok-apply_answer-in-Answer-clause-became
returns-in_ok-apply_answer-in-Answer-clause-became g c = λ a node I.
    let of = class_here c.args.state.now c.args.item a node c.kind.result c.in-Some.kind c.in-Msg.msg AnAnswer (class_as c.class_of.result) I c.kind.ensures c.in-Some.is c.class_of.ensures (ap class_as c.in-Answer.is) in
    (left_by node c.args.item c.in-Msg.msg AnAnswer c.in-Msg.is of, c.in_ok-apply_answer-in-Answer.ensures.applied a node (answer_step c.args.state.now c.args.item a node c.in-Msg.msg I c.in-Msg.is of))

pub returns-in_ok-apply_refusal-in-Foreign-clause-became : goal.returns-in_ok-apply_refusal-in-Foreign-clause-became
returns-in_ok-apply_refusal-in-Foreign-clause-became g c = λ a node I.
    let of = class_here c.args.state.now c.args.item a node c.kind.result c.in-Some.kind c.in-Msg.msg Foreign (class_as c.class_of.result) I c.kind.ensures c.in-Some.is c.class_of.ensures (ap class_as c.in-Foreign.is) in
    (left_by node c.args.item c.in-Msg.msg Foreign c.in-Msg.is of, c.in_ok-apply_refusal-in-Foreign.ensures.applied a node (class_step c.args.state.now c.args.item a node c.in-Msg.msg Foreign I c.in-Msg.is of))

pub returns-in-Order-clause-became : goal.returns-in-Order-clause-became
returns-in-Order-clause-became g c = if_ok c.apply_read.result
    (λ inside R. read_became c.args.state.now c.apply_read.new.state c.args.item c.in-Msg.msg (read_as c.read_order-read.result) inside c.in-Msg.is (λ a node I. class_here c.args.state.now c.args.item a node c.kind.result c.in-Some.kind c.in-Msg.msg AnOrder (class_as c.class_of.result) I c.kind.ensures c.in-Some.is c.class_of.ensures (ap class_as c.in-Order.is)) (sym c.read_order-read.ensures.order) R)
    c.apply_read.ensures.became
