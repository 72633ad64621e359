use Rattle.std.proofs.Common.{◌≡◌, true, false, sym, subst}
use Rattle.ng_core_state.specs.declared.handed.Done.{Done}
use Rattle.ng_core_state.specs.Handed.{handed_with, item_done}
use Rattle.ng_machine.specs.Desk.{job_of}
use Rattle.ng_machine.specs.World.{NodeRecord, World, node_at}
use Rattle.ng_machine.specs.story.Work.{IsDone}
use Rattle.std.specs.declared.option.Option.TheVariants.{None, Some}
use Rattle.ng_machine.specs.declared.item.Item.{Item}
use Rattle.ng_machine.specs.declared.outcome.Outcome.{Outcome}
use Rattle.ng_machine.specs.Body.{is_frame}
use Rattle.ng_trace.specs.Endings.{came_of, came_unless}
use Rattle.ng_trace.proofs.Coming.{came_inside}
use Rattle.ng_trace.proofs.looking.came_of.Goals as goal

pub returns-in-Inside : goal.returns-in-Inside
returns-in-Inside g c =
    subst (λ (d : Done g.row.B.Denot). (w : World) (node : NodeRecord) → IsDone (job_of w (item_done d)) (handed_with g.B.Node.state d)
    → node_at w (item_done d).to ≡ Some node → c.came_unworked.result ≡ came_of node (item_done d).body)
    (sym c.in-Inside.is)
    (λ w node done there. came_inside w node c.in-Inside.item c.came_unworked.result there done (subst (λ (i : Item). (out : Outcome) → is_frame i.body ≡ true → c.came_unworked.result ≡ Some (came_unless true out)) c.deref-in-Inside.ensures c.came_unworked.ensures.frame)
    (subst (λ (i : Item). is_frame i.body ≡ false → c.came_unworked.result ≡ None) c.deref-in-Inside.ensures c.came_unworked.ensures.other))
