use Rattle.std.proofs.Common.{◌≡◌, ◌∙◌, inr, refl, sym, ap, subst}
use Rattle.ng_machine.specs.declared.item.Item.{Item}
use Rattle.ng_machine.specs.Desk.{job_at}
use Rattle.ng_core_state.specs.declared.handed.Work.{Work}
use Rattle.ng_core_state.specs.Stands.{Stands}
use Rattle.ng_queue.specs.pending.Holds.{with_untaken}
use Rattle.ng_topology.specs.Topology.{Topology, give_box, is_home}
use Rattle.ng_core_state.specs.Handed.{item_of}
use Rattle.ng_core.specs.Away.{IsAwayWith}
use Rattle.ng_core.proofs.PutBack.{home_restored, may_leave, not_read, not_within, stands_restored, written_state}
use Rattle.ng_core.proofs.taking.put_back.Goals as goal
use Rattle.ng_core.proofs.taking.put_back.Goals.{After-restore}

-- the box is back at the item's node
restored : (g : _) (c : After-restore g) → c.restore.new.self ≡ give_box c.args.state.now.graph c.in-Write.item.to (g.B.Node.state c.in-Write.node)
restored g c = subst (λ (x : Item). c.restore.new.self ≡ give_box c.args.state.now.graph x.to (g.B.Node.state c.in-Write.node)) c.deref.ensures c.restore.ensures

pub back-requires-clause-leaves : goal.back-requires-clause-leaves
back-requires-clause-leaves g c κs within =
    let A = subst (IsAwayWith g.B.Node.state c.requires.work.0) c.in-Read.is c.requires.work.2 in
    may_leave c.args.state.now c.requires.work.0 c.in-Read.item _ c.requires.work.1 A.out.0 A.alone A.job (λ state e. not_read c.in-Read.item c.in-Read.item _ state e)

pub back-requires-in-Write-clause-out : goal.back-requires-in-Write-clause-out
back-requires-in-Write-clause-out g c κs within =
    let a = c.requires.work.0 in
    let S = c.requires.work.1 in
    let A = subst (IsAwayWith g.B.Node.state a) c.in-Write.is c.requires.work.2 in
    let t = S.there c.in-Write.item A.out.0 in
    let is = written_state c.in-Write.item t.0 (g.B.Node.state c.in-Write.node) (ap (job_at c.in-Write.item) (sym t.1) ∙ A.job) in
    (a, stands_restored c.args.state.now (record c.args.state.now { graph = c.restore.new.self }) a c.in-Write.item.to t.0 (g.B.Node.state c.in-Write.node) S t.1 is (restored g (goal.at.back-requires-in-Write-clause-out g c).After-restore) refl refl refl, A.out)

pub back-requires-in-Write-clause-leaves : goal.back-requires-in-Write-clause-leaves
back-requires-in-Write-clause-leaves g c κs within =
    let a = c.requires.work.0 in
    let S = c.requires.work.1 in
    let A = subst (IsAwayWith g.B.Node.state a) c.in-Write.is c.requires.work.2 in
    let t = S.there c.in-Write.item A.out.0 in
    inr (ap (λ (t : Topology). is_home t c.in-Write.item.to) (restored g (goal.at.back-requires-in-Write-clause-leaves g c).After-restore) ∙ home_restored c.args.state.now a c.in-Write.item.to t.0 (g.B.Node.state c.in-Write.node) S t.1)

pub returns-in-Write : goal.returns-in-Write
returns-in-Write g c = λ a S W.
    let A = subst (IsAwayWith g.B.Node.state a) c.in-Write.is W in
    let t = S.there c.in-Write.item A.out.0 in
    let is = written_state c.in-Write.item t.0 (g.B.Node.state c.in-Write.node) (ap (job_at c.in-Write.item) (sym t.1) ∙ A.job) in
    let R = stands_restored c.args.state.now (record c.args.state.now { graph = c.restore.new.self }) a c.in-Write.item.to t.0 (g.B.Node.state c.in-Write.node) S t.1 is (restored g (goal.at.returns-in-Write g c).After-restore) refl refl refl in
    subst (λ (w : Work g.row.B.Denot). Stands c.back-in-Write.new.self (with_untaken a (item_of w).id.0)) (sym c.in-Write.is) (c.back-in-Write.ensures.stands a R A.out)

pub back-requires-in-Inside-clause-leaves : goal.back-requires-in-Inside-clause-leaves
back-requires-in-Inside-clause-leaves g c κs within =
    let A = subst (IsAwayWith g.B.Node.state c.requires.work.0) c.in-Inside.is c.requires.work.2 in
    may_leave c.args.state.now c.requires.work.0 c.in-Inside.item _ c.requires.work.1 A.out.0 A.alone A.job (λ state e. not_within c.in-Inside.item c.in-Inside.item state e)
