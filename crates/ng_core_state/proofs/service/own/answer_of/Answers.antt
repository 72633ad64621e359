use Rattle.std.proofs.Common.{◌≡◌, ◌∙◌, List, true, sym, ap, subst}
use Rattle.std.specs.declared.option.Option.{Option}
use Rattle.std.specs.declared.option.Option.TheVariants.{Some}
use Rattle.ng_base.specs.Kind.{cookie_of}
use Rattle.ng_message.specs.declared.message.Msg.{Msg as Message}
use Rattle.ng_message.specs.Numbers.{is_reader_number}
use Rattle.ng_machine.specs.declared.body.Body.TheVariants.{Msg}
use Rattle.ng_machine.specs.State.{State, kind_of}
use Rattle.ng_machine.specs.World.{NodeRecord, kind_at, node_in, state_of}
use Rattle.ng_core_state.proofs.service.Owns.{own_cookie}
use Rattle.ng_core_state.proofs.service.own.answer_of.Goals as goal

pub answer-requires : goal.answer-requires
answer-requires g c =
    let S = c.requires.work.2 in
    let O = c.requires.work.4 in
    let here : node_in c.args.state.now.graph.nodes c.args.item.now.to ≡ Some c.requires.work.1 = ap (λ (l : List (Option NodeRecord)). node_in l c.args.item.now.to) S.graph.nodes ∙ c.requires.work.3.here in
    let state : g.B.Node.state c.node.result.now ≡ state_of c.requires.work.1 = c.node.ensures c.requires.work.1 here in
    let both : Msg O.msg ≡ Msg c.in-Msg.msg = sym O.body ∙ c.in-Msg.is in
    let same : O.msg ≡ c.in-Msg.msg = cc in
    record {
      reads = subst (λ (m : Message). is_reader_number m.header.cmd ≡ true) same O.reads;
      own = subst (λ (m : Message). m.header.typecookie ≡ cookie_of (kind_of (g.B.Node.state c.node.result.now))) same
          (own_cookie (kind_at c.requires.work.1) O.msg O.own ∙ ap (λ (s : State). cookie_of (kind_of s)) (sym state));
    }
