use Rattle.std.proofs.Common.{◌≡◌, ◌∙◌, ◌<◌, true, false, not, refl, sym, ap, subst, arith}
use Rattle.std.proofs.lemmas.Bool.{eq-eqb}
use Rattle.std.specs.Prelude.{◌==◌, nat_lt}
use Rattle.ng_machine.specs.Change.{frames, most_frames}
use Rattle.ng_machine.specs.World.{World}
use Rattle.ng_queue.specs.pending.Holds.{in_world}
use Rattle.ng_queue.specs.tie.TieLaws.{one}
use Rattle.ng_core_state.specs.Stands.{Stands}
use Rattle.ng_core_state.proofs.SentItems.{has_queue, kind_node, no_node, send_accepts, send_full, send_gone, send_unjoined}
use Rattle.ng_core_state.proofs.state.State.send.Goals as goal

pub returns-clause-stands : goal.returns-clause-stands
returns-clause-stands g c = λ a S.
    let k = kind_node c.args.self.now.graph.nodes a.world.nodes c.args.hook.peer.node c.in-Some.kind S.graph.nodes (sym c.kind.ensures ∙ c.in-Some.is) in
    let lt : nat_lt (frames a.world) most_frames ≡ true = c.is_full.ensures.answer a S.items ∙ ap not c.if-is_full.false in
    let joined : c.args.hook.joined ≡ true = grind (arith, c.if-not-hook.false) in
    subst (λ (w : World). Stands c.accept.new.self (in_world a w)) (send_accepts a.world c.args.hook k.node c.in-Some.kind c.arrival.result c.args.packet c.args.stamp joined k.is k.kind_is lt c.arrival.ensures)
    (c.accept.ensures.stands a k.node S k.is k.kind_is)

pub accept-requires-clause-there : goal.accept-requires-clause-there
accept-requires-clause-there g c κs within =
    let k = kind_node c.args.self.now.graph.nodes c.requires.standing.0.world.nodes c.args.hook.peer.node c.in-Some.kind c.requires.standing.1.graph.nodes (sym c.kind.ensures ∙ c.in-Some.is) in
    (c.requires.standing.0, c.requires.standing.1, (k.node, k.is))

pub accept-requires-clause-room : goal.accept-requires-clause-room
accept-requires-clause-room g c κs within =
    let k = kind_node c.args.self.now.graph.nodes c.requires.standing.0.world.nodes c.args.hook.peer.node c.in-Some.kind c.requires.standing.1.graph.nodes (sym c.kind.ensures ∙ c.in-Some.is) in
    let there = has_queue c.args.self.now c.requires.standing.0 c.args.hook.peer.node k.node c.requires.standing.1 k.is in
    let few : c.args.self.now.pending.tally.frames < most_frames = grind (arith, c.is_full.ensures.full, c.if-is_full.false) in
    let is : one (c.args.hook.peer.node.0 == c.args.hook.peer.node.0) ≡ 1 = ap one (eq-eqb c.args.hook.peer.node.0 c.args.hook.peer.node.0 refl) in
    let room = c.requires.room few c.args.hook.peer.node.0 there in
    omega arith

pub returns-then-not-hook-clause-stands : goal.returns-then-not-hook-clause-stands
returns-then-not-hook-clause-stands g c = λ a S.
    let joined : c.args.hook.joined ≡ false = grind (arith, c.if-not-hook.true) in
    subst (λ (w : World). Stands c.lose_sent.new.self (in_world a w)) (send_unjoined a.world c.args.hook c.args.packet c.args.stamp joined) (c.lose_sent.ensures.stands a S)

pub returns-in_default-clause-stands : goal.returns-in_default-clause-stands
returns-in_default-clause-stands g c = λ a S.
    let joined : c.args.hook.joined ≡ true = grind (arith, c.if-not-hook.false) in
    let none = no_node c.args.self.now.graph.nodes a.world.nodes c.args.hook.peer.node S.graph.nodes (sym c.kind.ensures ∙ c.in_default.is) in
    subst (λ (w : World). Stands c.lose_sent-in_default.new.self (in_world a w)) (send_gone a.world c.args.hook c.args.packet c.args.stamp joined none) (c.lose_sent-in_default.ensures.stands a S)

pub returns-then-is_full-clause-stands : goal.returns-then-is_full-clause-stands
returns-then-is_full-clause-stands g c = λ a S.
    let k = kind_node c.args.self.now.graph.nodes a.world.nodes c.args.hook.peer.node c.in-Some.kind S.graph.nodes (sym c.kind.ensures ∙ c.in-Some.is) in
    let full : nat_lt (frames a.world) most_frames ≡ false = c.is_full.ensures.answer a S.items ∙ ap not c.if-is_full.true in
    let joined : c.args.hook.joined ≡ true = grind (arith, c.if-not-hook.false) in
    subst (λ (w : World). Stands c.lose_sent-then-is_full.new.self (in_world a w)) (send_full a.world c.args.hook k.node c.args.packet c.args.stamp joined k.is full) (c.lose_sent-then-is_full.ensures.stands a S)
