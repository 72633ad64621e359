-- The peers of hooks are asked: room, and what waits.
use Rattle.std.proofs.lemmas.Bool.{cases_eq, eq-eqb, ne_eqb}
use Rattle.std.proofs.Common.{◌≡◌, ◌≢◌, ⊎_elim, ℕ, zero, suc, ◌+◌, ◌<◌, ◌≤◌, List, [], ◌∷◌, ◌++◌, length, get_or, Bool, true, false, cond, refl, sym, ap, ◌∙◌, subst, arith}
use Rattle.std.specs.Prelude.{◌==◌, take}
use Rattle.std.proofs.lemmas.List.{append-nil}
use Rattle.std.specs.declared.option.Option.{Option}
use Rattle.std.specs.declared.option.Option.TheVariants.{None, Some}
use Rattle.ng_base.specs.declared.ids.NodeId.{NodeId}
use Rattle.ng_base.specs.declared.ids.Stamp.{Stamp}
use Rattle.ng_machine.specs.declared.body.Body.{Body}
use Rattle.ng_machine.specs.declared.body.Body.TheVariants.{Leave}
use Rattle.ng_machine.specs.declared.hook.Hook.{Hook}
use Rattle.ng_machine.specs.declared.item.Item.{Item}
use Rattle.ng_machine.specs.Body.{is_at, is_writer}
use Rattle.ng_machine.specs.Change.{Accepts, accept_at, change, change_all, items_of}
use Rattle.ng_machine.specs.Retire.{leave_step_unless, leave_step_to, leave_steps}
use Rattle.ng_machine.specs.Run.{RunState, Taken}
use Rattle.ng_machine.specs.Words.{Has}
use Rattle.ng_machine.specs.World.{NodeRecord, World, item_id, kind_at, node_at, node_in}
use Rattle.ng_queue.specs.pending.Holds.{NoneOut, in_world}
use Rattle.ng_queue.specs.tie.TieLaws.{one}
use Rattle.ng_queue.proofs.tie.OfQueues.{filter_append}
use Rattle.ng_core_state.specs.declared.state.State.{State}
use Rattle.ng_core_state.specs.Stands.{Stands}
use Rattle.ng_core_state.proofs.SentItems.{has_queue}
use Rattle.ng_core_apply.specs.removal.Drops.{peers}
use Rattle.ng_core_apply.proofs.removal.Following.{change_both}
use Rattle.ng_core_apply.proofs.removal.Waiting.{alone_accepted}

one_cond : (b : Bool) → cond b 1 0 ≡ one b
one_cond true = refl
one_cond false = refl

pub peers_one : (h : Hook) (hooks : List Hook) (n : ℕ) → peers (h ∷ hooks) n ≡ one (n == h.peer.node.0) + peers hooks n
peers_one h hooks n = let e = one_cond (n == h.peer.node.0) in omega arith

peers_next : (hooks : List Hook) (i n : ℕ) (h : Hook) → i < length hooks → h ≡ get_or hooks i h → peers (take (suc i) hooks) n ≡ peers (take i hooks) n + one (n == h.peer.node.0)
peers_next [] i n h lt is = absurd (omega arith)
peers_next (x ∷ hooks) zero n h lt is =
    let a : cond (n == x.peer.node.0) 1 0 ≡ one (n == h.peer.node.0) = one_cond (n == x.peer.node.0) ∙ ap (λ (y : Hook). one (n == y.peer.node.0)) (sym is) in omega arith
peers_next (x ∷ hooks) (suc i) n h lt is = let more = peers_next hooks i n h (omega arith) is in omega arith

pub peers_room : (hooks : List Hook) (i n : ℕ) (h : Hook) (first before after : ℕ) → i < length hooks → h ≡ get_or hooks i h → first + peers (take i hooks) n ≤ before
    → before + one (n == h.peer.node.0) ≤ after → first + peers (take (i + 1) hooks) n ≤ after
peers_room hooks i n h first before after lt is room more =
    let next = peers_next hooks i n h lt is in
    subst (λ (k : ℕ). first + peers (take k hooks) n ≤ after) (let f : suc i ≡ i + 1 = omega arith in f) (omega arith)

-- nothing more waits for a node where an item is accepted at another
pub accepted_elsewhere : (w : World) (by at to : NodeId) (stamp : Stamp) (body : Body) (tag : Option ℕ) → (to.0 == at.0) ≡ false → items_of (change by stamp w (Accepts to body tag)) at ≡ items_of w at
accepted_elsewhere w by at to stamp body tag e = go (node_at w to)
  where
    go : (o : Option NodeRecord) → items_of (accept_at w to o body tag stamp) at ≡ items_of w at
    go None = refl
    go (Some node) =
        let x : Item = record { id = item_id w.next_item; to = to; body = body; writer = is_writer (kind_at node) body; tag = tag; stamp = stamp } in
        filter_append (is_at at) w.pending (x ∷ []) ∙ ap (λ (b : Bool). items_of w at ++ cond b (x ∷ []) []) e ∙ append-nil (items_of w at)

step_items : (w : World) (by at : NodeId) (stamp : Stamp) (h : Hook) (b : Bool) → (h.peer.node.0 == at.0) ≡ b → items_of (change_all by stamp w (leave_step_unless b h)) at ≡ items_of w at
step_items w by at stamp h true e = refl
step_items w by at stamp h false e = accepted_elsewhere w by at h.peer.node stamp (Leave h.peer.hook h.link) None e

pub asked_items : (w : World) (by at : NodeId) (stamp : Stamp) (hooks : List Hook) → items_of (change_all by stamp w (leave_steps at hooks)) at ≡ items_of w at
asked_items w by at stamp [] = refl
asked_items w by at stamp (h ∷ hooks) =
    ap (λ (v : World). items_of v at) (change_both by stamp w (leave_step_to at h) (leave_steps at hooks))
    ∙ asked_items (change_all by stamp w (leave_step_to at h)) by at stamp hooks
    ∙ step_items w by at stamp h (h.peer.node.0 == at.0) refl

-- and it is alone still
pub record IsAloneStill (a : RunState) (n : ℕ) : Type 0 where
  pub old : (x : Taken) → Has x a.taken → x.id.0 < a.world.next_item
  pub none : NoneOut a n

pub accepted_still : (a : RunState) (n : ℕ) (by to : NodeId) (stamp : Stamp) (body : Body) (tag : Option ℕ) → IsAloneStill a n → IsAloneStill (in_world a (change by stamp a.world (Accepts to body tag))) n
accepted_still a n by to stamp body tag A = record {
  old = λ x t. higher (node_at a.world to) x.id.0 (A.old x t);
  none = alone_accepted a n by to stamp body tag A.old A.none;
}
  where
    higher : (o : Option NodeRecord) (k : ℕ) → k < a.world.next_item → k < (accept_at a.world to o body tag stamp).next_item
    higher None k lt = lt
    higher (Some node) k lt = omega arith

step_alone : (a : RunState) (n : ℕ) (by : NodeId) (stamp : Stamp) (h : Hook) (b : Bool) → IsAloneStill a n → IsAloneStill (in_world a (change_all by stamp a.world (leave_step_unless b h))) n
step_alone a n by stamp h true A = A
step_alone a n by stamp h false A = accepted_still a n by h.peer.node stamp (Leave h.peer.hook h.link) None A

pub asked_alone : (a : RunState) (n : ℕ) (by at : NodeId) (stamp : Stamp) (hooks : List Hook) → IsAloneStill a n → IsAloneStill (in_world a (change_all by stamp a.world (leave_steps at hooks))) n
asked_alone a n by at stamp [] A = A
asked_alone a n by at stamp (h ∷ hooks) A =
    subst (λ (w : World). IsAloneStill (in_world a w) n) (sym (change_both by stamp a.world (leave_step_to at h) (leave_steps at hooks)))
    (asked_alone (in_world a (change_all by stamp a.world (leave_step_to at h))) n by at stamp hooks (step_alone a n by stamp h (h.peer.node.0 == at.0) A))

pub no_hooks_left : (hooks : List Hook) → length hooks ≡ 0 → hooks ≡ []
no_hooks_left [] e = refl
no_hooks_left (h ∷ hooks) e = absurd (omega arith)

-- one place more at one node
pub widened : (m peer many : ℕ) (before after : List ℕ) → m < many → (peer < many → get_or before peer 0 + 1 ≤ get_or after peer 0) → ((n : ℕ) → get_or before n 0 ≤ get_or after n 0) → get_or before m 0 + one (m == peer) ≤ get_or after m 0
widened m peer many before after lt room more = ⊎_elim
    (λ (e : m ≡ peer).
    let b : one (m == peer) ≡ 1 = ap one (eq-eqb m peer e) in
    let r = room (omega arith) in
    let f = ap (λ (k : ℕ). get_or before k 0) e in let g = ap (λ (k : ℕ). get_or after k 0) e in omega arith)
    (λ (d : m ≢ peer). let b : one (m == peer) ≡ 0 = ap one (ne_eqb m peer d) in let le = more m in omega arith)
    (cases_eq m peer)

-- a node that is there has a queue
pub queue_of : {B : Type 0} (s : State B) (a : RunState) (id : NodeId) (node : NodeRecord) → Stands s a → node_in s.graph.nodes id ≡ Some node → id.0 < length s.pending.queues.lists
queue_of s a id node S here = has_queue s a id node S (sym (ap (λ (l : List (Option NodeRecord)). node_in l id) S.graph.nodes) ∙ here)
