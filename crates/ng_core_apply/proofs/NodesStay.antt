-- A node goes by an order or by a peer's going alone: by all else that is applied it stays.
use Rattle.std.proofs.Common.{◌≡◌, ◌∙◌, List, [], ◌∷◌, Bool, true, false, refl, sym, ap, true≢false}
use Rattle.std.proofs.lemmas.List.{get_or_append_left}
use Rattle.std.specs.declared.option.Option.{Option}
use Rattle.std.specs.declared.option.Option.TheVariants.{None, Some}
use Rattle.ng_base.specs.declared.ids.NodeId.{NodeId}
use Rattle.ng_base.specs.declared.ids.Stamp.{Stamp}
use Rattle.ng_base.specs.declared.kind.Kind.{Kind}
use Rattle.ng_message.specs.declared.message.Msg.{Msg as Message}
use Rattle.ng_machine.specs.declared.body.Body.{Body}
use Rattle.ng_machine.specs.declared.body.Body.TheVariants.{Msg, Leave}
use Rattle.ng_machine.specs.declared.item.Item.{Item}
use Rattle.ng_machine.specs.Change.{Change, Sets, Makes, Retires, Accepts, Posts, Notes, change, change_all, set_node}
use Rattle.ng_machine.specs.Effect.{MessageClass, AnOrder, class_of, effect_at, is_hook_gone}
use Rattle.ng_machine.specs.Order.{read_order}
use Rattle.ng_machine.specs.Run.{RunState}
use Rattle.ng_machine.specs.Words.{Every}
use Rattle.ng_machine.specs.World.{World, NodeRecord, is_there, kind_at, node_at, node_in}
use Rattle.ng_machine.proofs.Costing.{effect_occurs}
use Rattle.ng_machine.proofs.Every.{every_imply}
use Rattle.ng_machine.proofs.Occurs.{Goes, ShutDown, LastRemoved, LastLost, Occurs}
use Rattle.ng_machine.proofs.Kept.{nodes_quietly}
use Rattle.ng_machine.proofs.NodeLists.{get_here, given_number}
use Rattle.ng_machine.proofs.Quieted.{accepts_quietly, notes_quietly, posts_quietly}
use Rattle.ng_core_apply.specs.orders.Inside.{is_left, is_left_message, removes_as_read}
use Rattle.ng_queue.specs.pending.Holds.{done_from}
use Rattle.ng_core_state.specs.step.Applied.{IsAtNode, applied_from}
use Rattle.ng_core_state.proofs.step.AppliedItems.{items_are_applied}

-- what a node may go by
abbrev pub may_go_by : MessageClass → Message → Bool
may_go_by AnOrder msg = removes_as_read (read_order msg.header.cmd msg.args)
may_go_by _ msg = false

abbrev pub may_go : Kind → Body → Bool
may_go kind (Msg msg) = may_go_by (class_of kind msg) msg
may_go kind (Leave hook link) = true
may_go kind _ = false

-- changes that keep the node
abbrev pub Keeps : Change → Type 0
Keeps Retires = ⊥
Keeps (Sets node) = Unit {0}
Keeps (Makes kind node) = Unit {0}
Keeps (Accepts to body tag) = Unit {0}
Keeps (Posts hook packet) = Unit {0}
Keeps (Notes note) = Unit {0}

abbrev pub AllKeep : List Change → Type 0
AllKeep changes = Every Keeps changes

-- what a node goes by is what it may go by
goes_by : (node : NodeRecord) {body : Body} → Goes node body → may_go (kind_at node) body ≡ true
goes_by node (ShutDown msg order leaves) = ap (λ (class : MessageClass). may_go_by class msg) order.class ∙ ap removes_as_read order.reads
goes_by node (LastRemoved msg hook name order gone) = ap (λ (class : MessageClass). may_go_by class msg) order.class ∙ ap removes_as_read order.reads
goes_by node (LastLost hook link name gone) = refl

keeps : (w : World) (item : Item) (node : NodeRecord) (body : Body) → may_go (kind_at node) body ≡ false → (c : Change) → Occurs w item node body c → Keeps c
keeps w item node body e Retires o = true≢false (sym (goes_by node o) ∙ e)
keeps w item node body e _ o = tt

effect_keeps : (w : World) (item : Item) (node : NodeRecord) (body : Body) → may_go (kind_at node) body ≡ false → AllKeep (effect_at w item node body)
effect_keeps w item node body e = every_imply (Occurs w item node body) Keeps (keeps w item node body e) (effect_at w item node body) (effect_occurs w item node body)

-- the node is there
abbrev pub IsThereIn : NodeId → World → Type 0
IsThereIn at w = (now : NodeRecord) × (node_at w at ≡ Some now)

kept_quietly : (at : NodeId) (w v : World) → v.nodes ≡ w.nodes → IsThereIn at w → IsThereIn at v
kept_quietly at w v e T = (T.0, ap (λ (l : List (Option NodeRecord)). node_in l at) e ∙ T.1)

kept_change : (at : NodeId) (stamp : Stamp) (w : World) (c : Change) → Keeps c → IsThereIn at w → IsThereIn at (change at stamp w c)
kept_change at stamp w (Sets node) k T = by (is_there w at)
  where
    by : (b : Bool) → IsThereIn at (set_node w at node b)
    by true = (node, get_here w.nodes at.0 (Some node) (given_number w.nodes at.0 T.0 T.1))
    by false = T
kept_change at stamp w (Makes kind node) k T = (T.0, get_or_append_left w.nodes (Some node ∷ []) None at.0 (given_number w.nodes at.0 T.0 T.1) ∙ T.1)
kept_change at stamp w Retires k T = absurd k
kept_change at stamp w (Accepts to body tag) k T = kept_quietly at w (change at stamp w (Accepts to body tag)) (nodes_quietly (accepts_quietly at stamp w to body tag)) T
kept_change at stamp w (Posts hook packet) k T = kept_quietly at w (change at stamp w (Posts hook packet)) (nodes_quietly (posts_quietly at stamp w hook packet)) T
kept_change at stamp w (Notes x) k T = kept_quietly at w (change at stamp w (Notes x)) (nodes_quietly (notes_quietly at stamp w x)) T

kept_changes : (at : NodeId) (stamp : Stamp) (w : World) (cs : List Change) → AllKeep cs → IsThereIn at w → IsThereIn at (change_all at stamp w cs)
kept_changes at stamp w [] k T = T
kept_changes at stamp w (c ∷ cs) k T = kept_changes at stamp (change at stamp w c) cs k.1 (kept_change at stamp w c k.0 T)

-- the node is there after an item is applied that it doesn't go by
pub there_after : (a : RunState) (item : Item) (node : NodeRecord) → IsAtNode a item node → may_go (kind_at node) item.body ≡ false → (now : NodeRecord) × (node_at (applied_from a item).world item.to ≡ Some now)
there_after a item node at may = by (is_hook_gone (Some node) item.body) refl
  where
    by : (b : Bool) → is_hook_gone (Some node) item.body ≡ b → (now : NodeRecord) × (node_at (applied_from a item).world item.to ≡ Some now)
    by true e = (node, ap (λ (r : RunState). node_at r.world item.to) (items_are_applied.dropped a item node at e) ∙ at.here)
    by false e =
        let w = (done_from a item).world in
        let K = kept_changes item.to item.stamp w (effect_at w item node item.body) (effect_keeps w item node item.body may) (node, at.here) in
        (K.0, ap (λ (r : RunState). node_at r.world item.to) (items_are_applied.done a item node at e) ∙ K.1)

left_by : (class : MessageClass) (msg : Message) → is_left_message class msg ≡ false → may_go_by class msg ≡ false
left_by AnOrder msg e = e
left_by _ msg e = refl

-- what isn't left takes no node away
pub stays_unless_left : (kind : Kind) (body : Body) → is_left kind body ≡ false → may_go kind body ≡ false
stays_unless_left kind (Msg msg) e = left_by (class_of kind msg) msg e
stays_unless_left kind (Leave hook link) e = e
stays_unless_left kind _ e = refl
