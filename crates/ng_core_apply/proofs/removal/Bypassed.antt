-- What waits for a node that joins the peers of its hooks to each other.
use Rattle.std.proofs.Common.{◌≡◌, ℕ, false, ◌∙◌}
use Rattle.std.specs.Prelude.{◌==◌}
use Rattle.ng_machine.specs.declared.body.Body.TheVariants.{Rebind}
use Rattle.ng_machine.specs.declared.hook.Hook.{Hook}
use Rattle.ng_machine.specs.declared.item.Item.{Item}
use Rattle.ng_machine.specs.Change.{Accepts, change, items_of}
use Rattle.ng_machine.specs.Run.{RunState}
use Rattle.ng_machine.specs.World.{World, link_id}
use Rattle.ng_core_state.specs.step.Changed.{with_link}
use Rattle.ng_queue.specs.pending.Holds.{in_world}
use Rattle.ng_core_apply.specs.removal.Removals.{world_bypassed}
use Rattle.ng_core_apply.proofs.removal.AskedPeers.{IsAloneStill, accepted_elsewhere, accepted_still}

pub bypassed_items : (w : World) (item : Item) (x y : Hook) → (x.peer.node.0 == item.to.0) ≡ false → (y.peer.node.0 == item.to.0) ≡ false → items_of (world_bypassed item x y w) item.to ≡ items_of w item.to
bypassed_items w item x y a b =
    let first = Accepts x.peer.node (Rebind x.peer.hook x.link (link_id w.next_link) y.peer.node y.peer.hook) item.tag in
    accepted_elsewhere (change item.to item.stamp (with_link w) first) item.to item.to y.peer.node item.stamp (Rebind y.peer.hook y.link (link_id w.next_link) x.peer.node x.peer.hook) item.tag b
    ∙ accepted_elsewhere (with_link w) item.to item.to x.peer.node item.stamp (Rebind x.peer.hook x.link (link_id w.next_link) y.peer.node y.peer.hook) item.tag a

pub bypassed_alone : (a : RunState) (n : ℕ) (item : Item) (x y : Hook) → IsAloneStill a n → IsAloneStill (in_world a (world_bypassed item x y a.world)) n
bypassed_alone a n item x y A =
    let first = Accepts x.peer.node (Rebind x.peer.hook x.link (link_id a.world.next_link) y.peer.node y.peer.hook) item.tag in
    accepted_still (in_world a (change item.to item.stamp (with_link a.world) first)) n item.to y.peer.node item.stamp (Rebind y.peer.hook y.link (link_id a.world.next_link) x.peer.node x.peer.hook) item.tag
    (accepted_still (in_world a (with_link a.world)) n item.to x.peer.node item.stamp (Rebind x.peer.hook x.link (link_id a.world.next_link) y.peer.node y.peer.hook) item.tag (record { old = A.old; none = A.none }))
