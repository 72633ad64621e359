-- A link's number may be used before an item is accepted.
use Rattle.std.proofs.Common.{◌≡◌, ℕ, refl}
use Rattle.std.specs.declared.option.Option.{Option}
use Rattle.std.specs.declared.option.Option.TheVariants.{None, Some}
use Rattle.ng_base.specs.declared.ids.NodeId.{NodeId}
use Rattle.ng_base.specs.declared.ids.Stamp.{Stamp}
use Rattle.ng_machine.specs.declared.body.Body.{Body}
use Rattle.ng_machine.specs.Change.{accept_at}
use Rattle.ng_machine.specs.World.{World, NodeRecord}
use Rattle.ng_core_state.specs.step.Changed.{with_link}

pub link_late : (w : World) (to : NodeId) (o : Option NodeRecord) (body : Body) (tag : Option ℕ) (stamp : Stamp) → accept_at (with_link w) to o body tag stamp ≡ with_link (accept_at w to o body tag stamp)
link_late w to None body tag stamp = refl
link_late w to (Some node) body tag stamp = refl
