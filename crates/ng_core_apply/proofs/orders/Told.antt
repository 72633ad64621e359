-- Answers that are told and made.
use Rattle.std.proofs.Common.{◌≡◌, ℕ, [], refl}
use Rattle.std.specs.declared.option.Option.{Option}
use Rattle.std.specs.declared.option.Option.TheVariants.{None}
use Rattle.ng_base.specs.declared.ids.NodeId.{NodeId}
use Rattle.ng_message.specs.declared.message.Msg.{Msg as Message}
use Rattle.ng_machine.specs.declared.body.Body.{Body}
use Rattle.ng_machine.specs.declared.body.Body.TheVariants.{Frame, Msg, Join2, Join3, Undo, Leave, Rebind, Tick, Learn}
use Rattle.ng_machine.specs.Generic.{answer_bytes}
use Rattle.ng_machine.specs.Order.{Question, NodeInfo, ListHooks, ListNames, ListNodes, ListTypes}
use Rattle.ng_machine.specs.World.{World, NodeRecord}
use Rattle.ng_core_apply.specs.orders.Asked.{told_by}
use Rattle.ng_topology.specs.Topology.{world_of}

pub nobody_waits : (body : Body) → told_by None body ≡ []
nobody_waits (Msg msg) = refl
nobody_waits (Frame door link packet) = refl
nobody_waits (Join2 hook link peer peer_hook) = refl
nobody_waits (Join3 hook link) = refl
nobody_waits (Undo hook link errno) = refl
nobody_waits (Leave hook link) = refl
nobody_waits (Rebind hook old new peer peer_hook) = refl
nobody_waits (Tick seconds) = refl
nobody_waits (Learn hook link addr) = refl

pub no_message : (tag : Option ℕ) (body : Body) → ((msg : Message) → body ≡ Msg msg → ⊥) → told_by tag body ≡ []
no_message tag (Msg msg) never = absurd (never msg refl)
no_message tag (Frame door link packet) never = refl
no_message tag (Join2 hook link peer peer_hook) never = refl
no_message tag (Join3 hook link) never = refl
no_message tag (Undo hook link errno) never = refl
no_message tag (Leave hook link) never = refl
no_message tag (Rebind hook old new peer peer_hook) never = refl
no_message tag (Tick seconds) never = refl
no_message tag (Learn hook link addr) never = refl

-- an answer looks at nothing but the nodes
pub by_nodes : (w : World) (id : NodeId) (node : NodeRecord) (question : Question) → answer_bytes (world_of w.nodes) id node question ≡ answer_bytes w id node question
by_nodes w id node NodeInfo = refl
by_nodes w id node ListHooks = refl
by_nodes w id node ListNames = refl
by_nodes w id node ListNodes = refl
by_nodes w id node ListTypes = refl
