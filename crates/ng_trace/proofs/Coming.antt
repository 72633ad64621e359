-- What came of an item that needs no work outside: of a packet, that its hook is gone.
use Rattle.std.proofs.Common.{◌≡◌, Bool, true, false, refl, sym, ap, ◌∙◌}
use Rattle.std.specs.declared.option.Option.{Option}
use Rattle.std.specs.declared.option.Option.TheVariants.{None, Some}
use Rattle.ng_machine.specs.declared.body.Body.{Body}
use Rattle.ng_machine.specs.declared.body.Body.TheVariants.{Frame, Msg, Join2, Join3, Undo, Leave, Rebind, Tick, Learn}
use Rattle.ng_machine.specs.declared.item.Item.{Item}
use Rattle.ng_machine.specs.declared.outcome.Outcome.{Outcome}
use Rattle.ng_machine.specs.declared.plan.Plan.{Plan}
use Rattle.ng_machine.specs.Body.{is_frame}
use Rattle.ng_machine.specs.Case.{outcome_of}
use Rattle.ng_machine.specs.Desk.{Within, body_job, frame_job, job_at, job_of, job_unless_gone}
use Rattle.ng_machine.specs.Effect.{is_hook_gone}
use Rattle.ng_machine.specs.State.{State, way_of}
use Rattle.ng_machine.specs.World.{World, NodeRecord, node_at, state_of}
use Rattle.ng_trace.specs.declared.ending.Came.{Came}
use Rattle.ng_trace.specs.Endings.{came_of, came_unless}

-- a packet that is worked on within has lost its hook
frame_within : (item : Item) (state : State) (plan : Option Plan) → frame_job item state plan ≡ Within item → ⊥
frame_within item state None e = absurd (cc e)
frame_within item state (Some plan) e = absurd (cc e)

gone_within : (gone : Bool) (item : Item) (node : NodeRecord) → is_frame item.body ≡ true → job_unless_gone gone item node ≡ Within item → gone ≡ true
gone_within true item node frame e = refl
gone_within false item node frame e = absurd (not_within item node item.body frame e) where
  not_within : (item : Item) (node : NodeRecord) (body : Body) → is_frame body ≡ true → body_job item node body ≡ Within item → ⊥
  not_within item node (Frame door link packet) frame e = frame_within item (state_of node) (way_of (state_of node)) e
  not_within item node (Msg msg) frame e = absurd (cc frame)
  not_within item node (Join2 hook link peer peer_hook) frame e = absurd (cc frame)
  not_within item node (Join3 hook link) frame e = absurd (cc frame)
  not_within item node (Undo hook link errno) frame e = absurd (cc frame)
  not_within item node (Leave hook link) frame e = absurd (cc frame)
  not_within item node (Rebind hook old new peer peer_hook) frame e = absurd (cc frame)
  not_within item node (Tick seconds) frame e = absurd (cc frame)
  not_within item node (Learn hook link addr) frame e = absurd (cc frame)

came_by_body : (node : NodeRecord) (body : Body) (r : Option Came) → (is_frame body ≡ true → is_hook_gone (Some node) body ≡ true)
    → ((out : Outcome) → is_frame body ≡ true → r ≡ Some (came_unless true out)) → (is_frame body ≡ false → r ≡ None) → r ≡ came_of node body
came_by_body node (Frame door link packet) r gone frame other =
    let out : Outcome = outcome_of (state_of node) (Frame door link packet) in
    frame out refl ∙ ap (λ (b : Bool). let c : Option Came = Some (came_unless b out) in c) (sym (gone refl))
came_by_body node (Msg msg) r gone frame other = other refl
came_by_body node (Join2 hook link peer peer_hook) r gone frame other = other refl
came_by_body node (Join3 hook link) r gone frame other = other refl
came_by_body node (Undo hook link errno) r gone frame other = other refl
came_by_body node (Leave hook link) r gone frame other = other refl
came_by_body node (Rebind hook old new peer peer_hook) r gone frame other = other refl
came_by_body node (Tick seconds) r gone frame other = other refl
came_by_body node (Learn hook link addr) r gone frame other = other refl

pub came_inside : (w : World) (node : NodeRecord) (item : Item) (r : Option Came) → node_at w item.to ≡ Some node → job_of w item ≡ Within item
    → ((out : Outcome) → is_frame item.body ≡ true → r ≡ Some (came_unless true out)) → (is_frame item.body ≡ false → r ≡ None) → r ≡ came_of node item.body
came_inside w node item r there job frame other =
    let at : job_at item (Some node) ≡ Within item = ap (job_at item) (sym there) ∙ job in
    came_by_body node item.body r (λ is. gone_within (is_hook_gone (Some node) item.body) item node is at) frame other
