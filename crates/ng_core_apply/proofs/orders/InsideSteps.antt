-- What is known of an item that needs no work outside.
use Rattle.std.proofs.Common.{◌≡◌, ℕ, Bool, true, false, List, refl, sym, ap, ◌∙◌, ⊎_elim, true≢false}
use Rattle.std.specs.declared.option.Option.{Option}
use Rattle.std.specs.declared.option.Option.TheVariants.{None, Some}
use Rattle.ng_base.specs.declared.ids.LinkId.{LinkId}
use Rattle.ng_base.specs.declared.kind.Kind.{Kind}
use Rattle.ng_machine.specs.declared.body.Body.{Body}
use Rattle.ng_machine.specs.declared.body.Body.TheVariants.{Frame, Learn}
use Rattle.ng_machine.specs.declared.body.Door.{Door}
use Rattle.ng_machine.specs.declared.hook.Hook.{Hook}
use Rattle.ng_machine.specs.declared.item.Item.{Item}
use Rattle.ng_machine.specs.declared.plan.Plan.{Plan}
use Rattle.ng_machine.specs.Body.{is_writer}
use Rattle.ng_machine.specs.Change.{Change}
use Rattle.ng_machine.specs.Desk.{Within, body_job, frame_job, job_unless_gone, learn_job}
use Rattle.ng_machine.specs.Effect.{effect_at, is_hook_gone}
use Rattle.ng_machine.specs.Run.{RunState}
use Rattle.ng_machine.specs.State.{way_of}
use Rattle.ng_machine.specs.World.{NodeRecord, kind_at, linked_hook, state_of}
use Rattle.ng_core_apply.specs.orders.Inside.{IsInside}
use Rattle.ng_core_state.specs.step.Steps.{IsStep, world_at}
use Rattle.ng_topology.specs.Topology.{is_home}
use Rattle.ng_core_state.specs.declared.state.State.{State}
use Rattle.ng_core_state.specs.Stands.{MayLeave}

-- it makes the changes of what it brings
pub inside_step : {B : Type 0} (s : State B) (item : Item) (a : RunState) (node : NodeRecord) (body : Body) (changes : List Change) → IsInside s item a node → item.body ≡ body
    → is_hook_gone (Some node) body ≡ false → effect_at (world_at a item) item node body ≡ changes → IsStep s item a node changes
inside_step s item a node body changes I is stays effect = record {
  stands = I.stands;
  at = I.at;
  low = I.low;
  stays = ap (is_hook_gone (Some node)) is ∙ stays;
  effect = ap (effect_at (world_at a item) item node) is ∙ effect;
}

-- the box of a writer's node is at home
pub inside_home : {B : Type 0} (s : State B) (item : Item) (a : RunState) (node : NodeRecord) (body : Body) → IsInside s item a node → item.body ≡ body → ((kind : Kind) → is_writer kind body ≡ true) → MayLeave s.graph item → is_home s.graph item.to ≡ true
inside_home s item a node body I is writes may =
    let there = I.stands.there item I.at.out.0 in
    ⊎_elim
    (λ (reads : item.writer ≡ false). absurd (true≢false (sym (writes (kind_at there.0)) ∙ sym (ap (is_writer (kind_at there.0)) is) ∙ sym there.2 ∙ reads)))
    (λ (home : is_home s.graph item.to ≡ true). home)
    may

no_frame : (item : Item) (node : NodeRecord) (plan : Option Plan) → frame_job item (state_of node) plan ≡ Within item → ⊥
no_frame item node None e = cc
no_frame item node (Some plan) e = cc

-- a packet that needs no work lost its hook
pub inside_gone : {B : Type 0} (s : State B) (item : Item) (a : RunState) (node : NodeRecord) (door : Door) (link : Option LinkId) (packet : List ℕ) → IsInside s item a node → item.body ≡ Frame door link packet → is_hook_gone (Some node) item.body ≡ true
inside_gone s item a node door link packet I is = by (is_hook_gone (Some node) item.body) I.job
  where
    by : (b : Bool) → job_unless_gone b item node ≡ Within item → b ≡ true
    by true e = refl
    by false e = absurd (no_frame item node (way_of (state_of node)) (sym (ap (body_job item node) is) ∙ e))

no_learning : (item : Item) (node : NodeRecord) (o : Option Hook) → learn_job item (state_of node) o ≡ Within item → o ≡ None
no_learning item node None e = refl
no_learning item node (Some hook) e = absurd (cc)

-- and what is to be learned without work lost its hook too
pub inside_learn : {B : Type 0} (s : State B) (item : Item) (a : RunState) (node : NodeRecord) (hook : List ℕ) (link : LinkId) (addr : List ℕ) → IsInside s item a node → item.body ≡ Learn hook link addr → linked_hook node hook link ≡ None
inside_learn s item a node hook link addr I is =
    no_learning item node (linked_hook node hook link) (sym (ap (λ (b : Body). job_unless_gone (is_hook_gone (Some node) b) item node) is ∙ ap (body_job item node) is) ∙ I.job)
