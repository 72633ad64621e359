-- A seat takes an item and applies it in one call.
use Rattle.std.specs.Prelude.{◌≡◌, ◌⊎◌, ℕ, ◌+◌, ◌≤◌, true, length}
use Rattle.ng_base.specs.declared.event.Event.TheVariants.{Take, Apply}
use Rattle.ng_base.specs.declared.ids.ItemId.{ItemId}
use Rattle.ng_machine.specs.declared.item.Item.{Item}
use Rattle.ng_machine.specs.declared.plan.Plan.{Plan}
use Rattle.ng_machine.specs.Desk.{Reads, job_of}
use Rattle.ng_machine.specs.story.Story.{Story, IsNext, has_ended, run_state_of, with_event, world_of}

-- with both events, one after the other
abbrev pub served_story : Story → ℕ → ItemId → Story
served_story s seat id = with_event (with_event s (Take seat id)) (Apply id)

-- the item was the least that might be taken, and a packet that its node's plan works on
pub record IsServedBy (seat : ℕ) (old new : Story) : Type 0 where
  pub item : Item
  pub next : IsNext (run_state_of old) item
  pub plan : Plan
  pub job : job_of (world_of old) item ≡ Reads item plan
  pub story : new ≡ served_story old seat item.id

-- the core has ended, applied and taken items together reach the limit, or what is next is no packet that a plan works on
abbrev pub NoReadNext : Story → Type 0
NoReadNext s =
    (has_ended s ≡ true) ⊎ ((s.setting.budget ≤ (world_of s).applies + length (run_state_of s).taken)
    ⊎ ((item : Item) (plan : Plan) → IsNext (run_state_of s) item → job_of (world_of s) item ≡ Reads item plan → ⊥))
