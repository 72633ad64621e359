-- A seat takes an item and applies it in one call.
use Rattle.std.proofs.Common.{◌≡◌, ◌∙◌, inl, ℕ, ◌+◌, ◌<◌, [], ◌∷◌, length, length-append, refl, sym, ap, subst, arith}
use Rattle.std.specs.declared.option.Option.TheVariants.{None}
use Rattle.ng_base.specs.declared.event.Event.TheVariants.{Take, Apply}
use Rattle.ng_machine.specs.declared.item.Item.{Item}
use Rattle.ng_machine.specs.Desk.{Idle, SeatDesk}
use Rattle.ng_machine.specs.Laws.{taken_by}
use Rattle.ng_machine.specs.Run.{RunState, Taken, after}
use Rattle.ng_machine.specs.Words.{Has}
use Rattle.ng_machine.proofs.Standing.{in_back}
use Rattle.ng_queue.specs.pending.Holds.{with_taken}
use Rattle.ng_queue.proofs.pending.HeldItems.{out_next}
use Rattle.ng_core_state.specs.step.Applied.{applied_from}
use Rattle.ng_machine.specs.story.Desks.{Others, story_job}
use Rattle.ng_machine.specs.story.SoundStory.{IsSoundStory}
use Rattle.ng_machine.specs.story.Story.{Story, IsNext, run_state_of, with_event, world_of}
use Rattle.ng_machine.proofs.story.OfDesks.{apply_tells, take_tells}
use Rattle.ng_machine.proofs.story.SoundStories.{apply_keeps_sound, at_more, so_far, take_keeps_sound}
use Rattle.ng_queue.proofs.tie.OnceTaken.{once_push, untaken_length, untaken_out}
use Rattle.ng_core_state.specs.declared.state.State.{State}
use Rattle.ng_core_state.specs.Stands.{Stands}
use Rattle.ng_core.specs.Served.{served_story}
use Rattle.ng_core.proofs.OpenStories.{stands_pushed}

-- the seat has it in between
taken_now : (s : Story) (item : Item) (seat : ℕ) → Has (taken_by item.id seat) (run_state_of (with_event s (Take seat item.id))).taken
taken_now s item seat =
    subst (λ (r : RunState). Has (taken_by item.id seat) r.taken) (sym (at_more s (Take seat item.id)))
    (in_back (taken_by item.id seat) (run_state_of s).taken (taken_by item.id seat ∷ []) (inl refl))

-- what a take asks for
pub record MayServe (s : Story) (item : Item) (seat : ℕ) : Type 0 where
  pub sound : IsSoundStory s
  pub unclosed : s.closed ≡ None
  pub seat_is : seat < s.setting.seats
  pub idle : story_job s seat ≡ Idle
  pub within : (world_of s).applies + length (run_state_of s).taken < s.setting.budget
  pub next : IsNext (run_state_of s) item

taken_sound : (s : Story) (item : Item) (seat : ℕ) → MayServe s item seat → IsSoundStory (with_event s (Take seat item.id))
taken_sound s item seat M = take_keeps_sound s item seat M.sound M.unclosed M.seat_is M.idle M.within M.next

pub serve_keeps_sound : (s : Story) (item : Item) (seat : ℕ) → MayServe s item seat → IsSoundStory (served_story s seat item.id)
serve_keeps_sound s item seat M = apply_keeps_sound (with_event s (Take seat item.id)) item.id seat (taken_sound s item seat M) M.unclosed (taken_now s item seat)

pub serve_tells : (s : Story) (item : Item) (seat : ℕ) → MayServe s item seat → Others seat s (served_story s seat item.id) × (story_job (served_story s seat item.id) seat ≡ Idle)
serve_tells s item seat M =
    let T = take_tells s item seat (so_far s M.sound M.unclosed) M.next.may.pending in
    let between = with_event s (Take seat item.id) in
    let A = apply_tells between item.id seat (so_far between (taken_sound s item seat M) M.unclosed) (taken_now s item seat) in
    (λ other d. A.0 other d ∙ T.0 other d, ap (λ (d : SeatDesk). d.job) A.1)

pub stands_served : {B : Type 0} (t : State B) (s : Story) (item : Item) (seat : ℕ) → Stands t (applied_from (with_taken (run_state_of s) item.id.0 seat) item) → Stands t (run_state_of (served_story s seat item.id))
stands_served t s item seat N =
    stands_pushed t (with_event s (Take seat item.id)) (Apply item.id)
    (subst (λ (r : RunState). Stands t (after s.setting.given r (Apply item.id))) (sym (at_more s (Take seat item.id))) N)

-- as many are out as were
pub out_served : {B : Type 0} (s t : State B) (a : RunState) (item : Item) (seat : ℕ) → Stands s a → IsNext a item → Stands t (applied_from (with_taken a item.id.0 seat) item) → t.pending.out ≡ s.pending.out
out_served s t a item seat S next N =
    let was = S.items.out in
    let is = N.items.out in
    let less = untaken_length item.id.0 (with_taken a item.id.0 seat).taken (once_push a.taken item.id.0 seat S.items.once (untaken_out a item next.may)) (out_next a item seat next) in
    omega (arith, length-append {A = Taken})
