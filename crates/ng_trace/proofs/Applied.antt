-- The item that a seat works on, where the run stands.
use Rattle.std.proofs.Common.{◌≡◌, ℕ, ◌<◌, List, false, length, refl, sym, ap, ◌∙◌, subst}
use Rattle.std.proofs.lemmas.Bool.{eq-eqb, eqb-true}
use Rattle.std.specs.List.{find}
use Rattle.std.specs.declared.option.Option.{Option}
use Rattle.std.specs.declared.option.Option.TheVariants.{Some}
use Rattle.ng_base.specs.declared.ids.ItemId.{ItemId}
use Rattle.ng_machine.specs.declared.item.Item.{Item}
use Rattle.ng_machine.specs.Body.{has_id}
use Rattle.ng_machine.specs.Desk.{Job, job_of}
use Rattle.ng_machine.specs.Run.{RunState}
use Rattle.ng_machine.specs.State.{State as NodeState}
use Rattle.ng_machine.specs.Words.{Has}
use Rattle.ng_machine.specs.World.{World, node_at}
use Rattle.ng_machine.specs.story.Desks.{IsAtWork, story_job}
use Rattle.ng_machine.specs.story.SoundStory.{IsSoundStory}
use Rattle.ng_machine.specs.story.Story.{Story, has_ended, run_state_of}
use Rattle.ng_machine.proofs.story.SoundStories.{so_far}
use Rattle.ng_core.proofs.HandedIn.{at_work}
use Rattle.ng_core.proofs.OpenStories.{open_story}
use Rattle.ng_machine.specs.story.Work.{IsDone}
use Rattle.ng_core_state.specs.declared.handed.Done.{Done}
use Rattle.ng_core_state.specs.declared.handed.Done.TheVariants as done
use Rattle.ng_core_state.specs.declared.handed.Work.{Work}
use Rattle.ng_core_state.specs.declared.handed.Work.TheVariants as works
use Rattle.ng_core_state.specs.declared.state.State.{State}
use Rattle.ng_core_state.specs.Handed.{handed_with, item_done, item_of, job_with}
use Rattle.ng_core_state.specs.Stands.{Stands}
use Rattle.ng_machine.proofs.Standing.{of_find, to_find}
use Rattle.ng_queue.specs.tie.Tie.{IsSorted}
use Rattle.ng_queue.proofs.tie.SortedItems.{sorted_one}
use Rattle.ng_trace.specs.Watch.{watch_found, watch_item}
use Rattle.ng_trace.specs.Watched.{Watched}

-- the item has a queue
pub known_queue : {B : Type 0} (s : State B) (a : RunState) (item : Item) → Stands s a → Has item a.world.pending → item.to.0 < length s.pending.queues.lists
known_queue s a item S h = S.items.known item h

-- the item that was worked on is the one that was taken
pub same_item : {B : Type 0} (state : B → NodeState) (w : Work B) (d : Done B) → IsDone (job_with state w) (handed_with state d) → item_done d ≡ item_of w
same_item state (works.Read item plan) (done.Read other outcome) D = cc D.1
same_item state (works.Read item plan) (done.Write other node outcome) D = absurd (cc D.1)
same_item state (works.Read item plan) (done.Inside other) D = absurd (cc D)
same_item state (works.Write item node) (done.Read other outcome) D = absurd (cc D.1)
same_item state (works.Write item node) (done.Write other now outcome) D = cc D.1
same_item state (works.Write item node) (done.Inside other) D = absurd (cc D)
same_item state (works.Inside item) (done.Read other outcome) D = absurd (cc D.1)
same_item state (works.Inside item) (done.Write other node outcome) D = absurd (cc D.1)
same_item state (works.Inside item) (done.Inside other) D = cc D

-- an item is found by its number
pub found_in : (items : List Item) (item : Item) → IsSorted 0 items → Has item items → find (has_id item.id) items ≡ Some item
found_in items item s h =
    let f = to_find (has_id item.id) item items h (eq-eqb item.id.0 item.id.0 refl) in
    let o = of_find (has_id item.id) f.0 items f.1 in
    f.1 ∙ ap Some (sorted_one 0 items f.0 item s o.0 h (eqb-true f.0.id.0 item.id.0 o.1))

-- what is noted of the item that was found is noted of the event
pub found_as : (a : RunState) (new : World) (item : Item) (id : ItemId) (t : Watched) → item.id ≡ id → find (has_id item.id) a.world.pending ≡ Some item
    → watch_found a new (find (has_id id) a.world.pending) t ≡ watch_item a new item (node_at a.world item.to) t
found_as a new item id t same found =
    ap (λ (o : Option Item). watch_found a new o t) (ap (λ (i : ItemId). find (has_id i) a.world.pending) (sym same) ∙ found)

module _ {B : Type 0} (state : B → NodeState) (s : Story) (seat : ℕ) (w : Work B) (d : Done B) (sound : IsSoundStory s) (running : has_ended s ≡ false)
    (own : job_with state w ≡ story_job s seat) (D : IsDone (job_with state w) (handed_with state d)) where
  -- what the seat works on
  pub working : IsAtWork (run_state_of s) seat (item_done d) (story_job s seat)
  working = at_work state s seat d (so_far s sound (open_story s running)) (subst (λ (job : Job). IsDone job (handed_with state d)) own D)

  -- it is the work that the item asks for now
  pub done_now : IsDone (job_of (run_state_of s).world (item_done d)) (handed_with state d)
  done_now = subst (λ (job : Job). IsDone job (handed_with state d)) (own ∙ sym working.job_is) D

  -- what is noted is that of the event
  pub noted_as : (S : State B) (new : World) (t : Watched) → Stands S (run_state_of s)
      → watch_found (run_state_of s) new (find (has_id (item_of w).id) (run_state_of s).world.pending) t
      ≡ watch_item (run_state_of s) new (item_done d) (node_at (run_state_of s).world (item_done d).to) t
  noted_as S new t stands =
      found_as (run_state_of s) new (item_done d) (item_of w).id t (ap (λ (i : Item). i.id) (same_item state w d D))
      (found_in (run_state_of s).world.pending (item_done d) stands.items.sorted working.pending)
