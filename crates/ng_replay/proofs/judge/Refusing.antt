-- What a core that has followed a journal so far refuses isn't allowed there.
use Rattle.std.proofs.Common.{◌≡◌, ◌≢◌, inl, inr, ℕ, zero, suc, ◌<◌, ◌≤◌, true, false, List, [], ◌∷◌, ◌++◌, length, slice_get, is_none, refl, sym, ap, ◌∙◌, ⊎_elim, subst, length-append, arith, true≢false}
use Rattle.std.specs.List.{list_any}
use Rattle.std.proofs.lemmas.Bool.{eq-eqb, or_parts}
use Rattle.std.proofs.lemmas.Option.{slice_get_past}
use Rattle.std.specs.declared.option.Option.{Option}
use Rattle.std.specs.declared.option.Option.TheVariants.{None, Some}
use Rattle.ng_base.specs.declared.event.Event.{Event}
use Rattle.ng_base.specs.declared.event.Event.TheVariants.{Feed, Take, Back, Apply, Stop}
use Rattle.ng_base.specs.declared.ids.ItemId.{ItemId}
use Rattle.ng_machine.specs.declared.input.Input.{Input}
use Rattle.ng_machine.specs.Desk.{Job, Idle, Within, Reads, Writes}
use Rattle.ng_machine.specs.Laws.{IsJournal, start, taken_by}
use Rattle.ng_machine.specs.Orderly.{Allowed, IsTaken, MayFeedNext, MayTakeNow}
use Rattle.ng_machine.specs.Refusal.{feed_refusal}
use Rattle.ng_machine.specs.Run.{RunState, Taken, beginning}
use Rattle.ng_machine.specs.State.{State}
use Rattle.ng_machine.specs.Words.{Has}
use Rattle.ng_machine.proofs.Feeding.{feeds_unless_refused}
use Rattle.ng_machine.proofs.Held.{taken_once}
use Rattle.ng_machine.proofs.Ordering.{orderly_back}
use Rattle.ng_workers.specs.pool.Feeding.{IsUnfed}
use Rattle.ng_workers.specs.pool.Held.{HoldsJobs, held_at, held_job}
use Rattle.ng_core.proofs.OpenStories.{open_story}
use Rattle.ng_machine.specs.story.Closing.{is_spent}
use Rattle.ng_machine.specs.story.Desks.{IsJobNow, story_job}
use Rattle.ng_machine.specs.story.SoundStory.{IsSoundStory}
use Rattle.ng_machine.specs.story.Story.{NothingToTake, Story, has_ended, run_state_of, with_event, world_of}
use Rattle.ng_machine.proofs.story.AtWork.{jobs_stand}
use Rattle.ng_machine.proofs.story.MoreInputs.{get_next}
use Rattle.ng_machine.proofs.story.SoundStories.{so_far}
use Rattle.ng_core_state.specs.declared.handed.Work.{Work}
use Rattle.ng_core_state.specs.declared.handed.Work.TheVariants.{Read, Write, Inside}
use Rattle.ng_core_state.specs.Handed.{item_of, job_with}
use Rattle.ng_replay.specs.judge.Following.{Goes, HasRest, Refuses, all_with, has_item}

-- what an allowed event is there
allowed_now : (s : Story) (left : List Input) (event : Event) → Goes s left → IsJournal (all_with s left) (s.journal ++ event ∷ [])
    → Allowed (all_with s left).given s.setting.budget s.setting.seats (run_state_of s) event
allowed_now s left event G J =
    subst (λ (at : RunState). Allowed (all_with s left).given s.setting.budget s.setting.seats at event) G.stands.run
    (orderly_back (all_with s left).given s.setting.budget s.setting.seats (beginning (start s.setting)) s.journal (event ∷ []) J).0

-- AFTER A STOP

pub refuses_ended : (s : Story) (left : List Input) (event : Event) → Goes s left → has_ended s ≡ true → Refuses s left event
refuses_ended s left event G ended J = true≢false (sym ended ∙ G.ended ∙ (allowed_now s left event G J).0)

-- A FEED

-- the input at this place may be fed
abbrev MayFeedAt : Story → List Input → ℕ → Type 0
MayFeedAt s left n = MayFeedNext (world_of s) (slice_get (s.setting.given.inputs ++ left) n)

unfed_refused : (s : Story) (left : List Input) → IsUnfed s left → (world_of s).applies < s.setting.budget → MayFeedAt s left (length s.setting.given.inputs) → ⊥
unfed_refused s [] unfed within next =
    subst (MayFeedNext (world_of s)) (slice_get_past (s.setting.given.inputs ++ []) (length s.setting.given.inputs) (let l = length-append s.setting.given.inputs [] in omega arith)) next
unfed_refused s (input ∷ rest) (why, refused) within next =
    let fits = subst (MayFeedNext (world_of s)) (get_next s.setting.given.inputs rest input) next in
    let fine : is_none (feed_refusal s.setting.budget (world_of s) input) ≡ true = (feeds_unless_refused s.setting.budget (world_of s) input).1 (within, fits) in
    true≢false (sym fine ∙ ap is_none refused)

-- no input is left, or the next is refused
pub refuses_feed : (s : Story) (left : List Input) → IsSoundStory s → Goes s left → IsUnfed s left → Refuses s left Feed
refuses_feed s left sound G unfed = λ J.
    let may = (allowed_now s left Feed G J).1 in
    unfed_refused s left unfed may.0 (subst (MayFeedAt s left) sound.fed may.1)

-- A TAKE

module _ (s : Story) (left : List Input) (id : ItemId) (seat : ℕ) (G : Goes s left) where
  abbrev Now : Type 0
  Now = MayTakeNow s.setting.budget s.setting.seats (run_state_of s) id seat

  taking : IsJournal (all_with s left) (s.journal ++ Take seat id ∷ []) → Now
  taking J = (allowed_now s left (Take seat id) G J).1

  -- there is no such seat
  pub refuses_seat : s.setting.seats ≤ seat → Refuses s left (Take seat id)
  refuses_seat le J = let lt = (taking J).seat_is in absurd (omega arith)

  -- nothing is to be taken
  pub refuses_nothing : has_ended s ≡ false → NothingToTake s → Refuses s left (Take seat id)
  refuses_nothing running (inl ended) J = true≢false (sym ended ∙ running)
  refuses_nothing running (inr (inl spent)) J = let lt = (taking J).within in absurd (omega arith)
  refuses_nothing running (inr (inr never)) J = let T = taking J in never T.item T.may

  -- another item is to be taken
  pub refuses_other : (other : ItemId) → IsSoundStory (with_event s (Take seat other)) → has_ended s ≡ false → other ≢ id → Refuses s left (Take seat id)
  refuses_other other sound running ne J =
      let T = taking J in
      let U : MayTakeNow s.setting.budget s.setting.seats (run_state_of s) other seat =
      (orderly_back s.setting.given s.setting.budget s.setting.seats (beginning (start s.setting)) s.journal (Take seat other ∷ []) (so_far (with_event s (Take seat other)) sound (open_story s running))).0.1 in
      let a : id.0 ≤ U.item.id.0 = T.least U.item U.may in
      let b : other.0 ≤ T.item.id.0 = U.least T.item T.may in
      let c : U.item.id.0 ≡ other.0 = ap (λ (i : ItemId). i.0) U.item_is in
      let d : T.item.id.0 ≡ id.0 = ap (λ (i : ItemId). i.0) T.item_is in
      ne (ap (λ (n : ℕ). let i : ItemId = record { 0 = n } in i) (omega (arith, a, b, c, d)))

-- WHAT SEATS HAVE

-- a seat with a job has taken an item
at_work : (at : RunState) (seat : ℕ) (job : Job) → IsJobNow at seat job → (job ≡ Idle → ⊥) → (t : Taken) × Has t at.taken × (t.seat ≡ seat)
at_work at seat Idle now busy = absurd (busy refl)
at_work at seat (Within item) now busy = (taken_by item.id seat, now.taken, refl)
at_work at seat (Reads item plan) now busy = (taken_by item.id seat, now.taken, refl)
at_work at seat (Writes item state) now busy = (taken_by item.id seat, now.taken, refl)

job_now : (s : Story) (seat : ℕ) → IsSoundStory s → has_ended s ≡ false → IsJobNow (run_state_of s) seat (story_job s seat)
job_now s seat sound running = jobs_stand s seat (so_far s sound (open_story s running))

-- a seat that has an item takes none
pub refuses_busy : (s : Story) (left : List Input) (id : ItemId) (seat : ℕ) → Goes s left → IsSoundStory s → has_ended s ≡ false → (story_job s seat ≡ Idle → ⊥) → Refuses s left (Take seat id)
refuses_busy s left id seat G sound running busy J =
    let t = at_work (run_state_of s) seat (story_job s seat) (job_now s seat sound running) busy in
    (taking s left id seat G J).seat_free t.0 t.1 t.2

module _ {B : Type 0} (state : B → State) (held : List (Option (Work B))) (s : Story) (H : HoldsJobs state held s) (sound : IsSoundStory s) (running : has_ended s ≡ false) where
  -- the work that a seat holds is that of the item that it has taken
  its_work : (at : RunState) (seat : ℕ) (w : Work B) → IsJobNow at seat (job_with state w) → Has (taken_by (item_of w).id seat) at.taken
  its_work at seat (Read item plan) now = now.taken
  its_work at seat (Write item node) now = now.taken
  its_work at seat (Inside item) now = now.taken

  -- what is taken is held by its seat
  is_held : (t : Taken) → Has t (run_state_of s).taken → (w : Work B) × (held_at held t.seat ≡ Some w) × ((item_of w).id ≡ t.id)
  is_held t h = by (held_at held t.seat) refl
    where
      now : (o : Option (Work B)) → held_at held t.seat ≡ o → IsJobNow (run_state_of s) t.seat (held_job state o)
      now o e = subst (IsJobNow (run_state_of s) t.seat) (H.jobs t.seat ∙ ap (held_job state) e) (job_now s t.seat sound running)

      by : (o : Option (Work B)) → held_at held t.seat ≡ o → (w : Work B) × (held_at held t.seat ≡ Some w) × ((item_of w).id ≡ t.id)
      by None e = absurd (now None e t h refl)
      by (Some w) e = (w, e, (taken_once s.setting s.journal (so_far s sound (open_story s running))).1 (item_of w).id t.id t.seat (its_work (run_state_of s) t.seat w (now (Some w) e)) h)

  -- what no seat holds isn't taken
  none_at : (id : ItemId) (l : List (Option (Work B))) (k : ℕ) (w : Work B) → list_any (has_item id) l ≡ false → held_at l k ≡ Some w → (item_of w).id ≡ id → ⊥
  none_at id [] k w none here is = absurd (cc here)
  none_at id (x ∷ l) zero w none here is =
      true≢false (sym (ap (has_item id) here ∙ eq-eqb (item_of w).id.0 id.0 (ap (λ (i : ItemId). i.0) is)) ∙ (or_parts (has_item id x) (list_any (has_item id) l) none).0)
  none_at id (x ∷ l) (suc k) w none here is = none_at id l k w (or_parts (has_item id x) (list_any (has_item id) l) none).1 here is

  untaken : (id : ItemId) → list_any (has_item id) held ≡ false → IsTaken (run_state_of s).taken id → ⊥
  untaken id none (t, h, e) = let k = is_held t h in none_at id held t.seat k.0 none k.1 (k.2 ∙ e)

  pub refuses_back : (left : List Input) (id : ItemId) → Goes s left → list_any (has_item id) held ≡ false → Refuses s left (Back id)
  refuses_back left id G none J = untaken id none (allowed_now s left (Back id) G J).1

  pub refuses_apply : (left : List Input) (id : ItemId) → Goes s left → list_any (has_item id) held ≡ false → Refuses s left (Apply id)
  refuses_apply left id G none J = untaken id none (allowed_now s left (Apply id) G J).1

-- A STOP

-- the limit isn't reached
pub refuses_below : (s : Story) (left : List Input) → Goes s left → is_spent s ≡ false → Refuses s left Stop
refuses_below s left G below J = true≢false (sym (eq-eqb (world_of s).applies s.setting.budget (allowed_now s left Stop G J).1.0) ∙ below)

-- nothing is pending or unfed
pub refuses_no_rest : (s : Story) (left : List Input) → IsSoundStory s → Goes s left → (HasRest (world_of s) (length left) → ⊥) → Refuses s left Stop
refuses_no_rest s left sound G none J = ⊎_elim
    (λ (lt : 0 < length (world_of s).pending). none (inl lt))
    (λ (lt : (world_of s).fed < length (s.setting.given.inputs ++ left)). none (inr (let l = length-append s.setting.given.inputs left in let f = sound.fed in omega arith)))
    (allowed_now s left Stop G J).1.1
