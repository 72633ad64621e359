-- One event, by what the calls say.
use Rattle.std.proofs.Common.{◌≡◌, ◌≢◌, ℕ, ◌<◌, Bool, true, false, not, ◌==◌, List, [], ◌∷◌, get_or, length, is_some, refl, sym, ap, ◌∙◌, ⊎_elim, subst, true≢false}
use Rattle.std.proofs.lemmas.Bool.{cases_eq, eq-eqb, eqb-true}
use Rattle.std.proofs.lemmas.List.{get_or_default}
use Rattle.std.specs.Prelude.{IfNone, IfOk, IfSome, slice_set, unwrap_or}
use Rattle.std.specs.declared.option.Option.{Option}
use Rattle.std.specs.declared.option.Option.TheVariants.{None, Some}
use Rattle.std.specs.declared.result.Result.{Result}
use Rattle.std.specs.declared.result.Result.TheVariants.{Ok, Err}
use Rattle.ng_base.specs.declared.event.Event.{Event}
use Rattle.ng_base.specs.declared.event.Event.TheVariants as by
use Rattle.ng_base.specs.declared.ids.ItemId.{ItemId}
use Rattle.ng_machine.specs.declared.input.Input.{Input}
use Rattle.ng_machine.specs.Desk.{Idle, SeatDesk}
use Rattle.ng_machine.specs.Laws.{Setting}
use Rattle.ng_machine.specs.LowRun.{IsModest}
use Rattle.ng_machine.specs.State.{State}
use Rattle.ng_workers.specs.pool.Feeding.{IsFed}
use Rattle.ng_workers.specs.pool.Held.{HoldsJobs, held_at, held_job}
use Rattle.ng_workers.proofs.pool.Holding.{holds_set}
use Rattle.ng_machine.specs.story.Closing.{is_spent, stopped_if}
use Rattle.ng_machine.specs.story.Desks.{Others, story_job}
use Rattle.ng_machine.specs.story.SoundStory.{IsSoundStory}
use Rattle.ng_machine.specs.story.Story.{AreFitFor, Story, has_ended, with_event, with_more, world_of}
use Rattle.ng_core_state.specs.declared.handed.Work.{Work}
use Rattle.ng_core_state.specs.declared.handed.Work.TheVariants.{Read, Write, Inside}
use Rattle.ng_replay.specs.judge.Following.{Follows, Goes, HasRest, Refuses}
use Rattle.ng_replay.proofs.judge.Followed.{follows_stop, stopped_with}
use Rattle.ng_replay.proofs.judge.Refusing.{refuses_below, refuses_no_rest}

-- the work on an item is no idle job
pub busy_with : {B : Type 0} (state : B → State) (w : Option (Work B)) → is_some w ≡ true → held_job state w ≡ Idle → ⊥
busy_with state None some idle = true≢false (sym some)
busy_with state (Some (Read item plan)) some idle = absurd (cc idle)
busy_with state (Some (Write item node)) some idle = absurd (cc idle)
busy_with state (Some (Inside item)) some idle = absurd (cc idle)

-- a seat that held nothing takes, one that held something holds nothing
pub holds_more : {B : Type 0} (state : B → State) (held now : List (Option (Work B))) (s t : Story) (event : Event) (seat : ℕ) (w : Option (Work B)) → HoldsJobs state held s → now ≡ slice_set held seat w
    → Others seat s t → story_job t seat ≡ held_job state w → t ≡ with_event s event → has_ended s ≡ false → seat < length held → HoldsJobs state now t
holds_more state held now s t event seat w H is others job more running lt =
    let ends : has_ended t ≡ has_ended s = ap has_ended more in
    subst (λ h. HoldsJobs state h t) (sym is) (holds_set state held s t seat w H others job (λ _. ends ∙ running) ends lt)

-- a feed changes no job
pub holds_fed : {B : Type 0} (state : B → State) (held : List (Option (Work B))) (s t : Story) → HoldsJobs state held s → Others 0 s t → story_job t 0 ≡ story_job s 0 → has_ended t ≡ has_ended s → HoldsJobs state held t
holds_fed state held s t H others first ends = record {
  jobs = λ k. ⊎_elim
      (λ (e : k ≡ 0). ap (story_job t) e ∙ first ∙ sym (ap (story_job s) e) ∙ H.jobs k)
      (λ (ne : k ≢ 0). ap (λ (d : SeatDesk). d.job) (others k ne) ∙ H.jobs k)
      (cases_eq k 0);
  running = λ k some. ends ∙ H.running k some;
}

pub fed_ends : (s t : Story) (left rest : List Input) → IsFed s left t rest → has_ended t ≡ has_ended s
fed_ends s t [] rest fed = absurd fed
fed_ends s t (input ∷ left) rest fed = ap has_ended fed.0

pub fed_seats : (s t : Story) (left rest : List Input) → IsFed s left t rest → t.setting.seats ≡ s.setting.seats
fed_seats s t [] rest fed = absurd fed
fed_seats s t (input ∷ left) rest fed = ap (λ (x : Story). x.setting.seats) fed.0

-- what holds where the input was fed and where it wasn't
pub either : {A : Type 0} (fed : Bool) → (fed ≡ true → A) → (fed ≡ false → A) → A
either true t f = t refl
either false t f = f refl

-- A CLOSED CORE, where so many inputs are left

is_some_true : (o : Option Bool) → unwrap_or o false ≡ true → o ≡ Some true
is_some_true None e = absurd (true≢false (sym e))
is_some_true (Some b) e = ap (λ (x : Bool). Some x) e

abbrev ClosedWith : Story → Story → Option Bool → ℕ → Type 0
ClosedWith s t o n = IfSome o (λ b. t ≡ record (stopped_if b s) { closed = Some n })

closed_as : (s t : Story) (o : Option Bool) (n : ℕ) → o ≡ Some true → ClosedWith s t o n → t ≡ stopped_with s n
closed_as s t o n is closed = subst (λ (x : Option Bool). ClosedWith s t x n) is closed

pub follows_closed : (s t : Story) (left : List Input) (o : Option Bool) (n : ℕ) → n ≡ length left → unwrap_or o false ≡ true → ClosedWith s t o n → IsSoundStory t → Goes s left → Follows s left by.Stop t left
follows_closed s t left o n many is closed sound G =
    follows_stop s t left (closed_as s t o n (is_some_true o is) closed ∙ ap (stopped_with s) many) sound G

refuses_none : (s : Story) (left : List Input) (o : Option Bool) → unwrap_or o false ≡ false → IfSome o (λ b. b ≡ false → HasRest (world_of s) (length left) → ⊥)
    → IfNone o ((is_spent s ≡ false) × HasRest (world_of s) (length left)) → IsSoundStory s → Goes s left → Refuses s left by.Stop
refuses_none s left None is rest below sound G = refuses_below s left G below.0
refuses_none s left (Some b) is rest below sound G = refuses_no_rest s left sound G (rest is)

pub refuses_closed : (s : Story) (left : List Input) (o : Option Bool) (n : ℕ) → n ≡ length left → unwrap_or o false ≡ false → IfSome o (λ b. b ≡ false → HasRest (world_of s) n → ⊥)
    → IfNone o ((is_spent s ≡ false) × HasRest (world_of s) n) → IsSoundStory s → Goes s left → Refuses s left by.Stop
refuses_closed s left o n many is rest below sound G =
    refuses_none s left o is (subst (λ (k : ℕ). IfSome o (λ b. b ≡ false → HasRest (world_of s) k → ⊥)) many rest)
    (subst (λ (k : ℕ). IfNone o ((is_spent s ≡ false) × HasRest (world_of s) k)) many below) sound G

-- THE ITEM THAT IS TAKEN

not_false : (b : Bool) → not b ≡ false → b ≡ true
not_false true e = refl
not_false false e = absurd (true≢false e)

pub other_item : (found item name : ItemId) (r : Bool) → r ≡ not (found.0 == name.0) → r ≡ true → found ≡ item → item ≡ name → ⊥
other_item found item name r is t same e = true≢false (sym t ∙ is ∙ ap not (eq-eqb found.0 name.0 (ap (λ (i : ItemId). i.0) (same ∙ e))))

pub same_item : (found item name : ItemId) (r : Bool) → r ≡ not (found.0 == name.0) → r ≡ false → found ≡ item → item ≡ name
same_item found item name r is f same =
    sym same ∙ ap (λ (n : ℕ). let i : ItemId = record { 0 = n } in i) (eqb-true found.0 name.0 (not_false (found.0 == name.0) (sym is ∙ f)))

-- ANSWERS THAT MAY BE OUT OF MEMORY

pub if_ok_all : {A E : Type 0} (P : A → Type 0) (r : Result A E) → ((a : A) → P a) → IfOk r P
if_ok_all P (Ok a) all = all a
if_ok_all P (Err e) all = tt

pub if_ok_map : {A E : Type 0} (P Q : A → Type 0) (r : Result A E) → IfOk r P → ((a : A) → P a → Q a) → IfOk r Q
if_ok_map P Q (Ok a) is all = all a is
if_ok_map P Q (Err e) is all = tt

-- the setting stays, and so do the inputs that fit
pub fits_same : (s t : Story) (left : List Input) → t.setting ≡ s.setting → AreFitFor s left → AreFitFor t left
fits_same s t left same fits = subst (λ (x : Setting). IsModest (with_more x left)) (sym same) fits

-- a seat at which something is held has a job
pub busy_seat : {B : Type 0} (state : B → State) (held : List (Option (Work B))) (s : Story) (seat : ℕ) (w : Option (Work B)) → HoldsJobs state held s → seat < length held → is_some (get_or held seat w) ≡ true
    → story_job s seat ≡ Idle → ⊥
busy_seat state held s seat w H lt some idle =
    busy_with state (held_at held seat) (ap is_some (get_or_default held seat None w lt) ∙ some) (sym (H.jobs seat) ∙ idle)
