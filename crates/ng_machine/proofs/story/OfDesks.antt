-- What one event does to desks.
use Rattle.std.proofs.Common.{◌≡◌, ◌≢◌, ◌⊎◌, ℕ, zero, suc, List, [], ◌∷◌, ◌++◌, Bool, true, false, ◌&&◌, cond, ◌==◌, inl, inr, refl, sym, ap, ◌∙◌, subst, arith}
use Rattle.std.proofs.lemmas.List.{append-nil, get_or-set_same, get_or-set_other}
use Rattle.std.proofs.lemmas.Bool.{and_parts, eqb-true, eq-eqb, ne_eqb}
use Rattle.std.specs.declared.option.Option.{Option}
use Rattle.std.specs.declared.option.Option.TheVariants.{Some}
use Rattle.std.specs.List.{find}
use Rattle.ng_base.specs.declared.event.Event.{Event}
use Rattle.ng_base.specs.declared.event.Event.TheVariants.{Feed, Take, Back, Apply, Stop}
use Rattle.ng_base.specs.declared.ids.ItemId.{ItemId}
use Rattle.ng_machine.specs.declared.input.Input.{Input}
use Rattle.ng_machine.specs.declared.item.Item.{Item}
use Rattle.ng_machine.specs.Words.{Has}
use Rattle.ng_machine.specs.Body.{has_id}
use Rattle.ng_machine.specs.Feed.{RunInput}
use Rattle.ng_machine.specs.Run.{RunState, Taken, is_of, after, after_all, taken_after, beginning}
use Rattle.ng_machine.specs.Laws.{Setting, start, run_state_after, taken_by, IsJournal}
use Rattle.ng_machine.specs.Desk.{Job, Idle, SeatDesk, FirstDesk, has_taken, is_own, add_own, own_events_from, own_events, job_after, job_from, job_found, job_of, first_desk}
use Rattle.ng_machine.proofs.Standing.{of_any, to_any, of_find, to_find}
use Rattle.ng_machine.proofs.NodeLists.{item_same}
use Rattle.ng_machine.proofs.Ordering.{kept_all}
use Rattle.ng_machine.proofs.Held.{taken_once}
use Rattle.ng_machine.specs.story.Story.{Story, run_state_of, world_of, with_event, with_input}
use Rattle.ng_machine.specs.story.Closing.{stops, stopped_if}
use Rattle.ng_machine.specs.story.Desks.{story_job, story_desk}
use Rattle.ng_machine.specs.story.DeskLaws.{IsOrderlySoFar, TakeTells, BackTells, ApplyTells, FeedTells, CloseTells, GiveUpTells, stop_events}
use Rattle.ng_machine.proofs.story.MoreInputs.{same_job}
use Rattle.ng_machine.proofs.story.SetUps.{feeds, still_waited}

-- ONE EVENT MORE

add_push : (b : Bool) (e : Event) (xs ys : List Event) → add_own b e (xs ++ ys) ≡ add_own b e xs ++ ys
add_push true e xs ys = refl
add_push false e xs ys = refl

own_push : (given : RunInput) (at : RunState) (seat : ℕ) (j : List Event) (e : Event)
    → own_events_from at.taken seat (j ++ e ∷ []) ≡ own_events_from at.taken seat j ++ add_own (is_own (after_all given at j).taken seat e) e []
own_push given at seat [] e = refl
own_push given at seat (x ∷ xs) e =
    ap (add_own (is_own at.taken seat x) x) (own_push given (after given at x) seat xs e)
    ∙ add_push (is_own at.taken seat x) x (own_events_from (taken_after at.taken x) seat xs) (add_own (is_own (after_all given (after given at x) xs).taken seat e) e [])

job_push_from : (given : RunInput) (at : RunState) (seat : ℕ) (job : Job) (j : List Event) (e : Event)
    → job_from given at seat job (j ++ e ∷ []) ≡ job_after (after_all given at j) seat (job_from given at seat job j) e
job_push_from given at seat job [] e = refl
job_push_from given at seat job (x ∷ xs) e = job_push_from given (after given at x) seat (job_after at seat job x) xs e

pub job_push : (s : Story) (e : Event) (seat : ℕ) → story_job (with_event s e) seat ≡ job_after (run_state_of s) seat (story_job s seat) e
job_push s e seat = job_push_from s.setting.given (beginning (start s.setting)) seat Idle s.journal e

-- the desk, by the events and the job that it has then
desk_put : (s : Story) (e : Event) (seat : ℕ) (es : List Event) (job : Job) (first : Option FirstDesk) → own_events (s.journal ++ e ∷ []) seat ≡ es
    → story_job (with_event s e) seat ≡ job → first_desk s.setting (s.journal ++ e ∷ []) s.closed seat ≡ first
    → story_desk (with_event s e) seat ≡ record (story_desk s seat) { own = es; job = job; first = first }
desk_put s e seat es job first mine is shows =
    ap (λ (x : List Event). record (story_desk (with_event s e) seat) { own = x }) mine
    ∙ ap (λ (x : Job). record (story_desk (with_event s e) seat) { own = es; job = x }) is
    ∙ ap (λ (x : Option FirstDesk). record (story_desk (with_event s e) seat) { own = es; job = job; first = x }) shows

-- a seat that feeds nothing, or isn't the first, shows what it showed
first_stays : (s : Story) (e : Event) (seat : ℕ) → (feeds e ≡ false) ⊎ (seat ≢ 0)
    → first_desk s.setting (s.journal ++ e ∷ []) s.closed seat ≡ first_desk s.setting s.journal s.closed seat
first_stays s e (suc n) free = refl
first_stays s e zero (inr d) = absurd (d refl)
first_stays s e zero (inl none) =
    ap (λ (b : Bool). Some (let f : FirstDesk = record {
      own = s.setting.own;
      ports = s.setting.ports;
      stock = s.setting.stock;
      budget = s.setting.budget;
      inputs = s.setting.given.inputs;
      waited = b;
      closed = s.closed;
    } in f)) (still_waited s.setting s.journal e none)

-- an event of another seat that leaves the job
desk_other : (s : Story) (e : Event) (seat : ℕ) → (feeds e ≡ false) ⊎ (seat ≢ 0) → is_own (run_state_of s).taken seat e ≡ false → job_after (run_state_of s) seat (story_job s seat) e ≡ story_job s seat
    → story_desk (with_event s e) seat ≡ story_desk s seat
desk_other s e seat free not_mine stays =
    desk_put s e seat (own_events s.journal seat) (story_job s seat) (first_desk s.setting s.journal s.closed seat)
    (own_push s.setting.given (beginning (start s.setting)) seat s.journal e ∙ ap (λ (b : Bool). own_events s.journal seat ++ add_own b e []) not_mine ∙ append-nil (own_events s.journal seat))
    (job_push s e seat ∙ stays)
    (first_stays s e seat free)

-- an event of this seat
desk_mine : (s : Story) (e : Event) (seat : ℕ) (job : Job) (first : Option FirstDesk) → first_desk s.setting (s.journal ++ e ∷ []) s.closed seat ≡ first
    → is_own (run_state_of s).taken seat e ≡ true → job_after (run_state_of s) seat (story_job s seat) e ≡ job
    → story_desk (with_event s e) seat ≡ record (story_desk s seat) { own = own_events s.journal seat ++ e ∷ []; job = job; first = first }
desk_mine s e seat job first shows mine is =
    desk_put s e seat (own_events s.journal seat ++ e ∷ []) job first
    (own_push s.setting.given (beginning (start s.setting)) seat s.journal e ∙ ap (λ (b : Bool). own_events s.journal seat ++ add_own b e []) mine)
    (job_push s e seat ∙ is)
    shows

-- A TAKE

-- what is pending is found by its number
found_is : (s : Setting) (j : List Event) (item : Item) → IsJournal s j → Has item (run_state_after s j).world.pending → find (has_id item.id) (run_state_after s j).world.pending ≡ Some item
found_is s j item o h =
    let ps = (run_state_after s j).world.pending in
    let f = to_find (has_id item.id) item ps h (eq-eqb item.id.0 item.id.0 refl) in
    let g = of_find (has_id item.id) f.0 ps f.1 in
    f.1 ∙ ap (λ (x : Item). Some x) ((kept_all s j o).sound.one f.0 item g.0 h (eqb-true f.0.id.0 item.id.0 g.1))

pub take_tells : TakeTells
take_tells s item seat o h = (
  λ other d. let n : (seat == other) ≡ false = ne_eqb seat other (λ e. d (sym e)) in
      desk_other s (Take seat item.id) other (inl refl) n (ap (λ (b : Bool). cond b (job_found (world_of s) (find (has_id item.id) (world_of s).pending)) (story_job s other)) n),
  (let same : (seat == seat) ≡ true = eq-eqb seat seat refl in
      desk_mine s (Take seat item.id) seat (job_of (world_of s) item) (first_desk s.setting s.journal s.closed seat) (first_stays s (Take seat item.id) seat (inl refl)) same
      (ap (λ (b : Bool). cond b (job_found (world_of s) (find (has_id item.id) (world_of s).pending)) (story_job s seat)) same ∙ ap (job_found (world_of s)) (found_is s.setting s.journal item o h))),
)

-- WHO HAS TAKEN AN ITEM

pub mine_taken : (taken : List Taken) (id : ItemId) (seat : ℕ) → Has (taken_by id seat) taken → has_taken taken id seat ≡ true
mine_taken taken id seat h = to_any (λ t. is_of id t && t.seat == seat) (taken_by id seat) taken h (let a = eq-eqb id.0 id.0 refl in let b = eq-eqb seat seat refl in grind arith)

pub whose_taken : (taken : List Taken) (id : ItemId) (seat : ℕ) → has_taken taken id seat ≡ true → Has (taken_by id seat) taken
whose_taken taken id seat b =
    let t = of_any (λ t. is_of id t && t.seat == seat) taken b in
    let k = and_parts _ _ t.2 in
    let same : t.0 ≡ taken_by id seat = ap (λ (i : ItemId). taken_by i t.0.seat) (item_same t.0.id id (eqb-true _ _ k.0)) ∙ ap (taken_by id) (eqb-true _ _ k.1) in
    subst (λ (x : Taken). Has x taken) same t.1

others_taken : (s : Story) (id : ItemId) (seat other : ℕ) → IsOrderlySoFar s → Has (taken_by id seat) (run_state_of s).taken → other ≢ seat → has_taken (run_state_of s).taken id other ≡ false
others_taken s id seat other o h d = by (has_taken (run_state_of s).taken id other) refl
  where
    by : (b : Bool) → has_taken (run_state_of s).taken id other ≡ b → has_taken (run_state_of s).taken id other ≡ false
    by true e = absurd (d ((taken_once s.setting s.journal o).0 id other seat (whose_taken (run_state_of s).taken id other e) h))
    by false e = e

pub back_tells : BackTells
back_tells s id seat o h = (
  λ other d. let n = others_taken s id seat other o h d in desk_other s (Back id) other (inl refl) n (ap (λ (b : Bool). cond b Idle (story_job s other)) n),
  (let m = mine_taken (run_state_of s).taken id seat h in desk_mine s (Back id) seat Idle (first_desk s.setting s.journal s.closed seat) (first_stays s (Back id) seat (inl refl)) m (ap (λ (b : Bool). cond b Idle (story_job s seat)) m)),
)

pub apply_tells : ApplyTells
apply_tells s id seat o h = (
  λ other d. let n = others_taken s id seat other o h d in desk_other s (Apply id) other (inl refl) n (ap (λ (b : Bool). cond b Idle (story_job s other)) n),
  (let m = mine_taken (run_state_of s).taken id seat h in desk_mine s (Apply id) seat Idle (first_desk s.setting s.journal s.closed seat) (first_stays s (Apply id) seat (inl refl)) m (ap (λ (b : Bool). cond b Idle (story_job s seat)) m)),
)

-- MORE INPUTS

-- the desk of another seat has no inputs
desk_input : (s : Story) (input : Input) (seat : ℕ) → IsOrderlySoFar s → seat ≢ 0 → story_desk (with_input s input) seat ≡ story_desk s seat
desk_input s input zero o d = absurd (d refl)
desk_input s input (suc n) o d = ap (λ (x : Job). record (story_desk s (suc n)) { job = x }) (same_job s.setting (input ∷ []) s.journal (suc n) o)

pub feed_tells : FeedTells
feed_tells s input o = (
  λ other d. desk_other (with_input s input) Feed other (inr d) (ne_eqb other 0 d) refl ∙ desk_input s input other o d,
  desk_mine (with_input s input) Feed 0 (story_job s 0) (first_desk (with_input s input).setting (s.journal ++ Feed ∷ []) s.closed 0) refl refl (same_job s.setting (input ∷ []) s.journal 0 o),
)

-- THE END

desk_closed : (s : Story) (closed : Option ℕ) (seat : ℕ) → seat ≢ 0 → story_desk (record s { closed = closed }) seat ≡ story_desk s seat
desk_closed s closed zero d = absurd (d refl)
desk_closed s closed (suc n) d = refl

stopped_other : (s : Story) (seat : ℕ) (b : Bool) → seat ≢ 0 → story_desk (stopped_if b s) seat ≡ story_desk s seat
stopped_other s seat true d = desk_other s Stop seat (inl refl) (ne_eqb seat 0 d) refl
stopped_other s seat false d = refl

stopped_first : (s : Story) (unfed : ℕ) (b : Bool)
    → story_desk (record (stopped_if b s) { closed = Some unfed }) 0 ≡ record (story_desk s 0) { own = (story_desk s 0).own ++ stop_events b; first = first_desk s.setting s.journal (Some unfed) 0 }
stopped_first s unfed true =
    ap (λ (d : SeatDesk). record d { first = first_desk s.setting (s.journal ++ Stop ∷ []) (Some unfed) 0 })
    (desk_mine s Stop 0 (story_job s 0) (first_desk s.setting s.journal s.closed 0) (first_stays s Stop 0 (inl refl)) refl refl)
    ∙ ap (λ (o : Option FirstDesk). record (story_desk s 0) { own = (story_desk s 0).own ++ Stop ∷ []; first = o })
    (first_stays (record s { closed = Some unfed }) Stop 0 (inl refl))
stopped_first s unfed false = ap (λ (l : List Event). record (story_desk s 0) { own = l; first = first_desk s.setting s.journal (Some unfed) 0 }) (sym (append-nil (story_desk s 0).own))

pub close_tells : CloseTells
close_tells s unfed = (
  λ seat d. desk_closed (stopped_if (stops s unfed) s) (Some unfed) seat d ∙ stopped_other s seat (stops s unfed) d,
  stopped_first s unfed (stops s unfed),
)

pub give_up_tells : GiveUpTells
give_up_tells s seat lt = (
  λ other d. ap (λ (b : Bool). record (story_desk s other) { gave_up = b }) (get_or-set_other s.gave_up seat other true false d),
  ap (λ (b : Bool). record (story_desk s seat) { gave_up = b }) (get_or-set_same s.gave_up seat true false lt),
)
