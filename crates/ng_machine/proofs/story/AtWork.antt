-- A node stays as the desk of a seat has it, from the seat's Take on.
use Rattle.std.proofs.Common.{◌≡◌, ◌≢◌, ◌⊎◌, inl, inr, ℕ, List, [], ◌∷◌, ◌++◌, Bool, true, false, not, ◌&&◌, ◌||◌, cond, ◌==◌, is_none, refl, sym, ap, ◌∙◌, subst, ⊎_elim, arith, true≢false}
use Rattle.std.proofs.lemmas.List.{append-nil, append_assoc}
use Rattle.std.proofs.lemmas.Bool.{eqb-true, eqb-false, eq-eqb, ne_eqb, or_parts, not-true}
use Rattle.std.specs.declared.option.Option.{Option}
use Rattle.std.specs.declared.option.Option.TheVariants.{None, Some}
use Rattle.std.specs.List.{find, list_any}
use Rattle.ng_base.specs.declared.event.Event.{Event}
use Rattle.ng_base.specs.declared.event.Event.TheVariants.{Feed, Take, Back, Apply, Stop}
use Rattle.ng_base.specs.declared.ids.ItemId.{ItemId}
use Rattle.ng_machine.specs.declared.body.Body.{Body}
use Rattle.ng_machine.specs.declared.body.Body.TheVariants.{Frame, Msg, Join2, Join3, Undo, Leave, Rebind, Tick, Learn}
use Rattle.ng_machine.specs.declared.body.Door.TheVariants.{Wire, Hook as ByHook}
use Rattle.ng_machine.specs.declared.hook.Hook.{Hook}
use Rattle.ng_machine.specs.declared.item.Item.{Item}
use Rattle.ng_machine.specs.declared.plan.Plan.{Plan}
use Rattle.ng_machine.specs.Words.{Has}
use Rattle.ng_machine.specs.Body.{has_id, is_writer, writes_by_packets}
use Rattle.ng_machine.specs.State.{KindState, HubState, HoleState, EchoState, SplitState, SocketState, TeeState, One2manyState, BridgeState, VlanState, PatchState, BpfState, EtherState, EtfState, MacsetState, State, kind_of_kept, way_of, way_of_kept}
use Rattle.ng_machine.specs.World.{World, NodeRecord, node_at, state_of, kind_at, linked_hook, is_named}
use Rattle.ng_machine.specs.Effect.{class_of, is_hook_gone}
use Rattle.ng_machine.specs.Run.{RunState, Taken, is_of, without, after, after_all, taken_after, beginning}
use Rattle.ng_machine.specs.Laws.{Setting, start, run_state_after, world_after, taken_by, IsJournal, ends, hooks_at, way_at}
use Rattle.ng_machine.specs.Desk.{Job, Idle, Within, Reads, Writes, frame_job, is_of_kind, writes_if, learn_job, body_job, job_unless_gone, job_at, job_of, job_found, has_taken, job_after, job_from}
use Rattle.ng_machine.proofs.Standing.{in_front, in_back, in_pushed, of_filter, to_filter, of_find, to_find, to_any}
use Rattle.ng_machine.proofs.NodeLists.{item_same}
use Rattle.ng_machine.proofs.Held.{taken_once}
use Rattle.ng_machine.proofs.Moves.{kept_event, kept_run}
use Rattle.ng_machine.proofs.Ordering.{after-append, orderly_front, orderly_back, kept_before}
use Rattle.ng_machine.proofs.Stilled.{NodeKept, remains_run}
use Rattle.ng_machine.specs.story.Story.{Story, run_state_of}
use Rattle.ng_machine.specs.story.Desks.{story_job, IsAtWork, IsJobNow}
use Rattle.ng_machine.specs.story.DeskLaws.{IsOrderlySoFar, JobsStand}
use Rattle.ng_machine.proofs.story.OfDesks.{whose_taken}

-- THE LAST TAKE OF A SEAT

-- the item was taken here, and the taking has not ended
record LastTake (s : Setting) (seat : ℕ) (j : List Event) (job : Job) : Type 0 where
  front : List Event
  more : List Event
  item : Item
  parts : j ≡ front ++ Take seat item.id ∷ more
  unended : list_any (ends item.id) more ≡ false
  was_pending : Has item (world_after s front).pending
  job_is : job ≡ job_of (world_after s front) item
  mine : Has (taken_by item.id seat) (run_state_after s j).taken

-- the seat has nothing, or what it took last
abbrev TakenLast : Setting → ℕ → List Event → Job → Type 0
TakenLast s seat j job = ((job ≡ Idle) × ((t : Taken) → Has t (run_state_after s j).taken → t.seat ≡ seat → ⊥)) ⊎ LastTake s seat j job

any_push : {A : Type 0} (test : A → Bool) (xs : List A) (x : A) → list_any test xs ≡ false → test x ≡ false → list_any test (xs ++ x ∷ []) ≡ false
any_push test [] x a b = ap (λ (c : Bool). c || false) b
any_push test (y ∷ ys) x a b =
    let k = or_parts (test y) (list_any test ys) a in
    ap (λ (c : Bool). c || list_any test (ys ++ x ∷ [])) k.0 ∙ any_push test ys x k.1 b

-- an event that does not end it
last_more : (s : Setting) (seat : ℕ) (j : List Event) (e : Event) (job : Job) (L : LastTake s seat j job) → ends L.item.id e ≡ false
    → Has (taken_by L.item.id seat) (run_state_after s (j ++ e ∷ [])).taken → LastTake s seat (j ++ e ∷ []) job
last_more s seat j e job L n h = record {
  front = L.front;
  more = L.more ++ e ∷ [];
  item = L.item;
  parts = ap (λ (l : List Event). l ++ e ∷ []) L.parts ∙ append_assoc L.front (Take seat L.item.id ∷ L.more) (e ∷ []);
  unended = any_push (ends L.item.id) L.more e L.unended n;
  was_pending = L.was_pending;
  job_is = L.job_is;
  mine = h;
}

taken_push : (s : Setting) (j : List Event) (e : Event) → (run_state_after s (j ++ e ∷ [])).taken ≡ taken_after (run_state_after s j).taken e
taken_push s j e = ap (λ (a : RunState). a.taken) (after-append s.given (beginning (start s)) j (e ∷ []))

-- the event leaves what is taken
keeps_taken : (s : Setting) (seat : ℕ) (j : List Event) (e : Event) (job : Job) → taken_after (run_state_after s j).taken e ≡ (run_state_after s j).taken → ((id : ItemId) → ends id e ≡ false)
    → TakenLast s seat j job → TakenLast s seat (j ++ e ∷ []) job
keeps_taken s seat j e job same spares (inl (is, free)) = inl (is, λ t h. free t (subst (Has t) (taken_push s j e ∙ same) h))
keeps_taken s seat j e job same spares (inr L) = inr (last_more s seat j e job L (spares L.item.id) (subst (Has (taken_by L.item.id seat)) (sym (taken_push s j e ∙ same)) L.mine))

-- a Take by another seat
take_other : (s : Setting) (seat : ℕ) (j : List Event) (id : ItemId) (by : ℕ) (job : Job) → by ≢ seat → TakenLast s seat j job → TakenLast s seat (j ++ Take by id ∷ []) job
take_other s seat j id by job d (inl (is, free)) = inl (
  is,
  λ t h e. ⊎_elim
      (λ (k : Has t (run_state_after s j).taken). free t k e)
      (λ (n : t ≡ taken_by id by). d (ap (λ (x : Taken). x.seat) (sym n) ∙ e))
      (in_pushed t (taken_by id by) (run_state_after s j).taken (subst (Has t) (taken_push s j (Take by id)) h)),
)
take_other s seat j id by job d (inr L) = inr (last_more s seat j (Take by id) job L refl
    (subst (Has (taken_by L.item.id seat)) (sym (taken_push s j (Take by id))) (in_front (taken_by L.item.id seat) (run_state_after s j).taken (taken_by id by ∷ []) L.mine)))

-- a Take by this seat
take_own : (s : Setting) (seat : ℕ) (j : List Event) (id : ItemId) → IsJournal s (j ++ Take seat id ∷ [])
    → TakenLast s seat (j ++ Take seat id ∷ []) (job_found (world_after s j) (find (has_id id) (world_after s j).pending))
take_own s seat j id o =
    let a = (orderly_back s.given s.budget s.seats (beginning (start s)) j (Take seat id ∷ []) o).0.1 in
    let f = to_find (has_id id) a.item (world_after s j).pending a.may.pending (eq-eqb _ _ (ap (λ (i : ItemId). i.0) a.item_is)) in
    let g = of_find (has_id id) f.0 (world_after s j).pending f.1 in
    let same : f.0.id ≡ id = item_same f.0.id id (eqb-true _ _ g.1) in
    inr (record {
      front = j;
      more = [];
      item = f.0;
      parts = ap (λ (i : ItemId). j ++ Take seat i ∷ []) (sym same);
      unended = refl;
      was_pending = g.0;
      job_is = ap (job_found (world_after s j)) f.1;
      mine = subst (Has (taken_by f.0.id seat)) (sym (taken_push s j (Take seat id)))
          (subst (λ (i : ItemId). Has (taken_by f.0.id seat) ((run_state_after s j).taken ++ taken_by i seat ∷ [])) same (in_back (taken_by f.0.id seat) (run_state_after s j).taken (taken_by f.0.id seat ∷ []) (inl refl)));
    })

-- an item is given back or applied: by this seat, or by another
gone : (s : Setting) (seat : ℕ) (j : List Event) (e : Event) (id : ItemId) (job : Job) → IsJournal s j → taken_after (run_state_after s j).taken e ≡ without (run_state_after s j).taken id
    → ((other : ItemId) → ends other e ≡ (id.0 == other.0)) → TakenLast s seat j job → (b : Bool) → has_taken (run_state_after s j).taken id seat ≡ b → TakenLast s seat (j ++ e ∷ []) (cond b Idle job)
gone s seat j e id job o less ended T true mine = inl (
  refl,
  λ t h same.
      let k = of_filter (λ (x : Taken). not (is_of id x)) t (run_state_after s j).taken (subst (Has t) (taken_push s j e ∙ less) h) in
      let t_is : t ≡ taken_by t.id seat = ap (λ (n : ℕ). taken_by t.id n) same in
      let one : t.id ≡ id = (taken_once s j o).1 t.id id seat (subst (λ (x : Taken). Has x (run_state_after s j).taken) t_is k.0) (whose_taken (run_state_after s j).taken id seat mine) in
      true≢false (sym (eq-eqb t.id.0 id.0 (ap (λ (i : ItemId). i.0) one)) ∙ not-true (is_of id t) k.1),
)
gone s seat j e id job o less ended (inl (is, free)) false other =
    inl (is, λ t h. free t (of_filter (λ (x : Taken). not (is_of id x)) t (run_state_after s j).taken (subst (Has t) (taken_push s j e ∙ less) h)).0)
gone s seat j e id job o less ended (inr L) false other =
    let apart : L.item.id.0 ≢ id.0 = (λ k.
    true≢false (sym (to_any (λ t. is_of id t && t.seat == seat) (taken_by L.item.id seat) (run_state_after s j).taken L.mine (let a = eq-eqb L.item.id.0 id.0 k in let b = eq-eqb seat seat refl in grind arith)) ∙ other)) in
    inr (last_more s seat j e job L (ended L.item.id ∙ ne_eqb id.0 L.item.id.0 (λ k. apart (sym k)))
    (subst (Has (taken_by L.item.id seat)) (sym (taken_push s j e ∙ less))
    (to_filter (λ (x : Taken). not (is_of id x)) (taken_by L.item.id seat) (run_state_after s j).taken L.mine (ap not (ne_eqb L.item.id.0 id.0 apart)))))

take_by : (s : Setting) (seat : ℕ) (j : List Event) (id : ItemId) (by : ℕ) (job : Job) → IsJournal s (j ++ Take by id ∷ []) → TakenLast s seat j job
    → (b : Bool) → (by == seat) ≡ b → TakenLast s seat (j ++ Take by id ∷ []) (cond b (job_found (world_after s j) (find (has_id id) (world_after s j).pending)) job)
take_by s seat j id by job o T true e =
    subst (λ (n : ℕ). TakenLast s seat (j ++ Take n id ∷ []) (job_found (world_after s j) (find (has_id id) (world_after s j).pending))) (sym (eqb-true by seat e))
    (take_own s seat j id (subst (λ (n : ℕ). IsJournal s (j ++ Take n id ∷ [])) (eqb-true by seat e) o))
take_by s seat j id by job o T false e = take_other s seat j id by job (eqb-false by seat e) T

step_last : (s : Setting) (seat : ℕ) (j : List Event) (e : Event) (job : Job) → IsJournal s (j ++ e ∷ []) → TakenLast s seat j job → TakenLast s seat (j ++ e ∷ []) (job_after (run_state_after s j) seat job e)
step_last s seat j Feed job o T = keeps_taken s seat j Feed job refl (λ id. refl) T
step_last s seat j (Take by id) job o T = take_by s seat j id by job o T (by == seat) refl
step_last s seat j (Back id) job o T =
    gone s seat j (Back id) id job (orderly_front s.given s.budget s.seats (beginning (start s)) j (Back id ∷ []) o) refl (λ other. refl) T (has_taken (run_state_after s j).taken id seat) refl
step_last s seat j (Apply id) job o T =
    gone s seat j (Apply id) id job (orderly_front s.given s.budget s.seats (beginning (start s)) j (Apply id ∷ []) o) refl (λ other. refl) T (has_taken (run_state_after s j).taken id seat) refl
step_last s seat j Stop job o T = keeps_taken s seat j Stop job refl (λ id. refl) T

walk_last : (s : Setting) (seat : ℕ) (j k : List Event) (job : Job) → IsJournal s (j ++ k) → TakenLast s seat j job → TakenLast s seat (j ++ k) (job_from s.given (run_state_after s j) seat job k)
walk_last s seat j [] job o T = subst (λ (l : List Event). TakenLast s seat l job) (sym (append-nil j)) T
walk_last s seat j (e ∷ es) job o T =
    let one : j ++ e ∷ es ≡ (j ++ e ∷ []) ++ es = sym (append_assoc j (e ∷ []) es) in
    let o2 : IsJournal s ((j ++ e ∷ []) ++ es) = subst (IsJournal s) one o in
    let here = step_last s seat j e job (orderly_front s.given s.budget s.seats (beginning (start s)) (j ++ e ∷ []) es o2) T in
    let rest = walk_last s seat (j ++ e ∷ []) es (job_after (run_state_after s j) seat job e) o2 here in
    let same : run_state_after s (j ++ e ∷ []) ≡ after s.given (run_state_after s j) e = after-append s.given (beginning (start s)) j (e ∷ []) in
    subst (λ (l : List Event). TakenLast s seat l (job_from s.given (after s.given (run_state_after s j) e) seat (job_after (run_state_after s j) seat job e) es)) (sym one)
    (subst (λ (a : RunState). TakenLast s seat ((j ++ e ∷ []) ++ es) (job_from s.given a seat (job_after (run_state_after s j) seat job e) es)) same rest)

last_of : (s : Story) (seat : ℕ) → IsOrderlySoFar s → TakenLast s.setting seat s.journal (story_job s seat)
last_of s seat o = walk_last s.setting seat [] s.journal Idle o (inl (refl, λ t h. absurd h))

-- THE SAME JOB AT A NODE THAT IS KEPT

-- a kind that reads packets has a plan
has_plan : (kept : KindState) (hooks : List (List ℕ)) → writes_by_packets (kind_of_kept kept) ≡ false → (plan : Plan) × (way_of_kept kept hooks ≡ Some plan)
has_plan (HubState persistent) hooks reads = (_, refl)
has_plan HoleState hooks reads = (_, refl)
has_plan EchoState hooks reads = (_, refl)
has_plan SplitState hooks reads = (_, refl)
has_plan SocketState hooks reads = (_, refl)
has_plan (TeeState rows) hooks reads = (_, refl)
has_plan (One2manyState s) hooks reads = absurd (true≢false reads)
has_plan (BridgeState s) hooks reads = (_, refl)
has_plan (VlanState s) hooks reads = (_, refl)
has_plan (PatchState ops) hooks reads = (_, refl)
has_plan (BpfState s) hooks reads = (_, refl)
has_plan (EtherState s) hooks reads = (_, refl)
has_plan (EtfState s) hooks reads = (_, refl)
has_plan (MacsetState s) hooks reads = (_, refl)

same_frame : (p : Item) (old new : NodeRecord) → way_of (state_of new) ≡ way_of (state_of old) → (plan : Plan) → way_of (state_of old) ≡ Some plan
    → frame_job p (state_of new) (way_of (state_of new)) ≡ frame_job p (state_of old) (way_of (state_of old))
same_frame p old new way plan is = ap (frame_job p (state_of new)) (way ∙ is) ∙ sym (ap (frame_job p (state_of old)) is)

-- of a reader
same_body : (p : Item) (body : Body) (old new : NodeRecord) → p.writer ≡ false → is_writer (kind_at old) body ≡ false → way_of (state_of new) ≡ way_of (state_of old)
    → body_job p new body ≡ body_job p old body
same_body p (Frame door link packet) old new reads mode way =
    let has = has_plan old.kept (state_of old).hooks mode in same_frame p old new way has.0 has.1
same_body p (Msg msg) old new reads mode way =
    ap (λ (b : Bool). writes_if (b && is_of_kind (class_of (kind_at new) msg)) p (state_of new)) reads
    ∙ sym (ap (λ (b : Bool). writes_if (b && is_of_kind (class_of (kind_at old) msg)) p (state_of old)) reads)
same_body p (Tick seconds) old new reads mode way = absurd (true≢false mode)
same_body p (Learn hook link addr) old new reads mode way = absurd (true≢false mode)
same_body p (Join2 hook link peer peer_hook) old new reads mode way = refl
same_body p (Join3 hook link) old new reads mode way = refl
same_body p (Undo hook link errno) old new reads mode way = refl
same_body p (Leave hook link) old new reads mode way = refl
same_body p (Rebind hook from to peer peer_hook) old new reads mode way = refl

same_gone : (body : Body) (old new : NodeRecord) → new.hooks ≡ old.hooks → is_hook_gone (Some new) body ≡ is_hook_gone (Some old) body
same_gone (Frame (ByHook hook) None packet) old new hooks = refl
same_gone (Frame (ByHook hook) (Some link) packet) old new hooks = ap (λ (hs : List Hook). is_none (find (λ h. is_named hook h && h.link.0 == link.0) hs)) hooks
same_gone (Frame Wire link packet) old new hooks = refl
same_gone (Msg msg) old new hooks = refl
same_gone (Tick seconds) old new hooks = refl
same_gone (Learn hook link addr) old new hooks = refl
same_gone (Join2 hook link peer peer_hook) old new hooks = refl
same_gone (Join3 hook link) old new hooks = refl
same_gone (Undo hook link errno) old new hooks = refl
same_gone (Leave hook link) old new hooks = refl
same_gone (Rebind hook from to peer peer_hook) old new hooks = refl

same_unless : (p : Item) (b : Bool) (old new : NodeRecord) → body_job p new p.body ≡ body_job p old p.body → job_unless_gone b p new ≡ job_unless_gone b p old
same_unless p true old new same = refl
same_unless p false old new same = same

same_hooks : (a b : NodeRecord) → hooks_at (Some a) ≡ hooks_at (Some b) → a.hooks ≡ b.hooks
same_hooks a b e = cc

same_way : (a b : NodeRecord) → way_at (Some a) ≡ way_at (Some b) → way_of (state_of a) ≡ way_of (state_of b)
same_way a b e = cc

-- the item's node then and now
reader_job : (p : Item) (v w : World) (old new : NodeRecord) → NodeKept p v w → node_at v p.to ≡ Some old → node_at w p.to ≡ Some new → p.writer ≡ is_writer (kind_at old) p.body → p.writer ≡ false
    → job_of w p ≡ job_of v p
reader_job p v w old new K before now mode reads =
    let hooks = same_hooks new old (ap hooks_at (sym now) ∙ K.hooks ∙ ap hooks_at before) in
    let way = same_way new old (ap way_at (sym now) ∙ K.way ∙ ap way_at before) in
    ap (job_at p) now
    ∙ ap (λ (b : Bool). job_unless_gone b p new) (same_gone p.body old new hooks)
    ∙ same_unless p (is_hook_gone (Some old) p.body) old new (same_body p p.body old new reads (sym mode ∙ reads) way)
    ∙ sym (ap (job_at p) before)

kept_job : (p : Item) (v w : World) (old new : NodeRecord) → NodeKept p v w → node_at v p.to ≡ Some old → node_at w p.to ≡ Some new → p.writer ≡ is_writer (kind_at old) p.body
    → (b : Bool) → p.writer ≡ b → job_of w p ≡ job_of v p
kept_job p v w old new K before now mode true writes = ap (job_at p) (K.all writes)
kept_job p v w old new K before now mode false reads = reader_job p v w old new K before now mode reads

-- WHAT THE SEAT WORKS ON NOW

since : (s : Setting) (seat : ℕ) (j : List Event) (job : Job) → IsJournal s j → (L : LastTake s seat j job) → IsAtWork (run_state_after s j) seat L.item job
since s seat j job o L =
    let p = L.item in
    let o2 : IsJournal s (L.front ++ Take seat L.item.id ∷ L.more) = subst (IsJournal s) L.parts o in
    let K = kept_before s L.front (Take seat L.item.id ∷ L.more) o2 in
    let back = orderly_back s.given s.budget s.seats (beginning (start s)) L.front (Take seat L.item.id ∷ L.more) o2 in
    let LL = kept_event s.given s.budget s.seats (run_state_after s L.front) (Take seat L.item.id) back.0.1 K in
    let m = remains_run s.given s.budget s.seats (after s.given (run_state_after s L.front) (Take seat L.item.id)) L.more L.item (taken_by L.item.id seat) back.1 LL L.unended L.was_pending
    (in_back (taken_by L.item.id seat) (run_state_after s L.front).taken (taken_by L.item.id seat ∷ []) (inl refl)) refl in
    let M = kept_run s.given s.budget s.seats (after s.given (run_state_after s L.front) (Take seat L.item.id)) L.more back.1 LL in
    let old = K.sound.there L.item L.was_pending in
    let new = M.sound.there L.item m.is_pending in
    let same : run_state_after s j ≡ after_all s.given (after s.given (run_state_after s L.front) (Take seat L.item.id)) L.more = ap (run_state_after s) L.parts ∙ after-append s.given (beginning (start s)) L.front (Take seat L.item.id ∷ L.more) in
    subst (λ (z : RunState). IsAtWork z seat L.item job) (sym same)
    (record {
      pending = m.is_pending;
      taken = m.is_out;
      job_is = kept_job L.item (world_after s L.front) (after_all s.given (after s.given (run_state_after s L.front) (Take seat L.item.id)) L.more).world old.0 new.0 m.node_kept old.1 new.1 old.2 L.item.writer refl ∙ sym L.job_is;
    })

-- A job has its item

abbrev IsOf : Item → Job → Type 0
IsOf p Idle = ⊥
IsOf p (Within q) = p ≡ q
IsOf p (Reads q plan) = p ≡ q
IsOf p (Writes q state) = p ≡ q

of_frame : (p : Item) (state : State) (o : Option Plan) → IsOf p (frame_job p state o)
of_frame p state (Some plan) = refl
of_frame p state None = refl

of_writer : (p : Item) (state : State) (b : Bool) → IsOf p (writes_if b p state)
of_writer p state true = refl
of_writer p state false = refl

of_learn : (p : Item) (state : State) (o : Option Hook) → IsOf p (learn_job p state o)
of_learn p state None = refl
of_learn p state (Some hook) = refl

of_body : (p : Item) (node : NodeRecord) (body : Body) → IsOf p (body_job p node body)
of_body p node (Frame door link packet) = of_frame p (state_of node) (way_of (state_of node))
of_body p node (Msg msg) = of_writer p (state_of node) (p.writer && is_of_kind (class_of (kind_at node) msg))
of_body p node (Tick seconds) = refl
of_body p node (Learn hook link addr) = of_learn p (state_of node) (linked_hook node hook link)
of_body p node (Join2 hook link peer peer_hook) = refl
of_body p node (Join3 hook link) = refl
of_body p node (Undo hook link errno) = refl
of_body p node (Leave hook link) = refl
of_body p node (Rebind hook old new peer peer_hook) = refl

of_unless : (p : Item) (node : NodeRecord) (b : Bool) → IsOf p (job_unless_gone b p node)
of_unless p node true = refl
of_unless p node false = of_body p node p.body

of_node : (p : Item) (o : Option NodeRecord) → IsOf p (job_at p o)
of_node p None = refl
of_node p (Some node) = of_unless p node (is_hook_gone (Some node) p.body)

job_now : (at : RunState) (seat : ℕ) (item : Item) (job : Job) → IsAtWork at seat item job → IsOf item job → IsJobNow at seat job
job_now at seat item Idle W is = absurd is
job_now at seat item (Within q) W is = subst (λ (p : Item). IsAtWork at seat p (Within q)) is W
job_now at seat item (Reads q plan) W is = subst (λ (p : Item). IsAtWork at seat p (Reads q plan)) is W
job_now at seat item (Writes q state) W is = subst (λ (p : Item). IsAtWork at seat p (Writes q state)) is W

pub jobs_stand : JobsStand
jobs_stand s seat o = ⊎_elim
    (λ (k : (story_job s seat ≡ Idle) × ((t : Taken) → Has t (run_state_of s).taken → t.seat ≡ seat → ⊥)). subst (IsJobNow (run_state_of s) seat) (sym k.0) k.1)
    (λ (L : LastTake s.setting seat s.journal (story_job s seat)).
    let W = since s.setting seat s.journal (story_job s seat) o L in
    job_now (run_state_of s) seat L.item (story_job s seat) W (subst (IsOf L.item) W.job_is (of_node L.item (node_at (run_state_of s).world L.item.to))))
    (last_of s seat o)
