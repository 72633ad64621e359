-- What a seat works on can be worked on.
use Rattle.std.proofs.Common.{◌≡◌, inl, inr, ℕ, ◌==◌, Bool, true, false, not, ◌&&◌, ◌||◌, List, [], ◌∷◌, is_none, map, refl, sym, ap, ◌∙◌, subst, true≢false, arith}
use Rattle.std.proofs.lemmas.Bool.{and_parts, eqb-true, not-true}
use Rattle.std.specs.declared.option.Option.{Option}
use Rattle.std.specs.declared.option.Option.TheVariants.{None, Some}
use Rattle.ng_base.specs.Kind.{cookie_of, same_kind}
use Rattle.ng_base.specs.Names.{has_name}
use Rattle.ng_base.specs.declared.ids.LinkId.{LinkId}
use Rattle.ng_base.specs.declared.ids.NodeId.{NodeId}
use Rattle.ng_base.specs.declared.kind.Kind.{Kind}
use Rattle.ng_base.specs.declared.kind.Kind.TheVariants.{Bridge, Ether, Socket}
use Rattle.ng_message.specs.Numbers.{is_reader_number, generic_cookie}
use Rattle.ng_message.specs.declared.message.Msg.{Msg as Message}
use Rattle.ng_machine.specs.declared.body.Body.{Body}
use Rattle.ng_machine.specs.declared.body.Body.TheVariants.{Frame, Msg, Join2, Join3, Undo, Leave, Rebind, Tick, Learn}
use Rattle.ng_machine.specs.declared.body.Door.{Door}
use Rattle.ng_machine.specs.declared.body.Door.TheVariants.{Wire, Hook as ByHook}
use Rattle.ng_machine.specs.declared.hook.Hook.{Hook}
use Rattle.ng_machine.specs.declared.item.Item.{Item}
use Rattle.ng_machine.specs.declared.plan.Plan.{Plan}
use Rattle.ng_machine.specs.Words.{Has}
use Rattle.ng_machine.specs.Body.{is_frame, is_writer}
use Rattle.ng_machine.specs.Desk.{Job, Idle, Within, Reads, Writes, frame_job, is_of_kind, writes_if, learn_job, body_job, job_unless_gone, job_at, job_of}
use Rattle.ng_machine.specs.Effect.{class_by, class_of, is_answer, is_hook_gone}
use Rattle.ng_machine.specs.Laws.{IsJournal}
use Rattle.ng_machine.specs.KnownRun.{WireIsEther}
use Rattle.ng_machine.specs.State.{way_of}
use Rattle.ng_machine.specs.World.{World, NodeRecord, kind_at, node_at, node_in, state_of, linked_hook, is_named}
use Rattle.ng_machine.proofs.NodeLists.{same_row}
use Rattle.ng_machine.proofs.Standing.{of_find}
use Rattle.ng_machine.proofs.Knowing.{runs_are_known}
use Rattle.ng_machine.proofs.Ordering.{kept_all}
use Rattle.ng_plan.specs.node.Write.{IsWritable}
use Rattle.ng_machine.specs.story.Desks.{IsJobNow, story_job}
use Rattle.ng_machine.specs.story.Story.{run_state_of, world_of}
use Rattle.ng_machine.proofs.story.AtWork.{jobs_stand}
use Rattle.ng_machine.proofs.story.SoundStories.{so_far}
use Rattle.ng_workers.specs.pool.Workable.{IsWorkable}
use Rattle.ng_workers.specs.pool.WorkLaws.{JobsAreWorkable}
use Rattle.ng_workers.proofs.pool.BridgeRuns.{WaitsWell, bridges_wait}

-- A hook that is there is among the names

named_any : (hooks : List Hook) (name : List ℕ) (h : Hook) → Has h hooks → is_named name h ≡ true → has_name (map (λ h. h.name) hooks) name ≡ true
named_any [] name h k t = absurd k
named_any (x ∷ hooks) name h (inl e) t = ap (λ (b : Bool). b || has_name (map (λ h. h.name) hooks) name) (sym (ap (is_named name) e) ∙ t)
named_any (x ∷ hooks) name h (inr k) t = let rest = named_any hooks name h k t in grind arith

linked_named : (node : NodeRecord) (name : List ℕ) (link : LinkId) (h : Hook) → linked_hook node name link ≡ Some h → has_name (state_of node).hooks name ≡ true
linked_named node name link h e =
    let f = of_find (λ h. is_named name h && h.link.0 == link.0) h node.hooks e in
    named_any node.hooks name h f.0 (and_parts (is_named name h) (h.link.0 == link.0) f.1).0

-- A packet can come by its door

by_link : (node : NodeRecord) (hook : List ℕ) (link : LinkId) (o : Option Hook) → linked_hook node hook link ≡ o → is_none o ≡ false → has_name (state_of node).hooks hook ≡ true
by_link node hook link None e there = absurd (true≢false there)
by_link node hook link (Some h) e there = linked_named node hook link h e

by_door : (nodes : List (Option NodeRecord)) (to : NodeId) (node : NodeRecord) (door : Door) (link : Option LinkId) (packet : List ℕ) → node_in nodes to ≡ Some node
    → WireIsEther nodes to (Frame door link packet) → is_hook_gone (Some node) (Frame door link packet) ≡ false → IsWritable (state_of node) (Frame door link packet)
by_door nodes to node Wire link packet here (r, is, ether) there = ap (λ (k : Kind). same_kind k Ether) (ap kind_at (same_row node r (sym here ∙ is)) ∙ ether)
by_door nodes to node (ByHook hook) None packet here wire there = absurd (true≢false there)
by_door nodes to node (ByHook hook) (Some link) packet here wire there = by_link node hook link (linked_hook node hook link) refl there

-- A message of the kind's cookie

own_by : (a b c : Bool) → is_of_kind (class_by a b c) ≡ true → c ≡ true
own_by true b c e = absurd (true≢false (sym e))
own_by false true c e = absurd (true≢false (sym e))
own_by false false true e = refl
own_by false false false e = absurd (true≢false (sym e))

own_cookie : (kind : Kind) (msg : Message) → is_of_kind (class_of kind msg) ≡ true → msg.header.typecookie ≡ cookie_of kind
own_cookie kind msg e =
    eqb-true msg.header.typecookie (cookie_of kind) (own_by (is_answer msg && same_kind kind Socket) (msg.header.typecookie == generic_cookie) (msg.header.typecookie == cookie_of kind) e)

-- AN ITEM AT ITS NODE

module _ (w : World) (item : Item) (node : NodeRecord) (here : node_at w item.to ≡ Some node) (mode : item.writer ≡ is_writer (kind_at node) item.body) where
  -- the body of the item can be written to the node
  abbrev Well : Body → Type 0
  Well body = IsWritable (state_of node) body

  frame : is_frame item.body ≡ true → Well item.body → (o : Option Plan) → way_of (state_of node) ≡ o → IsWorkable (frame_job item (state_of node) o)
  frame is well (Some plan) way = (state_of node, way, is, well)
  frame is well None way = well

  message : (msg : Message) → item.body ≡ Msg msg → (b : Bool) → (item.writer && is_of_kind (class_of (kind_at node) msg)) ≡ b → IsWorkable (writes_if b item (state_of node))
  message msg is false e = tt
  message msg is true e =
      let both = and_parts item.writer (is_of_kind (class_of (kind_at node) msg)) e in
      let writes : not (is_reader_number msg.header.cmd) ≡ true = ap (is_writer (kind_at node)) (sym is) ∙ sym mode ∙ both.0 in
      subst Well (sym is) (not-true (is_reader_number msg.header.cmd) writes, own_cookie (kind_at node) msg both.1)

  learned : (hook : List ℕ) (link : LinkId) (addr : List ℕ) → item.body ≡ Learn hook link addr → kind_at node ≡ Bridge → (o : Option Hook) → linked_hook node hook link ≡ o → IsWorkable (learn_job item (state_of node) o)
  learned hook link addr is kind None e = tt
  learned hook link addr is kind (Some h) e = subst Well (sym is) (ap (λ (k : Kind). same_kind k Bridge) kind, linked_named node hook link h e)

  at_node : (body : Body) → item.body ≡ body → WireIsEther w.nodes item.to body → WaitsWell w.nodes item.to.0 body → is_hook_gone (Some node) body ≡ false → IsWorkable (body_job item node body)
  at_node (Frame door link packet) is wire waits there =
      frame (ap is_frame is) (subst Well (sym is) (by_door w.nodes item.to node door link packet here wire there)) (way_of (state_of node)) refl
  at_node (Msg msg) is wire waits there = message msg is (item.writer && is_of_kind (class_of (kind_at node) msg)) refl
  at_node (Tick seconds) is wire waits there = subst Well (sym is) (ap (λ (k : Kind). same_kind k Bridge) (waits.kind node here))
  at_node (Learn hook link addr) is wire waits there = learned hook link addr is (waits.kind node here) (linked_hook node hook link) refl
  at_node (Join2 hook link peer peer_hook) is wire waits there = tt
  at_node (Join3 hook link) is wire waits there = tt
  at_node (Undo hook link errno) is wire waits there = tt
  at_node (Leave hook link) is wire waits there = tt
  at_node (Rebind hook old new peer peer_hook) is wire waits there = tt

  unless_gone : WireIsEther w.nodes item.to item.body → WaitsWell w.nodes item.to.0 item.body → (b : Bool) → is_hook_gone (Some node) item.body ≡ b → IsWorkable (job_unless_gone b item node)
  unless_gone wire waits true gone = tt
  unless_gone wire waits false there = at_node item.body refl wire waits there

-- A JOB

pub jobs_are_workable : JobsAreWorkable
jobs_are_workable s seat sound fit is_open = by (story_job s seat) (jobs_stand s seat J)
  where
    J : IsJournal s.setting s.journal
    J = so_far s sound is_open

    pending : (item : Item) → Has item (world_of s).pending → IsWorkable (job_of (world_of s) item)
    pending item h =
        let t = (kept_all s.setting s.journal J).sound.there item h in
        subst (λ (o : Option NodeRecord). IsWorkable (job_at item o)) (sym t.1)
        (unless_gone (world_of s) item t.0 t.1 t.2 ((runs_are_known s.setting s.journal J fit).wires item h) (bridges_wait s.setting s.journal J item h) (is_hook_gone (Some t.0) item.body) refl)

    by : (job : Job) → IsJobNow (run_state_of s) seat job → IsWorkable job
    by Idle now = tt
    by (Within item) now = tt
    by (Reads item plan) now = subst IsWorkable now.job_is (pending item now.pending)
    by (Writes item state) now = subst IsWorkable now.job_is (pending item now.pending)
