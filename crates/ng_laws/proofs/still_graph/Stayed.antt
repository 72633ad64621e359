-- While packets and ticks alone are fed, the graph stays.
use Rattle.std.proofs.Common.{◌≡◌, ℕ, ◌+◌, List, [], ◌∷◌, ◌++◌, Bool, true, false, not, nat_le, nat_lt, slice_get, refl, sym, ap, ◌∙◌, subst, ⊎_elim, true≢false}
use Rattle.std.specs.declared.option.Option.{Option}
use Rattle.std.specs.declared.option.Option.TheVariants.{None, Some}
use Rattle.std.specs.List.{list_any}
use Rattle.std.proofs.lemmas.Bool.{or_parts}
use Rattle.ng_base.specs.declared.event.Event.{Event}
use Rattle.ng_base.specs.declared.event.Event.TheVariants.{Feed, Take, Back, Apply, Stop}
use Rattle.ng_base.specs.declared.ids.LinkId.{LinkId}
use Rattle.ng_base.specs.declared.ids.NodeId.{NodeId}
use Rattle.ng_base.specs.declared.ids.Stamp.{Stamp}
use Rattle.ng_base.specs.declared.kind.Kind.{Kind}
use Rattle.ng_base.specs.declared.kind.Kind.TheVariants.{One2many}
use Rattle.ng_machine.specs.declared.body.Body.{Body}
use Rattle.ng_machine.specs.declared.body.Body.TheVariants.{Frame, Msg, Join2, Join3, Undo, Leave, Rebind, Tick, Learn}
use Rattle.ng_machine.specs.declared.body.Door.{Door}
use Rattle.ng_machine.specs.declared.body.Door.TheVariants.{Wire, Hook as ByHook}
use Rattle.ng_machine.specs.declared.body.Exit.{Exit}
use Rattle.ng_machine.specs.declared.body.Exit.TheVariants.{Wire as ByWire, Host, Reader}
use Rattle.ng_machine.specs.declared.hook.Hook.{Hook}
use Rattle.ng_machine.specs.declared.input.Input.{Input}
use Rattle.ng_machine.specs.declared.input.Input.TheVariants.{Command, Late, Packet, Tick as TickInput}
use Rattle.ng_machine.specs.declared.item.Item.{Item}
use Rattle.ng_machine.specs.declared.outcome.Outcome.{Outcome}
use Rattle.ng_machine.specs.Words.{Has, Every}
use Rattle.ng_machine.specs.Body.{writes_by_packets, has_id, is_frame}
use Rattle.ng_machine.specs.State.{KindState, BridgeState, kind_of_kept, way_of_kept}
use Rattle.ng_machine.specs.Case.{outcome_of, kept_after, kept_after_tick, kept_after_learn}
use Rattle.ng_machine.specs.World.{World, NodeRecord, node_in, node_at, kind_at, is_there, state_of, hook_at, hook_names, linked_hook, node_id, port_node, port_of}
use Rattle.ng_machine.specs.Change.{Change, Sets, Makes, Retires, Accepts, Posts, Notes, Note, Exits, accept_at, send_if, send_joined, send_by, frames, most_frames, wire_if, read_if, spool_with, most_spool, leave, note, set_node, change, change_all}
use Rattle.ng_machine.specs.Effect.{door_name, exits, posts, is_fine, counts_unless, becomes, learns, serve, learn, effect, effect_at, is_hook_gone, take_out, finish, apply_if, apply_item, apply_found}
use Rattle.ng_machine.specs.Feed.{RunInput, arrive, is_bridge, feed_tick, feed_ticks, feed_next}
use Rattle.ng_machine.specs.Run.{RunState, after, after_all, beginning}
use Rattle.ng_machine.specs.Orderly.{AllowedEvent, MayFeedNext, OrderlyFrom}
use Rattle.ng_machine.specs.Laws.{start, run_state_after, world_after}
use Rattle.ng_machine.specs.Spread.{is_followed}
use Rattle.ng_laws.specs.still_graph.Bag.{IsStillNode, IsStillGraph, IsTraffic, inputs_from, is_stop, HasOnlyFrames, Still}
use Rattle.ng_machine.proofs.Standing.{in_pushed, of_filter}
use Rattle.ng_machine.proofs.Quieted.{Quietly, accepts_quietly, posts_quietly, notes_quietly, input_quietly, fed_next}
use Rattle.ng_machine.proofs.Owed.{passed_way, passed_kind, ticked_kind, learned_kind}
use Rattle.ng_machine.proofs.Kept.{nodes_quietly, fed_quietly}
use Rattle.ng_machine.proofs.Moves.{KeptAt, held_item, kept_event, apply_fed}
use Rattle.ng_machine.proofs.Ordering.{after-append, orderly_back, kept_before}
use Rattle.ng_laws.proofs.still_graph.Staying.{graph_rests, graph_joins, graph_set, fate_alike, spread_alike}

-- What is pending while packets and ticks alone are fed: packets, ticks, and what bridges learn

abbrev pub is_passing : Body → Bool
is_passing (Frame door link packet) = true
is_passing (Tick seconds) = true
is_passing (Learn hook link addr) = true
is_passing _ = false

abbrev pub OnlyPassing : List Item → Type 0
OnlyPassing pending = (item : Item) → Has item pending → is_passing item.body ≡ true

-- Nodes

followed_reads : (kind : Kind) → is_followed kind ≡ true → writes_by_packets kind ≡ false
followed_reads One2many e = absurd (true≢false (sym e))
followed_reads _ e = refl

ticked_part : (kept : KindState) (seconds : ℕ) → is_followed (kind_of_kept kept) ≡ true → kept_after_tick kept seconds ≡ kept
ticked_part (BridgeState s) seconds e = absurd (true≢false (sym e))
ticked_part _ seconds e = refl

learned_part : (kept : KindState) (hook addr : List ℕ) → is_followed (kind_of_kept kept) ≡ true → kept_after_learn kept hook addr ≡ kept
learned_part (BridgeState s) hook addr e = absurd (true≢false (sym e))
learned_part _ hook addr e = refl

pub frame_stays : (row : NodeRecord) (door : Door) (link : Option LinkId) (packet : List ℕ) → IsStillNode row (record row { kept = kept_after (state_of row) (Frame door link packet) })
frame_stays row door link packet =
    let counts = (outcome_of (state_of row) (Frame door link packet)).counts in
    record { name = refl; kind = passed_kind row.kept (hook_names row) door counts; hooks = refl; way = λ f. passed_way row.kept (hook_names row) door counts (followed_reads (kind_at row) f) }

tick_stays : (row : NodeRecord) (seconds : ℕ) → IsStillNode row (record row { kept = kept_after (state_of row) (Tick seconds) })
tick_stays row seconds = record { name = refl; kind = ticked_kind row.kept seconds; hooks = refl; way = λ f. ap (λ (kept : KindState). way_of_kept kept (hook_names row)) (ticked_part row.kept seconds f) }

learn_stays : (row : NodeRecord) (hook : List ℕ) (link : LinkId) (addr : List ℕ) → IsStillNode row (record row { kept = kept_after (state_of row) (Learn hook link addr) })
learn_stays row hook link addr =
    record { name = refl; kind = learned_kind row.kept hook addr; hooks = refl; way = λ f. ap (λ (kept : KindState). way_of_kept kept (hook_names row)) (learned_part row.kept hook addr f) }

-- Changes

abbrev pub Stays : NodeRecord → Change → Type 0
Stays row (Sets now) = IsStillNode row now
Stays row (Makes kind made) = ⊥
Stays row Retires = ⊥
Stays row (Accepts to body tag) = is_passing body ≡ true
Stays row (Posts hook packet) = Unit {0}
Stays row (Notes x) = Unit {0}

join_all : (P : Change → Type 0) (xs ys : List Change) → Every P xs → Every P ys → Every P (xs ++ ys)
join_all P [] ys a b = b
join_all P (x ∷ xs) ys a b = (a.0, join_all P xs ys a.1 b)

exits_stay : (row : NodeRecord) (hook : List ℕ) (xs : List (Exit × List ℕ)) → Every (Stays row) (exits hook xs)
exits_stay row hook [] = tt
exits_stay row hook (x ∷ xs) = (tt, exits_stay row hook xs)

posts_stay : (row : NodeRecord) (xs : List (List ℕ × List ℕ)) → Every (Stays row) (posts xs)
posts_stay row [] = tt
posts_stay row (x ∷ xs) = (tt, posts_stay row xs)

counts_stay : (row : NodeRecord) (b : Bool) → Every (Stays row) (counts_unless b)
counts_stay row true = tt
counts_stay row false = (tt, tt)

learns_stay : (row : NodeRecord) (at : NodeId) (door : Door) (link : Option LinkId) (addr : Option (List ℕ)) → Every (Stays row) (learns at door link addr)
learns_stay row at Wire link addr = tt
learns_stay row at (ByHook hook) None addr = tt
learns_stay row at (ByHook hook) (Some link) None = tt
learns_stay row at (ByHook hook) (Some link) (Some addr) = (refl, tt)

serve_stays : (row : NodeRecord) (body : Body) (hook : List ℕ) (out : Outcome) (learned : List Change) → Stays row (becomes row body) → Every (Stays row) learned → Every (Stays row) (serve row body hook out learned)
serve_stays row body hook out learned h l = (
  h,
  join_all (Stays row) (exits hook out.leaves) (counts_unless (is_fine out.errno) ++ (learned ++ posts out.sends)) (exits_stay row hook out.leaves)
      (join_all (Stays row) (counts_unless (is_fine out.errno)) (learned ++ posts out.sends) (counts_stay row (is_fine out.errno))
      (join_all (Stays row) learned (posts out.sends) l (posts_stay row out.sends))),
)

learned_stays : (row : NodeRecord) (o : Option Hook) (hook : List ℕ) (link : LinkId) (addr : List ℕ) → Every (Stays row) (learn row o (Learn hook link addr))
learned_stays row None hook link addr = tt
learned_stays row (Some x) hook link addr = (learn_stays row hook link addr, tt)

effect_stays : (w : World) (item : Item) (row : NodeRecord) (body : Body) → is_passing body ≡ true → Every (Stays row) (effect_at w item row body)
effect_stays w item row (Frame door link packet) e =
    let out = outcome_of (state_of row) (Frame door link packet) in
    serve_stays row (Frame door link packet) (door_name door) out (learns item.to door link out.learn) (frame_stays row door link packet) (learns_stay row item.to door link out.learn)
effect_stays w item row (Tick seconds) e = serve_stays row (Tick seconds) [] (outcome_of (state_of row) (Tick seconds)) [] (tick_stays row seconds) tt
effect_stays w item row (Learn hook link addr) e = learned_stays row (linked_hook row hook link) hook link addr
effect_stays w item row (Msg msg) e = absurd (true≢false (sym e))
effect_stays w item row (Join2 hook link peer peer_hook) e = absurd (true≢false (sym e))
effect_stays w item row (Join3 hook link) e = absurd (true≢false (sym e))
effect_stays w item row (Undo hook link errno) e = absurd (true≢false (sym e))
effect_stays w item row (Leave hook link) e = absurd (true≢false (sym e))
effect_stays w item row (Rebind hook old new peer peer_hook) e = absurd (true≢false (sym e))

-- What is pending

pass_push : (ps : List Item) (x : Item) → OnlyPassing ps → is_passing x.body ≡ true → OnlyPassing (ps ++ x ∷ [])
pass_push ps x O e item h = ⊎_elim (λ (k : Has item ps). O item k) (λ (is : item ≡ x). ap (λ (y : Item). is_passing y.body) is ∙ e) (in_pushed item x ps h)

pass_accept : (w : World) (to : NodeId) (o : Option NodeRecord) (body : Body) (tag : Option ℕ) (stamp : Stamp) → OnlyPassing w.pending → is_passing body ≡ true → OnlyPassing (accept_at w to o body tag stamp).pending
pass_accept w to None body tag stamp O e = O
pass_accept w to (Some row) body tag stamp O e = pass_push w.pending _ O e

pass_send : (w : World) (hook : Hook) (o : Option NodeRecord) (room : Bool) (packet : List ℕ) (stamp : Stamp) → OnlyPassing w.pending → OnlyPassing (send_if w hook o room packet stamp).pending
pass_send w hook None room packet stamp O = O
pass_send w hook (Some row) false packet stamp O = O
pass_send w hook (Some row) true packet stamp O = pass_push w.pending _ O refl

pass_joined : (w : World) (hook : Hook) (b : Bool) (packet : List ℕ) (stamp : Stamp) → OnlyPassing w.pending → OnlyPassing (send_joined w hook b packet stamp).pending
pass_joined w hook false packet stamp O = O
pass_joined w hook true packet stamp O = pass_send w hook (node_at w hook.peer.node) (nat_lt (frames w) most_frames) packet stamp O

pass_post : (w : World) (o : Option Hook) (packet : List ℕ) (stamp : Stamp) → OnlyPassing w.pending → OnlyPassing (send_by w o packet stamp).pending
pass_post w None packet stamp O = O
pass_post w (Some hook) packet stamp O = pass_joined w hook hook.joined packet stamp O

pub leave_pending : (w : World) (at : NodeId) (stamp : Stamp) (exit : Exit) (hook packet : List ℕ) → (leave w at stamp exit hook packet).pending ≡ w.pending
leave_pending w at stamp ByWire hook packet = by (nat_le (spool_with w packet) most_spool)
  where
    by : (b : Bool) → (wire_if w (port_of at) b packet stamp).pending ≡ w.pending
    by false = refl
    by true = refl
leave_pending w at stamp Host hook packet = refl
leave_pending w at stamp Reader hook packet = by (nat_le (spool_with w packet) most_spool)
  where
    by : (b : Bool) → (read_if w b hook packet).pending ≡ w.pending
    by false = refl
    by true = refl

pub note_pending : (w : World) (at : NodeId) (stamp : Stamp) (x : Note) → (note w at stamp x).pending ≡ w.pending
note_pending w at stamp (Exits exit hook packet) = leave_pending w at stamp exit hook packet
note_pending w at stamp _ = refl

-- the graph is as it was, and what is pending passes
pub record Passes (nodes : List (Option NodeRecord)) (w : World) : Type 0 where
  pub graph : IsStillGraph nodes w.nodes
  pub pass : OnlyPassing w.pending

passes_quietly : (nodes : List (Option NodeRecord)) {w v : World} → Quietly w v → IsStillGraph nodes w.nodes → IsStillGraph nodes v.nodes
passes_quietly nodes q G = subst (IsStillGraph nodes) (sym (nodes_quietly q)) G

stays_change : (nodes : List (Option NodeRecord)) (at : NodeId) (stamp : Stamp) (row : NodeRecord) → node_in nodes at ≡ Some row → (w : World) (c : Change) → Stays row c → Passes nodes w → Passes nodes (change at stamp w c)
stays_change nodes at stamp row is w (Sets now) s P = by (is_there w at) refl
  where
    by : (b : Bool) → is_there w at ≡ b → Passes nodes (set_node w at now b)
    by true e = record { graph = graph_set nodes w.nodes at row now is s P.graph e; pass = P.pass }
    by false e = P
stays_change nodes at stamp row is w (Makes kind made) s P = absurd s
stays_change nodes at stamp row is w Retires s P = absurd s
stays_change nodes at stamp row is w (Accepts to body tag) s P =
    record { graph = passes_quietly nodes (accepts_quietly at stamp w to body tag) P.graph; pass = pass_accept w to (node_at w to) body tag stamp P.pass s }
stays_change nodes at stamp row is w (Posts hook packet) s P =
    record { graph = passes_quietly nodes (posts_quietly at stamp w hook packet) P.graph; pass = pass_post w (hook_at (node_at w at) hook) packet stamp P.pass }
stays_change nodes at stamp row is w (Notes x) s P =
    record { graph = passes_quietly nodes (notes_quietly at stamp w x) P.graph; pass = subst OnlyPassing (sym (note_pending w at stamp x)) P.pass }

stays_changed : (nodes : List (Option NodeRecord)) (at : NodeId) (stamp : Stamp) (row : NodeRecord) → node_in nodes at ≡ Some row → (w : World) (cs : List Change) → Every (Stays row) cs → Passes nodes w → Passes nodes (change_all at stamp w cs)
stays_changed nodes at stamp row is w [] e P = P
stays_changed nodes at stamp row is w (c ∷ cs) e P = stays_changed nodes at stamp row is (change at stamp w c) cs e.1 (stays_change nodes at stamp row is w c e.0 P)

-- Events

passes_effect : (nodes : List (Option NodeRecord)) (w : World) (p : Item) → nodes ≡ w.nodes → is_passing p.body ≡ true → Passes nodes w → (o : Option NodeRecord) → node_in nodes p.to ≡ o → Passes nodes (change_all p.to p.stamp w (effect w p o))
passes_effect nodes w p same e P None is = P
passes_effect nodes w p same e P (Some row) is = stays_changed nodes p.to p.stamp row is w (effect_at w p row p.body) (effect_stays w p row p.body e) P

pub passes_applied : (w : World) (p : Item) → is_passing p.body ≡ true → OnlyPassing w.pending → Passes w.nodes (apply_item w p)
passes_applied w p e O = by (is_hook_gone (node_at w p.to) p.body)
  where
    rest : Passes w.nodes (take_out w p.id)
    rest = record { graph = graph_rests w.nodes; pass = λ item h. O item (of_filter (λ q. not (has_id p.id q)) item w.pending h).0 }

    by : (b : Bool) → Passes w.nodes (apply_if (take_out w p.id) p b)
    by true = record { graph = rest.graph; pass = rest.pass }
    by false = passes_effect w.nodes (finish (take_out w p.id) p.id) p refl e (record { graph = rest.graph; pass = rest.pass }) (node_at w p.to) refl

ticks_pass : (w : World) (seconds n : ℕ) (rows : List (Option NodeRecord)) → OnlyPassing w.pending → OnlyPassing (feed_ticks w seconds n rows).pending
ticks_pass w seconds n [] O = O
ticks_pass w seconds n (row ∷ rows) O = ticks_pass (feed_tick w seconds n (is_bridge row)) seconds (n + 1) rows (by (is_bridge row))
  where
    by : (b : Bool) → OnlyPassing (feed_tick w seconds n b).pending
    by false = O
    by true = pass_accept w (node_id n) (node_at w (node_id n)) (Tick seconds) None w.clock O refl

fed_pass : (given : RunInput) (w : World) (o : Option Input) → IsTraffic o → OnlyPassing w.pending → OnlyPassing (feed_next given w o).pending
fed_pass given w None t O = O
fed_pass given w (Some (Packet port stamp packet)) t O =
    let v = arrive (record w { fed = w.fed + 1 }) port stamp in pass_accept v (port_node port) (node_at v (port_node port)) (Frame Wire None packet) None stamp O refl
fed_pass given w (Some (TickInput seconds)) t O = ticks_pass (record w { fed = w.fed + 1 }) seconds 0 w.nodes O
fed_pass given w (Some (Command command)) t O = absurd t
fed_pass given w (Some (Late command)) t O = absurd t

pub passes_fed : (given : RunInput) (w : World) (o : Option Input) → IsTraffic o → OnlyPassing w.pending → Passes w.nodes (feed_next given w o)
passes_fed given w o t O =
    record { graph = fed_next given w o (λ v. IsStillGraph w.nodes v.nodes) (graph_rests w.nodes) (λ v q. passes_quietly w.nodes q (graph_rests w.nodes)); pass = fed_pass given w o t O }

-- one event, of those that are to come
pub record Passing (given : RunInput) (budget : ℕ) (at : RunState) (e : Event) (es : List Event) : Type 0 where
  pub kept : KeptAt budget (after given at e)
  pub passes : Passes at.world.nodes (after given at e).world
  pub traffic : Every IsTraffic (inputs_from given (after given at e).world.fed es)

pub fed_one : (given : RunInput) (w : World) (o : Option Input) → MayFeedNext w o → (feed_next given w o).fed ≡ w.fed + 1
fed_one given w None m = absurd m
fed_one given w (Some input) m = fed_quietly (input_quietly given (record w { fed = w.fed + 1 }) input)

pub passing : (given : RunInput) (budget seats : ℕ) (at : RunState) (e : Event) (es : List Event) → AllowedEvent given budget seats at e → is_stop e ≡ false → KeptAt budget at → OnlyPassing at.world.pending
    → Every IsTraffic (inputs_from given at.world.fed (e ∷ es)) → Passing given budget at e es
passing given budget seats at Feed es a u K O t = record {
  kept = kept_event given budget seats at Feed a K;
  passes = passes_fed given at.world (slice_get given.inputs at.world.fed) t.0 O;
  traffic = subst (λ (n : ℕ). Every IsTraffic (inputs_from given n es)) (sym (fed_one given at.world (slice_get given.inputs at.world.fed) a.1)) t.1;
}
passing given budget seats at (Take seat id) es a u K O t =
    record { kept = kept_event given budget seats at (Take seat id) a K; passes = record { graph = graph_rests at.world.nodes; pass = O }; traffic = t }
passing given budget seats at (Back id) es a u K O t =
    record { kept = kept_event given budget seats at (Back id) a K; passes = record { graph = graph_rests at.world.nodes; pass = O }; traffic = t }
passing given budget seats at (Apply id) es a u K O t =
    let h = held_item at.world at.taken id K.sound a in
    record {
      kept = kept_event given budget seats at (Apply id) a K;
      passes = subst (λ (o : Option Item). Passes at.world.nodes (apply_found at.world o)) (sym h.found) (passes_applied at.world h.item (O h.item h.is_pending) O);
      traffic = subst (λ (n : ℕ). Every IsTraffic (inputs_from given n es)) (sym (apply_fed at.world id)) t;
    }
passing given budget seats at Stop es a u K O t = absurd (true≢false u)

passes_run : (given : RunInput) (budget seats : ℕ) (at : RunState) (es : List Event) → OrderlyFrom given budget seats at es → list_any is_stop es ≡ false → KeptAt budget at → OnlyPassing at.world.pending
    → Every IsTraffic (inputs_from given at.world.fed es) → Passes at.world.nodes (after_all given at es).world
passes_run given budget seats at [] o u K O t = record { graph = graph_rests at.world.nodes; pass = O }
passes_run given budget seats at (e ∷ es) o u K O t =
    let n = or_parts (is_stop e) (list_any is_stop es) u in
    let p = passing given budget seats at e es o.0.1 n.0 K O t in
    let m = passes_run given budget seats (after given at e) es o.1 n.1 p.kept p.passes.pass p.traffic in
    record { graph = graph_joins at.world.nodes (after given at e).world.nodes (after_all given (after given at e) es).world.nodes p.passes.graph m.graph; pass = m.pass }

frame_passes : (body : Body) → is_frame body ≡ true → is_passing body ≡ true
frame_passes (Frame door link packet) e = refl
frame_passes (Tick seconds) e = refl
frame_passes (Learn hook link addr) e = refl
frame_passes _ e = absurd (true≢false (sym e))

pub only_frames : (w : World) → HasOnlyFrames w → OnlyPassing w.pending
only_frames w F item h = frame_passes item.body (F item h)

pub still : Still
still s before more T =
    let at = run_state_after s before in
    let back = orderly_back s.given s.budget s.seats (beginning (start s)) before more T.orderly in
    let P = passes_run s.given s.budget s.seats at more back T.unstopped (kept_before s before more T.orderly) (only_frames at.world T.frames) T.traffic in
    let G : IsStillGraph at.world.nodes (world_after s (before ++ more)).nodes =
    subst (λ (z : RunState). IsStillGraph at.world.nodes z.world.nodes) (sym (after-append s.given (beginning (start s)) before more)) P.graph in
    (G, λ f n. spread_alike at.world.nodes (world_after s (before ++ more)).nodes (fate_alike at.world.nodes (world_after s (before ++ more)).nodes G) n f)
