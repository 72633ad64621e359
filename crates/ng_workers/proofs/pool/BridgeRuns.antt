-- Time, and what is to be learned, wait at bridges alone: in each world of an orderly run.
use Rattle.std.proofs.Common.{◌≡◌, ℕ, suc, ◌+◌, Bool, true, false, not, nat_le, nat_lt, List, [], ◌∷◌, ◌++◌, set, is_some, slice_get, refl, sym, ap, ◌∙◌, ⊎_elim, subst, arith}
use Rattle.std.specs.List.{filter}
use Rattle.std.specs.declared.option.Option.{Option}
use Rattle.std.specs.declared.option.Option.TheVariants.{None, Some}
use Rattle.ng_base.specs.declared.event.Event.{Event}
use Rattle.ng_base.specs.declared.event.Event.TheVariants.{Feed, Take, Back, Apply, Stop}
use Rattle.ng_base.specs.declared.ids.ItemId.{ItemId}
use Rattle.ng_base.specs.declared.ids.NodeId.{NodeId}
use Rattle.ng_base.specs.declared.ids.Stamp.{Stamp}
use Rattle.ng_base.specs.declared.kind.Kind.{Kind}
use Rattle.ng_base.specs.declared.kind.Kind.TheVariants.{Bridge as BridgeKind}
use Rattle.ng_machine.specs.declared.body.Body.{Body}
use Rattle.ng_machine.specs.declared.body.Body.TheVariants.{Frame, Msg, Join2, Join3, Undo, Leave, Rebind, Tick, Learn}
use Rattle.ng_machine.specs.declared.body.Exit.{Exit}
use Rattle.ng_machine.specs.declared.body.Exit.TheVariants.{Wire as ToWire, Host, Reader}
use Rattle.ng_machine.specs.declared.command.Command.{Command as CommandLine}
use Rattle.ng_machine.specs.declared.hook.Hook.{Hook}
use Rattle.ng_machine.specs.declared.input.Input.{Input}
use Rattle.ng_machine.specs.declared.input.Input.TheVariants.{Command, Late, Packet, Tick as Ticks}
use Rattle.ng_machine.specs.declared.item.Item.{Item}
use Rattle.ng_machine.specs.Words.{Has, Every}
use Rattle.ng_machine.specs.Body.{is_writer, is_at, has_id}
use Rattle.ng_machine.specs.KindObligations.{KeepsKind}
use Rattle.ng_machine.specs.World.{World, NodeRecord, kind_at, node_at, is_there, hook_at, node_id, port_node, port_of, own_node}
use Rattle.ng_path.specs.Address.{Address, read_address}
use Rattle.ng_machine.specs.Walk.{walk}
use Rattle.ng_machine.specs.Change.{Change, Sets, Makes, Retires, Accepts, Posts, Notes, Note, Tells, Refuses, Exits, Links, accept, accept_at, send_if, send_joined, send_by, frames, most_frames, wire_if, read_if, leave, spool_with, most_spool, note, set_node, retire, change, change_all}
use Rattle.ng_machine.specs.Effect.{effect, effect_at, is_hook_gone, take_out, finish, drop_hook_gone, apply_if, apply_item, apply_found, apply}
use Rattle.ng_machine.specs.Feed.{RunInput, Reading, NoSuchMessage, BadArguments, Reads, Request, RefusedFor, Helps, Nothing, Orders, Asks, Writes, request_of, order_to, order_at, ask_read, ask_row, ask_to, ask_at, write_to, write_if, write_by, feed_request, begin_command, feed_command, arrive, is_bridge, feed_tick, feed_ticks, feed_input, feed_next}
use Rattle.ng_machine.specs.Run.{RunState, Taken, after, after_all, beginning}
use Rattle.ng_machine.specs.Orderly.{IsTaken, AllowedEvent, OrderlyFrom}
use Rattle.ng_machine.specs.Laws.{Setting, start, world_after, IsJournal}
use Rattle.ng_machine.proofs.Standing.{in_pushed, of_filter}
use Rattle.ng_machine.proofs.NodeLists.{get, some_none, given_number, same_row}
use Rattle.ng_machine.proofs.Quieted.{accepts_quietly, posts_quietly, notes_quietly}
use Rattle.ng_machine.proofs.Kept.{SoundAt, OnKind, on_set, on_make, on_retire, nodes_quietly}
use Rattle.ng_machine.proofs.Knowing.{kind_set, kind_retire}
use Rattle.ng_machine.proofs.Moves.{KeptAt, kept_event, held_item}
use Rattle.ng_machine.proofs.Ordering.{kept_start}
use Rattle.ng_machine.proofs.Preserving.{kinds_stay}
use Rattle.ng_topology.proofs.StockLemmas.{same_kind_is}
use Rattle.ng_workers.proofs.pool.BridgeItems.{IsBrought, Brings, brings_effect}

-- the body waits at a bridge, where it is for bridges alone
abbrev pub WaitsWell : List (Option NodeRecord) → ℕ → Body → Type 0
WaitsWell nodes n (Tick seconds) = OnKind n BridgeKind nodes
WaitsWell nodes n (Learn hook link addr) = OnKind n BridgeKind nodes
WaitsWell nodes n (Frame door link packet) = Unit {0}
WaitsWell nodes n (Msg msg) = Unit {0}
WaitsWell nodes n (Join2 hook link peer peer_hook) = Unit {0}
WaitsWell nodes n (Join3 hook link) = Unit {0}
WaitsWell nodes n (Undo hook link errno) = Unit {0}
WaitsWell nodes n (Leave hook link) = Unit {0}
WaitsWell nodes n (Rebind hook old new peer peer_hook) = Unit {0}

waits_still : (a b : List (Option NodeRecord)) (n : ℕ) (body : Body) → (OnKind n BridgeKind a → OnKind n BridgeKind b) → WaitsWell a n body → WaitsWell b n body
waits_still a b n (Tick seconds) f h = f h
waits_still a b n (Learn hook link addr) f h = f h
waits_still a b n (Frame door link packet) f h = tt
waits_still a b n (Msg msg) f h = tt
waits_still a b n (Join2 hook link peer peer_hook) f h = tt
waits_still a b n (Join3 hook link) f h = tt
waits_still a b n (Undo hook link errno) f h = tt
waits_still a b n (Leave hook link) f h = tt
waits_still a b n (Rebind hook old new peer peer_hook) f h = tt

abbrev pub AllWaitWell : World → Type 0
AllWaitWell w = (p : Item) → Has p w.pending → WaitsWell w.nodes p.to.0 p.body

-- What leaves nodes and what waits, what adds an item, and what takes some away

less : (w v : World) (test : Item → Bool) → v.nodes ≡ w.nodes → v.pending ≡ filter test w.pending → AllWaitWell w → AllWaitWell v
less w v test nodes pending A p h = subst (λ (x : List (Option NodeRecord)). WaitsWell x p.to.0 p.body) (sym nodes) (A p (of_filter test p w.pending (subst (Has p) pending h)).0)

accepted : (w : World) (to : NodeId) (kind : Kind) (body : Body) (tag : Option ℕ) (stamp : Stamp) → WaitsWell w.nodes to.0 body → AllWaitWell w → AllWaitWell (accept w to kind body tag stamp)
accepted w to kind body tag stamp well A =
    let x : Item = record { id = record { 0 = w.next_item }; to = to; body = body; writer = is_writer kind body; tag = tag; stamp = stamp } in
    λ p h. ⊎_elim (λ (k : Has p w.pending). A p k) (λ (e : p ≡ x). subst (λ (y : Item). WaitsWell w.nodes y.to.0 y.body) (sym e) well) (in_pushed p x w.pending h)

accepted_at : (w : World) (to : NodeId) (o : Option NodeRecord) (body : Body) (tag : Option ℕ) (stamp : Stamp) → WaitsWell w.nodes to.0 body → AllWaitWell w → AllWaitWell (accept_at w to o body tag stamp)
accepted_at w to None body tag stamp well A = A
accepted_at w to (Some node) body tag stamp well A = accepted w to (kind_at node) body tag stamp well A

-- A packet is sent, or leaves

sent_if : (w : World) (hook : Hook) (o : Option NodeRecord) (room : Bool) (packet : List ℕ) (stamp : Stamp) → AllWaitWell w → AllWaitWell (send_if w hook o room packet stamp)
sent_if w hook None room packet stamp A = A
sent_if w hook (Some node) false packet stamp A = A
sent_if w hook (Some node) true packet stamp A = accepted w hook.peer.node (kind_at node) _ None stamp tt A

sent_joined : (w : World) (hook : Hook) (b : Bool) (packet : List ℕ) (stamp : Stamp) → AllWaitWell w → AllWaitWell (send_joined w hook b packet stamp)
sent_joined w hook false packet stamp A = A
sent_joined w hook true packet stamp A = sent_if w hook (node_at w hook.peer.node) (nat_lt (frames w) most_frames) packet stamp A

sent_by : (w : World) (o : Option Hook) (packet : List ℕ) (stamp : Stamp) → AllWaitWell w → AllWaitWell (send_by w o packet stamp)
sent_by w None packet stamp A = A
sent_by w (Some hook) packet stamp A = sent_joined w hook hook.joined packet stamp A

wired : (w : World) (port : ℕ) (b : Bool) (packet : List ℕ) (stamp : Stamp) → AllWaitWell w → AllWaitWell (wire_if w port b packet stamp)
wired w port false packet stamp A = A
wired w port true packet stamp A = A

read : (w : World) (b : Bool) (hook packet : List ℕ) → AllWaitWell w → AllWaitWell (read_if w b hook packet)
read w false hook packet A = A
read w true hook packet A = A

left : (w : World) (at : NodeId) (stamp : Stamp) (exit : Exit) (hook packet : List ℕ) → AllWaitWell w → AllWaitWell (leave w at stamp exit hook packet)
left w at stamp ToWire hook packet A = wired w (port_of at) (nat_le (spool_with w packet) most_spool) packet stamp A
left w at stamp Host hook packet A = A
left w at stamp Reader hook packet A = read w (nat_le (spool_with w packet) most_spool) hook packet A

noted : (w : World) (at : NodeId) (stamp : Stamp) (x : Note) → AllWaitWell w → AllWaitWell (note w at stamp x)
noted w at stamp (Tells told) A = A
noted w at stamp Refuses A = A
noted w at stamp (Exits exit hook packet) A = left w at stamp exit hook packet A
noted w at stamp Links A = A

-- Nodes

node_set : (w : World) (at : NodeId) (node now : NodeRecord) (o : Option NodeRecord) → node_at w at ≡ o → kind_at now ≡ kind_at node → OnKind at.0 (kind_at node) w.nodes → AllWaitWell w → AllWaitWell (set_node w at now (is_some o))
node_set w at node now None is kind on A = A
node_set w at node now (Some old) is kind on A = λ p h. waits_still w.nodes (set w.nodes at.0 (Some now)) p.to.0 p.body (kind_set BridgeKind w.nodes at.0 p.to.0 old now is (kind ∙ sym (on.kind old is))) (A p h)

retired : (w : World) (at : NodeId) → AllWaitWell w → AllWaitWell (retire w at)
retired w at A p h = waits_still w.nodes (set w.nodes at.0 None) p.to.0 p.body (kind_retire BridgeKind w.nodes at.0 p.to.0) (A p (of_filter (λ q. not (is_at at q)) p w.pending h).0)

-- A change of an item at its node, and a list of them

module _ (at : NodeId) (stamp : Stamp) (node : NodeRecord) where
  abbrev On : World → Type 0
  On w = OnKind at.0 (kind_at node) w.nodes

  on_change : (w : World) (c : Change) → KeepsKind node c → On w → On (change at stamp w c)
  on_change w (Sets now) e on = by (is_there w at)
    where
      by : (b : Bool) → On (set_node w at now b)
      by true = on_set at.0 (kind_at node) w.nodes now e on
      by false = on
  on_change w (Makes kind made) e on = on_make at.0 (kind_at node) w.nodes made on
  on_change w Retires e on = on_retire at.0 (kind_at node) w.nodes on
  on_change w (Accepts to body tag) e on = subst (OnKind at.0 (kind_at node)) (sym (nodes_quietly (accepts_quietly at stamp w to body tag))) on
  on_change w (Posts hook packet) e on = subst (OnKind at.0 (kind_at node)) (sym (nodes_quietly (posts_quietly at stamp w hook packet))) on
  on_change w (Notes x) e on = subst (OnKind at.0 (kind_at node)) (sym (nodes_quietly (notes_quietly at stamp w x))) on

  learned : (w : World) (to : NodeId) → On w → to ≡ at → kind_at node ≡ BridgeKind → OnKind to.0 BridgeKind w.nodes
  learned w to on here is = subst (λ (n : NodeId). OnKind n.0 BridgeKind w.nodes) (sym here) (subst (λ (k : Kind). OnKind at.0 k w.nodes) is on)

  brought : (w : World) (to : NodeId) (body : Body) → On w → IsBrought node at to body → WaitsWell w.nodes to.0 body
  brought w to (Tick seconds) on b = absurd b
  brought w to (Learn hook link addr) on b = learned w to on b.0 b.1
  brought w to (Frame door link packet) on b = tt
  brought w to (Msg msg) on b = tt
  brought w to (Join2 hook link peer peer_hook) on b = tt
  brought w to (Join3 hook link) on b = tt
  brought w to (Undo hook link errno) on b = tt
  brought w to (Leave hook link) on b = tt
  brought w to (Rebind hook old new peer peer_hook) on b = tt

  changed : (w : World) (c : Change) → KeepsKind node c → Brings node at c → On w → AllWaitWell w → AllWaitWell (change at stamp w c)
  changed w (Sets now) e b on A = node_set w at node now (node_at w at) refl e on A
  changed w (Makes kind made) e b on A = λ p h. waits_still w.nodes (w.nodes ++ Some made ∷ []) p.to.0 p.body (on_make p.to.0 BridgeKind w.nodes made) (A p h)
  changed w Retires e b on A = retired w at A
  changed w (Accepts to body tag) e b on A = accepted_at w to (node_at w to) body tag stamp (brought w to body on b) A
  changed w (Posts hook packet) e b on A = sent_by w (hook_at (node_at w at) hook) packet stamp A
  changed w (Notes x) e b on A = noted w at stamp x A

  changed_all : (w : World) (cs : List Change) → Every (KeepsKind node) cs → Every (Brings node at) cs → On w → AllWaitWell w → AllWaitWell (change_all at stamp w cs)
  changed_all w [] e b on A = A
  changed_all w (c ∷ cs) e b on A = changed_all (change at stamp w c) cs e.1 b.1 (on_change w c e.0 on) (changed w c e.0 b.0 on A)

-- An item is applied

effected : (w : World) (p : Item) (node : NodeRecord) → get w.nodes p.to.0 ≡ Some node → AllWaitWell w → (v : World) → v.nodes ≡ w.nodes → v.pending ≡ filter (λ q. not (has_id p.id q)) w.pending
    → AllWaitWell (change_all p.to p.stamp v (effect_at v p node p.body))
effected w p node is A v nodes pending =
    let on : OnKind p.to.0 (kind_at node) v.nodes = subst (OnKind p.to.0 (kind_at node)) (sym nodes) (record { within = given_number w.nodes p.to.0 node is; kind = λ r h. ap kind_at (same_row r node (sym h ∙ is)) }) in
    changed_all p.to p.stamp node v (effect_at v p node p.body) (kinds_stay v p node p.body) (brings_effect v p node p.body) on (less w v (λ q. not (has_id p.id q)) nodes pending A)

applied_item : (w : World) (taken : List Taken) (p : Item) → SoundAt w taken → Has p w.pending → AllWaitWell w → AllWaitWell (apply_item w p)
applied_item w taken p S hp A = by (is_hook_gone (node_at w p.to) p.body)
  where
    v : World
    v = finish (take_out w p.id) p.id

    at : (o : Option NodeRecord) → node_at w p.to ≡ o → AllWaitWell (change_all p.to p.stamp v (effect v p o))
    at None e = let t = S.there p hp in absurd (some_none t.0 (sym t.1 ∙ e))
    at (Some node) e = effected w p node e A v refl refl

    by : (b : Bool) → AllWaitWell (apply_if (take_out w p.id) p b)
    by true = less w (drop_hook_gone (take_out w p.id) p.id) (λ q. not (has_id p.id q)) refl refl A
    by false = at (node_at w p.to) refl

applied : (w : World) (taken : List Taken) (id : ItemId) → IsTaken taken id → SoundAt w taken → AllWaitWell w → AllWaitWell (apply w id)
applied w taken id t S A =
    let h = held_item w taken id S t in
    subst (λ (o : Option Item). AllWaitWell (apply_found w o)) (sym h.found) (applied_item w taken h.item S h.is_pending A)

-- An input is fed

ordered_to : (w : World) (command : ℕ) (to : Option NodeId) (number : ℕ) (name args : List ℕ) → AllWaitWell w → AllWaitWell (order_to w command to number name args)
ordered_to w command None number name args A = A
ordered_to w command (Some to) number name args A = accepted_at w to (node_at w to) _ (Some command) w.clock tt A

ordered : (w : World) (command : ℕ) (address : Option Address) (number : ℕ) (name args : List ℕ) → AllWaitWell w → AllWaitWell (order_at w command address number name args)
ordered w command None number name args A = A
ordered w command (Some address) number name args A = ordered_to w command (walk w own_node address) number name args A

asked_read : (w : World) (command : ℕ) (to : NodeId) (o : Option NodeRecord) (name : List ℕ) (r : Reading) → AllWaitWell w → AllWaitWell (ask_read w command to o name r)
asked_read w command to o name NoSuchMessage A = A
asked_read w command to o name (BadArguments why) A = A
asked_read w command to o name (Reads cookie number args) A = accepted_at w to o _ (Some command) w.clock tt A

asked_row : (given : RunInput) (w : World) (command : ℕ) (to : NodeId) (o : Option NodeRecord) (name text : List ℕ) → AllWaitWell w → AllWaitWell (ask_row given w command to o name text)
asked_row given w command to None name text A = A
asked_row given w command to (Some node) name text A = asked_read w command to (Some node) name (given.reading (kind_at node) name text) A

asked_to : (given : RunInput) (w : World) (command : ℕ) (to : Option NodeId) (name text : List ℕ) → AllWaitWell w → AllWaitWell (ask_to given w command to name text)
asked_to given w command None name text A = A
asked_to given w command (Some to) name text A = asked_row given w command to (node_at w to) name text A

asked : (given : RunInput) (w : World) (command : ℕ) (address : Option Address) (name text : List ℕ) → AllWaitWell w → AllWaitWell (ask_at given w command address name text)
asked given w command None name text A = A
asked given w command (Some address) name text A = asked_to given w command (walk w own_node address) name text A

written_to : (w : World) (command : ℕ) (hook : Hook) (o : Option NodeRecord) (bytes : List ℕ) → AllWaitWell w → AllWaitWell (write_to w command hook o bytes)
written_to w command hook None bytes A = A
written_to w command hook (Some node) bytes A = accepted w hook.peer.node (kind_at node) _ None w.clock tt A

written_if : (w : World) (command : ℕ) (hook : Hook) (b : Bool) (bytes : List ℕ) → AllWaitWell w → AllWaitWell (write_if w command hook b bytes)
written_if w command hook false bytes A = A
written_if w command hook true bytes A = written_to w command hook (node_at w hook.peer.node) bytes A

written : (w : World) (command : ℕ) (o : Option Hook) (bytes : List ℕ) → AllWaitWell w → AllWaitWell (write_by w command o bytes)
written w command None bytes A = A
written w command (Some hook) bytes A = written_if w command hook hook.joined bytes A

requested : (given : RunInput) (w : World) (command : ℕ) (r : Request) → AllWaitWell w → AllWaitWell (feed_request given w command r)
requested given w command (RefusedFor why) A = A
requested given w command Helps A = A
requested given w command Nothing A = A
requested given w command (Orders path number name args) A = ordered w command (read_address path) number name args A
requested given w command (Asks path name text) A = asked given w command (read_address path) name text A
requested given w command (Writes hook bytes) A = written w command (hook_at (node_at w own_node) hook) bytes A

commanded : (given : RunInput) (w : World) (line : CommandLine) → AllWaitWell w → AllWaitWell (feed_command given w line)
commanded given w line A = requested given (begin_command w line.number) line.number (request_of line.what) A

-- time comes to bridges

bridge_here : (nodes : List (Option NodeRecord)) (n : ℕ) (o : Option NodeRecord) → get nodes n ≡ o → is_bridge o ≡ true → OnKind n BridgeKind nodes
bridge_here nodes n None here is = absurd (cc is)
bridge_here nodes n (Some node) here is = record {
  within = given_number nodes n node here;
  kind = λ r h. ap kind_at (same_row r node (sym h ∙ here)) ∙ same_kind_is (kind_at node) BridgeKind is;
}

ticked : (w : World) (seconds n : ℕ) (o : Option NodeRecord) (b : Bool) → get w.nodes n ≡ o → is_bridge o ≡ b → AllWaitWell w → AllWaitWell (feed_tick w seconds n b)
ticked w seconds n o false here is A = A
ticked w seconds n o true here is A = accepted_at w (node_id n) (node_at w (node_id n)) (Tick seconds) None w.clock (bridge_here w.nodes n o here is) A

tick_nodes : (w : World) (seconds n : ℕ) (b : Bool) → (feed_tick w seconds n b).nodes ≡ w.nodes
tick_nodes w seconds n false = refl
tick_nodes w seconds n true = nodes_quietly (accepts_quietly (node_id n) w.clock w (node_id n) (Tick seconds) None)

ticked_all : (w : World) (seconds n : ℕ) (rest : List (Option NodeRecord)) → ((k : ℕ) → get w.nodes (n + k) ≡ get rest k) → AllWaitWell w → AllWaitWell (feed_ticks w seconds n rest)
ticked_all w seconds n [] these A = A
ticked_all w seconds n (o ∷ rest) these A =
    let v = feed_tick w seconds n (is_bridge o) in
    let first : get w.nodes n ≡ o = ap (get w.nodes) (omega arith) ∙ these 0 in
    ticked_all v seconds (n + 1) rest
    (λ k. ap (λ (nodes : List (Option NodeRecord)). get nodes (n + 1 + k)) (tick_nodes w seconds n (is_bridge o)) ∙ ap (get w.nodes) (omega arith) ∙ these (suc k))
    (ticked w seconds n o (is_bridge o) first refl A)

fed : (given : RunInput) (w : World) (input : Input) → AllWaitWell w → AllWaitWell (feed_input given w input)
fed given w (Command line) A = commanded given w line A
fed given w (Late line) A = commanded given w line A
fed given w (Packet port stamp packet) A = accepted_at (arrive w port stamp) (port_node port) (node_at w (port_node port)) _ None stamp tt A
fed given w (Ticks seconds) A = ticked_all w seconds 0 w.nodes (λ k. ap (get w.nodes) (omega arith)) A

fed_next : (given : RunInput) (w : World) (o : Option Input) → AllWaitWell w → AllWaitWell (feed_next given w o)
fed_next given w None A = A
fed_next given w (Some input) A = fed given (record w { fed = w.fed + 1 }) input A

-- Events

event : (given : RunInput) (budget seats : ℕ) (at : RunState) (e : Event) → AllowedEvent given budget seats at e → KeptAt budget at → AllWaitWell at.world → AllWaitWell (after given at e).world
event given budget seats at Feed a K A = fed_next given at.world (slice_get given.inputs at.world.fed) A
event given budget seats at (Take seat id) a K A = A
event given budget seats at (Back id) a K A = A
event given budget seats at (Apply id) a K A = applied at.world at.taken id a K.sound A
event given budget seats at Stop a K A = λ p h. absurd h

run : (given : RunInput) (budget seats : ℕ) (at : RunState) (j : List Event) → OrderlyFrom given budget seats at j → KeptAt budget at → AllWaitWell at.world → AllWaitWell (after_all given at j).world
run given budget seats at [] o K A = A
run given budget seats at (e ∷ es) o K A = run given budget seats (after given at e) es o.1 (kept_event given budget seats at e o.0.1 K) (event given budget seats at e o.0.1 K A)

pub bridges_wait : (s : Setting) (j : List Event) → IsJournal s j → AllWaitWell (world_after s j)
bridges_wait s j o = run s.given s.budget s.seats (beginning (start s)) j o (kept_start s) (λ p h. absurd h)
