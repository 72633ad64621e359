-- The packets that were lost since too many waited or too much had left never grow fewer.
use Rattle.std.proofs.Common.{◌≡◌, ℕ, ◌+◌, ◌≤◌, Bool, true, false, nat_le, nat_lt, List, [], ◌∷◌, find, slice_get, refl, arith}
use Rattle.std.specs.declared.option.Option.{Option}
use Rattle.std.specs.declared.option.Option.TheVariants.{None, Some}
use Rattle.ng_base.specs.declared.event.Event.{Event}
use Rattle.ng_base.specs.declared.event.Event.TheVariants.{Feed, Take, Back, Apply, Stop}
use Rattle.ng_base.specs.declared.ids.NodeId.{NodeId}
use Rattle.ng_base.specs.declared.ids.Stamp.{Stamp}
use Rattle.ng_path.specs.Address.{Address, read_address}
use Rattle.ng_machine.specs.declared.body.Body.{Body}
use Rattle.ng_machine.specs.declared.body.Exit.{Exit}
use Rattle.ng_machine.specs.declared.body.Exit.TheVariants.{Wire, Host, Reader}
use Rattle.ng_machine.specs.declared.command.Command.{Command as CommandLine}
use Rattle.ng_machine.specs.declared.hook.Hook.{Hook}
use Rattle.ng_machine.specs.declared.input.Input.{Input}
use Rattle.ng_machine.specs.declared.input.Input.TheVariants.{Command, Late, Packet, Tick}
use Rattle.ng_machine.specs.declared.item.Item.{Item}
use Rattle.ng_machine.specs.Body.{has_id}
use Rattle.ng_machine.specs.World.{World, NodeRecord, hook_at, is_there, kind_at, node_at, node_id, own_node, port_node, port_of}
use Rattle.ng_machine.specs.Walk.{walk}
use Rattle.ng_machine.specs.Change.{Change, Sets, Makes, Retires, Accepts, Posts, Notes, Note, Tells, Refuses, Exits, Links, accept_at, change, change_all, frames, leave, most_frames, most_spool, note, read_if, send_by, send_if, send_joined, set_node, spool_with, wire_if}
use Rattle.ng_machine.specs.Effect.{apply_found, apply_if, apply_item, effect, finish, is_hook_gone, take_out}
use Rattle.ng_machine.specs.Feed.{RunInput, Reading, NoSuchMessage, BadArguments, Reads, Request, RefusedFor, Helps, Nothing, Orders, Asks, Writes, arrive, ask_at, ask_read, ask_row, ask_to, begin_command, feed_command, feed_input, feed_next, feed_request, feed_tick, feed_ticks, is_bridge, order_at, order_to, request_of, write_by, write_if, write_to}
use Rattle.ng_machine.specs.Run.{RunState, after, after_all, step}

pub record LosesMore (w v : World) : Type 0 where
  pub full : w.lost.full ≤ v.lost.full
  pub spool : w.lost.spool ≤ v.lost.spool

-- as many of both, and more
stays : (w v : World) → v.lost.full ≡ w.lost.full → v.lost.spool ≡ w.lost.spool → LosesMore w v
stays w v full spool = record { full = omega arith; spool = omega arith }

loses_all : (w u v : World) → LosesMore w u → LosesMore u v → LosesMore w v
loses_all w u v a b =
    let full = a.full in
    let fuller = b.full in
    let spool = a.spool in
    let more = b.spool in
    record { full = omega arith; spool = omega arith }

-- CHANGES

loses_accepted : (w : World) (to : NodeId) (node : Option NodeRecord) (body : Body) (tag : Option ℕ) (stamp : Stamp)
    → LosesMore w (accept_at w to node body tag stamp)
loses_accepted w to None body tag stamp = stays w _ refl refl
loses_accepted w to (Some node) body tag stamp = stays w _ refl refl

loses_sent : (w : World) (hook : Hook) (node : Option NodeRecord) (room : Bool) (packet : List ℕ) (stamp : Stamp)
    → LosesMore w (send_if w hook node room packet stamp)
loses_sent w hook None room packet stamp = stays w _ refl refl
loses_sent w hook (Some node) false packet stamp = record { full = omega arith; spool = omega arith }
loses_sent w hook (Some node) true packet stamp = stays w _ refl refl

loses_joined : (w : World) (hook : Hook) (joined : Bool) (packet : List ℕ) (stamp : Stamp) → LosesMore w (send_joined w hook joined packet stamp)
loses_joined w hook false packet stamp = stays w _ refl refl
loses_joined w hook true packet stamp = loses_sent w hook (node_at w hook.peer.node) (nat_lt (frames w) most_frames) packet stamp

loses_by : (w : World) (hook : Option Hook) (packet : List ℕ) (stamp : Stamp) → LosesMore w (send_by w hook packet stamp)
loses_by w None packet stamp = stays w _ refl refl
loses_by w (Some hook) packet stamp = loses_joined w hook hook.joined packet stamp

loses_wired : (w : World) (port : ℕ) (room : Bool) (packet : List ℕ) (stamp : Stamp) → LosesMore w (wire_if w port room packet stamp)
loses_wired w port false packet stamp = record { full = omega arith; spool = omega arith }
loses_wired w port true packet stamp = stays w _ refl refl

loses_read : (w : World) (room : Bool) (hook packet : List ℕ) → LosesMore w (read_if w room hook packet)
loses_read w false hook packet = record { full = omega arith; spool = omega arith }
loses_read w true hook packet = stays w _ refl refl

loses_left : (w : World) (at : NodeId) (stamp : Stamp) (exit : Exit) (hook packet : List ℕ) → LosesMore w (leave w at stamp exit hook packet)
loses_left w at stamp Wire hook packet = loses_wired w (port_of at) (nat_le (spool_with w packet) most_spool) packet stamp
loses_left w at stamp Host hook packet = stays w _ refl refl
loses_left w at stamp Reader hook packet = loses_read w (nat_le (spool_with w packet) most_spool) hook packet

loses_noted : (w : World) (at : NodeId) (stamp : Stamp) (x : Note) → LosesMore w (note w at stamp x)
loses_noted w at stamp (Tells told) = stays w _ refl refl
loses_noted w at stamp Refuses = stays w _ refl refl
loses_noted w at stamp (Exits exit hook packet) = loses_left w at stamp exit hook packet
loses_noted w at stamp Links = stays w _ refl refl

loses_set : (w : World) (at : NodeId) (node : NodeRecord) (there : Bool) → LosesMore w (set_node w at node there)
loses_set w at node true = stays w _ refl refl
loses_set w at node false = stays w _ refl refl

loses_changed : (at : NodeId) (stamp : Stamp) (w : World) (c : Change) → LosesMore w (change at stamp w c)
loses_changed at stamp w (Sets node) = loses_set w at node (is_there w at)
loses_changed at stamp w (Makes kind node) = stays w _ refl refl
loses_changed at stamp w Retires = stays w _ refl refl
loses_changed at stamp w (Accepts to body tag) = loses_accepted w to (node_at w to) body tag stamp
loses_changed at stamp w (Posts hook packet) = loses_by w (hook_at (node_at w at) hook) packet stamp
loses_changed at stamp w (Notes x) = loses_noted w at stamp x

loses_changes : (at : NodeId) (stamp : Stamp) (w : World) (cs : List Change) → LosesMore w (change_all at stamp w cs)
loses_changes at stamp w [] = stays w w refl refl
loses_changes at stamp w (c ∷ cs) =
    let v = change at stamp w c in loses_all w v (change_all at stamp v cs) (loses_changed at stamp w c) (loses_changes at stamp v cs)

-- APPLIED ITEMS

loses_applied : (w : World) (item : Item) → LosesMore w (apply_item w item)
loses_applied w item = by (is_hook_gone (node_at w item.to) item.body)
  where
    done : World
    done = finish (take_out w item.id) item.id

    by : (gone : Bool) → LosesMore w (apply_if (take_out w item.id) item gone)
    by true = stays w _ refl refl
    by false = loses_all w done _ (stays w done refl refl) (loses_changes item.to item.stamp done (effect done item (node_at done item.to)))

loses_found : (w : World) (item : Option Item) → LosesMore w (apply_found w item)
loses_found w None = stays w w refl refl
loses_found w (Some item) = loses_applied w item

-- INPUTS

loses_ordered : (w : World) (command : ℕ) (to : Option NodeId) (number : ℕ) (name args : List ℕ)
    → LosesMore w (order_to w command to number name args)
loses_ordered w command None number name args = stays w _ refl refl
loses_ordered w command (Some to) number name args = loses_accepted w to (node_at w to) _ _ _

loses_order : (w : World) (command : ℕ) (address : Option Address) (number : ℕ) (name args : List ℕ)
    → LosesMore w (order_at w command address number name args)
loses_order w command None number name args = stays w _ refl refl
loses_order w command (Some address) number name args = loses_ordered w command (walk w own_node address) number name args

loses_asked : (w : World) (command : ℕ) (to : NodeId) (node : Option NodeRecord) (name : List ℕ) (read : Reading)
    → LosesMore w (ask_read w command to node name read)
loses_asked w command to receiver name NoSuchMessage = stays w _ refl refl
loses_asked w command to receiver name (BadArguments why) = stays w _ refl refl
loses_asked w command to node name (Reads cookie number args) = loses_accepted w to node _ _ _

loses_row : (given : RunInput) (w : World) (command : ℕ) (to : NodeId) (node : Option NodeRecord) (name text : List ℕ)
    → LosesMore w (ask_row given w command to node name text)
loses_row given w command to None name text = stays w _ refl refl
loses_row given w command to (Some node) name text = loses_asked w command to (Some node) name (given.reading (kind_at node) name text)

loses_to : (given : RunInput) (w : World) (command : ℕ) (to : Option NodeId) (name text : List ℕ) → LosesMore w (ask_to given w command to name text)
loses_to given w command None name text = stays w _ refl refl
loses_to given w command (Some to) name text = loses_row given w command to (node_at w to) name text

loses_ask : (given : RunInput) (w : World) (command : ℕ) (address : Option Address) (name text : List ℕ)
    → LosesMore w (ask_at given w command address name text)
loses_ask given w command None name text = stays w _ refl refl
loses_ask given w command (Some address) name text = loses_to given w command (walk w own_node address) name text

loses_written : (w : World) (command : ℕ) (hook : Hook) (node : Option NodeRecord) (bytes : List ℕ) → LosesMore w (write_to w command hook node bytes)
loses_written w command hook None bytes = stays w _ refl refl
loses_written w command hook (Some node) bytes = stays w _ refl refl

loses_writing : (w : World) (command : ℕ) (hook : Hook) (joined : Bool) (bytes : List ℕ) → LosesMore w (write_if w command hook joined bytes)
loses_writing w command hook false bytes = stays w _ refl refl
loses_writing w command hook true bytes = loses_written w command hook (node_at w hook.peer.node) bytes

loses_write : (w : World) (command : ℕ) (hook : Option Hook) (bytes : List ℕ) → LosesMore w (write_by w command hook bytes)
loses_write w command None bytes = stays w _ refl refl
loses_write w command (Some hook) bytes = loses_writing w command hook hook.joined bytes

loses_request : (given : RunInput) (w : World) (command : ℕ) (r : Request) → LosesMore w (feed_request given w command r)
loses_request given w command (RefusedFor why) = stays w _ refl refl
loses_request given w command Helps = stays w _ refl refl
loses_request given w command Nothing = stays w _ refl refl
loses_request given w command (Orders path number name args) = loses_order w command (read_address path) number name args
loses_request given w command (Asks path name text) = loses_ask given w command (read_address path) name text
loses_request given w command (Writes hook bytes) = loses_write w command (hook_at (node_at w own_node) hook) bytes

loses_command : (given : RunInput) (w : World) (command : CommandLine) → LosesMore w (feed_command given w command)
loses_command given w command =
    let begun = begin_command w command.number in
    loses_all w begun _ (stays w begun refl refl) (loses_request given begun command.number (request_of command.what))

loses_tick : (w : World) (seconds n : ℕ) (bridge : Bool) → LosesMore w (feed_tick w seconds n bridge)
loses_tick w seconds n false = stays w _ refl refl
loses_tick w seconds n true = loses_accepted w (node_id n) (node_at w (node_id n)) _ _ _

loses_ticks : (w : World) (seconds n : ℕ) (nodes : List (Option NodeRecord)) → LosesMore w (feed_ticks w seconds n nodes)
loses_ticks w seconds n [] = stays w w refl refl
loses_ticks w seconds n (node ∷ nodes) =
    let v = feed_tick w seconds n (is_bridge node) in
    loses_all w v (feed_ticks v seconds (n + 1) nodes) (loses_tick w seconds n (is_bridge node)) (loses_ticks v seconds (n + 1) nodes)

loses_input : (given : RunInput) (w : World) (input : Input) → LosesMore w (feed_input given w input)
loses_input given w (Command command) = loses_command given w command
loses_input given w (Late command) = loses_command given w command
loses_input given w (Packet port stamp packet) =
    let come = arrive w port stamp in
    loses_all w come _ (stays w come refl refl) (loses_accepted come (port_node port) (node_at come (port_node port)) _ _ stamp)
loses_input given w (Tick seconds) = loses_ticks w seconds 0 w.nodes

loses_next : (given : RunInput) (w : World) (input : Option Input) → LosesMore w (feed_next given w input)
loses_next given w None = stays w w refl refl
loses_next given w (Some input) =
    let fed = record w { fed = w.fed + 1 } in loses_all w fed _ (stays w fed refl refl) (loses_input given fed input)

-- RUNS

loses_step : (given : RunInput) (w : World) (event : Event) → LosesMore w (step given w event)
loses_step given w Feed = loses_next given w (slice_get given.inputs w.fed)
loses_step given w (Take seat id) = stays w w refl refl
loses_step given w (Back id) = stays w w refl refl
loses_step given w (Apply id) = loses_found w (find (has_id id) w.pending)
loses_step given w Stop = stays w _ refl refl

pub losses_stay : (given : RunInput) (at : RunState) (journal : List Event) → LosesMore at.world (after_all given at journal).world
losses_stay given at [] = stays at.world at.world refl refl
losses_stay given at (event ∷ events) =
    loses_all at.world (after given at event).world (after_all given (after given at event) events).world
    (loses_step given at.world event) (losses_stay given (after given at event) events)
