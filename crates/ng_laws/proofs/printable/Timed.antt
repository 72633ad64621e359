-- Times of a run: where the packets that are fed came before a time, so did whatever waits and whatever left.
-- to move to ng_machine
use Rattle.std.proofs.Common.{◌≡◌, ℕ, zero, suc, ◌+◌, ◌<◌, Bool, true, false, not, nat_le, nat_lt, List, [], ◌∷◌, map, get_or, set, refl, sym, subst, inl, inr, arith}
use Rattle.std.proofs.lemmas.Bool.{cases_Bool}
use Rattle.std.specs.Prelude.{find, slice_get, Option, Some, None}
use Rattle.ng_base.specs.declared.event.Event.{Event}
use Rattle.ng_base.specs.declared.event.Event.TheVariants.{Feed, Take, Back, Apply, Stop}
use Rattle.ng_base.specs.declared.ids.ItemId.{ItemId}
use Rattle.ng_base.specs.declared.ids.NodeId.{NodeId}
use Rattle.ng_base.specs.declared.ids.Stamp.{Stamp}
use Rattle.ng_base.specs.declared.kind.Kind.{Kind}
use Rattle.ng_machine.specs.declared.body.Body.{Body}
use Rattle.ng_machine.specs.declared.body.Exit.{Exit}
use Rattle.ng_machine.specs.declared.body.Exit.TheVariants.{Wire as ToWire, Host, Reader}
use Rattle.ng_machine.specs.declared.command.Command.{Command as CommandLine}
use Rattle.ng_machine.specs.declared.hook.Hook.{Hook}
use Rattle.ng_machine.specs.declared.input.Input.{Input}
use Rattle.ng_machine.specs.declared.input.Input.TheVariants.{Command, Late, Packet, Tick as Ticks}
use Rattle.ng_machine.specs.declared.item.Item.{Item}
use Rattle.ng_machine.specs.Words.{Every}
use Rattle.ng_machine.specs.Body.{is_at, has_id}
use Rattle.ng_machine.specs.World.{World, NodeRecord, Port, blank_port, kind_at, node_at, is_there, hook_at, port_node, port_of}
use Rattle.ng_machine.specs.Change.{Change, Sets, Makes, Retires, Accepts, Posts, Notes, Note, Tells, Refuses, Exits, Links, accept, accept_at, arrival, send_if, send_joined, send_by, frames, most_frames, port_at, wire_if, read_if, leave, spool_with, most_spool, note, set_node, change, change_all}
use Rattle.ng_machine.specs.Effect.{effect, is_hook_gone, take_out, finish, apply_if, apply_item, apply_found, apply}
use Rattle.ng_machine.specs.Feed.{RunInput, Request, request_of, begin_command, feed_command, arrive, feed_ticks, feed_input, feed_next}
use Rattle.ng_machine.specs.Run.{RunState, after, after_all, beginning}
use Rattle.ng_machine.specs.Laws.{Setting, start, world_after}
use Rattle.ng_machine.proofs.Requests.{Requested, Ends, ByOrder, ByName, ByHook, requested, ticks_keep}
use Rattle.ng_machine.proofs.Every.{every_push, every_filter}
use Rattle.ng_laws.specs.printable.Printable.{IsBefore}

abbrev pub LeftBefore : ℕ → Port → Type 0
LeftBefore limit port = Every (λ (x : Stamp × List ℕ). x.0.0 < limit) port.leaving

every_set : {A : Type 0} (P : A → Type 0) (xs : List A) (n : ℕ) (x : A) → Every P xs → P x → Every P (set xs n x)
every_set P [] n x all one = tt
every_set P (y ∷ ys) zero x all one = (one, all.1)
every_set P (y ∷ ys) (suc n) x all one = (all.0, every_set P ys n x all.1 one)

every_get : {A : Type 0} (P : A → Type 0) (xs : List A) (n : ℕ) (x : A) → Every P xs → slice_get xs n ≡ Some x → P x
every_get P [] n x all e = absurd (cc e)
every_get P (y ∷ ys) zero x all e = let same : y ≡ x = cc e in subst P same all.0
every_get P (y ∷ ys) (suc n) x all e = every_get P ys n x all.1 e

port_before : (limit : ℕ) (ports : List Port) (n : ℕ) → Every (LeftBefore limit) ports → LeftBefore limit (get_or ports n blank_port)
port_before limit [] n all = tt
port_before limit (p ∷ ps) zero all = all.0
port_before limit (p ∷ ps) (suc n) all = port_before limit ps n all.1

module _ (limit : ℕ) where
  abbrev ItemBefore : Item → Type 0
  ItemBefore p = p.stamp.0 < limit

  record Timed (w : World) : Type 0 where
    clock : w.clock.0 < limit
    pending : Every ItemBefore w.pending
    left : Every (LeftBefore limit) w.ports

  -- neither time nor what waits or left is different
  same_times : (w v : World) → v.clock ≡ w.clock → v.pending ≡ w.pending → v.ports ≡ w.ports → Timed w → Timed v
  same_times w v clock pending ports T = record {
    clock = subst (λ (c : Stamp). c.0 < limit) (sym clock) T.clock;
    pending = subst (Every ItemBefore) (sym pending) T.pending;
    left = subst (Every (LeftBefore limit)) (sym ports) T.left;
  }

  timed_accept : (w : World) (to : NodeId) (kind : Kind) (body : Body) (tag : Option ℕ) (stamp : Stamp) → stamp.0 < limit → Timed w → Timed (accept w to kind body tag stamp)
  timed_accept w to kind body tag stamp lt T = record { clock = T.clock; pending = every_push ItemBefore w.pending _ T.pending lt; left = T.left }

  timed_accept_at : (w : World) (to : NodeId) (o : Option NodeRecord) (body : Body) (tag : Option ℕ) (stamp : Stamp) → stamp.0 < limit → Timed w → Timed (accept_at w to o body tag stamp)
  timed_accept_at w to None body tag stamp lt T = T
  timed_accept_at w to (Some node) body tag stamp lt T = timed_accept w to (kind_at node) body tag stamp lt T

  timed_send : (w : World) (hook : Hook) (o : Option NodeRecord) (room : Bool) (packet : List ℕ) (stamp : Stamp) → stamp.0 < limit → Timed w → Timed (send_if w hook o room packet stamp)
  timed_send w hook None room packet stamp lt T = same_times w _ refl refl refl T
  timed_send w hook (Some node) false packet stamp lt T = same_times w _ refl refl refl T
  timed_send w hook (Some node) true packet stamp lt T = timed_accept w hook.peer.node (kind_at node) (arrival hook packet) None stamp lt T

  timed_joined : (w : World) (hook : Hook) (b : Bool) (packet : List ℕ) (stamp : Stamp) → stamp.0 < limit → Timed w → Timed (send_joined w hook b packet stamp)
  timed_joined w hook false packet stamp lt T = same_times w _ refl refl refl T
  timed_joined w hook true packet stamp lt T = timed_send w hook (node_at w hook.peer.node) (nat_lt (frames w) most_frames) packet stamp lt T

  timed_sent : (w : World) (o : Option Hook) (packet : List ℕ) (stamp : Stamp) → stamp.0 < limit → Timed w → Timed (send_by w o packet stamp)
  timed_sent w None packet stamp lt T = same_times w _ refl refl refl T
  timed_sent w (Some hook) packet stamp lt T = timed_joined w hook hook.joined packet stamp lt T

  timed_wire : (w : World) (port : ℕ) (b : Bool) (packet : List ℕ) (stamp : Stamp) → stamp.0 < limit → Timed w → Timed (wire_if w port b packet stamp)
  timed_wire w port false packet stamp lt T = same_times w _ refl refl refl T
  timed_wire w port true packet stamp lt T = record {
    clock = T.clock;
    pending = T.pending;
    left = every_set (LeftBefore limit) w.ports port _ T.left
        (every_push (λ (x : Stamp × List ℕ). x.0.0 < limit) (port_at w port).leaving (stamp, packet) (port_before limit w.ports port T.left) lt);
  }

  timed_read : (w : World) (b : Bool) (hook packet : List ℕ) → Timed w → Timed (read_if w b hook packet)
  timed_read w false hook packet T = same_times w _ refl refl refl T
  timed_read w true hook packet T = same_times w _ refl refl refl T

  timed_leave : (w : World) (at : NodeId) (stamp : Stamp) (exit : Exit) (hook packet : List ℕ) → stamp.0 < limit → Timed w → Timed (leave w at stamp exit hook packet)
  timed_leave w at stamp ToWire hook packet lt T = timed_wire w (port_of at) (nat_le (spool_with w packet) most_spool) packet stamp lt T
  timed_leave w at stamp Host hook packet lt T = record {
    clock = T.clock;
    pending = T.pending;
    left = every_set (LeftBefore limit) w.ports (port_of at) _ T.left (port_before limit w.ports (port_of at) T.left);
  }
  timed_leave w at stamp Reader hook packet lt T = timed_read w (nat_le (spool_with w packet) most_spool) hook packet T

  timed_note : (w : World) (at : NodeId) (stamp : Stamp) (x : Note) → stamp.0 < limit → Timed w → Timed (note w at stamp x)
  timed_note w at stamp (Tells told) lt T = same_times w _ refl refl refl T
  timed_note w at stamp Refuses lt T = same_times w _ refl refl refl T
  timed_note w at stamp (Exits exit hook packet) lt T = timed_leave w at stamp exit hook packet lt T
  timed_note w at stamp Links lt T = same_times w _ refl refl refl T

  timed_sets : (w : World) (at : NodeId) (node : NodeRecord) (b : Bool) → Timed w → Timed (set_node w at node b)
  timed_sets w at node true T = same_times w _ refl refl refl T
  timed_sets w at node false T = T

  timed_change : (at : NodeId) (stamp : Stamp) (w : World) (ch : Change) → stamp.0 < limit → Timed w → Timed (change at stamp w ch)
  timed_change at stamp w (Sets node) lt T = timed_sets w at node (is_there w at) T
  timed_change at stamp w (Makes kind node) lt T = same_times w _ refl refl refl T
  timed_change at stamp w Retires lt T =
      record { clock = T.clock; pending = every_filter ItemBefore (λ item. not (is_at at item)) w.pending T.pending; left = T.left }
  timed_change at stamp w (Accepts to body tag) lt T = timed_accept_at w to (node_at w to) body tag stamp lt T
  timed_change at stamp w (Posts hook packet) lt T = timed_sent w (hook_at (node_at w at) hook) packet stamp lt T
  timed_change at stamp w (Notes x) lt T = timed_note w at stamp x lt T

  timed_all : (at : NodeId) (stamp : Stamp) (w : World) (cs : List Change) → stamp.0 < limit → Timed w → Timed (change_all at stamp w cs)
  timed_all at stamp w [] lt T = T
  timed_all at stamp w (ch ∷ cs) lt T = timed_all at stamp (change at stamp w ch) cs lt (timed_change at stamp w ch lt T)

  -- an item is applied

  timed_if : (w : World) (p : Item) (b : Bool) → p.stamp.0 < limit → Timed w → Timed (apply_if w p b)
  timed_if w p true lt T = same_times w _ refl refl refl T
  timed_if w p false lt T =
      timed_all p.to p.stamp (finish w p.id) (effect (finish w p.id) p (node_at (finish w p.id) p.to)) lt (same_times w _ refl refl refl T)

  timed_item : (w : World) (p : Item) → p.stamp.0 < limit → Timed w → Timed (apply_item w p)
  timed_item w p lt T =
      timed_if (take_out w p.id) p (is_hook_gone (node_at (take_out w p.id) p.to) p.body) lt
      (record { clock = T.clock; pending = every_filter ItemBefore (λ q. not (has_id p.id q)) w.pending T.pending; left = T.left })

  found_before : (test : Item → Bool) (ps : List Item) (p : Item) → Every ItemBefore ps → find test ps ≡ Some p → p.stamp.0 < limit
  found_before test [] p all e = absurd (cc e)
  found_before test (q ∷ qs) p all e = elim (cases_Bool (test q)) [
    | inl t ↦ let here = rw t at e in let same : q ≡ p = cc in subst ItemBefore same all.0
    | inr t ↦ let there = rw t at e in found_before test qs p all.1 there
  ]

  timed_apply : (w : World) (id : ItemId) → Timed w → Timed (apply w id)
  timed_apply w id T = by (find (has_id id) w.pending) refl
    where
      by : (o : Option Item) → find (has_id id) w.pending ≡ o → Timed (apply_found w o)
      by None e = T
      by (Some p) e = timed_item w p (found_before (has_id id) w.pending p T.pending e) T

  -- Inputs

  timed_request : (given : RunInput) (w : World) (command : ℕ) {r : Request} {v : World} → Requested given w command r v → Timed w → Timed v
  timed_request given w command Ends T = T
  timed_request given w command (ByOrder path name args number to o there) T = timed_accept_at w to o _ (Some command) w.clock T.clock T
  timed_request given w command (ByName path name text args cookie number to node there reads) T =
      timed_accept_at w to (Some node) _ (Some command) w.clock T.clock T
  timed_request given w command (ByHook name bytes hook node there) T =
      timed_accept w hook.peer.node (kind_at node) (arrival hook bytes) None w.clock T.clock T
  timed_request given w command _ T = same_times w _ refl refl refl T

  timed_command : (given : RunInput) (w : World) (line : CommandLine) → Timed w → Timed (feed_command given w line)
  timed_command given w line T =
      timed_request given (begin_command w line.number) line.number (requested given (begin_command w line.number) line.number (request_of line.what)) (same_times w (begin_command w line.number) refl refl refl T)

  timed_ticks : (w : World) (seconds n : ℕ) (nodes : List (Option NodeRecord)) → Timed w → Timed (feed_ticks w seconds n nodes)
  timed_ticks w seconds n nodes T = ticks_keep Timed seconds (λ v m V. timed_accept_at v _ (node_at v _) _ None v.clock V.clock V) w n nodes T

  timed_arrive : (w : World) (port : ℕ) (stamp : Stamp) → stamp.0 < limit → Timed w → Timed (arrive w port stamp)
  timed_arrive w port stamp lt T = record {
    clock = let c : w.clock.0 < limit = T.clock in omega arith;
    pending = T.pending;
    left = every_set (LeftBefore limit) w.ports port _ T.left (port_before limit w.ports port T.left);
  }

  timed_input : (given : RunInput) (w : World) (input : Input) → IsBefore limit input → Timed w → Timed (feed_input given w input)
  timed_input given w (Command line) lt T = timed_command given w line T
  timed_input given w (Late line) lt T = timed_command given w line T
  timed_input given w (Packet port stamp packet) lt T =
      timed_accept_at (arrive w port stamp) (port_node port) (node_at (arrive w port stamp) (port_node port)) _ None stamp lt (timed_arrive w port stamp lt T)
  timed_input given w (Ticks seconds) lt T = timed_ticks w seconds 0 w.nodes T

  -- Events

  timed_event : (given : RunInput) (at : RunState) (e : Event) → Every (IsBefore limit) given.inputs → Timed at.world → Timed (after given at e).world
  timed_event given at Feed all T = by (slice_get given.inputs at.world.fed) refl
    where
      by : (o : Option Input) → slice_get given.inputs at.world.fed ≡ o → Timed (feed_next given at.world o)
      by None e = T
      by (Some input) e =
          timed_input given (record (at.world) { fed = at.world.fed + 1 }) input (every_get (IsBefore limit) given.inputs at.world.fed input all e)
          (same_times at.world _ refl refl refl T)
  timed_event given at (Take seat id) all T = T
  timed_event given at (Back id) all T = T
  timed_event given at (Apply id) all T = timed_apply at.world id T
  timed_event given at Stop all T = record { clock = T.clock; pending = tt; left = T.left }

  timed_run : (given : RunInput) (at : RunState) (j : List Event) → Every (IsBefore limit) given.inputs → Timed at.world → Timed (after_all given at j).world
  timed_run given at [] all T = T
  timed_run given at (e ∷ es) all T = timed_run given (after given at e) es all (timed_event given at e all T)

  blank_before : (names : List (List ℕ)) → Every (LeftBefore limit) (map (λ name. blank_port) names)
  blank_before [] = tt
  blank_before (name ∷ names) = (tt, blank_before names)

  -- what left by the ports in a run
  pub left_before : (s : Setting) (j : List Event) → 0 < limit → Every (IsBefore limit) s.given.inputs
      → Every (LeftBefore limit) (world_after s j).ports
  left_before s j some all =
      (timed_run s.given (beginning (start s)) j all (record { clock = some; pending = tt; left = blank_before s.ports })).left
