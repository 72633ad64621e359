-- What is fed, request by request: something is told, or one item waits.
use Rattle.std.proofs.Common.{◌≡◌, ℕ, ◌+◌, Bool, true, false, List, [], ◌∷◌, refl}
use Rattle.std.specs.declared.option.Option.{Option}
use Rattle.std.specs.declared.option.Option.TheVariants.{None, Some}
use Rattle.ng_base.specs.declared.errno.Errno.{Errno}
use Rattle.ng_base.specs.declared.ids.NodeId.{NodeId}
use Rattle.ng_path.specs.Address.{Address, read_address}
use Rattle.ng_machine.specs.declared.body.Body.TheVariants.{Tick}
use Rattle.ng_machine.specs.declared.hook.Hook.{Hook}
use Rattle.ng_machine.specs.declared.told.Told.TheVariants.{Help}
use Rattle.ng_message.specs.Numbers.{generic_cookie}
use Rattle.ng_machine.specs.World.{World, NodeRecord, node_at, hook_at, kind_at, own_node, node_id}
use Rattle.ng_machine.specs.Walk.{walk}
use Rattle.ng_machine.specs.Change.{accept, accept_at, arrival, tell}
use Rattle.ng_machine.specs.Feed.{RunInput, Reading, NoSuchMessage, BadArguments, Reads, Request, RefusedFor, Helps, Nothing, Orders, Asks, Writes, refuse_line, send_message, order_to, order_at, ask_read, ask_row, ask_to, ask_at, write_to, write_if, write_by, feed_request, is_bridge, feed_tick, feed_ticks}

-- the world after a command's request
pub data Requested (given : RunInput) (w : World) (command : ℕ) : Request → World → Type 0 where
  Refuses : (r : Request) (errno : Errno) (why : List ℕ) → Requested given w command r (refuse_line w command errno why)
  Explains : Requested given w command Helps (tell w (Help command))
  Ends : Requested given w command Nothing w
  ByOrder : (path name args : List ℕ) (number : ℕ) (to : NodeId) (o : Option NodeRecord) → node_at w to ≡ o
      → Requested given w command (Orders path number name args) (send_message w to o command generic_cookie number name args)
  ByName : (path name text args : List ℕ) (cookie number : ℕ) (to : NodeId) (node : NodeRecord) → node_at w to ≡ Some node → given.reading (kind_at node) name text ≡ Reads cookie number args
      → Requested given w command (Asks path name text) (send_message w to (Some node) command cookie number name args)
  ByHook : (name bytes : List ℕ) (hook : Hook) (node : NodeRecord) → node_at w hook.peer.node ≡ Some node
      → Requested given w command (Writes name bytes) (accept w hook.peer.node (kind_at node) (arrival hook bytes) None w.clock)

module _ (given : RunInput) (w : World) (command : ℕ) where
  abbrev R : Request → World → Type 0
  R r v = Requested given w command r v

  order_requested : (path name args : List ℕ) (number : ℕ) (address : Option Address) → R (Orders path number name args) (order_at w command address number name args)
  order_requested path name args number None = Refuses _ _ _
  order_requested path name args number (Some address) = by (walk w own_node address)
    where
      by : (to : Option NodeId) → R (Orders path number name args) (order_to w command to number name args)
      by None = Refuses _ _ _
      by (Some to) = ByOrder path name args number to (node_at w to) refl

  read_requested : (path name text : List ℕ) (to : NodeId) (node : NodeRecord) (r : Reading) → node_at w to ≡ Some node → given.reading (kind_at node) name text ≡ r → R (Asks path name text) (ask_read w command to (Some node) name r)
  read_requested path name text to node NoSuchMessage there e = Refuses _ _ _
  read_requested path name text to node (BadArguments why) there e = Refuses _ _ _
  read_requested path name text to node (Reads cookie number args) there e = ByName path name text args cookie number to node there e

  row_requested : (path name text : List ℕ) (to : NodeId) (o : Option NodeRecord) → node_at w to ≡ o → R (Asks path name text) (ask_row given w command to o name text)
  row_requested path name text to None there = Refuses _ _ _
  row_requested path name text to (Some node) there = read_requested path name text to node (given.reading (kind_at node) name text) there refl

  ask_requested : (path name text : List ℕ) (address : Option Address) → R (Asks path name text) (ask_at given w command address name text)
  ask_requested path name text None = Refuses _ _ _
  ask_requested path name text (Some address) = by (walk w own_node address)
    where
      by : (to : Option NodeId) → R (Asks path name text) (ask_to given w command to name text)
      by None = Refuses _ _ _
      by (Some to) = row_requested path name text to (node_at w to) refl

  write_requested : (name bytes : List ℕ) (hook : Option Hook) → R (Writes name bytes) (write_by w command hook bytes)
  write_requested name bytes None = Refuses _ _ _
  write_requested name bytes (Some hook) = by hook.joined
    where
      at : (o : Option NodeRecord) → node_at w hook.peer.node ≡ o → R (Writes name bytes) (write_to w command hook o bytes)
      at None there = Refuses _ _ _
      at (Some node) there = ByHook name bytes hook node there

      by : (b : Bool) → R (Writes name bytes) (write_if w command hook b bytes)
      by false = Refuses _ _ _
      by true = at (node_at w hook.peer.node) refl

  pub requested : (r : Request) → R r (feed_request given w command r)
  requested (RefusedFor why) = Refuses _ _ _
  requested Helps = Explains
  requested Nothing = Ends
  requested (Orders path number name args) = order_requested path name args number (read_address path)
  requested (Asks path name text) = ask_requested path name text (read_address path)
  requested (Writes hook bytes) = write_requested hook bytes (hook_at (node_at w own_node) hook)

-- what holds after each tick that may wait holds after all
pub ticks_keep : (P : World → Type 0) (seconds : ℕ) → ((v : World) (n : ℕ) → P v → P (accept_at v (node_id n) (node_at v (node_id n)) (Tick seconds) None v.clock))
    → (w : World) (n : ℕ) (nodes : List (Option NodeRecord)) → P w → P (feed_ticks w seconds n nodes)
ticks_keep P seconds f w n [] h = h
ticks_keep P seconds f w n (node ∷ nodes) h = ticks_keep P seconds f (feed_tick w seconds n (is_bridge node)) (n + 1) nodes (by (is_bridge node))
  where
    by : (b : Bool) → P (feed_tick w seconds n b)
    by true = f w n h
    by false = h
