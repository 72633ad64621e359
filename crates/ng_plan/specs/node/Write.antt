-- What a node may be given to work on, and its state after it.
use Rattle.std.specs.Prelude.{◌≡◌, true, false}
use Rattle.ng_base.specs.Kind.{cookie_of, same_kind}
use Rattle.ng_base.specs.Names.{has_name}
use Rattle.ng_base.specs.declared.kind.Kind.TheVariants.{Bridge, Ether}
use Rattle.ng_message.specs.Numbers.{is_reader_number}
use Rattle.ng_message.specs.declared.message.Msg.{Msg as Message}
use Rattle.ng_machine.specs.declared.body.Body.{Body}
use Rattle.ng_machine.specs.declared.body.Body.TheVariants.{Frame, Msg, Join2, Join3, Undo, Leave, Rebind, Tick, Learn}
use Rattle.ng_machine.specs.declared.body.Door.TheVariants.{Wire, Hook}
use Rattle.ng_machine.specs.State.{State, kind_of}
use Rattle.ng_machine.specs.Case.{kept_after}

-- a body leaves the hooks, and changes what the kind keeps by the case table
abbrev pub state_after : State → Body → State
state_after state body = record state { kept = kept_after state body }

-- a message of the kind's cookie that reads
pub record IsAsked (state : State) (msg : Message) : Type 0 where
  pub reads : is_reader_number msg.header.cmd ≡ true
  pub own : msg.header.typecookie ≡ cookie_of (kind_of state)

-- a packet by one of the node's hooks, or for an ether by the wire; a message of the kind's cookie that writes; and for a
-- bridge time, and what it is to learn by one of its hooks
abbrev pub IsWritable : State → Body → Type 0
IsWritable state (Frame (Hook hook) link packet) = has_name state.hooks hook ≡ true
IsWritable state (Frame Wire link packet) = same_kind (kind_of state) Ether ≡ true
IsWritable state (Msg msg) = (is_reader_number msg.header.cmd ≡ false) × (msg.header.typecookie ≡ cookie_of (kind_of state))
IsWritable state (Tick seconds) = same_kind (kind_of state) Bridge ≡ true
IsWritable state (Learn hook link addr) = (same_kind (kind_of state) Bridge ≡ true) × (has_name state.hooks hook ≡ true)
IsWritable state (Join2 hook link peer peer_hook) = ⊥
IsWritable state (Join3 hook link) = ⊥
IsWritable state (Undo hook link errno) = ⊥
IsWritable state (Leave hook link) = ⊥
IsWritable state (Rebind hook old new peer peer_hook) = ⊥
