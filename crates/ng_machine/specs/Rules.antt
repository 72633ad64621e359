-- What each type of node says of its hooks' names, of staying without hooks, and of going. Each is the rule of the type's
-- manual page, ng_hub(4) and so on, with ng_ in front of the type's name.
use Rattle.std.specs.Prelude.{ℕ, Bool, true, false, ◌||◌, if◌then◌else◌, List, [], ◌∷◌, codes, Result, Ok, Err}
use Rattle.std.specs.Str.{bytes_eq}
use Rattle.ng_base.specs.declared.errno.Errno.{Errno}
use Rattle.ng_base.specs.declared.kind.Kind.{Kind}
use Rattle.ng_base.specs.declared.kind.Kind.TheVariants.{Tee, Split, One2many, Bridge, Patch, Ether, Socket, Macset}
use Rattle.ng_base.specs.Kind.{same_kind}
use Rattle.ng_base.specs.Names.{has_name}
use Rattle.ng_machine.specs.declared.farewell.Farewell.{Farewell}
use Rattle.ng_machine.specs.declared.farewell.Farewell.TheVariants.{Plain, Stay, Bypass}
use Rattle.ng_machine.specs.Errors.{einval}
use Rattle.ng_machine.specs.Names.{lower, upper, in_hook, out_hook, mixed, left, right, tee_hooks, one, all_hook, known_hook, other_hook, is_numbered}
use Rattle.ng_machine.specs.kinds.Bridge.{most_links}
use Rattle.ng_machine.specs.State.{KindState, HubState, SocketState, BridgeState, EtherState}

-- the kind takes a hook of this name
abbrev pub accepts_hook : Kind → List ℕ → Bool
accepts_hook Tee hook = has_name tee_hooks hook
accepts_hook Split hook = has_name (in_hook ∷ out_hook ∷ mixed ∷ []) hook
accepts_hook One2many hook = bytes_eq hook one || is_numbered (codes "many") 64 hook
accepts_hook Bridge hook = is_numbered (codes "link") most_links hook
accepts_hook Patch hook = has_name (in_hook ∷ out_hook ∷ []) hook
accepts_hook Ether hook = has_name (lower ∷ upper ∷ []) hook
accepts_hook Macset hook = has_name (all_hook ∷ known_hook ∷ other_hook ∷ []) hook
accepts_hook _ hook = true

-- the answer to a hook's name: EINVAL where the kind doesn't take it
abbrev pub may_of : Kind → List ℕ → Result Unit Errno
may_of kind hook = if accepts_hook kind hook then Ok tt else Err einval

-- the node stays without hooks; ng_hub(4), ng_bridge(4): after setpersistent
abbrev pub is_lasting : KindState → Bool
is_lasting (HubState persistent) = persistent
is_lasting (BridgeState s) = s.persistent
is_lasting SocketState = true
is_lasting (EtherState s) = true
is_lasting _ = false

-- what a node does at a shutdown: it goes; or it stays without its hooks, as ng_ether(4) says and as this project has
-- it of the socket; or it goes and leaves its two peers joined to each other, as ng_tee(4) says
abbrev pub farewell_of : Kind → Farewell
farewell_of Tee = Bypass left right
farewell_of Ether = Stay
farewell_of Socket = Stay
farewell_of _ = Plain

-- nodes of these types are there from the start, and no command makes one
abbrev pub is_fixed : Kind → Bool
is_fixed kind = same_kind kind Ether || same_kind kind Socket
