-- The whole table, and look-ups in it.
use Rattle.std.specs.Prelude.{ℕ, ◌==◌, if◌then◌else◌, List, [], find, option_map, Option, Some, None}
use Rattle.std.specs.Str.{bytes_eq}
use Rattle.ng_base.specs.declared.kind.Kind.{Kind}
use Rattle.ng_base.specs.declared.kind.Kind.TheVariants.{Hub, Tee, One2many, Bridge, Vlan, Patch, Bpf, Ether, Etf, Macset}
use Rattle.ng_table.specs.Message.{Message}
use Rattle.ng_table.specs.Cookie.{generic_cookie, cookie_of, kind_with}
use Rattle.ng_table.specs.Generic.{generic_messages}
use Rattle.ng_table.specs.Hub.{hub_messages}
use Rattle.ng_table.specs.Tee.{tee_messages}
use Rattle.ng_table.specs.One2many.{one2many_messages}
use Rattle.ng_table.specs.Bridge.{bridge_messages}
use Rattle.ng_table.specs.Vlan.{vlan_messages}
use Rattle.ng_table.specs.Patch.{patch_messages}
use Rattle.ng_table.specs.Bpf.{bpf_messages}
use Rattle.ng_table.specs.Ether.{ether_messages}
use Rattle.ng_table.specs.Etf.{etf_messages}
use Rattle.ng_table.specs.Macset.{macset_messages}

-- the messages of a type of node, beside those that all nodes know
abbrev pub messages_of : Kind → List Message
messages_of Hub = hub_messages
messages_of Tee = tee_messages
messages_of One2many = one2many_messages
messages_of Bridge = bridge_messages
messages_of Vlan = vlan_messages
messages_of Patch = patch_messages
messages_of Bpf = bpf_messages
messages_of Ether = ether_messages
messages_of Etf = etf_messages
messages_of Macset = macset_messages
messages_of _ = []

abbrev pub messages_if : Option Kind → List Message
messages_if None = []
messages_if (Some kind) = messages_of kind

-- the messages of a cookie
abbrev pub messages_with : ℕ → List Message
messages_with cookie = if cookie == generic_cookie then generic_messages else messages_if (kind_with cookie)

abbrev pub find_by_name : List Message → List ℕ → Option Message
find_by_name messages name = find (λ message. bytes_eq message.name name) messages

abbrev pub find_by_number : List Message → ℕ → Option Message
find_by_number messages number = find (λ message. message.number == number) messages

-- the first, or else the second
abbrev pub either : {A : Type 0} → Option A → Option A → Option A
either None second = second
either (Some x) second = Some x

-- the message of that name which a node of the type knows, with its cookie: the type's own messages go before those that all nodes know
abbrev pub find_name : Kind → List ℕ → Option (ℕ × Message)
find_name kind name = either
    (option_map (λ message. (cookie_of kind, message)) (find_by_name (messages_of kind) name))
    (option_map (λ message. (generic_cookie, message)) (find_by_name generic_messages name))

-- the message of that cookie and number
abbrev pub find_number : ℕ → ℕ → Option Message
find_number cookie number = find_by_number (messages_with cookie) number
