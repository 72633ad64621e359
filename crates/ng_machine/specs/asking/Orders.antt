-- The orders of the code as those of the machine.
use Rattle.std.specs.Prelude.{◌≡◌, ℕ, List, Result}
use Rattle.std.specs.Result.{result_map_both}
use Rattle.ng_base.specs.declared.errno.Errno.{Errno}
use Rattle.ng_message.specs.Fields.{field_text}
use Rattle.ng_machine.specs.Order as machine
use Rattle.ng_machine.specs.declared.asking.order.Order.{Order}
use Rattle.ng_machine.specs.declared.asking.order.Order.TheVariants.{Shutdown, Mkpeer, Connect, Name, Rmhook, NodeInfo, ListHooks, ListNames, ListNodes, ListTypes}

-- an address is what stands before the first NUL of its 512 bytes
abbrev pub order_of : Order → machine.Order
order_of Shutdown = machine.Shutdown
order_of (Mkpeer kind_name ourhook peerhook) = machine.Mkpeer kind_name ourhook peerhook
order_of (Connect path ourhook peerhook) = machine.Connect (field_text path) ourhook peerhook
order_of (Name name) = machine.Rename name
order_of (Rmhook hook) = machine.Rmhook hook
order_of NodeInfo = machine.Asks machine.NodeInfo
order_of ListHooks = machine.Asks machine.ListHooks
order_of ListNames = machine.Asks machine.ListNames
order_of ListNodes = machine.Asks machine.ListNodes
order_of ListTypes = machine.Asks machine.ListTypes

abbrev pub read_as : Result Order Errno → Result machine.Order Errno
read_as read = result_map_both order_of (λ errno. errno) read

-- the address of a connect is its field as it stands, with what is behind the NUL
abbrev pub HasPath : List ℕ → Order → Type 0
HasPath field (Connect path ourhook peerhook) = path ≡ field
HasPath field Shutdown = Unit {0}
HasPath field (Mkpeer kind_name ourhook peerhook) = Unit {0}
HasPath field (Name name) = Unit {0}
HasPath field (Rmhook hook) = Unit {0}
HasPath field NodeInfo = Unit {0}
HasPath field ListHooks = Unit {0}
HasPath field ListNames = Unit {0}
HasPath field ListNodes = Unit {0}
HasPath field ListTypes = Unit {0}
