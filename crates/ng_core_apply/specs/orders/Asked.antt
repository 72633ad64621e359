-- Questions of orders, and what answers them.
use Rattle.std.specs.Prelude.{ℕ, Bool, true, false, List, [], ◌++◌, is_some, slice_index_or, Option, Some, None}
use Rattle.ng_base.specs.declared.ids.NodeId.{NodeId}
use Rattle.ng_message.specs.declared.message.Header.{Header}
use Rattle.ng_message.specs.declared.message.Msg.{Msg as Message}
use Rattle.ng_machine.specs.declared.body.Body.{Body}
use Rattle.ng_machine.specs.declared.body.Body.TheVariants.{Msg}
use Rattle.ng_machine.specs.Change.{Change}
use Rattle.ng_machine.specs.declared.hook.Hook.{Hook}
use Rattle.ng_machine.specs.Effect.{told_answer}
use Rattle.ng_machine.specs.Generic.{link_of}
use Rattle.ng_machine.specs.Order as machine
use Rattle.ng_machine.specs.World.{NodeRecord}
use Rattle.byteorder.specs.Endian.{little_bytes}
use Rattle.ng_base.specs.declared.kind.Kind.{Kind}
use Rattle.ng_base.specs.Kind.{kind_number, kind_text}
use Rattle.ng_message.specs.Fields.{name_field}
use Rattle.ng_message.specs.Layout.{link_info_bytes}
use Rattle.ng_topology.specs.Topology.{world_of}
use Rattle.ng_core_apply.specs.declared.orders.asking.Question.{Question}
use Rattle.ng_core_apply.specs.declared.orders.asking.Question.TheVariants.{NodeInfo, ListHooks, ListNames, ListNodes, ListTypes}

abbrev pub question_of : Question → machine.Question
question_of NodeInfo = machine.NodeInfo
question_of ListHooks = machine.ListHooks
question_of ListNames = machine.ListNames
question_of ListNodes = machine.ListNodes
question_of ListTypes = machine.ListTypes

-- the node is listed: one that is there, and one with a name where only those are
abbrev pub is_listed : Bool → Option NodeRecord → Bool
is_listed named None = false
is_listed true (Some node) = is_some node.name
is_listed false (Some node) = true

-- what is told of a hook, among these nodes
abbrev pub hook_bytes : List (Option NodeRecord) → Hook → List ℕ
hook_bytes nodes hook = link_info_bytes (link_of (world_of nodes) hook)

-- how many nodes are of a kind, where each kind has a number of its own, and what is told of that
abbrev pub count_of : List ℕ → Kind → ℕ
count_of counts kind = slice_index_or counts (kind_number kind) 0

abbrev pub type_bytes : List ℕ → Kind → List ℕ
type_bytes counts kind = name_field (kind_text kind) ++ little_bytes 4 (count_of counts kind)

-- a message with this sender and this header, as far as an answer tells of it
abbrev pub message_of : NodeId → Header → Message
message_of sender header = record { from = sender; header = header; args = [] }

-- what an item brings is told as an answer to the command of this tag, where it is a message
abbrev pub told_by : Option ℕ → Body → List Change
told_by tag (Msg msg) = told_answer msg tag
told_by tag _ = []
