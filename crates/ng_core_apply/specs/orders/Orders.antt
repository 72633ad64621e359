-- The changes of each step, by its run and its node.
use Rattle.std.specs.Prelude.{ℕ, List, [], ◌∷◌, Some}
use Rattle.ng_base.specs.declared.errno.Errno.{Errno}
use Rattle.ng_base.specs.declared.ids.LinkId.{LinkId}
use Rattle.ng_base.specs.declared.ids.NodeId.{NodeId}
use Rattle.ng_base.specs.declared.kind.Kind.{Kind}
use Rattle.ng_base.specs.Kind.{kind_named}
use Rattle.ng_machine.specs.declared.hook.End.{End}
use Rattle.ng_machine.specs.declared.item.Item.{Item}
use Rattle.ng_machine.specs.Change.{Sets}
use Rattle.ng_machine.specs.Connect.{connect, connect_changes, connect_to, hook_refusal, join, rebind, settle, undo}
use Rattle.ng_machine.specs.Generic.{answer, answer_bytes, makes, mkpeer, rename}
use Rattle.ng_machine.specs.Retire.{refuse}
use Rattle.ng_machine.specs.World.{linked_hook}
use Rattle.ng_message.specs.declared.message.Header.{Header}
use Rattle.ng_core_apply.specs.declared.orders.asking.Question.{Question}
use Rattle.ng_core_apply.specs.orders.Asked.{message_of, question_of, told_by}
use Rattle.ng_core_state.specs.step.Steps.{Changes, world_at}
use Rattle.ng_path.specs.Address.{read_address}

-- an error is told, and nothing else
abbrev pub refuses : Item → Errno → Changes
refuses item errno a node = refuse item.tag errno

-- the second step of a connect, the third, and what undoes the first
abbrev pub joins : Item → List ℕ → LinkId → End → Changes
joins item hook link to a node = join item node (hook_refusal node hook) hook link to.node to.hook

abbrev pub settles : List ℕ → LinkId → Changes
settles hook link a node = settle node (linked_hook node hook link)

abbrev pub undoes : Item → List ℕ → LinkId → Errno → Changes
undoes item hook link errno a node = undo item node (linked_hook node hook link) errno

-- a hook gets another peer
abbrev pub rebinds : List ℕ → LinkId → LinkId → End → Changes
rebinds hook old new to a node = rebind node (linked_hook node hook old) new to.node to.hook

-- the order to connect, by an address; to a node that it leads to; and where our hook may be made
abbrev pub connects : Item → List ℕ → List ℕ → List ℕ → Changes
connects item address ours theirs a node = connect (world_at a item) item node (read_address address) ours theirs

abbrev pub connects_to : Item → List ℕ → End → Changes
connects_to item hook to a node = connect_to (world_at a item) item node (Some to.node) hook to.hook

abbrev pub begins : Item → List ℕ → End → Changes
begins item hook to a node = connect_changes (world_at a item) item node to.node hook to.hook

-- the order to make a node, by the name of a type; of a type; and where it may be made
abbrev pub makes_peer : Item → List ℕ → List ℕ → List ℕ → Changes
makes_peer item kind_name ours theirs a node = mkpeer (world_at a item) item node (kind_named kind_name) ours theirs

abbrev pub makes_peer_of : Item → Kind → List ℕ → List ℕ → Changes
makes_peer_of item kind ours theirs a node = mkpeer (world_at a item) item node (Some kind) ours theirs

abbrev pub makes_node : Item → Kind → List ℕ → List ℕ → Changes
makes_node item kind ours theirs a node = makes (world_at a item) item node kind ours theirs

-- the order to give a name, and where the node may get it
abbrev pub renames : Item → List ℕ → Changes
renames item name a node = rename (world_at a item) item node name

abbrev pub gets_name : List ℕ → Changes
gets_name name a node = Sets (record node { name = Some name }) ∷ []

-- a question of a message of this sender and this header
abbrev pub answers : Item → NodeId → Header → Question → Changes
answers item sender header question a node = answer item (message_of sender header) (answer_bytes (world_at a item) item.to node (question_of question))

-- an answer is told
abbrev pub tells : Item → Changes
tells item a node = told_by item.tag item.body

-- nothing changes
abbrev pub changes_nothing : Changes
changes_nothing a node = []
