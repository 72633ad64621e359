-- What applying an item does: a list of changes, by its body and its node.
use Rattle.std.specs.Prelude.{ℕ, ◌+◌, ◌%◌, Bool, true, false, not, ◌==◌, ◌&&◌, List, [], ◌∷◌, ◌++◌, filter, find, is_none, Option, Some, None}
use Rattle.ng_base.specs.declared.cause.Cause.TheVariants.{HookGone}
use Rattle.ng_base.specs.declared.errno.Errno.{Errno}
use Rattle.ng_base.specs.declared.ids.ItemId.{ItemId}
use Rattle.ng_base.specs.declared.ids.LinkId.{LinkId}
use Rattle.ng_base.specs.declared.kind.Kind.{Kind}
use Rattle.ng_base.specs.declared.kind.Kind.TheVariants.{Socket}
use Rattle.ng_base.specs.Kind.{same_kind}
use Rattle.ng_message.specs.declared.message.Msg.{Msg as Message}
use Rattle.ng_machine.specs.declared.body.Body.{Body}
use Rattle.ng_machine.specs.declared.body.Body.TheVariants.{Frame, Msg, Join2, Join3, Undo, Leave, Rebind, Tick, Learn}
use Rattle.ng_machine.specs.declared.body.Door.{Door}
use Rattle.ng_machine.specs.declared.body.Door.TheVariants.{Wire, Hook as ByHook}
use Rattle.ng_machine.specs.declared.body.Exit.{Exit}
use Rattle.ng_machine.specs.declared.item.Item.{Item}
use Rattle.ng_machine.specs.declared.outcome.Outcome.{Outcome}
use Rattle.ng_machine.specs.declared.told.Told.TheVariants.{Answer}
use Rattle.ng_machine.specs.Errors.{einval}
use Rattle.ng_message.specs.Numbers.{generic_cookie, answer_flag}
use Rattle.ng_base.specs.Kind.{cookie_of}
use Rattle.ng_machine.specs.Body.{has_id}
use Rattle.ng_machine.specs.Case.{kept_after, outcome_of}
use Rattle.ng_base.specs.declared.ids.NodeId.{NodeId}
use Rattle.ng_machine.specs.declared.hook.Hook.{Hook}
use Rattle.ng_machine.specs.World.{World, NodeRecord, node_at, kind_at, state_of, linked_hook}
use Rattle.ng_machine.specs.Change.{Change, Sets, Accepts, Posts, Notes, Tells, Refuses, Exits, change_all}
use Rattle.ng_machine.specs.Retire.{refuse}
use Rattle.ng_machine.specs.Connect.{hook_refusal, join, settle, undo, remove_peer_hook, rebind}
use Rattle.ng_machine.specs.Generic.{ordered, answer}

-- A packet or a tick at its node: the node's part changes, then packets leave, then what is to be learned waits for the
-- node itself, with the packet's hook and link, and then packets are sent.

-- the hook that what leaves came by
abbrev pub door_name : Door → List ℕ
door_name Wire = []
door_name (ByHook hook) = hook

abbrev pub exits : List ℕ → List (Exit × List ℕ) → List Change
exits hook [] = []
exits hook (x ∷ rest) = Notes (Exits x.0 hook x.1) ∷ exits hook rest

abbrev pub posts : List (List ℕ × List ℕ) → List Change
posts [] = []
posts (x ∷ rest) = Posts x.0 x.1 ∷ posts rest

abbrev pub is_fine : Errno → Bool
is_fine errno = errno.0 == 0

abbrev pub counts_unless : Bool → List Change
counts_unless true = []
counts_unless false = Notes Refuses ∷ []

abbrev pub becomes : NodeRecord → Body → Change
becomes node body = Sets (record node { kept = kept_after (state_of node) body })

abbrev pub learns_by : NodeId → List ℕ → Option LinkId → Option (List ℕ) → List Change
learns_by at hook None learn = []
learns_by at hook (Some link) None = []
learns_by at hook (Some link) (Some addr) = Accepts at (Learn hook link addr) None ∷ []

abbrev pub learns : NodeId → Door → Option LinkId → Option (List ℕ) → List Change
learns at Wire link learn = []
learns at (ByHook hook) link learn = learns_by at hook link learn

abbrev pub serve : NodeRecord → Body → List ℕ → Outcome → List Change → List Change
serve node body hook out learned = becomes node body ∷ (exits hook out.leaves ++ (counts_unless (is_fine out.errno) ++ (learned ++ posts out.sends)))

abbrev pub pass : Item → NodeRecord → Door → Option LinkId → Body → Outcome → List Change
pass item node door link body out = serve node body (door_name door) out (learns item.to door link out.learn)

-- What a bridge learns, where the hook is there with its link.

abbrev pub learn : NodeRecord → Option Hook → Body → List Change
learn node None body = []
learn node (Some hook) body = becomes node body ∷ []

-- A message of the cookie of the node's type: where it is refused, its error is told and nothing changes.

abbrev pub answered : Item → Message → Option (List ℕ) → List Change
answered item msg None = []
answered item msg (Some bytes) = answer item msg bytes

abbrev pub reply_changes_if : NodeRecord → Item → Message → Outcome → Bool → List Change
reply_changes_if node item msg out false = refuse item.tag out.errno
reply_changes_if node item msg out true = becomes node (Msg msg) ∷ (exits [] out.leaves ++ (answered item msg out.answer ++ posts out.sends))

abbrev pub reply_changes : NodeRecord → Item → Message → Outcome → List Change
reply_changes node item msg out = reply_changes_if node item msg out (is_fine out.errno)

-- An answer that reaches the socket is told to the command that asked.

abbrev pub told_answer : Message → Option ℕ → List Change
told_answer msg None = []
told_answer msg (Some command) = Notes (Tells (Answer command msg.from msg.header.typecookie msg.header.cmd msg.args)) ∷ []

-- which message it is: an answer at the socket comes first, and the generic cookie before the type's
pub data MessageClass : Type 0 where
  AnAnswer AnOrder OfKind Foreign : MessageClass

abbrev pub class_by : Bool → Bool → Bool → MessageClass
class_by true generic own = AnAnswer
class_by false true own = AnOrder
class_by false false true = OfKind
class_by false false false = Foreign

-- the lowest bit of the flags says that it is an answer (NGF_RESP of ng_message.h)
abbrev pub is_answer : Message → Bool
is_answer msg = msg.header.flags % 2 == answer_flag

abbrev pub class_of : Kind → Message → MessageClass
class_of kind msg = class_by (is_answer msg && same_kind kind Socket) (msg.header.typecookie == generic_cookie) (msg.header.typecookie == cookie_of kind)

abbrev pub message_by : World → Item → NodeRecord → Message → MessageClass → List Change
message_by w item node msg AnAnswer = told_answer msg item.tag
message_by w item node msg AnOrder = ordered w item node msg
message_by w item node msg OfKind = reply_changes node item msg (outcome_of (state_of node) (Msg msg))
message_by w item node msg Foreign = refuse item.tag einval

abbrev pub message : World → Item → NodeRecord → Message → List Change
message w item node msg = message_by w item node msg (class_of (kind_at node) msg)

abbrev pub effect_at : World → Item → NodeRecord → Body → List Change
effect_at w item node (Frame door link packet) = pass item node door link (Frame door link packet) (outcome_of (state_of node) (Frame door link packet))
effect_at w item node (Msg msg) = message w item node msg
effect_at w item node (Join2 hook link peer peer_hook) = join item node (hook_refusal node hook) hook link peer peer_hook
effect_at w item node (Join3 hook link) = settle node (linked_hook node hook link)
effect_at w item node (Undo hook link errno) = undo item node (linked_hook node hook link) errno
effect_at w item node (Leave hook link) = remove_peer_hook w item node (linked_hook node hook link)
effect_at w item node (Rebind hook old new peer peer_hook) = rebind node (linked_hook node hook old) new peer peer_hook
effect_at w item node (Tick seconds) = serve node (Tick seconds) [] (outcome_of (state_of node) (Tick seconds)) []
effect_at w item node (Learn hook link addr) = learn node (linked_hook node hook link) (Learn hook link addr)

abbrev pub effect : World → Item → Option NodeRecord → List Change
effect w item None = []
effect w item (Some node) = effect_at w item node item.body

-- A packet by a hook that isn't there or has another link by now is dropped.

abbrev pub lacks_link : NodeRecord → List ℕ → Option LinkId → Bool
lacks_link node hook None = true
lacks_link node hook (Some link) = is_none (linked_hook node hook link)

abbrev pub is_hook_gone : Option NodeRecord → Body → Bool
is_hook_gone (Some node) (Frame (ByHook hook) link packet) = lacks_link node hook link
is_hook_gone _ _ = false

-- The item is no longer pending, and is done or dropped.

abbrev pub take_out : World → ItemId → World
take_out w id = record w { pending = filter (λ item. not (has_id id item)) w.pending; applies = w.applies + 1 }

abbrev pub finish : World → ItemId → World
finish w id = record w { done = w.done ++ id ∷ [] }

abbrev pub drop_hook_gone : World → ItemId → World
drop_hook_gone w id = record w { dropped = w.dropped ++ (id, HookGone) ∷ [] }

abbrev pub carry_out_effect : World → Item → World
carry_out_effect w item = change_all item.to item.stamp w (effect w item (node_at w item.to))

abbrev pub apply_if : World → Item → Bool → World
apply_if w item true = drop_hook_gone w item.id
apply_if w item false = carry_out_effect (finish w item.id) item

abbrev pub apply_item : World → Item → World
apply_item w item = apply_if (take_out w item.id) item (is_hook_gone (node_at w item.to) item.body)

abbrev pub apply_found : World → Option Item → World
apply_found w None = w
apply_found w (Some item) = apply_item w item

abbrev pub apply : World → ItemId → World
apply w id = apply_found w (find (has_id id) w.pending)
