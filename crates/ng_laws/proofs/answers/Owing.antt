-- What each change of an item owes: nodes whose names, hooks and parts have the right lengths; messages that a fed
-- command asked for; and answers that have rows. `Presumed` stands for what the law presumes of a run: where it doesn't
-- hold, less is owed.
use Rattle.std.proofs.Common.{◌≡◌, ℕ, suc, ◌<◌, ◌≤◌, ◌^◌, ◌==◌, ◌&&◌, Bool, true, false, not, if◌then◌else◌, List, [], ◌∷◌}
use Rattle.std.proofs.Common.{length, length-append, refl, sym, subst, arith}
use Rattle.std.specs.declared.option.Option.{Option}
use Rattle.std.specs.declared.option.Option.TheVariants.{None, Some}
use Rattle.std.proofs.lemmas.Bool.{and_parts, eqb-true}
use Rattle.std.proofs.lemmas.List.{length-map}
use Rattle.ng_base.specs.Kind.{same_kind, cookie_of}
use Rattle.ng_base.specs.declared.ids.LinkId.{LinkId}
use Rattle.ng_base.specs.declared.ids.NodeId.{NodeId}
use Rattle.ng_base.specs.declared.kind.Kind.{Kind}
use Rattle.ng_base.specs.declared.kind.Kind.TheVariants.{Socket}
use Rattle.ng_message.specs.Numbers.{generic_cookie}
use Rattle.ng_message.specs.declared.message.Msg.{Msg as Message}
use Rattle.ng_machine.specs.declared.body.Body.{Body}
use Rattle.ng_machine.specs.declared.body.Body.TheVariants.{Frame, Msg, Join2, Join3, Undo, Leave, Rebind, Tick, Learn}
use Rattle.ng_machine.specs.declared.body.Door.TheVariants.{Hook as ByHook}
use Rattle.ng_machine.specs.declared.hook.Hook.{Hook}
use Rattle.ng_machine.specs.declared.item.Item.{Item}
use Rattle.ng_machine.specs.declared.told.Told.{Told}
use Rattle.ng_machine.specs.declared.told.Told.TheVariants.{Line, Refused, Help, Answer, Frame as ToldFrame}
use Rattle.ng_machine.specs.Words.{Every}
use Rattle.ng_machine.specs.State.{blank_kept}
use Rattle.ng_machine.specs.Case.{outcome_of, kept_after}
use Rattle.ng_machine.specs.World.{World, NodeRecord, state_of, kind_at, is_named, new_hook, with_hook}
use Rattle.ng_machine.specs.World.{without_hook, with_changed_hook, change_hook, settle_hook, bind_to, hook_names, blank_node}
use Rattle.ng_machine.specs.World.{link_id, next_node}
use Rattle.ng_machine.specs.Change.{Change, Sets, Makes, Retires, Accepts, Posts, Notes, Note, Tells, Refuses, Exits, Links}
use Rattle.ng_machine.specs.Order.{Order, Asks, Question, NodeInfo, ListHooks}
use Rattle.ng_machine.specs.Order.{ListNames, ListNodes, ListTypes}
use Rattle.ng_machine.specs.Generic.{answer_bytes, answer_to}
use Rattle.ng_machine.specs.Effect.{is_answer, class_by, class_of, effect_at}
use Rattle.ng_machine.specs.Effect.{MessageClass, AnAnswer, AnOrder, OfKind, Foreign}
use Rattle.ng_machine.specs.Feed.{RunInput}
use Rattle.ng_machine.proofs.Every.{every_push, every_filter, every_imply, every_map, every_has}
use Rattle.ng_machine.proofs.Occurs.{IsOrder, Becomes, ByRule, WithPeer, WithHook, Joined, Renamed, Cut, Emptied, Settled, Bound}
use Rattle.ng_machine.proofs.Occurs.{Peer, Brings, ToLearn, Replied, Answered, ToLeave, ToJoin, ToRebind, HasJoined}
use Rattle.ng_machine.proofs.Occurs.{HasRefused, HasGone, NotesOf, Fails, Hears, CountsRefused, LetsOut, UsesLink, Occurs}
use Rattle.ng_machine.proofs.Costing.{effect_occurs}
use Rattle.ng_laws.specs.answers.Answers.{WasAsked, WasHelp, HasRow}
use Rattle.ng_laws.proofs.answers.Rows.{IsShort, IsShortNamed, IsShortHook, AreShortNamed, fewer, node_info, list_hooks, list_names}
use Rattle.ng_laws.proofs.answers.Rows.{list_nodes, list_types}
use Rattle.ng_laws.proofs.answers.Shapes.{IsSix, IsShaped, more_shaped, blank_shaped, made_shaped, cut_shaped, cut_all_shaped}
use Rattle.ng_laws.proofs.answers.Shapes.{passed_shaped, ticked_shaped, learned_shaped}
use Rattle.ng_laws.proofs.answers.Replies.{AnswerHasRow, reply_fine}
use Rattle.ng_laws.proofs.answers.Orders.{number_of, OrderOwes, ResultOwes, order_owes}
use Rattle.ng_laws.proofs.answers.Teaching.{IsSixOrNone, frames_teach}

-- What is owed

-- a node with at most n hooks, and as many elements of its part where their number isn't bounded by the part
pub record IsShapedNode (Presumed : Type 0) (n : ℕ) (node : NodeRecord) : Type 0 where
  pub named : Presumed → IsShortNamed node
  pub hooks : Every IsShortHook node.hooks
  pub few : length node.hooks ≤ n
  pub kept : IsShaped n node.kept

-- a message that a fed command of its tag asked for, and whose bytes have a row where it is an answer
pub record IsAsked (Presumed : Type 0) (given : RunInput) (fed : ℕ) (tag : Option ℕ) (msg : Message) : Type 0 where
  pub command : ℕ
  pub is : tag ≡ Some command
  pub asked : WasAsked given fed command msg.header.typecookie msg.header.cmd
  pub row : is_answer msg ≡ true → Presumed → HasRow msg.header.typecookie msg.header.cmd msg.args

-- what waits: a message that was asked for, names of hooks, and addresses
abbrev pub BodyOwes : Type 0 → RunInput → ℕ → Option ℕ → Body → Type 0
BodyOwes Presumed given fed tag (Msg msg) = IsAsked Presumed given fed tag msg
BodyOwes Presumed given fed tag (Join2 hook link peer peer_hook) = IsShort hook × IsShort peer_hook
BodyOwes Presumed given fed tag (Rebind hook old new peer peer_hook) = IsShort peer_hook
BodyOwes Presumed given fed tag (Learn hook link addr) = IsSix addr
BodyOwes Presumed given fed tag (Frame door link packet) = Unit {0}
BodyOwes Presumed given fed tag (Join3 hook link) = Unit {0}
BodyOwes Presumed given fed tag (Undo hook link errno) = Unit {0}
BodyOwes Presumed given fed tag (Leave hook link) = Unit {0}
BodyOwes Presumed given fed tag (Tick seconds) = Unit {0}

-- what is told
abbrev pub ToldOwes : Type 0 → RunInput → ℕ → Told → Type 0
ToldOwes Presumed given fed (Answer command from cookie number bytes) = WasAsked given fed command cookie number
    × (Presumed → HasRow cookie number bytes)
ToldOwes Presumed given fed (Help command) = WasHelp given fed command
ToldOwes Presumed given fed (Line command) = Unit {0}
ToldOwes Presumed given fed (Refused command errno why) = Unit {0}
ToldOwes Presumed given fed (ToldFrame hook packet) = Unit {0}

abbrev pub NoteOwes : Type 0 → RunInput → ℕ → Note → Type 0
NoteOwes Presumed given fed (Tells told) = ToldOwes Presumed given fed told
NoteOwes Presumed given fed Refuses = Unit {0}
NoteOwes Presumed given fed (Exits exit hook packet) = Unit {0}
NoteOwes Presumed given fed Links = Unit {0}

abbrev pub Owes : Type 0 → RunInput → ℕ → ℕ → Change → Type 0
Owes Presumed given fed n (Sets now) = IsShapedNode Presumed n now
Owes Presumed given fed n (Makes kind made) = IsShapedNode Presumed n made
Owes Presumed given fed n Retires = Unit {0}
Owes Presumed given fed n (Accepts to body tag) = BodyOwes Presumed given fed tag body
Owes Presumed given fed n (Posts hook packet) = Unit {0}
Owes Presumed given fed n (Notes x) = NoteOwes Presumed given fed x

pub more_node : (Presumed : Type 0) (n m : ℕ) (node : NodeRecord) → n ≤ m → IsShapedNode Presumed n node
    → IsShapedNode Presumed m node
more_node Presumed n m node le h = record {
  named = h.named;
  hooks = h.hooks;
  few = let few = h.few in omega arith;
  kept = more_shaped n m node.kept le h.kept;
}

-- What a message's class says of it: its flag, or its cookie

abbrev Says : MessageClass → Bool → Bool → Bool → Type 0
Says AnAnswer answers generic own = answers ≡ true
Says AnOrder answers generic own = generic ≡ true
Says OfKind answers generic own = own ≡ true
Says Foreign answers generic own = Unit {0}

class_says : (kind : Kind) (msg : Message) (class : MessageClass) → class_of kind msg ≡ class
    → Says class (is_answer msg && same_kind kind Socket) (msg.header.typecookie == generic_cookie) (msg.header.typecookie == cookie_of kind)
class_says kind msg class e =
    by (is_answer msg && same_kind kind Socket) (msg.header.typecookie == generic_cookie) (msg.header.typecookie == cookie_of kind) class e
  where
    all : (a b c : Bool) → Says (class_by a b c) a b c
    all true b c = refl
    all false true c = refl
    all false false true = refl
    all false false false = tt

    by : (a b c : Bool) (class : MessageClass) → class_by a b c ≡ class → Says class a b c
    by a b c class e = subst (λ (x : MessageClass). Says x a b c) e (all a b c)

-- What an item's changes owe, where these hold of it, of its node and of the others

pub record IsReady (Presumed : Type 0) (given : RunInput) (fed n : ℕ) (w : World) (item : Item) (node : NodeRecord) : Type 0 where
  pub own : IsShapedNode Presumed n node
  pub names : Presumed → AreShortNamed w.nodes
  pub few : Presumed → n < 2 ^ 32
  pub nodes : Presumed → length w.nodes < 2 ^ 32

module _ (Presumed : Type 0) (given : RunInput) (fed n : ℕ) (w : World) (item : Item) (node : NodeRecord)
    (R : IsReady Presumed given fed n w item node) where
  same_node : IsShapedNode Presumed (suc n) node
  same_node = more_node Presumed n (suc n) node (omega arith) R.own

  -- Nodes

  after_shaped : (body : Body) → BodyOwes Presumed given fed item.tag body → IsShaped (suc n) (kept_after (state_of node) body)
  after_shaped (Frame door link packet) h = passed_shaped (suc n) node.kept (hook_names node) door _ same_node.kept
  after_shaped (Msg msg) h = (reply_fine n node.kept (hook_names node) msg.header.cmd msg.args R.own.kept).shaped
  after_shaped (Tick seconds) h = ticked_shaped (suc n) node.kept seconds same_node.kept
  after_shaped (Learn hook link addr) h = learned_shaped n node.kept hook addr h R.own.kept
  after_shaped _ h = same_node.kept

  cut_node : (name : List ℕ) → IsShapedNode Presumed (suc n) (without_hook node name)
  cut_node name = record {
    named = R.own.named;
    hooks = every_filter IsShortHook (λ h. not (is_named name h)) node.hooks R.own.hooks;
    few = let few = R.own.few in omega (arith, fewer (λ (h : Hook). not (is_named name h)) node.hooks);
    kept = cut_shaped (suc n) node.kept name same_node.kept;
  }

  pushed_node : (name : List ℕ) (link : LinkId) (peer : NodeId) (peer_hook : List ℕ) (joined : Bool) → IsShort name
      → IsShort peer_hook → IsShapedNode Presumed (suc n) (with_hook node (new_hook name link peer peer_hook joined))
  pushed_node name link peer peer_hook joined short other = record {
    named = R.own.named;
    hooks = every_push IsShortHook node.hooks (new_hook name link peer peer_hook joined) R.own.hooks (short, other);
    few = let few = R.own.few in omega (arith, length-append node.hooks (new_hook name link peer peer_hook joined ∷ []));
    kept = made_shaped (suc n) node.kept name short same_node.kept;
  }

  changed_node : (name : List ℕ) (change : Hook → Hook) → ((h : Hook) → IsShortHook h → IsShortHook (change h))
      → IsShapedNode Presumed (suc n) (with_changed_hook node name change)
  changed_node name change f = record {
    named = R.own.named;
    hooks = every_map IsShortHook IsShortHook (change_hook name change) (λ h short. by h (is_named name h) short) node.hooks R.own.hooks;
    few = let few = R.own.few in omega (arith, length-map node.hooks (change_hook name change));
    kept = same_node.kept;
  }
    where
      by : (h : Hook) (b : Bool) → IsShortHook h → IsShortHook (if b then change h else h)
      by h true short = f h short
      by h false short = short

  made_node : (kind : Kind) (name : List ℕ) (link : LinkId) (peer_hook : List ℕ) → IsShort name → IsShort peer_hook
      → IsShapedNode Presumed (suc n) (with_hook (blank_node None kind) (new_hook name link item.to peer_hook true))
  made_node kind name link peer_hook short other = record {
    named = λ _. omega arith;
    hooks = ((short, other), tt);
    few = omega arith;
    kept = made_shaped (suc n) (blank_kept kind) name short
        (more_shaped 0 (suc n) (blank_kept kind) (omega arith) (blank_shaped kind));
  }

  -- the names in an order are short, and its number is that of its question
  order_is : (msg : Message) (order : Order) → IsOrder node msg order → OrderOwes msg.header.cmd order
  order_is msg order is = subst (ResultOwes msg.header.cmd) is.reads (order_owes msg.header.cmd msg.args)

  becomes_shaped : {body : Body} {now : NodeRecord} → Becomes w item node body now → BodyOwes Presumed given fed item.tag body
      → IsShapedNode Presumed (suc n) now
  becomes_shaped (ByRule body) h =
      record { named = R.own.named; hooks = R.own.hooks; few = same_node.few; kept = after_shaped body h }
  becomes_shaped (WithPeer msg name ours theirs kind made) h = let short = order_is msg _ made.order in
      pushed_node ours (link_id w.next_link) (next_node w) theirs true short.0 short.1
  becomes_shaped (WithHook msg path ours theirs address peer order to) h = let short = order_is msg _ order in
      pushed_node ours (link_id w.next_link) peer theirs false short.0 short.1
  becomes_shaped (Joined hook link peer peer_hook) h = pushed_node hook link peer peer_hook true h.0 h.1
  becomes_shaped (Renamed msg name order) h =
      record { named = λ _. order_is msg _ order; hooks = R.own.hooks; few = same_node.few; kept = same_node.kept }
  becomes_shaped (Cut body name writes) h = cut_node name
  becomes_shaped (Emptied msg order) h = record {
    named = R.own.named;
    hooks = tt;
    few = omega arith;
    kept = cut_all_shaped (suc n) node.kept (hook_names node) same_node.kept;
  }
  becomes_shaped (Settled hook link name) h = changed_node name settle_hook (λ h short. short)
  becomes_shaped (Bound hook old new peer peer_hook name) h = changed_node name (bind_to new peer peer_hook) (λ x was. (was.0, h))

  -- The messages that all nodes know

  question_row : (question : Question) → Presumed → HasRow generic_cookie (number_of question)
      (answer_bytes w item.to node question)
  question_row NodeInfo presumed = node_info item.to node (R.own.named presumed)
  question_row ListHooks presumed = let few = R.own.few in let lt = R.few presumed in
      list_hooks w item.to node (R.names presumed) (R.own.named presumed) R.own.hooks (omega arith)
  question_row ListNames presumed = list_names w _ (R.names presumed) (R.nodes presumed)
  question_row ListNodes presumed = list_nodes w _ (R.names presumed) (R.nodes presumed)
  question_row ListTypes presumed = list_types w

  -- What is brought and noted

  answer_owed : (msg : Message) (bytes : List ℕ) → IsAsked Presumed given fed item.tag msg
      → (Presumed → HasRow msg.header.typecookie msg.header.cmd bytes)
      → BodyOwes Presumed given fed item.tag (Msg (answer_to item.to msg bytes))
  answer_owed msg bytes A has = record { command = A.command; is = A.is; asked = A.asked; row = λ _ presumed. has presumed }

  reply_row : (msg : Message) (bytes : List ℕ) → class_of (kind_at node) msg ≡ OfKind
      → (outcome_of (state_of node) (Msg msg)).answer ≡ Some bytes → Presumed → HasRow msg.header.typecookie msg.header.cmd bytes
  reply_row msg bytes class is presumed =
      let fine = reply_fine n node.kept (hook_names node) msg.header.cmd msg.args R.own.kept in
      subst (λ (cookie : ℕ). HasRow cookie msg.header.cmd bytes) (sym (eqb-true _ _ (class_says (kind_at node) msg OfKind class)))
      (subst (AnswerHasRow (cookie_of (kind_at node)) msg.header.cmd) is (fine.answer (R.few presumed)))

  asked_row : (msg : Message) (question : Question) → IsOrder node msg (Asks question) → Presumed
      → HasRow msg.header.typecookie msg.header.cmd (answer_bytes w item.to node question)
  asked_row msg question order presumed =
      let bytes = answer_bytes w item.to node question in
      subst (λ (cookie : ℕ). HasRow cookie msg.header.cmd bytes) (sym (eqb-true _ _ (class_says (kind_at node) msg AnOrder order.class)))
      (subst (λ (number : ℕ). HasRow generic_cookie number bytes) (sym (order_is msg _ order)) (question_row question presumed))

  brings_owed : {body brought : Body} {to : NodeId} {tag : Option ℕ} → Brings w item node body to brought tag
      → BodyOwes Presumed given fed item.tag body → BodyOwes Presumed given fed tag brought
  brings_owed (ToLearn hook link packet addr is) h =
      subst IsSixOrNone is (frames_teach node.kept (hook_names node) (ByHook hook) (Some link) packet)
  brings_owed (Replied msg bytes class is) h = answer_owed msg bytes h (reply_row msg bytes class is)
  brings_owed (Answered msg question order) h = answer_owed msg _ h (asked_row msg question order)
  brings_owed (ToLeave body hook) h = tt
  brings_owed (ToJoin msg path ours theirs peer order) h = let short = order_is msg _ order in (short.1, short.0)
  brings_owed (ToRebind msg from to a b) h = (every_has IsShortHook node.hooks to R.own.hooks b).1
  brings_owed (HasJoined hook link peer peer_hook) h = tt
  brings_owed (HasRefused hook link peer peer_hook errno) h = tt
  brings_owed (HasGone body p link peer peer_hook waits) h = tt

  notes_owed : {body : Body} {x : Note} → NotesOf item node body x → BodyOwes Presumed given fed item.tag body
      → NoteOwes Presumed given fed x
  notes_owed (Hears msg command class tag) A =
      let same : A.command ≡ command = cc (A.is) in (
        subst (λ (c : ℕ). WasAsked given fed c msg.header.typecookie msg.header.cmd) same A.asked,
        λ presumed. A.row (and_parts _ _ (class_says (kind_at node) msg AnAnswer class)).0 presumed,
      )
  notes_owed (Fails body command errno) h = tt
  notes_owed (CountsRefused body) h = tt
  notes_owed (LetsOut body exit hook packet leaves) h = tt
  notes_owed (UsesLink body) h = tt

  owes : (body : Body) → BodyOwes Presumed given fed item.tag body → (c : Change) → Occurs w item node body c
      → Owes Presumed given fed (suc n) c
  owes body h (Sets now) o = becomes_shaped o h
  owes body h (Makes kind made) (Peer msg name ours theirs of is) = let short = order_is msg _ is.order in
      made_node of theirs (link_id w.next_link) ours short.1 short.0
  owes body h Retires o = tt
  owes body h (Accepts to brought tag) o = brings_owed o h
  owes body h (Posts hook packet) o = tt
  owes body h (Notes x) o = notes_owed o h

  pub owes_effect : (body : Body) → BodyOwes Presumed given fed item.tag body
      → Every (Owes Presumed given fed (suc n)) (effect_at w item node body)
  owes_effect body h = every_imply (Occurs w item node body) (Owes Presumed given fed (suc n)) (owes body h)
      (effect_at w item node body) (effect_occurs w item node body)
