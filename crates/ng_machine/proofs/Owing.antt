-- What each change of an item owes: peers with numbers that were given, tags of the last command, packets that are no longer
-- than the longest, and steps that bring no packet.
use Rattle.std.proofs.Common.{◌≡◌, ℕ, suc, ◌+◌, ◌<◌, ◌≤◌, Bool, true, false, not, if◌then◌else◌, List, [], ◌∷◌, length, refl, sym, ap, subst, arith}
use Rattle.std.specs.declared.option.Option.{Option}
use Rattle.std.specs.declared.option.Option.TheVariants.{None, Some}
use Rattle.ng_base.specs.declared.ids.LinkId.{LinkId}
use Rattle.ng_base.specs.declared.ids.NodeId.{NodeId}
use Rattle.ng_path.specs.declared.path.Head.{Head}
use Rattle.ng_path.specs.declared.path.Head.TheVariants.{Local, Named, Id}
use Rattle.ng_machine.specs.declared.body.Body.{Body}
use Rattle.ng_machine.specs.declared.body.Body.TheVariants.{Frame, Msg}
use Rattle.ng_machine.specs.declared.body.Exit.{Exit}
use Rattle.ng_machine.specs.declared.hook.Hook.{Hook}
use Rattle.ng_machine.specs.declared.item.Item.{Item}
use Rattle.ng_machine.specs.Words.{Has, Every}
use Rattle.ng_machine.specs.Body.{is_frame, is_at}
use Rattle.ng_machine.specs.Bounds.{Fits}
use Rattle.ng_machine.specs.KnownRun.{SpeaksBelow, PacketFits, PeersBelow, ToldFits}
use Rattle.ng_machine.specs.State.{State}
use Rattle.ng_machine.specs.Case.{outcome_of}
use Rattle.ng_machine.specs.World.{World, NodeRecord, state_of, kind_at, node_at, is_there, hook_at, is_named, new_hook, with_hook, with_changed_hook, change_hook, settle_hook, bind_to, find_named, has_name as has_node_name, node_id, link_id, next_node}
use Rattle.ng_path.specs.Address.{Address}
use Rattle.ng_machine.specs.Walk.{walk, follow, head_at, peer_of, peer_if}
use Rattle.ng_machine.specs.Change.{Change, Sets, Makes, Retires, Accepts, Posts, Notes, Note, Tells, Refuses, Exits, Links}
use Rattle.ng_machine.specs.Effect.{effect_at}
use Rattle.ng_machine.proofs.Standing.{of_filter}
use Rattle.ng_machine.proofs.NodeLists.{given_number}
use Rattle.ng_machine.proofs.Occurs.{Becomes, ByRule, WithPeer, WithHook, Joined, Renamed, Cut, Emptied, Settled, Bound, Peer, Brings, ToLearn, ToLeave, ToJoin, ToRebind, HasGone, NotesOf, LetsOut, Occurs, makes_only}
use Rattle.ng_machine.proofs.Costing.{is_make, total, effect_occurs}
use Rattle.ng_machine.proofs.Preserving.{becomes_kind}
pub use Rattle.ng_machine.proofs.Every.{every_imply}
use Rattle.ng_machine.proofs.Every.{every_push, every_filter, every_has, every_map}
use Rattle.ng_machine.proofs.Refusing.{reply_quiet}
use Rattle.ng_machine.proofs.Bounded.{packets_are_bounded}

-- What a change owes

abbrev pub TagIs : ℕ → Option ℕ → Type 0
TagIs command tag = (t : ℕ) → tag ≡ Some t → t ≡ command

pub no_tag : (command : ℕ) → TagIs command None
no_tag command t e = absurd (cc e)

abbrev pub NoteFits : Note → Type 0
NoteFits (Tells told) = ToldFits told
NoteFits Refuses = Unit {0}
NoteFits (Exits exit hook packet) = Fits packet
NoteFits Links = Unit {0}

-- peers below B, tags of this command, and the kind of this node
abbrev pub Owes : ℕ → ℕ → NodeRecord → Change → Type 0
Owes B command node (Sets now) = PeersBelow B now × (kind_at now ≡ kind_at node)
Owes B command node (Makes kind made) = PeersBelow B made
Owes B command node Retires = Unit {0}
Owes B command node (Accepts to body tag) = (SpeaksBelow B body × (is_frame body ≡ false)) × TagIs command tag
Owes B command node (Posts hook packet) = Fits packet
Owes B command node (Notes x) = NoteFits x

-- how many nodes a list of changes makes
abbrev pub count_makes : List Change → ℕ
count_makes cs = total is_make cs

-- A walk leads to a node whose number was given

there_given : (w : World) (id : NodeId) (b : Bool) (to : NodeId) → is_there w id ≡ b → (if b then Some id else None) ≡ Some to → to.0 < length w.nodes
there_given w id true to is e = by (node_at w id) refl is
  where
    same : id ≡ to
    same = cc e

    by : (o : Option NodeRecord) → node_at w id ≡ o → (elim o as (λ x. Bool) [ None ↦ false | Some node ↦ true ]) ≡ true → to.0 < length w.nodes
    by None at h = absurd (cc h)
    by (Some node) at h = subst (λ (x : NodeId). x.0 < length w.nodes) same (given_number w.nodes id.0 node at)
there_given w id false to is e = absurd (cc e)

found_given : (name : List ℕ) (m : ℕ) (nodes : List (Option NodeRecord)) (to : NodeId) → find_named m name nodes ≡ Some to → to.0 < m + length nodes
found_given name m [] to e = absurd (cc e)
found_given name m (x ∷ nodes) to e = by (has_node_name name x) e (found_given name (m + 1) nodes to)
  where
    by : (b : Bool) → (if b then Some (node_id m) else find_named (m + 1) name nodes) ≡ Some to → (find_named (m + 1) name nodes ≡ Some to → to.0 < m + 1 + length nodes) → to.0 < m + suc (length nodes)
    by true is more = let same : node_id m ≡ to = cc is in subst (λ (x : NodeId). x.0 < m + suc (length nodes)) same (omega arith)
    by false is more = let lt = more is in omega arith

head_given : (w : World) (from : NodeId) (head : Head) (to : NodeId) → head_at w from head ≡ Some to → to.0 < length w.nodes
head_given w from Local to e = there_given w from (is_there w from) to refl e
head_given w from (Named name) to e = let lt = found_given name 0 w.nodes to e in omega arith
head_given w from (Id id) to e = there_given w id (is_there w id) to refl e

peer_given : (w : World) (hook : Option Hook) (to : NodeId) → peer_of w hook ≡ Some to → to.0 < length w.nodes
peer_given w None to e = absurd (cc e)
peer_given w (Some hook) to e = by hook.joined e
  where
    by : (b : Bool) → peer_if w hook.peer.node b ≡ Some to → to.0 < length w.nodes
    by true is = there_given w hook.peer.node (is_there w hook.peer.node) to refl is
    by false is = absurd (cc is)

follow_given : (w : World) (from : Option NodeId) (hooks : List (List ℕ)) (to : NodeId) → ((x : NodeId) → from ≡ Some x → x.0 < length w.nodes) → follow w from hooks ≡ Some to → to.0 < length w.nodes
follow_given w None hooks to h e = absurd (cc e)
follow_given w (Some id) [] to h e = h to e
follow_given w (Some id) (hook ∷ hooks) to h e = follow_given w (peer_of w (hook_at (node_at w id) hook)) hooks to (peer_given w (hook_at (node_at w id) hook)) e

pub walk_given : (w : World) (from : NodeId) (address : Address) (to : NodeId) → walk w from address ≡ Some to → to.0 < length w.nodes
walk_given w from address to e = follow_given w (head_at w from address.head) address.hooks to (head_given w from address.head) e

-- A packet that leaves or is sent is no longer than the longest

outcome_fits : (state : State) (body : Body) → PacketFits body → Every (λ (x : List ℕ × List ℕ). Fits x.1) (outcome_of state body).sends × Every (λ (x : Exit × List ℕ). Fits x.1) (outcome_of state body).leaves
outcome_fits state (Frame door link packet) fits = let bounded = packets_are_bounded state door link packet fits in (bounded.sends, bounded.leaves)
outcome_fits state (Msg msg) fits =
    let quiet = reply_quiet state.kept state.hooks msg.header.cmd msg.args in
    (subst (Every (λ (x : List ℕ × List ℕ). Fits x.1)) (sym quiet.0) tt, subst (Every (λ (x : Exit × List ℕ). Fits x.1)) (sym quiet.1) tt)
outcome_fits state _ fits = (tt, tt)

-- What an item's changes owe, where these hold of it and of what waits

pub record IsReady (B : ℕ) (w : World) (item : Item) (node : NodeRecord) : Type 0 where
  pub tag : TagIs w.command item.tag
  pub peers : PeersBelow B node
  pub mine : item.to.0 < B
  pub waits : (p : Item) → Has p w.pending → TagIs w.command p.tag

module _ (B : ℕ) (w : World) (item : Item) (node : NodeRecord) (R : IsReady B w item node) where
  abbrev IsBelow : Hook → Type 0
  IsBelow hook = hook.peer.node.0 < B

  changed_below : (name : List ℕ) (change : Hook → Hook) → ((h : Hook) → IsBelow h → IsBelow (change h)) → PeersBelow B (with_changed_hook node name change)
  changed_below name change f = every_map IsBelow IsBelow (change_hook name change) (λ h lt. by h (is_named name h) lt) node.hooks R.peers
    where
      by : (h : Hook) (b : Bool) → IsBelow h → IsBelow (if b then change h else h)
      by h true lt = f h lt
      by h false lt = lt

  pushed_below : (name : List ℕ) (link : LinkId) (peer : NodeId) (peer_hook : List ℕ) (joined : Bool) → peer.0 < B → PeersBelow B (with_hook node (new_hook name link peer peer_hook joined))
  pushed_below name link peer peer_hook joined lt = every_push IsBelow node.hooks (new_hook name link peer peer_hook joined) R.peers lt

  becomes_below : {body : Body} {now : NodeRecord} → Becomes w item node body now → SpeaksBelow B body → length w.nodes + count_makes (effect_at w item node body) ≤ B → PeersBelow B now
  becomes_below (ByRule body) speaks le = R.peers
  becomes_below (WithPeer msg name ours theirs kind made) speaks le =
      let one : count_makes (effect_at w item node (Msg msg)) ≡ 1 = ap count_makes (makes_only w item node msg name ours theirs kind made) in
      pushed_below ours (link_id w.next_link) (next_node w) theirs true (omega arith)
  becomes_below (WithHook msg path ours theirs address peer order to) speaks le =
      let lt = walk_given w item.to address peer to in pushed_below ours (link_id w.next_link) peer theirs false (omega arith)
  becomes_below (Joined hook link peer peer_hook) speaks le = pushed_below hook link peer peer_hook true speaks
  becomes_below (Renamed msg name order) speaks le = R.peers
  becomes_below (Cut body name writes) speaks le = every_filter IsBelow (λ h. not (is_named name h)) node.hooks R.peers
  becomes_below (Emptied msg order) speaks le = tt
  becomes_below (Settled hook link name) speaks le = changed_below name settle_hook (λ h lt. lt)
  becomes_below (Bound hook old new peer peer_hook name) speaks le = changed_below name (bind_to new peer peer_hook) (λ h _. speaks)

  brings_owed : {body brought : Body} {to : NodeId} {tag : Option ℕ} → Brings w item node body to brought tag → (SpeaksBelow B brought × (is_frame brought ≡ false)) × TagIs w.command tag
  brings_owed (ToLearn hook link packet addr is) = ((tt, refl), no_tag w.command)
  brings_owed (ToLeave body hook) = ((tt, refl), no_tag w.command)
  brings_owed (ToJoin msg path ours theirs peer order) = ((R.mine, refl), R.tag)
  brings_owed (ToRebind msg from to a b) = ((every_has IsBelow node.hooks to R.peers b, refl), R.tag)
  brings_owed (HasGone body p link peer peer_hook waits) = ((tt, refl), R.waits p (of_filter (is_at item.to) p w.pending waits).0)
  brings_owed _ = ((tt, refl), R.tag)

  notes_fit : {body : Body} {x : Note} → NotesOf item node body x → PacketFits body → NoteFits x
  notes_fit (LetsOut body exit hook packet leaves) fits = every_has (λ (x : Exit × List ℕ). Fits x.1) _ (exit, packet) (outcome_fits (state_of node) body fits).1 leaves
  notes_fit _ fits = tt

  owes : (body : Body) → SpeaksBelow B body → PacketFits body → length w.nodes + count_makes (effect_at w item node body) ≤ B → (c : Change) → Occurs w item node body c → Owes B w.command node c
  owes body speaks fits le (Sets now) o = (becomes_below o speaks le, becomes_kind w item node o)
  owes body speaks fits le (Makes kind made) (Peer msg name ours theirs kind_is is) = (R.mine, tt)
  owes body speaks fits le Retires o = tt
  owes body speaks fits le (Accepts to brought tag) o = brings_owed o
  owes body speaks fits le (Posts hook packet) o = every_has (λ (x : List ℕ × List ℕ). Fits x.1) _ (hook, packet) (outcome_fits (state_of node) body fits).0 o
  owes body speaks fits le (Notes x) o = notes_fit o fits

  pub owes_effect : (body : Body) → SpeaksBelow B body → PacketFits body → length w.nodes + count_makes (effect_at w item node body) ≤ B → Every (Owes B w.command node) (effect_at w item node body)
  owes_effect body speaks fits le = every_imply (Occurs w item node body) (Owes B w.command node) (owes body speaks fits le) (effect_at w item node body) (effect_occurs w item node body)
