-- What readers leave as it is, that kinds stay, and that a node gets one hook and one link at most.
use Rattle.std.proofs.Common.{length, length-append, ◌≤◌, ◌+◌, ◌||◌, arith, ◌≡◌, ℕ, Bool, true, false, not, List, [], ◌∷◌, refl, sym, ap, ◌∙◌, true≢false}
use Rattle.std.proofs.lemmas.List.{length-map}
use Rattle.std.specs.declared.option.Option.{Option}
use Rattle.ng_base.specs.declared.ids.LinkId.{LinkId}
use Rattle.ng_base.specs.declared.ids.NodeId.{NodeId}
use Rattle.ng_machine.specs.declared.body.Body.{Body}
use Rattle.ng_machine.specs.declared.body.Body.TheVariants.{Frame, Msg, Tick, Learn}
use Rattle.ng_machine.specs.declared.hook.Hook.{Hook}
use Rattle.ng_machine.specs.declared.item.Item.{Item}
use Rattle.ng_machine.specs.Words.{Every}
use Rattle.ng_message.specs.Numbers.{is_reader_number}
use Rattle.ng_machine.specs.State.{KindState, State, EtherState, SocketState, blank_kept, kept_without_hook, kept_without_hooks, kind_of_kept, way_of}
use Rattle.ng_machine.specs.Body.{is_writer, is_frame, is_tick}
use Rattle.ng_base.specs.declared.kind.Kind.TheVariants.{Ether}
use Rattle.ng_machine.specs.Bounds.{links_of}
use Rattle.ng_machine.specs.Rules.{farewell_of, is_lasting}
use Rattle.ng_machine.specs.Case.{outcome_of, kept_after}
use Rattle.ng_machine.specs.World.{World, NodeRecord, state_of, kind_at, is_named, link_id, next_node, new_hook, change_hook, settle_hook, bind_to, with_changed_hook, with_hook, without_hook, hook_names}
use Rattle.ng_machine.specs.Change.{Change, Sets, Makes, Retires, Accepts, Posts, Notes}
use Rattle.ng_machine.specs.Retire.{stays, has_hooks}
use Rattle.ng_machine.specs.Effect.{effect_at}
use Rattle.ng_machine.specs.KindObligations.{IsPreserved, Preserves, KeepsKind, ReadersPreserve, KindsStay}
use Rattle.ng_machine.proofs.Every.{every_imply}
use Rattle.ng_machine.proofs.Occurs.{Becomes, ByRule, WithPeer, WithHook, Joined, Renamed, Cut, Emptied, Settled, Bound, MakesNode, Peer, Goes, ShutDown, LastRemoved, LastLost, Brings, ToLearn, Occurs, order_writes}
use Rattle.ng_machine.proofs.Costing.{effect_occurs}
use Rattle.ng_machine.proofs.Standing.{fewer_filtered}
use Rattle.ng_machine.proofs.Sounded.{is_not}
use Rattle.ng_machine.proofs.Linked.{links_are_few}
use Rattle.ng_machine.proofs.Owed.{reply_reads, passed_way, made_kind, cut_kind, cut_all_kind, passed_kind, reply_kind, ticked_kind, learned_kind}

-- Kinds

pub after_kind : (state : State) (body : Body) → kind_of_kept (kept_after state body) ≡ kind_of_kept state.kept
after_kind state (Frame door link packet) = passed_kind state.kept state.hooks door _
after_kind state (Msg msg) = reply_kind state.kept state.hooks msg.header.cmd msg.args
after_kind state (Tick seconds) = ticked_kind state.kept seconds
after_kind state (Learn hook link addr) = learned_kind state.kept hook addr
after_kind state _ = refl

pub becomes_kind : (w : World) (item : Item) (node : NodeRecord) {body : Body} {now : NodeRecord} → Becomes w item node body now → kind_at now ≡ kind_at node
becomes_kind w item node (ByRule body) = after_kind (state_of node) body
becomes_kind w item node (WithPeer msg name ours theirs kind made) = made_kind node.kept ours
becomes_kind w item node (WithHook msg path ours theirs address peer order to) = made_kind node.kept ours
becomes_kind w item node (Joined hook link peer peer_hook) = made_kind node.kept hook
becomes_kind w item node (Cut body name writes) = cut_kind node.kept name
becomes_kind w item node (Emptied msg order) = cut_all_kind node.kept (hook_names node)
becomes_kind w item node _ = refl

keeps : (w : World) (item : Item) (node : NodeRecord) (body : Body) (c : Change) → Occurs w item node body c → KeepsKind node c
keeps w item node body (Sets now) o = becomes_kind w item node o
keeps w item node body _ o = tt

pub kinds_stay : KindsStay
kinds_stay w item node body = every_imply (Occurs w item node body) (KeepsKind node) (keeps w item node body) (effect_at w item node body) (effect_occurs w item node body)

-- Readers

spared_part : (node : NodeRecord) (kept : KindState) → kind_of_kept kept ≡ kind_of_kept node.kept → way_of (state_of (record node { kept = kept })) ≡ way_of (state_of node) → IsPreserved node (record node { kept = kept })
spared_part node kept k e = record { name = refl; hooks = refl; kind = k; way = e }

ruled : (node : NodeRecord) (body : Body) → is_writer (kind_at node) body ≡ false → IsPreserved node (record node { kept = kept_after (state_of node) body })
ruled node (Frame door link packet) reads =
    spared_part node _ (after_kind (state_of node) (Frame door link packet)) (passed_way node.kept (hook_names node) door (outcome_of (state_of node) (Frame door link packet)).counts reads)
ruled node (Msg msg) reads =
    let e = reply_reads node.kept (hook_names node) msg.header.cmd msg.args (is_not (is_reader_number msg.header.cmd) reads) in
    spared_part node _ (ap kind_of_kept e) (ap (λ (kept : KindState). way_of (state_of (record node { kept = kept }))) e)
ruled node _ reads = absurd (true≢false reads)

-- an item that changes more is a writer
becomes_writes : (w : World) (item : Item) (node : NodeRecord) {body : Body} {now : NodeRecord} → Becomes w item node body now → is_writer (kind_at node) body ≡ false → IsPreserved node now
becomes_writes w item node (ByRule body) reads = ruled node body reads
becomes_writes w item node (WithPeer msg name ours theirs kind made) reads = absurd (true≢false (sym (order_writes node msg _ made.order (λ q e. cc e)) ∙ reads))
becomes_writes w item node (WithHook msg path ours theirs address peer order to) reads = absurd (true≢false (sym (order_writes node msg _ order (λ q e. cc e)) ∙ reads))
becomes_writes w item node (Renamed msg name order) reads = absurd (true≢false (sym (order_writes node msg _ order (λ q e. cc e)) ∙ reads))
becomes_writes w item node (Cut body name writes) reads = absurd (true≢false (sym writes ∙ reads))
becomes_writes w item node (Emptied msg order) reads = absurd (true≢false (sym (order_writes node msg _ order (λ q e. cc e)) ∙ reads))
becomes_writes w item node _ reads = absurd (true≢false reads)

goes_writes : (node : NodeRecord) {body : Body} → Goes node body → is_writer (kind_at node) body ≡ true
goes_writes node (ShutDown msg order leaves) = order_writes node msg _ order (λ q e. cc e)
goes_writes node (LastRemoved msg hook name order gone) = order_writes node msg _ order (λ q e. cc e)
goes_writes node (LastLost hook link name gone) = refl

makes_writes : (w : World) (item : Item) (node : NodeRecord) {body : Body} {made : NodeRecord} → MakesNode w item node body made → is_writer (kind_at node) body ≡ true
makes_writes w item node (Peer msg name ours theirs kind made) = order_writes node msg _ made.order (λ q e. cc e)

spares : (w : World) (item : Item) (node : NodeRecord) (body : Body) → is_writer (kind_at node) body ≡ false → (c : Change) → Occurs w item node body c → Preserves node c
spares w item node body reads (Sets now) o = becomes_writes w item node o reads
spares w item node body reads (Makes kind made) o = true≢false (sym (makes_writes w item node o) ∙ reads)
spares w item node body reads Retires o = true≢false (sym (goes_writes node o) ∙ reads)
spares w item node body reads _ o = tt

pub readers_preserve : ReadersPreserve
readers_preserve w item node body reads = every_imply (Occurs w item node body) (Preserves node) (spares w item node body reads) (effect_at w item node body) (effect_occurs w item node body)

-- Growth

-- hooks and links grow by one at most; what is accepted is no packet and no tick; and an ether doesn't retire
abbrev pub Grows : NodeRecord → Change → Type 0
Grows node (Sets now) = ((length now.hooks ≤ 1 + length node.hooks) × (links_of now.kept ≤ 1 + links_of node.kept)) × (kind_at now ≡ kind_at node)
Grows node (Makes kind made) = (length made.hooks ≤ 1) × (links_of made.kept ≤ 1)
Grows node Retires = kind_at node ≡ Ether → ⊥
Grows node (Accepts to body tag) = (is_frame body ≡ false) × (is_tick body ≡ false)
Grows node (Posts hook packet) = Unit {0}
Grows node (Notes x) = Unit {0}

-- an ether stays without hooks
lasting_ether : (kept : KindState) → kind_of_kept kept ≡ Ether → is_lasting kept ≡ true
lasting_ether (EtherState s) e = refl
lasting_ether SocketState e = refl
lasting_ether _ e = absurd (cc e)

or_right : (a b : Bool) → (a || b) ≡ false → b ≡ false
or_right true b e = absurd (true≢false e)
or_right false b e = e

cut_all_few : (kept : KindState) (hooks : List (List ℕ)) → links_of (kept_without_hooks kept hooks) ≤ links_of kept
cut_all_few kept [] = omega arith
cut_all_few kept (hook ∷ hooks) = let first = links_are_few.cut kept hook in let rest = cut_all_few (kept_without_hook kept hook) hooks in omega arith

module _ (w : World) (item : Item) (node : NodeRecord) where
  abbrev HasFew : NodeRecord → Type 0
  HasFew now = (length now.hooks ≤ 1 + length node.hooks) × (links_of now.kept ≤ 1 + links_of node.kept)

  with_few : (name : List ℕ) (link : LinkId) (peer : NodeId) (peer_hook : List ℕ) (joined : Bool) → HasFew (with_hook node (new_hook name link peer peer_hook joined))
  with_few name link peer peer_hook joined =
      let more = length-append node.hooks (new_hook name link peer peer_hook joined ∷ []) in
      let few = links_are_few.made node.kept name in (omega arith, omega arith)

  changed_few : (name : List ℕ) (change : Hook → Hook) → HasFew (with_changed_hook node name change)
  changed_few name change = let same = length-map node.hooks (change_hook name change) in (omega arith, omega arith)

  becomes_few : {body : Body} {now : NodeRecord} → Becomes w item node body now → HasFew now
  becomes_few (ByRule body) = let same = links_are_few.after (state_of node) body in (omega arith, omega arith)
  becomes_few (WithPeer msg name ours theirs kind made) = with_few ours (link_id w.next_link) (next_node w) theirs true
  becomes_few (WithHook msg path ours theirs address peer order to) = with_few ours (link_id w.next_link) peer theirs false
  becomes_few (Joined hook link peer peer_hook) = with_few hook link peer peer_hook true
  becomes_few (Renamed msg name order) = (omega arith, omega arith)
  becomes_few (Cut body name writes) =
      let fewer = fewer_filtered (λ (h : Hook). not (is_named name h)) node.hooks in
      let links = links_are_few.cut node.kept name in (omega arith, omega arith)
  becomes_few (Emptied msg order) = let links = cut_all_few node.kept (hook_names node) in (omega arith, omega arith)
  becomes_few (Settled hook link name) = changed_few name settle_hook
  becomes_few (Bound hook old new peer peer_hook name) = changed_few name (bind_to new peer peer_hook)

  lasts : (name : List ℕ) → stays (without_hook node name) ≡ false → kind_at node ≡ Ether → ⊥
  lasts name gone e = true≢false (sym (lasting_ether (kept_without_hook node.kept name) (cut_kind node.kept name ∙ e)) ∙ or_right (has_hooks (without_hook node name).hooks) _ gone)

  goes_apart : {body : Body} → Goes node body → kind_at node ≡ Ether → ⊥
  goes_apart (ShutDown msg order leaves) e = leaves (ap farewell_of e)
  goes_apart (LastRemoved msg hook name order gone) e = lasts name gone e
  goes_apart (LastLost hook link name gone) e = lasts name gone e

  brings_steps : {body brought : Body} {to : NodeId} {tag : Option ℕ} → Brings w item node body to brought tag → (is_frame brought ≡ false) × (is_tick brought ≡ false)
  brings_steps (ToLearn hook link packet addr is) = (refl, refl)
  brings_steps _ = (refl, refl)

  grows : (body : Body) (c : Change) → Occurs w item node body c → Grows node c
  grows body (Sets now) o = (becomes_few o, becomes_kind w item node o)
  grows body (Makes kind made) (Peer msg name ours theirs of is) =
      let blank = links_are_few.blank of in
      let few = links_are_few.made (blank_kept of) theirs in (omega arith, omega arith)
  grows body Retires o = goes_apart o
  grows body (Accepts to brought tag) o = brings_steps o
  grows body (Posts hook packet) o = tt
  grows body (Notes x) o = tt

  pub grows_effect : (body : Body) → Every (Grows node) (effect_at w item node body)
  grows_effect body = every_imply (Occurs w item node body) (Grows node) (grows body) (effect_at w item node body) (effect_occurs w item node body)
