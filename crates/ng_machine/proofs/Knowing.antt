-- What is known of each world of a run: each change that owes it, and each input that fits, keeps it.
use Rattle.std.proofs.Common.{◌≡◌, ◌≢◌, ℕ, zero, suc, ◌+◌, ◌<◌, ◌≤◌, Bool, true, false, not, nat_le, nat_lt, List, [], ◌∷◌, ◌++◌, length, map, set, get_or, is_some, slice_get, refl, sym, ap, ◌∙◌, ⊎_elim, subst, arith, true≢false, length-set, length-append}
use Rattle.std.specs.List.{filter}
use Rattle.std.specs.declared.option.Option.{Option}
use Rattle.std.specs.declared.option.Option.TheVariants.{None, Some}
use Rattle.std.proofs.lemmas.Bool.{eq-eqb, cases_eq}
use Rattle.ng_base.specs.declared.event.Event.{Event}
use Rattle.ng_base.specs.declared.event.Event.TheVariants.{Feed, Take, Back, Apply, Stop}
use Rattle.ng_base.specs.declared.ids.ItemId.{ItemId}
use Rattle.ng_base.specs.declared.ids.NodeId.{NodeId}
use Rattle.ng_base.specs.declared.ids.Stamp.{Stamp}
use Rattle.ng_base.specs.declared.kind.Kind.{Kind}
use Rattle.ng_base.specs.declared.kind.Kind.TheVariants.{Ether, Socket}
use Rattle.ng_machine.specs.declared.body.Body.{Body}
use Rattle.ng_machine.specs.declared.body.Body.TheVariants.{Frame, Msg, Join2, Join3, Undo, Leave, Rebind, Tick, Learn}
use Rattle.ng_machine.specs.declared.body.Door.TheVariants.{Wire, Hook as ByHook}
use Rattle.ng_machine.specs.declared.body.Exit.{Exit}
use Rattle.ng_machine.specs.declared.body.Exit.TheVariants.{Wire as ToWire, Host, Reader}
use Rattle.ng_machine.specs.declared.command.Command.{Command as CommandLine}
use Rattle.ng_machine.specs.declared.hook.Hook.{Hook}
use Rattle.ng_machine.specs.declared.input.Input.{Input}
use Rattle.ng_machine.specs.declared.input.Input.TheVariants.{Command, Late, Packet, Tick as Ticks}
use Rattle.ng_machine.specs.declared.item.Item.{Item}
use Rattle.ng_machine.specs.declared.told.Told.{Told}
use Rattle.ng_machine.specs.Words.{Has, Every}
use Rattle.ng_machine.specs.Body.{is_frame, is_writer, is_at, has_id, has_tag, is_tag}
use Rattle.ng_machine.specs.Bounds.{Fits}
use Rattle.ng_machine.specs.KnownRun.{SpeaksBelow, PacketFits, WireIsEther, PeersBelow, ToldFits, PortFits, FitsRequest, FitsInput, AreFit, RunsAreKnown}
use Rattle.ng_machine.specs.World.{World, NodeRecord, Port, blank_node, blank_port, kind_at, node_at, is_there, hook_at, node_id, port_node, port_of, own_node}
use Rattle.ng_machine.specs.Change.{Change, Sets, Makes, Retires, Accepts, Posts, Notes, Note, Tells, Refuses, Exits, Links, accept, accept_at, arrival, send_if, send_joined, send_by, frames, most_frames, tell, port_at, wire_if, read_if, hand_up, leave, spool_with, most_spool, note, set_node, retire, change, change_all}
use Rattle.ng_machine.specs.Effect.{effect, effect_at, is_hook_gone, take_out, finish, drop_hook_gone, apply_if, apply_item, apply_found, apply}
use Rattle.ng_machine.specs.Feed.{RunInput, Request, request_of, send_message, begin_command, feed_command, arrive, feed_packet, feed_ticks, feed_input, feed_next}
use Rattle.ng_machine.specs.Run.{RunState, Taken, after, after_all, beginning}
use Rattle.ng_machine.specs.Orderly.{IsTaken, IsSettled, MayFeedInput, MayFeedNext, AllowedEvent, OrderlyFrom}
use Rattle.ng_machine.specs.Laws.{Setting, start, run_state_after, world_after, IsJournal}
use Rattle.ng_machine.proofs.Standing.{in_pushed, of_filter}
use Rattle.ng_machine.proofs.NodeLists.{get, get_here, get_apart, get_before, get_gone, get_last, some_none, given_number, same_row, still_given}
use Rattle.ng_machine.proofs.Quieted.{input_quietly, accepts_quietly, posts_quietly, notes_quietly}
use Rattle.ng_machine.proofs.Kept.{SoundAt, OnKind, on_set, on_make, on_retire, nodes_quietly}
use Rattle.ng_machine.proofs.Moves.{KeptAt, kept_event, held_item}
use Rattle.ng_machine.proofs.Ordering.{kept_start, kept_all}
use Rattle.ng_machine.proofs.Costing.{is_make}
use Rattle.ng_machine.proofs.Every.{every_push, every_imply}
use Rattle.ng_machine.proofs.Requests.{Requested, Refuses, Explains, Ends, ByOrder, ByName, ByHook as Sends, requested, ticks_keep}
use Rattle.ng_machine.proofs.Owing.{TagIs, no_tag, NoteFits, Owes, count_makes, IsReady, owes_effect}

-- Lists of which each element meets something

every_set : {A : Type 0} (P : A → Type 0) (xs : List A) (n : ℕ) (x : A) → Every P xs → P x → Every P (set xs n x)
every_set P [] n x all one = tt
every_set P (y ∷ ys) zero x all one = (one, all.1)
every_set P (y ∷ ys) (suc n) x all one = (all.0, every_set P ys n x all.1 one)

port_fits : (ports : List Port) (n : ℕ) → Every PortFits ports → PortFits (get_or ports n blank_port)
port_fits [] n all = tt
port_fits (p ∷ ps) zero all = all.0
port_fits (p ∷ ps) (suc n) all = port_fits ps n all.1

-- What is known, with peers below B, the last command c, and as many ports

abbrev WireOn : List (Option NodeRecord) → ℕ → Body → Type 0
WireOn nodes n (Frame Wire link packet) = OnKind n Ether nodes
WireOn nodes n (Frame (ByHook hook) link packet) = Unit {0}
WireOn nodes n (Msg msg) = Unit {0}
WireOn nodes n (Join2 hook link peer peer_hook) = Unit {0}
WireOn nodes n (Join3 hook link) = Unit {0}
WireOn nodes n (Undo hook link errno) = Unit {0}
WireOn nodes n (Leave hook link) = Unit {0}
WireOn nodes n (Rebind hook old new peer peer_hook) = Unit {0}
WireOn nodes n (Tick seconds) = Unit {0}
WireOn nodes n (Learn hook link addr) = Unit {0}

wire_on : (a b : List (Option NodeRecord)) (n : ℕ) (body : Body) → (OnKind n Ether a → OnKind n Ether b) → WireOn a n body → WireOn b n body
wire_on a b n (Frame Wire link packet) f h = f h
wire_on a b n _ f h = tt

-- a body that is no packet fits, and comes by no wire
step_fits : (body : Body) → is_frame body ≡ false → PacketFits body
step_fits (Frame door link packet) e = absurd (true≢false e)
step_fits _ e = tt

step_wire : (nodes : List (Option NodeRecord)) (n : ℕ) (body : Body) → is_frame body ≡ false → WireOn nodes n body
step_wire nodes n (Frame door link packet) e = absurd (true≢false e)
step_wire nodes n _ e = tt

speaks_more : (B C : ℕ) (body : Body) → B ≤ C → SpeaksBelow B body → SpeaksBelow C body
speaks_more B C (Frame door link packet) le h = tt
speaks_more B C (Msg msg) le h = tt
speaks_more B C (Join2 hook link peer peer_hook) le h = omega arith
speaks_more B C (Join3 hook link) le h = tt
speaks_more B C (Undo hook link errno) le h = tt
speaks_more B C (Leave hook link) le h = tt
speaks_more B C (Rebind hook old new peer peer_hook) le h = omega arith
speaks_more B C (Tick seconds) le h = tt
speaks_more B C (Learn hook link addr) le h = tt

pub record Knows (B c ports : ℕ) (w : World) : Type 0 where
  pub command : w.command ≡ c
  pub tags : (p : Item) → Has p w.pending → TagIs c p.tag
  pub peers : (n : ℕ) (node : NodeRecord) → get w.nodes n ≡ Some node → PeersBelow B node
  pub speaks : (p : Item) → Has p w.pending → SpeaksBelow B p.body
  pub wires : (p : Item) → Has p w.pending → WireOn w.nodes p.to.0 p.body
  pub packets : (p : Item) → Has p w.pending → PacketFits p.body
  pub ethers : (n : ℕ) → n < ports → OnKind (n + 2) Ether w.nodes
  pub told : Every ToldFits w.told
  pub left : Every PortFits w.ports

knows_more : (B C c ports : ℕ) (w : World) → B ≤ C → Knows B c ports w → Knows C c ports w
knows_more B C c ports w le K = record {
  command = K.command;
  tags = K.tags;
  peers = λ n node is. every_imply (λ (h : Hook). h.peer.node.0 < B) (λ (h : Hook). h.peer.node.0 < C) (λ h lt. omega arith) node.hooks (K.peers n node is);
  speaks = λ p h. speaks_more B C p.body le (K.speaks p h);
  wires = K.wires;
  packets = K.packets;
  ethers = K.ethers;
  told = K.told;
  left = K.left;
}

-- what stands under a number stays of its kind where a node of the same kind is set, and where one is retired

pub kind_set : (is_of : Kind) (nodes : List (Option NodeRecord)) (at n : ℕ) (old now : NodeRecord) → get nodes at ≡ Some old → kind_at now ≡ kind_at old → OnKind n is_of nodes → OnKind n is_of (set nodes at (Some now))
kind_set is_of nodes at n old now is kind on = record {
  within = still_given nodes at n (Some now) on.within;
  kind = λ node here. ⊎_elim
      (λ (e : n ≡ at).
      let same : node ≡ now = same_row node now (sym here ∙ ap (get (set nodes at (Some now))) e ∙ get_here nodes at (Some now) (given_number nodes at old is)) in
      ap kind_at same ∙ kind ∙ on.kind old (ap (get nodes) e ∙ is))
      (λ (a : n ≢ at). on.kind node (sym (get_apart nodes at n (Some now) a) ∙ here))
      (cases_eq n at);
}

pub kind_retire : (is_of : Kind) (nodes : List (Option NodeRecord)) (at n : ℕ) → OnKind n is_of nodes → OnKind n is_of (set nodes at None)
kind_retire is_of nodes at n on = record {
  within = still_given nodes at n None on.within;
  kind = λ node here. ⊎_elim
      (λ (e : n ≡ at). absurd (some_none node (sym here ∙ ap (get (set nodes at None)) e ∙ get_gone nodes at)))
      (λ (a : n ≢ at). on.kind node (sym (get_apart nodes at n None a) ∙ here))
      (cases_eq n at);
}

module _ (B c ports : ℕ) where
  abbrev Known : World → Type 0
  Known w = Knows B c ports w

  -- what is told or left, and nothing else that is known of, is different
  known_outside : (w v : World) → v.command ≡ w.command → v.nodes ≡ w.nodes → v.pending ≡ w.pending → Every ToldFits v.told → Every PortFits v.ports → Known w → Known v
  known_outside w v command nodes pending told left K = record {
    command = command ∙ K.command;
    tags = λ p h. K.tags p (subst (λ (ps : List Item). Has p ps) pending h);
    peers = λ n node is. K.peers n node (ap (λ (x : List (Option NodeRecord)). get x n) (sym nodes) ∙ is);
    speaks = λ p h. K.speaks p (subst (λ (ps : List Item). Has p ps) pending h);
    wires = λ p h. subst (λ (x : List (Option NodeRecord)). WireOn x p.to.0 p.body) (sym nodes) (K.wires p (subst (λ (ps : List Item). Has p ps) pending h));
    packets = λ p h. K.packets p (subst (λ (ps : List Item). Has p ps) pending h);
    ethers = λ n lt. subst (OnKind (n + 2) Ether) (sym nodes) (K.ethers n lt);
    told = told;
    left = left;
  }

  known_accept : (w : World) (to : NodeId) (kind : Kind) (body : Body) (tag : Option ℕ) (stamp : Stamp) → SpeaksBelow B body → PacketFits body → WireOn w.nodes to.0 body → TagIs c tag
      → Known w → Known (accept w to kind body tag stamp)
  known_accept w to kind body tag stamp speaks fits wire is K =
      let x : Item = record { id = record { 0 = w.next_item }; to = to; body = body; writer = is_writer kind body; tag = tag; stamp = stamp } in record {
        command = K.command;
        tags = λ p h. ⊎_elim (λ (k : Has p w.pending). K.tags p k) (λ (e : p ≡ x). subst (λ (y : Item). TagIs c y.tag) (sym e) is) (in_pushed p x w.pending h);
        peers = K.peers;
        speaks = λ p h. ⊎_elim (λ (k : Has p w.pending). K.speaks p k) (λ (e : p ≡ x). subst (λ (y : Item). SpeaksBelow B y.body) (sym e) speaks) (in_pushed p x w.pending h);
        wires = λ p h. ⊎_elim (λ (k : Has p w.pending). K.wires p k) (λ (e : p ≡ x). subst (λ (y : Item). WireOn w.nodes y.to.0 y.body) (sym e) wire) (in_pushed p x w.pending h);
        packets = λ p h. ⊎_elim (λ (k : Has p w.pending). K.packets p k) (λ (e : p ≡ x). subst (λ (y : Item). PacketFits y.body) (sym e) fits) (in_pushed p x w.pending h);
        ethers = K.ethers;
        told = K.told;
        left = K.left;
      }

  known_accept_at : (w : World) (to : NodeId) (o : Option NodeRecord) (body : Body) (tag : Option ℕ) (stamp : Stamp) → SpeaksBelow B body → PacketFits body → WireOn w.nodes to.0 body → TagIs c tag
      → Known w → Known (accept_at w to o body tag stamp)
  known_accept_at w to None body tag stamp speaks fits wire is K = K
  known_accept_at w to (Some node) body tag stamp speaks fits wire is K = known_accept w to (kind_at node) body tag stamp speaks fits wire is K

  -- a packet is sent

  known_lose : (w v : World) → v.command ≡ w.command → v.nodes ≡ w.nodes → v.pending ≡ w.pending → v.told ≡ w.told → v.ports ≡ w.ports → Known w → Known v
  known_lose w v command nodes pending told left K =
      known_outside w v command nodes pending (subst (Every ToldFits) (sym told) K.told) (subst (Every PortFits) (sym left) K.left) K

  known_send : (w : World) (hook : Hook) (o : Option NodeRecord) (room : Bool) (packet : List ℕ) (stamp : Stamp) → Fits packet → Known w → Known (send_if w hook o room packet stamp)
  known_send w hook None room packet stamp fits K = known_lose w _ refl refl refl refl refl K
  known_send w hook (Some node) false packet stamp fits K = known_lose w _ refl refl refl refl refl K
  known_send w hook (Some node) true packet stamp fits K = known_accept w hook.peer.node (kind_at node) (arrival hook packet) None stamp tt fits tt (no_tag c) K

  known_joined : (w : World) (hook : Hook) (b : Bool) (packet : List ℕ) (stamp : Stamp) → Fits packet → Known w → Known (send_joined w hook b packet stamp)
  known_joined w hook false packet stamp fits K = known_lose w _ refl refl refl refl refl K
  known_joined w hook true packet stamp fits K = known_send w hook (node_at w hook.peer.node) (nat_lt (frames w) most_frames) packet stamp fits K

  known_sent : (w : World) (o : Option Hook) (packet : List ℕ) (stamp : Stamp) → Fits packet → Known w → Known (send_by w o packet stamp)
  known_sent w None packet stamp fits K = known_lose w _ refl refl refl refl refl K
  known_sent w (Some hook) packet stamp fits K = known_joined w hook hook.joined packet stamp fits K

  -- a packet leaves, or something is told

  known_tell : (w : World) (told : Told) → ToldFits told → Known w → Known (tell w told)
  known_tell w told fits K = known_outside w (tell w told) refl refl refl (every_push ToldFits w.told told K.told fits) K.left K

  known_wire : (w : World) (port : ℕ) (b : Bool) (packet : List ℕ) (stamp : Stamp) → Fits packet → Known w → Known (wire_if w port b packet stamp)
  known_wire w port false packet stamp fits K = known_lose w _ refl refl refl refl refl K
  known_wire w port true packet stamp fits K =
      let was = port_at w port in
      let now : Port = record was { leaving = was.leaving ++ (stamp, packet) ∷ [] } in
      known_outside w (wire_if w port true packet stamp) refl refl refl K.told
      (every_set PortFits w.ports port now K.left (every_push (λ (x : Stamp × List ℕ). Fits x.1) was.leaving (stamp, packet) (port_fits w.ports port K.left) fits)) K

  known_read : (w : World) (b : Bool) (hook packet : List ℕ) → Fits packet → Known w → Known (read_if w b hook packet)
  known_read w false hook packet fits K = known_lose w _ refl refl refl refl refl K
  known_read w true hook packet fits K = known_outside w (read_if w true hook packet) refl refl refl (every_push ToldFits w.told _ K.told fits) K.left K

  known_leave : (w : World) (at : NodeId) (stamp : Stamp) (exit : Exit) (hook packet : List ℕ) → Fits packet → Known w → Known (leave w at stamp exit hook packet)
  known_leave w at stamp ToWire hook packet fits K = known_wire w (port_of at) (nat_le (spool_with w packet) most_spool) packet stamp fits K
  known_leave w at stamp Host hook packet fits K =
      known_outside w (hand_up w (port_of at)) refl refl refl K.told (every_set PortFits w.ports (port_of at) _ K.left (port_fits w.ports (port_of at) K.left)) K
  known_leave w at stamp Reader hook packet fits K = known_read w (nat_le (spool_with w packet) most_spool) hook packet fits K

  known_note : (w : World) (at : NodeId) (stamp : Stamp) (x : Note) → NoteFits x → Known w → Known (note w at stamp x)
  known_note w at stamp (Tells told) fits K = known_tell w told fits K
  known_note w at stamp Refuses fits K = known_lose w _ refl refl refl refl refl K
  known_note w at stamp (Exits exit hook packet) fits K = known_leave w at stamp exit hook packet fits K
  known_note w at stamp Links fits K = known_lose w _ refl refl refl refl refl K

  -- nodes

  known_sets : (w : World) (at : NodeId) (node now : NodeRecord) (o : Option NodeRecord) → node_at w at ≡ o → PeersBelow B now → kind_at now ≡ kind_at node → OnKind at.0 (kind_at node) w.nodes
      → Known w → Known (set_node w at now (is_some o))
  known_sets w at node now None is peers kind on K = K
  known_sets w at node now (Some old) is peers kind on K =
      let same : kind_at now ≡ kind_at old = kind ∙ sym (on.kind old is) in record {
        command = K.command;
        tags = K.tags;
        peers = λ n x here. ⊎_elim
            (λ (e : n ≡ at.0).
            let was : x ≡ now = same_row x now (sym here ∙ ap (get (set w.nodes at.0 (Some now))) e ∙ get_here w.nodes at.0 (Some now) (given_number w.nodes at.0 old is)) in
            subst (PeersBelow B) (sym was) peers)
            (λ (a : n ≢ at.0). K.peers n x (sym (get_apart w.nodes at.0 n (Some now) a) ∙ here))
            (cases_eq n at.0);
        speaks = K.speaks;
        wires = λ p h. wire_on w.nodes (set w.nodes at.0 (Some now)) p.to.0 p.body (kind_set Ether w.nodes at.0 p.to.0 old now is same) (K.wires p h);
        packets = K.packets;
        ethers = λ n lt. kind_set Ether w.nodes at.0 (n + 2) old now is same (K.ethers n lt);
        told = K.told;
        left = K.left;
      }

  known_make : (w : World) (kind : Kind) (made : NodeRecord) → PeersBelow B made → Known w → Known (change own_node (record { 0 = 0 }) w (Makes kind made))
  known_make w kind made peers K = record {
    command = K.command;
    tags = K.tags;
    peers = λ n x here. ⊎_elim
        (λ (e : n ≡ length w.nodes). subst (PeersBelow B) (sym (same_row x made (sym here ∙ get_last w.nodes n (Some made) e))) peers)
        (λ (a : n ≢ length w.nodes). K.peers n x (sym (get_before w.nodes n (Some made) a) ∙ here))
        (cases_eq n (length w.nodes));
    speaks = K.speaks;
    wires = λ p h. wire_on w.nodes (w.nodes ++ Some made ∷ []) p.to.0 p.body (on_make p.to.0 Ether w.nodes made) (K.wires p h);
    packets = K.packets;
    ethers = λ n lt. on_make (n + 2) Ether w.nodes made (K.ethers n lt);
    told = K.told;
    left = K.left;
  }

  known_retire : (w : World) (at : NodeId) → Known w → Known (retire w at)
  known_retire w at K =
      let still = λ (p : Item) (h : Has p (filter (λ q. not (is_at at q)) w.pending)). (of_filter (λ q. not (is_at at q)) p w.pending h).0 in record {
        command = K.command;
        tags = λ p h. K.tags p (still p h);
        peers = λ n x here. ⊎_elim
            (λ (e : n ≡ at.0). absurd (some_none x (sym here ∙ ap (get (set w.nodes at.0 None)) e ∙ get_gone w.nodes at.0)))
            (λ (a : n ≢ at.0). K.peers n x (sym (get_apart w.nodes at.0 n None a) ∙ here))
            (cases_eq n at.0);
        speaks = λ p h. K.speaks p (still p h);
        wires = λ p h. wire_on w.nodes (set w.nodes at.0 None) p.to.0 p.body (kind_retire Ether w.nodes at.0 p.to.0) (K.wires p (still p h));
        packets = λ p h. K.packets p (still p h);
        ethers = λ n lt. kind_retire Ether w.nodes at.0 (n + 2) (K.ethers n lt);
        told = K.told;
        left = K.left;
      }

  -- a change, and a list of them

  known_change : (at : NodeId) (stamp : Stamp) (node : NodeRecord) (w : World) (ch : Change) → Owes B c node ch → OnKind at.0 (kind_at node) w.nodes → Known w → Known (change at stamp w ch)
  known_change at stamp node w (Sets now) o on K = known_sets w at node now (node_at w at) refl o.0 o.1 on K
  known_change at stamp node w (Makes kind made) o on K = known_make w kind made o K
  known_change at stamp node w Retires o on K = known_retire w at K
  known_change at stamp node w (Accepts to body tag) o on K =
      known_accept_at w to (node_at w to) body tag stamp o.0.0 (step_fits body o.0.1) (step_wire w.nodes to.0 body o.0.1) o.1 K
  known_change at stamp node w (Posts hook packet) o on K = known_sent w (hook_at (node_at w at) hook) packet stamp o K
  known_change at stamp node w (Notes x) o on K = known_note w at stamp x o K

  pub on_owed : (at : NodeId) (stamp : Stamp) (node : NodeRecord) (w : World) (ch : Change) → Owes B c node ch → OnKind at.0 (kind_at node) w.nodes → OnKind at.0 (kind_at node) (change at stamp w ch).nodes
  on_owed at stamp node w (Sets now) o on = by (is_there w at)
    where
      by : (b : Bool) → OnKind at.0 (kind_at node) (set_node w at now b).nodes
      by true = on_set at.0 (kind_at node) w.nodes now o.1 on
      by false = on
  on_owed at stamp node w (Makes kind made) o on = on_make at.0 (kind_at node) w.nodes made on
  on_owed at stamp node w Retires o on = on_retire at.0 (kind_at node) w.nodes on
  on_owed at stamp node w (Accepts to body tag) o on = subst (OnKind at.0 (kind_at node)) (sym (nodes_quietly (accepts_quietly at stamp w to body tag))) on
  on_owed at stamp node w (Posts hook packet) o on = subst (OnKind at.0 (kind_at node)) (sym (nodes_quietly (posts_quietly at stamp w hook packet))) on
  on_owed at stamp node w (Notes x) o on = subst (OnKind at.0 (kind_at node)) (sym (nodes_quietly (notes_quietly at stamp w x))) on

  known_all : (at : NodeId) (stamp : Stamp) (node : NodeRecord) (w : World) (cs : List Change) → Every (Owes B c node) cs → OnKind at.0 (kind_at node) w.nodes → Known w → Known (change_all at stamp w cs)
  known_all at stamp node w [] o on K = K
  known_all at stamp node w (ch ∷ cs) o on K = known_all at stamp node (change at stamp w ch) cs o.1 (on_owed at stamp node w ch o.0 on) (known_change at stamp node w ch o.0 on K)

  -- Inputs

  known_message : (w : World) (to : NodeId) (o : Option NodeRecord) (command cookie number : ℕ) (name args : List ℕ) → command ≡ c → Known w → Known (send_message w to o command cookie number name args)
  known_message w to o command cookie number name args is K =
      known_accept_at w to o _ (Some command) w.clock tt tt tt (λ t e. let same : command ≡ t = cc e in sym same ∙ is) K

  known_request : (given : RunInput) (w : World) (command : ℕ) {r : Request} {v : World} → Requested given w command r v → command ≡ c → FitsRequest r → Known w → Known v
  known_request given w command (Refuses r errno why) is fits K = known_tell w _ tt K
  known_request given w command Explains is fits K = known_tell w _ tt K
  known_request given w command Ends is fits K = K
  known_request given w command (ByOrder path name args number to o there) is fits K = known_message w to o command _ number name args is K
  known_request given w command (ByName path name text args cookie number to node there reads) is fits K = known_message w to (Some node) command cookie number name args is K
  known_request given w command (Sends name bytes hook node there) is fits K = known_accept w hook.peer.node (kind_at node) (arrival hook bytes) None w.clock tt fits tt (no_tag c) K

  known_ticks : (w : World) (seconds n : ℕ) (nodes : List (Option NodeRecord)) → Known w → Known (feed_ticks w seconds n nodes)
  known_ticks w seconds n nodes K = ticks_keep Known seconds (λ v m L. known_accept_at v (node_id m) (node_at v (node_id m)) _ None v.clock tt tt tt (no_tag c) L) w n nodes K

  known_arrive : (w : World) (port : ℕ) (stamp : Stamp) → Known w → Known (arrive w port stamp)
  known_arrive w port stamp K = known_outside w (arrive w port stamp) refl refl refl K.told (every_set PortFits w.ports port _ K.left (port_fits w.ports port K.left)) K

  known_packet : (w : World) (port : ℕ) (stamp : Stamp) (packet : List ℕ) → port < ports → Fits packet → Known w → Known (feed_packet w port stamp packet)
  known_packet w port stamp packet lt fits K = known_accept_at w (port_node port) (node_at w (port_node port)) _ None stamp tt fits (K.ethers port lt) (no_tag c) K

-- A command is fed where nothing waits for the last one, so no item has a tag

known_begin : (B c ports number : ℕ) (w : World) → IsSettled w → Knows B c ports w → Knows B number ports (begin_command w number)
known_begin B c ports number w settled K = record {
  command = refl;
  tags = λ p h t e. absurd (true≢false (sym (tagged p h t e) ∙ settled p h));
  peers = K.peers;
  speaks = K.speaks;
  wires = K.wires;
  packets = K.packets;
  ethers = K.ethers;
  told = every_push ToldFits w.told _ K.told tt;
  left = K.left;
}
  where
    tagged : (p : Item) → Has p w.pending → (t : ℕ) → p.tag ≡ Some t → has_tag w.command p ≡ true
    tagged p h t e =
        let is : t ≡ w.command = K.tags p h t e ∙ sym K.command in
        ap (λ (o : Option ℕ). is_tag w.command o) e ∙ eq-eqb t w.command is

known_line : (B c ports : ℕ) (given : RunInput) (w : World) (line : CommandLine) → IsSettled w → FitsRequest (request_of line.what) → Knows B c ports w → Knows B line.number ports (feed_command given w line)
known_line B c ports given w line settled fits K = known_request B line.number ports given (begin_command w line.number) line.number (requested given (begin_command w line.number) line.number (request_of line.what)) refl fits (known_begin B c ports line.number w settled K)

abbrev KnownSome : ℕ → ℕ → World → Type 0
KnownSome B ports w = Knows B w.command ports w

known_here : (B c ports : ℕ) (w : World) → Knows B c ports w → KnownSome B ports w
known_here B c ports w K = subst (λ (x : ℕ). Knows B x ports w) (sym K.command) K

known_input : (B ports : ℕ) (given : RunInput) (w : World) (input : Input) → FitsInput ports input → MayFeedInput w input → KnownSome B ports w → KnownSome B ports (feed_input given w input)
known_input B ports given w (Command line) fits may K = known_here B line.number ports _ (known_line B w.command ports given w line may.0 fits K)
known_input B ports given w (Late line) fits may K = known_here B line.number ports _ (known_line B w.command ports given w line may.0.0 fits K)
known_input B ports given w (Packet port stamp packet) fits may K =
    known_here B w.command ports _ (known_packet B w.command ports (arrive w port stamp) port stamp packet fits.0 fits.1 (known_arrive B w.command ports w port stamp K))
known_input B ports given w (Ticks seconds) fits may K = known_here B w.command ports _ (known_ticks B w.command ports w seconds 0 w.nodes K)

-- Events

pub grown_change : (at : NodeId) (stamp : Stamp) (w : World) (ch : Change) → length (change at stamp w ch).nodes ≡ length w.nodes + is_make ch
grown_change at stamp w (Sets now) = by (is_there w at)
  where
    by : (b : Bool) → length (set_node w at now b).nodes ≡ length w.nodes + 0
    by true = omega (arith, length-set {A = Option NodeRecord})
    by false = omega arith
grown_change at stamp w (Makes kind made) = omega (arith, length-append {A = Option NodeRecord})
grown_change at stamp w Retires = omega (arith, length-set {A = Option NodeRecord})
grown_change at stamp w (Accepts to body tag) = let same = ap length (nodes_quietly (accepts_quietly at stamp w to body tag)) in omega arith
grown_change at stamp w (Posts hook packet) = let same = ap length (nodes_quietly (posts_quietly at stamp w hook packet)) in omega arith
grown_change at stamp w (Notes x) = let same = ap length (nodes_quietly (notes_quietly at stamp w x)) in omega arith

pub grown_all : (at : NodeId) (stamp : Stamp) (w : World) (cs : List Change) → length (change_all at stamp w cs).nodes ≡ length w.nodes + count_makes cs
grown_all at stamp w [] = omega arith
grown_all at stamp w (ch ∷ cs) = let one = grown_change at stamp w ch in let rest = grown_all at stamp (change at stamp w ch) cs in omega arith

abbrev pub KnownAt : ℕ → World → Type 0
KnownAt ports w = Knows (length w.nodes) w.command ports w

known_filtered : (B c ports : ℕ) (w v : World) (test : Item → Bool) → v.command ≡ w.command → v.nodes ≡ w.nodes → v.pending ≡ filter test w.pending → v.told ≡ w.told → v.ports ≡ w.ports → Knows B c ports w → Knows B c ports v
known_filtered B c ports w v test command nodes pending told left K =
    let still = λ (p : Item) (h : Has p v.pending). (of_filter test p w.pending (subst (λ (ps : List Item). Has p ps) pending h)).0 in record {
      command = command ∙ K.command;
      tags = λ p h. K.tags p (still p h);
      peers = λ n node is. K.peers n node (ap (λ (x : List (Option NodeRecord)). get x n) (sym nodes) ∙ is);
      speaks = λ p h. K.speaks p (still p h);
      wires = λ p h. subst (λ (x : List (Option NodeRecord)). WireOn x p.to.0 p.body) (sym nodes) (K.wires p (still p h));
      packets = λ p h. K.packets p (still p h);
      ethers = λ n lt. subst (OnKind (n + 2) Ether) (sym nodes) (K.ethers n lt);
      told = subst (Every ToldFits) (sym told) K.told;
      left = subst (Every PortFits) (sym left) K.left;
    }

-- an item is applied where its node is there
known_effect : (ports : ℕ) (w : World) (p : Item) (node : NodeRecord) → Has p w.pending → get w.nodes p.to.0 ≡ Some node → KnownAt ports w
    → (v : World) → v ≡ finish (take_out w p.id) p.id → KnownAt ports (change_all p.to p.stamp v (effect_at v p node p.body))
known_effect ports w p node hp is K v e =
    let B : ℕ = length v.nodes + count_makes (effect_at v p node p.body) in
    let nodes : v.nodes ≡ w.nodes = ap (λ (x : World). x.nodes) e in
    let size : length v.nodes ≡ length w.nodes = ap length nodes in
    let command : v.command ≡ w.command = ap (λ (x : World). x.command) e in
    let lt : p.to.0 < length w.nodes = given_number w.nodes p.to.0 node is in
    let L : Knows B v.command ports v = subst (λ (x : ℕ). Knows B x ports v) (sym command)
    (known_filtered B w.command ports w v (λ q. not (has_id p.id q)) command nodes (ap (λ (x : World). x.pending) e) (ap (λ (x : World). x.told) e) (ap (λ (x : World). x.ports) e)
    (knows_more (length w.nodes) B w.command ports w (omega arith) K)) in
    let R : IsReady B v p node = record {
      tag = subst (λ (x : ℕ). TagIs x p.tag) (sym command) (K.tags p hp);
      peers = every_imply (λ (h : Hook). h.peer.node.0 < length w.nodes) (λ (h : Hook). h.peer.node.0 < B) (λ h less. omega arith) node.hooks (K.peers p.to.0 node is);
      mine = omega arith;
      waits = L.tags;
    } in
    let O = owes_effect B v p node R p.body (speaks_more (length w.nodes) B p.body (omega arith) (K.speaks p hp)) (K.packets p hp) (omega arith) in
    let on : OnKind p.to.0 (kind_at node) v.nodes = subst (OnKind p.to.0 (kind_at node)) (sym nodes) (record { within = lt; kind = λ r h. ap kind_at (same_row r node (sym h ∙ is)) }) in
    let M = known_all B v.command ports p.to p.stamp node v (effect_at v p node p.body) O on L in
    known_here _ v.command ports _ (subst (λ (x : ℕ). Knows x v.command ports (change_all p.to p.stamp v (effect_at v p node p.body))) (sym (grown_all p.to p.stamp v (effect_at v p node p.body))) M)

known_applied : (ports : ℕ) (w : World) (taken : List Taken) (p : Item) → SoundAt w taken → Has p w.pending → KnownAt ports w → KnownAt ports (apply_item w p)
known_applied ports w taken p S hp K = by (is_hook_gone (node_at w p.to) p.body)
  where
    v : World
    v = finish (take_out w p.id) p.id

    at : (o : Option NodeRecord) → node_at w p.to ≡ o → KnownAt ports (change_all p.to p.stamp v (effect v p o))
    at None e = let t = S.there p hp in absurd (some_none t.0 (sym t.1 ∙ e))
    at (Some node) e = known_effect ports w p node hp e K v refl

    by : (b : Bool) → KnownAt ports (apply_if (take_out w p.id) p b)
    by true = known_filtered (length w.nodes) w.command ports w (drop_hook_gone (take_out w p.id) p.id) (λ q. not (has_id p.id q)) refl refl refl refl refl K
    by false = at (node_at w p.to) refl

known_apply : (ports : ℕ) (w : World) (taken : List Taken) (id : ItemId) → IsTaken taken id → SoundAt w taken → KnownAt ports w → KnownAt ports (apply w id)
known_apply ports w taken id t S K =
    let h = held_item w taken id S t in
    subst (λ (o : Option Item). KnownAt ports (apply_found w o)) (sym h.found) (known_applied ports w taken h.item S h.is_pending K)

pub fits_at : (ports : ℕ) (inputs : List Input) (n : ℕ) (input : Input) → Every (FitsInput ports) inputs → slice_get inputs n ≡ Some input → FitsInput ports input
fits_at ports [] n input all e = absurd (cc e)
fits_at ports (x ∷ inputs) zero input all e = let same : x ≡ input = cc e in subst (FitsInput ports) same all.0
fits_at ports (x ∷ inputs) (suc n) input all e = fits_at ports inputs n input all.1 e

pub known_event : (ports : ℕ) (given : RunInput) (budget seats : ℕ) (at : RunState) (e : Event) → Every (FitsInput ports) given.inputs → AllowedEvent given budget seats at e → KeptAt budget at → KnownAt ports at.world
    → KnownAt ports (after given at e).world
known_event ports given budget seats at Feed fit a K L = by (slice_get given.inputs at.world.fed) refl a.1
  where
    w : World
    w = record (at.world) { fed = at.world.fed + 1 }

    by : (o : Option Input) → slice_get given.inputs at.world.fed ≡ o → MayFeedNext at.world o → KnownAt ports (feed_next given at.world o)
    by None e may = L
    by (Some input) e may =
        let B = length at.world.nodes in
        let M : KnownSome B ports w = known_outside B at.world.command ports at.world w refl refl refl L.told L.left L in
        let N = known_input B ports given w input (fits_at ports given.inputs at.world.fed input fit e) may M in
        subst (λ (n : ℕ). Knows n (feed_input given w input).command ports (feed_input given w input)) (sym (ap length (nodes_quietly (input_quietly given w input)))) N
known_event ports given budget seats at (Take seat id) fit a K L = L
known_event ports given budget seats at (Back id) fit a K L = L
known_event ports given budget seats at (Apply id) fit a K L = known_apply ports at.world at.taken id a K.sound L
known_event ports given budget seats at Stop fit a K L = record {
  command = L.command;
  tags = λ p h. absurd h;
  peers = L.peers;
  speaks = λ p h. absurd h;
  wires = λ p h. absurd h;
  packets = λ p h. absurd h;
  ethers = L.ethers;
  told = L.told;
  left = L.left;
}

known_run : (ports : ℕ) (given : RunInput) (budget seats : ℕ) (at : RunState) (j : List Event) → Every (FitsInput ports) given.inputs → OrderlyFrom given budget seats at j → KeptAt budget at → KnownAt ports at.world
    → KnownAt ports (after_all given at j).world
known_run ports given budget seats at [] fit o K L = L
known_run ports given budget seats at (e ∷ es) fit o K L =
    known_run ports given budget seats (after given at e) es fit o.1 (kept_event given budget seats at e o.0.1 K) (known_event ports given budget seats at e fit o.0.1 K L)

-- The beginning

port_ether : (names : List (List ℕ)) (n : ℕ) → n < length names → OnKind n Ether (map (λ name. Some (blank_node (Some name) Ether)) names)
port_ether [] n lt = absurd (omega arith)
port_ether (name ∷ names) zero lt = record { within = omega arith; kind = λ node e. ap kind_at (sym (same_row (blank_node (Some name) Ether) node e)) }
port_ether (name ∷ names) (suc n) lt = let rest = port_ether names n (omega arith) in record { within = let less = rest.within in omega arith; kind = rest.kind }

no_peers : (B : ℕ) (names : List (List ℕ)) (n : ℕ) (node : NodeRecord) → get (map (λ name. Some (blank_node (Some name) Ether)) names) n ≡ Some node → PeersBelow B node
no_peers B [] n node e = absurd (some_none node (sym e))
no_peers B (name ∷ names) zero node e = subst (PeersBelow B) (same_row (blank_node (Some name) Ether) node e) tt
no_peers B (name ∷ names) (suc n) node e = no_peers B names n node e

blank_fits : (names : List (List ℕ)) → Every PortFits (map (λ name. blank_port) names)
blank_fits [] = tt
blank_fits (name ∷ names) = (tt, blank_fits names)

pub known_start : (s : Setting) → KnownAt (length s.ports) (start s)
known_start s = record {
  command = refl;
  tags = λ p h. absurd h;
  peers = first;
  speaks = λ p h. absurd h;
  wires = λ p h. absurd h;
  packets = λ p h. absurd h;
  ethers = λ n lt. two_more n (port_ether s.ports n lt);
  told = tt;
  left = blank_fits s.ports;
}
  where
    first : (n : ℕ) (node : NodeRecord) → get (start s).nodes n ≡ Some node → PeersBelow (length (start s).nodes) node
    first zero node e = absurd (some_none node (sym e))
    first (suc zero) node e = subst (PeersBelow (length (start s).nodes)) (same_row (blank_node (Some s.own) Socket) node e) tt
    first (suc (suc n)) node e = no_peers (length (start s).nodes) s.ports n node e

    two_more : (n : ℕ) → OnKind n Ether (map (λ name. Some (blank_node (Some name) Ether)) s.ports) → OnKind (n + 2) Ether (start s).nodes
    two_more n on = subst (λ (m : ℕ). OnKind m Ether (start s).nodes) (omega arith) (next n on)
      where
        next : (n : ℕ) → OnKind n Ether (map (λ name. Some (blank_node (Some name) Ether)) s.ports) → OnKind (suc (suc n)) Ether (start s).nodes
        next n on = record { within = let less = on.within in omega arith; kind = on.kind }

pub known_world : (s : Setting) (j : List Event) → IsJournal s j → AreFit s → KnownAt (length s.ports) (world_after s j)
known_world s j o fit = known_run (length s.ports) s.given s.budget s.seats (beginning (start s)) j fit o (kept_start s) (known_start s)

wire_is : (w : World) (taken : List Taken) → SoundAt w taken → (p : Item) → Has p w.pending → (body : Body) → WireOn w.nodes p.to.0 body → WireIsEther w.nodes p.to body
wire_is w taken S p h (Frame Wire link packet) on = let t = S.there p h in (t.0, t.1, on.kind t.0 t.1)
wire_is w taken S p h (Frame (ByHook hook) link packet) on = tt
wire_is w taken S p h (Msg msg) on = tt
wire_is w taken S p h (Join2 hook link peer peer_hook) on = tt
wire_is w taken S p h (Join3 hook link) on = tt
wire_is w taken S p h (Undo hook link errno) on = tt
wire_is w taken S p h (Leave hook link) on = tt
wire_is w taken S p h (Rebind hook old new peer peer_hook) on = tt
wire_is w taken S p h (Tick seconds) on = tt
wire_is w taken S p h (Learn hook link addr) on = tt

pub runs_are_known : RunsAreKnown
runs_are_known s j o fit =
    let K = known_world s j o fit in
    let S = (kept_all s j o).sound in record {
      tags = λ p tag h e. K.tags p h tag e;
      peers = λ id node is. K.peers id.0 node is;
      speaks = K.speaks;
      wires = λ p h. wire_is (world_after s j) (run_state_after s j).taken S p h p.body (K.wires p h);
      packets = K.packets;
      told = K.told;
      left = K.left;
    }
