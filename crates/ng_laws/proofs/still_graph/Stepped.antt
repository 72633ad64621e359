-- An applied packet leaves in its place what leaves of it and the packets that are sent on.
use Rattle.std.proofs.Common.{◌≡◌, ◌≢◌, ℕ, zero, suc, pred, ◌+◌, ◌<◌, ◌≤◌, List, [], ◌∷◌, ◌++◌, length, set, Bool, true, false, cond, ◌==◌, ◌&&◌, nat_le, nat_lt, is_some, refl, sym, ap, ap₂, ◌∙◌, subst, ⊎_elim, arith, true≢false, append_assoc, append-nil, length-set, bytes_eq, eq-eqb, ne_eqb}
use Rattle.std.specs.declared.option.Option.{Option}
use Rattle.std.specs.declared.option.Option.TheVariants.{None, Some}
use Rattle.std.proofs.lemmas.Bool.{cases_eq}
use Rattle.ng_base.specs.declared.ids.LinkId.{LinkId}
use Rattle.ng_base.specs.declared.ids.NodeId.{NodeId}
use Rattle.ng_base.specs.declared.ids.Stamp.{Stamp}
use Rattle.ng_machine.specs.declared.body.Body.{Body}
use Rattle.ng_machine.specs.declared.body.Body.TheVariants.{Frame, Msg, Join2, Join3, Undo, Leave, Rebind, Tick, Learn}
use Rattle.ng_machine.specs.declared.body.Door.{Door}
use Rattle.ng_machine.specs.declared.body.Door.TheVariants.{Wire, Hook as ByHook}
use Rattle.ng_machine.specs.declared.body.Exit.{Exit}
use Rattle.ng_machine.specs.declared.body.Exit.TheVariants.{Wire as ByWire, Host, Reader}
use Rattle.ng_machine.specs.declared.hook.Hook.{Hook}
use Rattle.ng_machine.specs.declared.item.Item.{Item}
use Rattle.ng_machine.specs.declared.outcome.Outcome.{Outcome}
use Rattle.ng_machine.specs.Body.{has_frame}
use Rattle.ng_machine.specs.Words.{Every, times, is_empty}
use Rattle.ng_machine.specs.Case.{outcome_of, kept_after}
use Rattle.ng_machine.specs.World.{World, NodeRecord, hook_names, Port, node_in, node_at, is_there, hook_of, hook_at, kind_at, state_of, port_of}
use Rattle.ng_machine.specs.Change.{Change, Posts, accept_at, send_if, send_joined, send_by, frames, most_frames, port_at, wire_if, read_if, spool_with, most_spool, leave, set_node, change, change_all}
use Rattle.ng_machine.specs.Effect.{door_name, exits, posts, is_fine, counts_unless, learns, effect, effect_at, is_hook_gone, take_out, finish, apply_if, apply_item}
use Rattle.ng_machine.specs.declared.place.Place.TheVariants.{Wire as ToWire, Host as ToHost, Reader as ToReader}
use Rattle.ng_machine.specs.Spread.{Spread, Flight, flights_to, waiting, is_followed, place_of, leaving, sent_if, sent_by, sent_on, fate_if, fate_at, fate, beside, spread_all, spread_by, spread_in, same_pair, count_of}
use Rattle.ng_laws.specs.still_graph.Bag.{Meter, OnWire, AtReader, AtHost, meters, in_spread, same_packet, is_told_packet, port_in, count_left, left_of, IsAtPort, IsReplaced, OneStep}
use Rattle.ng_machine.proofs.NodeLists.{get_here, given_number}
use Rattle.ng_machine.proofs.Counted.{times-append}
use Rattle.ng_laws.proofs.still_graph.Inward.{followed_orderly}
use Rattle.ng_laws.proofs.still_graph.Fuelled.{none_some, same_some, both_are}
use Rattle.ng_laws.proofs.still_graph.Staying.{graph_rests, graph_set, there_in, sent_alike}
use Rattle.ng_laws.proofs.still_graph.Stayed.{frame_stays}

abbrev pub crowded : World → ℕ
crowded w = w.lost.full + w.lost.spool

pub waiting_append : (xs ys : List Item) → waiting (xs ++ ys) ≡ waiting xs ++ waiting ys
waiting_append [] ys = refl
waiting_append (x ∷ xs) ys = ap (λ (fs : List Flight). flights_to x.to x.body ++ fs) (waiting_append xs ys) ∙ sym (append_assoc (flights_to x.to x.body) (waiting xs) (waiting ys))

pub at_port_alike : (a b : List Port) (meter : Meter) → length b ≡ length a → IsAtPort a meter → IsAtPort b meter
at_port_alike a b (OnWire port bytes) e lt = omega arith
at_port_alike a b (AtReader hook bytes) e lt = tt
at_port_alike a b (AtHost port) e lt = omega arith

-- A packet leaves by a port

pub port_alike : {A : Type 0} (F : Port → A) (ports : List Port) (p q : ℕ) (x : Port) → F x ≡ F (port_in ports p) → F (port_in (set ports p x) q) ≡ F (port_in ports q)
port_alike F [] p q x e = refl
port_alike F (y ∷ ports) zero zero x e = e
port_alike F (y ∷ ports) zero (suc q) x e = refl
port_alike F (y ∷ ports) (suc p) zero x e = refl
port_alike F (y ∷ ports) (suc p) (suc q) x e = port_alike F ports p q x e

port_here : (ports : List Port) (p : ℕ) (x : Port) → p < length ports → port_in (set ports p x) p ≡ x
port_here [] p x lt = absurd (omega arith)
port_here (y ∷ ports) zero x lt = refl
port_here (y ∷ ports) (suc p) x lt = port_here ports p x (omega arith)

port_apart : (ports : List Port) (p q : ℕ) (x : Port) → q ≢ p → port_in (set ports p x) q ≡ port_in ports q
port_apart [] p q x a = refl
port_apart (y ∷ ports) zero zero x a = absurd (a refl)
port_apart (y ∷ ports) zero (suc q) x a = refl
port_apart (y ∷ ports) (suc p) zero x a = refl
port_apart (y ∷ ports) (suc p) (suc q) x a = port_apart ports p q x (λ e. a (ap suc e))

port_adds : (F : Port → ℕ) (d : ℕ) (ports : List Port) (p q : ℕ) (x : Port) → q < length ports → F x ≡ F (port_in ports p) + d → F (port_in (set ports p x) q) ≡ F (port_in ports q) + cond (q == p) d 0
port_adds F d ports p q x lt e = ⊎_elim
    (λ (same : q ≡ p).
    let here : port_in (set ports p x) q ≡ x = subst (λ (k : ℕ). port_in (set ports k x) q ≡ x) same (port_here ports q x lt) in
    let was : F (port_in ports p) ≡ F (port_in ports q) = ap (λ (k : ℕ). F (port_in ports k)) (sym same) in
    let now : F (port_in (set ports p x) q) ≡ F x = ap F here in
    let sum : F (port_in (set ports p x) q) ≡ F (port_in ports q) + d = omega arith in
    subst (λ (b : Bool). F (port_in (set ports p x) q) ≡ F (port_in ports q) + cond b d 0) (sym (eq-eqb q p same)) sum)
    (λ (apart : q ≢ p).
    let now : F (port_in (set ports p x) q) ≡ F (port_in ports q) = ap F (port_apart ports p q x apart) in
    let sum : F (port_in (set ports p x) q) ≡ F (port_in ports q) + 0 = omega arith in
    subst (λ (b : Bool). F (port_in (set ports p x) q) ≡ F (port_in ports q) + cond b d 0) (sym (ne_eqb q p apart)) sum)
    (cases_eq q p)

both_count : (a b : Bool) → cond a (cond b 1 0) 0 ≡ cond (a && b) 1 0 + 0
both_count true true = refl
both_count true false = refl
both_count false b = refl

wire_left : (w : World) (port : ℕ) (packet : List ℕ) (stamp : Stamp) (meter : Meter) → IsAtPort w.ports meter → left_of (wire_if w port true packet stamp) meter ≡ left_of w meter + in_spread meter ((ToWire port, packet) ∷ [])
wire_left w port packet stamp (OnWire q bytes) at =
    let x : Port = record (port_at w port) { leaving = (port_at w port).leaving ++ (stamp, packet) ∷ [] } in
    let F : Port → ℕ = λ p. times (same_packet bytes) p.leaving in
    let d : ℕ = cond (bytes_eq bytes packet) 1 0 in
    let more = times-append (same_packet bytes) (port_at w port).leaving ((stamp, packet) ∷ []) in
    let one : F x ≡ F (port_in w.ports port) + d = omega arith in
    port_adds F d w.ports port q x at one ∙ ap (λ (k : ℕ). F (port_in w.ports q) + k) (both_count (q == port) (bytes_eq bytes packet))
wire_left w port packet stamp (AtReader hook bytes) at = omega arith
wire_left w port packet stamp (AtHost q) at =
    let x : Port = record (port_at w port) { leaving = (port_at w port).leaving ++ (stamp, packet) ∷ [] } in
    let same = port_alike (λ p. p.up) w.ports port q x refl in omega arith

host_left : (w : World) (port : ℕ) (packet : List ℕ) (meter : Meter) → IsAtPort w.ports meter
    → count_left meter (set w.ports port (record (port_at w port) { up = (port_at w port).up + 1 })) w.told ≡ left_of w meter + in_spread meter ((ToHost port, packet) ∷ [])
host_left w port packet (OnWire q bytes) at =
    let x : Port = record (port_at w port) { up = (port_at w port).up + 1 } in
    let same = port_alike (λ p. times (same_packet bytes) p.leaving) w.ports port q x refl in omega arith
host_left w port packet (AtReader hook bytes) at = omega arith
host_left w port packet (AtHost q) at =
    let x : Port = record (port_at w port) { up = (port_at w port).up + 1 } in
    let more = port_adds (λ p. p.up) 1 w.ports port q x at refl in omega arith

read_left : (w : World) (hook packet : List ℕ) (meter : Meter) → left_of (read_if w true hook packet) meter ≡ left_of w meter + in_spread meter ((ToReader hook, packet) ∷ [])
read_left w hook packet (OnWire q bytes) = omega arith
read_left w hook packet (AtReader name bytes) = times-append (is_told_packet name bytes) w.told _
read_left w hook packet (AtHost q) = omega arith

-- What a served packet does, by what its node is to learn by it

abbrev pub AreFrames : List Item → Type 0
AreFrames items = Every (λ (x : Item). has_frame x ≡ true) items

pub every_both : {A : Type 0} (P : A → Type 0) (xs ys : List A) → Every P xs → Every P ys → Every P (xs ++ ys)
every_both P [] ys a b = b
every_both P (x ∷ xs) ys a b = (a.0, every_both P xs ys a.1 b)

module _ (learn : Option (List ℕ)) where
  -- From one world to another nodes stay; this leaves, and these packets are sent, unless some are lost since too many wait or too
  -- much has left.
  pub record Goes (w v : World) (out : Spread) (sent : List Flight) : Type 0 where
    pub nodes : v.nodes ≡ w.nodes
    pub ports : length v.ports ≡ length w.ports
    pub rises : crowded w ≤ crowded v
    pub made : List Item
    pub pending : v.pending ≡ w.pending ++ made
    pub frames : learn ≡ None → AreFrames made
    pub flights : crowded v ≡ crowded w → waiting made ≡ sent
    pub left : crowded v ≡ crowded w → (meter : Meter) → IsAtPort w.ports meter → left_of v meter ≡ left_of w meter + in_spread meter out

  pub goes_on : (w u v : World) (o p : Spread) (f g : List Flight) → Goes w u o f → Goes u v p g → Goes w v (o ++ p) (f ++ g)
  goes_on w u v o p f g a b =
      let r = a.rises in
      let s = b.rises in
      record {
        nodes = b.nodes ∙ a.nodes;
        ports = b.ports ∙ a.ports;
        rises = omega arith;
        made = a.made ++ b.made;
        frames = λ e. every_both (λ (x : Item). has_frame x ≡ true) a.made b.made (a.frames e) (b.frames e);
        pending = b.pending ∙ ap (λ (ps : List Item). ps ++ b.made) a.pending ∙ append_assoc w.pending a.made b.made;
        flights = λ e.
            let x : crowded u ≡ crowded w = omega arith in
            let y : crowded v ≡ crowded u = omega arith in
            waiting_append a.made b.made ∙ ap₂ (λ (xs ys : List Flight). xs ++ ys) (a.flights x) (b.flights y);
        left = λ e meter at.
            let x : crowded u ≡ crowded w = omega arith in
            let y : crowded v ≡ crowded u = omega arith in
            let i = a.left x meter at in
            let j = b.left y meter (at_port_alike w.ports u.ports meter a.ports at) in
            let k = times-append (meters meter) o p in
            omega arith;
      }

  -- nothing of it changes
  quiet : (w v : World) → v.nodes ≡ w.nodes → v.ports ≡ w.ports → v.told ≡ w.told → v.pending ≡ w.pending → crowded v ≡ crowded w → Goes w v [] []
  quiet w v n p t q c = record {
    nodes = n;
    ports = ap (λ (ps : List Port). length ps) p;
    rises = omega arith;
    made = [];
    frames = λ e. tt;
    pending = q ∙ sym (append-nil w.pending);
    flights = λ e. refl;
    left = λ e meter at. let same : left_of v meter ≡ left_of w meter = ap₂ (count_left meter) p t in omega arith;
  }

  -- A packet is sent

  send_goes : (w : World) (hook : Hook) (o : Option NodeRecord) (room : Bool) (packet : List ℕ) (stamp : Stamp) → Goes w (send_if w hook o room packet stamp) [] (sent_if hook true (is_some o) packet)
  send_goes w hook None room packet stamp = quiet w _ refl refl refl refl refl
  send_goes w hook (Some row) false packet stamp = record {
    nodes = refl;
    ports = refl;
    rises = omega arith;
    made = [];
    frames = λ e. tt;
    pending = sym (append-nil w.pending);
    flights = λ e. absurd (omega arith);
    left = λ e meter at. absurd (omega arith);
  }
  send_goes w hook (Some row) true packet stamp = record {
    nodes = refl;
    ports = refl;
    rises = omega arith;
    made = _;
    frames = λ e. (refl, tt);
    pending = refl;
    flights = λ e. refl;
    left = λ e meter at. omega arith;
  }

  joined_goes : (w : World) (hook : Hook) (b : Bool) (packet : List ℕ) (stamp : Stamp) → Goes w (send_joined w hook b packet stamp) [] (sent_if hook b (is_some (node_in w.nodes hook.peer.node)) packet)
  joined_goes w hook false packet stamp = quiet w _ refl refl refl refl refl
  joined_goes w hook true packet stamp = send_goes w hook (node_at w hook.peer.node) (nat_lt (frames w) most_frames) packet stamp

  post_goes : (w : World) (o : Option Hook) (packet : List ℕ) (stamp : Stamp) → Goes w (send_by w o packet stamp) [] (sent_by w.nodes o packet)
  post_goes w None packet stamp = quiet w _ refl refl refl refl refl
  post_goes w (Some hook) packet stamp = joined_goes w hook hook.joined packet stamp

  posts_go : (nodes : List (Option NodeRecord)) (at : NodeId) (stamp : Stamp) (row : NodeRecord) → node_in nodes at ≡ Some row → (w : World) → w.nodes ≡ nodes → (xs : List (List ℕ × List ℕ)) → Goes w (change_all at stamp w (posts xs)) [] (sent_on nodes row xs)
  posts_go nodes at stamp row is w same [] = quiet w w refl refl refl refl refl
  posts_go nodes at stamp row is w same (x ∷ xs) =
      let v = change at stamp w (Posts x.0 x.1) in
      let first : Goes w v [] (sent_by w.nodes (hook_at (node_at w at) x.0) x.1) = post_goes w (hook_at (node_at w at) x.0) x.1 stamp in
      let here : node_at w at ≡ Some row = ap (λ (ns : List (Option NodeRecord)). node_in ns at) same ∙ is in
      let one : sent_by w.nodes (hook_at (node_at w at) x.0) x.1 ≡ sent_by nodes (hook_of row x.0) x.1 = ap₂ (λ (ns : List (Option NodeRecord)) (o : Option NodeRecord). sent_by ns (hook_at o x.0) x.1) same here in
      let rest = posts_go nodes at stamp row is v (first.nodes ∙ same) xs in
      goes_on w v (change_all at stamp v (posts xs)) [] [] (sent_by nodes (hook_of row x.0) x.1) (sent_on nodes row xs) (subst (Goes w v []) one first) rest

  -- A packet leaves

  lost_spool : (w v : World) (out : Spread) → v.nodes ≡ w.nodes → v.ports ≡ w.ports → v.pending ≡ w.pending → crowded v ≡ crowded w + 1 → Goes w v out []
  lost_spool w v out n p q c = record {
    nodes = n;
    ports = ap (λ (ps : List Port). length ps) p;
    rises = omega arith;
    made = [];
    frames = λ e. tt;
    pending = q ∙ sym (append-nil w.pending);
    flights = λ e. absurd (omega arith);
    left = λ e meter at. absurd (omega arith);
  }

  leave_goes : (w : World) (at : NodeId) (stamp : Stamp) (exit : Exit) (hook packet : List ℕ) → Goes w (leave w at stamp exit hook packet) ((place_of at hook exit, packet) ∷ []) []
  leave_goes w at stamp ByWire hook packet = by (nat_le (spool_with w packet) most_spool)
    where
      by : (b : Bool) → Goes w (wire_if w (port_of at) b packet stamp) ((ToWire (port_of at), packet) ∷ []) []
      by false = lost_spool w _ _ refl refl refl (omega arith)
      by true = record {
        nodes = refl;
        ports = length-set {A = Port} w.ports (port_of at) _;
        rises = omega arith;
        made = [];
        frames = λ e. tt;
        pending = sym (append-nil w.pending);
        flights = λ e. refl;
        left = λ e meter ok. wire_left w (port_of at) packet stamp meter ok;
      }
  leave_goes w at stamp Host hook packet = record {
    nodes = refl;
    ports = length-set {A = Port} w.ports (port_of at) _;
    rises = omega arith;
    made = [];
    frames = λ e. tt;
    pending = sym (append-nil w.pending);
    flights = λ e. refl;
    left = λ e meter ok. host_left w (port_of at) packet meter ok;
  }
  leave_goes w at stamp Reader hook packet = by (nat_le (spool_with w packet) most_spool)
    where
      by : (b : Bool) → Goes w (read_if w b hook packet) ((ToReader hook, packet) ∷ []) []
      by false = lost_spool w _ _ refl refl refl (omega arith)
      by true = record {
        nodes = refl;
        ports = refl;
        rises = omega arith;
        made = [];
        frames = λ e. tt;
        pending = sym (append-nil w.pending);
        flights = λ e. refl;
        left = λ e meter ok. read_left w hook packet meter;
      }

  exits_go : (at : NodeId) (stamp : Stamp) (hook : List ℕ) (w : World) (xs : List (Exit × List ℕ)) → Goes w (change_all at stamp w (exits hook xs)) (leaving at hook xs) []
  exits_go at stamp hook w [] = quiet w w refl refl refl refl refl
  exits_go at stamp hook w (x ∷ xs) =
      let v = leave w at stamp x.0 hook x.1 in
      goes_on w v (change_all at stamp v (exits hook xs)) ((place_of at hook x.0, x.1) ∷ []) (leaving at hook xs) [] [] (leave_goes w at stamp x.0 hook x.1) (exits_go at stamp hook v xs)

  counts_go : (at : NodeId) (stamp : Stamp) (w : World) (b : Bool) → Goes w (change_all at stamp w (counts_unless b)) [] []
  counts_go at stamp w true = quiet w w refl refl refl refl refl
  counts_go at stamp w false = quiet w _ refl refl refl refl refl

  -- what a bridge is to learn is no packet
  learning_goes : (w : World) (to : NodeId) (o : Option NodeRecord) (hook : List ℕ) (link : LinkId) (addr : List ℕ) (stamp : Stamp) → (learn ≡ None → ⊥) → Goes w (accept_at w to o (Learn hook link addr) None stamp) [] []
  learning_goes w to None hook link addr stamp some = quiet w w refl refl refl refl refl
  learning_goes w to (Some row) hook link addr stamp some = record {
    nodes = refl;
    ports = refl;
    rises = omega arith;
    made = _;
    pending = refl;
    frames = λ e. absurd (some e);
    flights = λ e. refl;
    left = λ e meter at. omega arith;
  }

  learns_go : (at : NodeId) (stamp : Stamp) (w : World) (door : Door) (link : Option LinkId) → Goes w (change_all at stamp w (learns at door link learn)) [] []
  learns_go at stamp w door link = by door link learn refl
    where
      by : (door : Door) (link : Option LinkId) (o : Option (List ℕ)) → learn ≡ o → Goes w (change_all at stamp w (learns at door link o)) [] []
      by Wire link o e = quiet w w refl refl refl refl refl
      by (ByHook hook) None o e = quiet w w refl refl refl refl refl
      by (ByHook hook) (Some link) None e = quiet w w refl refl refl refl refl
      by (ByHook hook) (Some link) (Some addr) e = learning_goes w at (node_at w at) hook link addr stamp (λ (none : learn ≡ None). none_some addr (sym none ∙ e))

change_all-append : (at : NodeId) (stamp : Stamp) (w : World) (xs ys : List Change) → change_all at stamp w (xs ++ ys) ≡ change_all at stamp (change_all at stamp w xs) ys
change_all-append at stamp w [] ys = refl
change_all-append at stamp w (x ∷ xs) ys = change_all-append at stamp (change at stamp w x) xs ys

-- A packet is served: its node's part changes and nothing else of the nodes
module _ (w : World) (item : Item) (row : NodeRecord) (is : node_in w.nodes item.to ≡ Some row) (door : Door) (link : Option LinkId) (packet : List ℕ) where
  abbrev pub out_is : Outcome
  out_is = outcome_of (state_of row) (Frame door link packet)

  abbrev pub now_is : NodeRecord
  now_is = record row { kept = kept_after (state_of row) (Frame door link packet) }

  abbrev pub served_from : World
  served_from = record w { nodes = set w.nodes item.to.0 (Some now_is) }

  abbrev rest_is : List Change
  rest_is = exits (door_name door) out_is.leaves ++ (counts_unless (is_fine out_is.errno) ++ (learns item.to door link out_is.learn ++ posts out_is.sends))

  parts_go : Goes out_is.learn served_from (change_all item.to item.stamp served_from rest_is) (leaving item.to (door_name door) out_is.leaves) (sent_on w.nodes row out_is.sends)
  parts_go =
      let at = item.to in
      let a = exits (door_name door) out_is.leaves in
      let b = counts_unless (is_fine out_is.errno) in
      let c = learns at door link out_is.learn in
      let d = posts out_is.sends in
      let u1 = change_all at item.stamp served_from a in
      let u2 = change_all at item.stamp u1 b in
      let u3 = change_all at item.stamp u2 c in
      let u4 = change_all at item.stamp u3 d in
      let all : change_all at item.stamp served_from rest_is ≡ u4 =
      change_all-append at item.stamp served_from a (b ++ (c ++ d)) ∙ change_all-append at item.stamp u1 b (c ++ d) ∙ change_all-append at item.stamp u2 c d in
      let L = leaving at (door_name door) out_is.leaves in
      let g1 : Goes out_is.learn served_from u1 L [] = exits_go out_is.learn at item.stamp (door_name door) served_from out_is.leaves in
      let g2 : Goes out_is.learn u1 u2 [] [] = counts_go out_is.learn at item.stamp u1 (is_fine out_is.errno) in
      let g3 : Goes out_is.learn u2 u3 [] [] = learns_go out_is.learn at item.stamp u2 door link in
      let G = graph_set w.nodes w.nodes at row now_is is (frame_stays row door link packet) (graph_rests w.nodes) (ap is_some is) in
      let here : node_in served_from.nodes at ≡ Some now_is = get_here w.nodes at.0 (Some now_is) (given_number w.nodes at.0 row is) in
      let g4 : Goes out_is.learn u3 u4 [] (sent_on served_from.nodes now_is out_is.sends) = posts_go out_is.learn served_from.nodes at item.stamp now_is here u3 (g3.nodes ∙ g2.nodes ∙ g1.nodes) out_is.sends in
      let same : sent_on served_from.nodes now_is out_is.sends ≡ sent_on w.nodes row out_is.sends = sent_alike w.nodes served_from.nodes (there_in w.nodes served_from.nodes G) row now_is refl out_is.sends in
      let S = sent_on w.nodes row out_is.sends in
      let h4 : Goes out_is.learn u3 u4 [] S = subst (Goes out_is.learn u3 u4 []) same g4 in
      let h3 : Goes out_is.learn u2 u4 [] S = goes_on out_is.learn u2 u3 u4 [] [] [] S g3 h4 in
      let h2 : Goes out_is.learn u1 u4 [] S = goes_on out_is.learn u1 u2 u4 [] [] [] S g2 h3 in
      let h1 : Goes out_is.learn served_from u4 (L ++ []) S = goes_on out_is.learn served_from u1 u4 L [] [] S g1 h2 in
      subst (λ (v : World). Goes out_is.learn served_from v L S) (sym all) (subst (λ (o : Spread). Goes out_is.learn served_from u4 o S) (append-nil L) h1)

  pub frame_goes : Goes out_is.learn served_from (change_all item.to item.stamp w (effect_at w item row (Frame door link packet))) (leaving item.to (door_name door) out_is.leaves) (sent_on w.nodes row out_is.sends)
  frame_goes =
      let there : is_there w item.to ≡ true = ap is_some is in
      subst (λ (b : Bool). Goes out_is.learn served_from (change_all item.to item.stamp (set_node w item.to now_is b) rest_is) (leaving item.to (door_name door) out_is.leaves) (sent_on w.nodes row out_is.sends)) (sym there) parts_go

-- The spreads of what is sent on have one visit less

abbrev pub after_visit : List (Option NodeRecord) → ℕ → List Flight → Option Spread
after_visit nodes zero fs = None
after_visit nodes (suc n) fs = spread_all (λ g. spread_in nodes n g) fs

pub spread_steps : (nodes : List (Option NodeRecord)) (n : ℕ) (f : Flight) → spread_in nodes n f ≡ spread_by (after_visit nodes n) (fate nodes f)
spread_steps nodes zero f = refl
spread_steps nodes (suc n) f = refl

after_is : (nodes : List (Option NodeRecord)) (n : ℕ) (fs : List Flight) (rest : Spread) → after_visit nodes n fs ≡ Some rest → spread_all (λ g. spread_in nodes (pred n) g) fs ≡ Some rest
after_is nodes zero fs rest e = absurd (none_some rest e)
after_is nodes (suc n) fs rest e = e

vanished : (w v : World) (item : Item) (spread : Spread) (n : ℕ) → spread ≡ [] → v.pending ≡ (take_out w item.id).pending → v.ports ≡ w.ports → v.told ≡ w.told → IsReplaced w v item spread n
vanished w v item spread n e p q t = record {
  leaves = [];
  made = [];
  frames = tt;
  rest = [];
  ports = ap (λ (ps : List Port). length ps) q;
  pending = p ∙ sym (append-nil (take_out w item.id).pending);
  sent = refl;
  left = λ meter at. let same : left_of v meter ≡ left_of w meter = ap₂ (count_left meter) q t in omega arith;
  whole = e;
  count = λ pair. let none : count_of spread pair ≡ 0 = ap (λ (s : Spread). count_of s pair) e in omega arith;
}

module _ (w : World) (item0 : Item) (door : Door) (link : Option LinkId) (packet : List ℕ) (n : ℕ) (spread : Spread) where
  abbrev pub it : Item
  it = record item0 { body = Frame door link packet }

  abbrev pub its_flight : Flight
  its_flight = record { to = item0.to; door = door; link = link; packet = packet }

  abbrev pub without_it : World
  without_it = finish (take_out w it.id) it.id

  abbrev pub by_row : Option NodeRecord → World
  by_row o = change_all it.to it.stamp without_it (effect without_it it o)

  served : (row : NodeRecord) → node_in w.nodes it.to ≡ Some row → is_followed (kind_at row) ≡ true → beside (Some (leaving it.to (door_name door) (outcome_of (state_of row) it.body).leaves)) (after_visit w.nodes n (sent_on w.nodes row (outcome_of (state_of row) it.body).sends)) ≡ Some spread
      → crowded (by_row (Some row)) ≡ crowded w → IsReplaced w (by_row (Some row)) it spread (pred n)
  served row is followed d lost =
      let out = outcome_of (state_of row) it.body in
      let L = leaving it.to (door_name door) out.leaves in
      let b = both_are (Some L) (after_visit w.nodes n (sent_on w.nodes row out.sends)) spread d in
      let g = frame_goes without_it it row is door link packet in
      let whole : spread ≡ L ++ b.second = b.all_is ∙ ap (λ (s : Spread). s ++ b.second) (same_some b.first L (sym b.first_is)) in
      record {
        leaves = L;
        made = g.made;
        frames = g.frames (followed_orderly row.kept (hook_names row) door packet followed).learn;
        rest = b.second;
        ports = g.ports;
        pending = g.pending;
        sent = ap (spread_all (λ h. spread_in w.nodes (pred n) h)) (g.flights lost) ∙ after_is w.nodes n (sent_on w.nodes row out.sends) b.second b.second_is;
        left = λ meter at. g.left lost meter at;
        whole = whole;
        count = λ pair. let e : count_of spread pair ≡ count_of (L ++ b.second) pair = ap (λ (s : Spread). count_of s pair) whole in let j = times-append (same_pair pair) L b.second in omega arith;
      }

  replaced : spread_in w.nodes n its_flight ≡ Some spread → crowded (apply_item w it) ≡ crowded w → IsReplaced w (apply_item w it) it spread (pred n)
  replaced def lost = rows (node_in w.nodes it.to) refl (sym (spread_steps w.nodes n its_flight) ∙ def) lost
    where
      gate : (row : NodeRecord) → node_in w.nodes it.to ≡ Some row → (gone followed : Bool) → is_followed (kind_at row) ≡ followed → spread_by (after_visit w.nodes n) (fate_if w.nodes its_flight row gone followed) ≡ Some spread
          → crowded (apply_if (take_out w it.id) it gone) ≡ crowded w → IsReplaced w (apply_if (take_out w it.id) it gone) it spread (pred n)
      gate row is true followed k d l = vanished w _ it spread (pred n) (sym (same_some [] spread d)) refl refl refl
      gate row is false false k d l = absurd (none_some spread d)
      gate row is false true k d l = subst (λ (o : Option NodeRecord). crowded (by_row o) ≡ crowded w → IsReplaced w (by_row o) it spread (pred n)) (sym is) (served row is k d) l

      rows : (o : Option NodeRecord) → node_in w.nodes it.to ≡ o → spread_by (after_visit w.nodes n) (fate_at w.nodes its_flight o) ≡ Some spread
          → crowded (apply_if (take_out w it.id) it (is_hook_gone o it.body)) ≡ crowded w → IsReplaced w (apply_if (take_out w it.id) it (is_hook_gone o it.body)) it spread (pred n)
      rows None is d l =
          subst (λ (o : Option NodeRecord). IsReplaced w (by_row o) it spread (pred n)) (sym is) (vanished w without_it it spread (pred n) (sym (same_some [] spread d)) refl refl refl)
      rows (Some row) is d l = gate row is (is_hook_gone (Some row) it.body) (is_followed (kind_at row)) refl d l

none_one : (f : Flight) → [] ≡ f ∷ [] → ⊥
none_one f e = let q : true ≡ false = ap (λ (fs : List Flight). is_empty fs) e in true≢false q

same_one : (f g : Flight) → f ∷ [] ≡ g ∷ [] → f ≡ g
same_one f g e = cc

pub replaces : (w : World) (item : Item) (f : Flight) (n : ℕ) (spread : Spread) → flights_to item.to item.body ≡ f ∷ [] → spread_in w.nodes n f ≡ Some spread → crowded (apply_item w item) ≡ crowded w → IsReplaced w (apply_item w item) item spread (pred n)
replaces w item f n spread is def lost = at item.body refl is
  where
    at : (body : Body) → item.body ≡ body → flights_to item.to body ≡ f ∷ [] → IsReplaced w (apply_item w item) item spread (pred n)
    at (Frame door link packet) e i =
        let same : item ≡ record item { body = Frame door link packet } = ap (λ (b : Body). record item { body = b }) e in
        subst (λ (x : Item). crowded (apply_item w x) ≡ crowded w → IsReplaced w (apply_item w x) x spread (pred n)) (sym same)
        (replaced w item door link packet n spread (ap (λ (g : Flight). spread_in w.nodes n g) (same_one _ f i) ∙ def)) lost
    at (Msg msg) e i = absurd (none_one f i)
    at (Join2 hook link peer peer_hook) e i = absurd (none_one f i)
    at (Join3 hook link) e i = absurd (none_one f i)
    at (Undo hook link errno) e i = absurd (none_one f i)
    at (Leave hook link) e i = absurd (none_one f i)
    at (Rebind hook old new peer peer_hook) e i = absurd (none_one f i)
    at (Tick seconds) e i = absurd (none_one f i)
    at (Learn hook link addr) e i = absurd (none_one f i)

pub one_step : OneStep
one_step w item f n spread is def lost = replaces w item f n spread is def (ap₂ ◌+◌ lost.full lost.spool)
