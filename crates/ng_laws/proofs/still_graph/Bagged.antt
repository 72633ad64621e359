-- In a still graph what left, with the spreads of what is pending and of what is to be fed, stays the same.
use Rattle.std.proofs.Common.{◌<◌, ◌≡◌, ℕ, zero, suc, pred, ◌+◌, ◌≤◌, List, [], ◌∷◌, ◌++◌, length, Bool, true, false, not, cond, filter, is_some, slice_get, refl, sym, ap, ap₂, ◌∙◌, subst, inl, inr, ⊎_elim, arith, true≢false, append-nil, eq-eqb, length-set}
use Rattle.std.specs.declared.option.Option.{Option}
use Rattle.std.specs.declared.option.Option.TheVariants.{None, Some}
use Rattle.std.specs.List.{list_any}
use Rattle.std.proofs.lemmas.Bool.{or_parts, cases_lt}
use Rattle.ng_base.specs.declared.event.Event.{Event}
use Rattle.ng_base.specs.declared.event.Event.TheVariants.{Feed, Take, Back, Apply, Stop}
use Rattle.ng_base.specs.declared.ids.ItemId.{ItemId}
use Rattle.ng_base.specs.declared.ids.LinkId.{LinkId}
use Rattle.ng_base.specs.declared.ids.NodeId.{NodeId}
use Rattle.ng_base.specs.declared.ids.Stamp.{Stamp}
use Rattle.ng_machine.specs.declared.body.Body.{Body}
use Rattle.ng_machine.specs.declared.body.Body.TheVariants.{Frame, Msg, Join2, Join3, Undo, Leave, Rebind, Tick, Learn}
use Rattle.ng_machine.specs.declared.body.Door.{Door}
use Rattle.ng_machine.specs.declared.body.Door.TheVariants.{Wire}
use Rattle.ng_machine.specs.declared.hook.Hook.{Hook}
use Rattle.ng_machine.specs.declared.input.Input.{Input}
use Rattle.ng_machine.specs.declared.input.Input.TheVariants.{Command, Late, Packet, Tick as TickInput}
use Rattle.ng_machine.specs.declared.item.Item.{Item}
use Rattle.ng_machine.specs.Words.{Has, Every, times}
use Rattle.ng_machine.specs.Body.{has_id, is_writer}
use Rattle.ng_machine.specs.World.{World, NodeRecord, Port, blank_port, node_in, node_at, kind_at, item_id, node_id, port_node, linked_hook}
use Rattle.ng_machine.specs.Change.{accept_at, set_node, change_all, port_at}
use Rattle.ng_machine.specs.Effect.{learn, effect, is_hook_gone, take_out, finish, apply_if, apply_item, apply_found}
use Rattle.ng_machine.specs.Feed.{RunInput, arrive, is_bridge, feed_tick, feed_ticks, feed_next}
use Rattle.ng_machine.specs.Run.{RunState, after, after_all, beginning}
use Rattle.ng_machine.specs.Orderly.{AllowedEvent, OrderlyFrom}
use Rattle.ng_machine.specs.Laws.{Setting, start, run_state_after, world_after}
use Rattle.ng_machine.specs.Spread.{spread_of_all, Spread, Flight, fed_flight, flights_to, waiting, fate_at, spread_by, spread_all, spread_in}
use Rattle.ng_laws.specs.still_graph.Bag.{PacketsDecide, IsPlace, port_in, flights_of, IsTrafficAfter, IsStillGraph, IsTraffic, inputs_from, is_stop, Meter, OnWire, AtReader, AtHost, meters, in_spread, same_packet, count_left, left_of, IsAtPort, LosesNothing, arrivals, SameBag}
use Rattle.ng_machine.proofs.Standing.{in_pushed, in_either, of_filter}
use Rattle.ng_machine.proofs.Moves.{KeptAt, held_item, apply_fed}
use Rattle.ng_machine.proofs.Ordering.{after-append, orderly_front, orderly_back, kept_start, kept_before}
use Rattle.ng_machine.proofs.Counted.{Counts, times-append, has_count, counts_event, counts_run, counts_start}
use Rattle.ng_laws.proofs.still_graph.Ethers.{at_ports}
use Rattle.ng_laws.proofs.still_graph.Placed.{all_places, places_are_ports, no_wire, no_host}
use Rattle.ng_laws.proofs.still_graph.Fuelled.{same_some, both_are, all_extends, more_visits}
use Rattle.ng_laws.proofs.still_graph.Staying.{graph_rests, graph_joins, all_alike, fate_alike, spread_alike}
use Rattle.ng_laws.proofs.still_graph.Stayed.{is_passing, OnlyPassing, passing, fed_one, only_frames}
use Rattle.ng_laws.proofs.still_graph.Stepped.{crowded, waiting_append, at_port_alike, port_alike, frame_goes, after_visit, spread_steps, replaces}

every_front : {A : Type 0} (P : A → Type 0) (xs ys : List A) → Every P (xs ++ ys) → Every P xs
every_front P [] ys a = tt
every_front P (x ∷ xs) ys a = (a.0, every_front P xs ys a.1)

every_back : {A : Type 0} (P : A → Type 0) (xs ys : List A) → Every P (xs ++ ys) → Every P ys
every_back P [] ys a = a
every_back P (x ∷ xs) ys a = every_back P xs ys a.1

few : (b : Bool) (x y z : ℕ) → x + (y + z) ≡ cond b 1 0 → z ≤ 1
few true x y z e = omega arith
few false x y z e = omega arith

-- one that has the number is no longer there, where no more than one has it
none_filtered : (id : ItemId) (ps : List Item) → times (has_id id) ps ≡ 0 → filter (λ q. not (has_id id q)) ps ≡ ps
none_filtered id [] e = refl
none_filtered id (q ∷ ps) e = by (has_id id q) (λ k. none_filtered id ps k) e
  where
    by : (b : Bool) → (times (has_id id) ps ≡ 0 → filter (λ q. not (has_id id q)) ps ≡ ps) → cond b 1 0 + times (has_id id) ps ≡ 0
        → cond (not b) (q ∷ filter (λ q. not (has_id id q)) ps) (filter (λ q. not (has_id id q)) ps) ≡ q ∷ ps
    by true more e = absurd (omega arith)
    by false more e = ap (λ (xs : List Item). q ∷ xs) (more (omega arith))

pub value : Option Spread → Spread
value None = []
value (Some s) = s

some_value : (o : Option Spread) → is_some o ≡ true → o ≡ Some (value o)
unfolding value
some_value None e = absurd (true≢false (sym e))
some_value (Some s) e = refl

-- What the packets that are pending and those that are to be fed have before them, in a graph of these nodes
module _ (nodes : List (Option NodeRecord)) (n : ℕ) where
  abbrev pub IsDefined : Flight → Type 0
  IsDefined f = is_some (spread_in nodes n f) ≡ true

  abbrev pub load : Meter → List Flight → ℕ
  load meter [] = 0
  load meter (f ∷ fs) = in_spread meter (value (spread_in nodes n f)) + load meter fs

  load_append : (meter : Meter) (xs ys : List Flight) → load meter (xs ++ ys) ≡ load meter xs + load meter ys
  load_append meter [] ys = omega arith
  load_append meter (x ∷ xs) ys = let more = load_append meter xs ys in omega arith

  pub summed : (fs : List Flight) (bag : Spread) → spread_all (λ f. spread_in nodes n f) fs ≡ Some bag → Every IsDefined fs × ((meter : Meter) → load meter fs ≡ in_spread meter bag)
  unfolding value
  summed [] bag e = (tt, λ meter. ap (in_spread meter) (same_some [] bag e))
  summed (f ∷ fs) bag e =
      let b = both_are (spread_in nodes n f) (spread_all (λ f. spread_in nodes n f) fs) bag e in
      let more = summed fs b.second b.second_is in (
        (ap is_some b.first_is, more.0),
        λ meter.
            let here : in_spread meter (value (spread_in nodes n f)) ≡ in_spread meter b.first = ap (λ (o : Option Spread). in_spread meter (value o)) b.first_is in
            let all : in_spread meter bag ≡ in_spread meter (b.first ++ b.second) = ap (in_spread meter) b.all_is in
            let parts = times-append (meters meter) b.first b.second in
            let rest = more.1 meter in
            omega arith,
      )

  abbrev pub AllDefined : List Item → Type 0
  AllDefined ps = (item : Item) → Has item ps → Every IsDefined (flights_to item.to item.body)

  pub each_defined : (ps : List Item) → Every IsDefined (waiting ps) → AllDefined ps
  each_defined [] e item h = absurd h
  each_defined (p ∷ ps) e item (inl is) = subst (λ (y : Item). Every IsDefined (flights_to y.to y.body)) (sym is) (every_front IsDefined (flights_to p.to p.body) (waiting ps) e)
  each_defined (p ∷ ps) e item (inr h) = each_defined ps (every_back IsDefined (flights_to p.to p.body) (waiting ps) e) item h

  abbrev pub the_load : Meter → List Item → ℕ
  the_load meter ps = load meter (waiting ps)

  load_joined : (meter : Meter) (ps qs : List Item) → the_load meter (ps ++ qs) ≡ the_load meter ps + the_load meter qs
  load_joined meter ps qs = ap (load meter) (waiting_append ps qs) ∙ load_append meter (waiting ps) (waiting qs)

  -- what a list has before it is that of the item and of the others
  load_taken : (meter : Meter) (p : Item) (ps : List Item) → Has p ps → times (has_id p.id) ps ≤ 1
      → the_load meter ps ≡ the_load meter (filter (λ q. not (has_id p.id q)) ps) + load meter (flights_to p.to p.body)
  load_taken meter p [] h le = absurd h
  load_taken meter p (q ∷ ps) h le = by (has_id p.id q) refl (λ k l. load_taken meter p ps k l) le h
    where
      rest : List Item
      rest = filter (λ q. not (has_id p.id q)) ps

      by : (b : Bool) → has_id p.id q ≡ b → (Has p ps → times (has_id p.id) ps ≤ 1 → the_load meter ps ≡ the_load meter (filter (λ q. not (has_id p.id q)) ps) + load meter (flights_to p.to p.body))
          → cond b 1 0 + times (has_id p.id) ps ≤ 1 → Has p (q ∷ ps)
          → the_load meter (q ∷ ps) ≡ the_load meter (cond (not b) (q ∷ filter (λ q. not (has_id p.id q)) ps) (filter (λ q. not (has_id p.id q)) ps)) + load meter (flights_to p.to p.body)
      by true e more le (inl is) =
          let none : filter (λ q. not (has_id p.id q)) ps ≡ ps = none_filtered p.id ps (omega arith) in
          let same : the_load meter (filter (λ q. not (has_id p.id q)) ps) ≡ the_load meter ps = ap (the_load meter) none in
          let own : load meter (flights_to p.to p.body) ≡ load meter (flights_to q.to q.body) = ap (λ (y : Item). load meter (flights_to y.to y.body)) is in
          let j = load_append meter (flights_to q.to q.body) (waiting ps) in
          omega arith
      by true e more le (inr h) = let c = has_count p ps h in absurd (omega arith)
      by false e more le (inl is) = absurd (true≢false (sym (eq-eqb q.id.0 p.id.0 (ap (λ (y : Item). y.id.0) (sym is))) ∙ e))
      by false e more le (inr h) =
          let m = more h (omega arith) in
          let j = load_append meter (flights_to q.to q.body) (waiting ps) in
          let k = load_append meter (flights_to q.to q.body) (waiting (filter (λ q. not (has_id p.id q)) ps)) in
          omega arith

  -- From one world to another these packets come, and the balance stays.
  pub record Balanced (w v : World) (came : List Flight) : Type 0 where
    pub ports : length v.ports ≡ length w.ports
    pub defined : AllDefined v.pending
    pub balance : (meter : Meter) → IsAtPort w.ports meter → left_of v meter + the_load meter v.pending ≡ left_of w meter + the_load meter w.pending + load meter came

  balance_joins : (w u v : World) (c d : List Flight) → Balanced w u c → Balanced u v d → Balanced w v (c ++ d)
  balance_joins w u v c d a b = record {
    ports = b.ports ∙ a.ports;
    defined = b.defined;
    balance = λ meter at.
        let x = a.balance meter at in
        let y = b.balance meter (at_port_alike w.ports u.ports meter a.ports at) in
        let z = load_append meter c d in
        omega arith;
  }

  -- nothing that is counted changes, but for items that are no packets
  pub record Idle (w v : World) : Type 0 where
    pub ports : v.ports ≡ w.ports
    pub told : v.told ≡ w.told
    pub crowd : crowded v ≡ crowded w
    pub flights : waiting v.pending ≡ waiting w.pending
    pub defined : AllDefined w.pending → AllDefined v.pending

  idle_balance : (w v : World) → Idle w v → AllDefined w.pending → Balanced w v []
  idle_balance w v i D = record {
    ports = ap (λ (ps : List Port). length ps) i.ports;
    defined = i.defined D;
    balance = λ meter at.
        let a : left_of v meter ≡ left_of w meter = ap₂ (count_left meter) i.ports i.told in
        let b : the_load meter v.pending ≡ the_load meter w.pending = ap (load meter) i.flights in
        omega arith;
  }

  idles : (w : World) → Idle w w
  idles w = record { ports = refl; told = refl; crowd = refl; flights = refl; defined = λ D. D }

  idle_on : (w u v : World) → Idle w u → Idle u v → Idle w v
  idle_on w u v a b = record { ports = b.ports ∙ a.ports; told = b.told ∙ a.told; crowd = b.crowd ∙ a.crowd; flights = b.flights ∙ a.flights; defined = λ D. b.defined (a.defined D) }

  -- Ticks are fed

  tick_accepted : (w : World) (to : NodeId) (o : Option NodeRecord) (seconds : ℕ) → Idle w (accept_at w to o (Tick seconds) None w.clock)
  tick_accepted w to None seconds = idles w
  tick_accepted w to (Some row) seconds = record {
    ports = refl;
    told = refl;
    crowd = refl;
    flights = waiting_append w.pending _ ∙ append-nil (waiting w.pending);
    defined = λ D item h. ⊎_elim
        (λ (k : Has item w.pending). D item k)
        (λ e. subst (λ (y : Item). Every IsDefined (flights_to y.to y.body)) (sym e) tt)
        (in_pushed item _ w.pending h);
  }

  tick_idle : (w : World) (seconds m : ℕ) (b : Bool) → Idle w (feed_tick w seconds m b)
  tick_idle w seconds m false = idles w
  tick_idle w seconds m true = tick_accepted w (node_id m) (node_at w (node_id m)) seconds

  ticks_idle : (w : World) (seconds m : ℕ) (rows : List (Option NodeRecord)) → Idle w (feed_ticks w seconds m rows)
  ticks_idle w seconds m [] = idles w
  ticks_idle w seconds m (row ∷ rows) =
      let u = feed_tick w seconds m (is_bridge row) in idle_on w u (feed_ticks u seconds (m + 1) rows) (tick_idle w seconds m (is_bridge row)) (ticks_idle u seconds (m + 1) rows)

  -- A packet is fed

  arrive_left : (w : World) (port : ℕ) (stamp : Stamp) (meter : Meter) → left_of (arrive w port stamp) meter ≡ left_of w meter
  arrive_left w port stamp (OnWire q bytes) = port_alike (λ p. times (same_packet bytes) p.leaving) w.ports port q (record (port_at w port) { fed = (port_at w port).fed + 1 }) refl
  arrive_left w port stamp (AtReader hook bytes) = refl
  arrive_left w port stamp (AtHost q) = port_alike (λ p. p.up) w.ports port q (record (port_at w port) { fed = (port_at w port).fed + 1 }) refl

  no_value : (meter : Meter) (o : Option Spread) → o ≡ Some [] → in_spread meter (value o) ≡ 0
  unfolding value
  no_value meter o e = ap (λ (x : Option Spread). in_spread meter (value x)) e

  -- a packet for a node that isn't there
  no_node : (w : World) → IsStillGraph nodes w.nodes → (f : Flight) → node_in w.nodes f.to ≡ None → spread_in nodes n f ≡ Some []
  no_node w G f is = spread_steps nodes n f ∙ ap (spread_by (after_visit nodes n)) (sym (fate_alike nodes w.nodes G f) ∙ ap (fate_at w.nodes f) is)

  packet_accepted : (w : World) → IsStillGraph nodes w.nodes → AllDefined w.pending → (port : ℕ) (packet : List ℕ) (stamp : Stamp) → IsDefined (fed_flight port packet) → (o : Option NodeRecord) → node_in w.nodes (port_node port) ≡ o
      → Balanced w (accept_at w (port_node port) o (Frame Wire None packet) None stamp) (fed_flight port packet ∷ [])
  packet_accepted w G D port packet stamp d None is = record {
    ports = refl;
    defined = D;
    balance = λ meter at. let none = no_value meter (spread_in nodes n (fed_flight port packet)) (no_node w G (fed_flight port packet) is) in omega arith;
  }
  packet_accepted w G D port packet stamp d (Some row) is = record {
    ports = refl;
    defined = λ item h. ⊎_elim
        (λ (k : Has item w.pending). D item k)
        (λ e. subst (λ (y : Item). Every IsDefined (flights_to y.to y.body)) (sym e) (d, tt))
        (in_pushed item _ w.pending h);
    balance = λ meter at.
        let new : Item = record { id = item_id w.next_item; to = port_node port; body = Frame Wire None packet; writer = is_writer (kind_at row) (Frame Wire None packet); tag = None; stamp = stamp } in
        let j = load_joined meter w.pending (new ∷ []) in
        omega arith;
  }

  fed_balance : (given : RunInput) (w : World) (o : Option Input) → IsTraffic o → IsStillGraph nodes w.nodes → AllDefined w.pending → Every IsDefined (arrivals (o ∷ [])) → Balanced w (feed_next given w o) (arrivals (o ∷ []))
  fed_balance given w None t G D e = idle_balance w w (idles w) D
  fed_balance given w (Some (TickInput seconds)) t G D e =
      let u = record w { fed = w.fed + 1 } in
      let first : Idle w u = record { ports = refl; told = refl; crowd = refl; flights = refl; defined = λ D. D } in
      idle_balance w (feed_ticks u seconds 0 w.nodes) (idle_on w u (feed_ticks u seconds 0 w.nodes) first (ticks_idle u seconds 0 w.nodes)) D
  fed_balance given w (Some (Packet port stamp packet)) t G D e =
      let u = record w { fed = w.fed + 1 } in
      let v = arrive u port stamp in
      let same : length v.ports ≡ length w.ports = length-set {A = Port} w.ports port (record (port_at w port) { fed = (port_at w port).fed + 1 }) in
      let b = packet_accepted v G D port packet stamp e.0 (node_at v (port_node port)) refl in
      record {
        ports = b.ports ∙ same;
        defined = b.defined;
        balance = λ meter at. let x = b.balance meter (at_port_alike w.ports v.ports meter same at) in let y = arrive_left u port stamp meter in omega arith;
      }
  fed_balance given w (Some (Command command)) t G D e = absurd t
  fed_balance given w (Some (Late command)) t G D e = absurd t

  accept_crowd : (w : World) (to : NodeId) (o : Option NodeRecord) (body : Body) (tag : Option ℕ) (stamp : Stamp) → crowded (accept_at w to o body tag stamp) ≡ crowded w
  accept_crowd w to None body tag stamp = refl
  accept_crowd w to (Some row) body tag stamp = refl

  fed_crowd : (given : RunInput) (w : World) (o : Option Input) → IsTraffic o → crowded (feed_next given w o) ≡ crowded w
  fed_crowd given w None t = refl
  fed_crowd given w (Some (TickInput seconds)) t = (ticks_idle (record w { fed = w.fed + 1 }) seconds 0 w.nodes).crowd
  fed_crowd given w (Some (Packet port stamp packet)) t =
      let v = arrive (record w { fed = w.fed + 1 }) port stamp in accept_crowd v (port_node port) (node_at v (port_node port)) (Frame Wire None packet) None stamp
  fed_crowd given w (Some (Command command)) t = absurd t
  fed_crowd given w (Some (Late command)) t = absurd t

  -- An item that is no packet is applied

  idle_set : (w : World) (at : NodeId) (now : NodeRecord) (b : Bool) → Idle w (set_node w at now b)
  idle_set w at now true = record { ports = refl; told = refl; crowd = refl; flights = refl; defined = λ D. D }
  idle_set w at now false = idles w

  finished : (w : World) (id : ItemId) → Idle w (finish w id)
  finished w id = record { ports = refl; told = refl; crowd = refl; flights = refl; defined = λ D. D }

  tick_applied : (w : World) (item : Item) (seconds : ℕ) → Idle (take_out w item.id) (apply_item w (record item { body = Tick seconds }))
  tick_applied w item seconds = subst (λ (b : Bool). Idle t (apply_if t it b)) (sym (stays (node_at w item.to))) (idle_on t v _ (finished t item.id) (by (node_at w item.to)))
    where
      it : Item
      it = record item { body = Tick seconds }

      t : World
      t = take_out w item.id

      v : World
      v = finish (take_out w item.id) item.id

      stays : (o : Option NodeRecord) → is_hook_gone o (Tick seconds) ≡ false
      stays None = refl
      stays (Some row) = refl

      by : (o : Option NodeRecord) → Idle v (change_all item.to item.stamp v (effect v it o))
      by None = idles v
      by (Some row) = idle_set v item.to _ _

  learn_applied : (w : World) (item : Item) (hook : List ℕ) (link : LinkId) (addr : List ℕ) → Idle (take_out w item.id) (apply_item w (record item { body = Learn hook link addr }))
  learn_applied w item hook link addr = subst (λ (b : Bool). Idle t (apply_if t it b)) (sym (stays (node_at w item.to))) (idle_on t v _ (finished t item.id) (by (node_at w item.to)))
    where
      it : Item
      it = record item { body = Learn hook link addr }

      t : World
      t = take_out w item.id

      v : World
      v = finish (take_out w item.id) item.id

      stays : (o : Option NodeRecord) → is_hook_gone o (Learn hook link addr) ≡ false
      stays None = refl
      stays (Some row) = refl

      at_hook : (row : NodeRecord) (o : Option Hook) → Idle v (change_all item.to item.stamp v (learn row o (Learn hook link addr)))
      at_hook row None = idles v
      at_hook row (Some x) = idle_set v item.to _ _

      by : (o : Option NodeRecord) → Idle v (change_all item.to item.stamp v (effect v it o))
      by None = idles v
      by (Some row) = at_hook row (linked_hook row hook link)

  taken_balance : (w : World) (p : Item) → AllDefined w.pending → Has p w.pending → times (has_id p.id) w.pending ≤ 1 → flights_to p.to p.body ≡ [] → Balanced w (take_out w p.id) []
  taken_balance w p D h le e = record {
    ports = refl;
    defined = λ item k. D item (of_filter (λ q. not (has_id p.id q)) item w.pending k).0;
    balance = λ meter at.
        let l = load_taken meter p w.pending h le in
        let none : load meter (flights_to p.to p.body) ≡ 0 = ap (load meter) e in
        omega arith;
  }

  -- A packet is applied

  pred_below : (m : ℕ) → pred m ≤ m
  pred_below zero = omega arith
  pred_below (suc m) = omega arith

  frame_applied : (w : World) → IsStillGraph nodes w.nodes → AllDefined w.pending → (p : Item) (f : Flight) → flights_to p.to p.body ≡ f ∷ [] → Has p w.pending → times (has_id p.id) w.pending ≤ 1 → crowded (apply_item w p) ≡ crowded w
      → Balanced w (apply_item w p) []
  frame_applied w G D p f e h le lost =
      let fates = fate_alike nodes w.nodes G in
      let own : Every IsDefined (f ∷ []) = subst (λ (fs : List Flight). Every IsDefined fs) e (D p h) in
      let spread = value (spread_in nodes n f) in
      let here : spread_in w.nodes n f ≡ Some spread = spread_alike nodes w.nodes fates n f ∙ some_value (spread_in nodes n f) own.0 in
      let R = replaces w p f n spread e here lost in
      let sent : spread_all (λ g. spread_in nodes n g) (waiting R.made) ≡ Some R.rest =
      all_extends (λ g. spread_in nodes (pred n) g) (λ g. spread_in nodes n g) (more_visits nodes (pred n) n (pred_below n)) (waiting R.made) R.rest
      (sym (all_alike (λ g. spread_in w.nodes (pred n) g) (λ g. spread_in nodes (pred n) g) (λ g. spread_alike nodes w.nodes fates (pred n) g) (waiting R.made)) ∙ R.sent) in
      let s = summed (waiting R.made) R.rest sent in
      let rest : List Item = (take_out w p.id).pending in
      record {
        ports = R.ports;
        defined = λ item k. ⊎_elim
            (λ (m : Has item rest). D item (of_filter (λ q. not (has_id p.id q)) item w.pending m).0)
            (λ (m : Has item R.made). each_defined R.made s.0 item m)
            (in_either item rest R.made (subst (Has item) R.pending k));
        balance = λ meter at.
            let left = R.left meter at in
            let now : the_load meter (apply_item w p).pending ≡ the_load meter (rest ++ R.made) = ap (the_load meter) R.pending in
            let parts = load_joined meter rest R.made in
            let made = s.1 meter in
            let was = load_taken meter p w.pending h le in
            let mine : load meter (flights_to p.to p.body) ≡ load meter (f ∷ []) = ap (load meter) e in
            let whole : in_spread meter spread ≡ in_spread meter (R.leaves ++ R.rest) = ap (in_spread meter) R.whole in
            let sum = times-append (meters meter) R.leaves R.rest in
            omega arith;
      }

  applied_balance : (w : World) → IsStillGraph nodes w.nodes → AllDefined w.pending → (p : Item) → is_passing p.body ≡ true → Has p w.pending → times (has_id p.id) w.pending ≤ 1 → crowded (apply_item w p) ≡ crowded w
      → Balanced w (apply_item w p) []
  applied_balance w G D p pass h le lost = by p.body refl pass
    where
      other : (body : Body) → p.body ≡ body → flights_to p.to p.body ≡ [] → Idle (take_out w p.id) (apply_item w (record p { body = body })) → Balanced w (apply_item w p) []
      other body e none i =
          let b = taken_balance w p D h le none in
          let same : p ≡ record p { body = body } = ap (λ (x : Body). record p { body = x }) e in
          subst (λ (x : Item). Balanced w (apply_item w x) []) (sym same) (balance_joins w (take_out w p.id) (apply_item w (record p { body = body })) [] [] b (idle_balance (take_out w p.id) _ i b.defined))

      by : (body : Body) → p.body ≡ body → is_passing body ≡ true → Balanced w (apply_item w p) []
      by (Frame door link packet) e t = frame_applied w G D p _ (ap (flights_to p.to) e) h le lost
      by (Tick seconds) e t = other (Tick seconds) e (ap (flights_to p.to) e) (tick_applied w p seconds)
      by (Learn hook link addr) e t = other (Learn hook link addr) e (ap (flights_to p.to) e) (learn_applied w p hook link addr)
      by (Msg msg) e t = absurd (true≢false (sym t))
      by (Join2 hook link peer peer_hook) e t = absurd (true≢false (sym t))
      by (Join3 hook link) e t = absurd (true≢false (sym t))
      by (Undo hook link errno) e t = absurd (true≢false (sym t))
      by (Leave hook link) e t = absurd (true≢false (sym t))
      by (Rebind hook old new peer peer_hook) e t = absurd (true≢false (sym t))

  -- What is lost never falls

  frame_rises : (w : World) (item : Item) (door : Door) (link : Option LinkId) (packet : List ℕ) → crowded w ≤ crowded (apply_item w (record item { body = Frame door link packet }))
  frame_rises w item door link packet = by (is_hook_gone (node_at w item.to) (Frame door link packet))
    where
      it : Item
      it = record item { body = Frame door link packet }

      v : World
      v = finish (take_out w item.id) item.id

      rows : (o : Option NodeRecord) → node_in w.nodes item.to ≡ o → crowded w ≤ crowded (change_all item.to item.stamp v (effect v it o))
      rows None is = omega arith
      rows (Some row) is = (frame_goes v it row is door link packet).rises

      by : (b : Bool) → crowded w ≤ crowded (apply_if (take_out w item.id) it b)
      by true = omega arith
      by false = rows (node_at w item.to) refl

  applied_rises : (w : World) (p : Item) → is_passing p.body ≡ true → crowded w ≤ crowded (apply_item w p)
  applied_rises w p pass = by p.body refl pass
    where
      turn : (body : Body) → p.body ≡ body → crowded w ≤ crowded (apply_item w (record p { body = body })) → crowded w ≤ crowded (apply_item w p)
      turn body e le = let same : p ≡ record p { body = body } = ap (λ (x : Body). record p { body = x }) e in subst (λ (x : Item). crowded w ≤ crowded (apply_item w x)) (sym same) le

      by : (body : Body) → p.body ≡ body → is_passing body ≡ true → crowded w ≤ crowded (apply_item w p)
      by (Frame door link packet) e t = turn (Frame door link packet) e (frame_rises w p door link packet)
      by (Tick seconds) e t = let c = (tick_applied w p seconds).crowd in turn (Tick seconds) e (omega arith)
      by (Learn hook link addr) e t = let c = (learn_applied w p hook link addr).crowd in turn (Learn hook link addr) e (omega arith)
      by (Msg msg) e t = absurd (true≢false (sym t))
      by (Join2 hook link peer peer_hook) e t = absurd (true≢false (sym t))
      by (Join3 hook link) e t = absurd (true≢false (sym t))
      by (Undo hook link errno) e t = absurd (true≢false (sym t))
      by (Leave hook link) e t = absurd (true≢false (sym t))
      by (Rebind hook old new peer peer_hook) e t = absurd (true≢false (sym t))

  -- Events

  abbrev pub came : RunInput → ℕ → Event → List Flight
  came given fed Feed = arrivals (slice_get given.inputs fed ∷ [])
  came given fed (Take seat id) = []
  came given fed (Back id) = []
  came given fed (Apply id) = []
  came given fed Stop = []

  event_rises : (given : RunInput) (budget seats : ℕ) (at : RunState) (e : Event) (es : List Event) → AllowedEvent given budget seats at e → is_stop e ≡ false → KeptAt budget at → OnlyPassing at.world.pending
      → Every IsTraffic (inputs_from given at.world.fed (e ∷ es)) → crowded at.world ≤ crowded (after given at e).world
  event_rises given budget seats at Feed es a u K O t = let c = fed_crowd given at.world (slice_get given.inputs at.world.fed) t.0 in omega arith
  event_rises given budget seats at (Take seat id) es a u K O t = omega arith
  event_rises given budget seats at (Back id) es a u K O t = omega arith
  event_rises given budget seats at (Apply id) es a u K O t =
      let h = held_item at.world at.taken id K.sound a in
      subst (λ (o : Option Item). crowded at.world ≤ crowded (apply_found at.world o)) (sym h.found) (applied_rises at.world h.item (O h.item h.is_pending))
  event_rises given budget seats at Stop es a u K O t = absurd (true≢false u)

  event_balance : (given : RunInput) (budget seats : ℕ) (at : RunState) (e : Event) (es : List Event) → AllowedEvent given budget seats at e → is_stop e ≡ false → KeptAt budget at → Counts at.world → OnlyPassing at.world.pending
      → Every IsTraffic (inputs_from given at.world.fed (e ∷ es)) → IsStillGraph nodes at.world.nodes → AllDefined at.world.pending → Every IsDefined (came given at.world.fed e)
      → crowded (after given at e).world ≡ crowded at.world → Balanced at.world (after given at e).world (came given at.world.fed e)
  event_balance given budget seats at Feed es a u K C O t G D d same = fed_balance given at.world (slice_get given.inputs at.world.fed) t.0 G D d
  event_balance given budget seats at (Take seat id) es a u K C O t G D d same = idle_balance at.world at.world (idles at.world) D
  event_balance given budget seats at (Back id) es a u K C O t G D d same = idle_balance at.world at.world (idles at.world) D
  event_balance given budget seats at (Apply id) es a u K C O t G D d same =
      let h = held_item at.world at.taken id K.sound a in
      subst (λ (o : Option Item). crowded (apply_found at.world o) ≡ crowded at.world → Balanced at.world (apply_found at.world o) []) (sym h.found)
      (λ lost. applied_balance at.world G D h.item (O h.item h.is_pending) h.is_pending (few _ _ _ _ (C.all h.item.id)) lost) same
  event_balance given budget seats at Stop es a u K C O t G D d same = absurd (true≢false u)

  arrivals_first : (o : Option Input) (rest : List (Option Input)) → arrivals (o ∷ rest) ≡ arrivals (o ∷ []) ++ arrivals rest
  arrivals_first None rest = refl
  arrivals_first (Some (TickInput seconds)) rest = refl
  arrivals_first (Some (Packet port stamp packet)) rest = refl
  arrivals_first (Some (Command command)) rest = refl
  arrivals_first (Some (Late command)) rest = refl

  abbrev pub coming : RunInput → RunState → List Event → List Flight
  coming given at es = arrivals (inputs_from given at.world.fed es)

  come_on : (given : RunInput) (budget seats : ℕ) (at : RunState) (e : Event) (es : List Event) → AllowedEvent given budget seats at e → coming given at (e ∷ es) ≡ came given at.world.fed e ++ coming given (after given at e) es
  come_on given budget seats at Feed es a =
      let o = slice_get given.inputs at.world.fed in
      arrivals_first o (inputs_from given (at.world.fed + 1) es) ∙ ap (λ (k : ℕ). arrivals (o ∷ []) ++ arrivals (inputs_from given k es)) (sym (fed_one given at.world o a.1))
  come_on given budget seats at (Take seat id) es a = refl
  come_on given budget seats at (Back id) es a = refl
  come_on given budget seats at (Apply id) es a = ap (λ (k : ℕ). arrivals (inputs_from given k es)) (sym (apply_fed at.world id))
  come_on given budget seats at Stop es a = refl

  -- what holds before each event
  pub record Underway (given : RunInput) (budget seats : ℕ) (at : RunState) (es : List Event) : Type 0 where
    pub orderly : OrderlyFrom given budget seats at es
    pub unstopped : list_any is_stop es ≡ false
    pub kept : KeptAt budget at
    pub counts : Counts at.world
    pub pass : OnlyPassing at.world.pending
    pub traffic : Every IsTraffic (inputs_from given at.world.fed es)

  underway : (given : RunInput) (budget seats : ℕ) (at : RunState) (e : Event) (es : List Event) → Underway given budget seats at (e ∷ es) → Underway given budget seats (after given at e) es
  underway given budget seats at e es U =
      let n = or_parts (is_stop e) (list_any is_stop es) U.unstopped in
      let p = passing given budget seats at e es U.orderly.0.1 n.0 U.kept U.pass U.traffic in
      record { orderly = U.orderly.1; unstopped = n.1; kept = p.kept; counts = counts_event given budget seats at e U.orderly.0.1 U.kept.sound U.counts; pass = p.passes.pass; traffic = p.traffic }

  run_rises : (given : RunInput) (budget seats : ℕ) (at : RunState) (es : List Event) → Underway given budget seats at es → crowded at.world ≤ crowded (after_all given at es).world
  run_rises given budget seats at [] U = omega arith
  run_rises given budget seats at (e ∷ es) U =
      let n = or_parts (is_stop e) (list_any is_stop es) U.unstopped in
      let one = event_rises given budget seats at e es U.orderly.0.1 n.0 U.kept U.pass U.traffic in
      let more = run_rises given budget seats (after given at e) es (underway given budget seats at e es U) in
      omega arith

  pub run_balance : (given : RunInput) (budget seats : ℕ) (at : RunState) (es : List Event) → Underway given budget seats at es → IsStillGraph nodes at.world.nodes → AllDefined at.world.pending → Every IsDefined (coming given at es)
      → crowded (after_all given at es).world ≡ crowded at.world → Balanced at.world (after_all given at es).world (coming given at es)
  run_balance given budget seats at [] U G D d same = idle_balance at.world at.world (idles at.world) D
  run_balance given budget seats at (e ∷ es) U G D d same =
      let n = or_parts (is_stop e) (list_any is_stop es) U.unstopped in
      let V = underway given budget seats at e es U in
      let p = passing given budget seats at e es U.orderly.0.1 n.0 U.kept U.pass U.traffic in
      let one = event_rises given budget seats at e es U.orderly.0.1 n.0 U.kept U.pass U.traffic in
      let more = run_rises given budget seats (after given at e) es V in
      let here : crowded (after given at e).world ≡ crowded at.world = omega arith in
      let then : crowded (after_all given (after given at e) es).world ≡ crowded (after given at e).world = omega arith in
      let c = came given at.world.fed e in
      let all = come_on given budget seats at e es U.orderly.0.1 in
      let parts : Every IsDefined (c ++ coming given (after given at e) es) = subst (λ (fs : List Flight). Every IsDefined fs) all d in
      let first = event_balance given budget seats at e es U.orderly.0.1 n.0 U.kept U.counts U.pass U.traffic G D (every_front IsDefined c (coming given (after given at e) es) parts) here in
      let rest = run_balance given budget seats (after given at e) es V (graph_joins nodes at.world.nodes (after given at e).world.nodes G p.passes.graph) first.defined (every_back IsDefined c (coming given (after given at e) es) parts) then in
      subst (λ (fs : List Flight). Balanced at.world (after_all given (after given at e) es).world fs) (sym all) (balance_joins at.world (after given at e).world (after_all given (after given at e) es).world c (coming given (after given at e) es) first rest)

same_world : (w v : World) → LosesNothing w v → crowded v ≡ crowded w
same_world w v l = ap₂ ◌+◌ l.full l.spool

-- for a meter of a port that is there
same_bag_at : (s : Setting) (before more : List Event) (n : ℕ) (bag : Spread) → IsTrafficAfter s before more
    → LosesNothing (world_after s before) (world_after s (before ++ more)) → (world_after s (before ++ more)).pending ≡ []
    → spread_of_all (world_after s before) (flights_of s before more) n ≡ Some bag
    → (meter : Meter) → IsAtPort (world_after s before).ports meter
    → left_of (world_after s (before ++ more)) meter ≡ left_of (world_after s before) meter + in_spread meter bag
same_bag_at s before more m bag T lost none def meter at =
    let a = run_state_after s before in
    let nodes = a.world.nodes in
    let front = orderly_front s.given s.budget s.seats (beginning (start s)) before more T.orderly in
    let U : Underway nodes m s.given s.budget s.seats a more = record {
      orderly = orderly_back s.given s.budget s.seats (beginning (start s)) before more T.orderly;
      unstopped = T.unstopped;
      kept = kept_before s before more T.orderly;
      counts = counts_run s.given s.budget s.seats (beginning (start s)) before front (kept_start s) (counts_start s);
      pass = only_frames a.world T.frames;
      traffic = T.traffic;
    } in
    let b = summed nodes m (waiting a.world.pending ++ coming nodes m s.given a more) bag def in
    let D = each_defined nodes m a.world.pending (every_front (IsDefined nodes m) (waiting a.world.pending) (coming nodes m s.given a more) b.0) in
    let d = every_back (IsDefined nodes m) (waiting a.world.pending) (coming nodes m s.given a more) b.0 in
    subst (λ (z : RunState). crowded z.world ≡ crowded a.world → z.world.pending ≡ [] → left_of z.world meter ≡ left_of a.world meter + in_spread meter bag)
    (sym (after-append s.given (beginning (start s)) before more))
    (λ same idle.
    let B = run_balance nodes m s.given s.budget s.seats a more U (graph_rests nodes) D d same in
    let sum = B.balance meter at in
    let nothing : the_load nodes m meter (after_all s.given a more).world.pending ≡ 0 = ap (the_load nodes m meter) idle in
    let all = b.1 meter in
    let parts = load_append nodes m meter (waiting a.world.pending) (coming nodes m s.given a more) in
    omega arith)
    (same_world a.world (world_after s (before ++ more)) lost) none

-- and for each other: nothing leaves by a port that isn't there

port_past : (ports : List Port) (q : ℕ) → length ports ≤ q → port_in ports q ≡ blank_port
port_past [] q le = refl
port_past (x ∷ ports) zero le = absurd (omega arith)
port_past (x ∷ ports) (suc q) le = port_past ports q (omega arith)

pub same_bag : SameBag
same_bag s before more m bag T lost none def meter = by meter
  where
    w : World
    w = world_after s before

    v : World
    v = world_after s (before ++ more)

    places : Every (IsPlace (length s.ports)) bag
    places = all_places (length s.ports) (λ f. spread_in w.nodes m f) (λ f t e. places_are_ports s before f m t e) (flights_of s before more) bag def

    past : (q : ℕ) → length w.ports ≤ q → (length s.ports ≤ q) × (length v.ports ≤ q)
    past q le =
        let a : length w.ports ≡ length s.ports = (at_ports s before).length_is in
        let b : length v.ports ≡ length s.ports = (at_ports s (before ++ more)).length_is in
        let x : length s.ports ≤ q = omega arith in
        let y : length v.ports ≤ q = omega arith in
        (x, y)

    by : (meter : Meter) → left_of v meter ≡ left_of w meter + in_spread meter bag
    by (AtReader hook bytes) = same_bag_at s before more m bag T lost none def (AtReader hook bytes) tt
    by (OnWire q bytes) = ⊎_elim
        (λ (lt : q < length w.ports). same_bag_at s before more m bag T lost none def (OnWire q bytes) lt)
        (λ (le : length w.ports ≤ q).
        let p = past q le in
        let now : left_of v (OnWire q bytes) ≡ 0 = ap (λ (port : Port). times (same_packet bytes) port.leaving) (port_past v.ports q p.1) in
        let was : left_of w (OnWire q bytes) ≡ 0 = ap (λ (port : Port). times (same_packet bytes) port.leaving) (port_past w.ports q le) in
        let none = no_wire (length s.ports) q bytes p.0 bag places in
        omega arith)
        (cases_lt q (length w.ports))
    by (AtHost q) = ⊎_elim
        (λ (lt : q < length w.ports). same_bag_at s before more m bag T lost none def (AtHost q) lt)
        (λ (le : length w.ports ≤ q).
        let p = past q le in
        let now : left_of v (AtHost q) ≡ 0 = ap (λ (port : Port). port.up) (port_past v.ports q p.1) in
        let was : left_of w (AtHost q) ≡ 0 = ap (λ (port : Port). port.up) (port_past w.ports q le) in
        let none = no_host (length s.ports) q p.0 bag places in
        omega arith)
        (cases_lt q (length w.ports))

pub packets_decide : PacketsDecide
packets_decide s before more other n bag T U lost lost_too none none_too same def meter =
    same_bag s before more n bag T lost none def meter
    ∙ sym (same_bag s before other n bag U lost_too none_too (ap (λ (fs : List Flight). spread_of_all (world_after s before) fs n) same ∙ def) meter)
