-- No number of a run comes near the end of its type: what each change, each input and each event adds, and that it is little.
use Rattle.std.proofs.Common.{◌≡◌, ◌≢◌, ◌⊎◌, ℕ, zero, suc, ◌+◌, ◌-◌, ◌*◌, ◌<◌, ◌≤◌, ◌==◌, ◌||◌, ◌&&◌, Bool, true, false, not, nat_le, nat_lt, if◌then◌else◌, cond, List, [], ◌∷◌, ◌++◌, length, map, take, set, get_or, is_some, slice_get, refl, sym, ap, ◌∙◌, inl, inr, ⊎_elim, subst, arith, true≢false, length-append}
use Rattle.std.specs.List.{filter, list_any}
use Rattle.std.specs.declared.option.Option.{Option}
use Rattle.std.specs.declared.option.Option.TheVariants.{None, Some}
use Rattle.std.proofs.lemmas.List.{length-map}
use Rattle.std.proofs.lemmas.Bool.{ne_eqb, cases_eq, leb-true}
use Rattle.ng_base.specs.declared.cause.Cause.{Cause}
use Rattle.ng_base.specs.declared.cause.Cause.TheVariants.{NodeGone, HookGone, Budget}
use Rattle.ng_base.specs.declared.event.Event.{Event}
use Rattle.ng_base.specs.declared.event.Event.TheVariants.{Feed, Take, Back, Apply, Stop}
use Rattle.ng_base.specs.declared.ids.ItemId.{ItemId}
use Rattle.ng_base.specs.declared.ids.NodeId.{NodeId}
use Rattle.ng_base.specs.declared.ids.Stamp.{Stamp}
use Rattle.ng_base.specs.declared.kind.Kind.{Kind}
use Rattle.ng_base.specs.declared.kind.Kind.TheVariants.{Ether, Socket}
use Rattle.ng_machine.specs.declared.body.Body.{Body}
use Rattle.ng_machine.specs.declared.body.Body.TheVariants.{Frame, Tick}
use Rattle.ng_machine.specs.declared.body.Door.TheVariants.{Wire}
use Rattle.ng_machine.specs.declared.body.Exit.{Exit}
use Rattle.ng_machine.specs.declared.body.Exit.TheVariants.{Wire as ToWire, Host, Reader}
use Rattle.ng_machine.specs.declared.command.Command.{Command as CommandLine}
use Rattle.ng_machine.specs.declared.hook.Hook.{Hook}
use Rattle.ng_machine.specs.declared.input.Input.{Input}
use Rattle.ng_machine.specs.declared.input.Input.TheVariants.{Command, Late, Packet, Tick as Ticks}
use Rattle.ng_machine.specs.declared.item.Item.{Item}
use Rattle.ng_machine.specs.declared.lost.Lost.{Lost}
use Rattle.ng_machine.specs.Words.{Has, Every, times}
use Rattle.ng_machine.specs.Body.{is_frame, is_writer, is_at, has_id, has_tick, has_frame}
use Rattle.ng_machine.specs.Bounds.{links_of}
use Rattle.ng_machine.specs.KnownRun.{FitsInput, PacketFits}
use Rattle.ng_machine.specs.LowRun.{most_budget, most_commands, IsModest, port_sum, loss_count, IsLow, RunsAreLow}
use Rattle.ng_machine.specs.World.{World, NodeRecord, Port, blank_node, blank_port, kind_at, node_at, is_there, hook_at, node_id, port_node, port_of}
use Rattle.ng_machine.specs.Change.{Change, Sets, Makes, Retires, Accepts, Posts, Notes, Note, Tells, Refuses, Exits, Links, accept, accept_at, arrival, send_if, send_joined, send_by, frames, most_frames, tell, port_at, wire_if, read_if, hand_up, leave, spool_with, most_spool, note, set_node, retire, drops_for, change, change_all}
use Rattle.ng_machine.specs.Effect.{effect, effect_at, is_hook_gone, take_out, finish, drop_hook_gone, apply_if, apply_item, apply_found, apply}
use Rattle.ng_machine.specs.Feed.{RunInput, Request, request_of, begin_command, feed_command, arrive, is_bridge, feed_tick, feed_ticks, feed_input, feed_next}
use Rattle.ng_machine.specs.Run.{RunState, Taken, after, after_all, beginning, stop}
use Rattle.ng_machine.specs.Refusal.{is_command}
use Rattle.ng_machine.specs.Orderly.{HasNoTick, MayFeedInput, MayFeedNext, Allowed, OrderlyFrom}
use Rattle.ng_machine.specs.Laws.{Setting, start, run_state_after, IsJournal}
use Rattle.ng_machine.proofs.Standing.{in_pushed, of_filter}
use Rattle.ng_machine.proofs.NodeLists.{get, get_here, get_apart, get_before, get_gone, get_last, some_none, given_number, same_row}
use Rattle.ng_machine.proofs.Quieted.{input_quietly, accepts_quietly, posts_quietly, notes_quietly}
use Rattle.ng_machine.proofs.Kept.{all_applies, applies_quietly, fed_quietly, SoundAt, OnKind, on_set, on_make, on_retire, nodes_quietly}
use Rattle.ng_machine.proofs.Moves.{KeptAt, kept_event, held_item, apply_fed, apply_applies}
use Rattle.ng_machine.proofs.Ordering.{kept_start}
use Rattle.ng_machine.proofs.Counted.{Counts, counts_event, counts_start, times-append, times_parted, has_count}
use Rattle.ng_machine.proofs.Requests.{Requested, Ends, ByOrder, ByName, ByHook as Sends, requested}
use Rattle.ng_machine.proofs.Costing.{is_join, has_join, waiting_joins, weight, joins, links, total, cost_effect, fewer_times}
use Rattle.ng_machine.proofs.Preserving.{Grows, grows_effect}
use Rattle.ng_machine.proofs.Knowing.{KnownAt, known_event, known_start, grown_all, fits_at}

-- What is counted

abbrev is_wire : Body → Bool
is_wire (Frame Wire link packet) = true
is_wire _ = false

abbrev has_wire : Item → Bool
has_wire item = is_wire item.body

step_no_wire : (body : Body) → is_frame body ≡ false → is_wire body ≡ false
step_no_wire (Frame door link packet) e = absurd (true≢false e)
step_no_wire _ e = refl

wire_is_frame : (body : Body) → is_wire body ≡ true → is_frame body ≡ true
wire_is_frame (Frame door link packet) e = refl
wire_is_frame _ e = absurd (true≢false (sym e))

times_imply : {A : Type 0} (a b : A → Bool) → ((x : A) → a x ≡ true → b x ≡ true) → (xs : List A) → times a xs ≤ times b xs
times_imply a b f [] = omega arith
times_imply {A = A} a b f (x ∷ xs) = by (a x) (b x) refl refl (times_imply a b f xs)
  where
    by : (s t : Bool) → a x ≡ s → b x ≡ t → times a xs ≤ times b xs → (if s then 1 else 0) + times a xs ≤ (if t then 1 else 0) + times b xs
    by true true is ist le = omega arith
    by true false is ist le = absurd (true≢false (sym (f x is) ∙ ist))
    by false true is ist le = omega arith
    by false false is ist le = omega arith

times_all : {A : Type 0} (xs : List A) → times (λ (x : A). true) xs ≡ length xs
times_all [] = refl
times_all (x ∷ xs) = let more = times_all xs in omega arith

-- what a filter keeps is as many as pass its test
kept_times : {A : Type 0} (keep : A → Bool) (xs : List A) → length (filter keep xs) ≡ times keep xs
kept_times keep [] = refl
kept_times {A = A} keep (x ∷ xs) = by (keep x) (kept_times keep xs)
  where
    by : (b : Bool) → length (filter keep xs) ≡ times keep xs → length (cond b (x ∷ filter keep xs) (filter keep xs)) ≡ (if b then 1 else 0) + times keep xs
    by true e = omega arith
    by false e = omega arith

tests_le : {A : Type 0} (test : A → Bool) (xs : List A) → times test xs ≤ length xs
tests_le test [] = omega arith
tests_le {A = A} test (x ∷ xs) = by (test x) (tests_le test xs)
  where
    by : (b : Bool) → times test xs ≤ length xs → (if b then 1 else 0) + times test xs ≤ suc (length xs)
    by true le = omega arith
    by false le = omega arith

-- all that pass the first test pass the filter
unfiltered : {A : Type 0} (test keep : A → Bool) (xs : List A) → ((x : A) → Has x xs → test x ≡ true → keep x ≡ true) → times test (filter keep xs) ≡ times test xs
unfiltered test keep [] f = refl
unfiltered {A = A} test keep (x ∷ xs) f = by (keep x) (test x) refl refl (unfiltered test keep xs (λ y h. f y (inr h)))
  where
    by : (k t : Bool) → keep x ≡ k → test x ≡ t → times test (filter keep xs) ≡ times test xs → times test (cond k (x ∷ filter keep xs) (filter keep xs)) ≡ (if test x then 1 else 0) + times test xs
    by true t is ist e = ap (λ (n : ℕ). (if test x then 1 else 0) + n) e
    by false true is ist e = absurd (true≢false (sym (f x (inl refl) ist) ∙ is))
    by false false is ist e =
        let padded : times test xs ≡ 0 + times test xs = omega arith in
        let same : (if test x then 1 else 0) + times test xs ≡ 0 + times test xs = ap (λ (b : Bool). (if b then 1 else 0) + times test xs) ist in
        e ∙ padded ∙ sym same

abbrev wires : World → ℕ
wires w = times has_wire w.pending

abbrev feds : World → ℕ
feds w = port_sum (λ (port : Port). port.fed) w.ports

abbrev ups : World → ℕ
ups w = port_sum (λ (port : Port). port.up) w.ports

abbrev waiting_tick : World → ℕ
waiting_tick w = if list_any has_tick w.pending then 1 else 0

any_push : {A : Type 0} (test : A → Bool) (xs : List A) (x : A) → (if list_any test xs then 1 else 0) ≤ (if list_any test (xs ++ x ∷ []) then 1 else 0)
any_push test [] x = omega arith
any_push {A = A} test (y ∷ ys) x = by (test y) (any_push test ys x)
  where
    by : (b : Bool) → (if list_any test ys then 1 else 0) ≤ (if list_any test (ys ++ x ∷ []) then 1 else 0) → (if (b || list_any test ys) then 1 else 0) ≤ (if (b || list_any test (ys ++ x ∷ [])) then 1 else 0)
    by true le = omega arith
    by false le = le

-- with a port changed, its number grows by so much
sum_set : (f : Port → ℕ) (ports : List Port) (n k : ℕ) (x : Port) → f x ≤ f (get_or ports n blank_port) + k → port_sum f (set ports n x) ≤ port_sum f ports + k
sum_set f [] n k x le = omega arith
sum_set f (p ∷ ps) zero k x le = omega arith
sum_set f (p ∷ ps) (suc n) k x le = let more = sum_set f ps n k x le in omega arith

sums_join : (ports : List Port) → port_sum (λ (port : Port). port.fed + port.up) ports ≡ port_sum (λ (port : Port). port.fed) ports + port_sum (λ (port : Port). port.up) ports
sums_join [] = refl
sums_join (p ∷ ps) = let more = sums_join ps in omega arith

drops_length : (cause : Cause) (items : List Item) → length (drops_for cause items) ≡ length items
drops_length cause [] = refl
drops_length cause (x ∷ xs) = let more = drops_length cause xs in omega arith

-- Bounds of a world while a step goes on: at most so many numbers, joins, links, losses and packets handed up, exactly so many
-- packets by the wire, at most so many fed, and at least so many ticks
record Runs (P H i j l x y wi f t : ℕ) (u : World) : Type 0 where
  item : u.next_item ≤ i
  join : waiting_joins u ≤ j
  link : u.next_link ≤ l
  loss : loss_count u ≤ x
  up : ups u ≤ y
  wire : wires u ≡ wi
  fed : feds u ≤ f
  tick : t ≤ waiting_tick u
  spool : u.spool ≤ most_spool
  settled : (length u.done + (length u.dropped + length u.pending)) + 1 ≡ u.next_item
  hooks : (n : ℕ) (node : NodeRecord) → get u.nodes n ≡ Some node → (length node.hooks ≤ H) × (links_of node.kept ≤ H)
  at_ports : (p : Item) → Has p u.pending → has_wire p ≡ true → (2 ≤ p.to.0) × (p.to.0 < 2 + P)
  ethers : (n : ℕ) → n < P → (node : NodeRecord) × (get u.nodes (n + 2) ≡ Some node) × (kind_at node ≡ Ether)

module _ (P H : ℕ) where
  -- nothing that is counted is different
  runs_same : (i j l x y wi f t : ℕ) (w v : World) → v.nodes ≡ w.nodes → v.pending ≡ w.pending → v.done ≡ w.done → v.dropped ≡ w.dropped → v.next_item ≡ w.next_item → v.next_link ≤ l → loss_count v ≤ x → ups v ≤ y → feds v ≤ f → v.spool ≤ most_spool
      → Runs P H i j l x y wi f t w → Runs P H i j l x y wi f t v
  runs_same i j l x y wi f t w v nodes pending done dropped next link loss up fed spool R = record {
    item = let le = R.item in omega arith;
    join = subst (λ (ps : List Item). times has_join ps ≤ j) (sym pending) R.join;
    link = link;
    loss = loss;
    up = up;
    wire = ap (times has_wire) pending ∙ R.wire;
    fed = fed;
    tick = subst (λ (ps : List Item). t ≤ (if list_any has_tick ps then 1 else 0)) (sym pending) R.tick;
    spool = spool;
    settled = let was = R.settled in let a = ap length done in let b = ap length dropped in let c = ap length pending in omega arith;
    hooks = λ n node is. R.hooks n node (ap (λ (ns : List (Option NodeRecord)). get ns n) (sym nodes) ∙ is);
    at_ports = λ p h. R.at_ports p (subst (λ (ps : List Item). Has p ps) pending h);
    ethers = λ n lt. let e = R.ethers n lt in (e.0, ap (λ (ns : List (Option NodeRecord)). get ns (n + 2)) nodes ∙ e.1, e.2);
  }

  runs_more : (i j l x y wi f t a b c d e g : ℕ) (w : World) → i ≤ a → j ≤ b → l ≤ c → x ≤ d → y ≤ e → f ≤ g → Runs P H i j l x y wi f t w → Runs P H a b c d e wi g t w
  runs_more i j l x y wi f t a b c d e g w li lj ll lx ly lf R = record {
    item = let le = R.item in omega arith;
    join = let le = R.join in omega arith;
    link = let le = R.link in omega arith;
    loss = let le = R.loss in omega arith;
    up = let le = R.up in omega arith;
    wire = R.wire;
    fed = let le = R.fed in omega arith;
    tick = R.tick;
    spool = R.spool;
    settled = R.settled;
    hooks = R.hooks;
    at_ports = R.at_ports;
    ethers = R.ethers;
  }

  -- an item that is no packet by the wire is accepted
  runs_accept : (i j l x y wi f t : ℕ) (w : World) (to : NodeId) (kind : Kind) (body : Body) (tag : Option ℕ) (stamp : Stamp) → is_wire body ≡ false
      → Runs P H i j l x y wi f t w → Runs P H (i + 1) (j + (if is_join body then 1 else 0)) l x y wi f t (accept w to kind body tag stamp)
  runs_accept i j l x y wi f t w to kind body tag stamp none R =
      let z : Item = record { id = record { 0 = w.next_item }; to = to; body = body; writer = is_writer kind body; tag = tag; stamp = stamp } in record {
        item = let le = R.item in omega arith;
        join = let le = R.join in let push = times-append has_join w.pending (z ∷ []) in omega arith;
        link = R.link;
        loss = R.loss;
        up = R.up;
        wire = times-append has_wire w.pending (z ∷ []) ∙ ap (λ (b : Bool). wires w + ((if b then 1 else 0) + 0)) none ∙ (let e = R.wire in let same : wires w + (0 + 0) ≡ wi = omega arith in same);
        fed = R.fed;
        tick = let le = R.tick in let push = any_push has_tick w.pending z in omega arith;
        spool = R.spool;
        settled = let was = R.settled in let push = length-append w.pending (z ∷ []) in omega arith;
        hooks = R.hooks;
        at_ports = λ p h is. ⊎_elim (λ (k : Has p w.pending). R.at_ports p k is) (λ (e : p ≡ z). absurd (true≢false (sym is ∙ ap (λ (q : Item). has_wire q) e ∙ none))) (in_pushed p z w.pending h);
        ethers = R.ethers;
      }

  runs_accept_at : (i j l x y wi f t : ℕ) (w : World) (to : NodeId) (o : Option NodeRecord) (body : Body) (tag : Option ℕ) (stamp : Stamp) → is_wire body ≡ false
      → Runs P H i j l x y wi f t w → Runs P H (i + 1) (j + (if is_join body then 1 else 0)) l x y wi f t (accept_at w to o body tag stamp)
  runs_accept_at i j l x y wi f t w to None body tag stamp none R =
      runs_more i j l x y wi f t (i + 1) (j + (if is_join body then 1 else 0)) l x y f w (omega arith) (omega arith) (omega arith) (omega arith) (omega arith) (omega arith) R
  runs_accept_at i j l x y wi f t w to (Some node) body tag stamp none R = runs_accept i j l x y wi f t w to (kind_at node) body tag stamp none R

  -- a packet is sent, or lost

  runs_lost : (i j l x y wi f t : ℕ) (w v : World) → v.nodes ≡ w.nodes → v.pending ≡ w.pending → v.done ≡ w.done → v.dropped ≡ w.dropped → v.next_item ≡ w.next_item → v.next_link ≡ w.next_link → loss_count v ≡ loss_count w + 1 → v.ports ≡ w.ports → v.spool ≡ w.spool
      → Runs P H i j l x y wi f t w → Runs P H (i + 1) j l (x + 1) y wi f t v
  runs_lost i j l x y wi f t w v nodes pending done dropped next link loss ports spool R =
      runs_more i j l (x + 1) y wi f t (i + 1) j l (x + 1) y f v (omega arith) (omega arith) (omega arith) (omega arith) (omega arith) (omega arith)
      (runs_same i j l (x + 1) y wi f t w v nodes pending done dropped next
      (let le = R.link in omega arith) (let le = R.loss in omega arith)
      (let le = R.up in let same = ap (port_sum (λ (port : Port). port.up)) ports in omega arith)
      (let le = R.fed in let same = ap (port_sum (λ (port : Port). port.fed)) ports in omega arith)
      (let le = R.spool in omega arith)
      (runs_more i j l x y wi f t i j l (x + 1) y f w (omega arith) (omega arith) (omega arith) (omega arith) (omega arith) (omega arith) R))

  runs_sent : (i j l x y wi f t : ℕ) (w : World) (hook : Hook) (packet : List ℕ) (stamp : Stamp) (kind : Kind) → Runs P H i j l x y wi f t w → Runs P H (i + 1) j l (x + 1) y wi f t (accept w hook.peer.node kind (arrival hook packet) None stamp)
  runs_sent i j l x y wi f t w hook packet stamp kind R =
      runs_more (i + 1) (j + 0) l x y wi f t (i + 1) j l (x + 1) y f _ (omega arith) (omega arith) (omega arith) (omega arith) (omega arith) (omega arith)
      (runs_accept i j l x y wi f t w hook.peer.node kind (arrival hook packet) None stamp refl R)

  runs_send : (i j l x y wi f t : ℕ) (w : World) (hook : Hook) (o : Option NodeRecord) (room : Bool) (packet : List ℕ) (stamp : Stamp) → Runs P H i j l x y wi f t w → Runs P H (i + 1) j l (x + 1) y wi f t (send_if w hook o room packet stamp)
  runs_send i j l x y wi f t w hook None room packet stamp R = runs_lost i j l x y wi f t w _ refl refl refl refl refl refl (omega arith) refl refl R
  runs_send i j l x y wi f t w hook (Some node) false packet stamp R = runs_lost i j l x y wi f t w _ refl refl refl refl refl refl (omega arith) refl refl R
  runs_send i j l x y wi f t w hook (Some node) true packet stamp R = runs_sent i j l x y wi f t w hook packet stamp (kind_at node) R

  runs_joined : (i j l x y wi f t : ℕ) (w : World) (hook : Hook) (b : Bool) (packet : List ℕ) (stamp : Stamp) → Runs P H i j l x y wi f t w → Runs P H (i + 1) j l (x + 1) y wi f t (send_joined w hook b packet stamp)
  runs_joined i j l x y wi f t w hook false packet stamp R = runs_lost i j l x y wi f t w _ refl refl refl refl refl refl (omega arith) refl refl R
  runs_joined i j l x y wi f t w hook true packet stamp R = runs_send i j l x y wi f t w hook (node_at w hook.peer.node) (nat_lt (frames w) most_frames) packet stamp R

  runs_post : (i j l x y wi f t : ℕ) (w : World) (o : Option Hook) (packet : List ℕ) (stamp : Stamp) → Runs P H i j l x y wi f t w → Runs P H (i + 1) j l (x + 1) y wi f t (send_by w o packet stamp)
  runs_post i j l x y wi f t w None packet stamp R = runs_lost i j l x y wi f t w _ refl refl refl refl refl refl (omega arith) refl refl R
  runs_post i j l x y wi f t w (Some hook) packet stamp R = runs_joined i j l x y wi f t w hook hook.joined packet stamp R

  -- a packet leaves, or something is told

  runs_told : (i j l x y wi f t : ℕ) (w v : World) → v.nodes ≡ w.nodes → v.pending ≡ w.pending → v.done ≡ w.done → v.dropped ≡ w.dropped → v.next_item ≡ w.next_item → v.next_link ≡ w.next_link → v.lost ≡ w.lost → v.refused ≡ w.refused → v.ports ≡ w.ports → v.spool ≤ most_spool
      → Runs P H i j l x y wi f t w → Runs P H i j l x y wi f t v
  runs_told i j l x y wi f t w v nodes pending done dropped next link lost refused ports spool R =
      runs_same i j l x y wi f t w v nodes pending done dropped next (let le = R.link in omega arith)
      (subst (λ (n : ℕ). n ≤ x) (sym (ap (λ (q : Lost). q.no_peer + (q.node_gone + (q.full + (q.spool + v.refused)))) lost ∙ ap (λ (n : ℕ). w.lost.no_peer + (w.lost.node_gone + (w.lost.full + (w.lost.spool + n)))) refused)) R.loss)
      (let le = R.up in let same = ap (port_sum (λ (port : Port). port.up)) ports in omega arith)
      (let le = R.fed in let same = ap (port_sum (λ (port : Port). port.fed)) ports in omega arith) spool R

  runs_wire : (i j l x y wi f t : ℕ) (w : World) (port : ℕ) (b : Bool) (packet : List ℕ) (stamp : Stamp) → nat_le (spool_with w packet) most_spool ≡ b → Runs P H i j l x y wi f t w → Runs P H (i + 1) j l (x + 1) (y + 1) wi f t (wire_if w port b packet stamp)
  runs_wire i j l x y wi f t w port false packet stamp is R =
      runs_more (i + 1) j l (x + 1) y wi f t (i + 1) j l (x + 1) (y + 1) f _ (omega arith) (omega arith) (omega arith) (omega arith) (omega arith) (omega arith)
      (runs_lost i j l x y wi f t w _ refl refl refl refl refl refl (omega arith) refl refl R)
  runs_wire i j l x y wi f t w port true packet stamp is R =
      runs_more i j l x y wi f t (i + 1) j l (x + 1) (y + 1) f _ (omega arith) (omega arith) (omega arith) (omega arith) (omega arith) (omega arith)
      (runs_same i j l x y wi f t w (wire_if w port true packet stamp) refl refl refl refl refl R.link R.loss
      (let le = R.up in let more = sum_set (λ (p : Port). p.up) w.ports port 0 (record (port_at w port) { leaving = (port_at w port).leaving ++ (stamp, packet) ∷ [] }) (omega arith) in omega arith)
      (let le = R.fed in let more = sum_set (λ (p : Port). p.fed) w.ports port 0 (record (port_at w port) { leaving = (port_at w port).leaving ++ (stamp, packet) ∷ [] }) (omega arith) in omega arith)
      (leb-true _ _ is) R)

  runs_read : (i j l x y wi f t : ℕ) (w : World) (b : Bool) (hook packet : List ℕ) → nat_le (spool_with w packet) most_spool ≡ b → Runs P H i j l x y wi f t w → Runs P H (i + 1) j l (x + 1) (y + 1) wi f t (read_if w b hook packet)
  runs_read i j l x y wi f t w false hook packet is R =
      runs_more (i + 1) j l (x + 1) y wi f t (i + 1) j l (x + 1) (y + 1) f _ (omega arith) (omega arith) (omega arith) (omega arith) (omega arith) (omega arith)
      (runs_lost i j l x y wi f t w _ refl refl refl refl refl refl (omega arith) refl refl R)
  runs_read i j l x y wi f t w true hook packet is R =
      runs_more i j l x y wi f t (i + 1) j l (x + 1) (y + 1) f _ (omega arith) (omega arith) (omega arith) (omega arith) (omega arith) (omega arith)
      (runs_told i j l x y wi f t w (read_if w true hook packet) refl refl refl refl refl refl refl refl refl (leb-true _ _ is) R)

  runs_leave : (i j l x y wi f t : ℕ) (w : World) (at : NodeId) (stamp : Stamp) (exit : Exit) (hook packet : List ℕ) → Runs P H i j l x y wi f t w → Runs P H (i + 1) j l (x + 1) (y + 1) wi f t (leave w at stamp exit hook packet)
  runs_leave i j l x y wi f t w at stamp ToWire hook packet R = runs_wire i j l x y wi f t w (port_of at) (nat_le (spool_with w packet) most_spool) packet stamp refl R
  runs_leave i j l x y wi f t w at stamp Host hook packet R =
      let was = port_at w (port_of at) in
      runs_more i j l x (y + 1) wi f t (i + 1) j l (x + 1) (y + 1) f _ (omega arith) (omega arith) (omega arith) (omega arith) (omega arith) (omega arith)
      (runs_same i j l x (y + 1) wi f t w (hand_up w (port_of at)) refl refl refl refl refl R.link R.loss
      (let le = R.up in let more = sum_set (λ (p : Port). p.up) w.ports (port_of at) 1 (record was { up = was.up + 1 }) (omega arith) in omega arith)
      (let le = R.fed in let more = sum_set (λ (p : Port). p.fed) w.ports (port_of at) 0 (record was { up = was.up + 1 }) (omega arith) in omega arith)
      R.spool (runs_more i j l x y wi f t i j l x (y + 1) f w (omega arith) (omega arith) (omega arith) (omega arith) (omega arith) (omega arith) R))
  runs_leave i j l x y wi f t w at stamp Reader hook packet R = runs_read i j l x y wi f t w (nat_le (spool_with w packet) most_spool) hook packet refl R

  runs_note : (i j l x y wi f t : ℕ) (w : World) (at : NodeId) (stamp : Stamp) (n : Note) → Runs P H i j l x y wi f t w
      → Runs P H (i + weight (Notes n)) j (l + links (Notes n)) (x + weight (Notes n)) (y + weight (Notes n)) wi f t (note w at stamp n)
  runs_note i j l x y wi f t w at stamp (Tells told) R =
      runs_more i j l x y wi f t (i + 0) j (l + 0) (x + 0) (y + 0) f _ (omega arith) (omega arith) (omega arith) (omega arith) (omega arith) (omega arith)
      (runs_told i j l x y wi f t w (tell w told) refl refl refl refl refl refl refl refl refl R.spool R)
  runs_note i j l x y wi f t w at stamp Refuses R =
      runs_more (i + 1) j l (x + 1) y wi f t (i + 1) j (l + 0) (x + 1) (y + 1) f _ (omega arith) (omega arith) (omega arith) (omega arith) (omega arith) (omega arith)
      (runs_lost i j l x y wi f t w _ refl refl refl refl refl refl (omega arith) refl refl R)
  runs_note i j l x y wi f t w at stamp (Exits exit hook packet) R =
      runs_more (i + 1) j l (x + 1) (y + 1) wi f t (i + 1) j (l + 0) (x + 1) (y + 1) f _ (omega arith) (omega arith) (omega arith) (omega arith) (omega arith) (omega arith)
      (runs_leave i j l x y wi f t w at stamp exit hook packet R)
  runs_note i j l x y wi f t w at stamp Links R =
      runs_more i j (l + 1) x y wi f t (i + 0) j (l + 1) (x + 0) (y + 0) f _ (omega arith) (omega arith) (omega arith) (omega arith) (omega arith) (omega arith)
      (runs_same i j (l + 1) x y wi f t w _ refl refl refl refl refl (let le = R.link in omega arith) R.loss R.up R.fed R.spool
      (runs_more i j l x y wi f t i j (l + 1) x y f w (omega arith) (omega arith) (omega arith) (omega arith) (omega arith) (omega arith) R))

  -- nodes

  runs_sets : (i j l x y wi f t : ℕ) (w : World) (at : NodeId) (node now : NodeRecord) (o : Option NodeRecord) → node_at w at ≡ o → 1 + length node.hooks ≤ H → 1 + links_of node.kept ≤ H → Grows node (Sets now) → OnKind at.0 (kind_at node) w.nodes
      → Runs P H i j l x y wi f t w → Runs P H i j l x y wi f t (set_node w at now (is_some o))
  runs_sets i j l x y wi f t w at node now None is lh ll g on R = R
  runs_sets i j l x y wi f t w at node now (Some old) is lh ll g on R =
      let lt = given_number w.nodes at.0 old is in
      let here = get_here w.nodes at.0 (Some now) lt in record {
        item = R.item;
        join = R.join;
        link = R.link;
        loss = R.loss;
        up = R.up;
        wire = R.wire;
        fed = R.fed;
        tick = R.tick;
        spool = R.spool;
        settled = R.settled;
        hooks = λ n x e. ⊎_elim
            (λ (same : n ≡ at.0).
            let was : now ≡ x = same_row now x (sym here ∙ ap (get (set w.nodes at.0 (Some now))) (sym same) ∙ e) in
            let hooks = g.0.0 in let links = g.0.1 in
            subst (λ (z : NodeRecord). (length z.hooks ≤ H) × (links_of z.kept ≤ H)) was (omega arith, omega arith))
            (λ (a : n ≢ at.0). R.hooks n x (sym (get_apart w.nodes at.0 n (Some now) a) ∙ e))
            (cases_eq n at.0);
        at_ports = R.at_ports;
        ethers = λ n lt. let e = R.ethers n lt in ⊎_elim
            (λ (same : n + 2 ≡ at.0).
            let kind : kind_at now ≡ Ether = g.1 ∙ sym (on.kind e.0 (ap (get w.nodes) (sym same) ∙ e.1)) ∙ e.2 in
            let r : (node : NodeRecord) × (get (set w.nodes at.0 (Some now)) (n + 2) ≡ Some node) × (kind_at node ≡ Ether) = (now, ap (get (set w.nodes at.0 (Some now))) same ∙ here, kind) in r)
            (λ (a : n + 2 ≢ at.0). let r : (node : NodeRecord) × (get (set w.nodes at.0 (Some now)) (n + 2) ≡ Some node) × (kind_at node ≡ Ether) = (e.0, get_apart w.nodes at.0 (n + 2) (Some now) a ∙ e.1, e.2) in r)
            (cases_eq (n + 2) at.0);
      }

  runs_make : (i j l x y wi f t : ℕ) (w : World) (at : NodeId) (stamp : Stamp) (kind : Kind) (made : NodeRecord) → 1 ≤ H → (length made.hooks ≤ 1) × (links_of made.kept ≤ 1) → Runs P H i j l x y wi f t w → Runs P H i j l x y wi f t (change at stamp w (Makes kind made))
  runs_make i j l x y wi f t w at stamp kind made le g R = record {
    item = R.item;
    join = R.join;
    link = R.link;
    loss = R.loss;
    up = R.up;
    wire = R.wire;
    fed = R.fed;
    tick = R.tick;
    spool = R.spool;
    settled = R.settled;
    hooks = λ n x e. ⊎_elim
        (λ (same : n ≡ length w.nodes).
        let was : made ≡ x = same_row made x (sym (get_last w.nodes n (Some made) same) ∙ e) in
        let hooks = g.0 in let links = g.1 in
        subst (λ (z : NodeRecord). (length z.hooks ≤ H) × (links_of z.kept ≤ H)) was (omega arith, omega arith))
        (λ (a : n ≢ length w.nodes). R.hooks n x (sym (get_before w.nodes n (Some made) a) ∙ e))
        (cases_eq n (length w.nodes));
    at_ports = R.at_ports;
    ethers = λ n lt. let e = R.ethers n lt in let within = given_number w.nodes (n + 2) e.0 e.1 in (e.0, get_before w.nodes (n + 2) (Some made) (omega arith) ∙ e.1, e.2);
  }

  runs_retire : (i j l x y wi f : ℕ) (w : World) (at : NodeId) (node : NodeRecord) → (kind_at node ≡ Ether → ⊥) → OnKind at.0 (kind_at node) w.nodes → Runs P H i j l x y wi f 0 w → Runs P H i j l x y wi f 0 (retire w at)
  runs_retire i j l x y wi f w at node none on R =
      let keep = λ (p : Item). not (is_at at p) in record {
        item = R.item;
        join = let le = R.join in let fewer = fewer_times has_join keep w.pending in omega arith;
        link = R.link;
        loss = R.loss;
        up = R.up;
        wire = unfiltered has_wire keep w.pending (λ p h is. let ports = R.at_ports p h is in away p ports.0 ports.1) ∙ R.wire;
        fed = R.fed;
        tick = omega arith;
        spool = R.spool;
        settled =
            let was = R.settled in
            let parts = times_parted (λ (p : Item). true) (is_at at) w.pending in
            let gone = times_all (filter (is_at at) w.pending) in
            let left = times_all (filter keep w.pending) in
            let whole = times_all w.pending in
            let drops = drops_length NodeGone (filter (is_at at) w.pending) in
            let more = length-append w.dropped (drops_for NodeGone (filter (is_at at) w.pending)) in
            omega arith;
        hooks = λ n x e. ⊎_elim
            (λ (same : n ≡ at.0). absurd (some_none x (sym e ∙ ap (get (set w.nodes at.0 None)) same ∙ get_gone w.nodes at.0)))
            (λ (a : n ≢ at.0). R.hooks n x (sym (get_apart w.nodes at.0 n None a) ∙ e))
            (cases_eq n at.0);
        at_ports = λ p h. R.at_ports p (of_filter keep p w.pending h).0;
        ethers = λ n lt. let e = R.ethers n lt in (e.0, get_apart w.nodes at.0 (n + 2) None (λ same. apart n lt same) ∙ e.1, e.2);
      }
    where
      -- the node that goes is none of a port
      apart : (n : ℕ) → n < P → n + 2 ≢ at.0
      apart n lt same = let e = R.ethers n lt in none (sym (on.kind e.0 (ap (get w.nodes) (sym same) ∙ e.1)) ∙ e.2)

      away : (p : Item) → 2 ≤ p.to.0 → p.to.0 < 2 + P → not (is_at at p) ≡ true
      away p low high =
          let ne : p.to.0 ≢ at.0 = (λ same. let n : ℕ = p.to.0 - 2 in let back : n + 2 ≡ p.to.0 = omega arith in apart n (omega arith) (back ∙ same)) in
          ap not (ne_eqb p.to.0 at.0 ne)

  -- a change of an item at its node, and a list of them

  runs_change : (i j l x y wi f : ℕ) (at : NodeId) (stamp : Stamp) (node : NodeRecord) (w : World) (c : Change) → 1 + length node.hooks ≤ H → 1 + links_of node.kept ≤ H → Grows node c → OnKind at.0 (kind_at node) w.nodes
      → Runs P H i j l x y wi f 0 w → Runs P H (i + weight c) (j + joins c) (l + links c) (x + weight c) (y + weight c) wi f 0 (change at stamp w c)
  runs_change i j l x y wi f at stamp node w (Sets now) lh ll g on R =
      runs_more i j l x y wi f 0 (i + 0) (j + 0) (l + 0) (x + 0) (y + 0) f _ (omega arith) (omega arith) (omega arith) (omega arith) (omega arith) (omega arith) (runs_sets i j l x y wi f 0 w at node now (node_at w at) refl lh ll g on R)
  runs_change i j l x y wi f at stamp node w (Makes kind made) lh ll g on R =
      runs_more i j l x y wi f 0 (i + 0) (j + 0) (l + 0) (x + 0) (y + 0) f _ (omega arith) (omega arith) (omega arith) (omega arith) (omega arith) (omega arith) (runs_make i j l x y wi f 0 w at stamp kind made (omega arith) g R)
  runs_change i j l x y wi f at stamp node w Retires lh ll g on R =
      runs_more i j l x y wi f 0 (i + 0) (j + 0) (l + 0) (x + 0) (y + 0) f _ (omega arith) (omega arith) (omega arith) (omega arith) (omega arith) (omega arith) (runs_retire i j l x y wi f w at node g on R)
  runs_change i j l x y wi f at stamp node w (Accepts to body tag) lh ll g on R =
      runs_more (i + 1) (j + (if is_join body then 1 else 0)) l x y wi f 0 (i + 1) (j + (if is_join body then 1 else 0)) (l + 0) (x + 1) (y + 1) f _ (omega arith) (omega arith) (omega arith) (omega arith) (omega arith) (omega arith)
      (runs_accept_at i j l x y wi f 0 w to (node_at w to) body tag stamp (step_no_wire body g.0) R)
  runs_change i j l x y wi f at stamp node w (Posts hook packet) lh ll g on R =
      runs_more (i + 1) j l (x + 1) y wi f 0 (i + 1) (j + 0) (l + 0) (x + 1) (y + 1) f _ (omega arith) (omega arith) (omega arith) (omega arith) (omega arith) (omega arith) (runs_post i j l x y wi f 0 w (hook_at (node_at w at) hook) packet stamp R)
  runs_change i j l x y wi f at stamp node w (Notes n) lh ll g on R =
      runs_more (i + weight (Notes n)) j (l + links (Notes n)) (x + weight (Notes n)) (y + weight (Notes n)) wi f 0 (i + weight (Notes n)) (j + 0) (l + links (Notes n)) (x + weight (Notes n)) (y + weight (Notes n)) f _ (omega arith) (omega arith) (omega arith) (omega arith) (omega arith) (omega arith)
      (runs_note i j l x y wi f 0 w at stamp n R)

  on_grown : (at : NodeId) (stamp : Stamp) (node : NodeRecord) (w : World) (c : Change) → Grows node c → OnKind at.0 (kind_at node) w.nodes → OnKind at.0 (kind_at node) (change at stamp w c).nodes
  on_grown at stamp node w (Sets now) g on = by (is_there w at)
    where
      by : (b : Bool) → OnKind at.0 (kind_at node) (set_node w at now b).nodes
      by true = on_set at.0 (kind_at node) w.nodes now g.1 on
      by false = on
  on_grown at stamp node w (Makes kind made) g on = on_make at.0 (kind_at node) w.nodes made on
  on_grown at stamp node w Retires g on = on_retire at.0 (kind_at node) w.nodes on
  on_grown at stamp node w (Accepts to body tag) g on = subst (OnKind at.0 (kind_at node)) (sym (nodes_quietly (accepts_quietly at stamp w to body tag))) on
  on_grown at stamp node w (Posts hook packet) g on = subst (OnKind at.0 (kind_at node)) (sym (nodes_quietly (posts_quietly at stamp w hook packet))) on
  on_grown at stamp node w (Notes x) g on = subst (OnKind at.0 (kind_at node)) (sym (nodes_quietly (notes_quietly at stamp w x))) on

  runs_all : (i j l x y wi f : ℕ) (at : NodeId) (stamp : Stamp) (node : NodeRecord) (w : World) (cs : List Change) → 1 + length node.hooks ≤ H → 1 + links_of node.kept ≤ H → Every (Grows node) cs → OnKind at.0 (kind_at node) w.nodes
      → Runs P H i j l x y wi f 0 w → Runs P H (i + total weight cs) (j + total joins cs) (l + total links cs) (x + total weight cs) (y + total weight cs) wi f 0 (change_all at stamp w cs)
  runs_all i j l x y wi f at stamp node w [] lh ll g on R = runs_more i j l x y wi f 0 (i + 0) (j + 0) (l + 0) (x + 0) (y + 0) f w (omega arith) (omega arith) (omega arith) (omega arith) (omega arith) (omega arith) R
  runs_all i j l x y wi f at stamp node w (c ∷ cs) lh ll g on R =
      runs_more (i + weight c + total weight cs) (j + joins c + total joins cs) (l + links c + total links cs) (x + weight c + total weight cs) (y + weight c + total weight cs) wi f 0
      (i + total weight (c ∷ cs)) (j + total joins (c ∷ cs)) (l + total links (c ∷ cs)) (x + total weight (c ∷ cs)) (y + total weight (c ∷ cs)) f _ (omega arith) (omega arith) (omega arith) (omega arith) (omega arith) (omega arith)
      (runs_all (i + weight c) (j + joins c) (l + links c) (x + weight c) (y + weight c) wi f at stamp node (change at stamp w c) cs lh ll g.1 (on_grown at stamp node w c g.0 on) (runs_change i j l x y wi f at stamp node w c lh ll g.0 on R))

-- A world between two events: its numbers by the items applied, the commands fed, and what waits. So many nodes there are at
-- most, and so much an item's changes bring at most.

abbrev most_nodes : ℕ
most_nodes = 10000066

abbrev most_brought : ℕ
most_brought = 30000068

abbrev items_bound : ℕ → World → ℕ
items_bound C w = 1 + C + (w.applies + waiting_tick w) * most_nodes + w.applies * (1 + most_brought) + wires w

record Sizes (P C : ℕ) (w : World) : Type 0 where
  ports : P ≤ 64
  nodes : length w.nodes ≤ 2 + P + w.applies
  window : wires w ≤ 1024
  runs : Runs P w.applies (1 + C + (w.applies + waiting_tick w) * most_nodes + w.applies * (1 + most_brought) + wires w) w.applies (1 + w.applies) (w.applies * most_brought) (w.applies * most_brought)
      (wires w) (w.applies + wires w) 0 w

-- An item is taken out

only_one : (w : World) (p : Item) → Counts w → Has p w.pending → times (has_id p.id) w.pending ≡ 1
only_one w p C h = let some = has_count p w.pending h in let all = C.all p.id in at (nat_le 1 p.id.0 && nat_lt p.id.0 w.next_item) all
  where
    at : (b : Bool) → times (λ (x : ItemId). x.0 == p.id.0) w.done + (times (λ (x : ItemId × Cause). x.0.0 == p.id.0) w.dropped + times (has_id p.id) w.pending) ≡ (if b then 1 else 0) → times (has_id p.id) w.pending ≡ 1
    at true e = let some = has_count p w.pending h in omega arith
    at false e = let some = has_count p w.pending h in absurd (omega arith)

-- of what passes a test one at most goes with it
one_gone : (test : Item → Bool) (p : Item) (ps : List Item) → times (has_id p.id) ps ≡ 1 → times test ps ≤ times test (filter (λ q. not (has_id p.id q)) ps) + 1
one_gone test p ps one =
    let parts = times_parted test (has_id p.id) ps in
    let few = tests_le test (filter (has_id p.id) ps) in
    let same = kept_times (has_id p.id) ps in
    omega arith

length_gone : (p : Item) (ps : List Item) → times (has_id p.id) ps ≡ 1 → length (filter (λ q. not (has_id p.id q)) ps) + 1 ≡ length ps
length_gone p ps one =
    let parts = times_parted (λ (q : Item). true) (has_id p.id) ps in
    let gone = times_all (filter (has_id p.id) ps) in
    let left = times_all (filter (λ q. not (has_id p.id q)) ps) in
    let whole = times_all ps in
    let same = kept_times (has_id p.id) ps in
    omega arith

-- the world with the item gone, and one more done or dropped
taken_out : (P H i j l x y f : ℕ) (w v : World) (p : Item) → Counts w → Has p w.pending → v.nodes ≡ w.nodes → v.pending ≡ filter (λ q. not (has_id p.id q)) w.pending → length v.done + length v.dropped ≡ length w.done + length w.dropped + 1 → v.next_item ≡ w.next_item
    → v.next_link ≡ w.next_link → v.lost ≡ w.lost → v.refused ≡ w.refused → v.ports ≡ w.ports → v.spool ≡ w.spool → Runs P H i j l x y (wires w) f 0 w → Runs P H i j l x y (wires v) f 0 v
taken_out P H i j l x y f w v p C hp nodes pending over next link lost refused ports spool R =
    let one = only_one w p C hp in
    let less = length_gone p w.pending one in record {
      item = let le = R.item in omega arith;
      join = let le = R.join in let fewer = fewer_times has_join (λ q. not (has_id p.id q)) w.pending in subst (λ (ps : List Item). times has_join ps ≤ j) (sym pending) (omega arith);
      link = let le = R.link in omega arith;
      loss = subst (λ (n : ℕ). n ≤ x) (sym (ap (λ (q : Lost). q.no_peer + (q.node_gone + (q.full + (q.spool + v.refused)))) lost ∙ ap (λ (n : ℕ). w.lost.no_peer + (w.lost.node_gone + (w.lost.full + (w.lost.spool + n)))) refused)) R.loss;
      up = let le = R.up in let same = ap (port_sum (λ (port : Port). port.up)) ports in omega arith;
      wire = refl;
      fed = let le = R.fed in let same = ap (port_sum (λ (port : Port). port.fed)) ports in omega arith;
      tick = omega arith;
      spool = let le = R.spool in omega arith;
      settled = let was = R.settled in let same = ap length pending in omega arith;
      hooks = λ n node is. R.hooks n node (ap (λ (ns : List (Option NodeRecord)). get ns n) (sym nodes) ∙ is);
      at_ports = λ q h. R.at_ports q (of_filter (λ z. not (has_id p.id z)) q w.pending (subst (λ (ps : List Item). Has q ps) pending h)).0;
      ethers = λ n lt. let e = R.ethers n lt in (e.0, ap (λ (ns : List (Option NodeRecord)). get ns (n + 2)) nodes ∙ e.1, e.2);
    }

raised : (P H K i j l x y wi f t : ℕ) (w : World) → H ≤ K → Runs P H i j l x y wi f t w → Runs P K i j l x y wi f t w
raised P H K i j l x y wi f t w le R = record {
  item = R.item;
  join = R.join;
  link = R.link;
  loss = R.loss;
  up = R.up;
  wire = R.wire;
  fed = R.fed;
  tick = R.tick;
  spool = R.spool;
  settled = R.settled;
  hooks = λ n node is. let h = R.hooks n node is in let a = h.0 in let b = h.1 in (omega arith, omega arith);
  at_ports = R.at_ports;
  ethers = R.ethers;
}

-- An item is applied

tick_le : (w : World) → waiting_tick w ≤ 1
tick_le w = by (list_any has_tick w.pending)
  where
    by : (b : Bool) → (if b then 1 else 0) ≤ 1
    by true = omega arith
    by false = omega arith

sized_applied : (P C : ℕ) (w : World) (taken : List Taken) (p : Item) → SoundAt w taken → Has p w.pending → PacketFits p.body → Counts w → w.applies + 1 ≤ most_budget → Sizes P C w → Sizes P C (apply_item w p)
sized_applied P C w taken p S hp fits counts few Z = by (is_hook_gone (node_at w p.to) p.body)
  where
    a : ℕ
    a = w.applies

    i : ℕ
    i = 1 + C + (w.applies + waiting_tick w) * most_nodes + w.applies * (1 + most_brought) + wires w

    wires_gone : (v : World) → v.pending ≡ filter (λ q. not (has_id p.id q)) w.pending → wires w ≤ wires v + 1
    wires_gone v e = subst (λ (ps : List Item). wires w ≤ times has_wire ps + 1) (sym e) (one_gone has_wire p w.pending (only_one w p counts hp))

    wires_fewer : (v : World) → v.pending ≡ filter (λ q. not (has_id p.id q)) w.pending → wires v ≤ wires w
    wires_fewer v e = subst (λ (ps : List Item). times has_wire ps ≤ wires w) (sym e) (fewer_times has_wire (λ q. not (has_id p.id q)) w.pending)

    out : (v : World) → v.nodes ≡ w.nodes → v.pending ≡ filter (λ q. not (has_id p.id q)) w.pending → length v.done + length v.dropped ≡ length w.done + length w.dropped + 1 → v.next_item ≡ w.next_item
        → v.next_link ≡ w.next_link → v.lost ≡ w.lost → v.refused ≡ w.refused → v.ports ≡ w.ports → v.spool ≡ w.spool
        → Runs P (w.applies + 1) (1 + C + (w.applies + waiting_tick w) * most_nodes + w.applies * (1 + most_brought) + wires w) w.applies (1 + w.applies) (w.applies * most_brought) (w.applies * most_brought) (wires v) (w.applies + wires w) 0 v
    out v nodes pending over next link lost refused ports spool =
        raised P w.applies (w.applies + 1) _ _ _ _ _ _ _ 0 v (omega arith) (taken_out P w.applies _ _ _ _ _ _ w v p counts hp nodes pending over next link lost refused ports spool Z.runs)

    gone : World
    gone = drop_hook_gone (take_out w p.id) p.id

    v : World
    v = finish (take_out w p.id) p.id

    at : (o : Option NodeRecord) → node_at w p.to ≡ o → Sizes P C (change_all p.to p.stamp v (effect v p o))
    at None e = let t = S.there p hp in absurd (some_none t.0 (sym t.1 ∙ e))
    at (Some node) e =
        let cs = effect_at v p node p.body in
        let u = change_all p.to p.stamp v cs in
        let one_more = length-append w.done (p.id ∷ []) in
        let R = out v refl refl (omega arith) refl refl refl refl refl refl in
        let few_hooks = Z.runs.hooks p.to.0 node e in
        let lh = few_hooks.0 in
        let ll = few_hooks.1 in
        let K = cost_effect v p node p.body fits in
        let kw = K.weight_is in
        let kj = K.joins_is in
        let kl = K.links_is in
        let km = K.makes_is in
        let waiting = R.join in
        let on : OnKind p.to.0 (kind_at node) v.nodes = record { within = given_number w.nodes p.to.0 node e; kind = λ r h. ap kind_at (same_row r node (sym h ∙ e)) } in
        let T = runs_all P (w.applies + 1) _ _ _ _ _ _ _ p.to p.stamp node v cs (omega arith) (omega arith) (grows_effect v p node p.body) on R in
        let same : u.applies ≡ w.applies + 1 = all_applies p.to p.stamp v cs in
        let grown = grown_all p.to p.stamp v cs in
        let size = Z.nodes in
        let wire : wires u ≡ wires v = T.wire in
        let fewer = wires_fewer v refl in
        let enough = wires_gone v refl in
        let window = Z.window in
        let tick = tick_le w in
        let ports = Z.ports in
        let brought : total weight cs ≤ most_brought = omega arith in record {
          ports = Z.ports;
          nodes = omega arith;
          window = omega arith;
          runs = subst (λ (h : ℕ). Runs P h (1 + C + (h + waiting_tick u) * most_nodes + h * (1 + most_brought) + wires u) h (1 + h) (h * most_brought) (h * most_brought) (wires u) (h + wires u) 0 u) (sym same)
              (subst (λ (n : ℕ). Runs P (w.applies + 1) (1 + C + (w.applies + 1 + waiting_tick u) * most_nodes + (w.applies + 1) * (1 + most_brought) + wires u) (w.applies + 1) (1 + (w.applies + 1)) ((w.applies + 1) * most_brought) ((w.applies + 1) * most_brought) n (w.applies + 1 + wires u) 0 u) (sym wire)
              (runs_more P (w.applies + 1) _ _ _ _ _ _ _ 0 _ _ _ _ _ _ u (omega arith) (omega arith) (omega arith) (omega arith) (omega arith) (omega arith) T));
        }

    by : (b : Bool) → Sizes P C (apply_if (take_out w p.id) p b)
    by true =
        let one_more = length-append w.dropped ((p.id, HookGone) ∷ []) in
        let R = out gone refl refl (omega arith) refl refl refl refl refl refl in
        let fewer = wires_fewer gone refl in
        let enough = wires_gone gone refl in
        let window = Z.window in
        let size = Z.nodes in
        let tick = tick_le w in record {
          ports = Z.ports;
          nodes = omega arith;
          window = omega arith;
          runs = runs_more P (w.applies + 1) _ _ _ _ _ _ _ 0 _ _ _ _ _ _ gone (omega arith) (omega arith) (omega arith) (omega arith) (omega arith) (omega arith) R;
        }
    by false = at (node_at w p.to) refl

-- Inputs

module _ (P H : ℕ) where
  -- an item that is neither a packet by the wire nor a join
  runs_plain : (i j l x y wi f t : ℕ) (w : World) (to : NodeId) (o : Option NodeRecord) (body : Body) (tag : Option ℕ) (stamp : Stamp) → is_wire body ≡ false → is_join body ≡ false
      → Runs P H i j l x y wi f t w → Runs P H (i + 1) j l x y wi f t (accept_at w to o body tag stamp)
  runs_plain i j l x y wi f t w to o body tag stamp wire join R =
      runs_more P H (i + 1) (j + 0) l x y wi f t (i + 1) j l x y f _ (omega arith) (omega arith) (omega arith) (omega arith) (omega arith) (omega arith)
      (subst (λ (b : Bool). Runs P H (i + 1) (j + (if b then 1 else 0)) l x y wi f t (accept_at w to o body tag stamp)) join (runs_accept_at P H i j l x y wi f t w to o body tag stamp wire R))

  runs_tell : (i j l x y wi f t : ℕ) (w v : World) → v.nodes ≡ w.nodes → v.pending ≡ w.pending → v.done ≡ w.done → v.dropped ≡ w.dropped → v.next_item ≡ w.next_item → v.next_link ≡ w.next_link → v.lost ≡ w.lost → v.refused ≡ w.refused → v.ports ≡ w.ports → v.spool ≡ w.spool
      → Runs P H i j l x y wi f t w → Runs P H (i + 1) j l x y wi f t v
  runs_tell i j l x y wi f t w v nodes pending done dropped next link lost refused ports spool R =
      runs_more P H i j l x y wi f t (i + 1) j l x y f v (omega arith) (omega arith) (omega arith) (omega arith) (omega arith) (omega arith) (runs_told P H i j l x y wi f t w v nodes pending done dropped next link lost refused ports (let le = R.spool in omega arith) R)

  runs_request : (i j l x y wi f t : ℕ) (given : RunInput) (w : World) (command : ℕ) {r : Request} {v : World} → Requested given w command r v → Runs P H i j l x y wi f t w → Runs P H (i + 1) j l x y wi f t v
  runs_request i j l x y wi f t given w command Ends R = runs_more P H i j l x y wi f t (i + 1) j l x y f w (omega arith) (omega arith) (omega arith) (omega arith) (omega arith) (omega arith) R
  runs_request i j l x y wi f t given w command (ByOrder path name args number to o there) R = runs_plain i j l x y wi f t w to o _ _ _ refl refl R
  runs_request i j l x y wi f t given w command (ByName path name text args cookie number to node there reads) R = runs_plain i j l x y wi f t w to (Some node) _ _ _ refl refl R
  runs_request i j l x y wi f t given w command (Sends name bytes hook node there) R = runs_plain i j l x y wi f t w hook.peer.node (Some node) (arrival hook bytes) None w.clock refl refl R
  runs_request i j l x y wi f t given w command _ R = runs_tell i j l x y wi f t w _ refl refl refl refl refl refl refl refl refl refl R

  runs_line : (i j l x y wi f t : ℕ) (given : RunInput) (w : World) (line : CommandLine) → Runs P H i j l x y wi f t w → Runs P H (i + 1) j l x y wi f t (feed_command given w line)
  runs_line i j l x y wi f t given w line R =
      runs_request i j l x y wi f t given (begin_command w line.number) line.number (requested given (begin_command w line.number) line.number (request_of line.what))
      (runs_told P H i j l x y wi f t w (begin_command w line.number) refl refl refl refl refl refl refl refl refl R.spool R)

  -- ticks: one for each node at most, and where any came one waits
  runs_tick : (i j l x y wi f t : ℕ) (w : World) (seconds n : ℕ) (b : Bool) → Runs P H i j l x y wi f t w → Runs P H (i + 1) j l x y wi f t (feed_tick w seconds n b)
  runs_tick i j l x y wi f t w seconds n false R = runs_more P H i j l x y wi f t (i + 1) j l x y f w (omega arith) (omega arith) (omega arith) (omega arith) (omega arith) (omega arith) R
  runs_tick i j l x y wi f t w seconds n true R = runs_plain i j l x y wi f t w (node_id n) (node_at w (node_id n)) _ None w.clock refl refl R

  runs_ticks : (i j l x y wi f t : ℕ) (w : World) (seconds n : ℕ) (nodes : List (Option NodeRecord)) → Runs P H i j l x y wi f t w → Runs P H (i + length nodes) j l x y wi f t (feed_ticks w seconds n nodes)
  runs_ticks i j l x y wi f t w seconds n [] R = runs_more P H i j l x y wi f t (i + 0) j l x y f w (omega arith) (omega arith) (omega arith) (omega arith) (omega arith) (omega arith) R
  runs_ticks i j l x y wi f t w seconds n (node ∷ nodes) R =
      runs_more P H (i + 1 + length nodes) j l x y wi f t (i + length (node ∷ nodes)) j l x y f _ (omega arith) (omega arith) (omega arith) (omega arith) (omega arith) (omega arith)
      (runs_ticks (i + 1) j l x y wi f t (feed_tick w seconds n (is_bridge node)) seconds (n + 1) nodes (runs_tick i j l x y wi f t w seconds n (is_bridge node) R))

  -- a packet comes by the wire of a port
  runs_wired : (i j l x y wi f t : ℕ) (w : World) (to : NodeId) (kind : Kind) (packet : List ℕ) (stamp : Stamp) → 2 ≤ to.0 → to.0 < 2 + P
      → Runs P H i j l x y wi f t w → Runs P H (i + 1) j l x y (wi + 1) f t (accept w to kind (Frame Wire None packet) None stamp)
  runs_wired i j l x y wi f t w to kind packet stamp low high R =
      let z : Item = record { id = record { 0 = w.next_item }; to = to; body = Frame Wire None packet; writer = is_writer kind (Frame Wire None packet); tag = None; stamp = stamp } in record {
        item = let le = R.item in omega arith;
        join = let le = R.join in let push = times-append has_join w.pending (z ∷ []) in omega arith;
        link = R.link;
        loss = R.loss;
        up = R.up;
        wire = let e = R.wire in let push = times-append has_wire w.pending (z ∷ []) in omega arith;
        fed = R.fed;
        tick = let le = R.tick in let push = any_push has_tick w.pending z in omega arith;
        spool = R.spool;
        settled = let was = R.settled in let push = length-append w.pending (z ∷ []) in omega arith;
        hooks = R.hooks;
        at_ports = λ p h is. ⊎_elim (λ (k : Has p w.pending). R.at_ports p k is) (λ (e : p ≡ z). subst (λ (q : Item). (2 ≤ q.to.0) × (q.to.0 < 2 + P)) (sym e) (low, high)) (in_pushed p z w.pending h);
        ethers = R.ethers;
      }

tick_push : (w : World) (to : NodeId) (o : Option NodeRecord) (body : Body) (tag : Option ℕ) (stamp : Stamp) → waiting_tick w ≤ waiting_tick (accept_at w to o body tag stamp)
tick_push w to None body tag stamp = omega arith
tick_push w to (Some node) body tag stamp = any_push has_tick w.pending _

tick_stays : (w : World) (seconds n : ℕ) (nodes : List (Option NodeRecord)) → waiting_tick w ≤ waiting_tick (feed_ticks w seconds n nodes)
tick_stays w seconds n [] = omega arith
tick_stays w seconds n (node ∷ nodes) = let first = at (is_bridge node) in let rest = tick_stays (feed_tick w seconds n (is_bridge node)) seconds (n + 1) nodes in omega arith
  where
    at : (b : Bool) → waiting_tick w ≤ waiting_tick (feed_tick w seconds n b)
    at true = tick_push w (node_id n) (node_at w (node_id n)) _ None w.clock
    at false = omega arith

-- a tick at the end of what waits is one that waits
any_last : {A : Type 0} (test : A → Bool) (xs : List A) (x : A) → test x ≡ true → list_any test (xs ++ x ∷ []) ≡ true
any_last test [] x is = ap (λ (b : Bool). b || false) is
any_last {A = A} test (y ∷ ys) x is = by (test y) (any_last test ys x is)
  where
    by : (b : Bool) → list_any test (ys ++ x ∷ []) ≡ true → (b || list_any test (ys ++ x ∷ [])) ≡ true
    by true e = refl
    by false e = e

abbrev Ticked : World → World → Type 0
Ticked w v = (v.next_item ≡ w.next_item) ⊎ (1 ≤ waiting_tick v)

ticked_by : (w : World) (seconds n : ℕ) (b : Bool) (o : Option NodeRecord) → node_at w (node_id n) ≡ o → Ticked w (feed_tick w seconds n b)
ticked_by w seconds n false o e = inl refl
ticked_by w seconds n true None e = inl (ap (λ (x : Option NodeRecord). (accept_at w (node_id n) x (Tick seconds) None w.clock).next_item) e)
ticked_by w seconds n true (Some node) e =
    let v = accept_at w (node_id n) (node_at w (node_id n)) (Tick seconds) None w.clock in
    let same : v ≡ accept w (node_id n) (kind_at node) (Tick seconds) None w.clock = ap (λ (x : Option NodeRecord). accept_at w (node_id n) x (Tick seconds) None w.clock) e in
    let waits : waiting_tick (accept w (node_id n) (kind_at node) (Tick seconds) None w.clock) ≡ 1 = ap (λ (b : Bool). if b then 1 else 0) (any_last has_tick w.pending _ refl) in
    let there : waiting_tick v ≡ 1 = ap waiting_tick same ∙ waits in
    let r : Ticked w v = inr (omega arith) in r

ticked : (w : World) (seconds n : ℕ) (nodes : List (Option NodeRecord)) → Ticked w (feed_ticks w seconds n nodes)
ticked w seconds n [] = inl refl
ticked w seconds n (node ∷ nodes) =
    let v = feed_tick w seconds n (is_bridge node) in
    ⊎_elim
    (λ (same : v.next_item ≡ w.next_item). ⊎_elim
    (λ (again : (feed_ticks v seconds (n + 1) nodes).next_item ≡ v.next_item). let r : Ticked w (feed_ticks v seconds (n + 1) nodes) = inl (again ∙ same) in r)
    (λ (waits : 1 ≤ waiting_tick (feed_ticks v seconds (n + 1) nodes)). let r : Ticked w (feed_ticks v seconds (n + 1) nodes) = inr waits in r)
    (ticked v seconds (n + 1) nodes))
    (λ (waits : 1 ≤ waiting_tick v). let stays = tick_stays v seconds (n + 1) nodes in let r : Ticked w (feed_ticks v seconds (n + 1) nodes) = inr (omega arith) in r)
    (ticked_by w seconds n (is_bridge node) (node_at w (node_id n)) refl)

-- the same bounds, where a tick that waits is known of
with_tick : (P H i j l x y wi f : ℕ) (w : World) → Runs P H i j l x y wi f 0 w → Runs P H i j l x y wi f (waiting_tick w) w
with_tick P H i j l x y wi f w R = record {
  item = R.item;
  join = R.join;
  link = R.link;
  loss = R.loss;
  up = R.up;
  wire = R.wire;
  fed = R.fed;
  tick = omega arith;
  spool = R.spool;
  settled = R.settled;
  hooks = R.hooks;
  at_ports = R.at_ports;
  ethers = R.ethers;
}

-- with other bounds of numbers and of what was fed, and no tick known of
with_bounds : (P H i j l x y wi f t a g : ℕ) (w : World) → w.next_item ≤ a → f ≤ g → Runs P H i j l x y wi f t w → Runs P H a j l x y wi g 0 w
with_bounds P H i j l x y wi f t a g w item fed R = record {
  item = item;
  join = R.join;
  link = R.link;
  loss = R.loss;
  up = R.up;
  wire = R.wire;
  fed = let le = R.fed in omega arith;
  tick = omega arith;
  spool = R.spool;
  settled = R.settled;
  hooks = R.hooks;
  at_ports = R.at_ports;
  ethers = R.ethers;
}

abbrev one_if : Bool → ℕ
one_if b = if b then 1 else 0

-- a world of these bounds after an input that leaves nodes and the count of applied items
resized : (P C : ℕ) (w v : World) (f t : ℕ) → v.nodes ≡ w.nodes → v.applies ≡ w.applies → P ≤ 64 → length w.nodes ≤ 2 + P + w.applies → wires v ≤ 1024 → f ≤ w.applies + wires v
    → (i : ℕ) → v.next_item ≤ 1 + C + (w.applies + waiting_tick v) * most_nodes + w.applies * (1 + most_brought) + wires v
    → Runs P w.applies i w.applies (1 + w.applies) (w.applies * most_brought) (w.applies * most_brought) (wires v) f t v → Sizes P C v
resized P C w v f t nodes applies ports size window fed i item R = record {
  ports = ports;
  nodes = let same = ap length nodes in omega arith;
  window = window;
  runs = subst (λ (h : ℕ). Runs P h (1 + C + (h + waiting_tick v) * most_nodes + h * (1 + most_brought) + wires v) h (1 + h) (h * most_brought) (h * most_brought) (wires v) (h + wires v) 0 v) (sym applies)
      (with_bounds P w.applies i w.applies (1 + w.applies) (w.applies * most_brought) (w.applies * most_brought) (wires v) f t _ (w.applies + wires v) v item fed R);
}

sized_line : (P C : ℕ) (given : RunInput) (w : World) (line : CommandLine) → Sizes P C w → Sizes P (C + 1) (feed_command given w line)
sized_line P C given w line Z =
    let v = feed_command given w line in
    let R = runs_line P w.applies (items_bound C w) w.applies (1 + w.applies) (w.applies * most_brought) (w.applies * most_brought) (wires w) (w.applies + wires w) (waiting_tick w) given w line (with_tick P w.applies _ _ _ _ _ _ _ w Z.runs) in
    let quiet = input_quietly given w (Command line) in
    let wire : wires v ≡ wires w = R.wire in
    let tick = R.tick in
    let item = R.item in
    let window = Z.window in
    resized P (C + 1) w v (w.applies + wires w) (waiting_tick w) (nodes_quietly quiet) (applies_quietly quiet) Z.ports Z.nodes (omega arith) (omega arith) (items_bound C w + 1) (omega arith)
    (subst (λ (n : ℕ). Runs P w.applies (items_bound C w + 1) w.applies (1 + w.applies) (w.applies * most_brought) (w.applies * most_brought) n (w.applies + wires w) (waiting_tick w) v) (sym wire) R)

-- fewer packets wait by the wire than wait at all
wires_frames : (w : World) → wires w ≤ frames w
wires_frames w = times_imply has_wire has_frame (λ p is. wire_is_frame p.body is) w.pending

fed_wired : (P H i j l x y wi f t : ℕ) (w : World) (port : ℕ) (stamp : Stamp) (packet : List ℕ) (o : Option NodeRecord) → port < P → node_at w (port_node port) ≡ o → (node : NodeRecord) → o ≡ Some node
    → Runs P H i j l x y wi f t w → Runs P H (i + 1) j l x y (wi + 1) f t (accept_at w (port_node port) o (Frame Wire None packet) None stamp)
fed_wired P H i j l x y wi f t w port stamp packet None lt is node e R = absurd (some_none node (sym e))
fed_wired P H i j l x y wi f t w port stamp packet (Some at) lt is node e R = runs_wired P H i j l x y wi f t w (port_node port) (kind_at at) packet stamp (omega arith) (omega arith) R

sized_packet : (P C : ℕ) (given : RunInput) (w : World) (port : ℕ) (stamp : Stamp) (packet : List ℕ) → port < P → frames w < 1024 → Sizes P C w → Sizes P C (feed_input given w (Packet port stamp packet))
sized_packet P C given w port stamp packet lt room Z =
    let u = arrive w port stamp in
    let v = feed_input given w (Packet port stamp packet) in
    let R = with_tick P w.applies _ _ _ _ _ _ _ w Z.runs in
    let was = port_at w port in
    let now : Port = record was { fed = was.fed + 1 } in
    let there = R.ethers port lt in
    let T = runs_same P w.applies (items_bound C w) w.applies (1 + w.applies) (w.applies * most_brought) (w.applies * most_brought) (wires w) (w.applies + wires w + 1) (waiting_tick w) w u refl refl refl refl refl R.link R.loss
    (let le = R.up in let more = sum_set (λ (p : Port). p.up) w.ports port 0 now (omega arith) in omega arith)
    (let le = R.fed in let more = sum_set (λ (p : Port). p.fed) w.ports port 1 now (omega arith) in omega arith)
    R.spool (runs_more P w.applies (items_bound C w) w.applies (1 + w.applies) (w.applies * most_brought) (w.applies * most_brought) (wires w) (w.applies + wires w) (waiting_tick w) (items_bound C w) w.applies (1 + w.applies) (w.applies * most_brought) (w.applies * most_brought) (w.applies + wires w + 1) w
    (omega arith) (omega arith) (omega arith) (omega arith) (omega arith) (omega arith) R) in
    let V = fed_wired P w.applies (items_bound C w) w.applies (1 + w.applies) (w.applies * most_brought) (w.applies * most_brought) (wires w) (w.applies + wires w + 1) (waiting_tick w) u port stamp packet (node_at u (port_node port)) lt refl there.0 there.1 T in
    let quiet = input_quietly given w (Packet port stamp packet) in
    let wire : wires v ≡ wires w + 1 = V.wire in
    let tick = V.tick in
    let item = V.item in
    let fewer = wires_frames w in
    resized P C w v (w.applies + wires w + 1) (waiting_tick w) (nodes_quietly quiet) (applies_quietly quiet) Z.ports Z.nodes (omega arith) (omega arith) (items_bound C w + 1) (omega arith)
    (subst (λ (n : ℕ). Runs P w.applies (items_bound C w + 1) w.applies (1 + w.applies) (w.applies * most_brought) (w.applies * most_brought) n (w.applies + wires w + 1) (waiting_tick w) v) (sym wire) V)

no_tick : (items : List Item) → ((p : Item) → Has p items → has_tick p ≡ false) → list_any has_tick items ≡ false
no_tick [] f = refl
no_tick (p ∷ items) f = by (has_tick p) (f p (inl refl)) (no_tick items (λ q h. f q (inr h)))
  where
    by : (b : Bool) → b ≡ false → list_any has_tick items ≡ false → (b || list_any has_tick items) ≡ false
    by true is rest = absurd (true≢false is)
    by false is rest = rest

sized_ticks : (P C : ℕ) (given : RunInput) (w : World) (seconds : ℕ) → HasNoTick w → w.applies ≤ most_budget → Sizes P C w → Sizes P C (feed_input given w (Ticks seconds))
sized_ticks P C given w seconds none few Z =
    let v = feed_ticks w seconds 0 w.nodes in
    let R = runs_ticks P w.applies (items_bound C w) w.applies (1 + w.applies) (w.applies * most_brought) (w.applies * most_brought) (wires w) (w.applies + wires w) 0 w seconds 0 w.nodes Z.runs in
    let before = Z.runs.item in
    let quiet = input_quietly given w (Ticks seconds) in
    let wire : wires v ≡ wires w = R.wire in
    let item = R.item in
    let window = Z.window in
    let size = Z.nodes in
    let ports = Z.ports in
    let idle : waiting_tick w ≡ 0 = ap one_if (no_tick w.pending none) in
    let bound : v.next_item ≤ 1 + C + (w.applies + waiting_tick v) * most_nodes + w.applies * (1 + most_brought) + wires v =
    (⊎_elim (λ (same : v.next_item ≡ w.next_item). omega arith) (λ (waits : 1 ≤ waiting_tick v). omega arith) (ticked w seconds 0 w.nodes)) in
    resized P C w v (w.applies + wires w) 0 (nodes_quietly quiet) (applies_quietly quiet) Z.ports Z.nodes (omega arith) (omega arith) (items_bound C w + length w.nodes) bound
    (subst (λ (n : ℕ). Runs P w.applies (items_bound C w + length w.nodes) w.applies (1 + w.applies) (w.applies * most_brought) (w.applies * most_brought) n (w.applies + wires w) 0 v) (sym wire) R)

-- Events

-- how many commands are among the inputs that were fed
abbrev lines_fed : RunInput → World → ℕ
lines_fed given w = times is_command (take w.fed given.inputs)

take_more : {A : Type 0} (test : A → Bool) (xs : List A) (n : ℕ) (x : A) → slice_get xs n ≡ Some x → times test (take (n + 1) xs) ≡ times test (take n xs) + one_if (test x)
take_more test [] n x e = absurd (cc e)
take_more test (y ∷ ys) zero x e = let same : y ≡ x = cc e in subst (λ (z : _). times test (take 1 (y ∷ ys)) ≡ 0 + one_if (test z)) same (omega arith)
take_more test (y ∷ ys) (suc n) x e =
    let more = take_more test ys n x e in
    let count : suc n + 1 ≡ suc (n + 1) = omega arith in
    ap (λ (m : ℕ). times test (take m (y ∷ ys))) count ∙ ap (λ (m : ℕ). one_if (test y) + m) more ∙ (omega arith)

take_fewer : {A : Type 0} (test : A → Bool) (n : ℕ) (xs : List A) → times test (take n xs) ≤ times test xs
take_fewer test zero xs = omega arith
take_fewer test (suc n) [] = omega arith
take_fewer test (suc n) (x ∷ xs) = let more = take_fewer test n xs in omega arith

sized_more : (P C D : ℕ) (w : World) → C ≤ D → Sizes P C w → Sizes P D w
sized_more P C D w le Z = record {
  ports = Z.ports;
  nodes = Z.nodes;
  window = Z.window;
  runs = runs_more P w.applies (items_bound C w) w.applies (1 + w.applies) (w.applies * most_brought) (w.applies * most_brought) (wires w) (w.applies + wires w) 0
      (items_bound D w) w.applies (1 + w.applies) (w.applies * most_brought) (w.applies * most_brought) (w.applies + wires w) w (omega arith) (omega arith) (omega arith) (omega arith) (omega arith) (omega arith) Z.runs;
}

-- the count of inputs fed is no part of the bounds
sized_counted : (P C n : ℕ) (w : World) → Sizes P C w → Sizes P C (record w { fed = n })
sized_counted P C n w Z = record {
  ports = Z.ports;
  nodes = Z.nodes;
  window = Z.window;
  runs = let R = Z.runs in record {
    item = R.item;
    join = R.join;
    link = R.link;
    loss = R.loss;
    up = R.up;
    wire = R.wire;
    fed = R.fed;
    tick = R.tick;
    spool = R.spool;
    settled = R.settled;
    hooks = R.hooks;
    at_ports = R.at_ports;
    ethers = R.ethers;
  };
}

sized_input : (P C : ℕ) (given : RunInput) (w : World) (input : Input) → FitsInput P input → MayFeedInput w input → w.applies ≤ most_budget → Sizes P C w → Sizes P (C + one_if (is_command input)) (feed_input given (record w { fed = w.fed + 1 }) input)
sized_input P C given w (Command line) fits may few Z = sized_line P C given (record w { fed = w.fed + 1 }) line (sized_counted P C (w.fed + 1) w Z)
sized_input P C given w (Late line) fits may few Z =
    let u : World = record w { fed = w.fed + 1 } in
    let v = feed_command given u line in
    let A = sized_line P C given u line (sized_counted P C (w.fed + 1) w Z) in A
sized_input P C given w (Packet port stamp packet) fits may few Z =
    sized_more P C (C + 0) _ (omega arith) (sized_packet P C given (record w { fed = w.fed + 1 }) port stamp packet fits.0 may (sized_counted P C (w.fed + 1) w Z))
sized_input P C given w (Ticks seconds) fits may few Z =
    sized_more P C (C + 0) _ (omega arith) (sized_ticks P C given (record w { fed = w.fed + 1 }) seconds may.1 few (sized_counted P C (w.fed + 1) w Z))

low_of : (P C : ℕ) (w : World) → C ≤ most_commands → w.applies ≤ most_budget → Sizes P C w → IsLow w
low_of P C w commands few Z =
    let R = Z.runs in
    let item = R.item in
    let link = R.link in
    let loss = R.loss in
    let up = R.up in
    let fed = R.fed in
    let settled = R.settled in
    let window = Z.window in
    let size = Z.nodes in
    let ports = Z.ports in
    let tick = tick_le w in
    let sums = sums_join w.ports in record {
      items = omega arith;
      settled = omega arith;
      nodes = omega arith;
      links = omega arith;
      applies = few;
      losses = omega arith;
      outside = omega arith;
      spool = R.spool;
    }

low_stop : (w : World) → IsLow w → IsLow (stop w)
low_stop w L = record {
  items = L.items;
  settled =
      let was = L.settled in
      let drops = drops_length Budget w.pending in
      let more = length-append w.dropped (drops_for Budget w.pending) in
      omega arith;
  nodes = L.nodes;
  links = L.links;
  applies = L.applies;
  losses = L.losses;
  outside = L.outside;
  spool = L.spool;
}

record LowAt (P : ℕ) (given : RunInput) (at : RunState) : Type 0 where
  sizes : at.stopped ≡ false → Sizes P (lines_fed given at.world) at.world
  low : IsLow at.world

low_event : (P : ℕ) (given : RunInput) (budget seats : ℕ) (at : RunState) (e : Event) → budget ≤ most_budget → times is_command given.inputs ≤ most_commands → Every (FitsInput P) given.inputs → Allowed given budget seats at e
    → KeptAt budget at → Counts at.world → KnownAt P at.world → LowAt P given at → LowAt P given (after given at e)
low_event P given budget seats at Feed lb lc fit a K C N L = by (slice_get given.inputs at.world.fed) refl a.1.1
  where
    Z : Sizes P (lines_fed given at.world) at.world
    Z = L.sizes a.0

    few : at.world.applies ≤ most_budget
    few = let lt = a.1.0 in omega arith

    by : (o : Option Input) → slice_get given.inputs at.world.fed ≡ o → MayFeedNext at.world o → LowAt P given (record { world = feed_next given at.world o; taken = at.taken; stopped = at.stopped })
    by None e may = L
    by (Some input) e may =
        let v = feed_input given (record (at.world) { fed = at.world.fed + 1 }) input in
        let quiet = input_quietly given (record (at.world) { fed = at.world.fed + 1 }) input in
        let fed : v.fed ≡ at.world.fed + 1 = fed_quietly quiet in
        let applies : v.applies ≡ at.world.applies = applies_quietly quiet in
        let more = take_more is_command given.inputs at.world.fed input e in
        let lines : lines_fed given v ≡ lines_fed given at.world + one_if (is_command input) = ap (λ (n : ℕ). times is_command (take n given.inputs)) fed ∙ more in
        let Y = sized_input P (lines_fed given at.world) given at.world input (fits_at P given.inputs at.world.fed input fit e) may few Z in
        let X : Sizes P (lines_fed given v) v = subst (λ (n : ℕ). Sizes P n v) (sym lines) Y in
        let all = take_fewer is_command v.fed given.inputs in
        record { sizes = λ _. X; low = low_of P (lines_fed given v) v (omega arith) (omega arith) X }
low_event P given budget seats at (Take seat id) lb lc fit a K C N L = record { sizes = L.sizes; low = L.low }
low_event P given budget seats at (Back id) lb lc fit a K C N L = record { sizes = L.sizes; low = L.low }
low_event P given budget seats at (Apply id) lb lc fit a K C N L =
    let w = at.world in
    let h = held_item w at.taken id K.sound a.1 in
    let v = apply w id in
    let fed : v.fed ≡ w.fed = apply_fed w id in
    let applies : v.applies ≡ w.applies + 1 = apply_applies w at.taken id a.1 K.sound in
    let room : v.applies + length (after given at (Apply id)).taken ≤ budget = (kept_event given budget seats at (Apply id) a.1 K).room in
    let Y : Sizes P (lines_fed given w) v = subst (λ (o : Option Item). Sizes P (lines_fed given w) (apply_found w o)) (sym h.found)
    (sized_applied P (lines_fed given w) w at.taken h.item K.sound h.is_pending (N.packets h.item h.is_pending) C (omega arith) (L.sizes a.0)) in
    let X : Sizes P (lines_fed given v) v = subst (λ (n : ℕ). Sizes P (times is_command (take n given.inputs)) v) (sym fed) Y in
    let all = take_fewer is_command v.fed given.inputs in
    record { sizes = λ _. X; low = low_of P (lines_fed given v) v (omega arith) (omega arith) X }
low_event P given budget seats at Stop lb lc fit a K C N L = record { sizes = λ e. absurd (true≢false e); low = low_stop at.world L.low }

low_run : (P : ℕ) (given : RunInput) (budget seats : ℕ) (at : RunState) (j : List Event) → budget ≤ most_budget → times is_command given.inputs ≤ most_commands → Every (FitsInput P) given.inputs → OrderlyFrom given budget seats at j
    → KeptAt budget at → Counts at.world → KnownAt P at.world → LowAt P given at → LowAt P given (after_all given at j)
low_run P given budget seats at [] lb lc fit o K C N L = L
low_run P given budget seats at (e ∷ es) lb lc fit o K C N L =
    low_run P given budget seats (after given at e) es lb lc fit o.1 (kept_event given budget seats at e o.0.1 K) (counts_event given budget seats at e o.0.1 K.sound C)
    (known_event P given budget seats at e fit o.0.1 K N) (low_event P given budget seats at e lb lc fit o.0 K C N L)

-- The beginning

no_hooks : (names : List (List ℕ)) (n : ℕ) (node : NodeRecord) → get (map (λ name. Some (blank_node (Some name) Ether)) names) n ≡ Some node → (length node.hooks ≤ 0) × (links_of node.kept ≤ 0)
no_hooks [] n node e = absurd (some_none node (sym e))
no_hooks (name ∷ names) zero node e = subst (λ (z : NodeRecord). (length z.hooks ≤ 0) × (links_of z.kept ≤ 0)) (same_row (blank_node (Some name) Ether) node e) (omega arith, omega arith)
no_hooks (name ∷ names) (suc n) node e = no_hooks names n node e

port_there : (names : List (List ℕ)) (n : ℕ) → n < length names → (node : NodeRecord) × (get (map (λ name. Some (blank_node (Some name) Ether)) names) n ≡ Some node) × (kind_at node ≡ Ether)
port_there [] n lt = absurd (omega arith)
port_there (name ∷ names) zero lt = (blank_node (Some name) Ether, refl, refl)
port_there (name ∷ names) (suc n) lt = port_there names n (omega arith)

no_sums : (f : Port → ℕ) → f blank_port ≡ 0 → (names : List (List ℕ)) → port_sum f (map (λ name. blank_port) names) ≡ 0
no_sums f e [] = refl
no_sums f e (name ∷ names) = let more = no_sums f e names in omega arith

start_sizes : (s : Setting) → length s.ports ≤ 64 → Sizes (length s.ports) 0 (start s)
start_sizes s few = record {
  ports = few;
  nodes = let same = length-map s.ports (λ (name : List ℕ). Some (blank_node (Some name) Ether)) in omega arith;
  window = omega arith;
  runs = record {
    item = omega arith;
    join = omega arith;
    link = omega arith;
    loss = omega arith;
    up = let none = no_sums (λ (port : Port). port.up) refl s.ports in omega arith;
    wire = refl;
    fed = let none = no_sums (λ (port : Port). port.fed) refl s.ports in omega arith;
    tick = omega arith;
    spool = omega arith;
    settled = refl;
    hooks = first;
    at_ports = λ p h. absurd h;
    ethers = λ n lt. two_more n (port_there s.ports n lt);
  };
}
  where
    first : (n : ℕ) (node : NodeRecord) → get (start s).nodes n ≡ Some node → (length node.hooks ≤ 0) × (links_of node.kept ≤ 0)
    first zero node e = absurd (some_none node (sym e))
    first (suc zero) node e = subst (λ (z : NodeRecord). (length z.hooks ≤ 0) × (links_of z.kept ≤ 0)) (same_row (blank_node (Some s.own) Socket) node e) (omega arith, omega arith)
    first (suc (suc n)) node e = no_hooks s.ports n node e

    two_more : (n : ℕ) → (node : NodeRecord) × (get (map (λ name. Some (blank_node (Some name) Ether)) s.ports) n ≡ Some node) × (kind_at node ≡ Ether) → (node : NodeRecord) × (get (start s).nodes (n + 2) ≡ Some node) × (kind_at node ≡ Ether)
    two_more n e = subst (λ (m : ℕ). (node : NodeRecord) × (get (start s).nodes m ≡ Some node) × (kind_at node ≡ Ether)) (let two : suc (suc n) ≡ n + 2 = omega arith in two) (next n e)
      where
        next : (n : ℕ) → (node : NodeRecord) × (get (map (λ name. Some (blank_node (Some name) Ether)) s.ports) n ≡ Some node) × (kind_at node ≡ Ether) → (node : NodeRecord) × (get (start s).nodes (suc (suc n)) ≡ Some node) × (kind_at node ≡ Ether)
        next n e = e

low_world : (s : Setting) (j : List Event) → IsJournal s j → IsModest s → LowAt (length s.ports) s.given (run_state_after s j)
low_world s j o m =
    let Z = start_sizes s m.ports in
    low_run (length s.ports) s.given s.budget s.seats (beginning (start s)) j m.budget m.commands m.fits o (kept_start s) (counts_start s) (known_start s)
    (record { sizes = λ _. Z; low = low_of (length s.ports) 0 (start s) (omega arith) (omega arith) Z })

pub runs_are_low : RunsAreLow
runs_are_low s j o m = (low_world s j o m).low
