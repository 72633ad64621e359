-- A front of what is sent, as other things change and as packets are sent.
use Rattle.std.proofs.Common.{◌≡◌, ℕ, zero, suc, ◌+◌, ◌<◌, ◌≤◌, inl, inr, List, [], ◌∷◌, length, set, get_or, cond, Bool, is_some, refl, sym, ap, ◌∙◌, subst, arith}
use Rattle.std.specs.Prelude.{◌&&◌, find, take}
use Rattle.std.specs.Option.{option_map}
use Rattle.std.specs.declared.option.Option.{Option}
use Rattle.std.specs.declared.option.Option.TheVariants.{None, Some}
use Rattle.ng_base.specs.declared.ids.NodeId.{NodeId}
use Rattle.ng_machine.specs.declared.hook.Hook.{Hook}
use Rattle.ng_machine.specs.Change.{most_frames}
use Rattle.ng_machine.specs.World.{NodeRecord, hook_at, is_named, node_in}
use Rattle.ng_queue.specs.declared.pending.pending.Pending.{Pending}
use Rattle.ng_queue.specs.pending.Room.{HasRoom, Spends}
use Rattle.ng_queue.specs.Queues.{spare_at}
use Rattle.ng_queue.specs.tie.TieLaws.{one}
use Rattle.ng_topology.specs.Topology.{Topology}
use Rattle.ng_core_state.specs.Room.{goes_on, goes_to, wants}
use Rattle.ng_core_state.specs.service.Front.{HasFront, IsEnough, goers}
use Rattle.ng_core_state.proofs.service.NodesChanged.{changed_here}
use Rattle.ng_core_state.proofs.service.Sending.{one_cond}

-- HOW FAR IT REACHES

goers_next : (nodes : List (Option NodeRecord)) (from : NodeId) (xs : List (List ℕ × List ℕ)) (i : ℕ) (x : List ℕ × List ℕ) → i < length xs → x ≡ get_or xs i x
    → goers nodes from (take (suc i) xs) ≡ goers nodes from (take i xs) + one (goes_on nodes (hook_at (node_in nodes from) x.0))
goers_next nodes from [] i x lt e = absurd (omega arith)
goers_next nodes from (y ∷ xs) zero x lt e =
    let a : cond (goes_on nodes (hook_at (node_in nodes from) y.0)) 1 0 ≡ one (goes_on nodes (hook_at (node_in nodes from) x.0)) =
    one_cond (goes_on nodes (hook_at (node_in nodes from) y.0)) ∙ ap (λ (z : List ℕ × List ℕ). one (goes_on nodes (hook_at (node_in nodes from) z.0))) (sym e) in
    omega arith
goers_next nodes from (y ∷ xs) (suc i) x lt e = let more = goers_next nodes from xs i x (omega arith) e in omega arith

-- one packet further there are as many free places, and one fewer where it goes on
pub reach_next : (nodes : List (Option NodeRecord)) (from : NodeId) (xs : List (List ℕ × List ℕ)) (i : ℕ) (x : List ℕ × List ℕ) (most waiting free left : ℕ) (goes : Bool) → i < length xs → x ≡ get_or xs i x
    → goes ≡ goes_on nodes (hook_at (node_in nodes from) x.0) → free ≤ left + one goes → most ≤ waiting + (goers nodes from (take i xs) + free)
    → most ≤ waiting + (goers nodes from (take (i + 1) xs) + left)
reach_next nodes from xs i x most waiting free left goes lt e is less enough =
    let next = goers_next nodes from xs i x lt e in
    let same : one goes ≡ one (goes_on nodes (hook_at (node_in nodes from) x.0)) = ap one is in
    subst (λ (k : ℕ). most ≤ waiting + (goers nodes from (take k xs) + left)) (let f : suc i ≡ i + 1 = omega arith in f) (omega arith)

-- WHAT IS DONE MEANWHILE

enough_moved : (done after : ℕ) (t u : Topology) (from : NodeId) (sends : List (List ℕ × List ℕ)) (p q : Pending) (front : ℕ)
    → goers u.nodes from (take front sends) ≡ goers t.nodes from (take front sends) → p.tally.frames + after ≤ q.tally.frames + done
    → IsEnough done t from sends p front → IsEnough after u from sends q front
enough_moved done after t u from sends p q front same frames (inl all) = inl all
enough_moved done after t u from sends p q front same frames (inr many) = inr (omega arith)

-- hooks lead where they led, room stays, and few enough packets are done
pub front_moved : (done after : ℕ) (t u : Topology) (from : NodeId) (more : ℕ → ℕ) (sends : List (List ℕ × List ℕ)) (p q : Pending)
    → ((front : List (List ℕ × List ℕ)) (n : ℕ) → wants (node_in u.nodes from) front n ≡ wants (node_in t.nodes from) front n)
    → ((front : List (List ℕ × List ℕ)) → goers u.nodes from front ≡ goers t.nodes from front)
    → q.queues.spares ≡ p.queues.spares → length q.queues.lists ≡ length p.queues.lists → p.tally.frames + after ≤ q.tally.frames + done
    → HasFront done t from more sends p → HasFront after u from more sends q
front_moved done after t u from more sends p q same_wants same_goers spares lists frames F = record {
  front = F.front;
  room = λ n lt.
      let w = same_wants (take F.front sends) n in
      let s : spare_at q.queues.spares n ≡ spare_at p.queues.spares n = ap (λ (l : List ℕ). spare_at l n) spares in
      let r = F.room n (omega arith) in
      omega arith;
  enough = enough_moved done after t u from sends p q F.front (same_goers (take F.front sends)) frames F.enough;
}

-- in the same graph
pub front_stays : (done after : ℕ) (t u : Topology) (from : NodeId) (more : ℕ → ℕ) (sends : List (List ℕ × List ℕ)) (p q : Pending)
    → u ≡ t → q.queues.spares ≡ p.queues.spares → length q.queues.lists ≡ length p.queues.lists → p.tally.frames + after ≤ q.tally.frames + done
    → HasFront done t from more sends p → HasFront after u from more sends q
front_stays done after t u from more sends p q same spares lists frames F = front_moved done after t u from more sends p q
    (λ front n. ap (λ (x : Topology). wants (node_in x.nodes from) front n) same)
    (λ front. ap (λ (x : Topology). goers x.nodes from front) same) spares lists frames F

-- there is room for the items beside what is sent
pub front_beside : (t : Topology) (from : NodeId) (more : ℕ → ℕ) (sends : List (List ℕ × List ℕ)) (p : Pending) → HasFront 0 t from more sends p → HasRoom more p
front_beside t from more sends p F = λ n lt. let r = F.room n lt in omega arith

-- the items beside what is sent are accepted
pub front_spent : (t u : Topology) (from : NodeId) (more : ℕ → ℕ) (sends : List (List ℕ × List ℕ)) (p q : Pending) → u ≡ t → Spends more p q → length q.queues.lists ≡ length p.queues.lists
    → p.tally.frames ≤ q.tally.frames → HasFront 0 t from more sends p → HasFront 0 u from (λ n. 0) sends q
front_spent t u from more sends p q same spends lists frames F = record {
  front = F.front;
  room = λ n lt.
      let w : wants (node_in u.nodes from) (take F.front sends) n ≡ wants (node_in t.nodes from) (take F.front sends) n = ap (λ (x : Topology). wants (node_in x.nodes from) (take F.front sends) n) same in
      let s = spends n in
      let r = F.room n (omega arith) in
      omega arith;
  enough = enough_moved 0 0 t u from sends p q F.front (ap (λ (x : Topology). goers x.nodes from (take F.front sends)) same) (omega arith) F.enough;
}

-- A PACKET IS SENT

-- there is room for the first one, where it isn't lost since as many wait as may
pub front_room : (t : Topology) (from : NodeId) (hook packet : List ℕ) (all rest : List (List ℕ × List ℕ)) (p : Pending) → all ≡ (hook, packet) ∷ rest → HasFront 0 t from (λ n. 0) all p
    → p.tally.frames < most_frames → HasRoom (λ n. one (goes_to (hook_at (node_in t.nodes from) hook) n)) p
front_room t from hook packet all rest p is F few = λ n lt. by F.front n lt (subst (λ (l : List (List ℕ × List ℕ)). 0 + wants (node_in t.nodes from) (take F.front l) n ≤ spare_at p.queues.spares n) is (F.room n lt))
    (subst (λ (l : List (List ℕ × List ℕ)). IsEnough 0 t from l p F.front) is F.enough)
  where
    by : (front n : ℕ) → n < length p.queues.lists → 0 + wants (node_in t.nodes from) (take front ((hook, packet) ∷ rest)) n ≤ spare_at p.queues.spares n → IsEnough 0 t from ((hook, packet) ∷ rest) p front
        → one (goes_to (hook_at (node_in t.nodes from) hook) n) ≤ spare_at p.queues.spares n
    by zero n lt room (inl le) = absurd (omega arith)
    by zero n lt room (inr many) = absurd (omega arith)
    by (suc k) n lt room enough = let e = one_cond (goes_to (hook_at (node_in t.nodes from) hook) n) in omega arith

-- and then for a front of the others
pub front_next : (t u : Topology) (from : NodeId) (hook packet : List ℕ) (all rest : List (List ℕ × List ℕ)) (p q : Pending) → u ≡ t → all ≡ (hook, packet) ∷ rest
    → Spends (λ n. one (goes_to (hook_at (node_in t.nodes from) hook) n)) p q → length q.queues.lists ≡ length p.queues.lists
    → ((c : ℕ) → most_frames ≤ p.tally.frames + (one (goes_on t.nodes (hook_at (node_in t.nodes from) hook)) + c) → most_frames ≤ q.tally.frames + c)
    → HasFront 0 t from (λ n. 0) all p → HasFront 0 u from (λ n. 0) rest q
front_next t u from hook packet all rest p q same is spends lists frames F = subst (λ (x : Topology). HasFront 0 x from (λ n. 0) rest q) (sym same)
    (by F.front (λ n lt. subst (λ (l : List (List ℕ × List ℕ)). 0 + wants (node_in t.nodes from) (take F.front l) n ≤ spare_at p.queues.spares n) is (F.room n lt))
    (subst (λ (l : List (List ℕ × List ℕ)). IsEnough 0 t from l p F.front) is F.enough))
  where
    rooms : (k : ℕ) → HasRoom (λ n. 0 + wants (node_in t.nodes from) (take (suc k) ((hook, packet) ∷ rest)) n) p → HasRoom (λ n. 0 + wants (node_in t.nodes from) (take k rest) n) q
    rooms k room = λ n lt.
        let r = room n (omega arith) in
        let s = spends n in
        let e = one_cond (goes_to (hook_at (node_in t.nodes from) hook) n) in
        omega arith

    by : (front : ℕ) → HasRoom (λ n. 0 + wants (node_in t.nodes from) (take front ((hook, packet) ∷ rest)) n) p → IsEnough 0 t from ((hook, packet) ∷ rest) p front → HasFront 0 t from (λ n. 0) rest q
    by zero room (inl le) = absurd (omega arith)
    by zero room (inr many) = record {
      front = 0;
      room = λ n lt. omega arith;
      enough = inr (let m = frames 0 (omega arith) in omega arith);
    }
    by (suc k) room (inl le) = record { front = k; room = rooms k room; enough = inl (omega arith) }
    by (suc k) room (inr many) = record {
      front = k;
      room = rooms k room;
      enough = inr (let e = one_cond (goes_on t.nodes (hook_at (node_in t.nodes from) hook)) in let m = frames (goers t.nodes from (take k rest)) (omega arith) in omega arith);
    }

-- A NODE IS CHANGED, WHOSE HOOKS STAY

still_there : (nodes : List (Option NodeRecord)) (n m : ℕ) (f : NodeRecord → NodeRecord) → is_some (get_or (set nodes n (option_map f (get_or nodes n None))) m None) ≡ is_some (get_or nodes m None)
still_there [] n m f = refl
still_there (None ∷ nodes) zero zero f = refl
still_there (Some x ∷ nodes) zero zero f = refl
still_there (x ∷ nodes) zero (suc m) f = refl
still_there (x ∷ nodes) (suc n) zero f = refl
still_there (x ∷ nodes) (suc n) (suc m) f = still_there nodes n m f

same_way : (nodes nows : List (Option NodeRecord)) (was now : Option Hook) → now ≡ was → ((id : NodeId) → is_some (node_in nows id) ≡ is_some (node_in nodes id)) → goes_on nows now ≡ goes_on nodes was
same_way nodes nows None now same there = ap (goes_on nows) same
same_way nodes nows (Some hook) now same there = ap (goes_on nows) same ∙ ap (λ (b : Bool). hook.joined && b) (there hook.peer.node)

same_hook : (o : Option NodeRecord) (f : NodeRecord → NodeRecord) (hook : List ℕ) → ((r : NodeRecord) → (f r).hooks ≡ r.hooks) → hook_at (option_map f o) hook ≡ hook_at o hook
same_hook None f hook keeps = refl
same_hook (Some r) f hook keeps = ap (λ (hooks : List Hook). find (is_named hook) hooks) (keeps r)

pub goers_changed : (nodes : List (Option NodeRecord)) (at : NodeId) (f : NodeRecord → NodeRecord) (sends : List (List ℕ × List ℕ)) → ((r : NodeRecord) → (f r).hooks ≡ r.hooks)
    → goers (set nodes at.0 (option_map f (node_in nodes at))) at sends ≡ goers nodes at sends
goers_changed nodes at f [] keeps = refl
goers_changed nodes at f (x ∷ xs) keeps =
    let nows = set nodes at.0 (option_map f (node_in nodes at)) in
    let hook : hook_at (node_in nows at) x.0 ≡ hook_at (node_in nodes at) x.0 = ap (λ (o : Option NodeRecord). hook_at o x.0) (changed_here nodes at.0 f) ∙ same_hook (node_in nodes at) f x.0 keeps in
    let way = same_way nodes nows (hook_at (node_in nodes at) x.0) (hook_at (node_in nows at) x.0) hook (λ id. still_there nodes at.0 id.0 f) in
    let first : cond (goes_on nows (hook_at (node_in nows at) x.0)) 1 0 ≡ cond (goes_on nodes (hook_at (node_in nodes at) x.0)) 1 0 = ap (λ (b : Bool). cond b 1 0) way in
    let others : goers nows at xs ≡ goers nodes at xs = goers_changed nodes at f xs keeps in
    ap (λ (k : ℕ). k + goers nows at xs) first ∙ ap (λ (k : ℕ). cond (goes_on nodes (hook_at (node_in nodes at) x.0)) 1 0 + k) others
