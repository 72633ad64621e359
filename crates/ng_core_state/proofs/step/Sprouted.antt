-- What is kept stands for the world in which a node was made at the other end of a new hook.
use Rattle.std.proofs.Common.{◌≡◌, ◌≢◌, ℕ, zero, suc, ◌+◌, ◌<◌, ◌≤◌, List, [], ◌∷◌, ◌++◌, length, map, set, get_or, is_some, Bool, true, false, ◌||◌, cond, refl, sym, ap, ◌∙◌, subst, ⊎_elim, arith, true≢false, length-append, length-set}
use Rattle.std.proofs.lemmas.List.{get_or-set_other, get_or_append_left}
use Rattle.std.proofs.lemmas.Bool.{cases_eq, cases_lt}
use Rattle.std.specs.Option.{option_map}
use Rattle.std.specs.declared.option.Option.{Option}
use Rattle.std.specs.declared.option.Option.TheVariants.{None, Some}
use Rattle.ng_base.specs.declared.ids.NodeId.{NodeId}
use Rattle.ng_base.specs.declared.kind.Kind.{Kind}
use Rattle.ng_base.specs.Kind.{same_kind}
use Rattle.ng_machine.specs.declared.hook.End.{End}
use Rattle.ng_machine.specs.declared.item.Item.{Item}
use Rattle.ng_machine.specs.Run.{RunState, Taken}
use Rattle.ng_machine.specs.SoundRun.{HasNode}
use Rattle.ng_machine.specs.Stock.{has_kind, without_kind}
use Rattle.ng_machine.specs.World.{NodeRecord, node_in, node_at, link_id, new_hook, with_hook, blank_node, node_id}
use Rattle.ng_machine.proofs.Kept.{node_set}
use Rattle.ng_machine.proofs.NodeLists.{given_number}
use Rattle.ng_machine.proofs.Owed.{made_kind}
use Rattle.ng_queue.specs.declared.pending.pending.Pending.{Pending}
use Rattle.ng_queue.specs.pending.Holds.{HoldsItems, in_world}
use Rattle.ng_topology.specs.Topology.{Topology, is_home, sprout_node}
use Rattle.ng_core_state.specs.step.Changed.{with_sprout}
use Rattle.ng_core_state.specs.declared.state.State.{State}
use Rattle.ng_core_state.specs.Lent.{Lent}
use Rattle.ng_core_state.specs.Stands.{Stands, port_of}

-- one blank node less
one_less : (kinds : List Kind) (kind : Kind) → has_kind kinds kind ≡ true → length (without_kind kinds kind) + 1 ≡ length kinds
one_less [] kind e = absurd (true≢false (sym e))
one_less (other ∷ kinds) kind e = by (same_kind other kind) e (λ f. one_less kinds kind f)
  where
    by : (b : Bool) → (b || has_kind kinds kind) ≡ true → (has_kind kinds kind ≡ true → length (without_kind kinds kind) + 1 ≡ length kinds) → length (cond b kinds (other ∷ without_kind kinds kind)) + 1 ≡ suc (length kinds)
    by true f less = omega arith
    by false f less = let more = less f in omega arith

node_more : (nodes : List (Option NodeRecord)) (o : Option NodeRecord) (p : Item) → HasNode nodes p → HasNode (nodes ++ o ∷ []) p
node_more nodes o p h = (h.0, get_or_append_left nodes (o ∷ []) None p.to.0 (given_number nodes p.to.0 h.0 h.1) ∙ h.1, h.2)

get_past : {A : Type 0} (xs : List A) (n : ℕ) (d : A) → length xs ≤ n → get_or xs n d ≡ d
get_past [] n d le = refl
get_past (x ∷ xs) zero d le = absurd (omega arith)
get_past (x ∷ xs) (suc n) d le = get_past xs n d (omega arith)

get_last : {A : Type 0} (xs : List A) (y d : A) → get_or (xs ++ y ∷ []) (length xs) d ≡ y
get_last [] y d = refl
get_last (x ∷ xs) y d = get_last xs y d

-- no box goes away
lent_more : (t u : Topology) (to : NodeId) (now new : NodeRecord) (pending : List Item) (taken : List Taken) → Lent t pending taken → length t.home ≡ length t.nodes → is_home t to ≡ true
    → u.nodes ≡ set t.nodes to.0 (Some now) ++ Some new ∷ [] → u.home ≡ t.home ++ true ∷ [] → Lent u pending taken
lent_more t u to now new pending taken L homes home nodes here n r is away =
    let at : get_or (set t.nodes to.0 (Some now) ++ Some new ∷ []) n None ≡ Some r = ap (λ (l : List (Option NodeRecord)). get_or l n None) (sym nodes) ∙ is in
    let gone : get_or (t.home ++ true ∷ []) n false ≡ false = ap (λ (l : List Bool). get_or l n false) (sym here) ∙ away in
    let len = length-set t.nodes to.0 (Some now) in
    ⊎_elim
    (λ (lt : n < length t.home).
    let was : get_or t.home n false ≡ false = sym (get_or_append_left t.home (true ∷ []) false n lt) ∙ gone in
    let row : get_or (set t.nodes to.0 (Some now)) n None ≡ Some r = sym (get_or_append_left (set t.nodes to.0 (Some now)) (Some new ∷ []) None n (omega arith)) ∙ at in
    ⊎_elim
    (λ (e : n ≡ to.0). absurd (true≢false (sym home ∙ ap (λ (k : ℕ). get_or t.home k false) (sym e) ∙ was)))
    (λ (d : n ≢ to.0). L n r (sym (get_or-set_other t.nodes to.0 n (Some now) None d) ∙ row) was)
    (cases_eq n to.0))
    (λ (le : length t.home ≤ n). ⊎_elim
    (λ (e : n ≡ length t.home). absurd (true≢false (sym (get_last t.home true false) ∙ ap (λ (k : ℕ). get_or (t.home ++ true ∷ []) k false) (sym e) ∙ gone)))
    (λ (d : n ≢ length t.home). let more : length (t.home ++ true ∷ []) ≡ length t.home + 1 = omega (arith, length-append {A = Bool}) in
    let k = length-append (set t.nodes to.0 (Some now)) (Some new ∷ []) in
    absurd (true≢false (sym (ap is_some (sym (get_past (set t.nodes to.0 (Some now) ++ Some new ∷ []) n None (omega arith)) ∙ at)))))
    (cases_eq n (length t.home)))
    (cases_lt n (length t.home))

-- the node with its hook, and the new node with its own
abbrev ours_in : ℕ → ℕ → End → NodeRecord → List ℕ → NodeRecord
ours_in link next at node hook = with_hook node (new_hook at.hook (link_id link) (node_id next) hook true)

abbrev theirs_in : ℕ → End → Kind → List ℕ → NodeRecord
theirs_in link at kind hook = with_hook (blank_node None kind) (new_hook hook (link_id link) at.node at.hook true)

sprout_nodes : {B : Type 0} (s : State B) (a : RunState) (at : End) (node : NodeRecord) (kind : Kind) (hook : List ℕ) → Stands s a → node_at a.world at.node ≡ Some node
    → (sprout_node s.graph at kind hook).nodes ≡ set s.graph.nodes at.node.0 (Some (ours_in a.world.next_link (length a.world.nodes) at node hook)) ++ Some (theirs_in a.world.next_link at kind hook) ∷ []
sprout_nodes s a at node kind hook S here =
    let found : node_in s.graph.nodes at.node ≡ Some node = ap (λ (l : List (Option NodeRecord)). node_in l at.node) S.graph.nodes ∙ here in
    ap (λ (o : Option NodeRecord). set s.graph.nodes at.node.0 (option_map (λ r. ours_in s.graph.next_link (length s.graph.nodes) at r hook) o) ++ Some (theirs_in s.graph.next_link at kind hook) ∷ []) found
    ∙ ap (λ (n : ℕ). set s.graph.nodes at.node.0 (Some (ours_in n (length s.graph.nodes) at node hook)) ++ Some (theirs_in n at kind hook) ∷ []) S.graph.next_link
    ∙ ap (λ (l : List (Option NodeRecord)). set s.graph.nodes at.node.0 (Some (ours_in a.world.next_link (length l) at node hook)) ++ Some (theirs_in a.world.next_link at kind hook) ∷ []) S.graph.nodes

pub stands_sprouted : {B : Type 0} (s t : State B) (a : RunState) (at : End) (node : NodeRecord) (kind : Kind) (hook : List ℕ) → Stands s a → node_at a.world at.node ≡ Some node → is_home s.graph at.node ≡ true → has_kind s.graph.stock kind ≡ true
    → t.graph ≡ sprout_node s.graph at kind hook → t.pending ≡ s.pending → t.told.items ≡ s.told.items → t.ports.items ≡ s.ports.items
    → Stands t (in_world a (with_sprout a.world at node kind hook))
stands_sprouted {B} s t a at node kind hook S here home left graph pending told ports =
    let ours = ours_in a.world.next_link (length a.world.nodes) at node hook in
    let theirs = theirs_in a.world.next_link at kind hook in
    let made = sprout_nodes s a at node kind hook S here in
    let N : t.graph.nodes ≡ set s.graph.nodes at.node.0 (Some ours) ++ Some theirs ∷ [] = ap (λ (g : Topology). g.nodes) graph ∙ made in
    let H : t.graph.home ≡ s.graph.home ++ true ∷ [] = ap (λ (g : Topology). g.home) graph in
    let less = one_less a.world.stock kind (ap (λ (l : List Kind). has_kind l kind) (sym S.graph.stock) ∙ left) in
    let len = length-set a.world.nodes at.node.0 (Some ours) in
    let more = length-append (set a.world.nodes at.node.0 (Some ours)) (Some theirs ∷ []) in
    record {
      items = subst (λ (p : Pending). HoldsItems p a) (sym pending) S.items;
      there = λ p h. node_more (set a.world.nodes at.node.0 (Some ours)) (Some theirs) p (node_set a.world.nodes at.node.0 node ours p here (made_kind node.kept at.hook) (S.there p h));
      graph = record {
        nodes = N ∙ ap (λ (l : List (Option NodeRecord)). set l at.node.0 (Some ours) ++ Some theirs ∷ []) S.graph.nodes;
        stock = ap (λ (g : Topology). g.stock) graph ∙ ap (λ (l : List Kind). without_kind l kind) S.graph.stock;
        next_link = ap (λ (g : Topology). g.next_link) graph ∙ ap (λ (n : ℕ). n + 1) S.graph.next_link;
      };
      homes = ap (λ (l : List Bool). length l) H ∙ (let k = length-append s.graph.home (true ∷ []) in let h = S.homes in let e = length-set s.graph.nodes at.node.0 (Some ours) in let m = length-append (set s.graph.nodes at.node.0 (Some ours)) (Some theirs ∷ []) in let w = ap (λ (l : List (Option NodeRecord)). length l) N in omega arith);
      lent = lent_more s.graph t.graph at.node ours theirs a.world.pending a.taken S.lent S.homes home N H;
      places = let f = ap (λ (p : Pending). length p.queues.lists) pending in let le = S.places in omega arith;
      told = told ∙ S.told;
      ports = ap (map port_of) ports ∙ S.ports;
    }
