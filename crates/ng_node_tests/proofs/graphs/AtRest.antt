-- What is at home after each step.
use Rattle.std.proofs.Common.{◌≡◌, ◌⊎◌, ⊎_elim, ℕ, zero, suc, ◌+◌, ◌≤◌, Bool, true, false, List, [], ◌∷◌, ◌++◌, length, map, get_or, set, is_some, cond, Option, Some, None, refl, ap, sym, ◌∙◌, subst, inl, inr, arith}
use Rattle.std.specs.Prelude.{IsSome}
use Rattle.std.specs.Option.{option_map}
use Rattle.ng_base.specs.declared.ids.NodeId.{NodeId}
use Rattle.ng_base.specs.declared.kind.Kind.{Kind}
use Rattle.ng_machine.specs.State.{State}
use Rattle.ng_machine.specs.declared.hook.End.{End}
use Rattle.ng_machine.specs.World.{NodeRecord, kind_at, node_id, link_id, new_hook, with_hook, blank_node}
use Rattle.ng_topology.specs.Topology.{Topology, IsSound, empty_graph, change_node, make_node, retire_node, use_link, lend_box, give_box, sprout_node, with_kept}
use Rattle.ng_topology.proofs.SoundLemmas.{home_last, home_still, sound_change}
use Rattle.ng_node_tests.specs.graphs.Rest.{IsAtRest}

none_there : (k : ℕ) → IsSome {T = NodeRecord} (get_or (None ∷ []) k None) → get_or (false ∷ []) k false ≡ true
none_there zero there = absurd (cc there)
none_there (suc k) there = absurd (cc there)

pub rest_empty : (kinds : List Kind) → IsAtRest (empty_graph kinds) 0
rest_empty kinds = record { home = λ k there. none_there k.0 there; few = omega arith }

there_before : (node : Option NodeRecord) (f : NodeRecord → NodeRecord) → IsSome (option_map f node) → IsSome node
there_before None f there = absurd (cc there)
there_before (Some node) f there = refl

there_unchanged : (nodes : List (Option NodeRecord)) (i k : ℕ) (f : NodeRecord → NodeRecord) → IsSome (get_or (set nodes i (option_map f (get_or nodes i None))) k None) → IsSome (get_or nodes k None)
there_unchanged [] i k f there = there
there_unchanged (x ∷ nodes) zero zero f there = there_before x f there
there_unchanged (x ∷ nodes) zero (suc k) f there = there
there_unchanged (x ∷ nodes) (suc i) zero f there = there
there_unchanged (x ∷ nodes) (suc i) (suc k) f there = there_unchanged nodes i k f there

pub rest_change : (t : Topology) (id : NodeId) (f : NodeRecord → NodeRecord) (links : ℕ) → IsAtRest t links → IsAtRest (change_node t id f) links
rest_change t id f links rest = record { home = λ k there. rest.home k (there_unchanged t.nodes id.0 k.0 f there); few = rest.few }

pub rest_link : (t : Topology) (links : ℕ) → IsAtRest t links → IsAtRest (use_link t) (links + 1)
rest_link t links rest = record { home = rest.home; few = let few : t.next_link ≤ links + 1 = rest.few in omega arith }

-- of the nodes with one more at the end, an old one or the last
there_pushed : (nodes : List (Option NodeRecord)) (node : NodeRecord) (k : ℕ) → IsSome (get_or (nodes ++ Some node ∷ []) k None) → IsSome (get_or nodes k None) ⊎ (k ≡ length nodes)
there_pushed [] node zero there = inr refl
there_pushed [] node (suc k) there = inl there
there_pushed (x ∷ nodes) node zero there = inl there
there_pushed (x ∷ nodes) node (suc k) there = ⊎_elim (λ (old : IsSome (get_or nodes k None)). inl old) (λ (last : k ≡ length nodes). inr (ap suc last)) (there_pushed nodes node k there)

pub rest_make : (t : Topology) (kind : Kind) (node : NodeRecord) (links : ℕ) → IsSound t → IsAtRest t links → IsAtRest (make_node t kind node) links
rest_make t kind node links sound rest = record {
  home = λ k there. ⊎_elim
      (λ (old : IsSome (get_or t.nodes k.0 None)). home_still t.home k.0 (rest.home k old))
      (λ (last : k.0 ≡ length t.nodes). subst (λ (i : ℕ). get_or (t.home ++ true ∷ []) i false ≡ true) (sym last) (home_last t.home t.nodes sound.homes))
      (there_pushed t.nodes node k.0 there);
  few = rest.few;
}

home_but_one : (nodes : List (Option NodeRecord)) (homes : List Bool) (i k : ℕ) → IsSome (get_or (set nodes i None) k None) → (IsSome (get_or nodes k None) → get_or homes k false ≡ true) → get_or (set homes i false) k false ≡ true
home_but_one [] homes i k there home = absurd (cc there)
home_but_one (x ∷ nodes) [] zero zero there home = absurd (cc there)
home_but_one (x ∷ nodes) [] zero (suc k) there home = home there
home_but_one (x ∷ nodes) [] (suc i) zero there home = home there
home_but_one (x ∷ nodes) [] (suc i) (suc k) there home = home_but_one nodes [] i k there home
home_but_one (x ∷ nodes) (h ∷ homes) zero zero there home = absurd (cc there)
home_but_one (x ∷ nodes) (h ∷ homes) zero (suc k) there home = home there
home_but_one (x ∷ nodes) (h ∷ homes) (suc i) zero there home = home there
home_but_one (x ∷ nodes) (h ∷ homes) (suc i) (suc k) there home = home_but_one nodes homes i k there home

pub rest_retire : (t : Topology) (id : NodeId) (links : ℕ) → IsAtRest t links → IsAtRest (retire_node t id) links
rest_retire t id links rest = record { home = λ k there. home_but_one t.nodes t.home id.0 k.0 there (rest.home k); few = rest.few }

home_again : (homes : List Bool) (i k : ℕ) → get_or homes k false ≡ true → get_or (set (set homes i false) i true) k false ≡ true
home_again [] i k home = home
home_again (h ∷ homes) zero zero home = refl
home_again (h ∷ homes) zero (suc k) home = home
home_again (h ∷ homes) (suc i) zero home = home
home_again (h ∷ homes) (suc i) (suc k) home = home_again homes i k home

-- the box went and came home
pub rest_give : (t : Topology) (id : NodeId) (state : State) (links : ℕ) → IsAtRest t links → IsAtRest (give_box (lend_box t id) id state) links
rest_give t id state links rest = record {
  home = λ k there. home_again t.home id.0 k.0 (rest.home k (there_unchanged t.nodes id.0 k.0 (with_kept state.kept) there));
  few = rest.few;
}

-- AFTER EACH STEP

along : (old new : Topology) (links : ℕ) → new ≡ old → IsAtRest old links → IsAtRest new links
along old new links is rest = subst (λ (t : Topology). IsAtRest t links) (sym is) rest

pub begun : (kinds : List Kind) (new : Topology) → new ≡ empty_graph kinds → IsAtRest new 0
begun kinds new is = along (empty_graph kinds) new 0 is (rest_empty kinds)

pub made : (old new : Topology) (kind : Kind) (node : NodeRecord) (links : ℕ) → new ≡ make_node old kind node → IsSound old → IsAtRest old links → IsAtRest new links
made old new kind node links is sound rest = along (make_node old kind node) new links is (rest_make old kind node links sound rest)

pub changed : (old new : Topology) (id : NodeId) (f : NodeRecord → NodeRecord) (links : ℕ) → new ≡ change_node old id f → IsAtRest old links → IsAtRest new links
changed old new id f links is rest = along (change_node old id f) new links is (rest_change old id f links rest)

changed_or : (old : Topology) (id : NodeId) (f : NodeRecord → NodeRecord) (b : Bool) (links : ℕ) → IsAtRest old links → IsAtRest (cond b (change_node old id f) old) links
changed_or old id f true links rest = rest_change old id f links rest
changed_or old id f false links rest = rest

pub changed_if : (old new : Topology) (id : NodeId) (f : NodeRecord → NodeRecord) (b : Bool) (links : ℕ) → new ≡ cond b (change_node old id f) old → IsAtRest old links → IsAtRest new links
changed_if old new id f b links is rest = along (cond b (change_node old id f) old) new links is (changed_or old id f b links rest)

pub half_added : (old new : Topology) (id : NodeId) (f : NodeRecord → NodeRecord) (links : ℕ) → new ≡ use_link (change_node old id f) → IsAtRest old links → IsAtRest new (links + 1)
half_added old new id f links is rest = along (use_link (change_node old id f)) new (links + 1) is (rest_link (change_node old id f) links (rest_change old id f links rest))

pub sprouted : (old new : Topology) (at : End) (kind : Kind) (hook : List ℕ) (links : ℕ) → new ≡ sprout_node old at kind hook → IsSound old → IsAtRest old links → IsAtRest new (links + 1)
sprouted old new at kind hook links is sound rest =
    let ours : NodeRecord → NodeRecord = λ node. with_hook node (new_hook at.hook (link_id old.next_link) (node_id (length old.nodes)) hook true) in
    let theirs : NodeRecord = with_hook (blank_node None kind) (new_hook hook (link_id old.next_link) at.node at.hook true) in
    let grown : Topology = change_node old at.node ours in
    along (sprout_node old at kind hook) new (links + 1) is
    (rest_link (make_node grown kind theirs) links (rest_make grown kind theirs links (sound_change old at.node ours sound) (rest_change old at.node ours links rest)))

pub retired : (old new : Topology) (id : NodeId) (links : ℕ) → new ≡ retire_node old id → IsAtRest old links → IsAtRest new links
retired old new id links is rest = along (retire_node old id) new links is (rest_retire old id links rest)

pub given : (old lent new : Topology) (id : NodeId) (state : State) (links : ℕ) → lent ≡ lend_box old id → new ≡ give_box lent id state → IsAtRest old links → IsAtRest new links
given old lent new id state links went came rest =
    along (give_box (lend_box old id) id state) new links (came ∙ ap (λ (t : Topology). give_box t id state) went) (rest_give old id state links rest)

-- WHO IS THERE

pub is_there : (node : Option NodeRecord) (kind : Option Kind) → kind ≡ option_map kind_at node → is_some kind ≡ true → IsSome node
is_there None kind is some = let e : is_some kind ≡ false = ap is_some is in absurd (cc (e, some))
is_there (Some node) kind is some = refl
