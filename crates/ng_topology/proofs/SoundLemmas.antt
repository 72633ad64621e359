-- Of each number it is known whether a box is at home, and a box that is at home has a node.
use Rattle.std.proofs.Common.{◌≡◌, ◌⊎◌, ⊎_elim, ℕ, zero, suc, ◌+◌, Bool, true, false, List, [], ◌∷◌, ◌++◌, map, length, get_or, set, Option, Some, None, refl, sym, ap, ◌∙◌, subst, inl, inr, arith}
use Rattle.std.specs.Prelude.{IsSome}
use Rattle.std.specs.Option.{option_map}
use Rattle.std.proofs.lemmas.List.{length-set, length-append}
use Rattle.ng_base.specs.declared.kind.Kind.{Kind}
use Rattle.ng_machine.specs.State.{State}
use Rattle.ng_base.specs.declared.ids.NodeId.{NodeId}
use Rattle.ng_machine.specs.World.{NodeRecord, node_in}
use Rattle.ng_topology.specs.NodeEntry.{NodeEntry}
use Rattle.ng_topology.specs.Soundness.{SoundnessStays}
use Rattle.ng_topology.specs.Topology.{Topology, node_of, home_of, IsSound, IsThere, use_link, change_node, make_node, retire_node, lend_box, give_box, with_kept}

pub as_many : (entries : List (Option NodeEntry)) → length (map home_of entries) ≡ length (map node_of entries)
as_many [] = refl
as_many (x ∷ entries) = ap suc (as_many entries)

home_has_node : (x : Option NodeEntry) → home_of x ≡ true → IsSome (node_of x)
home_has_node None home = absurd (cc home)
home_has_node (Some entry) home = refl

pub home_is_there : (entries : List (Option NodeEntry)) (i : ℕ) → get_or (map home_of entries) i false ≡ true → IsSome (get_or (map node_of entries) i None)
home_is_there [] i home = absurd (cc home)
home_is_there (x ∷ entries) zero home = home_has_node x home
home_is_there (x ∷ entries) (suc i) home = home_is_there entries i home

-- SO IT STAYS

there_mapped : (f : NodeRecord → NodeRecord) (node : Option NodeRecord) → IsSome node → IsSome (option_map f node)
there_mapped f None there = absurd (cc there)
there_mapped f (Some node) there = refl

there_changed : (nodes : List (Option NodeRecord)) (i k : ℕ) (f : NodeRecord → NodeRecord) → IsSome (get_or nodes k None) → IsSome (get_or (set nodes i (option_map f (get_or nodes i None))) k None)
there_changed [] i k f there = there
there_changed (x ∷ nodes) zero zero f there = there_mapped f x there
there_changed (x ∷ nodes) zero (suc k) f there = there
there_changed (x ∷ nodes) (suc i) zero f there = there
there_changed (x ∷ nodes) (suc i) (suc k) f there = there_changed nodes i k f there

pub sound_change : (t : Topology) (id : NodeId) (f : NodeRecord → NodeRecord) → IsSound t → IsSound (change_node t id f)
sound_change t id f sound = record {
  homes = sound.homes ∙ sym (length-set t.nodes id.0 (option_map f (node_in t.nodes id)));
  there = λ k home. there_changed t.nodes id.0 k.0 f (sound.there k home);
}

there_pushed : (nodes : List (Option NodeRecord)) (node : NodeRecord) (k : ℕ) → IsSome (get_or nodes k None) → IsSome (get_or (nodes ++ Some node ∷ []) k None)
there_pushed [] node k there = absurd (cc there)
there_pushed (x ∷ nodes) node zero there = there
there_pushed (x ∷ nodes) node (suc k) there = there_pushed nodes node k there

there_last : (nodes : List (Option NodeRecord)) (node : NodeRecord) → IsSome (get_or (nodes ++ Some node ∷ []) (length nodes) None)
there_last [] node = refl
there_last (x ∷ nodes) node = there_last nodes node

-- of the homes with one more at the end, an old one or the last
home_pushed : (homes : List Bool) (k : ℕ) → get_or (homes ++ true ∷ []) k false ≡ true → (get_or homes k false ≡ true) ⊎ (k ≡ length homes)
home_pushed [] zero home = inr refl
home_pushed [] (suc k) home = inl home
home_pushed (x ∷ homes) zero home = inl home
home_pushed (x ∷ homes) (suc k) home = ⊎_elim (λ (old : get_or homes k false ≡ true). inl old) (λ (last : k ≡ length homes). inr (ap suc last)) (home_pushed homes k home)

pub sound_make : (t : Topology) (kind : Kind) (node : NodeRecord) → IsSound t → IsSound (make_node t kind node)
sound_make t kind node sound = record {
  homes = length-append t.home (true ∷ []) ∙ ap (λ (n : ℕ). n + 1) sound.homes ∙ sym (length-append t.nodes (Some node ∷ []));
  there = λ k home. ⊎_elim
      (λ (old : get_or t.home k.0 false ≡ true). there_pushed t.nodes node k.0 (sound.there k old))
      (λ (last : k.0 ≡ length t.home). subst (λ (n : ℕ). IsSome (get_or (t.nodes ++ Some node ∷ []) n None)) (sym (last ∙ sound.homes)) (there_last t.nodes node))
      (home_pushed t.home k.0 home);
}

there_removed : (nodes : List (Option NodeRecord)) (homes : List Bool) (i k : ℕ) → get_or (set homes i false) k false ≡ true → (get_or homes k false ≡ true → IsSome (get_or nodes k None)) → IsSome (get_or (set nodes i None) k None)
there_removed nodes [] i k home there = absurd (cc home)
there_removed [] (h ∷ homes) zero zero home there = absurd (cc home)
there_removed [] (h ∷ homes) zero (suc k) home there = there home
there_removed [] (h ∷ homes) (suc i) zero home there = there home
there_removed [] (h ∷ homes) (suc i) (suc k) home there = there_removed [] homes i k home there
there_removed (x ∷ nodes) (h ∷ homes) zero zero home there = absurd (cc home)
there_removed (x ∷ nodes) (h ∷ homes) zero (suc k) home there = there home
there_removed (x ∷ nodes) (h ∷ homes) (suc i) zero home there = there home
there_removed (x ∷ nodes) (h ∷ homes) (suc i) (suc k) home there = there_removed nodes homes i k home there

pub sound_retire : (t : Topology) (id : NodeId) → IsSound t → IsSound (retire_node t id)
sound_retire t id sound = record {
  homes = length-set t.home id.0 false ∙ sound.homes ∙ sym (length-set t.nodes id.0 None);
  there = λ k home. there_removed t.nodes t.home id.0 k.0 home (sound.there k);
}

home_before : (homes : List Bool) (i k : ℕ) → get_or (set homes i false) k false ≡ true → get_or homes k false ≡ true
home_before [] i k home = home
home_before (h ∷ homes) zero zero home = absurd (cc home)
home_before (h ∷ homes) zero (suc k) home = home
home_before (h ∷ homes) (suc i) zero home = home
home_before (h ∷ homes) (suc i) (suc k) home = home_before homes i k home

pub sound_lend : (t : Topology) (id : NodeId) → IsSound t → IsSound (lend_box t id)
sound_lend t id sound = record {
  homes = length-set t.home id.0 false ∙ sound.homes;
  there = λ k home. sound.there k (home_before t.home id.0 k.0 home);
}

there_home : (nodes : List (Option NodeRecord)) (homes : List Bool) (i k : ℕ) → get_or (set homes i true) k false ≡ true → IsSome (get_or nodes i None) → (get_or homes k false ≡ true → IsSome (get_or nodes k None)) → IsSome (get_or nodes k None)
there_home nodes [] i k home at there = there home
there_home nodes (h ∷ homes) zero zero home at there = at
there_home nodes (h ∷ homes) zero (suc k) home at there = there home
there_home nodes (h ∷ homes) (suc i) zero home at there = there home
there_home [] (h ∷ homes) (suc i) (suc k) home at there = absurd (cc at)
there_home (x ∷ nodes) (h ∷ homes) (suc i) (suc k) home at there = there_home nodes homes i k home at there

pub sound_give : (t : Topology) (id : NodeId) (state : State) → IsThere t id → IsSound t → IsSound (give_box t id state)
sound_give t id state at sound = record {
  homes = length-set t.home id.0 true ∙ sound.homes ∙ sym (length-set t.nodes id.0 (option_map (with_kept state.kept) (node_in t.nodes id)));
  there = λ k home. there_changed t.nodes id.0 k.0 (with_kept state.kept) (there_home t.nodes t.home id.0 k.0 home at (sound.there k));
}

pub sound_link : (t : Topology) → IsSound t → IsSound (use_link t)
sound_link t sound = record { homes = sound.homes; there = sound.there }

pub soundness_stays : SoundnessStays
soundness_stays = record { change = sound_change; make = sound_make; retire = sound_retire; link = sound_link; lend = sound_lend; give = sound_give }

-- WHO IS AT HOME AFTER A NODE IS MADE

pub home_last : (homes : List Bool) (nodes : List (Option NodeRecord)) → length homes ≡ length nodes → get_or (homes ++ true ∷ []) (length nodes) false ≡ true
home_last [] [] same = refl
home_last [] (x ∷ nodes) same = absurd (omega arith)
home_last (h ∷ homes) [] same = absurd (omega arith)
home_last (h ∷ homes) (x ∷ nodes) same = home_last homes nodes (let e : length homes ≡ length nodes = omega arith in e)

pub home_still : (homes : List Bool) (k : ℕ) → get_or homes k false ≡ true → get_or (homes ++ true ∷ []) k false ≡ true
home_still [] k home = absurd (cc home)
home_still (h ∷ homes) zero home = home
home_still (h ∷ homes) (suc k) home = home_still homes k home
