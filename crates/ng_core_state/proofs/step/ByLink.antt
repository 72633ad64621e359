-- What is done where a hook is there with its link.
use Rattle.std.proofs.Common.{◌≡◌, ℕ, List, [], ◌∷◌, is_some, Bool, true, false, cond, refl, sym, ap, ◌∙◌, subst}
use Rattle.std.proofs.lemmas.Bool.{and_parts}
use Rattle.std.proofs.lemmas.Slice.Eq.{bytes_eq-Decides}
use Rattle.std.specs.Prelude.{◌==◌, ◌&&◌}
use Rattle.std.specs.declared.option.Option.{Option}
use Rattle.std.specs.declared.option.Option.TheVariants.{None, Some}
use Rattle.ng_base.specs.declared.ids.LinkId.{LinkId}
use Rattle.ng_base.specs.declared.ids.NodeId.{NodeId}
use Rattle.ng_base.specs.declared.ids.Stamp.{Stamp}
use Rattle.ng_machine.specs.declared.hook.Hook.{Hook}
use Rattle.ng_machine.specs.Change.{Change, Sets, change_all, set_node}
use Rattle.ng_machine.specs.World.{World, NodeRecord, is_named, linked_hook, node_at}
use Rattle.ng_machine.proofs.Standing.{of_find}
use Rattle.ng_core_state.specs.step.Changed.{with_node}

linked_name : (node : NodeRecord) (hook : List ℕ) (link : LinkId) (h : Hook) → linked_hook node hook link ≡ Some h → h.name ≡ hook
linked_name node hook link h e =
    let f = of_find (λ (x : Hook). is_named hook x && x.link.0 == link.0) h node.hooks e in
    (bytes_eq-Decides h.name hook).0 (and_parts (is_named hook h) (h.link.0 == link.0) f.1).0

-- a node that is there is set
pub set_there : (w : World) (at : NodeId) (node now : NodeRecord) → node_at w at ≡ Some node → set_node w at now (is_some (node_at w at)) ≡ with_node w at now
set_there w at node now there = ap (λ (o : Option NodeRecord). set_node w at now (is_some o)) there

-- the node is changed by the hook that has the link, and then come the rest of the changes; or there are none
pub by_link : (w : World) (at : NodeId) (stamp : Stamp) (node : NodeRecord) (hook : List ℕ) (link : LinkId) (f : List ℕ → NodeRecord) (changes : Option Hook → List Change) (rest : List Change) (b : Bool)
    → node_at w at ≡ Some node → b ≡ is_some (linked_hook node hook link) → changes None ≡ [] → ((h : Hook) → changes (Some h) ≡ Sets (f h.name) ∷ rest)
    → cond b (change_all at stamp (with_node w at (f hook)) rest) w ≡ change_all at stamp w (changes (linked_hook node hook link))
by_link w at stamp node hook link f changes rest b here is none some = by (linked_hook node hook link) refl
  where
    by : (o : Option Hook) → linked_hook node hook link ≡ o → cond b (change_all at stamp (with_node w at (f hook)) rest) w ≡ change_all at stamp w (changes (linked_hook node hook link))
    by None e = ap (λ (c : Bool). cond c (change_all at stamp (with_node w at (f hook)) rest) w) (is ∙ ap is_some e)
        ∙ sym (ap (λ (o : Option Hook). change_all at stamp w (changes o)) e ∙ ap (change_all at stamp w) none)
    by (Some h) e = ap (λ (c : Bool). cond c (change_all at stamp (with_node w at (f hook)) rest) w) (is ∙ ap is_some e)
        ∙ ap (λ (n : List ℕ). change_all at stamp (with_node w at (f n)) rest) (sym (linked_name node hook link h e))
        ∙ ap (λ (v : World). change_all at stamp v rest) (sym (set_there w at node (f h.name) here))
        ∙ sym (ap (λ (o : Option Hook). change_all at stamp w (changes o)) e ∙ ap (change_all at stamp w) (some h))

-- the two ways of it
pub by_no_link : (P : World → Type 0) (w : World) (at : NodeId) (stamp : Stamp) (node : NodeRecord) (hook : List ℕ) (link : LinkId) (f : List ℕ → NodeRecord) (changes : Option Hook → List Change) (rest : List Change) (b : Bool)
    → node_at w at ≡ Some node → b ≡ is_some (linked_hook node hook link) → changes None ≡ [] → ((h : Hook) → changes (Some h) ≡ Sets (f h.name) ∷ rest) → b ≡ false → P (cond b (with_node w at (f hook)) w) → P (change_all at stamp w (changes (linked_hook node hook link)))
by_no_link P w at stamp node hook link f changes rest b here is none some off p =
    subst P (by_link w at stamp node hook link f changes rest b here is none some)
    (subst (λ (c : Bool). P (cond c (change_all at stamp (with_node w at (f hook)) rest) w)) (sym off) (subst (λ (c : Bool). P (cond c (with_node w at (f hook)) w)) off p))

pub by_a_link : (P : World → Type 0) (w : World) (at : NodeId) (stamp : Stamp) (node : NodeRecord) (hook : List ℕ) (link : LinkId) (f : List ℕ → NodeRecord) (changes : Option Hook → List Change) (rest : List Change) (b : Bool)
    → node_at w at ≡ Some node → b ≡ is_some (linked_hook node hook link) → changes None ≡ [] → ((h : Hook) → changes (Some h) ≡ Sets (f h.name) ∷ rest) → b ≡ true → P (change_all at stamp (with_node w at (f hook)) rest) → P (change_all at stamp w (changes (linked_hook node hook link)))
by_a_link P w at stamp node hook link f changes rest b here is none some on p =
    subst P (by_link w at stamp node hook link f changes rest b here is none some)
    (subst (λ (c : Bool). P (cond c (change_all at stamp (with_node w at (f hook)) rest) w)) (sym on) p)
