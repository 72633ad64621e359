-- Nodes and homes of entries in their places.
use Rattle.std.proofs.Common.{◌≡◌, ℕ, zero, suc, Bool, true, false, cond, List, [], ◌∷◌, ◌++◌, map, length, get_or, set, Option, Some, None, refl, sym, ap, ◌∙◌, ◌<◌, inl, inr, arith}
use Rattle.std.proofs.Math.ListN.{get_or-map}
use Rattle.std.proofs.lemmas.List.{map-set}
use Rattle.std.specs.Option.{option_map}
use Rattle.std.specs.Prelude.{is_some, IsSome, Result, Ok, Err, IfOk, OnOk, ◌==◌, ◌&&◌, find}
use Rattle.ng_base.specs.declared.ids.NodeId.{NodeId}
use Rattle.std.proofs.lemmas.Bool.{cases_Bool}
use Rattle.std.specs.Str.{bytes_eq}
use Rattle.ng_machine.specs.declared.hook.Hook.{Hook}
use Rattle.ng_machine.specs.declared.plan.Plan.{Plan}
use Rattle.ng_machine.specs.State.{way_of}
use Rattle.ng_machine.specs.World.{NodeRecord, node_in, with_hook, without_hook, state_of, is_named}
use Rattle.ng_topology.specs.NodeEntry.{NodeEntry, with_node}
use Rattle.ng_topology.specs.NodePlaces.{NodePlaces, places_as}
use Rattle.ng_topology.specs.Topology.{node_of, home_of, change_at, linked_hook_at}
use Rattle.ng_topology.proofs.hooks.HookLemmas.{own_name}

pub node_at : (entries : List (Option NodeEntry)) (i : ℕ) → get_or (map node_of entries) i None ≡ node_of (get_or entries i None)
node_at entries i = get_or-map node_of entries i None

pub home_at : (entries : List (Option NodeEntry)) (i : ℕ) → get_or (map home_of entries) i false ≡ home_of (get_or entries i None)
home_at entries i = get_or-map home_of entries i None

pub nodes_set : (entries : List (Option NodeEntry)) (i : ℕ) (e : Option NodeEntry) → map node_of (set entries i e) ≡ set (map node_of entries) i (node_of e)
nodes_set entries i e = map-set node_of entries i e

pub homes_set : (entries : List (Option NodeEntry)) (i : ℕ) (e : Option NodeEntry) → map home_of (set entries i e) ≡ set (map home_of entries) i (home_of e)
homes_set entries i e = map-set home_of entries i e

pub set_same : {X : Type 0} (xs : List X) (i : ℕ) (d x : X) → get_or xs i d ≡ x → set xs i x ≡ xs
set_same [] i d x is = refl
set_same (y ∷ xs) zero d x is = ap (λ z. z ∷ xs) (sym is)
set_same {X = X} (y ∷ xs) (suc i) d x is = ap (λ (l : List X). y ∷ l) (set_same xs i d x is)

pub nodes_push : (entries : List (Option NodeEntry)) (e : Option NodeEntry) → map node_of (entries ++ e ∷ []) ≡ map node_of entries ++ node_of e ∷ []
nodes_push [] e = refl
nodes_push (x ∷ entries) e = ap (λ (l : List (Option NodeRecord)). node_of x ∷ l) (nodes_push entries e)

pub homes_push : (entries : List (Option NodeEntry)) (e : Option NodeEntry) → map home_of (entries ++ e ∷ []) ≡ map home_of entries ++ home_of e ∷ []
homes_push [] e = refl
homes_push (x ∷ entries) e = ap (λ (l : List Bool). home_of x ∷ l) (homes_push entries e)

-- THE ENTRY AT A PLACE, AND WHAT ITS CHANGE COMES TO

pub entry_node : (entries : List (Option NodeEntry)) (id : NodeId) (e : NodeEntry) → get_or entries id.0 None ≡ Some e → node_in (map node_of entries) id ≡ Some e.node
entry_node entries id e at = node_at entries id.0 ∙ ap node_of at

pub entry_home : (entries : List (Option NodeEntry)) (id : NodeId) (e : NodeEntry) → get_or entries id.0 None ≡ Some e → get_or (map home_of entries) id.0 false ≡ e.home
entry_home entries id e at = home_at entries id.0 ∙ ap home_of at

pub only_node : (entries : List (Option NodeEntry)) (id : NodeId) (e : NodeEntry) (node : NodeRecord) → get_or entries id.0 None ≡ Some e → node_in (map node_of entries) id ≡ Some node → e.node ≡ node
only_node entries id e node at is = let same : Some e.node ≡ Some node = sym (entry_node entries id e at) ∙ is in cc

nodes_change : (entries : List (Option NodeEntry)) (id : NodeId) (e : NodeEntry) (f : NodeRecord → NodeRecord) (home : Bool) → get_or entries id.0 None ≡ Some e
    → map node_of (set entries id.0 (let now : NodeEntry = record { node = f e.node; home = home } in Some now)) ≡ change_at (map node_of entries) id f
nodes_change entries id e f home at =
    nodes_set entries id.0 (let now : NodeEntry = record { node = f e.node; home = home } in Some now)
    ∙ ap (λ (o : Option NodeRecord). set (map node_of entries) id.0 (option_map f o)) (sym (entry_node entries id e at))

homes_same : (entries : List (Option NodeEntry)) (id : NodeId) (e : NodeEntry) (node : NodeRecord) → get_or entries id.0 None ≡ Some e
    → map home_of (set entries id.0 (let now : NodeEntry = record { node = node; home = e.home } in Some now)) ≡ map home_of entries
homes_same entries id e node at =
    homes_set entries id.0 (let now : NodeEntry = record { node = node; home = e.home } in Some now)
    ∙ set_same (map home_of entries) id.0 false e.home (entry_home entries id e at)

-- the row is another
pub places_change : (entries : List (Option NodeEntry)) (id : NodeId) (room : ℕ) (e now : NodeEntry) (f : NodeRecord → NodeRecord) → get_or entries id.0 None ≡ Some e → now ≡ with_node e (f e.node)
    → places_as (set entries id.0 (Some now)) room ≡ record (places_as entries room) { nodes = change_at (map node_of entries) id f }
places_change entries id room e now f at is =
    ap (λ (x : NodeEntry). places_as (set entries id.0 (Some x)) room) is
    ∙ ap (λ (l : List (Option NodeRecord)). let p : NodePlaces = record { nodes = l; home = map home_of (set entries id.0 (Some (with_node e (f e.node)))); room = room } in p) (nodes_change entries id e f e.home at)
    ∙ ap (λ (l : List Bool). let p : NodePlaces = record { nodes = change_at (map node_of entries) id f; home = l; room = room } in p) (homes_same entries id e (f e.node) at)

-- nothing is another
pub places_same : (entries : List (Option NodeEntry)) (id : NodeId) (room : ℕ) (e now : NodeEntry) → get_or entries id.0 None ≡ Some e → now ≡ e → places_as (set entries id.0 (Some now)) room ≡ places_as entries room
places_same entries id room e now at is = ap (λ (l : List (Option NodeEntry)). places_as l room) (set_same entries id.0 None (Some now) (at ∙ ap (λ (x : NodeEntry). Some x) (sym is)))

-- where the test says so
pub places_if : (b : Bool) (entries : List (Option NodeEntry)) (id : NodeId) (room : ℕ) (e now : NodeEntry) (f : NodeRecord → NodeRecord) → get_or entries id.0 None ≡ Some e → now ≡ cond b (with_node e (f e.node)) e
    → places_as (set entries id.0 (Some now)) room ≡ cond b (record (places_as entries room) { nodes = change_at (map node_of entries) id f }) (places_as entries room)
places_if true entries id room e now f at is = places_change entries id room e now f at is
places_if false entries id room e now f at is = places_same entries id room e now at is

-- the box goes, or comes home with another state, or the node goes with it

pub places_lend : (entries : List (Option NodeEntry)) (id : NodeId) (room : ℕ) (e now : NodeEntry) → get_or entries id.0 None ≡ Some e → now ≡ record e { home = false }
    → places_as (set entries id.0 (Some now)) room ≡ record (places_as entries room) { home = set (map home_of entries) id.0 false }
places_lend entries id room e now at is =
    let lent : NodeEntry = record e { home = false } in
    ap (λ (x : NodeEntry). places_as (set entries id.0 (Some x)) room) is
    ∙ ap (λ (l : List (Option NodeRecord)). let p : NodePlaces = record { nodes = l; home = map home_of (set entries id.0 (Some lent)); room = room } in p) (nodes_set entries id.0 (Some lent) ∙ set_same (map node_of entries) id.0 None (Some e.node) (entry_node entries id e at))
    ∙ ap (λ (l : List Bool). let p : NodePlaces = record { nodes = map node_of entries; home = l; room = room } in p) (homes_set entries id.0 (Some lent))

pub places_give : (entries : List (Option NodeEntry)) (id : NodeId) (room : ℕ) (e now : NodeEntry) (f : NodeRecord → NodeRecord) → get_or entries id.0 None ≡ Some e → now ≡ record { node = f e.node; home = true }
    → places_as (set entries id.0 (Some now)) room ≡ record { nodes = change_at (map node_of entries) id f; home = set (map home_of entries) id.0 true; room = room }
places_give entries id room e now f at is =
    let given : NodeEntry = record { node = f e.node; home = true } in
    ap (λ (x : NodeEntry). places_as (set entries id.0 (Some x)) room) is
    ∙ ap (λ (l : List (Option NodeRecord)). let p : NodePlaces = record { nodes = l; home = map home_of (set entries id.0 (Some given)); room = room } in p) (nodes_change entries id e f true at)
    ∙ ap (λ (l : List Bool). let p : NodePlaces = record { nodes = change_at (map node_of entries) id f; home = l; room = room } in p) (homes_set entries id.0 (Some given))

pub places_retire : (entries : List (Option NodeEntry)) (id : NodeId) (room : ℕ)
    → places_as (set entries id.0 None) room ≡ record (places_as entries room) { nodes = set (map node_of entries) id.0 None; home = set (map home_of entries) id.0 false }
places_retire entries id room =
    ap (λ (l : List (Option NodeRecord)). let p : NodePlaces = record { nodes = l; home = map home_of (set entries id.0 None); room = room } in p) (nodes_set entries id.0 None)
    ∙ ap (λ (l : List Bool). let p : NodePlaces = record { nodes = set (map node_of entries) id.0 None; home = l; room = room } in p) (homes_set entries id.0 None)

-- the entry that was found at a place

pub found_home : (entries : List (Option NodeEntry)) (i : ℕ) (e : NodeEntry) (o : Option NodeEntry) → get_or (map home_of entries) i false ≡ true → o ≡ get_or entries i o → o ≡ Some e → get_or entries i None ≡ Some e
found_home [] i e o home is some = absurd (cc home)
found_home (x ∷ entries) zero e o home is some = sym is ∙ some
found_home (x ∷ entries) (suc i) e o home is some = found_home entries i e o home is some

pub found_there : (entries : List (Option NodeEntry)) (i : ℕ) (e : NodeEntry) (o : Option NodeEntry) → IsSome (get_or (map node_of entries) i None) → o ≡ get_or entries i o → o ≡ Some e → get_or entries i None ≡ Some e
found_there [] i e o there is some = absurd (cc there)
found_there (x ∷ entries) zero e o there is some = sym is ∙ some
found_there (x ∷ entries) (suc i) e o there is some = found_there entries i e o there is some

pub nobody_home : (entries : List (Option NodeEntry)) (i : ℕ) (o : Option NodeEntry) → get_or (map home_of entries) i false ≡ true → o ≡ get_or entries i o → o ≡ None → ⊥
nobody_home [] i o home is none = absurd (cc home)
nobody_home (x ∷ entries) zero o home is none = let it : x ≡ None = sym is ∙ none in let off : home_of x ≡ false = ap home_of it in let never : true ≡ false = sym home ∙ off in absurd (cc never)
nobody_home (x ∷ entries) (suc i) o home is none = nobody_home entries i o home is none

pub nobody_there : (entries : List (Option NodeEntry)) (i : ℕ) (o : Option NodeEntry) → IsSome (get_or (map node_of entries) i None) → o ≡ get_or entries i o → o ≡ None → ⊥
nobody_there [] i o there is none = absurd (cc there)
nobody_there (x ∷ entries) zero o there is none = let it : x ≡ None = sym is ∙ none in let off : is_some (node_of x) ≡ false = ap (λ (y : Option NodeEntry). is_some (node_of y)) it in let never : true ≡ false = sym there ∙ off in absurd (cc never)
nobody_there (x ∷ entries) (suc i) o there is none = nobody_there entries i o there is none

pub home_inside : (entries : List (Option NodeEntry)) (i : ℕ) → get_or (map home_of entries) i false ≡ true → i < length entries
home_inside [] i home = absurd (cc home)
home_inside (x ∷ entries) zero home = omega arith
home_inside (x ∷ entries) (suc i) home = let below = home_inside entries i home in omega arith

pub there_inside : (entries : List (Option NodeEntry)) (i : ℕ) → IsSome (get_or (map node_of entries) i None) → i < length entries
there_inside [] i there = absurd (cc there)
there_inside (x ∷ entries) zero there = omega arith
there_inside (x ∷ entries) (suc i) there = let below = there_inside entries i there in omega arith

-- the plan of the entry at a place is that of the node there
pub plan_of_entry : {A E : Type 0} (entries : List (Option NodeEntry)) (id : NodeId) (e : NodeEntry) → get_or entries id.0 None ≡ Some e → (r : Result A E) (plan : A → Plan) → IfOk r (λ a. way_of (state_of e.node) ≡ Some (plan a))
    → IfOk r (λ a. (node : NodeRecord) → node_in (map node_of entries) id ≡ Some node → way_of (state_of node) ≡ Some (plan a))
plan_of_entry entries id e at (Ok a) plan is = λ node there. ap (λ (n : NodeRecord). way_of (state_of n)) (sym (only_node entries id e node at there)) ∙ is
plan_of_entry entries id e at (Err x) plan is = tt

-- A HOOK THAT IS ADDED CAN BE TAKEN BACK

got_after : (nodes : List (Option NodeRecord)) (i : ℕ) (node now : NodeRecord) → get_or nodes i None ≡ Some node → get_or (set nodes i (Some now)) i None ≡ Some now
got_after [] i node now there = absurd (cc there)
got_after (x ∷ nodes) zero node now there = refl
got_after (x ∷ nodes) (suc i) node now there = got_after nodes i node now there

set_twice : (nodes : List (Option NodeRecord)) (i : ℕ) (node now : NodeRecord) → get_or nodes i None ≡ Some node → set (set nodes i (Some now)) i (Some node) ≡ nodes
set_twice [] i node now there = refl
set_twice (x ∷ nodes) zero node now there = ap (λ (o : Option NodeRecord). o ∷ nodes) (sym there)
set_twice (x ∷ nodes) (suc i) node now there = ap (λ (l : List (Option NodeRecord)). x ∷ l) (set_twice nodes i node now there)

linked_push : (name : List ℕ) (hooks : List Hook) (hook : Hook) → bytes_eq hook.name name ≡ true → is_some (find (λ h. is_named name h && h.link.0 == hook.link.0) (hooks ++ hook ∷ [])) ≡ true
linked_push name [] hook own = let same : (hook.link.0 == hook.link.0) ≡ true = grind arith in rw (own, same) refl
linked_push name (x ∷ hooks) hook own = elim (cases_Bool (is_named name x && x.link.0 == hook.link.0)) [
  | inl is ↦ rw is refl
  | inr other ↦ rw other (linked_push name hooks hook own)
]

module _ (entries : List (Option NodeEntry)) (id : NodeId) (e now : NodeEntry) (hook : Hook) (at : get_or entries id.0 None ≡ Some e) where
  nodes_after : now ≡ with_node e (with_hook e.node hook) → map node_of (set entries id.0 (Some now)) ≡ set (map node_of entries) id.0 (Some (with_hook e.node hook))
  nodes_after is = nodes_set entries id.0 (Some now) ∙ ap (λ (h : NodeEntry). set (map node_of entries) id.0 (Some h.node)) is

  node_after : now ≡ with_node e (with_hook e.node hook) → node_in (map node_of (set entries id.0 (Some now))) id ≡ Some (with_hook e.node hook)
  node_after is = ap (λ (l : List (Option NodeRecord)). node_in l id) (nodes_after is) ∙ got_after (map node_of entries) id.0 e.node (with_hook e.node hook) (entry_node entries id e at)

  undone_after : without_hook (with_hook e.node hook) hook.name ≡ e.node → now ≡ with_node e (with_hook e.node hook) → change_at (map node_of (set entries id.0 (Some now))) id (λ node. without_hook node hook.name) ≡ map node_of entries
  undone_after back is =
      ap (λ (l : List (Option NodeRecord)). change_at l id (λ node. without_hook node hook.name)) (nodes_after is)
      ∙ ap (λ (o : Option NodeRecord). set (set (map node_of entries) id.0 (Some (with_hook e.node hook))) id.0 (option_map (λ node. without_hook node hook.name) o)) (got_after (map node_of entries) id.0 e.node (with_hook e.node hook) (entry_node entries id e at))
      ∙ ap (λ (r : NodeRecord). set (set (map node_of entries) id.0 (Some (with_hook e.node hook))) id.0 (Some r)) back
      ∙ set_twice (map node_of entries) id.0 e.node (with_hook e.node hook) (entry_node entries id e at)

  pub undone : {A E : Type 0} (r : Result A E) → OnOk r (without_hook (with_hook e.node hook) hook.name ≡ e.node) → OnOk r (now ≡ with_node e (with_hook e.node hook))
      → OnOk r (change_at (map node_of (set entries id.0 (Some now))) id (λ node. without_hook node hook.name) ≡ map node_of entries)
  undone (Ok a) back is = undone_after back is
  undone (Err x) back is = tt

  pub is_linked_after : now ≡ with_node e (with_hook e.node hook) → is_some (linked_hook_at (node_in (map node_of (set entries id.0 (Some now))) id) hook.name hook.link) ≡ true
  is_linked_after is = ap (λ (o : Option NodeRecord). is_some (linked_hook_at o hook.name hook.link)) (node_after is) ∙ linked_push hook.name e.node.hooks hook (own_name hook.name)
