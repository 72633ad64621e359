-- The index of names, when a node is changed, made, named or removed.
use Rattle.std.proofs.Common.{◌≡◌, ⊎_elim, ℕ, zero, suc, ◌+◌, ◌≤◌, Bool, true, false, cond, List, [], ◌∷◌, ◌++◌, length, get_or, set, is_some, Option, Some, None, refl, sym, ap, ◌∙◌, subst, inl, inr, arith}
use Rattle.std.specs.Option.{option_map}
use Rattle.std.specs.BTreeMap.{BTreeMap, is_at, Updates}
use Rattle.std.specs.Cmp.Lexicographic.{slice_cmp}
use Rattle.std.specs.Ordering.{nat_cmp}
use Rattle.std.specs.Str.{bytes_eq}
use Rattle.std.proofs.lemmas.Bool.{cases_Bool, cases_eq}
use Rattle.std.proofs.lemmas.List.{get_or-set_other, length-set, length-append}
use Rattle.std.specs.Prelude.{◌≢◌, IsSome}
use Rattle.std.specs.Map.{lookup}
use Rattle.std.proofs.lemmas.Map.Text.{is_eq-slice_cmp}
use Rattle.std.proofs.lemmas.Slice.Eq.{bytes_eq-Decides}
use Rattle.ng_base.specs.declared.ids.NodeId.{NodeId}
use Rattle.ng_base.specs.declared.kind.Kind.{Kind}
use Rattle.ng_machine.specs.World.{NodeRecord, node_in, node_id, same_name, has_name, find_named}
use Rattle.ng_topology.specs.NameIndex.{AreIndexed, Enters, Forgets, IsConsistent, id_under}
use Rattle.ng_topology.specs.NodePlaces.{NodePlaces, HasRoom}
use Rattle.ng_topology.specs.Topology.{Topology, name_of, change_at, is_free}

abbrev Index : Type 0
Index = BTreeMap (List ℕ) NodeId

abbrev Nodes : Type 0
Nodes = List (Option NodeRecord)

-- NAMES

equal_names : (a b : List ℕ) → bytes_eq a b ≡ true → a ≡ b
equal_names a b is = (bytes_eq-Decides a b).0 is

own_name : (a : List ℕ) → bytes_eq a a ≡ true
own_name a = (bytes_eq-Decides a a).1 refl

has_same : (name : List ℕ) (own : Option (List ℕ)) → own ≡ Some name → same_name name own ≡ true
has_same name own is = rw is (own_name name)

same_has : (name : List ℕ) (own : Option (List ℕ)) → same_name name own ≡ true → own ≡ Some name
same_has name None is = absurd (cc is)
same_has name (Some own) is = ap (λ (n : List ℕ). Some n) (equal_names own name is)

not_some : {A : Type 0} (o : Option A) (a : A) → o ≡ None → o ≡ Some a → ⊥
not_some o a none some = let never : None ≡ Some a = sym none ∙ some in absurd (cc never)

-- THE NODE OF A NAME BY THE INDEX

named_here : (node : Option NodeRecord) (name : List ℕ) → has_name name node ≡ same_name name (name_of node)
named_here None name = refl
named_here (Some node) name = refl

found_name : (name : List ℕ) (nodes : Nodes) (n : ℕ) (id : NodeId) → find_named n name nodes ≡ Some id → (k : ℕ) × (id ≡ node_id (n + k)) × (name_of (get_or nodes k None) ≡ Some name)
found_name name [] n id is = absurd (cc is)
found_name name (x ∷ nodes) n id is = elim (cases_Bool (has_name name x)) [
  | inl here ↦
      let same : Some (node_id n) ≡ Some id = rw here at is in
      let at : id ≡ node_id n = cc same in
      (0, at ∙ ap node_id (let e : n ≡ n + 0 = omega arith in e), same_has name (name_of x) (sym (named_here x name) ∙ here))
  | inr other ↦
      let rest = found_name name nodes (n + 1) id (rw other at is) in
      (suc (rest.0), rest.1 ∙ ap node_id (let e : n + 1 + rest.0 ≡ n + suc (rest.0) = omega arith in e), rest.2)
]

no_name : (name : List ℕ) (nodes : Nodes) (n k : ℕ) → find_named n name nodes ≡ None → name_of (get_or nodes k None) ≡ Some name → ⊥
no_name name [] n k none has = absurd (cc has)
no_name name (x ∷ nodes) n zero none has =
    let here : has_name name x ≡ true = named_here x name ∙ has_same name (name_of x) has in
    let never : Some (node_id n) ≡ None = rw here at none in absurd (cc never)
no_name name (x ∷ nodes) n (suc k) none has = elim (cases_Bool (has_name name x)) [
  | inl here ↦ let never : Some (node_id n) ≡ None = rw here at none in absurd (cc never)
  | inr other ↦ no_name name nodes (n + 1) k (rw other at none) has
]

no_id : (nodes : Nodes) (m : Index) (name : List ℕ) (o : Option NodeId) → find_named 0 name nodes ≡ None → AreIndexed nodes m → id_under m name ≡ o → o ≡ None
no_id nodes m name None none indexed is = refl
no_id nodes m name (Some id) none indexed is = absurd (no_name name nodes 0 id.0 none (indexed.by_name name id is))

find_as : (nodes : Nodes) (m : Index) (name : List ℕ) (o : Option NodeId) → find_named 0 name nodes ≡ o → AreIndexed nodes m → id_under m name ≡ o
find_as nodes m name None is indexed = no_id nodes m name (id_under m name) is indexed refl
find_as nodes m name (Some id) is indexed =
    let f = found_name name nodes 0 id is in
    let at : id.0 ≡ f.0 = ap (λ (i : NodeId). i.0) f.1 ∙ (let e : 0 + f.0 ≡ f.0 = omega arith in e) in
    indexed.by_node id name (ap (λ (k : ℕ). name_of (get_or nodes k None)) at ∙ f.2)

-- the index finds the node of a name
pub find_by_index : (nodes : Nodes) (m : Index) (name : List ℕ) → AreIndexed nodes m → id_under m name ≡ find_named 0 name nodes
find_by_index nodes m name indexed = find_as nodes m name (find_named 0 name nodes) refl indexed

no_free : (nodes : Nodes) (own : List ℕ) (b : Bool) → is_some (find_named 0 own nodes) ≡ b → cond b false true ≡ true → find_named 0 own nodes ≡ None
no_free nodes own true is free = absurd (cc free)
no_free nodes own false is free = none_if (find_named 0 own nodes) is
  where
    none_if : (o : Option NodeId) → is_some o ≡ false → o ≡ None
    none_if None e = refl
    none_if (Some id) e = absurd (cc e)

-- nothing stands under a name that is free
pub free_under : (t : Topology) (m : Index) (name : Option (List ℕ)) → is_free t name ≡ true → AreIndexed t.nodes m → (own : List ℕ) → name ≡ Some own → id_under m own ≡ None
free_under t m None free indexed own is = absurd (cc is)
free_under t m (Some given) free indexed own is =
    let same : given ≡ own = cc is in
    let none : find_named 0 given t.nodes ≡ None = no_free t.nodes given (is_some (find_named 0 given t.nodes)) refl free in
    find_by_index t.nodes m own indexed ∙ ap (λ (n : List ℕ). find_named 0 n t.nodes) (sym same) ∙ none

-- THE INDEX AFTER A CHANGE

same_id : (a b : NodeId) → a.0 ≡ b.0 → a ≡ b
same_id a b is = ap (λ (n : ℕ). let id : NodeId = record { 0 = n } in id) is

pub same_names : (nodes now : Nodes) (m : Index) → ((k : NodeId) → name_of (node_in now k) ≡ name_of (node_in nodes k)) → AreIndexed nodes m → AreIndexed now m
same_names nodes now m same indexed = record {
  by_node = λ id name has. indexed.by_node id name (sym (same id) ∙ has);
  by_name = λ name id is. same id ∙ indexed.by_name name id is;
}

module _ (nodes now : Nodes) (m n : Index) (id : NodeId) (name : Option (List ℕ)) (indexed : AreIndexed nodes m) (others : (k : NodeId) → k.0 ≢ id.0 → name_of (node_in now k) ≡ name_of (node_in nodes k)) where
  module _ (here : name_of (node_in now id) ≡ name) (before : name_of (node_in nodes id) ≡ None) (free : (own : List ℕ) → name ≡ Some own → id_under m own ≡ None) (enters : Enters m n name id) where
    not_entered : (q : List ℕ) (k : NodeId) → id_under m q ≡ Some k → same_name q name ≡ false
    not_entered q k was = elim (cases_Bool (same_name q name)) [
      | inl is ↦ absurd (not_some (id_under m q) k (free q (same_has q name is)) was)
      | inr e ↦ e
    ]

    enter_by_node : (k : NodeId) (q : List ℕ) → name_of (node_in now k) ≡ Some q → id_under n q ≡ Some k
    enter_by_node k q has = ⊎_elim
        (λ (e : k.0 ≡ id.0).
        let same : k ≡ id = same_id k id e in
        let own : name ≡ Some q = sym here ∙ ap (λ (i : NodeId). name_of (node_in now i)) (sym same) ∙ has in
        enters q ∙ ap (λ (b : Bool). cond b (Some id) (id_under m q)) (has_same q name own) ∙ ap (λ (i : NodeId). Some i) (sym same))
        (λ (d : k.0 ≢ id.0).
        let was : id_under m q ≡ Some k = indexed.by_node k q (sym (others k d) ∙ has) in
        enters q ∙ ap (λ (b : Bool). cond b (Some id) (id_under m q)) (not_entered q k was) ∙ was)
        (cases_eq k.0 id.0)

    enter_by_name : (q : List ℕ) (k : NodeId) → id_under n q ≡ Some k → name_of (node_in now k) ≡ Some q
    enter_by_name q k is = elim (cases_Bool (same_name q name)) [
      | inl same_as ↦
          let it : Some id ≡ Some k = sym (ap (λ (b : Bool). cond b (Some id) (id_under m q)) same_as) ∙ sym (enters q) ∙ is in
          let same : id ≡ k = cc it in
          ap (λ (i : NodeId). name_of (node_in now i)) (sym same) ∙ here ∙ same_has q name same_as
      | inr off ↦
          let was : id_under m q ≡ Some k = sym (ap (λ (b : Bool). cond b (Some id) (id_under m q)) off) ∙ sym (enters q) ∙ is in
          let has = indexed.by_name q k was in
          ⊎_elim
          (λ (e : k.0 ≡ id.0). absurd (not_some (name_of (node_in nodes k)) q (ap (λ (i : NodeId). name_of (node_in nodes i)) (same_id k id e) ∙ before) has))
          (λ (d : k.0 ≢ id.0). others k d ∙ has)
          (cases_eq k.0 id.0)
    ]

    pub entered : AreIndexed now n
    entered = record { by_node = enter_by_node; by_name = enter_by_name }

  module _ (was : name_of (node_in nodes id) ≡ name) (gone : name_of (node_in now id) ≡ None) (forgets : Forgets m n name) where
    not_forgotten : (q : List ℕ) (k : NodeId) → k.0 ≢ id.0 → id_under m q ≡ Some k → same_name q name ≡ false
    not_forgotten q k d is = elim (cases_Bool (same_name q name)) [
      | inl same_as ↦
          let it : Some k ≡ Some id = sym is ∙ indexed.by_node id q (was ∙ same_has q name same_as) in
          let same : k ≡ id = cc it in absurd (d (ap (λ (i : NodeId). i.0) same))
      | inr off ↦ off
    ]

    forget_by_node : (k : NodeId) (q : List ℕ) → name_of (node_in now k) ≡ Some q → id_under n q ≡ Some k
    forget_by_node k q has = ⊎_elim
        (λ (e : k.0 ≡ id.0). absurd (not_some (name_of (node_in now k)) q (ap (λ (i : NodeId). name_of (node_in now i)) (same_id k id e) ∙ gone) has))
        (λ (d : k.0 ≢ id.0).
        let is : id_under m q ≡ Some k = indexed.by_node k q (sym (others k d) ∙ has) in
        forgets q ∙ ap (λ (b : Bool). cond b None (id_under m q)) (not_forgotten q k d is) ∙ is)
        (cases_eq k.0 id.0)

    forget_by_name : (q : List ℕ) (k : NodeId) → id_under n q ≡ Some k → name_of (node_in now k) ≡ Some q
    forget_by_name q k is = elim (cases_Bool (same_name q name)) [
      | inl same_as ↦
          let never : None ≡ Some k = sym (ap (λ (b : Bool). cond b None (id_under m q)) same_as) ∙ sym (forgets q) ∙ is in absurd (cc never)
      | inr off ↦
          let it : id_under m q ≡ Some k = sym (ap (λ (b : Bool). cond b None (id_under m q)) off) ∙ sym (forgets q) ∙ is in
          let has = indexed.by_name q k it in
          ⊎_elim
          (λ (e : k.0 ≡ id.0).
          let own : name ≡ Some q = sym was ∙ ap (λ (i : NodeId). name_of (node_in nodes i)) (sym (same_id k id e)) ∙ has in
          let never : true ≡ false = sym (has_same q name own) ∙ off in absurd (cc never))
          (λ (d : k.0 ≢ id.0). others k d ∙ has)
          (cases_eq k.0 id.0)
    ]

    pub forgotten : AreIndexed now n
    forgotten = record { by_node = forget_by_node; by_name = forget_by_name }

-- NAMES IN THE LIST AFTER A CHANGE

name_mapped : (f : NodeRecord → NodeRecord) (node : Option NodeRecord) → ((r : NodeRecord) → (f r).name ≡ r.name) → name_of (option_map f node) ≡ name_of node
name_mapped f None keeps = refl
name_mapped f (Some node) keeps = keeps node

name_changed : (nodes : Nodes) (i k : ℕ) (f : NodeRecord → NodeRecord) → ((r : NodeRecord) → (f r).name ≡ r.name) → name_of (get_or (set nodes i (option_map f (get_or nodes i None))) k None) ≡ name_of (get_or nodes k None)
name_changed [] i k f keeps = refl
name_changed (x ∷ nodes) zero zero f keeps = name_mapped f x keeps
name_changed (x ∷ nodes) zero (suc k) f keeps = refl
name_changed (x ∷ nodes) (suc i) zero f keeps = refl
name_changed (x ∷ nodes) (suc i) (suc k) f keeps = name_changed nodes i k f keeps

name_last : (nodes : Nodes) (node : NodeRecord) → name_of (get_or (nodes ++ Some node ∷ []) (length nodes) None) ≡ node.name
name_last [] node = refl
name_last (x ∷ nodes) node = name_last nodes node

name_past : (nodes : Nodes) → name_of (get_or nodes (length nodes) None) ≡ None
name_past [] = refl
name_past (x ∷ nodes) = name_past nodes

name_pushed : (nodes : Nodes) (node : NodeRecord) (k : ℕ) → k ≢ length nodes → name_of (get_or (nodes ++ Some node ∷ []) k None) ≡ name_of (get_or nodes k None)
name_pushed [] node zero d = absurd (d refl)
name_pushed [] node (suc k) d = refl
name_pushed (x ∷ nodes) node zero d = refl
name_pushed (x ∷ nodes) node (suc k) d = name_pushed nodes node k (λ (e : k ≡ length nodes). d (ap suc e))

name_pushed_none : (nodes : Nodes) (node : NodeRecord) (k : ℕ) → node.name ≡ None → name_of (get_or (nodes ++ Some node ∷ []) k None) ≡ name_of (get_or nodes k None)
name_pushed_none [] node zero none = none
name_pushed_none [] node (suc k) none = refl
name_pushed_none (x ∷ nodes) node zero none = refl
name_pushed_none (x ∷ nodes) node (suc k) none = name_pushed_none nodes node k none

name_gone : (nodes : Nodes) (i : ℕ) → name_of (get_or (set nodes i None) i None) ≡ None
name_gone [] i = refl
name_gone (x ∷ nodes) zero = refl
name_gone (x ∷ nodes) (suc i) = name_gone nodes i

name_others : (nodes : Nodes) (i k : ℕ) (node : Option NodeRecord) → k ≢ i → name_of (get_or (set nodes i node) k None) ≡ name_of (get_or nodes k None)
name_others nodes i k node d = ap name_of (get_or-set_other nodes i k node None d)

name_given : (nodes : Nodes) (i : ℕ) (own : List ℕ) → IsSome (get_or nodes i None) → name_of (get_or (set nodes i (option_map (λ (r : NodeRecord). record r { name = Some own }) (get_or nodes i None))) i None) ≡ Some own
name_given [] i own there = absurd (cc there)
name_given (None ∷ nodes) zero own there = absurd (cc there)
name_given (Some node ∷ nodes) zero own there = refl
name_given (x ∷ nodes) (suc i) own there = name_given nodes i own there

-- THE FIELDS OF A GRAPH

few_set : (p now : NodePlaces) (i : ℕ) (node : Option NodeRecord) → now.nodes ≡ set p.nodes i node → now.room ≡ p.room → length p.nodes + p.room ≤ 4000000001 → length now.nodes + now.room ≤ 4000000001
few_set p now i node nodes room few =
    let as_many : length now.nodes ≡ length p.nodes = ap (λ (l : Nodes). length l) nodes ∙ length-set p.nodes i node in omega arith

room_kept : (p now : NodePlaces) (stock : List Kind) → length now.nodes + now.room ≤ 4000000001 → now.room ≡ p.room → HasRoom p stock → HasRoom now stock
room_kept p now stock few room has = record { enough = let enough = has.enough in omega arith; few = few }

pub consistent_change : (p now : NodePlaces) (stock : List Kind) (m : Index) (id : NodeId) (f : NodeRecord → NodeRecord) → ((r : NodeRecord) → (f r).name ≡ r.name)
    → now.nodes ≡ change_at p.nodes id f → now.room ≡ p.room → IsConsistent p stock m → IsConsistent now stock m
consistent_change p now stock m id f keeps nodes room c = record {
  room = room_kept p now stock (few_set p now id.0 (option_map f (node_in p.nodes id)) nodes room c.room.few) room c.room;
  names = subst (λ (l : Nodes). AreIndexed l m) (sym nodes) (same_names p.nodes (change_at p.nodes id f) m (λ k. name_changed p.nodes id.0 k.0 f keeps) c.names);
}

pub consistent_if : (b : Bool) (p now : NodePlaces) (stock : List Kind) (m : Index) (id : NodeId) (f : NodeRecord → NodeRecord) → ((r : NodeRecord) → (f r).name ≡ r.name)
    → now ≡ cond b (record p { nodes = change_at p.nodes id f }) p → IsConsistent p stock m → IsConsistent now stock m
consistent_if true p now stock m id f keeps is c = consistent_change p now stock m id f keeps (ap (λ (x : NodePlaces). x.nodes) is) (ap (λ (x : NodePlaces). x.room) is) c
consistent_if false p now stock m id f keeps is c = subst (λ (x : NodePlaces). IsConsistent x stock m) (sym is) c

-- one more node
few_push : (p now : NodePlaces) (node : NodeRecord) → now.nodes ≡ p.nodes ++ Some node ∷ [] → now.room + 1 ≡ p.room → length p.nodes + p.room ≤ 4000000001 → length now.nodes + now.room ≤ 4000000001
few_push p now node nodes room few =
    let more : length now.nodes ≡ length p.nodes + 1 = ap (λ (l : Nodes). length l) nodes ∙ length-append p.nodes (Some node ∷ []) in omega arith

pub consistent_make : (p now : NodePlaces) (stock left : List Kind) (m n : Index) (id : NodeId) (node : NodeRecord) (name : Option (List ℕ)) → node.name ≡ name → id ≡ node_id (length p.nodes) → now.nodes ≡ p.nodes ++ Some node ∷ [] → now.room + 1 ≡ p.room → length left + 1 ≡ length stock
    → ((own : List ℕ) → name ≡ Some own → id_under m own ≡ None) → Enters m n name id → IsConsistent p stock m → IsConsistent now left n
consistent_make p now stock left m n id node name named is nodes room fewer free enters c = record {
  room = record { enough = let enough = c.room.enough in omega arith; few = few_push p now node nodes room c.room.few };
  names =
      subst (λ (l : Nodes). AreIndexed l n) (sym nodes)
      (entered p.nodes (p.nodes ++ Some node ∷ []) m n (node_id (length p.nodes)) name c.names (λ k d. name_pushed p.nodes node k.0 d)
      (name_last p.nodes node ∙ named) (name_past p.nodes) free (subst (λ (i : NodeId). Enters m n name i) is enters));
}

pub consistent_push : (p now : NodePlaces) (stock left : List Kind) (m : Index) (node : NodeRecord) → node.name ≡ None → now.nodes ≡ p.nodes ++ Some node ∷ [] → now.room + 1 ≡ p.room → length left + 1 ≡ length stock
    → IsConsistent p stock m → IsConsistent now left m
consistent_push p now stock left m node none nodes room fewer c = record {
  room = record { enough = let enough = c.room.enough in omega arith; few = few_push p now node nodes room c.room.few };
  names = subst (λ (l : Nodes). AreIndexed l m) (sym nodes) (same_names p.nodes (p.nodes ++ Some node ∷ []) m (λ k. name_pushed_none p.nodes node k.0 none) c.names);
}

-- a node gets a name
pub consistent_rename : (p now : NodePlaces) (stock : List Kind) (m n : Index) (id : NodeId) (own : List ℕ) → IsSome (node_in p.nodes id) → name_of (node_in p.nodes id) ≡ None
    → now.nodes ≡ change_at p.nodes id (λ r. record r { name = Some own }) → now.room ≡ p.room → ((other : List ℕ) → Some own ≡ Some other → id_under m other ≡ None) → Enters m n (Some own) id → IsConsistent p stock m → IsConsistent now stock n
consistent_rename p now stock m n id own there unnamed nodes room free enters c = record {
  room = room_kept p now stock (few_set p now id.0 (option_map (λ (r : NodeRecord). record r { name = Some own }) (node_in p.nodes id)) nodes room c.room.few) room c.room;
  names =
      subst (λ (l : Nodes). AreIndexed l n) (sym nodes)
      (entered p.nodes (change_at p.nodes id (λ r. record r { name = Some own })) m n id (Some own) c.names (λ k d. name_others p.nodes id.0 k.0 (option_map (λ (r : NodeRecord). record r { name = Some own }) (node_in p.nodes id)) d)
      (name_given p.nodes id.0 own there) unnamed free enters);
}

-- a node goes
pub consistent_retire : (p now : NodePlaces) (stock : List Kind) (m n : Index) (id : NodeId) (name : Option (List ℕ)) → name ≡ name_of (node_in p.nodes id) → now.nodes ≡ set p.nodes id.0 None → now.room ≡ p.room → Forgets m n name → IsConsistent p stock m → IsConsistent now stock n
consistent_retire p now stock m n id name is nodes room forgets c = record {
  room = room_kept p now stock (few_set p now id.0 None nodes room c.room.few) room c.room;
  names =
      subst (λ (l : Nodes). AreIndexed l n) (sym nodes)
      (forgotten p.nodes (set p.nodes id.0 None) m n id name c.names (λ k d. name_others p.nodes id.0 k.0 None d) (sym is) (name_gone p.nodes id.0) forgets);
}

-- before any node
pub no_names : (m : Index) (stock : List Kind) (room : ℕ) → m.entries ≡ [] → length stock ≤ room → room ≤ 4000000000 → IsConsistent (record { nodes = None ∷ []; home = false ∷ []; room = room }) stock m
no_names m stock room empty enough few = record {
  room = record { enough = enough; few = omega arith };
  names = record {
    by_node = λ id name has. absurd (nobody id.0 name has);
    by_name = λ name id is. absurd (not_some (id_under m name) id (under name) is);
  };
}
  where
    under : (name : List ℕ) → id_under m name ≡ None
    under name = ap (λ (es : List (List ℕ × NodeId)). lookup (is_at (slice_cmp nat_cmp name)) es) empty

    nobody : (k : ℕ) (name : List ℕ) → name_of (get_or (let l : Nodes = None ∷ [] in l) k None) ≡ Some name → ⊥
    nobody zero name has = absurd (cc has)
    nobody (suc k) name has = absurd (cc has)

-- WHAT A TREE DOES TO ONE NAME

-- a number is put under a name
pub enters_updates : (m n : Index) (name : Option (List ℕ)) (own : List ℕ) (id : NodeId) → name ≡ Some own → Updates (slice_cmp nat_cmp) m n own (Some id) → Enters m n name id
enters_updates m n name own id is updates = rw is (λ q. updates.0 q ∙ ap (λ (b : Bool). cond b (Some id) (id_under m q)) (is_eq-slice_cmp own q))

-- a name is taken out
pub forgets_updates : (m n : Index) (name : Option (List ℕ)) (own : List ℕ) → name ≡ Some own → Updates (slice_cmp nat_cmp) m n own None → Forgets m n name
forgets_updates m n name own is updates = rw is (λ q. updates.0 q ∙ ap (λ (b : Bool). cond b None (id_under m q)) (is_eq-slice_cmp own q))

-- an index that has the same entries
pub same_entries : (nodes : Nodes) (m n : Index) → n.entries ≡ m.entries → AreIndexed nodes m → AreIndexed nodes n
same_entries nodes m n same indexed = record {
  by_node = λ id name has. under name ∙ indexed.by_node id name has;
  by_name = λ name id is. indexed.by_name name id (sym (under name) ∙ is);
}
  where
    under : (name : List ℕ) → id_under n name ≡ id_under m name
    under name = ap (λ (es : List (List ℕ × NodeId)). lookup (is_at (slice_cmp nat_cmp name)) es) same
