-- The graph that a core begins with, made port by port.
use Rattle.std.proofs.Common.{◌≡◌, ◌∙◌, ℕ, zero, suc, ◌+◌, ◌<◌, List, [], ◌∷◌, ◌++◌, length, map, Bool, true, false, not, ◌||◌, cond, refl, sym, ap, arith, length-append, replicate}
use Rattle.std.proofs.lemmas.Bool.{and_parts, or_parts, not-true}
use Rattle.std.proofs.lemmas.List.{map-append, replicate-append-replicate}
use Rattle.std.specs.Prelude.{take, get_or}
use Rattle.std.specs.Str.{bytes_eq}
use Rattle.std.specs.declared.option.Option.{Option}
use Rattle.std.specs.declared.option.Option.TheVariants.{None, Some}
use Rattle.ng_base.specs.Names.{has_name}
use Rattle.ng_base.specs.declared.kind.Kind.{Kind}
use Rattle.ng_base.specs.declared.kind.Kind.TheVariants.{Ether, Socket}
use Rattle.ng_base.proofs.NameLemmas.{differs_back}
use Rattle.ng_machine.specs.Stock.{without_kind, without_kinds}
use Rattle.ng_machine.specs.World.{NodeRecord, blank_node, find_named}
use Rattle.ng_topology.specs.Topology.{Topology, make_node}
use Rattle.ng_core.specs.Beginning.{start_graph}
use Rattle.ng_base.specs.Names.{are_different}

without_more : (stock : List Kind) (kind : Kind) (n : ℕ) → without_kind (without_kinds stock kind n) kind ≡ without_kinds stock kind (suc n)
without_more stock kind zero = refl
without_more stock kind (suc n) = without_more (without_kind stock kind) kind n

-- an ether node of that name
abbrev port_of_name : List ℕ → Option NodeRecord
port_of_name name = Some (blank_node (Some name) Ether)

pub started_more : (own : List ℕ) (names : List (List ℕ)) (x : List ℕ) (stock : List Kind)
    → make_node (start_graph own names stock) Ether (blank_node (Some x) Ether) ≡ start_graph own (names ++ x ∷ []) stock
started_more own names x stock =
    let nodes : map port_of_name names ++ port_of_name x ∷ [] ≡ map port_of_name (names ++ x ∷ []) = sym (map-append port_of_name names (x ∷ [])) in
    let len : length names + 1 ≡ length (names ++ x ∷ []) = sym (length-append names (x ∷ [])) in
    let home : replicate (length names) true ++ true ∷ [] ≡ replicate (length (names ++ x ∷ [])) true = replicate-append-replicate (length names) 1 true ∙ ap (λ (n : ℕ). replicate n true) len in
    let left : without_kind (without_kinds (without_kind stock Socket) Ether (length names)) Ether ≡ without_kinds (without_kind stock Socket) Ether (length (names ++ x ∷ [])) =
    without_more (without_kind stock Socket) Ether (length names) ∙ ap (without_kinds (without_kind stock Socket) Ether) (let e : suc (length names) ≡ length (names ++ x ∷ []) = omega arith in e) in
    ap (λ (l : List (Option NodeRecord)). let t : Topology = record { nodes = None ∷ Some (blank_node (Some own) Socket) ∷ l; home = false ∷ true ∷ (replicate (length names) true ++ true ∷ []); stock = without_kind (without_kinds (without_kind stock Socket) Ether (length names)) Ether; next_link = 1 } in t) nodes
    ∙ ap (λ (l : List Bool). let t : Topology = record { nodes = None ∷ Some (blank_node (Some own) Socket) ∷ map port_of_name (names ++ x ∷ []); home = false ∷ true ∷ l; stock = without_kind (without_kinds (without_kind stock Socket) Ether (length names)) Ether; next_link = 1 } in t) home
    ∙ ap (λ (l : List Kind). let t : Topology = record { nodes = None ∷ Some (blank_node (Some own) Socket) ∷ map port_of_name (names ++ x ∷ []); home = false ∷ true ∷ replicate (length (names ++ x ∷ [])) true; stock = l; next_link = 1 } in t) left

-- of different names none stands before itself
not_in : (all : List (List ℕ)) (y : List ℕ) (i : ℕ) (d : List ℕ) → i < length all → has_name all y ≡ false → bytes_eq y (get_or all i d) ≡ false
not_in [] y i d lt e = absurd (omega arith)
not_in (z ∷ all) y zero d lt e = differs_back z y (or_parts (bytes_eq z y) (has_name all y) e).0
not_in (z ∷ all) y (suc i) d lt e = not_in all y i d (omega arith) (or_parts (bytes_eq z y) (has_name all y) e).1

either_false : (a b : Bool) → a ≡ false → b ≡ false → (a || b) ≡ false
either_false a b p q = grind (arith, p, q)

differ_at : (all : List (List ℕ)) (i : ℕ) (d : List ℕ) → are_different all ≡ true → i < length all → has_name (take i all) (get_or all i d) ≡ false
differ_at [] i d e lt = absurd (omega arith)
differ_at (y ∷ all) zero d e lt = refl
differ_at (y ∷ all) (suc i) d e lt =
    let p = and_parts (not (has_name all y)) (are_different all) e in
    either_false (bytes_eq y (get_or all i d)) (has_name (take i all) (get_or all i d)) (not_in all y i d (omega arith) (not-true (has_name all y) p.0)) (differ_at all i d p.1 (omega arith))

-- no node has a name that isn't among these
not_found : (names : List (List ℕ)) (x : List ℕ) (n : ℕ) → has_name names x ≡ false → find_named n x (map port_of_name names) ≡ None
not_found [] x n e = refl
not_found (y ∷ names) x n e =
    let p = or_parts (bytes_eq y x) (has_name names x) e in
    ap (λ (b : Bool). cond b (Some (record { 0 = n })) (find_named (n + 1) x (map port_of_name names))) p.0 ∙ not_found names x (n + 1) p.1

pub nobody_named : (own : List ℕ) (names : List (List ℕ)) (i : ℕ) (d : List ℕ) (stock : List Kind) → are_different (own ∷ names) ≡ true → i < length names
    → find_named 0 (get_or names i d) (start_graph own (take i names) stock).nodes ≡ None
nobody_named own names i d stock e lt =
    let x = get_or names i d in
    let p = or_parts (bytes_eq own x) (has_name (take i names) x) (differ_at (own ∷ names) (suc i) d e (omega arith)) in
    ap (λ (b : Bool). cond b (Some (record { 0 = 1 })) (find_named 2 x (map port_of_name (take i names)))) p.0 ∙ not_found (take i names) x 2 p.1
