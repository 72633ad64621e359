-- Lists of nodes by their states, and their kinds.
use Rattle.std.proofs.Common.{◌≡◌, ℕ, zero, suc, ◌+◌, ◌<◌, ◌≤◌, List, [], ◌∷◌, ◌++◌, map, replicate, length, get_or, take, refl, sym, ap, ◌∙◌, arith}
use Rattle.std.specs.List.{All, flat_map}
use Rattle.std.proofs.lemmas.List.{map-append, append_assoc, flat_map_more, take_more, take_all}
use Rattle.std.proofs.lemmas.List.Elements.{All-nil, All-cons, All-head, All-tail, All-same}
use Rattle.std.proofs.lemmas.Simd.{map-map}
use Rattle.ng_base.specs.declared.kind.Kind.{Kind}
use Rattle.ng_base.specs.declared.kind.Kind.TheVariants.{Hub, Hole, Echo, Tee, Split, One2many, Bridge, Vlan, Patch, Bpf, Ether, Socket, Etf, Macset}
use Rattle.ng_machine.specs.State.{State, kind_of, blank_of}

pub kind_of_blank : (kind : Kind) → kind_of (blank_of kind) ≡ kind
kind_of_blank Hub = refl
kind_of_blank Hole = refl
kind_of_blank Echo = refl
kind_of_blank Tee = refl
kind_of_blank Split = refl
kind_of_blank One2many = refl
kind_of_blank Bridge = refl
kind_of_blank Vlan = refl
kind_of_blank Patch = refl
kind_of_blank Bpf = refl
kind_of_blank Ether = refl
kind_of_blank Socket = refl
kind_of_blank Etf = refl
kind_of_blank Macset = refl

pub kinds_of_blanks : (kinds : List Kind) → map kind_of (map blank_of kinds) ≡ kinds
kinds_of_blanks [] = refl
kinds_of_blanks (kind ∷ kinds) = ap (λ (k : Kind). k ∷ map kind_of (map blank_of kinds)) (kind_of_blank kind)
    ∙ ap (λ (l : List Kind). kind ∷ l) (kinds_of_blanks kinds)

-- so many of each kind
abbrev pub each : ℕ → List Kind → List Kind
each count kinds = flat_map (λ (kind : Kind). replicate count kind) kinds

abbrev IsBlank : State → Type 0
IsBlank s = s ≡ blank_of (kind_of s)

all_of_map : {X Y : Type 0} (P : Y → Type 0) (f : X → Y) (xs : List X) → All P (map f xs) → All (λ x. P (f x)) xs
all_of_map P f [] all = All-nil (λ x. P (f x))
all_of_map P f (x ∷ xs) all =
    All-cons (λ x. P (f x)) x xs (All-head P (f x) (map f xs) all) (all_of_map P f xs (All-tail P (f x) (map f xs) all))

all_blank : (kinds : List Kind) → All IsBlank (map blank_of kinds)
all_blank [] = All-nil IsBlank
all_blank (kind ∷ kinds) = All-cons IsBlank (blank_of kind) (map blank_of kinds) (ap blank_of (sym (kind_of_blank kind))) (all_blank kinds)

-- each node is blank where the states are those of blank nodes
pub are_blank : {X : Type 0} (state : X → State) (nodes : List X) (kinds : List Kind)
    → map state nodes ≡ map blank_of kinds → All (λ node. state node ≡ blank_of (kind_of (state node))) nodes
are_blank state nodes kinds e = all_of_map IsBlank state nodes (All-same IsBlank (map state nodes) (map blank_of kinds) e (all_blank kinds))

-- and the kinds are theirs
pub are_kinds : {X : Type 0} (state : X → State) (nodes : List X) (kinds : List Kind)
    → map state nodes ≡ map blank_of kinds → map (λ node. kind_of (state node)) nodes ≡ kinds
are_kinds state nodes kinds e = sym (map-map kind_of state nodes) ∙ ap (map kind_of) e ∙ kinds_of_blanks kinds

replicate_push : (n : ℕ) {X : Type 0} (x : X) → replicate n x ++ x ∷ [] ≡ x ∷ replicate n x
replicate_push zero x = refl
replicate_push (suc n) x = ap (λ (l : List _). x ∷ l) (replicate_push n x)

map_replicate : {X Y : Type 0} (f : X → Y) (n : ℕ) (x : X) → map f (replicate n x) ≡ replicate n (f x)
map_replicate f zero x = refl
map_replicate f (suc n) x = ap (λ (l : List _). f x ∷ l) (map_replicate f n x)

-- one more of a state
pub one_more : {X : Type 0} (state : X → State) (before nodes : List X) (node : X) (count : ℕ) (one : State)
    → map state nodes ≡ map state before ++ replicate count one → state node ≡ one
    → map state (nodes ++ node ∷ []) ≡ map state before ++ replicate (count + 1) one
one_more state before nodes node count one so_far is = let more : count + 1 ≡ suc count = omega arith in
    map-append state nodes (node ∷ []) ∙ ap (λ (l : List State). l ++ state node ∷ []) so_far
    ∙ ap (λ (s : State). (map state before ++ replicate count one) ++ s ∷ []) is
    ∙ append_assoc (map state before) (replicate count one) (one ∷ [])
    ∙ ap (λ (l : List State). map state before ++ l) (replicate_push count one)
    ∙ ap (λ (n : ℕ). map state before ++ replicate n one) (sym more)

-- so many of a kind behind blank nodes
pub many_more : {X : Type 0} (state : X → State) (before nodes : List X) (kinds : List Kind) (count : ℕ) (kind : Kind)
    → map state before ≡ map blank_of kinds → map state nodes ≡ map state before ++ replicate count (blank_of kind)
    → map state nodes ≡ map blank_of (kinds ++ replicate count kind)
many_more state before nodes kinds count kind were are = are ∙ ap (λ (l : List State). l ++ replicate count (blank_of kind)) were
    ∙ ap (λ (l : List State). map blank_of kinds ++ l) (sym (map_replicate blank_of count kind))
    ∙ sym (map-append blank_of kinds (replicate count kind))

-- and so many of one more kind of a list
pub each_more : {X : Type 0} (state : X → State) (before nodes : List X) (first : List Kind) (count : ℕ) (kinds : List Kind) (i : ℕ) (d : Kind)
    → i < length kinds → map state before ≡ map blank_of (first ++ each count (take i kinds))
    → map state nodes ≡ map state before ++ replicate count (blank_of (get_or kinds i d))
    → map state nodes ≡ map blank_of (first ++ each count (take (i + 1) kinds))
each_more state before nodes first count kinds i d low were are =
    many_more state before nodes (first ++ each count (take i kinds)) count (get_or kinds i d) were are
    ∙ ap (map blank_of) (flat_map_more (λ (kind : Kind). replicate count kind) first (take i kinds) (get_or kinds i d))
    ∙ ap (λ (l : List Kind). map blank_of (first ++ each count l)) (sym (take_more kinds i d low))

-- where all of the list are taken
pub all_taken : {X : Type 0} (state : X → State) (nodes : List X) (first : List Kind) (count : ℕ) (kinds : List Kind) (i : ℕ)
    → length kinds ≤ i → map state nodes ≡ map blank_of (first ++ each count (take i kinds))
    → map state nodes ≡ map blank_of (first ++ each count kinds)
all_taken state nodes first count kinds i all are = are ∙ ap (λ (l : List Kind). map blank_of (first ++ each count l)) (take_all i kinds all)
