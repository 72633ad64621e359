-- What is kept at the beginning stands for the beginning.
use Rattle.std.proofs.Common.{◌≡◌, ◌∙◌, ℕ, zero, suc, ◌+◌, ◌<◌, ◌≤◌, List, [], ◌∷◌, length, map, replicate, Bool, true, false, ◌||◌, is_some, refl, sym, ap, subst, arith, true≢false}
use Rattle.std.proofs.lemmas.List.{length-replicate, length-take-le}
use Rattle.std.specs.Prelude.{get_or, if◌then◌else◌, take}
use Rattle.std.specs.declared.option.Option.{Option}
use Rattle.std.specs.declared.option.Option.TheVariants.{None, Some}
use Rattle.ng_base.specs.declared.kind.Kind.{Kind}
use Rattle.ng_base.specs.declared.kind.Kind.TheVariants.{Hub, Hole, Echo, Tee, Split, One2many, Bridge, Vlan, Patch, Bpf, Ether, Socket, Etf, Macset}
use Rattle.ng_base.specs.Kind.{same_kind}
use Rattle.ng_machine.specs.Run.{RunState, beginning}
use Rattle.ng_machine.specs.Stock.{has_kind, without_kind, without_kinds}
use Rattle.ng_machine.specs.Words.{times}
use Rattle.ng_machine.specs.World.{NodeRecord, Port, blank_node, blank_port, start_of}
use Rattle.ng_queue.specs.pending.Holds.{HoldsItems}
use Rattle.ng_topology.specs.OfWorld.{IsOfWorld}
use Rattle.ng_topology.specs.Topology.{Topology}
use Rattle.ng_core_state.specs.declared.state.State.{State}
use Rattle.ng_core_state.specs.Lent.{Lent}
use Rattle.ng_core_state.specs.Stands.{Stands, port_of}
use Rattle.ng_core.specs.Beginning.{start_graph}
use Rattle.ng_core.specs.Calls.{HasBoxes}
use Rattle.ng_core.proofs.Mapped.{map_length}

-- how many are of the kind
abbrev count : List Kind → Kind → ℕ
count ks kind = times (λ (k : Kind). same_kind k kind) ks

-- one fewer is left of a kind that is there
fewer : (ks : List Kind) (kind : Kind) → has_kind ks kind ≡ true → length (without_kind ks kind) + 1 ≡ length ks
fewer [] kind e = absurd (true≢false (sym e))
fewer (k ∷ ks) kind e = by (fewer ks kind) (same_kind k kind) refl
  where
    by : (has_kind ks kind ≡ true → length (without_kind ks kind) + 1 ≡ length ks) → (b : Bool) → same_kind k kind ≡ b → length (without_kind (k ∷ ks) kind) + 1 ≡ length (k ∷ ks)
    by go true is = subst (λ (c : Bool). length (if c then ks else k ∷ without_kind ks kind) + 1 ≡ length (k ∷ ks)) (sym is) (omega arith)
    by go false is =
        let rest : has_kind ks kind ≡ true = subst (λ (c : Bool). (c || has_kind ks kind) ≡ true) is e in
        let less = go rest in
        subst (λ (c : Bool). length (if c then ks else k ∷ without_kind ks kind) + 1 ≡ length (k ∷ ks)) (sym is) (omega arith)

-- where some of a kind are there, it is there
some_there : (ks : List Kind) (kind : Kind) → 0 < count ks kind → has_kind ks kind ≡ true
some_there [] kind lt = absurd (omega arith)
some_there (k ∷ ks) kind lt = by (some_there ks kind) (same_kind k kind) refl
  where
    by : (0 < count ks kind → has_kind ks kind ≡ true) → (b : Bool) → same_kind k kind ≡ b → has_kind (k ∷ ks) kind ≡ true
    by go true is = subst (λ (c : Bool). (c || has_kind ks kind) ≡ true) (sym is) refl
    by go false is =
        let more : 0 < 0 + count ks kind = subst (λ (c : Bool). 0 < (if c then 1 else 0) + count ks kind) is lt in
        subst (λ (c : Bool). (c || has_kind ks kind) ≡ true) (sym is) (go (omega arith))

-- and one fewer of it is left
fewer_of : (ks : List Kind) (kind : Kind) (n : ℕ) → n + 1 ≤ count ks kind → n ≤ count (without_kind ks kind) kind
fewer_of [] kind n le = omega arith
fewer_of (k ∷ ks) kind n le = by (fewer_of ks kind n) (same_kind k kind) refl
  where
    by : (n + 1 ≤ count ks kind → n ≤ count (without_kind ks kind) kind) → (b : Bool) → same_kind k kind ≡ b → n ≤ count (without_kind (k ∷ ks) kind) kind
    by go true is =
        let more : n + 1 ≤ 1 + count ks kind = subst (λ (c : Bool). n + 1 ≤ (if c then 1 else 0) + count ks kind) is le in
        subst (λ (c : Bool). n ≤ count (if c then ks else k ∷ without_kind ks kind) kind) (sym is) (omega arith)
    by go false is =
        let more : n + 1 ≤ 0 + count ks kind = subst (λ (c : Bool). n + 1 ≤ (if c then 1 else 0) + count ks kind) is le in
        let rest = go (omega arith) in
        subst (λ (c : Bool). n ≤ count (if c then ks else k ∷ without_kind ks kind) kind) (sym is)
        (subst (λ (c : Bool). n ≤ (if c then 1 else 0) + count (without_kind ks kind) kind) (sym is) (omega arith))

-- a socket is no ether
no_ether : (k : Kind) → same_kind k Socket ≡ true → same_kind k Ether ≡ false
no_ether Hub e = refl
no_ether Hole e = refl
no_ether Echo e = refl
no_ether Tee e = refl
no_ether Split e = refl
no_ether One2many e = refl
no_ether Bridge e = refl
no_ether Vlan e = refl
no_ether Patch e = refl
no_ether Bpf e = refl
no_ether Ether e = absurd (true≢false (sym e))
no_ether Socket e = refl
no_ether Etf e = refl
no_ether Macset e = refl

ethers_left : (ks : List Kind) → count ks Ether ≤ count (without_kind ks Socket) Ether
ethers_left [] = omega arith
ethers_left (k ∷ ks) = by (ethers_left ks) (same_kind k Socket) refl
  where
    by : count ks Ether ≤ count (without_kind ks Socket) Ether → (b : Bool) → same_kind k Socket ≡ b → count (k ∷ ks) Ether ≤ count (without_kind (k ∷ ks) Socket) Ether
    by rest true is =
        subst (λ (c : Bool). count (k ∷ ks) Ether ≤ count (if c then ks else k ∷ without_kind ks Socket) Ether) (sym is)
        (subst (λ (c : Bool). (if c then 1 else 0) + count ks Ether ≤ count ks Ether) (sym (no_ether k is)) (omega arith))
    by rest false is =
        subst (λ (c : Bool). count (k ∷ ks) Ether ≤ count (if c then ks else k ∷ without_kind ks Socket) Ether) (sym is) (omega arith)

fewer_all : (ks : List Kind) (kind : Kind) (n : ℕ) → n ≤ count ks kind → length (without_kinds ks kind n) + n ≡ length ks
fewer_all ks kind zero le = omega arith
fewer_all ks kind (suc n) le =
    let one = fewer ks kind (some_there ks kind (omega arith)) in
    let rest = fewer_all (without_kind ks kind) kind n (fewer_of ks kind n (omega arith)) in
    omega arith

-- so one is left for each port
one_left : (ks : List Kind) (kind : Kind) (n m : ℕ) → n < m → m ≤ count ks kind → 0 < count (without_kinds ks kind n) kind
one_left ks kind zero m lt le = omega arith
one_left ks kind (suc n) zero lt le = absurd (omega arith)
one_left ks kind (suc n) (suc m) lt le = one_left (without_kind ks kind) kind n m (omega arith) (fewer_of ks kind m (omega arith))

pub ether_left : (own : List ℕ) (ports : List (List ℕ)) (stock : List Kind) (i : ℕ) → HasBoxes ports stock → i < length ports
    → has_kind (start_graph own (take i ports) stock).stock Ether ≡ true
ether_left own ports stock i boxes lt =
    let long : length (take i ports) < length ports = let e = length-take-le i ports (omega arith) in omega arith in
    let left = ethers_left stock in
    some_there (without_kinds (without_kind stock Socket) Ether (length (take i ports))) Ether
    (one_left (without_kind stock Socket) Ether (length (take i ports)) (length ports) long (let some = boxes.ethers in omega arith))

blanks : (names : List (List ℕ)) → replicate (length names) blank_port ≡ map (λ (name : List ℕ). blank_port) names
blanks [] = refl
blanks (name ∷ names) = ap (λ (l : List Port). blank_port ∷ l) (blanks names)

-- each node that is there is at home
all_home : (n k : ℕ) (nodes : List (Option NodeRecord)) → length nodes ≡ k → (node : NodeRecord) → get_or nodes n None ≡ Some node → get_or (replicate k true) n false ≡ true
all_home n zero [] e node is = absurd (true≢false (sym (ap is_some is)))
all_home n zero (x ∷ nodes) e node is = absurd (omega arith)
all_home n (suc k) [] e node is = absurd (omega arith)
all_home zero (suc k) (x ∷ nodes) e node is = refl
all_home (suc n) (suc k) (x ∷ nodes) e node is = all_home n k nodes (omega arith) node is

none_lent : (own : List ℕ) (ports : List (List ℕ)) (stock : List Kind) (a : RunState) → Lent (start_graph own ports stock) a.world.pending a.taken
none_lent own ports stock a zero node here away = absurd (true≢false (sym (ap is_some here)))
none_lent own ports stock a (suc zero) node here away = absurd (true≢false away)
none_lent own ports stock a (suc (suc n)) node here away =
    absurd (true≢false (sym (all_home n (length ports) (map (λ (name : List ℕ). Some (blank_node (Some name) Ether)) ports) (map_length (λ (name : List ℕ). Some (blank_node (Some name) Ether)) ports) node here) ∙ away))

pub stands_begun : {B : Type 0} (s : State B) (own : List ℕ) (ports : List (List ℕ)) (stock : List Kind) → HasBoxes ports stock → s.graph ≡ start_graph own ports stock → HoldsItems s.pending (beginning (start_of own ports stock))
    → length s.pending.queues.lists ≡ length stock + 1 → s.told.items ≡ [] → map port_of s.ports.items ≡ replicate (length ports) blank_port → Stands s (beginning (start_of own ports stock))
stands_begun s own ports stock boxes graph items lists told kept = record {
  items = items;
  there = λ item h. absurd h;
  graph = subst (λ (g : Topology). IsOfWorld g (start_of own ports stock)) (sym graph) (record { nodes = refl; stock = refl; next_link = refl });
  homes = subst (λ (g : Topology). length g.home ≡ length g.nodes) (sym graph) (let a = length-replicate (length ports) true in let b = map_length (λ (name : List ℕ). Some (blank_node (Some name) Ether)) ports in omega arith);
  lent = subst (λ (g : Topology). Lent g [] []) (sym graph) (none_lent own ports stock (beginning (start_of own ports stock)));
  places =
      let nodes = map_length (λ (name : List ℕ). Some (blank_node (Some name) Ether)) ports in
      let one = fewer stock Socket boxes.socket in
      let left = ethers_left stock in
      let there = boxes.ethers in
      let all = fewer_all (without_kind stock Socket) Ether (length ports) (omega arith) in
      omega arith;
  told = told;
  ports = kept ∙ blanks ports;
}
