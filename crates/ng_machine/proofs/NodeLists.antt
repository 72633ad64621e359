-- Rows by their numbers: what a list of rows has at a number after a row is set, put at the end, or taken away.
use Rattle.std.proofs.Common.{◌≡◌, ◌≢◌, ℕ, zero, suc, ◌<◌, ◌≤◌, List, [], ◌∷◌, ◌++◌, length, set, get_or, true, false, is_some, refl, sym, ap, ◌∙◌, ⊎_elim, arith, length-set, length-append, true≢false}
use Rattle.std.specs.declared.option.Option.{Option}
use Rattle.std.specs.declared.option.Option.TheVariants.{None, Some}
use Rattle.std.proofs.lemmas.Bool.{cases_lt}
use Rattle.ng_base.specs.declared.ids.ItemId.{ItemId}
use Rattle.ng_base.specs.declared.ids.NodeId.{NodeId}
use Rattle.ng_machine.specs.World.{NodeRecord, node_id, item_id}

-- two numbers of nodes, or of items, are one where they are equal
pub node_same : (a b : NodeId) → a.0 ≡ b.0 → a ≡ b
node_same a b e = ap node_id e

pub item_same : (a b : ItemId) → a.0 ≡ b.0 → a ≡ b
item_same a b e = ap item_id e

abbrev pub get : List (Option NodeRecord) → ℕ → Option NodeRecord
get nodes n = get_or nodes n None

get_past : (nodes : List (Option NodeRecord)) (n : ℕ) → length nodes ≤ n → get nodes n ≡ None
get_past [] n le = refl
get_past (x ∷ nodes) zero le = absurd (omega arith)
get_past (x ∷ nodes) (suc n) le = get_past nodes n (omega arith)

pub get_here : (nodes : List (Option NodeRecord)) (n : ℕ) (y : Option NodeRecord) → n < length nodes → get (set nodes n y) n ≡ y
get_here [] n y lt = absurd (omega arith)
get_here (x ∷ nodes) zero y lt = refl
get_here (x ∷ nodes) (suc n) y lt = get_here nodes n y (omega arith)

pub get_gone : (nodes : List (Option NodeRecord)) (n : ℕ) → get (set nodes n None) n ≡ None
get_gone [] n = refl
get_gone (x ∷ nodes) zero = refl
get_gone (x ∷ nodes) (suc n) = get_gone nodes n

pub get_apart : (nodes : List (Option NodeRecord)) (n m : ℕ) (y : Option NodeRecord) → m ≢ n → get (set nodes n y) m ≡ get nodes m
get_apart [] n m y a = refl
get_apart (x ∷ nodes) zero zero y a = absurd (a refl)
get_apart (x ∷ nodes) zero (suc m) y a = refl
get_apart (x ∷ nodes) (suc n) zero y a = refl
get_apart (x ∷ nodes) (suc n) (suc m) y a = get_apart nodes n m y (λ e. a (ap suc e))

pub get_before : (nodes : List (Option NodeRecord)) (m : ℕ) (y : Option NodeRecord) → m ≢ length nodes → get (nodes ++ y ∷ []) m ≡ get nodes m
get_before [] zero y a = absurd (a refl)
get_before [] (suc m) y a = refl
get_before (x ∷ nodes) zero y a = refl
get_before (x ∷ nodes) (suc m) y a = get_before nodes m y (λ e. a (ap suc e))

pub get_last : (nodes : List (Option NodeRecord)) (m : ℕ) (y : Option NodeRecord) → m ≡ length nodes → get (nodes ++ y ∷ []) m ≡ y
get_last [] zero y e = refl
get_last [] (suc m) y e = absurd (omega arith)
get_last (x ∷ nodes) zero y e = absurd (omega arith)
get_last (x ∷ nodes) (suc m) y e = get_last nodes m y (omega arith)

pub some_none : (node : NodeRecord) → Some node ≡ None → ⊥
some_none node e = let q : true ≡ false = ap is_some e in true≢false q

pub given_number : (nodes : List (Option NodeRecord)) (n : ℕ) (node : NodeRecord) → get nodes n ≡ Some node → n < length nodes
given_number nodes n node here = ⊎_elim (λ (lt : n < length nodes). lt) (λ (le : length nodes ≤ n). absurd (some_none node (sym here ∙ get_past nodes n le))) (cases_lt n (length nodes))

pub same_row : (a b : NodeRecord) → Some a ≡ Some b → a ≡ b
same_row a b e = cc

-- a number that was given stays so
pub still_given : (nodes : List (Option NodeRecord)) (n m : ℕ) (o : Option NodeRecord) → m < length nodes → m < length (set nodes n o)
still_given nodes n m o lt = omega (arith, length-set {A = Option NodeRecord})

pub more_given : (nodes : List (Option NodeRecord)) (m : ℕ) (node : NodeRecord) → m < length nodes → m < length (nodes ++ Some node ∷ [])
more_given nodes m node lt = omega (arith, length-append {A = Option NodeRecord})
