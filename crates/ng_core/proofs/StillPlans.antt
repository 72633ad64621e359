-- Plans by the numbers of nodes, one after another.
use Rattle.std.proofs.Common.{◌≡◌, ◌∙◌, ℕ, zero, suc, ◌+◌, ◌<◌, ◌≤◌, Bool, true, false, nat_lt, List, [], ◌∷◌, ◌++◌, length, map, refl, sym, ap, arith}
use Rattle.std.proofs.lemmas.Bool.Decides.{nat_tests}
use Rattle.std.proofs.lemmas.List.{length-map, map-append}
use Rattle.std.specs.Prelude.{slice_index_or}
use Rattle.std.specs.declared.option.Option.{Option}
use Rattle.std.specs.declared.option.Option.TheVariants.{None}
use Rattle.ng_machine.specs.declared.plan.Plan.{Plan}
use Rattle.ng_machine.specs.World.{NodeRecord, node_id, node_in}
use Rattle.ng_base.specs.declared.ids.NodeId.{NodeId}
use Rattle.ng_core.specs.Planned.{HasPlans}
use Rattle.ng_core.specs.StillWorld.{way_at}

pub read_before : {A : Type 0} (xs : List (Option A)) (x : Option A) (n : ℕ) → n < length xs → slice_index_or (xs ++ x ∷ []) n None ≡ slice_index_or xs n None
read_before [] x n lt = absurd (omega arith)
read_before (y ∷ xs) x zero lt = refl
read_before (y ∷ xs) x (suc n) lt = read_before xs x n (omega arith)

pub read_last : {A : Type 0} (xs : List (Option A)) (x : Option A) (n : ℕ) → n ≡ length xs → slice_index_or (xs ++ x ∷ []) n None ≡ x
read_last [] x zero is = refl
read_last [] x (suc n) is = absurd (omega arith)
read_last (y ∷ xs) x zero is = absurd (omega arith)
read_last (y ∷ xs) x (suc n) is = read_last xs x n (omega arith)

pub read_past : {A : Type 0} (xs : List (Option A)) (n : ℕ) → length xs ≤ n → slice_index_or xs n None ≡ None
read_past [] n le = refl
read_past (y ∷ xs) zero le = absurd (omega arith)
read_past (y ∷ xs) (suc n) le = read_past xs n (omega arith)

-- one more plan
module _ {P : Type 0} (f : P → Option Plan) (old : List P) (x : P) (n : ℕ) (nodes : List (Option NodeRecord)) (count : length old ≡ n)
    (last : f x ≡ way_at (node_in nodes (node_id n)))
    (plans : (id : NodeId) → id.0 < n → slice_index_or (map f old) id.0 None ≡ way_at (node_in nodes id)) where
  one_more : (id : NodeId) → id.0 < n + 1 → (before : Bool) → nat_lt id.0 n ≡ before → slice_index_or (map f old ++ f x ∷ []) id.0 None ≡ way_at (node_in nodes id)
  one_more id lt true is =
      let many = length-map old f in let below : id.0 < n = grind (arith, nat_tests) in
      read_before (map f old) (f x) id.0 (omega arith) ∙ plans id below
  one_more id lt false is =
      let many = length-map old f in let here : id.0 ≡ n = grind (arith, nat_tests) in
      read_last (map f old) (f x) id.0 (omega arith) ∙ last ∙ ap (λ (k : ℕ). way_at (slice_index_or nodes k None)) (sym here)

  pub planned_more : (new : List P) → new ≡ old ++ x ∷ [] → (id : NodeId) → id.0 < n + 1 → slice_index_or (map f new) id.0 None ≡ way_at (node_in nodes id)
  planned_more new is id lt =
      ap (λ (l : List P). slice_index_or (map f l) id.0 None) is
      ∙ ap (λ (l : List (Option Plan)). slice_index_or l id.0 None) (map-append f old (x ∷ []))
      ∙ one_more id lt (nat_lt id.0 n) refl

-- all plans
module _ {P : Type 0} (f : P → Option Plan) (all : List P) (n : ℕ) (nodes : List (Option NodeRecord)) (count : length all ≡ n) (enough : length nodes ≤ n)
    (plans : (id : NodeId) → id.0 < n → slice_index_or (map f all) id.0 None ≡ way_at (node_in nodes id)) where
  every : (id : NodeId) → (before : Bool) → nat_lt id.0 n ≡ before → slice_index_or (map f all) id.0 None ≡ way_at (node_in nodes id)
  every id true is = let below : id.0 < n = grind (arith, nat_tests) in plans id below
  every id false is =
      let many = length-map all f in let past : n ≤ id.0 = grind (arith, nat_tests) in
      read_past (map f all) id.0 (omega arith) ∙ ap way_at (sym (read_past nodes id.0 (omega arith)))

  pub planned_all : HasPlans nodes (map f all)
  planned_all id = every id (nat_lt id.0 n) refl
