-- What waits, number by number of the nodes.
use Rattle.std.proofs.Common.{◌≡◌, ℕ, zero, suc, ◌+◌, ◌-◌, ◌≤◌, Bool, true, false, cond, List, [], ◌∷◌, ◌++◌, length, filter, get_or, refl, sym, ap, ◌∙◌, arith}
use Rattle.std.proofs.lemmas.Bool.{eqb-true}
use Rattle.std.proofs.lemmas.List.{append_assoc, append-nil, get_or_past}
use Rattle.std.proofs.lemmas.Grind.{flat_map-append}
use Rattle.std.specs.List.{flat_map}
use Rattle.std.specs.declared.option.Option.{Option}
use Rattle.std.specs.declared.option.Option.TheVariants.{None}
use Rattle.ng_machine.specs.declared.item.Item.{Item}
use Rattle.ng_machine.specs.Body.{is_at}
use Rattle.ng_machine.specs.Run.{RunState, Taken}
use Rattle.ng_machine.specs.Words.{below}
use Rattle.ng_machine.specs.World.{NodeRecord, node_id, node_in}
use Rattle.ng_core_state.specs.declared.state.State.{State}
use Rattle.ng_core_state.specs.Stands.{Stands}
use Rattle.ng_queue.specs.Queue.{waiting_items}
use Rattle.ng_queue.specs.Queues.{list_at}
use Rattle.ng_trace.specs.declared.ending.Spot.{Spot}
use Rattle.ng_trace.specs.Endings.{spot_if, spots}
use Rattle.ng_trace.specs.Watch.{all_waiting, is_waiting, waiting_at}
use Rattle.ng_trace.proofs.Waiting.{spots_wait}

pub spots_append : (nodes : List (Option NodeRecord)) (xs ys : List Item) → spots nodes (xs ++ ys) ≡ spots nodes xs ++ spots nodes ys
spots_append nodes [] ys = refl
spots_append nodes (x ∷ xs) ys =
    ap (λ (l : List Spot). spot_if x (node_in nodes x.to) ++ l) (spots_append nodes xs ys)
    ∙ sym (append_assoc (spot_if x (node_in nodes x.to)) (spots nodes xs) (spots nodes ys))

abbrev so_far : RunState → ℕ → List Item
so_far a n = flat_map (λ k. waiting_at a (node_id k)) (below n)

one_more : (a : RunState) (n : ℕ) → so_far a (n + 1) ≡ so_far a n ++ waiting_at a (node_id n)
one_more a n =
    let next : n + 1 ≡ suc n = omega arith in
    ap (so_far a) next
    ∙ flat_map-append (λ k. waiting_at a (node_id k)) (below n) (n ∷ [])
    ∙ ap (λ (l : List Item). so_far a n ++ l) (append-nil (waiting_at a (node_id n)))

spots_more : (a : RunState) (n : ℕ) → spots a.world.nodes (so_far a (n + 1)) ≡ spots a.world.nodes (so_far a n) ++ spots a.world.nodes (waiting_at a (node_id n))
spots_more a n = ap (spots a.world.nodes) (one_more a n) ∙ spots_append a.world.nodes (so_far a n) (waiting_at a (node_id n))

-- a node's queue more
pub number_more : {B : Type 0} (s : State B) (a : RunState) (n : ℕ) (all now : List Spot) → Stands s a → all ≡ spots a.world.nodes (so_far a n)
    → now ≡ all ++ spots s.graph.nodes (waiting_items (list_at s.pending.queues.lists n)) → now ≡ spots a.world.nodes (so_far a (n + 1))
number_more s a n all now S is more =
    more
    ∙ ap (λ (l : List Spot). l ++ spots s.graph.nodes (waiting_items (list_at s.pending.queues.lists n))) is
    ∙ ap (λ (l : List Spot). spots a.world.nodes (so_far a n) ++ l) (spots_wait s a (node_id n) S)
    ∙ sym (spots_more a n)

-- NUMBERS THAT NO NODE HAS

module _ (nodes : List (Option NodeRecord)) (n : ℕ) (past : length nodes ≤ n) (taken : List Taken) where
  nobody : (item : Item) → item.to.0 ≡ n → node_in nodes item.to ≡ None
  nobody item is = ap (λ (k : ℕ). get_or nodes k None) is ∙ get_or_past nodes n None past

  waits_nowhere : (item : Item) (rest : List Item) (b : Bool) → item.to.0 ≡ n → spots nodes rest ≡ [] → spots nodes (cond b (item ∷ rest) rest) ≡ []
  waits_nowhere item rest false is none = none
  waits_nowhere item rest true is none = ap (λ (o : Option NodeRecord). spot_if item o ++ spots nodes rest) (nobody item is) ∙ none

  is_nowhere : (item : Item) (rest : List Item) (b : Bool) → is_at (node_id n) item ≡ b → spots nodes (filter (is_waiting taken) rest) ≡ []
      → spots nodes (filter (is_waiting taken) (cond b (item ∷ rest) rest)) ≡ []
  is_nowhere item rest false e none = none
  is_nowhere item rest true e none = waits_nowhere item (filter (is_waiting taken) rest) (is_waiting taken item) (eqb-true item.to.0 n e) none

  nowhere : (items : List Item) → spots nodes (filter (is_waiting taken) (filter (is_at (node_id n)) items)) ≡ []
  nowhere [] = refl
  nowhere (item ∷ items) = is_nowhere item (filter (is_at (node_id n)) items) (is_at (node_id n) item) refl (nowhere items)

past_more : (a : RunState) (k : ℕ) → spots a.world.nodes (so_far a (k + length a.world.nodes)) ≡ spots a.world.nodes (all_waiting a)
past_more a zero =
    let none : 0 + length a.world.nodes ≡ length a.world.nodes = omega arith in
    ap (λ (m : ℕ). spots a.world.nodes (so_far a m)) none
past_more a (suc k) =
    let n : ℕ = k + length a.world.nodes in
    let next : suc k + length a.world.nodes ≡ n + 1 = omega arith in
    ap (λ (m : ℕ). spots a.world.nodes (so_far a m)) next
    ∙ spots_more a n
    ∙ ap (λ (l : List Spot). spots a.world.nodes (so_far a n) ++ l) (nowhere a.world.nodes n (omega arith) a.taken a.world.pending)
    ∙ append-nil (spots a.world.nodes (so_far a n))
    ∙ past_more a k

pub all_numbers : (a : RunState) (n : ℕ) → length a.world.nodes ≤ n → spots a.world.nodes (so_far a n) ≡ spots a.world.nodes (all_waiting a)
all_numbers a n past =
    let parts : n ≡ (n - length a.world.nodes) + length a.world.nodes = omega (arith, past) in
    ap (λ (k : ℕ). spots a.world.nodes (so_far a k)) parts ∙ past_more a (n - length a.world.nodes)
