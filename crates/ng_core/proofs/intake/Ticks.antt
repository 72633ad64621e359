-- Items wait for one bridge after another.
use Rattle.std.proofs.Common.{◌≡◌, ℕ, zero, suc, ◌+◌, List, [], ◌∷◌, Bool, true, false, take, refl, ap, ◌∙◌, arith}
use Rattle.std.specs.Prelude.{slice_index_or}
use Rattle.std.specs.declared.option.Option.{Option}
use Rattle.std.specs.declared.option.Option.TheVariants.{None, Some}
use Rattle.ng_machine.specs.Change.{accept_at}
use Rattle.ng_machine.specs.Feed.{feed_tick, feed_ticks, is_bridge}
use Rattle.ng_machine.specs.World.{NodeRecord, World, node_at, node_id}
use Rattle.ng_machine.specs.declared.body.Body.TheVariants.{Tick}

accepted_nodes : (w : World) (seconds n : ℕ) (o : Option NodeRecord) → (accept_at w (node_id n) o (Tick seconds) None w.clock).nodes ≡ w.nodes
accepted_nodes w seconds n None = refl
accepted_nodes w seconds n (Some node) = refl

tick_nodes : (w : World) (seconds n : ℕ) (b : Bool) → (feed_tick w seconds n b).nodes ≡ w.nodes
tick_nodes w seconds n false = refl
tick_nodes w seconds n true = accepted_nodes w seconds n (node_at w (node_id n))

-- no node changes
pub ticks_nodes : (w : World) (seconds n : ℕ) (nodes : List (Option NodeRecord)) → (feed_ticks w seconds n nodes).nodes ≡ w.nodes
ticks_nodes w seconds n [] = refl
ticks_nodes w seconds n (node ∷ nodes) = ticks_nodes (feed_tick w seconds n (is_bridge node)) seconds (n + 1) nodes ∙ tick_nodes w seconds n (is_bridge node)

-- one number more
pub ticks_more : (w : World) (seconds n : ℕ) (nodes : List (Option NodeRecord)) (i : ℕ)
    → feed_ticks w seconds n (take (suc i) nodes) ≡ feed_tick (feed_ticks w seconds n (take i nodes)) seconds (n + i) (is_bridge (slice_index_or nodes i None))
ticks_more w seconds n [] zero = refl
ticks_more w seconds n [] (suc i) = refl
ticks_more w seconds n (node ∷ nodes) zero = let e : n ≡ n + 0 = omega arith in ap (λ (k : ℕ). feed_tick w seconds k (is_bridge node)) e
ticks_more w seconds n (node ∷ nodes) (suc i) =
    let e : (n + 1) + i ≡ n + suc i = omega arith in
    ticks_more (feed_tick w seconds n (is_bridge node)) seconds (n + 1) nodes i
    ∙ ap (λ (k : ℕ). feed_tick (feed_ticks (feed_tick w seconds n (is_bridge node)) seconds (n + 1) (take i nodes)) seconds k (is_bridge (slice_index_or nodes i None))) e
