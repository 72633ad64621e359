use Rattle.std.proofs.Common.{◌≡◌, ◌∙◌, ℕ, List, map, replicate, sym, ap, subst, arith}
use Rattle.std.proofs.lemmas.Grind.{common_steps}
use Rattle.ng_machine.specs.World.{item_id}
use Rattle.ng_queue.specs.Queue.{Queue, IsBelow, empty_queue}
use Rattle.ng_queue.specs.Queues.{list_of, spare_of, list_at, ready_of}
use Rattle.ng_queue.proofs.BlankLemmas.{blank_lists, blank_spares, blank_ready, blank_below}
use Rattle.ng_queue.proofs.queues.Queues.new.Goals as goal

pub invariant_of-result : goal.invariant_of-result
invariant_of-result c =
    let e : c.loop-i.i ≡ c.args.n = grind (arith, common_steps) in
    let q : c.loop-i.queues.items ≡ replicate c.args.n empty_queue = c.loop-i.invariant ∙ ap (λ (k : ℕ). replicate k empty_queue) e in
    record {
      ready = c.in_ok-ready.ensures ∙ blank_ready c.args.n ∙ ap (λ (l : List Queue). map ready_of (map list_of l)) (sym q);
      below = λ n. subst (λ (l : List Queue). IsBelow (item_id 18446744073709551615) (list_at (map list_of l) n)) (sym q) (blank_below c.args.n n 18446744073709551615);
    }

pub returns-clause-lists : goal.returns-clause-lists
returns-clause-lists c =
    let e : c.loop-i.i ≡ c.args.n = grind (arith, common_steps) in
    ap (map list_of) (c.loop-i.invariant ∙ ap (λ (k : ℕ). replicate k empty_queue) e) ∙ blank_lists c.args.n

pub returns-clause-spares : goal.returns-clause-spares
returns-clause-spares c =
    let e : c.loop-i.i ≡ c.args.n = grind (arith, common_steps) in
    ap (map spare_of) (c.loop-i.invariant ∙ ap (λ (k : ℕ). replicate k empty_queue) e) ∙ blank_spares c.args.n
