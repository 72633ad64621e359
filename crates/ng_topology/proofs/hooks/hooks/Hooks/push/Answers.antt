-- What is at the place of a name, and in the index under it.
use Rattle.std.proofs.Common.{◌≡◌, ◌++◌, ◌∷◌, [], arith}
use Rattle.std.proofs.lemmas.Grind.{common_steps}
use Rattle.ng_topology.proofs.hooks.HookLemmas.{consistent_push}
use Rattle.ng_topology.proofs.hooks.JoinedLemmas.{few_joined, light, one_more}
use Rattle.ng_topology.proofs.hooks.hooks.Hooks.push.Goals as goal

-- the number of hooks fits its type, and no more are joined
pub overflow_add-self : goal.overflow_add-self
overflow_add-self c =
    let few = few_joined c.self.inside.items.items in
    let one = light c.args.hook in
    let w = c.weight.ensures in
    let n = c.self.invariant.counted in
    let len = c.len-few.ensures in
    omega arith

pub invariant_of-self-2 : goal.invariant_of-self-2
invariant_of-self-2 c =
    let fresh = rw (← c.self.view_is) at c.requires in
    let items : c.push_reserved.new.self.items ≡ c.self.inside.items.items ++ c.args.hook ∷ [] = grind (arith, common_steps) in
    rw items (record {
      consistent = consistent_push c.self.inside.items.items c.args.hook c.self.inside.index c.insert_in.new.index c.self.invariant.consistent fresh c.in_ok-insert_in.ensures.ok;
      counted = let more = one_more c.self.inside.items.items c.args.hook in let w = c.weight.ensures in let n = c.self.invariant.counted in omega arith;
    })
