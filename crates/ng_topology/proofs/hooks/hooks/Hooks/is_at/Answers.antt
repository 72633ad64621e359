-- The hook at a place has the name that was looked for.
use Rattle.std.proofs.Common.{◌≡◌, ◌<◌, ◌∙◌, length, sym, ap, get_or, true, rules}
use Rattle.ng_machine.specs.World.{is_named}
use Rattle.ng_topology.proofs.hooks.HookLemmas.{place_of_named}
use Rattle.ng_topology.proofs.hooks.hooks.Hooks.is_at.Goals as goal

pub returns-then-place-len : goal.returns-then-place-len
returns-then-place-len c = λ is.
    let hooks = c.self.inside.items.items in
    let here = c.index.result.now in
    let below : c.args.place < length hooks = search rules in
    let named : is_named c.args.name.now here ≡ true = search rules in
    let at : is_named c.args.name.now (get_or hooks c.args.place here) ≡ true = ap (is_named c.args.name.now) (sym c.index.ensures) ∙ named in
    rw (← c.self.view_is) (place_of_named c.args.name.now hooks c.self.inside.index c.args.place here c.self.invariant.consistent below at)
