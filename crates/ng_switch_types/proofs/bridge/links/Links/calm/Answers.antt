-- The links keep their numbers, and so their order.
use Rattle.std.proofs.Common.{◌≡◌, rules, length, refl}
use Rattle.ng_machine.specs.kinds.Bridge.{calm_link}
use Rattle.ng_sorted.proofs.InOrder.{ordered_map, whole_again}
use Rattle.ng_switch_types.proofs.bridge.LinkLists.{number_of}
use Rattle.ng_switch_types.proofs.bridge.links.Links.calm.Goals as goal

pub invariant_of-self : goal.invariant_of-self
invariant_of-self c =
    let links = c.self.inside.links.items in
    let new = c.calm_all.new.links in
    let same : length new ≡ length links = search rules in
    let long : c.self.inside.links.len ≡ length links = search rules in
    rw (whole_again new links c.self.inside.links.len same long, c.calm_all.ensures, c.deref_mut.ensures.value) (ordered_map number_of (calm_link c.args.seconds) links (λ l. refl) c.self.invariant)
