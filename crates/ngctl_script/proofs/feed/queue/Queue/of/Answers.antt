-- Packets that are turned round are as early as before.
use Rattle.std.proofs.Common.{List, ℕ, subst, sym, ap, ◌∙◌, reverse}
use Rattle.std.specs.List.{All}
use Rattle.ng_base.specs.declared.ids.Stamp.{Stamp}
use Rattle.ngctl_script.specs.feed.Early.{IsEarly}
use Rattle.ngctl_script.proofs.feed.Reversed.{all_reversed}
use Rattle.ngctl_script.proofs.feed.queue.Queue.of.Goals as goal

pub invariant_of-result : goal.invariant_of-result
invariant_of-result c =
    let P : List (Stamp × List ℕ) → Type 0 = λ packets. All IsEarly packets in
    subst P (sym (c.turned_round.ensures ∙ ap reverse c.into_vec.ensures)) (all_reversed IsEarly c.args.packets c.requires)
