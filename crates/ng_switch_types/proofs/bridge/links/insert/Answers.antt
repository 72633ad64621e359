-- A new link in its gap.
use Rattle.std.proofs.Common.{sym, ◌∙◌, ap}
use Rattle.std.specs.List.{insert}
use Rattle.ng_machine.specs.kinds.Bridge.{new_link}
use Rattle.ng_switch_types.proofs.bridge.LinkLists.{put_gap}
use Rattle.ng_switch_types.proofs.bridge.links.insert.Goals as goal

pub returns-clause-ok : goal.returns-clause-ok
returns-clause-ok c =
    c.in_ok-insert.ensures.items ∙ ap (insert c.args.links.now.items c.args.at) c.new.ensures ∙ sym (put_gap c.args.links.now.items c.args.at (new_link c.args.number) c.requires.gap)
