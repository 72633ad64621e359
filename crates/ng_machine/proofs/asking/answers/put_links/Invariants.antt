use Rattle.std.proofs.Common.{◌≡◌, ◌++◌, take, flat_map}
use Rattle.ng_message.specs.Layout.{link_info_bytes}
use Rattle.ng_machine.proofs.asking.answers.put_links.Given as goal

abbrev pub invariant-loop-link : goal.invariant-loop-link
invariant-loop-link l = l.out.items ≡ l.initial.out.items ++ flat_map link_info_bytes (take l.link-index l.links)
