use Rattle.std.proofs.Common.{◌≡◌, map, take}
use Rattle.ng_pcap.specs.declared.capture.Capture.{Capture}
use Rattle.ng_call.proofs.found.cuts_of.Given as goal

abbrev pub invariant-loop-capture : goal.invariant-loop-capture
invariant-loop-capture l = l.cuts.items ≡ map (λ (capture : Capture). capture.cut) (take l.capture-index l.captures)
