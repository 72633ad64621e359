use Rattle.std.proofs.Common.{◌≡◌, ◌++◌, drop, map}
use Rattle.ng_machine.specs.Spread.{Spread}
use Rattle.ng_forecast.specs.Counts.{AreCounts}
use Rattle.ng_forecast.specs.Text.{port_lines}
use Rattle.ng_forecast.proofs.text.put_ports.Given as goal

abbrev pub invariant-loop-i : goal.invariant-loop-i
invariant-loop-i l = (bag : Spread) → AreCounts l.counts bag
    → l.text.items ++ port_lines l.i (map (λ port. port.name) (drop l.i l.ports)) bag ≡ l.fn.text.items ++ port_lines 0 (map (λ port. port.name) l.ports) bag
