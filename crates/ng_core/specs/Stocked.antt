-- The blank nodes that a core of a run is made of.
use Rattle.std.specs.Prelude.{◌≡◌, ◌≤◌, true, All, List, length, map}
use Rattle.ng_base.specs.declared.kind.Kind.{Kind}
use Rattle.ng_base.specs.declared.kind.Kind.TheVariants.{Ether, Socket}
use Rattle.ng_base.specs.Kind.{same_kind}
use Rattle.ng_machine.specs.LowRun.{most_ports}
use Rattle.ng_machine.specs.State.{State, blank_of, kind_of}
use Rattle.ng_machine.specs.Stock.{has_kind}
use Rattle.ng_machine.specs.Words.{times}
use Rattle.ng_core.specs.Calls.{most_boxes}

-- blank nodes, with a socket among them, and an ether for each of as many ports as may be
pub record IsStocked {B : Type 0} (state : B → State) (stock : List B) : Type 0 where
  pub blank : All (λ b. state b ≡ blank_of (kind_of (state b))) stock
  pub socket : has_kind (map (λ b. kind_of (state b)) stock) Socket ≡ true
  pub ethers : most_ports ≤ times (λ (kind : Kind). same_kind kind Ether) (map (λ b. kind_of (state b)) stock)
  pub few : length stock ≤ most_boxes
