-- What the calls of a core may be given.
use Rattle.std.specs.Prelude.{◌≡◌, ℕ, ◌≤◌, Bool, true, not, ◌&&◌, List, [], ◌∷◌, length, Option, Some}
use Rattle.ng_base.specs.declared.kind.Kind.{Kind}
use Rattle.ng_base.specs.declared.kind.Kind.TheVariants.{Ether, Socket}
use Rattle.ng_base.specs.Kind.{same_kind}
use Rattle.ng_machine.specs.Words.{times}
use Rattle.ng_machine.specs.Stock.{has_kind}
use Rattle.ng_machine.specs.declared.fed.Fed.{Fed}
use Rattle.ng_core.specs.declared.fault.FeedFault.{FeedFault}
use Rattle.ng_core.specs.declared.fault.FeedFault.TheVariants.{Not, NoMemory}

-- as many boxes may be handed in
abbrev pub most_boxes : ℕ
most_boxes = 4000000000

-- there is a blank node for the own node and for each port
pub record HasBoxes (ports : List (List ℕ)) (stock : List Kind) : Type 0 where
  pub socket : has_kind stock Socket ≡ true
  pub ethers : length ports ≤ times (λ (kind : Kind). same_kind kind Ether) stock
  pub few : length stock ≤ most_boxes

-- the cause is the first that holds; out of memory has none
abbrev pub IsFeedFault : Option Fed → FeedFault → Type 0
IsFeedFault refusal (Not why) = refusal ≡ Some why
IsFeedFault refusal NoMemory = Unit {0}
