-- The next packet, as its port and its time.
use Rattle.std.specs.Prelude.{◌≡◌, Option, Some, None}
use Rattle.ngctl_script.specs.declared.feed.arrival.Arrival.{Arrival}
use Rattle.ngctl_script.specs.declared.feed.merge.Head.{Head}

-- there is no packet, or it comes to this port at this time
abbrev pub IsBest : Option Head → Option Arrival → Type 0
IsBest None None = Unit {0}
IsBest None (Some arrival) = ⊥
IsBest (Some head) None = ⊥
IsBest (Some head) (Some arrival) = (arrival.port ≡ head.port) × (arrival.stamp ≡ head.stamp)
