-- How a packet was followed, as the parts of the code see it.
use Rattle.std.specs.Prelude.{◌≡◌, ℕ, ◌+◌, ◌<◌, false, List, [], ◌∷◌, ◌++◌, Option, Some, None}
use Rattle.ng_base.specs.declared.ids.NodeId.{NodeId}
use Rattle.ng_base.specs.declared.kind.Kind.{Kind}
use Rattle.ng_machine.specs.declared.body.Door.{Door}
use Rattle.ng_machine.specs.declared.body.Door.TheVariants.{Wire, Hook}
use Rattle.ng_machine.specs.declared.body.Exit.{Exit}
use Rattle.ng_machine.specs.declared.body.Exit.TheVariants.{Wire as ByWire, Host, Reader}
use Rattle.ng_machine.specs.Words.{Every}
use Rattle.ng_machine.specs.Effect.{is_hook_gone}
use Rattle.ng_machine.specs.World.{NodeRecord, hook_at, kind_at, node_in}
use Rattle.ng_machine.specs.Spread.{Spread, Flight, Vanishes, Untold, Comes, beside, body_of, fate, sent_by}
use Rattle.ng_forecast.specs.declared.spread.fate.Fate.{Fate as Found}
use Rattle.ng_forecast.specs.declared.spread.fate.Fate.TheVariants as found
use Rattle.ng_forecast.specs.declared.spread.following.Followed.{Followed}
use Rattle.ng_forecast.specs.declared.spread.following.Followed.TheVariants as was
use Rattle.ng_forecast.specs.declared.spread.following.Trail.{Trail}

-- the copies that arrive of those that a node sends, each by the name of its hook
abbrev pub sent_from : List (Option NodeRecord) → NodeId → List (List ℕ × List ℕ) → List Flight
sent_from nodes at [] = []
sent_from nodes at (x ∷ sends) = sent_by nodes (hook_at (node_in nodes at) x.0) x.1 ++ sent_from nodes at sends

-- What the code finds is the fate of a packet. The copies that leave came into the bag, and the others are sent on.
abbrev pub Finds : List (Option NodeRecord) → Flight → Found → Spread → Spread → Type 0
Finds nodes f found.Vanishes old new = (fate nodes f ≡ Vanishes) × (new ≡ old)
Finds nodes f found.Untold old new = (fate nodes f ≡ Untold) × (new ≡ old)
Finds nodes f (found.Comes sends) old new =
    (leaves : Spread) × (fate nodes f ≡ Comes leaves (sent_from nodes f.to sends.items)) × (new ≡ old ++ leaves)

-- a packet arrives at a node of this kind, by a hook that is there if by any
pub record ArrivesAt (nodes : List (Option NodeRecord)) (f : Flight) (kind : Kind) : Type 0 where
  pub node : NodeRecord
  pub there : node_in nodes f.to ≡ Some node
  pub kind_is : kind_at node ≡ kind
  pub by_hook : is_hook_gone (Some node) (body_of f) ≡ false

-- a packet goes to the reader by a hook that it came by
abbrev pub IsExit : Door → Exit → Type 0
IsExit Wire Reader = ⊥
IsExit Wire ByWire = Unit {0}
IsExit Wire Host = Unit {0}
IsExit (Hook hook) exit = Unit {0}

abbrev pub AreExits : Door → List (Exit × List ℕ) → Type 0
AreExits door leaves = Every (λ (x : Exit × List ℕ). IsExit door x.0) leaves

-- A packet met so many others, and has this spread or none. Where more were met than there was room for no more is said.
abbrev pub Follows : ℕ → Option Spread → Followed → Trail → Trail → Type 0
Follows met spread was.Everywhere old new = (new.room + met ≡ old.room) × (Some new.bag.items ≡ beside (Some old.bag.items) spread)
Follows met spread was.Nowhere old new = (new.room + met ≡ old.room) × (spread ≡ None)
Follows met spread was.TooWide old new = old.room < met
