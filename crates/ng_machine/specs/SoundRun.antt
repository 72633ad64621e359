-- What holds of every world of an orderly run: numbers of items, the nodes that items wait for, and what is taken.
use Rattle.std.specs.Prelude.{◌≡◌, ℕ, ◌<◌, true, List, Option, Some}
use Rattle.ng_machine.specs.declared.item.Item.{Item}
use Rattle.ng_machine.specs.Words.{Has}
use Rattle.ng_machine.specs.Body.{is_writer, are_compatible}
use Rattle.ng_machine.specs.World.{World, NodeRecord, node_in, kind_at}
use Rattle.ng_machine.specs.Run.{Taken}

-- the node of the item is there, and the item's mode is that of its body there
abbrev pub HasNode : List (Option NodeRecord) → Item → Type 0
HasNode nodes p = (node : NodeRecord) × (node_in nodes p.to ≡ Some node) × (p.writer ≡ is_writer (kind_at node) p.body)

pub record Sound (nodes : List (Option NodeRecord)) (pending : List Item) (next : ℕ) (taken : List Taken) : Type 0 where
  -- numbers of items are below the next one, and no two items have the same
  pub below : (p : Item) → Has p pending → p.id.0 < next
  pub one : (p q : Item) → Has p pending → Has q pending → p.id.0 ≡ q.id.0 → p ≡ q
  pub there : (p : Item) → Has p pending → HasNode nodes p
  -- what is taken is pending
  pub out : (t : Taken) → Has t taken → (p : Item) × Has p pending × (p.id.0 ≡ t.id.0)
  -- each earlier pending item of a taken item's node is, like it, a reader and has another lane
  pub clear : (t : Taken) (p q : Item) → Has t taken → Has p pending → Has q pending → p.id.0 ≡ t.id.0 → q.to.0 ≡ p.to.0 → q.id.0 < p.id.0 → are_compatible q p ≡ true

abbrev pub SoundAt : World → List Taken → Type 0
SoundAt w taken = Sound w.nodes w.pending w.next_item taken
