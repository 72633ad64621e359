-- What is seen of an item before it is applied.
use Rattle.std.specs.Prelude.{◌≡◌, Some}
use Rattle.std.specs.Option.{option_map}
use Rattle.ng_machine.specs.declared.item.Item.{Item}
use Rattle.ng_machine.specs.Run.{RunState}
use Rattle.ng_machine.specs.World.{NodeRecord, node_at}
use Rattle.ng_trace.specs.declared.looking.Seen.{Seen}
use Rattle.ng_trace.specs.Endings.{came_of, spot_of}
use Rattle.ng_trace.specs.Watch.{may_retire, spots_if}

pub record IsSeen (at : RunState) (item : Item) (seen : Seen) : Type 0 where
  pub id : seen.id ≡ item.id
  pub to : seen.to ≡ item.to
  pub spot : seen.spot ≡ option_map (spot_of item) (node_at at.world item.to)
  pub came : (node : NodeRecord) → node_at at.world item.to ≡ Some node → seen.came ≡ came_of node item.body
  pub waiting : seen.waiting.items ≡ spots_if (may_retire item.body) at item.to
  pub lost : seen.lost ≡ at.world.lost
  pub next : seen.next_item ≡ at.world.next_item
