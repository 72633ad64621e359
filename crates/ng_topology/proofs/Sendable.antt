-- A graph of boxes that may go to another thread may go there too.
use denote.Param.Send.{IsSend, sendable}
use denote.RattleType.{RattleType}
use Rattle.ng_base.proofs.Sendable.{name_send}
use Rattle.ng_plan.proofs.Sendable.{plan_send, plan_sync}
use Rattle.ng_plan.specs.declared.node.node.Node.{Ghosts}
use Rattle.ng_topology.specs.contracts.entry.Entry as Entry
use Rattle.ng_topology.specs.contracts.graph.Graph as Graph
use Rattle.ng_topology.specs.contracts.hooks.hooks.Hooks as Hooks
use Rattle.ng_topology.specs.contracts.places.Places as Places
use Rattle.ng_topology.specs.contracts.stock.Stock as Stock
use Rattle.std.proofs.Crossing.{crosses}
use Rattle.std.proofs.MapsCrossing.{crosses as maps}

pub hooks_send : IsSend Hooks.the_row
hooks_send = search (sendable, crosses, maps) depth 40

module _ (R : RattleType) (gs : Ghosts R.Denot) (s : IsSend R) where
  pub stock_send : IsSend (Stock.the_row R gs)
  stock_send = search (sendable, crosses, maps) depth 40

  pub entry_send : IsSend (Entry.the_row R gs)
  entry_send = search (name_send, hooks_send, plan_send, plan_sync, sendable, crosses, maps) depth 90 fits 300000

  pub places_send : IsSend (Places.the_row R gs)
  places_send = search (entry_send, sendable, crosses, maps) depth 90 fits 300000

  pub graph_send : IsSend (Graph.the_row R gs)
  graph_send = search (places_send, stock_send, name_send, sendable, crosses, maps) depth 90 fits 300000
