-- The pass of a seat may go to another thread, and a turn may be shared among them.
use denote.Param.Send.{IsSend, IsSync, sendable}
use denote.RattleType.{RattleType}
use Rattle.atomic_table.proofs.badge.Badge.TheSendSync.{the_send as badge}
use Rattle.atomic_table.proofs.send_lease.SendLease.TheSendSync.{the_sync as lease}
use Rattle.atomic_table.proofs.shared.Seat.TheSendSync.{the_send as seat}
use Rattle.atomic_table.proofs.shared.Shared.TheSendSync.{the_sync as table}
use Rattle.ng_turn.specs.contracts.pass.Pass as Pass
use Rattle.ng_turn.specs.contracts.turn.Turn as Turn
use Rattle.ng_turn.specs.declared.desked.Desked as Desked
use Rattle.std.proofs.Crossing.{crosses}

module _ (T D : RattleType) (s : IsSend T) where
  pub pass_send : IsSend (Pass.the_row T D)
  pass_send = search (seat, badge, sendable, crosses) depth 90 fits 300000

  module _ (gs : Desked.Ghosts T.Denot D.Denot) where
    pub turn_sync : IsSync (Turn.the_row T D gs)
    turn_sync = search (table, lease, seat, badge, sendable, crosses) depth 90 fits 300000
