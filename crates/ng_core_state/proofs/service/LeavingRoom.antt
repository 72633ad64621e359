-- Room for what leaves stays through what leaves ports and told entries alone.
use Rattle.std.proofs.Common.{◌≡◌, ℕ, ◌+◌, ◌<◌, ◌≤◌, ◌^◌, slice_get, arith}
use Rattle.std.specs.Prelude.{vec_len, vec_capacity}
use Rattle.std.specs.declared.option.Option.TheVariants.{Some}
use Rattle.ng_base.specs.declared.ids.NodeId.{NodeId}
use Rattle.ng_machine.specs.LowRun.{IsLow}
use Rattle.ng_machine.specs.Run.{RunState}
use Rattle.ng_machine.specs.World.{port_of}
use Rattle.ng_core_state.specs.declared.state.Port.{Port as KeptPort}
use Rattle.ng_core_state.specs.declared.state.State.{State}
use Rattle.ng_core_state.specs.Stands.{Stands}
use Rattle.ng_core_state.specs.service.Room.{HasRoomToLeave}
use Rattle.ng_core_state.proofs.service.Numbers.{low_up}

-- there is room, and numbers are low
leaving_room : {B : Type 0} (s : State B) (a : RunState) (at : NodeId) (n : ℕ) → Stands s a → IsLow a.world → n < 2 ^ 61 → vec_len s.told + (n + 1) ≤ vec_capacity s.told
    → ((port : KeptPort) → slice_get s.ports.items (port_of at) ≡ Some port → vec_len port.leaving + n ≤ vec_capacity port.leaving) → HasRoomToLeave at n s
leaving_room s a at n S L few told port = record {
  told = omega arith;
  port = λ p e. record { leaving = port p e; up = let low = low_up s a (port_of at) p S L e in omega arith };
}

-- what was told and what left stay
pub leaving_same : {B : Type 0} (s t : State B) (at : NodeId) (n : ℕ) → HasRoomToLeave at n s → t.told ≡ s.told → t.ports ≡ s.ports → HasRoomToLeave at n t
leaving_same s t at n R same ports = record {
  told = rw same R.told;
  port = λ p e. R.port p (rw ports at e);
}

pub leaving_kept : {B : Type 0} (s t : State B) (a : RunState) (at : NodeId) (n : ℕ) → Stands s a → IsLow a.world → t.told ≡ s.told → t.ports ≡ s.ports → n < 2 ^ 61 → vec_len s.told + (n + 1) ≤ vec_capacity s.told
    → ((port : KeptPort) → slice_get s.ports.items (port_of at) ≡ Some port → vec_len port.leaving + n ≤ vec_capacity port.leaving) → HasRoomToLeave at n t
leaving_kept s t a at n S L same ports few told port = leaving_same s t at n (leaving_room s a at n S L few told port) same ports
