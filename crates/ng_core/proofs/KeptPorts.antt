-- The ports that are kept are those of the world.
use Rattle.std.proofs.Common.{◌≡◌, ◌∙◌, ℕ, zero, suc, ◌<◌, List, [], ◌∷◌, length, map, refl, sym, ap, arith}
use Rattle.std.specs.Prelude.{get_or}
use Rattle.ng_machine.specs.Change.{port_at}
use Rattle.ng_machine.specs.World.{Port, blank_port}
use Rattle.ng_machine.specs.story.Story.{Story, run_state_of, world_of}
use Rattle.ng_core_state.specs.declared.state.Port.{Port as KeptPort}
use Rattle.ng_core_state.specs.declared.state.State.{State}
use Rattle.ng_core_state.specs.Stands.{Stands, port_of}
use Rattle.ng_core.proofs.Mapped.{map_length}
use Rattle.ng_core.proofs.PortCounts.{ports_stay}

pub kept_count : {B : Type 0} (t : State B) (s : Story) → Stands t (run_state_of s) → length t.ports.items ≡ length s.setting.ports
kept_count t s S = sym (map_length port_of t.ports.items) ∙ ap (λ (l : List Port). length l) S.ports ∙ ports_stay s.setting s.journal

get_mapped : (ps : List KeptPort) (n : ℕ) (x : KeptPort) → n < length ps → get_or (map port_of ps) n blank_port ≡ port_of (get_or ps n x)
get_mapped [] n x lt = absurd (omega arith)
get_mapped (p ∷ ps) zero x lt = refl
get_mapped (p ∷ ps) (suc n) x lt = get_mapped ps n x (omega arith)

pub kept_port : {B : Type 0} (t : State B) (s : Story) (n : ℕ) (x : KeptPort) → Stands t (run_state_of s) → n < length s.setting.ports → x ≡ get_or t.ports.items n x → port_of x ≡ port_at (world_of s) n
kept_port t s n x S lt is =
    let count = kept_count t s S in
    ap port_of is ∙ sym (get_mapped t.ports.items n x (omega arith)) ∙ ap (λ (l : List Port). get_or l n blank_port) S.ports
