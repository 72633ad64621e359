-- Room for what is sent.
use Rattle.std.specs.Prelude.{ℕ, ◌==◌, ◌&&◌, Bool, false, is_some, List, Option, Some, None}
use Rattle.ng_machine.specs.declared.hook.Hook.{Hook}
use Rattle.ng_machine.specs.Words.{times}
use Rattle.ng_machine.specs.World.{NodeRecord, hook_at, node_in}

-- what is sent out of the hook goes to this node
abbrev pub goes_to : Option Hook → ℕ → Bool
goes_to None n = false
goes_to (Some hook) n = hook.peer.node.0 == n

-- what is sent out of the hook waits at its peer, where packets may wait
abbrev pub goes_on : List (Option NodeRecord) → Option Hook → Bool
goes_on nodes None = false
goes_on nodes (Some hook) = hook.joined && is_some (node_in nodes hook.peer.node)

-- how many of the packets go to this node
abbrev pub wants : Option NodeRecord → List (List ℕ × List ℕ) → ℕ → ℕ
wants node sends n = times (λ (x : List ℕ × List ℕ). goes_to (hook_at node x.0) n) sends
