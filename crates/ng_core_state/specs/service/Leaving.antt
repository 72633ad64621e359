-- By which hook what leaves has come: a packet that reaches the reader of a socket is told with it.
use Rattle.std.specs.Prelude.{ℕ, List, [], Option, Some, None}
use Rattle.ng_machine.specs.declared.body.Body.{Body}
use Rattle.ng_machine.specs.declared.body.Body.TheVariants.{Frame}
use Rattle.ng_machine.specs.declared.body.Door.TheVariants.{Hook as ByHook}
use Rattle.ng_machine.specs.declared.body.Exit.{Exit}
use Rattle.ng_machine.specs.declared.body.Exit.TheVariants.{Wire as ToWire, Host, Reader}
use Rattle.ng_machine.specs.Words.{Every}

-- the name that is told, and no bytes where there is no hook
abbrev pub name_or_empty : Option (List ℕ) → List ℕ
name_or_empty None = []
name_or_empty (Some hook) = hook

-- the hook that a body came by
abbrev pub arrival_hook : Body → Option (List ℕ)
arrival_hook (Frame (ByHook hook) link packet) = Some hook
arrival_hook _ = None

-- a reader is told a packet by its hook alone
abbrev pub MayLeaveBy : Option (List ℕ) → Exit → Type 0
MayLeaveBy hook ToWire = Unit {0}
MayLeaveBy hook Host = Unit {0}
MayLeaveBy None Reader = ⊥
MayLeaveBy (Some hook) Reader = Unit {0}

abbrev pub AllMayLeaveBy : Option (List ℕ) → List (Exit × List ℕ) → Type 0
AllMayLeaveBy hook leaves = Every (λ (x : Exit × List ℕ). MayLeaveBy hook x.0) leaves
