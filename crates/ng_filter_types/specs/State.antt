-- The states of nodes of the two types, as the nodes keep them.
use Rattle.std.specs.Prelude.{ℕ, List}
use Rattle.ng_machine.specs.kinds.Etf.{Etf}
use Rattle.ng_machine.specs.kinds.Macset.{Macset}
use Rattle.ng_machine.specs.State.{State, EtfState, MacsetState}

-- its hooks, in the order in which they were made, and what an etf keeps
pub record EtfParts : Type 0 where
  pub hooks : List (List ℕ)
  pub kept : Etf

abbrev pub etf_state : EtfParts → State
etf_state parts = record { hooks = parts.hooks; kept = EtfState parts.kept }

-- its hooks, in the order in which they were made, and what a macset keeps
pub record MacsetParts : Type 0 where
  pub hooks : List (List ℕ)
  pub kept : Macset

abbrev pub macset_state : MacsetParts → State
macset_state parts = record { hooks = parts.hooks; kept = MacsetState parts.kept }
