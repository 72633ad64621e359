-- What a state is sound by stays so: through new hooks and cuts, packets, messages, time and learning. A blank state is sound.
use Rattle.std.specs.Prelude.{◌≡◌, ℕ, true, List}
use Rattle.ng_base.specs.Names.{has_name}
use Rattle.ng_base.specs.declared.kind.Kind.{Kind}
use Rattle.ng_machine.specs.declared.body.Body.{Body}
use Rattle.ng_machine.specs.declared.body.Body.TheVariants.{Learn}
use Rattle.ng_machine.specs.Counters.{Count}
use Rattle.ng_machine.specs.Rules.{accepts_hook}
use Rattle.ng_machine.specs.State.{State, kind_of, blank_of, add_hook, cut_hook}
use Rattle.ng_machine.specs.Case.{absorb, kept_after}
use Rattle.ng_machine.specs.Sound.{IsSound}

-- what is to be learned comes by a hook that is there
abbrev pub IsByHook : State → Body → Type 0
IsByHook state (Learn hook link addr) = has_name state.hooks hook ≡ true
IsByHook state _ = Unit {0}

pub record StatesStaySound : Type 0 where
  pub blank : (kind : Kind) → IsSound (blank_of kind)
  pub made : (state : State) (hook : List ℕ) → IsSound state → accepts_hook (kind_of state) hook ≡ true → IsSound (add_hook state hook)
  pub cut : (state : State) (hook : List ℕ) → IsSound state → IsSound (cut_hook state hook)
  pub absorbed : (state : State) (counts : List Count) → IsSound state → IsSound (record state { kept = absorb state.kept counts })
  pub after : (state : State) (body : Body) → IsByHook state body → IsSound state → IsSound (record state { kept = kept_after state body })
