-- How much comes of one packet: what goes on is no longer than the longest packet, and not much of it.
use Rattle.std.specs.Prelude.{◌≡◌, ℕ, ◌+◌, ◌≤◌, List, length, Option}
use Rattle.ng_base.specs.declared.kind.Kind.{Kind}
use Rattle.ng_base.specs.declared.packet.TheConstants.{MAX_PACKET_LEN}
use Rattle.ng_base.specs.declared.ids.LinkId.{LinkId}
use Rattle.ng_machine.specs.declared.body.Body.{Body}
use Rattle.ng_machine.specs.declared.body.Body.TheVariants.{Frame}
use Rattle.ng_machine.specs.declared.body.Door.{Door}
use Rattle.ng_machine.specs.declared.body.Exit.{Exit}
use Rattle.ng_machine.specs.declared.outcome.Outcome.{Outcome}
use Rattle.ng_machine.specs.Words.{Every}
use Rattle.ng_machine.specs.State.{KindState, BridgeState, State, blank_kept, kept_with_hook, kept_without_hook}
use Rattle.ng_machine.specs.Counters.{Count}
use Rattle.ng_machine.specs.Case.{outcome_of, absorb, kept_after}

-- no packet is longer, that a capture holds or a script writes
abbrev pub Fits : List ℕ → Type 0
Fits packet = length packet ≤ MAX_PACKET_LEN

-- a bridge's links, which are as many as the hooks that made them
abbrev pub links_of : KindState → ℕ
links_of (BridgeState s) = length s.links
links_of _ = 0

-- a packet for each hook or link, or for each of 64 links of a one2many
abbrev pub most_sent : State → ℕ
most_sent state = 64 + (length state.hooks + links_of state.kept)

pub record IsBounded (most : ℕ) (out : Outcome) : Type 0 where
  pub sends : Every (λ (x : List ℕ × List ℕ). Fits x.1) out.sends
  pub leaves : Every (λ (x : Exit × List ℕ). Fits x.1) out.leaves
  pub few : length out.sends + length out.leaves ≤ most

abbrev pub PacketsAreBounded : Type 0
PacketsAreBounded = (state : State) (door : Door) (link : Option LinkId) (packet : List ℕ) → Fits packet → IsBounded (most_sent state) (outcome_of state (Frame door link packet))

-- a hook brings at most one link, and nothing else brings any
pub record LinksAreFew : Type 0 where
  pub blank : (kind : Kind) → links_of (blank_kept kind) ≡ 0
  pub made : (kept : KindState) (hook : List ℕ) → links_of (kept_with_hook kept hook) ≤ 1 + links_of kept
  pub cut : (kept : KindState) (hook : List ℕ) → links_of (kept_without_hook kept hook) ≤ links_of kept
  pub absorbed : (kept : KindState) (counts : List Count) → links_of (absorb kept counts) ≡ links_of kept
  pub after : (state : State) (body : Body) → links_of (kept_after state body) ≡ links_of state.kept
