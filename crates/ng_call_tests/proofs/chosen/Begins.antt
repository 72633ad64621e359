-- A core that was just made: what may be fed to it, and that it runs.
use Rattle.std.proofs.Common.{◌≡◌, ℕ, zero, suc, ◌+◌, ◌≤◌, Bool, true, false, cond, List, [], ◌∷◌, ◌++◌, length, map, nat_le, nat_lt, replicate, refl, ap, arith}
use Rattle.std.specs.List.{list_all, list_any}
use Rattle.std.proofs.lemmas.Bool.{and_parts, leb-true, ltb-true}
use Rattle.ng_base.specs.declared.kind.Kind.{Kind}
use Rattle.ng_base.specs.declared.packet.TheConstants.{MAX_PACKET_LEN}
use Rattle.ng_machine.specs.declared.input.Input.{Input}
use Rattle.ng_machine.specs.declared.input.Input.TheVariants.{Command, Late, Packet, Tick}
use Rattle.ng_machine.specs.Feed.{Request, RefusedFor, Helps, Nothing, Orders, Asks, Writes, request_of}
use Rattle.ng_machine.specs.KnownRun.{FitsInput, FitsRequest}
use Rattle.ng_machine.specs.Refusal.{is_command}
use Rattle.ng_machine.specs.Words.{Every, times}
use Rattle.ng_core.specs.Beginning.{begun_core}
use Rattle.ng_core.specs.CoreStory.{story}
use Rattle.ng_machine.specs.story.Story.{AreFitFor, has_ended}
use Rattle.ng_call_tests.specs.chosen.Fit.{fits_input, fits_request}

request_fits : (r : Request) → fits_request r ≡ true → FitsRequest r
request_fits (Writes hook bytes) e = leb-true (length bytes) MAX_PACKET_LEN e
request_fits (RefusedFor why) e = tt
request_fits Helps e = tt
request_fits Nothing e = tt
request_fits (Orders path number name args) e = tt
request_fits (Asks path name text) e = tt

input_fits : (ports : ℕ) (input : Input) → fits_input ports input ≡ true → FitsInput ports input
input_fits ports (Command command) e = request_fits (request_of command.what) e
input_fits ports (Late command) e = request_fits (request_of command.what) e
input_fits ports (Packet port stamp packet) e =
    let k = and_parts (nat_lt port ports) (nat_le (length packet) MAX_PACKET_LEN) e in (ltb-true port ports k.0, leb-true (length packet) MAX_PACKET_LEN k.1)
input_fits ports (Tick seconds) e = tt

inputs_fit : (ports : ℕ) (inputs : List Input) → list_all (fits_input ports) inputs ≡ true → Every (FitsInput ports) inputs
inputs_fit ports [] e = tt
inputs_fit ports (x ∷ inputs) e = let k = and_parts (fits_input ports x) (list_all (fits_input ports) inputs) e in (input_fits ports x k.0, inputs_fit ports inputs k.1)

few_commands : (inputs : List Input) → times is_command inputs ≤ length inputs
few_commands [] = omega arith
few_commands (x ∷ inputs) = let rest = few_commands inputs in by (is_command x) rest
  where
    by : (b : Bool) → times is_command inputs ≤ length inputs → cond b 1 0 + times is_command inputs ≤ suc (length inputs)
    by true le = omega arith
    by false le = omega arith

pub begun_fits : (own : List ℕ) (ports : List (List ℕ)) (kinds : List Kind) (budget seats : ℕ) (inputs : List Input) → budget ≤ 1000 → length ports ≤ 2 → length inputs ≤ 4096
    → list_all (fits_input (length ports)) inputs ≡ true → AreFitFor (story (begun_core own ports kinds budget seats)) inputs
begun_fits own ports kinds budget seats inputs low few short fit = record {
  budget = omega arith;
  ports = omega arith;
  commands = let less = few_commands inputs in omega arith;
  fits = inputs_fit (length ports) inputs fit;
}

nobody : (n : ℕ) → list_any (λ (b : Bool). b) (replicate n false) ≡ false
nobody zero = refl
nobody (suc n) = nobody n

pub begun_runs : (own : List ℕ) (ports : List (List ℕ)) (kinds : List Kind) (seats : ℕ) → has_ended (story (begun_core own ports kinds 1000 seats)) ≡ false
begun_runs own ports kinds seats = nobody seats

pub map_push : {X Y : Type 0} (f : X → Y) (xs : List X) (x : X) → map f (xs ++ x ∷ []) ≡ map f xs ++ f x ∷ []
map_push f [] x = refl
map_push f (y ∷ xs) x = ap (λ (l : List _). f y ∷ l) (map_push f xs x)
