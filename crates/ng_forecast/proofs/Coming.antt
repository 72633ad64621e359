-- The packets of captures come in their order, each by a port that has a capture.
use Rattle.std.proofs.Common.{◌≡◌, ◌∙◌, ℕ, zero, suc, ◌+◌, ◌-◌, ◌<◌, Bool, true, false, nat_le, nat_lt, if◌then◌else◌, All, List, [], ◌∷◌, ◌++◌, length, map, refl, sym, ap, subst, arith, append-nil}
use Rattle.std.specs.declared.option.Option.{Option}
use Rattle.std.specs.declared.option.Option.TheVariants.{None, Some}
use Rattle.ng_base.specs.declared.ids.Stamp.{Stamp}
use Rattle.std.proofs.lemmas.List.{length-map}
use Rattle.ng_pcap.specs.declared.capture.Capture.{Capture}
use Rattle.ng_machine.specs.declared.input.Input.{Input}
use Rattle.ng_machine.specs.declared.input.Input.TheVariants.{Command, Late, Packet, Tick}
use Rattle.ng_machine.specs.Feed.{later}
use Rattle.ng_machine.specs.Words.{Every}
use Rattle.ngctl_script.specs.declared.feed.arrival.Arrival.{Arrival}
use Rattle.ngctl_script.specs.feed.Inputs.{arrivals_from, inputs_of, packet_inputs, seconds, ticks}
use Rattle.ngctl_script.specs.feed.Merge.{Packets, earlier, merged, merged_in, next_from, packet_count, taken, without_next}
use Rattle.ng_forecast.specs.Arrivals.{packets_among}

-- ticks are no packets
no_tick_if : (test : Bool) (n : ℕ) (inputs : List Input) → packets_among ((if test then Tick n ∷ [] else []) ++ inputs) ≡ packets_among inputs
no_tick_if true n inputs = refl
no_tick_if false n inputs = refl

no_ticks : (first clock stamp : Stamp) (inputs : List Input) → packets_among (ticks first clock stamp ++ inputs) ≡ packets_among inputs
no_ticks first clock stamp inputs =
    let n = seconds first (later clock stamp) - seconds first clock in no_tick_if (nat_lt 0 n) n inputs

among_from : (total : ℕ) (first clock : Stamp) (n : ℕ) (arrivals : List Arrival) → packets_among (arrivals_from [] total first clock n arrivals) ≡ arrivals
among_from total first clock n [] = refl
among_from total first clock n (a ∷ arrivals) =
    no_ticks first clock a.stamp _ ∙ ap (λ (l : List Arrival). a ∷ l) (among_from total first (later clock a.stamp) (n + 1) arrivals)

among_packets : (arrivals : List Arrival) → packets_among (packet_inputs [] arrivals) ≡ arrivals
among_packets [] = refl
among_packets (a ∷ arrivals) = among_from (length (a ∷ arrivals)) a.stamp a.stamp 1 (a ∷ arrivals)

-- without a script the packets among the inputs are those of the captures
pub are_merged : (captures : List Packets) → packets_among (inputs_of [] captures) ≡ merged captures
are_merged captures = ap packets_among (append-nil (packet_inputs [] (merged captures))) ∙ among_packets (merged captures)

-- Ports

earlier_port : (n : ℕ) (a : Arrival) (o : Option Arrival) (b : Arrival) → a.port < n → ((x : Arrival) → o ≡ Some x → x.port < n) → earlier a o ≡ Some b → b.port < n
earlier_port n a None b lt rest e = subst (λ (x : Arrival). x.port < n) (some_same a b e) lt
  where
    some_same : (x y : Arrival) → Some x ≡ Some y → x ≡ y
    some_same x y e = cc e
earlier_port n a (Some x) b lt rest e = chosen (nat_le a.stamp.0 x.stamp.0) e
  where
    some_same : (x y : Arrival) → Some x ≡ Some y → x ≡ y
    some_same x y e = cc e

    chosen : (test : Bool) → (if test then Some a else Some x) ≡ Some b → b.port < n
    chosen true e = subst (λ (y : Arrival). y.port < n) (some_same a b e) lt
    chosen false e = subst (λ (y : Arrival). y.port < n) (some_same x b e) (rest x refl)

next_port : (port : ℕ) (captures : List Packets) (a : Arrival) → next_from port captures ≡ Some a → a.port < port + length captures
next_port port [] a e = absurd (cc e)
next_port port ([] ∷ captures) a e = let below = next_port (port + 1) captures a e in omega arith
next_port port ((packet ∷ packets) ∷ captures) a e =
    earlier_port (port + length ((packet ∷ packets) ∷ captures)) (record { port = port; stamp = packet.0; packet = packet.1 }) (next_from (port + 1) captures) a (omega arith)
    (λ x is. let below = next_port (port + 1) captures x is in omega arith) e

as_many : (port : ℕ) (captures : List Packets) → length (without_next port captures) ≡ length captures
as_many port [] = refl
as_many zero (packets ∷ captures) = refl
as_many (suc port) (packets ∷ captures) = ap suc (as_many port captures)

taken_within : (n : ℕ) (captures : List Packets) (rest : List Packets → List Arrival) → length captures ≡ n
    → ((others : List Packets) → length others ≡ n → Every (λ (a : Arrival). a.port < n) (rest others))
    → (o : Option Arrival) → next_from 0 captures ≡ o → Every (λ (a : Arrival). a.port < n) (taken captures rest o)
taken_within n captures rest is more None e = tt
taken_within n captures rest is more (Some a) e =
    let below = next_port 0 captures a e in
    (omega arith, more (without_next a.port captures) (as_many a.port captures ∙ is))

ports_of : (turns n : ℕ) (captures : List Packets) → length captures ≡ n → Every (λ (a : Arrival). a.port < n) (merged_in turns captures)
ports_of zero n captures is = tt
ports_of (suc turns) n captures is =
    taken_within n captures (λ rest. merged_in turns rest) is (λ others many. ports_of turns n others many) (next_from 0 captures) refl

all_of : (P : Arrival → Type 0) (xs : List Arrival) → Every P xs → All P xs
all_of P [] all k d in_list = absurd (omega (arith, in_list))
all_of P (x ∷ xs) all zero d in_list = all.0
all_of P (x ∷ xs) all (suc k) d in_list = all_of P xs all.1 k d (omega (arith, in_list))

pub come_by_ports : (captures : List Packets) → All (λ (a : Arrival). a.port < length captures) (merged captures)
come_by_ports captures = all_of (λ (a : Arrival). a.port < length captures) (merged captures) (ports_of (packet_count captures) (length captures) captures refl)

pub come_within : (captures : List Capture) (arrivals : List Arrival) (ports : ℕ) → arrivals ≡ merged (map (λ capture. capture.kept) captures) → length captures ≡ ports
    → All (λ (a : Arrival). a.port < ports) arrivals
come_within captures arrivals ports are many =
    let as_many = length-map captures (λ capture. capture.kept) in
    subst (λ (n : ℕ). All (λ (a : Arrival). a.port < n) arrivals) (as_many ∙ many)
    (subst (λ (l : List Arrival). All (λ (a : Arrival). a.port < length (map (λ capture. capture.kept) captures)) l) (sym are)
    (come_by_ports (map (λ capture. capture.kept) captures)))

-- one input more
pub among_more : (xs : List Input) (x : Input) → packets_among (xs ++ x ∷ []) ≡ packets_among xs ++ packets_among (x ∷ [])
among_more [] x = refl
among_more (Command command ∷ xs) x = among_more xs x
among_more (Late command ∷ xs) x = among_more xs x
among_more (Packet port stamp packet ∷ xs) x = ap (λ (l : List Arrival). record { port = port; stamp = stamp; packet = packet } ∷ l) (among_more xs x)
among_more (Tick seconds ∷ xs) x = among_more xs x
