-- Which sorts of faults the steps of a forecast have, and which of its reads a fault is of.
use Rattle.std.proofs.Common.{◌≡◌, inl, inr, ℕ, suc, ◌+◌, nat_lt, Bool, true, false, if◌then◌else◌, List, [], ◌∷◌, ◌++◌, length, slice_get, sym, subst, arith}
use Rattle.std.specs.Prelude.{option_map}
use Rattle.std.specs.declared.option.Option.{Option}
use Rattle.std.specs.declared.option.Option.TheVariants.{None, Some}
use Rattle.ng_base.specs.declared.event.Event.{Event}
use Rattle.ng_machine.specs.World.{World, NodeRecord}
use Rattle.ng_machine.specs.Spread.{Flight, Spread, spread_in}
use Rattle.ng_pcap.specs.declared.fault.CaptureFault.{CaptureFault}
use Rattle.ng_pcap.specs.Reading.{capture_of}
use Rattle.ng_forecast.specs.spread.Met.{met_in}
use Rattle.ng_forecast.specs.spread.Weight.{weight}
use Rattle.ngctl_script.specs.declared.fault.ScriptFault.{ScriptFault}
use Rattle.ngctl_script.specs.Script.{commands_of, script_fault}
use Rattle.ng_args.specs.declared.port.PortWord.{PortWord}
use Rattle.ng_args.specs.declared.words.ForecastWords.{ForecastWords}
use Rattle.ng_call.specs.ending.Causes.{FailsReading, NoneChecked, NoneReads}
use Rattle.ng_call.specs.ending.Outside.{Outside, FileRose}
use Rattle.ng_call.specs.ending.Steps.{Step, Reads, Checks}
use Rattle.ng_call.proofs.ending.Sorts.{both_checked, both_reads, if_checked, map_checked}
use Rattle.ng_call.specs.Found.{Found}
use Rattle.ng_call.specs.Line.{in_name}
use Rattle.ng_call.specs.Steps.{script_steps, capture_steps, packets_in, fault_in, over, most_script, most_bytes, most_packets}
use Rattle.ng_call.specs.Writes.{is_stopped}
use Rattle.ng_call.proofs.GivenSorts.{AreElse as AreGivenElse, captures_checked, captures_read, script_checked}
use Rattle.ng_forecast.specs.declared.ended.ForecastFault.{ForecastFault}
use Rattle.ng_forecast.specs.declared.ended.ForecastFault.TheVariants.{Script, Capture, TooBig, ReadFault, Moving, Restless, Wide, Undefined, Big}
use Rattle.ng_forecast.specs.declared.ended.Source.{Source}
use Rattle.ng_forecast.specs.declared.ended.Source.TheVariants as of
use Rattle.ng_forecast.specs.Line.{file_name}
use Rattle.ng_forecast.specs.Moving.{moving}
use Rattle.ng_forecast.specs.Packets.{Tally, fault_from, fault_if, most_met, most_weight, no_tally, packet_fault, tally}
use Rattle.ng_forecast.specs.Steps.{flights_in, forecast_steps, late_steps, names, read_steps, restless}

module _ (P : ForecastFault → Type 0) where
  -- What is looked for

  -- the faults that are looked for
  pub record AreElse : Type 0 where
    pub big : (source : Source) → P (TooBig source) → ⊥
    pub script : (fault : ScriptFault) → P (Script fault) → ⊥
    pub capture : (port : ℕ) (why : CaptureFault) → P (Capture port why) → ⊥
    pub moving : (command : ℕ) → P (Moving command) → ⊥
    pub restless : P Restless → ⊥
    pub wide : (packet : ℕ) → P (Wide packet) → ⊥
    pub undefined : (packet : ℕ) → P (Undefined packet) → ⊥
    pub heavy : (packet : ℕ) → P (Big packet) → ⊥

  -- a fault that may be there is none of these
  abbrev IsElse : Option ForecastFault → Type 0
  IsElse None = Unit {0}
  IsElse (Some fault) = P fault → ⊥

  else_checked : (found : Option ForecastFault) → IsElse found → NoneChecked P (Checks found ∷ [])
  else_checked None is = tt
  else_checked (Some fault) is = (is, tt)

  module _ (E : AreElse) where
    given_else : AreGivenElse P names
    given_else = record {
      big_script = E.big of.Script;
      wrong_script = E.script;
      big_capture = λ port. E.big (of.Capture port);
      wrong_capture = E.capture;
    }

    read_checked : (words : ForecastWords) (found : Found) → NoneChecked P (read_steps words found)
    read_checked words found =
        both_checked P (script_steps names words.script found.script ++ Checks (option_map (λ command. Moving command) (moving (commands_of found.script))) ∷ [])
        (capture_steps names 0 0 0 words.ports found.captures)
        (both_checked P (script_steps names words.script found.script) (Checks (option_map (λ command. Moving command) (moving (commands_of found.script))) ∷ [])
        (script_checked P names given_else words.script found.script)
        (map_checked P (moving (commands_of found.script)) (λ command. Moving command) [] E.moving tt))
        (captures_checked P names given_else 0 0 0 words.ports found.captures)

    -- the fault of a packet, where those of the others are none of these

    big_else : (test : Bool) (packet : ℕ) (others : Option ForecastFault) → IsElse others → IsElse (if test then Some (Big packet) else others)
    big_else true packet others is = E.heavy packet
    big_else false packet others is = is

    if_else : (t : Tally) (met : ℕ) (spread : Option Spread) (others : Tally → Option ForecastFault) → ((u : Tally) → IsElse (others u))
        → IsElse (fault_if t met spread others)
    if_else t met None others is = E.undefined t.packet
    if_else t met (Some spread) others is =
        big_else (nat_lt most_weight (t.weight + weight spread)) t.packet (others (tally (t.packet + 1) (t.met + met) (t.weight + weight spread)))
        (is (tally (t.packet + 1) (t.met + met) (t.weight + weight spread)))

    wide_else : (test : Bool) (packet : ℕ) (others : Option ForecastFault) → IsElse others → IsElse (if test then Some (Wide packet) else others)
    wide_else true packet others is = E.wide packet
    wide_else false packet others is = is

    from_else : (nodes : List (Option NodeRecord)) (hops : ℕ) (fs : List Flight) (t : Tally) → IsElse (fault_from nodes hops fs t)
    from_else nodes hops [] t = tt
    from_else nodes hops (f ∷ fs) t =
        wide_else (nat_lt most_met (t.met + met_in nodes hops f)) t.packet (fault_if t (met_in nodes hops f) (spread_in nodes hops f) (λ u. fault_from nodes hops fs u))
        (if_else t (met_in nodes hops f) (spread_in nodes hops f) (λ u. fault_from nodes hops fs u) (λ u. from_else nodes hops fs u))

    pub none_checked : (w : World) (journal : List Event) (words : ForecastWords) (found : Found) → NoneChecked P (forecast_steps w journal words found)
    none_checked w journal words found =
        both_checked P (read_steps words found) (late_steps w journal words.hops (flights_in found)) (read_checked words found)
        (if_checked P (is_stopped journal) Restless (Checks (packet_fault w.nodes words.hops (flights_in found)) ∷ []) E.restless
        (else_checked (packet_fault w.nodes words.hops (flights_in found)) (from_else w.nodes words.hops (flights_in found) no_tally)))

  -- What is read

  module _ (unread : (source : Source) → P (ReadFault source) → ⊥) where
    pub none_read : (w : World) (journal : List Event) (words : ForecastWords) (found : Found) → NoneReads P (forecast_steps w journal words found)
    none_read w journal words found =
        both_reads P (read_steps words found) (late_steps w journal words.hops (flights_in found))
        (unread of.Script, captures_read P names (λ port. unread (of.Capture port)) 0 0 0 words.ports found.captures) tt

-- The file whose read failed

-- a read that failed stands in front of every fault that is there
past : (o : Outside) (found : Option ForecastFault) (steps : List (Step ForecastFault)) (fault : ForecastFault)
    → FailsReading o (Checks found ∷ steps) fault → FailsReading o steps fault
past o None steps fault failed = failed
past o (Some found) steps fault failed = absurd failed

past_all : (o : Outside) (a b c : Option ForecastFault) (steps : List (Step ForecastFault)) (fault : ForecastFault)
    → FailsReading o (Checks a ∷ Checks b ∷ Checks c ∷ steps) fault → FailsReading o steps fault
past_all o a b c steps fault failed =
    past o c steps fault (past o b (Checks c ∷ steps) fault (past o a (Checks b ∷ Checks c ∷ steps) fault failed))

-- what comes behind reads nothing
late_unread : (o : Outside) (a : List (Step ForecastFault)) (x y : Option ForecastFault) (fault : ForecastFault)
    → FailsReading o (a ++ Checks x ∷ Checks y ∷ []) fault → FailsReading o a fault
late_unread o [] x y fault failed = past o y [] fault (past o x (Checks y ∷ []) fault failed)
late_unread o (Reads name is ∷ a) x y fault (inl failed) = inl failed
late_unread o (Reads name is ∷ a) x y fault (inr failed) = inr (failed.0, late_unread o a x y fault failed.1)
late_unread o (Checks None ∷ a) x y fault failed = late_unread o a x y fault failed
late_unread o (Checks (Some found) ∷ a) x y fault failed = absurd failed

-- a capture's is the one that the word of its port names
record IsOfPort (o : Outside) (ports : List PortWord) (p : ℕ) (source : Source) : Type 0 where
  port : ℕ
  source_is : source ≡ of.Capture (p + port)
  rose : FileRose o (in_name (slice_get ports port))

of_later : (o : Outside) (port : PortWord) (ports : List PortWord) (p : ℕ) (source : Source) → IsOfPort o ports (p + 1) source → IsOfPort o (port ∷ ports) p source
of_later o port ports p source is = record {
  port = suc is.port;
  source_is = subst (λ (n : ℕ). source ≡ of.Capture n) (next p is.port) is.source_is;
  rose = is.rose;
}
  where
    next : (p k : ℕ) → p + 1 + k ≡ p + suc k
    next p k = omega arith

captures_fail : (o : Outside) (source : Source) (p bytes packets : ℕ) (ports : List PortWord) (captures : List (Option (List ℕ)))
    → FailsReading o (capture_steps names p bytes packets ports captures) (ReadFault source) → IsOfPort o ports p source
captures_fail o source p bytes packets [] captures failed = absurd failed
captures_fail o source p bytes packets (port ∷ ports) [] failed = absurd failed
captures_fail o source p bytes packets (port ∷ ports) (None ∷ captures) failed =
    of_later o port ports p source (captures_fail o source (p + 1) bytes packets ports captures failed)
captures_fail o source p bytes packets (port ∷ ports) (Some held ∷ captures) (inl failed) =
    let here : p ≡ p + 0 = omega arith in
    let same : source ≡ of.Capture p = cc failed.0 in
    record { port = 0; source_is = subst (λ (n : ℕ). source ≡ of.Capture n) here same; rose = failed.1 }
captures_fail o source p bytes packets (port ∷ ports) (Some held ∷ captures) (inr failed) =
    let later =
    past_all o (over most_bytes (bytes + length held) (TooBig (of.Capture p))) (option_map (λ why. Capture p why) (fault_in (capture_of held)))
    (over most_packets (packets + packets_in held) (TooBig (of.Capture p)))
    (capture_steps names (p + 1) (bytes + length held) (packets + packets_in held) ports captures) (ReadFault source) failed.1 in
    of_later o port ports p source (captures_fail o source (p + 1) (bytes + length held) (packets + packets_in held) ports captures later)

named : (o : Outside) (words : ForecastWords) (source : Source) → IsOfPort o words.ports 0 source → FileRose o (file_name source (Some words))
named o words source is =
    let here : 0 + is.port ≡ is.port = omega arith in
    subst (λ (s : Source). FileRose o (file_name s (Some words))) (sym (subst (λ (n : ℕ). source ≡ of.Capture n) here is.source_is)) is.rose

read_named : (o : Outside) (words : ForecastWords) (found : Found) (source : Source) → FailsReading o (read_steps words found) (ReadFault source)
    → FileRose o (file_name source (Some words))
read_named o words found source (inl failed) =
    let same : source ≡ of.Script = cc failed.0 in
    subst (λ (s : Source). FileRose o (file_name s (Some words))) (sym same) failed.1
read_named o words found source (inr failed) =
    named o words source
    (captures_fail o source 0 0 0 words.ports found.captures
    (past_all o (over most_script (length found.script) (TooBig of.Script)) (option_map (λ fault. Script fault) (script_fault found.script))
    (option_map (λ command. Moving command) (moving (commands_of found.script))) (capture_steps names 0 0 0 words.ports found.captures)
    (ReadFault source) failed.1))

pub file_rose : (o : Outside) (w : World) (journal : List Event) (words : ForecastWords) (found : Found) (source : Source)
    → FailsReading o (forecast_steps w journal words found) (ReadFault source) → FileRose o (file_name source (Some words))
file_rose o w journal words found source failed =
    read_named o words found source
    (late_unread o (read_steps words found) (restless journal) (packet_fault w.nodes words.hops (flights_in found)) (ReadFault source) failed)
