-- The commands in front of every mark may be run.
use Rattle.std.proofs.Common.{◌≡◌, ℕ, ◌≤◌, Bool, true, false, ◌&&◌, nat_le, if◌then◌else◌, List, [], ◌∷◌, ◌++◌, length, map, refl, subst, arith}
use Rattle.std.specs.declared.option.Option.{Option}
use Rattle.std.specs.declared.option.Option.TheVariants.{None, Some}
use Rattle.std.proofs.lemmas.Bool.{leb-true}
use Rattle.std.proofs.lemmas.List.{length-map}
use Rattle.ng_base.specs.declared.kind.Kind.{Kind}
use Rattle.ng_machine.specs.declared.input.Input.{Input}
use Rattle.ng_machine.specs.KnownRun.{FitsInput}
use Rattle.ng_machine.specs.LowRun.{IsModest}
use Rattle.ng_machine.specs.Refusal.{is_command}
use Rattle.ng_machine.specs.Words.{Every, times}
use Rattle.ngctl_script.specs.feed.Inputs.{Timed, commands_that, is_first, is_after, late_commands, packet_inputs}
use Rattle.ng_laws.specs.printable.Scripts.{AreFitFor, InputsAreFit}
use Rattle.ng_args.specs.declared.words.ForecastWords.{ForecastWords}
use Rattle.ng_args.specs.Forecast.{forecast_parts, forecast_words_of, if_forecast_words}
use Rattle.ng_base.specs.Names.{are_different}
use Rattle.ng_args.specs.Lists.{are_undashed}
use Rattle.ng_args.specs.Together.{are_ports, most_ports}
use Rattle.ngctl_script.specs.Held.{AreCommands}
use Rattle.ng_forecast.specs.Steps.{setting_of}

every_front : {A : Type 0} (P : A → Type 0) (a b : List A) → Every P (a ++ b) → Every P a
every_front P [] b all = tt
every_front P (x ∷ a) b all = (all.0, every_front P a b all.1)

times_front : {A : Type 0} (p : A → Bool) (a b : List A) → times p a ≤ times p (a ++ b)
times_front p [] b = omega arith
times_front p (x ∷ a) b = let rest = times_front p a b in omega arith

and_left : (a b : Bool) → (a && b) ≡ true → a ≡ true
and_left true b e = refl
and_left false b e = absurd (cc e)

and_right : (a b : Bool) → (a && b) ≡ true → b ≡ true
and_right true b e = e
and_right false b e = absurd (cc e)

pub few_ports : (w : ForecastWords) → are_ports w.own_name w.ports ≡ true → length w.ports ≤ 64
few_ports w e = leb-true (length w.ports) most_ports (and_left (nat_le (length w.ports) most_ports) (are_different (w.own_name ∷ map (λ port. port.name) w.ports)) e)

pub names_differ : (w : ForecastWords) → are_ports w.own_name w.ports ≡ true → are_different (w.own_name ∷ map (λ port. port.name) w.ports) ≡ true
names_differ w e = and_right (nat_le (length w.ports) most_ports) (are_different (w.own_name ∷ map (λ port. port.name) w.ports)) e

abbrev behind : Timed → List Input
behind script = commands_that (is_after 0 0) script ++ (packet_inputs script [] ++ late_commands script)

pub is_modest : (kinds : List Kind) (w : ForecastWords) (script : Timed) → are_ports w.own_name w.ports ≡ true → AreCommands script → InputsAreFit
    → IsModest (setting_of kinds w script)
is_modest kinds w script ports held fit =
    let few = few_ports w ports in
    let many = length-map w.ports (λ port. port.name) in
    let all : AreFitFor script [] (length (map (λ port. port.name) w.ports)) = fit script [] (length (map (λ port. port.name) w.ports)) held (omega arith) tt in
    let front = times_front is_command (commands_that is_first script) (behind script) in
    let whole = all.commands in
    record {
      budget = omega arith;
      ports = omega arith;
      commands = omega arith;
      fits = every_front (FitsInput (length (map (λ port. port.name) w.ports))) (commands_that is_first script) (behind script) all.fit;
    }

-- Words that are in form

if_that : (test : Bool) (v w : ForecastWords) → (if test then Some v else None) ≡ Some w → (test ≡ true) × (v ≡ w)
if_that true v w e = (refl, (let same : v ≡ w = cc e in same))
if_that false v w e = absurd (cc e)

if_said : (x : Option ForecastWords) (w : ForecastWords) → if_forecast_words x ≡ Some w → are_ports w.own_name w.ports ≡ true
if_said None w e = absurd (cc e)
if_said (Some v) w e =
    let both = if_that (are_ports v.own_name v.ports) v w e in
    subst (λ (u : ForecastWords). are_ports u.own_name u.ports ≡ true) both.1 both.0

if_undashed : (test : Bool) (x : Option ForecastWords) (w : ForecastWords) → (if test then if_forecast_words x else None) ≡ Some w → are_ports w.own_name w.ports ≡ true
if_undashed true x w e = if_said x w e
if_undashed false x w e = absurd (cc e)

pub said_ports : (said : List (List ℕ)) (w : ForecastWords) → forecast_words_of said ≡ Some w → are_ports w.own_name w.ports ≡ true
said_ports said w e = if_undashed (are_undashed said) (forecast_parts said) w e
