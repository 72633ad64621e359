-- A packet that is fed, and the commands behind it.
use Rattle.std.proofs.Common.{◌≡◌, ℕ, ◌+◌, List, [], ◌∷◌, ◌++◌, map, ap, ◌∙◌}
use Rattle.std.proofs.lemmas.List.{append_assoc}
use Rattle.ng_base.specs.declared.ids.Stamp.{Stamp}
use Rattle.ng_machine.specs.declared.input.Input.{Input}
use Rattle.ng_machine.specs.declared.input.Input.TheVariants.{Command}
use Rattle.ng_machine.specs.Feed.{later}
use Rattle.ngctl_script.specs.declared.feed.arrival.Arrival.{Arrival}
use Rattle.ngctl_script.specs.feed.Inputs.{Timed, ticks, packet_input}
use Rattle.ngctl_script.specs.feed.Dealing.{due, left, feeds_from}

four_parts : {A : Type 0} (xs ts : List A) (p : A) (ds rest : List A) → xs ++ (ts ++ p ∷ []) ++ ds ++ rest ≡ xs ++ (ts ++ (p ∷ (ds ++ rest)))
four_parts xs ts p ds rest = simp append_assoc

pub one_step : (packets : ℕ) (first clock now : Stamp) (place : ℕ) (script rest_script : Timed) (arrival : Arrival) (left_over : List Arrival) (before middle after : List Input)
    → middle ≡ before ++ (ticks first clock arrival.stamp ++ packet_input arrival ∷ []) → after ≡ middle ++ map (λ timed. Command timed.1) (due packets (place + 1) script)
    → rest_script ≡ left packets (place + 1) script → now ≡ later clock arrival.stamp
    → after ++ feeds_from packets first now (place + 1) rest_script left_over ≡ before ++ feeds_from packets first clock place script (arrival ∷ left_over)
one_step packets first clock now place script rest_script arrival left_over before middle after one two rest time =
    ap (λ inputs. inputs ++ feeds_from packets first now (place + 1) rest_script left_over) (two ∙ ap (λ inputs. inputs ++ map (λ timed. Command timed.1) (due packets (place + 1) script)) one)
    ∙ ap (λ stamp. before ++ (ticks first clock arrival.stamp ++ packet_input arrival ∷ []) ++ map (λ timed. Command timed.1) (due packets (place + 1) script)
    ++ feeds_from packets first stamp (place + 1) rest_script left_over) time
    ∙ ap (λ commands. before ++ (ticks first clock arrival.stamp ++ packet_input arrival ∷ []) ++ map (λ timed. Command timed.1) (due packets (place + 1) script)
    ++ feeds_from packets first (later clock arrival.stamp) (place + 1) commands left_over) rest
    ∙ four_parts before (ticks first clock arrival.stamp) (packet_input arrival) (map (λ timed. Command timed.1) (due packets (place + 1) script))
    (feeds_from packets first (later clock arrival.stamp) (place + 1) (left packets (place + 1) script) left_over)
