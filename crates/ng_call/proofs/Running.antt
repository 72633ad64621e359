-- What was read may be run, and what the run tells may be written.
use Rattle.std.proofs.Common.{◌≡◌, ◌∙◌, ℕ, ◌≤◌, List, [], ◌∷◌, length, map, zero, suc, Option, Some, None, All, refl, sym, ap, subst, arith}
use Rattle.ng_base.specs.Name.{IsName}
use Rattle.ng_base.specs.declared.event.Event.{Event}
use Rattle.ng_base.specs.declared.kind.Kind.{Kind}
use Rattle.ng_machine.specs.declared.command.Command.{Command}
use Rattle.ng_machine.specs.declared.input.Input.{Input}
use Rattle.ng_machine.specs.Bounds.{Fits}
use Rattle.ng_machine.specs.KnownRun.{FitsInput}
use Rattle.ng_machine.specs.Laws.{IsJournal, world_after}
use Rattle.ng_machine.specs.LowRun.{most_commands}
use Rattle.ng_machine.specs.Refusal.{is_command}
use Rattle.ng_machine.specs.Words.{Every, times}
use Rattle.ng_machine.specs.World.{World, Port}
use Rattle.ng_machine.proofs.Owing.{every_imply}
use Rattle.ng_outside.specs.Contents.{Contents}
use Rattle.ng_pcap.specs.declared.capture.Capture.{Capture}
use Rattle.ng_pcap.specs.Writing.{IsWritable}
use Rattle.ngctl_script.specs.declared.when.When.{When}
use Rattle.ngctl_script.specs.Held.{AreCommands}
use Rattle.ngctl_script.specs.Script.{commands_of}
use Rattle.ngctl_script.specs.feed.Early.{IsEarly}
use Rattle.ngctl_script.specs.feed.Inputs.{inputs_of}
use Rattle.ngctl_script.specs.feed.Merge.{Packets}
use Rattle.ngctl_print.specs.whole.Captures.{AreWritable}
use Rattle.ngctl_print.specs.whole.Commands.{commands_in}
use Rattle.ngctl_print.specs.whole.Told.{ArePrintable}
use Rattle.ng_laws.specs.printable.Printable.{ToldIsPrintable, LeftIsWritable, AscendFrom, IsBefore, end_of_time}
use Rattle.ng_laws.specs.printable.Scripts.{AreFitFor, AreOfScript, InputsAreOfScript, InputsAreFit, InputsAreTimed}
use Rattle.ng_args.specs.Run.{ports_from}
use Rattle.ng_args.specs.declared.port.PortWord.{PortWord}
use Rattle.ng_args.specs.declared.words.Source.{Source}
use Rattle.ng_args.specs.declared.words.Source.TheVariants.{FromFiles, Made}
use Rattle.ng_args.specs.declared.words.Words.{Words}
use Rattle.ng_call.specs.Said.{InForm}
use Rattle.ng_call.specs.Found.{Found, AreRead, capture_in}
use Rattle.ng_call.specs.MayRun.{MayRun}
use Rattle.ng_call.specs.Run.{setting_of, inputs_in}
use Rattle.ng_call.specs.Call.{IsFound}
use Rattle.ng_call.specs.Parts.{AllPass, AreAllWritable}

every_map : {A B : Type 0} (P : B → Type 0) (f : A → B) (xs : List A) → Every (λ x. P (f x)) xs → Every P (map f xs)
every_map P f [] all = tt
every_map P f (x ∷ xs) all = (all.0, every_map P f xs all.1)

map_length : {A B : Type 0} (f : A → B) (xs : List A) → length (map f xs) ≡ length xs
map_length f [] = refl
map_length f (x ∷ xs) = ap suc (map_length f xs)

pub every_all : {A : Type 0} (P : A → Type 0) (xs : List A) → Every P xs → All P xs
every_all P [] all k d in_list = absurd (omega (arith, in_list))
every_all P (x ∷ xs) all zero d in_list = all.0
every_all P (x ∷ xs) all (suc k) d in_list = every_all P xs all.1 k d (omega (arith, in_list))

read_length : (files : List ℕ → Contents) (ports : List PortWord) (captures : List (Option (List ℕ))) → AreRead files ports captures
    → length captures ≡ length ports
read_length files [] [] read = refl
read_length files [] (x ∷ captures) read = absurd read
read_length files (port ∷ ports) [] read = absurd read
read_length files (port ∷ ports) (None ∷ captures) read = ap suc (read_length files ports captures read.1)
read_length files (port ∷ ports) (Some bytes ∷ captures) read = ap suc (read_length files ports captures read.2)

found_length : (files : List ℕ → Contents) (source : Source) (found : Found) → IsFound files source found
    → length found.captures ≡ length (ports_from source)
found_length files (FromFiles script ports) found is = read_length files ports found.captures is.1
found_length files (Made packets) found is = ap (λ (f : Found). length f.captures) is

-- the captures may be fed
pub all_early : (captures : List Capture) → AreAllWritable captures → All (λ (capture : Capture). All IsEarly capture.kept) captures
all_early captures writable =
    every_all (λ (capture : Capture). All IsEarly capture.kept) captures
    (every_imply (λ (capture : Capture). Every IsWritable capture.kept) (λ (capture : Capture). All IsEarly capture.kept)
    (λ capture all. every_all IsEarly capture.kept (every_imply IsWritable IsEarly (λ packet one. one.in_seconds) capture.kept all)) captures writable)

module _ (files : List ℕ → Contents) (w : Words) (script : List (When × Command)) (commands : List Command) (captures : List Capture)
    (kinds : List Kind) (form : InForm w) (pass : AllPass files w.source script commands captures) where
  writable : AreAllWritable captures
  writable = subst AreAllWritable (sym pass.captures_are) pass.writable

  as_many : length captures ≡ length (ports_from w.source)
  as_many =
      ap length pass.captures_are
      ∙ map_length capture_in pass.found.captures
      ∙ found_length files w.source pass.found pass.is_found

  pub cuts_many : (ports : List PortWord) (cuts : List (Option ℕ)) → ports ≡ ports_from w.source
      → cuts ≡ map (λ (capture : Capture). capture.cut) captures → length ports ≡ length cuts
  cuts_many ports cuts ports_are cuts_are =
      ap length ports_are
      ∙ sym as_many
      ∙ sym (map_length (λ (capture : Capture). capture.cut) captures)
      ∙ sym (ap length cuts_are)

  pub early : All (λ (capture : Capture). All IsEarly capture.kept) captures
  early = all_early captures writable

  pub few_captures : length captures ≤ 64
  few_captures = omega (arith, as_many, form.few)

  module _ (held : AreCommands script) (of_script : InputsAreOfScript) (fit : InputsAreFit) (timed : InputsAreTimed) (inputs : List Input)
      (is : inputs ≡ inputs_of script (map (λ capture. capture.kept) captures)) where
    fits : AreFitFor script (map (λ (capture : Capture). capture.kept) captures) (length (map (λ (port : PortWord). port.name) (ports_from w.source)))
    fits =
        fit script (map (λ (capture : Capture). capture.kept) captures) (length (map (λ (port : PortWord). port.name) (ports_from w.source))) held
        (omega (arith, map_length (λ (capture : Capture). capture.kept) captures, map_length (λ (port : PortWord). port.name) (ports_from w.source), as_many))
        (every_map (λ (packets : Packets). Every (λ x. Fits x.1) packets) (λ (capture : Capture). capture.kept) captures
        (every_imply (λ (capture : Capture). Every IsWritable capture.kept) (λ (capture : Capture). Every (λ x. Fits x.1) capture.kept)
        (λ capture all. every_imply IsWritable (λ x. Fits x.1) (λ packet one. one.in_length) capture.kept all) captures writable))

    times_are : Every (IsBefore end_of_time) (inputs_of script (map (λ (capture : Capture). capture.kept) captures))
    times_are =
        timed script (map (λ (capture : Capture). capture.kept) captures)
        (every_map (λ (packets : Packets). Every IsEarly packets) (λ (capture : Capture). capture.kept) captures
        (every_imply (λ (capture : Capture). Every IsWritable capture.kept) (λ (capture : Capture). Every IsEarly capture.kept)
        (λ capture all. every_imply IsWritable IsEarly (λ packet one. one.in_seconds) capture.kept all) captures writable))

    said_by : AreOfScript script (map (λ (capture : Capture). capture.kept) captures)
    said_by = of_script script (map (λ (capture : Capture). capture.kept) captures) held

    pub may_run : MayRun (setting_of kinds w inputs)
    may_run = record {
      modest = record {
        budget = form.most;
        ports = omega (arith, map_length (λ (port : PortWord). port.name) (ports_from w.source), form.few);
        commands = subst (λ (l : List Input). times is_command l ≤ most_commands) (sym is) fits.commands;
        fits = subst (λ (l : List Input). Every (FitsInput (length (map (λ (port : PortWord). port.name) (ports_from w.source)))) l) (sym is) fits.fit;
      };
      some = form.some;
      names = record { own = form.own; ports = every_map IsName (λ (port : PortWord). port.name) (ports_from w.source) form.ports };
      differ = form.names;
      numbered = subst (λ (l : List Input). AscendFrom 0 (commands_in l)) (sym is) said_by.ascend;
      timed = subst (λ (l : List Input). Every (IsBefore end_of_time) l) (sym is) times_are;
    }

    pub inputs_found : inputs ≡ inputs_in pass.found
    inputs_found =
        is
        ∙ ap (λ (l : List (When × Command)). inputs_of l (map (λ (capture : Capture). capture.kept) captures)) pass.script_is
        ∙ ap (λ (l : List Capture). inputs_of (commands_of pass.found.script) (map (λ (capture : Capture). capture.kept) l)) pass.captures_are

    commands_are : commands_in inputs ≡ commands
    commands_are =
        ap commands_in is
        ∙ said_by.commands
        ∙ ap (map (λ (timed : When × Command). timed.1)) pass.script_is
        ∙ sym pass.commands_are

    pub all_printable : ToldIsPrintable → (journal : List Event) (world : World) → IsJournal (setting_of kinds w inputs) journal
        → world ≡ world_after (setting_of kinds w inputs) journal → ArePrintable commands world.told
    all_printable law journal world orderly same =
        subst (λ (v : World). ArePrintable commands v.told) (sym same)
        (subst (λ (l : List Command). ArePrintable l (world_after (setting_of kinds w inputs) journal).told) commands_are
        (law (setting_of kinds w inputs) journal orderly may_run.modest may_run.names may_run.numbered))

    pub all_writable : LeftIsWritable → (journal : List Event) (world : World) → IsJournal (setting_of kinds w inputs) journal
        → world ≡ world_after (setting_of kinds w inputs) journal → Every (λ (p : Port). AreWritable p.leaving) world.ports
    all_writable law journal world orderly same =
        subst (λ (v : World). Every (λ (p : Port). AreWritable p.leaving) v.ports) (sym same)
        (law (setting_of kinds w inputs) journal orderly may_run.modest.fits may_run.timed)
