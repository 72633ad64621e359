-- What is written of a run, in order: the text, the captures that leave, the journal.
use Rattle.std.specs.Prelude.{ℕ, ◌+◌, Bool, true, false, not, ◌==◌, if◌then◌else◌, List, [], ◌∷◌, ◌++◌, length, map, Option, Some, None}
use Rattle.std.specs.List.{list_any}
use Rattle.ng_base.specs.declared.event.Event.{Event}
use Rattle.ng_base.specs.declared.event.Event.TheVariants as events
use Rattle.ng_base.specs.declared.kind.Kind.{Kind}
use Rattle.ng_machine.specs.declared.told.Told.{Told}
use Rattle.ng_machine.specs.declared.told.Told.TheVariants as tells
use Rattle.ng_machine.specs.World.{World, Port}
use Rattle.ng_pcap.specs.declared.capture.Capture.{Capture}
use Rattle.ng_journal.specs.Journal.{journal_text}
use Rattle.ngctl_script.specs.Script.{commands_of}
use Rattle.ngctl_print.specs.whole.Captures.{left_of}
use Rattle.ngctl_print.specs.whole.Text.{PortShown, world_text}
use Rattle.ng_args.specs.declared.port.PortWord.{PortWord}
use Rattle.ng_args.specs.declared.words.Words.{Words}
use Rattle.ng_args.specs.Run.{ports_from}
use Rattle.ng_args.specs.Together.{is_file}
use Rattle.ng_call.specs.ending.Outside.{ToSink, ToFile}
use Rattle.ng_call.specs.ending.Writes.{Write}
use Rattle.ng_call.specs.declared.ended.Fault.{Fault}
use Rattle.ng_call.specs.declared.ended.Fault.TheVariants.{WriteFault}
use Rattle.ng_call.specs.declared.ended.Which.TheVariants.{Sink, Leaving, Journal}
use Rattle.ng_call.specs.Found.{Found, captures_in}
use Rattle.ng_call.specs.Run.{inputs_in, world_in}

-- the journal has a Stop, which is its last event
abbrev pub is_stop : Event → Bool
is_stop events.Stop = true
is_stop _ = false

abbrev pub is_stopped : List Event → Bool
is_stopped journal = list_any is_stop journal

-- an error was told
abbrev pub is_error : Told → Bool
is_error (tells.Refused command errno why) = not (errno.0 == 0)
is_error _ = false

abbrev pub has_error : World → Bool
has_error w = list_any is_error w.told

-- the ports of the text, each with the place where its capture was cut
abbrev pub shown_by : List PortWord → List (Option ℕ) → List PortShown
shown_by [] cuts = []
shown_by (port ∷ ports) [] = []
shown_by (port ∷ ports) (cut ∷ cuts) = record { name = port.name; cut = cut } ∷ shown_by ports cuts

abbrev pub shown_ports : List PortWord → List Capture → List PortShown
shown_ports ports captures = shown_by ports (map (λ capture. capture.cut) captures)

abbrev pub text_in : List Kind → Words → Found → List Event → List ℕ
text_in kinds words found journal =
    world_text (map (λ timed. timed.1) (commands_of found.script)) (shown_ports (ports_from words.source) (captures_in found.captures))
    (length (inputs_in found)) (world_in kinds words found journal) (is_stopped journal)

abbrev pub text_write : List ℕ → Write Fault
text_write text = record { place = ToSink; bytes = text; failed = WriteFault Sink }

-- the captures that leave, of the ports from p on whose OUT has a name
abbrev pub out_write : ℕ → List ℕ → Port → Write Fault
out_write p file port = record { place = ToFile file; bytes = left_of port; failed = WriteFault (Leaving p) }

abbrev pub out_writes : ℕ → List PortWord → List Port → List (Write Fault)
out_writes p [] ports = []
out_writes p (word ∷ words) [] = []
out_writes p (word ∷ words) (port ∷ ports) =
    if is_file word.out_file then out_write p word.out_file port ∷ out_writes (p + 1) words ports
    else out_writes (p + 1) words ports

-- the journal, where it has a file
abbrev pub journal_writes : Option (List ℕ) → List Event → List (Write Fault)
journal_writes None journal = []
journal_writes (Some file) journal = record { place = ToFile file; bytes = journal_text journal; failed = WriteFault Journal } ∷ []

abbrev pub writes_in : List Kind → Words → Found → List Event → List (Write Fault)
writes_in kinds words found journal =
    text_write (text_in kinds words found journal)
    ∷ (out_writes 0 (ports_from words.source) (world_in kinds words found journal).ports ++ journal_writes words.journal journal)
