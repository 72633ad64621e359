-- The line that tells a fault, on standard error.
use Rattle.std.specs.Prelude.{ℕ, ◌/◌, ◌%◌, nat_lt, false, ◌||◌, if◌then◌else◌, List, [], ◌∷◌, ◌++◌, codes, slice_get, Option, Some, None}
use Rattle.std.specs.Fmt.{decimal, digit_glyph}
use Rattle.std.specs.List.{flat_map}
use Rattle.ng_pcap.specs.declared.fault.CaptureFault.{CaptureFault}
use Rattle.ng_pcap.specs.declared.fault.CaptureFault.TheVariants.{ShortHeader, NoMagic, BadVersion, BadLink, TooLong, NoMemory as NoMemoryForCapture}
use Rattle.ngctl_script.specs.declared.fault.ScriptFault.{ScriptFault}
use Rattle.ngctl_script.specs.declared.fault.ScriptFault.TheVariants.{LineTooLong, BadMark, TooMany, NoMemory as NoMemoryForScript}
use Rattle.ng_args.specs.declared.port.PortWord.{PortWord}
use Rattle.ng_args.specs.declared.words.Source.{Source}
use Rattle.ng_args.specs.declared.words.Source.TheVariants.{FromFiles, Made}
use Rattle.ng_args.specs.declared.words.Words.{Words}
use Rattle.ng_call.specs.declared.ended.Fault.{Fault}
use Rattle.ng_call.specs.declared.ended.Fault.TheVariants.{Usage, Script, Capture, TooBig, ReadFault, WriteFault, NoMemory}
use Rattle.ng_call.specs.declared.ended.Which.{Which}
use Rattle.ng_call.specs.declared.ended.Which.TheVariants as of

abbrev pub usage_words : List ℕ
usage_words = codes "usage: ngrun [-w WORKERS] [-b BUDGET] [-n NAME] [-j JOURNAL] SCRIPT [PORT=IN,OUT ..]"

abbrev pub at_line : ℕ → List ℕ → List ℕ
at_line line why = codes "script line " ++ (decimal line ++ why)

abbrev pub script_words : ScriptFault → List ℕ
script_words (LineTooLong line) = at_line line (codes ": line too long")
script_words (BadMark line) = at_line line (codes ": bad mark")
script_words (TooMany line) = at_line line (codes ": too many commands")
script_words NoMemoryForScript = codes "out of memory"

abbrev pub capture_words : CaptureFault → List ℕ
capture_words (ShortHeader n) = codes "short header"
capture_words NoMagic = codes "no capture"
capture_words BadVersion = codes "bad version"
capture_words (BadLink n) = codes "bad link type " ++ decimal n
capture_words (TooLong place n) = codes "packet too long at byte " ++ decimal place
capture_words NoMemoryForCapture = codes "out of memory"

-- the files that the words name; a name that they do not have is empty

abbrev pub script_of : Source → List ℕ
script_of (FromFiles script ports) = script
script_of (Made packets) = []

abbrev pub script_named : Option Words → List ℕ
script_named None = []
script_named (Some words) = script_of words.source

abbrev pub ports_of : Source → List PortWord
ports_of (FromFiles script ports) = ports
ports_of (Made packets) = []

abbrev pub ports_named : Option Words → List PortWord
ports_named None = []
ports_named (Some words) = ports_of words.source

abbrev pub name_or_none : Option (List ℕ) → List ℕ
name_or_none None = []
name_or_none (Some name) = name

abbrev pub journal_named : Option Words → List ℕ
journal_named None = []
journal_named (Some words) = name_or_none words.journal

abbrev pub port_name : Option PortWord → List ℕ
port_name None = []
port_name (Some port) = port.name

abbrev pub in_name : Option PortWord → List ℕ
in_name None = []
in_name (Some port) = port.in_file

abbrev pub out_name : Option PortWord → List ℕ
out_name None = []
out_name (Some port) = port.out_file

-- how a file or the sink is called
abbrev pub file_name : Which → Option Words → List ℕ
file_name of.Sink words = codes "output"
file_name of.Script words = script_named words
file_name (of.Capture p) words = in_name (slice_get (ports_named words) p)
file_name (of.Leaving p) words = out_name (slice_get (ports_named words) p)
file_name of.Journal words = journal_named words

-- How the name of a file is shown: a byte that is not printable ASCII by two digits of base 16, as in `\x1b`, and each other byte as
-- it is. So no name moves the cursor of a terminal, or ends the line.

abbrev pub two_digits : ℕ → List ℕ
two_digits byte = digit_glyph false (byte / 16) ∷ digit_glyph false (byte % 16) ∷ []

abbrev pub shown_byte : ℕ → List ℕ
shown_byte byte = if nat_lt byte 0x20 || nat_lt 0x7e byte then codes "\\x" ++ two_digits byte else byte ∷ []

abbrev pub shown : List ℕ → List ℕ
shown name = flat_map shown_byte name

-- what is said behind `ngrun: `
abbrev pub fault_words : Fault → Option Words → List ℕ
fault_words Usage words = usage_words
fault_words (Script fault) words = script_words fault
fault_words (Capture p why) words = codes "capture " ++ (port_name (slice_get (ports_named words) p) ++ (codes ": " ++ capture_words why))
fault_words (TooBig which) words = codes "too big: " ++ shown (file_name which words)
fault_words (ReadFault which) words = codes "can't read " ++ shown (file_name which words)
fault_words (WriteFault which) words = codes "can't write " ++ shown (file_name which words)
fault_words NoMemory words = codes "out of memory"

abbrev pub line_feed : List ℕ
line_feed = 0x0a ∷ []

abbrev pub fault_line : Fault → Option Words → List ℕ
fault_line fault words = codes "ngrun: " ++ (fault_words fault words ++ line_feed)
