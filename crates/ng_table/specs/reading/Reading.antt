-- How the name and the text of a message are read, for the type of the node that is to get it: by the table of messages,
-- and the text by the form of what the message is made of (ngctl(8), msg).
use Rattle.std.specs.Prelude.{ℕ, List, ◌++◌, codes, Option, Some, None, Result, Ok, Err}
use Rattle.std.specs.Fmt.{decimal}
use Rattle.ng_base.specs.declared.kind.Kind.{Kind}
use Rattle.ng_machine.specs.declared.input.Input.{Input}
use Rattle.ng_machine.specs.Feed.{RunInput, Reading, NoSuchMessage, BadArguments, Reads}
use Rattle.ng_parse.specs.declared.fault.TextFault.{TextFault}
use Rattle.ng_parse.specs.declared.fault.TextFault.TheVariants.{Unexpected, UnknownField, Twice, Range, TooMany, NoMemory}
use Rattle.ng_parse.specs.Texts.{bytes_of_text}
use Rattle.ng_table.specs.Message.{Message}
use Rattle.ng_table.specs.Table.{find_name}
use Rattle.ng_table.specs.declared.reading.reading.Found.{Found}
use Rattle.ng_table.specs.declared.reading.reading.Found.TheVariants.{Unknown, Wrong, Message as Whole}

abbrev pub at_place : ℕ → List ℕ → List ℕ
at_place place why = codes "bad arguments at " ++ (decimal place ++ (codes ": " ++ why))

-- the words that tell a fault; no text has the last one
abbrev pub fault_words : TextFault → List ℕ
fault_words (Unexpected place) = at_place place (codes "unexpected")
fault_words (UnknownField place) = at_place place (codes "unknown field")
fault_words (Twice place) = at_place place (codes "field twice")
fault_words (Range place) = at_place place (codes "out of range")
fault_words (TooMany place) = at_place place (codes "too many")
fault_words NoMemory = codes "out of memory"

abbrev pub read_arguments : ℕ → ℕ → Result (List ℕ) TextFault → Reading
read_arguments cookie number (Ok bytes) = Reads cookie number bytes
read_arguments cookie number (Err fault) = BadArguments (fault_words fault)

abbrev pub read_by : Option (ℕ × Message) → List ℕ → Reading
read_by None text = NoSuchMessage
read_by (Some found) text = read_arguments found.0 found.1.number (bytes_of_text found.1.args text)

-- a node knows the messages of its type, and those that all nodes know
abbrev pub reading : Kind → List ℕ → List ℕ → Reading
reading kind name text = read_by (find_name kind name) text

-- what a run of these inputs is given
abbrev pub given : List Input → RunInput
given inputs = record { inputs = inputs; reading = reading }

-- what was found, in the machine's words
abbrev pub reading_of : Found → Reading
reading_of Unknown = NoSuchMessage
reading_of (Wrong why) = BadArguments why
reading_of (Whole cookie number args) = Reads cookie number args
