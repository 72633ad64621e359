-- How the answer to a command is printed.
use Rattle.std.specs.Prelude.{ℕ, false, List, [], ◌++◌, codes, Option, Some, None, Result, Ok, Err}
use Rattle.std.specs.Fmt.{digits}
use Rattle.ng_machine.specs.declared.command.What.{What}
use Rattle.ng_machine.specs.declared.command.What.TheVariants.{List as Lists, Show, Types}
use Rattle.ng_shape.specs.Shape.{Shape, Nothing}
use Rattle.ng_shape.specs.declared.fault.BytesFault.{BytesFault}
use Rattle.ng_parse.specs.Texts.{text_of_bytes}
use Rattle.ng_table.specs.Message.{Message}
use Rattle.ngctl_print.specs.listing.Lists.{list_text, show_text, types_text, IsCounted, IsShown}
use Rattle.ngctl_print.specs.Dump.{line_feed}

-- the name of the message that is answered, and the number of the node that answers it, in hexadecimal (ngctl(8), "msg")
unfoldable pub answer_head : List ℕ → ℕ → List ℕ
answer_head name from = codes "answer " ++ (name ++ (codes " from [" ++ (digits 16 false from ++ (codes "]:" ++ line_feed))))

-- a line of the text; nothing where the bytes have none
abbrev pub text_line : Result (List ℕ) BytesFault → List ℕ
text_line (Ok text) = text ++ line_feed
text_line (Err fault) = []

-- the text of the answer's bytes in its message's shape; no line where there is no answer to print
abbrev pub value_line : Shape → List ℕ → List ℕ
value_line Nothing bytes = []
value_line shape bytes = text_line (text_of_bytes shape bytes)

-- the answer to a message that is in the table
abbrev pub message_text : Option Message → ℕ → List ℕ → List ℕ
message_text None from bytes = []
message_text (Some message) from bytes = answer_head message.name from ++ value_line message.answer bytes

-- `list`, `show` and `types` print what they asked for in columns, and any other command prints the message
abbrev pub answer_text : Option What → ℕ → Option Message → List ℕ → List ℕ
answer_text (Some (Lists named)) from message bytes = list_text named bytes
answer_text (Some (Show brief path)) from message bytes = show_text brief bytes
answer_text (Some Types) from message bytes = types_text bytes
answer_text _ from message bytes = message_text message from bytes

-- the bytes are as long as the columns need: a count of 4 bytes and 72 bytes a node, a node and its links, or a count and
-- 36 bytes a type (struct namelist, hooklist and typelist of ng_message.h)
abbrev pub FitsAnswer : Option What → List ℕ → Type 0
FitsAnswer (Some (Lists named)) bytes = IsCounted 72 bytes
FitsAnswer (Some (Show brief path)) bytes = IsShown brief bytes
FitsAnswer (Some Types) bytes = IsCounted 36 bytes
FitsAnswer _ bytes = Unit {0}
