-- What a command asks for, in the machine's words.
use Rattle.std.specs.Prelude.{◌≤◌, length}
use Rattle.ng_machine.specs.Feed.{Request, RefusedFor, Helps, Nothing, Orders, Asks, Writes}
use Rattle.ng_core.specs.declared.intake.asked.Asked.{Asked}
use Rattle.ng_core.specs.declared.intake.asked.Asked.TheVariants.{Refused, Help, Nothing as Nought, Order, Message, Packet}

abbrev pub request : Asked → Request
request (Refused why) = RefusedFor why
request Help = Helps
request Nought = Nothing
request (Order path number name args) = Orders path number name.now args
request (Message path command args) = Asks path command args
request (Packet hook bytes) = Writes hook bytes

-- a header has room for the name of an order
abbrev pub FitsHeader : Request → Type 0
FitsHeader (Orders path number name args) = length name ≤ 32
FitsHeader (RefusedFor why) = Unit {0}
FitsHeader Helps = Unit {0}
FitsHeader Nothing = Unit {0}
FitsHeader (Asks path name text) = Unit {0}
FitsHeader (Writes hook bytes) = Unit {0}
