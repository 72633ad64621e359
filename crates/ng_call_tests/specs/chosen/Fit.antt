-- Whether an input fits, as a test.
use Rattle.std.specs.Prelude.{ℕ, Bool, true, ◌&&◌, nat_le, nat_lt, length}
use Rattle.ng_base.specs.declared.packet.TheConstants.{MAX_PACKET_LEN}
use Rattle.ng_machine.specs.declared.input.Input.{Input}
use Rattle.ng_machine.specs.declared.input.Input.TheVariants.{Command, Late, Packet, Tick}
use Rattle.ng_machine.specs.Feed.{Request, Writes, request_of}

abbrev pub fits_request : Request → Bool
fits_request (Writes hook bytes) = nat_le (length bytes) MAX_PACKET_LEN
fits_request _ = true

abbrev pub fits_input : ℕ → Input → Bool
fits_input ports (Command command) = fits_request (request_of command.what)
fits_input ports (Late command) = fits_request (request_of command.what)
fits_input ports (Packet port stamp packet) = nat_lt port ports && nat_le (length packet) MAX_PACKET_LEN
fits_input ports (Tick seconds) = true
