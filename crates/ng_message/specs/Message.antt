-- Which bytes are a message, and what is told of invalid ones.
use Rattle.std.specs.Prelude.{◌≡◌, ◌<◌, ◌^◌, ℕ, Bool, true, not, ◌==◌, if◌then◌else◌, List, length, ◌++◌, Option, Some, None, Result, Ok, Err, ◌⊎◌}
use Rattle.std.specs.List.{list_any}
use Rattle.ng_base.specs.declared.ids.NodeId.{NodeId}
use Rattle.ng_message.specs.declared.message.Header.{Header}
use Rattle.ng_message.specs.declared.message.Msg.{Msg}
use Rattle.ng_message.specs.declared.fault.MsgFault.{MsgFault}
use Rattle.ng_message.specs.declared.fault.MsgFault.TheVariants.{Short, BadVersion, BadLength, NoNul, NoMemory}
use Rattle.ng_message.specs.Layout.{header_bytes}
use Rattle.ng_message.specs.Numbers.{ng_version}

-- the numbers are of their fields' sizes, and the name of the command has its 32 bytes
pub record IsHeader (header : Header) : Type 0 where
  pub version : header.version < 2 ^ 8
  pub spare : header.spare < 2 ^ 8
  pub spare2 : header.spare2 < 2 ^ 16
  pub arglen : header.arglen < 2 ^ 32
  pub cmd : header.cmd < 2 ^ 32
  pub flags : header.flags < 2 ^ 32
  pub token : header.token < 2 ^ 32
  pub typecookie : header.typecookie < 2 ^ 32
  pub name_len : length header.cmdstr ≡ 32

-- a NUL stands in the text
abbrev pub has_nul : List ℕ → Bool
has_nul text = list_any (λ byte. byte == 0) text

-- the first fault of a header with so many bytes behind it
abbrev pub header_fault : Header → ℕ → Option MsgFault
header_fault header had =
    if not (header.version == ng_version) then Some (BadVersion header.version)
    else if not (header.arglen == had) then Some (BadLength header.arglen had)
    else if not (has_nul header.cmdstr) then Some NoNul
    else None

-- a message without a fault: of that version, with the arguments that its header says, and with a command's name that
-- ends
pub record IsInForm (msg : Msg) : Type 0 where
  pub version : msg.header.version ≡ ng_version
  pub arglen : msg.header.arglen ≡ length msg.args
  pub name_ends : has_nul msg.header.cmdstr ≡ true

-- what is answered of a header and the bytes behind it: the message that they are, or the first fault; or that there
-- is no memory, where there is no fault
abbrev pub Answers : NodeId → Header → List ℕ → Result Msg MsgFault → Type 0
Answers from header rest (Ok msg) =
    (header_fault header (length rest) ≡ None) × (msg ≡ record { from = from; header = header; args = rest })
Answers from header rest (Err NoMemory) = header_fault header (length rest) ≡ None
Answers from header rest (Err fault) = header_fault header (length rest) ≡ Some fault

-- What is answered of bytes: that they are too few for a header, or what is answered of the header that they begin
-- with and of the rest.
abbrev pub IsAnswer : NodeId → List ℕ → Result Msg MsgFault → Type 0
IsAnswer from bytes result =
    ((length bytes < 56) × (result ≡ Err (Short (length bytes))))
    ⊎ ((header : Header) × (rest : List ℕ) × IsHeader header × (bytes ≡ header_bytes header ++ rest)
    × Answers from header rest result)

-- the message, unless memory ran out
abbrev pub IsUnlessNoMemory : Msg → Result Msg MsgFault → Type 0
IsUnlessNoMemory msg (Ok found) = found ≡ msg
IsUnlessNoMemory msg (Err fault) = fault ≡ NoMemory
