-- Generic messages, read: which order the number and the arguments of a message are (ng_message.h, described in
-- netgraph(4)). A name stands in 32 bytes up to its first NUL, and the path of connect in 512.
use Rattle.std.specs.Prelude.{ℕ, Bool, true, false, ◌==◌, ◌||◌, if◌then◌else◌, List, length, take, Option, Some, None, Result, Ok, Err}
use Rattle.ng_base.specs.declared.errno.Errno.{Errno}
use Rattle.ng_message.specs.Fields.{field_text}
use Rattle.ng_machine.specs.Words.{is_empty}
use Rattle.ng_machine.specs.Errors.{einval, eopnotsupp}
use Rattle.ng_message.specs.Numbers.{is_reader_number, shutdown_number, mkpeer_number, connect_number, name_number, rmhook_number, text_config_number, nodeinfo_number, listhooks_number, listnames_number, listnodes_number, listtypes_number, text_status_number, binary2ascii_number, ascii2binary_number}
use Rattle.ng_machine.specs.Arguments.{read_name}

-- what asks and changes nothing
pub data Question : Type 0 where
  NodeInfo ListHooks ListNames ListNodes ListTypes : Question

pub data Order : Type 0 where
  Shutdown : Order
  Mkpeer : List ℕ → List ℕ → List ℕ → Order  -- type, our hook, the new node's hook
  Connect : List ℕ → List ℕ → List ℕ → Order  -- the bytes of an address, our hook, the peer's hook
  Rename : List ℕ → Order
  Rmhook : List ℕ → Order
  Asks : Question → Order

abbrev pub bare : Order → List ℕ → Result Order Errno
bare order args = if is_empty args then Ok order else Err einval

abbrev pub with_name : (List ℕ → Order) → Option (List ℕ) → Result Order Errno
with_name make None = Err einval
with_name make (Some name) = Ok (make name)

abbrev pub with_names : (List ℕ → List ℕ → Order) → Option (List ℕ) → Option (List ℕ) → Result Order Errno
with_names make None b = Err einval
with_names make (Some a) b = with_name (make a) b

-- { type ourhook peerhook }, 32 bytes each
abbrev pub mkpeer_of : Option (List ℕ) → Option (List ℕ) → Option (List ℕ) → Result Order Errno
mkpeer_of None ours theirs = Err einval
mkpeer_of (Some kind) ours theirs = with_names (Mkpeer kind) ours theirs

abbrev pub read_mkpeer : List ℕ → Result Order Errno
read_mkpeer args = if length args == 96 then mkpeer_of (read_name args 0) (read_name args 32) (read_name args 64) else Err einval

-- { path ourhook peerhook }, 512 bytes and 32 each; the address is read where the order is carried out
abbrev pub read_connect : List ℕ → Result Order Errno
read_connect args = if length args == 576 then with_names (Connect (field_text (take 512 args))) (read_name args 512) (read_name args 544) else Err einval

-- { name }, 32 bytes
abbrev pub read_named : (List ℕ → Order) → List ℕ → Result Order Errno
read_named make args = if length args == 32 then with_name make (read_name args 0) else Err einval

-- the orders that change something: shutdown 1, mkpeer 2, connect 3, name 4, rmhook 5; textconfig 14 is refused
abbrev pub read_change : ℕ → List ℕ → Result Order Errno
read_change number args =
    if number == shutdown_number then bare Shutdown args
    else if number == mkpeer_number then read_mkpeer args
    else if number == connect_number then read_connect args
    else if number == name_number then read_named Rename args
    else if number == rmhook_number then read_named Rmhook args
    else if number == text_config_number then Err eopnotsupp
    else Err einval

abbrev pub ask : Question → List ℕ → Result Question Errno
ask question args = if is_empty args then Ok question else Err einval

-- the orders that ask, each with the bits 28 and 29, which say that it reads and has an answer: nodeinfo 6, listhooks 7,
-- listnames 8, listnodes 9, listtypes 10; textstatus 11, binary2ascii 12 and ascii2binary 13 are refused
abbrev pub read_question : ℕ → List ℕ → Result Question Errno
read_question number args =
    if number == nodeinfo_number then ask NodeInfo args
    else if number == listhooks_number then ask ListHooks args
    else if number == listnames_number then ask ListNames args
    else if number == listnodes_number then ask ListNodes args
    else if number == listtypes_number then ask ListTypes args
    else if number == text_status_number || (number == binary2ascii_number || number == ascii2binary_number) then Err eopnotsupp
    else Err einval

abbrev pub as_order : Result Question Errno → Result Order Errno
as_order (Ok question) = Ok (Asks question)
as_order (Err errno) = Err errno

-- a number that reads is one that asks
abbrev pub read_by_mode : Bool → ℕ → List ℕ → Result Order Errno
read_by_mode true number args = as_order (read_question number args)
read_by_mode false number args = read_change number args

abbrev pub read_order : ℕ → List ℕ → Result Order Errno
read_order number args = read_by_mode (is_reader_number number) number args
