-- The numbers of ng_message.h, which netgraph(4) describes. The constants of this crate are these (`numbers_agree`).
use Rattle.std.specs.Prelude.{ℕ, ◌+◌, ◌/◌, ◌%◌, ◌==◌, Bool}

-- the version of a header (NG_VERSION)
abbrev pub ng_version : ℕ
ng_version = 8

-- the cookie of the generic messages, which all nodes know (NGM_GENERIC_COOKIE)
abbrev pub generic_cookie : ℕ
generic_cookie = 1137070366

-- the bit of a message's number that says that the message changes nothing (NGM_READONLY)
abbrev pub read_only : ℕ
read_only = 0x10000000

-- the bit of a message's number that says that the message is answered (NGM_HASREPLY)
abbrev pub has_answer : ℕ
has_answer = 0x20000000

-- the bit of a header's flags that says that the message is an answer (NGF_RESP)
abbrev pub answer_flag : ℕ
answer_flag = 1

-- bit 28 of a message's number is set: the message changes nothing
abbrev pub is_reader_number : ℕ → Bool
is_reader_number number = number / read_only % 2 == 1

-- The generic messages (NGM_SHUTDOWN and so on): those that change something,

abbrev pub shutdown_number : ℕ
shutdown_number = 1

abbrev pub mkpeer_number : ℕ
mkpeer_number = 2

abbrev pub connect_number : ℕ
connect_number = 3

abbrev pub name_number : ℕ
name_number = 4

abbrev pub rmhook_number : ℕ
rmhook_number = 5

abbrev pub text_config_number : ℕ
text_config_number = 14

-- and those that ask, change nothing and are answered

abbrev pub nodeinfo_number : ℕ
nodeinfo_number = read_only + has_answer + 6

abbrev pub listhooks_number : ℕ
listhooks_number = read_only + has_answer + 7

abbrev pub listnames_number : ℕ
listnames_number = read_only + has_answer + 8

abbrev pub listnodes_number : ℕ
listnodes_number = read_only + has_answer + 9

abbrev pub listtypes_number : ℕ
listtypes_number = read_only + has_answer + 10

abbrev pub text_status_number : ℕ
text_status_number = read_only + has_answer + 11

abbrev pub binary2ascii_number : ℕ
binary2ascii_number = read_only + has_answer + 12

abbrev pub ascii2binary_number : ℕ
ascii2binary_number = read_only + has_answer + 13
