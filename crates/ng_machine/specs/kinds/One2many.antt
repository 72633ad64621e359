-- ng_one2many(4): a packet that comes by a many hook goes out of one; one that comes by one goes out of active links, by
-- the transmit algorithm: to the links in turn (NG_ONE2MANY_XMIT_ROUNDROBIN), to all (NG_ONE2MANY_XMIT_ALL) or to the
-- least (NG_ONE2MANY_XMIT_FAILOVER). A link is active where it is enabled and its hook is there. The cursor, and what
-- becomes of a packet without an active link, are this project's choice.
use Rattle.std.specs.Prelude.{ℕ, ◌+◌, ◌%◌, Bool, false, not, ◌==◌, ◌&&◌, nat_lt, nat_le, if◌then◌else◌, List, [], ◌∷◌, ◌++◌, map, length, drop, slice_get, slice_index, replicate, codes, Option, Some, None}
use Rattle.std.specs.List.{filter, find}
use Rattle.std.specs.Option.{option_or, option_to_list}
use Rattle.std.specs.Str.{bytes_eq}
use Rattle.byteorder.specs.Endian.{little_bytes}
use Rattle.ng_base.specs.declared.errno.Errno.{Errno}
use Rattle.ng_base.specs.Names.{has_name}
use Rattle.ng_machine.specs.declared.body.Door.{Door}
use Rattle.ng_machine.specs.declared.body.Door.TheVariants.{Wire, Hook}
use Rattle.ng_machine.specs.declared.outcome.Outcome.{Outcome}
use Rattle.ng_machine.specs.Words.{is_empty, below}
use Rattle.ng_machine.specs.Errors.{no_error, einval, enotconn}
use Rattle.ng_machine.specs.Names.{one, digits}
use Rattle.ng_machine.specs.Arguments.{number_at}
use Rattle.ng_machine.specs.Counters.{Count, Rows, zeros, row_named, at_row, without_row, count_row, after_counts, row_bytes, counts_packet, counts_packets}
use Rattle.ng_machine.specs.Outcome.{nothing, Reply, refuses, invalid, sets, answers, with_length, unless, by_number}

-- a row of counters for each hook: recvOctets, recvPackets, xmitOctets, xmitPackets and memoryFailures; it begins and ends
-- with its hook
pub record One2many : Type 0 where
  pub algorithm : ℕ  -- xmitAlg, 1 to 3
  pub failure : ℕ  -- failAlg, 1
  pub enabled : List ℕ  -- enabledLinks, 0 or 1 each
  pub cursor : ℕ
  pub rows : Rows

abbrev pub blank_one2many : One2many
blank_one2many = record { algorithm = 1; failure = 1; enabled = replicate 64 0; cursor = 0; rows = [] }

abbrev pub many_with_hook : One2many → List ℕ → One2many
many_with_hook s hook = record s { rows = s.rows ++ (hook, zeros 5) ∷ [] }

abbrev pub many_without_hook : One2many → List ℕ → One2many
many_without_hook s hook = record s { rows = without_row hook s.rows }

-- the hook of a link
abbrev pub many : ℕ → List ℕ
many link = codes "many" ++ digits link

abbrev pub is_active : One2many → List (List ℕ) → ℕ → Bool
is_active s hooks link = slice_index s.enabled link == 1 && has_name hooks (many link)

-- in order of numbers
abbrev pub active_links : One2many → List (List ℕ) → List ℕ
active_links s hooks = filter (is_active s hooks) (below 64)

-- the link whose turn it is: the least that isn't below the cursor, or else the least
abbrev pub next_in_turn : ℕ → List ℕ → Option ℕ
next_in_turn cursor links = option_or (find (nat_le cursor) links) (slice_get links 0)

abbrev pub links_to_deal : One2many → List ℕ → List ℕ
links_to_deal s links =
    if s.algorithm == 1 then option_to_list (next_in_turn s.cursor links)
    else if s.algorithm == 2 then links
    else option_to_list (slice_get links 0)

-- what a packet by a hook goes out of
abbrev pub deal_targets : One2many → List (List ℕ) → List ℕ → List (List ℕ)
deal_targets s hooks hook =
    if bytes_eq hook one then map many (links_to_deal s (active_links s hooks))
    else if has_name hooks one then one ∷ []
    else []

-- a packet by one without an active link is refused
abbrev pub dealing_errno : List ℕ → List (List ℕ) → Errno
dealing_errno hook others = if bytes_eq hook one && is_empty others then enotconn else no_error

abbrev pub deals_to : List ℕ → List (List ℕ) → List ℕ → Outcome
deals_to hook others packet = record nothing {
  sends = map (λ other. (other, packet)) others;
  counts = counts_packet 1 0 hook (length packet) ++ counts_packets 3 2 others (length packet);
  errno = dealing_errno hook others;
}

abbrev pub deals : One2many → List (List ℕ) → Door → List ℕ → Outcome
deals s hooks (Hook hook) packet = deals_to hook (deal_targets s hooks hook) packet
deals s hooks Wire packet = nothing

-- the cursor goes behind the link whose turn it was
abbrev pub cursor_behind : ℕ → Option ℕ → ℕ
cursor_behind cursor None = cursor
cursor_behind cursor (Some link) = (link + 1) % 64

abbrev pub moves_cursor : One2many → Door → Bool
moves_cursor s (Hook hook) = bytes_eq hook one && s.algorithm == 1
moves_cursor s Wire = false

abbrev pub cursor_after : One2many → List (List ℕ) → Door → ℕ
cursor_after s hooks door = if moves_cursor s door then cursor_behind s.cursor (next_in_turn s.cursor (active_links s hooks)) else s.cursor

abbrev pub count_many : One2many → Count → One2many
count_many s c = record s { rows = count_row s.rows c }

abbrev pub many_after : One2many → List (List ℕ) → Door → List Count → One2many
many_after s hooks door counts = record (after_counts count_many s counts) { cursor = cursor_after s hooks door }

-- Messages

-- { xmitAlg failAlg enabledLinks }: 4, 4 and 64 bytes
abbrev pub config_refusals : One2many → List ℕ → List (Bool × Errno)
config_refusals s args =
    (not (nat_le 1 (number_at 4 args 0) && nat_le (number_at 4 args 0) 3), einval)
    ∷ (not (number_at 4 args 4 == 1), einval)
    ∷ []

abbrev pub with_config : One2many → List ℕ → One2many
with_config s args = record s {
  algorithm = number_at 4 args 0;
  failure = number_at 4 args 4;
  enabled = map (λ value. if value == 0 then 0 else 1) (drop 8 args);
}

abbrev pub set_config : One2many → List ℕ → Reply One2many
set_config s args = unless s (config_refusals s args) (sets (with_config s args))

abbrev pub config_bytes : One2many → List ℕ
config_bytes s = little_bytes 4 s.algorithm ++ little_bytes 4 s.failure ++ s.enabled

-- the hook of a link's number in a message, a number of 32 bits with a sign, of which -1 is one
abbrev pub link_hook : ℕ → Option (List ℕ)
link_hook number = if number == 0xffffffff then Some one else if nat_lt number 64 then Some (many number) else None

-- the reply by a link's counters: a link that isn't one is invalid, and one whose hook isn't there isn't connected
abbrev pub by_row : One2many → Option (List ℕ) → (List ℕ → Reply One2many) → Reply One2many
by_row s None reply = refuses s enotconn
by_row s (Some row) reply = reply row

abbrev pub by_hook : One2many → Option (List ℕ) → (List ℕ → List ℕ → Reply One2many) → Reply One2many
by_hook s None reply = invalid s
by_hook s (Some hook) reply = by_row s (row_named hook s.rows) (reply hook)

abbrev pub by_link : One2many → List ℕ → (List ℕ → List ℕ → Reply One2many) → Reply One2many
by_link s args reply = with_length s 4 args (by_hook s (link_hook (number_at 4 args 0)) reply)

abbrev pub many_clear : One2many → List ℕ → One2many
many_clear s hook = record s { rows = at_row hook (λ row. zeros 5) s.rows }

-- setconfig 1, getconfig 2, getstats 3, clrstats 4, getclrstats 5 (NGM_ONE2MANY_SET_CONFIG and so on)
abbrev pub one2many_messages : One2many → List ℕ → List (ℕ × Reply One2many)
one2many_messages s args =
    (1, with_length s 72 args (set_config s args))
    ∷ (0x30000002, with_length s 0 args (answers s (config_bytes s)))
    ∷ (0x20000003, by_link s args (λ hook row. answers s (row_bytes row)))
    ∷ (4, by_link s args (λ hook row. sets (many_clear s hook)))
    ∷ (0x20000005, by_link s args (λ hook row. answers (many_clear s hook) (row_bytes row)))
    ∷ []

abbrev pub one2many_message : One2many → ℕ → List ℕ → Reply One2many
one2many_message s number args = by_number s number (one2many_messages s args)
