-- ng_etf(4): a frame that comes by downstream goes out of the hook of its ethertype's filter, and without one out of
-- nomatch; one that comes by nomatch goes out of downstream, and so does one that comes by a filter's hook with its
-- ethertype. The errors, and what is counted, are this project's choice.
use Rattle.std.specs.Prelude.{ℕ, Bool, false, not, ◌==◌, nat_lt, nat_le, if◌then◌else◌, List, [], ◌∷◌, ◌++◌, length, drop, is_some, Option, Some, None}
use Rattle.std.specs.List.{filter, find, flat_map}
use Rattle.std.specs.Str.{bytes_eq}
use Rattle.byteorder.specs.Endian.{little_bytes, big_number}
use Rattle.ng_base.specs.declared.errno.Errno.{Errno}
use Rattle.ng_base.specs.Names.{has_name}
use Rattle.ng_message.specs.Fields.{name_field}
use Rattle.ng_machine.specs.declared.body.Door.{Door}
use Rattle.ng_machine.specs.declared.body.Door.TheVariants.{Wire, Hook}
use Rattle.ng_machine.specs.declared.outcome.Outcome.{Outcome}
use Rattle.ng_machine.specs.declared.plan.EtfWay.{EtfWay}
use Rattle.ng_machine.specs.Errors.{einval, enoent, eexist, enfile, eperm}
use Rattle.ng_machine.specs.Names.{downstream, nomatch}
use Rattle.ng_base.specs.Name.{is_name}
use Rattle.ng_machine.specs.Arguments.{number_at, text_at}
use Rattle.ng_machine.specs.Counters.{Count, zeros, raise_at, row_bytes}
use Rattle.ng_machine.specs.Outcome.{nothing, sends_by, fails, Reply, sets, answers, with_length, unless, by_number}

-- the filters in order of ethertypes, which end with their hook, and the counters inFrames and outFrames, which stay
pub record Etf : Type 0 where
  pub filters : List EtfWay
  pub counters : List ℕ

abbrev pub blank_etf : Etf
blank_etf = record { filters = []; counters = zeros 2 }

abbrev pub most_filters : ℕ
most_filters = 4096

abbrev pub etf_without_hook : Etf → List ℕ → Etf
etf_without_hook s hook = record s { filters = filter (λ f. not (bytes_eq f.hook hook)) s.filters }

abbrev pub etf_filter_of : ℕ → List EtfWay → Option EtfWay
etf_filter_of ethertype filters = find (λ f. f.ethertype == ethertype) filters

-- Packets

-- the number after the two addresses
abbrev pub ethertype_of : List ℕ → ℕ
ethertype_of frame = big_number 2 (drop 12 frame)

abbrev pub is_short : List ℕ → Bool
is_short frame = nat_lt (length frame) 14

-- out of downstream, which is counted under the hook of arrival
abbrev pub goes_down : List (List ℕ) → List ℕ → List ℕ → Outcome
goes_down hooks hook frame =
    if has_name hooks downstream
    then record nothing { sends = (downstream, frame) ∷ []; counts = (hook, 1, 1) ∷ [] }
    else nothing

abbrev pub upward : Option EtfWay → List ℕ
upward None = nomatch
upward (Some f) = f.hook

abbrev pub goes_up : List (List ℕ) → List EtfWay → List ℕ → Outcome
goes_up hooks filters frame = if is_short frame then fails einval else sends_by hooks (upward (etf_filter_of (ethertype_of frame) filters)) frame

-- the frame's ethertype has a filter of this hook
abbrev pub is_own : List ℕ → Option EtfWay → Bool
is_own hook None = false
is_own hook (Some f) = bytes_eq f.hook hook

abbrev pub goes_back : List (List ℕ) → List EtfWay → List ℕ → List ℕ → Outcome
goes_back hooks filters hook frame =
    if is_short frame then fails einval
    else if is_own hook (etf_filter_of (ethertype_of frame) filters) then goes_down hooks hook frame
    else fails eperm

abbrev pub sorts : List (List ℕ) → List EtfWay → Door → List ℕ → Outcome
sorts hooks filters (Hook hook) frame =
    if bytes_eq hook downstream then record (goes_up hooks filters frame) { counts = (hook, 0, 1) ∷ [] }
    else if bytes_eq hook nomatch then goes_down hooks hook frame
    else goes_back hooks filters hook frame
sorts hooks filters Wire frame = nothing

abbrev pub count_etf : Etf → Count → Etf
count_etf s c = record s { counters = raise_at s.counters c.1 c.2 }

-- Messages

abbrev pub put_etf : EtfWay → List EtfWay → List EtfWay
put_etf f [] = f ∷ []
put_etf f (g ∷ filters) = if nat_lt f.ethertype g.ethertype then f ∷ g ∷ filters else g ∷ put_etf f filters

-- { matchhook ethertype }: 32 and 2 bytes
abbrev pub etf_filter_in : List ℕ → EtfWay
etf_filter_in args = record { ethertype = number_at 2 args 32; hook = text_at args 0 }

abbrev pub filter_refusals : Etf → List (List ℕ) → EtfWay → List (Bool × Errno)
filter_refusals s hooks f =
    (not (is_name f.hook), einval)
    ∷ (has_name (downstream ∷ nomatch ∷ []) f.hook, einval)
    ∷ (nat_lt f.ethertype 1536, einval)
    ∷ (not (has_name hooks f.hook), enoent)
    ∷ (is_some (etf_filter_of f.ethertype s.filters), eexist)
    ∷ (nat_le most_filters (length s.filters), enfile)
    ∷ []

abbrev pub with_etf_filter : Etf → List (List ℕ) → EtfWay → Etf
with_etf_filter s hooks f = record s { filters = put_etf f s.filters }

abbrev pub set_filter : Etf → List (List ℕ) → EtfWay → Reply Etf
set_filter s hooks f = unless s (filter_refusals s hooks f) (sets (with_etf_filter s hooks f))

abbrev pub etf_filter_bytes : EtfWay → List ℕ
etf_filter_bytes f = name_field f.hook ++ little_bytes 2 f.ethertype

abbrev pub etf_filters_bytes : List EtfWay → List ℕ
etf_filters_bytes filters = little_bytes 4 (length filters) ++ flat_map etf_filter_bytes filters

-- setfilter 1, getstatus 2, gettable 3 (NGM_ETF_SET_FILTER and so on)
abbrev pub etf_messages : Etf → List (List ℕ) → List ℕ → List (ℕ × Reply Etf)
etf_messages s hooks args =
    (1, with_length s 34 args (set_filter s hooks (etf_filter_in args)))
    ∷ (0x20000002, with_length s 0 args (answers s (row_bytes s.counters)))
    ∷ (0x30000003, with_length s 0 args (answers s (etf_filters_bytes s.filters)))
    ∷ []

abbrev pub etf_message : Etf → List (List ℕ) → ℕ → List ℕ → Reply Etf
etf_message s hooks number args = by_number s number (etf_messages s hooks args)
