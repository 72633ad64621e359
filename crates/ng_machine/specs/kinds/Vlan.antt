-- ng_vlan(4): a frame that comes by downstream with a tag of the node's type (IEEE 802.1Q, 802.1ad) and the number of a
-- filter goes out of the filter's hook without the tag, and every other packet out of nomatch. What comes by nomatch goes
-- out of downstream; what comes by a filter's hook gets the filter's tag on the way. The errors, and the messages on the
-- type of tags, are this project's choice.
use Rattle.std.specs.Prelude.{ℕ, Bool, not, ◌==◌, ◌||◌, nat_lt, if◌then◌else◌, List, [], ◌∷◌, ◌++◌, length, is_some, Option, Some, None}
use Rattle.std.specs.List.{filter, find, flat_map}
use Rattle.std.specs.Str.{bytes_eq}
use Rattle.byteorder.specs.Endian.{little_bytes}
use Rattle.ng_base.specs.declared.errno.Errno.{Errno}
use Rattle.ng_base.specs.Names.{has_name}
use Rattle.ng_frame.specs.Frame.{customer_tag, service_tag, tag_control, tag_of, with_tag, without_tag}
use Rattle.ng_message.specs.Fields.{name_field}
use Rattle.ng_machine.specs.declared.body.Door.{Door}
use Rattle.ng_machine.specs.declared.body.Door.TheVariants.{Wire, Hook}
use Rattle.ng_machine.specs.declared.outcome.Outcome.{Outcome}
use Rattle.ng_machine.specs.declared.plan.VlanWay.{VlanWay}
use Rattle.ng_machine.specs.Errors.{einval, emsgsize, enotconn, enoent, eexist}
use Rattle.ng_machine.specs.Names.{downstream, nomatch}
use Rattle.ng_base.specs.Name.{is_name}
use Rattle.ng_machine.specs.Arguments.{number_at, text_at}
use Rattle.ng_machine.specs.Outcome.{nothing, sends_by, fails, Reply, sets, answers, with_length, unless, by_number}

-- the type of tags, and the filters in order of numbers; a filter ends with its hook
pub record Vlan : Type 0 where
  pub kind : ℕ
  pub filters : List VlanWay

abbrev pub blank_vlan : Vlan
blank_vlan = record { kind = customer_tag; filters = [] }

abbrev pub is_filter_of : List ℕ → VlanWay → Bool
is_filter_of hook f = bytes_eq f.hook hook

abbrev pub without_filters_of : List ℕ → List VlanWay → List VlanWay
without_filters_of hook filters = filter (λ f. not (is_filter_of hook f)) filters

abbrev pub vlan_without_hook : Vlan → List ℕ → Vlan
vlan_without_hook s hook = record s { filters = without_filters_of hook s.filters }

abbrev pub filter_of_hook : List ℕ → List VlanWay → Option VlanWay
filter_of_hook hook filters = find (is_filter_of hook) filters

abbrev pub filter_of_number : ℕ → List VlanWay → Option VlanWay
filter_of_number number filters = find (λ f. f.vlan == number) filters

-- Packets

abbrev pub out_of_filter : List (List ℕ) → Option VlanWay → List ℕ → Outcome
out_of_filter hooks None frame = sends_by hooks nomatch frame
out_of_filter hooks (Some f) frame = sends_by hooks f.hook (without_tag frame)

abbrev pub by_tag : List (List ℕ) → List VlanWay → Option (ℕ × List ℕ) → List ℕ → Outcome
by_tag hooks filters None frame = sends_by hooks nomatch frame
by_tag hooks filters (Some tag) frame = out_of_filter hooks (filter_of_number tag.0 filters) frame

abbrev pub control_of : VlanWay → ℕ
control_of f = tag_control f.pcp f.cfi f.vlan

abbrev pub into_filter : List (List ℕ) → ℕ → Option VlanWay → List ℕ → Outcome
into_filter hooks kind None frame = fails enotconn
into_filter hooks kind (Some f) frame =
    if nat_lt (length frame) 14 then fails einval
    else if nat_lt 262140 (length frame) then fails emsgsize
    else sends_by hooks downstream (with_tag kind (control_of f) frame)

abbrev pub tags : List (List ℕ) → ℕ → List VlanWay → Door → List ℕ → Outcome
tags hooks kind filters (Hook hook) frame =
    if bytes_eq hook downstream then by_tag hooks filters (tag_of kind frame) frame
    else if bytes_eq hook nomatch then sends_by hooks downstream frame
    else into_filter hooks kind (filter_of_hook hook filters) frame
tags hooks kind filters Wire frame = nothing

-- Messages

abbrev pub put_filter : VlanWay → List VlanWay → List VlanWay
put_filter f [] = f ∷ []
put_filter f (g ∷ filters) = if nat_lt f.vlan g.vlan then f ∷ g ∷ filters else g ∷ put_filter f filters

-- { hook vlan pcp cfi }: 32, 2, 1 and 1 bytes
abbrev pub filter_in : List ℕ → VlanWay
filter_in args = record { vlan = number_at 2 args 32; hook = text_at args 0; pcp = number_at 1 args 34; cfi = number_at 1 args 35 }

abbrev pub is_taken : VlanWay → List VlanWay → Bool
is_taken f filters = is_some (filter_of_hook f.hook filters) || is_some (filter_of_number f.vlan filters)

abbrev pub add_refusals : Vlan → List (List ℕ) → VlanWay → List (Bool × Errno)
add_refusals s hooks f =
    (nat_lt 4095 f.vlan, einval)
    ∷ (nat_lt 7 f.pcp, einval)
    ∷ (nat_lt 1 f.cfi, einval)
    ∷ (not (is_name f.hook), einval)
    ∷ (has_name (downstream ∷ nomatch ∷ []) f.hook, einval)
    ∷ (not (has_name hooks f.hook), enoent)
    ∷ (is_taken f s.filters, eexist)
    ∷ []

abbrev pub with_filter : Vlan → List (List ℕ) → VlanWay → Vlan
with_filter s hooks f = record s { filters = put_filter f s.filters }

abbrev pub add_filter : Vlan → List (List ℕ) → VlanWay → Reply Vlan
add_filter s hooks f = unless s (add_refusals s hooks f) (sets (with_filter s hooks f))

abbrev pub delete_refusals : Vlan → List ℕ → List (Bool × Errno)
delete_refusals s hook =
    (not (is_name hook), einval)
    ∷ (not (is_some (filter_of_hook hook s.filters)), enoent)
    ∷ []

abbrev pub delete_filter : Vlan → List ℕ → Reply Vlan
delete_filter s hook = unless s (delete_refusals s hook) (sets (vlan_without_hook s hook))

abbrev pub filter_bytes : VlanWay → List ℕ
filter_bytes f = name_field f.hook ++ little_bytes 2 f.vlan ++ f.pcp ∷ f.cfi ∷ []

abbrev pub filters_bytes : List VlanWay → List ℕ
filters_bytes filters = little_bytes 4 (length filters) ++ flat_map filter_bytes filters

abbrev pub kind_refusals : Vlan → ℕ → List (Bool × Errno)
kind_refusals s kind =
    (not (kind == customer_tag || kind == service_tag), einval) ∷ []

abbrev pub set_kind : Vlan → ℕ → Reply Vlan
set_kind s kind = unless s (kind_refusals s kind) (sets (record s { kind = kind }))

-- addfilter 1, delfilter 2 and gettable 3 (NGM_VLAN_ADD_FILTER and so on), settagtype 4 and gettagtype 5
abbrev pub vlan_messages : Vlan → List (List ℕ) → List ℕ → List (ℕ × Reply Vlan)
vlan_messages s hooks args =
    (1, with_length s 36 args (add_filter s hooks (filter_in args)))
    ∷ (2, with_length s 32 args (delete_filter s (text_at args 0)))
    ∷ (0x30000003, with_length s 0 args (answers s (filters_bytes s.filters)))
    ∷ (4, with_length s 4 args (set_kind s (number_at 4 args 0)))
    ∷ (0x30000005, with_length s 0 args (answers s (little_bytes 4 s.kind)))
    ∷ []

abbrev pub vlan_message : Vlan → List (List ℕ) → ℕ → List ℕ → Reply Vlan
vlan_message s hooks number args = by_number s number (vlan_messages s hooks args)
