-- The bytes of each answer have the layout and the length of their row.
use Rattle.std.proofs.Common.{◌≡◌, ◌≤◌, ◌<◌, ◌+◌, ◌*◌, ◌/◌, ◌%◌, ◌^◌, nat_lt, if◌then◌else◌, cond, ℕ, suc, Bool, true, false}
use Rattle.std.proofs.Common.{List, [], ◌∷◌, ◌++◌, map, length, length-append, refl, sym, subst, arith}
use Rattle.std.specs.List.{flat_map, filter}
use Rattle.std.specs.declared.option.Option.{Option}
use Rattle.std.specs.declared.option.Option.TheVariants.{None, Some}
use Rattle.std.proofs.lemmas.List.{append_assoc}
use Rattle.byteorder.specs.Endian.{little_bytes}
use Rattle.ng_base.specs.declared.ids.NodeId.{NodeId}
use Rattle.ng_base.specs.declared.kind.Kind.{Kind}
use Rattle.ng_base.specs.declared.kind.Kind.TheVariants.{Hub, Hole, Echo, Tee, Split, One2many as OfMany, Bridge as OfBridge}
use Rattle.ng_base.specs.declared.kind.Kind.TheVariants.{Vlan as OfVlan, Patch, Bpf, Ether as OfEther, Socket, Etf as OfEtf}
use Rattle.ng_base.specs.declared.kind.Kind.TheVariants.{Macset as OfMacset}
use Rattle.ng_base.specs.Kind.{kinds, kind_text, cookie_of}
use Rattle.ng_bpf_vm.specs.declared.instruction.Insn.{Insn}
use Rattle.ng_message.specs.declared.info.NodeInfo.{NodeInfo as NodeInfoRecord}
use Rattle.ng_message.specs.Fields.{name_field, text_or_empty}
use Rattle.ng_message.specs.Layout.{kind_or_empty, node_info_bytes, link_info_bytes}
use Rattle.ng_message.specs.Numbers.{generic_cookie, nodeinfo_number, listhooks_number, listnames_number, listnodes_number}
use Rattle.ng_message.specs.Numbers.{listtypes_number}
use Rattle.ng_table.specs.Message.{Message}
use Rattle.ng_table.specs.Table.{find_number}
use Rattle.ng_table.specs.Generic.{node_list}
use Rattle.ng_machine.specs.declared.hook.Hook.{Hook}
use Rattle.ng_machine.specs.declared.plan.BpfWay.{BpfWay}
use Rattle.ng_machine.specs.declared.plan.BridgeConfig.{BridgeConfig}
use Rattle.ng_machine.specs.declared.plan.EtfWay.{EtfWay}
use Rattle.ng_machine.specs.declared.plan.PatchOp.{PatchOp}
use Rattle.ng_machine.specs.declared.plan.VlanWay.{VlanWay}
use Rattle.ng_machine.specs.Words.{Every, times}
use Rattle.ng_machine.specs.Names.{digits}
use Rattle.ng_machine.specs.Counters.{Rows, row_bytes}
use Rattle.ng_machine.specs.kinds.Tee.{tee_bytes}
use Rattle.ng_machine.specs.kinds.One2many.{One2many, config_bytes}
use Rattle.ng_machine.specs.kinds.Bridge.{Host, link_hook, bridge_config_bytes, host_bytes, hosts_bytes}
use Rattle.ng_machine.specs.kinds.Vlan.{filter_bytes, filters_bytes}
use Rattle.ng_machine.specs.kinds.Patch.{op_bytes, ops_bytes}
use Rattle.ng_machine.specs.kinds.Bpf.{insn_bytes, way_bytes}
use Rattle.ng_machine.specs.kinds.Etf.{etf_filter_bytes, etf_filters_bytes}
use Rattle.ng_machine.specs.kinds.Macset.{addresses_bytes}
use Rattle.ng_machine.specs.World.{World, NodeRecord, node_in, node_at, node_id, kind_at}
use Rattle.ng_machine.specs.Generic.{joined_hooks, info_of, link_of, hook_list, infos_if, infos_from, with_count, is_of_kind}
use Rattle.ng_machine.specs.Generic.{type_info}
use Rattle.ng_machine.proofs.Every.{every_imply, every_filter}
use Rattle.ng_laws.specs.answers.Answers.{HasLayout, HasRow}
use Rattle.ng_laws.proofs.answers.Sizes.{fixed_layout, address_each}
use Rattle.ng_laws.proofs.answers.Layouts.{flat_length, name_length, struct_each, first_layout, first_of_two_layout, program_layout}
use Rattle.ng_laws.proofs.answers.Layouts.{hooks_layout}

-- a text that has room in the field of a name
abbrev pub IsShort : List ℕ → Type 0
IsShort text = length text ≤ 32

has_row : (cookie number : ℕ) (row : Message) (bytes : List ℕ) → find_number cookie number ≡ Some row
    → HasLayout row.answer bytes → HasRow cookie number bytes
has_row cookie number row bytes found layout = record { row = row; found = found; layout = layout }

every : {A : Type 0} (P : A → Type 0) (xs : List A) → ((x : A) → P x) → Every P xs
every P [] f = tt
every P (x ∷ xs) f = (f x, every P xs f)

-- a row of n counters
row_length : (row : List ℕ) → length (row_bytes row) ≡ length row * 8
row_length row = flat_length (little_bytes 8) 8 row (every (λ (x : ℕ). length (little_bytes 8 x) ≡ 8) row (λ x. refl))

-- ng_tee(4)

tee_length : (rows : Rows) → Every (λ (row : List ℕ × List ℕ). length row.1 ≡ 4) rows → length rows ≡ 4
    → length (tee_bytes rows) ≡ 128
tee_length rows h e = let all = flat_length (λ (row : List ℕ × List ℕ). row_bytes row.1) 32 rows (widths rows h) in omega arith
  where
    widths : (rows : Rows) → Every (λ (row : List ℕ × List ℕ). length row.1 ≡ 4) rows
        → Every (λ (row : List ℕ × List ℕ). length (row_bytes row.1) ≡ 32) rows
    widths [] h = tt
    widths (row ∷ rows) h = (let one = row_length row.1 in let is = h.0 in omega arith, widths rows h.1)

pub tee_gets : (rows : Rows) → Every (λ (row : List ℕ × List ℕ). length row.1 ≡ 4) rows → length rows ≡ 4
    → HasRow (cookie_of Tee) 0x20000001 (tee_bytes rows)
tee_gets rows h e = has_row (cookie_of Tee) 0x20000001 _ (tee_bytes rows) refl
    (fixed_layout _ (tee_bytes rows) refl (tee_length rows h e))

pub tee_takes : (rows : Rows) → Every (λ (row : List ℕ × List ℕ). length row.1 ≡ 4) rows → length rows ≡ 4
    → HasRow (cookie_of Tee) 0x20000003 (tee_bytes rows)
tee_takes rows h e = has_row (cookie_of Tee) 0x20000003 _ (tee_bytes rows) refl
    (fixed_layout _ (tee_bytes rows) refl (tee_length rows h e))

-- ng_one2many(4)

pub many_config : (s : One2many) → length s.enabled ≡ 64 → HasRow (cookie_of OfMany) 0x30000002 (config_bytes s)
many_config s e = has_row (cookie_of OfMany) 0x30000002 _ (config_bytes s) refl
    (fixed_layout _ (config_bytes s) refl (omega arith))

pub many_gets : (row : List ℕ) → length row ≡ 5 → HasRow (cookie_of OfMany) 0x20000003 (row_bytes row)
many_gets row e = has_row (cookie_of OfMany) 0x20000003 _ (row_bytes row) refl
    (fixed_layout _ (row_bytes row) refl (let all = row_length row in omega arith))

pub many_takes : (row : List ℕ) → length row ≡ 5 → HasRow (cookie_of OfMany) 0x20000005 (row_bytes row)
many_takes row e = has_row (cookie_of OfMany) 0x20000005 _ (row_bytes row) refl
    (fixed_layout _ (row_bytes row) refl (let all = row_length row in omega arith))

-- ng_bridge(4)

pub bridge_config : (config : BridgeConfig) → HasRow (cookie_of OfBridge) 0x30000002 (bridge_config_bytes config)
bridge_config config = has_row (cookie_of OfBridge) 0x30000002 _ (bridge_config_bytes config) refl
    (fixed_layout _ (bridge_config_bytes config) refl refl)

pub bridge_gets : (row : List ℕ) → length row ≡ 14 → HasRow (cookie_of OfBridge) 0x20000004 (row_bytes row)
bridge_gets row e = has_row (cookie_of OfBridge) 0x20000004 _ (row_bytes row) refl
    (fixed_layout _ (row_bytes row) refl (let all = row_length row in omega arith))

pub bridge_takes : (row : List ℕ) → length row ≡ 14 → HasRow (cookie_of OfBridge) 0x20000006 (row_bytes row)
bridge_takes row e = has_row (cookie_of OfBridge) 0x20000006 _ (row_bytes row) refl
    (fixed_layout _ (row_bytes row) refl (let all = row_length row in omega arith))

digits_short : (n : ℕ) → length (digits n) ≤ 2
digits_short n = by (nat_lt n 10)
  where
    by : (b : Bool) → length (if b then (48 + n) ∷ [] else (48 + n / 10) ∷ (48 + n % 10) ∷ []) ≤ 2
    by true = omega arith
    by false = omega arith

host_length : (h : Host) → length h.addr ≡ 6 → length (host_bytes h) ≡ 42
host_length h e =
    let few = digits_short h.link in
    let name : length (name_field (link_hook h.link)) ≡ 32 = name_length (link_hook h.link) (omega arith) in
    omega (
      arith,
      length-append h.addr (name_field (link_hook h.link)),
      length-append (h.addr ++ name_field (link_hook h.link)) (little_bytes 2 h.age),
      length-append (h.addr ++ name_field (link_hook h.link) ++ little_bytes 2 h.age),
    )

pub bridge_table : (hosts : List Host) → Every (λ (h : Host). length h.addr ≡ 6) hosts → length hosts < 2 ^ 32
    → HasRow (cookie_of OfBridge) 0x20000007 (hosts_bytes hosts)
bridge_table hosts h lt = has_row (cookie_of OfBridge) 0x20000007 _ (hosts_bytes hosts) refl
    (first_layout _ _ _ _ 42 (length hosts) (flat_map host_bytes hosts) (struct_each _ refl) lt
    (flat_length host_bytes 42 hosts (every_imply (λ (x : Host). length x.addr ≡ 6)
    (λ (x : Host). length (host_bytes x) ≡ 42) host_length hosts h)))

-- ng_vlan(4)

vlan_length : (f : VlanWay) → IsShort f.hook → length (filter_bytes f) ≡ 36
vlan_length f short =
    let name = name_length f.hook short in
    omega (
      arith,
      length-append (name_field f.hook) (little_bytes 2 f.vlan),
      length-append (name_field f.hook ++ little_bytes 2 f.vlan),
    )

pub vlan_table : (filters : List VlanWay) → Every (λ (f : VlanWay). IsShort f.hook) filters → length filters < 2 ^ 32
    → HasRow (cookie_of OfVlan) 0x30000003 (filters_bytes filters)
vlan_table filters h lt = has_row (cookie_of OfVlan) 0x30000003 _ (filters_bytes filters) refl
    (first_layout _ _ _ _ 36 (length filters) (flat_map filter_bytes filters) (struct_each _ refl) lt
    (flat_length filter_bytes 36 filters (every_imply (λ (x : VlanWay). IsShort x.hook)
    (λ (x : VlanWay). length (filter_bytes x) ≡ 36) vlan_length filters h)))

pub vlan_kind : (kind : ℕ) → HasRow (cookie_of OfVlan) 0x30000005 (little_bytes 4 kind)
vlan_kind kind = has_row (cookie_of OfVlan) 0x30000005 _ (little_bytes 4 kind) refl
    (fixed_layout _ (little_bytes 4 kind) refl refl)

-- ng_patch(4)

pub patch_config : (ops : List PatchOp) → length ops < 2 ^ 32 → HasRow (cookie_of Patch) 0x30000002 (ops_bytes ops)
patch_config ops lt = has_row (cookie_of Patch) 0x30000002 _ (ops_bytes ops) refl
    (first_of_two_layout _ _ _ _ _ 16 (length ops) 0 (flat_map op_bytes ops) (struct_each _ refl) lt (omega arith)
    (flat_length op_bytes 16 ops (every (λ (x : PatchOp). length (op_bytes x) ≡ 16) ops (λ x. refl))))

-- ng_bpf(4)

pub bpf_program : (way : BpfWay) → IsShort way.hook → IsShort (text_or_empty way.if_match)
    → IsShort (text_or_empty way.if_not_match) → length way.program < 2 ^ 32
    → HasRow (cookie_of Bpf) 0x30000002 (way_bytes way)
bpf_program way hook match not_match lt = has_row (cookie_of Bpf) 0x30000002 _ (way_bytes way) refl
    (subst (HasLayout _) (sym (parts (name_field way.hook) (name_field (text_or_empty way.if_match))
    (name_field (text_or_empty way.if_not_match)) (little_bytes 4 (length way.program)) (flat_map insn_bytes way.program)))
    (program_layout (name_field way.hook) (name_field (text_or_empty way.if_match))
    (name_field (text_or_empty way.if_not_match)) (length way.program) (flat_map insn_bytes way.program)
    (name_length way.hook hook) (name_length (text_or_empty way.if_match) match)
    (name_length (text_or_empty way.if_not_match) not_match) lt
    (flat_length insn_bytes 8 way.program (every (λ (x : Insn). length (insn_bytes x) ≡ 8) way.program (λ x. refl)))))
  where
    parts : (a b c d e : List ℕ) → a ++ b ++ c ++ d ++ e ≡ a ++ (b ++ (c ++ (d ++ e)))
    parts a b c d e = simp append_assoc

pub bpf_gets : (row : List ℕ) → length row ≡ 6 → HasRow (cookie_of Bpf) 0x20000003 (row_bytes row)
bpf_gets row e = has_row (cookie_of Bpf) 0x20000003 _ (row_bytes row) refl
    (fixed_layout _ (row_bytes row) refl (let all = row_length row in omega arith))

pub bpf_takes : (row : List ℕ) → length row ≡ 6 → HasRow (cookie_of Bpf) 0x20000005 (row_bytes row)
bpf_takes row e = has_row (cookie_of Bpf) 0x20000005 _ (row_bytes row) refl
    (fixed_layout _ (row_bytes row) refl (let all = row_length row in omega arith))

-- ng_ether(4)

pub ether_promiscuous : (n : ℕ) → HasRow (cookie_of OfEther) 0x30000002 (little_bytes 4 n)
ether_promiscuous n = has_row (cookie_of OfEther) 0x30000002 _ (little_bytes 4 n) refl
    (fixed_layout _ (little_bytes 4 n) refl refl)

pub ether_source : (n : ℕ) → HasRow (cookie_of OfEther) 0x30000004 (little_bytes 4 n)
ether_source n = has_row (cookie_of OfEther) 0x30000004 _ (little_bytes 4 n) refl (fixed_layout _ (little_bytes 4 n) refl refl)

-- ng_etf(4)

pub etf_status : (row : List ℕ) → length row ≡ 2 → HasRow (cookie_of OfEtf) 0x20000002 (row_bytes row)
etf_status row e = has_row (cookie_of OfEtf) 0x20000002 _ (row_bytes row) refl
    (fixed_layout _ (row_bytes row) refl (let all = row_length row in omega arith))

etf_length : (f : EtfWay) → IsShort f.hook → length (etf_filter_bytes f) ≡ 34
etf_length f short = let name = name_length f.hook short in
    omega (arith, length-append (name_field f.hook) (little_bytes 2 f.ethertype))

pub etf_table : (filters : List EtfWay) → Every (λ (f : EtfWay). IsShort f.hook) filters → length filters < 2 ^ 32
    → HasRow (cookie_of OfEtf) 0x30000003 (etf_filters_bytes filters)
etf_table filters h lt = has_row (cookie_of OfEtf) 0x30000003 _ (etf_filters_bytes filters) refl
    (first_layout _ _ _ _ 34 (length filters) (flat_map etf_filter_bytes filters) (struct_each _ refl) lt
    (flat_length etf_filter_bytes 34 filters (every_imply (λ (x : EtfWay). IsShort x.hook)
    (λ (x : EtfWay). length (etf_filter_bytes x) ≡ 34) etf_length filters h)))

-- macset

pub macset_table : (addresses : List (List ℕ)) → Every (λ (a : List ℕ). length a ≡ 6) addresses
    → length addresses < 2 ^ 32 → HasRow (cookie_of OfMacset) 0x30000003 (addresses_bytes addresses)
macset_table addresses h lt = has_row (cookie_of OfMacset) 0x30000003 _ (addresses_bytes addresses) refl
    (first_layout _ _ _ _ 6 (length addresses) (flat_map (λ a. a) addresses)
    (λ count front bs le. address_each count front bs le) lt (flat_length (λ a. a) 6 addresses h))

pub macset_stats : (row : List ℕ) → length row ≡ 2 → HasRow (cookie_of OfMacset) 0x20000004 (row_bytes row)
macset_stats row e = has_row (cookie_of OfMacset) 0x20000004 _ (row_bytes row) refl
    (fixed_layout _ (row_bytes row) refl (let all = row_length row in omega arith))

-- The messages that all nodes know

kind_short : (kind : Option Kind) → IsShort (kind_or_empty kind)
kind_short None = omega arith
kind_short (Some Hub) = omega arith
kind_short (Some Hole) = omega arith
kind_short (Some Echo) = omega arith
kind_short (Some Tee) = omega arith
kind_short (Some Split) = omega arith
kind_short (Some OfMany) = omega arith
kind_short (Some OfBridge) = omega arith
kind_short (Some OfVlan) = omega arith
kind_short (Some Patch) = omega arith
kind_short (Some Bpf) = omega arith
kind_short (Some OfEther) = omega arith
kind_short (Some Socket) = omega arith
kind_short (Some OfEtf) = omega arith
kind_short (Some OfMacset) = omega arith

info_length : (info : NodeInfoRecord) → IsShort (text_or_empty info.name) → length (node_info_bytes info) ≡ 72
info_length info short =
    let name = name_length (text_or_empty info.name) short in
    let kind = name_length (kind_or_empty info.kind) (kind_short info.kind) in
    let a = name_field (text_or_empty info.name) in
    let b = name_field (kind_or_empty info.kind) in
    let c = little_bytes 4 info.id.0 in
    omega (arith, length-append a b, length-append (a ++ b) c, length-append (a ++ b ++ c) (little_bytes 4 info.hooks))

-- a node's name has room in its field
abbrev pub IsShortNamed : NodeRecord → Type 0
IsShortNamed node = IsShort (text_or_empty node.name)

pub node_info : (id : NodeId) (node : NodeRecord) → IsShortNamed node
    → HasRow generic_cookie nodeinfo_number (node_info_bytes (info_of id (Some node)))
node_info id node short = has_row generic_cookie nodeinfo_number _ (node_info_bytes (info_of id (Some node))) refl
    (fixed_layout _ (node_info_bytes (info_of id (Some node))) refl (info_length (info_of id (Some node)) short))

abbrev pub IsShortHook : Hook → Type 0
IsShortHook hook = IsShort hook.name × IsShort hook.peer.hook

-- each node that is there has such a name
abbrev pub AreShortNamed : List (Option NodeRecord) → Type 0
AreShortNamed nodes = (n : ℕ) (node : NodeRecord) → node_in nodes (node_id n) ≡ Some node → IsShortNamed node

link_length : (w : World) (hook : Hook) → AreShortNamed w.nodes → IsShortHook hook
    → length (link_info_bytes (link_of w hook)) ≡ 136
link_length w hook names short =
    let a = name_field hook.name in
    let b = name_field hook.peer.hook in
    let la = name_length hook.name short.0 in
    let lb = name_length hook.peer.hook short.1 in
    let lc = info_length (info_of hook.peer.node (node_at w hook.peer.node)) (by (node_at w hook.peer.node) refl) in
    omega (arith, length-append a b, length-append (a ++ b) (node_info_bytes (info_of hook.peer.node (node_at w hook.peer.node))))
  where
    by : (o : Option NodeRecord) → node_at w hook.peer.node ≡ o → IsShort (text_or_empty (info_of hook.peer.node o).name)
    by None e = omega arith
    by (Some node) e = names hook.peer.node.0 node e

pub fewer : {A : Type 0} (test : A → Bool) (xs : List A) → length (filter test xs) ≤ length xs
fewer test [] = omega arith
fewer {A = A} test (x ∷ xs) = by (test x) (fewer test xs)
  where
    by : (b : Bool) → length (filter test xs) ≤ length xs
        → length (cond b (x ∷ filter test xs) (filter test xs)) ≤ suc (length xs)
    by true le = omega arith
    by false le = omega arith

pub list_hooks : (w : World) (id : NodeId) (node : NodeRecord) → AreShortNamed w.nodes → IsShortNamed node
    → Every IsShortHook node.hooks → length node.hooks < 2 ^ 32
    → HasRow generic_cookie listhooks_number (hook_list w id node)
list_hooks w id node names short hooks lt =
    let joined = joined_hooks node in
    let few = fewer (λ (h : Hook). h.joined) node.hooks in
    let all : Every IsShortHook joined = every_filter IsShortHook (λ (h : Hook). h.joined) node.hooks hooks in
    let rest = flat_map (λ (h : Hook). link_info_bytes (link_of w h)) joined in
    let a = name_field (text_or_empty node.name) in
    let b = name_field (kind_text (kind_at node)) in
    has_row generic_cookie listhooks_number _ (hook_list w id node) refl
    (subst (HasLayout _) (sym (parts a b (little_bytes 4 id.0) (little_bytes 4 (length joined)) rest))
    (hooks_layout a b id.0 (length joined) rest (name_length (text_or_empty node.name) short)
    (name_length (kind_text (kind_at node)) (kind_short (Some (kind_at node)))) (omega arith)
    (flat_length (λ (h : Hook). link_info_bytes (link_of w h)) 136 joined
    (every_imply IsShortHook (λ (h : Hook). length (link_info_bytes (link_of w h)) ≡ 136)
    (λ h is. link_length w h names is) joined all))))
  where
    parts : (a b c d e : List ℕ) → (a ++ b ++ c ++ d) ++ e ≡ a ++ (b ++ (c ++ (d ++ e)))
    parts a b c d e = simp append_assoc

-- lists with their lengths before them

-- at most so many entries of 72 bytes
abbrev Lists : List (List ℕ) → ℕ → Type 0
Lists entries most = Every (λ (e : List ℕ). length e ≡ 72) entries × (length entries ≤ most)

infos_length : (n : ℕ) (test : NodeRecord → Bool) (nodes : List (Option NodeRecord)) → AreShortNamed nodes
    → Lists (infos_from n test nodes) (length nodes)
infos_length n test [] names = (tt, omega arith)
infos_length n test (None ∷ nodes) names = let rest = infos_length (n + 1) test nodes
    (λ m node e. names (suc m) node e) in (rest.0, let le = rest.1 in omega arith)
infos_length n test (Some node ∷ nodes) names = by (test node)
    (infos_length (n + 1) test nodes (λ m other e. names (suc m) other e))
  where
    by : (b : Bool) → Lists (infos_from (n + 1) test nodes) (length nodes)
        → Lists (infos_if b (node_id n) node (infos_from (n + 1) test nodes)) (suc (length nodes))
    by true rest = ((info_length (info_of (node_id n) (Some node)) (names 0 node refl), rest.0), let le = rest.1 in omega arith)
    by false rest = (rest.0, let le = rest.1 in omega arith)

node_list_layout : (w : World) (test : NodeRecord → Bool) → AreShortNamed w.nodes → length w.nodes < 2 ^ 32
    → HasLayout node_list (with_count (infos_from 0 test w.nodes))
node_list_layout w test names lt =
    let entries = infos_from 0 test w.nodes in
    let all = infos_length 0 test w.nodes names in
    let few : length entries ≤ length w.nodes = all.1 in
    first_layout _ _ _ _ 72 (length entries) (flat_map (λ e. e) entries) (struct_each _ refl) (omega arith)
    (flat_length (λ e. e) 72 entries all.0)

pub list_names : (w : World) (test : NodeRecord → Bool) → AreShortNamed w.nodes → length w.nodes < 2 ^ 32
    → HasRow generic_cookie listnames_number (with_count (infos_from 0 test w.nodes))
list_names w test names lt = has_row generic_cookie listnames_number _ (with_count (infos_from 0 test w.nodes)) refl
    (node_list_layout w test names lt)

pub list_nodes : (w : World) (test : NodeRecord → Bool) → AreShortNamed w.nodes → length w.nodes < 2 ^ 32
    → HasRow generic_cookie listnodes_number (with_count (infos_from 0 test w.nodes))
list_nodes w test names lt = has_row generic_cookie listnodes_number _ (with_count (infos_from 0 test w.nodes)) refl
    (node_list_layout w test names lt)

type_length : (w : World) (kind : Kind) → length (type_info w kind) ≡ 36
type_length w kind =
    let name = name_length (kind_text kind) (kind_short (Some kind)) in
    omega (arith, length-append (name_field (kind_text kind)) (little_bytes 4 (times (is_of_kind kind) w.nodes)))

types_length : (w : World) (kinds : List Kind) → Every (λ (e : List ℕ). length e ≡ 36) (map (type_info w) kinds)
types_length w [] = tt
types_length w (kind ∷ kinds) = (type_length w kind, types_length w kinds)

pub list_types : (w : World) → HasRow generic_cookie listtypes_number (with_count (map (type_info w) kinds))
list_types w =
    let entries = map (type_info w) kinds in
    has_row generic_cookie listtypes_number _ (with_count entries) refl
    (first_layout _ _ _ _ 36 (length entries) (flat_map (λ e. e) entries) (struct_each _ refl) (omega arith)
    (flat_length (λ e. e) 36 entries (types_length w kinds)))
