-- What comes of a packet is no longer than the longest packet, and not much of it.
use Rattle.std.proofs.Common.{◌≡◌, if◌then◌else◌, ℕ, ◌+◌, ◌≤◌, ◌==◌, Bool, true, false, not, List, [], ◌∷◌, ◌++◌, map, length, take, drop, nat_lt, nat_le, slice_get, refl, arith}
use Rattle.std.specs.List.{fold, filter, find, list_any}
use Rattle.std.specs.Option.{option_to_list}
use Rattle.std.specs.Str.{bytes_eq}
use Rattle.std.specs.Int.{w16, to_be_bytes}
use Rattle.std.specs.declared.option.Option.{Option}
use Rattle.std.specs.declared.option.Option.TheVariants.{None, Some}
use Rattle.std.proofs.lemmas.Bool.{ltb-false, leb-true}
use Rattle.std.proofs.lemmas.List.{length-map, length-append, length-take, length-drop}
use Rattle.byteorder.specs.Endian.{big_bytes, big_number}
use Rattle.byteorder.specs.Numbers.{length-bytes_high_first}
use Rattle.ng_base.specs.declared.errno.Errno.{Errno}
use Rattle.ng_base.specs.Names.{has_name, without_name}
use Rattle.ng_frame.specs.Frame.{with_tag, without_tag, tag_of}
use Rattle.ng_machine.proofs.Standing.{fewer_filtered}
use Rattle.ng_machine.specs.declared.body.Door.{Door}
use Rattle.ng_machine.specs.declared.body.Exit.{Exit}
use Rattle.ng_machine.specs.declared.body.Door.TheVariants.{Wire, Hook as ByHook}
use Rattle.ng_machine.specs.declared.outcome.Outcome.{Outcome}
use Rattle.ng_machine.specs.declared.plan.VlanWay.{VlanWay}
use Rattle.ng_machine.specs.declared.plan.PatchOp.{PatchOp}
use Rattle.ng_machine.specs.declared.plan.BpfWay.{BpfWay}
use Rattle.ng_machine.specs.declared.plan.EtfWay.{EtfWay}
use Rattle.ng_machine.specs.declared.plan.BridgeConfig.{BridgeConfig}
use Rattle.ng_machine.specs.declared.plan.BridgeLink.{BridgeLink}
use Rattle.ng_machine.specs.declared.plan.BridgeHost.{BridgeHost}
use Rattle.ng_machine.specs.Words.{Every, below}
use Rattle.ng_machine.specs.Names.{lower, in_hook, out_hook, mixed, downstream, nomatch, one, left, right, right2left, left2right, all_hook, known_hook, other_hook}
use Rattle.ng_machine.specs.Counters.{Count}
use Rattle.ng_machine.specs.Outcome.{nothing, sends_by, leaves, fails}
use Rattle.ng_machine.specs.Errors.{emsgsize}
use Rattle.ng_machine.specs.kinds.Ether.{arrives}
use Rattle.ng_machine.specs.kinds.Tee.{onward, copies}
use Rattle.ng_machine.specs.kinds.One2many as many
use Rattle.ng_machine.specs.kinds.Bridge as bridge
use Rattle.ng_machine.specs.kinds.Macset.{is_group, source_of, goes_by, sifts, has_address}
use Rattle.ng_machine.specs.kinds.Vlan as vlan
use Rattle.ng_machine.specs.kinds.Patch as patch
use Rattle.ng_machine.specs.kinds.Bpf as bpf
use Rattle.ng_machine.specs.kinds.Etf as etf
use Rattle.ng_bpf_vm.specs.Machine.{answer_of}
use Rattle.ng_machine.specs.State.{KindState, HubState, HoleState, EchoState, SplitState, SocketState, TeeState, One2manyState, BridgeState, VlanState, PatchState, BpfState, EtherState, EtfState, MacsetState, way_of_kept}
use Rattle.ng_machine.specs.Case.{outcome_by_plan}
use Rattle.ng_machine.specs.Bounds.{Fits, links_of, IsBounded, PacketsAreBounded}

-- Outcomes

silent : (most : ℕ) (counts : List Count) (learn : Option (List ℕ)) (errno : Errno) → IsBounded most (record nothing { counts = counts; learn = learn; errno = errno })
silent most counts learn errno = record { sends = tt; leaves = tt; few = omega arith }

-- one packet is sent
sent : (most : ℕ) (hook packet : List ℕ) (counts : List Count) → Fits packet → IsBounded (1 + most) (record nothing { sends = (hook, packet) ∷ []; counts = counts })
sent most hook packet counts fits = record { sends = (fits, tt); leaves = tt; few = omega arith }

-- the same packet goes out of some hooks
all_fit : (hooks : List (List ℕ)) (packet : List ℕ) → Fits packet → Every (λ (x : List ℕ × List ℕ). Fits x.1) (map (λ hook. (hook, packet)) hooks)
all_fit [] packet fits = tt
all_fit (hook ∷ hooks) packet fits = (fits, all_fit hooks packet fits)

abbrev fan : List ℕ → List (List ℕ) → List (List ℕ × List ℕ)
fan packet hooks = map (λ hook. (hook, packet)) hooks

fan_length : (hooks : List (List ℕ)) (packet : List ℕ) (most : ℕ) → length hooks ≤ most → length (fan packet hooks) + 0 ≤ most
fan_length hooks packet most few = let e : length (fan packet hooks) ≡ length hooks = length-map hooks (λ (hook : List ℕ). (hook, packet)) in omega arith

fanned : (most : ℕ) (hooks : List (List ℕ)) (packet : List ℕ) (counts : List Count) (learn : Option (List ℕ)) (errno : Errno) → Fits packet → length hooks ≤ most
    → IsBounded most (record nothing { sends = map (λ hook. (hook, packet)) hooks; counts = counts; learn = learn; errno = errno })
fanned most hooks packet counts learn errno fits few = record {
  sends = all_fit hooks packet fits;
  leaves = tt;
  few = fan_length hooks packet most few;
}

either : (most : ℕ) (b : Bool) (x y : Outcome) → IsBounded most x → IsBounded most y → IsBounded most (if b then x else y)
either most true x y hx hy = hx
either most false x y hx hy = hy

sent_by : (most : ℕ) (hooks : List (List ℕ)) (hook packet : List ℕ) → Fits packet → IsBounded (1 + most) (sends_by hooks hook packet)
sent_by most hooks hook packet fits = either (1 + most) (has_name hooks hook) _ nothing (sent most hook packet [] fits) (silent (1 + most) [] None _)

-- Packets that are changed

untagged_fits : (frame : List ℕ) → Fits frame → Fits (without_tag frame)
untagged_fits frame fits =
    let a = length-append (take 12 frame) (drop 16 frame) in
    let t = length-take 12 frame in
    let d = length-drop 16 frame in
    omega arith

tagged_fits : (kind control : ℕ) (frame : List ℕ) → length frame ≤ 262140 → Fits (with_tag kind control frame)
tagged_fits kind control frame short =
    let a = length-append ((take 12 frame ++ to_be_bytes w16 kind) ++ to_be_bytes w16 control) (drop 12 frame) in
    let b = length-append (take 12 frame ++ to_be_bytes w16 kind) (to_be_bytes w16 control) in
    let c = length-append (take 12 frame) (to_be_bytes w16 kind) in
    let t = length-take 12 frame in
    let d = length-drop 12 frame in
    omega arith

patched_length : (packet : List ℕ) (op : PatchOp) (b : Bool) → nat_le (op.offset + op.length) (length packet) ≡ b → length (patch.patch_if b packet op) ≡ length packet
patched_length packet op false e = refl
patched_length packet op true e =
    let bytes = big_bytes op.length (patch.operation_result op (big_number op.length (drop op.offset packet))) in
    let within : op.offset + op.length ≤ length packet = leb-true (op.offset + op.length) (length packet) e in
    let a = length-append (take op.offset packet ++ bytes) (drop (op.offset + op.length) packet) in
    let b = length-append (take op.offset packet) bytes in
    let n : length bytes ≡ op.length = length-bytes_high_first op.length _ in
    let t = length-take op.offset packet in
    let d = length-drop (op.offset + op.length) packet in
    omega arith

patches_fit : (ops : List PatchOp) (packet : List ℕ) → Fits packet → Fits (fold patch.patch_by packet ops)
patches_fit [] packet fits = fits
patches_fit (op ∷ ops) packet fits =
    patches_fit ops (patch.patch_by packet op) (let e = patched_length packet op (nat_le (op.offset + op.length) (length packet)) refl in omega arith)

-- Kinds

more : (a b : ℕ) (out : Outcome) → a ≤ b → IsBounded a out → IsBounded b out
more a b out le h = record { sends = h.sends; leaves = h.leaves; few = let few = h.few in omega arith }

onward_few : (hook : List ℕ) → length (onward hook) ≤ 2
onward_few hook = by (bytes_eq hook right) (bytes_eq hook left) (bytes_eq hook right2left)
  where
    by : (a b c : Bool) → length (if a then right2left ∷ left ∷ [] else if b then left2right ∷ right ∷ [] else if c then right ∷ [] else left ∷ []) ≤ 2
    by true b c = omega arith
    by false true c = omega arith
    by false false true = omega arith
    by false false false = omega arith

tee_bounded : (most : ℕ) (hooks : List (List ℕ)) (hook packet : List ℕ) → Fits packet → 2 ≤ most → IsBounded most (copies hook (filter (has_name hooks) (onward hook)) packet)
tee_bounded most hooks hook packet fits room =
    fanned most (filter (has_name hooks) (onward hook)) packet _ None _ fits
    (let a = fewer_filtered (has_name hooks) (onward hook) in let b = onward_few hook in omega arith)

one_at_most : {A : Type 0} (x : Option A) → length (option_to_list x) ≤ 1
one_at_most None = omega arith
one_at_most (Some x) = omega arith

dealt_few : (s : many.One2many) (links : List ℕ) → length links ≤ 64 → length (many.links_to_deal s links) ≤ 64
dealt_few s links few = by (s.algorithm == 1) (s.algorithm == 2)
  where
    by : (a b : Bool) → length (if a then option_to_list (many.next_in_turn s.cursor links) else if b then links else option_to_list (slice_get links 0)) ≤ 64
    by true b = let le = one_at_most (many.next_in_turn s.cursor links) in omega arith
    by false true = few
    by false false = let le = one_at_most (slice_get links 0) in omega arith

chosen_few : (s : many.One2many) (hooks : List (List ℕ)) (hook : List ℕ) → length (many.deal_targets s hooks hook) ≤ 64
chosen_few s hooks hook = by (bytes_eq hook one) (has_name hooks one)
  where
    active_links : length (many.active_links s hooks) ≤ 64
    active_links = fewer_filtered (many.is_active s hooks) (below 64)

    by : (a b : Bool) → length (if a then map many.many (many.links_to_deal s (many.active_links s hooks)) else if b then one ∷ [] else []) ≤ 64
    by true b = let e = length-map (many.links_to_deal s (many.active_links s hooks)) many.many in let le = dealt_few s (many.active_links s hooks) active_links in omega arith
    by false true = omega arith
    by false false = omega arith

others_few : (links : List BridgeLink) (hook : List ℕ) → length (bridge.others links hook) ≤ length links
others_few links hook =
    let e = length-map links (λ (l : BridgeLink). l.hook) in
    let le = fewer_filtered (λ (other : List ℕ). not (bytes_eq other hook)) (map (λ (l : BridgeLink). l.hook) links) in
    omega arith

toward_few : (links : List BridgeLink) (number link : ℕ) → length (bridge.toward links number link) ≤ 1
toward_few links number link = by (link == number) (list_any (bridge.is_link_of (bridge.link_hook link)) links)
  where
    by : (a b : Bool) → length (if a then [] else if b then bridge.link_hook link ∷ [] else []) ≤ 1
    by true b = omega arith
    by false true = omega arith
    by false false = omega arith

to_host_few : (links : List BridgeLink) (hook : List ℕ) (h : Option BridgeHost) → length (bridge.to_host links hook h) ≤ 1 + length links
to_host_few links hook None = let le = others_few links hook in omega arith
to_host_few links hook (Some h) = let le = toward_few links (bridge.link_number hook) h.link in omega arith

targets_few : (links : List BridgeLink) (hosts : List BridgeHost) (hook frame : List ℕ) → length (bridge.targets links hosts hook frame) ≤ 1 + length links
targets_few links hosts hook frame = by (is_group (bridge.destination_of frame)) (bridge.to_itself frame)
  where
    by : (a b : Bool) → length (if a then bridge.others links hook else if b then [] else bridge.to_host links hook (bridge.host_of (bridge.destination_of frame) hosts)) ≤ 1 + length links
    by true b = let le = others_few links hook in omega arith
    by false true = omega arith
    by false false = to_host_few links hook (bridge.host_of (bridge.destination_of frame) hosts)

forwards_bounded : (most : ℕ) (links : List BridgeLink) (hosts : List BridgeHost) (hook frame : List ℕ) (counts : List Count) (learn : Option (List ℕ)) → Fits frame → 1 + length links ≤ most
    → IsBounded most (bridge.forwards links hosts hook frame counts learn)
forwards_bounded most links hosts hook frame counts learn fits room =
    fanned most (bridge.targets links hosts hook frame) frame _ learn _ fits (let le = targets_few links hosts hook frame in omega arith)

met_bounded : (most : ℕ) (standing : bridge.Standing) (links : List BridgeLink) (hosts : List BridgeHost) (hook frame : List ℕ) (counts : List Count) → Fits frame → 1 + length links ≤ most
    → IsBounded most (bridge.meets standing links hosts hook frame counts)
met_bounded most bridge.Known links hosts hook frame counts fits room = forwards_bounded most links hosts hook frame _ None fits room
met_bounded most bridge.Looped links hosts hook frame counts fits room = silent most _ _ _
met_bounded most bridge.News links hosts hook frame counts fits room = forwards_bounded most links hosts hook frame _ _ fits room
met_bounded most bridge.Crowded links hosts hook frame counts fits room = forwards_bounded most links hosts hook frame _ None fits room

bridge_bounded : (most : ℕ) (config : BridgeConfig) (links : List BridgeLink) (hosts : List BridgeHost) (hook frame : List ℕ) → Fits frame → 1 + length links ≤ most
    → IsBounded most (bridge.hears config links hosts hook frame)
bridge_bounded most config links hosts hook frame fits room =
    either most (nat_lt (length frame) 14) _ _ (silent most _ None _)
    (either most (is_group (source_of frame)) _ _ (silent most _ None _)
    (either most (nat_lt 0 (bridge.mute_of links hook)) _ _ (silent most _ None _)
    (met_bounded most (bridge.standing config hosts (bridge.link_number hook) (source_of frame)) links hosts hook frame _ fits room)))

out_of_bounded : (most : ℕ) (hooks : List (List ℕ)) (f : Option VlanWay) (frame : List ℕ) → Fits frame → IsBounded (1 + most) (vlan.out_of_filter hooks f frame)
out_of_bounded most hooks None frame fits = sent_by most hooks nomatch frame fits
out_of_bounded most hooks (Some f) frame fits = sent_by most hooks f.hook (without_tag frame) (untagged_fits frame fits)

by_tag_bounded : (most : ℕ) (hooks : List (List ℕ)) (filters : List VlanWay) (tag : Option (ℕ × List ℕ)) (frame : List ℕ) → Fits frame → IsBounded (1 + most) (vlan.by_tag hooks filters tag frame)
by_tag_bounded most hooks filters None frame fits = sent_by most hooks nomatch frame fits
by_tag_bounded most hooks filters (Some tag) frame fits = out_of_bounded most hooks (vlan.filter_of_number tag.0 filters) frame fits

into_bounded : (most : ℕ) (hooks : List (List ℕ)) (kind : ℕ) (f : Option VlanWay) (frame : List ℕ) → Fits frame → IsBounded (1 + most) (vlan.into_filter hooks kind f frame)
into_bounded most hooks kind None frame fits = silent (1 + most) [] None _
into_bounded most hooks kind (Some f) frame fits = either (1 + most) (nat_lt (length frame) 14) _ _ (silent (1 + most) [] None _) (by (nat_lt 262140 (length frame)) refl)
  where
    by : (b : Bool) → nat_lt 262140 (length frame) ≡ b
        → IsBounded (1 + most) (if b then fails emsgsize else sends_by hooks downstream (with_tag kind (vlan.control_of f) frame))
    by true e = silent (1 + most) [] None _
    by false e = sent_by most hooks downstream (with_tag kind (vlan.control_of f) frame) (tagged_fits kind (vlan.control_of f) frame (let le = ltb-false 262140 (length frame) e in omega arith))

vlan_bounded : (most : ℕ) (hooks : List (List ℕ)) (kind : ℕ) (filters : List VlanWay) (hook frame : List ℕ) → Fits frame → IsBounded (1 + most) (vlan.tags hooks kind filters (ByHook hook) frame)
vlan_bounded most hooks kind filters hook frame fits =
    either (1 + most) (bytes_eq hook downstream) _ _ (by_tag_bounded most hooks filters (tag_of kind frame) frame fits)
    (either (1 + most) (bytes_eq hook nomatch) _ _ (sent_by most hooks downstream frame fits) (into_bounded most hooks kind (vlan.filter_of_hook hook filters) frame fits))

patch_bounded : (most : ℕ) (hooks : List (List ℕ)) (ops : List PatchOp) (hook packet : List ℕ) → Fits packet → IsBounded (1 + most) (patch.patches hooks ops (ByHook hook) packet)
patch_bounded most hooks ops hook packet fits =
    either (1 + most) (bytes_eq hook out_hook) _ _ (sent_by most hooks in_hook packet fits)
    (either (1 + most) (has_name hooks out_hook) _ _ (sent_by most hooks out_hook (fold patch.patch_by packet ops) (patches_fit ops packet fits))
    (sent_by most hooks in_hook (fold patch.patch_by packet ops) (patches_fit ops packet fits)))

target_bounded : (most : ℕ) (ways : List BpfWay) (target : Option (List ℕ)) (packet : List ℕ) (counts : List Count) → Fits packet → IsBounded (1 + most) (bpf.to_target ways target packet counts)
target_bounded most ways None packet counts fits = silent (1 + most) counts None _
target_bounded most ways (Some hook) packet counts fits =
    either (1 + most) (list_any (bpf.is_way_of hook) ways) _ _ (sent most hook packet _ fits) (silent (1 + most) counts None _)

way_bounded : (most : ℕ) (ways : List BpfWay) (way : Option BpfWay) (hook packet : List ℕ) → Fits packet → IsBounded (1 + most) (bpf.by_way ways way hook packet)
way_bounded most ways None hook packet fits = silent (1 + most) [] None _
way_bounded most ways (Some way) hook packet fits =
    either (1 + most) (answer_of way.program packet == 0) _ _ (target_bounded most ways way.if_not_match packet _ fits) (target_bounded most ways way.if_match packet _ fits)

down_bounded : (most : ℕ) (hooks : List (List ℕ)) (hook frame : List ℕ) → Fits frame → IsBounded (1 + most) (etf.goes_down hooks hook frame)
down_bounded most hooks hook frame fits = either (1 + most) (has_name hooks downstream) _ nothing (sent most downstream frame _ fits) (silent (1 + most) [] None _)

counted_bounded : (most : ℕ) (out : Outcome) (counts : List Count) → IsBounded most out → IsBounded most (record out { counts = counts })
counted_bounded most out counts h = record { sends = h.sends; leaves = h.leaves; few = h.few }

etf_bounded : (most : ℕ) (hooks : List (List ℕ)) (filters : List EtfWay) (hook frame : List ℕ) → Fits frame → IsBounded (1 + most) (etf.sorts hooks filters (ByHook hook) frame)
etf_bounded most hooks filters hook frame fits =
    either (1 + most) (bytes_eq hook downstream) _ _
    (counted_bounded (1 + most) (etf.goes_up hooks filters frame) _
    (either (1 + most) (etf.is_short frame) _ _ (silent (1 + most) [] None _) (sent_by most hooks (etf.upward (etf.etf_filter_of (etf.ethertype_of frame) filters)) frame fits)))
    (either (1 + most) (bytes_eq hook nomatch) _ _ (down_bounded most hooks hook frame fits)
    (either (1 + most) (etf.is_short frame) _ _ (silent (1 + most) [] None _)
    (either (1 + most) (etf.is_own hook (etf.etf_filter_of (etf.ethertype_of frame) filters)) _ _ (down_bounded most hooks hook frame fits) (silent (1 + most) [] None _))))

goes_bounded : (most : ℕ) (hooks : List (List ℕ)) (out : List ℕ) (number : ℕ) (hook frame : List ℕ) → Fits frame → IsBounded (1 + most) (goes_by hooks out number hook frame)
goes_bounded most hooks out number hook frame fits = either (1 + most) (has_name hooks out) _ nothing (sent most out frame _ fits) (silent (1 + most) [] None _)

sifts_bounded : (most : ℕ) (hooks addresses : List (List ℕ)) (hook frame : List ℕ) → Fits frame → IsBounded (1 + most) (sifts hooks addresses hook frame)
sifts_bounded most hooks addresses hook frame fits =
    either (1 + most) (nat_lt (length frame) 14) _ _ (silent (1 + most) [] None _)
    (either (1 + most) (has_address addresses (source_of frame)) _ _ (goes_bounded most hooks known_hook 0 hook frame fits) (goes_bounded most hooks other_hook 1 hook frame fits))

left_bounded : (most : ℕ) (exit : Exit) (packet : List ℕ) → Fits packet → IsBounded (1 + most) (leaves exit packet)
left_bounded most exit packet fits = record { sends = tt; leaves = (fits, tt); few = omega arith }

part_bounded : (kept : KindState) (hooks : List (List ℕ)) (door : Door) (packet : List ℕ) → Fits packet
    → IsBounded (64 + (length hooks + links_of kept)) (outcome_by_plan (record { hooks = hooks; kept = kept }) (way_of_kept kept hooks) door packet)
part_bounded (HubState s) hooks Wire packet fits = silent _ [] None _
part_bounded (HubState s) hooks (ByHook hook) packet fits =
    fanned _ (without_name hooks hook) packet [] None _ fits (let le = fewer_filtered (λ (other : List ℕ). not (bytes_eq other hook)) hooks in omega arith)
part_bounded HoleState hooks door packet fits = silent _ [] None _
part_bounded EchoState hooks Wire packet fits = silent _ [] None _
part_bounded EchoState hooks (ByHook hook) packet fits = more 1 _ _ (omega arith) (sent 0 hook packet [] fits)
part_bounded (TeeState s) hooks Wire packet fits = silent _ [] None _
part_bounded (TeeState s) hooks (ByHook hook) packet fits = tee_bounded _ hooks hook packet fits (omega arith)
part_bounded SplitState hooks Wire packet fits = silent _ [] None _
part_bounded SplitState hooks (ByHook hook) packet fits = more 1 _ _ (omega arith)
    (either 1 (bytes_eq hook in_hook) _ _ (sent_by 0 hooks mixed packet fits) (either 1 (bytes_eq hook mixed) _ _ (sent_by 0 hooks out_hook packet fits) (silent 1 [] None _)))
part_bounded (One2manyState s) hooks Wire packet fits = silent _ [] None _
part_bounded (One2manyState s) hooks (ByHook hook) packet fits =
    fanned _ (many.deal_targets s hooks hook) packet _ None _ fits (let le = chosen_few s hooks hook in omega arith)
part_bounded (BridgeState s) hooks Wire packet fits = silent _ [] None _
part_bounded (BridgeState s) hooks (ByHook hook) packet fits =
    bridge_bounded _ s.config (map bridge.link_way s.links) (map bridge.host_way s.hosts) hook packet fits (let e = length-map s.links bridge.link_way in omega arith)
part_bounded (VlanState s) hooks Wire packet fits = silent _ [] None _
part_bounded (VlanState s) hooks (ByHook hook) packet fits = more 1 _ _ (omega arith) (vlan_bounded 0 hooks s.kind s.filters hook packet fits)
part_bounded (PatchState s) hooks Wire packet fits = silent _ [] None _
part_bounded (PatchState s) hooks (ByHook hook) packet fits = more 1 _ _ (omega arith) (patch_bounded 0 hooks s hook packet fits)
part_bounded (BpfState s) hooks Wire packet fits = silent _ [] None _
part_bounded (BpfState s) hooks (ByHook hook) packet fits =
    more 1 _ _ (omega arith) (way_bounded 0 (map (λ (f : bpf.Filter). f.way) s) (find (bpf.is_way_of hook) (map (λ (f : bpf.Filter). f.way) s)) hook packet fits)
part_bounded (EtherState s) hooks Wire packet fits = by (has_name hooks lower)
  where
    by : (b : Bool) → IsBounded (64 + (length hooks + 0)) (arrives b packet)
    by true = more 1 _ _ (omega arith) (sent 0 lower packet [] fits)
    by false = more 1 _ _ (omega arith) (left_bounded 0 _ packet fits)
part_bounded (EtherState s) hooks (ByHook hook) packet fits = more 1 _ _ (omega arith) (either 1 (bytes_eq hook lower) _ _ (left_bounded 0 _ packet fits) (left_bounded 0 _ packet fits))
part_bounded SocketState hooks Wire packet fits = silent _ [] None _
part_bounded SocketState hooks (ByHook hook) packet fits = more 1 _ _ (omega arith) (left_bounded 0 _ packet fits)
part_bounded (EtfState s) hooks Wire packet fits = silent _ [] None _
part_bounded (EtfState s) hooks (ByHook hook) packet fits = more 1 _ _ (omega arith) (etf_bounded 0 hooks s.filters hook packet fits)
part_bounded (MacsetState s) hooks Wire packet fits = silent _ [] None _
part_bounded (MacsetState s) hooks (ByHook hook) packet fits = more 1 _ _ (omega arith)
    (either 1 (bytes_eq hook all_hook) _ _ (sifts_bounded 0 hooks s.addresses hook packet fits) (sent_by 0 hooks all_hook packet fits))

pub packets_are_bounded : PacketsAreBounded
packets_are_bounded state door link packet fits = part_bounded state.kept state.hooks door packet fits
