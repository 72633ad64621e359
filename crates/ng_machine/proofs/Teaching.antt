-- A packet teaches no node but a bridge.
use Rattle.std.proofs.Common.{◌≡◌, ◌⊎◌, inl, inr, ◌==◌, nat_lt, if◌then◌else◌, ℕ, Bool, true, false, List, map, length, refl}
use Rattle.std.specs.List.{find, fold, list_any}
use Rattle.std.specs.Str.{bytes_eq}
use Rattle.std.specs.declared.option.Option.{Option}
use Rattle.std.specs.declared.option.Option.TheVariants.{None, Some}
use Rattle.ng_base.specs.Names.{has_name}
use Rattle.ng_base.specs.declared.ids.LinkId.{LinkId}
use Rattle.ng_base.specs.declared.kind.Kind.TheVariants.{Bridge as BridgeKind}
use Rattle.ng_bpf_vm.specs.Machine.{answer_of}
use Rattle.ng_frame.specs.Frame.{tag_of, without_tag, with_tag}
use Rattle.ng_machine.specs.declared.body.Body.TheVariants.{Frame}
use Rattle.ng_machine.specs.declared.body.Door.{Door}
use Rattle.ng_machine.specs.declared.body.Door.TheVariants.{Wire, Hook}
use Rattle.ng_machine.specs.declared.outcome.Outcome.{Outcome}
use Rattle.ng_machine.specs.declared.plan.BpfWay.{BpfWay}
use Rattle.ng_machine.specs.declared.plan.EtfWay.{EtfWay}
use Rattle.ng_machine.specs.declared.plan.PatchOp.{PatchOp}
use Rattle.ng_machine.specs.declared.plan.VlanWay.{VlanWay}
use Rattle.ng_machine.specs.Counters.{Count}
use Rattle.ng_machine.specs.Names.{in_hook, out_hook, mixed, lower, downstream, nomatch, all_hook, known_hook, other_hook}
use Rattle.ng_machine.specs.Outcome.{nothing, sends_by, counts_only}
use Rattle.ng_machine.specs.kinds.Hub.{fans}
use Rattle.ng_machine.specs.kinds.Echo.{echoes}
use Rattle.ng_machine.specs.kinds.Tee.{tees}
use Rattle.ng_machine.specs.kinds.Split.{parts}
use Rattle.ng_machine.specs.kinds.One2many.{One2many, deals}
use Rattle.ng_machine.specs.kinds.Vlan.{tags, by_tag, out_of_filter, into_filter, filter_of_hook, filter_of_number, control_of}
use Rattle.ng_machine.specs.kinds.Patch.{patches, patch_by}
use Rattle.ng_machine.specs.kinds.Bpf.{filters, by_way, to_target, is_way_of, sends_and_counts}
use Rattle.ng_machine.specs.kinds.Ether.{passes, arrives}
use Rattle.ng_machine.specs.kinds.Socket.{hands_over}
use Rattle.ng_machine.specs.kinds.Etf.{sorts, goes_up, goes_down, is_short, etf_filter_of, ethertype_of, is_own, upward}
use Rattle.ng_machine.specs.kinds.Macset.{picks, goes_by, source_of, has_address}
use Rattle.ng_machine.specs.State.{KindState, kind_of_kept, HubState, HoleState, EchoState, SplitState, SocketState, TeeState, One2manyState}
use Rattle.ng_machine.specs.State.{BridgeState, VlanState, PatchState, BpfState, EtherState, EtfState, MacsetState}
use Rattle.ng_machine.specs.Case.{outcome_of}

abbrev Teaches : Outcome → Type 0
Teaches out = out.learn ≡ None

either : (b : Bool) (x y : Outcome) → Teaches x → Teaches y → Teaches (if b then x else y)
either true x y hx hy = hx
either false x y hx hy = hy

by_sending : (hooks : List (List ℕ)) (hook packet : List ℕ) → Teaches (sends_by hooks hook packet)
by_sending hooks hook packet = either (has_name hooks hook) _ nothing refl refl

split_teaches : (hooks : List (List ℕ)) (door : Door) (packet : List ℕ) → Teaches (parts hooks door packet)
split_teaches hooks Wire packet = refl
split_teaches hooks (Hook hook) packet =
    either (bytes_eq hook in_hook) _ _ (by_sending hooks mixed packet)
    (either (bytes_eq hook mixed) _ _ (by_sending hooks out_hook packet) refl)

out_teaches : (hooks : List (List ℕ)) (f : Option VlanWay) (frame : List ℕ) → Teaches (out_of_filter hooks f frame)
out_teaches hooks None frame = by_sending hooks nomatch frame
out_teaches hooks (Some f) frame = by_sending hooks f.hook (without_tag frame)

tag_teaches : (hooks : List (List ℕ)) (ways : List VlanWay) (tag : Option (ℕ × List ℕ)) (frame : List ℕ)
    → Teaches (by_tag hooks ways tag frame)
tag_teaches hooks ways None frame = by_sending hooks nomatch frame
tag_teaches hooks ways (Some tag) frame = out_teaches hooks (filter_of_number tag.0 ways) frame

into_teaches : (hooks : List (List ℕ)) (kind : ℕ) (f : Option VlanWay) (frame : List ℕ) → Teaches (into_filter hooks kind f frame)
into_teaches hooks kind None frame = refl
into_teaches hooks kind (Some f) frame =
    either (nat_lt (length frame) 14) _ _ refl (either (nat_lt 262140 (length frame)) _ _ refl
    (by_sending hooks downstream (with_tag kind (control_of f) frame)))

vlan_teaches : (hooks : List (List ℕ)) (kind : ℕ) (ways : List VlanWay) (door : Door) (frame : List ℕ)
    → Teaches (tags hooks kind ways door frame)
vlan_teaches hooks kind ways Wire frame = refl
vlan_teaches hooks kind ways (Hook hook) frame =
    either (bytes_eq hook downstream) _ _ (tag_teaches hooks ways (tag_of kind frame) frame)
    (either (bytes_eq hook nomatch) _ _ (by_sending hooks downstream frame)
    (into_teaches hooks kind (filter_of_hook hook ways) frame))

patch_teaches : (hooks : List (List ℕ)) (ops : List PatchOp) (door : Door) (packet : List ℕ)
    → Teaches (patches hooks ops door packet)
patch_teaches hooks ops Wire packet = refl
patch_teaches hooks ops (Hook hook) packet =
    either (bytes_eq hook out_hook) _ _ (by_sending hooks in_hook packet)
    (either (has_name hooks out_hook) _ _ (by_sending hooks out_hook (fold patch_by packet ops))
    (by_sending hooks in_hook (fold patch_by packet ops)))

target_teaches : (ways : List BpfWay) (hook : Option (List ℕ)) (packet : List ℕ) (counts : List Count)
    → Teaches (to_target ways hook packet counts)
target_teaches ways None packet counts = refl
target_teaches ways (Some hook) packet counts = either (list_any (is_way_of hook) ways)
    (sends_and_counts hook packet counts) (counts_only counts) refl refl

way_teaches : (ways : List BpfWay) (way : Option BpfWay) (hook packet : List ℕ) → Teaches (by_way ways way hook packet)
way_teaches ways None hook packet = refl
way_teaches ways (Some way) hook packet =
    either (answer_of way.program packet == 0) _ _ (target_teaches ways way.if_not_match packet _)
    (target_teaches ways way.if_match packet _)

bpf_teaches : (ways : List BpfWay) (door : Door) (packet : List ℕ) → Teaches (filters ways door packet)
bpf_teaches ways Wire packet = refl
bpf_teaches ways (Hook hook) packet = way_teaches ways (find (is_way_of hook) ways) hook packet

arrives_teaches : (b : Bool) (packet : List ℕ) → Teaches (arrives b packet)
arrives_teaches true packet = refl
arrives_teaches false packet = refl

ether_teaches : (b : Bool) (door : Door) (packet : List ℕ) → Teaches (passes b door packet)
ether_teaches b Wire packet = arrives_teaches b packet
ether_teaches b (Hook hook) packet = either (bytes_eq hook lower) _ _ refl refl

down_teaches : (hooks : List (List ℕ)) (hook frame : List ℕ) → Teaches (goes_down hooks hook frame)
down_teaches hooks hook frame = either (has_name hooks downstream) _ nothing refl refl

up_teaches : (hooks : List (List ℕ)) (ways : List EtfWay) (frame : List ℕ) → Teaches (goes_up hooks ways frame)
up_teaches hooks ways frame = either (is_short frame) _ _ refl
    (by_sending hooks (upward (etf_filter_of (ethertype_of frame) ways)) frame)

etf_teaches : (hooks : List (List ℕ)) (ways : List EtfWay) (door : Door) (frame : List ℕ) → Teaches (sorts hooks ways door frame)
etf_teaches hooks ways Wire frame = refl
etf_teaches hooks ways (Hook hook) frame =
    either (bytes_eq hook downstream) _ _ (up_teaches hooks ways frame)
    (either (bytes_eq hook nomatch) _ _ (down_teaches hooks hook frame)
    (either (is_short frame) _ _ refl (either (is_own hook (etf_filter_of (ethertype_of frame) ways)) _ _
    (down_teaches hooks hook frame) refl)))

goes_teaches : (hooks : List (List ℕ)) (out : List ℕ) (number : ℕ) (hook frame : List ℕ)
    → Teaches (goes_by hooks out number hook frame)
goes_teaches hooks out number hook frame = either (has_name hooks out) _ nothing refl refl

macset_teaches : (hooks addresses : List (List ℕ)) (door : Door) (frame : List ℕ) → Teaches (picks hooks addresses door frame)
macset_teaches hooks addresses Wire frame = refl
macset_teaches hooks addresses (Hook hook) frame =
    either (bytes_eq hook all_hook) _ _
    (either (nat_lt (length frame) 14) _ _ refl (either (has_address addresses (source_of frame)) _ _
    (goes_teaches hooks known_hook 0 hook frame) (goes_teaches hooks other_hook 1 hook frame)))
    (by_sending hooks all_hook frame)

-- a hub, a tee and an echo send copies by a hook, and nothing by the wire
hub_teaches : (hooks : List (List ℕ)) (door : Door) (packet : List ℕ) → Teaches (fans hooks door packet)
hub_teaches hooks Wire packet = refl
hub_teaches hooks (Hook hook) packet = refl

echo_teaches : (door : Door) (packet : List ℕ) → Teaches (echoes door packet)
echo_teaches Wire packet = refl
echo_teaches (Hook hook) packet = refl

tee_teaches : (hooks : List (List ℕ)) (door : Door) (packet : List ℕ) → Teaches (tees hooks door packet)
tee_teaches hooks Wire packet = refl
tee_teaches hooks (Hook hook) packet = refl

many_teaches : (s : One2many) (hooks : List (List ℕ)) (door : Door) (packet : List ℕ) → Teaches (deals s hooks door packet)
many_teaches s hooks Wire packet = refl
many_teaches s hooks (Hook hook) packet = refl

socket_teaches : (door : Door) (packet : List ℕ) → Teaches (hands_over door packet)
socket_teaches Wire packet = refl
socket_teaches (Hook hook) packet = refl

pub frames_teach : (kept : KindState) (hooks : List (List ℕ)) (door : Door) (link : Option LinkId) (packet : List ℕ)
    → (kind_of_kept kept ≡ BridgeKind) ⊎ ((outcome_of (record { hooks = hooks; kept = kept }) (Frame door link packet)).learn ≡ None)
frames_teach (HubState persistent) hooks door link packet = inr (hub_teaches hooks door packet)
frames_teach HoleState hooks door link packet = inr refl
frames_teach EchoState hooks door link packet = inr (echo_teaches door packet)
frames_teach (TeeState rows) hooks door link packet = inr (tee_teaches hooks door packet)
frames_teach SplitState hooks door link packet = inr (split_teaches hooks door packet)
frames_teach (One2manyState s) hooks door link packet = inr (many_teaches s hooks door packet)
frames_teach (BridgeState s) hooks door link packet = inl refl
frames_teach (VlanState s) hooks door link packet = inr (vlan_teaches hooks s.kind s.filters door packet)
frames_teach (PatchState ops) hooks door link packet = inr (patch_teaches hooks ops door packet)
frames_teach (BpfState s) hooks door link packet = inr (bpf_teaches (map (λ f. f.way) s) door packet)
frames_teach (EtherState s) hooks door link packet = inr (ether_teaches (has_name hooks lower) door packet)
frames_teach SocketState hooks door link packet = inr (socket_teaches door packet)
frames_teach (EtfState s) hooks door link packet = inr (etf_teaches hooks s.filters door packet)
frames_teach (MacsetState s) hooks door link packet = inr (macset_teaches hooks s.addresses door packet)
