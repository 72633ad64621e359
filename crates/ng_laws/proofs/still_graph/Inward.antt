-- What becomes of a followed packet: nothing is to be learned by it, and only an ether lets packets out by a wire or up to a host.
use Rattle.std.proofs.Common.{◌≡◌, ℕ, List, [], Bool, true, false, if◌then◌else◌, length, map, fold, find, nat_lt, ◌==◌, refl, sym, subst, true≢false, bytes_eq}
use Rattle.std.specs.List.{list_any}
use Rattle.std.specs.declared.option.Option.{Option}
use Rattle.std.specs.declared.option.Option.TheVariants.{None, Some}
use Rattle.ng_base.specs.Names.{has_name}
use Rattle.ng_base.specs.declared.kind.Kind.{Kind}
use Rattle.ng_base.specs.declared.kind.Kind.TheVariants.{Ether as OfEther}
use Rattle.ng_machine.specs.declared.body.Door.{Door}
use Rattle.ng_machine.specs.declared.body.Door.TheVariants.{Wire, Hook as ByHook}
use Rattle.ng_machine.specs.declared.body.Exit.{Exit}
use Rattle.ng_machine.specs.declared.body.Exit.TheVariants.{Wire as ToWire, Host as ToHost, Reader}
use Rattle.ng_machine.specs.declared.outcome.Outcome.{Outcome}
use Rattle.ng_machine.specs.declared.plan.BpfWay.{BpfWay}
use Rattle.ng_machine.specs.declared.plan.EtfWay.{EtfWay}
use Rattle.ng_machine.specs.declared.plan.PatchOp.{PatchOp}
use Rattle.ng_machine.specs.declared.plan.VlanWay.{VlanWay}
use Rattle.ng_machine.specs.Words.{Every}
use Rattle.ng_machine.specs.Names.{lower, mixed, out_hook, in_hook, downstream, nomatch, all_hook, known_hook, other_hook}
use Rattle.ng_machine.specs.Errors.{einval}
use Rattle.ng_machine.specs.Counters.{Count}
use Rattle.ng_machine.specs.Outcome.{sends_by, leaves, fails}
use Rattle.ng_machine.specs.kinds.Ether.{passes}
use Rattle.ng_machine.specs.kinds.Split.{parts}
use Rattle.ng_machine.specs.kinds.Vlan.{out_of_filter, by_tag, into_filter, tags, filter_of_number, filter_of_hook, control_of}
use Rattle.ng_frame.specs.Frame.{tag_of, with_tag, without_tag}
use Rattle.ng_machine.specs.kinds.Patch.{patches, patch_by}
use Rattle.ng_machine.specs.kinds.Bpf.{is_way_of, to_target, by_way, filters}
use Rattle.ng_bpf_vm.specs.Machine.{answer_of}
use Rattle.ng_machine.specs.kinds.Etf.{goes_down, goes_up, goes_back, sorts, is_short, is_own, upward, etf_filter_of, ethertype_of}
use Rattle.ng_machine.specs.kinds.Macset.{goes_by, picks, source_of, has_address}
use Rattle.ng_machine.specs.State.{KindState, HubState, HoleState, EchoState, SplitState, SocketState, TeeState, One2manyState, BridgeState, VlanState, PatchState, BpfState, EtherState, EtfState, MacsetState, kind_of_kept, way_of_kept}
use Rattle.ng_machine.specs.Case.{outcome_by_plan}
use Rattle.ng_machine.specs.Spread.{is_followed}

-- nothing leaves, and nothing is learned
record Inside (out : Outcome) : Type 0 where
  learn : out.learn ≡ None
  leaves : out.leaves ≡ []

inside : (out : Outcome) → out.learn ≡ None → out.leaves ≡ [] → Inside out
inside out a b = record { learn = a; leaves = b }

either : (b : Bool) (x y : Outcome) → Inside x → Inside y → Inside (if b then x else y)
either true x y a c = a
either false x y a c = c

by_inside : (hooks : List (List ℕ)) (hook packet : List ℕ) → Inside (sends_by hooks hook packet)
by_inside hooks hook packet = either (has_name hooks hook) _ _ (inside _ refl refl) (inside _ refl refl)

fails_inside : Inside (fails einval)
fails_inside = inside _ refl refl

split_inside : (hooks : List (List ℕ)) (door : Door) (packet : List ℕ) → Inside (parts hooks door packet)
split_inside hooks Wire packet = inside _ refl refl
split_inside hooks (ByHook hook) packet =
    either (bytes_eq hook in_hook) _ _ (by_inside hooks mixed packet) (either (bytes_eq hook mixed) _ _ (by_inside hooks out_hook packet) (inside _ refl refl))

filter_inside : (hooks : List (List ℕ)) (o : Option VlanWay) (frame : List ℕ) → Inside (out_of_filter hooks o frame)
filter_inside hooks None frame = by_inside hooks nomatch frame
filter_inside hooks (Some f) frame = by_inside hooks f.hook (without_tag frame)

tag_inside : (hooks : List (List ℕ)) (ways : List VlanWay) (o : Option (ℕ × List ℕ)) (frame : List ℕ) → Inside (by_tag hooks ways o frame)
tag_inside hooks ways None frame = by_inside hooks nomatch frame
tag_inside hooks ways (Some tag) frame = filter_inside hooks (filter_of_number tag.0 ways) frame

into_inside : (hooks : List (List ℕ)) (kind : ℕ) (o : Option VlanWay) (frame : List ℕ) → Inside (into_filter hooks kind o frame)
into_inside hooks kind None frame = inside _ refl refl
into_inside hooks kind (Some f) frame =
    either (nat_lt (length frame) 14) _ _ (inside _ refl refl) (either (nat_lt 262140 (length frame)) _ _ (inside _ refl refl) (by_inside hooks downstream (with_tag kind (control_of f) frame)))

vlan_inside : (hooks : List (List ℕ)) (kind : ℕ) (ways : List VlanWay) (door : Door) (frame : List ℕ) → Inside (tags hooks kind ways door frame)
vlan_inside hooks kind ways Wire frame = inside _ refl refl
vlan_inside hooks kind ways (ByHook hook) frame =
    either (bytes_eq hook downstream) _ _ (tag_inside hooks ways (tag_of kind frame) frame)
    (either (bytes_eq hook nomatch) _ _ (by_inside hooks downstream frame) (into_inside hooks kind (filter_of_hook hook ways) frame))

patch_inside : (hooks : List (List ℕ)) (ops : List PatchOp) (door : Door) (packet : List ℕ) → Inside (patches hooks ops door packet)
patch_inside hooks ops Wire packet = inside _ refl refl
patch_inside hooks ops (ByHook hook) packet =
    either (bytes_eq hook out_hook) _ _ (by_inside hooks in_hook packet)
    (either (has_name hooks out_hook) _ _ (by_inside hooks out_hook (fold patch_by packet ops)) (by_inside hooks in_hook (fold patch_by packet ops)))

target_inside : (ways : List BpfWay) (o : Option (List ℕ)) (packet : List ℕ) (counts : List Count) → Inside (to_target ways o packet counts)
target_inside ways None packet counts = inside _ refl refl
target_inside ways (Some hook) packet counts = either (list_any (is_way_of hook) ways) _ _ (inside _ refl refl) (inside _ refl refl)

way_inside : (ways : List BpfWay) (o : Option BpfWay) (hook packet : List ℕ) → Inside (by_way ways o hook packet)
way_inside ways None hook packet = inside _ refl refl
way_inside ways (Some way) hook packet = either (answer_of way.program packet == 0) _ _ (target_inside ways way.if_not_match packet _) (target_inside ways way.if_match packet _)

bpf_inside : (ways : List BpfWay) (door : Door) (packet : List ℕ) → Inside (filters ways door packet)
bpf_inside ways Wire packet = inside _ refl refl
bpf_inside ways (ByHook hook) packet = way_inside ways (find (is_way_of hook) ways) hook packet

down_inside : (hooks : List (List ℕ)) (hook frame : List ℕ) → Inside (goes_down hooks hook frame)
down_inside hooks hook frame = either (has_name hooks downstream) _ _ (inside _ refl refl) (inside _ refl refl)

up_inside : (hooks : List (List ℕ)) (ways : List EtfWay) (frame : List ℕ) → Inside (goes_up hooks ways frame)
up_inside hooks ways frame = either (is_short frame) _ _ (inside _ refl refl) (by_inside hooks (upward (etf_filter_of (ethertype_of frame) ways)) frame)

back_inside : (hooks : List (List ℕ)) (ways : List EtfWay) (hook frame : List ℕ) → Inside (goes_back hooks ways hook frame)
back_inside hooks ways hook frame =
    either (is_short frame) _ _ (inside _ refl refl) (either (is_own hook (etf_filter_of (ethertype_of frame) ways)) _ _ (down_inside hooks hook frame) (inside _ refl refl))

counted_inside : (out : Outcome) (counts : List Count) → Inside out → Inside (record out { counts = counts })
counted_inside out counts i = record { learn = i.learn; leaves = i.leaves }

etf_inside : (hooks : List (List ℕ)) (ways : List EtfWay) (door : Door) (frame : List ℕ) → Inside (sorts hooks ways door frame)
etf_inside hooks ways Wire frame = inside _ refl refl
etf_inside hooks ways (ByHook hook) frame =
    either (bytes_eq hook downstream) _ _ (counted_inside (goes_up hooks ways frame) _ (up_inside hooks ways frame))
    (either (bytes_eq hook nomatch) _ _ (down_inside hooks hook frame) (back_inside hooks ways hook frame))

goes_inside : (hooks : List (List ℕ)) (out : List ℕ) (number : ℕ) (hook frame : List ℕ) → Inside (goes_by hooks out number hook frame)
goes_inside hooks out number hook frame = either (has_name hooks out) _ _ (inside _ refl refl) (inside _ refl refl)

macset_inside : (hooks addresses : List (List ℕ)) (door : Door) (frame : List ℕ) → Inside (picks hooks addresses door frame)
macset_inside hooks addresses Wire frame = inside _ refl refl
macset_inside hooks addresses (ByHook hook) frame =
    either (bytes_eq hook all_hook) _ _
    (either (nat_lt (length frame) 14) _ _ (inside _ refl refl)
    (either (has_address addresses (source_of frame)) _ _ (goes_inside hooks known_hook 0 hook frame) (goes_inside hooks other_hook 1 hook frame)))
    (by_inside hooks all_hook frame)

-- a packet leaves by a wire or up to a host at an ether alone
abbrev pub LeavesBy : Kind → Exit × List ℕ → Type 0
LeavesBy kind (ToWire, packet) = kind ≡ OfEther
LeavesBy kind (ToHost, packet) = kind ≡ OfEther
LeavesBy kind (Reader, packet) = Unit {0}

pub record Orderly (kind : Kind) (out : Outcome) : Type 0 where
  pub learn : out.learn ≡ None
  pub leaves : Every (LeavesBy kind) out.leaves

none_leave : (kind : Kind) (xs : List (Exit × List ℕ)) → xs ≡ [] → Every (LeavesBy kind) xs
none_leave kind xs e = subst (λ (ys : List (Exit × List ℕ)). Every (LeavesBy kind) ys) (sym e) tt

ordered : (kind : Kind) (out : Outcome) → Inside out → Orderly kind out
ordered kind out i = record { learn = i.learn; leaves = none_leave kind out.leaves i.leaves }

ether_orderly : (has_lower : Bool) (door : Door) (packet : List ℕ) → Orderly OfEther (passes has_lower door packet)
ether_orderly true Wire packet = record { learn = refl; leaves = tt }
ether_orderly false Wire packet = record { learn = refl; leaves = (refl, tt) }
ether_orderly has_lower (ByHook hook) packet = by (bytes_eq hook lower)
  where
    by : (b : Bool) → Orderly OfEther (if b then leaves ToWire packet else leaves ToHost packet)
    by true = record { learn = refl; leaves = (refl, tt) }
    by false = record { learn = refl; leaves = (refl, tt) }

pub followed_orderly : (kept : KindState) (hooks : List (List ℕ)) (door : Door) (packet : List ℕ) → is_followed (kind_of_kept kept) ≡ true → Orderly (kind_of_kept kept) (outcome_by_plan (record { hooks = hooks; kept = kept }) (way_of_kept kept hooks) door packet)
followed_orderly (One2manyState s) hooks door packet e = absurd (true≢false (sym e))
followed_orderly (BridgeState s) hooks door packet e = absurd (true≢false (sym e))
followed_orderly (HubState s) hooks (ByHook hook) packet e = record { learn = refl; leaves = tt }
followed_orderly HoleState hooks door packet e = record { learn = refl; leaves = tt }
followed_orderly EchoState hooks (ByHook hook) packet e = record { learn = refl; leaves = tt }
followed_orderly (TeeState s) hooks (ByHook hook) packet e = record { learn = refl; leaves = tt }
followed_orderly SocketState hooks (ByHook hook) packet e = record { learn = refl; leaves = (tt, tt) }
followed_orderly SplitState hooks door packet e = ordered _ _ (split_inside hooks door packet)
followed_orderly (VlanState s) hooks door packet e = ordered _ _ (vlan_inside hooks s.kind s.filters door packet)
followed_orderly (PatchState ops) hooks door packet e = ordered _ _ (patch_inside hooks ops door packet)
followed_orderly (BpfState s) hooks door packet e = ordered _ _ (bpf_inside (map (λ f. f.way) s) door packet)
followed_orderly (EtherState s) hooks door packet e = ether_orderly (has_name hooks lower) door packet
followed_orderly (EtfState s) hooks door packet e = ordered _ _ (etf_inside hooks s.filters door packet)
followed_orderly (MacsetState s) hooks door packet e = ordered _ _ (macset_inside hooks s.addresses door packet)
followed_orderly _ hooks Wire packet e = record { learn = refl; leaves = tt }
