-- What a packet teaches a node is an address of six bytes.
use Rattle.std.proofs.Common.{◌≡◌, ◌⊎◌, inl, inr, nat_lt, if◌then◌else◌, ℕ, Bool, true, false, List, ◌++◌, map, length, length-drop, refl}
use Rattle.std.proofs.Common.{arith}
use Rattle.std.specs.declared.option.Option.{Option}
use Rattle.std.specs.declared.option.Option.TheVariants.{None, Some}
use Rattle.std.proofs.lemmas.List.{length-take}
use Rattle.std.proofs.lemmas.Bool.{ltb-false}
use Rattle.ng_base.specs.declared.ids.LinkId.{LinkId}
use Rattle.ng_base.specs.declared.kind.Kind.TheVariants.{Bridge as BridgeKind}
use Rattle.ng_machine.specs.declared.body.Body.TheVariants.{Frame}
use Rattle.ng_machine.specs.declared.body.Door.{Door}
use Rattle.ng_machine.specs.declared.body.Door.TheVariants.{Wire, Hook}
use Rattle.ng_machine.specs.declared.outcome.Outcome.{Outcome}
use Rattle.ng_machine.specs.declared.plan.BridgeConfig.{BridgeConfig}
use Rattle.ng_machine.specs.declared.plan.BridgeHost.{BridgeHost}
use Rattle.ng_machine.specs.declared.plan.BridgeLink.{BridgeLink}
use Rattle.ng_machine.specs.Counters.{Count}
use Rattle.ng_machine.specs.Outcome.{counts_only}
use Rattle.ng_machine.specs.kinds.Bridge.{bridges, meets, Standing, Known, Looped, News, Crowded, link_number, mute_of, standing}
use Rattle.ng_machine.specs.kinds.Bridge.{counts_group, arrival_counts, one_more, recv_runts, recv_invalid, recv_broadcasts}
use Rattle.ng_machine.specs.kinds.Bridge.{recv_multicasts, loop_drops, destination_of, link_way, host_way}
use Rattle.ng_machine.specs.kinds.Macset.{is_group, source_of}
use Rattle.ng_machine.specs.State.{KindState, kind_of_kept}
use Rattle.ng_machine.specs.State.{BridgeState}
use Rattle.ng_machine.specs.Case.{outcome_of}
use Rattle.ng_machine.proofs.Teaching as learning
use Rattle.ng_laws.proofs.answers.Shapes.{IsSix}

abbrev pub IsSixOrNone : Option (List ℕ) → Type 0
IsSixOrNone None = Unit {0}
IsSixOrNone (Some address) = IsSix address

abbrev Teaches : Outcome → Type 0
Teaches out = IsSixOrNone out.learn

either : (b : Bool) (x y : Outcome) → Teaches x → Teaches y → Teaches (if b then x else y)
either true x y hx hy = hx
either false x y hx hy = hy

source_length : (frame : List ℕ) → nat_lt (length frame) 14 ≡ false → IsSix (source_of frame)
source_length frame e = let long = ltb-false (length frame) 14 e in omega (arith, length-take {A = ℕ}, length-drop {A = ℕ})

meets_teaches : (standing : Standing) (links : List BridgeLink) (hosts : List BridgeHost) (hook frame : List ℕ)
    (counts : List Count) → IsSix (source_of frame) → Teaches (meets standing links hosts hook frame counts)
meets_teaches Known links hosts hook frame counts six = tt
meets_teaches Looped links hosts hook frame counts six = six
meets_teaches News links hosts hook frame counts six = six
meets_teaches Crowded links hosts hook frame counts six = tt

bridge_teaches : (config : BridgeConfig) (links : List BridgeLink) (hosts : List BridgeHost) (door : Door)
    (frame : List ℕ) → Teaches (bridges config links hosts door frame)
bridge_teaches config links hosts Wire frame = tt
bridge_teaches config links hosts (Hook hook) frame = by (nat_lt (length frame) 14) refl
  where
    last : IsSix (source_of frame) → Teaches (if is_group (source_of frame) then counts_only
        (arrival_counts hook frame ++ one_more hook recv_invalid)
        else if nat_lt 0 (mute_of links hook) then counts_only (arrival_counts hook frame ++ one_more hook loop_drops)
        else meets (standing config hosts (link_number hook) (source_of frame)) links hosts hook frame
        (arrival_counts hook frame ++ counts_group hook recv_broadcasts recv_multicasts (destination_of frame)))
    last six = either (is_group (source_of frame)) _ _ tt
        (either (nat_lt 0 (mute_of links hook)) _ _ tt (meets_teaches
        (standing config hosts (link_number hook) (source_of frame)) links hosts hook frame _ six))

    by : (b : Bool) → nat_lt (length frame) 14 ≡ b
        → Teaches (if b then counts_only (arrival_counts hook frame ++ one_more hook recv_runts)
        else if is_group (source_of frame) then counts_only (arrival_counts hook frame ++ one_more hook recv_invalid)
        else if nat_lt 0 (mute_of links hook) then counts_only (arrival_counts hook frame ++ one_more hook loop_drops)
        else meets (standing config hosts (link_number hook) (source_of frame)) links hosts hook frame
        (arrival_counts hook frame ++ counts_group hook recv_broadcasts recv_multicasts (destination_of frame)))
    by true e = tt
    by false e = last (source_length frame e)

none_is : (address : Option (List ℕ)) → address ≡ None → IsSixOrNone address
none_is None e = tt
none_is (Some address) e = absurd (cc e)

bridges_teach : (kept : KindState) (hooks : List (List ℕ)) (door : Door) (link : Option LinkId) (packet : List ℕ) → kind_of_kept kept ≡ BridgeKind
    → IsSixOrNone (outcome_of (record { hooks = hooks; kept = kept }) (Frame door link packet)).learn
bridges_teach (BridgeState s) hooks door link packet is = bridge_teaches s.config (map link_way s.links) (map host_way s.hosts) door packet
bridges_teach _ hooks door link packet is = absurd (cc is)

pub frames_teach : (kept : KindState) (hooks : List (List ℕ)) (door : Door) (link : Option LinkId) (packet : List ℕ)
    → IsSixOrNone (outcome_of (record { hooks = hooks; kept = kept }) (Frame door link packet)).learn
frames_teach kept hooks door link packet = by (learning.frames_teach kept hooks door link packet)
  where
    out : Outcome
    out = outcome_of (record { hooks = hooks; kept = kept }) (Frame door link packet)

    by : (kind_of_kept kept ≡ BridgeKind) ⊎ (out.learn ≡ None) → IsSixOrNone out.learn
    by (inl is) = bridges_teach kept hooks door link packet is
    by (inr none) = none_is out.learn none
