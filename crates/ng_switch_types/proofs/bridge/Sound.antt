-- Names of hooks, and what is known of a state that is sound.
use Rattle.std.proofs.Common.{◌≡◌, ℕ, zero, suc, ◌≤◌, nat_lt, Bool, true, false, not, List, [], ◌∷◌, ◌++◌, codes, find, unwrap_or, None, IsOk, refl, sym, ap, subst, arith, inl, inr, true≢false}
use Rattle.std.specs.List.{filter}
use Rattle.std.specs.Str.{bytes_eq}
use Rattle.std.proofs.lemmas.Bool.{cases_Bool}
use Rattle.std.proofs.lemmas.Bool.Decides.{nat_tests}
use Rattle.ng_base.specs.declared.kind.Kind.TheVariants.{Bridge as OfBridge}
use Rattle.ng_base.specs.Names.{has_name, without_name}
use Rattle.ng_base.specs.declared.ids.LinkId.{LinkId}
use Rattle.ng_message.specs.declared.message.Msg.{Msg as Message}
use Rattle.ng_machine.specs.declared.body.Body.TheVariants.{Msg, Tick, Learn}
use Rattle.ng_machine.specs.Counters.{Count, after_counts}
use Rattle.ng_machine.specs.Names.{digits, is_numbered, number_behind}
use Rattle.ng_machine.specs.kinds.Bridge.{Bridge, Link, has_number, link_number, most_links, count_bridge, bridge_message, bridge_tick, bridge_learn, bridge_with_hook, bridge_without_hook}
use Rattle.ng_machine.specs.Rules.{accepts_hook, may_of}
use Rattle.ng_machine.specs.Sound.{IsSound}
use Rattle.ng_machine.specs.State.{KindState, BridgeState, State, cut_hook}
use Rattle.ng_machine.proofs.Undone.{cut_undoes}
use Rattle.ng_machine.proofs.Sounded.{states_stay_sound}

numbered_test : (stem : List ℕ) (n d : ℕ) (hook : List ℕ) → n ≤ d → is_numbered stem n hook ≡ nat_lt (unwrap_or (number_behind stem n hook) d) d
numbered_test stem zero d hook below = grind (arith, nat_tests)
numbered_test stem (suc n) d hook below = elim (cases_Bool (bytes_eq (stem ++ digits n) hook)) [
  | inl is ↦ rw is (grind (arith, nat_tests))
  | inr other ↦ rw other (numbered_test stem n d hook (omega arith))
]

-- a bridge takes the hooks whose numbers are below 32
pub accepts_test : (hook : List ℕ) → accepts_hook OfBridge hook ≡ nat_lt (link_number hook) most_links
accepts_test hook = numbered_test (codes "link") most_links most_links hook (omega arith)

pub accepted : (hook : List ℕ) → IsOk (may_of OfBridge hook) → accepts_hook OfBridge hook ≡ true
accepted hook may = elim (cases_Bool (accepts_hook OfBridge hook)) [ inl is ↦ is | inr other ↦ absurd (true≢false (sym (rw other at may))) ]

none_left : {X : Type 0} (p : X → Bool) (xs : List X) → find p (filter (λ x. not (p x)) xs) ≡ None
none_left p [] = refl
none_left p (x ∷ xs) = elim (cases_Bool (p x)) [ inl is ↦ rw is (none_left p xs) | inr other ↦ rw other (rw other (none_left p xs)) ]

abbrev links_in : KindState → List Link
links_in (BridgeState s) = s.links
links_in kept = []

-- the number of a hook that isn't there is no link's
pub number_is_fresh : (hooks : List (List ℕ)) (s : Bridge) (hook : List ℕ) → IsSound (record { hooks = hooks; kept = BridgeState s }) → accepts_hook OfBridge hook ≡ true → has_name hooks hook ≡ false
    → find (has_number (link_number hook)) s.links ≡ None
number_is_fresh hooks s hook sound takes no_hook =
    let state : State = record { hooks = hooks; kept = BridgeState s } in
    subst (λ (links : List Link). find (has_number (link_number hook)) links ≡ None) (ap (λ (t : State). links_in t.kept) (cut_undoes state hook sound takes no_hook)) (none_left (has_number (link_number hook)) _)

-- ---- a state stays sound

abbrev pub state_with : List (List ℕ) → Bridge → State
state_with hooks s = record { hooks = hooks; kept = BridgeState s }

still_sound : (hooks : List (List ℕ)) (now after : Bridge) → now ≡ after → IsSound (state_with hooks after) → IsSound (state_with hooks now)
still_sound hooks now after e sound = subst (λ (s : Bridge). IsSound (state_with hooks s)) (sym e) sound

pub absorbed_sound : (hooks : List (List ℕ)) (s now : Bridge) (counts : List Count) → IsSound (state_with hooks s) → now ≡ after_counts count_bridge s counts → IsSound (state_with hooks now)
absorbed_sound hooks s now counts sound e = still_sound hooks now (after_counts count_bridge s counts) e (states_stay_sound.absorbed (state_with hooks s) counts sound)

pub replied_sound : (hooks : List (List ℕ)) (s now : Bridge) (msg : Message) → IsSound (state_with hooks s) → now ≡ (bridge_message s msg.header.cmd msg.args).after → IsSound (state_with hooks now)
replied_sound hooks s now msg sound e = still_sound hooks now (bridge_message s msg.header.cmd msg.args).after e (states_stay_sound.after (state_with hooks s) (Msg msg) tt sound)

pub ticked_sound : (hooks : List (List ℕ)) (s now : Bridge) (seconds : ℕ) → IsSound (state_with hooks s) → now ≡ bridge_tick s seconds → IsSound (state_with hooks now)
ticked_sound hooks s now seconds sound e = still_sound hooks now (bridge_tick s seconds) e (states_stay_sound.after (state_with hooks s) (Tick seconds) tt sound)

pub learned_sound : (hooks : List (List ℕ)) (s now : Bridge) (hook : List ℕ) (link : LinkId) (addr : List ℕ) → has_name hooks hook ≡ true → IsSound (state_with hooks s) → now ≡ bridge_learn s hook addr → IsSound (state_with hooks now)
learned_sound hooks s now hook link addr there sound e = still_sound hooks now (bridge_learn s hook addr) e (states_stay_sound.after (state_with hooks s) (Learn hook link addr) there sound)

pub cut_sound : (hooks left : List (List ℕ)) (s now : Bridge) (hook : List ℕ) → IsSound (state_with hooks s) → left ≡ without_name hooks hook → now ≡ bridge_without_hook s hook → IsSound (state_with left now)
cut_sound hooks left s now hook sound names e = rw (names, e) (states_stay_sound.cut (state_with hooks s) hook sound)

pub made_sound : (hooks more : List (List ℕ)) (s now : Bridge) (hook : List ℕ) → IsSound (state_with hooks s) → accepts_hook OfBridge hook ≡ true → more ≡ hooks ++ hook ∷ [] → now ≡ bridge_with_hook s hook → IsSound (state_with more now)
made_sound hooks more s now hook sound takes names e = rw (names, e) (states_stay_sound.made (state_with hooks s) hook sound takes)

-- a hook that is cut right after it was made leaves no trace
pub undone : (hooks more : List (List ℕ)) (s now : Bridge) (hook : List ℕ) → IsSound (state_with hooks s) → accepts_hook OfBridge hook ≡ true → has_name hooks hook ≡ false
    → more ≡ hooks ++ hook ∷ [] → now ≡ bridge_with_hook s hook → cut_hook (state_with more now) hook ≡ state_with hooks s
undone hooks more s now hook sound takes no_hook names e = rw (names, e) (cut_undoes (state_with hooks s) hook sound takes no_hook)
