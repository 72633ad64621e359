-- The links of a bridge, found by the names of their hooks.
use Rattle.std.proofs.Common.{◌≡◌, ◌==◌, ℕ, false, List, [], ◌∷◌, Option, Some, None, find, if◌then◌else◌, refl, ap, inl, inr}
use Rattle.std.specs.List.{list_any}
use Rattle.std.specs.Option.{option_map}
use Rattle.std.proofs.lemmas.Bool.{cases_Bool}
use Rattle.ng_base.proofs.NameLemmas.{is_same}
use Rattle.ng_machine.specs.declared.plan.BridgeLink.{BridgeLink}
use Rattle.ng_machine.specs.kinds.Bridge.{is_link_of, link_hook, mute_of, toward}

-- for how long a link that was found is mute
abbrev pub mute_in : Option BridgeLink → ℕ
mute_in None = 0
mute_in (Some l) = l.mute

pub mute_found : (links : List BridgeLink) (hook : List ℕ) → mute_of links hook ≡ mute_in (find (is_link_of hook) links)
mute_found [] hook = refl
mute_found (l ∷ links) hook = elim (cases_Bool (is_link_of hook l)) [
  | inl is ↦ rw is refl
  | inr other ↦ rw other (mute_found links hook)
]

pub named_found : (links : List BridgeLink) (hook : List ℕ)
    → option_map (λ (l : BridgeLink). l.hook) (find (is_link_of hook) links) ≡ (if list_any (is_link_of hook) links then Some hook else None)
named_found [] hook = refl
named_found (l ∷ links) hook = elim (cases_Bool (is_link_of hook l)) [
  | inl is ↦ rw is (ap Some (is_same l.hook hook is))
  | inr other ↦ rw other (named_found links hook)
]

-- where the hook of a link was found, a frame toward the link goes out of it
pub toward_found : (links : List BridgeLink) (number link : ℕ) (out : List ℕ)
    → Some out ≡ (if list_any (is_link_of (link_hook link)) links then Some (link_hook link) else None) → (link == number) ≡ false → toward links number link ≡ out ∷ []
toward_found links number link out found apart = elim (cases_Bool (list_any (is_link_of (link_hook link)) links)) [
  | inl is ↦ let same : out ≡ link_hook link = let at : Some out ≡ Some (link_hook link) = rw is at found in cc in rw (apart, is, same) refl
  | inr other ↦ let at : Some out ≡ None = rw other at found in absurd (cc at)
]
