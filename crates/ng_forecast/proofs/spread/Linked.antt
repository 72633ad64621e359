-- A hook that is found by its name, and has the link, is found by both.
use Rattle.std.proofs.Common.{◌≡◌, ◌∙◌, ℕ, Bool, true, false, ◌&&◌, ◌==◌, cond, List, [], ◌∷◌, is_some, refl, sym, ap}
use Rattle.std.specs.List.{find}
use Rattle.std.specs.Option.{unwrap_or}
use Rattle.std.specs.declared.option.Option.{Option}
use Rattle.std.specs.declared.option.Option.TheVariants.{Some}
use Rattle.std.proofs.lemmas.Bool.{eq-eqb}
use Rattle.ng_base.specs.declared.ids.LinkId.{LinkId}
use Rattle.ng_machine.specs.declared.hook.Hook.{Hook}
use Rattle.ng_machine.specs.World.{is_named}

module _ (name : List ℕ) (link : LinkId) where
  abbrev has_link : Hook → Bool
  has_link h = is_named name h && h.link.0 == link.0

  pub found_linked : (hooks : List Hook) (hook : Hook) → find (is_named name) hooks ≡ Some hook → hook.link.0 ≡ link.0 → is_some (find has_link hooks) ≡ true
  found_linked [] hook found same = cc
  found_linked (h ∷ hs) hook found same = by (λ rest. found_linked hs hook rest same) (is_named name h) refl
    where
      by : (find (is_named name) hs ≡ Some hook → is_some (find has_link hs) ≡ true) → (b : Bool) → is_named name h ≡ b → is_some (find has_link (h ∷ hs)) ≡ true
      by later true is =
          let first : Some h ≡ Some hook = sym (ap (λ (b : Bool). cond b (Some h) (find (is_named name) hs)) is) ∙ found in
          let linked : (h.link.0 == link.0) ≡ true = eq-eqb h.link.0 link.0 (ap (λ (o : Option Hook). (unwrap_or o h).link.0) first ∙ same) in
          ap (λ (b : Bool). is_some (cond (b && h.link.0 == link.0) (Some h) (find has_link hs))) is
          ∙ ap (λ (b : Bool). is_some (cond b (Some h) (find has_link hs))) linked
      by later false is =
          ap (λ (b : Bool). is_some (cond (b && h.link.0 == link.0) (Some h) (find has_link hs))) is
          ∙ later (sym (ap (λ (b : Bool). cond b (Some h) (find (is_named name) hs)) is) ∙ found)
