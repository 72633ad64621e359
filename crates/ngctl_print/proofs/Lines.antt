-- The lines of the summary.
use Rattle.std.proofs.Common.{◌≡◌, ℕ, List, map, ap, sym, ◌∙◌, String, string_bytes}
use Rattle.std.proofs.lemmas.List.Concat.{concat_is}
use Rattle.std.proofs.lemmas.List.Folds.{flat_map-map}
use Rattle.std.specs.List.{concat, flat_map}

-- texts that are the lines, one behind the other
pub joined : {Z : Type 0} (texts : List (String Z)) (lines : List (List ℕ)) → map string_bytes texts ≡ lines → flat_map string_bytes texts ≡ concat lines
joined texts lines are = sym (flat_map-map (λ (l : List ℕ). l) string_bytes texts) ∙ sym (concat_is (map string_bytes texts)) ∙ ap concat are
