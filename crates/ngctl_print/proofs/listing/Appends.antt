-- Three texts, appended one after the other.
use Rattle.std.proofs.Common.{◌≡◌, ℕ, List, ◌++◌, ap, ◌∙◌, append_assoc}

pub three : (old a b c first second third : List ℕ)
    → first ≡ old ++ a → second ≡ first ++ b → third ≡ second ++ c → third ≡ old ++ (a ++ (b ++ c))
three old a b c first second third is_first is_second is_third =
    is_third ∙ ap (λ (l : List ℕ). l ++ c) (is_second ∙ ap (λ (l : List ℕ). l ++ b) is_first)
    ∙ append_assoc (old ++ a) b c ∙ append_assoc old a (b ++ c)
