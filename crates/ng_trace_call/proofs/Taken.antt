-- Words that were taken over, in front of those that are still to be.
use Rattle.std.proofs.Common.{◌≡◌, ◌∙◌, ℕ, Bool, true, false, if◌then◌else◌, List, [], ◌∷◌, ◌++◌, map, refl, sym, ap}
use Rattle.std.proofs.Math.Seq.{append_snoc}
use Rattle.ng_args.specs.Names.{is_dashed}
use Rattle.ng_trace_call.specs.Words.{as_run, with_comma}

-- a word that stands alone
pub alone : (all made rest : List (List ℕ)) (word : List ℕ) → all ≡ made ++ as_run rest → rest ≡ word ∷ [] → made ++ word ∷ [] ≡ all
alone all made rest word so_far here = sym (so_far ∙ ap (λ ws. made ++ as_run ws) here)

dashed : (test : Bool) (word next : List ℕ) (words : List (List ℕ)) → test ≡ true
    → (if test then word ∷ next ∷ as_run words else word ∷ map with_comma (next ∷ words)) ≡ word ∷ next ∷ as_run words
dashed true word next words is = refl
dashed false word next words is = absurd (cc is)

undashed : (test : Bool) (word next : List ℕ) (words : List (List ℕ)) → test ≡ false
    → (if test then word ∷ next ∷ as_run words else word ∷ map with_comma (next ∷ words)) ≡ word ∷ map with_comma (next ∷ words)
undashed false word next words is = refl
undashed true word next words is = absurd (cc is)

-- the script, and the ports behind it
pub last : (all made rest : List (List ℕ)) (word next : List ℕ) (words : List (List ℕ)) → all ≡ made ++ as_run rest → rest ≡ word ∷ next ∷ words
    → is_dashed word ≡ false → (made ++ word ∷ []) ++ map with_comma (next ∷ words) ≡ all
last all made rest word next words so_far here plain =
    append_snoc made word (map with_comma (next ∷ words))
    ∙ sym (so_far ∙ ap (λ ws. made ++ as_run ws) here ∙ ap (λ ws. made ++ ws) (undashed (is_dashed word) word next words plain))

-- an option and its value
pub more : (all made rest : List (List ℕ)) (word next : List ℕ) (words : List (List ℕ)) → all ≡ made ++ as_run rest → rest ≡ word ∷ next ∷ words
    → is_dashed word ≡ true → all ≡ ((made ++ word ∷ []) ++ next ∷ []) ++ as_run words
more all made rest word next words so_far here dash =
    so_far ∙ ap (λ ws. made ++ as_run ws) here ∙ ap (λ ws. made ++ ws) (dashed (is_dashed word) word next words dash)
    ∙ sym (append_snoc (made ++ word ∷ []) next (as_run words) ∙ append_snoc made word (next ∷ as_run words))
