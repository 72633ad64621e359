-- Bytes at the end of a line, and lines in front of others.
use Rattle.std.proofs.Common.{◌≡◌, ℕ, ◌+◌, ◌-◌, zero, suc, Bool, true, false, cond, eqb, List, [], ◌∷◌, take, drop, length, get_or, position, Some, None, refl, sym, ap, ◌∙◌, arith}
use Rattle.std.proofs.lemmas.Bool.{cond-true, cond-false, eq-eqb}
use Rattle.ngctl_script.specs.Lines.{without_cr, lines_in, lines_of}
use Rattle.ngctl_script.proofs.Splits.{split_at_place, split_free, free_nowhere, split_some, rest_is, nothing_left}

cons_cond : (t : Bool) (x : ℕ) (a b : List ℕ) → x ∷ cond t a b ≡ cond t (x ∷ a) (x ∷ b)
cons_cond true x a b = refl
cons_cond false x a b = refl

pub cr_at : (line : List ℕ) (n : ℕ) → length line ≡ n + 1 → without_cr line ≡ cond (eqb (get_or line n 0) 0x0d) (take n line) line
cr_at [] n e = absurd (omega arith)
cr_at (b ∷ []) zero e = refl
cr_at (b ∷ []) (suc m) e = absurd (omega arith)
cr_at (b ∷ next ∷ bytes) zero e = absurd (omega arith)
cr_at (b ∷ next ∷ bytes) (suc m) e =
    ap (λ (rest : List ℕ). b ∷ rest) (cr_at (next ∷ bytes) m (omega arith))
    ∙ cons_cond (eqb (get_or (next ∷ bytes) m 0) 0x0d) b (take m (next ∷ bytes)) (next ∷ bytes)

-- the next line
more_lines : (line : List ℕ) (parts parts' : List (List ℕ)) (part : List ℕ) (others : List (List ℕ)) → parts ≡ line ∷ parts'
    → parts' ≡ part ∷ others → lines_in parts ≡ without_cr line ∷ lines_in parts'
more_lines line parts parts' part others first next = rw (first, next) refl

pub line_at_place : (text : List ℕ) (place : ℕ) → position (λ b. eqb b 0x0a) text ≡ Some place
    → lines_of text ≡ without_cr (take place text) ∷ lines_of (take (length text - (place + 1)) (drop (place + 1) text))
line_at_place text place found =
    let split = split_at_place (λ b. eqb b 0x0a) text place found in
    let next = split_some (λ b. eqb b 0x0a) (drop (suc place) text) in
    let same : suc place ≡ place + 1 = omega arith in
    more_lines (take place text) _ _ next.0 next.1 split.parts next.2
    ∙ ap (λ (rest : List ℕ). without_cr (take place text) ∷ lines_of rest) (ap (λ (n : ℕ). drop n text) same ∙ sym (rest_is (place + 1) text))

last_line : (text : List ℕ) (n : ℕ) → length text ≡ suc n → lines_in (text ∷ []) ≡ text ∷ []
last_line [] n e = absurd (omega arith)
last_line (b ∷ text) n e = refl

pub line_without_end : (text : List ℕ) (n : ℕ) → length text ≡ suc n → position (λ b. eqb b 0x0a) text ≡ None
    → lines_of text ≡ text ∷ lines_of (take (length text - length text) (drop (length text) text))
line_without_end text n e found =
    ap lines_in (split_free (λ b. eqb b 0x0a) text (free_nowhere (λ b. eqb b 0x0a) text found)) ∙ last_line text n e
    ∙ ap (λ (rest : List ℕ). text ∷ lines_of rest) (sym (nothing_left text))

-- the line without its CR
pub cr_dropped : (line : List ℕ) (n : ℕ) → length line ≡ n + 1 → get_or line n 0 ≡ 0x0d → take n line ≡ without_cr line
cr_dropped line n e cr = sym (cr_at line n e ∙ cond-true _ (take n line) line (eq-eqb (get_or line n 0) 0x0d cr))

pub cr_absent : (line : List ℕ) (n : ℕ) → length line ≡ n + 1 → eqb (get_or line n 0) 0x0d ≡ false → line ≡ without_cr line
cr_absent line n e other = sym (cr_at line n e ∙ cond-false _ (take n line) line other)
