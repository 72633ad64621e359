-- A list of moves, one after another.
use Rattle.std.proofs.Common.{◌≡◌, ℕ, zero, suc, ◌+◌, ◌≤◌, Bool, true, false, List, [], ◌∷◌, ◌++◌, length, arith, drop, inl, inr, refl, sym, subst}
use Rattle.std.proofs.lemmas.List.{append_assoc}
use Rattle.ng_machine.specs.declared.input.Input.{Input}
use Rattle.ng_workers.specs.pool.Moves.{Makes, Played, Skips}
use Rattle.ng_workers.specs.declared.pool.moves.Move.{Move}
use Rattle.ng_machine.specs.story.Story.{Story}

-- whatever the moves from place n on do, all moves do from the beginning, with the places skipped so far before theirs
abbrev pub PlayedSoFar : List Move → Story → List Input → ℕ → Story → List Input → List ℕ → Type 0
PlayedSoFar moves start inputs n s left skipped =
    (more : List ℕ) (t : Story) (rest : List Input) → Played (drop n moves) n s left more t rest → Played moves 0 start inputs (skipped ++ more) t rest

-- one move more
pub played_more : (moves : List Move) (start : Story) (inputs : List Input) (n : ℕ) (m : Move) (s u : Story) (left behind : List Input) (skipped now : List ℕ) (made : Bool) → drop n moves ≡ m ∷ drop (n + 1) moves
    → (made ≡ true → Makes s left m u behind × (Skips s left m → ⊥)) → (made ≡ false → (u ≡ s) × (behind ≡ left) × Skips s left m)
    → (made ≡ true → now ≡ skipped) → (made ≡ false → now ≡ skipped ++ n ∷ []) → PlayedSoFar moves start inputs n s left skipped → PlayedSoFar moves start inputs (n + 1) u behind now
played_more moves start inputs n m s u left behind skipped now true here makes skips same noted G = λ more t rest P.
    let k = makes refl in
    subst (λ (l : List ℕ). Played moves 0 start inputs (l ++ more) t rest) (sym (same refl))
    (G more t rest (subst (λ (l : List Move). Played l n s left more t rest) (sym here) (inr (k.1, u, behind, k.0, P))))
played_more moves start inputs n m s u left behind skipped now false here makes skips same noted G = λ more t rest P.
    let k = skips refl in
    let Q : Played (drop (n + 1) moves) (n + 1) s left more t rest =
    subst (λ (x : Story). Played (drop (n + 1) moves) (n + 1) x left more t rest) k.0 (subst (λ (l : List Input). Played (drop (n + 1) moves) (n + 1) u l more t rest) k.1 P) in
    subst (λ (l : List ℕ). Played moves 0 start inputs (l ++ more) t rest) (sym (noted refl))
    (subst (λ (l : List ℕ). Played moves 0 start inputs l t rest) (sym (append_assoc skipped (n ∷ []) more))
    (G (n ∷ more) t rest (subst (λ (l : List Move). Played l n s left (n ∷ more) t rest) (sym here) (inl (k.2, more, refl, Q)))))

-- all moves are made or skipped
pub played_all : (moves : List Move) (start : Story) (inputs : List Input) (n : ℕ) (s : Story) (left : List Input) (skipped : List ℕ) → drop n moves ≡ [] → PlayedSoFar moves start inputs n s left skipped
    → Played moves 0 start inputs (skipped ++ []) s left
played_all moves start inputs n s left skipped none G = G [] s left (subst (λ (l : List Move). Played l n s left [] s left) (sym none) (refl, refl, refl))

pub drop_past : {A : Type 0} (xs : List A) (n : ℕ) → length xs ≤ n → drop n xs ≡ []
drop_past [] zero le = refl
drop_past [] (suc n) le = refl
drop_past (x ∷ xs) zero le = absurd (omega arith)
drop_past (x ∷ xs) (suc n) le = drop_past xs n (omega arith)
