-- A file that is written anew, piece by piece.
use Rattle.std.proofs.Common.{◌≡◌, ◌∙◌, ℕ, List, [], ◌∷◌, ◌++◌, inl, refl, sym, ap, append_assoc, append-nil, take, drop, take-append-drop, subst, inr}
use Rattle.ng_outside.specs.Contents.{Contents, NotTold, NoFile, Holds, HoldsNow, Grows, HoldsPrefix, KeptOrBegun}

-- all of the bytes but `left`, which stands at their end
pub record HoldsBut (old now : Contents) (bytes left : List ℕ) : Type 0 where
  pub done : List ℕ
  pub split : done ++ left ≡ bytes
  pub holds : HoldsNow old now done

pub none_held : (old now : Contents) (bytes : List ℕ) → HoldsNow old now [] → HoldsBut old now bytes bytes
none_held old now bytes empty = record { done = []; split = refl; holds = empty }

grows_on : (now next : Contents) (done piece : List ℕ) → now ≡ Holds done → Grows now next piece
    → next ≡ Holds (done ++ piece)
grows_on now next done piece is more = subst (λ (c : Contents). Grows c next piece) is more

grown : (old now next : Contents) (done piece : List ℕ) → HoldsNow old now done → Grows now next piece
    → HoldsNow old next (done ++ piece)
grown NotTold now next done piece holds more = tt
grown NoFile now next done piece holds more = grows_on now next done piece holds more
grown (Holds x) now next done piece holds more = grows_on now next done piece holds more

pub more_held : (old now next : Contents) (bytes left after : List ℕ) (count : ℕ) → HoldsBut old now bytes left
    → Grows now next (take count left)
    → after ≡ drop count left → HoldsBut old next bytes after
more_held old now next bytes left after count so_far more is = record {
  done = so_far.done ++ take count left;
  split = append_assoc so_far.done (take count left) after
      ∙ ap (λ (l : List ℕ). so_far.done ++ (take count left ++ l)) is
      ∙ ap (λ (l : List ℕ). so_far.done ++ l) (take-append-drop count left)
      ∙ so_far.split;
  holds = grown old now next so_far.done (take count left) so_far.holds more;
}

pub held_prefix : (old now : Contents) (bytes left : List ℕ) → HoldsBut old now bytes left → HoldsPrefix old now bytes
held_prefix old now bytes left so_far =
    record { prefix = so_far.done; rest = left; split = so_far.split; holds = so_far.holds }

pub all_held : (old now : Contents) (bytes left : List ℕ) → HoldsBut old now bytes left → left ≡ [] → HoldsNow old now bytes
all_held old now bytes left so_far none =
    let whole : so_far.done ≡ bytes =
    sym (append-nil so_far.done)
    ∙ ap (λ (l : List ℕ). so_far.done ++ l) (sym none)
    ∙ so_far.split in
    subst (λ (l : List ℕ). HoldsNow old now l) whole so_far.holds

no_bytes : (a b : List ℕ) → a ++ b ≡ [] → a ≡ []
no_bytes [] b is = refl
no_bytes (x ∷ a) b is = absurd (cc is)

-- a fresh start that stopped is a write that stopped
pub begun_none : (old now : Contents) (bytes : List ℕ) → KeptOrBegun old now [] → KeptOrBegun old now bytes
begun_none old now bytes (inl same) = inl same
begun_none old now bytes (inr begun) =
    inr (record { prefix = []; rest = bytes; split = refl; holds = subst (λ (l : List ℕ). HoldsNow old now l) (no_bytes begun.prefix begun.rest begun.split) begun.holds })
