-- What was written of bytes that are put into a sink, one piece behind the other. `old` and `now` are what the
-- sink held and holds, where it tells; `Appends old now bytes` of std says that it grew by exactly `bytes`.
use Rattle.std.specs.Prelude.{◌≡◌, ℕ, List, [], ◌++◌, Option, refl}
use Rattle.std.specs.Io.KnownBytes.{Appends, Keeps}
use Rattle.std.proofs.Common.{sym, ap, ◌∙◌, subst, append_assoc, append-nil}
use Rattle.std.proofs.KnownBytes.{Appends-nil, Appends-trans, Appends-kept}

-- it grew by some prefix of `bytes`: by all, a part or none of them
pub record AppendsPrefix (old now : Option (List ℕ)) (bytes : List ℕ) : Type 0 where
  pub prefix : List ℕ
  pub rest : List ℕ
  pub split : prefix ++ rest ≡ bytes
  pub grown : Appends old now prefix

-- it grew by all of `bytes` but `left`, which stands at their end
pub record Written (old now : Option (List ℕ)) (bytes left : List ℕ) : Type 0 where
  pub done : List ℕ
  pub split : done ++ left ≡ bytes
  pub grown : Appends old now done

-- Laws of these, for a caller that writes many pieces.

-- nothing is written at first
pub none_written : (old : Option (List ℕ)) (bytes : List ℕ) → Written old old bytes bytes
none_written old bytes = record { done = []; split = refl; grown = Appends-nil old }

-- one piece more of what was left
pub more_written : (old now next : Option (List ℕ)) (bytes left piece after : List ℕ) → Written old now bytes left
    → left ≡ piece ++ after
    → Appends now next piece → Written old next bytes after
more_written old now next bytes left piece after so_far is more = record {
  done = so_far.done ++ piece;
  split = append_assoc so_far.done piece after ∙ ap (λ (l : List ℕ). so_far.done ++ l) (sym is) ∙ so_far.split;
  grown = Appends-trans old now next so_far.done piece so_far.grown more;
}

-- a prefix of one piece more, and then no more
pub prefix_written : (old now next : Option (List ℕ)) (bytes left piece after : List ℕ) → Written old now bytes left
    → left ≡ piece ++ after
    → AppendsPrefix now next piece → AppendsPrefix old next bytes
prefix_written old now next bytes left piece after so_far is more = record {
  prefix = so_far.done ++ more.prefix;
  rest = more.rest ++ after;
  split = append_assoc so_far.done more.prefix (more.rest ++ after)
      ∙ ap (λ (l : List ℕ). so_far.done ++ l)
      (sym (append_assoc more.prefix more.rest after) ∙ ap (λ (l : List ℕ). l ++ after) more.split ∙ sym is)
      ∙ so_far.split;
  grown = Appends-trans old now next so_far.done more.prefix so_far.grown more.grown;
}

-- what is written so far is a prefix
pub written_prefix : (old now : Option (List ℕ)) (bytes left : List ℕ) → Written old now bytes left → AppendsPrefix old now bytes
written_prefix old now bytes left so_far =
    record { prefix = so_far.done; rest = left; split = so_far.split; grown = so_far.grown }

-- nothing is left
pub all_written : (old now : Option (List ℕ)) (bytes left : List ℕ) → Written old now bytes left → left ≡ []
    → Appends old now bytes
all_written old now bytes left so_far none =
    let whole : so_far.done ≡ bytes =
    sym (append-nil so_far.done)
    ∙ ap (λ (l : List ℕ). so_far.done ++ l) (sym none)
    ∙ so_far.split in
    subst (λ (l : List ℕ). Appends old now l) whole so_far.grown

-- the same for bytes that are not all known yet: what stands whole so far, and what comes
pub Appends-written : (old now : Option (List ℕ)) (bytes left : List ℕ) → Appends old now bytes
    → Written old now (bytes ++ left) left
Appends-written old now bytes left grown = record { done = bytes; split = refl; grown = grown }

pub Appends-prefix : (old now next : Option (List ℕ)) (bytes piece : List ℕ) → Appends old now bytes
    → AppendsPrefix now next piece
    → AppendsPrefix old next (bytes ++ piece)
Appends-prefix old now next bytes piece grown more = record {
  prefix = bytes ++ more.prefix;
  rest = more.rest;
  split = append_assoc bytes more.prefix more.rest ∙ ap (λ (l : List ℕ). bytes ++ l) more.split;
  grown = Appends-trans old now next bytes more.prefix grown more.grown;
}

-- a prefix of bytes is a prefix of more bytes
pub AppendsPrefix-more : (old now : Option (List ℕ)) (bytes more : List ℕ) → AppendsPrefix old now bytes
    → AppendsPrefix old now (bytes ++ more)
AppendsPrefix-more old now bytes more part = record {
  prefix = part.prefix;
  rest = part.rest ++ more;
  split = sym (append_assoc part.prefix part.rest more) ∙ ap (λ (l : List ℕ). l ++ more) part.split;
  grown = part.grown;
}

-- all of them is a prefix of them
pub Appends-is_prefix : (old now : Option (List ℕ)) (bytes : List ℕ) → Appends old now bytes → AppendsPrefix old now bytes
Appends-is_prefix old now bytes grown = record { prefix = bytes; rest = []; split = append-nil bytes; grown = grown }

-- none of them is a prefix of them
pub none_prefix : (old : Option (List ℕ)) (bytes : List ℕ) → AppendsPrefix old old bytes
none_prefix old bytes = record { prefix = []; rest = bytes; split = refl; grown = Appends-nil old }

-- what was a prefix still is one after a call that took nothing
pub AppendsPrefix-kept : (old now next : Option (List ℕ)) (bytes : List ℕ) → AppendsPrefix old now bytes → Keeps now next
    → AppendsPrefix old next bytes
AppendsPrefix-kept old now next bytes part same = record {
  prefix = part.prefix;
  rest = part.rest;
  split = part.split;
  grown = Appends-kept old now next part.prefix part.grown same;
}
