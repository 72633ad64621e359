-- A hook part without a fault is names that are joined by dots, and every such text is without a fault.
use Rattle.std.proofs.Common.{◌≡◌, ℕ, ◌+◌, ◌<◌, ◌≤◌, suc, false, eqb, ◌⊎◌, List, [], ◌∷◌, ◌++◌, length, filter, Some, None, refl, sym, ap, subst, ◌∙◌, append_assoc, append-nil, arith, inl, inr}
use Rattle.std.specs.List.{onto_first, join_with_byte, AllByRecursion}
use Rattle.std.proofs.lemmas.Bool.{cases_Bool, eqb-true}
use Rattle.std.proofs.lemmas.List.Splits.{slice_split-cons_yes, slice_split-cons_no, join_with_byte-slice_split}
use Rattle.ng_base.specs.Name.{IsName}
use Rattle.ng_path.specs.declared.fault.PathFault.{PathFault}
use Rattle.ng_path.specs.declared.fault.PathFault.TheVariants.{TwoDots, BadName}
use Rattle.ng_path.specs.Segments.{cut_at, has_bytes, hook_names, AreNames, AreNamesJoined}
use Rattle.ng_path.specs.Grammar.{IsDotOrNothing, IsHookText}
use Rattle.ng_path.specs.Faults.{dotted_length, IsHookFault, fault_rank}
use Rattle.ng_path.proofs.Cuts.{cut_free, cut_front, cut_some}
use Rattle.ng_path.proofs.Names.{name_free, bad, good_empty, good_name, good_is}
use Rattle.ng_base.proofs.NameLemmas.{no_empty_name}
use Rattle.ng_path.proofs.Walks.{dotted-cons, opens_empty, first_fault, TwoAt, BadAt, IsPartFault, to_parts, first_precedes}

-- ---- names pass, and what passes is names

pub opens_names : (parts : List (List ℕ)) → AreNames parts → opens_empty parts ≡ false
opens_names [] h = refl
opens_names ([] ∷ []) h = refl
opens_names ([] ∷ (last ∷ more)) (inl named, rest) = absurd (no_empty_name named)
opens_names ([] ∷ (last ∷ more)) (inr (e, none), rest) = absurd (cc none)
opens_names ((b ∷ part) ∷ parts) h = refl

good_part : (part : List ℕ) (others : List (List ℕ)) → IsName part ⊎ ((part ≡ []) × (others ≡ [])) → bad part ≡ false
good_part part others (inl named) = good_name part named
good_part part others (inr (e, none)) = ap bad e ∙ good_empty

pub names_pass : (place : ℕ) (parts : List (List ℕ)) → AreNames parts → first_fault place parts ≡ None
names_pass place [] h = refl
names_pass place (part ∷ parts) h = rw (good_part part parts h.0, opens_names parts h.1) (names_pass (place + length part + 1) parts h.1)

pub record Passes (place : ℕ) (part : List ℕ) (parts : List (List ℕ)) : Type 0 where
  pub good : bad part ≡ false
  pub one : opens_empty parts ≡ false
  pub later : first_fault (place + length part + 1) parts ≡ None

passes : (place : ℕ) (part : List ℕ) (parts : List (List ℕ)) → first_fault place (part ∷ parts) ≡ None → Passes place part parts
passes place part parts h = elim (cases_Bool (bad part)) [
  | inl hit ↦ let told : Some (BadName place) ≡ None = rw hit at h in absurd (cc told)
  | inr good ↦ elim (cases_Bool (opens_empty parts)) [
    | inl hit ↦ let told : Some (TwoDots (place + length part)) ≡ None = rw (good, hit) at h in absurd (cc told)
    | inr one ↦ let later : first_fault (place + length part + 1) parts ≡ None = rw (good, one) at h in record { good = good; one = one; later = later }
  ]
]

last_empty : (part : List ℕ) (parts : List (List ℕ)) → part ≡ [] → opens_empty (part ∷ parts) ≡ false → parts ≡ []
last_empty [] [] e o = refl
last_empty [] (next ∷ parts) e o = absurd (cc o)
last_empty (b ∷ part) parts e o = absurd (cc e)

part_kind : (part : List ℕ) (parts : List (List ℕ)) → opens_empty (part ∷ parts) ≡ false
    → (part ≡ []) ⊎ IsName part → IsName part ⊎ ((part ≡ []) × (parts ≡ []))
part_kind part parts o (inl e) = inr (e, last_empty part parts e o)
part_kind part parts o (inr named) = inl named

pub pass_names : (place : ℕ) (parts : List (List ℕ)) → opens_empty parts ≡ false → first_fault place parts ≡ None → AreNames parts
pass_names place [] o h = tt
pass_names place (part ∷ parts) o h =
    let pass = passes place part parts h in
    (part_kind part parts o (good_is part pass.good), pass_names (place + length part + 1) parts pass.one pass.later)

-- ---- names are written with dots between them

-- names with dots between them, and perhaps one behind
pub record IsWritten (text : List ℕ) (hooks : List (List ℕ)) : Type 0 where
  pub back : List ℕ
  pub names : AllByRecursion IsName hooks
  pub trailing : IsDotOrNothing back
  pub lone : hooks ≡ [] → back ≡ []
  pub whole : text ≡ join_with_byte 0x2e hooks ++ back

no_names : IsWritten [] []
no_names = record { back = []; names = tt; trailing = inl refl; lone = λ e. refl; whole = refl }

plain : (text : List ℕ) (hooks : List (List ℕ)) → IsWritten text hooks → IsHookText text hooks
plain text hooks w = record { front = []; back = w.back; names = w.names; leading = inl refl; trailing = w.trailing; lone = w.lone; whole = w.whole }

pub empty_text : IsHookText [] []
empty_text = plain [] [] no_names

behind_dot : (text : List ℕ) (hooks : List (List ℕ)) → IsWritten text hooks → IsHookText (0x2e ∷ text) hooks
behind_dot text hooks w = record { front = 0x2e ∷ []; back = w.back; names = w.names; leading = inr refl; trailing = w.trailing; lone = w.lone; whole = ap (λ (l : List ℕ). 0x2e ∷ l) w.whole }

in_front : (name rest : List ℕ) (hooks : List (List ℕ)) → IsName name → IsWritten rest hooks → IsWritten (name ++ 0x2e ∷ rest) (name ∷ hooks)
in_front name rest [] named w =
    let none : rest ≡ [] = w.whole ∙ w.lone refl in
    record { back = 0x2e ∷ []; names = (named, tt); trailing = inr refl; lone = λ e. absurd (cc e); whole = ap (λ (l : List ℕ). name ++ 0x2e ∷ l) none }
in_front name rest (next ∷ hooks) named w =
    record {
      back = w.back;
      names = (named, w.names);
      trailing = w.trailing;
      lone = λ e. absurd (cc e);
      whole = ap (λ (l : List ℕ). name ++ 0x2e ∷ l) w.whole ∙ sym (append_assoc name (0x2e ∷ join_with_byte 0x2e (next ∷ hooks)) w.back);
    }

alone : (name : List ℕ) → IsName name → IsWritten name (name ∷ [])
alone name named = record { back = []; names = (named, tt); trailing = inl refl; lone = λ e. absurd (cc e); whole = sym (append-nil name) }

written : (parts : List (List ℕ)) → AreNames parts → IsWritten (join_with_byte 0x2e parts) (filter has_bytes parts)
written [] h = no_names
written ([] ∷ parts) (inl named, rest) = absurd (no_empty_name named)
written ([] ∷ []) (inr none, rest) = no_names
written ([] ∷ (next ∷ parts)) (inr none, rest) = absurd (cc (none.1))
written ((b ∷ part) ∷ parts) (inr none, rest) = absurd (cc (none.0))
written ((b ∷ part) ∷ []) (inl named, rest) = alone (b ∷ part) named
written ((b ∷ part) ∷ (next ∷ parts)) (inl named, rest) = in_front (b ∷ part) (join_with_byte 0x2e (next ∷ parts)) _ named (written (next ∷ parts) rest)

walk_of : (place : ℕ) (parts : List (List ℕ)) → first_fault place parts ≡ None → IsHookText (join_with_byte 0x2e parts) (filter has_bytes parts)
walk_of place [] h = plain [] [] no_names
walk_of place ([] ∷ []) h = plain [] [] no_names
walk_of place ([] ∷ (next ∷ parts)) h =
    let pass = passes place [] (next ∷ parts) h in
    behind_dot (join_with_byte 0x2e (next ∷ parts)) _ (written (next ∷ parts) (pass_names (place + 0 + 1) (next ∷ parts) pass.one pass.later))
walk_of place ((b ∷ part) ∷ parts) h = plain _ _ (written ((b ∷ part) ∷ parts) (pass_names place ((b ∷ part) ∷ parts) refl h))

pub hook_text_of : (place : ℕ) (text : List ℕ) → first_fault place (cut_at 0x2e text) ≡ None → IsHookText text (hook_names text)
hook_text_of place text h =
    subst (λ (l : List ℕ). IsHookText l (hook_names text)) (join_with_byte-slice_split 0x2e text) (walk_of place (cut_at 0x2e text) h)

-- ---- what is written is cut into the same names

pub record IsCutInto (text : List ℕ) (hooks : List (List ℕ)) : Type 0 where
  pub names : AreNames (cut_at 0x2e text)
  pub same : hook_names text ≡ hooks

some_named : (name : List ℕ) (parts : List (List ℕ)) → IsName name → filter has_bytes (name ∷ parts) ≡ name ∷ filter has_bytes parts
some_named [] parts named = absurd (no_empty_name named)
some_named (b ∷ name) parts named = refl

into : (text : List ℕ) (parts hooks : List (List ℕ)) → cut_at 0x2e text ≡ parts → AreNames parts → filter has_bytes parts ≡ hooks → IsCutInto text hooks
into text parts hooks e names same = record {
  names = subst (λ (l : List (List ℕ)). AreNames l) (sym e) names;
  same = ap (λ (l : List (List ℕ)). filter has_bytes l) e ∙ same;
}

cut_written : (hooks : List (List ℕ)) (back : List ℕ) → AllByRecursion IsName hooks → IsDotOrNothing back
    → (hooks ≡ [] → back ≡ []) → IsCutInto (join_with_byte 0x2e hooks ++ back) hooks
cut_written [] back names trailing lone =
    into back ([] ∷ []) [] (ap (λ (l : List ℕ). cut_at 0x2e l) (lone refl)) (inr (refl, refl), tt) refl
cut_written (name ∷ []) back names (inl e) lone =
    into (name ++ back) (name ∷ []) (name ∷ []) (ap (λ (l : List ℕ). cut_at 0x2e l) (ap (λ (l : List ℕ). name ++ l) e ∙ append-nil name) ∙ cut_free 0x2e name (name_free name names.0).0)
    (inl names.0, tt) (some_named name [] names.0)
cut_written (name ∷ []) back names (inr e) lone =
    into (name ++ back) (name ∷ ([] ∷ [])) (name ∷ []) (ap (λ (l : List ℕ). cut_at 0x2e (name ++ l)) e ∙ cut_front 0x2e name [] refl (name_free name names.0).0)
    (inl names.0, (inr (refl, refl), tt)) (some_named name ([] ∷ []) names.0)
cut_written (name ∷ (next ∷ hooks)) back names trailing lone =
    let rest = cut_written (next ∷ hooks) back names.1 trailing (λ e. absurd (cc e)) in
    let tail : List ℕ = join_with_byte 0x2e (next ∷ hooks) ++ back in
    into _ (name ∷ cut_at 0x2e tail) (name ∷ (next ∷ hooks))
    (ap (λ (l : List ℕ). cut_at 0x2e l) (append_assoc name (0x2e ∷ join_with_byte 0x2e (next ∷ hooks)) back) ∙ cut_front 0x2e name tail refl (name_free name names.0).0)
    (inl names.0, rest.names) (some_named name (cut_at 0x2e tail) names.0 ∙ ap (λ (l : List (List ℕ)). name ∷ l) rest.same)

-- the text of hooks has no fault, and its names are they
pub record Reads (place : ℕ) (text : List ℕ) (hooks : List (List ℕ)) : Type 0 where
  pub clean : first_fault place (cut_at 0x2e text) ≡ None
  pub same : hook_names text ≡ hooks

reads_plain : (place : ℕ) (text : List ℕ) (hooks : List (List ℕ)) → IsCutInto text hooks → Reads place text hooks
reads_plain place text hooks h = record { clean = names_pass place (cut_at 0x2e text) h.names; same = h.same }

reads_dotted : (place : ℕ) (text : List ℕ) (hooks : List (List ℕ)) → IsCutInto text hooks → Reads place (0x2e ∷ text) hooks
reads_dotted place text hooks h = record {
  clean = rw (good_empty, opens_names (cut_at 0x2e text) h.names) (names_pass (place + 0 + 1) (cut_at 0x2e text) h.names);
  same = h.same;
}

reads_from : (place : ℕ) (front core text : List ℕ) (hooks : List (List ℕ)) → text ≡ front ++ core
    → IsDotOrNothing front → IsCutInto core hooks → Reads place text hooks
reads_from place front core text hooks e (inl none) h =
    subst (λ (l : List ℕ). Reads place l hooks) (sym (e ∙ ap (λ (l : List ℕ). l ++ core) none)) (reads_plain place core hooks h)
reads_from place front core text hooks e (inr dot) h =
    subst (λ (l : List ℕ). Reads place l hooks) (sym (e ∙ ap (λ (l : List ℕ). l ++ core) dot)) (reads_dotted place core hooks h)

pub reads : (place : ℕ) (text : List ℕ) (hooks : List (List ℕ)) → IsHookText text hooks → Reads place text hooks
reads place text hooks h =
    reads_from place h.front (join_with_byte 0x2e hooks ++ h.back) text hooks h.whole h.leading (cut_written hooks h.back h.names h.trailing h.lone)

pub no_hook_fault : (place : ℕ) (text : List ℕ) (hooks : List (List ℕ)) (fault : PathFault) → IsHookText text hooks → IsHookFault place text fault → ⊥
no_hook_fault place text hooks fault h wrong =
    let found = first_precedes place (cut_at 0x2e text) fault (to_parts place text fault wrong) in
    let told : Some found.0 ≡ None = sym found.1 ∙ (reads place text hooks h).clean in
    cc told

-- ---- without its leading dot a hook part is names, but that the last may be empty

pub joined_dotted : (rest : List ℕ) (hooks : List (List ℕ)) → IsHookText (0x2e ∷ rest) hooks → AreNamesJoined rest
joined_dotted rest hooks h =
    let pass = passes 0 [] (cut_at 0x2e rest) (reads 0 (0x2e ∷ rest) hooks h).clean in
    pass_names (0 + 0 + 1) (cut_at 0x2e rest) pass.one pass.later

opens_onto : (b : ℕ) (parts : List (List ℕ)) → opens_empty (onto_first b parts) ≡ false
opens_onto b [] = refl
opens_onto b (part ∷ parts) = refl

pub opens_undotted : (text : List ℕ) → ((rest : List ℕ) → text ≡ 0x2e ∷ rest → ⊥) → opens_empty (cut_at 0x2e text) ≡ false
opens_undotted [] h = refl
opens_undotted (b ∷ text) h = elim (cases_Bool (eqb b 0x2e)) [
  | inl hit ↦ absurd (h text (ap (λ (x : ℕ). x ∷ text) (eqb-true b 0x2e hit)))
  | inr miss ↦ ap (λ (l : List (List ℕ)). opens_empty l) (slice_split-cons_no (λ b. eqb b 0x2e) b text miss) ∙ opens_onto b (cut_at 0x2e text)
]

pub joined_undotted : (text : List ℕ) (hooks : List (List ℕ)) → ((rest : List ℕ) → text ≡ 0x2e ∷ rest → ⊥) → IsHookText text hooks → AreNamesJoined text
joined_undotted text hooks undotted h = pass_names 0 (cut_at 0x2e text) (opens_undotted text undotted) (reads 0 text hooks h).clean

-- ---- a fault of a hook part stands inside of it

dotted-onto : (b : ℕ) (part : List ℕ) (parts : List (List ℕ)) → dotted_length ((b ∷ part) ∷ parts) ≡ suc (dotted_length (part ∷ parts))
dotted-onto b part parts = let long = dotted-cons (b ∷ part) parts in let short = dotted-cons part parts in omega arith

dotted-cut : (text : List ℕ) → dotted_length (cut_at 0x2e text) ≡ suc (length text)
dotted-cut [] = refl
dotted-cut (b ∷ text) = elim (cases_Bool (eqb b 0x2e)) [
  | inl hit ↦ ap (λ (l : List (List ℕ)). dotted_length l) (slice_split-cons_yes (λ b. eqb b 0x2e) b text hit) ∙ dotted-cons [] (cut_at 0x2e text) ∙ (let rest = dotted-cut text in omega arith)
  | inr miss ↦ let some = cut_some 0x2e text in
      ap (λ (l : List (List ℕ)). dotted_length l) (slice_split-cons_no (λ b. eqb b 0x2e) b text miss ∙ ap (λ (l : List (List ℕ)). onto_first b l) some.2)
      ∙ dotted-onto b some.0 some.1 ∙ ap suc (ap (λ (l : List (List ℕ)). dotted_length l) (sym some.2) ∙ dotted-cut text)
]

two_within : (parts : List (List ℕ)) (n : ℕ) → TwoAt parts n → n + 2 ≤ dotted_length parts
two_within [] n h = absurd h
two_within (part ∷ []) n (inl (o, at)) = absurd (cc o)
two_within (part ∷ (next ∷ parts)) n (inl (o, at)) = let one = dotted-cons part (next ∷ parts) in let two = dotted-cons next parts in omega arith
two_within (part ∷ parts) n (inr (m, at, later)) = let one = dotted-cons part parts in let rest = two_within parts m later in omega arith

bad_within : (parts : List (List ℕ)) (n : ℕ) → BadAt parts n → n + 2 ≤ dotted_length parts
bad_within [] n h = absurd h
bad_within ([] ∷ parts) n (inl (h, at)) = absurd (h.0 refl)
bad_within ((b ∷ part) ∷ parts) n (inl (h, at)) = let one = dotted-cons (b ∷ part) parts in omega arith
bad_within (part ∷ parts) n (inr (m, at, later)) = let one = dotted-cons part parts in let rest = bad_within parts m later in omega arith

-- it has a place in the text
pub record IsWithin (place size : ℕ) (fault : PathFault) : Type 0 where
  pub low : place + 2 ≤ fault_rank fault
  pub high : fault_rank fault < place + size + 2

part_fault_within : (place : ℕ) (text : List ℕ) (fault : PathFault) → IsPartFault place (cut_at 0x2e text) fault → IsWithin place (length text) fault
part_fault_within place text fault (inl (n, e, h)) =
    let rank = ap fault_rank e in let size = dotted-cut text in let room = bad_within (cut_at 0x2e text) n h in record { low = omega arith; high = omega arith }
part_fault_within place text fault (inr (n, e, h)) =
    let rank = ap fault_rank e in let size = dotted-cut text in let room = two_within (cut_at 0x2e text) n h in record { low = omega arith; high = omega arith }

pub hook_fault_within : (place : ℕ) (text : List ℕ) (fault : PathFault) → IsHookFault place text fault → IsWithin place (length text) fault
hook_fault_within place text fault h = part_fault_within place text fault (to_parts place text fault h)
