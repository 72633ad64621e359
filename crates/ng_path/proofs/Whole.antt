-- Addresses from their parts: one reading, no fault beside it, and which fault is the first.
use Rattle.std.proofs.Common.{◌≡◌, ◌≢◌, ℕ, ◌+◌, ◌<◌, ◌≤◌, ◌⊎◌, List, [], ◌∷◌, ◌++◌, length, Result, Ok, Err, MatchResult, IsOkAnd, refl, sym, ap, subst, ◌∙◌, length-append, arith, inl, inr}
use Rattle.std.specs.List.{AllByRecursion, join_with_byte}
use Rattle.ng_base.specs.Name.{IsName}
use Rattle.ng_path.specs.declared.fault.PathFault.{PathFault}
use Rattle.ng_path.specs.declared.fault.PathFault.TheVariants.{TooLong, EmptyNode, SecondColon, TwoDots, BadName}
use Rattle.ng_path.specs.declared.path.Head.{Head}
use Rattle.ng_path.specs.declared.path.Path.{Path}
use Rattle.ng_path.specs.Segments.{cut_at, hook_names}
use Rattle.ng_path.specs.Grammar.{IsDotOrNothing, IsNodeText, IsHookText, IsFromNode, IsFromHere, IsPath}
use Rattle.ng_path.specs.Faults.{IsNodeFault, IsHookFault, IsFaultOfSegments, HasFault, fault_rank, IsFirstOf, IsFirstFault}
use Rattle.ng_path.proofs.Cuts.{IsFree, free_append, cut_free, cut_front}
use Rattle.ng_path.proofs.Names.{name_free}
use Rattle.ng_path.proofs.Joined.{reads, no_hook_fault, empty_text, hook_fault_within}
use Rattle.ng_path.proofs.Walks.{Precedes}
use Rattle.ng_path.proofs.Nodes.{one_head, node_free, no_node_fault}

-- ---- the parts of an address

join_free : (hooks : List (List ℕ)) → AllByRecursion IsName hooks → IsFree 0x3a (join_with_byte 0x2e hooks)
join_free [] h = tt
join_free (name ∷ []) h = (name_free name h.0).1
join_free (name ∷ (next ∷ hooks)) h =
    free_append 0x3a name (0x2e ∷ join_with_byte 0x2e (next ∷ hooks)) (name_free name h.0).1 (refl, join_free (next ∷ hooks) h.1)

dot_free : (text : List ℕ) → IsDotOrNothing text → IsFree 0x3a text
dot_free text (inl e) = subst (λ (l : List ℕ). IsFree 0x3a l) (sym e) tt
dot_free text (inr e) = subst (λ (l : List ℕ). IsFree 0x3a l) (sym e) (refl, tt)

pub walk_free : (text : List ℕ) (hooks : List (List ℕ)) → IsHookText text hooks → IsFree 0x3a text
walk_free text hooks h =
    subst (λ (l : List ℕ). IsFree 0x3a l) (sym h.whole)
    (free_append 0x3a h.front (join_with_byte 0x2e hooks ++ h.back) (dot_free h.front h.leading)
    (free_append 0x3a (join_with_byte 0x2e hooks) h.back (join_free hooks h.names) (dot_free h.back h.trailing)))

node_parts : (bytes : List ℕ) (head : Head) (hooks : List (List ℕ)) (h : IsFromNode bytes head hooks) → cut_at 0x3a bytes ≡ h.node ∷ (h.walk ∷ [])
node_parts bytes head hooks h =
    ap (λ (l : List ℕ). cut_at 0x3a l) h.whole ∙ cut_front 0x3a h.node h.walk refl (node_free h.node head h.node_text)
    ∙ ap (λ (l : List (List ℕ)). h.node ∷ l) (cut_free 0x3a h.walk (walk_free h.walk hooks h.hook_text))

here_parts : (bytes : List ℕ) (head : Head) (hooks : List (List ℕ)) → IsFromHere bytes head hooks → cut_at 0x3a bytes ≡ bytes ∷ []
here_parts bytes head hooks h = cut_free 0x3a bytes (walk_free bytes hooks h.hook_text)

-- ---- one reading

one_walk : (text other : List ℕ) (xs ys : List (List ℕ)) → text ≡ other → IsHookText text xs → IsHookText other ys → xs ≡ ys
one_walk text other xs ys e hx hy = sym (reads 0 text xs hx).same ∙ ap (λ (l : List ℕ). hook_names l) e ∙ (reads 0 other ys hy).same

one_form : (bytes : List ℕ) (a b : Head) (xs ys : List (List ℕ))
    → IsFromNode bytes a xs ⊎ IsFromHere bytes a xs → IsFromNode bytes b ys ⊎ IsFromHere bytes b ys
    → (a ≡ b) × (xs ≡ ys)
one_form bytes a b xs ys (inl h) (inl k) =
    let parts : h.node ∷ (h.walk ∷ []) ≡ k.node ∷ (k.walk ∷ []) = sym (node_parts bytes a xs h) ∙ node_parts bytes b ys k in
    let nodes : h.node ≡ k.node = cc parts in
    let walks : h.walk ≡ k.walk = cc parts in
    (one_head k.node a b (subst (λ (l : List ℕ). IsNodeText l a) nodes h.node_text) k.node_text, one_walk h.walk k.walk xs ys walks h.hook_text k.hook_text)
one_form bytes a b xs ys (inl h) (inr k) =
    let parts : h.node ∷ (h.walk ∷ []) ≡ bytes ∷ [] = sym (node_parts bytes a xs h) ∙ here_parts bytes b ys k in absurd (cc parts)
one_form bytes a b xs ys (inr h) (inl k) =
    let parts : bytes ∷ [] ≡ k.node ∷ (k.walk ∷ []) = sym (here_parts bytes a xs h) ∙ node_parts bytes b ys k in absurd (cc parts)
one_form bytes a b xs ys (inr h) (inr k) = (h.here ∙ sym k.here, one_walk bytes bytes xs ys refl h.hook_text k.hook_text)

pub same_path : (bytes : List ℕ) (a b : Head) (xs ys : List (List ℕ)) → IsPath bytes a xs → IsPath bytes b ys → (a ≡ b) × (xs ≡ ys)
same_path bytes a b xs ys h k = one_form bytes a b xs ys h.form k.form

-- ---- no fault beside it

no_fault_from_node : (node walk : List ℕ) (head : Head) (hooks : List (List ℕ)) (fault : PathFault)
    → IsNodeText node head → IsHookText walk hooks → IsFaultOfSegments (node ∷ (walk ∷ [])) fault → ⊥
no_fault_from_node node walk head hooks fault hn hw (inl wrong) = no_node_fault node head fault hn wrong
no_fault_from_node node walk head hooks fault hn hw (inr wrong) = no_hook_fault (length node + 1) walk hooks fault hw wrong

no_fault_from_here : (bytes : List ℕ) (hooks : List (List ℕ)) (fault : PathFault) → bytes ≢ []
    → IsHookText bytes hooks → IsFaultOfSegments (bytes ∷ []) fault → ⊥
no_fault_from_here bytes hooks fault some h (inl (none, e)) = some none
no_fault_from_here bytes hooks fault some h (inr wrong) = no_hook_fault 0 bytes hooks fault h wrong

no_form_fault : (bytes : List ℕ) (head : Head) (hooks : List (List ℕ)) (fault : PathFault)
    → IsFromNode bytes head hooks ⊎ IsFromHere bytes head hooks → IsFaultOfSegments (cut_at 0x3a bytes) fault
    → ⊥
no_form_fault bytes head hooks fault (inl h) wrong =
    no_fault_from_node h.node h.walk head hooks fault h.node_text h.hook_text
    (subst (λ (l : List (List ℕ)). IsFaultOfSegments l fault) (node_parts bytes head hooks h) wrong)
no_form_fault bytes head hooks fault (inr h) wrong =
    no_fault_from_here bytes hooks fault h.some h.hook_text (subst (λ (l : List (List ℕ)). IsFaultOfSegments l fault) (here_parts bytes head hooks h) wrong)

fault_of_parts : (bytes : List ℕ) (fault : PathFault) → length bytes ≤ 511 → HasFault bytes fault → IsFaultOfSegments (cut_at 0x3a bytes) fault
fault_of_parts bytes fault short (inl (long, e)) = absurd (omega arith)
fault_of_parts bytes fault short (inr wrong) = wrong

pub no_path_fault : (bytes : List ℕ) (head : Head) (hooks : List (List ℕ)) (fault : PathFault) → IsPath bytes head hooks → HasFault bytes fault → ⊥
no_path_fault bytes head hooks fault h wrong = no_form_fault bytes head hooks fault h.form (fault_of_parts bytes fault h.short wrong)

-- ---- the first fault

rank_low : (fault : PathFault) → (fault ≡ TooLong) ⊎ (0 < fault_rank fault)
rank_low TooLong = inl refl
rank_low EmptyNode = inr (omega arith)
rank_low (SecondColon place) = inr (omega arith)
rank_low (TwoDots place) = inr (omega arith)
rank_low (BadName place) = inr (omega arith)

pub first_long : (bytes : List ℕ) → 511 < length bytes → IsFirstFault bytes TooLong
first_long bytes long = record { there = inl (long, refl); first = λ other h. rank_low other }

pub first_in_parts : (bytes : List ℕ) (parts : List (List ℕ)) (fault : PathFault) → length bytes ≤ 511
    → cut_at 0x3a bytes ≡ parts → IsFirstOf (IsFaultOfSegments parts) fault → IsFirstFault bytes fault
first_in_parts bytes parts fault short e h = record {
  there = inr (subst (λ (l : List (List ℕ)). IsFaultOfSegments l fault) (sym e) h.there);
  first = λ other wrong. h.first other (subst (λ (l : List (List ℕ)). IsFaultOfSegments l other) e (fault_of_parts bytes other short wrong));
}

pub short_whole : (node behind : List ℕ) → length node + length behind < 511 → length (node ++ 0x3a ∷ behind) ≤ 511
short_whole node behind short = let size = length-append node (0x3a ∷ behind) in omega arith

before_empty : (other : PathFault) → IsFaultOfSegments ([] ∷ []) other → Precedes (BadName 0) other
before_empty other (inl (none, e)) = inl e
before_empty other (inr wrong) = absurd (no_hook_fault 0 [] [] other empty_text wrong)

pub first_empty : IsFirstOf (IsFaultOfSegments ([] ∷ [])) (BadName 0)
first_empty = record { there = inl (refl, refl); first = before_empty }

before_local : (bytes : List ℕ) (fault other : PathFault) → bytes ≢ [] → IsFirstOf (IsHookFault 0 bytes) fault
    → IsFaultOfSegments (bytes ∷ []) other → Precedes fault other
before_local bytes fault other some h (inl (none, e)) = absurd (some none)
before_local bytes fault other some h (inr wrong) = h.first other wrong

pub first_local : (bytes : List ℕ) (fault : PathFault) → bytes ≢ [] → IsFirstOf (IsHookFault 0 bytes) fault
    → IsFirstOf (IsFaultOfSegments (bytes ∷ [])) fault
first_local bytes fault some h = record { there = inr h.there; first = λ other wrong. before_local bytes fault other some h wrong }

-- a fault is of the node part, of the hook part, or a second colon
data IsOneOf (node text : List ℕ) (others : List (List ℕ)) (fault : PathFault) : Type 0 where
  of_node : IsNodeFault node fault → IsOneOf node text others fault
  of_hooks : IsHookFault (length node + 1) text fault → IsOneOf node text others fault
  of_colon : fault ≡ SecondColon (length node + 1 + length text) → IsOneOf node text others fault

one_of : (node text : List ℕ) (others : List (List ℕ)) (fault : PathFault)
    → IsFaultOfSegments (node ∷ (text ∷ others)) fault → IsOneOf node text others fault
one_of node text [] fault (inl h) = of_node h
one_of node text [] fault (inr h) = of_hooks h
one_of node text (next ∷ others) fault (inl (inl h)) = of_node h
one_of node text (next ∷ others) fault (inl (inr h)) = of_hooks h
one_of node text (next ∷ others) fault (inr h) = of_colon h

from_node_fault : (node text : List ℕ) (others : List (List ℕ)) (fault : PathFault) → IsNodeFault node fault
    → IsFaultOfSegments (node ∷ (text ∷ others)) fault
from_node_fault node text [] fault h = inl h
from_node_fault node text (next ∷ others) fault h = inl (inl h)

from_hook_fault : (node text : List ℕ) (others : List (List ℕ)) (fault : PathFault)
    → IsHookFault (length node + 1) text fault → IsFaultOfSegments (node ∷ (text ∷ others)) fault
from_hook_fault node text [] fault h = inr h
from_hook_fault node text (next ∷ others) fault h = inl (inr h)

before_node_empty : (node text : List ℕ) (others : List (List ℕ)) (other : PathFault) → IsOneOf node text others other → Precedes EmptyNode other
before_node_empty node text others TooLong (of_node h) = absurd h
before_node_empty node text others EmptyNode (of_node h) = inl refl
before_node_empty node text others (SecondColon place) (of_node h) = absurd h
before_node_empty node text others (TwoDots place) (of_node h) = absurd h
before_node_empty node text others (BadName place) (of_node h) = inr (omega arith)
before_node_empty node text others other (of_hooks h) = let within = hook_fault_within (length node + 1) text other h in inr (let low = within.low in omega arith)
before_node_empty node text others other (of_colon e) = let rank = ap fault_rank e in inr (omega arith)

pub first_node_empty : (text : List ℕ) (others : List (List ℕ)) → IsFirstOf (IsFaultOfSegments ([] ∷ (text ∷ others))) EmptyNode
first_node_empty text others = record {
  there = from_node_fault [] text others EmptyNode refl;
  first = λ other h. before_node_empty [] text others other (one_of [] text others other h);
}

before_node_bad : (node text : List ℕ) (others : List (List ℕ)) (other : PathFault) → node ≢ []
    → IsOneOf node text others other → Precedes (BadName 0) other
before_node_bad node text others TooLong some (of_node h) = absurd h
before_node_bad node text others EmptyNode some (of_node h) = absurd (some h)
before_node_bad node text others (SecondColon place) some (of_node h) = absurd h
before_node_bad node text others (TwoDots place) some (of_node h) = absurd h
before_node_bad node text others (BadName place) some (of_node h) = inl (ap (λ (n : ℕ). BadName n) h.0)
before_node_bad node text others other some (of_hooks h) = let within = hook_fault_within (length node + 1) text other h in inr (let low = within.low in omega arith)
before_node_bad node text others other some (of_colon e) = let rank = ap fault_rank e in inr (omega arith)

pub first_node_bad : (node text : List ℕ) (others : List (List ℕ)) → node ≢ []
    → ((head : Head) → IsNodeText node head → ⊥)
    → IsFirstOf (IsFaultOfSegments (node ∷ (text ∷ others))) (BadName 0)
first_node_bad node text others some none = record {
  there = from_node_fault node text others (BadName 0) (refl, none);
  first = λ other h. before_node_bad node text others other some (one_of node text others other h);
}

before_hooks : (node text : List ℕ) (others : List (List ℕ)) (head : Head) (fault other : PathFault)
    → IsNodeText node head → IsFirstOf (IsHookFault (length node + 1) text) fault
    → IsOneOf node text others other → Precedes fault other
before_hooks node text others head fault other hn h (of_node wrong) = absurd (no_node_fault node head other hn wrong)
before_hooks node text others head fault other hn h (of_hooks wrong) = h.first other wrong
before_hooks node text others head fault other hn h (of_colon e) =
    let rank = ap fault_rank e in let within = hook_fault_within (length node + 1) text fault h.there in inr (let high = within.high in omega arith)

pub first_hooks : (node text : List ℕ) (others : List (List ℕ)) (head : Head) (fault : PathFault)
    → IsNodeText node head → IsFirstOf (IsHookFault (length node + 1) text) fault
    → IsFirstOf (IsFaultOfSegments (node ∷ (text ∷ others))) fault
first_hooks node text others head fault hn h = record {
  there = from_hook_fault node text others fault h.there;
  first = λ other wrong. before_hooks node text others head fault other hn h (one_of node text others other wrong);
}

before_colon : (node text : List ℕ) (others : List (List ℕ)) (head : Head) (hooks : List (List ℕ)) (other : PathFault)
    → IsNodeText node head → IsHookText text hooks
    → IsOneOf node text others other → Precedes (SecondColon (length node + 1 + length text)) other
before_colon node text others head hooks other hn hw (of_node wrong) = absurd (no_node_fault node head other hn wrong)
before_colon node text others head hooks other hn hw (of_hooks wrong) = absurd (no_hook_fault (length node + 1) text hooks other hw wrong)
before_colon node text others head hooks other hn hw (of_colon e) = inl e

pub first_colon : (node text next : List ℕ) (others : List (List ℕ)) (head : Head) (hooks : List (List ℕ)) → IsNodeText node head → IsHookText text hooks
    → IsFirstOf (IsFaultOfSegments (node ∷ (text ∷ (next ∷ others)))) (SecondColon (length node + 1 + length text))
first_colon node text next others head hooks hn hw = record {
  there = inr refl;
  first = λ other wrong. before_colon node text (next ∷ others) head hooks other hn hw (one_of node text (next ∷ others) other wrong);
}

pub same_fault : (bytes : List ℕ) (a b : PathFault) → IsFirstFault bytes a → IsFirstFault bytes b → a ≡ b
same_fault bytes a b ha hb = not_both a b (ha.first b hb.there) (hb.first a ha.there) where
  not_both : (a b : PathFault) → (b ≡ a) ⊎ (fault_rank a < fault_rank b) → (a ≡ b) ⊎ (fault_rank b < fault_rank a) → a ≡ b
  not_both a b (inl e) k = sym e
  not_both a b (inr less) (inl e) = e
  not_both a b (inr less) (inr more) = absurd (omega arith)

-- ---- the answer is the path that the bytes are, or their first fault

pub only_path : (bytes : List ℕ) (answer : Result Path PathFault) → MatchResult answer (λ path. IsPath bytes path.head path.hooks) (IsFirstFault bytes)
    → (head : Head) (hooks : List (List ℕ)) → IsPath bytes head hooks → IsOkAnd answer (λ path. (path.head ≡ head) × (path.hooks ≡ hooks))
only_path bytes (Ok path) h head hooks is = same_path bytes path.head head path.hooks hooks h is
only_path bytes (Err fault) h head hooks is = absurd (no_path_fault bytes head hooks fault is h.there)

pub only_fault : (bytes : List ℕ) (answer : Result Path PathFault) → MatchResult answer (λ path. IsPath bytes path.head path.hooks) (IsFirstFault bytes)
    → (fault : PathFault) → IsFirstFault bytes fault → answer ≡ Err fault
only_fault bytes (Ok path) h fault first = absurd (no_path_fault bytes path.head path.hooks fault h first.there)
only_fault bytes (Err told) h fault first = ap (λ (f : PathFault). Err f) (same_fault bytes told fault h first)
