-- The text of a node is that of one node, and no colon stands in it.
use Rattle.std.proofs.Common.{◌≡◌, ◌≢◌, ℕ, ◌<◌, false, eqb, List, [], ◌∷◌, ◌++◌, refl, sym, ap, subst, ◌∙◌, arith}
use Rattle.std.specs.Char.{digit_value}
use Rattle.std.specs.Str.Parse.{AllDigits, digits_value}
use Rattle.std.proofs.lemmas.Bool.{ne_eqb}
use Rattle.std.proofs.lemmas.List.{append_cancel_right}
use Rattle.ng_base.specs.declared.ids.NodeId.{NodeId}
use Rattle.ng_base.specs.Name.{IsName}
use Rattle.ng_path.specs.declared.fault.PathFault.{PathFault}
use Rattle.ng_path.specs.declared.fault.PathFault.TheVariants.{TooLong, EmptyNode, SecondColon, TwoDots, BadName}
use Rattle.ng_path.specs.declared.path.Head.{Head}
use Rattle.ng_path.specs.declared.path.Head.TheVariants.{Local, Named, Id}
use Rattle.ng_path.specs.Grammar.{IsIdText, IsNodeText}
use Rattle.ng_path.specs.Faults.{IsNodeFault}
use Rattle.ng_path.proofs.Cuts.{IsFree, free_append}
use Rattle.ng_path.proofs.Names.{name_free}
use Rattle.ng_base.proofs.NameLemmas.{no_empty_name}

pub no_dot_name : IsName (0x2e ∷ []) → ⊥
no_dot_name h = cc h

local_named : (text name : List ℕ) → text ≡ 0x2e ∷ [] → text ≡ name → IsName name → ⊥
local_named text name dot same named = no_dot_name (subst (λ (l : List ℕ). IsName l) (sym same ∙ dot) named)

local_id : (text digits : List ℕ) → text ≡ 0x2e ∷ [] → text ≡ 0x5b ∷ (digits ++ 0x5d ∷ []) → ⊥
local_id text digits dot bracket = cc (dot, bracket)

named_id : (text name digits : List ℕ) → text ≡ name → ((rest : List ℕ) → name ≢ 0x5b ∷ rest) → text ≡ 0x5b ∷ (digits ++ 0x5d ∷ []) → ⊥
named_id text name digits same plain bracket = plain (digits ++ 0x5d ∷ []) (sym same ∙ bracket)

same_digits : (text digits others : List ℕ) → text ≡ 0x5b ∷ (digits ++ 0x5d ∷ []) → text ≡ 0x5b ∷ (others ++ 0x5d ∷ []) → digits ≡ others
same_digits text digits others h k =
    let same : 0x5b ∷ (digits ++ 0x5d ∷ []) ≡ 0x5b ∷ (others ++ 0x5d ∷ []) = sym h ∙ k in
    let tails : digits ++ 0x5d ∷ [] ≡ others ++ 0x5d ∷ [] = cc same in
    append_cancel_right digits others (0x5d ∷ []) tails

id_of : ℕ → NodeId
id_of n = record { 0 = n }

same_id : (a b : NodeId) → a.0 ≡ b.0 → a ≡ b
unfolding id_of
same_id a b e = ap id_of e

one_number : (digits others : List ℕ) (a b : NodeId) → IsIdText digits a.0 → IsIdText others b.0 → digits ≡ others → a ≡ b
one_number digits others a b ha hb e = same_id a b (ha.value ∙ ap (λ (l : List ℕ). digits_value 16 l) e ∙ sym hb.value)

pub one_head : (text : List ℕ) (a b : Head) → IsNodeText text a → IsNodeText text b → a ≡ b
one_head text Local Local ha hb = refl
one_head text Local (Named name) ha hb = absurd (local_named text name ha hb.0 hb.1)
one_head text Local (Id id) ha hb = absurd (local_id text hb.0 ha hb.2)
one_head text (Named name) Local ha hb = absurd (local_named text name hb ha.0 ha.1)
one_head text (Named name) (Named other) ha hb = ap (λ (l : List ℕ). Named l) (sym ha.0 ∙ hb.0)
one_head text (Named name) (Id id) ha hb = absurd (named_id text name hb.0 ha.0 ha.2 hb.2)
one_head text (Id id) Local ha hb = absurd (local_id text ha.0 hb ha.2)
one_head text (Id id) (Named name) ha hb = absurd (named_id text name ha.0 hb.0 hb.2 ha.2)
one_head text (Id id) (Id other) ha hb = ap (λ (n : NodeId). Id n) (one_number ha.0 hb.0 id other ha.1 hb.1 (same_digits text ha.0 hb.0 ha.2 hb.2))

colon_no_digit : (c : ℕ) → digit_value c < 16 → eqb c 0x3a ≡ false
colon_no_digit c h = ne_eqb c 0x3a (λ e. let large : 36 < 16 = subst (λ (n : ℕ). digit_value n < 16) e h in absurd (omega arith))

digits_free : (digits : List ℕ) → AllDigits 16 digits → IsFree 0x3a digits
digits_free [] h = tt
digits_free (c ∷ digits) h = (colon_no_digit c h.0, digits_free digits h.1)

pub node_free : (text : List ℕ) (head : Head) → IsNodeText text head → IsFree 0x3a text
node_free text Local h = subst (λ (l : List ℕ). IsFree 0x3a l) (sym h) (refl, tt)
node_free text (Named name) h = subst (λ (l : List ℕ). IsFree 0x3a l) (sym h.0) (name_free name h.1).1
node_free text (Id id) h =
    subst (λ (l : List ℕ). IsFree 0x3a l) (sym h.2) (refl, free_append 0x3a h.0 (0x5d ∷ []) (digits_free h.0 h.1.digits_only) (refl, tt))

pub node_some : (head : Head) → IsNodeText [] head → ⊥
node_some Local h = cc h
node_some (Named name) h = no_empty_name (subst (λ (l : List ℕ). IsName l) (sym h.0) h.1)
node_some (Id id) h = cc (h.2)

pub no_node_fault : (text : List ℕ) (head : Head) (fault : PathFault) → IsNodeText text head → IsNodeFault text fault → ⊥
no_node_fault text head TooLong h wrong = wrong
no_node_fault text head EmptyNode h wrong = node_some head (subst (λ (l : List ℕ). IsNodeText l head) wrong h)
no_node_fault text head (SecondColon place) h wrong = wrong
no_node_fault text head (TwoDots place) h wrong = wrong
no_node_fault text head (BadName place) h wrong = wrong.1 head h
