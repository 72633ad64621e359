-- The computed address is the address that the bytes are, and the other way.
use Rattle.std.proofs.Common.{◌≡◌, ◌≢◌, ◌⊎◌, ℕ, suc, ◌+◌, ◌-◌, ◌<◌, ◌≤◌, Bool, true, false, not, ◌&&◌, ◌||◌, ◌==◌, nat_le, nat_lt, if◌then◌else◌, List, [], ◌∷◌, ◌++◌, length, take, drop, refl, sym, ap, ◌∙◌, subst, inl, inr, ⊎_elim, arith, true≢false, length-append, take-append-drop}
use Rattle.std.specs.declared.option.Option.{Option}
use Rattle.std.specs.declared.option.Option.TheVariants.{None, Some}
use Rattle.std.specs.List.{list_all, join_with_byte}
use Rattle.std.specs.Str.{bytes_eq}
use Rattle.std.specs.Str.Parse.{AllDigits, digits_value}
use Rattle.std.specs.Char.{digit_value}
use Rattle.std.proofs.Math.Seq.{drop-append_seam, take-append_seam}
use Rattle.std.proofs.lemmas.Bool.{cases_Bool, and_parts, or_cases, eqb-true, eqb-false, leb-true, ltb-true}
use Rattle.std.proofs.lemmas.Slice.Eq.{bytes_eq-Decides}
use Rattle.std.proofs.lemmas.List.Splits.{join_with_byte-slice_split}
use Rattle.ng_base.specs.declared.ids.NodeId.{NodeId}
use Rattle.ng_base.specs.Name.{IsName, is_name}
use Rattle.ng_base.proofs.NameLemmas.{name_passes, passing_is_name}
use Rattle.ng_path.specs.declared.path.Head.{Head}
use Rattle.ng_path.specs.declared.path.Head.TheVariants.{Local, Named, Id}
use Rattle.ng_path.specs.Segments.{cut_at, has_bytes, hook_names, AreNames}
use Rattle.ng_path.specs.Grammar.{IsIdText, IsNodeText, IsHookText, IsFromNode, IsFromHere, IsPath}
use Rattle.ng_path.specs.Address.{Address, begins_with, without_dot, are_names, read_hooks, is_digit, read_digits, read_brackets, read_node, address_of, read_segments, read_address, ReadsAddress}
use Rattle.ng_path.proofs.Cuts.{cut_free, cut_front}
use Rattle.ng_path.proofs.Names.{good_empty}
use Rattle.ng_path.proofs.Walks.{first_fault}
use Rattle.ng_path.proofs.Joined.{opens_names, names_pass, empty_text, hook_text_of, reads, joined_dotted, joined_undotted}
use Rattle.ng_path.proofs.Nodes.{no_dot_name, node_free}
use Rattle.ng_path.proofs.Whole.{walk_free}

-- Tests

both_true : (a b : Bool) → a ≡ true → b ≡ true → (a && b) ≡ true
both_true a b e f = grind (arith, e, f)

first_true : (a b : Bool) → a ≡ true → (a || b) ≡ true
first_true a b e = grind (arith, e)

at_most : (a b : ℕ) → a ≤ b → nat_le a b ≡ true
at_most a b le = grind (arith, le)

below : (a b : ℕ) → a < b → nat_lt a b ≡ true
below a b lt = grind (arith, lt)

-- Hooks

empty_part : (part : List ℕ) → not (has_bytes part) ≡ true → part ≡ []
empty_part [] e = refl
empty_part (b ∷ part) e = absurd (true≢false (sym e))

names_of : (parts : List (List ℕ)) → are_names parts ≡ true → AreNames parts
names_of [] e = tt
names_of (part ∷ []) e = (
  ⊎_elim (λ (n : is_name part ≡ true). inl (passing_is_name part n))
      (λ (n : not (has_bytes part) ≡ true). inr (empty_part part n, refl))
      (or_cases (is_name part) (not (has_bytes part)) e),
  tt,
)
names_of (part ∷ next ∷ others) e =
    let p = and_parts (is_name part) (are_names (next ∷ others)) e in (inl (passing_is_name part p.0), names_of (next ∷ others) p.1)

names_test : (parts : List (List ℕ)) → AreNames parts → are_names parts ≡ true
names_test [] h = refl
names_test (part ∷ []) (inl n, rest) = first_true _ _ (name_passes part n)
names_test (part ∷ []) (inr none, rest) = ap (λ (p : List ℕ). is_name p || not (has_bytes p)) none.0
names_test (part ∷ next ∷ others) (inl n, rest) = both_true _ _ (name_passes part n) (names_test (next ∷ others) rest)
names_test (part ∷ next ∷ others) (inr none, rest) = absurd (cc (none.1))

dotted : (rest : List ℕ) → are_names (cut_at 0x2e rest) ≡ true → IsHookText (0x2e ∷ rest) (hook_names (0x2e ∷ rest))
dotted rest e =
    let h = names_of (cut_at 0x2e rest) e in
    let clean : first_fault 0 ([] ∷ cut_at 0x2e rest) ≡ None = rw (good_empty, opens_names (cut_at 0x2e rest) h) (names_pass (0 + 0 + 1) (cut_at 0x2e rest) h) in
    hook_text_of 0 (0x2e ∷ rest) clean

hook_text : (text : List ℕ) → are_names (cut_at 0x2e (without_dot text)) ≡ true → IsHookText text (hook_names text)
hook_text [] e = empty_text
hook_text (b ∷ bytes) e = by (b == 0x2e) refl e
  where
    by : (c : Bool) → (b == 0x2e) ≡ c → are_names (cut_at 0x2e (if c then bytes else b ∷ bytes)) ≡ true → IsHookText (b ∷ bytes) (hook_names (b ∷ bytes))
    by true c e = subst (λ (n : ℕ). IsHookText (n ∷ bytes) (hook_names (n ∷ bytes))) (sym (eqb-true b 0x2e c)) (dotted bytes e)
    by false c e = hook_text_of 0 (b ∷ bytes) (names_pass 0 (cut_at 0x2e (b ∷ bytes)) (names_of (cut_at 0x2e (b ∷ bytes)) e))

hooks_are : (text : List ℕ) (hooks : List (List ℕ)) → read_hooks text ≡ Some hooks → IsHookText text hooks
hooks_are text hooks e = by (are_names (cut_at 0x2e (without_dot text))) refl e
  where
    by : (c : Bool) → are_names (cut_at 0x2e (without_dot text)) ≡ c → (if c then Some (hook_names text) else None) ≡ Some hooks → IsHookText text hooks
    by true c e = let same : hook_names text ≡ hooks = cc e in subst (IsHookText text) same (hook_text text c)
    by false c e = absurd (cc e)

hooks_test : (text : List ℕ) (hooks : List (List ℕ)) → IsHookText text hooks → are_names (cut_at 0x2e (without_dot text)) ≡ true
hooks_test [] hooks h = refl
hooks_test (b ∷ bytes) hooks h = by (b == 0x2e) refl
  where
    by : (c : Bool) → (b == 0x2e) ≡ c → are_names (cut_at 0x2e (if c then bytes else b ∷ bytes)) ≡ true
    by true c = names_test (cut_at 0x2e bytes) (joined_dotted bytes hooks (subst (λ (n : ℕ). IsHookText (n ∷ bytes) hooks) (eqb-true b 0x2e c) h))
    by false c = names_test (cut_at 0x2e (b ∷ bytes)) (joined_undotted (b ∷ bytes) hooks (λ rest e. let same : b ≡ 0x2e = cc e in eqb-false b 0x2e c same) h)

hooks_read : (text : List ℕ) (hooks : List (List ℕ)) → IsHookText text hooks → read_hooks text ≡ Some hooks
hooks_read text hooks h =
    ap (λ (c : Bool). if c then Some (hook_names text) else None) (hooks_test text hooks h)
    ∙ ap (λ (l : List (List ℕ)). Some l) (reads 0 text hooks h).same

-- Numbers

digits_of : (ds : List ℕ) → list_all is_digit ds ≡ true → AllDigits 16 ds
digits_of [] e = tt
digits_of (d ∷ ds) e = let p = and_parts (is_digit d) (list_all is_digit ds) e in (ltb-true (digit_value d) 16 p.0, digits_of ds p.1)

digits_test : (ds : List ℕ) → AllDigits 16 ds → list_all is_digit ds ≡ true
digits_test [] h = refl
digits_test (d ∷ ds) h = both_true _ _ (below (digit_value d) 16 h.0) (digits_test ds h.1)

abbrev number_of : List ℕ → NodeId
number_of ds = record { 0 = digits_value 16 ds }

abbrev is_number : List ℕ → Bool
is_number ds = nat_le 1 (length ds) && (nat_le (length ds) 8 && list_all is_digit ds)

id_text : (ds : List ℕ) → is_number ds ≡ true → IsIdText ds (digits_value 16 ds)
id_text ds e =
    let p = and_parts (nat_le 1 (length ds)) (nat_le (length ds) 8 && list_all is_digit ds) e in
    let q = and_parts (nat_le (length ds) 8) (list_all is_digit ds) p.1 in
    record { some = let le = leb-true 1 (length ds) p.0 in omega arith; few = leb-true (length ds) 8 q.0; digits_only = digits_of ds q.1; value = refl }

number_test : (ds : List ℕ) (n : ℕ) → IsIdText ds n → is_number ds ≡ true
number_test ds n h =
    let s = h.some in
    both_true _ _ (at_most 1 (length ds) (omega arith)) (both_true _ _ (at_most (length ds) 8 h.few) (digits_test ds h.digits_only))

-- Nodes

same_head : (a b : Head) → Some a ≡ Some b → a ≡ b
same_head a b e = cc e

digits_are : (ds text : List ℕ) (head : Head) → text ≡ 0x5b ∷ (ds ++ 0x5d ∷ []) → read_digits ds ≡ Some head → IsNodeText text head
digits_are ds text head whole e = by (is_number ds) refl e
  where
    by : (c : Bool) → is_number ds ≡ c → (if c then Some (Id (number_of ds)) else None) ≡ Some head → IsNodeText text head
    by true c e = subst (IsNodeText text) (same_head (Id (number_of ds)) head e) (ds, id_text ds c, whole)
    by false c e = absurd (cc e)

-- what stands before the last n bytes, with the brackets away
abbrev brackets_from : ℕ → List ℕ → Option Head
brackets_from n text = if bytes_eq (drop n text) (0x5d ∷ []) then read_digits (drop 1 (take n text)) else None

brackets_are : (b : ℕ) (bytes : List ℕ) (head : Head) → b ≡ 0x5b → brackets_from (length bytes) (b ∷ bytes) ≡ Some head → IsNodeText (b ∷ bytes) head
brackets_are b [] head is e = by (bytes_eq (b ∷ []) (0x5d ∷ [])) refl e
  where
    by : (c : Bool) → bytes_eq (b ∷ []) (0x5d ∷ []) ≡ c → (if c then read_digits [] else None) ≡ Some head → IsNodeText (b ∷ []) head
    by true c e = absurd (cc e)
    by false c e = absurd (cc e)
brackets_are b (x ∷ rest) head is e = by (bytes_eq (drop (length rest) (x ∷ rest)) (0x5d ∷ [])) refl e
  where
    by : (c : Bool) → bytes_eq (drop (length rest) (x ∷ rest)) (0x5d ∷ []) ≡ c
        → (if c then read_digits (take (length rest) (x ∷ rest)) else None) ≡ Some head
        → IsNodeText (b ∷ x ∷ rest) head
    by true c e =
        let last : drop (length rest) (x ∷ rest) ≡ 0x5d ∷ [] = (bytes_eq-Decides (drop (length rest) (x ∷ rest)) (0x5d ∷ [])).0 c in
        let whole : take (length rest) (x ∷ rest) ++ 0x5d ∷ [] ≡ x ∷ rest =
        ap (λ (l : List ℕ). take (length rest) (x ∷ rest) ++ l) (sym last) ∙ take-append-drop (length rest) (x ∷ rest) in
        digits_are (take (length rest) (x ∷ rest)) (b ∷ x ∷ rest) head (ap (λ (n : ℕ). n ∷ x ∷ rest) is ∙ ap (λ (l : List ℕ). 0x5b ∷ l) (sym whole)) e
    by false c e = absurd (cc e)

begins_is : (text : List ℕ) → begins_with 0x5b text ≡ true → (b : ℕ) × (bytes : List ℕ) × (text ≡ b ∷ bytes) × (b ≡ 0x5b)
begins_is [] e = absurd (true≢false (sym e))
begins_is (b ∷ bytes) e = (b, bytes, refl, eqb-true b 0x5b e)

one_less : (b : ℕ) (bytes : List ℕ) → length (b ∷ bytes) - 1 ≡ length bytes
one_less b bytes = omega arith

begun_are : (text : List ℕ) (head : Head) → begins_with 0x5b text ≡ true → read_brackets text ≡ Some head → IsNodeText text head
begun_are [] head s e = absurd (true≢false (sym s))
begun_are (b ∷ bytes) head s e = brackets_are b bytes head (eqb-true b 0x5b s) (ap (λ (n : ℕ). brackets_from n (b ∷ bytes)) (sym (one_less b bytes)) ∙ e)

node_is : (text : List ℕ) (head : Head) → read_node text ≡ Some head → IsNodeText text head
node_is text head e = local (bytes_eq text (0x2e ∷ [])) refl e
  where
    plain : (c : Bool) → is_name text ≡ c → begins_with 0x5b text ≡ false → (if c then Some (Named text) else None) ≡ Some head → IsNodeText text head
    plain true c s e = subst (IsNodeText text) (same_head (Named text) head e)
        (refl, passing_is_name text c, λ rest is. true≢false (sym (ap (begins_with 0x5b) is) ∙ s))
    plain false c s e = absurd (cc e)

    begun : (c : Bool) → begins_with 0x5b text ≡ c
        → (if c then read_brackets text else if is_name text then Some (Named text) else None) ≡ Some head
        → IsNodeText text head
    begun true s e = begun_are text head s e
    begun false s e = plain (is_name text) refl s e

    local : (c : Bool) → bytes_eq text (0x2e ∷ []) ≡ c
        → (if c then Some Local else if begins_with 0x5b text then read_brackets text else if is_name text then Some (Named text) else None) ≡ Some head
        → IsNodeText text head
    local true c e = subst (IsNodeText text) (same_head Local head e) ((bytes_eq-Decides text (0x2e ∷ [])).0 c)
    local false c e = begun (begins_with 0x5b text) refl e

pick_second : {A : Type 0} (c : Bool) (x y : A) → c ≡ false → (if c then x else y) ≡ y
pick_second c x y e = ap (λ (d : Bool). if d then x else y) e

pick_first : {A : Type 0} (c : Bool) (x y : A) → c ≡ true → (if c then x else y) ≡ x
pick_first c x y e = ap (λ (d : Bool). if d then x else y) e

name_read : (name : List ℕ) → IsName name → ((rest : List ℕ) → name ≢ 0x5b ∷ rest) → read_node name ≡ Some (Named name)
name_read name n unbracketed =
    let no_dot : bytes_eq name (0x2e ∷ []) ≡ false = ⊎_elim
    (λ (t : bytes_eq name (0x2e ∷ []) ≡ true). absurd (no_dot_name (subst IsName ((bytes_eq-Decides name (0x2e ∷ [])).0 t) n)))
    (λ (f : bytes_eq name (0x2e ∷ []) ≡ false). f)
    (cases_Bool (bytes_eq name (0x2e ∷ []))) in
    let no_bracket : begins_with 0x5b name ≡ false = ⊎_elim
    (λ (t : begins_with 0x5b name ≡ true). let b = begins_is name t in absurd (unbracketed b.1 (b.2 ∙ ap (λ (x : ℕ). x ∷ b.1) b.3)))
    (λ (f : begins_with 0x5b name ≡ false). f)
    (cases_Bool (begins_with 0x5b name)) in
    pick_second (bytes_eq name (0x2e ∷ [])) _ _ no_dot ∙ (pick_second (begins_with 0x5b name) _ _ no_bracket ∙ pick_first (is_name name) _ _ (name_passes name n))

id_read : (ds : List ℕ) (id : NodeId) → IsIdText ds id.0 → read_node (0x5b ∷ (ds ++ 0x5d ∷ [])) ≡ Some (Id id)
id_read ds id h =
    let text : List ℕ = 0x5b ∷ (ds ++ 0x5d ∷ []) in
    let n : length text - 1 ≡ suc (length ds) = let l = length-append ds (0x5d ∷ []) in omega arith in
    let last : bytes_eq (drop (suc (length ds)) text) (0x5d ∷ []) ≡ true = ap (λ (l : List ℕ). bytes_eq l (0x5d ∷ [])) (drop-append_seam ds (0x5d ∷ [])) in
    let inner : drop 1 (take (suc (length ds)) text) ≡ ds = take-append_seam ds (0x5d ∷ []) in
    ap (λ (k : ℕ). brackets_from k text) n
    ∙ (pick_first (bytes_eq (drop (suc (length ds)) text) (0x5d ∷ [])) (read_digits (drop 1 (take (suc (length ds)) text))) None last
    ∙ (ap read_digits inner
    ∙ (pick_first (is_number ds) (Some (Id (number_of ds))) None (number_test ds id.0 h) ∙ ap (λ (m : ℕ). Some (Id (record { 0 = m }))) (sym h.value))))

node_read : (text : List ℕ) (head : Head) → IsNodeText text head → read_node text ≡ Some head
node_read text Local h = subst (λ (l : List ℕ). read_node l ≡ Some Local) (sym h) refl
node_read text (Named name) h = subst (λ (l : List ℕ). read_node l ≡ Some (Named name)) (sym h.0) (name_read name h.1 h.2)
node_read text (Id id) h = subst (λ (l : List ℕ). read_node l ≡ Some (Id id)) (sym h.2) (id_read h.0 id h.1)

-- Together

abbrev with_hooks : Head → List (List ℕ) → Address
with_hooks head hooks = record { head = head; hooks = hooks }

record BothRead (h : Option Head) (hs : Option (List (List ℕ))) (a : Address) : Type 0 where
  head : h ≡ Some a.head
  hooks : hs ≡ Some a.hooks

same_address : (a b : Address) → Some a ≡ Some b → a ≡ b
same_address a b e = cc e

both_read : (h : Option Head) (hs : Option (List (List ℕ))) (a : Address) → address_of h hs ≡ Some a → BothRead h hs a
both_read None hs a e = absurd (cc e)
both_read (Some head) None a e = absurd (cc e)
both_read (Some head) (Some hooks) a e =
    let same = same_address (with_hooks head hooks) a e in
    record { head = ap (λ (x : Address). Some x.head) same; hooks = ap (λ (x : Address). Some x.hooks) same }

some_bytes : (bytes : List ℕ) → has_bytes bytes ≡ true → bytes ≢ []
some_bytes bytes e none = true≢false (sym e ∙ ap has_bytes none)

bytes_test : (bytes : List ℕ) → bytes ≢ [] → has_bytes bytes ≡ true
bytes_test [] n = absurd (n refl)
bytes_test (b ∷ bytes) n = refl

segments_are : (parts : List (List ℕ)) (a : Address) → read_segments parts ≡ Some a
    → IsFromNode (join_with_byte 0x3a parts) a.head a.hooks ⊎ IsFromHere (join_with_byte 0x3a parts) a.head a.hooks
segments_are [] a e = absurd (cc e)
segments_are (hooks ∷ []) a e = by (has_bytes hooks) refl e
  where
    by : (c : Bool) → has_bytes hooks ≡ c
        → (if c then address_of (Some Local) (read_hooks hooks) else None) ≡ Some a
        → IsFromNode hooks a.head a.hooks ⊎ IsFromHere hooks a.head a.hooks
    by true c e =
        let r = both_read (Some Local) (read_hooks hooks) a e in
        inr (record { here = sym (same_head Local a.head r.head); some = some_bytes hooks c; hook_text = hooks_are hooks a.hooks r.hooks })
    by false c e = absurd (cc e)
segments_are (node ∷ hooks ∷ []) a e =
    let r = both_read (read_node node) (read_hooks hooks) a e in
    inl (record { node = node; walk = hooks; node_text = node_is node a.head r.head; hook_text = hooks_are hooks a.hooks r.hooks; whole = refl })
segments_are (node ∷ hooks ∷ next ∷ others) a e = absurd (cc e)

is_path : (bytes : List ℕ) (a : Address) → read_address bytes ≡ Some a → IsPath bytes a.head a.hooks
is_path bytes a e = by (nat_le (length bytes) 511) refl e
  where
    by : (c : Bool) → nat_le (length bytes) 511 ≡ c → (if c then read_segments (cut_at 0x3a bytes) else None) ≡ Some a → IsPath bytes a.head a.hooks
    by true c e = record {
      short = leb-true (length bytes) 511 c;
      form = subst (λ (l : List ℕ). IsFromNode l a.head a.hooks ⊎ IsFromHere l a.head a.hooks)
          (join_with_byte-slice_split 0x3a bytes) (segments_are (cut_at 0x3a bytes) a e);
    }
    by false c e = absurd (cc e)

form_read : (bytes : List ℕ) (head : Head) (hooks : List (List ℕ))
    → IsFromNode bytes head hooks ⊎ IsFromHere bytes head hooks
    → read_segments (cut_at 0x3a bytes) ≡ Some (with_hooks head hooks)
form_read bytes head hooks (inl h) =
    let parts : cut_at 0x3a bytes ≡ h.node ∷ h.walk ∷ [] =
    ap (cut_at 0x3a) h.whole ∙ (cut_front 0x3a h.node h.walk refl (node_free h.node head h.node_text)
    ∙ ap (λ (l : List (List ℕ)). h.node ∷ l) (cut_free 0x3a h.walk (walk_free h.walk hooks h.hook_text))) in
    ap read_segments parts
    ∙ (ap (λ (o : Option Head). address_of o (read_hooks h.walk)) (node_read h.node head h.node_text)
    ∙ ap (address_of (Some head)) (hooks_read h.walk hooks h.hook_text))
form_read bytes head hooks (inr h) =
    ap read_segments (cut_free 0x3a bytes (walk_free bytes hooks h.hook_text))
    ∙ (pick_first (has_bytes bytes) (address_of (Some Local) (read_hooks bytes)) None (bytes_test bytes h.some)
    ∙ (ap (address_of (Some Local)) (hooks_read bytes hooks h.hook_text) ∙ ap (λ (x : Head). Some (with_hooks x hooks)) (sym h.here)))

pub reads_address : ReadsAddress
reads_address bytes head hooks = (
  λ e. is_path bytes (with_hooks head hooks) e,
  λ h. pick_first (nat_le (length bytes) 511) (read_segments (cut_at 0x3a bytes)) None (at_most (length bytes) 511 h.short) ∙ form_read bytes head hooks h.form,
)
