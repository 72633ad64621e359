-- The tables of refusals of addfilter, delfilter and settagtype, row by row, and names that are read.
use Rattle.std.proofs.Common.{◌≡◌, ℕ, Bool, true, false, not, ◌||◌, nat_lt, if◌then◌else◌, List, [], ◌∷◌, Option, Some, None, is_some, refl, sym, ◌∙◌, true≢false}
use Rattle.ng_base.specs.Name.{is_name}
use Rattle.ng_base.specs.Names.{has_name}
use Rattle.ng_base.specs.declared.errno.Errno.{Errno}
use Rattle.ng_machine.specs.declared.plan.VlanWay.{VlanWay}
use Rattle.ng_machine.specs.Arguments.{read_name, text_at}
use Rattle.ng_machine.specs.Errors.{einval, enoent, eexist}
use Rattle.ng_machine.specs.Names.{downstream, nomatch}
use Rattle.ng_machine.specs.kinds.Vlan.{Vlan, add_refusals, delete_refusals, filter_of_hook, is_taken}
use Rattle.ng_machine.specs.Words.{first_refusal}
use Rattle.ng_switch_types.specs.vlan.Filters.{is_invalid}

abbrev pub keeping : List VlanWay → Vlan
keeping filters = record { kind = 0; filters = filters }

abbrev rows : (a b c d e f g : Bool) → Option Errno
rows a b c d e f g = first_refusal ((a, einval) ∷ (b, einval) ∷ (c, einval) ∷ (d, einval) ∷ (e, einval) ∷ (f, enoent) ∷ (g, eexist) ∷ [])

row_invalid : (a b c d e f g : Bool) → a || (b || (c || (d || e))) ≡ true → rows a b c d e f g ≡ Some einval
row_invalid true b c d e f g h = refl
row_invalid false true c d e f g h = refl
row_invalid false false true d e f g h = refl
row_invalid false false false true e f g h = refl
row_invalid false false false false true f g h = refl
row_invalid false false false false false f g h = absurd (true≢false (sym h))

row_valid : (a b c d e f g : Bool) → a || (b || (c || (d || e))) ≡ false → rows a b c d e f g ≡ first_refusal ((f, enoent) ∷ (g, eexist) ∷ [])
row_valid true b c d e f g h = absurd (true≢false h)
row_valid false true c d e f g h = absurd (true≢false h)
row_valid false false true d e f g h = absurd (true≢false h)
row_valid false false false true e f g h = absurd (true≢false h)
row_valid false false false false true f g h = absurd (true≢false h)
row_valid false false false false false f g h = refl

row_missing : (f g : Bool) → f ≡ false → first_refusal ((not f, enoent) ∷ (g, eexist) ∷ []) ≡ Some enoent
row_missing f g e = rw e refl

row_taken : (f g : Bool) → f ≡ true → g ≡ true → first_refusal ((not f, enoent) ∷ (g, eexist) ∷ []) ≡ Some eexist
row_taken f g e h = rw e (rw h refl)

row_free : (f g : Bool) → f ≡ true → g ≡ false → first_refusal ((not f, enoent) ∷ (g, eexist) ∷ []) ≡ None
row_free f g e h = rw e (rw h refl)

valid : (filters : List VlanWay) (hooks : List (List ℕ)) (f : VlanWay) → is_invalid f ≡ false → first_refusal (add_refusals (keeping filters) hooks f) ≡ first_refusal ((not (has_name hooks f.hook), enoent) ∷ (is_taken f filters, eexist) ∷ [])
valid filters hooks f h = row_valid (nat_lt 4095 f.vlan) (nat_lt 7 f.pcp) (nat_lt 1 f.cfi) (not (is_name f.hook)) (has_name (downstream ∷ nomatch ∷ []) f.hook) (not (has_name hooks f.hook)) (is_taken f filters) h

pub add_invalid : (filters : List VlanWay) (hooks : List (List ℕ)) (f : VlanWay) → is_invalid f ≡ true → first_refusal (add_refusals (keeping filters) hooks f) ≡ Some einval
add_invalid filters hooks f h = row_invalid (nat_lt 4095 f.vlan) (nat_lt 7 f.pcp) (nat_lt 1 f.cfi) (not (is_name f.hook)) (has_name (downstream ∷ nomatch ∷ []) f.hook) (not (has_name hooks f.hook)) (is_taken f filters) h

pub add_missing : (filters : List VlanWay) (hooks : List (List ℕ)) (f : VlanWay) → is_invalid f ≡ false → has_name hooks f.hook ≡ false → first_refusal (add_refusals (keeping filters) hooks f) ≡ Some enoent
add_missing filters hooks f h e = valid filters hooks f h ∙ row_missing (has_name hooks f.hook) (is_taken f filters) e

pub add_taken : (filters : List VlanWay) (hooks : List (List ℕ)) (f : VlanWay) → is_invalid f ≡ false → has_name hooks f.hook ≡ true → is_taken f filters ≡ true → first_refusal (add_refusals (keeping filters) hooks f) ≡ Some eexist
add_taken filters hooks f h e t = valid filters hooks f h ∙ row_taken (has_name hooks f.hook) (is_taken f filters) e t

pub add_free : (filters : List VlanWay) (hooks : List (List ℕ)) (f : VlanWay) → is_invalid f ≡ false → has_name hooks f.hook ≡ true → is_taken f filters ≡ false → first_refusal (add_refusals (keeping filters) hooks f) ≡ None
add_free filters hooks f h e t = valid filters hooks f h ∙ row_free (has_name hooks f.hook) (is_taken f filters) e t

two_unnamed : (a b : Bool) → a ≡ false → first_refusal ((not a, einval) ∷ (not b, enoent) ∷ []) ≡ Some einval
two_unnamed a b e = rw e refl

two_absent : (a b : Bool) → a ≡ true → b ≡ false → first_refusal ((not a, einval) ∷ (not b, enoent) ∷ []) ≡ Some enoent
two_absent a b e h = rw e (rw h refl)

two_there : (a b : Bool) → a ≡ true → b ≡ true → first_refusal ((not a, einval) ∷ (not b, enoent) ∷ []) ≡ None
two_there a b e h = rw e (rw h refl)

pub delete_unnamed : (filters : List VlanWay) (hook : List ℕ) → is_name hook ≡ false → first_refusal (delete_refusals (keeping filters) hook) ≡ Some einval
delete_unnamed filters hook e = two_unnamed (is_name hook) (is_some (filter_of_hook hook filters)) e

pub delete_absent : (filters : List VlanWay) (hook : List ℕ) → is_name hook ≡ true → is_some (filter_of_hook hook filters) ≡ false → first_refusal (delete_refusals (keeping filters) hook) ≡ Some enoent
delete_absent filters hook e h = two_absent (is_name hook) (is_some (filter_of_hook hook filters)) e h

pub delete_there : (filters : List VlanWay) (hook : List ℕ) → is_name hook ≡ true → is_some (filter_of_hook hook filters) ≡ true → first_refusal (delete_refusals (keeping filters) hook) ≡ None
delete_there filters hook e h = two_there (is_name hook) (is_some (filter_of_hook hook filters)) e h

-- a filter without a name for its hook is invalid
unnamed : (f : VlanWay) → is_name f.hook ≡ false → is_invalid f ≡ true
unnamed f e = by (nat_lt 4095 f.vlan) (nat_lt 7 f.pcp) (nat_lt 1 f.cfi) (is_name f.hook) (has_name (downstream ∷ nomatch ∷ []) f.hook) e
  where
    by : (a b c d e : Bool) → d ≡ false → a || (b || (c || (not d || e))) ≡ true
    by true b c d e h = refl
    by false true c d e h = refl
    by false false true d e h = refl
    by false false false false e h = refl
    by false false false true e h = absurd (true≢false h)

pub add_unnamed : (filters : List VlanWay) (hooks : List (List ℕ)) (f : VlanWay) → is_name f.hook ≡ false → first_refusal (add_refusals (keeping filters) hooks f) ≡ Some einval
add_unnamed filters hooks f e = add_invalid filters hooks f (unnamed f e)

-- what a field was read as

pub was_read : (args hook : List ℕ) → Some hook ≡ read_name args 0 → (hook ≡ text_at args 0) × (is_name (text_at args 0) ≡ true)
was_read args hook e = by (is_name (text_at args 0)) (text_at args 0) e
  where
    by : (b : Bool) (text : List ℕ) → Some hook ≡ (if b then Some text else None) → (hook ≡ text) × (b ≡ true)
    by true text e = (cc e, refl)
    by false text e = absurd (cc e)

pub was_not_read : (args : List ℕ) → ◌≡◌ {A = Option (List ℕ)} None (read_name args 0) → is_name (text_at args 0) ≡ false
was_not_read args e = by (is_name (text_at args 0)) (text_at args 0) e
  where
    by : (b : Bool) (text : List ℕ) → ◌≡◌ {A = Option (List ℕ)} None (if b then Some text else None) → b ≡ false
    by true text e = absurd (cc e)
    by false text e = refl
