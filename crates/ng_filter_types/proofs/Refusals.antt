-- The tables of refusals of setfilter, add and del, row by row, and names that are read.
use Rattle.std.proofs.Common.{◌≡◌, ℕ, Bool, true, false, not, ◌||◌, nat_lt, nat_le, if◌then◌else◌, length, List, [], ◌∷◌, Option, Some, None, is_some, refl, sym, true≢false}
use Rattle.ng_base.specs.Name.{is_name}
use Rattle.ng_base.specs.Names.{has_name}
use Rattle.ng_base.specs.declared.errno.Errno.{Errno}
use Rattle.ng_machine.specs.declared.plan.EtfWay.{EtfWay}
use Rattle.ng_machine.specs.Arguments.{read_name, text_at}
use Rattle.ng_machine.specs.Errors.{einval, enoent, eexist, enfile}
use Rattle.ng_machine.specs.Names.{downstream, nomatch}
use Rattle.ng_machine.specs.kinds.Etf.{Etf, etf_filter_of, filter_refusals, most_filters}
use Rattle.ng_machine.specs.kinds.Macset.{Macset, address_refusals, delete_address_refusals, has_address, is_group, most_addresses}
use Rattle.ng_machine.specs.Words.{first_refusal}
use Rattle.ng_filter_types.specs.Filters.{is_invalid}

-- ---- filters

abbrev pub keeping : List EtfWay → Etf
keeping filters = record { filters = filters; counters = [] }

abbrev rows : (a b c d e f : Bool) → Option Errno
rows a b c d e f = first_refusal ((a, einval) ∷ (b, einval) ∷ (c, einval) ∷ (d, enoent) ∷ (e, eexist) ∷ (f, enfile) ∷ [])

row_invalid : (a b c d e f : Bool) → a || (b || c) ≡ true → rows a b c d e f ≡ Some einval
row_invalid true b c d e f h = refl
row_invalid false true c d e f h = refl
row_invalid false false true d e f h = refl
row_invalid false false false d e f h = absurd (true≢false (sym h))

row_missing : (a b c d e f : Bool) → a || (b || c) ≡ false → d ≡ false → rows a b c (not d) e f ≡ Some enoent
row_missing true b c d e f h there = absurd (true≢false h)
row_missing false true c d e f h there = absurd (true≢false h)
row_missing false false true d e f h there = absurd (true≢false h)
row_missing false false false d e f h there = rw there refl

row_taken : (a b c d e f : Bool) → a || (b || c) ≡ false → d ≡ true → e ≡ true → rows a b c (not d) e f ≡ Some eexist
row_taken true b c d e f h there taken = absurd (true≢false h)
row_taken false true c d e f h there taken = absurd (true≢false h)
row_taken false false true d e f h there taken = absurd (true≢false h)
row_taken false false false d e f h there taken = rw there (rw taken refl)

row_crowded : (a b c d e f : Bool) → a || (b || c) ≡ false → d ≡ true → e ≡ false → f ≡ true → rows a b c (not d) e f ≡ Some enfile
row_crowded true b c d e f h there taken full = absurd (true≢false h)
row_crowded false true c d e f h there taken full = absurd (true≢false h)
row_crowded false false true d e f h there taken full = absurd (true≢false h)
row_crowded false false false d e f h there taken full = rw there (rw taken (rw full refl))

row_free : (a b c d e f : Bool) → a || (b || c) ≡ false → d ≡ true → e ≡ false → f ≡ false → rows a b c (not d) e f ≡ None
row_free true b c d e f h there taken full = absurd (true≢false h)
row_free false true c d e f h there taken full = absurd (true≢false h)
row_free false false true d e f h there taken full = absurd (true≢false h)
row_free false false false d e f h there taken full = rw there (rw taken (rw full refl))

pub filter_invalid : (filters : List EtfWay) (hooks : List (List ℕ)) (f : EtfWay) → is_invalid f ≡ true → first_refusal (filter_refusals (keeping filters) hooks f) ≡ Some einval
filter_invalid filters hooks f h =
    row_invalid (not (is_name f.hook)) (has_name (downstream ∷ nomatch ∷ []) f.hook) (nat_lt f.ethertype 1536) (not (has_name hooks f.hook)) (is_some (etf_filter_of f.ethertype filters)) (nat_le most_filters (length filters)) h

pub filter_missing : (filters : List EtfWay) (hooks : List (List ℕ)) (f : EtfWay) → is_invalid f ≡ false → has_name hooks f.hook ≡ false → first_refusal (filter_refusals (keeping filters) hooks f) ≡ Some enoent
filter_missing filters hooks f h there =
    row_missing (not (is_name f.hook)) (has_name (downstream ∷ nomatch ∷ []) f.hook) (nat_lt f.ethertype 1536) (has_name hooks f.hook) (is_some (etf_filter_of f.ethertype filters)) (nat_le most_filters (length filters)) h there

pub filter_taken : (filters : List EtfWay) (hooks : List (List ℕ)) (f : EtfWay) → is_invalid f ≡ false → has_name hooks f.hook ≡ true → is_some (etf_filter_of f.ethertype filters) ≡ true
    → first_refusal (filter_refusals (keeping filters) hooks f) ≡ Some eexist
filter_taken filters hooks f h there taken =
    row_taken (not (is_name f.hook)) (has_name (downstream ∷ nomatch ∷ []) f.hook) (nat_lt f.ethertype 1536) (has_name hooks f.hook) (is_some (etf_filter_of f.ethertype filters)) (nat_le most_filters (length filters)) h there taken

pub filter_crowded : (filters : List EtfWay) (hooks : List (List ℕ)) (f : EtfWay) → is_invalid f ≡ false → has_name hooks f.hook ≡ true → is_some (etf_filter_of f.ethertype filters) ≡ false
    → nat_le most_filters (length filters) ≡ true → first_refusal (filter_refusals (keeping filters) hooks f) ≡ Some enfile
filter_crowded filters hooks f h there taken full =
    row_crowded (not (is_name f.hook)) (has_name (downstream ∷ nomatch ∷ []) f.hook) (nat_lt f.ethertype 1536) (has_name hooks f.hook) (is_some (etf_filter_of f.ethertype filters)) (nat_le most_filters (length filters)) h there taken full

pub filter_free : (filters : List EtfWay) (hooks : List (List ℕ)) (f : EtfWay) → is_invalid f ≡ false → has_name hooks f.hook ≡ true → is_some (etf_filter_of f.ethertype filters) ≡ false
    → nat_le most_filters (length filters) ≡ false → first_refusal (filter_refusals (keeping filters) hooks f) ≡ None
filter_free filters hooks f h there taken full =
    row_free (not (is_name f.hook)) (has_name (downstream ∷ nomatch ∷ []) f.hook) (nat_lt f.ethertype 1536) (has_name hooks f.hook) (is_some (etf_filter_of f.ethertype filters)) (nat_le most_filters (length filters)) h there taken full

-- a filter without a name for its hook is invalid
pub filter_unnamed : (filters : List EtfWay) (hooks : List (List ℕ)) (f : EtfWay) → is_name f.hook ≡ false → first_refusal (filter_refusals (keeping filters) hooks f) ≡ Some einval
filter_unnamed filters hooks f e = filter_invalid filters hooks f (rw e refl)

-- ---- addresses

abbrev pub holding : List (List ℕ) → Macset
holding addresses = record { addresses = addresses; counters = [] }

abbrev three : (a b c : Bool) → Option Errno
three a b c = first_refusal ((a, einval) ∷ (b, eexist) ∷ (c, enfile) ∷ [])

three_group : (a b c : Bool) → a ≡ true → three a b c ≡ Some einval
three_group a b c group = rw group refl

three_taken : (a b c : Bool) → a ≡ false → b ≡ true → three a b c ≡ Some eexist
three_taken a b c group taken = rw group (rw taken refl)

three_crowded : (a b c : Bool) → a ≡ false → b ≡ false → c ≡ true → three a b c ≡ Some enfile
three_crowded a b c group taken full = rw group (rw taken (rw full refl))

three_free : (a b c : Bool) → a ≡ false → b ≡ false → c ≡ false → three a b c ≡ None
three_free a b c group taken full = rw group (rw taken (rw full refl))

pub address_group : (addresses : List (List ℕ)) (a : List ℕ) → is_group a ≡ true → first_refusal (address_refusals (holding addresses) a) ≡ Some einval
address_group addresses a group = three_group (is_group a) (has_address addresses a) (nat_le most_addresses (length addresses)) group

pub address_taken : (addresses : List (List ℕ)) (a : List ℕ) → is_group a ≡ false → has_address addresses a ≡ true → first_refusal (address_refusals (holding addresses) a) ≡ Some eexist
address_taken addresses a group taken = three_taken (is_group a) (has_address addresses a) (nat_le most_addresses (length addresses)) group taken

pub address_crowded : (addresses : List (List ℕ)) (a : List ℕ) → is_group a ≡ false → has_address addresses a ≡ false → nat_le most_addresses (length addresses) ≡ true → first_refusal (address_refusals (holding addresses) a) ≡ Some enfile
address_crowded addresses a group taken full = three_crowded (is_group a) (has_address addresses a) (nat_le most_addresses (length addresses)) group taken full

pub address_free : (addresses : List (List ℕ)) (a : List ℕ) → is_group a ≡ false → has_address addresses a ≡ false → nat_le most_addresses (length addresses) ≡ false → first_refusal (address_refusals (holding addresses) a) ≡ None
address_free addresses a group taken full = three_free (is_group a) (has_address addresses a) (nat_le most_addresses (length addresses)) group taken full

one_absent : (a : Bool) → a ≡ false → first_refusal ((not a, enoent) ∷ []) ≡ Some enoent
one_absent a e = rw e refl

one_there : (a : Bool) → a ≡ true → ◌≡◌ {A = Option Errno} (first_refusal ((not a, enoent) ∷ [])) None
one_there a e = rw e refl

pub delete_absent : (addresses : List (List ℕ)) (a : List ℕ) → has_address addresses a ≡ false → first_refusal (delete_address_refusals (holding addresses) a) ≡ Some enoent
delete_absent addresses a e = one_absent (has_address addresses a) e

pub delete_there : (addresses : List (List ℕ)) (a : List ℕ) → has_address addresses a ≡ true → first_refusal (delete_address_refusals (holding addresses) a) ≡ None
delete_there addresses a e = one_there (has_address addresses a) e

-- ---- what a field was read as

pub was_read : (args hook : List ℕ) → Some hook ≡ read_name args 0 → (hook ≡ text_at args 0) × (is_name (text_at args 0) ≡ true)
was_read args hook e = by (is_name (text_at args 0)) (text_at args 0) e
  where
    by : (b : Bool) (text : List ℕ) → Some hook ≡ (if b then Some text else None) → (hook ≡ text) × (b ≡ true)
    by true text e = (cc e, refl)
    by false text e = absurd (cc e)

pub was_not_read : (args : List ℕ) → ◌≡◌ {A = Option (List ℕ)} None (read_name args 0) → is_name (text_at args 0) ≡ false
was_not_read args e = by (is_name (text_at args 0)) (text_at args 0) e
  where
    by : (b : Bool) (text : List ℕ) → ◌≡◌ {A = Option (List ℕ)} None (if b then Some text else None) → b ≡ false
    by true text e = absurd (cc e)
    by false text e = refl
