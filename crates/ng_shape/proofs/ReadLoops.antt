-- A turn of the loops that read.
use Rattle.std.proofs.Common.{◌≡◌, ◌≤◌, ◌<◌, ◌+◌, ◌-◌, ℕ, zero, suc, List, ◌++◌, length, get_or, drop, append-nil, Ok, refl, sym, ◌∙◌, arith}
use Rattle.std.proofs.lemmas.List.{at_drop_more, at_drop_all}
use Rattle.ng_base.specs.declared.memory.Stop.{Stop}
use Rattle.ng_base.specs.declared.memory.Stop.TheVariants.{Fault, NoMemory}
use Rattle.ng_shape.specs.declared.decoding.Missing.{Missing}
use Rattle.ng_shape.specs.declared.shape.Field.{Field}
use Rattle.ng_shape.specs.Shape.{Fields, shape_of, fields_of}
use Rattle.ng_shape.specs.Values.{Value, Absent, count_in}
use Rattle.ng_shape.specs.Decoding.{Read, ◌>>=◌, given, array_in, value_in, read_fields}
use Rattle.ng_shape.specs.Following.{StopsAt}

stops_on : {A B : Type 0} (stop : Stop Missing) (r : Read A) (f : A × List ℕ → Read B) → StopsAt stop r → StopsAt stop (r >>= f)
stops_on (Fault m) r f e = rw e refl
stops_on NoMemory r f e = tt

pub array_turn : (element : List ℕ → Read Value) (n i : ℕ) (so_far next : List (ℕ × Value)) (bytes after : List ℕ) (v : Value) (total : Read (List (ℕ × Value)))
    → i < n → element bytes ≡ Ok (v, after) → next ≡ so_far ++ given i v → array_in element i (n - i) so_far bytes ≡ total → array_in element (i + 1) (n - (i + 1)) next after ≡ total
unfolding array_in
array_turn element n i so_far next bytes after v total lt read e now =
    let k : n - i ≡ suc (n - (i + 1)) = omega arith in
    let one : array_in element i (n - i) so_far bytes ≡ array_in element (i + 1) (n - (i + 1)) (so_far ++ given i v) after = rw (k, read) refl in
    rw e (sym one ∙ now)

pub array_stops : (element : List ℕ → Read Value) (n i : ℕ) (so_far : List (ℕ × Value)) (bytes : List ℕ) (stop : Stop Missing) (total : Read (List (ℕ × Value)))
    → i < n → StopsAt stop (element bytes) → array_in element i (n - i) so_far bytes ≡ total → StopsAt stop total
unfolding array_in
array_stops element n i so_far bytes stop total lt h now =
    let k : n - i ≡ suc (n - (i + 1)) = omega arith in
    let one : array_in element i (n - i) so_far bytes ≡ (element bytes >>= λ x. array_in element (i + 1) (n - (i + 1)) (so_far ++ given i x.0) x.1) = rw k refl in
    rw (sym now ∙ one) (stops_on stop (element bytes) (λ x. array_in element (i + 1) (n - (i + 1)) (so_far ++ given i x.0) x.1) h)

pub array_ends : (element : List ℕ → Read Value) (n i : ℕ) (so_far : List (ℕ × Value)) (bytes : List ℕ) (total : Read (List (ℕ × Value)))
    → n ≤ i → array_in element i (n - i) so_far bytes ≡ total → total ≡ Ok (so_far, bytes)
unfolding array_in
array_ends element n i so_far bytes total le now =
    let k : n - i ≡ 0 = omega arith in
    let one : array_in element i (n - i) so_far bytes ≡ Ok (so_far, bytes) = rw k refl in
    sym now ∙ one

still : (element : List ℕ → Read Value) (i k : ℕ) (so_far : List (ℕ × Value)) (bytes : List ℕ) → element bytes ≡ Ok (Absent, bytes) → array_in element i k so_far bytes ≡ Ok (so_far, bytes)
unfolding array_in
still element i zero so_far bytes e = refl
still element i (suc k) so_far bytes e = rw (e, append-nil so_far) (still element (i + 1) k so_far bytes e)

-- an element that is nothing in no bytes: so are all behind it
pub array_still : (element : List ℕ → Read Value) (n i : ℕ) (so_far : List (ℕ × Value)) (bytes : List ℕ) (total : Read (List (ℕ × Value)))
    → element bytes ≡ Ok (Absent, bytes) → array_in element i (n - i) so_far bytes ≡ total → total ≡ Ok (so_far, bytes)
array_still element n i so_far bytes total e now = sym now ∙ still element i (n - i) so_far bytes e

pub fields_turn : (whole : Fields) (fs : List Field) (i j front : ℕ) (d : Field) (so_far next : List (ℕ × Value)) (bytes after : List ℕ) (v : Value) (total : Read (List (ℕ × Value)))
    → i < length fs → value_in (shape_of (get_or fs i d).shape) (count_in whole so_far) front bytes ≡ Ok (v, after) → next ≡ so_far ++ given j v
    → read_fields whole (fields_of (drop i fs)) j so_far front bytes ≡ total → read_fields whole (fields_of (drop (i + 1) fs)) (j + 1) next front after ≡ total
unfolding value_in read_fields
fields_turn whole fs i j front d so_far next bytes after v total lt read e now =
    let one = at_drop_more (λ gs. read_fields whole (fields_of gs) j so_far front bytes) fs i d lt in
    rw e (sym (one ∙ rw read refl) ∙ now)

pub fields_stop : (whole : Fields) (fs : List Field) (i j front : ℕ) (d : Field) (so_far : List (ℕ × Value)) (bytes : List ℕ) (stop : Stop Missing) (total : Read (List (ℕ × Value)))
    → i < length fs → StopsAt stop (value_in (shape_of (get_or fs i d).shape) (count_in whole so_far) front bytes)
    → read_fields whole (fields_of (drop i fs)) j so_far front bytes ≡ total → StopsAt stop total
unfolding value_in read_fields
fields_stop whole fs i j front d so_far bytes stop total lt h now =
    let one = at_drop_more (λ gs. read_fields whole (fields_of gs) j so_far front bytes) fs i d lt in
    rw (sym now ∙ one) (stops_on stop (value_in (shape_of (get_or fs i d).shape) (count_in whole so_far) front bytes) (λ x. read_fields whole (fields_of (drop (i + 1) fs)) (j + 1) (so_far ++ given j x.0) front x.1) h)

pub fields_end : (whole : Fields) (fs : List Field) (i j front : ℕ) (so_far : List (ℕ × Value)) (bytes : List ℕ) (total : Read (List (ℕ × Value)))
    → length fs ≤ i → read_fields whole (fields_of (drop i fs)) j so_far front bytes ≡ total → total ≡ Ok (so_far, bytes)
unfolding value_in read_fields
fields_end whole fs i j front so_far bytes total le now = sym now ∙ at_drop_all (λ gs. read_fields whole (fields_of gs) j so_far front bytes) fs i le
