-- Steps and writes in two parts, one behind the other.
use Rattle.std.proofs.Common.{◌≡◌, inl, inr, ◌∙◌, ℕ, List, [], ◌∷◌, ◌++◌, Option, Some, None, refl, ap, subst}
use Rattle.ng_outside.specs.Contents.{Contents, NotTold, NoFile, Holds}
use Rattle.ng_call.specs.ending.Outside.{Stored, Outside, FileRose, Same}
use Rattle.ng_call.specs.ending.Steps.{Step, Reads, Checks, MayBeThere, unless_missing, first_fault, Refuses}
use Rattle.ng_call.specs.ending.Writes.{Write, WritesAll, StopsAt}

-- a read that went well
pub read_well : {F : Type 0} (contents : Contents) (failed : F) (later : Option F) → MayBeThere contents
    → unless_missing contents failed later ≡ later
read_well NotTold failed later there = refl
read_well NoFile failed later there = absurd there
read_well (Holds bytes) failed later there = refl

-- where no fault is there the file is there, and none is there later
pub none_missing : {F : Type 0} (contents : Contents) (failed : F) (later : Option F) → unless_missing contents failed later ≡ None
    → MayBeThere contents × (later ≡ None)
none_missing NotTold failed later none = (tt, none)
none_missing NoFile failed later none = absurd (cc none)
none_missing (Holds bytes) failed later none = (tt, none)

pub first_behind : {F : Type 0} (files : List ℕ → Contents) (a b : List (Step F)) → first_fault files a ≡ None
    → first_fault files (a ++ b) ≡ first_fault files b
first_behind files [] b none = refl
first_behind files (Reads name failed ∷ a) b none =
    let well = none_missing (files name) failed (first_fault files a) none in
    read_well (files name) failed (first_fault files (a ++ b)) well.0 ∙ first_behind files a b well.1
first_behind files (Checks None ∷ a) b none = first_behind files a b none
first_behind files (Checks (Some fault) ∷ a) b none = absurd (cc none)

pub refuses_in_front : {F : Type 0} (o : Outside) (a b : List (Step F)) (fault : F) → Refuses o a fault → Refuses o (a ++ b) fault
refuses_in_front o [] b fault r = absurd r
refuses_in_front o (Reads name failed ∷ a) b fault (inl read) = inl read
refuses_in_front o (Reads name failed ∷ a) b fault (inr later) = inr (later.0, refuses_in_front o a b fault later.1)
refuses_in_front o (Checks None ∷ a) b fault r = refuses_in_front o a b fault r
refuses_in_front o (Checks (Some found) ∷ a) b fault r = r

pub refuses_behind : {F : Type 0} (o : Outside) (a b : List (Step F)) (fault : F) → first_fault o.old.files a ≡ None
    → Refuses o b fault → Refuses o (a ++ b) fault
refuses_behind o [] b fault none r = r
refuses_behind o (Reads name failed ∷ a) b fault none r =
    let well = none_missing (o.old.files name) failed (first_fault o.old.files a) none in
    inr (well.0, refuses_behind o a b fault well.1 r)
refuses_behind o (Checks None ∷ a) b fault none r = refuses_behind o a b fault none r
refuses_behind o (Checks (Some found) ∷ a) b fault none r = absurd (cc none)

-- what refuses in a part of a call refuses in the call: counts that rose in the part rose in the call
pub refuses_within : {F : Type 0} (o p : Outside) → o.old.files ≡ p.old.files → ((name : List ℕ) → FileRose o name → FileRose p name)
    → (steps : List (Step F)) (fault : F) → Refuses o steps fault → Refuses p steps fault
refuses_within o p same more [] fault r = r
refuses_within o p same more (Reads name failed ∷ steps) fault (inl read) = inl (read.0, more name read.1)
refuses_within o p same more (Reads name failed ∷ steps) fault (inr later) =
    inr (subst (λ (files : List ℕ → Contents). MayBeThere (files name)) same later.0, refuses_within o p same more steps fault later.1)
refuses_within o p same more (Checks None ∷ steps) fault r = refuses_within o p same more steps fault r
refuses_within o p same more (Checks (Some found) ∷ steps) fault r = r

-- Writes

abbrev stored : Option (List ℕ) → (List ℕ → Contents) → Stored
stored sink files = record { sink = sink; files = files }

same_is : (old now : Stored) → Same old now → now ≡ old
same_is old now s =
    ap (λ (x : Option (List ℕ)). stored x now.files) s.sink
    ∙ ap (λ (f : List ℕ → Contents). stored old.sink f) s.files

pub writes_behind : {F : Type 0} (a b : List (Write F)) (old next now : Stored) → WritesAll a old next → WritesAll b next now
    → WritesAll (a ++ b) old now
writes_behind [] b old next now first second = subst (λ (h : Stored). WritesAll b h now) (same_is old next first) second
writes_behind (w ∷ a) b old next now (mid, whole, first) second = (mid, whole, writes_behind a b mid next now first second)

pub stops_in_front : {F : Type 0} (Cause : Write F → Type 0) (a b : List (Write F)) (old now : Stored) → StopsAt Cause a old now
    → StopsAt Cause (a ++ b) old now
stops_in_front Cause [] b old now s = absurd s
stops_in_front Cause (w ∷ a) b old now (inl s) = inl s
stops_in_front Cause (w ∷ a) b old now (inr (next, whole, s)) = inr (next, whole, stops_in_front Cause a b next now s)

pub stops_behind : {F : Type 0} (Cause : Write F → Type 0) (a b : List (Write F)) (old next now : Stored) → WritesAll a old next
    → StopsAt Cause b next now → StopsAt Cause (a ++ b) old now
stops_behind Cause [] b old next now first s = subst (λ (h : Stored). StopsAt Cause b h now) (same_is old next first) s
stops_behind Cause (w ∷ a) b old next now (mid, whole, first) s = inr (mid, whole, stops_behind Cause a b mid next now first s)

pub stops_within : {F : Type 0} (C D : Write F → Type 0) → ((w : Write F) → C w → D w) → (ws : List (Write F)) (old now : Stored)
    → StopsAt C ws old now → StopsAt D ws old now
stops_within C D more [] old now s = s
stops_within C D more (w ∷ ws) old now (inl (cause, begun)) = inl (more w cause, begun)
stops_within C D more (w ∷ ws) old now (inr (next, whole, s)) = inr (next, whole, stops_within C D more ws next now s)
