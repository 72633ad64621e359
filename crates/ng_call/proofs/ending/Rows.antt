-- Where each way of ending comes, whatever the call is.
use Rattle.std.proofs.Common.{◌≡◌, inl, inr, ◌⊎◌, ◌∙◌, List, [], ◌∷◌, Option, Some, None, refl, ap, subst}
use Rattle.ng_outside.specs.Contents.{Contents, NotTold, NoFile, Holds}
use Rattle.ng_call.specs.ending.Outside.{Stored, Outside}
use Rattle.ng_call.specs.ending.Steps.{Step, Reads, Checks, MayBeThere, unless_missing, first_fault, Refuses}
use Rattle.ng_call.specs.ending.Writes.{Write, StopsAt, StopsFor}
use Rattle.ng_call.specs.ending.Ends.{Call, Ends, IsRefused, IsStopped}
use Rattle.ng_call.specs.ending.Causes.{Comes, FailsReading, FailsWriting, NoReadFailed, NoWriteFailed, EndsWell, NoneChecked, NoneReads, NoneWrites}
use Rattle.ng_call.proofs.ending.Lists.{none_missing}

none_is_some : {A : Type 0} (a : Option A) (x : A) → a ≡ None → a ≡ Some x → ⊥
none_is_some a x none some = cc

some_same : {A : Type 0} (x y : A) → Some x ≡ Some y → x ≡ y
some_same x y same = cc same

-- The steps

-- a read that failed, where the first fault that is there is another or this one
read_first : {F : Type 0} (contents : Contents) (failed found : F) (later : Option F) → unless_missing contents failed later ≡ Some found
    → (failed ≡ found) ⊎ (later ≡ Some found)
read_first NotTold failed found later is = inr is
read_first NoFile failed found later is = inl (some_same failed found is)
read_first (Holds bytes) failed found later is = inr is

later_first : {F : Type 0} (contents : Contents) (failed found : F) (later : Option F) → MayBeThere contents
    → unless_missing contents failed later ≡ Some found → later ≡ Some found
later_first NotTold failed found later there is = is
later_first NoFile failed found later there is = absurd there
later_first (Holds bytes) failed found later there is = is

-- the fault is the first that is there, or a read failed
pub first_or_failed : {F : Type 0} (o : Outside) (steps : List (Step F)) (found fault : F) → first_fault o.old.files steps ≡ Some found
    → Refuses o steps fault → (fault ≡ found) ⊎ FailsReading o steps fault
first_or_failed o [] found fault is r = absurd r
first_or_failed o (Reads name failed ∷ steps) found fault is (inl read) = inr (inl read)
first_or_failed o (Reads name failed ∷ steps) found fault is (inr later) =
    elim (first_or_failed o steps found fault (later_first (o.old.files name) failed found (first_fault o.old.files steps) later.0 is) later.1) [
      | inl same ↦ inl same
      | inr reading ↦ inr (inr (later.0, reading))
    ]
first_or_failed o (Checks None ∷ steps) found fault is r = first_or_failed o steps found fault is r
first_or_failed o (Checks (Some other) ∷ steps) found fault is r = inl (r ∙ some_same other found is)

-- where no fault is there a read failed
pub none_but_failed : {F : Type 0} (o : Outside) (steps : List (Step F)) (fault : F) → first_fault o.old.files steps ≡ None
    → Refuses o steps fault → FailsReading o steps fault
none_but_failed o [] fault none r = absurd r
none_but_failed o (Reads name failed ∷ steps) fault none (inl read) = inl read
none_but_failed o (Reads name failed ∷ steps) fault none (inr later) =
    inr (later.0, none_but_failed o steps fault (none_missing (o.old.files name) failed (first_fault o.old.files steps) none).1 later.1)
none_but_failed o (Checks None ∷ steps) fault none r = none_but_failed o steps fault none r
none_but_failed o (Checks (Some found) ∷ steps) fault none r = absurd (cc none)

no_reading : {F : Type 0} (o : Outside) (steps : List (Step F)) (fault : F) → NoReadFailed o steps → FailsReading o steps fault → ⊥
no_reading o [] fault quiet failed = failed
no_reading o (Reads name is ∷ steps) fault quiet (inl failed) = quiet.0 failed.1
no_reading o (Reads name is ∷ steps) fault quiet (inr failed) = no_reading o steps fault quiet.1 failed.1
no_reading o (Checks None ∷ steps) fault quiet failed = no_reading o steps fault quiet failed
no_reading o (Checks (Some found) ∷ steps) fault quiet failed = failed

-- a fault of a kind that is not looked for is that of a read
read_alone : {F : Type 0} (P : F → Type 0) (o : Outside) (steps : List (Step F)) (fault : F) → P fault → NoneChecked P steps
    → Refuses o steps fault → FailsReading o steps fault
read_alone P o [] fault of unchecked r = absurd r
read_alone P o (Reads name failed ∷ steps) fault of unchecked (inl read) = inl read
read_alone P o (Reads name failed ∷ steps) fault of unchecked (inr later) = inr (later.0, read_alone P o steps fault of unchecked later.1)
read_alone P o (Checks None ∷ steps) fault of unchecked r = read_alone P o steps fault of unchecked r
read_alone P o (Checks (Some found) ∷ steps) fault of unchecked r = absurd (unchecked.0 (subst (λ f. P f) r of))

-- and one that is not that of a read either does not come of the steps
never_refuses : {F : Type 0} (P : F → Type 0) (o : Outside) (steps : List (Step F)) (fault : F) → P fault → NoneChecked P steps
    → NoneReads P steps → Refuses o steps fault → ⊥
never_refuses P o [] fault of unchecked unread r = r
never_refuses P o (Reads name failed ∷ steps) fault of unchecked unread (inl read) = unread.0 (subst (λ f. P f) read.0 of)
never_refuses P o (Reads name failed ∷ steps) fault of unchecked unread (inr later) =
    never_refuses P o steps fault of unchecked unread.1 later.1
never_refuses P o (Checks None ∷ steps) fault of unchecked unread r = never_refuses P o steps fault of unchecked unread r
never_refuses P o (Checks (Some found) ∷ steps) fault of unchecked unread r = unchecked.0 (subst (λ f. P f) r of)

-- The writes

write_failed : {F : Type 0} (no_memory : F) (o : Outside) (ws : List (Write F)) (fault : F) (old now : Stored)
    → StopsAt (StopsFor no_memory o fault) ws old now → (fault ≡ no_memory) ⊎ FailsWriting o ws fault
write_failed no_memory o [] fault old now stops = absurd stops
write_failed no_memory o (w ∷ ws) fault old now (inl (inl memory, begun)) = inl memory
write_failed no_memory o (w ∷ ws) fault old now (inl (inr failed, begun)) = inr (inl failed)
write_failed no_memory o (w ∷ ws) fault old now (inr (next, whole, stops)) =
    elim (write_failed no_memory o ws fault next now stops) [ inl memory ↦ inl memory | inr failed ↦ inr (inr failed) ]

no_writing : {F : Type 0} (o : Outside) (ws : List (Write F)) (fault : F) → NoWriteFailed o ws → FailsWriting o ws fault → ⊥
no_writing o [] fault quiet failed = failed
no_writing o (w ∷ ws) fault quiet (inl failed) = quiet.0 failed.1
no_writing o (w ∷ ws) fault quiet (inr failed) = no_writing o ws fault quiet.1 failed

never_writes : {F : Type 0} (P : F → Type 0) (o : Outside) (ws : List (Write F)) (fault : F) → P fault → NoneWrites P ws
    → FailsWriting o ws fault → ⊥
never_writes P o [] fault of unwritten failed = failed
never_writes P o (w ∷ ws) fault of unwritten (inl failed) = unwritten.0 (subst (λ f. P f) failed.0 of)
never_writes P o (w ∷ ws) fault of unwritten (inr failed) = never_writes P o ws fault of unwritten.1 failed

-- The call

module _ {F M : Type 0} (call : Call F M) (o : Outside) (made : M) where
  refused_comes : (found fault : F) → first_fault o.old.files call.steps ≡ Some found
      → (fault ≡ call.no_memory) ⊎ Refuses o call.steps fault → Comes call o (Some fault) found
  refused_comes found fault is (inl memory) = inr (inl (ap (λ (f : F). Some f) memory))
  refused_comes found fault is (inr refuses) = elim (first_or_failed o call.steps found fault is refuses) [
    | inl same ↦ inl (ap (λ (f : F). Some f) same)
    | inr reading ↦ inr (inr (fault, refl, reading))
  ]

  -- the first fault that is there comes
  pub fault_comes : (fault : Option F) (found : F) → Ends call o made fault → first_fault o.old.files call.steps ≡ Some found
      → Comes call o fault found
  fault_comes None found e is = absurd (none_is_some _ found e.passed is)
  fault_comes (Some fault) found (inl e) is = refused_comes found fault is e.cause
  fault_comes (Some fault) found (inr (inl e)) is = absurd (none_is_some _ found e.passed is)
  fault_comes (Some fault) found (inr (inr e)) is = absurd (none_is_some _ found e.passed is)

  refused_well : (fault : F) → first_fault o.old.files call.steps ≡ None → NoReadFailed o call.steps
      → (fault ≡ call.no_memory) ⊎ Refuses o call.steps fault → fault ≡ call.no_memory
  refused_well fault fine reads (inl memory) = memory
  refused_well fault fine reads (inr refuses) = absurd (no_reading o call.steps fault reads (none_but_failed o call.steps fault fine refuses))

  stopped_well : (fault : F) → NoWriteFailed o (call.writes made) → (fault ≡ call.no_memory) ⊎ FailsWriting o (call.writes made) fault
      → fault ≡ call.no_memory
  stopped_well fault writes (inl memory) = memory
  stopped_well fault writes (inr failed) = absurd (no_writing o (call.writes made) fault writes failed)

  -- a call ends well where no fault is there and no count rose, unless memory ran out
  pub ends_well : (fault : Option F) → Ends call o made fault → first_fault o.old.files call.steps ≡ None → NoReadFailed o call.steps
      → NoWriteFailed o (call.writes made) → EndsWell call fault
  ends_well None e fine reads writes = inl refl
  ends_well (Some fault) (inl e) fine reads writes = inr (ap (λ (f : F). Some f) (refused_well fault fine reads e.cause))
  ends_well (Some fault) (inr (inl e)) fine reads writes = inr (ap (λ (f : F). Some f) e.cause)
  ends_well (Some fault) (inr (inr e)) fine reads writes =
      inr (ap (λ (f : F). Some f) (stopped_well fault writes (write_failed call.no_memory o (call.writes made) fault o.old o.now e.stops)))

  -- a fault of reading comes only where a file's count rose: one that is not looked for, nor that of a write or of memory
  module _ (P : F → Type 0) (fault : F) (of : P fault) (memory : P call.no_memory → ⊥) where
    not_memory : fault ≡ call.no_memory → ⊥
    not_memory is = memory (subst (λ f. P f) is of)

    stopped_reading : (fault ≡ call.no_memory) ⊎ FailsWriting o (call.writes made) fault → NoneWrites P (call.writes made) → ⊥
    stopped_reading (inl is) unwritten = not_memory is
    stopped_reading (inr failed) unwritten = never_writes P o (call.writes made) fault of unwritten failed

    refused_reading : (fault ≡ call.no_memory) ⊎ Refuses o call.steps fault → NoneChecked P call.steps → FailsReading o call.steps fault
    refused_reading (inl is) unchecked = absurd (not_memory is)
    refused_reading (inr refuses) unchecked = read_alone P o call.steps fault of unchecked refuses

    pub reads_only : Ends call o made (Some fault) → NoneChecked P call.steps → NoneWrites P (call.writes made)
        → FailsReading o call.steps fault
    reads_only (inl e) unchecked unwritten = refused_reading e.cause unchecked
    reads_only (inr (inl e)) unchecked unwritten = absurd (not_memory e.cause)
    reads_only (inr (inr e)) unchecked unwritten =
        absurd (stopped_reading (write_failed call.no_memory o (call.writes made) fault o.old o.now e.stops) unwritten)

    -- after a fault that is not that of a write or of memory nothing was run and nothing written
    pub refused_alone : Ends call o made (Some fault) → NoneWrites P (call.writes made) → IsRefused call o made fault
    refused_alone (inl e) unwritten = e
    refused_alone (inr (inl e)) unwritten = absurd (not_memory e.cause)
    refused_alone (inr (inr e)) unwritten =
        absurd (stopped_reading (write_failed call.no_memory o (call.writes made) fault o.old o.now e.stops) unwritten)

    refused_writing : (fault ≡ call.no_memory) ⊎ Refuses o call.steps fault → NoneChecked P call.steps → NoneReads P call.steps → ⊥
    refused_writing (inl is) unchecked unread = not_memory is
    refused_writing (inr refuses) unchecked unread = never_refuses P o call.steps fault of unchecked unread refuses

    stopped_writing : (fault ≡ call.no_memory) ⊎ FailsWriting o (call.writes made) fault → FailsWriting o (call.writes made) fault
    stopped_writing (inl is) = absurd (not_memory is)
    stopped_writing (inr failed) = failed

    -- a fault of writing comes only where the count of a place that is written rose
    pub writes_only : Ends call o made (Some fault) → NoneChecked P call.steps → NoneReads P call.steps
        → FailsWriting o (call.writes made) fault
    writes_only (inl e) unchecked unread = absurd (refused_writing e.cause unchecked unread)
    writes_only (inr (inl e)) unchecked unread = absurd (not_memory e.cause)
    writes_only (inr (inr e)) unchecked unread = stopped_writing (write_failed call.no_memory o (call.writes made) fault o.old o.now e.stops)

    -- a fault that is neither looked for nor that of a read, of a write or of memory doesn't come
    pub never_comes : Ends call o made (Some fault) → NoneChecked P call.steps → NoneReads P call.steps → NoneWrites P (call.writes made) → ⊥
    never_comes (inl e) unchecked unread unwritten = refused_writing e.cause unchecked unread
    never_comes (inr (inl e)) unchecked unread unwritten = not_memory e.cause
    never_comes (inr (inr e)) unchecked unread unwritten =
        stopped_reading (write_failed call.no_memory o (call.writes made) fault o.old o.now e.stops) unwritten

    -- after it the run was whole, and of what was to be written there is a prefix
    pub stopped_alone : Ends call o made (Some fault) → NoneChecked P call.steps → NoneReads P call.steps → IsStopped call o made fault
    stopped_alone (inl e) unchecked unread = absurd (refused_writing e.cause unchecked unread)
    stopped_alone (inr (inl e)) unchecked unread = absurd (not_memory e.cause)
    stopped_alone (inr (inr e)) unchecked unread = e
