-- What holds of each call of a task follows from how it ends.
use Rattle.std.proofs.Common.{◌≡◌, ◌≢◌, ◌⊎◌, inl, inr, ◌∙◌, ℕ, Bool, true, false, true≢false, ◌==◌, ◌||◌, List, Option, Some, None, IfSome, refl, sym, ap, subst}
use Rattle.std.proofs.lemmas.Bool.{eq-eqb}
use Rattle.ng_outside.specs.Contents.{Contents}
use Rattle.ng_call.specs.ending.Behaves.{Behaves, DoesAll, HasRun, IsGiven, LeavesPrefix, ReadsOnly, RefusesQuietly, UsageComes}
use Rattle.ng_call.specs.ending.Causes.{FailsReading, FailsWriting, NoneChecked, NoneReads, NoneWrites}
use Rattle.ng_call.specs.ending.Each.{AreApart}
use Rattle.ng_call.specs.ending.Ends.{Ends, IsRefused, IsStopped}
use Rattle.ng_call.specs.ending.Outside.{Outside, Same}
use Rattle.ng_call.specs.ending.Task.{Task, EndsBy, EndsUnsaid, EndsWith, call_of, status_by, usage_status, reading_status, memory_status, writing_status}
use Rattle.ng_call.proofs.ending.Each.{ends_keep, each_written}
use Rattle.ng_call.proofs.ending.Rows.{fault_comes, ends_well, reads_only, writes_only, refused_alone, stopped_alone, never_comes}
use Rattle.ng_call.proofs.ending.Sorts.{less_checked, less_read, less_written}

-- the status of a fault that comes from outside of what was read
abbrev pub is_outside : ℕ → Bool
is_outside status = (status == usage_status) || ((status == reading_status) || ((status == memory_status) || (status == writing_status)))

-- What is asked of a task: the files tell one input at most, and the statuses tell faults apart.
pub record IsTask {F M : Type 0} (task : Task F M) : Type 0 where
  pub one : (files : List ℕ → Contents) (words : task.Words) (a b : task.Input) → task.IsFound files words a → task.Tells files words b → a ≡ b
  -- what is looked for has no status of outside; each read has that of a read, and each write that of a write
  pub checked : (words : task.Words) (input : task.Input) → NoneChecked (λ f. is_outside (task.fault_status f) ≡ true) (task.steps words input)
  pub read : (words : task.Words) (input : task.Input) → NoneReads (λ f. task.fault_status f ≢ reading_status) (task.steps words input)
  pub written : (words : task.Words) (input : task.Input) (made : M) → NoneWrites (λ f. task.fault_status f ≢ writing_status) (task.writes words input made)
  pub usage : task.fault_status task.usage ≡ usage_status
  pub memory : task.fault_status task.no_memory ≡ memory_status

distinct : (a b : ℕ) → (a == b) ≡ false → a ≢ b
distinct a b apart = λ same. true≢false (sym (eq-eqb a b same) ∙ apart)

-- no two of these statuses are one
is_else : (n a b : ℕ) → n ≡ a → n ≡ b → a ≢ b → ⊥
is_else n a b one other differ = differ (sym one ∙ other)

module _ {F M : Type 0} (task : Task F M) (T : IsTask task) where
  -- FAULTS OF A STATUS

  module _ (words : task.Words) (input : task.Input) (n : ℕ) where
    abbrev Has : F → Type 0
    Has f = task.fault_status f ≡ n

    unchecked : is_outside n ≡ true → NoneChecked Has (task.steps words input)
    unchecked outside =
        less_checked (λ f. is_outside (task.fault_status f) ≡ true) Has (λ f is. ap is_outside is ∙ outside) (task.steps words input) (T.checked words input)

    unread : n ≢ reading_status → NoneReads Has (task.steps words input)
    unread differ =
        less_read (λ f. task.fault_status f ≢ reading_status) Has (λ f is. λ other. is_else (task.fault_status f) n reading_status is other differ)
        (task.steps words input) (T.read words input)

    unwritten : n ≢ writing_status → (made : M) → NoneWrites Has (task.writes words input made)
    unwritten differ made =
        less_written (λ f. task.fault_status f ≢ writing_status) Has (λ f is. λ other. is_else (task.fault_status f) n writing_status is other differ)
        (task.writes words input made) (T.written words input made)

    forgets : n ≢ memory_status → Has task.no_memory → ⊥
    forgets differ is = is_else (task.fault_status task.no_memory) n memory_status is T.memory differ

  -- WORDS IN FORM

  module _ (words : task.Words) (input : task.Input) (o : Outside) (made : M) where
    never_usage : Ends (call_of task words input) o made (Some task.usage) → ⊥
    never_usage e =
        never_comes (call_of task words input) o made (Has words input usage_status) task.usage T.usage (forgets words input usage_status (distinct usage_status memory_status refl)) e
        (unchecked words input usage_status refl) (unread words input usage_status (distinct usage_status reading_status refl)) (unwritten words input usage_status (distinct usage_status writing_status refl) made)

    only_reading : (f : F) → task.fault_status f ≡ reading_status → Ends (call_of task words input) o made (Some f)
        → FailsReading o (task.steps words input) f
    only_reading f is e =
        reads_only (call_of task words input) o made (Has words input reading_status) f is (forgets words input reading_status (distinct reading_status memory_status refl)) e
        (unchecked words input reading_status refl) (unwritten words input reading_status (distinct reading_status writing_status refl) made)

    only_writing : (f : F) → task.fault_status f ≡ writing_status → Ends (call_of task words input) o made (Some f)
        → FailsWriting o (task.writes words input made) f
    only_writing f is e =
        writes_only (call_of task words input) o made (Has words input writing_status) f is (forgets words input writing_status (distinct writing_status memory_status refl)) e
        (unchecked words input writing_status refl) (unread words input writing_status (distinct writing_status reading_status refl))

    stopped : (f : F) → task.fault_status f ≡ writing_status → Ends (call_of task words input) o made (Some f)
        → IsStopped (call_of task words input) o made f
    stopped f is e =
        stopped_alone (call_of task words input) o made (Has words input writing_status) f is (forgets words input writing_status (distinct writing_status memory_status refl)) e
        (unchecked words input writing_status refl) (unread words input writing_status (distinct writing_status reading_status refl))

    quietly : (f : F) → task.fault_status f ≢ writing_status → task.fault_status f ≢ memory_status → Ends (call_of task words input) o made (Some f)
        → (made ≡ task.nothing) × Same o.old o.now
    quietly f written memory e =
        let refused : IsRefused (call_of task words input) o made f =
        refused_alone (call_of task words input) o made (Has words input (task.fault_status f)) f refl (forgets words input (task.fault_status f) memory) e
        (unwritten words input (task.fault_status f) written made) in
        (refused.nothing, refused.same)

    has_run : (fault : Option F) → HasRun task fault → Ends (call_of task words input) o made fault → task.IsMade words input made
    has_run None ran e = e.ran
    has_run (Some f) ran e = (stopped f ran e).ran

  -- THE CALL

  module _ (o : Outside) (status : ℕ) (made : M) (fault : Option F) where
    abbrev With : task.Words → Type 0
    With words = EndsWith task words o status made fault

    -- the ends of a call whose files tell this
    record Given (words : task.Words) (input : task.Input) : Type 0 where
      ends : Ends (call_of task words input) o made fault
      status_is : status ≡ status_by task words input made fault

    given_ends : (said : Option task.Words) (words : task.Words) (input : task.Input) → EndsBy task said o status made fault
        → IsGiven task said o words input → Given words input
    given_ends None words input e given = absurd (cc given.said_is)
    given_ends (Some other) words input e given =
        let same : other ≡ words = cc given.said_is in
        let at : With words = subst With same e in
        let found : at.input ≡ input = T.one o.old.files words at.input input at.is_found given.told in
        record {
          ends = subst (λ (i : task.Input). Ends (call_of task words i) o made fault) found at.ends;
          status_is = subst (λ (i : task.Input). status ≡ status_by task words i made fault) found at.status_is;
        }

    -- the ends with this fault
    ends_as : (words : task.Words) (e : With words) (f : F) → fault ≡ Some f → Ends (call_of task words e.input) o made (Some f)
    ends_as words e f is = subst (λ (x : Option F). Ends (call_of task words e.input) o made x) is e.ends

    -- words that are not in form end with no other fault
    unsaid_has : (e : EndsUnsaid task o status made fault) (f : F) → fault ≡ Some f → (f ≡ task.usage) ⊎ (f ≡ task.no_memory)
    unsaid_has e f is = by e.cause
      where
        by : (fault ≡ Some task.usage) ⊎ (fault ≡ Some task.no_memory) → (f ≡ task.usage) ⊎ (f ≡ task.no_memory)
        by (inl usage) = inl (cc (is, usage))
        by (inr memory) = inr (cc (is, memory))

    unsaid_never : (e : EndsUnsaid task o status made fault) (f : F) → fault ≡ Some f → task.fault_status f ≢ usage_status
        → task.fault_status f ≢ memory_status → ⊥
    unsaid_never e f is usage memory = by (unsaid_has e f is)
      where
        by : (f ≡ task.usage) ⊎ (f ≡ task.no_memory) → ⊥
        by (inl same) = usage (ap task.fault_status same ∙ T.usage)
        by (inr same) = memory (ap task.fault_status same ∙ T.memory)

    failed_status : (said : Option task.Words) → EndsBy task said o status made fault → (f : F) → fault ≡ Some f → status ≡ task.fault_status f
    failed_status None e f is = subst (λ (x : Option F). IfSome x (λ f. status ≡ task.fault_status f)) is e.status_is
    failed_status (Some words) e f is = subst (λ (x : Option F). status ≡ status_by task words e.input made x) is e.status_is

    usage_comes : (said : Option task.Words) → EndsBy task said o status made fault → UsageComes task said fault
    usage_comes None e = record { comes = λ none. e.cause; only = λ is. refl }
    usage_comes (Some words) e = record {
      comes = λ none. absurd (cc none);
      only = λ is. absurd (never_usage words e.input o made (ends_as words e task.usage is));
    }

    reading_only : (said : Option task.Words) → EndsBy task said o status made fault → ReadsOnly task said o fault
    reading_only None e = λ f is reading.
        absurd (unsaid_never e f is (λ other. is_else (task.fault_status f) reading_status usage_status reading other (distinct reading_status usage_status refl))
        (λ other. is_else (task.fault_status f) reading_status memory_status reading other (distinct reading_status memory_status refl)))
    reading_only (Some words) e = λ f is reading. record {
      words = words;
      said_is = refl;
      input = e.input;
      is_found = e.is_found;
      fails = only_reading words e.input o made f reading (ends_as words e f is);
    }

    leaves_prefix : (said : Option task.Words) → EndsBy task said o status made fault → LeavesPrefix task said o made fault
    leaves_prefix None e = λ f is writing.
        absurd (unsaid_never e f is (λ other. is_else (task.fault_status f) writing_status usage_status writing other (distinct writing_status usage_status refl))
        (λ other. is_else (task.fault_status f) writing_status memory_status writing other (distinct writing_status memory_status refl)))
    leaves_prefix (Some words) e = λ f is writing. record {
      words = words;
      said_is = refl;
      input = e.input;
      is_found = e.is_found;
      fails = only_writing words e.input o made f writing (ends_as words e f is);
      stopped = stopped words e.input o made f writing (ends_as words e f is);
    }

    refuses_quietly : (said : Option task.Words) → EndsBy task said o status made fault → RefusesQuietly task said o made fault
    refuses_quietly None e = λ f is writing memory. (e.nothing, e.same)
    refuses_quietly (Some words) e = λ f is writing memory. quietly words e.input o made f writing memory (ends_as words e f is)

  pub behaves : (said : Option task.Words)
      → ((words : task.Words) (input : task.Input) (made : M) → said ≡ Some words → AreApart (task.writes words input made))
      → (o : Outside) (status : ℕ) (made : M) (fault : Option F) → EndsBy task said o status made fault → Behaves task said o status made fault
  behaves said apart o status made fault e =
      let at : (words : task.Words) (input : task.Input) → IsGiven task said o words input → Given o status made fault words input =
      λ words input given. given_ends o status made fault said words input e given in
      let done : DoesAll task said o made fault = λ words input given well.
      subst (λ (x : Option F). Ends (call_of task words input) o made x) well (at words input given).ends in
      record {
        ends = e;
        status_is = record {
          failed = failed_status o status made fault said e;
          well = λ words input given well.
              subst (λ (x : Option F). status ≡ status_by task words input made x) well (at words input given).status_is;
        };
        usage = usage_comes o status made fault said e;
        comes = λ words input due given first. fault_comes (call_of task words input) o made fault due (at words input given).ends first;
        complete = λ words input given fine reads writes.
            ends_well (call_of task words input) o made fault (at words input given).ends fine reads writes;
        done = done;
        whole = λ words input given ran. has_run words input o made fault ran (at words input given).ends;
        reads = reading_only o status made fault said e;
        prefix = leaves_prefix o status made fault said e;
        quiet = refuses_quietly o status made fault said e;
        others = λ words input place given spares.
            ends_keep (call_of task words input) o made fault place (at words input given).ends spares;
        each = λ words input given well.
            each_written (task.writes words input made) o.old o.now (apart words input made (given.said_is)) (done words input given well).written;
      }
