-- Files that are written have names of their own, where the words are in form.
use Rattle.std.proofs.Common.{◌≡◌, ◌≢◌, ℕ, ◌+◌, Bool, true, false, not, ◌||◌, if◌then◌else◌, List, [], ◌∷◌, ◌++◌, Option, Some, None, refl, sym, subst}
use Rattle.std.specs.Str.{bytes_eq}
use Rattle.std.proofs.lemmas.Bool.{eq-eqb}
use Rattle.ng_base.specs.declared.event.Event.{Event}
use Rattle.ng_base.specs.declared.kind.Kind.{Kind}
use Rattle.ng_machine.specs.World.{Port}
use Rattle.ng_args.specs.Lists.{has_word}
use Rattle.ng_base.specs.Names.{are_different}
use Rattle.ng_args.specs.Run.{words_of, ports_from, listed}
use Rattle.ng_args.specs.Together.{is_file, outs}
use Rattle.ng_args.specs.declared.port.PortWord.{PortWord}
use Rattle.ng_args.specs.declared.words.Words.{Words}
use Rattle.ng_call.specs.ending.Outside.{ToSink, ToFile}
use Rattle.ng_call.specs.ending.Writes.{Write}
use Rattle.ng_call.specs.ending.Each.{Spares, AreApart}
use Rattle.ng_call.specs.declared.ended.Fault.{Fault}
use Rattle.ng_call.specs.Found.{Found}
use Rattle.ng_call.specs.Run.{world_in}
use Rattle.ng_call.specs.Writes.{out_write, out_writes, journal_writes, writes_in}
use Rattle.ng_call.proofs.Said.{and_left, and_right, in_form}

or_left : (a b : Bool) → (a || b) ≡ false → a ≡ false
or_left true b e = absurd (cc e)
or_left false b e = refl

or_right : (a b : Bool) → (a || b) ≡ false → b ≡ false
or_right true b e = absurd (cc e)
or_right false b e = e

not_true : (a : Bool) → not a ≡ true → a ≡ false
not_true true e = absurd (cc e)
not_true false e = refl

-- a name that is not among them is spared
bytes_eq_same : (a : List ℕ) → bytes_eq a a ≡ true
bytes_eq_same [] = refl
bytes_eq_same (x ∷ a) = rw (eq-eqb x x refl) (bytes_eq_same a)

other_name : (a b : List ℕ) → bytes_eq a b ≡ false → b ≢ a
other_name a b apart = λ e. let same : bytes_eq a b ≡ true = subst (λ (c : List ℕ). bytes_eq a c ≡ true) (sym e) (bytes_eq_same a) in absurd (cc (same, apart))

journal_spares : (name : List ℕ) (j : Option (List ℕ)) (journal : List Event) → has_word (listed j) name ≡ false → Spares (ToFile name) (journal_writes j journal)
journal_spares name None journal absent = tt
journal_spares name (Some file) journal absent = (other_name file name (or_left (bytes_eq file name) false absent), tt)

step_spares : (name f : List ℕ) (p : ℕ) (port : Port) (os rest : List (List ℕ)) (ws more : List (Write Fault)) → has_word ((if is_file f then f ∷ os else os) ++ rest) name ≡ false
    → (has_word (os ++ rest) name ≡ false → Spares (ToFile name) (ws ++ more)) → Spares (ToFile name) ((if is_file f then out_write p f port ∷ ws else ws) ++ more)
step_spares name [] p port os rest ws more absent later = later absent
step_spares name (b ∷ f) p port os rest ws more absent later =
    (other_name (b ∷ f) name (or_left (bytes_eq (b ∷ f) name) (has_word (os ++ rest) name) absent), later (or_right (bytes_eq (b ∷ f) name) (has_word (os ++ rest) name) absent))

outs_spare : (name : List ℕ) (p : ℕ) (words : List PortWord) (ports : List Port) (j : Option (List ℕ)) (journal : List Event) → has_word (outs words ++ listed j) name ≡ false
    → Spares (ToFile name) (out_writes p words ports ++ journal_writes j journal)
outs_spare name p [] ports j journal absent = journal_spares name j journal absent
outs_spare name p (word ∷ words) [] j journal absent = journal_spares name j journal (rest_spared (outs (word ∷ words)) absent)
  where
    rest_spared : (os : List (List ℕ)) → has_word (os ++ listed j) name ≡ false → has_word (listed j) name ≡ false
    rest_spared [] absent = absent
    rest_spared (o ∷ os) absent = rest_spared os (or_right (bytes_eq o name) (has_word (os ++ listed j) name) absent)
outs_spare name p (word ∷ words) (port ∷ ports) j journal absent =
    step_spares name word.out_file p port (outs words) (listed j) (out_writes (p + 1) words ports) (journal_writes j journal) absent (λ absent. outs_spare name (p + 1) words ports j journal absent)

-- so they are apart
step_apart : (f : List ℕ) (p : ℕ) (port : Port) (os rest : List (List ℕ)) (ws more : List (Write Fault)) → are_different ((if is_file f then f ∷ os else os) ++ rest) ≡ true
    → ((name : List ℕ) → has_word (os ++ rest) name ≡ false → Spares (ToFile name) (ws ++ more)) → (are_different (os ++ rest) ≡ true → AreApart (ws ++ more))
    → AreApart ((if is_file f then out_write p f port ∷ ws else ws) ++ more)
step_apart [] p port os rest ws more all spares later = later all
step_apart (b ∷ f) p port os rest ws more all spares later = (
  spares (b ∷ f) (not_true (has_word (os ++ rest) (b ∷ f)) (and_left (not (has_word (os ++ rest) (b ∷ f))) (are_different (os ++ rest)) all)),
  later (and_right (not (has_word (os ++ rest) (b ∷ f))) (are_different (os ++ rest)) all),
)

outs_apart : (p : ℕ) (words : List PortWord) (ports : List Port) (j : Option (List ℕ)) (journal : List Event) → are_different (outs words ++ listed j) ≡ true
    → AreApart (out_writes p words ports ++ journal_writes j journal)
outs_apart p [] ports None journal all = tt
outs_apart p [] ports (Some file) journal all = (tt, tt)
outs_apart p (word ∷ words) [] None journal all = tt
outs_apart p (word ∷ words) [] (Some file) journal all = (tt, tt)
outs_apart p (word ∷ words) (port ∷ ports) j journal all =
    step_apart word.out_file p port (outs words) (listed j) (out_writes (p + 1) words ports) (journal_writes j journal) all
    (λ name absent. outs_spare name (p + 1) words ports j journal absent) (λ all. outs_apart (p + 1) words ports j journal all)

-- and none is the sink
no_sink : (p : ℕ) (words : List PortWord) (ports : List Port) (j : Option (List ℕ)) (journal : List Event) → Spares {F = Fault} ToSink (out_writes p words ports ++ journal_writes j journal)
no_sink p [] ports None journal = tt
no_sink p [] ports (Some file) journal = (tt, tt)
no_sink p (word ∷ words) [] None journal = tt
no_sink p (word ∷ words) [] (Some file) journal = (tt, tt)
no_sink p (word ∷ words) (port ∷ ports) j journal = step (is_file word.out_file) (no_sink (p + 1) words ports j journal)
  where
    step : (test : Bool) → Spares {F = Fault} ToSink (out_writes (p + 1) words ports ++ journal_writes j journal)
        → Spares {F = Fault} ToSink ((if test then out_write p word.out_file port ∷ out_writes (p + 1) words ports else out_writes (p + 1) words ports) ++ journal_writes j journal)
    step true rest = (tt, rest)
    step false rest = rest

pub writes_apart : (list : List (List ℕ)) (kinds : List Kind) (w : Words) (found : Found) (journal : List Event) → words_of list ≡ Some w → AreApart (writes_in kinds w found journal)
writes_apart list kinds w found journal e =
    (no_sink 0 (ports_from w.source) (world_in kinds w found journal).ports w.journal journal, outs_apart 0 (ports_from w.source) (world_in kinds w found journal).ports w.journal journal (in_form list w e).lone)
