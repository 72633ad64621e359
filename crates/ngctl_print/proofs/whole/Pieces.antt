-- A text that is gathered and put piece by piece.
use Rattle.std.proofs.Common.{◌≡◌, ◌∙◌, ℕ, ◌+◌, ◌<◌, ◌≤◌, List, [], ◌∷◌, ◌++◌, length, get_or, take, drop, Option, Some, Result, Ok, Err, refl, sym, ap, subst, arith, append_assoc, append-nil}
use Rattle.std.specs.Io.KnownBytes.{Appends}
use Rattle.std.specs.List.{flat_map}
use Rattle.std.specs.Prelude.{OnOk}
use Rattle.std.proofs.lemmas.List.{take_all}
use Rattle.ng_outside.specs.Count.{Rose}
use Rattle.ng_outside.specs.Write.{AppendsPrefix, Written, none_written, more_written, prefix_written, written_prefix, all_written, AppendsPrefix-more}
use Rattle.ngctl_print.specs.Prints.{Prints}
use Rattle.ngctl_print.specs.whole.Pieces.{Gathers}
use Rattle.ngctl_print.specs.declared.stop.PrintStop.{PrintStop}
use Rattle.ngctl_print.specs.declared.stop.PrintStop.TheVariants.{NoMemory}
use Rattle.ngctl_print.proofs.Printing.{flat_map-take_more, flat_map-split}

-- a text more was gathered
pub gathered_more : (begun now : Option (List ℕ)) (text left after more : List ℕ) → Written begun now text left
    → Appends (Some left) (Some after) more
    → Written begun now (text ++ more) after
gathered_more begun now text left after more so_far is = record {
  done = so_far.done;
  split = ap (λ (l : List ℕ). so_far.done ++ l) is
      ∙ sym (append_assoc so_far.done left more)
      ∙ ap (λ (l : List ℕ). l ++ more) so_far.split;
  grown = so_far.grown;
}

-- and it stays gathered
pub stays : (begun now : Option (List ℕ)) (before after : ℕ) (text left : List ℕ) → before ≤ after → Written begun now text left
    → Gathers begun now before after (Ok tt) text left
stays begun now before after text left counts so_far =
    record { whole = so_far; prefix = tt; counts = counts; cause = λ e. absurd (cc e) }

-- there was no memory for more
pub short : (begun now : Option (List ℕ)) (before after : ℕ) (text left more gathered : List ℕ) → before ≤ after
    → Written begun now text left
    → Gathers begun now before after (Err NoMemory) (text ++ more) gathered
short begun now before after text left more gathered counts so_far = record {
  whole = tt;
  prefix = AppendsPrefix-more begun now text more (written_prefix begun now text left so_far);
  counts = counts;
  cause = λ e. absurd (cc e);
}

-- what was gathered is put
pub put_on : (begun now next : Option (List ℕ)) (f0 f1 : ℕ) (result : Result (Unit {0}) PrintStop) (text left after : List ℕ)
    → Written begun now text left
    → Prints now next f0 f1 result left
    → OnOk result (after ≡ [])
    → Gathers begun next f0 f1 result text after
put_on begun now next f0 f1 (Ok x) text left after so_far put none = record {
  whole =
      subst (λ (l : List ℕ). Written begun next text l) (sym none)
      (more_written begun now next text left left [] so_far (sym (append-nil left)) put.whole);
  prefix = tt;
  counts = put.counts;
  cause = put.cause;
}
put_on begun now next f0 f1 (Err stop) text left after so_far put none = record {
  whole = tt;
  prefix = prefix_written begun now next text left left [] so_far (sym (append-nil left)) put.front;
  counts = put.counts;
  cause = put.cause;
}

-- and it was the last of the text
pub put_last : (begun now next : Option (List ℕ)) (f0 f1 f2 : ℕ) (result : Result (Unit {0}) PrintStop) (text left : List ℕ)
    → f0 ≤ f1
    → Written begun now text left
    → Prints now next f1 f2 result left
    → Prints begun next f0 f2 result text
put_last begun now next f0 f1 f2 (Ok x) text left counts so_far put = record {
  whole =
      all_written begun next text []
      (more_written begun now next text left left [] so_far (sym (append-nil left)) put.whole) refl;
  front = tt;
  counts = let more : f1 ≤ f2 = put.counts in omega arith;
  cause = λ e. absurd (cc e);
}
put_last begun now next f0 f1 f2 (Err stop) text left counts so_far put = record {
  whole = tt;
  front = prefix_written begun now next text left left [] so_far (sym (append-nil left)) put.front;
  counts = let more : f1 ≤ f2 = put.counts in omega arith;
  cause = λ e. let rose : Rose f1 f2 = put.cause e in omega (arith, rose);
}

-- it stopped, with more to come
pub stopped_with : (begun now : Option (List ℕ)) (f0 f1 f2 : ℕ) (stop : PrintStop) (text more gathered other : List ℕ) → f0 ≤ f1
    → Gathers begun now f1 f2 (Err stop) text gathered
    → Gathers begun now f0 f2 (Err stop) (text ++ more) other
stopped_with begun now f0 f1 f2 stop text more gathered other counts stopped = record {
  whole = tt;
  prefix = AppendsPrefix-more begun now text more stopped.prefix;
  counts = let later : f1 ≤ f2 = stopped.counts in omega arith;
  cause = λ e. let rose : Rose f1 f2 = stopped.cause e in omega (arith, rose);
}

-- a `?` hands the stop on as it is
pub handed_on : (begun now : Option (List ℕ)) (f0 f1 : ℕ) (result : Result (Unit {0}) PrintStop) (stop other : PrintStop)
    (text gathered : List ℕ)
    → result ≡ Err other
    → other ≡ stop
    → Gathers begun now f0 f1 (Err stop) text gathered
    → Gathers begun now f0 f1 result text gathered
handed_on begun now f0 f1 result stop other text gathered is same stopped =
    subst (λ (r : Result (Unit {0}) PrintStop). Gathers begun now f0 f1 r text gathered) (sym (is ∙ ap (λ (s : PrintStop). Err s) same)) stopped

-- and so does a print
pub stopped_text : (begun now : Option (List ℕ)) (f0 f1 : ℕ) (result : Result (Unit {0}) PrintStop) (stop other : PrintStop)
    (text gathered : List ℕ)
    → result ≡ Err other
    → other ≡ stop
    → Gathers begun now f0 f1 (Err stop) text gathered
    → Prints begun now f0 f1 result text
stopped_text begun now f0 f1 result stop other text gathered is same stopped =
    subst (λ (r : Result (Unit {0}) PrintStop). Prints begun now f0 f1 r text) (sym (is ∙ ap (λ (s : PrintStop). Err s) same))
    (record { whole = tt; front = stopped.prefix; counts = stopped.counts; cause = stopped.cause })

-- The texts of items, one after the other

module _ {X : Type 0} (f : X → List ℕ) (xs : List X) (i : ℕ) (x : X) (inside : i < length xs) where
  pub one_more : (begun now : Option (List ℕ)) (left : List ℕ) → Written begun now (flat_map f (take i xs) ++ f (get_or xs i x)) left
      → Written begun now (flat_map f (take (i + 1) xs)) left
  one_more begun now left so_far = rw (flat_map-take_more f xs i x inside) so_far

  pub one_stopped : (begun now : Option (List ℕ)) (f0 f1 f2 : ℕ) (stop : PrintStop) (gathered other : List ℕ) → f0 ≤ f1
      → Gathers begun now f1 f2 (Err stop) (flat_map f (take i xs) ++ f (get_or xs i x)) gathered
      → Gathers begun now f0 f2 (Err stop) (flat_map f xs) other
  one_stopped begun now f0 f1 f2 stop gathered other counts stopped =
      subst (λ (l : List ℕ). Gathers begun now f0 f2 (Err stop) l other)
      (append_assoc (flat_map f (take i xs)) (f (get_or xs i x)) (flat_map f (drop (i + 1) xs)) ∙ sym (flat_map-split f xs i x inside))
      (stopped_with begun now f0 f1 f2 stop (flat_map f (take i xs) ++ f (get_or xs i x)) (flat_map f (drop (i + 1) xs)) gathered other counts stopped)

pub all_gathered : {X : Type 0} (f : X → List ℕ) (xs : List X) (i : ℕ) (begun now : Option (List ℕ)) (left : List ℕ)
    → length xs ≤ i
    → Written begun now (flat_map f (take i xs)) left
    → Written begun now (flat_map f xs) left
all_gathered f xs i begun now left all so_far =
    subst (λ (l : List _). Written begun now (flat_map f l) left) (take_all i xs all) so_far
