-- Prints, one behind the other.
use Rattle.std.proofs.Common.{◌≡◌, ℕ, ◌+◌, ◌<◌, ◌≤◌, List, [], ◌∷◌, ◌++◌, length, get_or, take, drop, Option, Result, Ok, Err, refl, sym, ap, ◌∙◌, subst, arith, append-nil, add-one, drop-cons, take-append-drop}
use Rattle.std.proofs.KnownBytes.{Appends-trans}
use Rattle.std.proofs.lemmas.List.{take_all, take_more}
use Rattle.std.proofs.lemmas.List.Concat.{flat_map-append}
use Rattle.std.specs.List.{flat_map}
use Rattle.ng_outside.specs.Count.{Rose}
use Rattle.ng_outside.specs.Write.{Appends-prefix, AppendsPrefix-more}
use Rattle.ngctl_print.specs.Prints.{Prints}
use Rattle.ngctl_print.specs.declared.stop.PrintStop.{PrintStop}

-- a text, and then another
pub printed_more : (old now next : Option (List ℕ)) (f0 f1 f2 : ℕ) (result : Result (Unit {0}) PrintStop) (text more : List ℕ)
    → Prints old now f0 f1 (Ok tt) text → Prints now next f1 f2 result more → Prints old next f0 f2 result (text ++ more)
printed_more old now next f0 f1 f2 (Ok x) text more first second = record {
  whole = Appends-trans old now next text more first.whole second.whole;
  front = tt;
  counts = let a : f0 ≤ f1 = first.counts in let b : f1 ≤ f2 = second.counts in omega arith;
  cause = λ e. absurd (cc e);
}
printed_more old now next f0 f1 f2 (Err stop) text more first second = record {
  whole = tt;
  front = Appends-prefix old now next text more first.whole second.front;
  counts = let a : f0 ≤ f1 = first.counts in let b : f1 ≤ f2 = second.counts in omega arith;
  cause = λ e. let a : f0 ≤ f1 = first.counts in let rose : Rose f1 f2 = second.cause e in omega (arith, rose);
}

-- a print that stopped, with more to print
pub stopped_before : (old now : Option (List ℕ)) (f0 f1 : ℕ) (stop : PrintStop) (text more : List ℕ)
    → Prints old now f0 f1 (Err stop) text → Prints old now f0 f1 (Err stop) (text ++ more)
stopped_before old now f0 f1 stop text more first = record {
  whole = tt;
  front = AppendsPrefix-more old now text more first.front;
  counts = first.counts;
  cause = first.cause;
}

-- the same text in other words
pub same_text : (old now : Option (List ℕ)) (f0 f1 : ℕ) (result : Result (Unit {0}) PrintStop) (text other : List ℕ) → text ≡ other
    → Prints old now f0 f1 result text → Prints old now f0 f1 result other
same_text old now f0 f1 result text other same printed = subst (λ (t : List ℕ). Prints old now f0 f1 result t) same printed

-- a `?` hands the stop on as it is
pub handed_on : (old now : Option (List ℕ)) (f0 f1 : ℕ) (result : Result (Unit {0}) PrintStop) (stop other : PrintStop) (text : List ℕ) → result ≡ Err other → other ≡ stop
    → Prints old now f0 f1 (Err stop) text → Prints old now f0 f1 result text
handed_on old now f0 f1 result stop other text is same stopped =
    subst (λ (r : Result (Unit {0}) PrintStop). Prints old now f0 f1 r text) (sym (is ∙ ap (λ (s : PrintStop). Err s) same)) stopped

-- Texts of the items of a list, one behind the other.

pub flat_map-take_more : {X : Type 0} (f : X → List ℕ) (xs : List X) (i : ℕ) (d : X) → i < length xs → flat_map f (take (i + 1) xs) ≡ flat_map f (take i xs) ++ f (get_or xs i d)
flat_map-take_more f xs i d inside =
    ap (λ (l : List _). flat_map f l) (take_more xs i d inside) ∙ flat_map-append f (take i xs) (get_or xs i d ∷ [])
    ∙ ap (λ (l : List ℕ). flat_map f (take i xs) ++ l) (append-nil (f (get_or xs i d)))

flat_map-drop : {X : Type 0} (f : X → List ℕ) (xs : List X) (i : ℕ) (d : X) → i < length xs → flat_map f (drop i xs) ≡ f (get_or xs i d) ++ flat_map f (drop (i + 1) xs)
flat_map-drop f xs i d inside = rw (add-one, drop-cons xs i d) refl

pub flat_map-split : {X : Type 0} (f : X → List ℕ) (xs : List X) (i : ℕ) (d : X) → i < length xs
    → flat_map f xs ≡ flat_map f (take i xs) ++ (f (get_or xs i d) ++ flat_map f (drop (i + 1) xs))
flat_map-split f xs i d inside =
    ap (λ (l : List _). flat_map f l) (sym (take-append-drop i xs)) ∙ flat_map-append f (take i xs) (drop i xs)
    ∙ ap (λ (l : List ℕ). flat_map f (take i xs) ++ l) (flat_map-drop f xs i d inside)

-- one item more
pub item_printed : {X : Type 0} (f : X → List ℕ) (xs : List X) (i : ℕ) (d : X) (old now next : Option (List ℕ)) (f0 f1 f2 : ℕ) → i < length xs
    → Prints old now f0 f1 (Ok tt) (flat_map f (take i xs)) → Prints now next f1 f2 (Ok tt) (f (get_or xs i d)) → Prints old next f0 f2 (Ok tt) (flat_map f (take (i + 1) xs))
item_printed f xs i d old now next f0 f1 f2 inside so_far more =
    rw (flat_map-take_more f xs i d inside) (printed_more old now next f0 f1 f2 (Ok tt) (flat_map f (take i xs)) (f (get_or xs i d)) so_far more)

-- a part of one item more, and then no more
pub item_stopped : {X : Type 0} (f : X → List ℕ) (xs : List X) (i : ℕ) (d : X) (old now next : Option (List ℕ)) (f0 f1 f2 : ℕ) (stop : PrintStop) → i < length xs
    → Prints old now f0 f1 (Ok tt) (flat_map f (take i xs)) → Prints now next f1 f2 (Err stop) (f (get_or xs i d)) → Prints old next f0 f2 (Err stop) (flat_map f xs)
item_stopped f xs i d old now next f0 f1 f2 stop inside so_far more =
    rw (flat_map-split f xs i d inside)
    (printed_more old now next f0 f1 f2 (Err stop) (flat_map f (take i xs)) (f (get_or xs i d) ++ flat_map f (drop (i + 1) xs)) so_far
    (stopped_before now next f1 f2 stop (f (get_or xs i d)) (flat_map f (drop (i + 1) xs)) more))

-- all items
pub all_printed : {X : Type 0} (f : X → List ℕ) (xs : List X) (i : ℕ) (old now : Option (List ℕ)) (f0 f1 : ℕ) → length xs ≤ i
    → Prints old now f0 f1 (Ok tt) (flat_map f (take i xs)) → Prints old now f0 f1 (Ok tt) (flat_map f xs)
all_printed f xs i old now f0 f1 all so_far = subst (λ (l : List _). Prints old now f0 f1 (Ok tt) (flat_map f l)) (take_all i xs all) so_far
