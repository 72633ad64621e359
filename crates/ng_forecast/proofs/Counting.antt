-- What is counted of a bag, packet by packet.
use Rattle.std.proofs.Common.{◌≡◌, ◌∙◌, ℕ, ◌+◌, ◌<◌, ◌≤◌, ◌^◌, Bool, true, false, List, [], ◌∷◌, if◌then◌else◌, ap, arith, replicate, slice_index}
use Rattle.std.specs.BTreeMap.{keys}
use Rattle.std.proofs.lemmas.List.{get_or-replicate}
use Rattle.ng_machine.specs.declared.place.Place.{Place}
use Rattle.ng_machine.specs.declared.place.Place.TheVariants.{Wire, Host, Reader}
use Rattle.ng_forecast.specs.declared.text.Counts.{Counts}
use Rattle.ng_forecast.specs.Counts.{AreCounts, CountsOne, HaveRoom}
use Rattle.ng_forecast.specs.Hooks.{AreKept, hook_count}
use Rattle.ng_machine.specs.Spread.{Spread}
use Rattle.ng_forecast.specs.Text.{count_at, hooks_from, reader_hooks}

-- ALL PACKETS

-- what is counted, and the packets that are to be counted
pub record IsCounting (counts : Counts) (rest bag : Spread) : Type 0 where
  pub left : (port : ℕ) → port < 64 → slice_index counts.left port + count_at (Wire port) rest ≡ count_at (Wire port) bag
  pub up : (port : ℕ) → port < 64 → slice_index counts.up port + count_at (Host port) rest ≡ count_at (Host port) bag
  pub hooks : (name : List ℕ) → hook_count counts.hooks name + count_at (Reader name) rest ≡ count_at (Reader name) bag
  pub names : hooks_from (keys counts.hooks.places) rest ≡ reader_hooks bag
  pub kept : AreKept counts.hooks

joined : (now was one rest all : ℕ) → now ≡ one + was → was + (one + rest) ≡ all → now + rest ≡ all
joined now was one rest all is before = omega arith

pub counts_one : (old new : Counts) (pair : Place × List ℕ) (rest bag : Spread) → CountsOne pair.0 old new → IsCounting old (pair ∷ rest) bag → IsCounting new rest bag
counts_one old new pair rest bag more is = record {
  left = λ port few. joined _ _ _ _ _ (more.left port few) (is.left port few);
  up = λ port few. joined _ _ _ _ _ (more.up port few) (is.up port few);
  hooks = λ name. joined _ _ _ _ _ (more.hooks name) (is.hooks name);
  names = ap (λ (names : List (List ℕ)). hooks_from names rest) more.names ∙ is.names;
  kept = more.kept;
}

none_left : (n all : ℕ) → n + 0 ≡ all → n ≡ all
none_left n all is = omega arith

pub all_counted : (counts : Counts) (bag : Spread) → IsCounting counts [] bag → AreCounts counts bag
all_counted counts bag is = record {
  left = λ port few. none_left _ _ (is.left port few);
  up = λ port few. none_left _ _ (is.up port few);
  hooks = λ name. none_left _ _ (is.hooks name);
  names = is.names;
  kept = is.kept;
}

-- no count is above that of the packets
pub record AreFew (counts : Counts) (n : ℕ) : Type 0 where
  pub left : (port : ℕ) → port < 64 → slice_index counts.left port ≤ n
  pub up : (port : ℕ) → port < 64 → slice_index counts.up port ≤ n
  pub hooks : (name : List ℕ) → hook_count counts.hooks name ≤ n
  pub kept : AreKept counts.hooks

one_at_most : (test : Bool) (now was n : ℕ) → now ≡ (if test then 1 else 0) + was → was ≤ n → now ≤ n + 1
one_at_most true now was n is few = omega arith
one_at_most false now was n is few = omega arith

pub few_more : (place : Place) (old new : Counts) (n : ℕ) → CountsOne place old new → AreFew old n → AreFew new (n + 1)
few_more place old new n more few = record {
  left = λ port low. one_at_most _ _ _ n (more.left port low) (few.left port low);
  up = λ port low. one_at_most _ _ _ n (more.up port low) (few.up port low);
  hooks = λ name. one_at_most _ _ _ n (more.hooks name) (few.hooks name);
  kept = more.kept;
}

room : (n m : ℕ) → n ≤ m → m + 1 < 2 ^ 64 → n + 1 < 2 ^ 64
room n m few low = omega arith

pub have_room : (counts : Counts) (n : ℕ) → AreFew counts n → n + 1 < 2 ^ 64 → HaveRoom counts
have_room counts n few low = record {
  left = λ port small. room _ n (few.left port small) low;
  up = λ port small. room _ n (few.up port small) low;
  hooks = λ name. room _ n (few.hooks name) low;
  kept = few.kept;
}

-- where nothing is counted so far

pub empty_counts : (counts : Counts) → counts.left ≡ replicate 64 0 → counts.up ≡ replicate 64 0 → AreKept counts.hooks
    → ((name : List ℕ) → hook_count counts.hooks name ≡ 0) → keys counts.hooks.places ≡ [] → AreCounts counts []
empty_counts counts left up kept hooks names = record {
  left = λ port few. rw left (get_or-replicate 64 port 0 0 few);
  up = λ port few. rw up (get_or-replicate 64 port 0 0 few);
  hooks = hooks;
  names = names;
  kept = kept;
}

none_more : (none all : ℕ) → none ≡ 0 → none + all ≡ all
none_more none all is = omega arith

pub none_counted : (counts : Counts) (bag : Spread) → AreCounts counts [] → IsCounting counts bag bag
none_counted counts bag none = record {
  left = λ port few. none_more _ _ (none.left port few);
  up = λ port few. none_more _ _ (none.up port few);
  hooks = λ name. none_more _ _ (none.hooks name);
  names = ap (λ (names : List (List ℕ)). hooks_from names bag) none.names;
  kept = none.kept;
}

at_most : (n : ℕ) → n ≡ 0 → n ≤ 0
at_most n is = omega arith

pub none_few : (counts : Counts) → AreCounts counts [] → AreFew counts 0
none_few counts none = record {
  left = λ port few. at_most _ (none.left port few);
  up = λ port few. at_most _ (none.up port few);
  hooks = λ name. at_most _ (none.hooks name);
  kept = none.kept;
}
