-- What is counted reaches the counters, and nothing else that a node keeps.
use Rattle.std.proofs.Common.{◌≡◌, ℕ, List, [], ◌∷◌, refl}
use Rattle.ng_machine.specs.Counters.{Count, after_counts}
use Rattle.ng_machine.specs.declared.plan.EtfWay.{EtfWay}
use Rattle.ng_machine.specs.kinds.Etf.{Etf, count_etf}
use Rattle.ng_machine.specs.kinds.Macset.{Macset, count_macset}
use Rattle.ng_filter_types.specs.Counts.{count_number}

abbrev pub etf_with : List EtfWay → List ℕ → Etf
etf_with filters row = record { filters = filters; counters = row }

pub etf_counted : (filters : List EtfWay) (row : List ℕ) (counts : List Count) → after_counts count_etf (etf_with filters row) counts ≡ etf_with filters (after_counts count_number row counts)
etf_counted filters row [] = refl
etf_counted filters row (c ∷ counts) = etf_counted filters (count_number row c) counts

abbrev pub macset_with : List (List ℕ) → List ℕ → Macset
macset_with addresses row = record { addresses = addresses; counters = row }

pub macset_counted : (addresses : List (List ℕ)) (row : List ℕ) (counts : List Count) → after_counts count_macset (macset_with addresses row) counts ≡ macset_with addresses (after_counts count_number row counts)
macset_counted addresses row [] = refl
macset_counted addresses row (c ∷ counts) = macset_counted addresses (count_number row c) counts
