-- How many packets are met on the way of one, each copy by itself, where one may visit so many nodes one after another. That they
-- are counted is this project's own.
use Rattle.std.specs.Prelude.{ℕ, zero, suc, ◌+◌, List, [], ◌∷◌, Option}
use Rattle.ng_machine.specs.World.{World, NodeRecord}
use Rattle.ng_machine.specs.Spread.{Flight, Fate, Vanishes, Untold, Comes, fate}

abbrev pub met_all : (Flight → ℕ) → List Flight → ℕ
met_all met [] = 0
met_all met (f ∷ fs) = met f + met_all met fs

-- a packet that comes to no node or hook, or of which no one can say what becomes, is met and sends nothing on
abbrev pub met_by : (List Flight → ℕ) → Fate → ℕ
met_by rest Vanishes = 1
met_by rest Untold = 1
met_by rest (Comes leaves sent) = 1 + rest sent

-- one that may visit no node is not met
abbrev pub met_in : List (Option NodeRecord) → ℕ → Flight → ℕ
met_in nodes zero f = 0
met_in nodes (suc n) f = met_by (met_all (λ g. met_in nodes n g)) (fate nodes f)

abbrev pub met_of : World → Flight → ℕ → ℕ
met_of w f n = met_in w.nodes n f
