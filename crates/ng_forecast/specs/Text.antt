-- The text of a forecast: a line for each port, and one for each hook of the socket by which packets go to the reader. The form is
-- this project's own.
use Rattle.std.specs.Prelude.{ℕ, ◌+◌, List, [], ◌∷◌, ◌++◌, codes}
use Rattle.std.specs.Cmp.Lexicographic.{slice_cmp}
use Rattle.std.specs.Fmt.{decimal}
use Rattle.std.specs.List.{flat_map}
use Rattle.std.specs.Ordering.{nat_cmp}
use Rattle.std.specs.declared.cmp.Ordering.{Ordering}
use Rattle.std.specs.declared.cmp.Ordering.TheVariants.{Less, Equal, Greater}
use Rattle.ng_machine.specs.declared.place.Place.{Place}
use Rattle.ng_machine.specs.declared.place.Place.TheVariants.{Wire, Host, Reader}
use Rattle.ng_machine.specs.Words.{times}
use Rattle.ng_machine.specs.Spread.{Spread, same_place}

-- how many packets of a bag are at a place
abbrev pub count_at : Place → Spread → ℕ
count_at place bag = times (λ pair. same_place place pair.0) bag

abbrev pub port_line : List ℕ → ℕ → ℕ → List ℕ
port_line name left up = codes "port " ++ (name ++ (codes ": left " ++ (decimal left ++ (codes ", up " ++ (decimal up ++ 0x0a ∷ [])))))

-- the ports from one on
abbrev pub port_lines : ℕ → List (List ℕ) → Spread → List ℕ
port_lines port [] bag = []
port_lines port (name ∷ names) bag = port_line name (count_at (Wire port) bag) (count_at (Host port) bag) ++ port_lines (port + 1) names bag

-- the hooks by which packets go to the reader, in the order of their bytes, each once
abbrev pub with_name_by : Ordering → List ℕ → List ℕ → List (List ℕ) → List (List ℕ) → List (List ℕ)
with_name_by Less name first names entered = name ∷ first ∷ names
with_name_by Equal name first names entered = first ∷ names
with_name_by Greater name first names entered = first ∷ entered

abbrev pub with_name : List ℕ → List (List ℕ) → List (List ℕ)
with_name name [] = name ∷ []
with_name name (first ∷ names) = with_name_by (slice_cmp nat_cmp name first) name first names (with_name name names)

abbrev pub with_place : Place → List (List ℕ) → List (List ℕ)
with_place (Wire port) names = names
with_place (Host port) names = names
with_place (Reader hook) names = with_name hook names

abbrev pub hooks_from : List (List ℕ) → Spread → List (List ℕ)
hooks_from names [] = names
hooks_from names (pair ∷ bag) = hooks_from (with_place pair.0 names) bag

abbrev pub reader_hooks : Spread → List (List ℕ)
reader_hooks bag = hooks_from [] bag

abbrev pub hook_line : List ℕ → ℕ → List ℕ
hook_line name packets = codes "hook " ++ (name ++ (codes ": " ++ (decimal packets ++ 0x0a ∷ [])))

abbrev pub bag_text : List (List ℕ) → Spread → List ℕ
bag_text ports bag = port_lines 0 ports bag ++ flat_map (λ hook. hook_line hook (count_at (Reader hook) bag)) (reader_hooks bag)
