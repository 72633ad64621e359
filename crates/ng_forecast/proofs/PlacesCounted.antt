-- Where each packet is counted by its bytes, the packets of a place are counted.
use Rattle.std.proofs.Common.{◌≡◌, ◌∙◌, ℕ, ◌+◌, Bool, true, false, ◌&&◌, if◌then◌else◌, List, [], ◌∷◌, length, map, refl, sym, ap, arith}
use Rattle.std.proofs.lemmas.List.{length-map}
use Rattle.std.specs.Str.{bytes_eq}
use Rattle.ng_base.specs.declared.ids.Stamp.{Stamp}
use Rattle.ng_machine.specs.declared.place.Place.{Place}
use Rattle.ng_machine.specs.declared.place.Place.TheVariants.{Wire, Host, Reader}
use Rattle.ng_machine.specs.declared.told.Told.{Told}
use Rattle.ng_machine.specs.declared.told.Told.TheVariants as tells
use Rattle.ng_machine.specs.Spread.{Spread, same_pair, same_place}
use Rattle.ng_machine.specs.Words.{times}
use Rattle.ng_machine.specs.World.{World}
use Rattle.ng_laws.specs.still_graph.Bag.{Meter, OnWire, AtReader, AtHost, in_spread, is_host, is_told_packet, left_of, port_in, same_packet}
use Rattle.ng_forecast.specs.ComesTrue.{LeavesBag, is_read_by}
use Rattle.ng_forecast.specs.Text.{count_at}
use Rattle.ng_forecast.proofs.SameLength.{length_grows}

-- the packets of a bag at a place
packets_at : Place → Spread → List (List ℕ)
packets_at place [] = []
packets_at place (pair ∷ bag) = if same_place place pair.0 then pair.1 ∷ packets_at place bag else packets_at place bag

times_at : (place : Place) (text : List ℕ) (bag : Spread) → times (same_pair (place, text)) bag ≡ times (bytes_eq text) (packets_at place bag)
unfolding packets_at
times_at place text [] = refl
times_at place text (pair ∷ bag) = by (same_place place pair.0) (times_at place text bag)
  where
    by : (here : Bool) → times (same_pair (place, text)) bag ≡ times (bytes_eq text) (packets_at place bag)
        → (if here && bytes_eq text pair.1 then 1 else 0) + times (same_pair (place, text)) bag
        ≡ times (bytes_eq text) (if here then pair.1 ∷ packets_at place bag else packets_at place bag)
    by true rest = ap (λ (n : ℕ). (if bytes_eq text pair.1 then 1 else 0) + n) rest
    by false rest = omega (arith, rest)

length_at : (place : Place) (bag : Spread) → length (packets_at place bag) ≡ count_at place bag
unfolding packets_at
length_at place [] = refl
length_at place (pair ∷ bag) = by (same_place place pair.0) (length_at place bag)
  where
    by : (here : Bool) → length (packets_at place bag) ≡ count_at place bag
        → length (if here then pair.1 ∷ packets_at place bag else packets_at place bag) ≡ (if here then 1 else 0) + count_at place bag
    by true rest = omega (arith, rest)
    by false rest = omega (arith, rest)

-- the packets that left by a wire
abbrev bytes_left : List (Stamp × List ℕ) → List (List ℕ)
bytes_left left = map (λ x. x.1) left

times_left : (text : List ℕ) (left : List (Stamp × List ℕ)) → times (same_packet text) left ≡ times (bytes_eq text) (bytes_left left)
times_left text [] = refl
times_left text (x ∷ left) = ap (λ (n : ℕ). (if bytes_eq text x.1 then 1 else 0) + n) (times_left text left)

length_left : (left : List (Stamp × List ℕ)) → length (bytes_left left) ≡ length left
length_left left = length-map left (λ x. x.1)

-- the packets that came to the reader by a hook
packets_by : List ℕ → List Told → List (List ℕ)
packets_by hook [] = []
packets_by hook (tells.Frame name packet ∷ told) = if bytes_eq hook name then packet ∷ packets_by hook told else packets_by hook told
packets_by hook (tells.Line command ∷ told) = packets_by hook told
packets_by hook (tells.Refused command errno why ∷ told) = packets_by hook told
packets_by hook (tells.Help command ∷ told) = packets_by hook told
packets_by hook (tells.Answer command from cookie number answer ∷ told) = packets_by hook told

-- what else is told is none of them
none_more : (a b : ℕ) → a ≡ b → 0 + a ≡ b
none_more a b same = omega arith

times_by : (hook text : List ℕ) (told : List Told) → times (is_told_packet hook text) told ≡ times (bytes_eq text) (packets_by hook told)
unfolding packets_by
times_by hook text [] = refl
times_by hook text (tells.Frame name packet ∷ told) = by (bytes_eq hook name) (times_by hook text told)
  where
    by : (here : Bool) → times (is_told_packet hook text) told ≡ times (bytes_eq text) (packets_by hook told)
        → (if here && bytes_eq text packet then 1 else 0) + times (is_told_packet hook text) told
        ≡ times (bytes_eq text) (if here then packet ∷ packets_by hook told else packets_by hook told)
    by true rest = ap (λ (n : ℕ). (if bytes_eq text packet then 1 else 0) + n) rest
    by false rest = omega (arith, rest)
times_by hook text (tells.Line command ∷ told) = none_more _ _ (times_by hook text told)
times_by hook text (tells.Refused command errno why ∷ told) = none_more _ _ (times_by hook text told)
times_by hook text (tells.Help command ∷ told) = none_more _ _ (times_by hook text told)
times_by hook text (tells.Answer command from cookie number answer ∷ told) = none_more _ _ (times_by hook text told)

length_by : (hook : List ℕ) (told : List Told) → length (packets_by hook told) ≡ times (is_read_by hook) told
unfolding packets_by
length_by hook [] = refl
length_by hook (tells.Frame name packet ∷ told) = by (bytes_eq hook name) (length_by hook told)
  where
    by : (here : Bool) → length (packets_by hook told) ≡ times (is_read_by hook) told
        → length (if here then packet ∷ packets_by hook told else packets_by hook told) ≡ (if here then 1 else 0) + times (is_read_by hook) told
    by true rest = omega (arith, rest)
    by false rest = omega (arith, rest)
length_by hook (tells.Line command ∷ told) = sym (none_more _ _ (sym (length_by hook told)))
length_by hook (tells.Refused command errno why ∷ told) = sym (none_more _ _ (sym (length_by hook told)))
length_by hook (tells.Help command ∷ told) = sym (none_more _ _ (sym (length_by hook told)))
length_by hook (tells.Answer command from cookie number answer ∷ told) = sym (none_more _ _ (sym (length_by hook told)))

-- the packets of a bag for a host
times_host : (port : ℕ) (bag : Spread) → times (is_host port) bag ≡ count_at (Host port) bag
times_host port [] = refl
times_host port ((Wire other, bytes) ∷ bag) = ap (λ (n : ℕ). 0 + n) (times_host port bag)
times_host port ((Host other, bytes) ∷ bag) = ap (λ (n : ℕ). (if same_place (Host port) (Host other) then 1 else 0) + n) (times_host port bag)
times_host port ((Reader hook, bytes) ∷ bag) = ap (λ (n : ℕ). 0 + n) (times_host port bag)

-- if each meter grew by the bag, so did the counts
pub leaves_bag : (before now : World) (bag : Spread) → ((meter : Meter) → left_of now meter ≡ left_of before meter + in_spread meter bag)
    → LeavesBag before now bag
leaves_bag before now bag meters = record { meters = meters; left = left; up = up; read = read }
  where
    left : (port : ℕ) → length (port_in now.ports port).leaving ≡ length (port_in before.ports port).leaving + count_at (Wire port) bag
    left port =
        let all = length_grows (bytes_left (port_in now.ports port).leaving) (bytes_left (port_in before.ports port).leaving)
        (packets_at (Wire port) bag) (λ text.
        let grew = meters (OnWire port text) in
        let last = times_left text (port_in now.ports port).leaving in
        let first = times_left text (port_in before.ports port).leaving in
        let more = times_at (Wire port) text bag in
        omega arith) in
        let last = length_left (port_in now.ports port).leaving in
        let first = length_left (port_in before.ports port).leaving in
        let more = length_at (Wire port) bag in
        omega arith

    up : (port : ℕ) → (port_in now.ports port).up ≡ (port_in before.ports port).up + count_at (Host port) bag
    up port = meters (AtHost port) ∙ ap (λ (n : ℕ). (port_in before.ports port).up + n) (times_host port bag)

    read : (hook : List ℕ) → times (is_read_by hook) now.told ≡ times (is_read_by hook) before.told + count_at (Reader hook) bag
    read hook =
        let all = length_grows (packets_by hook now.told) (packets_by hook before.told) (packets_at (Reader hook) bag) (λ text.
        let grew = meters (AtReader hook text) in
        let last = times_by hook text now.told in
        let first = times_by hook text before.told in
        let more = times_at (Reader hook) text bag in
        omega arith) in
        let last = length_by hook now.told in
        let first = length_by hook before.told in
        let more = length_at (Reader hook) bag in
        omega arith
