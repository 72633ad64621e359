-- Wires and hosts in spreads are those of ports that are there.
use Rattle.std.proofs.Common.{◌≡◌, ℕ, zero, suc, ◌<◌, ◌≤◌, List, [], ◌∷◌, length, Bool, true, false, cond, ◌==◌, ◌&&◌, refl, sym, ap, subst, arith, bytes_eq, ne_eqb}
use Rattle.std.specs.declared.option.Option.{Option}
use Rattle.std.specs.declared.option.Option.TheVariants.{None, Some}
use Rattle.ng_base.specs.declared.ids.NodeId.{NodeId}
use Rattle.ng_base.specs.declared.kind.Kind.{Kind}
use Rattle.ng_base.specs.declared.kind.Kind.TheVariants.{Ether}
use Rattle.ng_machine.specs.declared.body.Exit.{Exit}
use Rattle.ng_machine.specs.declared.body.Exit.TheVariants.{Wire, Host, Reader}
use Rattle.ng_machine.specs.declared.place.Place.TheVariants.{Wire as ToWire, Host as ToHost, Reader as ToReader}
use Rattle.ng_machine.specs.Words.{Every}
use Rattle.ng_machine.specs.World.{NodeRecord, node_in, kind_at, state_of, hook_names, port_of}
use Rattle.ng_machine.specs.Case.{outcome_of}
use Rattle.ng_machine.specs.Effect.{door_name, is_hook_gone}
use Rattle.ng_machine.specs.Laws.{world_after}
use Rattle.ng_machine.specs.Spread.{Spread, Flight, body_of, is_followed, Fate, Vanishes, Untold, Comes, leaving, fate_if, fate_at, fate, spread_all, spread_by, spread_in}
use Rattle.ng_laws.specs.still_graph.Bag.{OnWire, AtHost, in_spread, IsPlace, PlacesArePorts}
use Rattle.ng_laws.proofs.still_graph.Fuelled.{none_some, same_some, both_are}
use Rattle.ng_laws.proofs.still_graph.Inward.{LeavesBy, followed_orderly}
use Rattle.ng_laws.proofs.still_graph.Stepped.{every_both}
use Rattle.ng_laws.proofs.still_graph.Ethers.{at_ports}

module _ (ports : ℕ) where
  abbrev pub ArePlaces : Spread → Type 0
  ArePlaces spread = Every (IsPlace ports) spread

  leaving_places : (at : NodeId) (hook : List ℕ) (kind : Kind) (xs : List (Exit × List ℕ)) → Every (LeavesBy kind) xs → (kind ≡ Ether → port_of at < ports) → ArePlaces (leaving at hook xs)
  leaving_places at hook kind [] l h = tt
  leaving_places at hook kind ((Wire, packet) ∷ xs) l h = (h l.0, leaving_places at hook kind xs l.1 h)
  leaving_places at hook kind ((Host, packet) ∷ xs) l h = (h l.0, leaving_places at hook kind xs l.1 h)
  leaving_places at hook kind ((Reader, packet) ∷ xs) l h = (tt, leaving_places at hook kind xs l.1 h)

  abbrev FatePlaces : Fate → Type 0
  FatePlaces Vanishes = Unit {0}
  FatePlaces Untold = Unit {0}
  FatePlaces (Comes leaves sent) = ArePlaces leaves

  fate_places : (nodes : List (Option NodeRecord)) → ((id : NodeId) (row : NodeRecord) → node_in nodes id ≡ Some row → kind_at row ≡ Ether → port_of id < ports) → (f : Flight) → FatePlaces (fate nodes f)
  fate_places nodes E f = rows (node_in nodes f.to) refl
    where
      gate : (row : NodeRecord) → node_in nodes f.to ≡ Some row → (gone followed : Bool) → is_followed (kind_at row) ≡ followed → FatePlaces (fate_if nodes f row gone followed)
      gate row is true followed e = tt
      gate row is false false e = tt
      gate row is false true e = leaving_places f.to (door_name f.door) (kind_at row) (outcome_of (state_of row) (body_of f)).leaves (followed_orderly row.kept (hook_names row) f.door f.packet e).leaves (E f.to row is)

      rows : (o : Option NodeRecord) → node_in nodes f.to ≡ o → FatePlaces (fate_at nodes f o)
      rows None is = tt
      rows (Some row) is = gate row is (is_hook_gone (Some row) (body_of f)) (is_followed (kind_at row)) refl

  by_places : (rest : List Flight → Option Spread) → ((fs : List Flight) (t : Spread) → rest fs ≡ Some t → ArePlaces t) → (x : Fate) (s : Spread) → FatePlaces x → spread_by rest x ≡ Some s → ArePlaces s
  by_places rest more Vanishes s h e = subst ArePlaces (same_some [] s e) tt
  by_places rest more Untold s h e = absurd (none_some s e)
  by_places rest more (Comes leaves sent) s h e =
      let b = both_are (Some leaves) (rest sent) s e in
      subst ArePlaces (sym b.all_is) (every_both (IsPlace ports) b.first b.second (subst ArePlaces (same_some leaves b.first b.first_is) h) (more sent b.second b.second_is))

  pub all_places : (g : Flight → Option Spread) → ((f : Flight) (t : Spread) → g f ≡ Some t → ArePlaces t) → (fs : List Flight) (s : Spread) → spread_all g fs ≡ Some s → ArePlaces s
  all_places g more [] s e = subst ArePlaces (same_some [] s e) tt
  all_places g more (f ∷ fs) s e =
      let b = both_are (g f) (spread_all g fs) s e in
      subst ArePlaces (sym b.all_is) (every_both (IsPlace ports) b.first b.second (more f b.first b.first_is) (all_places g more fs b.second b.second_is))

  spread_places : (nodes : List (Option NodeRecord)) → ((id : NodeId) (row : NodeRecord) → node_in nodes id ≡ Some row → kind_at row ≡ Ether → port_of id < ports) → (n : ℕ) (f : Flight) (s : Spread) → spread_in nodes n f ≡ Some s → ArePlaces s
  spread_places nodes E zero f s e = by_places (λ fs. None) (λ fs t i. absurd (none_some t i)) (fate nodes f) s (fate_places nodes E f) e
  spread_places nodes E (suc n) f s e =
      by_places (spread_all (λ g. spread_in nodes n g)) (all_places (λ g. spread_in nodes n g) (λ g t i. spread_places nodes E n g t i)) (fate nodes f) s (fate_places nodes E f) e

  other_port : (q port : ℕ) (b : Bool) → ports ≤ q → port < ports → cond {A = ℕ} ((q == port) && b) 1 0 ≡ 0
  other_port q port b le lt = ap (λ (x : Bool). cond {A = ℕ} (x && b) 1 0) (ne_eqb q port (λ e. absurd (omega arith)))

  pub no_wire : (q : ℕ) (bytes : List ℕ) → ports ≤ q → (bag : Spread) → ArePlaces bag → in_spread (OnWire q bytes) bag ≡ 0
  no_wire q bytes le [] p = refl
  no_wire q bytes le ((ToWire port, packet) ∷ bag) p = let a = other_port q port (bytes_eq bytes packet) le p.0 in let b = no_wire q bytes le bag p.1 in omega arith
  no_wire q bytes le ((ToHost port, packet) ∷ bag) p = let b = no_wire q bytes le bag p.1 in omega arith
  no_wire q bytes le ((ToReader hook, packet) ∷ bag) p = let b = no_wire q bytes le bag p.1 in omega arith

  pub no_host : (q : ℕ) → ports ≤ q → (bag : Spread) → ArePlaces bag → in_spread (AtHost q) bag ≡ 0
  no_host q le [] p = refl
  no_host q le ((ToHost port, packet) ∷ bag) p =
      let off : cond {A = ℕ} (q == port) 1 0 ≡ 0 = ap (λ (x : Bool). cond {A = ℕ} x 1 0) (ne_eqb q port (λ e. let lt : port < ports = p.0 in absurd (omega arith))) in
      let b = no_host q le bag p.1 in omega arith
  no_host q le ((ToWire port, packet) ∷ bag) p = let b = no_host q le bag p.1 in omega arith
  no_host q le ((ToReader hook, packet) ∷ bag) p = let b = no_host q le bag p.1 in omega arith

pub places_are_ports : PlacesArePorts
places_are_ports s journal f n spread e = spread_places (length s.ports) (world_after s journal).nodes (at_ports s journal).ethers n f spread e
