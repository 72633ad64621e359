-- A packet on its way: what was met and what left so far, and what is still to be followed.
use Rattle.std.proofs.Common.{◌≡◌, ◌≢◌, ◌∙◌, ℕ, zero, suc, ◌+◌, ◌-◌, ◌<◌, List, [], ◌∷◌, ◌++◌, length, refl, sym, ap, subst, arith, append_assoc, append-nil}
use Rattle.std.specs.declared.option.Option.{Option}
use Rattle.std.specs.declared.option.Option.TheVariants.{None, Some}
use Rattle.ng_base.specs.declared.ids.NodeId.{NodeId}
use Rattle.ng_machine.specs.World.{NodeRecord, hook_at, node_in}
use Rattle.ng_machine.specs.Spread.{Spread, Flight, Fate, Vanishes, Untold, Comes, beside, fate, sent_by, spread_all, spread_by, spread_in}
use Rattle.ng_forecast.specs.declared.spread.following.Followed.{Followed}
use Rattle.ng_forecast.specs.declared.spread.following.Followed.TheVariants.{Everywhere, Nowhere, TooWide}
use Rattle.ng_forecast.specs.declared.spread.following.Trail.{Trail}
use Rattle.ng_forecast.specs.spread.Following.{Follows, sent_from}
use Rattle.ng_forecast.specs.spread.Met.{met_all, met_by, met_in}

-- so many are still to be met, and their spreads are these
abbrev pub Underway : ℕ → ℕ → Option Spread → Option Spread → Followed → Trail → Trail → Type 0
Underway rest met left spread Everywhere old now = (now.room + met ≡ old.room + rest) × (beside (Some now.bag.items) left ≡ beside (Some old.bag.items) spread)
Underway rest met left spread Nowhere old now = (now.room + met ≡ old.room + rest) × (spread ≡ None)
Underway rest met left spread TooWide old now = ⊥

beside_assoc : (a : Spread) (b c : Option Spread) → beside (beside (Some a) b) c ≡ beside (Some a) (beside b c)
beside_assoc a None c = refl
beside_assoc a (Some b) None = refl
beside_assoc a (Some b) (Some c) = ap Some (append_assoc a b c)

none_of : (a : Spread) (s : Option Spread) → None ≡ beside (Some a) s → s ≡ None
none_of a None e = refl
none_of a (Some s) e = cc

pub with_nothing : (a : Spread) → Some a ≡ beside (Some a) (Some [])
with_nothing a = ap Some (sym (append-nil a))

-- one more is followed
pub goes_on : (m rest met : ℕ) (s left spread : Option Spread) (f : Followed) (old now next : Trail)
    → Underway (m + rest) met (beside s left) spread f old now → Follows m s Everywhere now next → Underway rest met left spread f old next
goes_on m rest met s left spread Everywhere old now next u h =
    let count = u.0 in let met_of = h.0 in
    (omega arith, ap (λ (x : Option Spread). beside x left) h.1 ∙ beside_assoc now.bag.items s left ∙ u.1)
goes_on m rest met s left spread Nowhere old now next u h = let count = u.0 in let met_of = h.0 in (omega arith, u.1)
goes_on m rest met s left spread TooWide old now next u h = u

pub goes_nowhere : (m rest met : ℕ) (s left spread : Option Spread) (f : Followed) (old now next : Trail)
    → Underway (m + rest) met (beside s left) spread f old now → Follows m s Nowhere now next → Underway rest met left spread Nowhere old next
goes_nowhere m rest met s left spread Everywhere old now next u h =
    let count = u.0 in let met_of = h.0 in
    (omega arith, none_of old.bag.items spread (sym (ap (λ (x : Option Spread). beside (Some now.bag.items) (beside x left)) h.1) ∙ u.1))
goes_nowhere m rest met s left spread Nowhere old now next u h = let count = u.0 in let met_of = h.0 in (omega arith, u.1)
goes_nowhere m rest met s left spread TooWide old now next u h = absurd u

pub gets_wide : (m rest met : ℕ) (s left spread : Option Spread) (f : Followed) (old now : Trail)
    → Underway (m + rest) met (beside s left) spread f old now → now.room < m → old.room < met
gets_wide m rest met s left spread Everywhere old now u h = let count = u.0 in omega arith
gets_wide m rest met s left spread Nowhere old now u h = let count = u.0 in omega arith
gets_wide m rest met s left spread TooWide old now u h = absurd u

pub ends : (met : ℕ) (spread : Option Spread) (f : Followed) (old now : Trail) → Underway 0 met (Some []) spread f old now → Follows met spread f old now
ends met spread Everywhere old now u = let count = u.0 in (omega arith, with_nothing now.bag.items ∙ u.1)
ends met spread Nowhere old now u = let count = u.0 in (omega arith, u.1)
ends met spread TooWide old now u = absurd u

-- a packet that may visit a node more, by its fate
pub met_is : (nodes : List (Option NodeRecord)) (hops : ℕ) (f : Flight) → hops ≢ 0 → met_in nodes hops f ≡ met_by (met_all (λ g. met_in nodes (hops - 1) g)) (fate nodes f)
met_is nodes zero f h = absurd (h refl)
met_is nodes (suc n) f h = ap (λ (k : ℕ). met_by (met_all (λ g. met_in nodes k g)) (fate nodes f)) (sub_one n)
  where
    sub_one : (k : ℕ) → k ≡ suc k - 1
    sub_one k = omega arith

pub spread_is : (nodes : List (Option NodeRecord)) (hops : ℕ) (f : Flight) → hops ≢ 0 → spread_in nodes hops f ≡ spread_by (spread_all (λ g. spread_in nodes (hops - 1) g)) (fate nodes f)
spread_is nodes zero f h = absurd (h refl)
spread_is nodes (suc n) f h = ap (λ (k : ℕ). spread_by (spread_all (λ g. spread_in nodes k g)) (fate nodes f)) (sub_one n)
  where
    sub_one : (k : ℕ) → k ≡ suc k - 1
    sub_one k = omega arith

-- its copies are to be followed
pub begins : (nodes : List (Option NodeRecord)) (hops : ℕ) (f : Flight) (leaves : Spread) (sent : List Flight) (old now : Trail) → hops ≢ 0 → fate nodes f ≡ Comes leaves sent
    → now.room + 1 ≡ old.room → now.bag.items ≡ old.bag.items ++ leaves
    → Underway (met_all (λ g. met_in nodes (hops - 1) g) sent) (met_in nodes hops f) (spread_all (λ g. spread_in nodes (hops - 1) g) sent) (spread_in nodes hops f) Everywhere old now
begins nodes hops f leaves sent old now h e room bag =
    let met = met_is nodes hops f h ∙ ap (met_by (met_all (λ g. met_in nodes (hops - 1) g))) e in
    let spread = spread_is nodes hops f h ∙ ap (spread_by (spread_all (λ g. spread_in nodes (hops - 1) g))) e in (
      omega arith,
      ap (λ (x : Spread). beside (Some x) (spread_all (λ g. spread_in nodes (hops - 1) g) sent)) bag
          ∙ beside_assoc old.bag.items (Some leaves) (spread_all (λ g. spread_in nodes (hops - 1) g) sent)
          ∙ ap (beside (Some old.bag.items)) (sym spread),
    )

-- it vanishes, or no one can say
pub vanishes : (nodes : List (Option NodeRecord)) (hops : ℕ) (f : Flight) (old now : Trail) → hops ≢ 0 → fate nodes f ≡ Vanishes → now.room + 1 ≡ old.room → now.bag.items ≡ old.bag.items
    → Follows (met_in nodes hops f) (spread_in nodes hops f) Everywhere old now
vanishes nodes hops f old now h e room bag =
    let met = met_is nodes hops f h ∙ ap (met_by (met_all (λ g. met_in nodes (hops - 1) g))) e in
    let spread = spread_is nodes hops f h ∙ ap (spread_by (spread_all (λ g. spread_in nodes (hops - 1) g))) e in
    (omega arith, ap Some bag ∙ with_nothing old.bag.items ∙ ap (beside (Some old.bag.items)) (sym spread))

pub untold : (nodes : List (Option NodeRecord)) (hops : ℕ) (f : Flight) (old now : Trail) → hops ≢ 0 → fate nodes f ≡ Untold → now.room + 1 ≡ old.room
    → Follows (met_in nodes hops f) (spread_in nodes hops f) Nowhere old now
untold nodes hops f old now h e room =
    let met = met_is nodes hops f h ∙ ap (met_by (met_all (λ g. met_in nodes (hops - 1) g))) e in
    let spread = spread_is nodes hops f h ∙ ap (spread_by (spread_all (λ g. spread_in nodes (hops - 1) g))) e in
    (omega arith, spread)

-- one that is met finds no room
positive : (x : Fate) (rest : List Flight → ℕ) → 0 < met_by rest x
positive Vanishes rest = omega arith
positive Untold rest = omega arith
positive (Comes leaves sent) rest = omega arith

pub has_no_room : (nodes : List (Option NodeRecord)) (hops : ℕ) (f : Flight) (room : ℕ) → hops ≢ 0 → room ≡ 0 → room < met_in nodes hops f
has_no_room nodes hops f room h none =
    let met = met_is nodes hops f h in let some = positive (fate nodes f) (met_all (λ g. met_in nodes (hops - 1) g)) in omega arith

-- these are still to be sent by a node, and its copies to be followed
abbrev pub Sending : List (Option NodeRecord) → ℕ → NodeId → List (List ℕ × List ℕ) → ℕ → Option Spread → Followed → Trail → Trail → Type 0
Sending nodes hops at sends met spread f old now =
    Underway (met_all (λ g. met_in nodes hops g) (sent_from nodes at sends)) met (spread_all (λ g. spread_in nodes hops g) (sent_from nodes at sends)) spread f old now

-- the copies of the next one are to be followed before the others
pub next : (nodes : List (Option NodeRecord)) (hops : ℕ) (at : NodeId) (met : ℕ) (spread : Option Spread) (f : Followed) (old now : Trail) (sends : List (List ℕ × List ℕ))
    (x : List ℕ × List ℕ) (rest : List (List ℕ × List ℕ)) (copies : List Flight) → sends ≡ x ∷ rest → sent_by nodes (hook_at (node_in nodes at) x.0) x.1 ≡ copies
    → Sending nodes hops at sends met spread f old now
    → Underway (met_all (λ g. met_in nodes hops g) (copies ++ sent_from nodes at rest)) met (spread_all (λ g. spread_in nodes hops g) (copies ++ sent_from nodes at rest)) spread f old now
next nodes hops at met spread f old now sends x rest copies is sent u =
    subst (λ (l : List Flight). Underway (met_all (λ g. met_in nodes hops g) l) met (spread_all (λ g. spread_in nodes hops g) l) spread f old now)
    (ap (sent_from nodes at) is ∙ ap (λ (l : List Flight). l ++ sent_from nodes at rest) sent) u

pub none_left : (sends : List (List ℕ × List ℕ)) → length sends ≡ 0 → sends ≡ []
none_left [] e = refl
none_left (x ∷ sends) e = absurd (omega arith)

-- none is left
pub all_sent : (nodes : List (Option NodeRecord)) (hops : ℕ) (at : NodeId) (met : ℕ) (spread : Option Spread) (f : Followed) (old now : Trail) (sends : List (List ℕ × List ℕ))
    → sends ≡ [] → Sending nodes hops at sends met spread f old now → Follows met spread f old now
all_sent nodes hops at met spread f old now sends none u =
    ends met spread f old now (subst (λ (l : List (List ℕ × List ℕ)). Sending nodes hops at l met spread f old now) none u)

-- a node's copies are to be followed
pub sends : (nodes : List (Option NodeRecord)) (hops : ℕ) (f : Flight) (at : NodeId) (sent list : List (List ℕ × List ℕ)) (old now : Trail) → hops ≢ 0
    → now.room + 1 ≡ old.room → at ≡ f.to → list ≡ sent
    → (leaves : Spread) × (fate nodes f ≡ Comes leaves (sent_from nodes f.to sent)) × (now.bag.items ≡ old.bag.items ++ leaves)
    → Sending nodes (hops - 1) at list (met_in nodes hops f) (spread_in nodes hops f) Everywhere old now
sends nodes hops f at sent list old now h room here is comes =
    rw here (rw is (begins nodes hops f comes.0 (sent_from nodes f.to sent) old now h comes.1 room comes.2))
