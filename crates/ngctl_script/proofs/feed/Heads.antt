-- The next packet of captures is the first of one of them.
use Rattle.std.proofs.Common.{◌≡◌, ℕ, zero, suc, ◌+◌, ◌<◌, Bool, true, false, List, [], ◌∷◌, length, get_or, set, Option, Some, None, leb, refl, sym, ap, subst, ◌∙◌, arith, cond}
use Rattle.ng_base.specs.declared.ids.Stamp.{Stamp}
use Rattle.ngctl_script.specs.declared.feed.arrival.Arrival.{Arrival}
use Rattle.ngctl_script.specs.declared.feed.merge.Head.{Head}
use Rattle.ngctl_script.specs.feed.Best.{IsBest}
use Rattle.ngctl_script.specs.feed.Merge.{Packets, earlier, next_from, without_first, without_next}

abbrev pub Begins : Packets → Stamp → List ℕ → Type 0
Begins [] stamp packet = ⊥
Begins (first ∷ packets) stamp packet = (first.0 ≡ stamp) × (first.1 ≡ packet)

-- the capture of that place begins with the packet
abbrev pub HeadAt : ℕ → List Packets → Stamp → List ℕ → Type 0
HeadAt place [] stamp packet = ⊥
HeadAt zero (packets ∷ captures) stamp packet = Begins packets stamp packet
HeadAt (suc place) (packets ∷ captures) stamp packet = HeadAt place captures stamp packet

-- the packet is the first of the capture that has its port, where they are counted from `port`
pub record IsHeadOf (port : ℕ) (captures : List Packets) (arrival : Arrival) : Type 0 where
  pub place : ℕ
  pub at : arrival.port ≡ port + place
  pub head : HeadAt place captures arrival.stamp arrival.packet

behind : (port : ℕ) (packets : Packets) (captures : List Packets) (arrival : Arrival) → IsHeadOf (port + 1) captures arrival → IsHeadOf port (packets ∷ captures) arrival
behind port packets captures arrival later = record { place = suc later.place; at = later.at ∙ omega arith; head = later.head }

first_of : Arrival → Option Arrival → Arrival
first_of arrival None = arrival
first_of arrival (Some other) = arrival

by_order : (port : ℕ) (first : Stamp × List ℕ) (packets : Packets) (captures : List Packets) (arrival other : Arrival) (is : Bool) → IsHeadOf (port + 1) captures other
    → cond is (Some (record { port = port; stamp = first.0; packet = first.1 })) (Some other) ≡ Some arrival → IsHeadOf port ((first ∷ packets) ∷ captures) arrival
by_order port first packets captures arrival other true later is = let P : Arrival → Type 0 = λ a. IsHeadOf port ((first ∷ packets) ∷ captures) a in
    let e : record { port = port; stamp = first.0; packet = first.1 } ≡ arrival = cc in
    subst P e (record { place = 0; at = omega arith; head = (refl, refl) })
by_order port first packets captures arrival other false later is = let P : Arrival → Type 0 = λ a. IsHeadOf port ((first ∷ packets) ∷ captures) a in
    let e : other ≡ arrival = cc in
    subst P e (behind port (first ∷ packets) captures other later)

by_later : (port : ℕ) (first : Stamp × List ℕ) (packets : Packets) (captures : List Packets) (arrival : Arrival) (later : Option Arrival)
    → ((other : Arrival) → later ≡ Some other → IsHeadOf (port + 1) captures other)
    → earlier (record { port = port; stamp = first.0; packet = first.1 }) later ≡ Some arrival → IsHeadOf port ((first ∷ packets) ∷ captures) arrival
by_later port first packets captures arrival None heads is = let P : Arrival → Type 0 = λ a. IsHeadOf port ((first ∷ packets) ∷ captures) a in
    let e : record { port = port; stamp = first.0; packet = first.1 } ≡ arrival = cc in
    subst P e (record { place = 0; at = omega arith; head = (refl, refl) })
by_later port first packets captures arrival (Some other) heads is = by_order port first packets captures arrival other (leb (first.0).0 other.stamp.0) (heads other refl) is

pub head_of : (port : ℕ) (captures : List Packets) (arrival : Arrival) → next_from port captures ≡ Some arrival → IsHeadOf port captures arrival
head_of port [] arrival is = absurd (let e : None ≡ Some arrival = is in cc)
head_of port ([] ∷ captures) arrival is = behind port [] captures arrival (head_of (port + 1) captures arrival is)
head_of port ((first ∷ packets) ∷ captures) arrival is =
    by_later port first packets captures arrival (next_from (port + 1) captures) (λ other later. head_of (port + 1) captures other later) is

-- What is known of the capture at that place

pub is_low : (place : ℕ) (captures : List Packets) (stamp : Stamp) (packet : List ℕ) → HeadAt place captures stamp packet → place < length captures
is_low place [] stamp packet head = elim head [ ]
is_low zero (packets ∷ captures) stamp packet head = omega arith
is_low (suc place) (packets ∷ captures) stamp packet head = let low = is_low place captures stamp packet head in omega arith

begins_so : (old new : Packets) (stamp : Stamp) (packet : List ℕ) (first : Stamp × List ℕ) → Begins old stamp packet → old ≡ first ∷ new → (first.0 ≡ stamp) × (first.1 ≡ packet)
begins_so old new stamp packet first begins is = let P : Packets → Type 0 = λ packets. Begins packets stamp packet in subst P is begins

pub same_head : (place : ℕ) (captures : List Packets) (stamp : Stamp) (packet : List ℕ) (old new : Packets) (first : Stamp × List ℕ) → HeadAt place captures stamp packet
    → get_or captures place old ≡ first ∷ new → (first.0 ≡ stamp) × (first.1 ≡ packet)
same_head place [] stamp packet old new first head is = elim head [ ]
same_head zero (packets ∷ captures) stamp packet old new first head is = begins_so packets new stamp packet first head is
same_head (suc place) (packets ∷ captures) stamp packet old new first head is = same_head place captures stamp packet old new first head is

no_empty : (packets : Packets) (stamp : Stamp) (packet : List ℕ) → Begins packets stamp packet → packets ≡ [] → ⊥
no_empty packets stamp packet begins is = let P : Packets → Type 0 = λ packets. Begins packets stamp packet in subst P is begins

pub not_empty : (place : ℕ) (captures : List Packets) (stamp : Stamp) (packet : List ℕ) (old : Packets) → HeadAt place captures stamp packet → get_or captures place old ≡ [] → ⊥
not_empty place [] stamp packet old head is = elim head [ ]
not_empty zero (packets ∷ captures) stamp packet old head is = no_empty packets stamp packet head is
not_empty (suc place) (packets ∷ captures) stamp packet old head is = not_empty place captures stamp packet old head is

pub taken_out : (place : ℕ) (captures : List Packets) (stamp : Stamp) (packet : List ℕ) (old new : Packets) (first : Stamp × List ℕ) → HeadAt place captures stamp packet
    → get_or captures place old ≡ first ∷ new → set captures place new ≡ without_next place captures
taken_out place [] stamp packet old new first head is = elim head [ ]
taken_out zero (packets ∷ captures) stamp packet old new first head is = ap (λ rest. rest ∷ captures) (sym (ap without_first is))
taken_out (suc place) (packets ∷ captures) stamp packet old new first head is = ap (λ rest. packets ∷ rest) (taken_out place captures stamp packet old new first head is)

-- The next packet, where its port and its time are known.
pub record IsNext (captures : List Packets) (head : Head) : Type 0 where
  pub packet : List ℕ
  pub next : next_from 0 captures ≡ Some (record { port = head.port; stamp = head.stamp; packet = packet })
  pub first : HeadAt head.port captures head.stamp packet

next_so : (captures : List Packets) (head : Head) (arrival : Arrival) → next_from 0 captures ≡ Some arrival → arrival.port ≡ head.port → arrival.stamp ≡ head.stamp → IsNext captures head
next_so captures head arrival is port stamp =
    let found = head_of 0 captures arrival is in
    let place : found.place ≡ head.port = omega (arith, found.at) in
    let P : ℕ → Type 0 = λ n. HeadAt n captures arrival.stamp arrival.packet in
    let Q : Stamp → Type 0 = λ s. HeadAt head.port captures s arrival.packet in
    record {
      packet = arrival.packet;
      next = is ∙ ap (λ p. Some (record { port = p; stamp = arrival.stamp; packet = arrival.packet })) port ∙ ap (λ s. Some (record { port = head.port; stamp = s; packet = arrival.packet })) stamp;
      first = subst Q stamp (subst P place found.head);
    }

next_by : (captures : List Packets) (head : Head) (found : Option Arrival) → next_from 0 captures ≡ found → IsBest (Some head) found → IsNext captures head
next_by captures head None is best = elim best [ ]
next_by captures head (Some arrival) is best = next_so captures head arrival is (best.0) (best.1)

pub next_is : (captures : List Packets) (head : Head) → IsBest (Some head) (next_from 0 captures) → IsNext captures head
next_is captures head best = next_by captures head (next_from 0 captures) refl best

pub head_is_low : (captures : List Packets) (head : Head) → IsBest (Some head) (next_from 0 captures) → head.port < length captures
head_is_low captures head best = let next = next_is captures head best in is_low head.port captures head.stamp next.packet next.first

pub head_has_packet : (captures : List Packets) (head : Head) (old : Packets) → IsBest (Some head) (next_from 0 captures) → old ≡ get_or captures head.port old → old ≡ [] → ⊥
head_has_packet captures head old best is none = let next = next_is captures head best in not_empty head.port captures head.stamp next.packet old next.first (sym is ∙ none)

pub taken_is : (captures : List Packets) (head : Head) (old new : Packets) (first : Stamp × List ℕ) → IsBest (Some head) (next_from 0 captures) → old ≡ get_or captures head.port old
    → old ≡ first ∷ new → next_from 0 captures ≡ Some (record { port = head.port; stamp = first.0; packet = first.1 })
taken_is captures head old new first best is begins =
    let next = next_is captures head best in
    let same = same_head head.port captures head.stamp next.packet old new first next.first (sym is ∙ begins) in
    next.next ∙ ap (λ s. Some (record { port = head.port; stamp = s; packet = next.packet })) (sym (same.0)) ∙ ap (λ p. Some (record { port = head.port; stamp = first.0; packet = p })) (sym (same.1))

pub rest_is : (captures : List Packets) (head : Head) (old new : Packets) (first : Stamp × List ℕ) → IsBest (Some head) (next_from 0 captures) → old ≡ get_or captures head.port old
    → old ≡ first ∷ new → set captures head.port new ≡ without_next head.port captures
rest_is captures head old new first best is begins =
    let next = next_is captures head best in taken_out head.port captures head.stamp next.packet old new first next.first (sym is ∙ begins)
