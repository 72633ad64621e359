-- A seat's desk grows by what the core's calls say of it.
use Rattle.std.proofs.Common.{◌≡◌, ◌+◌, ℕ, List, [], ◌∷◌, ◌++◌, Bool, true, false, refl, sym, ap, ◌∙◌, subst, true≢false, arith, if◌then◌else◌}
use Rattle.std.proofs.lemmas.List.{append-nil, append_assoc}
use Rattle.ng_base.specs.declared.event.Event.{Event}
use Rattle.ng_machine.proofs.Counted.{times-append}
use Rattle.ng_machine.specs.Desk.{Job, SeatDesk}
use Rattle.ng_machine.specs.Words.{Every, times}
use Rattle.ng_machine.specs.story.Desks.{desk_with}
use Rattle.ng_workers.specs.Desks.{Gains, Grew, MayBack, is_back, is_feed}

none_backs : (b : Bool) → MayBack b []
none_backs true = tt
none_backs false = tt

one_backs : (b : Bool) (e : Event) → is_back e ≡ false → MayBack b (e ∷ [])
one_backs true e is = tt
one_backs false e is = (is, tt)

every_append : (P : Event → Type 0) (xs ys : List Event) → Every P xs → Every P ys → Every P (xs ++ ys)
every_append P [] ys a b = b
every_append P (x ∷ xs) ys a b = (a.0, every_append P xs ys a.1 b)

both_backs : (b c : Bool) (xs ys : List Event) → (b ≡ true → c ≡ true) → MayBack b xs → MayBack c ys → MayBack c (xs ++ ys)
both_backs b true xs ys marks m n = tt
both_backs true false xs ys marks m n = absurd (true≢false (sym (marks refl)))
both_backs false false xs ys marks m n = every_append (λ x. is_back x ≡ false) xs ys m n

pub one_feed : (e : Event) → is_feed e ≡ false → times is_feed (e ∷ []) ≡ 0
one_feed e is = ap (λ (b : Bool). (if b then 1 else 0) + 0) is

pub gains_then : (a b c : SeatDesk) (xs ys : List Event) → Gains a b xs → Gains b c ys → Gains a c (xs ++ ys)
gains_then a b c xs ys x y = record {
  seats = y.seats ∙ x.seats;
  own = y.own ∙ ap (λ (l : List Event). l ++ ys) x.own ∙ append_assoc a.own xs ys;
  backs = both_backs b.gave_up c.gave_up xs ys y.marks x.backs y.backs;
  marks = λ marked. y.marks (x.marks marked);
}

pub gains_none : (d : SeatDesk) → Gains d d []
gains_none d = record { seats = refl; own = sym (append-nil d.own); backs = none_backs d.gave_up; marks = λ marked. marked }

pub grew_none : (d : SeatDesk) → Grew d d
grew_none d = record { more = []; gains = gains_none d; feeds = refl; first = refl }

pub grew_same : (old new : SeatDesk) → new ≡ old → Grew old new
grew_same old new same = subst (Grew old) (sym same) (grew_none old)

-- one event more
pub grew_event : (old new : SeatDesk) (e : Event) (job : Job) → is_back e ≡ false → is_feed e ≡ false → new ≡ desk_with old e job → Grew old new
grew_event old new e job back feed is = subst (Grew old) (sym is) (record {
  more = e ∷ [];
  gains = record { seats = refl; own = refl; backs = one_backs old.gave_up e back; marks = λ marked. marked };
  feeds = one_feed e feed;
  first = refl;
})

-- the seat gives up
abbrev pub marked : SeatDesk → SeatDesk
marked d = record d { gave_up = true }

pub grew_marked : (old new : SeatDesk) → new ≡ marked old → Grew old new
grew_marked old new is = subst (Grew old) (sym is) (record {
  more = [];
  gains = record { seats = refl; own = sym (append-nil old.own); backs = tt; marks = λ _. refl };
  feeds = refl;
  first = refl;
})

-- and puts back what it has before
pub grew_back : (old new : SeatDesk) (e : Event) (job : Job) → is_feed e ≡ false → new ≡ marked (desk_with old e job) → Grew old new
grew_back old new e job feed is = subst (Grew old) (sym is) (record {
  more = e ∷ [];
  gains = record { seats = refl; own = refl; backs = tt; marks = λ _. refl };
  feeds = one_feed e feed;
  first = refl;
})

pub grew_then : (a b c : SeatDesk) → Grew a b → Grew b c → Grew a c
grew_then a b c x y = record {
  more = x.more ++ y.more;
  gains = gains_then a b c x.more y.more x.gains y.gains;
  feeds = let all = times-append is_feed x.more y.more in let one = x.feeds in let other = y.feeds in omega arith;
  first = y.first ∙ x.first;
}
