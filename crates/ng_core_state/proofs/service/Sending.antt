-- Room for packets that are sent.
use Rattle.std.proofs.Common.{◌≡◌, ℕ, zero, suc, ◌+◌, ◌<◌, ◌≤◌, List, [], ◌∷◌, length, get_or, Bool, true, false, cond, refl, sym, ap, ◌∙◌, subst, arith}
use Rattle.std.proofs.lemmas.List.{reverse-append}
use Rattle.std.specs.Prelude.{◌++◌, reverse, take}
use Rattle.std.specs.declared.option.Option.{Option}
use Rattle.ng_machine.specs.World.{NodeRecord, hook_at}
use Rattle.ng_queue.specs.tie.TieLaws.{one}
use Rattle.ng_core_state.specs.Room.{goes_to, wants}

pub one_cond : (b : Bool) → cond b 1 0 ≡ one b
one_cond true = refl
one_cond false = refl

-- one packet less to send, and one place spent
pub wants_more : (place here : Option NodeRecord) (hook packet : List ℕ) (all rest : List (List ℕ × List ℕ)) (n before after : ℕ) → here ≡ place → all ≡ (hook, packet) ∷ rest → wants place all n ≤ before
    → before ≤ after + one (goes_to (hook_at here hook) n) → wants place rest n ≤ after
wants_more place here hook packet all rest n before after same is room spent =
    let a : wants place all n ≡ cond (goes_to (hook_at place hook) n) 1 0 + wants place rest n = ap (λ (l : List (List ℕ × List ℕ)). wants place l n) is in
    let b = one_cond (goes_to (hook_at place hook) n) in
    let d : one (goes_to (hook_at here hook) n) ≡ one (goes_to (hook_at place hook) n) = ap (λ (o : Option NodeRecord). one (goes_to (hook_at o hook) n)) same in
    omega arith

-- ROOM BEFORE ANYTHING IS SENT

wants_next : (node : Option NodeRecord) (xs : List (List ℕ × List ℕ)) (i n : ℕ) (x : List ℕ × List ℕ) → i < length xs → x ≡ get_or xs i x → wants node (take (suc i) xs) n ≡ wants node (take i xs) n + one (goes_to (hook_at node x.0) n)
wants_next node [] i n x lt e = absurd (omega arith)
wants_next node (y ∷ xs) zero n x lt e =
    let a : cond (goes_to (hook_at node y.0) n) 1 0 ≡ one (goes_to (hook_at node x.0) n) = one_cond (goes_to (hook_at node y.0) n) ∙ ap (λ (z : List ℕ × List ℕ). one (goes_to (hook_at node z.0) n)) (sym e) in omega arith
wants_next node (y ∷ xs) (suc i) n x lt e = let more = wants_next node xs i n x (omega arith) e in omega arith

pub room_next : (node : Option NodeRecord) (xs : List (List ℕ × List ℕ)) (i n : ℕ) (x : List ℕ × List ℕ) (first before after : ℕ) → i < length xs → x ≡ get_or xs i x → first + wants node (take i xs) n ≤ before
    → before + one (goes_to (hook_at node x.0) n) ≤ after → first + wants node (take (i + 1) xs) n ≤ after
room_next node xs i n x first before after lt e room more =
    let next = wants_next node xs i n x lt e in
    subst (λ (k : ℕ). first + wants node (take k xs) n ≤ after) (let f : suc i ≡ i + 1 = omega arith in f) (omega arith)

-- ONE PACKET AFTER ANOTHER

-- what is taken from the end of a list that lies the other way round is the first
pub popped_first : {A : Type 0} (all rest : List A) (x : A) → all ≡ rest ++ x ∷ [] → reverse all ≡ x ∷ reverse rest
popped_first {A} all rest x is = ap (λ (l : List A). reverse l) is ∙ reverse-append rest (x ∷ [])

pub none_left : {A : Type 0} (xs : List A) → length xs ≡ 0 → xs ≡ []
none_left [] e = refl
none_left (x ∷ xs) e = absurd (omega arith)
