-- A hook that is cut right after it was made leaves the state as it was before.
use Rattle.std.proofs.Common.{◌≡◌, if◌then◌else◌, ℕ, zero, suc, ◌==◌, Bool, true, false, not, List, [], ◌∷◌, ◌++◌, codes, unwrap_or, nat_lt, refl, sym, ap, ◌∙◌, subst, inl, inr, true≢false}
use Rattle.std.specs.List.{filter}
use Rattle.std.specs.Str.{bytes_eq}
use Rattle.std.proofs.lemmas.Bool.{cases_Bool, eqb-true, eq-eqb, or_parts}
use Rattle.ng_base.proofs.NameLemmas.{same_name, is_same, differs, without_name-added}
use Rattle.ng_base.specs.Names.{has_name}
use Rattle.ng_machine.specs.declared.plan.VlanWay.{VlanWay}
use Rattle.ng_machine.specs.declared.plan.EtfWay.{EtfWay}
use Rattle.ng_machine.specs.Words.{Every}
use Rattle.ng_machine.specs.Names.{number_behind, is_numbered, digits}
use Rattle.ng_machine.specs.Rules.{accepts_hook}
use Rattle.ng_machine.specs.Counters.{zeros}
use Rattle.ng_machine.specs.kinds.Bridge.{Link, link_number, link_hook, most_links, new_link, put_link, has_number, is_behind, elsewhere}
use Rattle.ng_machine.specs.kinds.Bpf.{new_filter, is_of_hook}
use Rattle.ng_machine.specs.State.{KindState, HubState, HoleState, EchoState, SplitState, SocketState, TeeState, One2manyState, BridgeState, VlanState, PatchState, BpfState, EtherState, EtfState, MacsetState, kind_of_kept, kept_with_hook, kept_without_hook}
use Rattle.ng_machine.specs.Sound.{has_link, KeepsByHooks, CutUndoes}

-- Names

-- an element that the test keeps stays, and one at the end that it drops goes
keeps_all : {A : Type 0} (test : A → Bool) (xs : List A) → Every (λ x. test x ≡ true) xs → filter test xs ≡ xs
keeps_all test [] h = refl
keeps_all test (x ∷ xs) h = rw (h.0) (ap (λ ys. x ∷ ys) (keeps_all test xs h.1))

drops_last : {A : Type 0} (test : A → Bool) (xs : List A) (x : A) → Every (λ y. test y ≡ true) xs → test x ≡ false → filter test (xs ++ x ∷ []) ≡ xs
drops_last test [] x h no_x = rw no_x refl
drops_last test (y ∷ xs) x h no_x = rw (h.0) (ap (λ ys. y ∷ ys) (drops_last test xs x h.1 no_x))

weaker : {A : Type 0} (P Q : A → Type 0) → ((x : A) → P x → Q x) → (xs : List A) → Every P xs → Every Q xs
weaker P Q f [] h = tt
weaker P Q f (x ∷ xs) h = (f x h.0, weaker P Q f xs h.1)

-- Links by their numbers

numbered_again : (stem : List ℕ) (n d : ℕ) (hook : List ℕ) → is_numbered stem n hook ≡ true → stem ++ digits (unwrap_or (number_behind stem n hook) d) ≡ hook
numbered_again stem zero d hook h = absurd (true≢false (sym h))
numbered_again stem (suc n) d hook h = elim (cases_Bool (bytes_eq (stem ++ digits n) hook)) [
  | inl is ↦ rw is (is_same (stem ++ digits n) hook is)
  | inr other ↦ rw other (numbered_again stem n d hook (rw other at h))
]

link_again : (hook : List ℕ) → is_numbered (codes "link") most_links hook ≡ true → link_hook (link_number hook) ≡ hook
link_again hook h = numbered_again (codes "link") most_links most_links hook h

-- the number of a link that is there isn't that of a hook that isn't
apart : (hooks : List (List ℕ)) (number : ℕ) (hook : List ℕ) → Every (λ (x : List ℕ). is_numbered (codes "link") most_links x ≡ true) hooks
    → is_numbered (codes "link") most_links hook ≡ true → has_name hooks hook ≡ false → has_link hooks number ≡ true → not (number == link_number hook) ≡ true
apart [] number hook taken takes no_hook there = absurd (true≢false (sym there))
apart (other ∷ hooks) number hook taken takes no_hook there =
    let parts = or_parts (bytes_eq other hook) (has_name hooks hook) no_hook in
    elim (cases_Bool (link_number other == number)) [
      | inl is ↦ elim (cases_Bool (number == link_number hook)) [
        | inl same ↦
            let e : other ≡ hook = sym (link_again other taken.0) ∙ ap link_hook (eqb-true (link_number other) number is ∙ eqb-true number (link_number hook) same) ∙ link_again hook takes in
            absurd (true≢false (sym (same_name hook) ∙ subst (λ (x : List ℕ). bytes_eq x hook ≡ false) e parts.0))
        | inr differ ↦ ap not differ
      ]
      | inr no_link ↦ apart hooks number hook taken.1 takes parts.1 (rw no_link at there)
    ]

put_drops : (test : Link → Bool) (x : Link) (links : List Link) → Every (λ l. test l ≡ true) links → test x ≡ false → filter test (put_link x links) ≡ links
put_drops test x [] h no_x = rw no_x refl
put_drops test x (m ∷ links) h no_x = by (nat_lt x.number m.number) (put_drops test x links h.1 no_x)
  where
    by : (b : Bool) → filter test (put_link x links) ≡ links → filter test (if b then x ∷ m ∷ links else m ∷ put_link x links) ≡ m ∷ links
    by true rest = rw no_x (rw (h.0) (ap (λ ys. m ∷ ys) (keeps_all test links h.1)))
    by false rest = rw (h.0) (ap (λ ys. m ∷ ys) rest)

-- Parts

undone_part : (kept : KindState) (hooks : List (List ℕ)) (hook : List ℕ) → Every (λ (x : List ℕ). accepts_hook (kind_of_kept kept) x ≡ true) hooks → KeepsByHooks kept hooks
    → accepts_hook (kind_of_kept kept) hook ≡ true → has_name hooks hook ≡ false → kept_without_hook (kept_with_hook kept hook) hook ≡ kept
undone_part (One2manyState s) hooks hook taken kept takes no_hook =
    ap (λ rows. One2manyState (record s { rows = rows }))
    (drops_last (λ (row : List ℕ × List ℕ). not (bytes_eq row.0 hook)) s.rows (hook, zeros 5)
    (weaker _ _ (λ row there. differs hooks row.0 hook no_hook there) s.rows kept) (ap not (same_name hook)))
undone_part (BridgeState s) hooks hook taken kept takes no_hook =
    ap (λ links. BridgeState (record s { links = links; hosts = elsewhere (link_number hook) s.hosts }))
    (put_drops (λ l. not (has_number (link_number hook) l)) (new_link (link_number hook)) s.links
    (weaker _ _ (λ l there. apart hooks l.number hook taken takes no_hook there) s.links kept.0) (ap not (eq-eqb (link_number hook) (link_number hook) refl)))
    ∙ ap (λ hosts. BridgeState (record s { hosts = hosts }))
    (keeps_all (λ h. not (is_behind (link_number hook) h)) s.hosts (weaker _ _ (λ h there. apart hooks h.link hook taken takes no_hook there) s.hosts kept.1))
undone_part (VlanState s) hooks hook taken kept takes no_hook =
    ap (λ filters. VlanState (record s { filters = filters }))
    (keeps_all (λ (f : VlanWay). not (bytes_eq f.hook hook)) s.filters (weaker _ _ (λ f there. differs hooks f.hook hook no_hook there) s.filters kept))
undone_part (EtfState s) hooks hook taken kept takes no_hook =
    ap (λ filters. EtfState (record s { filters = filters }))
    (keeps_all (λ (f : EtfWay). not (bytes_eq f.hook hook)) s.filters (weaker _ _ (λ f there. differs hooks f.hook hook no_hook there) s.filters kept))
undone_part (BpfState s) hooks hook taken kept takes no_hook =
    ap BpfState
    (drops_last (λ f. not (is_of_hook hook f)) s (new_filter hook) (weaker _ _ (λ f there. differs hooks f.way.hook hook no_hook there) s kept) (ap not (same_name hook)))
undone_part (HubState s) hooks hook taken kept takes no_hook = refl
undone_part HoleState hooks hook taken kept takes no_hook = refl
undone_part EchoState hooks hook taken kept takes no_hook = refl
undone_part SplitState hooks hook taken kept takes no_hook = refl
undone_part SocketState hooks hook taken kept takes no_hook = refl
undone_part (TeeState s) hooks hook taken kept takes no_hook = refl
undone_part (PatchState s) hooks hook taken kept takes no_hook = refl
undone_part (EtherState s) hooks hook taken kept takes no_hook = refl
undone_part (MacsetState s) hooks hook taken kept takes no_hook = refl

pub cut_undoes : CutUndoes
cut_undoes state hook sound takes no_hook =
    ap (λ (hooks : List (List ℕ)). record { hooks = hooks; kept = kept_without_hook (kept_with_hook state.kept hook) hook }) (without_name-added state.hooks hook no_hook)
    ∙ ap (λ (kept : KindState). record { hooks = state.hooks; kept = kept }) (undone_part state.kept state.hooks hook sound.taken sound.kept takes no_hook)
