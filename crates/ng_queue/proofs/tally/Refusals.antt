-- The numbers refuse an input where the machine does.
use Rattle.std.proofs.Common.{◌≡◌, ℕ, suc, ◌+◌, List, [], ◌∷◌, length, Bool, true, false, not, ◌&&◌, cond, ltb, leb, is_some, inl, inr, refl, sym, ap, ◌∙◌, arith}
use Rattle.std.proofs.lemmas.Bool.{eq-eqb, lt-ltb}
use Rattle.std.specs.declared.option.Option.{Option}
use Rattle.std.specs.declared.option.Option.TheVariants.{None, Some}
use Rattle.std.specs.List.{list_all}
use Rattle.ng_machine.specs.declared.fed.Fed.{Fed}
use Rattle.ng_machine.specs.declared.fed.Fed.TheVariants.{Spent, Unsettled, NotQuiet, Window, Ticking}
use Rattle.ng_machine.specs.declared.item.Item.{Item}
use Rattle.ng_machine.specs.Words.{Has, times, first_refusal, is_empty}
use Rattle.ng_machine.specs.Body.{has_tag, is_tag, has_tick}
use Rattle.ng_machine.specs.World.{World}
use Rattle.ng_machine.specs.Change.{frames}
use Rattle.ng_machine.specs.Orderly.{feeding_frames}
use Rattle.ng_machine.specs.Refusal.{is_command, is_late, wants_window, is_tick_input}
use Rattle.ng_machine.specs.Tests.{is_settled, has_window}
use Rattle.ng_queue.specs.tally.Tally.{is_tagged}
use Rattle.ng_queue.specs.tally.Feeding.{CountsRefuse}

not_below : (a b : ℕ) → leb b a ≡ not (ltb a b)
not_below a b = grind arith

some_more : (n : ℕ) → ltb 0 (1 + n) ≡ true
some_more n = lt-ltb 0 (1 + n) (omega arith)

-- an item that passes makes the count more than none
any_counted : (b : Bool) (rest : Bool) (n : ℕ) → ltb 0 n ≡ not rest → ltb 0 (cond b 1 0 + n) ≡ not (not b && rest)
any_counted true rest n e = some_more n
any_counted false rest n e = ap (ltb 0) zero_more ∙ e
  where
    zero_more : 0 + n ≡ n
    zero_more = omega arith

tag_is : (command : ℕ) (o : Option ℕ) → ((tag : ℕ) → o ≡ Some tag → tag ≡ command) → is_tag command o ≡ is_some o
tag_is command None h = refl
tag_is command (Some tag) h = eq-eqb tag command (h tag refl)

some_tagged : (command : ℕ) (items : List Item) → ((item : Item) (tag : ℕ) → Has item items → item.tag ≡ Some tag → tag ≡ command)
    → ltb 0 (times is_tagged items) ≡ not (list_all (λ (item : Item). not (has_tag command item)) items)
some_tagged command [] h = refl
some_tagged command (x ∷ xs) h =
    any_counted (is_tagged x) (list_all (λ (item : Item). not (has_tag command item)) xs) (times is_tagged xs) (some_tagged command xs (λ item tag k. h item tag (inr k)))
    ∙ ap (λ (b : Bool). not (not b && list_all (λ (item : Item). not (has_tag command item)) xs)) (sym (tag_is command x.tag (λ tag. h x tag (inl refl))))

some_ticks : (items : List Item) → ltb 0 (times has_tick items) ≡ not (list_all (λ (item : Item). not (has_tick item)) items)
some_ticks [] = refl
some_ticks (x ∷ xs) = any_counted (has_tick x) (list_all (λ (item : Item). not (has_tick item)) xs) (times has_tick xs) (some_ticks xs)

some_items : (items : List Item) → ltb 0 (length items) ≡ not (is_empty items)
some_items [] = refl
some_items (x ∷ xs) = lt-ltb 0 (suc (length xs)) (omega arith)

-- the table, by its tests
abbrev table : World → Bool → Bool → Bool → Bool → Bool → Option Fed
table w a b c d e = first_refusal ((a, Spent w.applies) ∷ (b, Unsettled w.command) ∷ (c, NotQuiet (length w.pending)) ∷ (d, Window (frames w)) ∷ (e, Ticking (times has_tick w.pending)) ∷ [])

pub counts_refuse : CountsRefuse
counts_refuse budget w input tags =
    ap (λ (x : Bool). table w x (is_command input && ltb 0 (times is_tagged w.pending)) (is_late input && ltb 0 (length w.pending)) (wants_window input && leb feeding_frames (frames w)) (is_tick_input input && ltb 0 (times has_tick w.pending)))
    (not_below w.applies budget)
    ∙ ap (λ (x : Bool). table w (not (ltb w.applies budget)) (is_command input && x) (is_late input && ltb 0 (length w.pending)) (wants_window input && leb feeding_frames (frames w)) (is_tick_input input && ltb 0 (times has_tick w.pending)))
    (some_tagged w.command w.pending tags)
    ∙ ap (λ (x : Bool). table w (not (ltb w.applies budget)) (is_command input && not (is_settled w)) (is_late input && x) (wants_window input && leb feeding_frames (frames w)) (is_tick_input input && ltb 0 (times has_tick w.pending)))
    (some_items w.pending)
    ∙ ap (λ (x : Bool). table w (not (ltb w.applies budget)) (is_command input && not (is_settled w)) (is_late input && not (is_empty w.pending)) (wants_window input && x) (is_tick_input input && ltb 0 (times has_tick w.pending)))
    (not_below (frames w) feeding_frames)
    ∙ ap (λ (x : Bool). table w (not (ltb w.applies budget)) (is_command input && not (is_settled w)) (is_late input && not (is_empty w.pending)) (wants_window input && not (has_window w)) (is_tick_input input && x))
    (some_ticks w.pending)
