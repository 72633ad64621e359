use Rattle.std.proofs.Common.{◌≡◌, ◌≢◌, ◌∙◌, ℕ, zero, suc, ◌+◌, ◌<◌, ◌≤◌, List, [], ◌∷◌, length, set, refl, sym, ap, subst, ⊎_elim, arith, length-set}
use Rattle.std.proofs.lemmas.Bool.{cases_eq, cases_lt}
use Rattle.std.proofs.lemmas.List.{get_or-set_other, get_or-set_same}
use Rattle.ng_queue.specs.declared.entry.Entry.{Entry}
use Rattle.ng_queue.specs.Queue.{AllWait}
use Rattle.ng_queue.specs.Queues.{list_at}
use Rattle.ng_core.proofs.stopping.clear.Goals as goal

-- there is nothing behind the last queue
beyond : (lists : List (List Entry)) (n : ℕ) → length lists ≤ n → list_at lists n ≡ []
beyond [] n le = refl
beyond (x ∷ lists) zero le = absurd (omega arith)
beyond (x ∷ lists) (suc n) le = beyond lists n (omega arith)

-- one more is empty
emptied : (lists : List (List Entry)) (at n : ℕ) → at < length lists → ((k : ℕ) → k < at → list_at lists k ≡ []) → n < at + 1 → list_at (set lists at []) n ≡ []
emptied lists at n there before lt = ⊎_elim
    (λ (e : n ≡ at). ap (λ (k : ℕ). list_at (set lists at []) k) e ∙ get_or-set_same lists at [] [] there)
    (λ (d : n ≢ at). get_or-set_other lists at n [] [] d ∙ before n (omega arith))
    (cases_eq n at)

pub loop-at-init : goal.loop-at-init
loop-at-init c = (refl, (λ n lt. absurd (omega arith)), (λ n le. refl))

pub purge-requires-clause-there : goal.purge-requires-clause-there
purge-requires-clause-there c = let same = c.loop-at.invariant.0 in let lt = c.loop-at-test.true in let len = c.len-at-end.ensures in omega arith

pub purge-requires-clause-waits : goal.purge-requires-clause-waits
purge-requires-clause-waits c = subst AllWait (sym (c.loop-at.invariant.2 c.loop-at.at (omega arith))) (c.requires.waits c.loop-at.at)

pub loop-at-preserved : goal.loop-at-preserved
loop-at-preserved c =
    let lists = c.purge.ensures.lists in
    let same = c.loop-at.invariant.0 in
    let lt = c.loop-at-test.true in
    let len = c.len-at-end.ensures in
    let there : c.loop-at.at < length c.loop-at.queues.lists = omega arith in (
      ap (λ (l : List (List Entry)). length l) lists ∙ length-set c.loop-at.queues.lists c.loop-at.at [] ∙ same,
      (λ n below. ap (λ (l : List (List Entry)). list_at l n) lists ∙ emptied c.loop-at.queues.lists c.loop-at.at n there c.loop-at.invariant.1 (omega arith)),
      (λ n above. ap (λ (l : List (List Entry)). list_at l n) lists ∙ get_or-set_other c.loop-at.queues.lists c.loop-at.at n [] [] (λ e. absurd (omega arith)) ∙ c.loop-at.invariant.2 n (omega arith)),
    )

pub returns-clause-clear : goal.returns-clause-clear
returns-clause-clear c = λ n. ⊎_elim
    (λ (lt : n < c.loop-at.at). c.loop-at.invariant.1 n lt)
    (λ (le : c.loop-at.at ≤ n). let same = c.loop-at.invariant.0 in let len = c.len-at-end.ensures in let auto = c.loop-at.auto.at-end in let over = c.loop-at-test.false in beyond c.loop-at.queues.lists n (omega arith))
    (cases_lt n c.loop-at.at)

pub returns-clause-lists : goal.returns-clause-lists
returns-clause-lists c = c.loop-at.invariant.0
