-- The passes in a row: as they begin, and as they are taken from it and come back.
use Rattle.std.proofs.Common.{◌≡◌, ◌<◌, ◌∙◌, ℕ, zero, suc, List, [], ◌∷◌, ◌++◌, length, false, refl, sym, ap, subst, arith}
use Rattle.ng_machine.specs.declared.input.Input.{Input}
use Rattle.ng_machine.specs.Desk.{SeatDesk}
use Rattle.ng_workers.proofs.pool.Idle.{all_idle}
use Rattle.ng_core.proofs.OpenStories.{open_story}
use Rattle.ng_core.specs.CoreStory.{CoreStory, story}
use Rattle.ng_machine.specs.story.Desks.{no_desk}
use Rattle.ng_machine.specs.story.Story.{AreFitFor, has_ended, run_state_of}
use Rattle.ng_turn.specs.declared.pass.Pass.{Pass}
use Rattle.ng_turn.specs.declared.turn.Turn.{Turn}
use Rattle.ng_turn.specs.Words.{Begins, EachPass, desk_of, seat_of, seats_of}
use Rattle.ng_turn.proofs.Lists.{place_below, there_below}
use Rattle.ng_turn.proofs.Passes.{each_last, each_less, each_more}
use Rattle.ng_workers.specs.Desks.{Grew, IsOver, IsReady, core_desk}
use Rattle.ng_workers.specs.Driving.{DroveOn, IsOpenFor}
use Rattle.ng_workers.specs.Passes.{AreBackFrom, AreDesksOf, AreReady, Grows, IsBackFrom, IsOf, IsReadyPass, desk, did_part, may_drive}
use Rattle.ng_workers.proofs.EndedRuns.{AllDid, nobody_gave_up, not_failed}

-- AT THE BEGINNING

module _ (c : CoreStory) (inputs : List Input) (running : has_ended (story c) ≡ false) (idle : (run_state_of (story c)).taken ≡ []) (fits : AreFitFor (story c) inputs) where
  ready_at : (seat : ℕ) → seat < c.seats → IsReady seat (core_desk c seat)
  ready_at seat below = record {
    idle = all_idle (story c) seat idle;
    stays = nobody_gave_up c seat (not_failed (story c) running);
    seat_is = below;
  }

  drives_at : (seat : ℕ) → may_drive inputs seat (core_desk c seat)
  drives_at zero = (open_story (story c) running, fits)
  drives_at (suc seat) = tt

  pub begun_ready : {C : Type 0} (turn : Turn C SeatDesk) (value : C) (desk_in : C → ℕ → SeatDesk) (passes : List (Pass C SeatDesk)) (seats : ℕ) → seats ≡ c.seats
      → ((seat : ℕ) → desk_in value seat ≡ core_desk c seat) → Begins no_desk desk_in value seats turn passes → AreReady turn inputs passes
  begun_ready turn value desk_in passes seats many same made seat pass at =
      let is = made.2 seat pass at in
      let below : seat < c.seats = subst (λ (n : ℕ). seat < n) (made.0 ∙ many) (place_below passes seat pass at) in
      let here : core_desk c seat ≡ desk pass = sym (is.2 ∙ same seat) in
      (is.0, is.1, subst (IsReady seat) here (ready_at seat below), subst (may_drive inputs seat) here (drives_at seat))

pub begun_desks : {C : Type 0} (c : CoreStory) (turn : Turn C SeatDesk) (value : C) (desk_in : C → ℕ → SeatDesk) (passes : List (Pass C SeatDesk)) (seats : ℕ)
    → ((seat : ℕ) → desk_in value seat ≡ core_desk c seat) → Begins no_desk desk_in value seats turn passes → AreDesksOf c passes
begun_desks c turn value desk_in passes seats same made seat pass at = (made.2 seat pass at).2 ∙ same seat

-- TAKEN AND PUT BACK

module _ {C : Type 0} (turn : Turn C SeatDesk) (inputs : List Input) (row less : List (Pass C SeatDesk)) (last : Pass C SeatDesk) (is : row ≡ less ++ last ∷ []) where
  pub last_ready : AreReady turn inputs row → IsReadyPass turn inputs (length less) last
  last_ready ready = each_last (IsReadyPass turn inputs) row less last is ready

  pub less_ready : AreReady turn inputs row → AreReady turn inputs less
  less_ready ready = each_less (IsReadyPass turn inputs) row less last is ready

  pub last_desk : (c : CoreStory) → AreDesksOf c row → desk last ≡ core_desk c (length less)
  last_desk c desks = each_last (λ seat pass. desk pass ≡ core_desk c seat) row less last is desks

  pub less_desks : (c : CoreStory) → AreDesksOf c row → AreDesksOf c less
  less_desks c desks = each_less (λ seat pass. desk pass ≡ core_desk c seat) row less last is desks

module _ {C : Type 0} (turn : Turn C SeatDesk) (c : CoreStory) (inputs : List Input) (row less : List (Pass C SeatDesk)) (last : Pass C SeatDesk) (is : row ≡ less ++ last ∷ []) where
  pub back_more : AreBackFrom turn c inputs less → IsBackFrom turn c inputs (length less) last → AreBackFrom turn c inputs row
  back_more back here = each_more (IsBackFrom turn c inputs) row less last is back here

-- a worker's part, by its pass before and after
pub worked_part : (inputs : List Input) (seat : ℕ) (before old new : SeatDesk) → 0 < seat → old ≡ before → Grew old new → IsOver new → did_part inputs seat before new
worked_part inputs zero before old new some same grew over = absurd (omega arith)
worked_part inputs (suc seat) before old new some same grew over = (subst (λ (d : SeatDesk). Grew d new) same grew, over)

-- the driver's
pub drove_part : (inputs : List Input) (seat : ℕ) (before old new : SeatDesk) → seat ≡ 0 → old ≡ before → DroveOn old new inputs → did_part inputs seat before new
drove_part inputs zero before old new none same drove = subst (λ (d : SeatDesk). DroveOn d new inputs) same drove
drove_part inputs (suc seat) before old new none same drove = absurd (omega arith)

-- AT THE END

pub all_did : {C : Type 0} (turn : Turn C SeatDesk) (old new : CoreStory) (value : C) (desk_in : C → ℕ → SeatDesk) (inputs : List Input) (passes : List (Pass C SeatDesk)) → length passes ≡ old.seats
    → ((seat : ℕ) → desk_in value seat ≡ core_desk new seat) → AreBackFrom turn old inputs passes → EachPass (λ seat pass. desk_in value seat ≡ desk_of no_desk pass) passes → AllDid old new inputs
all_did turn old new value desk_in inputs passes many same back desks seat below =
    let there = there_below passes seat (subst (λ (n : ℕ). seat < n) (sym many) below) in
    let it = back seat there.0 there.1 in
    (desk there.0, sym (same seat) ∙ desks seat there.0 there.1, it.2)
