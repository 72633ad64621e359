-- What came of a core that was just made by the words is the run that they ask for.
use Rattle.std.proofs.Common.{◌≡◌, ◌∙◌, ℕ, ◌+◌, ◌≤◌, List, length, false, true, sym, ap, subst}
use Rattle.std.proofs.lemmas.List.{length-map}
use Rattle.ng_base.specs.declared.event.Event.{Event}
use Rattle.ng_base.specs.declared.kind.Kind.{Kind}
use Rattle.ng_machine.specs.declared.input.Input.{Input}
use Rattle.ng_machine.specs.Laws.{IsJournal, run_state_after, start, world_after}
use Rattle.ng_machine.specs.Orderly.{IsWhole}
use Rattle.ng_machine.specs.Plain.{IsPlain}
use Rattle.ng_machine.specs.Run.{RunState}
use Rattle.ng_machine.specs.SetUp.{has_waited}
use Rattle.ng_call.specs.Run as run
use Rattle.ng_call.specs.Run.{IsRun}
use Rattle.ng_core.specs.CoreStory.{CoreStory, setting_of, story}
use Rattle.ng_core.proofs.PortCounts.{ports_stay}
use Rattle.ng_machine.specs.story.Story.{has_ended, run_state_of, with_more, world_of}
use Rattle.ng_args.specs.declared.words.Words.{Words}
use Rattle.ng_args.specs.Run.{ports_from}
use Rattle.ng_run.specs.Begun.{begun_by}
use Rattle.ng_core.proofs.Stocked.{begun_runs}

-- its journal is orderly over all inputs, and whole, and their run ends where it stands
abbrev pub IsWholeRun : List Kind → Words → ℕ → List Input → CoreStory → Type 0
IsWholeRun kinds words seats inputs new =
    IsJournal (with_more (setting_of (begun_by kinds words seats)) inputs) new.journal
    × IsWhole (start (setting_of (begun_by kinds words seats))) (with_more (setting_of (begun_by kinds words seats)) inputs).given new.journal
    × (run_state_after (with_more (setting_of (begun_by kinds words seats)) inputs) new.journal ≡ run_state_of (story new))

module _ (kinds : List Kind) (words : Words) (seats : ℕ) (inputs : List Input) (new : CoreStory) (s : seats ≡ words.workers + 1) where
  pub is_run : IsWholeRun kinds words seats inputs new
      → (words.workers ≡ 0 → IsPlain (start (setting_of (begun_by kinds words seats))) (with_more (setting_of (begun_by kinds words seats)) inputs).given words.budget new.journal)
      → (1 ≤ words.workers → has_waited (with_more (setting_of (begun_by kinds words seats)) inputs) new.journal ≡ true)
      → IsRun (run.setting_of kinds words inputs) words.workers new.journal
  is_run W plain waits =
      subst (λ (n : ℕ). IsRun (with_more (setting_of (begun_by kinds words n)) inputs) words.workers new.journal) s
      (record { orderly = W.0; whole = W.1; plain = plain; waits = waits })

  -- where memory ran out, it is orderly as far as it goes
  pub is_part : (journal : List Event) → journal ≡ new.journal → IsJournal (with_more (setting_of (begun_by kinds words seats)) inputs) new.journal → IsJournal (run.setting_of kinds words inputs) journal
  is_part journal is orderly =
      subst (IsJournal (run.setting_of kinds words inputs)) (sym is)
      (subst (λ (n : ℕ). IsJournal (with_more (setting_of (begun_by kinds words n)) inputs) new.journal) s orderly)

  pub is_world : IsWholeRun kinds words seats inputs new → world_of (story new) ≡ world_after (run.setting_of kinds words inputs) new.journal
  is_world W =
      sym (ap (λ (a : RunState). a.world) W.2)
      ∙ ap (λ (n : ℕ). world_after (with_more (setting_of (begun_by kinds words n)) inputs) new.journal) s

  pub has_ports : IsWholeRun kinds words seats inputs new → length (world_of (story new)).ports ≡ length (ports_from words.source)
  has_ports W =
      sym (ap (λ (a : RunState). length a.world.ports) W.2)
      ∙ ports_stay (with_more (setting_of (begun_by kinds words seats)) inputs) new.journal
      ∙ length-map (ports_from words.source) (λ port. port.name)

pub runs : (kinds : List Kind) (words : Words) (seats : ℕ) (core : CoreStory) → core ≡ begun_by kinds words seats → has_ended (story core) ≡ false
runs kinds words seats core m = subst (λ (x : CoreStory). has_ended (story x) ≡ false) (sym m) (begun_runs seats)
