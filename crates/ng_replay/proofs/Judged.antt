-- The core that judges, as it was made, and what it says of the run.
use Rattle.std.proofs.Common.{◌≡◌, ◌∙◌, ℕ, ◌+◌, ◌≤◌, true, List, ◌∷◌, length, map, sym, ap, subst}
use Rattle.std.proofs.lemmas.List.{length-map}
use Rattle.ng_base.specs.declared.event.Event.{Event}
use Rattle.ng_base.specs.declared.kind.Kind.{Kind}
use Rattle.ng_replay.specs.judge.Following.{StandsAfter, all_with}
use Rattle.ng_replay.specs.judge.Verdict.{IsVerdict}
use Rattle.ng_replay.specs.declared.judge.verdict.Verdict.{Verdict}
use Rattle.ng_machine.specs.declared.input.Input.{Input}
use Rattle.ng_machine.specs.Laws.{Setting, world_after}
use Rattle.ng_machine.specs.LowRun.{IsModest, most_ports}
use Rattle.ng_machine.specs.Run.{RunState}
use Rattle.ng_core.specs.Beginning.{begun_core}
use Rattle.ng_base.specs.Names.{are_different}
use Rattle.ng_core.specs.CoreStory.{CoreStory, story}
use Rattle.ng_machine.specs.story.Story.{AreFitFor, world_of}
use Rattle.ng_call.specs.MayRun.{MayRun}
use Rattle.ng_call.specs.Run.{setting_of}
use Rattle.ng_args.specs.declared.port.PortWord.{PortWord}
use Rattle.ng_args.specs.declared.words.ReplayWords.{ReplayWords}
use Rattle.ng_replay.specs.Call.{run_of}

module _ (kinds : List Kind) (w : ReplayWords) (inputs : List Input) where
  abbrev names_in : List (List ℕ)
  names_in = map (λ (port : PortWord). port.name) w.ports

  abbrev made : List (List ℕ) → CoreStory
  made names = begun_core w.own_name names kinds w.budget (w.workers + 1)

  -- what is asked of the names, and of how many there are
  module _ (names : List (List ℕ)) (names_are : names ≡ names_in) (may : MayRun (setting_of kinds (run_of w) inputs)) where
    pub names_differ : are_different (w.own_name ∷ names) ≡ true
    names_differ =
        ap (λ (l : List (List ℕ)). are_different (w.own_name ∷ l)) names_are
        ∙ may.differ

    pub names_few : length names ≤ most_ports
    names_few = subst (λ (l : List (List ℕ)). length l ≤ most_ports) (sym names_are) may.modest.ports

  module _ (core : CoreStory) (names : List (List ℕ)) (core_is : core ≡ made names) (names_are : names ≡ names_in) where
    is_made : core ≡ made names_in
    is_made = core_is ∙ ap made names_are

    -- the core's run over all inputs is that of the words
    pub setting_is : all_with (story core) inputs ≡ setting_of kinds (run_of w) inputs
    setting_is = ap (λ (c : CoreStory). all_with (story c) inputs) is_made

    pub inputs_fit : MayRun (setting_of kinds (run_of w) inputs) → AreFitFor (story core) inputs
    inputs_fit may = subst IsModest (sym setting_is) may.modest

    pub verdict_is : (journal : List Event) (verdict : Verdict) → IsVerdict (all_with (story core) inputs) journal verdict
        → IsVerdict (setting_of kinds (run_of w) inputs) journal verdict
    verdict_is journal verdict is = subst (λ (s : Setting). IsVerdict s journal verdict) setting_is is

    module _ (journal : List Event) (now : CoreStory) (stands : (left : List Input) × StandsAfter (all_with (story core) inputs) journal (story now) left) where
      pub world_is : world_of (story now) ≡ world_after (setting_of kinds (run_of w) inputs) journal
      world_is =
          sym (ap (λ (a : RunState). a.world) stands.1.run)
          ∙ ap (λ (s : Setting). world_after s journal) setting_is

      pub ports_are : length now.ports ≡ length w.ports
      ports_are =
          ap (λ (s : Setting). length s.ports) (stands.1.inputs ∙ setting_is)
          ∙ length-map w.ports (λ (port : PortWord). port.name)
