use Rattle.std.proofs.Common.{◌≡◌, ◌∙◌, ℕ, List, ◌∷◌, length, map, false, refl, sym, ap, subst}
use Rattle.std.proofs.lemmas.List.{length-map}
use Rattle.ng_base.specs.declared.kind.Kind.{Kind}
use Rattle.ng_machine.specs.declared.input.Input.{Input}
use Rattle.ng_machine.specs.Laws.{world_after}
use Rattle.ng_machine.specs.LowRun.{IsModest}
use Rattle.ng_machine.specs.Run.{RunState}
use Rattle.ng_machine.specs.State.{kind_of}
use Rattle.ng_workers.specs.pool.Plainly.{WentPlainly}
use Rattle.ng_core.specs.Beginning.{begun_core}
use Rattle.ng_core.specs.CoreStory.{CoreStory, setting_of as core_setting, story}
use Rattle.ng_core.proofs.PortCounts.{ports_stay}
use Rattle.ng_machine.specs.story.Story.{has_ended, with_more}
use Rattle.ng_args.specs.declared.port.PortWord.{PortWord}
use Rattle.ng_base.specs.Names.{are_different}
use Rattle.ng_core.proofs.Stocked.{begun_runs}
use Rattle.ng_forecast.specs.Steps.{IsRun, most_applied}
use Rattle.ng_forecast.proofs.Standing.{is_modest, names_differ}
use Rattle.ng_forecast.proofs.stand.run_commands.Goals as goal
use Rattle.ng_forecast.proofs.stand.run_commands.Goals.{After-journal-journal}

pub new-requires-clause-names : goal.new-requires-clause-names
new-requires-clause-names g c κs within =
    ap (λ (l : List (List ℕ)). are_different (c.args.words.now.own_name ∷ l)) (c.in_ok-ports.ensures ∙ ap (λ (p : List PortWord). map (λ port. port.name) p) c.as_slice.ensures)
    ∙ names_differ c.args.words.now c.requires.names

-- the core as it was made, with these names of ports
abbrev made : List ℕ → List Kind → List (List ℕ) → CoreStory
made own kinds ports = begun_core own ports kinds most_applied 1

pub plain-requires-clause-running : goal.plain-requires-clause-running
plain-requires-clause-running g c κs within =
    subst (λ (x : CoreStory). has_ended (story x) ≡ false) (sym c.in_ok-core.ensures) (begun_runs 1)

pub plain-requires-clause-fits : goal.plain-requires-clause-fits
plain-requires-clause-fits g c κs within =
    let kinds = map (λ b. kind_of (g.B.Node.state b)) c.args.stock.items in
    let made_of = made c.args.words.now.own_name kinds in
    subst (λ (x : CoreStory). IsModest (with_more (core_setting x) c.in_ok-inputs.inputs.items)) (sym c.in_ok-core.ensures)
    (subst (λ (l : List (List ℕ)). IsModest (with_more (core_setting (made_of l)) c.in_ok-inputs.inputs.items)) (sym (c.in_ok-ports.ensures ∙ ap (λ (p : List PortWord). map (λ port. port.name) p) c.as_slice.ensures))
    (subst (λ (l : List Input). IsModest (with_more (core_setting (made_of (map (λ port. port.name) c.args.words.now.ports))) l)) (sym c.in_ok-inputs.ensures)
    (is_modest kinds c.args.words.now c.args.script c.requires.names c.know_commands.ensures.held c.know_commands.ensures.fit)))

abbrev made_by : (g : _) (c : After-journal-journal g) → List (List ℕ) → CoreStory
made_by g c = made c.args.words.now.own_name (map (λ b. kind_of (g.B.Node.state b)) c.args.stock.items)

went : (g : _) (c : After-journal-journal g) → WentPlainly (story (made_by g c c.in_ok-ports.ports.items)) c.in_ok-inputs.inputs.items (story c.plain.new.core)
went g c = subst (λ (x : CoreStory). WentPlainly (story x) c.in_ok-inputs.inputs.items (story c.plain.new.core)) c.in_ok-core.ensures c.in_ok-plain.ensures.plain

pub returns-clause-run : goal.returns-clause-run
returns-clause-run g c =
    let late = (goal.at.returns-clause-run g c).After-journal-journal in
    let S = core_setting (made_by g late c.in_ok-ports.ports.items) in
    subst (λ (l : List Input). IsRun (with_more (core_setting (made_by g late (map (λ port. port.name) c.args.words.now.ports))) l) c.plain.new.core.journal) c.in_ok-inputs.ensures
    (subst (λ (l : List (List ℕ)). IsRun (with_more (core_setting (made_by g late l)) c.in_ok-inputs.inputs.items) c.plain.new.core.journal) (c.in_ok-ports.ensures ∙ ap (λ (p : List PortWord). map (λ port. port.name) p) c.as_slice.ensures)
    (c.plainly_is_plain.ensures S c.in_ok-inputs.inputs.items (story c.plain.new.core) refl c.journal-journal.ensures.sound (went g late)))

pub returns-clause-world : goal.returns-clause-world
returns-clause-world g c =
    let late = (goal.at.returns-clause-world g c).After-journal-journal in
    let S = core_setting (made_by g late c.in_ok-ports.ports.items) in
    let W = c.plainly_is_whole.ensures S c.in_ok-inputs.inputs.items (story c.plain.new.core) c.journal-journal.ensures.sound (went g late) in
    sym (ap (λ (a : RunState). a.world) W.2)
    ∙ ap (λ (l : List (List ℕ)). world_after (with_more (core_setting (made_by g late l)) c.in_ok-inputs.inputs.items) c.plain.new.core.journal) (c.in_ok-ports.ensures ∙ ap (λ (p : List PortWord). map (λ port. port.name) p) c.as_slice.ensures)
    ∙ ap (λ (l : List Input). world_after (with_more (core_setting (made_by g late (map (λ port. port.name) c.args.words.now.ports))) l) c.plain.new.core.journal) c.in_ok-inputs.ensures

pub returns-clause-ports : goal.returns-clause-ports
returns-clause-ports g c =
    let late = (goal.at.returns-clause-ports g c).After-journal-journal in
    let S = core_setting (made_by g late c.in_ok-ports.ports.items) in
    let W = c.plainly_is_whole.ensures S c.in_ok-inputs.inputs.items (story c.plain.new.core) c.journal-journal.ensures.sound (went g late) in
    sym (ap (λ (a : RunState). length a.world.ports) W.2)
    ∙ ports_stay (with_more S c.in_ok-inputs.inputs.items) c.plain.new.core.journal
    ∙ ap (λ (l : List (List ℕ)). length l) (c.in_ok-ports.ensures ∙ ap (λ (p : List PortWord). map (λ port. port.name) p) c.as_slice.ensures)
    ∙ length-map c.args.words.now.ports (λ port. port.name)
