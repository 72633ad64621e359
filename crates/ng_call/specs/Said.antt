-- What is known of words that are in form.
use Rattle.std.specs.Prelude.{ℕ, ◌≡◌, ◌≤◌, true, ◌∷◌, length, map}
use Rattle.ng_base.specs.Name.{IsName}
use Rattle.ng_machine.specs.LowRun.{most_budget, most_ports}
use Rattle.ng_machine.specs.Words.{Every}
use Rattle.ng_base.specs.Names.{are_different}
use Rattle.ng_args.specs.Run.{ports_from, written_files}
use Rattle.ng_args.specs.declared.port.PortWord.{PortWord}
use Rattle.ng_args.specs.declared.words.Source.{Source}
use Rattle.ng_args.specs.declared.words.Source.TheVariants.{FromFiles, Made}
use Rattle.ng_args.specs.declared.words.Words.{Words}
use Rattle.ng_call.specs.MadeInForm.{most_made}

abbrev pub most_workers : ℕ
most_workers = 16

abbrev pub HasName : PortWord → Type 0
HasName port = IsName port.name

abbrev pub IsInRange : Source → Type 0
IsInRange (FromFiles script ports) = Every HasName ports
IsInRange (Made packets) = (1 ≤ packets) × (packets ≤ most_made)

pub record InForm (w : Words) : Type 0 where
  pub workers : w.workers ≤ most_workers
  pub some : 1 ≤ w.budget
  pub most : w.budget ≤ most_budget
  pub own : IsName w.own_name
  pub ports : Every HasName (ports_from w.source)
  pub few : length (ports_from w.source) ≤ most_ports
  pub names : are_different (w.own_name ∷ map (λ port. port.name) (ports_from w.source)) ≡ true
  pub lone : are_different (written_files w) ≡ true
  pub source : IsInRange w.source
