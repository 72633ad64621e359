-- What is known of words that are in form: those of the run that they are of are.
use Rattle.std.proofs.Common.{◌≡◌, ℕ, ◌==◌, Bool, true, false, if◌then◌else◌, List, [], Option, Some, None, refl, subst}
use Rattle.std.proofs.lemmas.Bool.{eqb-true}
use Rattle.ng_args.specs.Run.{words_of}
use Rattle.ng_args.specs.declared.words.ReplayWords.{ReplayWords}
use Rattle.ng_args.specs.declared.words.Source.{Source}
use Rattle.ng_args.specs.declared.words.Source.TheVariants.{FromFiles, Made}
use Rattle.ng_args.specs.declared.words.Words.{Words}
use Rattle.ng_call.specs.Said as run
use Rattle.ng_call.proofs.Said as run_said
use Rattle.ng_trace_call.specs.Traced.{SaidInForm}
use Rattle.ng_trace_call.specs.Words.{as_run, bare_of, if_said, replay_of, said_by, trace_words_of}
use Rattle.ng_trace_call.specs.declared.words.TraceWords.{TraceWords}
use Rattle.ng_trace_call.specs.declared.words.TraceWords.TheVariants.{Follow, Plain}

-- the words with another journal and other files
abbrev with_files : Words → Option (List ℕ) → Source → Words
with_files words journal source = record words { journal = journal; source = source }

plain_form : (test : Bool) (words : ReplayWords) (w : TraceWords) → (words.workers == 0) ≡ test → run.InForm (bare_of words)
    → (if test then Some (Plain words) else None) ≡ Some w → SaidInForm w
plain_form true words w none known e =
    let same : Plain words ≡ w = cc e in
    subst SaidInForm same (record { of_run = known; none = eqb-true words.workers 0 none })
plain_form false words w none known e = absurd (cc e)

said_form : (words : Words) (journal : Option (List ℕ)) (source : Source) (w : TraceWords) → run.InForm (with_files words journal source)
    → said_by words journal source ≡ Some w → SaidInForm w
said_form words (Some journal) (FromFiles script ports) w known e =
    let same : Follow (replay_of words journal script ports) ≡ w = cc e in
    subst SaidInForm same (record { of_run = known; workers = known.workers })
said_form words (Some journal) (Made packets) w known e = absurd (cc e)
said_form words None (FromFiles script ports) w known e =
    plain_form (words.workers == 0) (replay_of words [] script ports) w refl known e
said_form words None (Made packets) w known e = absurd (cc e)

form : (said : Option Words) (w : TraceWords) → ((words : Words) → said ≡ Some words → run.InForm words) → if_said said ≡ Some w → SaidInForm w
form None w known e = absurd (cc e)
form (Some words) w known e = said_form words words.journal words.source w (known words refl) e

pub in_form : (words : List (List ℕ)) (w : TraceWords) → trace_words_of words ≡ Some w → SaidInForm w
in_form words w e = form (words_of (as_run words)) w (run_said.in_form (as_run words)) e
