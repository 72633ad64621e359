-- What is known of words that are in form.
use Rattle.std.specs.Prelude.{◌≤◌}
use Rattle.ng_call.specs.Said as run
use Rattle.ng_args.specs.declared.words.ReplayWords.{ReplayWords}
use Rattle.ng_replay.specs.Call.{run_of}

-- those of the run that it is of are
pub record InForm (words : ReplayWords) : Type 0 where
  pub of_run : run.InForm (run_of words)
  pub workers : words.workers ≤ run.most_workers
