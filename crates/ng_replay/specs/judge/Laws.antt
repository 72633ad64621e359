-- What holds of verdicts.
use Rattle.std.specs.Prelude.{◌≡◌, List}
use Rattle.ng_base.specs.declared.event.Event.{Event}
use Rattle.ng_machine.specs.Laws.{Setting}
use Rattle.ng_replay.specs.declared.judge.verdict.Verdict.{Verdict}
use Rattle.ng_replay.specs.judge.Verdict.{IsVerdict}

-- a journal gets one verdict: so it is yes exactly where the journal is orderly and whole, and no two events are each the first
-- that isn't allowed
abbrev pub OneVerdict : Type 0
OneVerdict = (s : Setting) (journal : List Event) (a b : Verdict) → IsVerdict s journal a → IsVerdict s journal b → a ≡ b
