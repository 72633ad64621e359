use Rattle.std.proofs.Common.{◌≡◌, ◌++◌, filter, drop}
use Rattle.ngctl_script.specs.Commands.{is_prefix}
use Rattle.ngctl_script.proofs.Prefixes.{kept}
use Rattle.ngctl_script.proofs.verb.only_front.Given as goal

abbrev pub invariant-loop-verb : goal.invariant-loop-verb
invariant-loop-verb l = filter (is_prefix l.word) l.verbs ≡ kept l.found ++ filter (is_prefix l.word) (drop l.verb-index l.verbs)
