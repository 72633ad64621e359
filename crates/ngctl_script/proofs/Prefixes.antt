-- The command that was found so far, in front of those that are still to be looked at.
use Rattle.std.proofs.Common.{List, [], ◌∷◌, Option, Some, None}
use Rattle.ngctl_script.specs.declared.verb.Verb.{Verb}

abbrev pub kept : Option Verb → List Verb
kept None = []
kept (Some verb) = verb ∷ []
