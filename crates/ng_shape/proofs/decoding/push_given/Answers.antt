use Rattle.std.proofs.Common.{sym, ◌∙◌, ap}
use Rattle.ng_shape.specs.Values.{members_of}
use Rattle.ng_shape.proofs.Given.{pushed}
use Rattle.ng_shape.proofs.decoding.push_given.Goals as goal

pub returns : goal.returns
returns c = ap members_of c.in_ok-push.ensures.items ∙ pushed c.args.members.now.items _ (sym c.is_absent.ensures ∙ c.if-is_absent.false)
