use Rattle.std.proofs.Common.{◌∙◌, arith}
use Rattle.ng_shape.specs.Values.{members_of}
use Rattle.ng_parse.specs.Tokens.{number_in}
use Rattle.ng_parse.proofs.Words.{index_capped}
use Rattle.ng_parse.proofs.reading.index_at.Goals as goal

pub returns-in-Some : goal.returns-in-Some
returns-in-Some c = c.number_at.ensures ∙ index_capped c.args.count (members_of c.args.members.now) c.args.text.now (number_in c.args.word.now) c.in-Some.number (omega (arith, c.ranges.count.fits)) c.in-Some.ensures
