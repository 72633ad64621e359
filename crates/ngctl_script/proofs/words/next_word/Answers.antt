use Rattle.std.proofs.Common.{◌<◌, sym, ◌∙◌, arith, length}
use Rattle.ngctl_script.proofs.WordParts.{next_at_place, next_alone, no_word}
use Rattle.ngctl_script.proofs.words.next_word.Goals as goal

pub returns-then-is_empty-clause-word : goal.returns-then-is_empty-clause-word
returns-then-is_empty-clause-word c = no_word c.args.text.now c.skip_blanks-text.result.now c.skip_blanks-text.ensures (grind arith)

pub returns-in-None-clause-word : goal.returns-in-None-clause-word
returns-in-None-clause-word c =
    let some : 0 < length c.skip_blanks-text.result.now = grind arith in
    (next_alone c.args.text.now c.skip_blanks-text.result.now c.skip_blanks-text.ensures some (sym c.first_blank.ensures ∙ c.in-None.is)).words

pub returns-in-None-clause-behind : goal.returns-in-None-clause-behind
returns-in-None-clause-behind c =
    let some : 0 < length c.skip_blanks-text.result.now = grind arith in
    (next_alone c.args.text.now c.skip_blanks-text.result.now c.skip_blanks-text.ensures some (sym c.first_blank.ensures ∙ c.in-None.is)).rest

pub returns-in-None-clause-shorter : goal.returns-in-None-clause-shorter
returns-in-None-clause-shorter c =
    let some : 0 < length c.skip_blanks-text.result.now = grind arith in
    (next_alone c.args.text.now c.skip_blanks-text.result.now c.skip_blanks-text.ensures some (sym c.first_blank.ensures ∙ c.in-None.is)).shorter

pub returns-in-Some-clause-word : goal.returns-in-Some-clause-word
returns-in-Some-clause-word c =
    (next_at_place c.args.text.now c.skip_blanks-text.result.now c.in-Some.place c.skip_blanks-text.ensures (sym c.first_blank.ensures ∙ c.in-Some.is)).words

pub returns-in-Some-clause-behind : goal.returns-in-Some-clause-behind
returns-in-Some-clause-behind c =
    (next_at_place c.args.text.now c.skip_blanks-text.result.now c.in-Some.place c.skip_blanks-text.ensures (sym c.first_blank.ensures ∙ c.in-Some.is)).rest

pub returns-in-Some-clause-shorter : goal.returns-in-Some-clause-shorter
returns-in-Some-clause-shorter c =
    (next_at_place c.args.text.now c.skip_blanks-text.result.now c.in-Some.place c.skip_blanks-text.ensures (sym c.first_blank.ensures ∙ c.in-Some.is)).shorter
