-- The texts are the same where all of their words are.
use Rattle.ng_base.proofs.NameOrder.{text_same}
use Rattle.ng_base.proofs.name.is_same_text.Goals as goal

pub returns : goal.returns
returns c =
    rw (c.same_with_word.ensures, c.same_with_word-third.ensures, c.same_with_word-second.ensures, c.word.ensures, c.word-2.ensures)
    (text_same c.args.text.now c.args.other.now c.told-text c.told-other c.fits-text c.fits-other)
