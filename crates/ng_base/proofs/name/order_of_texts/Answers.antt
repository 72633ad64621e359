-- The answers of the words, one after another, are the answer of the texts.
use Rattle.ng_base.proofs.NameOrder.{text_order}
use Rattle.ng_base.proofs.name.order_of_texts.Goals as goal

pub returns : goal.returns
returns c =
    rw (c.order_with_word.ensures, c.order_with_word-third.ensures, c.order_with_word-second.ensures, c.cmp-first.ensures, c.word.ensures, c.word-2.ensures)
    (text_order c.args.text.now c.args.other.now c.told-text c.told-other c.fits-text c.fits-other)
