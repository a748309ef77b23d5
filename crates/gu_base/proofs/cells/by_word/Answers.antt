use Rattle.gu_base.proofs.Words.{word_order}
use Rattle.gu_base.proofs.cells.by_word.Goals as goal

pub returns : goal.returns
returns c =
    word_order _ _ _ _ _ c.told-left c.told-right c.fits-left c.fits-right c.from_be_bytes.ensures
    c.from_be_bytes-2.ensures c.cmp.ensures
