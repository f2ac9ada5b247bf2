-- `text::word_len` meets its contract: a run ends at the first byte that is no byte of a word.
use Rattle.forms.specs.Text.{is_word}
use Rattle.forms.specs.TextLaws as W
use Rattle.forms.proofs.text.word_len.Goals as goal

pub returns : goal.returns
returns c = W.run-len is_word _ _ _ c.word_end.ensures c.unwrap_or.ensures
