-- `text::past_spaces` meets its contract: the spaces end at the first byte that is none.
use Rattle.forms.specs.Text.{is_space}
use Rattle.forms.specs.TextLaws as W
use Rattle.forms.proofs.text.past_spaces.Goals as goal

pub returns : goal.returns
returns c = W.past-run is_space _ _ (W.run-len is_space _ _ _ c.spaces_end.ensures c.unwrap_or-spaces.ensures)
