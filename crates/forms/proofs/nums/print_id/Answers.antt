-- `nums::print_id` meets its contract: four words have the number of their id (`upto-four`).
use Rattle.forms.specs.NumLaws as W
use Rattle.forms.proofs.nums.print_id.Goals as goal

pub returns : goal.returns
returns c = W.prints-id c.args.x c.args.at _ _ _ c.print_words.ensures
