-- `turn` meets its contract: by whether the read brought anything.
use Rattle.forms.specs.TextLaws.{empty, not-empty}
use Rattle.tidy.specs.Loop.{turns-over, turns-some}
use Rattle.tidy.proofs.Tidier.turn.Goals as goal

pub returns-then-is_empty : goal.returns-then-is_empty
returns-then-is_empty g c = turns-over c.args.input.now (empty _ _ c.is_empty.ensures c.if-is_empty.true) c.finish.ensures

pub returns : goal.returns
returns g c = turns-some c.args.input.now (λ e. not-empty _ _ c.is_empty.ensures c.if-is_empty.false e) c.feed.ensures
