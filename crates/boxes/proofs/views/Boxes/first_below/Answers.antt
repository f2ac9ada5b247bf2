-- `Boxes::first_below` meets its contract: behind a slot that is the transaction's, or at the head of its bucket. Assumes nothing.
use native.Mathlib.Omega.{arith}
use mathlib.Core.Path.{sym, ◌∙◌}
use Rattle.boxes.specs.Searching.{lasts-head, lasts-link}
use Rattle.boxes.proofs.views.Boxes.first_below.Goals as goal

pub returns-then-is_owner : goal.returns-then-is_owner
returns-then-is_owner c = lasts-link c.args.self.now.words.now c.args.used c.args.owner c.args.below c.args.self.now.each (omega arith) _ c.if-below-used.true (sym c.is_owner.ensures ∙ c.if-is_owner.true) c.link.ensures

pub returns : goal.returns
returns c = lasts-head c.args.self.now.words.now c.args.used c.args.owner c.args.below c.args.self.now.each (omega arith) _ _ (omega arith) c.bucket_in.ensures.0 c.head.ensures
