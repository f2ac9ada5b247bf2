-- `Boxes::last_input` meets its contract. The loop's invariant: from `next` on and before `below` there is no input of the transaction (`Lasts`). The measure is `next`,
-- since links go down. Assumes nothing.
use Rattle.std.proofs.Common.{sym, ap, ◌∙◌, arith}
use Rattle.words.specs.Ids.{id_of}
use Rattle.words.specs.Chains.{name_of}
use Rattle.boxes.specs.Searching.{lasts-empty, lasts-next, lasts-hit, link-less}
use Rattle.boxes.proofs.views.Boxes.last_input.Goals as goal

pub returns-then-self-eq0-clause-last_input : goal.returns-then-self-eq0-clause-last_input
returns-then-self-eq0-clause-last_input c = (lasts-empty c.args.self.now.words.now c.args.self.now.records (id_of c.args.owner) c.args.below c.if-self-eq0.true).1

pub returns-then-is_input_below-clause-input_at : goal.returns-then-is_input_below-clause-input_at
returns-then-is_input_below-clause-input_at c = (lasts-hit c.args.self.now.words.now c.args.self.now.records _ c.args.owner c.args.below _ c.slots_used-used.ensures.value c.args.self.now.fits c.loop-next.invariant c.in-Some.i (ap name_of c.in-Some.is) (sym c.is_input_below.ensures ∙ c.if-is_input_below.true)).0

pub loop-next-smaller : goal.loop-next-smaller
loop-next-smaller c = link-less _ _ _ _ c.link-next.ensures (ap name_of c.in-Some.is)

pub loop-next-preserved : goal.loop-next-preserved
loop-next-preserved c = lasts-next c.args.self.now.words.now _ c.args.owner c.args.below c.args.self.now.each (omega arith) _ _ _ c.loop-next.invariant (ap name_of c.in-Some.is) (sym c.is_input_below.ensures ∙ c.if-is_input_below.false) c.link-next.ensures
