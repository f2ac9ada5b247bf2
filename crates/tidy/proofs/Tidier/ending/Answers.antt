-- `ending` meets its contract: a line that is whole comes out tidied, the rest of a longer one as it is.
use Rattle.tidy.specs.Loop.{outs-rest, outs-whole}
use Rattle.tidy.proofs.Tidier.ending.Goals as goal

pub returns-then-self-clause-outs : goal.returns-then-self-clause-outs
returns-then-self-clause-outs c = let t = c.args.self.now in outs-rest t.line.now t.len t.long c.min-n.result _ _ _ t.sized.line c.min-n.ensures c.if-self.true c.text.ensures

pub returns-clause-outs : goal.returns-clause-outs
returns-clause-outs c = let t = c.args.self.now in outs-whole t.line.now t.len t.long c.min-n.result _ _ _ t.sized.line c.min-n.ensures c.if-self.false c.tidy_line.ensures
