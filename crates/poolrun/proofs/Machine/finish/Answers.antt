-- `finish` meets its contract: the last line, if one was begun, is answered.
use Rattle.std.proofs.Common.{◌≡◌, ℕ, ap, arith, take}
use Rattle.poolrun.specs.Input.{ended}
use Rattle.poolrun.specs.Poolrun.{finishes-between, finishes-last, not-begun}
use Rattle.poolrun.proofs.Machine.finish.Goals as goal

pub returns-then-self-eq0 : goal.returns-then-self-eq0
unfolding ended
returns-then-self-eq0 g c = let z : c.args.self.now.len ≡ 0 = omega arith in finishes-between _ (ap (λ (n : ℕ). take n c.args.self.now.line.now) z)

pub returns : goal.returns
unfolding ended
returns g c = finishes-last _ (not-begun c.args.self.now.line.now c.args.self.now.len c.args.self.now.sized.line (λ q. omega arith)) c.end_line.ensures
