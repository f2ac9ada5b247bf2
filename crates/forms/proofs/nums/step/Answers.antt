-- `nums::step` meets its contract: the number with one digit more is within the limit, or past it.
use Rattle.std.proofs.Common.{arith, sym, subst, Option, ℕ, ◌+◌, ◌*◌}
use Rattle.forms.specs.Nums as T
use Rattle.forms.proofs.nums.step.Goals as goal

pub returns-in_err-checked_mul : goal.returns-in_err-checked_mul
unfolding T.Stepped
returns-in_err-checked_mul c = subst (λ (o : Option ℕ). T.Stepped c.args.limit (c.args.v * c.args.base + c.args.d) o) (sym c.from_residual.ensures) (omega (arith, c.in_err-checked_mul.ensures))

pub returns-in_err-n : goal.returns-in_err-n
unfolding T.Stepped
returns-in_err-n c = subst (λ (o : Option ℕ). T.Stepped c.args.limit (c.args.v * c.args.base + c.args.d) o) (sym c.from_residual-in_err-n.ensures) (omega (arith, c.in_ok-checked_mul.ensures, c.in_err-n.ensures))

pub returns-then-limit-n : goal.returns-then-limit-n
unfolding T.Stepped
returns-then-limit-n c = omega (arith, c.in_ok-checked_mul.ensures, c.in_ok-n.ensures, c.if-limit-n.true)

pub returns : goal.returns
unfolding T.Stepped
returns c = (omega (arith, c.in_ok-checked_mul.ensures, c.in_ok-n.ensures), omega (arith, c.in_ok-checked_mul.ensures, c.in_ok-n.ensures, c.if-limit-n.false))
