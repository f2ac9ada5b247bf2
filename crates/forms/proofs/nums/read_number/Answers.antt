-- `nums::read_number` meets its contract: what is left to read, over what was read, is the whole (`Goes`).
use Rattle.std.proofs.Common.{arith, sym, subst, Option, ℕ, List}
use Rattle.forms.specs.Nums as T
use Rattle.forms.specs.NumLaws as W
use Rattle.forms.proofs.nums.read_number.Goals as goal

pub returns-in_err-d : goal.returns-in_err-d
returns-in_err-d c =
    subst (λ (o : Option ℕ). T.Numeral c.args.base c.args.limit c.args.digits.now o) (sym c.from_residual.ensures)
    (W.ends-digit _ _ _ _ _ _ _ (W.left-cons c.args.digits.now c.loop-c.c-index (omega arith)) c.loop-c.invariant (W.no_digit _ _ _ c.requires.1 c.from.ensures c.in_err-d.ensures.value))

pub returns-in_err-v : goal.returns-in_err-v
returns-in_err-v c =
    let d = W.is_digit _ _ _ _ c.requires.1 c.from.ensures c.in_ok-d.ensures.value.0 c.in_ok-d.ensures.value.1 in
    subst (λ (o : Option ℕ). T.Numeral c.args.base c.args.limit c.args.digits.now o) (sym c.from_residual-in_err-v.ensures)
    (W.ends-over _ _ _ _ _ _ _ (W.left-cons c.args.digits.now c.loop-c.c-index (omega arith)) c.loop-c.invariant (omega arith) (W.at-digit _ _ _ _ _ _ d.1 c.in_err-v.ensures))

pub loop-c-preserved : goal.loop-c-preserved
loop-c-preserved c =
    let d = W.is_digit _ _ _ _ c.requires.1 c.from.ensures c.in_ok-d.ensures.value.0 c.in_ok-d.ensures.value.1 in
    W.goes_on _ _ _ _ _ _ _ (W.left-cons c.args.digits.now c.loop-c.c-index (omega arith)) c.loop-c.invariant _ d.0 (W.at-digit _ _ _ _ _ _ d.1 c.in_ok-v.ensures)

pub returns : goal.returns
returns c =
    W.ends-value _ _ _ _ (subst (λ (r : List ℕ). W.Goes c.args.base c.args.limit c.args.digits.now r c.loop-c.v) (W.left-none c.args.digits.now c.loop-c.c-index (omega arith)) c.loop-c.invariant)
