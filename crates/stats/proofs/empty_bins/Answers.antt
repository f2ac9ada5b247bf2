-- `empty_bins` meets its contract: the fours before the one that is found are empty. Assumes nothing.
use Rattle.std.proofs.Common.{arith, refl, rules}
use borrow.Author.Tests.{tests}
use Rattle.std.proofs.lemmas.Iterator.{first_from_Range}
use Rattle.stats.specs.Scan.{NoneIn, passed}
use Rattle.stats.proofs.empty_bins.Goals as goal

pub overflow_mul-result : goal.overflow_mul-result
overflow_mul-result c =
    let f = first_from_Range _ _ _ c.find.result (λ k. Unit {0}) (NoneIn c.args.counts.now) c.find.ensures.ran (λ x q k. tt) (λ x q k. search (rules, tests)) in
    omega (arith, c.unwrap_or.ensures, (passed c.args.counts.now c.args.last _ refl c.find.result f).within)

pub returns : goal.returns
returns c =
    let f = first_from_Range _ _ _ c.find.result (λ k. Unit {0}) (NoneIn c.args.counts.now) c.find.ensures.ran (λ x q k. tt) (λ x q k. search (rules, tests)) in
    rw c.unwrap_or.ensures (passed c.args.counts.now c.args.last _ refl c.find.result f)
