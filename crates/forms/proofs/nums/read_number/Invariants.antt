use Rattle.std.proofs.Common.{drop}
use Rattle.forms.specs.NumLaws as W
use Rattle.forms.proofs.nums.read_number.Given as goal

abbrev pub invariant-loop-c : goal.invariant-loop-c
invariant-loop-c l = W.Goes l.base l.limit l.digits (drop l.c-index l.digits) l.v
