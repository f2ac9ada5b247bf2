-- `cells::known` meets its contract: a word that says too little or too much of the slots that are known is not believed. Assumes nothing.
use Rattle.std.proofs.Common.{arith, ap, ◌∙◌}
use Rattle.std.specs.Prelude.{ℕ, max, min}
use Rattle.entries.specs.Cells.{raw_at, known-none, known-clamp}
use Rattle.entries.proofs.cells.known.Goals as goal

pub returns-then-n-eq0 : goal.returns-then-n-eq0
returns-then-n-eq0 c = (known-none c.args.s.now c.args.n c.if-n-eq0.true, omega arith, omega arith)

pub returns : goal.returns
returns c =
    let a = c.args in
    let most = c.slots-most.ensures in
    (known-clamp a.s.now a.n c.raw.result c.if-n-eq0.false (c.raw.ensures ∙ ap (raw_at a.s.now) most) c.requires _ (c.clamp.ensures ∙ ap (λ (k : ℕ). max a.n (min c.raw.result k)) most), omega arith, omega arith)
