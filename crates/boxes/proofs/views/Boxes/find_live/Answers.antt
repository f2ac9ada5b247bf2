-- `Boxes::find_live` meets its contract. The loop's invariant: from `next` on there is no entry before the last that was met (`Keeps`). The measure is `next`, since links go
-- down. Assumes nothing.
use Rattle.std.proofs.Common.{sym, ap, ◌∙◌, arith}
use Rattle.words.specs.Chains.{name_of}
use Rattle.boxes.specs.Searching.{keeps-first, keeps-hit, keeps-miss, keeps-end, link-less}
use Rattle.boxes.proofs.views.Boxes.find_live.Goals.{then-is_entry, else-is_entry}
use Rattle.boxes.proofs.views.Boxes.find_live.Goals as goal

pub loop-next-init : goal.loop-next-init
loop-next-init c = keeps-first c.args.self.now.words.now _ c.args.out c.args.key c.args.self.now.each (omega arith) _ _ (omega (arith, c.bucket_in.ensures.1)) c.bucket_in.ensures.0 c.head-next.ensures

pub loop-next-smaller : goal.loop-next-smaller
loop-next-smaller c = link-less _ _ _ _ c.link-next.ensures (ap name_of c.in-Some.is)

pub loop-next-preserved : goal.loop-next-preserved
loop-next-preserved c =
    let a = c.args in
    let some = ap name_of c.in-Some.is in
    elim c.if-is_entry.branch [
      | then-is_entry w ↦ rw w.found-is (keeps-hit a.self.now.words.now _ a.out a.key c.args.self.now.each (omega arith) _ _ _ _ c.loop-next.invariant some c.link-next.ensures (sym c.is_entry.ensures ∙ w.if-is_entry.true))
      | else-is_entry w ↦ rw w.found-is (keeps-miss a.self.now.words.now _ a.out a.key c.args.self.now.each (omega arith) _ _ _ _ c.loop-next.invariant some c.link-next.ensures (sym c.is_entry.ensures ∙ w.if-is_entry.false))
    ]

pub returns-clause-by_index : goal.returns-clause-by_index
returns-clause-by_index c = (keeps-end c.args.self.now.words.now c.args.self.now.records _ c.args.out c.args.key c.slots_used-used.ensures.value c.args.self.now.fits c.loop-next.found _ c.loop-next.invariant (ap name_of c.in_default.is)).within

pub returns-clause-result_value : goal.returns-clause-result_value
returns-clause-result_value c = (keeps-end c.args.self.now.words.now c.args.self.now.records _ c.args.out c.args.key c.slots_used-used.ensures.value c.args.self.now.fits c.loop-next.found _ c.loop-next.invariant (ap name_of c.in_default.is)).equals
