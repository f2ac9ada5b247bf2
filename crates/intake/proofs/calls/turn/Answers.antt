-- `calls::turn` meets its contract: too few words, or what the search found is served. Assumes nothing.
use Rattle.std.proofs.Common.{◌∙◌, sym, arith, rules}
use Rattle.intake.specs.Kept.{able, turned, turn-at}
use Rattle.intake.proofs.calls.turn.Goals as goal

pub take-handle-requires : goal.take-handle-requires
take-handle-requires c =
    rw (c.set_last.ensures.words, c.new-queue.ensures.words)
    (able c.args.queue.now (omega arith) c.in_ok-line.line (sym c.in_ok-line.was ∙ rw (c.last.ensures, c.lines-lines.ensures, c.new-queue.ensures.words) at c.next_after.ensures))

pub returns : goal.returns
returns c =
    turn-at (search rules)
    (turned c.args.queue.now (omega arith) c.in_ok-line.line (sym c.in_ok-line.was ∙ rw (c.last.ensures, c.lines-lines.ensures, c.new-queue.ensures.words) at c.next_after.ensures) _ _
    (rw (c.set_last.ensures.words, c.new-queue.ensures.words) at c.take-handle.ensures.taken))
