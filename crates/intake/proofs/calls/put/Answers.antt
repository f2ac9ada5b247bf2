-- `calls::put` meets its contract: too few words, a line above 255, a full line, or a handle stored. Assumes nothing.
use Rattle.std.proofs.Common.{◌≡◌, ◌≤◌, arith, rules}
use Rattle.intake.specs.Kept.{put_full, put-stored, put-at}
use Rattle.intake.proofs.calls.put.Goals as goal

pub returns-then-held-ge-PLACES : goal.returns-then-held-ge-PLACES
returns-then-held-ge-PLACES c =
    let same : c.in-Ok.line ≡ c.args.line = search rules in
    let below : c.args.line ≤ 255 = search rules in
    put-at (search rules) (put_full _ _ _ (omega arith) below (rw (c.held.ensures, c.lines.ensures, c.new-queue.ensures.words, same) at c.if-held-ge-PLACES.true))

pub returns : goal.returns
returns c =
    let same : c.in-Ok.line ≡ c.args.line = search rules in
    let below : c.args.line ≤ 255 = search rules in
    put-at (search rules)
    (put-stored _ _ _ (omega arith) c.append.new.self.words.now below
    (rw (c.held.ensures, c.lines.ensures, c.new-queue.ensures.words, same) at c.if-held-ge-PLACES.false) (rw (c.new-queue.ensures.words, same) at c.append.ensures.appended))
