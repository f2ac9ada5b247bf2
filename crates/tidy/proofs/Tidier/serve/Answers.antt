-- `serve` meets its contract: the reads so far (`Serving`).
use Rattle.std.proofs.Common.{true, false, refl, ◌∙◌, arith}
use Rattle.tidy.specs.Loop.{serving-none, serving-more, serving-left, serves-over}
use Rattle.tidy.proofs.Tidier.serve.Goals as goal

pub loop-turn-init : goal.loop-turn-init
loop-turn-init g c = record { room = refl; served = serving-none }

pub returns-then-turn : goal.returns-then-turn
returns-then-turn g c =
    let v = c.loop-turn.invariant in
    serves-over _ _ _ _ v.room v.served (refl {a = false}) c.read_some-n.ensures.bytes (rw c.if-turn.true at c.turn.ensures) (refl {a = true})

pub loop-turn-preserved : goal.loop-turn-preserved
loop-turn-preserved g c =
    let v = c.loop-turn.invariant in
    record {
      room = c.read_some-n.auto.buf ∙ v.room;
      served = serving-left _ _ (omega arith) (serving-more _ _ _ _ v.room v.served (refl {a = false}) c.read_some-n.ensures.bytes (rw c.if-turn.false at c.turn.ensures) (omega arith));
    }
