-- `records::enter_tx` meets its contract: where there is room the records enter behind the used slots, which were moved together if they had to be (`entered`).
-- Assumes nothing.
use native.Mathlib.Omega.{arith}
use mathlib.Core.Path.{◌∙◌}
use Rattle.words.specs.Ids.{id_of}
use Rattle.boxes.specs.Flat.{ids_of}
use Rattle.boxes.specs.Layout.{ok-room, ok-moved, room-ok, room-still}
use Rattle.boxes.specs.Posts.{has-slots, entered}
use Rattle.boxes.proofs.records.enter_tx.Goals as goal

pub overflow_sub-boxes_room : goal.overflow_sub-boxes_room
overflow_sub-boxes_room c = omega (arith, c.boxes_room.ensures, ok-room _ _ c.requires.boxes_ok)

pub returns-then-slots-used-clause-boxes_ok_2 : goal.returns-then-slots-used-clause-boxes_ok_2
returns-then-slots-used-clause-boxes_ok_2 c = ok-moved _ _ _ c.requires.boxes_ok c.make_room-used.auto.s

pub returns-then-slots-used-clause-entered : goal.returns-then-slots-used-clause-entered
returns-then-slots-used-clause-entered c = λ x b. absurd (omega (arith, has-slots c.args.s.now _ c.args.n _ _ _ c.requires.boxes_ok c.slots_used.ensures.value c.make_room-used.ensures x (omega (arith, c.len-needed.ensures)), c.slots.ensures, c.make_room-used.auto.s, c.if-slots-used.true))

pub returns-clause-boxes_ok_2 : goal.returns-clause-boxes_ok_2
returns-clause-boxes_ok_2 c = room-ok _ _ (omega (arith, c.boxes_room.ensures, c.if-boxes_room-n.false, ok-room _ _ c.requires.boxes_ok, room-still c.args.s.now c.enter_behind.new.s (c.enter_behind.auto.s ∙ c.make_room-used.auto.s)))

pub returns-clause-entered : goal.returns-clause-entered
returns-clause-entered c = λ x b. entered c.args.s.now _ c.args.n _ _ _ c.requires.boxes_ok c.slots_used.ensures.value c.make_room-used.ensures x _ _ (id_of c.args.owner) (ids_of c.args.lists.now.inputs.width c.args.lists.now.inputs.words.now) (ids_of c.args.lists.now.outputs.width c.args.lists.now.outputs.words.now) (c.enter_behind.auto.s ∙ c.make_room-used.auto.s) (omega (arith, c.len-needed.ensures)) c.enter_behind.ensures
