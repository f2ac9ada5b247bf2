-- `Pool::room_for` meets its contract: its tests are those of `no_room`, turned round (`room-none`, `room-told`), and leave room (`room-some`). Assumes nothing.
use Rattle.std.proofs.Common.{refl, ◌∙◌, arith, le-ltb}
use Rattle.boxes.specs.Layout.{ok-room}
use Rattle.pool.specs.Laws.{room-none, room-some, room-told}
use Rattle.pool.proofs.lent.Pool.room_for.Goals as goal

pub overflow_sub-result : goal.overflow_sub-result
overflow_sub-result c = omega (arith, ok-room _ _ c.args.self.now.fits.boxes, c.boxes_room.ensures)

pub returns-then-self-entries_room-clause-room : goal.returns-then-self-entries_room-clause-room
returns-then-self-entries_room-clause-room c t = room-some _ _ _ _ c.entries_room.ensures c.boxes_room.ensures c.args.self.now.fits c.if-self-entries_room.true t

pub returns-then-self-entries_room-clause-value : goal.returns-then-self-entries_room-clause-value
returns-then-self-entries_room-clause-value c k = room-told _ _ _ _ c.entries_room.ensures c.boxes_room.ensures c.args.self.now.fits c.if-self-entries_room.true k

pub returns-else-self-entries_room-clause-value : goal.returns-else-self-entries_room-clause-value
returns-else-self-entries_room-clause-value c k = le-ltb _ _ c.if-self-entries_room.false ∙ room-none _ _ _ _ c.entries_room.ensures refl c.args.self.now.fits c.if-self-entries_room.false k
