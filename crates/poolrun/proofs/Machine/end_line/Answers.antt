-- `end_line` meets its contract: the line's call is made, and its text and a newline are handed to the output.
use Rattle.std.proofs.Common.{arith}
use Rattle.poolrun.specs.Poolrun.{front-is, room_of, newline-fits, ends_is}
use Rattle.poolrun.proofs.Machine.end_line.Goals as goal

pub slice_bounds-tell_line-end-6 : goal.slice_bounds-tell_line-end-6
slice_bounds-tell_line-end-6 g c = front-is 32768 c.args.self.now.out.now (omega (arith, c.args.self.now.sized.out))

pub tell_line-len-requires-clause-room : goal.tell_line-len-requires-clause-room
tell_line-len-requires-clause-room g c = room_of c.args.self.now.sized

pub write_line-requires : goal.write_line-requires
write_line-requires g c = newline-fits c.args.self.now.line.now c.min-n.result c.args.self.now.out.now c.tell_line-len.new.out c.args.self.now.sized.out (omega arith) c.tell_line-len.ensures.tells

pub returns : goal.returns
returns g c =
    ends_is c.args.self.now.line.now c.min-n.result c.args.self.now.out.now c.tell_line-len.new.out c.args.self.now.sized.out (omega arith) c.tell_line-len.ensures.tells
    c.args.self.now.len c.args.self.now.number c.write_line.new.out c.min-n.ensures c.saturating_add-number.ensures c.write_line.ensures.line c.write_line.ensures.written
