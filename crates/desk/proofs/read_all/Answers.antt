-- No byte has come before the first read; a read adds its piece; and an input that cannot be read is an empty one.
-- Assumes nothing.
use Rattle.desk.proofs.Input.{came_start, came_places, came_got_places, came_read}
use Rattle.desk.proofs.read_all.Goals as goal

pub loop-init : goal.loop-init
loop-init g c = came_start c.args.log.now c.args.got.now c.requires.0 c.requires.1 c.start-reading.ensures

pub returns-in-Break : goal.returns-in-Break
returns-in-Break g c =
    let e = c.after_read.ensures in
    rw c.in-Break.is at (came_read c.loop.invariant c.read-told.result c.read-told.new.buf e.answer e.log e.got)

pub loop-preserved : goal.loop-preserved
loop-preserved g c =
    let e = c.after_read.ensures in
    rw c.in-Continue.is at (came_read c.loop.invariant c.read-told.result c.read-told.new.buf e.answer e.log e.got)

pub returns : goal.returns
returns g c =
    let k = c.loop.invariant in
    came_start c.loop.log c.loop.got (came_places k) (came_got_places k) c.unread.ensures
