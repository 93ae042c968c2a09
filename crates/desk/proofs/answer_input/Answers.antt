-- What came is what is answered, and the buffer has room for every answer.
-- Assumes nothing.
use Rattle.desk.proofs.Input.{answered}
use Rattle.desk.proofs.answer_input.Goals as goal

pub returns : goal.returns
returns g c =
    let e = c.finish.ensures in
    rw c.unwrap_or-end.ensures (answered c.read_all-reading.ensures c.args.out.now c.requires e.answer e.text)
