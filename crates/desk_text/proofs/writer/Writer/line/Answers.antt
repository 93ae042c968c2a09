-- The word, the digits and LF, one behind the other.
use Rattle.std.proofs.Common.{sym}
use Rattle.desk_text.proofs.Pushes.{pushed_then}
use Rattle.desk_text.proofs.writer.Writer.line.Goals as goal

pub returns : goal.returns
returns g c = rw (sym c.format.ensures.text, sym c.as_bytes.ensures.value) (pushed_then c.push.ensures (pushed_then c.push-2.ensures c.push-3.ensures))
