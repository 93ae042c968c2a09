-- Every sum is written: the hint is the threshold.
use Rattle.std.proofs.Common.{◌≡◌, ℕ, min, length, arith}
use Rattle.modint.specs.Width.{Width}
use Rattle.rules.specs.Calls as calls
use Rattle.power_sum.specs.declared.power_sum.PowerSumQuack.{PowerSumQuack}
use Rattle.power_sum.specs.Answers.{write_of, write_with_hint_of}
use Rattle.power_sum.proofs.power_sum.PowerSumQuack.serialize.Goals as goal

-- Writing with the threshold for a hint is writing.
all_sums : {W : Type 0} (w : Width W) (s : PowerSumQuack W) (room : ℕ) → write_with_hint_of w s s.threshold room ≡ write_of w s room
unfolding write_of write_with_hint_of calls.write calls.write_with_hint
all_sums w s room =
    let whole : min s.threshold s.threshold ≡ s.threshold = omega arith in
    rw whole

pub returns : goal.returns
returns g c =
    let same = all_sums g.W.Word.width c.args.self (length c.args.buf.now) in
    record { answer = rw same at c.serialize_with_hint.ensures.answer; buffer = rw same at c.serialize_with_hint.ensures.buffer }
