-- Every sum is written: no threshold is above the hint.
use Rattle.std.proofs.Common.{◌≡◌, ℕ, List, length, sym, ap, ◌∙◌}
use Rattle.rules.specs.Calls.{Outcome, written}
use Rattle.rules.specs.Words.{write_in, write_with_hint_in}
use Rattle.rules.proofs.ExportedPackets.{all_sums}
use Rattle.lent.specs.Refusals.{listed}
use Rattle.exports.proofs.packet.serialize.Goals as goal

pub returns : goal.returns
returns g c =
    let w = g.W.Word.width in
    let ws = w.nums c.args.s.now in
    let room = length c.args.buf.now in
    let same : write_with_hint_in w.kind ws 32 room ≡ write_in w.kind ws room =
    ap (λ (n : ℕ). write_with_hint_in w.kind ws n room) (sym w.places) ∙ all_sums w.kind ws room in
    record {
      answer = c.serialize_with_hint.ensures.answer ∙ ap (λ (o : Outcome (List ℕ)). listed o) same;
      buffer = c.serialize_with_hint.ensures.buffer ∙ ap (λ (o : Outcome (List ℕ)). written o c.args.buf.now) same;
    }
