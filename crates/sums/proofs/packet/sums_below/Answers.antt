-- The greatest of the first k, and then of one more.
use Rattle.std.proofs.Common.{ℕ, ◌≡◌, ◌<◌, ap, sym, ◌∙◌, ◌*◌, length, take, drop, max, arith}
use Rattle.rules.specs.Packet.{number, all_numbers}
use Rattle.rules.proofs.Most.{most_turn, most_done, every_most}
use Rattle.rules.proofs.Packet.{all_numbers_length, all_numbers_at}
use Rattle.rules.proofs.Field.{positive}
use Rattle.sums.proofs.packet.sums_below.Goals as goal

pub loop-k-preserved : goal.loop-k-preserved
loop-k-preserved g c =
    let w = g.W.Word.width in
    let b = w.kind.code_bytes in
    let k = c.loop-k.k in
    let part = c.args.part.now in
    let bytes : c.CODE_BYTES.result ≡ b = c.CODE_BYTES.ensures ∙ g.met.W.Word.bytes in
    let said = all_numbers_at b c.args.n part k c.loop-k-test.true in
    let more : k < length (all_numbers b c.args.n part) = omega (arith, all_numbers_length b c.args.n part, c.loop-k-test.true) in
    let here = c.number_at.ensures ∙ ap (λ (m : ℕ). number (take b (drop (k * m) part))) bytes ∙ sym said in
    most_turn c.loop-k.invariant more (c.greater_of-most.ensures ∙ ap (max (w.num c.loop-k.most)) here)

pub returns : goal.returns
returns g c =
    let w = g.W.Word.width in
    let said = all_numbers w.kind.code_bytes c.args.n c.args.part.now in
    let all = most_done c.loop-k.invariant (omega (arith, all_numbers_length w.kind.code_bytes c.args.n c.args.part.now, c.loop-k-test.false)) in
    c.is_residue.ensures ∙ rw all (sym (every_most w.kind.modulus (positive w.kind) 0 said))
