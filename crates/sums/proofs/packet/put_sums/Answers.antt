-- One number a turn.
use Rattle.std.proofs.Common.{ℕ, ◌≡◌, ap, ◌∙◌, sym, ◌*◌, length, take, drop, arith, append-nil}
use Rattle.std.proofs.Math.Seq.{take_all}
use Rattle.std.proofs.Math.ListN.{drop_of_length-le}
use Rattle.rules.specs.Packet.{number, all_numbers}
use Rattle.rules.proofs.Packet.{all_numbers_length, all_numbers_at}
use Rattle.rules.proofs.Mapping.{mapping_start, mapping_turn, copying_done}
use Rattle.modint.proofs.Width.{nums_length, nums_set}
use Rattle.sums.proofs.packet.put_sums.Goals as goal

pub loop-k-init : goal.loop-k-init
loop-k-init g c =
    let w = g.W.Word.width in
    let n = length c.args.sums.now in
    let said = all_numbers w.kind.code_bytes n c.args.part.now in
    mapping_start {l = said} (omega (arith, all_numbers_length w.kind.code_bytes n c.args.part.now)) (omega (arith, nums_length w c.args.sums.now))

pub loop-k-preserved : goal.loop-k-preserved
loop-k-preserved g c =
    let w = g.W.Word.width in
    let b = w.kind.code_bytes in
    let k = c.loop-k.k in
    let n = length c.args.sums.now in
    let part = c.args.part.now in
    let bytes : c.CODE_BYTES.result ≡ b = c.CODE_BYTES.ensures ∙ g.met.W.Word.bytes in
    let here = all_numbers_at b n part k c.loop-k-test.true in
    let next = c.number_at.ensures ∙ ap (λ (m : ℕ). number (take b (drop (k * m) part))) bytes ∙ sym here in
    rw nums_set (mapping_turn {l = all_numbers b n part} 0 0 c.loop-k.invariant c.loop-k-test.true next)

pub returns : goal.returns
returns g c =
    let w = g.W.Word.width in
    let n = length c.args.sums.now in
    let said = all_numbers w.kind.code_bytes n c.args.part.now in
    let all = take_all n said (omega (arith, all_numbers_length w.kind.code_bytes n c.args.part.now)) in
    let none = drop_of_length-le (w.nums c.args.sums.now) {i = n} (omega (arith, nums_length w c.args.sums.now)) in
    copying_done {l = said} c.loop-k.invariant c.loop-k-test.false ∙ rw (all, none) (append-nil said)
