-- Zeros at every place.
use Rattle.std.proofs.Common.{◌≡◌, ◌-◌, refl, arith}
use denote.Memory.{lone}
use Rattle.power_sum.proofs.Struct.{zeros, zeros_small}
use Rattle.power_sum.proofs.Sizes.{words_fit, sketch_fits}
use Rattle.power_sum.proofs.power_sum.PowerSumQuack.blank.Goals as goal

pub accepted-requires : goal.accepted-requires
accepted-requires g c =
    let w = g.W.Word.width in
    let small = g.met.W.Word.small in
    (words_fit (lone g.row.W.mir) small, (sketch_fits (lone g.row.W.mir) small, zeros_small w c.zero.ensures))

pub returns : goal.returns
returns g c =
    let w = g.W.Word.width in
    let all : w.kind.greatest - 0 ≡ w.kind.greatest = omega arith in
    rw (c.accepted.ensures, zeros w c.zero.ensures, all) refl
