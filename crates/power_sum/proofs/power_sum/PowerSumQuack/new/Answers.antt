-- Zeros, for a threshold in range.
use Rattle.std.proofs.Common.{sym, ◌∙◌}
use denote.Memory.{lone}
use Rattle.rules.specs.Sketch.{fresh}
use Rattle.rules.specs.Calls.{make}
use Rattle.rules.proofs.WellFormed.{in_range_parts, placed_zeros}
use Rattle.power_sum.specs.Answers.{new_of}
use Rattle.power_sum.proofs.Struct.{zeros, zeros_small}
use Rattle.power_sum.proofs.Sizes.{words_fit, sketch_fits}
use Rattle.power_sum.proofs.power_sum.PowerSumQuack.new.Goals as goal

pub returns-then-not-in_range : goal.returns-then-not-in_range
unfolding new_of make
returns-then-not-in_range g c = rw (sym c.in_range.ensures ∙ c.if-not-in_range.true)

pub accepted-requires : goal.accepted-requires
accepted-requires g c =
    let w = g.W.Word.width in
    let small = g.met.W.Word.small in
    (words_fit (lone g.row.W.mir) small, (sketch_fits (lone g.row.W.mir) small, zeros_small w c.zero.ensures))

pub returns : goal.returns
unfolding new_of make fresh
returns g c =
    let w = g.W.Word.width in
    let range = sym c.in_range.ensures ∙ c.if-not-in_range.false in
    rw (c.accepted.ensures, range, placed_zeros w.kind c.args.threshold (in_range_parts w.kind c.args.threshold range).1, zeros w c.zero.ensures)
