-- The sums move; the places behind them stay 0.
use Rattle.std.proofs.Common.{◌≡◌, map, length, take, drop, refl, sym, ap, ◌∙◌, length-take-le, arith, rules}
use lib.ListN.{length-map}
use denote.Memory.{lone}
use Rattle.modint.specs.Answers.{val}
use Rattle.modint.proofs.Width.{nums_take, nums_drop, nums_append}
use Rattle.rules.specs.Sums.{moved_by_powers}
use Rattle.rules.proofs.Each.{each_length}
use Rattle.power_sum.specs.Answers.{view}
use Rattle.power_sum.proofs.Struct.{within, put_back}
use Rattle.power_sum.proofs.Sizes.{words_fit}
use Rattle.power_sum.proofs.power_sum.PowerSumQuack.shifted.Goals as goal

pub whole_as_front-shift_by_powers : goal.whole_as_front-shift_by_powers
whole_as_front-shift_by_powers g c =
    let w = g.W.Word.width in
    let s = c.args.self in
    let full : length s.sums ≡ 32 = search rules in
    (omega (arith, within w s (full ∙ sym w.places) c.requires refl, length-map s.sums (val w), full), words_fit (lone g.row.W.mir) g.met.W.Word.small)

pub returns : goal.returns
returns g c =
    let w = g.W.Word.width in
    let s = c.args.self in
    let all : length s.sums ≡ 32 = search rules in
    let full = all ∙ sym w.places in
    let sums = moved_by_powers w.kind c.args.down (val w c.args.x) (view w s).sums in
    let part = nums_take w s.threshold c.numbers-sums.result ∙ ap (take s.threshold) c.numbers-sums.ensures in
    let moved = c.shift_by_powers.ensures ∙ ap (moved_by_powers w.kind c.args.down (val w c.args.x)) part in
    let many : length sums ≡ s.threshold = each_length _ 1 (view w s).sums ∙ length-take-le s.threshold (map (val w) s.sums) (within w s full c.requires refl) in
    rw (nums_append w c.shift_by_powers.new.sums (drop s.threshold c.numbers-sums.result), moved, nums_drop w s.threshold c.numbers-sums.result, c.numbers-sums.ensures)
    (put_back w s full c.requires sums many)
