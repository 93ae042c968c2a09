-- The tests in the order of the refusals, and then the coefficients of the sums over the front of the buffer.
use Rattle.std.proofs.Common.{◌≡◌, map, length, take, drop, sym, refl, ap, ◌∙◌, arith, length-take-le, rules}
use lib.ListN.{length-map}
use denote.Memory.{lone}
use Rattle.modint.specs.Answers.{val}
use Rattle.modint.proofs.Width.{nums_length, nums_take, nums_drop, nums_append}
use Rattle.rules.proofs.Recurrence.{coefficients_length}
use Rattle.rules.proofs.Newton.{coefficients_over_part}
use Rattle.rules.proofs.Outcomes.{coefficients_malformed, coefficients_over, coefficients_short, coefficients_given}
use Rattle.power_sum.specs.Answers.{view, coefficients_of}
use Rattle.power_sum.proofs.Struct.{within}
use Rattle.power_sum.proofs.Sizes.{words_fit}
use Rattle.power_sum.proofs.Checked.{passed, failed}
use Rattle.power_sum.proofs.Filled.{refusal, listing}
use Rattle.power_sum.proofs.power_sum.PowerSumQuack.to_coeffs.Goals as goal

pub returns-in_err-checked : goal.returns-in_err-checked
unfolding coefficients_of
returns-in_err-checked g c =
    let w = g.W.Word.width in
    let no = failed w c.args.self c.from_residual.result c.checked.ensures c.in_err-checked.was c.from_residual.ensures in
    let r = refusal (w.nums c.args.coeffs.now) (coefficients_malformed w.kind (view w c.args.self) (length c.args.coeffs.now) no.0) in
    record { answer = no.1 ∙ r.0; buffer = r.1 }

pub returns-then-self-n : goal.returns-then-self-n
unfolding coefficients_of
returns-then-self-n g c =
    let w = g.W.Word.width in
    let ok = passed w c.args.self c.checked.ensures c.in_ok-checked.was in
    let r = refusal (w.nums c.args.coeffs.now) (coefficients_over w.kind (view w c.args.self) ok (length c.args.coeffs.now) c.if-self-n.true) in
    record { answer = r.0; buffer = r.1 }

pub returns-then-coeffs-n : goal.returns-then-coeffs-n
unfolding coefficients_of
returns-then-coeffs-n g c =
    let w = g.W.Word.width in
    let ok = passed w c.args.self c.checked.ensures c.in_ok-checked.was in
    let r = refusal (w.nums c.args.coeffs.now)
    (coefficients_short w.kind (view w c.args.self) ok c.if-self-n.false (length c.args.coeffs.now) c.if-coeffs-n.true) in
    record { answer = r.0; buffer = r.1 }

pub shared_whole_as_front-put_coefficients : goal.shared_whole_as_front-put_coefficients
shared_whole_as_front-put_coefficients g c =
    let w = g.W.Word.width in
    let s = c.args.self in
    let ok = passed w s c.checked.ensures c.in_ok-checked.was in
    let full : length s.sums ≡ 32 = search rules in
    (omega (arith, within w s (full ∙ sym w.places) ok refl, length-map s.sums (val w), full), words_fit (lone g.row.W.mir) g.met.W.Word.small)

pub returns : goal.returns
unfolding coefficients_of
returns g c =
    let w = g.W.Word.width in
    let s = c.args.self in
    let buf = w.nums c.args.coeffs.now in
    let ok = passed w s c.checked.ensures c.in_ok-checked.was in
    let all : length s.sums ≡ 32 = search rules in
    let sums = (view w s).sums in
    let room = nums_length w c.args.coeffs.now in
    let many : length sums ≡ s.threshold = length-take-le s.threshold (map (val w) s.sums) (within w s (all ∙ sym w.places) ok refl) in
    let front = nums_take w s.threshold c.numbers-sums.result ∙ ap (take s.threshold) c.numbers-sums.ensures in
    let solved = coefficients_over_part w.kind sums (take s.count buf) s.count (length-take-le s.count buf (omega (arith, room, c.if-coeffs-n.false)))
    (omega (arith, many, c.if-self-n.false)) (c.put_coefficients.ensures ∙ rw (front, nums_take w s.count c.args.coeffs.now)) in
    let r = listing buf (coefficients_given w.kind (view w s) ok c.if-self-n.false (length c.args.coeffs.now) c.if-coeffs-n.false)
    (sym (coefficients_length w.kind sums s.count))
    (nums_append w c.put_coefficients.new.coeffs (drop s.count c.args.coeffs.now) ∙ rw (solved, nums_drop w s.count c.args.coeffs.now)) in
    record { answer = r.0; buffer = r.1 }
