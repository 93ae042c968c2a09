-- The coefficients, with their refusals, and then their roots in the log.
use Rattle.std.proofs.Common.{◌≡◌, ℕ, ◌<◌, ◌≤◌, List, map, length, ap, ◌∙◌, arith, rules}
use denote.Memory.{lone}
use Rattle.modint.specs.Width.{Width}
use Rattle.modint.specs.Answers.{val}
use Rattle.modint.proofs.Width.{nums_length, nums_take}
use Rattle.rules.proofs.WellFormed.{threshold_in_range}
use Rattle.rules.proofs.Outcomes as outcomes
use Rattle.rules.proofs.Outcomes.{listed_short, listed_given, decode_from}
use Rattle.power_sum.specs.declared.power_sum.PowerSumQuack.{PowerSumQuack}
use Rattle.power_sum.specs.Answers.{view, last_of, well_formed_of, coefficients_of, decode_of}
use Rattle.power_sum.proofs.Sizes.{words_fit}
use Rattle.power_sum.proofs.Checked.{handed_on}
use Rattle.power_sum.proofs.Filled.{refusal, listing, refused_for, holds}
use Rattle.power_sum.proofs.power_sum.PowerSumQuack.decode_with_log.Goals as goal

-- Decoding comes to what the coefficients come to, and then to their roots.
from_coefficients : {W : Type 0} (w : Width W) (s : PowerSumQuack W) (log : List ℕ) (places : ℕ)
    → decode_of w s log places ≡ outcomes.listed w.kind log places (coefficients_of w s 32)
unfolding decode_of coefficients_of
from_coefficients w s log places =
    decode_from w.kind (view w s) (well_formed_of w s) (λ ok. (threshold_in_range w.kind s.threshold (map (val w) s.sums) (last_of w s.last) ok).1) log places
    ∙ ap (λ (n : ℕ). outcomes.listed w.kind log places (coefficients_of w s n)) w.places

pub returns-in_err-n : goal.returns-in_err-n
returns-in_err-n g c =
    let w = g.W.Word.width in
    let s = c.args.self in
    let log = w.nums c.args.log.now in
    let room = length c.args.out.now in
    let no = refused_for length (coefficients_of w s 32) c.to_coeffs.ensures.answer c.in_err-n.was in
    let r = refusal (w.nums c.args.out.now) (from_coefficients w s log room ∙ ap (outcomes.listed w.kind log room) no.1) in
    record { answer = handed_on c.from_residual.result c.from_residual.ensures ∙ rw no.2 r.0; buffer = r.1 }

pub returns-then-out-log : goal.returns-then-out-log
returns-then-out-log g c =
    let w = g.W.Word.width in
    let s = c.args.self in
    let log = w.nums c.args.log.now in
    let room = length c.args.out.now in
    let h = holds (coefficients_of w s 32) _ c.to_coeffs.ensures.answer c.in_ok-n.was c.to_coeffs.ensures.buffer in
    let short : room < length log = rw (nums_length w c.args.log.now) c.if-out-log.true in
    let r = refusal (w.nums c.args.out.now) (from_coefficients w s log room ∙ listed_short w.kind log room h.comes short) in
    record { answer = r.0; buffer = r.1 }

pub shared_whole_as_front-put_roots : goal.shared_whole_as_front-put_roots
shared_whole_as_front-put_roots g c =
    let w = g.W.Word.width in
    let h = holds (coefficients_of w c.args.self 32) _ c.to_coeffs.ensures.answer c.in_ok-n.was c.to_coeffs.ensures.buffer in
    let all : length c.to_coeffs.new.coeffs ≡ 32 = search rules in
    (omega (arith, h.room, nums_length w c.to_coeffs.new.coeffs, all), words_fit (lone g.row.W.mir) g.met.W.Word.small)

pub returns : goal.returns
returns g c =
    let w = g.W.Word.width in
    let s = c.args.self in
    let log = w.nums c.args.log.now in
    let room = length c.args.out.now in
    let h = holds (coefficients_of w s 32) _ c.to_coeffs.ensures.answer c.in_ok-n.was c.to_coeffs.ensures.buffer in
    let enough : length log ≤ room = rw (nums_length w c.args.log.now) c.if-out-log.false in
    let front = nums_take w c.in_ok-n.n c.to_coeffs.new.coeffs ∙ h.front in
    let many = rw front at c.put_roots.ensures.many in
    let put = rw front at c.put_roots.ensures.buffer in
    let r = listing (w.nums c.args.out.now) (from_coefficients w s log room ∙ listed_given w.kind log room h.comes enough) many put in
    record { answer = r.0; buffer = r.1 }
