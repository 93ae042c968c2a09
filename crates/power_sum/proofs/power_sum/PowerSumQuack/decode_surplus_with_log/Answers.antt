-- The tests in the order of the refusals, nothing where there is no surplus, and otherwise what the negated sketch decodes.
use Rattle.std.proofs.Common.{◌≡◌, ℕ, ◌<◌, ◌≤◌, ℤ, List, [], length, sym, refl, ap, ◌∙◌, arith, rules, w32}
use mir.Val.{SFits, to_z, of_z}
use mir.ValLaws.{to_z-of_z}
use Rattle.modint.proofs.Width.{nums_length}
use Rattle.rules.specs.Kind.{counts}
use Rattle.rules.specs.Signed.{signed_count, below_zero}
use Rattle.rules.specs.Sketch.{surplus_in}
use Rattle.rules.specs.Calls.{Outcome, written}
use Rattle.rules.proofs.Outcomes.{surplus_malformed, surplus_over, surplus_short, surplus_none, surplus_negated}
use Rattle.lent.specs.Refusals.{listed}
use Rattle.power_sum.specs.Answers.{view, decode_surplus_of}
use Rattle.power_sum.proofs.Checked.{passed, failed}
use Rattle.power_sum.proofs.Filled.{refusal, listing}
use Rattle.power_sum.proofs.Negated.{negate_made, negated_decodes}
use Rattle.power_sum.proofs.power_sum.PowerSumQuack.decode_surplus_with_log.Goals as goal

-- What is tested against the threshold is the surplus.
tested : (count : ℕ) {n : ℕ} {z : ℤ} → SFits w32 z → n ≡ below_zero (to_z w32 (of_z w32 z)) → z ≡ signed_count count → n ≡ below_zero (signed_count count)
tested count {z = z} fits en ez = en ∙ ap below_zero (to_z-of_z w32 z fits ∙ ez)

pub returns-in_err-checked : goal.returns-in_err-checked
unfolding decode_surplus_of
returns-in_err-checked g c =
    let w = g.W.Word.width in
    let no = failed w c.args.self c.from_residual.result c.checked.ensures c.in_err-checked.was c.from_residual.ensures in
    let r = refusal (w.nums c.args.out.now) (surplus_malformed w.kind (view w c.args.self) (w.nums c.args.got.now) (length c.args.out.now) no.0) in
    record { answer = no.1 ∙ r.0; buffer = r.1 }

pub returns-then-self-surplus : goal.returns-then-self-surplus
unfolding decode_surplus_of
returns-then-self-surplus g c =
    let w = g.W.Word.width in
    let s = c.args.self in
    let ok = passed w s c.checked.ensures c.in_ok-checked.was in
    let is : c.below_zero-surplus.result ≡ surplus_in (view w s) = tested s.count (record { sfits = c.signed_count.type_inv }) c.below_zero-surplus.ensures c.signed_count.ensures in
    let r = refusal (w.nums c.args.out.now)
    (surplus_over w.kind (view w s) (w.nums c.args.got.now) (length c.args.out.now) ok (omega (arith, is, c.if-self-surplus.true))) in
    record { answer = r.0; buffer = r.1 }

pub returns-then-out-got : goal.returns-then-out-got
unfolding decode_surplus_of
returns-then-out-got g c =
    let w = g.W.Word.width in
    let s = c.args.self in
    let ok = passed w s c.checked.ensures c.in_ok-checked.was in
    let is : c.below_zero-surplus.result ≡ surplus_in (view w s) = tested s.count (record { sfits = c.signed_count.type_inv }) c.below_zero-surplus.ensures c.signed_count.ensures in
    let few : surplus_in (view w s) ≤ s.threshold = omega (arith, is, c.if-self-surplus.false) in
    let short : length c.args.out.now < length (w.nums c.args.got.now) = rw (nums_length w c.args.got.now) c.if-out-got.true in
    let r = refusal (w.nums c.args.out.now) (surplus_short w.kind (view w s) (w.nums c.args.got.now) (length c.args.out.now) ok few short) in
    record { answer = r.0; buffer = r.1 }

pub returns-then-surplus-eq0 : goal.returns-then-surplus-eq0
unfolding decode_surplus_of
returns-then-surplus-eq0 g c =
    let w = g.W.Word.width in
    let s = c.args.self in
    let ok = passed w s c.checked.ensures c.in_ok-checked.was in
    let is : c.below_zero-surplus.result ≡ surplus_in (view w s) = tested s.count (record { sfits = c.signed_count.type_inv }) c.below_zero-surplus.ensures c.signed_count.ensures in
    let few : surplus_in (view w s) ≤ s.threshold = omega (arith, is, c.if-self-surplus.false) in
    let enough : length (w.nums c.args.got.now) ≤ length c.args.out.now = rw (nums_length w c.args.got.now) c.if-out-got.false in
    let r = listing (w.nums c.args.out.now) {l = []}
    (surplus_none w.kind (view w s) (w.nums c.args.got.now) (length c.args.out.now) ok few enough (sym is ∙ c.if-surplus-eq0.true)) refl refl in
    record { answer = r.0; buffer = r.1 }

pub returns-in_err-negate : goal.returns-in_err-negate
returns-in_err-negate g c =
    let w = g.W.Word.width in
    let s = c.args.self in
    let ok = passed w s c.checked.ensures c.in_ok-checked.was in
    let p = sym c.in_err-negate.was ∙ c.negate.ensures ∙ negate_made w s (search rules) ok (search rules) in
    cc

pub returns : goal.returns
unfolding decode_surplus_of
returns g c =
    let w = g.W.Word.width in
    let s = c.args.self in
    let got = w.nums c.args.got.now in
    let room = length c.args.out.now in
    let ok = passed w s c.checked.ensures c.in_ok-checked.was in
    let counted : s.count < counts = search rules in
    let is : c.below_zero-surplus.result ≡ surplus_in (view w s) = tested s.count (record { sfits = c.signed_count.type_inv }) c.below_zero-surplus.ensures c.signed_count.ensures in
    let few : surplus_in (view w s) ≤ s.threshold = omega (arith, is, c.if-self-surplus.false) in
    let enough : length got ≤ room = rw (nums_length w c.args.got.now) c.if-out-got.false in
    let lists = negated_decodes w s (search rules) ok counted c.negate.ensures c.in_ok-negate.was got room
    ∙ sym (surplus_negated w.kind (view w s) got room ok few enough (λ z. c.if-surplus-eq0.false (is ∙ z)) counted) in
    record {
      answer = c.decode_with_log.ensures.answer ∙ ap listed lists;
      buffer = c.decode_with_log.ensures.buffer ∙ ap (λ (o : Outcome (List ℕ)). written o (w.nums c.args.out.now)) lists;
    }
