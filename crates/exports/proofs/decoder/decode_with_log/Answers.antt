-- The coefficients, with their refusals, and then their roots in the log.
use Rattle.std.proofs.Common.{◌≡◌, ℕ, ◌++◌, Err, List, ◌≤◌, length, take, drop, refl, sym, ap, ◌∙◌, arith, rules}
use Rattle.rules.specs.Kind.{Kind}
use Rattle.rules.specs.Sums.{roots}
use Rattle.rules.specs.Words.{words_fit, said_by, coefficients_in, decode_in}
use Rattle.rules.proofs.Outcomes.{listed_short, listed_given, decode_from}
use Rattle.rules.proofs.Outcomes as outcomes
use Rattle.rules.proofs.Words.{fit_parts}
use Rattle.modint.proofs.Width.{nums_length, nums_take}
use Rattle.exports.proofs.Clauses.{refuses_list, lists, refused_of, given_of, front, room}
use Rattle.exports.proofs.decoder.decode_with_log.Goals as goal

-- Decoding comes to what the coefficients come to, and then to their roots.
from_coefficients : (k : Kind) → k.greatest ≡ 32 → (ws log : List ℕ) (places : ℕ)
    → decode_in k ws log places ≡ outcomes.listed k log places (coefficients_in k ws 32)
unfolding decode_in coefficients_in
from_coefficients k e ws log places =
    decode_from k (said_by k ws) (words_fit k ws) (λ ok. (fit_parts k ws ok).well.at_most) log places
    ∙ ap (λ (n : ℕ). outcomes.listed k log places (coefficients_in k ws n)) e

pub returns-in_err-n : goal.returns-in_err-n
returns-in_err-n g c =
    let w = g.W.Word.width in
    let ws = w.nums c.args.s.now in
    let log = w.nums c.args.log.now in
    let places = length c.args.out.now in
    let no = refused_of length (coefficients_in w.kind ws 32) (sym c.in_err-n.was ∙ c.to_coeffs.ensures.answer) in
    let e : c.from_residual.result ≡ Err c.in_err-n.field-0.0 = search rules in
    refuses_list (w.nums c.args.out.now) (e ∙ ap Err no.1.1) (from_coefficients w.kind w.places ws log places ∙ ap (outcomes.listed w.kind log places) no.1.0)

pub returns-then-out-log : goal.returns-then-out-log
returns-then-out-log g c =
    let w = g.W.Word.width in
    let ws = w.nums c.args.s.now in
    let log = w.nums c.args.log.now in
    let places = length c.args.out.now in
    let found = given_of length (coefficients_in w.kind ws 32) (sym c.in_ok-n.was ∙ c.to_coeffs.ensures.answer) in
    refuses_list (w.nums c.args.out.now) refl (from_coefficients w.kind w.places ws log places
    ∙ listed_short w.kind log places found.1.0 (omega (arith, nums_length w c.args.log.now, c.if-out-log.true)))

pub shared_whole_as_front-put_roots : goal.shared_whole_as_front-put_roots
shared_whole_as_front-put_roots g c =
    let w = g.W.Word.width in
    let found = given_of length (coefficients_in w.kind (w.nums c.args.s.now) 32) (sym c.in_ok-n.was ∙ c.to_coeffs.ensures.answer) in
    let few = room _ c.in_ok-n.n found.1.0 found.1.1 c.to_coeffs.ensures.buffer in
    omega (arith, few, nums_length w c.to_coeffs.new.coeffs, g.met.W.Word.small)

pub returns : goal.returns
returns g c =
    let w = g.W.Word.width in
    let ws = w.nums c.args.s.now in
    let log = w.nums c.args.log.now in
    let places = length c.args.out.now in
    let found = given_of length (coefficients_in w.kind ws 32) (sym c.in_ok-n.was ∙ c.to_coeffs.ensures.answer) in
    let solved = nums_take w c.in_ok-n.n c.to_coeffs.new.coeffs ∙ front _ c.in_ok-n.n found.1.0 found.1.1 c.to_coeffs.ensures.buffer in
    let enough : length log ≤ places = omega (arith, nums_length w c.args.log.now, c.if-out-log.false) in
    lists (w.nums c.args.out.now) refl (from_coefficients w.kind w.places ws log places ∙ listed_given w.kind log places found.1.0 enough)
    (c.put_roots.ensures.many ∙ ap (λ (cs : List ℕ). length (roots w.kind cs (take places log))) solved)
    (c.put_roots.ensures.buffer ∙ ap (λ (cs : List ℕ). roots w.kind cs (take places log) ++ drop c.put_roots.result (w.nums c.args.out.now)) solved)
