-- The tests of the rule in another order, each on words that are there.
use Rattle.std.proofs.Common.{◌≡◌, ℕ, ◌+◌, ◌≤◌, ◌<◌, Bool, true, Option, Some, List, length, get_or, take, drop, sym, refl, ap, ◌∙◌, arith, le-leb}
use Rattle.std.proofs.Math.Bool.{and-false}
use Rattle.std.proofs.lemmas.Bool.{lt-leb}
use Rattle.rules.specs.Kind.{counts}
use Rattle.rules.specs.Sketch.{in_range}
use Rattle.rules.specs.Sums.{all_below}
use Rattle.rules.specs.Words.{head_words, count_in, has_at, last_at, words_fit}
use Rattle.rules.proofs.Words.{head_fits, words_short, words_misfit, words_by_sums}
use Rattle.modint.specs.Width.{Width}
use Rattle.modint.proofs.Width.{nums_length}
use Rattle.exports.specs.Heads.{said_last}
use Rattle.exports.proofs.Fronts.{together, number_at, part, said_none, said_some, none, some}
use Rattle.exports.proofs.words.find_head.Given.{Over}
use Rattle.exports.proofs.words.find_head.Goals.{After-last_said, After-number-threshold, Else-threshold-gt-PLACES, After-all_below}
use Rattle.exports.proofs.words.find_head.Goals.{then-threshold-lt1-via-then-threshold-lt1, then-threshold-lt1-via-else-threshold-lt1+then-threshold-gt-PLACES}
use Rattle.exports.proofs.words.find_head.Goals.{then-words-end-via-then-words-end, then-words-end-via-else-words-end+then-not-all_below}
use Rattle.exports.proofs.words.find_head.Goals as goal

-- What the two words say.
said : (g : Over) (c : After-last_said g) → let k = g.W.Word.width.kind in let ws = g.W.Word.width.nums c.args.words.now in
    c.last_said.result ≡ said_last g.W.Word.width (get_or ws (has_at k) 0) (get_or ws (last_at k) 0)
said g c =
    let w = g.W.Word.width in
    let l = c.args.words.now in
    let law = g.met.W.Layout.head in
    let has = number_at w l (has_at w.kind) c.index-words-HEAD.is (omega (arith, c.HEAD-2.ensures, law))
    (omega (arith, c.HEAD-2.ensures, c.HEAD.ensures, c.if-words-HEAD.false, law)) in
    let code = number_at w l (last_at w.kind) c.index-words-HEAD-2.is (omega (arith, c.HEAD-3.ensures, law))
    (omega (arith, c.HEAD-3.ensures, c.HEAD.ensures, c.if-words-HEAD.false, law)) in
    c.last_said.ensures ∙ rw (has, code)

-- The threshold is the first number.
threshold : (g : Over) (c : After-number-threshold g) → c.number-threshold.result ≡ get_or (g.W.Word.width.nums c.args.words.now) 0 0
threshold g c =
    c.number-threshold.ensures.number
    ∙ number_at g.W.Word.width c.args.words.now 0 c.index-words-0.is refl (omega (arith, c.HEAD.ensures, c.if-words-HEAD.false, g.met.W.Layout.head))

module _ {W : Type 0} (w : Width W) (ws : List ℕ) {t : ℕ} (same : t ≡ get_or ws 0 0) (some : 1 ≤ t) (few : t ≤ 32) {l : Option W}
    (says : Some l ≡ said_last w (get_or ws (has_at w.kind) 0) (get_or ws (last_at w.kind) 0)) where
  -- Where the two words say a last code or none and the threshold is in range, what stands before the sums is a sketch's.
  fits : head_fits w.kind ws ≡ true
  fits =
      let range : in_range w.kind (get_or ws 0 0) ≡ true =
      rw (le-leb 1 (get_or ws 0 0) (omega (arith, same, some)), le-leb (get_or ws 0 0) w.kind.greatest (omega (arith, same, few, w.places))) in
      together (in_range w.kind (get_or ws 0 0)) _ _ ∙ rw (range, (said_some w _ _ says).0)

  -- So the sums decide.
  by_sums : {b : Bool} {sums : List ℕ} → head_words w.kind + t ≤ length ws → count_in w.kind ws < counts → sums ≡ take t (drop (head_words w.kind) ws)
      → b ≡ all_below w.kind sums → words_fit w.kind ws ≡ b
  by_sums room small es eb =
      words_by_sums w.kind ws fits (omega (arith, same, room)) small
      ∙ sym (eb ∙ ap (all_below w.kind) (es ∙ ap (λ (n : ℕ). take n (drop (head_words w.kind) ws)) same))

pub returns-then-words-HEAD : goal.returns-then-words-HEAD
returns-then-words-HEAD g c =
    let w = g.W.Word.width in
    none w c.args.words.now (words_short w.kind (w.nums c.args.words.now)
    (omega (arith, c.if-words-HEAD.true, c.HEAD.ensures, g.met.W.Layout.head, nums_length w c.args.words.now)))

pub returns-in_err-last : goal.returns-in_err-last
returns-in_err-last g c =
    let w = g.W.Word.width in
    let ws = w.nums c.args.words.now in
    let e = said_none w _ _ (sym c.in_err-last.was ∙ said g (goal.at.returns-in_err-last g c).After-last_said) in
    c.from_residual.ensures
    ∙ none w c.args.words.now (words_misfit w.kind ws (together (in_range w.kind (get_or ws 0 0)) _ _ ∙ rw e (and-false (in_range w.kind (get_or ws 0 0)))))

pub returns-then-threshold-lt1 : goal.returns-then-threshold-lt1
returns-then-threshold-lt1 g c =
    let w = g.W.Word.width in
    let ws = w.nums c.args.words.now in
    let t = threshold g (goal.at.returns-then-threshold-lt1 g c).After-number-threshold in
    none w c.args.words.now (words_misfit w.kind ws
    (elim c.then-threshold-lt1.branch [
      | then-threshold-lt1-via-then-threshold-lt1 v ↦ rw (lt-leb 1 (get_or ws 0 0) (omega (arith, t, v.if-threshold-lt1.true)))
      | then-threshold-lt1-via-else-threshold-lt1+then-threshold-gt-PLACES v ↦
          rw (lt-leb (get_or ws 0 0) w.kind.greatest (omega (arith, t, w.places, v.if-threshold-gt-PLACES.true)), and-false)
    ]))

pub returns-then-words-end : goal.returns-then-words-end
returns-then-words-end g c =
    let w = g.W.Word.width in
    let l = c.args.words.now in
    let ws = w.nums l in
    let law = g.met.W.Layout.head in
    let many = nums_length w l in
    let at = goal.at.returns-then-words-end g c in
    let t = threshold g at.After-number-threshold in
    let says = sym c.in_ok-last.was ∙ said g at.After-last_said in
    let small : count_in w.kind ws < counts = rw (sym c.count_in-count.ensures) c.count_in-count.type_inv in
    none w l (elim c.then-words-end.branch [
      | then-words-end-via-then-words-end v ↦ words_short w.kind ws (omega (arith, t, many, c.HEAD-4.ensures, law, v.if-words-end.true))
      | then-words-end-via-else-words-end+then-not-all_below v ↦
          let room : head_words w.kind + c.number-threshold.result ≤ length ws = omega (arith, many, c.HEAD-4.ensures, law, v.if-words-end.false) in
          let sums = part w l {n = c.number-threshold.result} (v.HEAD-else-words-end.ensures ∙ law) (omega (arith, v.HEAD-else-words-end.ensures, c.HEAD-4.ensures)) in
          by_sums w ws t c.if-threshold-lt1.false c.if-threshold-gt-PLACES.false says room small sums v.all_below.ensures ∙ v.if-not-all_below.true
    ])

pub returns : goal.returns
returns g c =
    let w = g.W.Word.width in
    let l = c.args.words.now in
    let ws = w.nums l in
    let law = g.met.W.Layout.head in
    let at = goal.at.returns g c in
    let t = threshold g at.After-number-threshold in
    let says = sym c.in_ok-last.was ∙ said g at.After-last_said in
    some w l
    (by_sums w ws t c.if-threshold-lt1.false c.if-threshold-gt-PLACES.false says (omega (arith, nums_length w l, c.HEAD-4.ensures, law, c.if-words-end.false))
    (rw (sym c.count_in-count.ensures) c.count_in-count.type_inv)
    (part w l {n = c.number-threshold.result} (c.HEAD-else-words-end.ensures ∙ law) (omega (arith, c.HEAD-else-words-end.ensures, c.HEAD-4.ensures))) c.all_below.ensures
    ∙ c.if-not-all_below.false)
    t c.count_in-count.ensures (said_some w _ _ says).1
