-- The sums move up, the count by one, and the residue is the last code.
use denote.Memory.{lone}
use Rattle.rules.specs.Field.{residue}
use Rattle.rules.specs.Sketch.{insert}
use Rattle.rules.specs.Calls as calls
use Rattle.rules.proofs.WellFormed.{inserted_below, placed_below}
use Rattle.power_sum.specs.Answers.{view, insert_of}
use Rattle.power_sum.proofs.Sizes.{words_fit, sketch_fits}
use Rattle.power_sum.proofs.Checked.{passed, failed}
use Rattle.power_sum.proofs.power_sum.PowerSumQuack.insert.Goals as goal

pub returns-in_err-checked : goal.returns-in_err-checked
unfolding insert_of calls.insert
returns-in_err-checked g c =
    let no = failed g.W.Word.width c.args.self c.from_residual.result c.checked.ensures c.in_err-checked.was c.from_residual.ensures in
    rw (no.1, no.0)

pub accepted-requires : goal.accepted-requires
unfolding insert
accepted-requires g c =
    let w = g.W.Word.width in
    let s = view w c.args.self in
    let n = w.num c.args.code.0 in
    let below = placed_below w.kind (insert w.kind s n).sums (inserted_below w.kind s n) in (
      words_fit (lone g.row.W.mir) g.met.W.Word.small,
      (
        sketch_fits (lone g.row.W.mir) g.met.W.Word.small,
        rw (c.shifted-sums.ensures, c.reduce-x.ensures, w.num_of (residue w.kind n)) below,
      ),
    )

pub returns : goal.returns
unfolding insert_of calls.insert insert
returns g c =
    let w = g.W.Word.width in
    rw (
      passed w c.args.self c.checked.ensures c.in_ok-checked.was,
      c.accepted.ensures,
      c.shifted-sums.ensures,
      c.reduce-x.ensures,
      w.num_of (residue w.kind (w.num c.args.code.0)),
    )
