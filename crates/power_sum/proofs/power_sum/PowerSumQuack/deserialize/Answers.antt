-- The sums go to places of zeros.
use Rattle.std.proofs.Common.{◌≡◌, ℕ, List, ◌++◌, length, drop, sym, refl, ap, ◌∙◌, Result, Ok}
use lib.ListN.{replicate}
use denote.Memory.{lone}
use Rattle.modint.specs.Width.{Width}
use Rattle.rules.specs.Sketch.{Sketch, placed}
use Rattle.rules.specs.Calls as calls
use Rattle.rules.specs.Calls.{Outcome, given, read_for, sums_given, written}
use Rattle.rules.specs.Packet.{sketch_in}
use Rattle.rules.proofs.Bytes.{read_places}
use Rattle.rules.proofs.Packet.{read_is_said, read_sums_below}
use Rattle.rules.proofs.WellFormed.{placed_below, placed_on_zeros}
use Rattle.sums.specs.Answers.{packet_head_of}
use Rattle.sums.specs.declared.packet.PacketHead.{PacketHead}
use Rattle.lent.specs.Refusals.{answered}
use Rattle.lent.specs.declared.refusal.Refusal.{Refusal}
use Rattle.power_sum.specs.Answers.{built, read_of}
use Rattle.power_sum.proofs.Struct.{zeros}
use Rattle.power_sum.proofs.Sizes.{words_fit, sketch_fits}
use Rattle.power_sum.proofs.Filled.{handed_for, given_for}
use Rattle.power_sum.proofs.power_sum.PowerSumQuack.deserialize.Goals as goal

module _ {W : Type 0} (w : Width W) (bs : List ℕ) where
  -- Reading into all places is reading.
  all_places : read_for w.kind bs 32 ≡ calls.read w.kind bs
  all_places = ap (read_for w.kind bs) (sym w.places) ∙ read_places w.kind bs

  -- What is read, and where it goes.
  module _ {r : Result (PacketHead W) Refusal} (said : r ≡ answered (packet_head_of w) (read_for w.kind bs 32)) {head : PacketHead W} (is : r ≡ Ok head) where
    read : (s : Sketch) × (calls.read w.kind bs ≡ given s) × (head ≡ packet_head_of w s)
    read = given_for (packet_head_of w) (calls.read w.kind bs) (said ∙ ap (answered (packet_head_of w)) all_places) is

    comes : calls.read w.kind bs ≡ given (sketch_in w.kind bs)
    comes = read.1 ∙ ap given (read_is_said w.kind bs read.0 read.1)

    heads : head ≡ packet_head_of w (sketch_in w.kind bs)
    heads = read.2 ∙ ap (packet_head_of w) (read_is_said w.kind bs read.0 read.1)

    -- The places hold its sums and zeros.
    placing : {ys : List W} {z : W} → w.num z ≡ 0 → w.nums ys ≡ written (sums_given (read_for w.kind bs 32)) (w.nums (replicate 32 z))
        → w.nums ys ≡ placed w.kind (sketch_in w.kind bs).sums
    placing {z = z} zero put =
        let sums = (sketch_in w.kind bs).sums in
        put ∙ ap (λ (o : Outcome Sketch). written (sums_given o) (w.nums (replicate 32 z))) (all_places ∙ comes)
        ∙ ap (λ (l : List ℕ). sums ++ drop (length sums) l) (zeros w zero) ∙ placed_on_zeros w.kind (length sums) sums refl

pub returns-in_err-head : goal.returns-in_err-head
unfolding read_of
returns-in_err-head g c =
    let w = g.W.Word.width in
    let buf = c.args.buf.now in
    let said = c.read.ensures.answer ∙ ap (answered (packet_head_of w)) (all_places w buf) in
    handed_for (packet_head_of w) (calls.read w.kind buf) (built w) c.from_residual.result said c.in_err-head.was c.from_residual.ensures

pub accepted-requires : goal.accepted-requires
accepted-requires g c =
    let w = g.W.Word.width in
    let buf = c.args.buf.now in
    let said = c.read.ensures.answer in
    let below = placed_below w.kind (sketch_in w.kind buf).sums (read_sums_below w.kind buf (sketch_in w.kind buf) (comes w buf said c.in_ok-head.was)) in (
      words_fit (lone g.row.W.mir) g.met.W.Word.small,
      (
        sketch_fits (lone g.row.W.mir) g.met.W.Word.small,
        rw (placing w buf said c.in_ok-head.was c.zero-sums.ensures c.read.ensures.sums) below,
      ),
    )

pub returns : goal.returns
unfolding read_of sketch_in
returns g c =
    let w = g.W.Word.width in
    let buf = c.args.buf.now in
    let said = c.read.ensures.answer in
    rw (
      c.accepted.ensures,
      placing w buf said c.in_ok-head.was c.zero-sums.ensures c.read.ensures.sums,
      heads w buf said c.in_ok-head.was,
      comes w buf said c.in_ok-head.was,
    )
