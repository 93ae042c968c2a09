-- What a call that makes a sketch leaves its caller with: the number of a refusal, 0 for none, and a sketch, which is the one that the caller gave where the
-- call is refused, as `unwrap_or` has it, and no sketch where it gave none. Over any width.
-- Assumes nothing.
use Rattle.std.proofs.Common.{◌≡◌, ℕ, Bool, ◌&&◌, List, refl, ap}
use Rattle.std.specs.Prelude.{Result}
use Rattle.std.specs.Result.{result_unwrap_or}
use Rattle.modint.specs.Width.{Width}
use Rattle.modint.specs.declared.Code.{Code}
use Rattle.rules.specs.Sketch.{Sketch, no_sketch}
use Rattle.rules.specs.Calls as calls
use Rattle.rules.specs.Calls.{Outcome, refused, given, refusal_of, sketch_or}
use Rattle.rules.proofs.Outcomes.{Numbered, in_table, make_numbered, insert_numbered, remove_numbered, sub_assign_numbered, sub_numbered}
use Rattle.rules.proofs.Outcomes.{negate_numbered, read_numbered}
use Rattle.lent.specs.declared.refusal.Refusal.{Refusal}
use Rattle.lent.specs.Refusals.{refusal_or_none}
use Rattle.lent.proofs.Refusals.{number_back}
use Rattle.power_sum.specs.declared.power_sum.PowerSumQuack.{PowerSumQuack}
use Rattle.power_sum.specs.Answers.{view, built, well_formed_of, sketch_answer, new_of, insert_of, remove_of, sub_assign_of, sub_of, negate_of, read_of}

module _ {W : Type 0} (w : Width W) where
  -- What an answer leaves a caller with who gave this sketch.
  abbrev pub left_with : PowerSumQuack W → Result (PowerSumQuack W) Refusal → ℕ × PowerSumQuack W
  left_with s answer = (refusal_or_none answer, result_unwrap_or answer s)

  -- What such a caller has where the rule comes to this: the sketch that it gave, or the struct of the one that the rule gives.
  abbrev pub handed : PowerSumQuack W → Outcome Sketch → ℕ × PowerSumQuack W
  handed s (refused n) = (n, s)
  handed s (given g) = (0, built w g)

  -- An answer leaves its caller with what the rule comes to.
  pub answer_handed : (s : PowerSumQuack W) (o : Outcome Sketch) → Numbered o → left_with s (sketch_answer w o) ≡ handed s o
  answer_handed s (refused n) h = ap (λ (k : ℕ). (k, s)) (number_back n (in_table n h).0 (in_table n h).1)
  answer_handed s (given g) h = refl

  -- Where no sketch was given, that is the rule's refusal and the sketch that it gives, or none.
  pub none_handed : (o : Outcome Sketch) → handed (built w no_sketch) o ≡ (refusal_of o, built w (sketch_or o))
  none_handed (refused n) = refl
  none_handed (given g) = refl

  -- A making that is refused leaves its caller no sketch.
  pub new_handed : (threshold : ℕ) → left_with (built w no_sketch) (new_of w threshold) ≡ handed (built w no_sketch) (calls.make w.kind threshold)
  unfolding new_of
  new_handed threshold = answer_handed (built w no_sketch) (calls.make w.kind threshold) (make_numbered w.kind threshold)

  -- Nor does a reading.
  pub read_handed : (bs : List ℕ) → left_with (built w no_sketch) (read_of w bs) ≡ handed (built w no_sketch) (calls.read w.kind bs)
  unfolding read_of
  read_handed bs = answer_handed (built w no_sketch) (calls.read w.kind bs) (read_numbered w.kind bs)

  module _ (s : PowerSumQuack W) where
    -- Whether it is well formed.
    abbrev ok : Bool
    ok = well_formed_of w s

    -- The sketch that it stands for.
    abbrev mine : Sketch
    mine = view w s

    -- An insertion that is refused leaves it the sketch that it gave.
    pub insert_handed : (c : Code W) → left_with s (insert_of w s c) ≡ handed s (calls.insert w.kind (well_formed_of w s) (view w s) (w.num c.0))
    unfolding insert_of
    insert_handed c = answer_handed s (calls.insert w.kind ok mine (w.num c.0)) (insert_numbered w.kind ok mine (w.num c.0))

    -- So does a removal.
    pub remove_handed : (c : Code W) → left_with s (remove_of w s c) ≡ handed s (calls.remove w.kind (well_formed_of w s) (view w s) (w.num c.0))
    unfolding remove_of
    remove_handed c = answer_handed s (calls.remove w.kind ok mine (w.num c.0)) (remove_numbered w.kind ok mine (w.num c.0))

    -- So does a negation.
    pub negate_handed : left_with s (negate_of w s) ≡ handed s (calls.negate w.kind (well_formed_of w s) (view w s))
    unfolding negate_of
    negate_handed = answer_handed s (calls.negate w.kind ok mine) (negate_numbered w.kind ok mine)

    module _ (o : PowerSumQuack W) where
      -- Whether both are.
      abbrev both_ok : Bool
      both_ok = ok && well_formed_of w o

      -- A subtraction of the same threshold leaves it the first sketch.
      pub sub_assign_handed : left_with s (sub_assign_of w s o) ≡ handed s (calls.sub_assign w.kind (well_formed_of w s && well_formed_of w o) (view w s) (view w o))
      unfolding sub_assign_of
      sub_assign_handed = answer_handed s (calls.sub_assign w.kind both_ok mine (view w o)) (sub_assign_numbered w.kind both_ok mine (view w o))

      -- So does one of any.
      pub sub_handed : left_with s (sub_of w s o) ≡ handed s (calls.sub w.kind (well_formed_of w s && well_formed_of w o) (view w s) (view w o))
      unfolding sub_of
      sub_handed = answer_handed s (calls.sub w.kind both_ok mine (view w o)) (sub_numbered w.kind both_ok mine (view w o))
