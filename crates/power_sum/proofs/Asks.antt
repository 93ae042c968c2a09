-- What each call on a sketch asks for is so at both widths and for every argument: that values of the width's type outlive the call, as all numbers do, and
-- that a sketch fits in memory. So a caller has nothing to show. The calls on a lent sketch are in `InPlace`.
-- Assumes nothing.
use Rattle.std.proofs.Common.{ℕ, ◌^◌, ◌<◌, lit<, List, Bor, MutBor}
use mathlib.Core.List.{not-mem-nil}
use base.Fml.{Lft}
use prog.Memory.{size}
use denote.RattleType.{RattleType}
use denote.Builtin.{u16, u32}
use denote.Param.{layout, copied}
use contract.Lifetimes.{Lfts}
use contract.BorrowLft.{◌⊑◌}
use Rattle.modint.specs.declared.Code.{Code}
use Rattle.modint.proofs.Blocks.{word16, word32, Passed, passing, AtBoth}
use Rattle.power_sum.specs.declared.power_sum.PowerSumQuack.{PowerSumQuack}
use Rattle.power_sum.specs.contracts.power_sum.PowerSumQuack.{the_row}
use Rattle.power_sum.proofs.power_sum.PowerSumQuack.new.Reads as new
use Rattle.power_sum.proofs.power_sum.PowerSumQuack.blank.Reads as blank
use Rattle.power_sum.proofs.power_sum.PowerSumQuack.threshold.Reads as threshold
use Rattle.power_sum.proofs.power_sum.PowerSumQuack.count.Reads as count
use Rattle.power_sum.proofs.power_sum.PowerSumQuack.last_value.Reads as last_value
use Rattle.power_sum.proofs.power_sum.PowerSumQuack.well_formed.Reads as well_formed
use Rattle.power_sum.proofs.power_sum.PowerSumQuack.insert.Reads as insert
use Rattle.power_sum.proofs.power_sum.PowerSumQuack.remove.Reads as remove
use Rattle.power_sum.proofs.power_sum.PowerSumQuack.insert_once.Reads as insert_once
use Rattle.power_sum.proofs.power_sum.PowerSumQuack.remove_once.Reads as remove_once
use Rattle.power_sum.proofs.power_sum.PowerSumQuack.sub_assign.Reads as sub_assign
use Rattle.power_sum.proofs.power_sum.PowerSumQuack.sub.Reads as sub
use Rattle.power_sum.proofs.power_sum.PowerSumQuack.signed_count.Reads as signed_count
use Rattle.power_sum.proofs.power_sum.PowerSumQuack.negate.Reads as negate
use Rattle.power_sum.proofs.power_sum.PowerSumQuack.to_coeffs.Reads as to_coeffs
use Rattle.power_sum.proofs.power_sum.PowerSumQuack.decode_with_log.Reads as decode_with_log
use Rattle.power_sum.proofs.power_sum.PowerSumQuack.decode_surplus_with_log.Reads as decode_surplus_with_log
use Rattle.power_sum.proofs.power_sum.PowerSumQuack.serialize.Reads as serialize
use Rattle.power_sum.proofs.power_sum.PowerSumQuack.serialize_with_hint.Reads as serialize_with_hint
use Rattle.power_sum.proofs.power_sum.PowerSumQuack.deserialize.Reads as deserialize

-- What every call over a type asks for: values of the type outlive the call's lifetime for it, and a sketch of the type fits in memory.
abbrev pub Asked : RattleType → Lft → Type 0
Asked T κ = (κ ⊑ T.lives) × (size (layout (the_row (copied 0 T))) < 2 ^ 63)

-- It is so at both widths.
pub both_asked : {κ : Lft} → Asked u16 κ × Asked u32 κ
both_asked = ((λ a none. absurd (not-mem-nil none), lit< tt), (λ a none. absurd (not-mem-nil none), lit< tt))

module _ (p : Passed u16) (q : Passed u32) where
  module _ (κs : Lfts 1) where
    -- ---- made and looked at

    -- What `new` asks for is so.
    pub new_asks : (threshold : ℕ) → AtBoth (passing word16 p new.Pre) (passing word32 q new.Pre) (λ pre _. pre κs (threshold, tt))
    new_asks threshold = both_asked

    -- What `blank` asks for is so.
    pub blank_asks : AtBoth (passing word16 p blank.Pre) (passing word32 q blank.Pre) (λ pre _. pre κs tt)
    blank_asks = both_asked

    module _ (s : PowerSumQuack ℕ) where
      -- What `threshold` asks for is so.
      pub threshold_asks : AtBoth (passing word16 p threshold.Pre) (passing word32 q threshold.Pre) (λ pre _. pre κs (s, tt))
      threshold_asks = both_asked

      -- What `count` asks for is so.
      pub count_asks : AtBoth (passing word16 p count.Pre) (passing word32 q count.Pre) (λ pre _. pre κs (s, tt))
      count_asks = both_asked

      -- What `last_value` asks for is so.
      pub last_value_asks : AtBoth (passing word16 p last_value.Pre) (passing word32 q last_value.Pre) (λ pre _. pre κs (s, tt))
      last_value_asks = both_asked

      -- What `well_formed` asks for is so.
      pub well_formed_asks : AtBoth (passing word16 p well_formed.Pre) (passing word32 q well_formed.Pre) (λ pre _. pre κs (s, tt))
      well_formed_asks = both_asked

      -- ---- changed

      -- What `insert` asks for is so.
      pub insert_asks : (c : Code ℕ) → AtBoth (passing word16 p insert.Pre) (passing word32 q insert.Pre) (λ pre _. pre κs (s, (c, tt)))
      insert_asks c = both_asked

      -- What `remove` asks for is so.
      pub remove_asks : (c : Code ℕ) → AtBoth (passing word16 p remove.Pre) (passing word32 q remove.Pre) (λ pre _. pre κs (s, (c, tt)))
      remove_asks c = both_asked

      -- What `insert_once` asks for is so.
      pub insert_once_asks : (c : Code ℕ) → AtBoth (passing word16 p insert_once.Pre) (passing word32 q insert_once.Pre) (λ pre _. pre κs (s, (c, tt)))
      insert_once_asks c = both_asked

      -- What `remove_once` asks for is so.
      pub remove_once_asks : (c : Code ℕ) → AtBoth (passing word16 p remove_once.Pre) (passing word32 q remove_once.Pre) (λ pre _. pre κs (s, (c, tt)))
      remove_once_asks c = both_asked

      -- What `sub_assign` asks for is so.
      pub sub_assign_asks : (o : PowerSumQuack ℕ) → AtBoth (passing word16 p sub_assign.Pre) (passing word32 q sub_assign.Pre) (λ pre _. pre κs (s, (o, tt)))
      sub_assign_asks o = both_asked

      -- What `sub` asks for is so.
      pub sub_asks : (o : PowerSumQuack ℕ) → AtBoth (passing word16 p sub.Pre) (passing word32 q sub.Pre) (λ pre _. pre κs (s, (o, tt)))
      sub_asks o = both_asked

      -- What `negate` asks for is so.
      pub negate_asks : AtBoth (passing word16 p negate.Pre) (passing word32 q negate.Pre) (λ pre _. pre κs (s, tt))
      negate_asks = both_asked

      -- What `signed_count` asks for is so.
      pub signed_count_asks : AtBoth (passing word16 p signed_count.Pre) (passing word32 q signed_count.Pre) (λ pre _. pre κs (s, tt))
      signed_count_asks = both_asked

  -- ---- lists

  -- What `to_coeffs` asks for is so.
  pub to_coeffs_asks : (κs : Lfts 2) (s : PowerSumQuack ℕ) (coeffs : MutBor (List ℕ)) → AtBoth (passing word16 p to_coeffs.Pre) (passing word32 q to_coeffs.Pre)
      (λ pre _. pre κs (s, (coeffs, tt)))
  to_coeffs_asks κs s coeffs = both_asked

  module _ (κs : Lfts 3) (s : PowerSumQuack ℕ) (log : Bor (List ℕ)) (out : MutBor (List ℕ)) where
    -- What `decode_with_log` asks for is so.
    pub decode_with_log_asks : AtBoth (passing word16 p decode_with_log.Pre) (passing word32 q decode_with_log.Pre) (λ pre _. pre κs (s, (log, (out, tt))))
    decode_with_log_asks = both_asked

    -- What `decode_surplus_with_log` asks for is so.
    pub decode_surplus_with_log_asks : AtBoth (passing word16 p decode_surplus_with_log.Pre) (passing word32 q decode_surplus_with_log.Pre)
        (λ pre _. pre κs (s, (log, (out, tt))))
    decode_surplus_with_log_asks = both_asked

  -- ---- packets

  module _ (κs : Lfts 2) where
    -- What `serialize` asks for is so.
    pub serialize_asks : (s : PowerSumQuack ℕ) (buf : MutBor (List ℕ)) → AtBoth (passing word16 p serialize.Pre) (passing word32 q serialize.Pre)
        (λ pre _. pre κs (s, (buf, tt)))
    serialize_asks s buf = both_asked

    -- What `serialize_with_hint` asks for is so.
    pub serialize_with_hint_asks : (s : PowerSumQuack ℕ) (buf : MutBor (List ℕ)) (hint : ℕ)
        → AtBoth (passing word16 p serialize_with_hint.Pre) (passing word32 q serialize_with_hint.Pre) (λ pre _. pre κs (s, (buf, (hint, tt))))
    serialize_with_hint_asks s buf hint = both_asked

    -- What `deserialize` asks for is so.
    pub deserialize_asks : (buf : Bor (List ℕ)) → AtBoth (passing word16 p deserialize.Pre) (passing word32 q deserialize.Pre) (λ pre _. pre κs (buf, tt))
    deserialize_asks buf = both_asked
