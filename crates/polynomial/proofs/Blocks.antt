-- The loop that lists the roots of a log block by block: after some blocks, the entries of theirs that pass a test stand at the front of a lent buffer.
-- Assumes nothing.
use Rattle.std.proofs.Common.{ℕ, ◌≡◌, ◌≤◌, ◌+◌, ◌-◌, ◌++◌, Bool, List, length, take, drop, refl, sym, ap, ◌∙◌, arith, length-append}
use Rattle.std.proofs.lemmas.List.{take_at, drop_at, drop-drop}
use borrow.Rule.Slice.PartMut.{put_mid}
use Rattle.modint.specs.Width.{Width}
use Rattle.modint.proofs.Width.{nums_length, nums_take, nums_drop, nums_put_mid}
use Rattle.rules.specs.Decode.{keep}
use Rattle.rules.proofs.Listing.{Listing, Listed, listing_start, listing_block, listing_done}

module _ {W : Type 0} (w : Width W) (test : ℕ → Bool) (entries before : List W) where
  -- What is left of the entries is their end; of those before it, the n that pass stand at the front of the buffer, which has room for all.
  pub record Blocks (rest now : List W) (n : ℕ) : Type 0 where
    pub fewer : length rest ≤ length entries
    pub room : length entries ≤ length before
    pub left : rest ≡ drop (length entries - length rest) entries
    pub listing : Listing test (w.nums entries) (w.nums before) (w.nums now) n (length entries - length rest)

  -- Before the first block.
  pub blocks_start : {rest : List W} → rest ≡ entries → length entries ≤ length before → Blocks rest before 0
  blocks_start {rest} e l =
      let none : length entries - length rest ≡ 0 = omega (arith, ap length e) in
      record { fewer = omega (arith, ap length e); room = l; left = rw none e; listing = rw none listing_start }

  -- One block more.
  pub blocks_turn : {rest now : List W} {n : ℕ} (block after part : List W) (r : ℕ) → Blocks rest now n → rest ≡ block ++ after
      → Listed test (w.nums block) (w.nums (take (length now - n) (drop n now))) (w.nums part) r → r ≤ length block
      → Blocks after (put_mid n (length now - n) now part) (n + r)
  blocks_turn {rest} {now} {n} block after part r b e listed few =
      let i = length entries - length rest in
      let m = length block in
      let size : length rest ≡ m + length after = ap length e ∙ length-append block after in
      let next : i + m ≡ length entries - length after = omega (arith, b.fewer) in
      let here : take m (drop i (w.nums entries)) ≡ w.nums block =
      ap (take m) (sym (nums_drop w i entries) ∙ ap w.nums (sym b.left)) ∙ sym (nums_take w m rest)
      ∙ ap w.nums (ap (take m) e ∙ take_at block after m refl) in
      let old : w.nums (take (length now - n) (drop n now)) ≡ take (length (w.nums now) - n) (drop n (w.nums now)) =
      nums_take w (length now - n) (drop n now) ∙ rw (nums_drop w n now, nums_length w now) in
      let many : r ≡ length (keep test (take m (drop i (w.nums entries)))) = rw here listed.many in
      let front : w.nums part ≡ keep test (take m (drop i (w.nums entries))) ++ drop r (take (length (w.nums now) - n) (drop n (w.nums now))) =
      rw (here, ← old) listed.front in
      let all = nums_length w entries in
      let within : i + m ≤ length (w.nums entries) = omega (arith, b.fewer) in
      let space : i + m ≤ length (w.nums before) = omega (arith, b.fewer, b.room, nums_length w before) in
      let block_listed = listing_block b.listing within space few many front in
      record {
        fewer = omega (arith, b.fewer);
        room = b.room;
        left = sym (ap (drop m) (sym b.left ∙ e) ∙ drop_at block after m refl) ∙ drop-drop m i entries ∙ ap (λ (k : ℕ). drop k entries) next;
        listing = rw (← next, nums_put_mid, ← nums_length w now) block_listed;
      }

  -- After the last.
  pub blocks_done : {rest now : List W} {n : ℕ} → Blocks rest now n → length rest ≡ 0
      → (n ≡ length (keep test (w.nums entries))) × (w.nums now ≡ keep test (w.nums entries) ++ drop n (w.nums before))
  blocks_done {rest} b e =
      let all : length (w.nums entries) ≤ length entries - length rest = omega (arith, nums_length w entries) in
      let whole = listing_done b.listing all in
      (whole.many, whole.front)
