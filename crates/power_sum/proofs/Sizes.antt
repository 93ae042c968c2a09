-- The room that a sketch takes, over any width: its words have at most eight bytes, so a sketch and each of its parts fit in memory.
-- Assumes nothing.
use Rattle.std.proofs.Common.{ℕ, ◌+◌, ◌-◌, ◌*◌, ◌%◌, ◌≤◌, ◌<◌, max, arith, lit≤}
use Rattle.std.proofs.Math.Nat.{mod-lt}
use mir.Syntax.{Ty, Width, w8, w16, w32, w64, w128}
use mir.Val.{bytes}
use prog.Memory.{size, align, up}
use prog.Align.{align_w, align-bytes, align_pos}

-- No alignment is above 16 bytes.
bytes_few : (w : Width) → bytes w ≤ 16
bytes_few w8 = lit≤ tt
bytes_few w16 = lit≤ tt
bytes_few w32 = lit≤ tt
bytes_few w64 = lit≤ tt
bytes_few w128 = lit≤ tt

align_few : (t : Ty) → align t ≤ 16
align_few t = rw (align-bytes t) (bytes_few (align_w t))

-- What is rounded up to an alignment grows by less than the alignment.
up_few : {a e n : ℕ} → 0 < a → a ≤ 16 → e ≤ n → up a e ≤ n + 16
up_few {a} {e} {n} some few l = omega (arith, mod-lt (a - e % a) {m = a} some)

-- The room of a residue, of a residue or none, and of a sketch, for words of s bytes with the alignment a.
abbrev pub residue_room : ℕ → ℕ → ℕ
residue_room a s = up (max a 1) (up a 0 + s)

abbrev pub option_align : ℕ → ℕ
option_align a = max 1 (max (max (max a 1) 1) 1)

abbrev pub option_room : ℕ → ℕ → ℕ
option_room a s = up (option_align a) (max 1 (max (up (max a 1) 1 + residue_room a s) 1))

abbrev pub sketch_room : ℕ → ℕ → ℕ
sketch_room a s =
    up (max 8 (max (max a 1) (max 4 (max (option_align a) 1))))
    (up (option_align a) (up 4 (up (max a 1) 8 + 32 * residue_room a s) + 4) + option_room a s)

module _ (t : Ty) (small : size t ≤ 8) where
  -- As many words as there are places fit in memory.
  pub words_fit : 32 * size t < 9223372036854775808
  words_fit = omega (arith, small)

  -- A residue takes at most 40 bytes, one that may be none 73.
  pub residue_few : residue_room (align t) (size t) ≤ 40
  residue_few =
      let start = up_few {e = 0} {n = 0} (align_pos t) (align_few t) (omega arith) in
      up_few {n = 24} (omega (arith, align_pos t)) (omega (arith, align_few t)) (omega (arith, start, small))

  pub option_few : option_room (align t) (size t) ≤ 73
  option_few =
      let start = up_few {a = max (align t) 1} {e = 1} {n = 1} (omega (arith, align_pos t)) (omega (arith, align_few t)) (omega arith) in
      up_few {n = 57} (omega (arith, align_pos t)) (omega (arith, align_few t)) (omega (arith, start, residue_few))

  -- So does a sketch.
  pub sketch_fits : sketch_room (align t) (size t) < 9223372036854775808
  sketch_fits =
      let start = up_few {a = max (align t) 1} {e = 8} {n = 8} (omega (arith, align_pos t)) (omega (arith, align_few t)) (omega arith) in
      let count = up_few {a = 4} {e = up (max (align t) 1) 8 + 32 * residue_room (align t) (size t)} {n = 1304} (omega arith) (omega arith) (omega (arith, start, residue_few)) in
      let last = up_few {a = option_align (align t)} {e = up 4 (up (max (align t) 1) 8 + 32 * residue_room (align t) (size t)) + 4} {n = 1324}
      (omega (arith, align_pos t)) (omega (arith, align_few t)) (omega (arith, count)) in
      let whole = up_few {a = max 8 (max (max (align t) 1) (max 4 (max (option_align (align t)) 1)))}
      {e = up (option_align (align t)) (up 4 (up (max (align t) 1) 8 + 32 * residue_room (align t) (size t)) + 4) + option_room (align t) (size t)}
      {n = 1413} (omega arith) (omega (arith, align_few t)) (omega (arith, last, option_few)) in
      omega (arith, whole)
