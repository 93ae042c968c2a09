-- The kinds of sketch. Whatever differs between two widths of code is a field of the kind, and every rule and law is over it.
-- Assumes nothing.
use Rattle.std.specs.Prelude.{ℕ, ◌*◌, ◌^◌, ◌<◌, ◌≤◌, ◌≡◌, refl, ◌⊎◌}
use Rattle.std.proofs.Common.{lit<, lit≤, inl, inr}
use Rattle.numbers.specs.Prime.{IsPrime, p16, p32}
use Rattle.numbers.proofs.Primes.{prime_16, prime_32}

-- Counts are of thirty-two bits at every width: so many bytes, and kept modulo this number.
abbrev pub count_bytes : ℕ
count_bytes = 4

-- How many counts there are: 2^32.
abbrev pub counts : ℕ
counts = 4294967296

-- Half of them, 2^31: from here on a count is read as a negative number where it is read as a signed one.
abbrev pub half_counts : ℕ
half_counts = 2147483648

-- A kind has a prime modulus, a greatest threshold, and a number of bytes for a code, which are also those of a residue and of a word in memory; a count
-- takes one such word, or two. The greatest threshold is below the modulus and below half the counts; a residue fits its bytes, and a code is below
-- twice the modulus.
pub record Kind : Type 0 where
  pub modulus : ℕ
  pub greatest : ℕ
  pub code_bytes : ℕ
  pub count_words : ℕ
  pub prime : IsPrime modulus
  pub odd : 2 < modulus
  pub above : greatest < modulus
  pub counted : greatest < half_counts
  pub some_byte : 0 < code_bytes
  pub fits : modulus ≤ 256 ^ code_bytes
  pub twice : 256 ^ code_bytes ≤ 2 * modulus
  pub one_or_two : (count_words ≡ 1) ⊎ (count_words ≡ 2)

-- How many bits a code has, and an exponent.
abbrev pub bits : Kind → ℕ
bits K = 8 * K.code_bytes

-- The kind of 16-bit codes.
abbrev pub kind16 : Kind
kind16 = record {
  modulus = p16;
  greatest = 32;
  code_bytes = 2;
  count_words = 2;
  prime = prime_16;
  odd = lit< tt;
  above = lit< tt;
  counted = lit< tt;
  some_byte = lit< tt;
  fits = lit≤ tt;
  twice = lit≤ tt;
  one_or_two = inr refl;
}

-- The kind of 32-bit codes.
abbrev pub kind32 : Kind
kind32 = record {
  modulus = p32;
  greatest = 32;
  code_bytes = 4;
  count_words = 1;
  prime = prime_32;
  odd = lit< tt;
  above = lit< tt;
  counted = lit< tt;
  some_byte = lit< tt;
  fits = lit≤ tt;
  twice = lit≤ tt;
  one_or_two = inl refl;
}
