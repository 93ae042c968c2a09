-- Finite sums, the binomial numbers, and the power of a successor as a sum over them.
-- Assumes nothing.
use Prim.Native.Nat.{ℕ, zero, suc, ◌+◌, ◌*◌, ◌^◌, ◌<◌, ◌∣◌}
use mathlib.Core.Path.{◌≡◌, refl, sym, ap, ap₂}
use native.Mathlib.Nat.{mul-zero, pow-zero, pow-succ', dvd-add, dvd-zero}
use native.Mathlib.Omega.{arith}

-- ---- sums

-- The sum of f 0 to f (n - 1).
abbrev pub sum_to : (ℕ → ℕ) → ℕ → ℕ
sum_to f zero = 0
sum_to f (suc n) = sum_to f n + f n

-- A sum is its first term and the sum of the others.
pub sum_first : (f : ℕ → ℕ) (n : ℕ) → sum_to f (suc n) ≡ f 0 + sum_to (λ k. f (suc k)) n
sum_first f zero = omega arith
sum_first f (suc n) = omega (arith, sum_first f n)

-- Sums of equal terms are equal.
pub sum_same : (f g : ℕ → ℕ) → ((k : ℕ) → f k ≡ g k) → (n : ℕ) → sum_to f n ≡ sum_to g n
sum_same f g h zero = refl
sum_same f g h (suc n) = ap₂ ◌+◌ (sum_same f g h n) (h n)

-- What divides each term divides the sum.
pub sum_divides : (m : ℕ) (f : ℕ → ℕ) (n : ℕ) → ((k : ℕ) → k < n → m ∣ f k) → m ∣ sum_to f n
sum_divides m f zero h = dvd-zero m
sum_divides m f (suc n) h = dvd-add m (sum_divides m f n (λ k l. h k (omega arith))) (h n (omega arith))

sum_add : (f g : ℕ → ℕ) (n : ℕ) → sum_to (λ k. f k + g k) n ≡ sum_to f n + sum_to g n
sum_add f g zero = refl
sum_add f g (suc n) = omega (arith, sum_add f g n)

sum_mul : (c : ℕ) (f : ℕ → ℕ) (n : ℕ) → sum_to (λ k. c * f k) n ≡ c * sum_to f n
sum_mul c f zero = sym (mul-zero c)
sum_mul c f (suc n) = omega (arith, sum_mul c f n)

-- ---- binomial numbers

-- How many sets of k there are among n.
abbrev pub choose : ℕ → ℕ → ℕ
choose n zero = 1
choose zero (suc k) = 0
choose (suc n) (suc k) = choose n k + choose n (suc k)

choose_over : (n k : ℕ) → n < k → choose n k ≡ 0
choose_over n zero l = absurd (omega arith)
choose_over zero (suc k) l = refl
choose_over (suc n) (suc k) l = omega (arith, choose_over n k (omega arith), choose_over n (suc k) (omega arith))

-- There is one set of n among n.
pub choose_all : (n : ℕ) → choose n n ≡ 1
choose_all zero = refl
choose_all (suc n) = omega (arith, choose_all n, choose_over n (suc n) (omega arith))

-- A set of k + 1 among n + 1 with one of its members marked is a marked number and a set of k among the others.
pub choose_marked : (n k : ℕ) → suc k * choose (suc n) (suc k) ≡ suc n * choose n k
choose_marked zero zero = refl
choose_marked zero (suc k) = omega arith
choose_marked (suc n) zero = omega (arith, choose_marked n zero)
choose_marked (suc n) (suc k) = omega (arith, choose_marked n k, choose_marked n (suc k))

-- The binomial theorem for a + 1.
pub binomial : (a n : ℕ) → suc a ^ n ≡ sum_to (λ k. choose n k * a ^ k) (suc n)
binomial a zero = rw (pow-zero (suc a), pow-zero a) refl
binomial a (suc n) =
    omega (
      arith,
      pow-succ' (suc a) n,
      ap (λ (x : ℕ). suc a * x) (binomial a n),
      sum_first (λ k. choose (suc n) k * a ^ k) (suc n),
      sum_same (λ k. choose (suc n) (suc k) * a ^ suc k) (λ k. a * (choose n k * a ^ k) + choose n (suc k) * a ^ suc k) pascal (suc n),
      sum_add (λ k. a * (choose n k * a ^ k)) (λ k. choose n (suc k) * a ^ suc k) (suc n),
      sum_mul a (λ k. choose n k * a ^ k) (suc n),
      sum_first (λ k. choose n k * a ^ k) (suc n),
      ap (λ (x : ℕ). x * a ^ suc n) (choose_over n (suc n) (omega arith)),
    )
  where
    pascal : (k : ℕ) → choose (suc n) (suc k) * a ^ suc k ≡ a * (choose n k * a ^ k) + choose n (suc k) * a ^ suc k
    pascal k = rw (pow-succ' a k) (omega arith)
