-- The rule of a threshold as a test that antt computes, and what a passed test says of every f64. Assumes nothing.
-- A threshold x is m / 2^j with 2^52 < m ≤ 2^53, so that (m - 1) / 2^j is the f64 before it: k is reached by the first and missed by the second.
use mathlib.Core.Path.{◌≡◌, refl, sym, ap, ◌∙◌, subst}
use mathlib.Core.Logic.{◌⊎◌, inl, inr}
use mathlib.Core.Bool.{Bool, true, false, ◌&&◌}
use mathlib.Core.List.{List, []}
use Prim.Native.Nat.{ℕ, zero, suc, ◌+◌, ◌-◌, ◌*◌, ◌/◌, ◌%◌, ◌^◌, ◌≤◌, ◌<◌, zero-le}
use native.Mathlib.Nat.{zero-mul, le_trans, le_of_eq, lt_of_not-le, not-le_of_lt, lt_of_lt_of_le, lt_of_le_of_lt, le_of_lt, mul-one, mul_assoc, mul_right_comm, mul-le-mul_left, mul-le-mul_right, mul-lt-mul_of_pos_right, le_of_mul-le-mul_right, lt_of_mul-lt-mul_right}
use native.Mathlib.Omega.{arith}
use native.Mathlib.Decide.{dec_le}
use borrow.Author.Tests.{lt-leb}
use lib.IntN.{ℤ, pos, negsuc}
use lib.Dec.{T, leb, ltb, eqb, leb→le, ltb→lt, eqb→eq, le→leb}
use lib.Pow.{pow-add, pow_pos, pow_mono}
use lib.Ieee.{Float, nan, inf, fin, binary64, up, down, fits, le, lt, eq, to_bits}
use lib.Ieee.Fits.{and_l, and_r, down_pos}
use lib.ListN.{length, get_or}
use Rattle.lists.proofs.Table.{both, both_left, both_right, every, at}
use Rattle.numeric.proofs.Order.{none, le→cross, cross→le}
use Rattle.spec.specs.Gamma.{reaches_byte, over, under}
use Rattle.gamma.specs.Thresholds.{Threshold, cell_of, Row, Rising, Rows}
use Rattle.gamma.proofs.Powers.{raises}

-- ---- no f64 lies between m - 1 and m of 2^-j
between : (j m n : ℕ) (d : ℤ) → 2 ^ 52 < m → n < 2 ^ 53 → n * up d * 2 ^ j < m * down d → n * up d * 2 ^ j ≤ (m - 1) * down d
between j m n (pos d) M N h = omega arith
between j m n (negsuc d) M N h = elim (total (suc d) j) [ inl l ↦ wide l | inr l ↦ fine l ]
  where
    D : ℕ
    D = 2 ^ suc d

    total : (a b : ℕ) → (a ≤ b) ⊎ (b < a)
    total a b = elim (dec_le a b) [ yes h ↦ inl h | no h ↦ inr (lt_of_not-le h) ]

    wide : suc d ≤ j → n * 1 * 2 ^ j ≤ (m - 1) * 2 ^ suc d
    wide l =
        let e : 2 ^ j ≡ 2 ^ (j - suc d) * 2 ^ suc d = ap (λ (z : ℕ). 2 ^ z) (let f : j ≡ j - suc d + suc d = omega arith in f) ∙ pow-add 2 (j - suc d) (suc d) in
        let f : n * 1 * 2 ^ j ≡ n * 1 * 2 ^ (j - suc d) * 2 ^ suc d = ap (λ (z : ℕ). n * 1 * z) e ∙ sym (mul_assoc (n * 1) (2 ^ (j - suc d)) (2 ^ suc d)) in
        let g : n * 1 * 2 ^ (j - suc d) < m = lt_of_mul-lt-mul_right (2 ^ suc d) (subst (λ (z : ℕ). z < m * 2 ^ suc d) f h) in
        le_trans (le_of_eq f) (mul-le-mul_right (2 ^ suc d) (less _ m g))
      where
        less : (a m : ℕ) → a < m → a ≤ m - 1
        less a m h = omega arith

    fine : j < suc d → n * 1 * 2 ^ j ≤ (m - 1) * 2 ^ suc d
    fine l =
        let a : n * 1 * 2 ^ j ≤ 2 ^ 53 * 2 ^ j = mul-le-mul_right (2 ^ j) (le_trans (le_of_eq (mul-one n)) (le_of_lt N)) in
        let e : 2 ^ 53 * 2 ^ j ≡ 2 ^ 52 * 2 ^ suc j = sym (pow-add 2 53 j) ∙ ap (λ (z : ℕ). 2 ^ z) (let f : 53 + j ≡ 52 + suc j = omega arith in f) ∙ pow-add 2 52 (suc j) in
        let b : 2 ^ 52 * 2 ^ suc j ≤ 2 ^ 52 * 2 ^ suc d = mul-le-mul_left (2 ^ 52) (pow_mono l) in
        let c : 2 ^ 52 * 2 ^ suc d ≤ (m - 1) * 2 ^ suc d = mul-le-mul_right (2 ^ suc d) (less (2 ^ 52) m M) in
        le_trans a (le_trans (le_of_eq e) (le_trans b c))
      where
        less : (a m : ℕ) → a < m → a ≤ m - 1
        less a m h = omega arith

-- ---- a threshold a / c = m / u against a fraction n / d, all in whole numbers
module _ (p q k a c m u n d : ℕ) (C : 0 < c) (D : 0 < d) (U : 0 < u) (e : a * u ≡ m * c) where
  turn : m * d * c ≡ a * d * u
  turn = mul_right_comm m d c ∙ ap (λ (z : ℕ). z * d) (sym e) ∙ mul_right_comm a u d

  from : a * d ≤ n * c → k ^ q * u ^ p ≤ 255 ^ q * m ^ p → k ^ q * d ^ p ≤ 255 ^ q * n ^ p
  from h r =
      raises p q k m u n d U
      (le_of_mul-le-mul_right (le_trans (le_of_eq turn) (le_trans (mul-le-mul_right u h) (le_of_eq (mul_right_comm n c u)))) C) r

  to : (n * u < m * d → n * u ≤ (m - 1) * d) → 255 ^ q * (m - 1) ^ p < k ^ q * u ^ p → k ^ q * d ^ p ≤ 255 ^ q * n ^ p → a * d ≤ n * c
  to gap miss r = elim (dec_le (a * d) (n * c)) [
    | yes h ↦ h
    | no h ↦
        let l : n * c < a * d = lt_of_not-le h in
        let g : n * u * c < m * d * c = lt_of_le_of_lt (le_of_eq (mul_right_comm n u c)) (lt_of_lt_of_le (mul-lt-mul_of_pos_right l U) (le_of_eq (sym turn))) in
        absurd (not-le_of_lt miss (raises p q k n d (m - 1) u D (gap (lt_of_mul-lt-mul_right c g)) r))
  ]

-- ---- the test of one threshold: m and j from the bits of the f64 before it
abbrev before : Float → ℕ
before x = to_bits binary64 x - 1

abbrev sill : ℕ → ℕ → ℕ → Float → ℕ → ℕ → Bool
sill p q k nan m j = false
sill p q k (inf s) m j = false
sill p q k (fin true n e) m j = false
sill p q k (fin false n e) m j =
    both (eqb (n * up e * 2 ^ j) (m * down e)) (both (ltb (2 ^ 52) m)
    (both (leb (k ^ q * (2 ^ j) ^ p) (255 ^ q * m ^ p)) (ltb (255 ^ q * (m - 1) ^ p) (k ^ q * (2 ^ j) ^ p))))

abbrev pub stands : ℕ → ℕ → ℕ → Float → Bool
stands p q k x = sill p q k x (2 ^ 52 + before x % 2 ^ 52 + 1) (1075 - before x / 2 ^ 52)

same_test : (a b : Bool) → (T a → T b) → (T b → T a) → a ≡ b
same_test true true f g = refl
same_test true false f g = absurd (f tt)
same_test false true f g = absurd (g tt)
same_test false false f g = refl

-- a significand has at most 53 digits
digits : (s : Bool) (n : ℕ) (d : ℤ) → T (fits binary64 (fin s n d)) → n < 2 ^ 53
unfolding fits
digits s zero d h = pow_pos 53
digits s (suc n) d h =
    let A = eqb (suc n % 2) 1 in
    let B = ltb (suc n) (2 ^ 53) in
    let C = leb (down d) (2 ^ 1074) in
    let D = ltb (suc n * up d) (2 ^ 1024 * down d) in
    ltb→lt (suc n) (2 ^ 53) (and_r A B (and_l (A && B) C (and_l (A && B && C) D h)))

-- what a passed test says
record Sill (p q k a c m u : ℕ) : Type 0 where
  is : a * u ≡ m * c
  high : 2 ^ 52 < m
  hits : k ^ q * u ^ p ≤ 255 ^ q * m ^ p
  misses : 255 ^ q * (m - 1) ^ p < k ^ q * u ^ p

says : (p q k n : ℕ) (e : ℤ) (m j : ℕ) → T (sill p q k (fin false n e) m j) → Sill p q k (n * up e) (down e) m (2 ^ j)
says p q k n e m j t =
    let r1 = both_right (eqb (n * up e * 2 ^ j) (m * down e)) _ t in
    let r2 = both_right (ltb (2 ^ 52) m) _ r1 in
    record {
      is = eqb→eq _ _ (both_left (eqb (n * up e * 2 ^ j) (m * down e)) _ t);
      high = ltb→lt _ _ (both_left (ltb (2 ^ 52) m) _ r1);
      hits = leb→le _ _ (both_left (leb (k ^ q * (2 ^ j) ^ p) (255 ^ q * m ^ p)) _ r2);
      misses = ltb→lt _ _ (both_right (leb (k ^ q * (2 ^ j) ^ p) (255 ^ q * m ^ p)) _ r2);
    }

positive_product : (a d : ℕ) → 0 < a → 0 < d → a * d ≤ 0 → ⊥
positive_product a d A D h = let e = none a d D h in omega arith

first_positive : (a u m c : ℕ) → 0 < c → a * u ≡ m * c → 0 < m → 0 < a
first_positive zero u m c C e M = absurd (positive_product m c M C (le_of_eq (sym e ∙ zero-mul u)))
first_positive (suc a) u m c C e M = omega arith

module _ (p q k n : ℕ) (e : ℤ) (m j : ℕ) (h : Sill p q k (n * up e) (down e) m (2 ^ j)) where
  a : ℕ
  a = n * up e

  right : (t : Float) → T (fits binary64 t) → le (fin false n e) t ≡ reaches_byte p q t k
  unfolding le lt eq reaches_byte
  right nan f = refl
  right (inf true) f = refl
  right (inf false) f = refl
  right (fin false l d) f =
      same_test (le (fin false n e) (fin false l d)) (leb (k ^ q * down d ^ p) (255 ^ q * (l * up d) ^ p))
      (λ (g : T (le (fin false n e) (fin false l d))).
      le→leb _ _ (from p q k (n * up e) (down e) m (2 ^ j) (l * up d) (down d) (down_pos e) (down_pos d) (pow_pos j) h.is
      (let x = le→cross (fin false n e) (fin false l d) tt tt g in omega (arith, x)) h.hits))
      (λ (g : T (leb (k ^ q * down d ^ p) (255 ^ q * (l * up d) ^ p))).
      cross→le (fin false n e) (fin false l d) tt tt
      (let x = to p q k (n * up e) (down e) m (2 ^ j) (l * up d) (down d) (down_pos e) (down_pos d) (pow_pos j) h.is
      (between j m l d h.high (digits false l d f)) h.misses (leb→le _ _ g) in omega (arith, x)))
  right (fin true l d) f =
      same_test (le (fin false n e) (fin true l d)) (leb (k ^ q * down d ^ p) (255 ^ q * 0 ^ p))
      (λ (g : T (le (fin false n e) (fin true l d))).
      let x = le→cross (fin false n e) (fin true l d) tt tt g in
      absurd (positive_product (n * up e) (down d) A (down_pos d) (omega (arith, x))))
      (λ (g : T (leb (k ^ q * down d ^ p) (255 ^ q * 0 ^ p))).
      let x = to p q k (n * up e) (down e) m (2 ^ j) 0 (down d) (down_pos e) (down_pos d) (pow_pos j) h.is
      (λ z. le_trans (le_of_eq (zero-mul (2 ^ j))) zero-le) h.misses (leb→le _ _ g) in
      absurd (positive_product (n * up e) (down d) A (down_pos d) (le_trans x (le_of_eq (zero-mul (down e))))))
    where
      A : 0 < n * up e
      A = first_positive (n * up e) (2 ^ j) m (down e) (down_pos e) h.is (let z = h.high in pos_of z)
        where
          pos_of : 2 ^ 52 < m → 0 < m
          pos_of z = lt_of_le_of_lt zero-le z

pub threshold-right : (p q k : ℕ) (x : Float) → T (stands p q k x) → Threshold p q k x
threshold-right p q k x t = record { right = go x _ _ t }
  where
    go : (x : Float) (m j : ℕ) → T (sill p q k x m j) → (y : Float) → T (fits binary64 y) → le x y ≡ reaches_byte p q y k
    go nan m j t y f = absurd t
    go (inf s) m j t y f = absurd t
    go (fin true n e) m j t y f = absurd t
    go (fin false n e) m j t y f = right p q k n e m j (says p q k n e m j t) y f

-- ---- all of them, in one test: each threshold stands, and the next one is in a later cell
abbrev unless : Bool → Bool → Bool
unless true b = true
unless false b = b

abbrev entry : ℕ → ℕ → List Float → ℕ → Float → Bool
entry p q xs k x = both (stands p q (suc k) x) (unless (leb 254 k) (ltb (cell_of x) (cell_of (get_or xs (suc k) nan))))

abbrev pub row : ℕ → ℕ → List Float → Bool
row p q xs = both (eqb (length xs) 255) (both (leb 1023 (cell_of (get_or xs 254 nan))) (every (entry p q xs) 0 xs))

abbrev pub all : List (List Float) → Bool
all xss = both (eqb (length xss) 3) (every (λ (g : ℕ) (xs : List Float). row (over g) (under g) xs) 0 xss)

row_right : (p q : ℕ) (xs : List Float) → T (row p q xs) → Row p q xs × Rising xs
row_right p q xs t =
    let n : length xs ≡ 255 = eqb→eq _ _ (both_left (eqb (length xs) 255) _ t) in
    let t1 = both_right (eqb (length xs) 255) _ t in
    let t2 = both_right (leb 1023 (cell_of (get_or xs 254 nan))) _ t1 in (
      record {
        sized = n;
        each = λ k i. threshold-right p q (suc k) (get_or xs k nan) (both_left (stands p q (suc k) (get_or xs k nan)) _ (at nan (entry p q xs) xs t2 k (omega arith)));
      },
      record {
        rising = λ k i.
            ltb→lt _ _ (subst (λ (z : Bool). T (unless z (ltb (cell_of (get_or xs k nan)) (cell_of (get_or xs (suc k) nan))))) (lt-leb 254 k i)
            (both_right (stands p q (suc k) (get_or xs k nan)) _ (at nan (entry p q xs) xs t2 k (omega arith))));
        last = leb→le _ _ (both_left (leb 1023 (cell_of (get_or xs 254 nan))) _ t1);
      },
    )

pub rows_right : (xss : List (List Float)) → T (all xss) → Rows xss
rows_right xss t =
    let f : ℕ → List Float → Bool = λ (g : ℕ) (xs : List Float). row (over g) (under g) xs in
    let n : length xss ≡ 3 = eqb→eq _ _ (both_left (eqb (length xss) 3) (every f 0 xss) t) in
    record { sized = n; each = λ g i. row_right (over g) (under g) (get_or xss g []) (at [] f xss (both_right (eqb (length xss) 3) (every f 0 xss) t) g (omega arith)) }
