-- A value is found by its cell: the thresholds in earlier cells are below it, those in later cells above, and at most one lies in its own. Assumes nothing.
use mathlib.Core.Path.{◌≡◌, refl, sym, ap, ◌∙◌, subst}
use mathlib.Core.Logic.{◌⊎◌, inl, inr}
use mathlib.Core.Bool.{false}
use mathlib.Core.List.{List}
use Prim.Native.Nat.{ℕ, suc, ◌+◌, ◌-◌, ◌≤◌, ◌<◌}
use native.Mathlib.Nat.{lt_of_le_of_lt, eq-or-lt_of_le}
use native.Mathlib.Omega.{arith}
use lib.Dec.{T, not_T}
use lib.Ieee.{Float, nan, inf, fin, binary64, fits, is_nan, le, lt, add, sub, mul, of_bits, to_unsigned, round}
use lib.Ieee.Bits.{is_false}
use lib.ListN.{length, get_or, set}
use lib.Seq.{get_or-set_same, get_or-set_other}
use Rattle.spec.specs.Floats.{zero64, clamp_float}
use Rattle.spec.specs.Value.{full16}
use Rattle.spec.specs.Gamma.{reaches_byte, gamma_value}
use Rattle.numeric.proofs.Order.{Number, le_left, le_total}
use Rattle.numeric.specs.Round.{big64, nearest_small}
use Rattle.numeric.proofs.Ops.{add-le, sub-le, mul-le}
use Rattle.numeric.proofs.Picks.{clamped_le, clamped_hi, to_unsigned-le}
use Rattle.numeric.proofs.Small.{clamp_float-small}
use Rattle.gamma.specs.Thresholds.{cell_of, Row, Rising, Guess, Nearly, Guesses, Rank}
use Rattle.gamma.proofs.Laws.{value_is}

-- 1023.0
abbrev last64 : Float
last64 = of_bits binary64 0x408f_f800_0000_0000

zero-last : T (le zero64 last64)
unfolding of_bits le
zero-last = tt

last_full : T (le last64 full16)
unfolding of_bits le
last_full = tt

pub cell_small : (x : Float) → T (le zero64 (clamp_float zero64 last64 x)) × T (le (clamp_float zero64 last64 x) full16)
cell_small x = clamp_float-small last64 x zero-last last_full

-- ---- cells rise with t
nearest_rises : (x y : Float) → T (le x y) → nearest_small x ≤ nearest_small y
unfolding nearest_small of_bits
nearest_rises x y h = to_unsigned-le 64 _ _ (sub-le binary64 big64 tt _ _ (add-le binary64 big64 tt x y h))

nearest-last : nearest_small last64 ≡ 1023
unfolding nearest_small add sub of_bits to_unsigned round
nearest-last = refl

pub cell_lt : (t : Float) → cell_of t < 1024
unfolding cell_of of_bits
cell_lt t =
    let h = nearest_rises _ last64 (clamped_hi (mul binary64 t (of_bits binary64 0x4090_0000_0000_0000)) zero64 last64 tt) in
    lt_of_le_of_lt h (omega (arith, nearest-last))

cell_rises : (x y : Float) → T (le x y) → cell_of x ≤ cell_of y
unfolding cell_of of_bits
cell_rises x y h = nearest_rises _ _ (clamped_le zero64 last64 _ _ tt tt (mul-le binary64 (of_bits binary64 0x4090_0000_0000_0000) tt x y h))

cell_nan : cell_of nan ≡ 0
unfolding cell_of nearest_small of_bits mul lt add sub to_unsigned round
cell_nan = refl

number_or_nan : (x : Float) → Number x ⊎ (x ≡ nan)
unfolding is_nan
number_or_nan nan = inr refl
number_or_nan (inf s) = inl tt
number_or_nan (fin s m e) = inl tt

-- what lies in an earlier cell is below
earlier : (x t : Float) → Number x → cell_of x < cell_of t → T (le x t)
earlier x t n h = elim (number_or_nan t) [
  | inl m ↦ elim (le_total x t n m) [ inl l ↦ l | inr l ↦ absurd (let c = cell_rises t x l in omega arith) ]
  | inr e ↦ absurd (let c : cell_of t ≡ 0 = ap cell_of e ∙ cell_nan in omega arith)
]

-- what lies in a later cell is above
later : (x t : Float) → cell_of t < cell_of x → le x t ≡ false
later x t h = is_false (le x t) (not_T (le x t) (λ (l : T (le x t)). let c = cell_rises x t l in omega arith))

module _ {xs : List Float} (rise : Rising xs) where
  -- ---- guesses
  pub guess_next : (c g : ℕ) → Nearly xs c g → c < 1024 → cell_of (get_or xs g nan) < c → Guess xs c (g + 1)
  guess_next c g n l h =
      let s : g < 254 = small g n.small h in
      let r = rise.rising g s in
      record {
        small = omega arith;
        before = λ z. subst (λ (j : ℕ). cell_of (get_or xs j nan) < c) (let e : g ≡ g + 1 - 1 = omega arith in e) h;
        after = subst (λ (j : ℕ). c ≤ cell_of (get_or xs j nan)) (let e : suc g ≡ g + 1 = omega arith in e) (let a = n.after in omega arith);
      }
    where
      small : (g : ℕ) → g ≤ 254 → cell_of (get_or xs g nan) < c → g < 254
      small g s h = elim (eq-or-lt_of_le s) [
        | inl e ↦ absurd (let a = rise.last in let b : cell_of (get_or xs 254 nan) < c = subst (λ (j : ℕ). cell_of (get_or xs j nan) < c) e h in omega arith)
        | inr l ↦ l
      ]

  -- ---- the byte
  pub rank_next : (t : Float) (g : ℕ) → Guess xs (cell_of t) g → T (le (get_or xs g nan) t) → Rank xs t (g + 1)
  rank_next t g u h =
      let s = u.small in
      record {
        within = omega arith;
        hits = λ z. subst (λ (j : ℕ). T (le (get_or xs j nan) t)) (let e : g ≡ g + 1 - 1 = omega arith in e) h;
        misses = λ z.
            let r = rise.rising g (omega arith) in
            let a = u.after in
            subst (λ (j : ℕ). le (get_or xs j nan) t ≡ false) (let e : suc g ≡ g + 1 = omega arith in e) (later (get_or xs (suc g) nan) t (omega arith));
      }

module _ {p q : ℕ} {xs : List Float} (row : Row p q xs) where
  -- a threshold is a number: it lies below plus infinity
  threshold-number : (k : ℕ) → k < 255 → Number (get_or xs k nan)
  unfolding reaches_byte fits
  threshold-number k h = le_left (get_or xs k nan) (inf false) (subst T (sym ((row.each k h).right (inf false) tt)) tt)

  pub rank_stay : (t : Float) (g : ℕ) → Guess xs (cell_of t) g → le (get_or xs g nan) t ≡ false → Rank xs t g
  rank_stay t g u h =
      let s = u.small in
      record {
        within = omega arith;
        hits = λ z. earlier (get_or xs (g - 1) nan) t (threshold-number (g - 1) (omega arith)) (u.before z);
        misses = λ z. h;
      }

  pub rank_value : (t : Float) (r : ℕ) → T (fits binary64 t) → Rank xs t r → r ≡ gamma_value p q t
  rank_value t r f k = sym (value_is p q t r k.within hits (λ z. sym ((row.each r z).right t f) ∙ k.misses z))
    where
      hits : 0 < r → T (reaches_byte p q t r)
      hits z =
          let w = k.within in
          subst (λ (j : ℕ). T (reaches_byte p q t j)) (let e : suc (r - 1) ≡ r = omega arith in e) (subst T ((row.each (r - 1) (omega arith)).right t f) (k.hits z))

pub nearly_next : {xs : List Float} (c g : ℕ) → Guess xs c g → Nearly xs (c + 1) g
nearly_next c g u =
    record {
      small = u.small;
      before = λ z. let b = u.before z in omega arith;
      after = let a = u.after in omega arith;
    }

-- a guess stored behind those before it
pub guess_stored : {xs : List Float} (gs : List ℕ) (c g : ℕ) → c < length gs → Guess xs c g → ((k : ℕ) → k < c → Guess xs k (get_or gs k 0)) → (k : ℕ) → k < c + 1 → Guess xs k (get_or (set gs c g) k 0)
guess_stored {xs} gs c g l u h k i = elim (eq-or-lt_of_le (let j : k ≤ c = omega arith in j)) [
  | inl e ↦ subst (λ (n : ℕ). Guess xs n (get_or (set gs c g) n 0)) (sym e) (rw (get_or-set_same gs c g 0 l) u)
  | inr j ↦ rw (get_or-set_other gs c k g 0 (λ e. omega arith)) (h k j)
]

-- the guess of a cell, as the code reads it
pub guess_at : {xs : List Float} {gs : List ℕ} {cell place g : ℕ} → Guesses xs gs → cell ≡ place → g ≡ get_or gs cell 0 → cell < 1024 → Guess xs place g
guess_at all is here small = rw (here, ← is) (all.each _ small)
