-- Laws of the two compositions as one rule: order, bytes, blue by its place, and the definitions of document 01. Assumes nothing.
use mathlib.Core.Path.{◌≡◌, refl, ◌∙◌, fun_ext}
use mathlib.Core.Bool.{Bool, true, false, cond, ◌&&◌}
use mathlib.Core.List.{List}
use Prim.Native.Nat.{ℕ, zero, suc, ◌+◌, ◌-◌, ◌/◌, ◌%◌, ◌≤◌, ◌<◌}
use native.Mathlib.Nat.{le_trans, add-zero, mul-le-mul_left}
use native.Mathlib.Omega.{arith}
use borrow.Author.Tests.{eqb-false, leb-true}
use lib.Dec.{leb}
use lib.ListN.{length, get_or}
use Rattle.types.specs.declared.Rgb.{Rgb}
use Rattle.spec.specs.Colour.{red, green, blue, red_above, green_above, blue_above, plain, suppressed}
use Rattle.colour_tables.specs.Tables.{d_at, Rank, Thresholds}
use Rattle.colour_tables.proofs.Laws.{red_rises, red-above_rises, level-byte, green_positive, red-above-dark, green-above-dark}
use Rattle.synthetic_rgb.specs.declared.Composition.{Composition}
use Rattle.synthetic_rgb.specs.declared.Composition.TheVariants.{Plain, Suppressed}
use Rattle.synthetic_rgb.specs.Palette.{red_of, green_of, epsilon, scale_of, is_dark, ratio_of, blue_of, colour_at, Palette, Reached}

pub reds_rise : (kind : Composition) {v w : ℕ} → v ≤ w → red_of kind v ≤ red_of kind w
unfolding red_of
reds_rise Plain l = red_rises l
reds_rise (Suppressed f) l = red-above_rises f l

reds-byte : (kind : Composition) (v : ℕ) → red_of kind v ≤ 255
unfolding red_of red red_above
reds-byte Plain v = level-byte _ _ _
reds-byte (Suppressed f) v = level-byte _ _ _

greens-byte : (kind : Composition) (v : ℕ) → green_of kind v ≤ 255
unfolding green_of green green_above
greens-byte Plain v = level-byte _ _ _
greens-byte (Suppressed f) v = level-byte _ _ _

-- ---- places

-- a place reached by a ratio is reached by one with more red
pub reached_more : (t : List (List ℕ)) {r r' : ℕ} (g k : ℕ) → r ≤ r' → Reached t r g k → Reached t r' g k
reached_more t g k l h = record { within = h.within; reaches = λ p. le_trans (h.reaches p) (mul-le-mul_left (d_at t k) l) }

pub rank_reached : {t : List (List ℕ)} {r g k : ℕ} → Rank t r g k → Reached t r g k
rank_reached h = record { within = h.within; reaches = h.reaches }

-- place 0 counts as reached
pub reached-first : (t : List (List ℕ)) (r g : ℕ) → 1 ≤ length t → Reached t r g 0
reached-first t r g l = record { within = omega arith; reaches = λ p. absurd (omega arith) }

-- within a row, the pair before reaches the place
abbrev pub Placed : Composition → List (List ℕ) → ℕ → ℕ → Type 0
Placed kind t i place = 0 < i % 256 → Reached t (red_of kind (i % 256 - 1) + epsilon kind) (green_of kind (i / 256) + epsilon kind) place

-- a ratio has no zero below it where blue is asked for
lit_positive : (kind : Composition) (v1 v2 : ℕ) → is_dark kind v1 v2 ≡ false → 0 < green_of kind v2 + epsilon kind
unfolding green_of
lit_positive Plain v1 zero e = absurd (eqb-false 0 0 e refl)
lit_positive Plain v1 (suc v) e = let h : 0 < green (suc v) = green_positive (omega arith) in omega arith
lit_positive (Suppressed f) v1 v2 e = omega arith

-- the place of the ratio is the blue of a pixel that is not dark
pub blue_is : (kind : Composition) (t : List (List ℕ)) (v1 v2 k : ℕ) → Thresholds (scale_of kind) (epsilon kind) t →
    Rank t (red_of kind v1 + epsilon kind) (green_of kind v2 + epsilon kind) k → cond (is_dark kind v1 v2) 0 k ≡ blue_of kind v1 v2
unfolding blue_of ratio_of
blue_is kind t v1 v2 k h rank = pick (is_dark kind v1 v2) refl
  where
    pick : (b : Bool) → is_dark kind v1 v2 ≡ b → cond b 0 k ≡ cond b 0 (ratio_of kind (red_of kind v1) (green_of kind v2))
    pick true e = refl
    pick false e = h.right (red_of kind v1) (green_of kind v2) k (reds-byte kind v1) (greens-byte kind v2) (lit_positive kind v1 v2 e) rank

-- ---- colours

pub tint_is : (kind : Composition) (v1 v2 : ℕ) {r g b : ℕ} → r ≡ red_of kind v1 → g ≡ green_of kind v2 → b ≡ blue_of kind v1 v2 → ◌≡◌ {A = Rgb} (record { r = r; g = g; b = b }) (colour_at kind v1 v2)
unfolding colour_at
tint_is kind v1 v2 e f h = rw (e, f, h)

-- a pixel by the tables
pub colour_is : (kind : Composition) (red green : List ℕ) (t : List (List ℕ)) (v1 v2 k b : ℕ) → v1 < 256 → v2 < 256 → Palette kind red green t →
    Rank t (get_or red v1 0 + epsilon kind) (get_or green v2 0 + epsilon kind) k → b ≡ cond (is_dark kind v1 v2) 0 k →
    ◌≡◌ {A = Rgb} (record { r = get_or red v1 0; g = get_or green v2 0; b = b }) (colour_at kind v1 v2)
colour_is kind red green t v1 v2 k b h1 h2 p rank e =
    let er = p.reds.right v1 h1 in
    let eg = p.greens.right v2 h2 in
    tint_is kind v1 v2 er eg (e ∙ blue_is kind t v1 v2 k p.ratios (rw (er, eg) at rank))

-- the default colours
pub colour-plain : colour_at Plain ≡ plain
unfolding colour_at red_of green_of blue_of ratio_of scale_of plain blue
colour-plain = fun_ext (λ v1. fun_ext (λ v2. rw (add-zero (green v2), add-zero (red v1))))

-- the suppressed ones: where both bytes are at most f, red and green are 0 by their own rules
pub colour-suppressed : (f : ℕ) → f < 255 → colour_at (Suppressed f) ≡ suppressed f
unfolding colour_at red_of green_of blue_of ratio_of scale_of suppressed blue_above
colour-suppressed f h = fun_ext (λ v1. fun_ext (λ v2. pick v1 v2 (leb v1 f && leb v2 f) refl))
  where
    both : (a b : Bool) → a && b ≡ true → (a ≡ true) × (b ≡ true)
    both true b e = (refl, e)
    both false b e = absurd (let n : ◌≡◌ {A = ℕ} 0 1 = cc in omega arith)

    pick : (v1 v2 : ℕ) (t : Bool) → leb v1 f && leb v2 f ≡ t →
        ◌≡◌ {A = Rgb} (record { r = red_above f v1; g = green_above f v2; b = cond t 0 (blue_above (red_above f v1) (green_above f v2)) })
        (cond t (record { r = 0; g = 0; b = 0 }) (record { r = red_above f v1; g = green_above f v2; b = blue_above (red_above f v1) (green_above f v2) }))
    pick v1 v2 true e =
        let d = both (leb v1 f) (leb v2 f) e in
        rw (red-above-dark f v1 h (leb-true v1 f d.0), green-above-dark f v2 h (leb-true v2 f d.1))
    pick v1 v2 false e = refl
