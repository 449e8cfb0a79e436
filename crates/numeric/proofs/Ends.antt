-- Two floats of a format, each at most the other, are the same number. Assumes nothing.
use Rattle.std.proofs.Common.{◌≡◌, ℕ, zero, suc, ◌+◌, ◌-◌, ◌*◌, ◌/◌, ◌^◌, ◌<◌, ◌≤◌, Bool, true, false, cond, T, ℤ, pos, sym, ap, ◌∙◌, subst, subst₂, true≢false, le_of_eq, le_antisymm, mul_right_comm, arith}
use lib.Ieee.{Float, nan, inf, fin, Format, up, down, le, fits, to_bits, of_bits, low, size, top, hid, prec}
use lib.Ieee.Bits.{of_bits-to_bits}
use lib.Ieee.Fits.{down_pos, up_pos}
use lib.Ieee.Nearest.{div_same}
use lib.Ieee.Exact.{HasValue}
use lib.Ieee.Order.{transfer}
use Rattle.spec.specs.Number.{Alike, same, zeros}
use Rattle.numeric.proofs.Order.{none, le→cross, only_top, only_bottom}
use Rattle.numeric.proofs.Facts.{zero_exponent}

-- one size, one sign: one value
pub fin_unique : (f : Format) (s : Bool) (m : ℕ) (e : ℤ) (n : ℕ) (d : ℤ) → T (fits f (fin s m e)) → T (fits f (fin s n d)) → m * up e * down d ≡ n * up d * down e → fin s m e ≡ fin s n d
unfolding to_bits
fin_unique f s m e n d p q h =
    let units : m * up e * 2 ^ low f / down e ≡ n * up d * 2 ^ low f / down d
    = div_same (m * up e * 2 ^ low f) (down e) (n * up d * 2 ^ low f) (down d) (down_pos e) (down_pos d)
    (mul_right_comm (m * up e) (2 ^ low f) (down d) ∙ ap (λ (z : ℕ). z * 2 ^ low f) h ∙ mul_right_comm (n * up d) (down e) (2 ^ low f)) in
    let bits : to_bits f (fin s m e) ≡ to_bits f (fin s n d)
    = ap (λ (z : ℕ). cond s (top f) 0 + (size z - prec f) * hid f + z / 2 ^ (size z - prec f)) units in
    sym (of_bits-to_bits f (fin s m e) p) ∙ ap (of_bits f) bits ∙ of_bits-to_bits f (fin s n d) q

is_nil : (f : Format) (s : Bool) (m : ℕ) (e : ℤ) → m ≡ 0 → T (fits f (fin s m e)) → fin s m e ≡ fin s 0 (pos 0)
is_nil f s zero e h p = ap (λ (z : ℤ). fin s 0 z) (zero_exponent f s e p)
is_nil f s (suc m) e h p = absurd (omega (arith, h))

no_digits : (m : ℕ) (e : ℤ) (c : ℕ) → 0 < c → m * up e * c ≤ 0 → m ≡ 0
no_digits m e c C h = none m (up e) (up_pos e) (let k : m * up e ≡ 0 = none (m * up e) c C h in omega arith)

both_nil : (f : Format) (s t : Bool) (m : ℕ) (e : ℤ) (n : ℕ) (d : ℤ) → T (fits f (fin s m e)) → T (fits f (fin t n d)) →
    m * up e * down d ≤ 0 → n * up d * down e ≤ 0 → Alike (fin s m e) (fin t n d)
both_nil f s t m e n d p q a b =
    subst₂ Alike (sym (is_nil f s m e (no_digits m e (down d) (down_pos d) a) p)) (sym (is_nil f t n d (no_digits n d (down e) (down_pos e) b) q)) (zeros s t)

-- infinities included
pub le_antisym : (f : Format) (x y : Float) → T (fits f x) → T (fits f y) → T (le x y) → T (le y x) → Alike x y
unfolding le
le_antisym f nan y p q h k = absurd h
le_antisym f (inf true) y p q h k = subst (λ (z : Float). Alike (inf true) z) (sym (only_bottom y k)) same
le_antisym f (inf false) y p q h k = subst (λ (z : Float). Alike (inf false) z) (sym (only_top y h)) same
le_antisym f (fin s m e) nan p q h k = absurd k
le_antisym f (fin s m e) (inf true) p q h k = absurd h
le_antisym f (fin s m e) (inf false) p q h k = absurd k
le_antisym f (fin true m e) (fin true n d) p q h k =
    let c = le→cross (fin true m e) (fin true n d) tt tt h in
    let c' = le→cross (fin true n d) (fin true m e) tt tt k in
    subst (λ (z : Float). Alike (fin true m e) z) (fin_unique f true m e n d p q (omega arith)) same
le_antisym f (fin false m e) (fin false n d) p q h k =
    let c = le→cross (fin false m e) (fin false n d) tt tt h in
    let c' = le→cross (fin false n d) (fin false m e) tt tt k in
    subst (λ (z : Float). Alike (fin false m e) z) (fin_unique f false m e n d p q (omega arith)) same
le_antisym f (fin true m e) (fin false n d) p q h k =
    let c = le→cross (fin false n d) (fin true m e) tt tt k in
    both_nil f true false m e n d p q (omega arith) (omega arith)
le_antisym f (fin false m e) (fin true n d) p q h k =
    let c = le→cross (fin false m e) (fin true n d) tt tt h in
    both_nil f false true m e n d p q (omega arith) (omega arith)

-- two values of a format that are the same fraction, not below zero
pub value_unique : (f : Format) (x y : Float) (a c b d : ℕ) → 0 < c → 0 < d → T (fits f x) → T (fits f y) → HasValue x false a c → HasValue y false b d → a * d ≡ b * c → x ≡ y
value_unique f nan y a c b d C D p q h k e = absurd h
value_unique f (inf s) y a c b d C D p q h k e = absurd h
value_unique f (fin s m i) nan a c b d C D p q h k e = absurd k
value_unique f (fin s m i) (inf t) a c b d C D p q h k e = absurd k
value_unique f (fin true m i) (fin t n j) a c b d C D p q h k e = absurd (true≢false h.0)
value_unique f (fin false m i) (fin true n j) a c b d C D p q h k e = absurd (true≢false k.0)
value_unique f (fin false m i) (fin false n j) a c b d C D p q h k e =
    fin_unique f false m i n j p q
    (le_antisymm (transfer (m * up i) (n * up j) (down i) (down j) a b c d C D h.1 k.1 (le_of_eq e)) (transfer (n * up j) (m * up i) (down j) (down i) b a d c D C k.1 h.1 (le_of_eq (sym e))))
