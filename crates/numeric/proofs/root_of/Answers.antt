-- `numeric::root_of` meets its contract: the digits are moved up by the leading zeros, and the result is written by its pattern. Assumes nothing.
use Rattle.std.proofs.Common.{◌≡◌, ℕ, ◌*◌, ◌%◌, ◌^◌, ◌<◌, sym, ap, ◌∙◌, subst, lt_of_lt_of_le, mod-eq_of_lt, arith, lit≤}
use lib.Count.{leading_le}
use Rattle.spec.specs.Root.{whole_root}
use Rattle.numeric.proofs.Rooted.{Lead, lead, placed, placed-lt, root_lt, rooted}
use Rattle.numeric.proofs.root_of.Goals as goal

-- no digit is shifted out
whole : (q k u : ℕ) → Lead q u → placed q k u % 2 ^ 64 ≡ placed q k u
whole q k u l = mod-eq_of_lt (lt_of_lt_of_le (placed-lt q k u l) (lit≤ tt))

pub overflow_cast-up : goal.overflow_cast-up
overflow_cast-up c = record { fits = omega (arith, leading_le 64 c.args.q) }

pub overflow_sub-up : goal.overflow_sub-up
overflow_sub-up c = omega (arith, (lead c.args.q c.requires.fact_1 c.requires.fact_2).zeros)

pub overflow_add-odd : goal.overflow_add-odd
overflow_add-odd c = record { fits = omega (arith, (lead c.args.q c.requires.fact_1 c.requires.fact_2).up_le, c.requires.fact_3) }

pub overflow_add-up : goal.overflow_add-up
overflow_add-up c = record { fits = omega (arith, (lead c.args.q c.requires.fact_1 c.requires.fact_2).up_le) }

pub overflow_shl-q : goal.overflow_shl-q
overflow_shl-q c = omega (arith, (lead c.args.q c.requires.fact_1 c.requires.fact_2).up_le)

pub whole_root-root-requires : goal.whole_root-root-requires
whole_root-root-requires c =
    let q = c.args.q in
    let l = lead q c.requires.fact_1 c.requires.fact_2 in
    subst (λ (z : ℕ). z < 2 ^ 54) (sym (whole q c.args.k _ l)) (placed-lt q c.args.k _ l)

pub overflow_sub-k : goal.overflow_sub-k
overflow_sub-k c = omega (arith, (lead c.args.q c.requires.fact_1 c.requires.fact_2).up_le)

pub overflow_sub-k-2 : goal.overflow_sub-k-2
overflow_sub-k-2 c = omega (arith, (lead c.args.q c.requires.fact_1 c.requires.fact_2).up_le)

pub overflow_add-root : goal.overflow_add-root
overflow_add-root c =
    let l = lead c.args.q c.requires.fact_1 c.requires.fact_2 in
    record { fits = omega (arith, root_lt c.args.q c.args.k _ l c.whole_root-root.result (c.whole_root-root.ensures ∙ ap (λ (z : ℕ). whole_root (z * 2 ^ 54) 54 0) (whole c.args.q c.args.k _ l))) }

pub returns : goal.returns
returns c =
    let q = c.args.q in
    let l = lead q c.requires.fact_1 c.requires.fact_2 in
    c.of_bits.ensures
    ∙ rooted q c.args.k _ l c.requires.fact_3 c.whole_root-root.result (c.whole_root-root.ensures ∙ ap (λ (z : ℕ). whole_root (z * 2 ^ 54) 54 0) (whole q c.args.k _ l))
