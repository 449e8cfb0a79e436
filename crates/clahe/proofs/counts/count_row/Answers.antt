-- `clahe::counts::count_row` meets its contract. The invariant: the levels of the columns before c are kept; those of the other columns, added to the
-- counts so far, give the whole. Assumes nothing.
use Rattle.std.proofs.Common.{◌+◌, refl, sym, ap, ◌∙◌, subst, arith, length-set}
use Rattle.spec.specs.Clahe.{level_of}
use Rattle.lists.proofs.Counts.{added-most}
use Rattle.clahe.specs.Within.{InUnit}
use Rattle.clahe.proofs.Within.{normalized_within}
use Rattle.clahe.proofs.Levels.{left_end, left_on, left_off, kept_on, kept_off, kept_all}
use Rattle.clahe.proofs.counts.count_row.Goals as goal
use Rattle.clahe.proofs.counts.count_row.Goals.{then-valid_mask-c-eq0, else-valid_mask-c-eq0}

pub loop-c-init : goal.loop-c-init
loop-c-init g c = (omega arith, omega arith, (λ k. omega (arith, c.requires.few k)), refl, λ k h. absurd (omega arith))

pub level-b-requires : goal.level-b-requires
level-b-requires g c = λ t. subst InUnit (sym c.normalized-u.ensures) (normalized_within c.args.window.low c.args.window.high c.args.window.range _ (c.requires.plain t))

pub overflow_add-hist : goal.overflow_add-hist
overflow_add-hist g c = omega (arith, c.loop-c.invariant.2 c.from.result)

pub loop-c-preserved : goal.loop-c-preserved
loop-c-preserved g c =
    let a = c.args in
    let w = a.window in
    let band = a.band.now in
    let of = g.D.Depth.of in
    elim c.if-valid_mask-c-eq0.branch [
      | then-valid_mask-c-eq0 t ↦ rw (t.out-is, t.hist-is) (
        omega arith,
        simp length-set (omega arith),
        (λ k. omega (arith, c.loop-c.invariant.2 k)),
        c.loop-c.invariant.3 ∙ left_off w band c.loop-c.c c.loop-c.hist (omega arith) t.if-valid_mask-c-eq0.true,
        kept_off w band of c.loop-c.c c.loop-c.out (omega arith) (omega arith) c.loop-c.invariant.4 _ t.if-valid_mask-c-eq0.true t.black.ensures,
      )
      | else-valid_mask-c-eq0 t ↦
          let b = t.level-b.result in
          let e = t.level-b.ensures ∙ ap level_of t.normalized-u.ensures in
          rw (t.out-is, t.hist-is, t.from.ensures) (
            omega arith,
            simp length-set (omega arith),
            (λ k. omega (arith, added-most c.loop-c.hist b (λ j. 16777216 + c.loop-c.c) c.loop-c.invariant.2 k)),
            c.loop-c.invariant.3 ∙ left_on w band c.loop-c.c b c.loop-c.hist (omega arith) t.if-valid_mask-c-eq0.false e,
            kept_on w band of c.loop-c.c c.loop-c.out (omega arith) (omega arith) c.loop-c.invariant.4 _ b t.if-valid_mask-c-eq0.false e t.of_level.ensures,
          )
    ]

pub returns-clause-counts : goal.returns-clause-counts
returns-clause-counts g c =
    let a = c.args in
    sym (c.loop-c.invariant.3 ∙ left_end a.window a.band.now c.loop-c.c c.loop-c.hist (omega arith))

pub returns-clause-levels : goal.returns-clause-levels
returns-clause-levels g c =
    let a = c.args in
    kept_all a.window a.band.now g.D.Depth.of c.loop-c.c c.loop-c.out (omega arith) (omega arith) c.loop-c.invariant.4
