-- `clahe::paint::part_shades` meets its contract. The invariant: the columns before c have their values, the others their levels. Assumes nothing.
use Rattle.std.proofs.Common.{rules, ◌<◌, length, ap, ◌∙◌, arith}
use Rattle.std.proofs.lemmas.List.{get_or_default}
use Rattle.spec.specs.Gamma.{full_of}
use Rattle.clahe.proofs.InPlace.{turned_none, turned_next}
use Rattle.clahe.proofs.Shades.{turn, turned_off, turned_on, part_turned}
use Rattle.clahe.proofs.paint.part_shades.Goals as goal
use Rattle.clahe.proofs.paint.part_shades.Goals.{then-valid_mask-c-eq0, else-valid_mask-c-eq0}

pub loop-c-init : goal.loop-c-init
loop-c-init g c =
    let a = c.args in
    (omega arith, turned_none (g.D.Depth.of 0) (turn (full_of g.D.Depth.depth) a.row.now g.D.Depth.of g.D.Depth.level a.valid_mask.now a.columns.now a.out.now) a.out.now)

pub offset_bounds-columns-c : goal.offset_bounds-columns-c
offset_bounds-columns-c g c = let b : c.loop-c.c < length c.args.columns.now = omega (arith, c.requires.sized) in search rules

pub shade-requires : goal.shade-requires
shade-requires g c =
    let l : c.loop-c.c < length c.args.columns.now = omega (arith, c.requires.sized) in record {
      among = c.requires.among c.loop-c.c l;
      within = λ t. c.requires.within t c.loop-c.c l;
    }

pub loop-c-preserved : goal.loop-c-preserved
loop-c-preserved g c =
    let a = c.args in
    let full = full_of g.D.Depth.depth in
    let of = g.D.Depth.of in
    let number = g.D.Depth.level in
    let marks = a.valid_mask.now in
    let columns = a.columns.now in
    let old = a.out.now in
    let put = turned_next (of 0) (turn full a.row.now of number marks columns old) old c.loop-c.c c.loop-c.out in
    elim c.if-valid_mask-c-eq0.branch [
      | then-valid_mask-c-eq0 w ↦ rw w.value-is (
        omega arith,
        put _ c.loop-c.invariant.1 (omega arith) (turned_off full a.row.now of number marks columns old c.loop-c.c _ _ w.if-valid_mask-c-eq0.true w.black.ensures),
      )
      | else-valid_mask-c-eq0 w ↦ rw w.value-is (
        omega arith,
        put _ c.loop-c.invariant.1 (omega arith) (turned_on full a.row.now of number marks columns old c.loop-c.c _ _ _ w.if-valid_mask-c-eq0.false
            (w.level.ensures ∙ ap number (get_or_default c.loop-c.out c.loop-c.c _ (of 0) (omega arith))) w.shade.ensures),
      )
    ]

pub returns : goal.returns
returns g c =
    let a = c.args in
    part_turned (full_of g.D.Depth.depth) a.row.now g.D.Depth.of g.D.Depth.level a.valid_mask.now a.columns.now a.out.now c.loop-c.c c.loop-c.out (omega arith) c.loop-c.invariant.1
