-- `clahe::columns::column_positions` meets its contract. The invariant: the positions of the columns before c are written. Assumes nothing.
use Rattle.std.proofs.Common.{◌≡◌, length, arith, length-set}
use Rattle.clahe.specs.Paint.{column_of, no_column}
use Rattle.clahe.proofs.Cells.{kept_or_stored}
use Rattle.clahe.proofs.Positions.{among_of, column_made, all_columns}
use Rattle.clahe.proofs.columns.column_positions.Goals as goal

pub loop-c-init : goal.loop-c-init
loop-c-init c = (omega arith, omega arith, λ j h. absurd (omega arith))

pub column_at-requires : goal.column_at-requires
column_at-requires c = among_of c.tile_side-side.result c.loop-c.c _ c.tile_position-p.ensures

pub loop-c-preserved : goal.loop-c-preserved
loop-c-preserved c =
    let n = length c.args.columns.now in (
      simp length-set (omega arith),
      simp length-set (omega arith),
      kept_or_stored (λ j x. x ≡ column_of n j) no_column c.loop-c.columns c.loop-c.c _ (omega arith) c.loop-c.invariant.2
          (column_made n c.loop-c.c _ c.tile_position-p.result _ c.tile_side-side.ensures c.tile_position-p.ensures c.column_at.ensures),
    )

pub returns : goal.returns
returns c = all_columns (length c.args.columns.now) c.loop-c.columns (omega arith) (λ j h. c.loop-c.invariant.2 j (omega arith))
