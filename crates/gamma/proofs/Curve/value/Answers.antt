-- `gamma::Curve::value` meets its contract. Assumes nothing.
use Rattle.gamma.proofs.Laws.{holds}
use Rattle.gamma.proofs.Cells.{guess_at, rank_next, rank_stay, rank_value}
use Rattle.gamma.proofs.Curve.value.Goals as goal

pub returns-then-self-from : goal.returns-then-self-from
returns-then-self-from c p q row =
    let s = c.args.self.now in
    let t = c.args.t in
    let u = guess_at s.guessed c.cell_of.ensures.fact_1 c.from.ensures c.cell_of.ensures.fact_2 in
    rw (← c.from.ensures) (rank_value row t _ (holds c.well_formed.1.0.1) (rank_next s.rising t _ u (holds c.if-self-from.true)))

pub returns-else-self-from : goal.returns-else-self-from
returns-else-self-from c p q row =
    let s = c.args.self.now in
    let t = c.args.t in
    let u = guess_at s.guessed c.cell_of.ensures.fact_1 c.from.ensures c.cell_of.ensures.fact_2 in
    rw (← c.from.ensures) (rank_value row t _ (holds c.well_formed.1.0.1) (rank_stay row t _ u c.if-self-from.false))
