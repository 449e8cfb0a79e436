-- `synthetic_rgb::palette::Palette::blue_cells` meets its contract: each cell before i has its blue, and within a row the place before is reached. Assumes nothing.
use mathlib.Core.Path.{◌≡◌, refl, ◌∙◌}
use mathlib.Core.Bool.{cond}
use mathlib.Core.List.{List}
use Prim.Native.Nat.{ℕ, zero, suc, ◌+◌, ◌*◌, ◌-◌, ◌/◌, ◌%◌, ◌≤◌}
use native.Mathlib.Omega.{arith}
use borrow.Author.Tests.{ne_eqb}
use lib.Dec.{eqb}
use lib.ListN.{length, length-set}
use Rattle.lists.proofs.Stored.{stored}
use Rattle.colour_tables.specs.Tables.{Rank}
use Rattle.synthetic_rgb.specs.declared.Composition.{Composition}
use Rattle.synthetic_rgb.specs.Palette.{red_of, green_of, blue_of, epsilon, Reached}
use Rattle.synthetic_rgb.proofs.Rules.{Placed, reds_rise, reached_more, rank_reached, reached-first, blue_is}
use Rattle.synthetic_rgb.proofs.palette.Palette.blue_cells.Goals as goal

-- so does the pair itself, or place 0
started : (kind : Composition) (t : List (List ℕ)) (i place : ℕ) → 1 ≤ length t → Placed kind t i place → (v : ℕ) → v ≡ i % 256 →
    Reached t (red_of kind (i % 256) + epsilon kind) (green_of kind (i / 256) + epsilon kind) (cond (eqb v 0) 0 place)
started kind t i place l h zero e = reached-first t _ _ l
started kind t i place l h (suc v) e =
    let m : red_of kind (i % 256 - 1) ≤ red_of kind (i % 256) = reds_rise kind (omega arith) in
    rw (ne_eqb (suc v) 0 (λ q. omega arith)) (reached_more t _ _ (omega arith) (h (omega arith)))

pub place_from-place-requires : goal.place_from-place-requires
place_from-place-requires c =
    let l = c.loop-i in
    let p = c.args.self.now in
    let r = p.fits.reds.right (l.i % 256) (omega arith) in
    let g = p.fits.greens.right (l.i / 256) (omega arith) in
    rw (r, g, c.start-from.ensures) (started p.kind p.tables.thresholds.now l.i l.place p.fits.ratios.least l.invariant.2 (l.i % 256) refl)

pub loop-i-preserved : goal.loop-i-preserved
loop-i-preserved c =
    let l = c.loop-i in
    let p = c.args.self.now in
    let k = p.kind in
    let t = p.tables.thresholds.now in
    let r = p.fits.reds.right (l.i % 256) (omega arith) in
    let g = p.fits.greens.right (l.i / 256) (omega arith) in
    let rank : Rank t (red_of k (l.i % 256) + epsilon k) (green_of k (l.i / 256) + epsilon k) c.place_from-place.result = rw (r, g) at c.place_from-place.ensures in (
      omega arith,
      length-set l.cells l.i _ ∙ l.invariant.1,
      λ h.
          let e1 : (l.i + 1) % 256 - 1 ≡ l.i % 256 = omega arith in
          let e2 : (l.i + 1) / 256 ≡ l.i / 256 = omega arith in
          rw (e1, e2) (rank_reached rank),
      stored (λ (j : ℕ) (b : ℕ). b ≡ blue_of k (j % 256) (j / 256)) l.cells l.i c.blue_at.result (omega arith) l.invariant.3
          (c.blue_at.ensures ∙ blue_is k t (l.i % 256) (l.i / 256) c.place_from-place.result p.fits.ratios rank),
    )

pub returns : goal.returns
returns c =
    let l = c.loop-i in
    record {
      sized = l.invariant.1;
      right = λ v1 v2 h1 h2.
          let e1 : (256 * v2 + v1) % 256 ≡ v1 = omega arith in
          let e2 : (256 * v2 + v1) / 256 ≡ v2 = omega arith in
          rw (e1, e2) at (l.invariant.3 (256 * v2 + v1) (omega arith));
    }
