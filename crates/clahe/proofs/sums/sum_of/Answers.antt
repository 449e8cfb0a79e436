-- `clahe::sums::sum_of` meets its contract: 256 counts of 32 bits each. Assumes nothing.
use Rattle.std.proofs.Common.{◌≡◌, ◌<◌, sum, length, ◌∙◌, arith, rules}
use Rattle.std.proofs.iter.runs.Sources.{sums}
use Rattle.clahe.proofs.Totals.{sum_is, sum_most}
use Rattle.clahe.proofs.sums.sum_of.Goals as goal

pub sum-requires-clause-fits : goal.sum-requires-clause-fits
sum-requires-clause-fits c = let short : length c.args.hist.now < 257 = omega arith in search (rules, sums)

pub returns : goal.returns
returns c =
    let hs = c.args.hist.now in
    let e : c.sum.result ≡ sum hs = search rules in (e ∙ sum_is hs, omega (arith, e, sum_most hs c.fits-hist))
