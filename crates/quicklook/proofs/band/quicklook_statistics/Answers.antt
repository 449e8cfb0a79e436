-- `quicklook::band::quicklook_statistics` meets its contract. Assumes nothing.
use mathlib.Core.Path.{sym, ap, ◌∙◌}
use Rattle.spec.specs.Answer.{read}
use Rattle.quicklook.specs.Numbers.{whole_of, floats_of}
use Rattle.quicklook.proofs.Answers.{refused_two, done_two}
use Rattle.quicklook.proofs.band.quicklook_statistics.Goals as goal

pub returns-in-Ok : goal.returns-in-Ok
unfolding read
returns-in-Ok c =
    let r = done_two whole_of floats_of _ _ _ _ _ _ (sym c.compute_histogram_stats.ensures ∙ ap read c.in-Ok.is) c.put_statistics.ensures in record {
      reply = r.0;
      whole = r.1.0;
      floats = r.1.1;
    }

pub returns-in-Err : goal.returns-in-Err
unfolding read
returns-in-Err c =
    let r = refused_two whole_of floats_of _ _ _ _ (sym c.compute_histogram_stats.ensures ∙ ap read c.in-Err.is) in record {
      reply = c.from.ensures ∙ r.0;
      whole = r.1.0;
      floats = r.1.1;
    }
