-- `quicklook::band::put_window` meets its contract. Assumes nothing.
use mathlib.Core.Path.{refl, sym, ap, ◌∙◌}
use Rattle.spec.specs.Window.{read_window}
use Rattle.quicklook.specs.Numbers.{blank_of, floats_of_window}
use Rattle.quicklook.proofs.Answers.{refused_numbers, done_numbers}
use Rattle.quicklook.proofs.band.put_window.Goals as goal

pub returns-in-Window : goal.returns-in-Window
unfolding read_window blank_of floats_of_window
returns-in-Window c =
    let r = done_numbers blank_of floats_of_window _ _ _ _ _ _ (sym c.autoscale_window.ensures ∙ ap read_window c.in-Window.is) refl refl in record {
      reply = r.0;
      blank = r.1.0;
      floats = r.1.1;
    }

pub returns-in-Refused : goal.returns-in-Refused
unfolding read_window
returns-in-Refused c =
    let r = refused_numbers blank_of floats_of_window _ _ _ _ (sym c.autoscale_window.ensures ∙ ap read_window c.in-Refused.is) in record {
      reply = r.0;
      blank = r.1.0;
      floats = r.1.1;
    }

pub returns-in-Blank : goal.returns-in-Blank
unfolding read_window blank_of floats_of_window
returns-in-Blank c =
    let r = done_numbers blank_of floats_of_window _ _ _ _ _ _ (sym c.autoscale_window.ensures ∙ ap read_window c.in-Blank.is) refl refl in record {
      reply = r.0;
      blank = r.1.0;
      floats = r.1.1;
    }
