-- `quicklook::colours::quicklook_compose` meets its contract. Assumes nothing.
use mathlib.Core.Path.{◌∙◌}
use Rattle.quicklook.proofs.Answers.{refused_list, same_list}
use Rattle.quicklook.proofs.Named.{named_call, unnamed_call}
use borrow.Author.Rules.{rules}
use Rattle.quicklook.proofs.colours.quicklook_compose.Goals as goal

pub returns-in_default : goal.returns-in_default
returns-in_default c = let r = refused_list _ _ _ _ (unnamed_call _ _ _ _ c.try_from.ensures _ c.in_default.is) in record {
  reply = r.0;
  colours = r.1;
}

pub returns-in_default-try_from : goal.returns-in_default-try_from
returns-in_default-try_from c =
    let r = refused_list _ _ _ _
    (named_call _ _ _ _ c.try_from.ensures _ c.in-Ok.is ∙ unnamed_call _ _ _ _ c.try_from-2.ensures _ c.in_default-try_from.is) in record {
      reply = r.0;
      colours = r.1;
    }

pub create_synthetic_rgb_by_mode_and_strategy-requires : goal.create_synthetic_rgb_by_mode_and_strategy-requires
create_synthetic_rgb_by_mode_and_strategy-requires c = search rules

pub returns : goal.returns
returns c =
    let c = same_list _ _ _ _ _ _ _
    (named_call _ _ _ _ c.try_from.ensures _ c.in-Ok.is
    ∙ named_call _ _ _ _ c.try_from-2.ensures _ c.in-Ok-try_from.is)
    c.reply_number.ensures c.create_synthetic_rgb_by_mode_and_strategy.ensures.result_value c.create_synthetic_rgb_by_mode_and_strategy.ensures.rgb_data_after in record {
      reply = c.0;
      colours = c.1;
    }
