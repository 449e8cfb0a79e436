-- `pipeline::synthetic_rgb_picture_copol` meets its contract: refused by number, or the greys and the colours. Assumes nothing.
use mathlib.Core.Path.{refl, ◌∙◌}
use native.Mathlib.Omega.{arith}
use Rattle.spec.specs.Answer.{reply_number}
use Rattle.spec.specs.Copol.{synthetic_rgb_picture_copol}
use Rattle.spec.specs.Picture.{picture_tests}
use Rattle.lists.proofs.Replies.{when_ok, when_err, passed_on, refusal-not_zero}
use Rattle.autoscale.specs.Painted.{opens}
use Rattle.pipeline.specs.declared.scene.Scene.{Scene}
use Rattle.pipeline.proofs.Accepted.{ready_in, few}
use Rattle.pipeline.proofs.Pictures.{first-refused, picture-refused, picture-opens, picture-done, kept-twice}
use Rattle.pipeline.proofs.synthetic_rgb_picture_copol.Goals as goal

pub returns-in_err-scene : goal.returns-in_err-scene
unfolding synthetic_rgb_picture_copol picture_tests reply_number
returns-in_err-scene c =
    let a = c.args in
    let e = c.in_err-scene in
    let r = first-refused a.choices.strategy a.choices.copol _ _ _ _ _ _ _ (when_err Scene _ _ e.ensures.reply) (refusal-not_zero _) _ _ _ _ in record {
      reply = rw (passed_on c.from_residual.result e.field-0.0 c.from_residual.ensures.1) r.0;
      grey1 = r.1.0;
      grey2 = r.1.1.0;
      rgb = r.1.1.1.0;
      work = r.1.1.1.1;
    }

pub returns-in_err-windows : goal.returns-in_err-windows
unfolding synthetic_rgb_picture_copol picture_tests reply_number
returns-in_err-windows c =
    let scene = c.in_ok-scene.scene in
    let e = c.in_err-windows in
    let r = picture-refused _ _ _ _ _ _ _ _ (when_ok scene _ c.in_ok-scene.ensures.reply) scene c.in_ok-scene.ensures.scene.0 _ e.ensures _ refl _ _ _ _ in record {
      reply = rw (passed_on c.from_residual-in_err-windows.result e.field-0.0 c.from_residual-in_err-windows.ensures.1) r.0;
      grey1 = r.1.0;
      grey2 = r.1.1.0;
      rgb = r.1.1.1.0;
      work = r.1.1.1.1;
    }

pub picture_greys-requires : goal.picture_greys-requires
unfolding opens
picture_greys-requires c =
    let scene = c.in_ok-scene.scene in
    let s = c.in_ok-scene.ensures.scene in
    let o = picture-opens _ _ _ _ _ _ _ _ (when_ok scene _ c.in_ok-scene.ensures.reply) scene s.0 _ c.in_ok-windows.ensures _ refl in record {
      fact_1 = ready_in _ _ _ _ _ s.0.0.2 s.1.first;
      fact_2 = search o.0;
    }

pub picture_greys-requires-2 : goal.picture_greys-requires-2
unfolding opens
picture_greys-requires-2 c =
    let scene = c.in_ok-scene.scene in
    let s = c.in_ok-scene.ensures.scene in
    let o = picture-opens _ _ _ _ _ _ _ _ (when_ok scene _ c.in_ok-scene.ensures.reply) scene s.0 _ c.in_ok-windows.ensures _ refl in record {
      fact_1 = ready_in _ _ _ _ _ s.0.1.2 (record { out_length = s.1.second.out_length; work_length = λ i. c.picture_greys.ensures.kept.size ∙ s.1.second.work_length i });
      fact_2 = search o.1;
    }

pub compose_by_mode_and_strategy-requires : goal.compose_by_mode_and_strategy-requires
compose_by_mode_and_strategy-requires c =
    let s = c.in_ok-scene.ensures.scene in
    omega (arith, c.picture_greys.auto.out, c.picture_greys-2.auto.out, s.1.first.out_length, s.1.second.out_length, s.1.rgb_length, few _ c.in_ok-scene.scene.first s.0.0.2)

pub returns : goal.returns
unfolding synthetic_rgb_picture_copol picture_tests reply_number
returns c =
    let scene = c.in_ok-scene.scene in
    let r = picture-done _ _ _ _ _ _ _ _ (when_ok scene _ c.in_ok-scene.ensures.reply) scene c.in_ok-scene.ensures.scene.0 _ c.in_ok-windows.ensures _ refl _ _ _ _ _ _ _ _
    c.picture_greys.ensures.out_after c.picture_greys-2.ensures.out_after c.compose_by_mode_and_strategy.ensures (kept-twice _ _ _ _ c.picture_greys.ensures.kept c.picture_greys-2.ensures.kept) in record {
      reply = r.0;
      grey1 = r.1.0;
      grey2 = r.1.1.0;
      rgb = r.1.1.1.0;
      work = r.1.1.1.1;
    }
