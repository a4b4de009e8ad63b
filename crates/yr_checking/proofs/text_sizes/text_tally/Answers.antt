use Rattle.std.proofs.Common.{◌*◌, subst}
use Rattle.std.specs.Prelude.{◌||◌, not, if◌then◌else◌}
use Rattle.yr_checking.specs.TextSizes.{IsTally, form_sum}
use Rattle.yr_checking.proofs.text_sizes.text_tally.Goals as goal

pub returns : goal.returns
returns c =
    let m = c.args.modifiers.now in let s = c.args.size in
    let plain = subst (λ b. IsTally c.form_where-plain.result (λ g. if b then form_sum g m s else 0)) c.has_plain_form.ensures c.form_where-plain.ensures in
    c.both.ensures (λ g. if m.ascii || not m.wide then form_sum g m s else 0) (λ g. if m.wide then form_sum g m (2 * s) else 0) plain c.form_where-wide.ensures
