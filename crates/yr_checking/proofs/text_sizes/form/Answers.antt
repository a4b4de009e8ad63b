use Rattle.std.proofs.Common.{◌+◌, true, false, subst}
use Rattle.std.specs.Prelude.{is_some}
use Rattle.yr_checking.specs.TextSizes.{IsTally, encodings_sum, literals_sum}
use Rattle.yr_checking.proofs.text_sizes.form.Goals as goal

pub returns : goal.returns
returns c =
    let m = c.args.modifiers.now in let s = c.args.size in
    let encoded = subst (λ b. IsTally c.encodings-encoded.result (λ g. encodings_sum g b false s)) c.is_some.ensures c.encodings-encoded.ensures in
    let encoded_wide = subst (λ b. IsTally c.encodings-encoded_wide.result (λ g. encodings_sum g b true s)) c.is_some-2.ensures c.encodings-encoded_wide.ensures in
    let plain = c.both-plain.ensures (λ g. literals_sum g m s) (λ g. encodings_sum g (is_some m.base64) false s) c.literals.ensures encoded in
    c.both.ensures (λ g. literals_sum g m s + encodings_sum g (is_some m.base64) false s) (λ g. encodings_sum g (is_some m.base64wide) true s) plain encoded_wide
