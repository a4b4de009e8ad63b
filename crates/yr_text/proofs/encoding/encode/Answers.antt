use Rattle.std.proofs.Common.{◌++◌, sym, ap, ◌∙◌}
use Rattle.yr_text.specs.Encoding.{group_letter}
use Rattle.yr_text.proofs.RangeLemmas.{flat_map-range}
use Rattle.yr_text.proofs.encoding.encode.Goals as goal

pub loop-k-preserved : goal.loop-k-preserved
loop-k-preserved c =
    let letter = group_letter c.args.alphabet.now c.args.bytes.now c.args.p in
    c.in_ok-push_letter.ensures ∙ ap (λ l. l ++ letter c.loop-k.k) c.loop-k.invariant ∙ sym (flat_map-range letter c.loop-k.k)
