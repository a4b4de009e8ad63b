use Rattle.std.proofs.Common.{◌≡◌, ◌++◌, ◌∷◌, [], ◌+◌, ◌-◌, ◌≤◌, false, map, sym, ap, ◌∙◌, arith, append_assoc}
use Rattle.std.specs.List.{range_with_len}
use Rattle.yr_pattern.specs.Variants.{variant_of}
use Rattle.yr_text.specs.Forms.{form_of}
use Rattle.yr_text.specs.Variants.{literal, keyed}
use Rattle.yr_text.proofs.RangeLemmas.{map-range}
use Rattle.yr_text.proofs.adding.push_keys.Goals as goal

pub loop-key-preserved : goal.loop-key-preserved
loop-key-preserved c =
    let from_low : c.args.low ≤ c.loop-key.key = omega (arith, c.loop-key.auto.key) in
    record {
      within = omega (arith, c.loop-key.invariant.within, c.loop-key-test.true);
      so_far =
          c.in_ok-push_literal.ensures
          ∙ ap (λ b. map variant_of c.loop-key.all.items ++ literal b c.loop-key.key false c.args.form.now.border ∷ []) (c.in_ok-bytes.ensures ∙ c.deref.ensures.value)
          ∙ ap (λ l. l ++ keyed (form_of c.args.form.now) c.loop-key.key ∷ []) c.loop-key.invariant.so_far
          ∙ append_assoc (map variant_of c.args.all.now.items) (map (keyed (form_of c.args.form.now)) (range_with_len c.args.low (c.loop-key.key - c.args.low))) (keyed (form_of c.args.form.now) c.loop-key.key ∷ [])
          ∙ ap (λ l. map variant_of c.args.all.now.items ++ l) (sym (map-range (keyed (form_of c.args.form.now)) c.args.low c.loop-key.key from_low));
    }

pub returns : goal.returns
returns c =
    let whole : c.loop-key.key - c.args.low ≡ c.args.high + 1 - c.args.low = omega (arith, c.loop-key.invariant.within, c.loop-key-test.false) in
    c.loop-key.invariant.so_far
    ∙ ap (λ n. map variant_of c.args.all.now.items ++ map (keyed (form_of c.args.form.now)) (range_with_len c.args.low n)) whole
