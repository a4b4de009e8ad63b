use Rattle.std.proofs.Common.{◌≡◌, List, length, map, take, Some, slice_get, sym, subst, ap, ◌∙◌, arith}
use Rattle.std.proofs.lemmas.List.{length-map, length-take-le}
use Rattle.yr_rules.specs.Rules.{PlainRule, rule_of}
use Rattle.yr_compiler.specs.Rules.{HasShortTexts}
use Rattle.yr_compiler.specs.Putting.{PutsRules}
use Rattle.yr_compiler.proofs.RuleLemmas.{no_rules}
use Rattle.yr_compiler.proofs.LoopLemmas.{at_item, one_more}
use Rattle.yr_compiler.proofs.rule.put_rules.Goals as goal

pub loop-k-init : goal.loop-k-init
loop-k-init c = record {
  done = no_rules c.args.draft.now c.args.codes.now c.requires.no_rules c.requires.no_notes;
  first = sym (ap length c.requires.no_notes);
}

pub put_rule-requires-clause-short : goal.put_rule-requires-clause-short
put_rule-requires-clause-short c = at_item HasShortTexts rule_of c.args.rules.now c.loop-k.k c.index-rules-k.result c.loop-k-test.true c.index-rules-k.is c.requires.short

pub loop-k-preserved : goal.loop-k-preserved
loop-k-preserved c =
    let xs = c.args.rules.now in
    let codes = c.args.codes.now in
    let k = c.loop-k.k in
    let x = c.index-rules-k.result in
    let code = c.code_at-code.result in
    let long = length-map (take k xs) rule_of in
    let taken = length-take-le k xs (omega (arith, c.loop-k-test.true)) in
    let at : length (map rule_of (take k xs)) ≡ k = omega (arith, long, taken) in
    let coded : slice_get codes (length (map rule_of (take k xs))) ≡ Some code =
    ap (λ n. slice_get codes n) at ∙ c.code_at-code.ensures in
    let P : List PlainRule → Type 0 = λ rs. PutsRules c.args.draft.now c.put_rule.new.draft rs codes in
    record {
      done = subst P (sym (one_more rule_of xs k x c.loop-k-test.true c.index-rules-k.is))
          (c.in_ok-first_note.ensures.rule c.args.draft.now (map rule_of (take k xs)) codes coded c.loop-k.invariant.done);
      first = c.in_ok-first_note.ensures.end;
    }
