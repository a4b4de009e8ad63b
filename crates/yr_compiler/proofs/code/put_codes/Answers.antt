use Rattle.std.proofs.Common.{List, [], ◌∷◌, ◌++◌, map, take, sym, subst}
use Rattle.yr_rules.specs.Rules.{PlainRule, rule_of, external_of}
use Rattle.yr_compiler.specs.declared.code_range.CodeRange.{CodeRange}
use Rattle.yr_compiler.proofs.LoopLemmas.{at_item, one_more}
use Rattle.yr_compiler.specs.Built.{HasKind, PutsCodes}
use Rattle.yr_compiler.proofs.CodeLemmas.{no_codes, code_put}
use Rattle.yr_compiler.proofs.code.put_codes.Goals as goal

pub loop-rule-init : goal.loop-rule-init
loop-rule-init c =
    let P : List CodeRange → Type 0 = λ codes. PutsCodes c.args.draft.now c.args.draft.now (map external_of c.args.externals.now) [] codes in
    subst P (sym c.new-codes.ensures.items) (no_codes c.args.draft.now (map external_of c.args.externals.now) c.requires.no_code)

pub loop-rule-preserved : goal.loop-rule-preserved
loop-rule-preserved c =
    let es = map external_of c.args.externals.now in
    let xs = c.args.rules.now in
    let k = c.loop-rule.rule-index in
    let x = c.rule-item.result in
    let range : CodeRange = record { first = c.in_ok-range.range.first; rows = c.in_ok-range.range.count } in
    let known : HasKind es (rule_of x) = at_item (HasKind es) rule_of xs k x c.loop-rule-test.true c.rule-item.is c.requires.kinds in
    let made = c.in_ok-range.ensures in
    let new = c.emit_rule.new.draft in
    let P : List PlainRule → Type 0 = λ rs. PutsCodes c.args.draft.now new es rs c.push.new.self.items in
    let Q : List CodeRange → Type 0 = λ cs. PutsCodes c.args.draft.now new es (map rule_of (take k xs) ++ rule_of x ∷ []) cs in
    subst P (sym (one_more rule_of xs k x c.loop-rule-test.true c.rule-item.is))
    (subst Q (sym c.in_ok-push.ensures.items)
    (code_put c.args.draft.now c.loop-rule.draft new es (map rule_of (take k xs)) c.loop-rule.codes.items (rule_of x) range known.kind known.bounds known.is known.fits made made.programs c.loop-rule.invariant))
