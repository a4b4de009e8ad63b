use Rattle.std.proofs.Common.{List, map, All, sym, subst, ap}
use Rattle.yr_rules.specs.Rules.{PlainExternal, PlainRule, rule_of, external_of, rules_of}
use Rattle.yr_image.specs.Image.{Image}
use Rattle.yr_compiler.specs.declared.code_range.CodeRange.{CodeRange}
use Rattle.yr_compiler.specs.Rules.{HasShortTexts}
use Rattle.yr_compiler.specs.Putting.{PutsExternals, PutsRules}
use Rattle.yr_splits.specs.Filling.{PutsStrings}
use Rattle.yr_compiler.specs.Built.{HasKind, PutsCodes}
use Rattle.yr_compiler.proofs.BuildLemmas.{built, have_kinds, short_texts}
use Rattle.yr_compiler.proofs.compiling.fill.Goals as goal

pub put_codes-requires-clause-kinds : goal.put_codes-requires-clause-kinds
put_codes-requires-clause-kinds c =
    let rules = rules_of c.args.rules.now in
    let P : List PlainExternal → Type 0 = λ es. All (HasKind es) (map rule_of c.rules.result.now) in
    let Q : List PlainRule → Type 0 = λ rs. All (HasKind rules.externals) rs in
    subst P (sym (ap (map external_of) c.externals-2.ensures.externals)) (subst Q (sym (ap (map rule_of) c.rules.ensures.rules)) (have_kinds rules c.rules.ensures.wellformed))

pub put_rules-requires-clause-short : goal.put_rules-requires-clause-short
put_rules-requires-clause-short c =
    let Q : List PlainRule → Type 0 = λ rs. All HasShortTexts rs in
    subst Q (sym (ap (map rule_of) c.rules-2.ensures.rules)) (short_texts (rules_of c.args.rules.now) c.rules-2.ensures.wellformed)

pub returns-clause-built : goal.returns-clause-built
returns-clause-built c =
    let rules = rules_of c.args.rules.now in
    let first = c.put_strings.new.draft in
    let second = c.put_externals.new.draft in
    let third = c.put_codes.new.draft in
    let last = c.put_rules.new.draft in
    let codes = c.in_ok-codes.codes.items in
    let P : Image → Type 0 = λ i. PutsStrings i first rules.strings in
    let Q : List PlainExternal → Type 0 = λ es. PutsExternals first second es in
    let R : List PlainExternal → Type 0 = λ es. PutsCodes second third es rules.rules codes in
    let S : List PlainRule → Type 0 = λ rs. PutsCodes second third (map external_of c.externals-2.result.now) rs codes in
    let T : List PlainRule → Type 0 = λ rs. PutsRules third last rs codes in
    let U : List CodeRange → Type 0 = λ cs. PutsRules third last (map rule_of c.rules-2.result.now) cs in
    let strings = subst P c.requires c.in_ok-put_strings.ensures in
    let externals = subst Q (ap (map external_of) c.externals.ensures.externals) c.in_ok-put_externals.ensures in
    let coded = subst R (ap (map external_of) c.externals-2.ensures.externals) (subst S (ap (map rule_of) c.rules.ensures.rules) c.in_ok-codes.ensures) in
    let listed = subst T (ap (map rule_of) c.rules-2.ensures.rules) (subst U c.deref.ensures.value c.in_ok-put_rules.ensures) in
    built rules first second third last codes strings externals coded listed
