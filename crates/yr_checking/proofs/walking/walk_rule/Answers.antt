use Rattle.std.proofs.Common.{◌≡◌, length, map, take, refl, ap, ◌∙◌, subst, arith}
use Rattle.std.specs.List.{slice_index_or}
use Rattle.std.proofs.lemmas.Option.{slice_get_read}
use Rattle.yr_syntax.specs.Declaration as declaration
use Rattle.yr_syntax.specs.Forms.{DeclarationHasForms}
use Rattle.yr_checking.specs.Placed.{item_at}
use Rattle.yr_checking.specs.declared.items.Placed.{Placed}
use Rattle.yr_checking.specs.Walked.{given_in}
use Rattle.yr_checking.proofs.WalkedLemmas.{at-hand-is, each-get, explains-rule, item-there, rule-kept, shown-here, strings-before}
use Rattle.yr_checking.proofs.walking.walk_rule.Goals as goal

pub judge-requires-clause-at : goal.judge-requires-clause-at
judge-requires-clause-at c =
    let s = c.args.setting.now in
    let mid = c.open_space.new.spaces.items in
    let k = c.in_ok-number.number in
    let read = slice_get_read mid (length mid) k c.index.result.now refl c.in_ok-number.ensures.within c.index.ensures in
    at-hand-is _ c.requires.setting.names
    (shown-here (given_in s) (take c.args.place (map item_at s.items.now)) c.args.walk.now mid (slice_index_or s.items.now c.args.place c.index-setting-place.result).namespace.now k c.index.result.now c.requires.walked
    c.in_ok-number.ensures.same c.in_ok-number.ensures.first read)

pub judge-requires-clause-before : goal.judge-requires-clause-before
judge-requires-clause-before c =
    let s = c.args.setting.now in
    let w = c.requires.walked in
    record {
      rules = c.len.ensures ∙ c.args.walk.now.rules.ok.0 ∙ w.counted;
      strings = c.len-2.ensures ∙ c.args.walk.now.strings.ok.0 ∙ strings-before (given_in s) (take c.args.place (map item_at s.items.now)) c.args.walk.now w;
      weight = w.weight;
      few_rules = omega (arith, w.few_rules, c.len.ensures, c.args.walk.now.rules.ok.0);
      few_strings = omega (arith, w.few_strings, c.len-2.ensures, c.args.walk.now.strings.ok.0);
    }

pub judge-requires-clause-forms : goal.judge-requires-clause-forms
judge-requires-clause-forms c =
    let items = c.args.setting.now.items.now in
    let x = slice_index_or items c.args.place c.index-setting-place.result in
    let is : x ≡ slice_index_or items c.args.place x = ap (slice_index_or items c.args.place) c.index-setting-place.is in
    let read = slice_get_read items (length items) c.args.place x refl c.requires.place is in
    subst DeclarationHasForms (c.requires.here x read)
    (each-get (λ (p : Placed). DeclarationHasForms (declaration.declaration_of p.decl.now)) items c.args.place x c.requires.setting.forms read)

pub returns-in-Err-clause-refused : goal.returns-in-Err-clause-refused
returns-in-Err-clause-refused c =
    let s = c.args.setting.now in
    let x = slice_index_or s.items.now c.args.place c.index-setting-place.result in
    let is : x ≡ slice_index_or s.items.now c.args.place x = ap (slice_index_or s.items.now c.args.place) c.index-setting-place.is in
    let there = item-there s.items.now c.args.place x (declaration.Rule (declaration.rule_of c.args.rule.now)) c.requires.place is c.requires.here in
    explains-rule (given_in s) (map item_at s.items.now) c.args.place x.unit x.namespace.now (declaration.rule_of c.args.rule.now) c.args.walk.now c.in-Err.fault there c.requires.walked
    c.in-Err.ensures.refused

pub returns-in_ok-keep-in-Ok-clause-walked : goal.returns-in_ok-keep-in-Ok-clause-walked
returns-in_ok-keep-in-Ok-clause-walked c =
    let s = c.args.setting.now in
    let x = slice_index_or s.items.now c.args.place c.index-setting-place.result in
    let is : x ≡ slice_index_or s.items.now c.args.place x = ap (slice_index_or s.items.now c.args.place) c.index-setting-place.is in
    let there = item-there s.items.now c.args.place x (declaration.Rule (declaration.rule_of c.args.rule.now)) c.requires.place is c.requires.here in
    let mid = c.open_space.new.spaces.items in
    let k = c.in_ok-number.number in
    let read = slice_get_read mid (length mid) k c.index.result.now refl c.in_ok-number.ensures.within c.index.ensures in
    let kept = c.in_ok-keep-in-Ok.ensures in
    let own = kept.spaces c.index.result.now read in
    rule-kept (given_in s) (map item_at s.items.now) c.args.place x.unit x.namespace.now (declaration.rule_of c.args.rule.now) c.args.walk.now c.keep.new.walk c.in-Ok.made mid k c.index.result.now own.0
    there c.requires.walked c.in-Ok.ensures.made c.in-Ok.ensures.passed c.in_ok-number.ensures.same c.in_ok-number.ensures.first read own.2 own.3 own.1 kept.rules kept.strings kept.weight
