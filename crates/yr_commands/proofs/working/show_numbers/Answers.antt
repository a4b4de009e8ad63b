use Rattle.std.proofs.Common.{◌≡◌, ◌++◌, List, length, map, sym, ap, subst, ◌∙◌}
use Rattle.std.specs.List.{count_by}
use Rattle.std.proofs.lemmas.List.{length-map}
use Rattle.yr_answer.specs.Truths.{truths_shown}
use Rattle.yr_preserves.specs.Preserves.{externals_in, HaveKindsOf}
use Rattle.yr_preserves.specs.Shape.{IsCompiled}
use Rattle.yr_compiler.specs.Finds.{FindsSame}
use Rattle.yr_rules.specs.Rules.{rules_of, rule_of, string_of}
use Rattle.yr_scan.specs.Scanned.{module_values}
use Rattle.yr_outcome.specs.Fits.{seen}
use Rattle.yr_outcome.specs.Outcome.{Free, shown}
use Rattle.yr_outcome.specs.Steps.{FitsAnswer}
use Rattle.yr_commands.specs.Program.{all_setting}
use Rattle.yr_commands.proofs.WorkLemmas.{lists-count, numbers-same}
use Rattle.yr_commands.proofs.working.show_numbers.Goals as goal

pub count_matches-matches-requires : goal.count_matches-matches-requires
count_matches-matches-requires g c =
    let rules = rules_of c.args.rules.now in
    let bytes = c.deref.result.now in
    let compiled = subst (λ bytes. IsCompiled module_values bytes rules) (sym c.deref.ensures.value) c.in-Ok.ensures.compiled in
    let finds = subst (λ bytes. FindsSame module_values bytes rules) (sym c.deref.ensures.value) c.in-Ok.ensures.finds in
    ap length c.strings.ensures.strings ∙ sym (length-map c.args.rules.now.strings string_of)
    ∙ sym (lists-count bytes c.args.file.now rules compiled finds c.in-Ok-scan_own.ensures.target c.in-Ok-scan_own.ensures.kinds c.in-Ok-scan_own.scan.matches.lists _ _ c.in-Ok-scan_own.ensures.scan)

pub returns-clause-fits : goal.returns-clause-fits
returns-clause-fits g c = λ files told is trace.
    let rules = rules_of c.args.rules.now in
    let bytes = c.deref.result.now in
    let compiled = subst (λ bytes. IsCompiled module_values bytes rules) (sym c.deref.ensures.value) c.in-Ok.ensures.compiled in
    let finds = subst (λ bytes. FindsSame module_values bytes rules) (sym c.deref.ensures.value) c.in-Ok.ensures.finds in
    subst (λ text. FitsAnswer all_setting (λ found. shown files text Free) c.answer_of.result (seen told trace (g.O.Sink.written c.args.out.now)) (seen told trace (g.O.Sink.written c.put_lines-put.new.out)))
    (numbers-same bytes c.args.file.now rules compiled finds c.in-Ok-scan_own.ensures.target c.in-Ok-scan_own.ensures.kinds c.in-Ok-scan_own.scan.matches.lists _ _ c.in-Ok-scan_own.ensures.scan
    (length c.rules.result.now) (length c.args.file.now) c.count_yes-satisfied.result c.count_matches-matches.result
    (ap length c.rules.ensures.rules ∙ sym (length-map c.args.rules.now.rules rule_of)) (λ i. length c.args.file.now)
    (c.count_yes-satisfied.ensures ∙ ap (λ truths. count_by (λ truth. truth) (truths_shown truths)) c.deref-2.ensures.value) c.count_matches-matches.ensures)
    (c.answer_of.ensures.fits files told is trace _ _ _ _ _ c.put_lines-put.ensures.puts)
