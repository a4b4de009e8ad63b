use Rattle.std.proofs.Common.{◌≡◌, List, map, Result, Ok, Err, MatchResult, sym, ap, subst, ◌∙◌}
use Rattle.std.proofs.lemmas.Result.{err_from_is_err_and}
use Rattle.yr_rules.specs.Rules.{rules_of}
use Rattle.yr_checks.specs.declared.unit.Unit.{Unit}
use Rattle.yr_checks.specs.Sources.{UnitTree, unit_of}
use Rattle.yr_words.specs.Shown.{given_shown}
use Rattle.yr_outcome.specs.Front.{Refusal, unit_trees, with_trees}
use Rattle.yr_front.specs.Units.{unit_shown, RefusesAs}
use Rattle.yr_front.proofs.ParseLemmas.{refuses-all}
use Rattle.yr_front.proofs.FrontLemmas.{units-fit}
use Rattle.yr_front.proofs.fronting.check_gathered.Goals as goal

pub returns-in_err-units-clause-rules : goal.returns-in_err-units-clause-rules
returns-in_err-units-clause-rules c = λ reading reads modules is.
    let p = err_from_is_err_and c.from_residual.result c.from_residual.ensures.1 in
    let units = map unit_shown c.args.gathered.now in
    let givens = map given_shown c.args.givens.now in
    rw (p.1, p.2) (refuses-all (unit_trees reading modules units) (with_trees reading modules givens units (unit_trees reading modules units)) c.in_err-units.field-0.0
    (λ e h. ap (with_trees reading modules givens units) h) (c.in_err-units.ensures.parsed reading reads modules))

pub check_units-requires-clause-units : goal.check_units-requires-clause-units
check_units-requires-clause-units c =
    units-fit c.in_ok-units.units.items c.deref.result.now c.args.gathered.now c.deref.ensures.value c.in_ok-units.ensures.spaces c.requires.few c.requires.spaces c.in_ok-units.ensures.forms

pub returns-clause-rules : goal.returns-clause-rules
returns-clause-rules c = λ reading reads modules is.
    let units = map unit_shown c.args.gathered.now in
    let givens = map given_shown c.args.givens.now in
    let parsed = c.in_ok-units.ensures.parsed reading reads modules ∙ ap (λ (l : List Unit). Ok (map unit_of l)) (sym c.deref.ensures.value) in
    subst (λ (t : Result (List UnitTree) Refusal). MatchResult c.check_units.result (λ rules. with_trees reading modules givens units t ≡ Ok (rules_of rules))
    (RefusesAs (with_trees reading modules givens units t))) (sym parsed) (c.check_units.ensures.rules reading reads modules is)
