use Rattle.std.proofs.Common.{◌≡◌, ◌+◌, ◌∷◌, ◌++◌, [], List, map, take, drop, sym, ap, ◌∙◌, append-nil}
use Rattle.std.proofs.lemmas.List.{map-append}
use Rattle.std.proofs.lemmas.Result.{err_from_is_err_and}
use Rattle.yr_checks.specs.Sources.{unit_of}
use Rattle.yr_outcome.specs.Front.{GatheredUnit, unit_tree, unit_trees}
use Rattle.yr_front.specs.Units.{unit_shown, behind}
use Rattle.yr_front.proofs.EachLemmas.{rest-item, front-item, each-step, each-stop}
use Rattle.yr_front.proofs.ParseLemmas.{refuses-all}
use Rattle.yr_front.proofs.parsing.parse_all.Goals as goal

pub returns-in_err-parse_next-clause-parsed : goal.returns-in_err-parse_next-clause-parsed
returns-in_err-parse_next-clause-parsed c = λ reading reads modules.
    let p = err_from_is_err_and c.from_residual.result c.from_residual.ensures.1 in
    let units = c.args.units.now in
    let i = c.loop-unit.unit-index in
    let x = c.unit-item.result in
    let f = λ (u : GatheredUnit). unit_tree reading modules u (reading.parsed u.gathered) in
    rw (p.1, p.2) (refuses-all (f (unit_shown x)) _ c.in_err-parse_next.field-0.0
    (λ e h. c.loop-unit.invariant.parsed reading reads modules
    ∙ ap (λ (rest : List GatheredUnit). behind (map unit_of c.loop-unit.trees.items) (unit_trees reading modules rest)) (rest-item unit_shown units i x c.loop-unit-test.true c.unit-item.is)
    ∙ each-stop f (map unit_of c.loop-unit.trees.items) (unit_shown x) e (map unit_shown (drop (i + 1) units)) h)
    (c.in_err-parse_next.ensures.parsed reading reads modules))

pub loop-unit-preserved : goal.loop-unit-preserved
loop-unit-preserved c =
    let inv = c.loop-unit.invariant in
    let next = c.in_ok-parse_next.ensures in
    let units = c.args.units.now in
    let i = c.loop-unit.unit-index in
    let x = c.unit-item.result in
    record {
      parsed = λ reading reads modules.
          let f = λ (u : GatheredUnit). unit_tree reading modules u (reading.parsed u.gathered) in
          let w = next.parsed reading reads modules in
          inv.parsed reading reads modules
          ∙ ap (λ (rest : List GatheredUnit). behind (map unit_of c.loop-unit.trees.items) (unit_trees reading modules rest)) (rest-item unit_shown units i x c.loop-unit-test.true c.unit-item.is)
          ∙ each-step f (map unit_of c.loop-unit.trees.items) (unit_shown x) (unit_of w.0) (map unit_shown (drop (i + 1) units)) w.2
          ∙ ap (λ trees. behind trees (unit_trees reading modules (map unit_shown (drop (i + 1) units)))) (sym (ap (map unit_of) w.1 ∙ map-append unit_of c.loop-unit.trees.items (w.0 ∷ [])));
      spaces = next.spaces ∙ ap (λ l. l ++ x.space.now ∷ []) inv.spaces ∙ sym (front-item (λ u. u.space.now) units i x c.loop-unit-test.true c.unit-item.is);
      forms = next.forms inv.forms;
    }
