use Rattle.std.proofs.Common.{◌≡◌, ◌==◌, true, false, cond, sym, ap, ◌∙◌, arith}
use Rattle.std.proofs.lemmas.Bool.Decides.{nat_tests}
use Rattle.yr_image.specs.Views.{image_of}
use Rattle.yr_machine.specs.Budget.{moves_count}
use Rattle.yr_hits.proofs.SectionLemmas.{moves_at}
use Rattle.yr_search.proofs.taking.moves_of.Goals as goal

pub returns-then-kind-ne2-clause-value : goal.returns-then-kind-ne2-clause-value
returns-then-kind-ne2-clause-value c =
    let off : (c.args.kind == 2) ≡ false = grind (arith, nat_tests, c.if-kind-ne2.true) in
    ap (λ b. cond b (moves_count (image_of c.args.view.now) c.args.place) 0) (sym off)

pub returns-clause-value : goal.returns-clause-value
returns-clause-value c =
    let image = image_of c.args.view.now in
    let on : (c.args.kind == 2) ≡ true = ap (λ k. k == 2) c.if-kind-ne2.false in
    c.from.ensures ∙ sym (moves_at image c.args.place c.program.result c.program.ensures) ∙ ap (λ b. cond b (moves_count image c.args.place) 0) (sym on)
