use Rattle.std.proofs.Common.{inl, inr, length, sym, ap, ◌∙◌, subst, arith}
use Rattle.yr_image.specs.Views.{image_of}
use Rattle.yr_hits.proofs.GrowLemmas.{on_ok}
use Rattle.yr_search.specs.State.{state_of, hits_in, AreInFile, IsFor, owed_by, cost_later}
use Rattle.yr_search.proofs.StateLemmas.{cost_some}
use Rattle.yr_search.proofs.TakeLemmas.{fits_more, owed_either}
use Rattle.yr_search.proofs.taking.take_hit.Goals as goal

pub returns-then-is_dear-clause-takes : goal.returns-then-is_dear-clause-takes
returns-then-is_dear-clause-takes g c = on_ok c.leave.result (λ t. inr t) c.leave.ensures.leaves

pub returns-then-is_dear-clause-gathered : goal.returns-then-is_dear-clause-gathered
returns-then-is_dear-clause-gathered g c =
    on_ok c.leave.result
    (fits_more (image_of c.args.scene.now.view.now) c.args.scene.now.file.now c.args.at c.args.split c.args.gathered.now c.leave.new.gathered
    c.requires.gathered c.requires.at c.requires.atom c.leave.ensures.lists c.leave.ensures.spent)
    c.leave.ensures.leaves

pub returns-then-is_dear-clause-most_cost : goal.returns-then-is_dear-clause-most_cost
returns-then-is_dear-clause-most_cost g c =
    let image = image_of c.args.scene.now.view.now in
    let n = length c.args.scene.now.file.now in
    let owes = owed_either image n c.args.at c.args.split (state_of c.args.gathered.now) (state_of c.leave.new.gathered) c.leave.result c.leave.ensures.leaves c.leave.ensures.kept in
    let some = cost_some image n c.args.split c.requires.split in
    omega (arith, owes, some)

pub returns-clause-takes : goal.returns-clause-takes
returns-clause-takes g c = on_ok c.take_now.result (λ t. inl t) c.take_now.ensures.takes

pub returns-clause-gathered : goal.returns-clause-gathered
returns-clause-gathered g c =
    let image = image_of c.args.scene.now.view.now in
    let file = c.args.scene.now.file.now in
    let after = c.take_now.ensures in
    let before = c.requires.gathered in
    let fits : IsFor image file c.take_now.new.gathered = record {
      lists = after.lists ∙ before.lists;
      later = ap (λ l. length l.items) after.later ∙ before.later;
      spent = after.spent ∙ before.spent;
      inside = subst (λ l. AreInFile image file (hits_in l.items)) (sym after.later) before.inside;
    } in
    on_ok c.take_now.result (λ t. fits) after.takes

pub returns-clause-most_cost : goal.returns-clause-most_cost
returns-clause-most_cost g c =
    let image = image_of c.args.scene.now.view.now in
    let n = length c.args.scene.now.file.now in
    let owes = ap (λ l. owed_by (cost_later image n) 0 (hits_in l.items)) c.take_now.ensures.later in
    omega (arith, owes, c.take_now.ensures.most_cost)
