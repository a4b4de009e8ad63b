use Rattle.std.proofs.Common.{◌≡◌, ◌+◌, ◌*◌, ◌++◌, ◌∷◌, [], length, sym, ap, ◌∙◌, subst, arith, length-append}
use Rattle.std.specs.Prelude.{slice_get}
use Rattle.yr_image.specs.Views.{shown_bytes, image_of}
use Rattle.yr_answer.specs.Found.{items_of}
use Rattle.yr_search.specs.State.{state_of, hits_in, owed_by, cost_later, owed}
use Rattle.yr_search.specs.Taking.{TakesLater}
use Rattle.yr_search.proofs.StateLemmas.{hits_more, hits_length, get_before, get_last, owed_last, paid_last}
use Rattle.yr_search.proofs.TakeLemmas.{later_more}
use Rattle.yr_search.proofs.SceneLemmas.{few_splits}
use Rattle.yr_search.proofs.gathering.take_later.Goals as goal

pub overflow_cast-split : goal.overflow_cast-split
overflow_cast-split g c =
    let rest = c.pop.new.self.items in
    let more = ap length c.in-Some.ensures.items ∙ length-append rest (c.in-Some.hits ∷ []) in
    let few = few_splits (shown_bytes c.args.scene.now.view.now) c.requires.scene.wellformed in
    omega (arith, c.len-split.ensures, c.pop.new.self.ok.0, more, c.taking.invariant.few, few)

pub take_left-requires-clause-hits : goal.take_left-requires-clause-hits
take_left-requires-clause-hits g c =
    let rest = c.pop.new.self.items in
    let hits = c.in-Some.hits in
    let all = hits_in rest ++ hits.items ∷ [] in
    let split : hits_in c.taking.gathered.later.items ≡ all = ap hits_in c.in-Some.ensures.items ∙ hits_more rest hits in
    let long = hits_length rest in
    let last : c.len-split.result ≡ length (hits_in rest) = omega (arith, long, c.len-split.ensures, c.pop.new.self.ok.0) in
    c.taking.invariant.inside c.len-split.result hits.items
    (ap (λ l. slice_get l c.len-split.result) split ∙ ap (slice_get all) last ∙ get_last (hits_in rest) hits.items)

pub returns-in_err-take_left-clause-most_cost : goal.returns-in_err-take_left-clause-most_cost
returns-in_err-take_left-clause-most_cost g c =
    let image = image_of c.args.scene.now.view.now in
    let n = length c.args.scene.now.file.now in
    let rest = c.pop.new.self.items in
    let hits = c.in-Some.hits in
    let split : hits_in c.taking.gathered.later.items ≡ hits_in rest ++ hits.items ∷ [] = ap hits_in c.in-Some.ensures.items ∙ hits_more rest hits in
    let long = hits_length rest in
    let last : c.len-split.result ≡ 0 + length (hits_in rest) = omega (arith, long, c.len-split.ensures, c.pop.new.self.ok.0) in
    let owes = ap (owed_by (cost_later image n) 0) split ∙ owed_last (cost_later image n) 0 (hits_in rest) hits.items c.len-split.result last in
    let paid = paid_last (owed_by (cost_later image n) 0 (hits_in c.taking.gathered.later.items)) (owed_by (cost_later image n) 0 (hits_in rest))
    (length hits.items * cost_later image n c.len-split.result) (c.args.steps.now + owed image n (state_of c.args.gathered.now)) c.taking.steps c.take_left.new.steps owes
    c.taking.invariant.most c.in_err-take_left.ensures.most_cost in
    omega (arith, paid)

pub taking-preserved : goal.taking-preserved
taking-preserved g c =
    let image = image_of c.args.scene.now.view.now in
    let file = c.args.scene.now.file.now in
    let n = length file in
    let inv = c.taking.invariant in
    let one = c.in_ok-take_left.ensures in
    let rest = c.pop.new.self.items in
    let hits = c.in-Some.hits in
    let split : hits_in c.taking.gathered.later.items ≡ hits_in rest ++ hits.items ∷ [] = ap hits_in c.in-Some.ensures.items ∙ hits_more rest hits in
    let long = hits_length rest in
    let last : c.len-split.result ≡ 0 + length (hits_in rest) = omega (arith, long, c.len-split.ensures, c.pop.new.self.ok.0) in
    let owes = ap (owed_by (cost_later image n) 0) split ∙ owed_last (cost_later image n) 0 (hits_in rest) hits.items c.len-split.result last in
    record {
      takes = λ new t. inv.takes new (subst (λ l. TakesLater image file 0 l (items_of c.taking.gathered.lists.items) new) (sym split)
          (later_more image file 0 (hits_in rest) hits.items c.len-split.result (items_of c.taking.gathered.lists.items) (items_of c.take_left.new.lists.items) new last one.adds t));
      lists = one.lists ∙ inv.lists;
      few = let more = ap length c.in-Some.ensures.items ∙ length-append rest (hits ∷ []) in omega (arith, more, inv.few);
      inside = λ s x at. inv.inside s x (ap (λ l. slice_get l s) split ∙ get_before (hits_in rest) hits.items s x at);
      room = one.room ∙ inv.room;
      least = omega (arith, inv.least, one.least_cost);
      most = paid_last (owed_by (cost_later image n) 0 (hits_in c.taking.gathered.later.items)) (owed_by (cost_later image n) 0 (hits_in rest))
          (length hits.items * cost_later image n c.len-split.result) (c.args.steps.now + owed image n (state_of c.args.gathered.now)) c.taking.steps c.take_left.new.steps owes inv.most one.most_cost;
    }
