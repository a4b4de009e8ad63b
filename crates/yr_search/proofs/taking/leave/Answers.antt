use Rattle.std.proofs.Common.{ℕ, List, length, set, Result, Ok, Err, OnErr, refl, ap, ◌∙◌}
use Rattle.std.proofs.lemmas.Option.{slice_get_read}
use Rattle.yr_answer.specs.Found.{items_of}
use Rattle.yr_search.specs.State.{State, hits_in}
use Rattle.yr_search.proofs.StateLemmas.{hits_get, hits_set, set_same}
use Rattle.yr_search.proofs.taking.leave.Goals as goal

pub returns-clause-leaves : goal.returns-clause-leaves
returns-clause-leaves c =
    let later = c.args.gathered.now.later.items in
    let v = c.index_mut.result.now in
    let at = slice_get_read later (length later) c.args.split v refl c.requires c.index_mut.ensures.value in
    record {
      hits = v.items;
      is_hits = hits_get later c.args.split v at;
      later = hits_set later c.args.split c.push.new.self ∙ ap (λ l. set (hits_in later) c.args.split l) c.in_ok-push.ensures.items;
      lists = refl;
    }

pub returns-in_err-push-clause-kept : goal.returns-in_err-push-clause-kept
returns-in_err-push-clause-kept c =
    let later = c.args.gathered.now.later.items in
    let v = c.index_mut.result.now in
    let at = slice_get_read later (length later) c.args.split v refl c.requires c.index_mut.ensures.value in
    let same = hits_set later c.args.split c.push.new.self ∙ ap (λ l. set (hits_in later) c.args.split l) c.in_err-push.ensures.items
    ∙ set_same (hits_in later) c.args.split v.items (hits_get later c.args.split v at) in
    let with : List (List ℕ) → State = λ l. record { lists = items_of c.args.gathered.now.lists.items; later = l } in
    on_err c.from_residual.result (ap with same)
  where
    on_err : {T E P : Type 0} → (r : Result T E) → P → OnErr r P
    on_err (Ok v) h = tt
    on_err (Err e) h = h
