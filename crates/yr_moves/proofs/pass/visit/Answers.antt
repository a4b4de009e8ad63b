use Rattle.std.proofs.Common.{false, [], length, get_or, sym, subst, rules}
use Rattle.std.proofs.lemmas.Option.{slice_get-get_or}
use Rattle.yr_rows.specs.Moves.{NamesAmong}
use Rattle.yr_rows.specs.declared.moves.Move.{Move}
use Rattle.yr_moves.specs.Programs.{moves_of, sets_of}
use Rattle.yr_moves.specs.Passes.{Visits}
use Rattle.yr_moves.proofs.VisitLemmas.{visits_set, visits_fork, visits_test}
use Rattle.yr_moves.proofs.pass.visit.Goals as goal

pub returns-then-set_has-clause-visits : goal.returns-then-set_has-clause-visits
returns-then-set_has-clause-visits g c =
    let sets = sets_of c.args.rows.now in
    let N : Move → Type 0 = NamesAmong (length (moves_of c.args.rows.now)) (length sets) in
    let there = subst N c.in-Set.is c.requires.names in
    let at = slice_get-get_or sets c.in-Set.set [] there.1 in
    let has = (c.set_has.ensures (get_or sets c.in-Set.set []) at).0 c.if-set_has.true in
    let V : Move → Type 0 = λ v. Visits sets c.args.file.now c.args.i c.args.byte v c.args.now.now.items c.args.now.now.items c.args.onwards.now.items c.add.new.self.items false in
    subst V (sym c.in-Set.is)
    (visits_set sets c.args.file.now c.args.i c.args.byte c.in-Set.next c.in-Set.set c.in-Some.b (get_or sets c.in-Set.set []) c.args.now.now.items c.args.onwards.now.items c.add.new.self.items
    at c.in-Some.is has c.add.ensures.1)

pub returns-in-Fork-clause-visits : goal.returns-in-Fork-clause-visits
returns-in-Fork-clause-visits g c =
    let sets = sets_of c.args.rows.now in
    let V : Move → Type 0 = λ v. Visits sets c.args.file.now c.args.i c.args.byte v c.args.now.now.items c.add-in-Fork-2.new.self.items c.args.onwards.now.items c.args.onwards.now.items false in
    subst V (sym c.in-Fork.is)
    (visits_fork sets c.args.file.now c.args.i c.args.byte c.in-Fork.next c.in-Fork.other c.args.now.now.items c.add-in-Fork.new.self.items c.add-in-Fork-2.new.self.items c.args.onwards.now.items
    c.add-in-Fork.ensures.1 c.add-in-Fork-2.ensures.1)

pub returns-then-holds-clause-visits : goal.returns-then-holds-clause-visits
returns-then-holds-clause-visits g c =
    let sets = sets_of c.args.rows.now in
    let V : Move → Type 0 = λ v. Visits sets c.args.file.now c.args.i c.args.byte v c.args.now.now.items c.add-then-holds.new.self.items c.args.onwards.now.items c.args.onwards.now.items false in
    subst V (sym c.in-Test.is)
    (visits_test sets c.args.file.now c.args.i c.args.byte c.in-Test.assertion c.in-Test.next c.args.now.now.items c.add-then-holds.new.self.items c.args.onwards.now.items
    (search rules) c.add-then-holds.ensures.1)
