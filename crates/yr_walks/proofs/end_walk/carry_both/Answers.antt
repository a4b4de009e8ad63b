use Rattle.std.proofs.Common.{Bool, length, arith, subst}
use Rattle.yr_moves.specs.Programs.{moves_of}
use Rattle.yr_walks.specs.Carried.{AreBelow}
use Rattle.yr_walks.specs.Spreads.{bound}
use Rattle.yr_walks.proofs.end_walk.carry_both.Goals as goal

pub carry-requires-clause-inside : goal.carry-requires-clause-inside
carry-requires-clause-inside g c = λ m j h. omega (arith, c.requires.inside.0 m j h)

pub carry-requires-2-clause-inside : goal.carry-requires-2-clause-inside
carry-requires-2-clause-inside g c = λ m j h. omega (arith, c.requires.inside.1 m j h)

pub returns-clause-below : goal.returns-clause-below
returns-clause-below g c =
    let B : Bool → Type 0 = λ b. AreBelow (bound b (length (moves_of c.args.rows.now))) c.carry-2.new.list.items in subst B c.requires.edges.0 c.carry-2.ensures.below
