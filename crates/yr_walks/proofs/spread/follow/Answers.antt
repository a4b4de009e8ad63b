use Rattle.std.proofs.Common.{length, sym, ap, ◌∙◌}
use Rattle.yr_moves.specs.Programs.{moves_of, sets_of}
use Rattle.yr_walks.specs.Arcs.{tail}
use Rattle.yr_walks.proofs.FollowLemmas.{follows_add}
use Rattle.yr_walks.proofs.spread.follow.Goals as goal

pub returns-in-Some-clause-follows : goal.returns-in-Some-clause-follows
returns-in-Some-clause-follows c =
    follows_add c.args.edges.now.back (length (moves_of c.args.rows.now)) (sets_of c.args.rows.now) c.args.file.now c.args.i c.args.byte c.args.e c.args.v c.in-Some.y c.args.end c.args.list.now
    c.add.new.self (c.is_open.ensures.0 c.if-is_open.true) (ap (λ n. tail c.args.edges.now.back n c.args.e c.args.v) (sym c.len.ensures) ∙ sym c.tail.ensures ∙ c.in-Some.is) c.add.ensures
