use Rattle.std.proofs.Common.{rules, arith}
use Rattle.std.proofs.lemmas.List.{length-set}
use Rattle.yr_report.proofs.Hexadecimal.{all_left, fewer, room_left, kept, ended}
use Rattle.yr_report.proofs.number.write_hexadecimal.Goals as goal

pub loop-left-init : goal.loop-left-init
loop-left-init c = record {
  some = omega arith;
  within = omega arith;
  room = search rules;
  fits = omega (arith, c.ranges.n.fits);
  so_far = all_left c.args.n c.args.buffer.now (search rules);
}

pub loop-left-preserved : goal.loop-left-preserved
loop-left-preserved c =
    let l = c.loop-left in
    let more = room_left l.left l.start c.loop-left-test.true l.invariant.fits in record {
      some = omega arith;
      within = omega (arith, l.invariant.within);
      room = search (rules, length-set);
      fits = fewer l.left l.start l.invariant.some l.invariant.fits;
      so_far = kept l.start l.left c.args.n c.hexadecimal_digit.result l.buffer more l.invariant.within l.invariant.room c.loop-left-test.true
          c.hexadecimal_digit.ensures l.invariant.so_far;
    }

pub returns-clause-written : goal.returns-clause-written
returns-clause-written c =
    let l = c.loop-left in
    ended l.start l.left c.args.n c.hexadecimal_digit-2.result l.buffer l.invariant.some l.invariant.within l.invariant.room (omega (arith, c.loop-left-test.false))
    c.hexadecimal_digit-2.ensures l.invariant.so_far
