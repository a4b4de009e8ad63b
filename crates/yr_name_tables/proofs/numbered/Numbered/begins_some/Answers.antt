use Rattle.std.proofs.Common.{arith}
use Rattle.yr_name_tables.proofs.RangeLemmas.{some-begins-read}
use Rattle.yr_name_tables.proofs.numbered.Numbered.begins_some.Goals as goal

pub returns-then-len : goal.returns-then-len
returns-then-len c =
    let t = c.self.inside in
    some-begins-read t.order.items c.deref.result.now t.names.items c.deref-then-len.result.now c.args.self.now c.args.front.now c.range_of-range.result c.self.invariant.1
    (omega (arith, c.len.ensures, c.len-2.ensures, t.order.ok.0, t.names.ok.0)) c.deref.ensures.value c.deref-then-len.ensures.value c.self.view_is c.range_of-range.ensures
