use Rattle.std.proofs.Common.{length, arith, ap}
use Rattle.yr_name_tables.proofs.OrderLemmas.{next-longer, order-next}
use Rattle.yr_name_tables.proofs.order.add_next.Goals as goal

pub returns-clause-order : goal.returns-clause-order
returns-clause-order c =
    order-next c.args.order.now.items c.deref.result.now c.insert.new.self.items c.args.names.now c.args.number c.place-at.result _ c.requires.order c.deref.ensures.value c.requires.number c.requires.missing
    c.place-at.ensures.within c.place-at.ensures.place c.in_ok-insert.ensures.items

pub returns-clause-longer : goal.returns-clause-longer
returns-clause-longer c =
    next-longer c.args.order.now.items c.insert.new.self.items c.args.number c.place-at.result (omega (arith, c.place-at.ensures.within, ap length c.deref.ensures.value)) c.in_ok-insert.ensures.items
