use Rattle.std.proofs.Common.{map, string_bytes, sym, subst}
use Rattle.yr_outcome.specs.Fits.{outside}
use Rattle.yr_outcome.specs.Clauses.{Answers, ReadFaults, WriteFaults, NoMemories, Completes, Usages, TwiceGiven, ReadCauses, WriteCauses}
use Rattle.yr_commands.specs.Program.{all_setting}
use Rattle.yr_commands.proofs.TopLemmas.{reads, writes, usages, twice}
use Rattle.yr_commands.proofs.top.yara_main.Goals as goal

pub returns-clause-answer : goal.returns-clause-answer
returns-clause-answer g c =
    let words = map string_bytes c.args.words.now in
    let before =
    outside (g.F.Store.files c.args.store.now) (g.F.Store.trace c.args.store.now) (g.F.Store.faults c.args.store.now)
    (g.O.Sink.written c.args.out.now) (g.O.Sink.faults c.args.out.now) (g.E.Sink.written c.args.err.now) (g.E.Sink.faults c.args.err.now) in
    let after =
    outside (g.F.Store.files c.run-answer.new.store) (g.F.Store.trace c.run-answer.new.store) (g.F.Store.faults c.run-answer.new.store)
    (g.O.Sink.written c.run-answer.new.out) (g.O.Sink.faults c.run-answer.new.out) (g.E.Sink.written c.tell.new.err) (g.E.Sink.faults c.tell.new.err) in
    let a = c.run-answer.result in
    subst (λ s. Answers all_setting words s before after) (sym c.tell.ensures.status)
    (c.promises.ensures.answer all_setting words a before after (λ files told reading reads. c.run-answer.ensures.fits reading reads files told) c.tell.ensures.said)

pub returns-clause-read_fault : goal.returns-clause-read_fault
returns-clause-read_fault g c =
    let words = map string_bytes c.args.words.now in
    let before =
    outside (g.F.Store.files c.args.store.now) (g.F.Store.trace c.args.store.now) (g.F.Store.faults c.args.store.now)
    (g.O.Sink.written c.args.out.now) (g.O.Sink.faults c.args.out.now) (g.E.Sink.written c.args.err.now) (g.E.Sink.faults c.args.err.now) in
    let after =
    outside (g.F.Store.files c.run-answer.new.store) (g.F.Store.trace c.run-answer.new.store) (g.F.Store.faults c.run-answer.new.store)
    (g.O.Sink.written c.run-answer.new.out) (g.O.Sink.faults c.run-answer.new.out) (g.E.Sink.written c.tell.new.err) (g.E.Sink.faults c.tell.new.err) in
    let a = c.run-answer.result in
    subst (λ s. ReadFaults all_setting words s before after) (sym c.tell.ensures.status)
    (c.promises.ensures.read_fault all_setting words a before after (λ files told reading reads. c.run-answer.ensures.fits reading reads files told) c.tell.ensures.said)

pub returns-clause-write_fault : goal.returns-clause-write_fault
returns-clause-write_fault g c =
    let words = map string_bytes c.args.words.now in
    let before =
    outside (g.F.Store.files c.args.store.now) (g.F.Store.trace c.args.store.now) (g.F.Store.faults c.args.store.now)
    (g.O.Sink.written c.args.out.now) (g.O.Sink.faults c.args.out.now) (g.E.Sink.written c.args.err.now) (g.E.Sink.faults c.args.err.now) in
    let after =
    outside (g.F.Store.files c.run-answer.new.store) (g.F.Store.trace c.run-answer.new.store) (g.F.Store.faults c.run-answer.new.store)
    (g.O.Sink.written c.run-answer.new.out) (g.O.Sink.faults c.run-answer.new.out) (g.E.Sink.written c.tell.new.err) (g.E.Sink.faults c.tell.new.err) in
    let a = c.run-answer.result in
    subst (λ s. WriteFaults all_setting words s before after) (sym c.tell.ensures.status)
    (c.promises.ensures.write_fault all_setting words a before after (λ files told reading reads. c.run-answer.ensures.fits reading reads files told) c.tell.ensures.said)

pub returns-clause-no_memory : goal.returns-clause-no_memory
returns-clause-no_memory g c =
    let words = map string_bytes c.args.words.now in
    let before =
    outside (g.F.Store.files c.args.store.now) (g.F.Store.trace c.args.store.now) (g.F.Store.faults c.args.store.now)
    (g.O.Sink.written c.args.out.now) (g.O.Sink.faults c.args.out.now) (g.E.Sink.written c.args.err.now) (g.E.Sink.faults c.args.err.now) in
    let after =
    outside (g.F.Store.files c.run-answer.new.store) (g.F.Store.trace c.run-answer.new.store) (g.F.Store.faults c.run-answer.new.store)
    (g.O.Sink.written c.run-answer.new.out) (g.O.Sink.faults c.run-answer.new.out) (g.E.Sink.written c.tell.new.err) (g.E.Sink.faults c.tell.new.err) in
    let a = c.run-answer.result in
    subst (λ s. NoMemories all_setting words s before after) (sym c.tell.ensures.status)
    (c.promises.ensures.no_memory all_setting words a before after (λ files told reading reads. c.run-answer.ensures.fits reading reads files told) c.tell.ensures.said)

pub returns-clause-complete : goal.returns-clause-complete
returns-clause-complete g c =
    let words = map string_bytes c.args.words.now in
    let before =
    outside (g.F.Store.files c.args.store.now) (g.F.Store.trace c.args.store.now) (g.F.Store.faults c.args.store.now)
    (g.O.Sink.written c.args.out.now) (g.O.Sink.faults c.args.out.now) (g.E.Sink.written c.args.err.now) (g.E.Sink.faults c.args.err.now) in
    let after =
    outside (g.F.Store.files c.run-answer.new.store) (g.F.Store.trace c.run-answer.new.store) (g.F.Store.faults c.run-answer.new.store)
    (g.O.Sink.written c.run-answer.new.out) (g.O.Sink.faults c.run-answer.new.out) (g.E.Sink.written c.tell.new.err) (g.E.Sink.faults c.tell.new.err) in
    let a = c.run-answer.result in
    subst (λ s. Completes all_setting words s before after) (sym c.tell.ensures.status)
    (c.promises.ensures.complete all_setting words a before after (λ files told reading reads. c.run-answer.ensures.fits reading reads files told) (reads all_setting words a before after c.run-answer.ensures.usage c.run-answer.ensures.cause) (writes all_setting words a before after c.run-answer.ensures.usage c.run-answer.ensures.cause))

pub returns-clause-causes_usage : goal.returns-clause-causes_usage
returns-clause-causes_usage g c =
    let words = map string_bytes c.args.words.now in
    let before =
    outside (g.F.Store.files c.args.store.now) (g.F.Store.trace c.args.store.now) (g.F.Store.faults c.args.store.now)
    (g.O.Sink.written c.args.out.now) (g.O.Sink.faults c.args.out.now) (g.E.Sink.written c.args.err.now) (g.E.Sink.faults c.args.err.now) in
    let after =
    outside (g.F.Store.files c.run-answer.new.store) (g.F.Store.trace c.run-answer.new.store) (g.F.Store.faults c.run-answer.new.store)
    (g.O.Sink.written c.run-answer.new.out) (g.O.Sink.faults c.run-answer.new.out) (g.E.Sink.written c.tell.new.err) (g.E.Sink.faults c.tell.new.err) in
    let a = c.run-answer.result in
    subst (λ s. Usages all_setting words s before after) (sym c.tell.ensures.status)
    (usages all_setting words a before after c.run-answer.ensures.usage c.run-answer.ensures.cause)

pub returns-clause-causes_twice : goal.returns-clause-causes_twice
returns-clause-causes_twice g c =
    let words = map string_bytes c.args.words.now in
    let before =
    outside (g.F.Store.files c.args.store.now) (g.F.Store.trace c.args.store.now) (g.F.Store.faults c.args.store.now)
    (g.O.Sink.written c.args.out.now) (g.O.Sink.faults c.args.out.now) (g.E.Sink.written c.args.err.now) (g.E.Sink.faults c.args.err.now) in
    let after =
    outside (g.F.Store.files c.run-answer.new.store) (g.F.Store.trace c.run-answer.new.store) (g.F.Store.faults c.run-answer.new.store)
    (g.O.Sink.written c.run-answer.new.out) (g.O.Sink.faults c.run-answer.new.out) (g.E.Sink.written c.tell.new.err) (g.E.Sink.faults c.tell.new.err) in
    let a = c.run-answer.result in
    subst (λ s. TwiceGiven all_setting words s before after) (sym c.tell.ensures.status)
    (twice all_setting words a before after c.run-answer.ensures.usage c.run-answer.ensures.cause c.run-answer.ensures.twice c.tell.ensures.said)

pub returns-clause-causes_read_fault : goal.returns-clause-causes_read_fault
returns-clause-causes_read_fault g c =
    let words = map string_bytes c.args.words.now in
    let before =
    outside (g.F.Store.files c.args.store.now) (g.F.Store.trace c.args.store.now) (g.F.Store.faults c.args.store.now)
    (g.O.Sink.written c.args.out.now) (g.O.Sink.faults c.args.out.now) (g.E.Sink.written c.args.err.now) (g.E.Sink.faults c.args.err.now) in
    let after =
    outside (g.F.Store.files c.run-answer.new.store) (g.F.Store.trace c.run-answer.new.store) (g.F.Store.faults c.run-answer.new.store)
    (g.O.Sink.written c.run-answer.new.out) (g.O.Sink.faults c.run-answer.new.out) (g.E.Sink.written c.tell.new.err) (g.E.Sink.faults c.tell.new.err) in
    let a = c.run-answer.result in
    subst (λ s. ReadCauses all_setting words s before after) (sym c.tell.ensures.status)
    (reads all_setting words a before after c.run-answer.ensures.usage c.run-answer.ensures.cause)

pub returns-clause-causes_write_fault : goal.returns-clause-causes_write_fault
returns-clause-causes_write_fault g c =
    let words = map string_bytes c.args.words.now in
    let before =
    outside (g.F.Store.files c.args.store.now) (g.F.Store.trace c.args.store.now) (g.F.Store.faults c.args.store.now)
    (g.O.Sink.written c.args.out.now) (g.O.Sink.faults c.args.out.now) (g.E.Sink.written c.args.err.now) (g.E.Sink.faults c.args.err.now) in
    let after =
    outside (g.F.Store.files c.run-answer.new.store) (g.F.Store.trace c.run-answer.new.store) (g.F.Store.faults c.run-answer.new.store)
    (g.O.Sink.written c.run-answer.new.out) (g.O.Sink.faults c.run-answer.new.out) (g.E.Sink.written c.tell.new.err) (g.E.Sink.faults c.tell.new.err) in
    let a = c.run-answer.result in
    subst (λ s. WriteCauses all_setting words s before after) (sym c.tell.ensures.status)
    (writes all_setting words a before after c.run-answer.ensures.usage c.run-answer.ensures.cause)
