use Rattle.std.proofs.Common.{◌≡◌, ◌<◌, ⊎_elim, subst, sym, arith, length}
use Rattle.std.proofs.lemmas.Bool.{cases_order}
use Rattle.yr_image.specs.Views.{image_of}
use Rattle.yr_verifier.specs.Names.{name_at}
use Rattle.yr_verifier.specs.Hashes.{slot_of}
use Rattle.yr_verifier.specs.Tables.{Keeps}
use Rattle.yr_verifier.specs.Windows.{AreDistinct}
use Rattle.yr_verifier.proofs.TableLemmas.{present, absent, inserted}
use Rattle.yr_verifier.proofs.WindowLemmas.{distinct_more}
use Rattle.yr_verifier.proofs.windows.fill.Goals as goal

pub returns-in-Taken : goal.returns-in-Taken
returns-in-Taken c =
    let met = c.in-Taken.ensures in (
      c.loop-k-test.true,
      present (image_of c.args.view.now) c.args.key c.loop-k.table c.args.from c.loop-k.k c.loop-k.k met.0 c.loop-k.invariant.keeps (omega arith) met.1 met.2,
      c.loop-k.invariant.distinct,
    )

pub returns-in-Nowhere : goal.returns-in-Nowhere
returns-in-Nowhere c =
    let image = image_of c.args.view.now in
    let slot = slot_of c.args.key (name_at image c.loop-k.k) in
    let low : slot < length c.loop-k.table = omega (arith, c.loop-k.auto.table, c.requires.room) in
    let behind : c.args.from < c.loop-k.k =
    ⊎_elim (λ e. absurd ((c.in-Nowhere.ensures slot (omega arith) low).0 (c.loop-k.invariant.free (sym e) slot)))
    (⊎_elim (λ lt. lt) (λ gt. absurd (omega (arith, gt, c.loop-k.invariant.low)))) (cases_order c.args.from c.loop-k.k) in
    (behind, omega (arith, c.loop-k-test.true), c.loop-k.invariant.keeps, c.loop-k.invariant.distinct)

pub loop-k-preserved : goal.loop-k-preserved
loop-k-preserved c =
    let image = image_of c.args.view.now in
    let table = c.loop-k.table in
    let k = c.loop-k.k in
    let free = c.in-Free.ensures in
    let keeps = c.loop-k.invariant.keeps in
    record {
      low = omega (arith, c.loop-k.invariant.low);
      keeps = inserted image c.args.key table c.args.from k c.in-Free.at c.loop-k.invariant.low keeps free.0 free.1 free.2 free.3;
      distinct = distinct_more image c.args.from k c.loop-k.invariant.distinct (absent image c.args.key table c.args.from k k keeps c.in-Free.at free.0 free.2 free.3);
      free = λ e. absurd (omega (arith, e, c.loop-k.invariant.low));
    }

pub returns : goal.returns
returns c =
    let image = image_of c.args.view.now in
    let e : c.loop-k.k ≡ c.args.end = omega (arith, c.loop-k-test.false, c.loop-k.auto.k-end (omega (arith, c.requires.some))) in (
      c.requires.some,
      omega arith,
      subst (Keeps image c.args.key c.loop-k.table c.args.from) e c.loop-k.invariant.keeps,
      subst (AreDistinct image c.args.from) e c.loop-k.invariant.distinct,
    )
