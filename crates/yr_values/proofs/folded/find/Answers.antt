use Rattle.std.proofs.Common.{ℕ, ◌≡◌, ◌+◌, ◌≤◌, ◌<◌, length, sym, arith, ⊎_elim}
use Rattle.std.proofs.lemmas.Bool.{cases_lt, false≢true}
use Rattle.memchr.proofs.lemmas.FindLemmas.{Nowhere-then}
use Rattle.memchr.proofs.lemmas.SearchLemmas.{Nowhere-right, Nowhere-left, Nowhere-end}
use Rattle.yr_values.specs.Folded.{folded_at}
use Rattle.yr_values.proofs.FoldedLemmas.{kept-few, kept-front}
use Rattle.yr_values.proofs.folded.find.Goals as goal

pub loop-at-preserved-then-matched-m : goal.loop-at-preserved-then-matched-m
loop-at-preserved-then-matched-m c =
    let x = folded_at c.args.part.now in
    let m = length c.args.part.now in
    let h = folded_at c.args.text.now in
    let n = length c.args.text.now in
    let at = c.loop-at.at in
    let old = c.loop-at.invariant in
    let critical = c.args.cut.critical in
    let ends = c.matched_to-matched.ensures in
    let start = c.max.result in
    let start_is = c.max.ensures in
    let i = c.matched_to-matched.result in
    let below = c.if-matched-m.true in
    let fits = c.loop-at-test.true in
    let low : critical ≤ i = omega (arith, ends.low) in
    let same : (k : ℕ) → critical ≤ k → k < i → x k ≡ h (at + k) = λ k a b.
    ⊎_elim (λ inside. old.front k (omega arith)) (λ outside. ends.same k outside b) (cases_lt k start) in
    let here = Nowhere-right x m h n critical c.requires.cut.is_critical at i low below same (ends.differs below) in
    record {
      within = omega arith;
      before = Nowhere-then old.before here;
      few = c.requires.some;
      front = λ k l. absurd (omega arith);
    }

pub loop-at-preserved : goal.loop-at-preserved
loop-at-preserved c =
    let x = folded_at c.args.part.now in
    let m = length c.args.part.now in
    let h = folded_at c.args.text.now in
    let n = length c.args.text.now in
    let at = c.loop-at.at in
    let old = c.loop-at.invariant in
    let critical = c.args.cut.critical in
    let cut = c.requires.cut in
    let ends = c.matched_to-matched.ensures in
    let start = c.max.result in
    let start_is = c.max.ensures in
    let fits = c.loop-at-test.true in
    let full : m ≤ c.matched_to-matched.result = omega (arith, c.if-matched-m.false) in
    let right : (k : ℕ) → critical ≤ k → k < m → x k ≡ h (at + k) = λ k a b.
    ⊎_elim (λ near. old.front k (omega arith)) (λ far. ends.same k far (omega arith)) (cases_lt k start) in
    let here = Nowhere-left x m h n critical c.args.cut.shift cut.is_critical cut.short at right
    (λ occurs. false≢true (c.if-matches_between.ensures.1 (λ k a b. sym (occurs.reads k (omega arith))))) in
    record {
      within = omega (arith, cut.most);
      before = Nowhere-then old.before here;
      few = kept-few x m h n critical c.args.cut.shift c.args.cut.kept cut;
      front = kept-front x m h n critical c.args.cut.shift c.args.cut.kept cut at right;
    }

pub returns : goal.returns
returns c =
    Nowhere-then c.loop-at.invariant.before (Nowhere-end (folded_at c.args.part.now) (length c.args.part.now) (folded_at c.args.text.now) (length c.args.text.now) c.loop-at.at c.loop-at-test.false)
