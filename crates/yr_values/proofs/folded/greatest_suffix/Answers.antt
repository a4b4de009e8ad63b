use Rattle.std.proofs.Common.{◌≡◌, ◌+◌, ◌-◌, length, sym, subst, ◌∙◌, arith}
use Rattle.memchr.proofs.lemmas.SuffixLemmas.{IsScan, IsScan-accept, IsScan-skip, IsScan-push, IsScan-block, IsScan-end}
use Rattle.yr_values.specs.Folded.{folded_at, Comes}
use Rattle.yr_values.proofs.FoldedLemmas.{Comes-trans, Comes-irrefl}
use Rattle.yr_values.proofs.folded.greatest_suffix.Goals as goal

pub loop-candidate-preserved-in-Less : goal.loop-candidate-preserved-in-Less
loop-candidate-preserved-in-Less c =
    let o = c.args.order in
    let s = c.loop-candidate in
    let won = c.compared.ensures.less c.in-Less.is in
    let x = folded_at c.args.part.now in
    IsScan-accept (Comes o) (Comes-trans o) (Comes-irrefl o) x _ s.invariant c.loop-candidate-test.true
    (subst (λ v. Comes o v (x (s.candidate + s.offset))) c.folded-current.ensures (subst (Comes o c.folded-current.result) c.folded-other.ensures won))

pub loop-candidate-preserved-in-Greater : goal.loop-candidate-preserved-in-Greater
loop-candidate-preserved-in-Greater c =
    let o = c.args.order in
    let s = c.loop-candidate in
    let lost = c.compared.ensures.greater c.in-Greater.is in
    let x = folded_at c.args.part.now in
    let m = length c.args.part.now in
    let moved : s.candidate + s.offset + 1 ≡ s.candidate + (s.offset + 1) = omega arith in
    subst (λ k. IsScan (Comes o) x m s.at (k - s.at) k 0) moved
    (IsScan-skip (Comes o) (Comes-trans o) (Comes-irrefl o) x m s.invariant c.loop-candidate-test.true
    (subst (λ v. Comes o v (x (s.at + s.offset))) c.folded-other.ensures (subst (Comes o c.folded-other.result) c.folded-current.ensures lost)))

pub loop-candidate-preserved-then-offset-period : goal.loop-candidate-preserved-then-offset-period
loop-candidate-preserved-then-offset-period c =
    let o = c.args.order in
    let s = c.loop-candidate in
    let eq = sym c.folded-current.ensures ∙ c.compared.ensures.equal c.in-Equal.is ∙ c.folded-other.ensures in
    IsScan-block (Comes o) (Comes-trans o) (Comes-irrefl o) _ _ s.invariant c.loop-candidate-test.true eq c.if-offset-period.true

pub loop-candidate-preserved : goal.loop-candidate-preserved
loop-candidate-preserved c =
    let o = c.args.order in
    let s = c.loop-candidate in
    let short = s.invariant.short in
    let differs = c.if-offset-period.false in
    let eq = sym c.folded-current.ensures ∙ c.compared.ensures.equal c.in-Equal.is ∙ c.folded-other.ensures in
    IsScan-push (Comes o) (Comes-trans o) (Comes-irrefl o) _ _ s.invariant c.loop-candidate-test.true eq (omega arith)

pub returns : goal.returns
returns c =
    let o = c.args.order in
    let s = c.loop-candidate in
    let within = s.invariant.within in
    let ended = c.loop-candidate-test.false in
    IsScan-end (Comes o) (Comes-trans o) (Comes-irrefl o) _ _ s.invariant (omega arith)
