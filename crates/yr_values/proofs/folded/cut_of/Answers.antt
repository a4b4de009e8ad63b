use Rattle.std.proofs.Common.{arith}
use Rattle.memchr.proofs.lemmas.CriticalLemmas.{IsCutPlace-of}
use Rattle.yr_values.specs.Folded.{Comes}
use Rattle.yr_values.specs.declared.folded.SuffixOrder.TheVariants.{Minimal, Maximal}
use Rattle.yr_values.proofs.FoldedLemmas.{Comes-trans, Comes-irrefl, Comes-opposed}
use Rattle.yr_values.proofs.folded.cut_of.Goals as goal

pub cut_at-requires : goal.cut_at-requires
cut_at-requires c =
    let least = c.greatest_suffix-least.ensures in
    let most = c.greatest_suffix-most.ensures in
    let fits = least.fits in
    let some = least.some in
    IsCutPlace-of (Comes Minimal) (Comes Maximal) (Comes-trans Minimal) (Comes-irrefl Minimal) (Comes-irrefl Maximal)
    (λ a b p q. Comes-opposed a b q p) _ _ _ _ (omega arith) least.greatest most.greatest (omega arith) _ least

pub cut_at-requires-else-least-most : goal.cut_at-requires-else-least-most
cut_at-requires-else-least-most c =
    let least = c.greatest_suffix-least.ensures in
    let most = c.greatest_suffix-most.ensures in
    let fits = most.fits in
    let some = most.some in
    IsCutPlace-of (Comes Maximal) (Comes Minimal) (Comes-trans Maximal) (Comes-irrefl Maximal) (Comes-irrefl Minimal)
    Comes-opposed _ _ _ _ (omega arith) most.greatest least.greatest (omega arith) _ most
