use Rattle.std.proofs.Common.{◌≡◌, ◌+◌, ◌-◌, ◌∙◌, subst, arith, take, drop, Some}
use Rattle.std.proofs.lemmas.List.{length-set}
use Rattle.yr_rows.specs.Words.{path}
use Rattle.yr_cert.specs.Tries.{edge_in}
use Rattle.yr_cert.proofs.SuffixesLemmas.{path_back}
use Rattle.yr_cert.proofs.ClimbLemmas.{source_inside, is_root, less_deep}
use Rattle.yr_cert.proofs.spelling.word_at.Goals as goal

pub loop-left-preserved : goal.loop-left-preserved
loop-left-preserved c =
    let trie = c.args.trie.now in
    let readable = c.requires.readable in
    let l = c.loop-left in
    let inv = l.invariant in
    let depth = c.node_at-depth.result.depth in
    let step = c.step_to-step.result in
    let k = l.left - 1 in
    let one : l.left ≡ k + 1 = omega (arith, c.loop-left-test.true) in
    record {
      within = omega (arith, inv.within);
      low = inv.low;
      wide = length-set l.bytes k step.byte ∙ inv.wide;
      inside = source_inside trie readable step.source step.byte l.at c.step_to-step.ensures;
      deep = less_deep trie readable step.source step.byte l.at k c.step_to-step.ensures (λ row is. inv.deep row is ∙ one);
      leads = path_back (edge_in trie) l.bytes depth k step.source l.at step.byte c.args.n (omega (arith, inv.within, one)) (omega (arith, inv.low, inv.wide)) c.step_to-step.ensures
          (subst (λ i. path (edge_in trie) l.at (drop i (take depth l.bytes)) ≡ Some c.args.n) one inv.leads);
    }

pub returns : goal.returns
returns c =
    let trie = c.args.trie.now in
    let l = c.loop-left in
    let inv = l.invariant in
    let depth = c.node_at-depth.result.depth in
    let none : l.left ≡ 0 = omega (arith, c.loop-left-test.false) in
    let root = is_root trie c.requires.readable l.at l.left inv.inside inv.deep none in
    subst (λ i. path (edge_in trie) i (take depth l.bytes) ≡ Some c.args.n) root (subst (λ j. path (edge_in trie) l.at (drop j (take depth l.bytes)) ≡ Some c.args.n) none inv.leads)
