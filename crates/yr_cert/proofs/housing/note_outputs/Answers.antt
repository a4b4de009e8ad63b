use Rattle.std.proofs.Common.{◌+◌, ◌<◌, refl, sym, subst, arith, length}
use Rattle.std.specs.Prelude.{slice_set}
use Rattle.std.proofs.lemmas.Option.{slice_get_read}
use Rattle.yr_cert.specs.Tries.{AreHomes}
use Rattle.yr_cert.proofs.HomeLemmas.{homes_next}
use Rattle.yr_cert.proofs.housing.note_outputs.Goals as goal

pub loop-k-init : goal.loop-k-init
loop-k-init c =
    let row = c.node_at-row.result in
    let follow = (c.requires.readable.formed.each_node c.args.node row c.node_at-row.ensures).outputs_follow in
    record {
      low = omega arith;
      high = omega arith;
      are = subst (λ k. AreHomes c.args.trie.now k c.args.homes.now.items) (sym follow) c.requires.before;
    }

pub loop-k-preserved : goal.loop-k-preserved
loop-k-preserved c =
    let trie = c.args.trie.now in
    let k = c.loop-k.k in
    let inv = c.loop-k.invariant in
    let homes = c.loop-k.homes.items in
    let split = c.output_at-split.result in
    let inside : split < length homes = omega (arith, c.requires.readable.splits k split c.output_at-split.ensures, inv.are.long) in
    let old = slice_get_read homes (length homes) split c.index.result.now refl inside c.index.ensures in
    let next = homes_next trie c.requires.readable c.args.node c.node_at-row.result k split homes c.index.result.now c.args.atom c.node_at-row.ensures inv.low c.loop-k-test.true
    c.output_at-split.ensures c.requires.spelled inv.are old in
    record {
      low = omega (arith, inv.low);
      high = omega (arith, c.loop-k-test.true);
      are = subst (λ h. AreHomes trie (k + 1) (slice_set homes split h)) (sym c.with.ensures) next;
    }
