use Rattle.std.proofs.Common.{sym, subst, List, map, take}
use Rattle.yr_atoms.specs.Splits.{Split}
use Rattle.yr_atoms.specs.Coded.{split_of, word}
use Rattle.yr_splits.specs.Placed.{Placed, place, place_all}
use Rattle.yr_splits.specs.Filling.{PutsSplits, IsSmall}
use Rattle.yr_splits.proofs.FillLemmas.{splits_put_after}
use Rattle.yr_splits.proofs.LoopLemmas.{at_item, one_more_of, pushed_too}
use Rattle.yr_splits.proofs.split.put_splits.Goals as goal

pub put_split-requires : goal.put_split-requires
put_split-requires c = at_item IsSmall split_of c.args.splits.now c.loop-split.split-index c.split-item.result c.loop-split-test.true c.split-item.is c.requires

pub loop-split-preserved : goal.loop-split-preserved
loop-split-preserved c =
    let xs = c.args.splits.now in
    let k = c.loop-split.split-index in
    let x = c.split-item.result in
    let b = c.loop-split-test.true in
    let is = c.split-item.is in
    let done = place_all c.args.string c.args.border (map split_of (take k xs)) in
    let P : List Placed → Type 0 = λ l. PutsSplits c.args.draft.now c.put_split.new.draft l in
    record {
      splits = subst P (sym (one_more_of (place c.args.string c.args.border) split_of xs k x b is))
          (splits_put_after c.args.draft.now c.loop-split.draft c.put_split.new.draft done _ c.loop-split.invariant.splits c.in_ok-put_split.ensures);
      atoms = pushed_too word c.loop-split.atoms.items c.push.new.self.items x.atom (map word c.args.atoms.now.items) _ _ c.in_ok-push.ensures.items c.loop-split.invariant.atoms
          (one_more_of (λ (s : Split). s.atom) split_of xs k x b is);
    }
