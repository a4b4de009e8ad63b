use Rattle.std.proofs.Common.{subst, sym, arith}
use Rattle.yr_values.specs.Values.{shown}
use Rattle.yr_vm.specs.Items.{IsItem}
use Rattle.yr_vm.proofs.ItemLemmas.{item-at}
use Rattle.yr_vm.proofs.listing.copy_items.Goals as goal

pub item-requires : goal.item-requires
item-requires c =
    subst (λ v. IsItem (shown v)) (sym c.index-values-k.is)
    (item-at c.args.values.now c.loop-k.k c.index-values-k.result (omega arith) c.requires.items)
