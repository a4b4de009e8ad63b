use Rattle.std.proofs.Common.{[], ◌∷◌}
use Rattle.yr_base.specs.declared.value.Kind.TheVariants as kind
use Rattle.yr_machine.specs.declared.block.Want.TheVariants as want
use Rattle.yr_vm.proofs.OperandLemmas.{known}
use Rattle.yr_vm.proofs.skipping.skip.Goals as goal

pub one-requires : goal.one-requires
one-requires c = (known (want.Of kind.Flag ∷ []) c.args.state.now.stack c.requires.flag).1
