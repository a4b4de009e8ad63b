use Rattle.std.proofs.Common.{ap, subst, length}
use Rattle.yr_vm.specs.OpenLoops.{presents_shown}
use Rattle.yr_vm.specs.Strings.{IsNamed}
use Rattle.yr_vm.proofs.StringLemmas.{current-inside}
use Rattle.yr_vm.proofs.strings.string_of.Goals as goal

pub present-requires : goal.present-requires
present-requires c =
    let turns = presents_shown c.args.loops.now in
    let named = subst (IsNamed (length c.args.matches.now.lists) turns) c.in-Current.is c.requires in
    current-inside turns c.in-Current.c named.0 named.1
