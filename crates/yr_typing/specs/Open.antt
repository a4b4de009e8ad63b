-- The open loops as the code keeps them, as plain data.
use Rattle.std.specs.Prelude.{List, [], ◌∷◌}
use Rattle.yr_typing.specs.declared.loops.Loop.{Loop as LoopType}
use Rattle.yr_typing.specs.declared.loops.Loop.TheVariants as code
use Rattle.yr_typing.specs.declared.loops.Loops.{Loops, None, Inside'}
use Rattle.yr_rules.specs.Loops.{Loop, Members, Numbers, Entries}

abbrev pub loop_of : LoopType → Loop
loop_of code.Members = Members
loop_of code.Numbers = Numbers
loop_of code.Entries = Entries

abbrev pub open_of : Loops → List Loop
open_of None = []
open_of (Inside' l p outer) = loop_of l ∷ open_of outer
