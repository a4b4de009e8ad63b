-- What the reader's values stand for.
use Rattle.std.specs.Prelude.{map}
use Rattle.yr_pattern.specs.Tree.{tree_of}
use Rattle.yr_hex.specs.declared.part.Part.{Part}
use Rattle.yr_hex.specs.declared.part.List.{List}
use Rattle.yr_hex.specs.declared.part.Choice.{Choice}
use Rattle.yr_hex.specs.Reading.{PartRead, ListRead, ChoiceRead}

abbrev pub part_of : Part → PartRead
part_of p = record { tree = tree_of p.pattern; jump = p.jump; bad = p.bad }

abbrev pub list_of : List → ListRead
list_of l = record { members = map tree_of l.members.items; jump = l.jump; bad = l.bad }

abbrev pub choice_of : Choice → ChoiceRead
choice_of c = record { branches = map tree_of c.branches.items; bad = c.bad }
