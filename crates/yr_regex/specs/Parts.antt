-- What the reader's values stand for.
use Rattle.std.specs.Prelude.{◌≡◌, ℕ, ◌-◌, true, false, not, ◌&&◌, map, Some, None, Result, Ok, Err}
use Rattle.yr_pattern.specs.Set.{bytes_of}
use Rattle.yr_pattern.specs.Tree.{tree_of}
use Rattle.yr_regex.specs.declared.fault.RegexFault.{RegexFault}
use Rattle.yr_regex.specs.declared.fault.RegexFault.TheVariants.{RegexSyntax, RegexRange, MixedGreed, NoMemory}
use Rattle.yr_regex.specs.declared.regex.Regex.{Regex}
use Rattle.yr_regex.specs.declared.class.Bytes.{Bytes}
use Rattle.yr_regex.specs.declared.part.Marks.{Marks}
use Rattle.yr_regex.specs.declared.part.Part.{Part}
use Rattle.yr_regex.specs.declared.part.Parts.{Parts}
use Rattle.yr_regex.specs.Reading.{BytesRead, MarksRead, PartRead, ListRead}

abbrev pub bytes_read : Bytes → BytesRead
bytes_read b = record { bytes = bytes_of b.set; bad = b.bad }

abbrev pub marks_of : Marks → MarksRead
marks_of m = record { bad = m.bad; lazy = m.lazy; eager = m.eager }

abbrev pub part_of : Part → PartRead
part_of p = record { tree = tree_of p.pattern; marks = marks_of p.marks }

abbrev pub parts_of : Parts → ListRead
parts_of l = record { trees = map tree_of l.patterns.items; marks = marks_of l.marks }

-- what is made of a whole expression; the number is the length of its text
abbrev pub Judged : PartRead → ℕ → Result Regex RegexFault → Type 0
Judged p n (Ok regex) = (p.marks.bad ≡ None) × ((p.marks.lazy && p.marks.eager) ≡ false) × (tree_of regex.pattern ≡ p.tree) × (regex.greedy ≡ not p.marks.lazy)
Judged p n (Err RegexSyntax) = ⊥
Judged p n (Err (RegexRange place)) = (left : ℕ) × (p.marks.bad ≡ Some left) × (place ≡ n - left)
Judged p n (Err MixedGreed) = (p.marks.bad ≡ None) × ((p.marks.lazy && p.marks.eager) ≡ true)
Judged p n (Err NoMemory) = ⊥
