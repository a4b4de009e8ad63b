use Rattle.std.proofs.Common.{◌≡◌, false, map, take}
use Rattle.std.specs.List.{list_any}
use Rattle.std.specs.Str.{bytes_eq}
use Rattle.yr_lexer.specs.Sources.{file_of}
use Rattle.yr_lexer.specs.OpenFiles.{name_at}
use Rattle.yr_lexer.proofs.gathering.is_open.Given as goal

-- the files before this one have other names
abbrev pub invariant-loop-frame : goal.invariant-loop-frame
invariant-loop-frame l = list_any (λ f. bytes_eq (name_at (map file_of l.files) f.file) l.name) (take l.frame-index l.frames) ≡ false
