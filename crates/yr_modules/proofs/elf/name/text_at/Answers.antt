-- The text found by the search for 00.
use Rattle.std.proofs.Common.{sym, None, Some}
use Rattle.yr_modules.proofs.ElfNameLemmas.{text_at-first}
use Rattle.yr_modules.proofs.elf.name.text_at.Goals as goal

pub returns-in_err-end : goal.returns-in_err-end
returns-in_err-end c = rw c.from_residual.ensures (sym (text_at-first c.args.file.now c.args.at None c.in_err-end.ensures))

pub returns : goal.returns
returns c = sym (text_at-first c.args.file.now c.args.at (Some c.in_ok-end.end) c.in_ok-end.ensures)
