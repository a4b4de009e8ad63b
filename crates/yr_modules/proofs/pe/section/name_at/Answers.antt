-- The name ends before its first 00.
use Rattle.std.proofs.Common.{◌≡◌, ◌+◌, ◌-◌, ℕ, List, Some, take, drop, sym, ap, subst, ◌∙◌, arith}
use Rattle.memchr.specs.Find.{IsFirstByte, is_byte}
use Rattle.yr_modules.specs.Pe.Sections.{before_zero}
use Rattle.yr_modules.proofs.PeNameLemmas.{before_zero-first}
use Rattle.yr_modules.proofs.pe.section.name_at.Goals as goal

pub returns-in-Some : goal.returns-in-Some
returns-in-Some c =
    let at = c.args.at in
    let rest = drop at c.args.file.now in
    let front = take (at + 8 - at) rest in
    let first : IsFirstByte (is_byte 0) front (Some c.in-Some.end) =
    subst (IsFirstByte (is_byte 0) front) c.in-Some.is c.memchr.ensures in
    let eight : at + 8 - at ≡ 8 = omega arith in
    sym (before_zero-first front c.in-Some.end first) ∙ ap (λ n. before_zero (take n rest)) eight
