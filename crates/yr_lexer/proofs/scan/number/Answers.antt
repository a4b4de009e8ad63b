use Rattle.std.proofs.Common.{ℤ, sym, subst, w64}
use Rattle.std.proofs.lemmas.Int.{to_z_pos}
use Rattle.yr_lexer.specs.declared.token.TokenKind.TheVariants as kind
use Rattle.yr_lexer.specs.Candidates.{IsCandidate}
use Rattle.yr_lexer.proofs.NameLemmas.{word-within}
use Rattle.yr_lexer.proofs.NumberBranch.{read-float, read-bad, read-large, read-number}
use Rattle.yr_lexer.proofs.scan.number.Goals as goal

pub slice_bounds-number_in-count : goal.slice_bounds-number_in-count
slice_bounds-number_in-count c = word-within _ _ c.past_word-rest.ensures

pub returns-then-is_float : goal.returns-then-is_float
returns-then-is_float c a = read-float a _ c.requires _ c.is_float.ensures c.if-is_float.true

pub returns-in-None : goal.returns-in-None
returns-in-None c a = read-bad a _ c.requires _ _ c.is_float.ensures c.if-is_float.false c.past_word-rest.ensures c.in-None.ensures

pub returns-then-n-lt-TOO_LARGE : goal.returns-then-n-lt-TOO_LARGE
returns-then-n-lt-TOO_LARGE c a =
    subst (λ (z : ℤ). IsCandidate a c.args.text.now (kind.Number z) c.past_word-rest.result.now) (sym (to_z_pos w64 c.in-Some.n c.if-n-lt-TOO_LARGE.true))
    (read-number a _ c.requires _ _ _ c.is_float.ensures c.if-is_float.false c.past_word-rest.ensures c.in-Some.ensures c.if-n-lt-TOO_LARGE.true)

pub returns-else-n-lt-TOO_LARGE : goal.returns-else-n-lt-TOO_LARGE
returns-else-n-lt-TOO_LARGE c a = read-large a _ c.requires _ _ _ c.is_float.ensures c.if-is_float.false c.past_word-rest.ensures c.in-Some.ensures c.if-n-lt-TOO_LARGE.false
