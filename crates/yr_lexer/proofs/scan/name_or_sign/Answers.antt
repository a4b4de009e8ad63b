use Rattle.yr_lexer.specs.declared.token.TokenKind.TheVariants as kind
use Rattle.std.proofs.Common.{sym, subst, ℕ, ◌∷◌}
use Rattle.yr_lexer.specs.Candidates.{IsCandidate}
use Rattle.yr_lexer.proofs.NameLemmas.{count-read, place-read}
use Rattle.yr_lexer.proofs.scan.name_or_sign.Goals as goal

pub returns-in-36 : goal.returns-in-36
returns-in-36 c = subst (λ (x : ℕ). IsCandidate c.args.after_equals (x ∷ c.args.behind.now) c.string_name.result.0 c.string_name.result.1.now) (sym c.in-36.is) (c.string_name.ensures c.args.after_equals)

pub returns-in-35 : goal.returns-in-35
returns-in-35 c = subst (λ (x : ℕ). IsCandidate c.args.after_equals (x ∷ c.args.behind.now) kind.CountName c.past_word.result.now) (sym c.in-35.is) (count-read c.args.after_equals _ _ c.past_word.ensures)

pub returns-in-64 : goal.returns-in-64
returns-in-64 c = subst (λ (x : ℕ). IsCandidate c.args.after_equals (x ∷ c.args.behind.now) kind.PlaceName c.past_word-in-64.result.now) (sym c.in-64.is) (place-read c.args.after_equals _ _ c.past_word-in-64.ensures)

pub returns-in-33 : goal.returns-in-33
returns-in-33 c = subst (λ (x : ℕ). IsCandidate c.args.after_equals (x ∷ c.args.behind.now) c.length_name.result.0 c.length_name.result.1.now) (sym c.in-33.is) (c.length_name.ensures c.args.after_equals)
