-- What the reading of one token finds before the length of its name is looked at. It serves the proofs.
use Rattle.std.specs.Prelude.{◌≡◌, ◌≢◌, ℕ, ◌<◌, Bool, false}
use Rattle.yr_lexer.specs.declared.token.TokenKind.{TokenKind}
use Rattle.yr_lexer.specs.declared.fault.FaultRow.{FaultRow}
use Rattle.yr_base.specs.Bytes.{is_word_start, is_digit}
use Rattle.yr_lexer.specs.Gaps.{Text}
use Rattle.yr_lexer.specs.Faults.{Longest, IsFault, rank}

-- the longest token, where no row of the table of faults holds but perhaps the last
pub record IsCandidate (after_equals : Bool) (t : Text) (k : TokenKind) (rest : Text) : Type 0 where
  pub longest : Longest after_equals t k rest
  pub earlier : (g : FaultRow) → rank g < 5 → ¬ IsFault g after_equals t

-- no letter, digit, `_`, quote or `/`
pub record IsNoWord (b : ℕ) : Type 0 where
  pub no_word : is_word_start b ≡ false
  pub no_digit : is_digit b ≡ false
  pub no_quote : b ≢ 34
  pub no_slash : b ≢ 47

-- nor `$`, `#`, `@` or `!`
pub record IsOther (b : ℕ) : Type 0 where
  pub no_word : IsNoWord b
  pub no_dollar : b ≢ 36
  pub no_hash : b ≢ 35
  pub no_at : b ≢ 64
  pub no_bang : b ≢ 33
