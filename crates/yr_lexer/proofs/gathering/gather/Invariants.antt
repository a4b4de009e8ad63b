use Rattle.std.proofs.Common.{◌≡◌, ℕ, ◌+◌, ◌≤◌, List, length, Some, Result}
use Rattle.yr_base.specs.Store.{Files}
use Rattle.yr_lexer.specs.declared.token.Token.{Token}
use Rattle.yr_lexer.specs.declared.fault.LexFault.{LexFault}
use Rattle.yr_lexer.specs.Gaps.{Text}
use Rattle.yr_lexer.specs.Includes.{IsLexing, IsUnescaping}
use Rattle.yr_lexer.specs.OpenFiles.{IsGathering, work_left}
use Rattle.yr_lexer.proofs.AdvanceLemmas.{Follows}
use Rattle.yr_lexer.proofs.gathering.gather.Given as goal

abbrev pub invariant-open : goal.invariant-open
invariant-open g l = record {
  whole : IsGathering l.gathering;
  count : length l.gathering.files.items + work_left l.gathering ≤ 16777218;
  files : g.S.Store.files l.store ≡ g.S.Store.files l.fn.store;
  later : g.S.Store.faults l.fn.store ≤ g.S.Store.faults l.store;
  follows : (lexed : Text → Result (List Token) LexFault) (unescaped : List ℕ → List ℕ) (files : Files) → g.S.Store.files l.fn.store ≡ Some files → IsLexing lexed → IsUnescaping unescaped
      → Follows lexed unescaped files l.fn.name l.gathering (g.S.Store.trace l.fn.store) (g.S.Store.trace l.store);
}

abbrev pub decreases-open : goal.decreases-open
decreases-open g l = work_left l.gathering
