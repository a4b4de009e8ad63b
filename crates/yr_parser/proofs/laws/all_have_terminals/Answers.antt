use Rattle.std.proofs.Common.{refl}
use Rattle.std.specs.Option.{is_some}
use Rattle.std.proofs.lemmas.List.Sums.{AllPass-from_list_all}
use Rattle.yr_base.specs.Words.{reserved_words}
use Rattle.yr_lexer.specs.Forms as lexer
use Rattle.yr_parser.specs.Spelling.{lookup, words, signs}
use Rattle.yr_parser.proofs.laws.all_have_terminals.Goals as goal

pub returns-clause-words : goal.returns-clause-words
returns-clause-words c = AllPass-from_list_all (λ word. is_some (lookup word words)) reserved_words refl

pub returns-clause-signs : goal.returns-clause-signs
returns-clause-signs c = AllPass-from_list_all (λ sign. is_some (lookup sign signs)) lexer.signs refl
