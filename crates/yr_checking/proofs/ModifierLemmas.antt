-- Modifiers without a fault say what their list says.
use Rattle.std.proofs.Common.{◌≡◌, Bool, true, false, List, refl, sym, Result, Ok, Err}
use Rattle.std.specs.Prelude.{if◌then◌else◌, ◌||◌}
use Rattle.yr_syntax.specs.Declaration.{ModifierTree}
use Rattle.yr_syntax.specs.declared.modifier.StringKind.{StringKind}
use Rattle.yr_text.specs.declared.fault.ModifierFault.{ModifierFault}
use Rattle.yr_text.specs.declared.fault.ModifierFault.TheVariants as fault
use Rattle.yr_text.specs.declared.modifiers.Modifiers.{Modifiers}
use Rattle.yr_text.specs.Arguments.{keys_in, alphabet_in, wide_alphabet_in, is_wrong}
use Rattle.yr_text.specs.Checked.{all_names, foreign_names, has_excluded, said_by, checked}
use Rattle.yr_text.specs.Names.{stands_some, is_some_repeated}

ok-same : (r : Result Modifiers ModifierFault) (a b : Modifiers) → r ≡ Ok a → r ≡ Ok b → a ≡ b
ok-same r a b e f = cc

chosen : (said m : Modifiers) (a b c d e : Bool)
    → (if a then Err fault.Repeated else if b then Err fault.WrongKind else if c then Err fault.Excluded else if d then Err fault.BadRange else if e then Err fault.BadAlphabet else Ok said) ≡ Ok m
    → m ≡ said
chosen said m true b c d e h = absurd cc
chosen said m false true c d e h = absurd cc
chosen said m false false true d e h = absurd cc
chosen said m false false false true e h = absurd cc
chosen said m false false false false true h = absurd cc
chosen said m false false false false false h = ok-same (Ok m) m said refl (sym h)

pub checked_said : (ms : List ModifierTree) (k : StringKind) (m : Modifiers) → checked ms k ≡ Ok m → m ≡ said_by ms
checked_said ms k m h =
    chosen (said_by ms) m (is_some_repeated all_names ms) (stands_some (foreign_names k) ms) (has_excluded ms) (is_wrong (keys_in ms)) (is_wrong (alphabet_in ms) || is_wrong (wide_alphabet_in ms)) h
