-- Texts of refusals, in pieces.
use Rattle.std.proofs.Common.{◌≡◌, ℕ, List, [], ◌∷◌, ◌++◌, Option, None, codes, refl, sym, ap, ◌∙◌, append_assoc, append-nil}
use Rattle.yr_checks.specs.declared.refusal.Code.{Code}
use Rattle.yr_checks.specs.declared.refusal.Code.TheVariants as code
use Rattle.yr_checks.specs.Sources.{UnitTree}
use Rattle.yr_outcome.specs.Texts.{line, code_name}
use Rattle.yr_outcome.specs.Front.{check_text}

-- `FILE:LINE: WHAT`
pub at_line-pieces : (file digits what : List ℕ)
    → (file ++ (codes ":" ++ (digits ++ (codes ": " ++ what)))) ++ codes "\n" ≡ file ++ (codes ":" ++ (digits ++ (codes ": " ++ (what ++ codes "\n"))))
at_line-pieces file digits what =
    append_assoc file (codes ":" ++ (digits ++ (codes ": " ++ what))) (codes "\n")
    ∙ ap (λ l. file ++ (codes ":" ++ l)) (append_assoc digits (codes ": " ++ what) (codes "\n"))

-- what is found past the last rule
pub other-code : (file : List ℕ) (trees : List UnitTree) (check unit at line_number : ℕ) (rule : Option ℕ) (named : List ℕ) (place : Option ℕ) (c : Code) → (c ≡ code.UnknownModule → ⊥)
    → check_text file trees (record { check = check; code = c; unit = unit; file = at; line = line_number; rule = rule; named = named; place = place }) None ≡ line (code_name c)
other-code file trees check unit at line_number rule named place code.UnknownModule other = absurd (other refl)
other-code file trees check unit at line_number rule named place c other = refl

-- the same with each piece under another name
pub finding-pieces : (code rule named place code' named' place' : List ℕ) → code' ≡ code → named' ≡ named → place' ≡ place
    → code ++ (codes " " ++ (rule ++ (named ++ place))) ≡ code' ++ (codes " " ++ (rule ++ (named' ++ (place' ++ []))))
finding-pieces code rule named place code' named' place' c n p =
    (λ i. sym c i ++ (codes " " ++ (rule ++ (sym n i ++ sym p i)))) ∙ ap (λ l. code' ++ (codes " " ++ (rule ++ (named' ++ l)))) (sym (append-nil place'))
