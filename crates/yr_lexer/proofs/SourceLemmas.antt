-- Tokens in their files.
use Rattle.std.proofs.Common.{◌≡◌, ℕ, Some, refl, sym, subst, ◌∙◌}
use Rattle.std.specs.Prelude.{All, slice_get}
use Rattle.std.proofs.lemmas.Option.{slice_get_within, get_or_from_slice_get}
use Rattle.std.proofs.lemmas.List.Elements.{All-get_or}
use Rattle.yr_lexer.specs.declared.source.FileToken.{FileToken}
use Rattle.yr_lexer.specs.Gaps.{Text}
use Rattle.yr_lexer.specs.Forms.{IsSpelled}
use Rattle.yr_lexer.specs.Sources.{Gathered, LiesInFile, text_of, spelling}

lies-at : (g : Gathered) (k : ℕ) (t : FileToken) → All (LiesInFile g.files) g.tokens → slice_get g.tokens k ≡ Some t → LiesInFile g.files t
lies-at g k t all at = subst (LiesInFile g.files) (get_or_from_slice_get g.tokens k t t at) (All-get_or (LiesInFile g.files) g.tokens k t (slice_get_within g.tokens k t at) all)

-- the bytes of a token have the form of its kind
pub spelled-at : (g : Gathered) (k : ℕ) (t : FileToken) (bytes : Text) → All (LiesInFile g.files) g.tokens → slice_get g.tokens k ≡ Some t
    → bytes ≡ text_of g k → IsSpelled bytes t.token.kind
spelled-at g k t bytes all at e =
    let lies = lies-at g k t all at in
    let here : text_of g k ≡ spelling g.files t = rw at refl in
    subst (λ (x : Text). IsSpelled x t.token.kind) (sym (e ∙ here)) lies.lies.spelled
