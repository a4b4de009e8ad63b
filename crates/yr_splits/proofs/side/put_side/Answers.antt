use Rattle.std.proofs.Common.{ℕ, List, sym, subst, ap, ◌∙◌}
use Rattle.yr_atoms.specs.Splits.{Piece, Literal}
use Rattle.yr_atoms.specs.Coded.{piece_of}
use Rattle.yr_splits.specs.Filling.{PutsSide}
use Rattle.yr_splits.proofs.side.put_side.Goals as goal

pub returns-in_ok-side-in-Literal : goal.returns-in_ok-side-in-Literal
returns-in_ok-side-in-Literal c =
    let side = c.in_ok-side-in-Literal.side in
    let P : Piece → Type 0 = λ p. PutsSide c.args.draft.now c.put_literal.new.draft c.args.backwards p side.kind side.place side.length in
    let text = ap (λ (l : List ℕ). Literal l) c.deref.ensures.value in
    subst P (text ∙ sym (ap piece_of c.in-Literal.is)) (c.in_ok-side-in-Literal.ensures c.args.backwards)
