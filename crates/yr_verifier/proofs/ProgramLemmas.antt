-- Programs, one after another.
use Rattle.std.proofs.Common.{◌≡◌, ℕ, ◌<◌, ◌≤◌, ◌↔◌, List, length, IsTrue, ap, ◌∙◌, subst, arith}
use Rattle.std.specs.Prelude.{◌==◌}
use Rattle.std.proofs.lemmas.Bool.{eqb-true, eq-eqb}
use Rattle.std.proofs.lemmas.List.{nil_from_length}
use Rattle.std.proofs.lemmas.Option.{slice_get_past}
use Rattle.yr_rows.specs.declared.moves.MoveRow.{MoveRow}
use Rattle.yr_rows.specs.Moves.{AreWellformedMoves}
use Rattle.yr_image.specs.Image.{Image}
use Rattle.yr_machine.specs.Automaton.{ProgramPasses}

pub moved : {moves others : List MoveRow} {sets more : List (List ℕ)} → moves ≡ others → sets ≡ more → AreWellformedMoves moves sets → AreWellformedMoves others more
moved {moves} {others} {sets} {more} e f good =
    let P : List MoveRow → Type 0 = λ m. AreWellformedMoves m sets in
    let Q : List (List ℕ) → Type 0 = λ s. AreWellformedMoves others s in
    subst Q f (subst P e good)

pub program_beyond : (image : Image) (k : ℕ) → length image.programs ≤ k → 0 < k → ProgramPasses image k
program_beyond image k le some = record {
  program = λ row at. (let none = slice_get_past image.programs k le in cc (none, at));
  none = λ e. absurd (omega (arith, e, some));
}

-- without programs the first of them passes where there are no moves
pub no_programs : (image : Image) (k count : ℕ) → length image.programs ≤ k → k ≡ 0 → count ≡ length image.moves → IsTrue (count == 0) ↔ ProgramPasses image k
no_programs image k count le zero e = (
  λ t. record {
    program = λ row at. (let none = slice_get_past image.programs k le in cc (none, at));
    none = λ _ _. nil_from_length image.moves (omega (arith, eqb-true count 0 t, e));
  },
  λ p. eq-eqb count 0 (e ∙ ap length (p.none zero (nil_from_length image.programs (omega (arith, le, zero))))),
)
