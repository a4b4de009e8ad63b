use Rattle.std.proofs.Common.{◌≡◌, ◌++◌, ◌∷◌, [], List, ℕ, length, sym, ap, ◌∙◌, subst, ◌/◌}
use Rattle.yr_rows.specs.Moves.{row_of}
use Rattle.yr_program.specs.Drafts.{act_of}
use Rattle.yr_program.specs.Written.{IsWritten}
use Rattle.yr_program.proofs.WrittenLemmas.{written_more}
use Rattle.yr_program.proofs.writing.write_move.Goals as goal

pub returns : goal.returns
returns c = λ acts w.
    let moves = c.args.moves.now.items in
    let sets = c.args.sets.now.items in
    let number : c.next_set-number.result ≡ length sets / 32 = c.next_set-number.ensures ∙ ap (λ l. length l / 32) c.deref.ensures.value in
    let row = c.row_bytes.ensures.row ∙ (c.row-row.ensures.row ∙ ap row_of c.number_set.ensures) in
    let W : List ℕ → Type 0 = λ m. IsWritten m c.write_set.new.sets.items (acts ++ act_of c.args.one.now ∷ []) in
    let V : List ℕ → Type 0 = λ s. IsWritten (moves ++ c.row_bytes.result) s (acts ++ act_of c.args.one.now ∷ []) in
    subst W (sym c.in_ok-extend_from_slice.ensures.items) (subst V (sym c.in_ok-write_set.ensures.bytes)
    (written_more moves sets acts c.args.one.now c.next_set-number.result c.row_bytes.result number c.write_set.ensures.wide c.row_bytes.ensures.wide row w))
