-- What a side of a split adds to an image, and what it costs.
use Rattle.std.proofs.Common.{◌≡◌, ℕ, ◌+◌, ◌*◌, ◌<◌, ◌≤◌, ◌↔◌, Bool, true, false, List, [], ◌∷◌, ◌++◌, length, refl, sym, ap, ◌∙◌, subst, arith}
use Rattle.std.proofs.lemmas.List.{length-append, length-map}
use Rattle.yr_pattern.specs.Tree.{Tree}
use Rattle.yr_pattern.specs.Sizes.{size_of}
use Rattle.yr_pattern.specs.Spans.{Spans}
use Rattle.yr_rows.specs.Moves.{AreWellformedMoves}
use Rattle.yr_rows.specs.Accepts.{Accepts, AcceptsBackwards}
use Rattle.yr_rows.specs.declared.moves.MoveRow.{MoveRow}
use Rattle.yr_atoms.specs.Splits as piece
use Rattle.yr_image.specs.declared.rows.ProgramRow.{ProgramRow}
use Rattle.yr_image.specs.Sections.{header_length, rule_width}
use Rattle.yr_image.specs.Image.{Image}
use Rattle.yr_image.specs.Encoding.{encoded_length}
use Rattle.yr_draft.specs.Growing.{Grows, move_behind, moves_behind}
use Rattle.yr_draft.specs.Added.{HasText, row_behind, with_program}
use Rattle.yr_draft.specs.Programs.{AcceptSpans}
use Rattle.yr_splits.specs.Filling.{PutsSide}
use Rattle.yr_splits.proofs.GrowLemmas.{grows_same, program_added, begins_same}
use Rattle.yr_splits.proofs.ProgramLemmas.{programs_stay, programs_more}

-- the bytes of the sections that strings and splits leave alone
abbrev pub other_bytes : Image → ℕ
other_bytes image =
    header_length + rule_width image.version * length image.rules + 24 * length image.notes + 24 * length image.externals
    + 24 * length image.nodes + 8 * length image.edges + 4 * length image.outputs + 4 * length image.lists + 16 * length image.code

-- and of the others
abbrev pub own_bytes : Image → ℕ
own_bytes image =
    16 * length image.strings + 32 * length image.splits + 32 * length image.sets + 8 * length image.programs + 16 * length image.moves + length image.pool

pub in_parts : (image : Image) → encoded_length image ≡ other_bytes image + own_bytes image
in_parts image = omega arith

-- nothing is put
pub nothing_put : (image : Image) (backwards : Bool) → PutsSide image image backwards piece.Nothing 0 0 0
nothing_put image backwards = record {
  others = refl;
  grows = grows_same image image refl refl refl refl;
  programs = λ h. h;
  is = (refl, refl, refl);
  cost = omega arith;
}

module _ (old new : Image) (text : List ℕ) (place : ℕ) (has : HasText old new text place) where
  -- a text alone
  text_grows : Grows old new
  text_grows = record {
    sets = begins_same old.sets new.sets (ap (λ (i : Image). i.sets) has.others);
    programs = begins_same old.programs new.programs (ap (λ (i : Image). i.programs) has.others);
    moves = begins_same old.moves new.moves (ap (λ (i : Image). i.moves) has.others);
    pool = has.begins;
  }

  pub text_cost : encoded_length new ≤ encoded_length old + length text
  text_cost =
      let a = in_parts old in
      let b = in_parts new in
      let c : other_bytes new ≡ other_bytes old = ap other_bytes has.others in
      let d : length new.strings ≡ length old.strings = ap (λ (i : Image). length i.strings) has.others in
      let e : length new.splits ≡ length old.splits = ap (λ (i : Image). length i.splits) has.others in
      let f : length new.sets ≡ length old.sets = ap (λ (i : Image). length i.sets) has.others in
      let g : length new.programs ≡ length old.programs = ap (λ (i : Image). length i.programs) has.others in
      let h : length new.moves ≡ length old.moves = ap (λ (i : Image). length i.moves) has.others in
      let few = has.few in omega (arith, a, b, c, d, e, f, g, h, few)

  others : new ≡ record old { sets = new.sets; programs = new.programs; moves = new.moves; pool = new.pool }
  others =
      let sets : old.sets ≡ new.sets = sym (ap (λ (i : Image). i.sets) has.others) in
      let programs : old.programs ≡ new.programs = sym (ap (λ (i : Image). i.programs) has.others) in
      let moves : old.moves ≡ new.moves = sym (ap (λ (i : Image). i.moves) has.others) in
      let same : record old { pool = new.pool } ≡ record old { sets = new.sets; programs = new.programs; moves = new.moves; pool = new.pool } =
      λ i. record old { sets = sets i; programs = programs i; moves = moves i; pool = new.pool } in
      has.others ∙ same

  pub text_put : (backwards : Bool) → PutsSide old new backwards (piece.Literal text) 1 place (length text)
  text_put backwards = record {
    others = others;
    grows = text_grows;
    programs = programs_stay old new text_grows (ap (λ (i : Image). i.programs) has.others) (ap (λ (i : Image). i.moves) has.others);
    is = (refl, has.inside, has.reads);
    cost = text_cost;
  }

module _ (old : Image) (backwards : Bool) (tree : Tree) (moves : List MoveRow) (sets : List (List ℕ))
    (good : AreWellformedMoves moves sets) (accepts : AcceptSpans backwards moves sets tree)
    (small : length moves ≡ size_of tree + 1) (few : length sets < length moves) where
  abbrev grown : Image
  grown = with_program old moves sets

  abbrev row : ProgramRow
  row = row_behind old.moves moves

  program_grows : Grows old grown
  program_grows = record {
    sets = (sets, refl);
    programs = (row ∷ [], refl);
    moves = (moves_behind (length old.sets) moves, refl);
    pool = begins_same old.pool old.pool refl;
  }

  program_cost : encoded_length grown ≤ encoded_length old + (24 + 48 * size_of tree)
  program_cost =
      let a = in_parts old in
      let b = in_parts grown in
      let s : length (old.sets ++ sets) ≡ length old.sets + length sets = length-append old.sets sets in
      let m : length (old.moves ++ moves_behind (length old.sets) moves) ≡ length old.moves + length (moves_behind (length old.sets) moves) =
      length-append old.moves (moves_behind (length old.sets) moves) in
      let n : length (moves_behind (length old.sets) moves) ≡ length moves = length-map moves (move_behind (length old.sets)) in
      let p : length (old.programs ++ row ∷ []) ≡ length old.programs + 1 = length-append old.programs (row ∷ []) in
      omega (arith, a, b, s, m, n, p, small, few)

  pub program_put : PutsSide old grown backwards (piece.Shape tree) 2 (length old.programs) 0
  program_put = record {
    others = refl;
    grows = program_grows;
    programs = programs_more old grown moves sets row program_grows good refl refl refl refl refl;
    is = (refl, program_added old grown backwards tree moves sets row good accepts refl refl refl refl refl, refl);
    cost = program_cost;
  }

accepts_spans : (backwards : Bool) (moves : List MoveRow) (sets : List (List ℕ)) (tree : Tree)
    → (backwards ≡ false → (file : List ℕ) (i j : ℕ) → Accepts moves sets file i j ↔ Spans tree file i j)
    → (backwards ≡ true → (file : List ℕ) (i j : ℕ) → AcceptsBackwards moves sets file i j ↔ Spans tree file i j)
    → AcceptSpans backwards moves sets tree
accepts_spans true moves sets tree f b = b refl
accepts_spans false moves sets tree f b = f refl

pub shape_put : (old new : Image) (backwards : Bool) (tree : Tree) (moves : List MoveRow) (sets : List (List ℕ)) (number : ℕ)
    → (backwards ≡ false → (file : List ℕ) (i j : ℕ) → Accepts moves sets file i j ↔ Spans tree file i j)
    → (backwards ≡ true → (file : List ℕ) (i j : ℕ) → AcceptsBackwards moves sets file i j ↔ Spans tree file i j)
    → AreWellformedMoves moves sets → length moves ≡ size_of tree + 1 → length sets < length moves
    → new ≡ with_program old moves sets → number ≡ length old.programs → PutsSide old new backwards (piece.Shape tree) 2 number 0
shape_put old new backwards tree moves sets number f b good small few is n =
    let P : Image → Type 0 = λ i. PutsSide old i backwards (piece.Shape tree) 2 number 0 in
    let Q : ℕ → Type 0 = λ k. PutsSide old (with_program old moves sets) backwards (piece.Shape tree) 2 k 0 in
    subst P (sym is) (subst Q (sym n) (program_put old backwards tree moves sets good (accepts_spans backwards moves sets tree f b) small few))
