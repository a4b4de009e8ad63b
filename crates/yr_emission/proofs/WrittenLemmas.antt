-- Parts that are written one after another.
use Rattle.std.proofs.Common.{◌≡◌, ℕ, zero, suc, ◌+◌, ◌*◌, ◌≤◌, ◌<◌, false, List, [], ◌∷◌, ◌++◌, length, Some, refl, sym, ap, ◌∙◌, subst, arith, append_assoc, length-append, Result, Ok, Err}
use Rattle.std.specs.Prelude.{slice_set, OnOk}
use Rattle.std.proofs.Math.Seq.{set-append_seam}
use Rattle.std.proofs.lemmas.List.{append-nil, length-map}
use Rattle.yr_pattern.specs.Tree as pattern
use Rattle.yr_pattern.specs.Sizes.{size_of}
use Rattle.yr_rows.specs.Moves.{AreWellformedMoves}
use Rattle.yr_rows.specs.declared.moves.MoveRow.{MoveRow}
use Rattle.yr_image.specs.declared.rows.CodeRow.{CodeRow}
use Rattle.yr_image.specs.declared.instruction.Instruction.{Instruction}
use Rattle.yr_image.specs.declared.instruction.Instruction.TheVariants as i
use Rattle.yr_image.specs.declared.instruction.OfForm.{OfForm}
use Rattle.yr_image.specs.declared.instruction.QuantifierKind.{QuantifierKind}
use Rattle.yr_image.specs.Image.{Image}
use Rattle.yr_image.specs.Instructions.{instruction_of}
use Rattle.yr_draft.specs.Growing.{Grows, move_behind, moves_behind}
use Rattle.yr_draft.specs.Added.{HasText, row_behind, with_program}
use Rattle.yr_draft.specs.Programs.{AcceptSpans, IsProgramOf}
use Rattle.yr_draft.proofs.GrowLemmas.{grows_after, grows_same, program_added, program_grows, kept_range, longer}
use Rattle.yr_splits.proofs.ProgramLemmas.{programs_stay, programs_more}
use Rattle.yr_emission.specs.Parts.{Part, Line, exactly, gives_text, asks, one, text_part, pattern_part, nothing, both, skipping, looping, set_part}
use Rattle.yr_emission.specs.Standing.{IsTextAt}
use Rattle.yr_emission.specs.Written.{SaysIf, HasRow, Tells, TellAll, stored_bytes, put_back, Written}
use Rattle.yr_emission.proofs.Stands.{IsSized}

-- ---- rows tell lines

pub text_grows : (old new : Image) → Grows old new → (t : List ℕ) (place : ℕ) → IsTextAt old t place → IsTextAt new t place
text_grows old new g t place h =
    let more : length old.pool ≤ length new.pool = longer old.pool new.pool g.pool in
    record { inside = omega (arith, h.inside, more); reads = kept_range old.pool new.pool place (length t) g.pool h.inside ∙ h.reads }

tells_grow : (old new : Image) → Grows old new → (l : Line) (row : CodeRow) → Tells old l row → Tells new l row
tells_grow old new g (exactly r) row t = t
tells_grow old new g (gives_text text) row t = (t.0, t.1, text_grows old new g text t.0 t.2)
tells_grow old new g (asks p) row t = (t.0, t.1, program_grows old new false p t.0 g t.2)

tell_grows : (old new : Image) → Grows old new → (ls : List Line) (rows : List CodeRow) → TellAll old ls rows → TellAll new ls rows
tell_grows old new g [] [] t = tt
tell_grows old new g [] (r ∷ rs) t = t
tell_grows old new g (l ∷ ls) [] t = t
tell_grows old new g (l ∷ ls) (r ∷ rs) t = (tells_grow old new g l r t.0, tell_grows old new g ls rs t.1)

tell_append : (image : Image) (ls ms : List Line) (rs ss : List CodeRow) → TellAll image ls rs → TellAll image ms ss → TellAll image (ls ++ ms) (rs ++ ss)
tell_append image [] ms [] ss t u = u
tell_append image [] ms (r ∷ rs) ss t u = absurd t
tell_append image (l ∷ ls) ms [] ss t u = absurd t
tell_append image (l ∷ ls) ms (r ∷ rs) ss t u = (t.0, tell_append image ls ms rs ss t.1 u)

tell_length : (image : Image) (ls : List Line) (rs : List CodeRow) → TellAll image ls rs → length rs ≡ length ls
tell_length image [] [] t = refl
tell_length image [] (r ∷ rs) t = absurd t
tell_length image (l ∷ ls) [] t = absurd t
tell_length image (l ∷ ls) (r ∷ rs) t = ap suc (tell_length image ls rs t.1)

-- a part has as many rows as it says
pub written_count : (x : Part) (r0 r1 : List CodeRow) (i0 i1 : Image) → IsSized x → Written x r0 r1 i0 i1 → length r1 ≡ length r0 + x.size
written_count x r0 r1 i0 i1 size w =
    let n = length r0 in let m = length i0.lists in
    ap length w.rows ∙ length-append r0 w.more ∙ ap (λ k. n + k) (tell_length i1 (x.rows n m) w.more w.tell ∙ size.same n m)

written_lists : (x : Part) (r0 r1 : List CodeRow) (i0 i1 : Image) → Written x r0 r1 i0 i1 → length i1.lists ≡ length i0.lists + length x.lists
written_lists x r0 r1 i0 i1 w = ap length w.lists ∙ length-append i0.lists x.lists

-- ---- parts

pub written_both : (x y : Part) (r0 r1 r2 : List CodeRow) (i0 i1 i2 : Image) → IsSized x → Written x r0 r1 i0 i1 → Written y r1 r2 i1 i2 → Written (both x y) r0 r2 i0 i2
written_both x y r0 r1 r2 i0 i1 i2 size p q =
    let n = length r0 in let m = length i0.lists in
    let count = written_count x r0 r1 i0 i1 size p in
    let lists = written_lists x r0 r1 i0 i1 p in
    let second : TellAll i2 (y.rows (n + x.size) (m + length x.lists)) q.more =
    subst (λ k. TellAll i2 (y.rows (n + x.size) k) q.more) lists (subst (λ k. TellAll i2 (y.rows k (length i1.lists)) q.more) count q.tell) in
    record {
      more = p.more ++ q.more;
      rows = q.rows ∙ ap (λ l. l ++ q.more) p.rows ∙ append_assoc r0 p.more q.more;
      tell = tell_append i2 (x.rows n m) (y.rows (n + x.size) (m + length x.lists)) p.more q.more (tell_grows i1 i2 q.grows (x.rows n m) p.more p.tell) second;
      lists = q.lists ∙ ap (λ l. l ++ y.lists) p.lists ∙ append_assoc i0.lists x.lists y.lists;
      grows = grows_after i0 i1 i2 p.grows q.grows;
      programs = λ h. q.programs (p.programs h);
      few = omega (arith, p.few, q.few);
      others = ap (put_back i0) q.others ∙ p.others;
    }

-- parts put together in another order
pub written_assoc : (x y z : Part) (r0 r1 : List CodeRow) (i0 i1 : Image) → Written (both (both x y) z) r0 r1 i0 i1 → Written (both x (both y z)) r0 r1 i0 i1
written_assoc x y z r0 r1 i0 i1 w =
    let n = length r0 in let m = length i0.lists in
    let a = x.rows n m in let b = y.rows (n + x.size) (m + length x.lists) in
    let p : n + (x.size + y.size) ≡ n + x.size + y.size = omega arith in
    let q : m + length (x.lists ++ y.lists) ≡ m + length x.lists + length y.lists = omega (arith, length-append x.lists y.lists) in
    let e : (both (both x y) z).rows n m ≡ (both x (both y z)).rows n m =
    append_assoc a b (z.rows (n + (x.size + y.size)) (m + length (x.lists ++ y.lists)))
    ∙ ap (λ k. a ++ (b ++ z.rows k (m + length (x.lists ++ y.lists)))) p ∙ ap (λ k. a ++ (b ++ z.rows (n + x.size + y.size) k)) q in
    record {
      more = w.more;
      rows = w.rows;
      tell = subst (λ ls. TellAll i1 ls w.more) e w.tell;
      lists = w.lists ∙ ap (λ l. i0.lists ++ l) (append_assoc x.lists y.lists z.lists);
      grows = w.grows;
      programs = w.programs;
      few = omega (arith, w.few);
      others = w.others;
    }

pub written_nothing : (r : List CodeRow) (image : Image) → Written nothing r r image image
written_nothing r image = record {
  more = [];
  rows = sym (append-nil r);
  tell = tt;
  lists = sym (append-nil image.lists);
  grows = grows_same image image refl refl refl refl;
  programs = λ h. h;
  few = omega arith;
  others = refl;
}

pub written_one : (r : Instruction) (r0 r1 : List CodeRow) (image : Image) → HasRow r r0 r1 → Written (one r) r0 r1 image image
written_one r r0 r1 image h = record {
  more = h.row ∷ [];
  rows = h.added;
  tell = (h.says, tt);
  lists = sym (append-nil image.lists);
  grows = grows_same image image refl refl refl refl;
  programs = λ h. h;
  few = omega arith;
  others = refl;
}

pub written_text : (t : List ℕ) (place : ℕ) (r0 r1 : List CodeRow) (old new : Image) → HasText old new t place → HasRow (i.Text place (length t)) r0 r1 → Written (text_part t) r0 r1 old new
written_text t place r0 r1 old new h row =
    let sets : new.sets ≡ old.sets = ap (λ (x : Image). x.sets) h.others in
    let programs : new.programs ≡ old.programs = ap (λ (x : Image). x.programs) h.others in
    let moves : new.moves ≡ old.moves = ap (λ (x : Image). x.moves) h.others in
    let grown : Grows old new = record { sets = ([], sets ∙ sym (append-nil old.sets)); programs = ([], programs ∙ sym (append-nil old.programs)); moves = ([], moves ∙ sym (append-nil old.moves)); pool = h.begins } in
    record {
      more = row.row ∷ [];
      rows = row.added;
      tell = ((place, row.says tt, record { inside = h.inside; reads = h.reads }), tt);
      lists = ap (λ (x : Image). x.lists) h.others ∙ sym (append-nil old.lists);
      grows = grown;
      programs = programs_stay old new grown programs moves;
      few = omega (arith, h.few, ap length sets, ap length programs, ap length moves);
      others = ap (put_back old) h.others;
    }

pub written_pattern : (p : pattern.Tree) (program : ℕ) (moves : List MoveRow) (sets : List (List ℕ)) (r0 r1 : List CodeRow) (old new : Image)
    → AreWellformedMoves moves sets → AcceptSpans false moves sets p → length moves ≡ size_of p + 1 → length sets < length moves
    → new ≡ with_program old moves sets → program ≡ length old.programs → HasRow (i.Matches program) r0 r1 → Written (pattern_part p) r0 r1 old new
written_pattern p program moves sets r0 r1 old new good accepts size few e here row =
    let s : length new.sets ≡ length old.sets + length sets = ap (λ (x : Image). length x.sets) e ∙ length-append old.sets sets in
    let m : length new.moves ≡ length old.moves + length moves =
    ap (λ (x : Image). length x.moves) e ∙ length-append old.moves (moves_behind (length old.sets) moves) ∙ ap (λ n. length old.moves + n) (length-map moves (move_behind (length old.sets))) in
    let q : length new.programs ≡ length old.programs + 1 = ap (λ (x : Image). length x.programs) e ∙ length-append old.programs (row_behind old.moves moves ∷ []) in
    let is = program_added old (with_program old moves sets) false p moves sets (row_behind old.moves moves) good accepts refl refl refl refl refl in
    let is' = subst (λ (x : Image). IsProgramOf x false p program) (sym e) (subst (λ n. IsProgramOf (with_program old moves sets) false p n) (sym here) is) in
    let grown : Grows old new = record {
      sets = (sets, ap (λ (x : Image). x.sets) e);
      programs = (row_behind old.moves moves ∷ [], ap (λ (x : Image). x.programs) e);
      moves = (moves_behind (length old.sets) moves, ap (λ (x : Image). x.moves) e);
      pool = ([], ap (λ (x : Image). x.pool) e ∙ sym (append-nil old.pool));
    } in
    record {
      more = row.row ∷ [];
      rows = row.added;
      tell = ((program, row.says tt, is'), tt);
      lists = ap (λ (x : Image). x.lists) e ∙ sym (append-nil old.lists);
      grows = grown;
      programs = programs_more old new moves sets (row_behind old.moves moves) grown good (ap (λ (x : Image). x.sets) e) (ap (λ (x : Image). x.moves) e) (ap (λ (x : Image). x.programs) e) refl refl;
      few = omega (arith, s, m, q, size, few, ap (λ (x : Image). length x.pool) e);
      others = ap (put_back old) e;
    }

-- list rows by themselves
abbrev pub members_part : List ℕ → Part
members_part members = record { size = 0; rows = λ b a. []; lists = members; stored = 0 }

pub written_members : (members : List ℕ) (r : List CodeRow) (old new : Image) → new ≡ record old { lists = old.lists ++ members } → Written (members_part members) r r old new
written_members members r old new e = record {
  more = [];
  rows = sym (append-nil r);
  tell = tt;
  lists = ap (λ (x : Image). x.lists) e;
  grows = grows_same old new (ap (λ (x : Image). x.sets) e) (ap (λ (x : Image). x.programs) e) (ap (λ (x : Image). x.moves) e) (ap (λ (x : Image). x.pool) e);
  programs = programs_stay old new (grows_same old new (ap (λ (x : Image). x.sets) e) (ap (λ (x : Image). x.programs) e) (ap (λ (x : Image). x.moves) e) (ap (λ (x : Image). x.pool) e))
      (ap (λ (x : Image). x.programs) e) (ap (λ (x : Image). x.moves) e);
  few = omega (arith, ap (λ (x : Image). stored_bytes x) e);
  others = ap (put_back old) e;
}

pub written_set : (f : OfForm) (q : QuantifierKind) (members : List ℕ) (first : ℕ) (r0 r1 : List CodeRow) (old new : Image) → new ≡ record old { lists = old.lists ++ members } → first ≡ length old.lists
    → HasRow (i.Of f q first (length members)) r0 r1 → Written (set_part f q members) r0 r1 old new
written_set f q members first r0 r1 old new e here row =
    let w = written_members members r0 old new e in
    record {
      more = row.row ∷ [];
      rows = row.added;
      tell = (λ s. row.says s ∙ ap (λ n. Some (i.Of f q n (length members))) here, tt);
      lists = w.lists;
      grows = w.grows;
      programs = w.programs;
      few = w.few;
      others = w.others;
    }

-- ---- rows that are written again when their end is known

regroup : (base m : List CodeRow) (z t e : CodeRow) → (((base ++ z ∷ []) ++ m) ++ t ∷ []) ++ e ∷ [] ≡ base ++ z ∷ (m ++ t ∷ e ∷ [])
regroup base m z t e = simp append_assoc

patched : (base rest all : List CodeRow) (old new : CodeRow) (at : ℕ) → all ≡ base ++ old ∷ rest → at ≡ length base → slice_set all at new ≡ base ++ new ∷ rest
patched base rest all old new at e f = ap (λ l. slice_set l at new) e ∙ ap (λ n. slice_set (base ++ old ∷ rest) n new) f ∙ set-append_seam base old rest new

-- a row, a part and two rows behind a base
framed : (z t e : Instruction) (x : Part) (base r1 r2 r3 r4 : List CodeRow) (i0 i1 : Image) → (hz : HasRow z base r1) → (w : Written x r1 r2 i0 i1) → (ht : HasRow t r2 r3) → (he : HasRow e r3 r4)
    → r4 ≡ base ++ hz.row ∷ (w.more ++ ht.row ∷ he.row ∷ [])
framed z t e x base r1 r2 r3 r4 i0 i1 hz w ht he =
    he.added ∙ ap (λ l. l ++ he.row ∷ []) (ht.added ∙ ap (λ l. l ++ ht.row ∷ []) (w.rows ∙ ap (λ l. l ++ w.more) hz.added))
    ∙ regroup base w.more hz.row ht.row he.row

pub written_skipping : (skip : ℕ → Instruction) (z : Instruction) (x : Part) (r0 r1 r2 r3 r4 r5 r6 : List CodeRow) (i0 i1 : Image) (at end : ℕ) (row : CodeRow) → IsSized x
    → HasRow i.Truth r0 r1 → at ≡ length r1 → HasRow z r1 r2 → Written x r2 r3 i0 i1 → HasRow i.Truth r3 r4 → HasRow i.Settle r4 r5 → end ≡ length r5
    → SaysIf (skip end) row → r6 ≡ slice_set r5 at row → Written (skipping skip x) r0 r6 i0 i1
written_skipping skip z x r0 r1 r2 r3 r4 r5 r6 i0 i1 at end row size h1 here h2 w h4 h5 there says set =
    let n = length r0 in let m = length i0.lists in
    let rest = w.more ++ h4.row ∷ h5.row ∷ [] in
    let n1 : length r1 ≡ n + 1 = ap length h1.added ∙ length-append r0 (h1.row ∷ []) in
    let n2 : length r2 ≡ n + 1 + 1 = ap length h2.added ∙ length-append r1 (h2.row ∷ []) ∙ ap (λ k. k + 1) n1 in
    let n3 = written_count x r2 r3 i0 i1 size w in
    let n4 : length r4 ≡ length r3 + 1 = ap length h4.added ∙ length-append r3 (h4.row ∷ []) in
    let n5 : length r5 ≡ length r4 + 1 = ap length h5.added ∙ length-append r4 (h5.row ∷ []) in
    let until : end ≡ n + x.size + 4 = omega (arith, there, n5, n4, n3, n2) in
    let body : TellAll i1 (x.rows (n + 1 + 1) m) w.more = subst (λ k. TellAll i1 (x.rows k m) w.more) n2 w.tell in
    record {
      more = h1.row ∷ row ∷ rest;
      rows = set ∙ patched r1 rest r5 h2.row row at (framed z i.Truth i.Settle x r1 r2 r3 r4 r5 i0 i1 h2 w h4 h5) here
          ∙ ap (λ l. l ++ row ∷ rest) h1.added ∙ append_assoc r0 (h1.row ∷ []) (row ∷ rest);
      tell = (h1.says, (subst (λ k. SaysIf (skip k) row) until says, tell_append i1 (x.rows (n + 1 + 1) m) (exactly i.Truth ∷ exactly i.Settle ∷ []) w.more (h4.row ∷ h5.row ∷ []) body (h4.says, (h5.says, tt))));
      lists = w.lists;
      grows = w.grows;
      programs = w.programs;
      few = w.few;
      others = w.others;
    }

pub written_looping : (begin : ℕ → ℕ → Instruction) (members : List ℕ) (z : Instruction) (x : Part) (r0 r1 r2 r3 r4 r5 : List CodeRow) (i0 i1 i2 : Image) (at first end : ℕ) (row : CodeRow) → IsSized x
    → at ≡ length r0 → i1 ≡ record i0 { lists = i0.lists ++ members } → first ≡ length i0.lists → HasRow z r0 r1 → Written x r1 r2 i1 i2 → HasRow i.Truth r2 r3 → HasRow (i.LoopEnd at) r3 r4
    → end ≡ length r4 → SaysIf (begin end first) row → r5 ≡ slice_set r4 at row → Written (looping begin members x) r0 r5 i0 i2
written_looping begin members z x r0 r1 r2 r3 r4 r5 i0 i1 i2 at first end row size here e from hz w ht he there says set =
    let n = length r0 in let m = length i0.lists in
    let rest = w.more ++ ht.row ∷ he.row ∷ [] in
    let ws = written_members members r0 i0 i1 e in
    let n1 : length r1 ≡ n + 1 = ap length hz.added ∙ length-append r0 (hz.row ∷ []) in
    let n2 = written_count x r1 r2 i1 i2 size w in
    let n3 : length r3 ≡ length r2 + 1 = ap length ht.added ∙ length-append r2 (ht.row ∷ []) in
    let n4 : length r4 ≡ length r3 + 1 = ap length he.added ∙ length-append r3 (he.row ∷ []) in
    let until : end ≡ n + x.size + 3 = omega (arith, there, n4, n3, n2, n1) in
    let m1 = written_lists (members_part members) r0 r0 i0 i1 ws in
    let body : TellAll i2 (x.rows (n + 1) (m + length members)) w.more = subst (λ k. TellAll i2 (x.rows (n + 1) k) w.more) m1 (subst (λ k. TellAll i2 (x.rows k (length i1.lists)) w.more) n1 w.tell) in
    record {
      more = row ∷ rest;
      rows = set ∙ patched r0 rest r4 hz.row row at (framed z i.Truth (i.LoopEnd at) x r0 r1 r2 r3 r4 i1 i2 hz w ht he) here;
      tell = (
        subst (λ k. SaysIf (begin k m) row) until (subst (λ k. SaysIf (begin end k) row) from says),
        tell_append i2 (x.rows (n + 1) (m + length members)) (exactly i.Truth ∷ exactly (i.LoopEnd n) ∷ []) w.more (ht.row ∷ he.row ∷ []) body (ht.says, (subst (λ k. SaysIf (i.LoopEnd k) he.row) here he.says, tt)),
      );
      lists = w.lists ∙ ap (λ l. l ++ x.lists) ws.lists ∙ append_assoc i0.lists members x.lists;
      grows = grows_after i0 i1 i2 ws.grows w.grows;
      programs = λ h. w.programs (ws.programs h);
      few = omega (arith, ws.few, w.few);
      others = ap (put_back i0) w.others ∙ ws.others;
    }

pub OnOk-map : {T E : Type 0} (r : Result T E) (P Q : Type 0) → (P → Q) → OnOk r P → OnOk r Q
OnOk-map (Ok x) P Q f h = f h
OnOk-map (Err e) P Q f h = h
