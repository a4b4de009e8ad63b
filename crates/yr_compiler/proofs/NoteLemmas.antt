-- Rows of notes that are put.
use Rattle.std.proofs.Common.{◌≡◌, ℕ, ◌+◌, ◌≤◌, ℤ, Bool, List, [], ◌∷◌, ◌++◌, length, map, refl, sym, ap, ◌∙◌, subst, arith}
use Rattle.std.specs.Int.{w64, cast_signed}
use Rattle.std.proofs.lemmas.List.{length-append, append_assoc, append-nil, map-append}
use Rattle.yr_values.specs.Values.{Value, Undefined, Number, Flag, Text}
use Rattle.yr_rules.specs.Rules.{PlainExternal}
use Rattle.yr_rules.specs.Weight.{total, external_weight}
use Rattle.yr_image.specs.declared.rows.NoteRow.{NoteRow}
use Rattle.yr_image.specs.Image.{Image}
use Rattle.yr_image.specs.Encoding.{encoded_length}
use Rattle.yr_draft.specs.Growing.{Grows}
use Rattle.yr_draft.specs.Added.{HasText}
use Rattle.yr_compiler.specs.Notes.{Note, Tag, Entry, IsText, flag_of, SaysValue, SaysNote, SayNotes, external_note}
use Rattle.yr_compiler.specs.Putting.{HasName, PutsNote, PutsNotes, PutsExternals, notes_bytes}
use Rattle.yr_compiler.proofs.TextLemmas.{grows_after, grows_same, text_grows, text_cost, text_is, text_stays, in_parts, own_bytes, other_bytes}

pub name_put : (old new : Image) (name : List ℕ) (place kind value : ℕ) (row : NoteRow) → HasText old new name place → row.name_place ≡ place → row.name_length ≡ length name
    → row.kind ≡ kind → row.value ≡ value → row.value_length ≡ 0 → HasName old new name kind value row
name_put old new name place kind value row has place_is length_is k v l = record {
  others = has.others;
  grows = text_grows old new name place has;
  text = let P : ℕ → Type 0 = λ p. IsText new name p row.name_length in subst P (sym place_is) (text_is old new name place has row.name_length length_is);
  kind_is = k;
  value_is = v;
  no_length = l;
  cost = text_cost old new name place has;
}

module _ (old new : Image) (name : List ℕ) (row : NoteRow) where
  pub tag_put : HasName old new name 0 0 row → PutsNote old new (Tag name) row
  tag_put h = record { others = h.others; grows = h.grows; says = (h.text, h.kind_is, h.no_length, h.value_is); cost = h.cost }

  pub number_put : (bits : ℕ) (n : ℤ) → cast_signed w64 bits ≡ n → HasName old new name 2 bits row → PutsNote old new (Entry name (Number n)) row
  number_put bits n e h = record {
    others = h.others;
    grows = h.grows;
    says = (h.text, (h.kind_is, h.no_length, ap (λ v. cast_signed w64 v) h.value_is ∙ e));
    cost = let c = h.cost in omega (arith, c);
  }

  pub flag_put : (value : ℕ) (b : Bool) → value ≡ flag_of b → HasName old new name 3 value row → PutsNote old new (Entry name (Flag b)) row
  flag_put value b e h = record {
    others = h.others;
    grows = h.grows;
    says = (h.text, (h.kind_is, h.no_length, h.value_is ∙ e));
    cost = let c = h.cost in omega (arith, c);
  }

pub text_value_put : (old middle new : Image) (name text : List ℕ) (place : ℕ) (row : NoteRow) (count : ℕ) → HasText old middle text place → HasName middle new name 1 place row
    → count ≡ length text → PutsNote old new (Entry name (Text text)) (record row { value_length = count })
text_value_put old middle new name text place row count has h e = record {
  others = h.others ∙ ap (λ (i : Image). record i { pool = new.pool }) has.others;
  grows = grows_after old middle new (text_grows old middle text place has) h.grows;
  says =
      let t = text_stays middle new text place count h.grows (text_is old middle text place has count e) in
      let P : ℕ → Type 0 = λ p. IsText new text p count in
      (h.text, (h.kind_is, subst P (sym h.value_is) t));
  cost = let a = text_cost old middle text place has in let b = h.cost in omega (arith, a, b);
}

-- ---- rows keep what they say

value_stays : (old new : Image) (v : Value) (row : NoteRow) → Grows old new → SaysValue old v row → SaysValue new v row
value_stays old new (Text t) row g h = (h.0, text_stays old new t row.value row.value_length g h.1)
value_stays old new (Number n) row g h = h
value_stays old new (Flag b) row g h = h
value_stays old new Undefined row g h = absurd h

note_stays : (old new : Image) (note : Note) (row : NoteRow) → Grows old new → SaysNote old note row → SaysNote new note row
note_stays old new (Tag name) row g h = (text_stays old new name row.name_place row.name_length g h.0, h.1, h.2, h.3)
note_stays old new (Entry name value) row g h = (text_stays old new name row.name_place row.name_length g h.0, value_stays old new value row g h.1)

pub notes_stay : (old new : Image) (notes : List Note) (rows : List NoteRow) → Grows old new → SayNotes old notes rows → SayNotes new notes rows
notes_stay old new [] [] g h = h
notes_stay old new (note ∷ notes) (row ∷ rows) g h = (note_stays old new note row g h.0, notes_stay old new notes rows g h.1)
notes_stay old new [] (row ∷ rows) g h = absurd h
notes_stay old new (note ∷ notes) [] g h = absurd h

pub say_append : (image : Image) (xs ys : List Note) (rows more : List NoteRow) → SayNotes image xs rows → SayNotes image ys more → SayNotes image (xs ++ ys) (rows ++ more)
say_append image [] ys [] more h g = g
say_append image (x ∷ xs) ys (row ∷ rows) more h g = (h.0, say_append image xs ys rows more h.1 g)
say_append image [] ys (row ∷ rows) more h g = absurd h
say_append image (x ∷ xs) ys [] more h g = absurd h

pub say_count : (image : Image) (notes : List Note) (rows : List NoteRow) → SayNotes image notes rows → length rows ≡ length notes
say_count image [] [] h = refl
say_count image (note ∷ notes) (row ∷ rows) h = let rest = say_count image notes rows h.1 in omega (arith, rest)
say_count image [] (row ∷ rows) h = absurd h
say_count image (note ∷ notes) [] h = absurd h

-- ---- notes one after another

pub bytes-append : (xs ys : List Note) → notes_bytes (xs ++ ys) ≡ notes_bytes xs + notes_bytes ys
bytes-append [] ys = omega arith
bytes-append (x ∷ xs) ys = let rest = bytes-append xs ys in omega (arith, rest)

pub no_notes : (image : Image) → PutsNotes image image []
no_notes image = record {
  others = refl;
  grows = grows_same image image refl refl refl refl;
  rows = [];
  pushed = sym (append-nil image.notes);
  say = tt;
  cost = omega arith;
}

pub notes_after : (first second third : Image) (xs ys : List Note) → PutsNotes first second xs → PutsNotes second third ys → PutsNotes first third (xs ++ ys)
notes_after first second third xs ys a b = record {
  others = b.others ∙ ap (λ (i : Image). record i { notes = third.notes; pool = third.pool }) a.others;
  grows = grows_after first second third a.grows b.grows;
  rows = a.rows ++ b.rows;
  pushed = b.pushed ∙ ap (λ l. l ++ b.rows) a.pushed ∙ append_assoc first.notes a.rows b.rows;
  say = say_append third xs ys a.rows b.rows (notes_stay second third xs a.rows b.grows a.say) b.say;
  cost = let e = bytes-append xs ys in let f = a.cost in let g = b.cost in omega (arith, e, f, g);
}

-- one note: its texts, and then its row
module _ (old middle new : Image) (note : Note) (row : NoteRow) (texts : PutsNote old middle note row) where
  to_new : new.sets ≡ middle.sets → new.programs ≡ middle.programs → new.moves ≡ middle.moves → new.pool ≡ middle.pool → Grows old new
  to_new s p m q = grows_after old middle new texts.grows (grows_same middle new s p m q)

  pub note_put : new ≡ record middle { notes = middle.notes ++ row ∷ [] } → PutsNotes old new (note ∷ [])
  note_put put = record {
    others = others;
    grows = grows;
    rows = row ∷ [];
    pushed = ap (λ (i : Image). i.notes) put ∙ ap (λ (i : Image). i.notes ++ row ∷ []) texts.others;
    say = (note_stays middle new note row (grows_same middle new (ap (λ (i : Image). i.sets) put) (ap (λ (i : Image). i.programs) put) (ap (λ (i : Image). i.moves) put) (ap (λ (i : Image). i.pool) put)) texts.says, tt);
    cost = cost;
  }
    where
      grows : Grows old new
      grows = to_new (ap (λ (i : Image). i.sets) put) (ap (λ (i : Image). i.programs) put) (ap (λ (i : Image). i.moves) put) (ap (λ (i : Image). i.pool) put)

      others : new ≡ record old { notes = new.notes; pool = new.pool }
      others =
          let n : middle.notes ++ row ∷ [] ≡ new.notes = sym (ap (λ (i : Image). i.notes) put) in
          let p : middle.pool ≡ new.pool = sym (ap (λ (i : Image). i.pool) put) in
          let same : record old { notes = middle.notes ++ row ∷ []; pool = middle.pool } ≡ record old { notes = new.notes; pool = new.pool } =
          λ i. record old { notes = n i; pool = p i } in
          put ∙ ap (λ (i : Image). record i { notes = middle.notes ++ row ∷ [] }) texts.others ∙ same

      cost : encoded_length new ≤ encoded_length old + notes_bytes (note ∷ [])
      cost =
          let a = texts.cost in
          let b = in_parts middle in
          let c = in_parts new in
          let d : other_bytes new ≡ other_bytes middle = ap other_bytes put in
          let e : own_bytes new ≡ own_bytes (record middle { notes = middle.notes ++ row ∷ [] }) = ap own_bytes put in
          let f : length (middle.notes ++ row ∷ []) ≡ length middle.notes + 1 = length-append middle.notes (row ∷ []) in
          omega (arith, a, b, c, d, e, f)

-- ---- externals

pub no_externals : (image : Image) → image.externals ≡ [] → PutsExternals image image []
no_externals image e = record {
  others = refl;
  grows = grows_same image image refl refl refl refl;
  say = let P : List NoteRow → Type 0 = λ rows. SayNotes image [] rows in subst P (sym e) tt;
  cost = omega arith;
}

pub total-push : {X : Type 0} (weight : X → ℕ) (xs : List X) (x : X) → total weight (xs ++ x ∷ []) ≡ total weight xs + weight x
total-push weight [] x = omega arith
total-push weight (y ∷ xs) x = let rest = total-push weight xs x in omega (arith, rest)

pub external_put : (start old middle new : Image) (externals : List PlainExternal) (e : PlainExternal) (row : NoteRow) → PutsExternals start old externals
    → PutsNote old middle (external_note e) row → new ≡ record middle { externals = middle.externals ++ row ∷ [] } → PutsExternals start new (externals ++ e ∷ [])
external_put start old middle new externals e row done texts put = record {
  others = others;
  grows = grows_after start old new done.grows grows;
  say =
      let P : List NoteRow → Type 0 = λ rows. SayNotes new (map external_note (externals ++ e ∷ [])) rows in
      let Q : List Note → Type 0 = λ notes. SayNotes new notes (old.externals ++ row ∷ []) in
      let rows : new.externals ≡ old.externals ++ row ∷ [] = ap (λ (i : Image). i.externals) put ∙ ap (λ (i : Image). i.externals ++ row ∷ []) texts.others in
      let here = note_stays middle new (external_note e) row last_grows texts.says in
      let before = notes_stay old new (map external_note externals) old.externals grows done.say in
      subst P (sym rows) (subst Q (sym (map-append external_note externals (e ∷ [])))
      (say_append new (map external_note externals) (external_note e ∷ []) old.externals (row ∷ []) before (here, tt)));
  cost =
      let a = done.cost in
      let b = texts.cost in
      let c = in_parts middle in
      let d = in_parts new in
      let f : other_bytes new ≡ other_bytes middle = ap other_bytes put in
      let g : own_bytes new ≡ own_bytes (record middle { externals = middle.externals ++ row ∷ [] }) = ap own_bytes put in
      let h : length (middle.externals ++ row ∷ []) ≡ length middle.externals + 1 = length-append middle.externals (row ∷ []) in
      let w = total-push external_weight externals e in
      omega (arith, a, b, c, d, f, g, h, w);
}
  where
    last_grows : Grows middle new
    last_grows = grows_same middle new (ap (λ (i : Image). i.sets) put) (ap (λ (i : Image). i.programs) put) (ap (λ (i : Image). i.moves) put) (ap (λ (i : Image). i.pool) put)

    grows : Grows old new
    grows = grows_after old middle new texts.grows last_grows

    others : new ≡ record start { externals = new.externals; pool = new.pool }
    others =
        let n : middle.externals ++ row ∷ [] ≡ new.externals = sym (ap (λ (i : Image). i.externals) put) in
        let p : middle.pool ≡ new.pool = sym (ap (λ (i : Image). i.pool) put) in
        let same : record start { externals = middle.externals ++ row ∷ []; pool = middle.pool } ≡ record start { externals = new.externals; pool = new.pool } =
        λ i. record start { externals = n i; pool = p i } in
        put ∙ ap (λ (i : Image). record i { externals = middle.externals ++ row ∷ [] }) texts.others
        ∙ ap (λ (i : Image). record i { externals = middle.externals ++ row ∷ []; pool = middle.pool }) done.others ∙ same
