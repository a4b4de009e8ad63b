-- An image stays what it is while splits and strings are put into it, one after another.
use Rattle.std.proofs.Common.{◌≡◌, ℕ, ◌+◌, ◌*◌, ◌<◌, ◌≤◌, Bool, true, false, ◌⊎◌, inl, inr, suc, List, [], ◌∷◌, ◌++◌, length, map, take, drop, All, Some, slice_get, get_or, refl, sym, ap, ap₂, ◌∙◌, subst, arith}
use Rattle.std.proofs.lemmas.List.{length-append, length-map, append_assoc, append-nil, map-append}
use Rattle.std.proofs.lemmas.List.Elements.{All-append, All-nil, All-map, All-head, All-tail}
use Rattle.std.proofs.Math.Nat.{mul-le-mul_right}
use Rattle.std.proofs.lemmas.Option.{none-some, slice_get_within}
use Rattle.yr_base.specs.declared.border.Border.{Border}
use Rattle.yr_pattern.specs.Tree.{Tree}
use Rattle.yr_pattern.specs.Sizes.{size_of}
use Rattle.yr_pattern.specs.Variants.{PlainVariant, Body}
use Rattle.yr_pattern.specs.Variants as variant
use Rattle.yr_rules.specs.Rules.{PlainString}
use Rattle.yr_rules.specs.Weight.{total, string_weight, variant_weight, body_weight}
use Rattle.yr_pattern.specs.Variants.{IsSoundBody}
use Rattle.yr_rules.specs.Wellformed.{IsGoodVariant}
use Rattle.yr_atoms.specs.Splits.{Split, Piece, piece_size}
use Rattle.yr_atoms.specs.Splits as piece
use Rattle.yr_atoms.specs.Covers.{Covers, HaveAtomsOf, HasAtomOf, IsNoLarger, HasItsKey}
use Rattle.yr_atoms.specs.Pieces.{IsPlain, HasItsPieces, HaveItsPieces}
use Rattle.yr_image.specs.declared.rows.SplitRow.{SplitRow}
use Rattle.yr_image.specs.declared.rows.StringRow.{StringRow}
use Rattle.yr_image.specs.Image.{Image, pool_text}
use Rattle.yr_image.specs.Encoding.{encoded_length}
use Rattle.yr_machine.specs.ImageMatches.{border_of}
use Rattle.yr_draft.specs.Growing.{Grows}
use Rattle.yr_draft.specs.Added.{HasText}
use Rattle.yr_splits.specs.Placed.{Placed, place, place_all}
use Rattle.yr_splits.specs.SplitRows.{flag, IsSplitRow, AreSplitRows}
use Rattle.yr_splits.specs.Standing.{atoms_of}
use Rattle.yr_splits.specs.Programs.{AreProgramRows}
use Rattle.yr_splits.specs.Sizes.{piece_cost, row_cost, rows_cost, atom_cost, atoms_cost}
use Rattle.yr_splits.specs.Filling.{IsStringRow, SayStrings, IsSound, PutsSide, PutsSplits, IsLater, Filled, FilledPart}
use Rattle.yr_splits.proofs.GrowLemmas.{grows_after, grows_same, kept_range, longer, side_grows, no_rows, rows_grow, rows_more}
use Rattle.yr_splits.proofs.ProgramLemmas.{programs_stay}
use Rattle.yr_splits.proofs.PlacedLemmas.{push_place, no_strings, part_begins, part_more, part_ends}
use Rattle.yr_splits.proofs.LengthLemmas.{no_atoms, atoms_begin, atoms_more, atoms_end}
use Rattle.yr_splits.proofs.SideCostLemmas.{other_bytes, own_bytes, in_parts, text_cost, text_put}

-- ---- sums

pub rows_cost-append : (xs ys : List Placed) → rows_cost (xs ++ ys) ≡ rows_cost xs + rows_cost ys
rows_cost-append [] ys = omega arith
rows_cost-append (p ∷ xs) ys = let rest = rows_cost-append xs ys in omega (arith, rest)

pub atoms_cost-append : (xs ys : List Placed) → atoms_cost (xs ++ ys) ≡ atoms_cost xs + atoms_cost ys
atoms_cost-append [] ys = omega arith
atoms_cost-append (p ∷ xs) ys = let rest = atoms_cost-append xs ys in omega (arith, rest)

pub total-push : {X : Type 0} (weight : X → ℕ) (xs : List X) (x : X) → total weight (xs ++ x ∷ []) ≡ total weight xs + weight x
total-push weight [] x = omega arith
total-push weight (y ∷ xs) x = let rest = total-push weight xs x in omega (arith, rest)

-- ---- splits

pub no_splits_put : (image : Image) → PutsSplits image image []
no_splits_put image = record {
  others = refl;
  grows = grows_same image image refl refl refl refl;
  programs = λ h. h;
  rows = λ placed h. subst (AreSplitRows image) (sym (append-nil placed)) h;
  cost = omega arith;
}

pub splits_put_after : (first second third : Image) (xs ys : List Placed) → PutsSplits first second xs → PutsSplits second third ys → PutsSplits first third (xs ++ ys)
splits_put_after first second third xs ys a b = record {
  others = b.others ∙ ap (λ (i : Image). record i { splits = third.splits; sets = third.sets; programs = third.programs; moves = third.moves; pool = third.pool }) a.others;
  grows = grows_after first second third a.grows b.grows;
  programs = λ h. b.programs (a.programs h);
  rows = λ placed h. subst (AreSplitRows third) (append_assoc placed xs ys) (b.rows (placed ++ xs) (a.rows placed h));
  cost = let e = rows_cost-append xs ys in let f = a.cost in let g = b.cost in omega (arith, e, f, g);
}

-- both sides of a split, and then its row
module _ (first second third last : Image) (p : Placed) (row : SplitRow)
    (before : PutsSide first second true p.split.before row.before_kind row.before_place row.before_length)
    (after : PutsSide second third false p.split.after row.after_kind row.after_place row.after_length)
    (put : last ≡ record third { splits = third.splits ++ row ∷ [] }) where
  sides_grow : Grows first third
  sides_grow = grows_after first second third before.grows after.grows

  end_grows : Grows third last
  end_grows = grows_same third last (ap (λ (i : Image). i.sets) put) (ap (λ (i : Image). i.programs) put) (ap (λ (i : Image). i.moves) put) (ap (λ (i : Image). i.pool) put)

  same_programs : AreProgramRows third → AreProgramRows last
  same_programs h = programs_stay third last end_grows (ap (λ (i : Image). i.programs) put) (ap (λ (i : Image). i.moves) put) h

  same_splits : third.splits ≡ first.splits
  same_splits = ap (λ (i : Image). i.splits) after.others ∙ ap (λ (i : Image). i.splits) before.others

  split_others : last ≡ record first { splits = last.splits; sets = last.sets; programs = last.programs; moves = last.moves; pool = last.pool }
  split_others =
      let two : third ≡ record first { sets = third.sets; programs = third.programs; moves = third.moves; pool = third.pool } =
      after.others ∙ ap (λ (i : Image). record i { sets = third.sets; programs = third.programs; moves = third.moves; pool = third.pool }) before.others in
      let splits : third.splits ++ row ∷ [] ≡ last.splits = sym (ap (λ (i : Image). i.splits) put) in
      let sets : third.sets ≡ last.sets = sym (ap (λ (i : Image). i.sets) put) in
      let programs : third.programs ≡ last.programs = sym (ap (λ (i : Image). i.programs) put) in
      let moves : third.moves ≡ last.moves = sym (ap (λ (i : Image). i.moves) put) in
      let pool : third.pool ≡ last.pool = sym (ap (λ (i : Image). i.pool) put) in
      let same : record first { splits = third.splits ++ row ∷ []; sets = third.sets; programs = third.programs; moves = third.moves; pool = third.pool }
      ≡ record first { splits = last.splits; sets = last.sets; programs = last.programs; moves = last.moves; pool = last.pool } =
      λ i. record first { splits = splits i; sets = sets i; programs = programs i; moves = moves i; pool = pool i } in
      put ∙ ap (λ (i : Image). record i { splits = third.splits ++ row ∷ [] }) two ∙ same

  pub split_put : row.string ≡ p.string → border_of row.border ≡ Some p.border → row.key ≡ p.split.key → row.fold ≡ flag p.split.fold
      → row.atom_length ≡ length p.split.atom → PutsSplits first last (p ∷ [])
  split_put string border key fold atom = record {
    others = split_others;
    grows = grows_after first third last sides_grow end_grows;
    programs = λ h. same_programs (after.programs (before.programs h));
    rows = λ placed h. rows_more first last placed p row (grows_after first third last sides_grow end_grows)
        (ap (λ (i : Image). i.splits) put ∙ ap (λ l. l ++ row ∷ []) same_splits) is h;
    cost = cost;
  }
    where
      is : IsSplitRow last p row
      is = record {
        string = string;
        border = border;
        key = key;
        fold = fold;
        atom = atom;
        before = side_grows second last true p.split.before row.before_kind row.before_place row.before_length (grows_after second third last after.grows end_grows) before.is;
        after = side_grows third last false p.split.after row.after_kind row.after_place row.after_length end_grows after.is;
      }

      cost : encoded_length last ≤ encoded_length first + rows_cost (p ∷ [])
      cost =
          let a = before.cost in
          let b = after.cost in
          let c = in_parts third in
          let d = in_parts last in
          let e : other_bytes last ≡ other_bytes third = ap other_bytes put in
          let f : own_bytes last ≡ own_bytes (record third { splits = third.splits ++ row ∷ [] }) = ap own_bytes put in
          let g : length (third.splits ++ row ∷ []) ≡ length third.splits + 1 = length-append third.splits (row ∷ []) in
          omega (arith, a, b, c, d, e, f, g)

-- ---- strings

pub say_none : (image : Image) → image.strings ≡ [] → SayStrings image []
say_none image e = record { count = ap length e; each = λ k s row h g. absurd (none-some s h) }

string_row_grows : (old new : Image) (string : PlainString) (row : StringRow) → Grows old new → IsStringRow old string row → IsStringRow new string row
string_row_grows old new string row g r =
    let more : length old.pool ≤ length new.pool = longer old.pool new.pool g.pool in
    record {
      inside = let b = r.inside in omega (arith, b, more);
      name = kept_range old.pool new.pool row.name_place row.name_length g.pool r.inside ∙ r.name;
      flags = r.flags;
      rule = r.rule;
    }

pub say_stays : (old new : Image) (strings : List PlainString) → Grows old new → new.strings ≡ old.strings → SayStrings old strings → SayStrings new strings
say_stays old new strings g e a = record {
  count = ap length e ∙ a.count;
  each = λ k s row h f. string_row_grows old new s row g (a.each k s row h (ap (λ l. slice_get l k) (sym e) ∙ f));
}

pub say_more : (old new : Image) (strings : List PlainString) (string : PlainString) (row : StringRow) → Grows old new → new.strings ≡ old.strings ++ row ∷ []
    → IsStringRow new string row → SayStrings old strings → SayStrings new (strings ++ string ∷ [])
say_more old new strings string row g e r a = record {
  count = ap length e ∙ length-append old.strings (row ∷ []) ∙ ap (λ n. n + 1) a.count ∙ sym (length-append strings (string ∷ []));
  each = λ k s other h f. at k s other (push_place strings string k s h) (push_place old.strings row k other (ap (λ l. slice_get l k) (sym e) ∙ f));
}
  where
    at : (k : ℕ) (s : PlainString) (other : StringRow) → (slice_get strings k ≡ Some s) ⊎ ((k ≡ length strings) × (string ≡ s))
        → (slice_get old.strings k ≡ Some other) ⊎ ((k ≡ length old.strings) × (row ≡ other)) → IsStringRow new s other
    at k s other (inl h) (inl f) = string_row_grows old new s other g (a.each k s other h f)
    at k s other (inl h) (inr f) = let b : k < length strings = slice_get_within strings k s h in absurd (omega (arith, b, f.0, a.count))
    at k s other (inr h) (inl f) = let b : k < length old.strings = slice_get_within old.strings k other f in absurd (omega (arith, b, h.0, a.count))
    at k s other (inr h) (inr f) =
        let P : PlainString → Type 0 = λ x. IsStringRow new x row in
        let Q : StringRow → Type 0 = λ x. IsStringRow new s x in
        subst Q f.1 (subst P h.1 r)

-- ---- what comes later

later_same : (image : Image) → IsLater image image
later_same image = record { others = refl; grows = grows_same image image refl refl refl refl; programs = λ h. h }

-- the image, with the sections of another one in which strings and splits are put
abbrev with_sections : Image → Image → Image
with_sections image other =
    record image { strings = other.strings; splits = other.splits; sets = other.sets; programs = other.programs; moves = other.moves; pool = other.pool }

later_after : (start old new : Image) → IsLater start old → new ≡ with_sections old new → Grows old new → (AreProgramRows old → AreProgramRows new) → IsLater start new
later_after start old new a others grows programs = record {
  others = others ∙ ap (λ i. with_sections i new) a.others;
  grows = grows_after start old new a.grows grows;
  programs = λ h. programs (a.programs h);
}

splits_sections : (old new : Image) (added : List Placed) → PutsSplits old new added → new ≡ with_sections old new
splits_sections old new added a =
    let strings : old.strings ≡ new.strings = sym (ap (λ (i : Image). i.strings) a.others) in
    let same : record old { splits = new.splits; sets = new.sets; programs = new.programs; moves = new.moves; pool = new.pool } ≡ with_sections old new =
    λ i. record old { strings = strings i; splits = new.splits; sets = new.sets; programs = new.programs; moves = new.moves; pool = new.pool } in
    a.others ∙ same

-- ---- the cover of a variant

split_costs : (splits : List Split) (string : ℕ) (border : Border) (most : ℕ) → All (λ s. row_cost s + atom_cost s ≤ most) splits
    → rows_cost (place_all string border splits) + atoms_cost (place_all string border splits) ≤ length splits * most
split_costs [] string border most h = omega arith
split_costs (s ∷ splits) string border most h =
    let here = All-head (λ x. row_cost x + atom_cost x ≤ most) s splits h in
    let rest = split_costs splits string border most (All-tail (λ x. row_cost x + atom_cost x ≤ most) s splits h) in
    let more : suc (length splits) * most ≡ most + length splits * most = omega arith in
    omega (arith, here, rest, more)

plain_cost : (p : Piece) → IsPlain p → piece_cost p ≤ piece_size p
plain_cost piece.Nothing h = omega arith
plain_cost (piece.Literal bytes) h = omega arith
plain_cost (piece.Shape tree) h = absurd h

any_cost : (p : Piece) → piece_cost p ≤ 24 + 48 * piece_size p
any_cost piece.Nothing = omega arith
any_cost (piece.Literal bytes) = omega arith
any_cost (piece.Shape tree) = omega arith

-- of one split
module _ (split : Split) where
  literal_split : (bytes : List ℕ) (key : ℕ) (fold : Bool) → IsNoLarger (variant.Literal bytes key fold) split → HasAtomOf (variant.Literal bytes key fold) split
      → HasItsPieces (variant.Literal bytes key fold) split → row_cost split + atom_cost split ≤ 164 + length bytes
  literal_split bytes key fold small atom plain =
      let a = plain_cost split.before plain.0 in
      let b = plain_cost split.after plain.1 in
      let four : length split.atom ≤ 4 = omega (arith, atom) in
      omega (arith, a, b, small, four)

  shape_split : (tree : Tree) → IsNoLarger (variant.Shape tree) split → HasAtomOf (variant.Shape tree) split → row_cost split + atom_cost split ≤ 212 + 48 * size_of tree
  shape_split tree small atom =
      let a = any_cost split.before in
      let b = any_cost split.after in
      let four : length split.atom ≤ 4 = atom.1 in
      omega (arith, a, b, small, four)

few_times : (count most : ℕ) → count ≤ 16 → count * most ≤ 16 * most
few_times count most h = mul-le-mul_right most h

pub variant_cost : (v : PlainVariant) (splits : List Split) (string : ℕ) → Covers v.body splits → HaveAtomsOf v.body splits → HaveItsPieces v.body splits
    → rows_cost (place_all string v.border splits) + atoms_cost (place_all string v.border splits) ≤ 64 * variant_weight v
variant_cost v splits string covers atoms pieces = at v.body covers atoms pieces
  where
    at : (body : Body) → Covers body splits → HaveAtomsOf body splits → HaveItsPieces body splits
        → rows_cost (place_all string v.border splits) + atoms_cost (place_all string v.border splits) ≤ 64 * body_weight body
    at (variant.Literal bytes key fold) c a p =
        let each = split_costs splits string v.border (164 + length bytes)
        (λ k d b. literal_split (get_or splits k d) bytes key fold (c.small k d b) (a k d b) (p k d b)) in
        let few = few_times (length splits) (164 + length bytes) c.few in omega (arith, each, few)
    at (variant.Shape tree) c a p =
        let each = split_costs splits string v.border (212 + 48 * size_of tree) (λ k d b. shape_split (get_or splits k d) tree (c.small k d b) (a k d b)) in
        let few = few_times (length splits) (212 + 48 * size_of tree) c.few in omega (arith, each, few)

body_heavy : (body : Body) → 64 ≤ body_weight body
body_heavy (variant.Literal bytes key fold) = omega arith
body_heavy (variant.Shape tree) = omega arith

sound_split : (body : Body) (split : Split) → IsSoundBody body → HasItsKey body split → HasAtomOf body split → (length split.atom ≤ 4) × (split.fold ≡ true → split.key ≡ 0)
sound_split (variant.Literal bytes key fold) split sound keys atom = (omega (arith, atom), λ h. keys.0 ∙ sound.1 (sym keys.1 ∙ h))
sound_split (variant.Shape tree) split sound keys atom = (atom.1, λ h. keys.0)

pub variant_sound : (v : PlainVariant) (splits : List Split) (string : ℕ) → IsGoodVariant v → Covers v.body splits → HaveAtomsOf v.body splits → All IsSound (place_all string v.border splits)
variant_sound v splits string good covers atoms =
    All-map IsSound (place string v.border) splits
    (λ k d b. let s = sound_split v.body (get_or splits k d) good.0 (covers.keys k d b) (atoms k d b) in record { short = s.0; one = s.1 })

placed_atoms : (splits : List Split) (string : ℕ) (border : Border) → atoms_of (place_all string border splits) ≡ map (λ (s : Split). s.atom) splits
placed_atoms [] string border = refl
placed_atoms (s ∷ splits) string border = ap (λ l. s.atom ∷ l) (placed_atoms splits string border)

-- ---- strings, one after another

pub filled_none : (start : Image) → start.strings ≡ [] → start.splits ≡ [] → Filled start start [] [] []
filled_none start strings splits = record {
  has = record { splits = no_strings; rows = no_rows start splits; string_rows = say_none start strings; long = no_atoms; sound = All-nil IsSound };
  later = later_same start;
  atoms_are = refl;
  few = omega arith;
  cost = omega arith;
}

pub filled_begins : (start image : Image) (placed : List Placed) (strings : List PlainString) (atoms : List (List ℕ)) → Filled start image placed strings atoms
    → FilledPart start image placed strings [] atoms
filled_begins start image placed strings atoms f = record {
  has = record {
    splits = part_begins placed strings f.has.splits;
    rows = f.has.rows;
    string_rows = f.has.string_rows;
    long = atoms_begin placed strings f.has.splits.below f.has.long;
    sound = f.has.sound;
  };
  later = f.later;
  atoms_are = f.atoms_are;
  few = let c = f.few in omega (arith, c);
  cost = let c = f.cost in omega (arith, c);
}

pub filled_more : (start old new : Image) (placed : List Placed) (strings : List PlainString) (variants : List PlainVariant) (atoms : List (List ℕ)) (v : PlainVariant) (splits : List Split)
    → IsGoodVariant v → Covers v.body splits → HaveAtomsOf v.body splits → HaveItsPieces v.body splits
    → PutsSplits old new (place_all (length strings) v.border splits) → FilledPart start old placed strings variants atoms
    → FilledPart start new (placed ++ place_all (length strings) v.border splits) strings (variants ++ v ∷ []) (atoms ++ map (λ (s : Split). s.atom) splits)
filled_more start old new placed strings variants atoms v splits good covers long pieces put f = record {
  has = record {
    splits = part_more placed strings variants v splits covers f.has.splits;
    rows = put.rows placed f.has.rows;
    string_rows = say_stays old new strings put.grows (ap (λ (i : Image). i.strings) put.others) f.has.string_rows;
    long = atoms_more placed strings variants v splits long f.has.long;
    sound = All-append IsSound placed (place_all (length strings) v.border splits) f.has.sound (variant_sound v splits (length strings) good covers long);
  };
  later = later_after start old new f.later (splits_sections old new (place_all (length strings) v.border splits) put) put.grows put.programs;
  atoms_are =
      ap₂ (λ (x y : List (List ℕ)). x ++ y) f.atoms_are (sym (placed_atoms splits (length strings) v.border))
      ∙ sym (map-append (λ (p : Placed). p.split.atom) placed (place_all (length strings) v.border splits));
  few =
      let a = f.few in
      let b = length-append placed (place_all (length strings) v.border splits) in
      let c = length-map splits (place (length strings) v.border) in
      let d = covers.few in
      let e = total-push variant_weight variants v in
      let g = body_heavy v.body in omega (arith, a, b, c, d, e, g);
  cost =
      let a = f.cost in
      let b = put.cost in
      let c = variant_cost v splits (length strings) covers long pieces in
      let d = atoms_cost-append placed (place_all (length strings) v.border splits) in
      let e = total-push variant_weight variants v in omega (arith, a, b, c, d, e);
}

-- the name and the row of a string are put after its splits
module _ (start old middle new : Image) (placed : List Placed) (strings : List PlainString) (string : PlainString) (atoms : List (List ℕ)) (place : ℕ) (row : StringRow)
    (text : HasText old middle string.name place) (put : new ≡ record middle { strings = middle.strings ++ row ∷ [] })
    (place_is : row.name_place ≡ place) (length_is : row.name_length ≡ length string.name)
    (flags : row.flags ≡ flag string.hidden + 2 * flag string.greedy) (rule : row.rule ≡ string.rule)
    (f : FilledPart start old placed strings string.variants atoms) where
  to_middle : Grows old middle
  to_middle = (text_put old middle string.name place text true).grows

  to_new : Grows middle new
  to_new = grows_same middle new (ap (λ (i : Image). i.sets) put) (ap (λ (i : Image). i.programs) put) (ap (λ (i : Image). i.moves) put) (ap (λ (i : Image). i.pool) put)

  to_end : Grows old new
  to_end = grows_after old middle new to_middle to_new

  sections : new ≡ with_sections old new
  sections =
      let two : middle ≡ record old { pool = middle.pool } = text.others in
      let strings_are : middle.strings ++ row ∷ [] ≡ new.strings = sym (ap (λ (i : Image). i.strings) put) in
      let splits_are : old.splits ≡ new.splits = sym (ap (λ (i : Image). i.splits) text.others) ∙ sym (ap (λ (i : Image). i.splits) put) in
      let sets_are : old.sets ≡ new.sets = sym (ap (λ (i : Image). i.sets) text.others) ∙ sym (ap (λ (i : Image). i.sets) put) in
      let programs_are : old.programs ≡ new.programs = sym (ap (λ (i : Image). i.programs) text.others) ∙ sym (ap (λ (i : Image). i.programs) put) in
      let moves_are : old.moves ≡ new.moves = sym (ap (λ (i : Image). i.moves) text.others) ∙ sym (ap (λ (i : Image). i.moves) put) in
      let pool_is : middle.pool ≡ new.pool = sym (ap (λ (i : Image). i.pool) put) in
      let same : record old { strings = middle.strings ++ row ∷ []; pool = middle.pool } ≡ with_sections old new =
      λ i. record old { strings = strings_are i; splits = splits_are i; sets = sets_are i; programs = programs_are i; moves = moves_are i; pool = pool_is i } in
      put ∙ ap (λ (i : Image). record i { strings = middle.strings ++ row ∷ [] }) two ∙ same

  row_says : IsStringRow new string row
  row_says =
      let P : ℕ → Type 0 = λ n. n + length string.name ≤ length new.pool in
      let pool_is : new.pool ≡ middle.pool = ap (λ (i : Image). i.pool) put in
      let inside : place + length string.name ≤ length middle.pool = text.inside in
      let longest : length new.pool ≡ length middle.pool = ap length pool_is in
      record {
        inside = omega (arith, place_is, length_is, inside, longest);
        name = ap₂ (λ (p n : ℕ). pool_text new p n) place_is length_is ∙ ap (λ (l : List ℕ). take (length string.name) (drop place l)) pool_is ∙ text.reads;
        flags = flags;
        rule = rule;
      }

  end_cost : encoded_length new ≤ encoded_length old + length string.name + 16
  end_cost =
      let a = text_cost old middle string.name place text in
      let c = in_parts middle in
      let d = in_parts new in
      let e : other_bytes new ≡ other_bytes middle = ap other_bytes put in
      let g : own_bytes new ≡ own_bytes (record middle { strings = middle.strings ++ row ∷ [] }) = ap own_bytes put in
      let h : length (middle.strings ++ row ∷ []) ≡ length middle.strings + 1 = length-append middle.strings (row ∷ []) in
      omega (arith, a, c, d, e, g, h)

  kept_splits : new.splits ≡ old.splits
  kept_splits = ap (λ (i : Image). i.splits) put ∙ ap (λ (i : Image). i.splits) text.others

  kept_strings : middle.strings ≡ old.strings
  kept_strings = ap (λ (i : Image). i.strings) text.others

  keeps_programs : AreProgramRows old → AreProgramRows new
  keeps_programs h =
      programs_stay middle new to_new (ap (λ (i : Image). i.programs) put) (ap (λ (i : Image). i.moves) put) ((text_put old middle string.name place text true).programs h)

  pub filled_ends : Filled start new placed (strings ++ string ∷ []) atoms
  filled_ends = record {
    has = record {
      splits = part_ends placed strings string f.has.splits;
      rows = rows_grow old new placed to_end kept_splits f.has.rows;
      string_rows = say_more old new strings string row to_end (ap (λ (i : Image). i.strings) put ∙ ap (λ l. l ++ row ∷ []) kept_strings) row_says f.has.string_rows;
      long = atoms_end placed strings string f.has.long;
      sound = f.has.sound;
    };
    later = later_after start old new f.later sections to_end keeps_programs;
    atoms_are = f.atoms_are;
    few = let a = f.few in let c = total-push string_weight strings string in omega (arith, a, c);
    cost =
        let a = f.cost in
        let b = end_cost in
        let c = total-push string_weight strings string in omega (arith, a, b, c);
  }
