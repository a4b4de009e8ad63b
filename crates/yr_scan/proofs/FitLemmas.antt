-- The values with which an image runs fit its externals, where no word misfits.
use Rattle.std.proofs.Common.{◌≡◌, ◌≢◌, ℕ, zero, suc, ◌+◌, ◌-◌, ◌<◌, ◌≤◌, Bool, true, false, cond, List, [], ◌∷◌, ◌++◌, length, map, take, drop, Option, Some, None, refl, sym, ap, ◌∙◌, subst, arith}
use Rattle.std.specs.Prelude.{slice_get, slice_index_or, codes}
use Rattle.yr_words.specs.declared.value.Given as declared
use Rattle.yr_words.specs.Shown.{given_shown}
use Rattle.std.specs.Option.{option_map, option_or}
use Rattle.std.specs.Str.{bytes_eq}
use Rattle.std.proofs.lemmas.List.{length-map, drop_all, take_all}
use Rattle.std.proofs.lemmas.Option.{slice_get-map}
use Rattle.std.proofs.lemmas.Slice.Eq.{bytes_eq-Decides}
use Rattle.yr_base.specs.declared.value.Kind.{Kind}
use Rattle.yr_values.specs.Values.{Value, kind_of}
use Rattle.yr_values.specs.Modules.{IsOfKind}
use Rattle.yr_rules.specs.Rules.{PlainExternal}
use Rattle.yr_name_tables.specs.Names.{first}
use Rattle.yr_image.specs.declared.rows.NoteRow.{NoteRow}
use Rattle.yr_image.specs.declared.fault.ImageFault.TheVariants.{Name}
use Rattle.yr_image.specs.Image.{Image}
use Rattle.yr_image.specs.Reading.{image_in}
use Rattle.yr_machine.specs.ImageRun.{FitExternals, value_of}
use Rattle.yr_machine.specs.Names.{note_name}
use Rattle.yr_machine.specs.Roles.{kind_of_note}
use Rattle.yr_machine.specs.Wellformed.{IsWellformed}
use Rattle.yr_preserves.specs.Preserves.{external_in, externals_in, HaveKindsOf, IsGivenValue}
use Rattle.yr_words.specs.Values.{Given}
use Rattle.yr_scan.specs.declared.misfits.Misfit.{Misfit}
use Rattle.yr_scan.specs.Misfits.{refusal_of}
use Rattle.yr_outcome.specs.Front.{Refusal}
use Rattle.yr_outcome.specs.Externals.{external_named, misfit, first_misfit, given_value, values_with, same_kind, external_refusal}
use Rattle.yr_scan.proofs.ExternalLemmas.{good_external, own_kind, kind_kept}

same_name : (a b : List ℕ) → a ≡ b → bytes_eq a b ≡ true
same_name a b e = grind (arith, bytes_eq-Decides)

other_name : (a b : List ℕ) → a ≢ b → bytes_eq a b ≡ false
other_name a b e = grind (arith, bytes_eq-Decides)

equal_name : (a b : List ℕ) → bytes_eq a b ≡ true → a ≡ b
equal_name a b e = grind (arith, bytes_eq-Decides)

drop_at : {A : Type 0} (xs : List A) (k : ℕ) (x : A) → slice_get xs k ≡ Some x → drop k xs ≡ x ∷ drop (suc k) xs
drop_at [] k x e = let f : None ≡ Some x = e in cc
drop_at (y ∷ ys) zero x e =
    let f : Some y ≡ Some x = e in
    let same : y ≡ x = cc in
    ap (λ z. z ∷ ys) same
drop_at (y ∷ ys) (suc k) x e = drop_at ys k x e

module _ (image : Image) (rows : List NoteRow) (name : List ℕ) (k : ℕ) (row : NoteRow) (at : slice_get rows k ≡ Some row) where
  abbrev past : ℕ → Option PlainExternal
  past n = external_named name (map (external_in image) (drop n rows))

  opened : past k ≡ external_named name (external_in image row ∷ map (external_in image) (drop (suc k) rows))
  opened = ap (λ (l : List NoteRow). external_named name (map (external_in image) l)) (drop_at rows k row at)

  -- the row has another name, or this one
  pub found_next : bytes_eq (note_name image row) name ≡ false → past k ≡ past (k + 1)
  found_next other =
      let next : suc k ≡ k + 1 = omega arith in
      opened ∙ ap (λ b. cond b (Some (external_in image row)) (past (suc k))) other ∙ ap past next

  pub found_here : bytes_eq (note_name image row) name ≡ true → past k ≡ Some (external_in image row)
  found_here this = opened ∙ ap (λ b. cond b (Some (external_in image row)) (past (suc k))) this

pub found_none : (image : Image) (rows : List NoteRow) (name : List ℕ) (k : ℕ) → length rows ≤ k → external_named name (map (external_in image) (drop k rows)) ≡ None
found_none image rows name k long = ap (λ (l : List NoteRow). external_named name (map (external_in image) l)) (drop_all k rows long)

pub take_at : {A : Type 0} (xs : List A) (k : ℕ) (x : A) → slice_get xs k ≡ Some x → take (suc k) xs ≡ take k xs ++ x ∷ []
take_at [] k x e = let f : None ≡ Some x = e in cc
take_at (y ∷ ys) zero x e =
    let f : Some y ≡ Some x = e in
    let same : y ≡ x = cc in
    ap (λ z. z ∷ []) same
take_at (y ∷ ys) (suc k) x e = ap (λ l. y ∷ l) (take_at ys k x e)

pub map_last : {A B : Type 0} (f : A → B) (xs : List A) (x : A) → map f (xs ++ x ∷ []) ≡ map f xs ++ f x ∷ []
map_last f [] x = refl
map_last f (y ∷ ys) x = ap (λ l. f y ∷ l) (map_last f ys x)

-- the values of the first rows, and of one more
pub next_value : (image : Image) (givens : List Given) (rows : List NoteRow) (k : ℕ) (row : NoteRow) (values : List Value) (v : Value) → slice_get rows k ≡ Some row
    → values ≡ values_with givens (map (external_in image) (take k rows)) → v ≡ given_value givens (note_name image row) (value_of image row)
    → values ++ v ∷ [] ≡ values_with givens (map (external_in image) (take (k + 1) rows))
next_value image givens rows k row values v at before here =
    let f : PlainExternal → Value = λ (e : PlainExternal). given_value givens e.name e.value in
    let longer : values_with givens (map (external_in image) (take (suc k) rows)) ≡ values_with givens (map (external_in image) (take k rows)) ++ given_value givens (note_name image row) (value_of image row) ∷ [] =
    ap (λ (l : List NoteRow). values_with givens (map (external_in image) l)) (take_at rows k row at)
    ∙ ap (values_with givens) (map_last (external_in image) (take k rows) row)
    ∙ map_last f (map (external_in image) (take k rows)) (external_in image row) in
    let next : suc k ≡ k + 1 = omega arith in
    ap (λ l. l ++ v ∷ []) before ∙ ap (λ w. values_with givens (map (external_in image) (take k rows)) ++ w ∷ []) here ∙ sym longer
    ∙ ap (λ n. values_with givens (map (external_in image) (take n rows))) next

-- the first row of a name
pub named_at : (image : Image) (rows : List NoteRow) (k : ℕ) (row : NoteRow) → slice_get rows k ≡ Some row
    → ((j : ℕ) → j < k → (other : NoteRow) → slice_get rows j ≡ Some other → note_name image other ≢ note_name image row)
    → external_named (note_name image row) (map (external_in image) rows) ≡ Some (external_in image row)
named_at image [] k row at new = let e : None ≡ Some row = at in cc
named_at image (r ∷ rows) zero row at new =
    let e : Some r ≡ Some row = at in
    let same : r ≡ row = cc in
    subst (λ (q : NoteRow). external_named (note_name image row) (external_in image q ∷ map (external_in image) rows) ≡ Some (external_in image row)) (sym same)
    (ap (λ b. cond b (Some (external_in image row)) (external_named (note_name image row) (map (external_in image) rows))) (same_name (note_name image row) (note_name image row) refl))
named_at image (r ∷ rows) (suc k) row at new =
    ap (λ b. cond b (Some (external_in image r)) (external_named (note_name image row) (map (external_in image) rows)))
    (other_name (note_name image r) (note_name image row) (new 0 (omega arith) r refl))
    ∙ named_at image rows k row at (λ j l other there. new (suc j) (omega (arith, l)) other there)

none_of_both : {B : Type 0} (a b : Option B) → option_or a b ≡ None → (a ≡ None) × (b ≡ None)
none_of_both None b e = (refl, e)
none_of_both (Some x) b e = let f : Some x ≡ None = e in cc

none_if : {B : Type 0} (b : Bool) (x : B) → cond b None (Some x) ≡ None → b ≡ true
none_if true x e = refl
none_if false x e = let f : Some x ≡ None = e in cc

module _ (externals : List PlainExternal) (name : List ℕ) (own : Value) (k : Kind) (e : PlainExternal)
    (there : external_named name externals ≡ Some e) (of_kind : IsOfKind k e.value) (own_is : IsOfKind k own) where
  -- the word's value, where it gives one to the name, or what the others give
  given_by : (g : Given) (rest : Value) (b : Bool) → bytes_eq g.name name ≡ b → misfit g (external_named g.name externals) ≡ None → IsOfKind k rest
      → IsOfKind k (cond b g.value rest)
  given_by g rest true is fits later =
      let here : misfit g (Some e) ≡ None = subst (λ (o : Option PlainExternal). misfit g o ≡ None) there (subst (λ n. misfit g (external_named n externals) ≡ None) (equal_name g.name name is) fits) in
      kind_kept k e.value g.value (none_if (same_kind e.value g.value) _ here) of_kind
  given_by g rest false is fits later = later

  pub given_fits : (givens : List Given) → first_misfit externals givens ≡ None → IsOfKind k (given_value givens name own)
  given_fits [] fits = own_is
  given_fits (g ∷ gs) fits =
      let both = none_of_both (misfit g (external_named g.name externals)) (first_misfit externals gs) fits in
      given_by g (given_value gs name own) (bytes_eq g.name name) refl both.0 (given_fits gs both.1)

module _ (bytes : List ℕ) (passes : IsWellformed bytes) (givens : List Given) (fits : first_misfit (externals_in bytes) givens ≡ None) where
  abbrev image : Image
  image = image_in bytes

  each : (k : ℕ) (row : NoteRow) (value : Value) → slice_get image.externals k ≡ Some row → slice_get (values_with givens (externals_in bytes)) k ≡ Some value
      → IsOfKind (kind_of_note row.kind) value
  each k row value at found =
      let good = good_external bytes k row passes at in
      let own = own_kind image row good in
      let names = ((passes (Name 2 k)).externals refl row at).1 in
      let there : external_named (note_name image row) (externals_in bytes) ≡ Some (external_in image row) =
      named_at image image.externals k row at (λ j l other is. names j l other is) in
      let is : IsOfKind (kind_of_note row.kind) (given_value givens (note_name image row) (value_of image row)) =
      given_fits (externals_in bytes) (note_name image row) (value_of image row) (kind_of_note row.kind) (external_in image row) there own own givens fits in
      let here : slice_get (values_with givens (externals_in bytes)) k ≡ Some (given_value givens (note_name image row) (value_of image row)) =
      slice_get-map (λ (e : PlainExternal). given_value givens e.name e.value) (externals_in bytes) k
      ∙ ap (option_map (λ (e : PlainExternal). given_value givens e.name e.value)) (slice_get-map (external_in image) image.externals k ∙ ap (option_map (external_in image)) at) in
      let same : Some value ≡ Some (given_value givens (note_name image row) (value_of image row)) = sym found ∙ here in
      let equal : given_value givens (note_name image row) (value_of image row) ≡ value = cc in
      subst (IsOfKind (kind_of_note row.kind)) equal is

  pub fit_externals : FitExternals image (values_with givens (externals_in bytes))
  fit_externals = record {
    count = length-map (externals_in bytes) (λ (e : PlainExternal). given_value givens e.name e.value) ∙ length-map image.externals (external_in image);
    each = each;
  }

-- the own values of externals have their kinds
pub kinds_of_own : (externals : List PlainExternal) → map kind_of (map (λ (e : PlainExternal). e.value) externals) ≡ map (λ (e : PlainExternal). kind_of e.value) externals
kinds_of_own [] = refl
kinds_of_own (e ∷ es) = ap (λ l. kind_of e.value ∷ l) (kinds_of_own es)

-- where the kinds are the same, or are not
pub fits_kind : (g : Given) (externals : List PlainExternal) (e : PlainExternal) (b : Bool) → Some e ≡ external_named g.name externals → b ≡ same_kind e.value g.value → b ≡ true
    → None ≡ misfit g (external_named g.name externals)
fits_kind g externals e b there same is =
    sym (ap (misfit g) (sym there) ∙ ap (λ k. cond k None (Some (external_refusal g.name (codes "Kind")))) (sym same ∙ is))

pub misfits_kind : (g : Given) (externals : List PlainExternal) (e : PlainExternal) (b : Bool) → Some e ≡ external_named g.name externals → b ≡ same_kind e.value g.value → b ≡ false
    → Some (external_refusal g.name (codes "Kind")) ≡ misfit g (external_named g.name externals)
misfits_kind g externals e b there same is =
    sym (ap (misfit g) (sym there) ∙ ap (λ k. cond k None (Some (external_refusal g.name (codes "Kind")))) (sym same ∙ is))

-- past the last word the own value stays
pub nothing_left : (rest : List declared.Given) (name : List ℕ) (own : Value) → length rest < 1 → given_value (map given_shown rest) name own ≡ own
nothing_left [] name own l = refl
nothing_left (g ∷ gs) name own l = absurd (omega (arith, l))

-- the first word misfits
pub head_misfit : (externals : List PlainExternal) (rest : List declared.Given) (d : declared.Given) (m : Misfit) → 1 ≤ length rest
    → Some (refusal_of (slice_index_or rest 0 d).name.now m) ≡ misfit (given_shown (slice_index_or rest 0 d)) (external_named (slice_index_or rest 0 d).name.now externals)
    → Some (refusal_of (slice_index_or rest 0 d).name.now m) ≡ first_misfit externals (map given_shown rest)
head_misfit externals [] d m l h = absurd (omega (arith, l))
head_misfit externals (g ∷ gs) d m l h = ap (λ o. option_or o (first_misfit externals (map given_shown gs))) h

take_tail : {A : Type 0} (n : ℕ) (xs : List A) → n ≡ length xs → take n xs ≡ xs
take_tail n xs e = take_all n xs (omega (arith, e))

-- or it fits
pub tail_misfit : (externals : List PlainExternal) (rest : List declared.Given) (d : declared.Given) → 1 ≤ length rest
    → None ≡ misfit (given_shown (slice_index_or rest 0 d)) (external_named (slice_index_or rest 0 d).name.now externals)
    → first_misfit externals (map given_shown rest) ≡ first_misfit externals (map given_shown (take (length rest - 1) (drop 1 rest)))
tail_misfit externals [] d l h = absurd (omega (arith, l))
tail_misfit externals (g ∷ gs) d l h =
    let n : length (g ∷ gs) - 1 ≡ length gs = omega arith in
    sym (ap (λ o. option_or o (first_misfit externals (map given_shown gs))) h)
    ∙ ap (λ r. first_misfit externals (map given_shown r)) (sym (take_tail (length (g ∷ gs) - 1) gs n))

pub none_misfits : (externals : List PlainExternal) (rest : List declared.Given) → length rest < 1 → first_misfit externals (map given_shown rest) ≡ None
none_misfits externals [] l = refl
none_misfits externals (g ∷ gs) l = absurd (omega (arith, l))

-- all values
pub all_values : (image : Image) (givens : List Given) (rows : List NoteRow) (k : ℕ) (values : List Value) → length rows ≤ k
    → values ≡ values_with givens (map (external_in image) (take k rows)) → values ≡ values_with givens (map (external_in image) rows)
all_values image givens rows k values long e = e ∙ ap (λ (l : List NoteRow). values_with givens (map (external_in image) l)) (take_all k rows long)
