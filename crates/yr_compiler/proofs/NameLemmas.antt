-- The names of rules, notes and externals pass the check of names.
use Rattle.std.proofs.Common.{◌≡◌, ◌≢◌, ℕ, zero, suc, ◌+◌, ◌<◌, ◌≤◌, ◌==◌, nat_le, ◌&&◌, ◌||◌, Bool, true, false, if◌then◌else◌, List, [], ◌∷◌, ◌++◌, length, map, All, Some, slice_get, refl, sym, ap, ◌∙◌, subst, true≢false, arith}
use Rattle.std.specs.Prelude.{codes}
use Rattle.std.specs.List.{list_any}
use Rattle.std.specs.Str.{bytes_eq}
use Rattle.std.proofs.lemmas.Bool.{le-leb}
use Rattle.std.proofs.lemmas.Slice.Eq.{bytes_eq-Decides}
use Rattle.std.proofs.lemmas.List.Elements.{All-head, All-tail}
use Rattle.std.proofs.lemmas.Option.{none-some, same_Some}
use Rattle.yr_base.specs.Words.{IsWord, is_word, name_limit}
use Rattle.yr_base.proofs.WordLemmas.{word_test}
use Rattle.yr_syntax.specs.Declaration.{MetaTree}
use Rattle.yr_syntax.specs.Forms.{IsWordName}
use Rattle.yr_rules.specs.Rules.{PlainExternal, PlainRules}
use Rattle.yr_rules.specs.Wellformed.{IsWellformed, IsGoodRule, IsShortWord, count_different, AreDifferent}
use Rattle.yr_image.specs.declared.rows.NoteRow.{NoteRow}
use Rattle.yr_image.specs.Image.{Image, pool_text, namespace_of}
use Rattle.yr_machine.specs.Names.{At, is_name, rule_name, note_name, IsNewName}
use Rattle.yr_compiler.specs.declared.code_range.CodeRange.{CodeRange}
use Rattle.yr_compiler.specs.Notes.{Note, Tag, Entry, SaysNote, SayNotes, entry_of, external_note}
use Rattle.yr_compiler.specs.Rules.{SayRules}
use Rattle.yr_compiler.proofs.PassLemmas.{both, there_too, note_at, note_says}

word_passes : (name : List ℕ) → IsWord name → length name ≤ name_limit → is_name name ≡ true
word_passes name word short = both (is_word name) (nat_le (length name) name_limit) ((word_test name).1 word) (le-leb (length name) name_limit short)

all_at : {X : Type 0} (P : X → Type 0) (xs : List X) (k : ℕ) (x : X) → All P xs → slice_get xs k ≡ Some x → P x
all_at P [] k x a h = absurd (none-some x h)
all_at P (y ∷ xs) zero x a h = subst P (same_Some y x h) (All-head P y xs a)
all_at P (y ∷ xs) (suc k) x a h = all_at P xs k x (All-tail P y xs a) h

-- the name of a note
abbrev name_of : Note → List ℕ
name_of (Tag name) = name
name_of (Entry name value) = name

note_named : (image : Image) (note : Note) (row : NoteRow) → SaysNote image note row → note_name image row ≡ name_of note
note_named image (Tag name) row h = h.0.reads
note_named image (Entry name value) row h = h.0.reads

entry_word : (meta : List MetaTree) (k : ℕ) (note : Note) → All (λ m. IsWordName m.key) meta → slice_get (map entry_of meta) k ≡ Some note → IsWordName (name_of note)
entry_word [] k note a h = absurd (none-some note h)
entry_word (m ∷ meta) zero note a h = subst (λ n. IsWordName (name_of n)) (same_Some (entry_of m) note h) (All-head (λ x. IsWordName x.key) m meta a)
entry_word (m ∷ meta) (suc k) note a h = entry_word meta k note (All-tail (λ x. IsWordName x.key) m meta a) h

note_word : (tags : List (List ℕ)) (meta : List MetaTree) (k : ℕ) (note : Note) → All IsWordName tags → All (λ m. IsWordName m.key) meta
    → slice_get (map Tag tags ++ map entry_of meta) k ≡ Some note → IsWordName (name_of note)
note_word [] meta k note a b h = entry_word meta k note b h
note_word (tag ∷ tags) meta zero note a b h = subst (λ n. IsWordName (name_of n)) (same_Some (Tag tag) note h) (All-head IsWordName tag tags a)
note_word (tag ∷ tags) meta (suc k) note a b h = note_word tags meta k note (All-tail IsWordName tag tags a) b h

external_of_note : (es : List PlainExternal) (k : ℕ) (note : Note) → slice_get (map external_note es) k ≡ Some note → (e : PlainExternal) × (slice_get es k ≡ Some e) × (name_of note ≡ e.name)
external_of_note [] k note h = absurd (none-some note h)
external_of_note (e ∷ es) zero note h = (e, refl, sym (ap name_of (same_Some (external_note e) note h)))
external_of_note (e ∷ es) (suc k) note h = external_of_note es k note h

-- ---- names that differ

count_low : (names : List (List ℕ)) → count_different names ≤ length names
count_low [] = omega arith
count_low (n ∷ names) = let rest = count_low names in at (list_any (bytes_eq n) names) rest
  where
    at : (b : Bool) → count_different names ≤ length names → (if b then count_different names else count_different names + 1) ≤ suc (length names)
    at true r = omega (arith, r)
    at false r = omega (arith, r)

first_differs : (n : List ℕ) (names : List (List ℕ)) → AreDifferent (n ∷ names) → (list_any (bytes_eq n) names ≡ false) × AreDifferent names
first_differs n names h = at (list_any (bytes_eq n) names) refl h
  where
    at : (b : Bool) → list_any (bytes_eq n) names ≡ b → (if b then count_different names else count_different names + 1) ≡ suc (length names)
        → (list_any (bytes_eq n) names ≡ false) × AreDifferent names
    at true e g = let low = count_low names in absurd (omega (arith, g, low))
    at false e g = (e, omega (arith, g))

or_false : (a b : Bool) → (a || b) ≡ false → (a ≡ false) × (b ≡ false)
or_false true b h = absurd (true≢false h)
or_false false b h = (refl, h)

none_same : (n : List ℕ) (names : List (List ℕ)) (k : ℕ) (m : List ℕ) → list_any (bytes_eq n) names ≡ false → slice_get names k ≡ Some m → n ≢ m
none_same n [] k m h g e = none-some m g
none_same n (x ∷ names) zero m h g e =
    let o = or_false (bytes_eq n x) (list_any (bytes_eq n) names) h in
    true≢false (sym ((bytes_eq-Decides n x).1 (e ∙ sym (same_Some x m g))) ∙ o.0)
none_same n (x ∷ names) (suc k) m h g e = none_same n names k m (or_false (bytes_eq n x) (list_any (bytes_eq n) names) h).1 g e

all_differ : (names : List (List ℕ)) (i j : ℕ) (a b : List ℕ) → AreDifferent names → i < j → slice_get names i ≡ Some a → slice_get names j ≡ Some b → a ≢ b
all_differ [] i j a b d l h g = absurd (none-some a h)
all_differ (n ∷ names) zero zero a b d l h g = absurd (omega (arith, l))
all_differ (n ∷ names) zero (suc j) a b d l h g =
    let P : List ℕ → Type 0 = λ x. x ≢ b in
    subst P (same_Some n a h) (none_same n names j b (first_differs n names d).0 g)
all_differ (n ∷ names) (suc i) zero a b d l h g = absurd (omega (arith, l))
all_differ (n ∷ names) (suc i) (suc j) a b d l h g = all_differ names i j a b (first_differs n names d).1 (omega (arith, l)) h g

pub mapped : {X Y : Type 0} (f : X → Y) (xs : List X) (k : ℕ) (x : X) → slice_get xs k ≡ Some x → slice_get (map f xs) k ≡ Some (f x)
mapped f [] k x h = absurd (none-some x h)
mapped f (y ∷ xs) zero x h = ap (λ z. Some (f z)) (same_Some y x h)
mapped f (y ∷ xs) (suc k) x h = mapped f xs k x h

-- ---- the checks

module _ (image : Image) (version : image.version ≡ 2) (rules : PlainRules) (good : IsWellformed rules) where
  pub rule_names : (ranges : List CodeRange) → SayRules image rules.rules ranges → (k : ℕ) → At (λ row. (is_name (rule_name image row) && is_name (namespace_of image row)) ≡ true) image.rules k
  rule_names ranges say k row h =
      let count = say.count in
      let enough = say.enough in
      let rule = there_too image.rules rules.rules k row (omega (arith, count)) h in
      let code = there_too rules.rules ranges k rule.0 enough rule.1 in
      let says = say.each k rule.0 code.0 row rule.1 code.1 h in
      let g : IsGoodRule rules k rule.0 = good.good_rules k rule.0 rule.1 in
      let space : namespace_of image row ≡ rule.0.space =
      ap (λ v. if v == 1 then codes "default" else pool_text image row.namespace_place row.namespace_length) version ∙ says.space.reads in
      both (is_name (rule_name image row)) (is_name (namespace_of image row)) (ap is_name says.name.reads ∙ word_passes rule.0.name g.name.0 g.name.2)
      (ap is_name space ∙ word_passes rule.0.space g.space.0 g.space.1)

  pub note_names : (ranges : List CodeRange) → SayRules image rules.rules ranges → (k : ℕ) → At (λ row. is_name (note_name image row) ≡ true) image.notes k
  note_names ranges say k row h =
      let n = note_says image ranges rules.rules say k row h in
      let g : IsGoodRule rules n.0 n.1 = good.good_rules n.0 n.1 n.2 in
      let w = note_word n.1.tags n.1.meta n.3 n.4 g.tags g.keys n.5 in
      ap is_name (note_named image n.4 row n.6) ∙ word_passes (name_of n.4) w.0 w.2

  external_named : SayNotes image (map external_note rules.externals) image.externals → (k : ℕ) (row : NoteRow) → slice_get image.externals k ≡ Some row
      → (e : PlainExternal) × (slice_get rules.externals k ≡ Some e) × (note_name image row ≡ e.name)
  external_named say k row h =
      let n = note_at image (map external_note rules.externals) image.externals k row say h in
      let e = external_of_note rules.externals k n.0 n.1 in
      (e.0, e.1, note_named image n.0 row n.2 ∙ e.2)

  pub external_names : SayNotes image (map external_note rules.externals) image.externals
      → (k : ℕ) → At (λ row. (is_name (note_name image row) ≡ true) × IsNewName image k row) image.externals k
  external_names say k row h =
      let e = external_named say k row h in
      let w : IsShortWord e.0.name = all_at (λ x. IsShortWord x.name) rules.externals k e.0 good.externals_named e.1 in (
        ap is_name e.2 ∙ word_passes e.0.name w.0 w.1,
        λ earlier before other there same.
            let f = external_named say earlier other there in
            all_differ (map (λ (x : PlainExternal). x.name) rules.externals) earlier k f.0.name e.0.name good.externals_differ before
            (mapped (λ (x : PlainExternal). x.name) rules.externals earlier f.0 f.1) (mapped (λ (x : PlainExternal). x.name) rules.externals k e.0 e.1)
            (sym f.2 ∙ same ∙ e.2),
      )
