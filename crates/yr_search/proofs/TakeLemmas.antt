-- Hits that are taken, at once or later.
use Rattle.std.proofs.Common.{◌≡◌, ℕ, zero, suc, ◌+◌, ◌<◌, ◌≤◌, inl, inr, Bool, Option, List, [], ◌∷◌, ◌++◌, length, set, Contains, Some, option_map, Result, Ok, Err, OnOk, OnErr, refl, sym, ap, ◌∙◌, subst, arith}
use Rattle.std.specs.Prelude.{slice_get, Vec}
use Rattle.std.specs.declared.alloc.Global.{Global}
use Rattle.std.proofs.lemmas.Option.{slice_get-map}
use Rattle.std.proofs.lemmas.List.Elements.{Contains-append_cases}
use Rattle.yr_answer.specs.MatchList.{Match}
use Rattle.yr_image.specs.declared.rows.SplitRow.{SplitRow}
use Rattle.yr_image.specs.declared.rows.StringRow.{StringRow}
use Rattle.yr_image.specs.Image.{Image}
use Rattle.yr_image.specs.Views.{image_of}
use Rattle.yr_machine.specs.ImageMatches.{is_greatest}
use Rattle.yr_answer.specs.Found.{items_of}
use Rattle.yr_hits.specs.declared.hit.Hit.{Hit}
use Rattle.yr_hits.specs.Gathering.{Grows}
use Rattle.yr_hits.specs.Spans.{IsSpan, IsSpanOf, IsSpanOfSome, IsGoodHit, HasAtomWithin}
use Rattle.yr_hits.specs.Sweeps.{Sweeps}
use Rattle.yr_search.specs.declared.gathered.Gathered.{Gathered}
use Rattle.yr_search.specs.State.{State, state_of, hits_in, AreInFile, IsFor, owed_by, cost_later, owed}
use Rattle.yr_search.specs.Taking.{Adds, Leaves, Takes, TakesAll, TakesFronts, TakesLater}
use Rattle.yr_hits.proofs.SplitLemmas.{span_of}
use Rattle.yr_hits.proofs.GrowLemmas.{grows_as, grows_none}
use Rattle.yr_hits.proofs.HitLemmas.{there}
use Rattle.yr_hits.proofs.MemberLemmas.{contains_first, contains_none, contains_cases}
use Rattle.yr_search.proofs.StateLemmas.{set_cases, set_same, set_length, hits_length, owed_more}

-- ---- lists of vectors

pub items_set : (xs : List (Vec Match Global)) (k : ℕ) (v : Vec Match Global) → items_of (set xs k v) ≡ set (items_of xs) k v.items
items_set [] k v = refl
items_set (x ∷ xs) zero v = refl
items_set (x ∷ xs) (suc k) v = ap (λ l. x.items ∷ l) (items_set xs k v)

pub items_get : (xs : List (Vec Match Global)) (k : ℕ) (v : Vec Match Global) → slice_get xs k ≡ Some v → slice_get (items_of xs) k ≡ Some v.items
items_get xs k v at = slice_get-map (λ w. w.items) xs k ∙ ap (option_map (λ w. w.items)) at

pub items_length : (ws : List (Vec Match Global)) → length (items_of ws) ≡ length ws
items_length [] = refl
items_length (w ∷ ws) = ap suc (items_length ws)

-- ---- one hit more

pub takes_more : (image : Image) (file : List ℕ) (e : ℕ) (splits : List ℕ) (split : ℕ) (a b c : State) → TakesAll image file e splits a b
    → Takes image file e split b c → TakesAll image file e (splits ++ split ∷ []) a c
takes_more image file e [] split a b c same t = (c, subst (λ l. Takes image file e split l c) (sym same) t, refl)
takes_more image file e (s ∷ ss) split a b c all t = (all.0, all.1, takes_more image file e ss split all.0 b c all.2 t)

pub takes_then : (image : Image) (file : List ℕ) (e : ℕ) (first second : List ℕ) (a b c : State) → TakesAll image file e first a b
    → TakesAll image file e second b c → TakesAll image file e (first ++ second) a c
takes_then image file e [] second a b c same t = subst (λ l. TakesAll image file e second l c) (sym same) t
takes_then image file e (s ∷ ss) second a b c all t = (all.0, all.1, takes_then image file e ss second all.0 b c all.2 t)

pub fronts_more : (image : Image) (file : List ℕ) (e : ℕ) (fronts : List (List ℕ)) (splits : List ℕ) (at : ℕ) (a b c : State)
    → TakesFronts image file e fronts a b → at ≡ e + length fronts → TakesAll image file at splits b c → TakesFronts image file e (fronts ++ splits ∷ []) a c
fronts_more image file e [] splits at a b c same is t =
    let here : at ≡ e = omega (arith, is) in
    (c, subst (λ n. TakesAll image file n splits a c) here (subst (λ l. TakesAll image file at splits l c) (sym same) t), refl)
fronts_more image file e (f ∷ fs) splits at a b c all is t =
    (all.0, all.1, fronts_more image file (e + 1) fs splits at all.0 b c all.2 (omega (arith, is)) t)

-- ---- the spans of a hit, and of many

-- a span of the one hit
pub of_one : (image : Image) (file : List ℕ) (row : SplitRow) (e i j : ℕ) → IsSpanOfSome image file row (e ∷ []) i j → IsSpan image file row e i j
of_one image file row e i j s = elim (contains_cases e s.0 [] s.1) [
  | inl is ↦ subst (λ n. IsSpan image file row n i j) (sym is) s.2
  | inr later ↦ absurd (contains_none s.0 later)
]

pub adds_of : (image : Image) (file : List ℕ) (e split : ℕ) (hit : Hit) → IsGoodHit hit → image_of hit.view.now ≡ image → hit.file.now ≡ file → hit.at ≡ e
    → slice_get image.splits split ≡ Some hit.row
    → ((string : StringRow) → slice_get image.strings hit.row.string ≡ Some string → hit.greatest ≡ is_greatest image file string)
    → (lists : List (Vec Match Global)) → length lists ≡ length image.strings → hit.row.string < length image.strings
    → (list grown : Vec Match Global) → slice_get lists hit.row.string ≡ Some list
    → Grows (IsSpanOf hit) hit.greatest list.items grown.items
    → Adds image file split (e ∷ []) (items_of lists) (items_of (set lists hit.row.string grown))
adds_of image file e split hit good im fi at row greatest lists count lt list grown is_list grows =
    let string = there image.strings hit.row.string lt in
    let spans = grows_as hit.greatest (IsSpanOf hit) (IsSpan (image_of hit.view.now) hit.file.now hit.row hit.at) list.items grown.items grows
    (λ i j. (span_of hit good i j).0) (λ i j. (span_of hit good i j).1) in
    let G : Image → List ℕ → ℕ → Bool → Type 0 = λ m f n b. Grows (IsSpan m f hit.row n) b list.items grown.items in
    let one = subst (λ m. G m file e (is_greatest image file string.0)) im
    (subst (λ f. G (image_of hit.view.now) f e (is_greatest image file string.0)) fi
    (subst (λ n. G (image_of hit.view.now) hit.file.now n (is_greatest image file string.0)) at
    (subst (λ b. G (image_of hit.view.now) hit.file.now hit.at b) (greatest string.0 string.1) spans))) in
    record {
      row = hit.row;
      is_row = row;
      string = string.0;
      is_string = string.1;
      list = list.items;
      is_list = items_get lists hit.row.string list is_list;
      grown = grown.items;
      is_new = items_set lists hit.row.string grown;
      grows = grows_as (is_greatest image file string.0) (IsSpan image file hit.row e) (IsSpanOfSome image file hit.row (e ∷ [])) list.items grown.items one
          (λ i j s. (e, contains_first e [], s)) (λ i j s. of_one image file hit.row e i j s);
    }

-- the spans of hits that are swept
pub adds_swept : (image : Image) (file : List ℕ) (split : ℕ) (hits : List ℕ) (row : SplitRow) → slice_get image.splits split ≡ Some row
    → (lists : List (Vec Match Global)) (list grown : Vec Match Global) → slice_get lists row.string ≡ Some list
    → Sweeps image file split hits list.items grown.items → Adds image file split hits (items_of lists) (items_of (set lists row.string grown))
adds_swept image file split hits row is_row lists list grown is_list s =
    let same : s.row ≡ row = one_row (slice_get image.splits split) s.row row s.is_row is_row in
    record {
      row = row;
      is_row = is_row;
      string = s.string;
      is_string = subst (λ (r : SplitRow). slice_get image.strings r.string ≡ Some s.string) same s.is_string;
      list = list.items;
      is_list = items_get lists row.string list is_list;
      grown = grown.items;
      is_new = items_set lists row.string grown;
      grows = subst (λ (r : SplitRow). Grows (IsSpanOfSome image file r hits) (is_greatest image file s.string) list.items grown.items) same s.grows;
    }
  where
    one_row : (o : Option SplitRow) (r t : SplitRow) → o ≡ Some r → o ≡ Some t → r ≡ t
    one_row o r t p q = cc

-- no hits give nothing
pub adds_none : (image : Image) (file : List ℕ) (split : ℕ) (hits : List ℕ) (row : SplitRow) → hits ≡ [] → slice_get image.splits split ≡ Some row
    → (lists : List (List Match)) → length lists ≡ length image.strings → row.string < length image.strings → Adds image file split hits lists lists
adds_none image file split hits row none is_row lists count lt =
    let string = there image.strings row.string lt in
    let list = there lists row.string (omega (arith, lt, count)) in
    record {
      row = row;
      is_row = is_row;
      string = string.0;
      is_string = string.1;
      list = list.0;
      is_list = list.1;
      grown = list.0;
      is_new = sym (set_same lists row.string list.0 list.1);
      grows = grows_none (is_greatest image file string.0) (IsSpanOfSome image file row hits) list.0
          (λ i j s. contains_none s.0 (subst (λ l. Contains l s.0) none s.1));
    }

-- ---- hits that were left for later, the last split first

pub later_more : (image : Image) (file : List ℕ) (first : ℕ) (later : List (List ℕ)) (hits : List ℕ) (split : ℕ) (a b c : List (List Match)) → split ≡ first + length later
    → Adds image file split hits a b → TakesLater image file first later b c → TakesLater image file first (later ++ hits ∷ []) a c
later_more image file first [] hits split a b c is adds same =
    let here : split ≡ first = omega (arith, is) in
    (a, refl, subst (λ l. Adds image file first hits a l) same (subst (λ n. Adds image file n hits a b) here adds))
later_more image file first (h ∷ later) hits split a b c is adds t =
    (t.0, later_more image file (first + 1) later hits split a b t.0 (omega (arith, is)) adds t.1, t.2)

-- ---- the hits that are left lie in the file

pub inside_more : (image : Image) (file : List ℕ) (later : List (List ℕ)) (split e : ℕ) (hits : List ℕ) → AreInFile image file later
    → slice_get later split ≡ Some hits → e ≤ length file → HasAtomWithin image e split → AreInFile image file (set later split (hits ++ e ∷ []))
inside_more image file later split e hits inside at low atom s x get n c = elim (set_cases later split (hits ++ e ∷ []) s x get) [
  | inl here ↦
      let C : ℕ → Type 0 = λ k. (n ≤ length file) × HasAtomWithin image n k in
      subst C (sym here.0) (elim (Contains-append_cases hits (e ∷ []) n (subst (λ l. Contains l n) (sym here.1) c)) [
        | inl l ↦ inside split hits at n l
        | inr r ↦ elim (contains_cases e n [] r) [
          | inl is ↦ subst (λ m. (m ≤ length file) × HasAtomWithin image m split) is (low, atom)
          | inr none ↦ absurd (contains_none n none)
        ]
      ])
  | inr other ↦ inside s x other.1 n c
]

-- a hit is left where there is a place for it
pub fits_more : (image : Image) (file : List ℕ) (e split : ℕ) (old new : Gathered) → IsFor image file old → e ≤ length file → HasAtomWithin image e split
    → new.lists ≡ old.lists → new.spent ≡ old.spent → Leaves e split (state_of old) (state_of new) → IsFor image file new
fits_more image file e split old new fits low atom lists spent t = record {
  lists = ap (λ (l : Vec (Vec Match Global) Global). length l.items) lists ∙ fits.lists;
  later = sym (hits_length new.later.items) ∙ ap length t.later ∙ set_length (hits_in old.later.items) split (t.hits ++ e ∷ []) ∙ hits_length old.later.items ∙ fits.later;
  spent = ap (λ (l : Vec ℕ Global). length l.items) spent ∙ fits.spent;
  inside = subst (AreInFile image file) (sym t.later) (inside_more image file (hits_in old.later.items) split e t.hits fits.inside t.is_hits low atom);
}

-- and what is owed then
pub owed_left : (image : Image) (n e split : ℕ) (old new : State) → Leaves e split old new → owed image n new ≡ owed image n old + cost_later image n split
owed_left image n e split old new t =
    let here : 0 + split ≡ split = omega arith in
    ap (owed_by (cost_later image n) 0) t.later ∙ owed_more (cost_later image n) 0 old.later split e t.hits t.is_hits
    ∙ ap (λ k. owed_by (cost_later image n) 0 old.later + cost_later image n k) here

-- whether there was memory for it or not
pub owed_either : {T E : Type 0} (image : Image) (n e split : ℕ) (old new : State) (r : Result T E) → OnOk r (Leaves e split old new) → OnErr r (new ≡ old)
    → owed image n new ≤ owed image n old + cost_later image n split
owed_either image n e split old new (Ok v) left kept = omega (arith, owed_left image n e split old new left)
owed_either image n e split old new (Err x) left kept = omega (arith, ap (owed image n) kept)
