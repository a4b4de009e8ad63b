-- What lists hold after hits are taken, and the match lists that they give.
use Rattle.std.proofs.Common.{◌≡◌, ◌≢◌, ℕ, zero, suc, ◌+◌, ◌<◌, ◌≤◌, ◌==◌, ◌⊎◌, inl, inr, Bool, true, false, List, [], ◌∷◌, ◌++◌, length, get_or, set, Contains, Option, Some, refl, sym, ap, ◌∙◌, subst, arith}
use Rattle.std.specs.Prelude.{slice_get}
use Rattle.std.proofs.lemmas.List.Elements.{Contains-append_left, Contains-append_right, Contains-append_cases}
use Rattle.std.proofs.lemmas.Bool.Decides.{Decides-eqb, Decides-or}
use Rattle.yr_answer.specs.MatchList.{Match, RisesFrom, IsMatchList, begins_at}
use Rattle.yr_image.specs.declared.rows.SplitRow.{SplitRow}
use Rattle.yr_image.specs.declared.rows.StringRow.{StringRow}
use Rattle.yr_image.specs.Image.{Image}
use Rattle.yr_machine.specs.ImageMatches.{is_greatest}
use Rattle.yr_hits.specs.Gathering.{DoesFor, Grows, IsSettled}
use Rattle.yr_hits.specs.Spans.{IsSpan, IsSpanOfSome}
use Rattle.yr_search.specs.State.{State, IsEmpty}
use Rattle.yr_search.specs.Taking.{Adds, TakesNow, Leaves, Takes, TakesAll, TakesFronts, TakesLater}
use Rattle.yr_hits.proofs.MemberLemmas.{contains_first, contains_later, contains_none, contains_cases}
use Rattle.yr_search.proofs.StateLemmas.{set_cases, set_length}

-- one of the matches does for a span
abbrev pub HasMatch : (greatest : Bool) → List Match → ℕ → ℕ → Type 0
HasMatch greatest list i j = (size : ℕ) × Contains list (i, size) × DoesFor greatest (i + size) j

-- the matches of a list are spans, and one does for each span
pub record Holds (spans : ℕ → ℕ → Type 0) (greatest : Bool) (list : List Match) : Type 0 where
  pub sound : (i size : ℕ) → Contains list (i, size) → spans i (i + size)
  pub complete : (i j : ℕ) → spans i j → (size : ℕ) × Contains list (i, size) × DoesFor greatest (i + size) j

-- the same, but for some of the spans
pub record HoldsBut (left spans : ℕ → ℕ → Type 0) (greatest : Bool) (list : List Match) : Type 0 where
  pub sound : (i size : ℕ) → Contains list (i, size) → spans i (i + size)
  pub complete : (i j : ℕ) → spans i j → HasMatch greatest list i j ⊎ left i j

-- the hits of splits from the first one on
abbrev pub AreLeft : (first : ℕ) → List (List ℕ) → ℕ → ℕ → Type 0
AreLeft first [] a s = ⊥
AreLeft first (hits ∷ later) a s = (Contains hits a × (s ≡ first)) ⊎ AreLeft (first + 1) later a s

-- ---- one hit more is left

left_before : (first : ℕ) (later : List (List ℕ)) (k e : ℕ) (hits : List ℕ) (a s : ℕ) → slice_get later k ≡ Some hits
    → AreLeft first later a s → AreLeft first (set later k (hits ++ e ∷ [])) a s
left_before first [] k e hits a s at h = absurd h
left_before first (x ∷ later) zero e hits a s at (inl h) =
    let same : x ≡ hits = cc in inl (Contains-append_left hits (e ∷ []) a (subst (λ l. Contains l a) same h.0), h.1)
left_before first (x ∷ later) zero e hits a s at (inr h) = inr h
left_before first (x ∷ later) (suc k) e hits a s at (inl h) = inl h
left_before first (x ∷ later) (suc k) e hits a s at (inr h) = inr (left_before (first + 1) later k e hits a s at h)

left_new : (first : ℕ) (later : List (List ℕ)) (k e : ℕ) (hits : List ℕ) (a s : ℕ) → slice_get later k ≡ Some hits
    → a ≡ e → s ≡ first + k → AreLeft first (set later k (hits ++ e ∷ [])) a s
left_new first [] k e hits a s at one split = cc
left_new first (x ∷ later) zero e hits a s at one split =
    inl (subst (Contains (hits ++ e ∷ [])) (sym one) (Contains-append_right hits (e ∷ []) e (contains_first e [])), omega (arith, split))
left_new first (x ∷ later) (suc k) e hits a s at one split = inr (left_new (first + 1) later k e hits a s at one (omega (arith, split)))

left_cases : (first : ℕ) (later : List (List ℕ)) (k e : ℕ) (hits : List ℕ) (a s : ℕ) → slice_get later k ≡ Some hits
    → AreLeft first (set later k (hits ++ e ∷ [])) a s → AreLeft first later a s ⊎ ((a ≡ e) × (s ≡ first + k))
left_cases first [] k e hits a s at h = cc
left_cases first (x ∷ later) zero e hits a s at (inl h) = elim (Contains-append_cases hits (e ∷ []) a h.0) [
  | inl l ↦ let same : x ≡ hits = cc in inl (inl (subst (λ l. Contains l a) (sym same) l, h.1))
  | inr r ↦ elim (contains_cases e a [] r) [
    | inl is ↦ inr (sym is, omega (arith, h.1))
    | inr none ↦ absurd (contains_none a none)
  ]
]
left_cases first (x ∷ later) zero e hits a s at (inr h) = inl (inr h)
left_cases first (x ∷ later) (suc k) e hits a s at (inl h) = inl (inl h)
left_cases first (x ∷ later) (suc k) e hits a s at (inr h) = elim (left_cases (first + 1) later k e hits a s at h) [
  | inl l ↦ inl (inr l)
  | inr r ↦ inr (r.0, omega (arith, r.1))
]

none_left : (first : ℕ) (later : List (List ℕ)) (a s : ℕ) → ((k : ℕ) (hits : List ℕ) → slice_get later k ≡ Some hits → hits ≡ []) → AreLeft first later a s → ⊥
none_left first [] a s none h = h
none_left first (x ∷ later) a s none (inl h) = contains_none a (subst (λ l. Contains l a) (none 0 x refl) h.0)
none_left first (x ∷ later) a s none (inr h) = none_left (first + 1) later a s (λ k hits at. none (suc k) hits at) h

module _ (image : Image) (file : List ℕ) where
  -- a span of a string that counts, by hits that are known by a relation
  abbrev pub CountedBy : (ℕ → ℕ → Type 0) → ℕ → ℕ → ℕ → Type 0
  CountedBy H string i j = (e : ℕ) × (split : ℕ) × (row : SplitRow) × H e split × (slice_get image.splits split ≡ Some row) × (row.string ≡ string) × IsSpan image file row e i j

  -- what the lists of all strings hold, where some hits are left
  pub record IsGathered (L H : ℕ → ℕ → Type 0) (lists : List (List Match)) : Type 0 where
    pub count : length lists ≡ length image.strings
    pub each : (k : ℕ) (string : StringRow) (list : List Match) → slice_get image.strings k ≡ Some string → slice_get lists k ≡ Some list
        → HoldsBut (CountedBy L k) (CountedBy H k) (is_greatest image file string) list
    pub left : (e s : ℕ) → L e s → H e s

  -- what is gathered, with the hits that are left for later
  abbrev pub IsGatheredIn : (ℕ → ℕ → Type 0) → State → Type 0
  IsGatheredIn H state = IsGathered (AreLeft 0 state.later) H state.lists

  counted_as : (H K : ℕ → ℕ → Type 0) (string i j : ℕ) → ((e s : ℕ) → H e s → K e s) → CountedBy H string i j → CountedBy K string i j
  counted_as H K string i j into c = (c.0, c.1, c.2, into c.0 c.1 c.3, c.4, c.5, c.6)

  -- hits that are among others, all of which are hits or left
  pub gathered_but : (L M H K : ℕ → ℕ → Type 0) (lists : List (List Match)) → ((e s : ℕ) → H e s → K e s) → ((e s : ℕ) → K e s → H e s ⊎ M e s)
      → ((e s : ℕ) → L e s → M e s) → ((e s : ℕ) → M e s → K e s) → IsGathered L H lists → IsGathered M K lists
  gathered_but L M H K lists into back more left g = record {
    count = g.count;
    each = λ k string list is at.
        let h = g.each k string list is at in
        record {
          sound = λ i size c. counted_as H K k i (i + size) into (h.sound i size c);
          complete = λ i j c. elim (back c.0 c.1 c.3) [
            | inl old ↦ elim (h.complete i j (c.0, c.1, c.2, old, c.4, c.5, c.6)) [
              | inl match ↦ inl match
              | inr l ↦ inr (counted_as L M k i j more l)
            ]
            | inr new ↦ inr (c.0, c.1, c.2, new, c.4, c.5, c.6)
          ];
        };
    left = left;
  }

  pub gathered_as : (L H K : ℕ → ℕ → Type 0) (lists : List (List Match)) → ((e s : ℕ) → H e s → K e s) → ((e s : ℕ) → K e s → H e s) → IsGathered L H lists → IsGathered L K lists
  gathered_as L H K lists into back g =
      gathered_but L L H K lists into (λ e s h. inl (back e s h)) (λ e s h. h) (λ e s h. into e s (g.left e s h)) g

  same_row : (o : Option SplitRow) (r t : SplitRow) → o ≡ Some r → o ≡ Some t → r ≡ t
  same_row o r t p q = cc

  same_string : (o : Option StringRow) (r t : StringRow) → o ≡ Some r → o ≡ Some t → r ≡ t
  same_string o r t p q = cc

  -- a span of hits of the split
  new_span : (split : ℕ) (hits : List ℕ) (a s i j : ℕ) (row r : SplitRow) → slice_get image.splits split ≡ Some row → slice_get image.splits s ≡ Some r → Contains hits a → s ≡ split
      → IsSpan image file r a i j → (r ≡ row) × IsSpanOfSome image file row hits i j
  new_span split hits a s i j row r is other among ss span =
      let same : r ≡ row = same_row (slice_get image.splits split) r row (ap (slice_get image.splits) (sym ss) ∙ other) is in
      (same, (a, among, subst (λ q. IsSpan image file q a i j) same span))

  -- the spans of some hits of a split are added: these hits may be new, or may have been left
  module _ (L M H K : ℕ → ℕ → Type 0) (split : ℕ) (hits : List ℕ) (into : (e s : ℕ) → H e s → K e s) (some : (e : ℕ) → Contains hits e → K e split)
      (back : (e s : ℕ) → K e s → H e s ⊎ (Contains hits e × (s ≡ split))) (more : (e s : ℕ) → L e s → M e s ⊎ (Contains hits e × (s ≡ split)))
      (left : (e s : ℕ) → M e s → K e s) where
    gather_here : (row : SplitRow) (greatest : Bool) (list grown : List Match) → slice_get image.splits split ≡ Some row
        → Grows (IsSpanOfSome image file row hits) greatest list grown → HoldsBut (CountedBy L row.string) (CountedBy H row.string) greatest list
        → HoldsBut (CountedBy M row.string) (CountedBy K row.string) greatest grown
    gather_here row greatest list grown is grows h = record {
      sound = λ i size c. elim (Contains-append_cases list grows.added (i, size) (subst (λ l. Contains l (i, size)) grows.is c)) [
        | inl l ↦ counted_as H K row.string i (i + size) into (h.sound i size l)
        | inr r ↦ let s = grows.sound i size r in (s.0, split, row, some s.0 s.1, is, refl, s.2)
      ];
      complete = λ i j c. elim (back c.0 c.1 c.3) [
        | inl old ↦ elim (h.complete i j (c.0, c.1, c.2, old, c.4, c.5, c.6)) [
          | inl m ↦ inl (m.0, subst (λ l. Contains l (i, m.0)) (sym grows.is) (Contains-append_left list grows.added (i, m.0) m.1), m.2)
          | inr l ↦ elim (more l.0 l.1 l.3) [
            | inl still ↦ inr (l.0, l.1, l.2, still, l.4, l.5, l.6)
            | inr done ↦ inl (added i j row greatest list grown grows (new_span split hits l.0 l.1 i j row l.2 is l.4 done.0 done.1 l.6).1)
          ]
        ]
        | inr new ↦ inl (added i j row greatest list grown grows (new_span split hits c.0 c.1 i j row c.2 is c.4 new.0 new.1 c.6).1)
      ];
    }
      where
        added : (i j : ℕ) (row : SplitRow) (greatest : Bool) (list grown : List Match) → Grows (IsSpanOfSome image file row hits) greatest list grown
            → IsSpanOfSome image file row hits i j → HasMatch greatest grown i j
        added i j row greatest list grown grows span =
            let m = grows.complete i j span in
            (m.0, subst (λ l. Contains l (i, m.0)) (sym grows.is) (Contains-append_right list grows.added (i, m.0) m.1), m.2)

    gather_there : (k : ℕ) (row : SplitRow) (greatest : Bool) (list : List Match) → slice_get image.splits split ≡ Some row → k ≢ row.string
        → HoldsBut (CountedBy L k) (CountedBy H k) greatest list → HoldsBut (CountedBy M k) (CountedBy K k) greatest list
    gather_there k row greatest list is other h = record {
      sound = λ i size c. counted_as H K k i (i + size) into (h.sound i size c);
      complete = λ i j c. elim (back c.0 c.1 c.3) [
        | inl old ↦ elim (h.complete i j (c.0, c.1, c.2, old, c.4, c.5, c.6)) [
          | inl m ↦ inl m
          | inr l ↦ elim (more l.0 l.1 l.3) [
            | inl still ↦ inr (l.0, l.1, l.2, still, l.4, l.5, l.6)
            | inr done ↦
                let same = (new_span split hits l.0 l.1 i j row l.2 is l.4 done.0 done.1 l.6).0 in
                absurd (other (sym l.5 ∙ ap (λ (r : SplitRow). r.string) same))
          ]
        ]
        | inr new ↦
            let same = (new_span split hits c.0 c.1 i j row c.2 is c.4 new.0 new.1 c.6).0 in
            absurd (other (sym c.5 ∙ ap (λ (r : SplitRow). r.string) same))
      ];
    }

    pub gather_some : (old new : List (List Match)) → IsGathered L H old → Adds image file split hits old new → IsGathered M K new
    gather_some old new g t = record {
      count = ap length t.is_new ∙ set_length old t.row.string t.grown ∙ g.count;
      each = λ k string list is at.
          elim (set_cases old t.row.string t.grown k list (ap (λ l. slice_get l k) (sym t.is_new) ∙ at)) [
            | inl here ↦
                let row_is : string ≡ t.string = same_string (slice_get image.strings t.row.string) string t.string (ap (slice_get image.strings) (sym here.0) ∙ is) t.is_string in
                let before = g.each t.row.string t.string t.list t.is_string t.is_list in
                let after = gather_here t.row (is_greatest image file t.string) t.list t.grown t.is_row t.grows before in
                subst (λ s. HoldsBut (CountedBy M k) (CountedBy K k) (is_greatest image file s) list) (sym row_is)
                (subst (λ l. HoldsBut (CountedBy M k) (CountedBy K k) (is_greatest image file t.string) l) here.1
                (subst (λ n. HoldsBut (CountedBy M n) (CountedBy K n) (is_greatest image file t.string) t.grown) (sym here.0) after))
            | inr there ↦ gather_there k t.row (is_greatest image file string) list t.is_row there.0 (g.each k string list is there.1)
          ];
      left = left;
    }

  -- one hit more
  abbrev One : (ℕ → ℕ → Type 0) → ℕ → ℕ → ℕ → ℕ → Type 0
  One H e split a s = H a s ⊎ ((a ≡ e) × (s ≡ split))

  gather_now : (H : ℕ → ℕ → Type 0) (e split : ℕ) (old new : State) → IsGatheredIn H old → TakesNow image file e split old new → IsGatheredIn (One H e split) new
  gather_now H e split old new g t =
      subst (λ l. IsGathered (AreLeft 0 l) (One H e split) new.lists) (sym t.later)
      (gather_some (AreLeft 0 old.later) (AreLeft 0 old.later) H (One H e split) split (e ∷ []) (λ a s h. inl h) (λ a c. inr (only a c, refl))
      (λ a s h. elim h [ inl x ↦ inl x | inr x ↦ inr (subst (Contains (e ∷ [])) (sym x.0) (contains_first e []), x.1) ])
      (λ a s h. inl h) (λ a s h. inl (g.left a s h)) old.lists new.lists g t.adds)
    where
      only : (a : ℕ) → Contains (e ∷ []) a → a ≡ e
      only a c = elim (contains_cases e a [] c) [ inl is ↦ sym is | inr none ↦ absurd (contains_none a none) ]

  gather_left : (H : ℕ → ℕ → Type 0) (e split : ℕ) (old new : State) → IsGatheredIn H old → Leaves e split old new → IsGatheredIn (One H e split) new
  gather_left H e split old new g t =
      let now = set old.later split (t.hits ++ e ∷ []) in
      subst (λ l. IsGathered (AreLeft 0 l) (One H e split) new.lists) (sym t.later)
      (subst (λ l. IsGathered (AreLeft 0 now) (One H e split) l) (sym t.lists)
      (gathered_but (AreLeft 0 old.later) (AreLeft 0 now) H (One H e split) old.lists (λ a s h. inl h)
      (λ a s h. elim h [ inl x ↦ inl x | inr x ↦ inr (left_new 0 old.later split e t.hits a s t.is_hits x.0 (omega (arith, x.1))) ])
      (λ a s h. left_before 0 old.later split e t.hits a s t.is_hits h)
      (λ a s h. elim (left_cases 0 old.later split e t.hits a s t.is_hits h) [ inl x ↦ inl (g.left a s x) | inr x ↦ inr (x.0, omega (arith, x.1)) ])
      g))

  gather_one : (H : ℕ → ℕ → Type 0) (e split : ℕ) (old new : State) → IsGatheredIn H old → Takes image file e split old new → IsGatheredIn (One H e split) new
  gather_one H e split old new g (inl t) = gather_now H e split old new g t
  gather_one H e split old new g (inr t) = gather_left H e split old new g t

  -- the hits of splits after one front
  abbrev Some_of : (ℕ → ℕ → Type 0) → ℕ → List ℕ → ℕ → ℕ → Type 0
  Some_of H e splits a s = H a s ⊎ ((a ≡ e) × Contains splits s)

  gather_all : (H : ℕ → ℕ → Type 0) (e : ℕ) (splits : List ℕ) (old new : State) → IsGatheredIn H old → TakesAll image file e splits old new
      → IsGatheredIn (Some_of H e splits) new
  gather_all H e [] old new g same =
      subst (IsGatheredIn (Some_of H e [])) same
      (gathered_as (AreLeft 0 old.later) H (Some_of H e []) old.lists (λ a s h. inl h) (λ a s h. elim h [ inl x ↦ x | inr x ↦ absurd (contains_none s x.1) ]) g)
  gather_all H e (split ∷ splits) old new g t =
      let one = gather_one H e split old t.0 g t.1 in
      let rest = gather_all (One H e split) e splits t.0 new one t.2 in
      gathered_as (AreLeft 0 new.later) (Some_of (One H e split) e splits) (Some_of H e (split ∷ splits)) new.lists
      (λ a s h. elim h [
        | inl (inl x) ↦ inl x
        | inl (inr x) ↦ inr (x.0, subst (Contains (split ∷ splits)) (sym x.1) (contains_first split splits))
        | inr x ↦ inr (x.0, contains_later split s splits x.1)
      ])
      (λ a s h. elim h [
        | inl x ↦ inl (inl x)
        | inr x ↦ elim (contains_cases split s splits x.1) [ inl is ↦ inl (inr (x.0, sym is)) | inr later ↦ inr (x.0, later) ]
      ])
      rest

-- the hits of fronts from e on
abbrev pub InFronts : ℕ → List (List ℕ) → ℕ → ℕ → Type 0
InFronts e [] a s = ⊥
InFronts e (splits ∷ fronts) a s = ((a ≡ e) × Contains splits s) ⊎ InFronts (e + 1) fronts a s

module _ (image : Image) (file : List ℕ) where
  pub gather_fronts : (H : ℕ → ℕ → Type 0) (e : ℕ) (fronts : List (List ℕ)) (old new : State) → IsGatheredIn image file H old
      → TakesFronts image file e fronts old new → IsGatheredIn image file (λ a s. H a s ⊎ InFronts e fronts a s) new
  gather_fronts H e [] old new g same =
      subst (IsGatheredIn image file (λ a s. H a s ⊎ InFronts e [] a s)) same
      (gathered_as image file (AreLeft 0 old.later) H (λ a s. H a s ⊎ InFronts e [] a s) old.lists (λ a s h. inl h) (λ a s h. elim h [ inl x ↦ x | inr x ↦ absurd x ]) g)
  gather_fronts H e (splits ∷ fronts) old new g t =
      let K : ℕ → ℕ → Type 0 = λ a s. H a s ⊎ ((a ≡ e) × Contains splits s) in
      let one = gather_all image file H e splits old t.0 g t.1 in
      let rest = gather_fronts K (e + 1) fronts t.0 new one t.2 in
      gathered_as image file (AreLeft 0 new.later) (λ a s. K a s ⊎ InFronts (e + 1) fronts a s) (λ a s. H a s ⊎ InFronts e (splits ∷ fronts) a s) new.lists
      (λ a s h. elim h [ inl (inl x) ↦ inl x | inl (inr x) ↦ inr (inl x) | inr x ↦ inr (inr x) ])
      (λ a s h. elim h [ inl x ↦ inl (inl x) | inr (inl x) ↦ inl (inr x) | inr (inr x) ↦ inr x ])
      rest

  pub gather_empty : (state : State) → IsEmpty image state → IsGatheredIn image file (λ a s. ⊥) state
  gather_empty state empty = record {
    count = empty.count;
    each = λ k string list is at. record {
      sound = λ i size c. absurd (contains_none (i, size) (subst (λ l. Contains l (i, size)) (empty.lists k list at) c));
      complete = λ i j c. absurd c.3;
    };
    left = λ e s h. none_left 0 state.later e s empty.later h;
  }

  -- the hits that were left are taken, and M are left still
  gather_later : (M H : ℕ → ℕ → Type 0) (first : ℕ) (later : List (List ℕ)) (old new : List (List Match)) → ((e s : ℕ) → M e s → H e s)
      → IsGathered image file (λ a s. M a s ⊎ AreLeft first later a s) H old → TakesLater image file first later old new → IsGathered image file M H new
  gather_later M H first [] old new left g same =
      subst (IsGathered image file M H) same
      (gathered_but image file (λ a s. M a s ⊎ AreLeft first [] a s) M H H old (λ e s h. h) (λ e s h. inl h) (λ e s h. elim h [ inl x ↦ x | inr x ↦ absurd x ]) left g)
  gather_later M H first (hits ∷ later) old new left g t =
      let N : ℕ → ℕ → Type 0 = λ a s. M a s ⊎ (Contains hits a × (s ≡ first)) in
      let before = gathered_but image file (λ a s. M a s ⊎ AreLeft first (hits ∷ later) a s) (λ a s. N a s ⊎ AreLeft (first + 1) later a s) H H old
      (λ e s h. h) (λ e s h. inl h) (λ e s h. elim h [ inl x ↦ inl (inl x) | inr (inl x) ↦ inl (inr x) | inr (inr x) ↦ inr x ])
      (λ e s h. g.left e s (elim h [ inl (inl x) ↦ inl x | inl (inr x) ↦ inr (inl x) | inr x ↦ inr (inr x) ])) g in
      let mid = gather_later N H (first + 1) later old t.0 (λ e s h. g.left e s (elim h [ inl x ↦ inl x | inr x ↦ inr (inl x) ])) before t.1 in
      gather_some image file N M H H first hits (λ e s h. h) (λ e c. g.left e first (inr (inl (c, refl)))) (λ e s h. inl h) (λ e s h. h) left t.0 new mid t.2

  -- where none is left any more
  pub gather_rest : (H : ℕ → ℕ → Type 0) (state : State) (new : List (List Match)) → IsGatheredIn image file H state → TakesLater image file 0 state.later state.lists new
      → IsGathered image file (λ a s. ⊥) H new
  gather_rest H state new g t =
      gather_later (λ a s. ⊥) H 0 state.later state.lists new (λ e s h. absurd h)
      (gathered_but image file (AreLeft 0 state.later) (λ a s. ⊥ ⊎ AreLeft 0 state.later a s) H H state.lists (λ e s h. h) (λ e s h. inl h) (λ e s h. inr h)
      (λ e s h. elim h [ inl x ↦ absurd x | inr x ↦ g.left e s x ]) g)
      t

  pub holds_all : (H : ℕ → ℕ → Type 0) (string : ℕ) (greatest : Bool) (list : List Match) → HoldsBut (CountedBy image file (λ a s. ⊥) string) (CountedBy image file H string) greatest list
      → Holds (CountedBy image file H string) greatest list
  holds_all H string greatest list h = record {
    sound = h.sound;
    complete = λ i j c. elim (h.complete i j c) [ inl m ↦ m | inr l ↦ absurd l.3 ];
  }

  -- ---- settled lists are match lists

  one_size : (least : ℕ) (list : List Match) (i a b : ℕ) → RisesFrom least list → Contains list (i, a) → Contains list (i, b) → a ≡ b
  one_size least [] i a b r x y = absurd (contains_none (i, a) x)
  one_size least (m ∷ ms) i a b r x y = elim (contains_cases m (i, a) ms x) [
    | inl p ↦ elim (contains_cases m (i, b) ms y) [
      | inl q ↦ let same : (i, a) ≡ (i, b) = sym p ∙ q in ap (λ (z : Match). z.1) same
      | inr q ↦ let up = rises_above (m.0 + 1) ms (i, b) r.1 q in let here = ap (λ (z : Match). z.0) p in absurd (omega (arith, up, here))
    ]
    | inr p ↦ elim (contains_cases m (i, b) ms y) [
      | inl q ↦ let up = rises_above (m.0 + 1) ms (i, a) r.1 p in let here = ap (λ (z : Match). z.0) q in absurd (omega (arith, up, here))
      | inr q ↦ one_size (m.0 + 1) ms i a b r.1 p q
    ]
  ]
    where
      rises_above : (least : ℕ) (list : List Match) (m : Match) → RisesFrom least list → Contains list m → least ≤ m.0
      rises_above least [] m r c = absurd (contains_none m c)
      rises_above least (x ∷ xs) m r c = elim (contains_cases x m xs c) [
        | inl e ↦ let same = ap (λ (z : Match). z.0) e in omega (arith, r.0, same)
        | inr later ↦ let up = rises_above (x.0 + 1) xs m r.1 later in omega (arith, up, r.0)
      ]

  begins_by : (list : List Match) (i size : ℕ) → Contains list (i, size) → begins_at list i ≡ true
  begins_by [] i size c = absurd (contains_none (i, size) c)
  begins_by (m ∷ ms) i size c =
      (Decides-or (m.0 == i) (begins_at ms i) (Decides-eqb m.0 i) (λ g. g, λ g. g)).1 (elim (contains_cases m (i, size) ms c) [
        | inl e ↦ inl (ap (λ (z : Match). z.0) e)
        | inr later ↦ inr (begins_by ms i size later)
      ])

  does_trans : (greatest : Bool) (a b c : ℕ) → DoesFor greatest a b → DoesFor greatest b c → DoesFor greatest a c
  does_trans true a b c p q = omega (arith, p, q)
  does_trans false a b c p q = omega (arith, p, q)

  pub settled_is_list : (spans : ℕ → ℕ → Type 0) (greatest : Bool) (gathered settled : List Match) → Holds spans greatest gathered → IsSettled greatest gathered settled
      → IsMatchList spans greatest settled
  settled_is_list spans greatest gathered settled h s = record {
    rises = s.rises;
    matches = λ k d lt.
        let m = get_or settled k d in
        let at : Contains settled m = (k, lt, get_same settled k d lt) in (
          h.sound m.0 m.1 (s.from m at),
          λ o span.
              let some = h.complete m.0 o span in
              let best = s.best m.0 some.0 some.1 in
              let same : best.0 ≡ m.1 = one_size 0 settled m.0 best.0 m.1 s.rises best.1 at in
              does_trans greatest (m.0 + m.1) (m.0 + some.0) o (subst (λ n. DoesFor greatest (m.0 + n) (m.0 + some.0)) same best.2) some.2,
        );
    complete = λ i j span.
        let some = h.complete i j span in
        let best = s.best i some.0 some.1 in
        begins_by settled i best.0 best.1;
  }
    where
      get_same : {X : Type 0} (xs : List X) (k : ℕ) (d : X) → k < length xs → get_or xs k (get_or xs k d) ≡ get_or xs k d
      get_same [] k d lt = absurd (omega (arith, lt))
      get_same (x ∷ xs) zero d lt = refl
      get_same (x ∷ xs) (suc k) d lt = get_same xs k d (omega (arith, lt))
