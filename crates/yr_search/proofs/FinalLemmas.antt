-- The hits of a file, and the match lists that they give.
use Rattle.std.proofs.Common.{◌≡◌, ℕ, zero, suc, ◌+◌, ◌*◌, ◌<◌, ◌≤◌, ◌^◌, ◌⊎◌, inl, inr, Bool, List, [], ◌∷◌, ◌++◌, length, get_or, map, All, Contains, Option, Some, unwrap_or, refl, sym, ap, ◌∙◌, subst, arith, length-append}
use Rattle.std.specs.Prelude.{slice_get, Vec}
use Rattle.std.specs.declared.alloc.Global.{Global}
use Rattle.std.specs.List.{sum}
use Rattle.std.proofs.lemmas.List.Sums.{sum_by-cons}
use Rattle.std.proofs.Math.Nat.{mul-le-mul_left}
use Rattle.std.proofs.lemmas.Option.{slice_get_within, get_or_from_slice_get}
use Rattle.std.proofs.lemmas.List.Elements.{Contains-append_left, Contains-append_right, Contains-append_cases}
use Rattle.yr_answer.specs.MatchList.{Match, RisesFrom, IsMatchList}
use Rattle.yr_rows.specs.Walk.{AreOutputs}
use Rattle.yr_rows.specs.Nodes.{link_of, own_of}
use Rattle.yr_image.specs.declared.rows.StringRow.{StringRow}
use Rattle.yr_image.specs.Image.{Image}
use Rattle.yr_image.specs.Reading.{image_in}
use Rattle.yr_machine.specs.Hits.{AreHits, IsHit, hit_count}
use Rattle.yr_machine.specs.ImageMatches.{IsCounted, AreImageMatches, is_greatest}
use Rattle.yr_machine.specs.Wellformed.{IsWellformed}
use Rattle.yr_machine.specs.Budget.{search_budget, output_cost}
use Rattle.yr_answer.specs.Found.{Found, IsReadable, items_of}
use Rattle.yr_hits.specs.Gathering.{IsSettled}
use Rattle.yr_search.specs.Uppers.{own, upper, costs}
use Rattle.yr_search.specs.Walked.{AreFronts, front_cost, total, repeated, root_fronts}
use Rattle.yr_search.specs.State.{State, IsEmpty, cost_later, owed}
use Rattle.yr_search.specs.Taking.{TakesLater}
use Rattle.yr_search.specs.FoundIn.{IsFoundIn, AreTaken, AreSettled, AreAllShort}
use Rattle.yr_hits.proofs.HitLemmas.{there}
use Rattle.yr_hits.proofs.SideLemmas.{side_up}
use Rattle.yr_search.proofs.StateLemmas.{owed_none}
use Rattle.yr_search.proofs.TakeLemmas.{items_get, items_length}
use Rattle.yr_search.proofs.NodeLemmas.{outputs_are, links_fall}
use Rattle.yr_search.proofs.GatherLemmas.{Holds, CountedBy, IsGathered, InFronts, gather_fronts, gather_empty, gather_rest, holds_all, settled_is_list}

-- ---- fronts by their places

in_fronts_get : (e : ℕ) (fronts : List (List ℕ)) (a s : ℕ) → InFronts e fronts a s → (k : ℕ) × (a ≡ e + k) × (splits : List ℕ) × (slice_get fronts k ≡ Some splits) × Contains splits s
in_fronts_get e [] a s h = absurd h
in_fronts_get e (f ∷ fs) a s (inl h) = (0, omega (arith, h.0), f, refl, h.1)
in_fronts_get e (f ∷ fs) a s (inr h) = let r = in_fronts_get (e + 1) fs a s h in (suc r.0, omega (arith, r.1), r.2, r.3, r.4)

get_in_fronts : (e : ℕ) (fronts : List (List ℕ)) (k a s : ℕ) (splits : List ℕ) → a ≡ e + k → slice_get fronts k ≡ Some splits → Contains splits s → InFronts e fronts a s
get_in_fronts e [] k a s splits is at c = cc
get_in_fronts e (f ∷ fs) zero a s splits is at c = let same : f ≡ splits = cc in inl (omega (arith, is), subst (λ l. Contains l s) (sym same) c)
get_in_fronts e (f ∷ fs) (suc k) a s splits is at c = inr (get_in_fronts (e + 1) fs k a s splits (omega (arith, is)) at c)

repeated_get : (n : ℕ) (x y : List ℕ) (k : ℕ) → slice_get (repeated n x) k ≡ Some y → (k < n) × (x ≡ y)
repeated_get zero x y k e = cc
repeated_get (suc n) x y zero e = (omega arith, cc)
repeated_get (suc n) x y (suc k) e = let r = repeated_get n x y k e in (omega (arith, r.0), r.1)

get_repeated : (n : ℕ) (x : List ℕ) (k : ℕ) → k < n → slice_get (repeated n x) k ≡ Some x
get_repeated zero x k lt = absurd (omega (arith, lt))
get_repeated (suc n) x zero lt = refl
get_repeated (suc n) x (suc k) lt = get_repeated n x k (omega (arith, lt))

-- ---- the hits are those of the fronts and those of node 0

abbrev all_hits : (root : List ℕ) → List (List ℕ) → List (List ℕ)
all_hits root fronts = map (λ outputs. outputs ++ root) fronts

count_hits : (root : List ℕ) (fronts : List (List ℕ)) → hit_count (all_hits root fronts) ≡ length fronts * length root + total fronts
count_hits root [] = omega arith
count_hits root (f ∷ fs) =
    let rest = count_hits root fs in
    let here = sum_by-cons (λ (x : ℕ). x) (length (f ++ root)) (map length (all_hits root fs)) in
    let size = length-append f root in
    let more : suc (length fs) * length root ≡ length fs * length root + length root = omega arith in
    omega (arith, rest, here, size, more)

hits_length : (root : List ℕ) (fronts : List (List ℕ)) → length (all_hits root fronts) ≡ length fronts
hits_length root [] = refl
hits_length root (f ∷ fs) = ap suc (hits_length root fs)

front_of : (root : List ℕ) (fronts : List (List ℕ)) (e : ℕ) (outputs : List ℕ) → slice_get (all_hits root fronts) e ≡ Some outputs
    → (u : List ℕ) × (slice_get fronts e ≡ Some u) × (u ++ root ≡ outputs)
front_of root [] e outputs h = cc
front_of root (f ∷ fs) zero outputs h = (f, refl, cc)
front_of root (f ∷ fs) (suc e) outputs h = front_of root fs e outputs h

hit_of_front : (root : List ℕ) (fronts : List (List ℕ)) (e : ℕ) (u : List ℕ) → slice_get fronts e ≡ Some u → slice_get (all_hits root fronts) e ≡ Some (u ++ root)
hit_of_front root [] e u h = cc
hit_of_front root (f ∷ fs) zero u h = let same : f ≡ u = cc in ap (λ l. Some (l ++ root)) same
hit_of_front root (f ∷ fs) (suc e) u h = hit_of_front root fs e u h

module _ (bytes : List ℕ) (wellformed : IsWellformed bytes) (file : List ℕ) (fronts : List (List ℕ)) (are : AreFronts (image_in bytes) file (length file) fronts) where
  pub hits_are : AreHits (image_in bytes) file (all_hits (own (image_in bytes) 0) fronts)
  hits_are = record {
    fronts = hits_length (own (image_in bytes) 0) fronts ∙ are.count;
    each = λ e outputs at.
        let front = front_of (own (image_in bytes) 0) fronts e outputs at in
        let u = are.each e front.0 front.1 in
        let all = outputs_are (image_in bytes) (links_fall bytes wellformed) u.0 u.2 in
        let same : upper (image_in bytes) u.0 ++ own (image_in bytes) 0 ≡ outputs = ap (λ l. l ++ own (image_in bytes) 0) (sym u.3) ∙ front.2 in
        (u.0, u.1, subst (λ o. AreOutputs (link_of (image_in bytes).nodes) (own_of (image_in bytes).nodes (image_in bytes).outputs) u.0 o) same all);
  }

  -- where a hit is taken
  abbrev pub Taken : ℕ → ℕ → Type 0
  Taken e s = (⊥ ⊎ InFronts 0 (root_fronts (image_in bytes) file) e s) ⊎ InFronts 0 fronts e s

  pub hit_taken : (e s : ℕ) → IsHit (all_hits (own (image_in bytes) 0) fronts) e s → Taken e s
  hit_taken e s h =
      let root = own (image_in bytes) 0 in
      let front = front_of root fronts e h.0 h.1 in
      let within = slice_get_within fronts e front.0 front.1 in
      let here : e ≡ 0 + e = omega arith in
      elim (Contains-append_cases front.0 root s (subst (λ l. Contains l s) (sym front.2) h.2)) [
        | inl l ↦ inr (get_in_fronts 0 fronts e e s front.0 here front.1 l)
        | inr r ↦ inl (inr (get_in_fronts 0 (repeated (length file + 1) root) e e s root here (get_repeated (length file + 1) root e (omega (arith, within, are.count))) r))
      ]

  pub taken_hit : (e s : ℕ) → Taken e s → IsHit (all_hits (own (image_in bytes) 0) fronts) e s
  taken_hit e s (inl (inl h)) = absurd h
  taken_hit e s (inl (inr h)) =
      let root = own (image_in bytes) 0 in
      let r = in_fronts_get 0 (repeated (length file + 1) root) e s h in
      let rep = repeated_get (length file + 1) root r.2 r.0 r.3 in
      let here : r.0 ≡ e = omega (arith, r.1) in
      let u = there fronts e (omega (arith, rep.0, here, are.count)) in
      (u.0 ++ root, hit_of_front root fronts e u.0 u.1, Contains-append_right u.0 root s (subst (λ l. Contains l s) (sym rep.1) r.4))
  taken_hit e s (inr h) =
      let root = own (image_in bytes) 0 in
      let r = in_fronts_get 0 fronts e s h in
      let here : r.0 ≡ e = omega (arith, r.1) in
      let at : slice_get fronts e ≡ Some r.2 = ap (slice_get fronts) (sym here) ∙ r.3 in
      (r.2 ++ root, hit_of_front root fronts e r.2 at, Contains-append_left r.2 root s r.4)

-- ---- counted spans

module _ (image : Image) (file : List ℕ) (hits : List (List ℕ)) where
  counted_to : (H : ℕ → ℕ → Type 0) (string i j : ℕ) → ((e s : ℕ) → H e s → IsHit hits e s) → CountedBy image file H string i j → IsCounted image file hits string i j
  counted_to H string i j into c = record {
    e = c.0;
    split = c.1;
    hit = into c.0 c.1 c.3;
    row = c.2;
    is_row = c.4;
    is_of = c.5;
    spans = c.6.spans;
    longer = c.6.longer;
    border = c.6.border;
    border_is = c.6.border_is;
    begins = c.6.begins;
    ends = c.6.ends;
  }

  counted_from : (H : ℕ → ℕ → Type 0) (string i j : ℕ) → ((e s : ℕ) → IsHit hits e s → H e s) → IsCounted image file hits string i j → CountedBy image file H string i j
  counted_from H string i j back c = (
    c.e,
    c.split,
    c.row,
    back c.e c.split c.hit,
    c.is_row,
    c.is_of,
    record { spans = c.spans; longer = c.longer; border = c.border; border_is = c.border_is; begins = c.begins; ends = c.ends },
  )

  pub holds_counted : (H : ℕ → ℕ → Type 0) (string : ℕ) (greatest : Bool) (list : List Match) → ((e s : ℕ) → H e s → IsHit hits e s) → ((e s : ℕ) → IsHit hits e s → H e s)
      → Holds (CountedBy image file H string) greatest list → Holds (IsCounted image file hits string) greatest list
  holds_counted H string greatest list into back h = record {
    sound = λ i size c. counted_to H string i (i + size) into (h.sound i size c);
    complete = λ i j c. h.complete i j (counted_from H string i j back c);
  }

  -- a span that is counted lies in the file
  pub counted_inside : (string i j : ℕ) → length hits ≡ length file + 1 → IsCounted image file hits string i j → (i < j) × (j ≤ length file)
  counted_inside string i j long c =
      let within = slice_get_within hits c.e c.hit.0 c.hit.1 in
      let up = side_up image file c.row c.spans.after c.e j (omega (arith, within, long)) c.spans.after_spans in
      (c.longer, up.1)

-- ---- lists that rise below n are short

rises_short : (n least : ℕ) (list : List Match) → RisesFrom least list → ((m : Match) → Contains list m → m.0 < n) → least ≤ n → least + length list ≤ n
rises_short n least [] r below le = omega (arith, le)
rises_short n least (m ∷ ms) r below le =
    let here = below m (0, omega arith, refl) in
    let rest = rises_short n (m.0 + 1) ms r.1 (λ x h. below x (suc h.0, omega (arith, h.1), h.2)) (omega (arith, here)) in
    omega (arith, rest, r.0)

pub readable : (file : List ℕ) (list : List Match) → length file ≤ 2 ^ 28 → RisesFrom 0 list → ((m : Match) → Contains list m → m.0 < length file) → IsReadable list
readable file list small r below = let short = rises_short (length file) 0 list r below (omega arith) in (r, omega (arith, short, small))

-- ---- the lists of a search

items_from : (ws : List (Vec Match Global)) (k : ℕ) (list : List Match) → slice_get (items_of ws) k ≡ Some list → (w : Vec Match Global) × (slice_get ws k ≡ Some w) × (w.items ≡ list)
items_from [] k list e = cc
items_from (w ∷ ws) zero list e = (w, refl, cc)
items_from (w ∷ ws) (suc k) list e = items_from ws k list e

module _ (bytes : List ℕ) (wellformed : IsWellformed bytes) (file : List ℕ) (small : length file ≤ 2 ^ 28) (empty left : State) (lists : List (Vec Match Global)) (count : ℕ)
    (none : IsEmpty (image_in bytes) empty) (taken : AreTaken (image_in bytes) file empty left count)
    (swept : TakesLater (image_in bytes) file 0 left.later left.lists (items_of lists)) where
  abbrev fronts : List (List ℕ)
  fronts = taken.walked.fronts

  abbrev pub all : List (List ℕ)
  all = all_hits (own (image_in bytes) 0) taken.walked.fronts

  pub are_all : AreHits (image_in bytes) file all
  are_all = hits_are bytes wellformed file taken.walked.fronts taken.walked.are

  pub counts_all : count ≡ hit_count all
  counts_all =
      let sum = count_hits (own (image_in bytes) 0) taken.walked.fronts in
      let long = ap (λ n. n * length (own (image_in bytes) 0)) taken.walked.are.count in
      omega (arith, sum, long, taken.counted, taken.walked.counted)

  gathered : IsGathered (image_in bytes) file (λ a s. ⊥) (Taken bytes wellformed file taken.walked.fronts taken.walked.are) (items_of lists)
  gathered =
      let start = gather_empty (image_in bytes) file empty none in
      let root = gather_fronts (image_in bytes) file (λ a s. ⊥) 0 (root_fronts (image_in bytes) file) empty taken.mid start taken.root in
      let all = gather_fronts (image_in bytes) file (λ a s. ⊥ ⊎ InFronts 0 (root_fronts (image_in bytes) file) a s) 0 taken.walked.fronts taken.mid left root taken.walked.takes in
      gather_rest (image_in bytes) file (Taken bytes wellformed file taken.walked.fronts taken.walked.are) left (items_of lists) all swept

  holds_at : (k : ℕ) (string : StringRow) (list : List Match) → slice_get (image_in bytes).strings k ≡ Some string → slice_get (items_of lists) k ≡ Some list
      → Holds (IsCounted (image_in bytes) file all k) (is_greatest (image_in bytes) file string) list
  holds_at k string list is at =
      holds_counted (image_in bytes) file all (Taken bytes wellformed file taken.walked.fronts taken.walked.are) k (is_greatest (image_in bytes) file string) list
      (taken_hit bytes wellformed file taken.walked.fronts taken.walked.are) (hit_taken bytes wellformed file taken.walked.fronts taken.walked.are)
      (holds_all (image_in bytes) file (Taken bytes wellformed file taken.walked.fronts taken.walked.are) k (is_greatest (image_in bytes) file string) list (gathered.each k string list is at))

  lists_length : length lists ≡ length (image_in bytes).strings
  lists_length = sym (items_length lists) ∙ gathered.count

  match_inside : (k : ℕ) (v : Vec Match Global) (m : Match) → slice_get lists k ≡ Some v → Contains v.items m → (m.0 < length file) × (m.0 + m.1 ≤ length file)
  match_inside k v m at c =
      let string = there (image_in bytes).strings k (omega (arith, slice_get_within lists k v at, lists_length)) in
      let span = (holds_at k string.0 v.items string.1 (items_get lists k v at)).sound m.0 m.1 c in
      let inside = counted_inside (image_in bytes) file all k m.0 (m.0 + m.1) are_all.fronts span in
      (omega (arith, inside.0, inside.1), inside.1)

  pub all_short : AreAllShort lists
  all_short k v at m c = let inside = match_inside k v m at c in omega (arith, inside.1, small)

  module _ (settled : List (Vec Match Global)) (same : length settled ≡ length lists) (are : AreSettled (image_in bytes) file lists settled) where
    settled_at : (k : ℕ) (string : StringRow) (w : Vec Match Global) → slice_get (image_in bytes).strings k ≡ Some string → slice_get settled k ≡ Some w
        → (v : Vec Match Global) × (slice_get lists k ≡ Some v) × IsSettled (is_greatest (image_in bytes) file string) v.items w.items
    settled_at k string w is at =
        let v = there lists k (omega (arith, slice_get_within settled k w at, same)) in
        (v.0, v.1, are k string v.0 w is v.1 at)

    pub lists_are : AreImageMatches (image_in bytes) file all (items_of settled)
    lists_are = record {
      count = items_length settled ∙ same ∙ lists_length;
      each = λ k row list is at.
          let w = items_from settled k list at in
          let v = settled_at k row w.0 is w.1 in
          let h = holds_at k row v.0.items is (items_get lists k v.0 v.1) in
          subst (λ l. IsMatchList (IsCounted (image_in bytes) file all k) (is_greatest (image_in bytes) file row) l) w.2
          (settled_is_list (image_in bytes) file (IsCounted (image_in bytes) file all k) (is_greatest (image_in bytes) file row) v.0.items w.0.items h v.2);
    }

    pub all_readable : All IsReadable (items_of settled)
    all_readable k d lt =
        let long = items_length settled in
        let w = there settled k (omega (arith, lt, long)) in
        let string = there (image_in bytes).strings k (omega (arith, lt, long, same, lists_length)) in
        let v = settled_at k string.0 w.0 string.1 w.1 in
        let good : IsReadable w.0.items = readable file w.0.items small v.2.rises (λ m c. (match_inside k v.0 m v.1 (v.2.from m c)).0) in
        let here : get_or (items_of settled) k d ≡ w.0.items = get_or_from_slice_get (items_of settled) k w.0.items d (items_get settled k w.0 w.1) in
        subst IsReadable (sym here) good

    pub found_in : (found : Found) → found.lists ≡ items_of settled → found.hits ≡ count → IsFoundIn (image_in bytes) file found
    found_in found are_lists are_hits = record {
      hits = all;
      are = are_all;
      counted = are_hits ∙ counts_all;
      lists = subst (λ ls. AreImageMatches (image_in bytes) file all ls) (sym are_lists) lists_are;
    }

-- what all hits cost
pub all_cost : (n root front before first last : ℕ) → first ≤ before + (n + 1) * root → last + n * root ≤ first + 5 * n + n * front → root ≤ front
    → last ≤ before + 5 * (n + 1) + (n + 1) * front
all_cost n root front before first last one two less =
    let a : (n + 1) * root ≡ n * root + root = omega arith in
    let b : (n + 1) * front ≡ n * front + front = omega arith in
    omega (arith, one, two, less, a, b)

pub root_cost : (n root front before first : ℕ) → first ≤ before + (n + 1) * root → root ≤ front → first ≤ before + 5 * (n + 1) + (n + 1) * front
root_cost n root front before first one less = let bound = mul-le-mul_left (n + 1) less in omega (arith, one, bound)

pub costs_are : (f : ℕ → ℕ) (xs : List ℕ) → costs f xs ≡ sum (map f xs)
costs_are f [] = refl
costs_are f (x ∷ xs) = let rest = costs_are f xs in let here = sum_by-cons (λ (y : ℕ). y) (f x) (map f xs) in omega (arith, rest, here)

pub one_vec : (o : Option (Vec Match Global)) (v w : Vec Match Global) → o ≡ Some v → o ≡ Some w → v ≡ w
one_vec o v w p q = some_is v w (sym p ∙ q)
  where
    some_is : (v w : Vec Match Global) → ◌≡◌ {A = Option (Vec Match Global)} (Some v) (Some w) → v ≡ w
    some_is v w e = ap (λ (o : Option (Vec Match Global)). unwrap_or o v) e

pub one_string : (o : Option StringRow) (v w : StringRow) → o ≡ Some v → o ≡ Some w → v ≡ w
one_string o v w p q = cc

-- where nothing was gathered yet, nothing was owed
pub within_budget : (image : Image) (n before now : ℕ) (empty left : State) → IsEmpty image empty
    → now + owed image n left ≤ before + owed image n empty + 5 * (n + 1) + (n + 1) * front_cost image n → now + owed image n left ≤ before + search_budget image n
within_budget image n before now empty left none le =
    let nothing = owed_none (cost_later image n) 0 empty.later none.later in
    let same = ap (λ s. (n + 1) * s) (costs_are (output_cost image n) image.outputs) in omega (arith, le, same, nothing)

-- the hits of node 0 are counted apart
pub apart : (bytes : List ℕ) (wellformed : IsWellformed bytes) (file : List ℕ) (fronts : List (List ℕ)) → AreFronts (image_in bytes) file (length file) fronts
    → (hits : List (List ℕ)) × AreHits (image_in bytes) file hits × (hit_count hits ≡ (length file + 1) * length (own (image_in bytes) 0) + total fronts)
apart bytes wellformed file fronts are =
    let root = own (image_in bytes) 0 in (
      all_hits root fronts,
      hits_are bytes wellformed file fronts are,
      count_hits root fronts ∙ ap (λ n. n * length root + total fronts) are.count,
    )
