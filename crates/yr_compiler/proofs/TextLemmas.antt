-- Texts in a pool that grows.
use Rattle.std.proofs.Common.{◌≡◌, ℕ, ◌+◌, ◌-◌, ◌*◌, ◌≤◌, List, [], ◌∷◌, ◌++◌, length, take, drop, Some, slice_get, ◌⊎◌, inl, inr, zero, suc, refl, sym, ap, ◌∙◌, arith}
use Rattle.std.proofs.lemmas.List.{length-append, append_assoc, append-nil, take-append-le, drop-append-le, length-drop}
use Rattle.std.proofs.lemmas.Option.{none-some, same_Some}
use Rattle.yr_image.specs.Sections.{header_length, rule_width}
use Rattle.yr_image.specs.Image.{Image, pool_text}
use Rattle.yr_image.specs.Encoding.{encoded_length}
use Rattle.yr_draft.specs.Growing.{BeginsAs, Grows}
use Rattle.yr_draft.specs.Added.{HasText}
use Rattle.yr_compiler.specs.Notes.{IsText}

-- ---- lists that begin as others

pub begins_same : {X : Type 0} (a b : List X) → b ≡ a → BeginsAs a b
begins_same a b e = ([], e ∙ sym (append-nil a))

begins_after : {X : Type 0} (a b c : List X) → BeginsAs a b → BeginsAs b c → BeginsAs a c
begins_after a b c p q = (p.0 ++ q.0, q.1 ∙ ap (λ l. l ++ q.0) p.1 ∙ append_assoc a p.0 q.0)

range_left : {X : Type 0} (xs ys : List X) (first count : ℕ) → first + count ≤ length xs → take count (drop first (xs ++ ys)) ≡ take count (drop first xs)
range_left xs ys first count b =
    let size : length (drop first xs) ≡ length xs - first = length-drop first xs in
    ap (λ l. take count l) (drop-append-le first xs ys (omega (arith, b))) ∙ take-append-le count (drop first xs) ys (omega (arith, b, size))

pub kept_range : {X : Type 0} (old new : List X) (first count : ℕ) → BeginsAs old new → first + count ≤ length old → take count (drop first new) ≡ take count (drop first old)
kept_range old new first count b h = ap (λ l. take count (drop first l)) b.1 ∙ range_left old b.0 first count h

pub longer : {X : Type 0} (old new : List X) → BeginsAs old new → length old ≤ length new
longer old new b = let e : length new ≡ length old + length b.0 = ap length b.1 ∙ length-append old b.0 in omega (arith, e)

-- what stands in a list with one more at its end
pub push_place : {X : Type 0} (xs : List X) (x : X) (k : ℕ) (y : X) → slice_get (xs ++ x ∷ []) k ≡ Some y → (slice_get xs k ≡ Some y) ⊎ ((k ≡ length xs) × (x ≡ y))
push_place [] x zero y h = inr (refl, same_Some x y h)
push_place [] x (suc k) y h = absurd (none-some y h)
push_place (z ∷ xs) x zero y h = inl h
push_place (z ∷ xs) x (suc k) y h = at (push_place xs x k y h)
  where
    at : (slice_get xs k ≡ Some y) ⊎ ((k ≡ length xs) × (x ≡ y)) → (slice_get xs k ≡ Some y) ⊎ ((suc k ≡ suc (length xs)) × (x ≡ y))
    at (inl g) = inl g
    at (inr g) = inr (ap suc g.0, g.1)

-- ---- images

pub grows_after : (a b c : Image) → Grows a b → Grows b c → Grows a c
grows_after a b c p q = record {
  sets = begins_after a.sets b.sets c.sets p.sets q.sets;
  programs = begins_after a.programs b.programs c.programs p.programs q.programs;
  moves = begins_after a.moves b.moves c.moves p.moves q.moves;
  pool = begins_after a.pool b.pool c.pool p.pool q.pool;
}

pub grows_same : (old new : Image) → new.sets ≡ old.sets → new.programs ≡ old.programs → new.moves ≡ old.moves → new.pool ≡ old.pool → Grows old new
grows_same old new s p m q = record {
  sets = begins_same old.sets new.sets s;
  programs = begins_same old.programs new.programs p;
  moves = begins_same old.moves new.moves m;
  pool = begins_same old.pool new.pool q;
}

-- the bytes of the sections of rules, notes, externals and the pool, and of the others
abbrev pub own_bytes : Image → ℕ
own_bytes image = rule_width image.version * length image.rules + 24 * length image.notes + 24 * length image.externals + length image.pool

abbrev pub other_bytes : Image → ℕ
other_bytes image =
    header_length + 16 * length image.strings + 32 * length image.splits + 32 * length image.sets + 8 * length image.programs + 16 * length image.moves
    + 24 * length image.nodes + 8 * length image.edges + 4 * length image.outputs + 4 * length image.lists + 16 * length image.code

pub in_parts : (image : Image) → encoded_length image ≡ other_bytes image + own_bytes image
in_parts image = omega arith

module _ (old new : Image) (text : List ℕ) (place : ℕ) (has : HasText old new text place) where
  pub text_grows : Grows old new
  text_grows = record {
    sets = begins_same old.sets new.sets (ap (λ (i : Image). i.sets) has.others);
    programs = begins_same old.programs new.programs (ap (λ (i : Image). i.programs) has.others);
    moves = begins_same old.moves new.moves (ap (λ (i : Image). i.moves) has.others);
    pool = has.begins;
  }

  pub text_cost : encoded_length new ≤ encoded_length old + length text
  text_cost =
      let a = in_parts old in
      let b = in_parts new in
      let c : other_bytes new ≡ other_bytes old = ap other_bytes has.others in
      let d : rule_width new.version * length new.rules ≡ rule_width old.version * length old.rules = ap (λ (i : Image). rule_width i.version * length i.rules) has.others in
      let e : length new.notes ≡ length old.notes = ap (λ (i : Image). length i.notes) has.others in
      let f : length new.externals ≡ length old.externals = ap (λ (i : Image). length i.externals) has.others in
      let few = has.few in omega (arith, a, b, c, d, e, f, few)

  pub text_is : (count : ℕ) → count ≡ length text → IsText new text place count
  text_is count e = record {
    inside = let i = has.inside in omega (arith, i, e);
    reads = ap (λ n. pool_text new place n) e ∙ has.reads;
  }

pub text_stays : (old new : Image) (text : List ℕ) (place count : ℕ) → Grows old new → IsText old text place count → IsText new text place count
text_stays old new text place count g t =
    let more : length old.pool ≤ length new.pool = longer old.pool new.pool g.pool in
    record {
      inside = let i = t.inside in omega (arith, i, more);
      reads = kept_range old.pool new.pool place count g.pool t.inside ∙ t.reads;
    }
