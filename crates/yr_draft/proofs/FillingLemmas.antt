-- Rows that are pushed one after another.
use Rattle.std.specs.Prelude.{option_map}
use Rattle.std.proofs.Common.{◌≡◌, ℕ, zero, suc, ◌+◌, List, [], ◌∷◌, ◌++◌, length, take, drop, map, Some, slice_get, sym, ap, ◌∙◌, arith}
use Rattle.std.proofs.lemmas.List.{append_assoc, length-append, take_more}
use Rattle.std.proofs.Math.Seq.{drop-append_seam, take-length}
use Rattle.yr_image.specs.Image.{Image}
use Rattle.yr_draft.specs.Added.{HasText}
use Rattle.std.proofs.lemmas.Option.{slice_get_within, get_or_from_slice_get, none-some}

pub get_map : {X Y : Type 0} (f : X → Y) (xs : List X) (i : ℕ) (x : X) → slice_get xs i ≡ Some x → slice_get (map f xs) i ≡ Some (f x)
get_map f [] i x h = absurd (none-some x h)
get_map f (y ∷ ys) zero x h = ap (λ o. option_map f o) h
get_map f (y ∷ ys) (suc i) x h = get_map f ys i x h

-- the next row is pushed
pub pushed : {X : Type 0} (start rows into : List X) (i : ℕ) (x : X) → slice_get rows i ≡ Some x → into ≡ start ++ take i rows
    → into ++ x ∷ [] ≡ start ++ take (i + 1) rows
pushed start rows into i x h e =
    ap (λ l. l ++ x ∷ []) e ∙ append_assoc start (take i rows) (x ∷ [])
    ∙ ap (λ y. start ++ (take i rows ++ y ∷ [])) (sym (get_or_from_slice_get rows i x x h))
    ∙ ap (λ l. start ++ l) (sym (take_more rows i x (slice_get_within rows i x h)))

-- a text that was added at the end of the pool
pub text_put : (old new : Image) (text : List ℕ) (place : ℕ) → new ≡ record old { pool = new.pool } → new.pool ≡ old.pool ++ text → place ≡ length old.pool → HasText old new text place
text_put old new text place same added here =
    let long : length new.pool ≡ length old.pool + length text = ap length added ∙ length-append old.pool text in
    record {
      others = same;
      begins = (text, added);
      few = omega (arith, long);
      inside = omega (arith, long, here);
      reads = ap (λ p. take (length text) (drop place p)) added ∙ ap (λ n. take (length text) (drop n (old.pool ++ text))) here
          ∙ ap (take (length text)) (drop-append_seam old.pool text) ∙ take-length text;
    }
