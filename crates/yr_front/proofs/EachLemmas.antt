-- What each of a list gives, item after item.
use Rattle.std.proofs.Common.{◌≡◌, ℕ, ◌+◌, ◌<◌, ◌≤◌, List, [], ◌∷◌, ◌++◌, length, map, take, drop, get_or, Result, Ok, Err, refl, sym, ap, ◌∙◌, append_assoc, append-nil, add-one}
use Rattle.std.proofs.lemmas.List.{take_more, map-append}
use Rattle.std.proofs.Math.Seq.{drop-cons}
use Rattle.std.proofs.Math.ListN.{drop_of_length-le}
use Rattle.yr_outcome.specs.Front.{with_first, each_ok}
use Rattle.yr_front.specs.Units.{behind}

behind-first : {A E : Type 0} (xs : List A) (x : A) (r : Result (List A) E) → behind xs (with_first (Ok x) r) ≡ behind (xs ++ x ∷ []) r
behind-first xs x (Ok ys) = ap Ok (sym (append_assoc xs (x ∷ []) ys))
behind-first xs x (Err e) = refl

pub behind-none : {A E : Type 0} (r : Result (List A) E) → r ≡ behind [] r
behind-none (Ok ys) = refl
behind-none (Err e) = refl

module _ {A B E : Type 0} (f : A → Result B E) where
  -- one more
  pub each-step : (ys : List B) (x : A) (y : B) (xs : List A) → f x ≡ Ok y → behind ys (each_ok f (x ∷ xs)) ≡ behind (ys ++ y ∷ []) (each_ok f xs)
  each-step ys x y xs e = ap (λ (r : Result B E). behind ys (with_first r (each_ok f xs))) e ∙ behind-first ys y (each_ok f xs)

  -- the first refusal
  pub each-stop : (ys : List B) (x : A) (e : E) (xs : List A) → f x ≡ Err e → behind ys (each_ok f (x ∷ xs)) ≡ Err e
  each-stop ys x e xs h = ap (λ (r : Result B E). behind ys (with_first r (each_ok f xs))) h

  -- no more
  pub each-end : (ys : List B) → behind ys (each_ok f []) ≡ Ok ys
  each-end ys = ap Ok (append-nil ys)

-- the first of what is left
pub rest-at : {A B : Type 0} (f : A → B) (xs : List A) (i : ℕ) (d : A) → i < length xs → map f (drop i xs) ≡ f (get_or xs i d) ∷ map f (drop (i + 1) xs)
rest-at f xs i d h = ap (map f) (drop-cons xs i d h ∙ ap (λ n. get_or xs i d ∷ drop n xs) (sym (add-one i)))

pub rest-item : {A B : Type 0} (f : A → B) (xs : List A) (i : ℕ) (x : A) → i < length xs → x ≡ get_or xs i x → map f (drop i xs) ≡ f x ∷ map f (drop (i + 1) xs)
rest-item f xs i x h e = rest-at f xs i x h ∙ ap (λ y. f y ∷ map f (drop (i + 1) xs)) (sym e)

-- and one more of those before it
pub front-at : {A B : Type 0} (f : A → B) (xs : List A) (i : ℕ) (d : A) → i < length xs → map f (take (i + 1) xs) ≡ map f (take i xs) ++ f (get_or xs i d) ∷ []
front-at f xs i d h = ap (map f) (take_more xs i d h) ∙ map-append f (take i xs) (get_or xs i d ∷ [])

pub front-item : {A B : Type 0} (f : A → B) (xs : List A) (i : ℕ) (x : A) → i < length xs → x ≡ get_or xs i x → map f (take (i + 1) xs) ≡ map f (take i xs) ++ f x ∷ []
front-item f xs i x h e = front-at f xs i x h ∙ ap (λ y. map f (take i xs) ++ f y ∷ []) (sym e)

-- nothing is left
pub rest-none : {A B : Type 0} (f : A → B) (xs : List A) (i : ℕ) → length xs ≤ i → map f (drop i xs) ≡ []
rest-none f xs i h = ap (map f) (drop_of_length-le xs h)

-- what both have of one more
pub same-next : {A B C : Type 0} (f : A → C) (g : B → C) (old new : List A) (xs : List B) (i : ℕ) (d : B) → i < length xs
    → map f new ≡ map f old ++ g (get_or xs i d) ∷ [] → map f old ≡ map g (take i xs) → map f new ≡ map g (take (i + 1) xs)
same-next f g old new xs i d h e so = e ∙ ap (λ l. l ++ g (get_or xs i d) ∷ []) so ∙ sym (front-at g xs i d h)
