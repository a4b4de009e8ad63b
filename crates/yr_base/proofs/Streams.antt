-- Bytes that go from a reader or to a writer in pieces.
use Rattle.std.proofs.Common.{◌≡◌, ℕ, ◌-◌, List, [], ◌++◌, length, take, drop, Option, None, Some, IfSome, refl, sym, ap, subst, ◌∙◌, append_assoc, append-nil, take-append-drop}
use Rattle.std.proofs.Math.Seq.{take-append_seam}
use Rattle.std.proofs.lemmas.List.{take_rest}
use Rattle.std.specs.Io.KnownBytes.{Consumes, Appends, Keeps, IsAtEnd}
use Rattle.std.proofs.KnownBytes.{Consumes-trans, Consumes-all, Appends-kept}

-- nothing was taken, and then some bytes
pub kept-Consumes : (a b c : Option (List ℕ)) (bs : List ℕ) → Keeps a b → Consumes b c bs → Consumes a c bs
kept-Consumes None b c bs p q = tt
kept-Consumes (Some x) None c bs p q = absurd p
kept-Consumes (Some x) (Some y) None bs p q = absurd q
kept-Consumes (Some x) (Some y) (Some z) bs p q = sym p ∙ q

-- nothing was left, and then some bytes
pub kept-Appends : (a b c : Option (List ℕ)) (bs : List ℕ) → Keeps a b → Appends b c bs → Appends a c bs
kept-Appends None b c bs p q = tt
kept-Appends (Some x) None c bs p q = absurd p
kept-Appends (Some x) (Some y) None bs p q = absurd q
kept-Appends (Some x) (Some y) (Some z) bs p q = q ∙ ap (λ l. l ++ bs) p

-- one piece more
pub Consumes-more : (a b c : Option (List ℕ)) (old new bs : List ℕ) → Consumes a b old → Consumes b c bs → new ≡ old ++ bs → Consumes a c new
Consumes-more a b c old new bs p q e = subst (Consumes a c) (sym e) (Consumes-trans a b c old bs p q)

-- a reader that gave no byte more at its end gave all
pub Consumes-ended : (a b c : Option (List ℕ)) (old bs : List ℕ) → Consumes a b old → Consumes b c bs → bs ≡ [] → IsAtEnd c → IfSome a (λ all. old ≡ all)
Consumes-ended a b c old bs p q none end =
    let whole : Consumes a c (old ++ bs) = Consumes-trans a b c old bs p q in
    Consumes-all a c old [] old (subst (Consumes a c) (ap (λ l. old ++ l) none ∙ append-nil old) whole) end refl

-- the bytes that were taken are the front of what there was
pub Consumes-front : (a b : Option (List ℕ)) (bs : List ℕ) (n : ℕ) → length bs ≡ n → Consumes a b bs → IfSome a (λ all. bs ≡ take n all)
Consumes-front None b bs n e p = tt
Consumes-front (Some x) None bs n e p = absurd p
Consumes-front (Some x) (Some y) bs n e p = sym (ap (take n) p ∙ ap (λ k. take k (bs ++ y)) (sym e) ∙ take-append_seam bs y)

-- so many bytes of those that were to be written
pub Appends-part : (a b c : Option (List ℕ)) (all done rest : List ℕ) → Appends a b done → Keeps b c → all ≡ done ++ rest → Appends a c (take (length done) all)
Appends-part a b c all done rest p q e = subst (Appends a c) (sym (ap (take (length done)) e ∙ take-append_seam done rest)) (Appends-kept a b c done p q)

-- one piece more of those that are to be written
pub split-more : (all done rest : List ℕ) (n : ℕ) → all ≡ done ++ rest → all ≡ (done ++ take n rest) ++ take (length rest - n) (drop n rest)
split-more all done rest n e =
    e ∙ ap (λ l. done ++ l) (sym (take-append-drop n rest)) ∙ sym (append_assoc done (take n rest) (drop n rest)) ∙ ap (λ l. (done ++ take n rest) ++ l) (sym (take_rest rest n))

-- a write that took nothing left nothing
pub kept-nothing : (a b c : Option (List ℕ)) (bs : List ℕ) (n : ℕ) → n ≡ 0 → Keeps a b → Appends b c (take n bs) → Keeps a c
kept-nothing None b c bs n e p q = tt
kept-nothing (Some x) None c bs n e p q = absurd p
kept-nothing (Some x) (Some y) None bs n e p q = absurd q
kept-nothing (Some x) (Some y) (Some z) bs n e p q = q ∙ ap (λ k. y ++ take k bs) e ∙ append-nil y ∙ p
