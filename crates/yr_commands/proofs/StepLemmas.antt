-- Steps of the commands.
use Rattle.std.proofs.Common.{◌≡◌, ℕ, List, [], ◌∷◌, ◌++◌, Vec, Result, Ok, Err, IfOk, refl, sym, ap, subst, ◌∙◌, append_assoc, codes, decimal}
use Rattle.std.specs.declared.alloc.Global.{Global}
use Rattle.yr_base.specs.Told.{told_more-nil}
use Rattle.yr_outcome.specs.declared.answer.Answer.TheVariants as answer
use Rattle.yr_image.specs.Image.{Image}
use Rattle.yr_image.specs.Encoding.{encoded}
use Rattle.yr_image.specs.Fits.{Fits}
use Rattle.yr_outcome.specs.Answers.{Setting, counted}
use Rattle.yr_outcome.specs.Fits.{Seen}
use Rattle.yr_outcome.specs.Steps.{Endings, FitsAnswer}

-- there was no memory, and nothing was done
pub stops : (setting : Setting) (e : Endings) (s : Seen) → FitsAnswer setting e answer.NoMemory s s
stops setting e s = λ found. record {
  written = refl;
  files = refl;
  noted = record { done = []; rest = (e found).outcome.reads; whole = refl; added = sym (told_more-nil s.trace) };
}

-- a number in its line, and what follows
in-line : (n rest : List ℕ) → (n ++ codes "\n") ++ rest ≡ n ++ (codes "\n" ++ rest)
in-line n rest = append_assoc n (codes "\n") rest

-- the lines of `work`
pub work-pieces : (a b c d : List ℕ)
    → ((codes "rules" ++ (codes " " ++ a)) ++ codes "\n") ++ (((codes "bytes" ++ (codes " " ++ b)) ++ codes "\n")
    ++ (((codes "satisfied" ++ (codes " " ++ c)) ++ codes "\n") ++ ((codes "matches" ++ (codes " " ++ d)) ++ codes "\n")))
    ≡ codes "rules " ++ (a ++ (codes "\n" ++ (codes "bytes " ++ (b ++ (codes "\n" ++ (codes "satisfied " ++ (c ++ (codes "\n" ++ (codes "matches " ++ (d ++ codes "\n"))))))))))
work-pieces a b c d =
    let last = codes "matches " ++ (d ++ codes "\n") in
    let third = codes "satisfied " ++ (c ++ (codes "\n" ++ last)) in
    ap (λ l. codes "rules " ++ l) (in-line a (codes "bytes " ++ ((b ++ codes "\n") ++ (codes "satisfied " ++ ((c ++ codes "\n") ++ last)))))
    ∙ ap (λ l. codes "rules " ++ (a ++ (codes "\n" ++ (codes "bytes " ++ l)))) (in-line b (codes "satisfied " ++ ((c ++ codes "\n") ++ last)))
    ∙ ap (λ l. codes "rules " ++ (a ++ (codes "\n" ++ (codes "bytes " ++ (b ++ (codes "\n" ++ (codes "satisfied " ++ l))))))) (in-line c last)

-- the same, with each number under another name
pub work-shown : (a b c d : ℕ) (a' b' c' d' : List ℕ) → a' ≡ decimal a → b' ≡ decimal b → c' ≡ decimal c → d' ≡ decimal d
    → codes "rules " ++ (a' ++ (codes "\n" ++ (codes "bytes " ++ (b' ++ (codes "\n" ++ (codes "satisfied " ++ (c' ++ (codes "\n" ++ (codes "matches " ++ (d' ++ codes "\n"))))))))))
    ≡ counted (codes "rules") a ++ (counted (codes "bytes") b ++ (counted (codes "satisfied") c ++ counted (codes "matches") d))
work-shown a b c d a' b' c' d' e f g h =
    (λ i. codes "rules " ++ (e i ++ (codes "\n" ++ (codes "bytes " ++ (f i ++ (codes "\n" ++ (codes "satisfied " ++ (g i ++ (codes "\n" ++ (codes "matches " ++ (h i ++ codes "\n")))))))))))
    ∙ sym (work-pieces (decimal a) (decimal b) (decimal c) (decimal d))

-- an image of tables
pub image-ok : {E : Type 0} (r : Result (Vec ℕ Global) E) (image : Image) (P : List ℕ → Type 0) → IfOk r (λ bytes. bytes.items ≡ encoded image) → IfOk r (λ bytes. Fits image)
    → (Fits image → P (encoded image)) → IfOk r (λ bytes. P bytes.items)
image-ok (Ok bytes) image P e fits h = subst P (sym e) (h fits)
image-ok (Err why) image P e fits h = e
