-- Pieces added one after another.
use Rattle.yr_base.specs.Causes.{HasRisen}
use Rattle.std.proofs.Common.{◌≡◌, ℕ, Bool, true, false, ◌≤◌, arith, List, [], ◌++◌, Option, Result, Ok, Err, refl, sym, ap, subst, ◌∙◌, append_assoc, append-nil}
use Rattle.std.specs.Result.{IsErr}
use Rattle.yr_base.specs.Told.{told_more, AddsPrefix, told_more-nil, told_more-more}
use Rattle.yr_answer.specs.Report.{on_request}
use Rattle.yr_report.specs.declared.line.Failed.{Failed}
use Rattle.yr_report.specs.Adding.{Added, Adds}

-- nothing is added
pub added-nothing : (old : Option (List ℕ)) (before : List ℕ) → Added old old before before []
added-nothing old before = record { bytes = []; put = sym (told_more-nil old); whole = append-nil before }

-- two pieces
pub added-both : {old mid new : Option (List ℕ)} {p q r x y : List ℕ} → Added old mid p q x → Added mid new q r y → Added old new p r (x ++ y)
added-both {old = old} {p = p} {q = q} {r = r} {x = x} {y = y} a b = record {
  bytes = a.bytes ++ b.bytes;
  put = b.put ∙ ap (λ t. told_more t b.bytes) a.put ∙ told_more-more old a.bytes b.bytes;
  whole =
      sym (append_assoc p x y) ∙ ap (λ l. l ++ y) a.whole ∙ append_assoc a.bytes q y ∙ ap (λ l. a.bytes ++ l) b.whole
      ∙ sym (append_assoc a.bytes b.bytes r);
}

-- a piece, and a prefix of what follows
pub prefix-after : {old mid new : Option (List ℕ)} {p q x : List ℕ} (y : List ℕ) → Added old mid p q x → AddsPrefix mid new (q ++ y) → AddsPrefix old new (p ++ (x ++ y))
prefix-after {old = old} {p = p} {q = q} {x = x} y a b = record {
  taken = a.bytes ++ b.taken;
  rest = b.rest;
  whole =
      sym (append_assoc p x y) ∙ ap (λ l. l ++ y) a.whole ∙ append_assoc a.bytes q y ∙ ap (λ l. a.bytes ++ l) b.whole
      ∙ sym (append_assoc a.bytes b.taken b.rest);
  added = b.added ∙ ap (λ t. told_more t b.taken) a.put ∙ told_more-more old a.bytes b.taken;
}

-- a prefix of a piece, and more that was to come
pub prefix-more : {old new : Option (List ℕ)} (p x y : List ℕ) → AddsPrefix old new (p ++ x) → AddsPrefix old new (p ++ (x ++ y))
prefix-more p x y b = record {
  taken = b.taken;
  rest = b.rest ++ y;
  whole = sym (append_assoc p x y) ∙ ap (λ l. l ++ y) b.whole ∙ append_assoc b.taken b.rest y;
  added = b.added;
}

-- what waited was put, and a piece was added to nothing
pub added-after-put : {old mid new : Option (List ℕ)} {p r x : List ℕ} → mid ≡ told_more old p → Added mid new [] r x → Added old new p r x
added-after-put {old = old} {p = p} {r = r} {x = x} e a = record {
  bytes = p ++ a.bytes;
  put = a.put ∙ ap (λ t. told_more t a.bytes) e ∙ told_more-more old p a.bytes;
  whole = ap (λ l. p ++ l) a.whole ∙ sym (append_assoc p a.bytes r);
}

pub prefix-after-put : {old mid new : Option (List ℕ)} (p x : List ℕ) → mid ≡ told_more old p → AddsPrefix mid new ([] ++ x) → AddsPrefix old new (p ++ x)
prefix-after-put {old = old} p x e b = record {
  taken = p ++ b.taken;
  rest = b.rest;
  whole = ap (λ l. p ++ l) b.whole ∙ sym (append_assoc p b.taken b.rest);
  added = b.added ∙ ap (λ t. told_more t b.taken) e ∙ told_more-more old p b.taken;
}

-- the front of it alone
pub prefix-front : {old new : Option (List ℕ)} (p x : List ℕ) → AddsPrefix old new p → AddsPrefix old new (p ++ x)
prefix-front p x b = record {
  taken = b.taken;
  rest = b.rest ++ x;
  whole = ap (λ l. l ++ x) b.whole ∙ append_assoc b.taken b.rest x;
  added = b.added;
}

pub risen-before : (before mid later : ℕ) → before ≤ mid → HasRisen mid later → HasRisen before later
risen-before before mid later b h = omega (arith, b, h)

-- what follows a put of what waited
pub adds-after-put : (old mid new : Option (List ℕ)) (p r x : List ℕ) (result : Result (Unit {0}) Failed) (before between later : ℕ) → before ≤ between → mid ≡ told_more old p
    → Adds mid new [] r x result between later → Adds old new p r x result before later
adds-after-put old mid new p r x (Ok u) before between later b e a = added-after-put e a
adds-after-put old mid new p r x (Err f) before between later b e a = (risen-before before between later b a.0, prefix-after-put p x e a.1)

-- ---- some of a text is added, and the rest is to come

pub record Goes (old now : Option (List ℕ)) (before waits rest all : List ℕ) : Type 0 where
  pub bytes : List ℕ
  pub added : Added old now before waits bytes
  pub whole : all ≡ bytes ++ rest

pub goes-start : (old : Option (List ℕ)) (before all : List ℕ) → Goes old old before before all all
goes-start old before all = record { bytes = []; added = added-nothing old before; whole = refl }

-- one more piece
pub goes-on : {old now next : Option (List ℕ)} {p q r x rest all : List ℕ} (more : List ℕ) → Goes old now p q rest all → rest ≡ x ++ more → Added now next q r x
    → Goes old next p r more all
goes-on {x = x} more g e a = record {
  bytes = g.bytes ++ x;
  added = added-both g.added a;
  whole = g.whole ∙ ap (λ l. g.bytes ++ l) e ∙ sym (append_assoc g.bytes x more);
}

-- nothing is to come
pub goes-out : {old now : Option (List ℕ)} {p q rest all : List ℕ} → Goes old now p q rest all → rest ≡ [] → Added old now p q all
goes-out {old = old} {now = now} {p = p} {q = q} g e =
    subst (λ (l : List ℕ). Added old now p q l) (sym (g.whole ∙ ap (λ l. g.bytes ++ l) e ∙ append-nil g.bytes)) g.added

-- the last piece
pub goes-last : {old now next : Option (List ℕ)} {p q r x rest all : List ℕ} → Goes old now p q rest all → rest ≡ x → Added now next q r x → Added old next p r all
goes-last {x = x} g e a = goes-out (goes-on [] g (e ∙ sym (append-nil x)) a) refl

-- the next piece fails
pub goes-fails : {old now new : Option (List ℕ)} {p q rest all : List ℕ} (before mid later : ℕ) (x more : List ℕ) → before ≤ mid → Goes old now p q rest all
    → rest ≡ x ++ more → HasRisen mid later × AddsPrefix now new (q ++ x) → HasRisen before later × AddsPrefix old new (p ++ all)
goes-fails {old = old} {now = now} {new = new} {p = p} {q = q} {rest = rest} before mid later x more b g e h = (
  risen-before before mid later b h.0,
  subst (λ (l : List ℕ). AddsPrefix old new (p ++ l)) (sym g.whole)
      (prefix-after rest g.added (subst (λ (l : List ℕ). AddsPrefix now new (q ++ l)) (sym e) (prefix-more q x more h.1))),
)

-- the last piece, whatever its result
pub goes-ends : {old now : Option (List ℕ)} {p q rest all : List ℕ} (new : Option (List ℕ)) (r x : List ℕ) (result : Result (Unit {0}) Failed) (before mid later : ℕ) → before ≤ mid
    → Goes old now p q rest all → rest ≡ x → Adds now new q r x result mid later → Adds old new p r all result before later
goes-ends new r x (Ok u) before mid later b g e a = goes-last g e a
goes-ends new r x (Err f) before mid later b g e a = goes-fails before mid later x [] b g (e ∙ sym (append-nil x)) a

-- the next piece fails, and so does all
pub goes-breaks : {old now new : Option (List ℕ)} {p q rest all : List ℕ} (r : List ℕ) (result : Result (Unit {0}) Failed) (before mid later : ℕ) (x more : List ℕ) → IsErr result
    → before ≤ mid → Goes old now p q rest all → rest ≡ x ++ more → HasRisen mid later × AddsPrefix now new (q ++ x) → Adds old new p r all result before later
goes-breaks r (Ok u) before mid later x more is b g e h = let never : false ≡ true = is in absurd cc
goes-breaks r (Err f) before mid later x more is b g e h = goes-fails before mid later x more b g e h

-- ---- what is asked for

pub added-unasked : (old : Option (List ℕ)) (before text : List ℕ) (b : Bool) → b ≡ false → Added old old before before (on_request b text)
added-unasked old before text true h = let never : true ≡ false = h in absurd cc
added-unasked old before text false h = added-nothing old before

pub adds-asked : (old new : Option (List ℕ)) (before after text : List ℕ) (result : Result (Unit {0}) Failed) (faults later : ℕ) (b : Bool) → b ≡ true
    → Adds old new before after text result faults later → Adds old new before after (on_request b text) result faults later
adds-asked old new before after text result faults later true h a = a
adds-asked old new before after text result faults later false h a = let never : false ≡ true = h in absurd cc

-- ---- the whole report, where nothing waits before and after

pub put-whole : (old new : Option (List ℕ)) (p r found wanted : List ℕ) → p ≡ [] → r ≡ [] → found ≡ wanted → Added old new p r found → new ≡ told_more old wanted
put-whole old new p r found wanted before after same a =
    let all : wanted ≡ a.bytes =
    sym same ∙ ap (λ l. l ++ found) (sym before) ∙ a.whole ∙ ap (λ l. a.bytes ++ l) after ∙ append-nil a.bytes in
    a.put ∙ ap (told_more old) (sym all)

pub put-part : (old new : Option (List ℕ)) (p found wanted : List ℕ) → p ≡ [] → found ≡ wanted → AddsPrefix old new (p ++ found) → AddsPrefix old new wanted
put-part old new p found wanted before same a =
    let all : p ++ found ≡ wanted = ap (λ l. l ++ found) before ∙ same in
    subst (λ (l : List ℕ). AddsPrefix old new l) all a
