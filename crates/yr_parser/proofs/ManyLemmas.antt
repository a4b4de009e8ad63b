-- Items read one by one.
use Rattle.std.proofs.Common.{◌≡◌, ℕ, suc, ◌+◌, ◌-◌, ◌<◌, ◌≤◌, List, [], ◌∷◌, ◌++◌, map, Option, Some, None, Result, Ok, Err, refl, sym, ap, subst, ◌∙◌, arith, append_assoc, append-nil, MutBor, Vec, Global}
use Rattle.std.specs.Prelude.{option_map}
use Rattle.yr_parser.specs.declared.fault.Fault.{Fault}
use Rattle.yr_parser.specs.declared.fault.Fault.TheVariants as fault
use Rattle.yr_parser.specs.Terminals.{Terminals}
use Rattle.yr_parser.specs.Input.{Outcome, Parser, and_then, pure, many, many_by, Gives}
use Rattle.yr_parser.specs.Many.{Ran, items_in, out, stop, more, fails, later, memory}

module _ {T : Type 0} (turn : MutBor Terminals → Result (Option T) Fault → MutBor Terminals → Type 0) where
  -- what is read from here goes on what was read before
  pub record Leads (from : ℕ) (k : Terminals) (before : List T) (whole : ℕ) (start : Terminals) : Type 0 where
    pub done : (xs : List T) (rest : Terminals) → Ran turn from k (Ok xs) rest → Ran turn whole start (Ok (before ++ xs)) rest
    pub failed : (f : Fault) (rest : Terminals) → Ran turn from k (Err f) rest → Ran turn whole start (Err f) rest

  pub leads-begin : (n : ℕ) (k : Terminals) (before : List T) → before ≡ [] → Leads (n - 0) k before n k
  leads-begin n k before e = subst (λ (xs : List T). Leads (n - 0) k xs n k) (sym e) (let z : n - 0 ≡ n = omega arith in
      subst (λ (m : ℕ). Leads m k [] n k) (sym z) (record { done = λ xs rest r. r; failed = λ f rest r. r }))

  pub leads-more : (n at : ℕ) (k start : Terminals) (before after : List T) (x : T) (old new : MutBor Terminals) (r : Result (Option T) Fault)
      → Leads (n - at) k before n start → at < n → old.now ≡ k → turn old r new → r ≡ Ok (Some x) → after ≡ before ++ x ∷ []
      → Leads (n - (at + 1)) new.now after n start
  leads-more n at k start before after x old new r l below e t is now =
      let left : n - at ≡ suc (n - (at + 1)) = omega arith in
      let t' = subst (λ (q : Result (Option T) Fault). turn old q new) is t in
      subst (λ (ys : List T). Leads (n - (at + 1)) new.now ys n start) (sym now)
      (record {
        done = λ xs rest ran. subst (λ (ys : List T). Ran turn n start (Ok ys) rest) (sym (append_assoc before (x ∷ []) xs))
            (l.done (x ∷ xs) rest (subst (λ (m : ℕ). Ran turn m k (Ok (x ∷ xs)) rest) (sym left) (more old new e t' ran)));
        failed = λ f rest ran. l.failed f rest (subst (λ (m : ℕ). Ran turn m k (Err f) rest) (sym left) (later old new e t' ran));
      })

  pub leads-stop : (n at : ℕ) (k start : Terminals) (before : List T) (old new : MutBor Terminals) (r : Result (Option T) Fault)
      → Leads (n - at) k before n start → at < n → old.now ≡ k → turn old r new → r ≡ Ok None → Ran turn n start (Ok before) new.now
  leads-stop n at k start before old new r l below e t is =
      let left : n - at ≡ suc (n - (at + 1)) = omega arith in
      let t' = subst (λ (q : Result (Option T) Fault). turn old q new) is t in
      subst (λ (ys : List T). Ran turn n start (Ok ys) new.now) (append-nil before)
      (l.done [] new.now (subst (λ (m : ℕ). Ran turn m k (Ok []) new.now) (sym left) (stop old new e refl t')))

  pub leads-fails : (n at : ℕ) (k start rest : Terminals) (before : List T) (f : Fault) (old new : MutBor Terminals) (r : Result (Option T) Fault)
      → Leads (n - at) k before n start → at < n → old.now ≡ k → turn old r new → r ≡ Err f → Ran turn n start (Err f) rest
  leads-fails n at k start rest before f old new r l below e t is =
      let left : n - at ≡ suc (n - (at + 1)) = omega arith in
      let t' = subst (λ (q : Result (Option T) Fault). turn old q new) is t in
      l.failed f rest (subst (λ (m : ℕ). Ran turn m k (Err f) rest) (sym left) (fails old new e t'))

  pub leads-out : (n at : ℕ) (k start : Terminals) (before : List T) → Leads (n - at) k before n start → n ≤ at → Ran turn n start (Ok before) k
  leads-out n at k start before l done =
      let left : n - at ≡ 0 = omega arith in
      subst (λ (ys : List T). Ran turn n start (Ok ys) k) (append-nil before)
      (l.done [] k (subst (λ (m : ℕ). Ran turn m k (Ok []) k) (sym left) out))

-- what was read is what the reading function gives
pub many-gives : {T A : Type 0} (view : T → A) (next : Parser (Option A)) (turn : MutBor Terminals → Result (Option T) Fault → MutBor Terminals → Type 0)
    → ((old new : MutBor Terminals) (r : Result (Option T) Fault) → turn old r new → Gives (option_map view) (next old.now) r new.now)
    → {n : ℕ} {k rest : Terminals} {r : Result (List T) Fault} → Ran turn n k r rest → Gives (map view) (many next n k) r rest
unfolding many
many-gives view next turn reads out = refl
many-gives view next turn reads (stop {n = n} old new e e' t) =
    ap (λ k. many_by (next k) (many next n)) (sym e) ∙ ap (λ o. many_by o (many next n)) (reads old new (Ok None) t) ∙ ap (λ k. Some ([], k)) e'
many-gives view next turn reads (more {n = n} {x = x} old new e t ran) =
    ap (λ k. many_by (next k) (many next n)) (sym e) ∙ ap (λ o. many_by o (many next n)) (reads old new (Ok (Some x)) t)
    ∙ ap (λ o. and_then o (λ xs. pure (view x ∷ xs))) (many-gives view next turn reads ran)
many-gives view next turn reads (fails {n = n} {f = fault.Syntax} old new e t) =
    ap (λ k. many_by (next k) (many next n)) (sym e) ∙ ap (λ o. many_by o (many next n)) (reads old new (Err fault.Syntax) t)
many-gives view next turn reads (fails {f = fault.NoMemory} old new e t) = tt
many-gives view next turn reads (later {n = n} {x = x} {f = fault.Syntax} old new e t ran) =
    ap (λ k. many_by (next k) (many next n)) (sym e) ∙ ap (λ o. many_by o (many next n)) (reads old new (Ok (Some x)) t)
    ∙ ap (λ o. and_then o (λ xs. pure (view x ∷ xs))) (many-gives view next turn reads ran)
many-gives view next turn reads (later {f = fault.NoMemory} old new e t ran) = tt
many-gives view next turn reads memory = tt

Gives-vec : {T A : Type 0} (view : T → A) (o : Outcome (List A)) (r : Result (Vec T Global) Fault) (rest : Terminals)
    → Gives (map view) o (items_in r) rest → Gives (λ v. map view v.items) o r rest
Gives-vec view o (Ok v) rest h = h
Gives-vec view o (Err fault.Syntax) rest h = h
Gives-vec view o (Err fault.NoMemory) rest h = h

-- what `many` ensures, as a reading function
pub many-vec : {T A : Type 0} (view : T → A) (next : Parser (Option A)) (turn : MutBor Terminals → Result (Option T) Fault → MutBor Terminals → Type 0)
    → ((old new : MutBor Terminals) (r : Result (Option T) Fault) → turn old r new → Gives (option_map view) (next old.now) r new.now)
    → (r : Result (Vec T Global) Fault) {n : ℕ} {k rest : Terminals} → Ran turn n k (items_in r) rest → Gives (λ v. map view v.items) (many next n k) r rest
many-vec view next turn reads r {n = n} {k = k} {rest = rest} ran = Gives-vec view (many next n k) r rest (many-gives view next turn reads ran)
