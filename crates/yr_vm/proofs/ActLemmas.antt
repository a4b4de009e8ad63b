-- What an instruction that can be run does, by its role.
use Rattle.std.proofs.Common.{◌≡◌, ℕ, zero, suc, ◌+◌, ◌<◌, ◌≤◌, Bool, true, false, cond, List, [], ◌∷◌, ◌++◌, length, map, take, drop, reverse, Option, Some, None, refl, sym, ap, ◌∙◌, subst, arith}
use Rattle.std.specs.Prelude.{nat_lt, if◌then◌else◌}
use Rattle.std.proofs.lemmas.Bool.Decides.{nat_tests}
use Rattle.std.proofs.lemmas.List.{drop-take, reverse-append}
use Rattle.yr_base.specs.declared.value.Kind.{Kind}
use Rattle.yr_base.specs.declared.value.Kind.TheVariants as kind
use Rattle.yr_values.specs.Values.{Value, Undefined, Number, Flag, Text}
use Rattle.yr_values.specs.Quantifiers.{meets}
use Rattle.yr_values.specs.declared.quantifier.Quantifier.{Quantifier}
use Rattle.yr_answer.specs.Turns.{Turn, range_turns, item_turns, string_turns}
use Rattle.yr_image.specs.Image.{Image, members_of}
use Rattle.yr_machine.specs.Budget.{text_length, instruction_cost}
use Rattle.yr_machine.proofs.ShortTexts.{AreShort}
use Rattle.yr_image.specs.declared.instruction.QuantifierKind.{QuantifierKind}
use Rattle.yr_image.specs.declared.instruction.Instruction.{Instruction}
use Rattle.yr_image.specs.declared.instruction.Instruction.TheVariants as i
use Rattle.yr_machine.specs.declared.block.Want.{Want}
use Rattle.yr_machine.specs.declared.block.Want.TheVariants as want
use Rattle.yr_machine.specs.Roles.{Role, plain, starts, role, numbers, quantity, of_wants, two_of, external_kind, field_kind, call_kind}
use Rattle.yr_machine.specs.Named.{names_there}
use Rattle.yr_machine.specs.CodeWalk.{most_values, most_loops, kept_by, below_body}
use Rattle.yr_machine.specs.Operations.{Context, quantifier_of, value_given}
use Rattle.yr_machine.specs.Machine.{OpenLoop, Machine, machine, Outcome, stuck, going, Taken, take_values, missing, took, and_took, suits, give, turns_of, loop_quantifier, begin, is_member, present_turns, act_by, act}
use Rattle.yr_machine.specs.Counts.{NotStuck}
use Rattle.yr_vm.specs.Given.{given}
use Rattle.yr_vm.specs.Items.{IsItem, AreItems}
use Rattle.yr_vm.specs.States.{IsThere, MayBegin}
use Rattle.yr_vm.specs.Taken.{IsOther}
use Rattle.yr_vm.proofs.OperandLemmas.{operands-there, operands-known, known, is-there}
use Rattle.yr_vm.proofs.SetLemmas.{front-two}

by-named : (b : Bool) (o : Outcome) → NotStuck (cond b o stuck) → (b ≡ true) × (cond b o stuck ≡ o)
by-named true o n = (refl, refl)
by-named false o n = absurd n

-- what it names is there, and it acts by its role
pub acts : (context : Context) (truths : List Bool) (instr : Instruction) (m : Machine) → NotStuck (act context truths (Some instr) m) →
    (names_there context.image (length truths) (map is_member (present_turns m.loops)) instr ≡ true)
    × (act context truths (Some instr) m ≡ act_by context truths (role context.image instr) instr m)
acts context truths instr m n =
    by-named (names_there context.image (length truths) (map is_member (present_turns m.loops)) instr) (act_by context truths (role context.image instr) instr m) n

pub less-at : (a b : ℕ) → nat_lt a b ≡ true → a < b
less-at a b e = grind (arith, nat_tests)

gives : (place : ℕ) (loops : List OpenLoop) (below : List Value) (v : Value) → NotStuck (give place loops below v) →
    (length below < 4096) × (give place loops below v ≡ going (machine place (v ∷ below) loops))
gives place loops below v n =
    let h = by-named (nat_lt (length below) most_values) (going (machine place (v ∷ below) loops)) n in
    (less-at (length below) 4096 h.0, h.1)

-- an instruction that takes values and gives one
pub plain-goes : (context : Context) (truths : List Bool) (instr : Instruction) (wants : List Want) (k : Kind) (m : Machine) →
    NotStuck (act_by context truths (plain wants k) instr m) →
    (length wants ≤ length m.stack) × (length (drop (length wants) m.stack) < 4096)
    × (act_by context truths (plain wants k) instr m
    ≡ going (machine (m.place + 1) (given (length wants) (value_given context truths (present_turns m.loops) instr) m.stack) m.loops))
plain-goes context truths instr wants k m n =
    let value = value_given context truths (present_turns m.loops) instr in
    let go = λ (operands below : List Value). give (m.place + 1) m.loops below (value operands) in
    let e = operands-known wants m.stack go n in
    let g = gives (m.place + 1) m.loops (drop (length wants) m.stack) (value (take (length wants) m.stack)) (subst NotStuck e n) in
    (operands-there wants m.stack go n, g.0, e ∙ g.1)

-- a loop that can begin has room
pub may-begin : (q : Option Quantifier) (turns : Option (List Turn)) (place end kept : ℕ) (body below : List Value) (loops : List OpenLoop) →
    NotStuck (begin q turns place end kept body below loops) → MayBegin q turns (length loops) (length below)
may-begin None turns place end kept body below loops n = (gives end loops below Undefined n).0
may-begin (Some q) None place end kept body below loops n = (gives end loops below Undefined n).0
may-begin (Some q) (Some []) place end kept body below loops n = (gives end loops below (Flag (meets q 0 0)) n).0
may-begin (Some q) (Some (t ∷ ts)) place end kept body below loops n =
    less-at (length loops) 4 (by-named (nat_lt (length loops) most_loops) (going (machine (place + 1) body (record {
      place = place;
      end = end;
      quantifier = q;
      present = t;
      left = ts;
      total = length ts + 1;
      held = 0;
      kept = kept;
    } ∷ loops))) n).0

drop-zero : (xs : List Value) → drop zero xs ≡ xs
drop-zero [] = refl
drop-zero (x ∷ xs) = refl

take-twice : (n m : ℕ) (xs : List Value) → take n (take (n + m) xs) ≡ take n xs
take-twice zero m [] = take-none (take (zero + m) [])
  where
    take-none : (ys : List Value) → take zero ys ≡ []
    take-none [] = refl
    take-none (y ∷ ys) = refl
take-twice zero m (x ∷ xs) = take-none (take (zero + m) (x ∷ xs))
  where
    take-none : (ys : List Value) → take zero ys ≡ []
    take-none [] = refl
    take-none (y ∷ ys) = refl
take-twice (suc n) m [] = let more : suc n + m ≡ suc (n + m) = omega arith in ap (λ k. take (suc n) (take k [])) more
take-twice (suc n) m (x ∷ xs) =
    let more : suc n + m ≡ suc (n + m) = omega arith in
    ap (λ k. take (suc n) (take k (x ∷ xs))) more ∙ ap (λ ys. x ∷ ys) (take-twice n m xs)

numbers-length : (n : ℕ) (wants : List Want) → length (numbers n wants) ≡ n + length wants
numbers-length zero wants = omega arith
numbers-length (suc n) wants = omega (arith, numbers-length n wants)

module _ (context : Context) (truths : List Bool) (q : QuantifierKind) (end : ℕ) (m : Machine) where
  abbrev n : ℕ
  n = length (quantity q)

  abbrev range : Instruction
  range = i.LoopRange q end

  -- a loop over a range
  pub range-goes : NotStuck (act_by context truths (role context.image range) range m) →
      (2 + n ≤ length m.stack) × ((v w : Value) → take 2 m.stack ≡ w ∷ v ∷ [] → act_by context truths (role context.image range) range m
      ≡ begin (quantifier_of q (take n (drop 2 m.stack))) (range_turns v w) m.place end 0 (drop (2 + n) m.stack) (drop (2 + n) m.stack) m.loops)
  range-goes h =
      let wants = numbers 2 (quantity q) in
      let size : length wants ≡ 2 + n = numbers-length 2 (quantity q) in
      let go = λ (operands below : List Value). begin (loop_quantifier range operands) (turns_of context.image range operands) m.place end
      (kept_by false wants) (below_body false m.stack below) below m.loops in (
        omega (arith, size, operands-there wants m.stack go h),
        λ v w e.
            operands-known wants m.stack go h
            ∙ ap (λ k. go (take (length wants) m.stack) (drop k m.stack)) size
            ∙ ap (λ operands. go operands (drop (2 + n) m.stack)) (front-two m.stack n w v e)
            ∙ ap (λ rest. begin (quantifier_of q rest) (range_turns v w) m.place end 0 (drop (2 + n) m.stack) (drop (2 + n) m.stack) m.loops)
            (drop-zero (take n (drop 2 m.stack))),
      )

  -- a loop over strings
  pub strings-goes : (first rows : ℕ) → NotStuck (act_by context truths (role context.image (i.LoopStrings q end first rows)) (i.LoopStrings q end first rows) m) →
      (n ≤ length m.stack) × (act_by context truths (role context.image (i.LoopStrings q end first rows)) (i.LoopStrings q end first rows) m
      ≡ begin (quantifier_of q (take n (drop 0 m.stack))) (Some (string_turns (members_of context.image first rows))) m.place end 0
      (drop n m.stack) (drop n m.stack) m.loops)
  strings-goes first rows h =
      let instr = i.LoopStrings q end first rows in
      let go = λ (operands below : List Value). begin (loop_quantifier instr operands) (turns_of context.image instr operands) m.place end
      (kept_by false (quantity q)) (below_body false m.stack below) below m.loops in (
        operands-there (quantity q) m.stack go h,
        operands-known (quantity q) m.stack go h
            ∙ ap (λ xs. begin (quantifier_of q (take n xs)) (Some (string_turns (members_of context.image first rows))) m.place end 0 (drop n m.stack) (drop n m.stack) m.loops)
            (sym (drop-zero m.stack)),
      )

  -- a loop over a list
  pub list-goes : (items : ℕ) → NotStuck (act_by context truths (role context.image (i.LoopList q end items)) (i.LoopList q end items) m) →
      (items + n ≤ length m.stack) × IsThere (take_values (numbers items (quantity q)) m.stack)
      × (act_by context truths (role context.image (i.LoopList q end items)) (i.LoopList q end items) m
      ≡ begin (quantifier_of q (take n (drop items m.stack))) (Some (item_turns (reverse (take items m.stack)))) m.place end (items + n)
      m.stack (drop (items + n) m.stack) m.loops)
  list-goes items h =
      let instr = i.LoopList q end items in
      let wants = numbers items (quantity q) in
      let size : length wants ≡ items + n = numbers-length items (quantity q) in
      let go = λ (operands below : List Value). begin (loop_quantifier instr operands) (turns_of context.image instr operands) m.place end
      (kept_by true wants) (below_body true m.stack below) below m.loops in
      let by = λ (k : ℕ). begin (quantifier_of q (drop items (take k m.stack))) (Some (item_turns (reverse (take items (take k m.stack))))) m.place end k
      m.stack (drop k m.stack) m.loops in (
        omega (arith, size, operands-there wants m.stack go h),
        is-there (take_values wants m.stack) go h,
        operands-known wants m.stack go h ∙ ap by size
            ∙ ap (λ rest. begin (quantifier_of q rest) (Some (item_turns (reverse (take items (take (items + n) m.stack))))) m.place end (items + n)
            m.stack (drop (items + n) m.stack) m.loops) (drop-take items n m.stack)
            ∙ ap (λ all. begin (quantifier_of q (take n (drop items m.stack))) (Some (item_turns (reverse all))) m.place end (items + n)
            m.stack (drop (items + n) m.stack) m.loops) (take-twice items n m.stack),
      )

-- the items of a list are numbers, or undefined
suits-item : (v : Value) → suits (want.Of kind.Number) v ≡ true → IsItem v
suits-item Undefined e = tt
suits-item (Number x) e = tt
suits-item (Flag b) e = cc
suits-item (Text t) e = cc

by-item : (b : Bool) (v : Value) (t : Taken) → IsThere (cond b (and_took v t) missing) → (b ≡ true) × IsThere t
by-item true v missing h = absurd h
by-item true v (took operands below) h = (refl, tt)
by-item false v t h = absurd h

items-there : (items : ℕ) (wants : List Want) (stack : List Value) → IsThere (take_values (numbers items wants) stack) → AreItems (take items stack)
items-there zero wants [] h = tt
items-there zero wants (v ∷ stack) h = tt
items-there (suc items) wants [] h = absurd h
items-there (suc items) wants (v ∷ stack) h =
    let p = by-item (suits (want.Of kind.Number) v) v (take_values (numbers items wants) stack) h in
    (suits-item v p.0, items-there items wants stack p.1)

items-append : (xs ys : List Value) → AreItems xs → AreItems ys → AreItems (xs ++ ys)
items-append [] ys a b = b
items-append (x ∷ xs) ys a b = (a.0, items-append xs ys a.1 b)

items-reverse : (xs : List Value) → AreItems xs → AreItems (reverse xs)
items-reverse [] a = tt
items-reverse (x ∷ xs) a =
    subst AreItems (sym (reverse-append (x ∷ []) xs)) (items-append (reverse xs) (x ∷ []) (items-reverse xs a.1) (a.0, tt))

pub items-are : (items : ℕ) (wants : List Want) (stack : List Value) → IsThere (take_values (numbers items wants) stack) → AreItems (reverse (take items stack))
items-are items wants stack h = items-reverse (take items stack) (items-there items wants stack h)

-- an instruction that is known acts by its role
pub acts-as : (context : Context) (truths : List Bool) (instr this : Instruction) (m : Machine) → instr ≡ this → NotStuck (act context truths (Some instr) m) →
    (names_there context.image (length truths) (map is_member (present_turns m.loops)) this ≡ true)
    × NotStuck (act_by context truths (role context.image this) this m)
    × (act context truths (Some instr) m ≡ act_by context truths (role context.image this) this m)
acts-as context truths instr this m is n =
    let h : NotStuck (act context truths (Some this) m) = subst (λ j. NotStuck (act context truths (Some j) m)) is n in
    let a = acts context truths this m h in
    (a.0, subst NotStuck a.1 h, ap (λ j. act context truths (Some j) m) is ∙ a.1)

pub one-of : (stack : List Value) → 1 ≤ length stack → (v : Value) × (take 1 stack ≡ v ∷ [])
one-of [] le = absurd (omega arith)
one-of (v ∷ []) le = (v, refl)
one-of (v ∷ w ∷ stack) le = (v, refl)

pub two-of : (stack : List Value) → 2 ≤ length stack → (w : Value) × (v : Value) × (take 2 stack ≡ w ∷ v ∷ [])
two-of [] le = absurd (omega arith)
two-of (w ∷ []) le = absurd (omega arith)
two-of (w ∷ v ∷ []) le = (w, v, refl)
two-of (w ∷ v ∷ u ∷ stack) le = (w, v, refl)

pub top-short : (x : ℕ) (stack : List Value) → 1 ≤ length stack → AreShort x stack → (v : Value) × (take 1 stack ≡ v ∷ []) × (text_length v ≤ x)
top-short x [] le s = absurd (omega arith)
top-short x (v ∷ []) le s = (v, refl, s.0)
top-short x (v ∷ w ∷ stack) le s = (v, refl, s.0)

pub costs-one : (image : Image) (x : ℕ) (instr : Instruction) → 1 ≤ instruction_cost image x instr
costs-one image x (i.Of f q first rows) = omega arith
costs-one image x (i.Matches c) = omega arith
costs-one image x instr = omega arith

-- an instruction that is none of these takes values and gives one
pub given-role : (image : Image) (instr : Instruction) → (instr ≡ i.End → ⊥) → ((c : ℕ) → instr ≡ i.Matches c → ⊥)
    → ((c : ℕ) → instr ≡ i.SkipFalse c → ⊥) → ((c : ℕ) → instr ≡ i.SkipTrue c → ⊥)
    → ((q : QuantifierKind) (c : ℕ) → instr ≡ i.LoopRange q c → ⊥) → ((q : QuantifierKind) (c d : ℕ) → instr ≡ i.LoopList q c d → ⊥)
    → ((q : QuantifierKind) (c first rows : ℕ) → instr ≡ i.LoopStrings q c first rows → ⊥) → ((c : ℕ) → instr ≡ i.LoopEnd c → ⊥)
    → (wants : List Want) × (k : Kind) × (role image instr ≡ plain wants k) × IsOther instr
given-role image i.End e m sf st lr ll ls le = absurd (e refl)
given-role image (i.Matches c) e m sf st lr ll ls le = absurd (m c refl)
given-role image (i.SkipFalse c) e m sf st lr ll ls le = absurd (sf c refl)
given-role image (i.SkipTrue c) e m sf st lr ll ls le = absurd (st c refl)
given-role image (i.LoopRange q c) e m sf st lr ll ls le = absurd (lr q c refl)
given-role image (i.LoopList q c d) e m sf st lr ll ls le = absurd (ll q c d refl)
given-role image (i.LoopStrings q c first rows) e m sf st lr ll ls le = absurd (ls q c first rows refl)
given-role image (i.LoopEnd c) e m sf st lr ll ls le = absurd (le c refl)
given-role image (i.Number n) e m sf st lr ll ls le = ([], kind.Number, refl, tt)
given-role image (i.Text p n) e m sf st lr ll ls le = ([], kind.Text, refl, tt)
given-role image (i.Flag b) e m sf st lr ll ls le = ([], kind.Flag, refl, tt)
given-role image i.FileSize e m sf st lr ll ls le = ([], kind.Number, refl, tt)
given-role image (i.External c) e m sf st lr ll ls le = ([], external_kind image c, refl, tt)
given-role image (i.Rule c) e m sf st lr ll ls le = ([], kind.Flag, refl, tt)
given-role image (i.Var c) e m sf st lr ll ls le = ([], kind.Number, refl, tt)
given-role image (i.Field x id) e m sf st lr ll ls le = (if x then numbers 1 [] else [], field_kind id, refl, tt)
given-role image (i.Call id) e m sf st lr ll ls le = (numbers 2 [], call_kind id, refl, tt)
given-role image (i.Has s) e m sf st lr ll ls le = ([], kind.Flag, refl, tt)
given-role image (i.HasAt s) e m sf st lr ll ls le = (numbers 1 [], kind.Flag, refl, tt)
given-role image (i.HasIn s) e m sf st lr ll ls le = (numbers 2 [], kind.Flag, refl, tt)
given-role image (i.Count s) e m sf st lr ll ls le = ([], kind.Number, refl, tt)
given-role image (i.CountIn s) e m sf st lr ll ls le = (numbers 2 [], kind.Number, refl, tt)
given-role image (i.Offset s) e m sf st lr ll ls le = (numbers 1 [], kind.Number, refl, tt)
given-role image (i.Length s) e m sf st lr ll ls le = (numbers 1 [], kind.Number, refl, tt)
given-role image (i.Of f q first rows) e m sf st lr ll ls le = (of_wants f (quantity q), kind.Flag, refl, tt)
given-role image (i.Read r) e m sf st lr ll ls le = (numbers 1 [], kind.Number, refl, tt)
given-role image i.Negate e m sf st lr ll ls le = (numbers 1 [], kind.Number, refl, tt)
given-role image i.Flip e m sf st lr ll ls le = (numbers 1 [], kind.Number, refl, tt)
given-role image (i.Arith op) e m sf st lr ll ls le = (numbers 2 [], kind.Number, refl, tt)
given-role image (i.Compare op k) e m sf st lr ll ls le = (two_of k, kind.Flag, refl, tt)
given-role image (i.Test op) e m sf st lr ll ls le = (two_of kind.Text, kind.Flag, refl, tt)
given-role image i.Not e m sf st lr ll ls le = (want.Any ∷ [], kind.Flag, refl, tt)
given-role image i.Defined e m sf st lr ll ls le = (want.Any ∷ [], kind.Flag, refl, tt)
given-role image i.Truth e m sf st lr ll ls le = (want.Any ∷ [], kind.Flag, refl, tt)
given-role image i.Settle e m sf st lr ll ls le = (want.Of kind.Flag ∷ [], kind.Flag, refl, tt)
