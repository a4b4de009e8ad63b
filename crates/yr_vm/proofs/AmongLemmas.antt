-- The strings that open loops go over are strings of the image: an instruction keeps it so.
use Rattle.std.proofs.Common.{◌≡◌, ℕ, zero, suc, ◌+◌, ◌<◌, ◌≤◌, ℤ, pos, ◌+ℤ◌, Bool, true, false, cond, List, [], ◌∷◌, length, map, take, drop, reverse, Option, Some, None, refl, sym, ap, ◌∙◌, subst, arith}
use Rattle.std.specs.Prelude.{nat_lt, nat_le, ◌==◌, ◌&&◌, ◌||◌, ◌-ℤ◌, if◌then◌else◌}
use Rattle.std.specs.List.{list_all}
use Rattle.std.proofs.lemmas.Bool.Decides.{nat_tests}
use Rattle.yr_values.specs.Values.{Value, Undefined, Number, Flag, Text}
use Rattle.yr_values.specs.Operators.{numbers_in}
use Rattle.yr_values.specs.Quantifiers.{meets}
use Rattle.yr_values.specs.declared.quantifier.Quantifier.{Quantifier}
use Rattle.yr_answer.specs.Turns.{Turn, Item, Member, turns_from, turns_between, range_turns, range_size, range_limit, item_turns, string_turns}
use Rattle.yr_image.specs.declared.rows.CodeRow.{CodeRow}
use Rattle.yr_image.specs.declared.instruction.Instruction.{Instruction}
use Rattle.yr_image.specs.declared.instruction.Instruction.TheVariants as i
use Rattle.yr_image.specs.Image.{Image, members_of}
use Rattle.yr_machine.specs.declared.block.Want.TheVariants as want
use Rattle.yr_base.specs.declared.value.Kind.TheVariants as kind
use Rattle.yr_machine.specs.Roles.{Role, ending, plain, skip, starts, turn, role}
use Rattle.yr_machine.specs.Named.{names_there, all_below}
use Rattle.yr_machine.specs.CodeWalk.{most_values, most_loops, below_body, kept_by}
use Rattle.yr_machine.specs.Operations.{Context, value_given}
use Rattle.yr_machine.specs.Machine.{OpenLoop, Machine, machine, Outcome, stuck, going, done, Taken, missing, took, take_values, with_operands, finish, give, flag_of, branch, turns_of, loop_quantifier, begin, next_turn, end_turn, is_member, present_turns, instruction_at, act_by, act, step}
use Rattle.yr_vm.specs.Taken.{AreAmong}

by_test : (b : Bool) (P : Type 0) → (b ≡ true → P) → (b ≡ false → P) → P
by_test true P f g = f refl
by_test false P f g = g refl

not-zero : (n : ℕ) → (suc n == 0) ≡ false
not-zero n = grind (arith, nat_tests)

less-at : (a b : ℕ) → nat_lt a b ≡ true → a < b
less-at a b e = grind (arith, nat_tests)

module _ (count : ℕ) where
  -- of an open loop all turns, and of all open loops
  abbrev pub AreKept : List OpenLoop → Type 0
  AreKept [] = Unit {0}
  AreKept (l ∷ loops) = AreAmong count (l.present ∷ l.left) × AreKept loops

  abbrev Keeps : Outcome → Type 0
  Keeps stuck = Unit {0}
  Keeps (going m) = AreKept m.loops
  Keeps (done truth) = Unit {0}

  with-kept : (t : Taken) (go : List Value → List Value → Outcome) → ((operands below : List Value) → Keeps (go operands below)) → Keeps (with_operands t go)
  with-kept missing go h = tt
  with-kept (took operands below) go h = h operands below

  give-kept : (place : ℕ) (loops : List OpenLoop) (below : List Value) (v : Value) → AreKept loops → Keeps (give place loops below v)
  give-kept place loops below v k =
      let P : Bool → Type 0 = λ b. Keeps (cond b (going (machine place (v ∷ below) loops)) stuck) in
      let free = nat_lt (length below) most_values in
      by_test free (P free) (λ t. subst P (sym t) k) (λ t. subst P (sym t) tt)

  finish-kept : (operands below : List Value) → Keeps (finish operands below)
  finish-kept [] below = tt
  finish-kept (v ∷ []) [] = tt
  finish-kept (v ∷ []) (w ∷ below) = tt
  finish-kept (v ∷ w ∷ operands) below = tt

  begin-kept : (q : Option Quantifier) (turns : Option (List Turn)) (place end kept : ℕ) (body below : List Value) (loops : List OpenLoop) →
      ((ts : List Turn) → turns ≡ Some ts → AreAmong count ts) → AreKept loops → Keeps (begin q turns place end kept body below loops)
  begin-kept None turns place end kept body below loops a k = give-kept end loops below Undefined k
  begin-kept (Some q) None place end kept body below loops a k = give-kept end loops below Undefined k
  begin-kept (Some q) (Some []) place end kept body below loops a k = give-kept end loops below (Flag (meets q 0 0)) k
  begin-kept (Some q) (Some (t ∷ ts)) place end kept body below loops a k =
      let l : OpenLoop = record { place = place; end = end; quantifier = q; present = t; left = ts; total = length ts + 1; held = 0; kept = kept } in
      let P : Bool → Type 0 = λ b. Keeps (cond b (going (machine (place + 1) body (l ∷ loops))) stuck) in
      let few = nat_lt (length loops) most_loops in
      by_test few (P few) (λ e. subst P (sym e) (a (t ∷ ts) refl, k)) (λ e. subst P (sym e) tt)

  rest-among : (t : Turn) (turns : List Turn) → AreAmong count (t ∷ turns) → AreAmong count turns
  rest-among (Item v) turns a = a
  rest-among (Member k) turns a = a.1

  next-kept : (l : OpenLoop) (ts : List Turn) (held : ℕ) (below : List Value) (loops : List OpenLoop) → AreAmong count ts → AreKept loops →
      Keeps (next_turn l ts held below loops)
  next-kept l [] held below loops a k = give-kept l.end loops (drop l.kept below) (Flag (meets l.quantifier held l.total)) k
  next-kept l (t ∷ ts) held below loops a k = (a, k)

  end-kept : (c : ℕ) (answer : Bool) (below : List Value) (loops : List OpenLoop) → AreKept loops → Keeps (end_turn c answer below loops)
  end-kept c answer below [] k = tt
  end-kept c answer below (l ∷ loops) k =
      let held = if answer then l.held + 1 else l.held in
      let P : Bool → Type 0 = λ b. Keeps (cond b (next_turn l l.left held below loops) stuck) in
      by_test (l.place == c) (P (l.place == c))
      (λ e. subst P (sym e) (next-kept l l.left held below loops (rest-among l.present l.left k.0) k.1)) (λ e. subst P (sym e) tt)

  false-kept : (end : ℕ) (truth : Bool) (place : ℕ) (below : List Value) (loops : List OpenLoop) → AreKept loops → Keeps (branch (i.SkipFalse end) truth place below loops)
  false-kept end true place below loops k = k
  false-kept end false place below loops k = give-kept end loops below (Flag false) k

  true-kept : (end : ℕ) (truth : Bool) (place : ℕ) (below : List Value) (loops : List OpenLoop) → AreKept loops → Keeps (branch (i.SkipTrue end) truth place below loops)
  true-kept end true place below loops k = give-kept end loops below (Flag true) k
  true-kept end false place below loops k = k

  from-among : (x : ℤ) (n : ℕ) → AreAmong count (turns_from x n)
  from-among x zero = tt
  from-among x (suc n) = from-among (x +ℤ pos 1) n

  items-among : (values : List Value) → AreAmong count (item_turns values)
  items-among [] = tt
  items-among (v ∷ values) = items-among values

  both-true : (a b : Bool) → (a && b) ≡ true → (a ≡ true) × (b ≡ true)
  both-true true b e = (refl, e)
  both-true false b e = cc

  strings-among : (members : List ℕ) → all_below count members ≡ true → AreAmong count (string_turns members)
  strings-among [] e = tt
  strings-among (k ∷ members) e =
      let h = both-true (nat_lt k count) (all_below count members) e in
      (less-at k count h.0, strings-among members h.1)

  some-same : (xs ys : List Turn) → Some xs ≡ Some ys → xs ≡ ys
  some-same xs ys e = cc

  between-among : (x y : ℤ) (ts : List Turn) → turns_between (x, y) ≡ Some ts → AreAmong count ts
  between-among x y ts e =
      let size = range_size (y -ℤ x) in
      by-size (nat_le size range_limit) size e
    where
      by-size : (b : Bool) (n : ℕ) → (if b then Some (turns_from x n) else None) ≡ Some ts → AreAmong count ts
      by-size true n q = subst (AreAmong count) (some-same (turns_from x n) ts q) (from-among x n)
      by-size false n q = cc

  range-among : (v w : Value) (ts : List Turn) → range_turns v w ≡ Some ts → AreAmong count ts
  range-among (Number x) (Number y) ts e = between-among x y ts e
  range-among Undefined w ts e = cc
  range-among (Flag b) w ts e = cc
  range-among (Text t) w ts e = cc
  range-among (Number x) Undefined ts e = cc
  range-among (Number x) (Flag b) ts e = cc
  range-among (Number x) (Text t) ts e = cc

  members-among : (lists : List ℕ) (first rows n : ℕ) → count ≡ n →
      ((rows == 0) || (nat_le (first + rows) (length lists) && all_below n (take rows (drop first lists)))) ≡ true →
      AreAmong count (string_turns (take rows (drop first lists)))
  members-among lists first zero n same e = subst (λ ks. AreAmong count (string_turns ks)) (sym (take-none (drop first lists))) tt
    where
      take-none : (xs : List ℕ) → take zero xs ≡ []
      take-none [] = refl
      take-none (x ∷ xs) = refl
  members-among lists first (suc rows) n same e =
      let members = take (suc rows) (drop first lists) in
      let some : (suc rows == 0) ≡ false = not-zero rows in
      let h : (nat_le (first + suc rows) (length lists) && all_below n members) ≡ true =
      ap (λ b. b || (nat_le (first + suc rows) (length lists) && all_below n members)) (sym some) ∙ e in
      strings-among members (ap (λ k. all_below k members) same ∙ (both-true (nat_le (first + suc rows) (length lists)) (all_below n members) h).1)

  -- the turns of a loop whose list is there
  turns-among : (image : Image) (rule : ℕ) (flags : List Bool) (instr : Instruction) (operands : List Value) (ts : List Turn) →
      count ≡ length image.strings → names_there image rule flags instr ≡ true → turns_of image instr operands ≡ Some ts → AreAmong count ts
  turns-among image rule flags (i.LoopRange q end) [] ts same e t = cc
  turns-among image rule flags (i.LoopRange q end) (w ∷ []) ts same e t = cc
  turns-among image rule flags (i.LoopRange q end) (w ∷ v ∷ operands) ts same e t = range-among v w ts t
  turns-among image rule flags (i.LoopList q end items) operands ts same e t =
      let values = reverse (take items operands) in
      subst (AreAmong count) (some-same (item_turns values) ts t) (items-among values)
  turns-among image rule flags (i.LoopStrings q end first rows) operands ts same e t =
      subst (AreAmong count) (some-same (string_turns (members_of image first rows)) ts t) (members-among image.lists first rows (length image.strings) same e)
  turns-among image rule flags instr operands ts same e t = cc

  branch-kept : (instr : Instruction) (truth : Bool) (place : ℕ) (below : List Value) (loops : List OpenLoop) → AreKept loops → Keeps (branch instr truth place below loops)
  branch-kept (i.SkipFalse end) truth place below loops k = false-kept end truth place below loops k
  branch-kept (i.SkipTrue end) truth place below loops k = true-kept end truth place below loops k
  branch-kept instr truth place below loops k = tt

  module _ (context : Context) (truths : List Bool) (same : count ≡ length context.image.strings) where
    role-kept : (r : Role) (instr : Instruction) (m : Machine) →
        names_there context.image (length truths) (map is_member (present_turns m.loops)) instr ≡ true → AreKept m.loops →
        Keeps (act_by context truths r instr m)
    role-kept ending instr m e k = with-kept (take_values (want.Any ∷ []) m.stack) finish finish-kept
    role-kept (plain wants gives) instr m e k =
        with-kept (take_values wants m.stack)
        (λ operands below. give (m.place + 1) m.loops below (value_given context truths (present_turns m.loops) instr operands))
        (λ operands below. give-kept (m.place + 1) m.loops below (value_given context truths (present_turns m.loops) instr operands) k)
    role-kept (skip end) instr m e k =
        with-kept (take_values (want.Of kind.Flag ∷ []) m.stack) (λ operands below. branch instr (flag_of operands) m.place below m.loops)
        (λ operands below. branch-kept instr (flag_of operands) m.place below m.loops k)
    role-kept (starts wants keeps strings end) instr m e k =
        with-kept (take_values wants m.stack)
        (λ operands below. begin (loop_quantifier instr operands) (turns_of context.image instr operands) m.place end (kept_by keeps wants)
        (below_body keeps m.stack below) below m.loops)
        (λ operands below. begin-kept (loop_quantifier instr operands) (turns_of context.image instr operands) m.place end (kept_by keeps wants)
        (below_body keeps m.stack below) below m.loops
        (λ ts t. turns-among context.image (length truths) (map is_member (present_turns m.loops)) instr operands ts same e t) k)
    role-kept (turn c) instr m e k =
        with-kept (take_values (want.Of kind.Flag ∷ []) m.stack) (λ operands below. end_turn c (flag_of operands) below m.loops)
        (λ operands below. end-kept c (flag_of operands) below m.loops k)

    act-kept : (o : Option Instruction) (m : Machine) → AreKept m.loops → Keeps (act context truths o m)
    act-kept None m k = tt
    act-kept (Some instr) m k =
        let there = names_there context.image (length truths) (map is_member (present_turns m.loops)) instr in
        let P : Bool → Type 0 = λ b. Keeps (cond b (act_by context truths (role context.image instr) instr m) stuck) in
        by_test there (P there) (λ e. subst P (sym e) (role-kept (role context.image instr) instr m e k)) (λ e. subst P (sym e) tt)

    -- a row leaves it so
    pub step-kept : (rows : List CodeRow) (m m1 : Machine) → step context truths rows m ≡ going m1 → AreKept m.loops → AreKept m1.loops
    step-kept rows m m1 e k = subst Keeps e (act-kept (instruction_at rows m.place) m k)

  first-among : (t : Turn) (ts turns : List Turn) → AreAmong count (t ∷ ts) → AreAmong count turns → AreAmong count (t ∷ turns)
  first-among (Item v) ts turns a b = b
  first-among (Member k) ts turns a b = (a.0, b)

  -- the present strings are among them
  pub presents-among : (loops : List OpenLoop) → AreKept loops → AreAmong count (present_turns loops)
  presents-among [] k = tt
  presents-among (l ∷ loops) k = first-among l.present l.left (present_turns loops) k.0 (presents-among loops k.1)
