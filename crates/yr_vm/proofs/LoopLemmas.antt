-- The open loops that are kept in an array, the outermost first.
use Rattle.std.proofs.Common.{◌≡◌, ℕ, zero, suc, ◌+◌, ◌-◌, ◌<◌, ◌≤◌, Bool, true, false, if◌then◌else◌, List, [], ◌∷◌, ◌++◌, length, map, take, drop, reverse, set, get_or, Option, Some, None, refl, sym, ap, ◌∙◌, subst, arith, inl, inr, cond}
use Rattle.std.specs.Prelude.{◌==◌, nat_lt}
use Rattle.std.proofs.lemmas.Bool.{cases_lt}
use Rattle.yr_answer.specs.Turns.{Turn, Item, turn_at, item_turns}
use Rattle.yr_vm.specs.declared.open_loop.OpenLoop as kept
use Rattle.yr_vm.specs.declared.loops.Loops as open_loops
use Rattle.yr_vm.specs.declared.open_loop.Turns as some
use Rattle.yr_vm.specs.declared.beginning.Begun.{Begun}
use Rattle.yr_vm.specs.declared.beginning.Begun.TheVariants as begun
use Rattle.yr_vm.specs.States.{MayBegin, CanBegin}
use Rattle.yr_values.specs.declared.quantifier.Quantifier.{Quantifier}
use Rattle.std.proofs.lemmas.List.{length-map, length-reverse, map-append, reverse-append}
use Rattle.std.proofs.lemmas.Simd.{map-map}
use Rattle.yr_vm.specs.Turns.{present_shown, left_shown}
use Rattle.yr_vm.specs.declared.turns.Turned.{Turned}
use Rattle.yr_vm.specs.declared.turns.Turned.TheVariants as after
use Rattle.yr_values.specs.Values.{Value}
use Rattle.yr_machine.specs.Machine.{OpenLoop, stuck, going, machine, begin, present_turns}
use Rattle.yr_machine.specs.CodeWalk.{most_loops}
use Rattle.yr_vm.specs.OpenLoops.{begun_shown, begun_by, loop_shown, loops_shown, presents_shown, turned, turn_on, after_turn}
use Rattle.yr_vm.proofs.StackLemmas.{top, top-more, top-length, top-last, top-changed}
use Rattle.std.proofs.lemmas.Bool.Decides.{nat_tests}

module _ {A : Type 0} (shows : A → Turn) (blank : A) where
  -- the loop of a number, counted from the outermost
  pub turn-get : (items : List A) (n c : ℕ) → c < n → n ≤ length items → turn_at (top shows blank items n) c ≡ Some (shows (get_or items c blank))
  turn-get items zero c lt le = absurd (omega arith)
  turn-get items (suc n) c lt le =
      let high = top-length shows blank items n (omega (arith, le)) in
      let head = shows (get_or items n blank) in
      let more = turn-get items n c in
      ap (λ ts. turn_at ts c) (top-more shows blank items n (omega (arith, le)))
      ∙ elim (cases_lt c n) [
        | inl lower ↦ off (c == length (top shows blank items n)) (Some head) (turn_at (top shows blank items n) c) (differ c (length (top shows blank items n)) (omega (arith, lower, high))) ∙ more lower (omega (arith, le))
        | inr upper ↦
            let same : c ≡ n = omega (arith, lt, upper) in
            on (c == length (top shows blank items n)) (Some head) (turn_at (top shows blank items n) c) (equal c (length (top shows blank items n)) (same ∙ sym high))
            ∙ ap (λ k. Some (shows (get_or items k blank))) (sym same)
      ]
    where
      on : (b : Bool) (x y : Option Turn) → b ≡ true → (if b then x else y) ≡ x
      on b x y e = ap (λ t. if t then x else y) e

      off : (b : Bool) (x y : Option Turn) → b ≡ false → (if b then x else y) ≡ y
      off b x y e = ap (λ t. if t then x else y) e

      differ : (a b : ℕ) → a < b → (a == b) ≡ false
      differ a b h = grind (arith, nat_tests)

      equal : (a b : ℕ) → a ≡ b → (a == b) ≡ true
      equal a b h = grind (arith, nat_tests)

-- where a turn of the innermost loop leads, with the others as they were
pub turn-again : (lists : List ℕ) (items : List kept.OpenLoop) (n : ℕ) (blank new : kept.OpenLoop) (answer : Bool) (result : Turned) (place : ℕ) →
    0 < n → n ≤ length items → result ≡ after.Again place →
    ((below : List Value) (loops : List OpenLoop) → turn_on answer below (loop_shown lists (get_or items (n - 1) blank) ∷ loops)
    ≡ turned result below (loop_shown lists new) loops) →
    (below : List Value) → turn_on answer below (top (loop_shown lists) blank items n) ≡ after_turn result below (top (loop_shown lists) blank (set items (n - 1) new) n)
turn-again lists items n blank new answer result place lt le again h below =
    let shows = loop_shown lists in
    let rest = top shows blank items (n - 1) in
    ap (turn_on answer below) (top-last shows blank items n lt le)
    ∙ h below rest
    ∙ ap (λ t. turned t below (shows new) rest) again
    ∙ ap (λ loops. going (machine place below loops)) (sym (top-changed shows blank items n new lt le))
    ∙ ap (λ t. after_turn t below (top shows blank (set items (n - 1) new) n)) (sym again)

-- as many loops are open as have present turns
pub same-length : (lists : List ℕ) (s : open_loops.Loops) → length (loops_shown lists s) ≡ length (presents_shown s)
same-length lists s =
    let shows = λ (l : kept.OpenLoop). present_shown l.present in
    length-reverse (map (loop_shown lists) (take s.len s.open)) ∙ length-map (take s.len s.open) (loop_shown lists)
    ∙ sym (length-reverse (map shows (take s.len s.open)) ∙ length-map (take s.len s.open) shows)

map-reverse : {A B : Type 0} → (g : A → B) (xs : List A) → map g (reverse xs) ≡ reverse (map g xs)
map-reverse g [] = refl
map-reverse g (x ∷ xs) =
    ap (map g) (reverse-append (x ∷ []) xs) ∙ map-append g (reverse xs) (x ∷ []) ∙ ap (λ ys. ys ++ g x ∷ []) (map-reverse g xs)
    ∙ sym (reverse-append (g x ∷ []) (map g xs))

-- their present turns
pub same-presents : (lists : List ℕ) (s : open_loops.Loops) → present_turns (loops_shown lists s) ≡ presents_shown s
same-presents lists s =
    map-reverse (λ (l : OpenLoop). l.present) (map (loop_shown lists) (take s.len s.open))
    ∙ ap reverse (map-map (λ (l : OpenLoop). l.present) (loop_shown lists) (take s.len s.open))

-- a list's loop that is just begun, from its fields
pub listed : (lists : List ℕ) (l : kept.OpenLoop) (place end : ℕ) (quantifier : Quantifier) (values : List Value) (held kept : ℕ) →
    present_shown l.present ∷ left_shown lists l.items l.left ≡ item_turns values → l.place ≡ place → l.end ≡ end → l.quantifier ≡ quantifier →
    l.total ≡ length values → l.held ≡ 0 → l.kept ≡ kept →
    loop_shown lists l ≡ record {
      place = place;
      end = end;
      quantifier = quantifier;
      present = present_shown l.present;
      left = left_shown lists l.items l.left;
      total = length (left_shown lists l.items l.left) + 1;
      held = 0;
      kept = kept;
    }
listed lists l place end quantifier values held kept turns is_place is_end is_quantifier is_total is_held is_kept =
    let count : length (present_shown l.present ∷ left_shown lists l.items l.left) ≡ length values = ap length turns ∙ length-map values Item in
    let total : l.total ≡ length (left_shown lists l.items l.left) + 1 = omega (arith, count, is_total) in
    λ i. record {
      place = is_place i;
      end = is_end i;
      quantifier = is_quantifier i;
      present = present_shown l.present;
      left = left_shown lists l.items l.left;
      total = total i;
      held = is_held i;
      kept = is_kept i;
    }

few-loops : (n : ℕ) → n < 4 → nat_lt n most_loops ≡ true
few-loops n lt = grind (arith, nat_tests)

-- a loop begins with the turns that the code has for it
pub begin-some : (lists : List ℕ) (s : open_loops.Loops) (place end : ℕ) (q : Quantifier) (turns : some.Turns) (body below : List Value) →
    length (presents_shown s) < 4 → length (left_shown lists [] turns.left) + 1 ≡ turns.total →
    going (machine (place + 1) body (begun_by lists place end q turns ∷ loops_shown lists s))
    ≡ begin (Some q) (begun_shown lists (begun.Some turns)) place end 0 body below (loops_shown lists s)
begin-some lists s place end q turns body below few count =
    let loops = loops_shown lists s in
    let one = λ (total : ℕ). going (machine (place + 1) body (record {
      place = place;
      end = end;
      quantifier = q;
      present = present_shown turns.present;
      left = left_shown lists [] turns.left;
      total = total;
      held = 0;
      kept = 0;
    } ∷ loops)) in
    ap one (sym count)
    ∙ sym (ap (λ b. if b then one (length (left_shown lists [] turns.left) + 1) else stuck)
    (few-loops (length loops) (omega (arith, few, same-length lists s))))

-- where the machine may begin its turns, the code can begin those that it has
pub can-begin : (lists : List ℕ) (q : Option Quantifier) (b : Begun) (n values : ℕ) → MayBegin q (begun_shown lists b) n values → CanBegin q b n values
can-begin lists None begun.Unknown n values m = m
can-begin lists None begun.Nothing n values m = m
can-begin lists None (begun.Some turns) n values m = m
can-begin lists (Some q) begun.Unknown n values m = m
can-begin lists (Some q) begun.Nothing n values m = m
can-begin lists (Some q) (begun.Some turns) n values m = m

-- a loop over a list begins
pub listed-begins : (s : open_loops.Loops) (place end : ℕ) (q : Quantifier) (values : List Value) (kept : ℕ) (t : Turn) (ts : List Turn)
    (lists : List ℕ) (later : List OpenLoop) (body below : List Value) → item_turns values ≡ t ∷ ts →
    later ≡ record { place = place; end = end; quantifier = q; present = t; left = ts; total = length ts + 1; held = 0; kept = kept } ∷ loops_shown lists s →
    MayBegin (Some q) (Some (item_turns values)) (length (presents_shown s)) (length below) →
    going (machine (place + 1) body later) ≡ begin (Some q) (Some (item_turns values)) place end kept body below (loops_shown lists s)
listed-begins s place end q values kept t ts lists later body below turns is may =
    let loops = loops_shown lists s in
    let few : length (presents_shown s) < 4 = subst (λ us. MayBegin (Some q) (Some us) (length (presents_shown s)) (length below)) turns may in
    ap (λ (l : List OpenLoop). going (machine (place + 1) body l)) is
    ∙ sym (ap (λ us. begin (Some q) (Some us) place end kept body below loops) turns
    ∙ ap (λ b. if b then going (machine (place + 1) body (record {
      place = place;
      end = end;
      quantifier = q;
      present = t;
      left = ts;
      total = length ts + 1;
      held = 0;
      kept = kept;
    } ∷ loops)) else stuck) (few-loops (length loops) (omega (arith, few, same-length lists s))))
