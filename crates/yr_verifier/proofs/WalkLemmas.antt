-- Steps of the walk.
use Rattle.std.proofs.Common.{◌≡◌, ℕ, suc, ◌+◌, ◌-◌, ◌≤◌, List, [], ◌∷◌, length, drop, Option, Some, None, refl, sym, ap, ◌∙◌, arith, Bool, true, false, not, ◌&&◌, cond, inl, inr, length-drop, get_or}
use Rattle.std.specs.Prelude.{slice_get, ◌==◌, nat_le}
use Rattle.yr_values.specs.Comparisons.{flag_eq}
use Rattle.yr_image.specs.declared.instruction.Instruction.{Instruction}
use Rattle.yr_machine.specs.declared.block.Opener.TheVariants.{Loop}
use Rattle.yr_machine.specs.Roles.{Role, role}
use Rattle.yr_machine.specs.Named.{names_there}
use Rattle.std.proofs.Math.Bool.{beq}
use Rattle.std.proofs.lemmas.Bool.{eq-eqb}
use Rattle.std.proofs.lemmas.Bool.Decides.{eqb_tells, leb_tells}
use Rattle.std.proofs.lemmas.Option.{get_or_from_slice_get, slice_get_within}
use Rattle.std.proofs.Math.Seq.{drop-cons}
use Rattle.std.proofs.Math.ListN.{drop_of_length-le}
use Rattle.yr_base.specs.declared.value.Kind.{Kind}
use Rattle.yr_image.specs.declared.rows.CodeRow.{CodeRow}
use Rattle.yr_image.specs.Image.{Image}
use Rattle.yr_machine.specs.declared.block.Want.{Want}
use Rattle.yr_machine.specs.declared.block.Block.{Block}
use Rattle.yr_machine.specs.CodeWalk.{take_kinds, is_wanted, Verdict, goes_on, fails, close, is_skip, is_answer, is_empty, fault_from, and_then, by_row, by_role, by_instruction, is_ending, open_loops, above, taken, floor_of, opened, looping}
use Rattle.yr_verifier.specs.Stacks.{down_to}

pub down_height : {A : Type 0} → (h : ℕ) (xs : List A) → h ≤ length xs → length (down_to h xs) ≡ h
down_height h xs le = omega (arith, length-drop (length xs - h) xs, le)

-- below a loop's answer what the loop kept is gone
pub down_kept : {A : Type 0} → (kept : ℕ) (x : A) (xs : List A) → down_to (length xs - kept) (x ∷ xs) ≡ drop kept xs
down_kept kept x xs = elim (leb_tells kept (length xs)) [
  | inl t ↦ let e : suc (length xs) - (length xs - kept) ≡ suc kept = omega (arith, t.1) in ap (λ n. drop n (x ∷ xs)) e
  | inr t ↦
      let e : suc (length xs) - (length xs - kept) ≡ suc (length xs) = omega (arith, t.1) in
      ap (λ n. drop n (x ∷ xs)) e ∙ drop_of_length-le xs (omega arith) ∙ sym (drop_of_length-le xs (omega (arith, t.1)))
]

by_test : (b : Bool) (P : Type 0) → (b ≡ true → P) → (b ≡ false → P) → P
by_test true P yes_case no_case = yes_case refl
by_test false P yes_case no_case = no_case refl

-- as many values are gone as were wanted
pub take_count : (wants : List Want) (kinds rest : List Kind) → take_kinds wants kinds ≡ Some rest → length rest + length wants ≡ length kinds
take_count [] kinds rest e = let same : kinds ≡ rest = cc in omega (arith, ap length same)
take_count (w ∷ wants) [] rest e = cc
take_count (w ∷ wants) (k ∷ kinds) rest e =
    by_test (is_wanted w k) (length rest + length (w ∷ wants) ≡ length (k ∷ kinds))
    (λ t.
    let here : take_kinds wants kinds ≡ Some rest = ap (λ b. cond b (take_kinds wants kinds) None) (sym t) ∙ e in
    omega (arith, take_count wants kinds rest here))
    (λ t. let bad : None ≡ Some rest = ap (λ b. cond b (take_kinds wants kinds) None) (sym t) ∙ e in cc)

pub close_none : (p : ℕ) (ks : List Kind) (bs : List Block) (vd : Verdict) → slice_get bs 0 ≡ None → close p ks bs ≡ vd → goes_on ks bs ≡ vd
close_none p ks [] vd e h = h
close_none p ks (b ∷ bs) vd e h = cc

pub close_other : (p : ℕ) (ks : List Kind) (bs : List Block) (b : Block) (vd : Verdict) → slice_get bs 0 ≡ Some b → (is_skip b.opener && (b.end == p)) ≡ false →
    close p ks bs ≡ vd → goes_on ks bs ≡ vd
close_other p ks [] b vd e t h = cc
close_other p ks (x ∷ bs) b vd e t h =
    let same : x ≡ b = cc in
    let t' = ap (λ (y : Block). is_skip y.opener && (y.end == p)) same ∙ t in
    sym (ap (λ c. cond c (cond (is_answer x.floor ks) (close p ks bs) fails) (goes_on ks (x ∷ bs))) t') ∙ h

pub close_fails : (p : ℕ) (ks : List Kind) (bs : List Block) (b : Block) (vd : Verdict) → slice_get bs 0 ≡ Some b → (is_skip b.opener && (b.end == p)) ≡ true →
    is_answer b.floor ks ≡ false → close p ks bs ≡ vd → fails ≡ vd
close_fails p ks [] b vd e t a h = cc
close_fails p ks (x ∷ bs) b vd e t a h =
    let same : x ≡ b = cc in
    let t' = ap (λ (y : Block). is_skip y.opener && (y.end == p)) same ∙ t in
    let a' = ap (λ (y : Block). is_answer y.floor ks) same ∙ a in
    sym (ap (λ c. cond c (cond (is_answer x.floor ks) (close p ks bs) fails) (goes_on ks (x ∷ bs))) t' ∙ ap (λ c. cond c (close p ks bs) fails) a') ∙ h

pub close_more : (p : ℕ) (ks : List Kind) (bs rest : List Block) (b : Block) (vd : Verdict) → bs ≡ b ∷ rest → (is_skip b.opener && (b.end == p)) ≡ true →
    is_answer b.floor ks ≡ true → close p ks bs ≡ vd → close p ks rest ≡ vd
close_more p ks bs rest b vd s t a h =
    sym (ap (close p ks) s ∙ ap (λ c. cond c (cond (is_answer b.floor ks) (close p ks rest) fails) (goes_on ks (b ∷ rest))) t ∙ ap (λ c. cond c (close p ks rest) fails) a) ∙ h

empty_test : (xs : List CodeRow) (a b : ℕ) → length xs + a ≡ b → is_empty xs ≡ (a == b)
empty_test [] a b e = let same : a ≡ b = omega arith in sym (eq-eqb a b same)
empty_test (r ∷ rest) a b e =
    elim (eqb_tells a b) [ inl t ↦ absurd (omega (arith, t.1, e)) | inr t ↦ sym t.0 ]

-- one row of the walk
fault_step : (image : Image) (rule : ℕ) (rows : List CodeRow) (i : ℕ) (ks : List Kind) (bs : List Block) (r : CodeRow) → slice_get rows i ≡ Some r →
    fault_from image rule rows (drop i rows) i ks bs
    ≡ and_then i (by_row image rule rows r (i + 1 == length rows) i (close i ks bs)) (fault_from image rule rows (drop (i + 1) rows) (i + 1))
fault_step image rule rows i ks bs r at =
    let lt = slice_get_within rows i r at in
    let left = drop (i + 1) rows in
    let next : suc i ≡ i + 1 = omega arith in
    let long : length left + (i + 1) ≡ length rows = omega (arith, lt, length-drop (i + 1) rows) in
    ap (λ l. fault_from image rule rows l i ks bs) (drop-cons rows i r lt ∙ ap (λ n. get_or rows i r ∷ drop n rows) next ∙ ap (λ x. x ∷ left) (get_or_from_slice_get rows i r r at))
    ∙ ap (λ b. and_then i (by_row image rule rows r b i (close i ks bs)) (fault_from image rule rows left (i + 1))) (empty_test left (i + 1) (length rows) long)

-- the walk from here, when the row here is told by a verdict
pub fault_by : (image : Image) (rule : ℕ) (rows : List CodeRow) (i : ℕ) (ks : List Kind) (bs : List Block) (r : CodeRow) (vd : Verdict) (all : Option ℕ) → slice_get rows i ≡ Some r →
    vd ≡ by_row image rule rows r (i + 1 == length rows) i (close i ks bs) →
    fault_from image rule rows (drop i rows) i ks bs ≡ all → and_then i vd (fault_from image rule rows (drop (i + 1) rows) (i + 1)) ≡ all
fault_by image rule rows i ks bs r vd all at e h =
    ap (λ x. and_then i x (fault_from image rule rows (drop (i + 1) rows) (i + 1))) e ∙ sym (fault_step image rule rows i ks bs r at) ∙ h

-- the walk past the last row
pub fault_end : (image : Image) (rule : ℕ) (rows : List CodeRow) (i : ℕ) (ks : List Kind) (bs : List Block) (all : Option ℕ) → length rows ≤ i →
    fault_from image rule rows (drop i rows) i ks bs ≡ all → Some i ≡ all
fault_end image rule rows i ks bs all le h = sym (ap (λ l. fault_from image rule rows l i ks bs) (drop_of_length-le rows le)) ∙ h

above_parts : (floor : ℕ) (o : Option (List Kind)) (rest : List Kind) → above floor o ≡ Some rest → o ≡ Some rest
above_parts floor None rest e = cc
above_parts floor (Some kinds) rest e =
    by_test (nat_le floor (length kinds)) (Some kinds ≡ Some rest)
    (λ t. ap (λ b. cond b (Some kinds) None) (sym t) ∙ e)
    (λ t. let bad : None ≡ Some rest = ap (λ b. cond b (Some kinds) None) (sym t) ∙ e in cc)

-- a loop that keeps its values
pub kept_opened : (fits keeps strings : Bool) (wants : List Want) (place end height all : ℕ) (kinds : List Kind) (blocks : List Block) →
    fits ≡ true → keeps ≡ true → taken wants kinds blocks ≡ Some (down_to height kinds) → height ≤ length kinds → all ≡ length kinds →
    opened (Loop place strings (all - height)) end (down_to all kinds) blocks ≡ looping fits keeps strings wants place end kinds (taken wants kinds blocks) blocks
kept_opened fits keeps strings wants place end height all kinds blocks f k t le e =
    let rest = down_to height kinds in
    let count = take_count wants kinds rest (above_parts (floor_of blocks) (take_kinds wants kinds) rest t) in
    let kept : all - height ≡ length wants = omega (arith, count, down_height height kinds le, le, e) in
    let none : length kinds - all ≡ 0 = omega (arith, e) in
    ap (λ n. opened (Loop place strings n) end (down_to all kinds) blocks) kept
    ∙ ap (λ n. opened (Loop place strings (length wants)) end (drop n kinds) blocks) none
    ∙ ap (λ o. looping true true strings wants place end kinds o blocks) (sym t)
    ∙ ap (λ b. looping true b strings wants place end kinds (taken wants kinds blocks) blocks) (sym k)
    ∙ ap (λ b. looping b keeps strings wants place end kinds (taken wants kinds blocks) blocks) (sym f)

flag_same : (b : Bool) → flag_eq b b ≡ true
flag_same true = refl
flag_same false = refl

-- an instruction that stands where it may, and names what is there
pub instruction_goes : (image : Image) (rule : ℕ) (rows : List CodeRow) (i : Instruction) (last : Bool) (r : Role) (place : ℕ) (ks : List Kind) (bs : List Block)
    (loops : List Bool) → r ≡ role image i → is_ending r ≡ last → loops ≡ open_loops bs → names_there image rule loops i ≡ true →
    by_role image rule rows r place ks bs ≡ by_instruction image rule rows (Some i) last place ks bs
instruction_goes image rule rows i last r place ks bs loops e ends agree names =
    let flag : flag_eq (is_ending (role image i)) last ≡ true =
    ap (λ x. flag_eq (is_ending x) last) (sym e) ∙ ap (λ b. flag_eq b last) ends ∙ flag_same last in
    let test : (flag_eq (is_ending (role image i)) last && names_there image rule (open_loops bs) i) ≡ true =
    ap (λ b. b && names_there image rule (open_loops bs) i) flag ∙ ap (λ l. names_there image rule l i) (sym agree) ∙ names in
    ap (λ x. by_role image rule rows x place ks bs) e ∙ sym (ap (λ b. cond b (by_role image rule rows (role image i) place ks bs) fails) test)

pub same_flags : (a b : Bool) → not (beq a b) ≡ false → a ≡ b
same_flags true true e = refl
same_flags true false e = cc
same_flags false true e = cc
same_flags false false e = refl
