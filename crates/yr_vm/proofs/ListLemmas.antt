-- The list of a loop that a row begins has from 1 to 128 items.
use Rattle.std.proofs.Common.{◌≡◌, ℕ, ◌≤◌, ◌%◌, ◌/◌, Bool, true, false, List, Option, Some, None, refl, sym, ap, ◌∙◌, arith}
use Rattle.std.specs.Prelude.{◌==◌, ◌&&◌, nat_le, if◌then◌else◌, option_map, option_and_then, slice_get}
use Rattle.std.specs.Option.{option_map_or}
use Rattle.std.specs.Int.{w64, cast_signed}
use Rattle.std.proofs.lemmas.Bool.Decides.{nat_tests}
use Rattle.yr_base.specs.declared.value.Kind.{Kind}
use Rattle.yr_image.specs.declared.rows.CodeRow.{CodeRow}
use Rattle.yr_image.specs.declared.instruction.Comparison.{Comparison}
use Rattle.yr_image.specs.declared.instruction.OfForm.{OfForm}
use Rattle.yr_image.specs.declared.instruction.QuantifierKind.{QuantifierKind}
use Rattle.yr_image.specs.declared.instruction.Instruction.{Instruction}
use Rattle.yr_image.specs.declared.instruction.Instruction.TheVariants as i
use Rattle.yr_image.specs.Instructions.{arithmetics, comparisons, compared_kinds, text_tests, readers, loop_quantifiers, quantifiers, forms, flags, compares, uses_none, uses_a, uses_c, uses_d, uses_ab, uses_ac, uses_bc, uses_cd, uses_bcd, when, among, of_instruction, compare_instruction, list_instruction, named, instruction_of}
use Rattle.yr_vm.specs.Taken.{has_short_list}

abbrev AllShort : Option Instruction → Bool
AllShort o = option_map_or has_short_list o true

by-if : (b : Bool) (x y : Option Instruction) → AllShort x ≡ true → AllShort y ≡ true → AllShort (if b then x else y) ≡ true
by-if true x y e f = e
by-if false x y e f = f

when-short : (b : Bool) (instr : Instruction) → has_short_list instr ≡ true → AllShort (when b instr) ≡ true
when-short true instr e = e
when-short false instr e = refl

then-short : {A : Type 0} → (o : Option A) (f : A → Option Instruction) → ((x : A) → AllShort (f x) ≡ true) → AllShort (option_and_then f o) ≡ true
then-short None f h = refl
then-short (Some x) f h = h x

map-short : {A : Type 0} → (make : A → Instruction) (o : Option A) → ((x : A) → has_short_list (make x) ≡ true) → AllShort (option_map make o) ≡ true
map-short make None h = refl
map-short make (Some x) h = h x

among-short : {A : Type 0} → (cases : List A) (k : ℕ) (fits : Bool) (make : A → Instruction) → ((x : A) → has_short_list (make x) ≡ true) →
    AllShort (among cases k fits make) ≡ true
among-short cases k fits make h = then-short (slice_get cases k) (λ x. when fits (make x)) (λ x. when-short fits (make x) (h x))

of-short : (r : CodeRow) → AllShort (of_instruction r) ≡ true
of-short r =
    then-short (slice_get forms r.a) (λ (f : OfForm). option_map (λ q. i.Of f q r.c r.d) (slice_get quantifiers r.b))
    (λ f. map-short (λ (q : QuantifierKind). i.Of f q r.c r.d) (slice_get quantifiers r.b) (λ q. refl))

compare-short : (r : CodeRow) → AllShort (compare_instruction r) ≡ true
compare-short r =
    then-short (slice_get comparisons r.a)
    (λ (c : Comparison). option_and_then (λ k. when (compares c k && uses_ab r) (i.Compare c k)) (slice_get compared_kinds r.b))
    (λ c. then-short (slice_get compared_kinds r.b) (λ (k : Kind). when (compares c k && uses_ab r) (i.Compare c k))
    (λ k. when-short (compares c k && uses_ab r) (i.Compare c k) refl))

listed : (b c : Bool) (instr : Instruction) → has_short_list instr ≡ c → AllShort (when (b && c) instr) ≡ true
listed true true instr e = e
listed true false instr e = refl
listed false c instr e = refl

list-short : (r : CodeRow) → AllShort (list_instruction r) ≡ true
list-short r =
    then-short (slice_get loop_quantifiers r.b) (λ (q : QuantifierKind). when (uses_bcd r && (nat_le 1 r.d && nat_le r.d 128)) (i.LoopList q r.c r.d))
    (λ q. listed (uses_bcd r) (nat_le 1 r.d && nat_le r.d 128) (i.LoopList q r.c r.d) refl)

rows-short : (r : CodeRow) → AllShort (instruction_of r) ≡ true
rows-short r =
    by-if (r.op == 0x00) _ _ (when-short (uses_none r) (i.End) refl) (
    by-if (r.op == 0x01) _ _ (when-short (uses_d r) (i.Number (cast_signed w64 r.d)) refl) (
    by-if (r.op == 0x02) _ _ (when-short (uses_cd r) (i.Text r.c r.d) refl) (
    by-if (r.op == 0x03) _ _ (among-short flags r.a (uses_a r) i.Flag (λ x. refl)) (
    by-if (r.op == 0x04) _ _ (when-short (uses_none r) (i.FileSize) refl) (
    by-if (r.op == 0x05) _ _ (when-short (uses_c r) (i.External r.c) refl) (
    by-if (r.op == 0x06) _ _ (when-short (uses_c r) (i.Rule r.c) refl) (
    by-if (r.op == 0x07) _ _ (when-short (uses_c r) (i.Var r.c) refl) (
    by-if (r.op == 0x08) _ _ (among-short flags r.a (uses_ac r) (λ indexed. i.Field indexed r.c) (λ x. refl)) (
    by-if (r.op == 0x09) _ _ (when-short (uses_c r) (i.Call r.c) refl) (
    by-if (r.op == 0x0a) _ _ (map-short i.Has (named r) (λ x. refl)) (
    by-if (r.op == 0x0b) _ _ (map-short i.HasAt (named r) (λ x. refl)) (
    by-if (r.op == 0x0c) _ _ (map-short i.HasIn (named r) (λ x. refl)) (
    by-if (r.op == 0x0d) _ _ (map-short i.Count (named r) (λ x. refl)) (
    by-if (r.op == 0x0e) _ _ (map-short i.CountIn (named r) (λ x. refl)) (
    by-if (r.op == 0x0f) _ _ (map-short i.Offset (named r) (λ x. refl)) (
    by-if (r.op == 0x10) _ _ (map-short i.Length (named r) (λ x. refl)) (
    by-if (r.op == 0x11) _ _ (of-short r) (
    by-if (r.op == 0x12) _ _ (among-short readers r.a (uses_a r) i.Read (λ x. refl)) (
    by-if (r.op == 0x13) _ _ (when-short (uses_none r) (i.Negate) refl) (
    by-if (r.op == 0x14) _ _ (when-short (uses_none r) (i.Flip) refl) (
    by-if (r.op == 0x15) _ _ (among-short arithmetics r.a (uses_a r) i.Arith (λ x. refl)) (
    by-if (r.op == 0x16) _ _ (compare-short r) (
    by-if (r.op == 0x17) _ _ (among-short text_tests r.a (uses_a r) i.Test (λ x. refl)) (
    by-if (r.op == 0x18) _ _ (when-short (uses_c r) (i.Matches r.c) refl) (
    by-if (r.op == 0x19) _ _ (when-short (uses_none r) (i.Not) refl) (
    by-if (r.op == 0x1a) _ _ (when-short (uses_none r) (i.Defined) refl) (
    by-if (r.op == 0x1b) _ _ (when-short (uses_none r) (i.Truth) refl) (
    by-if (r.op == 0x1c) _ _ (when-short (uses_none r) (i.Settle) refl) (
    by-if (r.op == 0x1d) _ _ (when-short (uses_c r) (i.SkipFalse r.c) refl) (
    by-if (r.op == 0x1e) _ _ (when-short (uses_c r) (i.SkipTrue r.c) refl) (
    by-if (r.op == 0x1f) _ _ (among-short loop_quantifiers r.b (uses_bc r) (λ q. i.LoopRange q r.c) (λ x. refl)) (
    by-if (r.op == 0x20) _ _ (list-short r) (
    by-if (r.op == 0x21) _ _ (among-short loop_quantifiers r.b (uses_bcd r) (λ q. i.LoopStrings q r.c (r.d % 4294967296) (r.d / 4294967296)) (λ x. refl)) (
    by-if (r.op == 0x22) _ _ (when-short (uses_c r) (i.LoopEnd r.c) refl) (
    refl)))))))))))))))))))))))))))))))))))

-- what a row says
pub row-short : (r : CodeRow) (instr : Instruction) → instruction_of r ≡ Some instr → has_short_list instr ≡ true
row-short r instr e = ap AllShort (sym e) ∙ rows-short r

both-true : (a b : Bool) → (a && b) ≡ true → (a ≡ true) × (b ≡ true)
both-true true b e = (refl, e)
both-true false b e = cc

fits-at : (a b : ℕ) → nat_le a b ≡ true → a ≤ b
fits-at a b e = grind (arith, nat_tests)

pub list-bounds : (q : QuantifierKind) (end items : ℕ) → has_short_list (i.LoopList q end items) ≡ true → (1 ≤ items) × (items ≤ 128)
list-bounds q end items e =
    let h = both-true (nat_le 1 items) (nat_le items 128) e in (fits-at 1 items h.0, fits-at items 128 h.1)
