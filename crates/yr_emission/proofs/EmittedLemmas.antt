-- The code of a rule that was added to an image stands there, whatever is added later.
use Rattle.std.proofs.Common.{◌≡◌, ℕ, ◌+◌, ◌*◌, ◌≤◌, List, [], ◌∷◌, ◌++◌, length, take, drop, Some, refl, sym, ap, ◌∙◌, subst, arith, length-append}
use Rattle.std.proofs.lemmas.List.{append-nil}
use Rattle.std.proofs.Math.Seq.{drop-append_seam, take-length}
use Rattle.yr_base.specs.declared.value.Kind.{Kind}
use Rattle.yr_rules.specs.NodeTree.{NodeTree}
use Rattle.yr_rules.specs.Rules.{PlainExternal}
use Rattle.yr_rules.specs.Kinds.{kind_of}
use Rattle.yr_rules.specs.Fits.{Rows, Fits}
use Rattle.yr_rules.specs.Weight.{node_weight}
use Rattle.yr_image.specs.declared.rows.CodeRow.{CodeRow}
use Rattle.yr_image.specs.declared.instruction.Instruction.TheVariants as i
use Rattle.yr_image.specs.Image.{Image}
use Rattle.yr_draft.specs.Growing.{BeginsAs, Grows}
use Rattle.yr_draft.proofs.GrowLemmas.{grows_same, kept_range}
use Rattle.yr_splits.proofs.ProgramLemmas.{programs_stay}
use Rattle.yr_emission.specs.Parts.{Part, one, part_of, rule_part}
use Rattle.yr_emission.specs.Standing.{Stands}
use Rattle.yr_emission.specs.Written.{stored_bytes, put_back, Written}
use Rattle.yr_emission.specs.Emitted.{Emitted, code_bytes}
use Rattle.yr_emission.proofs.Runs.{kinded}
use Rattle.yr_emission.proofs.Stands.{sized, sized_both, sized_one}
use Rattle.yr_emission.proofs.CanSay.{CanSay, can_one, can_both, can_say}
use Rattle.yr_emission.proofs.Costs.{rule_costs}
use Rattle.yr_emission.proofs.WrittenLemmas.{written_count}
use Rattle.yr_emission.proofs.WrittenStands.{written_stands, stands_grows}

-- the rows of a checked rule can be said
rule_can_say : (bounds : Rows) (externals : List PlainExternal) (c : NodeTree) (k : Kind) → kind_of externals c [] ≡ Some k → Fits bounds c [] → CanSay (rule_part externals c)
rule_can_say bounds externals c k g f = can_both (part_of externals c) (one i.End) (can_say bounds externals c [] k (kinded externals c [] k g) f) (can_one i.End tt)

-- rows of code were added, and nothing else
abbrev coded : Image → List CodeRow → Image
coded draft rows = record draft { code = draft.code ++ rows }

pub emitted : (externals : List PlainExternal) (c : NodeTree) (rows : List CodeRow) (old draft new : Image) (first count : ℕ) → Written (rule_part externals c) [] rows old draft
    → new ≡ coded draft rows → first ≡ length draft.code → count ≡ length rows → Emitted externals c old new first count
emitted externals c rows old draft new first count w e at n =
    let x = rule_part externals c in
    let code : draft.code ≡ old.code = ap (λ (m : Image). m.code) w.others in
    let same = grows_same draft (coded draft rows) refl refl refl refl in
    let lists : BeginsAs draft.lists draft.lists = ([], sym (append-nil draft.lists)) in
    subst (λ new. Emitted externals c old new first count) (sym e) (record {
      rows = rows;
      is_first = at ∙ ap length code;
      is_count = n;
      size = omega (arith, written_count x [] rows old draft (sized_both (part_of externals c) (one i.End) (sized externals c) (sized_one i.End)) w);
      code = ap (λ l. l ++ rows) code;
      lists = w.lists;
      grows = record { sets = w.grows.sets; programs = w.grows.programs; moves = w.grows.moves; pool = w.grows.pool };
      programs = λ h. programs_stay draft (coded draft rows) same refl refl (w.programs h);
      few = w.few;
      others = ap (λ (m : Image). record m { code = old.code }) w.others;
      stands = λ k bounds g f.
          stands_grows draft (coded draft rows) same lists rows x 0 (length old.lists) (written_stands x rows old draft (rule_can_say bounds externals c k g f) w);
    })

-- a rule's rows, of the image it was added to and of any that grew from it
pub rule_rows : (externals : List PlainExternal) (c : NodeTree) (old new whole : Image) (first count : ℕ) → (e : Emitted externals c old new first count) → BeginsAs new.code whole.code
    → take count (drop first whole.code) ≡ e.rows
rule_rows externals c old new whole first count e b =
    let here = ap (λ k. take k (drop first new.code)) e.is_count ∙ ap (λ k. take (length e.rows) (drop k new.code)) e.is_first ∙ ap (λ l. take (length e.rows) (drop (length old.code) l)) e.code
    ∙ ap (λ l. take (length e.rows) l) (drop-append_seam old.code e.rows) ∙ take-length e.rows in
    let within : first + count ≤ length new.code = omega (arith, e.is_first, e.is_count, ap length e.code, length-append old.code e.rows) in
    kept_range new.code whole.code first count b within ∙ here

pub rule_stands : (externals : List PlainExternal) (c : NodeTree) (k : Kind) (bounds : Rows) (old new whole : Image) (first count : ℕ) → Emitted externals c old new first count
    → Grows new whole → BeginsAs new.code whole.code → BeginsAs new.lists whole.lists → kind_of externals c [] ≡ Some k → Fits bounds c []
    → Stands whole (take count (drop first whole.code)) (rule_part externals c) 0 (length old.lists)
rule_stands externals c k bounds old new whole first count e g b l h f =
    let x = rule_part externals c in let a = length old.lists in
    subst (λ rows. Stands whole rows x 0 a) (sym (rule_rows externals c old new whole first count e b)) (stands_grows new whole g l e.rows x 0 a (e.stands k bounds h f))

pub rule_size : (externals : List PlainExternal) (c : NodeTree) (old new whole : Image) (first count : ℕ) → Emitted externals c old new first count → BeginsAs new.code whole.code
    → length (take count (drop first whole.code)) ≡ (rule_part externals c).size
rule_size externals c old new whole first count e b = ap length (rule_rows externals c old new whole first count e b) ∙ e.size

pub rule_fits : (externals : List PlainExternal) (c : NodeTree) (k : Kind) (old new : Image) (first count : ℕ) → Emitted externals c old new first count → kind_of externals c [] ≡ Some k
    → code_bytes new ≤ code_bytes old + 64 * node_weight c []
rule_fits externals c k old new first count e h = omega (
  arith,
  ap length e.code,
  length-append old.code e.rows,
  e.size,
  ap length e.lists,
  length-append old.lists (rule_part externals c).lists,
  e.few,
  rule_costs externals c k h,
)
