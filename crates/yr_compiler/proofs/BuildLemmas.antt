-- Strings, externals, code and rules that are put one after another into an empty image make one that is built of the rules.
use Rattle.std.proofs.Common.{◌≡◌, ℕ, ◌+◌, ◌<◌, ◌≤◌, List, [], ◌∷◌, length, map, is_some, true, true≢false, All, Option, Some, None, slice_get, get_or, refl, sym, ap, ◌∙◌, subst, arith}
use Rattle.std.proofs.lemmas.List.{append-nil}
use Rattle.std.proofs.lemmas.Option.{slice_get-get_or}
use Rattle.yr_rules.specs.Kinds.{kind_of}
use Rattle.yr_rules.specs.Wellformed.{IsWellformed}
use Rattle.yr_compiler.specs.Rules.{HasShortTexts}
use Rattle.yr_rules.specs.Rules.{PlainRule, PlainRules}
use Rattle.yr_rules.specs.Weight.{total, rule_weight}
use Rattle.yr_image.specs.declared.rows.NoteRow.{NoteRow}
use Rattle.yr_image.specs.Image.{Image}
use Rattle.yr_image.specs.Encoding.{encoded_length}
use Rattle.yr_draft.specs.Growing.{BeginsAs, Grows}
use Rattle.yr_draft.specs.Added.{empty_image}
use Rattle.yr_draft.proofs.GrowLemmas.{grows_after}
use Rattle.yr_splits.specs.Programs.{AreProgramRows}
use Rattle.yr_splits.specs.Filling.{PutsStrings, KeepsStrings}
use Rattle.yr_splits.proofs.ProgramLemmas.{no_programs, programs_stay}
use Rattle.yr_splits.proofs.WholeLemmas.{stays}
use Rattle.yr_compiler.specs.declared.code_range.CodeRange.{CodeRange}
use Rattle.yr_compiler.specs.Notes.{SayNotes, external_note}
use Rattle.yr_compiler.specs.Putting.{PutsExternals, PutsRules, listing_weight}
use Rattle.yr_compiler.proofs.NoteLemmas.{notes_stay}
use Rattle.yr_compiler.specs.Built.{HasKind, HasRuleCode, IsBuilt, PutsCodes, condition_weight}
use Rattle.yr_compiler.proofs.CodeLemmas.{code_stays}

rules_weigh : (rules : List PlainRule) → total rule_weight rules ≡ total listing_weight rules + total condition_weight rules
rules_weigh [] = refl
rules_weigh (rule ∷ rules) = let rest = rules_weigh rules in omega (arith, rest)

begins_same : {X : Type 0} (xs ys : List X) → ys ≡ xs → BeginsAs xs ys
begins_same xs ys e = ([], e ∙ sym (append-nil xs))

module _ (rules : PlainRules) (first second third last : Image) (codes : List CodeRange)
    (strings : PutsStrings empty_image first rules.strings) (externals : PutsExternals first second rules.externals)
    (coded : PutsCodes second third rules.externals rules.rules codes) (listed : PutsRules third last rules.rules codes) where
  grows : Grows first last
  grows = grows_after first second last externals.grows (grows_after second third last coded.grows listed.grows)

  keeps : KeepsStrings first last
  keeps = record {
    strings = ap (λ (i : Image). i.strings) listed.others ∙ ap (λ (i : Image). i.strings) coded.others ∙ ap (λ (i : Image). i.strings) externals.others;
    splits = ap (λ (i : Image). i.splits) listed.others ∙ ap (λ (i : Image). i.splits) coded.others ∙ ap (λ (i : Image). i.splits) externals.others;
    nodes = ap (λ (i : Image). i.nodes) listed.others ∙ ap (λ (i : Image). i.nodes) coded.others ∙ ap (λ (i : Image). i.nodes) externals.others;
    edges = ap (λ (i : Image). i.edges) listed.others ∙ ap (λ (i : Image). i.edges) coded.others ∙ ap (λ (i : Image). i.edges) externals.others;
    outputs = ap (λ (i : Image). i.outputs) listed.others ∙ ap (λ (i : Image). i.outputs) coded.others ∙ ap (λ (i : Image). i.outputs) externals.others;
  }

  version : last.version ≡ 2
  version =
      ap (λ (i : Image). i.version) listed.others ∙ ap (λ (i : Image). i.version) coded.others ∙ ap (λ (i : Image). i.version) externals.others
      ∙ ap (λ (i : Image). i.version) strings.others

  externals_are : SayNotes last (map external_note rules.externals) last.externals
  externals_are =
      let same : last.externals ≡ second.externals = ap (λ (i : Image). i.externals) listed.others ∙ ap (λ (i : Image). i.externals) coded.others in
      let P : List NoteRow → Type 0 = λ rows. SayNotes last (map external_note rules.externals) rows in
      subst P (sym same) (notes_stay second last (map external_note rules.externals) second.externals (grows_after second third last coded.grows listed.grows) externals.say)

  same_code : last.code ≡ third.code
  same_code = ap (λ (i : Image). i.code) listed.others

  code : (k : ℕ) (rule : PlainRule) (range : CodeRange) → slice_get rules.rules k ≡ Some rule → slice_get codes k ≡ Some range → HasRuleCode last rules.externals rule range
  code k rule range h g =
      code_stays third last rules.externals rule range listed.grows (begins_same third.code last.code same_code)
      (begins_same third.lists last.lists (ap (λ (i : Image). i.lists) listed.others)) (coded.code k rule range h g)

  programs : AreProgramRows last
  programs =
      let a = strings.programs (no_programs empty_image refl refl) in
      let b = programs_stay first second externals.grows (ap (λ (i : Image). i.programs) externals.others) (ap (λ (i : Image). i.moves) externals.others) a in
      programs_stay third last listed.grows (ap (λ (i : Image). i.programs) listed.others) (ap (λ (i : Image). i.moves) listed.others) (coded.programs b)

  pub built : IsBuilt last rules
  built = record {
    version = version;
    placed = strings.placed;
    strings = (stays first last strings.placed rules.strings grows keeps strings.has strings.automaton).0;
    automaton = (stays first last strings.placed rules.strings grows keeps strings.has strings.automaton).1;
    externals = externals_are;
    codes = codes;
    enough = coded.count;
    listed = listed.say;
    follow = record { some = coded.follow.some; follow = coded.follow.follow; whole = coded.follow.whole ∙ sym (ap length same_code) };
    code = code;
    programs = programs;
    short =
        let a = strings.cost in
        let b = externals.cost in
        let c = coded.cost in
        let d = listed.cost in
        let e = rules_weigh rules.rules in
        let start : encoded_length empty_image ≤ 64 = omega arith in
        omega (arith, a, b, c, d, e, start);
  }

-- ---- what checked rules keep

some_of : {X : Type 0} (o : Option X) → is_some o ≡ true → (x : X) × (o ≡ Some x)
some_of (Some x) h = (x, refl)
some_of None h = absurd (true≢false (sym h))

pub have_kinds : (rules : PlainRules) → IsWellformed rules → All (HasKind rules.externals) rules.rules
have_kinds rules good k d b =
    let rule : PlainRule = get_or rules.rules k d in
    let g = good.good_rules k rule (slice_get-get_or rules.rules k d b) in
    let kind = some_of (kind_of rules.externals rule.condition []) g.kinds in
    record { kind = kind.0; bounds = record { externals = length rules.externals; rules = k; strings = length rules.strings }; is = kind.1; fits = g.fits }

pub short_texts : (rules : PlainRules) → IsWellformed rules → All HasShortTexts rules.rules
short_texts rules good k d b =
    let g = good.good_rules k (get_or rules.rules k d) (slice_get-get_or rules.rules k d b) in (g.name.2, g.space.1)

pub below : (image : Image) (rules : PlainRules) → IsBuilt image rules → IsWellformed rules → encoded_length image < 4294967296
below image rules built good = let s = built.short in let l = good.light in omega (arith, s, l)
