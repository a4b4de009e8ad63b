-- What is answered where rule files are left without rules.
use Rattle.std.proofs.Common.{◌≡◌, ℕ, zero, suc, ◌<◌, ◌≤◌, List, [], ◌∷◌, ◌++◌, length, map, All, Option, Some, Result, Ok, Err, refl, sym, ap, subst, ◌∙◌, append_assoc, string_bytes, MatchResult, IfErr, arith}
use Rattle.std.proofs.lemmas.List.{length-map}
use Rattle.std.proofs.lemmas.List.Elements.{All-nil, All-cons, All-map}
use Rattle.yr_base.specs.Store.{Files}
use Rattle.yr_base.specs.Trace.{Entry}
use Rattle.yr_base.specs.Notes.{NotesAll, NotesSome, NotesFailure}
use Rattle.yr_base.proofs.NoteLemmas.{NotesSome-of}
use Rattle.yr_lexer.specs.declared.fault.GatherFault.{GatherFault}
use Rattle.yr_lexer.specs.declared.fault.GatherFault.TheVariants as fault
use Rattle.yr_lexer.specs.Includes.{WalkFault, Lex, Path, Cycle, Depth, TextTooLong}
use Rattle.yr_rules.specs.Rules.{PlainRules, Stored}
use Rattle.yr_rules.specs.Rules as rules
use Rattle.yr_values.specs.Names.{NamedModule}
use Rattle.yr_words.specs.Values.{Given}
use Rattle.yr_words.specs.Commands.{Source}
use Rattle.yr_outcome.specs.declared.answer.Answer.{Answer}
use Rattle.yr_outcome.specs.declared.answer.Answer.TheVariants as answer
use Rattle.yr_outcome.specs.declared.status.Status.TheVariants as status
use Rattle.yr_outcome.specs.Texts.{gather_text}
use Rattle.yr_outcome.specs.Front.{Refusal, refusal, Reading, GatheredUnit, gathered_units, names_read, with_units, rules_of}
use Rattle.yr_outcome.specs.Answers.{Setting}
use Rattle.yr_outcome.specs.Outcome.{Found, Ending, refused, after_reads, from_rules, with_rules}
use Rattle.yr_outcome.specs.Fits.{Seen}
use Rattle.yr_outcome.specs.Steps.{Endings, FitsAnswer, HasRead, HasCause, IsOfRun, IsRefusalOf}
use Rattle.yr_outcome.proofs.CallerLemmas.{refuses, FitsAnswer-after_reads}
use Rattle.yr_rules.specs.Wellformed.{IsShortWord}
use Rattle.yr_syntax.specs.Declaration.{declarations_of}
use Rattle.yr_syntax.specs.Forms.{HaveForms}
use Rattle.yr_checks.specs.declared.unit.Unit.{Unit as UnitRow}
use Rattle.yr_checks.specs.Sources.{unit_of}
use Rattle.yr_checks.specs.Resolving.{IsUnit, AreUnits}
use Rattle.yr_words.specs.declared.command.Source.{Source as SourceRow}
use Rattle.yr_words.specs.Shown.{source_shown}
use Rattle.yr_front.specs.declared.unit.SourceUnit.{SourceUnit}
use Rattle.yr_front.specs.Units.{IsRulesAnswer, AreGathered, FitsUngathered, IsUngatheredAnswer, RefusesAs, RefusedBy}

-- more reads that might follow
more-failure : (old new : Option (List Entry)) (names more : List (List ℕ)) (name : List ℕ) → NotesFailure old new names name → NotesFailure old new (names ++ more) name
more-failure old new names more name f = record {
  done = f.done;
  rest = f.rest ++ more;
  whole = ap (λ l. l ++ more) f.whole ∙ append_assoc f.done (name ∷ f.rest) more;
  added = f.added;
}

more-some : (old new : Option (List Entry)) (names more : List (List ℕ)) → NotesSome old new names → NotesSome old new (names ++ more)
more-some old new names more f = record {
  done = f.done;
  rest = f.rest ++ more;
  whole = ap (λ l. l ++ more) f.whole ∙ append_assoc f.done f.rest more;
  added = f.added;
}

module _ (setting : Setting) (reading : Reading) (files : Files) (sources : List Source) (givens : List Given) where
  abbrev names : List (List ℕ)
  names = names_read reading setting.modules files sources

  abbrev front : Result PlainRules Refusal
  front = rules_of reading setting.modules files sources givens

  module _ (next : Found → PlainRules → Ending) where
    abbrev ends : Endings
    ends = λ found. with_rules setting reading found files sources givens (next found)

    -- the walk is this refusal
    walk-refused : (r : Refusal) → front ≡ Err r → (found : Found) → ends found ≡ after_reads names (refused files r)
    walk-refused r e found = ap (λ answer. after_reads names (from_rules setting reading found files answer (next found))) e

    module _ (old new : Seen) (told : old.files ≡ Some files) where
      -- all reads were noted, and then the rules were refused
      pub fits_refusal : (a : Answer) → RefusesAs front a → HasRead names old new → FitsAnswer setting ends a old new
      fits_refusal (answer.Refused s text) h has =
          refuses setting files names ends status.Rules text.items (answer.Refused s text) old new tt (h.0, refl) told has (walk-refused (refusal status.Rules text.items) h.1)
      fits_refusal answer.NoMemory h has = λ found. record {
        written = has.out;
        files = has.files;
        noted = NotesSome-of old.trace new.trace names _ _ has.noted refl;
      }
      fits_refusal answer.Done h has = absurd h
      fits_refusal (answer.Unread name) h has = absurd h
      fits_refusal (answer.UnreadFile name) h has = absurd h
      fits_refusal (answer.Unwritten output) h has = absurd h

      module _ (same : new.files ≡ old.files) (out : new.out ≡ old.out) where
        -- files that could not be gathered
        ungathered : (why : WalkFault) (a : Answer) → with_units reading setting.modules givens (Err why) ≡ Err (refusal status.Rules (gather_text why))
            → gathered_units reading setting.modules files sources ≡ Err why → NotesAll old.trace new.trace names
            → IsRefusalOf status.Rules (gather_text why) a → FitsAnswer setting ends a old new
        ungathered why a is e noted told_text =
            refuses setting files names ends status.Rules (gather_text why) a old new tt told_text told (record { files = same; out = out; noted = noted })
            (walk-refused (refusal status.Rules (gather_text why)) (ap (with_units reading setting.modules givens) e ∙ is))

        pub fits_ungathered : (why : GatherFault) (a : Answer) → FitsUngathered reading setting.modules files sources why old.trace new.trace
            → IsUngatheredAnswer why a → FitsAnswer setting ends a old new
        fits_ungathered (fault.Lex file why) a h is = ungathered (Lex (string_bytes file) why) a refl h.0 h.1 is
        fits_ungathered (fault.Path file n) a h is = ungathered (Path (string_bytes file) n) a refl h.0 h.1 is
        fits_ungathered (fault.Cycle file n name) a h is = ungathered (Cycle (string_bytes file) n (string_bytes name)) a refl h.0 h.1 is
        fits_ungathered (fault.Depth file n name) a h is = ungathered (Depth (string_bytes file) n (string_bytes name)) a refl h.0 h.1 is
        fits_ungathered (fault.TextTooLong name) a h is = ungathered (TextTooLong (string_bytes name)) a refl h.0 h.1 is
        fits_ungathered (fault.Read name) a h is = subst (λ a. FitsAnswer setting ends a old new) (sym is) (λ found. record {
          written = out;
          files = same;
          noted = more-failure old.trace new.trace names _ (string_bytes name) h;
        })
        fits_ungathered fault.NoMemory a h is = subst (λ a. FitsAnswer setting ends a old new) (sym is) (λ found. record {
          written = out;
          files = same;
          noted = more-some old.trace new.trace names _ h;
        })

  -- what is promised of the front
  abbrev FitsFront : Result Stored Answer → Seen → Seen → Type 0
  FitsFront r old new = MatchResult r
      (λ checked. (front ≡ Ok (rules.rules_of checked)) × HasRead names old new)
      (λ a. (next : Found → PlainRules → Ending) → FitsAnswer setting (ends next) a old new)

  -- gathered files, checked or refused
  pub fits_gathered : (old new : Seen) (told : old.files ≡ Some files) → new.files ≡ old.files → new.out ≡ old.out
      → (units : List GatheredUnit) → AreGathered reading setting.modules files sources units old.trace new.trace → (r : Result Stored Answer)
      → MatchResult r (λ checked. with_units reading setting.modules givens (Ok units) ≡ Ok (rules.rules_of checked))
      (RefusesAs (with_units reading setting.modules givens (Ok units))) → FitsFront r old new
  fits_gathered old new told same out units g (Ok checked) h =
      (ap (with_units reading setting.modules givens) g.gathered ∙ h, record { files = same; out = out; noted = g.noted })
  fits_gathered old new told same out units g (Err a) h = λ next.
      fits_refusal next old new told a (subst (λ (r : Result PlainRules Refusal). RefusesAs r a) (sym (ap (with_units reading setting.modules givens) g.gathered)) h)
      (record { files = same; out = out; noted = g.noted })

-- a refusal with this text
by-text : (r : Result PlainRules Refusal) (text : List ℕ) (a : Answer) → r ≡ Err (refusal status.Rules text) → IsRefusalOf status.Rules text a → RefusedBy r a
by-text r text (answer.Refused t said) e h = e ∙ (λ i. Err (refusal (sym h.0 i) (sym h.1 i)))
by-text r text answer.NoMemory e h = tt
by-text r text answer.Done e h = tt
by-text r text (answer.Unread name) e h = tt
by-text r text (answer.UnreadFile name) e h = tt
by-text r text (answer.Unwritten output) e h = tt

-- the same for what the checks and the grammar refuse
by-checks : (r : Result PlainRules Refusal) (a : Answer) → RefusesAs r a → RefusedBy r a
by-checks r (answer.Refused s text) h = h.1 ∙ ap (λ s. Err (refusal s text.items)) (sym h.0)
by-checks r answer.NoMemory h = tt
by-checks r answer.Done h = tt
by-checks r (answer.Unread name) h = tt
by-checks r (answer.UnreadFile name) h = tt
by-checks r (answer.Unwritten output) h = tt

module _ (reading : Reading) (modules : List NamedModule) (files : Files) (sources : List Source) (givens : List Given) where
  abbrev refusable : Result PlainRules Refusal
  refusable = rules_of reading modules files sources givens

  pub refused_gathered : (old new : Option (List Entry)) (units : List GatheredUnit) → AreGathered reading modules files sources units old new → (r : Result Stored Answer)
      → MatchResult r (λ checked. with_units reading modules givens (Ok units) ≡ Ok (rules.rules_of checked)) (RefusesAs (with_units reading modules givens (Ok units)))
      → IfErr r (RefusedBy refusable)
  refused_gathered old new units g (Ok checked) h = tt
  refused_gathered old new units g (Err a) h =
      subst (λ (r : Result PlainRules Refusal). RefusedBy r a) (sym (ap (with_units reading modules givens) g.gathered)) (by-checks _ a h)

  -- what gathering refuses
  pub refused_fault : (why : GatherFault) (a : Answer) (old new : Option (List Entry)) → FitsUngathered reading modules files sources why old new
      → IsUngatheredAnswer why a → RefusedBy refusable a
  refused_fault (fault.Lex file why) a old new h is = by-text refusable _ a (ap (with_units reading modules givens) h.0) is
  refused_fault (fault.Path file n) a old new h is = by-text refusable _ a (ap (with_units reading modules givens) h.0) is
  refused_fault (fault.Cycle file n name) a old new h is = by-text refusable _ a (ap (with_units reading modules givens) h.0) is
  refused_fault (fault.Depth file n name) a old new h is = by-text refusable _ a (ap (with_units reading modules givens) h.0) is
  refused_fault (fault.TextTooLong name) a old new h is = by-text refusable _ a (ap (with_units reading modules givens) h.0) is
  refused_fault (fault.Read name) a old new h is = subst (RefusedBy refusable) (sym is) tt
  refused_fault fault.NoMemory a old new h is = subst (RefusedBy refusable) (sym is) tt

-- rules were found, and the walk goes on with them
pub after_front : (setting : Setting) (reading : Reading) (files : Files) (sources : List Source) (givens : List Given) (next : Found → PlainRules → Ending) (checked : PlainRules)
    (a : Answer) (old mid new : Seen) → rules_of reading setting.modules files sources givens ≡ Ok checked
    → HasRead (names_read reading setting.modules files sources) old mid → FitsAnswer setting (λ found. next found checked) a mid new
    → FitsAnswer setting (λ found. with_rules setting reading found files sources givens (next found)) a old new
after_front setting reading files sources givens next checked a old mid new e has h =
    subst (λ (r : Result PlainRules Refusal). FitsAnswer setting (λ found. after_reads (names_read reading setting.modules files sources) (from_rules setting reading found files r (next found))) a old new)
    (sym e) (FitsAnswer-after_reads (names_read reading setting.modules files sources) old mid new has setting (λ found. next found checked) a h)

-- the units of parsed rule files
are-units : (trees : List UnitRow) → All IsShortWord (map (λ u. u.namespace.items) trees) → All (λ u. HaveForms (declarations_of u.decls)) trees → All IsUnit (map unit_of trees)
are-units [] spaces forms = All-nil IsUnit
are-units (u ∷ us) spaces forms = All-cons IsUnit (unit_of u) (map unit_of us) (spaces zero [] (omega arith), forms zero u (omega arith))
    (are-units us (λ k d below. spaces (suc k) d (omega (arith, below))) (λ k d below. forms (suc k) d (omega (arith, below))))

pub units-fit : (trees all : List UnitRow) (gathered : List SourceUnit) → all ≡ trees → map (λ u. u.namespace.items) trees ≡ map (λ u. u.space.now) gathered
    → length gathered ≤ 16 → All IsShortWord (map (λ u. u.space.now) gathered) → All (λ u. HaveForms (declarations_of u.decls)) trees → AreUnits (map unit_of all)
units-fit trees all gathered same spaces few words forms =
    let count = length-map trees unit_of in
    let names = sym (length-map trees (λ (u : UnitRow). u.namespace.items)) ∙ ap length spaces ∙ length-map gathered (λ (u : SourceUnit). u.space.now) in
    subst (λ (l : List UnitRow). AreUnits (map unit_of l)) (sym same)
    (omega (arith, count, names, few), are-units trees (subst (All IsShortWord) (sym spaces) words) forms)

-- the namespaces of gathered rule files
shown-spaces : (sources : List SourceRow) → map (λ s. s.space) (map source_shown sources) ≡ map (λ s. s.space.now) sources
shown-spaces [] = refl
shown-spaces (s ∷ ss) = ap (λ l. s.space.now ∷ l) (shown-spaces ss)

pub spaces-fit : (sources : List SourceRow) (gathered all : List SourceUnit) → all ≡ gathered → map (λ u. u.space.now) gathered ≡ map (λ s. s.space.now) sources
    → All (λ s. IsShortWord s.space) (map source_shown sources) → All IsShortWord (map (λ u. u.space.now) all)
spaces-fit sources gathered all same spaces words =
    subst (All IsShortWord) (sym (ap (map (λ (u : SourceUnit). u.space.now)) same ∙ spaces ∙ sym (shown-spaces sources)))
    (All-map IsShortWord (λ (s : Source). s.space) (map source_shown sources) words)

-- the causes of an answer that only rules have
rules-cause : (output : Option (List ℕ)) (a : Answer) (s t o p : ℕ) → IsRulesAnswer a → HasCause output a s t o p
rules-cause output (answer.Refused status text) s t o p h = subst IsOfRun (sym h) tt
rules-cause output answer.NoMemory s t o p h = tt
rules-cause output answer.Done s t o p h = absurd h
rules-cause output (answer.Unread name) s t o p h = absurd h
rules-cause output (answer.UnreadFile name) s t o p h = absurd h
rules-cause output (answer.Unwritten to) s t o p h = absurd h

pub causes : (r : Result Stored Answer) → IfErr r IsRulesAnswer → (output : Option (List ℕ)) (s t o p : ℕ) → IfErr r (λ a. HasCause output a s t o p)
causes (Ok checked) h output s t o p = tt
causes (Err a) h output s t o p = rules-cause output a s t o p h
