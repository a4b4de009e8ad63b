-- Gathering rule file after rule file.
use Rattle.std.proofs.Common.{◌≡◌, ℕ, Bool, List, [], ◌∷◌, ◌++◌, map, Option, Result, Ok, Err, refl, sym, ap, ◌∙◌, append_assoc, append-nil, string_bytes, if◌then◌else◌}
use Rattle.std.proofs.lemmas.List.{map-append}
use Rattle.yr_base.specs.Store.{Files}
use Rattle.yr_base.specs.Told.{told_more, told_more-after, told_more-nil}
use Rattle.yr_base.specs.Trace.{Entry}
use Rattle.yr_base.specs.Notes.{read_noted, failure_noted, NotesAll, NotesSome, NotesFailure}
use Rattle.yr_lexer.specs.declared.fault.GatherFault.{GatherFault}
use Rattle.yr_lexer.specs.declared.fault.GatherFault.TheVariants as fault
use Rattle.yr_lexer.specs.declared.source.FileToken.{FileToken}
use Rattle.yr_lexer.specs.Sources.{Gathered}
use Rattle.yr_lexer.specs.Gathering.{FitsWalk}
use Rattle.yr_lexer.specs.Includes.{Walk, WalkFault, Lex, Path, Cycle, Depth, TextTooLong}
use Rattle.yr_values.specs.Names.{NamedModule}
use Rattle.yr_words.specs.Commands.{Source}
use Rattle.yr_outcome.specs.Front.{Reading, GatheredUnit, source_walk, gathered_unit, gathered_units, names_read, is_ok}
use Rattle.yr_front.specs.declared.unit.SourceUnit.{SourceUnit}
use Rattle.yr_front.specs.Units.{unit_shown, SoFar, AreGathered, IsUngathered, FitsUngathered, behind}
use Rattle.yr_front.proofs.EachLemmas.{behind-none, each-step, each-stop, each-end}

-- one more gathered rule file
pub units-more : (old new : List SourceUnit) (u : SourceUnit) (space : List ℕ) → new ≡ old ++ u ∷ [] → u.space.now ≡ space
    → map unit_shown new ≡ map unit_shown old ++ record { space = space; gathered = u.tokens } ∷ []
units-more old new u space e f =
    ap (map unit_shown) e ∙ map-append unit_shown old (u ∷ []) ∙ (λ i. map unit_shown old ++ record { space = f i; gathered = u.tokens } ∷ [])

module _ (reading : Reading) (modules : List NamedModule) (files : Files) where
  -- a walk that gathered its tokens, and one that did not
  unit-ok : (space : List ℕ) (walk : Walk) (g : Gathered) → walk.answer ≡ Ok g.tokens → walk.after.files ≡ g.files
      → gathered_unit reading modules space walk ≡ Ok (record { space = space; gathered = g })
  unit-ok space walk g a f = λ i. gathered_unit reading modules space (record { answer = a i; after = record { files = f i; reads = walk.after.reads } })

  unit-err : (space : List ℕ) (walk : Walk) (why : WalkFault) → walk.answer ≡ Err why → gathered_unit reading modules space walk ≡ Err why
  unit-err space walk why a = λ i. gathered_unit reading modules space (record { answer = a i; after = walk.after })

  -- what each rule file gives
  abbrev gives : Source → Result GatheredUnit WalkFault
  gives s = gathered_unit reading modules s.space (source_walk reading modules files s)

  -- the names read after those of the first
  abbrev later_names : Result (List FileToken) WalkFault → List Source → List (List ℕ)
  later_names answer rest = if is_ok reading modules answer then names_read reading modules files rest else []

  module _ (all : List Source) where
    -- nothing yet
    pub so_far-none : (old : Option (List Entry)) → SoFar reading modules files all all [] old old
    so_far-none old = record {
      done = [];
      gathered = behind-none (gathered_units reading modules files all);
      names = refl;
      noted = sym (told_more-nil old);
    }

    -- one more
    pub so_far-next : (s : Source) (rest : List Source) (units : List GatheredUnit) (g : Gathered) (old mid new : Option (List Entry))
        → SoFar reading modules files all (s ∷ rest) units old mid → FitsWalk (source_walk reading modules files s) (Ok g) mid new
        → SoFar reading modules files all rest (units ++ record { space = s.space; gathered = g } ∷ []) old new
    so_far-next s rest units g old mid new so fits =
        let walk = source_walk reading modules files s in
        record {
          done = so.done ++ walk.after.reads;
          gathered = so.gathered ∙ each-step gives units s (record { space = s.space; gathered = g }) rest (unit-ok s.space walk g fits.0 fits.1);
          names = so.names ∙ ap (λ a. so.done ++ (walk.after.reads ++ later_names a rest)) fits.0
              ∙ sym (append_assoc so.done walk.after.reads (names_read reading modules files rest));
          noted = told_more-after old mid new (map read_noted so.done) (map read_noted walk.after.reads) _ so.noted fits.2 (map-append read_noted so.done walk.after.reads);
        }

    -- all of them
    pub so_far-all : (units : List GatheredUnit) (old now : Option (List Entry)) → SoFar reading modules files all [] units old now
        → AreGathered reading modules files all units old now
    so_far-all units old now so = record {
      gathered = so.gathered ∙ each-end gives units;
      noted = so.noted ∙ ap (λ names. told_more old (map read_noted names)) (sym (append-nil so.done) ∙ sym so.names);
    }

    module _ (s : Source) (rest : List Source) (units : List GatheredUnit) (old mid new : Option (List Entry))
        (so : SoFar reading modules files all (s ∷ rest) units old mid) where
      abbrev walk : Walk
      walk = source_walk reading modules files s

      -- the walk over one ends with a fault
      stopped : (why : WalkFault) → walk.answer ≡ Err why → NotesAll mid new walk.after.reads → IsUngathered reading modules files all why old new
      stopped why e noted = (
        so.gathered ∙ each-stop gives units s why rest (unit-err s.space walk why e),
        told_more-after old mid new (map read_noted so.done) (map read_noted walk.after.reads) _ so.noted noted
            (ap (map read_noted) (so.names ∙ ap (λ a. so.done ++ (walk.after.reads ++ later_names a rest)) e ∙ ap (λ l. so.done ++ l) (append-nil walk.after.reads))
            ∙ map-append read_noted so.done walk.after.reads),
      )

      -- some of its reads are some of all
      parted : (front back : List (List ℕ)) → walk.after.reads ≡ front ++ back
          → names_read reading modules files all ≡ (so.done ++ front) ++ (back ++ later_names walk.answer rest)
      parted front back e =
          so.names ∙ ap (λ l. so.done ++ (l ++ later_names walk.answer rest)) e
          ∙ ap (λ l. so.done ++ l) (append_assoc front back (later_names walk.answer rest))
          ∙ sym (append_assoc so.done front (back ++ later_names walk.answer rest))

      failed : (name : List ℕ) → NotesFailure mid new walk.after.reads name → NotesFailure old new (names_read reading modules files all) name
      failed name f = record {
        done = so.done ++ f.done;
        rest = f.rest ++ later_names walk.answer rest;
        whole = parted f.done (name ∷ f.rest) f.whole;
        added = told_more-after old mid new (map read_noted so.done) (map read_noted f.done ++ failure_noted name ∷ []) _ so.noted f.added
            (ap (λ l. l ++ failure_noted name ∷ []) (map-append read_noted so.done f.done)
            ∙ append_assoc (map read_noted so.done) (map read_noted f.done) (failure_noted name ∷ []));
      }

      wanted : NotesSome mid new walk.after.reads → NotesSome old new (names_read reading modules files all)
      wanted f = record {
        done = so.done ++ f.done;
        rest = f.rest ++ later_names walk.answer rest;
        whole = parted f.done f.rest f.whole;
        added = told_more-after old mid new (map read_noted so.done) (map read_noted f.done) _ so.noted f.added (map-append read_noted so.done f.done);
      }

      -- the fault of one is that of all
      pub so_far-fault : (why : GatherFault) → FitsWalk walk (Err why) mid new → FitsUngathered reading modules files all why old new
      so_far-fault (fault.Lex file why) h = stopped (Lex (string_bytes file) why) h.0 h.1
      so_far-fault (fault.Read name) h = failed (string_bytes name) h
      so_far-fault (fault.Path file n) h = stopped (Path (string_bytes file) n) h.0 h.1
      so_far-fault (fault.Cycle file n name) h = stopped (Cycle (string_bytes file) n (string_bytes name)) h.0 h.1
      so_far-fault (fault.Depth file n name) h = stopped (Depth (string_bytes file) n (string_bytes name)) h.0 h.1
      so_far-fault (fault.TextTooLong name) h = stopped (TextTooLong (string_bytes name)) h.0 h.1
      so_far-fault fault.NoMemory h = wanted h
