-- Search and evaluation together are what an image finds in a file.
use Rattle.std.proofs.Common.{◌≡◌, ℕ, ℤ, ◌*◌, ◌/◌, ◌==◌, ◌↔◌, Bool, true, false, IsTrue, if◌then◌else◌, List, ◌++◌, length, take, drop, refl, sym, ap, ◌∙◌, subst, arith}
use Rattle.std.proofs.lemmas.List.{length-map}
use Rattle.std.proofs.Math.Seq.{take-append_seam}
use Rattle.yr_base.specs.declared.value.Truth.{Truth}
use Rattle.yr_rows.proofs.RowLemmas.{length-rows_in}
use Rattle.yr_values.specs.Values.{Value, Undefined}
use Rattle.yr_answer.specs.Truths.{truths_shown, is_yes}
use Rattle.yr_answer.specs.MatchList.{Match}
use Rattle.yr_image.specs.Image.{Image}
use Rattle.yr_image.specs.Reading.{image_in, rule_row}
use Rattle.yr_image.specs.Sections.{HasSections, version_in, rule_width, rows_of, bytes_of}
use Rattle.yr_machine.specs.Hits.{hit_count}
use Rattle.yr_machine.specs.ImageRun.{Occurs, FitModules}
use Rattle.yr_modules.specs.Elf.Fields.{elf_field}
use Rattle.yr_modules.specs.Hash.Digests.{digest_with, digest_or}
use Rattle.yr_modules.specs.Pe.Fields.{field_with, field_or}
use Rattle.yr_modules.specs.Joined.{module_field, module_call}
use Rattle.yr_modules.proofs.FitLemmas.{modules-fit}
use Rattle.yr_machine.specs.Operations.{Context}
use Rattle.yr_answer.specs.Found.{Found}
use Rattle.yr_search.specs.FoundIn.{IsFoundIn}
use Rattle.yr_hits.proofs.SectionLemmas.{section_bytes}
use Rattle.yr_vm.specs.Evaluation.{IsEvaluation, IsContextOf}
use Rattle.yr_scan.specs.Scanned.{IsScanWith}

-- rows of either width
by_width : (b : Bool) (rows count size : ℕ) → size ≡ rows * (if b then 32 else 40) → count ≡ size / (if b then 32 else 40) → count ≡ rows
by_width true rows count size bytes divided = omega (arith, bytes, divided)
by_width false rows count size bytes divided = omega (arith, bytes, divided)

pub rule_rows : (bytes : List ℕ) → HasSections bytes → length (image_in bytes).rules ≡ rows_of bytes 0
rule_rows bytes has =
    by_width (version_in bytes == 1) (rows_of bytes 0) (length (image_in bytes).rules) (length (bytes_of bytes 0))
    (section_bytes bytes 0 has (omega arith))
    (length-rows_in (rule_width (version_in bytes)) (rule_row (version_in bytes)) (bytes_of bytes 0))

-- programs are known
abbrev Known : Type 0
Known = (image : Image) → (occurs : ℕ → List ℕ → Bool) × ((k : ℕ) (text : List ℕ) → IsTrue (occurs k text) ↔ Occurs image k text)

module _ (known : Known) (fields : ℕ → ℤ → Value) (calls : ℕ → ℤ → ℤ → Value) (bytes file : List ℕ) (values : List Value) where
  -- what the machine sees of an image, a file, match lists and values
  abbrev scene : List (List Match) → Context
  scene lists = record {
    image = image_in bytes;
    file = file;
    lists = lists;
    externals = values;
    fields = fields;
    calls = calls;
    occurs = (known (image_in bytes)).0;
  }

  scene-is : (lists : List (List Match)) → IsContextOf (image_in bytes) file lists values fields calls (scene lists)
  scene-is lists = record {
    same_image = refl;
    same_file = refl;
    same_lists = refl;
    same_externals = refl;
    same_fields = refl;
    same_calls = refl;
    programs = (known (image_in bytes)).1;
  }

  -- hits and lists of a search, truths of an evaluation
  pub is_scan : (found : Found) (truths : List Bool) (before now : ℕ) → IsFoundIn (image_in bytes) file found
      → ((context : Context) → IsContextOf (image_in bytes) file found.lists values fields calls context → IsEvaluation context truths before now)
      → IsScanWith fields calls bytes file values found.lists found.hits truths
  is_scan found truths before now search evaluation = record {
    scan = record {
      context = scene found.lists;
      hits = search.hits;
      truths = truths;
      image = refl;
      file_is = refl;
      externals = refl;
      fields = refl;
      calls = refl;
      run = record {
        programs = (known (image_in bytes)).1;
        hits_are = search.are;
        lists_are = search.lists;
        truths_are = (evaluation (scene found.lists) (scene-is found.lists)).truths_are;
      };
    };
    lists_are = refl;
    hits_are = search.counted;
    truths_are = refl;
  }

  -- results that lie in a longer buffer
  pub scanned : (found : Found) (results items : List Truth) (len before now : ℕ) → IsFoundIn (image_in bytes) file found
      → ((context : Context) → IsContextOf (image_in bytes) file found.lists values fields calls context → IsEvaluation context (truths_shown results) before now)
      → length items ≡ length (image_in bytes).rules → len ≡ length items
      → IsScanWith fields calls bytes file values found.lists found.hits (truths_shown (take len (results ++ drop (length results) items)))
  scanned found results items len before now search evaluation rules long =
      let count = (evaluation (scene found.lists) (scene-is found.lists)).truths_are.count in
      let shown_long = length-map results is_yes in
      let same : len ≡ length results = omega (arith, count, shown_long, rules, long) in
      let whole : take len (results ++ drop (length results) items) ≡ results =
      ap (λ n. take n (results ++ drop (length results) items)) same ∙ take-append_seam results (drop (length results) items) in
      subst (λ (t : List Truth). IsScanWith fields calls bytes file values found.lists found.hits (truths_shown t)) (sym whole)
      (is_scan found (truths_shown results) before now search evaluation)

-- the values of modules that keep what they are of apart
abbrev joined_field : (f e : List ℕ) → ℕ → ℤ → Value
joined_field f e id index = field_or (field_with id) f index (elf_field e id index)

abbrev joined_call : List ℕ → ℕ → ℤ → ℤ → Value
joined_call h id from size = digest_or (digest_with id) h from size Undefined

module _ (file f e h : List ℕ) (same_f : f ≡ file) (same_e : e ≡ file) (same_h : h ≡ file) where
  pub from_joined : (P : (ℕ → ℤ → Value) → (ℕ → ℤ → ℤ → Value) → Type 0) → P (joined_field f e) (joined_call h) → P (module_field file) (module_call file)
  from_joined P p =
      subst (λ (g : List ℕ). P (joined_field g file) (module_call file)) same_f
      (subst (λ (g : List ℕ). P (joined_field f g) (module_call file)) same_e
      (subst (λ (g : List ℕ). P (joined_field f e) (joined_call g)) same_h p))

  pub joined_fit : FitModules file (joined_field f e) (joined_call h)
  joined_fit =
      subst (λ (g : List ℕ). FitModules file (joined_field g e) (joined_call h)) (sym same_f)
      (subst (λ (g : List ℕ). FitModules file (joined_field file g) (joined_call h)) (sym same_e)
      (subst (λ (g : List ℕ). FitModules file (joined_field file file) (joined_call g)) (sym same_h) (modules-fit file)))
