-- What words lead to.
use Rattle.std.proofs.Common.{◌≡◌, ℕ, List, [], ◌∷◌, ◌++◌, map, Option, None, Some, refl, sym, ap, subst, ◌∙◌, append_assoc, codes}
use Rattle.yr_base.specs.Store.{Files}
use Rattle.yr_base.specs.Told.{told_more-nil}
use Rattle.yr_checks.specs.Resolving.{AreExternals}
use Rattle.yr_words.specs.declared.value.Given.{Given as GivenRow}
use Rattle.yr_words.specs.Commands.{Command, givens_of}
use Rattle.yr_words.specs.Shown.{given_shown}
use Rattle.yr_outcome.specs.declared.answer.Answer.{Answer}
use Rattle.yr_outcome.specs.declared.status.Status.{Status}
use Rattle.yr_outcome.specs.declared.status.Status.TheVariants as status
use Rattle.yr_outcome.specs.Texts.{external_text, bad_words}
use Rattle.yr_outcome.specs.Externals.{twice_given}
use Rattle.yr_outcome.specs.Front.{Reading, external_of, refusal}
use Rattle.yr_outcome.specs.Outcome.{with_names, with_command, refused, after_reads}
use Rattle.yr_outcome.specs.Fits.{Seen, IsSettled}
use Rattle.yr_outcome.specs.Steps.{Endings, FitsAnswer, IsRefusalOf}
use Rattle.yr_outcome.proofs.CallerLemmas.{refuses}
use Rattle.yr_commands.specs.Fitting.{FitNames}
use Rattle.yr_commands.specs.Program.{all_setting}
use Rattle.yr_commands.proofs.CommandLemmas.{are_externals}

pub externals-fit : (givens all : List GivenRow) → all ≡ givens → FitNames (map given_shown givens) → twice_given (map given_shown givens) ≡ None
    → AreExternals (map external_of (map given_shown all))
externals-fit givens all same names twice =
    subst (λ (l : List GivenRow). AreExternals (map external_of (map given_shown l))) (sym same) (are_externals (map given_shown givens) names twice)

-- a refusal before anything is read
refused-first : (files : Files) (e : Endings) (s : Status) (text : List ℕ) (a : Answer) (v : Seen) → IsSettled s → IsRefusalOf s text a → v.files ≡ Some files
    → ((found : _) → e found ≡ refused files (refusal s text)) → FitsAnswer all_setting e a v v
refused-first files e s text a v settled told is walk =
    refuses all_setting files [] e s text a v v settled told is (record { files = refl; out = refl; noted = sym (told_more-nil v.trace) }) walk

module _ (reading : Reading) (files : Files) (a : Answer) (v : Seen) (is : v.files ≡ Some files) where
  pub twice-fits : (c : Command) (name : List ℕ) → twice_given (givens_of c) ≡ Some name → IsRefusalOf status.External (external_text name (codes "Twice")) a
      → FitsAnswer all_setting (λ found. with_names all_setting reading found files c (twice_given (givens_of c))) a v v
  twice-fits c name e told =
      refused-first files (λ found. with_names all_setting reading found files c (twice_given (givens_of c))) status.External (external_text name (codes "Twice")) a v tt told is
      (λ found. ap (with_names all_setting reading found files c) e)

  pub usage-fits : (command : Option Command) → command ≡ None → IsRefusalOf status.Usage bad_words a
      → FitsAnswer all_setting (λ found. with_command all_setting reading found files command) a v v
  usage-fits command e told =
      refused-first files (λ found. with_command all_setting reading found files command) status.Usage bad_words a v tt told is
      (λ found. ap (with_command all_setting reading found files) e)

pub twice-text : (name : List ℕ) → external_text name (codes "Twice") ≡ codes "external " ++ (name ++ codes ": Twice\n")
twice-text name = ap (λ l. codes "external " ++ l) (append_assoc name (codes ": Twice") (codes "\n"))

pub some-same : {A : Type 0} (x y : A) → Some x ≡ Some y → x ≡ y
some-same x y e = cc
