-- From what a scan found and what was put, to the answer that the walk has.
use Rattle.std.proofs.Common.{◌≡◌, ℕ, ◌+◌, ◌≤◌, take, Bool, true, false, cond, List, [], ◌∷◌, ◌++◌, length, map, Option, Some, None, All, refl, sym, ap, ap₂, ◌∙◌, subst, arith, append_assoc}
use Rattle.std.specs.Prelude.{nat_le, Result, Ok, Err, IfOk}
use Rattle.std.proofs.Math.Path.{fun_ext}
use Rattle.yr_base.specs.Store.{Files}
use Rattle.yr_base.specs.Told.{told_more, AddsPrefix, told_more-nil}
use Rattle.yr_base.specs.Trace.{Entry}
use Rattle.yr_base.specs.Bytes.{AreBytes}
use Rattle.yr_values.specs.Values.{Value}
use Rattle.yr_answer.specs.MatchList.{Match}
use Rattle.yr_answer.specs.declared.options.ReportOptions.{ReportOptions}
use Rattle.yr_rules.specs.Rules.{PlainRules, PlainExternal}
use Rattle.yr_meaning.specs.Scan.{ModuleValues, scan_report}
use Rattle.yr_image.specs.Reading.{image_in}
use Rattle.yr_machine.specs.Listing.{image_report}
use Rattle.yr_machine.specs.Wellformed.{IsAnswer, IsFirstFault, IsWellformed}
use Rattle.yr_machine.proofs.FaultLemmas.{one_fault}
use Rattle.yr_image.specs.Sections.{most_bytes}
use Rattle.yr_image.specs.declared.fault.ImageFault.{ImageFault}
use Rattle.yr_preserves.specs.Preserves.{target_limit, IsTarget, IsGivenValue, externals_in}
use Rattle.yr_preserves.specs.Shape.{IsCompiled}
use Rattle.yr_preserves.specs.ImageReport.{IsImageReport}
use Rattle.yr_words.specs.Commands.{Flags, ScanImage}
use Rattle.yr_words.specs.Values.{Given}
use Rattle.yr_outcome.specs.declared.answer.Answer.{Answer}
use Rattle.yr_outcome.specs.declared.answer.Answer.TheVariants as answer
use Rattle.yr_outcome.specs.declared.status.Status.TheVariants as status
use Rattle.yr_outcome.specs.Answers.{Setting, options_of, hits_line, own_values}
use Rattle.yr_outcome.specs.Externals.{values_with}
use Rattle.yr_outcome.specs.Fits.{Seen, seen, Follows, FailsWrite, LeavesOutput, Stops}
use Rattle.yr_outcome.specs.Outcome.{Outcome, Found, Ending, Claim, Holds, ReportedBy, CompiledHits, Free, shown, on_target, after_reads, if_stats, refused, run, with_image, with_verified}
use Rattle.yr_outcome.specs.Front.{Reading, refusal}
use Rattle.yr_outcome.specs.Texts.{too_long}
use Rattle.yr_outcome.specs.Steps.{Endings, Ends, FitsAnswer, HasRead}
use Rattle.yr_outcome.proofs.CallerLemmas.{FitsAnswer-after_reads}
use Rattle.yr_scan.specs.Scanned.{IsScan, module_values}
use Rattle.yr_scan.specs.Reported.{PutsAll, SomeReport, IsReportAnswer, GivesReports}
use Rattle.yr_scan.proofs.FitLemmas.{kinds_of_own}

module _ (image file : List ℕ) (values : List Value) (flags : Flags) (target : List ℕ) (lists : List (List Match)) (hits : ℕ) (truths : List Bool)
    (scan : IsScan image file values lists hits truths) where
  abbrev text : List ℕ
  text = image_report (image_in image) truths lists (options_of flags) target

  is_report : IsImageReport (module_values file) image file values (options_of flags) target text hits
  is_report = record {
    scan = scan.scan;
    report = ap (λ t. image_report (image_in image) t lists (options_of flags) target) scan.truths_are
        ∙ ap (λ l. image_report (image_in image) scan.scan.truths l (options_of flags) target) scan.lists_are;
    hits = scan.hits_are;
  }

  -- what was put is the report, and the line of hits
  pub reported : (a : Answer) (old new : Option (List ℕ)) → PutsAll text (hits_line flags hits) a old new → IsReportAnswer (module_values file) image file values flags target a old new
  reported answer.Done old new p = record { text = text; hits = hits; report = is_report; has = p }
  reported (answer.Unwritten None) old new p = record { text = text; hits = hits; report = is_report; has = p }
  reported (answer.Unwritten (Some name)) old new p = absurd p
  reported (answer.Refused s said) old new p = absurd p
  reported (answer.Unread name) old new p = absurd p
  reported (answer.UnreadFile name) old new p = absurd p
  reported answer.NoMemory old new p = absurd p

module _ (setting : Setting) (files : Files) (image file : List ℕ) (values : List Value) (flags : Flags) (target : List ℕ)
    (ending : Found → List ℕ → Ending) (gives : GivesReports setting files image values flags target ending) (is : IsTarget file)
    (told : Option Files) (there : told ≡ Some files) (trace : Option (List Entry)) (old new : Option (List ℕ)) where
  -- the answer of a report, as that of the walk
  pub fits_report : (a : Answer) → IsReportAnswer (module_values file) image file values flags target a old new
      → FitsAnswer setting (λ found. ending found file) a (seen told trace old) (seen told trace new)
  fits_report answer.Done h =
      let g = gives file is h.text h.hits h.report in
      record {
        found = g.0;
        holds = subst (λ (e : Ending). Holds setting g.0 e.claim) (sym g.2) g.3;
        status = ap (λ (e : Ending). e.outcome.status) (sym g.2);
        said = ap (λ (e : Ending). e.outcome.said) (sym g.2);
        follows = subst (λ (e : Ending). Follows e.outcome (seen told trace old) (seen told trace new)) (sym g.2)
            (record { written = h.has; files = there; noted = sym (told_more-nil trace) });
      }
  fits_report (answer.Unwritten None) h =
      let g = gives file is h.text h.hits h.report in
      record {
        found = g.0;
        holds = subst (λ (e : Ending). Holds setting g.0 e.claim) (sym g.2) g.3;
        whole = ap (λ (e : Ending). e.outcome.status) g.2;
        output_is = ap (λ (e : Ending). e.outcome.output) (sym g.2);
        fails = subst (λ (e : Ending). FailsWrite e.outcome e.outcome.output (seen told trace old) (seen told trace new)) (sym g.2)
            (record { written = h.has; files = refl; noted = sym (told_more-nil trace) });
      }
  fits_report answer.NoMemory h = λ found. record {
    written = h;
    files = refl;
    noted = record { done = []; rest = (ending found file).outcome.reads; whole = refl; added = sym (told_more-nil trace) };
  }
  fits_report (answer.Unwritten (Some name)) h = absurd h
  fits_report (answer.Refused s said) h = absurd h
  fits_report (answer.Unread name) h = absurd h
  fits_report (answer.UnreadFile name) h = absurd h

-- a target that is not too long
pub on_target-short : (files : Files) (target : List ℕ) (next : List ℕ → Ending) (content : Option (List ℕ)) (file : List ℕ) → content ≡ Some file → length file ≤ 268435456
    → on_target files target next content ≡ next file
on_target-short files target next content file there short =
    let fits : nat_le (length file) target_limit ≡ true = grind (arith, short) in
    ap (on_target files target next) there ∙ ap (λ b. cond b (next file) (refused files (refusal status.LongTarget (too_long target)))) fits

-- what follows the read of a target
pub behind_target : (setting : Setting) (files : Files) (target : List ℕ) (ending : Found → List ℕ → Ending) (file : List ℕ) → files target ≡ Some file → length file ≤ 268435456
    → (a : Answer) (old new : Seen) → FitsAnswer setting (λ found. after_reads (target ∷ []) (ending found file)) a old new
    → FitsAnswer setting (λ found. after_reads (target ∷ []) (on_target files target (ending found) (files target))) a old new
behind_target setting files target ending file there short a old new h =
    let same : (λ (found : Found). after_reads (target ∷ []) (ending found file)) ≡ (λ (found : Found). after_reads (target ∷ []) (on_target files target (ending found) (files target))) =
    fun_ext (λ found. ap (after_reads (target ∷ [])) (sym (on_target-short files target (ending found) (files target) file there short))) in
    subst (λ (e : Endings). FitsAnswer setting e a old new) same h

-- a report of the image is one that the walk of a scan by this image has
pub gives_by_image : (setting : Setting) → setting.values ≡ module_values → (files : Files) (image : List ℕ) (values : List Value) (flags : Flags) (target : List ℕ)
    → GivesReports setting files image values flags target (λ found file. shown files (found.report ++ hits_line flags found.hits) (ReportedBy image file values (options_of flags) target))
gives_by_image setting same files image values flags target file is text hits report = (
  record { image = []; report = text; hits = hits },
  ReportedBy image file values (options_of flags) target,
  refl,
  subst (λ (m : List ℕ → ModuleValues). IsImageReport (m file) image file values (options_of flags) target text hits) (sym same) report,
)

holds_stats : (setting : Setting) (found : Found) (c : Claim) (b : Bool) → Holds setting found c → Holds setting found (cond b c Free)
holds_stats setting found c true h = h
holds_stats setting found c false h = tt

-- and a report of an image to which rules were compiled is the rules' report
pub gives_by_rules : (setting : Setting) → setting.values ≡ module_values → (files : Files) (image : List ℕ) (rules : PlainRules) → IsCompiled module_values image rules
    → (values : List Value) → values ≡ values_with [] (externals_in image) → All IsGivenValue values → (flags : Flags) (target : List ℕ)
    → GivesReports setting files image values flags target (λ found file. shown files
    (scan_report (setting.values file) rules (own_values rules.externals) file (options_of flags) target ++ hits_line flags found.hits)
    (if_stats flags (CompiledHits rules file)))
gives_by_rules setting same files image rules compiled values are given flags target file is text hits report =
    let own : values ≡ own_values rules.externals = are ∙ ap own_values compiled.preserves.externals in
    let given_own : All IsGivenValue (own_values rules.externals) = subst (λ (v : List Value). All IsGivenValue v) own given in
    let at_own : IsImageReport (module_values file) image file (own_values rules.externals) (options_of flags) target text hits =
    subst (λ (v : List Value). IsImageReport (module_values file) image file v (options_of flags) target text hits) own report in
    let reads : text ≡ scan_report (module_values file) rules (own_values rules.externals) file (options_of flags) target =
    (compiled.preserves.reports file is (own_values rules.externals) (record { given = given_own; kinds = kinds_of_own rules.externals }) (options_of flags) target text).0 (hits, at_own) in
    let here : text ≡ scan_report (setting.values file) rules (own_values rules.externals) file (options_of flags) target =
    reads ∙ ap (λ (m : List ℕ → ModuleValues). scan_report (m file) rules (own_values rules.externals) file (options_of flags) target) (sym same) in
    let found : Found = record { image = image; report = []; hits = hits } in
    let holds : Holds setting found (CompiledHits rules file) =
    subst (λ (m : List ℕ → ModuleValues). Holds (record { modules = setting.modules; values = m }) found (CompiledHits rules file)) (sym same) (compiled, (at_own.scan, at_own.hits)) in (
      found,
      if_stats flags (CompiledHits rules file),
      ap (λ t. shown files (t ++ hits_line flags hits) (if_stats flags (CompiledHits rules file))) (sym here),
      holds_stats setting found (CompiledHits rules file) flags.stats holds,
    )

-- a prefix of the first part
pub AddsPrefix-front : (old new : Option (List ℕ)) (first last : List ℕ) → AddsPrefix old new first → AddsPrefix old new (first ++ last)
AddsPrefix-front old new first last h = record {
  taken = h.taken;
  rest = h.rest ++ last;
  whole = ap (λ l. l ++ last) h.whole ∙ append_assoc h.taken h.rest last;
  added = h.added;
}

-- nothing was done
pub stops_now : (o : Outcome) (s : Seen) → Stops o s s
stops_now o s = record {
  written = refl;
  files = refl;
  noted = record { done = []; rest = o.reads; whole = refl; added = sym (told_more-nil s.trace) };
}

pub reads_none : (s : Seen) → HasRead [] s s
reads_none s = record { files = refl; out = refl; noted = sym (told_more-nil s.trace) }

-- what a reading says of bytes that are wellformed, or not
pub verified_none : (bytes : List ℕ) (o : Option ImageFault) → IsAnswer bytes o → IsWellformed bytes → o ≡ None
verified_none bytes None h passes = refl
verified_none bytes (Some f) h passes = absurd (h.fails (passes f))

pub verified_some : (bytes : List ℕ) (o : Option ImageFault) (f : ImageFault) → IsAnswer bytes o → IsFirstFault bytes f → o ≡ Some f
verified_some bytes None f h first = absurd (first.fails (h f))
verified_some bytes (Some g) f h first = ap Some (one_fault bytes g f h first)

-- what follows the read of an image
pub behind_image : (setting : Setting) (reading : Reading) (files : Files) (flags : Flags) (name target : List ℕ) (givens : List Given) (bytes whole : List ℕ)
    → files name ≡ Some whole → take (most_bytes + 1) whole ≡ bytes → (a : Answer) (old mid new : Seen) → HasRead (name ∷ []) old mid
    → FitsAnswer setting (λ found. with_verified setting reading found files flags name target bytes givens (reading.verified bytes)) a mid new
    → FitsAnswer setting (λ found. run setting reading found files (ScanImage flags name target givens)) a old new
behind_image setting reading files flags name target givens bytes whole there cut a old mid new has h =
    let later = FitsAnswer-after_reads (name ∷ []) old mid new has setting (λ found. with_verified setting reading found files flags name target bytes givens (reading.verified bytes)) a h in
    let same : (λ (found : Found). after_reads (name ∷ []) (with_verified setting reading found files flags name target bytes givens (reading.verified bytes)))
    ≡ (λ (found : Found). run setting reading found files (ScanImage flags name target givens)) =
    fun_ext (λ found. sym (ap (λ o. after_reads (name ∷ []) (with_image setting reading found files flags name target givens o)) there
    ∙ ap (λ b. after_reads (name ∷ []) (with_verified setting reading found files flags name target b givens (reading.verified b))) cut)) in
    subst (λ (e : Endings). FitsAnswer setting e a old new) same later

pub if_ok_same : {A E : Type 0} (C : Type 0) (r : Result A E) → C → IfOk r (λ (x : A). C)
if_ok_same C (Ok x) c = c
if_ok_same C (Err e) c = tt
