-- For the functions of the program: reads before a step, and the promises of the top call from the answer of the whole walk.
use Rattle.std.proofs.Common.{◌≡◌, ◌⊎◌, inl, inr, ℕ, List, [], ◌∷◌, ◌++◌, map, Option, Some, None, refl, sym, ap, subst, ◌∙◌, append_assoc, append-nil, cond, string_bytes}
use Rattle.std.proofs.lemmas.Bool.{lt-leb}
use Rattle.std.proofs.lemmas.List.{map-append}
use Rattle.yr_base.specs.Store.{Files, IsLonger, with_file}
use Rattle.yr_base.specs.Told.{told_more, told_more-after, told_more-nil, AddsPrefix}
use Rattle.yr_base.specs.Trace.{Entry}
use Rattle.yr_base.specs.Notes.{read_noted, failure_noted}
use Rattle.yr_outcome.specs.declared.answer.Answer.{Answer}
use Rattle.yr_outcome.specs.declared.answer.Answer.TheVariants as answer
use Rattle.yr_outcome.specs.declared.status.Status.{Status}
use Rattle.yr_outcome.specs.declared.status.Status.TheVariants as status
use Rattle.yr_outcome.specs.Texts.{unwritten_to, too_long}
use Rattle.yr_outcome.specs.Front.{Reading, refusal}
use Rattle.yr_outcome.specs.Answers.{Setting}
use Rattle.yr_outcome.specs.Outcome.{Outcome, Found, Ending, Holds, IsOutcome, IsNearOutcome, refused, on_target, after_reads, ending_of}
use Rattle.yr_outcome.specs.Fits.{Seen, Outside, Said, Follows, FailsRead, FailsWrite, Stops, Settles, IsUnread, IsUnwritten, IsOutOfMemory, IsSettled, entries_of, write_of, write_failure_noted}
use Rattle.yr_outcome.specs.Examples.{nothing_found}
use Rattle.yr_outcome.specs.Complete.{CanFinish}
use Rattle.yr_outcome.specs.Steps.{Endings, Ends, FitsAnswer, HasRead, IsRefusalOf, status_of, text_of}
use Rattle.yr_outcome.proofs.FinishLemmas.{ending_done}

-- entries of reads, and then others
entries-after : (names reads : List (List ℕ)) (more : List Entry) → map read_noted (names ++ reads) ++ more ≡ map read_noted names ++ (map read_noted reads ++ more)
entries-after names reads more =
    ap (λ l. l ++ more) (map-append read_noted names reads) ∙ append_assoc (map read_noted names) (map read_noted reads) more

module _ (names : List (List ℕ)) (old mid new : Seen) (has : HasRead names old mid) where
  Follows-after : (x : Ending) → Follows x.outcome mid new → Follows (after_reads names x).outcome old new
  Follows-after x h = record {
    written = h.written ∙ ap (λ o. told_more o x.outcome.out) has.out;
    files = h.files;
    noted = told_more-after old.trace mid.trace new.trace (map read_noted names) (entries_of x.outcome) _ has.noted h.noted
        (entries-after names x.outcome.reads (write_of x.outcome.output));
  }

  FailsRead-after : (x : Ending) (name : List ℕ) → FailsRead x.outcome name mid new → FailsRead (after_reads names x).outcome name old new
  FailsRead-after x name h = record {
    written = h.written ∙ has.out;
    files = h.files ∙ has.files;
    noted = record {
      done = names ++ h.noted.done;
      rest = h.noted.rest;
      whole = ap (λ l. names ++ l) h.noted.whole ∙ sym (append_assoc names h.noted.done (name ∷ h.noted.rest));
      added = told_more-after old.trace mid.trace new.trace (map read_noted names) (map read_noted h.noted.done ++ failure_noted name ∷ []) _ has.noted h.noted.added
          (entries-after names h.noted.done (failure_noted name ∷ []));
    };
  }

  Stops-after : (x : Ending) → Stops x.outcome mid new → Stops (after_reads names x).outcome old new
  Stops-after x h = record {
    written = h.written ∙ has.out;
    files = h.files ∙ has.files;
    noted = record {
      done = names ++ h.noted.done;
      rest = h.noted.rest;
      whole = ap (λ l. names ++ l) h.noted.whole ∙ sym (append_assoc names h.noted.done h.noted.rest);
      added = told_more-after old.trace mid.trace new.trace (map read_noted names) (map read_noted h.noted.done) _ has.noted h.noted.added
          (map-append read_noted names h.noted.done);
    };
  }

  FailsWrite-after : (x : Ending) (output : Option (List ℕ)) → FailsWrite x.outcome output mid new → FailsWrite (after_reads names x).outcome output old new
  FailsWrite-after x None h = record {
    written = subst (λ o. AddsPrefix o new.out x.outcome.out) has.out h.written;
    files = h.files ∙ has.files;
    noted = told_more-after old.trace mid.trace new.trace (map read_noted names) (map read_noted x.outcome.reads) _ has.noted h.noted
        (map-append read_noted names x.outcome.reads);
  }
  FailsWrite-after x (Some name) h = record {
    written = h.written ∙ has.out;
    content = h.content;
    files = h.files ∙ ap (λ files. with_file files name h.content) has.files;
    noted = told_more-after old.trace mid.trace new.trace (map read_noted names) (map read_noted x.outcome.reads ++ write_failure_noted name ∷ []) _ has.noted h.noted
        (entries-after names x.outcome.reads (write_failure_noted name ∷ []));
  }

  Ends-after : (setting : Setting) (e : Endings) (s : Status) (text : List ℕ) → Ends setting e s text mid new → Ends setting (λ found. after_reads names (e found)) s text old new
  Ends-after setting e s text h = record {
    found = h.found;
    holds = h.holds;
    status = h.status;
    said = h.said;
    follows = Follows-after (e h.found) h.follows;
  }

  -- what follows reads of these names
  pub FitsAnswer-after_reads : (setting : Setting) (e : Endings) (a : Answer) → FitsAnswer setting e a mid new
      → FitsAnswer setting (λ found. after_reads names (e found)) a old new
  FitsAnswer-after_reads setting e answer.Done h = Ends-after setting e status.Done [] h
  FitsAnswer-after_reads setting e (answer.Refused s text) h = (h.0, Ends-after setting e s text.items h.1)
  FitsAnswer-after_reads setting e (answer.Unread name) h = λ found. FailsRead-after (e found) name.now (h found)
  FitsAnswer-after_reads setting e (answer.UnreadFile name) h = λ found. FailsRead-after (e found) (string_bytes name) (h found)
  FitsAnswer-after_reads setting e (answer.Unwritten output) h = record {
    found = h.found;
    holds = h.holds;
    whole = h.whole;
    output_is = h.output_is;
    fails = FailsWrite-after (e h.found) (e h.found).outcome.output h.fails;
  }
  FitsAnswer-after_reads setting e answer.NoMemory h = λ found. Stops-after (e found) (h found)

-- From the answer of the whole walk, what is promised of each status.
ends : (setting : Setting) (words : List (List ℕ)) (files : Files) (reading : Reading) (old new : Outside) (s : Status) (text : List ℕ)
    → Ends setting (λ found. ending_of setting reading found files words) s text old.seen new.seen → Said old new text
    → (o : Outcome) × IsOutcome setting reading words files o × Settles o s old new
ends setting words files reading old new s text h told = (
  (ending_of setting reading h.found files words).outcome,
  record { found = h.found; walk = refl; holds = h.holds },
  record { status = h.status; said = subst (λ t. Said old new t) h.said told; follows = h.follows },
)

-- a refusal or a whole answer
pub fits_settled : (setting : Setting) (words : List (List ℕ)) (files : Files) (reading : Reading) (a : Answer) (old new : Outside)
    → FitsAnswer setting (λ found. ending_of setting reading found files words) a old.seen new.seen → Said old new (text_of a) → IsSettled (status_of a)
    → (o : Outcome) × IsOutcome setting reading words files o × Settles o (status_of a) old new
fits_settled setting words files reading answer.Done old new h told settled = ends setting words files reading old new status.Done [] h told
fits_settled setting words files reading (answer.Refused s text) old new h told settled = ends setting words files reading old new s text.items h.1 told
fits_settled setting words files reading (answer.Unread name) old new h told settled = absurd settled
fits_settled setting words files reading (answer.UnreadFile name) old new h told settled = absurd settled
fits_settled setting words files reading (answer.Unwritten output) old new h told settled = absurd settled
fits_settled setting words files reading answer.NoMemory old new h told settled = absurd settled

-- a failed read
pub fits_unread : (setting : Setting) (words : List (List ℕ)) (files : Files) (reading : Reading) (a : Answer) (old new : Outside)
    → FitsAnswer setting (λ found. ending_of setting reading found files words) a old.seen new.seen
    → Said old new (text_of a) → status_of a ≡ status.ReadFault → (o : Outcome) → IsNearOutcome setting reading words files o → (name : List ℕ) × IsUnread o name old new
fits_unread setting words files reading answer.Done old new h told e o is = let k : status.Done ≡ status.ReadFault = e in cc
fits_unread setting words files reading (answer.Refused s text) old new h told e o is = absurd (subst IsSettled e h.0)
fits_unread setting words files reading (answer.Unread name) old new h told e o is =
    (name.now, record { said = told; fails = subst (λ o. FailsRead o name.now old.seen new.seen) (sym is.walk) (h is.found) })
fits_unread setting words files reading (answer.UnreadFile name) old new h told e o is =
    (string_bytes name, record { said = told; fails = subst (λ o. FailsRead o (string_bytes name) old.seen new.seen) (sym is.walk) (h is.found) })
fits_unread setting words files reading (answer.Unwritten output) old new h told e o is = let k : status.WriteFault ≡ status.ReadFault = e in cc
fits_unread setting words files reading answer.NoMemory old new h told e o is = let k : status.NoMemory ≡ status.ReadFault = e in cc

-- want of memory
pub fits_no_memory : (setting : Setting) (words : List (List ℕ)) (files : Files) (reading : Reading) (a : Answer) (old new : Outside)
    → FitsAnswer setting (λ found. ending_of setting reading found files words) a old.seen new.seen
    → Said old new (text_of a) → status_of a ≡ status.NoMemory → (o : Outcome) → IsNearOutcome setting reading words files o → IsOutOfMemory o old new
fits_no_memory setting words files reading answer.Done old new h told e o is = let k : status.Done ≡ status.NoMemory = e in cc
fits_no_memory setting words files reading (answer.Refused s text) old new h told e o is = absurd (subst IsSettled e h.0)
fits_no_memory setting words files reading (answer.Unread name) old new h told e o is = let k : status.ReadFault ≡ status.NoMemory = e in cc
fits_no_memory setting words files reading (answer.UnreadFile name) old new h told e o is = let k : status.ReadFault ≡ status.NoMemory = e in cc
fits_no_memory setting words files reading (answer.Unwritten output) old new h told e o is = let k : status.WriteFault ≡ status.NoMemory = e in cc
fits_no_memory setting words files reading answer.NoMemory old new h told e o is =
    record { said = told; stops = subst (λ o. Stops o old.seen new.seen) (sym is.walk) (h is.found) }

-- a failed write
pub fits_unwritten : (setting : Setting) (words : List (List ℕ)) (files : Files) (reading : Reading) (a : Answer) (old new : Outside)
    → FitsAnswer setting (λ found. ending_of setting reading found files words) a old.seen new.seen → Said old new (text_of a) → status_of a ≡ status.WriteFault
    → (o : Outcome) × IsOutcome setting reading words files o × IsUnwritten o old new
fits_unwritten setting words files reading answer.Done old new h told e = let k : status.Done ≡ status.WriteFault = e in cc
fits_unwritten setting words files reading (answer.Refused s text) old new h told e = absurd (subst IsSettled e h.0)
fits_unwritten setting words files reading (answer.Unread name) old new h told e = let k : status.ReadFault ≡ status.WriteFault = e in cc
fits_unwritten setting words files reading (answer.UnreadFile name) old new h told e = let k : status.ReadFault ≡ status.WriteFault = e in cc
fits_unwritten setting words files reading (answer.Unwritten output) old new h told e = (
  (ending_of setting reading h.found files words).outcome,
  record { found = h.found; walk = refl; holds = h.holds },
  record { whole = h.whole; said = subst (λ output. Said old new (unwritten_to output)) h.output_is told; fails = h.fails },
)
fits_unwritten setting words files reading answer.NoMemory old new h told e = let k : status.NoMemory ≡ status.WriteFault = e in cc

-- a run that can come to its end, where no count rose
pub fits_complete : (setting : Setting) (words : List (List ℕ)) (files : Files) (reading : Reading) (a : Answer) (old new : Outside)
    → FitsAnswer setting (λ found. ending_of setting reading found files words) a old.seen new.seen → CanFinish setting reading words files
    → (status_of a ≡ status.ReadFault → ⊥) → (status_of a ≡ status.WriteFault → ⊥) → (status_of a ≡ status.Done) ⊎ (status_of a ≡ status.NoMemory)
fits_complete setting words files reading answer.Done old new h can read write = inl refl
fits_complete setting words files reading (answer.Refused s text) old new h can read write = inl (h.1.status ∙ ending_done setting reading h.1.found words files can)
fits_complete setting words files reading (answer.Unread name) old new h can read write = absurd (read refl)
fits_complete setting words files reading (answer.UnreadFile name) old new h can read write = absurd (read refl)
fits_complete setting words files reading (answer.Unwritten output) old new h can read write = absurd (write refl)
fits_complete setting words files reading answer.NoMemory old new h can read write = inr refl

-- a refusal after reads of these names, where the walk is this refusal whatever is found
pub refuses : (setting : Setting) (files : Files) (names : List (List ℕ)) (e : Endings) (s : Status) (text : List ℕ) (a : Answer) (old new : Seen)
    → IsSettled s → IsRefusalOf s text a → old.files ≡ Some files → HasRead names old new
    → ((found : Found) → e found ≡ after_reads names (refused files (refusal s text))) → FitsAnswer setting e a old new
refuses setting files names e s text (answer.Refused t said) old new settled h told has walk = (
  subst IsSettled (sym h.0) settled,
  record {
    found = nothing_found;
    holds = subst (λ (x : Ending). Holds setting nothing_found x.claim) (sym (walk nothing_found)) tt;
    status = h.0 ∙ ap (λ (x : Ending). x.outcome.status) (sym (walk nothing_found));
    said = h.1 ∙ ap (λ (x : Ending). x.outcome.said) (sym (walk nothing_found));
    follows = subst (λ (x : Ending). Follows x.outcome old new) (sym (walk nothing_found)) (record {
      written = has.out ∙ sym (told_more-nil old.out);
      files = has.files ∙ told;
      noted = has.noted ∙ ap (λ l. told_more old.trace l) (ap (λ l. map read_noted l) (sym (append-nil names)) ∙ sym (append-nil (map read_noted (names ++ []))));
    });
  },
)
refuses setting files names e s text answer.NoMemory old new settled h told has walk = λ found.
    subst (λ (x : Ending). Stops x.outcome old new) (sym (walk found)) (record {
      written = has.out;
      files = has.files;
      noted = record { done = names; rest = []; whole = refl; added = has.noted };
    })
refuses setting files names e s text answer.Done old new settled h told has walk = absurd h
refuses setting files names e s text (answer.Unread name) old new settled h told has walk = absurd h
refuses setting files names e s text (answer.UnreadFile name) old new settled h told has walk = absurd h
refuses setting files names e s text (answer.Unwritten output) old new settled h told has walk = absurd h

-- a target that is too long
pub on_target-long : (files : Files) (target : List ℕ) (answer : List ℕ → Ending) (content : Option (List ℕ)) (front : List ℕ) → IsLonger content 268435456 front
    → on_target files target answer content ≡ refused files (refusal status.LongTarget (too_long target))
on_target-long files target answer content front long =
    ap (on_target files target answer) long.there
    ∙ ap (λ b. cond b (answer long.all) (refused files (refusal status.LongTarget (too_long target)))) (lt-leb _ _ long.longer)
