-- From the answer of the whole run, what is promised of words and of causes.
use Rattle.std.proofs.Common.{◌≡◌, ◌⊎◌, inl, inr, ℕ, List, Option, Some, None, refl, sym, subst, ◌∙◌, codes}
use Rattle.yr_words.specs.Words.{command_of}
use Rattle.yr_outcome.specs.declared.answer.Answer.{Answer}
use Rattle.yr_outcome.specs.declared.answer.Answer.TheVariants as answer
use Rattle.yr_outcome.specs.declared.status.Status.{Status}
use Rattle.yr_outcome.specs.declared.status.Status.TheVariants as status
use Rattle.yr_outcome.specs.Texts.{bad_words, external_text}
use Rattle.yr_outcome.specs.Answers.{Setting}
use Rattle.yr_outcome.specs.Fits.{Outside, Said}
use Rattle.yr_outcome.specs.Steps.{HasCause, WriteRose, IsRefusalOf, status_of, text_of}
use Rattle.yr_outcome.specs.Clauses.{StoreFailed, WriteFailed, Usages, TwiceGiven, ReadCauses, WriteCauses, output_named, name_twice}
use Rattle.yr_outcome.proofs.CauseLemmas.{read_cause, write_cause, no_usage}

-- a refusal, unless there was no memory
refused : (s : Status) (text : List ℕ) (a : Answer) → IsRefusalOf s text a → (status_of a ≡ s) ⊎ (status_of a ≡ status.NoMemory)
refused s text (answer.Refused t said) h = inl h.0
refused s text answer.NoMemory h = inr refl
refused s text answer.Done h = absurd h
refused s text (answer.Unread name) h = absurd h
refused s text (answer.UnreadFile name) h = absurd h
refused s text (answer.Unwritten output) h = absurd h

told : (s : Status) (text : List ℕ) (a : Answer) (old new : Outside) → IsRefusalOf s text a → Said old new (text_of a)
    → ((status_of a ≡ s) × Said old new text) ⊎ (status_of a ≡ status.NoMemory)
told s text (answer.Refused t said) old new h k = inl (h.0, subst (λ x. Said old new x) h.1 k)
told s text answer.NoMemory old new h k = inr refl
told s text answer.Done old new h k = absurd h
told s text (answer.Unread name) old new h k = absurd h
told s text (answer.UnreadFile name) old new h k = absurd h
told s text (answer.Unwritten output) old new h k = absurd h

module _ (setting : Setting) (words : List (List ℕ)) (a : Answer) (old new : Outside)
    (usage : command_of words ≡ None → IsRefusalOf status.Usage bad_words a)
    (cause : (command_of words ≡ None) ⊎ HasCause (output_named words) a old.store_faults new.store_faults old.out_faults new.out_faults) where
  not-read : (status_of a ≡ status.Usage) ⊎ (status_of a ≡ status.NoMemory) → status_of a ≡ status.ReadFault → ⊥
  not-read (inl u) e = let k : status.Usage ≡ status.ReadFault = sym u ∙ e in cc
  not-read (inr n) e = let k : status.NoMemory ≡ status.ReadFault = sym n ∙ e in cc

  not-written : (status_of a ≡ status.Usage) ⊎ (status_of a ≡ status.NoMemory) → status_of a ≡ status.WriteFault → ⊥
  not-written (inl u) e = let k : status.Usage ≡ status.WriteFault = sym u ∙ e in cc
  not-written (inr n) e = let k : status.NoMemory ≡ status.WriteFault = sym n ∙ e in cc

  pub reads : ReadCauses setting words (status_of a) old new
  reads e = elim cause as (λ x. StoreFailed old new) [
    | inl none ↦ absurd (not-read (refused status.Usage bad_words a (usage none)) e)
    | inr h ↦ read_cause (output_named words) _ _ _ _ a h e
  ]

  rose : (output : Option (List ℕ)) → WriteRose output old.store_faults new.store_faults old.out_faults new.out_faults → WriteFailed output old new
  rose None h = h
  rose (Some name) h = h

  pub writes : WriteCauses setting words (status_of a) old new
  writes e = elim cause as (λ x. WriteFailed (output_named words) old new) [
    | inl none ↦ absurd (not-written (refused status.Usage bad_words a (usage none)) e)
    | inr h ↦ rose (output_named words) (write_cause (output_named words) _ _ _ _ a h e)
  ]

  only-usage : status_of a ≡ status.Usage → command_of words ≡ None
  only-usage e = elim cause as (λ x. command_of words ≡ None) [
    | inl none ↦ none
    | inr h ↦ absurd (no_usage (output_named words) _ _ _ _ a h e)
  ]

  pub usages : Usages setting words (status_of a) old new
  usages = (only-usage, λ none. refused status.Usage bad_words a (usage none))

  pub twice : ((name : List ℕ) → name_twice words ≡ Some name → IsRefusalOf status.External (external_text name (codes "Twice")) a) → Said old new (text_of a)
      → TwiceGiven setting words (status_of a) old new
  twice given said name e = told status.External (external_text name (codes "Twice")) a old new (given name e) said
