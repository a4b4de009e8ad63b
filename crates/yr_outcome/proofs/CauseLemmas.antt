-- For the functions of the program: the causes of what a step answers are causes of what the steps round it answer.
use Rattle.std.proofs.Common.{◌≡◌, ℕ, ◌+◌, ◌-◌, ◌^◌, ◌≤◌, min, List, Option, None, Some, subst, arith}
use Rattle.yr_base.specs.Causes.{HasRisen}
use Rattle.yr_outcome.specs.declared.answer.Answer.{Answer}
use Rattle.yr_outcome.specs.declared.answer.Answer.TheVariants as answer
use Rattle.yr_outcome.specs.declared.status.Status.TheVariants as status
use Rattle.yr_outcome.specs.Steps.{HasCause, WriteRose, IsOfRun, status_of}

least-around : (m a b c d : ℕ) → a ≤ b → min (b + 1) m ≤ c → c ≤ d → min (a + 1) m ≤ d
least-around m a b c d h r k = omega (arith, h, r, k)

-- a count rose in some of the time
pub HasRisen-around : (a b c d : ℕ) → a ≤ b → HasRisen b c → c ≤ d → HasRisen a d
HasRisen-around a b c d h r k = least-around (2 ^ 64 - 1) a b c d h r k

module _ (s t u v o p q r : ℕ) (store_before : s ≤ t) (store_after : u ≤ v) (out_before : o ≤ p) (out_after : q ≤ r) where
  WriteRose-around : (output : Option (List ℕ)) → WriteRose output t u p q → WriteRose output s v o r
  WriteRose-around None h = HasRisen-around o p q r out_before h out_after
  WriteRose-around (Some name) h = HasRisen-around s t u v store_before h store_after

  pub HasCause-around : (output : Option (List ℕ)) (a : Answer) → HasCause output a t u p q → HasCause output a s v o r
  HasCause-around output answer.Done h = tt
  HasCause-around output (answer.Refused status text) h = h
  HasCause-around output (answer.Unread name) h = HasRisen-around s t u v store_before h store_after
  HasCause-around output (answer.UnreadFile name) h = HasRisen-around s t u v store_before h store_after
  HasCause-around output (answer.Unwritten to) h = WriteRose-around output h
  HasCause-around output answer.NoMemory h = tt

module _ (output : Option (List ℕ)) (s v o r : ℕ) where
  -- at a failed read the store's count rose
  pub read_cause : (a : Answer) → HasCause output a s v o r → status_of a ≡ status.ReadFault → HasRisen s v
  read_cause answer.Done h e = let k : status.Done ≡ status.ReadFault = e in cc
  read_cause (answer.Refused t text) h e = absurd (subst IsOfRun e h)
  read_cause (answer.Unread name) h e = h
  read_cause (answer.UnreadFile name) h e = h
  read_cause (answer.Unwritten to) h e = let k : status.WriteFault ≡ status.ReadFault = e in cc
  read_cause answer.NoMemory h e = let k : status.NoMemory ≡ status.ReadFault = e in cc

  -- at a failed write that of what is written
  pub write_cause : (a : Answer) → HasCause output a s v o r → status_of a ≡ status.WriteFault → WriteRose output s v o r
  write_cause answer.Done h e = let k : status.Done ≡ status.WriteFault = e in cc
  write_cause (answer.Refused t text) h e = absurd (subst IsOfRun e h)
  write_cause (answer.Unread name) h e = let k : status.ReadFault ≡ status.WriteFault = e in cc
  write_cause (answer.UnreadFile name) h e = let k : status.ReadFault ≡ status.WriteFault = e in cc
  write_cause (answer.Unwritten to) h e = h
  write_cause answer.NoMemory h e = let k : status.NoMemory ≡ status.WriteFault = e in cc

  -- and words that read are not refused as words
  pub no_usage : (a : Answer) → HasCause output a s v o r → status_of a ≡ status.Usage → ⊥
  no_usage answer.Done h e = let k : status.Done ≡ status.Usage = e in cc
  no_usage (answer.Refused t text) h e = subst IsOfRun e h
  no_usage (answer.Unread name) h e = let k : status.ReadFault ≡ status.Usage = e in cc
  no_usage (answer.UnreadFile name) h e = let k : status.ReadFault ≡ status.Usage = e in cc
  no_usage (answer.Unwritten to) h e = let k : status.WriteFault ≡ status.Usage = e in cc
  no_usage answer.NoMemory h e = let k : status.NoMemory ≡ status.Usage = e in cc
