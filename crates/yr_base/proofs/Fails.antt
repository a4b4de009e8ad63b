-- Calls that are to fail.
use Rattle.std.proofs.Common.{◌≡◌, ◌⊎◌, ℕ, List, None, length, subst, sym}
use Rattle.yr_base.specs.Memory.{MemoryView, FailsHere, IsToFail, file_in}

pub fails_here : (v : MemoryView) (name : List ℕ) (calls : ℕ) → length v.trace ≡ calls
    → IsToFail v.failing calls ⊎ (file_in v.files name ≡ None) → FailsHere v name
fails_here v name calls e h = subst (λ (n : ℕ). IsToFail v.failing n ⊎ (file_in v.files name ≡ None)) (sym e) h

pub to_fail : (v : MemoryView) (calls : ℕ) → length v.trace ≡ calls → IsToFail v.failing calls → IsToFail v.failing (length v.trace)
to_fail v calls e h = subst (λ (n : ℕ). IsToFail v.failing n) (sym e) h
