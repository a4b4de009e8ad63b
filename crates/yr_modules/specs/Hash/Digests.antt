-- The digests of a range of a file, each by the id of its call: RFC 1321 (MD5) and FIPS 180-4 (SHA-1, SHA-256).
use Rattle.std.specs.Prelude.{ℕ, ◌+◌, ◌==◌, ℤ, pos, negsuc, nat_le, if◌then◌else◌, List, length, slice_range, Option, None, Some, option_map}
use Rattle.md5.specs.Md5.{md5}
use Rattle.sha1.specs.Sha1.{sha1}
use Rattle.sha2.specs.Sha256.{sha256}
use Rattle.hex.specs.Hex.{encode_lower}
use Rattle.yr_base.specs.declared.value.Kind.{Kind}
use Rattle.yr_base.specs.declared.value.Kind.TheVariants as kind
use Rattle.yr_values.specs.Values.{Value, Undefined, Text}
use Rattle.yr_modules.specs.declared.hash.digest.DigestKind.{DigestKind}
use Rattle.yr_modules.specs.declared.hash.digest.DigestKind.TheVariants.{Md5, Sha1, Sha256}

-- which digest a call gives
abbrev pub digest_with : ℕ → Option DigestKind
digest_with id =
    if id == 64 then Some Md5
    else if id == 65 then Some Sha1
    else if id == 66 then Some Sha256
    else None

-- the digest of a message
abbrev pub digest_of : DigestKind → List ℕ → List ℕ
digest_of Md5 message = md5 message
digest_of Sha1 message = sha1 message
digest_of Sha256 message = sha256 message

-- the bytes of a range that lies in the file, by its first byte and its size; there is none where a number is negative
abbrev pub range_in : List ℕ → ℤ → ℤ → Option (List ℕ)
range_in file (pos from) (pos size) =
    if nat_le (from + size) (length file) then Some (slice_range file from (from + size)) else None
range_in file from size = None

abbrev pub text_value : Option (List ℕ) → Value
text_value None = Undefined
text_value (Some t) = Text t

-- the digest of such a range, in hexadecimal digits with small letters
abbrev pub digest_value : DigestKind → Option (List ℕ) → Value
digest_value digest range = text_value (option_map (λ message. encode_lower (digest_of digest message)) range)

-- the value of the call with an id: another call's is what is given for it
abbrev pub digest_or : Option DigestKind → List ℕ → ℤ → ℤ → Value → Value
digest_or None file from size other = other
digest_or (Some digest) file from size other = digest_value digest (range_in file from size)

-- the kind of the call with an id
abbrev pub kind_or : Option DigestKind → Option Kind → Option Kind
kind_or None other = other
kind_or (Some digest) other = Some kind.Text
