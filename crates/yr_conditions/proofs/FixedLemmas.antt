-- The fixed readers read by the definitions, so all readers that do are the same.
use Rattle.std.proofs.Common.{◌≡◌, ℕ, List, Bool, Result, ap, ◌∙◌}
use Rattle.std.proofs.Math.Path.{fun_ext}
use Rattle.yr_pattern.specs.Tree.{Tree}
use Rattle.yr_conditions.specs.Readers.{Readers, Read, HexRefusal, RegexRefusal, Expression}
use Rattle.yr_conditions.specs.Fixed.{the_readers}
use Rattle.yr_conditions.proofs.ReaderLemmas.{the-read, one-answer}

-- readers that read are the fixed ones
pub one-readers : (readers : Readers) → Read readers → readers ≡ the_readers
one-readers readers reads =
    let same = one-answer readers the_readers reads the-read in
    ap (λ (h : List ℕ → Result Tree HexRefusal). record { hex = h; regex = readers.regex }) (fun_ext same.0)
    ∙ ap (λ (r : List ℕ → Bool → Bool → Result Expression RegexRefusal). record { hex = the_readers.hex; regex = r }) (fun_ext (λ t. fun_ext (λ nocase. fun_ext (λ dot_all. same.1 t nocase dot_all))))
