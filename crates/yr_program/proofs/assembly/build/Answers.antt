use Rattle.std.proofs.Common.{◌≡◌, [], ◌∷◌, ◌++◌, length, ap, ◌∙◌, arith}
use Rattle.yr_pattern.specs.Tree.{tree_of}
use Rattle.yr_pattern.specs.Sizes.{size_of}
use Rattle.yr_program.specs.Acts.{Stop}
use Rattle.yr_program.specs.Code.{Code, code_of}
use Rattle.yr_program.proofs.KeptLemmas.{kept-size, kept-program}
use Rattle.yr_program.proofs.assembly.build.Goals as goal

pub overflow_cast-end : goal.overflow_cast-end
overflow_cast-end c =
    let same : size_of (tree_of c.in_ok-left.left) ≡ size_of (tree_of c.args.p.now) = ap size_of c.in_ok-left.ensures ∙ kept-size (tree_of c.args.p.now) in
    omega (arith, same, c.size-end.ensures, c.requires)

pub emit-requires : goal.emit-requires
emit-requires c =
    let same : size_of (tree_of c.in_ok-left.left) ≡ size_of (tree_of c.args.p.now) = ap size_of c.in_ok-left.ensures ∙ kept-size (tree_of c.args.p.now) in
    omega (arith, same, ap length c.new-draft.ensures, c.requires)

pub returns : goal.returns
returns c =
    let x = tree_of c.args.p.now in
    let left = tree_of c.in_ok-left.left in
    let same : size_of left ≡ size_of x = ap size_of c.in_ok-left.ensures ∙ kept-size x in
    let size : c.size-end.result ≡ size_of x = omega (arith, same, c.size-end.ensures, c.requires) in
    c.in_ok-put.ensures ∙ ap (λ m. m ++ Stop ∷ [])
    (c.in_ok-emit.ensures ∙ ap (λ m. m ++ code_of left (length m) c.size-end.result) c.new-draft.ensures ∙ ap (λ e. code_of left 0 e) size
    ∙ ap (λ (d : Code). d 0 (size_of x)) (ap code_of c.in_ok-left.ensures ∙ kept-program x))
