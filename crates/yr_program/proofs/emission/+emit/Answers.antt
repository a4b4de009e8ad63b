use Rattle.std.proofs.Common.{rules, ◌≡◌, ℕ, ◌+◌, ◌-◌, ◌*◌, ◌≤◌, ◌<◌, [], ◌∷◌, ◌++◌, length, drop, sym, ap, ◌∙◌, subst, arith, length-append, refl, None, Some}
use Rattle.std.proofs.lemmas.Bool.Decides.{nat_tests}
use Rattle.yr_pattern.specs.Tree.{tree_of}
use Rattle.yr_pattern.specs.Sizes.{size_of, sizes_of, rep_size}
use Rattle.yr_pattern.specs.declared.pattern.Pattern.{the_lemmas}
use Rattle.yr_program.specs.Acts.{Branch}
use Rattle.yr_program.specs.Drafts.{acts_of}
use Rattle.yr_program.specs.Code.{any_size, enter, copies, rep_code, code_of, code_all, code_any}
use Rattle.yr_program.proofs.Codes.{length-code_of}
use Rattle.yr_program.proofs.EmitLemmas.{forest, With, forest-drop, forest-last, all_step, any_step, any_some, any_split, any_size-forest, copies_step, copies-empty, length-copies, one_less, options_step, rep_none, rep_some, times-parts, room_some, factor-le, OnOk-map}
use Rattle.yr_program.proofs.emission.+emit.Goals as goal

-- the length after one more part
after : (n n' size : ℕ) → n' ≡ n + size → (k : ℕ) → n + size ≤ k → n' ≤ k
after n n' size e k h = omega arith

pub emit_all-loop-i-preserved : goal.emit_all-loop-i-preserved
emit_all-loop-i-preserved t c =
    let n = c.loop-i.i in
    let ms = (acts_of c.loop-i.draft) in
    let next = c.args.next in
    let u = tree_of c.index-members-i.result in
    let us = forest (drop (n + 1) c.args.members.now) in
    let split = forest-drop c.args.members.now n c.index-members-i.result (omega arith) c.index-members-i.is in
    let sizes : c.loop-i.rest ≡ size_of u + sizes_of us = c.loop-i.invariant.0 ∙ ap sizes_of split in
    let one : c.size-one.result ≡ size_of u = omega (arith, c.size-one.ensures, sizes, c.loop-i.invariant.1) in
    let rest : c.loop-i.rest - c.size-one.result ≡ sizes_of us = omega (arith, sizes, one) in
    let at = c.len.ensures in
    let base : c.len.result + c.size-one.result ≡ length ms + size_of u = omega (arith, at, one) in
    let on = c.entry.ensures ∙ ap (λ r. enter r (c.len.result + c.size-one.result) next) rest ∙ ap (λ b. enter (sizes_of us) b next) base in
    let put = c.in_ok-emit.ensures ∙ ap (λ x. ms ++ code_of u (length ms) x) on in
    let m = enter (sizes_of us) (length ms + size_of u) next in
    let longer : length (acts_of c.emit.new.draft) ≡ length ms + size_of u = omega (arith, ap length put, length-append ms (code_of u (length ms) m), length-code_of u (length ms) m) in
    (rest, omega (arith, longer, rest, sizes, c.loop-i.invariant.1), all_step ms (acts_of c.emit.new.draft) u us next put ∙ ap (λ ts. With (code_all ts) next ms) (sym split) ∙ c.loop-i.invariant.2)

pub emit_any-overflow_add-rest : goal.emit_any-overflow_add-rest
emit_any-overflow_add-rest t c =
    let some : 0 < length c.args.branches.now = grind (arith, nat_tests, c.if-is_empty.false, c.is_empty.ensures) in
    omega (arith, c.sum_of_sizes.ensures, c.requires, any_size-forest c.args.branches.now some)

pub emit_any-loop-i-init : goal.emit_any-loop-i-init
emit_any-loop-i-init t c =
    let some : 0 < length c.args.branches.now = grind (arith, nat_tests, c.if-is_empty.false, c.is_empty.ensures) in
    let sizes = any_size-forest c.args.branches.now some in
    (omega (arith, c.sum_of_sizes.ensures, c.requires, sizes), omega (arith, c.sum_of_sizes.ensures, c.requires, sizes), refl)

pub emit_any-overflow_sub-rest : goal.emit_any-overflow_sub-rest
emit_any-overflow_sub-rest t c =
    let sizes = any_split c.args.branches.now c.loop-i.i c.index-branches-i.result (omega arith) c.index-branches-i.is in
    omega (arith, c.size-one.ensures, c.loop-i.invariant.0, c.loop-i.invariant.1, sizes)

pub emit_any-emit-requires : goal.emit_any-emit-requires
emit_any-emit-requires t c =
    let sizes = any_split c.args.branches.now c.loop-i.i c.index-branches-i.result (omega arith) c.index-branches-i.is in
    let longer = ap length c.in_ok-put.ensures ∙ length-append (acts_of c.loop-i.draft) (Branch c.entry.result c.entry-in-loop-i.result ∷ []) in
    (search (rules, the_lemmas), omega (arith, longer, c.loop-i.invariant.0, c.loop-i.invariant.1, sizes))

pub emit_any-loop-i-preserved : goal.emit_any-loop-i-preserved
emit_any-loop-i-preserved t c =
    let n = c.loop-i.i in
    let ms = (acts_of c.loop-i.draft) in
    let next = c.args.next in
    let u = tree_of c.index-branches-i.result in
    let us = forest (drop (n + 1) c.args.branches.now) in
    let split = forest-drop c.args.branches.now n c.index-branches-i.result (omega arith) c.index-branches-i.is in
    let parts = any_split c.args.branches.now n c.index-branches-i.result (omega arith) c.index-branches-i.is in
    let sizes : c.loop-i.rest ≡ size_of u + 1 + any_size us = c.loop-i.invariant.0 ∙ parts in
    let one : c.size-one.result ≡ size_of u = omega (arith, c.size-one.ensures, sizes, c.loop-i.invariant.1) in
    let rest : c.loop-i.rest - (c.size-one.result + 1) ≡ any_size us = omega (arith, sizes, one) in
    let at = c.len-base.ensures in
    let base1 : c.len-base.result + 1 ≡ length ms + 1 = omega (arith, at) in
    let base2 : c.len-base.result + 1 + c.size-one.result ≡ length ms + 1 + size_of u = omega (arith, at, one) in
    let first = c.entry.ensures ∙ ap (λ r. enter r (c.len-base.result + 1) next) one ∙ ap (λ b. enter (size_of u) b next) base1 in
    let second = c.entry-in-loop-i.ensures ∙ ap (λ r. enter r (c.len-base.result + 1 + c.size-one.result) next) rest ∙ ap (λ b. enter (any_size us) b next) base2 in
    let longer = ap length c.in_ok-put.ensures ∙ length-append ms (Branch c.entry.result c.entry-in-loop-i.result ∷ []) in
    let ms1 = (acts_of c.put.new.self) in
    let whole : length (acts_of c.emit.new.draft) ≡ length ms + 1 + size_of u = omega (arith, longer, ap length c.in_ok-emit.ensures, length-append ms1 (code_of u (length ms1) next), length-code_of u (length ms1) next) in
    let some = any_some c.args.branches.now (n + 1) (omega arith) in (
      rest,
      omega (arith, whole, rest, sizes, c.loop-i.invariant.1),
      any_step ms ms1 (acts_of c.emit.new.draft) c.entry.result c.entry-in-loop-i.result u us (length c.args.branches.now - (n + 1) - 1) next some first second c.in_ok-put.ensures c.in_ok-emit.ensures
          ∙ ap (λ ts. With (code_any ts) next ms) (sym split) ∙ c.loop-i.invariant.2,
    )

pub emit_any-emit-requires-2 : goal.emit_any-emit-requires-2
emit_any-emit-requires-2 t c =
    let some : 0 < length c.args.branches.now = grind (arith, nat_tests, c.if-is_empty.false, c.is_empty.ensures) in
    let last = length c.args.branches.now - 1 in
    let here : c.loop-i.i ≡ last = omega arith in
    let split = forest-last c.args.branches.now last c.index-branches-last.result (omega arith) c.index-branches-last.is in
    let size = c.loop-i.invariant.0 ∙ ap (λ k. any_size (forest (drop k c.args.branches.now))) here ∙ ap any_size split in
    (search (rules, the_lemmas), omega (arith, size, c.loop-i.invariant.1))

pub emit_any-returns : goal.emit_any-returns
emit_any-returns t c =
    let some : 0 < length c.args.branches.now = grind (arith, nat_tests, c.if-is_empty.false, c.is_empty.ensures) in
    let last = length c.args.branches.now - 1 in
    let ms = (acts_of c.loop-i.draft) in
    let here : c.loop-i.i ≡ last = omega arith in
    let split = forest-last c.args.branches.now last c.index-branches-last.result (omega arith) c.index-branches-last.is in
    let left = ap (λ k. forest (drop k c.args.branches.now)) here ∙ split in
    OnOk-map c.emit-2.result _ _ (λ e. e ∙ ap (λ ts. With (code_any ts) c.args.next ms) (sym left) ∙ c.loop-i.invariant.2) c.emit-2.ensures

pub emit_copies-returns-then-one-eq0 : goal.emit_copies-returns-then-one-eq0
emit_copies-returns-then-one-eq0 t c =
    copies-empty (acts_of c.args.draft.now) c.args.count c.args.one (code_of (tree_of c.args.inner.now)) c.args.next c.if-one-eq0.true
    (λ b n. length-code_of (tree_of c.args.inner.now) b n ∙ sym c.requires.size)

pub emit_copies-loop-left-preserved : goal.emit_copies-loop-left-preserved
emit_copies-loop-left-preserved t c =
    let k = c.loop-left.left - 1 in
    let s = c.args.one in
    let code = code_of (tree_of c.args.inner.now) in
    let ms = (acts_of c.loop-left.draft) in
    let next = c.args.next in
    let some : 0 < c.loop-left.left = omega arith in
    let less = one_less c.loop-left.left s some in
    let rest : c.loop-left.rest - s ≡ k * s = omega (arith, less, c.loop-left.invariant.0) in
    let at = c.len.ensures in
    let base : c.len.result + s ≡ length ms + s = omega (arith, at) in
    let on = c.entry.ensures ∙ ap (λ r. enter r (c.len.result + s) next) rest ∙ ap (λ b. enter (k * s) b next) base in
    let put = c.in_ok-emit.ensures ∙ ap (λ x. ms ++ code (length ms) x) on in
    let size = λ (b n : ℕ). length-code_of (tree_of c.args.inner.now) b n ∙ sym c.requires.size in
    let m = enter (k * s) (length ms + s) next in
    let longer : length (acts_of c.emit.new.draft) ≡ length ms + s = omega (arith, ap length put, length-append ms (code (length ms) m), size (length ms) m) in (
      rest,
      omega (arith, longer, rest, less, c.loop-left.invariant.0, c.loop-left.invariant.1),
      copies_step ms (acts_of c.emit.new.draft) c.loop-left.left k s code next size (omega arith) put ∙ c.loop-left.invariant.2,
    )

pub emit_options-loop-left-preserved : goal.emit_options-loop-left-preserved
emit_options-loop-left-preserved t c =
    let k = c.loop-left.left - 1 in
    let s = c.args.one in
    let code = code_of (tree_of c.args.inner.now) in
    let ms = (acts_of c.loop-left.draft) in
    let next = c.args.next in
    let some : 0 < c.loop-left.left = omega arith in
    let less = one_less c.loop-left.left (s + 1) some in
    let rest : c.loop-left.rest - (s + 1) ≡ k * (s + 1) = omega (arith, less, c.loop-left.invariant.0) in
    let at = c.len-base.ensures in
    let base1 : c.len-base.result + 1 ≡ length ms + 1 = omega (arith, at) in
    let base2 : c.len-base.result + 1 + s ≡ length ms + 1 + s = omega (arith, at) in
    let first = c.entry.ensures ∙ ap (λ r. enter (s + r) (c.len-base.result + 1) next) rest ∙ ap (λ b. enter (s + k * (s + 1)) b next) base1 in
    let second = c.entry-in-loop-left.ensures ∙ ap (λ r. enter r (c.len-base.result + 1 + s) next) rest ∙ ap (λ b. enter (k * (s + 1)) b next) base2 in
    let size = λ (b n : ℕ). length-code_of (tree_of c.args.inner.now) b n ∙ sym c.requires.size in
    let ms1 = (acts_of c.put.new.self) in
    let longer1 = ap length c.in_ok-put.ensures ∙ length-append ms (Branch c.entry.result next ∷ []) in
    let longer : length (acts_of c.emit.new.draft) ≡ length ms + 1 + s = omega (arith, longer1, ap length c.in_ok-emit.ensures, length-append ms1 (code (length ms1) c.entry-in-loop-left.result), size (length ms1) c.entry-in-loop-left.result) in (
      rest,
      omega (arith, longer, rest, less, c.loop-left.invariant.0, c.loop-left.invariant.1),
      options_step ms ms1 (acts_of c.emit.new.draft) c.loop-left.left k s c.entry.result c.entry-in-loop-left.result code next size (omega arith) first c.in_ok-put.ensures second c.in_ok-emit.ensures ∙ c.loop-left.invariant.2,
    )

pub emit_rep-emit-requires : goal.emit_rep-emit-requires
emit_rep-emit-requires t c =
    let ms = (acts_of c.args.draft.now) in
    let s = c.size-one.result in
    let size = size_of (tree_of c.args.inner.now) in
    let code = code_of (tree_of c.args.inner.now) in
    let start = c.len.result + c.from.result * s in
    let room = subst (λ m. length ms + rep_size size c.args.min m ≤ 65535) c.in-None.is c.requires in
    let one : s ≡ size = omega (arith, c.size-one.ensures, room) in
    let length1 = ap length c.in_ok-emit_copies-in-None.ensures ∙ length-append ms (copies c.args.min s code (length ms) start) in
    let length2 = ap length c.in_ok-put-in-None.ensures ∙ length-append (acts_of c.emit_copies.new.draft) (Branch c.entry.result c.args.next ∷ []) in
    let copied = length-copies c.args.min s code (length ms) start (λ b n. length-code_of (tree_of c.args.inner.now) b n ∙ sym one) in
    let product = ap (λ x. c.args.min * x) one in
    (search (rules, the_lemmas), omega (arith, length1, length2, copied, product, room))

pub emit_rep-emit_options-requires : goal.emit_rep-emit_options-requires
emit_rep-emit_options-requires t c =
    let ms = (acts_of c.args.draft.now) in
    let s = c.size-one.result in
    let min = c.args.min in
    let max = c.in-Some.max in
    let size = size_of (tree_of c.args.inner.now) in
    let code = code_of (tree_of c.args.inner.now) in
    let room = room_some (length ms) size min max (omega arith) (subst (λ m. length ms + rep_size size min m ≤ 65535) c.in-Some.is c.requires) in
    let least = factor-le max size (omega arith) in
    let one : s ≡ size = omega (arith, c.size-one.ensures, room, least) in
    let length1 = ap length c.in_ok-emit_copies-in-Some.ensures ∙ length-append ms (copies min s code (length ms) c.entry-in-Some.result) in
    let copied = length-copies min s code (length ms) c.entry-in-Some.result (λ b n. length-code_of (tree_of c.args.inner.now) b n ∙ sym one) in
    let product = ap (λ x. max * x) one in
    let parts = times-parts min max s (omega arith) in
    (search (rules, the_lemmas), (one, (omega (arith, one, room, least), omega (arith, length1, copied, product, parts, room))))

pub emit_rep-returns-in_ok-put-in-None : goal.emit_rep-returns-in_ok-put-in-None
emit_rep-returns-in_ok-put-in-None t c =
    let ms = (acts_of c.args.draft.now) in
    let s = c.size-one.result in
    let min = c.args.min in
    let next = c.args.next in
    let size = size_of (tree_of c.args.inner.now) in
    let code = code_of (tree_of c.args.inner.now) in
    let start = c.len.result + c.from.result * s in
    let room = subst (λ m. length ms + rep_size size min m ≤ 65535) c.in-None.is c.requires in
    let one : s ≡ size = omega (arith, c.size-one.ensures, room) in
    let at = c.len.ensures in
    let turns = ap (λ x. x * s) c.from.ensures in
    let begin : start ≡ length ms + min * s = omega (arith, at, turns) in
    OnOk-map c.emit.result _ _
    (λ e. rep_none ms (acts_of c.emit_copies.new.draft) (acts_of c.put.new.self) (acts_of c.emit.new.draft) min s start c.entry.result code next
    (λ b n. length-code_of (tree_of c.args.inner.now) b n ∙ sym one) begin c.entry.ensures c.in_ok-emit_copies-in-None.ensures c.in_ok-put-in-None.ensures e
    ∙ ap (λ x. With (rep_code x code min None) next ms) one ∙ ap (λ m. With (rep_code size code min m) next ms) (sym c.in-None.is)) c.emit.ensures

pub emit_rep-returns-in_ok-emit_copies-in-Some : goal.emit_rep-returns-in_ok-emit_copies-in-Some
emit_rep-returns-in_ok-emit_copies-in-Some t c =
    let ms = (acts_of c.args.draft.now) in
    let s = c.size-one.result in
    let min = c.args.min in
    let max = c.in-Some.max in
    let next = c.args.next in
    let size = size_of (tree_of c.args.inner.now) in
    let code = code_of (tree_of c.args.inner.now) in
    let room = room_some (length ms) size min max (omega arith) (subst (λ m. length ms + rep_size size min m ≤ 65535) c.in-Some.is c.requires) in
    let one : s ≡ size = omega (arith, c.size-one.ensures, room, factor-le max size (omega arith)) in
    let at = c.len-in-Some.ensures in
    let turns = ap (λ x. x * s) c.from-in-Some-2.ensures in
    let base : c.len-in-Some.result + c.from-in-Some-2.result * s ≡ length ms + min * s = omega (arith, at, turns) in
    let on = c.entry-in-Some.ensures ∙ ap (λ k. enter (k * (s + 1)) (c.len-in-Some.result + c.from-in-Some-2.result * s) next) c.from-in-Some.ensures
    ∙ ap (λ b. enter ((max - min) * (s + 1)) b next) base in
    OnOk-map c.emit_options.result _ _
    (λ e. rep_some ms (acts_of c.emit_copies-in-Some.new.draft) (acts_of c.emit_options.new.draft) min max s c.entry-in-Some.result code next
    (λ b n. length-code_of (tree_of c.args.inner.now) b n ∙ sym one) (omega arith) on c.in_ok-emit_copies-in-Some.ensures e
    ∙ ap (λ x. With (rep_code x code min (Some max)) next ms) one ∙ ap (λ m. With (rep_code size code min m) next ms) (sym c.in-Some.is)) c.emit_options.ensures
