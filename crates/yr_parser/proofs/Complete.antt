-- What the grammar has is read.
use Rattle.std.proofs.Common.{◌≡◌, ℕ, zero, suc, ◌+◌, ◌<◌, ◌≤◌, false, List, [], ◌∷◌, length, Some, refl, ap, ◌∙◌, arith}
use Rattle.yr_syntax.specs.declared.operator.PrefixOp.TheVariants as prefix
use Rattle.yr_syntax.specs.Condition.{Condition, Where, Asked, Domain, Bounds, SetTree, RegexTree, OneLink, OneStep, links_of, items_of, steps_of}
use Rattle.yr_syntax.specs.Condition as tree
use Rattle.yr_parser.specs.declared.sign.Sign.TheVariants as sign
use Rattle.yr_parser.specs.declared.level.Level.{Level}
use Rattle.yr_parser.specs.declared.level.Level.TheVariants.{Equal, Rel, Bits}
use Rattle.yr_parser.specs.declared.level.Entry.{Entry}
use Rattle.yr_parser.specs.declared.level.Entry.TheVariants as entry
use Rattle.yr_parser.specs.Terminals.{Terminals, Word, Regex, Operator, Sign}
use Rattle.yr_parser.specs.Levels.{Part, level, operand, repeats}
use Rattle.yr_parser.specs.Input.{Parser, pure, sees, many, same_sign}
use Rattle.yr_parser.specs.Reading.{next_link, prefix_at, negates_at, range_from, read_range, next_item, next_step, read_primary, read_unary, read_place, read_count, read_over, test_from, read_not, cond_at}
use Rattle.yr_parser.specs.Shallow.{Shallow}
use Rattle.yr_parser.specs.Conditions.{one_link, Reads, one, chain, pair, matches, negated, is_defined, plain, found, of, for_of, for_in, compared, minus, flip, bare, brackets, number, text, truth, file_size, reads, count, count_in, offset, offset_at, len, len_at, path, Links, last, next, Counts, every, some, none, at_least, counts, percent, Places, anywhere, at, within, Ranges, from_to, Overs, over_range, over_list, over_path, ReadsItems, one_item, item_then, ReadsSteps, no_step, name_step, index_step, empty_call, call_step}
use Rattle.yr_parser.proofs.Outcomes.{bind, many-stop, many-more}
use Rattle.yr_parser.proofs.Binding.{rank, binds, power, power-operand, operator-ends, Links-ends, next_link-none, IsTight, NoCount-weaker, begins, primary-begins, test-begins, pair-no_count, matches-no_count}
use Rattle.yr_parser.proofs.Shorter.{Reads-shorter, ReadsItems-shorter, Sets-shallow, Reads-shallow, Counts-shallow, Overs-shallow, ReadsItems-shallow}
use Rattle.yr_parser.proofs.Sound.{entry_part}
use Rattle.yr_parser.proofs.SetComplete.{Split, split-more, split-one, set-complete}
use Rattle.yr_parser.proofs.Onward.{next_link-here, Done, read, done-read, level-one, level-chain, level-pair, level-matches, range-is, range_from-is, items-is, step-none, step-name, step-index, step-empty, step-call, path_from-is, primary-brackets, primary-size, primary-reader, primary-count, primary-count_in, primary-offset, primary-offset_at, primary-length, primary-length_at, primary-path, unary-bare, not-plain, place-none, place-at, place-in, test-found, of_from-is, test-all, test-any, test-none, test-unary, test_from-of, test_from-percent, test_from-equal, count-unary, count-all, count-any, count-none, body-is, over-range, over-list, over-path, test-for_of, test-for_in}

-- what stands between brackets, one level deeper
inner-by : (e : Entry) (k rest : Terminals) (c : Condition)
    → ((d m o : ℕ) → m ≤ d + o → Shallow m o k → binds rest < power (entry_part e) → Done (cond_at d) (entry_part e) k c rest)
    → (d m o : ℕ) → m ≤ d + o → suc o ≤ m → Shallow m (suc o) k → binds rest < 1 → cond_at d e k ≡ Some (c, rest)
unfolding cond_at
inner-by e k rest c f zero m o h lt s b = absurd (omega arith)
inner-by entry.Or k rest c f (suc d) m o h lt s b = f d m (suc o) (omega arith) s b
inner-by entry.Bits k rest c f (suc d) m o h lt s b = done-read (cond_at d) (level Bits) k rest c (f d m (suc o) (omega arith) s (omega arith))

pair-tight : (l : Level) → repeats l ≡ false → IsTight (level l)
pair-tight Equal e = tt
pair-tight Rel e = tt
pair-tight _ e = absurd cc

close-no_comma : (rest : Terminals) → sees sign.Comma (Sign sign.Close ∷ rest) ≡ false
unfolding sees same_sign
close-no_comma rest = refl

comma-no_dots : (rest : Terminals) → sees sign.DotDot (Sign sign.Comma ∷ rest) ≡ false
unfolding sees same_sign
comma-no_dots rest = refl

close-no_dots : (rest : Terminals) → sees sign.DotDot (Sign sign.Close ∷ rest) ≡ false
unfolding sees same_sign
close-no_dots rest = refl

-- the two ends of a range
record RangeRead (p : Entry → Parser Condition) (k : Terminals) (low high : Condition) (rest : Terminals) : Type 0 where
  from : Terminals
  more : Terminals
  opening : k ≡ Sign sign.Open ∷ from
  first_end : p entry.Bits from ≡ Some (low, Sign sign.DotDot ∷ more)
  last_end : range_from p low more ≡ Some (record { low = low; high = high }, rest)

range-read : (p : Entry → Parser Condition) (k rest : Terminals) (low high : Condition) → RangeRead p k low high rest → read_range p k ≡ Some (record { low = low; high = high }, rest)
range-read p k rest low high r = ap (read_range p) r.opening ∙ range-is p r.from r.more rest low high r.first_end r.last_end

-- the items of a list, which is no range
record ItemsRead (p : Entry → Parser Condition) (k : Terminals) (cs : List Condition) (rest : Terminals) : Type 0 where
  split : Split (p entry.Bits) k cs rest
  no_dots : sees sign.DotDot split.mid ≡ false

items-no_close : {k rest : Terminals} {cs : List Condition} → ReadsItems k cs rest → sees sign.Close k ≡ false
items-no_close (one_item r) = (begins r tt).no_close
items-no_close (item_then r rs) = (begins r tt).no_close

mutual
  unfolding read_not read_unary read_primary negates_at prefix_at next_item

  pub read-complete : {p : Part} {k rest : Terminals} {c : Condition} → Reads p k c rest → (d m o : ℕ) → m ≤ d + o → Shallow m o k
      → binds rest < power p → Done (cond_at d) p k c rest
  read-complete {rest = rest} (one {l = l} {k = k} {c = c} r) d m o e s h =
      let b = power-operand l in level-one (cond_at d) l k rest c (read-complete r d m o e s (omega arith)) h
  read-complete {rest = rest} (chain {l = l} {k = k} {more = more} {first = c} {links = ls} t r rs) d m o e s h =
      level-chain (cond_at d) l k more rest c ls t (read-complete r d m o e s (Links-ends rs)) rs
      (links-complete rs d m o e (Reads-shallow r m o s) h (length more) (omega arith))
  read-complete {rest = rest} (pair {l = l} {k = k} {more = more} {o = i} {c = c} {d = c'} t r q r') d m o e s h =
      let b = power-operand l in
      let s' = Reads-shallow r m o s in
      let other = read-complete r' d m o e s'.1 (omega arith) in
      level-pair (cond_at d) l i k more rest c (one_link i c') t (read-complete r d m o e s (operator-ends l i more q))
      (next_link-here l (read (cond_at d) (operand l)) i more rest c' q (done-read (cond_at d) (operand l) more rest c' other))
      (pair-no_count l i (pair-tight l t) r')
  read-complete {rest = rest} (matches {k = k} {c = c} {r = x} r) d m o e s h =
      level-matches (cond_at d) k rest c x (read-complete r d m o e s (omega arith)) (matches-no_count (Regex x ∷ rest))
  read-complete (negated r) d m o e s h = bind (λ c. pure (tree.Prefix prefix.Not c)) (read-complete r d m o e s.1 h)
  read-complete (is_defined r) d m o e s h = bind (λ c. pure (tree.Prefix prefix.Defined c)) (read-complete r d m o e s.1 h)
  read-complete (plain {k = k} r) d m o e s h = not-plain (cond_at d) k (test-begins r) ∙ read-complete r d m o e s h
  read-complete {rest = rest} (found {w = w} {k = k} {p = x} r) d m o e s h =
      test-found (cond_at d) w k rest x (places-complete r d m o e s.1 h)
  read-complete {rest = rest} (of {more = more} {mid = mid} {s = st} {p = x} (counts every) y z) d m o e s h =
      test-all (cond_at d) more
      ∙ of_from-is (cond_at d) tree.All more mid rest st x (set-complete y) (places-complete z d m o e (Sets-shallow y m o s.1.1) h)
  read-complete {rest = rest} (of {more = more} {mid = mid} {s = st} {p = x} (counts some) y z) d m o e s h =
      test-any (cond_at d) more
      ∙ of_from-is (cond_at d) tree.Any more mid rest st x (set-complete y) (places-complete z d m o e (Sets-shallow y m o s.1.1) h)
  read-complete {rest = rest} (of {more = more} {mid = mid} {s = st} {p = x} (counts none) y z) d m o e s h =
      test-none (cond_at d) more
      ∙ of_from-is (cond_at d) tree.Nil more mid rest st x (set-complete y) (places-complete z d m o e (Sets-shallow y m o s.1.1) h)
  read-complete {rest = rest} (of {k = k} {more = more} {mid = mid} {s = st} {p = x} (counts (at_least {c = c} r)) y z) d m o e s h =
      let s' = Reads-shallow r m o s in
      test-unary (cond_at d) k (begins r tt) ∙ bind (test_from (cond_at d)) (read-complete r d m o e s (omega arith)) ∙ test_from-of (cond_at d) c more
      ∙ of_from-is (cond_at d) (tree.AtLeast c) more mid rest st x (set-complete y) (places-complete z d m o e (Sets-shallow y m o s'.1) h)
  read-complete {rest = rest} (of {k = k} {more = more} {mid = mid} {s = st} {p = x} (percent {c = c} r) y z) d m o e s h =
      let s' = Reads-shallow r m o s in
      test-unary (cond_at d) k (begins r tt) ∙ bind (test_from (cond_at d)) (read-complete r d m o e s (omega arith)) ∙ test_from-percent (cond_at d) c more
      ∙ of_from-is (cond_at d) (tree.Percent c) more mid rest st x (set-complete y) (places-complete z d m o e (Sets-shallow y m o s'.1.1) h)
  read-complete {rest = rest} (for_of {k = k} {more = more} {mid = mid} {q = q} {s = st} {c = c} x y r) d m o e s h =
      let s1 = Counts-shallow x m o s.1 in
      let s2 = Sets-shallow y m o s1.1 in
      let s3 = s2.1 in
      test-for_of (cond_at d) k more (Sign sign.Colon ∷ Sign sign.Open ∷ mid) rest q st c (counts-complete x d m o e s.1 (omega arith)) (set-complete y)
      (body-is (cond_at d) mid rest c (inner-by entry.Or mid (Sign sign.Close ∷ rest) c (read-complete r) d m o e s3.0 s3.1 (omega arith)))
  read-complete {rest = rest} (for_in {w = w} {k = k} {more = more} {mid = mid} {q = q} {o = v} {c = c} x y r) d m o e s h =
      let s1 = Counts-shallow x m o s.1 in
      let s2 = Overs-shallow y m o s1.1.1 in
      let s3 = s2.1 in
      test-for_in (cond_at d) w k more (Sign sign.Colon ∷ Sign sign.Open ∷ mid) rest q v c (counts-complete x d m o e s.1 (omega arith))
      (overs-complete y d m o e s1.1.1 (omega arith))
      (body-is (cond_at d) mid rest c (inner-by entry.Or mid (Sign sign.Close ∷ rest) c (read-complete r) d m o e s3.0 s3.1 (omega arith)))
  read-complete {rest = rest} (compared {k = k} r) d m o e s h =
      let got = read-complete r d m o e s h in
      test-unary (cond_at d) k (begins r tt) ∙ bind (test_from (cond_at d)) got.opening
      ∙ test_from-equal (cond_at d) got.u got.more (got.apart (NoCount-weaker rest h)) ∙ got.going
  read-complete (minus r) d m o e s h = bind (λ c. pure (tree.Prefix prefix.Minus c)) (read-complete r d m o e s.1 h)
  read-complete (flip r) d m o e s h = bind (λ c. pure (tree.Prefix prefix.Flip c)) (read-complete r d m o e s.1 h)
  read-complete (bare {k = k} r) d m o e s h = unary-bare (cond_at d) k (primary-begins r) ∙ read-complete r d m o e s h
  read-complete {rest = rest} (brackets {k = k} {c = c} r) d m o e s h =
      primary-brackets (cond_at d) k rest c (inner-by entry.Or k (Sign sign.Close ∷ rest) c (read-complete r) d m o e s.0 s.1 (omega arith))
  read-complete number d m o e s h = refl
  read-complete text d m o e s h = refl
  read-complete truth d m o e s h = refl
  read-complete {rest = rest} file_size d m o e s h = primary-size (cond_at d) rest
  read-complete {rest = rest} (reads {r = x} {k = k} {c = c} r) d m o e s h =
      let s' = s.1 in
      primary-reader (cond_at d) x k rest c (inner-by entry.Bits k (Sign sign.Close ∷ rest) c (read-complete r) d m o e s'.0 s'.1 (omega arith))
  read-complete {rest = rest} (count {w = w}) d m o e s h = primary-count (cond_at d) w rest h
  read-complete {rest = rest} (count_in {w = w} {k = k} {low = low} {high = high} r) d m o e s h =
      primary-count_in (cond_at d) w k rest low high (range-read (cond_at d) k rest low high (ranges-complete r d m o e s.1.1))
  read-complete {rest = rest} (offset {w = w}) d m o e s h = primary-offset (cond_at d) w rest h
  read-complete {rest = rest} (offset_at {w = w} {k = k} {c = c} r) d m o e s h =
      let s' = s.1 in
      primary-offset_at (cond_at d) w k rest c (inner-by entry.Bits k (Sign sign.CloseBracket ∷ rest) c (read-complete r) d m o e s'.0 s'.1 (omega arith))
  read-complete {rest = rest} (len {w = w}) d m o e s h = primary-length (cond_at d) w rest h
  read-complete {rest = rest} (len_at {w = w} {k = k} {c = c} r) d m o e s h =
      let s' = s.1 in
      primary-length_at (cond_at d) w k rest c (inner-by entry.Bits k (Sign sign.CloseBracket ∷ rest) c (read-complete r) d m o e s'.0 s'.1 (omega arith))
  read-complete {rest = rest} (path {w = w} {k = k} {ss = ss} t) d m o e s h =
      primary-path (cond_at d) w k rest ss (path_from-is (cond_at d) w k rest ss (steps-complete t d m o e s.1 h (length k) (omega arith)))

  links-complete : {l : Level} {k rest : Terminals} {ls : List OneLink} → Links l k ls rest → (d m o : ℕ) → m ≤ d + o → Shallow m o k
      → binds rest < rank l → (n : ℕ) → length k ≤ n → many (next_link l (read (cond_at d) (operand l))) n k ≡ Some (ls, rest)
  links-complete (last q r) d m o e s h zero b = absurd (omega arith)
  links-complete {rest = rest} (last {l = l} {k = k} {o = i} {c = c} q r) d m o e s h (suc n) b =
      let w = power-operand l in
      let p = read (cond_at d) (operand l) in
      many-more (next_link l p) n (Operator i ∷ k) rest rest (one_link i c) []
      (next_link-here l p i k rest c q (done-read (cond_at d) (operand l) k rest c (read-complete r d m o e s.1 (omega arith))))
      (many-stop (next_link l p) n rest (next_link-none l p rest h))
  links-complete (next q r rs) d m o e s h zero b = absurd (omega arith)
  links-complete {rest = rest} (next {l = l} {k = k} {more = more} {o = i} {c = c} {links = ls} q r rs) d m o e s h (suc n) b =
      let p = read (cond_at d) (operand l) in
      let shorter = Reads-shorter r in
      many-more (next_link l p) n (Operator i ∷ k) more rest (one_link i c) ls
      (next_link-here l p i k more c q (done-read (cond_at d) (operand l) k more c (read-complete r d m o e s.1 (Links-ends rs))))
      (links-complete rs d m o e (Reads-shallow r m o s.1) h n (omega arith))

  counts-complete : {k rest : Terminals} {q : Asked} → Counts k q rest → (d m o : ℕ) → m ≤ d + o → Shallow m o k → binds rest < 11 → read_count (cond_at d) k ≡ Some (q, rest)
  counts-complete {rest = rest} every d m o e s h = count-all (cond_at d) rest
  counts-complete {rest = rest} some d m o e s h = count-any (cond_at d) rest
  counts-complete {rest = rest} none d m o e s h = count-none (cond_at d) rest
  counts-complete {rest = rest} (at_least {k = k} {c = c} r) d m o e s h =
      count-unary (cond_at d) k rest c (begins r tt).no_count (read-complete r d m o e s h)

  places-complete : {k rest : Terminals} {x : Where} → Places k x rest → (d m o : ℕ) → m ≤ d + o → Shallow m o k → binds rest < 3 → read_place (cond_at d) k ≡ Some (x, rest)
  places-complete {rest = rest} anywhere d m o e s h = place-none (cond_at d) rest (omega arith)
  places-complete {rest = rest} (at {k = k} {c = c} r) d m o e s h =
      place-at (cond_at d) k rest c (done-read (cond_at d) (level Bits) k rest c (read-complete r d m o e s.1 (omega arith)))
  places-complete {rest = rest} (within {k = k} {low = low} {high = high} r) d m o e s h =
      place-in (cond_at d) k rest low high (range-read (cond_at d) k rest low high (ranges-complete r d m o e s.1))

  ranges-complete : {k rest : Terminals} {low high : Condition} → Ranges k low high rest → (d m o : ℕ) → m ≤ d + o → Shallow m o k → RangeRead (cond_at d) k low high rest
  ranges-complete {rest = rest} (from_to {k = k} {more = more} {c = c} {d = c'} r r') d m o e s =
      let s' = Reads-shallow r m (suc o) s.1 in
      record {
        from = k;
        more = more;
        opening = refl;
        first_end = inner-by entry.Bits k (Sign sign.DotDot ∷ more) c (read-complete r) d m o e s.0 s.1 (omega arith);
        last_end = range_from-is (cond_at d) more rest c c'
            (inner-by entry.Bits more (Sign sign.Close ∷ rest) c' (read-complete r') d m o e s.0 s'.1 (omega arith));
      }

  overs-complete : {k rest : Terminals} {x : Domain} → Overs k x rest → (d m o : ℕ) → m ≤ d + o → Shallow m o k → binds rest < 11 → read_over (cond_at d) k ≡ Some (x, rest)
  overs-complete {rest = rest} (over_range {k = k} {low = low} {high = high} r) d m o e s h =
      let t = ranges-complete r d m o e s in
      ap (read_over (cond_at d)) t.opening ∙ over-range (cond_at d) t.from t.more rest low high t.first_end t.last_end
  overs-complete {rest = rest} (over_list {k = k} {cs = cs} r) d m o e s h =
      let t = items-complete r d m o e s.0 s.1 (close-no_comma rest) (close-no_dots rest) (omega arith) in over-list (cond_at d) k rest cs t.split t.no_dots
  overs-complete {rest = rest} (over_path {w = w} {k = k} {ss = ss} t) d m o e s h =
      over-path (cond_at d) w k rest ss (path_from-is (cond_at d) w k rest ss (steps-complete t d m o e s.1 h (length k) (omega arith)))

  items-complete : {k rest : Terminals} {cs : List Condition} → ReadsItems k cs rest → (d m o : ℕ) → m ≤ d + o → suc o ≤ m → Shallow m (suc o) k
      → sees sign.Comma rest ≡ false → sees sign.DotDot rest ≡ false → binds rest < 1 → ItemsRead (cond_at d) k cs rest
  items-complete {rest = rest} (one_item {k = k} {c = c} r) d m o e lt s ends dots h =
      let shorter = Reads-shorter r in
      record {
        split = split-one (cond_at d entry.Bits) k rest c (inner-by entry.Bits k rest c (read-complete r) d m o e lt s h) (omega arith) ends;
        no_dots = dots;
      }
  items-complete {rest = rest} (item_then {k = k} {more = more} {c = c} {cs = cs} r rs) d m o e lt s ends dots h =
      let shorter = Reads-shorter r in
      let s' = Reads-shallow r m (suc o) s in
      let t = items-complete rs d m o e lt s'.1 ends dots h in
      record {
        split = split-more (cond_at d entry.Bits) more k rest c cs (inner-by entry.Bits k (Sign sign.Comma ∷ more) c (read-complete r) d m o e lt s (omega arith)) (omega arith) t.split;
        no_dots = comma-no_dots more;
      }

  steps-complete : {k rest : Terminals} {ss : List OneStep} → ReadsSteps k ss rest → (d m o : ℕ) → m ≤ d + o → Shallow m o k → binds rest < 11
      → (n : ℕ) → length k ≤ n → many (next_step (cond_at d)) n k ≡ Some (ss, rest)
  steps-complete {rest = rest} no_step d m o e s h n b = many-stop (next_step (cond_at d)) n rest (step-none (cond_at d) rest h)
  steps-complete (name_step t) d m o e s h zero b = absurd (omega arith)
  steps-complete {rest = rest} (name_step {w = w} {k = k} {ss = ss} t) d m o e s h (suc n) b =
      many-more (next_step (cond_at d)) n (Sign sign.Dot ∷ Word w ∷ k) k rest (tree.Name w) ss (step-name (cond_at d) w k) (steps-complete t d m o e s.1.1 h n (omega arith))
  steps-complete (index_step r t) d m o e s h zero b = absurd (omega arith)
  steps-complete {rest = rest} (index_step {k = k} {more = more} {c = c} {ss = ss} r t) d m o e s h (suc n) b =
      let shorter = Reads-shorter r in
      let s' = Reads-shallow r m (suc o) s.1 in
      many-more (next_step (cond_at d)) n (Sign sign.OpenBracket ∷ k) more rest (tree.Index c) ss
      (step-index (cond_at d) k more c (inner-by entry.Bits k (Sign sign.CloseBracket ∷ more) c (read-complete r) d m o e s.0 s.1 (omega arith)))
      (steps-complete t d m o e s'.1 h n (omega arith))
  steps-complete (empty_call t) d m o e s h zero b = absurd (omega arith)
  steps-complete {rest = rest} (empty_call {k = k} {ss = ss} t) d m o e s h (suc n) b =
      many-more (next_step (cond_at d)) n (Sign sign.Open ∷ Sign sign.Close ∷ k) k rest (tree.Call []) ss (step-empty (cond_at d) k) (steps-complete t d m o e s.1.1 h n (omega arith))
  steps-complete (call_step r t) d m o e s h zero b = absurd (omega arith)
  steps-complete {rest = rest} (call_step {k = k} {more = more} {cs = cs} {ss = ss} r t) d m o e s h (suc n) b =
      let shorter = ReadsItems-shorter r in
      let s' = ReadsItems-shallow r m (suc o) s.1 in
      let i = items-complete r d m o e s.0 s.1 (close-no_comma more) (close-no_dots more) (omega arith) in
      many-more (next_step (cond_at d)) n (Sign sign.Open ∷ k) more rest (tree.Call cs) ss
      (step-call (cond_at d) k more cs (items-no_close r) (items-is (cond_at d) k more cs i.split))
      (steps-complete t d m o e s'.1 h n (omega arith))
