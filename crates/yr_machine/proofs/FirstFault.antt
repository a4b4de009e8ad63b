-- The first check that bytes fail, found by trying all.
use Rattle.std.proofs.Common.{◌≡◌, ◌≢◌, ℕ, zero, suc, ◌+◌, ◌-◌, ◌≤◌, ◌<◌, ◌==◌, nat_lt, ◌&&◌, ◌||◌, ◌⊎◌, inl, inr, ⊎_elim, Bool, true, false, if◌then◌else◌, List, [], ◌∷◌, length, take, drop, Option, Some, None, slice_get, refl, sym, ap, subst, ◌∙◌, true≢false, arith}
use Rattle.std.specs.Option.{option_map_or}
use Rattle.std.proofs.lemmas.Bool.{cases_lt}
use Rattle.std.proofs.lemmas.Bool.Decides.{Decides-eqb, Decides-ltb}
use Rattle.std.proofs.lemmas.Option.{slice_get_past}
use Rattle.yr_rows.specs.declared.moves.MoveRow.{MoveRow}
use Rattle.yr_rows.specs.declared.moves.Move.{Move}
use Rattle.yr_rows.specs.declared.moves.Move.TheVariants.{Accept, Set, Fork, Test}
use Rattle.yr_rows.specs.declared.nodes.NodeRow.{NodeRow}
use Rattle.yr_rows.specs.declared.nodes.EdgeRow.{EdgeRow}
use Rattle.yr_rows.specs.Moves.{move_of, row_of, NamesAmong, IsWellformedMove, AreWellformedMoves, program_moves}
use Rattle.yr_rows.specs.Nodes.{Each, BytesRise, IsWellformedNode, edges_at, edges_end, outputs_end, end_before}
use Rattle.yr_rows.proofs.MoveLemmas.{wellformed_says}
use Rattle.yr_image.specs.declared.fault.ImageFault.{ImageFault}
use Rattle.yr_image.specs.declared.fault.ImageFault.TheVariants.{TooShort, Magic, Version, Length, Section, Index, Name, Code, ProgramBad, Node}
use Rattle.yr_image.specs.declared.rows.RuleRow.{RuleRow}
use Rattle.yr_image.specs.declared.rows.NoteRow.{NoteRow}
use Rattle.yr_image.specs.declared.rows.SplitRow.{SplitRow}
use Rattle.yr_image.specs.declared.rows.ProgramRow.{ProgramRow}
use Rattle.yr_image.specs.Image.{Image, code_of, namespace_of}
use Rattle.yr_image.specs.Reading.{image_in, zeros_in}
use Rattle.yr_image.specs.Sections as sections
use Rattle.yr_image.specs.Sections.{SectionFits, magic, header_length}
use Rattle.yr_machine.specs.CodeWalk.{code_fault}
use Rattle.yr_machine.specs.Rows as rows
use Rattle.yr_machine.specs.Rows.{row_passes, index_passes, is_good_rule, is_good_without_rules, is_good_note, is_good_external, is_good_string, is_good_split, is_good_edge, is_good_output}
use Rattle.yr_machine.specs.Names.{At, is_name, is_string_name, rule_name, note_name, string_name, IsNewName, NamePasses}
use Rattle.yr_machine.specs.Automaton.{moves_end, IsProgram, ProgramPasses, HasAtomOf, IsNode, NodePasses}
use Rattle.yr_machine.specs.Wellformed.{CodePasses, Passes, check_of, first_number, second_number, ComesBefore, IsWellformed, IsAnswer}
use Rattle.yr_machine.proofs.KnownLemmas.{Known, Least, known-true, known-equal, known-bytes, known-less, known-most, known-like, known-and, known-if, known-not, least, least-below, known-every, at-past, known-at, known-each, known-all}

-- ---- moves, programs and nodes

known-names : (n sets : ℕ) (v : Move) → Known (NamesAmong n sets v)
known-names n sets Accept = inl tt
known-names n sets (Set next set) = known-and (known-less next n) (known-less set sets)
known-names n sets (Fork next other) = known-and (known-less next n) (known-less other n)
known-names n sets (Test assertion next) = known-less next n

known-row : (a b : MoveRow) → Known (a ≡ b)
known-row a b =
    known-like join (λ e. (ap (λ r. r.kind) e, (ap (λ r. r.next) e, (ap (λ r. r.other) e, ap (λ r. r.set) e))))
    (known-and (known-equal a.kind b.kind) (known-and (known-equal a.next b.next) (known-and (known-equal a.other b.other) (known-equal a.set b.set))))
  where
    join : (a.kind ≡ b.kind) × ((a.next ≡ b.next) × ((a.other ≡ b.other) × (a.set ≡ b.set))) → a ≡ b
    join h i = record { kind = h.0 i; next = h.1.0 i; other = h.1.1.0 i; set = h.1.1.1 i }

known-move : (n sets : ℕ) (row : MoveRow) → Known (IsWellformedMove n sets row)
known-move n sets row = by (move_of row) refl
  where
    none-is : (v : Move) → ◌≡◌ {A = Option Move} None (Some v) → ⊥
    none-is v h = cc

    some-is : (v w : Move) → ◌≡◌ {A = Option Move} (Some v) (Some w) → v ≡ w
    some-is v w h = cc

    by : (o : Option Move) → move_of row ≡ o → Known (IsWellformedMove n sets row)
    by None e = inr (λ good. none-is good.0 (sym e ∙ wellformed_says n sets row good))
    by (Some v) e =
        known-like (λ h. (v, h.0, h.1))
        (λ good. let same : good.0 ≡ v = some-is good.0 v (sym (wellformed_says n sets row good) ∙ e) in
        (good.1 ∙ ap row_of same, subst (NamesAmong n sets) same good.2))
        (known-and (known-row row (row_of v)) (known-names n sets v))

known-moves : (moves : List MoveRow) (sets : List (List ℕ)) → Known (AreWellformedMoves moves sets)
known-moves moves sets =
    known-like (λ h. (h.0, h.1.0, h.1.1)) (λ h. (h.0, (h.1, h.2)))
    (known-and (known-less 0 (length moves)) (known-and (known-most (length moves) 65536) (known-all (IsWellformedMove (length moves) (length sets)) (known-move (length moves) (length sets)) moves)))

known-program : (image : Image) (k : ℕ) (row : ProgramRow) → Known (IsProgram image k row)
known-program image k row =
    known-like (λ h. record { follows = h.0; last = h.1.0; wellformed = h.1.1 }) (λ h. (h.follows, (h.last, h.wellformed)))
    (known-and (known-equal row.first_move (rows.end_before moves_end image.programs k))
    (known-and (known-if (known-equal (k + 1) (length image.programs)) (known-equal (moves_end row) (length image.moves)))
    (known-and (known-most (row.first_move + row.moves) (length image.moves)) (known-moves (program_moves row.first_move row.moves image.moves) image.sets))))

known-empty : {A : Type 0} (xs : List A) → Known (xs ≡ [])
known-empty [] = inl refl
known-empty (x ∷ xs) = inr (λ h. cc)

known-program-passes : (image : Image) (k : ℕ) → Known (ProgramPasses image k)
known-program-passes image k =
    known-like (λ h. record { program = h.0; none = h.1 }) (λ h. (h.program, h.none))
    (known-and (known-at (IsProgram image k) (known-program image k) image.programs k)
    (known-if (known-equal k 0) (known-if (known-empty image.programs) (known-empty image.moves))))

known-rise : (edges : List EdgeRow) → Known (BytesRise edges)
known-rise edges =
    known-like (λ h i j d e b f g. h i d f j e g b) (λ h i d f j e g b. h i j d e b f g)
    (known-each (λ i d. (j : ℕ) (e : EdgeRow) → slice_get edges j ≡ Some e → i < j → d.byte < e.byte)
    (λ i d. known-each (λ j e. i < j → d.byte < e.byte) (λ j e. known-if (known-less i j) (known-less d.byte e.byte)) edges) edges)

module _ (nodes : List NodeRow) (edges : List EdgeRow) (outputs : List ℕ) (n : ℕ) (row : NodeRow) where
  abbrev Falls : Type 0
  Falls = (up : NodeRow) → slice_get nodes row.failure ≡ Some up → up.depth < row.depth

  abbrev Deeper : Type 0
  Deeper = Each (λ _ edge. (to : NodeRow) → slice_get nodes edge.target ≡ Some to → to.depth ≡ row.depth + 1) (edges_at edges row)

  abbrev NodeParts : Type 0
  NodeParts =
      (row.first_edge ≡ end_before edges_end nodes n) × ((row.first_output ≡ end_before outputs_end nodes n) × ((edges_end row ≤ length edges) × ((outputs_end row ≤ length outputs)
      × ((n + 1 ≡ length nodes → edges_end row ≡ length edges) × ((n + 1 ≡ length nodes → outputs_end row ≡ length outputs) × (BytesRise (edges_at edges row) × ((row.depth ≤ 4)
      × ((n ≡ 0 → (row.depth ≡ 0) × (row.failure ≡ 0)) × ((n ≢ 0 → 0 < row.depth) × ((n ≢ 0 → row.failure < n) × ((n ≢ 0 → Falls) × Deeper)))))))))))

  known-parts : Known NodeParts
  known-parts =
      known-and (known-equal row.first_edge (end_before edges_end nodes n)) (known-and (known-equal row.first_output (end_before outputs_end nodes n))
      (known-and (known-most (edges_end row) (length edges)) (known-and (known-most (outputs_end row) (length outputs))
      (known-and (known-if (known-equal (n + 1) (length nodes)) (known-equal (edges_end row) (length edges)))
      (known-and (known-if (known-equal (n + 1) (length nodes)) (known-equal (outputs_end row) (length outputs)))
      (known-and (known-rise (edges_at edges row)) (known-and (known-most row.depth 4)
      (known-and (known-if (known-equal n 0) (known-and (known-equal row.depth 0) (known-equal row.failure 0)))
      (known-and (known-if (known-not (known-equal n 0)) (known-less 0 row.depth)) (known-and (known-if (known-not (known-equal n 0)) (known-less row.failure n))
      (known-and (known-if (known-not (known-equal n 0)) (known-at (λ up. up.depth < row.depth) (λ up. known-less up.depth row.depth) nodes row.failure))
      (known-each (λ _ edge. (to : NodeRow) → slice_get nodes edge.target ≡ Some to → to.depth ≡ row.depth + 1)
      (λ _ edge. known-at (λ to. to.depth ≡ row.depth + 1) (λ to. known-equal to.depth (row.depth + 1)) nodes edge.target) (edges_at edges row)))))))))))))

  known-node-row : Known (IsWellformedNode nodes edges outputs n row)
  known-node-row =
      known-like
      (λ h. record {
        edges_follow = h.0;
        outputs_follow = h.1.0;
        edges_inside = h.1.1.0;
        outputs_inside = h.1.1.1.0;
        edges_last = h.1.1.1.1.0;
        outputs_last = h.1.1.1.1.1.0;
        bytes_rise = h.1.1.1.1.1.1.0;
        low = h.1.1.1.1.1.1.1.0;
        root = h.1.1.1.1.1.1.1.1.0;
        deep = h.1.1.1.1.1.1.1.1.1.0;
        below = h.1.1.1.1.1.1.1.1.1.1.0;
        falls = h.1.1.1.1.1.1.1.1.1.1.1.0;
        deeper = h.1.1.1.1.1.1.1.1.1.1.1.1;
      })
      (λ h. (h.edges_follow, (h.outputs_follow, (h.edges_inside, (h.outputs_inside, (h.edges_last, (h.outputs_last, (h.bytes_rise, (h.low, (h.root, (h.deep, (h.below, (h.falls, h.deeper)))))))))))))
      known-parts

known-node : (image : Image) (n : ℕ) → Known (NodePasses image n)
known-node image n =
    known-at (IsNode image n)
    (λ row. known-like (λ h. record { wellformed = h.0; atoms = h.1 }) (λ h. (h.wellformed, h.atoms))
    (known-and (known-node-row image.nodes image.edges image.outputs n row)
    (known-all (HasAtomOf image row.depth)
    (λ split. known-at (λ (s : SplitRow). s.atom_length ≡ row.depth) (λ s. known-equal s.atom_length row.depth) image.splits split) (take row.outputs (drop row.first_output image.outputs)))))
    image.nodes n

-- ---- names

known-new : (image : Image) (k : ℕ) (row : NoteRow) → Known (IsNewName image k row)
known-new image k row =
    known-every (λ earlier. earlier < k → At (λ other. note_name image other ≢ note_name image row) image.externals earlier)
    (λ earlier. known-if (known-less earlier k)
    (known-at (λ other. note_name image other ≢ note_name image row) (λ other. known-not (known-bytes (note_name image other) (note_name image row))) image.externals earlier))
    k (λ earlier h c. absurd (omega (arith, h, c)))

known-name : (image : Image) (section k : ℕ) → Known (NamePasses image section k)
known-name image section k =
    known-like (λ h. record { rules = h.0; notes = h.1.0; externals = h.1.1.0; strings = h.1.1.1 }) (λ h. (h.rules, (h.notes, (h.externals, h.strings))))
    (known-and (known-if (known-equal section 0) (known-at (λ row. (is_name (rule_name image row) && is_name (namespace_of image row)) ≡ true) (λ row. known-true (is_name (rule_name image row) && is_name (namespace_of image row))) image.rules k))
    (known-and (known-if (known-equal section 1) (known-at (λ row. is_name (note_name image row) ≡ true) (λ row. known-true (is_name (note_name image row))) image.notes k))
    (known-and
    (known-if (known-equal section 2)
    (known-at (λ row. (is_name (note_name image row) ≡ true) × IsNewName image k row) (λ row. known-and (known-true (is_name (note_name image row))) (known-new image k row)) image.externals k))
    (known-if (known-equal section 3) (known-at (λ row. is_string_name (string_name image row) ≡ true) (λ row. known-true (is_string_name (string_name image row))) image.strings k)))))

names-past : (image : Image) (section k : ℕ) → length image.rules + length image.notes + length image.externals + length image.strings ≤ k → NamePasses image section k
names-past image section k h = record {
  rules = λ e. at-past (λ row. (is_name (rule_name image row) && is_name (namespace_of image row)) ≡ true) image.rules k (omega (arith, h));
  notes = λ e. at-past (λ row. is_name (note_name image row) ≡ true) image.notes k (omega (arith, h));
  externals = λ e. at-past (λ row. (is_name (note_name image row) ≡ true) × IsNewName image k row) image.externals k (omega (arith, h));
  strings = λ e. at-past (λ row. is_string_name (string_name image row) ≡ true) image.strings k (omega (arith, h));
}

no-names : (image : Image) (section k : ℕ) → 4 ≤ section → NamePasses image section k
no-names image section k h = record {
  rules = λ e. absurd (omega (arith, h, e));
  notes = λ e. absurd (omega (arith, h, e));
  externals = λ e. absurd (omega (arith, h, e));
  strings = λ e. absurd (omega (arith, h, e));
}

-- ---- rows

chosen : (b x y : Bool) → x ≡ true → y ≡ true → (if b then x else y) ≡ true
chosen true x y e f = e
chosen false x y e f = f

skipped : (b x y : Bool) → b ≡ false → y ≡ true → (if b then x else y) ≡ true
skipped true x y e f = absurd (true≢false e)
skipped false x y e f = f

differs : (a b : ℕ) → b < a → (a == b) ≡ false
differs a b h = by (a == b) refl
  where
    by : (t : Bool) → (a == b) ≡ t → (a == b) ≡ false
    by true e = absurd (omega (arith, h, (Decides-eqb a b).0 e))
    by false e = e

row-past : (image : Image) {A : Type 0} (test : A → Bool) (xs : List A) (k : ℕ) → length xs ≤ k → row_passes image test xs k ≡ true
row-past image test xs k h = ap (λ o. option_map_or test o true) (slice_get_past xs k h)

both-true : (a b c : Bool) → a ≡ true → b ≡ true → (a && (b || c)) ≡ true
both-true true true c e f = refl
both-true false b c e f = absurd (true≢false (sym e))
both-true true false c e f = absurd (true≢false (sym f))

module _ (image : Image) (unused : List ℕ) where
  abbrev row_limit : ℕ
  row_limit = length image.rules + length image.notes + length image.externals + length image.strings + length image.splits + length image.edges + length image.outputs + 1

  rows-past : (section k : ℕ) → row_limit ≤ k → index_passes image unused section k ≡ true
  rows-past section k h =
      chosen (section == 0) _ _ (both-true (row_passes image (is_good_rule image k) image.rules k) (nat_lt 0 k) (is_good_without_rules image) (row-past image (is_good_rule image k) image.rules k (omega (arith, h))) ((Decides-ltb 0 k).1 (omega (arith, h))))
      (chosen (section == 1) _ _ (row-past image (is_good_note image) image.notes k (omega (arith, h)))
      (chosen (section == 2) _ _ (row-past image (is_good_external image) image.externals k (omega (arith, h)))
      (chosen (section == 3) _ _ (row-past image (is_good_string image k) image.strings k (omega (arith, h)))
      (chosen (section == 4) _ _ (row-past image (is_good_split image (option_map_or (λ sum. sum) (slice_get unused k) 0)) image.splits k (omega (arith, h)))
      (chosen (section == 9) _ _ (row-past image (is_good_edge image) image.edges k (omega (arith, h)))
      (chosen (section == 10) _ _ (row-past image (is_good_output image) image.outputs k (omega (arith, h))) refl))))))

  no-rows : (section k : ℕ) → 11 ≤ section → index_passes image unused section k ≡ true
  no-rows section k h =
      skipped (section == 0) _ _ (differs section 0 (omega (arith, h)))
      (skipped (section == 1) _ _ (differs section 1 (omega (arith, h)))
      (skipped (section == 2) _ _ (differs section 2 (omega (arith, h)))
      (skipped (section == 3) _ _ (differs section 3 (omega (arith, h)))
      (skipped (section == 4) _ _ (differs section 4 (omega (arith, h)))
      (skipped (section == 9) _ _ (differs section 9 (omega (arith, h)))
      (skipped (section == 10) _ _ (differs section 10 (omega (arith, h))) refl))))))

-- ---- code

code-least : (image : Image) (rule : ℕ) → ((place : ℕ) → CodePasses image rule place) ⊎ Least (CodePasses image rule)
code-least image rule = by-row (slice_get image.rules rule) refl
  where
    abbrev-none : (row : RuleRow) → ◌≡◌ {A = Option RuleRow} None (Some row) → ⊥
    abbrev-none row h = cc

    some-is : (a b : RuleRow) → ◌≡◌ {A = Option RuleRow} (Some a) (Some b) → a ≡ b
    some-is a b h = cc

    number-is : (a b : ℕ) → ◌≡◌ {A = Option ℕ} (Some a) (Some b) → a ≡ b
    number-is a b h = cc

    no-number : (a : ℕ) → ◌≡◌ {A = Option ℕ} None (Some a) → ⊥
    no-number a h = cc

    by-fault : (row : RuleRow) → slice_get image.rules rule ≡ Some row → (o : Option ℕ) → code_fault image rule (code_of image row) ≡ o
        → ((place : ℕ) → CodePasses image rule place) ⊎ Least (CodePasses image rule)
    by-fault row e None f = inl (λ place other g h. no-number place (sym f ∙ ap (λ r. code_fault image rule (code_of image r)) (some-is row other (sym e ∙ g)) ∙ h))
    by-fault row e (Some q) f = inr (
      q,
      λ passes. passes row e f,
      λ place b other g h. absurd (omega (arith, b, number-is q place (sym f ∙ ap (λ r. code_fault image rule (code_of image r)) (some-is row other (sym e ∙ g)) ∙ h))),
    )

    by-row : (o : Option RuleRow) → slice_get image.rules rule ≡ o → ((place : ℕ) → CodePasses image rule place) ⊎ Least (CodePasses image rule)
    by-row None e = inl (λ place row g h. abbrev-none row (sym e ∙ g))
    by-row (Some row) e = by-fault row e (code_fault image rule (code_of image row)) refl

-- ---- all checks

-- the fault of the check behind so many others, with these numbers
abbrev fault_at : ℕ → ℕ → ℕ → ImageFault
fault_at zero a b = TooShort
fault_at (suc zero) a b = Magic
fault_at (suc (suc zero)) a b = Version
fault_at (suc (suc (suc zero))) a b = Length
fault_at (suc (suc (suc (suc zero)))) a b = Section a
fault_at (suc (suc (suc (suc (suc zero))))) a b = Index a b
fault_at (suc (suc (suc (suc (suc (suc zero)))))) a b = Name a b
fault_at (suc (suc (suc (suc (suc (suc (suc zero))))))) a b = Code a b
fault_at (suc (suc (suc (suc (suc (suc (suc (suc zero)))))))) a b = ProgramBad a
fault_at (suc (suc (suc (suc (suc (suc (suc (suc (suc c))))))))) a b = Node a

same-fault : (f : ImageFault) → f ≡ fault_at (check_of f - 1) (first_number f) (second_number f)
same-fault TooShort = refl
same-fault Magic = refl
same-fault Version = refl
same-fault Length = refl
same-fault (Section k) = refl
same-fault (Index section k) = refl
same-fault (Name section k) = refl
same-fault (Code rule place) = refl
same-fault (ProgramBad k) = refl
same-fault (Node n) = refl

some-check : (f : ImageFault) → (0 < check_of f) × (check_of f ≤ 10)
some-check TooShort = (omega arith, omega arith)
some-check Magic = (omega arith, omega arith)
some-check Version = (omega arith, omega arith)
some-check Length = (omega arith, omega arith)
some-check (Section k) = (omega arith, omega arith)
some-check (Index section k) = (omega arith, omega arith)
some-check (Name section k) = (omega arith, omega arith)
some-check (Code rule place) = (omega arith, omega arith)
some-check (ProgramBad k) = (omega arith, omega arith)
some-check (Node n) = (omega arith, omega arith)

-- its check and its numbers are no greater
not-above : (c a b : ℕ) → (check_of (fault_at c a b) ≤ c + 1) × (first_number (fault_at c a b) ≤ a) × (second_number (fault_at c a b) ≤ b)
not-above zero a b = (omega arith, omega arith, omega arith)
not-above (suc zero) a b = (omega arith, omega arith, omega arith)
not-above (suc (suc zero)) a b = (omega arith, omega arith, omega arith)
not-above (suc (suc (suc zero))) a b = (omega arith, omega arith, omega arith)
not-above (suc (suc (suc (suc zero)))) a b = (omega arith, omega arith, omega arith)
not-above (suc (suc (suc (suc (suc zero))))) a b = (omega arith, omega arith, omega arith)
not-above (suc (suc (suc (suc (suc (suc zero)))))) a b = (omega arith, omega arith, omega arith)
not-above (suc (suc (suc (suc (suc (suc (suc zero))))))) a b = (omega arith, omega arith, omega arith)
not-above (suc (suc (suc (suc (suc (suc (suc (suc zero)))))))) a b = (omega arith, omega arith, omega arith)
not-above (suc (suc (suc (suc (suc (suc (suc (suc (suc c))))))))) a b = (omega arith, omega arith, omega arith)

-- all numbers pass, or the least ones fail
abbrev Verdict : (ℕ → ℕ → Type 0) → Type 0
Verdict P =
    ((a b : ℕ) → P a b) ⊎ ((a : ℕ) × (b : ℕ) × (P a b → ⊥) × ((j : ℕ) → j < b → P a j) × ((i j : ℕ) → i < a → P i j))

once : {P : Type 0} → Known P → Verdict (λ a b. P)
once (inl p) = inl (λ a b. p)
once (inr n) = inr (0, 0, n, λ j h. absurd (omega (arith, h)), λ i j h. absurd (omega (arith, h)))

by-number : (P : ℕ → Type 0) → ((k : ℕ) → P k) ⊎ Least P → Verdict (λ a b. P a)
by-number P (inl all) = inl (λ a b. all a)
by-number P (inr l) = inr (l.0, 0, l.1, λ j h. absurd (omega (arith, h)), λ i j h. l.2 i h)

abbrev AllOf : (ℕ → ℕ → Type 0) → ℕ → Type 0
AllOf P a = (b : ℕ) → P a b

known-column : (P : ℕ → Type 0) → ((b : ℕ) → P b) ⊎ Least P → Known ((b : ℕ) → P b)
known-column P (inl all) = inl all
known-column P (inr l) = inr (λ row. l.1 (row l.0))

in-row : (P : ℕ → ℕ → Type 0) (l : Least (AllOf P)) → ((b : ℕ) → P l.0 b) ⊎ Least (P l.0) → Verdict P
in-row P l (inl all) = absurd (l.1 all)
in-row P l (inr m) = inr (l.0, m.0, m.1, m.2, λ i j h. l.2 i h j)

by-rows : (P : ℕ → ℕ → Type 0) → ((a : ℕ) → ((b : ℕ) → P a b) ⊎ Least (P a)) → ((a : ℕ) → AllOf P a) ⊎ Least (AllOf P) → Verdict P
by-rows P column (inl all) = inl all
by-rows P column (inr l) = in-row P l (column l.0)

by-numbers : (P : ℕ → ℕ → Type 0) → ((a : ℕ) → ((b : ℕ) → P a b) ⊎ Least (P a)) → (n : ℕ) → ((a : ℕ) → n ≤ a → (b : ℕ) → P a b) → Verdict P
by-numbers P column n past = by-rows P column (least (AllOf P) (λ a. known-column (P a) (column a)) n past)

module _ (bytes : List ℕ) where
  abbrev here : Image
  here = image_in bytes

  verdict-of-section : ((k : ℕ) → Passes bytes (Section k)) ⊎ Least (λ k. Passes bytes (Section k))
  verdict-of-section = least (λ k. Passes bytes (Section k)) known 14 (λ k h less. absurd (omega (arith, h, less)))
    where
      known : (k : ℕ) → Known (Passes bytes (Section k))
      known k =
          known-if (known-less k 14)
          (known-like (λ h. record { inside = h.0; last = h.1.0; rules = h.1.1.0; strings = h.1.1.1.0; nodes = h.1.1.1.1 }) (λ h. (h.inside, (h.last, (h.rules, (h.strings, h.nodes)))))
          (known-and (known-most (sections.end_of bytes k) (length bytes))
          (known-and (known-if (known-equal k 13) (known-equal (sections.end_of bytes k) (length bytes)))
          (known-and (known-if (known-equal k 0) (known-most (sections.rows_of bytes k) sections.most_rules))
          (known-and (known-if (known-equal k 3) (known-most (sections.rows_of bytes k) sections.most_rules))
          (known-if (known-equal k 8) (known-less 0 (sections.rows_of bytes k))))))))

  verdict : (c : ℕ) → Verdict (λ a b. Passes bytes (fault_at c a b))
  verdict zero = once (known-most header_length (length bytes))
  verdict (suc zero) = once (known-bytes (take 3 bytes) magic)
  verdict (suc (suc zero)) = once (known-true ((sections.version_in bytes == 1) || (sections.version_in bytes == 2)))
  verdict (suc (suc (suc zero))) = once (known-and (known-equal (sections.length_in bytes) (length bytes)) (known-most (sections.length_in bytes) sections.most_bytes))
  verdict (suc (suc (suc (suc zero)))) = by-number (λ k. Passes bytes (Section k)) verdict-of-section
  verdict (suc (suc (suc (suc (suc zero))))) =
      by-numbers (λ a b. index_passes here (zeros_in bytes) a b ≡ true)
      (λ a. least (λ b. index_passes here (zeros_in bytes) a b ≡ true) (λ b. known-true (index_passes here (zeros_in bytes) a b)) (row_limit here (zeros_in bytes)) (λ b h. rows-past here (zeros_in bytes) a b h))
      11 (λ a h b. no-rows here (zeros_in bytes) a b h)
  verdict (suc (suc (suc (suc (suc (suc zero)))))) =
      by-numbers (NamePasses here)
      (λ a. least (NamePasses here a) (known-name here a) (length here.rules + length here.notes + length here.externals + length here.strings) (λ b h. names-past here a b h))
      4 (λ a h b. no-names here a b h)
  verdict (suc (suc (suc (suc (suc (suc (suc zero))))))) =
      by-numbers (CodePasses here) (code-least here) (length here.rules) (λ a h b. at-past (λ row. code_fault here a (code_of here row) ≢ Some b) here.rules a h)
  verdict (suc (suc (suc (suc (suc (suc (suc (suc zero)))))))) =
      by-number (ProgramPasses here)
      (least (ProgramPasses here) (known-program-passes here) (length here.programs + 1)
      (λ k h. record { program = at-past (IsProgram here k) here.programs k (omega (arith, h)); none = λ e. absurd (omega (arith, h, e)) }))
  verdict (suc (suc (suc (suc (suc (suc (suc (suc (suc c))))))))) =
      by-number (NodePasses here) (least (NodePasses here) (known-node here) (length here.nodes) (λ n h. at-past (IsNode here n) here.nodes n h))

  -- check c passes at all numbers
  abbrev AllPass : ℕ → Type 0
  AllPass c = (a b : ℕ) → Passes bytes (fault_at c a b)

  known-all-pass : (c : ℕ) → Known (AllPass c)
  known-all-pass c = by (verdict c)
    where
      by : Verdict (λ a b. Passes bytes (fault_at c a b)) → Known (AllPass c)
      by (inl all) = inl all
      by (inr v) = inr (λ h. v.2 (h v.0 v.1))

  -- the answer of all checks
  abbrev Answered : Type 0
  Answered = (answer : Option ImageFault) × IsAnswer bytes answer

  by-canon : (f : ImageFault) → Passes bytes (fault_at (check_of f - 1) (first_number f) (second_number f)) → Passes bytes f
  by-canon f h = subst (Passes bytes) (sym (same-fault f)) h

  passed : ((c : ℕ) → c < 10 → AllPass c) → IsWellformed bytes
  passed all f = let s = some-check f in by-canon f (all (check_of f - 1) (omega (arith, s.0, s.1)) (first_number f) (second_number f))

  module _ (c a b : ℕ) (before : (j : ℕ) → j < c → AllPass j) (column : (j : ℕ) → j < b → Passes bytes (fault_at c a j)) (rows : (i j : ℕ) → i < a → Passes bytes (fault_at c i j)) where
    at-check : (F S i j : ℕ) → F ≤ a → S ≤ b → (i < F) ⊎ ((i ≡ F) × (j < S)) → Passes bytes (fault_at c i j)
    at-check F S i j f s (inl l) = rows i j (omega (arith, f, l))
    at-check F S i j f s (inr h) =
        ⊎_elim (λ g. rows i j g) (λ g. let e : a ≡ i = omega (arith, f, g, h.0) in subst (λ (n : ℕ). Passes bytes (fault_at c n j)) e (column j (omega (arith, s, h.1)))) (cases_lt i a)

    in-check : (F S d i j : ℕ) → F ≤ a → S ≤ b → d ≤ c → (i < F) ⊎ ((i ≡ F) × (j < S)) → Passes bytes (fault_at d i j)
    in-check F S d i j f s low h =
        ⊎_elim (λ g. before d g i j) (λ g. let e : c ≡ d = omega (arith, low, g) in subst (λ (n : ℕ). Passes bytes (fault_at n i j)) e (at-check F S i j f s h)) (cases_lt d c)

    first-of : (e : ImageFault) → ComesBefore e (fault_at c a b) → Passes bytes e
    first-of e h = by-canon e (by h)
      where
        by : ComesBefore e (fault_at c a b) → Passes bytes (fault_at (check_of e - 1) (first_number e) (second_number e))
        by (inl less) = before (check_of e - 1) (omega (arith, less, (some-check e).0, (not-above c a b).0)) (first_number e) (second_number e)
        by (inr same) =
            in-check (first_number (fault_at c a b)) (second_number (fault_at c a b)) (check_of e - 1) (first_number e) (second_number e) (not-above c a b).1 (not-above c a b).2
            (omega (arith, same.0, (not-above c a b).0)) same.1

  pub answered : Answered
  answered = by (least-below AllPass known-all-pass 10)
    where
      by : ((c : ℕ) → c < 10 → AllPass c) ⊎ Least AllPass → Answered
      by (inl all) = (None, passed all)
      by (inr l) = at (verdict l.0)
        where
          at : Verdict (λ a b. Passes bytes (fault_at l.0 a b)) → Answered
          at (inl all) = absurd (l.1 all)
          at (inr v) = (Some (fault_at l.0 v.0 v.1), record { fails = v.2; first = first-of l.0 v.0 v.1 l.2 v.3 v.4 })
