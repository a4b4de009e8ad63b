use Rattle.std.proofs.Common.{◌≡◌, inl, inr, Some, length, refl, sym, ap, ◌∙◌, subst, arith}
use Rattle.std.specs.Prelude.{slice_get, Vec}
use Rattle.std.specs.declared.alloc.Global.{Global}
use Rattle.std.proofs.lemmas.Option.{slice_get_read, slice_get_within}
use Rattle.yr_answer.specs.MatchList.{Match}
use Rattle.yr_image.specs.declared.rows.StringRow.{StringRow}
use Rattle.yr_image.specs.Views.{shown_bytes, image_of}
use Rattle.yr_machine.specs.ImageMatches.{is_greatest}
use Rattle.yr_machine.proofs.CallerLemmas.{has_sections}
use Rattle.yr_hits.specs.Gathering.{IsSettled}
use Rattle.yr_hits.proofs.SectionLemmas.{string_rows}
use Rattle.yr_search.proofs.StateLemmas.{set_cases, set_length}
use Rattle.yr_search.proofs.FinalLemmas.{one_vec, one_string}
use Rattle.yr_search.proofs.gathering.settle_all.Goals as goal

pub string-flags-requires : goal.string-flags-requires
string-flags-requires c =
    let bytes = shown_bytes c.args.scene.now.view.now in
    let rows = string_rows bytes (has_sections bytes c.requires.scene.wellformed) in
    omega (arith, rows)

pub settle-requires : goal.settle-requires
settle-requires c =
    let bytes = shown_bytes c.args.scene.now.view.now in
    let rows = string_rows bytes (has_sections bytes c.requires.scene.wellformed) in
    let now = c.loop-k.lists.items in
    let k = c.loop-k.k in
    let v = c.index_mut.result.now in
    let inv = c.loop-k.invariant in
    let at = slice_get_read now (length now) k v refl (omega (arith, rows, inv.long, c.requires.lists, c.loop-k-test.true, c.rows-k-end.ensures)) c.index_mut.ensures.value in
    c.requires.short k v (inv.rest k v (omega arith) at)

pub loop-k-preserved : goal.loop-k-preserved
loop-k-preserved c =
    let image = image_of c.args.scene.now.view.now in
    let file = c.args.scene.now.file.now in
    let bytes = shown_bytes c.args.scene.now.view.now in
    let rows = string_rows bytes (has_sections bytes c.requires.scene.wellformed) in
    let now = c.loop-k.lists.items in
    let k = c.loop-k.k in
    let v = c.index_mut.result.now in
    let inv = c.loop-k.invariant in
    let at = slice_get_read now (length now) k v refl (omega (arith, rows, inv.long, c.requires.lists, c.loop-k-test.true, c.rows-k-end.ensures)) c.index_mut.ensures.value in
    let before : slice_get c.args.lists.now.items k ≡ Some v = inv.rest k v (omega arith) at in
    let w = c.settle.new.list in
    let row = c.string-flags.result in
    record {
      long = set_length now k w ∙ inv.long;
      done = λ j string v' w' lt is old new. elim (set_cases now k w j w' new) [
        | inl here ↦
            let same_v : v ≡ v' = one_vec (slice_get c.args.lists.now.items k) v v' before (ap (slice_get c.args.lists.now.items) (sym here.0) ∙ old) in
            let same_s : row ≡ string = one_string (slice_get image.strings k) row string c.string-flags.ensures (ap (slice_get image.strings) (sym here.0) ∙ is) in
            subst (λ (x : Vec Match Global). IsSettled (is_greatest image file string) v'.items x.items) here.1
            (subst (λ (x : Vec Match Global). IsSettled (is_greatest image file string) x.items w.items) same_v
            (subst (λ (s : StringRow). IsSettled (is_greatest image file s) v.items w.items) same_s c.settle.ensures))
        | inr there ↦ inv.done j string v' w' (omega (arith, lt, there.0)) is old there.1
      ];
      rest = λ j w' le new. elim (set_cases now k w j w' new) [
        | inl here ↦ absurd (omega (arith, le, here.0))
        | inr there ↦ inv.rest j w' (omega (arith, le)) there.1
      ];
    }

pub returns-clause-settled : goal.returns-clause-settled
returns-clause-settled c = λ j string v w is old new.
    let image = image_of c.args.scene.now.view.now in
    let bytes = shown_bytes c.args.scene.now.view.now in
    let rows = string_rows bytes (has_sections bytes c.requires.scene.wellformed) in
    c.loop-k.invariant.done j string v w (omega (arith, slice_get_within image.strings j string is, rows, c.loop-k-test.false, c.rows-k-end.ensures)) is old new
