-- Where a byte leads.
use Rattle.std.proofs.Common.{◌≡◌, ◌≢◌, ℕ, suc, ◌+◌, ◌*◌, ◌<◌, inl, inr, Some, None, refl, sym, ap, ◌∙◌, subst, arith, List, length, ◌≤◌, get_or}
use Rattle.std.specs.Prelude.{slice_get}
use Rattle.std.proofs.lemmas.Option.{none-some, slice_get-get_or}
use Rattle.yr_rows.specs.Walk.{Asks}
use Rattle.yr_rows.specs.Nodes.{edge_of, link_of}
use Rattle.yr_automaton.specs.Rows as rows
use Rattle.yr_image.specs.Image.{Image}
use Rattle.yr_image.specs.Views.{image_of}
use Rattle.yr_search.specs.declared.scene.Scene.{Scene}
use Rattle.yr_search.specs.Taking.{IsGoodScene}
use Rattle.yr_search.specs.Skips.{LeadsOn}

-- the scene's failure links are the image's
pub scene_link : (scene : Scene) → IsGoodScene scene → (n : ℕ) → rows.link scene.automaton n ≡ link_of (image_of scene.view.now).nodes n
scene_link scene good n = ap (λ ns. link_of ns n) good.nodes

-- an edge leads to its target
pub leads_edge : (image : Image) (n b x : ℕ) → edge_of image.nodes image.edges n b ≡ Some x → x < length image.nodes → LeadsOn image n b x
leads_edge image n b x e lt = (1, inl (refl, e), lt)

-- without one node 0 stays
pub leads_root : (image : Image) (n b : ℕ) → n ≡ 0 → edge_of image.nodes image.edges n b ≡ None → 0 < length image.nodes → LeadsOn image n b 0
leads_root image n b root none lt = (1, inr (inl (refl, none, root, refl)), lt)

-- and at another node the failure node is asked
pub leads_up : (image : Image) (n up b x : ℕ) → n ≢ 0 → edge_of image.nodes image.edges n b ≡ None → link_of image.nodes n ≡ up → LeadsOn image up b x → LeadsOn image n b x
leads_up image n up b x some none link h =
    (suc h.0, inr (inr (none, some, subst (λ m. Asks (edge_of image.nodes image.edges) (link_of image.nodes) h.0 m b x) (sym link) h.1)), h.2)

-- a node without a row is not node 0
pub not_root : (rows : List ℕ) (n b : ℕ) → b < 256 → 256 ≤ length rows → slice_get rows (n * 256 + b) ≡ None → n ≢ 0
not_root rows n b small long none root =
    none-some (get_or rows (n * 256 + b) 0) (sym none ∙ slice_get-get_or rows (n * 256 + b) 0 (omega (arith, small, long, root)))
