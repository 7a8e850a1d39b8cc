-- What was found and what is pending stays the same at each step.
use Rattle.std.proofs.Common.{ℕ, zero, suc, ◌≡◌, Bool, true, false, cond, List, [], ◌∷◌, ◌++◌, refl, sym, ◌∙◌, ap, append_assoc}
use Rattle.std.specs.List.{flat_map}
use Rattle.std.proofs.lemmas.List.{append-nil}
use Rattle.std.proofs.lemmas.List.Concat.{flat_map-cons}
use Rattle.law_explore.specs.Search.{System, state_after, fits, or_deeper, ends_from}
use Rattle.law_explore.specs.Walk.{Frame, Walk, come_by, come_to, taken_from, step_with, below, pending, found_and_pending, WalkKeeps}

module _ {S E : Type 0} (y : System S E) (next : S → List E) where
  coming : (depth : ℕ) (h : List E) (w : Walk E) → found_and_pending y next (come_to y next depth h w) ≡ w.found ++ (ends_from y next depth h ++ pending y next w.frames)
  coming zero h w = refl
  coming (suc depth) h w = by (next (state_after y h)) refl
    where
      by : (es : List E) → next (state_after y h) ≡ es
          → found_and_pending y next (come_by y next depth h es w) ≡ w.found ++ (or_deeper y next h es (flat_map (λ (e : E). cond (fits y e h) (ends_from y next depth (e ∷ h)) []) (next (state_after y h))) ++ pending y next w.frames)
      by [] end = append_assoc w.found (h ∷ []) (pending y next w.frames)
      by (x ∷ es) end =
          ap (λ (xs : List E). w.found ++ (flat_map (λ (e : E). cond (fits y e h) (ends_from y next depth (e ∷ h)) []) xs ++ pending y next w.frames)) (sym end)

  taking : (f : Frame E) (es : List E) (fs : List (Frame E)) (found : List (List E))
      → found_and_pending y next (taken_from y next f es fs found) ≡ found ++ (flat_map (below y next f) es ++ pending y next fs)
  taking f [] fs found = refl
  taking f (e ∷ es) fs found = by (fits y e f.history) ∙ ap (λ (xs : List (List E)). found ++ (xs ++ pending y next fs)) (sym (flat_map-cons (below y next f) e es))
    where
      by : (b : Bool)
          → found_and_pending y next (cond b (come_to y next f.depth (e ∷ f.history) (record { found = found; frames = record { depth = f.depth; history = f.history; rest = es } ∷ fs })) (record { found = found; frames = record { depth = f.depth; history = f.history; rest = es } ∷ fs }))
          ≡ found ++ ((cond b (ends_from y next f.depth (e ∷ f.history)) [] ++ flat_map (below y next f) es) ++ pending y next fs)
      by true =
          coming f.depth (e ∷ f.history) (record { found = found; frames = record { depth = f.depth; history = f.history; rest = es } ∷ fs })
          ∙ ap (λ xs. found ++ xs) (sym (append_assoc (ends_from y next f.depth (e ∷ f.history)) (flat_map (below y next f) es) (pending y next fs)))
      by false = refl

  stepping : (found : List (List E)) (fs : List (Frame E)) → found_and_pending y next (step_with y next found fs) ≡ found ++ pending y next fs
  stepping found [] = refl
  stepping found (f ∷ fs) = taking f f.rest fs found

  pub walk_keeps : WalkKeeps y next
  walk_keeps =
      ((λ depth. coming depth [] (record { found = []; frames = [] }) ∙ append-nil (ends_from y next depth [])), (λ w. stepping w.found w.frames))
