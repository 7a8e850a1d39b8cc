-- For those who write jobs on a state whose remarks always fit.
use Rattle.std.proofs.Common.{◌≡◌, ℕ, List, [], ◌∷◌, ◌++◌, map, sym, refl, ap, ◌∙◌}
use Rattle.std.proofs.lemmas.List.{map-append}
use Rattle.std.proofs.lemmas.List.Elements.{All-map}
use Rattle.std.specs.List.{All}
use Rattle.chorus_entry.specs.declared.entry.Entry.{Entry}
use Rattle.chorus_turn.specs.declared.knowledge.Remarked.{Remarked}
use Rattle.chorus_turn.specs.Journals.{GrowsBy, entries_of}

module _ {R : Type 0} (remark : R) where
  abbrev remarked : List Entry → List (Remarked R)
  remarked es = map (λ (e : Entry). record { entry = e; remark = remark }) es

  entries_of-remarked : (es : List Entry) → entries_of (remarked es) ≡ es
  entries_of-remarked [] = refl
  entries_of-remarked (e ∷ es) = ap (λ l. e ∷ l) (entries_of-remarked es)

  -- the entries that a job added, each with this remark, go on with any journal that was there
  pub remarks_added : (q : ℕ) (old new : List Entry) → GrowsBy q old new → (log : List (Remarked R)) → entries_of log ≡ old → (news : List (Remarked R)) × (entries_of (log ++ news) ≡ new) × All (λ (r : Remarked R). r.remark ≡ remark) news
  remarks_added q old new grows log is = let added : List Entry = grows.0 in
      (remarked added, map-append (λ (r : Remarked R). r.entry) log (remarked added) ∙ ap (λ l. l ++ entries_of (remarked added)) is ∙ ap (λ l. old ++ l) (entries_of-remarked added) ∙ sym grows.1, All-map (λ (r : Remarked R). r.remark ≡ remark) (λ (e : Entry). record { entry = e; remark = remark }) added (λ k d inside. refl))
