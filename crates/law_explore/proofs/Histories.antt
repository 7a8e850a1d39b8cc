-- The list of all histories of so many moves.
-- r is a race, h and k are histories, m is a move and ms are moves.
use Rattle.std.proofs.Common.{ℕ, zero, suc, ◌≡◌, Bool, true, false, cond, List, [], ◌∷◌, length, map, ◌⊎◌, inl, inr, refl, ap, subst, arith}
use Rattle.std.specs.List.{Contains, filter}
use Rattle.law_explore.specs.declared.moves.Move.{Move}
use Rattle.law_explore.specs.Search.{IsHistory, state_after}
use Rattle.law_explore.specs.Races.{Race, Position, may_come, replaying, all_moves}
use Rattle.law_explore.specs.Positions.{next_behind}
use Rattle.law_explore.specs.Levels.{histories_of}
use Rattle.law_explore.proofs.Searching.{none, here, there, which, in-flat, of-flat}
use Rattle.law_explore.proofs.Exploring.{lists-next}

module _ (r : Race) where
  abbrev at : List Move → Position
  at h = state_after (replaying r) h

  abbrev History : List Move → Type 0
  History h = IsHistory (replaying r) h

  -- each of the moves may come behind the history
  abbrev pub AllMay : List Move → List Move → Type 0
  AllMay h [] = Unit {0}
  AllMay h (m ∷ ms) = (may_come r.net.layout m (at h) ≡ true) × AllMay h ms

  pub all-may : (h : List Move) → AllMay h (next_behind r h)
  all-may h = filtered (all_moves r.net.layout (at h).left)
    where
      by : (b : Bool) (m : Move) (ms : List Move) → may_come r.net.layout m (at h) ≡ b → AllMay h ms → AllMay h (cond b (m ∷ ms) ms)
      by true m ms e k = (e, k)
      by false m ms e k = k

      filtered : (ms : List Move) → AllMay h (filter (λ (m : Move). may_come r.net.layout m (at h)) ms)
      filtered [] = tt
      filtered (m ∷ ms) = by (may_come r.net.layout m (at h)) m (filter (λ (o : Move). may_come r.net.layout o (at h)) ms) refl (filtered ms)

  -- All histories are listed.

  in-map : (h ms : List Move) (m : Move) → Contains ms m → Contains (map (λ (o : Move). o ∷ h) ms) (m ∷ h)
  in-map h [] m k = absurd (none m k)
  in-map h (o ∷ ms) m k = by (which m o ms k) (in-map h ms m)
    where
      by : (o ≡ m) ⊎ Contains ms m → (Contains ms m → Contains (map (λ (x : Move). x ∷ h) ms) (m ∷ h)) → Contains ((o ∷ h) ∷ map (λ (x : Move). x ∷ h) ms) (m ∷ h)
      by (inl e) ih = subst (λ (x : Move). Contains ((o ∷ h) ∷ map (λ (y : Move). y ∷ h) ms) (x ∷ h)) e (here (o ∷ h) (map (λ (y : Move). y ∷ h) ms))
      by (inr j) ih = there (m ∷ h) (o ∷ h) (map (λ (x : Move). x ∷ h) ms) (ih j)

  of-map : (h ms : List Move) (k : List Move) → AllMay h ms → Contains (map (λ (o : Move). o ∷ h) ms) k → (m : Move) × ((may_come r.net.layout m (at h) ≡ true) × (m ∷ h ≡ k))
  of-map h [] k may c = absurd (none k c)
  of-map h (o ∷ ms) k may c = by (which k (o ∷ h) (map (λ (x : Move). x ∷ h) ms) c) (of-map h ms k may.1)
    where
      by : ((o ∷ h) ≡ k) ⊎ Contains (map (λ (x : Move). x ∷ h) ms) k → (Contains (map (λ (x : Move). x ∷ h) ms) k → (m : Move) × ((may_come r.net.layout m (at h) ≡ true) × (m ∷ h ≡ k)))
          → (m : Move) × ((may_come r.net.layout m (at h) ≡ true) × (m ∷ h ≡ k))
      by (inl e) ih = (o, (may.0, e))
      by (inr j) ih = ih j

  abbrev onward : List Move → List (List Move)
  onward h = map (λ (m : Move). m ∷ h) (next_behind r h)

  pub are-listed : (n : ℕ) (h : List Move) → History h → length h ≡ n → Contains (histories_of r n) h
  are-listed zero [] is e = here [] []
  are-listed zero (m ∷ h) is e = absurd (omega (arith, e))
  are-listed (suc n) [] is e = absurd (omega (arith, e))
  are-listed (suc n) (m ∷ h) is e =
      in-flat onward (histories_of r n) h (m ∷ h) (are-listed n h is.1 (omega (arith, e)))
      (in-map h (next_behind r h) m ((lists-next r (at h) m).0 is.0))

  pub no-other : (n : ℕ) (h : List Move) → Contains (histories_of r n) h → History h × (length h ≡ n)
  no-other zero h c = by (which h [] [] c)
    where
      by : ([] ≡ h) ⊎ Contains [] h → History h × (length h ≡ 0)
      by (inl e) = subst (λ (k : List Move). History k × (length k ≡ 0)) e (tt, refl)
      by (inr j) = absurd (none h j)
  no-other (suc n) h c =
      let k = of-flat onward (histories_of r n) h c in
      let before = no-other n k.0 k.1.0 in
      let m = of-map k.0 (next_behind r k.0) h (all-may k.0) k.1.1 in
      subst (λ (x : List Move). History x × (length x ≡ suc n)) m.1.1 ((m.1.0, before.0), ap suc before.1)
