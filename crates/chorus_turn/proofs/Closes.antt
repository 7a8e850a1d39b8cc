-- What the rule says once all passes have ended in one.
use Rattle.std.proofs.Common.{◌≡◌, ℕ, ◌+◌, ◌<◌, ◌≤◌, true, List, ◌∷◌, get_or, length, sym, ap, ◌∙◌, subst, arith}
use mathlib.Core.Option.{some}
use mathlib.Core.Logic.{dite}
use native.Mathlib.Decide.{ℕ_discrete}
use lib.ListN.{get_elem?}
use Rattle.std.specs.List.{Contains}
use Rattle.std.specs.Prelude.{Option, Some}
use Rattle.atomic_table.specs.Table.{State, Final, Seen}
use Rattle.chorus_entry.specs.declared.entry.Entry.{Entry}
use Rattle.chorus_turn.specs.declared.knowledge.Remarked.{Remarked}
use Rattle.chorus_turn.specs.declared.view.View.{View}
use Rattle.chorus_turn.specs.Lists.{times}
use Rattle.chorus_turn.specs.Journals.{IsJournal, at_place}
use Rattle.chorus_turn.specs.Knowing.{seats_of}
use Rattle.chorus_turn.specs.Rule.{word_of, claims, Turned, IsAtRest}
use Rattle.chorus_turn.specs.Calls.{IsMarkAt, Finished}
use Rattle.chorus_turn.proofs.Counts.{total-alone, times-none}
use Rattle.chorus_turn.proofs.Parts.{seats_below, times_contains}
use Rattle.chorus_turn.specs.Lists.{somes}
use Rattle.chorus_turn.proofs.Rows.{length-somes, somes_same, slice_get_inside, somes_of_all}
use Rattle.chorus_turn.proofs.Takes.{shows}
use Rattle.chorus_turn.proofs.Views.{times_claims, length-claims, holder_apart, alone}

module _ {S M R : Type 0} (entries : S → List Entry) (fits : S → List (Remarked R) → Type 0) (mark : S → M) (handed : List S) where
  abbrev journal : S → List (Remarked R) → Type 0
  journal = IsJournal entries fits

  abbrev marked : ℕ → S → Type 0
  marked p x = IsMarkAt mark handed p (mark x)

  module _ (s : State (Option S) (View R)) (r : Turned journal marked s) (id : ℕ) (v : View R) (at : get_elem? s.views id ≡ some v) (rest : IsAtRest v) (keeper : v.knows.keeper ≡ true) (last : v.knows.made ≤ length v.knows.notes + 1) where
    count : v.knows.made ≡ get_or s.words 0 0
    count = (r.each id v at rest.0).counts keeper

    -- a holder would be one more live view
    all_free : (k : ℕ) → k < length s.homes → get_or s.words (word_of (k + 1)) 0 ≡ 0
    all_free k inside = dite (ℕ_discrete (get_or s.words (word_of (k + 1)) 0) 0) (λ z. z)
        (λ taken. let held = r.out k inside taken in let c = count in absurd (alone (get_or s.words 0 0) s.views r.numbered id held.0 v held.1 at rest.0 held.2 held.3 (holder_apart s.views id (k + 1) v at (λ e. let z = rest.1 in omega arith) held) (omega arith)))

    home : (k : ℕ) → k < length s.homes → (x : S) × (get_elem? s.homes k ≡ some (some (Some x))) × journal x (r.log (k + 1)) × marked (k + 1) x
    home k inside = r.home k inside (all_free k inside)

    every : (q : ℕ) → q < v.knows.made → Contains (v.knows.seat ∷ seats_of v.knows.notes) q
    every q less = let m = count in let e = r.numbered.every q (omega arith) in let a = length-claims v rest.0 in let c = r.numbered.count in
        let t = total-alone (λ (y : View R). times q (claims y)) (λ (y : View R). length (claims y)) (λ y z. times-none q (claims y) z) s.views id v at (omega arith) in
        let u = times_claims q v rest.0 in let d = times-none q v.drawn rest.2 in times_contains q (v.knows.seat ∷ seats_of v.knows.notes) (omega arith)

    finished : (xs : List S) → length xs ≡ length s.homes → length handed ≡ length s.homes → ((k : ℕ) (y : Option S) → get_elem? s.homes k ≡ some (some y) → get_elem? (somes xs) k ≡ some y) → Finished entries fits mark handed xs v.knows
    finished xs long long' are = record {
      log = r.log;
      all_back = long ∙ sym long';
      marks = λ k x e. let inside = slice_get_inside xs k x e in let h = home k (omega arith) in subst (λ (y : S). marked (k + 1) y) (somes_same xs k h.0 x (are k (Some h.0) h.1) e) h.3;
      journals = λ k x e. let inside = slice_get_inside xs k x e in let h = home k (omega arith) in subst (λ (y : S). journal y (r.log (k + 1))) (somes_same xs k h.0 x (are k (Some h.0) h.1) e) h.2;
      shows = λ k inside. shows journal marked s r id (k + 1) v at rest.0;
      seats = λ k inside. seats_below v.knows.made (r.log (k + 1)) (λ q le. let m = count in r.made (k + 1) q ∙ ap (at_place (k + 1)) (r.unmade q (omega arith)));
      every = every;
    }

  abbrev Ends : ℕ → View R → List ℕ → List (Option S) → Type 0
  Ends id v ws ys = Final (Seen (Turned journal marked) id v) ws ys

  -- each slot has a state
  pub full_at_close : (id : ℕ) (v : View R) (ws : List ℕ) (ys : List (Option S)) → Ends id v ws ys → IsAtRest v → v.knows.keeper ≡ true → v.knows.made ≤ length v.knows.notes + 1 → (xs : List S) × (ys ≡ somes xs)
  full_at_close id v ws ys e rest keeper last = somes_of_all ys (λ k lt. let s = e.0 in let r = e.1.0 in let long = e.3 in let inside : k < length s.homes = omega arith in let h = home s r id v e.1.1 rest keeper last k inside in (h.0, e.4 k (Some h.0) h.1))

  pub finishes : (id : ℕ) (v : View R) (ws : List ℕ) (ys : List (Option S)) (xs : List S) → Ends id v ws ys → IsAtRest v → v.knows.keeper ≡ true → v.knows.made ≤ length v.knows.notes + 1 → somes xs ≡ ys → length handed ≡ length ys → Finished entries fits mark handed xs v.knows
  finishes id v ws ys xs e rest keeper last are long = let s = e.0 in let r = e.1.0 in let a = e.3 in let b = length-somes xs in let c = ap (λ (l : List (Option S)). length l) are in
      finished s r id v e.1.1 rest keeper last xs (omega arith) (omega arith) (λ k y h. ap (λ (l : List (Option S)). get_elem? l k) are ∙ e.4 k y h)
