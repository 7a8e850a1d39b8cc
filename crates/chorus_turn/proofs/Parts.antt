-- The entries of a seat, and those made at a place.
use Rattle.std.proofs.Common.{◌≡◌, ◌≢◌, ℕ, suc, ◌+◌, ◌<◌, ◌≤◌, eqb, Bool, true, false, cond, List, [], ◌∷◌, ◌++◌, map, length, sym, refl, ap, ◌∙◌, arith, eq-eqb, ne_eqb, lt_of_not-le}
use Rattle.std.proofs.lemmas.List.{append_cancel_left, map-append, length-map}
use Rattle.std.proofs.lemmas.List.Elements.{filter-append, All-nil, All-cons, All-head, All-tail, All-same}
use Rattle.std.specs.List.{All, Contains, filter}
use mathlib.Core.Logic.{dite}
use native.Mathlib.Decide.{dec_le, ℕ_discrete}
use Rattle.chorus_entry.specs.declared.entry.Entry.{Entry}
use Rattle.chorus_turn.specs.declared.knowledge.Remarked.{Remarked}
use Rattle.chorus_turn.specs.declared.knowledge.Placed.{Placed}
use Rattle.chorus_turn.specs.declared.knowledge.Note.{Note}
use Rattle.chorus_turn.specs.Lists.{times}
use Rattle.chorus_turn.specs.Journals.{GrowsBy, entries_of, by_seat, IsBy, with_place, at_place}
use Rattle.chorus_turn.specs.Knowing.{seats_of}
use Rattle.chorus_turn.proofs.Counts.{one-same, one-other}

module _ {R : Type 0} where
  pub by_seat-append : (q : ℕ) (a b : List (Remarked R)) → by_seat q (a ++ b) ≡ by_seat q a ++ by_seat q b
  by_seat-append q a b = filter-append (λ (r : Remarked R). eqb r.entry.seat q) a b

  pub by_seat-own : (q : ℕ) (es : List (Remarked R)) → IsBy q es → by_seat q es ≡ es
  by_seat-own q [] h = refl
  by_seat-own q (e ∷ es) h = ap (λ t. cond t (e ∷ by_seat q es) (by_seat q es)) (eq-eqb e.entry.seat q (All-head (λ (r : Remarked R). r.entry.seat ≡ q) e es h)) ∙ ap (λ l. e ∷ l) (by_seat-own q es (All-tail (λ (r : Remarked R). r.entry.seat ≡ q) e es h))

  pub by_seat-other : (q h : ℕ) (es : List (Remarked R)) → IsBy h es → q ≢ h → by_seat q es ≡ []
  by_seat-other q h [] a apart = refl
  by_seat-other q h (e ∷ es) a apart = ap (λ t. cond t (e ∷ by_seat q es) (by_seat q es)) (ne_eqb e.entry.seat q (λ i. apart (sym i ∙ All-head (λ (r : Remarked R). r.entry.seat ≡ h) e es a))) ∙ by_seat-other q h es (All-tail (λ (r : Remarked R). r.entry.seat ≡ h) e es a) apart

  pub at_place-append : (p : ℕ) (a b : List (Placed R)) → at_place p (a ++ b) ≡ at_place p a ++ at_place p b
  at_place-append p a b = ap (map (λ (m : Placed R). m.remarked)) (filter-append (λ (m : Placed R). eqb m.place p) a b) ∙ map-append (λ (m : Placed R). m.remarked) (filter (λ (m : Placed R). eqb m.place p) a) (filter (λ (m : Placed R). eqb m.place p) b)

  abbrev kept_at : Bool → Remarked R → List (Placed R) → ℕ → List (List (Remarked R)) → List (Remarked R)
  kept_at b e ms p seen = map (λ (m : Placed R). m.remarked) (cond b (record { place = p; seen = seen; remarked = e } ∷ ms) ms)

  pub at_place-with_place : (p : ℕ) (seen : List (List (Remarked R))) (es : List (Remarked R)) → at_place p (with_place p seen es) ≡ es
  at_place-with_place p seen [] = refl
  at_place-with_place p seen (e ∷ es) = ap (λ b. kept_at b e (filter (λ (m : Placed R). eqb m.place p) (with_place p seen es)) p seen) (eq-eqb p p refl) ∙ ap (λ l. e ∷ l) (at_place-with_place p seen es)

  pub at_place-elsewhere : (p q : ℕ) (seen : List (List (Remarked R))) (es : List (Remarked R)) → p ≢ q → at_place q (with_place p seen es) ≡ []
  at_place-elsewhere p q seen [] apart = refl
  at_place-elsewhere p q seen (e ∷ es) apart = ap (λ b. kept_at b e (filter (λ (m : Placed R). eqb m.place q) (with_place p seen es)) p seen) (ne_eqb p q apart) ∙ at_place-elsewhere p q seen es apart

  pub length-seats_of : (ns : List (Note R)) → length (seats_of ns) ≡ length ns
  length-seats_of ns = length-map ns (λ (n : Note R). n.seat)

  pub times-seats_of : (q : ℕ) (a b : List (Note R)) → times q (seats_of (a ++ b)) ≡ times q (seats_of a) + times q (seats_of b)
  times-seats_of q [] b = omega arith
  times-seats_of q (n ∷ ns) b = let more = times-seats_of q ns b in omega arith

  -- a fact about the notes stays where no note has the number h
  pub notes_apart : (h : ℕ) (P Q : Note R → Type 0) (ns : List (Note R)) → times h (seats_of ns) ≡ 0 → ((n : Note R) → n.seat ≢ h → P n → Q n) → All P ns → All Q ns
  notes_apart h P Q [] none f a = All-nil Q
  notes_apart h P Q (n ∷ ns) none f a = All-cons Q n ns (f n (λ e. let t = one-same h n.seat e in absurd (omega arith)) (All-head P n ns a)) (notes_apart h P Q ns (omega arith) f (All-tail P n ns a))

  -- where the entries are of a seat, so they are with their remarks
  pub added_by : (q : ℕ) (news : List (Remarked R)) → All (λ (e : Entry). e.seat ≡ q) (entries_of news) → IsBy q news
  added_by q [] a = All-nil (λ (r : Remarked R). r.entry.seat ≡ q)
  added_by q (r ∷ rs) a =
      All-cons (λ (x : Remarked R). x.entry.seat ≡ q) r rs (All-head (λ (e : Entry). e.seat ≡ q) r.entry (entries_of rs) a) (added_by q rs (All-tail (λ (e : Entry). e.seat ≡ q) r.entry (entries_of rs) a))

  -- what a job has added to a journal is by the seat
  pub news_by : (q : ℕ) (log news : List (Remarked R)) (old new : List Entry) → GrowsBy q old new → entries_of log ≡ old → entries_of (log ++ news) ≡ new → IsBy q news
  news_by q log news old new grows was is = added_by q news (All-same (λ (e : Entry). e.seat ≡ q) (entries_of news) grows.0
      (append_cancel_left old (entries_of news) grows.0 (ap (λ l. l ++ entries_of news) (sym was) ∙ sym (map-append (λ (r : Remarked R). r.entry) log news) ∙ is ∙ grows.1)) grows.2)

  rest_nothing : (b : Bool) (x : Remarked R) (xs : List (Remarked R)) → cond b (x ∷ xs) xs ≡ [] → xs ≡ []
  rest_nothing true x xs e = let l = ap (λ (m : List (Remarked R)). length m) e in absurd (omega arith)
  rest_nothing false x xs e = e

  -- where no number from n on has an entry, each is by a number below n
  pub seats_below : (n : ℕ) (es : List (Remarked R)) → ((q : ℕ) → n ≤ q → by_seat q es ≡ []) → All (λ (r : Remarked R). r.entry.seat < n) es
  seats_below n [] none = All-nil (λ (r : Remarked R). r.entry.seat < n)
  seats_below n (e ∷ es) none = let rest = by_seat e.entry.seat es in All-cons (λ (r : Remarked R). r.entry.seat < n) e es
      (dite (dec_le n e.entry.seat) (λ le. let l = ap (λ (m : List (Remarked R)). length m) (sym (ap (λ t. cond t (e ∷ rest) rest) (eq-eqb e.entry.seat e.entry.seat refl)) ∙ none e.entry.seat le) in absurd (omega arith)) (λ more. lt_of_not-le more))
      (seats_below n es (λ q le. rest_nothing (eqb e.entry.seat q) e (by_seat q es) (none q le)))

-- a number that is counted in a list stands in it
pub times_contains : (q : ℕ) (xs : List ℕ) → 1 ≤ times q xs → Contains xs q
times_contains q [] le = absurd (omega arith)
times_contains q (x ∷ xs) le = dite (ℕ_discrete x q) (λ e. (0, omega arith, e))
    (λ apart. let none = one-other q x apart in let there = times_contains q xs (omega arith) in (suc there.0, omega arith, there.2))
