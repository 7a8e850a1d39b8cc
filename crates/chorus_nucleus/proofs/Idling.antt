-- A round comes by one place more.
use Rattle.std.proofs.Common.{ℕ, zero, suc, ◌≡◌, ◌≢◌, ◌+◌, ◌-◌, ◌^◌, ◌<◌, min, Bool, true, List, [], ◌++◌, refl, sym, ◌∙◌, ap, ap₂, subst, inl, inr, arith}
use Rattle.std.specs.List.{All}
use Rattle.std.proofs.lemmas.List.{append-nil}
use Rattle.std.proofs.lemmas.Bool.{cases_eq}
use Rattle.chorus_ui.specs.declared.layout.Layout.{Layout}
use Rattle.chorus_ui.specs.Layout.{places}
use Rattle.chorus_calls.specs.Callers.{Seated}
use Rattle.law_machine.specs.PlaceState.{PlaceState}
use Rattle.chorus_turn.specs.declared.knowledge.Remarked.{Remarked}
use Rattle.chorus_turn.specs.declared.knowledge.Note.{Note}
use Rattle.chorus_turn.specs.declared.knowledge.Knowledge.{Knowledge}
use Rattle.chorus_turn.specs.Journals.{by_seat, at_place}
use Rattle.chorus_turn.specs.Knowing.{seen_at, Shows}
use Rattle.chorus_turn.proofs.Fronts.{put_here, put_elsewhere}
use Rattle.law_history.specs.Counts.{total, put_count, got_count}
use Rattle.law_closing.specs.Places.{PlaceNote}
use Rattle.law_closing.specs.Remarks.{turns_at}
use Rattle.chorus_nucleus.specs.SiteTurns.Turning.{Looks}
use Rattle.law_closing.specs.Seen.{HasSeen}
use Rattle.chorus_nucleus.specs.Rounds.{put_seen, got_seen, Counts, IsRound, IsEven}

succ : (n : ℕ) → n + 1 ≡ suc n
succ n = omega arith

total-upto : (n : ℕ) (f g : ℕ → ℕ) → ((p : ℕ) → p < n → f p ≡ g p) → total n f ≡ total n g
total-upto zero f g h = refl
total-upto (suc n) f g h =
    let ih = total-upto n f g (λ p lt. h p (omega (arith, lt))) in let one = h n (omega arith) in omega (arith, ih, one)

-- a journal shows a place to one who knows as much of seat, own entries and notes, and had seen no more
shows-like : (p : ℕ) (v w : Knowledge PlaceNote) (found : List (Remarked PlaceNote)) → w.seat ≡ v.seat → w.mine ≡ v.mine → w.notes ≡ v.notes → seen_at p w ≡ found → Shows p v found → Shows p w (seen_at p w)
shows-like p v w found seat mine notes seen s = record {
  begins = ([], sym (append-nil (seen_at p w)));
  own = ap₂ (λ q (xs : List (Remarked PlaceNote)). by_seat q xs) seat seen ∙ s.own ∙ ap (at_place p) (sym mine);
  noted = subst (λ (ns : List (Note PlaceNote)). All (λ (n : Note PlaceNote). by_seat n.seat (seen_at p w) ≡ at_place p n.mine) ns) (sym notes)
      (subst (λ (xs : List (Remarked PlaceNote)). All (λ (n : Note PlaceNote). by_seat n.seat xs ≡ at_place p n.mine) v.notes) (sym seen) s.noted);
}

sum-counts : (x y z s t : ℕ) → Counts x s → Counts y t → z ≡ x + y → Counts z (s + t)
sum-counts x y z s t a b is lt =
    let l = a (omega (arith, is, lt)) in let r = b (omega (arith, is, lt)) in omega (arith, is, l, r)

-- a sum up to 2^64 - 1
pub count-up-to : (z s : ℕ) → z ≡ min s (2 ^ 64 - 1) → Counts z s
count-up-to z s is lt = grind (arith, is, lt)

pub count-exact : (z s : ℕ) → z ≡ s → Counts z s
count-exact z s is lt = is

module _ (l : Layout) (m : ℕ) (s : PlaceState) (v : Knowledge PlaceNote) (caller : Seated) (w : Knowledge PlaceNote) (after : Seated) (looks : Looks l (m + 1) s v caller w after) where
  here : seen_at (m + 1) w ≡ looks.found
  here = ap (seen_at (m + 1)) looks.knows ∙ put_here (m + 1) (looks.found ++ []) v.seen ∙ append-nil looks.found

  elsewhere : (p : ℕ) → p ≢ m + 1 → seen_at p w ≡ seen_at p v
  elsewhere p other = ap (seen_at p) looks.knows ∙ put_elsewhere (m + 1) p (looks.found ++ []) v.seen other

  seat-is : w.seat ≡ v.seat
  seat-is = ap (λ (u : Knowledge PlaceNote). u.seat) looks.knows

  mine-is : w.mine ≡ v.mine
  mine-is = ap (λ (u : Knowledge PlaceNote). u.mine) looks.knows ∙ append-nil v.mine

  notes-are : w.notes ≡ v.notes
  notes-are = ap (λ (u : Knowledge PlaceNote). u.notes) looks.knows

  seen-more : HasSeen m v → HasSeen (m + 1) w
  seen-more h p is =
      let low = is.0 in
      let high = is.1 in
      elim (cases_eq p (m + 1)) [
        | inl same ↦ subst (λ k. Shows k w (seen_at k w)) (sym same) (shows-like (m + 1) v w looks.found seat-is mine-is notes-are here looks.shows)
        | inr differ ↦ shows-like p v w (seen_at p v) seat-is mine-is notes-are (elsewhere p differ) (h p (low, omega (arith, high, differ)))
      ]

  total-more : (f : ℕ → List (Remarked PlaceNote) → ℕ) → total (m + 1) (λ p. f (p + 1) (seen_at (p + 1) w)) ≡ total m (λ p. f (p + 1) (seen_at (p + 1) v)) + f (m + 1) looks.found
  total-more f =
      ap (λ k. total k (λ p. f (p + 1) (seen_at (p + 1) w))) (succ m)
      ∙ ap₂ (λ (x y : ℕ). x + y)
      (total-upto m (λ p. f (p + 1) (seen_at (p + 1) w)) (λ p. f (p + 1) (seen_at (p + 1) v)) (λ p lt. ap (f (p + 1)) (elsewhere (p + 1) (λ e. absurd (omega (arith, e, lt))))))
      (ap (f (m + 1)) here)

  -- the place was idle and told these counts, which come to the sums
  pub round-more : (put worked more_put more_worked put_now worked_now : ℕ) → IsRound m put worked v → Counts more_put (put_count (turns_at (m + 1) looks.found)) → Counts more_worked (got_count (turns_at (m + 1) looks.found)) → Counts put_now (put + more_put) → Counts worked_now (worked + more_worked) → IsRound (m + 1) put_now worked_now w
  round-more put worked more_put more_worked put_now worked_now r p q ps ws = record {
    seen = seen-more r.seen;
    put_is = λ lt. sum-counts put more_put put_now (put_seen m v) (put_count (turns_at (m + 1) looks.found)) r.put_is p (ps lt) lt ∙ sym (total-more (λ k xs. put_count (turns_at k xs)));
    worked_is = λ lt. sum-counts worked more_worked worked_now (got_seen m v) (got_count (turns_at (m + 1) looks.found)) r.worked_is q (ws lt) lt ∙ sym (total-more (λ k xs. got_count (turns_at k xs)));
  }

pub round-even : (l : Layout) (put worked : ℕ) (v : Knowledge PlaceNote) → IsRound (places l) put worked v → put ≡ worked → put < 2 ^ 64 - 1 → IsEven l v
round-even l put worked v r same lt = record {
  seen = r.seen;
  even = sym (r.put_is lt) ∙ same ∙ r.worked_is (subst (λ k. k < 2 ^ 64 - 1) same lt);
}

-- the round is over
pub round-over : (l : Layout) (idle : Bool) (put worked : ℕ) (v : Knowledge PlaceNote) → (idle ≡ true → IsRound (places l) put worked v) → (idle ≡ true) × (put ≡ worked) × (put < 2 ^ 64 - 1) → IsEven l v
round-over l idle put worked v r over = round-even l put worked v (r over.0) over.1 over.2
