-- Where as many packets were worked off as were put, none is left when all is closed.
-- n is a nucleus, pass the one that closed it, c what was closed.
use Rattle.std.proofs.Common.{ℕ, zero, suc, ◌≡◌, ◌<◌, ◌+◌, ◌==◌, Bool, true, false, cond, List, [], ◌++◌, None, refl, sym, ◌∙◌, ap, ap₂, arith}
use Rattle.chorus_ui.specs.declared.layout.Layout.{Layout}
use Rattle.chorus_ui.specs.Layout.{places}
use Rattle.law_network.specs.Network.{schedule}
use Rattle.law_history.specs.Counts.{put_count, got_count, total}
use Rattle.law_history.specs.Journals.{events}
use Rattle.law_history.specs.Places.{by_link, from_one, up_to}
use Rattle.law_history.specs.Runs.{KeepsPromises}
use Rattle.law_history.proofs.Left.{counts-tell}
use Rattle.law_history.proofs.Listed.{schedules-leave-lists}
use Rattle.law_history.proofs.Merging.{journals-keep-promises}
use Rattle.law_closing.specs.Closing.{IsPlace}
use Rattle.law_closing.specs.Places.{PlaceNote}
use Rattle.law_closing.specs.Remarks.{turns_at}
use Rattle.law_closing.proofs.Seen.{all-seen}
use Rattle.chorus_turn.specs.declared.knowledge.Knowledge.{Knowledge}
use Rattle.chorus_net.specs.declared.closed.Closed.{Closed}
use Rattle.chorus_net.specs.Closing.{worn_in, IsLeft}
use Rattle.chorus_nucleus.specs.declared.nucleus.Nucleus.{Nucleus}
use Rattle.chorus_nucleus.specs.declared.pass.Pass.{Pass}
use Rattle.chorus_nucleus.specs.Passes.{known, layout_of, worn_by}
use Rattle.chorus_nucleus.specs.Closing.{IsClosed}
use Rattle.chorus_nucleus.specs.Rounds.{turns_seen, IsEven}
use Rattle.chorus_sessions.specs.Playing.{IsEmptied}

-- Sums and lists over places.

total-upto : (n : ℕ) (f g : ℕ → ℕ) → ((p : ℕ) → p < n → f p ≡ g p) → total n f ≡ total n g
total-upto zero f g h = refl
total-upto (suc n) f g h =
    let ih = total-upto n f g (λ p lt. h p (omega (arith, lt))) in let one = h n (omega arith) in omega (arith, ih, one)

none-up-to : {A : Type 0} (n : ℕ) (f : ℕ → List A) → ((p : ℕ) → f p ≡ []) → up_to n f ≡ []
none-up-to zero f h = refl
none-up-to (suc n) f h = ap₂ (λ xs ys. xs ++ ys) (none-up-to n f h) (h (suc n))

none-if : {A : Type 0} (b : Bool) (xs : List A) → xs ≡ [] → cond b [] xs ≡ []
none-if true xs h = refl
none-if false xs h = h

none-by-link : {A : Type 0} (n : ℕ) (f : ℕ → ℕ → List A) → ((a b : ℕ) → f a b ≡ []) → by_link n f ≡ []
none-by-link n f h = none-up-to n (from_one n f) (λ a. none-up-to n (λ b. cond (b == a) [] (f a b)) (λ b. none-if (b == a) (f a b) (h a b)))

module _ (n : Nucleus) (pass : Pass) (c : Closed) (h : IsClosed n pass c) (even : IsEven (layout_of n) (known pass)) where
  abbrev l : Layout
  l = layout_of n

  abbrev v : Knowledge PlaceNote
  v = known pass

  kept : KeepsPromises l h.comers h.closes.of_places h.closes.of_seats h.closes.closing
  kept = journals-keep-promises l h.comers h.closes.of_places h.closes.of_seats h.closes.closing h.shape h.closes.histories

  left : IsLeft (schedule l (events h.comers kept.turns)) c
  left = h.closes.is_left kept.turns kept.scheduled

  same-turns : (p : ℕ) → p < places l → h.closes.of_places (p + 1) ≡ turns_seen v (p + 1)
  same-turns p lt =
      let is : IsPlace (places l) (p + 1) = (omega arith, omega (arith, lt)) in
      h.closes.made (p + 1) is ∙ ap (turns_at (p + 1)) (all-seen (places l) h.closes.log v h.closes.tells even.seen (p + 1) is)

  no-links : (a b : ℕ) → h.closes.closing.links a b ≡ []
  no-links =
      (counts-tell l h.comers h.closes.of_places h.closes.of_seats h.closes.closing h.shape h.closes.histories).even
      (total-upto (places l) (λ k. put_count (h.closes.of_places (k + 1))) (λ k. put_count (turns_seen v (k + 1))) (λ k lt. ap put_count (same-turns k lt))
      ∙ even.even
      ∙ sym (total-upto (places l) (λ k. got_count (h.closes.of_places (k + 1))) (λ k. got_count (turns_seen v (k + 1))) (λ k lt. ap got_count (same-turns k lt))))

  no-rest : c.rest.items ≡ []
  no-rest =
      left.rest ∙ (schedules-leave-lists l h.comers h.closes.of_places h.closes.of_seats h.closes.closing kept.turns h.shape kept.scheduled).packets
      ∙ none-by-link (places l) h.closes.closing.links no-links

pub is-emptied : (n : Nucleus) (pass : Pass) (c : Closed) → IsClosed n pass c → (worn_by pass ≡ None → IsEven (layout_of n) (known pass)) → IsEmptied c
is-emptied n pass c h even unworn = no-rest n pass c h (even (sym (ap worn_in h.origin) ∙ unworn))
