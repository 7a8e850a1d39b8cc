-- A take's turn stands in the place's history when all is closed.
use Rattle.std.proofs.Common.{ℕ, ◌≡◌, ◌-◌, ◌+◌, nat_le, true, List, ◌++◌, map, reverse, Option, sym, ◌∙◌, ap, subst, arith, append_assoc}
use Rattle.std.specs.List.{filter}
use Rattle.std.proofs.lemmas.List.{map-append}
use Rattle.std.proofs.lemmas.List.Elements.{filter-append}
use Rattle.std.proofs.lemmas.Bool.{and_parts, leb-true}
use Rattle.chorus_ui.specs.declared.layout.Layout.{Layout}
use Rattle.chorus_ui.specs.declared.ui.Ui.{Ui}
use Rattle.chorus_ui.specs.Layout.{IsLayout, places, has_place}
use Rattle.chorus_entry.specs.declared.command.Command.{Command}
use Rattle.chorus_entry.specs.declared.message.Message.{Message}
use Rattle.chorus_calls.specs.declared.client.Settle.{Settle}
use Rattle.chorus_merge.specs.Merge.{merged}
use Rattle.law_machine.specs.declared.reply.Reply.{Reply}
use Rattle.law_network.specs.Network.{schedule}
use Rattle.law_history.specs.Runs.{merged_at, KeepsPromises}
use Rattle.law_history.specs.Journals.{Comer, events}
use Rattle.law_history.proofs.Merging.{journals-keep-promises}
use Rattle.law_closing.specs.Places.{PlaceNote}
use Rattle.law_closing.specs.Closing.{IsPlace}
use Rattle.law_closing.specs.Remarks.{turns_at, turn_of, begins}
use Rattle.law_replies.specs.AsPosted.{IsAsPosted}
use Rattle.law_replies.proofs.Histories.{histories-take-posted}
use Rattle.chorus_turn.specs.declared.knowledge.Knowledge.{Knowledge}
use Rattle.chorus_turn.specs.declared.knowledge.Remarked.{Remarked}
use Rattle.chorus_turn.specs.Knowing.{Shows}
use Rattle.chorus_net.specs.declared.closed.Closed.{Closed}
use Rattle.chorus_net.specs.Closing.{IsLeft, past_of}
use Rattle.chorus_nucleus.specs.Closing.{ClosesAs}
use Rattle.chorus_nucleus.specs.Taking.{HasOrigin}
use Rattle.chorus_nucleus.specs.Posted.{MessagesTakenWerePosted}

pub turns-append : (p : ℕ) (xs ys : List (Remarked PlaceNote)) → turns_at p (xs ++ ys) ≡ turns_at p xs ++ turns_at p ys
turns-append p xs ys = ap (map (turn_of p)) (filter-append begins xs ys) ∙ map-append (turn_of p) (filter begins xs) (filter begins ys)

at-place : (l : Layout) (p : ℕ) → has_place l p ≡ true → IsPlace (places l) p
at-place l p h = (let two = and_parts (nat_le 1 p) (nat_le p (places l)) h in (leb-true 1 p two.0, leb-true p (places l) two.1))

module _ (l : Layout) (v : Knowledge PlaceNote) (comers : List Comer) (c : Closed) (shape : IsLayout l) (k : ClosesAs l v comers c) where
  kept : KeepsPromises l comers k.of_places k.of_seats k.closing
  kept = journals-keep-promises l comers k.of_places k.of_seats k.closing shape k.histories

  left : IsLeft (schedule l (events comers kept.turns)) c
  left = k.is_left kept.turns kept.scheduled

  merge : merged_at l k.closing ≡ past_of c
  merge = sym kept.merge ∙ sym (ap (λ js. reverse (merged js)) left.journals)

  shown : (p : ℕ) → IsPlace (places l) p → Shows p v (k.log p)
  shown p is = let e : (p - 1) + 1 ≡ p = omega (arith, is.0) in subst (λ z. Shows z v (k.log z)) e (k.tells.shows (p - 1) (omega (arith, is.0, is.1)))

  pub posted : (q : Ui) (position : ℕ) (m : Message) (settled : Option Settle) → HasOrigin l q (Reply.Taken position m settled) v → IsAsPosted m (past_of c)
  posted q position m settled o =
      let is = at-place l o.place o.there in
      let seen = (shown o.place is).begins in
      let log : k.log o.place ≡ o.found ++ (o.seen.0 ++ seen.0) = seen.1 ∙ ap (λ zs. zs ++ seen.0) o.seen.1 ∙ append_assoc o.found o.seen.0 seen.0 in
      subst (IsAsPosted m) merge
      (histories-take-posted l comers k.of_places k.of_seats k.closing o.place o.state
      record {
        shape = shape;
        histories = k.histories;
        older = turns_at o.place o.found;
        later = turns_at o.place (o.seen.0 ++ seen.0);
        turns = k.made o.place is ∙ ap (turns_at o.place) log ∙ turns-append o.place o.found (o.seen.0 ++ seen.0);
        leads = o.leads;
      }
      o.caller (Command.Take q) position m settled o.gives)

pub messages-taken-were-posted : MessagesTakenWerePosted
messages-taken-were-posted l v comers c q position m settled shape k o = posted l v comers c shape k q position m settled o
