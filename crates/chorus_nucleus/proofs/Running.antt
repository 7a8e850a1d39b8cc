-- A closed nucleus is a run.
use Rattle.std.proofs.Common.{◌≡◌, ℕ, true, List, [], ◌∷◌, reverse, map, refl, sym, ◌∙◌, ap, subst}
use Rattle.std.specs.List.{All}
use Rattle.std.proofs.lemmas.List.Elements.{All-nil, All-cons, All-head, All-tail}
use Rattle.chorus_ui.specs.declared.layout.Layout.{Layout}
use Rattle.chorus_ui.specs.Layout.{IsLayout}
use Rattle.chorus_entry.specs.declared.entry.Entry.{Entry}
use Rattle.chorus_world.specs.Runs.{is_run}
use Rattle.chorus_world.specs.Commands.{performs}
use Rattle.chorus_world.specs.Always.{Always, EachEntry}
use Rattle.chorus_world.specs.AcceptedLaws.{ReceivesInOrder}
use Rattle.chorus_world.specs.SenderLaws.{KeepsSenderOrder}
use Rattle.chorus_world.specs.RequestLaws.{AcceptsRequestsOnce}
use Rattle.chorus_world.specs.GroupLaws.{ReachesOneMember, AcceptsOnSite, KeepsChoiceOrder}
use Rattle.chorus_world.proofs.Moments.{always-run}
use Rattle.chorus_world.proofs.Sorted.Holders.{run_is_legal}
use Rattle.chorus_merge.specs.Merge.{merged}
use Rattle.chorus_turn.specs.declared.knowledge.Note.{Note}
use Rattle.chorus_turn.specs.declared.knowledge.Knowledge.{Knowledge}
use Rattle.law_machine.specs.declared.outgoing.Outgoing.{Outgoing}
use Rattle.law_network.specs.Network.{NetState, schedule}
use Rattle.law_network.specs.Left.{merged_past, placed, packets_left}
use Rattle.law_network.specs.Holdings.{Holding, StandsFor, holdings_left}
use Rattle.law_network.specs.EachMessage.{HoldEachMessage}
use Rattle.law_network.specs.Fates.{WorldHolds}
use Rattle.law_network.proofs.Holdings.ByFate.{holds-by-fate, world-holds}
use Rattle.law_network.specs.Quiet.{IsQuiet}
use Rattle.law_network.proofs.Promises.AllPromises.{closed-hold-each}
use Rattle.law_history.specs.Journals.{Comer, PlaceTurn, events}
use Rattle.law_history.specs.Runs.{actor_among, commands_given, merged_at, KeepsPromises, MergesAsARun}
use Rattle.law_history.proofs.Merging.{journals-merge-as-a-run, journals-keep-promises}
use Rattle.law_closing.specs.Places.{PlaceNote}
use Rattle.law_closing.specs.Remarks.{turns_in}
use Rattle.chorus_net.specs.declared.closed.Closed.{Closed}
use Rattle.chorus_net.specs.Closing.{IsLeft, holdings_of, past_of}
use Rattle.chorus_nucleus.specs.Closing.{ClosesAs}
use Rattle.chorus_nucleus.proofs.Following.{all-follow}
use Rattle.chorus_nucleus.specs.Runs.{PerformsFor, IsARun, AClosedNucleusIsARun, EachMessageStandsOnce}

none-left : (os : List Outgoing) → map (λ (o : Outgoing). o.packet) os ≡ [] → os ≡ []
none-left [] e = refl
none-left (o ∷ os) e = absurd (cc)

module _ (l : Layout) (v : Knowledge PlaceNote) (comers : List Comer) (c : Closed) (shape : IsLayout l) (k : ClosesAs l v comers c) where
  abbrev kept : KeepsPromises l comers k.of_places k.of_seats k.closing
  kept = journals-keep-promises l comers k.of_places k.of_seats k.closing shape k.histories

  run : MergesAsARun l comers k.of_seats k.closing
  run = journals-merge-as-a-run l comers k.of_places k.of_seats k.closing shape k.histories

  abbrev n : NetState
  n = schedule l (events comers kept.turns)

  left : IsLeft n c
  left = k.is_left kept.turns kept.scheduled

  same-past : merged_past n ≡ past_of c
  same-past = sym (ap (λ js. reverse (merged js)) left.journals)

  merge : merged_at l k.closing ≡ past_of c
  merge = sym kept.merge ∙ same-past

  -- on what was handed out
  handed : (P : List Entry → List Holding → Type 0) → P (merged_past n) (holdings_left l (placed n) (packets_left n)) → P (past_of c) (holdings_of l c)
  handed P h =
      subst (λ es. P es (holdings_of l c)) same-past
      (subst (λ ps. P (merged_past n) (holdings_left l ps c.rest.items)) (sym left.ports) (subst (λ rs. P (merged_past n) (holdings_left l (placed n) rs)) (sym left.rest) h))

  performed : (seat : ℕ) (ts : List PlaceTurn) → k.of_seats seat ≡ ts → PerformsFor l comers (past_of c) seat (commands_given ts)
  performed seat ts e actor is =
      subst (λ us. performs l seat actor (past_of c) (reverse (commands_given us)) ≡ true) e
      (subst (λ es. performs l seat actor es (reverse (commands_given (k.of_seats seat))) ≡ true) merge (run.performed seat actor is))

  noted : (ns : List (Note PlaceNote)) → All (λ (m : Note PlaceNote). k.of_seats m.seat ≡ turns_in m.mine) ns
      → All (λ (m : Note PlaceNote). PerformsFor l comers (past_of c) m.seat (commands_given (turns_in m.mine))) ns
  noted [] h = All-nil (λ (m : Note PlaceNote). PerformsFor l comers (past_of c) m.seat (commands_given (turns_in m.mine)))
  noted (m ∷ ms) h =
      All-cons (λ (m : Note PlaceNote). PerformsFor l comers (past_of c) m.seat (commands_given (turns_in m.mine))) m ms
      (performed m.seat (turns_in m.mine) (All-head (λ (m : Note PlaceNote). k.of_seats m.seat ≡ turns_in m.mine) m ms h))
      (noted ms (All-tail (λ (m : Note PlaceNote). k.of_seats m.seat ≡ turns_in m.mine) m ms h))

  is-run : is_run l (actor_among comers) (past_of c) ≡ true
  is-run = subst (λ es. is_run l (actor_among comers) es ≡ true) merge run.run

  stands-for : StandsFor (past_of c) (holdings_of l c)
  stands-for = handed StandsFor kept.promises.left

  pub is-a-run : IsARun l v comers c
  is-a-run = record {
    run = is-run;
    performed = performed v.seat (turns_in v.mine) k.mine;
    noted = noted v.notes k.noted;
    follows = all-follow l v comers c k shape (events comers kept.turns) kept.scheduled.may left;
    stands = stands-for;
    quiet = λ none. (let gone : packets_left n ≡ [] = sym left.rest ∙ none in subst (λ es. IsQuiet l es []) same-past (subst (IsQuiet l (merged_past n)) gone (kept.promises.quiet (none-left n.packets gone))));
    receives = subst (Always ReceivesInOrder) same-past kept.promises.receives;
    holds = always-run WorldHolds world-holds l (actor_among comers) (past_of c) shape is-run;
    left = holds-by-fate l (past_of c) shape (run_is_legal l (actor_among comers) (past_of c) is-run) (holdings_of l c) stands-for;
    sender_order = subst (Always KeepsSenderOrder) same-past kept.promises.sender_order;
    once = subst (Always AcceptsRequestsOnce) same-past kept.promises.once;
    one_member = subst (Always ReachesOneMember) same-past kept.promises.one_member;
    on_site = subst (EachEntry (AcceptsOnSite l)) same-past kept.promises.on_site;
    choice_order = subst (Always KeepsChoiceOrder) same-past kept.promises.choice_order;
  }

  pub stands-once : HoldEachMessage (past_of c) (holdings_of l c)
  stands-once = handed HoldEachMessage (closed-hold-each l (events comers kept.turns) shape kept.scheduled.may)

pub a-closed-nucleus-is-a-run : AClosedNucleusIsARun
a-closed-nucleus-is-a-run = is-a-run

pub each-message-stands-once : EachMessageStandsOnce
each-message-stands-once = stands-once
