-- The acts that answered the commands of a seat, in a schedule and in the merge of its journals: one for each command, in
-- order.
-- k and j are seats, es are events, the latest first, past has its newest entry first.
use Rattle.std.proofs.Common.{ℕ, zero, suc, ◌≡◌, ◌≢◌, ◌==◌, Bool, true, false, ◌&&◌, cond, List, [], ◌∷◌, ◌++◌, map, reverse, Option, Some, None, slice_get, refl, sym, ◌∙◌, ap, append_assoc}
use Rattle.std.specs.List.{filter}
use Rattle.std.proofs.lemmas.Bool.{eq-eqb, false≢true, and_parts}
use Rattle.std.proofs.lemmas.List.{reverse-append}
use Rattle.std.proofs.lemmas.List.Elements.{All-head, All-tail}
use Rattle.chorus_ui.specs.declared.layout.Layout.{Layout}
use Rattle.chorus_ui.specs.Layout.{IsLayout}
use Rattle.chorus_entry.specs.declared.act.Act.{Act}
use Rattle.chorus_entry.specs.declared.command.Command.{Command}
use Rattle.chorus_entry.specs.declared.entry.Entry.{Entry}
use Rattle.chorus_entry.specs.Act.{is_command_entry}
use Rattle.chorus_world.specs.Commands.{is_own_of}
use Rattle.chorus_world.specs.Views.{by, is_by}
use Rattle.chorus_calls.specs.Callers.{Seated}
use Rattle.law_machine.specs.Own.{own}
use Rattle.law_machine.specs.PlaceState.{next_entry}
use Rattle.law_machine.specs.PlaceMachine.{act}
use Rattle.law_network.specs.History.{history}
use Rattle.law_network.specs.Left.{merged_past}
use Rattle.law_network.specs.Network.{NetState, Event, Enter, Deliver, See, turn_for, schedule, round, rounds}
use Rattle.law_network.specs.Network.{Act as Acts}
use Rattle.law_network.specs.Schedules.{may_give, may_happen, may_be, commands_of, command_in}
use Rattle.law_network.specs.Stands.{Stands}
use Rattle.law_network.specs.Tasks.{AreDeliveries}
use Rattle.law_network.proofs.Commands.Owning.{own-adds, other-adds, deliver-adds}
use Rattle.law_network.proofs.Draining.Drains.{round-deliveries}
use Rattle.law_network.proofs.Events.InOrder.{in-order}
use Rattle.law_network.proofs.Events.Said.{said_with}
use Rattle.law_network.proofs.Merge.Journals.{merge-is, views}
use Rattle.law_awaits.specs.Awaits.{own_acts}

-- Acts.

abbrev as_acts : List Entry → List Act
as_acts es = reverse (map (λ (e : Entry). e.act) es)

acts-more : (e : Entry) (es : List Entry) → as_acts (e ∷ es) ≡ as_acts es ++ e.act ∷ []
acts-more e es = reverse-append (e.act ∷ []) (map (λ (f : Entry). f.act) es)

module _ (l : Layout) (shape : IsLayout l) where
  -- a command of the seat is answered by its own act, behind the others
  pub own-more : (es : List Event) (k : ℕ) (c : Command) (caller : Seated) → may_be l es ≡ true → slice_get (schedule l es).callers k ≡ Some caller
      → own_acts k (history l (Acts k c ∷ es)) ≡ own_acts k (history l es) ++ own c (turn_for c caller (schedule l es)) ∷ []
  own-more es k c caller may found =
      let n = schedule l es in
      let t = turn_for c caller n in
      let seat : caller.seat ≡ k = ((in-order l es shape may).0.callers k caller found).seat in
      ap as_acts (ap (λ o. filter (is_own_of k) (said_with c o n ++ history l es)) found ∙ own-adds k c t (history l es) seat)
      ∙ acts-more (next_entry (own c t) t) (filter (is_own_of k) (history l es))

  -- nothing else is
  pub own-still : (es : List Event) (k j : ℕ) (c : Command) → may_be l (Acts j c ∷ es) ≡ true → j ≢ k → own_acts k (history l (Acts j c ∷ es)) ≡ own_acts k (history l es)
  own-still es k j c may ne = go (slice_get n.callers j) refl two.0
    where
      n : NetState
      n = schedule l es

      two : (may_happen (Acts j c) (schedule l es) ≡ true) × (may_be l es ≡ true)
      two = and_parts (may_happen (Acts j c) (schedule l es)) (may_be l es) may

      go : (o : Option Seated) → slice_get n.callers j ≡ o → may_give (slice_get n.callers j) c ≡ true → own_acts k (history l (Acts j c ∷ es)) ≡ own_acts k (history l es)
      go None e gives = absurd (false≢true (ap (λ o. may_give o c) (sym e) ∙ gives))
      go (Some caller) e gives =
          let t = turn_for c caller n in
          let seat : caller.seat ≡ j = ((in-order l es shape two.1).0.callers j caller e).seat in
          ap as_acts (ap (λ o. filter (is_own_of k) (said_with c o n ++ history l es)) e ∙ other-adds k c t (history l es) (λ same. ne (sym seat ∙ same)))

  pub own-delivered : (es : List Event) (k j a b : ℕ) → own_acts k (history l (Deliver j a b ∷ es)) ≡ own_acts k (history l es)
  own-delivered es k j a b = ap as_acts (deliver-adds k a b (slice_get (schedule l es).callers j) (schedule l es) (history l es))

  deliveries-still : (es done : List Event) (k j : ℕ) → AreDeliveries j done → own_acts k (history l (done ++ es)) ≡ own_acts k (history l es)
  deliveries-still es [] k j h = refl
  deliveries-still es (e ∷ done) k j h =
      let IsDelivery : Event → Type 0 = λ (f : Event). (a : ℕ) × ((b : ℕ) × (f ≡ Deliver j a b)) in
      let head = All-head IsDelivery e done h in
      ap (λ f. own_acts k (history l (f ∷ done ++ es))) head.1.1 ∙ own-delivered (done ++ es) k j head.0 head.1.0 ∙ deliveries-still es done k j (All-tail IsDelivery e done h)

  pub own-drained : (es : List Event) (k j count : ℕ) → own_acts k (history l (rounds l j count ++ es)) ≡ own_acts k (history l es)
  own-drained es k j zero = refl
  own-drained es k j (suc count) =
      ap (λ fs. own_acts k (history l fs)) (append_assoc (round l j) (rounds l j count) es)
      ∙ deliveries-still (rounds l j count ++ es) (round l j) k j (round-deliveries l j) ∙ own-drained es k j count

  -- a seat that gave no command has no own act
  pub none-given : (es : List Event) (k : ℕ) → may_be l es ≡ true → commands_of k es ≡ [] → own_acts k (history l es) ≡ []
  none-given [] k may h = refl
  none-given (e ∷ es) k may h = by e (and_parts (may_happen e (schedule l es)) (may_be l es) may).1 may h (none-given es k)
    where
      by : (e : Event) → may_be l es ≡ true → may_be l (e ∷ es) ≡ true → command_in k e (commands_of k es) ≡ [] → (may_be l es ≡ true → commands_of k es ≡ [] → own_acts k (history l es) ≡ []) → own_acts k (history l (e ∷ es)) ≡ []
      by (Enter actor last) less all g ih = ih less g
      by (See j clock) less all g ih = ih less g
      by (Deliver j a b) less all g ih = own-delivered es k j a b ∙ ih less g
      by (Acts j c) less all g ih = given (j == k) refl g
        where
          given : (b : Bool) → (j == k) ≡ b → cond b (c ∷ commands_of k es) (commands_of k es) ≡ [] → own_acts k (history l (Acts j c ∷ es)) ≡ []
          given true same some = absurd (cc)
          given false other none = own-still es k j c all (λ same. false≢true (sym other ∙ eq-eqb j k same)) ∙ ih less none

-- In the merge.

filter-twice : (k : ℕ) (past : List Entry) → filter (is_own_of k) past ≡ filter (λ (e : Entry). is_command_entry e.act) (by k past)
filter-twice k [] = refl
filter-twice k (e ∷ past) = go (is_by k e) (is_command_entry e.act) refl (filter-twice k past)
  where
    rest : List Entry
    rest = filter (λ (f : Entry). is_command_entry f.act) (by k past)

    go : (a b : Bool) → is_command_entry e.act ≡ b → filter (is_own_of k) past ≡ filter (λ (f : Entry). is_command_entry f.act) (by k past)
        → cond (a && b) (e ∷ filter (is_own_of k) past) (filter (is_own_of k) past) ≡ filter (λ (f : Entry). is_command_entry f.act) (cond a (e ∷ by k past) (by k past))
    go true true is ih = ap (λ xs. e ∷ xs) ih ∙ sym (ap (λ b. cond b (e ∷ rest) rest) is)
    go true false is ih = ih ∙ sym (ap (λ b. cond b (e ∷ rest) rest) is)
    go false true is ih = ih
    go false false is ih = ih

-- the merge of the journals has the same, in the same order
pub own-merged : (n : NetState) (past : List Entry) (s : Stands n past) (k : ℕ) → own_acts k (merged_past n) ≡ own_acts k past
own-merged n past s k =
    ap (own_acts k) (merge-is n past s)
    ∙ ap as_acts (filter-twice k _ ∙ ap (filter (λ (e : Entry). is_command_entry e.act)) ((views n past s).seats k) ∙ sym (filter-twice k past))
