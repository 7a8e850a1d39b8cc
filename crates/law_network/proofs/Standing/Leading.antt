-- What a turn leads on to: a past that ends with the old one, for which the network stands, and no reply was just taken.
use Rattle.std.proofs.Common.{ℕ, ◌≡◌, true, false, List, [], ◌∷◌, None, refl, ◌∙◌, ap}
use Rattle.chorus_entry.specs.declared.entry.Entry.{Entry}
use Rattle.chorus_entry.specs.declared.act.Act.{Act}
use Rattle.chorus_entry.specs.Act.{message_of, held_port_of}
use Rattle.chorus_entry.specs.Kinds.{has_kinds}
use Rattle.chorus_world.specs.Views.{at}
use Rattle.chorus_world.specs.Places.{just_taken, reply_taken_by, sent_by}
use Rattle.chorus_world.specs.Runs.{fits_caller}
use Rattle.chorus_world.specs.Steps.{may_stand_behind}
use Rattle.chorus_world.specs.SortingLaws.{LooksAtHome}
use Rattle.chorus_world.proofs.Sorted.Local.{local_views, act_may_here}
use Rattle.chorus_world.proofs.Messages.SendingLemmas.{at_same}
use Rattle.chorus_calls.specs.Callers.{Seated}
use Rattle.law_machine.specs.declared.outgoing.Outgoing.{Outgoing}
use Rattle.law_machine.specs.PlaceState.{Turn, next_entry, note}
use Rattle.law_machine.specs.Doing.{with_caller}
use Rattle.law_network.specs.Network.{NetState}
use Rattle.law_network.proofs.Standing.Says.{MaySay, CallerSays}
use Rattle.law_network.proofs.Standing.StillCallers.{moves_caller, asks_or_chooses}
use Rattle.law_network.proofs.Tables.TablesSay.{teaches, posts_or_hears}
use Rattle.law_network.proofs.Standing.Steps.{Stood, may-say, notes, calls}
use Rattle.law_network.proofs.Standing.Onward.{Onward, step}

-- the network stands, and no reply was just taken at the place
pub record Calm (n : NetState) (us : List Outgoing) (past : List Entry) (t : Turn) : Type 0 where
  pub stood : Stood n us past t
  pub rests : just_taken past (at t.place.number past) ≡ None

-- with new entries in front of the past
abbrev pub LeadsOn : NetState → List Outgoing → List Entry → Turn → Type 0
LeadsOn n us past t = Onward (λ now. Calm n us now t) past

-- behind an act that takes nothing no reply was just taken
pub rests-behind : (past : List Entry) (t : Turn) (a : Act) → reply_taken_by (next_entry a t ∷ past) t.caller.seat a ≡ None → just_taken (next_entry a t ∷ past) (at t.place.number (next_entry a t ∷ past)) ≡ None
rests-behind past t a h = ap (just_taken (next_entry a t ∷ past)) (at_same t.place.number (next_entry a t) past refl) ∙ h

pub behind-calm : (past : List Entry) (p : ℕ) (a : Act) → just_taken past (at p past) ≡ None → may_stand_behind (just_taken past (at p past)) a ≡ true
behind-calm past p a h = ap (λ o. may_stand_behind o a) h

-- one entry more leads on
pub leads-one : (n : NetState) (us : List Outgoing) (past : List Entry) (t u : Turn) (a : Act) → Stood n us (next_entry a t ∷ past) u → u.place.number ≡ t.place.number
    → reply_taken_by (next_entry a t ∷ past) t.caller.seat a ≡ None → LeadsOn n us past u
leads-one n us past t u a stood same h =
    let e = next_entry a t in
    step (λ now. Calm n us now u) e past
    (record { stood = stood; rests = ap (λ p. just_taken (e ∷ past) (at p (e ∷ past))) same ∙ rests-behind past t a h })

module _ (n : NetState) (us : List Outgoing) (past : List Entry) (t : Turn) (w : Stood n us past t) (rests : just_taken past (at t.place.number past) ≡ None) where
  -- an act about no message and at no port, where it may come next
  pub may-now : (a : Act) → message_of a ≡ None → held_port_of a ≡ None → has_kinds a ≡ true
      → act_may_here t.place.layout (local_views past past t.place.number t.caller.seat a) t.place.number t.caller.seat a ≡ true
      → fits_caller past t.place.number t.caller.actor a ≡ true → LooksAtHome t.place.layout t.place.number a → MaySay past t a
  may-now a m q kinds may fits looks = may-say n us past t w a m q kinds (behind-calm past t.place.number a rests) may fits looks

  -- an entry alone: every premise but the last two is refl
  pub notes-on : (a : Act) → message_of a ≡ None → held_port_of a ≡ None → asks_or_chooses a ≡ false → teaches a ≡ false → sent_by a ≡ [] → posts_or_hears a ≡ false → moves_caller a ≡ false
      → ((now : List Entry) → reply_taken_by now t.caller.seat a ≡ None) → has_kinds a ≡ true
      → act_may_here t.place.layout (local_views past past t.place.number t.caller.seat a) t.place.number t.caller.seat a ≡ true
      → fits_caller past t.place.number t.caller.actor a ≡ true → LooksAtHome t.place.layout t.place.number a → LeadsOn n us past (note a t)
  notes-on a m q g b s h c k kinds may fits looks =
      leads-one n us past t (note a t) a (notes n us past t w a m q g b s h c (may-now a m q kinds may fits looks)) refl (k (next_entry a t ∷ past))

  -- an entry that changes its caller alone
  pub calls-on : (a : Act) (c : Seated) → message_of a ≡ None → held_port_of a ≡ None → asks_or_chooses a ≡ false → teaches a ≡ false → sent_by a ≡ [] → posts_or_hears a ≡ false
      → ((now : List Entry) → reply_taken_by now t.caller.seat a ≡ None) → has_kinds a ≡ true
      → act_may_here t.place.layout (local_views past past t.place.number t.caller.seat a) t.place.number t.caller.seat a ≡ true
      → fits_caller past t.place.number t.caller.actor a ≡ true → LooksAtHome t.place.layout t.place.number a → CallerSays past t a c → LeadsOn n us past (with_caller a c t)
  calls-on a c m q g b s h k kinds may fits looks caller =
      leads-one n us past t (with_caller a c t) a (calls n us past t w a c m q g b s h (may-now a m q kinds may fits looks) caller) refl (k (next_entry a t ∷ past))
