-- The commands at a port: to receive from it, to move it, and to delete it.
use Rattle.std.proofs.Common.{◌≡◌, ◌+◌, ◌≤◌, List, ◌∷◌, length, map, Some, None, refl, sym, ◌∙◌, ap, subst, arith}
use Rattle.chorus_ui.specs.declared.ui.Ui.{Ui}
use Rattle.chorus_ui.specs.Layout.{place_at}
use Rattle.chorus_entry.specs.declared.entry.Entry.{Entry}
use Rattle.chorus_entry.specs.declared.tag.Tag.{Tag}
use Rattle.chorus_entry.specs.declared.tag.Tag.TheVariants as tags
use Rattle.chorus_entry.specs.declared.message.Message.{Message}
use Rattle.chorus_entry.specs.declared.command.Command.{Command}
use Rattle.chorus_entry.specs.declared.command.Command.TheVariants as commands
use Rattle.chorus_entry.specs.declared.act.Act.{Act}
use Rattle.chorus_entry.specs.declared.act.Act.TheVariants as acts
use Rattle.chorus_entry.specs.declared.record.PortRecord.{PortRecord}
use Rattle.chorus_world.specs.Views.{at}
use Rattle.chorus_world.specs.Places.{just_taken, reply_taken}
use Rattle.chorus_world.specs.LocationLaws.{path_of}
use Rattle.chorus_ports.specs.Table.{find, replace, without}
use Rattle.chorus_ports.specs.Taking.{after_take, rehomed}
use Rattle.law_machine.specs.declared.outgoing.Outgoing.{Outgoing}
use Rattle.law_machine.specs.PlaceState.{Turn, next_entry, unchanged, say, note}
use Rattle.law_machine.specs.Doing.{does, takes, ends, ends_call, holding, first_in, first_message, with_ports, departs}
use Rattle.law_machine.specs.PlaceMachine.{act}
use Rattle.chorus_world.proofs.Seats.OnlyAnswer.{Fitting}
use Rattle.law_machine.proofs.Machine.Owns.{IsOwn, Takes, TakesEmpty, TakesNone, DeletesNone, Deletes, MovesNone, NoMover, Rehomes, Departs, held-is, takes-empty, takes-first, is-own}
use Rattle.law_network.proofs.Commands.OwnIsAnswer.{given-fits}
use Rattle.law_network.specs.Network.{NetState}
use Rattle.law_network.proofs.Standing.Steps.{Stood, laws}
use Rattle.law_network.proofs.Standing.Onward.{step, then}
use Rattle.law_network.proofs.Standing.Leading.{Calm, LeadsOn, leads-one, notes-on}
use Rattle.law_network.proofs.Standing.Given.{IsGiven}
use Rattle.law_network.proofs.Ports.HeldPorts.{here-now}
use Rattle.law_network.proofs.Ports.PortCommands.{empty-stands, rehome-stands, delete-stands, depart-stands}
use Rattle.law_network.proofs.Ports.Taking.{take-stands, ends-call-stands}

module _ (n : NetState) (us : List Outgoing) (past : List Entry) (t : Turn) (w : Stood n us past t) (rests : just_taken past (at t.place.number past) ≡ None) (q : Ui) where
  abbrev Goal : Act → Type 0
  Goal a = LeadsOn n us past (does a t)

  abbrev Fit : Command → Act → Type 0
  Fit c a = Fitting t.place.layout past t.place.number t.caller.seat t.caller.actor c a

  not-here : {c : Command} → Fit c (acts.NotHere q) → Goal (acts.NotHere q)
  not-here f = notes-on n us past t w rests (acts.NotHere q) refl refl refl refl refl refl refl (λ now. refl) f.kinds f.may f.fits tt

  -- Take: behind the Take of a reply comes its Done or Late
  module _ (r : PortRecord) (h : find q t.place.ports ≡ Some r) (mine : r.actor ≡ t.caller.actor) (m : Message) where
    abbrev taking : Act
    taking = acts.Take q r.first m.id

    abbrev then-is : Tag → Turn
    then-is tag = say taking (record (unchanged t) { caller = holding m.id tag t.caller; ports = replace q (after_take t.caller.actor) t.place.ports }) t

    abbrev Took : Tag → List Entry → Type 0
    Took tag now = Stood n us now (then-is tag) × (just_taken now (at t.place.number now) ≡ reply_taken t.caller.seat tag)

    behind : (tag : Tag) → Took tag (next_entry taking t ∷ past) → LeadsOn n us past (ends tag (then-is tag))
    behind tags.Plain s = step (λ now. Calm n us now (then-is tags.Plain)) (next_entry taking t) past (record { stood = s.0; rests = s.1 })
    behind (tags.Request k back) s = step (λ now. Calm n us now (then-is (tags.Request k back))) (next_entry taking t) past (record { stood = s.0; rests = s.1 })
    behind (tags.Reply client k) s =
        then (Took (tags.Reply client k)) (λ now. Calm n us now (ends_call client k (then-is (tags.Reply client k)))) past (step (Took (tags.Reply client k)) (next_entry taking t) past s)
        (λ now z. ends-call-stands n us now (then-is (tags.Reply client k)) z.0 client k z.1)

    received : {c : Command} (ms : List Message) → r.pending ≡ m ∷ ms → Fit c (acts.Take q r.first m.id) → Goal (acts.Take q r.first m.id)
    received ms pending f =
        let first : first_message (find q t.place.ports) ≡ Some m = ap first_message h ∙ ap first_in pending in
        subst (λ o. LeadsOn n us past (takes q r.first m.id o t)) (sym first)
        (behind m.tag (take-stands n us past t w q r h mine rests m ms pending f))

  takes-lead : {a : Act} → IsOwn t (commands.Take q) a → Fit (commands.Take q) a → Goal a
  takes-lead (TakesNone _ e) f = not-here f
  takes-lead (TakesEmpty _ e) f =
      let r = takes-empty t.caller.actor (find q t.place.ports) e in
      leads-one n us past t (note (acts.Empty q) t) (acts.Empty q) (empty-stands n us past t w q r.0 r.1 rests f) refl refl
  takes-lead (Takes _ position m e) f =
      let r = takes-first t.caller.actor (find q t.place.ports) position m e in
      subst (λ i. Fit (commands.Take q) (acts.Take q i m.id) → Goal (acts.Take q i m.id)) r.first (received r.port r.found r.mine m r.rest r.pending) f

  deletes-lead : {a : Act} → IsOwn t (commands.Delete q) a → Fit (commands.Delete q) a → Goal a
  deletes-lead (DeletesNone _ e) f = not-here f
  deletes-lead (Deletes _ r e) f =
      let xs = map (λ (m : Message). m.id) r.pending in
      let h = held-is t.caller.actor (find q t.place.ports) r e in
      leads-one n us past t (with_ports (acts.Delete q xs) (without q t.place.ports) t) (acts.Delete q xs) (delete-stands n us past t w q r h.0 rests xs f) refl refl

  -- a port that is held has a place
  path-some : (r : PortRecord) (h : find q t.place.ports ≡ Some r) → 1 ≤ length (here-now n us past t w q r h).fate_of.path
  path-some r h =
      let z = here-now n us past t w q r h in
      let some = ((laws n us past t w).inv.ports q).some in
      let same = ap (λ o. length (path_of t.place.layout q o)) z.fate_is in
      omega (arith, some, same)

  moves-lead : (actor : Ui) {a : Act} → IsOwn t (commands.Move q actor) a → Fit (commands.Move q actor) a → Goal a
  moves-lead actor (MovesNone _ _ e) f = not-here f
  moves-lead actor (NoMover _ _ r e k) f = notes-on n us past t w rests (acts.NoActor actor) refl refl refl refl refl refl refl (λ now. refl) f.kinds f.may f.fits tt
  moves-lead actor (Rehomes _ _ r e k s) f =
      let h = held-is t.caller.actor (find q t.place.ports) r e in
      leads-one n us past t (with_ports (acts.Rehome q actor) (replace q (rehomed actor) t.place.ports) t) (acts.Rehome q actor) (rehome-stands n us past t w q r h.0 rests actor f) refl refl
  moves-lead actor (Departs _ _ r e k s) f =
      let h = held-is t.caller.actor (find q t.place.ports) r e in
      let to = place_at t.place.layout actor.site q in
      leads-one n us past t (departs q to actor (r.hop + 1) t) (acts.Depart q to actor (r.hop + 1)) (depart-stands n us past t w q r h.0 rests to actor f (path-some r h.0)) refl refl

module _ (n : NetState) (us : List Outgoing) (past : List Entry) (t : Turn) where
  pub take-given : (q : Ui) → IsGiven n us past t (commands.Take q) → LeadsOn n us past (act (commands.Take q) t)
  take-given q i = takes-lead n us past t i.stood i.rests q (is-own (commands.Take q) t) (given-fits n us past t (commands.Take q) i)

  pub delete-given : (q : Ui) → IsGiven n us past t (commands.Delete q) → LeadsOn n us past (act (commands.Delete q) t)
  delete-given q i = deletes-lead n us past t i.stood i.rests q (is-own (commands.Delete q) t) (given-fits n us past t (commands.Delete q) i)

  pub move-given : (q actor : Ui) → IsGiven n us past t (commands.Move q actor) → LeadsOn n us past (act (commands.Move q actor) t)
  move-given q actor i = moves-lead n us past t i.stood i.rests q actor (is-own (commands.Move q actor) t) (given-fits n us past t (commands.Move q actor) i)
