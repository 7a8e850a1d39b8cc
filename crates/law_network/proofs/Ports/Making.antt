-- A port is made, or not.
use Rattle.chorus_world.specs.Clients.{clients_kept}
use Rattle.std.proofs.Common.{ℕ, ◌≡◌, cond, List, [], ◌∷◌, ◌++◌, Some, None, refl, sym, ◌∙◌, ap, arith}
use Rattle.chorus_ui.specs.declared.ui.Ui.{Ui}
use Rattle.chorus_ui.proofs.Names.{same_ui-self}
use Rattle.chorus_ui.specs.declared.layout.Layout.{Layout}
use Rattle.chorus_entry.specs.declared.entry.Entry.{Entry}
use Rattle.chorus_entry.specs.declared.command.Command.TheVariants as commands
use Rattle.chorus_entry.specs.declared.act.Act.{Act}
use Rattle.chorus_entry.specs.declared.act.Act.TheVariants as acts
use Rattle.chorus_entry.specs.PortRecord.{new_record}
use Rattle.chorus_world.specs.Views.{on}
use Rattle.chorus_world.specs.Ports.{new_port}
use Rattle.chorus_world.specs.Places.{last_clock}
use Rattle.chorus_world.proofs.Ports.PortLaws.{unmade_is_empty}
use Rattle.chorus_world.proofs.Ports.PortMoves.{make_new}
use Rattle.chorus_ports.specs.Table.{find}
use Rattle.chorus_ports.proofs.Tables.{find-last, are_distinct-last}
use Rattle.law_machine.specs.declared.outgoing.Outgoing.{Outgoing}
use Rattle.law_machine.specs.PlaceState.{Turn, next_entry, unchanged}
use Rattle.law_machine.specs.Own.{next_port}
use Rattle.law_machine.specs.Doing.{does, with_ports}
use Rattle.law_machine.specs.PlaceMachine.{act}
use Rattle.chorus_world.proofs.Seats.OnlyAnswer.{Fitting}
use Rattle.law_machine.proofs.Machine.Owns.{IsOwn, NoMaker, MakesNone, Makes, is-own}
use Rattle.law_network.proofs.Commands.OwnIsAnswer.{given-fits}
use Rattle.law_network.specs.Packets.{put_all}
use Rattle.law_network.specs.Network.{NetState}
use Rattle.law_network.specs.Records.{record_here, record_for}
use Rattle.law_network.specs.UnderWay.{transfer_of}
use Rattle.law_network.proofs.Standing.Says.{known_clock, MaySay}
use Rattle.law_network.proofs.Standing.Saying.{legal-now}
use Rattle.law_network.proofs.Standing.StillCallers.{caller-still, asks-still, no-message-clock}
use Rattle.law_network.proofs.Standing.Families.{messages-none, ports-one, transfers-one, held-here, held-there, held-moves-not}
use Rattle.law_network.proofs.Standing.Steps.{Stood, facts, laws, says, tables-still}
use Rattle.law_network.proofs.Standing.Leading.{LeadsOn, behind-calm, leads-one, notes-on}
use Rattle.law_network.proofs.Standing.Given.{IsGiven}

module _ (n : NetState) (us : List Outgoing) (past : List Entry) (t : Turn) (actor : Ui) (capacity : ℕ) (i : IsGiven n us past t (commands.Make actor capacity)) where
  abbrev w : Stood n us past t
  w = i.stood

  abbrev l : Layout
  l = t.place.layout

  abbrev p : ℕ
  p = t.place.number

  abbrev Goal : Act → Type 0
  Goal a = LeadsOn n us past (does a t)

  abbrev Fit : Act → Type 0
  Fit a = Fitting t.place.layout past t.place.number t.caller.seat t.caller.actor (commands.Make actor capacity) a

  made : Fit (acts.Make (next_port t.place actor) actor capacity) → Goal (acts.Make (next_port t.place actor) actor capacity)
  made fit =
      let q = next_port t.place actor in
      let a = acts.Make q actor capacity in
      let e = next_entry a t in
      let line = on q past in
      let r = new_record q actor capacity in
      let g = new_port p actor capacity in
      let all = (laws n us past t w).posted in
      let legal = legal-now n (put_all t.puts us) past t w in
      let unmade = (make_new l past p t.caller.seat q actor capacity w.shape ((laws n us past t w).inv.ports q) fit.may).0 in
      let empty = unmade_is_empty l past q w.shape legal unmade in
      let zero-is : last_clock line ≡ 0 = ap last_clock empty in
      let absent : find q t.place.ports ≡ None = w.here.ports q ∙ ap (record_here past line q p) unmade in
      let ports = t.place.ports ++ r ∷ [] in
      let shows : r ≡ record_for (e ∷ past) (e ∷ line) q actor g = ap (λ v. record r { clients = clients_kept (e ∷ past) v }) (sym empty) in
      let may : MaySay past t a =
      record {
        kinds = fit.kinds;
        behind = behind-calm past p a i.rests;
        may = fit.may;
        fits = refl;
        looks = tt;
        message = no-message-clock past None (known_clock t) refl;
        port = omega (arith, zero-is);
      } in
      leads-one n us past t (with_ports a ports t) a
      (says n us past t w a (record (unchanged t) { ports = ports })
      (record {
        may = may;
        caller = caller-still past t a refl w.caller;
        ports = ports-one l past e all q t.place.ports ports refl (are_distinct-last t.place.ports r w.here.once absent) w.here.ports
            (λ y ne. find-last y t.place.ports r absent ∙ ap (λ b. cond b (Some r) (find y t.place.ports)) ne)
            (find-last q t.place.ports r absent
            ∙ (ap (λ b. cond b (Some r) (find q t.place.ports)) (same_ui-self q) ∙ (ap (λ z. Some z) shows ∙ sym (held-here (e ∷ past) (e ∷ line) q actor p g refl refl refl))))
            (λ s ne. held-there (e ∷ past) (e ∷ line) q actor p s g refl refl refl ne ∙ sym (ap (record_here past line q s) unmade));
        tables = tables-still n us past t w a may refl refl refl (λ k f. refl);
        packets = record {
          order = w.packets.order;
          messages = messages-none l past e all (put_all t.puts us) (put_all t.puts us) (facts n us past t w) refl (λ x. refl) w.packets.messages;
          transfers = transfers-one l past e all q (put_all t.puts us) (put_all t.puts us) refl (λ y ne. refl) w.packets.transfers
              (w.packets.transfers q ∙ (ap (transfer_of past line q) unmade ∙ sym (held-moves-not (e ∷ past) (e ∷ line) q actor g refl refl)));
          asks = asks-still l (put_all t.puts us) (put_all t.puts us) past e refl (λ f b s. refl) w.packets.asks;
        };
      })) refl refl

  makes : {a : Act} → IsOwn t (commands.Make actor capacity) a → Fit a → Goal a
  makes (NoMaker _ _ e) f = notes-on n us past t w i.rests (acts.NoActor actor) refl refl refl refl refl refl refl (λ now. refl) f.kinds f.may f.fits tt
  makes (MakesNone _ _ e) f = notes-on n us past t w i.rests (acts.MakeFull actor) refl refl refl refl refl refl refl (λ now. refl) f.kinds f.may f.fits tt
  makes (Makes _ _ e h) f = made f

  pub make-stands : LeadsOn n us past (act (commands.Make actor capacity) t)
  make-stands = makes (is-own (commands.Make actor capacity) t) (given-fits n us past t (commands.Make actor capacity) i)
