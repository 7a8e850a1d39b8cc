-- The commands at a port: receive, move, delete.
use Rattle.std.proofs.Common.{ℕ, ◌≡◌, ◌≤◌, ◌+◌, ◌-◌, true, false, cond, List, [], ◌∷◌, ◌++◌, length, map, Some, None, refl, sym, ◌∙◌, ap, subst, arith, length-append}
use Rattle.std.specs.List.{filter}
use Rattle.chorus_ui.specs.declared.ui.Ui.{Ui}
use Rattle.chorus_ui.specs.Name.{same_ui}
use Rattle.chorus_ui.proofs.Names.{same_ui-self, from_same_ui}
use Rattle.chorus_ui.specs.declared.layout.Layout.{Layout}
use Rattle.chorus_entry.specs.declared.entry.Entry.{Entry}
use Rattle.chorus_entry.specs.declared.id.MsgId.{MsgId}
use Rattle.chorus_entry.specs.declared.command.Command.{Command}
use Rattle.chorus_entry.specs.declared.act.Act.{Act}
use Rattle.chorus_entry.specs.declared.act.Act.TheVariants as acts
use Rattle.chorus_entry.specs.declared.packet.Cargo.TheVariants as cargos
use Rattle.chorus_entry.specs.declared.record.PortRecord.{PortRecord}
use Rattle.chorus_entry.specs.Act.{message_of, held_port_of}
use Rattle.chorus_entry.specs.Kinds.{has_kinds}
use Rattle.chorus_world.specs.declared.spot.Spot.TheVariants.{Held, Moving, Ended}
use Rattle.chorus_hints.specs.Known.{learned}
use Rattle.chorus_world.specs.Views.{at, on, is_on}
use Rattle.chorus_world.specs.Ports.{PortState, fate, fate_after, last_of}
use Rattle.chorus_world.specs.Places.{last_clock, just_taken}
use Rattle.chorus_world.specs.Runs.{fits_caller}
use Rattle.chorus_world.specs.SortingLaws.{LooksAtHome}
use Rattle.chorus_world.proofs.Sorted.Local.{local_views, act_may_here}
use Rattle.chorus_world.proofs.Messages.Posted.{AllPosted, AcceptedPosted, EachPosted, accepted_posted, filtered}
use Rattle.chorus_ports.specs.Table.{find, replace, without}
use Rattle.chorus_ports.specs.Taking.{rehomed}
use Rattle.chorus_ports.specs.History.{migrated}
use Rattle.chorus_ports.proofs.Tables.{find-without, are_distinct-without}
use Rattle.law_machine.specs.declared.outgoing.Outgoing.{Outgoing}
use Rattle.law_machine.specs.PlaceState.{Turn, next_clock, next_entry, packed, unchanged, note}
use Rattle.law_machine.specs.Doing.{with_ports, departs, transfer_to}
use Rattle.chorus_world.proofs.Seats.OnlyAnswer.{Fitting}
use Rattle.law_network.specs.Packets.{put, put_all}
use Rattle.law_network.specs.Network.{NetState}
use Rattle.law_network.specs.Records.{message, record_by, record_here, record_held, record_for}
use Rattle.law_network.specs.UnderWay.{packet, before_last, is_of, is_with, transfer_by, transfer_of, transfer_in}
use Rattle.law_network.specs.UnderWay as under_ways
use Rattle.law_network.proofs.Links.LinkViews.{put-out, put-in, put-order}
use Rattle.law_network.proofs.Standing.InTurn.{ArePackets}
use Rattle.law_network.proofs.Standing.Says.{known_clock, MaySay}
use Rattle.law_network.proofs.Standing.Grows.{record-grows}
use Rattle.law_network.proofs.Standing.StillCallers.{asks_or_chooses, caller-still, asks-still, no-message-clock}
use Rattle.law_network.proofs.Standing.Families.{Here, messages-none, ports-one, transfers-one, held-there, held-moves-not, moving-not-here}
use Rattle.law_network.proofs.Standing.Steps.{Stood, facts, laws, says, legal-with, tables-still}
use Rattle.law_network.proofs.Tables.TablesSay.{unheard-still, waiting-still}
use Rattle.law_network.proofs.Links.PacketViews.{put-asks, no-ask}
use Rattle.law_network.proofs.Ports.HeldPorts.{here-now, line-clock, name-now, replaced, left-alone}
use Rattle.law_network.proofs.Standing.Leading.{behind-calm}
use Rattle.law_network.proofs.Tables.Learning.{known-departs}

module _ (n : NetState) (us : List Outgoing) (past : List Entry) (t : Turn) (w : Stood n us past t) (q : Ui) (r : PortRecord) (found : find q t.place.ports ≡ Some r) (rests : just_taken past (at t.place.number past) ≡ None) where
  abbrev l : Layout
  l = t.place.layout

  abbrev p : ℕ
  p = t.place.number

  abbrev line : List Entry
  line = on q past

  abbrev os : List Outgoing
  os = put_all t.puts us

  abbrev pub z : Here past (on q past) q t.place.number r
  z = here-now n us past t w q r found

  abbrev Fit : Command → Act → Type 0
  Fit c a = Fitting t.place.layout past t.place.number t.caller.seat t.caller.actor c a

  pub each-posted : EachPosted past z.fate_of.accepted
  each-posted = subst (AcceptedPosted past) z.fate_is (accepted_posted past line (filtered past (is_on (Some q)) past (laws n us past t w).posted))

  pub line-posted : AllPosted past (on q past)
  line-posted = filtered past (is_on (Some q)) past (laws n us past t w).posted

  pub old-record : (e : Entry) → r ≡ record_for (e ∷ past) (on q past) q r.actor z.fate_of
  old-record e = z.shows ∙ sym (record-grows e past line q r.actor z.fate_of line-posted each-posted)

  -- packets where the port alone is concerned, and no Transfer comes or goes
  pub still-packets : (a : Act) → message_of a ≡ None → asks_or_chooses a ≡ false → ((y : Ui) → under_ways.transfer (next_entry a t ∷ past) y ≡ under_ways.transfer past y) → ArePackets t.place.layout os (next_entry a t ∷ past)
  still-packets a m g same =
      let e = next_entry a t in
      record {
        order = w.packets.order;
        messages = messages-none l past e (laws n us past t w).posted os os (facts n us past t w) m (λ x. refl) w.packets.messages;
        transfers = λ y. w.packets.transfers y ∙ sym (same y);
        asks = asks-still l os os past e g (λ f b s. refl) w.packets.asks;
      }

  pub port-may : (a : Act) → message_of a ≡ None → held_port_of a ≡ Some q → has_kinds a ≡ true
      → act_may_here t.place.layout (local_views past past t.place.number t.caller.seat a) t.place.number t.caller.seat a ≡ true
      → fits_caller past t.place.number t.caller.actor a ≡ true → LooksAtHome t.place.layout t.place.number a → MaySay past t a
  port-may a m o kinds may fits looks =
      record {
        kinds = kinds;
        behind = behind-calm past p a rests;
        may = may;
        fits = fits;
        looks = looks;
        message = no-message-clock past (message_of a) (known_clock t) m;
        port = subst (λ b. last_clock (filter (is_on b) past) ≤ known_clock t) (sym o) (line-clock n us past t w q r found);
      }

  -- Empty
  pub empty-stands : {c : Command} → Fit c (acts.Empty q) → Stood n us (next_entry (acts.Empty q) t ∷ past) (note (acts.Empty q) t)
  empty-stands fit =
      let a = acts.Empty q in
      let e = next_entry a t in
      let f = z.fate_of in
      let s = left-alone n us past t w q r found e f refl refl refl z.spot z.place (old-record e) in
      let may = port-may a refl refl fit.kinds fit.may fit.fits tt in
      says n us past t w a (unchanged t)
      (record {
        may = may;
        caller = caller-still past t a refl w.caller;
        ports = s.ports;
        tables = tables-still n us past t w a may refl refl refl (λ k f. refl);
        packets = still-packets a refl refl s.transfers;
      })

  -- Rehome
  pub rehome-stands : {c : Command} (actor : Ui) → Fit c (acts.Rehome q actor) → Stood n us (next_entry (acts.Rehome q actor) t ∷ past) (with_ports (acts.Rehome q actor) (replace q (rehomed actor) t.place.ports) t)
  rehome-stands actor fit =
      let a = acts.Rehome q actor in
      let e = next_entry a t in
      let f = z.fate_of in
      let g : PortState = record f { spot = Held actor } in
      let is : rehomed actor r ≡ record_for (e ∷ past) (e ∷ line) q actor g = ap (rehomed actor) (old-record e) in
      let s = replaced n us past t w q r found e actor g (rehomed actor) (λ k. refl) refl refl refl refl z.place is in
      let may = port-may a refl refl fit.kinds fit.may fit.fits tt in
      says n us past t w a (record (unchanged t) { ports = replace q (rehomed actor) t.place.ports })
      (record {
        may = may;
        caller = caller-still past t a refl w.caller;
        ports = s.ports;
        tables = tables-still n us past t w a may refl refl refl (λ k f. refl);
        packets = still-packets a refl refl s.transfers;
      })

  -- Delete
  ended-not-here : (all v : List Entry) (f : PortState) (s : ℕ) → fate v ≡ Some f → f.spot ≡ Ended → record_by all v q s ≡ None
  ended-not-here all v f s e k = ap (record_here all v q s) e ∙ ap (record_held all v q s f) k

  ended-moves-not : (all v : List Entry) (f : PortState) → fate v ≡ Some f → f.spot ≡ Ended → transfer_by all v q ≡ []
  ended-moves-not all v f e k = ap (transfer_of all v q) e ∙ ap (transfer_in all v q f) k

  gone-here : find q (without q t.place.ports) ≡ None
  gone-here = find-without q q t.place.ports w.here.once ∙ ap (λ b. cond b None (find q t.place.ports)) (same_ui-self q)

  gone-others : (y : Ui) → same_ui q y ≡ false → find y (without q t.place.ports) ≡ find y t.place.ports
  gone-others y ne = find-without y q t.place.ports w.here.once ∙ ap (λ b. cond b None (find y t.place.ports)) ne

  pub delete-stands : {c : Command} (xs : List MsgId) → Fit c (acts.Delete q xs) → Stood n us (next_entry (acts.Delete q xs) t ∷ past) (with_ports (acts.Delete q xs) (without q t.place.ports) t)
  delete-stands xs fit =
      let a = acts.Delete q xs in
      let e = next_entry a t in
      let f = z.fate_of in
      let g : PortState = record f { spot = Ended } in
      let all = (laws n us past t w).posted in
      let after : fate (e ∷ line) ≡ Some g = ap (fate_after p a) z.fate_is in
      let ports = without q t.place.ports in
      let may = port-may a refl refl fit.kinds fit.may fit.fits tt in
      says n us past t w a (record (unchanged t) { ports = ports })
      (record {
        may = may;
        caller = caller-still past t a refl w.caller;
        ports = ports-one l past e all q t.place.ports ports refl (are_distinct-without q t.place.ports w.here.once) w.here.ports gone-others
            (gone-here ∙ sym (ended-not-here (e ∷ past) (e ∷ line) g p after refl))
            (λ s ne. ended-not-here (e ∷ past) (e ∷ line) g s after refl ∙ sym (held-there past line q r.actor p s f z.fate_is z.spot z.place ne));
        tables = tables-still n us past t w a may refl refl refl (λ k f. refl);
        packets = record {
          order = w.packets.order;
          messages = messages-none l past e all os os (facts n us past t w) refl (λ x. refl) w.packets.messages;
          transfers = transfers-one l past e all q os os refl (λ y ne. refl) w.packets.transfers
              (w.packets.transfers q ∙ (held-moves-not past line q r.actor f z.fate_is z.spot ∙ sym (ended-moves-not (e ∷ past) (e ∷ line) g after refl)));
          asks = asks-still l os os past e refl (λ f b s. refl) w.packets.asks;
        };
      })

  -- Depart
  push-last : (xs : List ℕ) (d x : ℕ) → last_of d (xs ++ x ∷ []) ≡ x
  push-last [] d x = refl
  push-last (y ∷ xs) d x = push-last xs y x

  push-before : (xs : List ℕ) (c d x : ℕ) → before_last c d (xs ++ x ∷ []) ≡ last_of d xs
  push-before [] c d x = refl
  push-before (y ∷ xs) c d x = push-before xs d y x

  pub depart-stands : {c : Command} (to : ℕ) (actor : Ui) → Fit c (acts.Depart q to actor (r.hop + 1)) → 1 ≤ length z.fate_of.path
      → Stood n us (next_entry (acts.Depart q to actor (r.hop + 1)) t ∷ past) (departs q to actor (r.hop + 1) t)
  depart-stands to actor fit some =
      let hop = r.hop + 1 in
      let a = acts.Depart q to actor hop in
      let e = next_entry a t in
      let f = z.fate_of in
      let g : PortState = record f { path = f.path ++ to ∷ []; spot = Moving actor } in
      let all = (laws n us past t w).posted in
      let after : fate (e ∷ line) ≡ Some g = ap (fate_after p a) z.fate_is in
      let ports = without q t.place.ports in
      let o = packed t (to, cargos.Transfer (migrated hop actor r)) in
      let hop-was : r.hop ≡ length f.path - 1 = ap (λ (k : PortRecord). k.hop) z.shows in
      let hop-is : hop ≡ length f.path = omega (arith, hop-was, some) in
      let push = length-append f.path (to ∷ []) in
      let hop-after : length (f.path ++ to ∷ []) - 1 ≡ hop = omega (arith, push, hop-is) in
      let moved : migrated hop actor r ≡ record_for (e ∷ past) (e ∷ line) q actor g =
      ap (migrated hop actor) (old-record e) ∙ ap (λ h. record (record_for (e ∷ past) (e ∷ line) q actor g) { hop = h }) (sym hop-after) in
      let shown : o ∷ [] ≡ transfer_by (e ∷ past) (e ∷ line) q =
      (λ i. packet (sym (push-before f.path 0 0 to ∙ z.place) i) (sym (push-last f.path 0 to) i) (next_clock t) (cargos.Transfer (moved i)) ∷ [])
      ∙ sym (ap (transfer_of (e ∷ past) (e ∷ line) q) after) in
      let none : filter (is_with q) os ≡ [] = w.packets.transfers q ∙ held-moves-not past line q r.actor f z.fate_is z.spot in
      let loads-are : transfer_to to actor hop (find q t.place.ports) ≡ (to, cargos.Transfer (migrated hop actor r)) ∷ [] = ap (transfer_to to actor hop) found in
      let name : r.ui ≡ q = name-now n us past t w q r found in
      let may = port-may a refl refl fit.kinds fit.may fit.fits tt in
      says n us past t w a (record (unchanged t) { ports = ports; known = learned q to hop t.place.known; loads = transfer_to to actor hop (find q t.place.ports) })
      (record {
        may = may;
        caller = caller-still past t a refl w.caller;
        ports = ports-one l past e all q t.place.ports ports refl (are_distinct-without q t.place.ports w.here.once) w.here.ports gone-others
            (gone-here ∙ sym (moving-not-here (e ∷ past) (e ∷ line) q actor p g after refl))
            (λ s ne. moving-not-here (e ∷ past) (e ∷ line) q actor s g after refl ∙ sym (held-there past line q r.actor p s f z.fate_is z.spot z.place ne));
        tables = record {
          known = known-departs l t.place.known e (at p past) q to actor hop from_same_ui refl w.here.known;
          waiting = waiting-still l past e t.place.waiting all (legal-with n us past t w a may) w.here.waiting refl (λ k y. refl);
          unheard = unheard-still l past e t.place.unheard refl w.here.unheard;
        };
        packets = subst (λ ls. ArePackets l (put_all (map (packed t) ls) os) (e ∷ past)) (sym loads-are)
            (record {
              order = put-order o os w.packets.order;
              messages = messages-none l past e all os (put o os) (facts n us past t w) refl (λ x. put-out (is_of x) o os refl) w.packets.messages;
              transfers = transfers-one l past e all q os (put o os) refl (λ y ne. put-out (is_with y) o os (ap (λ u. same_ui u y) name ∙ ne)) w.packets.transfers
                  (put-in (is_with q) o os (ap (λ u. same_ui u q) name ∙ same_ui-self q) none ∙ shown);
              asks = asks-still l os (put o os) past e refl (λ f b s. put-asks f b s o os (no-ask f o refl)) w.packets.asks;
            });
      })
