-- A port arrives with its Transfer.
use Rattle.std.proofs.Common.{ℕ, ◌≡◌, ◌≤◌, ◌⊎◌, inl, inr, ◌==◌, ◌-◌, true, ◌&&◌, cond, List, [], ◌∷◌, ◌++◌, length, Option, Some, None, refl, sym, ◌∙◌, ap, subst, arith, eq-eqb}
use Rattle.std.proofs.lemmas.Bool.{and_from, and_parts, eqb-true}
use Rattle.chorus_ui.specs.declared.ui.Ui.{Ui}
use Rattle.chorus_ui.proofs.Names.{same_ui-self, from_same_ui}
use Rattle.chorus_ui.specs.declared.layout.Layout.{Layout}
use Rattle.chorus_entry.specs.declared.entry.Entry.{Entry}
use Rattle.chorus_entry.specs.declared.act.Act.TheVariants as acts
use Rattle.chorus_entry.specs.declared.packet.Packet.{Packet}
use Rattle.chorus_entry.specs.declared.packet.Cargo.TheVariants as cargos
use Rattle.chorus_entry.specs.declared.record.PortRecord.{PortRecord}
use Rattle.chorus_world.specs.declared.spot.Spot.{Spot}
use Rattle.chorus_world.specs.declared.spot.Spot.TheVariants.{Held, Moving, Ended}
use Rattle.chorus_world.specs.Views.{at, on, is_on}
use Rattle.chorus_world.specs.Ports.{PortState, fate, fate_after, arrived, last_of, is_moving, is_last, is_coming}
use Rattle.chorus_world.specs.Places.{last_clock}
use Rattle.chorus_world.proofs.Messages.Posted.{AcceptedPosted, accepted_posted, filtered}
use Rattle.chorus_ports.specs.Table.{find}
use Rattle.chorus_ports.proofs.Tables.{find-last, are_distinct-last}
use Rattle.law_machine.specs.declared.outgoing.Outgoing.{Outgoing}
use Rattle.law_machine.specs.PlaceState.{Turn, next_entry, unchanged}
use Rattle.law_machine.specs.Working.{receives_port}
use Rattle.law_network.specs.Packets.{put_all, rest_on}
use Rattle.law_network.specs.Network.{NetState}
use Rattle.law_network.specs.Records.{record_for}
use Rattle.law_network.specs.UnderWay.{packet, moves, carries, before_last, transfer_by, transfer_of, transfer_in}
use Rattle.law_network.proofs.Links.LinkViews.{rest-order}
use Rattle.law_network.proofs.Standing.InTurn.{ArePackets}
use Rattle.law_network.proofs.Standing.Says.{known_clock, MaySay}
use Rattle.law_network.proofs.Standing.Saying.{legal-now}
use Rattle.law_network.proofs.Standing.Grows.{record-grows}
use Rattle.law_network.proofs.Standing.StillCallers.{caller-still, asks-still, no-message-clock}
use Rattle.law_network.proofs.Standing.Families.{messages-none, ports-one, transfers-one, held-here, held-there, held-moves-not, moving-not-here}
use Rattle.law_network.proofs.Links.PacketViews.{rest-asks, is_ask, no-ask, of-other, with-taken, with-none, with-other}
use Rattle.law_network.proofs.Standing.Steps.{Stood, facts, laws, legal-with}
use Rattle.law_network.proofs.Tables.TablesSay.{unheard-still, waiting-still}
use Rattle.law_network.proofs.Tables.Learning.{known-arrives}
use Rattle.chorus_hints.specs.Known.{learned}
use Rattle.chorus_world.proofs.Ports.PortNames.{line-named}
use Rattle.law_network.proofs.Standing.Leading.{LeadsOn, leads-one, behind-calm}
use Rattle.law_network.proofs.Standing.Given.{Comes}
use Rattle.law_network.proofs.Packets.Receiving.{takes-says, packets-now}

-- the port that a Transfer brings
record Brings (past : List Entry) (q : Ui) (o : Outgoing) : Type 0 where
  fate_of : PortState
  actor : Ui
  fate_is : fate (on q past) ≡ Some fate_of
  spot : fate_of.spot ≡ Moving actor
  is : o ≡ packet (before_last 0 0 fate_of.path) (last_of 0 fate_of.path) (last_clock (on q past)) (cargos.Transfer (record_for past (on q past) q actor fate_of))

brings : (past : List Entry) (q : Ui) → (transfer_by past (on q past) q ≡ []) ⊎ ((o : Outgoing) × ((transfer_by past (on q past) q ≡ o ∷ []) × Brings past q o))
brings past q = go (fate (on q past)) refl
  where
    spot : (f : PortState) (s : Spot) → fate (on q past) ≡ Some f → f.spot ≡ s → (transfer_in past (on q past) q f s ≡ []) ⊎ ((o : Outgoing) × ((transfer_in past (on q past) q f s ≡ o ∷ []) × Brings past q o))
    spot f (Held a) e k = inl refl
    spot f Ended e k = inl refl
    spot f (Moving a) e k = inr (_, (refl, record { fate_of = f; actor = a; fate_is = e; spot = k; is = refl }))

    go : (o : Option PortState) → fate (on q past) ≡ o → (transfer_of past (on q past) q o ≡ []) ⊎ ((u : Outgoing) × ((transfer_of past (on q past) q o ≡ u ∷ []) × Brings past q u))
    go None e = inl refl
    go (Some f) e = spot f f.spot e refl

module _ (n : NetState) (us : List Outgoing) (past : List Entry) (t : Turn) (from : ℕ) (k : Packet) (i : Comes n us past t from k) where
  abbrev w : Stood n us past t
  w = i.calm.stood

  abbrev l : Layout
  l = t.place.layout

  abbrev p : ℕ
  p = t.place.number

  abbrev rest : List Outgoing
  rest = rest_on from t.place.number us

  abbrev before : ArePackets t.place.layout us past
  before = packets-now n us past t from k i

  pub transfer-stands : (port : PortRecord) → k.cargo ≡ cargos.Transfer port → LeadsOn n (rest_on from t.place.number us) past (receives_port port t)
  transfer-stands port c =
      let q = port.ui in
      let line = on q past in
      let mover : moves q k.cargo ≡ true = ap (moves q) c ∙ same_ui-self q in
      elim (brings past q) [
        | inl none ↦ absurd (with-none q from p us k mover i.first (before.transfers q ∙ none))
        | inr b ↦ (
            let o = b.0 in
            let h = b.1.1 in
            let taken = with-taken q from p us k o mover i.first (before.transfers q ∙ b.1.0) in
            let f = h.fate_of in
            let is = h.is in
            let to-here : last_of 0 f.path ≡ p = ap (λ (u : Outgoing). u.to) (sym is) ∙ eqb-true o.to p (and_parts (o.packet.from == from) (o.to == p) taken.1.0).1 in
            let cargo : cargos.Transfer (record_for past line q h.actor f) ≡ cargos.Transfer port = ap (λ (u : Outgoing). u.packet.cargo) (sym is) ∙ (ap (λ (z : Packet). z.cargo) taken.0 ∙ c) in
            let port-is : record_for past line q h.actor f ≡ port = cc in
            let g : PortState = record f { spot = Held h.actor } in
            let a = acts.Arrive q port.hop in
            let e = next_entry a t in
            let all = (laws n us past t w).posted in
            let posted = filtered past (is_on (Some q)) past all in
            let each = subst (AcceptedPosted past) h.fate_is (accepted_posted past line posted) in
            let changed-is : fate (e ∷ line) ≡ Some g = ap (fate_after p a) h.fate_is ∙ ap (λ s. Some (record f { spot = arrived s })) h.spot in
            let shows : port ≡ record_for (e ∷ past) (e ∷ line) q h.actor g = sym port-is ∙ sym (record-grows e past line q h.actor f posted each) in
            let absent : find q t.place.ports ≡ None = w.here.ports q ∙ moving-not-here past line q h.actor p f h.fate_is h.spot in
            let ports = t.place.ports ++ port ∷ [] in
            let hop-is : port.hop ≡ length f.path - 1 = ap (λ (r : PortRecord). r.hop) (sym port-is) in
            let coming : is_coming p port.hop (fate line) ≡ true =
            ap (is_coming p port.hop) h.fate_is
            ∙ and_from (is_moving f.spot && is_last p f) (port.hop == length f.path - 1)
            (and_from (is_moving f.spot) (is_last p f) (ap is_moving h.spot) (eq-eqb (last_of 0 f.path) p to-here)) (eq-eqb port.hop (length f.path - 1) hop-is) in
            let clock : last_clock line ≤ known_clock t =
            (let x = ap (λ (u : Outgoing). u.packet.clock) is in let y = ap (λ (z : Packet). z.clock) taken.0 in let u = i.clock in omega (arith, x, y, u)) in
            let may : MaySay past t a =
            record {
              kinds = line-named l past q f (legal-now n (put_all t.puts us) past t w) h.fate_is;
              behind = behind-calm past p a i.calm.rests;
              may = coming;
              fits = refl;
              looks = tt;
              message = no-message-clock past None (known_clock t) refl;
              port = clock;
            } in
            leads-one n rest past t (receives_port port t) a
            (takes-says n us rest past t a (record (unchanged t) { ports = ports; known = learned q p port.hop t.place.known }) i.none w
            (record {
              may = may;
              caller = caller-still past t a refl w.caller;
              ports = ports-one l past e all q t.place.ports ports refl (are_distinct-last t.place.ports port w.here.once absent) w.here.ports
                  (λ y ne. find-last y t.place.ports port absent ∙ ap (λ b. cond b (Some port) (find y t.place.ports)) ne)
                  (find-last q t.place.ports port absent
                  ∙ (ap (λ b. cond b (Some port) (find q t.place.ports)) (same_ui-self q) ∙ (ap (λ r. Some r) shows ∙ sym (held-here (e ∷ past) (e ∷ line) q h.actor p g changed-is refl to-here))))
                  (λ r ne. held-there (e ∷ past) (e ∷ line) q h.actor p r g changed-is refl to-here ne ∙ sym (moving-not-here past line q h.actor r f h.fate_is h.spot));
              tables = record {
                known = known-arrives l t.place.known e (at p past) q port.hop from_same_ui refl w.here.known;
                waiting = waiting-still l past e t.place.waiting all (legal-with n us past t w a may) w.here.waiting refl (λ m y. refl);
                unheard = unheard-still l past e t.place.unheard refl w.here.unheard;
              };
              packets = record {
                order = rest-order from p us before.order;
                messages = messages-none l past e all us rest (facts n us past t w) refl (λ x. of-other x from p us k (ap (carries x) c) i.first) before.messages;
                transfers = transfers-one l past e all q us rest refl (λ y ne. with-other y from p us k (ap (moves y) c ∙ ne) i.first) before.transfers
                    (taken.1.1 ∙ sym (held-moves-not (e ∷ past) (e ∷ line) q h.actor g changed-is refl));
                asks = asks-still l us rest past e refl (λ v b s. rest-asks v b s from p us k (λ u y. no-ask v u (ap (λ (z : Packet). is_ask z.cargo) y ∙ ap is_ask c)) i.first) before.asks;
              };
            })) refl refl)
      ]
