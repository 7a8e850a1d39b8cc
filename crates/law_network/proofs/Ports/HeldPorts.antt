-- An entry at a port that is held here, and stays held here.
use Rattle.std.proofs.Common.{◌≡◌, ◌≤◌, Bool, true, false, cond, List, ◌∷◌, Some, refl, sym, ◌∙◌, ap, subst, arith, eq-eqb}
use Rattle.std.specs.Option.{option_map}
use Rattle.std.proofs.lemmas.Bool.{and_from}
use Rattle.chorus_ui.specs.declared.ui.Ui.{Ui}
use Rattle.chorus_ui.specs.Name.{same_ui}
use Rattle.chorus_ui.proofs.Names.{from_same_ui, same_ui-self}
use Rattle.chorus_ui.specs.declared.layout.Layout.{Layout}
use Rattle.chorus_ui.specs.Layout.{IsLayout}
use Rattle.chorus_entry.specs.declared.entry.Entry.{Entry}
use Rattle.chorus_entry.specs.declared.record.PortRecord.{PortRecord}
use Rattle.chorus_entry.specs.Act.{held_port_of}
use Rattle.chorus_world.specs.declared.spot.Spot.TheVariants.{Held}
use Rattle.chorus_world.specs.Views.{on, is_on}
use Rattle.chorus_entry.specs.Same.{are_same}
use Rattle.chorus_world.specs.Ports.{PortState, fate, fate_after, last_of, is_held, is_last, is_held_at}
use Rattle.chorus_world.specs.Places.{last_clock}
use Rattle.chorus_world.specs.AcceptedLaws.{received, discarded}
use Rattle.chorus_world.specs.Steps.{is_legal}
use Rattle.chorus_world.proofs.Sorted.ClockLemmas.{holder_clock}
use Rattle.chorus_world.proofs.Steps.LegalLemmas.{keeps}
use Rattle.chorus_world.proofs.Ports.LineLemmas.{LineFacts, LineIs}
use Rattle.chorus_world.proofs.Messages.Posted.{AllPosted}
use Rattle.chorus_world.proofs.Ports.PortLaws.{legal_line}
use Rattle.chorus_ports.specs.Table.{find, are_distinct, replace}
use Rattle.chorus_ports.proofs.Tables.{KeepsName, find-replace, are_distinct-replace, find-name, differs_back}
use Rattle.law_machine.specs.declared.outgoing.Outgoing.{Outgoing}
use Rattle.law_machine.specs.PlaceState.{Turn}
use Rattle.law_network.specs.Packets.{put_all}
use Rattle.law_network.specs.Network.{NetState}
use Rattle.law_network.specs.Records.{record_at, record_for}
use Rattle.law_network.specs.UnderWay.{transfer, transfer_by}
use Rattle.law_network.proofs.Standing.Says.{known_clock, PortsSay}
use Rattle.law_network.proofs.Standing.Saying.{legal-now, known-here}
use Rattle.law_network.proofs.Standing.Families.{Here, here-is, held-here, held-there, held-moves-not, ports-one, transfer-other}
use Rattle.law_network.proofs.Standing.Steps.{Stood, laws}

-- what is so of the line of a made port
pub line-facts : (l : Layout) (past : List Entry) (q : Ui) (f : PortState) → IsLayout l → is_legal l past ≡ true → fate (on q past) ≡ Some f → LineFacts f (received (on q past)) (discarded (on q past))
line-facts l past q f shape h e = subst (λ o. LineIs o (on q past)) e (legal_line l past q shape h).0

pub record StaysHeld (past : List Entry) (e : Entry) (rs : List PortRecord) : Type 0 where
  pub ports : PortsSay past e rs
  pub transfers : (r : Ui) → transfer (e ∷ past) r ≡ transfer past r

pub stays-held : (l : Layout) (past : List Entry) (e : Entry) → AllPosted past past → (q b c : Ui) (f g : PortState) (old ports : List PortRecord) → held_port_of e.act ≡ Some q
    → fate (on q past) ≡ Some f → f.spot ≡ Held b → last_of 0 f.path ≡ e.place
    → fate_after e.place e.act (Some f) ≡ Some g → g.spot ≡ Held c → last_of 0 g.path ≡ e.place
    → are_distinct ports ≡ true → ((z : Ui) → find z old ≡ record_at past z e.place) → ((z : Ui) → same_ui q z ≡ false → find z ports ≡ find z old)
    → find q ports ≡ Some (record_for (e ∷ past) (e ∷ on q past) q c g) → StaysHeld past e ports
stays-held l past e all q b c f g old ports m was spot place now spot2 place2 once w other this =
    let line = e ∷ on q past in
    let after : fate line ≡ Some g = ap (fate_after e.place e.act) was ∙ now in
    record {
      ports = ports-one l past e all q old ports m once w other
          (this ∙ sym (held-here (e ∷ past) line q c e.place g after spot2 place2))
          (λ r ne. held-there (e ∷ past) line q c e.place r g after spot2 place2 ne ∙ sym (held-there past (on q past) q b e.place r f was spot place ne));
      transfers = λ z. by z (same_ui q z) refl;
    }
  where
    by : (z : Ui) (d : Bool) → same_ui q z ≡ d → transfer (e ∷ past) z ≡ transfer past z
    by z false n = transfer-other l past e all z (ap (are_same same_ui (Some z)) m ∙ differs_back q z n)
    by z true t =
        let same : q ≡ z = from_same_ui q z t in
        let line = e ∷ on q past in
        let view = keeps (is_on (Some q)) e past (ap (are_same same_ui (Some q)) m ∙ same_ui-self q) in
        subst (λ y. transfer (e ∷ past) y ≡ transfer past y) same
        (ap (λ v. transfer_by (e ∷ past) v q) view
        ∙ (held-moves-not (e ∷ past) line q c g (ap (fate_after e.place e.act) was ∙ now) spot2
        ∙ sym (held-moves-not past (on q past) q b f was spot)))

-- A port that the place of the turn holds.
module _ (n : NetState) (us : List Outgoing) (past : List Entry) (t : Turn) (w : Stood n us past t) (q : Ui) (r : PortRecord) (h : find q t.place.ports ≡ Some r) where
  pub here-now : Here past (on q past) q t.place.number r
  here-now = here-is past (on q past) q t.place.number r (sym (w.here.ports q) ∙ h)

  pub held-now : is_held_at t.place.number (fate (on q past)) ≡ true
  held-now =
      let z = here-now in
      ap (is_held_at t.place.number) z.fate_is
      ∙ and_from (is_held z.fate_of.spot) (is_last t.place.number z.fate_of) (ap is_held z.spot) (eq-eqb (last_of 0 z.fate_of.path) t.place.number z.place)

  pub line-clock : last_clock (on q past) ≤ known_clock t
  line-clock =
      let a = holder_clock t.place.layout past q t.place.number (legal-now n (put_all t.puts us) past t w) held-now in
      let b = known-here n (put_all t.puts us) past t w in
      omega (arith, a, b)

  pub facts-now : LineFacts here-now.fate_of (received (on q past)) (discarded (on q past))
  facts-now = line-facts t.place.layout past q here-now.fate_of w.shape (legal-now n (put_all t.puts us) past t w) here-now.fate_is

  pub name-now : r.ui ≡ q
  name-now = find-name q t.place.ports r h

  -- the entry e replaces its record
  pub replaced : (e : Entry) (c : Ui) (g : PortState) (change : PortRecord → PortRecord) → KeepsName change → held_port_of e.act ≡ Some q → e.place ≡ t.place.number
      → fate_after t.place.number e.act (Some here-now.fate_of) ≡ Some g → g.spot ≡ Held c → last_of 0 g.path ≡ t.place.number → change r ≡ record_for (e ∷ past) (e ∷ on q past) q c g
      → StaysHeld past e (replace q change t.place.ports)
  replaced e c g change keeps_name m at_place now spot place is =
      let z = here-now in
      let all = (laws n us past t w).posted in
      let p = t.place.number in
      stays-held t.place.layout past e all q r.actor c z.fate_of g t.place.ports (replace q change t.place.ports) m z.fate_is z.spot (z.place ∙ sym at_place)
      (ap (λ y. fate_after y e.act (Some z.fate_of)) at_place ∙ now) spot (place ∙ sym at_place)
      (are_distinct-replace q change t.place.ports keeps_name ∙ w.here.once)
      (λ y. w.here.ports y ∙ ap (record_at past y) (sym at_place))
      (λ y ne. find-replace y q change t.place.ports keeps_name ∙ ap (λ d. cond d (option_map change (find y t.place.ports)) (find y t.place.ports)) ne)
      (find-replace q q change t.place.ports keeps_name
      ∙ (ap (λ d. cond d (option_map change (find q t.place.ports)) (find q t.place.ports)) (same_ui-self q)
      ∙ (ap (option_map change) h ∙ ap (λ y. Some y) is)))

  -- or leaves all records as they are
  pub left-alone : (e : Entry) (g : PortState) → held_port_of e.act ≡ Some q → e.place ≡ t.place.number
      → fate_after t.place.number e.act (Some here-now.fate_of) ≡ Some g → g.spot ≡ Held r.actor → last_of 0 g.path ≡ t.place.number → r ≡ record_for (e ∷ past) (e ∷ on q past) q r.actor g
      → StaysHeld past e t.place.ports
  left-alone e g m at_place now spot place is =
      let z = here-now in
      let all = (laws n us past t w).posted in
      stays-held t.place.layout past e all q r.actor r.actor z.fate_of g t.place.ports t.place.ports m z.fate_is z.spot (z.place ∙ sym at_place)
      (ap (λ y. fate_after y e.act (Some z.fate_of)) at_place ∙ now) spot (place ∙ sym at_place) w.here.once
      (λ y. w.here.ports y ∙ ap (record_at past y) (sym at_place)) (λ y ne. refl) (h ∙ ap (λ y. Some y) is)
