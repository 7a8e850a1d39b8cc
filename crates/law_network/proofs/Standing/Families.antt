-- How one entry more changes each view of a network: of one message, of one port, and of none.
use Rattle.std.proofs.Common.{ℕ, ◌≡◌, ◌==◌, inl, inr, Bool, true, false, cond, List, [], ◌∷◌, Option, Some, None, refl, sym, ◌∙◌, ap, subst, eq-eqb}
use Rattle.std.specs.List.{filter}
use Rattle.std.proofs.lemmas.Bool.{cases_Bool, eqb-true}
use Rattle.chorus_ui.specs.declared.ui.Ui.{Ui}
use Rattle.chorus_ui.specs.Name.{same_ui}
use Rattle.chorus_ui.proofs.Names.{from_same_ui, same_ui-self}
use Rattle.chorus_ui.specs.declared.layout.Layout.{Layout}
use Rattle.chorus_entry.specs.declared.entry.Entry.{Entry}
use Rattle.chorus_entry.specs.declared.id.MsgId.{MsgId}
use Rattle.chorus_entry.specs.declared.record.PortRecord.{PortRecord}
use Rattle.chorus_entry.specs.Act.{message_of, held_port_of}
use Rattle.chorus_entry.specs.MsgId.{same_id}
use Rattle.chorus_entry.proofs.Same.{from_same_id, same_id-self}
use Rattle.chorus_world.specs.Views.{about, on, is_about, is_on}
use Rattle.chorus_entry.specs.Same.{are_same}
use Rattle.chorus_world.specs.Places.{last_clock}
use Rattle.chorus_world.specs.Messages.{progress, progress_after}
use Rattle.chorus_world.specs.Ports.{PortState, fate, last_of}
use Rattle.chorus_world.specs.declared.spot.Spot.{Spot}
use Rattle.chorus_world.specs.declared.spot.Spot.TheVariants.{Held, Moving, Ended}
use Rattle.chorus_world.proofs.Steps.LegalLemmas.{skips, keeps}
use Rattle.chorus_world.proofs.Messages.Posted.{AllPosted, filtered}
use Rattle.chorus_world.proofs.Messages.SendingLemmas.{same_id_sym}
use Rattle.chorus_world.proofs.Messages.StageLemmas.{MessageFacts}
use Rattle.chorus_ports.specs.Table.{find, are_distinct}
use Rattle.chorus_ports.proofs.Tables.{differs_back}
use Rattle.law_machine.specs.declared.outgoing.Outgoing.{Outgoing}
use Rattle.law_network.specs.Records.{record_by, record_at, record_here, record_held, record_for}
use Rattle.law_network.specs.UnderWay.{is_of, is_with, under_way, under_way_as, transfer, transfer_by, transfer_of, transfer_in}
use Rattle.law_network.proofs.Standing.Says.{PortsSay}
use Rattle.law_network.proofs.Standing.Grows.{under-grows, shown-grows, transfer-grows}

module _ (l : Layout) (past : List Entry) (e : Entry) (all : AllPosted past past) where
  -- Messages.

  pub message-other : (x : MsgId) → MessageFacts x past → is_about (Some x) e ≡ false → under_way l (e ∷ past) x ≡ under_way l past x
  message-other x f n =
      ap (λ v. under_way_as l (e ∷ past) x (last_clock v) (progress v)) (skips (is_about (Some x)) e past n) ∙ under-grows l e past x all f

  pub message-this : (x : MsgId) → is_about (Some x) e ≡ true → under_way l (e ∷ past) x ≡ under_way_as l (e ∷ past) x e.clock (progress_after e.place e.act (progress (about x past)))
  message-this x h = ap (λ v. under_way_as l (e ∷ past) x (last_clock v) (progress v)) (keeps (is_about (Some x)) e past h)

  pub messages-none : (old now : List Outgoing) → ((x : MsgId) → MessageFacts x past) → message_of e.act ≡ None → ((x : MsgId) → filter (is_of x) now ≡ filter (is_of x) old)
      → ((x : MsgId) → filter (is_of x) old ≡ under_way l past x) → (x : MsgId) → filter (is_of x) now ≡ under_way l (e ∷ past) x
  messages-none old now f m same w x = same x ∙ (w x ∙ sym (message-other x (f x) (ap (are_same same_id (Some x)) m)))

  pub messages-one : (y : MsgId) (old now : List Outgoing) → ((x : MsgId) → MessageFacts x past) → message_of e.act ≡ Some y
      → ((x : MsgId) → same_id y x ≡ false → filter (is_of x) now ≡ filter (is_of x) old) → ((x : MsgId) → filter (is_of x) old ≡ under_way l past x)
      → filter (is_of y) now ≡ under_way_as l (e ∷ past) y e.clock (progress_after e.place e.act (progress (about y past)))
      → (x : MsgId) → filter (is_of x) now ≡ under_way l (e ∷ past) x
  messages-one y old now f m same w this x =
      elim (cases_Bool (same_id x y)) [
        | inl t ↦ (
            let is : x ≡ y = from_same_id x y t in
            subst (λ z. filter (is_of z) now ≡ under_way l (e ∷ past) z) (sym is)
            (this ∙ sym (message-this y (ap (are_same same_id (Some y)) m ∙ same_id-self y))))
        | inr n ↦ same x (same_id_sym y x ∙ n) ∙ (w x ∙ sym (message-other x (f x) (ap (are_same same_id (Some x)) m ∙ n)))
      ]

  -- Ports.

  pub record-other : (q : Ui) (p : ℕ) → is_on (Some q) e ≡ false → record_at (e ∷ past) q p ≡ record_at past q p
  record-other q p n =
      ap (λ v. record_by (e ∷ past) v q p) (skips (is_on (Some q)) e past n) ∙ shown-grows e past (on q past) q p (filtered past (is_on (Some q)) past all)

  pub transfer-other : (q : Ui) → is_on (Some q) e ≡ false → transfer (e ∷ past) q ≡ transfer past q
  transfer-other q n =
      ap (λ v. transfer_by (e ∷ past) v q) (skips (is_on (Some q)) e past n) ∙ transfer-grows e past (on q past) q (filtered past (is_on (Some q)) past all)

  pub ports-none : (ports : List PortRecord) → held_port_of e.act ≡ None → are_distinct ports ≡ true → ((q : Ui) → find q ports ≡ record_at past q e.place) → PortsSay past e ports
  ports-none ports m once w =
      record {
        once = once;
        here = λ q. w q ∙ sym (record-other q e.place (ap (are_same same_ui (Some q)) m));
        there = λ r ne q. record-other q r (ap (are_same same_ui (Some q)) m);
      }

  pub transfers-none : (old now : List Outgoing) → held_port_of e.act ≡ None → ((q : Ui) → filter (is_with q) now ≡ filter (is_with q) old)
      → ((q : Ui) → filter (is_with q) old ≡ transfer past q) → (q : Ui) → filter (is_with q) now ≡ transfer (e ∷ past) q
  transfers-none old now m same w q = same q ∙ (w q ∙ sym (transfer-other q (ap (are_same same_ui (Some q)) m)))

  -- a fact of each port, where the entry is at one of them
  one-port : (P : Ui → Type 0) (q : Ui) → held_port_of e.act ≡ Some q → ((z : Ui) → same_ui q z ≡ false → is_on (Some z) e ≡ false → P z) → (is_on (Some q) e ≡ true → P q) → (z : Ui) → P z
  one-port P q m other this z =
      elim (cases_Bool (same_ui q z)) [
        | inl t ↦ subst P (from_same_ui q z t) (this (ap (are_same same_ui (Some q)) m ∙ same_ui-self q))
        | inr n ↦ other z n (ap (are_same same_ui (Some z)) m ∙ differs_back q z n)
      ]

  pub ports-one : (q : Ui) (old ports : List PortRecord) → held_port_of e.act ≡ Some q → are_distinct ports ≡ true → ((z : Ui) → find z old ≡ record_at past z e.place)
      → ((z : Ui) → same_ui q z ≡ false → find z ports ≡ find z old)
      → find q ports ≡ record_by (e ∷ past) (e ∷ on q past) q e.place
      → ((r : ℕ) → (e.place == r) ≡ false → record_by (e ∷ past) (e ∷ on q past) q r ≡ record_at past q r) → PortsSay past e ports
  ports-one q old ports m once w other here there =
      record {
        once = once;
        here = one-port (λ z. find z ports ≡ record_at (e ∷ past) z e.place) q m
            (λ z n k. other z n ∙ (w z ∙ sym (record-other z e.place k)))
            (λ k. here ∙ sym (ap (λ v. record_by (e ∷ past) v q e.place) (keeps (is_on (Some q)) e past k)));
        there = λ r ne. one-port (λ z. record_at (e ∷ past) z r ≡ record_at past z r) q m
            (λ z n k. record-other z r k)
            (λ k. ap (λ v. record_by (e ∷ past) v q r) (keeps (is_on (Some q)) e past k) ∙ there r ne);
      }

  pub transfers-one : (q : Ui) (old now : List Outgoing) → held_port_of e.act ≡ Some q → ((z : Ui) → same_ui q z ≡ false → filter (is_with z) now ≡ filter (is_with z) old)
      → ((z : Ui) → filter (is_with z) old ≡ transfer past z) → filter (is_with q) now ≡ transfer_by (e ∷ past) (e ∷ on q past) q → (z : Ui) → filter (is_with z) now ≡ transfer (e ∷ past) z
  transfers-one q old now m same w this =
      one-port (λ z. filter (is_with z) now ≡ transfer (e ∷ past) z) q m
      (λ z n k. same z n ∙ (w z ∙ sym (transfer-other z k)))
      (λ k. this ∙ sym (ap (λ v. transfer_by (e ∷ past) v q) (keeps (is_on (Some q)) e past k)))

-- Records where a port is held.

pub record Here (past line : List Entry) (q : Ui) (p : ℕ) (r : PortRecord) : Type 0 where
  pub fate_of : PortState
  pub fate_is : fate line ≡ Some fate_of
  pub spot : fate_of.spot ≡ Held r.actor
  pub place : last_of 0 fate_of.path ≡ p
  pub shows : r ≡ record_for past line q r.actor fate_of

-- a record that is shown is that of a port that is held there
pub here-is : (past line : List Entry) (q : Ui) (p : ℕ) (r : PortRecord) → record_by past line q p ≡ Some r → Here past line q p r
here-is past line q p r h = by (fate line) refl h
  where
    shown : (f : PortState) (a : Ui) (b : Bool) → fate line ≡ Some f → f.spot ≡ Held a → (last_of 0 f.path == p) ≡ b → cond b (Some (record_for past line q a f)) None ≡ Some r → Here past line q p r
    shown f a true e s t k =
        let is : record_for past line q a f ≡ r = cc in
        subst (Here past line q p) is (record { fate_of = f; fate_is = e; spot = s; place = eqb-true (last_of 0 f.path) p t; shows = refl })
    shown f a false e s t k = absurd (cc)

    held : (f : PortState) (s : Spot) → fate line ≡ Some f → f.spot ≡ s → record_held past line q p f s ≡ Some r → Here past line q p r
    held f (Held a) e s k = shown f a (last_of 0 f.path == p) e s refl k
    held f (Moving a) e s k = absurd (cc)
    held f Ended e s k = absurd (cc)

    by : (o : Option PortState) → fate line ≡ o → record_here past line q p o ≡ Some r → Here past line q p r
    by None e k = absurd (cc)
    by (Some f) e k = held f f.spot e refl k

-- and where it is held, it is shown, there and nowhere else
pub held-here : (past line : List Entry) (q a : Ui) (p : ℕ) (f : PortState) → fate line ≡ Some f → f.spot ≡ Held a → last_of 0 f.path ≡ p → record_by past line q p ≡ Some (record_for past line q a f)
held-here past line q a p f e s t =
    ap (record_here past line q p) e ∙ (ap (record_held past line q p f) s ∙ ap (λ b. cond b (Some (record_for past line q a f)) None) (eq-eqb (last_of 0 f.path) p t))

pub held-there : (past line : List Entry) (q a : Ui) (p r : ℕ) (f : PortState) → fate line ≡ Some f → f.spot ≡ Held a → last_of 0 f.path ≡ p → (p == r) ≡ false → record_by past line q r ≡ None
held-there past line q a p r f e s t n =
    ap (record_here past line q r) e
    ∙ (ap (record_held past line q r f) s
    ∙ ap (λ b. cond b (Some (record_for past line q a f)) None) (ap (λ z. z == r) t ∙ n))

pub held-moves-not : (past line : List Entry) (q a : Ui) (f : PortState) → fate line ≡ Some f → f.spot ≡ Held a → transfer_by past line q ≡ []
held-moves-not past line q a f e s = ap (transfer_of past line q) e ∙ ap (transfer_in past line q f) s

pub moving-not-here : (past line : List Entry) (q a : Ui) (r : ℕ) (f : PortState) → fate line ≡ Some f → f.spot ≡ Moving a → record_by past line q r ≡ None
moving-not-here past line q a r f e s = ap (record_here past line q r) e ∙ ap (record_held past line q r f) s
