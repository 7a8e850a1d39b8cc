-- What is under way of a message or of a port goes between two different places of the layout.
use Rattle.std.proofs.Common.{ℕ, ◌≡◌, ◌≢◌, ◌==◌, Bool, true, false, cond, List, Option, Some, None, refl, sym, ◌∙◌, ap, subst, inl, inr}
use Rattle.std.specs.List.{All}
use Rattle.std.proofs.lemmas.Bool.{eqb-false, ne_eqb}
use Rattle.std.proofs.lemmas.List.Elements.{All-filter}
use Rattle.chorus_ui.specs.declared.ui.Ui.{Ui}
use Rattle.chorus_ui.specs.declared.layout.Layout.{Layout}
use Rattle.chorus_ui.specs.Layout.{IsLayout, has_site, has_place, first_place}
use Rattle.chorus_ui.proofs.Names.{same_ui-self}
use Rattle.chorus_entry.specs.declared.entry.Entry.{Entry}
use Rattle.chorus_entry.specs.declared.id.MsgId.{MsgId}
use Rattle.chorus_entry.specs.declared.packet.Cargo.{Cargo}
use Rattle.chorus_entry.specs.declared.packet.Cargo.TheVariants as cargos
use Rattle.chorus_entry.specs.Dest.{group_in}
use Rattle.chorus_entry.proofs.Same.{same_id-self}
use Rattle.chorus_world.specs.declared.progress.Progress.{Progress}
use Rattle.chorus_world.specs.declared.progress.Progress.TheVariants.{Idle, Asked, Tried, Decided, Settled, Reported}
use Rattle.chorus_world.specs.declared.spot.Spot.{Spot}
use Rattle.chorus_world.specs.declared.spot.Spot.TheVariants as spots
use Rattle.chorus_world.specs.Views.{by, on, about, is_by}
use Rattle.chorus_world.specs.Messages.{progress}
use Rattle.chorus_world.specs.Ports.{PortState, fate}
use Rattle.chorus_world.specs.Posts.{Posted, post_of, source}
use Rattle.chorus_world.specs.Places.{last_clock}
use Rattle.chorus_world.specs.Steps.{may, is_legal}
use Rattle.chorus_world.proofs.Sorted.Holders.{run_is_legal}
use Rattle.law_machine.specs.declared.outgoing.Outgoing.{Outgoing}
use Rattle.law_network.specs.Network.{NetState, schedule}
use Rattle.law_network.specs.UnderWay.{carries, moves, is_of, is_with, other_place, far_place, asked_as, reported_to, reported_as, under_way_as, transfer_in, transfer_of, transfer}
use Rattle.law_network.specs.Stands.{Stands, actor_of}
use Rattle.law_network.proofs.Places.Layouts.{schedule-keeps}
use Rattle.law_network.specs.History.{history}
use Rattle.law_network.specs.Schedules.{OfSchedules}
use Rattle.law_network.specs.ByPlace.{IsBetweenPlaces, SchedulesStandByPlace}
use Rattle.chorus_world.proofs.Ports.Sites.{first-inside}
use Rattle.chorus_world.proofs.Ports.Paths.{PathIn, Moves, path-in}
use Rattle.chorus_world.proofs.Messages.Ways.{Has, Passes, passes, all-places, posted-place}
use Rattle.law_network.proofs.Events.InOrder.{in-order}
use Rattle.law_network.proofs.Holdings.Packets.{IsIn, in-view, from-in, moving-to}

-- Packets.

far-in : (l : Layout) (home p : ℕ) (o : Option Ui) → IsLayout l → far_place l home o ≡ Some p → Has l p × (p ≢ home)
far-in l home p None shape h = absurd (cc)
far-in l home p (Some g) shape h = by-site (has_site l g.site) refl h
  where
    by-home : (k : ℕ) (b : Bool) → (k == home) ≡ b → Has l k → cond b None (Some k) ≡ Some p → Has l p × (p ≢ home)
    by-home k true e has i = absurd (cc)
    by-home k false e has i =
        let same : k ≡ p = cc in (subst (Has l) same has, subst (λ j. j ≢ home) same (eqb-false k home e))

    by-site : (b : Bool) → has_site l g.site ≡ b → other_place home (cond b (Some (first_place l g.site)) None) ≡ Some p → Has l p × (p ≢ home)
    by-site true e i = by-home (first_place l g.site) (first_place l g.site == home) refl (first-inside l g.site shape e) i
    by-site false e i = absurd (cc)

between : (l : Layout) (from to : ℕ) (o : Outgoing) → o.packet.from ≡ from → o.to ≡ to → Has l from → Has l to → to ≢ from → IsBetweenPlaces l o
between l from to o f t a b ne =
    record {
      has_from = subst (Has l) (sym f) a;
      has_to = subst (Has l) (sym t) b;
      apart = ne_eqb o.packet.from o.to (λ e. ne (sym t ∙ sym e ∙ f));
    }

module _ (l : Layout) (past : List Entry) (shape : IsLayout l) (legal : is_legal l past ≡ true) where
  under-way-between : (x : MsgId) (clock : ℕ) (z : Progress) (o : Outgoing) → Passes l z → IsIn o (under_way_as l past x clock z) → IsBetweenPlaces l o
  under-way-between x clock Idle o p h = absurd h
  under-way-between x clock (Asked from d) o p h = go (far_place l from (group_in d)) refl h
    where
      go : (k : Option ℕ) → far_place l from (group_in d) ≡ k → IsIn o (asked_as past x clock from d k) → IsBetweenPlaces l o
      go None e i = absurd i
      go (Some k) e (inl same) =
          let far = far-in l from k (group_in d) shape e in
          between l from k o (sym (ap (λ (u : Outgoing). u.packet.from) same)) (sym (ap (λ (u : Outgoing). u.to) same)) p far.0 far.1
      go (Some k) e (inr i) = absurd i
  under-way-between x clock (Tried from q to hop) o p (inl same) =
      between l from to o (sym (ap (λ (u : Outgoing). u.packet.from) same)) (sym (ap (λ (u : Outgoing). u.to) same)) p.0 p.1 p.2
  under-way-between x clock (Tried from q to hop) o p (inr i) = absurd i
  under-way-between x clock (Decided from by_ q a) o p (inl same) =
      between l by_ from o (sym (ap (λ (u : Outgoing). u.packet.from) same)) (sym (ap (λ (u : Outgoing). u.to) same)) p.1 p.0 (λ e. p.2 (sym e))
  under-way-between x clock (Decided from by_ q a) o p (inr i) = absurd i
  under-way-between x clock (Settled a) o p h = go (post_of x past) refl h
    where
      told_to : (m : Posted) (k : Option ℕ) → far_place l m.place (group_in m.dest) ≡ k → Has l m.place → IsIn o (reported_to x clock a m.place k) → IsBetweenPlaces l o
      told_to m None e has i = absurd i
      told_to m (Some k) e has (inl same) =
          let far = far-in l m.place k (group_in m.dest) shape e in
          between l k m.place o (sym (ap (λ (u : Outgoing). u.packet.from) same)) (sym (ap (λ (u : Outgoing). u.to) same)) far.0 has (λ i. far.1 (sym i))
      told_to m (Some k) e has (inr i) = absurd i

      go : (m : Option Posted) → post_of x past ≡ m → IsIn o (reported_as l x clock a m) → IsBetweenPlaces l o
      go None e i = absurd i
      go (Some m) e i =
          told_to m (far_place l m.place (group_in m.dest)) refl
          (posted-place l (source x) (by x.seat past) m (All-filter (is_by x.seat) (λ (f : Entry). has_place l f.place ≡ true) past (all-places l past legal)) e) i
  under-way-between x clock Reported o p h = absurd h

  transfer-between : (q : Ui) (o : Outgoing) → IsIn o (transfer past q) → IsBetweenPlaces l o
  transfer-between q o h = go (fate (on q past)) (path-in l past q shape legal) h
    where
      by-spot : (f : PortState) (spot : Spot) → Moves l q f.path spot → IsIn o (transfer_in past (on q past) q f spot) → IsBetweenPlaces l o
      by-spot f (spots.Held a) m i = absurd i
      by-spot f (spots.Moving a) m (inl same) =
          let ends = moving-to l q a f.path m in
          between l m.from m.to o (sym (ap (λ (u : Outgoing). u.packet.from) same) ∙ ends.0) (sym (ap (λ (u : Outgoing). u.to) same) ∙ ends.1) m.has_from m.has_to (λ e. m.apart (sym e))
      by-spot f (spots.Moving a) m (inr i) = absurd i
      by-spot f spots.Ended m i = absurd i

      go : (k : Option PortState) → PathIn l q k → IsIn o (transfer_of past (on q past) q k) → IsBetweenPlaces l o
      go None p i = absurd i
      go (Some f) p i = by-spot f f.spot p.1 i

-- of each packet of a network that stands for a past
pub packets-between : (n : NetState) (past : List Entry) → IsLayout n.layout → Stands n past → All (IsBetweenPlaces n.layout) n.packets
packets-between n past shape s = from-in (IsBetweenPlaces n.layout) n.packets (λ o i. go o o.packet.cargo refl i)
  where
    legal : is_legal n.layout past ≡ true
    legal = run_is_legal n.layout (actor_of n) past s.run

    about-message : (o : Outgoing) (x : MsgId) → is_of x o ≡ true → IsIn o n.packets → IsBetweenPlaces n.layout o
    about-message o x mine i =
        under-way-between n.layout past shape legal x (last_clock (about x past)) (progress (about x past)) o (passes n.layout past x shape legal)
        (subst (IsIn o) (s.messages x) (in-view (is_of x) o n.packets mine i))

    go : (o : Outgoing) (c : Cargo) → o.packet.cargo ≡ c → IsIn o n.packets → IsBetweenPlaces n.layout o
    go o (cargos.Try m q r only h) e i = about-message o m.id (ap (carries m.id) e ∙ same_id-self m.id) i
    go o (cargos.Verdict x q r a) e i = about-message o x (ap (carries x) e ∙ same_id-self x) i
    go o (cargos.Transfer port) e i =
        transfer-between n.layout past shape legal port.ui o
        (subst (IsIn o) (s.transfers port.ui) (in-view (is_with port.ui) o n.packets (ap (moves port.ui) e ∙ same_ui-self port.ui) i))
    go o (cargos.Ask m d) e i = about-message o m.id (ap (carries m.id) e ∙ same_id-self m.id) i
    go o (cargos.Report x a) e i = about-message o x (ap (carries x) e ∙ same_id-self x) i

pub packets-lie-between : OfSchedules (λ l es n. All (IsBetweenPlaces l) n.packets)
packets-lie-between l es shape may =
    let layout = (schedule-keeps l es).layout in
    subst (λ (m : Layout). All (IsBetweenPlaces m) (schedule l es).packets) layout
    (packets-between (schedule l es) (history l es) (subst IsLayout (sym layout) shape) (in-order l es shape may).0)

pub schedules-stand-by-place : SchedulesStandByPlace
schedules-stand-by-place l es shape may =
    let kept = schedule-keeps l es in
    record {
      layout = kept.layout;
      places = kept.numbers;
      order = (in-order l es shape may).0.order;
      between = packets-lie-between l es shape may;
    }
