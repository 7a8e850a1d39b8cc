-- What is left of a closed network stands for the merge of its journals.
use Rattle.std.proofs.Common.{ℕ, ◌≡◌, true, List, [], ◌∷◌, ◌++◌, map, Option, Some, None, refl, sym, ◌∙◌, ap, subst, inl, inr}
use Rattle.std.specs.List.{All, flat_map}
use Rattle.std.proofs.lemmas.List.{map-append}
use Rattle.std.proofs.lemmas.List.Elements.{All-head, All-tail}
use Rattle.chorus_ui.specs.declared.ui.Ui.{Ui}
use Rattle.chorus_ui.specs.declared.layout.Layout.{Layout}
use Rattle.chorus_ui.specs.Layout.{IsLayout, place_at}
use Rattle.chorus_ui.proofs.Names.{same_ui-self}
use Rattle.chorus_entry.specs.declared.entry.Entry.{Entry}
use Rattle.chorus_entry.specs.declared.packet.Cargo.{Cargo}
use Rattle.chorus_entry.specs.declared.packet.Cargo.TheVariants as cargos
use Rattle.chorus_entry.specs.declared.record.PortRecord.{PortRecord}
use Rattle.chorus_world.specs.declared.spot.Spot.{Spot}
use Rattle.chorus_world.specs.declared.spot.Spot.TheVariants as spots
use Rattle.chorus_world.specs.Views.{on}
use Rattle.chorus_world.specs.Ports.{PortState, fate}
use Rattle.chorus_world.specs.Steps.{is_legal}
use Rattle.chorus_world.proofs.Sorted.Holders.{run_is_legal}
use Rattle.law_machine.specs.declared.outgoing.Outgoing.{Outgoing}
use Rattle.law_machine.specs.PlaceState.{PlaceState}
use Rattle.law_network.specs.Network.{NetState}
use Rattle.law_network.specs.Left.{placed_at, placed_in, placed, packets_left, merged_past}
use Rattle.law_network.specs.Records.{record_for}
use Rattle.law_network.specs.UnderWay.{moves, is_with, transfer_in, transfer_of, transfer}
use Rattle.law_network.specs.Stands.{Stands, actor_of}
use Rattle.law_network.specs.Holdings.{At, OnTheWay, StandsFor, held_at, moved_in, moved_by, holdings_in, moved_to, moved_as, held_as, holdings_left}
use Rattle.law_network.proofs.Holdings.Shows.{shows-merge}
use Rattle.chorus_world.proofs.Ports.Paths.{PathIn, Moves, path-in}
use Rattle.law_network.proofs.Holdings.Packets.{IsIn, in-view, from-in, moving-to}

held-here : (p : ℕ) (ports : List PortRecord) → map held_as (placed_at p ports) ≡ map (At p) ports
held-here p [] = refl
held-here p (r ∷ rs) = ap (λ hs. At p r ∷ hs) (held-here p rs)

held-all : (ss : List PlaceState) → map held_as (placed_in ss) ≡ flat_map held_at ss
held-all [] = refl
held-all (s ∷ ss) =
    map-append held_as (placed_at s.number s.ports) (placed_in ss)
    ∙ ap (λ hs. hs ++ map held_as (placed_in ss)) (held-here s.number s.ports) ∙ ap (λ hs. held_at s ++ hs) (held-all ss)

moved-all : (l : Layout) (os : List Outgoing) → All (λ (o : Outgoing). moved_as l o.packet ≡ moved_by o) os → flat_map (moved_as l) (map (λ (o : Outgoing). o.packet) os) ≡ flat_map moved_by os
moved-all l [] h = refl
moved-all l (o ∷ os) h =
    let P : Outgoing → Type 0 = λ (u : Outgoing). moved_as l u.packet ≡ moved_by u in
    ap (λ hs. hs ++ flat_map (moved_as l) (map (λ (u : Outgoing). u.packet) os)) (All-head P o os h) ∙ ap (λ hs. moved_by o ++ hs) (moved-all l os (All-tail P o os h))

module _ (n : NetState) (past : List Entry) (shape : IsLayout n.layout) (s : Stands n past) where
  legal : is_legal n.layout past ≡ true
  legal = run_is_legal n.layout (actor_of n) past s.run

  -- a Transfer goes to the place of its port on the site of its actor
  goes-to : (q : Ui) (o : Outgoing) (port : PortRecord) → o.packet.cargo ≡ cargos.Transfer port → IsIn o (transfer past q) → o.to ≡ place_at n.layout port.actor.site port.ui
  goes-to q o port e h = go (fate (on q past)) (path-in n.layout past q shape legal) h
    where
      by-spot : (f : PortState) (spot : Spot) → Moves n.layout q f.path spot → IsIn o (transfer_in past (on q past) q f spot) → o.to ≡ place_at n.layout port.actor.site port.ui
      by-spot f (spots.Held a) m i = absurd i
      by-spot f (spots.Moving a) m (inl same) =
          let cargo : cargos.Transfer (record_for past (on q past) q a f) ≡ cargos.Transfer port = ap (λ (u : Outgoing). u.packet.cargo) same ∙ e in
          let is : record_for past (on q past) q a f ≡ port = cc in
          sym (ap (λ (u : Outgoing). u.to) same) ∙ (moving-to n.layout q a f.path m).1 ∙ m.place ∙ ap (λ (r : PortRecord). place_at n.layout r.actor.site r.ui) is
      by-spot f (spots.Moving a) m (inr i) = absurd i
      by-spot f spots.Ended m i = absurd i

      go : (k : Option PortState) → PathIn n.layout q k → IsIn o (transfer_of past (on q past) q k) → o.to ≡ place_at n.layout port.actor.site port.ui
      go None p i = absurd i
      go (Some f) p i = by-spot f f.spot p.1 i

  same-moved : (o : Outgoing) → IsIn o n.packets → moved_as n.layout o.packet ≡ moved_by o
  same-moved o i = go o.packet.cargo refl
    where
      go : (c : Cargo) → o.packet.cargo ≡ c → moved_to n.layout o.packet.from c ≡ moved_in o.packet.from o.to c
      go (cargos.Transfer port) e =
          let inside : IsIn o (transfer past port.ui) = subst (IsIn o) (s.transfers port.ui) (in-view (is_with port.ui) o n.packets (ap (moves port.ui) e ∙ same_ui-self port.ui) i) in
          ap (λ to. OnTheWay o.packet.from to port ∷ []) (sym (goes-to port.ui o port e inside))
      go (cargos.Try m q r only h) e = refl
      go _ e = refl

  pub left-is : holdings_left n.layout (placed n) (packets_left n) ≡ holdings_in n
  left-is =
      ap (λ hs. hs ++ flat_map (moved_as n.layout) (packets_left n)) (held-all n.places)
      ∙ ap (λ hs. flat_map held_at n.places ++ hs) (moved-all n.layout n.packets (from-in (λ (o : Outgoing). moved_as n.layout o.packet ≡ moved_by o) n.packets same-moved))

  pub left-stands : StandsFor (merged_past n) (holdings_left n.layout (placed n) (packets_left n))
  left-stands = subst (StandsFor (merged_past n)) (sym left-is) (shows-merge n past s)
