-- The ends of a place, when one of them is used.
-- r are the ends before, place is the place of the end that is used, slot is that end afterwards.
use Rattle.std.proofs.Common.{ℕ, ◌≡◌, ◌<◌, ◌≤◌, ◌==◌, ◌&&◌, Bool, true, false, cond, List, [], ◌∷◌, ◌++◌, length, set, Option, None, is_some, refl, sym, ◌∙◌, ap, subst, arith}
use Rattle.std.proofs.lemmas.Bool.{eqb-true}
use Rattle.std.proofs.lemmas.List.{get_or-set_same}
use Rattle.chorus_entry.specs.declared.packet.Packet.{Packet}
use Rattle.chorus_link.specs.declared.ends.SendEnd.{SendEnd}
use Rattle.chorus_link.specs.declared.ends.RecvEnd.{RecvEnd}
use Rattle.chorus_link.specs.declared.name.LinkName.{LinkName}
use Rattle.chorus_ends.specs.declared.ends.EndsName.{EndsName}
use Rattle.chorus_io.specs.Count.{Rose}
use Rattle.chorus_ends.specs.Links.{Counts, Sends, Receives, MovesNothing}
use Rattle.chorus_ruled_ends.specs.Ruled.{Ruled, end_to, end_from, sent_by, received_by, fulls_by, empties_by, name_to, name_from, links}
use Rattle.chorus_ruled_ends.proofs.Lists.{shown, shown-kept, all-kept, most-kept}

abbrev named : List (Option LinkName) → List (Option LinkName) → EndsName
named outs intos = record { out = outs; into = intos }

-- the ends reach the place

-- the end to the place was used

module _ (r : Ruled) (place : ℕ) (slot : Option (SendEnd Packet)) (lt : place < length r.out) where
  abbrev pub after_send : Ruled
  after_send = record r { out = set r.out place slot }

  pub counts-sent : name_to slot ≡ name_to (end_to place r) → is_some slot ≡ is_some (end_to place r) → fulls_by (end_to place r) ≤ fulls_by slot → Counts (links r) (links after_send)
  counts-sent name there fulls = record {
    name = ap (λ ns. named ns (links r).name.into) (all-kept name_to r.out place slot None lt name);
    reaches = λ p. ap (λ b. b && is_some (end_from p r)) (shown-kept is_some r.out place slot None lt there p);
    fulls = most-kept fulls_by r.out place slot None lt fulls;
    empties = λ p. omega arith;
  }

  pub sends : (x : Packet) → sent_by slot ≡ sent_by (end_to place r) ++ x ∷ [] → Sends place x (links r) (links after_send)
  sends x sent = record {
    sent = λ p. shown sent_by r.out place slot None lt p ∙ by p (p == place) refl;
    received = λ p. refl;
  }
    where
      by : (p : ℕ) (t : Bool) → (p == place) ≡ t → cond t (sent_by slot) (sent_by (end_to p r)) ≡ cond t (sent_by (end_to p r) ++ x ∷ []) (sent_by (end_to p r))
      by p true t = sent ∙ sym (ap (λ q. sent_by (end_to q r) ++ x ∷ []) (eqb-true p place t))
      by p false t = refl

  pub sends-nothing : sent_by slot ≡ sent_by (end_to place r) → MovesNothing (links r) (links after_send)
  sends-nothing sent = record { sent = shown-kept sent_by r.out place slot None lt sent; received = λ p. refl }

  pub full-rose : fulls_by (end_to place r) < fulls_by slot → Rose ((links r).fulls place) ((links after_send).fulls place)
  full-rose rose _ = subst (λ n. fulls_by (end_to place r) < n) (sym (ap fulls_by (get_or-set_same r.out place slot None lt))) rose

-- the end from the place was used

module _ (r : Ruled) (place : ℕ) (slot : Option (RecvEnd Packet)) (lt : place < length r.into) where
  abbrev pub after_receive : Ruled
  after_receive = record r { into = set r.into place slot }

  pub counts-received : name_from slot ≡ name_from (end_from place r) → is_some slot ≡ is_some (end_from place r) → empties_by (end_from place r) ≤ empties_by slot → Counts (links r) (links after_receive)
  counts-received name there empties = record {
    name = ap (λ ns. named (links r).name.out ns) (all-kept name_from r.into place slot None lt name);
    reaches = λ p. ap (λ b. is_some (end_to p r) && b) (shown-kept is_some r.into place slot None lt there p);
    fulls = λ p. omega arith;
    empties = most-kept empties_by r.into place slot None lt empties;
  }

  pub receives : (x : Packet) → received_by slot ≡ received_by (end_from place r) ++ x ∷ [] → Receives place x (links r) (links after_receive)
  receives x received = record {
    sent = λ p. refl;
    received = λ p. shown received_by r.into place slot None lt p ∙ by p (p == place) refl;
  }
    where
      by : (p : ℕ) (t : Bool) → (p == place) ≡ t → cond t (received_by slot) (received_by (end_from p r)) ≡ cond t (received_by (end_from p r) ++ x ∷ []) (received_by (end_from p r))
      by p true t = received ∙ sym (ap (λ q. received_by (end_from q r) ++ x ∷ []) (eqb-true p place t))
      by p false t = refl

  pub receives-nothing : received_by slot ≡ received_by (end_from place r) → MovesNothing (links r) (links after_receive)
  receives-nothing received = record { sent = λ p. refl; received = shown-kept received_by r.into place slot None lt received }

  pub empty-rose : empties_by (end_from place r) < empties_by slot → Rose ((links r).empties place) ((links after_receive).empties place)
  empty-rose rose _ = subst (λ n. empties_by (end_from place r) < n) (sym (ap empties_by (get_or-set_same r.into place slot None lt))) rose
