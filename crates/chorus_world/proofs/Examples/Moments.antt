-- What always holds of a past: a past of which it holds, and some of which it does not.
use Rattle.std.proofs.Common.{◌≡◌, true, List, [], ◌∷◌, take, Some, refl, ◌∙◌, ap, arith}
use Rattle.chorus_ui.specs.declared.ui.Ui.{Ui}
use Rattle.chorus_ui.specs.Layout.{IsLayout}
use Rattle.chorus_entry.specs.declared.entry.Entry.{Entry}
use Rattle.chorus_entry.specs.declared.id.MsgId.{MsgId}
use Rattle.chorus_entry.specs.declared.tag.Tag.{Tag}
use Rattle.chorus_entry.specs.declared.dest.Dest.{Dest}
use Rattle.chorus_entry.specs.declared.act.Act.{Act}
use Rattle.chorus_world.specs.declared.spot.Spot.{Spot}
use Rattle.chorus_world.specs.Views.{on}
use Rattle.chorus_world.specs.Fates.{MessageFate, fate_at}
use Rattle.chorus_world.specs.Steps.{is_legal}
use Rattle.chorus_world.specs.Always.{Always}
use Rattle.chorus_world.specs.AcceptedLaws.{HasOneFate, KeepsEachMessage, ReceivesInOrder, accepted_by, received, taken_by}
use Rattle.chorus_world.proofs.Messages.OnceLaws.{stands_once}
use Rattle.chorus_world.proofs.Moments.{always-keeps, always-receives}
use Rattle.chorus_world.proofs.Examples.Names.{actor, first, now, other, port, second, two_sites}

is_two : IsLayout two_sites
is_two = record { sites_from_one = omega arith; sites_to_max = omega arith; turns_from_one = omega arith; turns_to_four = omega arith; turns_not_three = λ e. cc }

-- two messages are accepted, and the first is received
abbrev lawful : List Entry
lawful =
    now 6 (Act.Take port 0 first)
    ∷ now 5 (Act.Accept second port 1)
    ∷ now 4 (Act.Post (record { id = second; tag = Tag.Plain; body = 8 ∷ [] }) (Dest.Port port))
    ∷ now 3 (Act.Accept first port 0)
    ∷ now 2 (Act.Post (record { id = first; tag = Tag.Plain; body = 7 ∷ [] }) (Dest.Port port))
    ∷ now 1 (Act.Make port actor 2)
    ∷ []

is-legal : is_legal two_sites lawful ≡ true
is-legal = refl

received-first : Always ReceivesInOrder lawful
received-first = always-receives two_sites lawful is_two is-legal

keeps-both : Always KeepsEachMessage lawful
keeps-both = always-keeps two_sites lawful is-legal

-- the first message was received, and has no other fate
has-fate : HasOneFate lawful port 0 first MessageFate.Received
has-fate =
    record {
      state = record { capacity = 2; accepted = first ∷ second ∷ []; taken = 1; path = 1 ∷ []; spot = Spot.Held actor };
      made = refl;
      is = refl;
      alone = λ r j stands. stands_once two_sites lawful r port j 0 first is-legal stands refl;
    }

no-other-fate : HasOneFate lawful port 0 first MessageFate.Queued → ⊥
no-other-fate h =
    let known : Some (record { capacity = 2; accepted = first ∷ second ∷ []; taken = 1; path = 1 ∷ []; spot = Spot.Held actor }) ≡ Some h.state = h.made in
    let same : record { capacity = 2; accepted = first ∷ second ∷ []; taken = 1; path = 1 ∷ []; spot = Spot.Held actor } ≡ h.state = cc in
    let found : MessageFate.Received ≡ MessageFate.Queued = ap (fate_at 0) same ∙ h.is in
    cc

-- the second message is received before the first
abbrev out_of_order : List Entry
out_of_order =
    now 4 (Act.Take port 1 second)
    ∷ now 3 (Act.Accept second port 1)
    ∷ now 2 (Act.Accept first port 0)
    ∷ now 1 (Act.Make port actor 2)
    ∷ []

not-in-order : ReceivesInOrder out_of_order → ⊥
not-in-order h =
    let e : second ∷ [] ≡ first ∷ [] = h port in
    let ids : second ≡ first = cc in
    let numbers : second.number ≡ first.number = ap (λ (x : MsgId). x.number) ids in
    omega (arith, numbers)

-- a message is received before it is accepted: in the end all is in order, but it was not always
abbrev too_early : List Entry
too_early = now 3 (Act.Accept first port 0) ∷ now 2 (Act.Take port 0 first) ∷ now 1 (Act.Make port actor 2) ∷ []

in-order-at-the-end : received (on port too_early) ≡ take (taken_by port too_early) (accepted_by port too_early)
in-order-at-the-end = refl

not-always : Always ReceivesInOrder too_early → ⊥
not-always h =
    let e : first ∷ [] ≡ [] = h (now 3 (Act.Accept first port 0) ∷ []) (now 2 (Act.Take port 0 first) ∷ now 1 (Act.Make port actor 2) ∷ []) refl port in
    cc

-- two ports accept one message
abbrev twice : List Entry
twice =
    now 4 (Act.Accept first other 0)
    ∷ now 3 (Act.Accept first port 0)
    ∷ now 2 (Act.Make other actor 2)
    ∷ now 1 (Act.Make port actor 2)
    ∷ []

not-each : KeepsEachMessage twice → ⊥
not-each h =
    let ports : other ≡ port = ((h port 0 first refl).1.alone other 0 refl).0 in
    let numbers : other.number ≡ port.number = ap (λ (q : Ui). q.number) ports in
    omega (arith, numbers)
