-- What the words say that laws alone read, of a port that is deleted in the end and of one that moves.
use Rattle.std.proofs.Common.{◌≡◌, true, List, [], ◌∷◌, Some, None, refl}
use Rattle.chorus_entry.specs.declared.answer.Answer.{Answer}
use Rattle.chorus_entry.specs.declared.entry.Entry.{Entry}
use Rattle.chorus_entry.specs.declared.tag.Tag.{Tag}
use Rattle.chorus_entry.specs.declared.dest.Dest.{Dest}
use Rattle.chorus_entry.specs.declared.act.Act.{Act}
use Rattle.chorus_world.specs.Views.{about, at, on}
use Rattle.chorus_world.specs.Ports.{fate}
use Rattle.chorus_world.specs.Places.{located}
use Rattle.chorus_world.specs.Steps.{is_legal}
use Rattle.chorus_world.specs.AcceptedLaws.{accepted_by, discarded, received, taken_by}
use Rattle.chorus_world.specs.GroupLaws.{choices_of, copies_of}
use Rattle.chorus_world.specs.LocationLaws.{path_of, tries}
use Rattle.chorus_world.specs.SenderLaws.{route_of}
use Rattle.chorus_world.proofs.Examples.Names.{actor, away, first, group, now, other, port, second, third, two_sites}

-- a direct message is received; a copy of a broadcast and another direct message are discarded
abbrev pub deleted : List Entry
deleted =
    now 12 (Act.Delete port (record second { copy = 1 } ∷ third ∷ []))
    ∷ now 11 (Act.Accept third port 2)
    ∷ now 10 (Act.Post (record { id = third; tag = Tag.Plain; body = 9 ∷ [] }) (Dest.Port port))
    ∷ now 9 (Act.Take port 0 first)
    ∷ now 8 (Act.Accept (record second { copy = 1 }) port 1)
    ∷ now 7 (Act.Choose second group (port ∷ []))
    ∷ now 6 (Act.Post (record { id = second; tag = Tag.Plain; body = 8 ∷ [] }) (Dest.All group))
    ∷ now 5 (Act.Accept first port 0)
    ∷ now 4 (Act.Post (record { id = first; tag = Tag.Plain; body = 7 ∷ [] }) (Dest.Port port))
    ∷ now 3 (Act.Join group port)
    ∷ now 2 (Act.GroupMake group)
    ∷ now 1 (Act.Make port actor 2)
    ∷ []

deleted-is-legal : is_legal two_sites deleted ≡ true
deleted-is-legal = refl

of-the-port : (accepted_by port deleted ≡ first ∷ record second { copy = 1 } ∷ third ∷ []) × (taken_by port deleted ≡ 1)
of-the-port = (refl, refl)

received-once : (received (on port deleted) ≡ first ∷ []) × (received (on other deleted) ≡ [])
received-once = (refl, refl)

discarded-rest : (discarded (on port deleted) ≡ Some (record second { copy = 1 } ∷ third ∷ [])) × (discarded (on other deleted) ≡ None)
discarded-rest = (refl, refl)

copies-are : (copies_of second deleted ≡ record { id = record second { copy = 1 }; port = port; route = Some group } ∷ []) × (copies_of first deleted ≡ [])
copies-are = (refl, refl)

choices-are : (choices_of group deleted ≡ second ∷ []) × (choices_of (record group { number = 2 }) deleted ≡ [])
choices-are = (refl, refl)

routes-are : (route_of first deleted ≡ None) × (route_of second deleted ≡ Some group) × (route_of (record second { copy = 1 }) deleted ≡ Some group)
routes-are = (refl, refl, refl)

-- a port moves to the other site, and a message is tried there
abbrev moved : List Entry
moved =
    now 7 (Act.Told first (Answer.Accepted 0))
    ∷ record { clock = 6; place = 2; seat = 0; act = Act.Accept first port 0 }
    ∷ now 5 (Act.Try first port 2 1)
    ∷ now 4 (Act.Post (record { id = first; tag = Tag.Plain; body = 7 ∷ [] }) (Dest.Port port))
    ∷ record { clock = 3; place = 2; seat = 0; act = Act.Arrive port 1 }
    ∷ now 2 (Act.Depart port 2 away 1)
    ∷ now 1 (Act.Make port actor 2)
    ∷ []

moved-is-legal : is_legal two_sites moved ≡ true
moved-is-legal = refl

tried-once : (tries (about first moved) ≡ 1) × (tries (about second moved) ≡ 0)
tried-once = (refl, refl)

-- the path of a port that is not made is what its name tells
paths-are : (path_of two_sites port (fate (on port moved)) ≡ 1 ∷ 2 ∷ []) × (path_of two_sites (record port { site = 2 }) None ≡ 2 ∷ []) × (path_of two_sites (record port { site = 3 }) None ≡ 0 ∷ [])
paths-are = (refl, refl, refl)

left-behind : located two_sites port (at 1 moved) ≡ record { to = 2; hop = 1 }
left-behind = refl
