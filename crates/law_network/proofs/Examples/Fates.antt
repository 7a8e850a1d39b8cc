-- Pasts and holdings in which each accepted message has its fate, and some in which one has not.
use Rattle.std.proofs.Common.{ℕ, ◌≡◌, List, [], ◌∷◌, Some, None, refl, ap, arith}
use Rattle.std.proofs.lemmas.List.Elements.{All-head}
use Rattle.chorus_ui.specs.declared.kind.Kind.TheVariants as kinds
use Rattle.chorus_ui.specs.declared.ui.Ui.{Ui}
use Rattle.chorus_ui.specs.declared.layout.Layout.{Layout}
use Rattle.chorus_ui.specs.Layout.{IsLayout}
use Rattle.chorus_entry.specs.declared.dest.Dest.{Dest}
use Rattle.chorus_entry.specs.declared.entry.Entry.{Entry}
use Rattle.chorus_entry.specs.declared.id.MsgId.{MsgId}
use Rattle.chorus_entry.specs.declared.message.Message.{Message}
use Rattle.chorus_entry.specs.declared.tag.Tag.{Tag}
use Rattle.chorus_entry.specs.declared.act.Act.{Act}
use Rattle.chorus_world.specs.Fates.{MessageFate}
use Rattle.chorus_world.specs.Fates.MessageFate.{Received, Queued, UnderWay, Discarded}
use Rattle.law_network.specs.Holdings.{Holding, At}
use Rattle.law_network.specs.EachMessage.{HoldsAccepted}
use Rattle.law_network.specs.Fates.{holdings_told, HasFate, HoldsByFate, WorldHolds}
use Rattle.law_network.proofs.Holdings.ByFate.{world-holds}

abbrev one_site : Layout
one_site = record { sites = 1; turns = 1 }

is-layout : IsLayout one_site
is-layout = record { sites_from_one = omega arith; sites_to_max = omega arith; turns_from_one = omega arith; turns_to_four = omega arith; turns_not_three = λ e. cc }

abbrev actor : Ui
actor = record { site = 1; kind = kinds.Actor; number = 1 }

abbrev port : Ui
port = record { site = 1; kind = kinds.Port; number = 1 }

abbrev other : Ui
other = record { site = 1; kind = kinds.Port; number = 2 }

abbrev first : MsgId
first = record { seat = 0; number = 1; copy = 0 }

abbrev message : Message
message = record { id = first; tag = Tag.Plain; body = 7 ∷ [] }

abbrev now : ℕ → Act → Entry
now t a = record { clock = t; place = 1; seat = 0; act = a }

abbrev queue : Holding
queue = At 1 (record { ui = port; actor = actor; capacity = 2; hop = 0; first = 0; pending = message ∷ []; clients = [] })

-- a message waits in the record of its port
abbrev accepted : List Entry
accepted = now 3 (Act.Accept first port 0) ∷ now 2 (Act.Post message (Dest.Port port)) ∷ now 1 (Act.Make port actor 2) ∷ []

waits-there : holdings_told accepted ≡ queue ∷ []
waits-there = refl

keeps-it : WorldHolds accepted
keeps-it = world-holds one_site accepted is-layout refl

-- then it is received, or discarded
keeps-received : WorldHolds (now 4 (Act.Take port 0 first) ∷ accepted)
keeps-received = world-holds one_site (now 4 (Act.Take port 0 first) ∷ accepted) is-layout refl

keeps-discarded : WorldHolds (now 4 (Act.Delete port (first ∷ [])) ∷ accepted)
keeps-discarded = world-holds one_site (now 4 (Act.Delete port (first ∷ [])) ∷ accepted) is-layout refl

-- It waits nowhere, or in two records.

nowhere : HoldsByFate accepted [] → ⊥
nowhere h =
    let fate = h.each port 0 first refl in by fate.0 fate.1
  where
    by : (what : MessageFate) → HasFate accepted [] port 0 first what → ⊥
    by Received f = (let got : None ≡ Some first = f.received.1 refl in cc)
    by Queued f = (let w = f.waits in let e : [] ≡ w.holding ∷ [] = w.alone in cc)
    by UnderWay f = (let w = f.waits in let e : [] ≡ w.holding ∷ [] = w.alone in cc)
    by Discarded f = (let d = f.discarded.1 refl in let gone : None ≡ Some d.0 = d.1 in cc)

two-records : HoldsByFate accepted (queue ∷ queue ∷ []) → ⊥
two-records h =
    let fate = h.each port 0 first refl in by fate.0 fate.1
  where
    not-one : (holding : Holding) → queue ∷ queue ∷ [] ≡ holding ∷ [] → ⊥
    not-one holding e = (let rest : queue ∷ [] ≡ [] = cc in cc)

    by : (what : MessageFate) → HasFate accepted (queue ∷ queue ∷ []) port 0 first what → ⊥
    by Received f = (let got : None ≡ Some first = f.received.1 refl in cc)
    by Queued f = (let w = f.waits in not-one w.holding w.alone)
    by UnderWay f = (let w = f.waits in not-one w.holding w.alone)
    by Discarded f = (let d = f.discarded.1 refl in let gone : None ≡ Some d.0 = d.1 in cc)

-- it was received, and waits all the same
still-there : HoldsByFate (now 4 (Act.Take port 0 first) ∷ accepted) (queue ∷ []) → ⊥
still-there h =
    let fate = h.each port 0 first refl in by fate.0 (fate.1.received.0 refl) fate.1
  where
    by : (what : MessageFate) → what ≡ Received → HasFate (now 4 (Act.Take port 0 first) ∷ accepted) (queue ∷ []) port 0 first what → ⊥
    by Received e f = (let none : queue ∷ [] ≡ [] = f.waits in cc)
    by Queued e f = cc
    by UnderWay e f = cc
    by Discarded e f = cc

-- two ports accepted it
not-alone : WorldHolds (now 4 (Act.Accept first other 0) ∷ now 3 (Act.Accept first port 0) ∷ now 2 (Act.Make other actor 2) ∷ now 1 (Act.Make port actor 2) ∷ []) → ⊥
not-alone h =
    let ports : port ≡ other = (h.alone port other 0 0 first refl refl).0 in
    let numbers : port.number ≡ other.number = ap (λ (q : Ui). q.number) ports in
    omega (arith, numbers)

-- a message waits that no port accepted
never-accepted : HoldsByFate (now 1 (Act.Make port actor 2) ∷ []) (queue ∷ []) → ⊥
never-accepted h =
    let e : None ≡ Some first = All-head (HoldsAccepted (now 1 (Act.Make port actor 2) ∷ [])) queue [] h.only 0 first refl in
    cc
