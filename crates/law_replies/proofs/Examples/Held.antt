-- Holdings in which the accepted messages do not stand by their fates.
use Rattle.std.proofs.Common.{ℕ, ◌≡◌, List, [], ◌∷◌, Some, None, refl}
use Rattle.std.proofs.lemmas.List.Elements.{All-head}
use Rattle.chorus_ui.specs.declared.kind.Kind.TheVariants as kinds
use Rattle.chorus_ui.specs.declared.ui.Ui.{Ui}
use Rattle.chorus_entry.specs.declared.dest.Dest.{Dest}
use Rattle.chorus_entry.specs.declared.entry.Entry.{Entry}
use Rattle.chorus_entry.specs.declared.id.MsgId.{MsgId}
use Rattle.chorus_entry.specs.declared.message.Message.{Message}
use Rattle.chorus_entry.specs.declared.tag.Tag.{Tag}
use Rattle.chorus_entry.specs.declared.act.Act.{Act}
use Rattle.chorus_world.specs.declared.spot.Spot.{Spot}
use Rattle.chorus_world.specs.Ports.{PortState}
use Rattle.law_network.specs.Holdings.{Holding, At}
use Rattle.law_network.specs.EachMessage.{HoldEachMessage, HoldsAccepted}

abbrev actor : Ui
actor = record { site = 1; kind = kinds.Actor; number = 1 }

abbrev port : Ui
port = record { site = 1; kind = kinds.Port; number = 1 }

abbrev first : MsgId
first = record { seat = 0; number = 1; copy = 0 }

abbrev message : Message
message = record { id = first; tag = Tag.Plain; body = 7 ∷ [] }

abbrev now : ℕ → Act → Entry
now t a = record { clock = t; place = 1; seat = 0; act = a }

-- a message waits in a port
abbrev accepted : List Entry
accepted = now 3 (Act.Accept first port 0) ∷ now 2 (Act.Post message (Dest.Port port)) ∷ now 1 (Act.Make port actor 2) ∷ []

abbrev state : ℕ → PortState
state n = record { capacity = 2; accepted = first ∷ []; taken = n; path = 1 ∷ []; spot = Spot.Held actor }

abbrev queue : Holding
queue = At 1 (record { ui = port; actor = actor; capacity = 2; hop = 0; first = 0; pending = message ∷ []; clients = [] })

-- it waits nowhere, or in two queues, or on the way
nowhere : HoldEachMessage accepted [] → ⊥
nowhere h = (let w = h.each port 0 first (state 0) refl refl in let e : [] ≡ w.holding ∷ [] = w.alone in cc)

twice : HoldEachMessage accepted (queue ∷ queue ∷ []) → ⊥
twice h =
    let w = h.each port 0 first (state 0) refl refl in
    let e : queue ∷ queue ∷ [] ≡ w.holding ∷ [] = w.alone in
    let rest : queue ∷ [] ≡ [] = cc in
    cc

-- it was received, and waits all the same
still-there : HoldEachMessage (now 4 (Act.Take port 0 first) ∷ accepted) (queue ∷ []) → ⊥
still-there h = (let e : queue ∷ [] ≡ [] = h.each port 0 first (state 1) refl refl in cc)

-- a message waits that no port accepted
never-accepted : HoldEachMessage (now 1 (Act.Make port actor 2) ∷ []) (queue ∷ []) → ⊥
never-accepted h =
    let e : None ≡ Some first = All-head (HoldsAccepted (now 1 (Act.Make port actor 2) ∷ [])) queue [] h.only 0 first refl in
    cc
