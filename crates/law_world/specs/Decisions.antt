-- Decisions: on what a place decides, why it decides so, and that no other decision is possible there. l is a layout,
-- past what stands before the entry e, and e decides on the message x for the port q.
use Rattle.std.specs.Prelude.{ℕ, ◌≡◌, ◌<◌, ◌≤◌, ◌⊎◌, ◌↔◌, ◌==◌, Bool, true, false, not, ◌&&◌, if◌then◌else◌, List, [], ◌∷◌, length, Option, Some, None, slice_get}
use Rattle.std.specs.List.{list_any}
use Rattle.chorus_ui.specs.declared.ui.Ui.{Ui}
use Rattle.chorus_ui.specs.declared.layout.Layout.{Layout}
use Rattle.chorus_ui.specs.declared.limits.TheConstants.{CLIENTS_LIMIT}
use Rattle.chorus_ui.specs.Layout.{IsLayout, has_site, has_place}
use Rattle.chorus_ui.specs.Name.{same_ui}
use Rattle.chorus_entry.specs.declared.entry.Entry.{Entry}
use Rattle.chorus_entry.specs.declared.id.MsgId.{MsgId}
use Rattle.chorus_entry.specs.declared.tag.Tag.TheVariants.{Request}
use Rattle.chorus_entry.specs.declared.act.Act.{Act}
use Rattle.chorus_entry.specs.declared.act.Act.TheVariants.{Make, Already, ClientsFull, Early, NoPort, Elsewhere, Depart, Arrive, Delete, Gone}
use Rattle.chorus_entry.specs.Act.{is_decision, message_of, port_of}
use Rattle.chorus_world.specs.declared.progress.Progress.TheVariants.{Tried}
use Rattle.chorus_world.specs.Views.{at, about, on}
use Rattle.chorus_world.specs.Ports.{fate, is_held_at}
use Rattle.chorus_world.specs.Posts.{tag_of, site_asked, is_on_site}
use Rattle.chorus_world.specs.Messages.{progress}
use Rattle.chorus_world.specs.Places.{is_first, is_made_here, is_deleted, located, just_taken, last_clock}
use Rattle.chorus_world.specs.Steps.{may, is_legal}
use Rattle.chorus_world.specs.AcceptedLaws.{accepted_by}
use Rattle.chorus_world.specs.DecisionLaws.{port_met, IsPassed, IsOffSite}

-- On what a place decides.

-- x stands tried at the place p with this hop
pub record IsTriedHere (past : List Entry) (p : ℕ) (x : MsgId) (q : Ui) (hop : ℕ) : Type 0 where
  pub from : ℕ
  pub is : progress (about x past) ≡ Tried from q p hop

-- x is the next to be tried from the place p, which locates the port at itself by this hop, and is on the site that x
-- asks for
pub record IsNextHere (l : Layout) (past : List Entry) (p : ℕ) (x : MsgId) (q : Ui) (hop : ℕ) : Type 0 where
  pub first : is_first x q (at p past) ≡ true
  pub within : has_site l q.site ≡ true
  pub known : located l q (at p past) ≡ record { to = p; hop = hop }
  pub suits : is_on_site l (site_asked x past) p ≡ true

-- x is to be decided at the place p, which it came to by this hop
abbrev pub IsToDecide : Layout → List Entry → ℕ → MsgId → Ui → ℕ → Type 0
IsToDecide l past p x q hop = IsTriedHere past p x q hop ⊎ IsNextHere l past p x q hop

-- x is not tried any further: it asks for a site, and its place locates the port off that site
pub record IsRefusedOffSite (l : Layout) (past : List Entry) (e : Entry) (x : MsgId) (q : Ui) : Type 0 where
  pub to : ℕ
  pub hop : ℕ
  pub site : ℕ
  pub says : e.act ≡ Elsewhere x q to hop
  pub asked : site_asked x past ≡ Some site
  pub off : IsOffSite l past e x q to hop site

-- or the layout has no such port
pub record IsRefusedBeyond (l : Layout) (past : List Entry) (e : Entry) (x : MsgId) (q : Ui) : Type 0 where
  pub says : e.act ≡ NoPort x q
  pub first : is_first x q (at e.place past) ≡ true
  pub beyond : has_site l q.site ≡ false

-- a place decides on what is to be decided there, and else only on what it does not try
abbrev pub DecidesWhatIsDue : Layout → List Entry → Entry → Type 0
DecidesWhatIsDue l past e =
    (x : MsgId) (q : Ui) → is_decision e.act ≡ true → message_of e.act ≡ Some x → port_of e.act ≡ Some q →
    ((hop : ℕ) × IsToDecide l past e.place x q hop) ⊎ (IsRefusedOffSite l past e x q ⊎ IsRefusedBeyond l past e x q)

-- Why it decides so.

-- the act makes the port, sends it off, brings it or deletes it
abbrev pub moves : Ui → Act → Bool
moves q (Make r a c) = same_ui r q
moves q (Depart r to a hop) = same_ui r q
moves q (Arrive r hop) = same_ui r q
moves q (Delete r xs) = same_ui r q
moves q _ = false

-- the newest of these acts
abbrev pub last_move : Ui → List Entry → Option Act
last_move q [] = None
last_move q (e ∷ past) = if moves q e.act then Some e.act else last_move q past

-- the port is on its way to the place p by this hop: it was sent off to there, and did not arrive
abbrev pub IsOnItsWayTo : ℕ → ℕ → Ui → List Entry → Type 0
IsOnItsWayTo p hop q past = (a : Ui) × (last_move q past ≡ Some (Depart q p a hop))

-- x came too late by the hop `tried`: the place of e locates the port at another place by a later hop
abbrev pub IsTooLate : Layout → List Entry → Entry → MsgId → Ui → ℕ → Type 0
IsTooLate l past e x q tried = (to : ℕ) × (hop : ℕ) × IsPassed l past e x q tried to hop

-- What is decided on x, which is to be decided here for the port q and came by the hop `tried`, is told by the port:
-- whether it is held here, was deleted here, was never made, or is on its way here. Of a message that came too late,
-- AnswersNewer of the world's own laws says what is decided; there is no other case.
pub record HasItsCause (l : Layout) (past : List Entry) (e : Entry) (x : MsgId) (q : Ui) (tried : ℕ) : Type 0 where
  pub met : (port_met e.act ≡ Some q) ↔ (is_held_at e.place (fate (on q past)) ≡ true)
  pub gone : (e.act ≡ Gone x q) ↔ (is_deleted q (at e.place past) ≡ true)
  pub no_port : (e.act ≡ NoPort x q) ↔ (is_made_here q past ≡ false)
  pub early :
      (hop : ℕ) →
      (e.act ≡ Early x q hop) ↔ (IsOnItsWayTo e.place hop q past × (IsTooLate l past e x q tried → ⊥))

abbrev pub DecidesByThePort : Layout → List Entry → Entry → Type 0
DecidesByThePort l past e =
    (x : MsgId) (q : Ui) (tried : ℕ) → is_decision e.act ≡ true → message_of e.act ≡ Some x →
    IsToDecide l past e.place x q tried →
    HasItsCause l past e x q tried

-- a NoPort stands only for a port that was never made
abbrev pub NoPortWasMade : List Entry → Entry → Type 0
NoPortWasMade past e = (x : MsgId) (q : Ui) → e.act ≡ NoPort x q → is_made_here q past ≡ false

-- What a port that is held has of a request.

-- it accepted a request of the client with this number or a greater one
pub record HasAccepted (past : List Entry) (q : Ui) (client number : ℕ) : Type 0 where
  pub position : ℕ
  pub id : MsgId
  pub greater : ℕ
  pub back : Ui
  pub stands : slice_get (accepted_by q past) position ≡ Some id
  pub seat : id.seat ≡ client
  pub tag : tag_of id past ≡ Request greater back
  pub reaches : number ≤ greater

-- x is a request with this number
abbrev pub IsRequest : List Entry → MsgId → ℕ → Type 0
IsRequest past x number = (back : Ui) × (tag_of x past ≡ Request number back)

-- x is a request that it accepted already, or one before such a one
pub record IsRepeated (past : List Entry) (x : MsgId) (q : Ui) : Type 0 where
  pub number : ℕ
  pub request : IsRequest past x number
  pub accepted : HasAccepted past q x.seat number

-- a port that decides by itself answers Already exactly to such a one
abbrev pub AlreadyWhereAccepted : List Entry → Entry → Type 0
AlreadyWhereAccepted past e =
    (x : MsgId) (q : Ui) → message_of e.act ≡ Some x → port_met e.act ≡ Some q →
    (e.act ≡ Already x q) ↔ IsRepeated past x q

-- these are the clients of which the port accepted a request, each once
abbrev pub has_number : ℕ → List ℕ → Bool
has_number n ns = list_any (λ m. m == n) ns

abbrev pub are_different : List ℕ → Bool
are_different [] = true
are_different (n ∷ ns) = not (has_number n ns) && are_different ns

pub record AreClients (past : List Entry) (q : Ui) (clients : List ℕ) : Type 0 where
  pub once : are_different clients ≡ true
  pub all : (client : ℕ) → (has_number client clients ≡ true) ↔ HasAccepted past q client 0

-- x is a request of a client of which the port accepted none, while it accepted requests of 64 others
pub record IsOfOneTooMany (past : List Entry) (x : MsgId) (q : Ui) : Type 0 where
  pub number : ℕ
  pub request : IsRequest past x number
  pub new : HasAccepted past q x.seat 0 → ⊥
  pub clients : List ℕ
  pub all : AreClients past q clients
  pub many : length clients ≡ CLIENTS_LIMIT

-- and it answers ClientsFull exactly to such a one
abbrev pub ClientsFullWhereManyAre : List Entry → Entry → Type 0
ClientsFullWhereManyAre past e =
    (x : MsgId) (q : Ui) → message_of e.act ≡ Some x → port_met e.act ≡ Some q →
    (e.act ≡ ClientsFull x q) ↔ IsOfOneTooMany past x q

-- No other decision.

-- two decisions on one message that may come next at one place are one
abbrev pub OneDecisionIsPossible : Type 0
OneDecisionIsPossible =
    (l : Layout) (past : List Entry) (e f : Entry) (x : MsgId) → IsLayout l → is_legal l past ≡ true →
    may l past e ≡ true → may l past f ≡ true → e.place ≡ f.place →
    is_decision e.act ≡ true → is_decision f.act ≡ true →
    message_of e.act ≡ Some x → message_of f.act ≡ Some x → e.act ≡ f.act

-- a decision on x may come next at the place p, by the seat s with this clock
pub record MayDecide (l : Layout) (past : List Entry) (p s time : ℕ) (x : MsgId) : Type 0 where
  pub act : Act
  pub decides : is_decision act ≡ true
  pub about : message_of act ≡ Some x
  pub comes_next : may l past (record { clock = time; place = p; seat = s; act = act }) ≡ true

-- and on what is to be decided at a place one may, by any seat, at each clock above the last one there, unless the last
-- entry there is the Take of a reply
abbrev pub SomeDecisionIsPossible : Type 0
SomeDecisionIsPossible =
    (l : Layout) (past : List Entry) (p s time : ℕ) (x : MsgId) (q : Ui) (hop : ℕ) → IsLayout l →
    is_legal l past ≡ true →
    has_place l p ≡ true → IsToDecide l past p x q hop → just_taken past (at p past) ≡ None →
    last_clock (at p past) < time →
    MayDecide l past p s time x
