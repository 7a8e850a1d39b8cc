-- The rows for locations and for choices: what an entry teaches, the table learns; and a choice that reads the table is that of
-- the world.
use Rattle.std.proofs.Common.{ℕ, ◌≡◌, ◌==◌, ◌&&◌, Bool, true, false, cond, List, [], ◌∷◌, Option, Some, None, refl, sym, ◌∙◌, ap}
use Rattle.std.specs.Prelude.{nat_lt, find, if◌then◌else◌}
use Rattle.chorus_ui.specs.declared.ui.Ui.{Ui}
use Rattle.chorus_ui.specs.declared.layout.Layout.{Layout}
use Rattle.chorus_ui.specs.Name.{same_ui}
use Rattle.chorus_ui.specs.Layout.{has_site, site_of}
use Rattle.chorus_entry.specs.declared.dest.Dest.{Dest}
use Rattle.chorus_entry.specs.declared.dest.Dest.TheVariants as dests
use Rattle.chorus_entry.specs.declared.entry.Entry.{Entry}
use Rattle.chorus_entry.specs.declared.id.MsgId.{MsgId}
use Rattle.chorus_entry.specs.declared.answer.Answer.{Answer}
use Rattle.chorus_entry.specs.declared.act.Act.TheVariants as acts
use Rattle.chorus_world.specs.declared.place.Location.{Location}
use Rattle.chorus_world.specs.declared.place.Sent.{Sent}
use Rattle.chorus_world.specs.Places as places
use Rattle.chorus_world.specs.Places.{located, farther, taught, sent, find_sent, is_sent_to}
use Rattle.chorus_world.specs.Groups as world
use Rattle.chorus_hints.specs.Known.{hop_of, learned}
use Rattle.chorus_entry.specs.Members.{listed}
use Rattle.law_machine.specs.PlaceState.{PlaceState, location, newest}
use Rattle.law_machine.specs.Choosing.{choice, is_at_site}
use Rattle.law_machine.specs.Working.{taught_of}

location-hop : (l : Layout) (q : Ui) (o : Option (ℕ × ℕ)) → (location l q o).hop ≡ hop_of o
location-hop l q None = refl
location-hop l q (Some at) = refl

abbrev lesson : Bool → ℕ → ℕ → Option Location
lesson b to hop = cond b (Some (record { to = to; hop = hop })) None

-- what is learned of the port q is the farther of the two for q, and nothing for another port
pub newest-learned : (l : Layout) (q r : Ui) (to hop : ℕ) (known : Ui → Option (ℕ × ℕ)) → (same_ui q r ≡ true → q ≡ r)
    → location l r (learned q to hop known r) ≡ farther (location l r (known r)) (lesson (same_ui q r) to hop)
newest-learned l q r to hop known same = by (same_ui q r) refl
  where
    kept : (c : Bool) → location l r (if c && true then Some (to, hop) else known r) ≡ cond c (record { to = to; hop = hop }) (location l r (known r))
    kept true = refl
    kept false = refl

    other : (c : Bool) → location l r (if c && false then Some (to, hop) else known r) ≡ location l r (known r)
    other true = refl
    other false = refl

    by : (b : Bool) → same_ui q r ≡ b → location l r (if nat_lt (hop_of (known q)) hop && b then Some (to, hop) else known r) ≡ farther (location l r (known r)) (lesson b to hop)
    by true e =
        kept (nat_lt (hop_of (known q)) hop)
        ∙ ap (λ x. cond (nat_lt (hop_of (known x)) hop) (record { to = to; hop = hop }) (location l r (known r))) (same e)
        ∙ sym (ap (λ n. cond (nat_lt n hop) (record { to = to; hop = hop }) (location l r (known r))) (location-hop l r (known r)))
    by false e = other (nat_lt (hop_of (known q)) hop)

-- where the table has what the journal says, the choice is that of the world
find-same : (f g : Ui → Bool) → ((q : Ui) → f q ≡ g q) → (qs : List Ui) → find f qs ≡ find g qs
find-same f g h [] = refl
find-same f g h (q ∷ qs) = cc (h q, find-same f g h qs)

pub choice-same : (d : Dest) (s : PlaceState) → ((q : Ui) → newest s q ≡ located s.layout q s.journal) → choice d s ≡ world.choice s.layout d s.journal
choice-same (dests.Port q) s h = refl
choice-same (dests.All g) s h = refl
choice-same (dests.One g) s h = refl
choice-same (dests.OneAt g site) s h =
    ap listed (find-same (is_at_site site s) (world.is_at_site s.layout site s.journal)
    (λ q. ap (λ (x : Location). has_site s.layout q.site && (site_of s.layout x.to == site)) (h q)) (world.in_turn g s.journal))

-- the row for locations, at one place
abbrev pub IsKnown : Layout → (Ui → Option (ℕ × ℕ)) → List Entry → Type 0
IsKnown l known here = (q : Ui) → location l q (known q) ≡ located l q here

abbrev SameUis : Type 0
SameUis = (q r : Ui) → same_ui q r ≡ true → q ≡ r

-- an entry that teaches nothing keeps it
pub known-stays : (l : Layout) (known : Ui → Option (ℕ × ℕ)) (e : Entry) (here : List Entry) → ((q : Ui) → places.learned q e.place here e.act ≡ None)
    → IsKnown l known here → IsKnown l known (e ∷ here)
known-stays l known e here n h q = h q ∙ sym (ap (λ o. farther (located l q here) o) (n q))

-- a Depart and an Arrive teach what the machine learns
pub known-departs : (l : Layout) (known : Ui → Option (ℕ × ℕ)) (e : Entry) (here : List Entry) (q : Ui) (to : ℕ) (actor : Ui) (hop : ℕ) → SameUis
    → e.act ≡ acts.Depart q to actor hop → IsKnown l known here → IsKnown l (learned q to hop known) (e ∷ here)
known-departs l known e here q to actor hop same a h r =
    newest-learned l q r to hop known (same q r)
    ∙ ap (λ x. farther x (lesson (same_ui q r) to hop)) (h r)
    ∙ sym (ap (λ x. farther (located l r here) (places.learned r e.place here x)) a)

pub known-arrives : (l : Layout) (known : Ui → Option (ℕ × ℕ)) (e : Entry) (here : List Entry) (q : Ui) (hop : ℕ) → SameUis
    → e.act ≡ acts.Arrive q hop → IsKnown l known here → IsKnown l (learned q e.place hop known) (e ∷ here)
known-arrives l known e here q hop same a h r =
    newest-learned l q r e.place hop known (same q r)
    ∙ ap (λ x. farther x (lesson (same_ui q r) e.place hop)) (h r)
    ∙ sym (ap (λ x. farther (located l r here) (places.learned r e.place here x)) a)

-- and so does a Told, where the message was sent from here to the port
pub known-told : (l : Layout) (known : Ui → Option (ℕ × ℕ)) (e : Entry) (here : List Entry) (x : MsgId) (a : Answer) (m : Sent) → SameUis
    → e.act ≡ acts.Told x a → find_sent x (sent here) ≡ Some m → IsKnown l known here → IsKnown l (taught_of m.port (taught a) known) (e ∷ here)
known-told l known e here x a m same act f h r =
    by (taught a)
    ∙ sym (ap (λ o. farther (located l r here) (cond (is_sent_to r o) (taught a) None)) f)
    ∙ sym (ap (λ y. farther (located l r here) (places.learned r e.place here y)) act)
  where
    nothing : (b : Bool) → located l r here ≡ farther (located l r here) (cond b None None)
    nothing true = refl
    nothing false = refl

    by : (o : Option Location) → location l r (taught_of m.port o known r) ≡ farther (located l r here) (cond (same_ui m.port r) o None)
    by None = h r ∙ nothing (same_ui m.port r)
    by (Some at) =
        newest-learned l m.port r at.to at.hop known (same m.port r)
        ∙ ap (λ y. farther y (lesson (same_ui m.port r) at.to at.hop)) (h r)
