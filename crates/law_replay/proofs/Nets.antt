-- The network on more sites: each event does on it what it does on fewer, where all names are within, and the places of the
-- further sites stay as they were started.
-- l is a layout, n a number of sites, net a network, `more` the places of the further sites, es are events, the latest first.
use Rattle.std.proofs.Common.{ℕ, ◌≡◌, ◌≤◌, ◌==◌, Bool, true, false, ◌&&◌, not, cond, List, [], ◌∷◌, ◌++◌, map, Option, Some, None, is_some, slice_get, slice_set, unwrap_or, refl, sym, ◌∙◌, ap, subst}
use Rattle.std.specs.List.{All, filter}
use Rattle.std.proofs.lemmas.Bool.{false≢true, eqb-true, and_parts, and_from}
use Rattle.std.proofs.lemmas.List.Elements.{All-head, All-tail}
use Rattle.chorus_ui.specs.declared.ui.Ui.{Ui}
use Rattle.chorus_ui.specs.declared.layout.Layout.{Layout}
use Rattle.chorus_ui.specs.Layout.{IsLayout, has_place, creation_place, first_place, place_at}
use Rattle.chorus_entry.specs.declared.entry.Entry.{Entry}
use Rattle.chorus_entry.specs.declared.command.Command.{Command}
use Rattle.chorus_entry.specs.declared.packet.Packet.{Packet}
use Rattle.chorus_entry.specs.declared.packet.Cargo.{Cargo}
use Rattle.chorus_entry.specs.declared.packet.Cargo.TheVariants as cargos
use Rattle.chorus_ui.specs.NameKind.{is_actor}
use Rattle.chorus_entry.specs.Places.{place_for}
use Rattle.chorus_world.specs.Views.{at}
use Rattle.chorus_world.specs.Groups.{members}
use Rattle.chorus_calls.specs.Callers.{Seated}
use Rattle.law_machine.specs.declared.outgoing.Outgoing.{Outgoing}
use Rattle.law_machine.specs.PlaceState.{PlaceState, Turn}
use Rattle.law_machine.specs.PlaceMachine.{begun, begun_by, act, work}
use Rattle.law_machine.proofs.Machine.Stays.{act-stays, work-stays}
use Rattle.law_network.specs.Packets.{put_all, is_link, first_on, rest_on}
use Rattle.law_network.specs.Network.{NetState, place_in, place, with_place, ended, turn_for, commanded, works_off, delivered, Event, Enter, Act, Deliver, See, shown, happened}
use Rattle.law_network.specs.Schedules.{may_happen}
use Rattle.law_network.specs.Stands.{Stands}
use Rattle.law_network.proofs.Places.PlacesStay.{stands_in}
use Rattle.law_network.proofs.Standing.Turning.{number-is, layout-is, stands-there}
use Rattle.law_network.proofs.Events.HavePlaces.{have-places}
use Rattle.law_network.specs.ByPlace.{IsBetweenPlaces}
use Rattle.law_network.proofs.Holdings.Passing.{packets-between}
use Rattle.law_replay.proofs.Places.{layout_on, place_on, turn_on, Within, CommandWithin, CallerWithin, MembersWithin, CargoWithin, has-same, actor-same, group-same, act-on, work-on}
use Rattle.law_replay.proofs.Pasts.{both-have, EntryWithin, members-within, caller-within, here-within}
use Rattle.law_replay.proofs.Packets.{tried-site, told-site}

abbrev pub net_on : ℕ → List PlaceState → NetState → NetState
net_on n more net = record net { layout = layout_on n net.layout; places = map (place_on n) net.places ++ more }

-- who comes, and what is named, is within
abbrev pub EventWithin : ℕ → Layout → Event → Type 0
EventWithin n l (Enter actor last) = Within n l actor
EventWithin n l (Act seat command) = CommandWithin n l command
EventWithin n l (Deliver seat a b) = Unit {0}
EventWithin n l (See seat clock) = Unit {0}

-- it is not a delivery from or to a place that the layout does not have
abbrev pub is_near : Layout → Event → Bool
is_near l (Enter actor last) = true
is_near l (Act seat command) = true
is_near l (See seat clock) = true
is_near l (Deliver seat a b) = has_place l a && has_place l b

abbrev pub near : Layout → List Event → List Event
near l es = filter (is_near l) es

-- Places by number.

module _ (n : ℕ) (more : List PlaceState) where
  place-on : (l : Layout) (p : ℕ) (rs : List PlaceState) → stands_in p rs ≡ true → place_in (layout_on n l) p (map (place_on n) rs ++ more) ≡ place_on n (place_in l p rs)
  place-on l p [] h = absurd (false≢true h)
  place-on l p (r ∷ rs) h = by (r.number == p) h (place-on l p rs)
    where
      by : (b : Bool) → cond b true (stands_in p rs) ≡ true → (stands_in p rs ≡ true → place_in (layout_on n l) p (map (place_on n) rs ++ more) ≡ place_on n (place_in l p rs))
          → cond b (place_on n r) (place_in (layout_on n l) p (map (place_on n) rs ++ more)) ≡ place_on n (cond b r (place_in l p rs))
      by true k ih = refl
      by false k ih = ih k

  with-on : (s : PlaceState) (rs : List PlaceState) → stands_in s.number rs ≡ true → with_place (place_on n s) (map (place_on n) rs ++ more) ≡ map (place_on n) (with_place s rs) ++ more
  with-on s [] h = absurd (false≢true h)
  with-on s (r ∷ rs) h = by (r.number == s.number) h (with-on s rs)
    where
      by : (b : Bool) → cond b true (stands_in s.number rs) ≡ true → (stands_in s.number rs ≡ true → with_place (place_on n s) (map (place_on n) rs ++ more) ≡ map (place_on n) (with_place s rs) ++ more)
          → cond b (place_on n s ∷ map (place_on n) rs ++ more) (place_on n r ∷ with_place (place_on n s) (map (place_on n) rs ++ more)) ≡ map (place_on n) (cond b (s ∷ rs) (r ∷ with_place s rs)) ++ more
      by true k ih = refl
      by false k ih = ap (λ zs. place_on n r ∷ zs) (ih k)

  ended-on : (seat : ℕ) (t : Turn) (net : NetState) → stands_in t.place.number net.places ≡ true → ended seat (turn_on n t) (net_on n more net) ≡ net_on n more (ended seat t net)
  ended-on seat t net h =
      ap (λ (ps : List PlaceState). let m : NetState = record { layout = layout_on n net.layout; places = ps; packets = put_all t.puts net.packets; callers = slice_set net.callers seat t.caller } in m) (with-on t.place net.places h)

-- The command's place is the same.
for-same : (n : ℕ) (l : Layout) (a : Ui) (c : Command) → CommandWithin n l c → place_for (layout_on n l) a c ≡ place_for l a c
for-same n l a (Command.Make actor capacity) h =
    ap (λ b. unwrap_or (cond b (Some (creation_place l actor)) None) (place_at l a.site a)) (actor-same n l actor h)
for-same n l a (Command.GroupMake site) h =
    ap (λ b. unwrap_or (cond b (Some (first_place l site)) None) (place_at l a.site a)) (has-same n l site h)
for-same n l a (Command.Join g q) h = ap (λ (o : Option ℕ). unwrap_or o (place_at l a.site a)) (group-same n l g h.0)
for-same n l a (Command.Leave g q) h = ap (λ (o : Option ℕ). unwrap_or o (place_at l a.site a)) (group-same n l g h)
for-same n l a c h = refl

-- What is known of a network that events left: it stands for a past, and all that the past names is within.
pub record IsWithin (n : ℕ) (net : NetState) (past : List Entry) : Type 0 where
  pub shape : IsLayout net.layout
  pub wider : net.layout.sites ≤ n
  pub stands : Stands net past
  pub said : All (EntryWithin n net.layout) past

module _ (n : ℕ) (more : List PlaceState) (net : NetState) (past : List Entry) (w : IsWithin n net past) where
  here-members : (p : ℕ) → MembersWithin n (place p net)
  here-members p g =
      subst (λ (l : Layout). All (Within n l) (members g (place p net).journal)) (sym (layout-is net p w.stands.places))
      (subst (λ (es : List Entry). All (Within n net.layout) (members g es)) (sym (w.stands.journal p)) (members-within n net.layout g (at p past) (here-within n net.layout past p w.said)))

  -- A turn begins the same.

  module _ (seat : ℕ) (caller : Seated) (found : slice_get net.callers seat ≡ Some caller) where
    caller-is-within : CallerWithin n net.layout caller
    caller-is-within = caller-within n net.layout past seat caller w.said (w.stands.callers seat caller found)

    module _ (c : Command) (h : CommandWithin n net.layout c) where
      inside : stands_in (place_for net.layout caller.actor c) net.places ≡ true
      inside = stands-there net (place_for net.layout caller.actor c) w.stands.places (have-places net.layout caller.actor w.shape (w.stands.callers seat caller found).actor c)

      pub turn-on : turn_for c caller (net_on n more net) ≡ turn_on n (turn_for c caller net)
      turn-on =
          ap (λ p. begun (place p (net_on n more net)) caller) (for-same n net.layout caller.actor c h)
          ∙ ap (λ (s : PlaceState). begun s caller) (place-on n more net.layout (place_for net.layout caller.actor c) net.places inside)

      given-on : commanded seat c (Some caller) (net_on n more net) ≡ net_on n more (commanded seat c (Some caller) net)
      given-on =
          let t = turn_for c caller net in
          let p = place_for net.layout caller.actor c in
          let back = sym (layout-is net p w.stands.places) in
          let number : (act c t).place.number ≡ p = (act-stays c t).number ∙ number-is net.layout p net.places in
          ap (λ (u : Turn). ended seat (act c u) (net_on n more net)) turn-on
          ∙ ap (λ (u : Turn). ended seat u (net_on n more net)) (act-on n c t (subst (λ (l : Layout). CommandWithin n l c) back h) (subst (λ (l : Layout). CallerWithin n l caller) back caller-is-within) (here-members p))
          ∙ ended-on n more seat (act c t) net (subst (λ i. stands_in i net.places ≡ true) (sym number) inside)

  module _ (a b : ℕ) (has : has_place net.layout b ≡ true) where
    pub begun-on : (caller : Seated) (k : Packet) → begun_by (place b (net_on n more net)) caller k ≡ turn_on n (begun_by (place b net) caller k)
    begun-on caller k = ap (λ (s : PlaceState). begun_by s caller k) (place-on n more net.layout b net.places (stands-there net b w.stands.places has))

    cargo-within : (k : Packet) → first_on a b net.packets ≡ Some k → CargoWithin n net.layout k.cargo
    cargo-within k first = go k.cargo refl
      where
        go : (c : Cargo) → k.cargo ≡ c → CargoWithin n net.layout c
        go (cargos.Try m q route only hop) e = both-have n net.layout q.site w.wider (tried-site net past w.shape w.stands a b k first m q route only hop e)
        go (cargos.Verdict x q route answer) e = both-have n net.layout q.site w.wider (told-site net past w.shape w.stands a b k first x q route answer e)
        go (cargos.Transfer port) e = tt
        go (cargos.Ask m d) e = tt
        go (cargos.Report x answer) e = tt

    worked-on : (seat : ℕ) (caller : Seated) (o : Option Packet) → first_on a b net.packets ≡ o → works_off seat a b caller o (net_on n more net) ≡ net_on n more (works_off seat a b caller o net)
    worked-on seat caller None first = refl
    worked-on seat caller (Some k) first =
        let t = begun_by (place b net) caller k in
        let rest : NetState = record net { packets = rest_on a b net.packets } in
        let back = sym (layout-is net b w.stands.places) in
        let number : (work k t).place.number ≡ b = (work-stays k t).number ∙ number-is net.layout b net.places in
        ap (λ (u : Turn). ended seat (work k u) (net_on n more rest)) (begun-on caller k)
        ∙ ap (λ (u : Turn). ended seat u (net_on n more rest)) (work-on n k t (subst (λ (l : Layout). CargoWithin n l k.cargo) back (cargo-within k first)) (here-members b))
        ∙ ended-on n more seat (work k t) rest (subst (λ i. stands_in i net.places ≡ true) (sym number) (stands-there net b w.stands.places has))

    delivered-on : (seat : ℕ) (o : Option Seated) → delivered seat a b o (net_on n more net) ≡ net_on n more (delivered seat a b o net)
    delivered-on seat None = refl
    delivered-on seat (Some caller) = worked-on seat caller (first_on a b net.packets) refl

  commanded-on : (seat : ℕ) (c : Command) (o : Option Seated) → slice_get net.callers seat ≡ o → CommandWithin n net.layout c → commanded seat c o (net_on n more net) ≡ net_on n more (commanded seat c o net)
  commanded-on seat c None found h = refl
  commanded-on seat c (Some caller) found h = given-on seat caller found c h

  shown-on : (seat clock : ℕ) (o : Option Seated) → shown seat clock o (net_on n more net) ≡ net_on n more (shown seat clock o net)
  shown-on seat clock None = refl
  shown-on seat clock (Some caller) = refl

  -- an event that is near does the same
  pub happened-on : (e : Event) → EventWithin n net.layout e → is_near net.layout e ≡ true → happened e (net_on n more net) ≡ net_on n more (happened e net)
  happened-on (Enter actor last) h near = refl
  happened-on (Act seat c) h near = commanded-on seat c (slice_get net.callers seat) refl h
  happened-on (See seat clock) h near = shown-on seat clock (slice_get net.callers seat)
  happened-on (Deliver seat a b) h near =
      delivered-on a b (and_parts (has_place net.layout a) (has_place net.layout b) near).1 seat (slice_get net.callers seat)

  -- no packet goes from or to a place that the layout does not have
  none-there : (a b : ℕ) (os : List Outgoing) → All (IsBetweenPlaces net.layout) os → has_place net.layout a && has_place net.layout b ≡ false → first_on a b os ≡ None
  none-there a b [] all far = refl
  none-there a b (o ∷ os) all far =
      by (is_link a b o) refl (none-there a b os (All-tail (IsBetweenPlaces net.layout) o os all) far)
    where
      by : (c : Bool) → is_link a b o ≡ c → first_on a b os ≡ None → cond c (Some o.packet) (first_on a b os) ≡ None
      by false e ih = ih
      by true e ih =
          let two = and_parts (o.packet.from == a) (o.to == b) e in
          let between = All-head (IsBetweenPlaces net.layout) o os all in
          let from : has_place net.layout a ≡ true = subst (λ i. has_place net.layout i ≡ true) (eqb-true o.packet.from a two.0) between.has_from in
          let to : has_place net.layout b ≡ true = subst (λ i. has_place net.layout i ≡ true) (eqb-true o.to b two.1) between.has_to in
          absurd (false≢true (sym far ∙ and_from (has_place net.layout a) (has_place net.layout b) from to))

  pub far-none : (a b : ℕ) → has_place net.layout a && has_place net.layout b ≡ false → first_on a b net.packets ≡ None
  far-none a b far = none-there a b net.packets (packets-between net past w.shape w.stands) far

  -- so one that is not near does nothing
  pub far-nothing : (e : Event) → is_near net.layout e ≡ false → happened e (net_on n more net) ≡ net_on n more net
  far-nothing (Enter actor last) far = absurd (false≢true (sym far))
  far-nothing (Act seat c) far = absurd (false≢true (sym far))
  far-nothing (See seat clock) far = absurd (false≢true (sym far))
  far-nothing (Deliver seat a b) far = go (slice_get net.callers seat)
    where
      off : (caller : Seated) (o : Option Packet) → o ≡ None → works_off seat a b caller o (net_on n more net) ≡ net_on n more net
      off caller o none = ap (λ p. works_off seat a b caller p (net_on n more net)) none

      go : (o : Option Seated) → delivered seat a b o (net_on n more net) ≡ net_on n more net
      go None = refl
      go (Some caller) = off caller (first_on a b net.packets) (far-none a b far)

  -- and what may happen on more sites, and is near, may happen
  pub may-down : (e : Event) → EventWithin n net.layout e → is_near net.layout e ≡ true → may_happen e (net_on n more net) ≡ true → may_happen e net ≡ true
  may-down (Enter actor last) h near may = ap (λ b. is_actor actor && b) (sym (actor-same n net.layout actor h)) ∙ may
  may-down (Act seat c) h near may = may
  may-down (See seat clock) h near may = may
  may-down (Deliver seat a b) h near may =
      let two = and_parts (has_place net.layout a) (has_place net.layout b) near in
      let some = is_some (slice_get net.callers seat) in
      let wide = layout_on n net.layout in
      let three = and_parts (some && has_place wide a && has_place wide b) (not (a == b)) may in
      let one = and_parts (some && has_place wide a) (has_place wide b) three.0 in
      let zero = and_parts some (has_place wide a) one.0 in
      and_from (some && has_place net.layout a && has_place net.layout b) (not (a == b))
      (and_from (some && has_place net.layout a) (has_place net.layout b) (and_from some (has_place net.layout a) zero.0 two.0) two.1) three.1
