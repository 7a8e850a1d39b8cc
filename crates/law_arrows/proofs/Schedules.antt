-- Of each schedule the arrows of its history are the packets that were worked off.
use Rattle.std.proofs.Common.{ℕ, ◌≡◌, ◌≢◌, ◌==◌, ◌&&◌, ◌⊎◌, Bool, true, false, not, cond, is_some, List, [], ◌∷◌, ◌++◌, Option, Some, None, slice_get, refl, sym, ◌∙◌, ap, subst, inl, inr, append_assoc}
use Rattle.std.specs.List.{All, filter}
use Rattle.std.proofs.lemmas.Bool.{and_parts, eqb-false, eqb-true, ne_eqb, not-true}
use Rattle.std.proofs.lemmas.List.Elements.{All-nil, All-cons, All-head, All-push, All-tail}
use Rattle.chorus_ui.specs.declared.ui.Ui.{Ui}
use Rattle.chorus_ui.specs.declared.layout.Layout.{Layout}
use Rattle.chorus_ui.specs.Layout.{IsLayout, has_place}
use Rattle.chorus_ui.proofs.Names.{same_ui-self}
use Rattle.chorus_entry.specs.declared.entry.Entry.{Entry}
use Rattle.chorus_entry.specs.declared.id.MsgId.{MsgId}
use Rattle.chorus_entry.specs.declared.command.Command.{Command}
use Rattle.chorus_entry.specs.declared.dest.Dest.{Dest}
use Rattle.chorus_entry.specs.declared.dest.Dest.TheVariants as D
use Rattle.chorus_entry.specs.declared.packet.Packet.{Packet}
use Rattle.chorus_entry.specs.declared.packet.Cargo.{Cargo}
use Rattle.chorus_entry.specs.Dest.{group_in}
use Rattle.chorus_entry.proofs.Same.{same_id-self}
use Rattle.chorus_world.specs.Steps.{is_legal}
use Rattle.chorus_world.proofs.Ports.LineLemmas.{none_some}
use Rattle.chorus_world.proofs.Sorted.Holders.{run_is_legal}
use Rattle.chorus_world.specs.declared.spot.Spot.{Spot}
use Rattle.chorus_world.specs.declared.spot.Spot.TheVariants as S
use Rattle.chorus_world.specs.Ports.{PortState, fate}
use Rattle.chorus_world.specs.Views.{about, on}
use Rattle.chorus_world.specs.Messages.{progress}
use Rattle.chorus_world.specs.Places.{last_clock}
use Rattle.chorus_calls.specs.Callers.{Seated}
use Rattle.law_machine.specs.declared.outgoing.Outgoing.{Outgoing}
use Rattle.law_machine.specs.PlaceState.{Turn, next_entry}
use Rattle.law_machine.specs.PlaceMachine.{act, begun_by, work}
use Rattle.law_network.specs.Packets.{first_on, put_all, rest_on}
use Rattle.law_network.specs.Network.{NetState, Event, Enter, Act, Deliver, See, commanded, delivered, ended, happened, place, schedule, turn_for, works_off}
use Rattle.law_network.specs.Schedules.{may_be, may_happen}
use Rattle.law_network.specs.Stands.{Stands, actor_of}
use Rattle.law_network.specs.UnderWay.{carries, far_place, moves, transfer_in, transfer_of}
use Rattle.law_network.specs.History.{history, newer, said_by}
use Rattle.law_network.proofs.Events.InOrder.{in-order}
use Rattle.law_network.proofs.Events.Said.{newer-is, said_at, said_on, said_with}
use Rattle.law_network.proofs.Groups.Asking.{sees-ask}
use Rattle.law_network.proofs.Links.PacketViews.{of-other, with-none, with-other, with-taken}
use Rattle.law_network.proofs.Links.UnderWays.{seen}
use Rattle.law_network.proofs.Places.Layouts.{schedule-keeps}
use Rattle.law_network.proofs.Standing.InTurn.{ArePackets}
use Rattle.law_network.proofs.Standing.Turning.{number-is}
use Rattle.law_picture.specs.declared.row.Row.{Row}
use Rattle.law_picture.specs.Causes.{caused_by, from_elsewhere, goes_on, latest, packet_of}
use Rattle.law_arrows.specs.Arrows.{ArrowsArePackets, arrow_from, arrow_of, arrows, kind_of, served, served_by}
use Rattle.law_arrows.proofs.Lists.{At, In, latest-among, stays-in}
use Rattle.law_arrows.proofs.Leads.{IsPut}
use Rattle.law_arrows.proofs.Turns.{Grown, IsGroup, IsOfGroup, Opened, Subject, Of, With, act-grown, holds, opened, subject, test_of, under_of, view_of}
use Rattle.law_arrows.proofs.Quiet.{StaysOrIsTouched, no-arrows, put-by, quiet}

-- What a network has under way is what its past says.
view-is : (n : NetState) (past : List Entry) → Stands n past → (s : Subject) → filter (view_of s) n.packets ≡ under_of n.layout past s
view-is n past h (Of x) = h.messages x
view-is n past h (With q) = h.transfers q

legal-of : (n : NetState) (past : List Entry) → Stands n past → is_legal n.layout past ≡ true
legal-of n past h = run_is_legal n.layout (actor_of n) past h.run

-- where a turn leaves packets and puts others, what was under way still is
kept-by : (n m : NetState) (past whole : List Entry) (us vs : List Outgoing) (s : Subject) → Stands n past → Stands m whole → m.layout ≡ n.layout → m.packets ≡ put_all vs us
    → filter (view_of s) us ≡ filter (view_of s) n.packets → (o : Outgoing) → under_of n.layout past s ≡ o ∷ [] → In o (under_of n.layout whole s)
kept-by n m past whole us vs s h k lay packets left o one =
    let there : In o (filter (view_of s) us) = subst (In o) (sym (left ∙ view-is n past h s ∙ one)) (inl refl) in
    let now : In o (filter (view_of s) m.packets) = subst (λ ws. In o (filter (view_of s) ws)) (sym packets) (stays-in (view_of s) o vs us there) in
    subst (λ l. In o (under_of l whole s)) lay (subst (In o) (view-is m whole k s) now)

split : (P : Entry → Type 0) (xs : List Entry) (e : Entry) (ys : List Entry) → All P (xs ++ e ∷ ys) → All P xs × P e × All P ys
split P [] e ys h = (All-nil P, All-head P e ys h, All-tail P e ys h)
split P (x ∷ xs) e ys h =
    let rest = split P xs e ys (All-tail P x (xs ++ e ∷ ys) h) in
    (All-cons P x xs (All-head P x (xs ++ e ∷ ys) h) rest.0, rest.1, rest.2)

-- A turn with a command.

after-command : (n m : NetState) (past new : List Entry) (c : Command) (t : Turn) → IsLayout n.layout → Stands n past → Stands m (new ++ past) → m.layout ≡ n.layout
    → m.packets ≡ put_all (act c t).puts n.packets → new ≡ newer t.place.journal (act c t).place.journal → arrows (new ++ past) ≡ arrows past
after-command n m past new c t shape h k lay packets said =
    no-arrows [] new past (λ first mid e is. by first mid e (sym whole ∙ is))
  where
    g : Grown t.place.number t.place.journal (act c t)
    g = act-grown c t

    whole : new ≡ g.later
    whole = said ∙ ap (newer t.place.journal) g.journal ∙ newer-is g.later t.place.journal

    by : (first mid : List Entry) (e : Entry) → g.later ≡ first ++ e ∷ mid → caused_by (mid ++ past) e ≡ None
    by first mid e is =
        let all = subst (All (At t.place.number)) is g.places in
        let parts = split (At t.place.number) first e mid all in
        let list : new ++ past ≡ first ++ e ∷ (mid ++ past) = ap (λ es. es ++ past) (whole ∙ is) ∙ append_assoc first (e ∷ mid) past in
        quiet n.layout shape first e mid past t.place.number
        (subst (λ es. is_legal n.layout es ≡ true) list (subst (λ l. is_legal l (new ++ past) ≡ true) lay (legal-of m (new ++ past) k)))
        parts.0 parts.1 parts.2
        (λ s. inl (λ o one. subst (λ es. In o (under_of n.layout es s)) list (kept-by n m past (new ++ past) n.packets (act c t).puts s h k lay packets refl o one)))

-- The packet that is worked off.

-- it is the one that the past says
record Brought (l : Layout) (past : List Entry) (a : ℕ) (k : Packet) : Type 0 where
  packet : Outgoing
  is : packet.packet ≡ k
  from : k.from ≡ a
  under : under_of l past (subject k.cargo) ≡ packet ∷ []

one-or-none : (past line : List Entry) (q : Ui) (z : Option PortState) → (transfer_of past line q z ≡ []) ⊎ ((o : Outgoing) × (transfer_of past line q z ≡ o ∷ []))
one-or-none past line q None = inl refl
one-or-none past line q (Some f) = go f.spot
  where
    go : (s : Spot) → (transfer_in past line q f s ≡ []) ⊎ ((o : Outgoing) × (transfer_in past line q f s ≡ o ∷ []))
    go (S.Held a) = inl refl
    go (S.Moving a) = inr (_, refl)
    go S.Ended = inl refl

brought : (n : NetState) (past : List Entry) (a b : ℕ) (k : Packet) → Stands n past → first_on a b n.packets ≡ Some k → Brought n.layout past a k
brought n past a b k h first = by k.cargo refl
  where
    packets : ArePackets n.layout n.packets past
    packets = record { order = h.order; messages = h.messages; transfers = h.transfers; asks = h.asks }

    by-message : (x : MsgId) → subject k.cargo ≡ Of x → carries x k.cargo ≡ true → Brought n.layout past a k
    by-message x of held =
        let s = seen n.layout past x a b n.packets k packets held first in
        record { packet = s.packet; is = s.is; from = s.from; under = ap (under_of n.layout past) of ∙ s.under }

    by-port : (q : Ui) → subject k.cargo ≡ With q → moves q k.cargo ≡ true → Brought n.layout past a k
    by-port q of held =
        elim (one-or-none past (on q past) q (fate (on q past))) [
          | inl none ↦ absurd (with-none q a b n.packets k held first (h.transfers q ∙ none))
          | inr one ↦ (
              let taken = with-taken q a b n.packets k one.0 held first (h.transfers q ∙ one.1) in
              let link = and_parts (one.0.packet.from == a) (one.0.to == b) taken.1.0 in
              record {
                packet = one.0;
                is = taken.0;
                from = ap (λ (z : Packet). z.from) (sym taken.0) ∙ eqb-true one.0.packet.from a link.0;
                under = ap (under_of n.layout past) of ∙ one.1;
              })
        ]

    by : (c : Cargo) → k.cargo ≡ c → Brought n.layout past a k
    by (Cargo.Try m q route only hop) is = by-message m.id (ap subject is) (ap (carries m.id) is ∙ same_id-self m.id)
    by (Cargo.Verdict x q route answer) is = by-message x (ap subject is) (ap (carries x) is ∙ same_id-self x)
    by (Cargo.Transfer port) is = by-port port.ui (ap subject is) (ap (moves port.ui) is ∙ same_ui-self port.ui)
    by (Cargo.Ask m d) is = by-message m.id (ap subject is) (ap (carries m.id) is ∙ same_id-self m.id)
    by (Cargo.Report x answer) is = by-message x (ap subject is) (ap (carries x) is ∙ same_id-self x)

-- an Ask that is under way is of a post to a group
far-is-group : (l : Layout) (from p : ℕ) (d : Dest) → far_place l from (group_in d) ≡ Some p → IsGroup d
far-is-group l from p (D.Port q) h = none_some p h
far-is-group l from p (D.All g) h = tt
far-is-group l from p (D.One g) h = tt
far-is-group l from p (D.OneAt g site) h = tt

of-group : (l : Layout) (past : List Entry) (a : ℕ) (k : Packet) → Brought l past a k → IsOfGroup k.cargo
of-group l past a k br = by k.cargo refl
  where
    by : (c : Cargo) → k.cargo ≡ c → IsOfGroup k.cargo
    by (Cargo.Ask m d) is =
        let sees = sees-ask l past m.id (last_clock (about m.id past)) (progress (about m.id past)) br.packet m d
        (sym (ap (λ c. under_of l past (subject c)) is) ∙ br.under) (ap (λ (z : Packet). z.cargo) br.is ∙ is) in
        subst IsOfGroup (sym is) (far-is-group l br.packet.packet.from br.packet.to d sees.far)
    by c is = subst IsOfGroup (sym is) tt

-- A turn with a packet.

module _ (n : NetState) (past : List Entry) (a b : ℕ) (caller : Seated) (k : Packet) (shape : IsLayout n.layout) (h : Stands n past) (apart : a ≢ b) (first : first_on a b n.packets ≡ Some k) where
  t : Turn
  t = begun_by (place b n) caller k

  br : Brought n.layout past a k
  br = brought n past a b k h first

  op : Opened k.cargo (begun_by (place b n) caller k) (work k (begun_by (place b n) caller k))
  op = opened k.from k.cargo (begun_by (place b n) caller k) (of-group n.layout past a k br)

  -- the first entry has the arrow of the packet
  led : (e : Entry) → e.place ≡ b → e.act ≡ op.act → arrow_from e (caused_by past e) ≡ arrow_of b k ∷ []
  led e here is =
      ap (arrow_from e) cause
      ∙ (λ i. record { kind = kind i; from = from i; clock = clock i; to = here i } ∷ [])
    where
      put : IsPut (latest (test_of (subject k.cargo)) past) br.packet
      put = put-by n.layout past (subject k.cargo) br.packet shape (legal-of n past h) (subst (In br.packet) (sym br.under) (inl refl))

      from : put.row.place ≡ k.from
      from = put.place ∙ ap (λ (z : Packet). z.from) br.is

      clock : put.row.clock ≡ k.clock
      clock = put.clock ∙ ap (λ (z : Packet). z.clock) br.is

      kind : packet_of e.act ≡ kind_of k.cargo
      kind = ap packet_of is ∙ op.kind

      elsewhere : (put.row.place == e.place) ≡ false
      elsewhere = ne_eqb put.row.place e.place (λ same. apart (sym br.from ∙ sym from ∙ same ∙ here))

      cause : caused_by past e ≡ Some put.row
      cause =
          ap (λ (test : Entry → Bool). from_elsewhere e (latest test past)) (ap goes_on is ∙ op.goes)
          ∙ ap (from_elsewhere e) put.is ∙ ap (λ z. cond z None (Some put.row)) elsewhere

  -- and no other entry has one
  module _ (m : NetState) (new : List Entry) (stood : Stands m (new ++ past)) (lay : m.layout ≡ n.layout) (vs : List Outgoing) (packets : m.packets ≡ put_all vs (rest_on a b n.packets))
      (e : Entry) (touches : (s : Subject) → holds s k.cargo ≡ true → test_of s e ≡ true) (p : ℕ) (here : At p e)
      (later : List Entry) (whole : new ≡ later ++ e ∷ []) (places : All (At p) later) where
    kept : (mid : List Entry) → All (At p) mid → (s : Subject) → StaysOrIsTouched n.layout p (mid ++ e ∷ []) past (new ++ past) s
    kept mid all s = go (holds s k.cargo) refl
      where
        left : holds s k.cargo ≡ false → filter (view_of s) (rest_on a b n.packets) ≡ filter (view_of s) n.packets
        left free = by s free
          where
            by : (s : Subject) → holds s k.cargo ≡ false → filter (view_of s) (rest_on a b n.packets) ≡ filter (view_of s) n.packets
            by (Of x) none = of-other x a b n.packets k none first
            by (With q) none = with-other q a b n.packets k none first

        go : (z : Bool) → holds s k.cargo ≡ z → StaysOrIsTouched n.layout p (mid ++ e ∷ []) past (new ++ past) s
        go true held =
            inr (subst (λ es. (row : Row) × (latest (test_of s) es ≡ Some row) × (row.place ≡ p)) (sym (append_assoc mid (e ∷ []) past))
            (latest-among (test_of s) p mid e past all here (touches s held)))
        go false free = inl (kept-by n m past (new ++ past) (rest_on a b n.packets) vs s h stood lay packets (left free))

    no-other : (newer mid : List Entry) (f : Entry) → later ≡ newer ++ f ∷ mid → caused_by (mid ++ (e ∷ past)) f ≡ None
    no-other newer mid f is =
        let parts = split (At p) newer f mid (subst (All (At p)) is places) in
        let list : new ++ past ≡ newer ++ f ∷ ((mid ++ e ∷ []) ++ past) =
        ap (λ es. es ++ past) (whole ∙ ap (λ es. es ++ e ∷ []) is ∙ append_assoc newer (f ∷ mid) (e ∷ [])) ∙ append_assoc newer (f ∷ (mid ++ e ∷ [])) past in
        ap (λ es. caused_by es f) (sym (append_assoc mid (e ∷ []) past))
        ∙ quiet n.layout shape newer f (mid ++ e ∷ []) past p
        (subst (λ es. is_legal n.layout es ≡ true) list (subst (λ l. is_legal l (new ++ past) ≡ true) lay (legal-of m (new ++ past) stood)))
        parts.0 parts.1 (All-push (At p) mid e parts.2 here)
        (λ s. subst (λ es. StaysOrIsTouched n.layout p (mid ++ e ∷ []) past es s) list (kept mid parts.2 s))

    arrows-are : arrows (new ++ past) ≡ arrow_from e (caused_by past e) ++ arrows past
    arrows-are =
        ap arrows (ap (λ es. es ++ past) whole ∙ append_assoc later (e ∷ []) past)
        ∙ no-arrows [] later (e ∷ past) no-other

  after-packet : (m : NetState) (new : List Entry) → Stands m (new ++ past) → m.layout ≡ n.layout → m.packets ≡ put_all (work k (begun_by (place b n) caller k)).puts (rest_on a b n.packets)
      → new ≡ newer (begun_by (place b n) caller k).place.journal (work k (begun_by (place b n) caller k)).place.journal → arrows (new ++ past) ≡ arrow_of b k ∷ arrows past
  after-packet m new stood lay packets said =
      arrows-are m new stood lay (work k (begun_by (place b n) caller k)).puts packets e op.touches (place b n).number refl g.later whole g.places
      ∙ ap (λ more. more ++ arrows past) (led e (number-is n.layout b n.places) refl)
    where
      e : Entry
      e = next_entry op.act (begun_by (place b n) caller k)

      g : Grown (place b n).number (next_entry op.act (begun_by (place b n) caller k) ∷ (place b n).journal) (work k (begun_by (place b n) caller k))
      g = op.grown

      whole : new ≡ g.later ++ next_entry op.act (begun_by (place b n) caller k) ∷ []
      whole =
          said ∙ ap (newer (place b n).journal) (g.journal ∙ sym (append_assoc g.later (next_entry op.act (begun_by (place b n) caller k) ∷ []) (place b n).journal))
          ∙ newer-is (g.later ++ next_entry op.act (begun_by (place b n) caller k) ∷ []) (place b n).journal

-- Each event.

step : (n : NetState) (past : List Entry) (e : Event) → IsLayout n.layout → may_happen e n ≡ true → Stands n past → Stands (happened e n) (said_by e n ++ past) → arrows (said_by e n ++ past) ≡ served_by e n ++ arrows past
step n past (Enter actor last) shape may h k = refl
step n past (See seat clock) shape may h k = refl
step n past (Act seat c) shape may h k = by (slice_get n.callers seat) k
  where
    by : (o : Option Seated) → Stands (commanded seat c o n) (said_with c o n ++ past) → arrows (said_with c o n ++ past) ≡ arrows past
    by None stood = refl
    by (Some caller) stood =
        after-command n (ended seat (act c (turn_for c caller n)) n) past (said_with c (Some caller) n) c (turn_for c caller n) shape h stood refl refl refl
step n past (Deliver seat a b) shape may h k = by (slice_get n.callers seat) k
  where
    apart : a ≢ b
    apart =
        eqb-false a b (not-true (a == b)
        (and_parts (is_some (slice_get n.callers seat) && has_place n.layout a && has_place n.layout b) (not (a == b)) may).1)

    on : (caller : Seated) (z : Option Packet) → first_on a b n.packets ≡ z → Stands (works_off seat a b caller z n) (said_on b caller z n ++ past) → arrows (said_on b caller z n ++ past) ≡ served b (Some caller) z ++ arrows past
    on caller None is stood = refl
    on caller (Some packet) is stood =
        after-packet n past a b caller packet shape h apart is
        (ended seat (work packet (begun_by (place b n) caller packet)) (record n { packets = rest_on a b n.packets }))
        (said_on b caller (Some packet) n) stood refl refl refl

    by : (o : Option Seated) → Stands (delivered seat a b o n) (said_at a b o n ++ past) → arrows (said_at a b o n ++ past) ≡ served b o (first_on a b n.packets) ++ arrows past
    by None stood = refl
    by (Some caller) stood = on caller (first_on a b n.packets) refl stood

pub arrows_are_packets : ArrowsArePackets
arrows_are_packets l [] shape may = refl
arrows_are_packets l (e ∷ es) shape may =
    let two = and_parts (may_happen e (schedule l es)) (may_be l es) may in
    let old = in-order l es shape two.1 in
    let new = in-order l (e ∷ es) shape may in
    step (schedule l es) (history l es) e (subst IsLayout (sym (schedule-keeps l es).layout) shape) two.0 old.0 new.0
    ∙ ap (λ more. served_by e (schedule l es) ++ more) (arrows_are_packets l es shape two.1)
