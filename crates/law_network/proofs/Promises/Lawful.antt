-- A packet that is worked off next is lawful at its place.
use Rattle.chorus_world.specs.Clients.{clients_kept}
use Rattle.std.proofs.Common.{ℕ, ◌≡◌, ◌≤◌, ◌+◌, ◌-◌, ◌==◌, nat_le, Bool, true, false, ◌&&◌, ◌||◌, not, cond, List, [], ◌∷◌, map, drop, length, Option, Some, None, is_none, refl, sym, ◌∙◌, ap, subst, inl, inr, arith, length-append, length-drop}
use Rattle.std.specs.List.{All, list_all}
use Rattle.std.proofs.lemmas.Bool.{and_parts, and_from, or_left, or_right, or_cases, le-leb, eqb-true, eq-eqb, false≢true}
use Rattle.std.proofs.lemmas.List.{length-map}
use Rattle.std.proofs.lemmas.List.Elements.{All-head, All-tail, All-drop}
use Rattle.chorus_ui.specs.declared.ui.Ui.{Ui}
use Rattle.chorus_ui.specs.declared.layout.Layout.{Layout}
use Rattle.chorus_ui.specs.declared.limits.TheConstants.{ACTORS_PER_SITE_LIMIT}
use Rattle.chorus_ui.specs.Layout.{IsLayout, has_site, has_place, has_actor, can_make_port, creation_place, place_at, site_of, group_place}
use Rattle.chorus_ui.specs.Name.{same_ui}
use Rattle.chorus_ui.proofs.Names.{same_ui-self}
use Rattle.chorus_entry.specs.declared.entry.Entry.{Entry}
use Rattle.chorus_entry.specs.declared.id.MsgId.{MsgId}
use Rattle.chorus_entry.specs.declared.message.Message.{Message}
use Rattle.chorus_entry.specs.declared.dest.Dest.{Dest}
use Rattle.chorus_entry.specs.declared.dest.Dest.TheVariants as dests
use Rattle.chorus_entry.specs.declared.answer.Answer.{Answer}
use Rattle.chorus_entry.specs.declared.answer.Answer.TheVariants as A
use Rattle.chorus_entry.specs.declared.act.Act.{Act}
use Rattle.chorus_entry.specs.declared.act.Act.TheVariants as acts
use Rattle.chorus_entry.specs.declared.packet.Packet.{Packet}
use Rattle.chorus_entry.specs.declared.packet.Cargo.{Cargo}
use Rattle.chorus_entry.specs.declared.packet.Cargo.TheVariants as cargos
use Rattle.chorus_entry.specs.declared.record.PortRecord.{PortRecord}
use Rattle.chorus_entry.specs.Act.{held_port_of, message_of}
use Rattle.chorus_entry.specs.Command.{demands_a_site}
use Rattle.chorus_entry.specs.Dest.{group_in, site_in}
use Rattle.chorus_ui.specs.NameKind.{is_port, is_actor, is_group}
use Rattle.chorus_entry.specs.Kinds.{has_kinds_in_tag, has_kinds_in_dest}
use Rattle.chorus_entry.specs.MsgId.{same_id}
use Rattle.chorus_entry.proofs.Same.{same_id-self, from_same_id}
use Rattle.chorus_entry.specs.Ranges.{is_place_number, has_range_of_id, has_range_of_tag, has_ranges_of_message, is_route, is_demanded_site, has_ranges_of_answer, is_told, is_reported, has_range_of_client, has_ranges_of_clients, has_ranges_of_record, is_asked, has_ranges_of_cargo, has_ranges}
use Rattle.chorus_entry.specs.ClientTable.{are_distinct}
use Rattle.chorus_world.specs.declared.spot.Spot.{Spot}
use Rattle.chorus_world.specs.declared.spot.Spot.TheVariants as spots
use Rattle.chorus_world.specs.declared.place.Sent.{Sent}
use Rattle.chorus_world.specs.declared.progress.Progress.TheVariants.{Tried, Decided, Settled, Reported}
use Rattle.chorus_world.specs.Views.{views, at, on, about, is_on, is_about}
use Rattle.chorus_entry.specs.Order.{is_at}
use Rattle.chorus_entry.specs.Same.{is_number, are_same}
use Rattle.chorus_world.specs.Messages.{progress, progress_after}
use Rattle.chorus_world.specs.Ports.{PortState, fate, fate_after, last_of}
use Rattle.chorus_world.specs.Posts.{Posted, post_of, site_from, as_posted}
use Rattle.chorus_world.specs.Places.{last_clock, makes, is_made_here, hears, is_heard}
use Rattle.chorus_world.specs.Groups.{is_group_place}
use Rattle.chorus_world.specs.AcceptedLaws.{accepted_from, taken_from}
use Rattle.chorus_world.specs.Steps.{act_may, is_legal, is_asking_place, is_asked_from}
use Rattle.chorus_world.proofs.Steps.LegalLemmas.{legal_parts, keeps, on_is}
use Rattle.chorus_world.proofs.Ports.LineLemmas.{none_some}
use Rattle.chorus_world.proofs.Messages.SendingLemmas.{some_is, sent_as}
use Rattle.chorus_world.proofs.Messages.StageLemmas.{Stage}
use Rattle.chorus_world.proofs.Messages.Posted.{IsPosted, busy_posted, is_idle}
use Rattle.chorus_world.proofs.Ports.PortMoves.{make_new}
use Rattle.chorus_world.proofs.Ports.PortLaws.{keeps_to_capacity, receives_in_order}
use Rattle.chorus_world.proofs.Messages.MessageSteps.{legal_inv}
use Rattle.chorus_world.proofs.Messages.MessageInvariant.{legal_messages}
use Rattle.chorus_world.proofs.Sorted.Observers.{legal_laws}
use Rattle.chorus_world.proofs.Seats.CallFacts.{posted-kinds}
use Rattle.chorus_world.proofs.Messages.StageFacts.{StageFacts, keeps-stages}
use Rattle.chorus_world.proofs.Ports.Sites.{place-site}
use Rattle.chorus_world.proofs.Ports.Paths.{PathIn, Moves, path-in, IsOnItsWay}
use Rattle.chorus_world.proofs.Ports.MadePorts.{IsWellMade, MadeWell, ActorFits, made-well}
use Rattle.chorus_world.proofs.Messages.Ranged.{NamesPlaces, Teaches, ProgressFits, AllFit, all-fit, place-number}
use Rattle.chorus_world.proofs.Messages.Hearings.{stays-reported}
use Rattle.chorus_ports.specs.Table.{find}
use Rattle.law_machine.specs.declared.outgoing.Outgoing.{Outgoing}
use Rattle.law_machine.specs.Lawful.{is_under_way, is_known_answer, may_teach, may_receive, is_asked_here, is_lawful_cargo, is_lawful}
use Rattle.law_network.specs.Packets.{first_on}
use Rattle.law_network.specs.Network.{NetState, place}
use Rattle.law_network.specs.Records.{message, record_for, record_held, record_here}
use Rattle.law_network.specs.UnderWay.{carries, moves, is_with, other_place, far_place, route_in, transfer_in, transfer_of, transfer}
use Rattle.law_network.specs.Stands.{Stands}
use Rattle.law_network.proofs.Standing.Grows.{message-id}
use Rattle.law_network.proofs.Standing.Turning.{layout-is, number-is}
use Rattle.law_network.proofs.Links.UnderWays.{Seen, SeesTry, sees-try}
use Rattle.law_network.proofs.Groups.Asking.{SeesAsk, sees-ask}
use Rattle.law_network.proofs.Packets.Reporting.{SeesReport, sees-report, asking}
use Rattle.chorus_world.proofs.Ports.PortNames.{line-named}
use Rattle.law_network.proofs.Holdings.Packets.{IsIn, IsOn, first-is-on, in-view, moving-to}
use Rattle.law_network.specs.ByPlace.{IsBetweenPlaces}
use Rattle.law_network.proofs.Holdings.Passing.{packets-between}
use Rattle.law_network.proofs.Draining.Fronts.{legal-past, seen-here, is-told, told-queue}
use Rattle.law_network.proofs.Promises.Posts.{PostsFit, post-fits}
use Rattle.law_network.proofs.Promises.Kept.{IsKnown, accepted-known, table-fits}

-- What the parts of a packet are, by what was posted.

-- a message, as it was posted
pub message-ranged : (l : Layout) (past : List Entry) (x : MsgId) (d : Posted) → is_legal l past ≡ true → All PostsFit past → has_range_of_id x ≡ true → post_of x past ≡ Some d → has_ranges_of_message (message past x) ≡ true
message-ranged l past x d legal all id posted =
    let fits = post-fits x past d all posted in
    let two = and_parts (has_range_of_tag d.message.tag) (nat_le (length d.message.body) 4096) (and_parts (has_range_of_tag d.message.tag && nat_le (length d.message.body) 4096) (demands_a_site d.dest) fits).0 in
    let kinds = (posted-kinds l past x d legal posted).0 in
    ap (λ o. has_ranges_of_message (as_posted x o)) posted
    ∙ and_from (has_range_of_id x && has_range_of_tag d.message.tag && has_kinds_in_tag d.message.tag) (nat_le (length d.message.body) 4096)
    (and_from (has_range_of_id x && has_range_of_tag d.message.tag) (has_kinds_in_tag d.message.tag) (and_from (has_range_of_id x) (has_range_of_tag d.message.tag) id two.0) kinds) two.1

route-of-dest : (d : Dest) → has_kinds_in_dest d ≡ true → is_route (group_in d) ≡ true
route-of-dest (dests.Port q) h = refl
route-of-dest (dests.All g) h = h
route-of-dest (dests.One g) h = h
route-of-dest (dests.OneAt g s) h = h

site-of-dest : (d : Dest) → demands_a_site d ≡ true → is_demanded_site (site_in d) ≡ true
site-of-dest (dests.Port q) h = refl
site-of-dest (dests.All g) h = refl
site-of-dest (dests.One g) h = refl
site-of-dest (dests.OneAt g s) h = h

asked-of-dest : (d : Dest) (g : Ui) → group_in d ≡ Some g → has_kinds_in_dest d ≡ true → demands_a_site d ≡ true → is_asked d ≡ true
asked-of-dest (dests.Port q) g e k h = absurd (cc)
asked-of-dest (dests.All f) g e k h = k
asked-of-dest (dests.One f) g e k h = k
asked-of-dest (dests.OneAt f s) g e k h = and_from (is_group f) (demands_a_site (dests.OneAt f s)) k h

sent-route : (l : Layout) (past : List Entry) (x : MsgId) (p : ℕ) (m : Sent) → is_legal l past ≡ true → sent_as x p past ≡ Some m → is_route m.route ≡ true
sent-route l past x p m legal is =
    let o = (legal_messages l past legal x).origin p m is in
    ap is_route o.route ∙ route-of-dest (o.post).dest (posted-kinds l past x o.post legal o.posted).1

-- Answers.

known-answer : (l : Layout) (a : Answer) → NamesPlaces l a → is_known_answer l a ≡ true
known-answer l (A.Stale to hop) h = h
known-answer l (A.Elsewhere to hop) h = h
known-answer l (A.Accepted n) h = refl
known-answer l _ h = refl

teaches : (l : Layout) (q : Ui) (a : Answer) → Teaches l q a → may_teach l q a ≡ true
teaches l q (A.Stale to hop) h = and_from (can_make_port l q) (nat_le 1 hop) h.0 (le-leb 1 hop h.1)
teaches l q (A.Elsewhere to hop) h = and_from (can_make_port l q) (nat_le 1 hop) h.0 (le-leb 1 hop h.1)
teaches l q (A.Accepted n) h = refl
teaches l q _ h = refl

-- Ports.

-- where its name tells, a port that was made was made
made-here : (l : Layout) (past : List Entry) (q : Ui) (f : PortState) → IsLayout l → is_legal l past ≡ true → fate (on q past) ≡ Some f → is_made_here q (at (creation_place l q) past) ≡ true
made-here l [] q f shape h e = absurd (cc)
made-here l (z ∷ past) q f shape h e = go (is_on (Some q) z) refl e (λ g. made-here l past q g shape)
  where
    two : (act_may l (views past z.place z.seat z.act) z.place z.seat z.act ≡ true) × (is_legal l past ≡ true)
    two = legal_parts l z past h

    older : is_made_here q (at (creation_place l q) past) ≡ true → is_made_here q (at (creation_place l q) (z ∷ past)) ≡ true
    older k = by (is_at (creation_place l q) z)
      where
        by : (b : Bool) → is_made_here q (cond b (z ∷ at (creation_place l q) past) (at (creation_place l q) past)) ≡ true
        by true = or_right (makes q z.act) (is_made_here q (at (creation_place l q) past)) k
        by false = k

    on-line : (a : Act) → z.act ≡ a → (o : Option PortState) → fate (on q past) ≡ o → held_port_of a ≡ Some q → fate_after z.place a o ≡ Some f → ((g : PortState) → fate (on q past) ≡ Some g → is_made_here q (at (creation_place l q) past) ≡ true) → is_made_here q (at (creation_place l q) (z ∷ past)) ≡ true
    on-line (acts.Make r a c) is o was port k ih =
        let same : r ≡ q = some_is r q port in
        let may = subst (λ y. act_may l (views past z.place z.seat y) z.place z.seat y ≡ true) is two.0 in
        let new = make_new l past z.place z.seat r a c shape ((legal_inv l past shape two.1).ports r) may in
        let here : is_at (creation_place l q) z ≡ true = eq-eqb z.place (creation_place l q) (sym new.1 ∙ ap (creation_place l) same) in
        ap (is_made_here q) (keeps (is_at (creation_place l q)) z past here)
        ∙ or_left (makes q z.act) (is_made_here q (at (creation_place l q) past)) (ap (makes q) is ∙ ap (λ u. same_ui u q) same ∙ same_ui-self q)
    on-line a is None was port k ih = none_some f k
    on-line a is (Some g) was port k ih = older (ih g was)

    go : (b : Bool) → is_on (Some q) z ≡ b → fate (cond b (z ∷ on q past) (on q past)) ≡ Some f → ((g : PortState) → is_legal l past ≡ true → fate (on q past) ≡ Some g → is_made_here q (at (creation_place l q) past) ≡ true) → is_made_here q (at (creation_place l q) (z ∷ past)) ≡ true
    go true t k ih = on-line z.act refl (fate (on q past)) refl (on_is q (held_port_of z.act) t) k (λ g was. ih g two.1 was)
    go false t k ih = older (ih f two.1 k)

-- what a place heard of is reported
heard-reported : (l : Layout) (past : List Entry) (p : ℕ) (x : MsgId) → is_legal l past ≡ true → is_heard x (at p past) ≡ true → progress (about x past) ≡ Reported
heard-reported l [] p x legal h = absurd (false≢true h)
heard-reported l (e ∷ past) p x legal h = go (is_at p e) h (λ k. stays-reported l past e x legal (heard-reported l past p x (legal_parts l e past legal).1 k))
  where
    now : (a : Act) → e.act ≡ a → hears x a ≡ true → progress (about x (e ∷ past)) ≡ Reported
    now (acts.Heard y v) is k =
        let same : y ≡ x = from_same_id y x k in
        let on_it : is_about (Some x) e ≡ true = ap (λ a. are_same same_id (Some x) (message_of a)) is ∙ ap (same_id x) same ∙ same_id-self x in
        ap progress (keeps (is_about (Some x)) e past on_it) ∙ ap (λ a. progress_after e.place a (progress (about x past))) is
    now a is k = absurd (false≢true k)

    go : (b : Bool) → is_heard x (cond b (e ∷ at p past) (at p past)) ≡ true → (is_heard x (at p past) ≡ true → progress (about x (e ∷ past)) ≡ Reported) → progress (about x (e ∷ past)) ≡ Reported
    go false k ih = ih k
    go true k ih =
        elim (or_cases (hears x e.act) (is_heard x (at p past)) k) [
          | inl this ↦ now e.act refl this
          | inr older ↦ ih older
        ]

-- The packet that is worked off next.

in-all : (P : Outgoing → Type 0) (us : List Outgoing) (o : Outgoing) → All P us → IsIn o us → P o
in-all P [] o h i = absurd i
in-all P (u ∷ us) o h (inl same) = subst P same (All-head P u us h)
in-all P (u ∷ us) o h (inr later) = in-all P us o (All-tail P u us h) later

module _ (n : NetState) (past : List Entry) (shape : IsLayout n.layout) (s : Stands n past) (all : All PostsFit past) (a b : ℕ) (k : Packet) (first : first_on a b n.packets ≡ Some k) where
  -- the layout and the number of the place that it comes to
  abbrev l : Layout
  l = n.layout

  layout_at : (place b n).layout ≡ n.layout
  layout_at = layout-is n b s.places

  number_at : (place b n).number ≡ b
  number_at = number-is n.layout b n.places

  legal : is_legal n.layout past ≡ true
  legal = legal-past n past shape s

  fit : AllFit n.layout past
  fit = all-fit n.layout past shape legal s.causal

  on-way : IsOn a b k n.packets
  on-way = first-is-on a b n.packets k first

  from-a : k.from ≡ a
  from-a = ap (λ (z : Packet). z.from) (sym on-way.packet) ∙ on-way.from

  between : IsBetweenPlaces n.layout on-way.outgoing
  between = in-all (IsBetweenPlaces n.layout) n.packets on-way.outgoing (packets-between n past shape s) on-way.stands

  has-a : has_place n.layout a ≡ true
  has-a = ap (has_place n.layout) (sym on-way.from) ∙ between.has_from

  apart : (a == b) ≡ false
  apart = (λ i. (sym on-way.from i) == (sym on-way.to i)) ∙ between.apart

  -- the message of the packet
  module _ (x : MsgId) (mine : carries x k.cargo ≡ true) where
    here : Seen n.layout past x a b n.packets k
    here = seen-here n past shape s a b k first x mine

    cargo-is : (here.packet).packet.cargo ≡ k.cargo
    cargo-is = ap (λ (z : Packet). z.cargo) here.is

    clock-is : (here.packet).packet.clock ≡ k.clock
    clock-is = ap (λ (z : Packet). z.clock) here.is

    from-is : (here.packet).packet.from ≡ a
    from-is = ap (λ (z : Packet). z.from) here.is ∙ from-a

    posted : is_idle (progress (about x past)) ≡ false → IsPosted past x
    posted busy = busy_posted past x (legal_laws n.layout past shape legal).posted busy

  -- both: within the ranges, and lawful here
  abbrev Both : Cargo → Type 0
  Both c = (has_ranges_of_cargo k.clock c ≡ true) × (is_lawful_cargo k.clock a c (place b n) ≡ true)

  try-lawful : (m : Message) (q : Ui) (route_by : Option Ui) (only : Option ℕ) (hop : ℕ) → k.cargo ≡ cargos.Try m q route_by only hop → Both (cargos.Try m q route_by only hop)
  try-lawful m q r only hop e =
      let x = m.id in
      let mine : carries m.id k.cargo ≡ true = ap (carries m.id) e ∙ same_id-self m.id in
      let h = here x mine in
      let o = h.packet in
      let y : SeesTry past x (progress (about x past)) (last_clock (about x past)) o m q r only hop = sees-try n.layout past x (last_clock (about x past)) (progress (about x past)) o m q r only hop h.under (cargo-is x mine ∙ e) in
      let stage = y.stage in
      let facts : ProgressFits n.layout x (last_clock (about x past)) (Tried o.packet.from q o.to hop) = subst (ProgressFits n.layout x (last_clock (about x past))) stage (fit.messages x) in
      let stages : StageFacts n.layout past x (Tried o.packet.from q o.to hop) = subst (StageFacts n.layout past x) stage (keeps-stages n.layout past x shape legal) in
      let under : Stage x past (Tried o.packet.from q o.to hop) = subst (Stage x past) stage (legal_messages n.layout past legal x).stage in
      let d = posted x mine (ap is_idle stage) in
      let sender = under.1.message in
      let way : is_route r ≡ true = ap is_route (y.route ∙ ap route_in under.1.is) ∙ sent-route n.layout past x o.packet.from sender legal under.1.is in
      let site : is_demanded_site only ≡ true = ap is_demanded_site (y.site ∙ ap site_from d.1) ∙ site-of-dest (d.0).dest (and_parts (has_range_of_tag (d.0).message.tag && nat_le (length (d.0).message.body) 4096) (demands_a_site (d.0).dest) (post-fits x past d.0 all d.1)).1 in
      let le = facts.1 in
      let c1 = y.clock_is in
      let c2 = clock-is x mine in
      let low : nat_le hop k.clock ≡ true = le-leb hop k.clock (omega (arith, le, c1, c2)) in
      let msg : has_ranges_of_message m ≡ true = ap has_ranges_of_message y.message ∙ message-ranged n.layout past x d.0 legal all facts.0 d.1 in (
        and_from (is_route r && is_demanded_site only && nat_le hop k.clock && is_port q) (has_ranges_of_message m)
            (and_from (is_route r && is_demanded_site only && nat_le hop k.clock) (is_port q)
            (and_from (is_route r && is_demanded_site only) (nat_le hop k.clock) (and_from (is_route r) (is_demanded_site only) way site) low) stages.0) msg,
        ap (λ (z : Layout). has_site z q.site) layout_at ∙ facts.2,
      )

  verdict-lawful : (x : MsgId) (q : Ui) (r : Option Ui) (v : Answer) → k.cargo ≡ cargos.Verdict x q r v → Both (cargos.Verdict x q r v)
  verdict-lawful x q r v e =
      let t = is-told n past shape s a b k first x q r v e in
      let facts : ProgressFits n.layout x (last_clock (about x past)) (Decided b k.from q v) = subst (ProgressFits n.layout x (last_clock (about x past))) t.stage (fit.messages x) in
      let way : is_route r ≡ true = ap is_route (sym t.way) ∙ sent-route n.layout past x b t.sender legal t.sent in
      let ranges : has_ranges_of_answer k.clock v ≡ true = ap (λ c. has_ranges_of_answer c v) t.clock ∙ (facts.1).ranges in
      let queue = told-queue n past shape s a b k first x q r v t in
      let head : same_id (message past (t.head).id).id x ≡ true = ap (λ z. same_id z x) (message-id past (t.head).id ∙ t.id) ∙ same_id-self x in
      let from_here : (k.from == a) ≡ true = eq-eqb k.from a from-a in
      let way_back : is_under_way x a ((place b n).waiting (record { port = q; route = r })) ≡ true = ap (is_under_way x a) queue ∙ and_from (same_id (message past (t.head).id).id x) (k.from == a) head from_here in (
        and_from (has_range_of_id x && is_port q && is_route r && is_told v) (has_ranges_of_answer k.clock v)
            (and_from (has_range_of_id x && is_port q && is_route r) (is_told v)
            (and_from (has_range_of_id x && is_port q) (is_route r) (and_from (has_range_of_id x) (is_port q) facts.0 t.named) way) facts.2) ranges,
        and_from (is_under_way x a ((place b n).waiting (record { port = q; route = r })) && is_known_answer (place b n).layout v) (may_teach (place b n).layout q v)
            (and_from (is_under_way x a ((place b n).waiting (record { port = q; route = r }))) (is_known_answer (place b n).layout v) way_back (ap (λ (z : Layout). is_known_answer z v) layout_at ∙ known-answer n.layout v (facts.1).places))
            (ap (λ (z : Layout). may_teach z q v) layout_at ∙ teaches n.layout q v facts.3),
      )

  ask-lawful : (m : Message) (d : Dest) → k.cargo ≡ cargos.Ask m d → Both (cargos.Ask m d)
  ask-lawful m d e =
      let x = m.id in
      let mine : carries m.id k.cargo ≡ true = ap (carries m.id) e ∙ same_id-self m.id in
      let h = here x mine in
      let o = h.packet in
      let y : SeesAsk n.layout past x (progress (about x past)) (last_clock (about x past)) o m d = sees-ask n.layout past x (last_clock (about x past)) (progress (about x past)) o m d h.under (cargo-is x mine ∙ e) in
      let stage = y.stage in
      let id : has_range_of_id x ≡ true = subst (ProgressFits n.layout x (last_clock (about x past))) stage (fit.messages x) in
      let asked = (subst (Stage x past) stage (legal_messages n.layout past legal x).stage).1 in
      let post = asked.post in
      let kinds : has_kinds_in_dest d ≡ true = ap has_kinds_in_dest (sym asked.dest) ∙ (posted-kinds n.layout past x post legal asked.posted).1 in
      let site : demands_a_site d ≡ true = ap demands_a_site (sym asked.dest) ∙ (and_parts (has_range_of_tag post.message.tag && nat_le (length post.message.body) 4096) (demands_a_site post.dest) (post-fits x past post all asked.posted)).1 in
      let msg : has_ranges_of_message m ≡ true = ap has_ranges_of_message y.message ∙ message-ranged n.layout past x post legal all id asked.posted in
      let g = grouped o.packet.from o.to (group_in d) y.far in (
        and_from (is_asked d) (has_ranges_of_message m) (asked-of-dest d g.0 g.1.0 kinds site) msg,
        ap (λ z. is_asked_here z (place b n)) g.1.0 ∙ (λ i. is_group_place (layout_at i) g.0 (number_at i)) ∙ ap (is_number b) g.1.1 ∙ eq-eqb o.to b h.to,
      )
    where
      grouped : (home to : ℕ) (o : Option Ui) → far_place n.layout home o ≡ Some to → (g : Ui) × ((o ≡ Some g) × (group_place n.layout g ≡ Some to))
      grouped home to None f = absurd (cc)
      grouped home to (Some g) f = (g, (refl, by (group_place n.layout g) f))
        where
          by : (p : Option ℕ) → other_place home p ≡ Some to → p ≡ Some to
          by None i = absurd (cc)
          by (Some p) i = same (p == home) i
            where
              same : (c : Bool) → cond c None (Some p) ≡ Some to → Some p ≡ Some to
              same true i = absurd (cc)
              same false i = i

  report-lawful : (x : MsgId) (v : Answer) → k.cargo ≡ cargos.Report x v → Both (cargos.Report x v)
  report-lawful x v e =
      let mine : carries x k.cargo ≡ true = ap (carries x) e ∙ same_id-self x in
      let h = here x mine in
      let o = h.packet in
      let y : SeesReport n.layout past x (progress (about x past)) (last_clock (about x past)) o v = sees-report n.layout past x (last_clock (about x past)) (progress (about x past)) o v h.under (cargo-is x mine ∙ e) in
      let facts : ProgressFits n.layout x (last_clock (about x past)) (Settled v) = subst (ProgressFits n.layout x (last_clock (about x past))) y.stage (fit.messages x) in
      let ranges : has_ranges_of_answer k.clock v ≡ true = ap (λ c. has_ranges_of_answer c v) (sym (clock-is x mine) ∙ y.clock_is) ∙ (facts.1).ranges in
      let post = y.post in
      let home : post.place ≡ b = y.home ∙ h.to in
      let asked : is_asked_from n.layout b (post_of x past) ≡ true = ap (is_asked_from n.layout b) y.posted
      ∙ and_from (post.place == b) (is_asking_place n.layout b (group_in post.dest)) (eq-eqb post.place b home) (ap (λ z. is_asking_place n.layout z (group_in post.dest)) (sym home) ∙ asking n.layout post.place o.packet.from (group_in post.dest) y.far) in
      let unheard : (place b n).unheard x ≡ true = s.unheard b x ∙ and_from (is_asked_from n.layout b (post_of x past)) (not (is_heard x (at b past))) asked (not-heard y.stage) in (
        and_from (has_range_of_id x && is_reported v) (has_ranges_of_answer k.clock v) (and_from (has_range_of_id x) (is_reported v) facts.0 facts.2) ranges,
        and_from ((place b n).unheard x) (is_known_answer (place b n).layout v) unheard (ap (λ (z : Layout). is_known_answer z v) layout_at ∙ known-answer n.layout v (facts.1).places),
      )
    where
      not-heard : progress (about x past) ≡ Settled v → not (is_heard x (at b past)) ≡ true
      not-heard stage = go (is_heard x (at b past)) refl
        where
          go : (c : Bool) → is_heard x (at b past) ≡ c → not c ≡ true
          go false t = refl
          go true t = absurd (let bad : Settled v ≡ Reported = sym stage ∙ heard-reported n.layout past b x legal t in cc)

  -- A Transfer.

  -- the port is on its way by this packet
  record IsMoved (o : Outgoing) (port : PortRecord) : Type 0 where
    moved : PortState
    actor : Ui
    made : fate (on port.ui past) ≡ Some moved
    spot : moved.spot ≡ spots.Moving actor
    record_is : port ≡ record_for past (on port.ui past) port.ui actor moved
    to : o.to ≡ last_of 0 moved.path
    clock : o.packet.clock ≡ last_clock (on port.ui past)

  is-moved : (o : Outgoing) (port : PortRecord) → o.packet.cargo ≡ cargos.Transfer port → IsIn o (transfer past port.ui) → IsMoved o port
  is-moved o port e i = go (fate (on port.ui past)) refl i
    where
      by-spot : (f : PortState) (spot : Spot) → fate (on port.ui past) ≡ Some f → f.spot ≡ spot → IsIn o (transfer_in past (on port.ui past) port.ui f spot) → IsMoved o port
      by-spot f (spots.Held w) g z j = absurd j
      by-spot f spots.Ended g z j = absurd j
      by-spot f (spots.Moving w) g z (inr j) = absurd j
      by-spot f (spots.Moving w) g z (inl same) =
          let cargo : cargos.Transfer (record_for past (on port.ui past) port.ui w f) ≡ cargos.Transfer port = ap (λ (u : Outgoing). u.packet.cargo) same ∙ e in
          let is : record_for past (on port.ui past) port.ui w f ≡ port = cc in
          record {
            moved = f;
            actor = w;
            made = g;
            spot = z;
            record_is = sym is;
            to = sym (ap (λ (u : Outgoing). u.to) same);
            clock = sym (ap (λ (u : Outgoing). u.packet.clock) same);
          }

      go : (c : Option PortState) → fate (on port.ui past) ≡ c → IsIn o (transfer_of past (on port.ui past) port.ui c) → IsMoved o port
      go None g j = absurd j
      go (Some f) g j = by-spot f f.spot g refl j

  pending-ranged : (xs : List MsgId) → All (IsKnown past) xs → list_all has_ranges_of_message (map (message past) xs) ≡ true
  pending-ranged [] h = refl
  pending-ranged (x ∷ xs) h =
      let one = All-head (IsKnown past) x xs h in
      and_from (has_ranges_of_message (message past x)) (list_all has_ranges_of_message (map (message past) xs))
      (message-ranged n.layout past x one.1.0 legal all one.0 one.1.1) (pending-ranged xs (All-tail (IsKnown past) x xs h))

  -- a port q with the fate f, on its way to the actor w at this place
  module _ (q w : Ui) (f : PortState) (made : fate (on q past) ≡ Some f) (spot : f.spot ≡ spots.Moving w) (to : b ≡ last_of 0 f.path) (clock : k.clock ≡ last_clock (on q past)) where
    abbrev brought : PortRecord
    brought = record_for past (on q past) q w f

    well : IsWellMade n.layout q f (on q past)
    well = subst (λ o. MadeWell n.layout q o (on q past)) made (made-well n.layout past q shape legal s.causal)

    actor-fits : (is_actor w ≡ true) × (has_actor n.layout w ≡ true)
    actor-fits = subst (ActorFits n.layout) spot well.actor

    on-its-way : IsOnItsWay n.layout q w f.path
    on-its-way = subst (Moves n.layout q f.path) spot (subst (PathIn n.layout q) made (path-in n.layout past q shape legal)).1

    taken-some : f.taken ≤ length f.accepted
    taken-some = subst (λ o. taken_from o ≤ length (accepted_from o)) made (receives_in_order n.layout past q shape legal).1

    capacity : (length f.accepted ≤ f.taken + f.capacity) × (1 ≤ f.capacity) × (f.capacity ≤ 64)
    capacity =
        let kept = keeps_to_capacity n.layout past shape legal q f made in
        (kept.1, kept.2, kept.3)

    waits : length (map (message past) (drop f.taken f.accepted)) ≡ length f.accepted - f.taken
    waits = length-map (drop f.taken f.accepted) (message past) ∙ length-drop f.taken f.accepted

    place-is : n.layout ≡ n.layout → b ≡ place_at n.layout w.site q
    place-is z = to ∙ (moving-to n.layout q w f.path on-its-way).1 ∙ on-its-way.place

    site : has_site n.layout w.site ≡ true
    site = (and_parts (has_site n.layout w.site) (nat_le 1 w.number) (and_parts (has_site n.layout w.site && nat_le 1 w.number) (nat_le w.number ACTORS_PER_SITE_LIMIT) actor-fits.1).0).0

    site-is : site_of n.layout b ≡ w.site
    site-is = ap (site_of n.layout) (place-is refl) ∙ place-site n.layout w.site q shape site

    brought-ranged : has_ranges_of_record k.clock brought ≡ true
    brought-ranged =
        let c = well.clock in
        let cap = capacity.0 in
        let table = table-fits n.layout past q shape legal all in
        let known : All (IsKnown past) f.accepted = subst (λ o. All (IsKnown past) (accepted_from o)) made (accepted-known n.layout past q shape legal s.causal) in
        let some = well.some in
        let taken_le = taken-some in
        let long = waits in
        let names = line-named n.layout past q f legal made in
        let hop_low : nat_le (length f.path - 1) k.clock ≡ true = le-leb (length f.path - 1) k.clock (omega (arith, c, clock)) in
        let first_low : nat_le f.taken k.clock ≡ true = le-leb f.taken k.clock (omega (arith, c, clock, taken_le)) in
        let few : nat_le (length (map (message past) (drop f.taken f.accepted))) f.capacity ≡ true = le-leb (length (map (message past) (drop f.taken f.accepted))) f.capacity (omega (arith, long, cap)) in
        let msgs = pending-ranged (drop f.taken f.accepted) (All-drop (IsKnown past) f.taken f.accepted known) in
        let small : nat_le 1 f.capacity && nat_le f.capacity 64 ≡ true = and_from (nat_le 1 f.capacity) (nat_le f.capacity 64) (le-leb 1 f.capacity capacity.1) (le-leb f.capacity 64 capacity.2) in
        let clients : has_ranges_of_clients (clients_kept past (on q past)) ≡ true =
        and_from (nat_le (length (clients_kept past (on q past))) 64 && are_distinct (clients_kept past (on q past))) (list_all has_range_of_client (clients_kept past (on q past)))
        (and_from (nat_le (length (clients_kept past (on q past))) 64) (are_distinct (clients_kept past (on q past))) (le-leb (length (clients_kept past (on q past))) 64 table.few) table.distinct) table.some in
        and_from _ (has_ranges_of_clients (clients_kept past (on q past)))
        (and_from _ (list_all has_ranges_of_message (map (message past) (drop f.taken f.accepted)))
        (and_from _ (nat_le (length (map (message past) (drop f.taken f.accepted))) f.capacity)
        (and_from _ (nat_le f.taken k.clock)
        (and_from _ (nat_le (length f.path - 1) k.clock)
        (and_from (is_port q && is_actor w) (nat_le 1 f.capacity && nat_le f.capacity 64)
        (and_from (is_port q) (is_actor w) names actor-fits.0) small) hop_low) first_low) few) msgs) clients

    not-held : is_none (find q (place b n).ports) ≡ true
    not-held = ap is_none (s.ports b q ∙ ap (record_here past (on q past) q b) made ∙ ap (record_held past (on q past) q b f) spot)

    made-there : not (creation_place n.layout q == b) || is_made_here q (at b past) ≡ true
    made-there = go (creation_place n.layout q == b) refl
      where
        go : (c : Bool) → (creation_place n.layout q == b) ≡ c → not c || is_made_here q (at b past) ≡ true
        go false t = refl
        go true t = subst (λ p. is_made_here q (at p past) ≡ true) (eqb-true (creation_place n.layout q) b t) (made-here n.layout past q f shape legal made)

    brought-received : may_receive k.clock brought (place b n) ≡ true
    brought-received =
        let c = well.clock in
        let taken_le = taken-some in
        let long = waits in
        let path : length f.path ≡ length on-its-way.front + 2 = ap length on-its-way.is ∙ length-append on-its-way.front (on-its-way.from ∷ on-its-way.to ∷ []) in
        let hop_some : nat_le 1 (length f.path - 1) ≡ true = le-leb 1 (length f.path - 1) (omega (arith, path)) in
        let all_low : nat_le (f.taken + length (map (message past) (drop f.taken f.accepted))) k.clock ≡ true = le-leb (f.taken + length (map (message past) (drop f.taken f.accepted))) k.clock (omega (arith, c, clock, taken_le, long)) in
        let where_to : (place_at n.layout (site_of n.layout b) q == b) ≡ true = eq-eqb (place_at n.layout (site_of n.layout b) q) b (ap (λ z. place_at n.layout z q) site-is ∙ sym (place-is refl)) in
        let on_site : (w.site == site_of n.layout b) ≡ true = eq-eqb w.site (site_of n.layout b) (sym site-is) in
        let lay = layout_at in
        let num = number_at in
        and_from _ (nat_le (f.taken + length (map (message past) (drop f.taken f.accepted))) k.clock)
        (and_from _ (not (creation_place (place b n).layout q == (place b n).number) || is_made_here q (place b n).journal)
        (and_from _ (nat_le 1 (length f.path - 1))
        (and_from _ (w.site == site_of (place b n).layout (place b n).number)
        (and_from _ (has_actor (place b n).layout w)
        (and_from _ (is_none (find q (place b n).ports))
        (and_from (can_make_port (place b n).layout q) (place_at (place b n).layout (site_of (place b n).layout (place b n).number) q == (place b n).number)
        (ap (λ (z : Layout). can_make_port z q) lay ∙ well.listed) ((λ i. place_at (lay i) (site_of (lay i) (num i)) q == num i) ∙ where_to))
        not-held) (ap (λ (z : Layout). has_actor z w) lay ∙ actor-fits.1)) ((λ i. w.site == site_of (lay i) (num i)) ∙ on_site)) hop_some)
        ((λ i. not (creation_place (lay i) q == num i) || is_made_here q (s.journal b i)) ∙ made-there)) all_low

  transfer-lawful : (port : PortRecord) → k.cargo ≡ cargos.Transfer port → Both (cargos.Transfer port)
  transfer-lawful port e =
      let o = on-way.outgoing in
      let cargo : o.packet.cargo ≡ cargos.Transfer port = ap (λ (z : Packet). z.cargo) on-way.packet ∙ e in
      let inside : IsIn o (transfer past port.ui) = subst (IsIn o) (s.transfers port.ui) (in-view (is_with port.ui) o n.packets (ap (moves port.ui) cargo ∙ same_ui-self port.ui) on-way.stands) in
      let m = is-moved o port cargo inside in
      let to : b ≡ last_of 0 (m.moved).path = sym on-way.to ∙ m.to in
      let clock : k.clock ≡ last_clock (on port.ui past) = ap (λ (z : Packet). z.clock) (sym on-way.packet) ∙ m.clock in (
        ap (has_ranges_of_record k.clock) m.record_is ∙ brought-ranged port.ui m.actor m.moved m.made m.spot to clock,
        ap (λ r. may_receive k.clock r (place b n)) m.record_is ∙ brought-received port.ui m.actor m.moved m.made m.spot to clock,
      )

  both-lawful : Both k.cargo
  both-lawful = go k.cargo refl
    where
      go : (c : Cargo) → k.cargo ≡ c → Both c
      go (cargos.Try m q r only hop) e = try-lawful m q r only hop e
      go (cargos.Verdict x q r v) e = verdict-lawful x q r v e
      go (cargos.Transfer port) e = transfer-lawful port e
      go (cargos.Ask m d) e = ask-lawful m d e
      go (cargos.Report x v) e = report-lawful x v e

  pub lawful-here : is_lawful a k (place b n) ≡ true
  lawful-here =
      let both = both-lawful in
      let away : not (a == (place b n).number) ≡ true = ap (λ z. not (a == z)) number_at ∙ ap not apart in
      let ranges : has_ranges k ≡ true = and_from (is_place_number k.from) (has_ranges_of_cargo k.clock k.cargo) (ap is_place_number from-a ∙ place-number n.layout a shape has-a) both.0 in
      and_from ((k.from == a) && not (a == (place b n).number) && has_place (place b n).layout a && has_ranges k) (is_lawful_cargo k.clock a k.cargo (place b n))
      (and_from ((k.from == a) && not (a == (place b n).number) && has_place (place b n).layout a) (has_ranges k)
      (and_from ((k.from == a) && not (a == (place b n).number)) (has_place (place b n).layout a)
      (and_from (k.from == a) (not (a == (place b n).number)) (eq-eqb k.from a from-a) away) (ap (λ (z : Layout). has_place z a) layout_at ∙ has-a)) ranges) both.1
