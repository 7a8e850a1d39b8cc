-- Each legal list keeps the promises.
use Rattle.std.proofs.Common.{ℕ, ◌≡◌, ◌≢◌, ◌==◌, ◌+◌, ◌-◌, ◌<◌, ◌≤◌, nat_le, nat_lt, Bool, true, false, not, ◌&&◌, ◌||◌, ◌⊎◌, cond, List, [], ◌∷◌, length, find, Option, Some, None, is_none, is_some, refl, sym, ◌∙◌, ap, subst, arith, inl, inr}
use Rattle.std.specs.List.{slice_get}
use Rattle.std.specs.Option.{option_or}
use Rattle.std.proofs.lemmas.Bool.{and_from, and_parts, cases_Bool, eq-eqb, eqb-true, false≢true, false_from_ne_true, lt-ltb, not-true, not_from_false, or_cases}
use Rattle.chorus_ui.specs.declared.ui.Ui.{Ui}
use Rattle.chorus_ui.specs.declared.layout.Layout.{Layout}
use Rattle.chorus_ui.specs.declared.limits.TheConstants.{PENDING_LIMIT}
use Rattle.chorus_ui.specs.Layout.{IsLayout, has_actor, has_place, has_site, place_at, site_of}
use Rattle.chorus_ui.specs.Name.{same_ui}
use Rattle.chorus_ui.proofs.Names.{same_ui-self}
use Rattle.chorus_entry.specs.declared.entry.Entry.{Entry}
use Rattle.chorus_entry.specs.declared.id.MsgId.{MsgId}
use Rattle.chorus_entry.specs.declared.message.Message.{Message}
use Rattle.chorus_entry.specs.declared.dest.Dest.{Dest}
use Rattle.chorus_entry.specs.declared.dest.Dest.TheVariants as dests
use Rattle.chorus_entry.specs.declared.tag.Tag.{Tag}
use Rattle.chorus_entry.specs.declared.tag.Tag.TheVariants.{Plain, Request, Reply}
use Rattle.chorus_entry.specs.declared.act.Act.{Act}
use Rattle.chorus_entry.specs.declared.act.Act.TheVariants.{Make, Post, Accept, Full, Already, ClientsFull, Early, NoPort, Elsewhere, NoMember, Choose, Take, Depart, Arrive, Delete, Gone}
use Rattle.chorus_entry.specs.Act.{held_port_of, is_decision, is_verdict, message_of, port_of}
use Rattle.chorus_entry.specs.Clients.{is_one_too_many}
use Rattle.chorus_entry.specs.Dest.{group_in}
use Rattle.chorus_entry.specs.Members.{are_distinct, first_of, is_member, listed}
use Rattle.chorus_entry.specs.MsgId.{same_id}
use Rattle.chorus_entry.specs.Same.{are_same}
use Rattle.chorus_world.specs.declared.place.Sent.{Sent}
use Rattle.chorus_world.specs.Clients.{clients_kept, finds_clients_full, is_already}
use Rattle.chorus_world.specs.GroupLaws.{is_functional}
use Rattle.chorus_world.specs.Groups.{choice, chooses, in_turn, is_at_site, is_chosen}
use Rattle.chorus_world.specs.Messages.{verdict}
use Rattle.chorus_world.specs.Places.{is_first, is_location, last_clock, located}
use Rattle.chorus_world.specs.Ports.{PortState, are_waiting, fate, fate_after, has_room, is_coming, is_ended_at, is_first_waiting, is_full, is_held_at, is_made, is_next_hop, waiting}
use Rattle.chorus_world.specs.Posts.{Posted, posted_in, site_asked, tag_of}
use Rattle.chorus_world.specs.Steps.{act_may, due, is_beyond, is_due, is_due_with, is_early, is_elsewhere, is_full_of_ports, is_home, is_legal, may_enter, meets, next_number}
use Rattle.chorus_world.specs.Views.{about, at, by, is_about, is_on, on, views}
use Rattle.chorus_world.proofs.Groups.MemberLemmas.{AreDistinct, choose_members, chosen_distinct}
use Rattle.chorus_world.proofs.Messages.AcceptedLemmas.{due_waits}
use Rattle.chorus_world.proofs.Messages.DueLemmas.{enters}
use Rattle.chorus_world.proofs.Messages.MessageInvariant.{legal_messages}
use Rattle.chorus_world.proofs.Messages.PostLemmas.{ChoiceNeeds, asked_facts, choose_needs, no_member_needs, own_source, post_needs}
use Rattle.chorus_world.proofs.Messages.SendingLemmas.{same_id_sym}
use Rattle.chorus_world.proofs.Messages.SentFacts.{legal-kinds}
use Rattle.chorus_world.proofs.Messages.VerdictLemmas.{decision_due, verdict_about, verdict_open}
use Rattle.chorus_world.proofs.Ports.LineLemmas.{none_some}
use Rattle.chorus_world.proofs.Messages.MessageSteps.{legal_inv}
use Rattle.chorus_world.proofs.Ports.MadePorts.{clock-some}
use Rattle.chorus_world.proofs.Ports.PortMoves.{make_new}
use Rattle.chorus_world.proofs.Ports.Sites.{place-inside, place-site}
use Rattle.chorus_world.proofs.Steps.LegalLemmas.{keeps, legal_parts, on_is, skips}
use Rattle.chorus_checker.specs.Rules.{act_number}
use Rattle.checker_rows.specs.declared.sending.Sending.{Sending}
use Rattle.checker_rows.specs.Messages.{sending, sent_from}
use Rattle.checker_ledger.proofs.SendLemmas.{sent_is}
use Rattle.judge_rules.specs.About.{is_request}
use Rattle.judge_rules.specs.Terms.{accepted_so_far, has_space, taken_so_far}
use Rattle.judge_promises.specs.declared.breach.Breach.{Breach}
use Rattle.judge_promises.specs.Terms.{departed, goes_to, is_coming_to, is_deleted, is_for, is_read, is_to_group, last_number, posted_to_group, read, waits_first}
use Rattle.judge_promises.specs.Terms as terms
use Rattle.judge_promises.specs.Conditions.{are_members, conditions, is_single, timely}
use Rattle.judge_promises.specs.Breaches.{breach, breach_by, failing, keeps_promises}
use Rattle.judge_promises.specs.Laws.{LegalListsKeepThePromises}
use Rattle.judge_promises.proofs.Reading.{chosen-read, clock-read, number-read, posted-read, sending-read, site-read, tag-read, verdict-read}
use Rattle.judge_promises.proofs.Ports.{coming-read, coming-to-read, deleted-read, departed-read, first-read, full-read, held-read, made-read, next-hop-read, so-far-read, space-read, taken-read, waiting-read}
use Rattle.judge_promises.proofs.Accepting.{in-order, new-request, old-request}

-- each condition of a list holds
abbrev pub AreTrue : List Bool → Type 0
AreTrue [] = Unit {0}
AreTrue (b ∷ bs) = (b ≡ true) × AreTrue bs

none-fails : (rule n : ℕ) (bs : List Bool) → AreTrue bs → failing rule n bs ≡ None
none-fails rule n [] h = refl
none-fails rule n (b ∷ bs) h =
    let failed : Breach = record { rule = rule; condition = n } in
    ap (λ c. cond c (failing rule (n + 1) bs) (Some failed)) h.0 ∙ none-fails rule (n + 1) bs h.1

-- What decisions and choices need.

chooses-other : (x : MsgId) (a : Act) → are_same same_id (Some x) (message_of a) ≡ false → chooses x a ≡ false
chooses-other x (Choose y g qs) h = same_id_sym y x ∙ h
chooses-other x (NoMember y g) h = same_id_sym y x ∙ h
chooses-other x _ h = refl

chosen-about : (x : MsgId) (past : List Entry) → is_chosen x past ≡ is_chosen x (about x past)
chosen-about x [] = refl
chosen-about x (e ∷ past) =
    elim (cases_Bool (is_about (Some x) e)) [
      | inl t ↦ ap (λ b. chooses x e.act || b) (chosen-about x past) ∙ sym (ap (is_chosen x) (keeps (is_about (Some x)) e past t))
      | inr n ↦ ap (λ b. b || is_chosen x past) (chooses-other x e.act n) ∙ (chosen-about x past ∙ sym (ap (is_chosen x) (skips (is_about (Some x)) e past n)))
    ]

-- what a place sent to a port goes to it
sent-goes : (w : ℕ) (x : MsgId) (q : Ui) (m : Sent) (o : Option Sending) → sent_from w x o ≡ Some m → m.port ≡ q → is_for q o ≡ true
sent-goes w x q m None h port = none_some m h
sent-goes w x q m (Some s) h port = by (w == s.place) h
  where
    made : Sent
    made = record { id = x; port = s.port; route = s.route }

    by : (b : Bool) → cond b (Some made) None ≡ Some m → same_ui s.port q ≡ true
    by true h =
        let same : made ≡ m = cc in
        let to : s.port ≡ q = ap (λ (z : Sent). z.port) same ∙ port in
        ap (λ z. same_ui z q) to ∙ same_ui-self q
    by false h = none_some m h

group-is : (g : Ui) (m : Posted) (o : Option Posted) → o ≡ Some m → group_in m.dest ≡ Some g → is_to_group g o ≡ true
group-is g m o is group = ap (is_to_group g) is ∙ (ap (are_same same_ui (Some g)) group ∙ same_ui-self g)

are-distinct : (qs : List Ui) → AreDistinct qs → are_distinct qs ≡ true
are-distinct [] h = refl
are-distinct (q ∷ qs) h = and_from (not (is_member q qs)) (are_distinct qs) (not_from_false (is_member q qs) h.0) (are-distinct qs h.1)

-- one is chosen where a post goes to one
listed-one : (o : Option Ui) → 0 < length (listed o) → (length (listed o) == 1) ≡ true
listed-one None h = absurd (omega (arith, h))
listed-one (Some q) h = refl

one-chosen : (l : Layout) (d : Dest) (here : List Entry) (qs : List Ui) → qs ≡ choice l d here → 0 < length qs → not (is_functional d) || (length qs == 1) ≡ true
one-chosen l (dests.Port q) here qs is some = refl
one-chosen l (dests.All g) here qs is some = refl
one-chosen l (dests.One g) here qs is some =
    ap (λ (z : List Ui). length z == 1) is ∙ listed-one (first_of (in_turn g here)) (subst (λ (z : List Ui). 0 < length z) is some)
one-chosen l (dests.OneAt g s) here qs is some =
    ap (λ (z : List Ui). length z == 1) is ∙ listed-one (find (is_at_site l s here) (in_turn g here)) (subst (λ (z : List Ui). 0 < length z) is some)

-- What acts on ports need.

made-still : (p : ℕ) (a : Act) (o : Option PortState) → is_made (fate_after p a o) ≡ true → (is_made o ≡ true) ⊎ ((q : Ui) × (b : Ui) × (n : ℕ) × (a ≡ Make q b n))
made-still p (Make q b n) o h = inr (q, b, n, refl)
made-still p _ (Some f) h = inl refl
made-still p _ None h = absurd (false≢true h)

-- a port that is made has a site of the layout
made-site : (l : Layout) (past : List Entry) (q : Ui) → is_legal l past ≡ true → is_made (fate (on q past)) ≡ true → has_site l q.site ≡ true
made-site l [] q h m = absurd (false≢true m)
made-site l (e ∷ past) q h m =
    let two = legal_parts l e past h in
    elim (cases_Bool (is_on (Some q) e)) [
      | inr n ↦ made-site l past q two.1 (sym (ap (λ es. is_made (fate es)) (skips (is_on (Some q)) e past n)) ∙ m)
      | inl t ↦ elim (made-still e.place e.act (fate (on q past)) (sym (ap (λ es. is_made (fate es)) (keeps (is_on (Some q)) e past t)) ∙ m)) [
        | inl old ↦ made-site l past q two.1 old
        | inr new ↦ (
            let r = new.0 in
            let a = new.1 in
            let n = new.2 in
            let named : Some r ≡ Some q = ap held_port_of (sym new.3) ∙ on_is q (held_port_of e.act) t in
            let same : r ≡ q = cc in
            let may : act_may l (views past e.place e.seat (Make r a n)) e.place e.seat (Make r a n) ≡ true = subst (λ z. act_may l (views past e.place e.seat z) e.place e.seat z ≡ true) new.3 two.0 in
            let here = at e.place past in
            let five = and_parts (is_home l a e.place && nat_le 1 n && nat_le n PENDING_LIMIT && not (is_full_of_ports l here) && (r.site == a.site)) (r.number == next_number l e.place here) may in
            let four = and_parts (is_home l a e.place && nat_le 1 n && nat_le n PENDING_LIMIT && not (is_full_of_ports l here)) (r.site == a.site) five.0 in
            let three = and_parts (is_home l a e.place && nat_le 1 n && nat_le n PENDING_LIMIT) (not (is_full_of_ports l here)) four.0 in
            let two = and_parts (is_home l a e.place && nat_le 1 n) (nat_le n PENDING_LIMIT) three.0 in
            let one = and_parts (is_home l a e.place) (nat_le 1 n) two.0 in
            let home = (and_parts (has_actor l a) (place_at l a.site a == e.place) one.0).0 in
            let site = (actor-site l a home) in
            subst (λ (z : Ui). has_site l z.site ≡ true) same (ap (has_site l) (eqb-true r.site a.site four.1) ∙ site))
      ]
    ]
  where
    actor-site : (l : Layout) (a : Ui) → has_actor l a ≡ true → has_site l a.site ≡ true
    actor-site l a h = (and_parts (has_site l a.site) (nat_le 1 a.number) (and_parts (has_site l a.site && nat_le 1 a.number) _ h).0).0

room-parts : (n : ℕ) (o : Option PortState) → has_room n o ≡ true → (has_space o ≡ true) × (accepted_so_far n o ≡ true)
room-parts n None h = absurd (false≢true h)
room-parts n (Some f) h = and_parts (nat_lt (waiting f) f.capacity) (n == length f.accepted) h

first-parts : (n : ℕ) (x : MsgId) (o : Option PortState) → is_first_waiting n x o ≡ true → (waits_first x o ≡ true) × (taken_so_far n o ≡ true)
first-parts n x None h = absurd (false≢true h)
first-parts n x (Some f) h =
    let two = and_parts (n == f.taken) (are_same same_id (Some x) (slice_get f.accepted n)) h in
    (ap (λ i. are_same same_id (Some x) (slice_get f.accepted i)) (sym (eqb-true n f.taken two.0)) ∙ two.1, two.0)

coming-parts : (p hop : ℕ) (o : Option PortState) → is_coming p hop o ≡ true → (is_coming_to p o ≡ true) × (departed hop o ≡ true)
coming-parts p hop None h = absurd (false≢true h)
coming-parts p hop (Some f) h = and_parts _ (hop == length f.path - 1) h

ended-deleted : (p : ℕ) (o : Option PortState) → is_ended_at p o ≡ true → is_deleted o ≡ true
ended-deleted p None h = absurd (false≢true h)
ended-deleted p (Some f) h = (and_parts _ _ h).0

-- a request that finds as many clients as may be is one
asked-one : (seat : ℕ) (tag : Tag) (table : List (ℕ × ℕ)) → is_one_too_many seat tag table ≡ true → is_request tag ≡ true
asked-one seat Plain table h = absurd (false≢true h)
asked-one seat (Request n back) table h = refl
asked-one seat (Reply c n) table h = absurd (false≢true h)

-- The conditions hold of the last entry of a legal list.

module _ (l : Layout) (past : List Entry) (e : Entry) (shape : IsLayout l) (h : is_legal l (e ∷ past) ≡ true) where
  legal : is_legal l past ≡ true
  legal = (legal_parts l e past h).1

  abbrev p : ℕ
  p = e.place

  abbrev s : ℕ
  s = e.seat

  may-as : (a : Act) → e.act ≡ a → act_may l (views past p s a) p s a ≡ true
  may-as a is = subst (λ z. act_may l (views past p s z) p s z ≡ true) is (legal_parts l e past h).0

  -- a decision is on a message that goes to its port, and has no verdict
  goes : (a : Act) (x : MsgId) (q : Ui) → e.act ≡ a → is_decision a ≡ true → message_of a ≡ Some x → port_of a ≡ Some q → goes_to x q (read past) ≡ true
  goes a x q is d m o =
      let w = due_waits x q p past (legal_messages l past legal x) (decision_due l past p s a x q d m o (may-as a is)) in
      ap (is_for q) (sending-read x past) ∙ sent-goes w.place x q w.message (sending x past) (sent_is l past x w.place legal ∙ w.is) w.port

  unsettled : (a : Act) (x : MsgId) → e.act ≡ a → is_verdict a ≡ true → message_of a ≡ Some x → is_none (verdict x (read past)) ≡ true
  unsettled a x is v m =
      let none-yet = verdict_open l past p s a x (legal_messages l past legal x) (may-as a is) m v in
      ap is_none (verdict-read x past ∙ (verdict_about x past ∙ none-yet.verdict))

  held-at : (q : Ui) → is_held_at p (fate (on q past)) ≡ true → is_held_at p (terms.port_of (read past) q) ≡ true
  held-at q k = held-read l past q legal p ∙ k

  -- a choice is for a post to its group that has none
  to-group : (x : MsgId) (g : Ui) → ChoiceNeeds l past p x g → posted_to_group x g (read past) ≡ true
  to-group x g needs =
      let asked = (asked_facts x past needs.from needs.dest (legal_messages l past legal x) needs.asked).1 in
      let is : posted_in x (by x.seat (read past)) ≡ Some asked.post = posted-read x x.seat past ∙ (ap (λ y. posted_in y (by x.seat past)) (sym (own_source x asked.copy)) ∙ asked.posted) in
      group-is g asked.post (posted_in x (by x.seat (read past))) is (ap group_in asked.dest ∙ needs.group)

  no-choice-yet : (x : MsgId) (g : Ui) → ChoiceNeeds l past p x g → not (is_chosen x (read past)) ≡ true
  no-choice-yet x g needs =
      let none-yet = (asked_facts x past needs.from needs.dest (legal_messages l past legal x) needs.asked).0 in
      not_from_false (is_chosen x (read past)) (chosen-read x past ∙ (chosen-about x past ∙ none-yet.chosen))

  members : (x : MsgId) (g : Ui) (qs : List Ui) → e.act ≡ Choose x g qs → are_members x qs (read past) ≡ true
  members x g qs is =
      let may = may-as (Choose x g qs) is in
      let needs = choose_needs l past p s x g qs may in
      let chosen = choose_members l past p s x g qs needs may in
      let asked = (asked_facts x past needs.from needs.dest (legal_messages l past legal x) needs.asked).1 in
      let post : posted_in x (by x.seat (read past)) ≡ Some asked.post = posted-read x x.seat past ∙ (ap (λ y. posted_in y (by x.seat past)) (sym (own_source x asked.copy)) ∙ asked.posted) in
      let single = ap (is_single qs) post ∙ (ap (λ d. not (is_functional d) || (length qs == 1)) asked.dest ∙ one-chosen l needs.dest (at p past) qs chosen.0 chosen.1) in
      and_from (nat_lt 0 (length qs) && are_distinct qs) (is_single qs (posted_in x (by x.seat (read past))))
      (and_from (nat_lt 0 (length qs)) (are_distinct qs) (lt-ltb 0 (length qs) chosen.1) (are-distinct qs (chosen_distinct l past p s x g qs needs legal may)))
      single

  held-in : (x : MsgId) (q : Ui) (a : Act) → meets l (views past p s a) p x q ≡ true → (views past p s a).port ≡ on q past → is_held_at p (terms.port_of (read past) q) ≡ true
  held-in x q a met port =
      let v = views past p s a in
      held-at q (ap (λ es. is_held_at p (fate es)) (sym port) ∙ (and_parts (is_due (due l v p x q)) (is_held_at p (fate v.port)) met).1)

  accepts-hold : (x : MsgId) (q : Ui) (n : ℕ) → e.act ≡ Accept x q n → AreTrue (conditions l (read past) p s (Accept x q n))
  accepts-hold x q n is =
      let v = views past p s (Accept x q n) in
      let parts = and_parts (may_enter l v p x q) (has_room n (fate v.port)) (may-as (Accept x q n) is) in
      let met = (enters l past p x q v refl refl parts.0).0 in
      let room = room-parts n (fate (on q past)) parts.1 in (
        goes (Accept x q n) x q is refl refl refl,
        (
          unsettled (Accept x q n) x is refl refl,
          (
            held-in x q (Accept x q n) met refl,
            (
              space-read l past q legal ∙ room.0,
              (
                so-far-read l past q legal n ∙ room.1,
                (
                  in-order l past e x q n shape h is,
                  (new-request l past e x q n shape h is, tt),
                ),
              ),
            ),
          ),
        ),
      )

  full-holds : (x : MsgId) (q : Ui) (n : ℕ) → e.act ≡ Full x q n → AreTrue (conditions l (read past) p s (Full x q n))
  full-holds x q n is =
      let v = views past p s (Full x q n) in
      let parts = and_parts (may_enter l v p x q) (is_full n (fate v.port)) (may-as (Full x q n) is) in
      let met = (enters l past p x q v refl refl parts.0).0 in (
        goes (Full x q n) x q is refl refl refl,
        (
          unsettled (Full x q n) x is refl refl,
          (
            held-in x q (Full x q n) met refl,
            (full-read l past q legal n ∙ parts.1, tt),
          ),
        ),
      )

  already-holds : (x : MsgId) (q : Ui) → e.act ≡ Already x q → AreTrue (conditions l (read past) p s (Already x q))
  already-holds x q is =
      let v = views past p s (Already x q) in
      let parts = and_parts (meets l v p x q) (is_already x v.all v.port) (may-as (Already x q) is) in (
        goes (Already x q) x q is refl refl refl,
        (
          unsettled (Already x q) x is refl refl,
          (
            held-in x q (Already x q) parts.0 refl,
            (old-request l past x q legal parts.1, tt),
          ),
        ),
      )

  clients-full-holds : (x : MsgId) (q : Ui) → e.act ≡ ClientsFull x q → AreTrue (conditions l (read past) p s (ClientsFull x q))
  clients-full-holds x q is =
      let v = views past p s (ClientsFull x q) in
      let parts = and_parts (meets l v p x q) (finds_clients_full x v.all v.port) (may-as (ClientsFull x q) is) in (
        goes (ClientsFull x q) x q is refl refl refl,
        (
          unsettled (ClientsFull x q) x is refl refl,
          (
            held-in x q (ClientsFull x q) parts.0 refl,
            (ap is_request (tag-read x past) ∙ asked-one x.seat (tag_of x past) (clients_kept past (on q past)) parts.1, tt),
          ),
        ),
      )

  early-holds : (x : MsgId) (q : Ui) (hop : ℕ) → e.act ≡ Early x q hop → AreTrue (conditions l (read past) p s (Early x q hop))
  early-holds x q hop is =
      let v = views past p s (Early x q hop) in
      let parts = and_parts (is_due_with (is_early p hop (located l q v.here)) (due l v p x q)) (is_coming p hop (fate v.port)) (may-as (Early x q hop) is) in (
        goes (Early x q hop) x q is refl refl refl,
        (
          unsettled (Early x q hop) x is refl refl,
          (coming-read l past q legal p hop ∙ parts.1, tt),
        ),
      )

  unmade : (q : Ui) → is_made (fate (on q past)) ≡ false → not (is_made (terms.port_of (read past) q)) ≡ true
  unmade q n = not_from_false (is_made (terms.port_of (read past) q)) (made-read l past q legal ∙ n)

  no-port-holds : (x : MsgId) (q : Ui) → e.act ≡ NoPort x q → AreTrue (conditions l (read past) p s (NoPort x q))
  no-port-holds x q is =
      let v = views past p s (NoPort x q) in
      let made = is_made (fate (on q past)) in
      let none : made ≡ false =
      elim (or_cases (is_due_with (λ n. n == 0) (due l v p x q) && not (is_made (fate v.port))) (is_beyond l q && is_first x q v.here) (may-as (NoPort x q) is)) [
        | inl near ↦ not-true made (and_parts (is_due_with (λ n. n == 0) (due l v p x q)) (not (is_made (fate v.port))) near).1
        | inr far ↦ false_from_ne_true made (λ m. false≢true (sym (not-true (has_site l q.site) (and_parts (is_beyond l q) (is_first x q v.here) far).0) ∙ made-site l past q legal m))
      ] in (
        goes (NoPort x q) x q is refl refl refl,
        (
          unsettled (NoPort x q) x is refl refl,
          (unmade q none, tt),
        ),
      )

  elsewhere-holds : (x : MsgId) (q : Ui) (to hop : ℕ) → e.act ≡ Elsewhere x q to hop → AreTrue (conditions l (read past) p s (Elsewhere x q to hop))
  elsewhere-holds x q to hop is =
      let v = views past p s (Elsewhere x q to hop) in
      let two = and_parts (is_some (site_asked x v.all) && is_location to hop (located l q v.here)) (is_elsewhere l v p x q to hop) (may-as (Elsewhere x q to hop) is) in
      let one = and_parts (is_some (site_asked x v.all)) (is_location to hop (located l q v.here)) two.0 in (
        goes (Elsewhere x q to hop) x q is refl refl refl,
        (
          unsettled (Elsewhere x q to hop) x is refl refl,
          (ap is_some (site-read x past) ∙ one.0, tt),
        ),
      )

  gone-holds : (x : MsgId) (q : Ui) → e.act ≡ Gone x q → AreTrue (conditions l (read past) p s (Gone x q))
  gone-holds x q is =
      let v = views past p s (Gone x q) in
      let parts = and_parts (is_due (due l v p x q)) (is_ended_at p (fate v.port)) (may-as (Gone x q) is) in (
        goes (Gone x q) x q is refl refl refl,
        (
          unsettled (Gone x q) x is refl refl,
          (deleted-read l past q legal ∙ ended-deleted p (fate (on q past)) parts.1, tt),
        ),
      )

  make-holds : (q a : Ui) (c : ℕ) → e.act ≡ Make q a c → AreTrue (conditions l (read past) p s (Make q a c))
  make-holds q a c is =
      let may = may-as (Make q a c) is in
      let here = at p past in
      let new = (make_new l past p s q a c shape ((legal_inv l past shape legal).ports q) may).0 in
      let five = and_parts (is_home l a p && nat_le 1 c && nat_le c PENDING_LIMIT && not (is_full_of_ports l here) && (q.site == a.site)) (q.number == next_number l p here) may in
      let four = and_parts (is_home l a p && nat_le 1 c && nat_le c PENDING_LIMIT && not (is_full_of_ports l here)) (q.site == a.site) five.0 in
      let three = and_parts (is_home l a p && nat_le 1 c && nat_le c PENDING_LIMIT) (not (is_full_of_ports l here)) four.0 in
      let two = and_parts (is_home l a p && nat_le 1 c) (nat_le c PENDING_LIMIT) three.0 in
      let one = and_parts (is_home l a p) (nat_le 1 c) two.0 in
      (unmade q (ap is_made new), (and_from (nat_le 1 c) (nat_le c PENDING_LIMIT) one.1 two.1, tt))

  post-holds : (m : Message) (d : Dest) → e.act ≡ Post m d → AreTrue (conditions l (read past) p s (Post m d))
  post-holds m d is =
      let needs = post_needs l past p s m d (may-as (Post m d) is) in
      let last = number-read l past s legal in
      let number = needs.number in (
        and_from (m.id.seat == s) (m.id.copy == 0) (eq-eqb m.id.seat s needs.seat) (eq-eqb m.id.copy 0 needs.copy),
        (lt-ltb (last_number s (read past)) m.id.number (omega (arith, last, number)), tt),
      )

  take-holds : (q : Ui) (n : ℕ) (x : MsgId) → e.act ≡ Take q n x → AreTrue (conditions l (read past) p s (Take q n x))
  take-holds q n x is =
      let parts = and_parts (is_held_at p (fate (on q past))) (is_first_waiting n x (fate (on q past))) (may-as (Take q n x) is) in
      let first = first-parts n x (fate (on q past)) parts.1 in
      (held-at q parts.0, (first-read l past q legal x ∙ first.0, (taken-read l past q legal n ∙ first.1, tt)))

  depart-holds : (q : Ui) (to : ℕ) (a : Ui) (hop : ℕ) → e.act ≡ Depart q to a hop → AreTrue (conditions l (read past) p s (Depart q to a hop))
  depart-holds q to a hop is =
      let held = is_held_at p (fate (on q past)) in
      let off = not (a.site == site_of l p) in
      let named = to == place_at l a.site q in
      let four = and_parts (held && has_actor l a && off && named) (is_next_hop hop (fate (on q past))) (may-as (Depart q to a hop) is) in
      let three = and_parts (held && has_actor l a && off) named four.0 in
      let two = and_parts (held && has_actor l a) off three.0 in
      let one = and_parts held (has_actor l a) two.0 in
      let site = (and_parts (has_site l a.site) (nat_le 1 a.number) (and_parts (has_site l a.site && nat_le 1 a.number) _ one.1).0).0 in
      let to-is : to ≡ place_at l a.site q = eqb-true to (place_at l a.site q) three.1 in
      let there : site_of l to ≡ a.site = ap (site_of l) to-is ∙ place-site l a.site q shape site in
      let away : (to == p) ≡ false = false_from_ne_true (to == p) (λ same. false≢true (sym (not-true (a.site == site_of l p) two.1) ∙ eq-eqb a.site (site_of l p) (sym there ∙ ap (site_of l) (eqb-true to p same)))) in (
        held-at q one.0,
        (
          and_from (has_place l to) (not (to == p)) (ap (has_place l) to-is ∙ place-inside l a.site q shape site) (not_from_false (to == p) away),
          (next-hop-read l past q legal hop ∙ four.1, tt),
        ),
      )

  arrive-holds : (q : Ui) (hop : ℕ) → e.act ≡ Arrive q hop → AreTrue (conditions l (read past) p s (Arrive q hop))
  arrive-holds q hop is =
      let parts = coming-parts p hop (fate (on q past)) (may-as (Arrive q hop) is) in
      (coming-to-read l past q legal p ∙ parts.0, (departed-read l past q legal hop ∙ parts.1, tt))

  delete-holds : (q : Ui) (xs : List MsgId) → e.act ≡ Delete q xs → AreTrue (conditions l (read past) p s (Delete q xs))
  delete-holds q xs is =
      let parts = and_parts (is_held_at p (fate (on q past))) (are_waiting xs (fate (on q past))) (may-as (Delete q xs) is) in
      (held-at q parts.0, (waiting-read l past q legal xs ∙ parts.1, tt))

  no-member-holds : (x : MsgId) (g : Ui) → e.act ≡ NoMember x g → AreTrue (conditions l (read past) p s (NoMember x g))
  no-member-holds x g is =
      let needs = no_member_needs l past p s x g (may-as (NoMember x g) is) in
      (to-group x g needs, (no-choice-yet x g needs, tt))

  choose-holds : (x : MsgId) (g : Ui) (qs : List Ui) → e.act ≡ Choose x g qs → AreTrue (conditions l (read past) p s (Choose x g qs))
  choose-holds x g qs is =
      let needs = choose_needs l past p s x g qs (may-as (Choose x g qs) is) in
      (to-group x g needs, (no-choice-yet x g needs, (members x g qs is, tt)))

  act-holds : (a : Act) → e.act ≡ a → AreTrue (conditions l (read past) p s a)
  act-holds (Make q a c) is = make-holds q a c is
  act-holds (Post m d) is = post-holds m d is
  act-holds (Accept x q n) is = accepts-hold x q n is
  act-holds (Full x q n) is = full-holds x q n is
  act-holds (Already x q) is = already-holds x q is
  act-holds (ClientsFull x q) is = clients-full-holds x q is
  act-holds (Early x q hop) is = early-holds x q hop is
  act-holds (NoPort x q) is = no-port-holds x q is
  act-holds (Elsewhere x q to hop) is = elsewhere-holds x q to hop is
  act-holds (Gone x q) is = gone-holds x q is
  act-holds (NoMember x g) is = no-member-holds x g is
  act-holds (Choose x g qs) is = choose-holds x g qs is
  act-holds (Take q n x) is = take-holds q n x is
  act-holds (Depart q to a hop) is = depart-holds q to a hop is
  act-holds (Arrive q hop) is = arrive-holds q hop is
  act-holds (Delete q xs) is = delete-holds q xs is
  act-holds _ is = tt

  timely-holds : AreTrue (timely l (read past) e)
  timely-holds =
      let clock = clock-some l past e h in
      let older = clock-read l past p legal in
      let later = clock.1 in (
        clock.0,
        (
          lt-ltb (last_clock (at p (read past))) e.clock (omega (arith, older, later)),
          ((legal-kinds l e past h).0, tt),
        ),
      )

  breaks-none : breach l (read past) e ≡ None
  breaks-none =
      ap (λ o. option_or o (failing (act_number e.act) 1 (conditions l (read past) p s e.act))) (none-fails 0 1 (timely l (read past) e) timely-holds)
      ∙ none-fails (act_number e.act) 1 (conditions l (read past) p s e.act) (act-holds e.act refl)

  by-none : breach_by l past e ≡ None
  by-none = either (is_read e.act)
    where
      either : (b : Bool) → cond b (breach l (read past) e) None ≡ None
      either true = breaks-none
      either false = refl

-- A list that is legal keeps them, and so does what is read of it.

kept : (l : Layout) (past : List Entry) → IsLayout l → is_legal l past ≡ true → keeps_promises l past ≡ true
kept l [] shape h = refl
kept l (e ∷ past) shape h =
    and_from (is_none (breach_by l past e)) (keeps_promises l past) (ap is_none (by-none l past e shape h)) (kept l past shape (legal_parts l e past h).1)

read-twice : (past : List Entry) → read (read past) ≡ read past
read-twice [] = refl
read-twice (e ∷ past) = go (is_read e.act) refl (read-twice past)
  where
    go : (b : Bool) → is_read e.act ≡ b → read (read past) ≡ read past → read (cond b (e ∷ read past) (read past)) ≡ cond b (e ∷ read past) (read past)
    go true r old = ap (λ b. cond b (e ∷ read (read past)) (read (read past))) r ∙ ap (λ es. e ∷ es) old
    go false r old = old

kept-read : (l : Layout) (past : List Entry) → keeps_promises l past ≡ true → keeps_promises l (read past) ≡ true
kept-read l [] h = refl
kept-read l (e ∷ past) h = go (is_read e.act) refl (kept-read l past two.1)
  where
    two : (is_none (breach_by l past e) ≡ true) × (keeps_promises l past ≡ true)
    two = and_parts (is_none (breach_by l past e)) (keeps_promises l past) h

    go : (b : Bool) → is_read e.act ≡ b → keeps_promises l (read past) ≡ true → keeps_promises l (cond b (e ∷ read past) (read past)) ≡ true
    go true r old =
        and_from (is_none (breach_by l (read past) e)) (keeps_promises l (read past))
        (ap (λ es. is_none (cond (is_read e.act) (breach l es e) None)) (read-twice past) ∙ two.0) old
    go false r old = old

pub keep_the_promises : LegalListsKeepThePromises
keep_the_promises l past shape h = (kept l past shape h, kept-read l past (kept l past shape h))
