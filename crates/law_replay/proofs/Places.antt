-- The place machine with more sites: what a turn does at a place of one layout it does at the same place of a layout of more
-- sites, where each name that it tests is of a site that both have.
-- l is a layout, n a number of sites, s a place, t a turn, q a port, g a group, k a port and route.
use Rattle.std.proofs.Common.{ℕ, ◌≡◌, ◌+◌, ◌==◌, nat_le, Bool, true, false, ◌&&◌, not, cond, List, [], ◌∷◌, find, drop, take, Option, Some, None, unwrap_or, refl, sym, ◌∙◌, ap, subst}
use Rattle.std.specs.List.{All}
use Rattle.std.proofs.lemmas.List.Elements.{All-nil, All-cons, All-head, All-tail, All-append, All-drop, All-take, All-weaker}
use Rattle.chorus_ui.specs.declared.ui.Ui.{Ui}
use Rattle.chorus_ui.specs.declared.layout.Layout.{Layout}
use Rattle.chorus_ui.specs.declared.limits.TheConstants.{ACTORS_PER_SITE_LIMIT, GROUPS_PER_SITE_LIMIT}
use Rattle.chorus_ui.specs.Layout.{has_site, has_actor, creation_place, first_place, place_at, site_of, group_place}
use Rattle.chorus_entry.specs.declared.id.MsgId.{MsgId}
use Rattle.chorus_entry.specs.declared.hand.Hand.{Hand}
use Rattle.chorus_entry.specs.declared.tag.Tag.{Tag}
use Rattle.chorus_entry.specs.declared.tag.Tag.TheVariants as tags
use Rattle.chorus_entry.specs.declared.dest.Dest.{Dest}
use Rattle.chorus_entry.specs.declared.dest.Dest.TheVariants as dests
use Rattle.chorus_entry.specs.declared.message.Message.{Message}
use Rattle.chorus_entry.specs.declared.command.Command.{Command}
use Rattle.chorus_entry.specs.declared.act.Act.{Act}
use Rattle.chorus_entry.specs.declared.act.Act.TheVariants as acts
use Rattle.chorus_entry.specs.declared.answer.Answer.{Answer}
use Rattle.chorus_entry.specs.declared.answer.Answer.TheVariants as answers
use Rattle.chorus_entry.specs.declared.packet.Packet.{Packet}
use Rattle.chorus_entry.specs.declared.packet.Cargo.{Cargo}
use Rattle.chorus_entry.specs.declared.packet.Cargo.TheVariants as cargos
use Rattle.chorus_entry.specs.declared.record.PortRecord.{PortRecord}
use Rattle.chorus_entry.specs.Members.{first_of, listed}
use Rattle.chorus_world.specs.declared.place.Location.{Location}
use Rattle.chorus_world.specs.Places.{is_deleted, taught}
use Rattle.chorus_world.specs.Posts.{is_on_site}
use Rattle.chorus_world.specs.Groups.{groups_made, members, rotation, in_turn}
use Rattle.chorus_world.specs.Steps.{is_full_of_ports}
use Rattle.chorus_ports.specs.Table.{find as find_port, replace}
use Rattle.chorus_ports.specs.Taking.{after_take}
use Rattle.chorus_calls.specs.Clients.{Call, is_outstanding, after_cancel}
use Rattle.chorus_calls.specs.Callers.{Seated, with_client}
use Rattle.place_unsettled.specs.declared.wait.Key.{Key}
use Rattle.place_unsettled.specs.declared.wait.Wait.{Wait}
use Rattle.place_unsettled.specs.Queues.{changed, with_last}
use Rattle.law_machine.specs.PlaceState.{PlaceState, Turn, location, newest, unchanged, say, note}
use Rattle.law_machine.specs.Deciding.{answer_away, answer_of, decide}
use Rattle.law_machine.specs.Trying.{settles_here, verdict_here, tries, goes_on, goes_unless, go}
use Rattle.law_machine.specs.Choosing.{is_at_site, choice, by_group, all_go, chooses_all, chooses_these, chooses}
use Rattle.law_machine.specs.Own.{own, next_port, next_group, held_by, move_act}
use Rattle.law_machine.proofs.Machine.Owns.{IsOwn, Sends, Calls, Retries, Replies, Joins, is-own}
use Rattle.law_machine.specs.Doing.{direct, post, poster, choosing_place, chooses_own, asks, posts_to_group, posts, holding, first_message, ends_call, ends, takes as takes_of, does}
use Rattle.law_machine.specs.Working.{answers_try, taught_of, told, report_of, answers_ask, opens}
use Rattle.law_machine.specs.PlaceMachine.{act, work}
use Rattle.law_machine.proofs.Machine.Follows as follows

-- the layout with so many sites, and a place and a turn of it
abbrev pub layout_on : ℕ → Layout → Layout
layout_on n l = record l { sites = n }

abbrev pub place_on : ℕ → PlaceState → PlaceState
place_on n s = record s { layout = layout_on n s.layout }

abbrev pub turn_on : ℕ → Turn → Turn
turn_on n t = record t { place = place_on n t.place }

-- both layouts have the site, and that of a name
pub record BothHave (n : ℕ) (l : Layout) (site : ℕ) : Type 0 where
  pub less : has_site l site ≡ true
  pub more : has_site (layout_on n l) site ≡ true

abbrev pub Within : ℕ → Layout → Ui → Type 0
Within n l u = BothHave n l u.site

-- what is tested, in a command, in a caller, at a place and in a packet
abbrev pub DestWithin : ℕ → Layout → Dest → Type 0
DestWithin n l (dests.Port q) = Within n l q
DestWithin n l (dests.All g) = Within n l g
DestWithin n l (dests.One g) = Within n l g
DestWithin n l (dests.OneAt g site) = Within n l g

abbrev pub CommandWithin : ℕ → Layout → Command → Type 0
CommandWithin n l (Command.Make actor capacity) = Within n l actor
CommandWithin n l (Command.Send d body) = DestWithin n l d
CommandWithin n l (Command.Call q back body) = Within n l q × Within n l back
CommandWithin n l Command.Retry = Unit {0}
CommandWithin n l Command.Cancel = Unit {0}
CommandWithin n l (Command.Reply body) = Unit {0}
CommandWithin n l (Command.Take q) = Unit {0}
CommandWithin n l (Command.Move q actor) = Within n l actor
CommandWithin n l (Command.GroupMake site) = BothHave n l site
CommandWithin n l (Command.Join g q) = Within n l g × Within n l q
CommandWithin n l (Command.Leave g q) = Within n l g
CommandWithin n l (Command.Delete q) = Unit {0}

abbrev pub CallWithin : ℕ → Layout → Option Call → Type 0
CallWithin n l None = Unit {0}
CallWithin n l (Some call) = Within n l call.port × Within n l call.back

abbrev pub HandWithin : ℕ → Layout → Option Hand → Type 0
HandWithin n l None = Unit {0}
HandWithin n l (Some hand) = Within n l hand.back

pub record CallerWithin (n : ℕ) (l : Layout) (caller : Seated) : Type 0 where
  pub call : CallWithin n l caller.client.outstanding
  pub hand : HandWithin n l caller.hand

abbrev pub MembersWithin : ℕ → PlaceState → Type 0
MembersWithin n s = (g : Ui) → All (Within n s.layout) (members g s.journal)

-- the destination and the reply port of a post, and the port that joins a group, are within
abbrev pub TagWithin : ℕ → Layout → Tag → Type 0
TagWithin n l tags.Plain = Unit {0}
TagWithin n l (tags.Request number back) = Within n l back
TagWithin n l (tags.Reply client number) = Unit {0}

abbrev pub ActWithin : ℕ → Layout → Act → Type 0
ActWithin n l (acts.Post m d) = DestWithin n l d × TagWithin n l m.tag
ActWithin n l (acts.Join g q) = Within n l q
ActWithin n l _ = Unit {0}

abbrev pub CargoWithin : ℕ → Layout → Cargo → Type 0
CargoWithin n l (Cargo.Try m q route only hop) = Within n l q
CargoWithin n l (Cargo.Verdict x q route answer) = Within n l q
CargoWithin n l (Cargo.Transfer port) = Unit {0}
CargoWithin n l (Cargo.Ask m d) = Unit {0}
CargoWithin n l (Cargo.Report x answer) = Unit {0}

module _ (n : ℕ) where
  -- Names.

  pub has-same : (l : Layout) (site : ℕ) → BothHave n l site → has_site (layout_on n l) site ≡ has_site l site
  has-same l site h = h.more ∙ sym h.less

  pub actor-same : (l : Layout) (u : Ui) → Within n l u → has_actor (layout_on n l) u ≡ has_actor l u
  actor-same l u h = ap (λ b. b && nat_le 1 u.number && nat_le u.number ACTORS_PER_SITE_LIMIT) (has-same l u.site h)

  pub group-same : (l : Layout) (g : Ui) → Within n l g → group_place (layout_on n l) g ≡ group_place l g
  group-same l g h = ap (λ b. cond b (Some (first_place l g.site)) None) (has-same l g.site h)

  newest-same : (s : PlaceState) (q : Ui) → Within n s.layout q → newest (place_on n s) q ≡ newest s q
  newest-same s q h = go (s.known q)
    where
      go : (o : Option (ℕ × ℕ)) → location (layout_on n s.layout) q o ≡ location s.layout q o
      go None = ap (λ b. record { to = cond b (creation_place s.layout q) 0; hop = 0 }) (has-same s.layout q.site h)
      go (Some pair) = refl

  on-site-same : (l : Layout) (o : Option ℕ) (p : ℕ) → is_on_site (layout_on n l) o p ≡ is_on_site l o p
  on-site-same l None p = refl
  on-site-same l (Some site) p = refl

  -- Deciding and trying.

  decide-same : (m : Message) (q : Ui) (only : Option ℕ) (tried : ℕ) (s : PlaceState) → Within n s.layout q → decide m q only tried (place_on n s) ≡ decide m q only tried s
  decide-same m q only tried s h = go (find_port q s.ports)
    where
      go : (o : Option PortRecord) → answer_of m q only tried (place_on n s) o ≡ answer_of m q only tried s o
      go None = ap (λ at. cond (is_deleted q s.journal) answers.Gone (answer_away s.number only tried at)) (newest-same s q h)
      go (Some port) = refl

  verdict-same : (k : Key) (w : Wait) (located : Location) (s : PlaceState) → Within n s.layout k.port → verdict_here k w located (place_on n s) ≡ verdict_here k w located s
  verdict-same k w located s h =
      λ i. cond (not (has-same s.layout k.port.site h i)) (Some answers.NoPort) (cond (not (on-site-same s.layout w.only located.to i)) (Some (answers.Elsewhere located.to located.hop)) (cond (located.to == s.number) (Some (decide-same w.message k.port w.only located.hop s h i)) None))

  tries-on : (k : Key) (w : Wait) (located : Location) (on : Turn → Turn) (o : Option Answer) (t : Turn) → ((u : Turn) → Within n u.place.layout k.port → on (turn_on n u) ≡ turn_on n (on u)) → Within n t.place.layout k.port
      → tries k w located on o (turn_on n t) ≡ turn_on n (tries k w located on o t)
  tries-on k w located on (Some answer) t next h = next (settles_here k w located.hop answer t) h
  tries-on k w located on None t next h = refl

  goes-on-on : (k : Key) (ws : List Wait) (t : Turn) → Within n t.place.layout k.port → goes_on k ws (turn_on n t) ≡ turn_on n (goes_on k ws t)
  goes-on-on k [] t h = refl
  goes-on-on k (w ∷ ws) t h =
      (λ i. tries k w (newest-same t.place k.port h i) (goes_on k ws) (verdict_here k w (newest-same t.place k.port h i) (place_on n t.place)) (turn_on n t))
      ∙ ap (λ o. tries k w (newest t.place k.port) (goes_on k ws) o (turn_on n t)) (verdict-same k w (newest t.place k.port) t.place h)
      ∙ tries-on k w (newest t.place k.port) (goes_on k ws) (verdict_here k w (newest t.place k.port) t.place) t (goes-on-on k ws) h

  goes-unless-on : (k : Key) (to : Option ℕ) (ws : List Wait) (t : Turn) → Within n t.place.layout k.port → goes_unless k to ws (turn_on n t) ≡ turn_on n (goes_unless k to ws t)
  goes-unless-on k None ws t h = goes-on-on k ws t h
  goes-unless-on k (Some to) ws t h = refl

  go-on : (k : Key) (t : Turn) → Within n t.place.layout k.port → go k (turn_on n t) ≡ turn_on n (go k t)
  go-on k t h = goes-unless-on k (t.place.waiting k).tried (t.place.waiting k).waits t h

  go-layout : (k : Key) (t : Turn) → (go k t).place.layout ≡ t.place.layout
  go-layout k t = follows.go-keeps (λ (u : Turn). u.place.layout ≡ t.place.layout) (λ a c u f same h. h) k t refl

  all-go-on : (g : Ui) (qs : List Ui) (t : Turn) → All (Within n t.place.layout) qs → all_go g qs (turn_on n t) ≡ turn_on n (all_go g qs t)
  all-go-on g [] t h = refl
  all-go-on g (q ∷ qs) t h =
      ap (all_go g qs) (go-on (by_group g q) t (All-head (Within n t.place.layout) q qs h))
      ∙ all-go-on g qs (go (by_group g q) t) (subst (λ (l : Layout). All (Within n l) qs) (sym (go-layout (by_group g q) t)) (All-tail (Within n t.place.layout) q qs h))

  -- Choosing.

  find-same : (test other : Ui → Bool) (qs : List Ui) → All (λ (q : Ui). test q ≡ other q) qs → find test qs ≡ find other qs
  find-same test other [] h = refl
  find-same test other (q ∷ qs) h =
      (λ i. cond (All-head (λ (r : Ui). test r ≡ other r) q qs h i) (Some q) (find-same test other qs (All-tail (λ (r : Ui). test r ≡ other r) q qs h) i))

  found-within : (P : Ui → Type 0) (test : Ui → Bool) (qs : List Ui) → All P qs → All P (listed (find test qs))
  found-within P test [] h = All-nil P
  found-within P test (q ∷ qs) h = by (test q) (found-within P test qs (All-tail P q qs h))
    where
      by : (b : Bool) → All P (listed (find test qs)) → All P (listed (cond b (Some q) (find test qs)))
      by true ih = All-cons P q [] (All-head P q qs h) (All-nil P)
      by false ih = ih

  first-within : (P : Ui → Type 0) (qs : List Ui) → All P qs → All P (listed (first_of qs))
  first-within P [] h = All-nil P
  first-within P (q ∷ qs) h = All-cons P q [] (All-head P q qs h) (All-nil P)

  module _ (s : PlaceState) (all : MembersWithin n s) where
    turn-within : (g : Ui) → All (Within n s.layout) (in_turn g s.journal)
    turn-within g =
        let P : Ui → Type 0 = Within n s.layout in
        let i = rotation g s.journal in
        let qs = members g s.journal in
        All-append P (drop i qs) (take i qs) (All-drop P i qs (all g)) (All-take P i qs (all g))

    at-site-same : (site : ℕ) (q : Ui) → Within n s.layout q → is_at_site site (place_on n s) q ≡ is_at_site site s q
    at-site-same site q h = λ i. has-same s.layout q.site h i && (site_of s.layout (newest-same s q h i).to == site)

    choice-same : (d : Dest) → choice d (place_on n s) ≡ choice d s
    choice-same (dests.Port q) = refl
    choice-same (dests.All g) = refl
    choice-same (dests.One g) = refl
    choice-same (dests.OneAt g site) =
        ap listed (find-same (is_at_site site (place_on n s)) (is_at_site site s) (in_turn g s.journal)
        (All-weaker (Within n s.layout) (λ (q : Ui). is_at_site site (place_on n s) q ≡ is_at_site site s q) (at-site-same site) (in_turn g s.journal) (turn-within g)))

    choice-within : (d : Dest) → All (Within n s.layout) (choice d s)
    choice-within (dests.Port q) = All-nil (Within n s.layout)
    choice-within (dests.All g) = all g
    choice-within (dests.One g) = first-within (Within n s.layout) (in_turn g s.journal) (turn-within g)
    choice-within (dests.OneAt g site) = found-within (Within n s.layout) (is_at_site site s) (in_turn g s.journal) (turn-within g)

  chooses-these-on : (m : Message) (d : Dest) (g : Ui) (home : ℕ) (qs : List Ui) (t : Turn) → All (Within n t.place.layout) qs → chooses_these m d g home qs (turn_on n t) ≡ turn_on n (chooses_these m d g home qs t)
  chooses-these-on m d g home [] t h = refl
  chooses-these-on m d g home (q ∷ qs) t h = all-go-on g (q ∷ qs) (chooses_all m d g home (q ∷ qs) t) h

  chooses-on : (m : Message) (d : Dest) (g : Ui) (home : ℕ) (t : Turn) → MembersWithin n t.place → chooses m d g home (turn_on n t) ≡ turn_on n (chooses m d g home t)
  chooses-on m d g home t all =
      ap (λ qs. chooses_these m d g home qs (turn_on n t)) (choice-same t.place all d)
      ∙ chooses-these-on m d g home (choice d t.place) t (choice-within t.place all d)

  -- What follows an own act.

  either-on : (b : Bool) (t u v w : Turn) → t ≡ turn_on n v → u ≡ turn_on n w → cond b t u ≡ turn_on n (cond b v w)
  either-on true t u v w h k = h
  either-on false t u v w h k = k

  group-on : (m : Message) (d : Dest) (g : Ui) (t : Turn) → Within n t.place.layout g → MembersWithin n t.place → posts_to_group m d g (turn_on n t) ≡ turn_on n (posts_to_group m d g t)
  group-on m d g t h all =
      let to = choosing_place t.place g in
      ap (λ (o : Option ℕ). cond (unwrap_or o t.place.number == t.place.number) (chooses_own m d g (turn_on n t)) (asks m d (unwrap_or o t.place.number) (turn_on n t))) (group-same t.place.layout g h)
      ∙ either-on (to == t.place.number) (chooses_own m d g (turn_on n t)) (asks m d to (turn_on n t)) (chooses_own m d g t) (asks m d to t) (own-on all) refl
    where
      own-on : MembersWithin n t.place → chooses_own m d g (turn_on n t) ≡ turn_on n (chooses_own m d g t)
      own-on all = chooses-on m d g t.place.number (say (acts.Post m d) (record (unchanged t) { caller = poster m d t.caller }) t) all

  posts-on : (m : Message) (d : Dest) (t : Turn) → DestWithin n t.place.layout d → MembersWithin n t.place → posts m d (turn_on n t) ≡ turn_on n (posts m d t)
  posts-on m (dests.Port q) t h all =
      go-on (direct q) (say (acts.Post m (dests.Port q)) (record (unchanged t) {
        caller = poster m (dests.Port q) t.caller;
        waiting = changed (direct q) (with_last (post m t.place.number)) t.place.waiting;
      }) t) h
  posts-on m (dests.All g) t h all = group-on m (dests.All g) g t h all
  posts-on m (dests.One g) t h all = group-on m (dests.One g) g t h all
  posts-on m (dests.OneAt g site) t h all = group-on m (dests.OneAt g site) g t h all

  ends-call-on : (client number : ℕ) (t : Turn) → ends_call client number (turn_on n t) ≡ turn_on n (ends_call client number t)
  ends-call-on client number t =
      let done : Turn = say (acts.Done number) (record (unchanged t) { caller = with_client t.caller (after_cancel t.caller.client) }) t in
      either-on ((client == t.caller.seat) && is_outstanding number t.caller.client) (turn_on n done) (note (acts.Late number) (turn_on n t)) done (note (acts.Late number) t) refl refl

  ends-on : (tag : Tag) (t : Turn) → ends tag (turn_on n t) ≡ turn_on n (ends tag t)
  ends-on tags.Plain t = refl
  ends-on (tags.Request number back) t = refl
  ends-on (tags.Reply client number) t = ends-call-on client number t

  takes-on : (q : Ui) (position : ℕ) (x : MsgId) (o : Option Message) (t : Turn) → takes_of q position x o (turn_on n t) ≡ turn_on n (takes_of q position x o t)
  takes-on q position x None t = refl
  takes-on q position x (Some m) t =
      ends-on m.tag (say (acts.Take q position x) (record (unchanged t) {
        caller = holding m.id m.tag t.caller;
        ports = replace q (after_take t.caller.actor) t.place.ports;
      }) t)

  does-on : (a : Act) (t : Turn) → ActWithin n t.place.layout a → MembersWithin n t.place → does a (turn_on n t) ≡ turn_on n (does a t)
  does-on (acts.Make q actor capacity) t h all = refl
  does-on (acts.Post m d) t h all = posts-on m d t h.0 all
  does-on (acts.Take q position x) t h all = takes-on q position x (first_message (find_port q t.place.ports)) t
  does-on (acts.Rehome q actor) t h all = refl
  does-on (acts.Depart q to actor hop) t h all = refl
  does-on (acts.Delete q xs) t h all = refl
  does-on (acts.Cancel number) t h all = refl
  does-on a t h all = refl

  -- Own acts.

  move-same : (q actor : Ui) (s : PlaceState) (o : Option PortRecord) → Within n s.layout actor → move_act q actor (place_on n s) o ≡ move_act q actor s o
  move-same q actor s None h = refl
  move-same q actor s (Some port) h =
      ap (λ b. cond (not b) (acts.NoActor actor) (cond (actor.site == site_of s.layout s.number) (acts.Rehome q actor) (acts.Depart q (place_at s.layout actor.site q) actor (port.hop + 1)))) (actor-same s.layout actor h)

  own-same : (c : Command) (t : Turn) → CommandWithin n t.place.layout c → own c (turn_on n t) ≡ own c t
  own-same (Command.Make actor capacity) t h =
      ap (λ b. cond (not b) (acts.NoActor actor) (cond (is_full_of_ports t.place.layout t.place.journal) (acts.MakeFull actor) (acts.Make (next_port t.place actor) actor capacity))) (actor-same t.place.layout actor h)
  own-same (Command.Move q actor) t h = move-same q actor t.place (held_by t.caller.actor (find_port q t.place.ports)) h
  own-same (Command.GroupMake site) t h =
      ap (λ b. cond (not b) (acts.NoSite site) (cond (nat_le GROUPS_PER_SITE_LIMIT (groups_made t.place.journal)) (acts.GroupsFull site) (acts.GroupMake (next_group t.place site)))) (has-same t.place.layout site h)
  own-same c t h = refl

  within : (l : Layout) {t : Turn} {c : Command} {a : Act} → IsOwn t c a → CommandWithin n l c → CallerWithin n l t.caller → ActWithin n l a
  within l (Sends d body) h k = (h, tt)
  within l (Calls q back body e) h k = h
  within l (Retries call e) h k = subst (CallWithin n l) e k.call
  within l (Replies body hand e) h k = (subst (HandWithin n l) e k.hand, tt)
  within l (Joins g q e f r) h k = h.1
  within l _ h k = tt

  pub own-within : (l : Layout) (c : Command) (t : Turn) → CommandWithin n l c → CallerWithin n l t.caller → ActWithin n l (own c t)
  own-within l c t = within l (is-own c t)

  -- So a turn is the same.

  pub act-on : (c : Command) (t : Turn) → CommandWithin n t.place.layout c → CallerWithin n t.place.layout t.caller → MembersWithin n t.place → act c (turn_on n t) ≡ turn_on n (act c t)
  act-on c t h k all =
      ap (λ a. does a (turn_on n t)) (own-same c t h) ∙ does-on (own c t) t (own-within t.place.layout c t h k) all

  asked-on : (from : ℕ) (m : Message) (d : Dest) (t : Turn) → MembersWithin n t.place → answers_ask from m d (turn_on n t) ≡ turn_on n (answers_ask from m d t)
  asked-on from m (dests.Port q) t all = refl
  asked-on from m (dests.All g) t all = chooses-on m (dests.All g) g from t all
  asked-on from m (dests.One g) t all = chooses-on m (dests.One g) g from t all
  asked-on from m (dests.OneAt g site) t all = chooses-on m (dests.OneAt g site) g from t all

  opens-on : (from : ℕ) (k : Cargo) (t : Turn) → CargoWithin n t.place.layout k → MembersWithin n t.place → opens from k (turn_on n t) ≡ turn_on n (opens from k t)
  opens-on from (cargos.Try m q route only tried) t h all =
      ap (λ v. answers_try from m q route tried v (turn_on n t)) (decide-same m q only tried t.place h)
  opens-on from (cargos.Verdict x q route answer) t h all =
      let k : Key = record { port = q; route = route } in
      go-on k (say (acts.Told x answer) (record (unchanged t) {
        known = taught_of q (taught answer) t.place.known;
        waiting = changed k (told answer) t.place.waiting;
        loads = report_of t.place.number x answer (t.place.waiting k).waits;
      }) t) h
  opens-on from (cargos.Transfer port) t h all = refl
  opens-on from (cargos.Ask m d) t h all = asked-on from m d t all
  opens-on from (cargos.Report x answer) t h all = refl

  pub work-on : (k : Packet) (t : Turn) → CargoWithin n t.place.layout k.cargo → MembersWithin n t.place → work k (turn_on n t) ≡ turn_on n (work k t)
  work-on k t h all = opens-on k.from k.cargo t h all
