-- The members of a group are chosen for a post, or there are none.
use Rattle.std.proofs.Common.{ℕ, ◌≡◌, ◌≤◌, ◌==◌, ◌+◌, nat_lt, Bool, true, false, ◌&&◌, cond, List, [], ◌∷◌, length, map, Option, Some, None, unwrap_or, refl, sym, ◌∙◌, ap, arith, eq-eqb, lt-ltb, append-nil}
use Rattle.std.specs.List.{filter, list_all}
use Rattle.std.proofs.lemmas.Bool.{and_from, eqb-true}
use Rattle.chorus_ui.specs.declared.ui.Ui.{Ui}
use Rattle.chorus_ui.specs.Name.{same_ui}
use Rattle.chorus_ui.proofs.Names.{same_ui-self}
use Rattle.chorus_ui.specs.declared.layout.Layout.{Layout}
use Rattle.chorus_ui.specs.Layout.{group_place}
use Rattle.chorus_entry.specs.declared.entry.Entry.{Entry}
use Rattle.chorus_entry.specs.declared.id.MsgId.{MsgId}
use Rattle.chorus_entry.specs.declared.dest.Dest.{Dest}
use Rattle.chorus_entry.specs.declared.message.Message.{Message}
use Rattle.chorus_entry.specs.declared.answer.Answer.{Answer}
use Rattle.chorus_entry.specs.declared.answer.Answer.TheVariants as answers
use Rattle.chorus_entry.specs.declared.act.Act.{Act}
use Rattle.chorus_entry.specs.declared.act.Act.TheVariants as acts
use Rattle.chorus_entry.specs.Answer.{is_final}
use Rattle.chorus_entry.specs.Dest.{group_in, site_in}
use Rattle.chorus_ui.specs.NameKind.{is_group, is_port}
use Rattle.chorus_entry.specs.Kinds.{has_kinds, has_kinds_in_dest}
use Rattle.chorus_entry.specs.Members.{same_uis}
use Rattle.chorus_entry.specs.MsgId.{same_id}
use Rattle.chorus_entry.proofs.Same.{same_uis-self}
use Rattle.chorus_world.specs.declared.place.Sent.{Sent}
use Rattle.chorus_world.proofs.Ports.LineLemmas.{id_is}
use Rattle.chorus_world.proofs.Messages.SendingLemmas.{sent_as, some_is}
use Rattle.std.proofs.lemmas.List.{append_assoc}
use Rattle.chorus_world.specs.declared.progress.Progress.{Progress}
use Rattle.chorus_world.specs.declared.progress.Progress.TheVariants.{Asked, Settled}
use Rattle.chorus_world.specs.Views.{at, about}
use Rattle.chorus_entry.specs.Same.{are_same}
use Rattle.chorus_world.specs.Messages.{progress, progress_after}
use Rattle.chorus_world.specs.Places as places
use Rattle.chorus_world.specs.Places.{last_clock, just_taken}
use Rattle.chorus_world.specs.Posts.{Posted, post_of, site_from, as_posted}
use Rattle.chorus_entry.specs.Act.{message_of, held_port_of}
use Rattle.chorus_world.specs.Groups as groups
use Rattle.chorus_world.specs.Groups.{choice, posts_to, is_next_to, is_choosing_place, unchosen}
use Rattle.chorus_world.specs.Steps.{may_choose_from, choice_from}
use Rattle.chorus_world.proofs.Sorted.Local.{local_views}
use Rattle.place_unsettled.specs.declared.wait.Key.{Key}
use Rattle.place_unsettled.specs.declared.wait.Wait.{Wait}
use Rattle.place_unsettled.specs.Queues.{Queue, changed, with_last, same_key}
use Rattle.law_machine.specs.declared.outgoing.Outgoing.{Outgoing}
use Rattle.law_machine.specs.PlaceState.{Turn, Change, next_clock, next_entry, packed, unchanged, say}
use Rattle.law_machine.specs.Trying.{report, go}
use Rattle.law_machine.specs.Choosing as machine
use Rattle.law_machine.specs.Choosing.{by_group, copy, with_copies, all_go, finds_no_member, chooses_all, chooses_these, chooses}
use Rattle.law_machine.proofs.Machine.Keys.{same_key-is}
use Rattle.law_network.specs.Packets.{put_all}
use Rattle.law_network.specs.Network.{NetState}
use Rattle.law_network.specs.Records.{message, as_wait, is_for, home_from}
use Rattle.law_network.proofs.Tables.Learning.{choice-same}
use Rattle.law_network.specs.UnderWay.{other_place, far_place, asked_for, reported_as, reported_to, under_way_as, is_of, is_with}
use Rattle.law_network.proofs.Standing.InTurn.{ArePackets}
use Rattle.law_network.proofs.Standing.Says.{known_clock, MaySay, Says}
use Rattle.law_network.proofs.Standing.StillCallers.{caller-still, no-port-clock}
use Rattle.law_network.proofs.Tables.TablesSay.{known-still, unheard-still}
use Rattle.law_network.proofs.Tables.Queues.{with_all, queue-sends}
use Rattle.law_network.proofs.Tables.Keys.{for-other}
use Rattle.law_network.proofs.Standing.Families.{messages-one, transfers-none}
use Rattle.law_network.proofs.Standing.Steps.{Stood, facts, laws, legal-with, ports-still, tables-still}
use Rattle.law_network.proofs.Links.Abouts.{Moves}
use Rattle.law_network.proofs.Links.Reports.{report-moves, report-view}
use Rattle.law_network.proofs.Standing.Saying.{legal-now}
use Rattle.law_network.proofs.Standing.Onward.{stay, step, then}
use Rattle.law_network.proofs.Standing.Leading.{Calm, LeadsOn, behind-calm, rests-behind}
use Rattle.law_network.proofs.Trying.Going.{go-stands}
use Rattle.chorus_world.proofs.Seats.CallFacts.{posted-kinds}
use Rattle.chorus_world.proofs.Groups.GroupNames.{choice-named}
use Rattle.chorus_world.proofs.Messages.Growing.{post-grows}

-- where members are chosen at p for a post from `home`, it is reported from p, unless that is home
pub far-is : (l : Layout) (g : Ui) (home p : ℕ) → is_choosing_place l g home p ≡ true → far_place l home (Some g) ≡ cond (p == home) None (Some p)
far-is l g home p h = go (group_place l g) h
  where
    go : (z : Option ℕ) → (unwrap_or z home == p) ≡ true → other_place home z ≡ cond (p == home) None (Some p)
    go None e = sym (ap (λ b. cond b None (Some p)) (eq-eqb p home (sym (eqb-true home p e))))
    go (Some r) e = ap (λ z. cond (z == home) None (Some z)) (eqb-true r p e)

-- the asks of a network, after an entry
abbrev pub AreAsked : Layout → List Outgoing → List Entry → Type 0
AreAsked l os past =
    (f : Ui) (a p : ℕ) → far_place l a (Some f) ≡ Some p → asked_for f a p os ≡ unchosen (at p past) (posts_to f (at a past))

-- members are to be chosen for the post m; `new` are the packets without the one that asks for it
pub record ToChoose (n : NetState) (us : List Outgoing) (past : List Entry) (t : Turn) (m : Message) (d : Dest) (g : Ui) (home : ℕ) (new : List Outgoing) : Type 0 where
  pub stage : progress (about m.id past) ≡ Asked home d
  pub group : group_in d ≡ Some g
  pub place : is_choosing_place t.place.layout g home t.place.number ≡ true
  pub next : is_next_to g m.id home (at t.place.number past) past ≡ true
  pub post : Posted
  pub posted : post_of m.id past ≡ Some post
  pub dest : post.dest ≡ d
  pub at_home : post.place ≡ home
  pub message : m ≡ message past m.id
  pub clock : last_clock (about m.id past) ≤ known_clock t
  pub moved : Moves m.id new new
  pub others : (z : MsgId) → same_id m.id z ≡ false → filter (is_of z) new ≡ filter (is_of z) (put_all t.puts us)
  pub ports : (q : Ui) → filter (is_with q) new ≡ filter (is_with q) (put_all t.puts us)
  pub none : filter (is_of m.id) new ≡ []
  pub unsent : (q : ℕ) → sent_as m.id q past ≡ None
  pub asks : (e : Entry) → e.place ≡ t.place.number → ((y : MsgId) → groups.chooses y e.act ≡ same_id m.id y) → ((f : Ui) → groups.post_to f e.act ≡ []) → AreAsked t.place.layout new (e ∷ past)

module _ (n : NetState) (us : List Outgoing) (past : List Entry) (t : Turn) (w : Stood n us past t) (rests : just_taken past (at t.place.number past) ≡ None) (m : Message) (d : Dest) (g : Ui) (home : ℕ) (new : List Outgoing) (c : ToChoose n us past t m d g home new) where
  abbrev l : Layout
  l = t.place.layout

  abbrev p : ℕ
  p = t.place.number

  abbrev x : MsgId
  x = m.id

  -- the packets, with the report of what became of the post
  choice-packets : (act : Act) (a : Answer) → message_of act ≡ Some m.id → held_port_of act ≡ None → is_final a ≡ true → ((s : Progress) → progress_after t.place.number act s ≡ Settled a)
      → ((y : MsgId) → groups.chooses y act ≡ same_id m.id y) → ((f : Ui) → groups.post_to f act ≡ [])
      → ArePackets t.place.layout (put_all (map (packed t) (report t.place.number home m.id a)) new) (next_entry act t ∷ past)
  choice-packets act a mes port final now picks posts =
      let e = next_entry act t in
      let all = (laws n us past t w).posted in
      let os = put_all t.puts us in
      let later = put_all (map (packed t) (report p home x a)) new in
      let r = report-moves x a t home new new c.moved in
      let grown = post-grows e past x (c.post, c.posted) ∙ c.posted in
      let far : far_place l c.post.place (group_in c.post.dest) ≡ cond (p == home) None (Some p) =
      (λ i. far_place l (c.at_home i) (group_in (c.dest i))) ∙ (ap (far_place l home) c.group ∙ far-is l g home p c.place) in
      let shown : under_way_as l (e ∷ past) x (next_clock t) (progress_after p act (progress (about x past))) ≡ reported_to x (next_clock t) a home (cond (p == home) None (Some p)) =
      ap (under_way_as l (e ∷ past) x (next_clock t)) (now (progress (about x past)))
      ∙ (ap (reported_as l x (next_clock t) a) grown ∙ (ap (reported_to x (next_clock t) a c.post.place) far ∙ ap (λ z. reported_to x (next_clock t) a z (cond (p == home) None (Some p))) c.at_home)) in
      record {
        order = r.order;
        messages = messages-one l past e all x os later (facts n us past t w) mes (λ z ne. r.others z ne ∙ c.others z ne) w.packets.messages (report-view x a t home new final c.none ∙ sym shown);
        transfers = transfers-none l past e all os later port (λ q. r.ports q ∙ c.ports q) w.packets.transfers;
        asks = λ f b s far2. r.asks f b s ∙ c.asks e refl picks posts f b s far2;
      }

  from-here : (act : Act) → message_of act ≡ Some m.id → may_choose_from t.place.layout (local_views past past t.place.number t.caller.seat act) t.place.number m.id g (Asked home d) ≡ true
  from-here act mes =
      and_from (are_same same_ui (Some g) (group_in d) && is_choosing_place l g home p) (is_next_to g x home (at p past) past)
      (and_from (are_same same_ui (Some g) (group_in d)) (is_choosing_place l g home p) (ap (are_same same_ui (Some g)) c.group ∙ same_ui-self g) c.place) c.next

  -- the copies wait as the past has them
  module _ (all : List Entry) (h : post_of m.id all ≡ Some c.post) where
    copy-is : (k : ℕ) (q : Ui) → as_wait all (record { id = record m.id { copy = k }; port = q; route = Some g }) ≡ copy m d home k
    copy-is k q = (λ i. wait-of k (h i)) ∙ (λ i. record { message = record (same-message i) { id = record m.id { copy = k } }; only = site_in (c.dest i); home = c.at_home i })
      where
        wait-of : ℕ → Option Posted → Wait
        wait-of k o = record { message = as_posted (record m.id { copy = k }) o; only = site_from o; home = home_from o }

        same-message : record c.post.message { id = m.id } ≡ m
        same-message = sym (c.message ∙ ap (as_posted m.id) c.posted)

    copies-wait : (k : ℕ) (qs : List Ui) (queues : Key → Queue) (j : Key)
        → with_copies m d g home k qs queues j ≡ with_all (map (as_wait all) (filter (is_for j) (places.copies m.id g k qs))) (queues j)
    copies-wait k [] queues j = ap (λ ws. record (queues j) { waits = ws }) (sym (append-nil (queues j).waits))
    copies-wait k (q ∷ qs) queues j =
        copies-wait (k + 1) qs (changed (by_group g q) (with_last (copy m d home k)) queues) j ∙ by (same_key (by_group g q) j) refl
      where
        s : Sent
        s = record { id = record m.id { copy = k }; port = q; route = Some g }

        later : List Sent
        later = filter (is_for j) (places.copies m.id g (k + 1) qs)

        goes : is_for (by_group g q) s ≡ true
        goes = and_from (same_ui q q) (same_ui g g) (same_ui-self q) (same_ui-self g)

        by : (b : Bool) → same_key (by_group g q) j ≡ b
            → with_all (map (as_wait all) later) (cond b (with_last (copy m d home k) (queues (by_group g q))) (queues j)) ≡ with_all (map (as_wait all) (cond (is_for j s) (s ∷ later) later)) (queues j)
        by true e =
            let same : by_group g q ≡ j = same_key-is (by_group g q) j e in
            ap (λ z. with_all (map (as_wait all) later) (with_last (copy m d home k) (queues z))) same
            ∙ (ap (λ ws. record (queues j) { waits = ws }) (append_assoc (queues j).waits (copy m d home k ∷ []) (map (as_wait all) later))
            ∙ (ap (λ z. with_all (z ∷ map (as_wait all) later) (queues j)) (sym (copy-is k q))
            ∙ ap (λ b. with_all (map (as_wait all) (cond b (s ∷ later) later)) (queues j)) (sym (ap (λ z. is_for z s) (sym same) ∙ goes))))
        by false e = ap (λ b. with_all (map (as_wait all) (cond b (s ∷ later) later)) (queues j)) (sym (for-other (by_group g q) j s goes e))

  -- no message that waits here is the post
  apart : (a : Act) → message_of a ≡ Some m.id → (j : Sent) → sent_as j.id t.place.number past ≡ Some j → are_same same_id (Some j.id) (message_of a) ≡ false
  apart a mes j found = go (are_same same_id (Some j.id) (message_of a)) refl
    where
      go : (b : Bool) → are_same same_id (Some j.id) (message_of a) ≡ b → b ≡ false
      go false e = refl
      go true e =
          let same : m.id ≡ j.id = some_is m.id j.id (sym mes ∙ id_is j.id (message_of a) e) in
          absurd (let bad : None ≡ Some j = sym (c.unsent p) ∙ (ap (λ z. sent_as z p past) same ∙ found) in cc)

  pub none-says : choice t.place.layout d (at t.place.number past) ≡ [] → is_group g ≡ true
      → Says (put_all (map (packed t) (report t.place.number home m.id answers.NoMember)) new) past t (acts.NoMember m.id g) (record (unchanged t) { loads = report t.place.number home m.id answers.NoMember })
  none-says empty named =
      let a = acts.NoMember x g in
      let v = local_views past past p t.caller.seat a in
      let says-may : MaySay past t a =
      record {
        kinds = named;
        behind = behind-calm past p a rests;
        may = and_from (may_choose_from l v p x g (progress (about x past))) (length (choice_from l (at p past) (progress (about x past))) == 0)
            (ap (may_choose_from l v p x g) c.stage ∙ from-here a refl) (ap (λ s. length (choice_from l (at p past) s) == 0) c.stage ∙ ap (λ qs. length qs == 0) empty);
        fits = refl;
        looks = tt;
        message = c.clock;
        port = no-port-clock past None (known_clock t) refl;
      } in
      record {
        may = says-may;
        caller = caller-still past t a refl w.caller;
        ports = ports-still n us past t w a refl;
        tables = tables-still n us past t w a says-may refl refl refl (apart a refl);
        packets = choice-packets a answers.NoMember refl refl refl (λ s. refl) (λ y. refl) (λ f. refl);
      }

  pub choose-says : (q : Ui) (qs : List Ui) → choice t.place.layout d (at t.place.number past) ≡ q ∷ qs → has_kinds (acts.Choose m.id g (q ∷ qs)) ≡ true
      → Says (put_all (map (packed t) (report t.place.number home m.id (answers.Chosen (length (q ∷ qs))))) new) past t (acts.Choose m.id g (q ∷ qs))
      (record (unchanged t) { waiting = with_copies m d g home 1 (q ∷ qs) t.place.waiting; loads = report t.place.number home m.id (answers.Chosen (length (q ∷ qs))) })
  choose-says q qs some kinds =
      let rs = q ∷ qs in
      let a = acts.Choose x g rs in
      let e = next_entry a t in
      let v = local_views past past p t.caller.seat a in
      let grown = post-grows e past x (c.post, c.posted) ∙ c.posted in
      let says-may : MaySay past t a =
      record {
        kinds = kinds;
        behind = behind-calm past p a rests;
        may = and_from (may_choose_from l v p x g (progress (about x past)) && nat_lt 0 (length rs)) (same_uis rs (choice_from l (at p past) (progress (about x past))))
            (and_from (may_choose_from l v p x g (progress (about x past))) (nat_lt 0 (length rs)) (ap (may_choose_from l v p x g) c.stage ∙ from-here a refl) (some-length q qs))
            (ap (λ s. same_uis rs (choice_from l (at p past) s)) c.stage ∙ (ap (same_uis rs) some ∙ same_uis-self rs));
        fits = refl;
        looks = tt;
        message = c.clock;
        port = no-port-clock past None (known_clock t) refl;
      } in
      let all = (laws n us past t w).posted in
      let legal = legal-with n us past t w a says-may in
      record {
        may = says-may;
        caller = caller-still past t a refl w.caller;
        ports = ports-still n us past t w a refl;
        tables = record {
          known = known-still l t.place.known e (at p past) refl w.here.known;
          waiting = λ j. copies-wait (e ∷ past) grown 1 rs t.place.waiting j
              ∙ (ap (with_all (map (as_wait (e ∷ past)) (filter (is_for j) (places.copies x g 1 rs)))) (w.here.waiting j)
              ∙ sym (queue-sends l past e j all legal (λ k found goes. apart a refl k found)));
          unheard = unheard-still l past e t.place.unheard refl w.here.unheard;
        };
        packets = choice-packets a (answers.Chosen (length rs)) refl refl refl (λ s. refl) (λ y. refl) (λ f. refl);
      }
    where
      some-length : (q : Ui) (qs : List Ui) → nat_lt 0 (length (q ∷ qs)) ≡ true
      some-length q qs = lt-ltb 0 (length (q ∷ qs)) (omega arith)

-- the copies go, member by member
pub all-go-stands : (n : NetState) (us : List Outgoing) (g : Ui) (qs : List Ui) (past : List Entry) (t : Turn) → Calm n us past t → LeadsOn n us past (all_go g qs t)
all-go-stands n us g [] past t i = stay (λ now. Calm n us now t) past i
all-go-stands n us g (q ∷ qs) past t i =
    then (λ now. Calm n us now (go (by_group g q) t)) (λ now. Calm n us now (all_go g (q ∷ qs) t)) past (go-stands n us (by_group g q) past t i)
    (λ now c. all-go-stands n us g qs now (go (by_group g q) t) c)

-- members are chosen for the post, or there are none: `later` are the packets that the turn leaves, and `lift` is the step by
-- one entry, with all its packets
module _ (n : NetState) (us later : List Outgoing) (past : List Entry) (t : Turn) (w : Stood n us past t) (rests : just_taken past (at t.place.number past) ≡ None) (m : Message) (d : Dest) (g : Ui) (home : ℕ) (new : List Outgoing) (c : ToChoose n us past t m d g home new)
    (lift : (a : Act) (b : Change) → Says (put_all (map (packed t) b.loads) new) past t a b → Stood n later (next_entry a t ∷ past) (say a b t)) where
  abbrev lay : Layout
  lay = t.place.layout

  -- the place chooses as the world does
  choice-is : machine.choice d t.place ≡ choice t.place.layout d (at t.place.number past)
  choice-is =
      choice-same d t.place (λ q. w.here.known q ∙ ap (places.located lay q) (sym w.here.journal))
      ∙ ap (choice lay d) w.here.journal

  named : is_group g ≡ true
  named =
      let kinds = (posted-kinds lay past m.id c.post (legal-now n (put_all t.puts us) past t w) c.posted).1 in
      by d c.group (ap has_kinds_in_dest (sym c.dest) ∙ kinds)
    where
      some : {f : Ui} → Some f ≡ Some g → is_group f ≡ true → is_group g ≡ true
      some {f} e h = ap is_group (sym (some_is f g e)) ∙ h

      by : (b : Dest) → group_in b ≡ Some g → has_kinds_in_dest b ≡ true → is_group g ≡ true
      by (Dest.Port q) e h = absurd (let bad : None ≡ Some g = e in cc)
      by (Dest.All f) e h = some e h
      by (Dest.One f) e h = some e h
      by (Dest.OneAt f s) e h = some e h

  pub chooses-stand : LeadsOn n later past (chooses m d g home t)
  chooses-stand = go-on (machine.choice d t.place) choice-is
    where
      go-on : (qs : List Ui) → qs ≡ choice t.place.layout d (at t.place.number past) → LeadsOn n later past (chooses_these m d g home qs t)
      go-on [] e =
          let a = acts.NoMember m.id g in
          step (λ now. Calm n later now (finds_no_member m g home t)) (next_entry a t) past
          (record {
            stood = lift a (record (unchanged t) { loads = report t.place.number home m.id answers.NoMember }) (none-says n us past t w rests m d g home new c (sym e) named);
            rests = rests-behind past t a refl;
          })
      go-on (q ∷ qs) e =
          let a = acts.Choose m.id g (q ∷ qs) in
          let u = chooses_all m d g home (q ∷ qs) t in
          let ports = choice-named lay past t.place.number d (legal-now n (put_all t.puts us) past t w) in
          let kinds : has_kinds a ≡ true = and_from (is_group g) (list_all is_port (q ∷ qs)) named (ap (list_all is_port) e ∙ ports) in
          then (λ now. Calm n later now u) (λ now. Calm n later now (chooses_these m d g home (q ∷ qs) t)) past
          (step (λ now. Calm n later now u) (next_entry a t) past
          (record {
            stood = lift a (record (unchanged t) { waiting = with_copies m d g home 1 (q ∷ qs) t.place.waiting; loads = report t.place.number home m.id (answers.Chosen (length (q ∷ qs))) })
                (choose-says n us past t w rests m d g home new c q qs (sym e) kinds);
            rests = rests-behind past t a refl;
          }))
          (λ now calm. all-go-stands n later g (q ∷ qs) now u calm)
