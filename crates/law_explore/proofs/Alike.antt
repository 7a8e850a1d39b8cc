-- Turns that are alike stay alike: no turn depends on a clock, nor on more of a journal than what is read of it.
use Rattle.std.proofs.Common.{ℕ, ◌≡◌, ◌+◌, ◌-◌, ◌*◌, ◌/◌, ◌%◌, ◌==◌, nat_le, Bool, true, false, ◌&&◌, ◌||◌, not, cond, List, [], ◌∷◌, ◌++◌, map, length, find, Option, Some, None, refl, sym, ◌∙◌, ap, subst}
use Rattle.std.proofs.lemmas.List.{map-append}
use Rattle.chorus_ui.specs.declared.kind.Kind.TheVariants as kinds
use Rattle.chorus_ui.specs.declared.ui.Ui.{Ui}
use Rattle.chorus_ui.specs.declared.limits.TheConstants.{GROUPS_PER_SITE_LIMIT, MEMBERS_LIMIT, PORTS_PER_SITE_LIMIT}
use Rattle.chorus_ui.specs.Layout.{has_site, has_actor}
use Rattle.chorus_entry.specs.declared.id.MsgId.{MsgId}
use Rattle.chorus_entry.specs.declared.tag.Tag.{Tag}
use Rattle.chorus_entry.specs.declared.tag.Tag.TheVariants as tags
use Rattle.chorus_entry.specs.declared.dest.Dest.{Dest}
use Rattle.chorus_entry.specs.declared.dest.Dest.TheVariants as dests
use Rattle.chorus_entry.specs.declared.message.Message.{Message}
use Rattle.chorus_entry.specs.declared.entry.Entry.{Entry}
use Rattle.chorus_entry.specs.declared.command.Command.{Command}
use Rattle.chorus_entry.specs.declared.act.Act.{Act}
use Rattle.chorus_entry.specs.declared.act.Act.TheVariants as acts
use Rattle.chorus_entry.specs.declared.answer.Answer.{Answer}
use Rattle.chorus_entry.specs.declared.answer.Answer.TheVariants as answers
use Rattle.chorus_entry.specs.declared.packet.Packet.{Packet}
use Rattle.chorus_entry.specs.declared.packet.Cargo.{Cargo}
use Rattle.chorus_entry.specs.declared.packet.Cargo.TheVariants as cargos
use Rattle.chorus_entry.specs.declared.record.PortRecord.{PortRecord}
use Rattle.chorus_entry.specs.Members.{is_member, listed, first_of, round_from}
use Rattle.chorus_entry.specs.PortRecord.{new_record}
use Rattle.chorus_world.specs.declared.place.Location.{Location}
use Rattle.chorus_world.specs.Groups.{groups_after, members_after, rotation_after}
use Rattle.chorus_world.specs.Places.{ports_after, deletes, taught}
use Rattle.chorus_world.specs.Posts.{is_on_site}
use Rattle.chorus_world.specs.Steps.{is_beyond}
use Rattle.chorus_world.specs.Views.{makes_group}
use Rattle.chorus_ports.specs.Table.{find as find_port, replace, without}
use Rattle.chorus_ports.specs.Taking.{after_take, rehomed}
use Rattle.chorus_hints.specs.Known.{learned}
use Rattle.chorus_calls.specs.Clients.{is_outstanding, after_cancel}
use Rattle.chorus_calls.specs.Callers.{Seated, after_post, after_tick, with_client}
use Rattle.place_unsettled.specs.declared.wait.Key.{Key}
use Rattle.place_unsettled.specs.declared.wait.Wait.{Wait}
use Rattle.place_unsettled.specs.Queues.{Queue, changed, with_last, passed, at}
use Rattle.place_unsettled.specs.Unheard.{asked, heard}
use Rattle.law_machine.specs.declared.outgoing.Outgoing.{Outgoing}
use Rattle.law_machine.specs.PlaceState.{PlaceState, Turn, Change, newest, next_clock, next_entry, packed, unchanged, say, note}
use Rattle.law_machine.specs.Deciding.{answer_away, answer_of, decide, decision, records_after}
use Rattle.law_machine.specs.Trying.{report, settles_here, verdict_here, tries, goes_on, goes_unless, go}
use Rattle.law_machine.specs.Choosing.{is_at_site, choice, by_group, with_copies, all_go, chooses_all, chooses_these, chooses}
use Rattle.law_machine.specs.Own.{own}
use Rattle.law_machine.specs.Doing.{after_tag, direct, post, poster, transfer_to, choosing_place, chooses_own, asks, posts_to_group, posts_direct, posts, holding, first_message, ends_call, ends, takes, does}
use Rattle.law_machine.specs.Working.{answers_try, taught_of, told, report_of, answers_ask, opens}
use Rattle.law_machine.specs.PlaceMachine.{act, work}
use Rattle.law_explore.specs.Alike.{ReadAlike, ActAlike, SameButLast, unclocked, with_other, AreAlike}

-- One entry more.

pub read-more : (a : Act) (j k : List Entry) (c d p q s r : ℕ) → ReadAlike j k
    → ReadAlike (record { clock = c; place = p; seat = s; act = a } ∷ j) (record { clock = d; place = q; seat = r; act = a } ∷ k)
read-more a j k c d p q s r h =
    record {
      ports = ap (ports_after a) h.ports;
      groups = ap (groups_after a) h.groups;
      named = λ g. ap (λ b. makes_group g a || b) (h.named g);
      members_are = λ g. ap (members_after g a) (h.members_are g);
      rotates = λ g. (λ i. rotation_after g (h.members_are g i) a (h.rotates g i));
      gone = λ x. ap (λ b. deletes x a || b) (h.gone x);
    }

-- so journals with the same acts read alike
pub acts-read : (j k : List Entry) → ActAlike j k → ReadAlike j k
acts-read [] [] h = record { ports = refl; groups = refl; named = λ g. refl; members_are = λ g. refl; rotates = λ g. refl; gone = λ q. refl }
acts-read [] (f ∷ k) h = absurd (cc)
acts-read (e ∷ j) [] h = absurd (cc)
acts-read (e ∷ j) (f ∷ k) h =
    let same : e.act ≡ f.act = cc in
    let rest : ActAlike j k = cc in
    subst (λ (a : Act). ReadAlike (e ∷ j) (record f { act = a } ∷ k)) same
    (read-more e.act j k e.clock f.clock e.place f.place e.seat f.seat (acts-read j k rest))

same-loads : (t u : Turn) (loads : List (ℕ × Cargo)) → t.place.number ≡ u.place.number → map unclocked (map (packed t) loads) ≡ map unclocked (map (packed u) loads)
same-loads t u [] e = refl
same-loads t u (load ∷ loads) e =
    (λ i. (let o : Outgoing = record { to = load.0; packet = record { clock = 0; from = e i; cargo = load.1 } } in o) ∷ same-loads t u loads e i)

-- A relation of journals that one entry more keeps, and that implies that they read alike.
pub record Keeping (J : List Entry → List Entry → Type 0) : Type 0 where
  pub none : J [] []
  pub more : (a : Act) (j k : List Entry) (c d p q s r : ℕ) → J j k → J (record { clock = c; place = p; seat = s; act = a } ∷ j) (record { clock = d; place = q; seat = r; act = a } ∷ k)
  pub reads : (j k : List Entry) → J j k → ReadAlike j k

-- Deciding and trying.

decides : (m : Message) (q : Ui) (only : Option ℕ) (tried : ℕ) (s : PlaceState) (j : List Entry) → ReadAlike s.journal j → decide m q only tried (record s { journal = j }) ≡ decide m q only tried s
decides m q only tried s j h = go_by (find_port q s.ports)
  where
    go_by : (o : Option PortRecord) → answer_of m q only tried (record s { journal = j }) o ≡ answer_of m q only tried s o
    go_by None = ap (λ b. cond b answers.Gone (answer_away s.number only tried (newest s q))) (sym (h.gone q))
    go_by (Some port) = refl

verdicts : (k : Key) (w : Wait) (located : Location) (s : PlaceState) (j : List Entry) → ReadAlike s.journal j → verdict_here k w located (record s { journal = j }) ≡ verdict_here k w located s
verdicts k w located s j h =
    ap (λ (a : Answer). cond (is_beyond s.layout k.port) (Some answers.NoPort) (cond (not (is_on_site s.layout w.only located.to)) (Some (answers.Elsewhere located.to located.hop)) (cond (located.to == s.number) (Some a) None)))
    (decides w.message k.port w.only located.hop s j h)

-- Choosing.

chosen : (d : Dest) (s : PlaceState) (j : List Entry) → ReadAlike s.journal j → choice d s ≡ choice d (record s { journal = j })
chosen (dests.Port q) s j h = refl
chosen (dests.All g) s j h = h.members_are g
chosen (dests.One g) s j h = λ i. listed (first_of (round_from (h.rotates g i) (h.members_are g i)))
chosen (dests.OneAt g site) s j h = λ i. listed (find (is_at_site site s) (round_from (h.rotates g i) (h.members_are g i)))

module _ (J : List Entry → List Entry → Type 0) (keep : Keeping J) (R : Seated → Seated → Type 0) (tick : (c d : Seated) (x y : ℕ) → R c d → R (after_tick c x) (after_tick d y)) where
  abbrev Alike : Turn → Turn → Type 0
  Alike t u = AreAlike J R t u

  module _ (t : Turn) (j : List Entry) (w : Seated) (os : List Outgoing) (journals : J t.place.journal j) (loads : map unclocked t.puts ≡ map unclocked os) where
    pub said : (a : Act) (c : Change) (after : Seated) → R c.caller after → Alike (say a c t) (say a (record c { caller = after }) (with_other j w os t))
    said a c after related =
        let other = with_other j w os t in
        record {
          journal = next_entry a other ∷ j;
          caller = after_tick after (next_clock other);
          puts = os ++ map (packed other) c.loads;
          is = refl;
          journals = keep.more a t.place.journal j (next_clock t) (next_clock other) t.place.number t.place.number t.caller.seat w.seat journals;
          callers = tick c.caller after (next_clock t) (next_clock other) related;
          loads =
              map-append unclocked t.puts (map (packed t) c.loads)
              ∙ (λ i. loads i ++ same-loads t other c.loads refl i)
              ∙ sym (map-append unclocked os (map (packed other) c.loads));
        }

    pub itself : R t.caller w → Alike t (with_other j w os t)
    itself related = record { journal = j; caller = w; puts = os; is = refl; journals = journals; callers = related; loads = loads }

  -- what holds of each turn that is given so holds of all that are alike
  pub each : (f : Turn → Turn) (t u : Turn)
      → ((j : List Entry) (w : Seated) (os : List Outgoing) → J t.place.journal j → R t.caller w → map unclocked t.puts ≡ map unclocked os → Alike (f t) (f (with_other j w os t)))
      → Alike t u → Alike (f t) (f u)
  each f t u h a = subst (λ (v : Turn). Alike (f t) (f v)) (sym a.is) (h a.journal a.caller a.puts a.journals a.callers a.loads)

  pub either : (b : Bool) (t u v w : Turn) → Alike t v → Alike u w → Alike (cond b t u) (cond b v w)
  either true t u v w h k = h
  either false t u v w h k = k

  tries-alike : (k : Key) (w : Wait) (located : Location) (on : Turn → Turn) (o : Option Answer) (t : Turn) (j : List Entry) (v : Seated) (os : List Outgoing) → J t.place.journal j → R t.caller v → map unclocked t.puts ≡ map unclocked os
      → ((x z : Turn) → Alike x z → Alike (on x) (on z)) → Alike (tries k w located on o t) (tries k w located on o (with_other j v os t))
  tries-alike k w located on (Some answer) t j v os r m_ p next =
      next (settles_here k w located.hop answer t) (settles_here k w located.hop answer (with_other j v os t))
      (said t j v os r p (decision w.message.id k.port located.hop answer) (record (unchanged t) {
        ports = records_after answer w.message k.port t.place.ports;
        waiting = changed k passed t.place.waiting;
        loads = report t.place.number w.home w.message.id answer;
      }) v m_)
  tries-alike k w located on None t j v os r m_ p next =
      said t j v os r p (acts.Try w.message.id k.port located.to located.hop) (record (unchanged t) {
        waiting = changed k (at (Some located.to)) t.place.waiting;
        loads = (located.to, cargos.Try w.message k.port k.route w.only located.hop) ∷ [];
      }) v m_

  goes-on : (k : Key) (ws : List Wait) (t u : Turn) → Alike t u → Alike (goes_on k ws t) (goes_on k ws u)
  goes-on k [] t u a = a
  goes-on k (w ∷ ws) t u a =
      each (goes_on k (w ∷ ws)) t u
      (λ j v os r m_ p.
      let o = with_other j v os t in
      let located = newest t.place k.port in
      subst (λ v. Alike (goes_on k (w ∷ ws) t) (tries k w located (goes_on k ws) v o)) (sym (verdicts k w located t.place j (keep.reads t.place.journal j r)))
      (tries-alike k w located (goes_on k ws) (verdict_here k w located t.place) t j v os r m_ p (goes-on k ws)))
      a

  goes-unless : (k : Key) (to : Option ℕ) (ws : List Wait) (t u : Turn) → Alike t u → Alike (goes_unless k to ws t) (goes_unless k to ws u)
  goes-unless k None ws t u a = goes-on k ws t u a
  goes-unless k (Some to) ws t u a = a

  go-alike : (k : Key) (t u : Turn) → Alike t u → Alike (go k t) (go k u)
  go-alike k t u a =
      each (go k) t u (λ j v os r m_ p. goes-unless k (t.place.waiting k).tried (t.place.waiting k).waits t (with_other j v os t) (itself t j v os r p m_)) a

  all-go : (g : Ui) (qs : List Ui) (t u : Turn) → Alike t u → Alike (all_go g qs t) (all_go g qs u)
  all-go g [] t u a = a
  all-go g (q ∷ qs) t u a = all-go g qs (go (by_group g q) t) (go (by_group g q) u) (go-alike (by_group g q) t u a)

  chooses-these : (m : Message) (d : Dest) (g : Ui) (home : ℕ) (qs : List Ui) (t : Turn) (j : List Entry) (v : Seated) (os : List Outgoing) → J t.place.journal j → R t.caller v → map unclocked t.puts ≡ map unclocked os
      → Alike (chooses_these m d g home qs t) (chooses_these m d g home qs (with_other j v os t))
  chooses-these m d g home [] t j v os r m_ p =
      said t j v os r p (acts.NoMember m.id g) (record (unchanged t) { loads = report t.place.number home m.id answers.NoMember }) v m_
  chooses-these m d g home (q ∷ qs) t j v os r m_ p =
      all-go g (q ∷ qs) (chooses_all m d g home (q ∷ qs) t) (chooses_all m d g home (q ∷ qs) (with_other j v os t))
      (said t j v os r p (acts.Choose m.id g (q ∷ qs)) (record (unchanged t) {
        waiting = with_copies m d g home 1 (q ∷ qs) t.place.waiting;
        loads = report t.place.number home m.id (answers.Chosen (length (q ∷ qs)));
      }) v m_)

  chooses-alike : (m : Message) (d : Dest) (g : Ui) (home : ℕ) (t u : Turn) → Alike t u → Alike (chooses m d g home t) (chooses m d g home u)
  chooses-alike m d g home t u a =
      each (chooses m d g home) t u
      (λ j v os r m_ p.
      subst (λ qs. Alike (chooses m d g home t) (chooses_these m d g home qs (with_other j v os t))) (chosen d t.place j (keep.reads t.place.journal j r))
      (chooses-these m d g home (choice d t.place) t j v os r m_ p))
      a

  module _ (t : Turn) (j : List Entry) (v : Seated) (os : List Outgoing) (r : J t.place.journal j) (m_ : R t.caller v) (p : map unclocked t.puts ≡ map unclocked os) where
    abbrev other : Turn
    other = with_other j v os t

    asks-alike : (from : ℕ) (m : Message) (d : Dest) → Alike (answers_ask from m d t) (answers_ask from m d other)
    asks-alike from m (dests.Port q) = itself t j v os r p m_
    asks-alike from m (dests.All g) = chooses-alike m (dests.All g) g from t other (itself t j v os r p m_)
    asks-alike from m (dests.One g) = chooses-alike m (dests.One g) g from t other (itself t j v os r p m_)
    asks-alike from m (dests.OneAt g site) = chooses-alike m (dests.OneAt g site) g from t other (itself t j v os r p m_)

    opens-alike : (from : ℕ) (k : Cargo) → Alike (opens from k t) (opens from k other)
    opens-alike from (cargos.Try m q route only tried) =
        let answer = decide m q only tried t.place in
        subst (λ (a : Answer). Alike (answers_try from m q route tried answer t) (answers_try from m q route tried a other)) (sym (decides m q only tried t.place j (keep.reads t.place.journal j r)))
        (said t j v os r p (decision m.id q tried answer) (record (unchanged t) {
          ports = records_after answer m q t.place.ports;
          loads = (from, cargos.Verdict m.id q route answer) ∷ [];
        }) v m_)
    opens-alike from (cargos.Verdict x q route answer) =
        let k : Key = record { port = q; route = route } in
        let c : Change = record (unchanged t) {
          known = taught_of q (taught answer) t.place.known;
          waiting = changed k (told answer) t.place.waiting;
          loads = report_of t.place.number x answer (t.place.waiting k).waits;
        } in
        go-alike k (say (acts.Told x answer) c t) (say (acts.Told x answer) (record c { caller = v }) other)
        (said t j v os r p (acts.Told x answer) c v m_)
    opens-alike from (cargos.Transfer port) =
        said t j v os r p (acts.Arrive port.ui port.hop) (record (unchanged t) {
          ports = t.place.ports ++ port ∷ [];
          known = learned port.ui t.place.number port.hop t.place.known;
        }) v m_
    opens-alike from (cargos.Ask m d) = asks-alike from m d
    opens-alike from (cargos.Report x answer) =
        said t j v os r p (acts.Heard x answer) (record (unchanged t) { unheard = heard x t.place.unheard }) v m_

  pub works-alike : (k : Packet) (clock : ℕ) (t u : Turn) → Alike t u → Alike (work k t) (work (record k { clock = clock }) u)
  works-alike k clock t u a = each (opens k.from k.cargo) t u (λ j v os r m_ p. opens-alike t j v os r m_ p k.from k.cargo) a

-- Commands, where the callers are the same but for their last clocks.

last-ticks : (c d : Seated) (x y : ℕ) → SameButLast c d → SameButLast (after_tick c x) (after_tick d y)
last-ticks c d x y h = record { last = y; is = ap (λ (w : Seated). after_tick w y) h.is }

mended : (c : Seated) (last : ℕ) → SameButLast c (record c { last = last })
mended c last = record { last = last; is = refl }

tag-last : (tag : Tag) (q : Ui) (body : List ℕ) (c : Seated) (last : ℕ) → record (after_tag tag q body c) { last = last } ≡ after_tag tag q body (record c { last = last })
tag-last tags.Plain q body c last = refl
tag-last (tags.Request number back) q body c last = refl
tag-last (tags.Reply client number) q body c last = refl

poster-last : (m : Message) (d : Dest) (c : Seated) (last : ℕ) → record (poster m d c) { last = last } ≡ poster m d (record c { last = last })
poster-last m (dests.Port q) c last = ap after_post (tag-last m.tag q m.body c last)
poster-last m (dests.All g) c last = refl
poster-last m (dests.One g) c last = refl
poster-last m (dests.OneAt g site) c last = refl

holding-last : (x : MsgId) (tag : Tag) (c : Seated) (last : ℕ) → record (holding x tag c) { last = last } ≡ holding x tag (record c { last = last })
holding-last x tags.Plain c last = refl
holding-last x (tags.Request number back) c last = refl
holding-last x (tags.Reply client number) c last = refl

module _ (J : List Entry → List Entry → Type 0) (keep : Keeping J) where
  abbrev AlikeBut : Turn → Turn → Type 0
  AlikeBut t u = AreAlike J SameButLast t u

  tells : (t : Turn) (j : List Entry) (last : ℕ) (os : List Outgoing) → J t.place.journal j → map unclocked t.puts ≡ map unclocked os → (a : Act) (c : Change)
      → AlikeBut (say a c t) (say a (record c { caller = record c.caller { last = last } }) (with_other j (record t.caller { last = last }) os t))
  tells t j last os r p a c = said J keep SameButLast last-ticks t j (record t.caller { last = last }) os r p a c (record c.caller { last = last }) (mended c.caller last)

  each-last : (f : Turn → Turn) (t u : Turn)
      → ((j : List Entry) (last : ℕ) (os : List Outgoing) → J t.place.journal j → map unclocked t.puts ≡ map unclocked os → AlikeBut (f t) (f (with_other j (record t.caller { last = last }) os t)))
      → AlikeBut t u → AlikeBut (f t) (f u)
  each-last f t u h a =
      subst (λ (x : Turn). AlikeBut (f t) (f x)) (sym (a.is ∙ ap (λ (w : Seated). with_other a.journal w a.puts t) a.callers.is))
      (h a.journal a.callers.last a.puts a.journals a.loads)

  module _ (t : Turn) (j : List Entry) (last : ℕ) (os : List Outgoing) (r : J t.place.journal j) (p : map unclocked t.puts ≡ map unclocked os) where
    abbrev o : Turn
    o = with_other j (record t.caller { last = last }) os t

    posted : (m : Message) (d : Dest) (waiting : Key → Queue) (unheard : MsgId → Bool) (loads : List (ℕ × Cargo))
        → AlikeBut (say (acts.Post m d) (record (unchanged t) { caller = poster m d t.caller; waiting = waiting; unheard = unheard; loads = loads }) t)
        (say (acts.Post m d) (record (unchanged o) { caller = poster m d o.caller; waiting = waiting; unheard = unheard; loads = loads }) o)
    posted m d waiting unheard loads =
        let c : Change = record (unchanged t) { caller = poster m d t.caller; waiting = waiting; unheard = unheard; loads = loads } in
        subst (λ (w : Seated). AlikeBut (say (acts.Post m d) c t) (say (acts.Post m d) (record (unchanged o) { caller = w; waiting = waiting; unheard = unheard; loads = loads }) o)) (poster-last m d t.caller last)
        (tells t j last os r p (acts.Post m d) c)

    direct-alike : (m : Message) (q : Ui) → AlikeBut (posts_direct m q t) (posts_direct m q o)
    direct-alike m q =
        let ws = changed (direct q) (with_last (post m t.place.number)) t.place.waiting in
        go-alike J keep SameButLast last-ticks (direct q)
        (say (acts.Post m (dests.Port q)) (record (unchanged t) { caller = poster m (dests.Port q) t.caller; waiting = ws }) t)
        (say (acts.Post m (dests.Port q)) (record (unchanged o) { caller = poster m (dests.Port q) o.caller; waiting = ws }) o)
        (posted m (dests.Port q) ws t.place.unheard [])

    group-alike : (m : Message) (d : Dest) (g : Ui) → AlikeBut (posts_to_group m d g t) (posts_to_group m d g o)
    group-alike m d g =
        either J keep SameButLast last-ticks (choosing_place t.place g == t.place.number) (chooses_own m d g t) (asks m d (choosing_place t.place g) t) (chooses_own m d g o) (asks m d (choosing_place t.place g) o)
        (chooses-alike J keep SameButLast last-ticks m d g t.place.number (say (acts.Post m d) (record (unchanged t) { caller = poster m d t.caller }) t) (say (acts.Post m d) (record (unchanged o) { caller = poster m d o.caller }) o)
        (posted m d t.place.waiting t.place.unheard []))
        (posted m d t.place.waiting (asked m.id.seat m.id.number t.place.unheard) ((choosing_place t.place g, cargos.Ask m d) ∷ []))

    posts-alike : (m : Message) (d : Dest) → AlikeBut (posts m d t) (posts m d o)
    posts-alike m (dests.Port q) = direct-alike m q
    posts-alike m (dests.All g) = group-alike m (dests.All g) g
    posts-alike m (dests.One g) = group-alike m (dests.One g) g
    posts-alike m (dests.OneAt g site) = group-alike m (dests.OneAt g site) g

    -- Receiving.

    ends-call : (client number : ℕ) → AlikeBut (ends_call client number t) (ends_call client number o)
    ends-call client number =
        either J keep SameButLast last-ticks ((client == t.caller.seat) && is_outstanding number t.caller.client)
        (say (acts.Done number) (record (unchanged t) { caller = with_client t.caller (after_cancel t.caller.client) }) t) (note (acts.Late number) t)
        (say (acts.Done number) (record (unchanged o) { caller = with_client o.caller (after_cancel o.caller.client) }) o) (note (acts.Late number) o)
        (tells t j last os r p (acts.Done number) (record (unchanged t) { caller = with_client t.caller (after_cancel t.caller.client) }))
        (tells t j last os r p (acts.Late number) (unchanged t))

  ends-alike : (tag : Tag) (t u : Turn) → AlikeBut t u → AlikeBut (ends tag t) (ends tag u)
  ends-alike tags.Plain t u a = a
  ends-alike (tags.Request number back) t u a = a
  ends-alike (tags.Reply client number) t u a = each-last (ends_call client number) t u (λ j last os r p. ends-call t j last os r p client number) a

  module _ (t : Turn) (j : List Entry) (last : ℕ) (os : List Outgoing) (r : J t.place.journal j) (p : map unclocked t.puts ≡ map unclocked os) where
    abbrev v : Turn
    v = with_other j (record t.caller { last = last }) os t

    takes-alike : (q : Ui) (position : ℕ) (x : MsgId) (m : Option Message) → AlikeBut (takes q position x m t) (takes q position x m v)
    takes-alike q position x None = tells t j last os r p (acts.Take q position x) (unchanged t)
    takes-alike q position x (Some m) =
        let ports = replace q (after_take t.caller.actor) t.place.ports in
        let c : Change = record (unchanged t) { caller = holding m.id m.tag t.caller; ports = ports } in
        ends-alike m.tag
        (say (acts.Take q position x) c t)
        (say (acts.Take q position x) (record (unchanged v) { caller = holding m.id m.tag v.caller; ports = ports }) v)
        (subst (λ (w : Seated). AlikeBut (say (acts.Take q position x) c t) (say (acts.Take q position x) (record (unchanged v) { caller = w; ports = ports }) v)) (holding-last m.id m.tag t.caller last)
        (tells t j last os r p (acts.Take q position x) c))

    does-alike : (a : Act) → AlikeBut (does a t) (does a v)
    does-alike (acts.Make q actor capacity) =
        tells t j last os r p (acts.Make q actor capacity) (record (unchanged t) { ports = t.place.ports ++ new_record q actor capacity ∷ [] })
    does-alike (acts.Post m d) = posts-alike t j last os r p m d
    does-alike (acts.Take q position x) = takes-alike q position x (first_message (find_port q t.place.ports))
    does-alike (acts.Rehome q actor) =
        tells t j last os r p (acts.Rehome q actor) (record (unchanged t) { ports = replace q (rehomed actor) t.place.ports })
    does-alike (acts.Depart q to actor hop) =
        tells t j last os r p (acts.Depart q to actor hop) (record (unchanged t) {
          ports = without q t.place.ports;
          known = learned q to hop t.place.known;
          loads = transfer_to to actor hop (find_port q t.place.ports);
        })
    does-alike (acts.Delete q xs) =
        tells t j last os r p (acts.Delete q xs) (record (unchanged t) { ports = without q t.place.ports })
    does-alike (acts.Cancel number) =
        tells t j last os r p (acts.Cancel number) (record (unchanged t) { caller = with_client t.caller (after_cancel t.caller.client) })
    does-alike a = tells t j last os r p a (unchanged t)

    -- The own act is the same.

    owns : (c : Command) → own c t ≡ own c v
    owns (Command.Make actor capacity) =
        ap (λ n. cond (not (has_actor t.place.layout actor)) (acts.NoActor actor)
        (cond (nat_le (PORTS_PER_SITE_LIMIT / t.place.layout.turns) n) (acts.MakeFull actor)
        (acts.Make (record { site = actor.site; kind = kinds.Port; number = n * t.place.layout.turns + (t.place.number - 1) % t.place.layout.turns + 1 }) actor capacity)))
        (keep.reads t.place.journal j r).ports
    owns (Command.GroupMake site) =
        ap (λ n. cond (not (has_site t.place.layout site)) (acts.NoSite site)
        (cond (nat_le GROUPS_PER_SITE_LIMIT n) (acts.GroupsFull site) (acts.GroupMake (record { site = site; kind = kinds.Group; number = n + 1 }))))
        (keep.reads t.place.journal j r).groups
    owns (Command.Join g q) =
        λ i. cond (not ((keep.reads t.place.journal j r).named g i)) (acts.NoGroup g) (cond (is_member q ((keep.reads t.place.journal j r).members_are g i)) (acts.There g q) (cond (nat_le MEMBERS_LIMIT (length ((keep.reads t.place.journal j r).members_are g i))) (acts.MembersFull g) (acts.Join g q)))
    owns (Command.Leave g q) =
        λ i. cond (not ((keep.reads t.place.journal j r).named g i)) (acts.NoGroup g) (cond (is_member q ((keep.reads t.place.journal j r).members_are g i)) (acts.Leave g q) (acts.NotThere g q))
    owns c = refl

    commands : (c : Command) → AlikeBut (act c t) (act c v)
    commands c = subst (λ a. AlikeBut (does (own c t) t) (does a v)) (owns c) (does-alike (own c t))

  -- and the act that answers is the same
  pub owns-alike : (c : Command) (t u : Turn) → AlikeBut t u → own c t ≡ own c u
  owns-alike c t u a =
      owns t a.journal a.callers.last a.puts a.journals a.loads c
      ∙ ap (own c) (sym (a.is ∙ ap (λ (w : Seated). with_other a.journal w a.puts t) a.callers.is))

  pub commands-alike : (c : Command) (t u : Turn) → AlikeBut t u → AlikeBut (act c t) (act c u)
  commands-alike c t u a = each-last (act c) t u (λ j last os r p. commands t j last os r p c) a

-- Both relations of journals are kept.

pub keep_reads : Keeping ReadAlike
keep_reads = record { none = acts-read [] [] refl; more = read-more; reads = λ j k h. h }

pub keep_acts : Keeping ActAlike
keep_acts = record { none = refl; more = λ a j k c d p q s r h. ap (λ xs. a ∷ xs) h; reads = acts-read }
