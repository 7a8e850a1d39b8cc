-- A place is ready between turns: of each port and route the first message is under way, and members are chosen for each post to
-- a group of its own, or of no place. Each turn leaves it so; no past is needed.
use Rattle.std.proofs.Common.{ℕ, ◌≡◌, ◌+◌, ◌==◌, ◌&&◌, ◌||◌, Bool, true, false, not, cond, List, [], ◌∷◌, ◌++◌, length, Option, Some, None, refl, sym, ◌∙◌, ap, subst, append-nil}
use Rattle.std.specs.List.{filter}
use Rattle.std.proofs.lemmas.Bool.{true≢false}
use Rattle.chorus_ui.specs.declared.ui.Ui.{Ui}
use Rattle.chorus_ui.specs.Name.{same_ui}
use Rattle.chorus_ui.proofs.Names.{from_same_ui}
use Rattle.chorus_entry.specs.declared.entry.Entry.{Entry}
use Rattle.chorus_entry.specs.declared.id.MsgId.{MsgId}
use Rattle.chorus_entry.specs.declared.tag.Tag.{Tag}
use Rattle.chorus_entry.specs.declared.tag.Tag.TheVariants as tags
use Rattle.chorus_entry.specs.declared.dest.Dest.{Dest}
use Rattle.chorus_entry.specs.declared.dest.Dest.TheVariants as dests
use Rattle.chorus_entry.specs.declared.message.Message.{Message}
use Rattle.chorus_entry.specs.declared.command.Command.{Command}
use Rattle.chorus_entry.specs.declared.act.Act.{Act}
use Rattle.chorus_entry.specs.declared.act.Act.TheVariants as acts
use Rattle.chorus_entry.specs.declared.answer.Answer.{Answer}
use Rattle.chorus_entry.specs.declared.answer.Answer.TheVariants as answers
use Rattle.chorus_entry.specs.declared.packet.Packet.{Packet}
use Rattle.chorus_entry.specs.declared.packet.Cargo.{Cargo}
use Rattle.chorus_entry.specs.declared.packet.Cargo.TheVariants as cargos
use Rattle.chorus_entry.specs.Act.{is_command_entry}
use Rattle.chorus_entry.specs.Dest.{group_in}
use Rattle.chorus_entry.proofs.Same.{same_id-self}
use Rattle.chorus_world.specs.declared.place.Location.{Location}
use Rattle.chorus_world.specs.Groups.{posts_to, post_to, is_choosing_place, is_chosen}
use Rattle.chorus_world.specs.Groups as groups
use Rattle.chorus_entry.specs.Same.{are_same}
use Rattle.chorus_world.specs.Places.{taught}
use Rattle.chorus_ports.specs.Table.{find, replace}
use Rattle.chorus_ports.specs.Taking.{after_take}
use Rattle.chorus_calls.specs.Clients.{is_outstanding, after_cancel}
use Rattle.chorus_calls.specs.Callers.{with_client}
use Rattle.place_unsettled.specs.declared.wait.Key.{Key}
use Rattle.place_unsettled.specs.declared.wait.Wait.{Wait}
use Rattle.place_unsettled.specs.Queues.{Queue, changed, passed, with_last, same_key, at}
use Rattle.law_machine.specs.PlaceState.{Turn, Change, newest, unchanged, say, note, next_entry}
use Rattle.law_machine.specs.Trying.{report, settles_here, tries_at, verdict_here, tries, goes_on, goes_unless, go}
use Rattle.law_machine.specs.Choosing.{by_group, copy, choice, with_copies, all_go, chooses_all, chooses_these, chooses}
use Rattle.law_machine.specs.Own.{own}
use Rattle.law_machine.specs.Doing.{holding, poster, direct, post, posts_direct, chooses_own, asks, choosing_place, posts_to_group, posts, ends, takes, first_message, does}
use Rattle.law_machine.specs.PlaceMachine.{act, work}
use Rattle.law_machine.specs.Working.{opens, hears_verdict, told, taught_of, report_of}
use Rattle.law_machine.proofs.Machine.Keys.{same_key-is}
use Rattle.law_machine.proofs.Machine.Queues.{wait_for, at-key, settled-passes, go-goes}
use Rattle.law_machine.proofs.Machine.Follows.{IsSame}
use Rattle.law_machine.proofs.Machine.Follows.{all-go-keeps, work-keeps, does-gives}
use Rattle.law_machine.proofs.Machine.Stays.{act-stays, work-stays}

-- the first message of k is under way, where there is one
abbrev pub ReadyAt : Key → Turn → Type 0
ReadyAt k t = (t.place.waiting k).tried ≡ None → (t.place.waiting k).waits ≡ []

-- members are chosen for the posts to the group g
abbrev pub HasChosen : Ui → Turn → Type 0
HasChosen g t = filter (λ (x : MsgId). not (is_chosen x t.place.journal)) (posts_to g t.place.journal) ≡ []

pub record ReadyHere (t : Turn) : Type 0 where
  pub tried : (k : Key) → ReadyAt k t
  pub chosen : (g : Ui) → is_choosing_place t.place.layout g t.place.number t.place.number ≡ true → HasChosen g t

-- What is under way.

-- a change at k leaves the other queues
at-other : (k j : Key) (f : Queue → Queue) (queues : Key → Queue) → same_key k j ≡ false → changed k f queues j ≡ queues j
at-other k j f queues n = ap (λ b. cond b (f (queues k)) (queues j)) n

ready-same : (j : Key) (t u : Turn) → u.place.waiting j ≡ t.place.waiting j → ReadyAt j t → ReadyAt j u
ready-same j t u e h = subst (λ (q : Queue). q.tried ≡ None → q.waits ≡ []) (sym e) h

go-others : (k j : Key) (t : Turn) → same_key k j ≡ false → (go k t).place.waiting j ≡ t.place.waiting j
go-others k j t n =
    go-goes k (λ (u : Turn). u.place.waiting j ≡ t.place.waiting j)
    (λ w ws a u e f p. at-other k j passed u.place.waiting n ∙ p)
    (λ w ws u e f p. at-other k j (at (Some (newest u.place k.port).to)) u.place.waiting n ∙ p) t refl

module _ (k : Key) where
  tried-ready : (w : Wait) (l : Location) (t : Turn) → ReadyAt k (tries_at k w l t)
  tried-ready w l t e =
      absurd (let bad : Some l.to ≡ None = ap (λ (q : Queue). q.tried) (sym (at-key k (at (Some l.to)) t.place.waiting)) ∙ e in cc)

  -- whatever the rest does where it waits leaves k ready
  abbrev Rest : List Wait → (Turn → Turn) → Type 0
  Rest ws on = (u : Turn) → wait_for k ws u → ReadyAt k (on u)

  tries-ready : (w : Wait) (ws : List Wait) (l : Location) (on : Turn → Turn) (o : Option Answer) (t : Turn) → Rest ws on → wait_for k (w ∷ ws) t → ReadyAt k (tries k w l on o t)
  tries-ready w ws l on (Some a) t next e = next (settles_here k w l.hop a t) (settled-passes k w ws l.hop a t e)
  tries-ready w ws l on None t next e = tried-ready w l t

  goes-on-ready : (ws : List Wait) (t : Turn) → wait_for k ws t → ReadyAt k (goes_on k ws t)
  goes-on-ready [] t e = λ h. ap (λ (q : Queue). q.waits) e
  goes-on-ready (w ∷ ws) t e = tries-ready w ws (newest t.place k.port) (goes_on k ws) (verdict_here k w (newest t.place k.port) t.place) t (goes-on-ready ws) e

  go-here : (t : Turn) → ReadyAt k (go k t)
  go-here t = by (t.place.waiting k).tried refl
    where
      by : (o : Option ℕ) → (t.place.waiting k).tried ≡ o → ReadyAt k (goes_unless k o (t.place.waiting k).waits t)
      by None e =
          let q : t.place.waiting k ≡ record { tried = None; waits = (t.place.waiting k).waits } = ap (λ o. record { tried = o; waits = (t.place.waiting k).waits }) e in
          goes-on-ready (t.place.waiting k).waits t q
      by (Some to) e = λ h. absurd (let bad : Some to ≡ None = sym e ∙ h in cc)

-- where the other queues are ready, all are ready behind it
pub go-ready : (k : Key) (t : Turn) → ((j : Key) → same_key k j ≡ false → ReadyAt j t) → (j : Key) → ReadyAt j (go k t)
go-ready k t h j = by (same_key k j) refl
  where
    by : (b : Bool) → same_key k j ≡ b → ReadyAt j (go k t)
    by true e = subst (λ z. ReadyAt z (go k t)) (same_key-is k j e) (go-here k t)
    by false e = ready-same j t (go k t) (go-others k j t e) (h j e)

-- the key is one of those of the members
abbrev is_among : Ui → List Ui → Key → Bool
is_among g [] j = false
is_among g (q ∷ qs) j = same_key (by_group g q) j || is_among g qs j

all-go-ready : (g : Ui) (qs : List Ui) (t : Turn) → ((j : Key) → is_among g qs j ≡ false → ReadyAt j t) → (j : Key) → ReadyAt j (all_go g qs t)
all-go-ready g [] t h j = h j refl
all-go-ready g (q ∷ qs) t h j = all-go-ready g qs (go (by_group g q) t) (λ i n. by i n (same_key (by_group g q) i) refl) j
  where
    by : (i : Key) → is_among g qs i ≡ false → (b : Bool) → same_key (by_group g q) i ≡ b → ReadyAt i (go (by_group g q) t)
    by i n true e = subst (λ z. ReadyAt z (go (by_group g q) t)) (same_key-is (by_group g q) i e) (go-here (by_group g q) t)
    by i n false e = ready-same i t (go (by_group g q) t) (go-others (by_group g q) i t e) (h i (ap (λ b. b || is_among g qs i) e ∙ n))

copies-other : (m : Message) (d : Dest) (g : Ui) (home n : ℕ) (qs : List Ui) (queues : Key → Queue) (j : Key) → is_among g qs j ≡ false → with_copies m d g home n qs queues j ≡ queues j
copies-other m d g home n [] queues j h = refl
copies-other m d g home n (q ∷ qs) queues j h =
    by (same_key (by_group g q) j) refl h (copies-other m d g home (n + 1) qs (changed (by_group g q) (with_last (copy m d home n)) queues) j)
  where
    by : (b : Bool) → same_key (by_group g q) j ≡ b → (b || is_among g qs j) ≡ false
        → (is_among g qs j ≡ false → with_copies m d g home (n + 1) qs (changed (by_group g q) (with_last (copy m d home n)) queues) j ≡ changed (by_group g q) (with_last (copy m d home n)) queues j)
        → with_copies m d g home (n + 1) qs (changed (by_group g q) (with_last (copy m d home n)) queues) j ≡ queues j
    by true e k ih = absurd (true≢false k)
    by false e k ih = ih k ∙ at-other (by_group g q) j (with_last (copy m d home n)) queues e

abbrev AllReady : Turn → Type 0
AllReady t = (k : Key) → ReadyAt k t

chooses-ready : (m : Message) (d : Dest) (g : Ui) (home : ℕ) (t : Turn) → AllReady t → AllReady (chooses m d g home t)
chooses-ready m d g home t h = these (choice d t.place)
  where
    these : (qs : List Ui) → AllReady (chooses_these m d g home qs t)
    these [] = h
    these (q ∷ qs) =
        all-go-ready g (q ∷ qs) (chooses_all m d g home (q ∷ qs) t)
        (λ j n. ready-same j t (chooses_all m d g home (q ∷ qs) t) (copies-other m d g home 1 (q ∷ qs) t.place.waiting j n) (h j))

group-ready : (m : Message) (d : Dest) (g : Ui) (t : Turn) → AllReady t → AllReady (posts_to_group m d g t)
group-ready m d g t h = by (choosing_place t.place g == t.place.number)
  where
    by : (b : Bool) → AllReady (cond b (chooses_own m d g t) (asks m d (choosing_place t.place g) t))
    by true = chooses-ready m d g t.place.number (say (acts.Post m d) (record (unchanged t) { caller = poster m d t.caller }) t) h
    by false = h

direct-ready : (m : Message) (q : Ui) (t : Turn) → AllReady t → AllReady (posts_direct m q t)
direct-ready m q t h =
    let c : Change = record (unchanged t) {
      caller = poster m (dests.Port q) t.caller;
      waiting = changed (direct q) (with_last (post m t.place.number)) t.place.waiting;
    } in
    let u = say (acts.Post m (dests.Port q)) c t in
    go-ready (direct q) u (λ j n. ready-same j t u (at-other (direct q) j (with_last (post m t.place.number)) t.place.waiting n) (h j))

ends-ready : (tag : Tag) (t : Turn) → AllReady t → AllReady (ends tag t)
ends-ready tags.Plain t h = h
ends-ready (tags.Request n back) t h = h
ends-ready (tags.Reply client n) t h = by ((client == t.caller.seat) && is_outstanding n t.caller.client)
  where
    by : (b : Bool) → AllReady (cond b (say (acts.Done n) (record (unchanged t) { caller = with_client t.caller (after_cancel t.caller.client) }) t) (note (acts.Late n) t))
    by true = h
    by false = h

takes-ready : (q : Ui) (pos : ℕ) (x : MsgId) (o : Option Message) (t : Turn) → AllReady t → AllReady (takes q pos x o t)
takes-ready q pos x None t h = h
takes-ready q pos x (Some m) t h =
    ends-ready m.tag (say (acts.Take q pos x) (record (unchanged t) {
      caller = holding m.id m.tag t.caller;
      ports = replace q (after_take t.caller.actor) t.place.ports;
    }) t) h

does-ready : (a : Act) (t : Turn) → AllReady t → AllReady (does a t)
does-ready (acts.Make q actor capacity) t h = h
does-ready (acts.Post m (dests.Port q)) t h = direct-ready m q t h
does-ready (acts.Post m (dests.All g)) t h = group-ready m (dests.All g) g t h
does-ready (acts.Post m (dests.One g)) t h = group-ready m (dests.One g) g t h
does-ready (acts.Post m (dests.OneAt g n)) t h = group-ready m (dests.OneAt g n) g t h
does-ready (acts.Take q pos x) t h = takes-ready q pos x (first_message (find q t.place.ports)) t h
does-ready (acts.Rehome q actor) t h = h
does-ready (acts.Depart q to actor hop) t h = h
does-ready (acts.Delete q xs) t h = h
does-ready (acts.Cancel n) t h = h
does-ready a t h = h

verdict-ready : (x : MsgId) (k : Key) (a : Answer) (t : Turn) → AllReady t → AllReady (hears_verdict x k a t)
verdict-ready x k a t h =
    let c : Change = record (unchanged t) {
      known = taught_of k.port (taught a) t.place.known;
      waiting = changed k (told a) t.place.waiting;
      loads = report_of t.place.number x a (t.place.waiting k).waits;
    } in
    let u = say (acts.Told x a) c t in
    go-ready k u (λ j n. ready-same j t u (at-other k j (told a) t.place.waiting n) (h j))

opens-ready : (from : ℕ) (c : Cargo) (t : Turn) → AllReady t → AllReady (opens from c t)
opens-ready from (cargos.Try m q route only hop) t h = h
opens-ready from (cargos.Verdict x q route a) t h = verdict-ready x (record { port = q; route = route }) a t h
opens-ready from (cargos.Transfer port) t h = h
opens-ready from (cargos.Ask m (dests.Port q)) t h = h
opens-ready from (cargos.Ask m (dests.All g)) t h = chooses-ready m (dests.All g) g from t h
opens-ready from (cargos.Ask m (dests.One g)) t h = chooses-ready m (dests.One g) g from t h
opens-ready from (cargos.Ask m (dests.OneAt g n)) t h = chooses-ready m (dests.OneAt g n) g from t h
opens-ready from (cargos.Report x a) t h = h

-- What is chosen.

abbrev unchosen_in : List Entry → List MsgId → List MsgId
unchosen_in here xs = filter (λ (x : MsgId). not (is_chosen x here)) xs

-- what was chosen is chosen
chosen-more : (e : Entry) (here : List Entry) (xs : List MsgId) → unchosen_in here xs ≡ [] → unchosen_in (e ∷ here) xs ≡ []
chosen-more e here [] h = refl
chosen-more e here (x ∷ xs) h = by (is_chosen x here) h (chosen-more e here xs)
  where
    by : (b : Bool) → cond (not b) (x ∷ unchosen_in here xs) (unchosen_in here xs) ≡ [] → (unchosen_in here xs ≡ [] → unchosen_in (e ∷ here) xs ≡ [])
        → cond (not (groups.chooses x e.act || b)) (x ∷ unchosen_in (e ∷ here) xs) (unchosen_in (e ∷ here) xs) ≡ []
    by false k ih = absurd (let bad : x ∷ unchosen_in here xs ≡ [] = k in cc)
    by true k ih = go (groups.chooses x e.act)
      where
        go : (c : Bool) → cond (not (c || true)) (x ∷ unchosen_in (e ∷ here) xs) (unchosen_in (e ∷ here) xs) ≡ []
        go true = ih k
        go false = ih k

-- an act that posts nothing to the group keeps it
keeps-chosen : (g : Ui) (a : Act) (c : Change) (t : Turn) → post_to g a ≡ [] → HasChosen g t → HasChosen g (say a c t)
keeps-chosen g a c t n h =
    let e = next_entry a t in
    let here = t.place.journal in
    ap (λ xs. unchosen_in (e ∷ here) (posts_to g here ++ xs)) n
    ∙ (ap (unchosen_in (e ∷ here)) (append-nil (posts_to g here)) ∙ chosen-more e here (posts_to g here) h)

follows-none : (g : Ui) (a : Act) → is_command_entry a ≡ false → post_to g a ≡ []
follows-none g (acts.Post m d) h = absurd (true≢false h)
follows-none g a h = refl

-- the post is chosen by the next entry
both-chosen : (e f : Entry) (here : List Entry) (xs : List MsgId) (x : MsgId) → groups.chooses x e.act ≡ true → unchosen_in here xs ≡ [] → unchosen_in (e ∷ f ∷ here) (xs ++ x ∷ []) ≡ []
both-chosen e f here [] x c h = ap (λ b. cond (not (b || is_chosen x (f ∷ here))) (x ∷ []) []) c
both-chosen e f here (y ∷ xs) x c h = by (is_chosen y here) h (both-chosen e f here xs x c)
  where
    rest : List MsgId
    rest = unchosen_in (e ∷ f ∷ here) (xs ++ x ∷ [])

    by : (b : Bool) → cond (not b) (y ∷ unchosen_in here xs) (unchosen_in here xs) ≡ [] → (unchosen_in here xs ≡ [] → unchosen_in (e ∷ f ∷ here) (xs ++ x ∷ []) ≡ [])
        → cond (not (groups.chooses y e.act || (groups.chooses y f.act || b))) (y ∷ unchosen_in (e ∷ f ∷ here) (xs ++ x ∷ [])) (unchosen_in (e ∷ f ∷ here) (xs ++ x ∷ [])) ≡ []
    by false k ih = absurd (let bad : y ∷ unchosen_in here xs ≡ [] = k in cc)
    by true k ih = go (groups.chooses y e.act) (groups.chooses y f.act)
      where
        go : (c d : Bool) → cond (not (c || (d || true))) (y ∷ rest) rest ≡ []
        go true d = ih k
        go false true = ih k
        go false false = ih k

module _ (g : Ui) (t : Turn) (h : HasChosen g t) where
  follows : (a : Act) (c : Change) (u : Turn) → is_command_entry a ≡ false → IsSame c.caller u.caller → HasChosen g u → HasChosen g (say a c u)
  follows a c u n same k = keeps-chosen g a c u (follows-none g a n) k

  -- the place chooses for its own post
  own-chosen : (m : Message) (d : Dest) → are_same same_ui (Some g) (group_in d) ≡ true → HasChosen g (chooses_own m d g t)
  own-chosen m d this = these (choice d u.place)
    where
      c : Change
      c = record (unchanged t) { caller = poster m d t.caller }

      u : Turn
      u = say (acts.Post m d) c t

      posted : posts_to g u.place.journal ≡ posts_to g t.place.journal ++ m.id ∷ []
      posted = ap (λ b. posts_to g t.place.journal ++ cond b (m.id ∷ []) []) this

      then-chosen : (a : Act) (b : Change) → post_to g a ≡ [] → groups.chooses m.id a ≡ true → HasChosen g (say a b u)
      then-chosen a b none picks =
          let e = next_entry a u in
          let f = next_entry (acts.Post m d) t in
          let here = t.place.journal in
          ap (λ xs. unchosen_in (e ∷ f ∷ here) (posts_to g (f ∷ here) ++ xs)) none
          ∙ (ap (unchosen_in (e ∷ f ∷ here)) (append-nil (posts_to g (f ∷ here)) ∙ posted) ∙ both-chosen e f here (posts_to g here) m.id picks h)

      these : (qs : List Ui) → HasChosen g (chooses_these m d g t.place.number qs u)
      these [] = then-chosen (acts.NoMember m.id g) (record (unchanged u) { loads = report u.place.number t.place.number m.id answers.NoMember }) refl (same_id-self m.id)
      these (q ∷ qs) =
          all-go-keeps (HasChosen g) follows g (q ∷ qs) (chooses_all m d g t.place.number (q ∷ qs) u)
          (then-chosen (acts.Choose m.id g (q ∷ qs)) (record (unchanged u) {
            waiting = with_copies m d g t.place.number 1 (q ∷ qs) u.place.waiting;
            loads = report u.place.number t.place.number m.id (answers.Chosen (length (q ∷ qs)));
          }) refl (same_id-self m.id))

  -- a post to another group, or to a port, adds none
  first-chosen : (a : Act) → post_to g a ≡ [] → HasChosen g (does a t)
  first-chosen a n = does-gives (HasChosen g) follows t a (λ c s. keeps-chosen g a c t n h)

  group-chosen : (m : Message) (d : Dest) (f : Ui) → group_in d ≡ Some f → ((u : Turn) → posts m d u ≡ posts_to_group m d f u) → is_choosing_place t.place.layout g t.place.number t.place.number ≡ true → HasChosen g (posts m d t)
  group-chosen m d f in-it is place = by (same_ui g f) refl
    where
      by : (b : Bool) → same_ui g f ≡ b → HasChosen g (posts m d t)
      by false n = first-chosen (acts.Post m d) (ap (λ o. cond (are_same same_ui (Some g) o) (m.id ∷ []) []) in-it ∙ ap (λ b. cond b (m.id ∷ []) []) n)
      by true y =
          let same : g ≡ f = from_same_ui g f y in
          let this : are_same same_ui (Some g) (group_in d) ≡ true = ap (are_same same_ui (Some g)) in-it ∙ y in
          subst (HasChosen g) (sym (is t ∙ (ap (λ z. posts_to_group m d z t) (sym same) ∙ ap (λ b. cond b (chooses_own m d g t) (asks m d (choosing_place t.place g) t)) place)))
          (own-chosen m d this)

  does-chosen : (a : Act) → is_choosing_place t.place.layout g t.place.number t.place.number ≡ true → HasChosen g (does a t)
  does-chosen (acts.Post m (dests.Port q)) p = first-chosen (acts.Post m (dests.Port q)) refl
  does-chosen (acts.Post m (dests.All f)) p = group-chosen m (dests.All f) f refl (λ u. refl) p
  does-chosen (acts.Post m (dests.One f)) p = group-chosen m (dests.One f) f refl (λ u. refl) p
  does-chosen (acts.Post m (dests.OneAt f n)) p = group-chosen m (dests.OneAt f n) f refl (λ u. refl) p
  does-chosen a p = first-chosen a refl

-- So each turn leaves the place ready.

abbrev pub ActsReady : Type 0
ActsReady = (c : Command) (t : Turn) → ReadyHere t → ReadyHere (act c t)

abbrev pub WorksReady : Type 0
WorksReady = (k : Packet) (t : Turn) → ReadyHere t → ReadyHere (work k t)

pub acts-ready : ActsReady
acts-ready c t h =
    let s = act-stays c t in
    record {
      tried = does-ready (own c t) t h.tried;
      chosen = λ g p. (
          let here = (λ i. is_choosing_place (sym s.layout i) g (sym s.number i) (sym s.number i)) ∙ p in
          does-chosen g t (h.chosen g here) (own c t) here);
    }

pub works-ready : WorksReady
works-ready k t h =
    let s = work-stays k t in
    record {
      tried = opens-ready k.from k.cargo t h.tried;
      chosen = λ g p. (
          let here = (λ i. is_choosing_place (sym s.layout i) g (sym s.number i) (sym s.number i)) ∙ p in
          work-keeps (HasChosen g) (λ a c u n same j. keeps-chosen g a c u (follows-none g a n) j) k t (h.chosen g here));
    }
