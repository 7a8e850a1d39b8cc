-- A choice is made ready, and carried out.
use Rattle.std.proofs.Common.{◌≡◌, ℕ, suc, max, ◌+◌, ◌-◌, ◌<◌, ◌≤◌, ◌==◌, ◌&&◌, true, false, not, cond, Some, Result, Ok, Err, IfOk, OnOk, OnErr, List, [], ◌∷◌, ◌++◌, length, take, nat_le, get_or, All, length-append, refl, sym, ◌∙◌, ap, subst, arith}
use Rattle.std.proofs.lemmas.Bool.{and_parts}
use Rattle.std.proofs.lemmas.List.{take_more, length-take-le, length-map}
use Rattle.std.proofs.lemmas.List.Elements.{All-same, All-nil, All-cons}
use Rattle.chorus_ui.specs.declared.ui.Ui.{Ui}
use Rattle.chorus_ui.specs.Name.{same_ui}
use Rattle.chorus_ui.specs.declared.kind.Kind.TheVariants as kinds
use Rattle.chorus_entry.specs.declared.tag.Tag.TheVariants as tags
use Rattle.chorus_entry.specs.declared.act.Act.{Act}
use Rattle.chorus_entry.specs.declared.answer.Answer.TheVariants as A
use Rattle.chorus_entry.specs.declared.command.Command.{Command}
use Rattle.chorus_entry.specs.Kinds.{has_kinds_in_tag}
use Rattle.chorus_entry.specs.Ranges.{has_range_of_id, has_range_of_tag}
use Rattle.chorus_entry.specs.Message.{as_copy}
use Rattle.law_machine.specs.declared.reply.Reply.{Reply}
use Rattle.law_machine.specs.Trying.{report}
use Rattle.law_machine.specs.Own.{next_message}
use Rattle.law_machine.specs.Doing.{choosing_place, chooses_own, asks, posts, posts_to_group}
use Rattle.law_machine.specs.Working.{answers_ask}
use Rattle.law_machine.specs.Replies.{choice_reply, group_reply, posted_reply}
use Rattle.law_machine.specs.PlaceMachine.{act}
use Rattle.chorus_place.specs.PlaceTables.Commands.{Performed}
use Rattle.chorus_entry.specs.declared.id.MsgId.{MsgId}
use Rattle.chorus_entry.specs.declared.dest.Dest.{Dest}
use Rattle.chorus_entry.specs.declared.dest.Dest.TheVariants as D
use Rattle.chorus_entry.specs.declared.message.Message.{Message}
use Rattle.chorus_entry.specs.Dest.{group_in}
use Rattle.chorus_entry.specs.Members.{is_member, are_distinct}
use Rattle.chorus_groups.specs.declared.choice.Choice.{Choice}
use Rattle.chorus_groups.specs.declared.choice.Choice.TheVariants as choices
use Rattle.chorus_groups.specs.Made.{made_of, chosen_in}
use Rattle.chorus_calls.specs.Callers.{Seated, new_caller}
use Rattle.place_unsettled.specs.declared.wait.Key.{Key}
use Rattle.place_unsettled.specs.Queues.{Queue, queue, room, changed, with_last}
use Rattle.law_machine.specs.PlaceState.{PlaceState, Turn, newest, greatest_clock, unchanged, say}
use Rattle.law_machine.specs.Choosing.{by_group, all_go, copy, with_copies, choice, chooses, chooses_these}
use Rattle.chorus_place.specs.declared.tables.copies.Course.{Course}
use Rattle.chorus_place.specs.declared.tables.copies.MemberCopy.{MemberCopy}
use Rattle.chorus_place.specs.PlaceTables.Tables.{Tables, state, turn, IsPort, IsSound}
use Rattle.chorus_place.specs.PlaceTables.Going.{leaving_to}
use Rattle.chorus_place.specs.PlaceTables.Groups.{ports_of, when_free, free_leaving, going, waiting_for, AllGoing, members_of, with_each, HaveLines, IsCopy, chosen, leaving_with, courses_of, posted_alone}
use Rattle.chorus_place.specs.declared.turns.with_groups.group_turns.Chosen.{Chosen}
use Rattle.chorus_place.specs.PlaceTurns.WithGroups.GroupTurns.{IsChoiceReady, IsPrepared, IsAskReady, chosen_go, copies}
use Rattle.chorus_place.proofs.PlaceTables.Reports.{at-key}
use Rattle.chorus_place.proofs.PlaceTables.Groups.{Agree, or-none, not-at, other-key, not-here, member-first, member-more, waiting-same, put-elsewhere}

-- Lists that are made.

copies-last : (m : Message) (d : Dest) (home n : ℕ) (qs : List Ui) (q : Ui)
    → copies m d home n (qs ++ q ∷ []) ≡ copies m d home n qs ++ record { port = q; wait = copy m d home (n + length qs) } ∷ []
copies-last m d home n [] q = let e : n ≡ n + 0 = omega arith in ap (λ k. record { port = q; wait = copy m d home k } ∷ []) e
copies-last m d home n (r ∷ rs) q =
    let e : n + 1 + length rs ≡ n + length (r ∷ rs) = omega arith in
    ap (λ xs. record { port = r; wait = copy m d home n } ∷ xs)
    (copies-last m d home (n + 1) rs q ∙ ap (λ k. copies m d home (n + 1) rs ++ record { port = q; wait = copy m d home k } ∷ []) e)

pub copies-more : (m : Message) (d : Dest) (home : ℕ) (qs : List Ui) (i : ℕ) (q : Ui) → i < length qs → get_or qs i q ≡ q
    → copies m d home 1 (take (i + 1) qs) ≡ copies m d home 1 (take i qs) ++ record { port = q; wait = copy m d home (i + 1) } ∷ []
copies-more m d home qs i q lt e =
    let within : i ≤ length qs = omega (arith, lt) in
    let len = length-take-le i qs within in
    let number : 1 + length (take i qs) ≡ i + 1 = omega (arith, len) in
    ap (copies m d home 1) (take_more qs i q lt ∙ ap (λ x. take i qs ++ x ∷ []) e)
    ∙ copies-last m d home 1 (take i qs) q
    ∙ ap (λ k. copies m d home 1 (take i qs) ++ record { port = q; wait = copy m d home k } ∷ []) number

-- Who is chosen.

-- The copies wait.

-- the queue of a port that is no member of these stays
untouched : (g q : Ui) (cs : List MemberCopy) (f : Key → Queue) → is_member q (members_of cs) ≡ false → with_each g cs f (by_group g q) ≡ f (by_group g q)
untouched g q [] f h = refl
untouched g q (c ∷ cs) f h =
    let parts = or-none (same_ui c.port q) (is_member q (members_of cs)) h in
    untouched g q cs (changed (by_group g c.port) (with_last c.wait) f) parts.1
    ∙ not-at (by_group g c.port) (by_group g q) (with_last c.wait) f (other-key g c.port q parts.0)

-- the queue of the first has its copy
first-put : (g : Ui) (c : MemberCopy) (cs : List MemberCopy) (f : Key → Queue) → are_distinct (members_of (c ∷ cs)) ≡ true
    → with_each g (c ∷ cs) f (by_group g c.port) ≡ with_last c.wait (f (by_group g c.port))
first-put g c cs f h =
    untouched g c.port cs (changed (by_group g c.port) (with_last c.wait) f) (not-here c.port (members_of cs) h) ∙ at-key (by_group g c.port) (with_last c.wait) f

tail-distinct : (q : Ui) (qs : List Ui) → are_distinct (q ∷ qs) ≡ true → are_distinct qs ≡ true
tail-distinct q qs h = (and_parts (not (is_member q qs)) (are_distinct qs) h).1

put-courses : (g : Ui) (s : PlaceState) (cs : List MemberCopy) (f : Key → Queue) → are_distinct (members_of cs) ≡ true → Agree g (members_of cs) f s.waiting
    → going g (record s { waiting = with_each g cs f }) (members_of cs) ≡ courses_of g s cs
put-courses g s [] f h a = refl
put-courses g s (c ∷ cs) f h a =
    let k = by_group g c.port in
    let here = first-put g c cs f h ∙ ap (with_last c.wait) (a c.port (member-first c.port (members_of cs))) in
    let one : free_leaving k (record s { waiting = with_each g (c ∷ cs) f }) ≡ leaving_with k c.wait s =
    ap (λ (x : Queue). when_free x.tried (leaving_to s.layout s.number c.port (newest s c.port).to x.waits)) here in
    let rest = put-courses g s cs (changed k (with_last c.wait) f) (tail-distinct c.port (members_of cs) h)
    (λ q m. put-elsewhere g c cs f h q m ∙ a q (member-more q c.port (members_of cs) m)) in
    λ i. record { port = c.port; again = one i } ∷ rest i

put-count : (g : Ui) (cs : List MemberCopy) (f : Key → Queue) → are_distinct (members_of cs) ≡ true
    → waiting_for g (members_of cs) (with_each g cs f) ≡ waiting_for g (members_of cs) f + length cs
put-count g [] f h = refl
put-count g (c ∷ cs) f h =
    let k = by_group g c.port in
    let one = ap (λ (x : Queue). length x.waits) (first-put g c cs f h) ∙ length-append (f k).waits (c.wait ∷ []) in
    let rest = put-count g cs (changed k (with_last c.wait) f) (tail-distinct c.port (members_of cs) h) in
    let same = waiting-same g (members_of cs) (changed k (with_last c.wait) f) f (put-elsewhere g c cs f h) in
    omega (arith, one, rest, same)

course-ports : (g : Ui) (s : PlaceState) (cs : List MemberCopy) → ports_of (courses_of g s cs) ≡ members_of cs
course-ports g s [] = refl
course-ports g s (c ∷ cs) = ap (λ xs. c.port ∷ xs) (course-ports g s cs)

course-count : (g : Ui) (s : PlaceState) (cs : List MemberCopy) → length (courses_of g s cs) ≡ length cs
course-count g s cs = length-map cs (λ (c : MemberCopy). record { port = c.port; again = leaving_with (by_group g c.port) c.wait s })

max-same : (n : ℕ) → max n n ≡ n
max-same n = omega arith

-- once the copies wait, their messages may go
pub carries : (x : MsgId) (g : Ui) (home : ℕ) (made : Choice) (cs : List MemberCopy) (course : List Course) (p : Tables) (c : Seated) (u : Turn) (entries packets : ℕ)
    → IsChoiceReady g home made cs course 1 p → greatest_clock (turn p c) ≤ 4611686018427387904 → u ≡ chosen x g home cs (turn p c)
    → entries ≡ p.journal.spare - 1 → p.room ≤ packets + 1 → AllGoing g (ports_of course) u u course entries packets
carries x g home made cs course p c u entries packets h clock is spare rest =
    subst (λ v. AllGoing g (ports_of course) v v course entries packets) (sym is) (subst (λ xs. AllGoing g (ports_of xs) v v xs entries packets) (sym h.courses) ready)
  where
    v : Turn
    v = chosen x g home cs (turn p c)

    ports : ports_of (courses_of g (state p) cs) ≡ members_of cs
    ports = course-ports g (state p) cs

    count : waiting_for g (ports_of (courses_of g (state p) cs)) v.place.waiting ≡ waiting_for g (members_of cs) (queue p.waits) + length cs
    count = ap (λ qs. waiting_for g qs (with_each g cs (queue p.waits))) ports ∙ put-count g cs (queue p.waits) h.distinct

    ready : AllGoing g (ports_of (courses_of g (state p) cs)) v v (courses_of g (state p) cs) entries packets
    ready =
        let n = count in
        let k = course-count g (state p) cs in
        let one = h.spare in
        let two = h.room in
        let few = h.few in
        let later = max-same (greatest_clock (turn p c) + 1) in
        record {
          same = refl;
          kinds = All-same IsPort (ports_of (courses_of g (state p) cs)) (members_of cs) ports h.kinds;
          distinct = ap are_distinct ports ∙ h.distinct;
          courses = sym (put-courses g (state p) cs (queue p.waits) h.distinct (λ q m. refl)) ∙ ap (going g v.place) (sym ports);
          spare = omega (arith, n, one, spare);
          room = omega (arith, n, k, two, rest);
          clock = omega (arith, n, k, few, clock, later);
        }

-- what was carried out is what was ready
pub carried : (x : MsgId) (g : Ui) (home : ℕ) (made : Choice) (ms : List Ui) (cs : List MemberCopy) (course : List Course) (s : PlaceState) (t u v : Turn)
    → made ≡ made_of (members_of cs) → made ≡ choices.Members ms → course ≡ courses_of g s cs → u ≡ chosen x g home cs t → v ≡ all_go g (ports_of course) u
    → v ≡ chosen_go x g home cs t
carried x g home made ms [] course s t u v e some c is goes = absurd (let none : choices.NoMember ≡ choices.Members ms = sym e ∙ some in cc)
carried x g home made ms (y ∷ ys) course s t u v e some c is goes =
    goes ∙ ap (λ (w : Turn). all_go g (ports_of course) w) is ∙ ap (λ xs. all_go g xs (chosen x g home (y ∷ ys) t)) (ap ports_of c ∙ course-ports g s (y ∷ ys))

-- All is ready.

pub made-in : (qs : List Ui) → chosen_in (made_of qs) ≡ qs
made-in [] = refl
made-in (q ∷ qs) = refl

pub members-copies : (m : Message) (d : Dest) (home n : ℕ) (qs : List Ui) → members_of (copies m d home n qs) ≡ qs
members-copies m d home n [] = refl
members-copies m d home n (q ∷ qs) = ap (λ xs. q ∷ xs) (members-copies m d home (n + 1) qs)

count-copies : (m : Message) (d : Dest) (home n : ℕ) (qs : List Ui) → length (copies m d home n qs) ≡ length qs
count-copies m d home n [] = refl
count-copies m d home n (q ∷ qs) = ap suc (count-copies m d home (n + 1) qs)

-- a copy is within its ranges
sound-copy : (m : Message) (n : ℕ) → IsSound m → n ≤ 32 → IsSound (as_copy m n)
sound-copy m n h lt =
    let body = and_parts (has_range_of_id m.id && has_range_of_tag m.tag && has_kinds_in_tag m.tag) (nat_le (length m.body) 4096) h in
    let kinds = and_parts (has_range_of_id m.id && has_range_of_tag m.tag) (has_kinds_in_tag m.tag) body.0 in
    let tag = and_parts (has_range_of_id m.id) (has_range_of_tag m.tag) kinds.0 in
    let id = and_parts (nat_le 1 m.id.number) (nat_le m.id.copy 32) tag.0 in
    let number : nat_le n 32 ≡ true = grind (arith, lt) in
    λ i. id.0 i && number i && tag.1 i && kinds.1 i && body.1 i

copies-sound : (m : Message) (d : Dest) (home n : ℕ) (qs : List Ui) → IsSound m → n + length qs ≤ 33 → All (IsCopy home) (copies m d home n qs)
copies-sound m d home n [] h few = All-nil (IsCopy home)
copies-sound m d home n (q ∷ qs) h few =
    All-cons (IsCopy home) (record { port = q; wait = copy m d home n }) (copies m d home (n + 1) qs) (refl, sound-copy m n h (omega (arith, few)))
    (copies-sound m d home (n + 1) qs h (omega (arith, few)))

pub all-ready : (m : Message) (d : Dest) (g : Ui) (home : ℕ) (p r now : Tables) (made : Choice) (qs all : List Ui) (cs : List MemberCopy) (course : List Course) (count : ℕ)
    → made ≡ made_of all → qs ≡ all → All IsPort all → are_distinct all ≡ true → length all ≤ 32 → IsSound m → cs ≡ copies m d home 1 qs
    → count ≡ waiting_for g qs (queue p.waits) + length qs → count ≤ 4611686018427387904 → r.waits ≡ p.waits → count + 2 ≤ r.journal.spare → count + length qs + 1 ≤ r.room
    → now ≡ record r { waits = now.waits } → ((k : Key) → queue now.waits k ≡ queue r.waits k) → HaveLines g now.waits qs → course ≡ courses_of g (state now) cs
    → IsChoiceReady g home made cs course 2 now
all-ready m d g home p r now made qs all cs course count is same kinds distinct few sound copied counted within waits spare packet kept queues lines courses =
    record {
      chosen = is ∙ ap made_of (sym ms);
      kinds = All-same IsPort (members_of cs) all ms kinds;
      distinct = ap are_distinct ms ∙ distinct;
      copied = subst (All (IsCopy home)) (sym copied) (copies-sound m d home 1 qs sound (omega (arith, few, n)));
      courses = courses;
      lines = subst (HaveLines g now.waits) (same ∙ sym ms) lines;
      few = omega (arith, counted, within, all-waiting, k);
      spare = omega (arith, counted, spare, all-waiting, k, entries);
      room = omega (arith, counted, packet, all-waiting, k, packets);
    }
  where
    ms : members_of cs ≡ all
    ms = ap members_of copied ∙ members-copies m d home 1 qs ∙ same

    n : length qs ≡ length all
    n = ap (λ (xs : List Ui). length xs) same

    k : length cs ≡ length qs
    k = ap (λ (xs : List MemberCopy). length xs) copied ∙ count-copies m d home 1 qs

    all-waiting : waiting_for g (members_of cs) (queue now.waits) ≡ waiting_for g qs (queue p.waits)
    all-waiting =
        ap (λ xs. waiting_for g xs (queue now.waits)) (ms ∙ sym same)
        ∙ waiting-same g qs (queue now.waits) (queue p.waits) (λ q x. queues (by_group g q) ∙ ap (λ w. queue w (by_group g q)) waits)

    entries : now.journal.spare ≡ r.journal.spare
    entries = ap (λ (x : Tables). x.journal.spare) kept

    packets : now.room ≡ r.room
    packets = ap (λ (x : Tables). x.room) kept

-- The choice is the machine's.

each-copy : (m : Message) (d : Dest) (g : Ui) (home n : ℕ) (qs : List Ui) (f : Key → Queue) → with_each g (copies m d home n qs) f ≡ with_copies m d g home n qs f
each-copy m d g home n [] f = refl
each-copy m d g home n (q ∷ qs) f = each-copy m d g home (n + 1) qs (changed (by_group g q) (with_last (copy m d home n)) f)

pub chosen-these : (m : Message) (d : Dest) (g : Ui) (home : ℕ) (qs : List Ui) (t : Turn) → chosen_go m.id g home (copies m d home 1 qs) t ≡ chooses_these m d g home qs t
chosen-these m d g home [] t = refl
chosen-these m d g home (q ∷ qs) t =
    let ms = members-copies m d home 1 (q ∷ qs) in
    let queues = each-copy m d g home 1 (q ∷ qs) t.place.waiting in
    λ i. all_go g (ms i) (say (Act.Choose m.id g (ms i)) (record (unchanged t) { waiting = queues i; loads = report t.place.number home m.id (A.Chosen (length (ms i))) }) t)

pub asked-for : (m : Message) (d : Dest) (g : Ui) (home : ℕ) (t : Turn) → group_in d ≡ Some g → chooses m d g home t ≡ answers_ask home m d t
asked-for m (D.Port q) g home t e = absurd (cc)
asked-for m (D.All x) g home t e = let same : g ≡ x = cc in ap (λ u. chooses m (D.All x) u home t) same
asked-for m (D.One x) g home t e = let same : g ≡ x = cc in ap (λ u. chooses m (D.One x) u home t) same
asked-for m (D.OneAt x site) g home t e = let same : g ≡ x = cc in ap (λ u. chooses m (D.OneAt x site) u home t) same

-- an Ask was answered: t is the turn before the room was made, and u behind it
pub answered-ask : (m : Message) (d : Dest) (g : Ui) (home : ℕ) (cs : List MemberCopy) (t u v : Turn) → group_in d ≡ Some g → u ≡ t → cs ≡ copies m d home 1 (choice d t.place)
    → v ≡ chosen_go m.id g home cs u → v ≡ answers_ask home m d t
answered-ask m d g home cs t u v e same made done =
    done ∙ ap (chosen_go m.id g home cs) same ∙ ap (λ xs. chosen_go m.id g home xs t) made ∙ chosen-these m d g home (choice d t.place) t ∙ asked-for m d g home t e

-- the group of a destination is one
pub one-group : (d : Dest) (g h : Ui) → group_in d ≡ Some g → group_in d ≡ Some h → g ≡ h
one-group d g h e f = cc

ready-less : (g : Ui) (home : ℕ) (made : Choice) (cs : List MemberCopy) (course : List Course) (p : Tables) → IsChoiceReady g home made cs course 2 p → IsChoiceReady g home made cs course 1 p
ready-less g home made cs course p h =
    let spare = h.spare in
    record { chosen = h.chosen; kinds = h.kinds; distinct = h.distinct; copied = h.copied; courses = h.courses; lines = h.lines; few = h.few; spare = omega (arith, spare); room = h.room }

-- an Ask is ready, behind what changed nothing
pub ask-ready : {E : Type 0} (res : Result Chosen E) (m : Message) (d : Dest) (g : Ui) (home : ℕ) (p now : Tables) → group_in d ≡ Some g → ((c : Seated) → turn now c ≡ turn p c)
    → IfOk res (λ made. IsPrepared g home made 2 now) → IfOk res (λ made. made.copies.items ≡ copies m d home 1 (choice d (state p))) → IfOk res (λ made. IsAskReady home m d made now)
ask-ready (Ok made) m d g home p now e same ready those =
    record {
      group = g;
      asked = e;
      prepared = ready-less g home made.choice made.copies.items made.courses.items now ready;
      those = those ∙ ap (λ (t : Turn). copies m d home 1 (choice d t.place)) (sym (same (new_caller 0 g 0)));
    }
ask-ready (Err x) m d g home p now e same ready those = tt

-- the post was made, and all is still ready
pub ready-posted : (g : Ui) (home : ℕ) (made : Choice) (cs : List MemberCopy) (course : List Course) (p now : Tables) → IsChoiceReady g home made cs course 2 p
    → now ≡ record p { journal = now.journal } → now.journal.spare ≡ p.journal.spare - 1 → IsChoiceReady g home made cs course 1 now
ready-posted g home made cs course p now h is entries =
    let spare = h.spare in
    subst (IsChoiceReady g home made cs course 1) (sym is)
    (record { chosen = h.chosen; kinds = h.kinds; distinct = h.distinct; copied = h.copied; courses = h.courses; lines = h.lines; few = h.few; spare = omega (arith, spare, entries); room = h.room })

same-choice : (m : Message) (d : Dest) (t : Turn) → choice d (posted_alone m d t).place ≡ choice d t.place
same-choice m (D.Port q) t = refl
same-choice m (D.All g) t = refl
same-choice m (D.One g) t = refl
same-choice m (D.OneAt g site) t = refl

posts-alone : (m : Message) (d : Dest) (g : Ui) (t : Turn) → group_in d ≡ Some g → chooses m d g t.place.number (posted_alone m d t) ≡ chooses_own m d g t
posts-alone m (D.Port q) g t e = absurd (cc)
posts-alone m (D.All x) g t e = refl
posts-alone m (D.One x) g t e = refl
posts-alone m (D.OneAt x site) g t e = refl

pub posted-here : (m : Message) (d : Dest) (g : Ui) (home : ℕ) (cs : List MemberCopy) (t s u v : Turn) → group_in d ≡ Some g → home ≡ t.place.number → s ≡ t → u ≡ posted_alone m d s
    → cs ≡ copies m d home 1 (choice d t.place) → v ≡ chosen_go m.id g home cs u → v ≡ chooses_own m d g t
posted-here m d g home cs t s u v e here same post made done =
    done ∙ ap (chosen_go m.id g home cs) (post ∙ ap (posted_alone m d) same) ∙ ap (λ xs. chosen_go m.id g home xs (posted_alone m d t)) made
    ∙ chosen-these m d g home (choice d t.place) (posted_alone m d t)
    ∙ ap (λ xs. chooses_these m d g home xs (posted_alone m d t)) (sym (same-choice m d t))
    ∙ ap (λ n. chooses m d g n (posted_alone m d t)) here
    ∙ posts-alone m d g t e

-- The reply.

-- The command.

posts-by : (m : Message) (d : Dest) (g : Ui) (t : Turn) → group_in d ≡ Some g → posts m d t ≡ posts_to_group m d g t
posts-by m (D.Port q) g t e = absurd (cc)
posts-by m (D.All x) g t e = let same : x ≡ g = cc in ap (λ u. posts_to_group m (D.All x) u t) same
posts-by m (D.One x) g t e = let same : x ≡ g = cc in ap (λ u. posts_to_group m (D.One x) u t) same
posts-by m (D.OneAt x site) g t e = let same : x ≡ g = cc in ap (λ u. posts_to_group m (D.OneAt x site) u t) same

replies-by : (x : MsgId) (d : Dest) (g : Ui) (t u : Turn) → group_in d ≡ Some g → posted_reply x d t u ≡ group_reply x d g t.place
replies-by x (D.Port q) g t u e = absurd (cc)
replies-by x (D.All h) g t u e = let same : h ≡ g = cc in ap (λ r. group_reply x (D.All h) r t.place) same
replies-by x (D.One h) g t u e = let same : h ≡ g = cc in ap (λ r. group_reply x (D.One h) r t.place) same
replies-by x (D.OneAt h site) g t u e = let same : h ≡ g = cc in ap (λ r. group_reply x (D.OneAt h site) r t.place) same

pub sends-here : (d : Dest) (g : Ui) (body : List ℕ) (m : Message) (t u : Turn) (r : Reply) → group_in d ≡ Some g → (choosing_place t.place g == t.place.number) ≡ true
    → m ≡ next_message tags.Plain body t.caller → u ≡ chooses_own m d g t → r ≡ choice_reply m.id (choice d t.place) → Performed (Command.Send d body) t u r
sends-here d g body m t u r e at is done told =
    let n = next_message tags.Plain body t.caller in
    record {
      done = done ∙ ap (λ x. chooses_own x d g t) is ∙ sym (ap (λ b. cond b (chooses_own n d g t) (asks n d (choosing_place t.place g) t)) at) ∙ sym (posts-by n d g t e);
      answer = told ∙ ap (λ (x : Message). choice_reply x.id (choice d t.place)) is
          ∙ sym (ap (λ b. cond b (choice_reply n.id (choice d t.place)) (Reply.Posted n.id)) at) ∙ sym (replies-by n.id d g t (act (Command.Send d body) t) e);
    }

-- Parts of answers.

pub on-err : {V E : Type 0} (r : Result V E) (P : Type 0) → P → OnErr r P
on-err (Ok x) P p = tt
on-err (Err e) P p = p

pub chosen-list : (made : Choice) (qs all : List Ui) → made ≡ made_of all → qs ≡ chosen_in made → qs ≡ all
chosen-list made qs all e f = f ∙ ap chosen_in e ∙ made-in all

pub kinds-copies : (m : Message) (d : Dest) (home : ℕ) (qs all : List Ui) (cs : List MemberCopy) → cs ≡ copies m d home 1 qs → qs ≡ all → All IsPort all → All IsPort (members_of cs)
kinds-copies m d home qs all cs e f h = All-same IsPort (members_of cs) all (ap members_of e ∙ members-copies m d home 1 qs ∙ f) h

pub posted-clock : (m : Message) (d : Dest) (t : Turn) → greatest_clock (posted_alone m d t) ≡ greatest_clock t + 1
posted-clock m d t = max-same (greatest_clock t + 1)

pub sent-here : {E : Type 0} (res : Result Reply E) (d : Dest) (g : Ui) (body : List ℕ) (m : Message) (t u : Turn) → group_in d ≡ Some g
    → (choosing_place t.place g == t.place.number) ≡ true → m ≡ next_message tags.Plain body t.caller → OnOk res (u ≡ chooses_own m d g t)
    → IfOk res (λ r. r ≡ choice_reply m.id (choice d t.place)) → IfOk res (λ r. Performed (Command.Send d body) t u r)
sent-here (Ok r) d g body m t u e at is done told = sends-here d g body m t u r e at is done told
sent-here (Err x) d g body m t u e at is done told = tt
