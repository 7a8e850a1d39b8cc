-- A turn is a chain of steps: each says one entry with what goes with it. The first one is the command's own act or what the packet
-- brings. So what each step keeps a turn keeps, and a property of turns is one list of cases.
-- s is a step, t the turn before it, k a port and route, w its first message; `answer` is an answer, o the first step.
use Rattle.std.proofs.Common.{ℕ, ◌≡◌, ◌==◌, Bool, true, false, ◌&&◌, cond, List, [], ◌∷◌, ◌++◌, length, Option, Some, None, refl}
use Rattle.chorus_ui.specs.declared.ui.Ui.{Ui}
use Rattle.chorus_entry.specs.declared.id.MsgId.{MsgId}
use Rattle.chorus_entry.specs.declared.tag.Tag.{Tag}
use Rattle.chorus_entry.specs.declared.dest.Dest.{Dest}
use Rattle.chorus_entry.specs.declared.message.Message.{Message}
use Rattle.chorus_entry.specs.declared.act.Act.{Act}
use Rattle.chorus_entry.specs.declared.answer.Answer.{Answer}
use Rattle.chorus_entry.specs.declared.answer.Answer.TheVariants as answers
use Rattle.chorus_entry.specs.declared.packet.Packet.{Packet}
use Rattle.chorus_entry.specs.declared.packet.Cargo.{Cargo}
use Rattle.chorus_entry.specs.declared.record.PortRecord.{PortRecord}
use Rattle.chorus_entry.specs.PortRecord.{new_record}
use Rattle.chorus_world.specs.Places.{taught}
use Rattle.chorus_ports.specs.Table.{find, replace, without}
use Rattle.chorus_ports.specs.Taking.{after_take, rehomed}
use Rattle.chorus_calls.specs.Clients.{is_outstanding, after_cancel}
use Rattle.chorus_calls.specs.Callers.{Seated, with_client}
use Rattle.chorus_hints.specs.Known.{learned}
use Rattle.place_unsettled.specs.declared.wait.Key.{Key}
use Rattle.place_unsettled.specs.declared.wait.Wait.{Wait}
use Rattle.place_unsettled.specs.Queues.{Queue, changed, passed, with_last, at}
use Rattle.place_unsettled.specs.Unheard.{asked, heard}
use Rattle.law_machine.specs.PlaceState.{Turn, Change, newest, unchanged, say}
use Rattle.law_machine.specs.Deciding.{decide, decision, records_after}
use Rattle.law_machine.specs.Trying.{report, go}
use Rattle.law_machine.specs.Choosing.{by_group, choice, with_copies, all_go, chooses_these}
use Rattle.law_machine.specs.Doing.{poster, direct, post, chooses_own, asks, choosing_place, posts_to_group, holding, ends, takes, first_message, transfer_to, does}
use Rattle.law_machine.specs.PlaceMachine.{work}
use Rattle.law_machine.specs.Working.{taught_of, told, report_of, opens}
use Rattle.law_machine.proofs.Machine.Queues.{wait_for, Finds, go-goes}

pub data Step : Type 0 where
  -- the first message of k has its verdict here, or is tried at another place
  Settles : (k : Key) (w : Wait) (answer : Answer) → Step
  Tries : (k : Key) (w : Wait) → Step
  -- these members are chosen for a post of the place `home`, if any
  Chooses : (m : Message) (d : Dest) (g : Ui) (home : ℕ) (qs : List Ui) → Step
  -- a reply that was taken ends the outstanding call, or is late
  EndsCall : (number : ℕ) → Step
  IsLate : (number : ℕ) → Step
  -- a packet is worked off
  AnswersTry : (from : ℕ) (m : Message) (q : Ui) (route : Option Ui) (only : Option ℕ) (tried : ℕ) → Step
  HearsVerdict : (x : MsgId) (k : Key) (answer : Answer) → Step
  Receives : (port : PortRecord) → Step
  Hears : (x : MsgId) (answer : Answer) → Step
  -- a command's own act is said; of a post, where the group's place is asked, by Asks
  Answers : (a : Act) → Step
  Asks : (m : Message) (d : Dest) (to : ℕ) → Step

abbrev pub choice_act : MsgId → Ui → List Ui → Act
choice_act x g [] = Act.NoMember x g
choice_act x g (q ∷ qs) = Act.Choose x g (q ∷ qs)

abbrev pub act_of : Step → Turn → Act
act_of (Settles k w answer) t = decision w.message.id k.port (newest t.place k.port).hop answer
act_of (Tries k w) t = Act.Try w.message.id k.port (newest t.place k.port).to (newest t.place k.port).hop
act_of (Chooses m d g home qs) t = choice_act m.id g qs
act_of (EndsCall number) t = Act.Done number
act_of (IsLate number) t = Act.Late number
act_of (AnswersTry from m q route only tried) t = decision m.id q tried (decide m q only tried t.place)
act_of (HearsVerdict x k answer) t = Act.Told x answer
act_of (Receives port) t = Act.Arrive port.ui port.hop
act_of (Hears x answer) t = Act.Heard x answer
act_of (Answers a) t = a
act_of (Asks m d to) t = Act.Post m d

-- what goes with a post, with a take, and with any own act
abbrev pub with_post : Message → Dest → Turn → Key → Queue
with_post m (Dest.Port q) t = changed (direct q) (with_last (post m t.place.number)) t.place.waiting
with_post m _ t = t.place.waiting

abbrev pub holder : Option Message → Seated → Seated
holder None c = c
holder (Some m) c = holding m.id m.tag c

abbrev pub records_behind : Option Message → Ui → Turn → List PortRecord
records_behind None q t = t.place.ports
records_behind (Some m) q t = replace q (after_take t.caller.actor) t.place.ports

abbrev pub own_change : Act → Turn → Change
own_change (Act.Make q actor capacity) t = record (unchanged t) { ports = t.place.ports ++ new_record q actor capacity ∷ [] }
own_change (Act.Post m d) t = record (unchanged t) { caller = poster m d t.caller; waiting = with_post m d t }
own_change (Act.Take q position x) t =
    let first = first_message (find q t.place.ports) in
    record (unchanged t) { caller = holder first t.caller; ports = records_behind first q t }
own_change (Act.Rehome q actor) t = record (unchanged t) { ports = replace q (rehomed actor) t.place.ports }
own_change (Act.Depart q to actor hop) t =
    record (unchanged t) {
      ports = without q t.place.ports;
      known = learned q to hop t.place.known;
      loads = transfer_to to actor hop (find q t.place.ports);
    }
own_change (Act.Delete q xs) t = record (unchanged t) { ports = without q t.place.ports }
own_change (Act.Cancel number) t = record (unchanged t) { caller = with_client t.caller (after_cancel t.caller.client) }
own_change a t = unchanged t

abbrev pub choice_answer : List Ui → Answer
choice_answer [] = answers.NoMember
choice_answer (q ∷ qs) = answers.Chosen (length (q ∷ qs))

abbrev pub change_of : Step → Turn → Change
change_of (Settles k w answer) t =
    record (unchanged t) {
      ports = records_after answer w.message k.port t.place.ports;
      waiting = changed k passed t.place.waiting;
      loads = report t.place.number w.home w.message.id answer;
    }
change_of (Tries k w) t =
    let located = newest t.place k.port in
    record (unchanged t) {
      waiting = changed k (at (Some located.to)) t.place.waiting;
      loads = (located.to, Cargo.Try w.message k.port k.route w.only located.hop) ∷ [];
    }
change_of (Chooses m d g home qs) t =
    record (unchanged t) {
      waiting = with_copies m d g home 1 qs t.place.waiting;
      loads = report t.place.number home m.id (choice_answer qs);
    }
change_of (EndsCall number) t = record (unchanged t) { caller = with_client t.caller (after_cancel t.caller.client) }
change_of (IsLate number) t = unchanged t
change_of (AnswersTry from m q route only tried) t =
    let answer = decide m q only tried t.place in
    record (unchanged t) {
      ports = records_after answer m q t.place.ports;
      loads = (from, Cargo.Verdict m.id q route answer) ∷ [];
    }
change_of (HearsVerdict x k answer) t =
    record (unchanged t) {
      known = taught_of k.port (taught answer) t.place.known;
      waiting = changed k (told answer) t.place.waiting;
      loads = report_of t.place.number x answer (t.place.waiting k).waits;
    }
change_of (Receives port) t =
    record (unchanged t) {
      ports = t.place.ports ++ port ∷ [];
      known = learned port.ui t.place.number port.hop t.place.known;
    }
change_of (Hears x answer) t = record (unchanged t) { unheard = heard x t.place.unheard }
change_of (Answers a) t = own_change a t
change_of (Asks m d to) t =
    record (unchanged t) {
      caller = poster m d t.caller;
      unheard = asked m.id.seat m.id.number t.place.unheard;
      loads = (to, Cargo.Ask m d) ∷ [];
    }

abbrev pub taken : Step → Turn → Turn
taken s t = say (act_of s t) (change_of s t) t

-- What follows a first step: who is settled or tried is the first of its queue, of which nothing is under way.
pub record IsFirst (k : Key) (w : Wait) (o : Option Answer) (t : Turn) : Type 0 where
  pub rest : List Wait
  pub waits : wait_for k (w ∷ rest) t
  pub finds : Finds k w o t

abbrev pub Follows : Step → Turn → Type 0
Follows (Settles k w answer) t = IsFirst k w (Some answer) t
Follows (Tries k w) t = IsFirst k w None t
Follows (Chooses m d g home qs) t = Unit {0}
Follows (EndsCall number) t = Unit {0}
Follows (IsLate number) t = Unit {0}
Follows _ t = ⊥

-- the first step with a packet: none where an Ask names no group
abbrev pub answered : ℕ → Message → Dest → Turn → Option Step
answered from m (Dest.Port q) t = None
answered from m (Dest.All g) t = Some (Chooses m (Dest.All g) g from (choice (Dest.All g) t.place))
answered from m (Dest.One g) t = Some (Chooses m (Dest.One g) g from (choice (Dest.One g) t.place))
answered from m (Dest.OneAt g site) t = Some (Chooses m (Dest.OneAt g site) g from (choice (Dest.OneAt g site) t.place))

abbrev pub opening : ℕ → Cargo → Turn → Option Step
opening from (Cargo.Try m q route only tried) t = Some (AnswersTry from m q route only tried)
opening from (Cargo.Verdict x q route answer) t = Some (HearsVerdict x (record { port = q; route = route }) answer)
opening from (Cargo.Transfer port) t = Some (Receives port)
opening from (Cargo.Ask m d) t = answered from m d t
opening from (Cargo.Report x answer) t = Some (Hears x answer)

-- the turn behind its first step
abbrev pub begins : Option Step → Turn → Turn
begins None t = t
begins (Some s) t = taken s t

-- What holds behind the first step of a turn, and is kept by each that follows, holds of the turn.
module _ (P : Turn → Type 0) (keeps : (s : Step) (t : Turn) → Follows s t → P t → P (taken s t)) where
  pub go-keeps : (k : Key) (t : Turn) → P t → P (go k t)
  go-keeps k =
      go-goes k P (λ w ws a t e f. keeps (Settles k w a) t (record { rest = ws; waits = e; finds = f }))
      (λ w ws t e f. keeps (Tries k w) t (record { rest = ws; waits = e; finds = f }))

  pub all-go-keeps : (g : Ui) (qs : List Ui) (t : Turn) → P t → P (all_go g qs t)
  all-go-keeps g [] t p = p
  all-go-keeps g (q ∷ qs) t p = all-go-keeps g qs (go (by_group g q) t) (go-keeps (by_group g q) t p)

  these-keep : (m : Message) (d : Dest) (g : Ui) (home : ℕ) (qs : List Ui) (t : Turn) → P (taken (Chooses m d g home qs) t) → P (chooses_these m d g home qs t)
  these-keep m d g home [] t p = p
  these-keep m d g home (q ∷ qs) t p = all-go-keeps g (q ∷ qs) (taken (Chooses m d g home (q ∷ qs)) t) p

  -- with a packet
  pub work-gives : (k : Packet) (t : Turn) → P (begins (opening k.from k.cargo t) t) → P (work k t)
  work-gives k t p = by k.cargo p
    where
      by : (c : Cargo) → P (begins (opening k.from c t) t) → P (opens k.from c t)
      by (Cargo.Verdict x q route answer) p =
          let j : Key = record { port = q; route = route } in
          go-keeps j (taken (HearsVerdict x j answer) t) p
      by (Cargo.Ask m (Dest.All g)) p = these-keep m (Dest.All g) g k.from (choice (Dest.All g) t.place) t p
      by (Cargo.Ask m (Dest.One g)) p = these-keep m (Dest.One g) g k.from (choice (Dest.One g) t.place) t p
      by (Cargo.Ask m (Dest.OneAt g site)) p = these-keep m (Dest.OneAt g site) g k.from (choice (Dest.OneAt g site) t.place) t p
      by _ p = p

  ends-keeps : (tag : Tag) (t : Turn) → P t → P (ends tag t)
  ends-keeps Tag.Plain t p = p
  ends-keeps (Tag.Request number back) t p = p
  ends-keeps (Tag.Reply client number) t p = by ((client == t.caller.seat) && is_outstanding number t.caller.client)
    where
      by : (b : Bool) → P (cond b (taken (EndsCall number) t) (taken (IsLate number) t))
      by true = keeps (EndsCall number) t tt p
      by false = keeps (IsLate number) t tt p

  -- with a command: its own act is said so, or, where it is a post, the group's place is asked
  pub does-gives : (a : Act) (t : Turn) → P (taken (Answers a) t) → ((m : Message) (d : Dest) (to : ℕ) → a ≡ Act.Post m d → P (taken (Asks m d to) t)) → P (does a t)
  does-gives a t = by a
    where
      group : (m : Message) (d : Dest) (g : Ui) → P (say (Act.Post m d) (record (unchanged t) { caller = poster m d t.caller }) t)
          → ((to : ℕ) → P (taken (Asks m d to) t)) → P (posts_to_group m d g t)
      group m d g own ask = to_place (choosing_place t.place g == t.place.number)
        where
          u : Turn
          u = say (Act.Post m d) (record (unchanged t) { caller = poster m d t.caller }) t

          to_place : (b : Bool) → P (cond b (chooses_own m d g t) (asks m d (choosing_place t.place g) t))
          to_place true = these-keep m d g t.place.number (choice d u.place) u (keeps (Chooses m d g t.place.number (choice d u.place)) u tt own)
          to_place false = ask (choosing_place t.place g)

      take : (q : Ui) (position : ℕ) (x : MsgId) (o : Option Message)
          → P (say (Act.Take q position x) (record (unchanged t) { caller = holder o t.caller; ports = records_behind o q t }) t) → P (takes q position x o t)
      take q position x None p = p
      take q position x (Some m) p =
          ends-keeps m.tag (say (Act.Take q position x) (record (unchanged t) { caller = holding m.id m.tag t.caller; ports = replace q (after_take t.caller.actor) t.place.ports }) t) p

      by : (a : Act) → P (taken (Answers a) t) → ((m : Message) (d : Dest) (to : ℕ) → a ≡ Act.Post m d → P (taken (Asks m d to) t)) → P (does a t)
      by (Act.Post m (Dest.Port q)) own ask = go-keeps (direct q) (taken (Answers (Act.Post m (Dest.Port q))) t) own
      by (Act.Post m (Dest.All g)) own ask = group m (Dest.All g) g own (λ to. ask m (Dest.All g) to refl)
      by (Act.Post m (Dest.One g)) own ask = group m (Dest.One g) g own (λ to. ask m (Dest.One g) to refl)
      by (Act.Post m (Dest.OneAt g site)) own ask = group m (Dest.OneAt g site) g own (λ to. ask m (Dest.OneAt g site) to refl)
      by (Act.Take q position x) own ask = take q position x (first_message (find q t.place.ports)) own
      by _ own ask = own

-- What each step keeps that answers no command, a turn with a packet keeps.
abbrev pub Works : Step → Turn → Type 0
Works (Settles k w answer) t = IsFirst k w (Some answer) t
Works (Tries k w) t = IsFirst k w None t
Works (Answers a) t = ⊥
Works (Asks m d to) t = ⊥
Works _ t = Unit {0}

pub follows-works : (s : Step) (t : Turn) → Follows s t → Works s t
follows-works (Settles k w answer) t f = f
follows-works (Tries k w) t f = f
follows-works (Answers a) t f = f
follows-works (Asks m d to) t f = f
follows-works _ t f = tt

pub work-keeps : (P : Turn → Type 0) → ((s : Step) (t : Turn) → Works s t → P t → P (taken s t)) → (k : Packet) (t : Turn) → P t → P (work k t)
work-keeps P keeps k t p = work-gives P (λ s u f. keeps s u (follows-works s u f)) k t (by k.cargo)
  where
    by : (c : Cargo) → P (begins (opening k.from c t) t)
    by (Cargo.Try m q route only tried) = keeps (AnswersTry k.from m q route only tried) t tt p
    by (Cargo.Verdict x q route answer) = keeps (HearsVerdict x (record { port = q; route = route }) answer) t tt p
    by (Cargo.Transfer port) = keeps (Receives port) t tt p
    by (Cargo.Ask m (Dest.Port q)) = p
    by (Cargo.Ask m (Dest.All g)) = keeps (Chooses m (Dest.All g) g k.from (choice (Dest.All g) t.place)) t tt p
    by (Cargo.Ask m (Dest.One g)) = keeps (Chooses m (Dest.One g) g k.from (choice (Dest.One g) t.place)) t tt p
    by (Cargo.Ask m (Dest.OneAt g site)) = keeps (Chooses m (Dest.OneAt g site) g k.from (choice (Dest.OneAt g site) t.place)) t tt p
    by (Cargo.Report x answer) = keeps (Hears x answer) t tt p
