-- Of the entries that follow on a command, or on a packet, none says whether a reply ended a call, but behind a Take.
-- P is kept by each `say` of an act that says neither this nor what answers a command; k is a port and route, w what waits, t a turn.
use Rattle.std.proofs.Common.{ℕ, ◌≡◌, ◌==◌, Bool, true, false, cond, List, [], ◌∷◌, ◌++◌, length, Option, Some, None, refl, ap}
use Rattle.std.specs.List.{All}
use Rattle.std.proofs.lemmas.List.Elements.{All-nil, All-cons}
use Rattle.chorus_ui.specs.declared.ui.Ui.{Ui}
use Rattle.chorus_entry.specs.declared.act.Act.{Act}
use Rattle.chorus_entry.specs.declared.act.Act.TheVariants as acts
use Rattle.chorus_entry.specs.declared.answer.Answer.{Answer}
use Rattle.chorus_entry.specs.declared.answer.Answer.TheVariants as answers
use Rattle.chorus_entry.specs.declared.dest.Dest.{Dest}
use Rattle.chorus_entry.specs.declared.dest.Dest.TheVariants as dests
use Rattle.chorus_entry.specs.declared.entry.Entry.{Entry}
use Rattle.chorus_entry.specs.declared.id.MsgId.{MsgId}
use Rattle.chorus_entry.specs.declared.message.Message.{Message}
use Rattle.chorus_entry.specs.declared.packet.Cargo.{Cargo}
use Rattle.chorus_entry.specs.declared.packet.Cargo.TheVariants as cargos
use Rattle.chorus_entry.specs.declared.packet.Packet.{Packet}
use Rattle.chorus_entry.specs.declared.record.PortRecord.{PortRecord}
use Rattle.chorus_entry.specs.Act.{is_command_entry}
use Rattle.chorus_world.specs.declared.place.Location.{Location}
use Rattle.chorus_world.specs.Places.{taught}
use Rattle.chorus_hints.specs.Known.{learned}
use Rattle.place_unsettled.specs.declared.wait.Key.{Key}
use Rattle.place_unsettled.specs.declared.wait.Wait.{Wait}
use Rattle.place_unsettled.specs.Queues.{changed, passed, with_last, at}
use Rattle.place_unsettled.specs.Unheard.{asked, heard}
use Rattle.law_machine.specs.PlaceState.{Turn, Change, newest, next_entry, unchanged, say}
use Rattle.law_machine.specs.Deciding.{decide, decision, records_after}
use Rattle.law_machine.specs.Trying.{report, settles_here, tries_at, verdict_here, tries, goes_on, goes_unless, go}
use Rattle.law_machine.specs.Choosing.{by_group, choice, with_copies, all_go, finds_no_member, chooses_all, chooses_these, chooses}
use Rattle.law_machine.specs.Doing.{poster, direct, post, chooses_own, asks, choosing_place, posts_to_group, posts}
use Rattle.law_machine.specs.PlaceMachine.{work}
use Rattle.law_machine.specs.Working.{answers_try, taught_of, told, report_of, hears_verdict, receives_port, hears, opens, answers_ask}
use Rattle.law_moments.specs.Answers.{settle_in}

pub record IsQuiet (a : Act) : Type 0 where
  pub follows : is_command_entry a ≡ false
  pub settles : settle_in a ≡ None

decision-quiet : (x : MsgId) (q : Ui) (h : ℕ) (a : Answer) → IsQuiet (decision x q h a)
decision-quiet x q h (answers.Accepted pos) = record { follows = refl; settles = refl }
decision-quiet x q h (answers.Full len) = record { follows = refl; settles = refl }
decision-quiet x q h (answers.Stale to hop) = record { follows = refl; settles = refl }
decision-quiet x q h (answers.Early hop) = record { follows = refl; settles = refl }
decision-quiet x q h answers.NoPort = record { follows = refl; settles = refl }
decision-quiet x q h answers.Already = record { follows = refl; settles = refl }
decision-quiet x q h answers.ClientsFull = record { follows = refl; settles = refl }
decision-quiet x q h (answers.Elsewhere to hop) = record { follows = refl; settles = refl }
decision-quiet x q h answers.Gone = record { follows = refl; settles = refl }
decision-quiet x q h answers.NoMember = record { follows = refl; settles = refl }
decision-quiet x q h (answers.Chosen count) = record { follows = refl; settles = refl }

-- the turn has these quiet entries behind `base`
pub record GoesQuiet (base : List Entry) (t : Turn) : Type 0 where
  pub newer : List Entry
  pub journal : t.place.journal ≡ newer ++ base
  pub quiet : All (λ (e : Entry). IsQuiet e.act) newer

module _ (base : List Entry) where
  abbrev pub P : Turn → Type 0
  P t = GoesQuiet base t

  keeps : (a : Act) (c : Change) (t : Turn) → IsQuiet a → P t → P (say a c t)
  keeps a c t q p = record {
    newer = next_entry a t ∷ p.newer;
    journal = ap (λ es. next_entry a t ∷ es) p.journal;
    quiet = All-cons (λ (e : Entry). IsQuiet e.act) (next_entry a t) p.newer q p.quiet;
  }

  pub starts : (t : Turn) → t.place.journal ≡ base → P t
  starts t e = record { newer = []; journal = e; quiet = All-nil (λ (e : Entry). IsQuiet e.act) }

  settles-here-keeps : (k : Key) (w : Wait) (h : ℕ) (a : Answer) (t : Turn) → P t → P (settles_here k w h a t)
  settles-here-keeps k w h a t p =
      keeps (decision w.message.id k.port h a) (record (unchanged t) {
        ports = records_after a w.message k.port t.place.ports;
        waiting = changed k passed t.place.waiting;
        loads = report t.place.number w.home w.message.id a;
      }) t (decision-quiet w.message.id k.port h a) p

  tries-at-keeps : (k : Key) (w : Wait) (l : Location) (t : Turn) → P t → P (tries_at k w l t)
  tries-at-keeps k w l t p =
      keeps (acts.Try w.message.id k.port l.to l.hop) (record (unchanged t) {
        waiting = changed k (at (Some l.to)) t.place.waiting;
        loads = (l.to, cargos.Try w.message k.port k.route w.only l.hop) ∷ [];
      }) t (record { follows = refl; settles = refl }) p

  tries-keeps : (k : Key) (w : Wait) (l : Location) (on : Turn → Turn) (o : Option Answer) (t : Turn) → ((u : Turn) → P u → P (on u)) → P t → P (tries k w l on o t)
  tries-keeps k w l on (Some a) t next p = next (settles_here k w l.hop a t) (settles-here-keeps k w l.hop a t p)
  tries-keeps k w l on None t next p = tries-at-keeps k w l t p

  goes-on-keeps : (k : Key) (ws : List Wait) (t : Turn) → P t → P (goes_on k ws t)
  goes-on-keeps k [] t p = p
  goes-on-keeps k (w ∷ ws) t p = tries-keeps k w (newest t.place k.port) (goes_on k ws) (verdict_here k w (newest t.place k.port) t.place) t (goes-on-keeps k ws) p

  goes-unless-keeps : (k : Key) (to : Option ℕ) (ws : List Wait) (t : Turn) → P t → P (goes_unless k to ws t)
  goes-unless-keeps k None ws t p = goes-on-keeps k ws t p
  goes-unless-keeps k (Some to) ws t p = p

  go-keeps : (k : Key) (t : Turn) → P t → P (go k t)
  go-keeps k t p = goes-unless-keeps k (t.place.waiting k).tried (t.place.waiting k).waits t p

  all-go-keeps : (g : Ui) (qs : List Ui) (t : Turn) → P t → P (all_go g qs t)
  all-go-keeps g [] t h = h
  all-go-keeps g (q ∷ qs) t h = all-go-keeps g qs (go (by_group g q) t) (go-keeps (by_group g q) t h)

  none-keeps : (m : Message) (g : Ui) (home : ℕ) (t : Turn) → P t → P (finds_no_member m g home t)
  none-keeps m g home t h =
      keeps (acts.NoMember m.id g) (record (unchanged t) { loads = report t.place.number home m.id answers.NoMember }) t (record { follows = refl; settles = refl }) h

  all-keeps : (m : Message) (d : Dest) (g : Ui) (home : ℕ) (qs : List Ui) (t : Turn) → P t → P (chooses_all m d g home qs t)
  all-keeps m d g home qs t h =
      keeps (acts.Choose m.id g qs) (record (unchanged t) {
        waiting = with_copies m d g home 1 qs t.place.waiting;
        loads = report t.place.number home m.id (answers.Chosen (length qs));
      }) t (record { follows = refl; settles = refl }) h

  these-keeps : (m : Message) (d : Dest) (g : Ui) (home : ℕ) (qs : List Ui) (t : Turn) → P t → P (chooses_these m d g home qs t)
  these-keeps m d g home [] t h = none-keeps m g home t h
  these-keeps m d g home (q ∷ qs) t h = all-go-keeps g (q ∷ qs) (chooses_all m d g home (q ∷ qs) t) (all-keeps m d g home (q ∷ qs) t h)

  chooses-keeps : (m : Message) (d : Dest) (g : Ui) (home : ℕ) (t : Turn) → P t → P (chooses m d g home t)
  chooses-keeps m d g home t h = these-keeps m d g home (choice d t.place) t h

  -- Packets.

  asked-keeps : (from : ℕ) (m : Message) (d : Dest) (t : Turn) → P t → P (answers_ask from m d t)
  asked-keeps from m (dests.Port q) t h = h
  asked-keeps from m (dests.All g) t h = chooses-keeps m (dests.All g) g from t h
  asked-keeps from m (dests.One g) t h = chooses-keeps m (dests.One g) g from t h
  asked-keeps from m (dests.OneAt g n) t h = chooses-keeps m (dests.OneAt g n) g from t h

  try-keeps : (from : ℕ) (m : Message) (q : Ui) (route : Option Ui) (hop : ℕ) (a : Answer) (t : Turn) → P t → P (answers_try from m q route hop a t)
  try-keeps from m q route hop a t h =
      keeps (decision m.id q hop a) (record (unchanged t) {
        ports = records_after a m q t.place.ports;
        loads = (from, cargos.Verdict m.id q route a) ∷ [];
      }) t (decision-quiet m.id q hop a) h

  verdict-keeps : (x : MsgId) (k : Key) (a : Answer) (t : Turn) → P t → P (hears_verdict x k a t)
  verdict-keeps x k a t h =
      let c : Change = record (unchanged t) {
        known = taught_of k.port (taught a) t.place.known;
        waiting = changed k (told a) t.place.waiting;
        loads = report_of t.place.number x a (t.place.waiting k).waits;
      } in
      go-keeps k (say (acts.Told x a) c t) (keeps (acts.Told x a) c t (record { follows = refl; settles = refl }) h)

  arrives-keeps : (port : PortRecord) (t : Turn) → P t → P (receives_port port t)
  arrives-keeps port t h =
      keeps (acts.Arrive port.ui port.hop) (record (unchanged t) {
        ports = t.place.ports ++ port ∷ [];
        known = learned port.ui t.place.number port.hop t.place.known;
      }) t (record { follows = refl; settles = refl }) h

  hears-keeps : (x : MsgId) (a : Answer) (t : Turn) → P t → P (hears x a t)
  hears-keeps x a t h =
      keeps (acts.Heard x a) (record (unchanged t) { unheard = heard x t.place.unheard }) t (record { follows = refl; settles = refl }) h

  opens-keeps : (from : ℕ) (k : Cargo) (t : Turn) → P t → P (opens from k t)
  opens-keeps from (cargos.Try m q route only hop) t h = try-keeps from m q route hop (decide m q only hop t.place) t h
  opens-keeps from (cargos.Verdict x q route a) t h = verdict-keeps x (record { port = q; route = route }) a t h
  opens-keeps from (cargos.Transfer port) t h = arrives-keeps port t h
  opens-keeps from (cargos.Ask m d) t h = asked-keeps from m d t h
  opens-keeps from (cargos.Report x a) t h = hears-keeps x a t h

  pub work-quiet : (k : Packet) (t : Turn) → P t → P (work k t)
  work-quiet k t h = opens-keeps k.from k.cargo t h

  -- Posts.

  either : (b : Bool) (t u : Turn) → P t → P u → P (cond b t u)
  either true t u h k = h
  either false t u h k = k

  module _ (t : Turn) where
    abbrev pub First : Act → Type 0
    First a = (c : Change) → P (say a c t)

    group-gives : (m : Message) (d : Dest) (g : Ui) → First (acts.Post m d) → P (posts_to_group m d g t)
    group-gives m d g first =
        let to = choosing_place t.place g in
        let c : Change = record (unchanged t) { caller = poster m d t.caller } in
        either (to == t.place.number) (chooses_own m d g t) (asks m d to t)
        (chooses-keeps m d g t.place.number (say (acts.Post m d) c t) (first c))
        (first (record (unchanged t) {
          caller = poster m d t.caller;
          unheard = asked m.id.seat m.id.number t.place.unheard;
          loads = (to, cargos.Ask m d) ∷ [];
        }))

    pub posts-quiet : (m : Message) (d : Dest) → First (acts.Post m d) → P (posts m d t)
    posts-quiet m (dests.Port q) first =
        let c : Change = record (unchanged t) {
          caller = poster m (dests.Port q) t.caller;
          waiting = changed (direct q) (with_last (post m t.place.number)) t.place.waiting;
        } in
        go-keeps (direct q) (say (acts.Post m (dests.Port q)) c t) (first c)
    posts-quiet m (dests.All g) first = group-gives m (dests.All g) g first
    posts-quiet m (dests.One g) first = group-gives m (dests.One g) g first
    posts-quiet m (dests.OneAt g n) first = group-gives m (dests.OneAt g n) g first
