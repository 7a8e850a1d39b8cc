-- Deciding on messages, and trying those that wait.
use Rattle.std.proofs.Common.{ℕ, ◌≡◌, ◌≤◌, ◌<◌, ◌+◌, ◌==◌, nat_le, nat_lt, Bool, true, false, ◌&&◌, not, cond, if◌then◌else◌, List, [], ◌∷◌, length, Option, Some, None, IfSome, refl, sym, ◌∙◌, ap, subst, arith, ltb-true, All}
use Rattle.std.proofs.lemmas.Bool.{and_from, le-leb, eqb-true}
use Rattle.std.proofs.lemmas.List.Elements.{All-nil, All-cons, All-head, All-drop, All-weaker}
use Rattle.chorus_ui.specs.declared.ui.Ui.{Ui}
use Rattle.chorus_ui.specs.Layout.{has_site, creation_place}
use Rattle.chorus_entry.specs.declared.id.MsgId.{MsgId}
use Rattle.chorus_entry.specs.declared.message.Message.{Message}
use Rattle.chorus_entry.specs.declared.act.Act.{Act}
use Rattle.chorus_entry.specs.declared.answer.Answer.{Answer}
use Rattle.chorus_entry.specs.declared.answer.Answer.TheVariants as A
use Rattle.chorus_entry.specs.declared.packet.Cargo.{Cargo}
use Rattle.chorus_entry.specs.declared.record.PortRecord.{PortRecord}
use Rattle.chorus_entry.specs.Answer.{is_final}
use Rattle.chorus_entry.specs.Clients.{is_repeated, is_one_too_many}
use Rattle.chorus_ui.specs.NameKind.{is_port}
use Rattle.chorus_entry.specs.Ranges.{is_from, is_place_number, has_range_of_id, has_ranges_of_message, is_route, is_demanded_site, has_ranges_of_answer, is_told}
use Rattle.chorus_world.specs.declared.place.Location.{Location}
use Rattle.chorus_world.specs.Places.{last_clock, is_deleted}
use Rattle.chorus_world.specs.Posts.{is_on_site}
use Rattle.chorus_ports.specs.declared.deciding.Accept.TheVariants as accepts
use Rattle.chorus_ports.specs.Deciding.{is_full, answer_to, enqueued}
use Rattle.chorus_ports.specs.Table.{find}
use Rattle.place_unsettled.specs.declared.wait.Key.{Key}
use Rattle.place_unsettled.specs.declared.wait.Wait.{Wait}
use Rattle.place_unsettled.specs.Queues.{Queue, changed, passed, at}
use Rattle.law_machine.specs.PlaceState.{PlaceState, Turn, location, newest, unchanged, greatest_clock, next_clock}
use Rattle.law_machine.specs.Deciding.{answer_in, answer_moved, answer_away, answer_of, decide, decision, records_after}
use Rattle.law_machine.specs.Trying.{report, settles_here, tries_at, verdict_here, go}
use Rattle.law_machine.proofs.Machine.Queues.{wait_for, go-goes}
use Rattle.law_bounds.specs.Bounds.{IsPortWithin, IsPairWithin, IsWaitWithin, IsWithin, IsTurnWithin}
use Rattle.law_bounds.proofs.Ranges.{answer-later, standing-within, message-parts}
use Rattle.law_bounds.proofs.Ports as ports
use Rattle.law_bounds.proofs.Entries.{IsLoadWithin, IsMute, clock-later, says, ports-still, known-still, members-still, waiting-changed}

-- Locations.

-- the hop is not above the clock, and from 1 on the place has the number of one
pub record IsLocationWithin (clock : ℕ) (l : Location) : Type 0 where
  pub hop : l.hop ≤ clock
  pub place : 0 < l.hop → is_place_number l.to ≡ true

pub newest-within : (s : PlaceState) (q : Ui) → IsWithin s → IsLocationWithin (last_clock s.journal) (newest s q)
newest-within s q h = by (s.known q) (h.known q)
  where
    by : (o : Option (ℕ × ℕ)) → IfSome o (IsPairWithin (last_clock s.journal)) → IsLocationWithin (last_clock s.journal) (location s.layout q o)
    by None k = record { hop = omega arith; place = λ some. absurd (omega (arith, some)) }
    by (Some pair) k = record { hop = k.1; place = λ some. k.0 }

-- a port of a site of the layout is located at a place
pub located-within : (s : PlaceState) (q : Ui) → IsWithin s → has_site s.layout q.site ≡ true → is_place_number (newest s q).to ≡ true
located-within s q h site = by (s.known q) (h.known q)
  where
    by : (o : Option (ℕ × ℕ)) → IfSome o (IsPairWithin (last_clock s.journal)) → is_place_number (location s.layout q o).to ≡ true
    by None k = ap (λ b. is_place_number (cond b (creation_place s.layout q) 0)) site ∙ standing-within s.layout q.site q h.layout site
    by (Some pair) k = k.0

-- Deciding.

-- the answer may be told and reported with this clock, and the records after it are within their ranges behind it
pub record IsDecided (clock : ℕ) (m : Message) (q : Ui) (a : Answer) (rs : List PortRecord) : Type 0 where
  pub ranges : has_ranges_of_answer clock a ≡ true
  pub told : is_told a ≡ true
  pub records : All (IsPortWithin (clock + 1)) (records_after a m q rs)

module _ (clock : ℕ) (s : PlaceState) (m : Message) (q : Ui) (only : Option ℕ) (tried : ℕ) (h : IsWithin s) (message : has_ranges_of_message m ≡ true) (le : last_clock s.journal ≤ clock) (low : tried ≤ clock) where
  same : All (IsPortWithin (clock + 1)) s.ports
  same = All-weaker (IsPortWithin (last_clock s.journal)) (IsPortWithin (clock + 1)) (λ r k. ports.later (last_clock s.journal) (clock + 1) r (omega (arith, le)) k) s.ports h.ports

  in-record : (r : PortRecord) → find q s.ports ≡ Some r → IsDecided clock m q (answer_in (answer_to m r)) s.ports
  in-record r e = by (is_repeated m.id.seat m.tag r.clients) (is_one_too_many m.id.seat m.tag r.clients) (is_full r) refl refl
    where
      fits : IsPortWithin clock r
      fits = ports.later (last_clock s.journal) clock r le (ports.all-found (IsPortWithin (last_clock s.journal)) q s.ports r h.ports e)

      p : ports.Parts clock r
      p = ports.parts clock r fits

      full : is_full r ≡ true → is_from 1 64 (length r.pending) ≡ true
      full f = ap (is_from 1 64) (eqb-true (length r.pending) r.capacity f) ∙ p.capacity

      some-same : (x y : PortRecord) → Some x ≡ Some y → x ≡ y
      some-same x y k = cc

      by : (b o f : Bool) → is_one_too_many m.id.seat m.tag r.clients ≡ o → is_full r ≡ f
          → IsDecided clock m q (answer_in (if b then accepts.Already m else if o then accepts.ClientsFull m else if f then accepts.Full (length r.pending) m else accepts.Accepted (r.first + length r.pending))) s.ports
      by true o f eo ef = record { ranges = refl; told = refl; records = same }
      by false true f eo ef = record { ranges = refl; told = refl; records = same }
      by false false true eo ef = record { ranges = full ef; told = refl; records = same }
      by false false false eo ef =
          let end = p.position in
          record {
            ranges = le-leb (r.first + length r.pending) clock end;
            told = refl;
            records =
                ports.all-replace (IsPortWithin (last_clock s.journal)) (IsPortWithin (clock + 1)) q (enqueued m) s.ports
                (λ x k. ports.later (last_clock s.journal) (clock + 1) x (omega (arith, le)) k)
                (λ x f k. subst (λ z. IsPortWithin (clock + 1) (enqueued m z)) (some-same r x (sym e ∙ f)) (ports.enqueued-within clock m r message eo ef fits)) h.ports;
          }

  away : IsDecided clock m q (answer_away s.number only tried (newest s q)) s.ports
  away = by (nat_lt tried (newest s q).hop) refl ((newest s q).to == s.number) (tried == 0) only
    where
      n : IsLocationWithin (last_clock s.journal) (newest s q)
      n = newest-within s q h

      hop : nat_le (newest s q).hop clock ≡ true
      hop = let k = n.hop in le-leb (newest s q).hop clock (omega (arith, k, le))

      there : nat_lt tried (newest s q).hop ≡ true → is_place_number (newest s q).to ≡ true
      there e = let less = ltb-true tried (newest s q).hop e in n.place (omega (arith, less))

      by : (b : Bool) → nat_lt tried (newest s q).hop ≡ b → (c z : Bool) (o : Option ℕ)
          → IsDecided clock m q (cond b (cond c (A.Early (newest s q).hop) (answer_moved o (newest s q))) (cond z A.NoPort (A.Early tried))) s.ports
      by true e true z o = record { ranges = hop; told = refl; records = same }
      by true e false z None = record { ranges = and_from (is_place_number (newest s q).to) (nat_le (newest s q).hop clock) (there e) hop; told = refl; records = same }
      by true e false z (Some site) = record { ranges = and_from (is_place_number (newest s q).to) (nat_le (newest s q).hop clock) (there e) hop; told = refl; records = same }
      by false e c true o = record { ranges = refl; told = refl; records = same }
      by false e c false o = record { ranges = le-leb tried clock low; told = refl; records = same }

  pub decided : IsDecided clock m q (decide m q only tried s) s.ports
  decided = by (find q s.ports) refl
    where
      gone : (b : Bool) → IsDecided clock m q (cond b A.Gone (answer_away s.number only tried (newest s q))) s.ports
      gone true = record { ranges = refl; told = refl; records = same }
      gone false = away

      by : (o : Option PortRecord) → find q s.ports ≡ o → IsDecided clock m q (answer_of m q only tried s o) s.ports
      by (Some r) e = in-record r e
      by None e = gone (is_deleted q s.journal)

pub decision-mute : (x : MsgId) (q : Ui) (tried : ℕ) (a : Answer) → IsMute (decision x q tried a)
decision-mute x q tried (A.Accepted pos) g qs = refl
decision-mute x q tried _ g qs = refl

-- what is reported is in its range
pub report-within : (clock p home : ℕ) (x : MsgId) (a : Answer) → has_range_of_id x ≡ true → has_ranges_of_answer clock a ≡ true → All (IsLoadWithin clock) (report p home x a)
report-within clock p home x a id h = by (is_final a) (not (home == p)) refl
  where
    by : (b c : Bool) → is_final a ≡ b → All (IsLoadWithin clock) (cond (b && c) ((home, Cargo.Report x a) ∷ []) [])
    by true true e =
        All-cons (IsLoadWithin clock) (home, Cargo.Report x a) []
        (and_from (has_range_of_id x && is_final a) (has_ranges_of_answer clock a) (and_from (has_range_of_id x) (is_final a) id e) h) (All-nil (IsLoadWithin clock))
    by true false e = All-nil (IsLoadWithin clock)
    by false c e = All-nil (IsLoadWithin clock)

-- Trying.

module _ (k : Key) where
  settles-within : (w : Wait) (tried : ℕ) (a : Answer) (t : Turn) → IsWaitWithin k w → IsTurnWithin t → IsDecided (greatest_clock t) w.message k.port a t.place.ports
      → IsTurnWithin (settles_here k w tried a t)
  settles-within w tried a t may h d =
      says (decision w.message.id k.port tried a) (record (unchanged t) {
        ports = records_after a w.message k.port t.place.ports;
        waiting = changed k passed t.place.waiting;
        loads = report t.place.number w.home w.message.id a;
      }) t h (record {
        ports = d.records;
        known = known-still t h;
        waiting = waiting-changed k passed t.place.waiting h.place.waiting (All-drop (IsWaitWithin k) 1 (t.place.waiting k).waits (h.place.waiting k));
        members = members-still (decision w.message.id k.port tried a) t (decision-mute w.message.id k.port tried a) h;
        loads = report-within (next_clock t) t.place.number w.home w.message.id a (message-parts w.message may.message).id (answer-later (greatest_clock t) (next_clock t) a (omega arith) d.ranges);
      })

  tries-at-within : (w : Wait) (l : Location) (t : Turn) → IsWaitWithin k w → IsTurnWithin t → l.hop ≤ greatest_clock t → IsTurnWithin (tries_at k w l t)
  tries-at-within w l t may h le =
      says (Act.Try w.message.id k.port l.to l.hop) (record (unchanged t) {
        waiting = changed k (at (Some l.to)) t.place.waiting;
        loads = (l.to, Cargo.Try w.message k.port k.route w.only l.hop) ∷ [];
      }) t h (record {
        ports = ports-still t h;
        known = known-still t h;
        waiting = waiting-changed k (at (Some l.to)) t.place.waiting h.place.waiting (h.place.waiting k);
        members = h.place.members;
        loads =
            All-cons (IsLoadWithin (next_clock t)) (l.to, Cargo.Try w.message k.port k.route w.only l.hop) []
            (and_from (is_route k.route && is_demanded_site w.only && nat_le l.hop (next_clock t) && is_port k.port) (has_ranges_of_message w.message)
            (and_from (is_route k.route && is_demanded_site w.only && nat_le l.hop (next_clock t)) (is_port k.port)
            (and_from (is_route k.route && is_demanded_site w.only) (nat_le l.hop (next_clock t)) (and_from (is_route k.route) (is_demanded_site w.only) may.route may.only)
            (le-leb l.hop (next_clock t) (omega (arith, le)))) may.port) may.message) (All-nil (IsLoadWithin (next_clock t)));
      })

  -- a verdict that a message has here
  verdict-within : (w : Wait) (t : Turn) (a : Answer) → IsWaitWithin k w → IsTurnWithin t → verdict_here k w (newest t.place k.port) t.place ≡ Some a
      → IsDecided (greatest_clock t) w.message k.port a t.place.ports
  verdict-within w t a may h e =
      by (has_site t.place.layout k.port.site) refl (is_on_site t.place.layout w.only (newest t.place k.port).to) ((newest t.place k.port).to == t.place.number) e
    where
      n : IsLocationWithin (last_clock t.place.journal) (newest t.place k.port)
      n = newest-within t.place k.port h.place

      hop : (newest t.place k.port).hop ≤ greatest_clock t
      hop = let one = n.hop in let two = clock-later t in omega (arith, one, two)

      still : All (IsPortWithin (greatest_clock t + 1)) t.place.ports
      still = ports-still t h

      some-same : (x y : Answer) → Some x ≡ Some y → x ≡ y
      some-same x y z = cc

      is : (x : Answer) → Some x ≡ Some a → IsDecided (greatest_clock t) w.message k.port x t.place.ports → IsDecided (greatest_clock t) w.message k.port a t.place.ports
      is x z d = subst (λ y. IsDecided (greatest_clock t) w.message k.port y t.place.ports) (some-same x a z) d

      by : (b : Bool) → has_site t.place.layout k.port.site ≡ b → (c d : Bool)
          → cond (not b) (Some A.NoPort) (cond (not c) (Some (A.Elsewhere (newest t.place k.port).to (newest t.place k.port).hop)) (cond d (Some (decide w.message k.port w.only (newest t.place k.port).hop t.place)) None)) ≡ Some a
          → IsDecided (greatest_clock t) w.message k.port a t.place.ports
      by false s c d z = is A.NoPort z (record { ranges = refl; told = refl; records = still })
      by true s false d z =
          is (A.Elsewhere (newest t.place k.port).to (newest t.place k.port).hop) z (record {
            ranges = and_from (is_place_number (newest t.place k.port).to) (nat_le (newest t.place k.port).hop (greatest_clock t)) (located-within t.place k.port h.place s) (le-leb (newest t.place k.port).hop (greatest_clock t) hop);
            told = refl;
            records = still;
          })
      by true s true true z =
          is (decide w.message k.port w.only (newest t.place k.port).hop t.place) z
          (decided (greatest_clock t) t.place w.message k.port w.only (newest t.place k.port).hop h.place may.message (clock-later t) hop)
      by true s true false z = absurd (cc)

  -- the first one that waits is in its ranges, as all are
  first-within : (w : Wait) (ws : List Wait) (t : Turn) → wait_for k (w ∷ ws) t → IsTurnWithin t → IsWaitWithin k w
  first-within w ws t e h = All-head (IsWaitWithin k) w ws (subst (λ (q : Queue). All (IsWaitWithin k) q.waits) e (h.place.waiting k))

  pub go-within : (t : Turn) → IsTurnWithin t → IsTurnWithin (go k t)
  go-within =
      go-goes k IsTurnWithin
      (λ w ws a t e f h. let may = first-within w ws t e h in settles-within w (newest t.place k.port).hop a t may h (verdict-within w t a may h f))
      (λ w ws t e f h.
      let one = (newest-within t.place k.port h.place).hop in
      let two = clock-later t in
      tries-at-within w (newest t.place k.port) t (first-within w ws t e h) h (omega (arith, one, two)))
