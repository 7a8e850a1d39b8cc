-- A Try, or a Verdict, is worked off.
use Rattle.std.proofs.Common.{ℕ, ◌≡◌, ◌≤◌, ◌==◌, Bool, true, false, ◌&&◌, not, cond, List, [], ◌∷◌, map, Option, Some, None, refl, sym, ◌∙◌, ap, subst, arith, eq-eqb, inr}
use Rattle.std.specs.List.{filter}
use Rattle.std.proofs.lemmas.Bool.{and_from, false≢true, true≢false}
use Rattle.chorus_ui.specs.declared.ui.Ui.{Ui}
use Rattle.chorus_ui.specs.Name.{same_ui}
use Rattle.chorus_ui.proofs.Names.{same_ui-self, from_same_ui}
use Rattle.chorus_ui.specs.declared.layout.Layout.{Layout}
use Rattle.chorus_entry.specs.declared.entry.Entry.{Entry}
use Rattle.chorus_entry.specs.declared.id.MsgId.{MsgId}
use Rattle.chorus_entry.specs.declared.message.Message.{Message}
use Rattle.chorus_entry.specs.declared.answer.Answer.{Answer}
use Rattle.chorus_entry.specs.declared.answer.Answer.TheVariants as answers
use Rattle.chorus_entry.specs.Act.{message_of}
use Rattle.chorus_entry.specs.declared.act.Act.{Act}
use Rattle.chorus_entry.specs.declared.act.Act.TheVariants as acts
use Rattle.chorus_entry.specs.declared.packet.Packet.{Packet}
use Rattle.chorus_entry.specs.declared.packet.Cargo.TheVariants as cargos
use Rattle.chorus_entry.specs.Answer.{is_final, same_answer}
use Rattle.chorus_entry.specs.Dest.{group_in}
use Rattle.chorus_entry.specs.MsgId.{same_id}
use Rattle.chorus_entry.proofs.Same.{same_id-self, same_answer-self, from_same_id}
use Rattle.chorus_world.specs.declared.place.Sent.{Sent}
use Rattle.chorus_world.specs.declared.progress.Progress.TheVariants.{Idle, Tried, Decided, Settled}
use Rattle.chorus_world.specs.declared.due.Due.TheVariants.{ByTry}
use Rattle.chorus_world.specs.Views.{at, about, is_about}
use Rattle.chorus_world.specs.Places.{last_clock, is_settled, find_sent, sent, unsettled, first_for, taught}
use Rattle.chorus_entry.specs.Same.{same_route}
use Rattle.chorus_world.specs.Posts.{Posted, post_of, is_on_site}
use Rattle.chorus_world.specs.Messages.{progress, progress_after, decided, told, settled, is_to_be_told}
use Rattle.chorus_world.specs.Steps.{due, due_by_try, due_at_home, is_due_with, is_tried_with}
use Rattle.chorus_world.proofs.Messages.Posted.{busy_posted, is_idle}
use Rattle.chorus_world.proofs.Messages.StageLemmas.{Stage}
use Rattle.chorus_world.proofs.Ports.LineLemmas.{id_is}
use Rattle.chorus_world.proofs.Messages.SendingLemmas.{sent_as, some_is}
use Rattle.place_unsettled.specs.Queues as queued
use Rattle.place_unsettled.specs.Queues.{same_key, Queue, changed, passed}
use Rattle.place_unsettled.specs.declared.wait.Key.{Key}
use Rattle.law_machine.specs.declared.outgoing.Outgoing.{Outgoing}
use Rattle.law_machine.specs.PlaceState.{Turn, next_clock, next_entry, packed, unchanged, say}
use Rattle.law_machine.specs.Deciding.{decide, decision, records_after}
use Rattle.law_machine.specs.Trying.{report}
use Rattle.law_machine.specs.Working.{answers_try, hears_verdict, report_of, taught_of}
use Rattle.law_machine.specs.Working as machine
use Rattle.law_network.specs.Packets.{put, put_all, rest_on}
use Rattle.law_network.specs.Network.{NetState}
use Rattle.law_network.specs.Records.{home, home_from, as_wait, sent_for, queue_at, tried_at}
use Rattle.law_network.proofs.Tables.Learning.{IsKnown, known-told}
use Rattle.law_network.specs.UnderWay.{packet, far_place, route, route_in, under_way_as, reported_as, reported_to, is_of}
use Rattle.law_network.proofs.Links.LinkViews.{put-in}
use Rattle.law_network.proofs.Standing.InTurn.{ArePackets}
use Rattle.law_network.proofs.Standing.Says.{known_clock, MaySay}
use Rattle.law_network.proofs.Standing.Saying.{legal-now}
use Rattle.law_network.proofs.Tables.Keys.{same_route-self}
use Rattle.law_network.proofs.Standing.Grows.{route-grows}
use Rattle.law_network.proofs.Standing.StillCallers.{caller-still, no-port-clock}
use Rattle.law_network.proofs.Tables.TablesSay.{known-still, unheard-still, waiting-still}
use Rattle.law_network.proofs.Trying.Waiting.{waiting-passes, waiting-tells}
use Rattle.law_network.proofs.Standing.Onward.{step, then}
use Rattle.law_network.proofs.Standing.Leading.{Calm, LeadsOn, behind-calm, rests-behind}
use Rattle.law_network.proofs.Standing.Given.{Comes}
use Rattle.law_network.proofs.Packets.Receiving.{takes-says, packets-now, moved-rest}
use Rattle.law_network.proofs.Standing.Steps.{Stood, facts, laws, legal-with, ports-still}
use Rattle.law_network.proofs.Links.Abouts.{IsAbout, moves-put, packets-at, packets-about}
use Rattle.law_network.proofs.Trying.Verdicts.{decides, decision-progress, about-try}
use Rattle.law_network.proofs.Trying.Going.{go-stands}
use Rattle.law_network.proofs.Trying.Deciding.{IsDueHere, reads, decide-fits}
use Rattle.chorus_world.proofs.Messages.StageFacts.{StageFacts, keeps-stages}
use Rattle.chorus_world.proofs.Messages.Firsts.{going_to, going-first, first-is-head}
use Rattle.law_network.proofs.Links.Reports.{reports-from, report-moves, report-view}
use Rattle.law_network.proofs.Links.UnderWays.{seen, sees-try, sees-verdict}
use Rattle.chorus_world.proofs.Messages.Growing.{post-grows}

pub about-verdict : (x : MsgId) (q : Ui) (r : Option Ui) (a : Answer) → IsAbout x (cargos.Verdict x q r a)
about-verdict x q r a = record { this = same_id-self x; others = λ z n. n; plain = refl; still = λ f. refl }

module _ (n : NetState) (us : List Outgoing) (past : List Entry) (t : Turn) (from : ℕ) (k : Packet) (i : Comes n us past t from k) where
  abbrev w : Stood n us past t
  w = i.calm.stood

  abbrev l : Layout
  l = t.place.layout

  abbrev p : ℕ
  p = t.place.number

  abbrev rest : List Outgoing
  rest = rest_on from t.place.number us

  -- a message that was sent from another place is none of those that were sent from here
  sent-elsewhere : (x : MsgId) (from_place : ℕ) (m : Sent) → sent_as x from_place past ≡ Some m → (t.place.number == from_place) ≡ false → (a : Act) → message_of a ≡ Some x
      → (j : Sent) → sent_as j.id t.place.number past ≡ Some j → (b : Bool) → is_about (Some j.id) (next_entry a t) ≡ b → b ≡ false
  sent-elsewhere x from_place m is away a mes j found false h = refl
  sent-elsewhere x from_place m is away a mes j found true h =
      let same : j.id ≡ x = some_is j.id x (sym (id_is j.id (message_of a) h) ∙ mes) in
      let here : p ≡ from_place = (facts n us past t w x).home p from_place j m (ap (λ z. sent_as z p past) (sym same) ∙ found) is in
      absurd (false≢true (sym away ∙ eq-eqb p from_place here))

  -- a Try
  pub try-stands : (m : Message) (q : Ui) (r : Option Ui) (only : Option ℕ) (h : ℕ) → k.cargo ≡ cargos.Try m q r only h
      → LeadsOn n (rest_on from t.place.number us) past (answers_try k.from m q r h (decide m q only h t.place) t)
  try-stands m q r only h e =
      let x = m.id in
      let here = subst (IsAbout x) (sym e) (about-try m q r only h) in
      let s = seen l past x from p us k (packets-now n us past t from k i) here.this i.first in
      let o = s.packet in
      let cargo : o.packet.cargo ≡ cargos.Try m q r only h = ap (λ (z : Packet). z.cargo) s.is ∙ e in
      let y = sees-try l past x (last_clock (about x past)) (progress (about x past)) o m q r only h s.under cargo in
      let sender : o.packet.from ≡ k.from = ap (λ (z : Packet). z.from) s.is in
      let stage : progress (about x past) ≡ Tried k.from q p h = y.stage ∙ (λ j. Tried (sender j) q (s.to j) h) in
      let stages : StageFacts l past x (Tried k.from q p h) = subst (StageFacts l past x) stage (keeps-stages l past x w.shape (legal-now n (put_all t.puts us) past t w)) in
      let under : Stage x past (Tried k.from q p h) = subst (Stage x past) stage (facts n us past t w x).stage in
      let posted = busy_posted past x (laws n us past t w).posted (ap is_idle stage) in
      let test : ((p == p) && same_ui q q) ≡ true = and_from (p == p) (same_ui q q) (eq-eqb p p refl) (same_ui-self q) in
      let due-is : due l (reads past t x q) p x q ≡ ByTry h =
      ap (λ z. due_by_try p q z (due_at_home l (reads past t x q) p x q)) stage ∙ ap (λ b. cond b (ByTry h) (due_at_home l (reads past t x q) p x q)) test in
      let d : IsDueHere past t m q only h =
      record {
        message = y.message;
        posted = posted;
        site = y.site;
        suits = ap (λ z. is_on_site l z p) y.site ∙ stages.1.0;
        tried = inr (λ f. ap (is_tried_with f) due-is);
        due = λ f. ap (is_due_with f) due-is;
      } in
      let a = decide m q only h t.place in
      let f = decide-fits n us past t w m q only h d in
      let act = decision x q h a in
      let dec = decides a x q h in
      let en = next_entry act t in
      let v = packed t (k.from, cargos.Verdict x q r a) in
      let clock : last_clock (about x past) ≤ known_clock t =
      (let c = y.clock_is in let c2 = ap (λ (z : Packet). z.clock) s.is in let c3 = i.clock in omega (arith, c, c2, c3)) in
      let now : progress_after p act (progress (about x past)) ≡ Decided k.from p q a =
      decision-progress a x q h p (progress (about x past)) f.answers ∙ (ap (decided p q a) stage ∙ ap (λ b. cond b (Decided k.from p q a) Idle) test) in
      let moved = moves-put x (put_all t.puts us) rest v (about-verdict x q r a) (moved-rest n us past t from k i x here) in
      let route-is : route (en ∷ past) x k.from ≡ r = route-grows en past x k.from under.1.message under.1.is ∙ (ap (route past x) (sym sender) ∙ sym y.route) in
      let says-may : MaySay past t act =
      record {
        kinds = dec.kinds ∙ stages.0;
        behind = behind-calm past p act i.calm.rests;
        may = f.may;
        fits = dec.fits past p t.caller.actor;
        looks = dec.looks l p;
        message = subst (λ z. last_clock (filter (is_about z) past) ≤ known_clock t) (sym dec.message) clock;
        port = f.clock;
      } in
      let apart : (j : Sent) → sent_as j.id p past ≡ Some j → is_about (Some j.id) en ≡ false =
      (λ j found. sent-elsewhere x k.from under.1.message under.1.is stages.1.1 act dec.message j found (is_about (Some j.id) en) refl) in
      step (λ z. Calm n rest z (answers_try k.from m q r h a t)) en past
      (record {
        stood = takes-says n us rest past t act (record (unchanged t) { ports = records_after a m q t.place.ports; loads = (k.from, cargos.Verdict x q r a) ∷ [] }) i.none w
            (record {
              may = says-may;
              caller = caller-still past t act dec.caller w.caller;
              ports = f.ports;
              tables = record {
                known = known-still l t.place.known en (at p past) dec.teaches w.here.known;
                waiting = waiting-still l past en t.place.waiting (laws n us past t w).posted (legal-with n us past t w act says-may) w.here.waiting dec.sends apart;
                unheard = unheard-still l past en t.place.unheard dec.posts w.here.unheard;
              };
              packets = packets-at n us past t w x act (put v rest) dec.message dec.asks moved
                  (λ u. moved.ports u ∙ (w.packets.transfers u ∙ sym (f.transfers u)))
                  (put-in (is_of x) v rest (same_id-self x) s.rest
                  ∙ sym (ap (under_way_as l (en ∷ past) x (next_clock t)) now ∙ ap (λ z. packet p k.from (next_clock t) (cargos.Verdict x q z a) ∷ []) route-is));
            });
        rests = rests-behind past t act (dec.takes (en ∷ past) t.caller.seat);
      })

  -- a Verdict
  pub verdict-stands : (x : MsgId) (q : Ui) (r : Option Ui) (a : Answer) → k.cargo ≡ cargos.Verdict x q r a → LeadsOn n (rest_on from t.place.number us) past (hears_verdict x (record { port = q; route = r }) a t)
  verdict-stands x q r a e =
      let here = subst (IsAbout x) (sym e) (about-verdict x q r a) in
      let s = seen l past x from p us k (packets-now n us past t from k i) here.this i.first in
      let o = s.packet in
      let cargo : o.packet.cargo ≡ cargos.Verdict x q r a = ap (λ (z : Packet). z.cargo) s.is ∙ e in
      let y = sees-verdict l past x (last_clock (about x past)) (progress (about x past)) o q r a s.under cargo in
      let by-place = o.packet.from in
      let stage : progress (about x past) ≡ Decided p by-place q a = y.stage ∙ (λ j. Decided (s.to j) by-place q a) in
      let stages : StageFacts l past x (Decided p by-place q a) = subst (StageFacts l past x) stage (keeps-stages l past x w.shape (legal-now n (put_all t.puts us) past t w)) in
      let under : Stage x past (Decided p by-place q a) = subst (Stage x past) stage (facts n us past t w x).stage in
      let posted = busy_posted past x (laws n us past t w).posted (ap is_idle stage) in
      let key : Key = record { port = q; route = r } in
      let mine = under.2.message in
      let route-is : mine.route ≡ r = sym (y.route ∙ (ap (route past x) s.to ∙ ap route_in under.2.is)) in
      let legal = legal-now n (put_all t.puts us) past t w in
      let id : mine.id ≡ x = found-id x (sent (at p past)) mine under.2.is in
      let waits-first : first_for q r (unsettled (at p past) (sent (at p past))) ≡ Some mine.id =
      going-first l q r p by-place past mine legal
      (record {
        found = ap (λ z. sent_as z p past) id ∙ under.2.is;
        live = ap (λ z. is_settled z (at p past)) id ∙ stages.1;
        goes = and_from (same_ui mine.port q) (same_route mine.route r) (ap (λ z. same_ui z q) under.2.port ∙ same_ui-self q) (ap (λ z. same_route z r) route-is ∙ same_route-self r);
      }) (ap (λ z. going_to (progress (about z past))) id ∙ ap going_to stage) in
      let heads = first-is-head q r (unsettled (at p past) (sent (at p past))) mine.id waits-first in
      let head = heads.0 in
      let head-id : head.id ≡ x = heads.3 ∙ id in
      let act = acts.Told x a in
      let en = next_entry act t in
      let post = posted.0 in
      let home-is : home past head.id ≡ post.place = ap (home past) head-id ∙ ap home_from posted.1 in
      let loads = report_of p x a (t.place.waiting key).waits in
      let loads-are : loads ≡ report p post.place x a =
      ap (λ (z : Queue). report_of p x a z.waits) (w.here.waiting key) ∙ (ap (λ js. report_of p x a (map (as_wait past) js)) heads.2 ∙ ap (λ z. report p z x a) home-is) in
      let new = put_all (map (packed t) (report p post.place x a)) rest in
      let moved = report-moves x a t post.place (put_all t.puts us) rest (moved-rest n us past t from k i x here) in
      let clock : last_clock (about x past) ≤ known_clock t =
      (let c = y.clock_is in let c2 = ap (λ (z : Packet). z.clock) s.is in let c3 = i.clock in omega (arith, c, c2, c3)) in
      let now : progress_after p act (progress (about x past)) ≡ settled a = ap (told a) stage in
      let may : is_to_be_told p a (progress (about x past)) ≡ true = ap (is_to_be_told p a) stage ∙ and_from (p == p) (same_answer a a) (eq-eqb p p refl) (same_answer-self a) in
      let far = reports-from l past x p under.2.message post legal under.2.is posted.1 in
      let says-may : MaySay past t act =
      record {
        kinds = refl;
        behind = behind-calm past p act i.calm.rests;
        may = may;
        fits = refl;
        looks = tt;
        message = clock;
        port = no-port-clock past None (known_clock t) refl;
      } in
      let knows = taught_of q (taught a) t.place.known in
      let waits = changed key (machine.told a) t.place.waiting in
      let change = record (unchanged t) { known = knows; waiting = waits; loads = loads } in
      let this : filter (is_of x) new ≡ under_way_as l (en ∷ past) x (next_clock t) (settled a) = told-view x a post en (is_final a) refl far (post-grows en past x posted ∙ posted.1) s.rest in
      let stood : Stood n rest (en ∷ past) (say act change t) =
      takes-says n us rest past t act change i.none w
      (record {
        may = says-may;
        caller = caller-still past t act refl w.caller;
        ports = ports-still n us past t w act refl;
        tables = record {
          known = subst (λ z. IsKnown l (taught_of z (taught a) t.place.known) (en ∷ at p past)) under.2.port (known-told l t.place.known en (at p past) x a mine from_same_ui refl under.2.is w.here.known);
          waiting = told-waits x q r a act says-may head heads.1 heads.2 (ap (λ z. Some z) (sym head-id)) (ap (λ z. progress_after p act (progress (about z past))) head-id ∙ now);
          unheard = unheard-still l past en t.place.unheard refl w.here.unheard;
        };
        packets = subst (λ z. ArePackets l (put_all (map (packed t) z) rest) (en ∷ past)) (sym loads-are)
            (packets-about n us past t w x act new refl refl refl moved (this ∙ ap (under_way_as l (en ∷ past) x (next_clock t)) (sym now)));
      }) in
      let calm : Calm n rest (en ∷ past) (say act change t) = record { stood = stood; rests = rests-behind past t act refl } in
      then (λ z. Calm n rest z (say act change t)) (λ z. Calm n rest z (hears_verdict x key a t)) past (step (λ z. Calm n rest z (say act change t)) en past calm)
      (λ z c. go-stands n rest key z (say act change t) c)
    where
      found-id : (x : MsgId) (ms : List Sent) (m : Sent) → find_sent x ms ≡ Some m → m.id ≡ x
      found-id x [] m h = absurd (let bad : None ≡ Some m = h in cc)
      found-id x (j ∷ ms) m h = go (same_id j.id x) refl h (found-id x ms m)
        where
          go : (b : Bool) → same_id j.id x ≡ b → cond b (Some j) (find_sent x ms) ≡ Some m → (find_sent x ms ≡ Some m → m.id ≡ x) → m.id ≡ x
          go true e k ih = let same : j ≡ m = some_is j m k in ap (λ (z : Sent). z.id) (sym same) ∙ from_same_id j.id x e
          go false e k ih = ih k

      -- the queue after it
      told-waits : (x : MsgId) (q : Ui) (r : Option Ui) (a : Answer) (act : Act) → MaySay past t (acts.Told x a) → (head : Sent) (ns : List Sent) → sent_for past t.place.number (record { port = q; route = r }) ≡ head ∷ ns
          → Some x ≡ Some head.id → progress_after t.place.number (acts.Told x a) (progress (about head.id past)) ≡ settled a
          → (j : Key) → changed (record { port = q; route = r }) (machine.told a) t.place.waiting j ≡ queue_at (next_entry (acts.Told x a) t ∷ past) t.place.number j
      told-waits x q r a act may head ns heads this after j = by (is_final a) refl
        where
          key : Key
          key = record { port = q; route = r }

          final : (o : Answer) → is_final o ≡ true → (z : Queue) → machine.told o z ≡ passed z
          final (answers.Stale to hop) h z = absurd (false≢true h)
          final o h z = refl

          again : (o : Answer) → is_final o ≡ false → (z : Queue) → machine.told o z ≡ queued.at None z
          again (answers.Stale to hop) h z = refl
          again o h z = absurd (true≢false h)

          by : (b : Bool) → is_final a ≡ b → changed key (machine.told a) t.place.waiting j ≡ queue_at (next_entry (acts.Told x a) t ∷ past) t.place.number j
          by true h =
              ap (λ z. cond (same_key key j) z (t.place.waiting j)) (final a h (t.place.waiting key))
              ∙ waiting-passes n us past t w (acts.Told x a) may refl key head ns heads this h j
          by false h =
              ap (λ z. cond (same_key key j) z (t.place.waiting j)) (again a h (t.place.waiting key))
              ∙ waiting-tells n us past t w (acts.Told x a) may refl key head ns heads this h None (ap tried_at after ∙ ap (λ b. tried_at (cond b (Settled a) Idle)) h) j

      told-view : (x : MsgId) (a : Answer) (post : Posted) (en : Entry) (b : Bool) → is_final a ≡ b → far_place t.place.layout post.place (group_in post.dest) ≡ cond (t.place.number == post.place) None (Some t.place.number)
          → post_of x (en ∷ past) ≡ Some post → filter (is_of x) (rest_on from t.place.number us) ≡ []
          → filter (is_of x) (put_all (map (packed t) (report t.place.number post.place x a)) (rest_on from t.place.number us)) ≡ under_way_as t.place.layout (en ∷ past) x (next_clock t) (cond b (Settled a) Idle)
      told-view x a post en true f far grown none =
          report-view x a t post.place (rest_on from t.place.number us) f none
          ∙ sym (ap (reported_as t.place.layout x (next_clock t) a) grown ∙ ap (reported_to x (next_clock t) a post.place) far)
      told-view x a post en false f far grown none =
          ap (λ b. filter (is_of x) (put_all (map (packed t) (cond (b && not (post.place == t.place.number)) ((post.place, cargos.Report x a) ∷ []) [])) (rest_on from t.place.number us))) f ∙ none
