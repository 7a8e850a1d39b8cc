-- The first message that waits is tried at another place, or has its verdict here; and the next one goes.
use Rattle.std.proofs.Common.{ℕ, ◌≡◌, ◌≤◌, ◌==◌, Bool, true, false, ◌&&◌, not, cond, List, [], ◌∷◌, map, Option, Some, None, refl, sym, ◌∙◌, ap, subst, eq-eqb}
use Rattle.std.specs.List.{filter}
use Rattle.std.proofs.lemmas.Bool.{and_from, false≢true}
use Rattle.chorus_ui.specs.declared.ui.Ui.{Ui}
use Rattle.chorus_ui.specs.declared.layout.Layout.{Layout}
use Rattle.chorus_entry.specs.declared.entry.Entry.{Entry}
use Rattle.chorus_entry.specs.declared.id.MsgId.{MsgId}
use Rattle.chorus_entry.specs.declared.message.Message.{Message}
use Rattle.chorus_entry.specs.declared.answer.Answer.{Answer}
use Rattle.chorus_entry.specs.declared.answer.Answer.TheVariants as answers
use Rattle.chorus_entry.specs.declared.act.Act.TheVariants as acts
use Rattle.chorus_entry.specs.declared.packet.Cargo.TheVariants as cargos
use Rattle.chorus_entry.specs.Act.{message_of, held_port_of}
use Rattle.chorus_entry.specs.Answer.{is_final}
use Rattle.chorus_ui.specs.NameKind.{is_port}
use Rattle.chorus_entry.specs.Kinds.{has_kinds}
use Rattle.chorus_entry.proofs.Same.{same_id-self}
use Rattle.chorus_world.specs.declared.place.Location.{Location}
use Rattle.chorus_world.specs.declared.progress.Progress.{Progress}
use Rattle.chorus_world.specs.declared.progress.Progress.TheVariants.{Idle, Settled}
use Rattle.chorus_world.specs.Views.{at, about, is_on, is_about}
use Rattle.chorus_world.specs.Places.{last_clock, located, is_first, reply_taken_by, sent_by, is_settling}
use Rattle.chorus_world.specs.Posts.{site_asked, site_from, is_on_site}
use Rattle.chorus_world.specs.Messages.{progress, progress_after, decided}
use Rattle.chorus_world.specs.Runs.{fits_caller}
use Rattle.chorus_world.specs.Steps.{is_beyond, is_to_go}
use Rattle.chorus_world.specs.SortingLaws.{LooksAtHome}
use Rattle.chorus_world.proofs.Sorted.Local.{local_views, act_may_here}
use Rattle.place_unsettled.specs.declared.wait.Key.{Key}
use Rattle.place_unsettled.specs.declared.wait.Wait.{Wait}
use Rattle.place_unsettled.specs.Queues.{changed, passed}
use Rattle.place_unsettled.specs.Queues as queued
use Rattle.law_machine.specs.declared.outgoing.Outgoing.{Outgoing}
use Rattle.law_machine.specs.PlaceState.{Turn, next_clock, next_entry, packed, unchanged}
use Rattle.law_machine.specs.Deciding.{decision, records_after}
use Rattle.law_machine.specs.Trying.{report, settles_here, tries_at}
use Rattle.law_network.specs.Packets.{put, put_all}
use Rattle.law_network.specs.Network.{NetState}
use Rattle.law_network.specs.Records.{message, home_from}
use Rattle.law_network.specs.UnderWay.{packet, route, route_in, reported_as, reported_to, under_way_as, is_of, transfer}
use Rattle.law_network.proofs.Links.LinkViews.{put-in}
use Rattle.law_network.proofs.Standing.Says.{known_clock, PortsSay, MaySay}
use Rattle.law_network.proofs.Standing.Saying.{legal-now}
use Rattle.law_network.proofs.Standing.Grows.{message-grows, route-grows}
use Rattle.law_network.proofs.Standing.StillCallers.{caller-still, no-port-clock, moves_caller, asks_or_chooses}
use Rattle.law_network.proofs.Tables.TablesSay.{teaches, posts_or_hears, known-still, unheard-still}
use Rattle.law_network.proofs.Standing.Steps.{Stood, says, ports-still}
use Rattle.law_network.proofs.Links.Abouts.{IsAbout, moves-none, moves-put, packets-at, packets-about}
use Rattle.law_network.proofs.Standing.Onward.{step}
use Rattle.law_network.proofs.Standing.Leading.{Calm, LeadsOn, rests-behind, behind-calm}
use Rattle.law_network.proofs.Trying.Waiting.{GoesFirst, waiting-passes, waiting-tells}
use Rattle.law_network.proofs.Links.Reports.{reports-from, report-moves, report-view}
use Rattle.chorus_world.proofs.Messages.Growing.{post-grows}

pub about-try : (m : Message) (q : Ui) (r : Option Ui) (only : Option ℕ) (hop : ℕ) → IsAbout m.id (cargos.Try m q r only hop)
about-try m q r only hop = record { this = same_id-self m.id; others = λ z n. n; plain = refl; still = λ f. refl }

-- what a decision does, for each answer to a message
pub record Decides (a : Answer) (x : MsgId) (q : Ui) (h : ℕ) : Type 0 where
  pub message : message_of (decision x q h a) ≡ Some x
  pub caller : moves_caller (decision x q h a) ≡ false
  pub sends : sent_by (decision x q h a) ≡ []
  pub teaches : teaches (decision x q h a) ≡ false
  pub posts : posts_or_hears (decision x q h a) ≡ false
  pub asks : asks_or_chooses (decision x q h a) ≡ false
  pub takes : (past : List Entry) (s : ℕ) → reply_taken_by past s (decision x q h a) ≡ None
  pub kinds : has_kinds (decision x q h a) ≡ is_port q
  pub fits : (past : List Entry) (p : ℕ) (actor : Ui) → fits_caller past p actor (decision x q h a) ≡ true
  pub looks : (l : Layout) (p : ℕ) → LooksAtHome l p (decision x q h a)

-- the last two are no answers to a message for a port
abbrev pub is_decision_answer : Answer → Bool
is_decision_answer answers.NoMember = false
is_decision_answer (answers.Chosen n) = false
is_decision_answer _ = true

pub decides : (a : Answer) (x : MsgId) (q : Ui) (h : ℕ) → Decides a x q h
decides (answers.Accepted n) x q h = record { message = refl; caller = refl; sends = refl; teaches = refl; posts = refl; asks = refl; takes = λ past s. refl; kinds = refl; fits = λ past p b. refl; looks = λ l p. tt }
decides (answers.Full n) x q h = record { message = refl; caller = refl; sends = refl; teaches = refl; posts = refl; asks = refl; takes = λ past s. refl; kinds = refl; fits = λ past p b. refl; looks = λ l p. tt }
decides (answers.Stale to n) x q h = record { message = refl; caller = refl; sends = refl; teaches = refl; posts = refl; asks = refl; takes = λ past s. refl; kinds = refl; fits = λ past p b. refl; looks = λ l p. tt }
decides (answers.Early n) x q h = record { message = refl; caller = refl; sends = refl; teaches = refl; posts = refl; asks = refl; takes = λ past s. refl; kinds = refl; fits = λ past p b. refl; looks = λ l p. tt }
decides answers.NoPort x q h = record { message = refl; caller = refl; sends = refl; teaches = refl; posts = refl; asks = refl; takes = λ past s. refl; kinds = refl; fits = λ past p b. refl; looks = λ l p. tt }
decides answers.Already x q h = record { message = refl; caller = refl; sends = refl; teaches = refl; posts = refl; asks = refl; takes = λ past s. refl; kinds = refl; fits = λ past p b. refl; looks = λ l p. tt }
decides answers.ClientsFull x q h = record { message = refl; caller = refl; sends = refl; teaches = refl; posts = refl; asks = refl; takes = λ past s. refl; kinds = refl; fits = λ past p b. refl; looks = λ l p. tt }
decides (answers.Elsewhere to n) x q h = record { message = refl; caller = refl; sends = refl; teaches = refl; posts = refl; asks = refl; takes = λ past s. refl; kinds = refl; fits = λ past p b. refl; looks = λ l p. tt }
decides answers.NoMember x q h = record { message = refl; caller = refl; sends = refl; teaches = refl; posts = refl; asks = refl; takes = λ past s. refl; kinds = refl; fits = λ past p b. refl; looks = λ l p. tt }
decides (answers.Chosen n) x q h = record { message = refl; caller = refl; sends = refl; teaches = refl; posts = refl; asks = refl; takes = λ past s. refl; kinds = refl; fits = λ past p b. refl; looks = λ l p. tt }
decides answers.Gone x q h = record { message = refl; caller = refl; sends = refl; teaches = refl; posts = refl; asks = refl; takes = λ past s. refl; kinds = refl; fits = λ past p b. refl; looks = λ l p. tt }

pub decision-progress : (a : Answer) (x : MsgId) (q : Ui) (h p : ℕ) (s : Progress) → is_decision_answer a ≡ true → progress_after p (decision x q h a) s ≡ decided p q a s
decision-progress (answers.Accepted n) x q h p s d = refl
decision-progress answers.NoMember x q h p s d = absurd (false≢true d)
decision-progress (answers.Chosen n) x q h p s d = absurd (false≢true d)
decision-progress answers.Gone x q h p s d = refl
decision-progress _ x q h p s d = refl

-- a final answer settles its message
pub settling : (a : Answer) (x : MsgId) (q : Ui) (h : ℕ) → is_decision_answer a ≡ true → is_final a ≡ true → is_settling (decision x q h a) ≡ true
settling (answers.Accepted n) x q h d f = refl
settling (answers.Full n) x q h d f = refl
settling (answers.Stale to n) x q h d f = absurd (false≢true f)
settling (answers.Early n) x q h d f = refl
settling answers.NoMember x q h d f = absurd (false≢true d)
settling (answers.Chosen n) x q h d f = absurd (false≢true d)
settling answers.Gone x q h d f = refl
settling _ x q h d f = refl

-- What an answer owes where it is given: that the step relation allows it, and what becomes of the records. The packets `now`
-- are those under way when the message is decided; none of them is about it.
pub record Fits (n : NetState) (us : List Outgoing) (past : List Entry) (t : Turn) (m : Message) (q : Ui) (h : ℕ) (a : Answer) : Type 0 where
  pub answers : is_decision_answer a ≡ true
  pub may : act_may_here t.place.layout (local_views past past t.place.number t.caller.seat (decision m.id q h a)) t.place.number t.caller.seat (decision m.id q h a) ≡ true
  pub clock : last_clock (filter (is_on (held_port_of (decision m.id q h a))) past) ≤ known_clock t
  pub ports : PortsSay past (next_entry (decision m.id q h a) t) (records_after a m q t.place.ports)
  pub transfers : (r : Ui) → transfer (next_entry (decision m.id q h a) t ∷ past) r ≡ transfer past r

module _ (n : NetState) (us : List Outgoing) (past : List Entry) (t : Turn) (i : Calm n us past t) (k : Key) (v : Wait) (g : GoesFirst past t.place.number k v (known_clock t) (put_all t.puts us)) where
  abbrev w : Stood n us past t
  w = i.stood

  abbrev os : List Outgoing
  os = put_all t.puts us

  abbrev l : Layout
  l = t.place.layout

  abbrev p : ℕ
  p = t.place.number

  abbrev x : MsgId
  x = v.message.id

  route-now : route past x t.place.number ≡ k.route
  route-now = ap route_in g.sent

  -- it is tried at another place
  pub tries-at-stands : (there : Location) → located t.place.layout k.port (at t.place.number past) ≡ there → is_beyond t.place.layout k.port ≡ false → is_on_site t.place.layout v.only there.to ≡ true
      → (there.to == t.place.number) ≡ false → LeadsOn n us past (tries_at k v there t)
  tries-at-stands there loc near site away =
      let a = acts.Try x k.port there.to there.hop in
      let e = next_entry a t in
      let q = k.port in
      let o = packed t (there.to, cargos.Try v.message k.port k.route v.only there.hop) in
      let here = local_views past past p t.caller.seat a in
      let goes : is_to_go l here x q there.to ≡ true =
      and_from (is_first x q (at p past) && not (is_beyond l q)) ((located l q (at p past)).to == there.to)
      (and_from (is_first x q (at p past)) (not (is_beyond l q)) g.first (ap not near)) (eq-eqb (located l q (at p past)).to there.to (ap (λ (z : Location). z.to) loc)) in
      let hop : ((located l q (at p past)).hop == there.hop) ≡ true = eq-eqb (located l q (at p past)).hop there.hop (ap (λ (z : Location). z.hop) loc) in
      let may : act_may_here l here p t.caller.seat a ≡ true =
      and_from (is_to_go l here x q there.to && ((located l q (at p past)).hop == there.hop) && not (there.to == p)) (is_on_site l (site_asked x past) there.to)
      (and_from (is_to_go l here x q there.to && ((located l q (at p past)).hop == there.hop)) (not (there.to == p))
      (and_from (is_to_go l here x q there.to) ((located l q (at p past)).hop == there.hop) goes hop) (ap not away))
      (ap (λ z. is_on_site l z there.to) (sym g.only) ∙ site) in
      let put-it : filter (is_of x) (put o os) ≡ o ∷ [] = put-in (is_of x) o os (same_id-self x) g.packets in
      let same : packet p there.to (next_clock t) (cargos.Try (message (e ∷ past) x) q (route (e ∷ past) x p) (site_asked x (e ∷ past)) there.hop) ≡ o =
      (λ j. packet p there.to (next_clock t) (cargos.Try (message-grows e past x g.posted j) q (route-grows e past x p (record { id = x; port = q; route = k.route }) g.sent j) (site_from (post-grows e past x g.posted j)) there.hop))
      ∙ (λ j. packet p there.to (next_clock t) (cargos.Try (sym g.message j) q (route-now j) (sym g.only j) there.hop)) in
      let says-may : MaySay past t a =
      record {
        kinds = g.named;
        behind = behind-calm past p a i.rests;
        may = may;
        fits = refl;
        looks = tt;
        message = g.clock;
        port = no-port-clock past None (known_clock t) refl;
      } in
      step (λ now. Calm n us now (tries_at k v there t)) e past
      (record {
        stood = says n us past t w a (record (unchanged t) { waiting = changed k (queued.at (Some there.to)) t.place.waiting; loads = (there.to, cargos.Try v.message k.port k.route v.only there.hop) ∷ [] })
            (record {
              may = says-may;
              caller = caller-still past t a refl w.caller;
              ports = ports-still n us past t w a refl;
              tables = record {
                known = known-still l t.place.known e (at p past) refl w.here.known;
                waiting = waiting-tells n us past t w a says-may refl k g.head g.rest g.heads (ap (λ z. Some z) (sym g.id)) refl (Some there.to) refl;
                unheard = unheard-still l past e t.place.unheard refl w.here.unheard;
              };
              packets = packets-about n us past t w x a (put o os) refl refl refl
                  (moves-put x os os o (about-try v.message k.port k.route v.only there.hop) (moves-none x os w.packets.order))
                  (put-it ∙ ap (λ z. z ∷ []) (sym same));
            });
        rests = rests-behind past t a refl;
      })

  -- it has its verdict here
  pub settles-here-stands : (h : ℕ) (a : Answer) → is_final a ≡ true → Fits n us past t v.message k.port h a → LeadsOn n us past (settles_here k v h a t)
  settles-here-stands h a final f =
      let q = k.port in
      let act = decision x q h a in
      let e = next_entry act t in
      let d = decides a x q h in
      let loads = report p v.home x a in
      let new = put_all (map (packed t) loads) os in
      let moved = report-moves x a t v.home os os (moves-none x os w.packets.order) in
      let post = g.posted.0 in
      let home : v.home ≡ post.place = g.home ∙ ap home_from g.posted.1 in
      let now : progress_after p act (progress (about x past)) ≡ Settled a =
      decision-progress a x q h p (progress (about x past)) f.answers ∙ (ap (decided p q a) g.idle ∙ ap (λ b. cond b (Settled a) Idle) final) in
      let far = reports-from l past x p (record { id = x; port = q; route = k.route }) post (legal-now n os past t w) g.sent g.posted.1 in
      let shown : under_way_as l (e ∷ past) x (next_clock t) (progress_after p act (progress (about x past))) ≡ reported_to x (next_clock t) a v.home (cond (p == v.home) None (Some p)) =
      ap (under_way_as l (e ∷ past) x (next_clock t)) now
      ∙ (ap (reported_as l x (next_clock t) a) (post-grows e past x g.posted ∙ g.posted.1)
      ∙ (ap (reported_to x (next_clock t) a post.place) far
      ∙ ap (λ z. reported_to x (next_clock t) a z (cond (p == z) None (Some p))) (sym home))) in
      let says-may : MaySay past t act =
      record {
        kinds = d.kinds ∙ g.named;
        behind = behind-calm past p act i.rests;
        may = f.may;
        fits = d.fits past p t.caller.actor;
        looks = d.looks l p;
        message = ap-clock d.message g.clock;
        port = f.clock;
      } in
      step (λ now. Calm n us now (settles_here k v h a t)) e past
      (record {
        stood = says n us past t w act (record (unchanged t) { ports = records_after a v.message q t.place.ports; waiting = changed k passed t.place.waiting; loads = loads })
            (record {
              may = says-may;
              caller = caller-still past t act d.caller w.caller;
              ports = f.ports;
              tables = record {
                known = known-still l t.place.known e (at p past) d.teaches w.here.known;
                waiting = waiting-passes n us past t w act says-may d.sends k g.head g.rest g.heads (d.message ∙ ap (λ z. Some z) (sym g.id)) (settling a x q h f.answers final);
                unheard = unheard-still l past e t.place.unheard d.posts w.here.unheard;
              };
              packets = packets-at n us past t w x act new d.message d.asks moved
                  (λ r. moved.ports r ∙ (w.packets.transfers r ∙ sym (f.transfers r)))
                  (report-view x a t v.home os final g.packets ∙ sym shown);
            });
        rests = rests-behind past t act (d.takes (e ∷ past) t.caller.seat);
      })
    where
      ap-clock : {o : Option MsgId} → o ≡ Some v.message.id → last_clock (about v.message.id past) ≤ known_clock t → last_clock (filter (is_about o) past) ≤ known_clock t
      ap-clock m c = subst (λ z. last_clock (filter (is_about z) past) ≤ known_clock t) (sym m) c
