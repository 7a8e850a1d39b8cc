-- A message is posted to a port.
use Rattle.std.proofs.Common.{ℕ, ◌≡◌, ◌<◌, ◌+◌, Bool, true, false, ◌&&◌, cond, List, [], ◌∷◌, map, Option, Some, None, refl, sym, ◌∙◌, ap, arith, eq-eqb}
use Rattle.std.specs.List.{filter}
use Rattle.std.specs.Option.{option_or}
use Rattle.std.proofs.lemmas.Bool.{and_from}
use Rattle.chorus_ui.specs.declared.ui.Ui.{Ui}
use Rattle.chorus_ui.specs.declared.layout.Layout.{Layout}
use Rattle.chorus_entry.specs.declared.entry.Entry.{Entry}
use Rattle.chorus_entry.specs.declared.dest.Dest.{Dest}
use Rattle.chorus_entry.specs.declared.dest.Dest.TheVariants as dests
use Rattle.chorus_entry.specs.declared.message.Message.{Message}
use Rattle.chorus_entry.specs.declared.act.Act.TheVariants as acts
use Rattle.chorus_ui.specs.NameKind.{is_port}
use Rattle.chorus_entry.specs.Kinds.{has_kinds_in_tag}
use Rattle.chorus_entry.specs.MsgId.{same_id}
use Rattle.chorus_entry.proofs.Same.{same_id-self, from_same_id}
use Rattle.chorus_world.specs.declared.place.Sent.{Sent}
use Rattle.chorus_ui.specs.Name.{same_ui}
use Rattle.chorus_ui.proofs.Names.{same_ui-self}
use Rattle.chorus_world.proofs.Messages.SendingLemmas.{sent_as}
use Rattle.chorus_world.specs.Views.{at, by, about, is_by, is_about}
use Rattle.chorus_world.specs.Places.{last_clock}
use Rattle.chorus_world.specs.Posts.{Posted, post_of, posted_in, posted_by, source, site_from, as_posted}
use Rattle.chorus_world.specs.Messages.{progress}
use Rattle.chorus_world.specs.Seats.{posts}
use Rattle.chorus_world.proofs.Sorted.Local.{local_views, act_may_here}
use Rattle.chorus_world.proofs.Steps.LegalLemmas.{keeps}
use Rattle.chorus_world.proofs.Messages.PostLemmas.{own_source}
use Rattle.place_unsettled.specs.declared.wait.Key.{Key}
use Rattle.place_unsettled.specs.declared.wait.Wait.{Wait}
use Rattle.place_unsettled.specs.Queues.{changed, with_last}
use Rattle.law_machine.specs.declared.outgoing.Outgoing.{Outgoing}
use Rattle.law_machine.specs.PlaceState.{Turn, Change, next_entry, unchanged, say}
use Rattle.law_machine.specs.Doing.{poster, direct, post, posts_direct}
use Rattle.law_network.specs.Packets.{put_all}
use Rattle.law_network.specs.Network.{NetState}
use Rattle.law_network.specs.Records.{home_from, as_wait, is_for, queue_at}
use Rattle.law_network.specs.UnderWay.{is_of, under_way_as}
use Rattle.law_network.proofs.Standing.Says.{known_clock, CallerSays, MaySay}
use Rattle.law_network.proofs.Standing.StillCallers.{no-port-clock}
use Rattle.law_network.proofs.Standing.Steps.{Stood, facts, laws, legal-with, says, ports-still}
use Rattle.law_network.proofs.Links.Abouts.{moves-none, packets-about}
use Rattle.law_network.proofs.Standing.Onward.{step, then}
use Rattle.law_network.proofs.Standing.Leading.{Calm, LeadsOn, behind-calm, rests-behind}
use Rattle.law_network.proofs.Trying.Going.{go-stands}
use Rattle.law_network.proofs.Tables.Keys.{for-other}
use Rattle.law_network.proofs.Tables.Queues.{with_all, queue-sends, queue-stays}
use Rattle.law_network.proofs.Tables.TablesSay.{known-still, unheard-posted, waiting-changed}

-- the caller's next message is not known yet
pub record IsNew (past : List Entry) (t : Turn) (m : Message) : Type 0 where
  pub seat : m.id.seat ≡ t.caller.seat
  pub number : m.id.number ≡ t.caller.posts + 1
  pub copy : m.id.copy ≡ 0

module _ (n : NetState) (us : List Outgoing) (past : List Entry) (t : Turn) (i : Calm n us past t) (m : Message) (new : IsNew past t m) where
  abbrev w : Stood n us past t
  w = i.stood

  abbrev l : Layout
  l = t.place.layout

  abbrev p : ℕ
  p = t.place.number

  abbrev k : ℕ
  k = t.caller.seat

  less : posts (by m.id.seat past) < m.id.number
  less =
      let same : posts (by m.id.seat past) ≡ posts (by k past) = ap (λ z. posts (by z past)) new.seat in
      let mine = w.caller.posts in
      let number = new.number in
      omega (arith, same, mine, number)

  pub unknown : about m.id past ≡ []
  unknown = ((facts n us past t w m.id).fresh less).about

  pub unposted : post_of m.id past ≡ None
  unposted = (facts n us past t w m.id).unposted less

  -- the post is the one of its id from then on
  pub post-now : (d : Dest) → post_of m.id (next_entry (acts.Post m d) t ∷ past) ≡ Some (record { place = t.place.number; message = m; dest = d })
  post-now d =
      let e = next_entry (acts.Post m d) t in
      let own : source m.id ≡ m.id = own_source m.id new.copy in
      ap (posted_in (source m.id)) (keeps (is_by m.id.seat) e past (eq-eqb k m.id.seat (sym new.seat)))
      ∙ (ap (λ o. option_or o (posted_by (source m.id) p (acts.Post m d))) unposted
      ∙ ap (λ b. cond b (Some (record { place = p; message = m; dest = d })) None) (ap (same_id m.id) own ∙ same_id-self m.id))

  -- the turn with the post
  abbrev pub change : Ui → Change
  change q =
      record (unchanged t) {
        caller = poster m (dests.Port q) t.caller;
        waiting = changed (direct q) (with_last (post m t.place.number)) t.place.waiting;
      }

  -- the post waits behind the others of its port
  post-waits : (q : Ui) → MaySay past t (acts.Post m (dests.Port q)) → (j : Key) → changed (direct q) (with_last (post m t.place.number)) t.place.waiting j ≡ queue_at (next_entry (acts.Post m (dests.Port q)) t ∷ past) t.place.number j
  post-waits q may =
      let a = acts.Post m (dests.Port q) in
      let e = next_entry a t in
      let all = (laws n us past t w).posted in
      let legal = legal-with n us past t w a may in
      let key = direct q in
      let s : Sent = record { id = m.id; port = q; route = None } in
      let goes : is_for key s ≡ true = and_from (same_ui q q) true (same_ui-self q) refl in
      let waits : as_wait (e ∷ past) s ≡ post m p = (λ j. wait-of m (post-now (dests.Port q) j)) in
      let this : with_last (post m p) (queue_at past p key) ≡ queue_at (e ∷ past) p key =
      ap (λ z. with_last z (queue_at past p key)) (sym waits)
      ∙ sym (queue-sends l past e key all legal (apart key) ∙ ap (λ b. with_all (map (as_wait (e ∷ past)) (cond b (s ∷ []) [])) (queue_at past p key)) goes) in
      waiting-changed l past e t.place.waiting all legal w.here.waiting key (with_last (post m p)) this
      (λ j other. queue-stays l past e j all legal (ap (λ b. cond b (s ∷ []) []) (for-other key j s goes other)) (apart j))
    where
      wait-of : (m : Message) → Option Posted → Wait
      wait-of m o = record { message = as_posted m.id o; only = site_from o; home = home_from o }

      apart : (k : Key) (j : Sent) → sent_as j.id t.place.number past ≡ Some j → is_for k j ≡ true → is_about (Some j.id) (next_entry (acts.Post m (dests.Port q)) t) ≡ false
      apart k j found for = go (same_id j.id m.id) refl
        where
          go : (b : Bool) → same_id j.id m.id ≡ b → b ≡ false
          go false e = refl
          go true e =
              let same : j.id ≡ m.id = from_same_id j.id m.id e in
              absurd (let bad : None ≡ Some j = sym (((facts n us past t w m.id).fresh less).unsent p) ∙ (ap (λ z. sent_as z p past) (sym same) ∙ found) in cc)

  pub posted-calm : (q : Ui) → (has_kinds_in_tag m.tag && is_port q) ≡ true
      → act_may_here t.place.layout (local_views past past t.place.number t.caller.seat (acts.Post m (dests.Port q))) t.place.number t.caller.seat (acts.Post m (dests.Port q)) ≡ true
      → CallerSays past t (acts.Post m (dests.Port q)) (poster m (dests.Port q) t.caller) → (let a = acts.Post m (dests.Port q) in Calm n us (next_entry a t ∷ past) (say a (change q) t))
  posted-calm q kinds may caller =
      let a = acts.Post m (dests.Port q) in
      let e = next_entry a t in
      let none : filter (is_of m.id) (put_all t.puts us) ≡ [] = w.packets.messages m.id ∙ ap (λ v. under_way_as l past m.id (last_clock v) (progress v)) unknown in
      let zero-is : last_clock (about m.id past) ≡ 0 = ap last_clock unknown in
      let says-may : MaySay past t a =
      record {
        kinds = kinds;
        behind = behind-calm past p a i.rests;
        may = may;
        fits = refl;
        looks = tt;
        message = omega (arith, zero-is);
        port = no-port-clock past None (known_clock t) refl;
      } in
      let stood = says n us past t w a (change q)
      (record {
        may = says-may;
        caller = caller;
        ports = ports-still n us past t w a refl;
        tables = record {
          known = known-still l t.place.known e (at p past) refl w.here.known;
          waiting = post-waits q says-may;
          unheard = unheard-posted l past e t.place.unheard m (dests.Port q) refl refl w.here.unheard;
        };
        packets = packets-about n us past t w m.id a (put_all t.puts us) refl refl refl (moves-none m.id (put_all t.puts us) w.packets.order) none;
      }) in
      record { stood = stood; rests = rests-behind past t a refl }

  pub post-stands : (q : Ui) → (has_kinds_in_tag m.tag && is_port q) ≡ true
      → act_may_here t.place.layout (local_views past past t.place.number t.caller.seat (acts.Post m (dests.Port q))) t.place.number t.caller.seat (acts.Post m (dests.Port q)) ≡ true
      → CallerSays past t (acts.Post m (dests.Port q)) (poster m (dests.Port q) t.caller) → LeadsOn n us past (posts_direct m q t)
  post-stands q kinds may caller =
      let a = acts.Post m (dests.Port q) in
      let u = say a (change q) t in
      let calm = posted-calm q kinds may caller in
      then (λ now. Calm n us now u) (λ now. Calm n us now (posts_direct m q t)) past (step (λ now. Calm n us now u) (next_entry a t) past calm)
      (λ now c. go-stands n us (direct q) now u c)
