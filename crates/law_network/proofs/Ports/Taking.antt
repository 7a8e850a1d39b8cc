-- A message is received; and a reply ends a call, or is late.
use Rattle.std.proofs.Common.{ℕ, zero, suc, ◌≡◌, ◌==◌, ◌+◌, Bool, true, false, ◌&&◌, not, cond, if◌then◌else◌, List, [], ◌∷◌, drop, map, Option, Some, None, refl, sym, ◌∙◌, ap, subst, arith, eq-eqb}
use Rattle.std.proofs.lemmas.Bool.{and_from, and_parts, false≢true}
use Rattle.chorus_ui.specs.declared.ui.Ui.{Ui}
use Rattle.chorus_ui.specs.Name.{same_ui}
use Rattle.chorus_ui.proofs.Names.{same_ui-self}
use Rattle.chorus_entry.specs.declared.entry.Entry.{Entry}
use Rattle.chorus_entry.specs.declared.id.MsgId.{MsgId}
use Rattle.chorus_entry.specs.declared.tag.Tag.{Tag}
use Rattle.chorus_entry.specs.declared.tag.Tag.TheVariants as tags
use Rattle.chorus_entry.specs.declared.message.Message.{Message}
use Rattle.chorus_entry.specs.declared.command.Command.{Command}
use Rattle.chorus_entry.specs.declared.act.Act.TheVariants as acts
use Rattle.chorus_entry.specs.declared.record.PortRecord.{PortRecord}
use Rattle.chorus_world.specs.Views.{at, by, on}
use Rattle.chorus_entry.specs.Same.{is_number}
use Rattle.chorus_world.specs.Ports.{PortState}
use Rattle.chorus_world.specs.Places.{just_taken, reply_taken}
use Rattle.chorus_world.specs.Posts.{Posted, post_of, tag_of, tag_from, as_posted}
use Rattle.chorus_world.specs.Seats.{call, hand_with, ended}
use Rattle.chorus_world.specs.Steps.{is_taken_by, may_stand_behind}
use Rattle.chorus_world.specs.Steps as steps
use Rattle.chorus_world.proofs.Sorted.Agreement.{tag_agrees}
use Rattle.chorus_world.proofs.Messages.Posted.{IsPosted, EachPosted}
use Rattle.chorus_world.proofs.Messages.SendingLemmas.{at_same}
use Rattle.chorus_ports.specs.Table.{find, replace}
use Rattle.chorus_ports.specs.Taking.{after_take, passed}
use Rattle.chorus_calls.specs.Clients.{Call, Calling, is_outstanding, has_number, after_cancel}
use Rattle.chorus_calls.specs.Callers.{Seated, with_client}
use Rattle.law_machine.specs.declared.outgoing.Outgoing.{Outgoing}
use Rattle.law_machine.specs.PlaceState.{Turn, next_entry, unchanged, say, note}
use Rattle.law_machine.specs.Doing.{ends_call, holding}
use Rattle.chorus_world.proofs.Seats.OnlyAnswer.{Fitting}
use Rattle.law_network.specs.Network.{NetState}
use Rattle.law_network.specs.Records.{message, record_for, outstanding_as, as_called}
use Rattle.law_network.specs.Packets.{put_all}
use Rattle.law_network.proofs.Standing.Saying.{legal-now}
use Rattle.chorus_world.proofs.Seats.CallBounds.{outstanding-posted}
use Rattle.chorus_world.proofs.Messages.Growing.{goes-on}
use Rattle.law_network.proofs.Standing.StillCallers.{outstanding-more}
use Rattle.law_network.proofs.Standing.Steps.{Stood, says, tables-still, may-say, notes, calls}
use Rattle.law_network.proofs.Ports.HeldPorts.{replaced}
use Rattle.law_network.proofs.Standing.Leading.{LeadsOn, leads-one}
use Rattle.law_network.proofs.Ports.PortCommands.{z, each-posted, old-record, port-may, still-packets}

drop-rest : (k : ℕ) (xs : List MsgId) (x : MsgId) (ys : List MsgId) → drop k xs ≡ x ∷ ys → drop (k + 1) xs ≡ ys
drop-rest zero [] x ys h = absurd (cc)
drop-rest zero (y ∷ xs) x ys h = cc
drop-rest (suc k) [] x ys h = absurd (cc)
drop-rest (suc k) (y ∷ xs) x ys h = let e : suc k + 1 ≡ suc (k + 1) = omega arith in ap (λ m. drop m (y ∷ xs)) e ∙ drop-rest k xs x ys h

map-first : (past : List Entry) (xs : List MsgId) (m : Message) (ms : List Message) → map (message past) xs ≡ m ∷ ms → (x : MsgId) × ((ys : List MsgId) × ((xs ≡ x ∷ ys) × ((message past x ≡ m) × (map (message past) ys ≡ ms))))
map-first past [] m ms h = absurd (cc)
map-first past (x ∷ xs) m ms h = (x, (xs, (refl, (cc, cc))))

id-of : (past : List Entry) (x : MsgId) → (message past x).id ≡ x
id-of past x = go (post_of x past)
  where
    go : (o : Option Posted) → (as_posted x o).id ≡ x
    go None = refl
    go (Some m) = refl

tag-of : (past : List Entry) (x : MsgId) → (message past x).tag ≡ tag_of x past
tag-of past x = go (post_of x past)
  where
    go : (o : Option Posted) → (as_posted x o).tag ≡ tag_from o
    go None = refl
    go (Some m) = refl

each-drop : (past : List Entry) (k : ℕ) (xs : List MsgId) (x : MsgId) (ys : List MsgId) → EachPosted past xs → drop k xs ≡ x ∷ ys → IsPosted past x
each-drop past zero [] x ys h e = absurd (cc)
each-drop past zero (y ∷ xs) x ys h e = let same : y ≡ x = cc in subst (IsPosted past) same h.0
each-drop past (suc k) [] x ys h e = absurd (cc)
each-drop past (suc k) (y ∷ xs) x ys h e = each-drop past k xs x ys h.1 e

-- the caller that takes

holds-seat : (x : MsgId) (g : Tag) (c : Seated) → (holding x g c).seat ≡ c.seat
holds-seat x tags.Plain c = refl
holds-seat x (tags.Request k b) c = refl
holds-seat x (tags.Reply k b) c = refl

holds-actor : (x : MsgId) (g : Tag) (c : Seated) → (holding x g c).actor ≡ c.actor
holds-actor x tags.Plain c = refl
holds-actor x (tags.Request k b) c = refl
holds-actor x (tags.Reply k b) c = refl

holds-posts : (x : MsgId) (g : Tag) (c : Seated) → (holding x g c).posts ≡ c.posts
holds-posts x tags.Plain c = refl
holds-posts x (tags.Request k b) c = refl
holds-posts x (tags.Reply k b) c = refl

holds-client : (x : MsgId) (g : Tag) (c : Seated) → (holding x g c).client ≡ c.client
holds-client x tags.Plain c = refl
holds-client x (tags.Request k b) c = refl
holds-client x (tags.Reply k b) c = refl

holds-hand : (x : MsgId) (g : Tag) (c : Seated) → (holding x g c).hand ≡ hand_with x.seat g c.hand
holds-hand x tags.Plain c = refl
holds-hand x (tags.Request k b) c = refl
holds-hand x (tags.Reply k b) c = refl

module _ (n : NetState) (us : List Outgoing) (past : List Entry) (t : Turn) (w : Stood n us past t) (q : Ui) (r : PortRecord) (found : find q t.place.ports ≡ Some r) (mine : r.actor ≡ t.caller.actor) (rests : just_taken past (at t.place.number past) ≡ None) where
  -- Take
  pub take-stands : {c : Command} (m : Message) (ms : List Message) → r.pending ≡ m ∷ ms → Fitting t.place.layout past t.place.number t.caller.seat t.caller.actor c (acts.Take q r.first m.id)
      → (let a = acts.Take q r.first m.id in
      Stood n us (next_entry a t ∷ past) (say a (record (unchanged t) { caller = holding m.id m.tag t.caller; ports = replace q (after_take t.caller.actor) t.place.ports }) t)
      × (just_taken (next_entry a t ∷ past) (at t.place.number (next_entry a t ∷ past)) ≡ reply_taken t.caller.seat m.tag))
  take-stands m ms pend fit =
      let p = t.place.number in
      let line = on q past in
      let x = m.id in
      let a = acts.Take q r.first x in
      let e = next_entry a t in
      let h = z n us past t w q r found rests in
      let f = h.fate_of in
      let g : PortState = record f { taken = f.taken + 1 } in
      let first = map-first past (drop f.taken f.accepted) m ms (sym (ap (λ (k : PortRecord). k.pending) h.shows) ∙ pend) in
      let id : first.0 ≡ x = sym (id-of past first.0) ∙ ap (λ (k : Message). k.id) first.1.1.1.0 in
      let head : drop f.taken f.accepted ≡ x ∷ first.1.0 = first.1.1.0 ∙ ap (λ y. y ∷ first.1.0) id in
      let posted = each-drop past f.taken f.accepted x first.1.0 (each-posted n us past t w q r found rests) head in
      let tag : m.tag ≡ tag_of x (e ∷ past) =
      sym (ap (λ (k : Message). k.tag) first.1.1.1.0) ∙ (tag-of past first.0 ∙ (ap (λ y. tag_of y past) id ∙ sym (tag_agrees (e ∷ past) past x (goes-on e past) posted))) in
      let old = old-record n us past t w q r found rests e in
      let pend2 : (record_for (e ∷ past) line q r.actor f).pending ≡ m ∷ ms = ap (λ (k : PortRecord). k.pending) (sym old) ∙ pend in
      let later : map (message (e ∷ past)) (drop (f.taken + 1) f.accepted) ≡ ms =
      ap (map (message (e ∷ past))) (drop-rest f.taken f.accepted x first.1.0 head)
      ∙ rest-is (e ∷ past) (drop f.taken f.accepted) x first.1.0 m ms head pend2 in
      let is : after_take t.caller.actor r ≡ record_for (e ∷ past) (e ∷ line) q r.actor g =
      ap (λ b. if b then passed r.pending r else r) (ap (λ u. same_ui u t.caller.actor) mine ∙ same_ui-self t.caller.actor)
      ∙ (ap (λ ks. passed ks r) pend
      ∙ (ap (λ (k : PortRecord). record k { first = k.first + 1; pending = ms }) old
      ∙ ap (λ ks. record (record_for (e ∷ past) (e ∷ line) q r.actor g) { pending = ks }) (sym later))) in
      let s = replaced n us past t w q r found e r.actor g (after_take t.caller.actor) (keeps-name t.caller.actor) refl refl refl h.spot h.place is in
      let view = by t.caller.seat past in
      let may = port-may n us past t w q r found rests a refl refl fit.kinds fit.may fit.fits tt in (
        says n us past t w a (record (unchanged t) { caller = holding x m.tag t.caller; ports = replace q (after_take t.caller.actor) t.place.ports })
            (record {
              may = may;
              caller = record {
                seat = holds-seat x m.tag t.caller;
                actor = holds-actor x m.tag t.caller;
                posts = holds-posts x m.tag t.caller;
                given = ap (λ (k : Calling). k.given) (holds-client x m.tag t.caller);
                call = ap (λ (k : Calling). k.outstanding) (holds-client x m.tag t.caller) ∙ (w.caller.call ∙ sym (outstanding-more e view (call view) (λ y. refl)));
                hand = holds-hand x m.tag t.caller ∙ ap (λ k. hand_with x.seat k t.caller.hand) tag;
                stays = refl;
              };
              ports = s.ports;
              tables = tables-still n us past t w a may refl refl refl (λ k f. refl);
              packets = still-packets n us past t w q r found rests a refl refl s.transfers;
            }),
        ap (just_taken (e ∷ past)) (at_same p e past refl) ∙ ap (reply_taken t.caller.seat) (sym tag),
      )
    where
      keeps-name : (actor : Ui) (k : PortRecord) → (after_take actor k).ui ≡ k.ui
      keeps-name actor k = go (same_ui k.actor actor) k.pending
        where
          go : (b : Bool) (ks : List Message) → (if b then passed ks k else k).ui ≡ k.ui
          go true [] = refl
          go true (y ∷ ys) = refl
          go false ks = refl

      rest-is : (all : List Entry) (xs : List MsgId) (x : MsgId) (ys : List MsgId) (m : Message) (ms : List Message) → xs ≡ x ∷ ys → map (message all) xs ≡ m ∷ ms → map (message all) ys ≡ ms
      rest-is all xs x ys m ms h k = let both : message all x ∷ map (message all) ys ≡ m ∷ ms = ap (map (message all)) (sym h) ∙ k in cc

-- Done or Late, directly behind the Take of a reply to the client's request of this number
module _ (n : NetState) (us : List Outgoing) (past : List Entry) (t : Turn) (w : Stood n us past t) (client num : ℕ) (taken : just_taken past (at t.place.number past) ≡ Some (record { taker = t.caller.seat; client = client; number = num })) where
  abbrev mine : List Entry
  mine = by t.caller.seat past

  -- the outstanding call has the number that the past says
  number-is : (o : Option ℕ) (c : Option Call) → c ≡ outstanding_as (by t.caller.seat past) o → call (by t.caller.seat past) ≡ o → has_number num c ≡ is_number num o
  number-is None c h e = ap (has_number num) h
  number-is (Some k) c h e =
      let was = outstanding-posted t.place.layout past t.caller.seat k (legal-now n (put_all t.puts us) past t w) e in
      ap (has_number num) (h ∙ ap (as_called k) was.1)

  ends-is : is_outstanding num t.caller.client ≡ is_number num (call (by t.caller.seat past))
  ends-is = number-is (call mine) t.caller.client.outstanding w.caller.call refl

  self : ((t.caller.seat == t.caller.seat) && (num == num)) ≡ true
  self = and_from (t.caller.seat == t.caller.seat) (num == num) (eq-eqb t.caller.seat t.caller.seat refl) (eq-eqb num num refl)

  pub ends-call-stands : LeadsOn n us past (ends_call client num t)
  ends-call-stands = go ((client == t.caller.seat) && is_outstanding num t.caller.client) refl
    where
      test : (client == t.caller.seat) && is_outstanding num t.caller.client ≡ steps.ends_call t.caller.seat num (call (by t.caller.seat past)) (just_taken past (at t.place.number past))
      test = ap (λ b. (client == t.caller.seat) && b) ends-is ∙ sym (ap (steps.ends_call t.caller.seat num (call mine)) taken)

      by-taker : is_taken_by t.caller.seat num (just_taken past (at t.place.number past)) ≡ true
      by-taker = ap (is_taken_by t.caller.seat num) taken ∙ self

      go : (b : Bool) → ((client == t.caller.seat) && is_outstanding num t.caller.client) ≡ b
          → LeadsOn n us past (cond b (say (acts.Done num) (record (unchanged t) { caller = with_client t.caller (after_cancel t.caller.client) }) t) (note (acts.Late num) t))
      go true h =
          let a = acts.Done num in
          let e = next_entry a t in
          let c = with_client t.caller (after_cancel t.caller.client) in
          let called : is_number num (call mine) ≡ true = sym ends-is ∙ (and_parts (client == t.caller.seat) (is_outstanding num t.caller.client) h).1 in
          leads-one n us past t (say a (record (unchanged t) { caller = c }) t) a
          (calls n us past t w a c refl refl refl refl refl refl
          (may-say n us past t w a refl refl refl (ap (λ o. may_stand_behind o a) taken)
          (and_from (is_taken_by t.caller.seat num (just_taken past (at t.place.number past))) (steps.ends_call t.caller.seat num (call mine) (just_taken past (at t.place.number past))) by-taker (sym test ∙ h)) refl tt)
          (record {
            seat = refl;
            actor = refl;
            posts = refl;
            given = refl;
            call = sym (none-left (call mine) called);
            hand = refl;
            stays = refl;
          })) refl refl
        where
          none-left : (o : Option ℕ) → is_number num o ≡ true → outstanding_as (next_entry (acts.Done num) t ∷ by t.caller.seat past) (ended num o) ≡ None
          none-left None k = absurd (false≢true k)
          none-left (Some j) k = ap (λ b. outstanding_as (next_entry (acts.Done num) t ∷ by t.caller.seat past) (cond b None (Some j))) k
      go false h =
          let a = acts.Late num in
          leads-one n us past t (note a t) a
          (notes n us past t w a refl refl refl refl refl refl refl
          (may-say n us past t w a refl refl refl (ap (λ o. may_stand_behind o a) taken)
          (and_from (is_taken_by t.caller.seat num (just_taken past (at t.place.number past))) (not (steps.ends_call t.caller.seat num (call mine) (just_taken past (at t.place.number past)))) by-taker (ap not (sym test ∙ h))) refl tt)) refl refl
