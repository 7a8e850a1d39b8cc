-- A message whose verdict comes back is the first of its port and route where it waits, and under way from there.
use Rattle.std.proofs.Common.{ℕ, ◌≡◌, Bool, true, false, cond, List, [], ◌∷◌, map, Option, Some, None, refl, sym, ◌∙◌, ap, subst}
use Rattle.std.proofs.lemmas.Bool.{and_from}
use Rattle.chorus_ui.specs.declared.ui.Ui.{Ui}
use Rattle.chorus_ui.specs.Layout.{IsLayout}
use Rattle.chorus_ui.specs.Name.{same_ui}
use Rattle.chorus_ui.proofs.Names.{same_ui-self}
use Rattle.chorus_entry.specs.declared.entry.Entry.{Entry}
use Rattle.chorus_entry.specs.declared.id.MsgId.{MsgId}
use Rattle.chorus_entry.specs.declared.answer.Answer.{Answer}
use Rattle.chorus_entry.specs.declared.packet.Packet.{Packet}
use Rattle.chorus_entry.specs.declared.packet.Cargo.{Cargo}
use Rattle.chorus_entry.specs.declared.packet.Cargo.TheVariants as cargos
use Rattle.chorus_ui.specs.NameKind.{is_port}
use Rattle.chorus_entry.specs.MsgId.{same_id}
use Rattle.chorus_entry.proofs.Same.{same_id-self, from_same_id}
use Rattle.chorus_world.specs.declared.progress.Progress.TheVariants.{Decided}
use Rattle.chorus_world.specs.declared.place.Sent.{Sent}
use Rattle.chorus_world.specs.Views.{at, about}
use Rattle.chorus_world.specs.Messages.{progress}
use Rattle.chorus_world.specs.Places.{last_clock, sent, find_sent, is_settled, unsettled, first_for}
use Rattle.chorus_entry.specs.Same.{same_route}
use Rattle.chorus_world.specs.Steps.{is_legal}
use Rattle.chorus_world.proofs.Messages.SendingLemmas.{sent_as}
use Rattle.chorus_world.proofs.Messages.StageLemmas.{Stage}
use Rattle.chorus_world.proofs.Messages.MessageInvariant.{legal_messages}
use Rattle.chorus_world.proofs.Sorted.Holders.{run_is_legal}
use Rattle.place_unsettled.specs.declared.wait.Key.{Key}
use Rattle.chorus_world.proofs.Messages.StageFacts.{StageFacts, keeps-stages}
use Rattle.chorus_world.proofs.Messages.Firsts.{going_to, going-first, first-is-head}
use Rattle.law_network.specs.Packets.{first_on}
use Rattle.law_network.specs.Network.{NetState, place}
use Rattle.law_network.specs.Records.{home, home_from, as_wait, sent_for, tried_at, queue_of}
use Rattle.law_network.specs.UnderWay.{carries, route_in, route}
use Rattle.law_network.specs.Stands.{Stands, actor_of}
use Rattle.law_network.proofs.Standing.InTurn.{ArePackets}
use Rattle.law_network.proofs.Tables.Keys.{same_route-self}
use Rattle.law_network.proofs.Links.UnderWays.{Seen, seen, SeesVerdict, sees-verdict}
use Rattle.law_network.proofs.Standing.Turning.{number-is}
use Rattle.law_network.proofs.Draining.Working.{IsToldFor}

pub found-id : (x : MsgId) (ms : List Sent) (m : Sent) → find_sent x ms ≡ Some m → m.id ≡ x
found-id x [] m h = absurd (let bad : None ≡ Some m = h in cc)
found-id x (k ∷ ms) m h = go (same_id k.id x) refl h (found-id x ms m)
  where
    go : (b : Bool) → same_id k.id x ≡ b → cond b (Some k) (find_sent x ms) ≡ Some m → (find_sent x ms ≡ Some m → m.id ≡ x) → m.id ≡ x
    go true e f ih = (let same : k ≡ m = cc in ap (λ (z : Sent). z.id) (sym same) ∙ from_same_id k.id x e)
    go false e f ih = ih f

module _ (n : NetState) (past : List Entry) (shape : IsLayout n.layout) (s : Stands n past) where
  pub legal-past : is_legal n.layout past ≡ true
  legal-past = run_is_legal n.layout (actor_of n) past s.run

  pub are-packets : ArePackets n.layout n.packets past
  are-packets = record { order = s.order; messages = s.messages; transfers = s.transfers; asks = s.asks }

  -- the first packet from a to b
  module _ (a b : ℕ) (k : Packet) (first : first_on a b n.packets ≡ Some k) where
    -- it is the one of its message
    pub seen-here : (x : MsgId) → carries x k.cargo ≡ true → Seen n.layout past x a b n.packets k
    seen-here x c = seen n.layout past x a b n.packets k are-packets c first

    -- a verdict tells the message that is the first of its port and route
    pub record IsTold (x : MsgId) (q : Ui) (r : Option Ui) (v : Answer) : Type 0 where
      pub stage : progress (about x past) ≡ Decided b k.from q v
      pub clock : k.clock ≡ last_clock (about x past)
      pub head : Sent
      pub rest : List Sent
      pub heads : sent_for past b (record { port = q; route = r }) ≡ head ∷ rest
      pub id : head.id ≡ x
      pub named : is_port q ≡ true
      pub sender : Sent
      pub sent : sent_as x b past ≡ Some sender
      pub way : sender.route ≡ r

    pub is-told : (x : MsgId) (q : Ui) (r : Option Ui) (v : Answer) → k.cargo ≡ cargos.Verdict x q r v → IsTold x q r v
    is-told x q r v e =
        let l = n.layout in
        let mine : carries x k.cargo ≡ true = ap (carries x) e ∙ same_id-self x in
        let h = seen-here x mine in
        let o = h.packet in
        let cargo : o.packet.cargo ≡ cargos.Verdict x q r v = ap (λ (z : Packet). z.cargo) h.is ∙ e in
        let y : SeesVerdict past x (progress (about x past)) (last_clock (about x past)) o q r v = sees-verdict l past x (last_clock (about x past)) (progress (about x past)) o q r v h.under cargo in
        let stage : progress (about x past) ≡ Decided b k.from q v = y.stage ∙ (λ j. Decided (h.to j) ((h.is j).from) q v) in
        let stages : StageFacts l past x (Decided b k.from q v) = subst (StageFacts l past x) stage (keeps-stages l past x shape legal-past) in
        let under : Stage x past (Decided b k.from q v) = subst (Stage x past) stage (legal_messages l past legal-past x).stage in
        let m = under.2.message in
        let way : m.route ≡ r = sym (y.route ∙ (ap (route past x) h.to ∙ ap route_in under.2.is)) in
        let id : m.id ≡ x = found-id x (sent (at b past)) m under.2.is in
        let waits : first_for q r (unsettled (at b past) (sent (at b past))) ≡ Some m.id =
        going-first l q r b k.from past m legal-past
        (record {
          found = ap (λ z. sent_as z b past) id ∙ under.2.is;
          live = ap (λ z. is_settled z (at b past)) id ∙ stages.1;
          goes = and_from (same_ui m.port q) (same_route m.route r) (ap (λ z. same_ui z q) under.2.port ∙ same_ui-self q) (ap (λ z. same_route z r) way ∙ same_route-self r);
        }) (ap (λ z. going_to (progress (about z past))) id ∙ ap going_to stage) in
        let heads = first-is-head q r (unsettled (at b past) (sent (at b past))) m.id waits in
        record {
          stage = stage;
          clock = ap (λ (z : Packet). z.clock) (sym h.is) ∙ y.clock_is;
          head = heads.0;
          rest = heads.1;
          heads = heads.2;
          id = heads.3 ∙ id;
          named = stages.0;
          sender = m;
          sent = under.2.is;
          way = way;
        }

    -- so it is under way from the place that tells it
    pub told-queue : (x : MsgId) (q : Ui) (r : Option Ui) (v : Answer) (t : IsTold x q r v) → (place b n).waiting (record { port = q; route = r }) ≡ record { tried = Some k.from; waits = as_wait past t.head ∷ map (as_wait past) t.rest }
    told-queue x q r v t =
        let key : Key = record { port = q; route = r } in
        let tried : tried_at (progress (about (t.head).id past)) ≡ Some k.from = ap (λ z. tried_at (progress (about z past))) t.id ∙ ap tried_at t.stage in
        s.waiting b key ∙ ap (queue_of past) t.heads ∙ ap (λ o. record { tried = o; waits = as_wait past t.head ∷ map (as_wait past) t.rest }) tried

    -- and one that was posted directly was posted here
    pub packet-told : IsToldFor k.cargo (place b n)
    packet-told = go k.cargo refl
      where
        go : (c : Cargo) → k.cargo ≡ c → IsToldFor c (place b n)
        go (cargos.Verdict x q r v) e =
            let t = is-told x q r v e in
            let o = (legal_messages n.layout past legal-past x).origin b t.sender t.sent in
            record {
              front = record { from = k.from; message = as_wait past t.head; rest = map (as_wait past) t.rest; is = told-queue x q r v t };
              own = λ none. ap (home past) t.id ∙ ap home_from o.posted ∙ o.place (t.way ∙ none) ∙ sym (number-is n.layout b n.places);
            }
        go (cargos.Try m q r only h) e = tt
        go _ e = tt
