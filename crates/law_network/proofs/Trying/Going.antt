-- The messages that wait go, as far as they are decided here.
use Rattle.std.proofs.Common.{ℕ, ◌≡◌, ◌==◌, Bool, true, false, ◌&&◌, not, cond, List, [], ◌∷◌, Option, Some, None, is_some, refl, sym, ◌∙◌, ap, eq-eqb}
use Rattle.std.proofs.lemmas.Bool.{and_from, true≢false, or_left, or_right}
use Rattle.chorus_ui.specs.declared.layout.Layout.{Layout}
use Rattle.chorus_entry.specs.declared.entry.Entry.{Entry}
use Rattle.chorus_entry.specs.declared.id.MsgId.{MsgId}
use Rattle.chorus_entry.specs.declared.answer.Answer.{Answer}
use Rattle.chorus_entry.specs.declared.answer.Answer.TheVariants as answers
use Rattle.chorus_world.specs.declared.place.Location.{Location}
use Rattle.chorus_world.specs.Views.{at}
use Rattle.chorus_world.specs.Places.{located, is_first, is_location}
use Rattle.chorus_world.specs.Posts.{site_asked, is_on_site}
use Rattle.chorus_world.specs.Steps.{is_beyond, is_to_go}
use Rattle.chorus_world.proofs.Sorted.Local.{local_views}
use Rattle.place_unsettled.specs.declared.wait.Key.{Key}
use Rattle.place_unsettled.specs.declared.wait.Wait.{Wait}
use Rattle.law_machine.specs.declared.outgoing.Outgoing.{Outgoing}
use Rattle.law_machine.specs.PlaceState.{PlaceState, Turn, newest}
use Rattle.law_machine.specs.Deciding.{decide, decision}
use Rattle.law_machine.specs.Trying.{settles_here, verdict_here, tries, goes_on, goes_unless, go}
use Rattle.law_machine.proofs.Machine.Queues.{wait_for, settled-passes}
use Rattle.law_network.specs.Packets.{put_all}
use Rattle.law_network.specs.Network.{NetState}
use Rattle.law_network.proofs.Standing.Says.{known_clock}
use Rattle.law_network.proofs.Trying.Waiting.{GoesFirst, goes-first-now}
use Rattle.law_network.proofs.Standing.Onward.{stay, then}
use Rattle.law_network.proofs.Standing.Leading.{Calm, LeadsOn}
use Rattle.law_network.proofs.Trying.Deciding.{away-fits, decides-at-home}
use Rattle.law_network.proofs.Trying.Verdicts.{tries-at-stands, settles-here-stands}

-- what the first message has here, where the layout has the port's site
abbrev near-verdict : Key → Wait → Location → PlaceState → Option Answer
near-verdict k v there s = cond (there.to == s.number) (Some (decide v.message k.port v.only there.hop s)) None

abbrev on-site-verdict : Key → Wait → Location → PlaceState → Option Answer
on-site-verdict k v there s =
    cond (not (is_on_site s.layout v.only there.to)) (Some (answers.Elsewhere there.to there.hop)) (near-verdict k v there s)

module _ (n : NetState) (us : List Outgoing) where
  -- what a turn leads on to from where the network stands
  abbrev Goes : Key → List Wait → (Turn → Turn) → Type 0
  Goes k vs on = (past : List Entry) (u : Turn) → wait_for k vs u → Calm n us past u → LeadsOn n us past (on u)

  onward : (k : Key) (vs : List Wait) (on : Turn → Turn) → Goes k vs on → (past : List Entry) (u : Turn) → wait_for k vs u → LeadsOn n us past u → LeadsOn n us past (on u)
  onward k vs on next past u q h = then (λ now. Calm n us now u) (λ now. Calm n us now (on u)) past h (λ now i. next now u q i)

  tries-there-stands : (past : List Entry) (t : Turn) (i : Calm n us past t) (k : Key) (v : Wait) (vs : List Wait) → wait_for k (v ∷ vs) t → GoesFirst past t.place.number k v (known_clock t) (put_all t.puts us) → (there : Location) (on : Turn → Turn) → Goes k vs on
      → located t.place.layout k.port (at t.place.number past) ≡ there → is_beyond t.place.layout k.port ≡ false → is_on_site t.place.layout v.only there.to ≡ true → LeadsOn n us past (tries k v there on (near-verdict k v there t.place) t)
  tries-there-stands past t i k v vs q g there on next loc near site = by (there.to == t.place.number) refl
    where
      a : Answer
      a = decide v.message k.port v.only there.hop t.place

      by : (b : Bool) → (there.to == t.place.number) ≡ b → LeadsOn n us past (tries k v there on (cond b (Some a) None) t)
      by true e =
          let d = decides-at-home n us past t i k v g there loc near site e in
          onward k vs on next past (settles_here k v there.hop a t) (settled-passes k v vs there.hop a t q) (settles-here-stands n us past t i k v g there.hop a d.0 d.1)
      by false e = tries-at-stands n us past t i k v g there loc near site e

  tries-on-site-stands : (past : List Entry) (t : Turn) (i : Calm n us past t) (k : Key) (v : Wait) (vs : List Wait) → wait_for k (v ∷ vs) t → GoesFirst past t.place.number k v (known_clock t) (put_all t.puts us) → (there : Location) (on : Turn → Turn) → Goes k vs on
      → located t.place.layout k.port (at t.place.number past) ≡ there → is_beyond t.place.layout k.port ≡ false → LeadsOn n us past (tries k v there on (on-site-verdict k v there t.place) t)
  tries-on-site-stands past t i k v vs q g there on next loc near = by (is_on_site t.place.layout v.only there.to) refl
    where
      l : Layout
      l = t.place.layout

      x : MsgId
      x = v.message.id

      asked : (o : Option ℕ) → is_on_site t.place.layout o there.to ≡ false → is_some o ≡ true
      asked None e = absurd (true≢false e)
      asked (Some s) e = refl

      by : (b : Bool) → is_on_site t.place.layout v.only there.to ≡ b
          → LeadsOn n us past (tries k v there on (cond (not b) (Some (answers.Elsewhere there.to there.hop)) (near-verdict k v there t.place)) t)
      by true e = tries-there-stands past t i k v vs q g there on next loc near e
      by false e =
          let p = t.place.number in
          let r = k.port in
          let a = answers.Elsewhere there.to there.hop in
          let act = decision x r there.hop a in
          let here = local_views past past p t.caller.seat act in
          let only : is_on_site t.place.layout (site_asked x past) there.to ≡ false = ap (λ z. is_on_site t.place.layout z there.to) (sym g.only) ∙ e in
          let to : ((located t.place.layout r (at p past)).to == there.to) ≡ true = eq-eqb (located t.place.layout r (at p past)).to there.to (ap (λ (z : Location). z.to) loc) in
          let hop : ((located t.place.layout r (at p past)).hop == there.hop) ≡ true = eq-eqb (located t.place.layout r (at p past)).hop there.hop (ap (λ (z : Location). z.hop) loc) in
          let goes : is_to_go t.place.layout here x r there.to ≡ true =
          and_from (is_first x r (at p past) && not (is_beyond t.place.layout r)) ((located t.place.layout r (at p past)).to == there.to)
          (and_from (is_first x r (at p past)) (not (is_beyond t.place.layout r)) g.first (ap not near)) to in
          let may =
          and_from (is_some (site_asked x past) && is_location there.to there.hop (located t.place.layout r (at p past))) _
          (and_from (is_some (site_asked x past)) (is_location there.to there.hop (located t.place.layout r (at p past)))
          (asked (site_asked x past) only) (and_from ((located t.place.layout r (at p past)).to == there.to) ((located t.place.layout r (at p past)).hop == there.hop) to hop))
          (or_left (is_to_go t.place.layout here x r there.to && not (is_on_site t.place.layout (site_asked x past) there.to)) _
          (and_from (is_to_go t.place.layout here x r there.to) (not (is_on_site t.place.layout (site_asked x past) there.to)) goes (ap not only))) in
          onward k vs on next past (settles_here k v there.hop a t) (settled-passes k v vs there.hop a t q)
          (settles-here-stands n us past t i k v g there.hop a refl
          (away-fits n us past t i.stood v.message r there.hop a (record { answers = refl; port = λ y r h. refl; records = λ m r u. refl }) may))

  tries-stands : (past : List Entry) (t : Turn) (i : Calm n us past t) (k : Key) (v : Wait) (vs : List Wait) → wait_for k (v ∷ vs) t → GoesFirst past t.place.number k v (known_clock t) (put_all t.puts us) → (there : Location) (on : Turn → Turn) → Goes k vs on
      → located t.place.layout k.port (at t.place.number past) ≡ there → LeadsOn n us past (tries k v there on (verdict_here k v there t.place) t)
  tries-stands past t i k v vs q g there on next loc = by (is_beyond t.place.layout k.port) refl
    where
      by : (b : Bool) → is_beyond t.place.layout k.port ≡ b → LeadsOn n us past (tries k v there on (cond b (Some answers.NoPort) (on-site-verdict k v there t.place)) t)
      by false e = tries-on-site-stands past t i k v vs q g there on next loc e
      by true e =
          let x = v.message.id in
          let r = k.port in
          let may = or_right _ (is_beyond t.place.layout r && is_first x r (at t.place.number past)) (and_from (is_beyond t.place.layout r) (is_first x r (at t.place.number past)) e g.first) in
          onward k vs on next past (settles_here k v there.hop answers.NoPort t) (settled-passes k v vs there.hop answers.NoPort t q)
          (settles-here-stands n us past t i k v g there.hop answers.NoPort refl
          (away-fits n us past t i.stood v.message r there.hop answers.NoPort (record { answers = refl; port = λ y r h. refl; records = λ m r u. refl }) may))

  -- they go down the queue, which is what it was but for those that passed
  pub goes-on-stands : (k : Key) (vs : List Wait) (past : List Entry) (t : Turn) → wait_for k vs t → Calm n us past t → LeadsOn n us past (goes_on k vs t)
  goes-on-stands k [] past t e i = stay (λ now. Calm n us now t) past i
  goes-on-stands k (v ∷ vs) past t e i =
      let g = goes-first-now n us past t i.stood k v vs e in
      tries-stands past t i k v vs e g (newest t.place k.port) (goes_on k vs) (goes-on-stands k vs) (sym (i.stood.here.known k.port))

  pub go-stands : (k : Key) (past : List Entry) (t : Turn) → Calm n us past t → LeadsOn n us past (go k t)
  go-stands k past t i = by (t.place.waiting k).tried refl
    where
      by : (o : Option ℕ) → (t.place.waiting k).tried ≡ o → LeadsOn n us past (goes_unless k o (t.place.waiting k).waits t)
      by None e =
          let q : t.place.waiting k ≡ record { tried = None; waits = (t.place.waiting k).waits } = ap (λ o. record { tried = o; waits = (t.place.waiting k).waits }) e in
          goes-on-stands k (t.place.waiting k).waits past t q i
      by (Some to) e = stay (λ now. Calm n us now t) past i
