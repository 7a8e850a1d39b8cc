-- A Report is worked off: the place of the post hears what became of it, or of one of its copies.
use Rattle.std.proofs.Common.{ℕ, ◌≡◌, ◌≤◌, ◌==◌, Bool, true, false, ◌&&◌, not, cond, List, [], ◌∷◌, Option, Some, None, is_some, refl, sym, ◌∙◌, ap, subst, arith, eq-eqb}
use Rattle.std.proofs.lemmas.Bool.{and_from}
use Rattle.chorus_ui.specs.declared.ui.Ui.{Ui}
use Rattle.chorus_ui.specs.declared.layout.Layout.{Layout}
use Rattle.chorus_ui.specs.Layout.{group_place}
use Rattle.chorus_entry.specs.declared.entry.Entry.{Entry}
use Rattle.chorus_entry.specs.declared.id.MsgId.{MsgId}
use Rattle.chorus_entry.specs.declared.answer.Answer.{Answer}
use Rattle.chorus_entry.specs.declared.act.Act.TheVariants as acts
use Rattle.chorus_entry.specs.declared.packet.Packet.{Packet}
use Rattle.chorus_entry.specs.declared.packet.Cargo.TheVariants as cargos
use Rattle.chorus_entry.specs.Dest.{group_in}
use Rattle.chorus_entry.proofs.Same.{same_answer-self}
use Rattle.chorus_world.specs.declared.place.Sent.{Sent}
use Rattle.chorus_world.specs.declared.progress.Progress.{Progress}
use Rattle.chorus_world.specs.declared.progress.Progress.TheVariants.{Idle, Asked, Tried, Decided, Settled, Reported}
use Rattle.chorus_world.specs.Views.{at, about, is_about}
use Rattle.chorus_entry.specs.Same.{is_number}
use Rattle.chorus_world.specs.Places.{last_clock}
use Rattle.chorus_world.specs.Posts.{Posted, post_of, site_asked}
use Rattle.chorus_world.specs.Messages.{progress, is_to_be_heard}
use Rattle.chorus_world.specs.Steps.{is_asked_from, is_asking_place}
use Rattle.chorus_world.proofs.Ports.LineLemmas.{id_is}
use Rattle.chorus_world.proofs.Messages.SendingLemmas.{sent_as, some_is}
use Rattle.place_unsettled.specs.Unheard.{heard}
use Rattle.law_machine.specs.declared.outgoing.Outgoing.{Outgoing}
use Rattle.law_machine.specs.PlaceState.{Turn, next_entry, unchanged}
use Rattle.law_machine.specs.Working.{hears}
use Rattle.law_network.specs.Packets.{put_all, rest_on}
use Rattle.law_network.specs.Network.{NetState}
use Rattle.law_network.specs.Records.{message}
use Rattle.law_network.specs.UnderWay.{packet, other_place, far_place, route, asked_as, reported_as, reported_to, under_way_as}
use Rattle.law_network.proofs.Tables.Hearing.{unheard-heard}
use Rattle.law_network.proofs.Standing.Says.{known_clock, MaySay}
use Rattle.law_network.proofs.Standing.Saying.{legal-now}
use Rattle.law_network.proofs.Standing.StillCallers.{caller-still, no-port-clock}
use Rattle.law_network.proofs.Tables.TablesSay.{known-still, waiting-still}
use Rattle.law_network.proofs.Standing.Steps.{Stood, laws, legal-with, ports-still}
use Rattle.law_network.proofs.Links.Abouts.{IsAbout, packets-about}
use Rattle.law_network.proofs.Links.Reports.{about-report, reports-from}
use Rattle.law_network.proofs.Links.UnderWays.{seen}
use Rattle.law_network.proofs.Standing.Leading.{LeadsOn, leads-one, behind-calm}
use Rattle.law_network.proofs.Standing.Given.{Comes}
use Rattle.law_network.proofs.Packets.Receiving.{takes-says, packets-now, moved-rest}

-- what a Report says
pub record SeesReport (l : Layout) (past : List Entry) (x : MsgId) (s : Progress) (clock : ℕ) (o : Outgoing) (a : Answer) : Type 0 where
  pub stage : s ≡ Settled a
  pub post : Posted
  pub posted : post_of x past ≡ Some post
  pub home : post.place ≡ o.to
  pub far : far_place l post.place (group_in post.dest) ≡ Some o.packet.from
  pub clock_is : o.packet.clock ≡ clock

pub sees-report : (l : Layout) (past : List Entry) (x : MsgId) (c : ℕ) (s : Progress) (o : Outgoing) (v : Answer)
    → under_way_as l past x c s ≡ o ∷ [] → o.packet.cargo ≡ cargos.Report x v → SeesReport l past x s c o v
sees-report l past x c Idle o v h e = absurd (cc)
sees-report l past x c (Asked from d) o v h e = go (far_place l from (group_in d)) h
  where
    go : (z : Option ℕ) → asked_as past x c from d z ≡ o ∷ [] → SeesReport l past x (Asked from d) c o v
    go None k = absurd (cc)
    go (Some p) k = absurd (let is : packet from p c (cargos.Ask (message past x) d) ≡ o = cc in let bad : cargos.Ask (message past x) d ≡ cargos.Report x v = ap (λ (u : Outgoing). u.packet.cargo) is ∙ e in cc)
sees-report l past x c (Tried from f to n) o v h e = absurd (let is : packet from to c (cargos.Try (message past x) f (route past x from) (site_asked x past) n) ≡ o = cc in let bad : cargos.Try (message past x) f (route past x from) (site_asked x past) n ≡ cargos.Report x v = ap (λ (u : Outgoing). u.packet.cargo) is ∙ e in cc)
sees-report l past x c (Decided from b f a) o v h e = absurd (let is : packet b from c (cargos.Verdict x f (route past x from) a) ≡ o = cc in let bad : cargos.Verdict x f (route past x from) a ≡ cargos.Report x v = ap (λ (u : Outgoing). u.packet.cargo) is ∙ e in cc)
sees-report l past x c (Settled a) o v h e = go (post_of x past) refl h
  where
    to : (d : Posted) (z : Option ℕ) → post_of x past ≡ Some d → far_place l d.place (group_in d.dest) ≡ z → reported_to x c a d.place z ≡ o ∷ [] → SeesReport l past x (Settled a) c o v
    to d None f g k = absurd (cc)
    to d (Some p) f g k =
        let is : packet p d.place c (cargos.Report x a) ≡ o = cc in
        let cargo : cargos.Report x a ≡ cargos.Report x v = ap (λ (u : Outgoing). u.packet.cargo) is ∙ e in
        let a-is : a ≡ v = cc in
        record {
          stage = ap (λ z. Settled z) a-is;
          post = d;
          posted = f;
          home = ap (λ (u : Outgoing). u.to) is;
          far = g ∙ ap (λ (u : Outgoing). Some u.packet.from) is;
          clock_is = sym (ap (λ (u : Outgoing). u.packet.clock) is);
        }

    go : (z : Option Posted) → post_of x past ≡ z → reported_as l x c a z ≡ o ∷ [] → SeesReport l past x (Settled a) c o v
    go None f k = absurd (cc)
    go (Some d) f k = to d (far_place l d.place (group_in d.dest)) f refl k
sees-report l past x c Reported o v h e = absurd (cc)

-- a place asks elsewhere for a post where its far place is there
pub asking : (l : Layout) (home p : ℕ) (g : Option Ui) → far_place l home g ≡ Some p → is_asking_place l home g ≡ true
asking l home p None h = absurd (cc)
asking l home p (Some g) h = by (group_place l g) h
  where
    by : (o : Option ℕ) → other_place home o ≡ Some p → (is_some o && not (is_number home o)) ≡ true
    by None k = absurd (cc)
    by (Some q) k = by-place (q == home) k
      where
        by-place : (b : Bool) → cond b None (Some q) ≡ Some p → not b ≡ true
        by-place true j = (let bad : None ≡ Some p = j in absurd (cc))
        by-place false j = refl

module _ (n : NetState) (us : List Outgoing) (past : List Entry) (t : Turn) (from : ℕ) (k : Packet) (i : Comes n us past t from k) where
  abbrev w : Stood n us past t
  w = i.calm.stood

  abbrev l : Layout
  l = t.place.layout

  abbrev p : ℕ
  p = t.place.number

  -- what was posted here and is asked for elsewhere was not sent from here
  apart : (x : MsgId) (a : Answer) (d : Posted) (q : ℕ) → post_of x past ≡ Some d → d.place ≡ t.place.number → far_place t.place.layout d.place (group_in d.dest) ≡ Some q
      → (m : Sent) → sent_as m.id t.place.number past ≡ Some m → (b : Bool) → is_about (Some m.id) (next_entry (acts.Heard x a) t) ≡ b → b ≡ false
  apart x a d q posted home far m found false h = refl
  apart x a d q posted home far m found true h =
      let same : x ≡ m.id = some_is x m.id (id_is m.id (Some x) h) in
      let none = reports-from l past x p m d (legal-now n (put_all t.puts us) past t w) (ap (λ z. sent_as z p past) same ∙ found) posted in
      let here : (p == d.place) ≡ true = eq-eqb p d.place (sym home) in
      let bad : Some q ≡ None = sym far ∙ (none ∙ ap (λ b. cond b None (Some p)) here) in
      absurd (cc)

  pub report-stands : (x : MsgId) (a : Answer) → k.cargo ≡ cargos.Report x a → LeadsOn n (rest_on from t.place.number us) past (hears x a t)
  report-stands x a e =
      let rest = rest_on from p us in
      let here = subst (IsAbout x) (sym e) (about-report x a) in
      let s = seen l past x from p us k (packets-now n us past t from k i) here.this i.first in
      let o = s.packet in
      let cargo : o.packet.cargo ≡ cargos.Report x a = ap (λ (z : Packet). z.cargo) s.is ∙ e in
      let y = sees-report l past x (last_clock (about x past)) (progress (about x past)) o a s.under cargo in
      let home : y.post.place ≡ p = y.home ∙ s.to in
      let asked : is_asked_from l p (post_of x past) ≡ true =
      ap (is_asked_from l p) y.posted
      ∙ and_from (y.post.place == p) (is_asking_place l p (group_in y.post.dest)) (eq-eqb y.post.place p home)
      (ap (λ z. is_asking_place l z (group_in y.post.dest)) (sym home) ∙ asking l y.post.place o.packet.from (group_in y.post.dest) y.far) in
      let to-be : is_to_be_heard a (progress (about x past)) ≡ true = ap (is_to_be_heard a) y.stage ∙ same_answer-self a in
      let act = acts.Heard x a in
      let en = next_entry act t in
      let clock : last_clock (about x past) ≤ known_clock t =
      (let c = y.clock_is in let c2 = ap (λ (z : Packet). z.clock) s.is in let c3 = i.clock in omega (arith, c, c2, c3)) in
      let may : MaySay past t act =
      record {
        kinds = refl;
        behind = behind-calm past p act i.calm.rests;
        may = and_from (is_asked_from l p (post_of x past)) (is_to_be_heard a (progress (about x past))) asked to-be;
        fits = refl;
        looks = tt;
        message = clock;
        port = no-port-clock past None (known_clock t) refl;
      } in
      leads-one n rest past t (hears x a t) act
      (takes-says n us rest past t act (record (unchanged t) { unheard = heard x t.place.unheard }) i.none w
      (record {
        may = may;
        caller = caller-still past t act refl w.caller;
        ports = ports-still n us past t w act refl;
        tables = record {
          known = known-still l t.place.known en (at p past) refl w.here.known;
          waiting = waiting-still l past en t.place.waiting (laws n us past t w).posted (legal-with n us past t w act may) w.here.waiting refl
              (λ m found. apart x a y.post o.packet.from y.posted home y.far m found (is_about (Some m.id) en) refl);
          unheard = unheard-heard l past p en t.place.unheard x a (eq-eqb p p refl) refl w.here.unheard;
        };
        packets = packets-about n us past t w x act rest refl refl refl (moved-rest n us past t from k i x here) s.rest;
      })) refl refl
