-- What a packet that is under way says of its message.
use Rattle.std.proofs.Common.{ℕ, ◌≡◌, ◌==◌, ◌⊎◌, inl, inr, true, List, [], ◌∷◌, Option, Some, None, refl, sym, ◌∙◌, ap}
use Rattle.std.specs.List.{filter}
use Rattle.std.proofs.lemmas.Bool.{and_parts, eqb-true}
use Rattle.chorus_ui.specs.declared.ui.Ui.{Ui}
use Rattle.chorus_ui.specs.declared.layout.Layout.{Layout}
use Rattle.chorus_entry.specs.declared.entry.Entry.{Entry}
use Rattle.chorus_entry.specs.declared.id.MsgId.{MsgId}
use Rattle.chorus_entry.specs.declared.message.Message.{Message}
use Rattle.chorus_entry.specs.declared.answer.Answer.{Answer}
use Rattle.chorus_entry.specs.declared.packet.Packet.{Packet}
use Rattle.chorus_entry.specs.declared.packet.Cargo.TheVariants as cargos
use Rattle.chorus_entry.specs.Dest.{group_in}
use Rattle.chorus_world.specs.declared.progress.Progress.{Progress}
use Rattle.chorus_world.specs.declared.progress.Progress.TheVariants.{Idle, Asked, Tried, Decided, Settled, Reported}
use Rattle.chorus_world.specs.Views.{about}
use Rattle.chorus_world.specs.Messages.{progress}
use Rattle.chorus_world.specs.Places.{last_clock}
use Rattle.chorus_world.specs.Posts.{Posted, post_of, site_asked}
use Rattle.law_machine.specs.declared.outgoing.Outgoing.{Outgoing}
use Rattle.law_network.specs.Packets.{first_on, rest_on}
use Rattle.law_network.specs.Records.{message}
use Rattle.law_network.specs.UnderWay.{packet, carries, route, far_place, asked_as, reported_as, reported_to, under_way_as, under_way, is_of}
use Rattle.law_network.proofs.Standing.InTurn.{ArePackets}
use Rattle.law_network.proofs.Links.PacketViews.{of-taken, of-none}

-- none or one
abbrev AtMostOne : List Outgoing → Type 0
AtMostOne os = (os ≡ []) ⊎ ((o : Outgoing) × (os ≡ o ∷ []))

at-most-one : (l : Layout) (past : List Entry) (x : MsgId) (c : ℕ) (s : Progress) → AtMostOne (under_way_as l past x c s)
at-most-one l past x c Idle = inl refl
at-most-one l past x c (Asked from d) = go (far_place l from (group_in d))
  where
    go : (o : Option ℕ) → AtMostOne (asked_as past x c from d o)
    go None = inl refl
    go (Some p) = inr (_, refl)
at-most-one l past x c (Tried from q to hop) = inr (_, refl)
at-most-one l past x c (Decided from b q a) = inr (_, refl)
at-most-one l past x c (Settled a) = go (post_of x past)
  where
    then : (h : ℕ) (o : Option ℕ) → AtMostOne (reported_to x c a h o)
    then h None = inl refl
    then h (Some p) = inr (_, refl)

    go : (o : Option Posted) → AtMostOne (reported_as l x c a o)
    go None = inl refl
    go (Some m) = then m.place (far_place l m.place (group_in m.dest))
at-most-one l past x c Reported = inl refl

-- the packet is the one that the past says
pub record Seen (l : Layout) (past : List Entry) (x : MsgId) (a b : ℕ) (os : List Outgoing) (k : Packet) : Type 0 where
  pub packet : Outgoing
  pub is : packet.packet ≡ k
  pub from : k.from ≡ a
  pub to : packet.to ≡ b
  pub under : under_way l past x ≡ packet ∷ []
  pub rest : filter (is_of x) (rest_on a b os) ≡ []

pub seen : (l : Layout) (past : List Entry) (x : MsgId) (a b : ℕ) (os : List Outgoing) (k : Packet) → ArePackets l os past → carries x k.cargo ≡ true → first_on a b os ≡ Some k → Seen l past x a b os k
seen l past x a b os k h c f =
    elim (at-most-one l past x (last_clock (about x past)) (progress (about x past))) [
      | inl none ↦ absurd (of-none x a b os k c f (h.messages x ∙ none))
      | inr one ↦ (
          let o = one.0 in
          let taken = of-taken x a b os k o c f (h.messages x ∙ one.1) in
          let link = and_parts (o.packet.from == a) (o.to == b) taken.1.0 in
          record {
            packet = o;
            is = taken.0;
            from = ap (λ (z : Packet). z.from) (sym taken.0) ∙ eqb-true o.packet.from a link.0;
            to = eqb-true o.to b link.1;
            under = one.1;
            rest = taken.1.1;
          })
    ]

pub record SeesTry (past : List Entry) (x : MsgId) (s : Progress) (clock : ℕ) (o : Outgoing) (m : Message) (q : Ui) (r : Option Ui) (only : Option ℕ) (hop : ℕ) : Type 0 where
  pub stage : s ≡ Tried o.packet.from q o.to hop
  pub message : m ≡ message past x
  pub route : r ≡ route past x o.packet.from
  pub site : only ≡ site_asked x past
  pub clock_is : o.packet.clock ≡ clock

pub sees-try : (l : Layout) (past : List Entry) (x : MsgId) (c : ℕ) (s : Progress) (o : Outgoing) (m : Message) (q : Ui) (r : Option Ui) (only : Option ℕ) (hop : ℕ)
    → under_way_as l past x c s ≡ o ∷ [] → o.packet.cargo ≡ cargos.Try m q r only hop → SeesTry past x s c o m q r only hop
sees-try l past x c Idle o m q r only hop h e = absurd (cc)
sees-try l past x c (Asked from d) o m q r only hop h e = go (far_place l from (group_in d)) h
  where
    go : (z : Option ℕ) → asked_as past x c from d z ≡ o ∷ [] → SeesTry past x (Asked from d) c o m q r only hop
    go None k = absurd (cc)
    go (Some p) k = absurd (let is : packet from p c (cargos.Ask (message past x) d) ≡ o = cc in let bad : cargos.Ask (message past x) d ≡ cargos.Try m q r only hop = ap (λ (u : Outgoing). u.packet.cargo) is ∙ e in cc)
sees-try l past x c (Tried from f to n) o m q r only hop h e =
    let is : packet from to c (cargos.Try (message past x) f (route past x from) (site_asked x past) n) ≡ o = cc in
    let cargo : cargos.Try (message past x) f (route past x from) (site_asked x past) n ≡ cargos.Try m q r only hop = ap (λ (u : Outgoing). u.packet.cargo) is ∙ e in
    let from-is : from ≡ o.packet.from = ap (λ (u : Outgoing). u.packet.from) is in
    let to-is : to ≡ o.to = ap (λ (u : Outgoing). u.to) is in
    let q-is : f ≡ q = cc in
    let hop-is : n ≡ hop = cc in
    let m-is : message past x ≡ m = cc in
    let r-is : route past x from ≡ r = cc in
    let only-is : site_asked x past ≡ only = cc in
    record {
      stage = (λ i. Tried (from-is i) (q-is i) (to-is i) (hop-is i));
      message = sym m-is;
      route = sym r-is ∙ ap (route past x) from-is;
      site = sym only-is;
      clock_is = sym (ap (λ (u : Outgoing). u.packet.clock) is);
    }
sees-try l past x c (Decided from b f a) o m q r only hop h e = absurd (let is : packet b from c (cargos.Verdict x f (route past x from) a) ≡ o = cc in let bad : cargos.Verdict x f (route past x from) a ≡ cargos.Try m q r only hop = ap (λ (u : Outgoing). u.packet.cargo) is ∙ e in cc)
sees-try l past x c (Settled a) o m q r only hop h e = go (post_of x past) h
  where
    to : (p : ℕ) (z : Option ℕ) → reported_to x c a p z ≡ o ∷ [] → ⊥
    to p None k = cc
    to p (Some f) k = let is : packet f p c (cargos.Report x a) ≡ o = cc in let bad : cargos.Report x a ≡ cargos.Try m q r only hop = ap (λ (u : Outgoing). u.packet.cargo) is ∙ e in cc

    go : (z : Option Posted) → reported_as l x c a z ≡ o ∷ [] → SeesTry past x (Settled a) c o m q r only hop
    go None k = absurd (cc)
    go (Some d) k = absurd (to d.place (far_place l d.place (group_in d.dest)) k)
sees-try l past x c Reported o m q r only hop h e = absurd (cc)

pub record SeesVerdict (past : List Entry) (x : MsgId) (s : Progress) (clock : ℕ) (o : Outgoing) (q : Ui) (r : Option Ui) (a : Answer) : Type 0 where
  pub stage : s ≡ Decided o.to o.packet.from q a
  pub route : r ≡ route past x o.to
  pub clock_is : o.packet.clock ≡ clock

pub sees-verdict : (l : Layout) (past : List Entry) (x : MsgId) (c : ℕ) (s : Progress) (o : Outgoing) (q : Ui) (r : Option Ui) (v : Answer)
    → under_way_as l past x c s ≡ o ∷ [] → o.packet.cargo ≡ cargos.Verdict x q r v → SeesVerdict past x s c o q r v
sees-verdict l past x c Idle o q r v h e = absurd (cc)
sees-verdict l past x c (Asked from d) o q r v h e = go (far_place l from (group_in d)) h
  where
    go : (z : Option ℕ) → asked_as past x c from d z ≡ o ∷ [] → SeesVerdict past x (Asked from d) c o q r v
    go None k = absurd (cc)
    go (Some p) k = absurd (let is : packet from p c (cargos.Ask (message past x) d) ≡ o = cc in let bad : cargos.Ask (message past x) d ≡ cargos.Verdict x q r v = ap (λ (u : Outgoing). u.packet.cargo) is ∙ e in cc)
sees-verdict l past x c (Tried from f to n) o q r v h e = absurd (let is : packet from to c (cargos.Try (message past x) f (route past x from) (site_asked x past) n) ≡ o = cc in let bad : cargos.Try (message past x) f (route past x from) (site_asked x past) n ≡ cargos.Verdict x q r v = ap (λ (u : Outgoing). u.packet.cargo) is ∙ e in cc)
sees-verdict l past x c (Decided from b f a) o q r v h e =
    let is : packet b from c (cargos.Verdict x f (route past x from) a) ≡ o = cc in
    let cargo : cargos.Verdict x f (route past x from) a ≡ cargos.Verdict x q r v = ap (λ (u : Outgoing). u.packet.cargo) is ∙ e in
    let by-is : b ≡ o.packet.from = ap (λ (u : Outgoing). u.packet.from) is in
    let to-is : from ≡ o.to = ap (λ (u : Outgoing). u.to) is in
    let q-is : f ≡ q = cc in
    let a-is : a ≡ v = cc in
    let r-is : route past x from ≡ r = cc in
    record {
      stage = (λ i. Decided (to-is i) (by-is i) (q-is i) (a-is i));
      route = sym r-is ∙ ap (route past x) to-is;
      clock_is = sym (ap (λ (u : Outgoing). u.packet.clock) is);
    }
sees-verdict l past x c (Settled a) o q r v h e = go (post_of x past) h
  where
    to : (p : ℕ) (z : Option ℕ) → reported_to x c a p z ≡ o ∷ [] → ⊥
    to p None k = cc
    to p (Some f) k = let is : packet f p c (cargos.Report x a) ≡ o = cc in let bad : cargos.Report x a ≡ cargos.Verdict x q r v = ap (λ (u : Outgoing). u.packet.cargo) is ∙ e in cc

    go : (z : Option Posted) → reported_as l x c a z ≡ o ∷ [] → SeesVerdict past x (Settled a) c o q r v
    go None k = absurd (cc)
    go (Some d) k = absurd (to d.place (far_place l d.place (group_in d.dest)) k)
sees-verdict l past x c Reported o q r v h e = absurd (cc)
