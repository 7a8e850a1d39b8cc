-- A packet that tries a message, or tells its verdict, is about a port of a site of the layout.
-- l is a layout, net a network, x an id, q a port. A past has its newest entry first.
use Rattle.std.proofs.Common.{ℕ, ◌≡◌, ◌==◌, Bool, true, false, ◌&&◌, cond, List, [], ◌∷◌, Option, Some, None, refl, ◌∙◌, ap, subst}
use Rattle.chorus_ui.specs.declared.ui.Ui.{Ui}
use Rattle.chorus_ui.specs.declared.layout.Layout.{Layout}
use Rattle.chorus_ui.specs.Layout.{IsLayout, has_site}
use Rattle.chorus_ui.specs.Name.{same_ui}
use Rattle.chorus_entry.specs.declared.entry.Entry.{Entry}
use Rattle.chorus_entry.specs.declared.id.MsgId.{MsgId}
use Rattle.chorus_entry.specs.declared.message.Message.{Message}
use Rattle.chorus_entry.specs.declared.dest.Dest.{Dest}
use Rattle.chorus_entry.specs.declared.dest.Dest.TheVariants as dests
use Rattle.chorus_entry.specs.declared.answer.Answer.{Answer}
use Rattle.chorus_entry.specs.declared.act.Act.{Act}
use Rattle.chorus_entry.specs.declared.act.Act.TheVariants as acts
use Rattle.chorus_entry.specs.declared.packet.Packet.{Packet}
use Rattle.chorus_entry.specs.declared.packet.Cargo.TheVariants as cargos
use Rattle.chorus_entry.specs.Act.{port_of, answer_of}
use Rattle.chorus_entry.specs.Answer.{is_final}
use Rattle.chorus_entry.proofs.Same.{same_id-self}
use Rattle.chorus_world.specs.declared.progress.Progress.{Progress}
use Rattle.chorus_world.specs.declared.progress.Progress.TheVariants.{Idle, Asked, Tried, Decided, Settled, Reported}
use Rattle.chorus_world.specs.Views.{about, is_about}
use Rattle.chorus_world.specs.Messages.{settled, posted, decided, told, decided_by, progress_after, progress}
use Rattle.chorus_world.specs.Places.{last_clock}
use Rattle.chorus_world.specs.Steps.{is_legal}
use Rattle.chorus_world.specs.Order.{IsCausal}
use Rattle.chorus_world.proofs.Steps.LegalLemmas.{legal_parts}
use Rattle.chorus_world.proofs.Ports.MadePorts.{causal-older}
use Rattle.chorus_world.proofs.Messages.Ranged.{ProgressFits, all-fit}
use Rattle.law_network.specs.Packets.{first_on}
use Rattle.law_network.specs.Network.{NetState}
use Rattle.law_network.specs.UnderWay.{carries}
use Rattle.law_network.specs.Stands.{Stands}
use Rattle.law_network.proofs.Links.UnderWays.{Seen, SeesTry, sees-try}
use Rattle.law_network.proofs.Draining.Fronts.{legal-past, seen-here, is-told}

module _ (l : Layout) where
  -- the port for which a message was tried, or where it was decided, is on a site
  abbrev OnSite : Progress → Type 0
  OnSite (Tried from q to hop) = has_site l q.site ≡ true
  OnSite (Decided from by q a) = has_site l q.site ≡ true
  OnSite _ = Unit {0}

  settled-on : (a : Answer) → OnSite (settled a)
  settled-on a = by (is_final a)
    where
      by : (b : Bool) → OnSite (cond b (Settled a) Idle)
      by true = tt
      by false = tt

  decided-on : (p : ℕ) (q : Ui) (a : Answer) (s : Progress) → OnSite s → OnSite (decided p q a s)
  decided-on p q a (Tried from r to hop) h = by ((to == p) && same_ui r q)
    where
      by : (b : Bool) → OnSite (cond b (Decided from p r a) Idle)
      by true = h
      by false = tt
  decided-on p q a Idle h = settled-on a
  decided-on p q a (Asked from d) h = h
  decided-on p q a (Decided from by r c) h = h
  decided-on p q a (Settled c) h = h
  decided-on p q a Reported h = h

  decided-by-on : (p : ℕ) (o : Option Ui) (v : Option Answer) (s : Progress) → OnSite s → OnSite (decided_by p o v s)
  decided-by-on p (Some q) (Some a) s h = decided-on p q a s h
  decided-by-on p (Some q) None s h = h
  decided-by-on p None v s h = h

  told-on : (a : Answer) (s : Progress) → OnSite s → OnSite (told a s)
  told-on a (Decided from by q c) h = settled-on a
  told-on a Idle h = h
  told-on a (Asked from d) h = h
  told-on a (Tried from q to hop) h = h
  told-on a (Settled c) h = h
  told-on a Reported h = h

  posted-on : (p : ℕ) (d : Dest) → OnSite (posted p d)
  posted-on p (dests.Port q) = tt
  posted-on p (dests.All g) = tt
  posted-on p (dests.One g) = tt
  posted-on p (dests.OneAt g site) = tt

  after-on : (p : ℕ) (a : Act) (s : Progress) → OnSite s → (((x : MsgId) (q : Ui) (to hop : ℕ) → a ≡ acts.Try x q to hop → has_site l q.site ≡ true)) → OnSite (progress_after p a s)
  after-on p (acts.Post m d) s h t = posted-on p d
  after-on p (acts.Choose x g qs) s h t = tt
  after-on p (acts.NoMember x g) s h t = tt
  after-on p (acts.Try x q to hop) s h t = t x q to hop refl
  after-on p (acts.Told x a) s h t = told-on a s h
  after-on p (acts.Heard x a) s h t = tt
  after-on p a s h t = decided-by-on p (port_of a) (answer_of a) s h

  progress-on : (past : List Entry) (x : MsgId) → IsLayout l → is_legal l past ≡ true → IsCausal past → OnSite (progress (about x past))
  progress-on [] x shape legal causal = tt
  progress-on (e ∷ past) x shape legal causal =
      go (is_about (Some x) e) refl (progress-on past x shape (legal_parts l e past legal).1 (causal-older e past causal)) ((all-fit l (e ∷ past) shape legal causal).messages x)
    where
      go : (b : Bool) → is_about (Some x) e ≡ b → OnSite (progress (about x past)) → ProgressFits l x (last_clock (cond b (e ∷ about x past) (about x past))) (progress (cond b (e ∷ about x past) (about x past))) → OnSite (progress (cond b (e ∷ about x past) (about x past)))
      go false t ih fits = ih
      go true t ih fits =
          after-on e.place e.act (progress (about x past)) ih
          (λ y q to hop is. (let f : ProgressFits l x e.clock (Tried e.place q to hop) = subst (λ (a : Act). ProgressFits l x e.clock (progress_after e.place a (progress (about x past)))) is fits in f.2))

module _ (net : NetState) (past : List Entry) (shape : IsLayout net.layout) (s : Stands net past) (a b : ℕ) (k : Packet) (first : first_on a b net.packets ≡ Some k) where
  pub tried-site : (m : Message) (q : Ui) (route : Option Ui) (only : Option ℕ) (hop : ℕ) → k.cargo ≡ cargos.Try m q route only hop → has_site net.layout q.site ≡ true
  tried-site m q route only hop e =
      let l = net.layout in
      let x = m.id in
      let mine : carries m.id k.cargo ≡ true = ap (carries m.id) e ∙ same_id-self m.id in
      let h : Seen net.layout past x a b net.packets k = seen-here net past shape s a b k first x mine in
      let cargo : (h.packet).packet.cargo ≡ k.cargo = ap (λ (z : Packet). z.cargo) h.is in
      let y : SeesTry past x (progress (about x past)) (last_clock (about x past)) h.packet m q route only hop = sees-try net.layout past x (last_clock (about x past)) (progress (about x past)) h.packet m q route only hop h.under (cargo ∙ e) in
      subst (OnSite net.layout) y.stage (progress-on net.layout past x shape (legal-past net past shape s) s.causal)

  pub told-site : (x : MsgId) (q : Ui) (route : Option Ui) (answer : Answer) → k.cargo ≡ cargos.Verdict x q route answer → has_site net.layout q.site ≡ true
  told-site x q route answer e =
      let t = is-told net past shape s a b k first x q route answer e in
      subst (OnSite net.layout) t.stage (progress-on net.layout past x shape (legal-past net past shape s) s.causal)
