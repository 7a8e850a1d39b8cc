-- Replies of turns that a place took.
-- s is a place, w a caller, es are the entries of a turn, the oldest first.
use Rattle.std.proofs.Common.{ℕ, ◌≡◌, ◌≤◌, true, length, arith, List, [], ◌∷◌, ◌++◌, reverse, Option, Some, None, refl, sym, ◌∙◌, ap, subst, append_assoc}
use Rattle.std.proofs.lemmas.List.{append_cancel_right, reverse-append, reverse-reverse}
use Rattle.chorus_ui.specs.declared.ui.Ui.{Ui}
use Rattle.chorus_ui.specs.declared.layout.Layout.{Layout}
use Rattle.chorus_entry.specs.declared.entry.Entry.{Entry}
use Rattle.chorus_entry.specs.declared.id.MsgId.{MsgId}
use Rattle.chorus_entry.specs.declared.record.PortRecord.{PortRecord}
use Rattle.chorus_entry.specs.declared.act.Act.{Act}
use Rattle.chorus_entry.specs.declared.act.Act.TheVariants as acts
use Rattle.chorus_entry.specs.declared.command.Command.{Command}
use Rattle.chorus_entry.specs.declared.packet.Packet.{Packet}
use Rattle.chorus_entry.specs.declared.tag.Tag.{Tag}
use Rattle.chorus_entry.specs.declared.tag.Tag.TheVariants as tags
use Rattle.chorus_ports.specs.declared.taking.Taken.{Taken}
use Rattle.chorus_ports.specs.declared.taking.Taken.TheVariants as takes
use Rattle.chorus_ports.specs.Table.{find}
use Rattle.chorus_ports.specs.Taking.{taken}
use Rattle.chorus_calls.specs.declared.client.Settle.{Settle}
use Rattle.chorus_calls.specs.declared.client.Settle.TheVariants as settles
use Rattle.chorus_calls.specs.Callers.{Seated}
use Rattle.law_machine.specs.declared.reply.Reply.{Reply}
use Rattle.law_machine.specs.PlaceState.{PlaceState, Turn, started, next_entry}
use Rattle.law_machine.specs.Own.{own, take_act}
use Rattle.law_machine.specs.Doing.{first_message, does}
use Rattle.law_machine.specs.PlaceMachine.{begun, begun_by, act}
use Rattle.law_machine.specs.Replies.{settling, reply_to, reply}
use Rattle.law_machine.proofs.Machine.Ready.{ReadyHere, acts-ready, works-ready}
use Rattle.law_network.proofs.Events.Said.{act-goes}
use Rattle.law_history.specs.declared.turns.Input.{Input}
use Rattle.law_history.specs.Histories.{Takes}
use Rattle.law_history.specs.PlaceTurns.{turn, machine}
use Rattle.law_history.specs.Journals.{PlaceTurn}
use Rattle.law_replies.specs.Replies.{Says}
use Rattle.law_replies.specs.Taking.{acts_of, settled_acts, taken_acts, answers_take}
use Rattle.law_replies.specs.Turns.{AppendsAll, TurnsTell, TakesAppend}
use Rattle.law_replies.proofs.Saying.{says-reversed, says-back}
use Rattle.law_replies.proofs.Own.{IsFit, own-fits}
use Rattle.law_replies.proofs.Rows.{GivesFirst, IsAnswering, entries, take-becomes, take-reply, reply-tells}

-- a place is ready, whoever begins a turn there
abbrev pub IsReadyPlace : PlaceState → Type 0
IsReadyPlace s = (w : Seated) → ReadyHere (begun s w)

turn-ready : (i : Input Command Packet) (s : PlaceState) (w : Seated) → IsReadyPlace s → IsReadyPlace (turn i s w).place
turn-ready (Input.Command c) s w h v = let r = acts-ready c (begun s w) (h w) in record { tried = r.tried; chosen = r.chosen }
turn-ready (Input.Packet a k) s w h v =
    let from = h w in
    let r = works-ready k (begun_by s w k) (record { tried = from.tried; chosen = from.chosen }) in
    record { tried = r.tried; chosen = r.chosen }

pub takes-ready : (l : Layout) (p : ℕ) (ts : List PlaceTurn) (x y : PlaceState) → Takes (machine l) p x ts y → IsReadyPlace x → IsReadyPlace y
takes-ready l p [] x y h r = subst IsReadyPlace h r
takes-ready l p (t ∷ ts) x y h r = takes-ready l p ts (turn t.input x t.before).place y h.1 (turn-ready t.input x t.before r)

start-ready : (l : Layout) (p : ℕ) → IsReadyPlace (started l p)
start-ready l p w = record { tried = λ k e. refl; chosen = λ g e. refl }

pub led-ready : (l : Layout) (p : ℕ) (ts : List PlaceTurn) (s : PlaceState) → Takes (machine l) p (started l p) ts s → IsReadyPlace s
led-ready l p ts s h = takes-ready l p ts (started l p) s h (start-ready l p)

-- all entries of the turn, the newest first
pub all-entries : (c : Command) (s : PlaceState) (w : Seated) (es : List Entry) → AppendsAll c s w es → reverse es ≡ entries c (begun s w)
all-entries c s w es h =
    let g = act-goes c (begun s w) in
    append_cancel_right (reverse es) (entries c (begun s w)) s.journal (sym h ∙ (g.journal ∙ sym (append_assoc g.newer (next_entry (own c (begun s w)) (begun s w) ∷ []) s.journal)))

module _ (c : Command) (s : PlaceState) (w : Seated) (es : List Entry) (h : AppendsAll c s w es) where
  pub to-entries : (a : Act) → Says es a → Says (entries c (begun s w)) a
  to-entries a said = subst (λ zs. Says zs a) (all-entries c s w es h) (says-reversed es a said)

  pub from-entries : (a : Act) → Says (entries c (begun s w)) a → Says es a
  from-entries a said = says-back es a (subst (λ zs. Says zs a) (sym (all-entries c s w es h)) said)

-- a message that waits first is what the port gives out
gives-first : (ports : List PortRecord) (q : Ui) (position : ℕ) (x : MsgId) → IsFit ports (acts.Take q position x) → GivesFirst (λ r m. first_message (find r ports) ≡ Some m) q x (first_message (find q ports))
gives-first ports q position x f =
    record { message = f.0; is = f.1.0; id = f.1.1; given = f.1.0; only = λ m is same. (let both : Some m ≡ Some f.0 = sym is ∙ f.1.0 in cc) }

pub turns-tell : TurnsTell
turns-tell l p ts s w c es r h all =
    let t = begun s w in
    let answering : IsAnswering (λ q m. first_message (find q s.ports) ≡ Some m) c t = record {
      ready = λ k. (led-ready l p ts s h w).tried k;
      copy = λ m d e. subst (IsFit s.ports) e (own-fits c t);
      takes = λ q position x e. gives-first s.ports q position x (subst (IsFit s.ports) e (own-fits c t));
    } in
    reply-tells (λ q m. first_message (find q s.ports) ≡ Some m) c t answering es (to-entries c s w es all) (from-entries c s w es all) r

-- Takes.

-- a command whose own act stands alone
module _ (c : Command) (s : PlaceState) (w : Seated) (es : List Entry) (h : AppendsAll c s w es) where
  abbrev t : Turn
  t = begun s w

  -- the own act stands first, and then what follows on it
  pub own-first : acts_of es ≡ own c (begun s w) ∷ acts_of (reverse (act-goes c (begun s w)).newer)
  own-first =
      let behind = (act-goes c (begun s w)).newer in
      let first = next_entry (own c (begun s w)) (begun s w) in
      let is : es ≡ first ∷ reverse behind = sym (reverse-reverse es) ∙ (ap reverse (all-entries c s w es h) ∙ reverse-append behind (first ∷ [])) in
      ap acts_of is

  alone : (a : Act) → own c (begun s w) ≡ a → (does a (begun s w)).place.journal ≡ next_entry a (begun s w) ∷ s.journal → acts_of es ≡ a ∷ []
  alone a e one =
      let g = act-goes c (begun s w) in
      let lists : g.newer ++ next_entry a (begun s w) ∷ s.journal ≡ [] ++ next_entry a (begun s w) ∷ s.journal =
      ap (λ z. g.newer ++ next_entry z (begun s w) ∷ s.journal) (sym e) ∙ (sym g.journal ∙ (ap (λ z. (does z (begun s w)).place.journal) e ∙ one)) in
      let none : g.newer ≡ [] = append_cancel_right g.newer [] (next_entry a (begun s w) ∷ s.journal) lists in
      own-first ∙ (ap (λ z. z ∷ acts_of (reverse g.newer)) e ∙ ap (λ zs. a ∷ acts_of (reverse zs)) none)

few : (tag : Tag) (settled : Option Settle) → length (settled_acts tag settled) ≤ 1
few tags.Plain settled = omega arith
few (tags.Request number back) settled = omega arith
few (tags.Reply client number) None = omega arith
few (tags.Reply client number) (Some settles.Done) = omega arith
few (tags.Reply client number) (Some settles.Late) = omega arith

-- at most one entry stands behind a Take
turned : (rest : List Entry) (tag : Tag) (settled : Option Settle) → acts_of rest ≡ settled_acts tag settled → acts_of (reverse rest) ≡ settled_acts tag settled
turned [] tag settled h = h
turned (e ∷ []) tag settled h = h
turned (e ∷ f ∷ rest) tag settled h =
    let long : length (acts_of (e ∷ f ∷ rest)) ≤ 1 = subst (λ zs. length zs ≤ 1) (sym h) (few tag settled) in
    absurd (omega (arith, long))

pub takes-append : TakesAppend
takes-append s w q es h = by (taken w.actor (find q s.ports)) refl
  where
    t : Turn
    t = begun s w

    c : Command
    c = Command.Take q

    so : (r : Reply) → reply c t ≡ r → acts_of es ≡ taken_acts q r → answers_take r ≡ true → (acts_of es ≡ taken_acts q (reply c t)) × (answers_take (reply c t) ≡ true)
    so r is acts_are answers = (acts_are ∙ ap (taken_acts q) (sym is), ap answers_take is ∙ answers)

    by : (o : Taken) → taken w.actor (find q s.ports) ≡ o → (acts_of es ≡ taken_acts q (reply c t)) × (answers_take (reply c t) ≡ true)
    by takes.NotHere e =
        let is : own c t ≡ acts.NotHere q = ap (take_act q) e in
        so Reply.NotHere (ap (λ z. reply_to z t (act c t)) is) (alone c s w es h (acts.NotHere q) is refl) refl
    by takes.Empty e =
        let is : own c t ≡ acts.Empty q = ap (take_act q) e in
        so Reply.Empty (ap (λ z. reply_to z t (act c t)) is) (alone c s w es h (acts.Empty q) is refl) refl
    by (takes.Message position m) e =
        let is : own c t ≡ acts.Take q position m.id = ap (take_act q) e in
        let f = gives-first s.ports q position m.id (subst (IsFit s.ports) is (own-fits c t)) in
        let settled = settling f.message.tag w in
        let ended : acts_of (reverse (act-goes c t).newer) ≡ settled_acts f.message.tag settled = turned (act-goes c t).newer f.message.tag settled (take-becomes (λ r n. first_message (find r s.ports) ≡ Some n) c t q position m.id is f) in
        so (Reply.Taken position f.message settled) (take-reply (λ r n. first_message (find r s.ports) ≡ Some n) c t q position m.id is f)
        (own-first c s w es h ∙ (ap (λ z. z ∷ acts_of (reverse (act-goes c t).newer)) (is ∙ ap (acts.Take q position) (sym f.id)) ∙ ap (λ zs. acts.Take q position f.message.id ∷ zs) ended)) refl
