-- The history of a schedule performs the commands of each caller, and so does the merge of the journals.
use Rattle.std.proofs.Common.{ℕ, ◌≡◌, ◌≢◌, Bool, true, false, ◌==◌, ◌&&◌, not, cond, List, [], ◌∷◌, ◌++◌, length, Option, Some, None, slice_get, slice_set, refl, sym, ◌∙◌, ap, subst, append_assoc}
use Rattle.std.specs.List.{All}
use Rattle.std.specs.Option.{option_map}
use Rattle.std.proofs.lemmas.Bool.{eqb-true, eq-eqb, ne_eqb, false≢true, and_parts, and_from, and_left, and_right}
use Rattle.std.proofs.lemmas.List.Elements.{All-nil, All-cons, All-head, All-tail, All-append, All-weaker}
use Rattle.chorus_ui.specs.declared.ui.Ui.{Ui}
use Rattle.chorus_ui.specs.declared.layout.Layout.{Layout}
use Rattle.chorus_ui.specs.Layout.{IsLayout}
use Rattle.chorus_entry.specs.declared.entry.Entry.{Entry}
use Rattle.chorus_entry.specs.declared.command.Command.{Command}
use Rattle.chorus_entry.specs.declared.packet.Packet.{Packet}
use Rattle.chorus_entry.specs.Act.{is_command_entry}
use Rattle.chorus_entry.specs.Command.{meets_conditions, has_body_in_limit}
use Rattle.chorus_world.specs.Views.{by, is_by}
use Rattle.chorus_world.specs.Commands.{answers, is_own_of, performs}
use Rattle.chorus_calls.specs.Callers.{Seated, new_caller}
use Rattle.law_network.proofs.Standing.CallerList.{get-more, get-replaced, get-other}
use Rattle.law_machine.specs.PlaceState.{Turn, next_entry}
use Rattle.law_machine.specs.Own.{own}
use Rattle.law_machine.specs.PlaceMachine.{begun_by, act, work}
use Rattle.law_machine.proofs.Machine.Stays.{act-stays, work-stays}
use Rattle.law_network.specs.Packets.{first_on, rest_on}
use Rattle.law_network.specs.Network.{NetState, Event, Enter, Act, Deliver, See, place, turn_for, ended, commanded, works_off, delivered, happened, schedule}
use Rattle.law_network.specs.Stands.{actor_of}
use Rattle.law_network.specs.Schedules.{has_number_left, may_give, may_happen, may_be, command_in, commands_of}
use Rattle.law_network.proofs.Places.Layouts.{schedule-keeps}
use Rattle.law_network.specs.History.{history}
use Rattle.law_network.proofs.Events.InOrder.{in-order}
use Rattle.law_network.proofs.Events.Seeing.{shown-actors}
use Rattle.law_network.proofs.Commands.OwnIsAnswer.{own-answers}
use Rattle.law_network.proofs.Events.Said.{said, said_with, said_on, said_at, act-goes, work-goes, said-act, said-work, own-is}

-- Entries that are not the seat's own.

abbrev NotOwn : ℕ → Entry → Type 0
NotOwn s e = is_own_of s e ≡ false

performs-skip : (l : Layout) (s : ℕ) (a : Ui) (es past : List Entry) (ks : List Command) → All (NotOwn s) es → performs l s a (es ++ past) ks ≡ performs l s a past ks
performs-skip l s a [] past ks h = refl
performs-skip l s a (e ∷ es) past [] h =
    ap (λ b. not b && performs l s a (es ++ past) []) (All-head (NotOwn s) e es h) ∙ performs-skip l s a es past [] (All-tail (NotOwn s) e es h)
performs-skip l s a (e ∷ es) past (k ∷ ks) h =
    ap (λ b. cond b (answers l (es ++ past) a k e && performs l s a (es ++ past) ks) (performs l s a (es ++ past) (k ∷ ks))) (All-head (NotOwn s) e es h)
    ∙ performs-skip l s a es past (k ∷ ks) (All-tail (NotOwn s) e es h)

-- a past without entries of the seat performs nothing
performs-none : (l : Layout) (s : ℕ) (a : Ui) (past : List Entry) → by s past ≡ [] → performs l s a past [] ≡ true
performs-none l s a [] h = refl
performs-none l s a (e ∷ past) h = go (is_by s e) refl h (performs-none l s a past)
  where
    go : (b : Bool) → is_by s e ≡ b → cond b (e ∷ by s past) (by s past) ≡ [] → (by s past ≡ [] → performs l s a past [] ≡ true) → not (is_own_of s e) && performs l s a past [] ≡ true
    go true f k ih = absurd (cc)
    go false f k ih = ap (λ b. not (b && is_command_entry e.act) && performs l s a past []) f ∙ ih k

follows-not-own : (s : ℕ) (es : List Entry) → All (λ (e : Entry). is_command_entry e.act ≡ false) es → All (NotOwn s) es
follows-not-own s es h = All-weaker (λ (e : Entry). is_command_entry e.act ≡ false) (NotOwn s) (λ e k. and_right (is_by s e) (is_command_entry e.act) k) es h

others-not-own : (s j : ℕ) (es : List Entry) → j ≢ s → All (λ (e : Entry). e.seat ≡ j) es → All (NotOwn s) es
others-not-own s j es ne h = All-weaker (λ (e : Entry). e.seat ≡ j) (NotOwn s) (λ e k. and_left (is_by s e) (is_command_entry e.act) (ne_eqb e.seat s (λ same. ne (sym k ∙ same)))) es h

-- Turns.

-- a turn with a command performs it, where its own act answers it
performs-act : (l : Layout) (s : ℕ) (a : Ui) (c : Command) (t : Turn) (past : List Entry) (ks : List Command) → t.caller.seat ≡ s → answers l past a c (next_entry (own c t) t) ≡ true → performs l s a past ks ≡ true → performs l s a (said t (act c t) ++ past) (c ∷ ks) ≡ true
performs-act l s a c t past ks seat answer h =
    let g = act-goes c t in
    let e = next_entry (own c t) t in
    let owns : is_own_of s e ≡ true = and_from (t.caller.seat == s) (is_command_entry (own c t)) (eq-eqb t.caller.seat s seat) (own-is c t) in
    ap (λ es. performs l s a (es ++ past) (c ∷ ks)) (said-act c t)
    ∙ ap (λ es. performs l s a es (c ∷ ks)) (append_assoc g.newer (e ∷ []) past)
    ∙ performs-skip l s a g.newer (e ∷ past) (c ∷ ks) (follows-not-own s g.newer g.follow)
    ∙ ap (λ b. cond b (answers l past a c e && performs l s a past ks) (performs l s a past (c ∷ ks))) owns
    ∙ and_from (answers l past a c e) (performs l s a past ks) answer h

-- it is nothing to another seat
other-act : (l : Layout) (s : ℕ) (a : Ui) (c : Command) (t : Turn) (past : List Entry) (ks : List Command) → t.caller.seat ≢ s → performs l s a (said t (act c t) ++ past) ks ≡ performs l s a past ks
other-act l s a c t past ks ne =
    let g = act-goes c t in
    let e = next_entry (own c t) t in
    let mine : All (λ (f : Entry). f.seat ≡ t.caller.seat) (g.newer ++ e ∷ []) = All-append (λ (f : Entry). f.seat ≡ t.caller.seat) g.newer (e ∷ []) g.seats (All-cons (λ (f : Entry). f.seat ≡ t.caller.seat) e [] refl (All-nil (λ (f : Entry). f.seat ≡ t.caller.seat))) in
    ap (λ es. performs l s a (es ++ past) ks) (said-act c t)
    ∙ performs-skip l s a (g.newer ++ e ∷ []) past ks (others-not-own s t.caller.seat (g.newer ++ e ∷ []) ne mine)

-- and a turn with a packet to none
performs-work : (l : Layout) (s : ℕ) (a : Ui) (q : Packet) (t : Turn) (past : List Entry) (ks : List Command) → performs l s a (said t (work q t) ++ past) ks ≡ performs l s a past ks
performs-work l s a q t past ks =
    ap (λ es. performs l s a (es ++ past) ks) (said-work q t) ∙ performs-skip l s a (work-goes q t).newer past ks (follows-not-own s (work-goes q t).newer (work-goes q t).follow)

performs-deliver : (l : Layout) (s : ℕ) (a : Ui) (x y : ℕ) (o : Option Seated) (n : NetState) (past : List Entry) (ks : List Command) → performs l s a (said_at x y o n ++ past) ks ≡ performs l s a past ks
performs-deliver l s a x y None n past ks = refl
performs-deliver l s a x y (Some caller) n past ks = go (first_on x y n.packets)
  where
    go : (o : Option Packet) → performs l s a (said_on y caller o n ++ past) ks ≡ performs l s a past ks
    go None = refl
    go (Some q) = performs-work l s a q (begun_by (place y n) caller q) past ks

-- Callers.

abbrev pub actor_in : Option Seated → Option Ui
actor_in o = option_map (λ (c : Seated). c.actor) o

pub some-actor : (o : Option Seated) (a : Ui) → actor_in o ≡ Some a → (c : Seated) × ((o ≡ Some c) × (c.actor ≡ a))
some-actor None a h = absurd (cc)
some-actor (Some c) a h = (c, (refl, cc))

none-actor : (o : Option Seated) → actor_in o ≡ None → o ≡ None
none-actor None h = refl
none-actor (Some c) h = absurd (cc)

-- a turn leaves the actor of each seat
ended-actors : (j : ℕ) (t : Turn) (n : NetState) (caller : Seated) (k : ℕ) → slice_get n.callers j ≡ Some caller → t.caller.actor ≡ caller.actor → actor_of (ended j t n) k ≡ actor_of n k
ended-actors j t n caller k h same = go (j == k) refl
  where
    go : (b : Bool) → (j == k) ≡ b → actor_of (ended j t n) k ≡ actor_of n k
    go true e =
        let here : j ≡ k = eqb-true j k e in
        ap (λ i. actor_in (slice_get (slice_set n.callers j t.caller) i)) (sym here)
        ∙ ap actor_in (get-replaced n.callers j caller t.caller h)
        ∙ ap (λ (a : Ui). Some a) same
        ∙ sym (ap (λ i. actor_in (slice_get n.callers i)) (sym here) ∙ ap actor_in h)
    go false e = ap actor_in (get-other n.callers j k t.caller (λ here. false≢true (sym e ∙ eq-eqb j k here)))

pub given-actors : (j : ℕ) (c : Command) (n : NetState) (o : Option Seated) (k : ℕ) → slice_get n.callers j ≡ o → actor_of (commanded j c o n) k ≡ actor_of n k
given-actors j c n None k h = refl
given-actors j c n (Some caller) k h = ended-actors j (act c (turn_for c caller n)) n caller k h (act-stays c (turn_for c caller n)).actor

pub delivered-actors : (j x y : ℕ) (n : NetState) (o : Option Seated) (k : ℕ) → slice_get n.callers j ≡ o → actor_of (delivered j x y o n) k ≡ actor_of n k
delivered-actors j x y n None k h = refl
delivered-actors j x y n (Some caller) k h = go (first_on x y n.packets)
  where
    go : (o : Option Packet) → actor_of (works_off j x y caller o n) k ≡ actor_of n k
    go None = refl
    go (Some q) =
        let t = begun_by (place y n) caller q in
        ended-actors j (work q t) (record n { packets = rest_on x y n.packets }) caller k h (work-stays q t).actor

-- a seat that nobody has gave no command
ungiven : (l : Layout) (es : List Event) (k : ℕ) → may_be l es ≡ true → actor_of (schedule l es) k ≡ None → commands_of k es ≡ []
ungiven l [] k may h = refl
ungiven l (e ∷ es) k may h = go e two.0 h (ungiven l es k two.1)
  where
    two : (may_happen e (schedule l es) ≡ true) × (may_be l es ≡ true)
    two = and_parts (may_happen e (schedule l es)) (may_be l es) may

    entered-none : (xs : List Seated) (z : Seated) (o : Option Seated) → slice_get xs k ≡ o → actor_in (slice_get (xs ++ z ∷ []) k) ≡ None → actor_in o ≡ None
    entered-none xs z None e f = refl
    entered-none xs z (Some x) e f = sym (ap actor_in (get-more xs (z ∷ []) k x e)) ∙ f

    go : (f : Event) → may_happen f (schedule l es) ≡ true → actor_of (happened f (schedule l es)) k ≡ None → (actor_of (schedule l es) k ≡ None → commands_of k es ≡ []) → command_in k f (commands_of k es) ≡ []
    go (Enter actor last) m g ih = ih (ap actor_in refl ∙ entered-none (schedule l es).callers (new_caller (length (schedule l es).callers) actor last) (slice_get (schedule l es).callers k) refl g)
    go (Act j c) m g ih = by (j == k) refl
      where
        was : actor_of (schedule l es) k ≡ None
        was = sym (given-actors j c (schedule l es) (slice_get (schedule l es).callers j) k refl) ∙ g

        by : (b : Bool) → (j == k) ≡ b → cond b (c ∷ commands_of k es) (commands_of k es) ≡ []
        by false e = ih was
        by true e =
            let none : slice_get (schedule l es).callers j ≡ None = ap (slice_get (schedule l es).callers) (eqb-true j k e) ∙ none-actor (slice_get (schedule l es).callers k) was in
            absurd (false≢true (ap (λ o. may_give o c) (sym none) ∙ m))
    go (Deliver j x y) m g ih = ih (sym (delivered-actors j x y (schedule l es) (slice_get (schedule l es).callers j) k refl) ∙ g)
    go (See j c) m g ih = ih (sym (shown-actors (schedule l es) j c (slice_get (schedule l es).callers j) k refl) ∙ g)

-- The history.

module _ (l : Layout) (shape : IsLayout l) where
  abbrev Performs : List Event → Type 0
  Performs es = (k : ℕ) (a : Ui) → actor_of (schedule l es) k ≡ Some a → performs l k a (history l es) (commands_of k es) ≡ true

  performs-enter : (es : List Event) (actor : Ui) (last : ℕ) → may_be l es ≡ true → Performs es → Performs (Enter actor last ∷ es)
  performs-enter es actor last may ih k a h = go (slice_get (schedule l es).callers k) refl
    where
      go : (o : Option Seated) → slice_get (schedule l es).callers k ≡ o → performs l k a (history l es) (commands_of k es) ≡ true
      go None e =
          ap (performs l k a (history l es)) (ungiven l es k may (ap actor_in e)) ∙ performs-none l k a (history l es) ((in-order l es shape may).0.strangers k e)
      go (Some c) e =
          let more : actor_of (schedule l (Enter actor last ∷ es)) k ≡ Some c.actor = ap actor_in (get-more (schedule l es).callers (new_caller (length (schedule l es).callers) actor last ∷ []) k c e) in
          ih k a (ap actor_in e ∙ sym more ∙ h)

  performs-give : (es : List Event) (j : ℕ) (c : Command) (o : Option Seated) → slice_get (schedule l es).callers j ≡ o → may_be l es ≡ true → may_give o c ≡ true → Performs es → (k : ℕ) (a : Ui) → actor_of (schedule l es) k ≡ Some a → performs l k a (said_with c o (schedule l es) ++ history l es) (command_in k (Act j c) (commands_of k es)) ≡ true
  performs-give es j c None e may gives ih k a h = absurd (false≢true gives)
  performs-give es j c (Some caller) e may gives ih k a h = go (j == k) refl
    where
      seat : caller.seat ≡ j
      seat = ((in-order l es shape may).0.callers j caller e).seat

      go : (b : Bool) → (j == k) ≡ b → performs l k a (said (turn_for c caller (schedule l es)) (act c (turn_for c caller (schedule l es))) ++ history l es) (cond b (c ∷ commands_of k es) (commands_of k es)) ≡ true
      go true f =
          let same : j ≡ k = eqb-true j k f in
          let layout = (schedule-keeps l es).layout in
          let actor : caller.actor ≡ a = (let both : Some caller.actor ≡ Some a = sym (ap actor_in e) ∙ ap (actor_of (schedule l es)) same ∙ h in cc) in
          let meets = (and_parts (meets_conditions c) (has_body_in_limit c) (and_parts (meets_conditions c && has_body_in_limit c) (has_number_left caller c) gives).0).0 in
          let answer = own-answers (schedule l es) (history l es) j caller (subst IsLayout (sym layout) shape) (in-order l es shape may).0 e c meets in
          let t = turn_for c caller (schedule l es) in
          performs-act l k a c t (history l es) (commands_of k es) (seat ∙ same)
          (ap (λ (m : Layout). answers m (history l es) a c (next_entry (own c t) t)) (sym layout) ∙ ap (λ (b : Ui). answers (schedule l es).layout (history l es) b c (next_entry (own c t) t)) (sym actor) ∙ answer)
          (ih k a h)
      go false f =
          let t = turn_for c caller (schedule l es) in
          other-act l k a c t (history l es) (commands_of k es) (λ same. false≢true (sym f ∙ eq-eqb j k (sym seat ∙ same))) ∙ ih k a h

  pub performs-history : (es : List Event) → may_be l es ≡ true → (k : ℕ) (a : Ui) → actor_of (schedule l es) k ≡ Some a → performs l k a (history l es) (commands_of k es) ≡ true
  performs-history [] may k a h = absurd (cc)
  performs-history (Enter actor last ∷ es) may k a h =
      let two = and_parts (may_happen (Enter actor last) (schedule l es)) (may_be l es) may in
      performs-enter es actor last two.1 (performs-history es two.1) k a h
  performs-history (Act j c ∷ es) may k a h =
      let two = and_parts (may_happen (Act j c) (schedule l es)) (may_be l es) may in
      performs-give es j c (slice_get (schedule l es).callers j) refl two.1 two.0 (performs-history es two.1) k a
      (sym (given-actors j c (schedule l es) (slice_get (schedule l es).callers j) k refl) ∙ h)
  performs-history (Deliver j x y ∷ es) may k a h =
      let two = and_parts (may_happen (Deliver j x y) (schedule l es)) (may_be l es) may in
      performs-deliver l k a x y (slice_get (schedule l es).callers j) (schedule l es) (history l es) (commands_of k es)
      ∙ performs-history es two.1 k a (sym (delivered-actors j x y (schedule l es) (slice_get (schedule l es).callers j) k refl) ∙ h)
  performs-history (See j c ∷ es) may k a h =
      let two = and_parts (may_happen (See j c) (schedule l es)) (may_be l es) may in
      performs-history es two.1 k a (sym (shown-actors (schedule l es) j c (slice_get (schedule l es).callers j) k refl) ∙ h)
