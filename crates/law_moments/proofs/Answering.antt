-- What answers the commands of a seat are its own entries, and what stands behind them: in the history of a schedule, and in the merge.
-- k is a seat, j the seat of an event, l a layout, n a network, t a turn, es are events, the latest first. A past has its newest entry first, mine
-- are the entries of one seat.
use Rattle.std.proofs.Common.{ℕ, ◌≡◌, ◌≢◌, ◌==◌, Bool, true, false, ◌&&◌, cond, List, [], ◌∷◌, ◌++◌, option_to_list, Option, Some, None, slice_get, refl, sym, ◌∙◌, ap, subst, append_assoc}
use Rattle.std.specs.List.{All}
use Rattle.std.specs.Option.{option_or}
use Rattle.std.proofs.lemmas.Bool.{eqb-true, eq-eqb, ne_eqb, false≢true, and_parts}
use Rattle.std.proofs.lemmas.List.{append_cancel_right}
use Rattle.std.proofs.lemmas.List.Elements.{All-nil, All-cons, All-head, All-tail, All-append, filter-append}
use Rattle.chorus_ui.specs.declared.layout.Layout.{Layout}
use Rattle.chorus_ui.specs.declared.ui.Ui.{Ui}
use Rattle.chorus_ui.specs.Layout.{IsLayout}
use Rattle.chorus_entry.specs.declared.act.Act as acts
use Rattle.chorus_entry.specs.declared.act.Act.TheVariants as variants
use Rattle.chorus_entry.specs.declared.command.Command.{Command}
use Rattle.chorus_entry.specs.declared.entry.Entry.{Entry}
use Rattle.chorus_entry.specs.declared.id.MsgId.{MsgId}
use Rattle.chorus_entry.specs.declared.message.Message.{Message}
use Rattle.chorus_entry.specs.declared.packet.Packet.{Packet}
use Rattle.chorus_entry.specs.declared.record.PortRecord.{PortRecord}
use Rattle.chorus_entry.specs.declared.tag.Tag.{Tag}
use Rattle.chorus_entry.specs.declared.tag.Tag.TheVariants as tags
use Rattle.chorus_entry.specs.Act.{is_command_entry}
use Rattle.chorus_world.specs.Views.{by, is_by}
use Rattle.chorus_ports.specs.Table.{find, replace}
use Rattle.chorus_ports.specs.Taking.{after_take}
use Rattle.chorus_calls.specs.Callers.{Seated, with_client}
use Rattle.chorus_calls.specs.Clients.{after_cancel, is_outstanding}
use Rattle.law_machine.specs.PlaceState.{Turn, next_entry, note, say, unchanged}
use Rattle.law_machine.specs.Own.{own}
use Rattle.law_machine.specs.Doing.{does, ends, first_message, holding, takes}
use Rattle.law_machine.specs.PlaceMachine.{begun_by, act, work}
use Rattle.law_network.specs.Packets.{first_on}
use Rattle.law_network.specs.Network.{NetState, Event, Enter, Act, Deliver, See, place, turn_for, schedule}
use Rattle.law_network.specs.History.{history}
use Rattle.law_network.specs.Schedules.{may_happen, may_be}
use Rattle.law_network.proofs.Events.InOrder.{in-order}
use Rattle.law_network.proofs.Events.Said.{said, said_with, said_on, said_at, act-goes, work-goes, said-act, said-work, own-is}
use Rattle.law_network.proofs.Merge.Journals.{merge-is, views}
use Rattle.law_explore.specs.Races.{own_by, settled_by, settles_by, settles_with, told_in}
use Rattle.law_moments.specs.Read.{AnswersAreRead}
use Rattle.law_moments.specs.Answers.{answer_by, answered_by, settle_in, told_as, told_behind, told_of}
use Rattle.law_moments.proofs.Quiet.{GoesQuiet, IsQuiet, posts-quiet, starts, work-quiet}

abbrev Quiet : Entry → Type 0
Quiet e = IsQuiet e.act

or-none : (o s : Option acts.Act) → o ≡ None → option_or o s ≡ s
or-none o s h = ap (λ x. option_or x s) h

-- quiet entries say nothing of answers
skip : (settles : Option acts.Act) (new mine : List Entry) → All Quiet new → told_behind settles (new ++ mine) ≡ told_behind settles mine
skip settles [] mine h = refl
skip settles (e ∷ new) mine h =
    let q = All-head Quiet e new h in
    ap (λ b. cond b (told_as e.act settles ∷ told_behind None (new ++ mine)) (told_behind (option_or (settle_in e.act) settles) (new ++ mine))) q.follows
    ∙ ap (λ s. told_behind s (new ++ mine)) (or-none (settle_in e.act) settles q.settles)
    ∙ skip settles new mine (All-tail Quiet e new h)

-- an own entry, with what stands behind it
own-first : (settles : Option acts.Act) (e : Entry) (mine : List Entry) → is_command_entry e.act ≡ true → told_behind settles (e ∷ mine) ≡ told_as e.act settles ∷ told_behind None mine
own-first settles e mine h =
    ap (λ b. cond b (told_as e.act settles ∷ told_behind None mine) (told_behind (option_or (settle_in e.act) settles) mine)) h

-- Views of one seat.

all-mine : (k : ℕ) (new : List Entry) → All (λ (e : Entry). e.seat ≡ k) new → by k new ≡ new
all-mine k [] h = refl
all-mine k (e ∷ new) h =
    ap (λ b. cond b (e ∷ by k new) (by k new)) (eq-eqb e.seat k (All-head (λ (f : Entry). f.seat ≡ k) e new h))
    ∙ ap (λ es. e ∷ es) (all-mine k new (All-tail (λ (f : Entry). f.seat ≡ k) e new h))

none-mine : (k j : ℕ) (new : List Entry) → j ≢ k → All (λ (e : Entry). e.seat ≡ j) new → by k new ≡ []
none-mine k j [] ne h = refl
none-mine k j (e ∷ new) ne h =
    ap (λ b. cond b (e ∷ by k new) (by k new)) (ne_eqb e.seat k (λ same. ne (sym (All-head (λ (f : Entry). f.seat ≡ j) e new h) ∙ same)))
    ∙ none-mine k j new ne (All-tail (λ (f : Entry). f.seat ≡ j) e new h)

-- Turns with a command.

-- what stands behind the own entry, and what is told then
record TellsIt (a : acts.Act) (t : Turn) : Type 0 where
  pub newer : List Entry
  pub journal : (does a t).place.journal ≡ newer ++ next_entry a t ∷ t.place.journal
  pub told : is_command_entry a ≡ true → (mine : List Entry) → told_behind None (newer ++ next_entry a t ∷ mine) ≡ told_as a (settled_by a t) ∷ told_behind None mine

-- nothing, or what is quiet, stands behind an act that takes nothing
quietly : (a : acts.Act) (t : Turn) → settled_by a t ≡ None → GoesQuiet (next_entry a t ∷ t.place.journal) (does a t) → TellsIt a t
quietly a t none q = record {
  newer = q.newer;
  journal = q.journal;
  told = λ is mine.
      skip None q.newer (next_entry a t ∷ mine) q.quiet ∙ own-first None (next_entry a t) mine is
      ∙ ap (λ s. told_as a s ∷ told_behind None mine) (sym none);
}

alone : (a : acts.Act) (t : Turn) → settled_by a t ≡ None → (does a t).place.journal ≡ next_entry a t ∷ t.place.journal → TellsIt a t
alone a t none is = quietly a t none (starts (next_entry a t ∷ t.place.journal) (does a t) is)

-- behind a Take of a reply stands whether it ended the call
module _ (q : Ui) (position : ℕ) (x : MsgId) (t : Turn) where
  abbrev took : acts.Act
  took = variants.Take q position x

  abbrev Behind : Option acts.Act → Turn → Type 0
  Behind settles u = (newer : List Entry) × ((u.place.journal ≡ newer ++ next_entry (variants.Take q position x) t ∷ t.place.journal)
      × ((mine : List Entry) → told_behind None (newer ++ next_entry (variants.Take q position x) t ∷ mine) ≡ told_as (variants.Take q position x) settles ∷ told_behind None mine))

  by-tag : (tag : Tag) (y : MsgId) (ports : List PortRecord) → Behind (settles_by tag t.caller) (ends tag (say took (record (unchanged t) { caller = holding y tag t.caller; ports = ports }) t))
  by-tag tags.Plain y ports = ([], (refl, λ mine. refl))
  by-tag (tags.Request number back) y ports = ([], (refl, λ mine. refl))
  by-tag (tags.Reply client number) y ports = by ((client == t.caller.seat) && is_outstanding number t.caller.client)
    where
      u : Turn
      u = say took (record (unchanged t) { caller = t.caller; ports = ports }) t

      by : (b : Bool) → Behind (Some (cond b (variants.Done number) (variants.Late number))) (cond b (say (variants.Done number) (record (unchanged u) { caller = with_client u.caller (after_cancel u.caller.client) }) u) (note (variants.Late number) u))
      by true = (next_entry (variants.Done number) u ∷ [], (refl, λ mine. refl))
      by false = (next_entry (variants.Late number) u ∷ [], (refl, λ mine. refl))

  by-message : (o : Option Message) → Behind (settles_with o t.caller) (takes q position x o t)
  by-message None = ([], (refl, λ mine. refl))
  by-message (Some m) = by-tag m.tag m.id (replace q (after_take t.caller.actor) t.place.ports)

  take-tells : TellsIt (variants.Take q position x) t
  take-tells = let b = by-message (first_message (find q t.place.ports)) in record { newer = b.0; journal = b.1.0; told = λ is. b.1.1 }

tells-it : (a : acts.Act) (t : Turn) → TellsIt a t
tells-it (variants.Take q position x) t = take-tells q position x t
tells-it (variants.Post m d) t =
    let a = variants.Post m d in
    quietly a t refl (posts-quiet (next_entry a t ∷ t.place.journal) t m d (λ c. starts (next_entry a t ∷ t.place.journal) (say a c t) refl))
tells-it (variants.Make q actor capacity) t = alone (variants.Make q actor capacity) t refl refl
tells-it (variants.Rehome q actor) t = alone (variants.Rehome q actor) t refl refl
tells-it (variants.Depart q to actor hop) t = alone (variants.Depart q to actor hop) t refl refl
tells-it (variants.Delete q xs) t = alone (variants.Delete q xs) t refl refl
tells-it (variants.Cancel number) t = alone (variants.Cancel number) t refl refl
tells-it a t = alone a t refl refl

module _ (k : ℕ) where
  -- a turn with a command of the seat is told by its own entry, and by what stands behind it
  said-own : (c : Command) (t : Turn) (past : List Entry) → t.caller.seat ≡ k → told_of k (said t (act c t) ++ past) ≡ told_in c t ∷ told_of k past
  said-own c t past seat =
      let g = act-goes c t in
      let it = tells-it (own c t) t in
      let e = next_entry (own c t) t in
      let Mine : Entry → Type 0 = λ f. f.seat ≡ k in
      let newer : it.newer ≡ g.newer = append_cancel_right it.newer g.newer (e ∷ t.place.journal) (sym it.journal ∙ g.journal) in
      let mine : All Mine (g.newer ++ e ∷ []) =
      All-append Mine g.newer (e ∷ []) (subst (λ (s : ℕ). All (λ (f : Entry). f.seat ≡ s) g.newer) seat g.seats) (All-cons Mine e [] seat (All-nil Mine)) in
      ap (λ new. told_of k (new ++ past)) (said-act c t)
      ∙ ap (told_behind None)
      (filter-append (is_by k) (g.newer ++ e ∷ []) past ∙ ap (λ es. es ++ by k past) (all-mine k (g.newer ++ e ∷ []) mine) ∙ append_assoc g.newer (e ∷ []) (by k past))
      ∙ ap (λ new. told_behind None (new ++ e ∷ by k past)) (sym newer)
      ∙ it.told (own-is c t) (by k past)

  -- one of another seat says nothing of it
  said-other : (c : Command) (t : Turn) (past : List Entry) → t.caller.seat ≢ k → told_of k (said t (act c t) ++ past) ≡ told_of k past
  said-other c t past ne =
      let g = act-goes c t in
      let e = next_entry (own c t) t in
      let Theirs : Entry → Type 0 = λ f. f.seat ≡ t.caller.seat in
      ap (λ new. told_of k (new ++ past)) (said-act c t)
      ∙ ap (told_behind None)
      (filter-append (is_by k) (g.newer ++ e ∷ []) past
      ∙ ap (λ es. es ++ by k past) (none-mine k t.caller.seat (g.newer ++ e ∷ []) ne (All-append Theirs g.newer (e ∷ []) g.seats (All-cons Theirs e [] refl (All-nil Theirs)))))

  quiet-by : (new : List Entry) → All Quiet new → All Quiet (by k new)
  quiet-by [] h = h
  quiet-by (e ∷ new) h = go (is_by k e) (quiet-by new (All-tail Quiet e new h))
    where
      go : (b : Bool) → All Quiet (by k new) → All Quiet (cond b (e ∷ by k new) (by k new))
      go true ih = All-cons Quiet e (by k new) (All-head Quiet e new h) ih
      go false ih = ih

  -- nor does one with a packet, whoever works it off
  said-worked : (q : Packet) (t : Turn) (past : List Entry) → told_of k (said t (work q t) ++ past) ≡ told_of k past
  said-worked q t past =
      let g = work-goes q t in
      let w = work-quiet t.place.journal q t (starts t.place.journal t refl) in
      let newer : w.newer ≡ g.newer = append_cancel_right w.newer g.newer t.place.journal (sym w.journal ∙ g.journal) in
      ap (λ new. told_of k (new ++ past)) (said-work q t ∙ sym newer)
      ∙ ap (told_behind None) (filter-append (is_by k) w.newer past)
      ∙ skip None (by k w.newer) (by k past) (quiet-by w.newer w.quiet)

  said-delivered : (a b : ℕ) (o : Option Seated) (n : NetState) (past : List Entry) → told_of k (said_at a b o n ++ past) ≡ told_of k past
  said-delivered a b None n past = refl
  said-delivered a b (Some w) n past = go (first_on a b n.packets)
    where
      go : (o : Option Packet) → told_of k (said_on b w o n ++ past) ≡ told_of k past
      go None = refl
      go (Some q) = said-worked q (begun_by (place b n) w q) past

-- Schedules.

module _ (l : Layout) (shape : IsLayout l) where
  gave : (k j : ℕ) (c : Command) (es : List Event) (o : Option Seated) → may_be l es ≡ true → slice_get (schedule l es).callers j ≡ o → (b : Bool) → (j == k) ≡ b
      → told_of k (said_with c o (schedule l es) ++ history l es) ≡ cond b (option_to_list (own_by c (schedule l es) o)) [] ++ told_of k (history l es)
  gave k j c es None may e true f = refl
  gave k j c es None may e false f = refl
  gave k j c es (Some w) may e true f =
      said-own k c (turn_for c w (schedule l es)) (history l es) (((in-order l es shape may).0.callers j w e).seat ∙ eqb-true j k f)
  gave k j c es (Some w) may e false f =
      let seat : w.seat ≡ j = ((in-order l es shape may).0.callers j w e).seat in
      said-other k c (turn_for c w (schedule l es)) (history l es) (λ same. false≢true (sym f ∙ eq-eqb j k (sym seat ∙ same)))

  in-history : (k : ℕ) (es : List Event) → may_be l es ≡ true → told_of k (history l es) ≡ answered_by l k es
  in-history k [] may = refl
  in-history k (Enter actor last ∷ es) may = in-history k es (and_parts (may_happen (Enter actor last) (schedule l es)) (may_be l es) may).1
  in-history k (Act j c ∷ es) may =
      let before = (and_parts (may_happen (Act j c) (schedule l es)) (may_be l es) may).1 in
      gave k j c es (slice_get (schedule l es).callers j) before refl (j == k) refl
      ∙ ap (λ told. answer_by k (Act j c) (schedule l es) ++ told) (in-history k es before)
  in-history k (Deliver j a b ∷ es) may =
      said-delivered k a b (slice_get (schedule l es).callers j) (schedule l es) (history l es)
      ∙ in-history k es (and_parts (may_happen (Deliver j a b) (schedule l es)) (may_be l es) may).1
  in-history k (See j clock ∷ es) may = in-history k es (and_parts (may_happen (See j clock) (schedule l es)) (may_be l es) may).1

-- in the merge they stand in the same order
pub answers-are-read : AnswersAreRead
answers-are-read l es k shape may =
    let n = schedule l es in
    let past = history l es in
    let stands = (in-order l es shape may).0 in
    ap (told_behind None) (ap (by k) (merge-is n past stands) ∙ (views n past stands).seats k) ∙ in-history l shape k es may
