-- What hands nothing out: all that a call makes but a take that is answered with a message.
-- n is a nucleus, c a command, s a place, w a caller, k a packet, t a turn, es are entries in order, q is a port.
use Rattle.std.proofs.Common.{ℕ, ◌≡◌, ◌+◌, false, List, [], ◌∷◌, ◌++◌, reverse, Option, Some, None, refl, sym, ◌∙◌, subst}
use Rattle.std.specs.List.{All}
use Rattle.std.proofs.lemmas.Bool.{false≢true}
use Rattle.std.proofs.lemmas.List.{append_cancel_right, reverse-append, reverse-reverse}
use Rattle.std.proofs.lemmas.List.Elements.{All-nil, All-cons, All-head, All-tail, All-append, All-weaker}
use Rattle.chorus_ui.specs.declared.ui.Ui.{Ui}
use Rattle.chorus_entry.specs.declared.entry.Entry.{Entry}
use Rattle.chorus_entry.specs.declared.act.Act.{Act}
use Rattle.chorus_entry.specs.declared.command.Command.{Command}
use Rattle.chorus_entry.specs.declared.packet.Packet.{Packet}
use Rattle.chorus_entry.specs.declared.tag.Tag.{Tag}
use Rattle.chorus_entry.specs.Act.{is_command_entry}
use Rattle.chorus_calls.specs.declared.client.Settle.{Settle}
use Rattle.chorus_calls.specs.declared.client.Settle.TheVariants as settles
use Rattle.chorus_calls.specs.Callers.{Seated}
use Rattle.law_machine.specs.PlaceState.{PlaceState, Turn, next_entry}
use Rattle.law_machine.specs.PlaceMachine.{begun, begun_by, work}
use Rattle.law_machine.specs.Own.{own}
use Rattle.law_network.proofs.Events.Said.{act-goes, work-goes}
use Rattle.law_replies.specs.Turns.{AppendsAll}
use Rattle.law_replies.specs.Taking.{acts_of, settled_acts}
use Rattle.law_replies.proofs.Turns.{all-entries}
use Rattle.law_machine.proofs.Machine.Owns.{IsOwn, Takes, is-own}
use Rattle.law_closing.specs.Remarks.{numbered}
use Rattle.law_closing.specs.Places.{PlaceNote}
use Rattle.chorus_turn.specs.declared.knowledge.Placed.{Placed}
use Rattle.chorus_turn.specs.declared.knowledge.Remarked.{Remarked}
use Rattle.chorus_turn.specs.Journals.{with_place}
use Rattle.chorus_sessions.specs.Hands.{hands_out, HandNothingOut}
use Rattle.chorus_sessions.specs.Sessions.{takes}

abbrev pub Quiet : Act → Type 0
Quiet a = hands_out a ≡ false

abbrev pub IsQuiet : Entry → Type 0
IsQuiet e = Quiet e.act

abbrev MadeQuiet : Placed PlaceNote → Type 0
MadeQuiet m = hands_out m.remarked.entry.act ≡ false

-- Acts.

follows-quiet : (a : Act) → is_command_entry a ≡ false → Quiet a
follows-quiet (Act.Take q n x) h = absurd (false≢true (sym h))
follows-quiet _ h = refl

pub settled-quiet : (tag : Tag) (settled : Option Settle) → All Quiet (settled_acts tag settled)
settled-quiet Tag.Plain settled = All-nil Quiet
settled-quiet (Tag.Request number back) settled = All-nil Quiet
settled-quiet (Tag.Reply client number) None = All-nil Quiet
settled-quiet (Tag.Reply client number) (Some settles.Done) = All-cons Quiet (Act.Done number) [] refl (All-nil Quiet)
settled-quiet (Tag.Reply client number) (Some settles.Late) = All-cons Quiet (Act.Late number) [] refl (All-nil Quiet)

-- the own act of any command but a take
quiet-own : {t : Turn} {c : Command} {a : Act} → IsOwn t c a → takes c ≡ false → Quiet a
quiet-own (Takes q position m e) other = absurd (false≢true (sym other))
quiet-own _ other = refl

pub own-quiet : (c : Command) → takes c ≡ false → (t : Turn) → Quiet (own c t)
own-quiet c other t = quiet-own (is-own c t) other

pub own-make : (actor : Ui) (capacity : ℕ) (t : Turn) → Quiet (own (Command.Make actor capacity) t)
own-make actor capacity = own-quiet (Command.Make actor capacity) refl

-- Entries.

module _ {X : Type 0} (P : X → Type 0) where
  all-reverse : (xs : List X) → All P xs → All P (reverse xs)
  all-reverse [] h = h
  all-reverse (x ∷ xs) h =
      subst (All P) (sym (reverse-append (x ∷ []) xs))
      (All-append P (reverse xs) (x ∷ []) (all-reverse xs (All-tail P x xs h)) (All-cons P x [] (All-head P x xs h) (All-nil P)))

pub quiet-by-acts : (es : List Entry) → All Quiet (acts_of es) → All IsQuiet es
quiet-by-acts [] h = All-nil IsQuiet
quiet-by-acts (e ∷ es) h = All-cons IsQuiet e es (All-head Quiet e.act (acts_of es) h) (quiet-by-acts es (All-tail Quiet e.act (acts_of es) h))

follow-quiet : (es : List Entry) → All (λ (e : Entry). is_command_entry e.act ≡ false) es → All IsQuiet es
follow-quiet es h = All-weaker (λ (e : Entry). is_command_entry e.act ≡ false) IsQuiet (λ e k. follows-quiet e.act k) es h

-- all that a turn with a command appends, where its own act hands nothing out
pub quiet-command : (c : Command) (s : PlaceState) (w : Seated) (es : List Entry) → AppendsAll c s w es → Quiet (own c (begun s w)) → All IsQuiet es
quiet-command c s w es h own-quiet =
    let t = begun s w in
    let g = act-goes c t in
    let e = next_entry (own c t) t in
    let all = All-append IsQuiet g.newer (e ∷ []) (follow-quiet g.newer g.follow) (All-cons IsQuiet e [] own-quiet (All-nil IsQuiet)) in
    subst (All IsQuiet) (reverse-reverse es) (all-reverse IsQuiet (reverse es) (subst (All IsQuiet) (sym (all-entries c s w es h)) all))

-- and all that a turn with a packet appends
pub quiet-packet : (k : Packet) (s : PlaceState) (w : Seated) (es : List Entry) → (work k (begun_by s w k)).place.journal ≡ reverse es ++ s.journal → All IsQuiet es
quiet-packet k s w es h =
    let g = work-goes k (begun_by s w k) in
    let same = append_cancel_right (reverse es) g.newer s.journal (sym h ∙ g.journal) in
    subst (All IsQuiet) (reverse-reverse es) (all-reverse IsQuiet (reverse es) (subst (All IsQuiet) (sym same) (follow-quiet g.newer g.follow)))

-- as made at a place
pub quiet-placed : (p k : ℕ) (seen : List (List (Remarked PlaceNote))) (r : PlaceNote) (es : List Entry) → All IsQuiet es → HandNothingOut (with_place p seen (numbered k r es))
quiet-placed p k seen r [] h = All-nil MadeQuiet
quiet-placed p k seen r (e ∷ es) h =
    All-cons MadeQuiet record { place = p; seen = seen; remarked = record { entry = e; remark = record r { nth = k } } } (with_place p seen (numbered (k + 1) r es))
    (All-head IsQuiet e es h) (quiet-placed p (k + 1) seen r es (All-tail IsQuiet e es h))
