-- What an event adds to the own entries of a seat: one by its command, which answers it, and none else.
-- k is the seat, j the seat of the event. A past has its newest entry first.
use Rattle.std.proofs.Common.{ℕ, ◌≡◌, ◌≢◌, ◌==◌, true, false, cond, List, [], ◌∷◌, ◌++◌, Option, Some, None, refl, sym, ◌∙◌, ap, append_assoc}
use Rattle.std.specs.List.{All, filter}
use Rattle.std.proofs.lemmas.Bool.{eq-eqb, ne_eqb, and_from, and_left, and_right}
use Rattle.std.proofs.lemmas.List.Elements.{All-nil, All-cons, All-head, All-tail, All-append, All-weaker, filter-append}
use Rattle.chorus_entry.specs.declared.command.Command.{Command}
use Rattle.chorus_entry.specs.declared.entry.Entry.{Entry}
use Rattle.chorus_entry.specs.declared.packet.Packet.{Packet}
use Rattle.chorus_entry.specs.Act.{is_command_entry}
use Rattle.chorus_world.specs.Commands.{is_own_of}
use Rattle.chorus_world.specs.Views.{is_by}
use Rattle.chorus_calls.specs.Callers.{Seated}
use Rattle.law_machine.specs.Own.{own}
use Rattle.law_machine.specs.PlaceState.{Turn, next_entry}
use Rattle.law_machine.specs.PlaceMachine.{begun_by, act, work}
use Rattle.law_network.specs.Network.{NetState, place}
use Rattle.law_network.specs.Packets.{first_on}
use Rattle.law_network.proofs.Events.Said.{said, said_on, said_at, act-goes, work-goes, said-act, said-work, own-is}

-- Entries that are not the seat's own.

abbrev NotOwn : ℕ → Entry → Type 0
NotOwn k e = is_own_of k e ≡ false

none-own : (k : ℕ) (es : List Entry) → All (NotOwn k) es → filter (is_own_of k) es ≡ []
none-own k [] h = refl
none-own k (e ∷ es) h = ap (λ b. cond b (e ∷ filter (is_own_of k) es) (filter (is_own_of k) es)) (All-head (NotOwn k) e es h) ∙ none-own k es (All-tail (NotOwn k) e es h)

-- entries of which none is the seat's own add nothing
adds-none : (k : ℕ) (es past : List Entry) → All (NotOwn k) es → filter (is_own_of k) (es ++ past) ≡ filter (is_own_of k) past
adds-none k es past h = filter-append (is_own_of k) es past ∙ ap (λ xs. xs ++ filter (is_own_of k) past) (none-own k es h)

follow-not-own : (k : ℕ) (es : List Entry) → All (λ (e : Entry). is_command_entry e.act ≡ false) es → All (NotOwn k) es
follow-not-own k es h = All-weaker (λ (e : Entry). is_command_entry e.act ≡ false) (NotOwn k) (λ e f. and_right (is_by k e) (is_command_entry e.act) f) es h

others-not-own : (k j : ℕ) (es : List Entry) → j ≢ k → All (λ (e : Entry). e.seat ≡ j) es → All (NotOwn k) es
others-not-own k j es ne h = All-weaker (λ (e : Entry). e.seat ≡ j) (NotOwn k) (λ e f. and_left (is_by k e) (is_command_entry e.act) (ne_eqb e.seat k (λ same. ne (sym f ∙ same)))) es h

-- What an event adds.

pub own-adds : (k : ℕ) (c : Command) (t : Turn) (past : List Entry) → t.caller.seat ≡ k → filter (is_own_of k) (said t (act c t) ++ past) ≡ next_entry (own c t) t ∷ filter (is_own_of k) past
own-adds k c t past seat =
    let g = act-goes c t in
    let e = next_entry (own c t) t in
    let owns : is_own_of k e ≡ true = and_from (t.caller.seat == k) (is_command_entry (own c t)) (eq-eqb t.caller.seat k seat) (own-is c t) in
    ap (λ es. filter (is_own_of k) (es ++ past)) (said-act c t)
    ∙ ap (filter (is_own_of k)) (append_assoc g.newer (e ∷ []) past)
    ∙ adds-none k g.newer (e ∷ past) (follow-not-own k g.newer g.follow)
    ∙ ap (λ b. cond b (e ∷ filter (is_own_of k) past) (filter (is_own_of k) past)) owns

pub other-adds : (k : ℕ) (c : Command) (t : Turn) (past : List Entry) → t.caller.seat ≢ k → filter (is_own_of k) (said t (act c t) ++ past) ≡ filter (is_own_of k) past
other-adds k c t past ne =
    let g = act-goes c t in
    let e = next_entry (own c t) t in
    let Mine : Entry → Type 0 = λ (f : Entry). f.seat ≡ t.caller.seat in
    let mine = All-append Mine g.newer (e ∷ []) g.seats (All-cons Mine e [] refl (All-nil Mine)) in
    ap (λ es. filter (is_own_of k) (es ++ past)) (said-act c t)
    ∙ adds-none k (g.newer ++ e ∷ []) past (others-not-own k t.caller.seat (g.newer ++ e ∷ []) ne mine)

work-adds : (k : ℕ) (q : Packet) (t : Turn) (past : List Entry) → filter (is_own_of k) (said t (work q t) ++ past) ≡ filter (is_own_of k) past
work-adds k q t past =
    ap (λ es. filter (is_own_of k) (es ++ past)) (said-work q t) ∙ adds-none k (work-goes q t).newer past (follow-not-own k (work-goes q t).newer (work-goes q t).follow)

pub deliver-adds : (k a b : ℕ) (o : Option Seated) (n : NetState) (past : List Entry) → filter (is_own_of k) (said_at a b o n ++ past) ≡ filter (is_own_of k) past
deliver-adds k a b None n past = refl
deliver-adds k a b (Some caller) n past = go (first_on a b n.packets)
  where
    go : (o : Option Packet) → filter (is_own_of k) (said_on b caller o n ++ past) ≡ filter (is_own_of k) past
    go None = refl
    go (Some q) = work-adds k q (begun_by (place b n) caller q) past
