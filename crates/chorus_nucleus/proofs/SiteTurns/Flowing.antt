-- What goes out, and what is in hand, in the words of histories.
use Rattle.std.proofs.Common.{ℕ, ◌≡◌, ◌==◌, Bool, true, false, not, cond, List, [], ◌∷◌, ◌++◌, map, Option, Some, None, option_to_list, refl, sym, ◌∙◌, ap, append_assoc}
use Rattle.std.proofs.lemmas.Bool.{and_parts, ne_eqb, false≢true}
use Rattle.std.proofs.lemmas.List.{append-nil}
use Rattle.chorus_ui.specs.declared.layout.Layout.{Layout}
use Rattle.chorus_ui.specs.Layout.{has_place}
use Rattle.chorus_entry.specs.declared.command.Command.{Command}
use Rattle.chorus_entry.specs.declared.packet.Packet.{Packet}
use Rattle.place_outbox.specs.Waiting.{list_to}
use Rattle.law_machine.specs.declared.outgoing.Outgoing.{Outgoing}
use Rattle.chorus_ends.specs.Links.{Links}
use Rattle.chorus_serve.specs.Flows.{GoesOut}
use Rattle.law_history.specs.declared.turns.Input.{Input}
use Rattle.law_history.specs.Turns.{puts_to, packet_from, from_place}
use Rattle.law_history.specs.PlaceTurns.{as_sent, is_other}
use Rattle.chorus_nucleus.specs.SiteTurns.Sites.{sent_in, received_in, held_in}

from_place-append : (a : ℕ) (xs ys : List (ℕ × Packet)) → from_place a (xs ++ ys) ≡ from_place a xs ++ from_place a ys
from_place-append a [] ys = refl
from_place-append a (x ∷ xs) ys =
    ap (λ ks. cond (x.0 == a) (x.1 ∷ ks) ks) (from_place-append a xs ys) ∙ choice (x.0 == a) x.1 (from_place a xs) (from_place a ys)
  where
    choice : (c : Bool) (k : Packet) (us vs : List Packet) → cond c (k ∷ (us ++ vs)) (us ++ vs) ≡ cond c (k ∷ us) us ++ vs
    choice true k us vs = refl
    choice false k us vs = refl

-- what a turn takes, as a packet in hand
abbrev pub taken : Input Command Packet → Option (ℕ × Packet)
taken (Input.Command c) = None
taken (Input.Packet a k) = Some (a, k)

packet-taken : (a : ℕ) (i : Input Command Packet) → packet_from a i ≡ from_place a (option_to_list (taken i))
packet-taken a (Input.Command c) = refl
packet-taken a (Input.Packet b k) = refl

-- a packet comes from another place
abbrev pub ComesFrom : Layout → ℕ → Input Command Packet → Type 0
ComesFrom l p (Input.Command c) = Unit {0}
ComesFrom l p (Input.Packet a k) = is_other l p a ≡ true

none-elsewhere : (l : Layout) (p a : ℕ) (i : Input Command Packet) → ComesFrom l p i → is_other l p a ≡ false → packet_from a i ≡ []
none-elsewhere l p a (Input.Command c) from away = refl
none-elsewhere l p a (Input.Packet b k) from away =
    ap (λ c. cond c (k ∷ []) []) (ne_eqb b a (λ e. false≢true (sym away ∙ ap (is_other l p) (sym e) ∙ from)))

-- what was sent and what waits, with what a turn puts
pub goes-out : (l : Layout) (p b : ℕ) (os : List Outgoing) (before after : List (List Packet)) (j k : Links) (elsewhere later : List Packet)
    → (has_place l b ≡ true → GoesOut b (puts_to b (map as_sent os)) before after j k) → later ≡ elsewhere ++ puts_to b (map as_sent os)
    → sent_in l p k b ++ cond (is_other l p b) (list_to b after) later
    ≡ (sent_in l p j b ++ cond (is_other l p b) (list_to b before) elsewhere) ++ puts_to b (map as_sent os)
goes-out l p b os before after j k elsewhere later out away = by (is_other l p b) refl
  where
    by : (c : Bool) → is_other l p b ≡ c → cond c (k.sent b) [] ++ cond c (list_to b after) later
        ≡ (cond c (j.sent b) [] ++ cond c (list_to b before) elsewhere) ++ puts_to b (map as_sent os)
    by true e =
        (let h = out (and_parts (has_place l b) (not (b == p)) e).0 in
        ap (λ ks. ks ++ list_to b after) h.sent ∙ append_assoc (j.sent b) h.pushed (list_to b after) ∙ ap (λ ks. j.sent b ++ ks) h.waits
        ∙ sym (append_assoc (j.sent b) (list_to b before) (puts_to b (map as_sent os))))
    by false e = away

-- what was received
pub comes-in : (l : Layout) (p a : ℕ) (popped : Option (ℕ × Packet)) (j k : Links) → k.received a ≡ j.received a ++ from_place a (option_to_list popped)
    → received_in l p k a ≡ received_in l p j a ++ held_in l p popped a
comes-in l p a popped j k e = by (is_other l p a)
  where
    by : (c : Bool) → cond c (k.received a) [] ≡ cond c (j.received a) [] ++ cond c (from_place a (option_to_list popped)) []
    by true = e
    by false = refl

-- what is in hand, when a packet was received and one was taken
pub in-hand : (l : Layout) (p a : ℕ) (i : Input Command Packet) (before popped after : Option (ℕ × Packet)) → ComesFrom l p i
    → option_to_list (taken i) ++ option_to_list after ≡ option_to_list before ++ option_to_list popped
    → held_in l p before a ++ held_in l p popped a ≡ packet_from a i ++ held_in l p after a
in-hand l p a i before popped after from e = by (is_other l p a) refl
  where
    by : (c : Bool) → is_other l p a ≡ c
        → cond c (from_place a (option_to_list before)) [] ++ cond c (from_place a (option_to_list popped)) [] ≡ packet_from a i ++ cond c (from_place a (option_to_list after)) []
    by true t =
        sym (from_place-append a (option_to_list before) (option_to_list popped)) ∙ ap (from_place a) (sym e)
        ∙ from_place-append a (option_to_list (taken i)) (option_to_list after) ∙ ap (λ ks. ks ++ from_place a (option_to_list after)) (sym (packet-taken a i))
    by false f = sym (append-nil (packet_from a i) ∙ none-elsewhere l p a i from f)

-- the same where none was taken
pub in-hand-more : (l : Layout) (p a : ℕ) (before popped after : Option (ℕ × Packet)) → option_to_list after ≡ option_to_list before ++ option_to_list popped
    → held_in l p after a ≡ held_in l p before a ++ held_in l p popped a
in-hand-more l p a before popped after e = by (is_other l p a)
  where
    by : (c : Bool) → cond c (from_place a (option_to_list after)) [] ≡ cond c (from_place a (option_to_list before)) [] ++ cond c (from_place a (option_to_list popped)) []
    by true = ap (from_place a) e ∙ from_place-append a (option_to_list before) (option_to_list popped)
    by false = refl
