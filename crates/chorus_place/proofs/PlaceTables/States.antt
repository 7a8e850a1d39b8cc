-- States and turns that answer alike are equal.
use Rattle.std.proofs.Common.{◌≡◌, ℕ, List, ◌∷◌, ◌++◌, map, ap, ◌∙◌}
use Rattle.chorus_ui.specs.declared.ui.Ui.{Ui}
use Rattle.chorus_entry.specs.declared.id.MsgId.{MsgId}
use Rattle.place_unsettled.specs.declared.wait.Key.{Key}
use Rattle.law_machine.specs.declared.outgoing.Outgoing.{Outgoing}
use Rattle.law_machine.specs.PlaceState.{PlaceState, Turn, packed_at, packed, next_clock}
use Rattle.chorus_place.specs.PlaceTables.Turns.{after_entry, next_entry}
use Rattle.chorus_place.specs.PlaceTables.Turns.{next_clock as next_clock-of}
use Rattle.place_journal.specs.Counting.{JournalState}
use Rattle.chorus_entry.specs.declared.act.Act.{Act}
use Rattle.chorus_entry.specs.declared.packet.Cargo.{Cargo}
use Rattle.chorus_calls.specs.Callers.{Seated}
use Rattle.chorus_world.specs.Places.{last_clock}

pub same_place : (s u : PlaceState) → s.layout ≡ u.layout → s.number ≡ u.number → s.journal ≡ u.journal → s.ports ≡ u.ports
    → ((q : Ui) → s.known q ≡ u.known q) → ((k : Key) → s.waiting k ≡ u.waiting k) → ((x : MsgId) → s.unheard x ≡ u.unheard x) → s ≡ u
same_place s u l n j p hk hw hu =
    λ i. record { layout = l i; number = n i; journal = j i; ports = p i; known = λ q. hk q i; waiting = λ k. hw k i; unheard = λ x. hu x i }

pub same_turn : (t u : Turn) → t.place.layout ≡ u.place.layout → t.place.number ≡ u.place.number → t.place.journal ≡ u.place.journal
    → t.place.ports ≡ u.place.ports → ((q : Ui) → t.place.known q ≡ u.place.known q) → ((k : Key) → t.place.waiting k ≡ u.place.waiting k)
    → ((x : MsgId) → t.place.unheard x ≡ u.place.unheard x) → t.caller ≡ u.caller → t.puts ≡ u.puts → t ≡ u
same_turn t u l n j p hk hw hu c o =
    λ i. record { place = same_place t.place u.place l n j p hk hw hu i; caller = c i; puts = o i }

-- with the packets that come with the entry
pub put-loads : (ps qs : List Outgoing) (t : Turn) (clock : ℕ) (loads given : List (ℕ × Cargo)) → qs ≡ ps ++ map (packed_at clock t.place.number) loads
    → clock ≡ next_clock t → loads ≡ given → qs ≡ ps ++ map (packed t) given
put-loads ps qs t clock loads given e f g = e ∙ (λ i. ps ++ map (packed_at (f i) t.place.number) (g i))

-- the entry, and its clock
pub said-as : (p : ℕ) (a b : Act) (c : Seated) (j more : JournalState) → more ≡ after_entry p a c j → a ≡ b → more.past ≡ next_entry p b c j ∷ j.past
said-as p a b c j more e f = ap (λ (x : JournalState). x.past) e ∙ ap (λ x. next_entry p x c j ∷ j.past) f

pub said-at : (p : ℕ) (a : Act) (c : Seated) (j more : JournalState) (clock : ℕ) → more ≡ after_entry p a c j → clock ≡ last_clock more.past → clock ≡ next_clock-of j c
said-at p a c j more clock e f = f ∙ ap (λ (x : JournalState). last_clock x.past) e
