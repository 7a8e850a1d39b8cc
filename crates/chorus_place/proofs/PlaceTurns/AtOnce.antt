-- A message that is decided at once goes as one that waited for nothing.
-- q is its port, m the message, t the turn before its post.
use Rattle.std.proofs.Common.{◌≡◌, ℕ, max, ◌+◌, ◌==◌, ◌&&◌, Bool, true, false, not, cond, None, Some, List, [], ◌∷◌, ◌++◌, map, refl, sym, ◌∙◌, ap, arith}
use Rattle.chorus_ui.specs.declared.ui.Ui.{Ui}
use Rattle.chorus_ui.specs.Layout.{has_site}
use Rattle.chorus_entry.specs.declared.id.MsgId.{MsgId}
use Rattle.chorus_entry.specs.declared.dest.Dest.{Dest}
use Rattle.chorus_entry.specs.declared.message.Message.{Message}
use Rattle.chorus_entry.specs.declared.answer.Answer.{Answer}
use Rattle.chorus_entry.specs.declared.answer.Answer.TheVariants as A
use Rattle.chorus_entry.specs.declared.packet.Cargo.{Cargo}
use Rattle.chorus_entry.specs.Answer.{is_final}
use Rattle.chorus_world.specs.declared.place.Location.{Location}
use Rattle.chorus_ports.specs.Table.{find}
use Rattle.place_unsettled.specs.declared.wait.Key.{Key}
use Rattle.place_unsettled.specs.declared.wait.Wait.{Wait}
use Rattle.place_unsettled.specs.Queues.{Queue, empty_queue, same_key, changed, passed, with_last}
use Rattle.law_machine.specs.PlaceState.{Turn, greatest_clock, next_entry, packed}
use Rattle.law_machine.specs.Deciding.{decide, decision, records_after}
use Rattle.law_machine.specs.Trying.{report, settles_here, verdict_here, tries, goes_on, goes_unless, go}
use Rattle.law_machine.specs.Doing.{direct, post}
use Rattle.chorus_place.specs.PlaceTables.Groups.{posted_alone}
use Rattle.chorus_place.specs.PlaceTables.Steps.{posted}
use Rattle.chorus_place.proofs.PlaceTables.States.{same_turn}
use Rattle.chorus_place.proofs.PlaceTables.Deciding.{same-answer}
use Rattle.chorus_place.proofs.PlaceTables.Reports.{at-key}
use Rattle.chorus_place.specs.PlaceTables.AtOnce.{IsFree, decided}

same-number : (n : ℕ) → (n == n) ≡ true
same-number n = grind arith

-- it is reported nowhere
no-report : (p : ℕ) (x : MsgId) (a : Answer) → report p p x a ≡ []
no-report p x a = ap (λ b. cond (is_final a && not b) ((p, Cargo.Report x a) ∷ []) []) (same-number p) ∙ none (is_final a)
  where
    none : (b : Bool) → cond {A = List (ℕ × Cargo)} (b && false) ((p, Cargo.Report x a) ∷ []) [] ≡ []
    none true = refl
    none false = refl

-- what it joins and leaves again is as before
back : (k l : Key) (w : Wait) (qs : Key → Queue) → qs k ≡ empty_queue → (same_key k l ≡ true → qs k ≡ qs l)
    → qs l ≡ changed k passed (changed k (with_last w) qs) l
back k l w qs none alike = by (same_key k l) alike
  where
    by : (b : Bool) → (b ≡ true → qs k ≡ qs l) → qs l ≡ cond b (passed (changed k (with_last w) qs k)) (cond b (with_last w (qs k)) (qs l))
    by true same = sym (same refl) ∙ none ∙ sym (ap passed (at-key k (with_last w) qs ∙ ap (with_last w) none))
    by false same = refl

-- its verdict
verdict : (q : Ui) (m : Message) (p hop : ℕ) (u : Turn) → has_site u.place.layout q.site ≡ true → u.place.number ≡ p
    → verdict_here (direct q) (post m p) (record { to = p; hop = hop }) u.place ≡ Some (decide m q None hop u.place)
verdict q m p hop u site e =
    ap (λ b. cond (not b) (Some A.NoPort) (cond (p == u.place.number) (Some (decide m q None hop u.place)) None)) site
    ∙ ap (λ b. cond b (Some (decide m q None hop u.place)) None) (ap (λ n. p == n) e ∙ same-number p)

pub at-once : (q : Ui) (m : Message) (hop : ℕ) (t : Turn) → IsFree q hop t.place
    → ((l : Key) → same_key (direct q) l ≡ true → t.place.waiting (direct q) ≡ t.place.waiting l)
    → decided m q hop (posted_alone m (Dest.Port q) t) ≡ go (direct q) (posted m q t)
at-once q m hop t free alike =
    same ∙ sym (waits ∙ located ∙ settled)
  where
    k : Key
    k = direct q

    p : ℕ
    p = t.place.number

    w : Wait
    w = post m p

    u : Turn
    u = posted m q t

    v : Turn
    v = posted_alone m (Dest.Port q) t

    a : Answer
    a = decide m q None hop u.place

    loc : Location
    loc = record { to = p; hop = hop }

    waits : go k u ≡ goes_on k (w ∷ []) u
    waits =
        ap (λ (x : Queue). goes_unless k x.tried x.waits u) (at-key k (with_last w) t.place.waiting ∙ ap (with_last w) free.queue)

    located : goes_on k (w ∷ []) u ≡ tries k w loc (goes_on k []) (verdict_here k w loc u.place) u
    located = ap (λ x. tries k w x (goes_on k []) (verdict_here k w x u.place) u) free.here

    settled : tries k w loc (goes_on k []) (verdict_here k w loc u.place) u ≡ settles_here k w hop a u
    settled = ap (λ o. tries k w loc (goes_on k []) o u) (verdict q m p hop u free.site refl)

    alike-answer : decide m q None hop v.place ≡ a
    alike-answer = same-answer m q None hop v.place u.place (find q t.place.ports) refl refl refl

    same : decided m q hop v ≡ settles_here k w hop a u
    same =
        same_turn (decided m q hop v) (settles_here k w hop a u) refl refl
        (ap (λ x. next_entry (decision m.id q hop x) v ∷ v.place.journal) alike-answer)
        (ap (λ x. records_after x m q t.place.ports) alike-answer)
        (λ r. refl)
        (λ l. back k l w t.place.waiting free.queue (alike l))
        (λ x. refl) refl
        (ap (λ loads. u.puts ++ map (packed u) loads) (sym (no-report p m.id a)))

-- the clock of the post
pub posted-alone-clock : (m : Message) (d : Dest) (t u : Turn) → u ≡ posted_alone m d t → greatest_clock u ≡ greatest_clock t + 1
posted-alone-clock m d t u e = ap greatest_clock e ∙ max-same (greatest_clock t + 1)
  where
    max-same : (n : ℕ) → max n n ≡ n
    max-same n = omega arith
