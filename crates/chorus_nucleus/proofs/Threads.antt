-- What a pass keeps in its calls.
-- v and u are what it knows before and after, w and x its caller before and after, p the place.
use Rattle.std.proofs.Common.{ℕ, ◌≡◌, ◌<◌, ◌≤◌, ◌+◌, ◌==◌, max, Bool, true, false, ◌&&◌, List, [], ◌∷◌, ◌++◌, refl, sym, ◌∙◌, ap, subst, arith}
use Rattle.std.specs.List.{All}
use Rattle.std.proofs.lemmas.Bool.{and_from, eq-eqb}
use Rattle.std.proofs.lemmas.List.{append-nil}
use Rattle.std.proofs.lemmas.List.Elements.{All-nil, All-cons, All-append, All-weaker}
use Rattle.chorus_ui.specs.declared.layout.Layout.{Layout}
use Rattle.chorus_ui.specs.declared.ui.Ui.{Ui}
use Rattle.chorus_ui.specs.Layout.{places, has_actor}
use Rattle.chorus_entry.specs.declared.command.Command.{Command}
use Rattle.chorus_entry.specs.declared.packet.Packet.{Packet}
use Rattle.chorus_ui.specs.NameKind.{is_actor}
use Rattle.chorus_calls.specs.Callers.{Seated, new_caller, raised}
use Rattle.law_machine.specs.PlaceState.{PlaceState}
use Rattle.law_machine.specs.PlaceMachine.{begun, begun_by}
use Rattle.chorus_place.specs.GivenPosts.{GaveWithinPosts}
use Rattle.chorus_place.proofs.GivenPosts.{act-within, work-within}
use Rattle.chorus_turn.specs.declared.knowledge.Remarked.{Remarked}
use Rattle.chorus_turn.specs.declared.knowledge.Placed.{Placed}
use Rattle.chorus_turn.specs.declared.knowledge.Knowledge.{Knowledge}
use Rattle.chorus_turn.specs.declared.knowledge.Note.{Note}
use Rattle.chorus_turn.specs.Journals.{with_place}
use Rattle.chorus_turn.specs.Lists.{StartsWith, StartsWithBoth}
use Rattle.chorus_turn.proofs.Fronts.{list_at-nil}
use Rattle.chorus_turn.specs.Knowing.{seen_at, after_turn, after_refusal, after_draw, newcomer, after_retirement, opening_knowledge, note_of}
use Rattle.law_history.specs.declared.turns.Input.{Input}
use Rattle.law_history.specs.PlaceTurns.{turn, machine}
use Rattle.law_history.proofs.Appending.{turns-append}
use Rattle.law_closing.specs.Remarks.{remarked}
use Rattle.law_closing.specs.Behind.{HasSeenBelow, StandsBehind}
use Rattle.law_closing.specs.Growth.{noted}
use Rattle.law_closing.specs.Places.{PlaceNote, is_new}
use Rattle.law_closing.specs.Closing.{IsPlace, IsThread}
use Rattle.law_closing.proofs.Growth.{turns-keep-passes}
use Rattle.chorus_nucleus.specs.SiteTurns.Turning.{IsNews, HasSeenMore}
use Rattle.chorus_nucleus.specs.Passes.{IsCallerOf}
use Rattle.chorus_nucleus.proofs.Behind.{AreClocked, more-itself, more-raised, more-more, kept-behind, seen-turned, behind-turned, seen-looked, behind-looked, seen-joined, behind-joined}

within : (i : Input Command Packet) (s : PlaceState) (w : Seated) → GaveWithinPosts w → GaveWithinPosts (turn i s w).caller
within (Input.Command c) s w h = act-within c (begun s w) h
within (Input.Packet a k) s w h = work-within k (begun_by s w k) h

abbrev Thread : Layout → ℕ → List (Placed PlaceNote) → Type 0
Thread l q mine = IsThread (machine l) (is_new l) (places l) q mine

thread-same : (l : Layout) (q : ℕ) (mine more : List (Placed PlaceNote)) (t : Thread l q mine) → mine ≡ more → (u : Thread l q more) × (u.last ≡ t.last)
thread-same l q mine more t e = subst (λ ms. (u : Thread l q ms) × (u.last ≡ t.last)) e (t, refl)

-- one turn more
pub caller-turned : (l : Layout) (p : ℕ) (i : Input Command Packet) (s : PlaceState) (v : Knowledge PlaceNote) (w x : Seated) (found news : List (Remarked PlaceNote))
    → s.layout ≡ l → IsPlace (places l) p → IsCallerOf l v w → (n : IsNews i s w x news) → StartsWith found (seen_at p v) → w.last < n.entry.clock → AreClocked found x n.entry n.later
    → IsCallerOf l (after_turn p found news v) x
caller-turned l p i s v w x found news layout is h n starts above c =
    let app = turns-append s.layout s.number i s w n.may in
    let r : PlaceNote = noted (machine s.layout) s.number i s w in
    let more = turns-keep-passes PlaceState Seated Command Packet (machine l) (is_new l) (places l) v.seat p v.mine h.thread v.seen r n.entry n.later is h.last in
    let all : v.mine ++ with_place p v.seen (remarked r (n.entry ∷ n.later)) ≡ v.mine ++ with_place p v.seen news = ap (λ ns. v.mine ++ with_place p v.seen ns) (sym n.is) in
    let new = thread-same l v.seat (v.mine ++ with_place p v.seen (remarked r (n.entry ∷ n.later))) (v.mine ++ with_place p v.seen news) more.0 all in
    let actor : x.actor ≡ w.actor = ap (λ (y : Seated). y.actor) n.after ∙ app.actor in
    let end : new.0.last ≡ x = new.1 ∙ more.1 ∙ sym n.after in
    record {
      seat = ap (λ (y : Seated). y.seat) n.after ∙ app.seat ∙ h.seat;
      kind = ap (λ (a : Ui). is_actor a) actor ∙ h.kind;
      actor = ap (λ (a : Ui). has_actor l a) actor ∙ h.actor;
      given = subst GaveWithinPosts (sym n.after) (within i s w h.given);
      thread = new.0;
      last = subst (λ y. HasSeenMore y x) (sym end) (more-itself x);
      threads = h.threads;
      seen = seen-turned p v w x found news r n.entry n.later h.seen above c n.is;
      behind = behind-turned p v w x found news r n.entry n.later h.seen above c n.is starts h.behind;
    }

-- no news
caller-shown : (l : Layout) (p clock : ℕ) (v : Knowledge PlaceNote) (w : Seated) (found : List (Remarked PlaceNote))
    → IsCallerOf l v w → StartsWith found (seen_at p v) → All (λ (r : Remarked PlaceNote). r.entry.clock ≤ clock) found → IsCallerOf l (after_turn p found [] v) (raised clock w)
caller-shown l p clock v w found h starts upto =
    let new = thread-same l v.seat v.mine (v.mine ++ []) h.thread (sym (append-nil v.mine)) in
    record {
      seat = h.seat;
      kind = h.kind;
      actor = h.actor;
      given = h.given;
      thread = new.0;
      last = subst (λ y. HasSeenMore y (raised clock w)) (sym new.1) (more-more h.thread.last w (raised clock w) h.last (more-raised clock w));
      threads = h.threads;
      seen = seen-looked p v w clock found h.seen upto;
      behind = behind-looked p v found starts h.behind;
    }

pub caller-looked : (l : Layout) (p clock : ℕ) (v : Knowledge PlaceNote) (w x : Seated) (found news : List (Remarked PlaceNote))
    → IsCallerOf l v w → StartsWith found (seen_at p v) → All (λ (r : Remarked PlaceNote). r.entry.clock ≤ clock) found → news ≡ [] → x ≡ raised clock w → IsCallerOf l (after_turn p found news v) x
caller-looked l p clock v w x found news h starts upto none shown =
    subst (λ ns. IsCallerOf l (after_turn p found ns v) x) (sym none) (subst (IsCallerOf l (after_turn p found [] v)) (sym shown) (caller-shown l p clock v w found h starts upto))

-- an entry was shown, and nothing else changed
pub caller-raised : (l : Layout) (clock : ℕ) (v : Knowledge PlaceNote) (w : Seated) → IsCallerOf l v w → IsCallerOf l v (raised clock w)
caller-raised l clock v w h = record {
  seat = h.seat;
  kind = h.kind;
  actor = h.actor;
  given = h.given;
  thread = h.thread;
  last = more-more h.thread.last w (raised clock w) h.last (more-raised clock w);
  threads = h.threads;
  seen = λ p. All-weaker (λ (r : Remarked PlaceNote). r.entry.clock < w.last + 1) (λ (r : Remarked PlaceNote). r.entry.clock < max w.last clock + 1) (λ r le. omega (arith, le)) (seen_at p v) (h.seen p);
  behind = h.behind;
}

-- another pass had the place
pub caller-refused : (l : Layout) (p by : ℕ) (v : Knowledge PlaceNote) (w : Seated) → IsCallerOf l v w → IsCallerOf l (after_refusal p by v) w
caller-refused l p by v w h =
    record { seat = h.seat; kind = h.kind; actor = h.actor; given = h.given; thread = h.thread; last = h.last; threads = h.threads; seen = h.seen; behind = kept-behind v _ refl refl refl h.behind }

-- a number was drawn
pub caller-drew : (l : Layout) (v : Knowledge PlaceNote) (w : Seated) → IsCallerOf l v w → IsCallerOf l (after_draw v) w
caller-drew l v w h =
    record { seat = h.seat; kind = h.kind; actor = h.actor; given = h.given; thread = h.thread; last = h.last; threads = h.threads; seen = h.seen; behind = kept-behind v _ refl refl refl h.behind }

-- a new caller
new-is : (l : Layout) (q : ℕ) (a : Ui) (last : ℕ) → is_actor a ≡ true → has_actor l a ≡ true → is_new l q (new_caller q a last) ≡ true
new-is l q a last kind actor =
    and_from ((q == q) && true && true && true && true && is_actor a) (has_actor l a)
    (and_from ((q == q) && true && true && true && true) (is_actor a) (by (q == q) (eq-eqb q q refl)) kind) actor
  where
    by : (b : Bool) → b ≡ true → b && true && true && true && true ≡ true
    by true h = refl
    by false h = h

module _ (l : Layout) (a : Ui) (last : ℕ) (kind : is_actor a ≡ true) (actor : has_actor l a ≡ true) where
  new-thread : (q : ℕ) → (t : Thread l q []) × (t.last ≡ new_caller q a last)
  new-thread q = (
    record {
      first = new_caller q a last;
      last = new_caller q a last;
      new = new-is l q a last kind actor;
      follows = refl;
      within = All-nil (λ (m : Placed PlaceNote). IsPlace (places l) m.place);
    },
    refl,
  )

  new-caller : (q : ℕ) (v : Knowledge PlaceNote) → v.seat ≡ q → v.mine ≡ [] → v.notes ≡ [] → HasSeenBelow (last + 1) v → IsCallerOf l v (new_caller q a last)
  new-caller q v seat mine notes seen =
      let t = subst (λ (n : ℕ). (t : Thread l n v.mine) × (t.last ≡ new_caller q a last)) (sym seat)
      (subst (λ (ms : List (Placed PlaceNote)). (t : Thread l q ms) × (t.last ≡ new_caller q a last)) (sym mine) (new-thread q)) in
      record {
        seat = sym seat;
        kind = kind;
        actor = actor;
        given = omega arith;
        thread = t.0;
        last = subst (λ y. HasSeenMore y (new_caller q a last)) (sym t.1) (more-itself (new_caller q a last));
        seen = seen;
        behind = record {
          own = subst (All (StandsBehind v)) (sym mine) (All-nil (StandsBehind v));
          noted = subst (All (λ (n : Note PlaceNote). All (StandsBehind v) n.mine)) (sym notes) (All-nil (λ (n : Note PlaceNote). All (StandsBehind v) n.mine));
        };
        threads = subst (All (λ (n : Note PlaceNote). Thread l n.seat n.mine)) (sym notes) (All-nil (λ (n : Note PlaceNote). Thread l n.seat n.mine));
      }

  pub caller-opens : (q : ℕ) (v : Knowledge PlaceNote) → v ≡ opening_knowledge → q ≡ 0 → IsCallerOf l v (new_caller q a last)
  caller-opens q v e zero = new-caller q v (ap (λ (u : Knowledge PlaceNote). u.seat) e ∙ sym zero) (ap (λ (u : Knowledge PlaceNote). u.mine) e) (ap (λ (u : Knowledge PlaceNote). u.notes) e)
      (λ p. subst (λ (u : Knowledge PlaceNote). All (λ (r : Remarked PlaceNote). r.entry.clock < last + 1) (seen_at p u)) (sym e) (subst (All (λ (r : Remarked PlaceNote). r.entry.clock < last + 1)) (sym (list_at-nil p)) (All-nil (λ (r : Remarked PlaceNote). r.entry.clock < last + 1))))

  -- it has seen what the keeper has seen, whose last clock it has
  pub caller-comes : (q : ℕ) (v u : Knowledge PlaceNote) → u ≡ newcomer v → q ≡ u.seat → HasSeenBelow (last + 1) v → IsCallerOf l u (new_caller q a last)
  caller-comes q v u e seat seen = new-caller q u (sym seat) (ap (λ (z : Knowledge PlaceNote). z.mine) e) (ap (λ (z : Knowledge PlaceNote). z.notes) e)
      (λ p. subst (λ (z : Knowledge PlaceNote). All (λ (r : Remarked PlaceNote). r.entry.clock < last + 1) (seen_at p z)) (sym e) (seen p))

-- a pass was retired into it, and its caller was shown what that one had seen
pub caller-joined : (l : Layout) (v u : Knowledge PlaceNote) (w x : Seated) → StartsWithBoth (after_retirement v u).seen v.seen u.seen → IsCallerOf l v w → IsCallerOf l u x → IsCallerOf l (after_retirement v u) (raised x.last w)
caller-joined l v u w x sees h k =
    let Own : Note PlaceNote → Type 0 = λ n. Thread l n.seat n.mine in
    record {
      seat = h.seat;
      kind = h.kind;
      actor = h.actor;
      given = h.given;
      thread = h.thread;
      last = more-more h.thread.last w (raised x.last w) h.last (more-raised x.last w);
      threads = All-append Own v.notes (note_of u ∷ u.notes) h.threads (All-cons Own (note_of u) u.notes k.thread k.threads);
      seen = seen-joined v u w x h.seen k.seen;
      behind = behind-joined v u sees h.behind k.behind;
    }
