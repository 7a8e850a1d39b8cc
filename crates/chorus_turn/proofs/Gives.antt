-- Giving a place back keeps the rule of turns.
use Rattle.std.proofs.Common.{◌≡◌, ◌≢◌, ℕ, ◌+◌, ◌-◌, ◌<◌, ◌≤◌, true, List, [], ◌∷◌, ◌++◌, get_or, set, length, sym, refl, ap, ◌∙◌, subst, arith, length-set, get_or-set_other, get_or-set_same}
use mathlib.Core.Option.{none, some}
use mathlib.Core.Logic.{dite}
use native.Mathlib.Decide.{ℕ_discrete}
use lib.ListN.{get_elem?}
use Rattle.std.specs.Prelude.{Option, Some, None}
use Rattle.atomic_table.specs.Table.{State, Me, gives, step, stepped, Allows}
use Rattle.atomic_table.proofs.Lists.{set_here, set_else}
use Rattle.chorus_turn.specs.declared.knowledge.Remarked.{Remarked}
use Rattle.chorus_turn.specs.declared.knowledge.Placed.{Placed}
use Rattle.chorus_turn.specs.declared.knowledge.Note.{Note}
use Rattle.chorus_turn.specs.declared.view.View.{View}
use Rattle.chorus_turn.specs.Lists.{StartsWith, list_at, list_put, times}
use Rattle.chorus_turn.specs.Journals.{IsBy, with_place}
use Rattle.chorus_turn.specs.Knowing.{seats_of}
use Rattle.chorus_turn.specs.Rule.{word_of, claims, Grasp, IsNumbered, Turned, given_view, GivesBack, give_then}
use Rattle.chorus_turn.proofs.Counts.{one_within, one-same}
use Rattle.chorus_turn.proofs.Fronts.{put_here, put_elsewhere, starts_itself}
use Rattle.chorus_turn.proofs.Growth.{work_after, log_after, work_here, work_elsewhere, log_here, log_elsewhere, log_grows, made_after}
use Rattle.chorus_turn.proofs.Parts.{notes_apart}
use Rattle.chorus_turn.proofs.Views.{at_word, times_claims, each_set, still_held, seat_below, seat_apart, seats_differ}
use Rattle.chorus_turn.proofs.Numbers.{numbered_same}

module _ {S : Type 0} where
  abbrev pub value_or : S → Option S → S
  value_or d (Some y) = y
  value_or d None = d

  -- the value that a seat holds, where it holds one slot
  abbrev pub held_value : S → List (ℕ × Option S) → S
  held_value d [] = d
  held_value d (p ∷ ps) = value_or d p.1

module _ {R : Type 0} where
  -- of a live view that claims its number once, no number drawn and no note has it
  claims_once : (v : View R) → v.live ≡ true → times v.knows.seat (claims v) ≤ 1 → (times v.knows.seat v.drawn ≡ 0) × (times v.knows.seat (seats_of v.knows.notes) ≡ 0)
  claims_once v live few = let t = times_claims v.knows.seat v live in let h = one-same v.knows.seat v.knows.seat refl in (omega arith, omega arith)

  claims_none : (h : ℕ) (v : View R) → v.live ≡ true → times h (claims v) ≡ 0 → (times h v.drawn ≡ 0) × (times h (seats_of v.knows.notes) ≡ 0)
  claims_none h v live unclaimed = let t = times_claims h v live in (omega arith, omega arith)

  -- the place's list begins with itself, and the other places' with what they began with
  seen_after : (p : ℕ) (row : List (List (Remarked R))) (now : List (Remarked R)) (log : ℕ → List (Remarked R)) → log p ≡ now → ((i : ℕ) → StartsWith (log i) (list_at i row)) → (i : ℕ) → StartsWith (log i) (list_at i (list_put p now row))
  seen_after p row now log is was i = dite (ℕ_discrete i p)
      (λ e. subst (λ (n : ℕ). StartsWith (log n) (list_at n (list_put p now row))) (sym e) (subst (λ (l : List (Remarked R)). StartsWith (log p) l) (is ∙ sym (put_here p now row)) (starts_itself (log p))))
      (λ apart. subst (λ (l : List (Remarked R)). StartsWith (log i) l) (sym (put_elsewhere p i now row apart)) (was i))

module _ {S R : Type 0} (journal : S → List (Remarked R) → Type 0) (marked : ℕ → S → Type 0) where
  given : (s : State (Option S) (View R)) (r : Turned journal marked s) (id k : ℕ) (v : View R) (x : S) (news : List (Remarked R)) → get_elem? s.views id ≡ some v → v.live ≡ true → v.holding ≡ k + 1 → k < length s.homes → IsBy v.knows.seat news → journal x (v.took ++ news) → marked (k + 1) x
      → Turned journal marked (stepped s (word_of (k + 1)) 0 id ((k, Some x) ∷ []) (given_view (k + 1) news v) gives)
  given s r id k v x news at live held inside all fit has = let w : View R = given_view (k + 1) news v in let h : ℕ = v.knows.seat in let mine = r.each id v at live in let hold = mine.holds k held in
      let wide = r.wide in
      let work : ℕ → List (Placed R) = work_after h (k + 1) v.knows.seen news r.work in
      let log : ℕ → List (Remarked R) = log_after h (k + 1) v.knows.seen news r.log in
      let same_work : (q : ℕ) → q ≢ h → work q ≡ r.work q = work_elsewhere h (k + 1) v.knows.seen news r.work in
      let same_log : (i : ℕ) → i ≢ k + 1 → log i ≡ r.log i = log_elsewhere h (k + 1) v.knows.seen news r.log in
      let grows : (i : ℕ) (front : List (Remarked R)) → StartsWith (r.log i) front → StartsWith (log i) front = log_grows h (k + 1) v.knows.seen news r.log in
      let now : log (k + 1) ≡ v.took ++ news = log_here h (k + 1) v.knows.seen news r.log ∙ ap (λ l. l ++ news) (sym hold.1) in
      let below = seat_below (get_or s.words 0 0) s.views r.numbered id v at live in
      let ws : List ℕ = set s.words (word_of (k + 1)) 0 in
      let first : get_or ws 0 0 ≡ get_or s.words 0 0 = get_or-set_other s.words (word_of (k + 1)) 0 0 0 (λ e. omega arith) in
      let other : (i : ℕ) → i ≢ k → get_or ws (word_of (i + 1)) 0 ≡ get_or s.words (word_of (i + 1)) 0 = λ i apart. get_or-set_other s.words (word_of (k + 1)) (word_of (i + 1)) 0 0 (λ e. apart (omega arith)) in
      let here : get_or ws (word_of (k + 1)) 0 ≡ 0 = get_or-set_same s.words (word_of (k + 1)) 0 0 (omega arith) in
      let long = length-set s.homes k (some (Some x)) in
      let own_once = claims_once v live (let b = r.numbered.once h in let c = one_within (λ (y : View R). times h (claims y)) s.views id v at in omega arith) in record {
        work = work;
        log = log;
        wide = omega (arith, length-set s.words (word_of (k + 1)) 0, long);
        numbered = subst (λ (n : ℕ). IsNumbered n (set s.views id w)) (sym first) (numbered_same (get_or s.words 0 0) s.views id v w r.numbered at refl refl);
        each = each_set (λ _ y. y.live ≡ true → Grasp work log ws y) s.views id w
            (λ _. record {
              sees = seen_after (k + 1) v.knows.seen (v.took ++ news) log now (λ i. grows i (list_at i v.knows.seen) (mine.sees i));
              saw = λ i. grows i (list_at i v.former) (mine.saw i);
              heard = λ i. grows i (list_at i v.heard) (mine.heard i);
              own = ap (λ l. l ++ with_place (k + 1) v.knows.seen news) mine.own ∙ sym (work_here h (k + 1) v.knows.seen news r.work);
              noted = notes_apart h (λ (n : Note R). n.mine ≡ r.work n.seat) (λ (n : Note R). n.mine ≡ work n.seat) v.knows.notes own_once.1 (λ n apart e. e ∙ sym (same_work n.seat apart)) mine.noted;
              unused = λ q there. same_work q (λ e. let z = own_once.0 in let t = ap (λ (n : ℕ). times n v.drawn) e in omega arith) ∙ mine.unused q there;
              counts = λ e. mine.counts e ∙ sym first;
              plain = mine.plain;
              holds = λ i e. absurd (omega arith);
            })
            (λ j y apart e alive. let b = r.each j y e alive in let none_there = claims_none h y alive (seat_apart (get_or s.words 0 0) s.views r.numbered id j v y at live e apart) in let differ = seats_differ (get_or s.words 0 0) s.views r.numbered id j v y at live e alive apart in record {
              sees = λ i. grows i (list_at i y.knows.seen) (b.sees i);
              saw = λ i. grows i (list_at i y.former) (b.saw i);
              heard = λ i. grows i (list_at i y.heard) (b.heard i);
              own = b.own ∙ sym (same_work y.knows.seat differ);
              noted = notes_apart h (λ (m : Note R). m.mine ≡ r.work m.seat) (λ (m : Note R). m.mine ≡ work m.seat) y.knows.notes none_there.1 (λ m ne e. e ∙ sym (same_work m.seat ne)) b.noted;
              unused = λ q there. same_work q (λ e. let z = none_there.0 in let t = ap (λ (n : ℕ). times n y.drawn) e in omega arith) ∙ b.unused q there;
              counts = λ e. b.counts e ∙ sym first;
              plain = b.plain;
              holds = λ i e. let p = b.holds i e in let ne : i ≢ k = λ same. let t = ap (λ (n : ℕ). get_or s.words (word_of (n + 1)) 0) same in let a = p.0 in let c = hold.0 in differ (omega arith) in (other i ne ∙ p.0, p.1 ∙ sym (same_log (i + 1) (λ e. ne (omega arith))));
            });
        made = made_after h (k + 1) v.knows.seen news r.work r.log r.made all;
        unmade = λ q le. same_work q (λ e. omega arith) ∙ r.unmade q (omega arith);
        home = λ i b z. dite (ℕ_discrete i k)
            (λ e. (x, ap (λ (n : ℕ). get_elem? (set s.homes k (some (Some x))) n) e ∙ set_here s.homes k (some (Some x)) inside, subst (λ (l : List (Remarked R)). journal x l) (sym (ap (λ (n : ℕ). log (n + 1)) e ∙ now)) fit, subst (λ (n : ℕ). marked (n + 1) x) (sym e) has))
            (λ ne. let p = r.home i (omega arith) (sym (other i ne) ∙ z) in (p.0, set_else s.homes k i (some (Some x)) ne ∙ p.1, subst (λ (l : List (Remarked R)). journal p.0 l) (sym (same_log (i + 1) (λ e. ne (omega arith)))) p.2, p.3));
        out = λ i b z. let ne : i ≢ k = λ e. z (ap (λ (n : ℕ). get_or ws (word_of (n + 1)) 0) e ∙ here) in still_held s.views id (i + 1) v w at (λ e. ne (omega arith)) (r.out i (omega arith) (λ e. z (other i ne ∙ e)));
      }

  gives_turn : (notes : List (Remarked R) → Type 0) (slots id k : ℕ) (v : View R) (x : S) (news : List (Remarked R)) → v.live ≡ true → v.holding ≡ k + 1 → k < slots → IsBy v.knows.seat news → journal x (v.took ++ news) → notes news → marked (k + 1) x
      → Allows (Turned journal marked) slots id (v, (k, Some x) ∷ []) (word_of (k + 1)) (λ _. 0) (λ _. give_then journal notes (step slots (word_of (k + 1)) 0 0 none) (v, (k, Some x) ∷ []) 0)
  gives_turn notes slots id k v x news live held inside all fit noted has s r size at small = (
    given_view (k + 1) news v,
    gives,
    tt,
    given s r id k v x news at live held (omega arith) all fit has,
    at_word k (λ (q : ℕ). GivesBack journal notes q (v, (k, Some x) ∷ []) (given_view (k + 1) news v, []))
        (λ y e. (news, all, subst (λ (z : S). journal z (v.took ++ news)) (ap (held_value x) e) fit, noted, refl)),
  )

  pub gives_at : (notes : List (Remarked R) → Type 0) (slots id p : ℕ) (me : Me (Option S) (View R)) (x : S) (news : List (Remarked R)) → me.1 ≡ (p - 1, Some x) ∷ [] → me.0.live ≡ true → me.0.holding ≡ p → 1 ≤ p → p ≤ slots → IsBy me.0.knows.seat news → journal x (me.0.took ++ news) → notes news → marked p x
      → Allows (Turned journal marked) slots id me (word_of p) (λ _. 0) (λ _. give_then journal notes (step slots (word_of p) 0 0 none) me 0)
  gives_at notes slots id p me x news out live held from to all fit noted has = let up : (p - 1) + 1 ≡ p = omega arith in
      subst (λ (z : ℕ × List (ℕ × Option S)). Allows (Turned journal marked) slots id (me.0, z.1) (word_of z.0) (λ _. 0) (λ _. give_then journal notes (step slots (word_of z.0) 0 0 none) (me.0, z.1) 0)) (λ i. (up i, sym out i))
      (gives_turn notes slots id (p - 1) me.0 x news live (held ∙ sym up) (omega arith) all fit noted (subst (λ (n : ℕ). marked n x) (sym up) has))
