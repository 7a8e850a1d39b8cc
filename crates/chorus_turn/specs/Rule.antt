-- The rule of turns, which holds between any two steps, and what each kind of step tells.
use Rattle.std.specs.Prelude.{◌≡◌, ◌≢◌, ℕ, ◌+◌, ◌-◌, ◌*◌, ◌<◌, ◌≤◌, Bool, true, false, Option, Some, List, [], ◌∷◌, ◌++◌, length, slice_index}
use Rattle.std.specs.List.{All}
use mathlib.Core.Option.{some}
use lib.ListN.{get_elem?}
use Rattle.atomic_table.specs.Table.{State, Me, Step}
use Rattle.atomic_table.specs.declared.badge.Badge.{Badge}
use Rattle.chorus_turn.specs.declared.knowledge.Remarked.{Remarked}
use Rattle.chorus_turn.specs.declared.knowledge.Placed.{Placed}
use Rattle.chorus_turn.specs.declared.knowledge.Note.{Note}
use Rattle.chorus_turn.specs.declared.knowledge.Knowledge.{Knowledge}
use Rattle.chorus_turn.specs.declared.view.View.{View}
use Rattle.chorus_turn.specs.Lists.{StartsWith, StartsWithBoth, list_at, all_longer, first_or, total, one, times}
use Rattle.chorus_turn.specs.Journals.{by_seat, IsBy, at_place}
use Rattle.chorus_turn.specs.Knowing.{limit, seats_of, opening_knowledge, after_draw, newcomer, after_refusal, after_turn, after_retirement, Shows}

-- Where the word of a place stands. A word has 8 bytes and a line of the cache 64, so no two places' words, nor word 0 and
-- one of them, are on one line, for which threads at different places would wait.
abbrev pub word_of : ℕ → ℕ
word_of place = 8 * place

-- what a view claims while it is live
abbrev pub if_live : Bool → List ℕ → List ℕ
if_live true ns = ns
if_live false ns = []

abbrev pub one_if_live : Bool → Bool → ℕ
one_if_live true keeper = one keeper
one_if_live false keeper = 0

module _ {R : Type 0} where
  -- the numbers that stand in a view: its own, the one that it has drawn and not yet given away, and those in its notes
  abbrev pub claims : View R → List ℕ
  claims v = if_live v.live (v.knows.seat ∷ (v.drawn ++ seats_of v.knows.notes))

  abbrev pub keepers : View R → ℕ
  keepers v = one_if_live v.live v.knows.keeper

  -- Of the live views, where n numbers are drawn: each of these is claimed once, and no other; at most one is the
  -- keeper.
  pub record IsNumbered (n : ℕ) (views : List (View R)) : Type 0 where
    pub few : n ≤ limit
    pub once : (q : ℕ) → total (λ (v : View R). times q (claims v)) views ≤ 1
    pub every : (q : ℕ) → q < n → 1 ≤ total (λ (v : View R). times q (claims v)) views
    pub beyond : (q : ℕ) → n ≤ q → total (λ (v : View R). times q (claims v)) views ≡ 0
    pub count : total (λ (v : View R). length (claims v)) views ≡ n
    pub one_keeper : total keepers views ≤ 1

  -- what holds of one live view, where `work` is what each number has made, and `log` the journal of each place
  pub record Grasp (work : ℕ → List (Placed R)) (log : ℕ → List (Remarked R)) (words : List ℕ)
      (v : View R) : Type 0 where
    pub sees : (p : ℕ) → StartsWith (log p) (list_at p v.knows.seen)
    pub saw : (p : ℕ) → StartsWith (log p) (list_at p v.former)
    pub heard : (p : ℕ) → StartsWith (log p) (list_at p v.heard)
    pub own : v.knows.mine ≡ work v.knows.seat
    pub noted : All (λ (n : Note R). n.mine ≡ work n.seat) v.knows.notes
    pub unused : (q : ℕ) → 0 < times q v.drawn → work q ≡ []
    pub counts : v.knows.keeper ≡ true → v.knows.made ≡ slice_index words 0
    pub plain : v.knows.keeper ≡ false → v.drawn ≡ []
    pub holds : (k : ℕ) → v.holding ≡ k + 1 → (slice_index words (word_of (k + 1)) ≡ v.knows.seat + 1)
        × (v.took ≡ log (k + 1))

  -- a live view holds the place
  abbrev pub IsHeld : ℕ → List (View R) → Type 0
  IsHeld p views = (j : ℕ) × (v : View R) × (get_elem? views j ≡ some v) × (v.live ≡ true) × (v.holding ≡ p)

  abbrev pub view_with : Knowledge R → View R
  view_with v = record { live = true; knows = v; drawn = []; former = []; heard = []; holding = 0; took = [] }

  abbrev pub first_view : View R
  first_view = view_with opening_knowledge

  -- of a pass that was retired
  abbrev pub spent_view : View R
  spent_view = record {
    live = false;
    knows = opening_knowledge;
    drawn = [];
    former = [];
    heard = [];
    holding = 0;
    took = [];
  }

  -- the view holds the place, where it found this journal
  abbrev pub holding_view : ℕ → List (Remarked R) → View R → View R
  holding_view p found v = record v { holding = p; took = found }

  abbrev pub refused_view : ℕ → ℕ → View R → View R
  refused_view p by v = record v { knows = after_refusal p by v.knows }

  -- the view has given the place back with these new entries
  abbrev pub given_view : ℕ → List (Remarked R) → View R → View R
  given_view p news v = record v { knows = after_turn p v.took news v.knows; holding = 0; took = [] }

  abbrev pub drawn_view : View R → View R
  drawn_view v = record v { knows = after_draw v.knows; drawn = v.knows.made ∷ [] }

  -- the drawn number is given away
  abbrev pub left_view : View R → View R
  left_view v = record v { drawn = [] }

  -- the new pass has the drawn number
  abbrev pub admitted_view : View R → View R
  admitted_view v = view_with record (newcomer v.knows) { seat = first_or 0 v.drawn }

  abbrev pub joined_view : View R → View R → View R
  joined_view v w = record v { knows = after_retirement v.knows w.knows; former = v.knows.seen; heard = w.knows.seen }

  abbrev pub settled_view : View R → View R
  settled_view v = record v { former = []; heard = [] }

  -- what a pass keeps of itself when the places are closed
  abbrev pub closing_view : View R → View R
  closing_view v = record v { live = false }

  -- a pass that is in no call
  abbrev pub IsAtRest : View R → Type 0
  IsAtRest v = (v.live ≡ true) × (v.holding ≡ 0) × (length v.drawn ≡ 0)

  abbrev pub view_of : Badge (View R) → View R
  view_of b = first_or spent_view b.views

  -- what the holder of the badge knows
  abbrev pub known_of : Badge (View R) → Knowledge R
  known_of b = (view_of b).knows

abbrev pub Seated : Type 0 → Type 0 → Type 0
Seated S R = Me (Option S) (View R)

module _ {S R : Type 0} where
  abbrev pub draw_then : Step (Option S) → Seated S R → ℕ → Seated S R → Type 0
  draw_then st m r m' = m' ≡ (drawn_view m.0, m.1)

  -- how many notes there are at most, and that what is seen begins with what each of the two passes had seen
  abbrev pub count_then : Step (Option S) → Seated S R → ℕ → Seated S R → Type 0
  count_then st m r m' = (m' ≡ (settled_view m.0, m.1)) × (length m.0.knows.notes + 1 ≤ limit)
      × (m.0.knows.seen ≡ all_longer m.0.former m.0.heard → StartsWithBoth m.0.knows.seen m.0.former m.0.heard)

module _ {S R : Type 0} (journal : S → List (Remarked R) → Type 0) (notes : List (Remarked R) → Type 0) where
  -- the place is given back: its state has the journal that was found, and then new entries of the pass
  abbrev pub GivesBack : ℕ → Seated S R → Seated S R → Type 0
  GivesBack p m m' = (x : S) → m.1 ≡ (p - 1, Some x) ∷ [] → (news : List (Remarked R)) × IsBy m.0.knows.seat news
      × journal x (m.0.took ++ news) × notes news × (m' ≡ (given_view p news m.0, []))

  -- the pass holds a state that it may give back
  abbrev pub HasToGive : (ℕ → S → Type 0) → ℕ → Seated S R → Type 0
  HasToGive marked p m = (x : S) × (news : List (Remarked R)) × (m.1 ≡ (p - 1, Some x) ∷ []) × IsBy m.0.knows.seat news
      × journal x (m.0.took ++ news) × notes news × marked p x

  abbrev pub give_then : Step (Option S) → Seated S R → ℕ → Seated S R → Type 0
  give_then st m r m' = (p : ℕ) → st.word ≡ word_of p → GivesBack p m m'

module _ {S R : Type 0} (journal : S → List (Remarked R) → Type 0) (marked : ℕ → S → Type 0) where
  -- Word 0 counts the numbers drawn. The word of a place is 0 where its state is at home, and else the holder's number
  -- and 1. The rule says nothing of the words between: they are 0 from the start, and no step is on them.
  pub record Turned (s : State (Option S) (View R)) : Type 0 where
    pub work : ℕ → List (Placed R)
    pub log : ℕ → List (Remarked R)
    pub wide : length s.words ≡ word_of (length s.homes) + 1
    pub numbered : IsNumbered (slice_index s.words 0) s.views
    pub each : (j : ℕ) (v : View R) → get_elem? s.views j ≡ some v → v.live ≡ true → Grasp work log s.words v
    pub made : (p q : ℕ) → by_seat q (log p) ≡ at_place p (work q)
    pub unmade : (q : ℕ) → slice_index s.words 0 ≤ q → work q ≡ []
    pub home : (k : ℕ) → k < length s.homes → slice_index s.words (word_of (k + 1)) ≡ 0 →
        (x : S) × (get_elem? s.homes k ≡ some (some (Some x))) × journal x (log (k + 1)) × marked (k + 1) x
    pub out : (k : ℕ) → k < length s.homes → slice_index s.words (word_of (k + 1)) ≢ 0 → IsHeld (k + 1) s.views

  -- the place was free, and the seat holds its state
  abbrev pub TakesOver : ℕ → View R → Seated S R → Type 0
  TakesOver p v m = (x : S) × (found : List (Remarked R)) × (m ≡ (holding_view p found v, (p - 1, Some x) ∷ []))
      × journal x found × marked p x × Shows p v.knows found

  -- another pass held the place
  abbrev pub Misses : ℕ → View R → ℕ → Seated S R → Type 0
  Misses p v by m = (m ≡ (refused_view p by v, [])) × (by < limit) × (by ≢ v.knows.seat)
      × (v.knows.keeper ≡ true → length v.knows.notes + 1 ≢ v.knows.made)

  abbrev pub take_then : Step (Option S) → Seated S R → ℕ → Seated S R → Type 0
  take_then st m r m' =
      (p : ℕ) → st.word ≡ word_of p → (r ≡ 0 → TakesOver p m.0 m') × (r ≢ 0 → Misses p m.0 (r - 1) m')
