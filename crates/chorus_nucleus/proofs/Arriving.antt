-- A pass comes, and one is retired.
-- n is the nucleus, old and into are passes before the call, after and fresh what takes turns for the old pass and the new one, p is the home place, r what was taken of its readers.
use Rattle.std.proofs.Common.{ℕ, ◌≡◌, ◌≤◌, ◌+◌, ◌==◌, ◌||◌, nat_lt, Bool, true, false, if◌then◌else◌, cond, List, [], ◌++◌, ◌∷◌, length, Option, Some, None, IfSome, refl, sym, ◌∙◌, ap, subst, inl, inr, arith}
use Rattle.std.specs.Global.{Vec}
use Rattle.std.specs.Option.{option_or}
use Rattle.std.proofs.lemmas.Bool.{false≢true, eq-eqb, ne_eqb, cases_eq}
use Rattle.std.proofs.lemmas.List.{length-append}
use Rattle.std.proofs.lemmas.List.Elements.{All-nil}
use Rattle.chorus_ui.specs.declared.layout.Layout.{Layout}
use Rattle.chorus_ui.specs.declared.ui.Ui.{Ui}
use Rattle.chorus_ui.specs.Layout.{places, has_actor, creation_place}
use Rattle.chorus_ui.specs.NameKind.{is_actor}
use Rattle.chorus_entry.specs.declared.packet.Packet.{Packet}
use Rattle.chorus_calls.specs.Callers.{Seated, new_caller, raised}
use Rattle.chorus_ruled_ends.specs.Ruled.{Ruled}
use Rattle.chorus_board.specs.declared.reader.BoardReader.{BoardReader}
use Rattle.chorus_board.specs.declared.start.TheConstants.{READERS_PER_BOARD}
use Rattle.chorus_turn.specs.declared.pass.Pass as turner
use Rattle.chorus_turn.specs.declared.knowledge.Knowledge.{Knowledge}
use Rattle.chorus_turn.specs.Lists.{StartsWithBoth}
use Rattle.chorus_turn.specs.Knowing.{newcomer, after_draw, after_retirement}
use Rattle.chorus_turn.specs.Passes as turns
use Rattle.law_closing.specs.Closing.{IsPlace}
use Rattle.law_closing.specs.Behind.{HasSeenBelow}
use Rattle.law_closing.specs.Places.{PlaceNote}
use Rattle.chorus_nucleus.specs.declared.site_turns.site.Site.{Site}
use Rattle.chorus_nucleus.specs.declared.nucleus.Nucleus.{Nucleus}
use Rattle.chorus_nucleus.specs.declared.pass.Pass.{Pass}
use Rattle.chorus_nucleus.specs.declared.sight.Sight.{Sight}
use Rattle.chorus_nucleus.specs.Passes.{Reads, AreSpare, IsCallerOf, IsPassOf, row_at, home_of, readers_at}
use Rattle.chorus_nucleus.specs.Readers.{TakesReader, Inherits, with_reader}
use Rattle.chorus_nucleus.specs.Coming.{GetsReader, Enters, IsKeptKeeper, Retires, given_back}
use Rattle.chorus_nucleus.proofs.Sights.{spare-taken, taken-is, taken-none, spare-inherited, inherited-count}
use Rattle.chorus_nucleus.proofs.Threads.{caller-drew, caller-comes, caller-joined}

none-spare : (l : Layout) (handed : List (Site Ruled Packet)) (rows : List (Vec BoardReader)) → rows ≡ [] → AreSpare l handed rows
none-spare l handed rows e = subst (AreSpare l handed) (sym e) (record { read = λ p low. All-nil (λ (r : BoardReader). Reads l handed p r); room = All-nil _ })

module _ (n : Nucleus) (old : Pass) (after fresh : turner.Pass PlaceNote) (is : IsPassOf n old) (keeper : (turns.known old.turner).keeper ≡ true) (of : turns.IsPassOf n.turns after)
    (came : turns.IsPassOf n.turns fresh × (turns.known fresh ≡ newcomer (turns.known old.turner)) × (turns.known after ≡ after_draw (turns.known old.turner)))
    (p : ℕ) (low : 1 ≤ p) (rows : Vec (Vec BoardReader)) (r : Option BoardReader) (took : TakesReader p old.sight.spare.items rows.items r) where
  abbrev drew : Pass
  drew = record { turner = after; caller = old.caller; worn = old.worn; sight = record { reader = old.sight.reader; spare = rows } }

  left : AreSpare n.layout (turns.handed n.turns) rows.items × IfSome r (λ x. Reads n.layout (turns.handed n.turns) p x)
  left = spare-taken n.layout (turns.handed n.turns) p old.sight.spare.items rows.items r low is.sight.spare took

  pub kept-keeper : IsKeptKeeper n old drew
  kept-keeper = record {
    pass = record {
      sites = is.sites;
      turner = of;
      caller = subst (λ k. IsCallerOf n.layout k old.caller) (sym came.2) (caller-drew n.layout (turns.known old.turner) old.caller is.caller);
      sight = record {
        own = is.sight.own;
        spare = left.0;
        rows = λ k. took.count ∙ is.sight.rows keeper;
        none = λ k. absurd (false≢true (sym k ∙ ap (λ (v : Knowledge PlaceNote). v.keeper) came.2 ∙ keeper));
      };
    };
    caller = refl;
    worn = refl;
    reader = refl;
  }

  module _ (a : Ui) (q last : ℕ) (w : Seated) (kind : is_actor a ≡ true) (there : has_actor n.layout a ≡ true) (here : creation_place n.layout a ≡ p) (caller : w ≡ new_caller q a last)
      (seat : q ≡ (turns.known fresh).seat) (clock : last ≡ old.caller.last) (nothing : Vec (Vec BoardReader)) (empty : nothing.items ≡ []) where
    abbrev comer : Pass
    comer = record { turner = fresh; caller = w; worn = None; sight = record { reader = r; spare = nothing } }

    at-home : p ≡ home_of n.layout w
    at-home = sym here ∙ sym (ap (λ (x : Seated). creation_place n.layout x.actor) caller)

    pub entered : Enters n a old drew comer
    entered = record {
      pass = record {
        sites = is.sites;
        turner = came.0;
        caller = subst (IsCallerOf n.layout (turns.known fresh)) (sym caller) (caller-comes n.layout a last kind there q (turns.known old.turner) (turns.known fresh) came.1 seat
            (subst (λ c. HasSeenBelow (c + 1) (turns.known old.turner)) (sym clock) is.caller.seen));
        sight = record {
          own = subst (λ h. IfSome r (λ x. Reads n.layout (turns.handed n.turns) h x)) at-home left.1;
          spare = none-spare n.layout (turns.handed n.turns) nothing.items empty;
          rows = λ k. absurd (false≢true (sym (ap (λ (v : Knowledge PlaceNote). v.keeper) came.1) ∙ k));
          none = λ k. empty;
        };
      };
      knows = came.1;
      drawn = came.2;
      caller = caller ∙ ap (λ s. new_caller s a last) (seat ∙ ap (λ (v : Knowledge PlaceNote). v.seat) came.1) ∙ ap (λ c. new_caller (turns.known old.turner).made a c) clock;
      worn = refl;
      reader = subst (λ h. GetsReader h old drew comer) at-home (record {
        taken = taken-is r (row_at p old.sight.spare.items) (row_at p rows.items) took.taken;
        none = taken-none r (row_at p old.sight.spare.items) (row_at p rows.items) took.taken;
        others = λ o from ne. ap length (took.others o from ne);
        own = λ o. ap (λ xs. length (row_at o xs)) empty;
      });
    }

-- what was given to a row, counted
given-count : (row : List BoardReader) (r : BoardReader) → length (with_reader row r) ≡ cond (nat_lt (length row) READERS_PER_BOARD) (length row + 1) (length row)
given-count row r = by (nat_lt (length row) READERS_PER_BOARD)
  where
    by : (b : Bool) → length (cond b (row ++ r ∷ []) row) ≡ cond b (length row + 1) (length row)
    by true = length-append row (r ∷ [])
    by false = refl

-- the readers of each place, after one was given back
inherits-count : (l : Layout) (is_keeper : Bool) (r : Option BoardReader) (p : ℕ) (old new : List (Vec BoardReader)) → 1 ≤ p → Inherits is_keeper r p old new → (is_keeper ≡ true → p ≤ length old)
    → (q : ℕ) → 1 ≤ q → length (row_at q new) ≡ cond (q == p) (given_back is_keeper r (length (row_at q old))) (length (row_at q old))
inherits-count l false None p old new low g many q from = ap (λ rows. length (row_at q rows)) g ∙ same (q == p) (length (row_at q old))
  where
    same : (b : Bool) (k : ℕ) → k ≡ cond b k k
    same true k = refl
    same false k = refl
inherits-count l false (Some r) p old new low g many q from = ap (λ rows. length (row_at q rows)) g ∙ same (q == p) (length (row_at q old))
  where
    same : (b : Bool) (k : ℕ) → k ≡ cond b k k
    same true k = refl
    same false k = refl
inherits-count l true None p old new low g many q from = ap (λ rows. length (row_at q rows)) g ∙ same (q == p) (length (row_at q old))
  where
    same : (b : Bool) (k : ℕ) → k ≡ cond b k k
    same true k = refl
    same false k = refl
inherits-count l true (Some r) p old new low g many q from = elim (cases_eq q p) [
  | inl e ↦ subst (λ k. length (row_at k new) ≡ cond (k == p) (given_back true (Some r) (length (row_at k old))) (length (row_at k old))) (sym e)
      (ap length (g.given (many refl)) ∙ given-count (row_at p old) r ∙ sym (ap (λ b. cond b (given_back true (Some r) (length (row_at p old))) (length (row_at p old))) (eq-eqb p p refl)))
  | inr ne ↦ ap length (g.others q from ne) ∙ sym (ap (λ b. cond b (given_back true (Some r) (length (row_at q old))) (length (row_at q old))) (ne_eqb q p ne))
]

-- what a keeper has of each place
abbrev kept_rows : Bool → List (Vec BoardReader) → List (Vec BoardReader) → List (Vec BoardReader)
kept_rows was theirs own = cond was theirs own

module _ (n : Nucleus) (ended into : Pass) (after : turner.Pass PlaceNote) (gone : IsPassOf n ended) (is : IsPassOf n into) (of : turns.IsPassOf n.turns after)
    (knows : turns.known after ≡ after_retirement (turns.known into.turner) (turns.known ended.turner))
    (p : ℕ) (low : IsPlace (places n.layout) p) (here : p ≡ home_of n.layout ended.caller) (was keeps : Bool) (was_is : was ≡ (turns.known ended.turner).keeper) (keeps_is : keeps ≡ (turns.known after).keeper)
    (sight : Sight) (own : sight.reader ≡ into.sight.reader) (worn : Option ℕ) (first : worn ≡ option_or into.worn ended.worn)
    (got : Inherits keeps ended.sight.reader p (kept_rows was ended.sight.spare.items into.sight.spare.items) sight.spare.items) (w : Seated) (shown : w ≡ raised ended.caller.last into.caller) where
  abbrev Handed : List (Site Ruled Packet)
  Handed = turns.handed n.turns

  abbrev rows : Bool → List (Vec BoardReader)
  rows b = kept_rows b ended.sight.spare.items into.sight.spare.items

  -- the keeper is one of the two
  keeper-is : keeps ≡ ((turns.known ended.turner).keeper || (turns.known into.turner).keeper)
  keeper-is = keeps_is ∙ ap (λ (v : Knowledge PlaceNote). v.keeper) knows ∙ by (turns.known ended.turner).keeper
    where
      by : (b : Bool) → (if b then true else (turns.known into.turner).keeper) ≡ (b || (turns.known into.turner).keeper)
      by true = refl
      by false = refl

  spare-of : (b : Bool) → AreSpare n.layout Handed (rows b)
  spare-of true = gone.sight.spare
  spare-of false = is.sight.spare

  -- as many rows as places where one is the keeper, and else none
  many : (b : Bool) → (turns.known ended.turner).keeper ≡ b → keeps ≡ true → length (rows b) ≡ places n.layout
  many true e k = gone.sight.rows e
  many false e k = is.sight.rows (sym (ap (λ b. b || (turns.known into.turner).keeper) e) ∙ sym keeper-is ∙ k)

  none-of : (b : Bool) → (turns.known ended.turner).keeper ≡ b → keeps ≡ false → rows b ≡ []
  none-of true e k = absurd (false≢true (sym k ∙ keeper-is ∙ ap (λ b. b || (turns.known into.turner).keeper) e))
  none-of false e k = is.sight.none (sym (ap (λ b. b || (turns.known into.turner).keeper) e) ∙ sym keeper-is ∙ k)

  none-new : (b : Bool) → keeps ≡ b → b ≡ false → sight.spare.items ≡ []
  none-new b e f = by ended.sight.reader (subst (λ k. Inherits k ended.sight.reader p (rows was) sight.spare.items) (e ∙ f) got) ∙ ap rows was_is ∙ none-of (turns.known ended.turner).keeper refl (e ∙ f)
    where
      by : (r : Option BoardReader) → Inherits false r p (rows was) sight.spare.items → sight.spare.items ≡ rows was
      by None g = g
      by (Some r) g = g

  abbrev joined : Pass
  joined = record { turner = after; caller = w; worn = worn; sight = sight }

  counted : (q : ℕ) → 1 ≤ q → (b : Bool) → (turns.known ended.turner).keeper ≡ b
      → readers_at q joined ≡ (let k : ℕ = cond b (readers_at q ended) (readers_at q into) in cond (q == p) (given_back keeps ended.sight.reader k) k)
  counted q from b e =
      inherits-count n.layout keeps ended.sight.reader p (rows was) sight.spare.items low.0 got
      (λ k. (let m = ap (λ c. length (rows c)) (was_is ∙ e) ∙ many b e k in let high = low.1 in omega (arith, m, high))) q from
      ∙ ap (λ k. cond (q == p) (given_back keeps ended.sight.reader k) k) (ap (λ c. length (row_at q (rows c))) (was_is ∙ e) ∙ by b)
    where
      by : (c : Bool) → length (row_at q (rows c)) ≡ cond c (readers_at q ended) (readers_at q into)
      by true = refl
      by false = refl

  pub retired : StartsWithBoth (turns.known after).seen (turns.known into.turner).seen (turns.known ended.turner).seen → Retires n ended into joined
  retired sees = record {
    pass = record {
      sites = is.sites;
      turner = of;
      caller = subst (λ k. IsCallerOf n.layout k w) (sym knows) (subst (IsCallerOf n.layout (after_retirement (turns.known into.turner) (turns.known ended.turner))) (sym shown)
          (caller-joined n.layout (turns.known into.turner) (turns.known ended.turner) into.caller ended.caller
          (subst (λ (k : Knowledge PlaceNote). StartsWithBoth k.seen (turns.known into.turner).seen (turns.known ended.turner).seen) knows sees) is.caller gone.caller));
      sight = record {
        own = subst (λ a. IfSome sight.reader (λ x. Reads n.layout Handed (creation_place n.layout a) x)) (sym (ap (λ (y : Seated). y.actor) shown))
            (subst (λ r. IfSome r (λ x. Reads n.layout Handed (home_of n.layout into.caller) x)) (sym own) is.sight.own);
        spare = spare-inherited n.layout Handed keeps ended.sight.reader p (rows was) sight.spare.items low.0 (subst (λ b. AreSpare n.layout Handed (rows b)) (sym was_is) (spare-of (turns.known ended.turner).keeper))
            (subst (λ h. IfSome ended.sight.reader (λ x. Reads n.layout Handed h x)) (sym here) gone.sight.own) got;
        rows = λ k. inherited-count keeps ended.sight.reader p (rows was) sight.spare.items got ∙ ap (λ b. length (rows b)) was_is ∙ many (turns.known ended.turner).keeper refl (keeps_is ∙ k);
        none = λ k. none-new keeps refl (keeps_is ∙ k);
      };
    };
    knows = knows;
    sees = sees;
    caller = shown;
    worn = first;
    reader = own;
    readers = λ q at.
        counted q at.0 (turns.known ended.turner).keeper refl
        ∙ ap (λ h. (let k : ℕ = cond (turns.known ended.turner).keeper (readers_at q ended) (readers_at q into) in cond (q == h) (given_back keeps ended.sight.reader k) k)) here
        ∙ ap (λ g. (let k : ℕ = cond (turns.known ended.turner).keeper (readers_at q ended) (readers_at q into) in cond (q == home_of n.layout ended.caller) (given_back g ended.sight.reader k) k)) keeper-is;
  }
