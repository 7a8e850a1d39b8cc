-- All entries stand exactly where some callers make them a run.
use Rattle.std.proofs.Common.{ℕ, ◌+◌, ◌≡◌, ◌==◌, nat_lt, Bool, true, false, not, ◌&&◌, ◌||◌, List, [], ◌∷◌, length, Option, Some, None, is_some, refl, sym, ◌∙◌, ap}
use Rattle.std.proofs.lemmas.Bool.{and_parts, and_from, eqb-true, eq-eqb, true≢false, false≢true}
use Rattle.std.specs.Option.{option_or}
use Rattle.chorus_ui.specs.declared.ui.Ui.{Ui}
use Rattle.chorus_ui.specs.declared.layout.Layout.{Layout}
use Rattle.chorus_ui.specs.Layout.{has_actor}
use Rattle.chorus_ui.specs.Name.{same_ui}
use Rattle.chorus_ui.specs.NameKind.{is_actor}
use Rattle.chorus_ui.proofs.Names.{from_same_ui, same_ui-self}
use Rattle.chorus_entry.specs.declared.entry.Entry.{Entry}
use Rattle.chorus_world.specs.Views.{by, views}
use Rattle.chorus_world.specs.Places.{last_clock}
use Rattle.chorus_world.specs.Steps.{act_may, is_legal, may}
use Rattle.chorus_world.specs.Runs.{fits_caller, fits_callers, is_run, may_run}
use Rattle.chorus_world.proofs.Steps.LegalLemmas.{legal_parts}
use Rattle.judge_seats.specs.declared.seats.Sitting.{Sitting}
use Rattle.judge_seats.specs.Berths.{needed, missed}
use Rattle.judge_seats.specs.Seats.{actor_of, agree, all_stand, clock_of, first_out, goes_with, is_it, is_out, line_if, may_be_in, may_stand, sits, sits_by, sitting, sitting_here}
use Rattle.judge_seats.specs.Laws.{IsFirstOut, IsRunFor, OutIsTheFirst, RunsHaveNoneOut, ToldSeatsMakeARun}
use Rattle.judge_seats.proofs.Fitting.{Suits, fits, suits}
use Rattle.judge_seats.proofs.Finding.{told, found, none-some, some-same}
use Rattle.judge_seats.proofs.Sittings.{actor_other, actor_own, clock_is, out_other, out_own, sits_other, sitting_other, sitting_own}

-- The caller may be in this actor, by what is known of it.
record Admits (past : List Entry) (s : ℕ) (a : Ui) : Type 0 where
  put : (b : Ui) → actor_of (sitting past s) ≡ Some b → a ≡ b
  not_out : is_out past s a ≡ false

-- each of its entries fits it
abbrev Fits : List Entry → ℕ → Ui → Type 0
Fits [] s a = Unit {0}
Fits (e ∷ past) s a = (e.seat ≡ s → fits_caller past e.place a e.act ≡ true) × Fits past s a

or-false : (x y : Bool) → (x || y) ≡ false → (x ≡ false) × (y ≡ false)
or-false true y h = absurd (true≢false h)
or-false false y h = (refl, h)

or-none : (x y : Bool) → x ≡ false → y ≡ false → (x || y) ≡ false
or-none true y h k = absurd (true≢false h)
or-none false y h k = k

-- An entry more of the caller: what is known of it puts it into this actor, as the entry does and as was known before.

module _ (past : List Entry) (e : Entry) (s : ℕ) (a : Ui) where
  put-on : (o r : Option Ui) → agree o r ≡ true → ((b : Ui) → option_or o r ≡ Some b → a ≡ b) → ((b : Ui) → o ≡ Some b → a ≡ b) × ((b : Ui) → r ≡ Some b → a ≡ b)
  put-on None r same h = (λ b k. absurd (none-some b k), h)
  put-on (Some c) None same h = (h, λ b k. absurd (none-some b k))
  put-on (Some c) (Some d) same h = (h, λ b k. h c refl ∙ from_same_ui c d same ∙ some-same d b k)

  put-both : (o r : Option Ui) → ((b : Ui) → o ≡ Some b → a ≡ b) → ((b : Ui) → r ≡ Some b → a ≡ b) → (b : Ui) → option_or o r ≡ Some b → a ≡ b
  put-both None r ho hr b k = hr b k
  put-both (Some c) r ho hr b k = ho b k

  own-on : (e.seat == s) ≡ true → agree (needed past e) (actor_of (sitting past s)) ≡ true → Admits (e ∷ past) s a → Suits past e.place a e.act × Admits past s a
  own-on own same h =
      let outs = or-false (is_it a (missed past e)) (is_out past s a) (sym (out_own past e s a own) ∙ h.not_out) in
      let puts = put-on (needed past e) (actor_of (sitting past s)) same (λ b k. h.put b (actor_own past e s own ∙ k)) in
      (record { needed = puts.0; missed = outs.0 }, record { put = puts.1; not_out = outs.1 })

  own-both : (e.seat == s) ≡ true → Suits past e.place a e.act → Admits past s a → Admits (e ∷ past) s a
  own-both own here h = record {
    put = λ b k. put-both (needed past e) (actor_of (sitting past s)) here.needed h.put b (sym (actor_own past e s own) ∙ k);
    not_out = out_own past e s a own ∙ or-none (is_it a (missed past e)) (is_out past s a) here.missed h.not_out;
  }

  other-on : (e.seat == s) ≡ false → Admits (e ∷ past) s a → Admits past s a
  other-on other h = record {
    put = λ b k. h.put b (actor_other past e s other ∙ k);
    not_out = sym (out_other past e s a other) ∙ h.not_out;
  }

  other-both : (e.seat == s) ≡ false → Admits past s a → Admits (e ∷ past) s a
  other-both other h = record {
    put = λ b k. h.put b (sym (actor_other past e s other) ∙ k);
    not_out = out_other past e s a other ∙ h.not_out;
  }

  not-own : (e.seat == s) ≡ false → e.seat ≡ s → ⊥
  not-own other same = true≢false (sym (eq-eqb e.seat s same) ∙ other)

-- what it takes to stand
module _ (l : Layout) (past : List Entry) (e : Entry) (h : may_stand l past e ≡ true) where
  stand-parts : (goes_with (needed past e) e (sitting past e.seat) ≡ true) × (is_some (sits l (e ∷ past) e.seat) ≡ true)
  stand-parts = and_parts (goes_with (needed past e) e (sitting past e.seat)) (is_some (sits l (e ∷ past) e.seat)) h

  goes-parts : (nat_lt (clock_of (sitting past e.seat)) e.clock ≡ true) × (agree (needed past e) (actor_of (sitting past e.seat)) ≡ true)
  goes-parts = and_parts (nat_lt (clock_of (sitting past e.seat)) e.clock) (agree (needed past e) (actor_of (sitting past e.seat))) stand-parts.0

-- Where all stand, what may be by what is known fits each entry.

module _ (l : Layout) where
  admitted : (past : List Entry) → is_legal l past ≡ true → all_stand l past ≡ true → (s : ℕ) (a : Ui) → Admits past s a → Fits past s a
  admitted [] legal stand s a h = tt
  admitted (e ∷ past) legal stand s a h = by-seat (e.seat == s) refl (admitted past legals.1 split.0 s a)
    where
      split : (all_stand l past ≡ true) × (may_stand l past e ≡ true)
      split = and_parts (all_stand l past) (may_stand l past e) stand

      legals : (act_may l (views past e.place e.seat e.act) e.place e.seat e.act ≡ true) × (is_legal l past ≡ true)
      legals = legal_parts l e past legal

      by-seat : (b : Bool) → (e.seat == s) ≡ b → (Admits past s a → Fits past s a) → Fits (e ∷ past) s a
      by-seat true own before =
          let same = ap (λ n. agree (needed past e) (actor_of (sitting past n))) (sym (eqb-true e.seat s own)) ∙ (goes-parts l past e split.1).1 in
          let on = own-on past e s a own same h in
          (λ _. fits l past e.place e.seat a e.act legals.0 on.0, before on.1)
      by-seat false other before = (λ same. absurd (not-own past e s a other same), before (other-on past e s a other h))

  -- each caller of an entry has an actor
  pub seated : (past : List Entry) → all_stand l past ≡ true → (s : ℕ) → is_some (sitting past s) ≡ true → is_some (sits l past s) ≡ true
  seated [] stand s h = absurd (false≢true h)
  seated (e ∷ past) stand s h = by-seat (e.seat == s) refl (seated past split.0 s)
    where
      split : (all_stand l past ≡ true) × (may_stand l past e ≡ true)
      split = and_parts (all_stand l past) (may_stand l past e) stand

      by-seat : (b : Bool) → (e.seat == s) ≡ b → (is_some (sitting past s) ≡ true → is_some (sits l past s) ≡ true) → is_some (sits l (e ∷ past) s) ≡ true
      by-seat true own before = ap (λ n. is_some (sits l (e ∷ past) n)) (sym (eqb-true e.seat s own)) ∙ (stand-parts l past e split.1).1
      by-seat false other before = ap is_some (sits_other l past e s other) ∙ before (sym (ap is_some (sitting_other past e s other)) ∙ h)

  -- callers whose entries fit them make a run
  module _ (callers : ℕ → Option Ui) where
    abbrev Each : List Entry → Type 0
    Each past = (s : ℕ) → is_some (sitting past s) ≡ true → (a : Ui) × ((callers s ≡ Some a) × Fits past s a)

    each-on : (past : List Entry) (e : Entry) → Each (e ∷ past) → Each past
    each-on past e each s h = by-seat (e.seat == s) refl
      where
        by-seat : (b : Bool) → (e.seat == s) ≡ b → (a : Ui) × ((callers s ≡ Some a) × Fits past s a)
        by-seat true own = let x = each s (ap is_some (sitting_own past e s own)) in (x.0, (x.1.0, x.1.1.1))
        by-seat false other = let x = each s (ap is_some (sitting_other past e s other) ∙ h) in (x.0, (x.1.0, x.1.1.1))

    runs : (past : List Entry) → is_legal l past ≡ true → all_stand l past ≡ true → Each past → is_run l callers past ≡ true
    runs [] legal stand each = refl
    runs (e ∷ past) legal stand each =
        let split = and_parts (all_stand l past) (may_stand l past e) stand in
        let parts = and_parts (may l past e) (is_legal l past) legal in
        let clock = ap (λ n. nat_lt n e.clock) (sym (clock_is past e.seat)) ∙ (goes-parts l past e split.1).0 in
        let x = each e.seat (ap is_some (sitting_own past e e.seat (eq-eqb e.seat e.seat refl))) in
        let fit = ap (λ o. fits_callers past e.place o e.act) x.1.0 ∙ x.1.1.0 refl in
        and_from (may l past e && may_run callers past e) (is_run l callers past)
        (and_from (may l past e) (may_run callers past e) parts.0 (and_from (nat_lt (last_clock (by e.seat past)) e.clock) (fits_callers past e.place (callers e.seat) e.act) clock fit))
        (runs past parts.1 split.0 (each-on past e each))

  -- the actors that are told do
  sits-some : (past : List Entry) (s : ℕ) (o : Option Ui) → sits l past s ≡ o → is_some o ≡ true → (a : Ui) × (sits l past s ≡ Some a)
  sits-some past s None is h = absurd (false≢true h)
  sits-some past s (Some a) is h = (a, is)

  told-run : (past : List Entry) → is_legal l past ≡ true → all_stand l past ≡ true → IsRunFor l past (sits l past)
  told-run past legal stand = record {
    actors = λ s a h. (kinds s a h).0;
    of_layout = λ s a h. (kinds s a h).1;
    run = runs (sits l past) past legal stand (λ s h.
        let x = sits-some past s (sits l past s) refl (seated past stand s h) in
        (x.0, (x.1, admitted past legal stand s x.0 (admits s x.0 x.1))));
  }
    where
      admits : (s : ℕ) (a : Ui) → sits l past s ≡ Some a → Admits past s a
      admits s a h =
          let is = told l (is_out past s) (sitting past s) a h in
          record { put = is.put; not_out = not-not (is_out past s a) (and_parts (is_actor a && has_actor l a) (not (is_out past s a)) is.may).1 }
        where
          not-not : (x : Bool) → not x ≡ true → x ≡ false
          not-not true k = absurd (false≢true k)
          not-not false k = refl

      kinds : (s : ℕ) (a : Ui) → sits l past s ≡ Some a → (is_actor a ≡ true) × (has_actor l a ≡ true)
      kinds s a h =
          let is = told l (is_out past s) (sitting past s) a h in
          and_parts (is_actor a) (has_actor l a) (and_parts (is_actor a && has_actor l a) (not (is_out past s a)) is.may).0

  -- The other way: what fits each entry may be, by what is known.

  module _ (callers : ℕ → Option Ui) where
    run-parts : (past : List Entry) (e : Entry) → is_run l callers (e ∷ past) ≡ true → (nat_lt (last_clock (by e.seat past)) e.clock ≡ true) × ((fits_callers past e.place (callers e.seat) e.act ≡ true) × (is_run l callers past ≡ true))
    run-parts past e h =
        let two = and_parts (may l past e && may_run callers past e) (is_run l callers past) h in
        let one = and_parts (may l past e) (may_run callers past e) two.0 in
        let clock = and_parts (nat_lt (last_clock (by e.seat past)) e.clock) (fits_callers past e.place (callers e.seat) e.act) one.1 in
        (clock.0, (clock.1, two.1))

    admits-run : (past : List Entry) → is_run l callers past ≡ true → (s : ℕ) (a : Ui) → callers s ≡ Some a → Admits past s a
    admits-run [] run s a is = record { put = λ b h. absurd (none-some b h); not_out = refl }
    admits-run (e ∷ past) run s a is = by-seat (e.seat == s) refl (admits-run past parts.1.1 s a is)
      where
        parts : (nat_lt (last_clock (by e.seat past)) e.clock ≡ true) × ((fits_callers past e.place (callers e.seat) e.act ≡ true) × (is_run l callers past ≡ true))
        parts = run-parts past e run

        by-seat : (b : Bool) → (e.seat == s) ≡ b → Admits past s a → Admits (e ∷ past) s a
        by-seat true own before =
            let who : callers e.seat ≡ Some a = ap callers (eqb-true e.seat s own) ∙ is in
            own-both past e s a own (suits past e.place a e.act (ap (λ o. fits_callers past e.place o e.act) (sym who) ∙ parts.1.0)) before
        by-seat false other before = other-both past e s a other before

    who : (past : List Entry) (e : Entry) (o : Option Ui) → callers e.seat ≡ o → fits_callers past e.place o e.act ≡ true → (a : Ui) × (callers e.seat ≡ Some a)
    who past e None is h = absurd (false≢true h)
    who past e (Some a) is h = (a, is)

    agree-both : (a : Ui) (o r : Option Ui) → ((b : Ui) → o ≡ Some b → a ≡ b) → ((b : Ui) → r ≡ Some b → a ≡ b) → agree o r ≡ true
    agree-both a None r ho hr = refl
    agree-both a (Some c) None ho hr = refl
    agree-both a (Some c) (Some d) ho hr = ap (λ x. same_ui x d) (sym (ho c refl) ∙ hr d refl) ∙ same_ui-self d

    module _ (kinds : (s : ℕ) (a : Ui) → callers s ≡ Some a → is_actor a ≡ true) (layout : (s : ℕ) (a : Ui) → callers s ≡ Some a → has_actor l a ≡ true) where
      run-stands : (past : List Entry) → is_run l callers past ≡ true → all_stand l past ≡ true
      run-stands [] run = refl
      run-stands (e ∷ past) run = and_from (all_stand l past) (may_stand l past e) (run-stands past parts.1.1) (and_from (goes_with (needed past e) e (sitting past e.seat)) (is_some (sits l (e ∷ past) e.seat)) (and_from (nat_lt (clock_of (sitting past e.seat)) e.clock) (agree (needed past e) (actor_of (sitting past e.seat))) clock same) sat)
        where
          parts : (nat_lt (last_clock (by e.seat past)) e.clock ≡ true) × ((fits_callers past e.place (callers e.seat) e.act ≡ true) × (is_run l callers past ≡ true))
          parts = run-parts past e run

          is : (a : Ui) × (callers e.seat ≡ Some a)
          is = who past e (callers e.seat) refl parts.1.0

          clock : nat_lt (clock_of (sitting past e.seat)) e.clock ≡ true
          clock = ap (λ n. nat_lt n e.clock) (clock_is past e.seat) ∙ parts.0

          here : Suits past e.place is.0 e.act
          here = suits past e.place is.0 e.act (ap (λ o. fits_callers past e.place o e.act) (sym is.1) ∙ parts.1.0)

          before : Admits past e.seat is.0
          before = admits-run past parts.1.1 e.seat is.0 is.1

          same : agree (needed past e) (actor_of (sitting past e.seat)) ≡ true
          same = agree-both is.0 (needed past e) (actor_of (sitting past e.seat)) here.needed before.put

          own : (e.seat == e.seat) ≡ true
          own = eq-eqb e.seat e.seat refl

          after : Admits (e ∷ past) e.seat is.0
          after = own-both past e e.seat is.0 own here before

          may : may_be_in l (is_out (e ∷ past) e.seat) is.0 ≡ true
          may = and_from (is_actor is.0 && has_actor l is.0) (not (is_out (e ∷ past) e.seat is.0)) (and_from (is_actor is.0) (has_actor l is.0) (kinds e.seat is.0 is.1) (layout e.seat is.0 is.1)) (ap not after.not_out)

          row : Sitting
          row = sitting_here (needed past e) e (sitting past e.seat)

          row-is : sitting (e ∷ past) e.seat ≡ Some row
          row-is = sitting_own past e e.seat own

          sat : is_some (sits l (e ∷ past) e.seat) ≡ true
          sat = found-at (sitting (e ∷ past) e.seat) row-is after.put
            where
              found-at : (r : Option Sitting) → r ≡ Some row → ((b : Ui) → actor_of r ≡ Some b → is.0 ≡ b) → is_some (sits_by l (is_out (e ∷ past) e.seat) r) ≡ true
              found-at None eq put = absurd (none-some row eq)
              found-at (Some x) eq put = found l (is_out (e ∷ past) e.seat) is.0 may x put

-- The first that is out.

or-nones : (x y : Option ℕ) → option_or x y ≡ None → (x ≡ None) × (y ≡ None)
or-nones None y h = (refl, h)
or-nones (Some n) y h = absurd (none-some n (sym h))

line-none : (b : Bool) (n : ℕ) → line_if b n ≡ None → b ≡ true
line-none true n h = refl
line-none false n h = absurd (none-some n (sym h))

pub none-out : (l : Layout) (past : List Entry) → first_out l past ≡ None → all_stand l past ≡ true
none-out l [] h = refl
none-out l (e ∷ past) h =
    let both = or-nones (first_out l past) (line_if (may_stand l past e) (length past + 2)) h in
    and_from (all_stand l past) (may_stand l past e) (none-out l past both.0) (line-none (may_stand l past e) (length past + 2) both.1)

or-both : (x y : Option ℕ) → x ≡ None → y ≡ None → option_or x y ≡ None
or-both None y h k = k
or-both (Some n) y h k = absurd (none-some n (sym h))

pub stand-none : (l : Layout) (past : List Entry) → all_stand l past ≡ true → first_out l past ≡ None
stand-none l [] h = refl
stand-none l (e ∷ past) h =
    let both = and_parts (all_stand l past) (may_stand l past e) h in
    or-both (first_out l past) (line_if (may_stand l past e) (length past + 2)) (stand-none l past both.0) (ap (λ b. line_if b (length past + 2)) both.1)

pub told_seats : ToldSeatsMakeARun
told_seats l past legal none = told-run l past legal (none-out l past none)

pub runs_none_out : RunsHaveNoneOut
runs_none_out l past (callers, h) = stand-none l past (run-stands l callers h.actors h.of_layout past h.run)

pub out_first : OutIsTheFirst
out_first l [] line legal h = absurd (none-some line h)
out_first l (e ∷ past) line legal h = by-front (first_out l past) refl (out_first l past line parts.1)
  where
    parts : (may l past e ≡ true) × (is_legal l past ≡ true)
    parts = and_parts (may l past e) (is_legal l past) legal

    line-some : (b : Bool) (n : ℕ) → line_if b n ≡ Some line → line ≡ n
    line-some true n k = absurd (none-some line k)
    line-some false n k = some-same line n (sym k)

    by-front : (o : Option ℕ) → first_out l past ≡ o → (first_out l past ≡ Some line → IsFirstOut l past line) → IsFirstOut l (e ∷ past) line
    by-front None is before = record {
      newer = [];
      entry = e;
      older = past;
      is = refl;
      line_is = line-some (may_stand l past e) (length past + 2) (sym (ap (λ o. option_or o (line_if (may_stand l past e) (length past + 2))) is) ∙ h);
      before = (sits l past, told-run l past parts.1 (none-out l past is));
      none = λ run. none-some line (sym (runs_none_out l (e ∷ past) run) ∙ h);
    }
    by-front (Some n) is before =
        let same : n ≡ line = some-same n line (sym (ap (λ o. option_or o (line_if (may_stand l past e) (length past + 2))) is) ∙ h) in
        let first = before (is ∙ ap Some same) in
        record {
          newer = e ∷ first.newer;
          entry = first.entry;
          older = first.older;
          is = ap (λ es. e ∷ es) first.is;
          line_is = first.line_is;
          before = first.before;
          none = first.none;
        }
