-- How it ends.
use Rattle.std.proofs.Common.{ℕ, zero, suc, ◌≡◌, ◌+◌, ◌<◌, ◌≤◌, ◌⊎◌, ◌↔◌, inl, inr, Result, Ok, Err, IfOk, IsErrOf, List, [], ◌∷◌, ◌++◌, length, Option, Some, None, IfSome, IsSome, append-nil, append_assoc, codes, get_or, take, refl, sym, ◌∙◌, ap, subst, arith}
use Rattle.std.specs.Global.{Vec}
use Rattle.chorus_io.specs.Count.{Rose}
use Rattle.chorus_ui.specs.declared.ui.Ui.{Ui}
use Rattle.chorus_ui.specs.declared.layout.Layout.{Layout}
use Rattle.chorus_ui.specs.declared.limits.TheConstants.{CLOCK_LIMIT}
use Rattle.chorus_entry.specs.declared.message.Message.{Message}
use Rattle.chorus_turn.specs.declared.knowledge.Knowledge.{Knowledge}
use Rattle.chorus_turn.specs.declared.knowledge.Note.{Note}
use Rattle.chorus_turn.specs.declared.knowledge.Placed.{Placed}
use Rattle.std.proofs.lemmas.List.Elements.{All-nil}
use Rattle.law_network.specs.Calls.{first_actor}
use Rattle.law_closing.specs.Actors.{AreIn}
use Rattle.law_closing.specs.Places.{PlaceNote}
use Rattle.law_closing.specs.Remarks.{turns_in}
use Rattle.law_history.specs.Runs.{commands_given}
use Rattle.chorus_net.specs.declared.closed.Closed.{Closed}
use Rattle.chorus_net.specs.Closing.{merge_of, worn_in}
use Rattle.chorus_show.specs.declared.status.Status.{Status}
use Rattle.chorus_nucleus.specs.declared.nucleus.Nucleus.{Nucleus}
use Rattle.chorus_nucleus.specs.declared.pass.Pass.{Pass}
use Rattle.chorus_nucleus.specs.Passes.{caller_of, layout_of, known, worn_by, IsPassOf}
use Rattle.chorus_report.specs.declared.finished.Finished.{Finished}
use Rattle.chorus_report.specs.Headline.{HasClock}
use Rattle.chorus_report.specs.Output.{EndsUnread, HandsOut, Writes}
use Rattle.chorus_report.proofs.Ends.{gave-up-writes, none-closed}
use Rattle.chorus_perform.specs.declared.stopped.Stopped.{Stopped}
use Rattle.chorus_perform.specs.declared.stopped.Stopped.TheVariants as stops
use Rattle.chorus_perform.specs.Going.{Goes}
use Rattle.chorus_nucleus.specs.Rounds.{IsEven}
use Rattle.chorus_perform.specs.Scripts.{IsKeeper, IsOpening}
use Rattle.chorus_run.specs.Threads.{HasWornOf, IsClosedBy}
use Rattle.chorus_turn.specs.Knowing.{limit, IsSamePass}
use Rattle.chorus_crew.specs.declared.fault.CrewFault.{CrewFault}
use Rattle.chorus_crew.specs.declared.handler.Handled.{Handled}
use Rattle.chorus_crew.specs.Crews.{AreHandled, HasHandled}
use Rattle.chorus_crew.specs.Retiring.{IsRetired}
use Rattle.chorus_run.specs.DrawnCrew.Names.{crew_pairs}
use Rattle.chorus_run.specs.DrawnCrew.Value.{message_value}
use Rattle.chorus_run.specs.DrawnCrew.Filling.{crew_commands}
use Rattle.chorus_run.specs.declared.drawn_crew.draws.Tally.{Tally}
use Rattle.chorus_run.specs.DrawnCrew.Sends.{tally}
use Rattle.chorus_run.specs.DrawnCrew.Text.{counted, crew_text, handled_lines, handled_text, port_line, port_lines}
use Rattle.chorus_run.specs.DrawnCrew.Takes.{AreTallied, HasCrewed, HasTaken, IsTallied, TakesUnless}
use Rattle.chorus_run.specs.DrawnCrew.Ends.{EndsAsCrew, EndsWorn}

-- The crew.

pub none-out : (b : Pass) → IsKeeper 0 b → (known b).made ≡ length (known b).notes + 1
none-out b k = let made = k.made in let notes = ap (λ (ns : List (Note PlaceNote)). length ns) k.notes in omega (arith, made, notes)

pub all-ended : (n : Nucleus) (b c : Pass) → IsKeeper 0 b → IsRetired n b c → (known c).made ≡ length (known c).notes + 1
all-ended n b c k r =
    let made = k.made in
    let drawn = r.drawn in
    let notes : length (known c).notes ≡ length r.news = ap (λ (ns : List (Note PlaceNote)). length ns) (r.notes ∙ ap (λ (ns : List (Note PlaceNote)). ns ++ r.news) k.notes) in
    omega (arith, made, drawn, notes)

pub crewed : (n : Nucleus) (first commands : ℕ) (handled : List Handled) (a b c : Pass) → IsOpening a → IsKeeper 0 b → Goes (crew_commands first commands) a b → IsEven (layout_of n) (known b) → IsPassOf n b → IsRetired n b c → HasHandled message_value n crew_pairs handled b c → HasCrewed n first commands handled c
crewed n first commands handled a b c o k g even is r h = record {
  of_nucleus = r.pass;
  within =
      let none : AreIn (caller_of a).actor (known a).mine = subst (AreIn (caller_of a).actor) (sym o.mine) (All-nil (λ (m : Placed PlaceNote). m.remarked.remark.before.actor ≡ (caller_of a).actor)) in
      subst (AreIn first_actor) (sym r.mine) (subst (λ actor. AreIn actor (known b).mine) o.actor (g.within none));
  ended = all-ended n b c k r;
  before = b;
  was = is;
  settled = record { seat = k.seat; mine = sym r.mine; seen = even.seen; even = even.even; more = h.sees };
  seat = r.seat ∙ k.seat;
  performed =
      ap (λ (mine : List (Placed PlaceNote)). commands_given (turns_in mine)) r.mine ∙ g.gave_is
      ∙ ap (λ (mine : List (Placed PlaceNote)). commands_given (turns_in mine) ++ crew_commands first commands) o.mine;
  handled_is =
      subst (λ m. AreHandled message_value (layout_of n) (known c) (caller_of b).last m crew_pairs (known c).notes handled) k.made
      (subst (λ (ns : List (Note PlaceNote)). AreHandled message_value (layout_of n) (known c) (caller_of b).last (known b).made crew_pairs ns handled) (sym (h.notes ∙ ap (λ (ns : List (Note PlaceNote)). ns ++ h.news) k.notes)) h.each);
}

pub still-keeper : (a b : Pass) → IsKeeper 0 a → IsSamePass (known a) (known b) → IsKeeper 0 b
still-keeper a b k s = record { seat = s.0 ∙ k.seat; keeper = s.2 ∙ k.keeper; made = s.3 ∙ k.made; notes = s.1 ∙ k.notes }

pub ok-crewed : (n : Nucleus) (first commands : ℕ) (r : Result (Vec Handled) Stopped) (a b c : Pass) → IsOpening a → IsSamePass (known a) (known b) → Goes (crew_commands first commands) a b → IsEven (layout_of n) (known b) → IsPassOf n b → IsRetired n b c
    → IfOk r (λ v. HasHandled message_value n crew_pairs v.items b c) → IfOk r (λ v. HasCrewed n first commands v.items c)
ok-crewed n first commands (Ok v) a b c o s g even is r h = crewed n first commands v.items a b c o (still-keeper a b o.keeper s) g even is r h
ok-crewed n first commands (Err e) a b c o s g even is r h = tt

pub as-many : (value : Ui → ℕ → Message → ℕ) (l : Layout) (v : Knowledge PlaceNote) (clock seat : ℕ) (pairs : List (Ui × Ui)) (notes : List (Note PlaceNote)) (handled : List Handled) → AreHandled value l v clock seat pairs notes handled → length handled ≡ length pairs
as-many value l v clock seat [] [] [] h = refl
as-many value l v clock seat (p ∷ pairs) (m ∷ notes) (x ∷ handled) h = ap suc (as-many value l v clock (seat + 1) pairs notes handled h.3)
as-many value l v clock seat _ _ _ h = absurd h

-- The text.

-- the line of the port that was read
pub lines-more : (s k : ℕ) (handled : List Handled) (h : Handled) → k < length handled → h ≡ get_or handled k h → handled_lines s (take (k + 1) handled) ≡ handled_lines s (take k handled) ++ port_line (s + k) (counted h)
lines-more s k [] h lt is = absurd (omega (arith, lt))
lines-more s zero (x ∷ handled) h lt is =
    ap (λ y. port_line s (counted y) ++ []) (sym is) ∙ append-nil (port_line s (counted h)) ∙ ap (λ z. port_line z (counted h)) (let e : s ≡ s + 0 = omega arith in e)
lines-more s (suc k) (x ∷ handled) h lt is =
    ap (λ z. handled_lines s (take z (x ∷ handled))) (let e : suc k + 1 ≡ suc (k + 1) = omega arith in e)
    ∙ ap (λ zs. port_line s (counted x) ++ zs) (lines-more (s + 1) k handled h (omega (arith, lt)) is ∙ ap (λ z. handled_lines (s + 1) (take k handled) ++ port_line z (counted h)) (let e : s + 1 + k ≡ s + suc k = omega arith in e))
    ∙ sym (append_assoc (port_line s (counted x)) (handled_lines (s + 1) (take k handled)) (port_line (s + suc k) (counted h)))

tallied-line : (s : ℕ) (t : Tally) (h : Handled) → IsTallied t h → port_line s (counted h) ≡ port_line s t
tallied-line s t h is = λ i. port_line s (record { count = is.count i; total = is.total i })

-- what was counted is what was sent: so are the lines
tallied-lines : (first commands m : ℕ) (handled : List Handled) → AreTallied first commands (m + 1) handled → port_lines first commands m ++ handled_lines (m + 1) handled ≡ port_lines first commands (m + length handled)
tallied-lines first commands m [] t = append-nil (port_lines first commands m) ∙ ap (port_lines first commands) (let e : m ≡ m + 0 = omega arith in e)
tallied-lines first commands m (h ∷ handled) t =
    sym (append_assoc (port_lines first commands m) (port_line (m + 1) (counted h)) (handled_lines (m + 1 + 1) handled))
    ∙ ap (λ z. (port_lines first commands m ++ z) ++ handled_lines (m + 1 + 1) handled) (tallied-line (m + 1) (tally first commands (m + 1)) h t.0)
    ∙ ap (λ z. port_lines first commands z ++ handled_lines (m + 1 + 1) handled) (let e : suc m ≡ m + 1 = omega arith in e)
    ∙ tallied-lines first commands (m + 1) handled t.1
    ∙ ap (port_lines first commands) (let e : m + 1 + length handled ≡ m + suc (length handled) = omega arith in e)

pub text-so : (first commands : ℕ) (handled : List Handled) → length handled ≡ 8 → AreTallied first commands 1 handled → handled_text handled ≡ crew_text first commands
unfolding crew_text
text-so first commands handled eight t =
    ap (λ zs. zs ++ (codes "end" ++ 10 ∷ [])) (tallied-lines first commands 0 handled t ∙ ap (port_lines first commands) (let e : 0 + length handled ≡ 8 = omega (arith, eight) in e))

-- Endings.

module _ {K : Type 0} (n : Nucleus) (first commands : ℕ) (f : Finished) (held : K → Option (List ℕ)) (failures : K → ℕ) (old new : K) where
  pub ends-without : f ≡ record { status = Status.Memory; closed = None } → new ≡ old → EndsAsCrew n first commands f held failures old new
  ends-without is same = record {
    status = subst EndsUnread (sym (ap (λ (x : Finished). x.status) is)) tt;
    writes = gave-up-writes (crew_text first commands) Status.Memory f held failures old new tt is same;
    takes = none-closed Status.Memory f (TakesUnless n first commands) is;
    worn = none-closed Status.Memory f HasWornOf is;
  }

  worn-so : (last : Pass) (why : Stopped) (closed : Closed) (clock : ℕ) → IsClosedBy n last closed → ((k : ℕ) → why ≡ stops.Worn k → worn_by last ≡ Some k) → why ≡ stops.Worn clock → CLOCK_LIMIT ≤ clock → HasClock clock (merge_of closed) → new ≡ old →
      EndsAsCrew n first commands (record { status = Status.Worn clock; closed = Some closed }) held failures old new
  worn-so last why closed clock by told is high entry same = record {
    status = tt;
    writes = record {
      write_fault = λ e. absurd (cc);
      worn = λ k e. (let one : clock ≡ k = cc in subst (λ m. (CLOCK_LIMIT ≤ m) × HasClock m (merge_of closed)) one (high, entry));
      closed = (λ h. tt, λ h. refl);
      unwritten = λ d w. same;
      prints = ap held same;
    };
    takes = (last, by);
    worn = λ k e. (let one : clock ≡ k = cc in ap worn_in by.closes.origin ∙ told clock is ∙ ap (λ m. Some m) one);
  }

  pub ends-worn : (last : Pass) (why : Stopped) (closed : Closed) → IsClosedBy n last closed → ((k : ℕ) → why ≡ stops.Worn k → worn_by last ≡ Some k) → EndsWorn why closed f → new ≡ old → EndsAsCrew n first commands f held failures old new
  ends-worn last why closed by told h same =
      subst (λ (x : Finished). EndsAsCrew n first commands x held failures old new) (sym h.finished_is)
      (worn-so last why closed h.clock by told h.is h.high h.entry same)

  pub ends-stopped : (last : Pass) (why : Stopped) (closed : Closed) → IsClosedBy n last closed → ((k : ℕ) → why ≡ stops.Worn k → worn_by last ≡ Some k) → (f ≡ record { status = Status.Memory; closed = None }) ⊎ EndsWorn why closed f → new ≡ old → EndsAsCrew n first commands f held failures old new
  ends-stopped last why closed by told (inl is) same = ends-without is same
  ends-stopped last why closed by told (inr h) same = ends-worn last why closed by told h same

  taken-so : (s : Status) (closed : Closed) → (s ≡ Status.Done) ⊎ (s ≡ Status.WriteFault) → HasTaken n first commands closed → TakesUnless n first commands s closed
  taken-so s closed (inl e) t = subst (λ (z : Status). TakesUnless n first commands z closed) (sym e) t
  taken-so s closed (inr e) t = subst (λ (z : Status). TakesUnless n first commands z closed) (sym e) t

  unread-so : (s : Status) → (s ≡ Status.Done) ⊎ (s ≡ Status.WriteFault) → EndsUnread s
  unread-so s (inl e) = subst EndsUnread (sym e) tt
  unread-so s (inr e) = subst EndsUnread (sym e) tt

  no-clock : (s : Status) (clock : ℕ) → (s ≡ Status.Done) ⊎ (s ≡ Status.WriteFault) → s ≡ Status.Worn clock → ⊥
  no-clock s clock (inl e) is = let bad = sym e ∙ is in cc
  no-clock s clock (inr e) is = let bad = sym e ∙ is in cc

  pub ends-printed : (closed : Closed) (text : List ℕ) → text ≡ crew_text first commands → HasTaken n first commands closed → (f.status ≡ Status.Done) ⊎ (f.status ≡ Status.WriteFault) → (f.status ≡ Status.WriteFault → Rose (failures old) (failures new)) → f.closed ≡ Some closed → HandsOut f.status → Writes f.status (held old) (held new) text → EndsAsCrew n first commands f held failures old new
  ends-printed closed text is taken how fault whole hands wrote = record {
    status = unread-so f.status how;
    writes = record {
      write_fault = fault;
      worn = λ clock e. absurd (no-clock f.status clock how e);
      closed = (λ h. hands, λ h. there f.closed closed whole);
      unwritten = λ d w. absurd (neither how d w);
      prints = subst (Writes f.status (held old) (held new)) is wrote;
    };
    takes = subst (λ (o : Option Closed). IfSome o (TakesUnless n first commands f.status)) (sym whole) (taken-so f.status closed how taken);
    worn = subst (λ (o : Option Closed). IfSome o (HasWornOf f.status)) (sym whole) (λ clock e. absurd (no-clock f.status clock how e));
  }
    where
      there : (o : Option Closed) (c : Closed) → o ≡ Some c → IsSome o
      there o c e = subst (λ (z : Option Closed). IsSome z) (sym e) refl

      neither : (f.status ≡ Status.Done) ⊎ (f.status ≡ Status.WriteFault) → (f.status ≡ Status.Done → ⊥) → (f.status ≡ Status.WriteFault → ⊥) → ⊥
      neither (inl e) d w = d e
      neither (inr e) d w = w e

-- A crew of eight ports finds numbers for their passes.

pub no-seat-left : {A : Type 0} (r : Result A CrewFault) (f : CrewFault) (m made count : ℕ) → r ≡ Err f → f ≡ CrewFault.NoSeat m → ((k : ℕ) → IsErrOf r (CrewFault.NoSeat k) ↔ ((k ≡ made) × (limit < made + count))) → made ≡ 1 → count ≡ 8 → ⊥
no-seat-left r f m made count is seat exact one eight =
    let there : IsErrOf r (CrewFault.NoSeat m) = is ∙ ap (λ (x : CrewFault). Err x) seat in
    let few : limit < made + count = ((exact m).0 there).1 in
    absurd (omega (arith, few, one, eight))
