-- One message more was taken and handled.
-- n is the nucleus, l its layout, q the port, a, b and c are the pass at three moments.
use mathlib.Core.Logic.{dite}
use native.Mathlib.Decide.{ℕ_discrete}
use Rattle.std.proofs.Common.{◌≡◌, ◌≢◌, ℕ, ◌+◌, Ok, Err, List, [], ◌∷◌, ◌++◌, length, refl, sym, ap, ◌∙◌, subst, append_assoc, append-nil, arith, length-append}
use Rattle.std.proofs.lemmas.List.Elements.{All-nil, All-push, All-weaker}
use Rattle.chorus_ui.specs.declared.ui.Ui.{Ui}
use Rattle.chorus_ui.specs.declared.layout.Layout.{Layout}
use Rattle.chorus_entry.specs.declared.act.Act.{Act}
use Rattle.law_replies.specs.Taking.{taken_acts}
use Rattle.chorus_turn.specs.declared.knowledge.Knowledge.{Knowledge}
use Rattle.law_closing.specs.Places.{PlaceNote}
use Rattle.chorus_nucleus.specs.declared.fault.CallFault.{CallFault}
use Rattle.chorus_nucleus.specs.declared.nucleus.Nucleus.{Nucleus}
use Rattle.chorus_nucleus.specs.declared.pass.Pass.{Pass}
use Rattle.chorus_nucleus.specs.Passes.{layout_of, known, caller_of, worn_by, IsPassOf}
use Rattle.chorus_nucleus.specs.Calls.{worn_after}
use Rattle.chorus_nucleus.specs.declared.taken_message.TakenMessage.{TakenMessage}
use Rattle.chorus_nucleus.specs.declared.taken_message.TakeAnswer.{TakeAnswer}
use Rattle.chorus_nucleus.specs.declared.taken_message.TakeAnswer.TheVariants as answers
use Rattle.chorus_nucleus.specs.Taking.{Appends, HasOrigin, SeesMore, KeepsPass, TakesOn, IsTake}
use Rattle.chorus_nucleus.specs.Answers.{reply_with}
use Rattle.chorus_nucleus.proofs.Behind.{more-itself}
use Rattle.chorus_nucleus.proofs.TakeTurns.{worn-ok, takes-nothing}
use Rattle.chorus_nucleus.proofs.Trying.{appends-none, appends-then, appends-still, origin-later, keeps-none, keeps-then, takes-then}
use Rattle.chorus_crew.specs.declared.folding.EndedBy.TheVariants as ends
use Rattle.chorus_crew.specs.Handling.{Way, after_all, took_acts, AreGiven, first_position, Folds}
use Rattle.chorus_crew.specs.Jobs.{IsWork}

pub took-append : (q : Ui) (xs ys : List TakenMessage) → took_acts q (xs ++ ys) ≡ took_acts q xs ++ took_acts q ys
took-append q [] ys = refl
took-append q (x ∷ xs) ys = let a = taken_acts q (reply_with x) in
    ap (λ zs. a ++ zs) (took-append q xs ys) ∙ sym (append_assoc a (took_acts q xs) (took_acts q ys))

after-append : {S : Type 0} (way : Way S) (q : Ui) (ts : List TakenMessage) (t : TakenMessage) (s : S) → after_all way q (ts ++ t ∷ []) s ≡ way.after q t (after_all way q ts s)
after-append way q [] t s = refl
after-append way q (x ∷ ts) t s = after-append way q ts t (way.after q x s)

pub given-later : (l : Layout) (q : Ui) (ts : List TakenMessage) (v u : Knowledge PlaceNote) → SeesMore v u → AreGiven l q ts v → AreGiven l q ts u
given-later l q ts v u more given =
    All-weaker (λ (t : TakenMessage). HasOrigin l q (reply_with t) v) (λ (t : TakenMessage). HasOrigin l q (reply_with t) u) (λ t o. origin-later l q (reply_with t) v u more o) ts given

first-more : (ts : List TakenMessage) (t : TakenMessage) (from count : ℕ) → from ≡ first_position ts → count ≡ length ts
    → (count ≡ 0 → first_position (ts ++ t ∷ []) ≡ t.position) × (count ≢ 0 → first_position (ts ++ t ∷ []) ≡ from)
first-more [] t from count f n = ((λ _. refl), λ some. absurd (some n))
first-more (s ∷ ts) t from count f n = ((λ none. absurd (omega arith)), λ _. sym f)

-- what was done so far
pub record Drained {S : Type 0} (way : Way S) (n : Nucleus) (q : Ui) (from count : ℕ) (state : S) (old new : Pass) : Type 0 where
  pub keeps : KeepsPass n old new
  pub goes : TakesOn n q old new
  pub took : List TakenMessage
  pub given : AreGiven (layout_of n) q took (known new)
  pub appends : Appends (took_acts q took) (known old) (known new)
  pub folds : Folds way q took from count state
  pub worn : worn_by new ≡ worn_by old

pub drained-none : {S : Type 0} (way : Way S) (n : Nucleus) (q : Ui) (a : Pass) (state : S) → IsPassOf n a → state ≡ way.begun q → Drained way n q 0 0 state a a
drained-none way n q a state is begun = record {
  keeps = keeps-none n a is;
  goes = takes-nothing n q a a refl (more-itself (caller_of a));
  took = [];
  given = All-nil (λ (t : TakenMessage). HasOrigin (layout_of n) q (reply_with t) (known a));
  appends = appends-none (known a) (known a) refl;
  folds = record { first = refl; number = refl; state_is = begun };
  worn = refl;
}

module _ {S : Type 0} (way : Way S) (n : Nucleus) (q : Ui) (from count : ℕ) (state : S) (a b c : Pass) (d : Drained way n q from count state a b) where
  pub drained-more : (t : TakenMessage) (first next : ℕ) (then : S) → IsTake n q (Ok (answers.Took t)) b c → (count ≡ 0 → first ≡ t.position) → (count ≢ 0 → first ≡ from) → next ≡ count + 1
      → then ≡ way.after q t state → Drained way n q first next then a c
  drained-more t first next then h zero-first some-first next-is then-is =
      let f = first-more d.took t from count d.folds.first d.folds.number in
      record {
        keeps = keeps-then n a b c d.keeps h.keeps;
        goes = takes-then n q a b c d.keeps.actor d.goes h.goes;
        took = d.took ++ t ∷ [];
        given = All-push (λ (z : TakenMessage). HasOrigin (layout_of n) q (reply_with z) (known c)) d.took t (given-later (layout_of n) q d.took (known b) (known c) h.keeps.sees d.given) h.answer.origin;
        appends = subst (λ zs. Appends zs (known a) (known c)) (sym (took-append q d.took (t ∷ []) ∙ ap (λ zs. took_acts q d.took ++ zs) (append-nil (taken_acts q (reply_with t)))))
            (appends-then (took_acts q d.took) (taken_acts q (reply_with t)) (known a) (known b) (known c) d.appends h.answer.appends);
        folds = record {
          first = dite (ℕ_discrete count 0) (λ e. zero-first e ∙ sym (f.0 e)) (λ k. some-first k ∙ sym (f.1 k));
          number = omega (arith, next-is, d.folds.number, length-append d.took (t ∷ []));
          state_is = then-is ∙ ap (way.after q t) d.folds.state_is ∙ sym (after-append way q d.took t (way.begun q));
        };
        worn = h.worn ∙ worn-ok (worn_by b) (answers.Took t) ∙ d.worn;
      }

  pub empties : IsTake n q (Ok answers.Empty) b c → IsWork way n q record { from = from; count = count; state = state; ended = ends.Empty } a c
  empties h = record {
    keeps = keeps-then n a b c d.keeps h.keeps;
    goes = takes-then n q a b c d.keeps.actor d.goes h.goes;
    work = record {
      took = d.took;
      given = given-later (layout_of n) q d.took (known b) (known c) h.keeps.sees d.given;
      appends = appends-then (took_acts q d.took) (Act.Empty q ∷ []) (known a) (known b) (known c) d.appends h.answer.appends;
      folds = d.folds;
    };
    worn = h.worn ∙ worn-ok (worn_by b) answers.Empty ∙ d.worn;
  }

  pub misses : IsTake n q (Ok answers.NotHere) b c → IsWork way n q record { from = from; count = count; state = state; ended = ends.NotHere } a c
  misses h = record {
    keeps = keeps-then n a b c d.keeps h.keeps;
    goes = takes-then n q a b c d.keeps.actor d.goes h.goes;
    work = record {
      took = d.took;
      given = given-later (layout_of n) q d.took (known b) (known c) h.keeps.sees d.given;
      appends = appends-then (took_acts q d.took) (Act.NotHere q ∷ []) (known a) (known b) (known c) d.appends h.answer.appends;
      folds = d.folds;
    };
    worn = h.worn ∙ worn-ok (worn_by b) answers.NotHere ∙ d.worn;
  }

  pub stops : (f : CallFault) → IsTake n q (Err f) b c → IsWork way n q record { from = from; count = count; state = state; ended = ends.Fault f } a c
  stops f h = record {
    keeps = keeps-then n a b c d.keeps h.keeps;
    goes = takes-then n q a b c d.keeps.actor d.goes h.goes;
    work = record {
      took = d.took;
      given = given-later (layout_of n) q d.took (known b) (known c) h.keeps.sees d.given;
      appends = subst (λ zs. Appends zs (known a) (known c)) (sym (append-nil (took_acts q d.took))) (appends-still (took_acts q d.took) (known a) (known b) (known c) d.appends h.fault.mine);
      folds = d.folds;
    };
    worn = h.worn ∙ ap (λ o. worn_after {T = TakeAnswer} o (Err f)) d.worn;
  }

pub ruleset draining = (drained-none, empties, misses, stops)
