-- Who has which number, through each kind of step.
use Rattle.std.proofs.Common.{◌≡◌, ℕ, ◌+◌, ◌≤◌, eqb, Bool, true, false, cond, List, [], ◌∷◌, ◌++◌, set, length, refl, ap, ◌∙◌, arith, length-append}
use mathlib.Core.Option.{some}
use mathlib.Core.Logic.{dite}
use native.Mathlib.Decide.{ℕ_discrete}
use lib.ListN.{get_elem?}
use Rattle.chorus_turn.specs.declared.view.View.{View}
use Rattle.chorus_turn.specs.Lists.{first_or, total, one, times}
use Rattle.chorus_turn.specs.Knowing.{limit, note_of}
use Rattle.chorus_turn.specs.Rule.{claims, keepers, IsNumbered, first_view, spent_view, drawn_view, left_view, admitted_view, joined_view, closing_view}
use Rattle.chorus_turn.proofs.Counts.{total-set, total-same, total-push, one-same, one-other}
use Rattle.chorus_turn.proofs.Parts.{times-seats_of}
use Rattle.chorus_turn.proofs.Views.{times_claims, length-claims, keepers_live}

one-either : (a b : Bool) → one (cond a true b) ≤ one b + one a
one-either true b = omega arith
one-either false b = omega arith

module _ {R : Type 0} where
  pub numbered_first : IsNumbered 1 (first_view {R = R} ∷ [])
  numbered_first = record {
    few = omega arith;
    once = λ q. dite (ℕ_discrete 0 q) (λ e. let h = one-same q 0 e in omega arith) (λ ne. let h = one-other q 0 ne in omega arith);
    every = λ q less. let h = one-same q 0 (omega arith) in omega arith;
    beyond = λ q le. let h = one-other q 0 (λ e. omega arith) in omega arith;
    count = refl;
    one_keeper = omega arith;
  }

  -- a view changes that claims what it claimed
  pub numbered_same : (n : ℕ) (vs : List (View R)) (id : ℕ) (v w : View R) → IsNumbered n vs → get_elem? vs id ≡ some v → claims w ≡ claims v → keepers w ≡ keepers v → IsNumbered n (set vs id w)
  numbered_same n vs id v w r at same same_keeper = let sum : (q : ℕ) → total (λ (y : View R). times q (claims y)) (set vs id w) ≡ total (λ (y : View R). times q (claims y)) vs = λ q.
      total-same (λ (y : View R). times q (claims y)) vs id v w at (ap (times q) same) in record {
        few = r.few;
        once = λ q. let t = sum q in let o = r.once q in omega arith;
        every = λ q less. let t = sum q in let o = r.every q less in omega arith;
        beyond = λ q le. sum q ∙ r.beyond q le;
        count = total-same (λ (y : View R). length (claims y)) vs id v w at (ap (λ (l : List ℕ). length l) same) ∙ r.count;
        one_keeper = let t = total-same keepers vs id v w at same_keeper in let o = r.one_keeper in omega arith;
      }

  -- the keeper draws the number n
  pub numbered_drawn : (n : ℕ) (vs : List (View R)) (id : ℕ) (v : View R) → IsNumbered n vs → get_elem? vs id ≡ some v → v.live ≡ true → v.drawn ≡ [] → v.knows.made ≡ n → n + 1 ≤ limit → IsNumbered (n + 1) (set vs id (drawn_view v))
  numbered_drawn n vs id v r at live none is fit = let w : View R = drawn_view v in
      let sum : (q : ℕ) → total (λ (y : View R). times q (claims y)) (set vs id w) ≡ total (λ (y : View R). times q (claims y)) vs + one (eqb v.knows.made q) = λ q.
      let t = total-set (λ (y : View R). times q (claims y)) vs id v w at in let a = times_claims q v live in let b = times_claims q w live in let d = ap (times q) none in omega arith in record {
        few = fit;
        once = λ q. let t = sum q in dite (ℕ_discrete v.knows.made q)
            (λ e. let h = one-same q v.knows.made e in let z = r.beyond q (omega arith) in omega arith)
            (λ ne. let h = one-other q v.knows.made ne in let z = r.once q in omega arith);
        every = λ q less. let t = sum q in dite (ℕ_discrete v.knows.made q)
            (λ e. let h = one-same q v.knows.made e in omega arith)
            (λ ne. let z = r.every q (omega arith) in omega arith);
        beyond = λ q le. let t = sum q in let h = one-other q v.knows.made (λ e. omega arith) in let z = r.beyond q (omega arith) in omega arith;
        count = let t = total-set (λ (y : View R). length (claims y)) vs id v w at in let a = length-claims v live in let b = length-claims w live in let d = ap (λ (l : List ℕ). length l) none in let z = r.count in omega arith;
        one_keeper = let t = total-same keepers vs id v w at refl in let o = r.one_keeper in omega arith;
      }

  -- the drawn number goes to a new view
  pub numbered_admitted : (n : ℕ) (vs : List (View R)) (id d : ℕ) (v : View R) → IsNumbered n vs → get_elem? vs id ≡ some v → v.live ≡ true → v.drawn ≡ d ∷ [] → IsNumbered n (set vs id (left_view v) ++ admitted_view v ∷ [])
  numbered_admitted n vs id d v r at live drawn = let l : View R = left_view v in let w : View R = admitted_view v in let number : w.knows.seat ≡ d = ap (first_or 0) drawn in
      let sum : (q : ℕ) → total (λ (y : View R). times q (claims y)) (set vs id l ++ w ∷ []) ≡ total (λ (y : View R). times q (claims y)) vs = λ q.
      let t = total-set (λ (y : View R). times q (claims y)) vs id v l at in let u = total-push (λ (y : View R). times q (claims y)) (set vs id l) w in
      let a = times_claims q v live in let b = times_claims q l live in let c = ap (times q) drawn in let e = ap (λ (m : ℕ). one (eqb m q)) number in omega arith in record {
        few = r.few;
        once = λ q. let t = sum q in let o = r.once q in omega arith;
        every = λ q less. let t = sum q in let o = r.every q less in omega arith;
        beyond = λ q le. sum q ∙ r.beyond q le;
        count = let t = total-set (λ (y : View R). length (claims y)) vs id v l at in let u = total-push (λ (y : View R). length (claims y)) (set vs id l) w in
            let a = length-claims v live in let b = length-claims l live in let c = ap (λ (m : List ℕ). length m) drawn in let o = r.count in omega arith;
        one_keeper = let t = total-set keepers vs id v l at in let u = total-push keepers (set vs id l) w in let o = r.one_keeper in omega arith;
      }

  -- a view takes over the claims of another, which is spent
  pub numbered_joined : (n : ℕ) (vs : List (View R)) (id : ℕ) (v : View R) (other : ℕ) (w : View R) → IsNumbered n vs → get_elem? vs id ≡ some v → get_elem? (set vs id (joined_view v w)) other ≡ some w → v.live ≡ true → w.live ≡ true → w.drawn ≡ []
      → IsNumbered n (set (set vs id (joined_view v w)) other spent_view)
  numbered_joined n vs id v other w r at at' live live' none = let b : View R = joined_view v w in
      let sums : (f : View R → ℕ) → f spent_view ≡ 0 → total f (set (set vs id b) other spent_view) + (f v + f w) ≡ total f vs + f b = λ f z.
      let t = total-set f vs id v b at in let u = total-set f (set vs id b) other w spent_view at' in omega arith in
      let sum : (q : ℕ) → total (λ (y : View R). times q (claims y)) (set (set vs id b) other spent_view) ≡ total (λ (y : View R). times q (claims y)) vs = λ q. let t = sums (λ (y : View R). times q (claims y)) refl in
      let a = times_claims q v live in let c = times_claims q w live' in let d = times_claims q b live in let e = times-seats_of q v.knows.notes (note_of w.knows ∷ w.knows.notes) in let f = ap (times q) none in omega arith in record {
        few = r.few;
        once = λ q. let t = sum q in let o = r.once q in omega arith;
        every = λ q less. let t = sum q in let o = r.every q less in omega arith;
        beyond = λ q le. sum q ∙ r.beyond q le;
        count = let t = sums (λ (y : View R). length (claims y)) refl in let a = length-claims v live in let c = length-claims w live' in let d = length-claims b live in
            let e = length-append v.knows.notes (note_of w.knows ∷ w.knows.notes) in let f = ap (λ (l : List ℕ). length l) none in let o = r.count in omega arith;
        one_keeper = let t = sums keepers refl in let a = keepers_live v live in let c = keepers_live w live' in let d = keepers_live b live in let k = one-either w.knows.keeper v.knows.keeper in let o = r.one_keeper in omega arith;
      }

  -- a view that is not live claims nothing
  pub numbered_left : (n : ℕ) (vs : List (View R)) (v : View R) → IsNumbered n vs → IsNumbered n (vs ++ closing_view v ∷ [])
  numbered_left n vs v r = let w : View R = closing_view v in record {
    few = r.few;
    once = λ q. let u = total-push (λ (y : View R). times q (claims y)) vs w in let o = r.once q in omega arith;
    every = λ q less. let u = total-push (λ (y : View R). times q (claims y)) vs w in let o = r.every q less in omega arith;
    beyond = λ q le. let u = total-push (λ (y : View R). times q (claims y)) vs w in let o = r.beyond q le in omega arith;
    count = let u = total-push (λ (y : View R). length (claims y)) vs w in let o = r.count in omega arith;
    one_keeper = let u = total-push keepers vs w in let o = r.one_keeper in omega arith;
  }
