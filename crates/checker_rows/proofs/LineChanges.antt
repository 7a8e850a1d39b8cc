-- What a change of the map does to each line.
use Rattle.std.proofs.Common.{◌≡◌, Bool, true, false, cond, List, [], ◌∷◌, ◌++◌, Option, Some, refl, sym, ◌∙◌, ap}
use Rattle.std.specs.Prelude.{Result, Ok, Err, OnOk, OnErr, is_err}
use Rattle.std.proofs.lemmas.Bool.{false≢true}
use Rattle.std.specs.declared.collections.VecDeque.{VecDeque}
use Rattle.chorus_entry.specs.declared.id.MsgId.{MsgId}
use Rattle.checker_rows.specs.Keys.{same_line}
use Rattle.checker_rows.specs.Lines.{items_of}
use Rattle.checker_rows.specs.declared.keys.LineKey.{LineKey}
use Rattle.checker_rows.proofs.KeyLemmas.{from_same_line}

module _ {A : Type 0} where
  -- the line at k has one id more
  pub put_longer : (m n : LineKey → Option (VecDeque MsgId A)) (k : LineKey) (w : VecDeque MsgId A) (x : MsgId)
      → ((q : LineKey) → n q ≡ cond (same_line k q) (Some w) (m q)) → w.items ≡ items_of (m k) ++ x ∷ []
      → (q : LineKey) → items_of (n q) ≡ cond (same_line k q) (items_of (m q) ++ x ∷ []) (items_of (m q))
  put_longer m n k w x h e q = ap items_of (h q) ∙ by (same_line k q) refl
    where
      by : (b : Bool) → same_line k q ≡ b → items_of (cond b (Some w) (m q)) ≡ cond b (items_of (m q) ++ x ∷ []) (items_of (m q))
      by true s = e ∙ ap (λ u. items_of (m u) ++ x ∷ []) (from_same_line k q s)
      by false s = refl

  -- the line at k is what f makes of it
  pub put_by : (f : List MsgId → List MsgId) (m n : LineKey → Option (VecDeque MsgId A)) (k : LineKey) (w : VecDeque MsgId A)
      → ((q : LineKey) → n q ≡ cond (same_line k q) (Some w) (m q)) → w.items ≡ f (items_of (m k)) → (q : LineKey) → items_of (n q) ≡ cond (same_line k q) (f (items_of (m q))) (items_of (m q))
  put_by f m n k w h e q = ap items_of (h q) ∙ by (same_line k q) refl
    where
      by : (b : Bool) → same_line k q ≡ b → items_of (cond b (Some w) (m q)) ≡ cond b (f (items_of (m q))) (items_of (m q))
      by true s = e ∙ ap (λ u. f (items_of (m u))) (from_same_line k q s)
      by false s = refl

  pub put_same : (m n : LineKey → Option (VecDeque MsgId A)) (k : LineKey) (w : VecDeque MsgId A)
      → ((q : LineKey) → n q ≡ cond (same_line k q) (Some w) (m q)) → w.items ≡ items_of (m k) → (q : LineKey) → items_of (n q) ≡ items_of (m q)
  put_same m n k w h e q = ap items_of (h q) ∙ by (same_line k q) refl
    where
      by : (b : Bool) → same_line k q ≡ b → items_of (cond b (Some w) (m q)) ≡ items_of (m q)
      by true s = e ∙ ap (λ u. items_of (m u)) (from_same_line k q s)
      by false s = refl

  -- lines other than that at k stay
  pub others_stay : (m n : LineKey → Option (VecDeque MsgId A)) (k : LineKey) (w : VecDeque MsgId A)
      → ((q : LineKey) → n q ≡ cond (same_line k q) (Some w) (m q)) → (q : LineKey) → same_line k q ≡ false → items_of (n q) ≡ items_of (m q)
  others_stay m n k w h q s = ap items_of (h q ∙ ap (λ b. cond b (Some w) (m q)) s)

pub on_err : {A E : Type 0} {P Q : Type 0} (r : Result A E) → OnErr r P → (P → Q) → OnErr r Q
on_err (Ok a) h f = tt
on_err (Err e) h f = f h

pub when_ok : {A E : Type 0} {P : Type 0} (r : Result A E) → is_err r ≡ false → OnOk r P → P
when_ok (Ok a) e h = h
when_ok (Err x) e h = absurd (false≢true (sym e))
