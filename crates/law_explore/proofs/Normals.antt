-- Each history has one in normal form that leaves the same.
use Rattle.std.proofs.Common.{suc, ◌≡◌, Bool, true, false, ◌&&◌, not, cond, List, [], ◌∷◌, length, ◌⊎◌, inl, inr, refl, sym, ◌∙◌, ap, subst}
use Rattle.std.proofs.lemmas.Bool.{false≢true, and_parts, and_from, cases_Bool}
use Rattle.law_explore.specs.Search.{System, state_after, IsHistory, fits, IsNormal, Commutes, NormalsSuffice}

module _ {S E : Type 0} (y : System S E) (Holds : S → Type 0) (c : Commutes y Holds) where
  pub keeps : (es : List E) → IsHistory y es → Holds (state_after y es)
  keeps [] h = c.begins
  keeps (e ∷ es) h = c.goes_on e (state_after y es) (keeps es h.1) h.0

  -- the new event in its place
  abbrev pub inserted : E → List E → List E
  inserted a [] = a ∷ []
  inserted a (m ∷ ms) = cond (fits y a (m ∷ ms)) (a ∷ m ∷ ms) (m ∷ inserted a ms)

  -- where it does not fit, it has nothing in common with the latest, and is less than it or does not fit before it
  misfit : (a m : E) (ms : List E) → fits y a (m ∷ ms) ≡ false → (y.apart a m (state_after y ms) ≡ true) × ((y.less a m ≡ true) ⊎ (fits y a ms ≡ false))
  misfit a m ms h = by (y.apart a m (state_after y ms)) (y.less a m) (fits y a ms) refl refl refl h
    where
      by : (x z w : Bool) → y.apart a m (state_after y ms) ≡ x → y.less a m ≡ z → fits y a ms ≡ w → cond x (not z && w) true ≡ false
          → (y.apart a m (state_after y ms) ≡ true) × ((y.less a m ≡ true) ⊎ (fits y a ms ≡ false))
      by true true w e f g k = (e, inl f)
      by true false false e f g k = (e, inr g)
      by true false true e f g k = absurd (false≢true (sym k))
      by false z w e f g k = absurd (false≢true (sym k))

  pub record Stands (a : E) (ms : List E) : Type 0 where
    pub history : IsHistory y (inserted a ms)
    pub leaves : state_after y (inserted a ms) ≡ y.step a (state_after y ms)
    pub longer : length (inserted a ms) ≡ suc (length ms)

  pub stands : (a : E) (ms : List E) → IsHistory y ms → y.ready a (state_after y ms) ≡ true → Stands a ms
  stands a [] h may = record { history = (may, tt); leaves = refl; longer = refl }
  stands a (m ∷ ms) h may = by (fits y a (m ∷ ms)) refl (λ k. stands a ms h.1 (c.may a m (state_after y ms) k))
    where
      by : (x : Bool) → fits y a (m ∷ ms) ≡ x → (y.apart a m (state_after y ms) ≡ true → Stands a ms) → Stands a (m ∷ ms)
      by true e ih =
          let is : inserted a (m ∷ ms) ≡ a ∷ m ∷ ms = ap (λ z. cond z (a ∷ m ∷ ms) (m ∷ inserted a ms)) e in
          record {
            history = subst (IsHistory y) (sym is) (may, h);
            leaves = ap (state_after y) is;
            longer = ap length is;
          }
      by false e ih =
          let is : inserted a (m ∷ ms) ≡ m ∷ inserted a ms = ap (λ z. cond z (a ∷ m ∷ ms) (m ∷ inserted a ms)) e in
          let two = (misfit a m ms e).0 in
          let s = ih two in
          let holds = keeps ms h.1 in
          record {
            history = subst (IsHistory y) (sym is) (ap (y.ready m) s.leaves ∙ c.still m a (state_after y ms) holds (c.either a m (state_after y ms) two), s.history);
            leaves = ap (state_after y) is ∙ ap (y.step m) s.leaves ∙ c.swap m a (state_after y ms) holds (c.either a m (state_after y ms) two);
            longer = ap length is ∙ ap suc s.longer;
          }

  -- A later event that fitted fits still.

  -- behind the new event, which is less
  behind-it : (m a : E) (s : S) (rest : Bool) → y.less a m ≡ true → rest ≡ true → cond (y.apart m a s) (not (y.less m a) && rest) true ≡ true
  behind-it m a s rest l f = by (y.apart m a s)
    where
      by : (x : Bool) → cond x (not (y.less m a) && rest) true ≡ true
      by true = ap (λ z. not z && rest) (c.one_way a m l) ∙ f
      by false = refl

  pub fits-still : (m a : E) (ms : List E) → IsHistory y ms → y.ready a (state_after y ms) ≡ true → y.apart a m (state_after y ms) ≡ true → fits y m ms ≡ true
      → (y.less a m ≡ true) ⊎ (fits y a ms ≡ false) → fits y m (inserted a ms) ≡ true
  fits-still m a [] h may two f (inl l) = behind-it m a y.start true l refl
  fits-still m a [] h may two f (inr n) = absurd (false≢true (sym n))
  fits-still m a (b ∷ ms) h may two f which = by (fits y a (b ∷ ms)) refl (λ k j l i. fits-still m a ms h.1 k j l i)
    where
      by : (x : Bool) → fits y a (b ∷ ms) ≡ x
          → (y.ready a (state_after y ms) ≡ true → y.apart a m (state_after y ms) ≡ true → fits y m ms ≡ true → (y.less a m ≡ true) ⊎ (fits y a ms ≡ false) → fits y m (inserted a ms) ≡ true)
          → fits y m (inserted a (b ∷ ms)) ≡ true
      by true e ih =
          ap (λ z. fits y m (cond z (a ∷ b ∷ ms) (b ∷ inserted a ms))) e ∙ lesser which
        where
          lesser : (y.less a m ≡ true) ⊎ (fits y a (b ∷ ms) ≡ false) → fits y m (a ∷ b ∷ ms) ≡ true
          lesser (inl l) = behind-it m a (state_after y (b ∷ ms)) (fits y m (b ∷ ms)) l f
          lesser (inr n) = absurd (false≢true (sym n ∙ e))
      by false e ih =
          let first = misfit a b ms e in
          let holds = keeps ms h.1 in
          let s = stands a ms h.1 (c.may a b (state_after y ms) first.0) in
          ap (λ z. fits y m (cond z (a ∷ b ∷ ms) (b ∷ inserted a ms))) e
          ∙ ap (λ (t : S). cond (y.apart m b t) (not (y.less m b) && fits y m (inserted a ms)) true) s.leaves
          ∙ elim (cases_Bool (y.apart m b (y.step a (state_after y ms)))) [
            | inl k ↦
                (let both = c.back a b m (state_after y ms) holds first.0 k (c.either a m (state_after y (b ∷ ms)) two) in
                let parts = and_parts (not (y.less m b)) (fits y m ms) (sym (ap (λ z. cond z (not (y.less m b) && fits y m ms) true) both.0) ∙ f) in
                ap (λ z. cond z (not (y.less m b) && fits y m (inserted a ms)) true) k
                ∙ and_from (not (y.less m b)) (fits y m (inserted a ms)) parts.0
                (ih (c.may a b (state_after y ms) first.0) (c.either m a (state_after y ms) both.1) parts.1 (before (off (y.less m b) parts.0) first.1)))
            | inr k ↦ ap (λ z. cond z (not (y.less m b) && fits y m (inserted a ms)) true) k
          ]
        where
          off : (z : Bool) → not z ≡ true → z ≡ false
          off true h = absurd (false≢true h)
          off false h = refl

          before : y.less m b ≡ false → (y.less a b ≡ true) ⊎ (fits y a ms ≡ false) → (y.less a m ≡ true) ⊎ (fits y a ms ≡ false)
          before not_less (inl l) = inl (c.between a b m l not_less)
          before not_less (inr n) = inr n

  pub stays-normal : (a : E) (ms : List E) → IsHistory y ms → IsNormal y ms → y.ready a (state_after y ms) ≡ true → IsNormal y (inserted a ms)
  stays-normal a [] h n may = (refl, tt)
  stays-normal a (m ∷ ms) h n may = by (fits y a (m ∷ ms)) refl (λ k. stays-normal a ms h.1 n.1 k)
    where
      by : (x : Bool) → fits y a (m ∷ ms) ≡ x → (y.ready a (state_after y ms) ≡ true → IsNormal y (inserted a ms)) → IsNormal y (inserted a (m ∷ ms))
      by true e ih = subst (IsNormal y) (sym (ap (λ z. cond z (a ∷ m ∷ ms) (m ∷ inserted a ms)) e)) (e, n)
      by false e ih =
          let two = misfit a m ms e in
          let ready = c.may a m (state_after y ms) two.0 in
          subst (IsNormal y) (sym (ap (λ z. cond z (a ∷ m ∷ ms) (m ∷ inserted a ms)) e))
          (fits-still m a ms h.1 ready two.0 n.0 two.1, ih ready)

  pub normals_suffice : NormalsSuffice y
  normals_suffice [] h = record { events = []; history = tt; normal = tt; same_end = refl; as_long = refl }
  normals_suffice (e ∷ es) h =
      let older = normals_suffice es h.1 in
      let may : y.ready e (state_after y older.events) ≡ true = ap (y.ready e) older.same_end ∙ h.0 in
      let s = stands e older.events older.history may in
      record {
        events = inserted e older.events;
        history = s.history;
        normal = stays-normal e older.events older.history older.normal may;
        same_end = s.leaves ∙ ap (y.step e) older.same_end;
        as_long = s.longer ∙ ap suc older.as_long;
      }
