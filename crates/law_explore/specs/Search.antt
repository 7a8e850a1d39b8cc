-- Histories of anything that goes on step by step, those in normal form, and a search that comes to the end of each.
-- s is a state, a, b, e and m are events, es and ms are histories: events with the latest first.
use Rattle.std.specs.Prelude.{ℕ, zero, suc, ◌≡◌, ◌<◌, Bool, true, false, ◌&&◌, not, if◌then◌else◌, List, [], ◌∷◌, length, Contains}
use Rattle.std.specs.List.{flat_map}

-- What goes on: where it starts, what each event makes of a state, which events may come, and which two have nothing in
-- common.
pub record System (S E : Type 0) : Type 1 where
  pub start : S
  pub step : E → S → S
  pub ready : E → S → Bool
  -- both may come, and neither needs the other
  pub apart : E → E → S → Bool
  -- an order of events, by which the normal form is chosen
  pub less : E → E → Bool

module _ {S E : Type 0} (y : System S E) where
  abbrev pub state_after : List E → S
  state_after [] = y.start
  state_after (e ∷ es) = y.step e (state_after es)

  abbrev pub IsHistory : List E → Type 0
  IsHistory [] = Unit {0}
  IsHistory (e ∷ es) = (y.ready e (state_after es) ≡ true) × IsHistory es

  -- going back over the events that the new one has nothing in common with, none is greater
  abbrev pub fits : E → List E → Bool
  fits a [] = true
  fits a (m ∷ ms) = if y.apart a m (state_after ms) then not (y.less a m) && fits a ms else true

  abbrev pub IsNormal : List E → Type 0
  IsNormal [] = Unit {0}
  IsNormal (e ∷ es) = (fits e es ≡ true) × IsNormal es

-- What a system has to keep so that the histories in normal form suffice.
pub record Commutes {S E : Type 0} (y : System S E) (Holds : S → Type 0) : Type 0 where
  pub begins : Holds y.start
  pub goes_on : (e : E) (s : S) → Holds s → y.ready e s ≡ true → Holds (y.step e s)
  pub may : (a b : E) (s : S) → y.apart a b s ≡ true → y.ready a s ≡ true
  pub either : (a b : E) (s : S) → y.apart a b s ≡ true → y.apart b a s ≡ true
  pub swap : (a b : E) (s : S) → Holds s → y.apart a b s ≡ true → y.step a (y.step b s) ≡ y.step b (y.step a s)
  pub still : (a b : E) (s : S) → Holds s → y.apart a b s ≡ true → y.ready a (y.step b s) ≡ true
  -- what needs neither of two events, where the other came, needed neither before: no event is made ready by each of
  -- two
  pub back : (a b m : E) (s : S) → Holds s → y.apart a b s ≡ true → y.apart m b (y.step a s) ≡ true →
      y.apart m a (y.step b s) ≡ true →
      (y.apart m b s ≡ true) × (y.apart m a s ≡ true)
  pub one_way : (a b : E) → y.less a b ≡ true → y.less b a ≡ false
  pub between : (a b m : E) → y.less a b ≡ true → y.less m b ≡ false → y.less a m ≡ true

module _ {S E : Type 0} (y : System S E) where
  -- a history in normal form, of the same length, that leaves the same
  pub record HasNormal (es : List E) : Type 0 where
    pub events : List E
    pub history : IsHistory y events
    pub normal : IsNormal y events
    pub same_end : state_after y events ≡ state_after y es
    pub as_long : length events ≡ length es

  abbrev pub NormalsSuffice : Type 0
  NormalsSuffice = (es : List E) → IsHistory y es → HasNormal es

  -- A search: depth first, and only over normal forms. `next` lists the events that may come.
  module _ (next : S → List E) where
    abbrev pub ListsNext : Type 0
    ListsNext =
        (s : S) (e : E) → (y.ready e s ≡ true → Contains (next s) e) × (Contains (next s) e → y.ready e s ≡ true)

    -- nothing may come behind it
    abbrev pub IsComplete : List E → Type 0
    IsComplete es = IsHistory y es × (next (state_after y es) ≡ [])

    -- the history itself where nothing is next, else those that go on from it
    abbrev pub or_deeper : List E → List E → List (List E) → List (List E)
    or_deeper es [] deeper = es ∷ []
    or_deeper es (m ∷ ms) deeper = deeper

    -- the complete histories in normal form that go on from one, by less than so many events
    abbrev pub ends_from : ℕ → List E → List (List E)
    ends_from zero es = []
    ends_from (suc depth) es =
        or_deeper es (next (state_after y es))
        (flat_map (λ (e : E). if fits y e es then ends_from depth (e ∷ es) else []) (next (state_after y es)))

    -- each complete history in normal form that is not too long is found, and no other
    abbrev pub FindsAll : Type 0
    FindsAll =
        (depth : ℕ) (es : List E) → IsComplete es → IsNormal y es → length es < depth → Contains (ends_from depth []) es

    abbrev pub FindsNoOther : Type 0
    FindsNoOther = (depth : ℕ) (es : List E) → Contains (ends_from depth []) es → IsComplete es × IsNormal y es
