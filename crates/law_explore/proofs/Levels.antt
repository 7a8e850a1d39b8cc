-- Classes level by level stand for all histories of their length.
-- r is a race, c and d are classes, cs and ds lists of them, h and k are histories, m is a move and ms are moves.
use Rattle.std.proofs.Common.{ℕ, zero, suc, ◌≡◌, ◌+◌, ◌*◌, Bool, true, false, cond, List, [], ◌∷◌, ◌++◌, length, map, sum_by, ◌⊎◌, inl, inr, refl, sym, ◌∙◌, ap, subst, add-mul, mul-add, mul-zero, one-mul, arith}
use Rattle.std.specs.List.{All, Contains, flat_map}
use Rattle.std.proofs.lemmas.List.Elements.{All-nil, All-cons}
use Rattle.std.proofs.lemmas.List.Sums.{sum_by-cons, sum_by-append}
use Rattle.law_explore.specs.declared.moves.Move.{Move}
use Rattle.law_explore.specs.Search.{IsHistory, state_after}
use Rattle.law_explore.specs.Races.{Race, Position, may_come, replaying, IsRace}
use Rattle.law_explore.specs.Positions.{ComeAlike, next_behind}
use Rattle.law_explore.specs.Levels.{histories_of, Class, TellsAlike, with_class, with_classes, gone_on, level, IsOneOfAlike, HasClass, LevelsStandForAll}
use Rattle.law_explore.proofs.Searching.{none, here, there, which}
use Rattle.law_explore.proofs.Exploring.{lists-next}
use Rattle.law_explore.proofs.Histories.{AllMay, all-may}
use Rattle.law_explore.proofs.Positions.{itself, turned, joined, one-more, same-next, alike-come}

-- Sums.

together : (a b x y s w : ℕ) → y ≡ x → w ≡ a * x + s → (a + b) * x + s ≡ b * y + w
together a b x y s w e k =
    ap (λ p. p + s) (add-mul a b x) ∙ turned-sum (a * x) (b * x) s ∙ (λ i. b * sym e i + sym k i)
  where
    turned-sum : (p q s : ℕ) → p + q + s ≡ q + (p + s)
    turned-sum p q s = omega arith

module _ (r : Race) (race : IsRace r) where
  abbrev at : List Move → Position
  at h = state_after (replaying r) h

  abbrev History : List Move → Type 0
  History h = IsHistory (replaying r) h

  abbrev count : ℕ
  count = length r.scripts

  -- What is asked of histories, summed up over those that go on.
  module _ (ask : List Move → ℕ) where
    abbrev ask_on : List Move → ℕ
    ask_on h = sum_by (λ (m : Move). ask (m ∷ h)) (next_behind r h)

    sum-moves : (h ms : List Move) → sum_by ask (map (λ (m : Move). m ∷ h) ms) ≡ sum_by (λ (m : Move). ask (m ∷ h)) ms
    sum-moves h [] = refl
    sum-moves h (m ∷ ms) =
        sum_by-cons ask (m ∷ h) (map (λ (o : Move). o ∷ h) ms)
        ∙ ap (λ n. ask (m ∷ h) + n) (sum-moves h ms)
        ∙ sym (sum_by-cons (λ (o : Move). ask (o ∷ h)) m ms)

    sum-histories : (hs : List (List Move)) → sum_by ask (flat_map (λ (h : List Move). map (λ (m : Move). m ∷ h) (next_behind r h)) hs) ≡ sum_by ask_on hs
    sum-histories [] = refl
    sum-histories (h ∷ hs) =
        sum_by-append ask (map (λ (m : Move). m ∷ h) (next_behind r h)) (flat_map (λ (k : List Move). map (λ (m : Move). m ∷ k) (next_behind r k)) hs)
        ∙ (λ i. sum-moves h (next_behind r h) i + sum-histories hs i)
        ∙ sym (sum_by-cons ask_on h hs)

    one-on : IsOneOfAlike r ask → IsOneOfAlike r ask_on
    one-on one h k is_h is_k alike =
        each (next_behind r h) (all-may r h)
        ∙ ap (sum_by (λ (m : Move). ask (m ∷ k))) (sym (same-next r race h k is_h is_k alike))
      where
        each : (ms : List Move) → AllMay r h ms → sum_by (λ (m : Move). ask (m ∷ h)) ms ≡ sum_by (λ (m : Move). ask (m ∷ k)) ms
        each [] may = refl
        each (m ∷ ms) may =
            let next = one-more r race h k m is_k alike may.0 in
            sum_by-cons (λ (o : Move). ask (o ∷ h)) m ms
            ∙ (λ i. one (m ∷ h) (m ∷ k) (may.0, is_h) (next.0, is_k) next.1 i + each ms may.1 i)
            ∙ sym (sum_by-cons (λ (o : Move). ask (o ∷ k)) m ms)

  module _ (same : List Move → List Move → Bool) (tells : TellsAlike r same) where
    abbrev with : Class → List Class → List Class
    with c ds = with_class r same c ds

    abbrev on : Class → List Class
    on c = gone_on r same c

    abbrev step : Class → Move → Class
    step c m = record { shows = m ∷ c.shows; stands_for = c.stands_for }

    -- Classes show histories of their length.

    abbrev Shows : ℕ → Class → Type 0
    Shows n c = History c.shows × (length c.shows ≡ n)

    abbrev AllShow : ℕ → List Class → Type 0
    AllShow n [] = Unit {0}
    AllShow n (c ∷ cs) = Shows n c × AllShow n cs

    all-append : (n : ℕ) (cs ds : List Class) → AllShow n cs → AllShow n ds → AllShow n (cs ++ ds)
    all-append n [] ds f g = g
    all-append n (c ∷ cs) ds f g = (f.0, all-append n cs ds f.1 g)

    all-with : (n : ℕ) (c : Class) (ds : List Class) → Shows n c → AllShow n ds → AllShow n (with c ds)
    all-with n c [] h f = (h, tt)
    all-with n c (d ∷ ds) h f = by (same c.shows d.shows) (all-with n c ds h f.1)
      where
        by : (b : Bool) → AllShow n (with c ds) → AllShow n (cond b (record { shows = d.shows; stands_for = d.stands_for + c.stands_for } ∷ ds) (d ∷ with c ds))
        by true ih = (f.0, f.1)
        by false ih = (f.0, ih)

    all-together : (n : ℕ) (cs ds : List Class) → AllShow n cs → AllShow n ds → AllShow n (with_classes r same cs ds)
    all-together n [] ds f g = g
    all-together n (c ∷ cs) ds f g = all-together n cs (with c ds) f.1 (all-with n c ds f.0 g)

    all-steps : (n : ℕ) (c : Class) (ms : List Move) → Shows n c → AllMay r c.shows ms → AllShow (suc n) (map (step c) ms)
    all-steps n c [] h may = tt
    all-steps n c (m ∷ ms) h may = (((may.0, h.0), ap suc h.1), all-steps n c ms h may.1)

    all-on : (n : ℕ) (cs : List Class) → AllShow n cs → AllShow (suc n) (flat_map on cs)
    all-on n [] f = tt
    all-on n (c ∷ cs) f = all-append (suc n) (on c) (flat_map on cs) (all-steps n c (next_behind r c.shows) f.0 (all-may r c.shows)) (all-on n cs f.1)

    all-show : (n : ℕ) → AllShow n (level r same n)
    all-show zero = ((tt, refl), tt)
    all-show (suc n) = all-together (suc n) (flat_map on (level r same n)) [] (all-on n (level r same n) (all-show n)) tt

    as-all : (n : ℕ) (cs : List Class) → AllShow n cs → All (λ (c : Class). History c.shows × (length c.shows ≡ n)) cs
    as-all n [] f = All-nil (λ (c : Class). History c.shows × (length c.shows ≡ n))
    as-all n (c ∷ cs) f = All-cons (λ (d : Class). History d.shows × (length d.shows ≡ n)) c cs f.0 (as-all n cs f.1)

    -- Sums over the classes.

    module _ (ask : List Move → ℕ) where
      abbrev weight : Class → ℕ
      weight c = c.stands_for * ask c.shows

      sum-with : IsOneOfAlike r ask → (n : ℕ) (c : Class) (ds : List Class) → Shows n c → AllShow n ds → sum_by weight (with c ds) ≡ weight c + sum_by weight ds
      sum-with one n c [] h f = sum_by-cons weight c []
      sum-with one n c (d ∷ ds) h f = by (same c.shows d.shows) refl (sum-with one n c ds h f.1)
        where
          swapped : (a b s w : ℕ) → w ≡ a + s → a + (b + s) ≡ b + w
          swapped a b s w e = omega (arith, e)

          by : (b : Bool) → same c.shows d.shows ≡ b → sum_by weight (with c ds) ≡ weight c + sum_by weight ds
              → sum_by weight (cond b (record { shows = d.shows; stands_for = d.stands_for + c.stands_for } ∷ ds) (d ∷ with c ds)) ≡ weight c + sum_by weight (d ∷ ds)
          by true e ih =
              sum_by-cons weight (record { shows = d.shows; stands_for = d.stands_for + c.stands_for }) ds
              ∙ together d.stands_for c.stands_for (ask d.shows) (ask c.shows) (sum_by weight ds) (sum_by weight (d ∷ ds))
              (one c.shows d.shows h.0 (f.0).0 (tells c.shows d.shows h.0 (f.0).0 e)) (sum_by-cons weight d ds)
          by false e ih =
              sum_by-cons weight d (with c ds)
              ∙ ap (λ s. weight d + s) ih
              ∙ swapped (weight d) (weight c) (sum_by weight ds) (sum_by weight (d ∷ ds)) (sum_by-cons weight d ds)

      sum-together : IsOneOfAlike r ask → (n : ℕ) (cs ds : List Class) → AllShow n cs → AllShow n ds → sum_by weight (with_classes r same cs ds) ≡ sum_by weight cs + sum_by weight ds
      sum-together one n [] ds f g = omega arith
      sum-together one n (c ∷ cs) ds f g =
          sum-together one n cs (with c ds) f.1 (all-with n c ds f.0 g)
          ∙ ap (λ s. sum_by weight cs + s) (sum-with one n c ds f.0 g)
          ∙ shifted (sum_by weight cs) (weight c) (sum_by weight ds) (sum_by weight (c ∷ cs)) (sum_by-cons weight c cs)
        where
          shifted : (a b s w : ℕ) → w ≡ b + a → a + (b + s) ≡ w + s
          shifted a b s w e = omega (arith, e)

      sum-steps : (c : Class) (ms : List Move) → sum_by weight (map (step c) ms) ≡ c.stands_for * sum_by (λ (m : Move). ask (m ∷ c.shows)) ms
      sum-steps c [] = sym (mul-zero c.stands_for)
      sum-steps c (m ∷ ms) =
          sum_by-cons weight (step c m) (map (step c) ms)
          ∙ ap (λ s. c.stands_for * ask (m ∷ c.shows) + s) (sum-steps c ms)
          ∙ sym (mul-add c.stands_for (ask (m ∷ c.shows)) (sum_by (λ (o : Move). ask (o ∷ c.shows)) ms))
          ∙ ap (λ s. c.stands_for * s) (sym (sum_by-cons (λ (o : Move). ask (o ∷ c.shows)) m ms))

      sum-on : (cs : List Class) → sum_by weight (flat_map on cs) ≡ sum_by (λ (c : Class). c.stands_for * ask_on ask c.shows) cs
      sum-on [] = refl
      sum-on (c ∷ cs) =
          sum_by-append weight (on c) (flat_map on cs)
          ∙ (λ i. sum-steps c (next_behind r c.shows) i + sum-on cs i)
          ∙ sym (sum_by-cons (λ (d : Class). d.stands_for * ask_on ask d.shows) c cs)

    sums-are : (n : ℕ) (ask : List Move → ℕ) → IsOneOfAlike r ask → sum_by (λ (c : Class). c.stands_for * ask c.shows) (level r same n) ≡ sum_by ask (histories_of r n)
    sums-are zero ask one = ap (λ s. 0 + s) (one-mul (ask []))
    sums-are (suc n) ask one =
        sum-together ask one (suc n) (flat_map on (level r same n)) [] (all-on n (level r same n) (all-show n)) tt
        ∙ nothing (sum_by (λ (c : Class). c.stands_for * ask c.shows) (flat_map on (level r same n)))
        ∙ sum-on ask (level r same n)
        ∙ sums-are n (ask_on ask) (one-on ask one)
        ∙ sym (sum-histories ask (histories_of r n))
      where
        nothing : (s : ℕ) → s + 0 ≡ s
        nothing s = omega arith

    -- Each history has its class.

    abbrev HasAlike : List Move → List Class → Type 0
    HasAlike h [] = ⊥
    HasAlike h (c ∷ cs) = ComeAlike r c.shows h ⊎ HasAlike h cs

    has-left : (h : List Move) (cs ds : List Class) → HasAlike h cs → HasAlike h (cs ++ ds)
    has-left h [] ds k = absurd k
    has-left h (c ∷ cs) ds (inl a) = inl a
    has-left h (c ∷ cs) ds (inr k) = inr (has-left h cs ds k)

    has-right : (h : List Move) (cs ds : List Class) → HasAlike h ds → HasAlike h (cs ++ ds)
    has-right h [] ds k = k
    has-right h (c ∷ cs) ds k = inr (has-right h cs ds k)

    has-alike : (h k : List Move) (cs : List Class) → ComeAlike r h k → HasAlike h cs → HasAlike k cs
    has-alike h k [] a j = absurd j
    has-alike h k (c ∷ cs) a (inl b) = inl (joined count (at c.shows) (at h) (at k) b a)
    has-alike h k (c ∷ cs) a (inr j) = inr (has-alike h k cs a j)

    has-with : (h : List Move) (c : Class) (ds : List Class) → HasAlike h ds → HasAlike h (with c ds)
    has-with h c [] k = absurd k
    has-with h c (d ∷ ds) k = by (same c.shows d.shows) k (has-with h c ds)
      where
        by : (b : Bool) → HasAlike h (d ∷ ds) → (HasAlike h ds → HasAlike h (with c ds)) → HasAlike h (cond b (record { shows = d.shows; stands_for = d.stands_for + c.stands_for } ∷ ds) (d ∷ with c ds))
        by true j ih = j
        by false (inl a) ih = inl a
        by false (inr j) ih = inr (ih j)

    has-own : (n : ℕ) (c : Class) (ds : List Class) → Shows n c → AllShow n ds → HasAlike c.shows (with c ds)
    has-own n c [] h f = inl (itself count (at c.shows))
    has-own n c (d ∷ ds) h f = by (same c.shows d.shows) refl (has-own n c ds h f.1)
      where
        by : (b : Bool) → same c.shows d.shows ≡ b → HasAlike c.shows (with c ds) → HasAlike c.shows (cond b (record { shows = d.shows; stands_for = d.stands_for + c.stands_for } ∷ ds) (d ∷ with c ds))
        by true e ih = inl (turned count (at c.shows) (at d.shows) (tells c.shows d.shows h.0 (f.0).0 e))
        by false e ih = inr ih

    has-later : (h : List Move) (cs ds : List Class) → HasAlike h ds → HasAlike h (with_classes r same cs ds)
    has-later h [] ds k = k
    has-later h (c ∷ cs) ds k = has-later h cs (with c ds) (has-with h c ds k)

    has-together : (n : ℕ) (h : List Move) (cs ds : List Class) → AllShow n cs → AllShow n ds → HasAlike h cs → HasAlike h (with_classes r same cs ds)
    has-together n h [] ds f g k = absurd k
    has-together n h (c ∷ cs) ds f g (inl a) = has-later h cs (with c ds) (has-alike c.shows h (with c ds) a (has-own n c ds f.0 g))
    has-together n h (c ∷ cs) ds f g (inr k) = has-together n h cs (with c ds) f.1 (all-with n c ds f.0 g) k

    has-step : (c : Class) (h ms : List Move) (m : Move) → Contains ms m → ComeAlike r (m ∷ c.shows) (m ∷ h) → HasAlike (m ∷ h) (map (step c) ms)
    has-step c h [] m k a = absurd (none m k)
    has-step c h (o ∷ ms) m k a = by (which m o ms k) (λ j. has-step c h ms m j a)
      where
        by : (o ≡ m) ⊎ Contains ms m → (Contains ms m → HasAlike (m ∷ h) (map (step c) ms)) → HasAlike (m ∷ h) (step c o ∷ map (step c) ms)
        by (inl e) ih = inl (subst (λ (x : Move). ComeAlike r (x ∷ c.shows) (m ∷ h)) (sym e) a)
        by (inr j) ih = inr (ih j)

    has-on : (n : ℕ) (h : List Move) (m : Move) (cs : List Class) → AllShow n cs → may_come r.net.layout m (at h) ≡ true → HasAlike h cs → HasAlike (m ∷ h) (flat_map on cs)
    has-on n h m [] f may k = absurd k
    has-on n h m (c ∷ cs) f may (inl a) =
        let next = one-more r race h c.shows m (f.0).0 (turned count (at c.shows) (at h) a) may in
        has-left (m ∷ h) (on c) (flat_map on cs)
        (has-step c h (next_behind r c.shows) m ((lists-next r (at c.shows) m).0 next.0) (turned count (at (m ∷ h)) (at (m ∷ c.shows)) next.1))
    has-on n h m (c ∷ cs) f may (inr k) = has-right (m ∷ h) (on c) (flat_map on cs) (has-on n h m cs f.1 may k)

    has-class : (n : ℕ) (h : List Move) → History h → length h ≡ n → HasAlike h (level r same n)
    has-class zero [] is e = inl (itself count (at []))
    has-class zero (m ∷ h) is e = absurd (omega (arith, e))
    has-class (suc n) [] is e = absurd (omega (arith, e))
    has-class (suc n) (m ∷ h) is e =
        has-together (suc n) (m ∷ h) (flat_map on (level r same n)) [] (all-on n (level r same n) (all-show n)) tt
        (has-on n h m (level r same n) (all-show n) is.0 (has-class n h is.1 (omega (arith, e))))

    has-it : (n : ℕ) (h : List Move) (cs : List Class) → AllShow n cs → History h → HasAlike h cs → HasClass r cs h
    has-it n h [] f is k = absurd k
    has-it n h (c ∷ cs) f is (inl a) =
        let on = alike-come r h c.shows [] race (f.0).0 (turned count (at c.shows) (at h) a) is in
        record { class = c; listed = here c cs; alike = a; comes = on.comes; next = on.next }
    has-it n h (c ∷ cs) f is (inr k) =
        let w = has-it n h cs f.1 is k in
        record { class = w.class; listed = there w.class c cs w.listed; alike = w.alike; comes = w.comes; next = w.next }

pub levels-stand-for-all : LevelsStandForAll
levels-stand-for-all r same n race tells =
    record {
      histories = as-all r race same tells n (level r same n) (all-show r race same tells n);
      every = λ h is e. has-it r race same tells n h (level r same n) (all-show r race same tells n) is (has-class r race same tells n h is e);
      sums = λ ask one. sums-are r race same tells n ask one;
    }
