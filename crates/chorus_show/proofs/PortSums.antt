-- What waits at the ports of a spot, entry by entry from the last to the first.
use Rattle.std.proofs.Common.{◌≡◌, ◌≢◌, ◌⊎◌, ℕ, ◌+◌, ◌-◌, ◌≤◌, Bool, true, false, not, ◌&&◌, cond, Option, Some, None, is_some, List, [], ◌∷◌, ◌++◌, if◌then◌else◌, sum_by, refl, sym, ap, ◌∙◌, subst, zero-add, arith, ⊎_elim, inl, inr, length}
use Rattle.std.specs.Option.{option_or, MatchOption}
use Rattle.std.proofs.lemmas.List.Sums.{sum_by-cons, sum_by-append, count_by-le-length}
use Rattle.chorus_ui.specs.declared.ui.Ui.{Ui}
use Rattle.chorus_ui.specs.Name.{same_ui}
use Rattle.chorus_ui.proofs.Names.{same_ui_tells, same_ui-self}
use Rattle.chorus_entry.specs.declared.act.Act.{Act}
use Rattle.chorus_entry.specs.declared.act.Act.TheVariants.{Make, Accept, Take, Depart, Arrive, Delete}
use Rattle.chorus_entry.specs.declared.entry.Entry.{Entry}
use Rattle.chorus_show.specs.declared.queues.Spot.{Spot}
use Rattle.chorus_show.specs.declared.queues.Queue.{Queue}
use Rattle.chorus_show.specs.Summary.{is_accept, accepts, gives, count, waiting, put_by, spot_in, last_spot, same_spot, port_left, ports_at, waiting_at}
use Rattle.chorus_show.specs.Tally.{is_spot, share, no_queue, news_of, with_later, queue_of}

abbrev pub one_if : Bool → ℕ
one_if b = cond b 1 0

different : (q p : Ui) → q ≢ p → same_ui q p ≡ false
different q p differs = ⊎_elim (λ same. absurd (differs same.1)) (λ other. other.0) (same_ui_tells q p)

option_or-None : (o : Option Spot) → option_or o None ≡ o
option_or-None None = refl
option_or-None (Some s) = refl

module _ (spot : Spot) where
  -- a number that counts only where a port is there
  abbrev at : Option Spot → ℕ → ℕ
  at o n = if is_spot spot o then n else 0

  -- what f says of the first entry's port, where it is left there
  abbrev left : (Ui → ℕ) → Option (Ui × Spot) → List Entry → ℕ
  left f None later = 0
  left f (Some put) later = if same_spot put.1 spot && not (is_some (last_spot put.0 later)) then f put.0 else 0

  sum_if : (f : Ui → ℕ) (b : Bool) (u : Ui) → sum_by f (if b then u ∷ [] else []) ≡ (if b then f u else 0)
  sum_if f true u = omega arith
  sum_if f false u = refl

  sum_left : (f : Ui → ℕ) (o : Option (Ui × Spot)) (later : List Entry) → sum_by f (port_left spot o later) ≡ left f o later
  sum_left f None later = refl
  sum_left f (Some put) later = sum_if f (same_spot put.1 spot && not (is_some (last_spot put.0 later))) put.0

  sum_more : (f : Ui → ℕ) (o : Option (Ui × Spot)) (later : List Entry) → sum_by f (port_left spot o later ++ ports_at spot later) ≡ left f o later + sum_by f (ports_at spot later)
  sum_more f o later = sum_by-append f (port_left spot o later) (ports_at spot later) ∙ ap (λ n. n + sum_by f (ports_at spot later)) (sum_left f o later)

  -- a port that an entry puts somewhere
  own_first : (b : Bool) (n : ℕ) → (if b && true then n else 0) + 0 ≡ (if b then n else 0)
  own_first true n = omega arith
  own_first false n = refl

  own_again : (b : Bool) (n m : ℕ) → (if b && false then n else 0) + m ≡ m
  own_again true n m = omega arith
  own_again false n m = omega arith

  own : (t : Spot) (o : Option Spot) (n : ℕ) → (if same_spot t spot && not (is_some o) then n else 0) + at o n ≡ at (option_or o (Some t)) n
  own t None n = own_first (same_spot t spot) n
  own t (Some s) n = own_again (same_spot t spot) n (at (Some s) n)

  own_left : (f : Ui → ℕ) (q : Ui) (t : Spot) (later : List Entry) → left f (Some (q, t)) later + at (last_spot q later) (f q) ≡ at (option_or (last_spot q later) (Some t)) (f q)
  own_left f q t later = own t (last_spot q later) (f q)

  -- one port's share of a sum over the ports that are there
  module _ (q : Ui) (f g : Ui → ℕ) (others : (p : Ui) → q ≢ p → f p ≡ g p) where
    add_own : (A B SG SF X Y X' Y' : ℕ) → B + X ≡ X' → A + Y ≡ Y' → SG + X ≡ SF + Y → A + SG + X' ≡ B + SF + Y'
    add_own A B SG SF X Y X' Y' own_f own_g ih = omega arith

    add_other : (A B SG SF X Y : ℕ) → A ≡ B → SG + X ≡ SF + Y → A + SG + X ≡ B + SF + Y
    add_other A B SG SF X Y same ih = omega arith

    left_other : (r : Ui) (t : Spot) (later : List Entry) → q ≢ r → left g (Some (r, t)) later ≡ left f (Some (r, t)) later
    left_other r t later differs = ap (λ n. if same_spot t spot && not (is_some (last_spot r later)) then n else 0) (sym (others r differs))

    step : (o : Option (Ui × Spot)) (later : List Entry) → sum_by g (ports_at spot later) + at (last_spot q later) (f q) ≡ sum_by f (ports_at spot later) + at (last_spot q later) (g q) → left g o later + sum_by g (ports_at spot later) + at (option_or (last_spot q later) (spot_in q o)) (f q) ≡ left f o later + sum_by f (ports_at spot later) + at (option_or (last_spot q later) (spot_in q o)) (g q)
    step None later ih = rw (option_or-None (last_spot q later)) (add_other 0 0 _ _ _ _ refl ih)
    step (Some put) later ih = ⊎_elim own_case other_case (same_ui_tells put.0 q)
      where
        own_case : (same_ui put.0 q ≡ true) × (put.0 ≡ q) → left g (Some put) later + sum_by g (ports_at spot later) + at (option_or (last_spot q later) (spot_in q (Some put))) (f q) ≡ left f (Some put) later + sum_by f (ports_at spot later) + at (option_or (last_spot q later) (spot_in q (Some put))) (g q)
        own_case same =
            let own_of : (h : Ui → ℕ) → left h (Some put) later + at (last_spot q later) (h q) ≡ at (option_or (last_spot q later) (Some put.1)) (h q) = λ h. subst (λ p. left h (Some put) later + at (last_spot p later) (h p) ≡ at (option_or (last_spot p later) (Some put.1)) (h p)) same.1 (own put.1 (last_spot put.0 later) (h put.0)) in
            rw (same.0) (add_own _ _ _ _ _ _ _ _ (own_of f) (own_of g) ih)

        other_case : (same_ui put.0 q ≡ false) × (put.0 ≢ q) → left g (Some put) later + sum_by g (ports_at spot later) + at (option_or (last_spot q later) (spot_in q (Some put))) (f q) ≡ left f (Some put) later + sum_by f (ports_at spot later) + at (option_or (last_spot q later) (spot_in q (Some put))) (g q)
        other_case differs =
            rw (differs.0, option_or-None (last_spot q later))
            (add_other _ _ _ _ _ _ (left_other put.0 put.1 later (λ same. differs.1 (sym same))) ih)

    pub change : (later : List Entry) → sum_by g (ports_at spot later) + at (last_spot q later) (f q) ≡ sum_by f (ports_at spot later) + at (last_spot q later) (g q)
    change [] = refl
    change (e ∷ later) =
        rw (sum_more g (put_by e.act) later, sum_more f (put_by e.act) later)
        (step (put_by e.act) later (change later))

-- what it means that an act has news of a port's queue, and that it has none
pub record IsNews (act : Act) (q : Ui) (news : Queue) : Type 0 where
  accepts : (p : Ui) → one_if (accepts p act) ≡ (if same_ui q p then news.accepted else 0)
  gives : (p : Ui) → one_if (gives p act) ≡ (if same_ui q p then news.taken else 0)
  put : (p : Ui) → spot_in p (put_by act) ≡ (if same_ui q p then news.spot else None)
  left : (spot : Spot) (f : Ui → ℕ) (later : List Entry) → left spot f (put_by act) later + at spot (last_spot q later) (f q) ≡ at spot (option_or (last_spot q later) news.spot) (f q)
  small : (news.accepted ≤ 1) × (news.taken ≤ 1)

pub record IsNoNews (act : Act) : Type 0 where
  accepts : (p : Ui) → one_if (accepts p act) ≡ 0
  gives : (p : Ui) → one_if (gives p act) ≡ 0
  put : put_by act ≡ None

either_way : (b : Bool) (n : ℕ) → n ≡ (if b then n else n)
either_way true n = refl
either_way false n = refl

abbrev nowhere : Option Spot
nowhere = None

no_spot : (b : Bool) → nowhere ≡ (if b then nowhere else nowhere)
no_spot true = refl
no_spot false = refl

not_put : (spot : Spot) (f : Ui → ℕ) (q : Ui) (later : List Entry) → 0 + at spot (last_spot q later) (f q) ≡ at spot (option_or (last_spot q later) None) (f q)
not_put spot f q later = rw (option_or-None (last_spot q later)) (omega arith)

put_news : (act : Act) (q : Ui) (s : Spot) → put_by act ≡ Some (q, s) → ((p : Ui) → one_if (accepts p act) ≡ 0) → ((p : Ui) → one_if (gives p act) ≡ 0) → IsNews act q (record { accepted = 0; taken = 0; spot = Some s })
put_news act q s e no_accept no_take = record {
  accepts = λ p. no_accept p ∙ either_way (same_ui q p) 0;
  gives = λ p. no_take p ∙ either_way (same_ui q p) 0;
  put = λ p. rw e refl;
  left = λ spot f later. rw e (own_left spot f q s later);
  small = (omega arith, omega arith);
}

pub news : (act : Act) → MatchOption (news_of act) (IsNoNews act) (λ n. IsNews act n.0 n.1)
news (Accept x q pos) = record { accepts = λ p. refl; gives = λ p. either_way (same_ui q p) 0; put = λ p. no_spot (same_ui q p); left = λ spot f later. not_put spot f q later; small = (omega arith, omega arith) }
news (Take q pos x) = record { accepts = λ p. either_way (same_ui q p) 0; gives = λ p. refl; put = λ p. no_spot (same_ui q p); left = λ spot f later. not_put spot f q later; small = (omega arith, omega arith) }
news (Make q a n) = put_news (Make q a n) q _ refl (λ p. refl) (λ p. refl)
news (Depart q to a hop) = put_news (Depart q to a hop) q _ refl (λ p. refl) (λ p. refl)
news (Arrive q hop) = put_news (Arrive q hop) q _ refl (λ p. refl) (λ p. refl)
news (Delete q discarded) = put_news (Delete q discarded) q _ refl (λ p. refl) (λ p. refl)
news _ = record { accepts = λ p. refl; gives = λ p. refl; put = refl }

-- the sums are at most the number of entries
sum_zero : (us : List Ui) → sum_by (λ u. 0) us ≡ 0
sum_zero [] = refl
sum_zero (u ∷ us) = omega (arith, sum_by-cons (λ u. 0) u us, sum_zero us)

sum_le : (f g : Ui → ℕ) → ((u : Ui) → f u ≤ g u) → (us : List Ui) → sum_by f us ≤ sum_by g us
sum_le f g below [] = omega arith
sum_le f g below (u ∷ us) = omega (arith, sum_by-cons f u us, sum_by-cons g u us, below u, sum_le f g below us)

count_more : (test : Act → Bool) (e : Entry) (later : List Entry) → count test (e ∷ later) ≡ one_if (test e.act) + count test later
count_more test e later = sum_by-cons (λ x. one_if (test x.act)) e later

-- the port that accepts, if one does
record Accepts (act : Act) (q : Ui) : Type 0 where
  port : (p : Ui) → one_if (accepts p act) ≡ (if same_ui q p then 1 else 0)
  counted : one_if (is_accept act) ≡ 1

accepting : (act : Act) → ((q : Ui) × Accepts act q) ⊎ ((p : Ui) → one_if (accepts p act) ≡ 0)
accepting (Accept x q pos) = inl (q, record { port = λ p. refl; counted = refl })
accepting _ = inr (λ p. refl)

at_le : (spot : Spot) (o : Option Spot) (n m : ℕ) → m ≤ n + 1 → at spot o m ≤ at spot o n + 1
at_le spot o n m h = by (is_spot spot o)
  where
    by : (b : Bool) → (if b then m else 0) ≤ (if b then n else 0) + 1
    by true = h
    by false = omega arith

one_or_none : (b : Bool) → (if b then 1 else 0) ≤ 1
one_or_none true = omega arith
one_or_none false = omega arith

module _ (spot : Spot) (es : List Entry) where
  abbrev accepted_at : List Entry → ℕ
  accepted_at later = sum_by (λ p. count (accepts p) later) (ports_at spot es)

  module _ (e : Entry) (later : List Entry) (ih : accepted_at later ≤ count is_accept later) where
    abbrev f : Ui → ℕ
    f p = count (accepts p) later

    abbrev g : Ui → ℕ
    g p = count (accepts p) (e ∷ later)

    accepted : (q : Ui) → Accepts e.act q → accepted_at (e ∷ later) ≤ count is_accept (e ∷ later)
    accepted q a =
        let others : (p : Ui) → q ≢ p → f p ≡ g p = λ p differs. sym (count_more (accepts p) e later ∙ ap (λ n. n + f p) (a.port p ∙ ap (λ b. if b then 1 else 0) (different q p differs)) ∙ zero-add (f p)) in
        let own : g q ≤ f q + 1 = omega (arith, count_more (accepts q) e later, a.port q, one_or_none (same_ui q q)) in
        omega (arith, change spot q f g others es, at_le spot (last_spot q es) (f q) (g q) own, count_more is_accept e later, a.counted)

    not_accepted : ((p : Ui) → one_if (accepts p e.act) ≡ 0) → accepted_at (e ∷ later) ≤ count is_accept (e ∷ later)
    not_accepted none =
        let same : accepted_at (e ∷ later) ≡ accepted_at later = ap (λ h. sum_by h (ports_at spot es)) (λ i p. (count_more (accepts p) e later ∙ ap (λ n. n + f p) (none p) ∙ zero-add (f p)) i) in
        omega (arith, same, count_more is_accept e later)

  accepted_within : (later : List Entry) → accepted_at later ≤ count is_accept later
  accepted_within [] = omega (arith, sum_zero (ports_at spot es))
  accepted_within (e ∷ later) = ⊎_elim (λ s. accepted e later (accepted_within later) s.0 s.1) (not_accepted e later (accepted_within later)) (accepting e.act)

  pub waiting_within : waiting_at spot es ≤ length es
  waiting_within = omega (arith, sum_le (waiting es) (λ p. count (accepts p) es) (λ p. omega arith) (ports_at spot es), accepted_within es, count_by-le-length (λ e. is_accept e.act) es)

-- one more entry
module _ (e : Entry) (later : List Entry) where
  joined : (p : Ui) (d : Queue) (b : Bool) → one_if (accepts p e.act) ≡ (if b then d.accepted else 0) → one_if (gives p e.act) ≡ (if b then d.taken else 0) → spot_in p (put_by e.act) ≡ (if b then d.spot else None) → queue_of p (e ∷ later) ≡ (if b then with_later d (queue_of p later) else queue_of p later)
  joined p d true a t s = λ i. record {
    accepted = (count_more (accepts p) e later ∙ ap (λ n. n + count (accepts p) later) a) i;
    taken = (count_more (gives p) e later ∙ ap (λ n. n + count (gives p) later) t) i;
    spot = option_or (last_spot p later) (s i);
  }
  joined p d false a t s = λ i. record {
    accepted = (count_more (accepts p) e later ∙ ap (λ n. n + count (accepts p) later) a ∙ zero-add (count (accepts p) later)) i;
    taken = (count_more (gives p) e later ∙ ap (λ n. n + count (gives p) later) t ∙ zero-add (count (gives p) later)) i;
    spot = (ap (option_or (last_spot p later)) s ∙ option_or-None (last_spot p later)) i;
  }

  module _ (q : Ui) (d : Queue) (n : IsNews e.act q d) where
    pub queue_more : (p : Ui) → queue_of p (e ∷ later) ≡ (if same_ui q p then with_later d (queue_of p later) else queue_of p later)
    queue_more p = joined p d (same_ui q p) (n.accepts p) (n.gives p) (n.put p)

    own_queue : queue_of q (e ∷ later) ≡ with_later d (queue_of q later)
    own_queue = queue_more q ∙ ap (λ b. if b then with_later d (queue_of q later) else queue_of q later) (same_ui-self q)

    pub waiting_more : (spot : Spot) → waiting_at spot (e ∷ later) + share spot (queue_of q later) ≡ waiting_at spot later + share spot (with_later d (queue_of q later))
    waiting_more spot =
        let others : (p : Ui) → q ≢ p → waiting later p ≡ waiting (e ∷ later) p = λ p differs. sym (ap (λ r. r.accepted - r.taken) (queue_more p ∙ ap (λ b. if b then with_later d (queue_of p later) else queue_of p later) (different q p differs))) in
        let own : share spot (with_later d (queue_of q later)) ≡ at spot (option_or (last_spot q later) d.spot) (waiting (e ∷ later) q) = ap (λ r. at spot (option_or (last_spot q later) d.spot) (r.accepted - r.taken)) (sym own_queue) in
        rw own (added _ _ _ _ _ _ _ (sum_more spot (waiting (e ∷ later)) (put_by e.act) later) (n.left spot (waiting (e ∷ later)) later) (change spot q (waiting later) (waiting (e ∷ later)) others later))
      where
        added : (W L SG SF X Y Z : ℕ) → W ≡ L + SG → L + Y ≡ Z → SG + X ≡ SF + Y → W + X ≡ SF + Z
        added W L SG SF X Y Z w l s = omega arith

  module _ (n : IsNoNews e.act) where
    pub queue_same : (p : Ui) → queue_of p (e ∷ later) ≡ queue_of p later
    queue_same p = joined p no_queue false (n.accepts p) (n.gives p) (ap (spot_in p) n.put)

    pub waiting_same : (spot : Spot) → waiting_at spot (e ∷ later) ≡ waiting_at spot later
    waiting_same spot =
        ap (λ o. sum_by (waiting (e ∷ later)) (port_left spot o later ++ ports_at spot later)) n.put
        ∙ ap (λ h. sum_by h (ports_at spot later)) (λ i p. let r = queue_same p i in r.accepted - r.taken)

pub share_within : (spot : Spot) (port : Ui) (es : List Entry) → share spot (queue_of port es) ≤ length es
share_within spot port es = by (is_spot spot (last_spot port es))
  where
    by : (b : Bool) → (if b then count (accepts port) es - count (gives port) es else 0) ≤ length es
    by true = omega (arith, count_by-le-length (λ e. accepts port e.act) es)
    by false = omega arith
