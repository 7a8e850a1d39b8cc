-- When the table of places is closed and the links are settled, the places are closed.
use Rattle.std.proofs.Common.{ℕ, zero, suc, ◌≡◌, ◌≢◌, ◌+◌, ◌-◌, ◌<◌, ◌==◌, nat_le, Bool, true, false, not, cond, List, [], ◌∷◌, ◌++◌, length, Option, Some, None, is_some, option_to_list, reverse, slice_get, refl, sym, ◌∙◌, ap, subst, inl, inr, arith}
use Rattle.std.proofs.lemmas.Bool.{and_parts, and_from, and_right, eq-eqb, ne_eqb, leb-true, le-leb, cases_eq, false≢true}
use Rattle.std.proofs.lemmas.List.{append-nil}
use Rattle.chorus_ui.specs.declared.layout.Layout.{Layout}
use Rattle.chorus_ui.specs.Layout.{places, has_place}
use Rattle.chorus_entry.specs.declared.packet.Packet.{Packet}
use Rattle.chorus_calls.specs.Callers.{Seated}
use Rattle.law_machine.specs.PlaceState.{started}
use Rattle.place_outbox.specs.Waiting.{list_to}
use Rattle.chorus_place.specs.Calls.{state}
use Rattle.chorus_link.specs.declared.ends.SendEnd.{SendEnd}
use Rattle.chorus_link.specs.declared.ends.RecvEnd.{RecvEnd}
use Rattle.chorus_ruled_ends.specs.Ruled.{Ruled, links, end_to, end_from, sent_by, received_by, name_to, name_from}
use Rattle.chorus_ruled_ends.specs.Linked.{AreOfOneLink}
use Rattle.chorus_serve.specs.Desks.{DeskOf, in_hand}
use Rattle.chorus_turn.specs.declared.knowledge.Remarked.{Remarked}
use Rattle.chorus_turn.specs.declared.knowledge.Knowledge.{Knowledge}
use Rattle.chorus_turn.specs.Calls.{IsMarkAt, Finished}
use Rattle.chorus_turn.specs.Journals.{entries_of}
use Rattle.law_history.specs.Turns.{put_to, from_place}
use Rattle.law_history.specs.PlaceTurns.{machine, is_other}
use Rattle.law_history.specs.Places.{by_link}
use Rattle.law_closing.specs.Remarks.{turns_at}
use Rattle.law_closing.specs.Closing.{IsPlace, Keeps, Tells}
use Rattle.law_closing.specs.Places.{PlaceNote}
use Rattle.chorus_nucleus.specs.declared.site_turns.site.Site.{Site}
use Rattle.chorus_nucleus.specs.SiteTurns.Sites.{entries, Fits, IsPublished}
use Rattle.chorus_nucleus.proofs.SiteTurns.Turning.{fits-as}
use Rattle.chorus_nucleus.specs.Apart.{desk_at, ends_of, ends_at, held_from, waits_to, left_between, goes_from, AreDesksLinked}
use Rattle.chorus_nucleus.proofs.Pairs.{link-same}
use Rattle.chorus_nucleus.specs.Passes.{AreSites, IsCallerOf, desk_of, mark_of, out_name, into_name}
use Rattle.chorus_nucleus.specs.Leaving.{desks_in, state_of, sent_of, waits_of, received_of, held_of, AreSettled, left_at, AreClosedWith}
use Rattle.chorus_nucleus.proofs.Beginning.{named-at, same-some}

pub place-has : (l : Layout) (p : ℕ) → IsPlace (places l) p → has_place l p ≡ true
place-has l p is = and_from (nat_le 1 p) (nat_le p (places l)) (le-leb 1 p is.0) (le-leb p (places l) is.1)

no-place : (l : Layout) (p b : ℕ) → (IsPlace (places l) b → ⊥) → is_other l p b ≡ false
no-place l p b out = by (is_other l p b) refl
  where
    by : (c : Bool) → is_other l p b ≡ c → is_other l p b ≡ false
    by false e = e
    by true e =
        (let has = (and_parts (has_place l b) (not (b == p)) e).0 in
        let two = and_parts (nat_le 1 b) (nat_le b (places l)) has in absurd (out (leb-true 1 b two.0, leb-true b (places l) two.1)))

not-itself : (l : Layout) (p : ℕ) → is_other l p p ≡ false
not-itself l p = and_right (has_place l p) (not (p == p)) (ap not (eq-eqb p p refl))

desks-at : (ss : List (Site Ruled Packet)) (k : ℕ) (s : Site Ruled Packet) → slice_get ss k ≡ Some s → slice_get (desks_in ss) k ≡ Some s.desk
desks-at [] k s e = absurd (cc)
desks-at (t ∷ ss) zero s e = (let same : t ≡ s = same-some t s e in ap (λ (z : Site Ruled Packet). Some z.desk) same)
desks-at (t ∷ ss) (suc k) s e = desks-at ss k s e

site-of : (k : ℕ) (ss : List (Site Ruled Packet)) (d : DeskOf Ruled Packet) → slice_get (desks_in ss) k ≡ Some d → (s : Site Ruled Packet) × (slice_get ss k ≡ Some s) × (s.desk ≡ d)
site-of k [] d e = absurd (cc)
site-of zero (s ∷ ss) d e = (s, refl, same-some s.desk d e)
site-of (suc k) (s ∷ ss) d e = site-of k ss d e

pub desks-count : (ss : List (Site Ruled Packet)) → length (desks_in ss) ≡ length ss
desks-count [] = refl
desks-count (s ∷ ss) = ap suc (desks-count ss)

found : (p : ℕ) (ss : List (Site Ruled Packet)) (n : ℕ) → length ss ≡ n → IsPlace n p → (s : Site Ruled Packet) × (slice_get ss (p - 1) ≡ Some s)
found p states n many is = by (p - 1) states (let low = is.0 in let high = is.1 in omega (arith, low, high, many))
  where
    by : (k : ℕ) (ss : List (Site Ruled Packet)) → k < length ss → (s : Site Ruled Packet) × (slice_get ss k ≡ Some s)
    by k [] lt = absurd (omega (arith, lt))
    by zero (s ∷ ss) lt = (s, refl)
    by (suc k) (s ∷ ss) lt = by k ss (omega (arith, lt))

-- both ends are there, and have one name
one-link : (send : Option (SendEnd Packet)) (recv : Option (RecvEnd Packet)) → is_some (name_to send) ≡ true → name_to send ≡ name_from recv → AreOfOneLink send recv
one-link None recv there e = absurd (false≢true there)
one-link (Some send) None there e = absurd (cc)
one-link (Some send) (Some recv) there e = cc

module _ (l : Layout) (handed states : List (Site Ruled Packet)) (sites : AreSites l handed) (v : Knowledge PlaceNote) (w : Seated) (h : IsCallerOf l v w)
    (f : Finished (λ (s : Site Ruled Packet). entries (desk_of s)) (λ (s : Site Ruled Packet) log. Fits (desk_of s) log × IsPublished (desk_of s) s.board) mark_of handed states v) where
  abbrev ds : List (DeskOf Ruled Packet)
  ds = desks_in states

  pub many : length states ≡ places l
  many = f.all_back ∙ sites.count

  marked : (p : ℕ) → IsPlace (places l) p → (s : Site Ruled Packet) × (desk_at p ds ≡ Some s.desk) × (slice_get states (p - 1) ≡ Some s) × IsMarkAt mark_of handed p (mark_of s)
  marked p is =
      let s = found p states (places l) many is in
      let back : p - 1 + 1 ≡ p = (let low = is.0 in omega (arith, low)) in
      (s.0, desks-at states (p - 1) s.0 s.1, s.1, subst (λ q. IsMarkAt mark_of handed q (mark_of s.0)) back (f.marks (p - 1) s.0 s.1))

  pub links-are : AreDesksLinked ds
  links-are a b ina inb ne =
      let own : (p : ℕ) → IsPlace (length ds) p → IsPlace (places l) p = λ p is. subst (λ n. IsPlace n p) (desks-count states ∙ many) is in
      let s = marked a (own a ina) in
      let t = marked b (own b inb) in
      let named = sites.links a b (mark_of s.0) (mark_of t.0) (own a ina) (own b inb) (λ e. ne (sym e)) s.3 t.3 in
      let out : out_name b (mark_of s.0).ends ≡ name_to (end_to b s.0.desk.ends) = named-at name_to refl s.0.desk.ends.out b in
      let into : into_name a (mark_of t.0).ends ≡ name_from (end_from a t.0.desk.ends) = named-at name_from refl t.0.desk.ends.into a in
      subst (λ r. AreOfOneLink (end_to b r) (end_from a (ends_at b ds))) (sym (ap ends_of s.1))
      (subst (λ r. AreOfOneLink (end_to b s.0.desk.ends) (end_from a r)) (sym (ap ends_of t.1))
      (one-link (end_to b s.0.desk.ends) (end_from a t.0.desk.ends) (sym (ap is_some out) ∙ named.0) (sym out ∙ named.1 ∙ into)))

  pub told : (k : ℕ) (d : DeskOf Ruled Packet) → slice_get ds k ≡ Some d → entries_of (f.log (k + 1)) ≡ reverse d.place.journal
  told k d is =
      let s = site-of k states d is in
      (f.journals k s.0 s.1).0 ∙ ap (λ (z : DeskOf Ruled Packet). reverse z.place.journal) s.2

  abbrev Kept : ℕ → Option (DeskOf Ruled Packet) → Type 0
  Kept p o = Keeps (machine l) (started l p) p (f.log p) (state_of l p o) (sent_of l p o) (waits_of l p (f.log p) o) (received_of l p o) (held_of l p o)

  kept : (p : ℕ) → IsPlace (places l) p → Kept p (desk_at p ds)
  kept p is =
      let s = marked p is in
      let back : p - 1 + 1 ≡ p = (let low = is.0 in omega (arith, low)) in
      let at = sites.marks p (mark_of s.0) is.0 s.3 in
      let d = desk_of s.0 in
      let own : Fits d (f.log p) = subst (λ q. Fits d (f.log q)) back (f.journals (p - 1) s.0 s.2).1.0 in
      subst (Kept p) (sym s.1) (fits-as d.place.layout l d.place.number p (state d.place) (state d.place) d.links d.place.out.lists d.hand (f.log p) at.0 at.1 refl own.keeps)

  settled : (rest : ℕ → ℕ → List Packet) → AreSettled l ds rest → (a b : ℕ) → IsPlace (places l) a → IsPlace (places l) b → sent_of l a (desk_at a ds) b ≡ received_of l b (desk_at b ds) a ++ rest a b
  settled rest ends a b ina inb = elim (cases_eq a b) [
    | inl same ↦ subst (λ c. sent_of l a (desk_at a ds) c ≡ received_of l c (desk_at c ds) a ++ rest a c) same
        (none (desk_at a ds) ∙ sym (ap (λ ks. received_of l a (desk_at a ds) a ++ ks) (ends.own a) ∙ append-nil (received_of l a (desk_at a ds) a) ∙ empty (desk_at a ds)))
    | inr other ↦ ends.each a b ina inb other
  ]
    where
      none : (o : Option (DeskOf Ruled Packet)) → sent_of l a o a ≡ []
      none None = refl
      none (Some d) = ap (λ c. cond c ((links d.ends).sent a) []) (not-itself l a)

      empty : (o : Option (DeskOf Ruled Packet)) → received_of l a o a ≡ []
      empty None = refl
      empty (Some d) = ap (λ c. cond c ((links d.ends).received a) []) (not-itself l a)

  apart : (a b : ℕ) → (IsPlace (places l) a → ⊥) → (o : Option (DeskOf Ruled Packet)) → received_of l b o a ≡ []
  apart a b out None = refl
  apart a b out (Some d) = ap (λ c. cond c ((links d.ends).received a) []) (no-place l b a out)

  tells : Tells (places l) f.log v
  tells = record {
    shows = λ k lt. f.shows k (let n = many in omega (arith, lt, n));
    seats = λ k lt. f.seats k (let n = many in omega (arith, lt, n));
    every = f.every;
  }

  pub closed : (rest : ℕ → ℕ → List Packet) → AreSettled l ds rest → AreClosedWith l f.log v ds rest
  closed rest ends = record {
    finished = tells;
    keeps = kept;
    thread = h.thread;
    threads = h.threads;
    settled = settled rest ends;
    apart = λ a b out inb. apart a b out (desk_at b ds);
  }

-- What the links gave back settles them.

other-true : (l : Layout) (p b : ℕ) → IsPlace (places l) b → b ≢ p → is_other l p b ≡ true
other-true l p b is ne = and_from (has_place l b) (not (b == p)) (place-has l b is) (ap not (ne_eqb b p ne))

module _ (l : Layout) (ds : List (DeskOf Ruled Packet)) (many : length ds ≡ places l) where
  desk-found : (p : ℕ) → IsPlace (places l) p → (d : DeskOf Ruled Packet) × (desk_at p ds ≡ Some d)
  desk-found p is = by (p - 1) ds (let low = is.0 in let high = is.1 in omega (arith, low, high, many))
    where
      by : (k : ℕ) (xs : List (DeskOf Ruled Packet)) → k < length xs → (d : DeskOf Ruled Packet) × (slice_get xs k ≡ Some d)
      by k [] lt = absurd (omega (arith, lt))
      by zero (d ∷ xs) lt = (d, refl)
      by (suc k) (d ∷ xs) lt = by k xs (omega (arith, lt))

  sent-is : (a b : ℕ) → IsPlace (places l) a → IsPlace (places l) b → b ≢ a → sent_of l a (desk_at a ds) b ≡ sent_by (end_to b (ends_at a ds))
  sent-is a b ina inb ne =
      let d = desk-found a ina in
      ap (λ o. sent_of l a o b) d.1 ∙ ap (λ c. cond c (sent_by (end_to b d.0.ends)) []) (other-true l a b inb ne) ∙ sym (ap (λ o. sent_by (end_to b (ends_of o))) d.1)

  received-is : (a b : ℕ) → IsPlace (places l) a → IsPlace (places l) b → b ≢ a → received_of l b (desk_at b ds) a ≡ received_by (end_from a (ends_at b ds))
  received-is a b ina inb ne =
      let d = desk-found b inb in
      ap (λ o. received_of l b o a) d.1 ∙ ap (λ c. cond c (received_by (end_from a d.0.ends)) []) (other-true l b a ina (λ e. ne (sym e)))
      ∙ sym (ap (λ o. received_by (end_from a (ends_of o))) d.1)

  held-is : (a b : ℕ) → IsPlace (places l) a → IsPlace (places l) b → b ≢ a → held_of l b (desk_at b ds) a ≡ held_from a (desk_at b ds)
  held-is a b ina inb ne =
      let d = desk-found b inb in
      ap (λ o. held_of l b o a) d.1 ∙ ap (λ c. cond c (from_place a (option_to_list (in_hand (λ f. f) d.0.hand))) []) (other-true l b a ina (λ e. ne (sym e))) ∙ sym (ap (held_from a) d.1)

  waits-is : (log : List (Remarked PlaceNote)) (a b : ℕ) → IsPlace (places l) a → IsPlace (places l) b → b ≢ a → waits_of l a log (desk_at a ds) b ≡ waits_to b (desk_at a ds)
  waits-is log a b ina inb ne =
      let d = desk-found a ina in
      ap (λ o. waits_of l a log o b) d.1 ∙ ap (λ c. cond c (list_to b d.0.place.out.lists) (put_to b (turns_at a log))) (other-true l a b inb ne) ∙ sym (ap (waits_to b) d.1)

  left-is : (a b : ℕ) → b ≢ a → left_at ds a b ≡ left_between ds a b
  left-is a b ne = ap (λ c. cond c [] (left_between ds a b)) (ne_eqb b a ne)

  pub settles : ((a b : ℕ) → IsPlace (length ds) a → IsPlace (length ds) b → b ≢ a → sent_by (end_to b (ends_at a ds)) ≡ received_by (end_from a (ends_at b ds)) ++ left_between ds a b) → AreSettled l ds (left_at ds)
  settles h = record {
    each = λ a b ina inb ne.
        let other : b ≢ a = λ e. ne (sym e) in
        let back : (p : ℕ) → IsPlace (places l) p → IsPlace (length ds) p = λ p is. subst (λ n. IsPlace n p) (sym many) is in
        sent-is a b ina inb other ∙ h a b (back a ina) (back b inb) other ∙ ap (λ xs. xs ++ left_between ds a b) (sym (received-is a b ina inb other))
        ∙ ap (λ xs. received_of l b (desk_at b ds) a ++ xs) (sym (left-is a b other));
    own = λ a. ap (λ c. cond c [] (left_between ds a a)) (eq-eqb a a refl);
  }

  -- the packets by link are those that histories leave
  pub rest-is : (log : ℕ → List (Remarked PlaceNote)) (links : ℕ → ℕ → List Packet)
      → ((a b : ℕ) → IsPlace (places l) a → IsPlace (places l) b → links a b ≡ held_of l b (desk_at b ds) a ++ (left_at ds a b ++ waits_of l a (log a) (desk_at a ds) b))
      → by_link (places l) (goes_from ds) ≡ by_link (places l) links
  rest-is log links h =
      link-same (places l) (goes_from ds) links
      (λ a b ina inb ne.
      ap (λ xs. xs ++ (left_between ds a b ++ waits_to b (desk_at a ds))) (sym (held-is a b ina inb ne))
      ∙ ap (λ xs. held_of l b (desk_at b ds) a ++ (xs ++ waits_to b (desk_at a ds))) (sym (left-is a b ne))
      ∙ ap (λ xs. held_of l b (desk_at b ds) a ++ (left_at ds a b ++ xs)) (sym (waits-is (log a) a b ina inb ne)) ∙ sym (h a b ina inb))
