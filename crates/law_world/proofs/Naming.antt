-- How ports, groups and messages get their names.
use Rattle.std.proofs.Common.{ℕ, zero, suc, ◌≡◌, ◌≢◌, ◌+◌, ◌-◌, ◌*◌, ◌/◌, ◌%◌, ◌<◌, ◌≤◌, ◌==◌, nat_le, Bool, true, false, not, ◌&&◌, ◌||◌, cond, List, [], ◌∷◌, ◌++◌, count_by, Option, Some, None, is_some, refl, sym, ◌∙◌, ap, subst, arith, inl, inr}
use Rattle.std.proofs.lemmas.Bool.{and_parts, and_from, or_cases, eqb-true, eq-eqb, leb-true, leb-false, le-leb, not-true, false≢true, true≢false, cases_Bool, cases_lt}
use Rattle.chorus_ui.specs.declared.kind.Kind.TheVariants as kinds
use Rattle.chorus_ui.specs.declared.limits.TheConstants.{ACTORS_PER_SITE_LIMIT, PORTS_PER_SITE_LIMIT, GROUPS_PER_SITE_LIMIT}
use Rattle.chorus_ui.specs.declared.ui.Ui.{Ui}
use Rattle.chorus_ui.specs.declared.layout.Layout.{Layout}
use Rattle.chorus_ui.specs.Layout.{IsLayout, has_site, has_actor, first_place, site_of, creation_place, place_at}
use Rattle.chorus_ui.specs.Name.{same_ui}
use Rattle.chorus_ui.specs.NameKind as named
use Rattle.chorus_ui.proofs.Names.{from_same_kind, from_same_ui, same_ui-self}
use Rattle.chorus_entry.specs.declared.entry.Entry.{Entry}
use Rattle.chorus_entry.specs.declared.id.MsgId.{MsgId}
use Rattle.chorus_entry.specs.declared.act.Act.{Act}
use Rattle.chorus_entry.specs.declared.act.Act.TheVariants.{Make, MakeFull, Post, GroupMake, GroupsFull}
use Rattle.chorus_entry.specs.Kinds.{has_kinds}
use Rattle.chorus_entry.specs.Order.{is_at}
use Rattle.chorus_entry.specs.Same.{is_number}
use Rattle.chorus_entry.proofs.Same.{from_same_id}
use Rattle.chorus_world.specs.Views.{views, at, by, is_by, is_group, makes_group}
use Rattle.chorus_world.specs.Ports.{is_made}
use Rattle.chorus_world.specs.Places.{ports_made, ports_after, makes, is_made_here}
use Rattle.chorus_world.specs.Posts.{Posted, post_of}
use Rattle.chorus_world.specs.Groups.{groups_made, groups_after, is_group_place}
use Rattle.chorus_world.specs.Seats as seats
use Rattle.chorus_world.specs.Steps.{act_may, is_legal, next_number, is_full_of_ports, is_home}
use Rattle.chorus_world.specs.SentLaws.{StandsIn}
use Rattle.chorus_world.proofs.Steps.LegalLemmas.{legal_parts}
use Rattle.chorus_world.proofs.Ports.LineLemmas.{none_some}
use Rattle.chorus_world.proofs.Ports.Sites.{place-site}
use Rattle.chorus_world.proofs.Ports.PortMoves.{make_new}
use Rattle.chorus_world.proofs.Messages.SentFacts.{legal-kinds}
use Rattle.chorus_world.proofs.Messages.Decided.{may_as}
use Rattle.chorus_world.proofs.Messages.MessageSteps.{legal_inv}
use Rattle.chorus_world.proofs.Messages.MessageInvariant.{legal_messages}
use Rattle.chorus_world.proofs.Messages.PostLemmas.{post_needs, post_stays}
use Rattle.law_world.specs.Names.{MakesOnce, MakesGroupsOnce, posts, PostsOnce, MakesTheLeast, MadeAllPorts, GroupMakesTheLeast, MadeAllGroups, PostsTheLeast}
use Rattle.law_world.proofs.Entries.{stands-now, stands-later, count-yes, count-no, stood-post}
use Rattle.law_world.proofs.Moves.{made-is}

second : (a b : Bool) → b ≡ true → a || b ≡ true
second true b e = refl
second false b e = e

-- where no entry of a past passes a test, none is counted
count-none : (test : Entry → Bool) (past : List Entry) → ((e : Entry) → StandsIn e past → test e ≡ true → ⊥) → count_by test past ≡ 0
count-none test [] none = refl
count-none test (e ∷ past) none =
    elim (cases_Bool (test e)) [
      | inl t ↦ absurd (none e (stands-now e past) t)
      | inr f ↦ count-no test e past f ∙ count-none test past (λ g s t. none g (stands-later e g past s) t)
    ]

-- what passes a test only where none did before, passes it at most once
once-more : (test : Entry → Bool) (e : Entry) (past : List Entry) → count_by test past ≤ 1 → (test e ≡ true → count_by test past ≡ 0) → count_by test (e ∷ past) ≤ 1
once-more test e past le none =
    elim (cases_Bool (test e)) [
      | inl t ↦ (let c = count-yes test e past t in let z = none t in omega (arith, c, z))
      | inr f ↦ (let c = count-no test e past f in omega (arith, c, le))
    ]

-- Ports.

pub record MakeNeeds (l : Layout) (past : List Entry) (p : ℕ) (q a : Ui) : Type 0 where
  pub site : q.site ≡ a.site
  pub home : place_at l a.site a ≡ p
  pub has : has_site l a.site ≡ true
  pub number : q.number ≡ next_number l p (at p past)
  pub room : ports_made (at p past) < 32 / l.turns

pub make-needs : (l : Layout) (past : List Entry) (p s : ℕ) (q a : Ui) (c : ℕ) → act_may l (views past p s (Make q a c)) p s (Make q a c) ≡ true → MakeNeeds l past p q a
make-needs l past p s q a c h =
    let here = at p past in
    let five = and_parts (is_home l a p && nat_le 1 c && nat_le c 64 && not (is_full_of_ports l here) && (q.site == a.site)) (q.number == next_number l p here) h in
    let four = and_parts (is_home l a p && nat_le 1 c && nat_le c 64 && not (is_full_of_ports l here)) (q.site == a.site) five.0 in
    let three = and_parts (is_home l a p && nat_le 1 c && nat_le c 64) (not (is_full_of_ports l here)) four.0 in
    let two = and_parts (is_home l a p && nat_le 1 c) (nat_le c 64) three.0 in
    let one = and_parts (is_home l a p) (nat_le 1 c) two.0 in
    let home = and_parts (has_actor l a) (place_at l a.site a == p) one.0 in
    record {
      site = eqb-true q.site a.site four.1;
      home = eqb-true (place_at l a.site a) p home.1;
      has = (and_parts (has_site l a.site) (nat_le 1 a.number) (and_parts (has_site l a.site && nat_le 1 a.number) (nat_le a.number ACTORS_PER_SITE_LIMIT) home.0).0).0;
      number = eqb-true q.number (next_number l p here) five.1;
      room = leb-false (PORTS_PER_SITE_LIMIT / l.turns) (ports_made here) (not-true (is_full_of_ports l here) three.1);
    }

few-ports : (t m r n : ℕ) → 1 ≤ t → t ≤ 4 → t ≢ 3 → m < 32 / t → n ≡ m * t + r % t + 1 → n ≤ 32
few-ports zero m r n a b c d e = absurd (omega arith)
few-ports (suc zero) m r n a b c d e = omega arith
few-ports (suc (suc zero)) m r n a b c d e = omega arith
few-ports (suc (suc (suc zero))) m r n a b c d e = absurd (c refl)
few-ports (suc (suc (suc (suc zero)))) m r n a b c d e = omega arith
few-ports (suc (suc (suc (suc (suc t))))) m r n a b c d e = absurd (omega arith)

-- a number whose place is p is one that p makes: its m-th, counted from 0
made-number : (t s n p : ℕ) → 1 ≤ t → t ≤ 4 → t ≢ 3 → 1 ≤ n → s * t + 1 + (n - 1) % t ≡ p → (m : ℕ) × (n ≡ m * t + (p - 1) % t + 1)
made-number zero s n p a b c some e = absurd (omega arith)
made-number (suc zero) s n p a b c some e = (n - 1, omega arith)
made-number (suc (suc zero)) s n p a b c some e = ((n - 1) / 2, omega arith)
made-number (suc (suc (suc zero))) s n p a b c some e = absurd (c refl)
made-number (suc (suc (suc (suc zero)))) s n p a b c some e = ((n - 1) / 4, omega arith)
made-number (suc (suc (suc (suc (suc t))))) s n p a b c some e = absurd (omega arith)

less-made : (t m k r : ℕ) → 1 ≤ t → t ≤ 4 → t ≢ 3 → m * t + r + 1 < k * t + r + 1 → m < k
less-made zero m k r a b c d = absurd (omega arith)
less-made (suc zero) m k r a b c d = omega arith
less-made (suc (suc zero)) m k r a b c d = omega arith
less-made (suc (suc (suc zero))) m k r a b c d = absurd (c refl)
less-made (suc (suc (suc (suc zero)))) m k r a b c d = omega arith
less-made (suc (suc (suc (suc (suc t))))) m k r a b c d = absurd (omega arith)

full-made : (t m r n k : ℕ) → 1 ≤ t → t ≤ 4 → t ≢ 3 → n ≤ 32 → n ≡ m * t + r % t + 1 → 32 / t ≤ k → m < k
full-made zero m r n k a b c d e f = absurd (omega arith)
full-made (suc zero) m r n k a b c d e f = omega arith
full-made (suc (suc zero)) m r n k a b c d e f = omega arith
full-made (suc (suc (suc zero))) m r n k a b c d e f = absurd (c refl)
full-made (suc (suc (suc (suc zero)))) m r n k a b c d e f = omega arith
full-made (suc (suc (suc (suc (suc t))))) m r n k a b c d e f = absurd (omega arith)

-- the m-th port that a place makes
abbrev nth-port : Layout → ℕ → ℕ → Ui
nth-port l p m = record { site = site_of l p; kind = kinds.Port; number = m * l.turns + (p - 1) % l.turns + 1 }

made-nth : (l : Layout) (past : List Entry) (p s : ℕ) (q a : Ui) (c : ℕ) → IsLayout l → has_kinds (Make q a c) ≡ true → act_may l (views past p s (Make q a c)) p s (Make q a c) ≡ true → q ≡ nth-port l p (ports_made (at p past))
made-nth l past p s q a c layout kind may =
    let n = make-needs l past p s q a c may in
    let site : q.site ≡ site_of l p = n.site ∙ (sym (place-site l a.site a layout n.has) ∙ ap (site_of l) n.home) in
    let port : q.kind ≡ kinds.Port = from_same_kind q.kind kinds.Port (and_parts (named.is_port q) (named.is_actor a) kind).0 in
    λ i. record { site = site i; kind = port i; number = n.number i }

made-all : (l : Layout) (past : List Entry) (p m : ℕ) → IsLayout l → is_legal l past ≡ true → m < ports_made (at p past) → is_made_here (nth-port l p m) past ≡ true
made-all l [] p m layout h lt = absurd (omega (arith, lt))
made-all l (e ∷ past) p m layout h lt = go (is_at p e) refl lt (made-all l past p m layout kinds-legal.1)
  where
    kinds-legal : (has_kinds e.act ≡ true) × (is_legal l past ≡ true)
    kinds-legal = legal-kinds l e past h

    new : (a : Act) → e.act ≡ a → e.place ≡ p → m < ports_after a (ports_made (at p past)) → (m < ports_made (at p past) → is_made_here (nth-port l p m) past ≡ true) → makes (nth-port l p m) e.act || is_made_here (nth-port l p m) past ≡ true
    new (Make q b c) is place k ih =
        elim (cases_lt m (ports_made (at p past))) [
          | inl less ↦ second (makes (nth-port l p m) e.act) (is_made_here (nth-port l p m) past) (ih less)
          | inr ge ↦ (
              let last : ports_made (at p past) ≡ m = omega (arith, ge, k) in
              let may = subst (λ z. act_may l (views past z e.seat (Make q b c)) z e.seat (Make q b c) ≡ true) place (subst (λ z. act_may l (views past e.place e.seat z) e.place e.seat z ≡ true) is (legal_parts l e past h).0) in
              let name : q ≡ nth-port l p m = made-nth l past p e.seat q b c layout (ap has_kinds (sym is) ∙ kinds-legal.0) may ∙ ap (nth-port l p) last in
              ap (λ z. makes (nth-port l p m) z || is_made_here (nth-port l p m) past) is
              ∙ ap (λ z. z || is_made_here (nth-port l p m) past) (ap (λ z. same_ui z (nth-port l p m)) name ∙ same_ui-self (nth-port l p m)))
        ]
    new b is place k ih = second (makes (nth-port l p m) e.act) (is_made_here (nth-port l p m) past) (ih k)

    go : (b : Bool) → is_at p e ≡ b → m < ports_made (cond b (e ∷ at p past) (at p past)) → (m < ports_made (at p past) → is_made_here (nth-port l p m) past ≡ true) → makes (nth-port l p m) e.act || is_made_here (nth-port l p m) past ≡ true
    go false t k ih = second (makes (nth-port l p m) e.act) (is_made_here (nth-port l p m) past) (ih k)
    go true t k ih = new e.act refl (eqb-true e.place p t) k ih

-- a port whose place is p is one that p makes
is-nth : (l : Layout) (p : ℕ) (u : Ui) → IsLayout l → has_site l u.site ≡ true → u.kind ≡ kinds.Port → 1 ≤ u.number → creation_place l u ≡ p → (m : ℕ) × (u ≡ nth-port l p m) × (u.number ≡ m * l.turns + (p - 1) % l.turns + 1)
is-nth l p u layout has kind some place =
    let m = made-number l.turns (u.site - 1) u.number p layout.turns_from_one layout.turns_to_four layout.turns_not_three some place in
    let site : u.site ≡ site_of l p = sym (place-site l u.site u layout has) ∙ ap (site_of l) place in
    (m.0, (λ i. record { site = site i; kind = kind i; number = m.1 i }), m.1)

pub makes-the-least : (l : Layout) (past : List Entry) (e : Entry) → IsLayout l → is_legal l (e ∷ past) ≡ true → MakesTheLeast l past e
makes-the-least l past e layout h q a c is =
    let p = e.place in
    let two = legal-kinds l e past h in
    let may = may_as l past e (Make q a c) h is in
    let n = make-needs l past p e.seat q a c may in
    let new = make_new l past p e.seat q a c layout ((legal_inv l past layout two.1).ports q) may in
    let kind : q.kind ≡ kinds.Port = from_same_kind q.kind kinds.Port (and_parts (named.is_port q) (named.is_actor a) (ap has_kinds (sym is) ∙ two.0)).0 in
    let has : has_site l q.site ≡ true = ap (has_site l) n.site ∙ n.has in
    let number = n.number in
    let few : q.number ≤ 32 = few-ports l.turns (ports_made (at p past)) (p - 1) q.number layout.turns_from_one layout.turns_to_four layout.turns_not_three n.room number in (
      record {
        can = and_from (has_site l q.site && nat_le 1 q.number) (nat_le q.number PORTS_PER_SITE_LIMIT) (and_from (has_site l q.site) (nat_le 1 q.number) has (le-leb 1 q.number (omega (arith, number)))) (le-leb q.number 32 few);
        place = new.1;
        new = sym (made-is past q) ∙ ap is_made new.0;
        least = λ k some less there.
            let m = is-nth l p (record q { number = k }) layout has kind some there in
            let lt : m.0 < ports_made (at p past) = less-made l.turns m.0 (ports_made (at p past)) ((p - 1) % l.turns) layout.turns_from_one layout.turns_to_four layout.turns_not_three (let a = m.2 in omega (arith, a, less, number)) in
            ap (λ z. is_made_here z past) m.1 ∙ made-all l past p m.0 layout two.1 lt;
      },
      n.site,
      n.home,
    )

pub made-all-ports : (l : Layout) (past : List Entry) (e : Entry) → IsLayout l → is_legal l (e ∷ past) ≡ true → MadeAllPorts l past e
made-all-ports l past e layout h a n is some few place =
    let p = e.place in
    let two = and_parts (is_home l a p) (is_full_of_ports l (at p past)) (may_as l past e (MakeFull a) h is) in
    let home = and_parts (has_actor l a) (place_at l a.site a == p) two.0 in
    let has = (and_parts (has_site l a.site) (nat_le 1 a.number) (and_parts (has_site l a.site && nat_le 1 a.number) (nat_le a.number ACTORS_PER_SITE_LIMIT) home.0).0).0 in
    let u : Ui = record { site = a.site; kind = kinds.Port; number = n } in
    let m = is-nth l p u layout has refl some place in
    let lt : m.0 < ports_made (at p past) = full-made l.turns m.0 (p - 1) n (ports_made (at p past)) layout.turns_from_one layout.turns_to_four layout.turns_not_three few m.2 (leb-true (PORTS_PER_SITE_LIMIT / l.turns) (ports_made (at p past)) two.1) in
    ap (λ z. is_made_here z past) m.1 ∙ made-all l past p m.0 layout (legal_parts l e past h).1 lt

-- once
stood-made : (q : Ui) (past : List Entry) (e : Entry) → StandsIn e past → makes q e.act ≡ true → is_made_here q past ≡ true
stood-made q past e s m = ap (is_made_here q) s.is ∙ by s.newer
  where
    by : (newer : List Entry) → is_made_here q (newer ++ e ∷ s.older) ≡ true
    by [] = ap (λ b. b || is_made_here q s.older) m
    by (f ∷ newer) = second (makes q f.act) (is_made_here q (newer ++ e ∷ s.older)) (by newer)

pub makes-once : (l : Layout) (past : List Entry) → IsLayout l → is_legal l past ≡ true → MakesOnce past
makes-once l [] layout h q = omega arith
makes-once l (e ∷ past) layout h q =
    once-more (λ (f : Entry). makes q f.act) e past (makes-once l past layout (legal_parts l e past h).1 q)
    (λ t. count-none (λ (f : Entry). makes q f.act) past (λ f s m. true≢false (sym (stood-made q past f s m) ∙ unmade e.act refl t)))
  where
    unmade : (a : Act) → e.act ≡ a → makes q a ≡ true → is_made_here q past ≡ false
    unmade (Make r b c) is t = ap (λ z. is_made_here z past) (sym (from_same_ui r q t)) ∙ (makes-the-least l past e layout h r b c is).0.new
    unmade _ is t = absurd (false≢true t)

-- Groups.

record GroupNeeds (l : Layout) (past : List Entry) (p : ℕ) (g : Ui) : Type 0 where
  has : has_site l g.site ≡ true
  home : first_place l g.site ≡ p
  number : g.number ≡ groups_made (at p past) + 1
  few : g.number ≤ GROUPS_PER_SITE_LIMIT

group-at : (l : Layout) (g : Ui) (p : ℕ) → is_group_place l g p ≡ true → (has_site l g.site ≡ true) × (first_place l g.site ≡ p)
group-at l g p h = go (has_site l g.site) refl h
  where
    go : (b : Bool) → has_site l g.site ≡ b → is_number p (cond b (Some (first_place l g.site)) None) ≡ true → (has_site l g.site ≡ true) × (first_place l g.site ≡ p)
    go true t k = (t, eqb-true (first_place l g.site) p k)
    go false t k = absurd (false≢true k)

group-needs : (l : Layout) (past : List Entry) (p s : ℕ) (g : Ui) → act_may l (views past p s (GroupMake g)) p s (GroupMake g) ≡ true → GroupNeeds l past p g
group-needs l past p s g h =
    let two = and_parts (is_group_place l g p && (g.number == groups_made (at p past) + 1)) (nat_le g.number GROUPS_PER_SITE_LIMIT) h in
    let one = and_parts (is_group_place l g p) (g.number == groups_made (at p past) + 1) two.0 in
    let place = group-at l g p one.0 in
    record { has = place.0; home = place.1; number = eqb-true g.number (groups_made (at p past) + 1) one.1; few = leb-true g.number GROUPS_PER_SITE_LIMIT two.1 }

-- two sites with one first place are one
one-site : (t r s : ℕ) → 1 ≤ t → t ≤ 4 → t ≢ 3 → 1 ≤ r → 1 ≤ s → (r - 1) * t + 1 ≡ (s - 1) * t + 1 → r ≡ s
one-site zero r s a b c d e f = absurd (omega arith)
one-site (suc zero) r s a b c d e f = omega arith
one-site (suc (suc zero)) r s a b c d e f = omega arith
one-site (suc (suc (suc zero))) r s a b c d e f = absurd (c refl)
one-site (suc (suc (suc (suc zero)))) r s a b c d e f = omega arith
one-site (suc (suc (suc (suc (suc t))))) r s a b c d e f = absurd (omega arith)

site-from-one : (l : Layout) (s : ℕ) → has_site l s ≡ true → 1 ≤ s
site-from-one l s h = leb-true 1 s (and_parts (nat_le 1 s) (nat_le s l.sites) h).0

abbrev nth-group : ℕ → ℕ → Ui
nth-group s n = record { site = s; kind = kinds.Group; number = n }

groups-all : (l : Layout) (past : List Entry) (s n : ℕ) → IsLayout l → is_legal l past ≡ true → has_site l s ≡ true → 1 ≤ n → n ≤ groups_made (at (first_place l s) past) → is_group (nth-group s n) past ≡ true
groups-all l [] s n layout h has some le = absurd (omega (arith, some, le))
groups-all l (e ∷ past) s n layout h has some le = go (is_at (first_place l s) e) refl le (groups-all l past s n layout kinds-legal.1 has some)
  where
    kinds-legal : (has_kinds e.act ≡ true) × (is_legal l past ≡ true)
    kinds-legal = legal-kinds l e past h

    new : (a : Act) → e.act ≡ a → e.place ≡ first_place l s → n ≤ groups_after a (groups_made (at (first_place l s) past)) → (n ≤ groups_made (at (first_place l s) past) → is_group (nth-group s n) past ≡ true) → makes_group (nth-group s n) e.act || is_group (nth-group s n) past ≡ true
    new (GroupMake g) is place k ih =
        elim (cases_lt (groups_made (at (first_place l s) past)) n) [
          | inr less ↦ second (makes_group (nth-group s n) e.act) (is_group (nth-group s n) past) (ih less)
          | inl more ↦ (
              let last : groups_made (at (first_place l s) past) + 1 ≡ n = omega (arith, more, k) in
              let may = subst (λ z. act_may l (views past z e.seat (GroupMake g)) z e.seat (GroupMake g) ≡ true) place (subst (λ z. act_may l (views past e.place e.seat z) e.place e.seat z ≡ true) is (legal_parts l e past h).0) in
              let needs = group-needs l past (first_place l s) e.seat g may in
              let site : g.site ≡ s = one-site l.turns g.site s layout.turns_from_one layout.turns_to_four layout.turns_not_three (site-from-one l g.site needs.has) (site-from-one l s has) needs.home in
              let kind : g.kind ≡ kinds.Group = from_same_kind g.kind kinds.Group (ap has_kinds (sym is) ∙ kinds-legal.0) in
              let number : g.number ≡ n = needs.number ∙ last in
              let name : g ≡ nth-group s n = λ i. record { site = site i; kind = kind i; number = number i } in
              ap (λ z. makes_group (nth-group s n) z || is_group (nth-group s n) past) is
              ∙ ap (λ z. z || is_group (nth-group s n) past) (ap (λ z. same_ui z (nth-group s n)) name ∙ same_ui-self (nth-group s n)))
        ]
    new b is place k ih = second (makes_group (nth-group s n) e.act) (is_group (nth-group s n) past) (ih k)

    go : (b : Bool) → is_at (first_place l s) e ≡ b → n ≤ groups_made (cond b (e ∷ at (first_place l s) past) (at (first_place l s) past)) → (n ≤ groups_made (at (first_place l s) past) → is_group (nth-group s n) past ≡ true) → makes_group (nth-group s n) e.act || is_group (nth-group s n) past ≡ true
    go false t k ih = second (makes_group (nth-group s n) e.act) (is_group (nth-group s n) past) (ih k)
    go true t k ih = new e.act refl (eqb-true e.place (first_place l s) t) k ih

-- a group that was made has one of the numbers that its place made
groups-grow : (a : Act) (n : ℕ) → n ≤ groups_after a n
groups-grow (GroupMake g) n = omega arith
groups-grow _ n = omega arith

groups-later : (e : Entry) (past : List Entry) (p : ℕ) → groups_made (at p past) ≤ groups_made (at p (e ∷ past))
groups-later e past p = by (is_at p e)
  where
    by : (b : Bool) → groups_made (at p past) ≤ groups_made (cond b (e ∷ at p past) (at p past))
    by true = groups-grow e.act (groups_made (at p past))
    by false = omega arith

group-number : (l : Layout) (past : List Entry) (g : Ui) → is_legal l past ≡ true → is_group g past ≡ true → g.number ≤ groups_made (at (first_place l g.site) past)
group-number l [] g h k = absurd (false≢true k)
group-number l (e ∷ past) g h k =
    let two = legal_parts l e past h in
    elim (or_cases (makes_group g e.act) (is_group g past) k) [
      | inl now ↦ new e.act refl now
      | inr old ↦ (let le = group-number l past g two.1 old in let more = groups-later e past (first_place l g.site) in omega (arith, le, more))
    ]
  where
    new : (a : Act) → e.act ≡ a → makes_group g a ≡ true → g.number ≤ groups_made (at (first_place l g.site) (e ∷ past))
    new (GroupMake f) is t =
        let same : f ≡ g = from_same_ui f g t in
        let needs = group-needs l past e.place e.seat f (subst (λ z. act_may l (views past e.place e.seat z) e.place e.seat z ≡ true) is (legal_parts l e past h).0) in
        let home : e.place ≡ first_place l g.site = sym needs.home ∙ ap (λ (z : Ui). first_place l z.site) same in
        let made : groups_made (at (first_place l g.site) (e ∷ past)) ≡ groups_made (at (first_place l g.site) past) + 1 =
        ap (λ b. groups_made (cond b (e ∷ at (first_place l g.site) past) (at (first_place l g.site) past))) (eq-eqb e.place (first_place l g.site) home)
        ∙ ap (λ z. groups_after z (groups_made (at (first_place l g.site) past))) is in
        let number : g.number ≡ groups_made (at (first_place l g.site) past) + 1 = ap (λ (z : Ui). z.number) (sym same) ∙ (needs.number ∙ ap (λ z. groups_made (at z past) + 1) home) in
        omega (arith, made, number)
    new _ is t = absurd (false≢true t)

pub group-makes-the-least : (l : Layout) (past : List Entry) (e : Entry) → IsLayout l → is_legal l (e ∷ past) ≡ true → GroupMakesTheLeast l past e
group-makes-the-least l past e layout h g is =
    let two = legal-kinds l e past h in
    let needs = group-needs l past e.place e.seat g (may_as l past e (GroupMake g) h is) in
    let number = needs.number in
    let kind : g.kind ≡ kinds.Group = from_same_kind g.kind kinds.Group (ap has_kinds (sym is) ∙ two.0) in
    record {
      some = omega (arith, number);
      few = needs.few;
      place = ap (λ b. cond b (Some (first_place l g.site)) None) needs.has ∙ ap (λ z. Some z) needs.home;
      new = elim (cases_Bool (is_group g past)) [
        | inr f ↦ f
        | inl t ↦ absurd (
            let le : g.number ≤ groups_made (at e.place past) = subst (λ z. g.number ≤ groups_made (at z past)) needs.home (group-number l past g two.1 t) in
            omega (arith, le, number))
      ];
      least = λ n some less.
          let le : n ≤ groups_made (at (first_place l g.site) past) = subst (λ z. n ≤ groups_made (at z past)) (sym needs.home) (omega (arith, less, number)) in
          let name : record g { number = n } ≡ nth-group g.site n = λ i. record { site = g.site; kind = kind i; number = n } in
          ap (λ z. is_group z past) name ∙ groups-all l past g.site n layout two.1 needs.has some le;
    }

pub made-all-groups : (l : Layout) (past : List Entry) (e : Entry) → IsLayout l → is_legal l (e ∷ past) ≡ true → MadeAllGroups past e
made-all-groups l past e layout h s n is some few =
    let two = and_parts (has_site l s && (first_place l s == e.place)) (groups_made (at e.place past) == GROUPS_PER_SITE_LIMIT) (may_as l past e (GroupsFull s) h is) in
    let one = and_parts (has_site l s) (first_place l s == e.place) two.0 in
    let place = eqb-true (first_place l s) e.place one.1 in
    let made = eqb-true (groups_made (at e.place past)) GROUPS_PER_SITE_LIMIT two.1 in
    groups-all l past s n layout (legal_parts l e past h).1 one.0 some (subst (λ z. n ≤ groups_made (at z past)) (sym place) (omega (arith, few, made)))

stood-group : (g : Ui) (past : List Entry) (e : Entry) → StandsIn e past → makes_group g e.act ≡ true → is_group g past ≡ true
stood-group g past e s m = ap (is_group g) s.is ∙ by s.newer
  where
    by : (newer : List Entry) → is_group g (newer ++ e ∷ s.older) ≡ true
    by [] = ap (λ b. b || is_group g s.older) m
    by (f ∷ newer) = second (makes_group g f.act) (is_group g (newer ++ e ∷ s.older)) (by newer)

pub makes-groups-once : (l : Layout) (past : List Entry) → IsLayout l → is_legal l past ≡ true → MakesGroupsOnce past
makes-groups-once l [] layout h g = omega arith
makes-groups-once l (e ∷ past) layout h g =
    once-more (λ (f : Entry). makes_group g f.act) e past (makes-groups-once l past layout (legal_parts l e past h).1 g)
    (λ t. count-none (λ (f : Entry). makes_group g f.act) past (λ f s m. true≢false (sym (stood-group g past f s m) ∙ unmade e.act refl t)))
  where
    unmade : (a : Act) → e.act ≡ a → makes_group g a ≡ true → is_group g past ≡ false
    unmade (GroupMake f) is t = ap (λ z. is_group z past) (sym (from_same_ui f g t)) ∙ (group-makes-the-least l past e layout h f is).new
    unmade _ is t = absurd (false≢true t)

-- Messages.

abbrev nth-id : ℕ → ℕ → MsgId
nth-id s n = record { seat = s; number = n; copy = 0 }

-- what was posted stays
posted-later : (x : MsgId) (e : Entry) (past : List Entry) → is_some (post_of x past) ≡ true → is_some (post_of x (e ∷ past)) ≡ true
posted-later x e past h = by (post_of x past) refl h
  where
    by : (o : Option Posted) → post_of x past ≡ o → is_some o ≡ true → is_some (post_of x (e ∷ past)) ≡ true
    by None is k = absurd (false≢true k)
    by (Some d) is k = ap is_some (post_stays x past e d is)

ids-all : (l : Layout) (past : List Entry) (s n : ℕ) → is_legal l past ≡ true → 1 ≤ n → n ≤ seats.posts (by s past) → is_some (post_of (nth-id s n) past) ≡ true
ids-all l [] s n h some le = absurd (omega (arith, some, le))
ids-all l (e ∷ past) s n h some le = go (is_by s e) refl le (ids-all l past s n (legal_parts l e past h).1 some)
  where
    new : (a : Act) → e.act ≡ a → e.seat ≡ s → n ≤ seats.posts_after a (seats.posts (by s past)) → (n ≤ seats.posts (by s past) → is_some (post_of (nth-id s n) past) ≡ true) → is_some (post_of (nth-id s n) (e ∷ past)) ≡ true
    new (Post m d) is seat k ih =
        elim (cases_lt (seats.posts (by s past)) n) [
          | inr less ↦ posted-later (nth-id s n) e past (ih less)
          | inl more ↦ (
              let last : seats.posts (by s past) + 1 ≡ n = omega (arith, more, k) in
              let needs = post_needs l past e.place e.seat m d (subst (λ z. act_may l (views past e.place e.seat z) e.place e.seat z ≡ true) is (legal_parts l e past h).0) in
              let number : m.id.number ≡ n = needs.number ∙ (ap (λ z. seats.posts (by z past) + 1) seat ∙ last) in
              let name : m.id ≡ nth-id s n = λ i. record { seat = (needs.seat ∙ seat) i; number = number i; copy = needs.copy i } in
              let known = (stood-post l (e ∷ past) e m d h (stands-now e past) is).0 in
              ap (λ z. is_some (post_of z (e ∷ past))) (sym name) ∙ ap is_some known)
        ]
    new b is seat k ih = posted-later (nth-id s n) e past (ih k)

    go : (b : Bool) → is_by s e ≡ b → n ≤ seats.posts (cond b (e ∷ by s past) (by s past)) → (n ≤ seats.posts (by s past) → is_some (post_of (nth-id s n) past) ≡ true) → is_some (post_of (nth-id s n) (e ∷ past)) ≡ true
    go false t k ih = posted-later (nth-id s n) e past (ih k)
    go true t k ih = new e.act refl (eqb-true e.seat s t) k ih

pub posts-the-least : (l : Layout) (past : List Entry) (e : Entry) → is_legal l (e ∷ past) ≡ true → PostsTheLeast past e
posts-the-least l past e h m d is =
    let before = (legal_parts l e past h).1 in
    let needs = post_needs l past e.place e.seat m d (may_as l past e (Post m d) h is) in
    let number = needs.number in
    let fresh : seats.posts (by m.id.seat past) < m.id.number = subst (λ k. seats.posts (by k past) < m.id.number) (sym needs.seat) (omega (arith, number)) in
    record {
      seat = needs.seat;
      own = needs.copy;
      some = omega (arith, number);
      new = (legal_messages l past before m.id).unposted fresh;
      least = λ n some less.
          let name : record m.id { number = n } ≡ nth-id e.seat n = λ i. record { seat = needs.seat i; number = n; copy = needs.copy i } in
          ap (λ z. is_some (post_of z past)) name ∙ ids-all l past e.seat n before some (omega (arith, less, number));
    }

pub posts-once : (l : Layout) (past : List Entry) → is_legal l past ≡ true → PostsOnce past
posts-once l [] h x = omega arith
posts-once l (e ∷ past) h x =
    let before = (legal_parts l e past h).1 in
    once-more (λ (f : Entry). posts x f.act) e past (posts-once l past before x)
    (λ t. count-none (λ (f : Entry). posts x f.act) past (λ f s m. stood before f f.act s refl m (new e.act refl t)))
  where
    new : (a : Act) → e.act ≡ a → posts x a ≡ true → post_of x past ≡ None
    new (Post m d) is t = ap (λ z. post_of z past) (sym (from_same_id m.id x t)) ∙ (posts-the-least l past e h m d is).new
    new _ is t = absurd (false≢true t)

    stood : is_legal l past ≡ true → (f : Entry) (a : Act) → StandsIn f past → f.act ≡ a → posts x a ≡ true → post_of x past ≡ None → ⊥
    stood before f (Post m d) s is t none =
        none_some (record { place = f.place; message = m; dest = d }) (sym none ∙ (ap (λ z. post_of z past) (sym (from_same_id m.id x t)) ∙ (stood-post l past f m d before s is).0))
    stood before f _ s is t none = false≢true t
