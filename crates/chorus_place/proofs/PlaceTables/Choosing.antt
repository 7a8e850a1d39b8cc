-- Who is chosen for a post, and what is ready for each.
use Rattle.std.proofs.Common.{◌≡◌, ℕ, zero, suc, ◌+◌, ◌<◌, ◌≤◌, ◌==◌, ◌&&◌, Bool, true, false, not, cond, Option, Some, None, Result, IfOk, List, [], ◌∷◌, ◌++◌, length, map, take, drop, get_or, All, refl, ◌∙◌, ap, subst, arith}
use Rattle.std.specs.List.{find}
use Rattle.std.proofs.lemmas.List.{take_more}
use Rattle.std.proofs.lemmas.List.Elements.{All-same, All-nil, All-cons, All-head, All-tail, All-push, All-append, All-drop, All-take, All-weaker}
use Rattle.chorus_ui.specs.declared.ui.Ui.{Ui}
use Rattle.chorus_ui.specs.Layout.{has_site, site_of}
use Rattle.law_machine.specs.Doing.{posted_to}
use Rattle.chorus_entry.specs.declared.dest.Dest.{Dest}
use Rattle.chorus_entry.specs.declared.dest.Dest.TheVariants as D
use Rattle.chorus_entry.specs.declared.message.Message.{Message}
use Rattle.chorus_entry.specs.Dest.{group_in, port_in}
use Rattle.chorus_entry.specs.Members.{first_of, listed, round_from}
use Rattle.chorus_world.specs.Groups as world
use Rattle.chorus_groups.specs.declared.choice.Choice.{Choice}
use Rattle.chorus_groups.specs.Groups.{Table, members, rotation}
use Rattle.chorus_groups.specs.Choosing.{is_on, first_at}
use Rattle.chorus_groups.specs.Choosing.{choice as table_choice}
use Rattle.chorus_groups.specs.Made.{made_of}
use Rattle.chorus_groups.proofs.Ties.{first_at-map, round_from-map}
use Rattle.chorus_calls.specs.Callers.{Seated}
use Rattle.place_unsettled.specs.declared.wait.Key.{Key}
use Rattle.place_unsettled.specs.Queues.{Row, room}
use Rattle.law_machine.specs.PlaceState.{PlaceState, newest}
use Rattle.law_machine.specs.Choosing.{by_group, choice, is_at_site}
use Rattle.chorus_place.specs.declared.tables.copies.MemberCopy.{MemberCopy}
use Rattle.chorus_place.specs.PlaceTables.Tables.{IsPort}
use Rattle.chorus_place.specs.PlaceTables.Groups.{members_of, HaveLines, site_at}

pub kind-at : (cs : List MemberCopy) (i : ℕ) (c : MemberCopy) → All IsPort (members_of cs) → i < length cs → get_or cs i c ≡ c → IsPort c.port
kind-at [] i c h lt e = absurd (omega (arith, lt))
kind-at (x ∷ xs) zero c h lt e = subst (λ (y : MemberCopy). IsPort y.port) e (All-head IsPort x.port (members_of xs) h)
kind-at (x ∷ xs) (suc i) c h lt e = kind-at xs i c (All-tail IsPort x.port (members_of xs) h) (omega (arith, lt)) e

pub lines-more : (g : Ui) (rows more : List (Key × Row)) (qs : List Ui) (i : ℕ) (q : Ui) → i < length qs → get_or qs i q ≡ q → ((k : Key) → room rows k ≤ room more k)
    → 0 < room more (by_group g q) → HaveLines g rows (take i qs) → HaveLines g more (take (i + 1) qs)
lines-more g rows more qs i q lt e kept one h =
    All-same (λ r. 0 < room more (by_group g r)) (take (i + 1) qs) (take i qs ++ q ∷ []) (take_more qs i q lt ∙ ap (λ x. take i qs ++ x ∷ []) e)
    (All-push (λ r. 0 < room more (by_group g r)) (take i qs) q
    (All-weaker (λ r. 0 < room rows (by_group g r)) (λ r. 0 < room more (by_group g r)) (λ r l. let k = kept (by_group g r) in omega (arith, k, l)) (take i qs) h) one)

-- a port is on the site alike for both
at-site : (site : ℕ) (s : PlaceState) (q : Ui) → is_on site (site_at s q) ≡ is_at_site site s q
at-site site s q = by (has_site s.layout q.site)
  where
    there : (n k : ℕ) (b : Bool) → ((n + 1) == k) ≡ b → b && not (k == 0) ≡ b
    there n k true e = grind (arith, e)
    there n k false e = refl

    nowhere : (k : ℕ) (b : Bool) → (0 == k) ≡ b → b && not (k == 0) ≡ false
    nowhere k true e = grind (arith, e)
    nowhere k false e = refl

    by : (b : Bool) → is_on site (cond b (site_of s.layout (newest s q).to) 0) ≡ b && (site_of s.layout (newest s q).to == site)
    by true = there _ site (site_of s.layout (newest s q).to == site) refl
    by false = nowhere site (0 == site) refl

pub chosen-same : (d : Dest) (g : Ui) (s : PlaceState) (t : Table) (sites : List ℕ) → group_in d ≡ Some g → ((h : Ui) → members h t ≡ world.members h s.journal)
    → ((h : Ui) → rotation h t ≡ world.rotation h s.journal) → sites ≡ map (site_at s) (members g t) → table_choice t d sites ≡ choice d s
chosen-same (D.Port q) g s t sites e ms rs is = absurd (cc)
chosen-same (D.All h) g s t sites e ms rs is = ms h
chosen-same (D.One h) g s t sites e ms rs is = λ i. listed (first_of (round_from (rs h i) (ms h i)))
chosen-same (D.OneAt h site) g s t sites e ms rs is =
    let same : g ≡ h = cc in
    ap (λ xs. listed (first_at site (round_from (rotation h t) (members h t)) (round_from (rotation h t) xs))) (is ∙ ap (λ x. map (site_at s) (members x t)) same)
    ∙ ap (λ xs. listed (first_at site (round_from (rotation h t) (members h t)) xs)) (round_from-map (site_at s) (rotation h t) (members h t))
    ∙ ap listed (first_at-map site (site_at s) (round_from (rotation h t) (members h t)))
    ∙ (λ i. listed (find (λ q. at-site site s q i) (round_from (rotation h t) (members h t))))
    ∙ (λ i. listed (find (is_at_site site s) (round_from (rs h i) (ms h i))))

pub chosen-as : {E : Type 0} (r : Result Choice E) (qs rs : List Ui) → qs ≡ rs → IfOk r (λ x. x ≡ made_of qs) → IfOk r (λ x. x ≡ made_of rs)
chosen-as r qs rs e h = subst (λ xs. IfOk r (λ x. x ≡ made_of xs)) e h

pub all-chosen : (P : Ui → Type 0) (d : Dest) (g : Ui) (s : PlaceState) → group_in d ≡ Some g → All P (world.members g s.journal) → All P (choice d s)
all-chosen P (D.Port q) g s e h = absurd (cc)
all-chosen P (D.All x) g s e h = let same : g ≡ x = cc in subst (λ u. All P (world.members u s.journal)) same h
all-chosen P (D.One x) g s e h = let same : g ≡ x = cc in first (world.in_turn x s.journal) (subst (λ u. All P (world.in_turn u s.journal)) same (round (world.rotation g s.journal) (world.members g s.journal) h))
  where
    round : (i : ℕ) (qs : List Ui) → All P qs → All P (round_from i qs)
    round i qs k = All-append P (drop i qs) (take i qs) (All-drop P i qs k) (All-take P i qs k)

    first : (qs : List Ui) → All P qs → All P (listed (first_of qs))
    first [] k = All-nil P
    first (q ∷ qs) k = All-cons P q [] (All-head P q qs k) (All-nil P)
all-chosen P (D.OneAt x site) g s e h =
    let same : g ≡ x = cc in found (world.in_turn x s.journal) (subst (λ u. All P (world.in_turn u s.journal)) same (round (world.rotation g s.journal) (world.members g s.journal) h))
  where
    round : (i : ℕ) (qs : List Ui) → All P qs → All P (round_from i qs)
    round i qs k = All-append P (drop i qs) (take i qs) (All-drop P i qs k) (All-take P i qs k)

    one : (b : Bool) (q : Ui) (o : Option Ui) → P q → All P (listed o) → All P (listed (cond b (Some q) o))
    one true q o k h = All-cons P q [] k (All-nil P)
    one false q o k h = h

    found : (qs : List Ui) → All P qs → All P (listed (find (is_at_site site s) qs))
    found [] k = All-nil P
    found (q ∷ qs) k = one (is_at_site site s q) q (find (is_at_site site s) qs) (All-head P q qs k) (found qs (All-tail P q qs k))

pub no-port : (d : Dest) (m : Message) (c : Seated) → port_in d ≡ None → posted_to d m c ≡ c
no-port (D.Port q) m c e = absurd (cc)
no-port (D.All g) m c e = refl
no-port (D.One g) m c e = refl
no-port (D.OneAt g site) m c e = refl
