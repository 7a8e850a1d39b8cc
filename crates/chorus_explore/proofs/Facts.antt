-- What is read of a stage is what is so where its moves lead.
-- c is a scenario, s a stage, ps are places, k is the number of a script, i its place in a list.
use Rattle.std.proofs.Common.{ℕ, zero, suc, ◌≡◌, ◌+◌, ◌-◌, ◌<◌, ◌≤◌, Bool, true, List, [], ◌∷◌, ◌++◌, length, map, drop, Option, Some, None, slice_get, refl, sym, ◌∙◌, ap, ap₂, subst, arith, append_assoc}
use Rattle.std.specs.List.{All, flat_map}
use Rattle.std.proofs.lemmas.List.{length-map}
use Rattle.std.proofs.lemmas.List.Concat.{flat_map-append}
use Rattle.chorus_ui.specs.Layout.{places}
use Rattle.chorus_entry.specs.declared.command.Command.{Command}
use Rattle.chorus_entry.specs.declared.packet.Packet.{Packet}
use Rattle.chorus_calls.specs.Callers.{Seated}
use Rattle.chorus_place.specs.Calls.{Place}
use Rattle.law_machine.specs.declared.outgoing.Outgoing.{Outgoing}
use Rattle.law_network.specs.Network.{NetState, numbers}
use Rattle.law_explore.specs.Outcome.{Fact, left_fact, left_facts, posts_in}
use Rattle.law_explore.specs.Races.{Order, next_of}
use Rattle.law_explore.specs.Moment.{settled_facts, post_facts, place_facts, moving_in, moving_facts, member_facts, caller_facts, next_facts, moment_with}
use Rattle.law_replay.specs.Shown.{orders_of, race_of}
use Rattle.chorus_scene.specs.Scene.{Scene, Script}
use Rattle.chorus_net.specs.Sites.{to_place, waiting_from, all_waiting, net, SitesState, IsSites, ArePlaces}
use Rattle.explore_report.specs.Facts.{fact_line, outcome_lines}
use Rattle.explore_report.proofs.Telling.{flat-flat}
use Rattle.explore_moments.specs.Moments.{states, post_lines, packet_lines, list_lines, box_lines, group_lines}
use Rattle.chorus_explore.specs.declared.race_sites.Progress.{Progress}
use Rattle.chorus_explore.specs.declared.race_sites.Stage.{Stage}
use Rattle.chorus_explore.specs.Stages.{AreProgress, IsNext, IsReached, asked_lines, fact_by, facts_at, left_by, left_line, moves_of, next_command, position}
use Rattle.chorus_explore.proofs.Moving.{no-order, order-next, some-same}
use Rattle.chorus_explore.proofs.Staging.{ProgressAt, posts-are, progress-at, progress-length, settled-are}

-- Packets.

to-lines : (b : ℕ) (l : List Packet) → outcome_lines (moving_facts (to_place b l)) ≡ list_lines l
to-lines b [] = refl
to-lines b (packet ∷ l) =
    flat_map-append fact_line (moving_in packet.cargo) (moving_facts (to_place b l)) ∙ ap (λ xs. packet_lines packet ++ xs) (to-lines b l)

moving-append : (os ps : List Outgoing) → outcome_lines (moving_facts (os ++ ps)) ≡ outcome_lines (moving_facts os) ++ outcome_lines (moving_facts ps)
moving-append os ps = ap outcome_lines (flat_map-append (λ (o : Outgoing). moving_in o.packet.cargo) os ps) ∙ flat_map-append fact_line (moving_facts os) (moving_facts ps)

from-lines : (b : ℕ) (ls : List (List Packet)) → outcome_lines (moving_facts (waiting_from b ls)) ≡ flat_map list_lines ls
from-lines b [] = refl
from-lines b (l ∷ ls) = moving-append (to_place b l) (waiting_from (b + 1) ls) ∙ ap₂ (λ xs ys. xs ++ ys) (to-lines b l) (from-lines (b + 1) ls)

pub way-lines : (ps : List Place) → outcome_lines (moving_facts (all_waiting ps)) ≡ flat_map box_lines ps
way-lines [] = refl
way-lines (p ∷ ps) = moving-append (waiting_from 0 p.out.lists) (all_waiting ps) ∙ ap₂ (λ xs ys. xs ++ ys) (from-lines 0 p.out.lists) (way-lines ps)

-- the places of sites have a list of packets for each place
pub all-lists : (s : SitesState) → IsSites s → All (λ (p : Place). length p.out.lists ≡ places s.layout + 1) s.places
all-lists s kept = by 1 s.places kept.places
  where
    by : (k : ℕ) (ps : List Place) → ArePlaces s.layout k ps → All (λ (p : Place). length p.out.lists ≡ places s.layout + 1) ps
    by k [] h i d lt = absurd (omega (arith, lt))
    by k (p ∷ ps) h zero d lt = h.0.lists
    by k (p ∷ ps) h (suc i) d lt = by (k + 1) ps h.1 i d (omega (arith, lt))

-- Next commands.

-- a script that is as far as its progress
next-is : (asks : Bool) (k : ℕ) (ss : List Script) (lefts : List (List Order)) (tolds : _) (ps : List Progress) (i : ℕ) → (at : ProgressAt asks 1 i ss lefts tolds ps)
    → (fact : ℕ → ℕ → Fact) (o : Order) → next_of (Some at.left) ≡ Some o → left_fact fact k (orders_of at.script) at.left ≡ fact k (at.p.next + 1) ∷ []
next-is asks k ss lefts tolds ps i at fact o next = by at.left at.is.rest next
  where
    long : (n : ℕ) (cs : List Order) → n ≤ length cs → length (drop n cs) + n ≡ length cs
    long zero cs le = omega arith
    long (suc n) [] le = absurd (omega (arith, le))
    long (suc n) (c ∷ cs) le = let l = long n cs (omega (arith, le)) in omega (arith, l)

    by : (left : List Order) → left ≡ drop at.p.next (orders_of at.script) → next_of (Some left) ≡ Some o → left_fact fact k (orders_of at.script) left ≡ fact k (at.p.next + 1) ∷ []
    by [] e n = absurd (cc)
    by (c ∷ rest) e n =
        let l : length (c ∷ rest) + at.p.next ≡ length (orders_of at.script) = ap (λ (os : List Order). length os + at.p.next) e ∙ long at.p.next (orders_of at.script) at.is.few in
        let m : length (orders_of at.script) - length rest ≡ at.p.next + 1 = omega (arith, l) in
        ap (λ (j : ℕ). fact k j ∷ []) m

none-next : (fact : ℕ → ℕ → Fact) (k : ℕ) (all left : List Order) → next_of (Some left) ≡ None → left_fact fact k all left ≡ []
none-next fact k all [] e = refl
none-next fact k all (o ∷ left) e = absurd (cc)

module _ (c : Scene) (s : Stage) (h : IsReached c s) (i : ℕ) (lt : i < length c.scripts) (ended : Bool) where
  abbrev at : ProgressAt s.asks 1 i c.scripts (position c (moves_of s)).left (position c (moves_of s)).told s.scripts.items
  at = progress-at s.asks 1 i c.scripts (position c (moves_of s)).left (position c (moves_of s)).told s.scripts.items h.at.scripts lt

  of-map : (ss : List Script) (j : ℕ) (script : Script) → slice_get ss j ≡ Some script → slice_get (map orders_of ss) j ≡ Some (orders_of script)
  of-map [] j script e = absurd (cc)
  of-map (x ∷ ss) zero script e = ap (λ (y : Script). Some (orders_of y)) (some-same x script e)
  of-map (x ∷ ss) (suc j) script e = of-map ss j script e

  line : left_line ended c (moves_of s) i ≡ outcome_lines (left_fact (fact_by ended) (i + 1) (orders_of at.script) at.left)
  line = ap₂ (λ (o : Option (List Order)) (q : Option (List Order)). outcome_lines (left_by ended (i + 1) o q)) (of-map c.scripts i at.script at.is_script) at.is_left

  pub line-none : next_command c (moves_of s) i ≡ None → left_line ended c (moves_of s) i ≡ []
  line-none none =
      line ∙ ap outcome_lines (none-next (fact_by ended) (i + 1) (orders_of at.script) at.left (sym (ap next_of at.is_left) ∙ no-order c (moves_of s) i none))

  pub line-next : (d : Command) (p : Progress) → IsNext c (moves_of s) i d → slice_get s.scripts.items i ≡ Some p → left_line ended c (moves_of s) i ≡ fact_line (fact_by ended (i + 1) (p.next + 1))
  line-next d p next found =
      let o = order-next c (moves_of s) i d next in
      line
      ∙ ap outcome_lines
      (next-is s.asks (i + 1) c.scripts (position c (moves_of s)).left (position c (moves_of s)).told s.scripts.items i at (fact_by ended) o.0 (sym (ap next_of at.is_left) ∙ o.1.0))
      ∙ none-behind (fact_line (fact_by ended (i + 1) (at.p.next + 1)))
      ∙ ap (λ (q : Progress). fact_line (fact_by ended (i + 1) (q.next + 1))) (some-same at.p p (sym at.is_p ∙ found))
    where
      none-behind : (xs : List ℕ) → xs ++ [] ≡ xs
      none-behind [] = refl
      none-behind (x ∷ xs) = ap (λ ys. x ∷ ys) (none-behind xs)

-- what is left of two lists
abbrev from : Bool → List (List Order) → List (List Order) → ℕ → List ℕ
from ended scripts lefts n = outcome_lines (left_facts (fact_by ended) (n + 1) (drop n scripts) (drop n lefts))

drops : {X : Type 0} (xs : List X) (i : ℕ) → i < length xs → (x : X) × ((slice_get xs i ≡ Some x) × (drop i xs ≡ x ∷ drop (i + 1) xs))
drops [] i lt = absurd (omega (arith, lt))
drops (x ∷ xs) zero lt = (x, (refl, refl))
drops (x ∷ xs) (suc i) lt =
    let rest = drops xs i (omega (arith, lt)) in
    let n : suc (i + 1) ≡ suc i + 1 = omega arith in
    (rest.0, (rest.1.0, rest.1.1 ∙ ap (λ (k : ℕ). rest.0 ∷ drop k (x ∷ xs)) n))

from-next : (ended : Bool) (scripts lefts : List (List Order)) (n : ℕ) → length lefts ≡ length scripts → n < length scripts
    → from ended scripts lefts n ≡ outcome_lines (left_by ended (n + 1) (slice_get scripts n) (slice_get lefts n)) ++ from ended scripts lefts (n + 1)
from-next ended scripts lefts n same lt =
    let a = drops scripts n lt in
    let b = drops lefts n (omega (arith, lt, same)) in
    ap₂ (λ (xs ys : List (List Order)). outcome_lines (left_facts (fact_by ended) (n + 1) xs ys)) a.1.1 b.1.1
    ∙ flat_map-append fact_line (left_fact (fact_by ended) (n + 1) a.0 b.0) (left_facts (fact_by ended) (n + 1 + 1) (drop (n + 1) scripts) (drop (n + 1) lefts))
    ∙ sym (ap₂ (λ (o : Option (List Order)) (q : Option (List Order)). outcome_lines (left_by ended (n + 1) o q) ++ from ended scripts lefts (n + 1)) a.1.0 b.1.0)

drop-past : {X : Type 0} (xs : List X) (n : ℕ) → length xs ≤ n → drop n xs ≡ []
drop-past [] zero le = refl
drop-past [] (suc n) le = refl
drop-past (x ∷ xs) zero le = absurd (omega (arith, le))
drop-past (x ∷ xs) (suc n) le = drop-past xs n (omega (arith, le))

from-past : (ended : Bool) (scripts lefts : List (List Order)) (n : ℕ) → length scripts ≤ n → from ended scripts lefts n ≡ []
from-past ended scripts lefts n le = ap (λ (xs : List (List Order)). outcome_lines (left_facts (fact_by ended) (n + 1) xs (drop n lefts))) (drop-past scripts n le)

module _ (c : Scene) (s : Stage) (ended : Bool) where
  abbrev scripts : List (List Order)
  scripts = (race_of c).scripts

  abbrev lefts : List (List Order)
  lefts = (position c (moves_of s)).left

  many : length scripts ≡ length c.scripts
  many = length-map c.scripts orders_of

  as-long : IsReached c s → length lefts ≡ length scripts
  as-long h = (progress-length s.asks 1 c.scripts lefts (position c (moves_of s)).told s.scripts.items h.at.scripts).1 ∙ sym many

  -- those that are left complete the text
  abbrev pub Completes : List ℕ → List ℕ → ℕ → Type 0
  Completes now old n = now ++ from ended scripts lefts n ≡ old ++ outcome_lines (left_facts (fact_by ended) 1 scripts lefts)

  pub completes-next : IsReached c s → (now new old : List ℕ) (n : ℕ) → n < length c.scripts → Completes now old n → new ≡ now ++ left_line ended c (moves_of s) n → Completes new old (n + 1)
  completes-next h now new old n lt so e =
      ap (λ xs. xs ++ from ended scripts lefts (n + 1)) e ∙ append_assoc now (left_line ended c (moves_of s) n) (from ended scripts lefts (n + 1))
      ∙ sym (ap (λ xs. now ++ xs) (from-next ended scripts lefts n (as-long h) (let m = many in omega (arith, lt, m)))) ∙ so

  pub completes-all : (now old : List ℕ) (n : ℕ) → length c.scripts ≤ n → Completes now old n → now ≡ old ++ outcome_lines (left_facts (fact_by ended) 1 scripts lefts)
  completes-all now old n le so = sym (nothing now) ∙ sym (ap (λ xs. now ++ xs) (from-past ended scripts lefts n (let m = many in omega (arith, le, m)))) ∙ so
    where
      nothing : (xs : List ℕ) → xs ++ [] ≡ xs
      nothing [] = refl
      nothing (x ∷ xs) = ap (λ ys. x ∷ ys) (nothing xs)

-- All of it.

pub lines-are : (scripts left : List (List Order)) (told : _) (n : NetState)
    → outcome_lines (moment_with scripts left told n)
    ≡ ((((outcome_lines (settled_facts 1 told) ++ outcome_lines (flat_map (post_facts n.places) (posts_in told))) ++ outcome_lines (place_facts n.places)) ++ outcome_lines (moving_facts n.packets))
    ++ outcome_lines (flat_map member_facts n.places))
    ++ (outcome_lines (flat_map (λ (k : ℕ). caller_facts k (slice_get n.callers k)) (numbers (length scripts) 1)) ++ outcome_lines (next_facts scripts left))
lines-are scripts left told n =
    let a = settled_facts 1 told in
    let b = flat_map (post_facts n.places) (posts_in told) in
    let d = place_facts n.places in
    let e = moving_facts n.packets in
    let f = flat_map member_facts n.places in
    let g = flat_map (λ (k : ℕ). caller_facts k (slice_get n.callers k)) (numbers (length scripts) 1) in
    let i = next_facts scripts left in
    flat_map-append fact_line (a ++ b ++ d ++ e ++ f) (g ++ i)
    ∙ ap₂ (λ xs ys. xs ++ ys)
    (flat_map-append fact_line (a ++ b ++ d ++ e) f
    ∙ ap (λ xs. xs ++ outcome_lines f) (flat_map-append fact_line (a ++ b ++ d) e
    ∙ ap (λ xs. xs ++ outcome_lines e) (flat_map-append fact_line (a ++ b) d
    ∙ ap (λ xs. xs ++ outcome_lines d) (flat_map-append fact_line a b))))
    (flat_map-append fact_line g i)

module _ (c : Scene) (s : Stage) (h : IsReached c s) (asks : s.asks ≡ true) where
  pub facts-told : (ps : List Place) (callers : List Seated) (count : ℕ) → ps ≡ s.sites.places → callers ≡ s.sites.callers → count ≡ length c.scripts
      → ((((flat_map (λ (p : Progress). p.answers.items) s.scripts.items ++ flat_map (asked_lines (states ps)) s.scripts.items) ++ outcome_lines (place_facts (states ps))) ++ flat_map box_lines ps)
      ++ flat_map group_lines (states ps))
      ++ (flat_map (λ (k : ℕ). outcome_lines (caller_facts k (slice_get callers k))) (numbers count 1) ++ outcome_lines (next_facts (race_of c).scripts (position c (moves_of s)).left))
      ≡ facts_at c (moves_of s)
  facts-told ps callers count is-ps is-callers is-count =
      let p = position c (moves_of s) in
      let scripts = (race_of c).scripts in
      let n = net s.sites in
      let answers = settled-are 1 c.scripts p.left p.told s.scripts.items (subst (λ (by : Bool). AreProgress by 1 c.scripts p.left p.told s.scripts.items) asks h.at.scripts) in
      let posts = posts-are s.asks 1 c.scripts p.left p.told s.scripts.items h.at.scripts in
      let many : count ≡ length scripts = is-count ∙ sym (length-map c.scripts orders_of) in
      (λ j. ((((flat_map (λ (q : Progress). q.answers.items) s.scripts.items ++ flat_map (asked_lines (states (is-ps j))) s.scripts.items) ++ outcome_lines (place_facts (states (is-ps j)))) ++ flat_map box_lines (is-ps j))
      ++ flat_map group_lines (states (is-ps j)))
      ++ (flat_map (λ (k : ℕ). outcome_lines (caller_facts k (slice_get (is-callers j) k))) (numbers (many j) 1) ++ outcome_lines (next_facts scripts p.left)))
      ∙ (λ j. ((((sym answers j
      ++ (sym (flat-flat (post_lines n.places) (λ (q : Progress). q.posts.items) s.scripts.items) ∙ ap (flat_map (post_lines n.places)) (sym posts) ∙ sym (flat-flat fact_line (post_facts n.places) (posts_in p.told))) j)
      ++ outcome_lines (place_facts n.places)) ++ sym (way-lines s.sites.places) j) ++ sym (flat-flat fact_line member_facts n.places) j)
      ++ (sym (flat-flat fact_line (λ (k : ℕ). caller_facts k (slice_get n.callers k)) (numbers (length scripts) 1)) j ++ outcome_lines (next_facts scripts p.left)))
      ∙ sym (lines-are scripts p.left p.told n)
      ∙ ap (λ (m : NetState). outcome_lines (moment_with scripts p.left p.told m)) h.at.net

  -- the text, as it is put together
  pub facts-text : (none one two three four five six seven : List ℕ) (a b : List Progress) (ps : List Place) (callers : List Seated) (count : ℕ) → none ≡ []
      → one ≡ none ++ flat_map (λ (p : Progress). p.answers.items) a → two ≡ one ++ flat_map (asked_lines (states ps)) b → three ≡ two ++ outcome_lines (place_facts (states ps))
      → four ≡ three ++ flat_map box_lines ps → five ≡ four ++ flat_map group_lines (states ps)
      → six ≡ five ++ flat_map (λ (k : ℕ). outcome_lines (caller_facts k (slice_get callers k))) (numbers count 1)
      → seven ≡ six ++ outcome_lines (next_facts (race_of c).scripts (position c (moves_of s)).left)
      → a ≡ s.scripts.items → b ≡ s.scripts.items → ps ≡ s.sites.places → callers ≡ s.sites.callers → count ≡ length c.scripts → seven ≡ facts_at c (moves_of s)
  facts-text none one two three four five six seven a b ps callers count nothing first second third fourth fifth sixth seventh is-a is-b is-ps is-callers is-count =
      let answers = flat_map (λ (p : Progress). p.answers.items) a in
      let posts = flat_map (asked_lines (states ps)) b in
      let ports = outcome_lines (place_facts (states ps)) in
      let way = flat_map box_lines ps in
      let groups = flat_map group_lines (states ps) in
      let called = flat_map (λ (k : ℕ). outcome_lines (caller_facts k (slice_get callers k))) (numbers count 1) in
      let left = outcome_lines (next_facts (race_of c).scripts (position c (moves_of s)).left) in
      seventh
      ∙ ap (λ xs. xs ++ left)
      (sixth ∙ ap (λ xs. xs ++ called)
      (fifth ∙ ap (λ xs. xs ++ groups)
      (fourth ∙ ap (λ xs. xs ++ way)
      (third ∙ ap (λ xs. xs ++ ports)
      (second ∙ ap (λ xs. xs ++ posts)
      (first ∙ ap (λ xs. xs ++ answers) nothing))))))
      ∙ append_assoc ((((answers ++ posts) ++ ports) ++ way) ++ groups) called left
      ∙ ap₂ (λ (xs : List Progress) (ys : List Progress). ((((flat_map (λ (p : Progress). p.answers.items) xs ++ flat_map (asked_lines (states ps)) ys) ++ ports) ++ way) ++ groups) ++ (called ++ left)) is-a is-b
      ∙ facts-told ps callers count is-ps is-callers is-count
