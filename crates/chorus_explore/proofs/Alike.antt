-- Stages that are as far, and whose networks are alike.
-- k is the number of a script, left, told and p are its own; those of all are lists; c is a scenario, s and t are stages.
use Rattle.std.proofs.Common.{ℕ, zero, suc, ◌≡◌, ◌+◌, Bool, true, false, List, [], ◌∷◌, ◌++◌, length, map, drop, reverse, Option, Some, None, slice_get, slice_set, refl, sym, ◌∙◌, ap, ap₂, subst, append_assoc}
use Rattle.std.specs.List.{cons_option, flat_map, filter_map}
use Rattle.std.proofs.lemmas.List.{reverse-append, length-reverse}
use Rattle.std.proofs.lemmas.List.Concat.{flat_map-append}
use Rattle.std.proofs.lemmas.List.Elements.{filter_map-append}
use Rattle.chorus_entry.specs.declared.id.MsgId.{MsgId}
use Rattle.law_network.specs.Network.{NetState}
use Rattle.law_explore.specs.Alike.{NetsAlike}
use Rattle.law_explore.specs.Positions.{AskAlike}
use Rattle.law_explore.specs.Merging.{TellsOn, ComeToldAlike, NetsTellTheSame, PlacesTellTheSame}
use Rattle.law_explore.specs.Outcome.{Fact, posted, posts_in, copies_in, facts_about, answers_from, answer_facts, message_facts, port_facts, outcome_with, stuck_facts}
use Rattle.law_explore.specs.Moment.{settled_from, settled_facts, post_facts, place_facts, moving_facts, member_facts, script_facts, moment_with}
use Rattle.law_explore.specs.Races.{Order, Told, with_answer}
use Rattle.law_explore.specs.declared.moves.Move.{Move}
use Rattle.law_explore.specs.declared.moves.Move.TheVariants.{Go, Carry}
use Rattle.law_machine.specs.PlaceState.{PlaceState}
use Rattle.law_replay.specs.Shown.{orders_of, race_of}
use Rattle.chorus_scene.specs.Scene.{Scene, Script}
use Rattle.chorus_net.specs.Sites.{net}
use Rattle.chorus_explore.proofs.AlikeSites.Lists.{length-map}
use Rattle.chorus_explore.specs.declared.race_sites.Progress.{Progress}
use Rattle.chorus_explore.specs.declared.race_sites.Stage.{Stage}
use Rattle.chorus_explore.specs.Stages.{AreProgress, IsReached, comes, facts_at, moves_of, position}
use Rattle.chorus_explore.specs.Tellings.{answers_by, answered_line, told_of, tells_from, tells_of, kept_of}
use Rattle.chorus_explore.proofs.Staging.{answers-last, by-claims, by-outcome}
use Rattle.explore_report.specs.Facts.{fact_line, outcome_lines}

abbrev first : List ℕ → ℕ
first [] = 0
first (n ∷ ns) = n

-- what is left of the scripts of which so much is kept
abbrev left-by : List Script → List (List ℕ × List MsgId) → List (List Order)
left-by [] kept = []
left-by (s ∷ ss) [] = []
left-by (s ∷ ss) (one ∷ kept) = drop (first one.0) (orders_of s) ∷ left-by ss kept

-- what is kept of scripts says what is left of them, and what is told
shows : (asks : Bool) (k : ℕ) (ss : List Script) (lefts : List (List Order)) (tolds : List (List Told)) (ps : List Progress) → AreProgress asks k ss lefts tolds ps
    → (lefts ≡ left-by ss (map kept_of ps)) × (tells_from asks k tolds ≡ map kept_of ps)
shows asks k [] [] [] [] h = (refl, refl)
shows asks k (s ∷ ss) (l ∷ lefts) (t ∷ tolds) (p ∷ ps) h =
    let rest = shows asks (k + 1) ss lefts tolds ps h.1 in
    ((λ i. h.0.rest i ∷ rest.0 i), (λ i. (h.0.count i ∷ sym h.0.answers i, sym h.0.posts i) ∷ rest.1 i))
shows asks k [] [] [] (p ∷ ps) h = absurd h
shows asks k [] [] (t ∷ tolds) ps h = absurd h
shows asks k [] (l ∷ lefts) tolds ps h = absurd h
shows asks k (s ∷ ss) [] tolds ps h = absurd h
shows asks k (s ∷ ss) (l ∷ lefts) [] ps h = absurd h
shows asks k (s ∷ ss) (l ∷ lefts) (t ∷ tolds) [] h = absurd h

pub come-alike : (c : Scene) (s t : Stage) → IsReached c s → IsReached c t → s.asks ≡ t.asks → map kept_of s.scripts.items ≡ map kept_of t.scripts.items
    → NetsAlike (AskAlike s.asks) (length c.scripts) (net s.sites) (net t.sites) → ComeToldAlike (tells_of s.asks) (race_of c) (moves_of s) (moves_of t)
come-alike c s t h g asks same nets =
    let p = position c (moves_of s) in
    let q = position c (moves_of t) in
    let one = shows s.asks 1 c.scripts p.left p.told s.scripts.items h.at.scripts in
    let other = shows t.asks 1 c.scripts q.left q.told t.scripts.items g.at.scripts in
    record {
      nets =
          subst (λ (k : ℕ). NetsAlike (AskAlike s.asks) k p.net q.net) (sym (length-map orders_of c.scripts))
          (subst (λ (n : NetState). NetsAlike (AskAlike s.asks) (length c.scripts) n q.net) h.at.net
          (subst (λ (n : NetState). NetsAlike (AskAlike s.asks) (length c.scripts) (net s.sites) n) g.at.net nets));
      left = other.0 ∙ ap (left-by c.scripts) (sym same) ∙ sym one.0;
      told = ap (λ (by : Bool). tells_from by 1 q.told) asks ∙ other.1 ∙ sym same ∙ sym one.1;
    }

-- One answer more is told by what was told.

abbrev rest-of : {X : Type 0} → List X → List X
rest-of [] = []
rest-of (x ∷ xs) = xs

abbrev head-or : {X : Type 0} → X → List X → X
head-or d [] = d
head-or d (x ∷ xs) = x

abbrev with-one : Bool → ℕ → Told → List ℕ × List MsgId → List ℕ × List MsgId
with-one asks k a told =
    (suc (first told.0) ∷ (rest-of told.0 ++ answered_line asks k (1 + first told.0) a.act a.settles), told.1 ++ cons_option (posted a) [])

one-told : (asks : Bool) (k : ℕ) (a : Told) (told : List Told) → told_of asks k (a ∷ told) ≡ with-one asks k a (told_of asks k told)
one-told asks k a told = λ i. (suc (length told) ∷ lines i, posts i)
  where
    turn : reverse (a ∷ told) ≡ reverse told ++ a ∷ []
    turn = reverse-append (a ∷ []) told

    lines : flat_map fact_line (answers_by asks k 1 (reverse (a ∷ told))) ≡ flat_map fact_line (answers_by asks k 1 (reverse told)) ++ answered_line asks k (1 + length told) a.act a.settles
    lines =
        ap (λ xs. flat_map fact_line (answers_by asks k 1 xs)) turn ∙ answers-last asks k 1 (reverse told) a
        ∙ ap (λ (n : ℕ). flat_map fact_line (answers_by asks k 1 (reverse told)) ++ answered_line asks k (1 + n) a.act a.settles) (length-reverse told)

    posts : filter_map posted (reverse (a ∷ told)) ≡ filter_map posted (reverse told) ++ cons_option (posted a) []
    posts = ap (filter_map posted) turn ∙ filter_map-append posted (reverse told) (a ∷ [])

same-told : (asks : Bool) (k : ℕ) (a : Option Told) (told other : List Told) → told_of asks k other ≡ told_of asks k told
    → told_of asks k (with_answer a (Some other)) ≡ told_of asks k (with_answer a (Some told))
same-told asks k None told other e = e
same-told asks k (Some a) told other e = one-told asks k a other ∙ ap (with-one asks k a) e ∙ sym (one-told asks k a told)

not-none : {X : Type 0} (x : X) (xs : List X) → x ∷ xs ≡ [] → ⊥
not-none x xs e = cc

tells-set : (asks : Bool) (k i : ℕ) (a : Option Told) (told other : List (List Told)) → tells_from asks k other ≡ tells_from asks k told
    → tells_from asks k (slice_set other i (with_answer a (slice_get other i))) ≡ tells_from asks k (slice_set told i (with_answer a (slice_get told i)))
tells-set asks k i a [] [] e = refl
tells-set asks k i a [] (o ∷ other) e = absurd (not-none (told_of asks k o) (tells_from asks (k + 1) other) e)
tells-set asks k i a (t ∷ told) [] e = absurd (not-none (told_of asks k t) (tells_from asks (k + 1) told) (sym e))
tells-set asks k zero a (t ∷ told) (o ∷ other) e =
    λ i. same-told asks k a t o (ap (head-or (told_of asks k t)) e) i ∷ ap rest-of e i
tells-set asks k (suc n) a (t ∷ told) (o ∷ other) e =
    λ i. ap (head-or (told_of asks k t)) e i ∷ tells-set asks (k + 1) n a told other (ap rest-of e) i

pub tells-on : (asks : Bool) → TellsOn (tells_of asks)
tells-on asks (Go n) a told other e = tells-set asks 1 n a told other e
tells-on asks (Carry x y) a told other e = e

-- Where the same is told, the same lines are written of an end, and where claims are asked of a moment.

answers-told : (k : ℕ) (told : List (List Told)) → flat_map fact_line (answer_facts k told) ≡ flat_map (λ (one : List ℕ × List MsgId). rest-of one.0) (tells_from false k told)
answers-told k [] = refl
answers-told k (t ∷ told) =
    flat_map-append fact_line (answers_from k 1 (reverse t)) (answer_facts (k + 1) told)
    ∙ ap₂ (λ xs ys. xs ++ ys) (ap (flat_map fact_line) (sym (by-outcome k 1 (reverse t)))) (answers-told (k + 1) told)

settled-told : (k : ℕ) (told : List (List Told)) → flat_map fact_line (settled_facts k told) ≡ flat_map (λ (one : List ℕ × List MsgId). rest-of one.0) (tells_from true k told)
settled-told k [] = refl
settled-told k (t ∷ told) =
    flat_map-append fact_line (settled_from k 1 (reverse t)) (settled_facts (k + 1) told)
    ∙ ap₂ (λ xs ys. xs ++ ys) (ap (flat_map fact_line) (sym (by-claims k 1 (reverse t)))) (settled-told (k + 1) told)

posts-told : (asks : Bool) (k : ℕ) (told : List (List Told)) → posts_in told ≡ flat_map (λ (one : List ℕ × List MsgId). one.1) (tells_from asks k told)
posts-told asks k [] = refl
posts-told asks k (t ∷ told) = ap (λ xs. filter_map posted (reverse t) ++ xs) (posts-told asks (k + 1) told)

same-posts : (asks : Bool) (told other : List (List Told)) → tells_from asks 1 other ≡ tells_from asks 1 told → posts_in told ≡ posts_in other
same-posts asks told other e =
    posts-told asks 1 told ∙ ap (flat_map (λ (one : List ℕ × List MsgId). one.1)) (sym e) ∙ sym (posts-told asks 1 other)

same-lines : (scripts left : List (List Order)) (told other : List (List Told)) (ps : List PlaceState) → tells_from false 1 other ≡ tells_from false 1 told
    → outcome_lines (outcome_with scripts left told ps) ≡ outcome_lines (outcome_with scripts left other ps)
same-lines scripts left told other ps e =
    flat_map-append fact_line (answer_facts 1 told ++ message_facts told ps ++ port_facts ps) (stuck_facts scripts left)
    ∙ ap (λ xs. xs ++ outcome_lines (stuck_facts scripts left))
    (flat_map-append fact_line (answer_facts 1 told ++ message_facts told ps) (port_facts ps)
    ∙ ap (λ xs. xs ++ flat_map fact_line (port_facts ps))
    (flat_map-append fact_line (answer_facts 1 told) (message_facts told ps)
    ∙ (λ i. lines i ++ flat_map fact_line (flat_map (facts_about ps) (flat_map (λ (x : MsgId). x ∷ copies_in x ps) (same-posts false told other e i))))
    ∙ sym (flat_map-append fact_line (answer_facts 1 other) (message_facts other ps)))
    ∙ sym (flat_map-append fact_line (answer_facts 1 other ++ message_facts other ps) (port_facts ps)))
    ∙ sym (flat_map-append fact_line (answer_facts 1 other ++ message_facts other ps ++ port_facts ps) (stuck_facts scripts left))
  where
    lines : flat_map fact_line (answer_facts 1 told) ≡ flat_map fact_line (answer_facts 1 other)
    lines = answers-told 1 told ∙ ap (flat_map (λ (one : List ℕ × List MsgId). rest-of one.0)) (sym e) ∙ sym (answers-told 1 other)

pub comes-the-same : PlacesTellTheSame → (c : Scene) (ms os : List Move) → ComeToldAlike (tells_of false) (race_of c) ms os → comes c ms ≡ comes c os
comes-the-same law c ms os h =
    let p = position c ms in
    let q = position c os in
    let scripts = (race_of c).scripts in
    same-lines scripts p.left p.told q.told p.net.places h.told
    ∙ ap outcome_lines
    (ap (λ (left : List (List Order)). outcome_with scripts left q.told p.net.places) (sym h.left)
    ∙ law false scripts q.left q.told p.net.places q.net.places h.nets.places)

-- the facts of a moment behind those of its answers
abbrev behind-answers : List (List Order) → List (List Order) → List MsgId → NetState → List Fact
behind-answers scripts left posts n =
    flat_map (post_facts n.places) posts ++ place_facts n.places ++ moving_facts n.packets ++ flat_map member_facts n.places ++ script_facts scripts left n.callers

split : (scripts left : List (List Order)) (told : List (List Told)) (n : NetState)
    → outcome_lines (moment_with scripts left told n) ≡ outcome_lines (settled_facts 1 told) ++ outcome_lines (behind-answers scripts left (posts_in told) n)
split scripts left told n =
    ap outcome_lines regrouped ∙ flat_map-append fact_line (settled_facts 1 told) (behind-answers scripts left (posts_in told) n)
  where
    regroup : (xs ys zs us vs ws : List Fact) → xs ++ ys ++ zs ++ us ++ vs ++ ws ≡ xs ++ (ys ++ zs ++ us ++ vs ++ ws)
    regroup xs ys zs us vs ws =
        ap (λ ts. ts ++ us ++ vs ++ ws) (append_assoc xs ys zs) ∙ ap (λ ts. ts ++ vs ++ ws) (append_assoc xs (ys ++ zs) us)
        ∙ ap (λ ts. ts ++ ws) (append_assoc xs (ys ++ zs ++ us) vs) ∙ append_assoc xs (ys ++ zs ++ us ++ vs) ws

    regrouped : moment_with scripts left told n ≡ settled_facts 1 told ++ behind-answers scripts left (posts_in told) n
    regrouped =
        regroup (settled_facts 1 told) (flat_map (post_facts n.places) (posts_in told)) (place_facts n.places) (moving_facts n.packets) (flat_map member_facts n.places) (script_facts scripts left n.callers)

same-moment : (scripts left : List (List Order)) (told other : List (List Told)) (n : NetState) → tells_from true 1 other ≡ tells_from true 1 told
    → outcome_lines (moment_with scripts left told n) ≡ outcome_lines (moment_with scripts left other n)
same-moment scripts left told other n e =
    split scripts left told n
    ∙ (λ i. lines i ++ outcome_lines (behind-answers scripts left (same-posts true told other e i) n))
    ∙ sym (split scripts left other n)
  where
    lines : flat_map fact_line (settled_facts 1 told) ≡ flat_map fact_line (settled_facts 1 other)
    lines = settled-told 1 told ∙ ap (flat_map (λ (one : List ℕ × List MsgId). rest-of one.0)) (sym e) ∙ sym (settled-told 1 other)

pub facts-the-same : NetsTellTheSame → (c : Scene) (ms os : List Move) → ComeToldAlike (tells_of true) (race_of c) ms os → facts_at c ms ≡ facts_at c os
facts-the-same law c ms os h =
    let p = position c ms in
    let q = position c os in
    let scripts = (race_of c).scripts in
    same-moment scripts p.left p.told q.told p.net h.told
    ∙ ap outcome_lines (ap (λ (left : List (List Order)). moment_with scripts left q.told p.net) (sym h.left) ∙ law scripts q.left q.told p.net q.net h.nets)
