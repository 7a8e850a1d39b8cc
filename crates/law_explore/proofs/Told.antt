-- The acts that answered commands, without the numbers that only tell when: one answer more, and the facts that come of them.
use Rattle.std.proofs.Common.{ℕ, ◌≡◌, ◌+◌, List, [], ◌∷◌, ◌++◌, map, reverse, Option, Some, None, slice_get, slice_set, refl, sym, ◌∙◌, ap}
use Rattle.std.specs.List.{flat_map, filter_map, cons_option}
use Rattle.std.specs.Option.{option_map}
use Rattle.std.proofs.lemmas.List.{map-append, map-set, reverse-append}
use Rattle.std.proofs.lemmas.Option.{slice_get-map}
use Rattle.chorus_entry.specs.declared.act.Act.{Act}
use Rattle.chorus_entry.specs.declared.act.Act.TheVariants as acts
use Rattle.chorus_entry.specs.declared.id.MsgId.{MsgId}
use Rattle.law_machine.specs.PlaceState.{PlaceState}
use Rattle.law_explore.specs.declared.moves.Move.{Move}
use Rattle.law_explore.specs.declared.moves.Move.TheVariants.{Go, Carry}
use Rattle.law_explore.specs.Races.{Order, Told, with_answer, answers_after}
use Rattle.law_explore.specs.Outcome.{plain_act, answers_from, answer_facts, Answered, post_in, posted, posts_in, copies_in, facts_about, port_facts, stuck_facts, outcome_with}
use Rattle.law_explore.specs.Positions.{plain_it, plain_told}

-- Lists.

map-reverse : {A B : Type 0} (f : A → B) (xs : List A) → map f (reverse xs) ≡ reverse (map f xs)
map-reverse f [] = refl
map-reverse f (x ∷ xs) =
    ap (map f) (reverse-append (x ∷ []) xs)
    ∙ map-append f (reverse xs) (x ∷ [])
    ∙ ap (λ ys. ys ++ f x ∷ []) (map-reverse f xs)
    ∙ sym (reverse-append (f x ∷ []) (map f xs))

-- One answer more.

abbrev plain : List Told → List Told
plain told = map plain_it told

answer-plain : (a : Option Told) (o : Option (List Told)) → plain (with_answer a o) ≡ with_answer (option_map plain_it a) (option_map plain o)
answer-plain None None = refl
answer-plain None (Some told) = refl
answer-plain (Some a) None = refl
answer-plain (Some a) (Some told) = refl

pub after-plain : (m : Move) (a : Option Told) (told : List (List Told)) → plain_told (answers_after m a told) ≡ answers_after m (option_map plain_it a) (plain_told told)
after-plain (Go i) a told =
    map-set plain told i (with_answer a (slice_get told i))
    ∙ ap (slice_set (plain_told told) i) (answer-plain a (slice_get told i) ∙ ap (with_answer (option_map plain_it a)) (sym (slice_get-map plain told i)))
after-plain (Carry x z) a told = refl

abbrev pub SamePlain : List (List Told) → List (List Told) → Type 0
SamePlain told other = plain_told other ≡ plain_told told

pub grow-plain : (m : Move) (a : Option Told) (told other : List (List Told)) → SamePlain told other → SamePlain (answers_after m a told) (answers_after m a other)
grow-plain m a told other h = after-plain m a other ∙ ap (answers_after m (option_map plain_it a)) h ∙ sym (after-plain m a told)

-- The same facts come of them.

plain-twice : (a : Act) → plain_act (plain_act a) ≡ plain_act a
plain-twice (acts.Take q position x) = refl
plain-twice (acts.Depart q to actor hop) = refl
plain-twice a = refl

plain-post : (a : Act) → post_in (plain_act a) ≡ post_in a
plain-post (acts.Take q position x) = refl
plain-post (acts.Depart q to actor hop) = refl
plain-post a = refl

answers-plain : (k i : ℕ) (told : List Told) → answers_from k i (plain told) ≡ answers_from k i told
answers-plain k i [] = refl
answers-plain k i (a ∷ told) = λ j. Answered k i (plain-twice a.act j) ∷ answers-plain k (i + 1) told j

scripts-plain : (k : ℕ) (told : List (List Told)) → answer_facts k (plain_told told) ≡ answer_facts k told
scripts-plain k [] = refl
scripts-plain k (told ∷ rest) =
    (λ j. answers_from k 1 (sym (map-reverse plain_it told) j) ++ scripts-plain (k + 1) rest j)
    ∙ ap (λ facts. facts ++ answer_facts (k + 1) rest) (answers-plain k 1 (reverse told))

posted-plain : (told : List Told) → filter_map posted (plain told) ≡ filter_map posted told
posted-plain [] = refl
posted-plain (a ∷ told) = λ j. cons_option (plain-post a.act j) (posted-plain told j)

posts-plain : (told : List (List Told)) → posts_in (plain_told told) ≡ posts_in told
posts-plain [] = refl
posts-plain (told ∷ rest) =
    (λ j. filter_map posted (sym (map-reverse plain_it told) j) ++ posts-plain rest j)
    ∙ ap (λ ids. ids ++ posts_in rest) (posted-plain (reverse told))

outcome-plain : (scripts left : List (List Order)) (told : List (List Told)) (ps : List PlaceState) → outcome_with scripts left (plain_told told) ps ≡ outcome_with scripts left told ps
outcome-plain scripts left told ps =
    λ j. scripts-plain 1 told j
    ++ flat_map (facts_about ps) (flat_map (λ (x : MsgId). x ∷ copies_in x ps) (posts-plain told j))
    ++ port_facts ps
    ++ stuck_facts scripts left

pub outcome-same : (scripts left : List (List Order)) (told other : List (List Told)) (ps : List PlaceState) → SamePlain told other → outcome_with scripts left told ps ≡ outcome_with scripts left other ps
outcome-same scripts left told other ps h =
    sym (outcome-plain scripts left told ps) ∙ ap (λ t. outcome_with scripts left t ps) (sym h) ∙ outcome-plain scripts left other ps
