-- Scripts behind moves: how far each is, and one that goes on by a command.
-- k is the number of a script, i its place in a list, left, told and p are its own; those of all are lists.
use Rattle.std.proofs.Common.{ℕ, zero, suc, ◌≡◌, ◌+◌, ◌<◌, Bool, true, false, List, [], ◌∷◌, ◌++◌, length, map, drop, reverse, set, option_to_list, Option, Some, None, slice_get, slice_set, refl, sym, ◌∙◌, ap, ap₂, subst, arith, append_assoc, codes, decimal}
use Rattle.std.specs.List.{All, cons_option, flat_map, filter_map}
use Rattle.std.specs.Option.{option_map}
use Rattle.std.proofs.lemmas.List.{append-nil, reverse-append, length-reverse}
use Rattle.std.proofs.lemmas.List.Concat.{flat_map-append}
use Rattle.std.proofs.lemmas.List.Elements.{filter_map-append}
use Rattle.chorus_entry.specs.declared.act.Act as acts
use Rattle.chorus_entry.specs.declared.act.Act.TheVariants as variants
use Rattle.chorus_entry.specs.declared.command.Command.{Command}
use Rattle.law_explore.specs.Outcome.{Answered, Settled, plain_act, post_in, posted, posts_in, answers_from, answer_facts}
use Rattle.law_explore.specs.Moment.{answer_with, settled_from, settled_facts}
use Rattle.law_explore.specs.Races.{Order, Told, next_of, behind_next}
use Rattle.law_replay.specs.Shown.{orders_from, orders_of}
use Rattle.chorus_scene.specs.Scene.{Script}
use Rattle.chorus_show.specs.Lines.{act_text}
use Rattle.chorus_show.specs.Phrases.{phrase}
use Rattle.chorus_explore.specs.declared.race_sites.Progress.{Progress}
use Rattle.explore_report.specs.Facts.{plain_act_text, fact_line}
use Rattle.chorus_explore.specs.Stages.{IsProgress, AreProgress}
use Rattle.chorus_explore.specs.Tellings.{answer_by, answers_by, answered_line}

-- Lists of the same length.

pub record ProgressAt (asks : Bool) (k i : ℕ) (ss : List Script) (lefts : List (List Order)) (tolds : List (List Told)) (ps : List Progress) : Type 0 where
  pub script : Script
  pub left : List Order
  pub told : List Told
  pub p : Progress
  pub is_script : slice_get ss i ≡ Some script
  pub is_left : slice_get lefts i ≡ Some left
  pub is_told : slice_get tolds i ≡ Some told
  pub is_p : slice_get ps i ≡ Some p
  pub is : IsProgress asks (k + i) (orders_of script) left told p

pub progress-length : (asks : Bool) (k : ℕ) (ss : List Script) (lefts : List (List Order)) (tolds : List (List Told)) (ps : List Progress) → AreProgress asks k ss lefts tolds ps
    → (length ps ≡ length ss) × (length lefts ≡ length ss)
progress-length asks k [] [] [] [] h = (refl, refl)
progress-length asks k (s ∷ ss) (l ∷ lefts) (t ∷ tolds) (p ∷ ps) h = (let rest = progress-length asks (k + 1) ss lefts tolds ps h.1 in (ap suc rest.0, ap suc rest.1))
progress-length asks k [] [] [] (p ∷ ps) h = absurd h
progress-length asks k [] [] (t ∷ tolds) ps h = absurd h
progress-length asks k [] (l ∷ lefts) tolds ps h = absurd h
progress-length asks k (s ∷ ss) [] tolds ps h = absurd h
progress-length asks k (s ∷ ss) (l ∷ lefts) [] ps h = absurd h
progress-length asks k (s ∷ ss) (l ∷ lefts) (t ∷ tolds) [] h = absurd h

pub progress-at : (asks : Bool) (k i : ℕ) (ss : List Script) (lefts : List (List Order)) (tolds : List (List Told)) (ps : List Progress) → AreProgress asks k ss lefts tolds ps → i < length ss
    → ProgressAt asks k i ss lefts tolds ps
progress-at asks k i [] [] [] [] h lt = absurd (omega (arith, lt))
progress-at asks k zero (s ∷ ss) (l ∷ lefts) (t ∷ tolds) (p ∷ ps) h lt =
    record { script = s; left = l; told = t; p = p; is_script = refl; is_left = refl; is_told = refl; is_p = refl; is = (let e : k ≡ k + 0 = omega arith in subst (λ j. IsProgress asks j (orders_of s) l t p) e h.0) }
progress-at asks k (suc i) (s ∷ ss) (l ∷ lefts) (t ∷ tolds) (p ∷ ps) h lt =
    let rest = progress-at asks (k + 1) i ss lefts tolds ps h.1 (omega (arith, lt)) in
    let e : (k + 1) + i ≡ k + suc i = omega arith in
    record {
      script = rest.script;
      left = rest.left;
      told = rest.told;
      p = rest.p;
      is_script = rest.is_script;
      is_left = rest.is_left;
      is_told = rest.is_told;
      is_p = rest.is_p;
      is = subst (λ j. IsProgress asks j (orders_of rest.script) rest.left rest.told rest.p) e rest.is;
    }
progress-at asks k i [] [] [] (p ∷ ps) h lt = absurd h
progress-at asks k i [] [] (t ∷ tolds) ps h lt = absurd h
progress-at asks k i [] (l ∷ lefts) tolds ps h lt = absurd h
progress-at asks k i (s ∷ ss) [] tolds ps h lt = absurd h
progress-at asks k i (s ∷ ss) (l ∷ lefts) [] ps h lt = absurd h
progress-at asks k i (s ∷ ss) (l ∷ lefts) (t ∷ tolds) [] h lt = absurd h

-- one script goes on
pub progress-set : (asks : Bool) (k i : ℕ) (ss : List Script) (lefts : List (List Order)) (tolds : List (List Told)) (ps : List Progress) (script : Script) (left : List Order) (told : List Told) (p : Progress)
    → AreProgress asks k ss lefts tolds ps → slice_get ss i ≡ Some script → IsProgress asks (k + i) (orders_of script) left told p
    → AreProgress asks k ss (slice_set lefts i left) (slice_set tolds i told) (set ps i p)
progress-set asks k i [] [] [] [] script left told p h at is = absurd (cc)
progress-set asks k zero (s ∷ ss) (l ∷ lefts) (t ∷ tolds) (q ∷ ps) script left told p h at is =
    let e : k + 0 ≡ k = omega arith in
    let same : script ≡ s = cc in
    (subst (λ (z : Script). IsProgress asks k (orders_of z) left told p) same (subst (λ j. IsProgress asks j (orders_of script) left told p) e is), h.1)
progress-set asks k (suc i) (s ∷ ss) (l ∷ lefts) (t ∷ tolds) (q ∷ ps) script left told p h at is =
    let e : k + suc i ≡ (k + 1) + i = omega arith in
    (h.0, progress-set asks (k + 1) i ss lefts tolds ps script left told p h.1 at (subst (λ j. IsProgress asks j (orders_of script) left told p) e is))
progress-set asks k i [] [] [] (q ∷ ps) script left told p h at is = absurd h
progress-set asks k i [] [] (t ∷ tolds) ps script left told p h at is = absurd h
progress-set asks k i [] (l ∷ lefts) tolds ps script left told p h at is = absurd h
progress-set asks k i (s ∷ ss) [] tolds ps script left told p h at is = absurd h
progress-set asks k i (s ∷ ss) (l ∷ lefts) [] ps script left told p h at is = absurd h
progress-set asks k i (s ∷ ss) (l ∷ lefts) (t ∷ tolds) [] script left told p h at is = absurd h

-- A command more.

pub next-is : (n : ℕ) (cs : List Order) (c : Order) → next_of (Some (drop n cs)) ≡ Some c → (slice_get cs n ≡ Some c) × (behind_next (Some (drop n cs)) ≡ drop (n + 1) cs)
next-is zero [] c e = absurd (cc)
next-is zero (d ∷ cs) c e = (e, refl)
next-is (suc n) [] c e = absurd (cc)
next-is (suc n) (d ∷ cs) c e = let two = next-is n cs c e in (two.0, two.1 ∙ ap (λ k. drop k (d ∷ cs)) (more n))
  where
    more : (n : ℕ) → suc (n + 1) ≡ suc n + 1
    more n = omega arith

pub next-there : (n : ℕ) (cs : List Order) → next_of (Some (drop n cs)) ≡ slice_get cs n
next-there zero [] = refl
next-there zero (d ∷ cs) = refl
next-there (suc n) [] = refl
next-there (suc n) (d ∷ cs) = next-there n cs

-- a command of a script, as an order and without its mark
pub order-command : (waits : List ℕ) (i : ℕ) (commands : List Command) (n : ℕ) → option_map (λ (o : Order). o.command) (slice_get (orders_from waits i commands) n) ≡ slice_get commands n
order-command waits i [] n = refl
order-command waits i (c ∷ commands) zero = refl
order-command waits i (c ∷ commands) (suc n) = order-command waits (i + 1) commands n

pub orders-long : (waits : List ℕ) (i : ℕ) (commands : List Command) → length (orders_from waits i commands) ≡ length commands
orders-long waits i [] = refl
orders-long waits i (c ∷ commands) = ap suc (orders-long waits (i + 1) commands)

there-below : {X : Type 0} (xs : List X) (n : ℕ) (x : X) → slice_get xs n ≡ Some x → n < length xs
there-below [] n x e = absurd (cc)
there-below (y ∷ xs) zero x e = omega arith
there-below (y ∷ xs) (suc n) x e = (let lt = there-below xs n x e in omega (arith, lt))

same-plain : (a : acts.Act) → plain_act_text (plain_act a) ≡ plain_act_text a
same-plain (variants.Take q position x) = refl
same-plain (variants.Depart q to actor hop) = refl
same-plain a = refl

same-line : (k i : ℕ) (a : acts.Act) → fact_line (Answered k i (plain_act a)) ≡ fact_line (Answered k i a)
same-line k i a = ap (λ t. phrase (codes "answer") (decimal k ∷ decimal i ∷ t ∷ []) ++ 10 ∷ []) (same-plain a)

settled-line : (k i : ℕ) (a b : acts.Act) → fact_line (Settled k i (plain_act a) b) ≡ fact_line (Settled k i a b)
settled-line k i a b = ap (λ t. phrase (codes "answer") (decimal k ∷ decimal i ∷ t ∷ act_text b ∷ []) ++ 10 ∷ []) (same-plain a)

-- the line that is written down is that of the fact
pub line-is : (asks : Bool) (k i : ℕ) (it : Told) → fact_line (answer_by asks k i it) ≡ answered_line asks k i it.act it.settles
line-is false k i it = same-line k i it.act
line-is true k i it = by it.settles
  where
    by : (o : Option acts.Act) → fact_line (answer_with k i it.act o) ≡ answered_line true k i it.act o
    by None = same-line k i it.act
    by (Some b) = settled-line k i it.act b

pub answers-last : (asks : Bool) (k i : ℕ) (told : List Told) (a : Told)
    → flat_map fact_line (answers_by asks k i (told ++ a ∷ [])) ≡ flat_map fact_line (answers_by asks k i told) ++ answered_line asks k (i + length told) a.act a.settles
answers-last asks k i [] a =
    let n : i ≡ i + 0 = omega arith in
    append-nil (fact_line (answer_by asks k i a)) ∙ line-is asks k i a ∙ ap (λ (j : ℕ). answered_line asks k j a.act a.settles) n
answers-last asks k i (b ∷ told) a =
    let n : (i + 1) + length told ≡ i + suc (length told) = omega arith in
    let one = fact_line (answer_by asks k i b) in
    ap (λ xs. one ++ xs) (answers-last asks k (i + 1) told a ∙ ap (λ (j : ℕ). flat_map fact_line (answers_by asks k (i + 1) told) ++ answered_line asks k j a.act a.settles) n)
    ∙ sym (append_assoc one (flat_map fact_line (answers_by asks k (i + 1) told)) (answered_line asks k (i + suc (length told)) a.act a.settles))

pub one-more : (asks : Bool) (k : ℕ) (all left : List Order) (told : List Told) (p new : Progress) (c : Order) (a : Told) → IsProgress asks k all left told p → next_of (Some left) ≡ Some c
    → new.next ≡ p.next + 1 → new.answers.items ≡ p.answers.items ++ answered_line asks k (p.next + 1) a.act a.settles → new.posts.items ≡ p.posts.items ++ option_to_list (post_in a.act)
    → IsProgress asks k all (behind_next (Some left)) (a ∷ told) new
one-more asks k all left told p new c a is next n answers posts =
    let two = next-is p.next all c (ap (λ cs. next_of (Some cs)) (sym is.rest) ∙ next) in
    let lt = there-below all p.next c two.0 in
    let turn : reverse (a ∷ told) ≡ reverse told ++ a ∷ [] = reverse-append (a ∷ []) told in
    let long : 1 + length (reverse told) ≡ p.next + 1 = (let l = length-reverse told in let m = is.count in omega (arith, l, m)) in
    record {
      rest = ap (λ cs. behind_next (Some cs)) is.rest ∙ two.1 ∙ ap (λ (m : ℕ). drop m all) (sym n);
      few = omega (arith, lt, n);
      count = (let m = is.count in omega (arith, m, n));
      answers = answers ∙ ap (λ xs. xs ++ answered_line asks k (p.next + 1) a.act a.settles) is.answers
          ∙ ap (λ (m : ℕ). flat_map fact_line (answers_by asks k 1 (reverse told)) ++ answered_line asks k m a.act a.settles) (sym long)
          ∙ sym (ap (λ xs. flat_map fact_line (answers_by asks k 1 xs)) turn ∙ answers-last asks k 1 (reverse told) a);
      posts = posts ∙ ap (λ xs. xs ++ option_to_list (post_in a.act)) is.posts ∙ sym (ap (filter_map posted) turn ∙ filter_map-append posted (reverse told) (a ∷ []) ∙ ap (λ xs. filter_map posted (reverse told) ++ xs) (one (post_in a.act)));
    }
  where
    one : {X : Type 0} (o : Option X) → cons_option o [] ≡ option_to_list o
    one None = refl
    one (Some x) = refl

-- What all scripts came to.

pub by-outcome : (k i : ℕ) (told : List Told) → answers_by false k i told ≡ answers_from k i told
by-outcome k i [] = refl
by-outcome k i (it ∷ told) = ap (λ fs. Answered k i (plain_act it.act) ∷ fs) (by-outcome k (i + 1) told)

pub by-claims : (k i : ℕ) (told : List Told) → answers_by true k i told ≡ settled_from k i told
by-claims k i [] = refl
by-claims k i (it ∷ told) = ap (λ fs. answer_with k i it.act it.settles ∷ fs) (by-claims k (i + 1) told)

pub answers-are : (k : ℕ) (ss : List Script) (lefts : List (List Order)) (tolds : List (List Told)) (ps : List Progress) → AreProgress false k ss lefts tolds ps
    → flat_map fact_line (answer_facts k tolds) ≡ flat_map (λ (p : Progress). p.answers.items) ps
answers-are k [] [] [] [] h = refl
answers-are k (s ∷ ss) (l ∷ lefts) (t ∷ tolds) (p ∷ ps) h =
    flat_map-append fact_line (answers_from k 1 (reverse t)) (answer_facts (k + 1) tolds)
    ∙ ap₂ (λ xs ys. xs ++ ys) (ap (flat_map fact_line) (sym (by-outcome k 1 (reverse t))) ∙ sym h.0.answers) (answers-are (k + 1) ss lefts tolds ps h.1)
answers-are k [] [] [] (p ∷ ps) h = absurd h
answers-are k [] [] (t ∷ tolds) ps h = absurd h
answers-are k [] (l ∷ lefts) tolds ps h = absurd h
answers-are k (s ∷ ss) [] tolds ps h = absurd h
answers-are k (s ∷ ss) (l ∷ lefts) [] ps h = absurd h
answers-are k (s ∷ ss) (l ∷ lefts) (t ∷ tolds) [] h = absurd h

pub settled-are : (k : ℕ) (ss : List Script) (lefts : List (List Order)) (tolds : List (List Told)) (ps : List Progress) → AreProgress true k ss lefts tolds ps
    → flat_map fact_line (settled_facts k tolds) ≡ flat_map (λ (p : Progress). p.answers.items) ps
settled-are k [] [] [] [] h = refl
settled-are k (s ∷ ss) (l ∷ lefts) (t ∷ tolds) (p ∷ ps) h =
    flat_map-append fact_line (settled_from k 1 (reverse t)) (settled_facts (k + 1) tolds)
    ∙ ap₂ (λ xs ys. xs ++ ys) (ap (flat_map fact_line) (sym (by-claims k 1 (reverse t))) ∙ sym h.0.answers) (settled-are (k + 1) ss lefts tolds ps h.1)
settled-are k [] [] [] (p ∷ ps) h = absurd h
settled-are k [] [] (t ∷ tolds) ps h = absurd h
settled-are k [] (l ∷ lefts) tolds ps h = absurd h
settled-are k (s ∷ ss) [] tolds ps h = absurd h
settled-are k (s ∷ ss) (l ∷ lefts) [] ps h = absurd h
settled-are k (s ∷ ss) (l ∷ lefts) (t ∷ tolds) [] h = absurd h

pub posts-are : (asks : Bool) (k : ℕ) (ss : List Script) (lefts : List (List Order)) (tolds : List (List Told)) (ps : List Progress) → AreProgress asks k ss lefts tolds ps
    → posts_in tolds ≡ flat_map (λ (p : Progress). p.posts.items) ps
posts-are asks k [] [] [] [] h = refl
posts-are asks k (s ∷ ss) (l ∷ lefts) (t ∷ tolds) (p ∷ ps) h = ap₂ (λ xs ys. xs ++ ys) (sym h.0.posts) (posts-are asks (k + 1) ss lefts tolds ps h.1)
posts-are asks k [] [] [] (p ∷ ps) h = absurd h
posts-are asks k [] [] (t ∷ tolds) ps h = absurd h
posts-are asks k [] (l ∷ lefts) tolds ps h = absurd h
posts-are asks k (s ∷ ss) [] tolds ps h = absurd h
posts-are asks k (s ∷ ss) (l ∷ lefts) [] ps h = absurd h
posts-are asks k (s ∷ ss) (l ∷ lefts) (t ∷ tolds) [] h = absurd h

-- nothing of these scripts was performed
pub none-performed : (asks : Bool) (k : ℕ) (ss : List Script) (ps : List Progress) → length ps ≡ length ss → All (λ (p : Progress). (p.next ≡ 0) × (p.answers.items ≡ []) × (p.posts.items ≡ [])) ps
    → AreProgress asks k ss (map orders_of ss) (map (λ (os : List Order). []) (map orders_of ss)) ps
none-performed asks k [] [] e all = tt
none-performed asks k (s ∷ ss) (p ∷ ps) e all =
    let one = all 0 p (omega arith) in (
      record {
        rest = ap (λ (n : ℕ). drop n (orders_of s)) (sym one.0);
        few = (let n = one.0 in omega (arith, n));
        count = sym one.0;
        answers = one.1;
        posts = one.2;
      },
      none-performed asks (k + 1) ss ps (same (length ps) (length ss) e) (λ i d lt. all (suc i) d (omega (arith, lt))),
    )
  where
    same : (a b : ℕ) → suc a ≡ suc b → a ≡ b
    same a b e = omega (arith, e)
none-performed asks k [] (p ∷ ps) e all = absurd (omega (arith, e))
none-performed asks k (s ∷ ss) [] e all = absurd (omega (arith, e))
