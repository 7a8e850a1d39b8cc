-- What is told of an end are the lines of its outcome.
-- ps are places, x is an id, q the name of a port, js are journals with the oldest entry first, xs, ys are lists.
use Rattle.std.proofs.Common.{ℕ, ◌≡◌, Bool, true, false, ◌||◌, cond, List, [], ◌∷◌, ◌++◌, map, reverse, Option, Some, None, refl, sym, ◌∙◌, ap, ap₂, codes}
use Rattle.std.specs.List.{cons_option, flat_map, filter_map}
use Rattle.std.specs.Option.{option_map, option_or}
use Rattle.std.proofs.lemmas.List.{append-nil, reverse-append, reverse-reverse}
use Rattle.std.proofs.lemmas.List.Concat.{flat_map-append}
use Rattle.chorus_ui.specs.declared.ui.Ui.{Ui}
use Rattle.chorus_ui.specs.Name.{same_ui}
use Rattle.chorus_entry.specs.declared.answer.Answer.{Answer}
use Rattle.chorus_entry.specs.declared.answer.Answer.TheVariants as answers
use Rattle.chorus_entry.specs.declared.entry.Entry.{Entry}
use Rattle.chorus_entry.specs.declared.id.MsgId.{MsgId}
use Rattle.chorus_entry.specs.declared.record.PortRecord.{PortRecord}
use Rattle.chorus_ports.specs.Table as table
use Rattle.chorus_show.specs.Phrases.{phrase, id_text}
use Rattle.chorus_world.specs.Messages.{verdict}
use Rattle.chorus_world.specs.GroupLaws.{copies_by, copies_of}
use Rattle.chorus_world.specs.declared.place.Sent.{Sent}
use Rattle.law_machine.specs.PlaceState.{PlaceState}
use Rattle.law_network.specs.declared.placed.Placed.{Placed}
use Rattle.law_network.specs.Left.{placed_at, placed_in}
use Rattle.law_explore.specs.Outcome.{Fact, Judged, plain_answer, verdict_in, copies_in, verdict_fact, is_stale_at, is_stale_in, stale_facts, facts_about, made_in, made_by, made_at, held_in, port_fact}
use Rattle.explore_report.specs.Facts.{plain_answer_text, verdict_text, fact_line}
use Rattle.explore_report.specs.Outcomes.{verdict_among, is_stale_among, stale_line, lines_about, sent_lines, chosen_lines, message_lines, held_among, held_line, made_lines}

-- Lists in lists.

pub flat-flat : {X Y : Type 0} (f : Y → List ℕ) (g : X → List Y) (xs : List X) → flat_map f (flat_map g xs) ≡ flat_map (λ (x : X). flat_map f (g x)) xs
flat-flat f g [] = refl
flat-flat f g (x ∷ xs) = flat_map-append f (g x) (flat_map g xs) ∙ ap (λ zs. flat_map f (g x) ++ zs) (flat-flat f g xs)

pub flat-map : {X Y : Type 0} (f : Y → List ℕ) (g : X → Y) (xs : List X) → flat_map f (map g xs) ≡ flat_map (λ (x : X). f (g x)) xs
flat-map f g [] = refl
flat-map f g (x ∷ xs) = ap (λ zs. f (g x) ++ zs) (flat-map f g xs)

pub flat-same : {X : Type 0} (f g : X → List ℕ) → ((x : X) → f x ≡ g x) → (xs : List X) → flat_map f xs ≡ flat_map g xs
flat-same f g same [] = refl
flat-same f g same (x ∷ xs) = ap₂ (λ a b. a ++ b) (same x) (flat-same f g same xs)

flat-last : {X : Type 0} (f : X → List ℕ) (xs : List X) (x : X) → flat_map f (xs ++ x ∷ []) ≡ flat_map f xs ++ f x
flat-last f xs x = flat_map-append f xs (x ∷ []) ∙ ap (λ ys. flat_map f xs ++ ys) (append-nil (f x))

-- the journals, each with the oldest entry first
abbrev pub journals_at : List PlaceState → List (List Entry)
journals_at ps = map (λ (s : PlaceState). reverse s.journal) ps

-- Messages.

verdicts-are : (x : MsgId) (ps : List PlaceState) → verdict_in x ps ≡ verdict_among x (journals_at ps)
verdicts-are x [] = refl
verdicts-are x (s ∷ ps) = ap₂ (λ (j : List Entry) o. option_or (verdict x j) o) (sym (reverse-reverse s.journal)) (verdicts-are x ps)

same-plain : (a : Answer) → plain_answer_text (plain_answer a) ≡ plain_answer_text a
same-plain (answers.Accepted position) = refl
same-plain (answers.Early hop) = refl
same-plain (answers.Elsewhere to hop) = refl
same-plain a = refl

same-verdict : (o : Option Answer) → verdict_text (option_map plain_answer o) ≡ verdict_text o
same-verdict None = refl
same-verdict (Some a) = same-plain a

judged : (ps : List PlaceState) (x : MsgId) → fact_line (verdict_fact ps x) ≡ fact_line (Judged x (verdict_among x (journals_at ps)))
judged ps x =
    ap (λ t. phrase (codes "verdict") (id_text x ∷ t ∷ []) ++ 10 ∷ []) (same-verdict (verdict_in x ps))
    ∙ ap (λ o. fact_line (Judged x o)) (verdicts-are x ps)

stales-are : (x : MsgId) (ps : List PlaceState) → is_stale_in x ps ≡ is_stale_among x (journals_at ps)
stales-are x [] = refl
stales-are x (s ∷ ps) = ap₂ (λ (j : List Entry) b. is_stale_at x j || b) (sym (reverse-reverse s.journal)) (stales-are x ps)

stale-lines : (x : MsgId) (b : Bool) → flat_map fact_line (stale_facts x b) ≡ stale_line x b
stale-lines x false = refl
stale-lines x true = append-nil (stale_line x true)

about : (ps : List PlaceState) (x : MsgId) → flat_map fact_line (facts_about ps x) ≡ lines_about (journals_at ps) x
about ps x =
    ap₂ (λ a b. a ++ b) (judged ps x) (stale-lines x (is_stale_in x ps) ∙ ap (stale_line x) (stales-are x ps))

-- the copies that a journal makes
copies-lines : (js : List (List Entry)) (x : MsgId) (journal : List Entry) → flat_map (λ (m : Sent). lines_about js m.id) (copies_of x journal) ≡ chosen_lines x js (reverse journal)
copies-lines js x [] = refl
copies-lines js x (e ∷ past) =
    flat_map-append (λ (m : Sent). lines_about js m.id) (copies_of x past) (copies_by x e.act)
    ∙ ap (λ ys. ys ++ sent_lines js (copies_by x e.act)) (copies-lines js x past)
    ∙ sym (ap (chosen_lines x js) (reverse-append (e ∷ []) past) ∙ flat-last (λ (f : Entry). sent_lines js (copies_by x f.act)) (reverse past) e)

all-copies : (js : List (List Entry)) (x : MsgId) (ps : List PlaceState) → flat_map (lines_about js) (copies_in x ps) ≡ flat_map (chosen_lines x js) (journals_at ps)
all-copies js x [] = refl
all-copies js x (s ∷ ps) =
    flat_map-append (lines_about js) (map (λ (m : Sent). m.id) (copies_of x s.journal)) (copies_in x ps)
    ∙ ap₂ (λ a b. a ++ b) (flat-map (lines_about js) (λ (m : Sent). m.id) (copies_of x s.journal) ∙ copies-lines js x s.journal) (all-copies js x ps)

pub told-lines : (ps : List PlaceState) (ids : List MsgId) → flat_map fact_line (flat_map (facts_about ps) (flat_map (λ (x : MsgId). x ∷ copies_in x ps) ids)) ≡ flat_map (message_lines (journals_at ps)) ids
told-lines ps ids =
    let js = journals_at ps in
    flat-flat fact_line (facts_about ps) (flat_map (λ (x : MsgId). x ∷ copies_in x ps) ids)
    ∙ flat-same (λ (x : MsgId). flat_map fact_line (facts_about ps x)) (lines_about js) (about ps) (flat_map (λ (x : MsgId). x ∷ copies_in x ps) ids)
    ∙ flat-flat (lines_about js) (λ (x : MsgId). x ∷ copies_in x ps) ids
    ∙ flat-same (λ (x : MsgId). lines_about js x ++ flat_map (lines_about js) (copies_in x ps)) (message_lines js) (λ x. ap (λ zs. lines_about js x ++ zs) (all-copies js x ps)) ids

-- Ports.

held-placed : (q : Ui) (n : ℕ) (ports : List PortRecord) (rest : List Placed) → held_among q (placed_at n ports ++ rest) ≡ option_or (table.find q ports) (held_among q rest)
held-placed q n [] rest = refl
held-placed q n (r ∷ ports) rest = by (same_ui r.ui q) (held-placed q n ports rest)
  where
    by : (b : Bool) → held_among q (placed_at n ports ++ rest) ≡ option_or (table.find q ports) (held_among q rest)
        → cond b (Some r) (held_among q (placed_at n ports ++ rest)) ≡ option_or (cond b (Some r) (table.find q ports)) (held_among q rest)
    by true ih = refl
    by false ih = ih

held-are : (q : Ui) (ps : List PlaceState) → held_in q ps ≡ held_among q (placed_in ps)
held-are q [] = refl
held-are q (s ∷ ps) = ap (option_or (table.find q s.ports)) (held-are q ps) ∙ sym (held-placed q s.number s.ports (placed_in ps))

abbrev line_of : List PlaceState → Ui → List ℕ
line_of ps q = held_line (held_in q ps)

one-line : (o : Option PortRecord) (facts : List Fact) → flat_map fact_line (cons_option (option_map port_fact o) facts) ≡ held_line o ++ flat_map fact_line facts
one-line None facts = refl
one-line (Some r) facts = refl

listed-lines : (ps : List PlaceState) (qs : List Ui) → flat_map fact_line (filter_map (λ (q : Ui). option_map port_fact (held_in q ps)) qs) ≡ flat_map (line_of ps) qs
listed-lines ps [] = refl
listed-lines ps (q ∷ qs) =
    one-line (held_in q ps) (filter_map (λ (r : Ui). option_map port_fact (held_in r ps)) qs) ∙ ap (λ zs. line_of ps q ++ zs) (listed-lines ps qs)

made-lines : (f : Ui → List ℕ) (journal : List Entry) → flat_map f (made_by journal) ≡ flat_map (λ (e : Entry). flat_map f (made_in e.act)) (reverse journal)
made-lines f [] = refl
made-lines f (e ∷ here) =
    flat_map-append f (made_by here) (made_in e.act)
    ∙ ap (λ zs. zs ++ flat_map f (made_in e.act)) (made-lines f here)
    ∙ sym (ap (flat_map (λ (g : Entry). flat_map f (made_in g.act))) (reverse-append (e ∷ []) here) ∙ flat-last (λ (g : Entry). flat_map f (made_in g.act)) (reverse here) e)

all-made : (f : Ui → List ℕ) (ps : List PlaceState) → flat_map f (made_at ps) ≡ flat_map (λ (journal : List Entry). flat_map (λ (e : Entry). flat_map f (made_in e.act)) journal) (journals_at ps)
all-made f [] = refl
all-made f (s ∷ ps) =
    flat_map-append f (made_by s.journal) (made_at ps)
    ∙ ap₂ (λ a b. a ++ b) (made-lines f s.journal) (all-made f ps)

pub port-lines : (ps : List PlaceState) → flat_map fact_line (filter_map (λ (q : Ui). option_map port_fact (held_in q ps)) (made_at ps)) ≡ flat_map (made_lines (placed_in ps)) (journals_at ps)
port-lines ps =
    listed-lines ps (made_at ps)
    ∙ flat-same (line_of ps) (λ (q : Ui). held_line (held_among q (placed_in ps))) (λ q. ap held_line (held-are q ps)) (made_at ps)
    ∙ all-made (λ (q : Ui). held_line (held_among q (placed_in ps))) ps
