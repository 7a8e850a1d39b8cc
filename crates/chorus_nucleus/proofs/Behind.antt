-- What a pass has seen has clocks up to its caller's last one, and what it makes stands behind it.
-- v and u are what the pass knows before and after, w and x its caller before and after, p the place, s its state.
use Rattle.std.proofs.Common.{ℕ, ◌≡◌, ◌<◌, ◌≤◌, ◌+◌, max, true, false, cond, List, [], ◌∷◌, ◌++◌, map, reverse, sym, ◌∙◌, ap, subst, append_assoc, append-nil, arith}
use mathlib.Core.Logic.{dite}
use native.Mathlib.Decide.{ℕ_discrete}
use Rattle.std.specs.List.{All}
use Rattle.std.proofs.lemmas.List.{reverse-reverse}
use Rattle.std.proofs.lemmas.List.Elements.{All-nil, All-cons, All-head, All-tail, All-append, All-weaker}
use Rattle.chorus_merge.proofs.Places.{All-append_parts}
use Rattle.chorus_entry.specs.declared.entry.Entry.{Entry}
use Rattle.chorus_entry.specs.declared.command.Command.{Command}
use Rattle.chorus_entry.specs.declared.packet.Packet.{Packet}
use Rattle.chorus_world.specs.Places.{last_clock}
use Rattle.chorus_ui.specs.declared.layout.Layout.{Layout}
use Rattle.chorus_calls.specs.Callers.{Seated, raised}
use Rattle.law_machine.specs.PlaceState.{PlaceState, started}
use Rattle.law_network.proofs.Merge.Parts.{All-reverse}
use Rattle.chorus_turn.specs.declared.knowledge.Remarked.{Remarked}
use Rattle.chorus_turn.specs.declared.knowledge.Placed.{Placed}
use Rattle.chorus_turn.specs.declared.knowledge.Knowledge.{Knowledge}
use Rattle.chorus_turn.specs.declared.knowledge.Note.{Note}
use Rattle.chorus_turn.specs.Lists.{StartsWith, StartsWithBoth, list_at, list_put, is_longer, longer}
use Rattle.chorus_turn.specs.Journals.{entries_of, with_place}
use Rattle.chorus_turn.specs.Knowing.{seen_at, after_turn, after_retirement, note_of}
use Rattle.chorus_turn.proofs.Fronts.{put_here, put_elsewhere, starts_itself, starts_more, starts_same, list_at-longer}
use Rattle.law_history.specs.declared.turns.Input.{Input}
use Rattle.law_history.specs.Histories.{Takes}
use Rattle.law_history.specs.PlaceTurns.{machine}
use Rattle.law_history.specs.Entries.{ClocksFall}
use Rattle.law_history.proofs.Falling.{falls-last, turn-falls, turn-last, journals-fall, falls-rest, falls-above}
use Rattle.law_closing.specs.Places.{PlaceNote}
use Rattle.law_closing.specs.Behind.{HasSeenBelow, StandsBehind, AllStandBehind}
use Rattle.law_closing.specs.Remarks.{turns_at, numbered, remarked}
use Rattle.chorus_nucleus.specs.SiteTurns.Turning.{IsNews, HasSeenMore}

-- Callers to whom entries were shown.

max-same : (n : ℕ) → max n n ≡ n
max-same n = omega arith

max-up : (a b : ℕ) → max a (max a b) ≡ max a b
max-up a b = omega arith

with-last : (w : Seated) (a b : ℕ) → a ≡ b → record w { last = a } ≡ record w { last = b }
with-last w a b e = ap (λ n. record w { last = n }) e

pub more-itself : (w : Seated) → HasSeenMore w w
more-itself w = sym (with-last w (max w.last w.last) w.last (max-same w.last))

pub raised-zero : (w : Seated) → raised 0 w ≡ w
raised-zero w = with-last w (max w.last 0) w.last (let e : max w.last 0 ≡ w.last = omega arith in e)

pub more-raised : (clock : ℕ) (w : Seated) → HasSeenMore w (raised clock w)
more-raised clock w = sym (with-last w (max w.last (max w.last clock)) (max w.last clock) (max-up w.last clock))

-- shown entries with this clock
pub shown-more : (clock : ℕ) (w x : Seated) → x ≡ raised clock w → HasSeenMore w x
shown-more clock w x h = subst (HasSeenMore w) (sym h) (more-raised clock w)

-- shown twice
pub more-more : (z w x : Seated) → HasSeenMore z w → HasSeenMore w x → HasSeenMore z x
more-more z w x a b =
    let at : w.last ≡ max z.last w.last = ap (λ (y : Seated). y.last) a in
    let up : x.last ≡ max w.last x.last = ap (λ (y : Seated). y.last) b in
    let last : max w.last x.last ≡ max z.last x.last = omega (arith, at, up) in
    b ∙ ap (raised x.last) a ∙ with-last z (max (max z.last w.last) x.last) (max z.last x.last) (let e : max (max z.last w.last) x.last ≡ max z.last x.last = omega (arith, at, up) in e)

pub more-up : (w x : Seated) → HasSeenMore w x → w.last ≤ x.last
more-up w x h = (let e = ap (λ (y : Seated). y.last) h in omega (arith, e))

-- What is seen after a turn.

unmapped : {A B : Type 0} (P : B → Type 0) (f : A → B) (xs : List A) → All P (map f xs) → All (λ x. P (f x)) xs
unmapped P f [] h = All-nil (λ x. P (f x))
unmapped P f (x ∷ xs) h = All-cons (λ y. P (f y)) x xs (All-head P (f x) (map f xs) h) (unmapped P f xs (All-tail P (f x) (map f xs) h))

of-entries : (P : Entry → Type 0) (found : List (Remarked PlaceNote)) → All P (entries_of found) → All (λ (r : Remarked PlaceNote). P r.entry) found
of-entries P found h = unmapped P (λ (r : Remarked PlaceNote). r.entry) found h

seen-after : (F : Remarked PlaceNote → Type 0) (p : ℕ) (found news : List (Remarked PlaceNote)) (v : Knowledge PlaceNote) → ((q : ℕ) → All F (seen_at q v)) → All F (found ++ news)
    → (q : ℕ) → All F (seen_at q (after_turn p found news v))
seen-after F p found news v old new q = dite (ℕ_discrete q p)
    (λ e. subst (λ j. All F (list_at j (list_put p (found ++ news) v.seen))) (sym e) (subst (All F) (sym (put_here p (found ++ news) v.seen)) new))
    (λ apart. subst (All F) (sym (put_elsewhere p q (found ++ news) v.seen apart)) (old q))

pub grows : (p : ℕ) (found news : List (Remarked PlaceNote)) (v : Knowledge PlaceNote) → StartsWith found (seen_at p v) → (q : ℕ) → StartsWith (seen_at q (after_turn p found news v)) (seen_at q v)
grows p found news v starts q = dite (ℕ_discrete q p)
    (λ e. subst (λ j. StartsWith (list_at j (list_put p (found ++ news) v.seen)) (seen_at j v)) (sym e)
    (starts_same (found ++ news) (list_at p (list_put p (found ++ news) v.seen)) (seen_at p v) (put_here p (found ++ news) v.seen) (starts_more found (seen_at p v) news starts)))
    (λ apart. starts_same (seen_at q v) (seen_at q (after_turn p found news v)) (seen_at q v) (put_elsewhere p q (found ++ news) v.seen apart) (starts_itself (seen_at q v)))

starts-then : {A : Type 0} (xs ys zs : List A) → StartsWith xs ys → StartsWith ys zs → StartsWith xs zs
starts-then xs ys zs a b = (b.0 ++ a.0, a.1 ∙ ap (λ l. l ++ a.0) b.1 ∙ append_assoc zs b.0 a.0)

-- what stood behind what was seen still does
still-behind : (v u : Knowledge PlaceNote) → ((q : ℕ) → StartsWith (seen_at q u) (seen_at q v)) → (m : Placed PlaceNote) → StandsBehind v m → StandsBehind u m
still-behind v u more m h = record { behind = h.behind; front = λ q. starts-then (seen_at q u) (seen_at q v) (list_at q m.seen) (more q) (h.front q) }

still-all : (v u : Knowledge PlaceNote) → ((q : ℕ) → StartsWith (seen_at q u) (seen_at q v)) → (ms : List (Placed PlaceNote)) → All (StandsBehind v) ms → All (StandsBehind u) ms
still-all v u more ms h = All-weaker (StandsBehind v) (StandsBehind u) (still-behind v u more) ms h

still-noted : (v u : Knowledge PlaceNote) → ((q : ℕ) → StartsWith (seen_at q u) (seen_at q v)) → (ns : List (Note PlaceNote)) → All (λ (n : Note PlaceNote). All (StandsBehind v) n.mine) ns
    → All (λ (n : Note PlaceNote). All (StandsBehind u) n.mine) ns
still-noted v u more ns h =
    All-weaker (λ (n : Note PlaceNote). All (StandsBehind v) n.mine) (λ (n : Note PlaceNote). All (StandsBehind u) n.mine) (λ n k. still-all v u more n.mine k) ns h

-- the clocks about a turn
pub record AreClocked (found : List (Remarked PlaceNote)) (x : Seated) (entry : Entry) (later : List Entry) : Type 0 where
  pub below : All (λ (r : Remarked PlaceNote). r.entry.clock < entry.clock) found
  pub rises : All (λ (e : Entry). (entry.clock < e.clock) × (e.clock ≤ x.last)) later
  pub upto : entry.clock ≤ x.last

-- the clocks of a journal
pub found-upto : (l : Layout) (p : ℕ) (s : PlaceState) (found : List (Remarked PlaceNote)) → entries_of found ≡ reverse s.journal → Takes (machine l) p (started l p) (turns_at p found) s
    → All (λ (r : Remarked PlaceNote). r.entry.clock ≤ last_clock s.journal) found
found-upto l p s found entries leads =
    let P : Entry → Type 0 = λ e. e.clock ≤ last_clock s.journal in
    of-entries P found (subst (All P) (sym entries) (All-reverse P s.journal (falls-last s.journal (journals-fall l p (turns_at p found) s leads))))

both : {A : Type 0} (P Q : A → Type 0) (xs : List A) → All P xs → All Q xs → All (λ x. P x × Q x) xs
both P Q xs a b = λ k d lt. (a k d lt, b k d lt)

pub clocked : (l : Layout) (p : ℕ) (i : Input Command Packet) (s : PlaceState) (w x : Seated) (found news : List (Remarked PlaceNote)) → entries_of found ≡ reverse s.journal → Takes (machine l) p (started l p) (turns_at p found) s
    → (n : IsNews i s w x news) → AreClocked found x n.entry n.later
clocked l p i s w x found news entries leads n =
    let old : ClocksFall s.journal = journals-fall l p (turns_at p found) s leads in
    let whole : List Entry = reverse n.later ++ n.entry ∷ s.journal in
    let falls : ClocksFall whole = subst ClocksFall n.journal (turn-falls i s w old) in
    let last : x.last ≡ last_clock whole = ap (λ (y : Seated). y.last) n.after ∙ turn-last s.layout s.number i s w n.may ∙ ap last_clock n.journal in
    let top : All (λ (e : Entry). e.clock ≤ x.last) whole = subst (λ c. All (λ (e : Entry). e.clock ≤ c) whole) (sym last) (falls-last whole falls) in
    let parts = All-append_parts (λ (e : Entry). e.clock ≤ x.last) (reverse n.later) (n.entry ∷ s.journal) top in
    let below : All (λ (e : Entry). e.clock < n.entry.clock) s.journal = (falls-rest (reverse n.later) (n.entry ∷ s.journal) falls).0 in
    let Q : Entry → Type 0 = λ e. (n.entry.clock < e.clock) × (e.clock ≤ x.last) in
    let up : All Q (reverse n.later) = both (λ (e : Entry). n.entry.clock < e.clock) (λ (e : Entry). e.clock ≤ x.last) (reverse n.later) (falls-above (reverse n.later) n.entry s.journal falls) parts.0 in
    record {
      below = of-entries (λ (e : Entry). e.clock < n.entry.clock) found
          (subst (All (λ (e : Entry). e.clock < n.entry.clock)) (sym entries) (All-reverse (λ (e : Entry). e.clock < n.entry.clock) s.journal below));
      rises = subst (All Q) (reverse-reverse n.later) (All-reverse Q (reverse n.later) up);
      upto = All-head (λ (e : Entry). e.clock ≤ x.last) n.entry s.journal parts.1;
    }

-- A turn: what was seen, what is seen then, and the new entries behind it.

new-upto : (n : ℕ) (r : PlaceNote) (last : ℕ) (es : List Entry) → All (λ (e : Entry). e.clock ≤ last) es → All (λ (q : Remarked PlaceNote). q.entry.clock < last + 1) (numbered n r es)
new-upto n r last [] h = All-nil (λ (q : Remarked PlaceNote). q.entry.clock < last + 1)
new-upto n r last (e ∷ es) h =
    let le = All-head (λ (f : Entry). f.clock ≤ last) e es h in
    All-cons (λ (q : Remarked PlaceNote). q.entry.clock < last + 1) record { entry = e; remark = record r { nth = n } } (numbered (n + 1) r es) (omega (arith, le))
    (new-upto (n + 1) r last es (All-tail (λ (f : Entry). f.clock ≤ last) e es h))

new-behind : (u : Knowledge PlaceNote) (p : ℕ) (seen : List (List (Remarked PlaceNote))) (n clock : ℕ) (r : PlaceNote) (es : List Entry) → ((q : ℕ) → All (λ (r : Remarked PlaceNote). r.entry.clock < clock) (list_at q seen))
    → ((q : ℕ) → StartsWith (seen_at q u) (list_at q seen)) → All (λ (e : Entry). clock ≤ e.clock) es → All (StandsBehind u) (with_place p seen (numbered n r es))
new-behind u p seen n clock r [] below front h = All-nil (StandsBehind u)
new-behind u p seen n clock r (e ∷ es) below front h =
    let le = All-head (λ (f : Entry). clock ≤ f.clock) e es h in
    All-cons (StandsBehind u) record { place = p; seen = seen; remarked = record { entry = e; remark = record r { nth = n } } } (with_place p seen (numbered (n + 1) r es))
    record {
      behind = λ q. All-weaker (λ (z : Remarked PlaceNote). z.entry.clock < clock) (λ (z : Remarked PlaceNote). z.entry.clock < e.clock) (λ z lt. omega (arith, lt, le)) (list_at q seen) (below q);
      front = front;
    }
    (new-behind u p seen (n + 1) clock r es below front (All-tail (λ (f : Entry). clock ≤ f.clock) e es h))

-- all that is seen before the first entry
pub seen-before : (p : ℕ) (v : Knowledge PlaceNote) (w : Seated) (clock : ℕ) (found : List (Remarked PlaceNote)) → HasSeenBelow (w.last + 1) v → w.last < clock → All (λ (r : Remarked PlaceNote). r.entry.clock < clock) found
    → HasSeenBelow clock (after_turn p found [] v)
seen-before p v w clock found old lt below =
    seen-after (λ (r : Remarked PlaceNote). r.entry.clock < clock) p found [] v
    (λ q. All-weaker (λ (r : Remarked PlaceNote). r.entry.clock < w.last + 1) (λ (r : Remarked PlaceNote). r.entry.clock < clock) (λ r le. omega (arith, le, lt)) (seen_at q v) (old q))
    (subst (All (λ (r : Remarked PlaceNote). r.entry.clock < clock)) (sym (append-nil found)) below)

pub seen-turned : (p : ℕ) (v : Knowledge PlaceNote) (w x : Seated) (found news : List (Remarked PlaceNote)) (r : PlaceNote) (entry : Entry) (later : List Entry) → HasSeenBelow (w.last + 1) v → w.last < entry.clock
    → AreClocked found x entry later → news ≡ remarked r (entry ∷ later) → HasSeenBelow (x.last + 1) (after_turn p found news v)
seen-turned p v w x found news r entry later old lt c is =
    let up = c.upto in
    let F : Remarked PlaceNote → Type 0 = λ z. z.entry.clock < x.last + 1 in
    seen-after F p found news v
    (λ q. All-weaker (λ (z : Remarked PlaceNote). z.entry.clock < w.last + 1) F (λ z le. omega (arith, le, lt, up)) (seen_at q v) (old q))
    (All-append F found news (All-weaker (λ (z : Remarked PlaceNote). z.entry.clock < entry.clock) F (λ z le. omega (arith, le, up)) found c.below)
    (subst (All F) (sym is) (new-upto 0 r x.last (entry ∷ later)
    (All-cons (λ (e : Entry). e.clock ≤ x.last) entry later c.upto (All-weaker (λ (e : Entry). (entry.clock < e.clock) × (e.clock ≤ x.last)) (λ (e : Entry). e.clock ≤ x.last) (λ e h. h.1) later c.rises)))))

pub behind-turned : (p : ℕ) (v : Knowledge PlaceNote) (w x : Seated) (found news : List (Remarked PlaceNote)) (r : PlaceNote) (entry : Entry) (later : List Entry) → HasSeenBelow (w.last + 1) v → w.last < entry.clock
    → AreClocked found x entry later → news ≡ remarked r (entry ∷ later) → StartsWith found (seen_at p v) → AllStandBehind v → AllStandBehind (after_turn p found news v)
behind-turned p v w x found news r entry later old lt c is starts h =
    let u : Knowledge PlaceNote = after_turn p found news v in
    let more = grows p found news v starts in
    let new : All (StandsBehind u) (with_place p v.seen (remarked r (entry ∷ later))) =
    new-behind u p v.seen 0 entry.clock r (entry ∷ later)
    (λ q. All-weaker (λ (z : Remarked PlaceNote). z.entry.clock < w.last + 1) (λ (z : Remarked PlaceNote). z.entry.clock < entry.clock) (λ z le. omega (arith, le, lt)) (seen_at q v) (old q))
    more
    (All-cons (λ (e : Entry). entry.clock ≤ e.clock) entry later (omega arith)
    (All-weaker (λ (e : Entry). (entry.clock < e.clock) × (e.clock ≤ x.last)) (λ (e : Entry). entry.clock ≤ e.clock) (λ e k. (let lt = k.0 in omega (arith, lt))) later c.rises)) in
    record {
      own = All-append (StandsBehind u) v.mine (with_place p v.seen news) (still-all v u more v.mine h.own) (subst (λ ns. All (StandsBehind u) (with_place p v.seen ns)) (sym is) new);
      noted = still-noted v u more v.notes h.noted;
    }

-- A look.

pub seen-looked : (p : ℕ) (v : Knowledge PlaceNote) (w : Seated) (clock : ℕ) (found : List (Remarked PlaceNote)) → HasSeenBelow (w.last + 1) v → All (λ (r : Remarked PlaceNote). r.entry.clock ≤ clock) found
    → HasSeenBelow (max w.last clock + 1) (after_turn p found [] v)
seen-looked p v w clock found old upto =
    let F : Remarked PlaceNote → Type 0 = λ z. z.entry.clock < max w.last clock + 1 in
    seen-after F p found [] v
    (λ q. All-weaker (λ (z : Remarked PlaceNote). z.entry.clock < w.last + 1) F (λ z le. omega (arith, le)) (seen_at q v) (old q))
    (subst (All F) (sym (append-nil found)) (All-weaker (λ (z : Remarked PlaceNote). z.entry.clock ≤ clock) F (λ z le. omega (arith, le)) found upto))

pub behind-looked : (p : ℕ) (v : Knowledge PlaceNote) (found : List (Remarked PlaceNote)) → StartsWith found (seen_at p v) → AllStandBehind v → AllStandBehind (after_turn p found [] v)
behind-looked p v found starts h =
    let u : Knowledge PlaceNote = after_turn p found [] v in
    let more = grows p found [] v starts in
    record {
      own = subst (All (StandsBehind u)) (sym (append-nil v.mine)) (still-all v u more v.mine h.own);
      noted = still-noted v u more v.notes h.noted;
    }

-- A pass is retired into another.

longer-either : (F : Remarked PlaceNote → Type 0) (xs ys : List (Remarked PlaceNote)) → All F xs → All F ys → All F (longer xs ys)
longer-either F xs ys a b = elim (is_longer ys xs) as (λ t. All F (cond t ys xs)) [ true ↦ b | false ↦ a ]

pub seen-joined : (v u : Knowledge PlaceNote) (w x : Seated) → HasSeenBelow (w.last + 1) v → HasSeenBelow (x.last + 1) u → HasSeenBelow (max w.last x.last + 1) (after_retirement v u)
seen-joined v u w x a b p =
    let F : Remarked PlaceNote → Type 0 = λ z. z.entry.clock < max w.last x.last + 1 in
    subst (All F) (sym (list_at-longer p v.seen u.seen))
    (longer-either F (seen_at p v) (seen_at p u)
    (All-weaker (λ (z : Remarked PlaceNote). z.entry.clock < w.last + 1) F (λ z le. omega (arith, le)) (seen_at p v) (a p))
    (All-weaker (λ (z : Remarked PlaceNote). z.entry.clock < x.last + 1) F (λ z le. omega (arith, le)) (seen_at p u) (b p)))

pub behind-joined : (v u : Knowledge PlaceNote) → StartsWithBoth (after_retirement v u).seen v.seen u.seen → AllStandBehind v → AllStandBehind u → AllStandBehind (after_retirement v u)
behind-joined v u sees a b =
    let k : Knowledge PlaceNote = after_retirement v u in
    let first : (q : ℕ) → StartsWith (seen_at q k) (seen_at q v) = λ q. (sees q).0 in
    let second : (q : ℕ) → StartsWith (seen_at q k) (seen_at q u) = λ q. (sees q).1 in
    let Noted : Note PlaceNote → Type 0 = λ n. All (StandsBehind k) n.mine in
    record {
      own = still-all v k first v.mine a.own;
      noted = All-append Noted v.notes (note_of u ∷ u.notes) (still-noted v k first v.notes a.noted)
          (All-cons Noted (note_of u) u.notes (still-all u k second u.mine b.own) (still-noted u k second u.notes b.noted));
    }

-- a pass that knows of the same entries
pub kept-behind : (v u : Knowledge PlaceNote) → u.seen ≡ v.seen → u.mine ≡ v.mine → u.notes ≡ v.notes → AllStandBehind v → AllStandBehind u
kept-behind v u seen mine notes h =
    let more : (q : ℕ) → StartsWith (seen_at q u) (seen_at q v) = λ q. starts_same (seen_at q v) (seen_at q u) (seen_at q v) (ap (list_at q) seen) (starts_itself (seen_at q v)) in
    record {
      own = subst (All (StandsBehind u)) (sym mine) (still-all v u more v.mine h.own);
      noted = subst (All (λ (n : Note PlaceNote). All (StandsBehind u) n.mine)) (sym notes) (still-noted v u more v.notes h.noted);
    }
