-- The numbers of a summary that are told by seats and by messages; and all of them.
use Rattle.std.proofs.Common.{ℕ, ◌≡◌, ◌+◌, ◌==◌, nat_lt, Bool, true, false, not, ◌&&◌, ◌||◌, cond, if◌then◌else◌, List, [], ◌∷◌, Option, Some, None, is_none, sum_by, count_by, refl, sym, ◌∙◌, ap, subst, arith, inl, inr}
use Rattle.std.specs.Option.{option_or}
use Rattle.std.proofs.lemmas.Bool.{and_parts, and_from, eqb-true, eqb-false, eq-eqb, ne_eqb, lt-ltb, ltb-true, not-true, false≢true, cases_eq}
use Rattle.std.proofs.lemmas.List.Sums.{sum_by-cons}
use Rattle.chorus_ui.specs.declared.layout.Layout.{Layout}
use Rattle.chorus_ui.specs.Layout.{IsLayout}
use Rattle.chorus_entry.specs.declared.answer.Answer.{Answer}
use Rattle.chorus_entry.specs.declared.entry.Entry.{Entry}
use Rattle.chorus_entry.specs.declared.id.MsgId.{MsgId}
use Rattle.chorus_entry.specs.declared.act.Act.{Act}
use Rattle.chorus_entry.specs.declared.act.Act.TheVariants.{Post, Accept, Full, Already, ClientsFull, Stale, Early, NoPort, Elsewhere, NoMember, Gone}
use Rattle.chorus_entry.specs.Act.{is_decision, is_verdict, message_of, answer_of}
use Rattle.chorus_entry.specs.MsgId.{same_id}
use Rattle.chorus_entry.specs.Same.{are_same}
use Rattle.chorus_entry.proofs.Same.{from_same_id, same_id-self}
use Rattle.chorus_world.specs.declared.progress.Progress.{Progress}
use Rattle.chorus_world.specs.declared.progress.Progress.TheVariants.{Idle, Asked, Tried, Decided, Settled, Reported}
use Rattle.chorus_world.specs.declared.place.Location.{Location}
use Rattle.chorus_world.specs.Views.{at, by, about, on}
use Rattle.chorus_world.specs.Ports.{fate, is_held_at}
use Rattle.chorus_world.specs.Posts.{site_asked}
use Rattle.chorus_world.specs.Messages.{progress, verdict, verdict_by}
use Rattle.chorus_world.specs.Places.{located}
use Rattle.chorus_world.specs.Seats.{posts, posts_after}
use Rattle.chorus_world.specs.Steps.{is_legal}
use Rattle.chorus_world.specs.DecisionLaws.{IsPassed, naming_decision}
use Rattle.chorus_world.proofs.Steps.LegalLemmas.{legal_parts}
use Rattle.chorus_world.proofs.Ports.LineLemmas.{none_some}
use Rattle.chorus_world.proofs.Messages.Decided.{stale_names_later, answers_newer}
use Rattle.chorus_world.proofs.Messages.VerdictLemmas.{has_one_verdict}
use Rattle.chorus_show.specs.Summary.{is_post, is_stale, is_refusal}
use Rattle.law_summary.specs.Numbers.{has_seat, seats_of, SumsOfSeats, has_message, with_message, messages_of, is_refused, CountsTheRefused, is_too_late, decides_late, late_decisions, SummariesCountTheRest}
use Rattle.law_summary.proofs.Adding.{sum-reverse, sum-zero, sum-one, Each, each-more, sum-same, sum-by-keys}
use Rattle.law_summary.proofs.ByPort.{one, sums-of-ports}
use Rattle.law_summary.proofs.ByFate.{sums-of-fates}

-- Seats.

flip : (a b : ℕ) → (a == b) ≡ (b == a)
flip a b =
    elim (cases_eq a b) [
      | inl e ↦ eq-eqb a b e ∙ sym (eq-eqb b a (sym e))
      | inr n ↦ ne_eqb a b n ∙ sym (ne_eqb b a (λ e. n (sym e)))
    ]

-- a key that stands at most once is counted where it stands
seat-count : (s : ℕ) (past : List Entry) → count_by (λ k. k == s) (seats_of past) ≡ one (has_seat s (seats_of past))
seat-count s [] = refl
seat-count s (e ∷ past) = go (has_seat e.seat (seats_of past)) refl (seat-count s past)
  where
    go : (b : Bool) → has_seat e.seat (seats_of past) ≡ b → count_by (λ k. k == s) (seats_of past) ≡ one (has_seat s (seats_of past)) → count_by (λ k. k == s) (cond b (seats_of past) (e.seat ∷ seats_of past)) ≡ one (has_seat s (cond b (seats_of past) (e.seat ∷ seats_of past)))
    go true t ih = ih
    go false f ih =
        sum_by-cons (λ k. one (k == s)) e.seat (seats_of past)
        ∙ (ap (λ n. one (e.seat == s) + n) ih ∙ by (e.seat == s) refl)
      where
        by : (c : Bool) → (e.seat == s) ≡ c → one c + one (has_seat s (seats_of past)) ≡ one (c || has_seat s (seats_of past))
        by false u = (let z : 0 + one (has_seat s (seats_of past)) ≡ one (has_seat s (seats_of past)) = omega arith in z)
        by true u = ap (λ b. 1 + one b) (ap (λ z. has_seat z (seats_of past)) (sym (eqb-true e.seat s u)) ∙ f)

second : (a b : Bool) → b ≡ true → a || b ≡ true
second true b e = refl
second false b e = e

seat-stays : (s : ℕ) (e : Entry) (past : List Entry) → has_seat s (seats_of past) ≡ true → has_seat s (seats_of (e ∷ past)) ≡ true
seat-stays s e past h = go (has_seat e.seat (seats_of past))
  where
    go : (b : Bool) → has_seat s (cond b (seats_of past) (e.seat ∷ seats_of past)) ≡ true
    go true = h
    go false = second (e.seat == s) (has_seat s (seats_of past)) h

seat-now : (e : Entry) (past : List Entry) → has_seat e.seat (seats_of (e ∷ past)) ≡ true
seat-now e past = go (has_seat e.seat (seats_of past)) refl
  where
    go : (b : Bool) → has_seat e.seat (seats_of past) ≡ b → has_seat e.seat (cond b (seats_of past) (e.seat ∷ seats_of past)) ≡ true
    go true t = t
    go false f = ap (λ b. b || has_seat e.seat (seats_of past)) (eq-eqb e.seat e.seat refl)

all-seats : (past : List Entry) → Each (λ (e : Entry). has_seat e.seat (seats_of past) ≡ true) past
all-seats [] = tt
all-seats (e ∷ past) =
    (seat-now e past, each-more (λ (f : Entry). has_seat f.seat (seats_of past) ≡ true) (λ (f : Entry). has_seat f.seat (seats_of (e ∷ past)) ≡ true) (λ f k. seat-stays f.seat e past k) past (all-seats past))

abbrev posts_by : ℕ → Entry → ℕ
posts_by s e = cond (s == e.seat) (one (is_post e.act)) 0

post-more : (a : Act) (n : ℕ) → one (is_post a) + n ≡ posts_after a n
post-more (Post m d) n = omega arith
post-more _ n = omega arith

seat-posts : (s : ℕ) (past : List Entry) → sum_by (posts_by s) past ≡ posts (by s past)
seat-posts s [] = refl
seat-posts s (e ∷ past) =
    sum_by-cons (posts_by s) e past
    ∙ (ap (λ b. cond b (one (is_post e.act)) 0 + sum_by (posts_by s) past) (flip s e.seat) ∙ go (e.seat == s) (seat-posts s past))
  where
    go : (b : Bool) → sum_by (posts_by s) past ≡ posts (by s past) → cond b (one (is_post e.act)) 0 + sum_by (posts_by s) past ≡ posts (cond b (e ∷ by s past) (by s past))
    go true ih = ap (λ n. one (is_post e.act) + n) ih ∙ post-more e.act (posts (by s past))
    go false ih = (let z : 0 + sum_by (posts_by s) past ≡ sum_by (posts_by s) past = omega arith in z ∙ ih)

sums-of-seats : (past : List Entry) → SumsOfSeats past
sums-of-seats past =
    sum-reverse (λ (e : Entry). one (is_post e.act)) past
    ∙ (sum-by-keys (λ (e : Entry). one (is_post e.act)) posts_by (seats_of past) past
    (each-more (λ (e : Entry). has_seat e.seat (seats_of past) ≡ true) (λ (e : Entry). sum_by (λ s. posts_by s e) (seats_of past) ≡ one (is_post e.act))
    (λ e k. sum-one (λ s. s == e.seat) (one (is_post e.act)) (seats_of past) (seat-count e.seat past ∙ ap one k)) past (all-seats past))
    ∙ sum-same (λ s. sum_by (posts_by s) past) (λ s. posts (by s past)) (λ s. seat-posts s past) (seats_of past))

-- Messages.

message-count : (x : MsgId) (past : List Entry) → count_by (λ y. same_id y x) (messages_of past) ≡ one (has_message x (messages_of past))
message-count x [] = refl
message-count x (e ∷ past) = of (message_of e.act) (message-count x past)
  where
    of : (o : Option MsgId) → count_by (λ y. same_id y x) (messages_of past) ≡ one (has_message x (messages_of past)) → count_by (λ y. same_id y x) (with_message o (messages_of past)) ≡ one (has_message x (with_message o (messages_of past)))
    of None ih = ih
    of (Some z) ih = go (has_message z (messages_of past)) refl
      where
        go : (b : Bool) → has_message z (messages_of past) ≡ b → count_by (λ y. same_id y x) (cond b (messages_of past) (z ∷ messages_of past)) ≡ one (has_message x (cond b (messages_of past) (z ∷ messages_of past)))
        go true t = ih
        go false f =
            sum_by-cons (λ y. one (same_id y x)) z (messages_of past)
            ∙ (ap (λ n. one (same_id z x) + n) ih ∙ by (same_id z x) refl)
          where
            by : (c : Bool) → same_id z x ≡ c → one c + one (has_message x (messages_of past)) ≡ one (c || has_message x (messages_of past))
            by false u = (let k : 0 + one (has_message x (messages_of past)) ≡ one (has_message x (messages_of past)) = omega arith in k)
            by true u = ap (λ b. 1 + one b) (ap (λ y. has_message y (messages_of past)) (sym (from_same_id z x u)) ∙ f)

message-stays : (x : MsgId) (o : Option MsgId) (xs : List MsgId) → has_message x xs ≡ true → has_message x (with_message o xs) ≡ true
message-stays x None xs h = h
message-stays x (Some z) xs h = go (has_message z xs)
  where
    go : (b : Bool) → has_message x (cond b xs (z ∷ xs)) ≡ true
    go true = h
    go false = second (same_id z x) (has_message x xs) h

message-now : (x : MsgId) (xs : List MsgId) → has_message x (with_message (Some x) xs) ≡ true
message-now x xs = go (has_message x xs) refl
  where
    go : (b : Bool) → has_message x xs ≡ b → has_message x (cond b xs (x ∷ xs)) ≡ true
    go true t = t
    go false f = ap (λ b. b || has_message x xs) (same_id-self x)

abbrev IsKnown : List Entry → Entry → Type 0
IsKnown past e = (x : MsgId) → message_of e.act ≡ Some x → has_message x (messages_of past) ≡ true

all-known : (past : List Entry) → Each (IsKnown past) past
all-known [] = tt
all-known (e ∷ past) = (
  λ x m. subst (λ o. has_message x (with_message o (messages_of past)) ≡ true) (sym m) (message-now x (messages_of past)),
  each-more (IsKnown past) (IsKnown (e ∷ past)) (λ f k x m. message-stays x (message_of e.act) (messages_of past) (k x m)) past (all-known past),
)

-- what an entry refuses of one message
abbrev refuses : MsgId → Entry → ℕ
refuses x e = cond (are_same same_id (Some x) (message_of e.act)) (one (is_refusal e.act)) 0

-- a refusal is about a message
refusal-about : (a : Act) → is_refusal a ≡ true → (x : MsgId) × (message_of a ≡ Some x)
refusal-about (Full x q n) h = (x, refl)
refusal-about (Early x q hop) h = (x, refl)
refusal-about (NoPort x q) h = (x, refl)
refusal-about (Already x q) h = (x, refl)
refusal-about (ClientsFull x q) h = (x, refl)
refusal-about (Elsewhere x q to hop) h = (x, refl)
refusal-about (NoMember x g) h = (x, refl)
refusal-about (Gone x q) h = (x, refl)
refusal-about _ h = absurd (false≢true h)

-- and the verdict of it, other than that it was accepted
refusal-verdict : (a : Act) → is_refusal a ≡ is_refused (if is_verdict a then answer_of a else None)
refusal-verdict (Accept x q n) = refl
refusal-verdict (Full x q n) = refl
refusal-verdict (Early x q hop) = refl
refusal-verdict (NoPort x q) = refl
refusal-verdict (Already x q) = refl
refusal-verdict (ClientsFull x q) = refl
refusal-verdict (Elsewhere x q to hop) = refl
refusal-verdict (NoMember x g) = refl
refusal-verdict (Gone x q) = refl
refusal-verdict _ = refl

-- a message has one verdict
message-refused : (l : Layout) (past : List Entry) (x : MsgId) → is_legal l past ≡ true → sum_by (refuses x) past ≡ one (is_refused (verdict x past))
message-refused l [] x h = refl
message-refused l (e ∷ past) x h =
    sum_by-cons (refuses x) e past
    ∙ (ap (λ n. refuses x e + n) (message-refused l past x (legal_parts l e past h).1) ∙ go (are_same same_id (Some x) (message_of e.act)) refl)
  where
    none-more : (o : Option Answer) → 0 + one (is_refused o) ≡ one (is_refused (option_or o None))
    none-more None = refl
    none-more (Some a) = (let z : 0 + one (is_refused (Some a)) ≡ one (is_refused (Some a)) = omega arith in z)

    go : (b : Bool) → are_same same_id (Some x) (message_of e.act) ≡ b → cond b (one (is_refusal e.act)) 0 + one (is_refused (verdict x past)) ≡ one (is_refused (option_or (verdict x past) (verdict_by x e.act)))
    go false f = none-more (verdict x past) ∙ ap (λ o. one (is_refused (option_or (verdict x past) o))) (sym (ap (λ b. if b then answer_of e.act else None) (ap (λ b. is_verdict e.act && b) f ∙ and-false (is_verdict e.act))))
      where
        and-false : (b : Bool) → b && false ≡ false
        and-false true = refl
        and-false false = refl
    go true t = by (verdict_by x e.act) refl
      where
        own : verdict_by x e.act ≡ (if is_verdict e.act then answer_of e.act else None)
        own = ap (λ b. if b then answer_of e.act else None) (ap (λ b. is_verdict e.act && b) t ∙ and-true (is_verdict e.act))
          where
            and-true : (b : Bool) → b && true ≡ b
            and-true true = refl
            and-true false = refl

        refused : is_refusal e.act ≡ is_refused (verdict_by x e.act)
        refused = refusal-verdict e.act ∙ ap is_refused (sym own)

        by : (o : Option Answer) → verdict_by x e.act ≡ o → one (is_refusal e.act) + one (is_refused (verdict x past)) ≡ one (is_refused (option_or (verdict x past) o))
        by None v = ap (λ b. one b + one (is_refused (verdict x past))) (refused ∙ ap is_refused v) ∙ none-more (verdict x past)
        by (Some a) v =
            let new : verdict x past ≡ None = has_one_verdict l past e x a h v in
            (λ i. one ((refused ∙ ap is_refused v) i) + one (is_refused (new i)))
            ∙ ((let z : one (is_refused (Some a)) + 0 ≡ one (is_refused (Some a)) = omega arith in z) ∙ ap (λ o. one (is_refused (option_or o (Some a)))) (sym new))

counts-the-refused : (l : Layout) (past : List Entry) → is_legal l past ≡ true → CountsTheRefused past
counts-the-refused l past h =
    sum-reverse (λ (e : Entry). one (is_refusal e.act)) past
    ∙ (sum-by-keys (λ (e : Entry). one (is_refusal e.act)) refuses (messages_of past) past
    (each-more (IsKnown past) (λ (e : Entry). sum_by (λ x. refuses x e) (messages_of past) ≡ one (is_refusal e.act)) told past (all-known past))
    ∙ sum-same (λ x. sum_by (refuses x) past) (λ x. one (is_refused (verdict x past))) (λ x. message-refused l past x h) (messages_of past))
  where
    told : (e : Entry) → IsKnown past e → sum_by (λ x. refuses x e) (messages_of past) ≡ one (is_refusal e.act)
    told e k = go (message_of e.act) refl
      where
        go : (o : Option MsgId) → message_of e.act ≡ o → sum_by (λ x. cond (are_same same_id (Some x) o) (one (is_refusal e.act)) 0) (messages_of past) ≡ one (is_refusal e.act)
        go None m = sum-zero (messages_of past) ∙ sym (ap one (nothing-refused (is_refusal e.act) refl))
          where
            nothing-refused : (b : Bool) → is_refusal e.act ≡ b → b ≡ false
            nothing-refused false r = refl
            nothing-refused true r = (let y = refusal-about e.act r in none_some y.0 (sym m ∙ y.1))
        go (Some y) m = sum-one (λ x. same_id x y) (one (is_refusal e.act)) (messages_of past) (message-count y past ∙ ap one (k y m))

-- Late tries.

bool-same : (a b : Bool) → (a ≡ true → b ≡ true) → (b ≡ true → a ≡ true) → a ≡ b
bool-same true b f g = sym (f refl)
bool-same false true f g = g refl
bool-same false false f g = refl

is-late : (l : Layout) (past : List Entry) (e : Entry) → IsLayout l → is_legal l (e ∷ past) ≡ true → is_stale e.act ≡ (is_decision e.act && decides_late l past e.place (message_of e.act))
is-late l past e layout h = bool-same (is_stale e.act) (is_decision e.act && decides_late l past e.place (message_of e.act)) (λ s. late e.act refl s) (λ d. stale d)
  where
    nothing : (o : Option ℕ) → o ≡ None → is_none o ≡ true
    nothing o k = ap is_none k

    late : (a : Act) → e.act ≡ a → is_stale a ≡ true → is_decision e.act && decides_late l past e.place (message_of e.act) ≡ true
    late (Stale x q tried to hop) is s =
        let named = stale_names_later l past e layout h x q tried to hop is in
        let p = named.0 in
        let here = located l q (at e.place past) in
        let far : nat_lt tried here.hop ≡ true = ap (λ (z : Location). nat_lt tried z.hop) p.known ∙ lt-ltb tried hop p.later in
        let apart : not (here.to == e.place) ≡ true = ap (λ (z : Location). not (z.to == e.place)) p.known ∙ ap not (ne_eqb to e.place p.elsewhere) in
        let test : is_too_late l past e.place x (Tried p.from q e.place tried) ≡ true =
        and_from _ _ (and_from _ _ (and_from _ _ (and_from _ _ (eq-eqb e.place e.place refl) (ap not p.away)) far) apart) (nothing (site_asked x past) named.1) in
        (λ i. is_decision (is i) && decides_late l past e.place (message_of (is i))) ∙ (ap (is_too_late l past e.place x) p.is ∙ test)
    late _ is s = absurd (false≢true s)

    stale : is_decision e.act && decides_late l past e.place (message_of e.act) ≡ true → is_stale e.act ≡ true
    stale d = of (message_of e.act) refl two.1
      where
        two : (is_decision e.act ≡ true) × (decides_late l past e.place (message_of e.act) ≡ true)
        two = and_parts (is_decision e.act) (decides_late l past e.place (message_of e.act)) d

        of : (o : Option MsgId) → message_of e.act ≡ o → decides_late l past e.place o ≡ true → is_stale e.act ≡ true
        of None m k = absurd (false≢true k)
        of (Some x) m k = by (progress (about x past)) refl k
          where
            by : (s : Progress) → progress (about x past) ≡ s → is_too_late l past e.place x s ≡ true → is_stale e.act ≡ true
            by (Tried from q to hop) is t =
                let here = located l q (at e.place past) in
                let held = is_held_at e.place (fate (on q past)) in
                let four = and_parts ((to == e.place) && not held && nat_lt hop here.hop && not (here.to == e.place)) (is_none (site_asked x past)) t in
                let three = and_parts ((to == e.place) && not held && nat_lt hop here.hop) (not (here.to == e.place)) four.0 in
                let far = and_parts ((to == e.place) && not held) (nat_lt hop here.hop) three.0 in
                let one-two = and_parts (to == e.place) (not held) far.0 in
                let place : to ≡ e.place = eqb-true to e.place one-two.0 in
                let passed : IsPassed l past e x q hop here.to here.hop = record {
                  from = from;
                  is = is ∙ ap (λ z. Tried from q z hop) place;
                  away = not-true held one-two.1;
                  known = refl;
                  elsewhere = eqb-false here.to e.place (not-true (here.to == e.place) three.1);
                  later = ltb-true hop here.hop far.1;
                } in
                let says = answers_newer l past e layout h x q hop here.to here.hop two.0 m passed in
                ap is_stale says ∙ free (site_asked x past) four.1
              where
                free : (o : Option ℕ) → is_none o ≡ true → is_stale (naming_decision o x q hop (located l q (at e.place past)).to (located l q (at e.place past)).hop) ≡ true
                free None z = refl
                free (Some n) z = absurd (false≢true z)
            by Idle is t = absurd (false≢true t)
            by (Asked from q) is t = absurd (false≢true t)
            by (Decided from b r a) is t = absurd (false≢true t)
            by (Settled a) is t = absurd (false≢true t)
            by Reported is t = absurd (false≢true t)

late-count : (l : Layout) (past : List Entry) → IsLayout l → is_legal l past ≡ true → sum_by (λ (e : Entry). one (is_stale e.act)) past ≡ late_decisions l past
late-count l [] layout h = refl
late-count l (e ∷ past) layout h =
    sum_by-cons (λ (f : Entry). one (is_stale f.act)) e past
    ∙ (λ i. one (is-late l past e layout h i) + late-count l past layout (legal_parts l e past h).1 i)

pub summaries_count_rest : SummariesCountTheRest
summaries_count_rest l past layout h =
    record {
      ports = sums-of-ports l past layout h;
      fates = sums-of-fates l past layout h;
      posted = sums-of-seats past;
      refused = counts-the-refused l past h;
      stale = sum-reverse (λ (e : Entry). one (is_stale e.act)) past ∙ late-count l past layout h;
    }
