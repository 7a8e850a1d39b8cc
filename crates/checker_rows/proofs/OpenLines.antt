-- What is open of a line: the table's line and the messages sent leave the same.
use Rattle.std.proofs.Common.{ℕ, ◌≡◌, ◌==◌, ◌+◌, ◌-◌, ◌<◌, ◌≤◌, Bool, true, false, ◌&&◌, ◌||◌, not, cond, List, [], ◌∷◌, ◌++◌, length, take, get_or, length-take-le, filter, find, Option, Some, None, refl, sym, ◌∙◌, ap, arith}
use Rattle.std.proofs.lemmas.List.Elements.{filter-append}
use Rattle.std.proofs.lemmas.Bool.{false≢true}
use Rattle.std.proofs.lemmas.List.{append-nil, append_assoc, length-append, take_more}
use Rattle.std.specs.Option.{option_eq}
use Rattle.chorus_ui.specs.declared.ui.Ui.{Ui}
use Rattle.chorus_ui.specs.Name.{same_ui}
use Rattle.chorus_entry.specs.declared.entry.Entry.{Entry}
use Rattle.chorus_entry.specs.declared.id.MsgId.{MsgId}
use Rattle.chorus_world.specs.declared.place.Sent.{Sent}
use Rattle.chorus_world.specs.Views.{at}
use Rattle.chorus_world.specs.Places.{copies, is_settled, settles, unsettled, first_for, sent, sent_by}
use Rattle.chorus_entry.specs.Same.{same_route}
use Rattle.checker_rows.specs.Lines.{goes_by, ids_by, line_row, sent_by_line, but_last, is_pending}
use Rattle.checker_rows.specs.Messages.{is_from, is_over, sending}
use Rattle.checker_rows.specs.Keys.{same_line}
use Rattle.chorus_world.proofs.Messages.SentLemmas.{copy, copies_push}
use Rattle.checker_rows.specs.declared.keys.LineKey.{LineKey}

module _ {A : Type 0} where
  -- the first that passes is the first of those that pass
  abbrev pub first : List A → Option A
  first [] = None
  first (x ∷ xs) = Some x

  first_case : (t : A → Bool) (x : A) (xs : List A) (b : Bool) → find t xs ≡ first (filter t xs) → cond b (Some x) (find t xs) ≡ first (cond b (x ∷ filter t xs) (filter t xs))
  first_case t x xs true h = refl
  first_case t x xs false h = h

  pub find_first : (t : A → Bool) (xs : List A) → find t xs ≡ first (filter t xs)
  find_first t [] = refl
  find_first t (x ∷ xs) = first_case t x xs (t x) (find_first t xs)

  -- what passes both tests, where the second lets through no more than the first
  both_case : (s t : A → Bool) (x : A) (xs : List A) (b c : Bool) → s x ≡ b → t x ≡ c → (t x ≡ true → s x ≡ true) → filter t (filter s xs) ≡ filter t xs → filter t (cond b (x ∷ filter s xs) (filter s xs)) ≡ cond c (x ∷ filter t xs) (filter t xs)
  both_case s t x xs true true e f h k = ap (λ d. cond d (x ∷ filter t (filter s xs)) (filter t (filter s xs))) f ∙ ap (λ ys. x ∷ ys) k
  both_case s t x xs true false e f h k = ap (λ d. cond d (x ∷ filter t (filter s xs)) (filter t (filter s xs))) f ∙ k
  both_case s t x xs false true e f h k = absurd (false≢true (sym e ∙ h f))
  both_case s t x xs false false e f h k = k

  pub filter_both : (s t : A → Bool) → ((x : A) → t x ≡ true → s x ≡ true) → (xs : List A) → filter t (filter s xs) ≡ filter t xs
  filter_both s t h [] = refl
  filter_both s t h (x ∷ xs) = both_case s t x xs (s x) (t x) refl refl (h x) (filter_both s t h xs)

  -- lists that agree under a test agree under a narrower one
  pub narrower : (s t : A → Bool) (xs ys : List A) → ((x : A) → t x ≡ true → s x ≡ true) → filter s xs ≡ filter s ys → filter t xs ≡ filter t ys
  narrower s t xs ys h e = sym (filter_both s t h xs) ∙ (ap (filter t) e ∙ filter_both s t h ys)

  -- and with the same put behind
  pub longer : (t : A → Bool) (xs ys zs : List A) → filter t xs ≡ filter t ys → filter t (xs ++ zs) ≡ filter t (ys ++ zs)
  longer t xs ys zs e = filter-append t xs zs ∙ (ap (λ ws. ws ++ filter t zs) e ∙ sym (filter-append t ys zs))

ids_case : (k : LineKey) (m : Sent) (ms ns : List Sent) (b : Bool) → ids_by k (ms ++ ns) ≡ ids_by k ms ++ ids_by k ns → cond b (m.id ∷ ids_by k (ms ++ ns)) (ids_by k (ms ++ ns)) ≡ cond b (m.id ∷ ids_by k ms) (ids_by k ms) ++ ids_by k ns
ids_case k m ms ns true h = ap (λ xs. m.id ∷ xs) h
ids_case k m ms ns false h = h

pub ids_append : (k : LineKey) (ms ns : List Sent) → ids_by k (ms ++ ns) ≡ ids_by k ms ++ ids_by k ns
ids_append k [] ns = refl
ids_append k (m ∷ ms) ns = ids_case k m ms ns (goes_by k m) (ids_append k ms ns)

-- the message is open at the place with this past: not settled there
abbrev pub open_at : List Entry → MsgId → Bool
open_at here x = not (is_settled x here)

first_line : (k : LineKey) (here : List Entry) (m : Sent) (ms : List Sent) (b c : Bool) → first_for k.name k.route (unsettled here ms) ≡ find (open_at here) (ids_by k ms)
    → goes_by k m ≡ c → open_at here m.id ≡ b
    → first_for k.name k.route (cond b (m ∷ unsettled here ms) (unsettled here ms)) ≡ find (open_at here) (cond c (m.id ∷ ids_by k ms) (ids_by k ms))
first_line k here m ms true true h e f =
    ap (λ d. cond d (Some m.id) (first_for k.name k.route (unsettled here ms))) e ∙ sym (ap (λ d. cond d (Some m.id) (find (open_at here) (ids_by k ms))) f)
first_line k here m ms true false h e f = ap (λ d. cond d (Some m.id) (first_for k.name k.route (unsettled here ms))) e ∙ h
first_line k here m ms false true h e f = h ∙ sym (ap (λ d. cond d (Some m.id) (find (open_at here) (ids_by k ms))) f)
first_line k here m ms false false h e f = h

-- the first unsettled message of a port and route is the first open one of its line
pub first_is : (k : LineKey) (here : List Entry) (ms : List Sent) → first_for k.name k.route (unsettled here ms) ≡ find (open_at here) (ids_by k ms)
first_is k here [] = refl
first_is k here (m ∷ ms) = first_line k here m ms (open_at here m.id) (goes_by k m) (first_is k here ms) refl refl

-- The tie of a line to the past.
abbrev pub IsLine : List Entry → LineKey → List MsgId → Type 0
IsLine past k xs = filter (is_pending past) xs ≡ filter (is_pending past) (line_row past k)

-- lists that agree under a test have the same first one that passes it
pub same_first : {A : Type 0} (t : A → Bool) (xs ys : List A) → filter t xs ≡ filter t ys → find t xs ≡ find t ys
same_first t xs ys h = find_first t xs ∙ (ap first h ∙ sym (find_first t ys))

pending_before : (past : List Entry) (e : Entry) (x : MsgId) → is_pending (e ∷ past) x ≡ true → is_pending past x ≡ true
pending_before past e x h = by (is_from e.place (sending x past) && settles x e.act) (is_over x past) h
  where
    by : (b c : Bool) → not (b || c) ≡ true → not c ≡ true
    by true c g = absurd (false≢true g)
    by false c g = g

row_case : (k : LineKey) (e : Entry) (here : List Entry) (b : Bool) → ids_by k (sent (cond b (e ∷ here) here)) ≡ ids_by k (sent here) ++ cond b (ids_by k (sent_by e.act)) []
row_case k e here true = ids_append k (sent here) (sent_by e.act)
row_case k e here false = sym (append-nil (ids_by k (sent here)))

-- an entry puts what it sends behind the line
pub line_grows : (past : List Entry) (e : Entry) (k : LineKey) (xs : List MsgId) → IsLine past k xs → IsLine (e ∷ past) k (xs ++ cond (e.place == k.place) (ids_by k (sent_by e.act)) [])
line_grows past e k xs h =
    let here = at k.place past in
    let now = is_pending (e ∷ past) in
    let more = cond (e.place == k.place) (ids_by k (sent_by e.act)) [] in
    longer now xs (line_row past k) more (narrower (is_pending past) now xs (line_row past k) (λ x. pending_before past e x) h)
    ∙ sym (ap (filter now) (row_case k e here (e.place == k.place)))

-- Putting one behind, and taking it back.

route_is : (r s : Option Ui) → same_route r s ≡ option_eq same_ui r s
route_is None None = refl
route_is None (Some b) = refl
route_is (Some a) None = refl
route_is (Some a) (Some b) = refl

one_case : (a b : Bool) (xs : List MsgId) (x : MsgId) → cond (a && b) (xs ++ x ∷ []) xs ≡ xs ++ cond a (cond b (x ∷ []) []) []
one_case true true xs x = refl
one_case true false xs x = sym (append-nil xs)
one_case false b xs x = sym (append-nil xs)

-- one message more in its line
pub one_more : (p : ℕ) (q : Ui) (r : Option Ui) (m : Sent) (k : LineKey) (xs ys : List MsgId) → m.port ≡ q → m.route ≡ r
    → ys ≡ cond (same_line (record { place = p; name = q; route = r }) k) (xs ++ m.id ∷ []) xs → ys ≡ xs ++ sent_by_line p k (m ∷ [])
one_more p q r m k xs ys a b h =
    h
    ∙ (ap (λ t. cond ((p == k.place) && (same_ui q k.name && t)) (xs ++ m.id ∷ []) xs) (sym (route_is r k.route))
    ∙ (ap (λ u. cond ((p == k.place) && (same_ui u k.name && same_route r k.route)) (xs ++ m.id ∷ []) xs) (sym a)
    ∙ (ap (λ u. cond ((p == k.place) && (same_ui m.port k.name && same_route u k.route)) (xs ++ m.id ∷ []) xs) (sym b)
    ∙ one_case (p == k.place) (goes_by k m) xs m.id)))

line_case : (b : Bool) (xs ys : List MsgId) → cond b (xs ++ ys) [] ≡ cond b xs [] ++ cond b ys []
line_case true xs ys = refl
line_case false xs ys = refl

pub by_line_append : (p : ℕ) (k : LineKey) (ms ns : List Sent) → sent_by_line p k (ms ++ ns) ≡ sent_by_line p k ms ++ sent_by_line p k ns
by_line_append p k ms ns =
    ap (λ xs. cond (p == k.place) xs []) (ids_append k ms ns) ∙ line_case (p == k.place) (ids_by k ms) (ids_by k ns)

pub copies_next : (x : MsgId) (g : Ui) (qs : List Ui) (i : ℕ) (q : Ui) → i < length qs → q ≡ get_or qs i q → copies x g 1 (take (i + 1) qs) ≡ copies x g 1 (take i qs) ++ copy x g (i + 1) q ∷ []
copies_next x g qs i q lt at =
    let n : 1 + length (take i qs) ≡ i + 1 = omega (arith, length-take-le i qs) in
    ap (copies x g 1) (take_more qs i q lt)
    ∙ (copies_push x g 1 (take i qs) (get_or qs i q)
    ∙ (ap (λ j. copies x g 1 (take i qs) ++ copy x g j (get_or qs i q) ∷ []) n
    ∙ ap (λ u. copies x g 1 (take i qs) ++ copy x g (i + 1) u ∷ []) (sym at)))

-- the copy for one member more in its line
pub copy_more : (p : ℕ) (k : LineKey) (x y : MsgId) (g : Ui) (qs : List Ui) (i : ℕ) (q : Ui) (l : LineKey) (b xs ys : List MsgId)
    → i < length qs → q ≡ get_or qs i q → y ≡ record x { copy = i + 1 } → l ≡ record { place = p; name = q; route = Some g }
    → xs ≡ b ++ sent_by_line p k (copies x g 1 (take i qs)) → ys ≡ cond (same_line l k) (xs ++ y ∷ []) xs
    → ys ≡ b ++ sent_by_line p k (copies x g 1 (take (i + 1) qs))
copy_more p k x y g qs i q l b xs ys lt at id is old new =
    let m : Sent = copy x g (i + 1) q in
    let h : ys ≡ cond (same_line (record { place = p; name = q; route = Some g }) k) (xs ++ m.id ∷ []) xs = new ∙ (ap (λ z. cond (same_line z k) (xs ++ y ∷ []) xs) is ∙ ap (λ z. cond (same_line (record { place = p; name = q; route = Some g }) k) (xs ++ z ∷ []) xs) id) in
    one_more p q (Some g) m k xs ys refl refl h
    ∙ (ap (λ zs. zs ++ sent_by_line p k (m ∷ [])) old
    ∙ (append_assoc b (sent_by_line p k (copies x g 1 (take i qs))) (sent_by_line p k (m ∷ []))
    ∙ (ap (λ zs. b ++ zs) (sym (by_line_append p k (copies x g 1 (take i qs)) (m ∷ [])))
    ∙ ap (λ ms. b ++ sent_by_line p k ms) (sym (copies_next x g qs i q lt at)))))

take_all : (xs : List MsgId) (x : MsgId) → take (length xs) (xs ++ x ∷ []) ≡ xs
take_all [] x = refl
take_all (y ∷ ys) x = ap (λ zs. y ∷ zs) (take_all ys x)

pub but_last_push : (xs : List MsgId) (x : MsgId) → but_last (xs ++ x ∷ []) ≡ xs
but_last_push xs x =
    let n : length (xs ++ x ∷ []) - 1 ≡ length xs = omega (arith, length-append xs (x ∷ [])) in
    ap (λ i. take i (xs ++ x ∷ [])) n ∙ take_all xs x

back_case : (a c : Bool) (b zs : List MsgId) (x : MsgId) (xs : List MsgId) → xs ≡ b ++ (zs ++ cond a (cond c (x ∷ []) []) []) → cond (a && c) (but_last xs) xs ≡ b ++ zs
back_case true true b zs x xs h = ap but_last (h ∙ sym (append_assoc b zs (x ∷ []))) ∙ but_last_push (b ++ zs) x
back_case true false b zs x xs h = h ∙ ap (λ ws. b ++ ws) (append-nil zs)
back_case false c b zs x xs h = h ∙ ap (λ ws. b ++ ws) (append-nil zs)

pub copy_back : (p : ℕ) (k : LineKey) (x : MsgId) (g : Ui) (qs : List Ui) (i : ℕ) (q : Ui) (l : LineKey) (b xs ys : List MsgId)
    → i < length qs → q ≡ get_or qs i q → l ≡ record { place = p; name = q; route = Some g }
    → xs ≡ b ++ sent_by_line p k (copies x g 1 (take (i + 1) qs)) → ys ≡ cond (same_line l k) (but_last xs) xs
    → ys ≡ b ++ sent_by_line p k (copies x g 1 (take i qs))
copy_back p k x g qs i q l b xs ys lt at is old new =
    let m : Sent = copy x g (i + 1) q in
    let zs = sent_by_line p k (copies x g 1 (take i qs)) in
    new
    ∙ (ap (λ z. cond (same_line z k) (but_last xs) xs) is
    ∙ (ap (λ t. cond ((p == k.place) && (same_ui q k.name && t)) (but_last xs) xs) (sym (route_is (Some g) k.route))
    ∙ back_case (p == k.place) (goes_by k m) b zs m.id xs
    (old ∙ (ap (λ ms. b ++ sent_by_line p k ms) (copies_next x g qs i q lt at) ∙ ap (λ ws. b ++ ws) (by_line_append p k (copies x g 1 (take i qs)) (m ∷ []))))))

cond_same : (b : Bool) → (let xs : List MsgId = cond b [] [] in xs) ≡ []
cond_same true = refl
cond_same false = refl

pub all_back : (p : ℕ) (k : LineKey) (x : MsgId) (g : Ui) (qs : List Ui) (i : ℕ) (b xs : List MsgId) → i ≤ 0 → xs ≡ b ++ sent_by_line p k (copies x g 1 (take i qs)) → xs ≡ b
all_back p k x g qs i b xs le h =
    let z : i ≡ 0 = omega arith in
    h ∙ (ap (λ j. b ++ sent_by_line p k (copies x g 1 (take j qs))) z ∙ (ap (λ ys. b ++ ys) (cond_same (p == k.place)) ∙ append-nil b))
