-- The order in which enabled ports are looked at.
use Rattle.std.proofs.Common.{◌≡◌, ℕ, zero, suc, ◌+◌, ◌-◌, ◌≤◌, ◌<◌, ◌==◌, nat_le, nat_lt, Bool, true, false, ◌||◌, if◌then◌else◌, List, [], ◌∷◌, ◌++◌, length, take, drop, get_or, refl, sym, ◌∙◌, ap, subst, arith}
use Rattle.std.specs.List.{All, insert, remove}
use Rattle.std.proofs.lemmas.Bool.{or_from, or_parts, true≢false}
use Rattle.std.proofs.lemmas.Bool.Decides.{nat_tests}
use Rattle.std.proofs.lemmas.Grind.{common_steps}
use Rattle.std.proofs.lemmas.List.Elements.{All-nil, All-cons, All-head, All-tail, All-weaker}
use Rattle.chorus_ui.specs.declared.ui.Ui.{Ui}
use Rattle.chorus_ui.specs.Name.{same_ui}
use Rattle.chorus_ui.specs.NameKind.{is_port}
use Rattle.chorus_ui.proofs.Names.{from_same_ui, same_ui-self}
use Rattle.chorus_choose.specs.declared.chooser.Enabled.{Enabled}
use Rattle.chorus_choose.specs.Looking.{placed, index_of, is_enabled, without, turned, AreApart, IsChooser, IsFalling}
use Rattle.chorus_choose.specs.Changes.{of_priority}

pub enabled-index : (q : Ui) (xs : List Enabled) → is_enabled q xs ≡ nat_lt (index_of q xs) (length xs)
enabled-index q [] = grind (arith, nat_tests)
enabled-index q (x ∷ xs) = grind (arith, nat_tests, enabled-index q xs)

pub without-index : (q : Ui) (xs : List Enabled) → index_of q xs < length xs → without q xs ≡ remove xs (index_of q xs)
without-index q [] h = absurd (omega arith)
without-index q (x ∷ xs) h = go (same_ui x.port q) refl (λ k. without-index q xs k)
  where
    go : (b : Bool) → same_ui x.port q ≡ b → (index_of q xs < length xs → without q xs ≡ remove xs (index_of q xs)) → without q (x ∷ xs) ≡ remove (x ∷ xs) (index_of q (x ∷ xs))
    go true e rest = grind (arith, common_steps)
    go false e rest = let here = rest (grind arith) in grind (arith, common_steps, here)

pub without-none : (q : Ui) (xs : List Enabled) → is_enabled q xs ≡ false → without q xs ≡ xs
without-none q [] h = refl
without-none q (x ∷ xs) h = grind (arith, without-none q xs)

all-placed : (P : Enabled → Type 0) (e : Enabled) (xs : List Enabled) → P e → All P xs → All P (placed e xs)
all-placed P e [] p a = All-cons P e [] p a
all-placed P e (x ∷ xs) p a = go (nat_le e.priority x.priority) (all-placed P e xs p (All-tail P x xs a))
  where
    go : (b : Bool) → All P (placed e xs) → All P (if b then x ∷ placed e xs else e ∷ (x ∷ xs))
    go true rest = All-cons P x (placed e xs) (All-head P x xs a) rest
    go false rest = All-cons P e (x ∷ xs) p a

pub falling-placed : (e : Enabled) (xs : List Enabled) → IsFalling xs → IsFalling (placed e xs)
falling-placed e [] f = (All-nil _, tt)
falling-placed e (x ∷ xs) f = go (nat_le e.priority x.priority) refl (falling-placed e xs f.1)
  where
    go : (b : Bool) → nat_le e.priority x.priority ≡ b → IsFalling (placed e xs) → IsFalling (if b then x ∷ placed e xs else e ∷ (x ∷ xs))
    go true h rest = (all-placed (λ (y : Enabled). y.priority ≤ x.priority) e xs (grind (arith, nat_tests)) f.0, rest)
    go false h rest = let lt : x.priority ≤ e.priority = grind (arith, nat_tests) in
        (All-cons (λ (y : Enabled). y.priority ≤ e.priority) x xs lt (All-weaker (λ (y : Enabled). y.priority ≤ x.priority) (λ (y : Enabled). y.priority ≤ e.priority) (λ y le. omega arith) xs f.0), f)

none-of : (p : ℕ) (xs : List Enabled) → All (λ (y : Enabled). y.priority < p) xs → of_priority p xs ≡ []
none-of p [] a = refl
none-of p (x ∷ xs) a = let here = All-head (λ (y : Enabled). y.priority < p) x xs a in
    let more = none-of p xs (All-tail (λ (y : Enabled). y.priority < p) x xs a) in grind (arith, nat_tests, common_steps)

below : (p : ℕ) (e x : Enabled) (xs : List Enabled) → IsFalling (x ∷ xs) → x.priority < e.priority → (c : Bool) → (e.priority == p) ≡ c → of_priority p (e ∷ (x ∷ xs)) ≡ of_priority p (x ∷ xs) ++ of_priority p (e ∷ [])
below p e x xs f lt true same =
    let at : e.priority ≡ p = grind (arith, nat_tests) in
    let none = none-of p (x ∷ xs) (All-cons (λ (y : Enabled). y.priority < p) x xs (omega arith) (All-weaker (λ (y : Enabled). y.priority ≤ x.priority) (λ (y : Enabled). y.priority < p) (λ y le. omega arith) xs f.0)) in
    grind (arith, common_steps, none)
below p e x xs f lt false other = grind (arith, common_steps)

pub of-placed : (p : ℕ) (e : Enabled) (xs : List Enabled) → IsFalling xs → of_priority p (placed e xs) ≡ of_priority p xs ++ of_priority p (e ∷ [])
of-placed p e [] f = refl
of-placed p e (x ∷ xs) f = go (nat_le e.priority x.priority) refl (of-placed p e xs f.1)
  where
    go : (b : Bool) → nat_le e.priority x.priority ≡ b → of_priority p (placed e xs) ≡ of_priority p xs ++ of_priority p (e ∷ []) → of_priority p (if b then x ∷ placed e xs else e ∷ (x ∷ xs)) ≡ of_priority p (x ∷ xs) ++ of_priority p (e ∷ [])
    go true h more = grind (arith, common_steps, more)
    go false h more = below p e x xs f (grind (arith, nat_tests)) (e.priority == p) refl

-- Ports that are enabled.

or-swap : (a b c : Bool) → (a || (b || c)) ≡ (b || (a || c))
or-swap true true c = refl
or-swap true false c = refl
or-swap false true c = refl
or-swap false false c = refl

pub same-swap : (a b : Ui) → same_ui a b ≡ same_ui b a
same-swap a b = go (same_ui a b) (same_ui b a) refl refl
  where
    go : (x y : Bool) → same_ui a b ≡ x → same_ui b a ≡ y → x ≡ y
    go true true h k = refl
    go false false h k = refl
    go true false h k = absurd (true≢false (sym (same_ui-self b) ∙ ap (same_ui b) (sym (from_same_ui a b h)) ∙ k))
    go false true h k = absurd (true≢false (sym (same_ui-self a) ∙ ap (same_ui a) (sym (from_same_ui b a k)) ∙ h))

pub enabled-placed : (q : Ui) (e : Enabled) (xs : List Enabled) → is_enabled q (placed e xs) ≡ (same_ui e.port q || is_enabled q xs)
enabled-placed q e [] = refl
enabled-placed q e (x ∷ xs) = go (nat_le e.priority x.priority) (enabled-placed q e xs)
  where
    go : (b : Bool) → is_enabled q (placed e xs) ≡ (same_ui e.port q || is_enabled q xs) → is_enabled q (if b then x ∷ placed e xs else e ∷ (x ∷ xs)) ≡ (same_ui e.port q || (same_ui x.port q || is_enabled q xs))
    go true more = ap (λ b. same_ui x.port q || b) more ∙ or-swap (same_ui x.port q) (same_ui e.port q) (is_enabled q xs)
    go false more = refl

pub length-placed : (e : Enabled) (xs : List Enabled) → length (placed e xs) ≡ length xs + 1
length-placed e [] = refl
length-placed e (x ∷ xs) = go (nat_le e.priority x.priority) (length-placed e xs)
  where
    go : (b : Bool) → length (placed e xs) ≡ length xs + 1 → length (if b then x ∷ placed e xs else e ∷ (x ∷ xs)) ≡ length (x ∷ xs) + 1
    go true more = omega (arith, more)
    go false more = omega arith

-- one that is not there is not there without another
enabled-without : (q r : Ui) (xs : List Enabled) → is_enabled q xs ≡ false → is_enabled q (without r xs) ≡ false
enabled-without q r [] h = refl
enabled-without q r (x ∷ xs) h = go (same_ui x.port r) (enabled-without q r xs (or_parts (same_ui x.port q) (is_enabled q xs) h).1)
  where
    go : (b : Bool) → is_enabled q (without r xs) ≡ false → is_enabled q (if b then xs else x ∷ without r xs) ≡ false
    go true more = (or_parts (same_ui x.port q) (is_enabled q xs) h).1
    go false more = or_from (same_ui x.port q) (is_enabled q (without r xs)) (or_parts (same_ui x.port q) (is_enabled q xs) h).0 more

pub enabled-turned : (q r : Ui) (xs : List Enabled) → is_enabled q (turned r xs) ≡ is_enabled q xs
enabled-turned q r [] = refl
enabled-turned q r (x ∷ xs) = go (same_ui x.port r) (enabled-turned q r xs)
  where
    go : (b : Bool) → is_enabled q (turned r xs) ≡ is_enabled q xs → is_enabled q (if b then placed x xs else x ∷ turned r xs) ≡ (same_ui x.port q || is_enabled q xs)
    go true more = enabled-placed q x xs
    go false more = ap (λ b. same_ui x.port q || b) more

pub length-turned : (r : Ui) (xs : List Enabled) → length (turned r xs) ≡ length xs
length-turned r [] = refl
length-turned r (x ∷ xs) = go (same_ui x.port r) (length-turned r xs)
  where
    go : (b : Bool) → length (turned r xs) ≡ length xs → length (if b then placed x xs else x ∷ turned r xs) ≡ length (x ∷ xs)
    go true more = let n = length-placed x xs in omega (arith, n)
    go false more = ap suc more

length-without : (r : Ui) (xs : List Enabled) → length (without r xs) ≤ length xs
length-without r [] = omega arith
length-without r (x ∷ xs) = go (same_ui x.port r) (length-without r xs)
  where
    go : (b : Bool) → length (without r xs) ≤ length xs → length (if b then xs else x ∷ without r xs) ≤ length (x ∷ xs)
    go true more = omega arith
    go false more = omega (arith, more)

all-without : (P : Enabled → Type 0) (r : Ui) (xs : List Enabled) → All P xs → All P (without r xs)
all-without P r [] a = a
all-without P r (x ∷ xs) a = go (same_ui x.port r) (all-without P r xs (All-tail P x xs a))
  where
    go : (b : Bool) → All P (without r xs) → All P (if b then xs else x ∷ without r xs)
    go true more = All-tail P x xs a
    go false more = All-cons P x (without r xs) (All-head P x xs a) more

all-turned : (P : Enabled → Type 0) (r : Ui) (xs : List Enabled) → All P xs → All P (turned r xs)
all-turned P r [] a = a
all-turned P r (x ∷ xs) a = go (same_ui x.port r) (all-turned P r xs (All-tail P x xs a))
  where
    go : (b : Bool) → All P (turned r xs) → All P (if b then placed x xs else x ∷ turned r xs)
    go true more = all-placed P x xs (All-head P x xs a) (All-tail P x xs a)
    go false more = All-cons P x (turned r xs) (All-head P x xs a) more

-- They stay apart, and by falling priority.

pub apart-placed : (e : Enabled) (xs : List Enabled) → is_enabled e.port xs ≡ false → AreApart xs → AreApart (placed e xs)
apart-placed e [] new a = (refl, tt)
apart-placed e (x ∷ xs) new a = go (nat_le e.priority x.priority) (apart-placed e xs two.1 a.1)
  where
    two : (same_ui x.port e.port ≡ false) × (is_enabled e.port xs ≡ false)
    two = or_parts (same_ui x.port e.port) (is_enabled e.port xs) new

    go : (b : Bool) → AreApart (placed e xs) → AreApart (if b then x ∷ placed e xs else e ∷ (x ∷ xs))
    go true more = (enabled-placed x.port e xs ∙ or_from (same_ui e.port x.port) (is_enabled x.port xs) (same-swap e.port x.port ∙ two.0) a.0, more)
    go false more = (new, a)

pub apart-without : (r : Ui) (xs : List Enabled) → AreApart xs → AreApart (without r xs)
apart-without r [] a = tt
apart-without r (x ∷ xs) a = go (same_ui x.port r) (apart-without r xs a.1)
  where
    go : (b : Bool) → AreApart (without r xs) → AreApart (if b then xs else x ∷ without r xs)
    go true more = a.1
    go false more = (enabled-without x.port r xs a.0, more)

pub apart-turned : (r : Ui) (xs : List Enabled) → AreApart xs → AreApart (turned r xs)
apart-turned r [] a = tt
apart-turned r (x ∷ xs) a = go (same_ui x.port r) (apart-turned r xs a.1)
  where
    go : (b : Bool) → AreApart (turned r xs) → AreApart (if b then placed x xs else x ∷ turned r xs)
    go true more = apart-placed x xs a.0 a.1
    go false more = (enabled-turned x.port r xs ∙ a.0, more)

pub falling-without : (r : Ui) (xs : List Enabled) → IsFalling xs → IsFalling (without r xs)
falling-without r [] f = tt
falling-without r (x ∷ xs) f = go (same_ui x.port r) (falling-without r xs f.1)
  where
    go : (b : Bool) → IsFalling (without r xs) → IsFalling (if b then xs else x ∷ without r xs)
    go true more = f.1
    go false more = (all-without (λ (y : Enabled). y.priority ≤ x.priority) r xs f.0, more)

pub falling-turned : (r : Ui) (xs : List Enabled) → IsFalling xs → IsFalling (turned r xs)
falling-turned r [] f = tt
falling-turned r (x ∷ xs) f = go (same_ui x.port r) (falling-turned r xs f.1)
  where
    go : (b : Bool) → IsFalling (turned r xs) → IsFalling (if b then placed x xs else x ∷ turned r xs)
    go true more = falling-placed x xs f.1
    go false more = (all-turned (λ (y : Enabled). y.priority ≤ x.priority) r xs f.0, more)

-- What a chooser keeps.

pub chooser-placed : (e : Enabled) (xs : List Enabled) → IsChooser xs → is_port e.port ≡ true → is_enabled e.port xs ≡ false → length xs < 32 → IsChooser (placed e xs)
chooser-placed e xs c port new room = record {
  few = let n = length-placed e xs in omega (arith, n, room);
  ports = all-placed (λ (x : Enabled). is_port x.port ≡ true) e xs port c.ports;
  apart = apart-placed e xs new c.apart;
  falling = falling-placed e xs c.falling;
}

pub chooser-without : (r : Ui) (xs : List Enabled) → IsChooser xs → IsChooser (without r xs)
chooser-without r xs c = record {
  few = let n = length-without r xs in let most = c.few in omega (arith, n, most);
  ports = all-without (λ (x : Enabled). is_port x.port ≡ true) r xs c.ports;
  apart = apart-without r xs c.apart;
  falling = falling-without r xs c.falling;
}

pub chooser-turned : (r : Ui) (xs : List Enabled) → IsChooser xs → IsChooser (turned r xs)
chooser-turned r xs c = record {
  few = let n = length-turned r xs in let most = c.few in omega (arith, n, most);
  ports = all-turned (λ (x : Enabled). is_port x.port ≡ true) r xs c.ports;
  apart = apart-turned r xs c.apart;
  falling = falling-turned r xs c.falling;
}

-- The port is taken out, and put in again behind some of those that stood behind it.

turned-index : (q : Ui) (xs : List Enabled) (d : Enabled) (i : ℕ) → i ≡ index_of q xs → i < length xs → turned q xs ≡ take i xs ++ placed (get_or xs i d) (drop (suc i) xs)
turned-index q [] d i is lt = absurd (omega (arith, lt))
turned-index q (x ∷ xs) d zero is lt = go (same_ui x.port q) is
  where
    go : (b : Bool) → 0 ≡ (if b then 0 else index_of q xs + 1) → (if b then placed x xs else x ∷ turned q xs) ≡ placed x xs
    go true h = refl
    go false h = absurd (omega (arith, h))
turned-index q (x ∷ xs) d (suc i) is lt = go (same_ui x.port q) is (λ same. turned-index q xs d i same (omega (arith, lt)))
  where
    go : (b : Bool) → suc i ≡ (if b then 0 else index_of q xs + 1) → (i ≡ index_of q xs → turned q xs ≡ take i xs ++ placed (get_or xs i d) (drop (suc i) xs))
        → (if b then placed x xs else x ∷ turned q xs) ≡ x ∷ (take i xs ++ placed (get_or xs i d) (drop (suc i) xs))
    go true h more = absurd (omega (arith, h))
    go false h more = let same : i ≡ index_of q xs = omega (arith, h) in ap (λ zs. x ∷ zs) (more same)

drop-removed : (xs : List Enabled) (i : ℕ) → i < length xs → drop i (remove xs i) ≡ drop (suc i) xs
drop-removed [] i lt = absurd (omega (arith, lt))
drop-removed (x ∷ xs) zero lt = refl
drop-removed (x ∷ xs) (suc i) lt = drop-removed xs i (omega (arith, lt))

insert-behind : (xs : List Enabled) (i k : ℕ) (y : Enabled) → i < length xs → insert (remove xs i) (i + k) y ≡ take i xs ++ insert (drop (suc i) xs) k y
insert-behind [] i k y lt = absurd (omega (arith, lt))
insert-behind (x ∷ xs) zero k y lt = let e : 0 + k ≡ k = omega arith in ap (λ n. insert xs n y) e
insert-behind (x ∷ xs) (suc i) k y lt = let e : suc i + k ≡ suc (i + k) = omega arith in ap (λ n. insert (x ∷ remove xs i) n y) e ∙ ap (λ zs. x ∷ zs) (insert-behind xs i k y (omega (arith, lt)))

pub turned-edit : (q : Ui) (xs : List Enabled) (i k : ℕ) (d : Enabled) → i ≡ index_of q xs → i < length xs → placed (get_or xs i d) (drop i (remove xs i)) ≡ insert (drop i (remove xs i)) k (get_or xs i d) → turned q xs ≡ insert (remove xs i) (i + k) (get_or xs i d)
turned-edit q xs i k d is lt stands =
    let x = get_or xs i d in
    let there = subst (λ zs. placed x zs ≡ insert zs k x) (drop-removed xs i lt) stands in
    turned-index q xs d i is lt ∙ ap (λ zs. take i xs ++ zs) there ∙ sym (insert-behind xs i k x lt)

-- What the calls leave: ys are the ports after one, as its edits of xs give them.

out : (q : Ui) (xs : List Enabled) (i : ℕ) → i ≡ index_of q xs → length xs ≤ i → is_enabled q xs ≡ false
out q xs i is le = let e = enabled-index q xs in grind (arith, nat_tests, e, is, le)

pub enable-keeps : (q : Ui) (p : ℕ) (xs zs ys : List Enabled) (i to : ℕ) → IsChooser xs → is_port q ≡ true → i ≡ index_of q xs → length xs ≤ i → length xs < 32 → zs ≡ xs
    → placed (record { port = q; priority = p }) zs ≡ take to zs ++ (record { port = q; priority = p } ∷ drop to zs) → ys ≡ insert xs to (record { port = q; priority = p }) → IsChooser ys
enable-keeps q p xs zs ys i to c port is le room same stands edit =
    let there = subst (λ es. placed (record { port = q; priority = p }) es ≡ take to es ++ (record { port = q; priority = p } ∷ drop to es)) same stands in
    subst IsChooser (there ∙ sym edit) (chooser-placed (record { port = q; priority = p }) xs c port (out q xs i is le) room)

pub disable-keeps : (q : Ui) (xs ys : List Enabled) (i : ℕ) → IsChooser xs → i ≡ index_of q xs → i < length xs → ys ≡ remove xs i → IsChooser ys
disable-keeps q xs ys i c is lt edit =
    let low : index_of q xs < length xs = omega (arith, is, lt) in
    subst IsChooser (without-index q xs low ∙ ap (remove xs) (sym is) ∙ sym edit) (chooser-without q xs c)

turned-none : (q : Ui) (xs : List Enabled) → is_enabled q xs ≡ false → turned q xs ≡ xs
turned-none q [] h = refl
turned-none q (x ∷ xs) h = go (same_ui x.port q) two.0 (turned-none q xs two.1)
  where
    two : (same_ui x.port q ≡ false) × (is_enabled q xs ≡ false)
    two = or_parts (same_ui x.port q) (is_enabled q xs) h

    go : (b : Bool) → b ≡ false → turned q xs ≡ xs → (if b then placed x xs else x ∷ turned q xs) ≡ x ∷ xs
    go true t more = absurd (true≢false t)
    go false t more = ap (λ zs. x ∷ zs) more

pub turned-out : (q : Ui) (xs : List Enabled) (i : ℕ) → i ≡ index_of q xs → length xs ≤ i → xs ≡ turned q xs
turned-out q xs i is le = sym (turned-none q xs (out q xs i is le))

take-all : (xs : List Enabled) (n : ℕ) → length xs ≤ n → take n xs ≡ xs
take-all [] zero le = refl
take-all [] (suc n) le = refl
take-all (x ∷ xs) zero le = absurd (omega (arith, le))
take-all (x ∷ xs) (suc n) le = ap (λ zs. x ∷ zs) (take-all xs n (omega (arith, le)))

drop-short : (xs : List Enabled) (i : ℕ) → length (drop i xs) ≤ length xs - i
drop-short [] zero = omega arith
drop-short [] (suc i) = omega arith
drop-short (x ∷ xs) zero = omega arith
drop-short (x ∷ xs) (suc i) = let more = drop-short xs i in omega (arith, more)

-- those from i on, as a slice has them
pub rest-is : (xs ys : List Enabled) (i : ℕ) → xs ≡ ys → take (length xs - i) (drop i xs) ≡ drop i ys
rest-is xs ys i same = take-all (drop i xs) (length xs - i) (drop-short xs i) ∙ ap (drop i) same

pub turned-by : (q : Ui) (xs mid zs ys : List Enabled) (i k : ℕ) (x : Enabled) → i ≡ index_of q xs → i < length xs → x ≡ get_or xs i x → mid ≡ remove xs i → zs ≡ drop i mid → placed x zs ≡ take k zs ++ (x ∷ drop k zs) → ys ≡ insert mid (i + k) x → ys ≡ turned q xs
turned-by q xs mid zs ys i k x is lt at removed part stands edit =
    let here = subst (λ es. placed x es ≡ insert es k x) (part ∙ ap (drop i) removed) stands in
    let there = subst (λ y. placed y (drop i (remove xs i)) ≡ insert (drop i (remove xs i)) k y) at here in
    edit ∙ ap (λ es. insert es (i + k) x) removed ∙ ap (insert (remove xs i) (i + k)) at ∙ sym (turned-edit q xs i k x is lt there)

-- what a look for a port finds
pub ruleset enabled_at = (enabled-index, without-index, without-none)
