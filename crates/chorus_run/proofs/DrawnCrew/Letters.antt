-- What seat 0 gave, as the law of ports that are filled has it; and the bodies that it sent to each port.
use Rattle.std.proofs.Common.{ℕ, zero, suc, ◌≡◌, ◌+◌, ◌<◌, ◌≤◌, ◌==◌, Bool, true, false, cond, List, [], ◌∷◌, ◌++◌, append-nil, append_assoc, map, nat_lt, ◌*◌, ◌%◌, ◌/◌, ◌^◌, reverse, take, sum, Option, Some, None, unwrap_or, decimal, refl, sym, ◌∙◌, ap, subst, arith}
use Rattle.std.specs.List.{All, filter}
use Rattle.std.proofs.lemmas.List.{map-append, reverse-append, reverse-reverse}
use Rattle.std.proofs.lemmas.List.Elements.{All-nil, All-cons, All-head, All-tail, All-append}
use Rattle.std.proofs.lemmas.List.Sums.{sum_by-cons}
use Rattle.chorus_ui.proofs.Decimals.{parse_decimal-decimal}
use Rattle.chorus_draw.specs.Draws.{next_state, number_of}
use Rattle.law_emptied.specs.Crewed as scripts
use Rattle.chorus_run.specs.DrawnCrew.Filling.{commands_of, crew_commands, send_command, sends_of}
use Rattle.chorus_run.specs.DrawnCrew.Sends.{Sending, sending, sendings, site_drawn, numbers_to}
use Rattle.chorus_run.specs.DrawnCrew.Value.{body_value}

abbrev pub letter : Sending → scripts.Sending
letter s = record { site = s.site; body = decimal s.number }

-- the latest first
abbrev pub letters : List Sending → List scripts.Sending
letters sends = reverse (map letter sends)

reverse-map : {A B : Type 0} (f : A → B) (xs : List A) → map f (reverse xs) ≡ reverse (map f xs)
reverse-map f [] = refl
reverse-map f (x ∷ xs) =
    ap (map f) (reverse-append (x ∷ []) xs) ∙ map-append f (reverse xs) (x ∷ [])
    ∙ ap (λ zs. zs ++ f x ∷ []) (reverse-map f xs) ∙ sym (reverse-append (f x ∷ []) (map f xs))

map-letters : (sends : List Sending) → map scripts.send_of (map letter sends) ≡ commands_of sends
map-letters [] = refl
map-letters (s ∷ sends) = ap (λ cs. send_command s.site s.number ∷ cs) (map-letters sends)

pub script-is : (first commands : ℕ) → reverse (scripts.script 64 8 (letters (sendings commands 1 first))) ≡ crew_commands first commands
script-is first commands =
    let sends = sendings commands 1 first in
    let sent : reverse (map scripts.send_of (letters sends)) ≡ sends_of first commands =
    ap reverse (reverse-map scripts.send_of (map letter sends)) ∙ reverse-reverse (map scripts.send_of (map letter sends)) ∙ map-letters sends in
    reverse-append (map scripts.send_of (letters sends)) (scripts.makes_down 64 8) ∙ ap (λ cs. reverse (scripts.makes_down 64 8) ++ cs) sent

-- The sites of what is sent, and its numbers.

abbrev IsWithin : ℕ → Sending → Type 0
IsWithin most s = (1 ≤ s.site) × (s.site ≤ 8) × (s.number ≤ most)

drawn-within : (r i most : ℕ) → i ≤ most → All (IsWithin most) (sending (site_drawn r) i)
drawn-within r i most le = go (nat_lt (r % 8) 4)
  where
    go : (b : Bool) → All (IsWithin most) (sending (cond b (Some (r / 8 % 8 + 1)) None) i)
    go true =
        let low : 1 ≤ r / 8 % 8 + 1 = omega arith in
        let high : r / 8 % 8 + 1 ≤ 8 = omega arith in
        All-cons (IsWithin most) (record { site = r / 8 % 8 + 1; number = i }) [] (low, high, le) (All-nil (IsWithin most))
    go false = All-nil (IsWithin most)

pub sendings-within : (count i x most : ℕ) → i + count ≤ most + 1 → All (IsWithin most) (sendings count i x)
sendings-within zero i x most le = All-nil (IsWithin most)
sendings-within (suc count) i x most le =
    All-append (IsWithin most) (sending (site_drawn (number_of (next_state x))) i) (sendings count (i + 1) (next_state x))
    (drawn-within (number_of (next_state x)) i most (omega (arith, le))) (sendings-within count (i + 1) (next_state x) most (omega (arith, le)))

within-more : (k : ℕ) (xs ys : List scripts.Sending) → scripts.AreWithin k xs → scripts.AreWithin k ys → scripts.AreWithin k (xs ++ ys)
within-more k [] ys a b = b
within-more k (x ∷ xs) ys a b = (a.0, a.1, within-more k xs ys a.2 b)

pub letters-within : (most : ℕ) (sends : List Sending) → All (IsWithin most) sends → scripts.AreWithin 8 (letters sends)
letters-within most [] a = tt
letters-within most (s ∷ sends) a =
    let here = All-head (IsWithin most) s sends a in
    subst (scripts.AreWithin 8) (sym (reverse-append (letter s ∷ []) (map letter sends)))
    (within-more 8 (letters sends) (letter s ∷ []) (letters-within most sends (All-tail (IsWithin most) s sends a)) (here.0, here.1, tt))

-- The bodies.

bodies-more : (s : ℕ) (xs ys : List scripts.Sending) → scripts.bodies_to s (xs ++ ys) ≡ scripts.bodies_to s ys ++ scripts.bodies_to s xs
bodies-more s [] ys = sym (append-nil (scripts.bodies_to s ys))
bodies-more s (x ∷ xs) ys =
    ap (λ zs. zs ++ cond (x.site == s) (x.body ∷ []) []) (bodies-more s xs ys)
    ∙ append_assoc (scripts.bodies_to s ys) (scripts.bodies_to s xs) (cond (x.site == s) (x.body ∷ []) [])

abbrev pub decimals : List ℕ → List (List ℕ)
decimals ns = map (λ n. decimal n) ns

pub bodies-are : (site : ℕ) (sends : List Sending) → scripts.bodies_to site (letters sends) ≡ decimals (numbers_to site sends)
bodies-are site [] = refl
bodies-are site (s ∷ sends) =
    ap (scripts.bodies_to site) (reverse-append (letter s ∷ []) (map letter sends))
    ∙ bodies-more site (letters sends) (letter s ∷ [])
    ∙ ap (λ zs. cond (s.site == site) (decimal s.number ∷ []) [] ++ zs) (bodies-are site sends)
    ∙ both (s.site == site)
  where
    both : (b : Bool) → cond b (decimal s.number ∷ []) [] ++ decimals (numbers_to site sends) ≡ decimals (map (λ (x : Sending). x.number) (cond b (s ∷ filter (λ (x : Sending). x.site == site) sends) (filter (λ (x : Sending). x.site == site) sends)))
    both true = refl
    both false = refl

pub numbers-small : (site most : ℕ) (sends : List Sending) → All (IsWithin most) sends → All (λ n. n ≤ most) (numbers_to site sends)
numbers-small site most [] a = All-nil (λ n. n ≤ most)
numbers-small site most (s ∷ sends) a = go (s.site == site) (numbers-small site most sends (All-tail (IsWithin most) s sends a))
  where
    go : (b : Bool) → All (λ n. n ≤ most) (numbers_to site sends) → All (λ n. n ≤ most) (map (λ (x : Sending). x.number) (cond b (s ∷ filter (λ (x : Sending). x.site == site) sends) (filter (λ (x : Sending). x.site == site) sends)))
    go true ih = All-cons (λ n. n ≤ most) s.number (numbers_to site sends) (All-head (IsWithin most) s sends a).2 ih
    go false ih = ih

-- What they are worth.

abbrev pub values : List (List ℕ) → List ℕ
values bodies = map body_value bodies

pub values-are : (most k : ℕ) (ns : List ℕ) → most < 2 ^ 64 → All (λ n. n ≤ most) ns → values (take k (decimals ns)) ≡ take k ns
values-are most zero ns few a = refl
values-are most (suc k) [] few a = refl
values-are most (suc k) (n ∷ ns) few a =
    let small = All-head (λ m. m ≤ most) n ns a in
    let is : body_value (decimal n) ≡ n = ap (λ (o : Option ℕ). unwrap_or o 0) (parse_decimal-decimal n (omega (arith, small, few))) in
    (λ i. is i ∷ values-are most k ns few (All-tail (λ m. m ≤ most) n ns a) i)

pub sum-small : (most k : ℕ) (ns : List ℕ) → All (λ n. n ≤ most) ns → sum (take k ns) ≤ k * most
sum-small most zero ns a = omega arith
sum-small most (suc k) [] a = (let none : sum (take (suc k) ([])) ≡ 0 = refl in omega (arith, none))
sum-small most (suc k) (n ∷ ns) a =
    let ih = sum-small most k ns (All-tail (λ m. m ≤ most) n ns a) in
    let here = All-head (λ m. m ≤ most) n ns a in
    let front : sum (take (suc k) (n ∷ ns)) ≡ n + sum (take k ns) = sum_by-cons (λ x. x) n (take k ns) in
    let more : suc k * most ≡ k * most + most = mul-more k most in
    omega (arith, ih, here, front, more)
  where
    mul-more : (m t : ℕ) → suc m * t ≡ m * t + t
    mul-more m t = grind arith
