-- The words of the list are values, and are known by their first three.
use Rattle.std.proofs.Common.{◌≡◌, ◌≢◌, ◌∙◌, ◌^◌, ◌<◌, ◌≤◌, ◌+◌, ◌*◌, ◌==◌, ◌&&◌, ◌||◌, Bool, false, nat_le, if◌then◌else◌, subst, ℕ, zero, suc, true, true≢false, List, [], ◌∷◌, Option, Some, None, refl, sym, ap, ap₂, arith, codes, decimal, get_or, length, slice_get}
use Rattle.std.specs.List.{list_all}
use Rattle.std.proofs.lemmas.Grind.{common_steps}
use Rattle.std.proofs.lemmas.Fmt.{decimal_digit, decimal_injective, first_decimal}
use Rattle.std.specs.Option.{IfSome, IsNone, is_some, unwrap_or}
use Rattle.std.proofs.lemmas.Bool.Decides.{nat_tests}
use Rattle.chorus_ui.specs.Layout.{IsLayout, Shape, is_layout, new_layout}
use Rattle.chorus_words.specs.declared.words.Words.{Words}
use Rattle.chorus_words.specs.declared.words.Words.TheVariants.{Replay, Run, RunOn, Load, Audit, Judge, JudgeFor, Promises, PromisesFor, Picture, Lossy, Crew, Explore, ExploreMost, ExploreFrom, Check, CheckMost, CheckDrawn}
use Rattle.chorus_words.specs.Words.{Ask, IsTurns, IsWithin, spelled}
use Rattle.chorus_words.specs.Cutting.{AskByThree, is_value}

digit_value : (ds : List ℕ) → 48 ≤ get_or ds 0 0 → is_value ds ≡ true
digit_value [] h = absurd (omega (arith, h))
digit_value (d ∷ ds) h = grind (arith, common_steps, h)

decimal_value : (n : ℕ) → n < 2 ^ 64 → is_value (decimal n) ≡ true
decimal_value zero h = digit_value (decimal 0) (rw (decimal_digit 0 (omega arith)) (omega arith))
decimal_value (suc n) h = digit_value (decimal (suc n)) (omega (arith, first_decimal (suc n) (omega arith) h))

pub spelled_values : (asked : Words) → IsWithin asked → list_all is_value (spelled asked) ≡ true
spelled_values Replay w = refl
spelled_values Run w = refl
spelled_values (RunOn turns) w = rw (decimal_value turns (omega (arith, w.turns_to_four))) refl
spelled_values (Load first commands) w = rw (decimal_value first w.0, decimal_value commands (omega (arith, w.1))) refl
spelled_values (Audit sites turns) w =
    rw (decimal_value sites (omega (arith, w.sites_to_max)), decimal_value turns (omega (arith, w.turns_to_four))) refl
spelled_values Judge w = refl
spelled_values (JudgeFor sites turns) w =
    rw (decimal_value sites (omega (arith, w.sites_to_max)), decimal_value turns (omega (arith, w.turns_to_four))) refl
spelled_values Promises w = refl
spelled_values (PromisesFor sites turns) w =
    rw (decimal_value sites (omega (arith, w.sites_to_max)), decimal_value turns (omega (arith, w.turns_to_four))) refl
spelled_values (Picture sites turns) w =
    rw (decimal_value sites (omega (arith, w.sites_to_max)), decimal_value turns (omega (arith, w.turns_to_four))) refl
spelled_values (Lossy first) w = rw (decimal_value first w) refl
spelled_values (Crew first commands) w = rw (decimal_value first w.0, decimal_value commands (omega (arith, w.1))) refl
spelled_values Explore w = refl
spelled_values (ExploreMost most) w = rw (decimal_value most (omega (arith, w))) refl
spelled_values (ExploreFrom most first) w = rw (decimal_value most (omega (arith, w.0)), decimal_value first w.1) refl
spelled_values Check w = refl
spelled_values (CheckMost most) w = rw (decimal_value most (omega (arith, w))) refl
spelled_values (CheckDrawn count first) w = rw (decimal_value count (omega (arith, w.0)), decimal_value first w.1) refl

no_word : {X : Type 0} (x : X) → None ≡ Some x → ⊥
no_word x e = true≢false (sym (ap is_some e))

the_word : {X : Type 0} (x y : X) → Some x ≡ Some y → x ≡ y
the_word x y e = ap (λ o. unwrap_or o x) e

pub same_three : (xs ys : List (List ℕ)) → length xs ≤ 3 → length ys ≤ 3
    → slice_get xs 0 ≡ slice_get ys 0 → slice_get xs 1 ≡ slice_get ys 1 → slice_get xs 2 ≡ slice_get ys 2 → xs ≡ ys
same_three [] [] lx ly e f g = refl
same_three [] (y ∷ ys) lx ly e f g = absurd (no_word y e)
same_three (x ∷ xs) [] lx ly e f g = absurd (no_word x (sym e))
same_three (x ∷ []) (y ∷ []) lx ly e f g = ap (λ z. z ∷ []) (the_word x y e)
same_three (x ∷ []) (y ∷ y' ∷ ys) lx ly e f g = absurd (no_word y' f)
same_three (x ∷ x' ∷ xs) (y ∷ []) lx ly e f g = absurd (no_word x' (sym f))
same_three (x ∷ x' ∷ []) (y ∷ y' ∷ []) lx ly e f g = ap₂ (λ z z'. z ∷ z' ∷ []) (the_word x y e) (the_word x' y' f)
same_three (x ∷ x' ∷ []) (y ∷ y' ∷ y'' ∷ ys) lx ly e f g = absurd (no_word y'' g)
same_three (x ∷ x' ∷ x'' ∷ xs) (y ∷ y' ∷ []) lx ly e f g = absurd (no_word x'' (sym g))
same_three (x ∷ x' ∷ x'' ∷ []) (y ∷ y' ∷ y'' ∷ []) lx ly e f g =
    ap₂ (λ z zs. z ∷ zs) (the_word x y e) (ap₂ (λ z z'. z ∷ z' ∷ []) (the_word x' y' f) (the_word x'' y'' g))
same_three (x ∷ x' ∷ x'' ∷ x''' ∷ xs) ys lx ly e f g = absurd (omega arith)
same_three xs (y ∷ y' ∷ y'' ∷ y''' ∷ ys) lx ly e f g = absurd (omega arith)

few_words : (asked : Words) → length (spelled asked) ≤ 3
few_words Replay = omega arith
few_words Run = omega arith
few_words (RunOn turns) = omega arith
few_words (Load first commands) = omega arith
few_words (Audit sites turns) = omega arith
few_words Judge = omega arith
few_words (JudgeFor sites turns) = omega arith
few_words Promises = omega arith
few_words (PromisesFor sites turns) = omega arith
few_words (Picture sites turns) = omega arith
few_words (Lossy first) = omega arith
few_words (Crew first commands) = omega arith
few_words Explore = omega arith
few_words (ExploreMost most) = omega arith
few_words (ExploreFrom most first) = omega arith
few_words Check = omega arith
few_words (CheckMost most) = omega arith
few_words (CheckDrawn count first) = omega arith

-- at most three words, of which the first three ask this, ask it
pub asks : (ws : List (List ℕ)) (what first second : Option (List ℕ)) (asked : Words) → length ws ≤ 3
    → what ≡ slice_get ws 0 → first ≡ slice_get ws 1 → second ≡ slice_get ws 2 → AskByThree what first second asked → Ask ws asked
asks ws what first second asked l e f g by =
    (same_three ws (spelled asked) l (few_words asked) (sym e ∙ by.0) (sym f ∙ by.1) (sym g ∙ by.2), by.3)

pub asks_if : (o : Option Words) (ws : List (List ℕ)) (what first second : Option (List ℕ)) → length ws ≤ 3
    → what ≡ slice_get ws 0 → first ≡ slice_get ws 1 → second ≡ slice_get ws 2
    → IfSome o (AskByThree what first second) → IfSome o (Ask ws)
asks_if None ws what first second l e f g by = tt
asks_if (Some asked) ws what first second l e f g by = asks ws what first second asked l e f g by

-- Words ask one thing.

same_number : (m n : ℕ) → m < 2 ^ 64 → n < 2 ^ 64 → Some (decimal m) ≡ Some (decimal n) → m ≡ n
same_number m n h k e = decimal_injective m n h k (the_word (decimal m) (decimal n) e)

other_word : (word : List ℕ) → (length word == 4) ≡ true → Some word ≡ Some (codes "audit") → ⊥
other_word word four e = true≢false (sym four ∙ ap (λ (w : List ℕ). length w == 4) (the_word word (codes "audit") e))

no_picture : Some (codes "audit") ≡ Some (codes "picture") → ⊥
no_picture e = true≢false (ap (λ (w : List ℕ). length w == 5) (the_word (codes "audit") (codes "picture") e))

no_promises : Some (codes "audit") ≡ Some (codes "promises") → ⊥
no_promises e = true≢false (ap (λ (w : List ℕ). length w == 5) (the_word (codes "audit") (codes "promises") e))

no_judge : Some (codes "audit") ≡ Some (codes "judge") → ⊥
no_judge e = true≢false (ap (λ (w : List ℕ). get_or w 0 0 == 97) (the_word (codes "audit") (codes "judge") e))

no_exploring : (word : List ℕ) → (get_or word 0 0 == 101) ≡ false → Some word ≡ Some (codes "explore") → ⊥
no_exploring word other e = true≢false (sym (ap (λ (w : List ℕ). get_or w 0 0 == 101) (the_word word (codes "explore") e)) ∙ other)

no_drawn : (word : List ℕ) → (get_or word 0 0 == 100) ≡ false → Some word ≡ Some (codes "drawn") → ⊥
no_drawn word other e = true≢false (sym (ap (λ (w : List ℕ). get_or w 0 0 == 100) (the_word word (codes "drawn") e)) ∙ other)

-- a row is known by how many words it has, by how long the first of them is, and by how that begins
abbrev size : List (List ℕ) → ℕ
size [] = 0
size (w ∷ ws) = length w * 1024 + get_or w 0 0 * 4 + length ws

one_spelling : (a b : Words) → IsWithin a → IsWithin b → spelled a ≡ spelled b → a ≡ b
one_spelling Replay Replay w v e = refl
one_spelling Run Run w v e = refl
one_spelling (RunOn turns) (RunOn t) w v e =
    ap RunOn (same_number turns t (omega (arith, w.turns_to_four)) (omega (arith, v.turns_to_four)) (ap (λ l. slice_get l 1) e))
one_spelling (Load first commands) (Load f c) w v e = ap₂ Load
    (same_number first f w.0 v.0 (ap (λ l. slice_get l 1) e))
    (same_number commands c (omega (arith, w.1)) (omega (arith, v.1)) (ap (λ l. slice_get l 2) e))
one_spelling (Audit sites turns) (Audit s t) w v e = ap₂ Audit
    (same_number sites s (omega (arith, w.sites_to_max)) (omega (arith, v.sites_to_max)) (ap (λ l. slice_get l 1) e))
    (same_number turns t (omega (arith, w.turns_to_four)) (omega (arith, v.turns_to_four)) (ap (λ l. slice_get l 2) e))
one_spelling Judge Judge w v e = refl
one_spelling (JudgeFor sites turns) (JudgeFor s t) w v e = ap₂ JudgeFor
    (same_number sites s (omega (arith, w.sites_to_max)) (omega (arith, v.sites_to_max)) (ap (λ l. slice_get l 1) e))
    (same_number turns t (omega (arith, w.turns_to_four)) (omega (arith, v.turns_to_four)) (ap (λ l. slice_get l 2) e))
one_spelling Promises Promises w v e = refl
one_spelling (PromisesFor sites turns) (PromisesFor s t) w v e = ap₂ PromisesFor
    (same_number sites s (omega (arith, w.sites_to_max)) (omega (arith, v.sites_to_max)) (ap (λ l. slice_get l 1) e))
    (same_number turns t (omega (arith, w.turns_to_four)) (omega (arith, v.turns_to_four)) (ap (λ l. slice_get l 2) e))
one_spelling (Picture sites turns) (Picture s t) w v e = ap₂ Picture
    (same_number sites s (omega (arith, w.sites_to_max)) (omega (arith, v.sites_to_max)) (ap (λ l. slice_get l 1) e))
    (same_number turns t (omega (arith, w.turns_to_four)) (omega (arith, v.turns_to_four)) (ap (λ l. slice_get l 2) e))
one_spelling (Lossy first) (Lossy f) w v e = ap Lossy (same_number first f w v (ap (λ l. slice_get l 1) e))
one_spelling (Crew first commands) (Crew f c) w v e = ap₂ Crew
    (same_number first f w.0 v.0 (ap (λ l. slice_get l 1) e))
    (same_number commands c (omega (arith, w.1)) (omega (arith, v.1)) (ap (λ l. slice_get l 2) e))
one_spelling Explore Explore w v e = refl
one_spelling (ExploreMost most) (ExploreMost m) w v e = ap ExploreMost (same_number most m (omega (arith, w)) (omega (arith, v)) (ap (λ l. slice_get l 1) e))
one_spelling (ExploreFrom most first) (ExploreFrom m f) w v e = ap₂ ExploreFrom
    (same_number most m (omega (arith, w.0)) (omega (arith, v.0)) (ap (λ l. slice_get l 1) e))
    (same_number first f w.1 v.1 (ap (λ l. slice_get l 2) e))
one_spelling Check Check w v e = refl
one_spelling (CheckMost most) (CheckMost m) w v e = ap CheckMost (same_number most m (omega (arith, w)) (omega (arith, v)) (ap (λ l. slice_get l 1) e))
one_spelling (CheckDrawn count first) (CheckDrawn c f) w v e = ap₂ CheckDrawn
    (same_number count c (omega (arith, w.0)) (omega (arith, v.0)) (ap (λ l. slice_get l 1) e))
    (same_number first f w.1 v.1 (ap (λ l. slice_get l 2) e))
one_spelling a b w v e = absurd (let same : size (spelled a) ≡ size (spelled b) = ap size e in omega (arith, same))

pub ask_once : (ws : List (List ℕ)) (a b : Words) → Ask ws a → Ask ws b → a ≡ b
ask_once ws a b m n = one_spelling a b m.1 n.1 (sym m.0 ∙ n.0)

-- what is read is what the words ask
pub listed_by : (o : Option Words) (ws : List (List ℕ)) (asked : Words) → IfSome o (Ask ws) → (IsNone o → Ask ws asked → ⊥) → Ask ws asked → o ≡ Some asked
listed_by None ws asked some none ask = absurd (none refl ask)
listed_by (Some read) ws asked some none ask = ap Some (ask_once ws read asked some ask)

pub by_three : (ws : List (List ℕ)) (what first second : Option (List ℕ)) (asked : Words)
    → what ≡ slice_get ws 0 → first ≡ slice_get ws 1 → second ≡ slice_get ws 2 → Ask ws asked → AskByThree what first second asked
by_three ws what first second asked e f g ask =
    (e ∙ ap (λ l. slice_get l 0) ask.0, f ∙ ap (λ l. slice_get l 1) ask.0, g ∙ ap (λ l. slice_get l 2) ask.0, ask.1)

-- the list has no row of more than three words
pub too_long : (ws : List (List ℕ)) (asked : Words) → 3 < length ws → Ask ws asked → ⊥
too_long ws asked l ask = let same : length ws ≡ length (spelled asked) = ap length ask.0 in absurd (omega (arith, few_words asked, same, l))

-- Words that give no layout.

turns_fit : (t : ℕ) → 1 ≤ t → t ≤ 4 → t ≢ 3 → ((t == 1) || (t == 2) || (t == 4)) ≡ true
turns_fit t a b c = grind (arith, nat_tests)

sites_fit : (s : ℕ) → 1 ≤ s → s ≤ 16 → (nat_le 1 s && nat_le s 16) ≡ true
sites_fit s a b = grind (arith, nat_tests)

all_three : (a b c : Bool) → (a && b) ≡ true → c ≡ true → (a && b && c) ≡ true
all_three true b c h k = rw (h, k) refl
all_three false b c h k = h

layout_fits : (l : Shape) → IsLayout l → is_layout l ≡ true
layout_fits l h =
    all_three (nat_le 1 l.sites) (nat_le l.sites 16) ((l.turns == 1) || (l.turns == 2) || (l.turns == 4))
    (sites_fit l.sites h.sites_from_one h.sites_to_max) (turns_fit l.turns h.turns_from_one h.turns_to_four h.turns_not_three)

some_if : {X : Type 0} (b : Bool) (x : X) → b ≡ true → IsNone (if b then Some x else None) → ⊥
some_if true x h none = true≢false none
some_if false x h none = true≢false (sym h)

pub no_layout_read : (m n : ℕ) (sites turns : List ℕ) → sites ≡ decimal m → turns ≡ decimal n → m < 2 ^ 16 → n < 2 ^ 16
    → IsNone (new_layout m n) → (l : Shape) → IsLayout l → sites ≡ decimal l.sites → turns ≡ decimal l.turns → ⊥
no_layout_read m n sites turns e f small less none l h p q =
    let s : l.sites ≡ m = decimal_injective l.sites m (omega (arith, h.sites_to_max)) (omega (arith, small)) (sym p ∙ e) in
    let t : l.turns ≡ n = decimal_injective l.turns n (omega (arith, h.turns_to_four)) (omega (arith, less)) (sym q ∙ f) in
    some_if (is_layout l) l (layout_fits l h) (subst (λ k. IsNone (new_layout l.sites k)) (sym t) (subst (λ k. IsNone (new_layout k n)) (sym s) none))

no_audit_of : (sites turns : List ℕ) → ((l : Shape) → IsLayout l → sites ≡ decimal l.sites → turns ≡ decimal l.turns → ⊥)
    → (asked : Words) → AskByThree (Some (codes "audit")) (Some sites) (Some turns) asked → ⊥
no_audit_of sites turns none Replay by = no_word sites (sym by.1)
no_audit_of sites turns none Run by = no_word sites (sym by.1)
no_audit_of sites turns none (RunOn t) by = no_word turns (sym by.2)
no_audit_of sites turns none (Load first commands) by = other_word (codes "load") refl (sym by.0)
no_audit_of sites turns none Judge by = no_word sites (sym by.1)
no_audit_of sites turns none (JudgeFor s t) by = no_judge by.0
no_audit_of sites turns none Promises by = no_word sites (sym by.1)
no_audit_of sites turns none (PromisesFor s t) by = no_promises by.0
no_audit_of sites turns none (Picture s t) by = no_picture by.0
no_audit_of sites turns none (Lossy first) by = no_word turns (sym by.2)
no_audit_of sites turns none (Crew first commands) by = other_word (codes "crew") refl (sym by.0)
no_audit_of sites turns none Explore by = no_word sites (sym by.1)
no_audit_of sites turns none (ExploreMost most) by = no_word turns (sym by.2)
no_audit_of sites turns none (ExploreFrom most first) by = no_exploring (codes "audit") refl by.0
no_audit_of sites turns none Check by = no_word sites (sym by.1)
no_audit_of sites turns none (CheckMost most) by = no_word turns (sym by.2)
no_audit_of sites turns none (CheckDrawn count first) by = no_drawn (codes "audit") refl by.0
no_audit_of sites turns none (Audit s t) by = none (record { sites = s; turns = t }) by.3 (the_word sites (decimal s) by.1) (the_word turns (decimal t) by.2)

pub no_audit : (sites turns : List ℕ) (what first second : Option (List ℕ)) → what ≡ Some (codes "audit") → first ≡ Some sites → second ≡ Some turns
    → ((l : Shape) → IsLayout l → sites ≡ decimal l.sites → turns ≡ decimal l.turns → ⊥)
    → (asked : Words) → AskByThree what first second asked → ⊥
no_audit sites turns what first second e f g none asked by =
    no_audit_of sites turns none asked (sym e ∙ by.0, sym f ∙ by.1, sym g ∙ by.2, by.3)

-- Of a judgement too.

no_judge_of : (sites turns : List ℕ) → ((l : Shape) → IsLayout l → sites ≡ decimal l.sites → turns ≡ decimal l.turns → ⊥)
    → (asked : Words) → AskByThree (Some (codes "judge")) (Some sites) (Some turns) asked → ⊥
no_judge_of sites turns none (JudgeFor s t) by = none (record { sites = s; turns = t }) by.3 (the_word sites (decimal s) by.1) (the_word turns (decimal t) by.2)
no_judge_of sites turns none Judge by = no_word sites (sym by.1)
no_judge_of sites turns none (Audit s t) by = no_judge (sym by.0)
no_judge_of sites turns none (Lossy first) by = no_word turns (sym by.2)
no_judge_of sites turns none Check by = no_word sites (sym by.1)
no_judge_of sites turns none (CheckMost most) by = no_word turns (sym by.2)
no_judge_of sites turns none (CheckDrawn count first) by = no_drawn (codes "judge") refl by.0
no_judge_of sites turns none asked by =
    absurd (let word : codes "judge" ≡ unwrap_or (slice_get (spelled asked) 0) [] = the_word (codes "judge") (unwrap_or (slice_get (spelled asked) 0) []) by.0 in let long = ap (λ (w : List ℕ). length w) word in omega (arith, long))

pub no_judging : (sites turns : List ℕ) (what first second : Option (List ℕ)) → what ≡ Some (codes "judge") → first ≡ Some sites → second ≡ Some turns
    → ((l : Shape) → IsLayout l → sites ≡ decimal l.sites → turns ≡ decimal l.turns → ⊥)
    → (asked : Words) → AskByThree what first second asked → ⊥
no_judging sites turns what first second e f g none asked by =
    no_judge_of sites turns none asked (sym e ∙ by.0, sym f ∙ by.1, sym g ∙ by.2, by.3)

-- Of a judgement by promises too.

no_promises_of : (sites turns : List ℕ) → ((l : Shape) → IsLayout l → sites ≡ decimal l.sites → turns ≡ decimal l.turns → ⊥)
    → (asked : Words) → AskByThree (Some (codes "promises")) (Some sites) (Some turns) asked → ⊥
no_promises_of sites turns none (PromisesFor s t) by = none (record { sites = s; turns = t }) by.3 (the_word sites (decimal s) by.1) (the_word turns (decimal t) by.2)
no_promises_of sites turns none Promises by = no_word sites (sym by.1)
no_promises_of sites turns none asked by =
    absurd (let word : codes "promises" ≡ unwrap_or (slice_get (spelled asked) 0) [] = the_word (codes "promises") (unwrap_or (slice_get (spelled asked) 0) []) by.0 in let long = ap (λ (w : List ℕ). length w) word in omega (arith, long))

pub no_promising : (sites turns : List ℕ) (what first second : Option (List ℕ)) → what ≡ Some (codes "promises") → first ≡ Some sites → second ≡ Some turns
    → ((l : Shape) → IsLayout l → sites ≡ decimal l.sites → turns ≡ decimal l.turns → ⊥)
    → (asked : Words) → AskByThree what first second asked → ⊥
no_promising sites turns what first second e f g none asked by =
    no_promises_of sites turns none asked (sym e ∙ by.0, sym f ∙ by.1, sym g ∙ by.2, by.3)

-- Of a picture too.

no_picture_of : (sites turns : List ℕ) → ((l : Shape) → IsLayout l → sites ≡ decimal l.sites → turns ≡ decimal l.turns → ⊥)
    → (asked : Words) → AskByThree (Some (codes "picture")) (Some sites) (Some turns) asked → ⊥
no_picture_of sites turns none (Picture s t) by = none (record { sites = s; turns = t }) by.3 (the_word sites (decimal s) by.1) (the_word turns (decimal t) by.2)
no_picture_of sites turns none Explore by = no_word sites (sym by.1)
no_picture_of sites turns none (ExploreMost most) by = no_word turns (sym by.2)
no_picture_of sites turns none (ExploreFrom most first) by = no_exploring (codes "picture") refl by.0
no_picture_of sites turns none asked by =
    absurd (let word : codes "picture" ≡ unwrap_or (slice_get (spelled asked) 0) [] = the_word (codes "picture") (unwrap_or (slice_get (spelled asked) 0) []) by.0 in let long = ap (λ (w : List ℕ). length w) word in omega (arith, long))

pub no_drawing : (sites turns : List ℕ) (what first second : Option (List ℕ)) → what ≡ Some (codes "picture") → first ≡ Some sites → second ≡ Some turns
    → ((l : Shape) → IsLayout l → sites ≡ decimal l.sites → turns ≡ decimal l.turns → ⊥)
    → (asked : Words) → AskByThree what first second asked → ⊥
no_drawing sites turns what first second e f g none asked by =
    no_picture_of sites turns none asked (sym e ∙ by.0, sym f ∙ by.1, sym g ∙ by.2, by.3)

-- A word that is no number of places.

no_run_of : (turns : List ℕ) → ((n : ℕ) → IsTurns n → turns ≡ decimal n → ⊥) → (asked : Words) → AskByThree (Some (codes "run")) (Some turns) None asked → ⊥
no_run_of turns none (RunOn n) by = none n by.3 (the_word turns (decimal n) by.1)
no_run_of turns none Run by = no_word turns (sym by.1)
no_run_of turns none asked by =
    absurd (let word : codes "run" ≡ unwrap_or (slice_get (spelled asked) 0) [] = the_word (codes "run") (unwrap_or (slice_get (spelled asked) 0) []) by.0 in let long = ap (λ (w : List ℕ). length w) word in omega (arith, long))

pub no_run : (turns : List ℕ) (what first second : Option (List ℕ)) → what ≡ Some (codes "run") → first ≡ Some turns → second ≡ None
    → ((n : ℕ) → IsTurns n → turns ≡ decimal n → ⊥) → (asked : Words) → AskByThree what first second asked → ⊥
no_run turns what first second e f g none asked by = no_run_of turns none asked (sym e ∙ by.0, sym f ∙ by.1, sym g ∙ by.2, by.3)

pub no_turns_read : (m : ℕ) (word : List ℕ) → word ≡ decimal m → m < 2 ^ 16 → IsNone (new_layout 1 m) → (n : ℕ) → IsTurns n → word ≡ decimal n → ⊥
no_turns_read m word e small none n h is =
    let same : n ≡ m = decimal_injective n m (omega (arith, h.turns_to_four)) (omega (arith, small)) (sym is ∙ e) in
    let l : Shape = record { sites = 1; turns = n } in
    some_if (is_layout l) l (layout_fits l h) (subst (λ k. IsNone (new_layout 1 k)) (sym same) none)

-- A word that is no number of 32 bits.

no_explore_of : (word : List ℕ) → ((n : ℕ) → n < 2 ^ 32 → word ≡ decimal n → ⊥) → (asked : Words) → AskByThree (Some (codes "explore")) (Some word) None asked → ⊥
no_explore_of word none (ExploreMost n) by = none n by.3 (the_word word (decimal n) by.1)
no_explore_of word none Explore by = no_word word (sym by.1)
no_explore_of word none (Picture sites turns) by = no_word (decimal turns) by.2
no_explore_of word none (ExploreFrom most first) by = no_word (decimal first) by.2
no_explore_of word none asked by =
    absurd (let first : codes "explore" ≡ unwrap_or (slice_get (spelled asked) 0) [] = the_word (codes "explore") (unwrap_or (slice_get (spelled asked) 0) []) by.0 in let long = ap (λ (w : List ℕ). length w) first in omega (arith, long))

pub no_explore : (word : List ℕ) (what first second : Option (List ℕ)) → what ≡ Some (codes "explore") → first ≡ Some word → second ≡ None
    → ((n : ℕ) → n < 2 ^ 32 → word ≡ decimal n → ⊥) → (asked : Words) → AskByThree what first second asked → ⊥
no_explore word what first second e f g none asked by = no_explore_of word none asked (sym e ∙ by.0, sym f ∙ by.1, sym g ∙ by.2, by.3)

no_lossy : Some (codes "check") ≡ Some (codes "lossy") → ⊥
no_lossy e = true≢false (ap (λ (w : List ℕ). get_or w 0 0 == 99) (the_word (codes "check") (codes "lossy") e))

no_check_of : (word : List ℕ) → ((n : ℕ) → n < 2 ^ 32 → word ≡ decimal n → ⊥) → (asked : Words) → AskByThree (Some (codes "check")) (Some word) None asked → ⊥
no_check_of word none (CheckMost n) by = none n by.3 (the_word word (decimal n) by.1)
no_check_of word none Check by = no_word word (sym by.1)
no_check_of word none Judge by = no_word word (sym by.1)
no_check_of word none (Audit sites turns) by = no_word (decimal turns) by.2
no_check_of word none (JudgeFor sites turns) by = no_word (decimal turns) by.2
no_check_of word none (CheckDrawn count first) by = no_word (decimal first) by.2
no_check_of word none (Lossy first) by = no_lossy by.0
no_check_of word none asked by =
    absurd (let first : codes "check" ≡ unwrap_or (slice_get (spelled asked) 0) [] = the_word (codes "check") (unwrap_or (slice_get (spelled asked) 0) []) by.0 in let long = ap (λ (w : List ℕ). length w) first in omega (arith, long))

pub no_check : (word : List ℕ) (what first second : Option (List ℕ)) → what ≡ Some (codes "check") → first ≡ Some word → second ≡ None
    → ((n : ℕ) → n < 2 ^ 32 → word ≡ decimal n → ⊥) → (asked : Words) → AskByThree what first second asked → ⊥
no_check word what first second e f g none asked by = no_check_of word none asked (sym e ∙ by.0, sym f ∙ by.1, sym g ∙ by.2, by.3)
