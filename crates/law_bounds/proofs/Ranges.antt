-- The parts of a range, and a later clock.
use Rattle.std.proofs.Common.{ℕ, zero, suc, ◌≡◌, ◌≤◌, ◌<◌, ◌+◌, ◌-◌, ◌*◌, ◌%◌, nat_le, Bool, true, ◌&&◌, List, ◌++◌, length, ◌∙◌, arith, leb-true}
use Rattle.std.specs.List.{list_all}
use Rattle.std.proofs.lemmas.Bool.{and_parts, and_from, le-leb}
use Rattle.std.proofs.lemmas.List.Folds.{list_all-append}
use Rattle.std.proofs.Math.Nat.{mod-lt}
use Rattle.chorus_ui.specs.declared.ui.Ui.{Ui}
use Rattle.chorus_ui.specs.declared.layout.Layout.{Layout}
use Rattle.chorus_ui.specs.Layout as layout
use Rattle.chorus_ui.specs.Layout.{IsLayout, has_site, has_place, place_at}
use Rattle.chorus_entry.specs.declared.answer.Answer.{Answer}
use Rattle.chorus_entry.specs.declared.answer.Answer.TheVariants as A
use Rattle.chorus_entry.specs.declared.message.Message.{Message}
use Rattle.chorus_entry.specs.Message.{as_copy}
use Rattle.chorus_entry.specs.Kinds.{has_kinds_in_tag}
use Rattle.chorus_entry.specs.Ranges.{is_place_number, has_range_of_id, has_range_of_tag, has_ranges_of_message, has_ranges_of_answer}

-- what passes in a list passes behind another
pub all-append : {X : Type 0} (p : X → Bool) (xs ys : List X) → list_all p xs ≡ true → list_all p ys ≡ true → list_all p (xs ++ ys) ≡ true
all-append p xs ys h k = list_all-append p xs ys ∙ and_from (list_all p xs) (list_all p ys) h k

pub le-later : (n c d : ℕ) → c ≤ d → nat_le n c ≡ true → nat_le n d ≡ true
le-later n c d le h = let less = leb-true n c h in le-leb n d (omega (arith, le, less))

pub answer-later : (c d : ℕ) (a : Answer) → c ≤ d → has_ranges_of_answer c a ≡ true → has_ranges_of_answer d a ≡ true
answer-later c d (A.Accepted pos) le h = le-later pos c d le h
answer-later c d (A.Stale to hop) le h =
    let two = and_parts (is_place_number to) (nat_le hop c) h in and_from (is_place_number to) (nat_le hop d) two.0 (le-later hop c d le two.1)
answer-later c d (A.Early hop) le h = le-later hop c d le h
answer-later c d (A.Elsewhere to hop) le h =
    let two = and_parts (is_place_number to) (nat_le hop c) h in and_from (is_place_number to) (nat_le hop d) two.0 (le-later hop c d le two.1)
answer-later c d (A.Full len) le h = h
answer-later c d A.NoPort le h = h
answer-later c d A.Already le h = h
answer-later c d A.ClientsFull le h = h
answer-later c d A.NoMember le h = h
answer-later c d (A.Chosen n) le h = h
answer-later c d A.Gone le h = h

-- Places.

few-places : (t n p : ℕ) → 1 ≤ t → t ≤ 4 → n ≤ 16 → p ≤ n * t → p ≤ 64
few-places zero n p a b c d = absurd (omega arith)
few-places (suc zero) n p a b c d = omega arith
few-places (suc (suc zero)) n p a b c d = omega arith
few-places (suc (suc (suc zero))) n p a b c d = omega arith
few-places (suc (suc (suc (suc zero)))) n p a b c d = omega arith
few-places (suc (suc (suc (suc (suc t))))) n p a b c d = absurd (omega arith)

pub place-within : (l : Layout) (p : ℕ) → IsLayout l → has_place l p ≡ true → is_place_number p ≡ true
place-within l p shape h =
    let two = and_parts (nat_le 1 p) (nat_le p (layout.places l)) h in
    let most = leb-true p (layout.places l) two.1 in
    and_from (nat_le 1 p) (nat_le p 64) two.0 (le-leb p 64 (few-places l.turns l.sites p shape.turns_from_one shape.turns_to_four shape.sites_to_max most))

at-within : (t s r : ℕ) → 1 ≤ t → t ≤ 4 → 1 ≤ s → s ≤ 16 → r < t → (s - 1) * t + 1 + r ≤ 64
at-within zero s r a b c d e = absurd (omega arith)
at-within (suc zero) s r a b c d e = omega arith
at-within (suc (suc zero)) s r a b c d e = omega arith
at-within (suc (suc (suc zero))) s r a b c d e = omega arith
at-within (suc (suc (suc (suc zero)))) s r a b c d e = omega arith
at-within (suc (suc (suc (suc (suc t))))) s r a b c d e = absurd (omega arith)

-- where a thing of this name stands on a site of the layout
pub standing-within : (l : Layout) (site : ℕ) (u : Ui) → IsLayout l → has_site l site ≡ true → is_place_number (place_at l site u) ≡ true
standing-within l site u shape h =
    let two = and_parts (nat_le 1 site) (nat_le site l.sites) h in
    let low = leb-true 1 site two.0 in
    let high = leb-true site l.sites two.1 in
    let most = shape.sites_to_max in
    let some = shape.turns_from_one in
    let rest : (u.number - 1) % l.turns < l.turns = mod-lt (u.number - 1) (omega (arith, some)) in
    let few : place_at l site u ≤ 64 = at-within l.turns site ((u.number - 1) % l.turns) some shape.turns_to_four low (omega (arith, high, most)) rest in
    and_from (nat_le 1 (place_at l site u)) (nat_le (place_at l site u) 64) (le-leb 1 (place_at l site u) (omega arith)) (le-leb (place_at l site u) 64 few)

-- Messages.

pub record MessageParts (m : Message) : Type 0 where
  pub id : has_range_of_id m.id ≡ true
  pub tag : has_range_of_tag m.tag ≡ true
  pub kinds : has_kinds_in_tag m.tag ≡ true
  pub body : nat_le (length m.body) 4096 ≡ true

pub message-parts : (m : Message) → has_ranges_of_message m ≡ true → MessageParts m
message-parts m h =
    let four = and_parts (has_range_of_id m.id && has_range_of_tag m.tag && has_kinds_in_tag m.tag) (nat_le (length m.body) 4096) h in
    let three = and_parts (has_range_of_id m.id && has_range_of_tag m.tag) (has_kinds_in_tag m.tag) four.0 in
    let two = and_parts (has_range_of_id m.id) (has_range_of_tag m.tag) three.0 in
    record { id = two.0; tag = two.1; kinds = three.1; body = four.1 }

pub message-from : (m : Message) → MessageParts m → has_ranges_of_message m ≡ true
message-from m h =
    and_from (has_range_of_id m.id && has_range_of_tag m.tag && has_kinds_in_tag m.tag) (nat_le (length m.body) 4096)
    (and_from (has_range_of_id m.id && has_range_of_tag m.tag) (has_kinds_in_tag m.tag) (and_from (has_range_of_id m.id) (has_range_of_tag m.tag) h.id h.tag) h.kinds) h.body

-- a copy of a message, with a number of at most 32
pub copy-within : (m : Message) (n : ℕ) → n ≤ 32 → has_ranges_of_message m ≡ true → has_ranges_of_message (as_copy m n) ≡ true
copy-within m n le h =
    let four = message-parts m h in
    let one = and_parts (nat_le 1 m.id.number) (nat_le m.id.copy 32) four.id in
    message-from (as_copy m n) (record { id = and_from (nat_le 1 m.id.number) (nat_le n 32) one.0 (le-leb n 32 le); tag = four.tag; kinds = four.kinds; body = four.body })
