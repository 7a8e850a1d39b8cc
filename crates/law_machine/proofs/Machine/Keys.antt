-- Ports and routes that are the same by the test are equal.
use Rattle.std.proofs.Common.{ℕ, ◌≡◌, true, Option, Some, None, refl, ap, arith}
use Rattle.std.specs.declared.cmp.Ordering.{Ordering}
use Rattle.std.specs.declared.cmp.Ordering.TheVariants.{Less, Equal, Greater}
use Rattle.std.specs.Ordering.{is_eq, ordering_then, nat_cmp}
use Rattle.std.specs.Option.{option_cmp}
use Rattle.std.proofs.lemmas.Bool.{false≢true}
use Rattle.chorus_ui.specs.declared.kind.Kind.{Kind}
use Rattle.chorus_ui.specs.declared.kind.Kind.TheVariants.{Actor, Port, Group}
use Rattle.chorus_ui.specs.declared.ui.Ui.{Ui}
use Rattle.chorus_ui.specs.Kind.{kind_number}
use Rattle.chorus_ui.specs.Name.{name_cmp}
use Rattle.place_unsettled.specs.declared.wait.Key.{Key}
use Rattle.place_unsettled.specs.Queues.{same_key}

then-parts : (a b : Ordering) → is_eq (ordering_then a b) ≡ true → (is_eq a ≡ true) × (is_eq b ≡ true)
then-parts Less b h = absurd (false≢true h)
then-parts Equal b h = (refl, h)
then-parts Greater b h = absurd (false≢true h)

number-is : (a b : ℕ) → is_eq (nat_cmp a b) ≡ true → a ≡ b
number-is a b h = grind (arith, h)

kind-is : (k l : Kind) → kind_number k ≡ kind_number l → k ≡ l
kind-is Actor Actor h = refl
kind-is Actor Port h = absurd (omega (arith, h))
kind-is Actor Group h = absurd (omega (arith, h))
kind-is Port Actor h = absurd (omega (arith, h))
kind-is Port Port h = refl
kind-is Port Group h = absurd (omega (arith, h))
kind-is Group Actor h = absurd (omega (arith, h))
kind-is Group Port h = absurd (omega (arith, h))
kind-is Group Group h = refl

name-is : (u v : Ui) → is_eq (name_cmp u v) ≡ true → u ≡ v
name-is u v h =
    let two = then-parts (ordering_then (nat_cmp u.site v.site) (nat_cmp (kind_number u.kind) (kind_number v.kind))) (nat_cmp u.number v.number) h in
    let one = then-parts (nat_cmp u.site v.site) (nat_cmp (kind_number u.kind) (kind_number v.kind)) two.0 in
    let s = number-is u.site v.site one.0 in
    let k = kind-is u.kind v.kind (number-is (kind_number u.kind) (kind_number v.kind) one.1) in
    let n = number-is u.number v.number two.1 in
    λ i. record { site = s i; kind = k i; number = n i }

route-same : (a b : Option Ui) → is_eq (option_cmp name_cmp a b) ≡ true → a ≡ b
route-same None None h = refl
route-same None (Some g) h = absurd (false≢true h)
route-same (Some f) None h = absurd (false≢true h)
route-same (Some f) (Some g) h = ap (λ z. Some z) (name-is f g h)

pub same_key-is : (k j : Key) → same_key k j ≡ true → k ≡ j
same_key-is k j h =
    let two = then-parts (name_cmp k.port j.port) (option_cmp name_cmp k.route j.route) h in
    let p = name-is k.port j.port two.0 in
    let r = route-same k.route j.route two.1 in
    λ i. record { port = p i; route = r i }
