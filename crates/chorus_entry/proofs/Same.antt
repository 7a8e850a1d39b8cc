-- What the tests of sameness say: where they hold the two are equal, and each thing is the same as itself.
use Rattle.std.proofs.Common.{◌≡◌, ◌==◌, ℕ, true, ◌&&◌, List, refl, ap, subst}
use Rattle.std.proofs.lemmas.Bool.{and_parts, eqb-true, eq-eqb}
use Rattle.std.specs.Cmp.Lexicographic.{bytes_decides, pointwise_decides}
use Rattle.chorus_ui.specs.declared.ui.Ui.{Ui}
use Rattle.chorus_ui.specs.Name.{same_ui}
use Rattle.chorus_ui.proofs.Names.{from_same_ui, same_ui-self}
use Rattle.chorus_entry.specs.declared.dest.Dest.{Dest}
use Rattle.chorus_entry.specs.declared.dest.Dest.TheVariants as D
use Rattle.chorus_entry.specs.declared.id.MsgId.{MsgId}
use Rattle.chorus_entry.specs.declared.answer.Answer.{Answer}
use Rattle.chorus_entry.specs.declared.answer.Answer.TheVariants.{Accepted, Full, Stale, Early, NoPort, Already, ClientsFull, Elsewhere, NoMember, Chosen, Gone}
use Rattle.chorus_entry.specs.Answer.{same_answer}
use Rattle.chorus_entry.specs.Body.{same_body}
use Rattle.chorus_entry.specs.Dest.{same_dest}
use Rattle.chorus_entry.specs.Ids.{same_ids, same_ids-equivalence}
use Rattle.chorus_entry.specs.Members.{same_uis, same_uis-equivalence}
use Rattle.chorus_entry.specs.MsgId.{same_id}

pub from_same_id : (x y : MsgId) → same_id x y ≡ true → x ≡ y
from_same_id x y h =
    let outer = and_parts ((x.seat == y.seat) && (x.number == y.number)) (x.copy == y.copy) h in
    let inner = and_parts (x.seat == y.seat) (x.number == y.number) outer.0 in
    λ i. record { seat = eqb-true x.seat y.seat inner.0 i; number = eqb-true x.number y.number inner.1 i; copy = eqb-true x.copy y.copy outer.1 i }

pub same_id-self : (x : MsgId) → same_id x x ≡ true
same_id-self x = λ i. eq-eqb x.seat x.seat refl i && eq-eqb x.number x.number refl i && eq-eqb x.copy x.copy refl i

pub same_answer-self : (a : Answer) → same_answer a a ≡ true
same_answer-self (Accepted n) = eq-eqb n n refl
same_answer-self (Full n) = eq-eqb n n refl
same_answer-self (Stale p n) = λ i. eq-eqb p p refl i && eq-eqb n n refl i
same_answer-self (Early n) = eq-eqb n n refl
same_answer-self NoPort = refl
same_answer-self Already = refl
same_answer-self ClientsFull = refl
same_answer-self (Elsewhere p n) = λ i. eq-eqb p p refl i && eq-eqb n n refl i
same_answer-self NoMember = refl
same_answer-self (Chosen n) = eq-eqb n n refl
same_answer-self Gone = refl

pub from_same_answer : (a b : Answer) → same_answer a b ≡ true → a ≡ b
from_same_answer (Accepted n) (Accepted m) h = ap Accepted (eqb-true n m h)
from_same_answer (Full n) (Full m) h = ap Full (eqb-true n m h)
from_same_answer (Stale p n) (Stale q m) h = let both = and_parts (p == q) (n == m) h in λ i. Stale (eqb-true p q both.0 i) (eqb-true n m both.1 i)
from_same_answer (Early n) (Early m) h = ap Early (eqb-true n m h)
from_same_answer NoPort NoPort h = refl
from_same_answer Already Already h = refl
from_same_answer ClientsFull ClientsFull h = refl
from_same_answer (Elsewhere p n) (Elsewhere q m) h = let both = and_parts (p == q) (n == m) h in λ i. Elsewhere (eqb-true p q both.0 i) (eqb-true n m both.1 i)
from_same_answer NoMember NoMember h = refl
from_same_answer (Chosen n) (Chosen m) h = ap Chosen (eqb-true n m h)
from_same_answer Gone Gone h = refl
from_same_answer _ _ h = absurd (cc)

pub same_dest-self : (d : Dest) → same_dest d d ≡ true
same_dest-self (D.Port q) = same_ui-self q
same_dest-self (D.All g) = same_ui-self g
same_dest-self (D.One g) = same_ui-self g
same_dest-self (D.OneAt g s) = λ i. same_ui-self g i && eq-eqb s s refl i

pub from_same_dest : (d e : Dest) → same_dest d e ≡ true → d ≡ e
from_same_dest (D.Port q) (D.Port r) h = ap D.Port (from_same_ui q r h)
from_same_dest (D.All g) (D.All h) e = ap D.All (from_same_ui g h e)
from_same_dest (D.One g) (D.One h) e = ap D.One (from_same_ui g h e)
from_same_dest (D.OneAt g s) (D.OneAt h t) e = let both = and_parts (same_ui g h) (s == t) e in λ i. D.OneAt (from_same_ui g h both.0 i) (eqb-true s t both.1 i)
from_same_dest _ _ h = absurd (cc)

pub from_same_ids : (xs ys : List MsgId) → same_ids xs ys ≡ true → xs ≡ ys
from_same_ids xs ys = (pointwise_decides (λ x y. (from_same_id x y, λ e. subst (λ z. same_id x z ≡ true) e (same_id-self x))) xs ys).0

pub same_ids-self : (xs : List MsgId) → same_ids xs xs ≡ true
same_ids-self = same_ids-equivalence.refl

pub from_same_uis : (us vs : List Ui) → same_uis us vs ≡ true → us ≡ vs
from_same_uis us vs = (pointwise_decides (λ u v. (from_same_ui u v, λ e. subst (λ w. same_ui u w ≡ true) e (same_ui-self u))) us vs).0

pub same_uis-self : (us : List Ui) → same_uis us us ≡ true
same_uis-self = same_uis-equivalence.refl

pub from_same_body : (b c : List ℕ) → same_body b c ≡ true → b ≡ c
from_same_body b c = (bytes_decides b c).0

pub same_body-self : (b : List ℕ) → same_body b b ≡ true
same_body-self b = (bytes_decides b b).1 refl
