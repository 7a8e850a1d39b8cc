-- Fields both ways: what is read is what was spelled, and what was spelled is read again.
use Rattle.std.proofs.Common.{◌≡◌, ℕ, ◌^◌, ◌<◌, ◌≤◌, Bool, true, ◌&&◌, nat_le, List, ◌++◌, Result, Ok, refl, sym, ap, subst, ◌∙◌, append_assoc, arith}
use Rattle.std.proofs.lemmas.Bool.Decides.{nat_tests}
use Rattle.chorus_frame.specs.Fault.{Fault}
use Rattle.chorus_frame.specs.Numbers.{◌>>=◌, number, number_at, passes, tested_at}
use Rattle.chorus_frame.specs.Laws.{AreBytes}
use Rattle.chorus_frame.proofs.Numbers.{bind_ok, test_ok, number-takes, number-again}

-- what a reader took from the front
pub record Taken (bytes text rest : List ℕ) : Type 0 where
  pub parts : bytes ≡ text ++ rest
  pub rest_bytes : AreBytes rest

-- the two laws of a field, or of several
pub record IsFormat (A : Type 0) (fits : A → Type 0) (spell : A → List ℕ) (read : List ℕ → Result (A × List ℕ) Fault) : Type 0 where
  pub takes : (bytes : List ℕ) (x : A) (rest : List ℕ) → AreBytes bytes → read bytes ≡ Ok (x, rest) → Taken bytes (spell x) rest × fits x
  pub again : (x : A) (rest : List ℕ) → fits x → read (spell x ++ rest) ≡ Ok (x, rest)

-- one step of several that did not fail
pub record Step (A B : Type 0) (fits : A → Type 0) (spell : A → List ℕ) (next : A × List ℕ → Result B Fault) (bytes : List ℕ) (y : B) : Type 0 where
  pub value : A
  pub rest : List ℕ
  pub taken : Taken bytes (spell value) rest
  pub fit : fits value
  pub on : next (value, rest) ≡ Ok y

pub step : {A B : Type 0} {fits : A → Type 0} {spell : A → List ℕ} {read : List ℕ → Result (A × List ℕ) Fault} → IsFormat A fits spell read → (next : A × List ℕ → Result B Fault) (bytes : List ℕ) (y : B) → AreBytes bytes → (read bytes >>= next) ≡ Ok y → Step A B fits spell next bytes y
step {read = read} format next bytes y are e =
    let b = bind_ok (read bytes) next y e in
    let t = format.takes bytes b.0.0 b.0.1 are b.1 in
    record { value = b.0.0; rest = b.0.1; taken = t.0; fit = t.1; on = b.2 }

-- a number
abbrev pub IsOfWidth : ℕ → ℕ → Type 0
IsOfWidth width n = n < 256 ^ width

pub number_format : (width : ℕ) → IsFormat ℕ (IsOfWidth width) (number width) (number_at width)
number_format width = record {
  takes = λ bytes x rest are e. let t = number-takes width bytes x rest are e in (record { parts = t.0; rest_bytes = t.1 }, t.2);
  again = λ x rest fit. number-again width x rest fit;
}

-- a number that passes a test
abbrev pub IsTested : ℕ → (ℕ → Bool) → ℕ → Type 0
IsTested width test n = IsOfWidth width n × (test n ≡ true)

tested-takes : (width : ℕ) (test : ℕ → Bool) (fault : Fault) (bytes : List ℕ) (x : ℕ) (rest : List ℕ) → AreBytes bytes → tested_at width test fault bytes ≡ Ok (x, rest) → Taken bytes (number width x) rest × IsTested width test x
unfolding tested_at
tested-takes width test fault bytes x rest are e =
    let s = step (number_format width) (passes test fault) bytes (x, rest) are e in
    let t = test_ok (test s.value) fault (s.value, s.rest) (x, rest) s.on in
    let value-is : s.value ≡ x = ap (λ (p : ℕ × List ℕ). p.0) t.1 in
    subst (λ (p : ℕ × List ℕ). Taken bytes (number width p.0) p.1 × IsTested width test p.0) t.1 (s.taken, (s.fit, t.0))

tested-again : (width : ℕ) (test : ℕ → Bool) (fault : Fault) (x : ℕ) (rest : List ℕ) → IsTested width test x → tested_at width test fault (number width x ++ rest) ≡ Ok (x, rest)
unfolding tested_at
tested-again width test fault x rest fit =
    rw (number-again width x rest fit.0, fit.1) refl

pub tested_format : (width : ℕ) (test : ℕ → Bool) (fault : Fault) → IsFormat ℕ (IsTested width test) (number width) (tested_at width test fault)
tested_format width test fault = record {
  takes = tested-takes width test fault;
  again = tested-again width test fault;
}

-- two after another
pub join : {a x b y c : List ℕ} → Taken a x b → Taken b y c → Taken a (x ++ y) c
join {a} {x} {b} {y} {c} p q = record { parts = p.parts ∙ ap (λ (t : List ℕ). x ++ t) q.parts ∙ sym (append_assoc x y c); rest_bytes = q.rest_bytes }

-- the parts of what is written, each before all that follows it
pub assoc2 : (a b r : List ℕ) → a ++ b ++ r ≡ a ++ (b ++ r)
assoc2 a b r = append_assoc a b r

pub assoc3 : (a b c r : List ℕ) → a ++ b ++ c ++ r ≡ a ++ (b ++ (c ++ r))
assoc3 a b c r = append_assoc (a ++ b) c r ∙ append_assoc a b (c ++ r)

pub assoc4 : (a b c d r : List ℕ) → a ++ b ++ c ++ d ++ r ≡ a ++ (b ++ (c ++ (d ++ r)))
assoc4 a b c d r = append_assoc (a ++ b ++ c) d r ∙ assoc3 a b c (d ++ r)

pub assoc5 : (a b c d e r : List ℕ) → a ++ b ++ c ++ d ++ e ++ r ≡ a ++ (b ++ (c ++ (d ++ (e ++ r))))
assoc5 a b c d e r = append_assoc (a ++ b ++ c ++ d) e r ∙ assoc4 a b c d (e ++ r)

pub assoc7 : (a b c d e f g r : List ℕ) → a ++ b ++ c ++ d ++ e ++ f ++ g ++ r ≡ a ++ (b ++ (c ++ (d ++ (e ++ (f ++ (g ++ r))))))
assoc7 a b c d e f g r = append_assoc (a ++ b ++ c ++ d ++ e ++ f) g r ∙ append_assoc (a ++ b ++ c ++ d ++ e) f (g ++ r) ∙ assoc5 a b c d e (f ++ (g ++ r))

-- a test of a number, and what it says
pub from_nat_le : (a b : ℕ) → nat_le a b ≡ true → a ≤ b
from_nat_le a b h = grind (arith, nat_tests)

pub both : (a b : Bool) → a ≡ true → b ≡ true → (a && b) ≡ true
both a b p q = λ i. p i && q i
