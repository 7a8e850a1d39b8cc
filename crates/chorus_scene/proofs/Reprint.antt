-- The fields of a line, with its body printed in the one way, are cut off as before.
use Rattle.std.proofs.Common.{◌≡◌, ℕ, zero, suc, ◌+◌, ◌<◌, true, List, [], ◌∷◌, ◌++◌, length, Option, Some, None, refl, sym, ap, ◌∙◌, arith}
use Rattle.std.specs.Prelude.{unwrap_or}
use Rattle.chorus_lines.specs.Text.{cut, fields, each_byte}
use Rattle.chorus_lines.specs.Body.{body_in, body_text}
use Rattle.chorus_scene.proofs.Spelled.{lacks, cut_join, cut_lacks}

-- a body in its one way
abbrev pub reprint : List ℕ → List ℕ
reprint text = body_text (unwrap_or (body_in text) [])

-- the last field is a body
abbrev pub last_reprinted : List (List ℕ) → List (List ℕ)
last_reprinted [] = []
last_reprinted (f ∷ []) = reprint f ∷ []
last_reprinted (f ∷ g ∷ fs) = f ∷ last_reprinted (g ∷ fs)

some_fields : (n : ℕ) (text : List ℕ) → 0 < length (fields n (Some text))
some_fields zero text = omega arith
some_fields (suc n) text = omega arith

later : (f : List ℕ) (gs : List (List ℕ)) → 0 < length gs → last_reprinted (f ∷ gs) ≡ f ∷ last_reprinted gs
later f [] some = absurd (omega arith)
later f (g ∷ gs) some = refl

swap_by : (n : ℕ) → ((text : List ℕ) → length (fields n (Some text)) ≡ n + 1 → (r : List ℕ) × (fields n (Some r) ≡ last_reprinted (fields n (Some text))))
    → (a : List ℕ) (rest : Option (List ℕ)) → each_byte (lacks 32) a ≡ true → length (a ∷ fields n rest) ≡ suc n + 1 → (r : List ℕ) × (fields (suc n) (Some r) ≡ last_reprinted (a ∷ fields n rest))
swap_by n go a None out e = absurd (omega arith)
swap_by n go a (Some text) out e =
    let p = go text (omega arith) in
    let joined = cut_join 32 a p.0 out in
    (a ++ 32 ∷ p.0, rw joined (ap (λ fs. a ∷ fs) p.1 ∙ sym (later a (fields n (Some text)) (some_fields n text))))

pub swap : (n : ℕ) (text : List ℕ) → length (fields n (Some text)) ≡ n + 1 → (r : List ℕ) × (fields n (Some r) ≡ last_reprinted (fields n (Some text)))
swap zero text e = (reprint text, refl)
swap (suc n) text e = swap_by n (swap n) (cut 32 text).0 (cut 32 text).1 (cut_lacks 32 text) e
