-- A text has some words.
use Rattle.std.proofs.Common.{◌≡◌, ℕ, ◌==◌, Bool, true, false, cond, Option, Some, None, option_map, List, [], ◌∷◌, ◌++◌, length, refl, sym, ap, ◌∙◌, append_assoc, append-nil, arith}
use Rattle.std.specs.List.{All, onto_first}
use Rattle.std.proofs.lemmas.Bool.{eqb-true}
use Rattle.std.proofs.lemmas.List.Elements.{All-append, All-cons}
use Rattle.chorus_show.specs.Reading.{parts, first, rest, onto, each}

onto_cons : (c : ℕ) (ps : List (List ℕ)) → onto_first c ps ≡ first (onto_first c ps) ∷ rest (onto_first c ps)
onto_cons c [] = refl
onto_cons c (p ∷ ps) = refl

cond_cons : (b : Bool) (ps qs : List (List ℕ)) → ps ≡ first ps ∷ rest ps → qs ≡ first qs ∷ rest qs → cond b ps qs ≡ first (cond b ps qs) ∷ rest (cond b ps qs)
cond_cons true ps qs h k = h
cond_cons false ps qs h k = k

pub parts_cons : (text : List ℕ) → parts 32 text ≡ first (parts 32 text) ∷ rest (parts 32 text)
parts_cons [] = refl
parts_cons (c ∷ cs) = cond_cons (c == 32) _ (onto_first c (parts 32 cs)) refl (onto_cons c (parts 32 cs))

none_empty : (ps : List (List ℕ)) → ps ≡ first ps ∷ rest ps → false ≡ (length ps == 0)
none_empty ps h = by (length ps == 0) refl
  where
    by : (b : Bool) → (length ps == 0) ≡ b → false ≡ b
    by true e = absurd (omega (arith, eqb-true (length ps) 0 e, ap length h))
    by false e = refl

pub some_word : (text : List ℕ) → false ≡ (length (parts 32 text) == 0)
some_word text = none_empty (parts 32 text) (parts_cons text)

-- what the words say, as far as they were read
module _ {A : Type 0} (said : List ℕ → Option A) (allowed : A → Type 0) where
  pub record EachSofar (all : List (List ℕ)) (values : List A) (left : List (List ℕ)) : Type 0 where
    pub is : each said all ≡ option_map (λ more. values ++ more) (each said left)
    pub are : All allowed values

  onto_end : (values : List A) (v : A) (o : Option (List A)) → option_map (λ more. values ++ more) (onto (Some v) o) ≡ option_map (λ more. (values ++ v ∷ []) ++ more) o
  onto_end values v (Some more) = ap Some (sym (append_assoc values (v ∷ []) more))
  onto_end values v None = refl

  whole : (o : Option (List A)) → o ≡ option_map (λ more. more) o
  whole (Some more) = refl
  whole None = refl

  pub each_first : (all : List (List ℕ)) → EachSofar all [] all
  each_first all = record { is = whole (each said all); are = λ k e h. absurd (omega arith) }

  pub each_next : (all : List (List ℕ)) (values : List A) (left : List (List ℕ)) (v : A) → EachSofar all values left → left ≡ first left ∷ rest left → said (first left) ≡ Some v → allowed v → EachSofar all (values ++ v ∷ []) (rest left)
  each_next all values left v h cons e k = record {
    is =
        h.is
        ∙ ap (λ ws. option_map (λ more. values ++ more) (each said ws)) cons
        ∙ ap (λ o. option_map (λ more. values ++ more) (onto o (each said (rest left)))) e
        ∙ onto_end values v (each said (rest left));
    are = All-append allowed values (v ∷ []) h.are (All-cons allowed v [] k (λ j d less. absurd (omega arith)));
  }

  pub each_last : (all : List (List ℕ)) (values : List A) (left : List (List ℕ)) → EachSofar all values left → left ≡ [] → each said all ≡ Some values
  each_last all values left h none = h.is ∙ ap (λ ws. option_map (λ more. values ++ more) (each said ws)) none ∙ ap Some (append-nil values)

  pub each_none : (all : List (List ℕ)) (values : List A) (left : List (List ℕ)) → EachSofar all values left → left ≡ first left ∷ rest left → said (first left) ≡ None → each said all ≡ None
  each_none all values left h cons e =
      h.is
      ∙ ap (λ ws. option_map (λ more. values ++ more) (each said ws)) cons
      ∙ ap (λ o. option_map (λ more. values ++ more) (onto o (each said (rest left)))) e

  pub some_left : (ws : List (List ℕ)) → (length ws == 0) ≡ false → ws ≡ first ws ∷ rest ws
  some_left [] h = grind arith
  some_left (w ∷ ws) h = refl

  pub none_left : (ws : List (List ℕ)) → (length ws == 0) ≡ true → ws ≡ []
  none_left [] h = refl
  none_left (w ∷ ws) h = absurd (omega (arith, eqb-true (length (w ∷ ws)) 0 h))
