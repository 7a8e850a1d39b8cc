-- What entries say: which acts stand in a list of them.
use Rattle.std.proofs.Common.{◌≡◌, List, [], ◌∷◌, ◌++◌, reverse, refl, sym, ◌∙◌, ap, subst, inl, inr, ◌⊎◌, append_assoc}
use Rattle.std.specs.List.{All}
use Rattle.std.proofs.lemmas.List.{reverse-append, reverse-reverse}
use Rattle.std.proofs.lemmas.List.Elements.{All-head, All-tail}
use Rattle.chorus_entry.specs.declared.entry.Entry.{Entry}
use Rattle.chorus_entry.specs.declared.act.Act.{Act}
use Rattle.law_replies.specs.Replies.{Says}

pub says-now : (e : Entry) (es : List Entry) (a : Act) → e.act ≡ a → Says (e ∷ es) a
says-now e es a is = (e, (record { newer = []; older = es; is = refl }, is))

pub says-behind : (xs ys : List Entry) (a : Act) → Says ys a → Says (xs ++ ys) a
says-behind xs ys a s =
    let t = s.1.0 in
    (s.0, (record { newer = xs ++ t.newer; older = t.older; is = ap (λ zs. xs ++ zs) t.is ∙ sym (append_assoc xs t.newer (s.0 ∷ t.older)) }, s.1.1))

pub says-front : (xs ys : List Entry) (a : Act) → Says xs a → Says (xs ++ ys) a
says-front xs ys a s =
    let t = s.1.0 in
    (s.0, (record { newer = t.newer; older = t.older ++ ys; is = ap (λ zs. zs ++ ys) t.is ∙ append_assoc t.newer (s.0 ∷ t.older) ys }, s.1.1))

parts : (e : Entry) (es newer older : List Entry) (f : Entry) (a : Act) → e ∷ es ≡ newer ++ f ∷ older → f.act ≡ a → (e.act ≡ a) ⊎ Says es a
parts e es [] older f a h is = inl (let same : e ≡ f = cc in ap (λ (z : Entry). z.act) same ∙ is)
parts e es (n ∷ newer) older f a h is = inr (let rest : es ≡ newer ++ f ∷ older = cc in (f, (record { newer = newer; older = older; is = rest }, is)))

pub says-one-of : (e : Entry) (es : List Entry) (a : Act) → Says (e ∷ es) a → (e.act ≡ a) ⊎ Says es a
says-one-of e es a s = let t = s.1.0 in parts e es t.newer t.older s.0 a t.is s.1.1

none : (newer older : List Entry) (f : Entry) → [] ≡ newer ++ f ∷ older → ⊥
none [] older f h = cc
none (n ∷ newer) older f h = cc

pub says-nothing : (a : Act) → Says [] a → ⊥
says-nothing a s = let t = s.1.0 in none t.newer t.older s.0 t.is

pub says-either : (xs ys : List Entry) (a : Act) → Says (xs ++ ys) a → Says xs a ⊎ Says ys a
says-either [] ys a s = inr s
says-either (x ∷ xs) ys a s =
    elim (says-one-of x (xs ++ ys) a s) [
      | inl now ↦ inl (says-now x xs a now)
      | inr later ↦ elim (says-either xs ys a later) [
        | inl front ↦ inl (says-behind (x ∷ []) xs a front)
        | inr behind ↦ inr behind
      ]
    ]

pub says-only : (e : Entry) (a : Act) → Says (e ∷ []) a → e.act ≡ a
says-only e a s =
    elim (says-one-of e [] a s) [
      | inl now ↦ now
      | inr later ↦ absurd (says-nothing a later)
    ]

pub all-says : (P : Act → Type 0) (es : List Entry) (a : Act) → All (λ (e : Entry). P e.act) es → Says es a → P a
all-says P [] a h s = absurd (says-nothing a s)
all-says P (e ∷ es) a h s =
    elim (says-one-of e es a s) [
      | inl now ↦ subst P now (All-head (λ (e : Entry). P e.act) e es h)
      | inr later ↦ all-says P es a (All-tail (λ (e : Entry). P e.act) e es h) later
    ]

-- the same entries the other way round
pub says-reversed : (es : List Entry) (a : Act) → Says es a → Says (reverse es) a
says-reversed es a s =
    let t = s.1.0 in
    let turned : reverse es ≡ reverse t.older ++ s.0 ∷ reverse t.newer =
    ap reverse t.is ∙ (reverse-append t.newer (s.0 ∷ t.older) ∙ (ap (λ zs. zs ++ reverse t.newer) (reverse-append (s.0 ∷ []) t.older) ∙ append_assoc (reverse t.older) (s.0 ∷ []) (reverse t.newer))) in
    (s.0, (record { newer = reverse t.older; older = reverse t.newer; is = turned }, s.1.1))

pub says-back : (es : List Entry) (a : Act) → Says (reverse es) a → Says es a
says-back es a s = subst (λ zs. Says zs a) (reverse-reverse es) (says-reversed (reverse es) a s)
