-- A text that is appended piece by piece.
use Rattle.std.proofs.Common.{◌≡◌, ℕ, List, ◌++◌, ap, sym, ◌∙◌, append_assoc}

-- the text is what is appended in two pieces
pub joined : (o a m b text : List ℕ) → m ≡ o ++ a → text ≡ a ++ b → m ++ b ≡ o ++ text
joined o a m b text one is = ap (λ t. t ++ b) one ∙ append_assoc o a b ∙ ap (λ t. o ++ t) (sym is)

pub two : (o a b m n : List ℕ) → m ≡ o ++ a → n ≡ m ++ b → n ≡ o ++ (a ++ b)
two o a b m n one more = more ∙ ap (λ t. t ++ b) one ∙ append_assoc o a b

pub three : (o a b c m n w : List ℕ) → m ≡ o ++ a → n ≡ m ++ b → w ≡ n ++ c → w ≡ o ++ ((a ++ b) ++ c)
three o a b c m n w one more last = two o (a ++ b) c n w (two o a b m n one more) last

pub four : (o a b c d m n v w : List ℕ) → m ≡ o ++ a → n ≡ m ++ b → v ≡ n ++ c → w ≡ v ++ d → w ≡ o ++ (((a ++ b) ++ c) ++ d)
four o a b c d m n v w one more next last =
    two o ((a ++ b) ++ c) d v w (three o a b c m n v one more next) last

-- the same with what is left to the right
pub three_right : (o a b c m n w : List ℕ) → m ≡ o ++ a → n ≡ m ++ b → w ≡ n ++ c → w ≡ o ++ (a ++ (b ++ c))
three_right o a b c m n w one more last = two o a (b ++ c) m w one (two m b c n w more last)

pub four_right : (o a b c d m n v w : List ℕ) → m ≡ o ++ a → n ≡ m ++ b → v ≡ n ++ c → w ≡ v ++ d → w ≡ o ++ (a ++ (b ++ (c ++ d)))
four_right o a b c d m n v w one more next last = two o a (b ++ (c ++ d)) m w one (three_right m b c d n v w more next last)

pub five_right : (o a b c d e m n u v w : List ℕ) → m ≡ o ++ a → n ≡ m ++ b → u ≡ n ++ c → v ≡ u ++ d → w ≡ v ++ e → w ≡ o ++ (a ++ (b ++ (c ++ (d ++ e))))
five_right o a b c d e m n u v w one more next late last = two o a (b ++ (c ++ (d ++ e))) m w one (four_right m b c d e n u v w more next late last)

-- what stands behind such pieces
pub three_then : (a b c r : List ℕ) → (a ++ (b ++ c)) ++ r ≡ a ++ (b ++ (c ++ r))
three_then a b c r = append_assoc a (b ++ c) r ∙ ap (λ t. a ++ t) (append_assoc b c r)

pub five_then : (a b c d e r : List ℕ) → (a ++ (b ++ (c ++ (d ++ e)))) ++ r ≡ a ++ (b ++ (c ++ (d ++ (e ++ r))))
five_then a b c d e r =
    append_assoc a (b ++ (c ++ (d ++ e))) r ∙ ap (λ t. a ++ t) (append_assoc b (c ++ (d ++ e)) r)
    ∙ ap (λ t. a ++ (b ++ t)) (three_then c d e r)

pub six_then : (a b c d e f r : List ℕ) → (a ++ (b ++ (c ++ (d ++ (e ++ f))))) ++ r ≡ a ++ (b ++ (c ++ (d ++ (e ++ (f ++ r)))))
six_then a b c d e f r =
    append_assoc a (b ++ (c ++ (d ++ (e ++ f)))) r ∙ ap (λ t. a ++ t) (append_assoc b (c ++ (d ++ (e ++ f))) r)
    ∙ ap (λ t. a ++ (b ++ t)) (append_assoc c (d ++ (e ++ f)) r) ∙ ap (λ t. a ++ (b ++ (c ++ t))) (three_then d e f r)
