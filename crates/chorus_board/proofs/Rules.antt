-- Reads, publishes and notes keep the rule of what is published.
use Rattle.std.proofs.Common.{◌≡◌, ◌≢◌, ℕ, true, true≢false, List, [], ◌∷◌, ◌++◌, set, refl, ap, sym, ◌∙◌, subst, ⊎_elim}
use mathlib.Core.Option.{some, some-ne-none}
use lib.ListN.{get_elem?}
use Rattle.left_right.specs.Register.{Admits, Turns, TurnsAt, Forks, Merges}
use Rattle.atomic_table.proofs.Lists.{at_set, at_snoc, set_again}
use Rattle.chorus_board.specs.declared.rule.Home.{Home}
use Rattle.chorus_board.specs.declared.table.Table.{Table}
use Rattle.chorus_board.specs.Table.{Fine}
use Rattle.chorus_board.specs.Rule.{Kept, Knows, home_of, stranger, sees, shows}

abbrev All : Table → List Home → Type 0
All t views = (seat : ℕ) (v : Home) → get_elem? views seat ≡ some v → v.knows ≡ true → Knows v t

all_set : (t : Table) (views : List Home) (seat : ℕ) (w : Home) → All t views → (w.knows ≡ true → Knows w t) → All t (set views seat w)
all_set t views seat w h mine j u e k = ⊎_elim (λ (x : (j ≡ seat) × (w ≡ u)). subst (λ (y : Home). Knows y t) x.1 (mine (ap (λ (y : Home). y.knows) x.1 ∙ k)))
    (λ (x : (j ≢ seat) × (get_elem? views j ≡ some u)). h j u x.1 k) (at_set views seat j w u e)

all_snoc : (t : Table) (views : List Home) (w : Home) → All t views → (w.knows ≡ true → Knows w t) → All t (views ++ w ∷ [])
all_snoc t views w h mine j u e k = ⊎_elim (λ (x : get_elem? views j ≡ some u). h j u x k) (λ (x : w ≡ u). subst (λ (y : Home). Knows y t) x (mine (ap (λ (y : Home). y.knows) x ∙ k))) (at_snoc views w u j e)

unknowing : (t : Table) → stranger.knows ≡ true → Knows stranger (t)
unknowing t k = absurd (true≢false (sym k))

pub admits : Admits Kept stranger
admits t views h = (h.0, all_snoc t views stranger h.1 (unknowing t))

pub begins : (t : Table) → Fine t → Kept t (stranger ∷ [])
begins t fine = (fine, all_snoc t [] stranger (λ j u e. absurd (some-ne-none u (sym e))) (unknowing t))

pub reads : (seat : ℕ) (v : Home) → Turns Kept seat v (λ x. x) sees
reads seat v t views h at = (v, subst (Kept t) (sym (set_again views seat v at)) h, (refl, h.0, h.1 seat v at))

pub turns : (seat : ℕ) (v : Home) (t next : Table) → Fine next → next.seen.book ≡ t.seen.book → next.hints.layout ≡ t.hints.layout → next.place ≡ t.place → TurnsAt Kept seat v t next shows
turns seat v t next fine book len place views h at = let w = home_of next.seen.book next.hints.layout next.place in
    (w, (fine, all_set next views seat w (λ j u e k. h.1 j u e k ∙ (λ i. home_of (sym book i) (sym len i) (sym place i))) (λ _. refl)), refl)

pub forks : (seat : ℕ) (v : Home) → Forks Kept seat v v v
forks seat v t views h at = (h.0, all_snoc t (set views seat v) v (all_set t views seat v h.1 (h.1 seat v at)) (h.1 seat v at))

pub merges : (seat : ℕ) (v : Home) (other : ℕ) (w : Home) → Merges Kept seat v other w w stranger
merges seat v other w t views h at apart there =
    let was : get_elem? views other ≡ some w = ⊎_elim (λ x. absurd (apart x.0)) (λ x. x.1) (at_set views seat other w w there) in
    (h.0, all_set t (set views seat w) other stranger (all_set t views seat w h.1 (h.1 other w was)) (unknowing t))

pub turns_after : (seat : ℕ) (v : Home) (t next : Table) (s : Table) → next ≡ s → Fine s × (s.seen.book ≡ t.seen.book) × (s.hints.layout ≡ t.hints.layout) × (s.place ≡ t.place) → TurnsAt Kept seat v t next shows
turns_after seat v t next s is h = turns seat v t next (subst Fine (sym is) h.0) (ap (λ (x : Table). x.seen.book) is ∙ h.1) (ap (λ (x : Table). x.hints.layout) is ∙ h.2) (ap (λ (x : Table). x.place) is ∙ h.3)
