-- Pasts that end with an older one: what a turn leads on to.
use Rattle.std.proofs.Common.{◌≡◌, List, [], ◌∷◌, ◌++◌, refl, sym, ◌∙◌, ap}
use Rattle.std.proofs.lemmas.List.{append_assoc}
use Rattle.chorus_entry.specs.declared.entry.Entry.{Entry}

-- new entries stand in front of the old past
abbrev pub IsNewer : List Entry → List Entry → Type 0
IsNewer now old = (newer : List Entry) × (now ≡ newer ++ old)

pub newer-same : (past : List Entry) → IsNewer past past
newer-same past = ([], refl)

pub newer-one : (e : Entry) (past : List Entry) → IsNewer (e ∷ past) past
newer-one e past = (e ∷ [], refl)

pub newer-both : (now mid old : List Entry) → IsNewer now mid → IsNewer mid old → IsNewer now old
newer-both now mid old a b = (a.0 ++ b.0, a.1 ∙ (ap (λ es. a.0 ++ es) b.1 ∙ sym (append_assoc a.0 b.0 old)))

-- there is a past that ends with the old one, and for which P holds
abbrev pub Onward : (List Entry → Type 0) → List Entry → Type 0
Onward P old = (now : List Entry) × (IsNewer now old × P now)

pub stay : (P : List Entry → Type 0) (past : List Entry) → P past → Onward P past
stay P past h = (past, (newer-same past, h))

pub step : (P : List Entry → Type 0) (e : Entry) (past : List Entry) → P (e ∷ past) → Onward P past
step P e past h = (e ∷ past, (newer-one e past, h))

-- one after the other
pub then : (P Q : List Entry → Type 0) (old : List Entry) → Onward P old → ((now : List Entry) → P now → Onward Q now) → Onward Q old
then P Q old h next =
    let n = next h.0 h.1.1 in
    (n.0, (newer-both n.0 h.0 old n.1.0 h.1.0, n.1.1))

pub maps : (P Q : List Entry → Type 0) (old : List Entry) → Onward P old → ((now : List Entry) → P now → Q now) → Onward Q old
maps P Q old h f = (h.0, (h.1.0, f h.0 h.1.1))
