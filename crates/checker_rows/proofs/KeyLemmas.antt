-- Equal keys.
use Rattle.std.proofs.Common.{ℕ, ◌≡◌, ◌==◌, Bool, true, false, ◌&&◌, Option, Some, None, refl, sym, ◌∙◌, ap}
use Rattle.std.specs.Option.{option_eq}
use Rattle.std.proofs.lemmas.Bool.{and_parts, eqb-true, false≢true}
use Rattle.chorus_ui.specs.declared.ui.Ui.{Ui}
use Rattle.chorus_ui.specs.Name.{same_ui}
use Rattle.chorus_ui.proofs.Names.{from_same_ui, same_ui-self}
use Rattle.checker_rows.specs.Keys.{same_name_at, same_line}
use Rattle.checker_rows.specs.declared.keys.NameAt.{NameAt}
use Rattle.checker_rows.specs.declared.keys.LineKey.{LineKey}

-- the order does not matter
pub ui_sym : (u v : Ui) → same_ui u v ≡ same_ui v u
ui_sym u v = go (same_ui u v) (same_ui v u) refl refl
  where
    go : (a b : Bool) → same_ui u v ≡ a → same_ui v u ≡ b → same_ui u v ≡ same_ui v u
    go true b h k = h ∙ sym (ap (same_ui v) (from_same_ui u v h) ∙ same_ui-self v)
    go false true h k = ap (same_ui u) (from_same_ui v u k) ∙ (same_ui-self u ∙ sym k)
    go false false h k = h ∙ sym k

name_at : (p q : ℕ) (x y : Ui) → p ≡ q → x ≡ y → (let k : NameAt = record { place = p; name = x } in k) ≡ record { place = q; name = y }
name_at p q x y a b = cc

line : (p q : ℕ) (x y : Ui) (r s : Option Ui) → p ≡ q → x ≡ y → r ≡ s → (let k : LineKey = record { place = p; name = x; route = r } in k) ≡ record { place = q; name = y; route = s }
line p q x y r s a b c = cc

pub from_same_name_at : (k l : NameAt) → same_name_at k l ≡ true → k ≡ l
from_same_name_at k l h =
    let two = and_parts (k.place == l.place) (same_ui k.name l.name) h in
    name_at _ _ _ _ (eqb-true k.place l.place two.0) (from_same_ui k.name l.name two.1)

from_route : (r s : Option Ui) → option_eq same_ui r s ≡ true → r ≡ s
from_route None None h = refl
from_route None (Some b) h = absurd (false≢true h)
from_route (Some a) None h = absurd (false≢true h)
from_route (Some a) (Some b) h = ap Some (from_same_ui a b h)

pub from_same_line : (k l : LineKey) → same_line k l ≡ true → k ≡ l
from_same_line k l h =
    let two = and_parts (k.place == l.place) (same_ui k.name l.name && option_eq same_ui k.route l.route) h in
    let one = and_parts (same_ui k.name l.name) (option_eq same_ui k.route l.route) two.1 in
    line _ _ _ _ _ _ (eqb-true k.place l.place two.0) (from_same_ui k.name l.name one.0) (from_route k.route l.route one.1)
