-- Keys that are one have one row.
use Rattle.std.proofs.Common.{◌≡◌, true, cond, Some, unwrap_or, List, [], ◌∷◌, refl, ap, ◌∙◌, rules}
use Rattle.std.specs.Cmp.{IsTotalOrder, IsEquivalence, eq_by_cmp_equiv, then_total, on_total}
use Rattle.std.specs.Cmp.Lexicographic.{options_total}
use Rattle.chorus_ui.specs.Name.{name_cmp}
use Rattle.std.specs.Cmp.Rules.{comparing}
use Rattle.std.specs.Map.{lookup}
use Rattle.place_unsettled.specs.declared.wait.Key.{Key}
use Rattle.place_unsettled.specs.Queues.{Row, row, empty_row, key_cmp, same_key}

name_total : IsTotalOrder name_cmp
name_total = search (comparing, rules)

key_total : IsTotalOrder key_cmp
key_total = then_total (on_total (λ k. k.port) name_total) (on_total (λ k. k.route) (options_total name_total))

pub key_equiv : IsEquivalence same_key
key_equiv = eq_by_cmp_equiv key_total

pub same_key-refl : (k : Key) → same_key k k ≡ true
same_key-refl k = key_equiv.refl k

same_lookup : (rows : List (Key × Row)) (k l : Key) → same_key k l ≡ true → lookup (same_key k) rows ≡ lookup (same_key l) rows
same_lookup [] k l h = refl
same_lookup (r ∷ rows) k l h =
    ap (λ b. cond b (Some r.1) (lookup (same_key k) rows)) (key_equiv.congr k l r.0 h)
    ∙ ap (λ o. cond (same_key l r.0) (Some r.1) o) (same_lookup rows k l h)

pub same_row : (rows : List (Key × Row)) (k l : Key) → same_key k l ≡ true → row rows k ≡ row rows l
same_row rows k l h = ap (λ o. unwrap_or o empty_row) (same_lookup rows k l h)
