-- How many commands each seat gave, counted entry by entry.
use Rattle.std.proofs.Common.{◌≡◌, ℕ, suc, ◌+◌, ◌==◌, Bool, true, false, ◌&&◌, cond, Some, unwrap_or, List, [], ◌∷◌, length, refl, ap, ◌∙◌, arith}
use Rattle.std.specs.Cmp.{unsigned_tied}
use Rattle.std.specs.List.{filter}
use Rattle.std.specs.Ordering.{nat_cmp}
use Rattle.std.specs.BTreeMap.{BTreeMap, get, is_at}
use Rattle.std.proofs.lemmas.Bool.{eqb-true}
use Rattle.chorus_entry.specs.declared.entry.Entry.{Entry}
use Rattle.chorus_entry.specs.Act.{is_command_entry}
use Rattle.chorus_world.specs.Commands.{is_own_of}
use Rattle.chorus_audit.specs.Stuck.{commands_of, given_by, AreGiven}

module _ (k : ℕ) (e : Entry) (more : List Entry) where
  -- of an entry that answers no command
  by_other : (a b : Bool) → b ≡ false → length (cond (a && b) (e ∷ filter (is_own_of k) more) (filter (is_own_of k) more)) ≡ commands_of k more
  by_other true b h = ap (λ t. length (cond t (e ∷ filter (is_own_of k) more) (filter (is_own_of k) more))) h
  by_other false b h = refl

  pub other_same : is_command_entry e.act ≡ false → commands_of k (e ∷ more) ≡ commands_of k more
  other_same h = by_other (e.seat == k) (is_command_entry e.act) h

  -- of one that does
  by_own : (a b : Bool) → b ≡ true → length (cond (a && b) (e ∷ filter (is_own_of k) more) (filter (is_own_of k) more)) ≡ cond a (suc (commands_of k more)) (commands_of k more)
  by_own true b h = ap (λ t. length (cond t (e ∷ filter (is_own_of k) more) (filter (is_own_of k) more))) h
  by_own false b h = refl

  own_more : is_command_entry e.act ≡ true → commands_of k (e ∷ more) ≡ cond (e.seat == k) (suc (commands_of k more)) (commands_of k more)
  own_more h = by_own (e.seat == k) (is_command_entry e.act) h

  pub own_counted : (old new : BTreeMap ℕ ℕ) (n : ℕ) → is_command_entry e.act ≡ true → n ≡ given_by old e.seat + 1 → ((q : ℕ) → get nat_cmp new q ≡ cond (is_at (nat_cmp e.seat) q) (Some n) (get nat_cmp old q))
      → given_by new k + commands_of k more ≡ given_by old k + commands_of k (e ∷ more)
  own_counted old new n own n_is updates = by (e.seat == k) refl
    where
      found : given_by new k ≡ unwrap_or (cond (e.seat == k) (Some n) (get nat_cmp old k)) 0
      found = ap (λ o. unwrap_or o 0) (updates k) ∙ ap (λ t. unwrap_or (cond t (Some n) (get nat_cmp old k)) 0) (unsigned_tied e.seat k)

      by : (t : Bool) → (e.seat == k) ≡ t → given_by new k + commands_of k more ≡ given_by old k + commands_of k (e ∷ more)
      by true same =
          let now = found ∙ ap (λ t. unwrap_or (cond t (Some n) (get nat_cmp old k)) 0) same in
          let seat = ap (λ s. given_by old s) (eqb-true e.seat k same) in
          let rest = own_more own ∙ ap (λ t. cond t (suc (commands_of k more)) (commands_of k more)) same in
          omega (arith, now, n_is, seat, rest)
      by false other =
          let now = found ∙ ap (λ t. unwrap_or (cond t (Some n) (get nat_cmp old k)) 0) other in
          let rest = own_more own ∙ ap (λ t. cond t (suc (commands_of k more)) (commands_of k more)) other in
          omega (arith, now, rest)

-- the table so far and the entries that are left
pub record Sofar (table : BTreeMap ℕ ℕ) (es left : List Entry) : Type 0 where
  pub sums : (k : ℕ) → given_by table k + commands_of k left ≡ commands_of k es

pub all_counted : (table : BTreeMap ℕ ℕ) (es left : List Entry) → Sofar table es left → left ≡ [] → AreGiven table es
all_counted table es left h none = λ k. omega (arith, h.sums k, ap (λ xs. commands_of k xs) none)
