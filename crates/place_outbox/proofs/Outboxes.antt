-- What each outbox keeps, after each call.
use Rattle.std.proofs.Common.{◌≡◌, ℕ, ◌+◌, ◌-◌, ◌<◌, ◌≤◌, Option, Some, None, IfSome, zero, suc, List, [], length, get_or, set, replicate, refl, sym, ◌∙◌, ap, subst, arith}
use Rattle.std.proofs.lemmas.List.{length-set, get_or_default, get_or_past, set-get_or}
use Rattle.chorus_entry.specs.declared.packet.Packet.{Packet}
use Rattle.place_outbox.specs.Waiting.{Pooled, list_to, with_last, without_first, count, nothing_to}
use Rattle.place_outbox.specs.Fronts.{with_fronts, fronts, IsOutbox}
use Rattle.place_outbox.proofs.Fronts.{length-fronts, count-fronts, front-less, count-less, count-last, no-fronts, fronts-none, count-none, front-more}

pub here : (os : List (Option Packet)) (p : ℕ) (o v : Option Packet) → p < length os → o ≡ get_or os p o → o ≡ v → get_or os p None ≡ v
here os p o v l e f = get_or_default os p None o l ∙ sym e ∙ f

-- how many places there are
pub within : (os : List (Option Packet)) (pool : Pooled) (back p : ℕ) (ls : List (List Packet)) → IsOutbox os pool back → with_fronts os pool.lists ≡ ls
    → length ls ≡ length os
within os pool back p ls h e = sym (ap length e) ∙ length-fronts os pool.lists h.places

pub past : (ls : List (List Packet)) (p : ℕ) → length ls ≤ p → list_to p ls ≡ []
past ls p l = get_or_past ls p [] l

pub waits : (os : List (Option Packet)) (pool : Pooled) (back : ℕ) (ls : List (List Packet)) → IsOutbox os pool back → with_fronts os pool.lists ≡ ls
    → count pool.lists + back ≡ count ls
waits os pool back ls h e =
    let a = h.counted in
    let b = count-fronts os pool.lists h.places in
    let c : count (with_fronts os pool.lists) ≡ count ls = ap count e in
    omega (arith, a, b, c)

pub put-outbox : (os : List (Option Packet)) (pool pool' : Pooled) (back p : ℕ) (x : Packet) → IsOutbox os pool back → pool'.lists ≡ with_last p x pool.lists
    → pool'.puts ≡ pool.puts + 1 → pool.puts + 1 < 18446744073709551616 → IsOutbox os pool' back
put-outbox os pool pool' back p x h e f g = record {
  places = h.places ∙ sym (length-set pool.lists p _) ∙ sym (ap length e);
  counted = h.counted;
  at_most = (let a = h.at_most in let b = count-last pool.lists p x in let c = ap count e in omega (arith, a, b, c, f));
  fits = omega (arith, f, g);
}

pub some-outbox : (os : List (Option Packet)) (pool : Pooled) (back p : ℕ) (v : Packet) (o : Option Packet) → IsOutbox os pool back
    → get_or os p None ≡ Some v → o ≡ None → IsOutbox (set os p o) pool (back - 1)
some-outbox os pool back p v o h e n =
    let a = front-less os p v e in
    let f : fronts (set os p o) ≡ fronts (set os p None) = ap (λ x. fronts (set os p x)) n in
    let b = h.counted in
    let c = h.at_most in
    record {
      places = length-set os p o ∙ h.places;
      counted = omega (arith, a, b, f);
      at_most = omega (arith, a, c, f);
      fits = h.fits;
    }

pub still-none : (os : List (Option Packet)) (p : ℕ) (o : Option Packet) → get_or os p None ≡ None → o ≡ None → set os p o ≡ os
still-none os p o e n = ap (set os p) (n ∙ sym e) ∙ set-get_or os p None

pub none-outbox : (os : List (Option Packet)) (pool pool' : Pooled) (back p : ℕ) (o : Option Packet) → IsOutbox os pool back
    → get_or os p None ≡ None → o ≡ None → pool'.lists ≡ without_first p pool.lists → pool'.puts ≡ pool.puts → IsOutbox (set os p o) pool' back
none-outbox os pool pool' back p o h e n f g =
    subst (λ xs. IsOutbox xs pool' back) (sym (still-none os p o e n)) record {
      places = h.places ∙ sym (length-set pool.lists p _) ∙ sym (ap length f);
      counted = h.counted;
      at_most = (let a = h.at_most in let b = count-less pool.lists p in let c = ap count f in omega (arith, a, b, c, g));
      fits = (let a = h.fits in omega (arith, a, g));
    }

pub back-outbox : (os : List (Option Packet)) (pool : Pooled) (back p : ℕ) (v : Packet) → IsOutbox os pool back → p < length os
    → get_or os p None ≡ None → count (with_fronts os pool.lists) < pool.puts → IsOutbox (set os p (Some v)) pool (back + 1)
back-outbox os pool back p v h l e f =
    let a = front-more os p v l e in
    let b = h.counted in
    let c = count-fronts os pool.lists h.places in
    record {
      places = length-set os p (Some v) ∙ h.places;
      counted = omega (arith, a, b);
      at_most = omega (arith, a, c, f);
      fits = h.fits;
    }

pub new-outbox : (os : List (Option Packet)) (pool : Pooled) (n : ℕ) → os ≡ replicate (n + 1) None → pool.lists ≡ nothing_to n → pool.puts ≡ 0 → IsOutbox os pool 0
new-outbox os pool n e f g = record {
  places = ap length e ∙ same (n + 1) ∙ sym (ap length f);
  counted = sym (ap fronts e ∙ fronts-none (n + 1));
  at_most = (let a = ap fronts e ∙ fronts-none (n + 1) in let b = ap count f ∙ count-none (n + 1) in omega (arith, a, b));
  fits = omega (arith, g);
}
  where
    nobody : Option Packet
    nobody = None

    nothing : List Packet
    nothing = []

    same : (k : ℕ) → length (replicate k nobody) ≡ length (replicate k nothing)
    same zero = refl
    same (suc k) = ap suc (same k)

pub new-lists : (os : List (Option Packet)) (pool : Pooled) (n : ℕ) → os ≡ replicate (n + 1) None → pool.lists ≡ nothing_to n → with_fronts os pool.lists ≡ nothing_to n
new-lists os pool n e f = ap (λ xs. with_fronts xs pool.lists) e ∙ ap (with_fronts (replicate (n + 1) None)) f ∙ no-fronts (n + 1)

pub if-some : (r : Option Packet) (P : Type 0) → ((v : Packet) → r ≡ Some v → P) → IfSome r (λ v. P)
if-some None P h = tt
if-some (Some v) P h = h v refl
