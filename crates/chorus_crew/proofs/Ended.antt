-- Passes end in the caller's, one after another.
-- n is the nucleus, a, b and c are the caller's pass at three moments, p is a pass that ends.
use Rattle.std.proofs.Common.{◌≡◌, ℕ, Bool, true, false, ◌&&◌, cond, if◌then◌else◌, Option, Some, None, is_none, List, [], ◌∷◌, ◌++◌, map, length, reverse, refl, sym, ap, ◌∙◌, subst, arith, append_assoc, append-nil}
use Rattle.std.specs.List.{All}
use Rattle.std.specs.Option.{option_or}
use Rattle.std.proofs.lemmas.List.{map-append, reverse-append}
use Rattle.std.proofs.lemmas.List.Elements.{All-nil, All-cons, All-head, All-tail, All-push, All-weaker, All-append}
use Rattle.chorus_turn.specs.declared.knowledge.Knowledge.{Knowledge}
use Rattle.chorus_turn.specs.declared.knowledge.Note.{Note}
use Rattle.chorus_turn.specs.Lists.{somes}
use Rattle.chorus_turn.specs.Knowing.{note_of}
use Rattle.law_closing.specs.Places.{PlaceNote}
use Rattle.chorus_nucleus.proofs.Behind.{more-itself, more-more, shown-more}
use Rattle.chorus_nucleus.specs.declared.nucleus.Nucleus.{Nucleus}
use Rattle.chorus_nucleus.specs.declared.pass.Pass.{Pass}
use Rattle.chorus_nucleus.specs.Passes.{known, caller_of, worn_by, IsPassOf}
use Rattle.chorus_nucleus.specs.Coming.{Retires}
use Rattle.chorus_nucleus.specs.Taking.{SeesMore}
use Rattle.chorus_nucleus.proofs.Trying.{sees-then}
use Rattle.chorus_nucleus.proofs.TakeTurns.{sees-same}
use Rattle.chorus_crew.specs.declared.job.Done.{Done}
use Rattle.chorus_crew.specs.declared.job.Job.{Job}
use Rattle.chorus_crew.specs.declared.folding.Folded.{Folded}
use Rattle.chorus_crew.specs.Endings.{fault_of}
use Rattle.chorus_crew.specs.Jobs.{IsPlain}
use Rattle.chorus_crew.specs.Retiring.{TakesIn, IsFullSlot, passes_of, folded_of, folded_with, is_done, worn_of}

abbrev notes : List Pass → List (Note PlaceNote)
notes ps = map (λ (p : Pass). note_of (known p)) ps

pub takes-in-none : (n : Nucleus) (a : Pass) → IsPassOf n a → TakesIn n a a []
takes-in-none n a is = record {
  pass = is;
  seat = refl;
  keeper = refl;
  made = refl;
  mine = refl;
  caller = more-itself (caller_of a);
  notes = sym (append-nil (known a).notes);
  sees = sees-same (known a) (known a) refl;
  seen = All-nil (λ (p : Pass). SeesMore (known p) (known a));
}

by-keeper : {A : Type 0} (b : Bool) (x y : A) → b ≡ false → (if b then x else y) ≡ y
by-keeper true x y e = absurd (cc)
by-keeper false x y e = refl

pub takes-in-more : (n : Nucleus) (a b c p : Pass) (ended : List Pass) → TakesIn n a b ended → IsPlain n p → Retires n p b c → TakesIn n a c (ended ++ p ∷ [])
takes-in-more n a b c p ended t plain r = record {
  pass = r.pass;
  seat = ap (λ (z : Knowledge PlaceNote). z.seat) r.knows ∙ t.seat;
  keeper = ap (λ (z : Knowledge PlaceNote). z.keeper) r.knows ∙ by-keeper (known p).keeper true (known b).keeper plain.keeper ∙ t.keeper;
  made = ap (λ (z : Knowledge PlaceNote). z.made) r.knows ∙ by-keeper (known p).keeper (known p).made (known b).made plain.keeper ∙ t.made;
  mine = ap (λ (z : Knowledge PlaceNote). z.mine) r.knows ∙ t.mine;
  caller = more-more (caller_of a) (caller_of b) (caller_of c) t.caller (shown-more (caller_of p).last (caller_of b) (caller_of c) r.caller);
  notes = ap (λ (z : Knowledge PlaceNote). z.notes) r.knows ∙ ap (λ zs. (known b).notes ++ (note_of (known p) ∷ zs)) plain.notes ∙ ap (λ zs. zs ++ note_of (known p) ∷ []) t.notes
      ∙ append_assoc (known a).notes (notes ended) (note_of (known p) ∷ []) ∙ ap (λ zs. (known a).notes ++ zs) (sym (map-append (λ (z : Pass). note_of (known z)) ended (p ∷ [])));
  sees = sees-then (known a) (known b) (known c) t.sees (λ k. (r.sees k).0);
  seen = All-push (λ (z : Pass). SeesMore (known z) (known c)) ended p
      (All-weaker (λ (z : Pass). SeesMore (known z) (known b)) (λ (z : Pass). SeesMore (known z) (known c)) (λ z more. sees-then (known z) (known b) (known c) more (λ k. (r.sees k).0)) ended t.seen)
      (λ k. (r.sees k).1);
}

-- Jobs that are done, in their order.

slot-done : {S : Type 0} (a b : Done S) → Some a ≡ Some b → a ≡ b
slot-done a b e = cc

kept-somes : {S : Type 0} → List (Option (Done S)) → List (Done S)
kept-somes [] = []
kept-somes (Some d ∷ slots) = d ∷ kept-somes slots
kept-somes (None ∷ slots) = kept-somes slots

kept-same : {S : Type 0} (xs : List (Done S)) → kept-somes (somes xs) ≡ xs
unfolding kept-somes
kept-same [] = refl
kept-same (x ∷ xs) = ap (λ zs. x ∷ zs) (kept-same xs)

somes-same : {S : Type 0} (xs ys : List (Done S)) → somes xs ≡ somes ys → xs ≡ ys
somes-same xs ys e = sym (kept-same xs) ∙ ap kept-somes e ∙ kept-same ys

worn-append : {S : Type 0} (o : Option ℕ) (xs : List (Done S)) (d : Done S) → worn_of o (xs ++ d ∷ []) ≡ option_or (worn_of o xs) (worn_by d.pass)
worn-append o [] d = refl
worn-append o (x ∷ xs) d = worn-append (option_or o (worn_by x.pass)) xs d

folded-append : {S : Type 0} (xs : List (Done S)) (d : Done S) → folded_of (xs ++ d ∷ []) ≡ folded_of xs ++ folded_with d.port d.tally ∷ []
folded-append [] d = refl
folded-append (x ∷ xs) d = ap (λ zs. folded_with x.port x.tally ∷ zs) (folded-append xs d)

done-append : {S : Type 0} (xs : List (Done S)) (d : Done S) → is_done (xs ++ d ∷ []) ≡ (cond (is_done xs) (is_none (fault_of d.tally.ended)) false)
done-append [] d = by (is_none (fault_of d.tally.ended))
  where
    by : (b : Bool) → (b && true) ≡ b
    by true = refl
    by false = refl
done-append (x ∷ xs) d = by (is_none (fault_of x.tally.ended)) (done-append xs d)
  where
    by : (b : Bool) → is_done (xs ++ d ∷ []) ≡ (cond (is_done xs) (is_none (fault_of d.tally.ended)) false) → (b && is_done (xs ++ d ∷ [])) ≡ (cond (b && is_done xs) (is_none (fault_of d.tally.ended)) false)
    by true e = e
    by false e = refl

-- so far; `front` were retired, and the slots of `rest` are left, turned about
pub record Collected {S : Type 0} (n : Nucleus) (old now : Pass) (all_slots slots : List (Option (Done S))) (folded : List (Folded S)) (all : Bool) : Type 0 where
  pub front : List (Done S)
  pub rest : List (Done S)
  pub whole : all_slots ≡ somes (front ++ rest)
  pub left : slots ≡ reverse (somes rest)
  pub takes_in : TakesIn n old now (passes_of front)
  pub worn : worn_by now ≡ worn_of (worn_by old) front
  pub folded_is : folded ≡ folded_of front
  pub all_is : all ≡ is_done front

full-somes : {S : Type 0} (n : Nucleus) (slots : List (Option (Done S))) → All (IsFullSlot n) slots → (dones : List (Done S)) × (slots ≡ somes dones)
full-somes n [] full = ([], refl)
full-somes n (s ∷ slots) full =
    let here = All-head (IsFullSlot n) s slots full in
    let more = full-somes n slots (All-tail (IsFullSlot n) s slots full) in
    (here.0 ∷ more.0, (λ i. here.1 i ∷ more.1 i))

pub collected-none : {S : Type 0} (n : Nucleus) (a : Pass) (slots turned : List (Option (Done S))) (folded : List (Folded S)) → IsPassOf n a → All (IsFullSlot n) slots → turned ≡ reverse slots → folded ≡ []
    → Collected n a a slots turned folded true
collected-none n a slots turned folded is full e none =
    let f = full-somes n slots full in
    record {
      front = [];
      rest = f.0;
      whole = f.1;
      left = e ∙ ap reverse f.1;
      takes_in = takes-in-none n a is;
      worn = refl;
      folded_is = none;
      all_is = refl;
    }

snoc-parts : {A : Type 0} (xs ys : List A) (x y : A) → xs ++ x ∷ [] ≡ ys ++ y ∷ [] → (xs ≡ ys) × (x ≡ y)
snoc-parts [] [] x y e = (refl, cc)
snoc-parts [] (z ∷ []) x y e = absurd (cc)
snoc-parts [] (z ∷ w ∷ ys) x y e = absurd (cc)
snoc-parts (z ∷ []) [] x y e = absurd (cc)
snoc-parts (z ∷ w ∷ xs) [] x y e = absurd (cc)
snoc-parts (z ∷ xs) (w ∷ ys) x y e =
    let h : z ≡ w = cc in let t : xs ++ x ∷ [] ≡ ys ++ y ∷ [] = cc in let more = snoc-parts xs ys x y t in ((λ i. h i ∷ more.0 i), more.1)

nil-snoc : {A : Type 0} (xs : List A) (x : A) → [] ≡ xs ++ x ∷ [] → ⊥
nil-snoc [] x e = absurd (cc)
nil-snoc (y ∷ xs) x e = absurd (cc)

-- the slot that is popped is that of the first job that is left
popped : {S : Type 0} (rest : List (Done S)) (slots : List (Option (Done S))) (slot : Option (Done S)) → reverse (somes rest) ≡ slots ++ slot ∷ [] → (d : Done S) × (more : List (Done S)) × (rest ≡ d ∷ more) × (slot ≡ Some d) × (slots ≡ reverse (somes more))
popped [] slots slot e = absurd (nil-snoc slots slot e)
popped (d ∷ more) slots slot e =
    let two = snoc-parts (reverse (somes more)) slots (Some d) slot (sym (reverse-append (Some d ∷ []) (somes more)) ∙ e) in
    (d, more, refl, sym two.1, sym two.0)

module _ {S : Type 0} (n : Nucleus) (a b c : Pass) (all_slots slots left : List (Option (Done S))) (folded : List (Folded S)) (all : Bool) (s : Collected n a b all_slots slots folded all)
    (slot : Option (Done S)) (d : Done S) (pop : slots ≡ left ++ slot ∷ []) (is : slot ≡ Some d) (plain : IsPlain n d.pass) (r : Retires n d.pass b c) where
  next : (x : Done S) × (more : List (Done S)) × (s.rest ≡ x ∷ more) × (slot ≡ Some x) × (left ≡ reverse (somes more))
  next = popped s.rest left slot (sym s.left ∙ pop)

  same : next.0 ≡ d
  same = slot-done next.0 d (sym next.3 ∙ is)

  pub collected-more : (folded_now : List (Folded S)) (all_now : Bool) → folded_now ≡ folded ++ folded_with d.port d.tally ∷ [] → all_now ≡ (cond all (is_none (fault_of d.tally.ended)) false) → Collected n a c all_slots left folded_now all_now
  collected-more folded_now all_now h e = record {
    front = s.front ++ d ∷ [];
    rest = next.1;
    whole = s.whole ∙ ap somes (ap (λ zs. s.front ++ zs) (next.2 ∙ ap (λ x. x ∷ next.1) same) ∙ sym (append_assoc s.front (d ∷ []) next.1));
    left = next.4;
    takes_in = subst (TakesIn n a c) (sym (map-append (λ (x : Done S). x.pass) s.front (d ∷ []))) (takes-in-more n a b c d.pass (passes_of s.front) s.takes_in plain r);
    worn = r.worn ∙ ap (λ o. option_or o (worn_by d.pass)) s.worn ∙ sym (worn-append (worn_by a) s.front d);
    folded_is = h ∙ ap (λ zs. zs ++ folded_with d.port d.tally ∷ []) s.folded_is ∙ sym (folded-append s.front d);
    all_is = e ∙ ap (λ x. cond x (is_none (fault_of d.tally.ended)) false) s.all_is ∙ sym (done-append s.front d);
  }

pub record AllCollected {S : Type 0} (n : Nucleus) (old new : Pass) (folded : List (Folded S)) (all : Bool) (dones : List (Done S)) : Type 0 where
  pub takes_in : TakesIn n old new (passes_of dones)
  pub worn : worn_by new ≡ worn_of (worn_by old) dones
  pub folded_is : folded ≡ folded_of dones
  pub all_is : all ≡ is_done dones

none-left : {S : Type 0} (rest : List (Done S)) → [] ≡ reverse (somes rest) → rest ≡ []
none-left [] e = refl
none-left (d ∷ rest) e = absurd (nil-snoc (reverse (somes rest)) (Some d) (e ∙ reverse-append (Some d ∷ []) (somes rest)))

pub collected-all : {S : Type 0} (n : Nucleus) (a b : Pass) (all_slots slots : List (Option (Done S))) (folded : List (Folded S)) (all : Bool) → Collected n a b all_slots slots folded all → slots ≡ [] → (dones : List (Done S)) → all_slots ≡ somes dones
    → AllCollected n a b folded all dones
collected-all n a b all_slots slots folded all s e dones is =
    let none = none-left s.rest (sym e ∙ s.left) in
    let same : s.front ≡ dones = sym (append-nil s.front) ∙ ap (λ zs. s.front ++ zs) (sym none) ∙ somes-same (s.front ++ s.rest) dones (sym s.whole ∙ is) in
    subst (AllCollected n a b folded all) same record { takes_in = s.takes_in; worn = s.worn; folded_is = s.folded_is; all_is = s.all_is }

pub slot-plain : {S : Type 0} (n : Nucleus) (s : Option (Done S)) (d : Done S) → IsFullSlot n s → s ≡ Some d → IsPlain n d.pass
slot-plain {S} n s d f e = subst (λ (x : Done S). IsPlain n x.pass) (slot-done f.0 d (sym f.1 ∙ e)) f.2

some-none : {S : Type 0} (d : Done S) → Some d ≡ None → ⊥
some-none d e = absurd (cc)

pub not-full : {S : Type 0} (n : Nucleus) (s : Option (Done S)) → IsFullSlot n s → s ≡ None → ⊥
not-full n s f e = some-none f.0 (sym f.1 ∙ e)

pub no-slots : {S : Type 0} (slots : List (Option (Done S))) → length slots ≡ 0 → slots ≡ []
no-slots [] e = refl
no-slots (s ∷ slots) e = absurd (omega (arith, e))

pub all-reverse : {A : Type 0} (P : A → Type 0) (xs : List A) → All P xs → All P (reverse xs)
all-reverse P [] a = All-nil P
all-reverse P (x ∷ xs) a = subst (All P) (sym (reverse-append (x ∷ []) xs)) (All-append P (reverse xs) (x ∷ []) (all-reverse P xs (All-tail P x xs a)) (All-cons P x [] (All-head P x xs a) (All-nil P)))

-- The jobs that are popped, one after another.

pub turned-more : (ended : List Pass) (rest : List Job) (job : Job) (all : List Pass) → ended ++ map (λ (j : Job). j.pass) (reverse (rest ++ job ∷ [])) ≡ all
    → (ended ++ job.pass ∷ []) ++ map (λ (j : Job). j.pass) (reverse rest) ≡ all
turned-more ended rest job all e =
    append_assoc ended (job.pass ∷ []) (map (λ (j : Job). j.pass) (reverse rest)) ∙ ap (λ zs. ended ++ map (λ (j : Job). j.pass) zs) (sym (reverse-append rest (job ∷ []))) ∙ e
