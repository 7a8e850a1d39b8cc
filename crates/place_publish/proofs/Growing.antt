-- One entry more is published, or nothing more is taught.
use Rattle.std.proofs.Common.{ℕ, zero, suc, ◌≡◌, ◌≢◌, ◌+◌, ◌-◌, ◌<◌, ◌≤◌, List, [], ◌∷◌, ◌++◌, length, take, drop, reverse, slice_get, get_or, Some, None, Result, Ok, Err, OnOk, OnErr, inl, inr, refl, sym, ◌∙◌, ap, subst, arith}
use Rattle.std.proofs.lemmas.Bool.{cases_lt}
use Rattle.std.proofs.lemmas.List.{take_more, take-append-drop, append-nil, reverse-append, append_assoc, length-append}
use Rattle.std.proofs.Math.Seq.{take-append-add, take-append_seam}
use Rattle.std.proofs.lemmas.List.Elements.{All-head, All-tail}
use Rattle.std.proofs.lemmas.Option.{slice_get_within, get_or_from_slice_get}
use Rattle.std.specs.List.{All}
use mathlib.Core.List.{IsPrefix}
use Rattle.chorus_ui.specs.declared.ui.Ui.{Ui}
use Rattle.chorus_ui.specs.declared.layout.Layout.{Layout}
use Rattle.chorus_entry.specs.declared.entry.Entry.{Entry}
use Rattle.chorus_world.specs.Places.{farther, last_clock}
use Rattle.std.specs.declared.alloc.AllocError.{AllocError}
use Rattle.chorus_board.specs.declared.board.Board.{Board}
use Rattle.chorus_board.specs.Located.{located_after, last_clock_in, told_of, IsPortIn, IsOfPlace}
use Rattle.chorus_board.specs.Table.{stands_for}
use Rattle.chorus_board.specs.Boards.{layout_of, place_of, shown, entries_published, entries_begun, LocatesAfter}
use Rattle.chorus_board.proofs.Whereabouts.{located_more, nothing_told}
use Rattle.place_publish.specs.declared.lesson.Lesson.{Lesson}
use Rattle.place_publish.specs.Lessons.{lesson, told_in}
use Rattle.place_publish.specs.Publishing.{TeachNothing, IsBoardAt, IsUpTo}
use Rattle.place_publish.proofs.Lessons.{teaches}

pub prefix-take : (xs ys : List Entry) (n : ℕ) → IsPrefix xs ys → length xs ≤ n → IsPrefix xs (take n ys)
prefix-take xs ys n (more, is) le =
    let m : length xs + (n - length xs) ≡ n = omega (arith, le) in
    (take (n - length xs) more, sym (take-append-add xs more (n - length xs)) ∙ ap (λ k. take k (xs ++ more)) m ∙ ap (take n) is)

pub take-prefix : (n : ℕ) (ys : List Entry) → IsPrefix (take n ys) ys
take-prefix n ys = (drop n ys, take-append-drop n ys)

prefix-is : (xs ys : List Entry) → IsPrefix xs ys → take (length xs) ys ≡ xs
prefix-is xs ys (more, is) = ap (take (length xs)) (sym is) ∙ take-append_seam xs more

pub prefix-length : (xs ys : List Entry) → IsPrefix xs ys → length xs ≤ length ys
prefix-length xs ys (more, is) = (let a = length-append xs more in let b = ap length is in omega (arith, a, b))

pub prefix-more : (xs ys zs : List Entry) → IsPrefix xs ys → IsPrefix xs (ys ++ zs)
prefix-more xs ys zs (more, is) = (more ++ zs, sym (append_assoc xs more zs) ∙ ap (λ es. es ++ zs) is)

pub length-take : (n : ℕ) (ys : List Entry) → n ≤ length ys → n ≡ length (take n ys)
length-take zero ys le = refl
length-take (suc n) [] le = absurd (omega (arith, le))
length-take (suc n) (y ∷ ys) le = ap suc (length-take n ys (omega (arith, le)))

pub slice-at : {A : Type 0} (J : List A) (i : ℕ) (e : A) → i < length J → e ≡ get_or J i e → slice_get J i ≡ Some e
slice-at [] i e lt is = absurd (omega (arith, lt))
slice-at (x ∷ J) zero e lt is = ap Some (sym is)
slice-at (x ∷ J) (suc i) e lt is = slice-at J i e (omega (arith, lt)) is

some-at : (J : List Entry) (i : ℕ) → i < length J → (e : Entry) × (slice_get J i ≡ Some e)
some-at [] i lt = absurd (omega (arith, lt))
some-at (x ∷ J) zero lt = (x, refl)
some-at (x ∷ J) (suc i) lt = some-at J i (omega (arith, lt))

take-front : (J news : List Entry) (i : ℕ) → i ≤ length J → take i (J ++ news) ≡ take i J
take-front J news zero le = refl
take-front [] news (suc i) le = absurd (omega (arith, le))
take-front (x ∷ J) news (suc i) le = ap (λ es. x ∷ es) (take-front J news i (omega (arith, le)))

at-front : (J news : List Entry) (i : ℕ) (e : Entry) → i < length J → slice_get (J ++ news) i ≡ Some e → slice_get J i ≡ Some e
at-front [] news i e lt at = absurd (omega (arith, lt))
at-front (x ∷ J) news zero e lt at = at
at-front (x ∷ J) news (suc i) e lt at = at-front J news i e (omega (arith, lt)) at

pub one-more : (J : List Entry) (i : ℕ) (e : Entry) → slice_get J i ≡ Some e → take (i + 1) J ≡ take i J ++ e ∷ []
one-more J i e at = take_more J i e (slice_get_within J i e at) ∙ ap (λ x. take i J ++ x ∷ []) (get_or_from_slice_get J i e e at)

-- the clock of the last of the first entries
pub clock-none : (J : List Entry) (n : ℕ) → n ≡ 0 → 0 ≡ last_clock_in (take n J)
unfolding last_clock_in
clock-none J n none = ap (λ k. last_clock (reverse (take k J))) (sym none)

pub clock-at : (J : List Entry) (i : ℕ) (e : Entry) → slice_get J i ≡ Some e → e.clock ≡ last_clock_in (take (i + 1) J)
unfolding last_clock_in
clock-at J i e at = sym (ap (λ es. last_clock (reverse es)) (one-more J i e at) ∙ ap last_clock (reverse-append (take i J) (e ∷ [])))

taken-at : (n : ℕ) (J : List Entry) (i : ℕ) (e : Entry) → slice_get (take n J) i ≡ Some e → slice_get J i ≡ Some e
taken-at zero J i e at = absurd (cc)
taken-at (suc n) [] i e at = absurd (cc)
taken-at (suc n) (x ∷ J) zero e at = at
taken-at (suc n) (x ∷ J) (suc i) e at = taken-at n J i e at

all-at : {p : ℕ} (J : List Entry) (i : ℕ) (e : Entry) → All (λ (x : Entry). x.place ≡ p) J → slice_get J i ≡ Some e → e.place ≡ p
all-at [] i e all at = absurd (cc)
all-at {p} (x ∷ J) zero e all at = (let same : x ≡ e = cc in subst (λ (z : Entry). z.place ≡ p) same (All-head (λ (z : Entry). z.place ≡ p) x J all))
all-at {p} (x ∷ J) (suc i) e all at = all-at J i e (All-tail (λ (z : Entry). z.place ≡ p) x J all) at

pub same-prefix : (xs ys : List Entry) → ys ≡ xs → IsPrefix xs ys
same-prefix xs ys same = ([], append-nil xs ∙ sym same)

module _ (l : Layout) (p : ℕ) (J : List Entry) where
  -- at the first entry that the board lacks
  pub at-first : (b : Board) (n : ℕ) → n ≡ length (entries_published b) → IsBoardAt l p J b → IsUpTo l p J n b
  at-first b n count h =
      record {
        is = h;
        low = omega (arith, count);
        high = (let a = prefix-length (entries_published b) J h.published in omega (arith, a, count));
        silent = λ i e at from to. absurd (omega (arith, count, from, to));
      }

  -- where the entries teach nothing, ports stay where they are located
  silent-same : (m k : ℕ) → m + k ≤ length J → TeachNothing l J m (m + k) → (q : Ui) → IsPortIn l q → located_after l (take m J) q ≡ located_after l (take (m + k) J) q
  silent-same m zero le silent q here = ap (λ n. located_after l (take n J) q) (omega arith)
  silent-same m (suc k) le silent q here =
      let got = some-at J (m + k) (omega (arith, le)) in
      let none = silent (m + k) got.0 got.1 (omega arith) (omega arith) in
      silent-same m k (omega (arith, le)) (λ i e at from to. silent i e at from (omega (arith, to))) q here
      ∙ ap (λ o. farther (located_after l (take (m + k) J) q) (told_in o q)) (sym none)
      ∙ ap (farther (located_after l (take (m + k) J) q)) (teaches l q (reverse (take (m + k) J)) got.0 here)
      ∙ sym (located_more l (take (m + k) J) got.0 q)
      ∙ ap (λ es. located_after l es q) (sym (one-more J (m + k) got.0 got.1))
      ∙ ap (λ n. located_after l (take n J) q) (omega arith)

  same-at : (b : Board) (i : ℕ) → IsUpTo l p J i b → (q : Ui) → IsPortIn l q → located_after l (entries_published b) q ≡ located_after l (take i J) q
  same-at b i h q here =
      let m = length (entries_published b) in
      let low = h.low in
      let high = h.high in
      let all : m + (i - m) ≡ i = omega (arith, low) in
      ap (λ es. located_after l es q) (sym (prefix-is (entries_published b) J h.is.published))
      ∙ silent-same m (i - m) (omega (arith, low, high)) (λ j e at from to. h.silent j e at from (omega (arith, low, to))) q here
      ∙ ap (λ n. located_after l (take n J) q) all

  next : (b : Board) (i : ℕ) (e : Entry) → IsUpTo l p J i b → slice_get J i ≡ Some e → (q : Ui) → IsPortIn l q
      → farther (located_after l (entries_published b) q) (told_in (lesson l (reverse (take i J)) e) q) ≡ located_after l (take (i + 1) J) q
  next b i e h at q here =
      ap (λ z. farther z (told_in (lesson l (reverse (take i J)) e) q)) (same-at b i h q here)
      ∙ ap (farther (located_after l (take i J) q)) (teaches l q (reverse (take i J)) e here)
      ∙ sym (located_more l (take i J) e q)
      ∙ ap (λ es. located_after l es q) (sym (one-more J i e at))

  -- an entry that teaches nothing
  pub step-none : (b : Board) (i : ℕ) (e : Entry) → IsUpTo l p J i b → slice_get J i ≡ Some e → lesson l (reverse (take i J)) e ≡ None → IsUpTo l p J (i + 1) b
  step-none b i e h at none =
      let lt = slice_get_within J i e at in
      let low = h.low in
      record {
        is = h.is;
        low = omega (arith, low);
        high = omega (arith, lt);
        silent = λ j f at_j from to. elim (cases_lt j i) [
          | inl less ↦ h.silent j f at_j from less
          | inr more ↦ (
              let same : i ≡ j = omega (arith, more, to) in
              let is : e ≡ f = cc (subst (λ k. slice_get J k ≡ Some e) same at, at_j) in
              subst (λ (z : ℕ × Entry). lesson l (reverse (take z.0 J)) z.1 ≡ None) (λ k. (same k, is k)) none
              )
        ];
      }

  -- one that teaches
  pub locates : (b : Board) (i : ℕ) (e : Entry) (t : Lesson) → IsUpTo l p J i b → slice_get J i ≡ Some e → lesson l (reverse (take i J)) e ≡ Some t
      → LocatesAfter b t.ui t.place t.hop (take (i + 1) J)
  locates b i e t h at some =
      subst (λ k. (q : Ui) → IsPortIn k q → farther (located_after k (entries_published b) q) (told_of q t.ui t.place t.hop) ≡ located_after k (take (i + 1) J) q) (sym h.is.layout)
      (λ q port. ap (λ o. farther (located_after l (entries_published b) q) (told_in o q)) (sym some) ∙ next b i e h at q port)

  -- no more was begun than a publish of this lesson begins
  pub begun-low : (b : Board) (i : ℕ) (e : Entry) (t : Lesson) → IsUpTo l p J i b → slice_get J i ≡ Some e → lesson l (reverse (take i J)) e ≡ Some t
      → length (entries_begun b) ≤ i + 1
  begun-low b i e t h at some = elim (cases_lt (i + 1) (length (entries_begun b))) [
    | inl more ↦ (let none = h.is.silent i e at h.low (omega (arith, more)) in absurd (cc (none, some)))
    | inr le ↦ le
  ]

  -- before the last of these entries nothing is taught
  before-last : (b : Board) (i n : ℕ) → IsUpTo l p J i b → n ≤ i + 1 → TeachNothing l J (length (entries_published b)) (n - 1)
  before-last b i n h le j e at from to = h.silent j e at from (omega (arith, le, to))

  -- what a publish for the first n entries leaves
  pub shown-now : (b : Board) (n : ℕ) → (layout_of b ≡ l) × (place_of b ≡ p) → n ≤ length J → entries_published b ≡ take n J → entries_begun b ≡ take n J → IsUpTo l p J n b
  shown-now b n same le published begun = record {
    is = record {
      layout = same.0;
      of_place = same.1;
      published = subst (λ es. IsPrefix es J) (sym published) (take-prefix n J);
      begun = subst (λ es. IsPrefix es J) (sym begun) (take-prefix n J);
      silent = λ i e at from to. (let x = ap length published in let y = ap length begun in absurd (omega (arith, x, y, from, to)));
    };
    low = (let s = length-take n J le in let t = ap length published in omega (arith, s, t));
    high = le;
    silent = λ i e at from to. (let s = length-take n J le in let t = ap length published in absurd (omega (arith, s, t, from, to)));
  }

  -- what a refused one leaves
  refused-now : (old new : Board) (i n : ℕ) → IsUpTo l p J i old → n ≤ i + 1 → n ≤ length J → (layout_of new ≡ l) × (place_of new ≡ p) → entries_published new ≡ entries_published old
      → entries_begun new ≡ take n J → IsBoardAt l p J new
  refused-now old new i n h least le same published begun = record {
    layout = same.0;
    of_place = same.1;
    published = subst (λ es. IsPrefix es J) (sym published) h.is.published;
    begun = subst (λ es. IsPrefix es J) (sym begun) (take-prefix n J);
    silent = λ j e at from to.
        let x = ap length published in
        let y = ap length begun in
        let z = length-take n J le in
        before-last old i n h least j e at (omega (arith, x, from)) (omega (arith, y, z, to));
  }

  -- what a publish for the first n entries leaves, by its answer
  pub after-publish : (old new : Board) (i n : ℕ) (r : Result (Unit {0}) AllocError) → IsUpTo l p J i old → n ≤ i + 1 → (layout_of new ≡ l) × (place_of new ≡ p) → n ≤ length J
      → OnOk r (entries_published new ≡ take n J) → OnErr r (shown new ≡ shown old) → entries_begun new ≡ take n J → IsBoardAt l p J new
  after-publish old new i n (Ok x) h least same le ok err begun = (shown-now new n same le ok begun).is
  after-publish old new i n (Err f) h least same le ok err begun = refused-now old new i n h least le same (ap stands_for err) begun

  pub upto-publish : (new : Board) (n : ℕ) (r : Result (Unit {0}) AllocError) → (layout_of new ≡ l) × (place_of new ≡ p) → n ≤ length J
      → OnOk r (entries_published new ≡ take n J) → entries_begun new ≡ take n J → OnOk r (IsUpTo l p J n new)
  upto-publish new n (Ok x) same le ok begun = shown-now new n same le ok begun
  upto-publish new n (Err f) same le ok begun = tt

  -- what is published grows
  pub grows-publish : (old new : Board) (n : ℕ) (r : Result (Unit {0}) AllocError) → IsBoardAt l p J old → length (entries_published old) ≤ n
      → OnOk r (entries_published new ≡ take n J) → OnErr r (shown new ≡ shown old) → IsPrefix (entries_published old) (entries_published new)
  grows-publish old new n (Ok x) h le ok err = subst (IsPrefix (entries_published old)) (sym ok) (prefix-take (entries_published old) J n h.published le)
  grows-publish old new n (Err f) h le ok err = same-prefix (entries_published old) (entries_published new) (ap stands_for err)

  -- a beginning of entries of the place is of the place
  pub of-place : (b : Board) (n : ℕ) → IsBoardAt l p J b → All (λ (e : Entry). e.place ≡ p) J → IsOfPlace (place_of b) (take n J)
  of-place b n h all i e at = all-at J i e all (taken-at n J i e at) ∙ sym h.of_place

  -- where all is taught
  pub locates-all : (b : Board) (ui : Ui) (to hop : ℕ) → hop ≡ 0 → IsUpTo l p J (length J) b → LocatesAfter b ui to hop (take (length J) J)
  locates-all b ui to hop none h =
      subst (λ n. LocatesAfter b ui to n (take (length J) J)) (sym none)
      (subst (λ k. (q : Ui) → IsPortIn k q → farther (located_after k (entries_published b) q) (told_of q ui to 0) ≡ located_after k (take (length J) J) q) (sym h.is.layout)
      (λ q port. nothing_told (located_after l (entries_published b) q) q ui to ∙ same-at b (length J) h q port))

-- more entries of the place
pub published-on : (l : Layout) (p : ℕ) (J news : List Entry) (b : Board) → IsBoardAt l p J b → IsBoardAt l p (J ++ news) b
published-on l p J news b h = record {
  layout = h.layout;
  of_place = h.of_place;
  published = prefix-more (entries_published b) J news h.published;
  begun = prefix-more (entries_begun b) J news h.begun;
  silent = λ i e at from to.
      let most = prefix-length (entries_begun b) J h.begun in
      let lt : i < length J = omega (arith, most, to) in
      ap (λ es. lesson l (reverse es) e) (take-front J news i (omega (arith, lt))) ∙ h.silent i e (at-front J news i e lt at) from to;
}
