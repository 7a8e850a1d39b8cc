-- The tables of a setup say what its lines made, and who joined which group.
use Rattle.std.specs.Global.{Vec}
use Rattle.std.proofs.Common.{◌≡◌, ◌≢◌, ℕ, zero, suc, ◌+◌, ◌-◌, ◌*◌, ◌/◌, ◌%◌, ◌<◌, ◌≤◌, Bool, true, false, ◌&&◌, ◌||◌, cond, eqb, ltb, leb, List, [], ◌∷◌, ◌++◌, length, get_or, set, map, refl, sym, ap, ◌∙◌, arith, subst, get_or-set_same, get_or-set_other, length-set, count_by, ◌⊎◌, inl, inr}
use Rattle.std.proofs.Math.ListN.{replicate}
use Rattle.std.proofs.Math.Nat.{div-add-mod, mul-div_cancel_left}
use Rattle.std.proofs.lemmas.Nat.{mod-mul-add}
use Rattle.std.proofs.lemmas.List.{append-nil, length-map}
use Rattle.std.proofs.lemmas.List.Folds.{list_any-append}
use Rattle.std.proofs.lemmas.List.Sums.{sum_by-append}
use Rattle.std.proofs.lemmas.Bool.Decides.{nat_tests}
use Rattle.chorus_ui.specs.declared.kind.Kind.{Kind}
use Rattle.chorus_ui.specs.declared.kind.Kind.TheVariants as kinds
use Rattle.chorus_ui.specs.Kind.{same_kind}
use Rattle.chorus_ui.specs.Name.{same_ui}
use Rattle.chorus_ui.specs.declared.ui.Ui.{Ui}
use Rattle.chorus_ui.specs.Layout.{IsLayout}
use Rattle.chorus_ui.specs.declared.layout.Layout.{Layout}
use Rattle.chorus_ui.proofs.Names.{from_same_kind, same_kind-self, from_same_ui, same_ui-self}
use Rattle.chorus_entry.specs.Members.{is_member}
use Rattle.chorus_scene.specs.declared.scenario.SetupLine.{SetupLine}
use Rattle.chorus_scene.specs.declared.scenario.SetupLine.TheVariants as setups
use Rattle.chorus_scene.specs.Making.{stride, shares_place, next_name, makes, made_after, name_said, names_said, members_of}
use Rattle.chorus_scene.specs.declared.setup.Setup.{Setup}
use Rattle.chorus_scene.specs.Reader.{count_at, is_actor, is_listed, list_number, most_number, listed, made_by, IsSetup}

same_product : (t q c : ℕ) → 1 ≤ t → t * q ≡ t * c → q ≡ c
same_product t q c h e =
    let a : t * q / t ≡ q = mul-div_cancel_left q h in
    let b : t * c / t ≡ c = mul-div_cancel_left c h in
    sym a ∙ ap (λ n. n / t) e ∙ b

-- a number of a place is the next one exactly where so many stand before it
next_number : (n t r c : ℕ) → 1 ≤ n → 1 ≤ t → (n - 1) % t ≡ r → ((n ≡ 1 + r + t * c) → (n - 1) / t ≡ c) × ((n - 1) / t ≡ c → n ≡ 1 + r + t * c)
next_number n t r c one some e =
    let d : t * ((n - 1) / t) + (n - 1) % t ≡ n - 1 = div-add-mod (n - 1) t in
    (λ same. same_product t ((n - 1) / t) c some (omega arith), λ same. omega (arith, ap (λ q. t * q) same))

-- what one made name more changes for the name of site us and number n, in plain numbers
one_more : (us ws ru rw q n m cu c : ℕ) → (us ≡ ws → ru ≡ rw → cu ≡ c) → (us ≡ ws → ru ≡ rw → n ≡ m → q ≡ c) → (us ≡ ws → ru ≡ rw → q ≡ c → n ≡ m) → (n ≡ m → ru ≡ rw)
    → (ltb q cu || (((eqb ws us && true) && eqb m n) || false)) ≡ ltb q (cu + cond (eqb ws us && eqb rw ru) 1 0)
one_more us ws ru rw q n m cu c f g h k = grind (arith, nat_tests)

no_more : (q cu : ℕ) (a b : Bool) → (ltb q cu || (((a && false) && b) || false)) ≡ ltb q (cu + cond false 1 0)
no_more q cu true b = grind (arith, nat_tests)
no_more q cu false b = grind (arith, nat_tests)

module _ (l : Layout) where
  count_more : (kind : Kind) (site number : ℕ) (v : Ui) (made : List Ui) → count_by (shares_place l kind site number) (made ++ v ∷ []) ≡ count_by (shares_place l kind site number) made + cond (shares_place l kind site number v) 1 0
  count_more kind site number v made = sum_by-append (λ x. cond (shares_place l kind site number x) 1 0) made (v ∷ []) ∙ omega arith

  stride_some : (kind : Kind) → 1 ≤ l.turns → 1 ≤ stride l kind
  stride_some kinds.Actor some = omega arith
  stride_some kinds.Port some = some
  stride_some kinds.Group some = omega arith

  -- the next name of a place is one of that place
  next_residue : (kind : Kind) (site number : ℕ) (made : List Ui) → 1 ≤ stride l kind → ((next_name l kind site number made).number - 1) % stride l kind ≡ (number - 1) % stride l kind
  next_residue kind site number made some =
      let c = count_by (shares_place l kind site number) made in
      let r = (number - 1) % stride l kind in
      let e : 1 + r + stride l kind * c - 1 ≡ c * stride l kind + r = omega arith in
      rw e (mod-mul-add c (stride l kind) r (omega arith))

  -- the names that were made are counted by their places
  abbrev pub Counts : List Ui → Type 0
  Counts made = (u : Ui) → is_actor u.kind ≡ false → 1 ≤ u.number → is_member u made ≡ ltb ((u.number - 1) / stride l u.kind) (count_by (shares_place l u.kind u.site u.number) made)

  same_count : (kind : Kind) (site number wsite wnumber : ℕ) (made : List Ui) → site ≡ wsite → (number - 1) % stride l kind ≡ (wnumber - 1) % stride l kind → count_by (shares_place l kind site number) made ≡ count_by (shares_place l kind wsite wnumber) made
  same_count kind site number wsite wnumber made e f =
      ap (λ s. count_by (λ (x : Ui). same_kind x.kind kind && eqb x.site s && eqb ((x.number - 1) % stride l kind) ((number - 1) % stride l kind)) made) e
      ∙ ap (λ r. count_by (λ (x : Ui). same_kind x.kind kind && eqb x.site wsite && eqb ((x.number - 1) % stride l kind) r) made) f

  more_of_kind : (u : Ui) (site number : ℕ) (made : List Ui) → 1 ≤ stride l u.kind → 1 ≤ u.number
      → (ltb ((u.number - 1) / stride l u.kind) (count_by (shares_place l u.kind u.site u.number) made) || (same_ui (next_name l u.kind site number made) u || false))
      ≡ ltb ((u.number - 1) / stride l u.kind) (count_by (shares_place l u.kind u.site u.number) made + cond (shares_place l u.kind u.site u.number (next_name l u.kind site number made)) 1 0)
  more_of_kind u site number made some one =
      let t = stride l u.kind in
      let v = next_name l u.kind site number made in
      let r = (number - 1) % t in
      let c = count_by (shares_place l u.kind site number) made in
      let k = same_kind-self u.kind in
      let residue = next_residue u.kind site number made some in
      rw (k, residue)
      (one_more u.site site ((u.number - 1) % t) r ((u.number - 1) / t) u.number v.number (count_by (shares_place l u.kind u.site u.number) made) c
      (λ e f. same_count u.kind u.site u.number site number made e f)
      (λ e f g. (next_number u.number t r c one some f).0 g)
      (λ e f g. (next_number u.number t r c one some f).1 g)
      (λ g. ap (λ n. (n - 1) % t) g ∙ residue))

  more_by : (u : Ui) (kind : Kind) (site number : ℕ) (made : List Ui) (b : Bool) → same_kind kind u.kind ≡ b → 1 ≤ stride l u.kind → 1 ≤ u.number
      → (ltb ((u.number - 1) / stride l u.kind) (count_by (shares_place l u.kind u.site u.number) made) || (same_ui (next_name l kind site number made) u || false))
      ≡ ltb ((u.number - 1) / stride l u.kind) (count_by (shares_place l u.kind u.site u.number) made + cond (shares_place l u.kind u.site u.number (next_name l kind site number made)) 1 0)
  more_by u kind site number made true e some one =
      let P : Kind → Type 0 = λ k. (ltb ((u.number - 1) / stride l u.kind) (count_by (shares_place l u.kind u.site u.number) made) || (same_ui (next_name l k site number made) u || false))
      ≡ ltb ((u.number - 1) / stride l u.kind) (count_by (shares_place l u.kind u.site u.number) made + cond (shares_place l u.kind u.site u.number (next_name l k site number made)) 1 0) in
      subst P (sym (from_same_kind kind u.kind e)) (more_of_kind u site number made some one)
  more_by u kind site number made false e some one =
      rw e (no_more ((u.number - 1) / stride l u.kind) (count_by (shares_place l u.kind u.site u.number) made) (eqb site u.site) (eqb (next_name l kind site number made).number u.number))

  counts_on : (kind : Kind) (site number : ℕ) (made : List Ui) → 1 ≤ l.turns → Counts made → Counts (made ++ next_name l kind site number made ∷ [])
  counts_on kind site number made some h = λ u real one.
      let v = next_name l kind site number made in
      list_any-append (λ w. same_ui w u) made (v ∷ [])
      ∙ ap (λ b. b || (same_ui v u || false)) (h u real one)
      ∙ more_by u kind site number made (same_kind kind u.kind) refl (stride_some u.kind some) one
      ∙ ap (λ n. ltb ((u.number - 1) / stride l u.kind) n) (sym (count_more u.kind u.site u.number v made))

  counts_step : (line : SetupLine) (made : List Ui) → 1 ≤ l.turns → Counts made → Counts (made ++ makes l made line)
  counts_step (setups.Port actor capacity) made some h = counts_on kinds.Port actor.site actor.number made some h
  counts_step (setups.Group site) made some h = counts_on kinds.Group site 1 made some h
  counts_step (setups.Member group port) made some h = subst Counts (sym (append-nil made)) h

  pub counts_made : (made : List Ui) (lines : List SetupLine) → 1 ≤ l.turns → Counts made → Counts (made_after l made lines)
  counts_made made [] some h = h
  counts_made made (line ∷ lines) some h = counts_made (made ++ makes l made line) lines some (counts_step line made some h)

  pub counts_none : Counts []
  counts_none = λ u real one. grind (arith, nat_tests)

  -- the names that lines begin with
  pub names_more : (made : List Ui) (lines : List SetupLine) (line : SetupLine) → names_said l made (lines ++ line ∷ []) ≡ names_said l made lines ++ name_said l (made_after l made lines) line ∷ []
  names_more made [] line = refl
  names_more made (first ∷ lines) line = ap (λ names. name_said l made first ∷ names) (names_more (made ++ makes l made first) lines line)

  pub made_more : (made : List Ui) (lines : List SetupLine) (line : SetupLine) → made_after l made (lines ++ line ∷ []) ≡ made_after l made lines ++ makes l (made_after l made lines) line
  made_more made [] line = refl
  made_more made (first ∷ lines) line = made_more (made ++ makes l made first) lines line

joined_by : (b : Bool) (port : Ui) (xs ys : List Ui) → cond b (port ∷ (xs ++ ys)) (xs ++ ys) ≡ cond b (port ∷ xs) xs ++ ys
joined_by true port xs ys = refl
joined_by false port xs ys = refl

pub members_more : (g : Ui) (lines : List SetupLine) (line : SetupLine) → members_of g (lines ++ line ∷ []) ≡ members_of g lines ++ members_of g (line ∷ [])
members_more g [] line = refl
members_more g (setups.Port actor capacity ∷ lines) line = members_more g lines line
members_more g (setups.Group site ∷ lines) line = members_more g lines line
members_more g (setups.Member group port ∷ lines) line =
    ap (λ ms. cond (same_ui group g) (port ∷ ms) ms) (members_more g lines line) ∙ joined_by (same_ui group g) port (members_of g lines) (members_of g (line ∷ []))

same_or_not : (a b : ℕ) → (a ≡ b) ⊎ (a ≢ b)
same_or_not a b = grind arith

-- a site and a residue are one row
one_row : (s t x y : ℕ) → 1 ≤ s → 1 ≤ t → x < 4 → y < 4 → ((true && eqb s t) && eqb x y) ≡ eqb ((t - 1) * 4 + y) ((s - 1) * 4 + x)
one_row s t x y h k f g = grind (arith, nat_tests)

one_row_up : (s t x y : ℕ) → 1 ≤ s → 1 ≤ t → x < 4 → y < 4 → ((true && eqb s t) && eqb x y) ≡ eqb (64 + (t - 1) * 4 + y) (64 + (s - 1) * 4 + x)
one_row_up s t x y h k f g = grind (arith, nat_tests)

not_above : (s t x y : ℕ) → s ≤ 16 → x < 4 → 1 ≤ s → false ≡ eqb (64 + (t - 1) * 4 + y) ((s - 1) * 4 + x)
not_above s t x y h k one = grind (arith, nat_tests)

not_below : (s t x y : ℕ) → t ≤ 16 → y < 4 → 1 ≤ t → false ≡ eqb ((t - 1) * 4 + y) (64 + (s - 1) * 4 + x)
not_below s t x y h k one = grind (arith, nat_tests)

one_count : (counts : List ℕ) (p q v m : ℕ) (b : Bool) → b ≡ eqb q p → p < length counts → v ≡ get_or counts p 0 → get_or counts q 0 ≡ m → get_or (set counts p (v + 1)) q 0 ≡ m + cond b 1 0
one_count counts p q v m b same lt here there =
    elim (same_or_not q p) [
      | inl e ↦ let t : b ≡ true = grind (arith, nat_tests) in rw (t, e, get_or-set_same counts p (v + 1) 0 lt) (let f : get_or counts p 0 ≡ m = rw e at there in omega arith)
      | inr other ↦ let t : b ≡ false = grind (arith, nat_tests) in rw (t, get_or-set_other counts p q (v + 1) 0 other) (omega arith)
    ]

module _ (l : Layout) (some : 1 ≤ l.turns) (most : l.turns ≤ 4) where
  -- two names share their place exactly where their counts stand at one index
  one_home : (kind other : Kind) (site number osite onumber : ℕ) → is_actor kind ≡ false → is_actor other ≡ false → 1 ≤ site → site ≤ 16 → 1 ≤ osite → osite ≤ 16
      → ((same_kind kind other && eqb site osite) && eqb ((number - 1) % stride l other) ((onumber - 1) % stride l other)) ≡ eqb (count_at l other osite onumber) (count_at l kind site number)
  one_home kinds.Port kinds.Port site number osite onumber a b c d e f = one_row site osite ((number - 1) % l.turns) ((onumber - 1) % l.turns) c e (omega arith) (omega arith)
  one_home kinds.Port kinds.Group site number osite onumber a b c d e f = not_above site osite ((number - 1) % l.turns) ((onumber - 1) % 1) d (omega arith) c
  one_home kinds.Group kinds.Port site number osite onumber a b c d e f = not_below site osite ((number - 1) % 1) ((onumber - 1) % l.turns) f (omega arith) e
  one_home kinds.Group kinds.Group site number osite onumber a b c d e f = one_row_up site osite ((number - 1) % 1) ((onumber - 1) % 1) c e (omega arith) (omega arith)
  one_home kinds.Actor other site number osite onumber a b c d e f = absurd cc
  one_home kinds.Port kinds.Actor site number osite onumber a b c d e f = absurd cc
  one_home kinds.Group kinds.Actor site number osite onumber a b c d e f = absurd cc

or_parts : (a b : Bool) → (a || b) ≡ true → (a ≡ true) ⊎ (b ≡ true)
or_parts true b h = inl refl
or_parts false b h = inr h

is_true : (b : Bool) → (b || false) ≡ true → b ≡ true
is_true true h = refl
is_true false h = absurd cc

among_more : (u v : Ui) (made : List Ui) → is_member u (made ++ v ∷ []) ≡ true → (is_member u made ≡ true) ⊎ (same_ui v u ≡ true)
among_more u v made h =
    elim (or_parts (is_member u made) (same_ui v u || false) (sym (list_any-append (λ w. same_ui w u) made (v ∷ [])) ∙ h)) [
      | inl old ↦ inl old
      | inr new ↦ inr (is_true (same_ui v u) new)
    ]

-- a group that is made has a list
group_listed : (g : Ui) → same_kind g.kind kinds.Group ≡ true → 1 ≤ g.site → g.site ≤ 16 → 1 ≤ g.number → g.number ≤ 4 → is_listed g ≡ true
group_listed g kind a b d e = rw kind (grind (arith, nat_tests))

most_of_group : (kind : Kind) → same_kind kind kinds.Group ≡ true → most_number kind ≡ 4
most_of_group kind h = ap most_number (from_same_kind kind kinds.Group h)

module _ (l : Layout) (s t : Setup) (shape : IsLayout l) (h : IsSetup l s) (line : SetupLine) (lines : t.lines.items ≡ s.lines.items ++ line ∷ []) where
  made_now : made_by l t ≡ made_by l s ++ makes l (made_by l s) line
  made_now = ap (made_after l []) lines ∙ made_more l [] s.lines.items line

  names_now : (name : Ui) → s.names.items ++ name ∷ [] ≡ t.names.items → name_said l (made_by l s) line ≡ name → t.names.items ≡ names_said l [] t.lines.items
  names_now name grown said = sym grown ∙ ap (λ names. names ++ name ∷ []) h.names ∙ ap (λ n. names_said l [] s.lines.items ++ n ∷ []) (sym said) ∙ sym (names_more l [] s.lines.items line) ∙ ap (names_said l []) (sym lines)

  members_now : (g : Ui) → members_of g t.lines.items ≡ members_of g s.lines.items ++ members_of g (line ∷ [])
  members_now g = ap (members_of g) lines ∙ members_more g s.lines.items line

  module _ (kind : Kind) (site number : ℕ) (real : is_actor kind ≡ false) (low : 1 ≤ site) (high : site ≤ 16)
      (makes-one : (made : List Ui) → makes l made line ≡ next_name l kind site number made ∷ []) (joins : (g : Ui) → members_of g (line ∷ []) ≡ []) where
    made_next : made_by l t ≡ made_by l s ++ next_name l kind site number (made_by l s) ∷ []
    made_next = made_now ∙ ap (λ new. made_by l s ++ new) (makes-one (made_by l s))

    members_stay : (g : Ui) → members_of g t.lines.items ≡ members_of g s.lines.items
    members_stay g = members_now g ∙ ap (λ new. members_of g s.lines.items ++ new) (joins g) ∙ append-nil (members_of g s.lines.items)

    -- the new name shares a place exactly where its place is counted
    shares_next : (other : Kind) (osite onumber : ℕ) → is_actor other ≡ false → 1 ≤ osite → osite ≤ 16
        → shares_place l other osite onumber (next_name l kind site number (made_by l s)) ≡ eqb (count_at l other osite onumber) (count_at l kind site number)
    shares_next other osite onumber actual one most =
        shares_by other osite onumber (same_kind kind other) refl ∙ one_home l shape.turns_from_one shape.turns_to_four kind other site number osite onumber real actual low high one most
      where
        shares_by : (other : Kind) (osite onumber : ℕ) (b : Bool) → same_kind kind other ≡ b
            → shares_place l other osite onumber (next_name l kind site number (made_by l s)) ≡ ((same_kind kind other && eqb site osite) && eqb ((number - 1) % stride l other) ((onumber - 1) % stride l other))
        shares_by other osite onumber true e =
            let residue = next_residue l kind site number (made_by l s) (stride_some l kind shape.turns_from_one) in
            let same = from_same_kind kind other e in
            let P : Kind → Type 0 = λ k. ((next_name l kind site number (made_by l s)).number - 1) % stride l k ≡ (number - 1) % stride l k in
            ap (λ r. (same_kind kind other && eqb site osite) && eqb r ((onumber - 1) % stride l other)) (subst P same residue)
        shares_by other osite onumber false e = rw e refl

    making_at : t.names.items ≡ names_said l [] t.lines.items → (v : ℕ) → v ≡ get_or s.counts (count_at l kind site number) 0 → t.counts ≡ set s.counts (count_at l kind site number) (v + 1) → map (λ x. x.items) t.members.items ≡ map (λ x. x.items) s.members.items
        → (next_name l kind site number (made_by l s)).number ≤ most_number kind → count_at l kind site number < 128 → IsSetup l t
    making_at names v is counts members room small = record {
      names = names;
      counts_len = ap length counts ∙ length-set s.counts (count_at l kind site number) (v + 1) ∙ h.counts_len;
      counts = λ other osite onumber actual one most.
          rw (counts, made_next, count_more l other osite onumber (next_name l kind site number (made_by l s)) (made_by l s))
          (one_count s.counts (count_at l kind site number) (count_at l other osite onumber) v (count_by (shares_place l other osite onumber) (made_by l s)) (shares_place l other osite onumber (next_name l kind site number (made_by l s)))
          (shares_next other osite onumber actual one most) (omega (arith, h.counts_len)) is (h.counts other osite onumber actual one most));
      lists = lists_now;
      members = λ g is-listed. ap (λ ms. get_or ms (list_number g) []) members ∙ h.members g is-listed ∙ sym (members_stay g);
      strangers = λ g not-listed. members_stay g ∙ h.strangers g not-listed;
      groups = λ g group among.
          let old-or-new = among_more g (next_name l kind site number (made_by l s)) (made_by l s) (subst (λ ns. is_member g ns ≡ true) made_next among) in
          elim old-or-new [
            | inl old ↦ h.groups g group old
            | inr new ↦
                let same = from_same_ui (next_name l kind site number (made_by l s)) g new in
                let kind-is : kind ≡ g.kind = ap (λ (n : Ui). n.kind) same in
                let site-is : site ≡ g.site = ap (λ (n : Ui). n.site) same in
                let number-is : (next_name l kind site number (made_by l s)).number ≡ g.number = ap (λ (n : Ui). n.number) same in
                let four : most_number kind ≡ 4 = most_of_group kind (subst (λ k. same_kind k kinds.Group ≡ true) (sym kind-is) group) in
                group_listed g group (omega arith) (omega arith) (omega arith) (omega arith)
          ];
    }
      where
        lists_now : length t.members.items ≡ 64
        lists_now = sym (length-map t.members.items (λ (x : Vec Ui). x.items)) ∙ ap length members ∙ length-map s.members.items (λ (x : Vec Ui). x.items) ∙ h.lists

    pub making_tables : (at : ℕ) → at ≡ count_at l kind site number → s.names.items ++ next_name l kind site number (made_by l s) ∷ [] ≡ t.names.items → name_said l (made_by l s) line ≡ next_name l kind site number (made_by l s) → t.counts ≡ set s.counts at (get_or s.counts at 0 + 1) → t.members ≡ s.members
        → (next_name l kind site number (made_by l s)).number ≤ most_number kind → at < 128 → IsSetup l t
    making_tables at is grown said counts members room small =
        let i = count_at l kind site number in
        making_at (names_now (next_name l kind site number (made_by l s)) grown said) (get_or s.counts i 0) refl (subst (λ j. t.counts ≡ set s.counts j (get_or s.counts j 0 + 1)) is counts) (ap (λ ms. map (λ x. x.items) ms.items) members) room (omega (arith, is))

-- the place of a group's list
one_list : (a b n m : ℕ) → 1 ≤ a → 1 ≤ b → 1 ≤ n → n ≤ 4 → 1 ≤ m → m ≤ 4 → (a - 1) * 4 + (n - 1) ≡ (b - 1) * 4 + (m - 1) → (a ≡ b) × (n ≡ m)
one_list a b n m one more low high least most e = (omega arith, omega arith)

record InTable (g : Ui) : Type 0 where
  group : same_kind g.kind kinds.Group ≡ true
  site : 1 ≤ g.site
  last : g.site ≤ 16
  number : 1 ≤ g.number
  most : g.number ≤ 4

listed_parts : (k a b d e : Bool) → (k && a && b && d && e) ≡ true → (k ≡ true) × (a ≡ true) × (b ≡ true) × (d ≡ true) × (e ≡ true)
listed_parts true true true true true h = (refl, refl, refl, refl, refl)
listed_parts false a b d e h = absurd cc
listed_parts true false b d e h = absurd cc
listed_parts true true false d e h = absurd cc
listed_parts true true true false e h = absurd cc
listed_parts true true true true false h = absurd cc

le_of : (m n : ℕ) → leb m n ≡ true → m ≤ n
le_of m n h = grind (arith, nat_tests)

in_table : (g : Ui) → is_listed g ≡ true → InTable g
in_table g h =
    let p = listed_parts (same_kind g.kind kinds.Group) (leb 1 g.site) (leb g.site 16) (leb 1 g.number) (leb g.number 4) h in
    record { group = p.0; site = le_of 1 g.site p.1; last = le_of g.site 16 p.2; number = le_of 1 g.number p.3; most = le_of g.number 4 p.4 }

-- two groups with one list are one group
same_list : (g j : Ui) → InTable g → InTable j → list_number g ≡ list_number j → g ≡ j
same_list g j a b e =
    let p = one_list g.site j.site g.number j.number a.site b.site a.number a.most b.number b.most e in
    let kind : g.kind ≡ j.kind = from_same_kind g.kind kinds.Group a.group ∙ sym (from_same_kind j.kind kinds.Group b.group) in
    let mk : ℕ → Kind → ℕ → Ui = λ s k n. record { site = s; kind = k; number = n } in
    ap (λ s. mk s g.kind g.number) p.0 ∙ ap (λ k. mk j.site k g.number) kind ∙ ap (λ n. mk j.site j.kind n) p.1

list_small : (g : Ui) → InTable g → list_number g < 64
list_small g h = omega (arith, h.site, h.last, h.number, h.most)

yes_or_no : (b : Bool) → (b ≡ true) ⊎ (b ≡ false)
yes_or_no true = inl refl
yes_or_no false = inr refl

module _ (l : Layout) (s t : Setup) (h : IsSetup l s) (group port : Ui) (kind : group.kind ≡ kinds.Group) (made : is_member group (made_by l s) ≡ true)
    (lines : t.lines.items ≡ s.lines.items ++ setups.Member group port ∷ []) (grown : t.names.items ≡ s.names.items ++ group ∷ []) (counts : t.counts ≡ s.counts)
    (ms : List (List Ui)) (was : map (λ (x : Vec Ui). x.items) s.members.items ≡ ms)
    (members : map (λ (x : Vec Ui). x.items) t.members.items ≡ set ms (list_number group) (get_or ms (list_number group) [] ++ port ∷ [])) where
  is_group : same_kind group.kind kinds.Group ≡ true
  is_group = ap (λ k. same_kind k kinds.Group) kind

  group_in : is_listed group ≡ true
  group_in = h.groups group is_group made

  made_same : made_by l t ≡ made_by l s
  made_same = ap (made_after l []) lines ∙ made_more l [] s.lines.items (setups.Member group port) ∙ append-nil (made_by l s)

  members_then : (g : Ui) → members_of g t.lines.items ≡ members_of g s.lines.items ++ cond (same_ui group g) (port ∷ []) []
  members_then g = ap (members_of g) lines ∙ members_more g s.lines.items (setups.Member group port)

  length_ms : length ms ≡ 64
  length_ms = ap length (sym was) ∙ length-map s.members.items (λ (x : Vec Ui). x.items) ∙ h.lists

  listed_now : (g : Ui) → is_listed g ≡ true → listed t g ≡ members_of g t.lines.items
  listed_now g listed-g =
      let before : get_or ms (list_number g) [] ≡ members_of g s.lines.items = ap (λ xs. get_or xs (list_number g) []) (sym was) ∙ h.members g listed-g in
      ap (λ xs. get_or xs (list_number g) []) members ∙
      elim (yes_or_no (same_ui group g)) [
        | inl same ↦
            let e = from_same_ui group g same in
            let i : list_number g ≡ list_number group = ap list_number (sym e) in
            let lt : list_number group < length ms = omega (arith, length_ms, list_small group (in_table group group_in)) in
            rw (i, get_or-set_same ms (list_number group) (get_or ms (list_number group) [] ++ port ∷ []) [] lt)
            (ap (λ xs. xs ++ port ∷ []) (ap (λ j. get_or ms j []) (sym i) ∙ before) ∙ sym (members_then g ∙ ap (λ b. members_of g s.lines.items ++ cond b (port ∷ []) []) same))
        | inr other ↦
            let ne : list_number g ≢ list_number group = λ e. absurd (let same = same_list group g (in_table group group_in) (in_table g listed-g) (sym e) in
            let b : same_ui group g ≡ true = subst (λ (x : Ui). same_ui group x ≡ true) same (same_ui-self group) in
            let f : ◌≡◌ {A = Bool} true false = sym b ∙ other in cc) in
            rw (get_or-set_other ms (list_number group) (list_number g) (get_or ms (list_number group) [] ++ port ∷ []) [] ne)
            (before ∙ sym (members_then g ∙ ap (λ b. members_of g s.lines.items ++ cond b (port ∷ []) []) other ∙ append-nil (members_of g s.lines.items)))
      ]

  strangers_now : (g : Ui) → is_listed g ≡ false → members_of g t.lines.items ≡ []
  strangers_now g out =
      elim (yes_or_no (same_ui group g)) [
        | inl same ↦ absurd (let e = from_same_ui group g same in
            let b : is_listed g ≡ true = subst (λ (x : Ui). is_listed x ≡ true) e group_in in
            let f : ◌≡◌ {A = Bool} true false = sym b ∙ out in cc)
        | inr other ↦ members_then g ∙ ap (λ b. members_of g s.lines.items ++ cond b (port ∷ []) []) other ∙ append-nil (members_of g s.lines.items) ∙ h.strangers g out
      ]

  pub member_tables : length t.members.items ≡ length s.members.items → IsSetup l t
  member_tables len = record {
    names = grown ∙ ap (λ names. names ++ group ∷ []) h.names ∙ sym (names_more l [] s.lines.items (setups.Member group port)) ∙ ap (names_said l []) (sym lines);
    counts_len = ap length counts ∙ h.counts_len;
    counts = λ other site number actual one most. rw (counts, made_same) (h.counts other site number actual one most);
    lists = len ∙ h.lists;
    members = listed_now;
    strangers = strangers_now;
    groups = λ g is-group among. h.groups g is-group (subst (λ ns. is_member g ns ≡ true) made_same among);
  }

-- no lines yet
zeros : (n i : ℕ) → get_or {A = ℕ} (replicate n 0) i 0 ≡ 0
zeros zero i = refl
zeros (suc n) zero = refl
zeros (suc n) (suc i) = zeros n i

pub no_tables : (l : Layout) (s : Setup) → s.lines.items ≡ [] → s.names.items ≡ [] → s.counts ≡ replicate 128 0 → length s.members.items ≡ 64 → ((k : ℕ) → get_or (map (λ (x : Vec Ui). x.items) s.members.items) k [] ≡ []) → IsSetup l s
no_tables l s lines names counts lists members = record {
  names = names ∙ ap (names_said l []) (sym lines);
  counts_len = ap length counts;
  counts = λ kind site number actual one most. rw (counts, lines, zeros 128 (count_at l kind site number)) refl;
  lists = lists;
  members = λ g listed-g. members (list_number g) ∙ sym (ap (members_of g) lines);
  strangers = λ g out. ap (members_of g) lines;
  groups = λ g is-group among. absurd (let f : is_member g (made_after l [] []) ≡ true = subst (λ ls. is_member g (made_after l [] ls) ≡ true) lines among in let e : ◌≡◌ {A = Bool} false true = f in cc);
}
