-- A first table stands for no entries, and a publish makes one that stands for the entries that it names.
use Rattle.std.proofs.Common.{◌≡◌, ℕ, ◌*◌, nat_le, nat_lt, Bool, true, false, ◌&&◌, if◌then◌else◌, cond, Some, None, List, [], ◌∷◌, length, refl, ap, sym, ◌∙◌, subst, arith}
use Rattle.std.proofs.lemmas.Bool.{and_from, and_parts}
use Rattle.chorus_ui.specs.declared.kind.Kind.TheVariants.{Port}
use Rattle.chorus_ui.specs.declared.layout.Layout.{Layout}
use Rattle.chorus_ui.specs.declared.limits.TheConstants.{PORTS_PER_SITE_LIMIT}
use Rattle.chorus_ui.specs.declared.ui.Ui.{Ui}
use Rattle.chorus_ui.specs.Kind.{same_kind}
use Rattle.chorus_ui.specs.Layout.{can_make_port, creation_place, has_site, names_port}
use Rattle.chorus_ui.specs.Name.{same_ui}
use Rattle.chorus_entry.specs.declared.entry.Entry.{Entry}
use Rattle.chorus_world.specs.declared.place.Location.{Location}
use Rattle.chorus_world.specs.Places.{farther}
use Rattle.chorus_hints.specs.Known.{Known, kept, newest_of, newest, nothing_known, known_after}
use Rattle.chorus_hints.proofs.Lessons.{newest-learned}
use Rattle.chorus_hints.proofs.Values.{kept-nothing_known, length-nothing_known, kept-known_after, layout-known_after, length-known_after}
use Rattle.chorus_board.specs.declared.table.Table.{Table}
use Rattle.chorus_board.specs.declared.table.Publish.{Publish}
use Rattle.chorus_board.specs.Law.{entries_in}
use Rattle.chorus_board.specs.Located.{located_after, last_clock_in, pair_of, told_of, IsPortIn, IsOfPlace}
use Rattle.chorus_board.specs.Table.{told, stands_for, Exact, IsRoomy, Fine}
use Rattle.chorus_board.specs.Writers.{IsReady}

-- nothing is pending
pub none_of : {A : Type 0} (xs : List A) → length xs ≡ 0 → xs ≡ []
none_of [] e = refl
none_of (x ∷ xs) e = absurd (omega (arith, e))

-- a port that the layout can make is of a site of it
site_in : (l : Layout) (q : Ui) → names_port l q ≡ true → has_site l q.site ≡ true
site_in l q here =
    let can : can_make_port l q ≡ true = (and_parts (same_kind q.kind Port) (can_make_port l q) here).1 in
    let from : (has_site l q.site && nat_le 1 q.number) ≡ true = (and_parts (has_site l q.site && nat_le 1 q.number) (nat_le q.number PORTS_PER_SITE_LIMIT) can).0 in
    (and_parts (has_site l q.site) (nat_le 1 q.number) from).0

first_exact : (l : Layout) → Exact (nothing_known l) []
unfolding located_after
first_exact l q here =
    ap (newest_of l q) (kept-nothing_known l q) ∙ ap (λ (b : Bool). (cond b (creation_place l q) 0, 0)) (sym (site_in l q here))

pub first_fine : (l : Layout) (table : Table) → table.hints ≡ nothing_known l → table.upto ≡ 0 → table.clock ≡ 0 → stands_for table ≡ [] → Fine table
unfolding last_clock_in
first_fine l table hints upto clock log = (
  subst (λ (z : Known × List Entry). Exact z.0 z.1) (λ i. (sym hints i, sym log i)) (first_exact l),
  upto ∙ sym (ap length log),
  subst IsRoomy (sym hints) (length-nothing_known l),
  subst (IsOfPlace table.place) (sym log) (λ i e at_i. absurd cc),
  clock ∙ sym (ap last_clock_in log),
)

-- the farther of a location and what a publish tells, as a pair
told_pair : (at : Location) (q ui : Ui) (place hop : ℕ) → pair_of (farther at (told_of q ui place hop)) ≡ (if same_ui ui q && nat_lt at.hop hop then (place, hop) else pair_of at)
told_pair at q ui place hop = by (same_ui ui q) (nat_lt at.hop hop) refl
  where
    choice : (b : Bool) → pair_of (cond b (record { to = place; hop = hop }) at) ≡ (if b then (place, hop) else pair_of at)
    choice true = refl
    choice false = refl

    by : (s b : Bool) → nat_lt at.hop hop ≡ b → pair_of (farther at (if s then Some (record { to = place; hop = hop }) else None)) ≡ (if s && nat_lt at.hop hop then (place, hop) else pair_of at)
    by true b e = choice (nat_lt at.hop hop)
    by false b e = refl

module _ (shown : Table) (o : Publish) (fine : Fine shown) (kind : o.ui.kind ≡ Port) (can : can_make_port shown.hints.layout o.ui ≡ true)
    (count : o.upto ≡ length (entries_in o.seen.log)) (of_place : IsOfPlace shown.place (entries_in o.seen.log)) (last : o.clock ≡ last_clock_in (entries_in o.seen.log))
    (located : (q : Ui) → IsPortIn shown.hints.layout q → farther (located_after shown.hints.layout (stands_for shown) q) (told_of q o.ui o.place o.hop) ≡ located_after shown.hints.layout (entries_in o.seen.log) q) where
  abbrev known : Known
  known = shown.hints

  abbrev next : Known
  next = known_after known o.ui o.place o.hop

  listed : names_port known.layout o.ui ≡ true
  listed = and_from (same_kind o.ui.kind Port) (can_make_port known.layout o.ui) (ap (λ k. same_kind k Port) kind) can

  is_told : told known o ≡ next
  is_told = ap (λ (b : Bool). if b then next else known) listed

  same_layout : next.layout ≡ known.layout
  same_layout = layout-known_after known o.ui o.place o.hop

  -- where a port stands after the publish
  newest_next : (q : Ui) → newest next q ≡ (if same_ui o.ui q && nat_lt (newest known q).1 o.hop then (o.place, o.hop) else newest known q)
  newest_next q =
      ap (λ (l : Layout). newest_of l q (kept next q)) same_layout
      ∙ ap (newest_of known.layout q) (kept-known_after known o.ui o.place o.hop listed fine.2 q)
      ∙ newest-learned known.layout o.ui o.place o.hop (kept known) q

  exact_next : Exact next (entries_in o.seen.log)
  exact_next q here =
      let there : IsPortIn known.layout q = subst (λ (l : Layout). IsPortIn l q) same_layout here in
      let was : newest known q ≡ pair_of (located_after known.layout (stands_for shown) q) = fine.0 q there in
      newest_next q
      ∙ ap (λ (z : ℕ × ℕ). if same_ui o.ui q && nat_lt z.1 o.hop then (o.place, o.hop) else z) was
      ∙ sym (told_pair (located_after known.layout (stands_for shown) q) q o.ui o.place o.hop)
      ∙ ap pair_of (located q there)
      ∙ ap (λ (l : Layout). pair_of (located_after l (entries_in o.seen.log) q)) (sym same_layout)

  pub publishes : o.seen.book ≡ shown.seen.book → IsReady shown (o ∷ [])
  publishes book = (
    (
      subst (λ (k : Known). Exact k (entries_in o.seen.log)) (sym is_told) exact_next,
      count,
      subst IsRoomy (sym is_told) (length-known_after known o.ui o.place o.hop ∙ fine.2 ∙ ap (λ (l : Layout). l.sites * PORTS_PER_SITE_LIMIT) (sym same_layout)),
      of_place,
      last,
    ),
    book,
    ap (λ (k : Known). k.layout) is_told ∙ same_layout,
    refl,
  )
