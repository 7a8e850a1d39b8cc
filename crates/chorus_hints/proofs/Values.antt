-- What is known, as one value: at first, and after a lesson.
use Rattle.std.proofs.Common.{◌≡◌, ℕ, ◌*◌, ◌<◌, ◌≤◌, nat_lt, Bool, true, false, ◌&&◌, if◌then◌else◌, Option, Some, None, length, replicate, get_or, set, refl, sym, ◌∙◌, ap, arith}
use Rattle.std.proofs.lemmas.Bool.{and_parts}
use Rattle.std.proofs.lemmas.Bool.Decides.{nat_tests}
use Rattle.std.proofs.lemmas.List.{length-replicate, get_or-replicate, length-set, get_or-set_same, get_or-set_other}
use Rattle.chorus_ui.specs.declared.kind.Kind.TheVariants.{Port}
use Rattle.chorus_ui.specs.declared.layout.Layout.{Layout}
use Rattle.chorus_ui.specs.declared.limits.TheConstants.{PORTS_PER_SITE_LIMIT}
use Rattle.chorus_ui.specs.declared.ui.Ui.{Ui}
use Rattle.chorus_ui.specs.Kind.{same_kind}
use Rattle.chorus_ui.specs.Layout.{can_make_port, names_port, port_row}
use Rattle.chorus_ui.specs.Name.{same_ui}
use Rattle.chorus_ui.proofs.Names.{from_same_kind, from_same_ui, same_ui-self}
use Rattle.chorus_hints.specs.Known.{Known, kept, hop_of, learned, nothing_known, known_after}

abbrev Pair : Type 0
Pair = Option (ℕ × ℕ)

-- of a port that the layout can make
pub record Listed (layout : Layout) (q : Ui) : Type 0 where
  pub kind : q.kind ≡ Port
  pub site_from_one : 1 ≤ q.site
  pub site_to_last : q.site ≤ layout.sites
  pub number_from_one : 1 ≤ q.number
  pub number_to_last : q.number ≤ PORTS_PER_SITE_LIMIT

pub from_is_listed : (layout : Layout) (q : Ui) → names_port layout q ≡ true → Listed layout q
from_is_listed layout q h =
    let both = and_parts (same_kind q.kind Port) (can_make_port layout q) h in
    let can : can_make_port layout q ≡ true = both.1 in
    record {
      kind = from_same_kind q.kind Port both.0;
      site_from_one = grind (arith, nat_tests, can);
      site_to_last = grind (arith, nat_tests, can);
      number_from_one = grind (arith, nat_tests, can);
      number_to_last = grind (arith, nat_tests, can);
    }

-- each listed port has a row of its own
row_inside : (layout : Layout) (q : Ui) → Listed layout q → port_row q < layout.sites * PORTS_PER_SITE_LIMIT
row_inside layout q l =
    let a = l.site_from_one in let b = l.site_to_last in let c = l.number_from_one in let d = l.number_to_last in
    omega (arith, a, b, c, d)

rows_apart : (layout : Layout) (q r : Ui) → Listed layout q → Listed layout r → port_row q ≡ port_row r → q ≡ r
rows_apart layout q r l m same =
    let a = l.site_from_one in let b = m.site_from_one in let c = l.number_from_one in let d = l.number_to_last in
    let e = m.number_from_one in let f = m.number_to_last in
    let site : q.site ≡ r.site = omega (arith, a, b, c, d, e, f, same) in
    let number : q.number ≡ r.number = omega (arith, a, b, c, d, e, f, same) in
    let kind : q.kind ≡ r.kind = l.kind ∙ sym m.kind in
    λ i. record { site = site i; kind = kind i; number = number i }

pub kept-nothing_known : (layout : Layout) (q : Ui) → kept (nothing_known layout) q ≡ None
kept-nothing_known layout q = by (names_port layout q) refl
  where
    by : (b : Bool) → names_port layout q ≡ b → (if b then get_or {A = Pair} (replicate (layout.sites * PORTS_PER_SITE_LIMIT) None) (port_row q) None else None) ≡ None
    by true e = get_or-replicate {A = Pair} (layout.sites * PORTS_PER_SITE_LIMIT) (port_row q) None None (row_inside layout q (from_is_listed layout q e))
    by false e = refl

pub length-nothing_known : (layout : Layout) → length (nothing_known layout).pairs ≡ layout.sites * PORTS_PER_SITE_LIMIT
length-nothing_known layout = length-replicate {A = Pair} (layout.sites * PORTS_PER_SITE_LIMIT) None

pub layout-known_after : (known : Known) (port : Ui) (place hop : ℕ) → (known_after known port place hop).layout ≡ known.layout
layout-known_after known port place hop = by (nat_lt (hop_of (kept known port)) hop)
  where
    by : (b : Bool) → (if b then record known { pairs = set known.pairs (port_row port) (Some (place, hop)) } else known).layout ≡ known.layout
    by true = refl
    by false = refl

pub length-known_after : (known : Known) (port : Ui) (place hop : ℕ) → length (known_after known port place hop).pairs ≡ length known.pairs
length-known_after known port place hop = by (nat_lt (hop_of (kept known port)) hop)
  where
    by : (b : Bool) → length (if b then record known { pairs = set known.pairs (port_row port) (Some (place, hop)) } else known).pairs ≡ length known.pairs
    by true = length-set known.pairs (port_row port) (Some (place, hop))
    by false = refl

-- a pair that is put at the row of a listed port is that of this port alone
put_at : (known : Known) (port : Ui) (place hop : ℕ) → names_port known.layout port ≡ true → length known.pairs ≡ known.layout.sites * PORTS_PER_SITE_LIMIT
    → (q : Ui) → kept (record known { pairs = set known.pairs (port_row port) (Some (place, hop)) }) q ≡ (if same_ui port q then Some (place, hop) else kept known q)
put_at known port place hop listed long q = by (names_port known.layout q) (same_ui port q) refl refl
  where
    here : Listed known.layout port
    here = from_is_listed known.layout port listed

    inside : port_row port < length known.pairs
    inside = let within = row_inside known.layout port here in omega (arith, within, long)

    same_self : same_ui port port ≡ true
    same_self = same_ui-self port

    by : (b s : Bool) → names_port known.layout q ≡ b → same_ui port q ≡ s
        → (if b then get_or (set known.pairs (port_row port) (Some (place, hop))) (port_row q) None else None) ≡ (if s then Some (place, hop) else (if b then get_or known.pairs (port_row q) None else None))
    by true true eb es =
        let same : port ≡ q = from_same_ui port q es in
        ap (λ (u : Ui). get_or (set known.pairs (port_row port) (Some (place, hop))) (port_row u) None) (sym same) ∙ get_or-set_same known.pairs (port_row port) (Some (place, hop)) None inside
    by true false eb es =
        get_or-set_other known.pairs (port_row port) (port_row q) (Some (place, hop)) None
        (λ e. let same : port ≡ q = sym (rows_apart known.layout q port (from_is_listed known.layout q eb) here e) in let differ : true ≡ false = sym (ap (same_ui port) (sym same) ∙ same_self) ∙ es in cc)
    by false true eb es = let same : port ≡ q = from_same_ui port q es in let differ : true ≡ false = sym listed ∙ (ap (names_port known.layout) same ∙ eb) in absurd cc
    by false false eb es = refl

pub kept-known_after : (known : Known) (port : Ui) (place hop : ℕ) → names_port known.layout port ≡ true → length known.pairs ≡ known.layout.sites * PORTS_PER_SITE_LIMIT
    → (q : Ui) → kept (known_after known port place hop) q ≡ learned port place hop (kept known) q
kept-known_after known port place hop listed long q = by (nat_lt (hop_of (kept known port)) hop)
  where
    by : (b : Bool) → kept (if b then record known { pairs = set known.pairs (port_row port) (Some (place, hop)) } else known) q ≡ (if b && same_ui port q then Some (place, hop) else kept known q)
    by true = put_at known port place hop listed long q
    by false = refl
