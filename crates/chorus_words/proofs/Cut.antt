-- What clap makes of words that are values.
use Rattle.std.proofs.Common.{◌≡◌, ◌∙◌, ◌==◌, ◌&&◌, ◌<◌, ◌≤◌, ℕ, suc, Bool, true, false, not, true≢false, List, [], ◌∷◌, Option, Some, None, inl, inr, refl, sym, ap, ap₂, arith, codes, length, is_some, map, slice_get, Bor}
use Rattle.std.specs.Str.{bytes_eq}
use Rattle.std.specs.List.{list_all}
use Rattle.std.proofs.lemmas.Bool.{cases_lt}
use Rattle.clap.specs.Lexer.{long_of, short_of}
use Rattle.clap.specs.Kinds.{Kinds, or_else}
use Rattle.clap.specs.Walk.{Held, Row, Rule, Walk, arg_by_index, finished, first_of, idle, nothing_held, rows_of, to_positional, value, walk, walked, word_met}
use Rattle.clap.specs.Matches.{found_of}
use Rattle.clap.specs.Simple.{Shape, built, entered, is_simple, matches_of}
use Rattle.clap.specs.Takes.{default_passes, entered_passes, is_valid, settle_passes, step_passes, takes, turn_passes, walk_passes}
use Rattle.clap.specs.Faults.{fault_of, is_simple_and_free, step_fault, turn_fault, walk_fault}
use Rattle.clap.specs.declared.error.kind.ErrorKind.{ErrorKind}
use Rattle.clap.specs.declared.error.kind.ErrorKind.TheVariants as kind
use Rattle.clap.specs.declared.parser.matches.ArgMatches.{ArgMatches}
use Rattle.clap.proofs.WalkLemmas.{first_value-rows}
use Rattle.clap.proofs.OnLiterals.{clap_on_literals}
use Rattle.chorus_words.specs.Cutting.{IsCut, is_value, the_command}

abbrev pub Text : Type 0
Text = List ℕ

pub is_simple_command : is_simple the_command ≡ true
is_simple_command = refl

pub is_free_command : is_simple_and_free the_command ≡ true
is_free_command = refl

-- A word that does not begin with `-` is a value.

no_dashes : (a : ℕ) (az : Text) → (a == 45) ≡ false → bytes_eq (a ∷ az) (45 ∷ 45 ∷ []) ≡ false
no_dashes a az e = rw e refl

not_long : (a : ℕ) (az : Text) → (a == 45) ≡ false → long_of (a ∷ az) ≡ None
not_long a az e = rw e refl

not_short : (a : ℕ) (az : Text) → (a == 45) ≡ false → short_of (a ∷ az) ≡ None
not_short a az e = rw e refl

met : (c : List Rule) (p : ℕ) (a : ℕ) (az : Text) (h : Held) → (a == 45) ≡ false → word_met c [] false idle p (a ∷ az) h ≡ (h, value)
met c p a az h e = rw (no_dashes a az e, not_long a az e, not_short a az e) refl

-- between two words
abbrev between : Held → ℕ → Walk
between h p = record { held = h; waiting = idle; position = p; is_trailing = false; stopped = None }

stepped : (c : List Rule) (h : Held) (p : ℕ) (a : ℕ) (az : Text) → (a == 45) ≡ false
    → walked c [] (between h p) (a ∷ az) ≡ to_positional c (arg_by_index c p) (a ∷ az) (between h p) h
unfolding walked
stepped c h p a az e = rw (met c p a az h e) refl

turn_ok : (s : Shape) (h : Held) (p : ℕ) (a : ℕ) (az : Text) → (a == 45) ≡ false → turn_passes s [] (between h p) (a ∷ az) ≡ step_passes s p h value
turn_ok s h p a az e = rw (met s.rules p a az h e, no_dashes a az e, not_long a az e, not_short a az e) refl

turn_bad : (s : Shape) (h : Held) (p : ℕ) (a : ℕ) (az : Text) → (a == 45) ≡ false → turn_fault s [] (between h p) (a ∷ az) ≡ step_fault s p h value
turn_bad s h p a az e = rw (met s.rules p a az h e, no_dashes a az e, not_long a az e, not_short a az e) refl

-- The command, built, on one word, on two and on three.

abbrev the_shape : Shape
the_shape = (built the_command).top

abbrev the_rules : List Rule
the_rules = the_shape.rules

-- a word is the value of the rule at its position
abbrev takes_value : ℕ → Text → Held → Held
takes_value p word h = (to_positional the_rules (arg_by_index the_rules p) word (between h p) h).held

abbrev held_one : Text → Held
held_one a = takes_value 1 a nothing_held

abbrev held_two : Text → Text → Held
held_two a b = takes_value 2 b (held_one a)

abbrev held_three : Text → Text → Text → Held
held_three a b c = takes_value 3 c (held_two a b)

first_step : (a : ℕ) (az : Text) → (a == 45) ≡ false → walked the_rules [] (between nothing_held 1) (a ∷ az) ≡ between (held_one (a ∷ az)) 2
unfolding clap_on_literals
first_step a az e = stepped the_rules nothing_held 1 a az e ∙ refl

second_step : (v : Text) (b : ℕ) (bz : Text) → (b == 45) ≡ false → walked the_rules [] (between (held_one v) 2) (b ∷ bz) ≡ between (held_two v (b ∷ bz)) 3
unfolding clap_on_literals
second_step v b bz e = stepped the_rules (held_one v) 2 b bz e ∙ refl

third_step : (v w : Text) (c : ℕ) (cz : Text) → (c == 45) ≡ false
    → walked the_rules [] (between (held_two v w) 3) (c ∷ cz) ≡ between (held_three v w (c ∷ cz)) 4
unfolding clap_on_literals
third_step v w c cz e = stepped the_rules (held_two v w) 3 c cz e ∙ refl

walk_one : (a : ℕ) (az : Text) → (a == 45) ≡ false → walk the_rules [] nothing_held ((a ∷ az) ∷ []) ≡ between (held_one (a ∷ az)) 2
walk_one a az e = first_step a az e

walk_two : (a : ℕ) (az : Text) (b : ℕ) (bz : Text) → (a == 45) ≡ false → (b == 45) ≡ false
    → walk the_rules [] nothing_held ((a ∷ az) ∷ (b ∷ bz) ∷ []) ≡ between (held_two (a ∷ az) (b ∷ bz)) 3
walk_two a az b bz e f = ap (λ (w : Walk). walked the_rules [] w (b ∷ bz)) (first_step a az e) ∙ second_step (a ∷ az) b bz f

walk_three : (a : ℕ) (az : Text) (b : ℕ) (bz : Text) (c : ℕ) (cz : Text) → (a == 45) ≡ false → (b == 45) ≡ false → (c == 45) ≡ false
    → walk the_rules [] nothing_held ((a ∷ az) ∷ (b ∷ bz) ∷ (c ∷ cz) ∷ []) ≡ between (held_three (a ∷ az) (b ∷ bz) (c ∷ cz)) 4
walk_three a az b bz c cz e f g =
    ap (λ (w : Walk). walked the_rules [] w (c ∷ cz)) (walk_two a az b bz e f) ∙ third_step (a ∷ az) (b ∷ bz) c cz g

-- What is found.

abbrev pub Three : Type 0
Three = Option Text × Option Text × Option Text

abbrev pub found : List Row → Three
found rows = (first_of (codes "what") rows, first_of (codes "first") rows, first_of (codes "second") rows)

abbrev found_by : Walk → Three
found_by w = found (finished the_rules w.held)

found_none : found (matches_of the_command []) ≡ (None, None, None)
unfolding clap_on_literals
found_none = refl

found_one : (a : ℕ) (az : Text) → (a == 45) ≡ false → found (matches_of the_command ((a ∷ az) ∷ [])) ≡ (Some (a ∷ az), None, None)
unfolding clap_on_literals
found_one a az e = ap found_by (walk_one a az e) ∙ refl

found_two : (a : ℕ) (az : Text) (b : ℕ) (bz : Text) → (a == 45) ≡ false → (b == 45) ≡ false
    → found (matches_of the_command ((a ∷ az) ∷ (b ∷ bz) ∷ [])) ≡ (Some (a ∷ az), Some (b ∷ bz), None)
unfolding clap_on_literals
found_two a az b bz e f = ap found_by (walk_two a az b bz e f) ∙ refl

found_three : (a : ℕ) (az : Text) (b : ℕ) (bz : Text) (c : ℕ) (cz : Text) → (a == 45) ≡ false → (b == 45) ≡ false → (c == 45) ≡ false
    → found (matches_of the_command ((a ∷ az) ∷ (b ∷ bz) ∷ (c ∷ cz) ∷ [])) ≡ (Some (a ∷ az), Some (b ∷ bz), Some (c ∷ cz))
unfolding clap_on_literals
found_three a az b bz c cz e f g = ap found_by (walk_three a az b bz c cz e f g) ∙ refl

-- The words are taken.

passes_step : (s : Shape) (h : Held) (p : ℕ) (w : Walk) (a : ℕ) (az : Text) (rest : List Text) → (a == 45) ≡ false
    → walked s.rules [] (between h p) (a ∷ az) ≡ w → step_passes s p h value ≡ true → walk_passes s [] w rest ≡ true
    → walk_passes s [] (between h p) ((a ∷ az) ∷ rest) ≡ true
unfolding walk_passes
passes_step s h p w a az rest e step ok later = ap₂ (λ t v. t && walk_passes s [] v rest) (turn_ok s h p a az e ∙ ok) step ∙ later

passes_three : (v w : Text) (c : ℕ) (cz : Text) → (c == 45) ≡ false → walk_passes the_shape [] (between (held_two v w) 3) ((c ∷ cz) ∷ []) ≡ true
unfolding clap_on_literals
passes_three v w c cz e = passes_step the_shape (held_two v w) 3 (between (held_three v w (c ∷ cz)) 4) c cz [] e (third_step v w c cz e) refl refl

passes_two : (v : Text) (b : ℕ) (bz : Text) (rest : List Text) → (b == 45) ≡ false
    → walk_passes the_shape [] (between (held_two v (b ∷ bz)) 3) rest ≡ true → walk_passes the_shape [] (between (held_one v) 2) ((b ∷ bz) ∷ rest) ≡ true
unfolding clap_on_literals
passes_two v b bz rest e later = passes_step the_shape (held_one v) 2 (between (held_two v (b ∷ bz)) 3) b bz rest e (second_step v b bz e) refl later

passes_one : (a : ℕ) (az : Text) (rest : List Text) → (a == 45) ≡ false
    → walk_passes the_shape [] (between (held_one (a ∷ az)) 2) rest ≡ true → walk_passes the_shape [] (between nothing_held 1) ((a ∷ az) ∷ rest) ≡ true
unfolding clap_on_literals
passes_one a az rest e later = passes_step the_shape nothing_held 1 (between (held_one (a ∷ az)) 2) a az rest e (first_step a az e) refl later

-- what is tested behind the walk
abbrev ends_well : Walk → Bool
ends_well w = settle_passes the_rules the_shape.args_override_self w.held && (list_all default_passes the_rules
    && is_valid the_shape (finished the_rules w.held) (is_some (entered (built the_command) w.stopped)))

abbrev takes_by : Walk → Bool → Bool
takes_by w passes = entered_passes (built the_command) w.stopped && (passes && ends_well w)

takes_none : takes the_command [] ≡ true
unfolding clap_on_literals
takes_none = refl

takes_one : (a : ℕ) (az : Text) → (a == 45) ≡ false → takes the_command ((a ∷ az) ∷ []) ≡ true
unfolding clap_on_literals
takes_one a az e = ap₂ takes_by (walk_one a az e) (passes_one a az [] e refl) ∙ refl

takes_two : (a : ℕ) (az : Text) (b : ℕ) (bz : Text) → (a == 45) ≡ false → (b == 45) ≡ false → takes the_command ((a ∷ az) ∷ (b ∷ bz) ∷ []) ≡ true
unfolding clap_on_literals
takes_two a az b bz e f = ap₂ takes_by (walk_two a az b bz e f) (passes_one a az ((b ∷ bz) ∷ []) e (passes_two (a ∷ az) b bz [] f refl)) ∙ refl

takes_three : (a : ℕ) (az : Text) (b : ℕ) (bz : Text) (c : ℕ) (cz : Text) → (a == 45) ≡ false → (b == 45) ≡ false → (c == 45) ≡ false
    → takes the_command ((a ∷ az) ∷ (b ∷ bz) ∷ (c ∷ cz) ∷ []) ≡ true
unfolding clap_on_literals
takes_three a az b bz c cz e f g = ap₂ takes_by (walk_three a az b bz c cz e f g)
    (passes_one a az ((b ∷ bz) ∷ (c ∷ cz) ∷ []) e (passes_two (a ∷ az) b bz ((c ∷ cz) ∷ []) f (passes_three (a ∷ az) (b ∷ bz) c cz g))) ∙ refl

-- A fourth word is refused.

fault_step : (s : Shape) (h : Held) (p : ℕ) (w : Walk) (a : ℕ) (az : Text) (rest : List Text) → (a == 45) ≡ false
    → walked s.rules [] (between h p) (a ∷ az) ≡ w
    → walk_fault s [] (between h p) ((a ∷ az) ∷ rest) ≡ or_else (step_fault s p h value) (walk_fault s [] w rest)
unfolding walk_fault
fault_step s h p w a az rest e step = ap₂ (λ t v. or_else t (walk_fault s [] v rest)) (turn_bad s h p a az e) step

fault_last : (h : Held) (d : ℕ) (dz : Text) (rest : List Text) → (d == 45) ≡ false
    → walk_fault the_shape [] (between h 4) ((d ∷ dz) ∷ rest) ≡ kind.UnknownArgument ∷ []
unfolding clap_on_literals
fault_last h d dz rest e = fault_step the_shape h 4 (walked the_rules [] (between h 4) (d ∷ dz)) d dz rest e refl ∙ refl

first_kind : (faults later : Kinds) → faults ≡ kind.UnknownArgument ∷ [] → or_else faults later ≡ kind.UnknownArgument ∷ []
first_kind faults later e = rw e refl

refused_four : (a : ℕ) (az : Text) (b : ℕ) (bz : Text) (c : ℕ) (cz : Text) (d : ℕ) (dz : Text) (rest : List Text)
    → (a == 45) ≡ false → (b == 45) ≡ false → (c == 45) ≡ false → (d == 45) ≡ false
    → fault_of the_command ((a ∷ az) ∷ (b ∷ bz) ∷ (c ∷ cz) ∷ (d ∷ dz) ∷ rest) ≡ kind.UnknownArgument ∷ []
unfolding clap_on_literals
refused_four a az b bz c cz d dz rest e f g h = first_kind _ _
    (fault_step the_shape nothing_held 1 (between (held_one (a ∷ az)) 2) a az ((b ∷ bz) ∷ (c ∷ cz) ∷ (d ∷ dz) ∷ rest) e (first_step a az e)
    ∙ (fault_step the_shape (held_one (a ∷ az)) 2 (between (held_two (a ∷ az) (b ∷ bz)) 3) b bz ((c ∷ cz) ∷ (d ∷ dz) ∷ rest) f (second_step (a ∷ az) b bz f)
    ∙ (fault_step the_shape (held_two (a ∷ az) (b ∷ bz)) 3 (between (held_three (a ∷ az) (b ∷ bz) (c ∷ cz)) 4) c cz ((d ∷ dz) ∷ rest) g (third_step (a ∷ az) (b ∷ bz) c cz g)
    ∙ fault_last (held_three (a ∷ az) (b ∷ bz) (c ∷ cz)) d dz rest h)))

-- All of it, of any words that are values.

begins : (c : ℕ) → not (c == 45) ≡ true → (c == 45) ≡ false
begins c e = go (c == 45) e
  where
    go : (b : Bool) → not b ≡ true → b ≡ false
    go true e = absurd (true≢false (sym e))
    go false e = refl

both : (a b : Bool) → (a && b) ≡ true → (a ≡ true) × (b ≡ true)
both true b e = (refl, e)
both false b e = absurd (true≢false (sym e))

behind : (w : Text) (ws : List Text) → list_all is_value (w ∷ ws) ≡ true → list_all is_value ws ≡ true
behind w ws v = (both (is_value w) (list_all is_value ws) v).1

some_kind : (k : ErrorKind) (ks : Kinds) → k ∷ ks ≡ [] → ⊥
some_kind k ks e = let bad : suc (length ks) ≡ 0 = ap length e in absurd (omega arith)

pub few : (ws : List Text) → list_all is_value ws ≡ true → fault_of the_command ws ≡ [] → length ws ≤ 3
few [] v f = omega arith
few (a ∷ []) v f = omega arith
few (a ∷ b ∷ []) v f = omega arith
few (a ∷ b ∷ c ∷ []) v f = omega arith
few ([] ∷ b ∷ c ∷ d ∷ rest) v f = absurd (true≢false (sym v))
few ((x ∷ xs) ∷ [] ∷ c ∷ d ∷ rest) v f = absurd (true≢false (sym (both _ _ v).1))
few ((x ∷ xs) ∷ (y ∷ ys) ∷ [] ∷ d ∷ rest) v f = absurd (true≢false (sym (both _ _ (both _ _ v).1).1))
few ((x ∷ xs) ∷ (y ∷ ys) ∷ (z ∷ zs) ∷ [] ∷ rest) v f =
    absurd (true≢false (sym (behind (z ∷ zs) ([] ∷ rest) (behind (y ∷ ys) ((z ∷ zs) ∷ [] ∷ rest) (behind (x ∷ xs) ((y ∷ ys) ∷ (z ∷ zs) ∷ [] ∷ rest) v)))))
few ((x ∷ xs) ∷ (y ∷ ys) ∷ (z ∷ zs) ∷ (u ∷ us) ∷ rest) v f =
    let v₁ = both _ _ v in
    let v₂ = both _ _ v₁.1 in
    let v₃ = both _ _ v₂.1 in
    let v₄ = both _ _ v₃.1 in
    absurd (some_kind _ _ (sym (refused_four x xs y ys z zs u us rest (begins x v₁.0) (begins y v₂.0) (begins z v₃.0) (begins u v₄.0)) ∙ f))

pub found_at : (ws : List Text) → list_all is_value ws ≡ true → length ws ≤ 3
    → found (matches_of the_command ws) ≡ (slice_get ws 0, slice_get ws 1, slice_get ws 2)
found_at [] v l = found_none
found_at ([] ∷ rest) v l = absurd (true≢false (sym v))
found_at ((x ∷ xs) ∷ []) v l = found_one x xs (begins x (both _ _ v).0)
found_at ((x ∷ xs) ∷ [] ∷ rest) v l = absurd (true≢false (sym (both _ _ v).1))
found_at ((x ∷ xs) ∷ (y ∷ ys) ∷ []) v l = found_two x xs y ys (begins x (both _ _ v).0) (begins y (both _ _ (both _ _ v).1).0)
found_at ((x ∷ xs) ∷ (y ∷ ys) ∷ [] ∷ rest) v l = absurd (true≢false (sym (both _ _ (both _ _ v).1).1))
found_at ((x ∷ xs) ∷ (y ∷ ys) ∷ (z ∷ zs) ∷ []) v l =
    let v₁ = both _ _ v in
    let v₂ = both _ _ v₁.1 in
    found_three x xs y ys z zs (begins x v₁.0) (begins y v₂.0) (begins z (both _ _ v₂.1).0)
found_at (a ∷ b ∷ c ∷ d ∷ rest) v l = absurd (omega arith)

pub takes_at : (ws : List Text) → list_all is_value ws ≡ true → length ws ≤ 3 → takes the_command ws ≡ true
takes_at [] v l = takes_none
takes_at ([] ∷ rest) v l = absurd (true≢false (sym v))
takes_at ((x ∷ xs) ∷ []) v l = takes_one x xs (begins x (both _ _ v).0)
takes_at ((x ∷ xs) ∷ [] ∷ rest) v l = absurd (true≢false (sym (both _ _ v).1))
takes_at ((x ∷ xs) ∷ (y ∷ ys) ∷ []) v l = takes_two x xs y ys (begins x (both _ _ v).0) (begins y (both _ _ (both _ _ v).1).0)
takes_at ((x ∷ xs) ∷ (y ∷ ys) ∷ [] ∷ rest) v l = absurd (true≢false (sym (both _ _ (both _ _ v).1).1))
takes_at ((x ∷ xs) ∷ (y ∷ ys) ∷ (z ∷ zs) ∷ []) v l =
    let v₁ = both _ _ v in
    let v₂ = both _ _ v₁.1 in
    takes_three x xs y ys z zs (begins x v₁.0) (begins y v₂.0) (begins z (both _ _ v₂.1).0)
takes_at (a ∷ b ∷ c ∷ d ∷ rest) v l = absurd (omega arith)

pub cut_at : (ws : List Text) (m : ArgMatches) → list_all is_value ws ≡ true → fault_of the_command ws ≡ []
    → rows_of (found_of m) ≡ matches_of the_command ws → IsCut ws m
cut_at ws m v f r =
    let l = few ws v f in
    let three = found_at ws v l in
    record {
      few = l;
      what = first_value-rows (found_of m) (codes "what") ∙ ap (first_of (codes "what")) r ∙ ap (λ (t : Three). t.0) three;
      first = first_value-rows (found_of m) (codes "first") ∙ ap (first_of (codes "first")) r ∙ ap (λ (t : Three). t.1) three;
      second = first_value-rows (found_of m) (codes "second") ∙ ap (first_of (codes "second")) r ∙ ap (λ (t : Three). t.2) three;
    }

-- words that a command refuses are too many
pub too_many : (ws : List Text) → list_all is_value ws ≡ true → (takes the_command ws ≡ true → ⊥) → 3 < length ws
too_many ws v refused = elim (cases_lt 3 (length ws)) [
  | inl more ↦ more
  | inr less ↦ absurd (refused (takes_at ws v less))
]

-- the words behind references
pub values_of_map : (ws : List (Bor Text)) → list_all (λ w. is_value w.now) ws ≡ list_all is_value (map (λ w. w.now) ws)
values_of_map [] = refl
values_of_map (w ∷ ws) = ap (λ b. is_value w.now && b) (values_of_map ws)
