-- A load: its tasks come by its callers, give each seat its commands, and may be done one after the other.
use Rattle.std.proofs.Common.{ℕ, zero, suc, ◌≡◌, ◌≢◌, ◌<◌, ◌≤◌, ◌+◌, ◌-◌, ◌/◌, ◌%◌, ◌^◌, ◌==◌, nat_le, nat_lt, Bool, true, false, not, ◌&&◌, cond, List, [], ◌∷◌, ◌++◌, length, map, take, drop, reverse, decimal, Some, slice_get, refl, sym, ◌∙◌, ap, ap₂, subst, append_assoc, append-nil, inl, inr, arith}
use Rattle.std.specs.List.{list_all}
use Rattle.std.proofs.lemmas.Bool.{and_parts, and_from, le-leb, eq-eqb, ne_eqb}
use Rattle.std.proofs.lemmas.Fmt.{length-decimal-le}
use Rattle.std.proofs.lemmas.List.{reverse-append, reverse-reverse, length-reverse}
use Rattle.chorus_ui.specs.declared.ui.Ui.{Ui}
use Rattle.chorus_ui.specs.declared.limits.TheConstants.{BODY_LIMIT, SEATS_LIMIT}
use Rattle.chorus_ui.specs.Layout.{IsLayout, has_actor, has_place}
use Rattle.chorus_entry.specs.Command.{is_post, has_body_in_limit, meets_conditions}
use Rattle.chorus_entry.specs.declared.command.Command.{Command}
use Rattle.chorus_entry.specs.declared.dest.Dest.{Dest}
use Rattle.law_network.specs.Network.{NetState, Enter, Act, Deliver, happened, numbers}
use Rattle.law_network.specs.Calls.{first_actor, starting, last_of, entering}
use Rattle.law_network.specs.Tasks.{Task, Do, Drain, commands_in}
use Rattle.chorus_net.specs.declared.closed.Closed.{Closed}
use Rattle.chorus_show.specs.declared.status.Status.{Status}
use Rattle.chorus_replay.specs.declared.draws.Draw.{Draw}
use Rattle.chorus_replay.specs.declared.draws.TheConstants.{LOAD_SITES}
use Rattle.chorus_replay.specs.declared.loading.TheConstants.{LOAD_LIMIT}
use Rattle.chorus_merge.specs.Merge.{merged}
use Rattle.chorus_show.specs.Summary.{summary_text}
use Rattle.chorus_replay.specs.Laws.{LoadsOnce}
use Rattle.chorus_replay.specs.Ordered.{IsOrdered}
use Rattle.chorus_replay.specs.Order.{after_setup}
use Rattle.chorus_replay.specs.Performing.{AreLeft}
use Rattle.chorus_draw.specs.Draws.{next_state, number_of}
use Rattle.chorus_replay.specs.Load.{load_layout, load_actor, load_port, load_group, site_by, drawn_command, drawn, draws, load_setup, enter_site, load_entering, turn_tasks, turns, to_draw, to_enter, load_order, load_tasks, load_callers, drawn_for, load_commands, Loads}
use Rattle.chorus_replay.proofs.Given.{commands-append, commands-reverse, own-acts, other-acts}
use Rattle.chorus_replay.proofs.Callers.{AreComers, actors_by, actors-append, actors-reverse, acts-none}
use Rattle.chorus_replay.proofs.Needs.{HasAll, NeedsOn, not-false, all-of, on-append, on-still, may-all}
use Rattle.chorus_replay.proofs.Plays.{AreOf, plays}
use Rattle.chorus_replay.proofs.Stepping.{CanBe}
use Rattle.chorus_replay.proofs.Once.{ordered-once}
use Rattle.chorus_replay.proofs.Loops.{drop-next, take-next, acts-now}

-- The setup, by its numbers.

get-numbers : (m p i : ℕ) → i < m → slice_get (numbers m p) i ≡ Some (p + i)
get-numbers zero p i h = absurd (omega (arith, h))
get-numbers (suc m) p zero h = ap (λ (x : ℕ). Some x) (same p)
  where
    same : (p : ℕ) → p ≡ p + 0
    same p = omega arith
get-numbers (suc m) p (suc i) h = get-numbers m (p + 1) i (omega (arith, h)) ∙ ap (λ (x : ℕ). Some x) (next p i)
  where
    next : (p i : ℕ) → p + 1 + i ≡ p + suc i
    next p i = omega arith

-- The callers.

still-turn : (d : Draw) → actors_by (turn_tasks d) ≡ []
still-turn d = go (d.from == d.to)
  where
    go : (b : Bool) → actors_by (cond b [] (Do (Deliver 0 d.from d.to) ∷ [])) ≡ []
    go true = refl
    go false = refl

still-turns : (ds : List Draw) → actors_by (turns ds) ≡ []
still-turns [] = refl
still-turns (d ∷ ds) =
    actors-append (turn_tasks d) (turns ds) ∙ ap₂ (λ xs ys. xs ++ ys) (still-turn d) (still-turns ds)

enter-actors : (sites : List ℕ) → actors_by (map Do (map enter_site sites)) ≡ map load_actor sites
enter-actors [] = refl
enter-actors (site ∷ sites) = ap (λ z. load_actor site ∷ z) (enter-actors sites)

actors-load : (first commands : ℕ) → actors_by (load_order first commands) ≡ first_actor ∷ map load_actor (numbers LOAD_SITES 1)
actors-load first commands =
    let ds = draws commands 1 first in
    let actors = map load_actor (numbers LOAD_SITES 1) in
    ap (λ z. first_actor ∷ z)
    (actors-append (map Do (map (Act 0) load_setup)) (to_enter first commands)
    ∙ ap₂ (λ xs ys. xs ++ ys) (acts-none 0 load_setup)
    (actors-append (map Do load_entering) (to_draw commands 1 first)
    ∙ ap₂ (λ xs ys. xs ++ ys) (enter-actors (numbers LOAD_SITES 1))
    (actors-append (turns ds) (Drain 0 ∷ []) ∙ ap (λ xs. xs ++ []) (still-turns ds))
    ∙ append-nil actors))

load-comers : (first commands : ℕ) → AreComers (load_tasks first commands) load_callers
load-comers first commands k =
    let order = load_order first commands in
    ap (λ z. slice_get z k) (ap reverse (actors-reverse order) ∙ reverse-reverse (actors_by order) ∙ actors-load first commands)

pub load-seats : (first commands : ℕ) → length (actors_by (load_order first commands)) < SEATS_LIMIT
load-seats first commands = (let few = ap length (actors-load first commands) in bound (length (actors_by (load_order first commands))) few)
  where
    bound : (n : ℕ) → n ≡ 9 → n < SEATS_LIMIT
    bound n h = omega (arith, h)

-- The commands.

turn-gives : (k : ℕ) (d : Draw) (rest : List Command) → commands_in k (turn_tasks d) ++ rest ≡ cond (d.seat == k) (d.command ∷ rest) rest
turn-gives k d rest = by-places (d.from == d.to) (d.seat == k)
  where
    by-seat : (b : Bool) (none : List Command) → none ≡ [] → cond b (d.command ∷ none) none ++ rest ≡ cond b (d.command ∷ rest) rest
    by-seat true none e = ap (λ z. d.command ∷ (z ++ rest)) e
    by-seat false none e = ap (λ z. z ++ rest) e

    by-places : (c b : Bool) → cond b (d.command ∷ commands_in k (cond c [] (Do (Deliver 0 d.from d.to) ∷ []))) (commands_in k (cond c [] (Do (Deliver 0 d.from d.to) ∷ []))) ++ rest ≡ cond b (d.command ∷ rest) rest
    by-places true b = by-seat b [] refl
    by-places false b = by-seat b [] refl

turns-give : (k : ℕ) (ds : List Draw) → commands_in k (turns ds) ≡ drawn_for k ds
turns-give k [] = refl
turns-give k (d ∷ ds) =
    commands-append k (turn_tasks d) (turns ds)
    ∙ turn-gives k d (commands_in k (turns ds))
    ∙ ap (λ rest. cond (d.seat == k) (d.command ∷ rest) rest) (turns-give k ds)

none-drawn : (count i x : ℕ) → drawn_for 0 (draws count i x) ≡ []
none-drawn zero i x = refl
none-drawn (suc count) i x =
    let d = drawn i (number_of (next_state x)) in
    let rest = drawn_for 0 (draws count (i + 1) (next_state x)) in
    ap (λ b. cond b (d.command ∷ rest) rest) (ne_eqb (site_by (i - 1)) 0 (λ e. above ((i - 1) % 8) e)) ∙ none-drawn count (i + 1) (next_state x)
  where
    above : (n : ℕ) → n + 1 ≡ 0 → ⊥
    above n e = omega (arith, e)

few-drawn : (k count i x : ℕ) → length (drawn_for k (draws count i x)) ≤ count
few-drawn k zero i x = omega arith
few-drawn k (suc count) i x =
    let d = drawn i (number_of (next_state x)) in
    let rest = drawn_for k (draws count (i + 1) (next_state x)) in
    go (d.seat == k) rest (few-drawn k count (i + 1) (next_state x))
  where
    go : (b : Bool) (rest : List Command) → length rest ≤ count → length (cond b ((drawn i (number_of (next_state x))).command ∷ rest) rest) ≤ suc count
    go true rest h = omega (arith, h)
    go false rest h = omega (arith, h)

none-enter : (k : ℕ) (sites : List ℕ) → commands_in k (map Do (map enter_site sites)) ≡ []
none-enter k [] = refl
none-enter k (site ∷ sites) = none-enter k sites

commands-load : (first commands k : ℕ) → commands_in k (load_order first commands) ≡ commands_in k (map Do (map (Act 0) load_setup)) ++ drawn_for k (draws commands 1 first)
commands-load first commands k =
    let ds = draws commands 1 first in
    commands-append k (map Do (map (Act 0) load_setup)) (to_enter first commands)
    ∙ ap (λ z. commands_in k (map Do (map (Act 0) load_setup)) ++ z)
    (commands-append k (map Do load_entering) (to_draw commands 1 first)
    ∙ ap₂ (λ xs ys. xs ++ ys) (none-enter k (numbers LOAD_SITES 1))
    (commands-append k (turns ds) (Drain 0 ∷ []) ∙ append-nil (commands_in k (turns ds)) ∙ turns-give k ds))

later : (first commands k : ℕ) → commands_in (suc k) (load_order first commands) ≡ drawn_for (suc k) (draws commands 1 first)
later first commands k =
    commands-load first commands (suc k)
    ∙ ap (λ z. z ++ drawn_for (suc k) (draws commands 1 first)) (other-acts (suc k) 0 load_setup (ne_eqb 0 (suc k) (λ e. omega (arith, e))))

load-gives : (first commands k : ℕ) (given : List Command) → load_commands first commands k ≡ Some given → commands_in k (load_tasks first commands) ≡ reverse given
load-gives first commands zero given h =
    let same : load_setup ≡ given = cc in
    commands-reverse 0 (load_order first commands)
    ∙ ap reverse (commands-load first commands 0
    ∙ ap₂ (λ xs ys. xs ++ ys) (own-acts 0 0 load_setup refl) (none-drawn commands 1 first) ∙ append-nil load_setup ∙ same)
load-gives first commands (suc k) given h =
    let same : drawn_for (suc k) (draws commands 1 first) ≡ given = cc in
    commands-reverse (suc k) (load_order first commands) ∙ ap reverse (later first commands k ∙ same)

-- Each task may be done when those before it are carried out.

abbrev is_simple : Command → Bool
is_simple c = meets_conditions c && has_body_in_limit c && not (is_post c)

acts-need : (cs : List Command) → list_all is_simple cs ≡ true → NeedsOn load_layout 1 (map Do (map (Act 0) cs))
acts-need [] h = tt
acts-need (c ∷ cs) h =
    let two = and_parts (is_simple c) (list_all is_simple cs) h in
    let simple = and_parts (meets_conditions c && has_body_in_limit c) (not (is_post c)) two.0 in
    let meets = and_parts (meets_conditions c) (has_body_in_limit c) simple.0 in
    ((omega arith, (meets.0, (meets.1, inl (not-false (is_post c) simple.1)))), acts-need cs two.1)

enter-need : (n : ℕ) (sites : List ℕ) → list_all (λ site. has_actor load_layout (load_actor site)) sites ≡ true → NeedsOn load_layout n (map Do (map enter_site sites))
enter-need n [] h = tt
enter-need n (site ∷ sites) h =
    let two = and_parts (has_actor load_layout (load_actor site)) (list_all (λ (s : ℕ). has_actor load_layout (load_actor s)) sites) h in
    ((refl, two.0), enter-need (suc n) sites two.1)

-- a site that is drawn
site-high : (n : ℕ) → site_by n ≤ LOAD_SITES
site-high n = omega arith

site-place : (n : ℕ) → has_place load_layout (site_by n) ≡ true
site-place n = go (site_by n) (low (n % 8)) (site-high n)
  where
    low : (m : ℕ) → 1 ≤ m + 1
    low m = omega arith

    go : (s : ℕ) → 1 ≤ s → s ≤ LOAD_SITES → has_place load_layout s ≡ true
    go s low high = and_from (nat_le 1 s) (nat_le s LOAD_SITES) (le-leb 1 s low) (le-leb s LOAD_SITES high)

body-fits : (i : ℕ) → i ≤ LOAD_LIMIT → nat_le (length (decimal i)) BODY_LIMIT ≡ true
body-fits i h =
    le-leb (length (decimal i)) BODY_LIMIT (short (length (decimal i)) (length-decimal-le 5 i (omega arith) (below i h) (narrow i h)))
  where
    below : (i : ℕ) → i ≤ LOAD_LIMIT → i < 10 ^ 5
    below i h = omega (arith, h)

    narrow : (i : ℕ) → i ≤ LOAD_LIMIT → i < 2 ^ 64
    narrow i h = omega (arith, h)

    short : (n : ℕ) → n ≤ 5 → n ≤ BODY_LIMIT
    short n h = omega (arith, h)

abbrev MayGive : Command → Type 0
MayGive c = (meets_conditions c ≡ true) × (has_body_in_limit c ≡ true)

may-choose : (b : Bool) (c d : Command) → MayGive c → MayGive d → MayGive (cond b c d)
may-choose true c d one two = one
may-choose false c d one two = two

command-may : (i r : ℕ) → i ≤ LOAD_LIMIT → MayGive (drawn_command i r)
command-may i r h =
    let port = load_port (site_by (r / 8)) in
    let send = Command.Send (Dest.Port port) (decimal i) in
    let one = Command.Send (Dest.One load_group) (decimal i) in
    let move = Command.Move port (load_actor (site_by (r / 64))) in
    let moves = may-choose (r % 8 == 6) one move (refl, body-fits i h) (refl, refl) in
    let takes = may-choose (nat_lt (r % 8) 6) (Command.Take port) (cond (r % 8 == 6) one move) (refl, refl) moves in
    may-choose (nat_lt (r % 8) 4) send (cond (nat_lt (r % 8) 6) (Command.Take port) (cond (r % 8 == 6) one move)) (refl, body-fits i h) takes

turn-need : (i r : ℕ) → i ≤ LOAD_LIMIT → NeedsOn load_layout 9 (turn_tasks (drawn i r))
turn-need i r h =
    let may = command-may i r h in
    (((below (site_by (i - 1)) (site-high (i - 1))), (may.0, (may.1, inr (low ((i - 1) % 8))))), delivers (site_by (r / 512) == site_by (r / 4096)) refl)
  where
    below : (s : ℕ) → s ≤ LOAD_SITES → s < 9
    below s h = omega (arith, h)

    low : (m : ℕ) → 1 ≤ m + 1
    low m = omega arith

    delivers : (b : Bool) → (site_by (r / 512) == site_by (r / 4096)) ≡ b → NeedsOn load_layout 9 (cond b [] (Do (Deliver 0 (site_by (r / 512)) (site_by (r / 4096))) ∷ []))
    delivers true e = tt
    delivers false e = ((omega arith, (site-place (r / 512), (site-place (r / 4096), e))), tt)

turns-need : (count i x : ℕ) → count + i ≤ LOAD_LIMIT + 1 → NeedsOn load_layout 9 (turns (draws count i x))
turns-need zero i x h = tt
turns-need (suc count) i x h =
    let r = number_of (next_state x) in
    on-still load_layout 9 (turn_tasks (drawn i r)) (turns (draws count (i + 1) (next_state x))) (still-turn (drawn i r))
    (turn-need i r (omega (arith, h))) (turns-need count (i + 1) (next_state x) (omega (arith, h)))

load-shape : IsLayout load_layout
load-shape = record { sites_from_one = omega arith; sites_to_max = omega arith; turns_from_one = omega arith; turns_to_four = omega arith; turns_not_three = λ e. omega (arith, e) }

load-needs : (first commands : ℕ) → commands ≤ LOAD_LIMIT → NeedsOn load_layout 0 (load_order first commands)
load-needs first commands h =
    let ds = draws commands 1 first in
    let entered = ap length (enter-actors (numbers LOAD_SITES 1)) in (
      (refl, refl),
      on-still load_layout 1 (map Do (map (Act 0) load_setup)) (to_enter first commands) (acts-none 0 load_setup) (acts-need load_setup refl)
          (on-append load_layout 1 9 (map Do load_entering) (to_draw commands 1 first) (ap (λ n. n + 1) (sym entered)) (enter-need 1 (numbers LOAD_SITES 1) refl)
          (on-still load_layout 9 (turns ds) (Drain 0 ∷ []) (still-turns ds) (turns-need commands 1 first (omega (arith, h))) (omega arith, tt))),
    )

pub load-can : (first commands : ℕ) → commands ≤ LOAD_LIMIT → CanBe load_layout (load_order first commands)
load-can first commands h = record {
  shape = load-shape;
  may = may-all load_layout load-shape (load_tasks first commands)
      (subst (HasAll load_layout) (append-nil (load_tasks first commands)) (all-of load_layout [] (load_order first commands) (load-needs first commands h) tt))
      few;
}
  where
    few : (k : ℕ) → 1 ≤ k → length (commands_in k (load_tasks first commands)) ≤ LOAD_LIMIT
    few zero low = absurd (omega (arith, low))
    few (suc k) low =
        let given = ap length (load-gives first commands (suc k) (drawn_for (suc k) (draws commands 1 first)) refl) in
        let turned = length-reverse (drawn_for (suc k) (draws commands 1 first)) in
        let most = few-drawn (suc k) commands 1 first in
        omega (arith, given, turned, most, h)

-- What was closed plays the load.

pub loads : (first commands : ℕ) (status : Status) (closed : Closed) → IsOrdered load_layout (load_tasks first commands) status closed → Loads first commands status closed
loads first commands status closed is =
    let before = Do starting ∷ (map Do (map (Act 0) load_setup) ++ (map Do load_entering ++ turns (draws commands 1 first))) in
    let last : load_tasks first commands ≡ Drain 0 ∷ reverse before =
    ap reverse (ap (λ z. Do starting ∷ z)
    (ap (λ z. map Do (map (Act 0) load_setup) ++ z) (sym (append_assoc (map Do load_entering) (turns (draws commands 1 first)) (Drain 0 ∷ [])))
    ∙ sym (append_assoc (map Do (map (Act 0) load_setup)) (map Do load_entering ++ turns (draws commands 1 first)) (Drain 0 ∷ []))))
    ∙ reverse-append before (Drain 0 ∷ []) in
    let are : AreOf (load_tasks first commands) load_callers (load_commands first commands) =
    record { come = load-comers first commands; first = refl; give = load-gives first commands; before = reverse before; last = last } in
    record { plays = plays load_layout (load_tasks first commands) load_callers (load_commands first commands) are load-shape status closed is; ordered = is }

-- and two loads leave one outcome
pub loads-once : LoadsOnce
loads-once first commands s t one other a b =
    let same = ordered-once load_layout (load_tasks first commands) s t one other load-shape a.ordered b.ordered in
    (same.0, same.1, ap (λ js. summary_text (merged js)) (same.1).journals)

-- The loops of a load: what is left with one command, seat or draw more.

abbrev pub setup_left : ℕ → ℕ → ℕ → List Task
setup_left first commands i = map Do (map (Act 0) (drop i load_setup)) ++ to_enter first commands

pub setup-next : (first commands i : ℕ) (command : Command) (n : NetState) → slice_get load_setup i ≡ Some command → AreLeft load_layout (load_order first commands) (setup_left first commands i) n
    → AreLeft load_layout (load_order first commands) (Do (Act 0 command) ∷ setup_left first commands (i + 1)) n
setup-next first commands i command n at b =
    subst (λ ts. AreLeft load_layout (load_order first commands) ts n) (ap (λ cs. map Do (map (Act 0) cs) ++ to_enter first commands) (drop-next load_setup i command at)) b

pub setup-now : (i : ℕ) (command : Command) (n new : NetState) → slice_get load_setup i ≡ Some command → n ≡ after_setup load_layout (take i load_setup) → new ≡ happened (Act 0 command) n → new ≡ after_setup load_layout (take (i + 1) load_setup)
setup-now i command n new at now happens =
    acts-now load_layout (take i load_setup) command n new now happens ∙ ap (after_setup load_layout) (sym (take-next load_setup i command at))

abbrev pub seats_left : ℕ → ℕ → ℕ → List Task
seats_left first commands i = map Do (map enter_site (drop i (numbers LOAD_SITES 1))) ++ to_draw commands 1 first

pub seat-next : (first commands i : ℕ) (actor : Ui) (n : NetState) → actor ≡ load_actor (i + 1) → i < LOAD_SITES → slice_get n.callers 0 ≡ slice_get (after_setup load_layout load_setup).callers 0
    → AreLeft load_layout (load_order first commands) (seats_left first commands i) n → AreLeft load_layout (load_order first commands) (Do (entering actor n) ∷ seats_left first commands (i + 1)) n
seat-next first commands i actor n is h same b =
    subst (λ ts. AreLeft load_layout (load_order first commands) ts n)
    (ap (λ sites. map Do (map enter_site sites) ++ to_draw commands 1 first) (drop-next (numbers LOAD_SITES 1) i (i + 1) (get-numbers LOAD_SITES 1 i h ∙ ap (λ (x : ℕ). Some x) (turned i)))
    ∙ ap₂ (λ a o. Do (Enter a (last_of o)) ∷ seats_left first commands (i + 1)) (sym is) (sym same))
    b
  where
    turned : (i : ℕ) → 1 + i ≡ i + 1
    turned i = omega arith

draws-next : (first commands i x : ℕ) (n : NetState) → i < commands → AreLeft load_layout (load_order first commands) (to_draw (commands - i) (i + 1) x) n
    → AreLeft load_layout (load_order first commands) (turn_tasks (drawn (i + 1) (number_of (next_state x))) ++ to_draw (commands - (i + 1)) (i + 1 + 1) (next_state x)) n
draws-next first commands i x n h b =
    subst (λ ts. AreLeft load_layout (load_order first commands) ts n)
    (ap (λ count. to_draw count (i + 1) x) (less commands i h)
    ∙ append_assoc (turn_tasks (drawn (i + 1) (number_of (next_state x)))) (turns (draws (commands - (i + 1)) (i + 1 + 1) (next_state x))) (Drain 0 ∷ []))
    b
  where
    less : (commands i : ℕ) → i < commands → commands - i ≡ suc (commands - (i + 1))
    less commands i h = omega (arith, h)

-- what is behind a command that was drawn: nothing more where its two places are one, and else a delivery
abbrev pub behind : Draw → List Task → List Task
behind d rest = cond (d.from == d.to) [] (Do (Deliver 0 d.from d.to) ∷ []) ++ rest

pub no-delivery : (d : Draw) (rest : List Task) → d.from ≡ d.to → behind d rest ≡ rest
no-delivery d rest same = ap (λ b. cond b [] (Do (Deliver 0 d.from d.to) ∷ []) ++ rest) (eq-eqb d.from d.to same)

pub one-delivery : (d : Draw) (rest : List Task) → d.from ≢ d.to → behind d rest ≡ Do (Deliver 0 d.from d.to) ∷ rest
one-delivery d rest apart = ap (λ b. cond b [] (Do (Deliver 0 d.from d.to) ∷ []) ++ rest) (ne_eqb d.from d.to apart)

pub turn-next : (first commands i x state : ℕ) (d : Draw) (n : NetState) → state ≡ next_state x → d ≡ drawn (i + 1) (number_of state) → i < commands → AreLeft load_layout (load_order first commands) (to_draw (commands - i) (i + 1) x) n
    → AreLeft load_layout (load_order first commands) (Do (Act d.seat d.command) ∷ behind d (to_draw (commands - (i + 1)) (i + 1 + 1) state)) n
turn-next first commands i x state d n one two h b =
    subst (λ ts. AreLeft load_layout (load_order first commands) ts n)
    (ap₂ (λ y s. turn_tasks y ++ to_draw (commands - (i + 1)) (i + 1 + 1) s) (sym (two ∙ ap (λ s. drawn (i + 1) (number_of s)) one)) (sym one))
    (draws-next first commands i x n h b)
