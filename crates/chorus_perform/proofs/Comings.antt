-- The passes of scripts come and run.
use Rattle.std.specs.Result.{OnOk, OnErr, IfOk}
use Rattle.std.proofs.Common.{ℕ, zero, suc, ◌≡◌, ◌+◌, ◌<◌, nat_le, nat_lt, ◌&&◌, ◌||◌, Bool, true, false, List, [], ◌∷◌, ◌++◌, length, Some, Result, Ok, Err, slice_get, slice_index_or, refl, sym, ◌∙◌, ap, subst, inl, inr, arith}
use Rattle.std.specs.List.{All, list_all, list_any}
use Rattle.std.proofs.lemmas.Bool.{and_parts, cases_lt, leb-true, false≢true}
use Rattle.std.proofs.lemmas.Option.{slice_get_read}
use Rattle.std.proofs.lemmas.List.{append-nil, length-append, get_or_append_left}
use Rattle.std.proofs.Math.Seq.{get_or-append_seam}
use Rattle.std.proofs.lemmas.List.Elements.{All-nil, All-cons, All-head, All-tail}
use Rattle.chorus_ui.specs.declared.ui.Ui.{Ui}
use Rattle.chorus_ui.specs.declared.layout.Layout.{Layout}
use Rattle.chorus_ui.specs.Layout.{has_actor}
use Rattle.chorus_ui.specs.NameKind.{is_actor}
use Rattle.chorus_entry.specs.declared.command.Command.{Command}
use Rattle.chorus_entry.specs.Command.{meets_conditions}
use Rattle.chorus_calls.specs.Callers.{Seated}
use Rattle.chorus_turn.specs.declared.knowledge.Knowledge.{Knowledge}
use Rattle.law_closing.specs.Places.{PlaceNote}
use Rattle.chorus_scene.specs.Scene.{Scene, Script}
use Rattle.chorus_scene.specs.declared.limits.TheConstants.{COMMANDS_LIMIT}
use Rattle.chorus_scene.specs.Limits.{Keeps, script_keeps, command_keeps, command_is_of, is_of_version, is_actor_of, is_site, bytes_sent}
use Rattle.chorus_scene.specs.Grammar.{most_bytes}
use Rattle.chorus_report.specs.Reading.{has_wait}
use Rattle.chorus_nucleus.specs.declared.nucleus.Nucleus.{Nucleus}
use Rattle.chorus_nucleus.specs.declared.pass.Pass.{Pass}
use Rattle.chorus_nucleus.specs.Passes.{known, caller_of, worn_by, IsPassOf}
use Rattle.chorus_nucleus.specs.Coming.{Enters}
use Rattle.chorus_perform.specs.declared.runner.Runner.{Runner}
use Rattle.chorus_perform.specs.declared.stopped.Halted.{Halted}
use Rattle.chorus_perform.specs.Going.{Goes, GoesAsFar, MayPost, AllMeet}
use Rattle.chorus_perform.specs.Halting.{IsHalted}
use Rattle.chorus_perform.specs.Runners.{AreReady, AreEntered, HasEntered, IsNew, IsReadyAt, HasRunAt, WholeUnless}

-- A script of the scenario.

pub found-at : (xs ys : List Script) (i : ℕ) (x : Script) → xs ≡ ys → i < length ys → x ≡ slice_index_or xs i x → slice_get ys i ≡ Some x
found-at xs ys i x same lt is =
    slice_get_read ys (length ys) i x refl lt (is ∙ ap (λ (zs : List Script). slice_index_or zs i x) same)

same-script : (ys : List Script) (i : ℕ) (x y : Script) → slice_get ys i ≡ Some x → slice_get ys i ≡ Some y → x ≡ y
same-script ys i x y a b = let both : Some x ≡ Some y = sym a ∙ b in cc

all-get : {X : Type 0} (p : X → Bool) (xs : List X) (i : ℕ) (x : X) → list_all p xs ≡ true → slice_get xs i ≡ Some x → p x ≡ true
all-get p [] i x h found = absurd (cc)
all-get p (y ∷ xs) zero x h found = let is : y ≡ x = cc in ap p (sym is) ∙ (and_parts (p y) (list_all p xs) h).0
all-get p (y ∷ xs) (suc i) x h found = all-get p xs i x (and_parts (p y) (list_all p xs) h).1 found

commands-meet : (l : Layout) (version n : ℕ) (cs : List Command) → list_all (command_keeps l version n) cs ≡ true → AllMeet cs
commands-meet l version n [] h = All-nil (λ (command : Command). meets_conditions command ≡ true)
commands-meet l version n (c ∷ cs) h =
    let two = and_parts (command_keeps l version n c) (list_all (command_keeps l version n) cs) h in
    let a = and_parts (meets_conditions c && command_is_of l n c && nat_le (length (bytes_sent c)) (most_bytes version)) (is_of_version version c) two.0 in
    let b = and_parts (meets_conditions c && command_is_of l n c) (nat_le (length (bytes_sent c)) (most_bytes version)) a.0 in
    All-cons (λ (command : Command). meets_conditions command ≡ true) c cs (and_parts (meets_conditions c) (command_is_of l n c) b.0).0 (commands-meet l version n cs two.1)

module _ (c : Scene) (keeps : Keeps c) (i : ℕ) (script : Script) (at : slice_get c.scripts i ≡ Some script) where
  parts : ((is_actor_of c.layout c.sites script.actor && nat_le (length script.commands) COMMANDS_LIMIT) ≡ true) × (list_all (command_keeps c.layout c.version c.sites) script.commands ≡ true)
  parts = and_parts (is_actor_of c.layout c.sites script.actor && nat_le (length script.commands) COMMANDS_LIMIT) (list_all (command_keeps c.layout c.version c.sites) script.commands) (all-get (script_keeps c.layout c.version c.sites) c.scripts i script keeps.scripts at)

  two : (is_actor_of c.layout c.sites script.actor ≡ true) × (nat_le (length script.commands) COMMANDS_LIMIT ≡ true)
  two = and_parts (is_actor_of c.layout c.sites script.actor) (nat_le (length script.commands) COMMANDS_LIMIT) parts.0

  pub script-actor : (is_actor script.actor ≡ true) × (has_actor c.layout script.actor ≡ true)
  script-actor = and_parts (is_actor script.actor) (has_actor c.layout script.actor) (and_parts (is_actor script.actor && has_actor c.layout script.actor) (is_site c.sites script.actor.site) two.0).0

  pub script-meets : AllMeet script.commands
  script-meets = commands-meet c.layout c.version c.sites script.commands parts.1

  pub script-may : (cs : List Command) (pass : Pass) → cs ≡ script.commands → IsNew (i + 1) script.actor pass → MayPost (length cs) pass
  script-may cs pass same new =
      let n = leb-true (length script.commands) COMMANDS_LIMIT two.1 in
      let e = ap (λ (xs : List Command). length xs) same in
      let p = new.posts in
      omega (arith, n, e, p)

-- It runs.

-- where nothing waits, no script does
some-wait : (scripts : List Script) → All (λ (s : Script). s.waits ≡ []) scripts → list_any (λ (s : Script). nat_lt 0 (length s.waits)) scripts ≡ false
some-wait [] none = refl
some-wait (s ∷ scripts) none =
    ap (λ (is : List ℕ). nat_lt 0 (length is) || list_any (λ (z : Script). nat_lt 0 (length z.waits)) scripts) (All-head (λ (z : Script). z.waits ≡ []) s scripts none)
    ∙ some-wait scripts (All-tail (λ (z : Script). z.waits ≡ []) s scripts none)

pub has-run : (n : Nucleus) (c : Scene) (i : ℕ) (script : Script) (a : Runner) (d : Pass) (r : Result Bool Halted) (waits : Bool) → slice_get c.scripts i ≡ Some script → IsPassOf n d → (r ≡ Ok true → Goes script.commands a.pass d) → GoesAsFar script.commands a.pass d
    → waits ≡ has_wait c → (waits ≡ false → IfOk r (λ all. all ≡ true)) → OnOk r (worn_by d ≡ worn_by a.pass) → OnErr r (IsHalted n d) → HasRunAt n c i a (record { pass = d; ended = r })
has-run n c i script a d r waits at pass whole first asked plain unworn halted =
    let none : WholeUnless c r = λ no. plain (asked ∙ some-wait c.scripts no) in by r whole none unworn halted
  where
    by : (r : Result Bool Halted) → (r ≡ Ok true → Goes script.commands a.pass d) → WholeUnless c r → OnOk r (worn_by d ≡ worn_by a.pass) → OnErr r (IsHalted n d) → HasRunAt n c i a (record { pass = d; ended = r })
    by (Ok true) whole none unworn halted = record {
      pass = pass;
      script = script;
      is = at;
      given = script.commands;
      left = [];
      whole = sym (append-nil script.commands);
      goes = whole refl;
      all = λ e. refl;
      plain = none;
      unworn = unworn;
      halted = halted;
    }
    by (Ok false) whole none unworn halted = record {
      pass = pass;
      script = script;
      is = at;
      given = first.given;
      left = first.left;
      whole = first.whole;
      goes = first.goes;
      all = λ e. absurd (false≢true e);
      plain = none;
      unworn = unworn;
      halted = halted;
    }
    by (Err e) whole none unworn halted = record {
      pass = pass;
      script = script;
      is = at;
      given = first.given;
      left = first.left;
      whole = first.whole;
      goes = first.goes;
      all = λ e. absurd (false≢true e);
      plain = none;
      unworn = unworn;
      halted = halted;
    }

-- It comes.

pub entered-more : (n : Nucleus) (actor : Ui) (a b d p : Pass) (k : ℕ) → HasEntered k a b → Enters n actor b d p → caller_of d ≡ caller_of b → worn_by d ≡ worn_by b → HasEntered (k + 1) a d
entered-more n actor a b d p k e new same worn = record {
  keeper = record {
    seat = ap (λ (v : Knowledge PlaceNote). v.seat) new.drawn ∙ e.keeper.seat;
    keeper = ap (λ (v : Knowledge PlaceNote). v.keeper) new.drawn ∙ e.keeper.keeper;
    made = (let made = ap (λ (v : Knowledge PlaceNote). v.made) new.drawn in let was = e.keeper.made in omega (arith, made, was));
    notes = ap (λ (v : Knowledge PlaceNote). v.notes) new.drawn ∙ e.keeper.notes;
  };
  mine = ap (λ (v : Knowledge PlaceNote). v.mine) new.drawn ∙ e.mine;
  caller = same ∙ e.caller;
  worn = worn ∙ e.worn;
}

pub entered-same : (a b d : Pass) (k : ℕ) → HasEntered k a b → known d ≡ known b → caller_of d ≡ caller_of b → worn_by d ≡ worn_by b → HasEntered k a d
entered-same a b d k e is same worn = record {
  keeper = record {
    seat = ap (λ (v : Knowledge PlaceNote). v.seat) is ∙ e.keeper.seat;
    keeper = ap (λ (v : Knowledge PlaceNote). v.keeper) is ∙ e.keeper.keeper;
    made = ap (λ (v : Knowledge PlaceNote). v.made) is ∙ e.keeper.made;
    notes = ap (λ (v : Knowledge PlaceNote). v.notes) is ∙ e.keeper.notes;
  };
  mine = ap (λ (v : Knowledge PlaceNote). v.mine) is ∙ e.mine;
  caller = same ∙ e.caller;
  worn = worn ∙ e.worn;
}

pub new-ready : (halted : Halted) (n : Nucleus) (c : Scene) (i : ℕ) (script : Script) (actor : Ui) (b d p : Pass) → slice_get c.scripts i ≡ Some script → i < length c.scripts → Enters n actor b d p → (known b).made ≡ i + 1 → actor ≡ script.actor → IsReadyAt n c i (record { pass = p; ended = Err halted })
new-ready halted n c i script actor b d p at lt new made who = record {
  inside = lt;
  begins = tt;
  pass = new.pass;
  new = λ other found. record {
    seat_is = ap (λ (v : Knowledge PlaceNote). v.seat) new.knows ∙ made;
    mine = ap (λ (v : Knowledge PlaceNote). v.mine) new.knows;
    notes = ap (λ (v : Knowledge PlaceNote). v.notes) new.knows;
    keeper = ap (λ (v : Knowledge PlaceNote). v.keeper) new.knows;
    actor_is = ap (λ (w : Seated). w.actor) new.caller ∙ who ∙ ap (λ (s : Script). s.actor) (same-script c.scripts i script other at found);
    posts = ap (λ (w : Seated). w.posts) new.caller;
    worn = new.worn;
  };
}

-- its caller has the last clock of the one that it came from
pub begins-at : (n : Nucleus) (actor : Ui) (b d p : Pass) → Enters n actor b d p → (caller_of p).last ≡ (caller_of b).last
begins-at n actor b d p new = ap (λ (w : Seated). w.last) new.caller

pub ready-more : (n : Nucleus) (c : Scene) (rs : List Runner) (r : Runner) (i : ℕ) → length rs ≡ i → AreReady n c rs → IsReadyAt n c i r → AreReady n c (rs ++ r ∷ [])
ready-more n c rs r i count h new = record {
  each = λ k d lt. elim (cases_lt k (length rs)) [
    | inl low ↦ subst (IsReadyAt n c k) (sym (get_or_append_left rs (r ∷ []) d k low)) (h.each k d low)
    | inr high ↦
        (let more = length-append rs (r ∷ []) in
        let same : k ≡ length rs = omega (arith, lt, high, more) in
        let here : slice_index_or (rs ++ r ∷ []) k d ≡ r = ap (λ j. slice_index_or (rs ++ r ∷ []) j d) same ∙ get_or-append_seam rs r [] d in
        subst (IsReadyAt n c k) (sym here) (subst (λ j. IsReadyAt n c j r) (sym (same ∙ count)) new))
  ];
}

pub entered-also : (n : Nucleus) (c : Scene) (begun : ℕ) (rs : List Runner) (r : Runner) (i : ℕ) → length rs ≡ i → AreEntered n c begun rs → IsReadyAt n c i r → (caller_of r.pass).last ≡ begun → AreEntered n c begun (rs ++ r ∷ [])
entered-also n c begun rs r i count h new last = record {
  ready = ready-more n c rs r i count h.ready new;
  last = λ k d lt. elim (cases_lt k (length rs)) [
    | inl low ↦ ap (λ (z : Runner). (caller_of z.pass).last) (get_or_append_left rs (r ∷ []) d k low) ∙ h.last k d low
    | inr high ↦
        (let more = length-append rs (r ∷ []) in
        let same : k ≡ length rs = omega (arith, lt, high, more) in
        let here : slice_index_or (rs ++ r ∷ []) k d ≡ r = ap (λ j. slice_index_or (rs ++ r ∷ []) j d) same ∙ get_or-append_seam rs r [] d in
        ap (λ (z : Runner). (caller_of z.pass).last) here ∙ last)
  ];
}
