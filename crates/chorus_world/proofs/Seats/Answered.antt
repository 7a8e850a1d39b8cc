-- Exactly one act answers a command as the next entry of a run: the one that the views tell.
use Rattle.std.proofs.Common.{ℕ, ◌≡◌, ◌==◌, nat_lt, ◌&&◌, Option, Some, List, refl, sym, ◌∙◌, ap}
use Rattle.std.proofs.lemmas.Bool.{and_parts, and_from, eq-eqb, lt-ltb}
use Rattle.chorus_ui.specs.declared.ui.Ui.{Ui}
use Rattle.chorus_ui.specs.declared.layout.Layout.{Layout}
use Rattle.chorus_ui.specs.Layout.{has_place}
use Rattle.chorus_entry.specs.declared.entry.Entry.{Entry}
use Rattle.chorus_entry.specs.declared.act.Act.{Act}
use Rattle.chorus_entry.specs.declared.command.Command.{Command}
use Rattle.chorus_entry.specs.Kinds.{has_kinds}
use Rattle.chorus_entry.specs.Places.{place_for}
use Rattle.chorus_world.specs.Views.{views, at, by}
use Rattle.chorus_world.specs.Places.{last_clock, just_taken}
use Rattle.chorus_world.specs.Steps.{act_may, act_follows, may_stand_behind, is_timely}
use Rattle.chorus_world.specs.Runs.{fits_callers}
use Rattle.chorus_world.specs.Commands.{act_answers}
use Rattle.chorus_world.specs.Answer.{answer_for}
use Rattle.chorus_world.specs.Answering.{Fits, OneActAnswers, OneActAtMost}
use Rattle.chorus_world.proofs.Seats.OnlyAnswer.{Fitting, only-answer}
use Rattle.chorus_world.proofs.Seats.SomeAnswer.{some-answer, command-in}
use Rattle.chorus_world.proofs.Sorted.Holders.{run_is_legal}

fitting : (l : Layout) (callers : ℕ → Option Ui) (past : List Entry) (k : ℕ) (a : Ui) (c : Command) (clock : ℕ) (x : Act) → callers k ≡ Some a → Fits l callers past k a c clock x → Fitting l past (place_for l a c) k a c x
fitting l callers past k a c clock x who f =
    let p = place_for l a c in
    let e : Entry = record { clock = clock; place = p; seat = k; act = x } in
    let v = views past p k x in
    let follows = (and_parts (is_timely l v e) (act_follows l v p k x) f.comes_next).1 in
    let acts = and_parts (has_kinds x && may_stand_behind (just_taken past (at p past)) x) (act_may l v p k x) follows in
    let runs = (and_parts (nat_lt (last_clock (by k past)) clock) (fits_callers past p (callers k) x) f.runs).1 in
    record {
      kinds = (and_parts (has_kinds x) (may_stand_behind (just_taken past (at p past)) x) acts.0).0;
      may = acts.1;
      fits = ap (λ o. fits_callers past p o x) (sym who) ∙ runs;
      answers = (and_parts (p == place_for l a c) (act_answers past p k a c x) f.answers).1;
    }

pub one-at-most : OneActAtMost
one-at-most l callers past k a c clock x who f =
    only-answer l past (place_for l a c) k a c x (fitting l callers past k a c clock x who f)

pub one-answers : OneActAnswers
one-answers l callers past k a c clock layout run home who conditions free here mine =
    let p = place_for l a c in
    let x = answer_for l past k a c in
    let v = views past p k x in
    let legal = run_is_legal l callers past run in
    let caller = home k a who in
    let f = some-answer l past k a layout legal caller.0 caller.2 c conditions in
    let e : Entry = record { clock = clock; place = p; seat = k; act = x } in
    record {
      fits = record {
        answers = and_from (p == place_for l a c) (act_answers past p k a c x) (eq-eqb p p refl) f.answers;
        comes_next =
            and_from (is_timely l v e) (act_follows l v p k x)
            (and_from (has_place l p) (nat_lt (last_clock (at p past)) clock) (command-in l past k a layout legal caller.0 caller.2 c) (lt-ltb (last_clock (at p past)) clock here))
            (and_from (has_kinds x && may_stand_behind (just_taken past (at p past)) x) (act_may l v p k x)
            (and_from (has_kinds x) (may_stand_behind (just_taken past (at p past)) x) f.kinds (ap (λ o. may_stand_behind o x) free)) f.may);
        runs =
            and_from (nat_lt (last_clock (by k past)) clock) (fits_callers past p (callers k) x) (lt-ltb (last_clock (by k past)) clock mine)
            (ap (λ o. fits_callers past p o x) who ∙ f.fits);
      };
      only = λ other g. one-at-most l callers past k a c clock other who g;
    }
