-- What a receive tells of its port.
use Rattle.std.proofs.Common.{ℕ, ◌≡◌, ◌==◌, Bool, true, false, not, nat_lt, ◌&&◌, if◌then◌else◌, List, [], ◌∷◌, ◌++◌, length, Option, Some, None, refl, sym, ◌∙◌, ap, subst}
use Rattle.std.specs.Prelude.{slice_get}
use Rattle.std.proofs.lemmas.Bool.{and_parts, and_from, eqb-true, eq-eqb, not-true, false≢true, true≢false}
use Rattle.chorus_ui.specs.declared.ui.Ui.{Ui}
use Rattle.chorus_ui.specs.declared.layout.Layout.{Layout}
use Rattle.chorus_ui.specs.Layout.{IsLayout}
use Rattle.chorus_ui.proofs.Names.{from_same_ui}
use Rattle.chorus_entry.specs.declared.entry.Entry.{Entry}
use Rattle.chorus_entry.specs.declared.id.MsgId.{MsgId}
use Rattle.chorus_entry.specs.declared.act.Act.{Act}
use Rattle.chorus_entry.specs.declared.command.Command.{Command}
use Rattle.chorus_entry.specs.declared.command.Command.TheVariants as commands
use Rattle.chorus_entry.specs.Act.{is_command_entry}
use Rattle.chorus_entry.specs.Places.{place_for}
use Rattle.chorus_world.specs.Views.{on, by, views, is_by}
use Rattle.chorus_world.specs.Places.{last_clock}
use Rattle.chorus_world.specs.Ports.{PortState, fate, is_held_at, is_empty, is_first_waiting}
use Rattle.chorus_world.specs.AcceptedLaws.{accepted_by, accepted_from, taken_by, taken_from}
use Rattle.chorus_world.specs.Steps.{act_may, may}
use Rattle.chorus_world.specs.Runs.{fits_callers, may_run, is_run}
use Rattle.chorus_world.specs.Commands.{act_answers, answers, is_own_of, performs}
use Rattle.chorus_world.proofs.Moments.{run-older}
use Rattle.chorus_world.proofs.Ports.LineLemmas.{id_is}
use Rattle.chorus_world.proofs.Sorted.Holders.{run_is_legal}
use Rattle.chorus_world.proofs.Steps.LegalLemmas.{legal_parts}
use Rattle.law_world.specs.Holding.{holds, port_wanted}
use Rattle.law_world.specs.Looks.{LooksTellWhatWaited}
use Rattle.law_world.proofs.Holding.{held-holds, not-here-means}

-- An entry that a command appended first answers one of the commands that are performed.

record AnswersSome (l : Layout) (a : Ui) (e : Entry) (older : List Entry) : Type 0 where
  command : Command
  is : answers l older a command e ≡ true

answers-some : (l : Layout) (s : ℕ) (a : Ui) (newer older : List Entry) (e : Entry) (cs : List Command) → is_own_of s e ≡ true → performs l s a (newer ++ e ∷ older) cs ≡ true → AnswersSome l a e older
answers-some l s a [] older e [] own does =
    absurd (true≢false (sym own ∙ not-true (is_own_of s e) (and_parts (not (is_own_of s e)) (performs l s a older []) does).0))
answers-some l s a [] older e (c ∷ cs) own does = by (is_own_of s e) own does
  where
    by : (b : Bool) → b ≡ true → (if b then answers l older a c e && performs l s a older cs else performs l s a older (c ∷ cs)) ≡ true → AnswersSome l a e older
    by true o h = record { command = c; is = (and_parts (answers l older a c e) (performs l s a older cs) h).0 }
    by false o h = absurd (false≢true o)
answers-some l s a (x ∷ newer) older e [] own does =
    answers-some l s a newer older e [] own (and_parts (not (is_own_of s x)) (performs l s a (newer ++ e ∷ older) []) does).1
answers-some l s a (x ∷ newer) older e (c ∷ cs) own does = by (λ rest h. answers-some l s a newer older e rest own h) (is_own_of s x) does
  where
    before : List Entry
    before = newer ++ e ∷ older

    by : ((rest : List Command) → performs l s a (newer ++ e ∷ older) rest ≡ true → AnswersSome l a e older) → (b : Bool) → (if b then answers l (newer ++ e ∷ older) a c x && performs l s a (newer ++ e ∷ older) cs else performs l s a (newer ++ e ∷ older) (c ∷ cs)) ≡ true → AnswersSome l a e older
    by again true h = again cs (and_parts (answers l (newer ++ e ∷ older) a c x) (performs l s a (newer ++ e ∷ older) cs) h).1
    by again false h = again (c ∷ cs) h

-- NotHere answers no command but one that wants the port
wants : (past : List Entry) (p s : ℕ) (a q : Ui) (c : Command) → act_answers past p s a c (Act.NotHere q) ≡ true → port_wanted c ≡ Some q
wants past p s a q (commands.Take r) h = ap (λ z. Some z) (sym (from_same_ui q r h))
wants past p s a q (commands.Move r b) h = ap (λ z. Some z) (sym (from_same_ui q r h))
wants past p s a q (commands.Delete r) h = ap (λ z. Some z) (sym (from_same_ui q r h))
wants past p s a q (commands.Make b n) h = absurd (false≢true h)
wants past p s a q (commands.Send d body) h = absurd (false≢true h)
wants past p s a q (commands.Call r back body) h = absurd (false≢true h)
wants past p s a q commands.Retry h = absurd (false≢true h)
wants past p s a q commands.Cancel h = absurd (false≢true h)
wants past p s a q (commands.Reply body) h = absurd (false≢true h)
wants past p s a q (commands.GroupMake n) h = absurd (false≢true h)
wants past p s a q (commands.Join g r) h = absurd (false≢true h)
wants past p s a q (commands.Leave g r) h = absurd (false≢true h)

-- What waits in a port.

first-waits : (n : ℕ) (x : MsgId) (o : Option PortState) → is_first_waiting n x o ≡ true → (n ≡ taken_from o) × (slice_get (accepted_from o) n ≡ Some x)
first-waits n x None h = absurd (false≢true h)
first-waits n x (Some f) h =
    let two = and_parts (n == f.taken) _ h in
    (eqb-true n f.taken two.0, id_is x (slice_get f.accepted n) two.1)

none-waits : (o : Option PortState) → is_empty o ≡ true → taken_from o ≡ length (accepted_from o)
none-waits None h = absurd (false≢true h)
none-waits (Some f) h = eqb-true f.taken (length f.accepted) h

module _ (l : Layout) (callers : ℕ → Option Ui) (older : List Entry) (e : Entry) (q a : Ui) (shape : IsLayout l) (run : is_run l callers (e ∷ older) ≡ true) (who : callers e.seat ≡ Some a) where
  -- what an act needs of the world, and of its caller
  may-so : (act : Act) → e.act ≡ act → act_may l (views older e.place e.seat act) e.place e.seat act ≡ true
  may-so act is = subst (λ z. act_may l (views older e.place e.seat z) e.place e.seat z ≡ true) is (legal_parts l e older (run_is_legal l callers (e ∷ older) run)).0

  fits-so : (act : Act) → e.act ≡ act → fits_callers older e.place (Some a) act ≡ true
  fits-so act is =
      let first = and_parts (may l older e && may_run callers older e) (is_run l callers older) run in
      let second = and_parts (may l older e) (may_run callers older e) first.0 in
      let fits = and_parts (nat_lt (last_clock (by e.seat older)) e.clock) (fits_callers older e.place (callers e.seat) e.act) second.1 in
      subst (λ z. fits_callers older e.place z act ≡ true) who (subst (λ z. fits_callers older e.place (callers e.seat) z ≡ true) is fits.1)

  found-first : (n : ℕ) (x : MsgId) → e.act ≡ Act.Take q n x → (holds a (fate (on q older)) ≡ true) × (n ≡ taken_by q older) × (slice_get (accepted_by q older) n ≡ Some x)
  found-first n x is =
      let two = and_parts (is_held_at e.place (fate (on q older))) (is_first_waiting n x (fate (on q older))) (may-so (Act.Take q n x) is) in
      let waits = first-waits n x (fate (on q older)) two.1 in
      (held-holds e.place a (fate (on q older)) (fits-so (Act.Take q n x) is), waits.0, waits.1)

  found-none : e.act ≡ Act.Empty q → (holds a (fate (on q older)) ≡ true) × (taken_by q older ≡ length (accepted_by q older))
  found-none is =
      let two = and_parts (is_held_at e.place (fate (on q older))) (is_empty (fate (on q older))) (may-so (Act.Empty q) is) in
      (held-holds e.place a (fate (on q older)) (fits-so (Act.Empty q) is), none-waits (fate (on q older)) two.1)

  not-held : AnswersSome l a e older → e.act ≡ Act.NotHere q → holds a (fate (on q older)) ≡ false
  not-held s is =
      let two = and_parts (e.place == place_for l a s.command) (act_answers older e.place e.seat a s.command e.act) s.is in
      let want = wants older e.place e.seat a q s.command (subst (λ z. act_answers older e.place e.seat a s.command z ≡ true) is two.1) in
      (not-here-means l callers older e a q s.command shape run who s.is want).0 is

own-of : (e : Entry) (q : Ui) → e.act ≡ Act.NotHere q → is_own_of e.seat e ≡ true
own-of e q is = and_from (is_by e.seat e) (is_command_entry e.act) (eq-eqb e.seat e.seat refl) (ap is_command_entry is)

pub looks-tell : LooksTellWhatWaited
looks-tell l callers newer older e q a commands shape whole who does =
    let run : is_run l callers (e ∷ older) ≡ true = run-older l callers newer (e ∷ older) whole in
    record {
      taken = found-first l callers older e q a shape run who;
      empty = found-none l callers older e q a shape run who;
      elsewhere = λ is. not-held l callers older e q a shape run who (answers-some l e.seat a newer older e commands (own-of e q is) does) is;
    }
