-- A past performs the same commands when it is sorted: each own entry answers its command by what its place and its seat tell.
use Rattle.std.proofs.Common.{ℕ, suc, ◌≡◌, ◌<◌, Bool, true, false, ◌==◌, ◌&&◌, not, cond, List, [], ◌∷◌, length, Option, Some, None, refl, sym, ◌∙◌, ap, arith}
use Rattle.std.proofs.lemmas.Bool.{eqb-true, eq-eqb, ne_eqb, false≢true, and_parts, and_from}
use Rattle.chorus_ui.specs.declared.ui.Ui.{Ui}
use Rattle.chorus_ui.specs.declared.layout.Layout.{Layout}
use Rattle.chorus_ui.specs.Layout.{IsLayout}
use Rattle.chorus_entry.specs.declared.entry.Entry.{Entry}
use Rattle.chorus_entry.specs.declared.command.Command.{Command}
use Rattle.chorus_entry.specs.declared.act.Act.{Act}
use Rattle.chorus_entry.specs.Act.{is_command_entry}
use Rattle.chorus_entry.specs.Places.{place_for}
use Rattle.chorus_world.specs.Views.{by, is_by}
use Rattle.chorus_world.specs.Groups.{members}
use Rattle.chorus_entry.specs.Members.{is_member}
use Rattle.chorus_world.specs.Steps.{may, is_legal}
use Rattle.chorus_world.specs.Commands.{call_answers, retry_answers, move_answers, join_answers, act_answers, answers, is_own_of, performs}
use Rattle.chorus_world.specs.Order.{IsCausal, sort}
use Rattle.chorus_world.specs.SortingLaws.{AllLookAtHome}
use Rattle.chorus_world.proofs.Sorted.Exchange.{Chains, chains, all_find, all_find_sort, chained, keeps_views}
use Rattle.chorus_world.proofs.Sorted.Agreement.{Extends, extends_self, extends_sort, extends_before}
use Rattle.chorus_world.proofs.Sorted.Observers.{sorts_legally}
use Rattle.chorus_world.proofs.Sorted.Holders.{is_holder_here, holder_here}

-- What an answer reads.

abbrev act_answers_here : List Entry → Chains → ℕ → ℕ → Ui → Command → Act → Bool
act_answers_here table c p s a (Command.Call port back body) act = call_answers c.mine port back body act
act_answers_here table c p s a Command.Retry act = retry_answers c.mine act
act_answers_here table c p s a (Command.Move port actor) act = move_answers (is_holder_here table c.here port a) port actor act
act_answers_here table c p s a (Command.Join group port) act = join_answers (is_member port (members group c.here)) group port act
act_answers_here table c p s a k act = act_answers [] p s a k act

abbrev answers_here : Layout → List Entry → Chains → Ui → Command → Entry → Bool
answers_here l table c a k e = (e.place == place_for l a k) && act_answers_here table c e.place e.seat a k e.act

-- who holds a port at a place is told by the entries of the place
act-answers-same : (l : Layout) (table past : List Entry) (e : Entry) (a : Ui) (k : Command) → IsLayout l → is_legal l past ≡ true → Extends table past → act_answers past e.place e.seat a k e.act ≡ act_answers_here table (chains past e) e.place e.seat a k e.act
act-answers-same l table past e a (Command.Move port actor) shape h ext =
    ap (λ b. move_answers b port actor e.act) (holder_here l table past e.place port a shape h ext)
act-answers-same l table past e a _ shape h ext = refl

answers-same : (l : Layout) (table past : List Entry) (e : Entry) (a : Ui) (k : Command) → IsLayout l → is_legal l past ≡ true → Extends table past → answers l past a k e ≡ answers_here l table (chains past e) a k e
answers-same l table past e a k shape h ext =
    ap (λ b. (e.place == place_for l a k) && b) (act-answers-same l table past e a k shape h ext)

-- Which command an own entry answers: that which has as many older ones as the entry.

abbrev command_at : ℕ → List Command → Option Command
command_at n [] = None
command_at n (k ∷ ks) = cond (length ks == n) (Some k) (command_at n ks)

abbrev owns : List Entry → ℕ
owns [] = 0
owns (e ∷ mine) = cond (is_command_entry e.act) (suc (owns mine)) (owns mine)

abbrev answers_as : Layout → List Entry → Chains → Ui → Entry → Option Command → Bool
answers_as l table c a e None = false
answers_as l table c a e (Some k) = answers_here l table c a k e

abbrev finds_command : Layout → ℕ → Ui → List Entry → List Command → Chains → Entry → Bool
finds_command l s a table all c e = cond (is_own_of s e) (answers_as l table c a e (command_at (owns c.mine) all)) true

own-count : (b : Bool) (e : Entry) (mine : List Entry) → owns (cond b (e ∷ mine) mine) ≡ cond (b && is_command_entry e.act) (suc (owns mine)) (owns mine)
own-count true e mine = refl
own-count false e mine = refl

-- the commands of the list are the oldest of all
abbrev AreOldest : List Command → List Command → Type 0
AreOldest ks all = (n : ℕ) → n < length ks → command_at n all ≡ command_at n ks

oldest-rest : (k : Command) (ks all : List Command) → AreOldest (k ∷ ks) all → AreOldest ks all
oldest-rest k ks all h n lt =
    h n (omega (arith, lt)) ∙ ap (λ b. cond b (Some k) (command_at n ks)) (ne_eqb (length ks) n (λ same. omega (arith, lt, same)))

oldest-last : (k : Command) (ks all : List Command) → AreOldest (k ∷ ks) all → command_at (length ks) all ≡ Some k
oldest-last k ks all h =
    h (length ks) (omega arith) ∙ ap (λ b. cond b (Some k) (command_at (length ks) ks)) (eq-eqb (length ks) (length ks) refl)

module _ (l : Layout) (s : ℕ) (a : Ui) (shape : IsLayout l) where
  -- as many own entries as commands
  performs-count : (past : List Entry) (ks : List Command) → performs l s a past ks ≡ true → owns (by s past) ≡ length ks
  performs-count [] [] h = refl
  performs-count [] (k ∷ ks) h = absurd (false≢true h)
  performs-count (e ∷ past) [] h = own-count (is_by s e) e (by s past) ∙ go (is_own_of s e) h (performs-count past [])
    where
      go : (b : Bool) → not b && performs l s a past [] ≡ true → (performs l s a past [] ≡ true → owns (by s past) ≡ 0) → cond b (suc (owns (by s past))) (owns (by s past)) ≡ 0
      go true p ih = absurd (false≢true p)
      go false p ih = ih p
  performs-count (e ∷ past) (k ∷ ks) h = own-count (is_by s e) e (by s past) ∙ go (is_own_of s e) h (performs-count past ks) (performs-count past (k ∷ ks))
    where
      go : (b : Bool) → cond b (answers l past a k e && performs l s a past ks) (performs l s a past (k ∷ ks)) ≡ true → (performs l s a past ks ≡ true → owns (by s past) ≡ length ks) → (performs l s a past (k ∷ ks) ≡ true → owns (by s past) ≡ suc (length ks)) → cond b (suc (owns (by s past))) (owns (by s past)) ≡ suc (length ks)
      go true p less more = ap suc (less (and_parts (answers l past a k e) (performs l s a past ks) p).1)
      go false p less more = more p

  module _ (table : List Entry) (all : List Command) where
    -- an own entry has its command
    finds-own : (past : List Entry) (e : Entry) (k : Command) (ks : List Command) → is_own_of s e ≡ true → owns (by s past) ≡ length ks → AreOldest (k ∷ ks) all → finds_command l s a table all (chains past e) e ≡ answers_here l table (chains past e) a k e
    finds-own past e k ks own count old =
        let seat : e.seat ≡ s = eqb-true e.seat s (and_parts (is_by s e) (is_command_entry e.act) own).0 in
        ap (λ b. cond b (answers_as l table (chains past e) a e (command_at (owns (by e.seat past)) all)) true) own
        ∙ ap (λ t. answers_as l table (chains past e) a e (command_at (owns (by t past)) all)) seat
        ∙ ap (λ n. answers_as l table (chains past e) a e (command_at n all)) count
        ∙ ap (answers_as l table (chains past e) a e) (oldest-last k ks all old)

    to-find : (past : List Entry) (ks : List Command) → is_legal l past ≡ true → Extends table past → performs l s a past ks ≡ true → AreOldest ks all → all_find (finds_command l s a table all) past ≡ true
    to-find [] ks legal ext h old = refl
    to-find (e ∷ past) [] legal ext h old = go (is_own_of s e) refl h (to-find past [])
      where
        before : is_legal l past ≡ true
        before = (and_parts (may l past e) (is_legal l past) legal).1

        go : (b : Bool) → is_own_of s e ≡ b → not b && performs l s a past [] ≡ true → (is_legal l past ≡ true → Extends table past → performs l s a past [] ≡ true → AreOldest [] all → all_find (finds_command l s a table all) past ≡ true) → finds_command l s a table all (chains past e) e && all_find (finds_command l s a table all) past ≡ true
        go true own p ih = absurd (false≢true p)
        go false own p ih =
            and_from (finds_command l s a table all (chains past e) e) (all_find (finds_command l s a table all) past)
            (ap (λ b. cond b (answers_as l table (chains past e) a e (command_at (owns (by e.seat past)) all)) true) own)
            (ih before (extends_before table past e ext) p old)
    to-find (e ∷ past) (k ∷ ks) legal ext h old = go (is_own_of s e) refl h (to-find past ks) (to-find past (k ∷ ks))
      where
        before : is_legal l past ≡ true
        before = (and_parts (may l past e) (is_legal l past) legal).1

        ext_before : Extends table past
        ext_before = extends_before table past e ext

        go : (b : Bool) → is_own_of s e ≡ b → cond b (answers l past a k e && performs l s a past ks) (performs l s a past (k ∷ ks)) ≡ true → (is_legal l past ≡ true → Extends table past → performs l s a past ks ≡ true → AreOldest ks all → all_find (finds_command l s a table all) past ≡ true) → (is_legal l past ≡ true → Extends table past → performs l s a past (k ∷ ks) ≡ true → AreOldest (k ∷ ks) all → all_find (finds_command l s a table all) past ≡ true) → finds_command l s a table all (chains past e) e && all_find (finds_command l s a table all) past ≡ true
        go true own p less more =
            let two = and_parts (answers l past a k e) (performs l s a past ks) p in
            and_from (finds_command l s a table all (chains past e) e) (all_find (finds_command l s a table all) past)
            (finds-own past e k ks own (performs-count past ks two.1) old ∙ sym (answers-same l table past e a k shape before ext_before) ∙ two.0)
            (less before ext_before two.1 (oldest-rest k ks all old))
        go false own p less more =
            and_from (finds_command l s a table all (chains past e) e) (all_find (finds_command l s a table all) past)
            (ap (λ b. cond b (answers_as l table (chains past e) a e (command_at (owns (by e.seat past)) all)) true) own)
            (more before ext_before p old)

    from-find : (past : List Entry) (ks : List Command) → is_legal l past ≡ true → Extends table past → all_find (finds_command l s a table all) past ≡ true → owns (by s past) ≡ length ks → AreOldest ks all → performs l s a past ks ≡ true
    from-find [] [] legal ext h count old = refl
    from-find [] (k ∷ ks) legal ext h count old = absurd (cc)
    from-find (e ∷ past) [] legal ext h count old = go (is_own_of s e) refl (sym (own-count (is_by s e) e (by s past)) ∙ count) (from-find past [])
      where
        two : (finds_command l s a table all (chains past e) e ≡ true) × (all_find (finds_command l s a table all) past ≡ true)
        two = and_parts (finds_command l s a table all (chains past e) e) (all_find (finds_command l s a table all) past) h

        go : (b : Bool) → is_own_of s e ≡ b → cond b (suc (owns (by s past))) (owns (by s past)) ≡ 0 → (is_legal l past ≡ true → Extends table past → all_find (finds_command l s a table all) past ≡ true → owns (by s past) ≡ 0 → AreOldest [] all → performs l s a past [] ≡ true) → not b && performs l s a past [] ≡ true
        go true own n ih = absurd (omega (arith, n))
        go false own n ih = ih (and_parts (may l past e) (is_legal l past) legal).1 (extends_before table past e ext) two.1 n old
    from-find (e ∷ past) (k ∷ ks) legal ext h count old = go (is_own_of s e) refl (sym (own-count (is_by s e) e (by s past)) ∙ count) (from-find past ks) (from-find past (k ∷ ks))
      where
        before : is_legal l past ≡ true
        before = (and_parts (may l past e) (is_legal l past) legal).1

        ext_before : Extends table past
        ext_before = extends_before table past e ext

        two : (finds_command l s a table all (chains past e) e ≡ true) × (all_find (finds_command l s a table all) past ≡ true)
        two = and_parts (finds_command l s a table all (chains past e) e) (all_find (finds_command l s a table all) past) h

        go : (b : Bool) → is_own_of s e ≡ b → cond b (suc (owns (by s past))) (owns (by s past)) ≡ suc (length ks) → (is_legal l past ≡ true → Extends table past → all_find (finds_command l s a table all) past ≡ true → owns (by s past) ≡ length ks → AreOldest ks all → performs l s a past ks ≡ true) → (is_legal l past ≡ true → Extends table past → all_find (finds_command l s a table all) past ≡ true → owns (by s past) ≡ length (k ∷ ks) → AreOldest (k ∷ ks) all → performs l s a past (k ∷ ks) ≡ true) → cond b (answers l past a k e && performs l s a past ks) (performs l s a past (k ∷ ks)) ≡ true
        go true own n shorter same =
            let less : owns (by s past) ≡ length ks = omega (arith, n) in
            and_from (answers l past a k e) (performs l s a past ks)
            (answers-same l table past e a k shape before ext_before ∙ sym (finds-own past e k ks own less old) ∙ two.0)
            (shorter before ext_before two.1 less (oldest-rest k ks all old))
        go false own n shorter same = same before ext_before two.1 n old

  pub performs-sort : (past : List Entry) (ks : List Command) → IsCausal past → AllLookAtHome l past → is_legal l past ≡ true → performs l s a past ks ≡ true → performs l s a (sort past) ks ≡ true
  performs-sort past ks causal home legal h =
      let w = chained past causal in
      from-find past ks (sort past) ks (sorts_legally l past shape causal home legal) (extends_sort past w)
      (all_find_sort (finds_command l s a past ks) past w (to-find past ks past ks legal (extends_self past) h (λ n lt. refl)))
      (ap owns ((keeps_views past causal).seats s) ∙ performs-count past ks h)
      (λ n lt. refl)
