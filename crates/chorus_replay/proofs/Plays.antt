-- What was closed in the order of tasks plays what their callers give.
use Rattle.std.proofs.Common.{ℕ, zero, suc, ◌≡◌, ◌==◌, Bool, true, false, cond, List, [], ◌∷◌, ◌++◌, reverse, Option, Some, None, is_some, slice_get, refl, sym, ◌∙◌, ap, ap₂, subst, inl, inr}
use Rattle.std.specs.Option.{option_map}
use Rattle.std.proofs.lemmas.Bool.{and_parts, eqb-true, false≢true}
use Rattle.std.proofs.lemmas.List.{reverse-append, reverse-reverse}
use Rattle.std.proofs.lemmas.List.Elements.{All-nil, All-tail, All-append}
use Rattle.chorus_ui.specs.declared.ui.Ui.{Ui}
use Rattle.chorus_ui.specs.declared.layout.Layout.{Layout}
use Rattle.chorus_ui.specs.Layout.{IsLayout}
use Rattle.chorus_entry.specs.declared.command.Command.{Command}
use Rattle.chorus_world.specs.Commands.{performs}
use Rattle.chorus_calls.specs.Callers.{Seated}
use Rattle.chorus_net.specs.declared.closed.Closed.{Closed}
use Rattle.chorus_net.specs.Closing.{IsLeft, past_of}
use Rattle.law_network.specs.Left.{merged_past}
use Rattle.law_network.specs.Network.{NetState, Event, Enter, Act, Deliver, See, schedule, round, rounds}
use Rattle.law_network.specs.Quiet.{IsQuiet}
use Rattle.law_network.specs.Schedules.{may_give, may_happen, may_be, commands_of}
use Rattle.law_network.specs.Stands.{actor_of}
use Rattle.law_network.specs.Tasks.{Task, Do, Drain, CarryOut, CarryFront, AreDeliveries, commands_in}
use Rattle.chorus_report.proofs.Seating.{run-ungiven}
use Rattle.chorus_report.proofs.Playing.{performs-none, past-is, run-of, quiet-of, plays-so}
use Rattle.law_network.proofs.Promises.Promised.{runs-at, performs-at}
use Rattle.law_network.proofs.Draining.Drained.{drains-rest}
use Rattle.law_network.proofs.Draining.Drains.{round-deliveries, carried-commands}
use Rattle.law_network.proofs.Draining.Stopped.{fronts-give-fronts}
use Rattle.chorus_show.specs.declared.status.Status.{Status}
use Rattle.chorus_net.specs.Worn.{IsInRounds}
use Rattle.chorus_replay.specs.Worn.{ComesNext}
use Rattle.chorus_report.specs.Headline.{PerformsAll, PerformsFirst, PerformsUnless, IsQuietUnless, Plays}
use Rattle.chorus_replay.specs.Ordered.{IsOrdered}
use Rattle.chorus_replay.proofs.Callers.{AreComers, actors_in, actor-after, callers-given, callers-so-far, get-front}

-- Fronts.

pub deliveries : (l : Layout) (k m : ℕ) → AreDeliveries k (rounds l k m)
deliveries l k zero = All-nil (λ (e : Event). (a : ℕ) × ((b : ℕ) × (e ≡ Deliver k a b)))
deliveries l k (suc m) = All-append (λ (e : Event). (a : ℕ) × ((b : ℕ) × (e ≡ Deliver k a b))) (round l k) (rounds l k m) (round-deliveries l k) (deliveries l k m)

pub carry-front : (l : Layout) (ts : List Task) (es : List Event) → CarryOut l ts es → CarryFront l ts es
carry-front l [] es c = c
carry-front l (Do e ∷ ts) es c = inl c
carry-front l (Drain k ∷ ts) es c = inl (rounds l k (c.1.0).count, (c.0, ((c.1.0).rounds, deliveries l k (c.1.0).count, c.1.1)))

pub behind : (k : ℕ) (xs ys : List Event) → AreDeliveries k (xs ++ ys) → AreDeliveries k ys
behind k [] ys h = h
behind k (x ∷ xs) ys h = behind k xs ys (All-tail (λ (e : Event). (a : ℕ) × ((b : ℕ) × (e ≡ Deliver k a b))) x (xs ++ ys) h)

pub in-rounds : (l : Layout) (k : ℕ) (next : Event) (done : List Event) → IsInRounds l k next done → AreDeliveries k done
in-rounds l k next done is =
    All-tail (λ (e : Event). (a : ℕ) × ((b : ℕ) × (e ≡ Deliver k a b))) next done
    (behind k is.later (next ∷ done) (subst (AreDeliveries k) is.are (deliveries l k is.count)))

-- the events before one that comes next carry out a front
pub front-of : (l : Layout) (ts : List Task) (next : Event) (es : List Event) → ComesNext l ts next es → CarryFront l ts es
front-of l [] next es c = absurd c
front-of l (Do e ∷ ts) next es (inl now) = inr (carry-front l ts es now.1)
front-of l (Do e ∷ ts) next es (inr less) = inr (front-of l ts next es less)
front-of l (Drain k ∷ ts) next es (inl part) = inl (part.0, (part.1.0, (part.1.1.1, in-rounds l k next part.0 part.1.1.0, part.1.1.2)))
front-of l (Drain k ∷ ts) next es (inr less) = inr (front-of l ts next es less)

-- A seat that nobody has gave no command and performs none.

none-before : (xs ys : List Ui) (k : ℕ) → slice_get (xs ++ ys) k ≡ None → slice_get xs k ≡ None
none-before xs ys k h = go (slice_get xs k) refl
  where
    go : (o : Option Ui) → slice_get xs k ≡ o → o ≡ None
    go None e = refl
    go (Some a) e = absurd (let there = get-front xs ys k a e in let bad : None ≡ Some a = sym h ∙ there in cc)

nobody : (o : Option Seated) → option_map (λ (caller : Seated). caller.actor) o ≡ None → o ≡ None
nobody None h = refl
nobody (Some c) h = absurd (cc)

ungiven : (l : Layout) (es : List Event) (k : ℕ) → may_be l es ≡ true → slice_get (reverse (actors_in es)) k ≡ None → commands_of k es ≡ []
ungiven l [] k may h = refl
ungiven l (Enter actor last ∷ es) k may h =
    let two = and_parts (may_happen (Enter actor last) (schedule l es)) (may_be l es) may in
    ungiven l es k two.1 (none-before (reverse (actors_in es)) (actor ∷ []) k (ap (λ z. slice_get z k) (sym (reverse-append (actor ∷ []) (actors_in es))) ∙ h))
ungiven l (Deliver j a b ∷ es) k may h =
    let two = and_parts (may_happen (Deliver j a b) (schedule l es)) (may_be l es) may in ungiven l es k two.1 h
ungiven l (See j clock ∷ es) k may h =
    let two = and_parts (may_happen (See j clock) (schedule l es)) (may_be l es) may in ungiven l es k two.1 h
ungiven l (Act j c ∷ es) k may h =
    let two = and_parts (may_happen (Act j c) (schedule l es)) (may_be l es) may in by-seat (ungiven l es k two.1 h) two.0 (j == k) refl
  where
    by-seat : commands_of k es ≡ [] → may_give (slice_get (schedule l es).callers j) c ≡ true → (b : Bool) → (j == k) ≡ b → cond b (c ∷ commands_of k es) (commands_of k es) ≡ []
    by-seat rest gives false e = rest
    by-seat rest gives true e =
        let none : slice_get (schedule l es).callers j ≡ None =
        ap (slice_get (schedule l es).callers) (eqb-true j k e) ∙ nobody (slice_get (schedule l es).callers k) (actor-after l es k ∙ h) in
        absurd (false≢true (ap (λ o. may_give o c) (sym none) ∙ gives))

-- The tasks are by these callers with these commands, and a drain by seat 0, who comes, is the last of them.
pub record AreOf (ts : List Task) (callers : ℕ → Option Ui) (commands : ℕ → Option (List Command)) : Type 0 where
  pub come : AreComers ts callers
  pub first : is_some (callers 0) ≡ true
  pub give : (k : ℕ) (given : List Command) → commands k ≡ Some given → commands_in k ts ≡ reverse given
  pub before : List Task
  pub last : ts ≡ Drain 0 ∷ before

module _ (l : Layout) (ts : List Task) (callers : ℕ → Option Ui) (commands : ℕ → Option (List Command)) (are : AreOf ts callers commands) (shape : IsLayout l) (closed : Closed) (es : List Event) (may : may_be l es ≡ true) (left : IsLeft (schedule l es) closed) where
  abbrev n : NetState
  n = schedule l es

  -- where the tasks are carried out
  module _ (carried : CarryOut l ts es) where
    performs-of : (k : ℕ) (actor : Ui) (given : List Command) → callers k ≡ Some actor → commands k ≡ Some given → PerformsAll l k actor closed given
    performs-of k actor given who what =
        ap (λ past. performs l k actor past (reverse given)) (past-is l shape closed es may left)
        ∙ ap (performs l k actor (merged_past n)) (sym (carried-commands l k ts es carried ∙ are.give k given what))
        ∙ performs-at l es shape may k actor (callers-given l ts callers are.come es carried k ∙ who)

    first-comes : is_some (slice_get n.callers 0) ≡ true
    first-comes =
        comes (slice_get n.callers 0) (ap is_some (callers-given l ts callers are.come es carried 0) ∙ are.first)
      where
        comes : (o : Option Seated) → is_some (option_map (λ (caller : Seated). caller.actor) o) ≡ true → is_some o ≡ true
        comes None h = h
        comes (Some x) h = refl

    rests-of : IsQuiet l (past_of closed) closed.rest.items
    rests-of = quiet-of l shape closed es may left (drains-rest l 0 are.before es shape may (subst (λ z. CarryOut l z es) are.last carried) first-comes)

    plays-out : (status : Status) → ((k : ℕ) (actor : Ui) (given : List Command) → PerformsAll l k actor closed given → PerformsUnless status l k actor closed given) → (IsQuiet l (past_of closed) closed.rest.items → IsQuietUnless status l closed) → Plays l callers commands status closed
    plays-out status performs_ rests =
        plays-so l shape closed es may left callers commands status
        (run-of l shape closed es may left callers (λ k a h. sym (callers-given l ts callers are.come es carried k) ∙ h))
        (λ k actor given who what. performs_ k actor given (performs-of k actor given who what)) (rests rests-of)

  -- where a clock is worn
  module _ (front : CarryFront l ts es) where
    performs-first : (k : ℕ) (actor : Ui) (given : List Command) → callers k ≡ Some actor → commands k ≡ Some given → PerformsFirst l k actor closed given
    performs-first k actor given who what =
        let so_far = fronts-give-fronts l ts es k front in
        let all : given ≡ reverse (commands_of k es) ++ reverse so_far.0 =
        sym (reverse-reverse given) ∙ ap reverse (sym (are.give k given what)) ∙ ap reverse so_far.1 ∙ reverse-append so_far.0 (commands_of k es) in (
          reverse (commands_of k es),
          (
            reverse so_far.0,
            (
              all,
              ap₂ (λ past cs. performs l k actor past cs) (past-is l shape closed es may left) (reverse-reverse (commands_of k es)) ∙ by-caller (actor_of n k) refl,
            ),
          ),
        )
      where
        by-caller : (o : Option Ui) → actor_of n k ≡ o → performs l k actor (merged_past n) (commands_of k es) ≡ true
        by-caller None e =
            ap (performs l k actor (merged_past n)) (ungiven l es k may (sym (actor-after l es k) ∙ e))
            ∙ performs-none l k actor (merged_past n) (run-ungiven l (actor_of n) k (merged_past n) (runs-at l es shape may) e)
        by-caller (Some a) e =
            let same : a ≡ actor = (let both : Some a ≡ Some actor = sym (callers-so-far l ts callers are.come es front k a e) ∙ who in cc) in
            performs-at l es shape may k actor (e ∙ ap (λ (x : Ui). Some x) same)

    plays-front : (clock : ℕ) → Plays l callers commands (Status.Worn clock) closed
    plays-front clock =
        plays-so l shape closed es may left callers commands (Status.Worn clock)
        (run-of l shape closed es may left callers (callers-so-far l ts callers are.come es front)) performs-first tt

-- what was closed in the order of the tasks plays what their callers give
module _ (l : Layout) (ts : List Task) (callers : ℕ → Option Ui) (commands : ℕ → Option (List Command)) (are : AreOf ts callers commands) (shape : IsLayout l) where
  pub plays : (status : Status) (closed : Closed) → IsOrdered l ts status closed → Plays l callers commands status closed
  plays Status.Done closed is = plays-out l ts callers commands are shape closed is.events is.may is.closes.left is.carried Status.Done (λ k actor given h. h) (λ h. h)
  plays Status.Usage closed is = plays-out l ts callers commands are shape closed is.events is.may is.closes.left is.carried Status.Usage (λ k actor given h. h) (λ h. h)
  plays (Status.Scenario line reason) closed is = plays-out l ts callers commands are shape closed is.events is.may is.closes.left is.carried (Status.Scenario line reason) (λ k actor given h. h) (λ h. h)
  plays Status.ReadFault closed is = plays-out l ts callers commands are shape closed is.events is.may is.closes.left is.carried Status.ReadFault (λ k actor given h. h) (λ h. h)
  plays Status.WriteFault closed is = plays-out l ts callers commands are shape closed is.events is.may is.closes.left is.carried Status.WriteFault (λ k actor given h. h) (λ h. h)
  plays Status.Memory closed is = plays-out l ts callers commands are shape closed is.events is.may is.closes.left is.carried Status.Memory (λ k actor given h. h) (λ h. h)
  plays (Status.Worn clock) closed is =
      plays-front l ts callers commands are shape closed is.events is.may is.closes.left (front-of l ts is.carried.next is.events is.carried.comes) clock
