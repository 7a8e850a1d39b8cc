-- A pass that halts was told why, and one that goes on was told no worn clock.
use Rattle.std.specs.Result.{OnOk}
use Rattle.std.specs.Option.{option_or}
use Rattle.std.proofs.Common.{ℕ, ◌≡◌, ◌∙◌, Option, Some, None, Result, Ok, Err, refl, ap, inl, inr}
use Rattle.chorus_entry.specs.declared.command.Command.{Command}
use Rattle.law_machine.specs.declared.reply.Reply.{Reply}
use Rattle.chorus_serve.specs.declared.served.Pump.{Pump}
use Rattle.chorus_nucleus.specs.declared.fault.CallFault.{CallFault}
use Rattle.chorus_nucleus.specs.declared.fault.CallFault.TheVariants as faults
use Rattle.chorus_nucleus.specs.declared.nucleus.Nucleus.{Nucleus}
use Rattle.chorus_nucleus.specs.declared.pass.Pass.{Pass}
use Rattle.chorus_nucleus.specs.Calls.{worn_after, IsCall, IsServe}
use Rattle.chorus_nucleus.specs.Passes.{worn_by}
use Rattle.chorus_perform.specs.declared.stopped.Halted.{Halted}
use Rattle.chorus_perform.specs.Halting.{Halts, IsHalted}

pub worn-kept : {T : Type 0} (o : Option ℕ) (r : Result T CallFault) → (Halts r → ⊥) → worn_after o r ≡ o
worn-kept (Some clock) r h = refl
worn-kept None (Ok x) h = refl
worn-kept None (Err (faults.Busy by)) h = refl
worn-kept None (Err (faults.Memory none)) h = refl
worn-kept None (Err (faults.Worn clock)) h = absurd (h tt)

module _ (n : Nucleus) (a b : Pass) where
  pub call-unworn : (c : Command) (told : Result Reply CallFault) → IsCall n c a b told → (Halts told → ⊥) → worn_by b ≡ worn_by a
  call-unworn c told h none = h.worn ∙ worn-kept (worn_by a) told none

  pub call-halted : (c : Command) (told : Result Reply CallFault) → IsCall n c a b told → Halts told → IsHalted n b
  call-halted c told h halts = inl (a, (c, (told, (h, halts))))

  pub serve-unworn : (p : ℕ) (told : Result Pump CallFault) → IsServe n p a b told → (Halts told → ⊥) → worn_by b ≡ worn_by a
  serve-unworn p told h none = h.worn ∙ worn-kept (worn_by a) told none

  pub serve-halted : (p : ℕ) (told : Result Pump CallFault) → IsServe n p a b told → Halts told → IsHalted n b
  serve-halted p told h halts = inr (a, (p, (told, (h, halts))))

-- behind a pass that was told none
pub unworn-then : {U : Type 0} (a b d : Pass) (r : Result U Halted) → worn_by b ≡ worn_by a → OnOk r (worn_by d ≡ worn_by b) → OnOk r (worn_by d ≡ worn_by a)
unworn-then a b d (Ok x) h k = k ∙ h
unworn-then a b d (Err e) h k = tt

-- a pass is retired that was told none, and was told none before it came
pub retired-unworn : (o w d : Option ℕ) → d ≡ option_or o w → w ≡ None → d ≡ o
retired-unworn o w d is none = is ∙ ap (option_or o) none ∙ or-none o
  where
    or-none : (o : Option ℕ) → option_or o None ≡ o
    or-none None = refl
    or-none (Some x) = refl
