-- Outcomes worked out: a journal that tells them, and lists in which they would not be true.
use Rattle.std.proofs.Common.{◌≡◌, List, [], ◌∷◌, refl, sym, subst, inl, inr}
use Rattle.chorus_entry.specs.declared.entry.Entry.{Entry}
use Rattle.chorus_entry.specs.declared.dest.Dest.{Dest}
use Rattle.chorus_entry.specs.declared.act.Act.{Act}
use Rattle.chorus_entry.specs.declared.answer.Answer.TheVariants as A
use Rattle.law_machine.specs.declared.outcome.Outcome.{Outcome}
use Rattle.law_machine.specs.Outcomes.{outcome}
use Rattle.law_replies.specs.Outcomes.{Decides, Became, IsKnown, IsTold, OutcomeIsTrue}
use Rattle.law_replies.proofs.Saying.{says-now, says-behind, says-one-of, says-nothing}
use Rattle.law_replies.proofs.Told.{legal-outcomes}
use Rattle.law_replies.proofs.Examples.Replies.{port, msg, plain, entry, one_place, past}

-- of two posts the place knows the verdicts, of a third it knows nothing, and of a direct post no copy
pub accepted : outcome (msg 1 0) past ≡ Outcome.Answer (A.Accepted 0)
accepted = refl

pub full : outcome (msg 2 0) past ≡ Outcome.Answer (A.Full 1)
full = refl

pub none-such : outcome (msg 3 0) past ≡ Outcome.Unknown
none-such = refl

pub no-copy : outcome (msg 1 1) past ≡ Outcome.Unknown
no-copy = refl

-- so it was told, and so it became
pub was-told : IsKnown (msg 2 0) past × IsTold (msg 2 0) (A.Full 1) past
was-told = ((legal-outcomes one_place past 1 (msg 2 0) refl).answer (A.Full 1)).0 refl

pub became-so : Became (msg 2 0) (A.Full 1) past
became-so = (legal-outcomes one_place past 1 (msg 2 0) refl).became (A.Full 1) was-told.1

-- A place that is told another verdict than the one that was given.

abbrev post : Entry
post = entry 1 (Act.Post (plain 1 []) (Dest.Port (port 1)))

abbrev accept : Entry
accept = entry 2 (Act.Accept (msg 1 0) (port 1) 0)

abbrev tells : Entry
tells = entry 3 (Act.Told (msg 1 0) (A.Full 1))

abbrev wrong : List Entry
wrong = tells ∷ accept ∷ post ∷ []

not-full : Became (msg 1 0) (A.Full 1) wrong → ⊥
not-full b =
    elim (says-one-of tells (accept ∷ post ∷ []) b.0 b.1.0) [
      | inl now ↦ subst (Decides (msg 1 0) (A.Full 1)) (sym now) b.1.1
      | inr later ↦ elim (says-one-of accept (post ∷ []) b.0 later) [
        | inl now ↦ (let at : A.Full 1 ≡ A.Accepted 0 = (subst (Decides (msg 1 0) (A.Full 1)) (sym now) b.1.1).1 in cc)
        | inr last ↦ elim (says-one-of post [] b.0 last) [
          | inl now ↦ subst (Decides (msg 1 0) (A.Full 1)) (sym now) b.1.1
          | inr none ↦ says-nothing b.0 none
        ]
      ]
    ]

pub told-wrong : OutcomeIsTrue (msg 1 0) wrong wrong → ⊥
told-wrong h =
    not-full (h.became (A.Full 1) (Act.Told (msg 1 0) (A.Full 1), (says-now tells (accept ∷ post ∷ []) (Act.Told (msg 1 0) (A.Full 1)) refl, (refl, (refl, refl)))))

-- A message that is decided twice.

abbrev full_too : Entry
full_too = entry 3 (Act.Full (msg 1 0) (port 1) 1)

abbrev twice : List Entry
twice = full_too ∷ accept ∷ post ∷ []

pub decided-twice : OutcomeIsTrue (msg 1 0) twice twice → ⊥
decided-twice h =
    let one : Became (msg 1 0) (A.Full 1) twice = (Act.Full (msg 1 0) (port 1) 1, (says-now full_too (accept ∷ post ∷ []) (Act.Full (msg 1 0) (port 1) 1) refl, (refl, refl))) in
    let other : Became (msg 1 0) (A.Accepted 0) twice =
    (Act.Accept (msg 1 0) (port 1) 0, (says-behind (full_too ∷ []) (accept ∷ post ∷ []) (Act.Accept (msg 1 0) (port 1) 0) (says-now accept (post ∷ []) (Act.Accept (msg 1 0) (port 1) 0) refl), (refl, refl))) in
    let same = h.once (A.Full 1) (A.Accepted 0) one other in
    cc
