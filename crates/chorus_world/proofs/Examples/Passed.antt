-- A place that was tried too late for a port: what it answers, and entries that say it wrongly, each in a past that is not
-- legal.
use Rattle.std.proofs.Common.{ℕ, ◌≡◌, true, false, List, [], ◌∷◌, refl, inl, inr, arith}
use Rattle.std.proofs.lemmas.Bool.{false≢true}
use Rattle.chorus_ui.specs.declared.kind.Kind.TheVariants as kinds
use Rattle.chorus_ui.specs.declared.ui.Ui.{Ui}
use Rattle.chorus_entry.specs.declared.answer.Answer.{Answer}
use Rattle.chorus_entry.specs.declared.dest.Dest.{Dest}
use Rattle.chorus_entry.specs.declared.entry.Entry.{Entry}
use Rattle.chorus_entry.specs.declared.id.MsgId.{MsgId}
use Rattle.chorus_entry.specs.declared.tag.Tag.{Tag}
use Rattle.chorus_entry.specs.declared.act.Act.{Act}
use Rattle.chorus_world.specs.declared.progress.Progress.{Progress}
use Rattle.chorus_world.specs.Always.{EachEntry}
use Rattle.chorus_world.specs.Steps.{is_legal}
use Rattle.chorus_world.specs.DecisionLaws.{AnswersNewer, ElsewhereNamesPath, IsPassed, StaleNamesLater}
use Rattle.chorus_world.proofs.Examples.Names.{actor, away, now, port, two_sites}

-- an entry of seat 1 at the second place, and the messages that it posts
abbrev there : ℕ → Act → Entry
there t a = record { clock = t; place = 2; seat = 1; act = a }

abbrev far : ℕ → MsgId
far n = record { seat = 1; number = n; copy = 0 }

abbrev far_copy : ℕ → MsgId
far_copy n = record { seat = 1; number = n; copy = 1 }

abbrev post : ℕ → Dest → Act
post n d = Act.Post (record { id = far n; tag = Tag.Plain; body = 7 ∷ [] }) d

-- the port leaves the first place for the second
abbrev left_behind : List Entry
left_behind = now 2 (Act.Depart port 2 away 1) ∷ now 1 (Act.Make port actor 2) ∷ []

-- where the second place tried a message at the first one
abbrev tried : List Entry
tried = there 2 (Act.Try (far 1) port 1 0) ∷ there 1 (post 1 (Dest.Port port)) ∷ left_behind

answers-stale : is_legal two_sites (now 3 (Act.Stale (far 1) port 0 2 1) ∷ tried) ≡ true
answers-stale = refl

passed : IsPassed two_sites tried (now 3 (Act.Early (far 1) port 1)) (far 1) port 0 2 1
passed = record { from = 2; is = refl; away = refl; known = refl; elsewhere = λ e. omega (arith, e); later = omega arith }

-- it does not answer so
not-newer : EachEntry (AnswersNewer two_sites) (now 3 (Act.Early (far 1) port 1) ∷ tried) → ⊥
not-newer h =
    let e : Act.Early (far 1) port 1 ≡ Act.Stale (far 1) port 0 2 1 = h [] tried (now 3 (Act.Early (far 1) port 1)) refl (far 1) port 0 2 1 refl refl passed in
    absurd (cc)

-- Stale that names the place that was tried
not-stale : EachEntry (StaleNamesLater two_sites) (now 3 (Act.Stale (far 1) port 0 1 1) ∷ tried) → ⊥
not-stale h = (h [] tried (now 3 (Act.Stale (far 1) port 0 1 1)) refl (far 1) port 0 1 1 refl).0.elsewhere refl

-- Stale to a message that was not tried
abbrev untried : List Entry
untried = there 1 (post 1 (Dest.Port port)) ∷ left_behind

not-tried : EachEntry (StaleNamesLater two_sites) (now 3 (Act.Stale (far 1) port 0 2 1) ∷ untried) → ⊥
not-tried h =
    let p = (h [] untried (now 3 (Act.Stale (far 1) port 0 2 1)) refl (far 1) port 0 2 1 refl).0 in
    let e : Progress.Idle ≡ Progress.Tried p.from port 1 0 = p.is in
    absurd (cc)

-- A group of the second site, whose member is the port, and two posts that ask for the first site.
abbrev group : Ui
group = record { site = 2; kind = kinds.Group; number = 1 }

abbrev asked : List Entry
asked =
    there 7 (Act.Choose (far 2) group (port ∷ []))
    ∷ there 6 (post 2 (Dest.OneAt group 1))
    ∷ there 5 (Act.Try (far_copy 1) port 1 0)
    ∷ there 4 (Act.Choose (far 1) group (port ∷ []))
    ∷ there 3 (post 1 (Dest.OneAt group 1))
    ∷ there 2 (Act.Join group port)
    ∷ there 1 (Act.GroupMake group)
    ∷ left_behind

-- the first copy is answered where it was tried, and the second one, which is then first, where it waits
answers-elsewhere : is_legal two_sites (there 9 (Act.Elsewhere (far_copy 2) port 2 1) ∷ there 8 (Act.Told (far_copy 1) (Answer.Elsewhere 2 1)) ∷ now 3 (Act.Elsewhere (far_copy 1) port 2 1) ∷ asked) ≡ true
answers-elsewhere = refl

-- the port has come to the second place, and the second copy is answered before the first one
abbrev arrived : List Entry
arrived = there 8 (Act.Arrive port 1) ∷ asked

not-elsewhere : EachEntry (ElsewhereNamesPath two_sites) (there 9 (Act.Elsewhere (far_copy 2) port 2 1) ∷ arrived) → ⊥
not-elsewhere h =
    elim (h [] arrived (there 9 (Act.Elsewhere (far_copy 2) port 2 1)) refl (far_copy 2) port 2 1 refl).3 [
      | inl off ↦ (let e : false ≡ true = off.first in false≢true e)
      | inr p ↦ (let e : Progress.Idle ≡ Progress.Tried p.1.from port 2 p.0 = p.1.is in absurd (cc))
    ]
