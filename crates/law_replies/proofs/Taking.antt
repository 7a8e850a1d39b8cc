-- What a take appends behind its Take, and how it tells whether a call was ended.
-- `rest` are the entries behind the Take, own is the Take, the newest stand first.
use Rattle.std.proofs.Common.{ℕ, ◌≡◌, ◌==◌, Bool, true, false, ◌&&◌, cond, List, [], ◌∷◌, ◌++◌, Option, Some, None, refl, sym, ◌∙◌, ap, inl, inr}
use Rattle.chorus_ui.specs.declared.ui.Ui.{Ui}
use Rattle.chorus_entry.specs.declared.entry.Entry.{Entry}
use Rattle.chorus_entry.specs.declared.id.MsgId.{MsgId}
use Rattle.chorus_entry.specs.declared.tag.Tag.{Tag}
use Rattle.chorus_entry.specs.declared.tag.Tag.TheVariants as tags
use Rattle.chorus_entry.specs.declared.act.Act.{Act}
use Rattle.chorus_entry.specs.declared.act.Act.TheVariants as acts
use Rattle.chorus_entry.specs.declared.record.PortRecord.{PortRecord}
use Rattle.chorus_calls.specs.declared.client.Settle.{Settle}
use Rattle.chorus_calls.specs.declared.client.Settle.TheVariants as settles
use Rattle.chorus_calls.specs.Clients.{is_outstanding, after_cancel}
use Rattle.chorus_calls.specs.Callers.{Seated, with_client}
use Rattle.law_machine.specs.PlaceState.{Turn, unchanged, say, note, next_entry}
use Rattle.law_machine.specs.Doing.{holding, ends}
use Rattle.law_machine.specs.Replies.{settling}
use Rattle.law_replies.specs.Replies.{Says, IsSettledAs}
use Rattle.law_replies.specs.Taking.{settled_acts, acts_of}
use Rattle.law_replies.proofs.Saying.{says-now, says-front, says-either, says-only, says-nothing}

-- behind the Take stands what ends the call, where a reply was taken
abbrev pub Ended : Act → Tag → Turn → Turn → Type 0
Ended a tag t u = (rest : List Entry) × ((u.place.journal ≡ rest ++ next_entry a t ∷ t.place.journal) × (acts_of rest ≡ settled_acts tag (settling tag t.caller)))

pub take-ends : (q : Ui) (position : ℕ) (x y : MsgId) (tag : Tag) (ports : List PortRecord) (t : Turn) →
    Ended (acts.Take q position x) tag t (ends tag (say (acts.Take q position x) (record (unchanged t) { caller = holding y tag t.caller; ports = ports }) t))
take-ends q position x y tags.Plain ports t = ([], (refl, refl))
take-ends q position x y (tags.Request number back) ports t = ([], (refl, refl))
take-ends q position x y (tags.Reply client number) ports t = by ((client == t.caller.seat) && is_outstanding number t.caller.client)
  where
    u : Turn
    u = say (acts.Take q position x) (record (unchanged t) { caller = t.caller; ports = ports }) t

    by : (b : Bool) → (rest : List Entry) × (((cond b (say (acts.Done number) (record (unchanged u) { caller = with_client u.caller (after_cancel u.caller.client) }) u) (note (acts.Late number) u)).place.journal ≡ rest ++ next_entry (acts.Take q position x) t ∷ t.place.journal)
        × (acts_of rest ≡ settled_acts (tags.Reply client number) (Some (cond b settles.Done settles.Late))))
    by true = (next_entry (acts.Done number) u ∷ [], (refl, refl))
    by false = (next_entry (acts.Late number) u ∷ [], (refl, refl))

-- Lists of no act and of one.

no-act : (rest : List Entry) → acts_of rest ≡ [] → (a : Act) → Says rest a → ⊥
no-act [] h a s = says-nothing a s
no-act (e ∷ rest) h a s = absurd (cc)

one-act : (rest : List Entry) (b : Act) → acts_of rest ≡ b ∷ [] → Says rest b × ((a : Act) → Says rest a → b ≡ a)
one-act [] b h = absurd (cc)
one-act (e ∷ []) b h = let same : e.act ≡ b = cc in (says-now e [] b same, λ a s. sym same ∙ says-only e a s)
one-act (e ∷ f ∷ rest) b h = absurd (cc)

-- whether an act ends a call, or tells that a reply came late
abbrev pub number_in : Act → Option Settle
number_in (acts.Done n) = Some settles.Done
number_in (acts.Late n) = Some settles.Late
number_in a = None

-- whether the call was ended is told by the entries, and they tell one thing
module _ (tag : Tag) (caller : Seated) (rest : List Entry) (own : Entry) (take : number_in own.act ≡ None) (is : acts_of rest ≡ settled_acts tag (settling tag caller)) where
  abbrev es : List Entry
  es = rest ++ own ∷ []

  abbrev IsTold : Tag → Option Settle → Type 0
  IsTold kind settled = IsSettledAs settled es × ((a : Act) (s : Settle) → number_in a ≡ Some s → Says es a → settled ≡ Some s)

  behind : (a : Act) (s : Settle) → number_in a ≡ Some s → Says es a → Says rest a
  behind a s n said =
      elim (says-either rest (own ∷ []) a said) [
        | inl front ↦ front
        | inr last ↦ absurd (let none : None ≡ Some s = sym take ∙ (ap number_in (says-only own a last) ∙ n) in cc)
      ]

  no-end : acts_of rest ≡ [] → IsSettledAs None es × ((a : Act) (s : Settle) → number_in a ≡ Some s → Says es a → None ≡ Some s)
  no-end e = (
    λ number. (λ said. no-act rest e (acts.Done number) (behind (acts.Done number) settles.Done refl said), λ said. no-act rest e (acts.Late number) (behind (acts.Late number) settles.Late refl said)),
    λ a s n said. absurd (no-act rest e a (behind a s n said)),
  )

  one-end : (b : Act) (settled : Settle) → number_in b ≡ Some settled → acts_of rest ≡ b ∷ [] → Says es b × ((a : Act) (s : Settle) → number_in a ≡ Some s → Says es a → Some settled ≡ Some s)
  one-end b settled n e =
      let one = one-act rest b e in
      (says-front rest (own ∷ []) b one.0, λ a s m said. sym n ∙ (ap number_in (one.1 a (behind a s m said)) ∙ m))

  pub told : IsSettledAs (settling tag caller) es × ((a : Act) (s : Settle) → number_in a ≡ Some s → Says es a → settling tag caller ≡ Some s)
  told = by tag is
    where
      ended : (client number : ℕ) (b : Bool) → acts_of rest ≡ settled_acts (tags.Reply client number) (Some (cond b settles.Done settles.Late)) → IsTold (tags.Reply client number) (Some (cond b settles.Done settles.Late))
      ended client number true e = let one = one-end (acts.Done number) settles.Done refl e in ((number, one.0), one.1)
      ended client number false e = let one = one-end (acts.Late number) settles.Late refl e in ((number, one.0), one.1)

      by : (kind : Tag) → acts_of rest ≡ settled_acts kind (settling kind caller) → IsTold kind (settling kind caller)
      by tags.Plain e = no-end e
      by (tags.Request number back) e = no-end e
      by (tags.Reply client number) e = ended client number ((client == caller.seat) && is_outstanding number caller.client) e

  pub settled-only : (settled : Option Settle) → IsSettledAs settled es → settling tag caller ≡ settled
  settled-only None h = by (settling tag caller) told.0
    where
      by : (o : Option Settle) → IsSettledAs o es → o ≡ None
      by None k = refl
      by (Some settles.Done) k = absurd ((h k.0).0 k.1)
      by (Some settles.Late) k = absurd ((h k.0).1 k.1)
  settled-only (Some settles.Done) h = told.1 (acts.Done h.0) settles.Done refl h.1
  settled-only (Some settles.Late) h = told.1 (acts.Late h.0) settles.Late refl h.1
