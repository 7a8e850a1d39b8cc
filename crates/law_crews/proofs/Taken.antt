-- What any crew took was posted, and stands at its position.
-- n is a nucleus, p the pass that closed it, c what was closed, q a port.
use Rattle.std.proofs.Common.{◌≡◌, inl, inr, List, [], ◌∷◌, ◌++◌, get_or, refl, sym, subst}
use Rattle.std.specs.List.{All}
use Rattle.std.proofs.lemmas.List.Elements.{All-nil, All-cons, All-weaker}
use Rattle.chorus_ui.specs.declared.ui.Ui.{Ui}
use Rattle.chorus_ui.specs.declared.layout.Layout.{Layout}
use Rattle.chorus_entry.specs.declared.act.Act.{Act}
use Rattle.law_history.specs.Runs.{actor_among}
use Rattle.law_replies.specs.Taking.{settled_acts}
use Rattle.law_closing.specs.Places.{PlaceNote}
use Rattle.chorus_turn.specs.declared.knowledge.Placed.{Placed}
use Rattle.chorus_turn.specs.declared.knowledge.Note.{Note}
use Rattle.chorus_turn.specs.declared.knowledge.Knowledge.{Knowledge}
use Rattle.chorus_net.specs.declared.closed.Closed.{Closed}
use Rattle.chorus_net.specs.Closing.{past_of}
use Rattle.chorus_nucleus.specs.declared.nucleus.Nucleus.{Nucleus}
use Rattle.chorus_nucleus.specs.declared.pass.Pass.{Pass}
use Rattle.chorus_nucleus.specs.declared.taken_message.TakenMessage.{TakenMessage}
use Rattle.chorus_nucleus.specs.Passes.{layout_of, known}
use Rattle.chorus_nucleus.specs.Closing.{IsClosed}
use Rattle.chorus_nucleus.specs.Runs.{IsARun}
use Rattle.chorus_nucleus.specs.Taking.{acts_made, HasOrigin}
use Rattle.chorus_nucleus.specs.Answers.{reply_with}
use Rattle.chorus_nucleus.proofs.Running.{a-closed-nucleus-is-a-run}
use Rattle.chorus_crew.specs.Handling.{AreGiven, took_acts}
use Rattle.chorus_crew.proofs.Draining.{given-later}
use Rattle.law_crews.specs.Taken.{CrewsTookWhatWasPosted, WasTaken}
use Rattle.law_crews.proofs.HandedOut.{has-position}
use Rattle.law_crews.proofs.Lists.{In, in-front, in-back, in-map-back}
use Rattle.law_crews.proofs.Passes.{contained-in, made-stands, stands-so}
use Rattle.chorus_nucleus.proofs.Posted.{messages-taken-were-posted}

-- an act of a take stands among the acts of takes
act-of : (q : Ui) (ts : List TakenMessage) → All (λ (t : TakenMessage). In (Act.Take q t.position t.message.id) (took_acts q ts)) ts
act-of q [] = All-nil (λ (t : TakenMessage). In (Act.Take q t.position t.message.id) [])
act-of q (t ∷ ts) =
    All-cons (λ (z : TakenMessage). In (Act.Take q z.position z.message.id) (took_acts q (t ∷ ts))) t ts (inl refl)
    (All-weaker (λ (z : TakenMessage). In (Act.Take q z.position z.message.id) (took_acts q ts)) (λ (z : TakenMessage). In (Act.Take q z.position z.message.id) (took_acts q (t ∷ ts)))
    (λ z there. inr (in-back (Act.Take q z.position z.message.id) (settled_acts t.message.tag t.settled) (took_acts q ts) there)) ts (act-of q ts))

module _ (n : Nucleus) (pass : Pass) (c : Closed) (h : IsClosed n pass c) where
  abbrev l : Layout
  l = layout_of n

  abbrev v : Knowledge PlaceNote
  v = known pass

  law : IsARun l v h.comers c
  law = a-closed-nucleus-is-a-run l v h.comers c h.shape h.closes

  -- one that it took
  was-taken : (note : Note PlaceNote) (q : Ui) (t : TakenMessage) → In note v.notes → In (Act.Take q t.position t.message.id) (acts_made note.mine) → HasOrigin l q (reply_with t) v → WasTaken (past_of c) note.seat q t
  was-taken note q t noted there origin =
      let m = in-map-back (λ (z : Placed PlaceNote). z.remarked.entry.act) (Act.Take q t.position t.message.id) note.mine there in
      let both = made-stands l v h.comers c h.shape h.closes note m.0 (inr noted) m.2 in
      record {
        entry = m.0.remarked.entry;
        stands = stands-so m.0.remarked.entry (past_of c) both.there;
        act = m.1;
        seat_is = both.seat_is;
        position = has-position l (actor_among h.comers) (past_of c) q t.position t.message.id m.0.remarked.entry h.shape law.run both.there m.1;
        posted = messages-taken-were-posted l v h.comers c q t.position t.message t.settled h.shape h.closes origin;
      }

  each-taken : (note : Note PlaceNote) (q : Ui) (took : List TakenMessage) (rest : List Act) → In note v.notes → acts_made note.mine ≡ took_acts q took ++ rest → AreGiven l q took v → All (WasTaken (past_of c) note.seat q) took
  each-taken note q took rest noted acts given k d lt =
      let t : TakenMessage = get_or took k d in
      let act : Act = Act.Take q t.position t.message.id in
      let there : In act (took_acts q took) = act-of q took k d lt in
      was-taken note q t noted (subst (λ zs. In act zs) (sym acts) (in-front act (took_acts q took) rest there)) (given k d lt)

pub crews-took-what-was-posted : CrewsTookWhatWasPosted
crews-took-what-was-posted n p closed v q m took rest is-closed more noted given acts =
    each-taken n p closed is-closed m q took rest (contained-in m (known p).notes noted) acts (given-later (layout_of n) q took v (known p) more given)
